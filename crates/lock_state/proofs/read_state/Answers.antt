-- `lock_state::read_state` meets its contract.
-- Assumes nothing.
use mathlib.Core.Path.{◌≡◌, ap, ◌∙◌}
use mathlib.Core.Bool.{false}
use Prim.Native.Nat.{ℕ, ◌+◌, ◌≤◌}
use native.Mathlib.Omega.{arith}
use lib.ListN.{length, take, drop, length-drop}
use lib.Seq.{length-take-le}
use Rattle.acquisition.specs.declared.Acquisition.{Acquisition}
use Rattle.acquisition_state.specs.Reading.{state_of as acquired}
use Rattle.lock_state.specs.State.{certainty_of}
use Rattle.lock_state.specs.Reading.{state_of}
use borrow.Author.Rules.{rules}
use Rattle.lock_state.proofs.read_state.Goals as goal

pub returns : goal.returns
unfolding state_of acquired
returns c =
    let bytes = c.args.bytes.now in
    let part : (size at : ℕ) → at + size ≤ 15121 → length (take size (drop at bytes)) ≡ size = λ size at h. length-take-le size (drop at bytes) (omega (arith, length-drop at bytes, c.requires)) in
    let certain = c.certainty_of-certainty.ensures ∙ ap certainty_of c.plain_of.ensures in (
      λ i. record {
        source = record { bits = false; symbols = c.read_state-symbols.ensures i };
        progress =
            record {
              found = c.low_of.ensures i;
              locked = c.high_of.ensures i;
              receiver = record { receiver = c.read_state-blocks.ensures i; certainty = certain i; packets = c.array_at-packets.ensures i };
              skipped = c.number_at-skipped.ensures i;
              end = c.number_at-end.ensures i;
            };
      },
      record {
        pending = ap (λ (a : Acquisition). length a.pending) c.read_state-symbols.ensures ∙ part 1632 2322 (omega arith);
        pairs = ap (λ (a : Acquisition). length a.reading.runs.held) c.read_state-symbols.ensures ∙ part 1632 3954 (omega arith);
        bits = ap (λ (a : Acquisition). length a.reading.sync.bits) c.read_state-symbols.ensures ∙ part 8168 5586 (omega arith);
        packets = search rules;
        skipped = search rules;
        end = search rules;
      },
    )
