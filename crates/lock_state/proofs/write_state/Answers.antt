-- `lock_state::write_state` meets its contract.
-- Assumes nothing.
use mathlib.Core.Path.{ap, subst, sym, ◌∙◌}
use Prim.Native.Nat.{ℕ, ◌<◌, ◌≤◌}
use native.Mathlib.Omega.{arith}
use Rattle.acquisition_state.specs.State.{flags_byte}
use Rattle.losses.specs.Watch.{waiting_of}
use Rattle.losses.specs.declared.Certainty.{Certainty}
use Rattle.losses.specs.declared.Certainty.TheVariants.{Sure, Unsure}
use Rattle.lock_state.specs.State.{code_of}
use Rattle.lock_state.proofs.Table.{fields_put}
use Rattle.lock_state.proofs.write_state.Goals as goal

few : (k : Certainty) → waiting_of k ≤ 7 → code_of k < 64
few Sure h = omega arith
few (Unsure n) h = omega arith

pub flags_byte-requires : goal.flags_byte-requires
flags_byte-requires c = subst (λ (k : ℕ). k < 64) (sym c.code_of.ensures) (few c.args.stream.progress.receiver.certainty c.requires.1)

pub returns : goal.returns
returns c = (
  fields_put c.args.stream c.write_blocks.new.bytes c.write_state.new.bytes c.cleared_packets-packets.result c.put_fields.new.bytes c.flags_byte.result c.write_blocks.ensures.0 c.write_state.ensures (c.flags_byte.ensures ∙ ap (λ (k : ℕ). flags_byte k c.args.stream.progress.found c.args.stream.progress.locked) c.code_of.ensures) c.cleared_packets-packets.ensures.0 c.put_fields.ensures,
  record { blocks = c.write_blocks.ensures.1; packets = c.cleared_packets-packets.ensures.1; skipped = omega (arith, c.well_formed); end = omega (arith, c.well_formed) },
)
