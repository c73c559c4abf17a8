-- A sender whose arrays are whole and whose numbers are in range: a fresh one is, and it stays so.
-- Assumes nothing.
use mathlib.Core.Path.{◌≡◌, ap, sym, subst, ◌∙◌}
use mathlib.Core.Bool.{true}
use mathlib.Core.List.{List}
use Prim.Native.Nat.{ℕ, ◌≤◌}
use native.Mathlib.Omega.{arith}
use Rattle.interleaver.specs.declared.branches.Side.TheVariants.{Sending}
use Rattle.interleaver.proofs.Blocks.{Good, good_after}
use Rattle.interleaver.proofs.Whole.{good_fresh}
use Rattle.puncturing.specs.Mode.{Mode}
use Rattle.puncturing.specs.WellFormed.{WellFormed}
use Rattle.inner_code.specs.Converter.{encoded_bits}
use Rattle.inner_code.specs.Step.{InRangeBy}
use Rattle.inner_code.proofs.Converter.{encoded_bits_lem}
use Rattle.inner_code.proofs.Coder as range
use Rattle.sender.specs.Send.{fresh_sender, coded_packet, sent_block, sender_after, is_sent}
use Rattle.sender.specs.declared.Sender.{Sender}
use Rattle.sender.proofs.Stages.{InRange}

pub record Ready (t : ℕ → Mode) (s : Sender) : Type 0 where
  pub place : s.place ≤ 7
  pub branches : Good Sending s.interleaver.branches
  pub formed : WellFormed (t s.coder.rate)
  pub sent : is_sent t s ≡ true
  pub coder : InRangeBy (t s.coder.rate) s.coder

pub ready_range : {t : ℕ → Mode} (s : Sender) → Ready t s → InRange t s
ready_range {t} s g = record { place = g.place; branches = g.branches.range; coder = range.range_test_by (t s.coder.rate) s.coder g.coder }

pub ready_fresh : {t : ℕ → Mode} (rate : ℕ) → WellFormed (t rate) → (t rate).sent ≡ true → Ready t (fresh_sender rate)
unfolding fresh_sender
ready_fresh rate w q = record { place = omega arith; branches = good_fresh Sending; formed = w; sent = q; coder = range.fresh_in_range_by w rate }

pub rate_after : (t : ℕ → Mode) (s : Sender) (packet : List ℕ) → (sender_after t s packet).coder.rate ≡ s.coder.rate
unfolding sender_after
rate_after t s packet = let m = t s.coder.rate in range.coder_rate_by m s.coder (encoded_bits m (sent_block s packet))

pub ready_after : {t : ℕ → Mode} (s : Sender) (packet : List ℕ) → Ready t s → Ready t (sender_after t s packet)
unfolding sender_after
ready_after {t} s packet g =
    let e = sym (rate_after t s packet) in
    let m = t s.coder.rate in
    record {
      place = omega arith;
      branches = good_after Sending s.interleaver.branches (coded_packet s packet) g.branches;
      formed = subst (λ (r : ℕ). WellFormed (t r)) e g.formed;
      sent = ap (λ (r : ℕ). (t r).sent) (rate_after t s packet) ∙ g.sent;
      coder = subst (λ (r : ℕ). InRangeBy (t r) (sender_after t s packet).coder) e (range.coder_in_range_by g.formed s.coder g.coder (encoded_bits_lem m (sent_block s packet)));
    }
