-- `dvbs_bridge::dvbs_bridge_count` meets its contract.
-- Assumes nothing.
use mathlib.Core.Path.{◌≡◌, refl, sym, ap, ◌∙◌}
use mathlib.Core.List.{List, ◌++◌}
use Prim.Native.Nat.{ℕ, ◌+◌, ◌*◌}
use native.Mathlib.Omega.{arith}
use lib.ListN.{drop}
use Rattle.state_bytes.proofs.Copies.{front}
use Rattle.state_bytes.proofs.States.{stands_read, none_stands}
use Rattle.receiver.specs.Receive.{receiver_in_range}
use Rattle.receiver_state.specs.State.{StandsFor}
use Rattle.receiver_state.specs.Reading.{state_of}
use Rattle.dvbs_bridge.specs.Calls.{none_read, short, counted}
use Rattle.receiver_state.proofs.States.{reads, count_held}
use Rattle.dvbs_bridge.proofs.dvbs_bridge_count.Goals as goal

pub returns-then-not-in_range : goal.returns-then-not-in_range
returns-then-not-in_range c =
    let ranged : receiver_in_range (state_of c.args.state.now) ≡ c.in_range.result = ap receiver_in_range (sym c.read_state.ensures) ∙ sym c.in_range.ensures in
    none_read c.if-state-ne-STATE_LENGTH.false c.if-number-gt7.false
    (none_stands reads c.args.state.now (ranged ∙ c.if-not-in_range.true))
    c.number-then-not-in_range.ensures refl

pub returns-then-output-lt8 : goal.returns-then-output-lt8
returns-then-output-lt8 c =
    let ranged : receiver_in_range (state_of c.args.state.now) ≡ c.in_range.result = ap receiver_in_range (sym c.read_state.ensures) ∙ sym c.in_range.ensures in
    let standing : let a = c.args in StandsFor a.state.now (state_of a.state.now) = let a = c.args in
    stands_read reads a.state.now c.if-state-ne-STATE_LENGTH.false (λ i. (c.shared_slice_known-1.given i).fits)
    (ranged ∙ c.if-not-in_range.false) in
    short _ (standing) c.if-number-gt7.false c.if-output-lt8.true c.number-then-output-lt8.ensures refl

pub returns : goal.returns
returns c =
    let ranged : receiver_in_range (state_of c.args.state.now) ≡ c.in_range.result = ap receiver_in_range (sym c.read_state.ensures) ∙ sym c.in_range.ensures in
    let standing : let a = c.args in StandsFor a.state.now (state_of a.state.now) = let a = c.args in
    stands_read reads a.state.now c.if-state-ne-STATE_LENGTH.false (λ i. (c.shared_slice_known-1.given i).fits)
    (ranged ∙ c.if-not-in_range.false) in
    let a = c.args in
    let h = standing in
    let s = state_of a.state.now in
    let k = c.if-number-gt7.false in
    counted s h k c.if-output-lt8.false refl
    (c.put.ensures
    ∙ front a.state.now a.output.now (1136 + 8 * a.number) (1136 + 8 * a.number + 8) 8 refl (omega arith)
    ∙ ap (λ (l : List ℕ). l ++ drop 8 a.output.now) (count_held a.state.now s h a.number (omega arith)))
