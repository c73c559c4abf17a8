-- `dvbs_bridge::dvbs_bridge_take` meets its contract.
-- Assumes nothing.
use mathlib.Core.Path.{sym, subst, subst₂}
use mathlib.Core.List.{List}
use Prim.Native.Nat.{ℕ}
use Rattle.answer.specs.Number.{number_of}
use Rattle.reception_counts.specs.Counts.{outcome_number}
use Rattle.receiver.specs.Receive.{Receives}
use Rattle.receiver.specs.declared.Receiver.{Receiver}
use Rattle.dvbs_bridge.specs.Calls.{BridgeTakes}
use Rattle.dvbs_bridge.proofs.Takes.{refused_takes, taken_takes}
use Rattle.dvbs_bridge.proofs.dvbs_bridge_take.Goals as goal

pub returns-in-Ok : goal.returns-in-Ok
returns-in-Ok c =
    let a = c.args in
    let outcome = c.in-Ok.outcome in
    let next = c.receive.new.receiver in
    subst₂ (λ (n : ℕ) (after : List ℕ). BridgeTakes a.state.now a.block.now a.output.now n after c.receive.new.output) (sym c.outcome_number.ensures) (sym c.write_state.ensures)
    (taken_takes a.state.now a.block.now a.output.now c.if-state-ne-STATE_LENGTH.false (λ i. (c.slice_known-1.given i).fits) c.receive.new.output outcome next
    (subst (λ (s : Receiver). Receives s a.block.now a.output.now (outcome_number outcome) next c.receive.new.output) c.read_state-receiver.ensures c.in-Ok.ensures.receives))

pub returns-in-Err : goal.returns-in-Err
returns-in-Err c =
    let a = c.args in
    let n = number_of c.in-Err.refusal in
    subst (λ (n : ℕ). BridgeTakes a.state.now a.block.now a.output.now n a.state.now c.receive.new.output) (sym c.number-in-Err.ensures)
    (refused_takes a.state.now a.block.now a.output.now c.if-state-ne-STATE_LENGTH.false (λ i. (c.slice_known-1.given i).fits) c.receive.new.output n
    (subst (λ (s : Receiver). Receives s a.block.now a.output.now n s c.receive.new.output) c.read_state-receiver.ensures
    (subst (λ (next : Receiver). Receives c.read_state-receiver.result a.block.now a.output.now n next c.receive.new.output) c.in-Err.ensures.refused c.in-Err.ensures.receives)))
