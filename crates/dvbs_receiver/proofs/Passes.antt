-- Pieces fed through the bytes of a state are taken as by the receiver itself: the same packets, bytes that stand for the same receiver, and its report.
-- Assumes nothing.
use mathlib.Core.List.{List}
use Prim.Native.Nat.{ℕ, ◌≤◌}
use lib.ListN.{length, get_or}
use Rattle.state_bytes.proofs.Calls.{own_call}
use Rattle.report.specs.Text.{text_number, WritesText}
use Rattle.receiver_stream.specs.Feed.{fresh_receiver_stream}
use Rattle.receiver_stream.specs.History as own
use Rattle.receiver_stream.specs.History.{ReceiverFeedings, Reception}
use Rattle.receiver_stream.specs.Reporting.{PassReport}
use Rattle.receiver_stream.specs.declared.ReceiverStream.{ReceiverStream}
use Rattle.receiver_stream.proofs.Histories.{every_history}
use Rattle.dvbs_receiver.specs.State.{state_bytes, StandsFor}
use Rattle.dvbs_receiver.specs.Calls.{ReportsState}
use Rattle.dvbs_receiver.specs.Pass.{ReceiverPass, none, call}
use Rattle.dvbs_receiver.proofs.States.{reads, stands_fresh}

-- a history of the receiver's own calls with these bytes, marks and packets, and a receiver after them for which these bytes stand
pub record AsFed (i : ReceiverStream) (came marks written state : List ℕ) : Type 0 where
  pub last : ReceiverStream
  pub feedings : ReceiverFeedings i came marks written last
  pub stands : StandsFor state last

pub pass_fed : {state last came marks written : List ℕ} (i : ReceiverStream) → StandsFor state i → ReceiverPass state came marks written last
    → AsFed i came marks written last
pass_fed i h none = record { last = i; feedings = own.none; stands = h }
pass_fed i h (call piece each output answer r after exit told one d rest) =
    let o = own_call reads i h one d in
    let w = pass_fed o.next o.stands rest in
    record { last = w.last; feedings = own.feeding piece each output exit (get_or told 0 0) r o.own w.feedings; stands = w.stands }

-- what bytes that came through the bytes of a state come to, whatever pieces they came in, and a receiver with it for which the bytes stand
pub record Received (came marks written state : List ℕ) : Type 0 where
  pub last : ReceiverStream
  pub reception : Reception came marks written last
  pub stands : StandsFor state last

-- begun with a fresh state, all the bytes are received as one recording
pub pass_received : {came marks written last : List ℕ} → ReceiverPass (state_bytes fresh_receiver_stream) came marks written last → Received came marks written last
pass_received p =
    let w = pass_fed fresh_receiver_stream stands_fresh p in
    record { last = w.last; reception = every_history w.feedings; stands = w.stands }

-- and the report is the one on them
pub pass_reported : {came marks written last : List ℕ} → ReceiverPass (state_bytes fresh_receiver_stream) came marks written last
    → (output answer : List ℕ) (r : ℕ) (exit told : List ℕ) → 1 ≤ length answer → ReportsState last output answer r exit told
    → (text : List ℕ) → PassReport came marks text → WritesText (text_number text output) text output (get_or told 0 0) r exit
pass_reported {came} {marks} {written} p output answer r exit told one s text t =
    let w = pass_received p in
    let o = own_call reads w.last w.stands one s in
    o.own.1.whole came marks written text w.reception t
