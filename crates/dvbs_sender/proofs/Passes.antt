-- Packets sent through the bytes of a state are sent as by the sender itself: the same symbols, and bytes that stand for the same sender.
-- Assumes nothing.
use mathlib.Core.Path.{◌≡◌, subst}
use mathlib.Core.Bool.{true}
use mathlib.Core.List.{List}
use Prim.Native.Nat.{ℕ, ◌≤◌}
use native.Mathlib.Omega.{arith}
use lib.ListN.{length, get_or}
use Rattle.common.specs.Lists.{All}
use Rattle.state_bytes.proofs.Calls.{own_call}
use Rattle.puncturing.specs.Mode.{mode_of}
use Rattle.inner_code.proofs.Coder.{in_range_by_lem}
use Rattle.sender.specs.Standard.{on_air}
use Rattle.sender.specs.Input.{Input, packets_for}
use Rattle.sender.specs.Send.{fresh_sender, sent_count}
use Rattle.sender.specs.Calls as own
use Rattle.sender.specs.Calls.{SendCalls, sender_of}
use Rattle.sender.specs.declared.Sender.{Sender}
use Rattle.sender.proofs.Counts.{most_symbols}
use Rattle.sender.proofs.History.{sent_on_air}
use Rattle.dvbs_sender.specs.State.{state_bytes, StandsFor}
use Rattle.dvbs_sender.specs.Pass.{SenderPass, none, call}
use Rattle.dvbs_sender.proofs.States.{reads, stands_fresh, range_of}

-- calls of the sender with these inputs and symbols, and a sender after them for which these bytes stand
pub record AsCalled (s : Sender) (inputs : List (List ℕ)) (symbols bytes : List ℕ) : Type 0 where
  pub last : Sender
  pub calls : SendCalls mode_of s inputs symbols last
  pub stands : StandsFor bytes last

pub pass_called : {state last : List ℕ} {inputs : List (List ℕ)} {symbols : List ℕ} (s : Sender) → StandsFor state s → SenderPass state inputs symbols last
    → AsCalled s inputs symbols last
pass_called s h none = record { last = s; calls = own.none; stands = h }
pass_called s h (call input output answer r after exit told one room d rest) =
    let o = own_call reads s h one d in
    let w = pass_called o.next o.stands rest in
    let most = most_symbols s.coder (in_range_by_lem (mode_of s.coder.rate) s.coder (range_of _ s h).coder) in
    let enough : sent_count mode_of s ≤ length output = omega arith in
    record { last = w.last; calls = own.call output exit (get_or told 0 0) r enough o.own w.calls; stands = w.stands }

-- Demand 2, sending, through the bytes of a state: begun with a fresh state in a mode that is sent, the symbols are the standard's for the list of inputs with
-- null packets put in, and the bytes stand for the sender that has sent it.
pub pass_on_air : (mode : ℕ) → (mode_of mode).sent ≡ true → {inputs : List (List ℕ)} {symbols last : List ℕ} → All Input inputs
    → SenderPass (state_bytes (fresh_sender mode)) inputs symbols last
    → (symbols ≡ on_air (mode_of mode) (packets_for inputs)) × StandsFor last (sender_of mode_of mode (packets_for inputs))
pass_on_air mode q {last = last} ps p =
    let w = pass_called (fresh_sender mode) (stands_fresh mode q) p in
    let a = sent_on_air mode q ps w.calls in
    (a.0, subst (StandsFor last) a.1 w.stands)
