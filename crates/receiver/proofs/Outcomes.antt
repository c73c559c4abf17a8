-- Calls that no test refuses come to what group synchronization makes of them, after eleven that are filling.
-- Assumes nothing.
use mathlib.Core.Path.{◌≡◌, refl, sym, ap, ap₂, ◌∙◌, subst}
use mathlib.Core.Bool.{true}
use mathlib.Core.List.{List, [], ◌∷◌, ◌++◌}
use Prim.Native.Nat.{ℕ, zero, suc, ◌+◌, ◌≤◌}
use Prim.{tt}
use native.Mathlib.Omega.{arith}
use borrow.Author.Tests.{lt-ltb, le-ltb}
use lib.Dec.{eqb}
use lib.ListN.{length, get_or, take, drop, length-drop, length-replicate}
use lib.Seq.{take_at, take-nil, length-take-le}
use Rattle.common.specs.Choice.{pick}
use Rattle.common.specs.Lists.{All, Length}
use Rattle.common.proofs.Lists.{All-map}
use Rattle.reed_solomon.specs.Marks.{are_marks}
use Rattle.reed_solomon.proofs.Marks.{are_marks_none}
use Rattle.randomizer.specs.Packet.{randomized, derandomized}
use Rattle.randomizer.proofs.Laws.{length_randomized}
use Rattle.interleaver.specs.Branch.{laid}
use Rattle.interleaver.specs.Block as block
use Rattle.interleaver.specs.declared.branches.Side.TheVariants.{Receiving}
use Rattle.interleaver.proofs.Blocks.{length_out}
use Rattle.group_sync.specs.Group.{group_step, PlaceOf}
use Rattle.group_sync.specs.Stream.{outcomes}
use Rattle.group_sync.specs.declared.Outcome.{Outcome}
use Rattle.group_sync.specs.declared.Outcome.TheVariants.{Filling, Delivered, Lost, Waiting, OutOfStep}
use Rattle.group_sync.specs.declared.GroupSync.{GroupSync}
use Rattle.group_sync.specs.declared.GroupStep.{GroupStep}
use Rattle.group_sync.proofs.Synchronization.{outcome_place}
use Rattle.reception_counts.specs.Counts.{outcome_number}
use Rattle.receiver.specs.Receive.{NoMarks, delayed_block, delayed_marks, decoding_of, step_of, state_after, output_after, Ready}
use Rattle.receiver.specs.Run.{Call, answer_of, after_call, output_of, DecodedCalls, packets_given, lent_blocks, Plain, OutputFits}
use Rattle.receiver.specs.Begun.{decodings, packet_of, ComeTo, filled_first}
use Rattle.receiver.specs.declared.Receiver.{Receiver}
use Rattle.receiver.proofs.Calls.{ready_number, ready_state, ready_output, left_length}
use Rattle.receiver.proofs.MarkDelays.{none_stays}
use Rattle.receiver.proofs.Reached.{Sound, sound_range, sound_call}

-- ---- calls that no test refuses

pub record Unrefused (s : Receiver) (cs : List Call) : Type 0 where
  pub sound : Sound s
  pub most : s.counts.taken + length cs ≤ 4294967295
  pub sizes : All (Length 204) (lent_blocks cs)
  pub marked : All (λ c. are_marks c.marks ≡ true) cs
  pub outputs : All OutputFits cs
  pub decodes : DecodedCalls s cs

-- calls in which no mark comes are such
pub plain_marked : (cs : List Call) → All Plain cs → All (λ c. are_marks c.marks ≡ true) cs
plain_marked cs pl = All-map Plain (λ c. are_marks c.marks ≡ true) (λ c e. ap are_marks e ∙ are_marks_none) cs pl

-- the first of them
module _ (s : Receiver) (c : Call) (cs : List Call) (u : Unrefused s (c ∷ cs)) where
  first_ready : Ready s c.block c.marks c.output
  first_ready = record { range = sound_range s u.sound; size = u.sizes.0; marked = u.marked.0; enough = u.outputs.0; more = let m = u.most in omega arith }

  state_is : after_call s c ≡ state_after s c.block c.marks c.left c.decoded
  state_is = ready_state s c.block c.marks c.output first_ready c.left c.decoded

  pub branches_after_lem : (after_call s c).deinterleaver.branches ≡ block.branches_after Receiving s.deinterleaver.branches c.block
  unfolding state_after
  branches_after_lem = ap (λ (r : Receiver). r.deinterleaver.branches) state_is

  pub taken_after : (after_call s c).counts.taken ≡ s.counts.taken + 1
  unfolding state_after
  taken_after = ap (λ (r : Receiver). r.counts.taken) state_is

  -- without a mark it stays without one
  pub unmarked_after : NoMarks s → Plain c → NoMarks (after_call s c)
  unfolding state_after
  unmarked_after z p =
      let positions = s.deinterleaver.branches.positions in
      ap (λ (r : Receiver). r.marks) state_is
      ∙ ap₂ (λ (k m : List ℕ). (block.branches_after Receiving (laid k positions) m).cells) z p
      ∙ none_stays positions (record { cells = length-replicate {A = ℕ} 1122 0; positions = u.sound.branches.positions; range = u.sound.branches.range })

  -- and the others
  pub next_unrefused : Unrefused (after_call s c) cs
  next_unrefused = record {
    sound = sound_call s c u.sound u.decodes.0;
    most = let m = u.most in omega (arith, taken_after);
    sizes = u.sizes.1;
    marked = u.marked.1;
    outputs = u.outputs.1;
    decodes = u.decodes.1;
  }

  module _ (g : GroupStep) (o : step_of s c.left c.decoded ≡ g) where
    answer_is : answer_of s c ≡ outcome_number g.outcome
    answer_is = ready_number s c.block c.marks c.output first_ready c.left c.decoded ∙ ap (λ (x : GroupStep). outcome_number x.outcome) o

    sync_after : (after_call s c).sync ≡ g.sync
    unfolding state_after
    sync_after = ap (λ (r : Receiver). r.sync) state_is ∙ ap (λ (x : GroupStep). x.sync) o

    output_is : output_of s c ≡ output_after g.outcome c.left c.output
    output_is =
        ready_output s c.block c.marks c.output first_ready c.left c.decoded ∙ ap (λ (x : GroupStep). output_after x.outcome c.left c.output) o

-- ---- the packet that a call gives

pub packet_length : (place : ℕ) (left : List ℕ) → place ≤ 7 → length left ≡ 204 → length (derandomized place (take 188 left)) ≡ 188
unfolding derandomized
packet_length place left h n =
    let p = take 188 left in
    omega (arith, length-drop 1 (randomized place p), length_randomized place p h (length-take-le 188 left (omega arith)))

outcome_packet : (o : Outcome) (left output : List ℕ) → PlaceOf o → length left ≡ 204
    → pick (eqb (outcome_number o) 0) (take 188 (output_after o left output) ∷ []) [] ≡ packet_of o left
outcome_packet Filling left output h n = refl
outcome_packet (Delivered place) left output h n =
    ap (λ (p : List ℕ). p ∷ []) (take_at (derandomized place (take 188 left)) _ 188 (packet_length place left h n))
outcome_packet Lost left output h n = refl
outcome_packet Waiting left output h n = refl
outcome_packet OutOfStep left output h n = refl

-- one call comes to an outcome, and those after it to theirs
one_more : (s : Receiver) (c : Call) (cs : List Call) → Unrefused s (c ∷ cs) → (g : GroupStep) → step_of s c.left c.decoded ≡ g → PlaceOf g.outcome
    → (os : List Outcome) → ComeTo (after_call s c) cs os → ComeTo s (c ∷ cs) (g.outcome ∷ os)
one_more s c cs u g o h os r = record {
  answered = ap₂ (λ (x : ℕ) (xs : List ℕ). x ∷ xs) (answer_is s c cs u g o) r.answered;
  given =
      ap₂ (λ (k : ℕ) (x : List ℕ). pick (eqb k 0) (take 188 x ∷ []) [] ++ packets_given (after_call s c) cs) (answer_is s c cs u g o) (output_is s c cs u g o)
      ∙ ap₂ (λ (x y : List (List ℕ)). x ++ y) (outcome_packet g.outcome c.left c.output h size) r.given;
}
  where
    size : length c.left ≡ 204
    size =
        left_length (delayed_marks s c.marks) (delayed_block s c.block) c.left c.decoded u.decodes.0 (length_out Receiving s.deinterleaver.branches c.block)

-- ---- after filling

pub come_to : (cs : List Call) (s : Receiver) → Unrefused s cs → 11 ≤ s.counts.taken → ComeTo s cs (outcomes s.sync (decodings cs))
come_to [] s u h = record { answered = refl; given = refl }
come_to (c ∷ cs) s u h =
    let g = group_step s.sync (decoding_of c.decoded (get_or c.left 0 0)) in
    let o : step_of s c.left c.decoded ≡ g = simp (le-ltb _ _ h) in
    let r = come_to cs (after_call s c) (next_unrefused s c cs u) (omega (arith, taken_after s c cs u)) in
    one_more s c cs u g o (outcome_place s.sync (decoding_of c.decoded (get_or c.left 0 0)) u.sound.sync) (outcomes g.sync (decodings cs))
    (subst (λ (x : GroupSync). ComeTo (after_call s c) cs (outcomes x (decodings cs))) (sync_after s c cs u g o) r)

-- k more blocks until the branches are full
pub filled_come_to : (k : ℕ) (cs : List Call) (s : Receiver) → Unrefused s cs → s.counts.taken + k ≡ 11
    → ComeTo s cs (filled_first k cs (outcomes s.sync (decodings (drop k cs))))
filled_come_to zero cs s u h =
    subst (λ (x : List Outcome). ComeTo s cs (x ++ outcomes s.sync (decodings cs))) (sym (take-nil (length cs))) (come_to cs s u (omega arith))
filled_come_to (suc k) [] s u h = record { answered = refl; given = refl }
filled_come_to (suc k) (c ∷ cs) s u h =
    let g : GroupStep = record { outcome = Filling; sync = s.sync } in
    let o : step_of s c.left c.decoded ≡ g = simp (lt-ltb s.counts.taken 11 (omega arith)) in
    let r = filled_come_to k cs (after_call s c) (next_unrefused s c cs u) (omega (arith, taken_after s c cs u)) in
    one_more s c cs u g o tt (filled_first k cs (outcomes s.sync (decodings (drop k cs))))
    (subst (λ (x : GroupSync). ComeTo (after_call s c) cs (filled_first k cs (outcomes x (decodings (drop k cs))))) (sync_after s c cs u g o) r)
