-- Block p of a recording is the very block that a fresh receiver corrects at its call p + 12, the first being call 1.
-- Assumes nothing.
use mathlib.Core.Path.{◌≡◌, refl, sym, ap, ap₂, subst, ◌∙◌}
use mathlib.Core.Bool.{false}
use mathlib.Core.List.{List, [], ◌∷◌, ◌++◌, append_assoc, append-nil, flatten}
use Prim.Native.Nat.{ℕ, ◌+◌, ◌≤◌}
use Prim.{tt}
use native.Mathlib.Omega.{arith}
use Rattle.std.proofs.Common.{Ok, Err}
use borrow.Author.Tests.{le-ltb}
use lib.Dec.{eqb}
use lib.ListN.{length, get_or, length-append}
use Rattle.common.specs.Lists.{All, Length}
use Rattle.answer.specs.Number.{answered}
use Rattle.answer.specs.declared.Refusal.TheVariants.{Uncorrectable, BlockLength}
use Rattle.reed_solomon.specs.Code.{changes, no_change}
use Rattle.reed_solomon.specs.Decode.{Decoded, Decodes, changed_by}
use Rattle.reed_solomon.specs.Marks.{no_marks, DecodesMarked}
use Rattle.reed_solomon.specs.declared.Changed.{Changed}
use Rattle.reed_solomon.proofs.Laws.{unique}
use Rattle.interleaver.specs.Block as block
use Rattle.interleaver.specs.Block.{fresh, block_out}
use Rattle.interleaver.specs.declared.branches.Side.{Side}
use Rattle.interleaver.specs.declared.branches.Side.TheVariants.{Receiving}
use Rattle.interleaver.specs.declared.branches.Branches.{Branches}
use Rattle.interleaver.proofs.Blocks.{length_out}
use Rattle.interleaver.specs.Stream.{run, run_after}
use Rattle.interleaver.specs.Gathered.{gathered}
use Rattle.interleaver.proofs.BlockLists.{length-flatten, flatten_join}
use Rattle.interleaver.proofs.Gathering.{gathered_front, run_gathered}
use Rattle.group_sync.specs.Group.{group_step}
use Rattle.group_sync.specs.declared.Outcome.{Outcome}
use Rattle.group_sync.proofs.Synchronization.{accepted_outcome}
use Rattle.reception_counts.specs.Counts.{outcome_number}
use Rattle.receiver.specs.Receive.{fresh_receiver, NoMarks, delayed_block, delayed_marks, decoding_of, of_accepted, step_of, state_after, Ready, Receives}
use Rattle.receiver.specs.Run.{Call, after_call, after_calls, lent_blocks, Plain}
use Rattle.receiver.specs.declared.Receiver.{Receiver}
use Rattle.receiver.proofs.Calls.{state_range, ready_number, ready_state, ready_refusal, changed_is}
use Rattle.receiver.proofs.Outcomes.{Unrefused, next_unrefused, branches_after_lem, taken_after, unmarked_after}
use Rattle.receiver.proofs.MarkDelays.{none_decodes}
use Rattle.receiver.proofs.Reception.{blocks_count}
use Rattle.recording.specs.Block.{block_refusal, output_with, GivesBlock, block_refused, block_decoded}

-- the branches after calls that are not refused
branches_calls : (cs : List Call) (s : Receiver) → Unrefused s cs
    → (after_calls s cs).deinterleaver.branches ≡ run_after Receiving s.deinterleaver.branches (lent_blocks cs)
unfolding run_after
branches_calls [] s u = refl
branches_calls (c ∷ cs) s u =
    branches_calls cs (after_call s c) (next_unrefused s c cs u) ∙ ap (λ (b : Branches). run_after Receiving b (lent_blocks cs)) (branches_after_lem s c cs u)

-- and as many blocks taken as there were calls
unmarked_calls : (cs : List Call) (s : Receiver) → Unrefused s cs → NoMarks s → All Plain cs → NoMarks (after_calls s cs)
unmarked_calls [] s u z pl = z
unmarked_calls (c ∷ cs) s u z pl = unmarked_calls cs (after_call s c) (next_unrefused s c cs u) (unmarked_after s c cs u z pl.0) pl.1

taken_calls : (cs : List Call) (s : Receiver) → Unrefused s cs → (after_calls s cs).counts.taken ≡ s.counts.taken + length cs
taken_calls [] s u = omega arith
taken_calls (c ∷ cs) s u = omega (arith, taken_calls cs (after_call s c) (next_unrefused s c cs u), taken_after s c cs u)

-- one block more
run_last : (side : Side) (s : Branches) (bs : List (List ℕ)) (b : List ℕ) → get_or (run side s (bs ++ b ∷ [])) (length bs) [] ≡ block_out side (run_after side s bs) b
unfolding run run_after
run_last side s [] b = refl
run_last side s (x ∷ bs) b = run_last side (block.branches_after side s x) bs b

all_last : (bs : List (List ℕ)) (b : List ℕ) → All (Length 204) bs → length b ≡ 204 → All (Length 204) (bs ++ b ∷ [])
all_last [] b g h = (h, tt)
all_last (x ∷ bs) b g h = (g.0, all_last bs b g.1 h)

-- The calls before call p + 12, and its block. The recording begins with their blocks.
module _ (p : ℕ) (before : List Call) (u : Unrefused fresh_receiver before) (pl : All Plain before) (n : length before ≡ p + 11) (came : List ℕ) (z : length came ≡ 204) (rest : List ℕ) where
  abbrev recorded : List ℕ
  recorded = flatten (lent_blocks before) ++ (came ++ rest)

  whole : List (List ℕ)
  whole = lent_blocks before ++ came ∷ []

  sizes : All (Length 204) whole
  unfolding whole
  sizes = all_last (lent_blocks before) came u.sizes z

  count : length whole ≡ p + 12
  unfolding whole
  count = length-append (lent_blocks before) (came ∷ []) ∙ omega (arith, blocks_count before, n)

  front : flatten whole ++ rest ≡ recorded
  unfolding whole flatten
  front =
      ap (λ (x : List ℕ). x ++ rest) (flatten_join (lent_blocks before) (came ∷ []) ∙ ap (λ (x : List ℕ). flatten (lent_blocks before) ++ x) (append-nil came))
      ∙ append_assoc (flatten (lent_blocks before)) came rest

  -- the block that the call corrects
  call_gathered : delayed_block (after_calls fresh_receiver before) came ≡ gathered recorded p
  unfolding fresh_receiver whole
  call_gathered =
      let m : length (lent_blocks before) ≡ p + 11 = blocks_count before ∙ n in
      ap (λ (x : Branches). block_out Receiving x came) (branches_calls before fresh_receiver u)
      ∙ sym (run_last Receiving fresh (lent_blocks before) came)
      ∙ ap (λ (i : ℕ). get_or (run Receiving fresh whole) i []) m
      ∙ run_gathered whole sizes p (omega (arith, count))
      ∙ sym (gathered_front (flatten whole) rest p (omega (arith, length-flatten 204 whole sizes, count)))
      ∙ ap (λ (x : List ℕ). gathered x p) front

  -- The call, where no test refuses it.
  module _ (lent exit' : List ℕ) (number : ℕ) (next : Receiver) (v : Receives (after_calls fresh_receiver before) came lent number next exit')
      (y : Ready (after_calls fresh_receiver before) came no_marks lent) where
    past : Receiver
    past = after_calls fresh_receiver before

    full : 11 ≤ past.counts.taken
    unfolding past fresh_receiver
    full = omega (arith, taken_calls before fresh_receiver u, n)

    decodes : DecodesMarked (delayed_marks past no_marks) (delayed_block past came) v.left v.decoded
    unfolding past
    decodes = v.decodes (ready_refusal past came no_marks lent y) full

    -- no mark is in the delays, so that it is decoded as without marks
    plain : Decodes (delayed_block past came) v.left v.decoded
    unfolding past fresh_receiver
    plain = none_decodes past (delayed_block past came) v.left v.decoded (unmarked_calls before fresh_receiver u refl pl) decodes

    gathers : delayed_block past came ≡ gathered recorded p
    unfolding past
    gathers = call_gathered

    -- so the block, the counts and the answer are those of that call's decoding
    pub as_receiver : (blocks : ℕ) (output : List ℕ) (r : Decoded) (exit : List ℕ) → block_refusal recorded blocks p output ≡ 0 → GivesBlock recorded blocks p output r exit
        → (answered r ≡ answered v.decoded) × (changed_by r ≡ changed_by v.decoded) × (exit ≡ output_with v.decoded v.left output)
    as_receiver blocks output r exit e (block_refused h n c w) = absurd (omega arith)
    as_receiver blocks output r exit e (block_decoded left f d w) =
        let q = unique (gathered recorded p) left v.left r v.decoded d (subst (λ (x : List ℕ). Decodes x v.left v.decoded) gathers plain) in (
          ap answered q.answer,
          ap changed_by q.answer,
          w ∙ ap₂ (λ (x : Decoded) (y : List ℕ). output_with x y output) q.answer q.block,
        )

    outcome : Decoded → Outcome
    unfolding past
    outcome decoded = (group_step past.sync (decoding_of decoded (get_or v.left 0 0))).outcome

    stepped : (step_of past v.left v.decoded).outcome ≡ outcome v.decoded
    unfolding past outcome
    stepped = simp (le-ltb _ _ full)

    number_is : number ≡ outcome_number (outcome v.decoded)
    unfolding past
    number_is = v.number ∙ ready_number past came no_marks lent y v.left v.decoded ∙ ap outcome_number stepped

    -- a block that is accepted is not answered 8, and one that is not accepted is
    lost_or_not : (decoded : Decoded) → Decodes (delayed_block past came) v.left decoded
        → eqb (outcome_number (outcome decoded)) 8 ≡ eqb (answered decoded) 8
    unfolding past outcome
    lost_or_not (Ok changed) d =
        accepted_outcome (λ o. eqb (outcome_number o) 8 ≡ false) past.sync (get_or v.left 0 0) (λ q l. refl) refl refl (state_range past y.range).sync
    lost_or_not (Err Uncorrectable) d = refl
    lost_or_not (Err BlockLength) d = absurd (d.0 (length_out Receiving past.deinterleaver.branches came))
    lost_or_not (Err _) d = absurd d

    -- What the call shows of it: it is answered 8 where the block is, and its sums of changed bytes and bits grow by the block's.
    module _ (blocks : ℕ) (output : List ℕ) (r : Decoded) (exit : List ℕ) (e : block_refusal recorded blocks p output ≡ 0) (g : GivesBlock recorded blocks p output r exit) where
      pub lost_as_received : eqb (answered r) 8 ≡ eqb (number) 8
      unfolding past
      lost_as_received =
          ap (λ (k : ℕ). eqb k 8) (as_receiver blocks output r exit e g).0
          ∙ sym (ap (λ (k : ℕ). eqb k 8) number_is ∙ lost_or_not v.decoded plain)

      -- of each number of changes, what the call adds to its sum is the block's
      added : (f : Changed → ℕ) → f no_change ≡ 0
          → of_accepted (step_of past v.left v.decoded).outcome (f (changes (delayed_block past came) v.left)) ≡ f (changed_by r)
      unfolding past outcome
      added f z =
          ap (λ (o : Outcome). of_accepted o (f (changes (delayed_block past came) v.left))) stepped
          ∙ sym (changed_is past came no_marks lent y f z v.left v.decoded decodes)
          ∙ sym (ap f (as_receiver blocks output r exit e g).1)

      pub changed_as_received : (next.counts.changed ≡ (after_calls fresh_receiver before).counts.changed + (changed_by r).bytes)
          × (next.counts.bits ≡ (after_calls fresh_receiver before).counts.bits + (changed_by r).bits)
      unfolding past state_after
      changed_as_received =
          let s = v.state ∙ ready_state past came no_marks lent y v.left v.decoded in (
            ap (λ (x : Receiver). x.counts.changed) s ∙ ap (λ (k : ℕ). past.counts.changed + k) (added (λ x. x.bytes) refl),
            ap (λ (x : Receiver). x.counts.bits) s ∙ ap (λ (k : ℕ). past.counts.bits + k) (added (λ x. x.bits) refl),
          )
