-- Laws of one call of the receiver.
-- Assumes nothing.
use mathlib.Core.Path.{◌≡◌, refl, sym, ap, ap₂, ◌∙◌}
use mathlib.Core.Bool.{Bool, true, false}
use mathlib.Core.List.{List, [], ◌++◌, append-nil}
use Prim.Native.Nat.{ℕ, suc, ◌≤◌, ◌<◌}
use native.Mathlib.Omega.{arith}
use borrow.Author.Tests.{eq-eqb, ne_eqb, lt-ltb, le-ltb, ltb-true}
use lib.Dec.{ltb, eqb}
use lib.ListN.{length, get_or, drop, drop_of_length-le}
use Rattle.std.proofs.Common.{Some, Ok, Err}
use Rattle.common.specs.Choice.{pick}
use Rattle.common.specs.Lists.{largest}
use Rattle.common.proofs.Choice.{both_true}
use Rattle.answer.specs.Number.{number_of}
use Rattle.answer.specs.declared.Refusal.{Refusal}
use Rattle.answer.specs.declared.Refusal.TheVariants as answer
use Rattle.reed_solomon.specs.Code.{differ, differ_bits, changes, no_change}
use Rattle.reed_solomon.specs.Decode.{Decoded, changed_by}
use Rattle.reed_solomon.specs.Marks.{are_marks, DecodesMarked}
use Rattle.reed_solomon.specs.declared.Changed.{Changed}
use Rattle.reed_solomon.proofs.Codewords.{codeword_length}
use Rattle.reed_solomon.proofs.Laws.{FewChanges}
use Rattle.interleaver.specs.Branch as branch
use Rattle.interleaver.specs.Block.{branches_after}
use Rattle.interleaver.specs.declared.branches.Branches.{Branches}
use Rattle.interleaver.specs.declared.branches.Side.TheVariants.{Receiving}
use Rattle.interleaver.specs.declared.Deinterleaver.{Deinterleaver}
use Rattle.group_sync.specs.Group.{sync_in_range, group_step}
use Rattle.group_sync.specs.declared.GroupSync.{GroupSync}
use Rattle.group_sync.specs.declared.GroupStep.{GroupStep}
use Rattle.group_sync.proofs.Synchronization.{accepted_outcome}
use Rattle.reception_counts.specs.Counts.{counts_in_range, outcome_number, counted, CountsFit}
use Rattle.reception_counts.specs.declared.Counts.{Counts}
use Rattle.reception_counts.proofs.Ranges.{counts_range, counts_fit}
use Rattle.receiver.specs.Receive.{receiver_in_range, marks_in, delayed_block, delayed_marks, decoding_of, of_accepted, step_of, state_after, output_after, receive_refusal, Ready, receive_number, receive_state, receive_output, ReceivesMarked}
use Rattle.receiver.specs.declared.Receiver.{Receiver}

-- the parts of a state in range
pub record StateRange (s : Receiver) : Type 0 where
  pub branches : branch.branches_in_range Receiving s.deinterleaver.branches ≡ true
  pub marks : largest s.marks < 2
  pub sync : sync_in_range s.sync ≡ true
  pub counts : counts_in_range s.counts ≡ true

pub state_range : (s : Receiver) → receiver_in_range s ≡ true → StateRange s
unfolding receiver_in_range
state_range s e =
    let a = both_true _ _ e in
    let m = both_true _ _ a.1 in
    let b = both_true _ _ m.1 in
    record { branches = a.0; marks = ltb-true _ _ m.0; sync = b.0; counts = b.1 }

pub state_in_range : (s : Receiver) → StateRange s → receiver_in_range s ≡ true
unfolding receiver_in_range
state_in_range s r = simp (r.branches, lt-ltb _ _ r.marks, r.sync, r.counts)

-- the test of a state by its parts, where most is the largest of the marks in the delays
pub parts_range : (s : Receiver) (most : ℕ) (r : Bool) → most ≡ largest s.marks
    → r ≡ pick (branch.positions_within Receiving s.deinterleaver.branches.positions 12) (pick (ltb most 2) (pick (sync_in_range s.sync) (counts_in_range s.counts) false) false) false
    → r ≡ receiver_in_range s
unfolding receiver_in_range
parts_range s most r e f =
    f ∙ ap (λ (k : ℕ). pick (branch.positions_within Receiving s.deinterleaver.branches.positions 12) (pick (ltb k 2) (pick (sync_in_range s.sync) (counts_in_range s.counts) false) false) false) e

-- an accepted block is in the sums over the accepted blocks
accepted_whole : (s : GroupSync) (first n : ℕ) → sync_in_range s ≡ true → of_accepted (group_step s (Some first)).outcome n ≡ n
accepted_whole s first n h = accepted_outcome (λ o. of_accepted o n ≡ n) s first (λ p l. refl) refl refl h

-- a state by its parts
states : (g : GroupSync) {d : Deinterleaver} {k l : List ℕ} {n m : Counts} {b : Branches} → d.branches ≡ b → k ≡ l → n ≡ m
    → ◌≡◌ {A = Receiver} (record { deinterleaver = d; marks = k; sync = g; counts = n }) (record { deinterleaver = record { branches = b }; marks = l; sync = g; counts = m })
states g {d} {k} {l} {n} {m} {b} q j e =
    ap₂ (λ (x : Branches) (i : Counts). record { deinterleaver = record { branches = x }; marks = k; sync = g; counts = i }) q e
    ∙ ap (λ (x : List ℕ). record { deinterleaver = record { branches = b }; marks = x; sync = g; counts = m }) j

-- ---- a call that no test refuses

module _ (s : Receiver) (block marks output : List ℕ) (y : Ready s block marks output) where
  module _ (left : List ℕ) (decoded : Decoded) where
    pub ready_number : receive_number s block marks output left decoded ≡ outcome_number (step_of s left decoded).outcome
    ready_number = simp (y.range, eq-eqb _ _ y.size, y.marked, le-ltb _ _ y.enough, lt-ltb _ _ y.more)

    pub ready_state : receive_state s block marks output left decoded ≡ state_after s block marks left decoded
    ready_state = simp (y.range, eq-eqb _ _ y.size, y.marked, le-ltb _ _ y.enough, lt-ltb _ _ y.more)

    pub ready_output : receive_output s block marks output left decoded ≡ output_after (step_of s left decoded).outcome left output
    ready_output = simp (y.range, eq-eqb _ _ y.size, y.marked, le-ltb _ _ y.enough, lt-ltb _ _ y.more)

  pub ready_refusal : receive_refusal s block marks output ≡ 0
  ready_refusal = simp (y.range, eq-eqb _ _ y.size, y.marked, le-ltb _ _ y.enough, lt-ltb _ _ y.more)

  -- while filling, the same for all that decoding could leave and answer
  module _ (h : s.counts.taken < 11) (left : List ℕ) (decoded : Decoded) where
    pub filling_number : receive_number s block marks output left decoded ≡ 9
    filling_number = ready_number left decoded ∙ simp (lt-ltb _ _ h)

    pub filling_state : receive_state s block marks output left decoded
        ≡ record {
          deinterleaver = record { branches = branches_after Receiving s.deinterleaver.branches block };
          marks = (branches_after Receiving (marks_in s) marks).cells;
          sync = s.sync;
          counts = counted s.counts 9 0 0;
        }
    unfolding state_after
    filling_state = ready_state left decoded ∙ simp (lt-ltb _ _ h)

    pub filling_output : receive_output s block marks output left decoded ≡ output
    filling_output = ready_output left decoded ∙ simp (lt-ltb _ _ h)

  -- the call while filling
  pub filling_call : s.counts.taken < 11 → (d : Deinterleaver) (k : List ℕ) (n : Counts) (exit : List ℕ)
      → d.branches ≡ branches_after Receiving s.deinterleaver.branches block → k ≡ (branches_after Receiving (marks_in s) marks).cells
      → n ≡ counted s.counts 9 0 0 → exit ≡ output
      → ReceivesMarked s block marks output 9 (record { deinterleaver = d; marks = k; sync = s.sync; counts = n }) exit
  filling_call h d k n exit q j e w = record {
    left = [];
    decoded = Err answer.Uncorrectable;
    decodes = λ r l. absurd (omega arith);
    number = sym (filling_number h [] (Err answer.Uncorrectable));
    state = states s.sync q j e ∙ sym (filling_state h [] (Err answer.Uncorrectable));
    written = w ∙ sym (filling_output h [] (Err answer.Uncorrectable));
  }

  -- of each number of changes that decoding tells, the sum over the accepted blocks takes what differs
  pub changed_is : (f : Changed → ℕ) → f no_change ≡ 0 → (left : List ℕ) (decoded : Decoded) → DecodesMarked (delayed_marks s marks) (delayed_block s block) left decoded
      → f (changed_by decoded) ≡ of_accepted (group_step s.sync (decoding_of decoded (get_or left 0 0))).outcome (f (changes (delayed_block s block) left))
  changed_is f z left (Ok changed) d =
      ap f d.2.counted ∙ sym (accepted_whole s.sync (get_or left 0 0) (f (changes (delayed_block s block) left)) (state_range s y.range).sync)
  changed_is f z left (Err _) d = z

  -- the call after filling
  pub decoding_call : 11 ≤ s.counts.taken → (left : List ℕ) (decoded : Decoded) → DecodesMarked (delayed_marks s marks) (delayed_block s block) left decoded
      → (g : GroupStep) → g ≡ group_step s.sync (decoding_of decoded (get_or left 0 0))
      → (d : Deinterleaver) (k : List ℕ) (n : Counts) (exit : List ℕ)
      → d.branches ≡ branches_after Receiving s.deinterleaver.branches block
      → k ≡ (branches_after Receiving (marks_in s) marks).cells
      → n ≡ counted s.counts (outcome_number g.outcome) (changed_by decoded).bytes (changed_by decoded).bits
      → exit ≡ output_after g.outcome left output
      → ReceivesMarked s block marks output (outcome_number g.outcome) (record { deinterleaver = d; marks = k; sync = g.sync; counts = n }) exit
  unfolding state_after
  decoding_call h left decoded c g i d k n exit q j e w =
      let o : step_of s left decoded ≡ g = simp (le-ltb _ _ h) (sym i) in
      record {
        left = left;
        decoded = decoded;
        decodes = λ r l. c;
        number = sym (ready_number left decoded ∙ ap (λ (x : GroupStep). outcome_number x.outcome) o);
        state = states g.sync q j (e ∙ changed) ∙ sym (ready_state left decoded ∙ ap whole o);
        written = w ∙ sym (ready_output left decoded ∙ ap (λ (x : GroupStep). output_after x.outcome left output) o);
      }
    where
      whole : GroupStep → Receiver
      whole x = record {
        deinterleaver = record { branches = branches_after Receiving s.deinterleaver.branches block };
        marks = (branches_after Receiving (marks_in s) marks).cells;
        sync = x.sync;
        counts =
            counted s.counts (outcome_number x.outcome)
            (of_accepted x.outcome (differ (delayed_block s block) left)) (of_accepted x.outcome (differ_bits (delayed_block s block) left));
      }

      sums : (f : Changed → ℕ) → f no_change ≡ 0 → f (changed_by decoded) ≡ of_accepted g.outcome (f (changes (delayed_block s block) left))
      sums f z =
          changed_is f z left decoded c ∙ ap (λ (x : GroupStep). of_accepted x.outcome (f (changes (delayed_block s block) left))) (sym i)

      changed : counted s.counts (outcome_number g.outcome) (changed_by decoded).bytes (changed_by decoded).bits
          ≡ counted s.counts (outcome_number g.outcome)
          (of_accepted g.outcome (differ (delayed_block s block) left)) (of_accepted g.outcome (differ_bits (delayed_block s block) left))
      changed = ap₂ (counted s.counts (outcome_number g.outcome)) (sums (λ x. x.bytes) refl) (sums (λ x. x.bits) refl)

  -- ---- the parts of the work

  -- there is room for the block in the counts
  pub output_for_lem : (changed : Changed) → FewChanges changed → CountsFit s.counts changed.bytes changed.bits
  output_for_lem changed f =
      counts_fit s.counts changed.bytes changed.bits (counts_range s.counts (state_range s y.range).counts) y.more f.few f.most

-- an output that is filled whole
pub output_filled : (l output exit : List ℕ) → length output ≡ 204 → exit ≡ l ++ drop 204 output → exit ≡ l
output_filled l output exit n e = e ∙ ap (λ (x : List ℕ). l ++ x) (drop_of_length-le output {i = 204} (omega arith)) ∙ append-nil l

-- decoding keeps the length
pub left_length : (marks came left : List ℕ) (decoded : Decoded) → DecodesMarked marks came left decoded → length came ≡ 204 → length left ≡ 204
left_length marks came left (Ok changed) d n = codeword_length left d.2.codeword
left_length marks came left (Err answer.Uncorrectable) d n = ap length d.2.unchanged ∙ n
left_length marks came left (Err answer.BlockLength) d n = absurd (d.0 n)
left_length marks came left (Err answer.MarkValue) d n = ap length d.2 ∙ n
left_length marks came left (Err _) d n = absurd d

-- ---- a call that is refused

module _ (s : Receiver) (block marks output : List ℕ) where
  refused_call : (a : Refusal) (n : ℕ) → number_of a ≡ suc n → receive_refusal s block marks output ≡ suc n
      → ReceivesMarked s block marks output (number_of a) s output
  refused_call a n m e =
      let z = ne_eqb (suc n) 0 (λ h. omega arith) in
      record { left = []; decoded = Err answer.Uncorrectable; decodes = λ r l. absurd (omega (arith, e)); number = m ∙ simp (e, z); state = simp (e, z); written = simp (e, z) }

  pub refused_range : receiver_in_range s ≡ false → ReceivesMarked s block marks output (number_of answer.StateRange) s output
  refused_range r = refused_call answer.StateRange 4 refl (simp r)

  module _ (r : receiver_in_range s ≡ true) where
    pub refused_length : eqb (length block) 204 ≡ false → ReceivesMarked s block marks output (number_of answer.BlockLength) s output
    refused_length l = refused_call answer.BlockLength 2 refl (simp (r, l))

    module _ (l : eqb (length block) 204 ≡ true) where
      pub refused_marks : are_marks marks ≡ false → ReceivesMarked s block marks output (number_of answer.MarkValue) s output
      refused_marks m = refused_call answer.MarkValue 19 refl (simp (r, l, m))

      module _ (m : are_marks marks ≡ true) where
        pub refused_output : ltb (length output) 188 ≡ true → ReceivesMarked s block marks output (number_of answer.OutputLength) s output
        refused_output o = refused_call answer.OutputLength 3 refl (simp (r, l, m, o))

        pub refused_full : ltb (length output) 188 ≡ false → ltb s.counts.taken 4294967295 ≡ false
            → ReceivesMarked s block marks output (number_of answer.CountsFull) s output
        refused_full o t = refused_call answer.CountsFull 6 refl (simp (r, l, m, o, t))
