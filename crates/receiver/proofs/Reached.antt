-- Every state reached from the fresh one is within its ranges.
-- Assumes nothing.
use mathlib.Core.Path.{◌≡◌, refl, sym, subst, ◌∙◌}
use mathlib.Core.Bool.{Bool, true, false}
use mathlib.Core.List.{List, [], ◌∷◌}
use mathlib.Core.Logic.{◌⊎◌, inl, inr}
use Prim.Native.Nat.{ℕ, ◌+◌, ◌≤◌, ◌<◌}
use native.Mathlib.Decide.{dec_lt, ℕ_discrete}
use native.Mathlib.Omega.{arith}
use borrow.Author.Tests.{eq-eqb, ne_eqb, lt-ltb, le-ltb}
use lib.Dec.{eqb, ltb}
use lib.ListN.{length, get_or, length-replicate}
use Rattle.std.proofs.Common.{Result, Ok, Err}
use Rattle.common.specs.Choice.{pick, indicator}
use Rattle.common.specs.Lists.{largest}
use Rattle.common.proofs.Largest.{largest_zeros}
use Rattle.answer.specs.Number.{number_of, given_or}
use Rattle.answer.specs.declared.Refusal.{Refusal}
use Rattle.answer.specs.declared.Refusal.TheVariants as answer
use Rattle.reed_solomon.specs.Code.{differ, differ_bits}
use Rattle.reed_solomon.specs.Decode.{Decoded, changed_by}
use Rattle.reed_solomon.specs.Marks.{are_marks, DecodesMarked}
use Rattle.reed_solomon.proofs.Marks.{marks_of_lem}
use Rattle.reed_solomon.proofs.Laws.{few_changes, total}
use Rattle.interleaver.specs.declared.branches.Side.TheVariants.{Receiving}
use Rattle.interleaver.proofs.Blocks.{Good, good_after}
use Rattle.interleaver.proofs.Whole.{good_fresh}
use Rattle.interleaver.specs.Block.{branches_after}
use Rattle.group_sync.specs.Group.{sync_in_range, group_step}
use Rattle.group_sync.proofs.Synchronization.{accepted_outcome, sync_in_range_lem}
use Rattle.group_sync.specs.declared.GroupSync.{GroupSync}
use Rattle.group_sync.specs.declared.Outcome.TheVariants.{Filling}
use Rattle.reception_counts.specs.Counts.{outcome_number, counted}
use Rattle.reception_counts.proofs.Ranges.{CountsRange, counts_in_range_lem, filling_range, lost_range, accepted_range}
use Rattle.reception_counts.specs.declared.Counts.{Counts}
use Rattle.receiver.specs.Receive.{fresh_receiver, receiver_in_range, marks_in, delayed_block, delayed_marks, decoding_of, of_accepted, step_of, state_after, output_after, receive_refusal, Ready, receive_number, receive_state, receive_output, ReceivesMarked, received_number}
use Rattle.receiver.specs.Run.{Call, after_call, DecodedCalls, after_calls}
use Rattle.receiver.specs.declared.Receiver.{Receiver}
use Rattle.receiver.specs.declared.Received.{Received}
use Rattle.receiver.proofs.Calls.{state_in_range, ready_state, ready_refusal, filling_number, filling_state, filling_output, filling_call, decoding_call, refused_range, refused_length, refused_marks, refused_output, refused_full}
use Rattle.receiver.proofs.MarkDelays.{stay_marks}

-- what every reached state has
pub record Sound (s : Receiver) : Type 0 where
  pub branches : Good Receiving s.deinterleaver.branches
  pub marks : length s.marks ≡ 1122
  pub small : largest s.marks < 2
  pub sync : sync_in_range s.sync ≡ true
  pub counts : CountsRange s.counts

pub sound_range : (s : Receiver) → Sound s → receiver_in_range s ≡ true
sound_range s g = state_in_range s (record { branches = g.branches.range; marks = g.small; sync = g.sync; counts = counts_in_range_lem s.counts g.counts })

pub sound_fresh : Sound fresh_receiver
unfolding fresh_receiver
sound_fresh = record {
  branches = good_fresh Receiving;
  marks = length-replicate {A = ℕ} 1122 0;
  small = omega (arith, largest_zeros 1122);
  sync = refl;
  counts = record { most = omega arith; middle = refl; filled = refl; bytes = omega arith; least = omega arith; eightfold = omega arith };
}

-- ---- a call is refused, or none of its tests refuses it

pub record Refused (s : Receiver) (block marks output : List ℕ) : Type 0 where
  pub some : 0 < receive_refusal s block marks output
  pub apart : (receive_refusal s block marks output < 8) ⊎ (11 < receive_refusal s block marks output)

pub ready_or_refused : (s : Receiver) (block marks output : List ℕ) → Ready s block marks output ⊎ Refused s block marks output
ready_or_refused s block marks output = range (receiver_in_range s) refl
  where
    range : (t : Bool) → receiver_in_range s ≡ t → Ready s block marks output ⊎ Refused s block marks output
    range false e = inr (record { some = simp e (omega arith); apart = simp e (inl (omega arith)) })
    range true e = size (ℕ_discrete (length block) 204)
      where
        more : length block ≡ 204 → are_marks marks ≡ true → 188 ≤ length output → Dec (s.counts.taken < 4294967295) → Ready s block marks output ⊎ Refused s block marks output
        more n m l (yes h) = inl (record { range = e; size = n; marked = m; enough = l; more = h })
        more n m l (no h) =
            let k : 4294967295 ≤ s.counts.taken = omega arith in
            inr (record {
              some = simp (e, eq-eqb _ _ n, m, le-ltb _ _ l, le-ltb _ _ k) (omega arith);
              apart = simp (e, eq-eqb _ _ n, m, le-ltb _ _ l, le-ltb _ _ k) (inl (omega arith));
            })

        enough : length block ≡ 204 → are_marks marks ≡ true → Dec (length output < 188) → Ready s block marks output ⊎ Refused s block marks output
        enough n m (yes h) =
            inr (record { some = simp (e, eq-eqb _ _ n, m, lt-ltb _ _ h) (omega arith); apart = simp (e, eq-eqb _ _ n, m, lt-ltb _ _ h) (inl (omega arith)) })
        enough n m (no h) = more n m (omega arith) (dec_lt s.counts.taken 4294967295)

        marked : length block ≡ 204 → (t : Bool) → are_marks marks ≡ t → Ready s block marks output ⊎ Refused s block marks output
        marked n false m = inr (record { some = simp (e, eq-eqb _ _ n, m) (omega arith); apart = simp (e, eq-eqb _ _ n, m) (inr (omega arith)) })
        marked n true m = enough n m (dec_lt (length output) 188)

        size : Dec (length block ≡ 204) → Ready s block marks output ⊎ Refused s block marks output
        size (yes n) = marked n (are_marks marks) refl
        size (no n) = inr (record { some = simp (e, ne_eqb _ _ n) (omega arith); apart = simp (e, ne_eqb _ _ n) (inl (omega arith)) })

unpicked : {A : Type 0} (n : ℕ) (a b : A) → 0 < n → pick (eqb n 0) a b ≡ b
unpicked n a b h = simp (ne_eqb n 0 (λ e. omega arith))

module _ (s : Receiver) (block marks output left : List ℕ) (decoded : Decoded) (f : Refused s block marks output) where
  pub refused_number : receive_number s block marks output left decoded ≡ receive_refusal s block marks output
  refused_number = unpicked (receive_refusal s block marks output) (outcome_number (step_of s left decoded).outcome) (receive_refusal s block marks output) f.some

  pub refused_state : receive_state s block marks output left decoded ≡ s
  refused_state = unpicked (receive_refusal s block marks output) (state_after s block marks left decoded) s f.some

  pub refused_written : receive_output s block marks output left decoded ≡ output
  refused_written = unpicked (receive_refusal s block marks output) (output_after (step_of s left decoded).outcome left output) output f.some

-- ---- a call with what its block decodes to

pub record CallDecoded (s : Receiver) (block marks output : List ℕ) (answer : ℕ) (next : Receiver) (exit : List ℕ) : Type 0 where
  pub left : List ℕ
  pub decoded : Decoded
  pub decodes : DecodesMarked (delayed_marks s marks) (delayed_block s block) left decoded
  pub number : answer ≡ receive_number s block marks output left decoded
  pub state : next ≡ receive_state s block marks output left decoded
  pub written : exit ≡ receive_output s block marks output left decoded

-- Every call has one, also where nothing is decoded: decoding is total, and the call is then the same for all that it could leave and answer.
pub call_decoded : {s : Receiver} {block marks output : List ℕ} {answer : ℕ} {next : Receiver} {exit : List ℕ} → ReceivesMarked s block marks output answer next exit
    → CallDecoded s block marks output answer next exit
call_decoded {s} {block} {marks} {output} {answer} {next} {exit} m = by (ready_or_refused s block marks output)
  where
    by : Ready s block marks output ⊎ Refused s block marks output → CallDecoded s block marks output answer next exit
    by (inl y) = full (dec_lt s.counts.taken 11)
      where
        full : Dec (s.counts.taken < 11) → CallDecoded s block marks output answer next exit
        full (yes h) =
            let t = total (delayed_marks s marks) (delayed_block s block) in
            record {
              left = t.left;
              decoded = t.answer;
              decodes = t.decodes;
              number = m.number ∙ filling_number s block marks output y h m.left m.decoded ∙ sym (filling_number s block marks output y h t.left t.answer);
              state = m.state ∙ filling_state s block marks output y h m.left m.decoded ∙ sym (filling_state s block marks output y h t.left t.answer);
              written = m.written ∙ filling_output s block marks output y h m.left m.decoded ∙ sym (filling_output s block marks output y h t.left t.answer);
            }
        full (no h) = record {
          left = m.left;
          decoded = m.decoded;
          decodes = m.decodes (ready_refusal s block marks output y) (omega arith);
          number = m.number;
          state = m.state;
          written = m.written;
        }
    by (inr f) =
        let t = total (delayed_marks s marks) (delayed_block s block) in
        record {
          left = t.left;
          decoded = t.answer;
          decodes = t.decodes;
          number = m.number ∙ refused_number s block marks output m.left m.decoded f ∙ sym (refused_number s block marks output t.left t.answer f);
          state = m.state ∙ refused_state s block marks output m.left m.decoded f ∙ sym (refused_state s block marks output t.left t.answer f);
          written = m.written ∙ refused_written s block marks output m.left m.decoded f ∙ sym (refused_written s block marks output t.left t.answer f);
        }

-- ---- every call has an answer

pub record Called (s : Receiver) (block marks output : List ℕ) : Type 0 where
  pub result : Result Received Refusal
  pub exit : List ℕ
  pub receives : ReceivesMarked s block marks output (received_number result) (given_or s (λ r. r.receiver) result) exit

module _ (s : Receiver) (block marks output : List ℕ) where
  abbrev after_block : GroupSync → Counts → Receiver
  after_block sync counts = record {
    deinterleaver = record { branches = branches_after Receiving s.deinterleaver.branches block };
    marks = (branches_after Receiving (marks_in s) marks).cells;
    sync = sync;
    counts = counts;
  }

  ready_called : Ready s block marks output → Called s block marks output
  ready_called y = by (dec_lt s.counts.taken 11)
    where
      by : Dec (s.counts.taken < 11) → Called s block marks output
      by (yes h) = record {
        result = Ok (record { outcome = Filling; receiver = after_block s.sync (counted s.counts 9 0 0) });
        exit = output;
        receives =
            filling_call s block marks output y h (after_block s.sync (counted s.counts 9 0 0)).deinterleaver
            (after_block s.sync (counted s.counts 9 0 0)).marks (counted s.counts 9 0 0) output refl refl refl refl;
      }
      by (no h) =
          let t = total (delayed_marks s marks) (delayed_block s block) in
          let g = group_step s.sync (decoding_of t.answer (get_or t.left 0 0)) in
          let n = counted s.counts (outcome_number g.outcome) (changed_by t.answer).bytes (changed_by t.answer).bits in
          record {
            result = Ok (record { outcome = g.outcome; receiver = after_block g.sync n });
            exit = output_after g.outcome t.left output;
            receives =
                decoding_call s block marks output y (omega arith) t.left t.answer t.decodes g refl (after_block g.sync n).deinterleaver
                (after_block g.sync n).marks n (output_after g.outcome t.left output) refl refl refl refl;
          }

  called : (refusal : Refusal) → ReceivesMarked s block marks output (number_of refusal) s output → Called s block marks output
  called refusal v = record { result = Err refusal; exit = output; receives = v }

  pub call_exists : Called s block marks output
  call_exists = range (receiver_in_range s) refl
    where
      range : (t : Bool) → receiver_in_range s ≡ t → Called s block marks output
      range false r = called answer.StateRange (refused_range s block marks output r)
      range true r = size (eqb (length block) 204) refl
        where
          size : (t : Bool) → eqb (length block) 204 ≡ t → Called s block marks output
          size false l = called answer.BlockLength (refused_length s block marks output r l)
          size true l = marked (are_marks marks) refl
            where
              marked : (t : Bool) → are_marks marks ≡ t → Called s block marks output
              marked false m = called answer.MarkValue (refused_marks s block marks output r l m)
              marked true m = room (ltb (length output) 188) refl
                where
                  room : (t : Bool) → ltb (length output) 188 ≡ t → Called s block marks output
                  room true o = called answer.OutputLength (refused_output s block marks output r l m o)
                  room false o = more (ltb s.counts.taken 4294967295) refl
                    where
                      more : (t : Bool) → ltb s.counts.taken 4294967295 ≡ t → Called s block marks output
                      more false e = called answer.CountsFull (refused_full s block marks output r l m o e)
                      more true e = ready (ready_or_refused s block marks output)
                        where
                          none : receive_refusal s block marks output ≡ 0
                          none = simp (r, l, m, o, e)

                          ready : Ready s block marks output ⊎ Refused s block marks output → Called s block marks output
                          ready (inl y) = ready_called y
                          ready (inr f) = absurd (omega (arith, f.some, none))

-- ---- a block taken keeps a state sound

-- the marks lie in the delays as the bytes do
sound_marks : (s : Receiver) → Sound s → Good Receiving (marks_in s)
sound_marks s g = record { cells = g.marks; positions = g.branches.positions; range = g.branches.range }

module _ (s : Receiver) (block marks left : List ℕ) (decoded : Decoded) (g : Sound s) (m : are_marks marks ≡ true) (l : s.counts.taken < 4294967295)
    (d : DecodesMarked (delayed_marks s marks) (delayed_block s block) left decoded) where
  counts_after : 11 ≤ s.counts.taken → (decoded : Decoded) → DecodesMarked (delayed_marks s marks) (delayed_block s block) left decoded
      → CountsRange (counted s.counts (outcome_number (group_step s.sync (decoding_of decoded (get_or left 0 0))).outcome)
      (of_accepted (group_step s.sync (decoding_of decoded (get_or left 0 0))).outcome (differ (delayed_block s block) left))
      (of_accepted (group_step s.sync (decoding_of decoded (get_or left 0 0))).outcome (differ_bits (delayed_block s block) left)))
  counts_after h (Ok changed) d =
      accepted_outcome
      (λ o. CountsRange (counted s.counts (outcome_number o)
      (of_accepted o (differ (delayed_block s block) left)) (of_accepted o (differ_bits (delayed_block s block) left))))
      s.sync (get_or left 0 0) (λ p m. more 0 refl refl refl) (more 10 refl refl refl) (more 11 refl refl refl) g.sync
    where
      more : (number : ℕ) → indicator (eqb number 9) ≡ 0 → indicator (eqb number 8) ≡ 0 → indicator (eqb number 0) + indicator (eqb number 10) + indicator (eqb number 11) ≡ 1
          → CountsRange (counted s.counts number (differ (delayed_block s block) left) (differ_bits (delayed_block s block) left))
      more number =
          let w = few_changes (delayed_marks s marks) (delayed_block s block) left (Ok changed) d in
          accepted_range s.counts number (differ (delayed_block s block) left) (differ_bits (delayed_block s block) left) g.counts h l w.few w.least w.most
  counts_after h (Err _) d = lost_range s.counts g.counts h l

  sound_after : Sound (state_after s block marks left decoded)
  unfolding state_after
  sound_after = by (dec_lt s.counts.taken 11)
    where
      by : Dec (s.counts.taken < 11) → Sound (state_after s block marks left decoded)
      by (yes h) = record {
        branches = good_after Receiving s.deinterleaver.branches block g.branches;
        marks = (good_after Receiving (marks_in s) marks (sound_marks s g)).cells;
        small = stay_marks (marks_in s) marks g.small (marks_of_lem marks m);
        sync = simp (lt-ltb _ _ h) g.sync;
        counts = simp (lt-ltb _ _ h) (filling_range s.counts g.counts h);
      }
      by (no h) =
          let k : 11 ≤ s.counts.taken = omega arith in
          record {
            branches = good_after Receiving s.deinterleaver.branches block g.branches;
            marks = (good_after Receiving (marks_in s) marks (sound_marks s g)).cells;
            small = stay_marks (marks_in s) marks g.small (marks_of_lem marks m);
            sync = simp (le-ltb _ _ k) (sync_in_range_lem s.sync (decoding_of decoded (get_or left 0 0)) g.sync);
            counts = simp (le-ltb _ _ k) (counts_after k decoded d);
          }

pub sound_call : (s : Receiver) (c : Call) → Sound s → DecodesMarked (delayed_marks s c.marks) (delayed_block s c.block) c.left c.decoded → Sound (after_call s c)
sound_call s c g d = by (ready_or_refused s c.block c.marks c.output)
  where
    by : Ready s c.block c.marks c.output ⊎ Refused s c.block c.marks c.output → Sound (after_call s c)
    by (inl y) =
        subst Sound (sym (ready_state s c.block c.marks c.output y c.left c.decoded)) (sound_after s c.block c.marks c.left c.decoded g y.marked y.more d)
    by (inr f) = subst Sound (sym (refused_state s c.block c.marks c.output c.left c.decoded f)) g

sound_calls : (s : Receiver) (cs : List Call) → Sound s → DecodedCalls s cs → Sound (after_calls s cs)
sound_calls s [] g d = g
sound_calls s (c ∷ cs) g d = sound_calls (after_call s c) cs (sound_call s c g d.0) d.1

-- the theorem
pub reached_in_range : (cs : List Call) → DecodedCalls fresh_receiver cs → receiver_in_range (after_calls fresh_receiver cs) ≡ true
reached_in_range cs d = sound_range (after_calls fresh_receiver cs) (sound_calls fresh_receiver cs sound_fresh d)
