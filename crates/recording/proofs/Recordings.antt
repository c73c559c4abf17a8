-- A loop that takes the blocks of a recording: what is in the output, and what is left to take.
-- Assumes nothing.
use mathlib.Core.Path.{◌≡◌, refl, sym, ap, ap₂, subst, subst₂, ◌∙◌}
use mathlib.Core.Bool.{Bool, true, false}
use mathlib.Core.List.{List, [], ◌∷◌, ◌++◌, append_assoc, append-nil, flatten}
use mathlib.Core.Logic.{◌⊎◌, inl, inr}
use Prim.Native.Nat.{ℕ, ◌+◌, ◌-◌, ◌*◌, ◌/◌, ◌≤◌, ◌<◌}
use Prim.{tt, Unit}
use native.Mathlib.Decide.{dec_lt}
use native.Mathlib.Omega.{arith}
use borrow.Author.Tests.{ne_eqb, lt-ltb, le-ltb}
use borrow.Rule.Slice.PartMut.{put_mid, mid_of}
use lib.Dec.{eqb}
use lib.ListN.{length, get_or, take, drop, length-append, length-drop, drop_of_length-le}
use lib.Seq.{take_all, take_at, take-append-le, drop_at, drop-drop, drop-nil}
use Rattle.common.specs.Choice.{pick}
use Rattle.common.specs.Lists.{All, chunks_of}
use Rattle.common.proofs.Chunks.{chunks_few, chunks_more}
use Rattle.reed_solomon.specs.Marks.{no_marks, DecodesMarked}
use Rattle.randomizer.specs.Packet.{derandomized}
use Rattle.interleaver.specs.declared.branches.Side.TheVariants.{Receiving}
use Rattle.interleaver.proofs.Blocks.{length_out}
use Rattle.interleaver.proofs.BlockLists.{flatten_join}
use Rattle.group_sync.specs.Group.{PlaceOf}
use Rattle.group_sync.specs.declared.Outcome.{Outcome}
use Rattle.group_sync.specs.declared.Outcome.TheVariants.{Filling, Delivered, Lost, Waiting, OutOfStep}
use Rattle.group_sync.proofs.Synchronization.{outcome_place}
use Rattle.reception_counts.specs.Counts.{outcome_number}
use Rattle.receiver.specs.Receive.{NoMarks, receiver_in_range, delayed_block, delayed_marks, decoding_of, step_of, output_after, receive_refusal, Ready, ReceivesMarked}
use Rattle.receiver.specs.Run.{Call, answer_of, output_of, DecodedCalls, after_calls, packets_given, lent_blocks, Plain, OutputFits}
use Rattle.receiver.specs.declared.Receiver.{Receiver}
use Rattle.receiver.proofs.Calls.{state_range, ready_number, ready_output, left_length}
use Rattle.receiver.proofs.Reached.{Refused, ready_or_refused, call_decoded}
use Rattle.receiver.proofs.Parts.{Sized, kept_by, still_none}
use Rattle.receiver.proofs.Outcomes.{packet_length}
use Rattle.recording.specs.Recording.{block_marks, Recording, over, call, TakesRecording, given_bytes}

-- ---- the marks of a block

-- each call has the marks of its block
abbrev pub MarkedBy : List ℕ → List Call → Type 0
MarkedBy marks [] = Unit {0}
MarkedBy marks (c ∷ cs) = (c.marks ≡ block_marks marks) × MarkedBy (drop 204 marks) cs

-- where none come, no call has a mark
pub none_marked : (cs : List Call) → MarkedBy [] cs → All Plain cs
none_marked [] m = tt
none_marked (c ∷ cs) m = (m.0, none_marked cs m.1)

-- there is one for each byte
pub marks_front_lem : (marks : List ℕ) → 204 ≤ length marks → block_marks marks ≡ take 204 marks
marks_front_lem marks h = take-append-le 204 marks no_marks h

-- ---- a recording as a list of calls

-- the packet that a call gives, or none
abbrev pub given_from : ℕ → List ℕ → List (List ℕ)
given_from number exit = pick (eqb number 0) (take 188 exit ∷ []) []

pub record RecordedCalls (s : Receiver) (bytes marks : List ℕ) (packets : List (List ℕ)) (last : Receiver) : Type 0 where
  pub calls : List Call
  pub blocks : lent_blocks calls ≡ chunks_of 204 bytes
  pub marked : MarkedBy marks calls
  pub decodes : DecodedCalls s calls
  pub output_fits : All OutputFits calls
  pub given : packets ≡ packets_given s calls
  pub state : last ≡ after_calls s calls

pub recorded_calls : {s last : Receiver} {bytes marks : List ℕ} {packets : List (List ℕ)} → Recording s bytes marks packets last → RecordedCalls s bytes marks packets last
recorded_calls {bytes = bytes} (over h) = record {
  calls = [];
  blocks = sym (chunks_few 204 (omega arith) bytes h);
  marked = tt;
  decodes = tt;
  output_fits = tt;
  given = refl;
  state = refl;
}
recorded_calls {s} {bytes = bytes} {marks = marks} (call output exit number next h o v k) =
    let d = call_decoded v in
    let c : Call = record { block = take 204 bytes; marks = block_marks marks; output = output; left = d.left; decoded = d.decoded } in
    let t = recorded_calls k in
    record {
      calls = c ∷ t.calls;
      blocks = ap (λ (l : List (List ℕ)). take 204 bytes ∷ l) t.blocks ∙ sym (chunks_more 204 (omega arith) bytes h);
      marked = (refl, t.marked);
      decodes = (d.decodes, subst (λ (x : Receiver). DecodedCalls x t.calls) d.state t.decodes);
      output_fits = (o, t.output_fits);
      given =
          ap₂ (λ (x y : List (List ℕ)). x ++ y) (ap₂ given_from d.number d.written)
          (t.given ∙ ap (λ (x : Receiver). packets_given x t.calls) d.state);
      state = t.state ∙ ap (λ (x : Receiver). after_calls x t.calls) d.state;
    }

-- ---- the output after a call

record Filled (number : ℕ) (output exit : List ℕ) : Type 0 where
  pub size : length (flatten (given_from number exit)) ≡ given_bytes number
  pub after_it : exit ≡ flatten (given_from number exit) ++ drop (given_bytes number) output

outcome_filled : (o : Outcome) (left output : List ℕ) → PlaceOf o → length left ≡ 204 → Filled (outcome_number o) output (output_after o left output)
unfolding flatten
outcome_filled Filling left output h n = record { size = refl; after_it = refl }
outcome_filled (Delivered place) left output h n =
    let d = derandomized place (take 188 left) in
    let e : take 188 (d ++ drop 188 output) ++ [] ≡ d = append-nil _ ∙ take_at d (drop 188 output) 188 (packet_length place left h n) in
    record { size = ap length e ∙ packet_length place left h n; after_it = sym (ap (λ (x : List ℕ). x ++ drop 188 output) e) }
outcome_filled Lost left output h n = record { size = refl; after_it = refl }
outcome_filled Waiting left output h n = record { size = refl; after_it = refl }
outcome_filled OutOfStep left output h n = record { size = refl; after_it = refl }

refused_filled : (n a : ℕ) (output b : List ℕ) → 0 < n → Filled (pick (eqb n 0) a n) output (pick (eqb n 0) b output)
unfolding flatten
refused_filled n a output b h =
    let e = ne_eqb n 0 (λ e. omega arith) in
    simp e (record { size = simp e; after_it = simp e })

module _ (s : Receiver) (c : Call) (d : DecodesMarked (delayed_marks s c.marks) (delayed_block s c.block) c.left c.decoded) where
  pub step_place : Ready s c.block c.marks c.output → PlaceOf (step_of s c.left c.decoded).outcome
  step_place y = by (dec_lt s.counts.taken 11)
    where
      by : Dec (s.counts.taken < 11) → PlaceOf (step_of s c.left c.decoded).outcome
      by (yes h) = simp (lt-ltb _ _ h) tt
      by (no h) =
          let k : 11 ≤ s.counts.taken = omega arith in
          simp (le-ltb _ _ k) (outcome_place s.sync (decoding_of c.decoded (get_or c.left 0 0)) (state_range s y.range).sync)

  call_filled : Filled (answer_of s c) c.output (output_of s c)
  call_filled = by (ready_or_refused s c.block c.marks c.output)
    where
      by : Ready s c.block c.marks c.output ⊎ Refused s c.block c.marks c.output → Filled (answer_of s c) c.output (output_of s c)
      by (inl y) =
          subst₂ (λ (n : ℕ) (x : List ℕ). Filled n c.output x)
          (sym (ready_number s c.block c.marks c.output y c.left c.decoded)) (sym (ready_output s c.block c.marks c.output y c.left c.decoded))
          (outcome_filled (step_of s c.left c.decoded).outcome c.left c.output (step_place y)
          (left_length (delayed_marks s c.marks) (delayed_block s c.block) c.left c.decoded d (length_out Receiving s.deinterleaver.branches c.block)))
      by (inr f) =
          refused_filled (receive_refusal s c.block c.marks c.output) (outcome_number (step_of s c.left c.decoded).outcome) c.output
          (output_after (step_of s c.left c.decoded).outcome c.left c.output) f.some

few_given : (number : ℕ) → given_bytes number ≤ 188
few_given number = by (eqb number 0) refl
  where
    by : (t : Bool) → eqb number 0 ≡ t → given_bytes number ≤ 188
    by true e = simp e (omega arith)
    by false e = simp e (omega arith)

-- ---- the loop

-- The packets so far are in the output, and there is room for the blocks from at on. What those come to, after the packets so far, is what the recording comes to.
pub record Progress (first : Receiver) (bytes marks output₀ output : List ℕ) (s : Receiver) (at count : ℕ) : Type 0 where
  pub within : at ≤ length bytes
  pub enough : count + 188 * ((length bytes - at) / 204) ≤ length output₀
  pub front : List (List ℕ)
  pub counted : length (flatten front) ≡ count
  pub written : output ≡ flatten front ++ drop count output₀
  pub further : (packets : List (List ℕ)) (last : Receiver) → Recording s (drop at bytes) (drop at marks) packets last → Recording first bytes marks (front ++ packets) last

pub progress_start : (s : Receiver) (bytes marks output : List ℕ) → 188 * (length bytes / 204) ≤ length output → Progress s bytes marks output output s 0 0
unfolding flatten
progress_start s bytes marks output h = record {
  within = omega arith;
  enough = omega arith;
  front = [];
  counted = refl;
  written = refl;
  further = λ packets last r. r;
}

module _ {first : Receiver} {bytes marks output₀ output : List ℕ} {s : Receiver} {at count : ℕ} (p : Progress first bytes marks output₀ output s at count) where
  pub progress_end : length bytes - at < 204 → TakesRecording first bytes marks output₀ count s output
  unfolding flatten
  progress_end h =
      let d = length-drop at bytes in
      record {
        packets = p.front;
        recording = subst (λ (x : List (List ℕ)). Recording first bytes marks x s) (append-nil p.front) (p.further [] s (over (omega arith)));
        counted = sym p.counted;
        written = p.written;
      }

  front_output : take count output ≡ flatten p.front
  front_output = ap (take count) p.written ∙ take_at (flatten p.front) (drop count output₀) count p.counted

  back_output : drop count output ≡ drop count output₀
  back_output = ap (drop count) p.written ∙ drop_at (flatten p.front) (drop count output₀) count p.counted

  module _ (h : 204 ≤ length bytes - at) where
    -- a call on this block and the rest of the output
    module _ {number : ℕ} {next : Receiver} {exit : List ℕ}
        (m : ReceivesMarked s (take 204 (drop at bytes)) (block_marks (drop at marks)) (mid_of count (length output - count) output) number next exit) where
      kept : ReceivesMarked s (take 204 (drop at bytes)) (block_marks (drop at marks)) (drop count output) number next exit
      kept =
          subst (λ (b : List ℕ). ReceivesMarked s (take 204 (drop at bytes)) (block_marks (drop at marks)) b number next exit)
          (take_all (length output - count) (drop count output) (omega (arith, length-drop count output))) m

      filled : Filled number (drop count output) exit
      filled =
          let d = call_decoded kept in
          let c : Call = record { block = take 204 (drop at bytes); marks = block_marks (drop at marks); output = drop count output; left = d.left; decoded = d.decoded } in
          subst₂ (λ (n : ℕ) (x : List ℕ). Filled n (drop count output) x) (sym d.number) (sym d.written) (call_filled s c d.decodes)

      more : Progress first bytes marks output₀ (put_mid count (length output - count) output exit) next (at + 204) (count + given_bytes number)
      more =
          let n = given_bytes number in
          let g = given_from number exit in
          record {
            within = omega (arith, h);
            enough = omega (arith, p.enough, few_given number, h);
            front = p.front ++ g;
            counted =
                ap length (flatten_join p.front g) ∙ length-append (flatten p.front) (flatten g)
                ∙ ap₂ (λ (a b : ℕ). a + b) p.counted filled.size;
            written =
                ap₂ (λ (a b : List ℕ). a ++ b) front_output
                (ap (λ (l : List ℕ). exit ++ l) (drop_of_length-le (drop count output) {i = length output - count} (omega (arith, length-drop count output))) ∙ append-nil exit
                ∙ filled.after_it ∙ ap (λ (l : List ℕ). flatten g ++ drop n l) back_output ∙ ap (λ (l : List ℕ). flatten g ++ l) (drop-drop n count output₀))
                ∙ sym (append_assoc (flatten p.front) (flatten g) (drop (count + n) output₀))
                ∙ ap (λ (l : List ℕ). l ++ drop (count + n) output₀) (sym (flatten_join p.front g));
            further = λ packets last t.
                let u : Recording next (drop 204 (drop at bytes)) (drop 204 (drop at marks)) packets last =
                subst₂ (λ (b m : List ℕ). Recording next b m packets last) (sym (drop-drop 204 at bytes)) (sym (drop-drop 204 at marks)) t in
                let v : Recording s (drop at bytes) (drop at marks) (g ++ packets) last =
                call {bytes = drop at bytes} (drop count output) exit number next (omega (arith, length-drop at bytes)) (omega (arith, ap length back_output, length-drop count output₀, p.enough, h)) kept u in
                subst (λ (x : List (List ℕ)). Recording first bytes marks x last) (sym (append_assoc p.front g packets)) (p.further (g ++ packets) last v);
          }

      pub progress_more : {n : ℕ} → n ≡ given_bytes number
          → Progress first bytes marks output₀ (put_mid count (length output - count) output exit) next (at + 204) (count + n)
      progress_more e =
          subst (λ (k : ℕ). Progress first bytes marks output₀ (put_mid count (length output - count) output exit) next (at + 204) (count + k)) (sym e) more

-- the same, with what is known of the receiver: it is as much in range as at the start, and where no marks come, clean says that none is in the delays
pub record Taking (first : Receiver) (bytes marks output₀ output : List ℕ) (s : Receiver) (at count : ℕ) (valid clean : Bool) : Type 0 where
  pub progress : Progress first bytes marks output₀ output s at count
  pub sized : Sized s
  pub range : valid ≡ receiver_in_range s
  pub none : length marks ≡ 0 → clean ≡ true → NoMarks s

-- no marks: a block has none
block_none : (marks : List ℕ) (at : ℕ) → length marks ≡ 0 → block_marks (drop at marks) ≡ no_marks
block_none [] at e = ap block_marks (drop-nil {A = ℕ} at)
block_none (m ∷ ms) at e = absurd (omega arith)

pub taking_more : {first : Receiver} {bytes marks output₀ output : List ℕ} {s : Receiver} {at count : ℕ} {valid clean : Bool} {number : ℕ} {next : Receiver} {exit : List ℕ} {n : ℕ}
    → Taking first bytes marks output₀ output s at count valid clean → 204 ≤ length bytes - at → (still : Bool) → (still ≡ true → NoMarks s)
    → ReceivesMarked s (take 204 (drop at bytes)) (block_marks (drop at marks)) (mid_of count (length output - count) output) number next exit
    → n ≡ given_bytes number
    → Taking first bytes marks output₀ (put_mid count (length output - count) output exit) next (at + 204) (count + n) valid still
taking_more {first} {bytes} {marks} {output₀} {output} {s} {at} {count} {valid} {clean} {number} {next} {exit} {n} t h still none m e =
    let block = take 204 (drop at bytes) in
    let own = block_marks (drop at marks) in
    let room = mid_of count (length output - count) output in
    let k = kept_by s block own room number next exit t.sized m in
    record {
      progress = progress_more t.progress h m e;
      sized = k.sized;
      range = t.range ∙ k.range;
      none = λ z c. still_none s block own room number next exit t.sized m (none c) (block_none marks at z);
    }
