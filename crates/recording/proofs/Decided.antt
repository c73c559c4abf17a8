-- What a recording comes to is decided: there is one outcome and no other. From a sound receiver each whole block is taken.
-- Assumes nothing.
use mathlib.Core.Path.{◌≡◌, refl, sym, ap, ap₂, subst, subst₂, ◌∙◌}
use mathlib.Core.Bool.{true}
use mathlib.Core.List.{List, [], ◌∷◌, ◌++◌}
use mathlib.Core.Logic.{◌⊎◌, inl, inr}
use Prim.Native.Nat.{ℕ, zero, suc, ◌+◌, ◌/◌, ◌≤◌, ◌<◌}
use native.Mathlib.Omega.{arith}
use borrow.Author.Tests.{eq-eqb, ne_eqb, lt-ltb, le-ltb}
use lib.Dec.{eqb}
use lib.ListN.{length, take, drop, replicate, length-append, length-drop, length-replicate, get_or}
use lib.Seq.{take_at, length-take-le}
use Rattle.common.specs.Choice.{pick}
use Rattle.common.specs.Lists.{All, Length, Entries, largest}
use Rattle.common.proofs.Chunks.{chunks_whole}
use Rattle.common.proofs.Entries.{entries_take, entries_drop, entries_append}
use Rattle.common.proofs.Largest.{largest_most}
use Rattle.common.proofs.Lists.{zeros_at}
use Rattle.answer.specs.Number.{given_or}
use Rattle.reed_solomon.specs.Marks.{are_marks, no_marks, DecodesMarked}
use Rattle.reed_solomon.specs.Decode.{Decoded}
use Rattle.reed_solomon.proofs.Laws.{unique_marked}
use Rattle.randomizer.specs.Packet.{derandomized}
use Rattle.interleaver.specs.declared.branches.Side.TheVariants.{Receiving}
use Rattle.interleaver.proofs.Blocks.{length_out}
use Rattle.group_sync.specs.Group.{PlaceOf}
use Rattle.group_sync.specs.declared.Outcome.{Outcome}
use Rattle.group_sync.specs.declared.Outcome.TheVariants.{Filling, Delivered, Lost, Waiting, OutOfStep}
use Rattle.reception_counts.specs.Counts.{outcome_number}
use Rattle.receiver.specs.Receive.{delayed_block, delayed_marks, step_of, state_after, output_after, receive_refusal, Ready, received_number}
use Rattle.receiver.specs.Run.{Call, DecodedCalls, answer_of, after_call, output_of, after_calls, OutputFits, lent_blocks, packets_given}
use Rattle.receiver.specs.declared.Receiver.{Receiver}
use Rattle.receiver.proofs.Calls.{ready_number, ready_state, ready_output, left_length}
use Rattle.receiver.proofs.Outcomes.{packet_length}
use Rattle.receiver.proofs.Reached.{Sound, sound_range, sound_call, Refused, ready_or_refused, call_exists}
use Rattle.recording.specs.Recording.{block_marks, Recording, over, call}
use Rattle.recording.proofs.Recordings.{given_from, step_place, MarkedBy, RecordedCalls, recorded_calls}
use Rattle.recording.proofs.Joins.{calls_count}

-- ---- a call on the same block, with room for a packet

given_outcome : (o : Outcome) (left a b : List ℕ) → PlaceOf o → length left ≡ 204
    → given_from (outcome_number o) (output_after o left a) ≡ given_from (outcome_number o) (output_after o left b)
given_outcome Filling left a b h n = refl
given_outcome (Delivered place) left a b h n =
    let d = derandomized place (take 188 left) in
    let l = packet_length place left h n in
    ap (λ (x : List ℕ). x ∷ []) (take_at d (drop 188 a) 188 l ∙ sym (take_at d (drop 188 b) 188 l))
given_outcome Lost left a b h n = refl
given_outcome Waiting left a b h n = refl
given_outcome OutOfStep left a b h n = refl

given_refused : (n a : ℕ) (x y : List ℕ) → 0 < n → given_from (pick (eqb n 0) a n) x ≡ given_from (pick (eqb n 0) a n) y
given_refused n a x y h = let e = ne_eqb n 0 (λ e. omega arith) in simp e

record Alike (s : Receiver) (c d : Call) : Type 0 where
  pub state : after_call s c ≡ after_call s d
  pub given : given_from (answer_of s c) (output_of s c) ≡ given_from (answer_of s d) (output_of s d)

-- the output has no part in what is given
module _ (s : Receiver) (block marks left : List ℕ) (decoded : Decoded) (a b : List ℕ) (p : 188 ≤ length a) (q : 188 ≤ length b)
    (d : DecodesMarked (delayed_marks s marks) (delayed_block s block) left decoded) where
  abbrev first : Call
  first = record { block = block; marks = marks; output = a; left = left; decoded = decoded }

  abbrev second : Call
  second = record { block = block; marks = marks; output = b; left = left; decoded = decoded }

  refusal_same : receive_refusal s block marks a ≡ receive_refusal s block marks b
  refusal_same = simp (le-ltb _ _ p, le-ltb _ _ q)

  number_same : answer_of s first ≡ answer_of s second
  number_same = ap (λ (n : ℕ). pick (eqb n 0) (outcome_number (step_of s left decoded).outcome) n) refusal_same

  output_alike : Alike s first second
  output_alike = record {
    state = ap (λ (n : ℕ). pick (eqb n 0) (state_after s block marks left decoded) s) refusal_same;
    given = by (ready_or_refused s block marks a);
  }
    where
      by : Ready s block marks a ⊎ Refused s block marks a → given_from (answer_of s first) (output_of s first) ≡ given_from (answer_of s second) (output_of s second)
      by (inl y) =
          let z : Ready s block marks b = record { range = y.range; size = y.size; marked = y.marked; enough = q; more = y.more } in
          let o = (step_of s left decoded).outcome in
          ap₂ given_from (ready_number s block marks a y left decoded) (ready_output s block marks a y left decoded)
          ∙ given_outcome o left a b (step_place s first d y)
          (left_length (delayed_marks s marks) (delayed_block s block) left decoded d (length_out Receiving s.deinterleaver.branches block))
          ∙ sym (ap₂ given_from (ready_number s block marks b z left decoded) (ready_output s block marks b z left decoded))
      by (inr f) =
          given_refused (receive_refusal s block marks a) (outcome_number (step_of s left decoded).outcome) (output_of s first) (output_of s second) f.some
          ∙ ap (λ (n : ℕ). given_from n (output_of s second)) number_same

call_alike : (s : Receiver) (c d : Call) → c.block ≡ d.block → c.marks ≡ d.marks → OutputFits c → OutputFits d
    → DecodesMarked (delayed_marks s c.marks) (delayed_block s c.block) c.left c.decoded
    → DecodesMarked (delayed_marks s d.marks) (delayed_block s d.block) d.left d.decoded → Alike s c d
call_alike s c d e m p q x y =
    let y' : DecodesMarked (delayed_marks s c.marks) (delayed_block s c.block) d.left d.decoded
    = subst₂ (λ (k b : List ℕ). DecodesMarked (delayed_marks s k) (delayed_block s b) d.left d.decoded) (sym m) (sym e) y in
    let u = unique_marked (delayed_marks s c.marks) (delayed_block s c.block) c.left d.left c.decoded d.decoded x y' in
    let f : Call = record { block = c.block; marks = c.marks; output = d.output; left = c.left; decoded = c.decoded } in
    let w : f ≡ d
    = ap₂ (λ (b k : List ℕ). record { block = b; marks = k; output = d.output; left = c.left; decoded = c.decoded }) e m
    ∙ ap₂ (λ (l : List ℕ) (k : Decoded). record { block = d.block; marks = d.marks; output = d.output; left = l; decoded = k }) u.block u.answer in
    subst (Alike s c) w (output_alike s c.block c.marks c.left c.decoded c.output d.output p q x)

-- ---- unique

record SameCalls (s : Receiver) (xs ys : List Call) : Type 0 where
  pub given : packets_given s xs ≡ packets_given s ys
  pub state : after_calls s xs ≡ after_calls s ys

-- what is asked of calls, beside their blocks
record Asked (s : Receiver) (marks : List ℕ) (cs : List Call) : Type 0 where
  pub marked : MarkedBy marks cs
  pub decodes : DecodedCalls s cs
  pub output_fits : All OutputFits cs

asked_more : (s : Receiver) (marks : List ℕ) (c : Call) (cs : List Call) → Asked s marks (c ∷ cs) → Asked (after_call s c) (drop 204 marks) cs
asked_more s marks c cs k = record { marked = k.marked.1; decodes = k.decodes.1; output_fits = k.output_fits.1 }

calls_same : (s : Receiver) (marks : List ℕ) (xs ys : List Call) → lent_blocks xs ≡ lent_blocks ys → Asked s marks xs → Asked s marks ys → SameCalls s xs ys
calls_same s marks [] [] b p q = record { given = refl; state = refl }
calls_same s marks [] (d ∷ ys) b p q = absurd (omega (arith, ap length b))
calls_same s marks (c ∷ xs) [] b p q = absurd (omega (arith, ap length b))
calls_same s marks (c ∷ xs) (d ∷ ys) b p q =
    let e = call_alike s c d (ap (λ (l : List (List ℕ)). get_or l 0 []) b) (p.marked.0 ∙ sym q.marked.0) p.output_fits.0 q.output_fits.0 p.decodes.0 q.decodes.0 in
    let k : Asked (after_call s c) (drop 204 marks) ys = subst (λ (m : Receiver). Asked m (drop 204 marks) ys) (sym e.state) (asked_more s marks d ys q) in
    let f = calls_same (after_call s c) (drop 204 marks) xs ys (ap (drop 1) b) (asked_more s marks c xs p) k in
    record {
      given =
          ap₂ (λ (x y : List (List ℕ)). x ++ y) e.given f.given
          ∙ ap (λ (m : Receiver). given_from (answer_of s d) (output_of s d) ++ packets_given m ys) e.state;
      state = f.state ∙ ap (λ (m : Receiver). after_calls m ys) e.state;
    }

asked_of : {s : Receiver} {bytes marks : List ℕ} {packets : List (List ℕ)} {last : Receiver} (r : RecordedCalls s bytes marks packets last) → Asked s marks r.calls
asked_of r = record { marked = r.marked; decodes = r.decodes; output_fits = r.output_fits }

pub record SameRecording (packets packets' : List (List ℕ)) (last last' : Receiver) : Type 0 where
  pub given : packets ≡ packets'
  pub state : last ≡ last'

pub recording_unique : {s : Receiver} {bytes marks : List ℕ} {p q : List (List ℕ)} {m n : Receiver} → Recording s bytes marks p m → Recording s bytes marks q n → SameRecording p q m n
recording_unique {s} {bytes} {marks} x y =
    let a = recorded_calls x in
    let b = recorded_calls y in
    let e = calls_same s marks a.calls b.calls (a.blocks ∙ sym b.blocks) (asked_of a) (asked_of b) in
    record { given = a.given ∙ e.given ∙ sym b.given; state = a.state ∙ e.state ∙ sym b.state }

-- ---- each whole block is taken

taken_calls : (s : Receiver) (cs : List Call) → Sound s → DecodedCalls s cs → All (Length 204) (lent_blocks cs) → All (λ c. are_marks c.marks ≡ true) cs → All OutputFits cs → s.counts.taken + length cs ≤ 4294967295
    → Sound (after_calls s cs) × ((after_calls s cs).counts.taken ≡ s.counts.taken + length cs)
unfolding state_after
taken_calls s [] g d n m o h = (g, omega arith)
taken_calls s (c ∷ cs) g d n m o h =
    let y : Ready s c.block c.marks c.output = record { range = sound_range s g; size = n.0; marked = m.0; enough = o.0; more = omega arith } in
    let e : (after_call s c).counts.taken ≡ s.counts.taken + 1 = ap (λ (m : Receiver). m.counts.taken) (ready_state s c.block c.marks c.output y c.left c.decoded) in
    let r = taken_calls (after_call s c) cs (sound_call s c g d.0) d.1 n.1 m.1 o.1 (omega arith) in
    (r.0, omega (arith, r.1, e))

-- each call has a mark, 0 or 1, for each byte
block_marks_lem : (marks : List ℕ) → Entries (λ m. m < 2) marks → are_marks (block_marks marks) ≡ true
block_marks_lem marks e =
    let l : length (block_marks marks) ≡ 204 = length-take-le 204 (marks ++ no_marks) (omega (arith, length-append marks no_marks)) in
    let f : Entries (λ m. m < 2) (block_marks marks)
    = entries_take (λ m. m < 2) (omega arith) 204 (marks ++ no_marks) (entries_append (λ m. m < 2) (omega arith) marks no_marks e zeros) in
    let k : largest (block_marks marks) ≤ 1 = largest_most (block_marks marks) 1 (λ i h. let z = f i in omega (arith, z)) in
    simp (eq-eqb _ _ l, lt-ltb _ _ (let t : largest (block_marks marks) < 2 = omega (arith, k) in t))
  where
    zeros : Entries (λ m. m < 2) no_marks
    zeros i = let z = zeros_at 204 i in omega (arith, z)

calls_marks : (marks : List ℕ) (cs : List Call) → Entries (λ m. m < 2) marks → MarkedBy marks cs → All (λ c. are_marks c.marks ≡ true) cs
calls_marks marks [] e m = tt
calls_marks marks (c ∷ cs) e m =
    (ap are_marks m.0 ∙ block_marks_lem marks e, calls_marks (drop 204 marks) cs (entries_drop (λ m. m < 2) 204 marks e) m.1)

pub recording_taken : {s : Receiver} {bytes marks : List ℕ} {packets : List (List ℕ)} {last : Receiver} → Sound s → Entries (λ m. m < 2) marks
    → Recording s bytes marks packets last → s.counts.taken + length bytes / 204 ≤ 4294967295 → Sound last × (last.counts.taken ≡ s.counts.taken + length bytes / 204)
recording_taken {s} {bytes} {marks} {packets} {last} g e t h =
    let r = recorded_calls t in
    let l = calls_count r in
    let sizes : All (Length 204) (lent_blocks r.calls) = subst (All (Length 204)) (sym r.blocks) (chunks_whole 204 bytes) in
    let t = taken_calls s r.calls g r.decodes sizes (calls_marks marks r.calls e r.marked) r.output_fits (omega arith) in
    (subst Sound (sym r.state) t.0, ap (λ (m : Receiver). m.counts.taken) r.state ∙ t.1 ∙ ap (λ (k : ℕ). s.counts.taken + k) l)

-- ---- total

pub record RecordingOf (s : Receiver) (bytes marks : List ℕ) : Type 0 where
  pub packets : List (List ℕ)
  pub last : Receiver
  pub recording : Recording s bytes marks packets last

packet_fits : 188 ≤ length (replicate 188 zero)
packet_fits = omega (arith, length-replicate 188 zero)

-- a call on the first block
more_total : (s : Receiver) (bytes marks : List ℕ) → 204 ≤ length bytes → ((t : Receiver) → RecordingOf t (drop 204 bytes) (drop 204 marks)) → RecordingOf s bytes marks
more_total s bytes marks h f =
    let c = call_exists s (take 204 bytes) (block_marks marks) (replicate 188 zero) in
    let next = given_or s (λ x. x.receiver) c.result in
    let r = f next in
    record {
      packets = given_from (received_number c.result) c.exit ++ r.packets;
      last = r.last;
      recording = call (replicate 188 zero) c.exit (received_number c.result) next h packet_fits c.receives r.recording;
    }

blocks_total : (n : ℕ) (s : Receiver) (bytes marks : List ℕ) → length bytes / 204 ≡ n → RecordingOf s bytes marks
blocks_total zero s bytes marks e = record { packets = []; last = s; recording = over {bytes = bytes} (omega arith) }
blocks_total (suc n) s bytes marks e =
    let l = length-drop 204 bytes in
    more_total s bytes marks (omega arith) (λ t. blocks_total n t (drop 204 bytes) (drop 204 marks) (omega arith))

pub recording_total : (s : Receiver) (bytes marks : List ℕ) → RecordingOf s bytes marks
recording_total s bytes marks = blocks_total (length bytes / 204) s bytes marks refl
