-- The theorem: after any history of calls from a fresh stream receiver, the state and the packets are those of all the bytes as one recording.
-- So any two cuttings of the same bytes give the same.
-- Assumes nothing.
use mathlib.Core.Path.{◌≡◌, refl, sym, ap, ap₂, subst, subst₂, ◌∙◌}
use mathlib.Core.Bool.{Bool, true, false}
use mathlib.Core.List.{List, [], ◌++◌, append_assoc, append-nil, flatten}
use Prim.Native.Nat.{ℕ, ◌+◌, ◌-◌, ◌*◌, ◌/◌, ◌%◌, ◌≤◌, ◌<◌}
use native.Mathlib.Omega.{arith}
use borrow.Author.Tests.{eq-eqb, ne_eqb, eqb-true, ltb-true, ltb-false}
use lib.Dec.{ltb, eqb}
use lib.ListN.{length, take}
use Rattle.common.specs.Choice.{pick}
use Rattle.common.specs.Lists.{Entries, largest, rest_of}
use Rattle.common.proofs.Choice.{both_true}
use Rattle.common.proofs.Largest.{largest_least}
use Rattle.receiver.specs.Receive.{fresh_receiver}
use Rattle.receiver.specs.declared.Receiver.{Receiver}
use Rattle.recording.specs.Recording.{marks_for}
use Rattle.recording.proofs.Decided.{recording_unique, recording_total}
use Rattle.receiver_stream.specs.Feed.{holding, fresh_receiver_stream, capacity_of, receiver_feed_number, FeedsReceiver, refused, fed}
use Rattle.receiver_stream.specs.History.{ReceiverFeedings, none, feeding, Reception}
use Rattle.receiver_stream.specs.declared.ReceiverStream.{ReceiverStream}
use Rattle.receiver_stream.proofs.Laws.{reception_none, reception_held, reception_range, reception_capacity, reception_taken_piece}

-- ---- the number of the answer, over the bytes that came

pub reception_number : {bytes marks written : List ℕ} {i : ReceiverStream} → Reception bytes marks written i → (piece own output : List ℕ)
    → receiver_feed_number i piece own output
    ≡ pick (marks_for piece own) (pick (ltb (length output) (188 * ((length bytes % 204 + length piece) / 204))) 4 (pick (ltb (204 * 4294967295 - length bytes) (length piece)) 7 0)) 20
reception_number {bytes} {marks} {written} {i} r piece own output =
    ap (λ (t : Bool). pick t (pick (marks_for piece own) (pick (ltb (length output) (188 * ((i.held + length piece) / 204))) 4 (pick (ltb (capacity_of i) (length piece)) 7 0)) 20) 5) (reception_range r)
    ∙ ap₂ (λ (h k : ℕ). pick (marks_for piece own) (pick (ltb (length output) (188 * ((h + length piece) / 204))) 4 (pick (ltb k (length piece)) 7 0)) 20) (reception_held r) (reception_capacity r)

-- ---- a call more

none_refused : (m a b : Bool) → ◌≡◌ {A = ℕ} (pick m (pick a 4 (pick b 7 0)) 20) 0 → (m ≡ true) × (b ≡ false)
none_refused false a b e = absurd (omega arith)
none_refused true true b e = absurd (omega arith)
none_refused true false true e = absurd (omega arith)
none_refused true false false e = (refl, refl)

-- marks are one for each byte, and 0 or 1
pub marks_each : (bytes marks : List ℕ) → marks_for bytes marks ≡ true → (length marks ≡ length bytes) × Entries (λ m. m < 2) marks
marks_each bytes marks h =
    let p = both_true (eqb (length marks) (length bytes)) (ltb (largest marks) 2) h in
    let l = ltb-true (largest marks) 2 p.1 in
    (eqb-true (length marks) (length bytes) p.0, λ i. let k = largest_least marks i in omega (arith, k, l))

pub reception_feeds : {bytes marks written : List ℕ} {i : ReceiverStream} → Reception bytes marks written i
    → (piece own output : List ℕ) (number count : ℕ) (next : ReceiverStream) (exit : List ℕ) → FeedsReceiver i piece own output number count next exit
    → Reception (bytes ++ pick (eqb number 0) piece []) (marks ++ pick (eqb number 0) own []) (written ++ take count exit) next
reception_feeds {bytes} {marks} {written} {i} r piece own output number count next exit (refused n p e s w) =
    let t = ne_eqb number 0 (λ z. omega arith) in
    let b : bytes ≡ bytes ++ pick (eqb number 0) piece [] = sym (ap (λ (x : Bool). bytes ++ pick x piece []) t ∙ append-nil bytes) in
    let m : marks ≡ marks ++ pick (eqb number 0) own [] = sym (ap (λ (x : Bool). marks ++ pick x own []) t ∙ append-nil marks) in
    let o : written ≡ written ++ take count exit = sym (ap (λ (k : ℕ). written ++ take k exit) e ∙ append-nil written) in
    subst (Reception (bytes ++ pick (eqb number 0) piece []) (marks ++ pick (eqb number 0) own []) (written ++ take count exit)) (sym s)
    (subst (λ (z : List ℕ). Reception (bytes ++ pick (eqb number 0) piece []) z (written ++ take count exit) i) m
    (subst₂ (λ (x y : List ℕ). Reception x marks y i) b o r))
reception_feeds {bytes} {marks} {written} {i} r piece own output number count next exit (fed z n t) =
    let q = none_refused (marks_for piece own) (ltb (length output) (188 * ((length bytes % 204 + length piece) / 204))) (ltb (204 * 4294967295 - length bytes) (length piece))
    (sym (reception_number r piece own output) ∙ z) in
    let l = ltb-false (204 * 4294967295 - length bytes) (length piece) q.1 in
    let m = marks_each piece own q.0 in
    subst (λ (x : Bool). Reception (bytes ++ pick x piece []) (marks ++ pick x own []) (written ++ take count exit) next)
    (sym (eq-eqb number 0 n))
    (reception_taken_piece r t m.0 m.1 (omega (arith, l, r.few)))

-- ---- the theorem

reception_calls : {bytes marks written came own out : List ℕ} {i last : ReceiverStream} → Reception bytes marks written i → ReceiverFeedings i came own out last
    → Reception (bytes ++ came) (marks ++ own) (written ++ out) last
reception_calls {bytes} {marks} {written} {i = i} r none =
    subst (λ (z : List ℕ). Reception (bytes ++ []) z (written ++ []) i) (sym (append-nil marks))
    (subst₂ (λ (x y : List ℕ). Reception x marks y i) (sym (append-nil bytes)) (sym (append-nil written)) r)
reception_calls {bytes} {marks} {written} {last = last} r (feeding {next = next} {bytes = more} {marks = mores} {written = out} piece own output exit number count f h) =
    let p = pick (eqb number 0) piece [] in
    subst (λ (z : List ℕ). Reception (bytes ++ (p ++ more)) z (written ++ (take count exit ++ out)) last) (append_assoc marks (pick (eqb number 0) own []) mores)
    (subst₂ (λ (x y : List ℕ). Reception x ((marks ++ pick (eqb number 0) own []) ++ mores) y last) (append_assoc bytes p more) (append_assoc written (take count exit) out)
    (reception_calls {bytes = bytes ++ p} {marks = marks ++ pick (eqb number 0) own []} {written = written ++ take count exit} (reception_feeds r piece own output number count next exit f) h))

pub every_history : {bytes marks written : List ℕ} {last : ReceiverStream} → ReceiverFeedings fresh_receiver_stream bytes marks written last
    → Reception bytes marks written last
every_history h = reception_calls reception_none h

-- ---- what bytes with their marks come to is decided

pub record SameReception (written written' : List ℕ) (i i' : ReceiverStream) : Type 0 where
  pub out : written ≡ written'
  pub state : i ≡ i'

reception_unique : {bytes marks w v : List ℕ} {i j : ReceiverStream} → Reception bytes marks w i → Reception bytes marks v j → SameReception w v i j
reception_unique {bytes} {marks} a b =
    let e = recording_unique a.recording b.recording in
    record {
      out = a.given ∙ ap flatten e.given ∙ sym b.given;
      state = a.kept ∙ ap (λ (s : Receiver). holding s (rest_of 204 bytes) (rest_of 204 marks)) e.state ∙ sym b.kept;
    }

-- any two cuttings of the same bytes and marks
pub any_pieces : {bytes marks w v : List ℕ} {i j : ReceiverStream} → ReceiverFeedings fresh_receiver_stream bytes marks w i
    → ReceiverFeedings fresh_receiver_stream bytes marks v j → SameReception w v i j
any_pieces p q = reception_unique (every_history p) (every_history q)

pub record ReceptionOf (bytes marks : List ℕ) : Type 0 where
  pub written : List ℕ
  pub stream : ReceiverStream
  pub reception : Reception bytes marks written stream

pub reception_total : (bytes marks : List ℕ) → length marks ≡ length bytes → Entries (λ m. m < 2) marks → length bytes ≤ 204 * 4294967295 → ReceptionOf bytes marks
reception_total bytes marks e m h =
    let r = recording_total fresh_receiver bytes marks in
    record {
      written = flatten r.packets;
      stream = holding r.last (rest_of 204 bytes) (rest_of 204 marks);
      reception = record { packets = r.packets; recording = r.recording; given = refl; kept = refl; each = e; marked = m; few = h };
    }
