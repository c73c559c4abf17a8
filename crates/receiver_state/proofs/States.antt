-- The bytes of a state and the receiver that is read of them, by the laws of any table (state_bytes/proofs/States.antt).
-- Assumes nothing.
use mathlib.Core.Path.{◌≡◌, refl, sym, ap, ap₂, ◌∙◌}
use mathlib.Core.Bool.{true}
use mathlib.Core.List.{List, [], ◌∷◌, ◌++◌, append_assoc, append-nil, map, flatten}
use Prim.Native.Nat.{ℕ, zero, suc, ◌+◌, ◌-◌, ◌*◌, ◌≤◌, ◌<◌}
use Prim.{tt}
use native.Mathlib.Decide.{ℕ_discrete}
use native.Mathlib.Omega.{arith}
use borrow.Author.Tests.{eq-eqb, ne_eqb, ltb-true}
use lib.Dec.{ltb}
use lib.ListN.{length, get_or, take, drop, length-append, length-drop}
use lib.Seq.{length-take-le, take_at, drop_at, take-add, take-take, take-nil, drop-drop}
use Rattle.std.proofs.Common.{Option, Some, None}
use Rattle.common.specs.Lists.{All, ByteEntries, placed}
use Rattle.common.proofs.Entries.{entries_take, entries_drop}
use Rattle.common.proofs.Choice.{both_true}
use Rattle.state_bytes.specs.Table.{part, contiguous, fields_of}
use Rattle.state_bytes.proofs.Copies.{next, last, byte_part, part_byte}
use Rattle.state_bytes.proofs.Fields.{◌&◌}
use Rattle.state_bytes.proofs.States.{Reads, stands_found}
use Rattle.group_sync.specs.Group.{place_in_range}
use Rattle.reception_counts.specs.Bytes.{to_bytes, from_bytes, numbers_of, count_bytes, counts_at}
use Rattle.reception_counts.specs.declared.Counts.{Counts}
use Rattle.reception_counts.proofs.Numbers.{to_from, from_to_eight, length_to, each_length}
use Rattle.reception_counts.proofs.Ranges.{CountsRange, counts_range}
use Rattle.receiver.specs.Receive.{fresh_receiver, receiver_in_range}
use Rattle.receiver.specs.declared.Receiver.{Receiver}
use Rattle.receiver.proofs.Calls.{state_range}
use Rattle.receiver.proofs.Reached.{Sound, sound_range, sound_fresh}
use Rattle.receiver_state.specs.State.{place_byte, layout, state_length, state_bytes, StandsFor}
use Rattle.receiver_state.specs.Reading.{place_of, state_of}
use Rattle.receiver_state.specs.State as field

-- ---- the place

place_back : (byte : ℕ) → place_byte (place_of byte) ≡ byte
place_back byte = by (ℕ_discrete byte 8)
  where
    by : Dec (byte ≡ 8) → place_byte (place_of byte) ≡ byte
    by (yes e) = simp (eq-eqb byte 8 e) (sym e)
    by (no e) = simp (ne_eqb byte 8 e)

-- a place in range is not 8
place_again : (p : Option ℕ) (m : ℕ) → place_in_range p m ≡ true → place_of (place_byte p) ≡ p
place_again None m h = refl
place_again (Some p) m h = let l = ltb-true p 8 (both_true (ltb p 8) (ltb m 2) h).0 in simp (ne_eqb p 8 (λ e. omega arith))

-- ---- the eight counts

-- numbers in eight bytes each, from a place on
abbrev eights : ℕ → ℕ → List ℕ → List ℕ
eights zero at bytes = []
eights (suc n) at bytes = to_bytes 8 (from_bytes (take 8 (drop at bytes))) ++ eights n (at + 8) bytes

eights_back : (n at : ℕ) (bytes : List ℕ) → ByteEntries bytes → at + 8 * n ≤ length bytes → eights n at bytes ≡ take (8 * n) (drop at bytes)
eights_back zero at bytes e h = refl
eights_back (suc n) at bytes e h =
    let m : 8 + 8 * n ≡ 8 * suc n = omega arith in
    ap₂ (λ (x y : List ℕ). x ++ y)
    (to_from 8 (take 8 (drop at bytes)) (entries_take (λ x. x < 256) (omega arith) 8 (drop at bytes) (entries_drop (λ x. x < 256) at bytes e))
    (length-take-le 8 (drop at bytes) (omega (arith, length-drop at bytes))))
    (eights_back n (at + 8) bytes e (omega arith) ∙ ap (take (8 * n)) (sym (drop-drop 8 at bytes)))
    ∙ sym (take-add 8 (8 * n) (drop at bytes))
    ∙ ap (λ (k : ℕ). take k (drop at bytes)) m

-- one of them
eighth : (ns : List ℕ) (k : ℕ) → k < length ns → take 8 (drop (8 * k) (flatten (map (to_bytes 8) ns))) ≡ to_bytes 8 (get_or ns k 0)
unfolding flatten
eighth [] k h = absurd (omega arith)
eighth (n ∷ ns) zero h = take_at (to_bytes 8 n) (flatten (map (to_bytes 8) ns)) 8 (length_to 8 n)
eighth (n ∷ ns) (suc k) h =
    let m : 8 * suc k ≡ 8 + 8 * k = omega arith in
    ap (λ (j : ℕ). take 8 (drop j (to_bytes 8 n ++ flatten (map (to_bytes 8) ns)))) m
    ∙ ap (take 8) (sym (drop-drop (8 * k) 8 (to_bytes 8 n ++ flatten (map (to_bytes 8) ns))))
    ∙ ap (λ (l : List ℕ). take 8 (drop (8 * k) l)) (drop_at (to_bytes 8 n) (flatten (map (to_bytes 8) ns)) 8 (length_to 8 n))
    ∙ eighth ns k (omega arith)

-- the same in the field of the counts
count_in : (bytes : List ℕ) (k : ℕ) → k < 8 → take 8 (drop (1136 + 8 * k) bytes) ≡ take 8 (drop (8 * k) (part field.counts bytes))
count_in bytes k h =
    let rest = drop 1136 bytes in
    let cut : drop (8 * k) (take 64 rest) ≡ take (64 - 8 * k) (drop (8 * k) rest) = drop_front (8 * k) 64 rest in
    ap (take 8) (sym (drop-drop (8 * k) 1136 bytes))
    ∙ sym (take-take 8 (64 - 8 * k) (drop (8 * k) rest) (omega arith))
    ∙ ap (take 8) (sym cut)
  where
    drop_front : (m n : ℕ) (l : List ℕ) → drop m (take n l) ≡ take (n - m) (drop m l)
    drop_front zero n l = let e : n ≡ n - 0 = omega arith in ap (λ (k : ℕ). take k l) e
    drop_front (suc m) zero l = let e : 0 ≡ 0 - suc m = omega arith in ap (λ (k : ℕ). take k (drop (suc m) l)) e
    drop_front (suc m) (suc n) [] = sym (take-nil (suc n - suc m))
    drop_front (suc m) (suc n) (x ∷ l) = let e : n - m ≡ suc n - suc m = omega arith in drop_front m n l ∙ ap (λ (k : ℕ). take k (drop m l)) e

-- ---- bytes that are read

pub layout_contiguous : contiguous 0 layout state_length ≡ true
layout_contiguous = refl

-- every count fits its eight bytes
limits : (c : Counts) → CountsRange c → All (λ n. n < 18446744073709551616) (numbers_of c)
limits c r =
    let most = r.most in
    let middle = r.middle in
    let bytes = r.bytes in
    let eightfold = r.eightfold in
    omega arith & omega arith & omega arith & omega arith & omega arith & omega arith & omega arith & omega arith & tt

-- a count in the field of the counts, in its eight bytes
count_found : (c : Counts) (bytes : List ℕ) → part field.counts bytes ≡ count_bytes c → (k : ℕ) → k < 8
    → take 8 (drop (1136 + 8 * k) bytes) ≡ to_bytes 8 (get_or (numbers_of c) k 0)
unfolding count_bytes
count_found c bytes e k h = count_in bytes k h ∙ ap (λ (l : List ℕ). take 8 (drop (8 * k) l)) e ∙ eighth (numbers_of c) k h

-- the counts that are read of it
counts_again : (c : Counts) (bytes : List ℕ) → part field.counts bytes ≡ count_bytes c → CountsRange c → counts_at bytes 1136 ≡ c
counts_again c bytes e r =
    let m = limits c r in
    λ i. record {
      taken = one 0 (omega arith) m.0 i;
      filling = one 1 (omega arith) m.1.0 i;
      delivered = one 2 (omega arith) m.1.1.0 i;
      lost = one 3 (omega arith) m.1.1.1.0 i;
      waiting = one 4 (omega arith) m.1.1.1.1.0 i;
      outofstep = one 5 (omega arith) m.1.1.1.1.1.0 i;
      changed = one 6 (omega arith) m.1.1.1.1.1.1.0 i;
      bits = one 7 (omega arith) m.1.1.1.1.1.1.1.0 i;
    }
  where
    one : (k : ℕ) → k < 8 → get_or (numbers_of c) k 0 < 18446744073709551616 → from_bytes (take 8 (drop (1136 + 8 * k) bytes)) ≡ get_or (numbers_of c) k 0
    one k h l = ap from_bytes (count_found c bytes e k h) ∙ from_to_eight (get_or (numbers_of c) k 0) l

pub reads : Reads layout state_length receiver_in_range state_of
unfolding state_of count_bytes flatten
reads = record {
  joined = layout_contiguous;
  fields = λ bytes n e.
      refl
      & refl
      & (ap (λ (p : ℕ). p ∷ []) (place_back (get_or bytes 1134 0)) ∙ byte_part bytes 1134 (omega arith))
      & byte_part bytes 1135 (omega arith)
      & eights_back 8 1136 bytes e (omega arith)
      & refl
      & tt;
  again = λ bytes s r p.
      let g = state_range s r in
      let place_same : place_of (get_or bytes 1134 0) ≡ s.sync.place
      = ap place_of (part_byte bytes 1134 _ p.1.1.0) ∙ place_again s.sync.place s.sync.missed g.sync in
      let Counts-same = counts_again s.counts bytes p.1.1.1.1.0 (counts_range s.counts g.counts) in
      λ i. record {
        deinterleaver = record { branches = record { cells = p.0 i; positions = p.1.0 i } };
        marks = p.1.1.1.1.1.0 i;
        sync = record { place = place_same i; missed = part_byte bytes 1135 s.sync.missed p.1.1.1.0 i };
        counts = Counts-same i;
      };
}

-- ---- a receiver that is written

-- its fields put one after the other
pub all_put : (cells positions sync counts marks b₀ b₁ b₂ b₃ b₄ b₅ : List ℕ) → length cells ≡ 1122 → length positions ≡ 12 → length sync ≡ 2 → length counts ≡ 64
    → length marks ≡ 1122 → length b₀ ≡ 2322 → b₁ ≡ placed b₀ 0 cells → b₂ ≡ placed b₁ 1122 positions → b₃ ≡ placed b₂ 1134 sync → b₄ ≡ placed b₃ 1136 counts
    → b₅ ≡ placed b₄ 1200 marks → b₅ ≡ cells ++ positions ++ sync ++ counts ++ marks
all_put cells positions sync counts marks b₀ b₁ b₂ b₃ b₄ b₅ c p q k w n e f g h j =
    let e' = next [] cells b₀ b₀ b₁ 0 1122 refl (omega arith) refl e in
    let f' = next cells positions b₀ b₁ b₂ 1122 1134 c (omega arith) e' f in
    let l : length (cells ++ positions) ≡ 1134 = length-append cells positions ∙ omega arith in
    let g' = next (cells ++ positions) sync b₀ b₂ b₃ 1134 1136 l (omega arith) f' g in
    let m : length (cells ++ positions ++ sync) ≡ 1136 = length-append (cells ++ positions) sync ∙ omega arith in
    let h' = next (cells ++ positions ++ sync) counts b₀ b₃ b₄ 1136 1200 m (omega arith) g' h in
    let o : length (cells ++ positions ++ sync ++ counts) ≡ 1200 = length-append (cells ++ positions ++ sync) counts ∙ omega arith in
    last (cells ++ positions ++ sync ++ counts) marks b₀ b₄ b₅ 1200 o (omega arith) h' j

-- its fields as they are put
pub fields_put : (s : Receiver) (place : ℕ) (counts bytes : List ℕ) → place ≡ place_byte s.sync.place → counts ≡ count_bytes s.counts ++ []
    → bytes ≡ s.deinterleaver.branches.cells ++ s.deinterleaver.branches.positions ++ (place ∷ s.sync.missed ∷ []) ++ counts ++ s.marks → bytes ≡ state_bytes s
unfolding fields_of
fields_put s place counts bytes p c e =
    let b = s.deinterleaver.branches in
    let sync : List ℕ = place_byte s.sync.place ∷ s.sync.missed ∷ [] in
    let tail : List ℕ = count_bytes s.counts ++ s.marks in
    e
    ∙ ap₂ (λ (x : ℕ) (l : List ℕ). b.cells ++ b.positions ++ (x ∷ s.sync.missed ∷ []) ++ l ++ s.marks) p (c ∙ append-nil (count_bytes s.counts))
    ∙ append_assoc (b.cells ++ b.positions ++ sync) (count_bytes s.counts) s.marks
    ∙ append_assoc (b.cells ++ b.positions) sync tail
    ∙ append_assoc b.cells b.positions (sync ++ tail)
    ∙ ap (λ (l : List ℕ). b.cells ++ (b.positions ++ (sync ++ (count_bytes s.counts ++ l)))) (sym (append-nil s.marks))

module _ (s : Receiver) (g : Sound s) where
  -- what is written for a receiver in range stands for it
  pub stands_written : StandsFor (state_bytes s) s
  unfolding count_bytes
  stands_written = record {
    written = refl;
    sized = g.branches.cells & g.branches.positions & refl & refl & each_length (numbers_of s.counts) & g.marks & tt;
    range = sound_range s g;
  }

pub stands_fresh : StandsFor (state_bytes fresh_receiver) fresh_receiver
stands_fresh = stands_written fresh_receiver sound_fresh

-- ---- bytes that stand for a receiver

module _ (bytes : List ℕ) (s : Receiver) (h : StandsFor bytes s) where
  pub stands_sound : Sound s
  stands_sound =
      let r = state_range s h.range in
      let z = h.sized in
      record {
        branches = record { cells = z.0; positions = z.1.0; range = r.branches };
        marks = z.1.1.1.1.1.0;
        small = r.marks;
        sync = r.sync;
        counts = counts_range s.counts r.counts;
      }

  -- a count, in its eight bytes
  pub count_held : (k : ℕ) → k < 8 → take 8 (drop (1136 + 8 * k) bytes) ≡ to_bytes 8 (get_or (numbers_of s.counts) k 0)
  count_held = count_found s.counts bytes (stands_found reads bytes s h).1.1.1.1.0
