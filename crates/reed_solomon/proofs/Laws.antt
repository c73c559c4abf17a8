-- Laws of decoding for callers, with marks and without: it is total and unique, a codeword decodes to itself, a block within eight bytes of a codeword, or with
-- 2 e + f at most 16, decodes to that codeword, and what it tells that it changed is what differs.
-- Assumes nothing.
use mathlib.Core.Path.{◌≡◌, refl, sym, ap, ◌∙◌, subst}
use mathlib.Core.List.{List}
use Prim.Native.Nat.{ℕ, zero, suc, ◌*◌, ◌≤◌, ◌<◌}
use native.Mathlib.Decide.{ℕ_discrete, dec_le, dec_lt}
use native.Mathlib.Nat.{not-suc-le-zero}
use native.Mathlib.Omega.{arith}
use Rattle.std.proofs.Common.{Ok, Err}
use Rattle.answer.specs.declared.Refusal.{Refusal}
use Rattle.answer.specs.declared.Refusal.TheVariants.{Uncorrectable, BlockLength, MarkValue}
use lib.ListN.{length, get_or}
use Rattle.galois.proofs.Instance.{bytes}
use Rattle.reed_solomon.specs.Code.{Codeword, differ, changes, no_change}
use Rattle.reed_solomon.specs.Decode.{Decoded, Decodes, changed_by}
use Rattle.reed_solomon.specs.Marks.{Marks, no_marks, marked, cost, AcceptedMarked, RejectedMarked, DecodesMarked}
use Rattle.reed_solomon.specs.declared.Changed.{Changed}
use Rattle.reed_solomon.proofs.Codewords.{block_syndrome, codeword_of, codeword_length, codeword_bytes, codeword_syndromes}
use Rattle.reed_solomon.proofs.Distance.{differ_none, accepted}
use Rattle.reed_solomon.proofs.MarkedDistance.{differ_marked, same_marked, accepted_marked, as_without_marks}
use Rattle.reed_solomon.proofs.BitDistance.{bits_least, bits_eightfold, changes_none}
use Rattle.reed_solomon.proofs.FiniteSearch.{Found, list_search}

-- ---- unique: decoding depends on the block and its marks alone

pub record Same (left left' : List ℕ) (r r' : Decoded) : Type 0 where
  pub block : left ≡ left'
  pub answer : r ≡ r'

against : (marks came a b : List ℕ) (k : Changed) → AcceptedMarked marks came a k → RejectedMarked marks came b → ⊥
against marks came a b k p q = omega (arith, q.far a p.codeword, p.within)

taken_refused : (marks came a b : List ℕ) (k : Changed) (refusal : Refusal) → DecodesMarked marks came a (Ok k) → DecodesMarked marks came b (Err refusal) → ⊥
taken_refused marks came a b k Uncorrectable p q = against marks came a b k p.2 q.2
taken_refused marks came a b k BlockLength p q = q.0 p.0
taken_refused marks came a b k MarkValue p q = q.1 p.1
taken_refused marks came a b k _ p q = q

module _ (marks came a b : List ℕ) where
  -- the refusals rule each other out: the length of the block, the marks, and then the codewords decide
  uncorrectable : (refusal : Refusal) → DecodesMarked marks came a (Err Uncorrectable) → DecodesMarked marks came b (Err refusal) → Same a b (Err Uncorrectable) (Err refusal)
  uncorrectable Uncorrectable p q = record { block = p.2.unchanged ∙ sym q.2.unchanged; answer = refl }
  uncorrectable BlockLength p q = absurd (q.0 p.0)
  uncorrectable MarkValue p q = absurd (q.1 p.1)
  uncorrectable _ p q = absurd q

  block_length : (refusal : Refusal) → DecodesMarked marks came a (Err BlockLength) → DecodesMarked marks came b (Err refusal) → Same a b (Err BlockLength) (Err refusal)
  block_length Uncorrectable p q = absurd (p.0 q.0)
  block_length BlockLength p q = record { block = p.1 ∙ sym q.1; answer = refl }
  block_length MarkValue p q = absurd (p.0 q.0)
  block_length _ p q = absurd q

  mark_value : (refusal : Refusal) → DecodesMarked marks came a (Err MarkValue) → DecodesMarked marks came b (Err refusal) → Same a b (Err MarkValue) (Err refusal)
  mark_value Uncorrectable p q = absurd (p.1 q.1)
  mark_value BlockLength p q = absurd (q.0 p.0)
  mark_value MarkValue p q = record { block = p.2 ∙ sym q.2; answer = refl }
  mark_value _ p q = absurd q

  refused : (r r' : Refusal) → DecodesMarked marks came a (Err r) → DecodesMarked marks came b (Err r') → Same a b (Err r) (Err r')
  refused Uncorrectable r' p q = uncorrectable r' p q
  refused BlockLength r' p q = block_length r' p q
  refused MarkValue r' p q = mark_value r' p q
  refused _ r' p q = absurd p

pub unique_marked : (marks came left left' : List ℕ) (r r' : Decoded) → DecodesMarked marks came left r → DecodesMarked marks came left' r' → Same left left' r r'
unique_marked marks came a b (Ok j) (Ok k) p q =
    let e = same_marked marks came a b p.1.size p.0 p.2.codeword q.2.codeword p.2.within q.2.within in
    record { block = e; answer = ap Ok (p.2.counted ∙ ap (λ (l : List ℕ). changes came l) e ∙ sym q.2.counted) }
unique_marked marks came a b (Ok j) (Err r') p q = absurd (taken_refused marks came a b j r' p q)
unique_marked marks came a b (Err r) (Ok k) p q = absurd (taken_refused marks came b a k r q p)
unique_marked marks came a b (Err r) (Err r') p q = refused marks came a b r r' p q

pub unique : (came left left' : List ℕ) (r r' : Decoded) → Decodes came left r → Decodes came left' r' → Same left left' r r'
unique came a b r r' p q = unique_marked no_marks came a b r r' (as_without_marks came a r p) (as_without_marks came b r' q)

-- with no byte marked, decoding leaves and answers what it does without marks
pub as_ever : (came left left' : List ℕ) (r r' : Decoded) → Decodes came left r → DecodesMarked no_marks came left' r' → Same left left' r r'
as_ever came a b r r' p q = unique_marked no_marks came a b r r' (as_without_marks came a r p) q

-- a codeword with 2 e + f at most 16 is what decoding leaves
pub decodes_near_marked : (marks came c left : List ℕ) (r : Decoded) → length came ≡ 204 → Marks marks → Codeword c → cost marks came c ≤ 16 → DecodesMarked marks came left r
    → Same left c r (Ok (changes came c))
decodes_near_marked marks came c left r n m w h d =
    unique_marked marks came left c r (Ok (changes came c)) d (n, m, accepted_marked marks came c (changes came c) m.size n w refl h)

-- more than sixteen marks are too many for every block
pub many_marks : (marks came left : List ℕ) (r : Decoded) → length came ≡ 204 → Marks marks → 16 < marked marks → DecodesMarked marks came left r → Same left came r (Err Uncorrectable)
many_marks marks came left r n m h d =
    unique_marked marks came left came r (Err Uncorrectable) d (n, m, record { unchanged = refl; far = λ c w. omega arith })

-- ---- a codeword within eight bytes

pub near : (came c : List ℕ) → length came ≡ 204 → Codeword c → differ came c ≤ 8 → Decodes came c (Ok (changes came c))
near came c n w h = (n, accepted came c (changes came c) n w refl h)

-- a block within eight bytes of a codeword decodes to it
pub decodes_near : (came c left : List ℕ) (r : Decoded) → length came ≡ 204 → Codeword c → differ came c ≤ 8 → Decodes came left r → Same left c r (Ok (changes came c))
decodes_near came c left r n w h d = unique came left c r (Ok (changes came c)) d (near came c n w h)

-- a codeword decodes to itself, with nothing changed
pub decodes_codeword : (c left : List ℕ) (r : Decoded) → Codeword c → Decodes c left r → Same left c r (Ok no_change)
decodes_codeword c left r w d =
    unique c left c r (Ok no_change) d (codeword_length c w, accepted c c no_change (codeword_length c w) w (sym (changes_none c)) (omega (arith, differ_none c)))

-- ---- what is changed

-- whatever decoding answers, what it tells that it changed is what differs between the block that came and the one left
pub tells_changes : (marks came left : List ℕ) (r : Decoded) → DecodesMarked marks came left r → changed_by r ≡ changes came left
tells_changes marks came left (Ok k) d = d.2.counted
tells_changes marks came left (Err Uncorrectable) d = sym (changes_none came) ∙ ap (λ (l : List ℕ). changes came l) (sym d.2.unchanged)
tells_changes marks came left (Err BlockLength) d = sym (changes_none came) ∙ ap (λ (l : List ℕ). changes came l) (sym d.1)
tells_changes marks came left (Err MarkValue) d = sym (changes_none came) ∙ ap (λ (l : List ℕ). changes came l) (sym d.2)
tells_changes marks came left (Err _) d = absurd d

-- at most sixteen bytes, and from one to eight bits in each of them
pub record FewChanges (changed : Changed) : Type 0 where
  pub few : changed.bytes ≤ 16
  pub least : changed.bytes ≤ changed.bits
  pub most : changed.bits ≤ 8 * changed.bytes

pub few_changes : (marks came left : List ℕ) (r : Decoded) → DecodesMarked marks came left r → FewChanges (changes came left)
few_changes marks came left r d = record { few = few r d; least = bits_least came left; most = bits_eightfold came left }
  where
    kept : left ≡ came → differ came left ≤ 16
    kept e = omega (arith, ap (differ came) e ∙ differ_none came)

    few : (r : Decoded) → DecodesMarked marks came left r → differ came left ≤ 16
    few (Ok k) d =
        omega (arith, differ_marked marks came left (d.1.size ∙ sym d.0) (d.0 ∙ sym (codeword_length left d.2.codeword)), d.2.within)
    few (Err Uncorrectable) d = kept d.2.unchanged
    few (Err BlockLength) d = kept d.1
    few (Err MarkValue) d = kept d.2
    few (Err _) d = absurd d

-- without marks at most eight
pub within_eight : (came left : List ℕ) (r : Decoded) → Decodes came left r → differ came left ≤ 8
within_eight came left (Ok k) d = d.1.within
within_eight came left (Err Uncorrectable) d = omega (arith, ap (differ came) d.1.unchanged ∙ differ_none came)
within_eight came left (Err BlockLength) d = omega (arith, ap (differ came) d.1 ∙ differ_none came)
within_eight came left (Err _) d = absurd d

-- ---- total

pub record Outcome (marks came : List ℕ) : Type 0 where
  pub left : List ℕ
  pub answer : Decoded
  pub decodes : DecodesMarked marks came left answer

all_dec : (n : ℕ) (P : ℕ → Type 0) → ((k : ℕ) → Dec (P k)) → Dec ((k : ℕ) → k < n → P k)
all_dec zero P d = yes (λ k h. absurd (not-suc-le-zero h))
all_dec (suc n) P d = go (d n) (all_dec n P d)
  where
    more : P n → ((k : ℕ) → k < n → P k) → (k : ℕ) → k < suc n → Dec (k ≡ n) → P k
    more p r k h (yes e) = subst P (sym e) p
    more p r k h (no e) = r k (omega arith)

    go : Dec (P n) → Dec ((k : ℕ) → k < n → P k) → Dec ((k : ℕ) → k < suc n → P k)
    go (yes p) (yes r) = yes (λ k h. more p r k h (ℕ_discrete k n))
    go (yes p) (no r) = no (λ a. r (λ k h. a k (omega arith)))
    go (no p) r = no (λ a. p (a n (omega arith)))

module _ (marks came : List ℕ) where
  -- what a codeword with 2 e + f at most 16 has
  abbrev Near : List ℕ → Type 0
  Near c = (cost marks came c ≤ 16) × ((j : ℕ) → j < 16 → block_syndrome c j ≡ bytes.𝟘)

  near_dec : (c : List ℕ) → Dec (Near c)
  near_dec c = go (dec_le (cost marks came c) 16) (all_dec 16 (λ j. block_syndrome c j ≡ bytes.𝟘) (λ j. bytes.dec (block_syndrome c j) bytes.𝟘))
    where
      go : Dec (cost marks came c ≤ 16) → Dec ((j : ℕ) → j < 16 → block_syndrome c j ≡ bytes.𝟘) → Dec (Near c)
      go (yes a) (yes b) = yes (a, b)
      go (yes a) (no b) = no (λ h. b h.1)
      go (no a) b = no (λ h. a h.0)

  marks_dec : Dec (Marks marks)
  marks_dec = go (ℕ_discrete (length marks) 204) (all_dec 204 (λ i. get_or marks i 0 ≤ 1) (λ i. dec_le (get_or marks i 0) 1))
    where
      go : Dec (length marks ≡ 204) → Dec ((i : ℕ) → i < 204 → get_or marks i 0 ≤ 1) → Dec (Marks marks)
      go (yes a) (yes b) = yes (record { size = a; bits = b })
      go (yes a) (no b) = no (λ h. b h.bits)
      go (no a) b = no (λ h. a h.size)

  block_outcome : length came ≡ 204 → Marks marks → Outcome marks came
  block_outcome n m = go (list_search 204 Near near_dec)
    where
      far : (Found Near 204 → ⊥) → (c : List ℕ) → Codeword c → Dec (16 < cost marks came c) → 16 < cost marks came c
      far f c w (yes h) = h
      far f c w (no h) =
          absurd (f (record { list = c; size = codeword_length c w; small = codeword_bytes c w; holds = (omega arith, codeword_syndromes c w) }))

      go : Dec (Found Near 204) → Outcome marks came
      go (yes f) =
          record {
            left = f.list;
            answer = Ok (changes came f.list);
            decodes = (n, m, accepted_marked marks came f.list (changes came f.list) m.size n (codeword_of f.list f.size f.small f.holds.1) refl f.holds.0);
          }
      go (no f) =
          record { left = came; answer = Err Uncorrectable; decodes = (n, m, record { unchanged = refl; far = λ c w. far f c w (dec_lt 16 (cost marks came c)) }) }

  pub total : Outcome marks came
  total = go (ℕ_discrete (length came) 204) marks_dec
    where
      go : Dec (length came ≡ 204) → Dec (Marks marks) → Outcome marks came
      go (yes n) (yes m) = block_outcome n m
      go (yes n) (no m) = record { left = came; answer = Err MarkValue; decodes = (n, m, refl) }
      go (no n) m = record { left = came; answer = Err BlockLength; decodes = (n, refl) }
