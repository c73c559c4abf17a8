-- What one block of a recording comes to: the tests, and which bytes matter.
-- Assumes nothing.
use mathlib.Core.Path.{◌≡◌, refl, sym, ap, ap₂, ◌∙◌}
use mathlib.Core.List.{List, ◌++◌}
use Prim.Native.Nat.{ℕ, ◌+◌, ◌-◌, ◌*◌, ◌≤◌, ◌<◌, min}
use native.Mathlib.Decide.{dec_lt}
use native.Mathlib.Omega.{arith}
use Rattle.std.proofs.Common.{Ok}
use borrow.Author.Tests.{eq-eqb, lt-ltb, le-ltb}
use lib.Dec.{eqb, ltb}
use lib.ListN.{length, get_or, take, drop, length-take, length-drop}
use lib.Seq.{get_or-take, get_or-drop}
use Rattle.common.specs.Choice.{pick}
use Rattle.answer.specs.Number.{answered}
use Rattle.reed_solomon.specs.Decode.{Decoded, Decodes, changed_by}
use Rattle.reed_solomon.specs.declared.Changed.{Changed}
use Rattle.reed_solomon.proofs.Codewords.{codeword_length}
use Rattle.reed_solomon.proofs.Laws.{unique}
use Rattle.interleaver.specs.Gathered.{place_in, gathered}
use Rattle.interleaver.proofs.Gathering.{gathered_same}
use Rattle.recording.specs.Block.{block_count, block_refusal, output_with, GivesBlock, block_refused, block_decoded, Agree, part_at, SameBlock}

-- ---- the tests

module _ (bytes : List ℕ) (blocks p : ℕ) (output : List ℕ) where
  module _ (b : blocks ≡ block_count bytes) where
    pub no_such_block : min blocks 4294967295 < p + 12 → block_refusal bytes blocks p output ≡ 16
    no_such_block h = simp (eq-eqb _ _ b, lt-ltb _ _ h)

    past_tests : p + 12 ≤ min blocks 4294967295 → block_refusal bytes blocks p output ≡ pick (ltb (length output) 204) 4 0
    past_tests h = simp (eq-eqb _ _ b, le-ltb _ _ h)

    pub no_refusal : p + 12 ≤ min blocks 4294967295 → 204 ≤ length output → block_refusal bytes blocks p output ≡ 0
    no_refusal h l = past_tests h ∙ simp (le-ltb _ _ l)
    -- ---- what the call gives

pub put_front : (came left output : List ℕ) (changed : Changed) → Decodes came left (Ok changed)
    → take 0 output ++ left ++ drop (0 + length left) output ≡ left ++ drop 204 output
put_front came left output changed d =
    let e : 0 + length left ≡ 204 = omega (arith, codeword_length left d.1.codeword) in
    ap (λ (n : ℕ). left ++ drop n output) e

-- ---- which bytes matter

-- the call is decided by its refusal and by the 204 bytes gathered
same_block : (a b : List ℕ) (blocks more p q : ℕ) (output : List ℕ) (r s : Decoded) (x y : List ℕ)
    → block_refusal a blocks p output ≡ block_refusal b more q output → gathered a p ≡ gathered b q
    → GivesBlock a blocks p output r x → GivesBlock b more q output s y → SameBlock r s x y
same_block a b blocks more p q output r s x y f g (block_refused h n c w) (block_refused k m d v) =
    record { number = n ∙ f ∙ sym m; changed = c ∙ sym d; written = w ∙ sym v }
same_block a b blocks more p q output r s x y f g (block_refused h n c w) (block_decoded left e k v) = absurd (omega arith)
same_block a b blocks more p q output r s x y f g (block_decoded left e h w) (block_refused k m d v) = absurd (omega arith)
same_block a b blocks more p q output r s x y f g (block_decoded l e h w) (block_decoded j o k v) =
    let u = unique (gathered b q) l j r s (rw g at h) k in
    record {
      number = ap answered u.answer;
      changed = ap changed_by u.answer;
      written = w ∙ ap₂ (λ (t : Decoded) (y : List ℕ). output_with t y output) u.answer u.block ∙ sym v;
    }

-- two recordings with the same number of whole blocks that agree in those 204 bytes give the same
pub agreeing : (a b : List ℕ) (blocks p : ℕ) (output : List ℕ) (r s : Decoded) (x y : List ℕ) → block_count a ≡ block_count b → Agree a b p
    → GivesBlock a blocks p output r x → GivesBlock b blocks p output s y → SameBlock r s x y
agreeing a b blocks p output r s x y e g h k =
    same_block a b blocks blocks p p output r s x y
    (ap (λ (n : ℕ). pick (eqb blocks n) (pick (ltb (min blocks 4294967295) (p + 12)) 16 (pick (ltb (length output) 204) 4 0)) 5) e)
    (gathered_same a b p p g) h k

-- ---- by seeking

-- Block p of a recording is block 0 of that part, so a file need not be read from its start. Where there is no such block, there is
-- none in the part either.
pub by_seeking : (bytes : List ℕ) (p : ℕ) (output : List ℕ) (r s : Decoded) (x y : List ℕ) → p + 12 ≤ 4294967295
    → GivesBlock bytes (block_count bytes) p output r x → GivesBlock (part_at bytes p) (block_count (part_at bytes p)) 0 output s y → SameBlock r s x y
by_seeking bytes p output r s x y m g k =
    same_block bytes (part_at bytes p) (block_count bytes) (block_count (part_at bytes p)) p 0 output r s x y (by (dec_lt (length bytes) (204 * p + 2448)))
    (gathered_same bytes (part_at bytes p) p 0 there) g k
  where
    size : length (part_at bytes p) ≡ min 2448 (length bytes - 204 * p)
    size = length-take 2448 (drop (204 * p) bytes) ∙ ap (min 2448) (length-drop (204 * p) bytes)

    by : Dec (length bytes < 204 * p + 2448) → block_refusal bytes (block_count bytes) p output ≡ block_refusal (part_at bytes p) (block_count (part_at bytes p)) 0 output
    by (yes l) =
        no_such_block bytes (block_count bytes) p output refl (omega arith)
        ∙ sym (no_such_block (part_at bytes p) (block_count (part_at bytes p)) 0 output refl (omega (arith, size)))
    by (no l) =
        past_tests bytes (block_count bytes) p output refl (omega arith)
        ∙ sym (past_tests (part_at bytes p) (block_count (part_at bytes p)) 0 output refl (omega (arith, size)))

    there : (n : ℕ) → n < 204 → get_or bytes (place_in p n) 0 ≡ get_or (part_at bytes p) (place_in 0 n) 0
    there n l =
        let e : 204 * p + place_in 0 n ≡ place_in p n = omega arith in
        sym
        (get_or-take 2448 (drop (204 * p) bytes) (place_in 0 n) 0 (omega arith) ∙ get_or-drop (204 * p) bytes (place_in 0 n) 0
        ∙ ap (λ (i : ℕ). get_or bytes i 0) e)
