-- The checksum of bytes after bytes.
-- Assumes nothing.
use Rattle.std.proofs.Common.{◌≡◌, ℕ, suc, ◌+◌, ◌<◌, ◌≤◌, List, [], ◌∷◌, ◌++◌, length, get_or, drop, sym, refl, ap, ◌∙◌, arith, drop_of_length-le, drop-cons}
use Rattle.program_io.specs.Checksum.{no_bytes, stepped, traced}
use Rattle.program_io.specs.declared.trace.Trace.{Trace}

pub traced_more : (t : Trace) (xs ys : List ℕ) → traced t (xs ++ ys) ≡ traced (traced t xs) ys
traced_more t [] ys = refl
traced_more t (x ∷ xs) ys = traced_more (stepped t x) xs ys

-- bytes that went on after bytes
pub traced_on : {t u : Trace} (xs ys : List ℕ) → t ≡ traced no_bytes xs → u ≡ traced t ys → u ≡ traced no_bytes (xs ++ ys)
traced_on xs ys e h = h ∙ ap (λ (x : Trace). traced x ys) e ∙ sym (traced_more no_bytes xs ys)

next : (i : ℕ) → suc i ≡ i + 1
next i = omega arith

pub traced_step : (t : Trace) (i : ℕ) (l : List ℕ) → i < length l → traced (stepped t (get_or l i 0)) (drop (i + 1) l) ≡ traced t (drop i l)
traced_step t i l h =
    ap (λ (k : ℕ). traced (stepped t (get_or l i 0)) (drop k l)) (sym (next i)) ∙ ap (traced t) (sym (drop-cons l i 0 h))

pub traced_end : (t : Trace) (i : ℕ) (l : List ℕ) → length l ≤ i → traced t (drop i l) ≡ t
traced_end t i l h = ap (traced t) (drop_of_length-le l {i = i} h)
