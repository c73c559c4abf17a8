-- A number in two bytes of a state.
-- Assumes nothing.
use mathlib.Core.Path.{◌≡◌, sym, ap, ap₂, ◌∙◌}
use mathlib.Core.List.{List, [], ◌∷◌}
use Prim.Native.Nat.{ℕ, suc, ◌+◌, ◌*◌, ◌/◌, ◌%◌, ◌<◌}
use native.Mathlib.Omega.{arith}
use lib.ListN.{length, get_or, take, drop}
use lib.Seq.{drop-cons, get_or-take, get_or-drop}

pub two_part : (bytes : List ℕ) (at : ℕ) → at + 1 < length bytes → get_or bytes at 0 < 256
    → (get_or bytes at 0 + 256 * get_or bytes (at + 1) 0) % 256 ∷ (get_or bytes at 0 + 256 * get_or bytes (at + 1) 0) / 256 ∷ [] ≡ take 2 (drop at bytes)
two_part bytes at h b =
    let e : at + 1 ≡ suc at = omega arith in
    let l : (get_or bytes at 0 + 256 * get_or bytes (at + 1) 0) % 256 ≡ get_or bytes at 0 = omega arith in
    let u : (get_or bytes at 0 + 256 * get_or bytes (at + 1) 0) / 256 ≡ get_or bytes (at + 1) 0 = omega arith in
    let d : drop at bytes ≡ get_or bytes at 0 ∷ get_or bytes (at + 1) 0 ∷ drop (suc (at + 1)) bytes =
    drop-cons bytes at 0 (omega arith) ∙ ap (λ (x : List ℕ). get_or bytes at 0 ∷ x) (ap (λ (k : ℕ). drop k bytes) (sym e) ∙ drop-cons bytes (at + 1) 0 h) in
    ap₂ (λ (x y : ℕ). x ∷ y ∷ []) l u ∙ sym (ap (take 2) d)

pub part_two : (bytes : List ℕ) (at n : ℕ) → take 2 (drop at bytes) ≡ n % 256 ∷ n / 256 ∷ [] → get_or bytes at 0 + 256 * get_or bytes (at + 1) 0 ≡ n
part_two bytes at n e =
    let z : at ≡ at + 0 = omega arith in
    let l : get_or bytes at 0 ≡ n % 256 =
    ap (λ (k : ℕ). get_or bytes k 0) z ∙ sym (get_or-take 2 (drop at bytes) 0 0 (omega arith) ∙ get_or-drop at bytes 0 0) ∙ ap (λ (x : List ℕ). get_or x 0 0) e in
    let u : get_or bytes (at + 1) 0 ≡ n / 256 =
    sym (get_or-take 2 (drop at bytes) 1 0 (omega arith) ∙ get_or-drop at bytes 1 0) ∙ ap (λ (x : List ℕ). get_or x 1 0) e in
    omega arith
