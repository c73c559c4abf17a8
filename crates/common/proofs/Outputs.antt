-- An output with a list written to a place of it.
-- Assumes nothing.
use mathlib.Core.Path.{◌≡◌, ap, ap₂, sym, ◌∙◌}
use mathlib.Core.List.{List, [], ◌++◌, append_assoc, append-nil}
use Prim.Native.Nat.{ℕ, ◌+◌, ◌-◌, ◌≤◌}
use native.Mathlib.Nat.{add-zero, add_assoc}
use native.Mathlib.Omega.{arith}
use lib.ListN.{length, take, drop, length-append, length-drop, take-append-drop}
use lib.Seq.{take_at, drop_at, length-take-le, drop-drop}
use Rattle.common.specs.Lists.{placed}
use Rattle.common.proofs.Written.{Written, written_all}

pub placed_all : {at : ℕ} {d s r : List ℕ} {n : ℕ} → Written at d s r n → length s ≡ n → r ≡ placed d at s
placed_all {at} {d} {s} {r} {n} w e = written_all w e ∙ ap (λ (m : ℕ). take at d ++ s ++ drop (at + m) d) (sym e)

-- nothing written
pub placed_none : (output : List ℕ) (at : ℕ) → output ≡ placed output at []
placed_none output at =
    sym
    (ap₂ (λ (x : List ℕ) (n : ℕ). x ++ drop n output) (append-nil (take at output)) (add-zero at) ∙ take-append-drop at output)

module _ (output : List ℕ) (at : ℕ) (s : List ℕ) (fits : at + length s ≤ length output) where
  length_front : length (take at output ++ s) ≡ at + length s
  length_front = length-append (take at output) s ∙ ap (λ (n : ℕ). n + length s) (length-take-le at output (omega arith))

  pub length_placed : length (placed output at s) ≡ length output
  length_placed =
      let whole : at + length s + (length output - (at + length s)) ≡ length output = omega arith in
      length-append (take at output ++ s) (drop (at + length s) output)
      ∙ ap₂ (λ (m n : ℕ). m + n) length_front (length-drop (at + length s) output)
      ∙ whole

  -- one list after another
  pub placed_append : (t : List ℕ) → placed (placed output at s) (at + length s) t ≡ placed output at (s ++ t)
  placed_append t =
      let front : List ℕ = take at output ++ s in
      let rest : List ℕ = drop (at + length s) output in
      let a : take (at + length s) (front ++ rest) ≡ front = take_at front rest (at + length s) length_front in
      let b : drop (at + length s + length t) (front ++ rest) ≡ drop (at + length (s ++ t)) output
      = sym (drop-drop (length t) (at + length s) (front ++ rest))
      ∙ ap (drop (length t)) (drop_at front rest (at + length s) length_front)
      ∙ drop-drop (length t) (at + length s) output
      ∙ ap (λ (n : ℕ). drop n output) (add_assoc at (length s) (length t) ∙ ap (λ (n : ℕ). at + n) (sym (length-append s t)))
      in
      ap₂ (λ (x y : List ℕ). x ++ t ++ y) a b
      ∙ ap (λ (x : List ℕ). x ++ drop (at + length (s ++ t)) output) (append_assoc (take at output) s t)

-- three lists, one after another
pub placed_three : (output a b c : List ℕ) → length (a ++ b ++ c) ≤ length output
    → placed (placed (placed output 0 a) (0 + length a) b) (0 + length a + length b) c ≡ placed output 0 (a ++ b ++ c)
placed_three output a b c fits =
    let m : length (a ++ b) ≡ length a + length b = length-append a b in
    let n : length (a ++ b ++ c) ≡ length (a ++ b) + length c = length-append (a ++ b) c in
    let k : 0 + length a + length b ≡ 0 + length (a ++ b) = omega arith in
    ap₂ (λ (x : List ℕ) (i : ℕ). placed x i c) (placed_append output 0 a (omega arith) b) k ∙ placed_append output 0 (a ++ b) (omega arith) c
