-- Marks with zeros behind them.
-- Assumes nothing.
use mathlib.Core.Path.{◌≡◌, sym, ap, ap₂, ◌∙◌}
use mathlib.Core.List.{List, [], ◌∷◌, ◌++◌, append_assoc, append-nil}
use mathlib.Core.Logic.{◌⊎◌, inl, inr}
use Prim.Native.Nat.{ℕ, ◌+◌, ◌-◌, ◌≤◌}
use native.Mathlib.Omega.{arith}
use lib.ListN.{length, replicate, length-append, length-replicate, replicate-append-replicate}
use Rattle.common.specs.Lists.{padded}

-- marks behind marks: as many as bytes came, or none come any more
pub padded_both : (own more : List ℕ) (b n : ℕ) → length own ≤ b → length more ≤ n → (length own ≡ b) ⊎ (length more ≡ 0) → padded b own ++ padded n more ≡ padded (b + n) (own ++ more)
padded_both own more b n h l (inl e) =
    let z : ℕ = 0 in
    let d : b - length own ≡ 0 = omega arith in
    let f : n - length more ≡ b + n - length (own ++ more) = omega (arith, length-append own more) in
    ap (λ (k : ℕ). (own ++ replicate k z) ++ padded n more) d ∙ ap (λ (x : List ℕ). x ++ padded n more) (append-nil own)
    ∙ sym (append_assoc own more (replicate (n - length more) z)) ∙ ap (λ (k : ℕ). (own ++ more) ++ replicate k z) f
padded_both own [] b n h l (inr e) =
    let z : ℕ = 0 in
    let f : b - length own + (n - 0) ≡ b + n - length (own ++ []) = omega (arith, length-append own []) in
    append_assoc own (replicate (b - length own) z) (replicate (n - 0) z)
    ∙ ap (λ (x : List ℕ). own ++ x) (replicate-append-replicate (b - length own) (n - 0) z)
    ∙ ap₂ (λ (x : List ℕ) (k : ℕ). x ++ replicate k z) (sym (append-nil own)) f
padded_both own (x ∷ more) b n h l (inr e) = absurd (omega arith)

pub padded_length : (n : ℕ) (own : List ℕ) → length own ≤ n → length (padded n own) ≡ n
padded_length n own h = let z : ℕ = 0 in omega (arith, length-append own (replicate (n - length own) z), length-replicate (n - length own) z)
