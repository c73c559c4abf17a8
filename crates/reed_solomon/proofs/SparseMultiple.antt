-- A multiple of g whose coefficients are 0 and 1, with nothing between x^84 and x^62. src/division.rt says how it was found.
-- Assumes nothing.
use mathlib.Core.Path.{◌≡◌, refl, sym, ap, ◌∙◌}
use mathlib.Core.List.{List, [], ◌∷◌}
use Prim.Native.Nat.{ℕ, ◌<◌, Fin}
use Rattle.algebra.specs.Field.{ops}
use Rattle.algebra.specs.Polynomial.{power, eval, plus, scale, product}
use Rattle.algebra.proofs.Ring.{zero_mul}
use Rattle.algebra.proofs.Polynomial.{eval_product}
use Rattle.galois.specs.Field256.{numbers, mul, rounds, times_x}
use Rattle.galois.proofs.Instance.{bytes}
use Rattle.galois.proofs.Elements.{elements, alpha}
use Rattle.galois.proofs.Words.{elements_product}
use Rattle.reed_solomon.specs.Code.{factors, generator}
use Rattle.reed_solomon.proofs.Codewords.{generator_root}

-- its coefficients, the lowest first
abbrev pub sparse : List ℕ
sparse = 1 ∷ 1 ∷ 1 ∷ 0 ∷ 1 ∷ 0 ∷ 1 ∷ 1 ∷ 0 ∷ 0 ∷ 0 ∷ 0 ∷ 1 ∷ 0 ∷ 1 ∷ 1 ∷ 1 ∷ 1 ∷ 0 ∷ 1 ∷ 0 ∷ 1 ∷ 0 ∷ 0 ∷ 0 ∷ 1 ∷ 1 ∷ 0 ∷ 0 ∷ 1 ∷ 0 ∷ 0 ∷ 0 ∷ 0 ∷ 0 ∷ 0 ∷ 1 ∷ 0 ∷ 0 ∷ 0 ∷ 1 ∷ 1 ∷ 0 ∷ 0 ∷ 0 ∷ 0 ∷ 0 ∷ 1 ∷ 0 ∷ 1 ∷ 1 ∷ 1 ∷ 0 ∷ 0 ∷ 0 ∷ 0 ∷ 0 ∷ 0 ∷ 0 ∷ 0 ∷ 0 ∷ 1 ∷ 1 ∷ 0 ∷ 0 ∷ 0 ∷ 0 ∷ 0 ∷ 0 ∷ 0 ∷ 0 ∷ 0 ∷ 0 ∷ 0 ∷ 0 ∷ 0 ∷ 0 ∷ 0 ∷ 0 ∷ 0 ∷ 0 ∷ 0 ∷ 0 ∷ 0 ∷ 1 ∷ []

-- what it is g times
abbrev cofactor : List ℕ
cofactor = 169 ∷ 133 ∷ 248 ∷ 184 ∷ 183 ∷ 129 ∷ 71 ∷ 188 ∷ 213 ∷ 70 ∷ 159 ∷ 176 ∷ 37 ∷ 78 ∷ 118 ∷ 75 ∷ 124 ∷ 4 ∷ 147 ∷ 41 ∷ 88 ∷ 23 ∷ 4 ∷ 238 ∷ 13 ∷ 68 ∷ 231 ∷ 46 ∷ 144 ∷ 23 ∷ 170 ∷ 13 ∷ 34 ∷ 253 ∷ 154 ∷ 30 ∷ 146 ∷ 176 ∷ 61 ∷ 162 ∷ 156 ∷ 3 ∷ 186 ∷ 125 ∷ 57 ∷ 94 ∷ 167 ∷ 29 ∷ 70 ∷ 105 ∷ 19 ∷ 22 ∷ 152 ∷ 237 ∷ 107 ∷ 204 ∷ 39 ∷ 93 ∷ 136 ∷ 197 ∷ 250 ∷ 27 ∷ 51 ∷ 10 ∷ 41 ∷ 114 ∷ 33 ∷ 59 ∷ 1 ∷ []

sparse_is : product numbers generator cofactor ≡ sparse
unfolding generator factors product scale plus power mul rounds times_x
sparse_is = refl

pub sparse_root : (j : ℕ) → j < 16 → eval (ops bytes) (elements sparse) (alpha j) ≡ bytes.𝟘
sparse_root j h =
    ap (λ (l : List ℕ). eval (ops bytes) (elements l) (alpha j)) (sym sparse_is)
    ∙ ap (λ (p : List (Fin 256)). eval (ops bytes) p (alpha j)) (elements_product generator cofactor)
    ∙ eval_product bytes (elements generator) (elements cofactor) (alpha j)
    ∙ ap (λ (u : Fin 256). bytes.mul u (eval (ops bytes) (elements cofactor) (alpha j))) (generator_root j h)
    ∙ zero_mul bytes (eval (ops bytes) (elements cofactor) (alpha j))
