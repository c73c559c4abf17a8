-- `error_correction::value_fractions` meets its contract: the sums run over the coefficients of the quotients from k on.
-- Assumes nothing.
use mathlib.Core.Path.{◌≡◌, sym, ap₂, ◌∙◌}
use mathlib.Core.List.{List, ◌∷◌, []}
use Prim.Native.Nat.{ℕ, suc, ◌-◌, ◌≤◌, ◌<◌}
use native.Mathlib.Omega.{arith}
use lib.ListN.{length, get_or, take, replicate, length-append}
use lib.Seq.{length-take-le, get_or-take, get_or_at}
use lib.ListN.{get_or-append}
use Rattle.algebra.specs.Polynomial.{plus}
use Rattle.galois.specs.Field256.{numbers}
use Rattle.galois.specs.Lanes.{horner_step}
use Rattle.error_correction.specs.Correction.{monic}
use Rattle.error_correction.proofs.ErrorValues.{lanes_none, lanes_more}
use borrow.Author.Rules.{rules}
use Rattle.error_correction.proofs.value_fractions.Goals as goal

-- the polynomial of degree n, and its coefficients
module _ (p : List ℕ) (n : ℕ) (l : length p ≡ 16) (h : n ≤ 16) where
  low_length : length (take n p) ≡ n
  low_length = length-take-le n p (omega arith)

  monic_length : length (monic n p) ≡ suc n
  monic_length = length-append (take n p) (1 ∷ []) ∙ omega (arith, low_length)

  monic-top : 1 ≡ get_or (monic n p) n 0
  monic-top = sym (get_or_at (take n p) 1 [] 0 n low_length)

  monic-at : (k : ℕ) → k < n → get_or p k 0 ≡ get_or (monic n p) k 0
  monic-at k b = sym (get_or-append (take n p) (1 ∷ []) 0 k (omega (arith, low_length)) ∙ get_or-take n p k 0 b)

pub loop-k-init : goal.loop-k-init
loop-k-init c =
    let n = c.well_formed.0.1.0.1 in (
      monic-top c.args.p c.args.degree n c.requires,
      lanes_none (monic c.args.degree c.args.p) c.args.s c.args.places c.args.degree (monic_length c.args.p c.args.degree n c.requires) c.well_formed.1.1.1.0.1.0.1,
    )

pub loop-k-preserved : goal.loop-k-preserved
unfolding horner_step
loop-k-preserved c =
    let l = c.loop-k in
    let a = c.args in
    let n = c.well_formed.0.1.0.1 in
    let z = monic_length a.p a.degree n c.requires in (
      monic-at a.p a.degree n c.requires (l.k - 1) (omega arith),
      lanes_more (monic a.degree a.p) a.s a.places a.degree z c.well_formed.1.1.1.0.1.0.1 l.coefficients l.numerators l.denominators l.k (search rules) l.invariant.1 _ _ _ _ _
          (c.sum-c.ensures ∙ ap₂ (λ (b : List ℕ) (x : ℕ). plus numbers b (replicate 16 x)) c.products.ensures l.invariant.0)
          c.scale.ensures c.sum-n.ensures c.products-in-loop-k.ensures c.sum-d.ensures,
    )
