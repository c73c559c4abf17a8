-- Fractions compared by their cross products; the worst of a list of reports, and one more.
-- Assumes nothing.
use mathlib.Core.Path.{◌≡◌, refl, sym, ap, ◌∙◌, subst, subst₂}
use mathlib.Core.Bool.{Bool, true}
use mathlib.Core.List.{List, [], ◌∷◌, ◌++◌}
use Prim.Native.Nat.{ℕ, ◌+◌, ◌*◌, ◌≤◌, ◌<◌}
use native.Mathlib.Nat.{mul-le-mul_right, mul-lt-mul_of_pos_right, lt_of_mul-lt-mul_right, mul_right_comm}
use native.Mathlib.Decide.{dec_lt, ℕ_discrete}
use native.Mathlib.Omega.{arith}
use borrow.Author.Tests.{lt-ltb, le-ltb, eq-eqb, ne_eqb}
use lib.ListN.{length, get_or, length-append, get_or-append}
use lib.Seq.{get_or_at}
use Rattle.common.specs.Choice.{pick}
use Rattle.common.specs.Lists.{total}
use Rattle.report.specs.declared.Report.{Report}
use Rattle.report.specs.Read.{blank}
use Rattle.season_totals.specs.Totals.{accepted, nth, Worst, TotalsOf, beats, counted_report}

-- of three fractions: at most, less, so less
pub cross : (p a c q d b : ℕ) → 0 < a → 0 < q → p * a ≤ c * q → c * b < d * a → p * b < d * q
cross p a c q d b ha hq h k =
    let x : p * b * a ≤ c * q * b = subst (λ (n : ℕ). n ≤ c * q * b) (mul_right_comm p a b) (mul-le-mul_right b h) in
    let y : c * q * b < d * q * a = subst₂ (λ (m n : ℕ). m < n) (mul_right_comm c b q) (mul_right_comm d a q) (mul-lt-mul_of_pos_right k hq) in
    lt_of_mul-lt-mul_right a (omega arith)

module _ (rs : List Report) (r : Report) where
  longer : length (rs ++ r ∷ []) ≡ length rs + 1
  longer = length-append rs (r ∷ [])

  old : (j : ℕ) → j < length rs → nth (rs ++ r ∷ []) j ≡ nth rs j
  old j h = get_or-append rs (r ∷ []) blank j h

  new : nth (rs ++ r ∷ []) (length rs) ≡ r
  new = get_or_at rs r [] blank (length rs) refl

  -- what holds of each report, and of one more
  each : (P : Report → Type 0) → ((j : ℕ) → j < length rs → P (nth rs j)) → P r → (j : ℕ) → j < length (rs ++ r ∷ []) → P (nth (rs ++ r ∷ []) j)
  each P f p j h = by (ℕ_discrete j (length rs))
    where
      by : Dec (j ≡ length rs) → P (nth (rs ++ r ∷ []) j)
      by (yes e) = subst (λ (k : ℕ). P (nth (rs ++ r ∷ []) k)) (sym e) (subst P (sym new) p)
      by (no e) = let l : j < length rs = omega (arith, longer) in subst P (sym (old j l)) (f j l)

  total_more : (f : Report → ℕ) → total f (rs ++ r ∷ []) ≡ total f rs + f r
  total_more f = go rs
    where
      go : (ss : List Report) → total f (ss ++ r ∷ []) ≡ total f ss + f r
      go [] = omega arith
      go (s ∷ ss) = let e = go ss in omega arith

  module _ (w c a : ℕ) (o : Worst rs w c a) where
    -- the worst stays
    stays : (0 < a → 0 < accepted r → r.changed * a ≤ c * accepted r) → (a ≡ 0 → accepted r ≡ 0) → Worst (rs ++ r ∷ []) w c a
    stays h z = record {
      none = λ e. ((o.none e).0, (o.none e).1, each (λ s. accepted s ≡ 0) (o.none e).2 (z e));
      place = λ e.
          let p = o.place e in
          let l : p.0 < length rs = p.2 in
          (p.0, p.1, omega (arith, longer), p.3 ∙ ap (λ (s : Report). s.changed) (sym (old p.0 l)), p.4 ∙ ap accepted (sym (old p.0 l)));
      most = λ e. each (λ s. 0 < accepted s → s.changed * a ≤ c * accepted s) (o.most e) (h e);
      first = λ e j l m.
          let p = o.place e in
          let k : j < length rs = omega (arith, p.1, p.2) in
          subst (λ (s : Report). 0 < accepted s → s.changed * a < c * accepted s) (sym (old j k)) (o.first e j l k);
    }

    -- the report is the worst
    goes : 0 < accepted r → ((j : ℕ) → j < length rs → 0 < accepted (nth rs j) → (nth rs j).changed * accepted r < r.changed * accepted (nth rs j))
        → Worst (rs ++ r ∷ []) (length rs + 1) r.changed (accepted r)
    goes p f = record {
      none = λ e. absurd (omega arith);
      place = λ e. (length rs, refl, omega (arith, longer), ap (λ (s : Report). s.changed) (sym new), ap accepted (sym new));
      most = λ e. each (λ s. 0 < accepted s → s.changed * accepted r ≤ r.changed * accepted s) (λ j h k. let g = f j h k in omega arith) (λ k. omega arith);
      first = λ e j l m.
          let k : j < length rs = omega arith in
          subst (λ (s : Report). 0 < accepted s → s.changed * accepted r < r.changed * accepted s) (sym (old j k)) (f j k);
    }

  -- a report more
  pub totals_more : (t : List ℕ) → TotalsOf rs t → TotalsOf (rs ++ r ∷ []) (counted_report t r)
  totals_more t s = record {
    passes = omega (arith, s.passes, longer);
    taken = omega (arith, s.taken, total_more (λ r. r.taken));
    lost = omega (arith, s.lost, total_more (λ r. r.lost));
    changed = omega (arith, s.changed, total_more (λ r. r.changed));
    worst = by (ℕ_discrete (accepted r) 0) (ℕ_discrete (get_or t 6 0) 0) (dec_lt (get_or t 5 0 * accepted r) (r.changed * get_or t 6 0));
  }
    where
      o : Worst rs (get_or t 4 0) (get_or t 5 0) (get_or t 6 0)
      o = s.worst

      leads : Bool → Type 0
      leads x = Worst (rs ++ r ∷ []) (pick x (get_or t 0 0 + 1) (get_or t 4 0)) (pick x r.changed (get_or t 5 0)) (pick x (accepted r) (get_or t 6 0))

      takes : Worst (rs ++ r ∷ []) (length rs + 1) r.changed (accepted r) → leads true
      takes x = subst (λ (n : ℕ). Worst (rs ++ r ∷ []) (n + 1) r.changed (accepted r)) (sym s.passes) x

      by : Dec (accepted r ≡ 0) → Dec (get_or t 6 0 ≡ 0) → Dec (get_or t 5 0 * accepted r < r.changed * get_or t 6 0) → leads (beats t r)
      by (yes e) y z = rw (eq-eqb _ _ e) (stays _ _ _ o (λ p q. absurd (omega arith)) (λ p. e))
      by (no e) (yes f) z =
          rw (ne_eqb _ _ e, eq-eqb _ _ f) (takes (goes _ _ _ o (omega arith) (λ j h k. let g = (o.none f).2 j h in absurd (omega arith))))
      by (no e) (no f) (yes l) =
          rw (ne_eqb _ _ e, ne_eqb _ _ f, lt-ltb _ _ l)
          (takes (goes _ _ _ o (omega arith) (λ j h k. cross _ _ _ _ _ _ (omega arith) k (o.most (omega arith) j h k) l)))
      by (no e) (no f) (no l) =
          rw (ne_eqb _ _ e, ne_eqb _ _ f, le-ltb (get_or t 5 0 * accepted r) (r.changed * get_or t 6 0) (omega arith)) (stays _ _ _ o (λ p q. omega arith) (λ p. absurd (f p)))

-- ---- the worst is one

-- two numbers that both are the worst of the same reports are equal
pub worst_unique : (rs : List Report) (w c a v d b : ℕ) → Worst rs w c a → Worst rs v d b → w ≡ v
worst_unique rs w c a v d b x y = by (ℕ_discrete a 0) (ℕ_discrete b 0)
  where
    -- one that stands earlier is beaten
    earlier : (w c a v d b : ℕ) → Worst rs w c a → Worst rs v d b → 0 < a → 0 < b → w < v → ⊥
    earlier w c a v d b x y p q h =
        let m = x.place p in
        let n = y.place q in
        let e : 0 < accepted (nth rs m.0) = omega (arith, m.4) in
        let f : 0 < accepted (nth rs n.0) = omega (arith, n.4) in
        let l = y.first q m.0 (omega (arith, m.1)) m.2 e in
        let k = x.most p n.0 n.2 f in
        let s : c * b < d * a = subst₂ (λ (i j : ℕ). i * b < d * j) (sym m.3) (sym m.4) l in
        let t : d * a ≤ c * b = subst₂ (λ (i j : ℕ). i * a ≤ c * j) (sym n.3) (sym n.4) k in
        omega arith

    order : 0 < a → 0 < b → Dec (w < v) → Dec (v < w) → w ≡ v
    order p q (yes h) z = absurd (earlier w c a v d b x y p q h)
    order p q (no h) (yes k) = absurd (earlier v d b w c a y x q p k)
    order p q (no h) (no k) = omega arith

    by : Dec (a ≡ 0) → Dec (b ≡ 0) → w ≡ v
    by (yes e) (yes f) = (x.none e).0 ∙ sym (y.none f).0
    by (yes e) (no f) = let n = y.place (omega arith) in let g = (x.none e).2 n.0 n.2 in absurd (f (n.4 ∙ g))
    by (no e) (yes f) = let n = x.place (omega arith) in let g = (y.none f).2 n.0 n.2 in absurd (e (n.4 ∙ g))
    by (no e) (no f) = order (omega arith) (omega arith) (dec_lt w v) (dec_lt v w)
