-- A text decides what its season answers and its totals; a text is a season of reports exactly when it is their texts joined.
-- Assumes nothing.
use mathlib.Core.Path.{◌≡◌, refl, sym, ap, ◌∙◌, subst, subst₂}
use mathlib.Core.List.{List, [], ◌∷◌, ◌++◌, append_assoc, append-nil}
use Prim.Native.Nat.{ℕ, ◌+◌, ◌<◌}
use native.Mathlib.Decide.{ℕ_discrete}
use native.Mathlib.Omega.{arith}
use borrow.Author.Tests.{eq-eqb, ne_eqb}
use lib.ListN.{length, get_or, length-append}
use Rattle.common.specs.Lists.{All}
use Rattle.common.proofs.Choice.{false_true}
use Rattle.report_lines.specs.Line.{line_text}
use Rattle.report.specs.declared.Report.{Report}
use Rattle.report.specs.Text.{sums, report_text}
use Rattle.report.specs.Read.{ReadsReport, front, front_wrong, front_none}
use Rattle.report.proofs.Fronts.{report_unique}
use Rattle.season_totals.specs.Totals.{TotalsOf}
use Rattle.season_totals.specs.Season.{Good, texts, SeasonEnds, summed, refused, too_many, Seasons, JoinedTexts, SeasonExactly, totals_text, season_text}
use Rattle.season_totals.proofs.Progress.{report_some}
use Rattle.season_totals.proofs.Fractions.{worst_unique}

-- a report at the front of a text is read, with answer 0
front_good : (t : List ℕ) (n : ℕ) (r u : Report) (x y : List ℕ) → ReadsReport t n r x → Good u → t ≡ report_text u ++ y → n ≡ 0
front_good t n r u x y (front e f a p) g q = e
front_good t n r u x y (front_wrong s e b f a p) g q = let d = (report_unique s u x y f g.fit (sym p ∙ q)).0 in false_true (sym a ∙ ap sums d ∙ g.add)
front_good t n r u x y (front_none e b f) g q = absurd (f u y g.fit q)

-- two answers to one text, neither of them 0
front_once : (t : List ℕ) (n m : ℕ) (r s : Report) (x y : List ℕ) → ReadsReport t n r x → ReadsReport t m s y → (n ≡ 0 → ⊥) → (m ≡ 0 → ⊥) → n ≡ m
front_once t n m r s x y (front e f a p) v i j = absurd (i e)
front_once t n m r s x y (front_wrong u e b f a p) (front d g c q) i j = absurd (j d)
front_once t n m r s x y (front_wrong u e b f a p) (front_wrong v d k g c q) i j = e ∙ sym d
front_once t n m r s x y (front_wrong u e b f a p) (front_none d k g) i j = absurd (g u x f p)
front_once t n m r s x y (front_none e b f) (front d g c q) i j = absurd (j d)
front_once t n m r s x y (front_none e b f) (front_wrong v d k g c q) i j = absurd (f v y g q)
front_once t n m r s x y (front_none e b f) (front_none d k g) i j = e ∙ sym d

-- one list of reports begins the other
data Begins (rs ss : List Report) (x y : List ℕ) : Type 0 where
  same : rs ≡ ss → x ≡ y → Begins rs ss x y
  shorter : (u : Report) (z : List ℕ) → Good u → length rs < length ss → x ≡ report_text u ++ z → Begins rs ss x y
  longer : (u : Report) (z : List ℕ) → Good u → length ss < length rs → y ≡ report_text u ++ z → Begins rs ss x y

begins : (rs ss : List Report) (x y : List ℕ) → All Good rs → All Good ss → texts rs ++ x ≡ texts ss ++ y → Begins rs ss x y
begins [] [] x y a b q = same refl q
begins [] (s ∷ ss) x y a b q = shorter s (texts ss ++ y) b.0 (omega arith) (q ∙ append_assoc (report_text s) (texts ss) y)
begins (r ∷ rs) [] x y a b q = longer r (texts rs ++ x) a.0 (omega arith) (sym q ∙ append_assoc (report_text r) (texts rs) x)
begins (r ∷ rs) (s ∷ ss) x y a b q =
    let u = report_unique r s (texts rs ++ x) (texts ss ++ y) a.0.fit b.0.fit
    (sym (append_assoc (report_text r) (texts rs) x) ∙ q ∙ append_assoc (report_text s) (texts ss) y) in
    more u.0 (begins rs ss x y a.1 b.1 u.1)
  where
    more : r ≡ s → Begins rs ss x y → Begins (r ∷ rs) (s ∷ ss) x y
    more e (same f g) = same (cc) g
    more e (shorter v z g h k) = shorter v z g (omega arith) k
    more e (longer v z g h k) = longer v z g (omega arith) k

module _ {rs : List Report} {rest : List ℕ} {n : ℕ} {v : List ℕ} where
  -- what follows the reports is no further report
  stops : SeasonEnds rs rest n v → (u : Report) (z : List ℕ) → Good u → rest ≡ report_text u ++ z → length rs < 4096 → ⊥
  stops (summed e f s) u z g q h =
      let l : 0 ≡ length (report_text u) + length z = sym (ap length f) ∙ ap length q ∙ length-append (report_text u) z in
      omega (arith, report_some u)
  stops (refused r x e b k l w) u z g q h = e (front_good rest n r u x z w g q)
  stops (too_many e b k l) u z g q h = omega arith

  -- no answer but 0 where nothing follows the reports
  none_left : SeasonEnds rs rest n v → rest ≡ [] → (n ≡ 0) × TotalsOf rs v
  none_left (summed e f s) q = (e, s)
  none_left (refused r x e b k l w) q = let m = ap length q in absurd (omega arith)
  none_left (too_many e b k l) q = let m = ap length q in absurd (omega arith)

-- ---- the answer

number_once : (t : List ℕ) (n m : ℕ) (v w : List ℕ) → Seasons t n v → Seasons t m w → n ≡ m
number_once t n m v w a b = go (begins a.reports b.reports a.rest b.rest a.good b.good (sym a.text ∙ b.text))
  where
    both : (rs : List Report) (x : List ℕ) → SeasonEnds rs x n v → SeasonEnds rs x m w → n ≡ m
    both rs x (summed e f s) y = e ∙ sym (none_left y f).0
    both rs x (refused r z e c k l u) (summed d f s) = let j = ap length f in absurd (omega arith)
    both rs x (refused r z e c k l u) (refused s y d f i j p) = front_once x n m r s z y u p e d
    both rs x (refused r z e c k l u) (too_many d f i j) = absurd (omega arith)
    both rs x (too_many e c k l) (summed d f s) = let j = ap length f in absurd (omega arith)
    both rs x (too_many e c k l) (refused s y d f i j p) = absurd (omega arith)
    both rs x (too_many e c k l) (too_many d f i j) = e ∙ sym d

    go : Begins a.reports b.reports a.rest b.rest → n ≡ m
    go (same e f) = both b.reports b.rest (subst₂ (λ (rs : List Report) (x : List ℕ). SeasonEnds rs x n v) e f a.ends) b.ends
    go (shorter u z g h k) = absurd (stops a.ends u z g k (omega (arith, b.few)))
    go (longer u z g h k) = absurd (stops b.ends u z g k (omega (arith, a.few)))

-- ---- a season of these reports

joined_begins : (t : List ℕ) (n : ℕ) (v : List ℕ) (a : Seasons t n v) (rs : List Report) → JoinedTexts rs t → Begins a.reports rs a.rest []
joined_begins t n v a rs j = begins a.reports rs a.rest [] a.good j.good (sym a.text ∙ j.text ∙ sym (append-nil (texts rs)))

-- A text is read as a season of reports exactly when it is their texts joined.
pub season_exactly : (t : List ℕ) (n : ℕ) (v : List ℕ) → Seasons t n v → SeasonExactly t n v
season_exactly t n v a = record { read = read a.ends; written = λ rs j. by rs j (joined_begins t n v a rs j) }
  where
    read : SeasonEnds a.reports a.rest n v → n ≡ 0 → (rs : List Report) × JoinedTexts rs t × TotalsOf rs v
    read (summed e f s) z = (
      a.reports,
      record { good = a.good; few = a.few; text = a.text ∙ ap (λ (l : List ℕ). texts a.reports ++ l) f ∙ append-nil (texts a.reports) },
      s,
    )
    read (refused r x e b k l w) z = absurd (e z)
    read (too_many e b k l) z = absurd (omega arith)

    by : (rs : List Report) → JoinedTexts rs t → Begins a.reports rs a.rest [] → (n ≡ 0) × TotalsOf rs v
    by rs j (same e f) = let d = none_left a.ends f in (d.0, subst (λ (l : List Report). TotalsOf l v) e d.1)
    by rs j (shorter u z g h k) = absurd (stops a.ends u z g k (omega (arith, j.few)))
    by rs j (longer u z g h k) =
        let l : 0 ≡ length (report_text u) + length z = ap length k ∙ length-append (report_text u) z in
        absurd (omega (arith, report_some u))

-- ---- what is printed

totals_same : {rs : List Report} {v w : List ℕ} → TotalsOf rs v → TotalsOf rs w → totals_text v ≡ totals_text w
totals_same {rs} {v} {w} a b =
    let p : get_or v 0 0 ≡ get_or w 0 0 = a.passes ∙ sym b.passes in
    let q : get_or v 1 0 ≡ get_or w 1 0 = a.taken ∙ sym b.taken in
    let r : get_or v 2 0 ≡ get_or w 2 0 = a.lost ∙ sym b.lost in
    let s : get_or v 3 0 ≡ get_or w 3 0 = a.changed ∙ sym b.changed in
    let u : get_or v 4 0 ≡ get_or w 4 0 = worst_unique rs _ _ _ _ _ _ a.worst b.worst in
    rw (p, q, r, s, u) refl

-- two seasons of one text print the same
pub same_text : {t v w : List ℕ} {n m : ℕ} → Seasons t n v → Seasons t m w → season_text n v ≡ season_text m w
same_text {t} {v} {w} {n} {m} a b = by (ℕ_discrete n 0)
  where
    e : n ≡ m
    e = number_once t n m v w a b

    by : Dec (n ≡ 0) → season_text n v ≡ season_text m w
    by (yes z) =
        let y : m ≡ 0 = sym e ∙ z in
        let d = (season_exactly t n v a).read z in
        let g = (season_exactly t m w b).written d.0 d.1 in
        rw (eq-eqb n 0 z, eq-eqb m 0 y) (totals_same d.2 g.1)
    by (no z) = rw (ne_eqb n 0 z, ne_eqb m 0 (λ y. z (e ∙ y))) (ap (line_text []) e)
