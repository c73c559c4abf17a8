-- Lines of the table, one after the other: read in one way only.
-- Assumes nothing.
use mathlib.Core.Path.{◌≡◌, refl, sym, ap, ap₂, ◌∙◌, subst}
use mathlib.Core.Bool.{Bool, true, false}
use mathlib.Core.List.{List, [], ◌++◌, append_assoc, append-nil}
use mathlib.Core.Logic.{⊎_elim}
use Prim.Native.Nat.{ℕ, zero, suc, ◌+◌, ◌*◌, ◌≤◌, ◌<◌}
use native.Mathlib.Nat.{le_of_suc-le-suc, not-suc-le-zero, eq-or-lt_of_le}
use native.Mathlib.Numerals.{add-one}
use native.Mathlib.Decide.{ℕ_discrete}
use native.Mathlib.Omega.{arith}
use borrow.Author.Tests.{leb-true, le-leb}
use lib.ListN.{length, get_or, set, length-append, length-set, drop}
use lib.Seq.{get_or-set_same, get_or-set_other}
use Rattle.common.proofs.Choice.{false_true, both_true}
use Rattle.report_lines.specs.Line.{line_text}
use Rattle.report_lines.specs.Reading.{LineIs}
use Rattle.report_lines.proofs.Digits.{line_unique, line_short}
use Rattle.report.specs.Text.{row, lines_text, numbers_within}
use Rattle.report.specs.Steps.{RowsRead}
use Rattle.report.proofs.Table.{table}

-- ---- limits

pub within_at : (n : ℕ) (vs : List ℕ) → numbers_within n vs ≡ true → (i : ℕ) → i < n → get_or vs i 0 ≤ (row i).limit
unfolding numbers_within
within_at zero vs w i h = absurd (not-suc-le-zero h)
within_at (suc n) vs w i h =
    let b = both_true _ _ w in
    ⊎_elim (λ e. subst (λ (k : ℕ). get_or vs k 0 ≤ (row k).limit) (sym e) (leb-true _ _ b.1)) (λ l. within_at n vs b.0 i l)
    (eq-or-lt_of_le (le_of_suc-le-suc h))

pub within_all : (n : ℕ) (vs : List ℕ) → ((i : ℕ) → i < n → get_or vs i 0 ≤ (row i).limit) → numbers_within n vs ≡ true
unfolding numbers_within
within_all zero vs f = refl
within_all (suc n) vs f = simp (within_all n vs (λ i h. f i (omega arith)), le-leb _ _ (f n (omega arith)))

-- a number within the limit of a row takes at most forty bits, so at most twenty digits
pub forty_bits : (n v : ℕ) → n < 10 → v ≤ (row n).limit → v < 1099511627776
forty_bits n v h l = let t = table n h in omega (arith, t.small)

pub limited : (n v : ℕ) → n < 10 → v ≤ (row n).limit → v < 100000000000000000000
limited n v h l = let b = forty_bits n v h l in omega arith

-- ---- lines

lines_agree : (n : ℕ) (vs ws : List ℕ) → ((i : ℕ) → i < n → get_or vs i 0 ≡ get_or ws i 0) → lines_text n vs ≡ lines_text n ws
unfolding lines_text
lines_agree zero vs ws f = refl
lines_agree (suc n) vs ws f =
    ap₂ (λ (l : List ℕ) (v : ℕ). l ++ line_text (row n).key v) (lines_agree n vs ws (λ i h. f i (omega arith))) (f n (omega arith))

lines_more : (n : ℕ) (vs x : List ℕ) → lines_text (suc n) vs ++ x ≡ lines_text n vs ++ (line_text (row n).key (get_or vs n 0) ++ x)
unfolding lines_text
lines_more n vs x = append_assoc (lines_text n vs) (line_text (row n).key (get_or vs n 0)) x

-- a line has at most 31 bytes
pub row_short : (n v : ℕ) → n < 10 → length (line_text (row n).key v) ≤ 31
row_short n v h = let s = (table n h).short in let l = line_short (row n).key v in omega arith

pub lines_short : (n : ℕ) → n ≤ 10 → (vs : List ℕ) → length (lines_text n vs) ≤ 31 * n
unfolding lines_text
lines_short zero h vs = omega arith
lines_short (suc n) h vs =
    let a = length-append (lines_text n vs) (line_text (row n).key (get_or vs n 0)) in
    let r = lines_short n (omega arith) vs in
    let s = row_short n (get_or vs n 0) (omega arith) in
    omega arith

-- the same text: the same numbers
pub lines_unique : (n : ℕ) → n ≤ 10 → (vs ws x y : List ℕ) → numbers_within n vs ≡ true → numbers_within n ws ≡ true → lines_text n vs ++ x ≡ lines_text n ws ++ y
    → ((i : ℕ) → i < n → get_or vs i 0 ≡ get_or ws i 0) × (x ≡ y)
unfolding lines_text
lines_unique zero k vs ws x y a b q = (λ i h. absurd (not-suc-le-zero h), q)
lines_unique (suc n) k vs ws x y a b q =
    let r = lines_unique n (omega arith) vs ws (line_text (row n).key (get_or vs n 0) ++ x) (line_text (row n).key (get_or ws n 0) ++ y)
    (within_all n vs (λ i h. within_at (suc n) vs a i (omega arith))) (within_all n ws (λ i h. within_at (suc n) ws b i (omega arith)))
    (sym (lines_more n vs x) ∙ q ∙ lines_more n ws y) in
    let u = line_unique (row n).key (get_or vs n 0) (get_or ws n 0) x y (limited n _ (omega arith) (within_at (suc n) vs a n (omega arith)))
    (limited n _ (omega arith) (within_at (suc n) ws b n (omega arith))) r.1 in
    (λ i h. ⊎_elim (λ e. subst (λ (j : ℕ). get_or vs j 0 ≡ get_or ws j 0) (sym e) u.0) (λ l. r.0 i l) (eq-or-lt_of_le (le_of_suc-le-suc h)), u.1)

-- the line of a row, and what follows
lines_split : (n i : ℕ) (vs : List ℕ) → i < n → (more : List ℕ) × (lines_text n vs ≡ lines_text i vs ++ (line_text (row i).key (get_or vs i 0) ++ more))
unfolding lines_text
lines_split zero i vs h = absurd (not-suc-le-zero h)
lines_split (suc n) i vs h = by (ℕ_discrete i n) (λ l. lines_split n i vs l)
  where
    by : Dec (i ≡ n) → (i < n → (more : List ℕ) × (lines_text n vs ≡ lines_text i vs ++ (line_text (row i).key (get_or vs i 0) ++ more)))
        → (more : List ℕ) × (lines_text (suc n) vs ≡ lines_text i vs ++ (line_text (row i).key (get_or vs i 0) ++ more))
    by (yes e) r = (
      [],
      subst (λ (j : ℕ). lines_text (suc n) vs ≡ lines_text j vs ++ (line_text (row j).key (get_or vs j 0) ++ [])) (sym e)
          (ap (λ (l : List ℕ). lines_text n vs ++ l) (sym (append-nil (line_text (row n).key (get_or vs n 0))))),
    )
    by (no e) r =
        let s = r (omega arith) in
        let m = line_text (row n).key (get_or vs n 0) in
        (s.0 ++ m, ap (λ (l : List ℕ). l ++ m) s.1 ∙ simp append_assoc)

-- ---- the loop

-- the first i lines are read
pub record RowsTo (text : List ℕ) (at i : ℕ) (values : List ℕ) (place : ℕ) : Type 0 where
  pub most : i ≤ 8
  pub full : length values ≡ 8
  pub small : numbers_within i values ≡ true
  pub past : place ≤ length text
  pub is : drop at text ≡ lines_text i values ++ drop place text

module _ {text : List ℕ} {at : ℕ} where
  pub rows_none : {values : List ℕ} → length values ≡ 8 → at ≤ length text → RowsTo text at 0 values at
  unfolding lines_text numbers_within
  rows_none f h = record { most = omega arith; full = f; small = refl; past = h; is = refl }

  pub rows_more : {i place : ℕ} {values : List ℕ} (v end : ℕ) → RowsTo text at i values place → i < 8
      → LineIs (row i).key text place (row i).limit true v end → RowsTo text at (i + 1) (set values i v) end
  rows_more {i} {place} {values} v end r h l =
      let f : length values ≡ 8 = r.full in
      let g : get_or (set values i v) i 0 ≡ v = get_or-set_same values i v 0 (omega arith) in
      let o : (k : ℕ) → k < i → get_or values k 0 ≡ get_or (set values i v) k 0 = λ k m. sym (get_or-set_other values i k v 0 (λ e. omega arith)) in
      let w : (k : ℕ) → k < suc i → get_or (set values i v) k 0 ≤ (row k).limit
      = λ k m. ⊎_elim
      (λ e. subst (λ (j : ℕ). get_or (set values i v) j 0 ≤ (row j).limit) (sym e) (subst (λ (u : ℕ). u ≤ (row i).limit) (sym g) (l.small refl)))
      (λ b. subst (λ (u : ℕ). u ≤ (row k).limit) (o k b) (within_at i values r.small k b)) (eq-or-lt_of_le (le_of_suc-le-suc m)) in
      rw (add-one i)
      record {
        most = omega arith;
        full = length-set values i v ∙ f;
        small = within_all (suc i) (set values i v) w;
        past = l.within refl;
        is =
            r.is
            ∙ ap₂ (λ (x y : List ℕ). x ++ y) (lines_agree i values (set values i v) o)
            (l.is refl ∙ ap (λ (u : ℕ). line_text (row i).key u ++ drop end text) (sym g))
            ∙ sym (lines_more i (set values i v) (drop end text));
      }

  pub rows_stop : {i place : ℕ} {values vs : List ℕ} (v end : ℕ) → RowsTo text at i values place → i < 8
      → LineIs (row i).key text place (row i).limit false v end → RowsRead text at false vs at
  rows_stop {i} {place} {values} v end r h l =
      record {
        small = λ d. false_true d;
        place = λ d. false_true d;
        is = λ d. false_true d;
        none = λ d ws rest w q.
            let s = lines_split 8 i ws h in
            let e : lines_text i values ++ drop place text ≡ lines_text i ws ++ (line_text (row i).key (get_or ws i 0) ++ (s.0 ++ rest))
            = sym r.is ∙ q ∙ ap (λ (x : List ℕ). x ++ rest) s.1 ∙ simp append_assoc in
            let u = lines_unique i (omega arith) values ws (drop place text) (line_text (row i).key (get_or ws i 0) ++ (s.0 ++ rest)) r.small
            (within_all i ws (λ k b. within_at 8 ws w k (omega arith))) e in
            l.none refl (get_or ws i 0) (s.0 ++ rest) (within_at 8 ws w i h) u.1;
      }

  pub rows_all : {i place : ℕ} {values : List ℕ} → RowsTo text at i values place → 8 ≤ i → RowsRead text at true values place
  rows_all {i} {place} {values} r h =
      let e : i ≡ 8 = omega (arith, r.most) in
      record {
        small = λ d. subst (λ (k : ℕ). numbers_within k values ≡ true) e r.small;
        place = λ d. r.past;
        is = λ d. subst (λ (k : ℕ). drop at text ≡ lines_text k values ++ drop place text) e r.is;
        none = λ d. false_true (sym d);
      }

-- ---- the test of the limits

pub within_more : (i : ℕ) (vs : List ℕ) → numbers_within i vs ≡ true → get_or vs i 0 ≤ (row i).limit → numbers_within (i + 1) vs ≡ true
unfolding numbers_within
within_more i vs w h = rw (add-one i) (simp (w, le-leb _ _ h))

pub within_fails : (n i : ℕ) (vs : List ℕ) → i < n → (row i).limit < get_or vs i 0 → false ≡ numbers_within n vs
within_fails n i vs h l = by (numbers_within n vs) refl
  where
    by : (b : Bool) → numbers_within n vs ≡ b → false ≡ b
    by true e = let m = within_at n vs e i h in absurd (omega arith)
    by false e = refl
