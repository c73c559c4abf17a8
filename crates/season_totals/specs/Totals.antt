-- The totals of a list of pass reports, and the worst of them: document 02, P13.
-- Assumes nothing.
use Rattle.std.specs.Prelude.{◌≡◌, Bool, true, false, List, [], ◌∷◌, ℕ, ◌+◌, ◌*◌, ◌≤◌, ◌<◌, ltb, eqb, length, get_or}
use Rattle.common.specs.Choice.{pick}
use Rattle.common.specs.Lists.{total}
use Rattle.report.specs.declared.Report.{Report}
use Rattle.report.specs.Text.{fits}
use Rattle.report.specs.Read.{blank}

-- a number of two limbs of 64 bits, the lower first
abbrev pub wide : List ℕ → ℕ
wide l = get_or l 0 0 + 18446744073709551616 * get_or l 1 0

abbrev pub accepted : Report → ℕ
accepted r = r.delivered + r.waiting + r.outofstep

abbrev pub nth : List Report → ℕ → Report
nth rs j = get_or rs j blank

-- The worst of the reports, from 1, with its changed c and accepted a: of those with any accepted the largest changed divided by accepted,
-- and the earliest of these. All three are 0 where none has any accepted. Fractions are compared by their cross products.
pub record Worst (rs : List Report) (w c a : ℕ) : Type 0 where
  pub none : a ≡ 0 → (w ≡ 0) × (c ≡ 0) × ((j : ℕ) → j < length rs → accepted (nth rs j) ≡ 0)
  pub place : 0 < a → (j : ℕ) × (w ≡ j + 1) × (j < length rs) × (c ≡ (nth rs j).changed) × (a ≡ accepted (nth rs j))
  pub most : 0 < a → (j : ℕ) → j < length rs → 0 < accepted (nth rs j) → (nth rs j).changed * a ≤ c * accepted (nth rs j)
  pub first : 0 < a → (j : ℕ) → j + 1 < w → j < length rs → 0 < accepted (nth rs j) → (nth rs j).changed * a < c * accepted (nth rs j)

-- the totals of reports: passes, taken, lost, changed, the worst, and its changed and accepted
pub record TotalsOf (rs : List Report) (t : List ℕ) : Type 0 where
  pub passes : get_or t 0 0 ≡ length rs
  pub taken : get_or t 1 0 ≡ total (λ r. r.taken) rs
  pub lost : get_or t 2 0 ≡ total (λ r. r.lost) rs
  pub changed : get_or t 3 0 ≡ total (λ r. r.changed) rs
  pub worst : Worst rs (get_or t 4 0) (get_or t 5 0) (get_or t 6 0)

abbrev pub zero_totals : List ℕ
zero_totals = 0 ∷ 0 ∷ 0 ∷ 0 ∷ 0 ∷ 0 ∷ 0 ∷ []

-- ---- one report more

-- a report with any accepted beats the worst so far, if there is one, where its fraction is larger
abbrev pub beats : List ℕ → Report → Bool
beats t r =
    pick (eqb (accepted r) 0) false (pick (eqb (get_or t 6 0) 0) true (ltb (get_or t 5 0 * accepted r) (r.changed * get_or t 6 0)))

abbrev pub counted_report : List ℕ → Report → List ℕ
counted_report t r =
    (get_or t 0 0 + 1)
    ∷ (get_or t 1 0 + r.taken)
    ∷ (get_or t 2 0 + r.lost)
    ∷ (get_or t 3 0 + r.changed)
    ∷ pick (beats t r) (get_or t 0 0 + 1) (get_or t 4 0)
    ∷ pick (beats t r) r.changed (get_or t 5 0)
    ∷ pick (beats t r) (accepted r) (get_or t 6 0)
    ∷ []

-- another report can be counted, and no total wraps: no number of a report takes more than forty bits
pub record TotalsFit (t : List ℕ) (r : Report) : Type 0 where
  pub passes : get_or t 0 0 < 4096
  pub taken : get_or t 1 0 ≤ 1099511627776 * get_or t 0 0
  pub lost : get_or t 2 0 ≤ 1099511627776 * get_or t 0 0
  pub changed : get_or t 3 0 ≤ 1099511627776 * get_or t 0 0
  pub fit : fits r ≡ true
