-- What reading answers, at the front of a text and of a whole one.
-- Assumes nothing.
use mathlib.Core.Path.{◌≡◌, refl, sym, ap, ◌∙◌}
use mathlib.Core.Bool.{true, false}
use mathlib.Core.List.{List, [], ◌++◌, append-nil}
use Prim.Native.Nat.{ℕ}
use native.Mathlib.Omega.{arith}
use lib.ListN.{drop}
use Rattle.report.specs.declared.Report.{Report}
use Rattle.report.specs.Text.{report_text, fits, sums}
use Rattle.report.specs.Read.{blank, ReadsReport, front, front_wrong, front_none, ReadsWhole, whole, whole_wrong, whole_none}
use Rattle.report.specs.Steps.{Front}
use Rattle.report.proofs.Fronts.{report_unique}

module _ (text : List ℕ) (at : ℕ) (r : Report) (e : ℕ) where
  pub read-wrong : Front text at true r e → sums r ≡ false → ReadsReport (drop at text) 18 blank (drop e text)
  read-wrong f s = front_wrong r refl refl (f.small refl) s (f.is refl)

-- a report that was read
pub read-report : {t : List ℕ} {n : ℕ} {r : Report} {rest : List ℕ} → ReadsReport t n r rest → n ≡ 0
    → (fits r ≡ true) × (sums r ≡ true) × (t ≡ report_text r ++ rest)
read-report (front z f s q) e = (f, s, q)
read-report (front_wrong u z b f s q) e = absurd (omega arith)
read-report (front_none z b n) e = absurd (omega arith)

-- ---- a whole text

module _ (t : List ℕ) (n : ℕ) (r : Report) (rest : List ℕ) where
  -- more text follows
  pub whole-longer : ReadsReport t n r rest → (rest ≡ [] → ⊥) → ReadsWhole t 17 blank
  whole-longer w f = whole_none refl refl (λ s k q. by w s k (q ∙ sym (append-nil (report_text s))))
    where
      by : ReadsReport t n r rest → (s : Report) → fits s ≡ true → t ≡ report_text s ++ [] → ⊥
      by (front z g a e) s k q = f (report_unique r s rest [] g k (sym e ∙ q)).1
      by (front_wrong u z b g a e) s k q = f (report_unique u s rest [] g k (sym e ∙ q)).1
      by (front_none z b g) s k q = g s [] k q

  -- nothing follows
  pub whole_all : ReadsReport t n r rest → rest ≡ [] → ReadsWhole t n r
  whole_all w f = by w
    where
      end : (s : Report) → report_text s ++ rest ≡ report_text s
      end s = ap (λ (l : List ℕ). report_text s ++ l) f ∙ append-nil (report_text s)

      by : ReadsReport t n r rest → ReadsWhole t n r
      by (front z g a e) = whole z g a (e ∙ end r)
      by (front_wrong u z b g a e) = whole_wrong u z b g a (e ∙ end u)
      by (front_none z b g) = whole_none z b (λ s k q. g s [] k (q ∙ sym (append-nil (report_text s))))
