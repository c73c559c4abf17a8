-- What a season answers for a text of pass reports, one after another, and what is printed of it: document 02, P13.
-- Assumes nothing.
use Rattle.std.specs.Prelude.{◌≡◌, true, Result, Ok, Err, List, [], ◌∷◌, ◌++◌, ℕ, ◌≤◌, ◌<◌, eqb, length, get_or}
use Rattle.answer.specs.Number.{number_of}
use Rattle.answer.specs.declared.Refusal.{Refusal}
use Rattle.common.specs.Choice.{pick}
use Rattle.common.specs.Lists.{All}
use Rattle.report_lines.specs.Line.{line_text}
use Rattle.report.specs.declared.Report.{Report}
use Rattle.report.specs.Text.{fits, sums, report_text}
use Rattle.report.specs.Read.{ReadsReport}
use Rattle.season_totals.specs.Totals.{TotalsOf, zero_totals}

-- the texts of reports, joined
abbrev pub texts : List Report → List ℕ
texts [] = []
texts (r ∷ rs) = report_text r ++ texts rs

-- a report that the writer takes
pub record Good (r : Report) : Type 0 where
  pub fit : fits r ≡ true
  pub add : sums r ≡ true

-- What stands behind the reports of a text, what a season answers then, and its totals. 0: nothing. 17 or 18: something that reading answers so, behind
-- fewer than 4,096 reports. 21: something, behind 4,096.
pub data SeasonEnds (reports : List Report) (rest : List ℕ) (number : ℕ) (totals : List ℕ) : Type 0 where
  summed : number ≡ 0 → rest ≡ [] → TotalsOf reports totals → SeasonEnds reports rest number totals
  refused : (r : Report) (x : List ℕ) → (number ≡ 0 → ⊥) → totals ≡ zero_totals → length reports < 4096 → 0 < length rest → ReadsReport rest number r x → SeasonEnds reports rest number totals
  too_many : number ≡ 21 → totals ≡ zero_totals → length reports ≡ 4096 → 0 < length rest → SeasonEnds reports rest number totals

-- What a season answers for a text, which begins with the texts of good reports, at most 4,096.
pub record Seasons (t : List ℕ) (number : ℕ) (totals : List ℕ) : Type 0 where
  pub reports : List Report
  pub rest : List ℕ
  pub good : All Good reports
  pub text : t ≡ texts reports ++ rest
  pub few : length reports ≤ 4096
  pub ends : SeasonEnds reports rest number totals

-- a text is the texts of these reports joined, and there are not too many of them
pub record JoinedTexts (rs : List Report) (t : List ℕ) : Type 0 where
  pub good : All Good rs
  pub few : length rs ≤ 4096
  pub text : t ≡ texts rs

-- A text is read as a season of reports exactly when it is their texts joined, and the totals are theirs.
pub record SeasonExactly (t : List ℕ) (number : ℕ) (totals : List ℕ) : Type 0 where
  pub read : number ≡ 0 → (rs : List Report) × JoinedTexts rs t × TotalsOf rs totals
  pub written : (rs : List Report) → JoinedTexts rs t → (number ≡ 0) × TotalsOf rs totals

-- the keys, in ASCII, with their equals signs
abbrev pub passes_key : List ℕ
passes_key = 0x70 ∷ 0x61 ∷ 0x73 ∷ 0x73 ∷ 0x65 ∷ 0x73 ∷ 0x3D ∷ []

abbrev pub taken_key : List ℕ
taken_key = 0x74 ∷ 0x61 ∷ 0x6B ∷ 0x65 ∷ 0x6E ∷ 0x3D ∷ []

abbrev pub lost_key : List ℕ
lost_key = 0x6C ∷ 0x6F ∷ 0x73 ∷ 0x74 ∷ 0x3D ∷ []

abbrev pub changed_key : List ℕ
changed_key = 0x63 ∷ 0x68 ∷ 0x61 ∷ 0x6E ∷ 0x67 ∷ 0x65 ∷ 0x64 ∷ 0x3D ∷ []

abbrev pub worst_key : List ℕ
worst_key = 0x77 ∷ 0x6F ∷ 0x72 ∷ 0x73 ∷ 0x74 ∷ 0x3D ∷ []

abbrev pub totals_text : List ℕ → List ℕ
totals_text t =
    line_text passes_key (get_or t 0 0) ++ line_text taken_key (get_or t 1 0) ++ line_text lost_key (get_or t 2 0) ++ line_text changed_key (get_or t 3 0)
    ++ line_text worst_key (get_or t 4 0)

-- what is printed: the five lines, or the number of the refusal and a line feed
abbrev pub season_text : ℕ → List ℕ → List ℕ
season_text number totals = pick (eqb number 0) (totals_text totals) (line_text [] number)

-- the same of what reading gives: the totals, or a refusal
abbrev pub read_text : Result (List ℕ) Refusal → List ℕ
read_text (Ok totals) = totals_text totals
read_text (Err refusal) = line_text [] (number_of refusal)
