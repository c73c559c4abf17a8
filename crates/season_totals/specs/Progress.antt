-- A season in progress: what it stands for, over all the bytes that came, whatever the pieces.
-- Clause: document 02, P13.
-- Assumes nothing.
use Rattle.std.specs.Prelude.{◌≡◌, true, Result, Ok, is_ok, List, [], ◌∷◌, ◌++◌, ℕ, ◌≤◌, ◌<◌, length, take, replicate}
use Rattle.answer.specs.Number.{answered, given_or}
use Rattle.answer.specs.declared.Refusal.{Refusal}
use Rattle.common.specs.Lists.{All}
use Rattle.report.specs.declared.Report.{Report}
use Rattle.season_totals.specs.Totals.{TotalsOf, zero_totals}
use Rattle.season_totals.specs.Season.{Good, texts, Seasons}
use Rattle.season_totals.specs.declared.Season.{Season}

-- the bytes are those of good reports, which have these totals, and then others, which are not read yet
pub record Unread (bytes totals rest : List ℕ) : Type 0 where
  pub reports : List Report
  pub good : All Good reports
  pub few : length reports ≤ 4096
  pub text : bytes ≡ texts reports ++ rest
  pub sums : TotalsOf reports totals

abbrev pub bytes_held : Season → List ℕ
bytes_held s = take s.held s.pending

-- What a season in progress stands for. Going: the reports before the bytes held are counted, and fewer bytes are held than any report may have
-- at most. Ended: whatever bytes still come, the answer is this one.
pub data CameTo (bytes : List ℕ) (s : Season) : Type 0 where
  going : is_ok s.answer ≡ true → s.held < 320 → Unread bytes s.totals (bytes_held s) → CameTo bytes s
  ended : (answered s.answer ≡ 0 → ⊥) → s.held < 320 → ((more : List ℕ) → Seasons (bytes ++ more) (answered s.answer) zero_totals) → CameTo bytes s

-- some bytes came to it
pub record SeasonCame (s : Season) : Type 0 where
  pub bytes : List ℕ
  pub is : CameTo bytes s

abbrev pub fresh_season : Season
fresh_season = record { answer = Ok tt; totals = zero_totals; pending = replicate 320 0; held = 0 }

-- what feeding with a piece promises, of any bytes that came before it
pub record FeedsSeason (s : Season) (piece : List ℕ) (next : Season) : Type 0 where
  pub fed : (bytes : List ℕ) → CameTo bytes s → CameTo (bytes ++ piece) next

-- what finishing promises: the season of all the bytes that came
pub record Finishes (s : Season) (r : Result (List ℕ) Refusal) : Type 0 where
  pub season : (bytes : List ℕ) → CameTo bytes s → Seasons bytes (answered r) (given_or zero_totals (λ t. t) r)

-- piece after piece: each season is what feeding promises of the one before it
abbrev pub SeasonFeedings : Season → List (List ℕ) → Season → Type 0
SeasonFeedings s [] last = s ≡ last
SeasonFeedings s (p ∷ ps) last = (next : Season) × FeedsSeason s p next × SeasonFeedings next ps last

-- ---- the steps

-- the same for a list of bytes that stands after the reports counted: some bytes came to it; what reading it to its end promises
pub record ReportsBegun (totals rest : List ℕ) : Type 0 where
  pub bytes : List ℕ
  pub is : Unread bytes totals rest

pub record CountsRest (totals rest : List ℕ) (r : Result (List ℕ) Refusal) : Type 0 where
  pub season : (bytes : List ℕ) → Unread bytes totals rest → Seasons bytes (answered r) (given_or zero_totals (λ t. t) r)

-- what is made of a full buffer, and of a part of a piece
pub record TakesUnread (totals rest : List ℕ) (next : Season) : Type 0 where
  pub taken : (bytes : List ℕ) → Unread bytes totals rest → CameTo bytes next
