-- The lines that one block decides, as they are written.
-- Assumes nothing.
use mathlib.Core.Path.{◌≡◌, refl, sym, ap, ◌∙◌}
use mathlib.Core.Bool.{Bool, true, false, false≢true}
use mathlib.Core.List.{List, [], ◌∷◌, ◌++◌}
use Prim.Native.Nat.{ℕ, suc, ◌+◌, ◌-◌, ◌≤◌, ◌<◌}
use native.Mathlib.Nat.{not-suc-le-zero}
use native.Mathlib.Omega.{arith}
use borrow.Author.Tests.{le-ltb, ltb-false}
use lib.Dec.{ltb}
use lib.ListN.{length, drop, set, length-append}
use Rattle.std.proofs.Common.{Option, Some, None}
use Rattle.common.specs.Choice.{pick}
use Rattle.std.proofs.Common.{Result, Ok, Err}
use Rattle.std.specs.Result.{result_unwrap_or}
use Rattle.answer.specs.Number.{given_or}
use Rattle.answer.specs.declared.Refusal.{Refusal}
use Rattle.losses.specs.List.{doubts}
use Rattle.losses.specs.Watch.{waiting_of, waiting_lines, most_waiting, certainty_in_range}
use Rattle.losses.specs.Feed.{WritesLines}
use Rattle.losses.specs.declared.Certainty.{Certainty}
use Rattle.losses.proofs.Lines.{length_doubts}

-- one line more behind a list
set_behind : (a d : List ℕ) (v : ℕ) → length a < length d → set (a ++ drop (length a) d) (length a) v ≡ (a ++ v ∷ []) ++ drop (length a + 1) d
set_behind [] [] v h = absurd (not-suc-le-zero h)
set_behind [] (x ∷ d) v h = refl
set_behind (y ∷ a) [] v h = absurd (not-suc-le-zero h)
set_behind (y ∷ a) (x ∷ d) v h =
    let e : suc (length a + 1) ≡ suc (length a) + 1 = omega arith in
    ap (λ (l : List ℕ). y ∷ l) (set_behind a d v (omega arith)) ∙ ap (λ (n : ℕ). (y ∷ (a ++ v ∷ [])) ++ drop n (x ∷ d)) e

-- nothing written
pub writes_none : (output : List ℕ) → WritesLines [] output 0 output
writes_none output = record { counted = refl; written = refl }

-- the packets that wait
pub writes_waiting : (k : Certainty) (block n : ℕ) (output exit : List ℕ) → n ≡ waiting_of k → exit ≡ doubts (block - n) n ++ drop n output
    → WritesLines (waiting_lines k block) output n exit
writes_waiting k block n output exit e w = record {
  counted = e ∙ sym (length_doubts (block - waiting_of k) (waiting_of k));
  written = w ∙ ap (λ (m : ℕ). doubts (block - m) m ++ drop n output) e;
}

-- and the block's own line behind them
pub writes_behind : (lines output exit : List ℕ) (n v : ℕ) → WritesLines lines output n exit → n < length output → WritesLines (lines ++ v ∷ []) output (n + 1) (set exit n v)
writes_behind lines output exit n v w h =
    let e : n ≡ length lines = w.counted in
    record {
      counted = ap (λ (m : ℕ). m + 1) e ∙ sym (length-append lines (v ∷ []));
      written =
          ap (λ (l : List ℕ). set l n v) w.written
          ∙ ap (λ (m : ℕ). set (lines ++ drop m output) m v) e
          ∙ set_behind lines output v (omega arith)
          ∙ ap (λ (m : ℕ). (lines ++ v ∷ []) ++ drop (m + 1) output) (sym e);
    }

-- how many lines end a list: none where that was refused
pub told_count : (r : Result ℕ Refusal) → given_or 0 (λ n. n) r ≡ result_unwrap_or r 0
told_count (Ok n) = refl
told_count (Err refusal) = refl

-- no more wait than can
pub range_fits : (k : Certainty) (place : Option ℕ) (taken : ℕ) → certainty_in_range k place taken ≡ true → (waiting_of k ≤ most_waiting place) × (waiting_of k ≤ taken - 11)
range_fits k place taken e =
    let a = first (ltb (most_waiting place) (waiting_of k)) (pick (ltb (taken - 11) (waiting_of k)) false true) e in
    (ltb-false _ _ a.0, ltb-false _ _ (first (ltb (taken - 11) (waiting_of k)) true a.1).0)
  where
    first : (s t : Bool) → pick s false t ≡ true → (s ≡ false) × (t ≡ true)
    first true t e = absurd (false≢true e)
    first false t e = (refl, e)

pub fits_range : (k : Certainty) (place : Option ℕ) (taken : ℕ) → waiting_of k ≤ most_waiting place → waiting_of k ≤ taken - 11 → certainty_in_range k place taken ≡ true
fits_range k place taken h l = simp (le-ltb (most_waiting place) (waiting_of k) h, le-ltb (taken - 11) (waiting_of k) l)

pub most_seven : (place : Option ℕ) → most_waiting place ≤ 7
most_seven None = omega arith
most_seven (Some p) = omega arith
