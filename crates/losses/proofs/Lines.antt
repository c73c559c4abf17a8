-- The lines that are decided block by block, and those that the end of the input decides, are those of the list.
-- Assumes nothing.
use mathlib.Core.Path.{◌≡◌, refl, sym, ap, ap₂, ◌∙◌, subst}
use mathlib.Core.Bool.{Bool, true, false}
use mathlib.Core.List.{List, [], ◌∷◌, ◌++◌, append_assoc, append-nil}
use Prim.Native.Nat.{ℕ, zero, suc, ◌+◌, ◌-◌, ◌%◌, ◌≤◌, ◌<◌}
use native.Mathlib.Nat.{not-suc-le-zero}
use native.Mathlib.Decide.{dec_lt}
use native.Mathlib.Omega.{arith}
use borrow.Author.Tests.{ne_eqb, lt-ltb, le-ltb, ltb-true}
use lib.Dec.{eqb}
use lib.ListN.{length, get_or}
use Rattle.std.proofs.Common.{Option, Some, None}
use Rattle.common.specs.Choice.{pick}
use Rattle.common.proofs.Choice.{both_true}
use Rattle.group_sync.specs.Group.{later_place, place_in_range, sync_in_range, group_step, step}
use Rattle.group_sync.specs.Stream.{outcomes}
use Rattle.group_sync.specs.declared.Outcome.{Outcome}
use Rattle.group_sync.specs.declared.Outcome.TheVariants.{Filling, Delivered, Lost, Waiting, OutOfStep}
use Rattle.group_sync.specs.declared.GroupSync.{GroupSync}
use Rattle.group_sync.specs.declared.GroupStep.{GroupStep}
use Rattle.group_sync.proofs.Synchronization.{sync_in_range_lem}
use Rattle.reception_counts.specs.Counts.{outcome_number}
use Rattle.losses.specs.List.{line, confirmed, lines_from, doubts}
use Rattle.losses.specs.Watch.{waiting_of, is_sure, start_due_at, started_at, waiting_lines, lines_now, and_one_more, certainty_next, most_waiting}
use Rattle.losses.specs.declared.Certainty.{Certainty}
use Rattle.losses.specs.declared.Certainty.TheVariants.{Sure, Unsure}
use Rattle.losses.proofs.Steps.{NotGiven, Stepped, passed, starts, follows, stepped}

-- ---- packets in doubt

pub length_doubts : (block n : ℕ) → length (doubts block n) ≡ n
length_doubts block zero = refl
length_doubts block (suc n) = ap suc (length_doubts (block + 1) n)

pub doubts_at : (block n i : ℕ) → i < n → get_or (doubts block n) i 0 ≡ line (block + i) 0
doubts_at block zero i h = absurd (not-suc-le-zero h)
doubts_at block (suc n) zero h = omega arith
doubts_at block (suc n) (suc i) h = doubts_at (block + 1) n i (omega arith) ∙ (let e : block + 1 + i ≡ block + suc i = omega arith in ap (λ (b : ℕ). line b 0) e)

doubts_last : (block n : ℕ) → doubts block n ++ line (block + n) 0 ∷ [] ≡ doubts block (suc n)
doubts_last block zero = let e : block + 0 ≡ block = omega arith in ap (λ (b : ℕ). line b 0 ∷ []) e
doubts_last block (suc n) =
    let e : block + suc n ≡ block + 1 + n = omega arith in
    ap (λ (b : ℕ). line block 0 ∷ (doubts (block + 1) n ++ line b 0 ∷ [])) e ∙ ap (λ (l : List ℕ). line block 0 ∷ l) (doubts_last (block + 1) n)

-- the packets that wait before a block, and its own
one_doubt_more : (block n : ℕ) → n ≤ block → waiting_lines (Unsure n) block ++ line block 0 ∷ [] ≡ waiting_lines (Unsure (n + 1)) (block + 1)
one_doubt_more block n h =
    let a : block - n + n ≡ block = omega arith in
    let b : block - n ≡ block + 1 - (n + 1) = omega arith in
    let c : suc n ≡ n + 1 = omega arith in
    ap (λ (k : ℕ). doubts (block - n) n ++ line k 0 ∷ []) (sym a) ∙ doubts_last (block - n) n ∙ ap₂ doubts b c

-- ---- all the lines, by group synchronization

-- what is known after a block, and the lines that it decides
abbrev step_lines : Option ℕ → Certainty → ℕ → GroupStep → List ℕ
step_lines place k block g = lines_now k block (outcome_number g.outcome) (start_due_at place) (started_at g.sync.place)

abbrev step_certainty : Certainty → GroupStep → Certainty
step_certainty k g = certainty_next k (outcome_number g.outcome) (started_at g.sync.place)

-- block after block, and the end
abbrev pub lines_of_all : GroupSync → Certainty → ℕ → List (Option ℕ) → List ℕ
lines_of_all s k block [] = waiting_lines k block
lines_of_all s k block (d ∷ ds) = step_lines s.place k block (group_step s d) ++ lines_of_all (group_step s d).sync (step_certainty k (group_step s d)) (block + 1) ds

-- no more wait than can
pub record Fits (k : Certainty) (place : Option ℕ) (block : ℕ) : Type 0 where
  pub by_place : waiting_of k ≤ most_waiting place
  pub by_block : waiting_of k ≤ block

abbrev pub due_of : Option ℕ → ℕ
due_of None = 1
due_of (Some p) = p

-- the packets that wait, where what follows does not confirm them
abbrev open_lines : Option ℕ → Certainty → ℕ → List Outcome → List ℕ
open_lines place k block os = pick (confirmed (due_of place) os) [] (waiting_lines k block)

-- ---- what they mean

abbrev Means : GroupSync → Certainty → ℕ → List (Option ℕ) → Type 0
Means s k block ds = lines_of_all s k block ds ≡ open_lines s.place k block (outcomes s ds) ++ lines_from block (is_sure k) (outcomes s ds)

none_open : (t : Bool) (rest : List ℕ) → pick t [] [] ++ rest ≡ rest
none_open true rest = refl
none_open false rest = refl

pub due_is : (place : Option ℕ) → start_due_at place ≡ eqb (due_of place) 0
due_is None = refl
due_is (Some p) = refl

-- behind a place that is not the first, no group has just begun
pub not_started : (p : ℕ) → 0 < p → eqb (later_place p) 1 ≡ false
not_started p h = by (dec_lt p 7)
  where
    by : Dec (p < 7) → eqb (later_place p) 1 ≡ false
    by (yes l) = simp (lt-ltb p 7 l) (ne_eqb (p + 1) 1 (λ e. omega arith))
    by (no l) = simp (le-ltb p 7 (omega arith))

-- the packets that wait, and one more
open_more : (block n : ℕ) → n ≤ block → (t : Bool) (rest : List ℕ)
    → pick t [] (waiting_lines (Unsure (n + 1)) (block + 1)) ++ rest ≡ pick t [] (waiting_lines (Unsure n) block) ++ (pick t [] (line block 0 ∷ []) ++ rest)
open_more block n h true rest = refl
open_more block n h false rest =
    ap (λ (l : List ℕ). l ++ rest) (sym (one_doubt_more block n h)) ∙ append_assoc (waiting_lines (Unsure n) block) (line block 0 ∷ []) rest

-- a packet that is given at the place that is known
follow : (k : Certainty) (place : Option ℕ) (p block : ℕ) (os : List Outcome) → 0 < p → waiting_of k ≤ block
    → open_lines (Some (later_place p)) (and_one_more k) (block + 1) os ++ lines_from (block + 1) (is_sure (and_one_more k)) os
    ≡ open_lines place k block (Delivered p ∷ os) ++ lines_from block (is_sure k) (Delivered p ∷ os)
follow Sure place p block os h m = simp (ne_eqb p 0 (λ e. omega arith)) refl
follow (Unsure n) place p block os h m = simp (ne_eqb p 0 (λ e. omega arith)) (open_more block n m (confirmed (later_place p) os) (lines_from (block + 1) false os))

pub more_fits : (k : Certainty) (p block : ℕ) → 0 < p → p ≤ 7 → Fits k (Some p) block → Fits (and_one_more k) (Some (later_place p)) (block + 1)
more_fits Sure p block h m f = record { by_place = omega arith; by_block = omega arith }
more_fits (Unsure n) p block h m f = record { by_place = by (dec_lt p 7); by_block = let b = f.by_block in omega arith }
  where
    few : n ≤ (p % 8 + 7) % 8
    few = f.by_place

    by : Dec (p < 7) → n + 1 ≤ most_waiting (Some (later_place p))
    by (yes l) = simp (lt-ltb p 7 l) (omega (arith, few))
    by (no l) = simp (le-ltb p 7 (omega arith)) (omega (arith, few))

pub place_small : (s : GroupSync) (p : ℕ) → s.place ≡ Some p → sync_in_range s ≡ true → p ≤ 7
place_small s p e r =
    let t : place_in_range (Some p) s.missed ≡ true = subst (λ (x : Option ℕ). place_in_range x s.missed ≡ true) e r in
    let l = ltb-true p 8 (both_true _ _ t).0 in
    omega arith

module _ (s : GroupSync) (k : Certainty) (block : ℕ) (ds : List (Option ℕ)) (f : Fits k s.place block) (r : sync_in_range s ≡ true)
    (ih : (x : GroupSync) (m : Certainty) → Fits m x.place (block + 1) → sync_in_range x ≡ true → Means x m (block + 1) ds) where
  abbrev Step : GroupStep → Type 0
  Step g =
      step_lines s.place k block g ++ lines_of_all g.sync (step_certainty k g) (block + 1) ds
      ≡ open_lines s.place k block (g.outcome ∷ outcomes g.sync ds) ++ lines_from block (is_sure k) (g.outcome ∷ outcomes g.sync ds)

  -- nothing waits behind a block that was not given, or that begins a group
  none_waits : (x : GroupSync) (m : Certainty) → waiting_of m ≡ 0 → sync_in_range x ≡ true
      → lines_of_all x m (block + 1) ds ≡ lines_from (block + 1) (is_sure m) (outcomes x ds)
  none_waits x m z l =
      ih x m (record { by_place = omega arith; by_block = omega arith }) l
      ∙ ap (λ (w : ℕ). pick (confirmed (due_of x.place) (outcomes x ds)) [] (doubts (block + 1 - w) w) ++ lines_from (block + 1) (is_sure m) (outcomes x ds)) z
      ∙ none_open (confirmed (due_of x.place) (outcomes x ds)) (lines_from (block + 1) (is_sure m) (outcomes x ds))

  passed_lines : (number : ℕ) (x : GroupSync) → sync_in_range x ≡ true
      → (waiting_lines k block ++ line block number ∷ []) ++ lines_of_all x (Unsure 0) (block + 1) ds
      ≡ waiting_lines k block ++ (line block number ∷ lines_from (block + 1) false (outcomes x ds))
  passed_lines number x l =
      append_assoc (waiting_lines k block) (line block number ∷ []) (lines_of_all x (Unsure 0) (block + 1) ds)
      ∙ ap (λ (w : List ℕ). waiting_lines k block ++ (line block number ∷ w)) (none_waits x (Unsure 0) refl l)

  passed_step : (o : Outcome) (x : GroupSync) → NotGiven o → sync_in_range x ≡ true → Step (record { outcome = o; sync = x })
  passed_step Filling x h l = absurd h
  passed_step (Delivered place) x h l = absurd h
  passed_step Lost x h l = passed_lines 8 x l
  passed_step Waiting x h l = passed_lines 10 x l
  passed_step OutOfStep x h l = passed_lines 11 x l

  start_step : Step (step (Delivered 0) (Some 1) 0)
  start_step =
      let x : GroupSync = record { place = Some 1; missed = 0 } in
      ap₂ (λ (t : Bool) (w : List ℕ). pick t [] (waiting_lines k block) ++ w) (due_is s.place) (none_waits x Sure refl refl)

  follow_step : (p : ℕ) → s.place ≡ Some p → 0 < p → sync_in_range (record { place = Some (later_place p); missed = 0 }) ≡ true → Step (step (Delivered p) (Some (later_place p)) 0)
  follow_step p e h l =
      let x : GroupSync = record { place = Some (later_place p); missed = 0 } in
      let m : Fits k (Some p) block = subst (λ (q : Option ℕ). Fits k q block) e f in
      ap (λ (t : Bool). pick t (pick (start_due_at s.place) [] (waiting_lines k block)) [] ++ lines_of_all x (pick t Sure (and_one_more k)) (block + 1) ds) (not_started p h)
      ∙ ih x (and_one_more k) (more_fits k p block h (place_small s p e r) m) l
      ∙ follow k s.place p block (outcomes x ds) h m.by_block

  from_step : (d : Option ℕ) (g : GroupStep) → sync_in_range g.sync ≡ true → Stepped s.place d g → Step g
  from_step d g l (passed o x h) = passed_step o x h l
  from_step d g l (starts e) = start_step
  from_step d g l (follows p e q h) = follow_step p q h l

pub lines_mean : (ds : List (Option ℕ)) (s : GroupSync) (k : Certainty) (block : ℕ) → Fits k s.place block → sync_in_range s ≡ true → Means s k block ds
lines_mean [] s k block f r = sym (append-nil (waiting_lines k block))
lines_mean (d ∷ ds) s k block f r =
    from_step s k block ds f r (λ x m. lines_mean ds x m (block + 1)) d (group_step s d) (sync_in_range_lem s d r) (stepped s d)

-- from a state in which nothing waits
pub lines_listed : (ds : List (Option ℕ)) (s : GroupSync) (block : ℕ) → sync_in_range s ≡ true → lines_of_all s (Unsure 0) block ds ≡ lines_from block false (outcomes s ds)
lines_listed ds s block r =
    lines_mean ds s (Unsure 0) block (record { by_place = omega arith; by_block = omega arith }) r
    ∙ none_open (confirmed (due_of s.place) (outcomes s ds)) (lines_from block false (outcomes s ds))
