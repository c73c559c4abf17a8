-- Laws of group synchronization: what a step keeps, and what its outcome tells.
-- Assumes nothing.
use mathlib.Core.Path.{◌≡◌, refl}
use mathlib.Core.Bool.{Bool, true, false}
use Prim.Native.Nat.{ℕ, ◌+◌, ◌≤◌, ◌<◌}
use Prim.{tt}
use native.Mathlib.Decide.{dec_lt}
use native.Mathlib.Omega.{arith}
use borrow.Author.Tests.{ltb-true, lt-ltb, le-ltb}
use lib.Dec.{eqb, ltb}
use Rattle.std.proofs.Common.{Option, Some, None}
use Rattle.common.specs.Choice.{pick}
use Rattle.common.proofs.Choice.{both_true}
use Rattle.group_sync.specs.Group.{later_place, known_after, place_in_range, sync_in_range, byte_at_first, step, step_odd, searching, start_due, packet_due, accepted_step, group_step, PlaceOf}
use Rattle.group_sync.specs.declared.FirstByte.{FirstByte}
use Rattle.group_sync.specs.declared.FirstByte.TheVariants.{InvertedSync, Sync, Neither}
use Rattle.group_sync.specs.declared.Outcome.{Outcome}
use Rattle.group_sync.specs.declared.Outcome.TheVariants.{Delivered, Waiting, OutOfStep}
use Rattle.group_sync.specs.declared.GroupSync.{GroupSync}
use Rattle.group_sync.specs.declared.GroupStep.{GroupStep}

-- what holds of both choices holds of the one that a test picks
picked : (P : GroupStep → Type 0) (t : Bool) (a b : GroupStep) → P a → P b → P (pick t a b)
picked P true a b x y = x
picked P false a b x y = y

-- ---- every line of the table

module _ (P : GroupStep → Type 0) (given : (p : ℕ) → p ≤ 7 → P (step (Delivered p) (Some (later_place p)) 0)) (waits : P (step Waiting None 0))
    (forgiven : (p : ℕ) → p ≤ 7 → P (step OutOfStep (Some (later_place p)) 1)) (fails : P (step OutOfStep None 0)) where
  odd_lines : (p missed : ℕ) → p ≤ 7 → P (step_odd p missed)
  odd_lines p missed h = picked P (eqb missed 0) (step OutOfStep (Some (later_place p)) 1) (step OutOfStep None 0) (forgiven p h) fails

  searching_lines : (first : FirstByte) → P (searching first)
  searching_lines InvertedSync = given 0 (omega arith)
  searching_lines Sync = waits
  searching_lines Neither = waits

  start_lines_lem : (missed : ℕ) (first : FirstByte) → P (start_due missed first)
  start_lines_lem missed InvertedSync = given 0 (omega arith)
  start_lines_lem missed Sync = fails
  start_lines_lem missed Neither = odd_lines 0 missed (omega arith)

  packet_lines : (p missed : ℕ) (first : FirstByte) → p ≤ 7 → P (packet_due p missed first)
  packet_lines p missed InvertedSync h = given 0 (omega arith)
  packet_lines p missed Sync h = given p h
  packet_lines p missed Neither h = odd_lines p missed h

  accepted_lines : (place : Option ℕ) (missed : ℕ) (first : FirstByte) → place_in_range place missed ≡ true → P (accepted_step place missed first)
  accepted_lines None missed first h = searching_lines first
  accepted_lines (Some p) missed first h =
      picked P (eqb p 0) (start_due missed first) (packet_due p missed first) (start_lines_lem missed first)
      (packet_lines p missed first (let l = ltb-true p 8 (both_true _ _ h).0 in omega arith))

-- ---- the ranges

after_small : (p : ℕ) → p ≤ 7 → ltb (later_place p) 8 ≡ true
after_small p h = by (dec_lt p 7)
  where
    by : Dec (p < 7) → ltb (later_place p) 8 ≡ true
    by (yes l) = rw (lt-ltb p 7 l) (lt-ltb (p + 1) 8 (omega arith))
    by (no l) = rw (le-ltb p 7 (omega arith))

lost_in_range : (place : Option ℕ) (missed : ℕ) → place_in_range place missed ≡ true → place_in_range (known_after place) missed ≡ true
lost_in_range None missed h = h
lost_in_range (Some p) missed h =
    let t = both_true _ _ h in
    rw (after_small p (let l = ltb-true p 8 t.0 in omega arith)) t.1

-- ---- what the receiver builds on

-- a step keeps the state in its ranges
pub sync_in_range_lem : (s : GroupSync) (r : Option ℕ) → sync_in_range s ≡ true → sync_in_range (group_step s r).sync ≡ true
sync_in_range_lem s None h = lost_in_range s.place s.missed h
sync_in_range_lem s (Some first) h =
    accepted_lines (λ g. sync_in_range g.sync ≡ true) (λ p l. rw (after_small p l)) refl (λ p l. rw (after_small p l)) refl
    s.place s.missed (byte_at_first first) h

-- an accepted block is delivered at a place of a group, waited over or out of step
pub accepted_outcome : (P : Outcome → Type 0) (s : GroupSync) (first : ℕ) → ((p : ℕ) → p ≤ 7 → P (Delivered p)) → P Waiting → P OutOfStep
    → sync_in_range s ≡ true → P (group_step s (Some first)).outcome
accepted_outcome P s first d w o h = accepted_lines (λ g. P g.outcome) d w (λ p l. o) o s.place s.missed (byte_at_first first) h

-- a packet given has a place of a group
pub outcome_place : (s : GroupSync) (r : Option ℕ) → sync_in_range s ≡ true → PlaceOf (group_step s r).outcome
outcome_place s None h = tt
outcome_place s (Some first) h = accepted_outcome PlaceOf s first (λ p l. l) tt tt h
