-- One block by group synchronization: its packet is not given; or it begins a group; or it is given at the place that is known.
-- Assumes nothing.
use mathlib.Core.Path.{◌≡◌, refl}
use mathlib.Core.Bool.{Bool, true, false}
use Prim.Native.Nat.{ℕ, ◌<◌}
use Prim.{tt, Unit}
use native.Mathlib.Decide.{ℕ_discrete}
use native.Mathlib.Omega.{arith}
use borrow.Author.Tests.{eq-eqb, ne_eqb}
use lib.Dec.{eqb}
use Rattle.std.proofs.Common.{Option, Some, None}
use Rattle.group_sync.specs.Group.{later_place, byte_at_first, known_after, step, step_odd, accepted_step, group_step}
use Rattle.group_sync.specs.declared.Outcome.{Outcome}
use Rattle.group_sync.specs.declared.Outcome.TheVariants.{Filling, Delivered, Lost, Waiting, OutOfStep}
use Rattle.group_sync.specs.declared.GroupSync.{GroupSync}
use Rattle.group_sync.specs.declared.GroupStep.{GroupStep}

-- no packet is given
abbrev pub NotGiven : Outcome → Type 0
NotGiven Filling = ⊥
NotGiven (Delivered place) = ⊥
NotGiven Lost = Unit {0}
NotGiven Waiting = Unit {0}
NotGiven OutOfStep = Unit {0}

pub data Stepped (place : Option ℕ) (d : Option ℕ) : GroupStep → Type 0 where
  passed : (o : Outcome) (next : GroupSync) → NotGiven o → Stepped place d (record { outcome = o; sync = next })
  starts : d ≡ Some 0xB8 → Stepped place d (step (Delivered 0) (Some 1) 0)
  follows : (p : ℕ) → d ≡ Some 0x47 → place ≡ Some p → 0 < p → Stepped place d (step (Delivered p) (Some (later_place p)) 0)

-- neither sync byte
odd_kind : (place : Option ℕ) (d : Option ℕ) (p missed : ℕ) (t : Bool) → eqb missed 0 ≡ t → Stepped place d (step_odd p missed)
odd_kind place d p missed true e = simp e (passed OutOfStep (record { place = Some (later_place p); missed = 1 }) tt)
odd_kind place d p missed false e = simp e (passed OutOfStep (record { place = None; missed = 0 }) tt)

-- a codeword with this first byte
abbrev Accepts : ℕ → Option ℕ → ℕ → Type 0
Accepts first place missed = Stepped place (Some first) (accepted_step place missed (byte_at_first first))

start_kind : (place : Option ℕ) (missed : ℕ) → Accepts 0xB8 place missed
start_kind None missed = starts refl
start_kind (Some p) missed = by (ℕ_discrete p 0)
  where
    by : Dec (p ≡ 0) → Accepts 0xB8 (Some p) missed
    by (yes z) = simp (eq-eqb p 0 z) (starts refl)
    by (no z) = simp (ne_eqb p 0 z) (starts refl)

packet_kind : (place : Option ℕ) (missed : ℕ) → Accepts 0x47 place missed
packet_kind None missed = passed Waiting (record { place = None; missed = 0 }) tt
packet_kind (Some p) missed = by (ℕ_discrete p 0)
  where
    by : Dec (p ≡ 0) → Accepts 0x47 (Some p) missed
    by (yes z) = simp (eq-eqb p 0 z) (passed OutOfStep (record { place = None; missed = 0 }) tt)
    by (no z) = simp (ne_eqb p 0 z) (follows p refl refl (omega arith))

neither_kind : (first : ℕ) → (first ≡ 0xB8 → ⊥) → (first ≡ 0x47 → ⊥) → (place : Option ℕ) (missed : ℕ) → Accepts first place missed
neither_kind first h l None missed = simp (ne_eqb first 0xB8 h, ne_eqb first 0x47 l) (passed Waiting (record { place = None; missed = 0 }) tt)
neither_kind first h l (Some p) missed = by (ℕ_discrete p 0)
  where
    by : Dec (p ≡ 0) → Accepts first (Some p) missed
    by (yes z) = simp (ne_eqb first 0xB8 h, ne_eqb first 0x47 l, eq-eqb p 0 z) (odd_kind (Some p) (Some first) 0 missed (eqb missed 0) refl)
    by (no z) = simp (ne_eqb first 0xB8 h, ne_eqb first 0x47 l, ne_eqb p 0 z) (odd_kind (Some p) (Some first) p missed (eqb missed 0) refl)

accepted_kind : (first : ℕ) (place : Option ℕ) (missed : ℕ) → Accepts first place missed
accepted_kind first place missed = by (ℕ_discrete first 0xB8) (ℕ_discrete first 0x47)
  where
    by : Dec (first ≡ 0xB8) → Dec (first ≡ 0x47) → Accepts first place missed
    by (yes b) other = rw b (start_kind place missed)
    by (no b) (yes s) = rw s (packet_kind place missed)
    by (no b) (no s) = neither_kind first b s place missed

pub stepped : (s : GroupSync) (d : Option ℕ) → Stepped s.place d (group_step s d)
stepped s None = passed Lost (record { place = known_after s.place; missed = s.missed }) tt
stepped s (Some first) = accepted_kind first s.place s.missed
