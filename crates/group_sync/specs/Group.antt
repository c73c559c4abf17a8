-- How the receiver keeps step with the groups of eight packets: document 01, "Receiver", as document 02 amends it under P4.
-- EN 300 421, 4.4.1: the sync byte of the first packet of a group is sent inverted, B8 hex for 47, so that a receiver finds the group.
-- Assumes nothing.
use Rattle.std.specs.Prelude.{Bool, false, ℕ, ◌+◌, ◌≤◌, ltb, eqb, Option, Some, None}
use Prim.{Unit}
use Rattle.common.specs.Choice.{pick}
use Rattle.group_sync.specs.declared.FirstByte.{FirstByte}
use Rattle.group_sync.specs.declared.FirstByte.TheVariants.{InvertedSync, Sync, Neither}
use Rattle.group_sync.specs.declared.Outcome.{Outcome}
use Rattle.group_sync.specs.declared.Outcome.TheVariants.{Filling, Delivered, Lost, Waiting, OutOfStep}
use Rattle.group_sync.specs.declared.GroupSync.{GroupSync}
use Rattle.group_sync.specs.declared.GroupStep.{GroupStep}

-- the sync byte that is due at a place of a group
abbrev pub due_byte : ℕ → ℕ
due_byte place = pick (eqb place 0) 0xB8 0x47

abbrev pub byte_at_first : ℕ → FirstByte
byte_at_first first = pick (eqb first 0xB8) InvertedSync (pick (eqb first 0x47) Sync Neither)

-- the places go on by one, from 7 to 0
abbrev pub later_place : ℕ → ℕ
later_place place = pick (ltb place 7) (place + 1) 0

abbrev pub known_after : Option ℕ → Option ℕ
known_after None = None
known_after (Some p) = Some (later_place p)

-- a place is 0 to 7, the mark 0 or 1, and 0 while the place is not known
abbrev pub place_in_range : Option ℕ → ℕ → Bool
place_in_range None missed = ltb missed 1
place_in_range (Some p) missed = pick (ltb p 8) (ltb missed 2) false

abbrev pub sync_in_range : GroupSync → Bool
sync_in_range s = place_in_range s.place s.missed

-- no group start was seen
abbrev pub fresh_sync : GroupSync
fresh_sync = record { place = None; missed = 0 }

-- packet p of a group comes next
abbrev pub known_sync : ℕ → ℕ → GroupSync
known_sync p missed = record { place = Some p; missed = missed }

-- an outcome, and the place and the mark after it
abbrev pub step : Outcome → Option ℕ → ℕ → GroupStep
step outcome place missed = record { outcome = outcome; sync = record { place = place; missed = missed } }

-- ---- the table of document 02: an accepted block by the place, the mark and its first byte

-- Neither sync byte, at place p. The first such block is out of step and the place goes on; at a second one it becomes not known.
abbrev pub step_odd : ℕ → ℕ → GroupStep
step_odd p missed = pick (eqb missed 0) (step OutOfStep (Some (later_place p)) 1) (step OutOfStep None 0)

-- the place is not known
abbrev pub searching : FirstByte → GroupStep
searching InvertedSync = step (Delivered 0) (Some 1) 0
searching Sync = step Waiting None 0
searching Neither = step Waiting None 0

-- place 0: B8 is due
abbrev pub start_due : ℕ → FirstByte → GroupStep
start_due missed InvertedSync = step (Delivered 0) (Some 1) 0
start_due missed Sync = step OutOfStep None 0
start_due missed Neither = step_odd 0 missed

-- places 1 to 7: 47 is due, and B8 restarts the group
abbrev pub packet_due : ℕ → ℕ → FirstByte → GroupStep
packet_due p missed InvertedSync = step (Delivered 0) (Some 1) 0
packet_due p missed Sync = step (Delivered p) (Some (later_place p)) 0
packet_due p missed Neither = step_odd p missed

abbrev pub accepted_step : Option ℕ → ℕ → FirstByte → GroupStep
accepted_step None missed first = searching first
accepted_step (Some p) missed first = pick (eqb p 0) (start_due missed first) (packet_due p missed first)

-- One block after filling. A lost block neither sets nor clears the mark, and a place that is known goes on over it.
abbrev pub group_step : GroupSync → Option ℕ → GroupStep
group_step s None = step Lost (known_after s.place) s.missed
group_step s (Some first) = accepted_step s.place s.missed (byte_at_first first)

-- a packet given has a place of a group
abbrev pub PlaceOf : Outcome → Type 0
PlaceOf Filling = Unit {0}
PlaceOf (Delivered place) = place ≤ 7
PlaceOf Lost = Unit {0}
PlaceOf Waiting = Unit {0}
PlaceOf OutOfStep = Unit {0}
