-- Feeding after feeding, and what all the bits come to, whatever pieces they came in.
-- Assumes nothing.
use Rattle.std.specs.Prelude.{◌≡◌, Bool, true, false, ℕ, ◌+◌, ◌*◌, ◌≤◌, ◌<◌, length, take, drop, Ok, is_some, unwrap_or, option_to_list}
use mathlib.Core.List.{List, [], ◌∷◌, ◌++◌, map, flatten}
use Rattle.common.specs.Choice.{pick}
use Rattle.common.specs.Lists.{All, total}
use Rattle.block_sync.specs.Decision.{unlocked, Decides, used_bits, block_of}
use Rattle.block_sync.specs.Feed.{holding, fresh_block_sync, FeedsSync, FinishesSync}
use Rattle.block_sync.specs.declared.Lock.{Lock}
use Rattle.block_sync.specs.declared.Decision.{Decision}
use Rattle.block_sync.specs.declared.BlockSync.{BlockSync}
use Rattle.block_sync.specs.declared.SyncStep.{SyncStep}
use Rattle.block_sync.specs.declared.GivenBlock.{GivenBlock}

-- the block that went out, where one did, and whether it is one that does not follow the block before it
abbrev pub step_given : SyncStep → List GivenBlock
step_given r = option_to_list r.block

-- A history of calls from a fresh value on, each with the value that the one before it left: the bits that were taken, the blocks that were given, one
-- after the other, and how many bits were skipped.
pub data SyncFeedings : List ℕ → List GivenBlock → ℕ → BlockSync → Type 0 where
  fresh : SyncFeedings [] [] 0 fresh_block_sync
  feeding : {bits : List ℕ} {given : List GivenBlock} {skipped : ℕ} {s : BlockSync} (piece : List ℕ) (r : SyncStep) → SyncFeedings bits given skipped s → FeedsSync s piece (Ok r)
      → SyncFeedings (bits ++ take r.taken piece) (given ++ step_given r) (skipped + r.skipped) r.sync

-- Calls at the end of the bits, any number.
pub data SyncEndings (s : BlockSync) : List GivenBlock → ℕ → BlockSync → Type 0 where
  none : SyncEndings s [] 0 s
  ending : {given : List GivenBlock} {skipped : ℕ} {t : BlockSync} (r : SyncStep) → SyncEndings s given skipped t → FinishesSync t (Ok r)
      → SyncEndings s (given ++ step_given r) (skipped + r.skipped) r.sync

-- ---- what all the bits come to

-- bits that are skipped, and those of a block behind them, if one is given
pub record Part : Type 0 where
  pub skipped : List ℕ
  pub given : Bool
  pub begins : Bool
  pub inverted : Bool
  pub bits : List ℕ

abbrev pub part_of : Decision → List ℕ → Part
part_of d l = record {
  skipped = take d.skipped l;
  given = is_some d.begins;
  begins = unwrap_or d.begins false;
  inverted = d.lock.inverted;
  bits = pick (is_some d.begins) (take 1632 (drop d.skipped l)) [];
}

abbrev pub part_bits : Part → List ℕ
part_bits p = p.skipped ++ p.bits

-- the block of a part: its bits, straight or inverted
abbrev pub part_given : Part → List GivenBlock
part_given p = pick p.given (record { begins = p.begins; bytes = block_of p.inverted p.bits } ∷ []) []

abbrev pub given_of : List Part → List GivenBlock
given_of [] = []
given_of (p ∷ ps) = part_given p ++ given_of ps

abbrev pub skipped_of : List Part → ℕ
skipped_of ps = total (λ p. length p.skipped) ps

-- Decisions on the first 8,168 bits of those left, while there are so many: the parts, the lock after them, and the bits that are left.
pub data Aligned : Lock → List ℕ → List Part → Lock → List ℕ → Type 0 where
  few : {k : Lock} {l : List ℕ} → length l < 8168 → Aligned k l [] k l
  turn : {k last : Lock} {l left : List ℕ} {parts : List Part} (d : Decision) → 8168 ≤ length l → Decides k (take 8168 l) d
      → Aligned d.lock (drop (used_bits d) l) parts last left → Aligned k l (part_of d (take 8168 l) ∷ parts) last left

-- What the bits that came come to.
pub record SyncCame (bits : List ℕ) (given : List GivenBlock) (skipped : ℕ) (s : BlockSync) : Type 0 where
  pub parts : List Part
  pub left : List ℕ
  pub aligned : Aligned unlocked bits parts s.lock left
  pub state : s ≡ holding s.lock left
  pub blocks : given ≡ given_of parts
  pub skips : skipped ≡ skipped_of parts

-- ---- every bit is accounted for

-- a block has 1,632 bits
abbrev pub Sized : Part → Type 0
Sized p = length p.bits ≡ pick p.given 1632 0

-- A block that does not begin anew follows the block before it, with no bit skipped between them; what is before the first part is told.
abbrev pub Linked : Bool → List Part → Type 0
Linked before [] = Unit {0}
Linked before (p ∷ ps) = (p.given ≡ true → p.begins ≡ false → (before ≡ true) × (p.skipped ≡ [])) × Linked p.given ps

-- The bits are those of parts, one after the other, and then those left: so each block is 1,632 bits in a row, straight or inverted, the blocks are in
-- order, and no bit is in two. All bits but those skipped and those left are in blocks.
pub record Accounted (bits : List ℕ) (given : List GivenBlock) (skipped : ℕ) (left : List ℕ) : Type 0 where
  pub parts : List Part
  pub whole : bits ≡ flatten (map part_bits parts) ++ left
  pub sized : All Sized parts
  pub blocks : given ≡ given_of parts
  pub linked : Linked false parts
  pub skips : skipped ≡ skipped_of parts
  pub counted : skipped + 1632 * length given + length left ≡ length bits

-- the same came out, and the same value is left
pub record SameSync (given given' : List GivenBlock) (skipped skipped' : ℕ) (s s' : BlockSync) : Type 0 where
  pub blocks : given ≡ given'
  pub skips : skipped ≡ skipped'
  pub state : s ≡ s'
