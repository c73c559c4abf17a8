-- What the list of losses promises: that it is true and complete, and that of a sender's blocks with any of them left out or doubled it has every
-- packet that is not the one sent.
-- Clauses: document 01, "Receiver"; document 02, P4 and P5.
-- Assumes nothing.
use Rattle.std.specs.Prelude.{◌≡◌, List, [], ◌∷◌, ◌⊎◌, ℕ, zero, suc, ◌+◌, ◌-◌, ◌≤◌, ◌<◌, length, get_or, take, drop}
use Rattle.group_sync.specs.Stream.{before_group}
use Rattle.group_sync.specs.declared.Outcome.TheVariants.{Delivered, Lost}
use Rattle.receiver.specs.Receive.{fresh_receiver}
use Rattle.receiver.specs.Run.{Call, answers, lent_blocks}
use Rattle.receiver.specs.Begun.{lefts, packet_of}
use Rattle.sent_blocks.specs.Blocks.{coded_blocks, interleaved_blocks}
use Rattle.losses.specs.List.{line}
use Rattle.losses.specs.History.{blocks_of}

-- a number is in a list
abbrev pub In : ℕ → List ℕ → Type 0
In x [] = ⊥
In x (y ∷ ys) = (x ≡ y) ⊎ In x ys

-- ---- the list is true, and nothing is missing in it

-- what call K + 12 of a fresh receiver answered, the first being call 1
abbrev pub answer_at : List Call → ℕ → ℕ
answer_at cs block = get_or (answers fresh_receiver cs) (block + 11) 0

-- a line tells of a block that came whole what its call answered
pub record TrueOf (cs : List Call) (l : ℕ) : Type 0 where
  pub block : ℕ
  pub came : block + 12 ≤ length cs
  pub tells : l ≡ line block (answer_at cs block)

-- every block that came whole was given or has a line, and every line is true
pub record Complete (cs : List Call) (lines : List ℕ) : Type 0 where
  pub whole : (block : ℕ) → block + 12 ≤ length cs → (answer_at cs block ≡ 0) ⊎ In (line block (answer_at cs block)) lines
  pub truth : (l : ℕ) → In l lines → TrueOf cs l

-- ---- blocks left out or doubled

-- the packet that was given of a block, or none
abbrev pub packet_at : List Call → ℕ → List (List ℕ)
packet_at cs block = packet_of (get_or (blocks_of cs) block Lost) (get_or (lefts (drop 11 cs)) block [])

-- The blocks that were given are blocks of a sender, corrected to what was sent: block K of the recording is its block `at K`. Where two of them follow
-- each other, so they do in the sender: the recording is cut into stretches of consecutive blocks by blocks that were not given.
pub record Stretches (packets : List (List ℕ)) (at : ℕ → ℕ) (cs : List Call) : Type 0 where
  pub sent : (block place : ℕ) → get_or (blocks_of cs) block Lost ≡ Delivered place
      → (at block < length packets) × (get_or (lefts (drop 11 cs)) block [] ≡ get_or (coded_blocks packets) (at block) [])
  pub consecutive : (block p q : ℕ) → get_or (blocks_of cs) block Lost ≡ Delivered p → get_or (blocks_of cs) (suc block) Lost ≡ Delivered q → at (suc block) ≡ at block + 1

-- every packet given that is not the one sent there has a line
abbrev pub WrongTold : List (List ℕ) → (ℕ → ℕ) → List Call → List ℕ → Type 0
WrongTold packets at cs lines = (block : ℕ) (packet : List ℕ) → packet_at cs block ≡ packet ∷ [] → (packet ≡ get_or packets (at block) []) ⊎ In (line block 0) lines

-- The same of the received bytes themselves: each received block is some block of a sender, unharmed, and a packet was given only where the twelve blocks
-- that it comes from are consecutive in the sender.
pub record LeftOut (packets : List (List ℕ)) (at : ℕ → ℕ) (cs : List Call) : Type 0 where
  pub sent : (i : ℕ) → i < length cs → (at i < length packets) × (get_or (lent_blocks cs) i [] ≡ get_or (interleaved_blocks packets) (at i) [])
  pub consecutive : (block place : ℕ) → get_or (blocks_of cs) block Lost ≡ Delivered place → (i : ℕ) → i < 11 → at (block + suc i) ≡ at (block + i) + 1

-- ---- without gap and harm

-- answers 10 for the blocks from this one on
abbrev pub wait_lines : ℕ → ℕ → List ℕ
wait_lines block zero = []
wait_lines block (suc n) = line block 10 ∷ wait_lines (block + 1) n

-- begun at block m of a sender: those before the first start of a group, as far as they came whole
abbrev pub start_lines : ℕ → ℕ → List ℕ
start_lines m blocks = take (blocks - 11) (wait_lines 0 (before_group m))
