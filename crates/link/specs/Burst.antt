-- What a burst may do: document 02, P9. Which received bytes are wrong, how close together they are to lie, and what is promised then.
-- The bytes that a fresh sender sends from its block m on are those after the first 204 m.
-- Assumes nothing.
use Rattle.std.specs.Prelude.{◌≡◌, ℕ, zero, suc, ◌+◌, ◌-◌, ◌≤◌, ◌<◌, ◌*◌, length, get_or, take, drop, replicate}
use mathlib.Core.List.{List, ◌++◌, flatten}
use Rattle.reed_solomon.specs.Code.{differ}
use Rattle.interleaver.specs.Gathered.{gathered}
use Rattle.group_sync.specs.Stream.{before_group}
use Rattle.receiver.specs.Receive.{fresh_receiver}
use Rattle.receiver.specs.Run.{Call, after_calls, lent_blocks}
use Rattle.receiver.specs.Begun.{BegunAt}
use Rattle.receiver.specs.declared.Receiver.{Receiver}
use Rattle.sent_blocks.specs.Blocks.{sent_bytes}
use Rattle.link.specs.Places.{burst_length, span}

-- the bytes that a list of calls is lent
abbrev pub received_bytes : List Call → List ℕ
received_bytes cs = flatten (lent_blocks cs)

-- ---- the hypothesis

-- byte i of those received is not the one sent
abbrev pub Wrong : List ℕ → List ℕ → ℕ → Type 0
Wrong sent received i = get_or sent i 0 ≡ get_or received i 0 → ⊥

-- the wrong bytes among the n from byte a on lie within the length of a burst
pub record Burst (sent received : List ℕ) (a n : ℕ) : Type 0 where
  pub start : ℕ
  pub covers : (i : ℕ) → a ≤ i → i < a + n → Wrong sent received i → (start ≤ i) × (i < start + burst_length)

-- so in every run of consecutive received bytes that is no longer than the span
abbrev pub Bursts : List ℕ → List ℕ → Type 0
Bursts sent received = (a n : ℕ) → n ≤ span → a + n ≤ length received → Burst sent received a n

-- ---- what is promised

-- how many bytes of the block that call p + 12 corrects are wrong
abbrev pub wrong_in : List ℕ → List ℕ → ℕ → ℕ
wrong_in sent received p = differ (gathered received p) (gathered sent p)

-- and of the n blocks from that one on
abbrev pub wrong_bytes : List ℕ → List ℕ → ℕ → ℕ → ℕ
wrong_bytes sent received p zero = 0
wrong_bytes sent received p (suc n) = wrong_in sent received p + wrong_bytes sent received (p + 1) n

-- A receiver fresh at block m of the sender corrects every block after the eleven to what was sent, and gives every packet from the first
-- start of a group on. So it accepts every block after the eleven, and changed is the number of wrong bytes in them.
pub record Tolerated (m : ℕ) (packets : List (List ℕ)) (cs : List Call) : Type 0 where
  pub begun : BegunAt m packets cs
  pub changed : (after_calls fresh_receiver cs).counts.changed ≡ wrong_bytes (drop (204 * m) (sent_bytes packets)) (received_bytes cs) 0 (length cs - 11)

-- The same of calls of `receive`, each by its promise alone: these blocks, the numbers of the answers, the packets given, and the receiver
-- that the last call handed back.
pub record Promised (m : ℕ) (packets blocks : List (List ℕ)) (numbers : List ℕ) (given : List (List ℕ)) (last : Receiver) : Type 0 where
  pub answered : numbers ≡ take (length blocks) (replicate 11 9 ++ replicate (before_group m) 10 ++ replicate (length blocks) 0)
  pub gave : given ≡ take (length blocks - 11 - before_group m) (drop (m + before_group m) packets)
  pub changed : last.counts.changed ≡ wrong_bytes (drop (204 * m) (sent_bytes packets)) (flatten blocks) 0 (length blocks - 11)
