-- What a list of calls comes to by group synchronization alone, and what a fresh receiver makes of a sender's blocks, begun at any of them.
-- Clauses: document 01, "Receiver"; document 02, P4.
-- Assumes nothing.
use Rattle.std.specs.Prelude.{◌≡◌, List, [], ◌∷◌, ◌++◌, map, ℕ, ◌+◌, ◌-◌, length, get_or, take, drop, replicate, Option}
use Rattle.randomizer.specs.Packet.{derandomized}
use Rattle.group_sync.specs.Stream.{before_group}
use Rattle.group_sync.specs.declared.Outcome.{Outcome}
use Rattle.group_sync.specs.declared.Outcome.TheVariants.{Filling, Delivered, Lost, Waiting, OutOfStep}
use Rattle.reception_counts.specs.Counts.{outcome_number}
use Rattle.sent_blocks.specs.Blocks.{coded_blocks}
use Rattle.receiver.specs.Receive.{fresh_receiver, decoding_of}
use Rattle.receiver.specs.Run.{Call, packets_given, answers}
use Rattle.receiver.specs.declared.Receiver.{Receiver}

-- what decoding left, call by call
abbrev pub lefts : List Call → List (List ℕ)
lefts cs = map (λ c. c.left) cs

-- what it means for the group
abbrev pub decodings : List Call → List (Option ℕ)
decodings cs = map (λ c. decoding_of c.decoded (get_or c.left 0 0)) cs

-- the packet that an outcome gives of what decoding left
abbrev pub packet_of : Outcome → List ℕ → List (List ℕ)
packet_of Filling left = []
packet_of (Delivered place) left = derandomized place (take 188 left) ∷ []
packet_of Lost left = []
packet_of Waiting left = []
packet_of OutOfStep left = []

abbrev pub delivered_packets : List Outcome → List (List ℕ) → List (List ℕ)
delivered_packets [] ls = []
delivered_packets (o ∷ os) [] = []
delivered_packets (o ∷ os) (l ∷ ls) = packet_of o l ++ delivered_packets os ls

-- the calls are answered, and give packets, as these outcomes say
pub record ComeTo (s : Receiver) (cs : List Call) (os : List Outcome) : Type 0 where
  pub answered : answers s cs ≡ map outcome_number os
  pub given : packets_given s cs ≡ delivered_packets os (lefts cs)

-- the outcomes of calls of which the first k are filling
abbrev pub filled_first : ℕ → List Call → List Outcome → List Outcome
filled_first k cs os = take (length cs) (replicate k Filling) ++ os

-- The blocks of a sender from block m on: eleven answers 9, answers 10 to the first start of a group, and from there every packet.
-- Every block after the eleven is corrected to the coded packet that was sent.
pub record BegunAt (m : ℕ) (packets : List (List ℕ)) (cs : List Call) : Type 0 where
  pub answered : answers fresh_receiver cs ≡ take (length cs) (replicate 11 9 ++ replicate (before_group m) 10 ++ replicate (length cs) 0)
  pub given : packets_given fresh_receiver cs ≡ take (length cs - 11 - before_group m) (drop (m + before_group m) packets)
  pub corrected : lefts (drop 11 cs) ≡ take (length cs - 11) (drop m (coded_blocks packets))
