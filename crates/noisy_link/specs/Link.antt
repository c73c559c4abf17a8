-- A link over a noisy channel: the symbols that came are not all those that were sent, and are read as a stream, as the programs do.
-- Assumes nothing.
use Rattle.std.specs.Prelude.{◌≡◌, Bool, List, ◌++◌, map, ℕ, ◌+◌, ◌-◌, ◌≤◌, length, take, replicate}
use Rattle.common.specs.Lists.{chunks_of}
use Rattle.sender.specs.Input.{packets_for}
use Rattle.sent_blocks.specs.Blocks.{interleaved_blocks}
use Rattle.noise_tolerance.specs.Noise.{SparseSymbols}
use Rattle.noise_tolerance.specs.Table.{Limits}
use Rattle.noise_tolerance.specs.Harm.{Spoils, Gathered, harm_window, harm_distance}
use Rattle.link.specs.Link.{StreamLink, read_bytes, bit_count, blocks_in_bits}

-- what is received doubts what was sent sparsely
abbrev pub Sparsely : {R : Type 0} → (R → ℕ → ℕ) → Limits → List R → List ℕ → Type 0
Sparsely doubt l points came = SparseSymbols l.window l.tolerated (map doubt points) came

-- some symbols are harmed, wherever they are not far apart within so many, and the others are sparsely doubted
pub record Rained {R : Type 0} (doubt : R → ℕ → ℕ) (harmed : R → Bool) (l : Spoils) (rate : ℕ) (points : List R) (came : List ℕ) : Type 0 where
  pub sparse : SparseSymbols harm_window l.elsewhere (map doubt points) came
  pub gathered : Gathered harmed (harm_distance rate) l.longest points

-- What it gives whatever its end, of the blocks that are whole before the last bits, which are unsure: these are all that were received, or all but the last.
-- They are answered as unharmed ones, and the packets of all but the last eleven of them are given, in order.
pub record FrontGiven {R : Type 0} {cost : R → ℕ → ℕ} {SymbolCame : List R → List ℕ → Type 0} {rate : ℕ} {inputs : List (List ℕ)} (unsure : ℕ) (k : StreamLink cost SymbolCame rate inputs) : Type 0 where
  pub surely : ℕ
  pub surely_is : surely ≡ blocks_in_bits (bit_count k - unsure)
  pub all_but_one : length (chunks_of 204 (read_bytes k)) ≤ surely + 1
  pub answered : take surely k.numbers ≡ take surely (replicate 11 9 ++ replicate surely 0)
  pub packets : take (surely - 11) k.given ≡ take (surely - 11) (packets_for inputs)

-- where these blocks are also those that were sent
pub record FrontArrived {R : Type 0} {cost : R → ℕ → ℕ} {SymbolCame : List R → List ℕ → Type 0} {rate : ℕ} {inputs : List (List ℕ)} (unsure : ℕ) (k : StreamLink cost SymbolCame rate inputs) : Type 0 where
  pub front : FrontGiven unsure k
  pub blocks_sent : take front.surely (chunks_of 204 (read_bytes k)) ≡ take front.surely (interleaved_blocks (packets_for inputs))
