-- The convolutional mother code: over a whole stream of bits, and with a memory of the last six.
-- Assumes nothing.
use Rattle.std.specs.Prelude.{List, [], ◌∷◌, ◌++◌, ℕ, ◌+◌, ◌*◌, ◌/◌, ◌%◌, get_or}
use Rattle.common.specs.Lists.{total}

-- The generators of EN 300 421, 4.4.3: G1 is 171 octal, 1 111 001, and G2 is 133 octal, 1 011 011. Each is given as its taps, by how many bits
-- before the newest one they are: document 01 has X from the bit and those 1, 2, 3 and 6 before it, Y from the bit and those 2, 3, 5 and 6 before it.
abbrev pub taps_x : List ℕ
taps_x = 0 ∷ 1 ∷ 2 ∷ 3 ∷ 6 ∷ []

abbrev pub taps_y : List ℕ
taps_y = 0 ∷ 2 ∷ 3 ∷ 5 ∷ 6 ∷ []

-- the coded bit of the newest bit: the xor of the bits at the taps; past is every bit so far, the newest first, and 0 before the first one
abbrev pub convolved : List ℕ → List ℕ → ℕ
convolved taps past = total (λ t. get_or past t 0) taps % 2

-- ---- with a memory

-- the last six bits, the newest first: the newest one counts 32 in the memory and the oldest 1
abbrev pub recent : ℕ → List ℕ
recent memory = memory / 32 % 2 ∷ memory / 16 % 2 ∷ memory / 8 % 2 ∷ memory / 4 % 2 ∷ memory / 2 % 2 ∷ memory % 2 ∷ []

abbrev pub next_memory : ℕ → ℕ → ℕ
next_memory memory bit = bit * 32 + memory / 2

-- X and Y of a bit that follows those of the memory
abbrev pub coded : List ℕ → ℕ → ℕ → ℕ
coded taps memory bit = convolved taps (bit ∷ recent memory)

-- X, or Y, of each bit of a list
unfoldable pub mother_of : List ℕ → ℕ → List ℕ → List ℕ
mother_of taps memory [] = []
mother_of taps memory (b ∷ bs) = coded taps memory b ∷ mother_of taps (next_memory memory b) bs

-- the memory after a list of bits
unfoldable pub memory_after : ℕ → List ℕ → ℕ
memory_after memory [] = memory
memory_after memory (b ∷ bs) = memory_after (next_memory memory b) bs

-- X and then Y of some bits: of k bits, X of bit n is at n, and Y at k + n
abbrev pub block_mother : ℕ → List ℕ → List ℕ
block_mother memory bits = mother_of taps_x memory bits ++ mother_of taps_y memory bits
