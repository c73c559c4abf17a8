-- EN 301 210, 4.6.3: the parallel-to-parallel conversion of table 3, and the symbol sequencer of table 4.
-- Assumes nothing.
use mathlib.Core.List.{List, [], ◌∷◌, map, flatten}
use Rattle.std.specs.Prelude.{ℕ, ◌+◌, ◌-◌, ◌*◌, ◌/◌, ◌%◌, get_or}
use Rattle.common.specs.Lists.{chunks_of}
use Rattle.puncturing.specs.Mode.{InputBit, A, B, D, Column, Mode, binary}

-- the bit of a byte with an index: 7 is the top bit
abbrev pub bit_at : ℕ → ℕ → ℕ
bit_at b i = get_or (b % 2 ∷ b / 2 % 2 ∷ b / 4 % 2 ∷ b / 8 % 2 ∷ b / 16 % 2 ∷ b / 32 % 2 ∷ b / 64 % 2 ∷ b / 128 % 2 ∷ []) i 0

-- a bit of a group of bytes: A is the first byte, B the second, D the third
abbrev pub input_bit : List ℕ → InputBit → ℕ
input_bit g (A i) = bit_at (get_or g 0 0) i
input_bit g (B i) = bit_at (get_or g 1 0) i
input_bit g (D i) = bit_at (get_or g 2 0) i

-- the encoded branch: the bits E of each group of bytes that the mode takes together, column by column
abbrev pub encoded_group : Mode → List ℕ → List ℕ
encoded_group m g = map (λ (c : Column). input_bit g c.e) m.columns

unfoldable pub encoded_bits : Mode → List ℕ → List ℕ
encoded_bits m bytes = flatten (map (encoded_group m) (chunks_of m.group bytes))

-- the other branch: the bits U of each symbol, as a number; NE k is the k-th of its column
abbrev pub beside_symbol : List ℕ → Column → List ℕ → ℕ
beside_symbol g c us = binary (map (λ (k : ℕ). input_bit g (get_or c.ne (k - 1) (A 0))) us)

abbrev pub uncoded_group : Mode → List ℕ → List ℕ
uncoded_group m g = flatten (map (λ (c : Column). map (beside_symbol g c) m.uncoded) m.columns)

unfoldable pub uncoded_numbers : Mode → List ℕ → List ℕ
uncoded_numbers m bytes = flatten (map (uncoded_group m) (chunks_of m.group bytes))

-- the symbol sequencer: the numbers of U beside those of C, which has two bits. A mode without U sends C alone.
unfoldable pub sequenced : List ℕ → List ℕ → List ℕ
sequenced [] cs = cs
sequenced (u ∷ us) [] = []
sequenced (u ∷ us) (c ∷ cs) = (4 * u + c) ∷ sequenced us cs
