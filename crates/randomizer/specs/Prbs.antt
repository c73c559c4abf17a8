-- The pseudo-random binary sequence (PRBS) of EN 300 421, 4.4.1, with the generator 1 + x^14 + x^15, and what it adds to a group of eight packets.
-- Assumes nothing.
use Rattle.std.specs.Prelude.{List, [], ◌∷◌, ℕ, zero, suc, ◌+◌, ◌*◌, ◌%◌, eqb, get_or, take}
use Rattle.common.specs.Choice.{pick}

-- the fifteen stages of the register, stage 1 first: the sequence 100101010000000 that is loaded at the start of every eight packets
unfoldable pub loaded : List ℕ
loaded = 1 ∷ 0 ∷ 0 ∷ 1 ∷ 0 ∷ 1 ∷ 0 ∷ 1 ∷ 0 ∷ 0 ∷ 0 ∷ 0 ∷ 0 ∷ 0 ∷ 0 ∷ []

-- the bit that a step puts out: stage 14 xor stage 15
unfoldable pub output_bit : List ℕ → ℕ
output_bit register = (get_or register 13 0 + get_or register 14 0) % 2

-- the register after a step: the bit put out is fed to stage 1
unfoldable pub stepped : List ℕ → List ℕ
unfolding output_bit
stepped register = output_bit register ∷ take 14 register

-- the register after n steps
unfoldable pub steps : ℕ → List ℕ → List ℕ
unfolding stepped
steps zero register = register
steps (suc n) register = steps n (stepped register)

-- the number whose binary digits are acc's and then the bits of n steps: the first bit is the top one
unfoldable pub step_bits : ℕ → ℕ → List ℕ → ℕ
unfolding output_bit stepped
step_bits zero acc register = acc
step_bits (suc n) acc register = step_bits n (acc * 2 + output_bit register) (stepped register)

-- n bytes of the sequence
unfoldable pub sequence : ℕ → List ℕ → List ℕ
unfolding steps step_bits
sequence zero register = []
sequence (suc n) register = step_bits 8 0 register ∷ sequence n (steps 8 register)

-- the bytes of one group: its period, from the first byte after the inverted sync byte to the end of the group
unfoldable pub period : List ℕ
unfolding loaded sequence
period = sequence 1503 loaded

-- The sequence as it is applied to a group from byte n on.
-- During the sync bytes of the packets it runs on, and its output is disabled.
unfoldable pub enabled : ℕ → List ℕ → List ℕ
enabled n [] = []
enabled n (b ∷ bs) = pick (eqb (n % 188) 0) 0 b ∷ enabled (n + 1) bs

-- what each of the 1,504 bytes of a group is xored with: the first sync byte is inverted bit by bit, from 47 to B8 hex
unfoldable pub masks : List ℕ
unfolding period enabled
masks = 0xFF ∷ enabled 1 period
