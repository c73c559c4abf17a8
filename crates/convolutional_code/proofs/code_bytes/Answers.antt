-- `convolutional_code::code_bytes` meets its contract.
-- Assumes nothing.
use mathlib.Core.Path.{◌≡◌, refl, ap, ◌∙◌}
use mathlib.Core.List.{List, ◌++◌}
use Prim.Native.Nat.{ℕ, ◌+◌, ◌*◌}
use native.Mathlib.Omega.{arith}
use lib.ListN.{length}
use Rattle.convolutional_code.specs.Bits.{Bits}
use Rattle.convolutional_code.specs.Sweep.{offsets_x, offsets_y, sweep, memory_at}
use Rattle.convolutional_code.proofs.Bits.{bits_append, bits_oldest, bits_bits}
use Rattle.convolutional_code.proofs.Sweep.{block_mother_lem, block_memory}
use Rattle.convolutional_code.proofs.code_bytes.Goals as goal

pub mother-requires : goal.mother-requires
mother-requires c =
    let unpacked : (Bits c.unpack.new.history) × (length c.unpack.new.history ≡ 8 * length c.args.bytes.now + 6) = (rw c.unpack.ensures (bits_append (bits_oldest c.args.memory) (bits_bits c.args.bytes.now)), c.unpack.auto.history ∙ c.requires.2) in
    let u = unpacked in
    (u.0, omega (arith, c.requires.1), u.1, omega (arith, c.requires.3))

pub memory_of-requires : goal.memory_of-requires
memory_of-requires c =
    let unpacked : (Bits c.unpack.new.history) × (length c.unpack.new.history ≡ 8 * length c.args.bytes.now + 6) = (rw c.unpack.ensures (bits_append (bits_oldest c.args.memory) (bits_bits c.args.bytes.now)), c.unpack.auto.history ∙ c.requires.2) in
    let u = unpacked in
    (u.0, omega (arith, c.requires.1), u.1)

pub returns : goal.returns
returns c =
    let a = c.args in
    let bits = 8 * length a.bytes.now in
    let u = c.unpack.ensures in (
      c.memory_of.ensures ∙ ap (λ (l : List ℕ). memory_at l bits) u ∙ block_memory a.memory a.bytes.now bits c.requires.0 refl,
      c.mother.ensures
          ∙ ap (λ (l : List ℕ). sweep offsets_x l 0 bits ++ sweep offsets_y l 0 bits) u
          ∙ block_mother_lem a.memory a.bytes.now bits c.requires.0 refl,
    )
