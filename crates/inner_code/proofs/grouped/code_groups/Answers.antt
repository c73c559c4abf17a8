-- `inner_code::grouped::code_groups` meets its contract.
-- Assumes nothing.
use native.Mathlib.Omega.{arith}
use Rattle.convolutional_code.specs.Bits.{bits_of}
use Rattle.convolutional_code.specs.Code.{taps_x, taps_y}
use Rattle.convolutional_code.proofs.Bits.{bits_append, bits_mother}
use Rattle.inner_code.proofs.Groups.{group_digits_small}
use Rattle.inner_code.proofs.grouped.code_groups.Goals as goal

pub sequence-requires : goal.sequence-requires
sequence-requires c =
    let m = c.args.memory in
    let ud = c.uncoded_digits in
    let cb = c.code_bytes-next in
    let bits = bits_of c.encoded_bytes.new.bytes in
    let size = ud.auto.uncoded in
    let few = c.requires.1.few in (
      (λ n. rw ud.ensures (group_digits_small c.requires.1 c.args.block.now n)),
      rw cb.ensures.1 (bits_append (bits_mother taps_x m bits) (bits_mother taps_y m bits)),
      omega (arith, size, c.requires.2, few),
      omega (arith, size, cb.auto.coded, c.requires.2, c.requires.4),
      omega (arith, size, c.requires.2, c.requires.5),
    )
