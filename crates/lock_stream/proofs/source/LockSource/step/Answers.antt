-- `lock_stream::source::LockSource::step` meets its contract.
-- Assumes nothing.
use mathlib.Core.Path.{sym, ap, subst}
use native.Mathlib.Omega.{arith}
use Rattle.acquisition.specs.Bits.{BitsReady}
use Rattle.acquisition.specs.declared.bit_source.BitSource.{BitSource}
use Rattle.lock_stream.proofs.Sources.{bits_ready, symbols_ready, bits_stepped, symbols_stepped}
use Rattle.lock_stream.proofs.source.LockSource.step.Goals as goal

pub step-step-requires : goal.step-step-requires
step-step-requires c =
    let u = c.decoded_of-source.ensures in
    (subst BitsReady (sym u) (bits_ready c.requires.0 c.if-bits.true), omega (arith, c.requires.3, ap (λ (d : BitSource). d.came) u))

pub returns-then-bits : goal.returns-then-bits
returns-then-bits c =
    let d = c.decoded_of-source in
    let t = c.step-step in
    bits_stepped c.args.self c.args.piece.now d.result t.result _ c.if-bits.true d.ensures c.holding_bits-next.ensures c.requires.2
    t.ensures.0 t.ensures.1 t.ensures.2

pub step-step-requires-2 : goal.step-step-requires-2
step-step-requires-2 c =
    (symbols_ready c.requires.0 c.if-bits.false, c.requires.1, c.requires.3)

pub returns : goal.returns
returns c =
    let t = c.step-step-2 in
    symbols_stepped c.args.self c.args.piece.now t.result c.if-bits.false c.requires.2 t.ensures.0 t.ensures.1 t.ensures.2
