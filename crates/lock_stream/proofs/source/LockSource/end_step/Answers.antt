-- `lock_stream::source::LockSource::end_step` meets its contract.
-- Assumes nothing.
use mathlib.Core.Path.{sym, subst}
use Rattle.acquisition.specs.Bits.{BitsReady}
use Rattle.lock_stream.proofs.Sources.{bits_ready, symbols_ready, bits_ended, symbols_ended}
use Rattle.lock_stream.proofs.source.LockSource.end_step.Goals as goal

pub end_step-step-requires : goal.end_step-step-requires
end_step-step-requires c =
    subst BitsReady (sym c.decoded_of-source.ensures) (bits_ready c.requires c.if-bits.true)

pub returns-then-bits : goal.returns-then-bits
returns-then-bits c =
    let d = c.decoded_of-source in
    let t = c.end_step-step in
    bits_ended c.args.self d.result t.result _ c.if-bits.true d.ensures c.holding_bits-next.ensures t.ensures.0 t.ensures.1 t.ensures.2

pub end_step-step-requires-2 : goal.end_step-step-requires-2
end_step-step-requires-2 c = symbols_ready c.requires c.if-bits.false

pub returns : goal.returns
returns c =
    let t = c.end_step-step-2 in
    symbols_ended c.args.self t.result c.if-bits.false t.ensures.0 t.ensures.1 t.ensures.2
