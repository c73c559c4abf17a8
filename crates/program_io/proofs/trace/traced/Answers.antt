-- `program_io::trace::traced` meets its contract.
-- Assumes nothing.
use Rattle.std.proofs.Common.{◌+◌, drop, sym, refl, ap, ◌∙◌, arith}
use Rattle.program_io.specs.Checksum as checksum
use Rattle.program_io.specs.declared.trace.Trace.{Trace}
use Rattle.program_io.proofs.Traces.{traced_step, traced_end}
use Rattle.program_io.proofs.trace.traced.Goals as goal

pub loop-byte-init : goal.loop-byte-init
loop-byte-init c = (omega arith, refl)

pub loop-byte-preserved : goal.loop-byte-preserved
loop-byte-preserved c =
    let l = c.loop-byte in
    let t = c.loop-byte-test in
    let a = c.args in
    (omega arith, ap (λ (x : Trace). checksum.traced x (drop (l.byte-index + 1) a.bytes.now)) c.step-after.ensures ∙ traced_step l.after l.byte-index a.bytes.now (omega (arith, t)) ∙ l.invariant.1)

pub returns : goal.returns
returns c =
    let l = c.loop-byte in
    let t = c.loop-byte-test in
    sym (traced_end l.after l.byte-index c.args.bytes.now (omega (arith, t))) ∙ l.invariant.1
