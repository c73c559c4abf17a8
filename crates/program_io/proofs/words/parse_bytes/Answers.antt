-- `program_io::words::parse_bytes` meets its contract.
-- Assumes nothing.
use Rattle.std.proofs.Common.{Bool, [], take, sym, ap, ◌∙◌, arith, length-take-le, le-ltb, lt-ltb}
use Rattle.common.specs.Choice.{pick}
use Rattle.program_io.specs.Words.{parsed}
use Rattle.program_io.proofs.words.parse_bytes.Goals as goal

pub returns-then-length-gt32 : goal.returns-then-length-gt32
returns-then-length-gt32 c =
    let a = c.args in
    sym (ap (λ (t : Bool). parsed (pick t [] (take a.length a.bytes)) a.most) (lt-ltb _ _ c.if-length-gt32.true))

pub slice_bounds-bytes-end : goal.slice_bounds-bytes-end
slice_bounds-bytes-end c = omega (arith, c.if-length-gt32.false, c.well_formed.0.1.0.1)

pub slice_bounds-parse_number-end : goal.slice_bounds-parse_number-end
slice_bounds-parse_number-end c = sym (length-take-le _ _ (omega (arith, c.if-length-gt32.false, c.well_formed.0.1.0.1)))

pub returns : goal.returns
returns c =
    let a = c.args in
    c.parse_number.ensures ∙ sym (ap (λ (t : Bool). parsed (pick t [] (take a.length a.bytes)) a.most) (le-ltb _ _ c.if-length-gt32.false))
