-- `program_io::words::is_text` meets its contract.
-- Assumes nothing.
use Rattle.std.proofs.Common.{Bool, [], take, sym, ap, ◌∙◌, arith, length-take-le, le-ltb, lt-ltb}
use Rattle.common.specs.Choice.{pick}
use Rattle.program_io.specs.Words.{same_bytes}
use Rattle.program_io.proofs.Texts.{same_none, same_pointwise}
use Rattle.program_io.proofs.words.is_text.Goals as goal

pub returns-then-length-gt32 : goal.returns-then-length-gt32
returns-then-length-gt32 c =
    let a = c.args in
    sym (ap (λ (t : Bool). same_bytes (pick t [] (take a.length a.bytes)) a.text.now) (lt-ltb _ _ c.if-length-gt32.true) ∙ same_none a.text.now)

pub slice_bounds-eq-end : goal.slice_bounds-eq-end
slice_bounds-eq-end c = sym (length-take-le _ _ (omega (arith, c.if-length-gt32.false, c.well_formed.0.1.0.1)))

pub returns : goal.returns
returns c =
    let a = c.args in
    c.eq.ensures ∙ same_pointwise (take a.length a.bytes) a.text.now ∙ sym (ap (λ (t : Bool). same_bytes (pick t [] (take a.length a.bytes)) a.text.now) (le-ltb _ _ c.if-length-gt32.false))
