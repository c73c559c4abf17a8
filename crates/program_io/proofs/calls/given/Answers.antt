-- `program_io::calls::given` meets its contract.
-- Assumes nothing.
use Rattle.std.proofs.Common.{sym, refl, ◌∙◌}
use Rattle.program_io.specs.Calls.{whole, part}
use Rattle.program_io.proofs.calls.given.Goals as goal

pub returns-then-failed : goal.returns-then-failed
returns-then-failed c =
    let k = c.close-output.ensures in
    part refl k.file (sym c.failed.ensures ∙ c.if-failed.true)

pub returns-else-failed : goal.returns-else-failed
returns-else-failed c =
    let k = c.close-output in
    let u = sym c.failed.ensures ∙ c.if-failed.false in
    whole refl k.ensures.file (k.ensures.started u) u (k.ensures.closed u) k.ensures.trace
