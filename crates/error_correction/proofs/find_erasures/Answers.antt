-- `error_correction::find_erasures` meets its contract.
-- Assumes nothing.
use mathlib.Core.Path.{sym, ◌∙◌}
use native.Mathlib.Omega.{arith}
use Rattle.galois.proofs.Instance.{bytes, byte_one}
use Rattle.error_correction.proofs.find_erasures.Goals as goal

pub find_roots-requires : goal.find_roots-requires
find_roots-requires c =
    let p = c.requires in
    (p.0, p.2, λ z. absurd (c.if-count-eq0.false z), sym p.1, λ z. bytes.one·ne·zero (sym byte_one ∙ z.0), omega (arith, p.1, p.2))
