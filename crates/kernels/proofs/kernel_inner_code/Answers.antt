-- `kernels::kernel_inner_code` meets its contract.
-- Assumes nothing.
use mathlib.Core.Path.{◌≡◌, refl, sym, ◌∙◌}
use mathlib.Core.Bool.{true}
use native.Mathlib.Omega.{arith}
use borrow.Author.Tests.{lt-ltb, le-ltb}
use Rattle.puncturing.specs.Mode.{mode_of}
use Rattle.kernels.proofs.kernel_inner_code.Goals as goal

pub returns-then-not-is_sent : goal.returns-then-not-is_sent
returns-then-not-is_sent c = simp (sym c.is_sent.ensures ∙ c.if-not-is_sent.true) (refl, refl)

pub returns-then-output-blocks : goal.returns-then-output-blocks
returns-then-output-blocks c =
    let sent : (mode_of c.args.rate).sent ≡ true = sym c.is_sent.ensures ∙ c.if-not-is_sent.false in
    simp (sent, lt-ltb _ _ c.if-output-blocks.true) (refl, refl)

pub code_blocks-requires : goal.code_blocks-requires
code_blocks-requires c =
    let sent : (mode_of c.args.rate).sent ≡ true = sym c.is_sent.ensures ∙ c.if-not-is_sent.false in
    (sent, omega arith)

pub returns : goal.returns
returns c =
    let sent : (mode_of c.args.rate).sent ≡ true = sym c.is_sent.ensures ∙ c.if-not-is_sent.false in
    simp (sent, le-ltb _ _ c.if-output-blocks.false) c.code_blocks.ensures
