-- `program_io::input::Input::ended` meets its contract.
-- Assumes nothing.
use Rattle.std.proofs.Common.{◌≡◌, Bool, true, false, ℤ, pos, sym, ap, ◌∙◌, subst, w64, to_z, of_z, rules}
use lib.Signed.{lt_z, le_z}
use Rattle.common.specs.Choice.{pick}
use Rattle.program_io.proofs.input.Input.ended.Goals as goal

pub returns-then-self-lt0 : goal.returns-then-self-lt0
returns-then-self-lt0 c =
    let z = c.args.self.last in
    let e : to_z w64 (of_z w64 z) ≡ z = search rules in
    let t : lt_z z (pos 0) ≡ true = subst (λ (x : ℤ). lt_z x (pos 0) ≡ true) e c.if-self-lt0.true in
    sym (ap (λ (b : Bool). pick b false (le_z z (pos 0))) t)

pub returns : goal.returns
returns c =
    let z = c.args.self.last in
    let e : to_z w64 (of_z w64 z) ≡ z = search rules in
    let t : lt_z z (pos 0) ≡ false = subst (λ (x : ℤ). lt_z x (pos 0) ≡ false) e c.if-self-lt0.false in
    ap (λ (x : ℤ). le_z x (pos 0)) e ∙ sym (ap (λ (b : Bool). pick b false (le_z z (pos 0))) t)
