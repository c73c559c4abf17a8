-- `inner_code::encode_block` meets its contract.
-- Assumes nothing.
use mathlib.Core.Path.{◌≡◌, sym, subst}
use Prim.Native.Nat.{ℕ}
use native.Mathlib.Omega.{arith}
use Rattle.puncturing.specs.Mode.{mode_of}
use Rattle.inner_code.specs.Groups.{Grouped}
use Rattle.inner_code.proofs.Coder.{rate_known}
use Rattle.inner_code.proofs.Groups.{qam, grouped_qam}
use Rattle.inner_code.proofs.encode_block.Goals as goal

-- the one mode that is left
pub encode_grouped-requires : goal.encode_grouped-requires
encode_grouped-requires c =
    let p = c.requires in
    let five : c.args.coder.rate ≡ 5 = omega (arith, rate_known c.args.coder p.range, c.if-coder-lt-QPSK_MODES.false) in
    (p, subst (λ (r : ℕ). Grouped (mode_of r) qam) (sym five) grouped_qam)
