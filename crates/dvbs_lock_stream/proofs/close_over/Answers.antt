-- `dvbs_lock_stream::close_over` meets its contract.
-- Assumes nothing.
use mathlib.Core.Path.{refl, subst}
use Prim.Native.Nat.{ℕ, ◌<◌}
use Rattle.std.specs.Prelude.{Option, IfSome}
use native.Mathlib.Omega.{arith}
use Rattle.dvbs_lock_stream.specs.Calls.{not_over, closed}
use Rattle.dvbs_lock_stream.proofs.close_over.Goals as goal

pub close-requires : goal.close-requires
close-requires c = (c.requires.0, subst (λ (o : Option ℕ). IfSome o (λ left. left < 1632)) c.in-Some.is c.requires.1, omega arith)

pub returns-in-Some : goal.returns-in-Some
returns-in-Some c =
    let a = c.close.ensures in
    closed _ c.in-Some.is (omega (arith, a.bound)) (omega (arith, a.bound, a.same, c.requires.3)) a.text

pub returns-in-None : goal.returns-in-None
returns-in-None c = not_over c.in-None.is refl refl
