-- `program_io::input::Input::open` meets its contract.
-- Assumes nothing.
use Rattle.std.proofs.Common.{◌≡◌, false, ℤ, pos, sym, refl, subst, true≢false, w32, to_z, of_z, rules}
use Rattle.std.specs.Prelude.{negsuc}
use lib.Signed.{lt_z}
use native.Mathlib.Omega.{arith}
use borrow.Author.Tests.{le-ltb}
use Rattle.program_io.proofs.input.Input.open.Goals as goal

-- one that is not below 3 is not below 0
not_below : (z : ℤ) → lt_z z (pos 3) ≡ false → false ≡ lt_z z (pos 0)
not_below (pos n) e = sym (le-ltb n 0 (omega arith))
not_below (negsuc n) e = absurd (true≢false e)

pub returns-in-None : goal.returns-in-None
returns-in-None c = record {
  argument_is = refl;
  start_is = refl;
  trace = c.no_bytes-trace.ensures;
  going = refl;
  failed = refl;
  other = λ h. absurd (true≢false h);
}

pub returns-in-Some : goal.returns-in-Some
returns-in-Some c =
    let z = c.in-Some.fd in
    let e : to_z w32 (of_z w32 z) ≡ z = search rules in
    let k = c.in-Some.ensures in
    record {
      argument_is = refl;
      start_is = refl;
      trace = c.no_bytes-trace.ensures;
      going = refl;
      failed = subst (λ (x : ℤ). false ≡ lt_z x (pos 0)) (sym e) (not_below z k);
      other = λ h. subst (λ (x : ℤ). lt_z x (pos 3) ≡ false) (sym e) k;
    }
