-- `program_io::input::Input::read_into` meets its contract.
-- Assumes nothing.
use Rattle.std.proofs.Common.{◌≡◌, ℕ, ◌+◌, ◌-◌, true, false, take, drop, ℤ, pos, sym, refl, ap, ◌∙◌, subst, true≢false, arith, w64, to_z, of_z, rules}
use lib.Signed.{le_z}
use Rattle.io.specs.Counts.{clamp_len}
use Rattle.program_io.specs.Moving.{Moved}
use Rattle.program_io.specs.Checksum.{traced}
use Rattle.program_io.proofs.Reading.{moved_within}
use Rattle.program_io.proofs.input.Input.read_into.Goals as goal

pub returns-then-self-le0 : goal.returns-then-self-le0
returns-then-self-le0 c =
    let z = c.args.self.last in
    let e : to_z w64 (of_z w64 z) ≡ z = search rules in
    let t : le_z z (pos 0) ≡ true = subst (λ (x : ℤ). le_z x (pos 0) ≡ true) e c.if-self-le0.true in
    record {
      origin = refl;
      trace = refl;
      within = omega (arith, c.requires.0);
      front = refl;
      over = λ h. (refl, refl);
      none = λ h. (refl, refl);
      answer = λ u l. absurd (true≢false (sym t ∙ u));
    }

pub returns-then-from-end : goal.returns-then-from-end
returns-then-from-end c =
    record {
      origin = refl;
      trace = refl;
      within = omega (arith, c.requires.0);
      front = refl;
      over = λ h. (refl, refl);
      none = λ h. (refl, refl);
      answer = λ u l. let q = c.if-from-end.true in absurd (omega (arith, l, q));
    }

pub overflow_add-to : goal.overflow_add-to
overflow_add-to c =
    let p = c.read_once-piece in
    let k = moved_within p.result.got (c.args.end - c.args.from) in
    omega (arith, p.ensures.length_is, k, c.requires.0, c.requires.1)

pub slice_bounds-traced-end : goal.slice_bounds-traced-end
slice_bounds-traced-end c =
    let p = c.read_once-piece in
    let k = moved_within p.result.got (c.args.end - c.args.from) in
    omega (arith, p.ensures.length_is, k, c.requires.0, c.requires.1, p.auto.buffer)

pub returns : goal.returns
returns c =
    let p = c.read_once-piece in
    let n = p.result.length in
    let g = p.result.got in
    let e : to_z w64 (of_z w64 g) ≡ g = search rules in
    let k : c.args.from + n - c.args.from ≡ n = omega arith in
    let z = c.args.self.last in
    let y : to_z w64 (of_z w64 z) ≡ z = search rules in
    let u : le_z z (pos 0) ≡ false = subst (λ (x : ℤ). le_z x (pos 0) ≡ false) y c.if-self-le0.false in
    record {
      origin = refl;
      trace = c.traced-trace.ensures ∙ ap (λ (m : ℕ). traced c.args.self.trace (take m (drop c.args.from p.new.buffer))) k;
      within = omega (arith, p.ensures.length_is, moved_within g (c.args.end - c.args.from), c.requires.0);
      front = p.ensures.front;
      over = λ h. absurd (true≢false (sym h ∙ u));
      none = λ h. let q = c.if-from-end.false in absurd (q h);
      answer = λ v l.
          (subst (Moved (c.args.end - c.args.from)) (sym e) p.ensures.moved, p.ensures.length_is ∙ ap (λ (x : ℤ). clamp_len x (c.args.end - c.args.from)) (sym e));
    }
