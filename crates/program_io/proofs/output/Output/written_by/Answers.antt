-- `program_io::output::Output::written_by` meets its contract.
-- Assumes nothing.
use Rattle.std.proofs.Common.{◌≡◌, ℕ, ◌+◌, ◌-◌, true, false, length, take, drop, ℤ, pos, sym, refl, ap, ◌∙◌, subst, true≢false, arith, w64, to_z, of_z, rules}
use borrow.Rule.Slice.PartMut.{mid_len}
use lib.Signed.{lt_z}
use Rattle.io.specs.Counts.{clamp_len}
use Rattle.program_io.specs.Checksum.{traced}
use Rattle.program_io.proofs.Writing.{none_clamped}
use Rattle.program_io.proofs.output.Output.written_by.Goals as goal

pub returns-then-got-lt0 : goal.returns-then-got-lt0
returns-then-got-lt0 c =
    let answered : to_z w64 (of_z w64 c.args.got) ≡ c.args.got = search rules in
    let e = subst (λ (x : ℤ). lt_z x (pos 0) ≡ true) (answered) c.if-got-lt0.true in
    let l = c.lost.ensures in
    record {
      file = l.file;
      failed = l.failed ∙ sym e;
      length_is = sym (none_clamped c.args.got (length c.args.bytes.now - c.args.from) e);
      trace = λ u. absurd (true≢false (sym l.failed ∙ u));
      closed = l.closed;
    }

pub returns : goal.returns
returns c =
    let answered : to_z w64 (of_z w64 c.args.got) ≡ c.args.got = search rules in
    let n = c.count-length in
    let k : c.args.from + n.result - c.args.from ≡ n.result = omega arith in
    record {
      file = search rules;
      failed = sym (subst (λ (x : ℤ). lt_z x (pos 0) ≡ false) (answered) c.if-got-lt0.false);
      length_is = n.ensures.value ∙ (λ i. clamp_len (answered i) (mid_len c.args.from (length c.args.bytes.now) c.args.bytes.now (omega arith) i));
      trace = λ u. c.traced-trace.ensures ∙ ap (λ (m : ℕ). traced c.args.self.trace (take m (drop c.args.from c.args.bytes.now))) k;
      closed = refl;
    }
