-- What writes of parts come to.
-- Assumes nothing.
use Rattle.std.proofs.Common.{◌≡◌, ℕ, ◌+◌, ◌-◌, ◌≤◌, true, false, List, length, take, drop, ℤ, pos, negsuc, sym, refl, ap, ◌∙◌, true≢false, arith, take_all, take-add, ltb-true}
use lib.Signed.{lt_z}
use Rattle.io.specs.Counts.{clamp_len}
use Rattle.program_io.specs.Checksum.{traced}
use Rattle.program_io.specs.Files.{output_file, output_trace, output_failed, output_closed, WrittenBy, WritesFrom, Writes}
use Rattle.program_io.specs.declared.trace.Trace.{Trace}
use Rattle.program_io.specs.declared.output.Output.{Output}
use Rattle.program_io.specs.declared.output.Put.{Put}
use Rattle.program_io.proofs.Reading.{moved_within}
use Rattle.program_io.proofs.Traces.{traced_more}

-- an answer below 0 is no number of bytes
pub none_clamped : (z : ℤ) (most : ℕ) → lt_z z (pos 0) ≡ true → clamp_len z most ≡ 0
none_clamped (pos k) most e = absurd (omega (arith, ltb-true k 0 e))
none_clamped (negsuc k) most e = refl

-- no more bytes are taken than there are
pub written_within : {o : Output} {bytes : List ℕ} {from : ℕ} {got : ℤ} {r : Put} → from ≤ length bytes → WrittenBy o bytes from got r → from + r.length ≤ length bytes
written_within {bytes = bytes} {from} {got} h w = omega (arith, w.length_is, moved_within got (length bytes - from))

-- so many bytes were taken, and nothing failed
pub record Writing (o : Output) (bytes : List ℕ) (output : Output) (done : ℕ) : Type 0 where
  pub within : done ≤ length bytes
  pub started : output_failed o ≡ false
  pub unfailed : output_failed output ≡ false
  pub file : output_file output ≡ output_file o
  pub closed : output_closed output ≡ output_closed o
  pub trace : output_trace output ≡ traced (output_trace o) (take done bytes)

pub writing_none : (o : Output) (bytes : List ℕ) → output_failed o ≡ false → Writing o bytes o 0
writing_none o bytes u = record { within = omega arith; started = u; unfailed = u; file = refl; closed = refl; trace = refl }

pub writing_all : {o output : Output} {bytes : List ℕ} {done : ℕ} → Writing o bytes output done → length bytes ≤ done → Writes o bytes output
writing_all {o} {output} {bytes} {done} g l = record {
  file = g.file;
  whole = λ u. g.trace ∙ ap (traced (output_trace o)) (take_all done bytes l);
  unclosed = λ u. g.closed;
  started = λ u. g.started;
  failed = λ f. absurd (true≢false (sym f ∙ g.started));
}

-- an output that failed before anything is written
pub written_failed : (o : Output) (bytes : List ℕ) → output_failed o ≡ true → Writes o bytes o
written_failed o bytes f = record {
  file = refl;
  whole = λ u. absurd (true≢false (sym f ∙ u));
  unclosed = λ u. refl;
  started = λ u. u;
  failed = λ e. refl;
}

module _ {o output : Output} {bytes : List ℕ} {done : ℕ} (g : Writing o bytes output done) where
  -- one that failed later
  pub writing_failed : {r : Output} → output_file r ≡ output_file output → output_failed r ≡ true → Writes o bytes r
  writing_failed e f = record {
    file = e ∙ g.file;
    whole = λ u. absurd (true≢false (sym f ∙ u));
    unclosed = λ u. absurd (true≢false (sym f ∙ u));
    started = λ u. g.started;
    failed = λ x. absurd (true≢false (sym x ∙ g.started));
  }

  pub writing_more : {r : Put} → WritesFrom output bytes done r → output_failed r.output ≡ false → Writing o bytes r.output (done + r.length)
  writing_more {r} h u = record {
    within = h.within;
    started = g.started;
    unfailed = u;
    file = h.file ∙ g.file;
    closed = (h.unclosed u).1 ∙ sym (h.unclosed u).0 ∙ g.closed;
    trace =
        h.trace u
        ∙ ap (λ (t : Trace). traced t (take r.length (drop done bytes))) g.trace
        ∙ sym (traced_more (output_trace o) (take done bytes) (take r.length (drop done bytes)))
        ∙ ap (traced (output_trace o)) (sym (take-add done r.length bytes));
  }
