-- A text that was given on standard output, and one that was told on standard error.
-- Assumes nothing.
use Rattle.std.proofs.Common.{◌≡◌, ℕ, false, List, ◌++◌, ℤ, pos, sym, ap, ◌∙◌}
use Rattle.program_io.specs.Checksum.{no_bytes, traced}
use Rattle.program_io.specs.Calls.{EndsGiven, whole, part, Gives, given, lost}
use Rattle.program_io.specs.Files.{output_trace, output_failed, FreshOutput, Writes}
use Rattle.program_io.specs.declared.trace.Trace.{Trace}
use Rattle.program_io.specs.declared.output.Output.{Output}
use Rattle.program_io.specs.declared.calls.Answered.{Answered}
use Rattle.program_io.proofs.Traces.{traced_more}

-- writing to a fresh output
pub fresh_written : {fd : ℤ} {o w : Output} {text : List ℕ} → FreshOutput fd o → Writes o text w → output_failed w ≡ false → output_trace w ≡ traced no_bytes text
fresh_written {text = text} f h u = h.whole u ∙ ap (λ (t : Trace). traced t text) f.trace

pub given_text : {o w : Output} {r : Answered} {text : List ℕ} → FreshOutput (pos 1) o → Writes o text w → EndsGiven w r → Gives text r
given_text f h (whole s i b u c t) = given s (i ∙ h.file ∙ f.file) u c (t ∙ fresh_written f h b)
given_text f h (part s i u) = lost s (i ∙ h.file ∙ f.file) u

-- the same in two writes
pub given_texts : {o v w : Output} {r : Answered} {first second : List ℕ} → FreshOutput (pos 1) o → Writes o first v → Writes v second w → EndsGiven w r
    → Gives (first ++ second) r
given_texts {first = first} {second = second} f g h (whole s i b u c t) =
    given s (i ∙ h.file ∙ g.file ∙ f.file) u c
    (t ∙ h.whole b ∙ ap (λ (x : Trace). traced x second) (fresh_written f g (h.started b)) ∙ sym (traced_more no_bytes first second))
given_texts f g h (part s i u) = lost s (i ∙ h.file ∙ g.file ∙ f.file) u
