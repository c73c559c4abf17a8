-- How a pass ended, and what the program leaves then.
-- Assumes nothing.
use mathlib.Core.Path.{◌≡◌, refl, sym, ap, subst, ◌∙◌}
use mathlib.Core.Bool.{Bool, true, false, true≢false}
use mathlib.Core.List.{List, []}
use mathlib.Core.Logic.{◌⊎◌}
use Prim.Native.Nat.{ℕ, ◌-◌}
use native.Mathlib.Omega.{arith}
use lib.IntN.{pos}
use lib.ListN.{length, replicate}
use Rattle.common.specs.Choice.{pick}
use Rattle.common.specs.Lists.{padded}
use Rattle.program_io.specs.Files.{input_origin, origin_file, input_trace, input_ended, input_failed, input_over, StandardInput, NoInput, FreshOutput}
use Rattle.program_io.specs.declared.input.Input.{Input}
use Rattle.program_io.specs.declared.output.Output.{Output}
use Rattle.receiver_stream.specs.Feed.{capacity_of}
use Rattle.receiver_stream.specs.History.{Reception, ReceiverCame}
use Rattle.pass.specs.Pass.{PassCame, Passes, whole, input_failed_lem, marks_failed, output_failed_lem, refused}
use Rattle.pass.specs.Pass as pass
use Rattle.pass.specs.declared.Ending.{Ending}
use Rattle.pass.specs.declared.Ending.TheVariants.{Whole, Failed, Refused}
use Rattle.pass.specs.declared.Pass.{Pass}
use Rattle.pass_report.specs.Ends as own
use Rattle.pass_report.specs.Ends.{is_whole, Prints, printed, lost, Ends}
use Rattle.pass_report.specs.declared.PassEnded.{PassEnded}

pub ended_unfailed : (i : Input) → input_ended i ≡ true → input_failed i ≡ false
ended_unfailed i e = by (input_failed i) refl
  where
    by : (b : Bool) → input_failed i ≡ b → input_failed i ≡ false
    by true f = absurd (true≢false (sym e ∙ ap (λ (t : Bool). pick t false (input_over i)) f))
    by false f = f

ended_over : (i : Input) → input_ended i ≡ true → input_over i ≡ true
ended_over i e = sym (ap (λ (t : Bool). pick t false (input_over i)) (ended_unfailed i e)) ∙ e

pub all_whole : (e : Ending) → is_whole e ≡ true → e ≡ Whole
all_whole Whole h = refl
all_whole Failed h = absurd (true≢false (sym h))
all_whole (Refused b) h = absurd (true≢false (sym h))

module _ {start input : Input} {output : Output} {p : Pass} (k : Passes input start output false p) (i : StandardInput input) (n : NoInput start) (o : FreshOutput (pos 1) output) where
  pub whole_came : p.ending ≡ Whole → PassCame false start p.input p.marks p.output p.stream × ((input_ended p.input ≡ true) ⊎ (capacity_of p.stream ≡ 0))
  whole_came w = by k.ends
    where
      by : pass.Ends false start p → PassCame false start p.input p.marks p.output p.stream × ((input_ended p.input ≡ true) ⊎ (capacity_of p.stream ≡ 0))
      by (whole e g x) = (g, x)
      by (input_failed_lem e f) = let z : ◌≡◌ {A = ℕ} 0 1 = cc in absurd (omega arith)
      by (marks_failed e f q) = let z : ◌≡◌ {A = ℕ} 0 1 = cc in absurd (omega arith)
      by (output_failed_lem e f q) = let z : ◌≡◌ {A = ℕ} 0 1 = cc in absurd (omega arith)
      by (refused b e f q) = let z : ◌≡◌ {A = ℕ} 0 1 = cc in absurd (omega arith)

  pub came_of_lem : p.ending ≡ Whole → ReceiverCame p.stream
  came_of_lem w = let g = (whole_came w).0 in record { bytes = g.bytes; marks = _; written = g.packets; reception = g.reception }

  -- nothing was done with the output
  pub fresh : FreshOutput (pos 1) p.output
  fresh = subst (FreshOutput (pos 1)) (sym (k.unwanted refl)) o

  file : origin_file (input_origin p.input) ≡ pos 0
  file = ap origin_file k.input_origin_lem ∙ i.file

  -- all was read
  pub ends_printed : p.ending ≡ Whole → {r : PassEnded} → Prints p.stream p.input r → Ends r
  ends_printed w {r} (printed s e f u c t) =
      let g = (whole_came w).0 in
      record {
        input_is = ap (λ (x : Input). origin_file (input_origin x)) e ∙ file;
        output_is = f;
        status =
            own.whole s (record {
              bytes = g.bytes;
              packets = g.packets;
              stream = p.stream;
              reception = subst (λ (l : List ℕ). Reception g.bytes l g.packets p.stream) (unmarked g.bytes (g.unmarked (ended_over start n.ended)).0) g.reception;
              read = ap input_trace e ∙ g.read;
              ended = subst (λ (x : Input). (input_ended x ≡ true) ⊎ (capacity_of p.stream ≡ 0)) (sym e) (whole_came w).1;
              unfailed = u;
              closed = c;
              written = t;
            });
      }
    where
      unmarked : (bytes : List ℕ) {came : List ℕ} → came ≡ [] → padded (length bytes) came ≡ replicate (length bytes) 0
      unmarked bytes e = ap (padded (length bytes)) e ∙ (let z : length bytes - 0 ≡ length bytes = omega arith in ap (λ (j : ℕ). replicate j 0) z)
  ends_printed w (lost s e f u) = record {
    input_is = ap (λ (x : Input). origin_file (input_origin x)) e ∙ file;
    output_is = f;
    status = own.part s (own.output_failed_lem u);
  }

  -- it was not
  pub ends_failed : is_whole p.ending ≡ false → Ends (record { status = pos 1; input = p.input; output = p.output })
  ends_failed w = record { input_is = file; output_is = fresh.file; status = own.part refl (by k.ends) }
    where
      by : pass.Ends false start p → own.Failed (record { status = pos 1; input = p.input; output = p.output })
      by (whole e g x) = absurd (true≢false (sym (ap is_whole e) ∙ w))
      by (input_failed_lem e f) = own.input_failed_lem f fresh.trace
      by (marks_failed e f q) = absurd (q n.ended)
      by (output_failed_lem e f q) = absurd (true≢false (sym q))
      by (refused b e f q) = absurd (q n.ended)
