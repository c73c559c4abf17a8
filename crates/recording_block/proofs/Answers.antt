-- What asking for a block answered, of what was read; and that a number which was read is within its limit.
-- Assumes nothing.
use mathlib.Core.Path.{◌≡◌, refl, sym, ap, ap₂, subst, ◌∙◌}
use mathlib.Core.Bool.{Bool, true, false}
use mathlib.Core.List.{List, [], ◌∷◌}
use mathlib.Core.Logic.{◌⊎◌, inl, inr}
use Prim.Native.Nat.{ℕ, ◌*◌, ◌≤◌, ◌<◌}
use native.Mathlib.Decide.{dec_lt}
use native.Mathlib.Omega.{arith}
use Rattle.std.proofs.Common.{Ok, Err}
use Rattle.std.specs.Result.{result_unwrap_or}
use borrow.Author.Tests.{eq-eqb, ne_eqb, ltb-false}
use lib.Dec.{eqb, ltb}
use lib.IntN.{pos}
use lib.ListN.{length, take, replicate}
use lib.Seq.{length-take-le}
use Rattle.common.specs.Choice.{pick}
use Rattle.answer.specs.Number as numbers
use Rattle.program_io.specs.Checksum.{no_bytes, traced}
use Rattle.program_io.specs.Words.{digits, value_from, sized, parsed}
use Rattle.program_io.specs.Files.{origin_argument, origin_start, input_ended, input_failed, output_failed, output_trace, OpenedInput, FreshOutput, Fills}
use Rattle.program_io.specs.declared.trace.Trace.{Trace}
use Rattle.program_io.specs.declared.words.Parsed.{Parsed}
use Rattle.program_io.specs.declared.words.Parsed.TheVariants.{Number, Large, Malformed}
use Rattle.program_io.specs.declared.input.Input.{Input}
use Rattle.program_io.specs.declared.output.Output.{Output}
use Rattle.program_io.specs.declared.input.Filled.{Filled}
use Rattle.program_io.specs.declared.calls.Asked.{Asked}
use Rattle.program_io.specs.declared.calls.Asked.TheVariants.{Help, Version, Work}
use Rattle.reed_solomon.specs.Code.{no_change}
use Rattle.reed_solomon.specs.Decode.{Decoded, changed_by}
use Rattle.reed_solomon.specs.declared.Changed.{Changed}
use Rattle.recording_block.specs.declared.BlockRequest.TheVariants.{Block, Other}
use Rattle.recording.specs.Block.{block_count, GivesBlock}
use Rattle.recording_block.specs.Ends.{BlockAnswered, as_block, block_in, request_of}

-- ---- a number that was read

number_in : Parsed → ℕ
number_in (Number n) = n
number_in Large = 0
number_in Malformed = 0

sized-most : (v most : ℕ) (t : Bool) → ltb most v ≡ t → number_in (pick t Large (Number v)) ≤ most
unfolding number_in
sized-most v most true e = omega arith
sized-most v most false e = ltb-false most v e

in-most : (w : List ℕ) (most : ℕ) → number_in (parsed w most) ≤ most
unfolding number_in
in-most [] most = omega arith
in-most (c ∷ cs) most = by (digits (c ∷ cs))
  where
    v : ℕ
    v = value_from 0 (c ∷ cs)

    by : (t : Bool) → number_in (pick t (sized v most) Malformed) ≤ most
    by true = sized-most v most (ltb most v) refl
    by false = omega arith

pub number-most : (w : List ℕ) (most p : ℕ) → parsed w most ≡ Number p → p ≤ most
unfolding number_in
number-most w most p e = subst (λ (n : ℕ). n ≤ most) (ap number_in e) (in-most w most)

-- ---- what was read

module _ (p : ℕ) {input : Input} {buffer : List ℕ} {f : Filled} (o : OpenedInput 1 (204 * p) input) (h : Fills input buffer f) (b : length buffer ≡ 2448) (u : input_failed f.input ≡ false) where
  abbrev came : List ℕ
  came = take f.length buffer

  came_length : length came ≡ f.length
  came_length = length-take-le f.length buffer (omega (arith, h.within))

  all-came : (length came ≡ 2448) ⊎ (input_ended f.input ≡ true)
  all-came = by (dec_lt f.length 2448)
    where
      by : Dec (f.length < 2448) → (length came ≡ 2448) ⊎ (input_ended f.input ≡ true)
      by (yes l) = inr (ap₂ (λ (x y : Bool). pick x false y) u (h.short (omega arith)))
      by (no l) = inl (omega (arith, l, h.within, came_length))

  pub answered : (d : Decoded) (block : List ℕ) (blocks number : ℕ) (output : Output) → blocks ≡ block_count came → GivesBlock came blocks 0 (replicate 204 0) d block
      → number ≡ numbers.answered d → output_failed output ≡ false → output_trace output ≡ traced no_bytes (pick (eqb number 0) block [])
      → BlockAnswered p number (changed_by d) f.input output
  answered d block blocks number output e g n v w = record {
    file = ap origin_argument h.origin ∙ o.argument_is;
    start = ap origin_start h.origin ∙ o.start_is;
    part = came;
    read = h.trace ∙ ap (λ (t : Trace). traced t came) o.trace;
    all = all-came;
    decoded = d;
    block = block;
    gives = subst (λ (k : ℕ). GivesBlock came k 0 (replicate 204 0) d block) e g;
    number_is = n;
    changed_is = refl;
    unfailed = v;
    written = w;
  }

-- what was changed, where there is nothing for a refusal
pub told_changes : (d : Decoded) → result_unwrap_or d no_change ≡ changed_by d
told_changes (Ok changed) = refl
told_changes (Err refusal) = refl

pub nothing_written : (number : ℕ) (block : List ℕ) (output : Output) → FreshOutput (pos 1) output → (number ≡ 0 → ⊥)
    → output_trace output ≡ traced no_bytes (pick (eqb number 0) block [])
nothing_written number block output o h = o.trace ∙ sym (ap (λ (t : Bool). traced no_bytes (pick t block [])) (ne_eqb number 0 h))

pub block_written : (number : ℕ) (block : List ℕ) (t : Trace) → t ≡ traced no_bytes block → number ≡ 0 → t ≡ traced no_bytes (pick (eqb number 0) block [])
block_written number block t e z = e ∙ sym (ap (λ (q : Bool). traced no_bytes (pick q block [])) (eq-eqb number 0 z))

-- the same with another output of the same bytes
pub same-answered : {p number : ℕ} {changed : Changed} {input : Input} {output o : Output} → BlockAnswered p number changed input output
    → output_trace o ≡ output_trace output → output_failed o ≡ false → BlockAnswered p number changed input o
same-answered b t u = record {
  file = b.file;
  start = b.start;
  part = b.part;
  read = b.read;
  all = b.all;
  decoded = b.decoded;
  block = b.block;
  gives = b.gives;
  number_is = b.number_is;
  changed_is = b.changed_is;
  unfailed = u;
  written = t ∙ b.written;
}

-- ---- a block that was asked for

as-most : (w : List ℕ) (p : ℕ) (q : Parsed) → parsed w 4294967283 ≡ q → as_block q ≡ Block p → p ≤ 4294967283
as-most w p (Number n) e h = let z : n ≡ p = cc in number-most w 4294967283 p (e ∙ ap Number z)
as-most w p Large e h = let z : ◌≡◌ {A = ℕ} 0 1 = cc in absurd (omega arith)
as-most w p Malformed e h = let z : ◌≡◌ {A = ℕ} 0 1 = cc in absurd (omega arith)

pub request-most : (asked : Asked) (count : ℕ) (option : Bool) (w : List ℕ) (p : ℕ) → request_of asked count option w ≡ Block p → p ≤ 4294967283
request-most Help count option w p h = let z : ◌≡◌ {A = ℕ} 0 1 = cc in absurd (omega arith)
request-most Version count option w p h = let z : ◌≡◌ {A = ℕ} 0 1 = cc in absurd (omega arith)
request-most Work count option w p h = by (eqb count 2) option h
  where
    by : (s t : Bool) → pick s (pick t Other (block_in w)) Other ≡ Block p → p ≤ 4294967283
    by true true k = let z : ◌≡◌ {A = ℕ} 0 1 = cc in absurd (omega arith)
    by true false k = as-most w p (parsed w 4294967283) refl k
    by false t k = let z : ◌≡◌ {A = ℕ} 0 1 = cc in absurd (omega arith)
