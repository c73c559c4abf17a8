-- Read after read: the numbers of all bytes that came were taken.
-- Assumes nothing.
use mathlib.Core.Path.{◌≡◌, refl, sym, ap, subst, ◌∙◌}
use mathlib.Core.Bool.{Bool, true, false}
use mathlib.Core.List.{List, [], ◌++◌}
use Prim.Native.Nat.{ℕ, ◌+◌, ◌%◌, ◌≤◌, ◌<◌}
use native.Mathlib.Omega.{arith}
use lib.IntN.{pos}
use lib.ListN.{length, take, length-append}
use Rattle.common.specs.Lists.{All}
use Rattle.acquisition.specs.Step.{fresh_acquisition}
use Rattle.program_io.specs.Checksum.{no_bytes, traced}
use Rattle.program_io.specs.Files.{StandardFiles, input_trace, input_over, StandardInput, FreshOutput}
use Rattle.program_io.specs.declared.input.Input.{Input}
use Rattle.program_io.specs.declared.output.Output.{Output}
use Rattle.program_io.proofs.Traces.{traced_on}
use Rattle.lock_stream.specs.Source.{fresh_source, came_of}
use Rattle.lock_stream.specs.Stream.{fresh_stream, StreamReady, LockSteps, fresh}
use Rattle.lock_stream.specs.declared.LockStream.{LockStream}
use Rattle.dvbs_lock.specs.Numbers.{numbers_of, rest_bytes, read_size, ReadsNumbers}
use Rattle.dvbs_lock.specs.Ends.{Going, Takes, AllRead, TooMuch}
use Rattle.dvbs_lock.specs.declared.NumbersTaken.{NumbersTaken}
use Rattle.dvbs_lock.specs.declared.numbers.NumbersRead.{NumbersRead}
use Rattle.dvbs_lock.proofs.Endings.{files_none, files_on}
use Rattle.dvbs_lock.proofs.NumberLaws.{numbers_small, numbers_append, numbers_none, size_whole, numbers_some}

-- The last read brought so many bytes, and those before it whole points.
pub record Reading (bits : Bool) (rate : ℕ) (input : Input) (output errors : Output) (s : LockStream) (came last : ℕ) : Type 0 where
  pub bytes : List ℕ
  pub behind : length bytes % 8 ≡ last % 8
  pub going : Going bits rate (numbers_of bits bytes) output errors s
  pub ready : StreamReady s
  pub read : input_trace input ≡ traced no_bytes bytes
  pub counted : came ≡ length (numbers_of bits bytes)
  pub source_counted : came_of s.source ≡ came
  pub files : StandardFiles input output errors

fresh_came : (bits : Bool) (rate : ℕ) → came_of (fresh_stream bits rate).source ≡ 0
unfolding fresh_stream fresh_source fresh_acquisition
fresh_came bits rate = refl

pub reading_none : (bits : Bool) (rate : ℕ) {input : Input} {output errors : Output} {s : LockStream} → StandardInput input → FreshOutput (pos 1) output → FreshOutput (pos 2) errors
    → s ≡ fresh_stream bits rate → StreamReady s → Reading bits rate input output errors s 0 0
reading_none bits rate {input} {output} {errors} {s} i o e f r =
    let z : numbers_of bits [] ≡ [] = numbers_none bits in
    let k : LockSteps bits rate [] [] [] s = subst (λ (x : LockStream). LockSteps bits rate [] [] [] x) (sym f) fresh in
    record {
      bytes = [];
      behind = refl;
      going = subst (λ (l : List ℕ). Going bits rate l output errors s) (sym z) (record { packets = []; text = []; steps = k; written = o.trace; told = e.trace });
      ready = r;
      read = i.trace;
      counted = sym (ap length z);
      source_counted = ap (λ (x : LockStream). came_of x.source) f ∙ fresh_came bits rate;
      files = files_none i o e;
    }

module _ {bits : Bool} {input : Input} {r : NumbersRead} {numbers : List ℕ} (n : ReadsNumbers bits input r numbers) where
  pub part_small : All (λ p. p < 81) (take r.count numbers)
  part_small = subst (λ (l : List ℕ). All (λ p. p < 81) l) (sym n.numbers.numbers_are) (numbers_small bits n.bytes)

  pub part_count : length (take r.count numbers) ≡ r.count
  part_count = ap length n.numbers.numbers_are ∙ sym n.numbers.counted

  pub some_read : read_size bits ≤ r.length → 0 < r.count
  some_read h = omega (arith, n.numbers.counted, numbers_some bits n.bytes (omega (arith, n.size, n.within)))

  pub reading_more : {rate came : ℕ} {output errors : Output} {s : LockStream} {t : NumbersTaken} → Reading bits rate input output errors s came 0 → Takes output errors s (take r.count numbers) t
      → t.failed ≡ false → Reading bits rate r.input t.output t.errors t.stream (came + r.count) r.length
  reading_more {rate} {came} {t = t} g k f =
      let a = numbers_append bits g.bytes n.bytes g.behind in
      let m = length-append (numbers_of bits g.bytes) (numbers_of bits n.bytes) in
      record {
        bytes = g.bytes ++ n.bytes;
        behind = omega (arith, length-append g.bytes n.bytes, g.behind, n.size);
        going =
            subst (λ (l : List ℕ). Going bits rate l t.output t.errors t.stream) (ap (λ (l : List ℕ). numbers_of bits g.bytes ++ l) n.numbers.numbers_are ∙ sym a)
            (k.goes f bits rate (numbers_of bits g.bytes) g.going);
        ready = k.ready;
        read = traced_on g.bytes n.bytes g.read n.trace;
        counted = omega (arith, ap length a, m, g.counted, n.numbers.counted);
        source_counted = omega (arith, k.counted f, g.source_counted, part_count);
        files = files_on g.files n.origin k.output_is k.errors_are;
      }

pub reading_whole : {bits : Bool} {rate came last : ℕ} {input : Input} {output errors : Output} {s : LockStream} → Reading bits rate input output errors s came last → last ≡ read_size bits
    → Reading bits rate input output errors s came 0
reading_whole {bits} g e = record {
  bytes = g.bytes;
  behind = g.behind ∙ ap (λ (k : ℕ). k % 8) e ∙ size_whole bits;
  going = g.going;
  ready = g.ready;
  read = g.read;
  counted = g.counted;
  source_counted = g.source_counted;
  files = g.files;
}

rest_same : (bits : Bool) (m n : ℕ) → m % 8 ≡ n % 8 → rest_bytes bits n ≡ rest_bytes bits m
rest_same true m n e = refl
rest_same false m n e = sym e

pub reading_over : {bits : Bool} {rate came last rest : ℕ} {input : Input} {output errors : Output} {s : LockStream} → Reading bits rate input output errors s came last → input_over input ≡ true
    → rest ≡ rest_bytes bits last → AllRead bits rate input output errors s rest
reading_over {bits} {last = last} g o e = record {
  bytes = g.bytes;
  going = g.going;
  ready = g.ready;
  read = g.read;
  over = o;
  rest_is = e ∙ rest_same bits (length g.bytes) last g.behind;
}

pub reading_long : {bits : Bool} {rate came : ℕ} {input : Input} {output errors : Output} {s : LockStream} → Reading bits rate input output errors s came 0 → 1152921504606740000 < came → TooMuch bits input
reading_long g h = record { bytes = g.bytes; read = g.read; many = omega (arith, g.counted) }
