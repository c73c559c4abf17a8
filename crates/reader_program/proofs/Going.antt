-- Turns one after the other: what all bytes that were read come to, and what a turn leaves in the files.
-- Assumes nothing.
use mathlib.Core.Path.{◌≡◌, refl, sym, ap, subst, ◌∙◌}
use mathlib.Core.Bool.{Bool, true, false}
use mathlib.Core.List.{List, [], ◌∷◌, ◌++◌, append-nil}
use Prim.Native.Nat.{ℕ, ◌+◌, ◌≤◌, ◌<◌}
use native.Mathlib.Omega.{arith}
use lib.IntN.{pos}
use lib.ListN.{length, get_or, take, length-append}
use lib.Seq.{take-length, take-append-add, get_or-append-add}
use Rattle.reader_stream.specs.Stream.{FreshReader}
use Rattle.program_io.specs.Checksum.{no_bytes, traced}
use Rattle.program_io.specs.Files.{StandardFiles, input_origin, origin_file, origin_argument, origin_start, input_trace, output_file, output_trace, output_failed, StandardInput, FreshOutput, Writes}
use Rattle.program_io.specs.declared.input.Input.{Input}
use Rattle.program_io.specs.declared.output.Output.{Output}
use Rattle.program_io.proofs.Traces.{traced_on}
use Rattle.received_symbols.specs.Pass.{TakesAll, BytesTaken}
use Rattle.reader_program.specs.Ends.{Turns, Untold, Going, SymbolRefused}
use Rattle.received_symbols.specs.declared.SymbolPass.{SymbolPass}
use Rattle.reader_program.specs.declared.Turn.{Turn}
use Rattle.received_symbols.proofs.Pieces.{taken_none, taken_on, none_left}

-- ---- the files

pub files_none : {input : Input} {output errors : Output} → StandardInput input → FreshOutput (pos 1) output → FreshOutput (pos 2) errors → StandardFiles input output errors
files_none i o e = record { input_file = i.file; input_argument = i.argument; input_start = i.start; output_file_lem = o.file; errors_file = e.file }

pub untold_none : {errors : Output} → FreshOutput (pos 2) errors → Untold errors
untold_none e = record { trace = e.trace; unfailed = e.failed }

module _ {input : Input} {output errors : Output} (f : StandardFiles input output errors) where
  pub files_read : {i : Input} → input_origin i ≡ input_origin input → StandardFiles i output errors
  files_read e = record {
    input_file = ap origin_file e ∙ f.input_file;
    input_argument = ap origin_argument e ∙ f.input_argument;
    input_start = ap origin_start e ∙ f.input_start;
    output_file_lem = f.output_file_lem;
    errors_file = f.errors_file;
  }

  pub files_written : {o : Output} → output_file o ≡ output_file output → StandardFiles input o errors
  files_written e = record { input_file = f.input_file; input_argument = f.input_argument; input_start = f.input_start; output_file_lem = e ∙ f.output_file_lem; errors_file = f.errors_file }

  pub files_told : {o : Output} → output_file o ≡ output_file errors → StandardFiles input output o
  files_told e = record { input_file = f.input_file; input_argument = f.input_argument; input_start = f.input_start; output_file_lem = f.output_file_lem; errors_file = e ∙ f.errors_file }

-- ---- the first turn

pub going_none : (soft : Bool) {rate : ℕ} {input : Input} {output : Output} {p : SymbolPass} → StandardInput input → FreshOutput (pos 1) output → FreshReader rate p.stream
    → length p.tail ≡ 8 → p.held ≡ 0 → Going soft rate input output p 0
going_none soft {p = p} i o f size e = record {
  bytes = [];
  written = [];
  taken = taken_none soft f size e;
  counted = refl;
  read = i.trace;
  written_is = o.trace;
  unfailed = o.failed;
}

-- ---- one turn more

module _ {soft : Bool} {rate : ℕ} {input : Input} {output : Output} {p : SymbolPass} {came : ℕ} (g : Going soft rate input output p came) {lent exit : List ℕ} {t : Turn}
    (u : Turns soft input p lent t exit) where
  read_more : input_trace t.input ≡ traced no_bytes (g.bytes ++ u.piece)
  read_more = traced_on g.bytes u.piece g.read u.trace

  -- nothing came
  pub going_over : t.length ≡ 0 → Going soft rate t.input output p came
  going_over z =
      let e : u.piece ≡ [] = empty u.piece (u.piece_length ∙ z) in
      record {
        bytes = g.bytes;
        written = g.written;
        taken = g.taken;
        counted = g.counted;
        read = read_more ∙ ap (λ (l : List ℕ). traced no_bytes (g.bytes ++ l)) e ∙ ap (traced no_bytes) (append-nil g.bytes);
        written_is = g.written_is;
        unfailed = g.unfailed;
      }
    where
      empty : (l : List ℕ) → length l ≡ 0 → l ≡ []
      empty [] e = refl
      empty (x ∷ l) e = absurd (omega arith)

  abbrev both : List ℕ
  both = take p.held p.tail ++ u.piece

  module _ {o : Output} (w : Writes output (take t.taken.count exit) o) (whole : output_failed o ≡ false) where
    written_more : output_trace o ≡ traced no_bytes (g.written ++ take t.taken.count exit)
    written_more = traced_on g.written (take t.taken.count exit) g.written_is (w.whole whole)

    -- all of it was taken
    pub going_more : t.taken.stopped ≡ false → Going soft rate t.input o t.taken.pass (came + t.length)
    going_more s =
        let e : take t.taken.taken both ≡ both = ap (λ (k : ℕ). take k both) (u.takes.all s) ∙ take-length both in
        record {
          bytes = g.bytes ++ u.piece;
          written = g.written ++ take t.taken.count exit;
          taken =
              taken_on g.taken u.piece
              (subst (λ (l : List ℕ). TakesAll soft p.stream l lent t.taken.pass t.taken.count exit) e u.takes.takes);
          counted = omega (arith, length-append g.bytes u.piece, g.counted, u.piece_length);
          read = read_more;
          written_is = written_more;
          unfailed = whole;
        }

    -- a byte is no symbol
    pub going_refused : t.taken.stopped ≡ true → SymbolRefused soft rate t.input o (came + t.taken.taken)
    going_refused s =
        let k = u.takes.stops s in
        let n = t.taken.taken in
        let z : take p.held p.tail ≡ [] = g.taken.holds.bytes_are ∙ none_left k.0 g.bytes in
        let e : both ≡ u.piece = ap (λ (l : List ℕ). l ++ u.piece) z in
        let here : n < length u.piece = subst (λ (l : List ℕ). n < length l) e k.1 in
        let at : came + n ≡ length g.bytes + n = ap (λ (j : ℕ). j + n) g.counted in
        let f : take n both ≡ take p.held p.tail ++ take n u.piece = ap (take n) e ∙ ap (λ (l : List ℕ). l ++ take n u.piece) (sym z) in
        let front : g.bytes ++ take n u.piece ≡ take (came + n) (g.bytes ++ u.piece) =
        sym (ap (λ (j : ℕ). take j (g.bytes ++ u.piece)) at ∙ take-append-add g.bytes u.piece n) in
        record {
          hard = k.0;
          bytes = g.bytes ++ u.piece;
          read = read_more;
          within = omega (arith, at, here, length-append g.bytes u.piece);
          no_symbol =
              subst (λ (x : ℕ). 4 ≤ x) (sym (ap (λ (j : ℕ). get_or (g.bytes ++ u.piece) j 0) at ∙ get_or-append-add g.bytes u.piece n 0))
              (subst (λ (l : List ℕ). 4 ≤ get_or l n 0) e k.2);
          written = g.written ++ take t.taken.count exit;
          pass = t.taken.pass;
          taken =
              subst (λ (l : List ℕ). BytesTaken soft rate l (g.written ++ take t.taken.count exit) t.taken.pass) front
              (taken_on g.taken (take n u.piece)
              (subst (λ (l : List ℕ). TakesAll soft p.stream l lent t.taken.pass t.taken.count exit) f u.takes.takes));
          written_is = written_more;
        }
