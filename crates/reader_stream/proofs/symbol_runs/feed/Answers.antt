-- `reader_stream::symbol_runs::feed` meets its contract.
-- Assumes nothing.
use mathlib.Core.Path.{refl}
use native.Mathlib.Omega.{arith}
use lib.ListN.{drop}
use Rattle.reader_stream.proofs.Runs.{numbers, gathers, placed_fits, tail_fits, H-length, run_length, run_small, reads}
use Rattle.reader_stream.proofs.symbol_runs.feed.Goals as goal

pub put-requires : goal.put-requires
put-requires c =
    omega (arith, c.requires.0.size, (numbers c.args.runs.rate c.requires.0.known).full_most, c.full_symbols-full.ensures, c.if-piece-space.true)

pub returns-then-piece-space : goal.returns-then-piece-space
returns-then-piece-space c =
    gathers c.args.runs c.requires.0 c.args.piece.now c.requires.1 c.args.output.now _ (rw (← c.full_symbols-full.ensures) c.if-piece-space.true) c.put.ensures

pub put-requires-2 : goal.put-requires-2
put-requires-2 c =
    let f = c.full_symbols-full in
    placed_fits c.args.runs c.requires.0 c.args.piece.now f.result f.ensures c.if-piece-space.false

pub slice_bounds-read_full-end : goal.slice_bounds-read_full-end
slice_bounds-read_full-end c =
    let f = c.full_symbols-full in
    omega (arith, H-length c.args.runs c.requires.0 c.args.piece.now c.requires.1 f.result f.ensures c.if-piece-space.false c.put-2.new.output c.put-2.ensures, f.ensures, (numbers c.args.runs.rate c.requires.0.known).full_most)

pub read_full-after-requires : goal.read_full-after-requires
read_full-after-requires c =
    let f = c.full_symbols-full in
    (c.requires.0.known, c.requires.0.in_range_lem, run_length c.args.runs c.requires.0 c.args.piece.now c.requires.1 f.result f.ensures c.if-piece-space.false c.put-2.new.output c.put-2.ensures, run_small c.args.runs c.requires.0 c.args.piece.now c.requires.1 f.result f.ensures c.if-piece-space.false c.put-2.new.output c.put-2.ensures, c.requires.2)

pub slice_bounds-put-count-2 : goal.slice_bounds-put-count-2
slice_bounds-put-count-2 c =
    omega (arith, (numbers c.args.runs.rate c.requires.0.known).kept_fewer, c.kept_symbols-from.ensures, c.full_symbols-full.ensures)

pub slice_bounds-put-start-2 : goal.slice_bounds-put-start-2
slice_bounds-put-start-2 c =
    omega (arith, (numbers c.args.runs.rate c.requires.0.known).kept_fewer, c.kept_symbols-from.ensures, c.full_symbols-full.ensures)

pub slice_bounds-put-end-4 : goal.slice_bounds-put-end-4
slice_bounds-put-end-4 c =
    let f = c.full_symbols-full in
    omega (arith, H-length c.args.runs c.requires.0 c.args.piece.now c.requires.1 f.result f.ensures c.if-piece-space.false c.put-2.new.output c.put-2.ensures, f.ensures, (numbers c.args.runs.rate c.requires.0.known).full_most)

pub put-requires-3 : goal.put-requires-3
put-requires-3 c =
    tail_fits c.full_symbols-full.result c.kept_symbols-from.result (drop c.kept_symbols-from.result c.put-2.new.output) (omega (arith, (numbers c.args.runs.rate c.requires.0.known).full_most, c.full_symbols-full.ensures))

pub overflow_sub-result : goal.overflow_sub-result
overflow_sub-result c =
    omega (arith, (numbers c.args.runs.rate c.requires.0.known).kept_fewer, c.kept_symbols-from.ensures, c.full_symbols-full.ensures)

pub returns : goal.returns
returns c =
    let f = c.full_symbols-full in
    reads c.args.runs c.requires.0 c.args.piece.now c.requires.1 f.result f.ensures c.if-piece-space.false c.put-2.new.output c.put-2.ensures c.kept_symbols-from.result c.kept_symbols-from.ensures c.put-3.new.output _ refl c.put-3.ensures c.args.output.now _ _ _ c.kept_bits.ensures c.read_full-after.ensures
