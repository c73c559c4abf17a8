-- `received_symbols::symbols::take_symbols` meets its contract.
-- Assumes nothing.
use mathlib.Core.Path.{◌≡◌, refl, sym}
use Prim.Native.Nat.{◌≤◌}
use native.Mathlib.Omega.{arith}
use lib.ListN.{length, take, replicate}
use lib.Seq.{length-take-le}
use Rattle.received_symbols.specs.declared.SymbolPass.{SymbolPass}
use Rattle.reader_stream.proofs.Feeding.{room_enough}
use Rattle.received_symbols.proofs.HardInput.{symbols_front, pairs_length, pairs_small, pairs_costed, symbols_taken}
use Rattle.received_symbols.proofs.symbols.take_symbols.Goals as goal

pub slice_bounds-hard_pairs-end : goal.slice_bounds-hard_pairs-end
slice_bounds-hard_pairs-end c =
    let front_length : length (take c.symbols_in-taken.result c.args.bytes.now) ≡ c.symbols_in-taken.result = length-take-le c.symbols_in-taken.result c.args.bytes.now (symbols_front c.args.bytes.now c.symbols_in-taken.ensures).most in
    sym (front_length)

pub hard_pairs-requires : goal.hard_pairs-requires
hard_pairs-requires c =
    let front_length : length (take c.symbols_in-taken.result c.args.bytes.now) ≡ c.symbols_in-taken.result = length-take-le c.symbols_in-taken.result c.args.bytes.now (symbols_front c.args.bytes.now c.symbols_in-taken.ensures).most in
    ((symbols_front c.args.bytes.now c.symbols_in-taken.ensures).symbols, omega (arith, front_length, (symbols_front c.args.bytes.now c.symbols_in-taken.ensures).most, c.requires.1))

pub slice_bounds-feed-end-2 : goal.slice_bounds-feed-end-2
slice_bounds-feed-end-2 c =
    let long : c.symbols_in-taken.result ≤ length c.hard_pairs.new.output = omega (arith, (symbols_front c.args.bytes.now c.symbols_in-taken.ensures).most, c.requires.1, c.hard_pairs.auto) in
    sym (length-take-le _ _ (long))

pub feed-fed-requires : goal.feed-fed-requires
feed-fed-requires c =
    let front_length : length (take c.symbols_in-taken.result c.args.bytes.now) ≡ c.symbols_in-taken.result = length-take-le c.symbols_in-taken.result c.args.bytes.now (symbols_front c.args.bytes.now c.symbols_in-taken.ensures).most in
    let long : c.symbols_in-taken.result ≤ length c.hard_pairs.new.output = omega (arith, (symbols_front c.args.bytes.now c.symbols_in-taken.ensures).most, c.requires.1, c.hard_pairs.auto) in
    let n = c.symbols_in-taken.result in
    let symbols = take n c.args.bytes.now in
    let pairs = c.hard_pairs.new.output in
    let w = c.hard_pairs.ensures in (
      c.requires.0,
      pairs_small symbols pairs (symbols_front c.args.bytes.now c.symbols_in-taken.ensures).symbols w n (front_length) (long),
      c.requires.2,
      room_enough c.args.stream c.requires.0 (length (take n pairs)) (length c.args.output.now) (omega (arith, pairs_length symbols pairs (symbols_front c.args.bytes.now c.symbols_in-taken.ensures).symbols w n (front_length) (long), (symbols_front c.args.bytes.now c.symbols_in-taken.ensures).most, c.requires.3)),
    )

pub returns : goal.returns
returns c =
    let front_length : length (take c.symbols_in-taken.result c.args.bytes.now) ≡ c.symbols_in-taken.result = length-take-le c.symbols_in-taken.result c.args.bytes.now (symbols_front c.args.bytes.now c.symbols_in-taken.ensures).most in
    let long : c.symbols_in-taken.result ≤ length c.hard_pairs.new.output = omega (arith, (symbols_front c.args.bytes.now c.symbols_in-taken.ensures).most, c.requires.1, c.hard_pairs.auto) in
    let a = c.args in
    let n = c.symbols_in-taken.result in
    let next : SymbolPass = record { stream = c.feed-fed.result.stream; tail = replicate 8 0; held = 0 } in
    symbols_taken a.stream a.bytes.now a.output.now next n _ (symbols_front c.args.bytes.now c.symbols_in-taken.ensures)
    (pairs_costed (take n a.bytes.now) c.hard_pairs.new.output (symbols_front c.args.bytes.now c.symbols_in-taken.ensures).symbols c.hard_pairs.ensures n (front_length) (long)) c.feed-fed.ensures refl refl
