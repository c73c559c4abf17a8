-- `reader_program::next_turn` meets its contract.
-- Assumes nothing.
use mathlib.Core.Path.{◌≡◌, sym, subst}
use mathlib.Core.List.{List}
use Prim.Native.Nat.{ℕ, ◌+◌, ◌-◌, ◌≤◌}
use native.Mathlib.Omega.{arith}
use lib.ListN.{length, take, drop, length-take, length-drop}
use lib.Seq.{length-take-le}
use Rattle.bit_packing.proofs.Packing.{packs_fit}
use Rattle.received_symbols.specs.Pass.{TakesBytes}
use Rattle.reader_program.proofs.Turning.{few_held, most_few, most_some, joined_part, room}
use Rattle.reader_program.proofs.next_turn.Goals as goal

pub slice_bounds-tail-end : goal.slice_bounds-tail-end
slice_bounds-tail-end c = omega (arith, few_held c.args.soft c.requires.few, c.requires.size)

pub slice_bounds-read_behind-end : goal.slice_bounds-read_behind-end
slice_bounds-read_behind-end c = sym (length-take-le _ _ (omega (arith, few_held c.args.soft c.requires.few, c.requires.size)))

pub read_behind-filled-requires : goal.read_behind-filled-requires
read_behind-filled-requires c =
    let m = c.most_of in
    (omega (arith, length-take c.args.pass.held c.args.pass.tail, few_held c.args.soft c.requires.few), omega (arith, c.requires.piece, m.ensures, most_few c.args.soft))

pub overflow_sub-from : goal.overflow_sub-from
overflow_sub-from c = omega (arith, few_held c.args.soft c.requires.few)

pub overflow_add-end : goal.overflow_add-end
overflow_add-end c =
    let came_within : 8 + c.read_behind-filled.result.length ≤ length c.read_behind-filled.new.buffer = let r = c.read_behind-filled in
    omega (arith, r.ensures.read.within, c.most_of.ensures, most_few c.args.soft, r.auto, c.requires.piece) in
    omega (arith, came_within, c.requires.piece, c.read_behind-filled.auto)

pub slice_bounds-take_bytes-count : goal.slice_bounds-take_bytes-count
slice_bounds-take_bytes-count c = omega (arith, few_held c.args.soft c.requires.few)

pub slice_bounds-take_bytes-start : goal.slice_bounds-take_bytes-start
slice_bounds-take_bytes-start c = omega (arith, few_held c.args.soft c.requires.few)

pub slice_bounds-take_bytes-end : goal.slice_bounds-take_bytes-end
slice_bounds-take_bytes-end c =
    let came_within : 8 + c.read_behind-filled.result.length ≤ length c.read_behind-filled.new.buffer = let r = c.read_behind-filled in
    omega (arith, r.ensures.read.within, c.most_of.ensures, most_few c.args.soft, r.auto, c.requires.piece) in
    came_within

pub take_bytes-taken-requires : goal.take_bytes-taken-requires
take_bytes-taken-requires c =
    let came_within : 8 + c.read_behind-filled.result.length ≤ length c.read_behind-filled.new.buffer = let r = c.read_behind-filled in
    omega (arith, r.ensures.read.within, c.most_of.ensures, most_few c.args.soft, r.auto, c.requires.piece) in
    let n = c.args.pass.held in
    let k = c.read_behind-filled.result.length in
    let l : length (take (8 + k - (8 - n)) (drop (8 - n) c.read_behind-filled.new.buffer)) ≡ n + k =
    omega (arith, length-take (8 + k - (8 - n)) (drop (8 - n) c.read_behind-filled.new.buffer), length-drop (8 - n) c.read_behind-filled.new.buffer, came_within, few_held c.args.soft c.requires.few) in
    let w = room c.args.soft _ n k l c.requires.few c.read_behind-filled.ensures.read.within c.most_of.ensures in
    (c.requires.ready, omega (arith, w, c.requires.numbers), omega (arith, c.requires.run), omega (arith, w, c.requires.bytes))

pub returns : goal.returns
returns c =
    let came_within : 8 + c.read_behind-filled.result.length ≤ length c.read_behind-filled.new.buffer = let r = c.read_behind-filled in
    omega (arith, r.ensures.read.within, c.most_of.ensures, most_few c.args.soft, r.auto, c.requires.piece) in
    let k = c.take_bytes-taken in
    let p = c.args.pass in
    let f = c.read_behind-filled in
    let few = few_held c.args.soft c.requires.few in
    record {
      piece = take f.result.length (drop 8 f.new.buffer);
      piece_length = length-take-le f.result.length (drop 8 f.new.buffer) (omega (arith, length-drop 8 f.new.buffer, came_within));
      origin = f.ensures.read.origin;
      trace = f.ensures.read.trace;
      none = λ z. f.ensures.read.none z (omega (arith, c.most_of.ensures, most_some c.args.soft));
      short = omega (arith, f.ensures.read.within, c.most_of.ensures, most_few c.args.soft);
      takes =
          subst (λ (l : List ℕ). TakesBytes c.args.soft p.stream l c.args.output.now k.result k.new.output)
          (joined_part p.tail f.new.buffer p.held f.result few c.requires.size f.ensures) k.ensures;
      fits = packs_fit k.ensures.takes.fed.packed;
    }
