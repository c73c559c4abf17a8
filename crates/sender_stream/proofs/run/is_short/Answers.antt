-- `sender_stream::run::is_short` meets its contract.
-- Assumes nothing.
use mathlib.Core.Path.{◌≡◌, sym, ◌∙◌}
use Prim.Native.Nat.{◌+◌, ◌%◌, ◌<◌}
use native.Mathlib.Nat.{mod-lt}
use native.Mathlib.Omega.{arith}
use borrow.Author.Tests.{lt-ltb, le-ltb}
use lib.ListN.{get_or}
use Rattle.puncturing.specs.Mode.{block_bits}
use Rattle.puncturing.specs.Step.{symbols_in}
use Rattle.puncturing.proofs.Places.{lengths, length_is, length_le}
use Rattle.sender_stream.proofs.Counting.{counting_start, counting_end, counting_short, counting_more, needed_is}
use Rattle.sender_stream.proofs.run.is_short.Goals as goal

pub overflow_cast-length-2 : goal.overflow_cast-length-2
overflow_cast-length-2 c = let h = c.requires.0 in omega (arith, length_is c.args.rate h, length_le c.args.rate h)

pub loop-init : goal.loop-init
loop-init c = counting_start _ _ _ _ c.requires.0 c.requires.1

pub returns-then-left-needed : goal.returns-then-left-needed
returns-then-left-needed c =
    let needed : c.symbol_count-needed.result ≡ symbols_in c.args.rate c.loop.place (block_bits c.args.rate) = c.symbol_count-needed.ensures ∙ needed_is _ _ c.requires.0 c.loop.invariant.in_pattern in
    sym (lt-ltb _ _ (counting_short c.loop.invariant c.loop-test.true (rw (needed) at c.if-left-needed.true)))

pub overflow_cast-place : goal.overflow_cast-place
overflow_cast-place c = omega (arith, c.loop.invariant.in_pattern, length_le c.args.rate c.requires.0)

pub overflow_add-place : goal.overflow_add-place
overflow_add-place c = omega (arith, c.loop.invariant.in_pattern, length_le c.args.rate c.requires.0)

pub nonzero_rem-place : goal.nonzero_rem-place
nonzero_rem-place c = omega (arith, c.loop.invariant.in_pattern, length_is c.args.rate c.requires.0)

pub overflow_cast-place-in-loop : goal.overflow_cast-place-in-loop
overflow_cast-place-in-loop c =
    let p = length_is c.args.rate c.requires.0 in
    let r : (c.loop.place + 1632) % get_or lengths c.args.rate 0 < get_or lengths c.args.rate 0 = mod-lt (c.loop.place + 1632) (omega (arith, c.loop.invariant.in_pattern, p)) in
    omega (arith, r, length_le c.args.rate c.requires.0, p)

pub loop-preserved : goal.loop-preserved
loop-preserved c =
    let needed : c.symbol_count-needed.result ≡ symbols_in c.args.rate c.loop.place (block_bits c.args.rate) = c.symbol_count-needed.ensures ∙ needed_is _ _ c.requires.0 c.loop.invariant.in_pattern in
    counting_more c.loop.invariant c.loop-test.true (length_is c.args.rate c.requires.0) (needed) c.if-left-needed.false

pub returns : goal.returns
returns c = sym (le-ltb _ _ (counting_end c.loop.invariant c.loop-test.false))
