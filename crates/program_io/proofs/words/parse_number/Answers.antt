-- `program_io::words::parse_number` meets its contract.
-- Assumes nothing.
use Rattle.std.proofs.Common.{sym, arith}
use Rattle.program_io.proofs.Numerals.{parsed_none, reading_start, below, above, reading_more, reading_large, reading_number}
use Rattle.program_io.proofs.words.parse_number.Goals as goal

pub returns-then-word-eq0 : goal.returns-then-word-eq0
returns-then-word-eq0 c = parsed_none c.args.word.now c.args.most c.if-word-eq0.true

pub loop-character-init : goal.loop-character-init
loop-character-init c = (reading_start _ _, let h = c.if-word-eq0.false in omega (arith, h))

pub returns-then-character-lt48 : goal.returns-then-character-lt48
returns-then-character-lt48 c = let t = c.loop-character-test in sym (below c.loop-character.invariant.0 (omega (arith, t)) c.if-character-lt48.true)

pub returns-then-character-gt57 : goal.returns-then-character-gt57
returns-then-character-gt57 c = let t = c.loop-character-test in sym (above c.loop-character.invariant.0 (omega (arith, t)) c.if-character-lt48.false c.if-character-gt57.true)

pub appended-value-requires : goal.appended-value-requires
appended-value-requires c = let h = c.if-character-gt57.false in (c.loop-character.invariant.0.bound, omega (arith, h), c.requires)

pub loop-character-preserved : goal.loop-character-preserved
loop-character-preserved c =
    let l = c.loop-character in
    let t = c.loop-character-test in
    let a = c.appended-value.ensures in
    (reading_more l.invariant.0 (omega (arith, t)) c.if-character-lt48.false c.if-character-gt57.false c.appended-value.result a.0 a.1.0 a.1.1, l.invariant.1)

pub returns-then-most-value : goal.returns-then-most-value
returns-then-most-value c = let t = c.loop-character-test in let l = c.loop-character in reading_large l.invariant.0 (omega (arith, t)) l.invariant.1 c.if-most-value.true

pub returns : goal.returns
returns c = let t = c.loop-character-test in let l = c.loop-character in reading_number l.invariant.0 (omega (arith, t)) l.invariant.1 c.if-most-value.false
