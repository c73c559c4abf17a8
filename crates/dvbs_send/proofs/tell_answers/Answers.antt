-- `dvbs_send::tell_answers` meets its contract.
-- Assumes nothing.
use mathlib.Core.Path.{sym, ◌∙◌}
use native.Mathlib.Omega.{arith}
use Rattle.dvbs_send.proofs.Telling.{none_replaced, telling_none, telling_few, telling_more, telling_all}
use Rattle.dvbs_send.proofs.tell_answers.Goals as goal

pub largest_of-requires : goal.largest_of-requires
largest_of-requires c = tt

pub returns-then-largest_of-eq0 : goal.returns-then-largest_of-eq0
returns-then-largest_of-eq0 c = let a = c.args in none_replaced a.first a.answers.now a.errors (sym c.largest_of.ensures ∙ c.if-largest_of-eq0.true)

pub loop-i-init : goal.loop-i-init
loop-i-init c = let a = c.args in telling_none a.first a.answers.now a.errors

pub overflow_add-first : goal.overflow_add-first
overflow_add-first c = let p = c.requires in record { fits = omega (arith, p, c.loop-i-test.true) }

pub tell_answer-next-requires : goal.tell_answer-next-requires
tell_answer-next-requires c = let p = c.requires in let f = telling_few c.loop-i.invariant in omega (arith, p, f, c.loop-i-test.true)

pub loop-i-preserved : goal.loop-i-preserved
loop-i-preserved c = let t = c.tell_answer-next.ensures in telling_more c.loop-i.invariant c.loop-i-test.true t.0 t.1

pub returns : goal.returns
returns c = telling_all c.loop-i.invariant c.loop-i-test.false
