-- `dvbs_reader_stream::dvbs_reader_feed_soft` meets its contract.
-- Assumes nothing.
use mathlib.Core.Path.{refl}
use Rattle.state_bytes.specs.Calls.{no_answer}
use Rattle.dvbs_reader_stream.proofs.dvbs_reader_feed_soft.Goals as goal

pub returns-then-answer-lt1 : goal.returns-then-answer-lt1
returns-then-answer-lt1 c = no_answer c.if-answer-lt1.true (refl, refl) refl refl

pub returns : goal.returns
returns c = rw (c.tell.ensures.counted, c.tell.ensures.told) (c.feed_soft_state.ensures c.args.answer.now c.if-answer-lt1.false)
