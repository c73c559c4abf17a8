-- `dvbs_send::request_of` meets its contract.
-- Assumes nothing.
use mathlib.Core.Path.{◌≡◌, ◌∙◌}
use mathlib.Core.Bool.{Bool}
use Rattle.program_io.specs.Words.{word_bytes, same_bytes}
use Rattle.dvbs_send.specs.Ends.{flush_word}
use Rattle.dvbs_send.proofs.Requests.{one_word, other_count, other_word, two_words}
use mathlib.Core.Path.{subst}
use Rattle.dvbs_send.proofs.request_of.Goals as goal

pub returns-then-count-eq1 : goal.returns-then-count-eq1
returns-then-count-eq1 c = one_word c.args.count (word_bytes c.args.first) (word_bytes c.args.second) c.if-count-eq1.true (c.unwrap_or.ensures ∙ c.mode_of.ensures.names)

pub returns-then-count-ne2 : goal.returns-then-count-ne2
returns-then-count-ne2 c = other_count c.args.count (word_bytes c.args.first) (word_bytes c.args.second) c.if-count-eq1.false c.if-count-ne2.true

pub returns-then-not-is : goal.returns-then-not-is
returns-then-not-is c =
    other_word c.args.count (word_bytes c.args.first) (word_bytes c.args.second) c.if-count-eq1.false c.if-count-ne2.false
    (subst (λ (b : Bool). b ≡ same_bytes (word_bytes c.args.first) flush_word) c.if-not-is.true c.is.ensures)

pub returns : goal.returns
returns c =
    two_words c.args.count (word_bytes c.args.first) (word_bytes c.args.second) c.if-count-eq1.false c.if-count-ne2.false
    (subst (λ (b : Bool). b ≡ same_bytes (word_bytes c.args.first) flush_word) c.if-not-is.false c.is.ensures)
    (c.unwrap_or-2.ensures ∙ c.mode_of-2.ensures.names)
