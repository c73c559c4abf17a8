-- `lock_receiver::LockReceiver::take` meets its contract.
-- Assumes nothing.
use mathlib.Core.Path.{◌≡◌, refl, sym, ◌∙◌}
use mathlib.Core.Bool.{true}
use native.Mathlib.Omega.{arith}
use borrow.Author.Tests.{eq-eqb, ne_eqb, lt-ltb, le-ltb}
use Rattle.answer.specs.declared.Refusal.TheVariants.{StateRange, BlockLength, OutputLength, CountsFull}
use Rattle.lock_receiver.specs.Take.{lock_in_range, refused, taken}
use Rattle.lock_receiver.proofs.LockReceiver.take.Goals as goal

pub returns-then-not-in_range : goal.returns-then-not-in_range
returns-then-not-in_range c = refused StateRange (sym (simp (sym c.in_range.ensures ∙ c.if-not-in_range.true))) (omega arith) refl refl refl

pub returns-then-block-ne-BLOCK_LENGTH : goal.returns-then-block-ne-BLOCK_LENGTH
returns-then-block-ne-BLOCK_LENGTH c =
    let good : lock_in_range c.args.self ≡ true = sym c.in_range.ensures ∙ c.if-not-in_range.false in
    refused BlockLength (sym (simp (good, ne_eqb _ _ c.if-block-ne-BLOCK_LENGTH.true))) (omega arith) refl refl refl

pub returns-then-output-lt-OUTPUT_LENGTH : goal.returns-then-output-lt-OUTPUT_LENGTH
returns-then-output-lt-OUTPUT_LENGTH c =
    let good : lock_in_range c.args.self ≡ true = sym c.in_range.ensures ∙ c.if-not-in_range.false in
    refused OutputLength (sym (simp (good, eq-eqb _ _ c.if-block-ne-BLOCK_LENGTH.false, lt-ltb _ _ c.if-output-lt-OUTPUT_LENGTH.true))) (omega arith) refl refl refl

pub returns-then-lines-lt-LINES : goal.returns-then-lines-lt-LINES
returns-then-lines-lt-LINES c =
    let good : lock_in_range c.args.self ≡ true = sym c.in_range.ensures ∙ c.if-not-in_range.false in
    refused OutputLength (sym (simp (good, eq-eqb _ _ c.if-block-ne-BLOCK_LENGTH.false, le-ltb _ _ c.if-output-lt-OUTPUT_LENGTH.false, lt-ltb _ _ c.if-lines-lt-LINES.true))) (omega arith) refl refl refl

pub returns-then-self-ge-MOST : goal.returns-then-self-ge-MOST
returns-then-self-ge-MOST c =
    let good : lock_in_range c.args.self ≡ true = sym c.in_range.ensures ∙ c.if-not-in_range.false in
    refused CountsFull (sym (simp (good, eq-eqb _ _ c.if-block-ne-BLOCK_LENGTH.false, le-ltb _ _ c.if-output-lt-OUTPUT_LENGTH.false, le-ltb _ _ c.if-lines-lt-LINES.false, le-ltb _ _ c.if-self-ge-MOST.true))) (omega arith) refl refl refl

pub take_block-requires : goal.take_block-requires
take_block-requires c =
    let good : lock_in_range c.args.self ≡ true = sym c.in_range.ensures ∙ c.if-not-in_range.false in
    record {
      range = good;
      size = c.if-block-ne-BLOCK_LENGTH.false;
      enough = c.if-output-lt-OUTPUT_LENGTH.false;
      room = c.if-lines-lt-LINES.false;
      more = c.if-self-ge-MOST.false;
    }

pub returns : goal.returns
returns c =
    let good : lock_in_range c.args.self ≡ true = sym c.in_range.ensures ∙ c.if-not-in_range.false in
    taken _ (simp (good, eq-eqb _ _ c.if-block-ne-BLOCK_LENGTH.false, le-ltb _ _ c.if-output-lt-OUTPUT_LENGTH.false, le-ltb _ _ c.if-lines-lt-LINES.false, lt-ltb _ _ c.if-self-ge-MOST.false)) refl c.take_block.ensures
