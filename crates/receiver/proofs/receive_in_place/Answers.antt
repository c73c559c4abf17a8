-- `receiver::receive_in_place` meets its contract.
-- Assumes nothing.
use mathlib.Core.Path.{◌≡◌, sym, ap, ◌∙◌}
use mathlib.Core.Bool.{true}
use Prim.Native.Nat.{ℕ}
use borrow.Author.Tests.{eq-eqb, ne_eqb, lt-ltb, le-ltb}
use lib.ListN.{replicate}
use Rattle.common.proofs.Largest.{largest_none}
use Rattle.reed_solomon.specs.Marks.{are_marks}
use Rattle.reed_solomon.proofs.Marks.{marks_of_lem}
use Rattle.receiver.specs.Receive.{receiver_in_range}
use Rattle.receiver.proofs.Calls.{refused_range, refused_length, refused_marks, refused_output, refused_full}
use Rattle.receiver.proofs.receive_in_place.Goals as goal

pub returns-then-not-valid-clause-received : goal.returns-then-not-valid-clause-received
returns-then-not-valid-clause-received c =
    let a = c.args in
    refused_range a.receiver.now a.block.now a.marks.now a.output.now (sym c.requires.0 ∙ c.if-not-valid.true)

pub returns-then-block-ne-BLOCK_LENGTH-clause-received : goal.returns-then-block-ne-BLOCK_LENGTH-clause-received
returns-then-block-ne-BLOCK_LENGTH-clause-received c =
    let a = c.args in
    let good : receiver_in_range a.receiver.now ≡ true = sym c.requires.0 ∙ c.if-not-valid.false in
    refused_length a.receiver.now a.block.now a.marks.now a.output.now good (ne_eqb _ _ c.if-block-ne-BLOCK_LENGTH.true)

pub returns-then-not-are_marks-clause-received : goal.returns-then-not-are_marks-clause-received
returns-then-not-are_marks-clause-received c =
    let a = c.args in
    let good : receiver_in_range a.receiver.now ≡ true = sym c.requires.0 ∙ c.if-not-valid.false in
    let l = eq-eqb _ _ c.if-block-ne-BLOCK_LENGTH.false in
    let m = sym c.are_marks.ensures ∙ c.if-not-are_marks.true in
    refused_marks a.receiver.now a.block.now a.marks.now a.output.now good l m

pub returns-then-output-lt-PACKET_LENGTH-clause-received : goal.returns-then-output-lt-PACKET_LENGTH-clause-received
returns-then-output-lt-PACKET_LENGTH-clause-received c =
    let a = c.args in
    let good : receiver_in_range a.receiver.now ≡ true = sym c.requires.0 ∙ c.if-not-valid.false in
    let marked : are_marks a.marks.now ≡ true = sym c.are_marks.ensures ∙ c.if-not-are_marks.false in
    let l = eq-eqb _ _ c.if-block-ne-BLOCK_LENGTH.false in
    refused_output a.receiver.now a.block.now a.marks.now a.output.now good l marked (lt-ltb _ _ c.if-output-lt-PACKET_LENGTH.true)

pub returns-then-receiver-ge-MOST-clause-received : goal.returns-then-receiver-ge-MOST-clause-received
returns-then-receiver-ge-MOST-clause-received c =
    let a = c.args in
    let good : receiver_in_range a.receiver.now ≡ true = sym c.requires.0 ∙ c.if-not-valid.false in
    let marked : are_marks a.marks.now ≡ true = sym c.are_marks.ensures ∙ c.if-not-are_marks.false in
    let l = eq-eqb _ _ c.if-block-ne-BLOCK_LENGTH.false in
    let o = le-ltb _ _ c.if-output-lt-PACKET_LENGTH.false in
    refused_full a.receiver.now a.block.now a.marks.now a.output.now good l marked o (le-ltb _ _ c.if-receiver-ge-MOST.true)

pub take_block-requires : goal.take_block-requires
take_block-requires c =
    let a = c.args in
    let good : receiver_in_range a.receiver.now ≡ true = sym c.requires.0 ∙ c.if-not-valid.false in
    let marked : are_marks a.marks.now ≡ true = sym c.are_marks.ensures ∙ c.if-not-are_marks.false in
    let m = marks_of_lem a.marks.now marked in (
      record {
        range = good;
        size = c.if-block-ne-BLOCK_LENGTH.false;
        marked = marked;
        enough = c.if-output-lt-PACKET_LENGTH.false;
        more = c.if-receiver-ge-MOST.false;
      },
      λ z. (
        c.requires.1 (c.none_at_all-none.ensures z).0,
        largest_none a.marks.now (c.none_at_all-none.ensures z).1 ∙ ap (λ (k : ℕ). replicate k 0) m.size,
      ),
    )
