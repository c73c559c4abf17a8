-- `receiver::take_block` meets its contract.
-- Assumes nothing.
use mathlib.Core.Path.{◌≡◌, refl, sym, ap, ap₂, ◌∙◌, subst, subst₂}
use mathlib.Core.List.{List}
use Prim.Native.Nat.{ℕ}
use native.Mathlib.Omega.{arith}
use lib.ListN.{replicate}
use Rattle.std.proofs.Common.{Ok, Err}
use Rattle.std.specs.Result.{result_unwrap_or}
use Rattle.reed_solomon.specs.Code.{no_change}
use Rattle.reed_solomon.specs.Decode.{Decoded, changed_by}
use Rattle.reed_solomon.specs.Marks.{DecodesMarked}
use Rattle.reed_solomon.specs.declared.Changed.{Changed}
use Rattle.reed_solomon.proofs.Laws.{tells_changes, FewChanges, few_changes}
use Rattle.reed_solomon.proofs.Marks.{marks_of_lem}
use Rattle.interleaver.specs.Branch.{laid}
use Rattle.interleaver.specs.Block.{block_out}
use Rattle.interleaver.specs.declared.branches.Side.TheVariants.{Receiving}
use Rattle.interleaver.proofs.Blocks.{length_out}
use Rattle.group_sync.specs.Group.{group_step, PlaceOf}
use Rattle.group_sync.specs.declared.GroupStep.{GroupStep}
use Rattle.group_sync.proofs.Synchronization.{outcome_place}
use Rattle.reception_counts.specs.Counts.{outcome_number, counted}
use Rattle.receiver.specs.Receive.{delayed_block, delayed_marks}
use Rattle.receiver.proofs.Calls.{state_range, filling_call, decoding_call, output_for_lem, output_filled, left_length}
use Rattle.receiver.proofs.MarkDelays.{none_leaves}
use borrow.Author.Rules.{rules}
use Rattle.receiver.proofs.take_block.Goals as goal

told_changes : (d : Decoded) → result_unwrap_or d no_change ≡ changed_by d
told_changes (Ok changed) = refl
told_changes (Err refusal) = refl

pub pass_cells-moved-requires : goal.pass_cells-moved-requires
pass_cells-moved-requires c =
    ((state_range c.args.receiver.now c.requires.0.range).branches, search rules, c.requires.0.size, omega arith)

pub delay_marks-requires : goal.delay_marks-requires
delay_marks-requires c =
    ((state_range c.args.receiver.now c.requires.0.range).branches, search rules, (marks_of_lem c.args.marks.now c.requires.0.marked).size, refl, c.requires.1)

pub count-receiver-requires : goal.count-receiver-requires
count-receiver-requires c =
    let a = c.args in
    output_for_lem c.args.receiver.now a.block.now a.marks.now a.output.now c.requires.0 no_change (record { few = omega arith; least = omega arith; most = omega arith })

pub returns-then-receiver-lt11 : goal.returns-then-receiver-lt11
returns-then-receiver-lt11 c =
    let a = c.args in
    let p = c.pass_cells-moved in
    filling_call c.args.receiver.now a.block.now a.marks.now a.output.now c.requires.0 c.if-receiver-lt11.true (record { branches = laid p.new.cells p.result }) c.delay_marks.new.cells c.count-receiver.result _
    (λ i. laid (p.ensures.1 i) (p.ensures.0 i)) c.delay_marks.ensures.0 c.count-receiver.ensures refl

pub decode_block-decoded-requires : goal.decode_block-decoded-requires
decode_block-decoded-requires c =
    λ z.
    let e = c.requires.1 z in
    c.delay_marks.ensures.1
    ∙ ap₂ (λ (k m : List ℕ). block_out Receiving (laid k c.args.receiver.now.deinterleaver.branches.positions) m) e.0 e.1
    ∙ none_leaves c.args.receiver.now.deinterleaver.branches.positions

pub count-receiver-requires-2 : goal.count-receiver-requires-2
count-receiver-requires-2 c =
    let decodes : DecodesMarked (delayed_marks c.args.receiver.now c.args.marks.now) (delayed_block c.args.receiver.now c.args.block.now) c.decode_block-decoded.new.block c.decode_block-decoded.result = let a = c.args in
    subst₂ (λ (m b : List ℕ). DecodesMarked m b c.decode_block-decoded.new.block c.decode_block-decoded.result)
    c.delay_marks.ensures.1 (output_filled (delayed_block c.args.receiver.now a.block.now) (replicate 204 0) _ refl c.pass_cells-moved.ensures.2) c.decode_block-decoded.ensures in
    let a = c.args in
    output_for_lem c.args.receiver.now a.block.now a.marks.now a.output.now c.requires.0 _
    (subst FewChanges (sym (c.unwrap_or-changed.ensures ∙ told_changes c.decode_block-decoded.result ∙ tells_changes _ _ c.decode_block-decoded.new.block c.decode_block-decoded.result (decodes)))
    (few_changes (delayed_marks c.args.receiver.now a.marks.now) (delayed_block c.args.receiver.now a.block.now) c.decode_block-decoded.new.block c.decode_block-decoded.result (decodes)))

pub deliver-requires : goal.deliver-requires
deliver-requires c =
    let decodes : DecodesMarked (delayed_marks c.args.receiver.now c.args.marks.now) (delayed_block c.args.receiver.now c.args.block.now) c.decode_block-decoded.new.block c.decode_block-decoded.result = let a = c.args in
    subst₂ (λ (m b : List ℕ). DecodesMarked m b c.decode_block-decoded.new.block c.decode_block-decoded.result)
    c.delay_marks.ensures.1 (output_filled (delayed_block c.args.receiver.now a.block.now) (replicate 204 0) _ refl c.pass_cells-moved.ensures.2) c.decode_block-decoded.ensures in
    let a = c.args in (
      subst (λ (g : GroupStep). PlaceOf g.outcome) (sym c.step-step.ensures) (outcome_place a.receiver.now.sync c.codeword_of.result (state_range c.args.receiver.now c.requires.0.range).sync),
      left_length (delayed_marks c.args.receiver.now a.marks.now) (delayed_block c.args.receiver.now a.block.now) c.decode_block-decoded.new.block c.decode_block-decoded.result (decodes) (length_out Receiving c.args.receiver.now.deinterleaver.branches a.block.now),
      c.requires.0.enough,
    )

pub returns : goal.returns
returns c =
    let decodes : DecodesMarked (delayed_marks c.args.receiver.now c.args.marks.now) (delayed_block c.args.receiver.now c.args.block.now) c.decode_block-decoded.new.block c.decode_block-decoded.result = let a = c.args in
    subst₂ (λ (m b : List ℕ). DecodesMarked m b c.decode_block-decoded.new.block c.decode_block-decoded.result)
    c.delay_marks.ensures.1 (output_filled (delayed_block c.args.receiver.now a.block.now) (replicate 204 0) _ refl c.pass_cells-moved.ensures.2) c.decode_block-decoded.ensures in
    let a = c.args in
    let p = c.pass_cells-moved in
    let k = c.step-step in
    let n = c.count-receiver-2 in
    decoding_call c.args.receiver.now a.block.now a.marks.now a.output.now c.requires.0 c.if-receiver-lt11.false c.decode_block-decoded.new.block c.decode_block-decoded.result (decodes)
    k.result (k.ensures ∙ ap (group_step a.receiver.now.sync) c.codeword_of.ensures) (record { branches = laid p.new.cells p.result }) c.delay_marks.new.cells n.result _
    (λ i. laid (p.ensures.1 i) (p.ensures.0 i)) c.delay_marks.ensures.0
    (n.ensures ∙ ap (λ (x : Changed). counted a.receiver.now.counts (outcome_number k.result.outcome) x.bytes x.bits) (c.unwrap_or-changed.ensures ∙ told_changes c.decode_block-decoded.result)) c.deliver.ensures
