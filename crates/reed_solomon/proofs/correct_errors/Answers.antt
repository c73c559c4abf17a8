-- `reed_solomon::correct_errors` meets its contract: each step gives what the theorems of the decoder ask of it.
-- Assumes nothing.
use mathlib.Core.Path.{sym, ◌∙◌, subst}
use mathlib.Core.List.{List}
use Prim.Native.Nat.{ℕ, ◌-◌, ◌/◌, ◌≤◌}
use native.Mathlib.Omega.{arith}
use lib.ListN.{length, take}
use Rattle.common.proofs.Entries.{bytes_of}
use Rattle.reed_solomon.specs.Steps.{SyndromesOf, Recurring}
use Rattle.error_locator.specs.Locator.{Modified}
use Rattle.error_correction.specs.Correction.{roots_of}
use Rattle.reed_solomon.proofs.Completeness.{roots_sixteen}
use Rattle.reed_solomon.proofs.Marks.{marked_zero}
use Rattle.reed_solomon.proofs.Outcome.{Decoding, rejected, corrected, degrees_range}
use Rattle.reed_solomon.proofs.Erasures.{unmarked_degrees, erasures_count}
use Rattle.reed_solomon.proofs.correct_errors.Goals as goal

pub by_degree-by_degree-requires : goal.by_degree-by_degree-requires
by_degree-by_degree-requires c = (c.requires.2.size, λ z. record { each = marked_zero c.args.marks.now (sym c.requires.3 ∙ z) })

pub find_erasures-erasures-requires : goal.find_erasures-erasures-requires
find_erasures-erasures-requires c =
    (c.by_degree-by_degree.type_inv.1.0.1, erasures_count c.args.marks.now _ c.requires.2.size c.by_degree-by_degree.ensures ∙ sym c.requires.3, c.requires.4)

pub find_roots-roots-requires : goal.find_roots-roots-requires
find_roots-roots-requires c =
    let few_roots : length (roots_of c.by_degree-by_degree.result c.locator-q.result) ≤ 16 = roots_sixteen _ _ _ c.args.marks.now ((16 - c.args.f) / 2) c.requires.2.size c.by_degree-by_degree.ensures c.locator-q.ensures (omega (arith, c.requires.3, c.requires.4)) in
    let u = c.by_degree-by_degree in (
      u.type_inv.1.0.1,
      c.requires.4,
      λ z. unmarked_degrees c.args.marks.now _ u.ensures (marked_zero c.args.marks.now (sym c.requires.3 ∙ z)),
      c.requires.3 ∙ sym (erasures_count c.args.marks.now _ c.requires.2.size u.ensures),
      c.locator-q.ensures.nonzero,
      few_roots,
    )

pub returns-then-not-recur : goal.returns-then-not-recur
returns-then-not-recur c =
    let steps : Decoding c.args.marks.now c.args.block.now c.syndromes-s.result c.by_degree-by_degree.result c.modified.result ((16 - c.args.f) / 2) c.locator-q.result c.find_roots-roots.result.degrees c.find_roots-roots.result.places c.find_roots-roots.result.count = record {
      marked_size = c.requires.2.size;
      came_size = c.requires.0;
      small = bytes_of c.args.block.now (λ i. (c.slice_known-1.given i).fits);
      syndromes_of = subst (λ r. SyndromesOf r c.syndromes-s.result) c.requires.1 c.syndromes-s.ensures;
      by_degree = c.by_degree-by_degree.ensures;
      modified = subst (λ (l : List ℕ). Modified c.syndromes-s.result l c.modified.result) c.find_erasures-erasures.ensures.placed c.modified.ensures;
      size_most = omega (arith, c.requires.3, c.requires.4);
      size_least = omega (arith, c.requires.3, c.requires.4);
      locator = c.locator-q.ensures;
      roots = c.find_roots-roots.ensures;
    } in
    (c.requires.0, c.requires.2, rejected (steps) (subst (Recurring c.syndromes-s.result (take c.find_roots-roots.result.count c.find_roots-roots.result.places)) c.if-not-recur.true c.recur.ensures))

pub correct-bytes-requires : goal.correct-bytes-requires
correct-bytes-requires c =
    let few_roots : length (roots_of c.by_degree-by_degree.result c.locator-q.result) ≤ 16 = roots_sixteen _ _ _ c.args.marks.now ((16 - c.args.f) / 2) c.requires.2.size c.by_degree-by_degree.ensures c.locator-q.ensures (omega (arith, c.requires.3, c.requires.4)) in
    let few_found : c.find_roots-roots.result.count ≤ 16 = omega (arith, c.find_roots-roots.ensures.number, few_roots) in
    let steps : Decoding c.args.marks.now c.args.block.now c.syndromes-s.result c.by_degree-by_degree.result c.modified.result ((16 - c.args.f) / 2) c.locator-q.result c.find_roots-roots.result.degrees c.find_roots-roots.result.places c.find_roots-roots.result.count = record {
      marked_size = c.requires.2.size;
      came_size = c.requires.0;
      small = bytes_of c.args.block.now (λ i. (c.slice_known-1.given i).fits);
      syndromes_of = subst (λ r. SyndromesOf r c.syndromes-s.result) c.requires.1 c.syndromes-s.ensures;
      by_degree = c.by_degree-by_degree.ensures;
      modified = subst (λ (l : List ℕ). Modified c.syndromes-s.result l c.modified.result) c.find_erasures-erasures.ensures.placed c.modified.ensures;
      size_most = omega (arith, c.requires.3, c.requires.4);
      size_least = omega (arith, c.requires.3, c.requires.4);
      locator = c.locator-q.ensures;
      roots = c.find_roots-roots.ensures;
    } in
    (c.requires.0, few_found, degrees_range (steps))

pub returns : goal.returns
returns c =
    let steps : Decoding c.args.marks.now c.args.block.now c.syndromes-s.result c.by_degree-by_degree.result c.modified.result ((16 - c.args.f) / 2) c.locator-q.result c.find_roots-roots.result.degrees c.find_roots-roots.result.places c.find_roots-roots.result.count = record {
      marked_size = c.requires.2.size;
      came_size = c.requires.0;
      small = bytes_of c.args.block.now (λ i. (c.slice_known-1.given i).fits);
      syndromes_of = subst (λ r. SyndromesOf r c.syndromes-s.result) c.requires.1 c.syndromes-s.ensures;
      by_degree = c.by_degree-by_degree.ensures;
      modified = subst (λ (l : List ℕ). Modified c.syndromes-s.result l c.modified.result) c.find_erasures-erasures.ensures.placed c.modified.ensures;
      size_most = omega (arith, c.requires.3, c.requires.4);
      size_least = omega (arith, c.requires.3, c.requires.4);
      locator = c.locator-q.ensures;
      roots = c.find_roots-roots.ensures;
    } in
    let p = c.root_product-p in
    let v = c.error_values-values in (
      c.requires.0,
      c.requires.2,
      corrected (steps) p.ensures p.type_inv.1.0.1 v.ensures v.type_inv.1.0.1 _ _ _
          (subst (Recurring c.syndromes-s.result (take c.find_roots-roots.result.count c.find_roots-roots.result.places)) c.if-not-recur.false c.recur.ensures)
          c.correct-bytes.ensures.1 c.correct-bytes.ensures.0 c.set_bits-bits.ensures,
    )
