-- `inner_code::encode_grouped` meets its contract.
-- Assumes nothing.
use mathlib.Core.Path.{ap₂, sym, ◌∙◌}
use mathlib.Core.List.{List, ◌++◌}
use Prim.Native.Nat.{ℕ}
use lib.ListN.{drop}
use Rattle.inner_code.proofs.Coder.{formed}
use Rattle.inner_code.proofs.Groups.{grouped_count, grouped_symbols, grouped_after}
use Rattle.inner_code.proofs.encode_grouped.Goals as goal

pub code_grouped-next-requires : goal.code_grouped-next-requires
code_grouped-next-requires c =
    let e = c.requires.0 in
    let d = c.requires.1 in
    let count = grouped_count d (formed c.args.coder e.range) c.args.coder e.range c.args.block.now e.size in
    (e.range.memory, d.fits, rw count at e.enough)

pub returns : goal.returns
returns c =
    let e = c.requires.0 in
    let d = c.requires.1 in
    let coder = c.args.coder in
    let block = c.args.block.now in
    let w = formed coder e.range in
    let r = c.code_grouped-next.ensures in
    let count = grouped_count d w coder e.range block e.size in
    record {
      coder = (λ i. record { rate = coder.rate; memory = r.0 i; place = 0; held = 0 }) ∙ grouped_after d w coder e.range block e.size;
      count = sym count;
      written = r.1 ∙ ap₂ (λ (s : List ℕ) (k : ℕ). s ++ drop k c.args.output.now) (grouped_symbols d w coder e.range block e.size) (sym count);
    }
