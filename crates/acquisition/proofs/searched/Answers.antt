-- `acquisition::searched` meets its contract.
-- Assumes nothing.
use Rattle.acquisition.specs.Step.{reading_on, AfterSearch, found, nothing, several}
use Rattle.node_search.specs.declared.Search.TheVariants.{Found, Nothing, Several}
use Rattle.reader_stream.proofs.Runs.{back_whole}
use Prim.Native.Nat.{ℕ}
use mathlib.Core.List.{List}
use mathlib.Core.Path.{ap, sym, ◌∙◌, subst}
use Rattle.node_search.specs.declared.Search.{Search}
use Rattle.node_search.specs.Search.{FoundKnown}
use Rattle.acquisition.proofs.searched.Goals as goal

pub begin-begun-requires : goal.begin-begun-requires
begin-begun-requires c = let v = subst FoundKnown c.in-Found.is c.requires.3 in (v.0, v.2)

pub returns-in-Found : goal.returns-in-Found
returns-in-Found c = let b = c.begin-begun in let h = c.in-Found.hypothesis in subst (λ (x : Search). AfterSearch c.args.rate c.args.mirrored c.args.came c.args.window.now x c.reading_on.result) (sym c.in-Found.is) (subst (AfterSearch c.args.rate c.args.mirrored c.args.came c.args.window.now (Found h)) (sym (c.reading_on.ensures ∙ ap (λ (l : List ℕ). reading_on c.args.rate c.args.mirrored b.result l c.args.came) (back_whole c.args.window.now h.offset))) (found h b.result b.ensures))

pub returns-in-Nothing : goal.returns-in-Nothing
returns-in-Nothing c = subst (λ (x : Search). AfterSearch c.args.rate c.args.mirrored c.args.came c.args.window.now x c.searching_on.result) (sym c.in-Nothing.is) (subst (AfterSearch c.args.rate c.args.mirrored c.args.came c.args.window.now Nothing) (sym c.searching_on.ensures) nothing)

pub returns-in-Several : goal.returns-in-Several
returns-in-Several c = subst (λ (x : Search). AfterSearch c.args.rate c.args.mirrored c.args.came c.args.window.now x c.searching_on-in-Several.result) (sym c.in-Several.is) (subst (AfterSearch c.args.rate c.args.mirrored c.args.came c.args.window.now Several) (sym c.searching_on-in-Several.ensures) several)
