-- `season_totals::Season::finish` meets its contract.
-- Assumes nothing.
use mathlib.Core.Path.{◌≡◌, sym}
use Prim.Native.Nat.{◌≤◌}
use native.Mathlib.Omega.{arith}
use lib.ListN.{length}
use lib.Seq.{length-take-le}
use Rattle.season_totals.proofs.Histories.{came_small, came_going, came_refused}
use borrow.Author.Rules.{rules}
use Prim.Native.Nat.{ℕ}
use mathlib.Core.Bool.{false}
use mathlib.Core.Path.{ap, subst}
use Rattle.std.specs.Prelude.{is_ok}
use Rattle.std.proofs.lemmas.Result.{err_from_is_err_and}
use Rattle.answer.specs.Number.{number_of, answered}
use Rattle.season_totals.specs.Totals.{zero_totals}
use Rattle.season_totals.specs.Season.{Seasons}
use Rattle.season_totals.proofs.Season.finish.Goals as goal

pub returns-in_err-self : goal.returns-in_err-self
returns-in_err-self c =
    let e = c.in_err-self in
    let p = err_from_is_err_and c.from_residual.result c.from_residual.ensures.1 in
    let n : answered c.args.self.answer ≡ number_of e.field-0.0 = ap answered e.was in
    let o : is_ok c.args.self.answer ≡ false = ap is_ok e.was in
    rw (p.1, p.2)
    (record {
      season = λ bytes k. subst (λ (m : ℕ). Seasons bytes m zero_totals) n (came_refused k o);
    })

pub slice_bounds-count_rest-end : goal.slice_bounds-count_rest-end
slice_bounds-count_rest-end c =
    let size : length c.args.self.pending ≡ 320 = search rules in
    let small : c.args.self.held ≤ length c.args.self.pending = let h = came_small c.requires.is in
    let n = size in
    omega arith in
    sym (length-take-le _ _ (small))

pub count_rest-requires : goal.count_rest-requires
count_rest-requires c =
    record { bytes = c.requires.bytes; is = came_going c.requires.is (ap is_ok c.in_ok-self.was) }

pub returns : goal.returns
returns c = record { season = λ bytes k. c.count_rest.ensures.season bytes (came_going k (ap is_ok c.in_ok-self.was)) }
