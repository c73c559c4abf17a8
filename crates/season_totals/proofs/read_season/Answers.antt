-- `season_totals::read_season` meets its contract.
-- Assumes nothing.
use mathlib.Core.Path.{sym, subst}
use mathlib.Core.List.{[], ◌++◌}
use Rattle.season_totals.specs.Progress.{CameTo}
use Rattle.season_totals.proofs.Histories.{fresh_came}
use Rattle.season_totals.proofs.read_season.Goals as goal

pub feed-requires : goal.feed-requires
feed-requires c = record { bytes = []; is = subst (CameTo []) (sym c.new.ensures) fresh_came }

pub finish-requires : goal.finish-requires
finish-requires c = record { bytes = [] ++ c.args.text.now; is = c.feed.ensures.fed [] (subst (CameTo []) (sym c.new.ensures) fresh_came) }

pub returns : goal.returns
returns c =
    let t = c.args.text.now in
    c.finish.ensures.season t (c.feed.ensures.fed [] (subst (CameTo []) (sym c.new.ensures) fresh_came))
