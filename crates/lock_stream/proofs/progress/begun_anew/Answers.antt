-- `lock_stream::progress::begun_anew` meets its contract.
-- Assumes nothing.
use mathlib.Core.Path.{sym, ap, ap₂}
use mathlib.Core.Bool.{Bool, true}
use lib.Dec.{leb}
use Rattle.common.specs.Choice.{pick}
use Rattle.lock_stream.proofs.progress.begun_anew.Goals as goal

pub returns-then-anew : goal.returns-then-anew
returns-then-anew c =
    let p = c.args.progress in
    ap (λ (t : Bool). pick t true (pick p.locked (leb 4294967295 p.receiver.receiver.counts.taken) true)) (sym c.if-anew.true)

pub returns-then-not-locked : goal.returns-then-not-locked
returns-then-not-locked c =
    let p = c.args.progress in
    ap₂ (λ (s t : Bool). pick s true (pick t (leb 4294967295 p.receiver.receiver.counts.taken) true)) (sym c.if-anew.false) (sym c.if-not-locked.true)

pub returns : goal.returns
returns c =
    let p = c.args.progress in
    ap₂ (λ (s t : Bool). pick s true (pick t (leb 4294967295 p.receiver.receiver.counts.taken) true)) (sym c.if-anew.false) (sym c.if-not-locked.false)
