-- `sender_stream::run::is_synced` meets its contract.
-- Assumes nothing.
use mathlib.Core.Path.{◌≡◌, sym, subst}
use Prim.Native.Nat.{◌+◌, ◌*◌}
use native.Mathlib.Omega.{arith}
use Rattle.sender_stream.proofs.Buffers.{begins, ends, Synced, synced_start, synced_more, synced_bad, synced_all}
use Rattle.sender_stream.proofs.run.is_synced.Goals as goal

pub loop-k-init : goal.loop-k-init
loop-k-init c = synced_start c.args.packets.now c.requires

pub returns-then-packets-k-ne71 : goal.returns-then-packets-k-ne71
returns-then-packets-k-ne71 c = sym (synced_bad c.loop-k.invariant (begins _ _ c.loop-k-test.true) c.if-packets-k-ne71.true)

pub loop-k-preserved : goal.loop-k-preserved
loop-k-preserved c =
    let l = c.loop-k in
    let e : 188 * l.k + 188 ≡ 188 * (l.k + 1) = omega arith in
    subst (Synced c.args.packets.now) e (synced_more l.invariant (begins _ _ c.loop-k-test.true) c.if-packets-k-ne71.false)

pub returns : goal.returns
returns c = sym (synced_all c.loop-k.invariant (ends _ _ c.requires c.loop-k-test.false))
