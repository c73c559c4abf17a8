-- `dvbs_send::send_all` meets its contract.
-- Assumes nothing.
use mathlib.Core.Path.{◌≡◌}
use Prim.Native.Nat.{◌-◌}
use lib.ListN.{length}
use Rattle.dvbs_send.specs.Ends.{Going}
use Rattle.dvbs_send.proofs.send_all.Given as goal

abbrev pub invariant-loop-came : goal.invariant-loop-came
invariant-loop-came l =
    (Going l.mode l.input l.sending) × (l.came ≡ l.sending.came) × (length l.buffer ≡ 12032) × (length l.symbols ≡ 104448) × (length l.answers ≡ 64)

abbrev pub decreases-loop-came : goal.decreases-loop-came
decreases-loop-came l =
    9223372036854775808 - l.came
