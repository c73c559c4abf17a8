-- `dvbs_lock::lock_all` meets its contract.
-- Assumes nothing.
use mathlib.Core.Path.{◌≡◌}
use Prim.Native.Nat.{◌-◌, ◌≤◌}
use lib.ListN.{length}
use Rattle.dvbs_lock.specs.Numbers.{read_size}
use Rattle.dvbs_lock.proofs.Reading.{Reading}
use Rattle.dvbs_lock.proofs.lock_all.Given as goal

abbrev pub invariant-loop-came : goal.invariant-loop-came
invariant-loop-came l =
    (Reading l.bits l.rate l.input l.output l.errors l.stream l.came 0) × (length l.buffer ≡ 104448) × (length l.numbers ≡ 13056) × (length l.packets ≡ 1504) × (length l.text ≡ 2048)
    × (l.came ≤ 1152921504606844448) × (l.size ≡ read_size l.bits)

abbrev pub decreases-loop-came : goal.decreases-loop-came
decreases-loop-came l = 1152921504606844449 - l.came
