-- `answer_lines::put_list` meets its contract.
-- Assumes nothing.
use Prim.Native.Nat.{◌≤◌}
use Rattle.answer_lines.proofs.Lists.{Listing}
use Rattle.answer_lines.proofs.put_list.Given as goal

abbrev pub invariant-loop-i : goal.invariant-loop-i
invariant-loop-i l = Listing l.lines l.initial.text l.text l.at l.i l.end × (l.i ≤ l.count)
