-- `receiver::Receiver::new` meets its contract.
-- Assumes nothing.
use mathlib.Core.Path.{ap, ◌∙◌}
use lib.ListN.{replicate}
use Rattle.interleaver.specs.Block.{fresh}
use Rattle.interleaver.specs.declared.branches.Branches.{Branches}
use Rattle.group_sync.specs.Group.{fresh_sync}
use Rattle.group_sync.specs.declared.GroupSync.{GroupSync}
use Rattle.reception_counts.specs.declared.Counts.{Counts}
use Rattle.receiver.specs.Receive.{fresh_receiver}
use Rattle.receiver.proofs.Receiver.new.Goals as goal

pub returns : goal.returns
unfolding fresh_receiver
returns c =
    ap (λ (d : Branches). record { deinterleaver = record { branches = d }; marks = replicate 1122 0; sync = c.new-2.result; counts = c.new-3.result })
    c.new.ensures
    ∙ ap (λ (s : GroupSync). record { deinterleaver = record { branches = fresh }; marks = replicate 1122 0; sync = s; counts = c.new-3.result })
    c.new-2.ensures
    ∙ ap (λ (n : Counts). record { deinterleaver = record { branches = fresh }; marks = replicate 1122 0; sync = fresh_sync; counts = n }) c.new-3.ensures
