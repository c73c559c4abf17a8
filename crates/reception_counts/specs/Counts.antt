-- The counts of a receiver: document 01, "Receiver". Of its words, taken counts the blocks received, filling those received before the
-- deinterleaver is full, delivered the packets given, lost the uncorrectable blocks, waiting the codewords before group synchronization,
-- outofstep the codewords without the sync byte that is due, changed the bytes corrected, and bits the bits of them.
-- Clauses: document 02, P3 and P11.
-- Assumes nothing.
use Rattle.std.specs.Prelude.{Bool, false, ◌≡◌, ℕ, ◌+◌, ◌*◌, ◌≤◌, ◌<◌, min, leb, eqb}
use Rattle.common.specs.Choice.{pick, indicator}
use Rattle.group_sync.specs.declared.Outcome.{Outcome}
use Rattle.group_sync.specs.declared.Outcome.TheVariants.{Filling, Delivered, Lost, Waiting, OutOfStep}
use Rattle.reception_counts.specs.declared.Counts.{Counts}

abbrev pub zero_counts : Counts
zero_counts = record { taken = 0; filling = 0; delivered = 0; lost = 0; waiting = 0; outofstep = 0; changed = 0; bits = 0 }

-- the blocks that are in one of the middle five counts
abbrev pub middle_five : Counts → ℕ
middle_five n = n.filling + n.delivered + n.lost + n.waiting + n.outofstep

-- the accepted blocks
abbrev pub accepted_blocks : Counts → ℕ
accepted_blocks n = n.delivered + n.waiting + n.outofstep

-- the ranges of document 01: taken at most 4,294,967,295, the middle five add up to it, filling is the smaller of taken and 11,
-- and of document 02: at most sixteen bytes were changed in each accepted block, and from one to eight bits in each changed byte
unfoldable pub counts_in_range : Counts → Bool
counts_in_range n =
    pick (leb n.taken 4294967295)
    (pick (eqb (middle_five n) n.taken)
    (pick (eqb n.filling (min n.taken 11))
    (pick (leb n.changed (16 * accepted_blocks n))
    (pick (leb n.changed n.bits) (leb n.bits (8 * n.changed)) false)
    false)
    false)
    false)
    false

-- the number of document 01 for what a block taken comes to
abbrev pub outcome_number : Outcome → ℕ
outcome_number (Delivered place) = 0
outcome_number Lost = 8
outcome_number Filling = 9
outcome_number Waiting = 10
outcome_number OutOfStep = 11

-- the counts after a block taken, with its answer's number and the bytes and bits changed in it
abbrev pub counted : Counts → ℕ → ℕ → ℕ → Counts
counted n number changed bits = record {
  taken = n.taken + 1;
  filling = n.filling + indicator (eqb number 9);
  delivered = n.delivered + indicator (eqb number 0);
  lost = n.lost + indicator (eqb number 8);
  waiting = n.waiting + indicator (eqb number 10);
  outofstep = n.outofstep + indicator (eqb number 11);
  changed = n.changed + changed;
  bits = n.bits + bits;
}

-- another block can be counted, with so many bytes and bits changed, and no count wraps
pub record CountsFit (n : Counts) (changed bits : ℕ) : Type 0 where
  pub taken : n.taken < 4294967295
  pub middle : middle_five n ≡ n.taken
  pub bytes : n.changed ≤ 16 * n.taken
  pub eightfold : n.bits ≤ 8 * n.changed
  pub few : changed ≤ 16
  pub few_bits : bits ≤ 8 * changed
