-- `reception_counts::count_bytes::counts_at` meets its contract.
-- Assumes nothing.
use Rattle.reception_counts.proofs.count_bytes.counts_at.Goals as goal

pub returns : goal.returns
returns c =
    λ i. record {
      taken = c.number_at-taken.ensures i;
      filling = c.number_at-filling.ensures i;
      delivered = c.number_at-delivered.ensures i;
      lost = c.number_at-lost.ensures i;
      waiting = c.number_at-waiting.ensures i;
      outofstep = c.number_at-outofstep.ensures i;
      changed = c.number_at-changed.ensures i;
      bits = c.number_at-bits.ensures i;
    }
