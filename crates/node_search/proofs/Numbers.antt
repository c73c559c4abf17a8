-- The numbers of a rate: how many symbols of a window are read, behind how many unknown ones.
-- Assumes nothing.
use mathlib.Core.Path.{◌≡◌}
use Prim.Native.Nat.{ℕ, ◌+◌, ◌*◌, ◌%◌, ◌≤◌, ◌<◌}
use native.Mathlib.Nat.{mul-le-mul_right}
use native.Mathlib.Omega.{arith}
use lib.Dec.{leb, leb→le}
use Rattle.common.proofs.Computed.{below_at, agree_at}
use Rattle.puncturing.specs.Mode.{mode_of}
use Rattle.reader.specs.Read.{symbols_per_pattern, run_bits}
use Rattle.reader_stream.specs.Runs.{run_patterns}
use Rattle.free_start.specs.Lead.{lead_patterns, lead_symbols}
use Rattle.node_search.specs.Weight.{tried_symbols, threshold}

pub record Numbers (rate : ℕ) : Type 0 where
  pub lead_most : lead_symbols rate ≤ 6
  pub tried_most : tried_symbols rate ≤ 1626
  pub some_tried : 1 ≤ tried_symbols rate
  pub pattern_most : symbols_per_pattern rate ≤ 4
  pub whole : (lead_symbols rate + tried_symbols rate) % symbols_per_pattern rate ≡ 0
  pub run_most : lead_symbols rate + tried_symbols rate ≤ 1632
  pub bits_most : run_bits rate (lead_symbols rate + tried_symbols rate) ≤ 1632
  pub some_threshold : 1 ≤ threshold rate
  pub threshold_most : threshold rate ≤ 760

pub numbers : (rate : ℕ) → rate < 5 → Numbers rate
unfolding lead_symbols lead_patterns tried_symbols run_patterns symbols_per_pattern threshold mode_of
numbers rate h = record {
  lead_most = leb→le _ _ (below_at (λ r. leb (lead_symbols r) 6) 5 tt rate h);
  tried_most = leb→le _ _ (below_at (λ r. leb (tried_symbols r) 1626) 5 tt rate h);
  some_tried = leb→le _ _ (below_at (λ r. leb 1 (tried_symbols r)) 5 tt rate h);
  pattern_most = leb→le _ _ (below_at (λ r. leb (symbols_per_pattern r) 4) 5 tt rate h);
  whole = agree_at (λ r. (lead_symbols r + tried_symbols r) % symbols_per_pattern r) (λ r. 0) 5 tt rate h;
  run_most = leb→le _ _ (below_at (λ r. leb (lead_symbols r + tried_symbols r) 1632) 5 tt rate h);
  bits_most = leb→le _ _ (below_at (λ r. leb (run_bits r (lead_symbols r + tried_symbols r)) 1632) 5 tt rate h);
  some_threshold = leb→le _ _ (below_at (λ r. leb 1 (threshold r)) 5 tt rate h);
  threshold_most = leb→le _ _ (below_at (λ r. leb (threshold r) 760) 5 tt rate h);
}

-- a threshold times a weight
pub product : (t w : ℕ) → t ≤ 760 → w ≤ 22764 → t * w ≤ 17300640
product t w h l = omega (arith, mul-le-mul_right w h)
