-- What a reader gives under sparse noise: the bytes of the bits that were sent, whatever pieces the symbols came in. So do the programs that read symbols.
-- Assumes nothing.
use mathlib.Core.Path.{◌≡◌, ap, ◌∙◌}
use mathlib.Core.List.{List, map}
use Prim.Native.Nat.{ℕ, ◌%◌}
use lib.ListN.{length, take}
use Rattle.branch_metrics.specs.Cost.{softly, ReceivedSymbol}
use Rattle.reader.specs.Cost.{differing}
use Rattle.reader.specs.Read.{symbols_per_pattern, run_bits}
use Rattle.bit_packing.specs.Packing.{packed_bytes}
use Rattle.reader_stream.specs.History.{SymbolsEnded}
use Rattle.noise_tolerance.specs.Noise.{QuietEnd, soft_doubt, NoisyStream, StreamBack}
use Rattle.noise_tolerance.specs.Table.{hard_limits, soft_limits}
use Rattle.noise_tolerance.specs.Harm.{was_lost, doubt_unlost, harm_at, HarmedStream, Recovered}
use Rattle.noise_tolerance.proofs.Noise.{noisy_stream, noisy_stream_whole, noisy_soft_stream, noisy_soft_stream_whole}
use Rattle.noise_tolerance.proofs.Recovered.{lost_recovered}

-- By hard decisions: all that was sent, up to the last whole pattern that came, where the end is quiet; all but the last bits, whatever the end.
module _ {rate : ℕ} {received bytes : List ℕ} {rest left_bits : ℕ} (s : SymbolsEnded differing rate received bytes rest left_bits)
    {sent came unread : List ℕ} (n : NoisyStream differing (hard_limits rate) rate sent received came unread) where
  pub noisy_back : QuietEnd (hard_limits rate).quiet_stream (map differing received) came
      → (bytes ≡ packed_bytes (take (run_bits rate (length received)) sent)) × (rest ≡ length received % symbols_per_pattern rate)
  noisy_back quiet = let k = noisy_stream_whole n s.read quiet in (s.bytes_are ∙ ap packed_bytes k.given, k.behind)

  pub noisy_back_front : StreamBack rate (hard_limits rate).unsure sent (length received) s.bits rest
  noisy_back_front = noisy_stream n s.read

-- By soft decisions.
module _ {rate : ℕ} {received : List ReceivedSymbol} {bytes : List ℕ} {rest left_bits : ℕ} (s : SymbolsEnded softly rate received bytes rest left_bits)
    {sent came unread : List ℕ} where
  pub noisy_soft_back : NoisyStream soft_doubt (soft_limits rate) rate sent received came unread → QuietEnd (soft_limits rate).quiet_stream (map soft_doubt received) came
      → (bytes ≡ packed_bytes (take (run_bits rate (length received)) sent)) × (rest ≡ length received % symbols_per_pattern rate)
  noisy_soft_back n quiet = let k = noisy_soft_stream_whole n s.read quiet in (s.bytes_are ∙ ap packed_bytes k.given, k.behind)

  pub noisy_soft_back_front : NoisyStream soft_doubt (soft_limits rate) rate sent received came unread
      → StreamBack rate (soft_limits rate).unsure sent (length received) s.bits rest
  noisy_soft_back_front n = noisy_soft_stream n s.read

  -- Where symbols are lost, every wrong bit is near these.
  pub outage_back : HarmedStream doubt_unlost was_lost (harm_at rate).soft_lost rate sent received came unread
      → Recovered was_lost (harm_at rate).soft_lost rate (soft_limits rate).unsure sent received s.bits rest
  outage_back h = lost_recovered h s.read
