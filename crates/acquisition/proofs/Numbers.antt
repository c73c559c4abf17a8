-- The numbers of the rates, and what a place among a reading's bits is in symbols.
-- Assumes nothing.
use Rattle.std.specs.Prelude.{Some}
use Rattle.block_sync.specs.declared.GivenBlock.{GivenBlock}
use mathlib.Core.Path.{◌≡◌, refl}
use Prim.Native.Nat.{ℕ, zero, suc, ◌+◌, ◌-◌, ◌*◌, ◌/◌, ◌<◌, ◌≤◌}
use native.Mathlib.Omega.{arith}
use lib.Dec.{ltb, ltb→lt}
use Rattle.common.proofs.Computed as computed
use Rattle.puncturing.specs.Mode.{mode_of}
use Rattle.puncturing.specs.Step.{pattern_length}
use Rattle.reader.specs.Read.{symbols_per_pattern}
use Rattle.free_start.specs.Lead.{lead_patterns, lead_symbols, bits_of_lead}
use Rattle.block_sync.specs.declared.SyncStep.{SyncStep}
use Rattle.acquisition.specs.Reading.{symbol_at, turn_told, block_found}

-- what the numbers of a rate are bounded by
pub record RateNumbers (rate : ℕ) : Type 0 where
  pub some_bits : 0 < pattern_length rate
  pub few_leads : lead_symbols rate < 9

pub rate_numbers : (rate : ℕ) → rate < 5 → RateNumbers rate
unfolding lead_patterns lead_symbols symbols_per_pattern mode_of
rate_numbers rate h =
    record {
      some_bits = ltb→lt _ _ (computed.below_at (λ r. ltb 0 (pattern_length r)) 5 tt rate h);
      few_leads = ltb→lt _ _ (computed.below_at (λ r. ltb (lead_symbols r) 9) 5 tt rate h);
    }

-- no more symbols than bits
pub symbols_most : (rate : ℕ) → rate < 5 → (b : ℕ) → symbols_per_pattern rate * (b / pattern_length rate) ≤ b
unfolding symbols_per_pattern mode_of
symbols_most zero h b = omega arith
symbols_most (suc zero) h b = omega arith
symbols_most (suc (suc zero)) h b = omega arith
symbols_most (suc (suc (suc zero))) h b = omega arith
symbols_most (suc (suc (suc (suc zero)))) h b = omega arith
symbols_most (suc (suc (suc (suc (suc n))))) h b = absurd (omega (arith, h))

pub symbols_fit : (rate : ℕ) → rate < 5 → {l n : ℕ} → l ≡ pattern_length rate → n ≡ symbols_per_pattern rate → (b : ℕ) → n * (b / l) ≤ b
symbols_fit rate h {l} {n} e f b = rw (e, f) (symbols_most rate h b)

-- a bit of the lead is as the first one behind it
pub symbol_before : (rate first bit : ℕ) → rate < 5 → bit < bits_of_lead rate → first ≡ symbol_at rate first bit
unfolding symbol_at
symbol_before rate first bit h b =
    let z : bit - bits_of_lead rate ≡ 0 = omega (arith, b) in
    let m : symbols_per_pattern rate * ((bit - bits_of_lead rate) / pattern_length rate) ≤ bit - bits_of_lead rate = symbols_most rate h (bit - bits_of_lead rate) in
    omega (arith, z, m)

-- the parts of a block that was found
pub found_is : (rate turn first used : ℕ) (d : SyncStep) {g : GivenBlock} {t a b : ℕ} → d.block ≡ Some g → t ≡ turn_told turn d.sync.lock.inverted → a ≡ symbol_at rate first (used + d.skipped)
    → b ≡ symbol_at rate first (used + d.skipped + 1632)
    → Some (record { begins = g.begins; rate = rate; turn = t; start = a; end = b; bytes = g.bytes }) ≡ block_found rate turn first used d
found_is rate turn first used d q e f g = rw (q, e, f, g) refl
