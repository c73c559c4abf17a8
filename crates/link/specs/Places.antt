-- Where the 204 bytes that a block is made of lie among the bytes received.
-- Clauses: EN 300 421, 4.4.2; document 02, P9.
-- Assumes nothing.
use Rattle.std.specs.Prelude.{◌≡◌, Bool, false, ◌⊎◌, ℕ, zero, suc, ◌+◌, ◌*◌, ◌/◌, ◌%◌, ◌≤◌, ◌<◌, ltb}
use Rattle.common.specs.Choice.{pick}
use Rattle.interleaver.specs.Gathered.{place_in}

-- the longest burst that is corrected, in bytes
abbrev pub burst_length : ℕ
burst_length = 96

-- the consecutive received bytes among which those of one block lie: twelve blocks of 204
abbrev pub span : ℕ
span = 2448

-- how many numbers below n pass a test
abbrev pub how_many : (ℕ → Bool) → ℕ → ℕ
how_many w zero = 0
how_many w (suc n) = how_many w n + pick (w n) 1 0

-- byte i is one of the `many` consecutive bytes from byte `start` on
abbrev pub inside : ℕ → ℕ → ℕ → Bool
inside start many i = pick (ltb i start) false (ltb i (start + many))

-- the place in its block of the byte that arrives after k others of it
abbrev pub arriving : ℕ → ℕ
arriving k = 12 * (k % 17) + k / 17

-- the 204 bytes of block p
pub record Spread (p : ℕ) : Type 0 where
  -- in the order in which they arrive
  pub ordered : (k : ℕ) → k < 204 → place_in p (arriving k) ≡ 204 * p + 12 * k + k / 17
  -- all lie within the span, which their first begins and their last ends
  pub within : (n : ℕ) → n < 204 → (204 * p ≤ place_in p n) × (place_in p n < 204 * p + span)
  pub begins : place_in p (arriving 0) ≡ 204 * p
  pub ends : place_in p (arriving 203) + 1 ≡ 204 * p + span
  -- any two are at least twelve received bytes apart
  pub apart : (n k : ℕ) → n < 204 → k < 204 → (n ≡ k → ⊥) → (place_in p n + 12 ≤ place_in p k) ⊎ (place_in p k + 12 ≤ place_in p n)
  -- so a burst holds at most eight of them
  pub eight : (start : ℕ) → how_many (λ n. inside start burst_length (place_in p n)) 204 ≤ 8
