-- The numbers of the table are such as the proofs ask for: one test, computed for every rate, of hard and of soft decisions.
-- Assumes nothing.
use mathlib.Core.Path.{◌≡◌}
use mathlib.Core.Bool.{Bool, true}
use mathlib.Core.List.{List, [], ◌∷◌}
use Prim.Native.Nat.{ℕ, zero, suc, ◌+◌, ◌-◌, ◌*◌, ◌/◌, ◌≤◌, ◌<◌}
use Prim.{tt}
use lib.Dec.{T, leb, leb→le, ltb, ltb→lt, eqb, eqb→eq}
use lib.ListN.{get_or}
use Rattle.common.proofs.Computed.{both, both_left, both_right, below_at}
use Rattle.puncturing.specs.Mode.{mode_of, qpsk_count}
use Rattle.puncturing.specs.Step.{pattern_length}
use Rattle.reader.specs.Read.{symbols_per_pattern, run_bits}
use Rattle.reader_stream.specs.Runs.{kept_patterns, run_patterns, full_symbols, kept_bits}
use Rattle.noise_tolerance.specs.Table.{Limits, table, at_rate, hard_limits, soft_limits}
use Rattle.noise_tolerance.proofs.Tables.{free, slope, rise, lead, lag}
use Rattle.noise_tolerance.proofs.Runs.{Tolerable}

-- all tests of a list pass, and so each
abbrev pub all_pass : List Bool → Bool
all_pass [] = true
all_pass (t ∷ l) = both t (all_pass l)

pub pass : (l : List Bool) → T (all_pass l) → (i : ℕ) → T (get_or l i true)
pass [] h i = tt
pass (t ∷ l) h zero = both_left t (all_pass l) h
pass (t ∷ l) h (suc i) = pass l (both_right t (all_pass l) h) i

-- Limits that fit a rate, where a coded bit counts u: the doubt in units of u, the window and the quiet end in patterns, and a window of steps that the one
-- of patterns covers wherever it begins. The runs of a stream overlap by more bits than are unsure.
pub record Fits (rate u doubt : ℕ) (l : Limits) : Type 0 where
  pub units : ℕ
  pub units_are : u * units ≡ doubt
  pub patterns : ℕ
  pub window_is : symbols_per_pattern rate * patterns ≡ l.window
  pub steps : ℕ
  pub tolerable : Tolerable rate steps units l.unsure
  pub covers : steps + pattern_length rate ≤ pattern_length rate * patterns + 1
  pub overlap : kept_bits rate + l.unsure ≤ run_bits rate (full_symbols rate)
  pub tail : ℕ
  pub tail_is : symbols_per_pattern rate * tail ≡ l.quiet
  pub tail_stream : symbols_per_pattern rate * suc tail ≡ l.quiet_stream
  pub tail_covers : l.unsure ≤ pattern_length rate * tail

module _ (r u doubt : ℕ) (l : Limits) where
  abbrev units : ℕ
  units = doubt / u

  abbrev patterns : ℕ
  patterns = l.window / symbols_per_pattern r

  abbrev steps : ℕ
  steps = pattern_length r * patterns + 1 - pattern_length r

  abbrev tail : ℕ
  tail = l.quiet / symbols_per_pattern r

  abbrev tests : List Bool
  tests =
      eqb (u * units) doubt
      ∷ eqb (symbols_per_pattern r * patterns) l.window
      ∷ ltb 0 steps
      ∷ ltb units (free r)
      ∷ ltb (slope r * units + lag r) (rise r * suc l.unsure + lead r)
      ∷ leb (slope r * units) (rise r * steps)
      ∷ leb (2 * (slope r * units) + lag r) (rise r * steps + lead r)
      ∷ leb (steps + pattern_length r) (pattern_length r * patterns + 1)
      ∷ leb (kept_bits r + l.unsure) (run_bits r (full_symbols r))
      ∷ eqb (symbols_per_pattern r * tail) l.quiet
      ∷ eqb (symbols_per_pattern r * suc tail) l.quiet_stream
      ∷ leb l.unsure (pattern_length r * tail)
      ∷ []

  unfoldable fit : Bool
  fit = all_pass tests

  fitting : T fit → Fits r u doubt l
  unfolding fit
  fitting h = record {
    units = units;
    units_are = eqb→eq _ _ (pass tests h 0);
    patterns = patterns;
    window_is = eqb→eq _ _ (pass tests h 1);
    steps = steps;
    tolerable =
        record {
          some = ltb→lt _ _ (pass tests h 2);
          below_free = ltb→lt _ _ (pass tests h 3);
          deep = ltb→lt _ _ (pass tests h 4);
          steady = leb→le _ _ (pass tests h 5);
          wide = leb→le _ _ (pass tests h 6);
        };
    covers = leb→le _ _ (pass tests h 7);
    overlap = leb→le _ _ (pass tests h 8);
    tail = tail;
    tail_is = eqb→eq _ _ (pass tests h 9);
    tail_stream = eqb→eq _ _ (pass tests h 10);
    tail_covers = leb→le _ _ (pass tests h 11);
  }

-- a wrong bit is doubted twice
pub hard_fits : (rate : ℕ) → rate < qpsk_count → Fits rate 1 (2 * (hard_limits rate).tolerated) (hard_limits rate)
unfolding fit table at_rate free slope rise lead lag mode_of kept_bits kept_patterns full_symbols run_patterns symbols_per_pattern
hard_fits rate h =
    fitting rate 1 (2 * (hard_limits rate).tolerated) (hard_limits rate) (below_at (λ r. fit r 1 (2 * (hard_limits r).tolerated) (hard_limits r)) qpsk_count tt rate h)

-- the levels of a coded bit are 7 apart
pub soft_fits : (rate : ℕ) → rate < qpsk_count → Fits rate 7 (soft_limits rate).tolerated (soft_limits rate)
unfolding fit table at_rate free slope rise lead lag mode_of kept_bits kept_patterns full_symbols run_patterns symbols_per_pattern
soft_fits rate h = fitting rate 7 (soft_limits rate).tolerated (soft_limits rate) (below_at (λ r. fit r 7 (soft_limits r).tolerated (soft_limits r)) qpsk_count tt rate h)
