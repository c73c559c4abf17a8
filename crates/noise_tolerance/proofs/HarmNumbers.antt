-- The numbers of the table of harm are such as the proofs ask for: one test for each kind of harm, computed for every rate.
-- Assumes nothing.
use mathlib.Core.Path.{◌≡◌}
use mathlib.Core.Bool.{Bool}
use mathlib.Core.List.{List, [], ◌∷◌}
use Prim.Native.Nat.{ℕ, suc, ◌+◌, ◌-◌, ◌*◌, ◌/◌, ◌≤◌, ◌<◌}
use Prim.{tt}
use lib.Dec.{T, leb, leb→le, ltb, ltb→lt, eqb, eqb→eq}
use Rattle.common.proofs.Computed.{below_at}
use Rattle.puncturing.specs.Mode.{mode_of, qpsk_count}
use Rattle.puncturing.specs.Step.{pattern_length}
use Rattle.reader.specs.Read.{symbols_per_pattern, run_bits}
use Rattle.reader_stream.specs.Runs.{kept_patterns, run_patterns, full_symbols, kept_bits}
use Rattle.noise_tolerance.specs.Table.{table, at_rate, hard_limits, soft_limits}
use Rattle.noise_tolerance.specs.Harm.{Spoils, harm_table, harm_at, harm_window, harm_distance}
use Rattle.noise_tolerance.proofs.Tables.{free, slope, rise, lead, lag, top, homing}
use Rattle.noise_tolerance.proofs.Numbers.{all_pass, pass}
use Rattle.noise_tolerance.proofs.Harm.{Recoverable}

-- Limits of a kind of harm that fit a rate, where a coded bit counts u and a harmed one is charged or not: the doubt in units of u, the window in patterns and
-- in steps, the harm in patterns, and how many bits it takes to recover from another memory.
pub record HarmFits (rate u charged doubt depth : ℕ) (l : Spoils) : Type 0 where
  pub units : ℕ
  pub units_are : u * units ≡ doubt
  pub patterns : ℕ
  pub window_is : symbols_per_pattern rate * patterns ≡ harm_window
  pub steps : ℕ
  pub covers : steps + pattern_length rate ≤ pattern_length rate * patterns + 1
  pub span : ℕ
  pub spans : l.longest + symbols_per_pattern rate ≤ symbols_per_pattern rate * span + 1
  pub opening : ℕ
  pub behind_is : l.ahead + 6 + opening ≡ l.behind
  pub recoverable : Recoverable rate steps units depth charged l.longest span l.ahead opening
  pub overlap : kept_bits rate + depth ≤ run_bits rate (full_symbols rate)
  pub room : opening + (pattern_length rate * span + opening) + 6 ≤ kept_bits rate
  pub distant : full_symbols rate ≤ harm_distance rate
  pub runs : pattern_length rate * run_patterns rate ≤ 1632

module _ (r u charged doubt depth : ℕ) (l : Spoils) where
  abbrev P : ℕ
  P = pattern_length r

  abbrev S : ℕ
  S = symbols_per_pattern r

  abbrev units : ℕ
  units = doubt / u

  abbrev patterns : ℕ
  patterns = harm_window / S

  abbrev steps : ℕ
  steps = P * patterns + 1 - P

  abbrev span : ℕ
  span = (l.longest + 2 * S - 2) / S

  abbrev opening : ℕ
  opening = l.behind - l.ahead - 6

  abbrev charge : ℕ
  charge = charged * (2 * l.longest)

  abbrev tests : List Bool
  tests =
      eqb (u * units) doubt
      ∷ eqb (S * patterns) harm_window
      ∷ leb (steps + P) (P * patterns + 1)
      ∷ leb (l.longest + S) (S * span + 1)
      ∷ eqb (l.ahead + 6 + opening) l.behind
      ∷ ltb 0 steps
      ∷ ltb units (free r)
      ∷ ltb (slope r * units + lag r) (rise r * suc depth + lead r)
      ∷ leb (slope r * units) (rise r * steps)
      ∷ leb (2 * (slope r * units) + lag r) (rise r * steps + lead r)
      ∷ leb (8 * (slope r * units)) (rise r * steps)
      ∷ ltb (8 * (rise r * (P * span) + (slope r * (units + charge) + (lag r + top r)))) (7 * (rise r * steps))
      ∷ ltb (slope r * (units + charge) + (lag r + top r)) (rise r * suc l.ahead)
      ∷ ltb (8 * (rise r * (P * span) + (slope r * (units + charge) + (homing r + top r)))) (7 * (rise r * steps))
      ∷ ltb (slope r * (units + charge) + (homing r + top r)) (rise r * suc opening)
      ∷ leb (kept_bits r + depth) (run_bits r (full_symbols r))
      ∷ leb (opening + (P * span + opening) + 6) (kept_bits r)
      ∷ leb (full_symbols r) (harm_distance r)
      ∷ leb (P * run_patterns r) 1632
      ∷ []

  unfoldable fit : Bool
  fit = all_pass tests

  fitting : T fit → HarmFits r u charged doubt depth l
  unfolding fit
  fitting h = record {
    units = units;
    units_are = eqb→eq _ _ (pass tests h 0);
    patterns = patterns;
    window_is = eqb→eq _ _ (pass tests h 1);
    steps = steps;
    covers = leb→le _ _ (pass tests h 2);
    span = span;
    spans = leb→le _ _ (pass tests h 3);
    opening = opening;
    behind_is = eqb→eq _ _ (pass tests h 4);
    recoverable =
        record {
          tolerable =
              record {
                some = ltb→lt _ _ (pass tests h 5);
                below_free = ltb→lt _ _ (pass tests h 6);
                deep = ltb→lt _ _ (pass tests h 7);
                steady = leb→le _ _ (pass tests h 8);
                wide = leb→le _ _ (pass tests h 9);
              };
          steadier = leb→le _ _ (pass tests h 10);
          wider = ltb→lt _ _ (pass tests h 11);
          far = ltb→lt _ _ (pass tests h 12);
          wider_open = ltb→lt _ _ (pass tests h 13);
          far_open = ltb→lt _ _ (pass tests h 14);
        };
    overlap = leb→le _ _ (pass tests h 15);
    room = leb→le _ _ (pass tests h 16);
    distant = leb→le _ _ (pass tests h 17);
    runs = leb→le _ _ (pass tests h 18);
  }

pub hard_struck_fits : (rate : ℕ) → rate < qpsk_count → HarmFits rate 1 1 (2 * (harm_at rate).hard_struck.elsewhere) (hard_limits rate).unsure (harm_at rate).hard_struck
unfolding fit table at_rate harm_table harm_at free slope rise lead lag top homing mode_of kept_bits kept_patterns full_symbols run_patterns symbols_per_pattern
hard_struck_fits rate h =
    fitting rate 1 1 (2 * (harm_at rate).hard_struck.elsewhere) (hard_limits rate).unsure (harm_at rate).hard_struck
    (below_at (λ r. fit r 1 1 (2 * (harm_at r).hard_struck.elsewhere) (hard_limits r).unsure (harm_at r).hard_struck) qpsk_count tt rate h)

pub soft_struck_fits : (rate : ℕ) → rate < qpsk_count → HarmFits rate 7 1 (harm_at rate).soft_struck.elsewhere (soft_limits rate).unsure (harm_at rate).soft_struck
unfolding fit table at_rate harm_table harm_at free slope rise lead lag top homing mode_of kept_bits kept_patterns full_symbols run_patterns symbols_per_pattern
soft_struck_fits rate h =
    fitting rate 7 1 (harm_at rate).soft_struck.elsewhere (soft_limits rate).unsure (harm_at rate).soft_struck
    (below_at (λ r. fit r 7 1 (harm_at r).soft_struck.elsewhere (soft_limits r).unsure (harm_at r).soft_struck) qpsk_count tt rate h)

pub lost_fits : (rate : ℕ) → rate < qpsk_count → HarmFits rate 7 0 (harm_at rate).soft_lost.elsewhere (soft_limits rate).unsure (harm_at rate).soft_lost
unfolding fit table at_rate harm_table harm_at free slope rise lead lag top homing mode_of kept_bits kept_patterns full_symbols run_patterns symbols_per_pattern
lost_fits rate h =
    fitting rate 7 0 (harm_at rate).soft_lost.elsewhere (soft_limits rate).unsure (harm_at rate).soft_lost
    (below_at (λ r. fit r 7 0 (harm_at r).soft_lost.elsewhere (soft_limits r).unsure (harm_at r).soft_lost) qpsk_count tt rate h)
