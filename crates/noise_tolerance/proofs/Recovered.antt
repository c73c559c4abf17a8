-- A stream with harm in it recovers: by hard and by soft decisions, with symbols struck or lost.
-- Assumes nothing.
use mathlib.Core.Path.{◌≡◌, refl, sym, ◌∙◌, ap, subst}
use mathlib.Core.Bool.{Bool, true, false}
use mathlib.Core.List.{List, ◌++◌, map}
use mathlib.Core.Logic.{◌⊎◌, inl, inr}
use Prim.Native.Nat.{ℕ, suc, ◌+◌, ◌*◌, ◌/◌, ◌%◌, ◌≤◌, ◌<◌}
use native.Mathlib.Decide.{dec_lt}
use native.Mathlib.Omega.{arith}
use lib.ListN.{length, get_or, take, get_or-eq_default}
use Rattle.common.specs.Choice.{pick}
use Rattle.common.proofs.Lists.{get_d_map_in}
use Rattle.convolutional_code.specs.Bits.{Bits}
use Rattle.viterbi_decoder.specs.Best.{Best}
use Rattle.puncturing.specs.Mode.{qpsk_count}
use Rattle.puncturing.specs.Step.{pattern_length}
use Rattle.inner_code.specs.Step.{symbols_of}
use Rattle.inner_code.specs.Encode.{coder_at}
use Rattle.branch_metrics.specs.Cost.{softly, ReceivedSymbol}
use Rattle.reader.specs.Cost.{differing, run_cost, soft_cost}
use Rattle.reader.specs.Read.{symbols_per_pattern, run_bits}
use Rattle.reader.proofs.Patterns.{some_symbols}
use Rattle.reader_stream.specs.Runs.{run_patterns, ReadToEnd}
use Rattle.noise_tolerance.specs.Noise.{SparseSymbols, soft_doubt}
use Rattle.noise_tolerance.specs.Table.{hard_limits, soft_limits}
use Rattle.noise_tolerance.specs.Harm.{SymbolCame, fine, struck, is_struck, cost_of, doubt_of, was_lost, doubt_unlost, HarmedAt, Gathered, Spoils, harm_at, harm_window, harm_distance, BesideHarm, NearHarm, HarmedRun, RunRecovered, HarmedStream, Recovered}
use Rattle.noise_tolerance.proofs.Received.{hard_doubt}
use Rattle.noise_tolerance.proofs.Noise.{twice_sparse, hard_twice}
use Rattle.noise_tolerance.proofs.HarmedRuns.{Harmable, clean_within, hit_within, run_astray}
use Rattle.noise_tolerance.proofs.Recovery.{Astray, near, last}
use Rattle.noise_tolerance.proofs.Hull.{spanned, Hull, clean, hit, hull}
use Rattle.noise_tolerance.proofs.HarmKinds.{hard_struck_kind, soft_struck_kind, lost_kind}
use Rattle.noise_tolerance.proofs.HarmNumbers.{HarmFits, hard_struck_fits, soft_struck_fits, lost_fits}
use Rattle.noise_tolerance.proofs.HarmedStream.{Beside, decided_size, decided_within, decided_rest, decided_wrong}

-- ---- a harmed place, by the list of marks and by the symbol there

module _ {R : Type 0} {cost doubt : R → ℕ → ℕ} {harmed : R → Bool} {u charged : ℕ} (kind : Harmable cost doubt harmed u charged) (points : List R) where
  harmed_marked : (i : ℕ) → harmed (get_or points i kind.some) ≡ true → HarmedAt harmed points i
  harmed_marked i e = by (dec_lt i (length points))
    where
      by : Dec (i < length points) → HarmedAt harmed points i
      by (yes l) = get_d_map_in harmed points kind.some false i l ∙ e
      by (no l) =
          let z : harmed (get_or points i kind.some) ≡ false = ap harmed (get_or-eq_default points kind.some (omega arith)) ∙ kind.some_unharmed in
          absurd (let o : ◌≡◌ {A = ℕ} 1 0 = ap (λ (t : Bool). pick t 1 0) (sym e ∙ z) in omega arith)

  in_patterns : {rate t depth : ℕ} {l : Spoils} (f : HarmFits rate u charged t depth l) (ss : List ℕ) → SparseSymbols harm_window t (map doubt points) ss
      → SparseSymbols (symbols_per_pattern rate * f.patterns) (u * f.units) (map doubt points) ss
  in_patterns {rate} {t} f ss h =
      subst (λ (k : ℕ). SparseSymbols (symbols_per_pattern rate * f.patterns) k (map doubt points) ss) (sym f.units_are)
      (subst (λ (k : ℕ). SparseSymbols k t (map doubt points) ss) (sym f.window_is) h)

-- ---- a run

module _ {R : Type 0} {cost doubt : R → ℕ → ℕ} {harmed : R → Bool} {u charged : ℕ} (kind : Harmable cost doubt harmed u charged) (rate m : ℕ) (hr : rate < qpsk_count) (hm : m < 64) {t depth : ℕ} {l : Spoils}
    (f : HarmFits rate u charged t depth l) (bits : List ℕ) (points : List R) (w : Bits bits) (whole : length bits % pattern_length rate ≡ 0)
    (size : length points ≡ length (symbols_of (coder_at rate m) bits)) (doubted : SparseSymbols harm_window t (map doubt points) (symbols_of (coder_at rate m) bits))
    (gathered : Gathered harmed (length points) l.longest points)
    {best : List ℕ} (b : Best (run_cost (map cost points) rate m) (run_bits rate (length points)) best) where
  abbrev ss : List ℕ
  ss = symbols_of (coder_at rate m) bits

  some_S : 0 < symbols_per_pattern rate
  some_S = some_symbols rate hr

  best_sent : Best (run_cost (map cost points) rate m) (run_bits rate (length ss)) best
  best_sent = subst (λ (k : ℕ). Best (run_cost (map cost points) rate m) (run_bits rate k) best) size b

  run_recovered : RunRecovered harmed l rate depth bits points best
  run_recovered = record { wrong = λ i h d. by i h d (hull harmed kind.some points) }
    where
      none : (i : ℕ) → Astray (pattern_length rate * 0) (pattern_length rate * 0) l.ahead depth (length bits) i
          → (BesideHarm harmed rate l.ahead l.ahead points i) ⊎ (length bits ≤ i + depth)
      none i (near z x y) = absurd (omega arith)
      none i (last x) = inr x

      told : (i f g : ℕ) → harmed (get_or points f kind.some) ≡ true → harmed (get_or points g kind.some) ≡ true
          → Astray (pattern_length rate * (f / symbols_per_pattern rate)) (pattern_length rate * suc (g / symbols_per_pattern rate)) l.ahead depth (length bits) i
          → (BesideHarm harmed rate l.ahead l.ahead points i) ⊎ (length bits ≤ i + depth)
      told i f g a c (near z x y) = inl (record {
        earliest = f;
        latest = g;
        earliest_harmed = harmed_marked kind points f a;
        latest_harmed = harmed_marked kind points g c;
        not_late = x;
        not_early = y;
      })
      told i f g a c (last x) = inr x

      close : (x y : ℕ) → x ≤ y → y < length points → harmed (get_or points x kind.some) ≡ true → harmed (get_or points y kind.some) ≡ true → y < x + l.longest
      close x y o q a c = gathered x y o (omega arith) (harmed_marked kind points x a) (harmed_marked kind points y c)

      by : (i : ℕ) → i < length bits → (get_or bits i 0 ≡ get_or best i 0 → ⊥) → Hull harmed kind.some points
          → (BesideHarm harmed rate l.ahead l.ahead points i) ⊎ (length bits ≤ i + depth)
      by i h d (clean g) =
          none i (run_astray kind rate hr f.recoverable f.patterns f.covers m m hm hm points bits w whole ss refl size (in_patterns kind points f ss doubted)
          0 0 0 0 (omega arith) (omega arith) (clean_within harmed kind.some rate points g) best_sent refl i h d)
      by i h d (hit x y o q a c g) =
          let S = symbols_per_pattern rate in
          told i x y a c
          (run_astray kind rate hr f.recoverable f.patterns f.covers m m hm hm points bits w whole ss refl size (in_patterns kind points f ss doubted)
          (x / S) (suc (y / S)) x (suc y) (spanned S x y some_S o l.longest f.span (close x y o q a c) f.spans) (close x y o q a c)
          (hit_within harmed kind.some rate some_S points x y o g) best_sent refl i h d)

-- ---- a stream

module _ {R : Type 0} {cost doubt : R → ℕ → ℕ} {harmed : R → Bool} {u charged : ℕ} (kind : Harmable cost doubt harmed u charged) (rate : ℕ) (hr : rate < qpsk_count) {t depth : ℕ} {l : Spoils}
    (f : HarmFits rate u charged t depth l) (bits : List ℕ) (points : List R) (came unread : List ℕ) (w : Bits bits) (coded : came ++ unread ≡ symbols_of (coder_at rate 0) bits)
    (size : length points ≡ length came) (doubted : SparseSymbols harm_window t (map doubt points) came) (gathered : Gathered harmed (harm_distance rate) l.longest points) where
  rain : (i j : ℕ) → i ≤ j → j ≤ i + harm_distance rate → j < length points → harmed (get_or points i kind.some) ≡ true → harmed (get_or points j kind.some) ≡ true → j < i + l.longest
  rain i j o d m a b = gathered i j o d (harmed_marked kind points i a) (harmed_marked kind points j b)

  sparse : SparseSymbols (symbols_per_pattern rate * f.patterns) (u * f.units) (map doubt points) came
  sparse = in_patterns kind points f came doubted

  module _ {out : List ℕ} {rest : ℕ} (r : ReadToEnd cost rate points out rest) where
    abbrev all : List ℕ
    all = r.decided ++ take r.count r.exit

    pub recovered : Recovered harmed l rate depth bits points out rest
    recovered =
        let n = f.recoverable in
        let z = decided_size kind rate hr l.longest n f.patterns f.covers (harm_distance rate) f.spans f.distant f.overlap f.room
        bits w points came unread size sparse coded rain r.runs r.end in
        let astray = decided_wrong kind rate hr l.longest n f.patterns f.covers (harm_distance rate) f.spans f.distant f.overlap f.room
        bits w points came unread size sparse coded rain r.runs r.end in
        subst (λ (x : List ℕ). Recovered harmed l rate depth bits points x rest) (sym r.bits_are)
        (record {
          size = z;
          within = subst (λ (k : ℕ). k ≤ length bits) (sym z)
              (decided_within kind rate hr l.longest n f.patterns f.covers (harm_distance rate) f.spans f.distant f.overlap f.room
              bits w points came unread size sparse coded rain r.runs r.end);
          behind =
              decided_rest kind rate hr l.longest n f.patterns f.covers (harm_distance rate) f.spans f.distant f.overlap f.room
              bits w points came unread size sparse coded rain r.runs r.end;
          wrong = λ i m e. told i z (astray i (subst (λ (k : ℕ). i < k) z m) e);
        })
      where
        told : (i : ℕ) → length all ≡ run_bits rate (length points)
            → (Beside (pattern_length rate) (symbols_per_pattern rate) l.ahead (l.ahead + 6 + f.opening) (pattern_length rate * run_patterns rate) (λ x. harmed (get_or points x kind.some) ≡ true) i)
            ⊎ (run_bits rate (length points) ≤ i + depth)
            → (NearHarm harmed rate l points i) ⊎ (length all ≤ i + depth)
        told i z (inr x) = inr (omega (arith, z))
        told i z (inl x) =
            inl (record {
              beside =
                  record {
                    earliest = x.earliest;
                    latest = x.latest;
                    earliest_harmed = harmed_marked kind points x.earliest x.earliest_harmed;
                    latest_harmed = harmed_marked kind points x.latest x.latest_harmed;
                    not_late = x.not_late;
                    not_early = omega (arith, x.not_early, f.behind_is);
                  };
              not_far = omega (arith, x.not_far, f.runs);
              not_beyond = omega (arith, x.not_beyond, f.runs);
            })

-- ---- struck, by hard decisions

twice_struck : (r : SymbolCame ℕ) (s : ℕ) → doubt_of hard_doubt r s ≡ 2 * doubt_of differing r s
twice_struck (fine r) s = hard_twice r s
twice_struck (struck r) s = refl

-- Runs, by what they are read as: the same of each kind of harm.
pub hard_run_recovered : {rate m : ℕ} {bits : List ℕ} {points : List (SymbolCame ℕ)} → HarmedRun (doubt_of differing) is_struck (harm_at rate).hard_struck rate m bits points
    → {best : List ℕ} → Best (run_cost (map (cost_of differing) points) rate m) (run_bits rate (length points)) best
    → RunRecovered is_struck (harm_at rate).hard_struck rate (hard_limits rate).unsure bits points best
hard_run_recovered {rate} {m} {bits} {points} h b =
    run_recovered hard_struck_kind rate m h.known h.in_range_lem (hard_struck_fits rate h.known) bits points h.binary h.whole h.as_long
    (twice_sparse (doubt_of hard_doubt) (doubt_of differing) twice_struck harm_window (harm_at rate).hard_struck.elsewhere points (symbols_of (coder_at rate m) bits) h.sparse) h.gathered b

pub soft_run_recovered : {rate m : ℕ} {bits : List ℕ} {points : List (SymbolCame ReceivedSymbol)} → HarmedRun (doubt_of soft_doubt) is_struck (harm_at rate).soft_struck rate m bits points
    → {best : List ℕ} → Best (run_cost (map (cost_of softly) points) rate m) (run_bits rate (length points)) best
    → RunRecovered is_struck (harm_at rate).soft_struck rate (soft_limits rate).unsure bits points best
soft_run_recovered {rate} {m} {bits} {points} h b =
    run_recovered soft_struck_kind rate m h.known h.in_range_lem (soft_struck_fits rate h.known) bits points h.binary h.whole h.as_long h.sparse h.gathered b

pub lost_run_recovered : {rate m : ℕ} {bits : List ℕ} {points : List ReceivedSymbol} → HarmedRun doubt_unlost was_lost (harm_at rate).soft_lost rate m bits points
    → {best : List ℕ} → Best (soft_cost points rate m) (run_bits rate (length points)) best
    → RunRecovered was_lost (harm_at rate).soft_lost rate (soft_limits rate).unsure bits points best
lost_run_recovered {rate} {m} {bits} {points} h b =
    run_recovered lost_kind rate m h.known h.in_range_lem (lost_fits rate h.known) bits points h.binary h.whole h.as_long h.sparse h.gathered b

-- Symbols struck in a stream, by hard decisions: where what is not struck has at most 4, 2, 2, 1 or 1 wrong I and Q bits in any 900 symbols, and those struck lie
-- within 31, 12, 7, 3 or 1 symbols wherever they are not far apart, every wrong bit is near these or one of the last.
pub hard_recovered : {rate : ℕ} {bits : List ℕ} {points : List (SymbolCame ℕ)} {came unread : List ℕ}
    → HarmedStream (doubt_of differing) is_struck (harm_at rate).hard_struck rate bits points came unread
    → {out : List ℕ} {rest : ℕ} → ReadToEnd (cost_of differing) rate points out rest
    → Recovered is_struck (harm_at rate).hard_struck rate (hard_limits rate).unsure bits points out rest
hard_recovered {rate} {bits} {points} {came} {unread} h r =
    recovered hard_struck_kind rate r.known (hard_struck_fits rate r.known) bits points came unread h.binary h.coded h.as_long
    (twice_sparse (doubt_of hard_doubt) (doubt_of differing) twice_struck harm_window (harm_at rate).hard_struck.elsewhere points came h.sparse) h.gathered r

-- The same by soft decisions, with a doubt of at most 63, 35, 28, 21 or 14 elsewhere, and harm within 30, 12, 7, 2 or 1 symbols.
pub soft_recovered : {rate : ℕ} {bits : List ℕ} {points : List (SymbolCame ReceivedSymbol)} {came unread : List ℕ}
    → HarmedStream (doubt_of soft_doubt) is_struck (harm_at rate).soft_struck rate bits points came unread
    → {out : List ℕ} {rest : ℕ} → ReadToEnd (cost_of softly) rate points out rest
    → Recovered is_struck (harm_at rate).soft_struck rate (soft_limits rate).unsure bits points out rest
soft_recovered {rate} {bits} {points} {came} {unread} h r =
    recovered soft_struck_kind rate r.known (soft_struck_fits rate r.known) bits points came unread h.binary h.coded h.as_long h.sparse h.gathered r

-- Symbols lost, by soft decisions: with a doubt of at most 63, 35, 28, 21 or 14 elsewhere, an outage of up to 625, 424, 339, 223 or 185 symbols.
pub lost_recovered : {rate : ℕ} {bits : List ℕ} {points : List ReceivedSymbol} {came unread : List ℕ}
    → HarmedStream doubt_unlost was_lost (harm_at rate).soft_lost rate bits points came unread
    → {out : List ℕ} {rest : ℕ} → ReadToEnd softly rate points out rest
    → Recovered was_lost (harm_at rate).soft_lost rate (soft_limits rate).unsure bits points out rest
lost_recovered {rate} {bits} {points} {came} {unread} h r =
    recovered lost_kind rate r.known (lost_fits rate r.known) bits points came unread h.binary h.coded h.as_long h.sparse h.gathered r
