-- What noise a reader of symbols survives: a run, and a stream in any pieces, by hard and by soft decisions.
-- Assumes nothing.
use mathlib.Core.Path.{◌≡◌, refl, sym, ◌∙◌, ap, subst}
use mathlib.Core.Bool.{true}
use mathlib.Core.List.{List, [], ◌∷◌, ◌++◌, map}
use Prim.Native.Nat.{ℕ, suc, ◌-◌, ◌*◌, ◌%◌, ◌<◌, ◌≤◌}
use native.Mathlib.Omega.{arith}
use lib.Ieee.{Float}
use lib.ListN.{length, take, drop}
use lib.Seq.{take-take, take_at}
use Rattle.common.specs.Lists.{All}
use Rattle.inner_code.specs.Step.{symbols_of}
use Rattle.inner_code.specs.Encode.{coder_at}
use Rattle.viterbi_decoder.specs.Best.{Best}
use Rattle.branch_metrics.specs.Cost.{softly, received_of, ReceivedSymbol}
use Rattle.reader.specs.Cost.{differing, total_cost, run_cost, hard_cost, soft_cost}
use Rattle.reader.specs.Read.{symbols_per_pattern, run_bits, length_of_run, sound, read_number, soft_number, BestRead, AnswersRun, refused, read, ReadsHard, ReadsSoft}
use Rattle.reader.proofs.Patterns.{sent_whole}
use Rattle.branch_metrics.proofs.Runs.{length_received}
use Rattle.reader.proofs.SoftDecisions.{sound_lists}
use Rattle.reader.proofs.Outcome.{passes}
use Rattle.reader.proofs.Laws.{all_valid}
use Rattle.reader_stream.specs.Runs.{ReadToEnd}
use Rattle.reader_stream.proofs.Costs.{map-take, map-drop}
use Rattle.reader_stream.proofs.Unharmed.{WholeStream}
use Rattle.noise_tolerance.specs.Noise.{SparseSymbols, QuietEnd, soft_doubt, NoisyRun, NoisyStream, StreamBack}
use Rattle.noise_tolerance.specs.Table.{Limits, hard_limits, soft_limits}
use Rattle.noise_tolerance.proofs.Numbers.{Fits, hard_fits, soft_fits}
use Rattle.noise_tolerance.proofs.Received.{kind_agrees, kind_agrees_whole, hard_doubt, hard_kind, soft_kind}
use Rattle.noise_tolerance.proofs.Ends.{stream_back, stream_whole}

-- ---- limits that fit, in patterns

module _ {R : Type 0} (doubt : R → ℕ → ℕ) {rate u t : ℕ} {l : Limits} (f : Fits rate u t l) (rs : List R) (ss : List ℕ) where
  in_patterns : SparseSymbols l.window t (map doubt rs) ss → SparseSymbols (symbols_per_pattern rate * f.patterns) (u * f.units) (map doubt rs) ss
  in_patterns h =
      subst (λ (k : ℕ). SparseSymbols (symbols_per_pattern rate * f.patterns) k (map doubt rs) ss) (sym f.units_are)
      (subst (λ (k : ℕ). SparseSymbols k t (map doubt rs) ss) (sym f.window_is) h)

  quiet_patterns : QuietEnd l.quiet (map doubt rs) ss → QuietEnd (symbols_per_pattern rate * f.tail) (map doubt rs) ss
  quiet_patterns = subst (λ (k : ℕ). QuietEnd k (map doubt rs) ss) (sym f.tail_is)

  quiet_stream : QuietEnd l.quiet_stream (map doubt rs) ss → QuietEnd (symbols_per_pattern rate * suc f.tail) (map doubt rs) ss
  quiet_stream = subst (λ (k : ℕ). QuietEnd k (map doubt rs) ss) (sym f.tail_stream)

-- the best sequence for as many symbols as were sent
best_sent : {R : Type 0} (cost : R → ℕ → ℕ) (rate m : ℕ) (rs : List R) {n : ℕ} {best : List ℕ} → length rs ≡ n → Best (run_cost (map cost rs) rate m) (run_bits rate (length rs)) best
    → Best (run_cost (map cost rs) rate m) (run_bits rate n) best
best_sent cost rate m rs {best = best} e = subst (λ (k : ℕ). Best (run_cost (map cost rs) rate m) (run_bits rate k) best) e

-- ---- hard decisions

-- a doubt that is twice another
module _ {R : Type 0} (f g : R → ℕ → ℕ) (e : (r : R) (s : ℕ) → f r s ≡ 2 * g r s) where
  pub twice : (cs : List R) (ss : List ℕ) → total_cost (map f cs) ss ≡ 2 * total_cost (map g cs) ss
  unfolding total_cost
  twice [] ss = refl
  twice (c ∷ cs) [] = refl
  twice (c ∷ cs) (s ∷ ss) = omega (arith, e c s, twice cs ss)

  pub twice_sparse : (n t : ℕ) (rs : List R) (ss : List ℕ) → SparseSymbols n t (map g rs) ss → SparseSymbols n (2 * t) (map f rs) ss
  unfolding SparseSymbols
  twice_sparse n t rs ss h i =
      let a : take n (drop i (map f rs)) ≡ map f (take n (drop i rs)) = ap (take n) (sym (map-drop f i rs)) ∙ sym (map-take f n (drop i rs)) in
      let b : take n (drop i (map g rs)) ≡ map g (take n (drop i rs)) = ap (take n) (sym (map-drop g i rs)) ∙ sym (map-take g n (drop i rs)) in
      let k = rw b at (h i) in
      rw a (omega (arith, k, twice (take n (drop i rs)) (take n (drop i ss))))

  twice_quiet : (n : ℕ) (rs : List R) (ss : List ℕ) → QuietEnd n (map g rs) ss → QuietEnd n (map f rs) ss
  unfolding QuietEnd
  twice_quiet n rs ss h =
      let i = length ss - n in
      let k = rw (← (map-drop g i rs)) at h in
      rw (← (map-drop f i rs)) (omega (arith, k, twice (drop i rs) (drop i ss)))

pub hard_twice : (r s : ℕ) → hard_doubt r s ≡ 2 * differing r s
hard_twice r s = refl

module _ {rate m : ℕ} {bits received : List ℕ} (n : NoisyRun differing (hard_limits rate) rate m bits received) where
  abbrev hard : Fits rate 1 (2 * (hard_limits rate).tolerated) (hard_limits rate)
  hard = hard_fits rate n.known

  abbrev sent : List ℕ
  sent = symbols_of (coder_at rate m) bits

  -- A run of symbols of which any 48, 42, 56, 48 or 68 in a row have at most 4, 2, 2, 1 or 1 wrong I and Q bits gives all bits that were sent but the last
  -- 21, 23, 38, 28 or 56, whatever these are.
  pub noisy_run : {output : List ℕ} {after total count : ℕ} {left : List ℕ} → (o : BestRead (hard_cost received rate m) (length_of_run rate received) m output after total count left)
      → take (length bits - (hard_limits rate).unsure) o.bits ≡ take (length bits - (hard_limits rate).unsure) bits
  noisy_run o =
      kind_agrees hard_kind rate n.known hard.tolerable hard.patterns hard.covers m n.in_range_lem received bits n.binary n.whole sent refl n.as_long
      (in_patterns hard_doubt hard received sent (twice_sparse hard_doubt differing hard_twice (hard_limits rate).window (hard_limits rate).tolerated received sent n.sparse))
      (best_sent differing rate m received n.as_long o.decoded.best)

  -- It gives all of them, where its last 21, 18, 26, 18 or 32 symbols are unharmed.
  pub noisy_run_whole : QuietEnd (hard_limits rate).quiet (map differing received) (symbols_of (coder_at rate m) bits)
      → {output : List ℕ} {after total count : ℕ} {left : List ℕ} → (o : BestRead (hard_cost received rate m) (length_of_run rate received) m output after total count left)
      → o.bits ≡ bits
  noisy_run_whole quiet o =
      kind_agrees_whole hard_kind rate n.known hard.tolerable hard.patterns hard.covers m n.in_range_lem received bits n.binary n.whole sent refl n.as_long
      (in_patterns hard_doubt hard received sent (twice_sparse hard_doubt differing hard_twice (hard_limits rate).window (hard_limits rate).tolerated received sent n.sparse))
      (best_sent differing rate m received n.as_long o.decoded.best) hard.tail hard.tail_covers
      (quiet_patterns hard_doubt hard received sent (twice_quiet hard_doubt differing hard_twice (hard_limits rate).quiet received sent quiet))

-- What reading such a run by a call gives: the answer 0, as many bits as were sent, and at the front of the output those that were sent but the last ones.
pub record NoisyRead (unsure : ℕ) (bits : List ℕ) (number count : ℕ) (left : List ℕ) : Type 0 where
  pub answered : number ≡ 0
  pub counted : count ≡ length bits
  pub front : take (length bits - unsure) left ≡ take (length bits - unsure) bits

call_reads : (unsure : ℕ) (bits : List ℕ) {cost : List ℕ → ℕ} {due n memory number after total count : ℕ} {output left : List ℕ} → due ≡ 0 → length bits ≡ n
    → ((o : BestRead cost n memory output after total count left) → take (length bits - unsure) o.bits ≡ take (length bits - unsure) bits)
    → AnswersRun due cost n memory output number after total count left → NoisyRead unsure bits number count left
call_reads unsure bits z l reads (refused f h a c k x) = absurd (omega (arith, f, h, z))
call_reads unsure bits {n = n} {output = output} z l reads (read a f o) =
    let lo : length o.bits ≡ length bits = o.decoded.best.size ∙ sym l in
    let i : ℕ = length bits - unsure in
    record {
      answered = a;
      counted = o.counted ∙ sym l;
      front =
          ap (take i) o.written
          ∙ (sym (take-take i (length bits) (o.bits ++ drop n output) (omega arith))
          ∙ (ap (take i) (take_at o.bits (drop n output) (length bits) lo) ∙ reads o));
    }

pub noisy_read : {rate m : ℕ} {bits received : List ℕ} → NoisyRun differing (hard_limits rate) rate m bits received → length bits ≤ 1632 → All (λ s. s < 4) received
    → (output : List ℕ) → length bits ≤ length output
    → {number after cost count : ℕ} {left : List ℕ} → ReadsHard rate m received output number after cost count left → NoisyRead (hard_limits rate).unsure bits number count left
noisy_read {rate} {m} {bits} {received} n most four output fits r =
    let q = sent_whole rate m n.known n.in_range_lem bits n.binary n.whole (symbols_of (coder_at rate m) bits) refl in
    let l : length bits ≡ length_of_run rate received = q.1 ∙ ap (run_bits rate) (sym n.as_long) in
    let e : length received % symbols_per_pattern rate ≡ 0 = ap (λ (k : ℕ). k % symbols_per_pattern rate) n.as_long ∙ q.0 in
    let z : read_number rate m received output ≡ 0 =
    passes (record { known = n.known; in_range_lem = n.in_range_lem; lists_pass = refl; whole = e; most = rw (sym l) most; symbols_pass = all_valid received four; fits = rw (sym l) fits }) in
    call_reads (hard_limits rate).unsure bits z l (λ o. noisy_run n o) r

module _ {rate : ℕ} {bits received came unread : List ℕ} (n : NoisyStream differing (hard_limits rate) rate bits received came unread)
    {out : List ℕ} {rest : ℕ} (r : ReadToEnd differing rate received out rest) where
  abbrev fits : Fits rate 1 (2 * (hard_limits rate).tolerated) (hard_limits rate)
  fits = hard_fits rate r.known

  sparse : SparseSymbols (symbols_per_pattern rate * fits.patterns) (1 * fits.units) (map hard_doubt received) came
  sparse = in_patterns hard_doubt fits received came (twice_sparse hard_doubt differing hard_twice (hard_limits rate).window (hard_limits rate).tolerated received came n.sparse)

  -- A stream of such symbols, in overlapping runs and in any pieces, gives all bits that were sent but the last so many.
  pub noisy_stream : StreamBack rate (hard_limits rate).unsure bits (length received) out rest
  noisy_stream =
      stream_back hard_kind rate r.known fits.tolerable fits.patterns fits.covers fits.overlap bits n.binary received came unread n.as_long sparse n.coded r

  -- It gives all of them up to the last whole pattern that came, where the last 22, 21, 28, 21 or 36 symbols are unharmed.
  pub noisy_stream_whole : QuietEnd (hard_limits rate).quiet_stream (map differing received) came → WholeStream rate bits (length received) out rest
  noisy_stream_whole quiet =
      stream_whole hard_kind rate r.known fits.tolerable fits.patterns fits.covers fits.overlap bits n.binary received came unread n.as_long sparse
      fits.tail fits.tail_covers (quiet_stream hard_doubt fits received came (twice_quiet hard_doubt differing hard_twice (hard_limits rate).quiet_stream received came quiet)) n.coded r

-- ---- soft decisions

module _ {rate m : ℕ} {bits : List ℕ} {received : List ReceivedSymbol} (n : NoisyRun soft_doubt (soft_limits rate) rate m bits received) where
  abbrev soft : Fits rate 7 (soft_limits rate).tolerated (soft_limits rate)
  soft = soft_fits rate n.known

  abbrev soft_sent : List ℕ
  soft_sent = symbols_of (coder_at rate m) bits

  soft_front : {best : List ℕ} → Best (soft_cost received rate m) (run_bits rate (length (symbols_of (coder_at rate m) bits))) best
      → take (length bits - (soft_limits rate).unsure) best ≡ take (length bits - (soft_limits rate).unsure) bits
  soft_front b =
      kind_agrees soft_kind rate n.known soft.tolerable soft.patterns soft.covers m n.in_range_lem received bits n.binary n.whole soft_sent refl n.as_long
      (in_patterns soft_doubt soft received soft_sent n.sparse) b

  -- A run of points of which any 55, 54, 56, 75 or 68 in a row leave a doubt of at most 63, 35, 28, 21 or 14 about what was sent gives all bits that were
  -- sent but the last 25, 30, 38, 50 or 56.
  pub noisy_soft_run : {output : List ℕ} {after total count : ℕ} {left : List ℕ}
      → (o : BestRead (soft_cost received rate m) (run_bits rate (length received)) m output after total count left)
      → take (length bits - (soft_limits rate).unsure) o.bits ≡ take (length bits - (soft_limits rate).unsure) bits
  noisy_soft_run o = soft_front (best_sent softly rate m received n.as_long o.decoded.best)

  -- It gives all of them, where nothing is doubted in its last 25, 24, 26, 30 or 32 points.
  pub noisy_soft_run_whole : QuietEnd (soft_limits rate).quiet (map soft_doubt received) (symbols_of (coder_at rate m) bits)
      → {output : List ℕ} {after total count : ℕ} {left : List ℕ}
      → (o : BestRead (soft_cost received rate m) (run_bits rate (length received)) m output after total count left) → o.bits ≡ bits
  noisy_soft_run_whole quiet o =
      kind_agrees_whole soft_kind rate n.known soft.tolerable soft.patterns soft.covers m n.in_range_lem received bits n.binary n.whole soft_sent refl n.as_long
      (in_patterns soft_doubt soft received soft_sent n.sparse) (best_sent softly rate m received n.as_long o.decoded.best) soft.tail soft.tail_covers
      (quiet_patterns soft_doubt soft received soft_sent quiet)

-- By a call, of three lists that pass.
pub noisy_soft_read : {rate m : ℕ} {bits : List ℕ} (is qs : List Float) (lost : List ℕ) → sound is qs lost ≡ true → NoisyRun soft_doubt (soft_limits rate) rate m bits (received_of is qs lost)
    → length bits ≤ 1632 → (output : List ℕ) → length bits ≤ length output
    → {number after cost count : ℕ} {left : List ℕ} → ReadsSoft rate m is qs lost output number after cost count left → NoisyRead (soft_limits rate).unsure bits number count left
noisy_soft_read {rate} {m} {bits} is qs lost lists n most output fits r =
    let s = sound_lists is qs lost lists in
    let k : length (received_of is qs lost) ≡ length is = length_received is qs lost s.qs_size s.lost_size in
    let q = sent_whole rate m n.known n.in_range_lem bits n.binary n.whole (symbols_of (coder_at rate m) bits) refl in
    let l : length bits ≡ run_bits rate (length is) = q.1 ∙ ap (run_bits rate) (sym n.as_long ∙ k) in
    let e : length is % symbols_per_pattern rate ≡ 0 = ap (λ (k : ℕ). k % symbols_per_pattern rate) (sym k ∙ n.as_long) ∙ q.0 in
    let z : soft_number rate m is qs lost output ≡ 0 =
    passes (record { known = n.known; in_range_lem = n.in_range_lem; lists_pass = lists; whole = e; most = rw (sym l) most; symbols_pass = refl; fits = rw (sym l) fits }) in
    call_reads (soft_limits rate).unsure bits z l
    (λ o. soft_front n (subst (λ (j : ℕ). Best (soft_cost (received_of is qs lost) rate m) (run_bits rate j) o.bits) (sym k ∙ n.as_long) o.decoded.best)) r

module _ {rate : ℕ} {bits : List ℕ} {received : List ReceivedSymbol} {came unread : List ℕ} (n : NoisyStream soft_doubt (soft_limits rate) rate bits received came unread)
    {out : List ℕ} {rest : ℕ} (r : ReadToEnd softly rate received out rest) where
  abbrev soft_fit : Fits rate 7 (soft_limits rate).tolerated (soft_limits rate)
  soft_fit = soft_fits rate r.known

  soft_sparse : SparseSymbols (symbols_per_pattern rate * soft_fit.patterns) (7 * soft_fit.units) (map soft_doubt received) came
  soft_sparse = in_patterns soft_doubt soft_fit received came n.sparse

  -- So does a stream of such points, in overlapping runs and in any pieces.
  pub noisy_soft_stream : StreamBack rate (soft_limits rate).unsure bits (length received) out rest
  noisy_soft_stream =
      stream_back soft_kind rate r.known soft_fit.tolerable soft_fit.patterns soft_fit.covers soft_fit.overlap bits n.binary received came unread n.as_long
      soft_sparse n.coded r

  -- And all of them up to the last whole pattern that came, where nothing is doubted in the last 26, 27, 28, 33 or 36 points.
  pub noisy_soft_stream_whole : QuietEnd (soft_limits rate).quiet_stream (map soft_doubt received) came → WholeStream rate bits (length received) out rest
  noisy_soft_stream_whole quiet =
      stream_whole soft_kind rate r.known soft_fit.tolerable soft_fit.patterns soft_fit.covers soft_fit.overlap bits n.binary received came unread n.as_long
      soft_sparse soft_fit.tail soft_fit.tail_covers (quiet_stream soft_doubt soft_fit received came quiet) n.coded r
