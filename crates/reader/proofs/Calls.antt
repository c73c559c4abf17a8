-- The two calls over their core: what their tests tell of a run, that the decisions on it can be read, and what is read of them.
-- Assumes nothing.
use mathlib.Core.Bool.{Bool, true}
use mathlib.Core.Path.{◌≡◌, refl, sym, ◌∙◌, ap, subst}
use mathlib.Core.List.{List, map}
use Prim.Native.Nat.{ℕ, ◌-◌, ◌*◌, ◌≤◌, ◌<◌}
use native.Mathlib.Omega.{arith}
use lib.Ieee.{Float}
use lib.ListN.{length, take}
use lib.Dec.{ltb}
use Rattle.common.specs.Lists.{All, largest}
use Rattle.branch_metrics.specs.Cost.{softly, received_of, ReceivedSymbol}
use Rattle.branch_metrics.proofs.Runs.{length_received}
use Rattle.reader.specs.Cost.{differing, run_cost, costs_of, Costed}
use Rattle.reader.specs.Read.{run_bits, valid, sound, answer_number, Readable, BestRead, AnswersRun, ReadsHard, ReadsSoft, read}
use Rattle.reader.proofs.Decisions as hard
use Rattle.reader.proofs.SoftDecisions as soft
use Rattle.reader.proofs.Outcome.{Passed, passed, passes, readable, below_all}
use Rattle.reader.proofs.Costs.{excess}
use Rattle.reader.proofs.Reading.{costs_more, read_as}

-- ---- any kind of received symbols

module _ {R : Type 0} (cost : R → ℕ → ℕ) (rs : List R) {rate memory : ℕ} {lists : Bool} {n : ℕ} {pass : Bool} {output : List ℕ} (p : Passed rate memory lists n pass (length output))
    (l : List ℕ) (c : Costed cost rs l) (size : length rs ≡ n) where
  pairs_readable : All (λ p. p < 81) l → Readable rate memory l output
  pairs_readable small = readable p l (c.size ∙ size) small

  -- what the decisions cost at least, and what is read of the symbols
  pairs_more : {after total count : ℕ} {left : List ℕ} → BestRead (run_cost (costs_of l) rate memory) (run_bits rate (length l)) memory output after total count left
      → excess c.extra (length rs) ≤ total
  pairs_more o = costs_more cost rs l c rate memory p.known p.in_range_lem (rw size p.whole) o.decoded

  pairs_read : {after total count : ℕ} {left : List ℕ}
      → BestRead (run_cost (costs_of l) rate memory) (run_bits rate (length l)) memory output after total count left
      → AnswersRun (answer_number rate memory lists n pass (length output)) (run_cost (map cost rs) rate memory) (run_bits rate n) memory output 0 after (total - excess c.extra (length rs)) count left
  pairs_read {after = after} {total} {count} {left} o =
      read refl (passes p)
      (subst (λ (k : ℕ). BestRead (run_cost (map cost rs) rate memory) (run_bits rate k) memory output after (total - excess c.extra (length rs)) count left) size
      (read_as cost rs l c rate memory p.known p.in_range_lem (rw size p.whole) o))

-- ---- hard decisions

module _ (rate memory : ℕ) (ss output : List ℕ) where
  -- the number that the tests gave is the one that is due
  pub hard_due : {most number : ℕ} → number ≡ answer_number rate memory true (length ss) (ltb most 4) (length output) → most ≡ largest ss
      → number ≡ answer_number rate memory true (length ss) (valid ss) (length output)
  hard_due e m = e ∙ ap (λ (k : ℕ). answer_number rate memory true (length ss) (ltb k 4) (length output)) m

  pub hard_tested : {most : ℕ} → 0 ≡ answer_number rate memory true (length ss) (ltb most 4) (length output) → most ≡ largest ss
      → Passed rate memory true (length ss) (valid ss) (length output)
  hard_tested e m = passed rate memory true (length ss) (valid ss) (length output) (sym (hard_due e m))

  module _ (p : Passed rate memory true (length ss) (valid ss) (length output)) (l : List ℕ) (w : hard.Written ss l) (long : length ss ≤ length l) where
    abbrev k : ℕ
    k = length ss

    e : k ≡ length ss
    e = refl

    symbols : All (λ s. s < 4) ss
    symbols = below_all 4 ss p.symbols_pass

    abbrev costed : Costed differing ss (take k l)
    costed = hard.written_costed ss l symbols w long k e

    pub hard_readable : Readable rate memory (take k l) output
    hard_readable = pairs_readable differing ss p (take k l) costed refl (hard.written_small ss l symbols w long k e)

    module _ {after total count : ℕ} {left : List ℕ} (o : BestRead (run_cost (costs_of (take k l)) rate memory) (run_bits rate (length (take k l))) memory output after total count left) where
      pub hard_more : 6 * length ss ≤ total
      hard_more = omega (arith, pairs_more differing ss p (take k l) costed refl o, hard.written_excess ss l symbols w long k e)

      pub hard_read : ReadsHard rate memory ss output 0 after (total - 6 * length ss) count left
      hard_read = rw (sym (hard.written_excess ss l symbols w long k e)) (pairs_read differing ss p (take k l) costed refl o)

-- ---- soft decisions

module _ (rate memory : ℕ) (is qs : List Float) (lost output : List ℕ) where
  pub soft_due : {v : Bool} {number : ℕ} → number ≡ answer_number rate memory v (length is) true (length output) → v ≡ sound is qs lost
      → number ≡ answer_number rate memory (sound is qs lost) (length is) true (length output)
  soft_due e v = e ∙ ap (λ (t : Bool). answer_number rate memory t (length is) true (length output)) v

  pub soft_tested : {v : Bool} → 0 ≡ answer_number rate memory v (length is) true (length output) → v ≡ sound is qs lost
      → Passed rate memory (sound is qs lost) (length is) true (length output)
  soft_tested e v = passed rate memory (sound is qs lost) (length is) true (length output) (sym (soft_due e v))

  module _ (p : Passed rate memory (sound is qs lost) (length is) true (length output)) where
    pub one_length : soft.OneLength is qs lost
    one_length = soft.sound_lists is qs lost p.lists_pass

    abbrev rs : List ReceivedSymbol
    rs = received_of is qs lost

    size : length rs ≡ length is
    size = length_received is qs lost one_length.qs_size one_length.lost_size

    module _ (l : List ℕ) (w : soft.Written is qs lost l) (long : length is ≤ length l) where
      abbrev j : ℕ
      j = length is

      f : j ≡ length is
      f = refl

      abbrev soft_costed : Costed softly rs (take j l)
      soft_costed = soft.written_costed is qs lost l one_length w long j f

      pub soft_readable : Readable rate memory (take j l) output
      soft_readable = pairs_readable softly rs p (take j l) soft_costed size (soft.written_small is qs lost l one_length w long j f)

      pub soft_read : {after total count : ℕ} {left : List ℕ} → BestRead (run_cost (costs_of (take j l)) rate memory) (run_bits rate (length (take j l))) memory output after total count left
          → ReadsSoft rate memory is qs lost output 0 after total count left
      soft_read {total = total} o =
          let n : total - excess soft_costed.extra (length rs) ≡ total = omega (arith, soft.written_excess is qs lost l one_length w long j f (length rs)) in
          rw n at (pairs_read softly rs p (take j l) soft_costed size o)
