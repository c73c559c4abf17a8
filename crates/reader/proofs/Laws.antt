-- What a call gives is decided: the relation is total and unique. An unharmed run gives its bits back; and what holds of a run with errors.
-- Assumes nothing.
use mathlib.Core.Bool.{Bool, true, false}
use mathlib.Core.Path.{◌≡◌, refl, sym, ◌∙◌, ap, ap₂, subst}
use mathlib.Core.List.{List, [], ◌∷◌, ◌++◌, map, List-discrete}
use Prim.Native.Nat.{ℕ, ◌+◌, ◌*◌, ◌/◌, ◌%◌, ◌<◌, ◌≤◌}
use native.Mathlib.Decide.{ℕ_discrete}
use native.Mathlib.Nat.{mul-suc}
use native.Mathlib.Omega.{arith}
use borrow.Author.Tests.{lt-ltb, eqb-true, eq-eqb}
use lib.Dec.{eqb}
use lib.Ieee.{Float}
use lib.ListN.{length, drop}
use Rattle.common.specs.Choice.{pick, unequal}
use Rattle.common.specs.Lists.{All, largest}
use Rattle.common.proofs.Lists.{All-at}
use Rattle.common.proofs.Largest.{largest_most}
use Rattle.common.proofs.Choice.{unequal_le}
use Rattle.convolutional_code.specs.Bits.{Bits}
use Rattle.viterbi_decoder.proofs.Ends.{SomeDecoded}
use Rattle.viterbi_decoder.proofs.Laws.{decoded_unique}
use Rattle.puncturing.specs.Mode.{qpsk_count}
use Rattle.puncturing.specs.Step.{pattern_length}
use Rattle.inner_code.specs.Step.{symbols_of, coder_after}
use Rattle.inner_code.proofs.Coder.{coder_memory}
use Rattle.branch_metrics.specs.Cost.{received_of}
use Rattle.inner_code.specs.Encode.{coder_at}
use Rattle.reader.specs.Cost.{differing, total_cost, hard_cost, soft_cost}
use Rattle.reader.specs.Read.{symbols_per_pattern, run_bits, length_of_run, valid, sound, read_number, soft_number, BestRead, AnswersRun, ReadsHard, refused, read}
use Rattle.reader.proofs.Costs.{sent_small}
use Rattle.reader.proofs.Patterns.{run_symbols_lem, sent_whole}
use Rattle.reader.proofs.Unharmed.{hard_decoded, own_best}
use Rattle.reader.proofs.SoftDecisions.{sound_lists, soft_decoded}
use Rattle.reader.proofs.Outcome.{passed, passes}

-- ---- unique

pub record SameRead (number number' after after' cost cost' count count' : ℕ) (left left' : List ℕ) : Type 0 where
  pub numbers : number ≡ number'
  pub memories : after ≡ after'
  pub costs : cost ≡ cost'
  pub counts : count ≡ count'
  pub outputs : left ≡ left'

pub unique : {due : ℕ} {cost : List ℕ → ℕ} {n memory : ℕ} {output : List ℕ} {number number' after after' total total' count count' : ℕ} {left left' : List ℕ}
    → AnswersRun due cost n memory output number after total count left → AnswersRun due cost n memory output number' after' total' count' left'
    → SameRead number number' after after' total total' count count' left left'
unique (refused e h a c k l) (refused e' h' a' c' k' l') =
    record { numbers = e ∙ sym e'; memories = a ∙ sym a'; costs = c ∙ sym c'; counts = k ∙ sym k'; outputs = l ∙ sym l' }
unique (refused e h a c k l) (read z r o) = absurd (omega (arith, e, h, r))
unique (read z r o) (refused e h a c k l) = absurd (omega (arith, e, h, r))
unique {cost = cost} {n} {memory} {output} (read z r o) (read z' r' o') =
    let s = decoded_unique cost n memory o.decoded o'.decoded in
    record {
      numbers = z ∙ sym z';
      memories = s.after;
      costs = s.total;
      counts = o.counted ∙ sym o'.counted;
      outputs = o.written ∙ (ap (λ (b : List ℕ). b ++ drop n output) s.bits ∙ sym o'.written);
    }

-- ---- total

-- what a call gives, where a run that passes its tests has a best sequence
pub record SomeAnswer (due : ℕ) (cost : List ℕ → ℕ) (n memory : ℕ) (output : List ℕ) : Type 0 where
  pub number : ℕ
  pub after : ℕ
  pub total : ℕ
  pub count : ℕ
  pub left : List ℕ
  pub answers : AnswersRun due cost n memory output number after total count left

some_answer : (due : ℕ) (cost : List ℕ → ℕ) (n memory : ℕ) (output : List ℕ) → (due ≡ 0 → SomeDecoded cost n memory) → SomeAnswer due cost n memory output
some_answer due cost n memory output f = by (ℕ_discrete due 0)
  where
    by : Dec (due ≡ 0) → SomeAnswer due cost n memory output
    by (yes e) =
        let d = f e in
        record {
          number = 0;
          after = d.after;
          total = d.total;
          count = n;
          left = d.bits ++ drop n output;
          answers = read refl e (record { bits = d.bits; decoded = d.decoded; counted = refl; written = refl });
        }
    by (no h) = record { number = due; after = memory; total = 0; count = 0; left = output; answers = refused refl (omega arith) refl refl refl refl }

-- whatever symbols come
pub total : (rate memory : ℕ) (symbols output : List ℕ)
    → SomeAnswer (read_number rate memory symbols output) (hard_cost symbols rate memory) (length_of_run rate symbols) memory output
total rate memory symbols output =
    some_answer (read_number rate memory symbols output) (hard_cost symbols rate memory) (length_of_run rate symbols) memory output
    (λ e. let p = passed rate memory true (length symbols) (valid symbols) (length output) e in hard_decoded rate memory p.known p.in_range_lem symbols p.whole)

-- whatever lists come
pub total_soft : (rate memory : ℕ) (is qs : List Float) (lost output : List ℕ)
    → SomeAnswer (soft_number rate memory is qs lost output) (soft_cost (received_of is qs lost) rate memory) (run_bits rate (length is)) memory output
total_soft rate memory is qs lost output =
    some_answer (soft_number rate memory is qs lost output) (soft_cost (received_of is qs lost) rate memory) (run_bits rate (length is)) memory output
    (λ e. let p = passed rate memory (sound is qs lost) (length is) true (length output) e in
    soft_decoded rate memory p.known p.in_range_lem is qs lost (sound_lists is qs lost p.lists_pass) p.whole)

-- ---- an unharmed run

pub all_valid : (ss : List ℕ) → All (λ s. s < 4) ss → valid ss ≡ true
all_valid ss h = lt-ltb (largest ss) 4 (omega (arith, largest_most ss 3 (λ i l. omega (arith, All-at (λ s. s < 4) ss 0 i h l))))

-- what reading the coding of some bits gives: the answer 0, these bits, the coder's own memory after them, and no difference
pub record ReadBack (rate m : ℕ) (bits output : List ℕ) (number after cost count : ℕ) (left : List ℕ) : Type 0 where
  pub answered : number ≡ 0
  pub memory : after ≡ (coder_after (coder_at rate m) bits).memory
  pub nothing : cost ≡ 0
  pub counted : count ≡ length bits
  pub written : left ≡ bits ++ drop (length bits) output

-- Demand 2, run by run: whole patterns of bits that a coder sends from the given memory, at most 1,632 and with room enough, are given back.
pub unharmed : (rate m : ℕ) → rate < qpsk_count → m < 64 → (bits : List ℕ) → Bits bits → length bits % pattern_length rate ≡ 0 → length bits ≤ 1632
    → (symbols : List ℕ) → symbols ≡ symbols_of (coder_at rate m) bits → (output : List ℕ) → length bits ≤ length output
    → {number after cost count : ℕ} {left : List ℕ} → ReadsHard rate m symbols output number after cost count left
    → ReadBack rate m bits output number after cost count left
unharmed rate m hr hm bits w e most symbols es output fits r =
    let q = sent_whole rate m hr hm bits w e symbols es in
    let v : valid symbols ≡ true = all_valid symbols (subst (All (λ s. s < 4)) (sym es) (sent_small rate m hr hm w)) in
    let z : read_number rate m symbols output ≡ 0 =
    passes (record { known = hr; in_range_lem = hm; lists_pass = refl; whole = q.0; most = rw (sym q.1) most; symbols_pass = v; fits = rw (sym q.1) fits }) in
    by z q.1 r
  where
    by : read_number rate m symbols output ≡ 0 → length bits ≡ length_of_run rate symbols → {number after cost count : ℕ} {left : List ℕ}
        → ReadsHard rate m symbols output number after cost count left → ReadBack rate m bits output number after cost count left
    by z l (refused f h a c k x) = absurd (omega (arith, f, h, z))
    by z l (read n f o) =
        let b = own_best rate m hr hm w e symbols es o.decoded in
        record {
          answered = n;
          memory = b.2 ∙ sym (coder_memory (coder_at rate m) bits);
          nothing = b.1;
          counted = o.counted ∙ sym l;
          written = o.written ∙ ap₂ (λ (x : List ℕ) (k : ℕ). x ++ drop k output) b.0 (sym l);
        }

-- ---- a run with errors

-- what a run costs is at most what any sequence of its length does: also the one that was sent. So hard decisions never tell more errors than there were.
pub cost_least : {cost : List ℕ → ℕ} {n memory : ℕ} {output : List ℕ} {after total count : ℕ} {left : List ℕ} → BestRead cost n memory output after total count left
    → (sent : List ℕ) → Bits sent → length sent ≡ n → total ≤ cost sent
cost_least o sent w l = omega (arith, o.decoded.costs, o.decoded.best.least sent w l)

-- and at most two for each symbol by hard decisions
pub total_le : {R : Type 0} (cost : R → ℕ → ℕ) (most : ℕ) → ((r : R) (s : ℕ) → cost r s ≤ most) → (rs : List R) (ss : List ℕ) → total_cost (map cost rs) ss ≤ most * length rs
unfolding total_cost
total_le cost most h [] ss = omega arith
total_le cost most h (r ∷ rs) [] = omega arith
total_le cost most h (r ∷ rs) (s ∷ ss) = omega (arith, h r s, total_le cost most h rs ss, mul-suc most (length rs))

pub cost_most : (rate m : ℕ) (symbols : List ℕ) {output : List ℕ} {after total count : ℕ} {left : List ℕ}
    → BestRead (hard_cost symbols rate m) (length_of_run rate symbols) m output after total count left → total ≤ 2 * length symbols
cost_most rate m symbols o =
    omega (
      arith,
      o.decoded.costs,
      total_le differing 2 (λ r s. omega (arith, unequal_le (r / 2) (s / 2), unequal_le (r % 2) (s % 2))) symbols (symbols_of (coder_at rate m) o.bits),
    )

-- from one list to another is no farther than by way of a third
differ_triangle : (a b c : ℕ) → unequal b c ≤ unequal a b + unequal a c
differ_triangle a b c = go (eqb a b) (eqb a c) refl refl
  where
    go : (t u : Bool) → eqb a b ≡ t → eqb a c ≡ u → unequal b c ≤ pick t 0 1 + pick u 0 1
    go true true e f = let q : b ≡ c = sym (eqb-true a b e) ∙ eqb-true a c f in rw (eq-eqb b c q) (omega arith)
    go true false e f = omega (arith, unequal_le b c)
    go false true e f = omega (arith, unequal_le b c)
    go false false e f = omega (arith, unequal_le b c)

triangle : (rs xs ys : List ℕ) → length xs ≡ length rs → length ys ≡ length rs
    → total_cost (map differing xs) ys ≤ total_cost (map differing rs) xs + total_cost (map differing rs) ys
unfolding total_cost
triangle [] [] ys h l = omega arith
triangle [] (x ∷ xs) ys h l = absurd (omega arith)
triangle (r ∷ rs) [] ys h l = omega arith
triangle (r ∷ rs) (x ∷ xs) [] h l = absurd (omega arith)
triangle (r ∷ rs) (x ∷ xs) (y ∷ ys) h l =
    omega (arith, differ_triangle (r / 2) (x / 2) (y / 2), differ_triangle (r % 2) (x % 2) (y % 2), triangle rs xs ys (omega arith) (omega arith))

-- Where the coding of the bits that were sent differs from what came in fewer places than half the distance to the coding of every other sequence of the
-- run, those bits are read.
pub half_distance : (rate m : ℕ) → rate < qpsk_count → m < 64 → (symbols : List ℕ) → length symbols % symbols_per_pattern rate ≡ 0
    → {output : List ℕ} {after total count : ℕ} {left : List ℕ} → (o : BestRead (hard_cost symbols rate m) (length_of_run rate symbols) m output after total count left)
    → (sent : List ℕ) → Bits sent → length sent ≡ length_of_run rate symbols
    → ((other : List ℕ) → Bits other → length other ≡ length_of_run rate symbols → (other ≡ sent → ⊥)
    → 2 * hard_cost symbols rate m sent < hard_cost (symbols_of (coder_at rate m) sent) rate m other)
    → o.bits ≡ sent
half_distance rate m hr hm symbols whole o sent w l far = by (List-discrete ℕ_discrete o.bits sent)
  where
    by : Dec (o.bits ≡ sent) → o.bits ≡ sent
    by (yes e) = e
    by (no n) =
        let d = o.decoded.best in
        absurd (omega (
          arith,
          far o.bits d.binary d.size n,
          d.least sent w l,
          triangle symbols (symbols_of (coder_at rate m) sent) (symbols_of (coder_at rate m) o.bits) (run_symbols_lem rate hr (length symbols) whole m hm sent w l) (run_symbols_lem rate hr (length symbols) whole m hm o.bits d.binary d.size),
        ))
