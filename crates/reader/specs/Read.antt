-- What a call of the reader gives: its answer, by its tests in the order of document 02, and where it is 0 the best sequence of bits.
-- Hard and soft decisions differ in the tests and in what a received symbol costs, and in nothing else.
-- Clauses: document 02, P1 and P8.
-- Assumes nothing.
use Rattle.std.specs.Prelude.{◌≡◌, Bool, true, false, List, [], ◌∷◌, ◌++◌, ℕ, ◌*◌, ◌/◌, ◌%◌, ◌<◌, ◌≤◌, ltb, eqb, Float, length, drop}
use Rattle.common.specs.Choice.{pick}
use Rattle.common.specs.Refusal.{unless, when, first_due}
use Rattle.common.specs.Lists.{All, largest}
use Rattle.viterbi_decoder.specs.Best.{Decoded}
use Rattle.puncturing.specs.Mode.{mode_of, qpsk_count}
use Rattle.puncturing.specs.Step.{pattern_length}
use Rattle.branch_metrics.specs.Cost.{received_of}
use Rattle.reader.specs.Cost.{hard_cost, soft_cost}

-- how many symbols a rate's pattern has
unfoldable pub symbols_per_pattern : ℕ → ℕ
symbols_per_pattern rate = length (mode_of rate).symbols

-- the bits of a run of n symbols: those of as many patterns as they make
abbrev pub run_bits : ℕ → ℕ → ℕ
run_bits rate n = pattern_length rate * (n / symbols_per_pattern rate)

abbrev pub length_of_run : ℕ → List ℕ → ℕ
length_of_run rate symbols = run_bits rate (length symbols)

-- ---- the tests

-- every symbol is one of the four
abbrev pub valid : List ℕ → Bool
valid symbols = ltb (largest symbols) 4

-- three lists of one length, with marks of 0 and 1
abbrev pub sound : List Float → List Float → List ℕ → Bool
sound is qs lost = pick (eqb (length qs) (length is)) (pick (eqb (length lost) (length is)) (ltb (largest lost) 2) false) false

-- The number of the answer to n symbols: 6 for another rate, 5 for a memory out of range, 24 where the lists do not pass, 12 where the symbols make no
-- whole patterns, 13 where the run has more than 1,632 bits, 14 where the symbols do not pass, 4 for short room.
abbrev pub answer_number : ℕ → ℕ → Bool → ℕ → Bool → ℕ → ℕ
answer_number rate memory lists n symbols space =
    first_due (unless (ltb rate qpsk_count) 6 ∷ unless (ltb memory 64) 5 ∷ unless lists 24 ∷ unless (eqb (n % symbols_per_pattern rate) 0) 12
    ∷ when (ltb 1632 (run_bits rate n)) 13 ∷ unless symbols 14 ∷ when (ltb space (run_bits rate n)) 4 ∷ [])

-- of hard decisions, which come as one list of symbols
abbrev pub read_number : ℕ → ℕ → List ℕ → List ℕ → ℕ
read_number rate memory symbols output = answer_number rate memory true (length symbols) (valid symbols) (length output)

-- of soft decisions, where a symbol can be anything
abbrev pub soft_number : ℕ → ℕ → List Float → List Float → List ℕ → List ℕ → ℕ
soft_number rate memory is qs lost output = answer_number rate memory (sound is qs lost) (length is) true (length output)

-- ---- what is read

-- the best sequence of n bits, its cost and the memory after it, with its bits at the front of the output
pub record BestRead (cost : List ℕ → ℕ) (n memory : ℕ) (output : List ℕ) (after total count : ℕ) (left : List ℕ) : Type 0 where
  pub bits : List ℕ
  pub decoded : Decoded cost n memory bits total after
  pub counted : count ≡ n
  pub written : left ≡ bits ++ drop n output

-- what a call promises, where `due` is the number of its answer: a refusal has its number, and leaves output and memory as they were; else the run is read
pub data AnswersRun (due : ℕ) (cost : List ℕ → ℕ) (n memory : ℕ) (output : List ℕ) (number after total count : ℕ) (left : List ℕ) : Type 0 where
  refused : number ≡ due → 0 < number → after ≡ memory → total ≡ 0 → count ≡ 0 → left ≡ output → AnswersRun due cost n memory output number after total count left
  read : number ≡ 0 → due ≡ 0 → BestRead cost n memory output after total count left → AnswersRun due cost n memory output number after total count left

-- reading by hard decisions: total is the number of I and Q bits that differ
abbrev pub ReadsHard : ℕ → ℕ → List ℕ → List ℕ → ℕ → ℕ → ℕ → ℕ → List ℕ → Type 0
ReadsHard rate memory symbols output = AnswersRun (read_number rate memory symbols output) (hard_cost symbols rate memory) (length_of_run rate symbols) memory output

-- reading by soft decisions: of each symbol the two numbers of its point, and its mark
abbrev pub ReadsSoft : ℕ → ℕ → List Float → List Float → List ℕ → List ℕ → ℕ → ℕ → ℕ → ℕ → List ℕ → Type 0
ReadsSoft rate memory is qs lost output =
    AnswersRun (soft_number rate memory is qs lost output) (soft_cost (received_of is qs lost) rate memory) (run_bits rate (length is)) memory output

-- ---- the core of both

-- decisions, a pair as one number for each symbol, that can be read: whole patterns, no more than a run has, and room for their bits
pub record Readable (rate memory : ℕ) (pairs output : List ℕ) : Type 0 where
  pub known : rate < qpsk_count
  pub in_range_lem : memory < 64
  pub whole : length pairs % symbols_per_pattern rate ≡ 0
  pub most : run_bits rate (length pairs) ≤ 1632
  pub small : All (λ p. p < 81) pairs
  pub fits : run_bits rate (length pairs) ≤ length output
