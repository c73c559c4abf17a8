-- What the functions for a reader in C give. Of symbols and points this is said by the promise of the stream reader's own call on their decisions, and so is
-- the end.
-- Clauses: document 02, P1 and P8.
-- Assumes nothing.
use Rattle.std.specs.Prelude.{◌≡◌, List, [], ◌∷◌, map, ℕ, ◌+◌, ◌/◌, ◌<◌, eqb, ltb, Float, length, set}
use Rattle.common.specs.Choice.{pick}
use Rattle.common.specs.Refusal.{unless, when, first_due}
use Rattle.state_bytes.specs.Calls.{CallsOn}
use Rattle.puncturing.specs.Mode.{qpsk_count}
use Rattle.branch_metrics.specs.Cost.{received_of}
use Rattle.branch_metrics.specs.SoftPairs.{symbol_pair}
use Rattle.reader.specs.Decisions.{hard_pair}
use Rattle.reader.specs.Read.{valid, sound}
use Rattle.reader_stream.specs.Stream.{FeedsReader, FinishesReader}
use Rattle.reader_stream.specs.declared.ReaderStream.{ReaderStream}
use Rattle.reader_stream.specs.declared.Finished.{Finished}
use Rattle.dvbs_reader_stream.specs.State.{layout, state_length, state_bytes, in_range, fresh_reader}

-- ---- a fresh state

-- 22 for a state of another length, 6 for a rate that is not read
abbrev pub fresh_number : List ℕ → ℕ → ℕ
fresh_number state rate = first_due (unless (eqb (length state) state_length) 22 ∷ unless (ltb rate qpsk_count) 6 ∷ [])

abbrev pub fresh_bytes : List ℕ → ℕ → List ℕ
fresh_bytes state rate = pick (eqb (fresh_number state rate) 0) (state_bytes (fresh_reader rate)) state

-- ---- symbols and points

-- room for two bits of each symbol, and for those of a longest run that are held
abbrev pub room_for : ℕ → ℕ
room_for symbols = symbols / 4 + 409

-- 14 where a symbol is above 3, 4 for short room
abbrev pub symbols_due : List ℕ → ℕ → ℕ
symbols_due symbols room = first_due (unless (valid symbols) 14 ∷ when (ltb room (room_for (length symbols))) 4 ∷ [])

-- 24 where the lists are not of one length, or a mark is above 1; 4 for short room
abbrev pub points_due : List Float → List Float → List ℕ → ℕ → ℕ
points_due is qs lost room = first_due (unless (sound is qs lost) 24 ∷ when (ltb room (room_for (length is))) 4 ∷ [])

-- What is promised of decisions, a pair as one number for each symbol, where `due` is the number of the answer: a refusal leaves the reader and the output as
-- they were; else the pairs are fed to the stream reader.
pub data FeedsPairs (due : ℕ) (s : ReaderStream) (pairs output : List ℕ) (number count : ℕ) (next : ReaderStream) (exit : List ℕ) : Type 0 where
  refused : number ≡ due → 0 < number → count ≡ 0 → next ≡ s → exit ≡ output → FeedsPairs due s pairs output number count next exit
  fed : due ≡ 0 → number ≡ 0 → FeedsReader s pairs output next count exit → FeedsPairs due s pairs output number count next exit

-- by hard decisions
abbrev pub FeedsHard : List ℕ → List ℕ → List ℕ → List ℕ → ℕ → List ℕ → List ℕ → List ℕ → Type 0
FeedsHard state symbols output answer r after exit told =
    CallsOn layout state_length in_range ((r ≡ 0) × (exit ≡ output)) (λ s number next. FeedsPairs (symbols_due symbols (length output)) s (map hard_pair symbols) output number r next exit) state answer after told

-- by soft decisions: of each symbol the two numbers of its point, and its mark
abbrev pub FeedsSoft : List ℕ → List Float → List Float → List ℕ → List ℕ → List ℕ → ℕ → List ℕ → List ℕ → List ℕ → Type 0
FeedsSoft state is qs lost output answer r after exit told =
    CallsOn layout state_length in_range ((r ≡ 0) × (exit ≡ output)) (λ s number next. FeedsPairs (points_due is qs lost (length output)) s (map symbol_pair (received_of is qs lost)) output number r next exit) state answer after told

-- ---- the end

-- 4 where there is room for fewer bytes than a longest run has, or fewer than two are lent for what is left
abbrev pub end_due : ℕ → ℕ → ℕ
end_due room left = first_due (when (ltb room 204) 4 ∷ when (ltb left 2) 4 ∷ [])

-- What is promised of the end: a refusal leaves all that is lent as it was; else the stream reader ends. So many symbols are in no pattern, and so many bits in
-- no byte.
pub data EndsPairs (s : ReaderStream) (output left : List ℕ) (number count : ℕ) (exit behind : List ℕ) : Type 0 where
  refused_end : number ≡ end_due (length output) (length left) → 0 < number → count ≡ 0 → exit ≡ output → behind ≡ left → EndsPairs s output left number count exit behind
  ended : end_due (length output) (length left) ≡ 0 → number ≡ 0 → (f : Finished) → FinishesReader s output f exit → count ≡ f.count
      → behind ≡ set (set left 0 f.rest) 1 f.bits → EndsPairs s output left number count exit behind

-- it leaves the state as it is
abbrev pub EndsState : List ℕ → List ℕ → List ℕ → List ℕ → ℕ → List ℕ → List ℕ → List ℕ → Type 0
EndsState state output left answer r exit behind told =
    CallsOn layout state_length in_range ((r ≡ 0) × (exit ≡ output) × (behind ≡ left)) (λ s number next. (next ≡ s) × EndsPairs s output left number r exit behind) state answer state told
