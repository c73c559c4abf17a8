-- What the functions for a lock in C give. Of points this is said by the promise of a step of the library's own stream on the decisions on them, and so is the end.
-- Clauses: EN 300 421, 4.4.2 and 4.4.3, note 1 (source document 002); document 02, P8.
-- Assumes nothing.
use Rattle.std.specs.Prelude.{◌≡◌, Bool, true, false, List, [], ◌∷◌, map, ℕ, ◌<◌, ◌≤◌, eqb, ltb, Float, length, take, set, Option, Some, None}
use Rattle.common.specs.Choice.{pick}
use Rattle.common.specs.Lists.{placed}
use Rattle.common.specs.Refusal.{unless, when, first_due}
use Rattle.state_bytes.specs.Calls.{CallsOn}
use Rattle.branch_metrics.specs.Cost.{received_of}
use Rattle.branch_metrics.specs.SoftPairs.{symbol_pair}
use Rattle.reader.specs.Read.{sound}
use Rattle.lock_stream.specs.Progress.{closing_text}
use Rattle.lock_stream.specs.Source.{came_of}
use Rattle.lock_stream.specs.Stream.{fresh_stream, StreamSteps, StreamEnds}
use Rattle.lock_stream.specs.declared.LockStream.{LockStream}
use Rattle.lock_state.specs.State.{layout, state_length, state_bytes, in_range, StandsFor}

-- ---- a fresh state

-- 22 for a state of another length, 6 for a rate that is not read; 5 is any
abbrev pub fresh_number : List ℕ → ℕ → ℕ
fresh_number state rate = first_due (unless (eqb (length state) state_length) 22 ∷ unless (ltb rate 6) 6 ∷ [])

abbrev pub fresh_bytes : List ℕ → ℕ → List ℕ
fresh_bytes state rate = pick (eqb (fresh_number state rate) 0) (state_bytes (fresh_stream false rate)) state

-- ---- points

-- room for the packets and the text of a step, and for two numbers
abbrev pub short_room : ℕ → ℕ → ℕ → Bool
short_room packets text counts = pick (ltb packets 1504) true (pick (ltb text 2048) true (ltb counts 2))

-- 24 where the lists are not of one length, or a mark is above 1; 4 for short room; 7 where no more points can be counted
abbrev pub points_due : ℕ → List Float → List Float → List ℕ → Bool → ℕ
points_due came is qs lost short = first_due (unless (sound is qs lost) 24 ∷ when short 4 ∷ unless (ltb came 1152921504606845344) 7 ∷ [])

-- the two numbers that are told
abbrev pub counted : List ℕ → ℕ → ℕ → List ℕ
counted counts packets text = set (set counts 0 packets) 1 text

-- What a step gives and tells: these bytes of packets and this text at the front of their rooms, all else there as it was, and how many bytes of each there are.
pub record GivesTold (packets text counts front lines given told tally : List ℕ) : Type 0 where
  pub given_is : given ≡ placed packets 0 front
  pub told_is : told ≡ placed text 0 lines
  pub tally_is : tally ≡ counted counts (length front) (length lines)

-- What is promised of decisions, a pair as one number for each point: a refusal leaves all that is lent as it was. Else the stream takes a step by the first 1,632 of
-- them, where there are some, and it is told how many points it took.
pub data FeedsPairs (is qs : List Float) (lost packets text counts : List ℕ) (s : LockStream) (number taken : ℕ) (next : LockStream) (given told tally : List ℕ) : Type 0 where
  refused : number ≡ points_due (came_of s.source) is qs lost (short_room (length packets) (length text) (length counts)) → 0 < number → taken ≡ 0 → next ≡ s
      → given ≡ packets → told ≡ text → tally ≡ counts → FeedsPairs is qs lost packets text counts s number taken next given told tally
  no_points : points_due (came_of s.source) is qs lost (short_room (length packets) (length text) (length counts)) ≡ 0 → number ≡ 0 → length is ≡ 0 → taken ≡ 0 → next ≡ s
      → GivesTold packets text counts [] [] given told tally → FeedsPairs is qs lost packets text counts s number taken next given told tally
  stepped : points_due (came_of s.source) is qs lost (short_room (length packets) (length text) (length counts)) ≡ 0 → number ≡ 0 → 0 < length is
      → (front lines : List ℕ) → StreamSteps s (take 1632 (map symbol_pair (received_of is qs lost))) taken front lines next
      → GivesTold packets text counts front lines given told tally → FeedsPairs is qs lost packets text counts s number taken next given told tally

abbrev pub FeedsLock : List ℕ → List Float → List Float → List ℕ → List ℕ → List ℕ → List ℕ → List ℕ → ℕ → List ℕ → List ℕ → List ℕ → List ℕ → List ℕ → Type 0
FeedsLock state is qs lost packets text counts answer r after given told tally said =
    CallsOn layout state_length in_range ((r ≡ 0) × (given ≡ packets) × (told ≡ text) × (tally ≡ counts)) (λ s number next. FeedsPairs is qs lost packets text counts s number r next given told tally) state answer after said

-- ---- the end

abbrev pub end_due : Bool → ℕ
end_due short = first_due (when short 4 ∷ [])

-- A step of the end. Where it was the last, no line of an event is told, and the closing lines are, with so many bytes behind the last whole point.
pub data StepsEnd (rest : ℕ) (s : LockStream) (over : ℕ) (front lines : List ℕ) (next : LockStream) : Type 0 where
  goes_on : over ≡ 0 → StreamEnds s None front lines next → StepsEnd rest s over front lines next
  ended : (left : ℕ) → over ≡ 1 → StreamEnds s (Some left) front [] next → lines ≡ closing_text false next.progress (came_of next.source) left rest
      → StepsEnd rest s over front lines next

-- What is promised of the end: a refusal leaves all that is lent as it was, else a step of it is taken.
pub data EndsPairs (rest : ℕ) (packets text counts : List ℕ) (s : LockStream) (number over : ℕ) (next : LockStream) (given told tally : List ℕ) : Type 0 where
  refused_end : number ≡ end_due (short_room (length packets) (length text) (length counts)) → 0 < number → over ≡ 0 → next ≡ s → given ≡ packets → told ≡ text → tally ≡ counts
      → EndsPairs rest packets text counts s number over next given told tally
  end_stepped : end_due (short_room (length packets) (length text) (length counts)) ≡ 0 → number ≡ 0 → (front lines : List ℕ) → StepsEnd rest s over front lines next
      → GivesTold packets text counts front lines given told tally → EndsPairs rest packets text counts s number over next given told tally

abbrev pub EndsLock : List ℕ → ℕ → List ℕ → List ℕ → List ℕ → List ℕ → ℕ → List ℕ → List ℕ → List ℕ → List ℕ → List ℕ → Type 0
EndsLock state rest packets text counts answer r after given told tally said =
    CallsOn layout state_length in_range ((r ≡ 0) × (given ≡ packets) × (told ≡ text) × (tally ≡ counts)) (λ s number next. EndsPairs rest packets text counts s number r next given told tally) state answer after said

-- ---- what the work of a call leaves, where no test refused it

-- the bytes of a stream for which they stand
pub record Leaves (Own : LockStream → Type 0) (after : List ℕ) : Type 0 where
  pub next : LockStream
  pub own : Own next
  pub bytes : after ≡ state_bytes next
  pub stands : StandsFor after next

abbrev pub LeavesStep : LockStream → List Float → List Float → List ℕ → List ℕ → List ℕ → List ℕ → ℕ → List ℕ → List ℕ → List ℕ → List ℕ → Type 0
LeavesStep s is qs lost packets text counts taken after given told tally = Leaves (λ next. FeedsPairs is qs lost packets text counts s 0 taken next given told tally) after

abbrev pub LeavesEnd : ℕ → LockStream → List ℕ → List ℕ → List ℕ → ℕ → List ℕ → List ℕ → List ℕ → List ℕ → Type 0
LeavesEnd rest s packets text counts over after given told tally = Leaves (λ next. EndsPairs rest packets text counts s 0 over next given told tally) after

-- The text of a step of the end: the lines of its event where it was not the last, else the closing lines alone.
pub data ClosesLines (s : LockStream) (over : Option ℕ) (rest told : ℕ) (lines : List ℕ) (r : ℕ) (exit : List ℕ) : Type 0 where
  not_over : over ≡ None → r ≡ told → exit ≡ lines → ClosesLines s over rest told lines r exit
  closed : (left : ℕ) → over ≡ Some left → r ≤ 2048 → r ≤ length exit → take r exit ≡ closing_text s.source.bits s.progress (came_of s.source) left rest → ClosesLines s over rest told lines r exit
