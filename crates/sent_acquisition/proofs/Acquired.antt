-- Every block that acquisition finds is one of a reading, which began in a window in which the search found its hypothesis.
-- Assumes nothing.
use mathlib.Core.Path.{◌≡◌, refl, sym, ◌∙◌, ap, subst}
use mathlib.Core.Bool.{Bool, true, false, true≢false}
use mathlib.Core.List.{List, [], ◌++◌, append-nil, append_assoc}
use Prim.Native.Nat.{ℕ, ◌+◌, ◌-◌, ◌≤◌, ◌<◌}
use native.Mathlib.Omega.{arith}
use lib.ListN.{length, take, drop, replicate, length-append, length-take, length-map, take-append-drop}
use lib.Seq.{length-take-le, take-length, take-take, take-append_seam, take-append-le, drop-append-le}
use Rattle.common.specs.Lists.{padded}
use Rattle.node_search.specs.Hypotheses.{searched}
use Rattle.node_search.specs.Search.{Searches}
use Rattle.node_search.specs.declared.Search.{Search}
use Rattle.node_search.specs.declared.Search.TheVariants.{Found}
use Rattle.node_search.proofs.Found.{found_known}
use Rattle.symbol_turns.specs.Turn.{undoing, turned_pair}
use Rattle.block_sync.specs.declared.GivenBlock.{GivenBlock}
use Rattle.acquisition.specs.Reading.{Begins, ReadsSymbols}
use Rattle.acquisition.specs.Step as steps
use Rattle.acquisition.specs.Step.{pending_of, searching_on, reading_on, fresh_acquisition, AcquisitionReady, AfterSearch, window_of, SearchesOn, after_reading, StepsAcquisition, ends_reading, mirrored_next, lost_reading}
use Rattle.acquisition.specs.declared.Reading.{Reading}
use Rattle.acquisition.specs.declared.Phase.{Phase}
use Rattle.acquisition.specs.declared.Phase.TheVariants.{Searches as Phase·searches, Reads}
use Rattle.acquisition.specs.declared.Acquisition.{Acquisition}
use Rattle.acquisition.specs.declared.Step.{Step}
use Rattle.acquisition.specs.declared.Event.{Event}
use Rattle.acquisition.specs.declared.Event.TheVariants.{Waits, Block, Lost}
use Rattle.acquisition.proofs.Symbols.{run_counts}
use Rattle.sent_acquisition.specs.Readings as readings
use Rattle.sent_acquisition.specs.Readings.{block_in}
use Rattle.sent_acquisition.specs.Acquired.{AcquisitionSteps, fresh, step, ReadingOfThese, BlocksOfReadings, none, more, BlocksRead, AcquisitionCame, searching, reading}
use Rattle.sent_acquisition.proofs.Readings.{reading_came}

-- the symbols that are pending
front : (pending : List ℕ) → take (length pending) (padded 1632 pending) ≡ pending
front pending = take-append_seam pending (replicate (1632 - length pending) 0)

abbrev is_reads : Phase → Bool
is_reads Phase·searches = false
is_reads Reads = true

-- ---- more symbols came

reading_grown : {asked : ℕ} {symbols : List ℕ} {these : List GivenBlock} {mirrored : Bool} {k : Reading} {unread : List ℕ} → ReadingOfThese asked symbols these mirrored k unread
    → (new : List ℕ) → ReadingOfThese asked (symbols ++ new) these mirrored k (unread ++ new)
reading_grown {asked} {unread = unread} r new =
    let o = r.hypothesis.offset in
    let few : o < 4 = (found_known asked (take 1632 r.received) (Found r.hypothesis) r.found).1 in
    record {
      before = r.before;
      received = r.received ++ new;
      split = sym (append_assoc r.before r.received new) ∙ ap (λ (l : List ℕ). l ++ new) r.split;
      enough = omega (arith, r.enough, length-append r.received new);
      hypothesis = r.hypothesis;
      found = subst (λ (l : List ℕ). Searches l (searched asked) (Found r.hypothesis)) (sym (take-append-le 1632 r.received new r.enough)) r.found;
      read = r.read;
      fed = r.fed;
      behind =
          sym (append_assoc r.read unread new) ∙ (ap (λ (l : List ℕ). l ++ new) r.behind ∙ sym (drop-append-le o r.received new (omega (arith, few, r.enough))));
    }

grown : {asked : ℕ} {symbols : List ℕ} {given : List GivenBlock} {last : ℕ} → BlocksOfReadings asked symbols given last → (new : List ℕ) → BlocksOfReadings asked (symbols ++ new) given last
unfolding reading_grown
grown none new = none
grown (more mirrored k unread b r h) new = more mirrored k (unread ++ new) (grown b new) (reading_grown r new) h

-- ---- a call of the reading

-- the symbols that the reading took are those of the call, and the others stay unread
extended : {asked : ℕ} {symbols : List ℕ} {these : List GivenBlock} {mirrored : Bool} {k : Reading} {unread : List ℕ} → ReadingOfThese asked symbols these mirrored k unread
    → (piece rest : List ℕ) (t : _) → ReadsSymbols k piece t → take t.taken piece ++ rest ≡ unread
    → ReadingOfThese asked symbols (these ++ block_in t.event) mirrored t.reading rest
extended r piece rest t f e = record {
  before = r.before;
  received = r.received;
  split = r.split;
  enough = r.enough;
  hypothesis = r.hypothesis;
  found = r.found;
  read = r.read ++ take t.taken piece;
  fed = readings.reading piece t r.fed f;
  behind = append_assoc r.read (take t.taken piece) rest ∙ (ap (λ (l : List ℕ). r.read ++ l) e ∙ r.behind);
}

-- the symbols before those that a reading did not take
reading_passed : {asked : ℕ} {symbols : List ℕ} {these : List GivenBlock} {mirrored : Bool} {k : Reading} {unread : List ℕ} (r : ReadingOfThese asked symbols these mirrored k unread)
    → r.before ++ (take r.hypothesis.offset r.received ++ r.read) ++ unread ≡ symbols
reading_passed {unread = unread} r =
    let o = r.hypothesis.offset in
    append_assoc r.before (take o r.received ++ r.read) unread
    ∙ (ap (λ (l : List ℕ). r.before ++ l)
    (append_assoc (take o r.received) r.read unread ∙ (ap (λ (l : List ℕ). take o r.received ++ l) r.behind ∙ take-append-drop o r.received))
    ∙ r.split)

read_within : {asked : ℕ} {symbols : List ℕ} {these : List GivenBlock} {mirrored : Bool} {k : Reading} {unread : List ℕ} (r : ReadingOfThese asked symbols these mirrored k unread)
    → length r.before + r.hypothesis.offset + length r.read ≡ length (r.before ++ (take r.hypothesis.offset r.received ++ r.read))
read_within {asked} r =
    let o = r.hypothesis.offset in
    let few : o < 4 = (found_known asked (take 1632 r.received) (Found r.hypothesis) r.found).1 in
    omega (
      arith,
      length-append r.before (take o r.received ++ r.read),
      length-append (take o r.received) r.read,
      length-take-le o r.received (omega (arith, few, r.enough)),
    )

-- After a call the reading goes on, or is over.
data After (asked : ℕ) (mirrored : Bool) (k : Reading) (pending : List ℕ) (came : ℕ) : Acquisition → Type 0 where
  goes_on : After asked mirrored k pending came (reading_on asked mirrored k pending came)
  over : (next : Bool) → After asked mirrored k pending came (searching_on asked next pending came)

after_is : (s : Acquisition) (piece : List ℕ) (t : _) → ReadsSymbols s.reading piece t → (pending : List ℕ) (came : ℕ) (e : Event)
    → After s.rate s.mirrored t.reading pending came (after_reading s t pending came e)
after_is s piece t f pending came Waits = goes_on
after_is s piece t f pending came (Block b) = goes_on
after_is s piece t f pending came Lost = by (ends_reading s.reading.sync.lock.locked s.reading.used)
  where
    by : (ends : Bool) → After s.rate s.mirrored t.reading pending came (lost_reading s t.reading pending came ends)
    by true = over (mirrored_next s.mirrored s.reading.used)
    by false = goes_on

-- ---- what a step leaves

module _ {asked : ℕ} {symbols : List ℕ} where
  searching_at : {given : List GivenBlock} {last : ℕ} (mirrored : Bool) (passed pending : List ℕ) (came : ℕ) → passed ++ pending ≡ symbols → BlocksOfReadings asked symbols given last → last ≤ length passed
      → came ≡ length symbols → AcquisitionCame asked symbols given (searching_on asked mirrored pending came)
  searching_at {given} mirrored passed pending came e b h n =
      subst (λ (c : ℕ). AcquisitionCame asked symbols given (searching_on asked mirrored pending c)) (sym n) (searching mirrored passed pending e b h)

  reading_at : {given these : List GivenBlock} {last : ℕ} (mirrored : Bool) (k : Reading) (pending : List ℕ) (came : ℕ) → BlocksOfReadings asked symbols given last
      → (r : ReadingOfThese asked symbols these mirrored k pending) → last ≤ length r.before → came ≡ length symbols
      → AcquisitionCame asked symbols (given ++ these) (reading_on asked mirrored k pending came)
  reading_at {given} {these} mirrored k pending came b r h n =
      subst (λ (c : ℕ). AcquisitionCame asked symbols (given ++ these) (reading_on asked mirrored k pending c)) (sym n) (reading mirrored k pending b r h)

  settled : {given these : List GivenBlock} {last : ℕ} {mirrored : Bool} {k : Reading} {pending : List ℕ} {came : ℕ} {next : Acquisition} → After asked mirrored k pending came next
      → BlocksOfReadings asked symbols given last → (r : ReadingOfThese asked symbols these mirrored k pending) → last ≤ length r.before → came ≡ length symbols
      → AcquisitionCame asked symbols (given ++ these) next
  settled {mirrored = mirrored} {k} {pending} {came} goes_on b r h n = reading_at mirrored k pending came b r h n
  settled {mirrored = mirrored} {k} {pending} {came} (over next) b r h n =
      searching_at next (r.before ++ (take r.hypothesis.offset r.received ++ r.read)) pending came (reading_passed r) (more mirrored k pending b r h) (omega (arith, read_within r)) n

  -- the search of a full window
  after_search : {given : List GivenBlock} {last : ℕ} (mirrored : Bool) (passed window : List ℕ) (came : ℕ) {search : Search} {next : Acquisition} → passed ++ window ≡ symbols → length window ≡ 1632 → came ≡ length symbols
      → BlocksOfReadings asked symbols given last → last ≤ length passed → Searches window (searched asked) search → AfterSearch asked mirrored came window search next → AcquisitionCame asked symbols given next
  after_search {given} mirrored passed window came e size n b l s (steps.found h k w) =
      let all : take 1632 window ≡ window = ap (λ (x : ℕ). take x window) (sym size) ∙ take-length window in
      let first : came - 1632 + h.offset ≡ length passed + h.offset = omega (arith, length-append passed window, ap length e, size, n) in
      subst (λ (g : List GivenBlock). AcquisitionCame asked symbols g (reading_on asked mirrored k (drop h.offset window) came)) (append-nil given)
      (reading_at mirrored k (drop h.offset window) came b
      (record {
        before = passed;
        received = window;
        split = e;
        enough = omega arith;
        hypothesis = h;
        found = subst (λ (l : List ℕ). Searches l (searched asked) (Found h)) (sym all) s;
        read = [];
        fed = readings.begun (subst (λ (f : ℕ). Begins h mirrored f k) first w);
        behind = refl;
      })
      l n)
  after_search mirrored passed window came e size n b l s steps.nothing =
      searching_at mirrored symbols [] came (append-nil symbols) b (omega (arith, length-append passed window, ap length e, l)) n
  after_search mirrored passed window came e size n b l s steps.several =
      searching_at mirrored symbols [] came (append-nil symbols) b (omega (arith, length-append passed window, ap length e, l)) n

-- ---- a step

module _ (asked : ℕ) (symbols : List ℕ) (given : List GivenBlock) (piece : List ℕ) (r : Step) where
  abbrev Left : Step → Type 0
  Left x = AcquisitionCame asked (symbols ++ take x.taken piece) (given ++ block_in x.event) x.acquisition

  -- while it searches
  hunted : {last : ℕ} (mirrored : Bool) (passed pending : List ℕ) → passed ++ pending ≡ symbols → BlocksOfReadings asked symbols given last → last ≤ length passed → length pending < 1632
      → SearchesOn (searching_on asked mirrored pending (length symbols)) piece r → Left r
  hunted mirrored passed pending e b h few (steps.gathers l x) =
      let s = searching_on asked mirrored pending (length symbols) in
      subst Left (sym x)
      (subst (λ (g : List GivenBlock). AcquisitionCame asked (symbols ++ take (length piece) piece) g (searching_on asked mirrored (pending_of s ++ piece) (length symbols + length piece))) (sym (append-nil given))
      (searching_at mirrored passed (pending_of s ++ piece) (length symbols + length piece)
      (sym (append_assoc passed (pending_of s) piece)
      ∙ (ap (λ (l : List ℕ). passed ++ l ++ piece) (front pending) ∙ (ap (λ (l : List ℕ). l ++ piece) e ∙ ap (λ (l : List ℕ). symbols ++ l) (sym (take-length piece)))))
      (grown b (take (length piece) piece)) h (omega (arith, length-append symbols (take (length piece) piece), ap length (take-length piece)))))
  hunted mirrored passed pending e b h few (steps.fills l w) =
      let s = searching_on asked mirrored pending (length symbols) in
      let n : ℕ = 1632 - length pending in
      let new : List ℕ = take n piece in
      let size : length new ≡ n = length-take-le n piece (omega arith) in
      subst Left (sym w.result)
      (subst (λ (g : List GivenBlock). AcquisitionCame asked (symbols ++ new) g w.next) (sym (append-nil given))
      (after_search mirrored passed (window_of s piece) (length symbols + n)
      (sym (append_assoc passed (pending_of s) new) ∙ (ap (λ (l : List ℕ). passed ++ l ++ new) (front pending) ∙ ap (λ (l : List ℕ). l ++ new) e))
      (length-append (pending_of s) new ∙ (let f = ap length (front pending) in omega (arith, f, size, few)))
      (omega (arith, length-append symbols new, size)) (grown b new) h w.searches w.after))

  module _ (mirrored : Bool) (k : Reading) (pending : List ℕ) {before these : List GivenBlock} {last : ℕ} (same : before ++ these ≡ given) (b : BlocksOfReadings asked symbols before last)
      (c : ReadingOfThese asked symbols these mirrored k pending) (h : last ≤ length c.before) where
    abbrev s : Acquisition
    s = reading_on asked mirrored k pending (length symbols)

    joined : (new : List GivenBlock) → before ++ (these ++ new) ≡ given ++ new
    joined new = sym (append_assoc before these new) ∙ ap (λ (g : List GivenBlock). g ++ new) same

    -- while symbols are pending that the reading has not read
    drained : steps.ReadsPending s r → Left r
    unfolding reading_grown extended
    drained d =
        let t = d.read in
        let rest : List ℕ = drop t.taken (pending_of s) in
        subst Left (sym d.result)
        (subst (λ (g : List GivenBlock). AcquisitionCame asked (symbols ++ []) g (after_reading s t rest (length symbols) t.event)) (joined (block_in t.event))
        (settled (after_is s (pending_of s) t d.reads rest (length symbols) t.event) (grown b [])
        (extended (reading_grown c []) (pending_of s) rest t d.reads (take-append-drop t.taken (pending_of s) ∙ (front pending ∙ sym (append-nil pending)))) h
        (omega (arith, length-append symbols []))))

    -- and else
    went : length pending ≡ 0 → pending ≡ [] → steps.ReadsPiece s piece r → Left r
    unfolding reading_grown extended
    went z nothing d =
        let t = d.read in
        let new : List ℕ = take t.taken piece in
        let f = d.reads in
        let turns : List ℕ = take 1632 piece in
        let most : t.taken ≤ length turns =
        omega (arith, f.settles.taken_is, (run_counts (reading_came c.fed).ready f.ready f.feeds).taken_most, length-map turns (turned_pair (undoing k.turn))) in
        let few : t.taken ≤ length piece = omega (arith, most, length-take 1632 piece) in
        let part : take t.taken turns ++ [] ≡ pending ++ new =
        append-nil (take t.taken turns) ∙ (take-take t.taken 1632 piece (omega (arith, most, length-take 1632 piece)) ∙ ap (λ (l : List ℕ). l ++ new) (sym nothing)) in
        subst Left (sym d.result)
        (subst (λ (g : List GivenBlock). AcquisitionCame asked (symbols ++ new) g (after_reading s t [] (length symbols + t.taken) t.event)) (joined (block_in t.event))
        (settled (after_is s turns t f [] (length symbols + t.taken) t.event) (grown b new) (extended (reading_grown c new) turns [] t f part) h
        (omega (arith, length-append symbols new, length-take-le t.taken piece few))))

empty : (l : List ℕ) → length l ≡ 0 → l ≡ []
empty l e = sym (take-length l) ∙ ap (λ (n : ℕ). take n l) e

stepped : {asked : ℕ} {symbols : List ℕ} {given : List GivenBlock} {s : Acquisition} (piece : List ℕ) (r : Step) → AcquisitionCame asked symbols given s → AcquisitionReady s → StepsAcquisition s piece r
    → AcquisitionCame asked (symbols ++ take r.taken piece) (given ++ block_in r.event) r.acquisition
stepped {asked} {symbols} {given} piece r (searching mirrored passed pending e b l) ready (steps.hunts p h) = hunted asked symbols given piece r mirrored passed pending e b l ready.phase_ready.window_few h
stepped {asked} {symbols} {given} piece r (searching mirrored passed pending e b l) ready (steps.drains p h d) = absurd (true≢false (sym (ap is_reads p)))
stepped {asked} {symbols} {given} piece r (searching mirrored passed pending e b l) ready (steps.reads p h d) = absurd (true≢false (sym (ap is_reads p)))
stepped {asked} {symbols} {given} piece r (reading mirrored k pending b c l) ready (steps.hunts p h) = absurd (true≢false (ap is_reads p))
stepped {asked} {symbols} {given} piece r (reading mirrored k pending b c l) ready (steps.drains p h d) = drained asked symbols given piece r mirrored k pending refl b c l d
stepped {asked} {symbols} {given} piece r (reading mirrored k pending b c l) ready (steps.reads p h d) = went asked symbols given piece r mirrored k pending refl b c l h (empty pending h) d

-- ---- the theorems

pub acquisition_came : {asked : ℕ} {symbols : List ℕ} {given : List GivenBlock} {s : Acquisition} → AcquisitionSteps asked symbols given s → AcquisitionCame asked symbols given s
unfolding fresh_acquisition
acquisition_came fresh = searching false [] [] refl none (omega arith)
acquisition_came (step piece r before ready f) = stepped piece r (acquisition_came before) ready f

-- Whatever the pieces, every block is one of a reading, which began in a window of the symbols in which the search found its hypothesis.
pub blocks_read : {asked : ℕ} {symbols : List ℕ} {given : List GivenBlock} {s : Acquisition} → AcquisitionSteps asked symbols given s → BlocksRead asked symbols given
blocks_read a = by (acquisition_came a)
  where
    by : {asked : ℕ} {symbols : List ℕ} {given : List GivenBlock} {s : Acquisition} → AcquisitionCame asked symbols given s → BlocksRead asked symbols given
    by (searching {last = last} mirrored passed pending e b h) = record { last = last; within = omega (arith, length-append passed pending, ap length e, h); blocks = b }
    by (reading mirrored k pending b r h) = record {
      last = length r.before + r.hypothesis.offset + length r.read;
      within = omega (arith, read_within r, length-append (r.before ++ (take r.hypothesis.offset r.received ++ r.read)) pending, ap length (reading_passed r));
      blocks = more mirrored k pending b r h;
    }
