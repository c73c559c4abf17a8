-- A reading of a sender's stream goes on as long as the stream does: two decisions in a row without a block skip more bits than stand before its first block.
-- Assumes nothing.
use Rattle.std.specs.Prelude.{Option, Some, None, Ok, is_some, option_map}
use Rattle.block_sync.specs.declared.GivenBlock.{GivenBlock}
use Rattle.block_sync.proofs.Buffers.{given_same}
use Rattle.acquisition.specs.Reading.{event_of}
use Rattle.acquisition.specs.declared.FoundBlock.{FoundBlock}
use mathlib.Core.Path.{◌≡◌, refl, sym, ◌∙◌, ap}
use mathlib.Core.Bool.{Bool, true, false}
use mathlib.Core.List.{List, ◌++◌, append-nil}
use Prim.Native.Nat.{ℕ, ◌+◌, ◌<◌}
use native.Mathlib.Decide.{dec_lt}
use native.Mathlib.Omega.{arith}
use borrow.Author.Tests.{ltb-true}
use lib.Dec.{ltb}
use lib.ListN.{length}
use Rattle.common.specs.Choice.{pick}
use Rattle.common.proofs.Choice.{false_true}
use Rattle.block_sync.specs.Decision.{Decides, follows, begins, searches}
use Rattle.block_sync.specs.Feed as feed
use Rattle.block_sync.specs.Feed.{FeedsSync}
use Rattle.block_sync.specs.declared.Decision.{Decision}
use Rattle.block_sync.specs.declared.BlockSync.{BlockSync}
use Rattle.block_sync.specs.declared.SyncStep.{SyncStep}
use Rattle.block_sync.proofs.Histories.{every_history}
use Rattle.sent_sync.specs.Sent.{GivesSentSoFar}
use Rattle.sent_sync.proofs.Fronts.{none_given}
use Rattle.node_search.specs.declared.Hypothesis.{Hypothesis}
use Rattle.acquisition.specs.Reading.{TakesBits}
use Rattle.acquisition.specs.Step.{ends_reading}
use Rattle.acquisition.specs.declared.Reading.{Reading}
use Rattle.acquisition.specs.declared.Event.{Event}
use Rattle.acquisition.specs.declared.Event.TheVariants.{Waits, Block, Lost}
use Rattle.sent_acquisition.specs.Readings.{block_in, ReadingCame}
use Rattle.sent_acquisition.specs.Acquired.{Unfollowed, unfollowed}
use Rattle.sent_acquisition.proofs.Readings.{reading_came}

-- ---- a decision that no block follows

number : Event → ℕ
number Waits = 0
number (Block b) = 1
number Lost = 2

lost_not : (f : GivenBlock → FoundBlock) (o : Option GivenBlock) (skipped : ℕ) → event_of (option_map f o) skipped ≡ Lost → (is_some o ≡ false) × (ltb 0 skipped ≡ true)
unfolding number
lost_not f (Some g) skipped e = let n : number (Block (f g)) ≡ number Lost = ap number e in absurd (omega (arith, n))
lost_not f None skipped e = (refl, by (ltb 0 skipped) e)
  where
    by : (some : Bool) → pick some Lost Waits ≡ Lost → some ≡ true
    by true e = refl
    by false e = let n : number Waits ≡ number Lost = ap number e in absurd (omega (arith, n))

-- Where no block is given, there is no lock behind bits that were skipped, and none where there was none before.
unlocked_after : {s : BlockSync} {bits : List ℕ} {r : SyncStep} → FeedsSync s bits (Ok r) → is_some r.block ≡ false → (r.skipped ≡ 0 → s.lock.locked ≡ false) → r.sync.lock.locked ≡ false
unlocked_after (feed.FeedsSync.gathered h e) g k = ap (λ (y : SyncStep). y.sync.lock.locked) e ∙ k (ap (λ (y : SyncStep). y.skipped) e)
unlocked_after {s} {bits} {r} (feed.FeedsSync.turned h z t) g k = by t.decides
  where
    d : Decision
    d = t.decision

    none : is_some d.begins ≡ false
    none = sym (given_same d.begins _) ∙ (sym (ap (λ (y : SyncStep). is_some y.block) t.result) ∙ g)

    by : {l : List ℕ} → Decides s.lock l d → r.sync.lock.locked ≡ false
    by (follows a q) = false_true (sym none ∙ ap (λ (y : Decision). is_some y.begins) q)
    by (begins at a b q) = false_true (sym none ∙ ap (λ (y : Decision). is_some y.begins) q)
    by (searches a b q) = ap (λ (y : SyncStep). y.sync.lock.locked) t.result ∙ ap (λ (y : Decision). y.lock.locked) q

lost_unlocked : {s : BlockSync} {bits : List ℕ} {d : SyncStep} → TakesBits s bits d → is_some d.block ≡ false → 0 < d.skipped → d.sync.lock.locked ≡ false
lost_unlocked t g k =
    let a = ap (λ (y : SyncStep). is_some y.block) t.result in
    let b = ap (λ (y : SyncStep). y.skipped) t.result in
    let first : t.first.sync.lock.locked ≡ false = unlocked_after t.decides (sym a ∙ g) (λ z. absurd (omega (arith, b))) in
    ap (λ (y : SyncStep). y.sync.lock.locked) t.result ∙ unlocked_after t.gathers (ap (λ (o : Option GivenBlock). is_some o) t.none_given) (λ z. first)

-- ---- the reading

not_ended : (locked : Bool) (used : ℕ) → used ≡ 0 → ends_reading locked used ≡ false
not_ended true used e = refl
not_ended false used e = ap (ltb 0) e

never_ended : (locked : Bool) (used given : ℕ) → Dec (0 < given) → (0 < given → ⊥) → (given ≡ 0 → 0 < used → ⊥) → ends_reading locked used ≡ false
never_ended locked used given (yes z) f g = absurd (f z)
never_ended locked used given (no z) f g = by (dec_lt 0 used)
  where
    by : Dec (0 < used) → ends_reading locked used ≡ false
    by (yes y) = absurd (g (omega (arith, z)) y)
    by (no y) = not_ended locked used (omega (arith, y))

-- Where fewer bits than two such decisions skip stand before its first block, no call ends it.
pub goes_on : {h : Hypothesis} {mirrored : Bool} {first : ℕ} {read : List ℕ} {given : List GivenBlock} {k : Reading} {ended : Bool} → Unfollowed h mirrored first read given k ended
    → {rate turn : ℕ} (c : ReadingCame rate turn first read given k) {packets : List (List ℕ)} {b n : ℕ} {before : List ℕ} → GivesSentSoFar packets b before n given c.skipped k.sync
    → length before < 3266 → ended ≡ false
goes_on (unfollowed {symbols} {given} {k} piece r fed reads lost) c g near =
    let s = reads.settles in
    let d = s.decided in
    let e = lost_not _ d.block d.skipped (sym s.event_is ∙ lost) in
    let some : 0 < d.skipped = ltb-true 0 d.skipped e.1 in
    let same : given ++ block_in r.event ≡ given = ap (λ (x : Event). given ++ block_in x) lost ∙ append-nil given in
    let size : length (given ++ block_in r.event) ≡ length given = ap length same in
    let c₀ = reading_came fed in
    let a₀ = every_history c₀.aligned in
    let a = every_history c.aligned in
    let none : ◌≡◌ {A = ℕ} (pick (is_some d.block) 1632 0) 0 = ap (λ (x : Bool). pick x 1632 0) e.0 in
    let used : r.reading.used ≡ k.used + (d.skipped + pick (is_some d.block) 1632 0) = ap (λ (x : Reading). x.used) s.reading in
    let lock : r.reading.sync.lock.locked ≡ false = ap (λ (x : Reading). x.sync.lock.locked) s.reading ∙ lost_unlocked s.takes e.0 some in
    never_ended k.sync.lock.locked k.used (length given) (dec_lt 0 (length given)) (λ z. false_true (sym lock ∙ g.lasts (omega (arith, size))))
    (λ l₀ y.
    let m₀ = none_given a₀.aligned (sym (ap length a₀.blocks) ∙ l₀) in
    let m = none_given a.aligned (sym (ap length a.blocks) ∙ (size ∙ l₀)) in
    omega (arith, m₀, m, a₀.skips, a.skips, c₀.used_is, c.used_is, g.skips))
