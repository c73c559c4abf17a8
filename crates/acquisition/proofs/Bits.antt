-- What a call of the aligner counts, and two calls that take all bits of a run.
-- Assumes nothing.
use Rattle.std.specs.Prelude.{None, Ok, is_some}
use mathlib.Core.Path.{◌≡◌, refl, sym, ap, subst}
use mathlib.Core.Bool.{Bool, true, false}
use mathlib.Core.List.{List, ◌++◌}
use Prim.Native.Nat.{ℕ, ◌+◌, ◌-◌, ◌≤◌, ◌<◌}
use native.Mathlib.Omega.{arith}
use lib.ListN.{length, take, drop, replicate, length-append, length-drop, length-replicate}
use Rattle.common.specs.Choice.{pick}
use Rattle.common.specs.Lists.{padded}
use Rattle.block_sync.specs.Decision.{Decides, used_bits, block_given, follows, begins, searches}
use Rattle.block_sync.specs.Feed.{held_bits, TurnsBuffer, FeedsSync, gathered, turned}
use Rattle.block_sync.specs.declared.Lock.{Lock}
use Rattle.block_sync.specs.declared.Decision.{Decision}
use Rattle.block_sync.specs.declared.BlockSync.{BlockSync}
use Rattle.block_sync.specs.declared.SyncStep.{SyncStep}
use Rattle.block_sync.proofs.Decisions.{used_within, skipped_within}
use Rattle.block_sync.proofs.Buffers.{held_length, full_length, given_same}
use Rattle.acquisition.specs.Reading.{used_by, TakesBits}

pub padded_length : (size : ℕ) (l : List ℕ) → length l ≤ size → length (padded size l) ≡ size
padded_length size l h =
    let a : length (l ++ replicate (size - length l) 0) ≡ length l + length (replicate {A = ℕ} (size - length l) 0) = length-append l (replicate (size - length l) 0) in
    let b : length (replicate {A = ℕ} (size - length l) 0) ≡ size - length l = length-replicate (size - length l) 0 in
    omega (arith, a, b)

-- what a call counts: all bits that came are used up or held, and a call that decides uses up a block or more
pub record FeedCounts (s : BlockSync) (piece : List ℕ) (r : SyncStep) : Type 0 where
  pub taken_most : r.taken ≤ length piece
  pub whole : used_by r + r.sync.held ≡ s.held + r.taken
  pub held_few : r.sync.held < 8168
  pub skipped_few : r.skipped ≤ 8168
  pub sized : length r.sync.bits ≡ 8168
  pub gathers_all : s.held + length piece < 8168 → (r.taken ≡ length piece) × (r.block ≡ None) × (r.skipped ≡ 0)
  pub rest_few : length piece ≤ 1632 → r.sync.held + (length piece - r.taken) < 8168

-- a decision on a full buffer
uses_some : {k : Lock} {l : List ℕ} {d : Decision} → length l ≡ 8168 → Decides k l d → 1632 ≤ used_bits d
uses_some n (follows h e) = subst (λ (x : Decision). 1632 ≤ used_bits x) (sym e) (omega arith)
uses_some n (begins at h f e) = subst (λ (x : Decision). 1632 ≤ used_bits x) (sym e) (omega arith)
uses_some n (searches h f e) = subst (λ (x : Decision). 1632 ≤ used_bits x) (sym e) (omega (arith, n))

turn_counts : (s : BlockSync) (piece l : List ℕ) (r : SyncStep) → s.held < 8168 → 8168 ≤ s.held + length piece → length l ≡ 8168
    → TurnsBuffer (8168 - s.held) s.lock l r → FeedCounts s piece r
turn_counts s piece l r h f n t =
    let d = t.decision in
    let u : used_bits d ≤ length l = used_within t.decides in
    let k : d.skipped ≤ length l = skipped_within t.decides in
    let b : 1632 ≤ used_bits d = uses_some n t.decides in
    let z : length (drop (used_bits d) l) ≡ length l - used_bits d = length-drop (used_bits d) l in
    let same : d.skipped + pick (is_some (block_given d l)) 1632 0 ≡ used_bits d = ap (λ (b : Bool). d.skipped + pick b 1632 0) (given_same d.begins _) in
    subst (λ (x : SyncStep). FeedCounts s piece x) (sym t.result)
    (record {
      taken_most = omega (arith, h, f);
      whole = omega (arith, u, z, n, h, same);
      held_few = omega (arith, u, z, n, b);
      skipped_few = omega (arith, k, n);
      sized = padded_length 8168 (drop (used_bits d) l) (omega (arith, z, n));
      gathers_all = λ g. absurd (omega (arith, g, f));
      rest_few = λ m. omega (arith, u, z, n, b, m, h);
    })

pub feed_counts : (s : BlockSync) (piece : List ℕ) (r : SyncStep) → length s.bits ≡ 8168 → s.held < 8168 → FeedsSync s piece (Ok r) → FeedCounts s piece r
feed_counts s piece r e h (gathered g x) =
    let n : length (held_bits s) ≡ s.held = held_length s e (omega (arith, h)) in
    let m : length (held_bits s ++ piece) ≡ length (held_bits s) + length piece = length-append (held_bits s) piece in
    subst (λ (y : SyncStep). FeedCounts s piece y) (sym x)
    (record {
      taken_most = omega arith;
      whole = omega (arith, n, m);
      held_few = omega (arith, n, m, g);
      skipped_few = omega arith;
      sized = padded_length 8168 (held_bits s ++ piece) (omega (arith, n, m, g));
      gathers_all = λ l. (refl, refl, refl);
      rest_few = λ l. omega (arith, n, m, g);
    })
feed_counts s piece r e h (turned g f t) = turn_counts s piece (held_bits s ++ take (8168 - s.held) piece) r h f (full_length s piece e h (omega (arith, f))) t

-- two calls take all bits of a run, and the second decides nothing
pub takes_bits : (s : BlockSync) (bits : List ℕ) (f g : SyncStep) → length s.bits ≡ 8168 → s.held < 8168 → length bits ≤ 1632
    → FeedsSync s bits (Ok f) → FeedsSync f.sync (drop f.taken bits) (Ok g)
    → TakesBits s bits (record { taken = length bits; skipped = f.skipped; block = f.block; sync = g.sync })
takes_bits s bits f g e h n x y =
    let a = feed_counts s bits f e h x in
    let b = feed_counts f.sync (drop f.taken bits) g a.sized a.held_few y in
    let z : length (drop f.taken bits) ≡ length bits - f.taken = length-drop f.taken bits in
    let few : f.sync.held + length (drop f.taken bits) < 8168 = omega (arith, a.rest_few n, z) in
    let all = b.gathers_all few in
    let t : f.taken + g.taken ≡ length bits = omega (arith, all.0, z, a.taken_most) in
    let used : used_by g ≡ 0 = none_used g all.1 all.2 in
    record {
      first = f;
      second = g;
      decides = x;
      gathers = y;
      whole = t;
      none_given = all.1;
      none_skipped = all.2;
      small = b.held_few;
      counted = omega (arith, a.whole, b.whole, used, t);
      result = refl;
    }
  where
    none_used : (r : SyncStep) → r.block ≡ None → r.skipped ≡ 0 → used_by r ≡ 0
    none_used r p q = simp (p, q)

-- what is known of a run's bits that were taken
pub record TakenFew (s : BlockSync) (bits : List ℕ) (r : SyncStep) : Type 0 where
  pub skipped_few : r.skipped ≤ 8168
  pub used_few : used_by r ≤ 9800
  pub held_few : r.sync.held < 8168
  pub sized : length r.sync.bits ≡ 8168
  pub whole : used_by r + r.sync.held ≡ s.held + length bits

pub taken_few : (s : BlockSync) (bits : List ℕ) (r : SyncStep) → length s.bits ≡ 8168 → s.held < 8168 → TakesBits s bits r → TakenFew s bits r
taken_few s bits r e h t =
    let a = feed_counts s bits t.first e h t.decides in
    subst (λ (x : SyncStep). TakenFew s bits x) (sym t.result)
    (record {
      skipped_few = a.skipped_few;
      used_few = few t.first a.skipped_few;
      held_few = t.small;
      sized = (feed_counts t.first.sync (drop t.first.taken bits) t.second a.sized a.held_few t.gathers).sized;
      whole = t.counted;
    })
  where
    by : (g : Bool) (k : ℕ) → k ≤ 8168 → k + pick g 1632 0 ≤ 9800
    by true k l = omega (arith, l)
    by false k l = omega (arith, l)

    few : (x : SyncStep) → x.skipped ≤ 8168 → used_by x ≤ 9800
    few x l = by (is_some x.block) x.skipped l
