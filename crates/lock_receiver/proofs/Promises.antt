-- What is promised of the packets that a lock gives: of a sender's blocks with any of them left out, doubled or harmed, every packet given was sent; of an
-- unbroken stream, every packet from the first start of a group on is given.
-- Assumes nothing.
use mathlib.Core.Path.{◌≡◌, refl, sym, ap, ap₂, subst, ◌∙◌}
use mathlib.Core.Bool.{Bool, false}
use mathlib.Core.List.{List, [], ◌∷◌, ◌++◌}
use mathlib.Core.Logic.{◌⊎◌, inl, inr}
use Prim.Native.Nat.{ℕ, zero, suc, ◌+◌, ◌-◌, ◌≤◌, ◌<◌}
use Prim.{tt}
use native.Mathlib.Omega.{arith}
use lib.ListN.{length, get_or, take, drop}
use Rattle.common.specs.Choice.{pick}
use Rattle.common.specs.Lists.{All}
use Rattle.common.proofs.Lists.{All-append}
use Rattle.randomizer.specs.Stream.{Packet}
use Rattle.group_sync.specs.Stream.{before_group}
use Rattle.group_sync.specs.declared.Outcome.{Outcome}
use Rattle.group_sync.specs.declared.Outcome.TheVariants.{Filling, Delivered, Lost, Waiting, OutOfStep}
use Rattle.reception_counts.specs.Counts.{outcome_number}
use Rattle.sent_blocks.specs.Blocks.{interleaved_blocks}
use Rattle.receiver.specs.Receive.{fresh_receiver}
use Rattle.receiver.specs.Run.{Call}
use Rattle.receiver.specs.Begun.{lefts, packet_of, delivered_packets, BegunAt}
use Rattle.receiver.proofs.Outcomes.{Unrefused}
use Rattle.receiver.proofs.Reception.{blocks_count, begun_anywhere}
use Rattle.losses.specs.List.{line, line_of, sure_after, lines_from}
use Rattle.losses.specs.History.{blocks_of}
use Rattle.losses.specs.Promise.{In, Stretches, LeftOut, wait_lines}
use Rattle.losses.proofs.Histories.{calls_unrefused}
use Rattle.losses.proofs.Stretches.{behind}
use Rattle.losses.proofs.Truth.{in_either, own_line, every_line}
use Rattle.losses.proofs.Gaps.{wrong_told}
use Rattle.losses.proofs.Unbroken.{unbroken}
use Rattle.losses.proofs.SentBlocks.{none_marked, stretches}
use Rattle.lock_receiver.specs.Take.{waiting_packets, waiting_told}
use Rattle.lock_receiver.specs.History.{is_none, unlisted_from, doubtful_from, LockCame, SentPacket}
use Rattle.lock_receiver.specs.declared.LockReceiver.{LockReceiver}
use Rattle.lock_receiver.proofs.Calls.{fresh_packets}

-- ---- lines of other blocks

number_small : (o : Outcome) → outcome_number o ≤ 11
number_small Filling = omega arith
number_small (Delivered place) = omega arith
number_small Lost = omega arith
number_small Waiting = omega arith
number_small OutOfStep = omega arith

module _ (block : ℕ) (sure : Bool) (o : Outcome) (os : List Outcome) where
  -- a line of a block behind the first is none of the first
  behind_line : (i : ℕ) → In (line (block + suc i) 0) (lines_from block sure (o ∷ os)) → In (line (block + 1 + i) 0) (lines_from (block + 1) (sure_after sure o) os)
  behind_line i h = by (in_either (line (block + suc i) 0) (line_of block sure o os) (lines_from (block + 1) (sure_after sure o) os) h)
    where
      by : In (line (block + suc i) 0) (line_of block sure o os) ⊎ In (line (block + suc i) 0) (lines_from (block + 1) (sure_after sure o) os) → In (line (block + 1 + i) 0) (lines_from (block + 1) (sure_after sure o) os)
      by (inl g) = absurd (omega (arith, own_line o os block sure (line (block + suc i) 0) g, number_small o))
      by (inr g) =
          let e : block + suc i ≡ block + 1 + i = omega arith in
          subst (λ (n : ℕ). In (line n 0) (lines_from (block + 1) (sure_after sure o) os)) e g

  -- the first has no line behind its own
  not_behind : line_of block sure o os ≡ [] → In (line (block + 0) 0) (lines_from block sure (o ∷ os)) → ⊥
  not_behind e h =
      let r = every_line os (block + 1) (sure_after sure o) (line (block + 0) 0) (subst (λ (l : List ℕ). In (line (block + 0) 0) (l ++ lines_from (block + 1) (sure_after sure o) os)) e h) in
      omega (arith, r.is)

-- ---- a packet that has no line

module _ (P : List ℕ → Type 0) where
  abbrev Told : ℕ → Bool → List Outcome → List (List ℕ) → Type 0
  Told block sure os ls = (i : ℕ) (p : List ℕ) → packet_of (get_or os i Lost) (get_or ls i []) ≡ p ∷ [] → P p ⊎ In (line (block + i) 0) (lines_from block sure os)

  first_unlisted : (block : ℕ) (sure : Bool) (o : Outcome) (os : List Outcome) (l : List ℕ) (ls : List (List ℕ)) → Told block sure (o ∷ os) (l ∷ ls)
      → (x : List ℕ) → line_of block sure o os ≡ x → All P (pick (is_none x) (packet_of o l) [])
  first_unlisted block sure o os l ls f (y ∷ x) e = tt
  first_unlisted block sure Filling os l ls f [] e = tt
  first_unlisted block sure (Delivered place) os l ls f [] e = (by (f 0 _ refl), tt)
    where
      by : {p : List ℕ} → P p ⊎ In (line (block + 0) 0) (lines_from block sure (Delivered place ∷ os)) → P p
      by (inl q) = q
      by (inr h) = absurd (not_behind block sure (Delivered place) os e h)
  first_unlisted block sure Lost os l ls f [] e = tt
  first_unlisted block sure Waiting os l ls f [] e = tt
  first_unlisted block sure OutOfStep os l ls f [] e = tt

  all_unlisted : (os : List Outcome) (ls : List (List ℕ)) (block : ℕ) (sure : Bool) → Told block sure os ls → All P (unlisted_from block sure os ls)
  all_unlisted [] ls block sure f = tt
  all_unlisted (o ∷ os) [] block sure f = tt
  all_unlisted (o ∷ os) (l ∷ ls) block sure f =
      All-append P (pick (is_none (line_of block sure o os)) (packet_of o l) []) (unlisted_from (block + 1) (sure_after sure o) os ls) (first_unlisted block sure o os l ls f (line_of block sure o os) refl)
      (all_unlisted os ls (block + 1) (sure_after sure o) (λ i p e. by i p (f (suc i) p e)))
    where
      by : (i : ℕ) (p : List ℕ) → P p ⊎ In (line (block + suc i) 0) (lines_from block sure (o ∷ os)) → P p ⊎ In (line (block + 1 + i) 0) (lines_from (block + 1) (sure_after sure o) os)
      by i p (inl q) = inl q
      by i p (inr h) = inr (behind_line block sure o os i h)

-- ---- every packet given was sent

module _ {blocks given : List (List ℕ)} {lines : List ℕ} {v : LockReceiver} (came : LockCame blocks given lines v) (packets : List (List ℕ)) (ws : All Packet packets) (at : ℕ → ℕ) where
  -- The blocks that were given are blocks of a sender, corrected to what was sent, in stretches that are cut by blocks that were not given.
  pub given_sent : Stretches packets at came.listed.calls → All (SentPacket packets) given
  given_sent t =
      subst (All (SentPacket packets)) (sym came.unlisted)
      (all_unlisted (SentPacket packets) (blocks_of cs) (lefts (drop 11 cs)) 0 false (λ i p e. by i p e (wrong_told came.listed packets ws at t i p e)))
    where
      cs : List Call
      cs = came.listed.calls

      within : (i : ℕ) (p left : List ℕ) (o : Outcome) → get_or (blocks_of cs) i Lost ≡ o → packet_of o left ≡ p ∷ [] → at i < length packets
      within i p left Filling e f = absurd (omega (arith, ap length f))
      within i p left (Delivered place) e f = (t.sent i place e).0
      within i p left Lost e f = absurd (omega (arith, ap length f))
      within i p left Waiting e f = absurd (omega (arith, ap length f))
      within i p left OutOfStep e f = absurd (omega (arith, ap length f))

      by : (i : ℕ) (p : List ℕ) → packet_of (get_or (blocks_of cs) i Lost) (get_or (lefts (drop 11 cs)) i []) ≡ p ∷ []
          → (p ≡ get_or packets (at i) []) ⊎ In (line i 0) (lines ++ waiting_told v)
          → SentPacket packets p ⊎ In (line (0 + i) 0) (lines_from 0 false (blocks_of cs))
      by i p e (inl q) = inl (record { number = at i; within = within i p (get_or (lefts (drop 11 cs)) i []) (get_or (blocks_of cs) i Lost) refl e; is = q })
      by i p e (inr h) =
          let z : i ≡ 0 + i = omega arith in
          inr (subst (λ (n : ℕ). In (line n 0) (lines_from 0 false (blocks_of cs))) z (subst (In (line i 0)) came.listed.listed h))

  -- Of the received blocks themselves: each is some block of a sender, unharmed, and a packet was given only where the twelve that it comes from are consecutive.
  pub gaps_given : LeftOut packets at came.listed.calls → All (SentPacket packets) given
  gaps_given t = given_sent (stretches came.listed packets ws at t)

-- ---- an unbroken stream

-- a packet in doubt has its line
own_doubt : (block : ℕ) (sure : Bool) (o : Outcome) (os : List Outcome) (l : List ℕ) (rest x : List ℕ) → line_of block sure o os ≡ x → (In (line (block + 0) 0) (x ++ rest) → ⊥)
    → (pick (is_none x) (packet_of o l) [] ≡ packet_of o l) × (pick (is_none x) [] (packet_of o l) ≡ [])
own_doubt block sure o os l rest [] e f = (refl, refl)
own_doubt block sure Filling os l rest (y ∷ x) e f = (refl, refl)
own_doubt block sure (Delivered place) os l rest (y ∷ x) e f =
    let z = own_line (Delivered place) os block sure y (subst (In y) (sym e) (inl refl)) in
    let w : line (block + 0) 0 ≡ y = omega (arith, z) in
    absurd (f (inl w))
own_doubt block sure Lost os l rest (y ∷ x) e f = (refl, refl)
own_doubt block sure Waiting os l rest (y ∷ x) e f = (refl, refl)
own_doubt block sure OutOfStep os l rest (y ∷ x) e f = (refl, refl)

-- where no block has a line for a packet in doubt, every packet is given
none_doubted : (os : List Outcome) (ls : List (List ℕ)) (block : ℕ) (sure : Bool) → ((i : ℕ) → In (line (block + i) 0) (lines_from block sure os) → ⊥)
    → (unlisted_from block sure os ls ≡ delivered_packets os ls) × (doubtful_from block sure os ls ≡ [])
none_doubted [] ls block sure f = (refl, refl)
none_doubted (o ∷ os) [] block sure f = (refl, refl)
none_doubted (o ∷ os) (l ∷ ls) block sure f =
    let a = own_doubt block sure o os l (lines_from (block + 1) (sure_after sure o) os) (line_of block sure o os) refl (f 0) in
    let r = none_doubted os ls (block + 1) (sure_after sure o) (λ i h. f (suc i) (later i h)) in
    (ap₂ (λ (x y : List (List ℕ)). x ++ y) a.0 r.0, ap₂ (λ (x y : List (List ℕ)). x ++ y) a.1 r.1)
  where
    later : (i : ℕ) → In (line (block + 1 + i) 0) (lines_from (block + 1) (sure_after sure o) os) → In (line (block + suc i) 0) (lines_from block sure (o ∷ os))
    later i h =
        by (behind block i 0 ⊥ (line_of block sure o os) (lines_from (block + 1) (sure_after sure o) os) (inr h))
      where
        by : ⊥ ⊎ In (line (block + suc i) 0) (lines_from block sure (o ∷ os)) → In (line (block + suc i) 0) (lines_from block sure (o ∷ os))
        by (inl z) = absurd z
        by (inr g) = g

-- the lines before the first start of a group are of no packet
not_waited : (n b w x : ℕ) → In (line x 0) (take n (wait_lines b w)) → ⊥
not_waited zero b w x h = h
not_waited (suc n) b zero x h = h
not_waited (suc n) b (suc w) x (inl e) = omega arith
not_waited (suc n) b (suc w) x (inr h) = not_waited n (b + 1) w x h

no_packets_lem : (a b : List (List ℕ)) → a ++ b ≡ [] → b ≡ []
no_packets_lem [] b e = e
no_packets_lem (x ∷ a) b e = absurd (omega (arith, ap length e))

module _ {blocks given : List (List ℕ)} {lines : List ℕ} {v : LockReceiver} (came : LockCame blocks given lines v) (packets : List (List ℕ)) (ws : All Packet packets) (m : ℕ)
    (within : m + length blocks ≤ length packets) (sent : blocks ≡ take (length blocks) (drop m (interleaved_blocks packets))) where
  -- The blocks of a sender from block m on: every packet from the first start of a group on is given as soon as it comes, and none waits.
  pub unbroken_given : (given ≡ take (length blocks - 11 - before_group m) (drop (m + before_group m) packets)) × (waiting_packets v ≡ [])
  unbroken_given = (came.unlisted ∙ none.0 ∙ sym (fresh_packets cs u) ∙ begun.given ∙ ap (λ (k : ℕ). take (k - 11 - before_group m) (drop (m + before_group m) packets)) count, no_packets_lem came.told (waiting_packets v) (came.doubtful ∙ none.1))
    where
      cs : List Call
      cs = came.listed.calls

      u : Unrefused fresh_receiver cs
      u = calls_unrefused came.listed.on (none_marked came.listed) came.listed.few

      count : length cs ≡ length blocks
      count = sym (blocks_count cs) ∙ ap length came.lent

      begun : BegunAt m packets cs
      begun =
          begun_anywhere packets ws m cs (omega (arith, count)) (let f = u.most in omega arith) (came.lent ∙ sent ∙ ap (λ (k : ℕ). take k (drop m (interleaved_blocks packets))) (sym count)) came.plain came.listed.on.output_fits
          came.listed.on.decodes

      lines_are : lines_from 0 false (blocks_of cs) ≡ take (length cs - 11) (wait_lines 0 (before_group m))
      lines_are = sym came.listed.listed ∙ unbroken came.listed (none_marked came.listed) m packets begun

      none : (unlisted_from 0 false (blocks_of cs) (lefts (drop 11 cs)) ≡ delivered_packets (blocks_of cs) (lefts (drop 11 cs))) × (doubtful_from 0 false (blocks_of cs) (lefts (drop 11 cs)) ≡ [])
      none = none_doubted (blocks_of cs) (lefts (drop 11 cs)) 0 false (λ i h. not_waited (length cs - 11) 0 (before_group m) (0 + i) (subst (In (line (0 + i) 0)) lines_are h))
