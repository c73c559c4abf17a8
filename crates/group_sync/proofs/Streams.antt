-- Group synchronization over a stream: a sender's blocks begun at any of them, and one block among them with neither sync byte first.
-- Assumes nothing.
use mathlib.Core.Path.{◌≡◌, refl, sym, ap, ◌∙◌}
use mathlib.Core.List.{List, ◌∷◌, ◌++◌}
use Prim.Native.Nat.{ℕ, zero, suc, ◌+◌, ◌%◌, ◌≤◌, ◌<◌}
use native.Mathlib.Nat.{not-suc-le-zero}
use native.Mathlib.Decide.{dec_lt, ℕ_discrete}
use native.Mathlib.Omega.{arith}
use borrow.Author.Tests.{lt-ltb, le-ltb, ne_eqb}
use lib.ListN.{take, replicate}
use Rattle.std.proofs.Common.{Option, Some, None}
use Rattle.group_sync.specs.Group.{due_byte, later_place, fresh_sync, known_sync, step, group_step}
use Rattle.group_sync.specs.Stream.{outcomes, sent_from, delivered_from, before_group}
use Rattle.group_sync.specs.declared.Outcome.{Outcome}
use Rattle.group_sync.specs.declared.Outcome.TheVariants.{Delivered, Waiting, OutOfStep}
use Rattle.group_sync.specs.declared.GroupSync.{GroupSync}
use Rattle.group_sync.specs.declared.GroupStep.{GroupStep}

-- ---- one block of a sender

pub next_place : (n : ℕ) → later_place (n % 8) ≡ (n + 1) % 8
next_place n = by (dec_lt (n % 8) 7)
  where
    by : Dec (n % 8 < 7) → later_place (n % 8) ≡ (n + 1) % 8
    by (yes h) = simp (lt-ltb (n % 8) 7 h) (omega arith)
    by (no h) = simp (le-ltb (n % 8) 7 (omega arith)) (omega arith)

-- block n, with the sync byte that is due
abbrev pub sent : ℕ → Option ℕ
sent n = Some (due_byte (n % 8))

-- it is given at its place
abbrev pub on_step : ℕ → GroupStep
on_step n = step (Delivered (n % 8)) (Some ((n + 1) % 8)) 0

-- at a place that is known, whatever was missed
pub in_step : (n missed : ℕ) → group_step (known_sync (n % 8) missed) (sent n) ≡ on_step n
in_step n missed = by (ℕ_discrete (n % 8) 0)
  where
    by : Dec (n % 8 ≡ 0) → group_step (known_sync (n % 8) missed) (sent n) ≡ on_step n
    by (yes z) = let y : (n + 1) % 8 ≡ 1 = omega arith in rw (z, y)
    by (no z) = simp (ne_eqb (n % 8) 0 z, next_place n)

-- a group starts here
pub starts : (n : ℕ) → n % 8 ≡ 0 → group_step fresh_sync (sent n) ≡ on_step n
starts n z = let y : (n + 1) % 8 ≡ 1 = omega arith in rw (z, y)

pub waits : (n : ℕ) → (n % 8 ≡ 0 → ⊥) → group_step fresh_sync (sent n) ≡ step Waiting None 0
waits n z = simp (ne_eqb (n % 8) 0 z)

-- ---- a sender's blocks

-- what comes after a step that is known
after_step : (s : GroupSync) (r : Option ℕ) (rs : List (Option ℕ)) (g : GroupStep) (os : List Outcome) → group_step s r ≡ g → outcomes g.sync rs ≡ os
    → outcomes s (r ∷ rs) ≡ g.outcome ∷ os
after_step s r rs g os e o = ap (λ (x : GroupStep). x.outcome ∷ outcomes x.sync rs) e ∙ ap (λ (x : List Outcome). g.outcome ∷ x) o

-- in step: each is given, k of those m that are to come
all_given_lem : (n missed k m : ℕ) → k ≤ m → outcomes (known_sync (n % 8) missed) (sent_from n k) ≡ take k (delivered_from n m)
all_given_lem n missed zero m h = refl
all_given_lem n missed (suc k) zero h = absurd (not-suc-le-zero h)
all_given_lem n missed (suc k) (suc m) h =
    after_step (known_sync (n % 8) missed) (sent n) (sent_from (n + 1) k) (on_step n) (take k (delivered_from (n + 1) m))
    (in_step n missed) (all_given_lem (n + 1) 0 k m (omega arith))

-- fresh at block n, w blocks before the start of a group: these are waited over, and each after them is given
fresh_given : (n w k m : ℕ) → (n + w) % 8 ≡ 0 → w < 8 → k ≤ m
    → outcomes fresh_sync (sent_from n k) ≡ take k (replicate w Waiting ++ delivered_from (n + w) m)
fresh_given n w zero m z l h = refl
fresh_given n zero (suc k) zero z l h = absurd (not-suc-le-zero h)
fresh_given n zero (suc k) (suc m) z l h =
    let e : n ≡ n + 0 = omega arith in
    after_step fresh_sync (sent n) (sent_from (n + 1) k) (on_step n) (take k (delivered_from (n + 1) m))
    (starts n (omega arith)) (all_given_lem (n + 1) 0 k m (omega arith))
    ∙ ap (λ (i : ℕ). take (suc k) (delivered_from i (suc m))) e
fresh_given n (suc w) (suc k) m z l h =
    let e : n + 1 + w ≡ n + suc w = omega arith in
    after_step fresh_sync (sent n) (sent_from (n + 1) k) (step Waiting None 0) (take k (replicate w Waiting ++ delivered_from (n + 1 + w) m))
    (waits n (λ y. omega arith)) (fresh_given (n + 1) w k m (omega arith) (omega arith) (omega arith))
    ∙ ap (λ (i : ℕ). take (suc k) (replicate (suc w) Waiting ++ delivered_from i m)) e

pub begun_anywhere : (n k m : ℕ) → k ≤ m
    → outcomes fresh_sync (sent_from n k) ≡ take k (replicate (before_group n) Waiting ++ delivered_from (n + before_group n) m)
begun_anywhere n k m h = fresh_given n (before_group n) k m (omega arith) (omega arith) h

-- ---- one block with neither sync byte first, among good ones

odd_step : (n first : ℕ) → (first ≡ 0xB8 → ⊥) → (first ≡ 0x47 → ⊥)
    → group_step (known_sync (n % 8) 0) (Some first) ≡ step OutOfStep (Some ((n + 1) % 8)) 1
odd_step n first h l = by (ℕ_discrete (n % 8) 0)
  where
    by : Dec (n % 8 ≡ 0) → group_step (known_sync (n % 8) 0) (Some first) ≡ step OutOfStep (Some ((n + 1) % 8)) 1
    by (yes z) = let y : (n + 1) % 8 ≡ 1 = omega arith in simp (ne_eqb first 0xB8 h, ne_eqb first 0x47 l, z, y)
    by (no z) = simp (ne_eqb first 0xB8 h, ne_eqb first 0x47 l, ne_eqb (n % 8) 0 z, next_place n)

all_taken : (n k : ℕ) → take k (delivered_from n k) ≡ delivered_from n k
all_taken n zero = refl
all_taken n (suc k) = ap (λ (x : List Outcome). Delivered (n % 8) ∷ x) (all_taken (n + 1) k)

-- It costs its own packet and no other: the a blocks before it and the b after it are given.
-- One at least before it is good, or nothing was missed.
pub one_odd : (n missed a b first : ℕ) → (a ≡ 0 → missed ≡ 0) → (first ≡ 0xB8 → ⊥) → (first ≡ 0x47 → ⊥)
    → outcomes (known_sync (n % 8) missed) (sent_from n a ++ Some first ∷ sent_from (n + a + 1) b)
    ≡ delivered_from n a ++ OutOfStep ∷ delivered_from (n + a + 1) b
one_odd n missed zero b first m h l =
    let e : n + 0 + 1 ≡ n + 1 = omega arith in
    ap (λ (i : ℕ). outcomes (known_sync (n % 8) missed) (Some first ∷ sent_from i b)) e
    ∙ after_step (known_sync (n % 8) missed) (Some first) (sent_from (n + 1) b) (step OutOfStep (Some ((n + 1) % 8)) 1) (delivered_from (n + 1) b)
    (ap (λ (i : ℕ). group_step (known_sync (n % 8) i) (Some first)) (m refl) ∙ odd_step n first h l)
    (all_given_lem (n + 1) 1 b b (omega arith) ∙ all_taken (n + 1) b)
    ∙ ap (λ (i : ℕ). OutOfStep ∷ delivered_from i b) (sym e)
one_odd n missed (suc a) b first m h l =
    let e : n + suc a + 1 ≡ n + 1 + a + 1 = omega arith in
    ap (λ (i : ℕ). outcomes (known_sync (n % 8) missed) (sent_from n (suc a) ++ Some first ∷ sent_from i b)) e
    ∙ after_step (known_sync (n % 8) missed) (sent n) (sent_from (n + 1) a ++ Some first ∷ sent_from (n + 1 + a + 1) b) (on_step n)
    (delivered_from (n + 1) a ++ OutOfStep ∷ delivered_from (n + 1 + a + 1) b) (in_step n missed) (one_odd (n + 1) 0 a b first (λ _. refl) h l)
    ∙ ap (λ (i : ℕ). delivered_from n (suc a) ++ OutOfStep ∷ delivered_from i b) (sym e)
