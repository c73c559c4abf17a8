-- Blocks of a sender in stretches, cut by blocks that were not given: a packet that is given at another place than its own has a line.
-- Assumes nothing.
use mathlib.Core.Path.{◌≡◌, refl, sym, ap, ◌∙◌, subst}
use mathlib.Core.Bool.{Bool, true, false, false≢true}
use mathlib.Core.List.{List, [], ◌∷◌, ◌++◌}
use mathlib.Core.Logic.{◌⊎◌, inl, inr}
use Prim.Native.Nat.{ℕ, zero, suc, ◌+◌, ◌%◌, ◌≤◌, ◌<◌}
use Prim.{tt, Unit}
use native.Mathlib.Decide.{dec_lt, ℕ_discrete}
use native.Mathlib.Omega.{arith}
use borrow.Author.Tests.{ne_eqb, lt-ltb, le-ltb, eqb-true}
use lib.Dec.{eqb}
use lib.ListN.{get_or}
use Rattle.std.proofs.Common.{Option, Some, None}
use Rattle.common.specs.Choice.{pick}
use Rattle.group_sync.specs.Group.{due_byte, later_place, sync_in_range, group_step, step}
use Rattle.group_sync.specs.Stream.{outcomes}
use Rattle.group_sync.specs.declared.Outcome.{Outcome}
use Rattle.group_sync.specs.declared.Outcome.TheVariants.{Filling, Delivered, Lost, Waiting, OutOfStep}
use Rattle.group_sync.specs.declared.GroupSync.{GroupSync}
use Rattle.group_sync.specs.declared.GroupStep.{GroupStep}
use Rattle.group_sync.proofs.Streams.{next_place}
use Rattle.group_sync.proofs.Synchronization.{sync_in_range_lem}
use Rattle.losses.specs.List.{line, confirmed, lines_from, line_of, sure_after}
use Rattle.losses.specs.Promise.{In}
use Rattle.losses.proofs.Lines.{place_small}
use Rattle.losses.proofs.Steps.{NotGiven, Stepped, passed, starts, follows, stepped}

-- ---- members

in_behind : (x : ℕ) (xs ys : List ℕ) → In x ys → In x (xs ++ ys)
in_behind x [] ys h = h
in_behind x (y ∷ xs) ys h = inr (in_behind x xs ys h)

-- a block behind the first
pub behind : (block i answer : ℕ) (P : Type 0) (own others : List ℕ) → P ⊎ In (line (block + 1 + i) answer) others → P ⊎ In (line (block + suc i) answer) (own ++ others)
behind block i answer P own others (inl y) = inl y
behind block i answer P own others (inr y) =
    let z : block + 1 + i ≡ block + suc i = omega arith in
    inr (in_behind (line (block + suc i) answer) own others (subst (λ (k : ℕ). In (line k answer) others) z y))

-- ---- a place and the number of its block

accepted_same : (a b : ℕ) → Some a ≡ Some b → a ≡ b
accepted_same a b e = ap first e
  where
    first : Option ℕ → ℕ
    first None = 0
    first (Some x) = x

-- a block of a sender that begins with B8 is the first of a group
first_of_group : (d : Option ℕ) (n : ℕ) → d ≡ Some 0xB8 → d ≡ Some (due_byte (n % 8)) → n % 8 ≡ 0
first_of_group d n e f = by (ℕ_discrete (n % 8) 0)
  where
    by : Dec (n % 8 ≡ 0) → n % 8 ≡ 0
    by (yes z) = z
    by (no z) =
        let b : 0xB8 ≡ due_byte (n % 8) = accepted_same 0xB8 (due_byte (n % 8)) (sym e ∙ f) in
        let c : due_byte (n % 8) ≡ 0x47 = simp (ne_eqb (n % 8) 0 z) in
        absurd (omega arith)

after_small : (p : ℕ) → later_place p ≡ 0 → 7 ≤ p
after_small p e = by (dec_lt p 7)
  where
    by : Dec (p < 7) → 7 ≤ p
    by (yes l) = let f : later_place p ≡ p + 1 = simp (lt-ltb p 7 l) in absurd (omega arith)
    by (no l) = omega arith

after_next : (p q : ℕ) → 0 < q → q ≡ later_place p → (p < 7) × (q ≡ p + 1)
after_next p q h e = by (dec_lt p 7)
  where
    by : Dec (p < 7) → (p < 7) × (q ≡ p + 1)
    by (yes l) = (l, e ∙ simp (lt-ltb p 7 l))
    by (no l) = let f : later_place p ≡ 0 = simp (le-ltb p 7 (omega arith)) in absurd (omega arith)

known_same : (p q : ℕ) → Some p ≡ Some q → p ≡ q
known_same p q e = ap number e
  where
    number : Option ℕ → ℕ
    number None = 0
    number (Some x) = x

-- ---- blocks of a sender

-- a packet is given
abbrev pub Given : Outcome → Type 0
Given Filling = ⊥
Given (Delivered place) = Unit {0}
Given Lost = ⊥
Given Waiting = ⊥
Given OutOfStep = ⊥

abbrev pub FirstGiven : List Outcome → Type 0
FirstGiven [] = ⊥
FirstGiven (o ∷ os) = Given o

-- block i is block n i of a sender where it is given, and those that follow each other do so in the sender
abbrev pub Sent : GroupSync → List (Option ℕ) → (ℕ → ℕ) → Type 0
Sent s [] n = Unit {0}
Sent s (d ∷ ds) n =
    (Given (group_step s d).outcome → d ≡ Some (due_byte (n 0 % 8)))
    × (Given (group_step s d).outcome → FirstGiven (outcomes (group_step s d).sync ds) → n 1 ≡ n 0 + 1)
    × Sent (group_step s d).sync ds (λ i. n (suc i))

-- ---- a packet that is confirmed is at its place

module _ (ds : List (Option ℕ)) (n : ℕ → ℕ) (p m : ℕ) (small : p ≤ 7) (place : Option ℕ) (known : place ≡ Some (later_place p)) where
  -- at the block behind it
  confirmed_step : (d : Option ℕ) (g : GroupStep) → Stepped place d g
      → (Given g.outcome → d ≡ Some (due_byte (n 0 % 8))) → (Given g.outcome → n 0 ≡ m + 1)
      → ((q : ℕ) → q ≤ 7 → g.sync.place ≡ Some (later_place q) → Given g.outcome → confirmed (later_place q) (outcomes g.sync ds) ≡ true → q ≡ n 0 % 8)
      → confirmed (later_place p) (g.outcome ∷ outcomes g.sync ds) ≡ true → p ≡ m % 8
  confirmed_step d g (passed Filling x h) a b r c = absurd h
  confirmed_step d g (passed (Delivered place) x h) a b r c = absurd h
  confirmed_step d g (passed Lost x h) a b r c = absurd (false≢true c)
  confirmed_step d g (passed Waiting x h) a b r c = absurd (false≢true c)
  confirmed_step d g (passed OutOfStep x h) a b r c = absurd (false≢true c)
  confirmed_step d g (starts e) a b r c =
      let z = first_of_group d (n 0) e (a tt) in
      let l = after_small p (eqb-true (later_place p) 0 c) in
      omega (arith, b tt)
  confirmed_step d g (follows q e k h) a b r c =
      let f = after_next p q h (known_same q (later_place p) (sym k ∙ known)) in
      let t : confirmed (later_place q) (outcomes (record { place = Some (later_place q); missed = 0 }) ds) ≡ true
      = subst (λ (x : Bool). pick x (eqb (later_place p) 0) (confirmed (later_place q) (outcomes (record { place = Some (later_place q); missed = 0 }) ds)) ≡ true) (ne_eqb q 0 (λ z. omega arith)) c in
      let y = r q (let w = f.0 in let v = f.1 in omega arith) refl tt t in
      omega (arith, b tt, f.0, f.1)

confirmed_place : (ds : List (Option ℕ)) (s : GroupSync) (n : ℕ → ℕ) (p m : ℕ) → p ≤ 7 → s.place ≡ Some (later_place p) → Sent s ds n
    → (FirstGiven (outcomes s ds) → n 0 ≡ m + 1) → confirmed (later_place p) (outcomes s ds) ≡ true → p ≡ m % 8
confirmed_place [] s n p m h k t b c = absurd (false≢true c)
confirmed_place (d ∷ ds) s n p m h k t b c =
    confirmed_step ds n p m h s.place k d (group_step s d) (stepped s d) t.0 b
    (λ q l e g f. confirmed_place ds (group_step s d).sync (λ i. n (suc i)) q (n 0) l e t.2 (t.1 g) f) c

-- ---- every packet is at its place or has a line

outcome_same : (p q : ℕ) → Delivered p ≡ Delivered q → p ≡ q
outcome_same p q e = ap place e
  where
    place : Outcome → ℕ
    place Filling = 0
    place (Delivered x) = x
    place Lost = 0
    place Waiting = 0
    place OutOfStep = 0

module _ (s : GroupSync) (r : sync_in_range s ≡ true) (block : ℕ) (n : ℕ → ℕ) (ds : List (Option ℕ)) where
  abbrev Behind : GroupStep → List Outcome
  Behind g = outcomes g.sync ds

  module _ (d : Option ℕ) where
    -- a packet whose place is not known for sure
    unsure_place : (p : ℕ) → s.place ≡ Some p → 0 < p → (t : Bool)
        → (confirmed (later_place p) (outcomes (record { place = Some (later_place p); missed = 0 }) ds) ≡ true → p ≡ n 0 % 8)
        → confirmed (later_place p) (outcomes (record { place = Some (later_place p); missed = 0 }) ds) ≡ t
        → (rest : List ℕ) → (p ≡ n 0 % 8) ⊎ In (line (block + 0) 0) (line_of block false (Delivered p) (outcomes (record { place = Some (later_place p); missed = 0 }) ds) ++ rest)
    unsure_place p e h true f c rest = inl (f c)
    unsure_place p e h false f c rest =
        let z : block + 0 ≡ block = omega arith in
        inr (simp (ne_eqb p 0 (λ y. omega arith), c) (inl (ap (λ (b : ℕ). line b 0) z)))

    head_place : (g : GroupStep) → Stepped s.place d g → (Given g.outcome → d ≡ Some (due_byte (n 0 % 8)))
        → ((p : ℕ) → p ≤ 7 → g.sync.place ≡ Some (later_place p) → Given g.outcome → confirmed (later_place p) (Behind g) ≡ true → p ≡ n 0 % 8)
        → (sure : Bool) → (sure ≡ true → Given g.outcome → s.place ≡ Some (n 0 % 8)) → (rest : List ℕ) (q : ℕ) → g.outcome ≡ Delivered q
        → (q ≡ n 0 % 8) ⊎ In (line (block + 0) 0) (line_of block sure g.outcome (Behind g) ++ rest)
    head_place g (passed o x h) a c sure b rest q e = absurd (subst NotGiven e h)
    head_place g (starts k) a c sure b rest q e = inl (sym (outcome_same 0 q e) ∙ sym (first_of_group d (n 0) k (a tt)))
    head_place g (follows p k l h) a c true b rest q e = inl (sym (outcome_same p q e) ∙ known_same p (n 0 % 8) (sym l ∙ b refl tt))
    head_place g (follows p k l h) a c false b rest q e =
        subst (λ (x : ℕ). (x ≡ n 0 % 8) ⊎ In (line (block + 0) 0) (line_of block false (Delivered p) (Behind (step (Delivered p) (Some (later_place p)) 0)) ++ rest)) (outcome_same p q e)
        (unsure_place p l h (confirmed (later_place p) (Behind (step (Delivered p) (Some (later_place p)) 0))) (c p (place_small s p l r) refl tt) refl rest)

    -- where the places are sure, the next one is that of its block
    next_sure : (g : GroupStep) → Stepped s.place d g → (Given g.outcome → d ≡ Some (due_byte (n 0 % 8)))
        → (Given g.outcome → FirstGiven (Behind g) → n 1 ≡ n 0 + 1)
        → (sure : Bool) → (sure ≡ true → Given g.outcome → s.place ≡ Some (n 0 % 8))
        → sure_after sure g.outcome ≡ true → FirstGiven (Behind g) → g.sync.place ≡ Some (n 1 % 8)
    next_sure g (passed Filling x h) a c sure b e f = absurd h
    next_sure g (passed (Delivered place) x h) a c sure b e f = absurd h
    next_sure g (passed Lost x h) a c sure b e f = absurd (false≢true e)
    next_sure g (passed Waiting x h) a c sure b e f = absurd (false≢true e)
    next_sure g (passed OutOfStep x h) a c sure b e f = absurd (false≢true e)
    next_sure g (starts k) a c sure b e f =
        let z = first_of_group d (n 0) k (a tt) in
        let y : 1 ≡ n 1 % 8 = omega (arith, c tt f) in
        ap Some y
    next_sure g (follows p k l h) a c sure b e f =
        let t : sure ≡ true = subst (λ (x : Bool). pick x true sure ≡ true) (ne_eqb p 0 (λ z. omega arith)) e in
        let y : p ≡ n 0 % 8 = known_same p (n 0 % 8) (sym l ∙ b t tt) in
        ap Some (ap later_place y ∙ next_place (n 0) ∙ ap (λ (i : ℕ). i % 8) (sym (c tt f)))

-- the theorem
pub in_place : (ds : List (Option ℕ)) (s : GroupSync) (block : ℕ) (sure : Bool) (n : ℕ → ℕ) → sync_in_range s ≡ true → Sent s ds n
    → (sure ≡ true → FirstGiven (outcomes s ds) → s.place ≡ Some (n 0 % 8))
    → (i q : ℕ) → get_or (outcomes s ds) i Lost ≡ Delivered q → (q ≡ n i % 8) ⊎ In (line (block + i) 0) (lines_from block sure (outcomes s ds))
in_place [] s block sure n r t b i q e = absurd (subst NotGiven e tt)
in_place (d ∷ ds) s block sure n r t b zero q e =
    head_place s r block n ds d (group_step s d) (stepped s d) t.0
    (λ p l k g f. confirmed_place ds (group_step s d).sync (λ i. n (suc i)) p (n 0) l k t.2 (t.1 g) f) sure b
    (lines_from (block + 1) (sure_after sure (group_step s d).outcome) (outcomes (group_step s d).sync ds)) q e
in_place (d ∷ ds) s block sure n r t b (suc i) q e =
    behind block i 0 (q ≡ n (suc i) % 8) (line_of block sure (group_step s d).outcome (outcomes (group_step s d).sync ds))
    (lines_from (block + 1) (sure_after sure (group_step s d).outcome) (outcomes (group_step s d).sync ds))
    (in_place ds (group_step s d).sync (block + 1) (sure_after sure (group_step s d).outcome) (λ j. n (suc j)) (sync_in_range_lem s d r) t.2
    (next_sure s r block n ds d (group_step s d) (stepped s d) t.0 t.1 sure b) i q e)
