-- The list is true, and nothing is missing in it. Where no mark comes, a block has a line with the answer 8 exactly where document 02's P5 answers 8.
-- Assumes nothing.
use mathlib.Core.Path.{◌≡◌, refl, sym, ap, subst, ◌∙◌}
use mathlib.Core.Bool.{Bool, true, false}
use mathlib.Core.List.{List, [], ◌∷◌, ◌++◌, map}
use mathlib.Core.Logic.{◌⊎◌, inl, inr}
use Prim.Native.Nat.{ℕ, zero, suc, ◌+◌, ◌-◌, ◌≤◌, ◌<◌}
use native.Mathlib.Nat.{not-suc-le-zero}
use native.Mathlib.Omega.{arith}
use lib.Dec.{eqb}
use lib.ListN.{length, get_or, take, drop, replicate, length-drop, length-map, length-replicate}
use lib.Seq.{take_all, get_or-append-add}
use Rattle.std.proofs.Common.{Option}
use Rattle.common.specs.Choice.{pick}
use Rattle.common.specs.Lists.{largest}
use Rattle.common.proofs.Lists.{get_d_map_in}
use Rattle.group_sync.specs.Group.{later_place, fresh_sync, group_step}
use Rattle.group_sync.specs.Stream.{outcomes}
use Rattle.group_sync.specs.declared.Outcome.{Outcome}
use Rattle.group_sync.specs.declared.Outcome.TheVariants.{Filling, Delivered, Lost, Waiting, OutOfStep}
use Rattle.group_sync.specs.declared.GroupSync.{GroupSync}
use Rattle.reception_counts.specs.Counts.{outcome_number}
use Rattle.receiver.specs.Receive.{fresh_receiver}
use Rattle.receiver.specs.Run.{Call}
use Rattle.receiver.specs.Begun.{decodings}
use Rattle.receiver.proofs.Outcomes.{Unrefused, filled_come_to}
use Rattle.losses.specs.List.{line, confirmed, line_of, sure_after, lines_from}
use Rattle.losses.specs.History.{blocks_of, LossList}
use Rattle.losses.specs.Promise.{In, answer_at, Complete}
use Rattle.losses.proofs.Stretches.{behind}
use Rattle.losses.proofs.Histories.{calls_unrefused}

-- ---- by what the blocks came to

abbrev number_at : List Outcome → ℕ → ℕ
number_at os i = outcome_number (get_or os i Lost)

-- every block was given or has a line
first_line : (o : Outcome) (os : List Outcome) (block : ℕ) (sure : Bool) (rest : List ℕ) → (outcome_number o ≡ 0) ⊎ In (line block (outcome_number o)) (line_of block sure o os ++ rest)
first_line Filling os block sure rest = inr (inl refl)
first_line (Delivered place) os block sure rest = inl refl
first_line Lost os block sure rest = inr (inl refl)
first_line Waiting os block sure rest = inr (inl refl)
first_line OutOfStep os block sure rest = inr (inl refl)

every_block : (os : List Outcome) (block : ℕ) (sure : Bool) (i : ℕ) → i < length os → (number_at os i ≡ 0) ⊎ In (line (block + i) (number_at os i)) (lines_from block sure os)
every_block [] block sure i h = absurd (not-suc-le-zero h)
every_block (o ∷ os) block sure zero h =
    let z : block ≡ block + 0 = omega arith in
    subst (λ (k : ℕ). (outcome_number o ≡ 0) ⊎ In (line k (outcome_number o)) (lines_from block sure (o ∷ os))) z
    (first_line o os block sure (lines_from (block + 1) (sure_after sure o) os))
every_block (o ∷ os) block sure (suc i) h =
    behind block i (number_at os i) (number_at os i ≡ 0) (line_of block sure o os) (lines_from (block + 1) (sure_after sure o) os)
    (every_block os (block + 1) (sure_after sure o) i (omega arith))

-- every line is that of a block
pub record LineIn (block : ℕ) (os : List Outcome) (l : ℕ) : Type 0 where
  pub index : ℕ
  pub within : index < length os
  pub is : l ≡ line (block + index) (number_at os index)

pub in_either : (x : ℕ) (a b : List ℕ) → In x (a ++ b) → In x a ⊎ In x b
in_either x [] b h = inr h
in_either x (y ∷ a) b (inl e) = inl (inl e)
in_either x (y ∷ a) b (inr h) = by (in_either x a b h)
  where
    by : In x a ⊎ In x b → In x (y ∷ a) ⊎ In x b
    by (inl g) = inl (inr g)
    by (inr g) = inr g

only_line : (l v : ℕ) → In l (v ∷ []) → l ≡ v
only_line l v (inl e) = e
only_line l v (inr h) = absurd h

pub own_line : (o : Outcome) (os : List Outcome) (block : ℕ) (sure : Bool) (l : ℕ) → In l (line_of block sure o os) → l ≡ line block (outcome_number o)
own_line Filling os block sure l h = only_line l (line block 9) h
own_line (Delivered place) os block sure l h = by (eqb place 0) sure (confirmed (later_place place) os) h
  where
    by : (z s c : Bool) → In l (pick z [] (pick s [] (pick c [] (line block 0 ∷ [])))) → l ≡ line block 0
    by true s c g = absurd g
    by false true c g = absurd g
    by false false true g = absurd g
    by false false false g = only_line l (line block 0) g
own_line Lost os block sure l h = only_line l (line block 8) h
own_line Waiting os block sure l h = only_line l (line block 10) h
own_line OutOfStep os block sure l h = only_line l (line block 11) h

pub every_line : (os : List Outcome) (block : ℕ) (sure : Bool) (l : ℕ) → In l (lines_from block sure os) → LineIn block os l
every_line [] block sure l h = absurd h
every_line (o ∷ os) block sure l h =
    by (in_either l (line_of block sure o os) (lines_from (block + 1) (sure_after sure o) os) h) (every_line os (block + 1) (sure_after sure o) l)
  where
    by : In l (line_of block sure o os) ⊎ In l (lines_from (block + 1) (sure_after sure o) os) → (In l (lines_from (block + 1) (sure_after sure o) os) → LineIn (block + 1) os l) → LineIn block (o ∷ os) l
    by (inl g) f =
        let z : block ≡ block + 0 = omega arith in
        record { index = 0; within = omega arith; is = own_line o os block sure l g ∙ ap (λ (k : ℕ). line k (outcome_number o)) z }
    by (inr g) f =
        let r = f g in
        let z : block + 1 + r.index ≡ block + suc r.index = omega arith in
        record { index = suc r.index; within = let w = r.within in omega arith; is = r.is ∙ ap (λ (k : ℕ). line k (number_at os r.index)) z }

-- ---- by the calls

outcomes_count : (ds : List (Option ℕ)) (s : GroupSync) → length (outcomes s ds) ≡ length ds
outcomes_count [] s = refl
outcomes_count (d ∷ ds) s = ap suc (outcomes_count ds (group_step s d).sync)

module _ (cs : List Call) (u : Unrefused fresh_receiver cs) where
  pub blocks_length : length (blocks_of cs) ≡ length cs - 11
  blocks_length =
      outcomes_count (decodings (drop 11 cs)) fresh_sync ∙ length-map (drop 11 cs) (λ c. Rattle.receiver.specs.Receive.decoding_of c.decoded (get_or c.left 0 0)) ∙ length-drop 11 cs

  -- call K + 12 answers what block K came to
  pub answer_is : (block : ℕ) → block + 12 ≤ length cs → answer_at cs block ≡ outcome_number (get_or (blocks_of cs) block Lost)
  unfolding fresh_receiver
  answer_is block h =
      let z : block + 11 ≡ 11 + block = omega arith in
      let e : take (length cs) (replicate 11 Filling) ≡ replicate 11 Filling = take_all (length cs) (replicate 11 Filling) (omega (arith, length-replicate 11 Filling)) in
      ap (λ (l : List ℕ). get_or l (block + 11) 0) (filled_come_to 11 cs fresh_receiver u refl).answered
      ∙ ap (λ (l : List Outcome). get_or (map outcome_number (l ++ blocks_of cs)) (block + 11) 0) e
      ∙ ap (λ (i : ℕ). get_or (map outcome_number (replicate 11 Filling ++ blocks_of cs)) i 0) z
      ∙ get_or-append-add (replicate 11 9) (map outcome_number (blocks_of cs)) block 0
      ∙ get_d_map_in outcome_number (blocks_of cs) Lost 0 block (omega (arith, blocks_length))

-- the theorem
pub complete : {bytes marks lines : List ℕ} (l : LossList bytes marks lines) → largest marks < 2 → Complete l.calls lines
complete {bytes} {marks} {lines} l small = record {
  whole = λ block h.
      subst (λ (n : ℕ). (n ≡ 0) ⊎ In (line block n) lines) (sym (answer_is l.calls unrefused block h))
      (subst (λ (x : List ℕ). (number_at os block ≡ 0) ⊎ In (line block (number_at os block)) x) (sym l.listed) (at_zero block (every_block os 0 false block (omega (arith, blocks_length l.calls unrefused)))));
  truth = λ v h.
      let r = every_line os 0 false v (subst (In v) l.listed h) in
      let c : r.index + 12 ≤ length l.calls = omega (arith, r.within, blocks_length l.calls unrefused) in
      let z : 0 + r.index ≡ r.index = omega arith in
      record { block = r.index; came = c; tells = r.is ∙ ap (λ (k : ℕ). line k (number_at os r.index)) z ∙ ap (line r.index) (sym (answer_is l.calls unrefused r.index c)) };
}
  where
    unrefused : Unrefused fresh_receiver l.calls
    unrefused = calls_unrefused l.on small l.few

    os : List Outcome
    os = blocks_of l.calls

    at_zero : (block : ℕ) → (number_at os block ≡ 0) ⊎ In (line (0 + block) (number_at os block)) (lines_from 0 false os) → (number_at os block ≡ 0) ⊎ In (line block (number_at os block)) (lines_from 0 false os)
    at_zero block h =
        let z : 0 + block ≡ block = omega arith in
        subst (λ (k : ℕ). (number_at os block ≡ 0) ⊎ In (line k (number_at os block)) (lines_from 0 false os)) z h
