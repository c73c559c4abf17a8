-- A stream without gap and harm, begun at any block of a sender: the list has the answers 10 at its start, and nothing else.
-- Assumes nothing.
use mathlib.Core.Path.{◌≡◌, refl, sym, ap, subst, ◌∙◌}
use mathlib.Core.Bool.{Bool, true, false}
use mathlib.Core.List.{List, [], ◌∷◌, ◌++◌, map}
use Prim.Native.Nat.{ℕ, zero, suc, ◌+◌, ◌-◌, ◌<◌}
use native.Mathlib.Decide.{dec_lt, ℕ_discrete}
use native.Mathlib.Omega.{arith}
use borrow.Author.Tests.{ne_eqb}
use lib.Dec.{eqb}
use lib.ListN.{length, get_or, take, drop, replicate, length-replicate}
use lib.Seq.{take_all, take-append-add}
use Rattle.std.proofs.Common.{Option, Some, None}
use Rattle.common.specs.Choice.{pick}
use Rattle.common.specs.Lists.{largest}
use Rattle.group_sync.specs.Group.{fresh_sync, group_step}
use Rattle.group_sync.specs.Stream.{outcomes, before_group}
use Rattle.group_sync.specs.declared.Outcome.{Outcome}
use Rattle.group_sync.specs.declared.Outcome.TheVariants.{Filling, Delivered, Lost, Waiting, OutOfStep}
use Rattle.group_sync.specs.declared.GroupSync.{GroupSync}
use Rattle.group_sync.specs.declared.GroupStep.{GroupStep}
use Rattle.reception_counts.specs.Counts.{outcome_number}
use Rattle.receiver.specs.Receive.{fresh_receiver}
use Rattle.receiver.specs.Begun.{decodings, BegunAt}
use Rattle.receiver.proofs.Outcomes.{Unrefused, filled_come_to}
use Rattle.losses.specs.List.{line, lines_from}
use Rattle.losses.specs.History.{blocks_of, LossList}
use Rattle.losses.specs.Promise.{wait_lines, start_lines}
use Rattle.losses.proofs.Truth.{blocks_length}
use Rattle.losses.proofs.Histories.{calls_unrefused}

-- ---- while the places are sure, packets have no line

sure_lines : (os : List Outcome) (block n k : ℕ) → map outcome_number os ≡ take n (replicate k 0) → lines_from block true os ≡ []
sure_lines [] block n k e = refl
sure_lines (o ∷ os) block zero k e = absurd (omega (arith, ap length e))
sure_lines (o ∷ os) block (suc n) zero e = absurd (omega (arith, ap length e))
sure_lines (o ∷ os) block (suc n) (suc k) e = head o (ap (λ (l : List ℕ). get_or l 0 1) e) (sure_lines os (block + 1) n k (ap (drop 1) e))
  where
    head : (o : Outcome) → outcome_number o ≡ 0 → lines_from (block + 1) true os ≡ [] → lines_from block true (o ∷ os) ≡ []
    head Filling z r = absurd (omega arith)
    head (Delivered place) z r = by (eqb place 0)
      where
        by : (t : Bool) → pick t [] [] ++ lines_from (block + 1) (pick t true true) os ≡ []
        by true = r
        by false = r
    head Lost z r = absurd (omega arith)
    head Waiting z r = absurd (omega arith)
    head OutOfStep z r = absurd (omega arith)

-- ---- while no group start was seen

-- from a place that is not known a block is waited over, and the place stays so, or it begins a group
data Searched : GroupStep → Type 0 where
  waits : (x : GroupSync) → x.place ≡ None → Searched (record { outcome = Waiting; sync = x })
  begins : (x : GroupSync) → Searched (record { outcome = Delivered 0; sync = x })
  lost : (x : GroupSync) → Searched (record { outcome = Lost; sync = x })

searched : (missed : ℕ) (d : Option ℕ) → Searched (group_step (record { place = None; missed = missed }) d)
searched missed None = lost (record { place = None; missed = missed })
searched missed (Some first) = by (ℕ_discrete first 0xB8) (ℕ_discrete first 0x47)
  where
    by : Dec (first ≡ 0xB8) → Dec (first ≡ 0x47) → Searched (group_step (record { place = None; missed = missed }) (Some first))
    by (yes b) other = rw b (begins (record { place = Some 1; missed = 0 }))
    by (no b) (yes s) = rw s (waits (record { place = None; missed = 0 }) refl)
    by (no b) (no s) = simp (ne_eqb first 0xB8 b, ne_eqb first 0x47 s) (waits (record { place = None; missed = 0 }) refl)

module _ (ds : List (Option ℕ)) (block n w k : ℕ) where
  abbrev Waited : GroupStep → Type 0
  Waited g = lines_from block false (g.outcome ∷ outcomes g.sync ds) ≡ take n (wait_lines block w)

  abbrev Numbers : GroupStep → Type 0
  Numbers g = map outcome_number (g.outcome ∷ outcomes g.sync ds) ≡ take n (replicate w 10 ++ replicate k 0)

waited_step : (ds : List (Option ℕ)) (block n w k : ℕ) (g : GroupStep) → Searched g
    → ((x : GroupSync) (n w : ℕ) → x.place ≡ None → map outcome_number (outcomes x ds) ≡ take n (replicate w 10 ++ replicate k 0) → lines_from (block + 1) false (outcomes x ds) ≡ take n (wait_lines (block + 1) w))
    → Numbers ds block n w k g → Waited ds block n w k g
waited_step ds block zero w k g s r e = absurd (omega (arith, ap length e))
waited_step ds block (suc n) zero zero g s r e = absurd (omega (arith, ap length e))
waited_step ds block (suc n) zero (suc k) g (waits x p) r e = absurd (omega (arith, ap (λ (l : List ℕ). get_or l 0 1) e))
waited_step ds block (suc n) zero (suc k) g (begins x) r e = sure_lines (outcomes x ds) (block + 1) n k (ap (drop 1) e)
waited_step ds block (suc n) zero (suc k) g (lost x) r e = absurd (omega (arith, ap (λ (l : List ℕ). get_or l 0 1) e))
waited_step ds block (suc n) (suc w) k g (waits x p) r e = ap (λ (l : List ℕ). line block 10 ∷ l) (r x n w p (ap (drop 1) e))
waited_step ds block (suc n) (suc w) k g (begins x) r e = absurd (omega (arith, ap (λ (l : List ℕ). get_or l 0 1) e))
waited_step ds block (suc n) (suc w) k g (lost x) r e = absurd (omega (arith, ap (λ (l : List ℕ). get_or l 0 1) e))

no_blocks : (block n w k : ℕ) → ◌≡◌ {A = List ℕ} [] (take n (replicate w 10 ++ replicate k 0)) → [] ≡ take n (wait_lines block w)
no_blocks block zero w k e = refl
no_blocks block (suc n) zero k e = refl
no_blocks block (suc n) (suc w) k e = absurd (omega (arith, ap length e))

waited_lines : (ds : List (Option ℕ)) (s : GroupSync) (block n w k : ℕ) → s.place ≡ None → map outcome_number (outcomes s ds) ≡ take n (replicate w 10 ++ replicate k 0)
    → lines_from block false (outcomes s ds) ≡ take n (wait_lines block w)
waited_lines [] s block n w k p e = no_blocks block n w k e
waited_lines (d ∷ ds) s block n w k p e =
    waited_step ds block n w k (group_step s d) (subst (λ (x : Option ℕ). Searched (group_step (record { place = x; missed = s.missed }) d)) (sym p) (searched s.missed d))
    (λ x i j q. waited_lines ds x (block + 1) i j k q) e

-- ---- the theorem

pub unbroken : {bytes marks lines : List ℕ} (l : LossList bytes marks lines) → largest marks < 2 → (m : ℕ) (packets : List (List ℕ)) → BegunAt m packets l.calls
    → lines ≡ start_lines m (length l.calls)
unfolding fresh_receiver
unbroken {bytes} {marks} {lines} l small m packets b = l.listed ∙ by (dec_lt (length l.calls) 11)
  where
    unrefused : Unrefused fresh_receiver l.calls
    unrefused = calls_unrefused l.on small l.few

    none : (os : List Outcome) → length os ≡ 0 → lines_from 0 false os ≡ []
    none [] z = refl
    none (o ∷ os) z = absurd (omega arith)

    by : Dec (length l.calls < 11) → lines_from 0 false (blocks_of l.calls) ≡ start_lines m (length l.calls)
    by (yes h) =
        let z : 0 ≡ length l.calls - 11 = omega arith in
        none (blocks_of l.calls) (omega (arith, blocks_length l.calls unrefused)) ∙ ap (λ (i : ℕ). take i (wait_lines 0 (before_group m))) z
    by (no h) =
        waited_lines (decodings (drop 11 l.calls)) fresh_sync 0 (length l.calls - 11) (before_group m) (length l.calls) refl numbers
      where
        full : take (length l.calls) (replicate 11 Filling) ≡ replicate 11 Filling
        full = take_all (length l.calls) (replicate 11 Filling) (omega (arith, length-replicate 11 Filling))

        count : length l.calls ≡ 11 + (length l.calls - 11)
        count = omega arith

        numbers : map outcome_number (blocks_of l.calls) ≡ take (length l.calls - 11) (replicate (before_group m) 10 ++ replicate (length l.calls) 0)
        numbers =
            ap (λ (x : List Outcome). drop 11 (map outcome_number (x ++ blocks_of l.calls))) (sym full)
            ∙ ap (drop 11) (sym (filled_come_to 11 l.calls fresh_receiver unrefused refl).answered ∙ b.answered)
            ∙ ap (λ (i : ℕ). drop 11 (take i (replicate 11 9 ++ replicate (before_group m) 10 ++ replicate (length l.calls) 0))) count
            ∙ ap (drop 11) (take-append-add (replicate 11 9) (replicate (before_group m) 10 ++ replicate (length l.calls) 0) (length l.calls - 11))
