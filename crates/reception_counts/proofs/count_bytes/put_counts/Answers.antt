-- `reception_counts::count_bytes::put_counts` meets its contract.
-- Assumes nothing.
use mathlib.Core.Path.{◌≡◌, refl, sym, ap, ap₂, ◌∙◌}
use mathlib.Core.List.{List, ◌++◌, map, flatten}
use Prim.Native.Nat.{ℕ, suc, ◌+◌, ◌*◌, ◌≤◌, ◌<◌}
use native.Mathlib.Omega.{arith}
use lib.ListN.{length, get_or, take, drop, length-append, length-take, length-drop}
use lib.Seq.{take-suc}
use Rattle.common.specs.Lists.{placed}
use Rattle.common.proofs.Lists.{put_after}
use Rattle.reception_counts.specs.Bytes.{to_bytes, numbers_of, count_bytes}
use Rattle.reception_counts.proofs.Numbers.{length_to, each_length, each_snoc}
use Rattle.reception_counts.proofs.count_bytes.put_counts.Invariants.{Put}
use Rattle.reception_counts.proofs.count_bytes.put_counts.Goals as goal

module _ (output₀ numbers : List ℕ) (h : 64 ≤ length output₀) (n : length numbers ≡ 8) where
  put-start : Put output₀ numbers output₀ 0
  unfolding flatten
  put-start = record { within = omega arith; same = refl }

  front_length : (i : ℕ) → i ≤ 8 → length (flatten (map (to_bytes 8) (take i numbers))) ≡ 8 * i
  front_length i k = each_length (take i numbers) ∙ let m = length-take i numbers in omega arith

  put-length : (output : List ℕ) (i : ℕ) → Put output₀ numbers output i → length output ≡ length output₀
  put-length output i p =
      let w = p.within in
      ap length p.same ∙ length-append (flatten (map (to_bytes 8) (take i numbers))) (drop (8 * i) output₀)
      ∙ let a = front_length i w in let b = length-drop (8 * i) output₀ in omega arith

  put-more : (output next : List ℕ) (i : ℕ) → Put output₀ numbers output i → i < 8 → next ≡ placed output (8 * i) (to_bytes 8 (get_or numbers i 0))
      → Put output₀ numbers next (i + 1)
  put-more output next i p l e =
      let x : List ℕ = to_bytes 8 (get_or numbers i 0) in
      let front : List ℕ = flatten (map (to_bytes 8) (take i numbers)) in
      let more : front ++ x ≡ flatten (map (to_bytes 8) (take (i + 1) numbers))
      = each_snoc (take i numbers) (get_or numbers i 0) ∙ ap (λ (l : List ℕ). flatten (map (to_bytes 8) l)) (sym (take-suc numbers i 0 (omega arith)) ∙ ap (λ (j : ℕ). take j numbers) (step i)) in
      let end : 8 * i + length x ≡ 8 * (i + 1) = omega (arith, length_to 8 (get_or numbers i 0)) in
      record {
        within = omega arith;
        same =
            e ∙ ap (λ (r : List ℕ). placed r (8 * i) x) p.same
            ∙ put_after front x output₀ (8 * i) (front_length i p.within)
            ∙ ap₂ (λ (r : List ℕ) (j : ℕ). r ++ drop j output₀) more end;
      }
    where
      step : (i : ℕ) → suc i ≡ i + 1
      step i = omega arith

  put-end : (output : List ℕ) (i : ℕ) → Put output₀ numbers output i → 8 ≤ i → output ≡ flatten (map (to_bytes 8) (take 8 numbers)) ++ drop 64 output₀
  put-end output i p l =
      let e : i ≡ 8 = omega (arith, p.within) in
      p.same ∙ ap (λ (j : ℕ). flatten (map (to_bytes 8) (take j numbers)) ++ drop (8 * j) output₀) e

pub loop-i-init : goal.loop-i-init
loop-i-init c = let a = c.args in put-start a.output.now (numbers_of a.counts) c.requires refl

pub put_number-requires : goal.put_number-requires
put_number-requires c =
    let a = c.args in
    omega (arith, c.loop-i-test.true, put-length a.output.now (numbers_of a.counts) c.requires refl c.loop-i.output c.loop-i.i c.loop-i.invariant, c.requires)

pub loop-i-preserved : goal.loop-i-preserved
loop-i-preserved c =
    let a = c.args in
    put-more a.output.now (numbers_of a.counts) c.requires refl c.loop-i.output c.put_number.new.output c.loop-i.i c.loop-i.invariant
    c.loop-i-test.true c.put_number.ensures

pub returns : goal.returns
unfolding count_bytes
returns c =
    let a = c.args in
    put-end a.output.now (numbers_of a.counts) c.requires refl c.loop-i.output c.loop-i.i c.loop-i.invariant (omega arith)
