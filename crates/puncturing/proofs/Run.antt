-- The puncturing of a run of coded bits, as a loop goes through it.
-- Assumes nothing.
use Rattle.std.specs.Prelude.{Option, None, Some}
use mathlib.Core.Path.{◌≡◌, ap, sym, ◌∙◌}
use mathlib.Core.List.{List, [], ◌∷◌, ◌++◌}
use Prim.Native.Nat.{ℕ, suc, ◌+◌, ◌-◌, ◌≤◌, ◌<◌}
use native.Mathlib.Numerals.{add-one}
use native.Mathlib.Omega.{arith}
use lib.ListN.{length, get_or, drop, set, length-drop}
use lib.Seq.{drop-cons}
use Rattle.common.specs.Lists.{placed}
use Rattle.common.proofs.Written.{Written, written_more, written_length}
use Rattle.common.proofs.Outputs.{placed_all}
use Rattle.convolutional_code.specs.Bits.{Bits}
use Rattle.convolutional_code.proofs.Bits.{bits_at}
use Rattle.puncturing.specs.Mode.{qpsk_count}
use Rattle.puncturing.specs.Step.{pattern_length, place_next, held_count, symbol_list, punctured, held_after}
use Rattle.puncturing.specs.Run.{punctured_symbols, pattern_place_after, held_behind, progress}
use Rattle.puncturing.specs.declared.Progress.{Progress}
use Rattle.puncturing.proofs.Places.{up}
use Rattle.puncturing.proofs.Steps.{next_lt, held_in_range}

-- before bit n of the bits from .. to: the puncturing is at place p with the held bit h, and the output is written up to count
pub record Going (r p₀ h₀ : ℕ) (l : List ℕ) (from to : ℕ) (output₀ : List ℕ) (at : ℕ) (output : List ℕ) (p h count n : ℕ) : Type 0 where
  pub rate : r < qpsk_count
  pub place : p < pattern_length r
  pub held : h ≤ held_count r p
  pub within : n ≤ to
  pub done : ℕ
  pub counted : count ≡ at + done
  pub written : Written at output₀ (punctured_symbols r p₀ h₀ l from (to - from)) output done
  pub symbols : drop done (punctured_symbols r p₀ h₀ l from (to - from)) ≡ punctured_symbols r p h l n (to - n)
  pub placing : pattern_place_after r p₀ (to - from) ≡ pattern_place_after r p (to - n)
  pub behind : held_behind r p₀ h₀ l from (to - from) ≡ held_behind r p h l n (to - n)

module _ {r p₀ h₀ : ℕ} {l : List ℕ} {from to : ℕ} {output₀ : List ℕ} {at : ℕ} {output : List ℕ} {p h count n : ℕ} (g : Going r p₀ h₀ l from to output₀ at output p h count n) (bits : Bits l) (k : n < to) where
  all : List ℕ
  all = punctured_symbols r p₀ h₀ l from (to - from)

  x : ℕ
  x = get_or l n 0

  y : ℕ
  y = get_or l (1632 + n) 0

  rest : List ℕ
  rest = punctured_symbols r (place_next r p) (held_after r p x y h) l (n + 1) (to - (n + 1))

  left : to - n ≡ suc (to - (n + 1))
  left = omega arith

  ahead : drop g.done all ≡ symbol_list (punctured r p x y h) ++ rest
  unfolding all x y rest punctured_symbols
  ahead =
      g.symbols
      ∙ ap (punctured_symbols r p h l n) left
      ∙ ap (λ (m : ℕ). symbol_list (punctured r p x y h) ++ punctured_symbols r (place_next r p) (held_after r p x y h) l m (to - (n + 1))) (sym (add-one n))

  ahead_one : {v : ℕ} → Some v ≡ punctured r p (get_or l n 0) (get_or l (1632 + n) 0) h → drop g.done all ≡ v ∷ rest
  unfolding x y
  ahead_one s = ahead ∙ ap (λ (t : Option ℕ). symbol_list t ++ rest) (sym s)

  -- the state after the bit, whether or not it completes a symbol
  stepped : {p' h' count' : ℕ} {output' : List ℕ} (done' : ℕ) → p' ≡ place_next r p → h' ≡ held_after r p (get_or l n 0) (get_or l (1632 + n) 0) h
      → count' ≡ at + done' → Written at output₀ (punctured_symbols r p₀ h₀ l from (to - from)) output' done' → drop done' all ≡ rest
      → Going r p₀ h₀ l from to output₀ at output' p' h' count' (n + 1)
  unfolding all x y rest pattern_place_after held_behind
  stepped done' ep eh ec w s = rw (ep, eh) record {
    rate = g.rate;
    place = next_lt r p g.place;
    held = held_in_range r p x y h (up r g.rate) g.place (bits_at bits (1632 + n));
    within = omega arith;
    done = done';
    counted = ec;
    written = w;
    symbols = s;
    placing = g.placing ∙ ap (pattern_place_after r p) left;
    behind =
        g.behind
        ∙ ap (held_behind r p h l n) left
        ∙ ap (λ (m : ℕ). held_behind r (place_next r p) (held_after r p x y h) l m (to - (n + 1))) (sym (add-one n));
  }

  pub going_none : {p' h' : ℕ} → p' ≡ place_next r p → h' ≡ held_after r p (get_or l n 0) (get_or l (1632 + n) 0) h
      → None ≡ punctured r p (get_or l n 0) (get_or l (1632 + n) 0) h → Going r p₀ h₀ l from to output₀ at output p' h' count (n + 1)
  unfolding x y
  going_none ep eh s = stepped g.done ep eh g.counted g.written (ahead ∙ ap (λ (t : Option ℕ). symbol_list t ++ rest) (sym s))

  output_for_lem : {v : ℕ} → Some v ≡ punctured r p (get_or l n 0) (get_or l (1632 + n) 0) h → g.done < length (punctured_symbols r p₀ h₀ l from (to - from))
  unfolding all
  output_for_lem s =
      let e : length all - g.done ≡ suc (length rest) = sym (length-drop g.done all) ∙ ap length (ahead_one s) in
      omega arith

  pub going_fits : {v : ℕ} → Some v ≡ punctured r p (get_or l n 0) (get_or l (1632 + n) 0) h → count < length output
  going_fits s = omega (arith, output_for_lem s, g.counted, g.written.output, written_length g.written)

  pub going_one : {p' h' v : ℕ} → p' ≡ place_next r p → h' ≡ held_after r p (get_or l n 0) (get_or l (1632 + n) 0) h
      → Some v ≡ punctured r p (get_or l n 0) (get_or l (1632 + n) 0) h → Going r p₀ h₀ l from to output₀ at (set output count v) p' h' (count + 1) (n + 1)
  unfolding all
  going_one {p'} {h'} {v} ep eh s =
      let split : get_or all g.done 0 ∷ drop (suc g.done) all ≡ v ∷ rest
      = sym (drop-cons all g.done 0 (output_for_lem s)) ∙ ahead_one s
      in
      let e : drop (suc g.done) all ≡ rest = cc in
      stepped (g.done + 1) ep eh (omega (arith, g.counted)) (written_more g.written count v (output_for_lem s) g.counted (cc))
      (ap (λ (m : ℕ). drop m all) (add-one g.done) ∙ e)

pub going_end : {r p₀ h₀ : ℕ} {l : List ℕ} {from to : ℕ} {output₀ : List ℕ} {at : ℕ} {output : List ℕ} {p h count n : ℕ}
    → Going r p₀ h₀ l from to output₀ at output p h count n → to ≤ n
    → (◌≡◌ {A = Progress} (record { place = p; held = h; count = count }) (progress r p₀ h₀ l from (to - from) at))
    × (output ≡ placed output₀ at (punctured_symbols r p₀ h₀ l from (to - from)))
unfolding punctured_symbols pattern_place_after held_behind
going_end {r} {p₀} {h₀} {l} {from} {to} {output₀} {at} {output} {p} {h} {count} {n} g e =
    let all : List ℕ = punctured_symbols r p₀ h₀ l from (to - from) in
    let over : to - n ≡ 0 = omega arith in
    let nothing : drop g.done all ≡ [] = g.symbols ∙ ap (punctured_symbols r p h l n) over in
    let none : length all - g.done ≡ 0 = sym (length-drop g.done all) ∙ ap length nothing in
    let full : length all ≡ g.done = omega (arith, g.written.within) in
    let place : p ≡ pattern_place_after r p₀ (to - from) = sym (g.placing ∙ ap (pattern_place_after r p) over) in
    let held : h ≡ held_behind r p₀ h₀ l from (to - from) = sym (g.behind ∙ ap (held_behind r p h l n) over) in
    let counted : count ≡ at + length all = g.counted ∙ ap (λ (m : ℕ). at + m) (sym full) in (
      λ i. record { place = place i; held = held i; count = counted i },
      placed_all g.written full,
    )
