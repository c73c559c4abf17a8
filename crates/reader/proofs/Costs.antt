-- The cost of a run of symbols is the sum of the costs of the steps.
-- Assumes nothing.
use mathlib.Core.Path.{◌≡◌, refl, sym, ◌∙◌, ap, ap₂, subst}
use mathlib.Core.List.{List, [], ◌∷◌, ◌++◌, map, append-nil}
use Prim.Native.Nat.{ℕ, zero, suc, ◌+◌, ◌*◌, ◌/◌, ◌%◌, ◌<◌}
use Prim.{tt}
use native.Mathlib.Omega.{arith}
use native.Mathlib.Nat.{mod-add-mod, zero-mod}
use native.Mathlib.Numerals.{add-one}
use lib.ListN.{length, get_or, length-map}
use Rattle.common.specs.Lists.{All}
use Rattle.common.proofs.Lists.{length_list_of, get_d_list_of}
use Rattle.convolutional_code.specs.Bits.{Bits, none, more}
use Rattle.convolutional_code.specs.Code.{taps_x, taps_y, next_memory, coded}
use Rattle.convolutional_code.specs.Costs.{cost_from, pair_cost}
use Rattle.puncturing.specs.Step.{pattern_length, place_next}
use Rattle.inner_code.specs.Step.{symbols_of, coder_after}
use Rattle.inner_code.specs.declared.InnerCoder.{InnerCoder}
use Rattle.branch_metrics.specs.Steps.{width, kind_cost, kind_at, first, punctured_costs, coded_cost}
use Rattle.branch_metrics.proofs.Facts.{decision_i, decision_q}
use Rattle.inner_code.specs.Encode.{coder_at}
use Rattle.reader.specs.Cost.{total_cost, run_cost, symbol_cost, costs_of, Costed}
use Rattle.viterbi_decoder.proofs.Order.{bits_head}
use Rattle.convolutional_code.proofs.Bits.{bits_tail}
use Rattle.puncturing.specs.Mode.{qpsk_count}
use Rattle.puncturing.proofs.Parts.{none_held}
use Rattle.reader.proofs.Serial.{put, flat, holding, stream, stream_symbols_lem, stream_bits}
use Rattle.reader.proofs.Patterns.{at_start, coder_whole}

-- ---- the places

none_holding : (r h : ℕ) → r < qpsk_count → holding r 0 h ≡ []
unfolding holding
none_holding r h l = rw (none_held r l)

pub bits_front : (a b : List ℕ) → Bits (a ++ b) → Bits a
bits_front [] b w = none
bits_front (x ∷ a) b (more h w) = more h (bits_front a b w)

-- the I and Q bits of the symbols of whole patterns are the stream
whole_stream : (rate m : ℕ) {bits : List ℕ} → rate < qpsk_count → m < 64 → Bits bits → length bits % pattern_length rate ≡ 0
    → stream rate 0 m bits ≡ flat (symbols_of (coder_at rate m) bits)
whole_stream rate m {bits} hr hm w e =
    let c : InnerCoder = coder_at rate m in
    let q : holding rate (coder_after c bits).place (coder_after c bits).held ≡ [] =
    ap (λ (d : InnerCoder). holding rate d.place d.held) (coder_whole rate m hr hm w e) ∙ none_holding rate 0 hr in
    sym (ap (λ (l : List ℕ). l ++ stream rate 0 m bits) (none_holding rate 0 hr))
    ∙ (stream_symbols_lem c (at_start rate m hr hm) hr w ∙ (ap (λ (l : List ℕ). flat (symbols_of c bits) ++ l) q ∙ append-nil (flat (symbols_of c bits))))

-- I and Q of every symbol are bits, also behind the last whole pattern
pub sent_bits_lem : (rate m : ℕ) {bits : List ℕ} → rate < qpsk_count → m < 64 → Bits bits → Bits (flat (symbols_of (coder_at rate m) bits))
sent_bits_lem rate m {bits} hr hm w =
    let c : InnerCoder = coder_at rate m in
    bits_front (flat (symbols_of c bits)) (holding rate (coder_after c bits).place (coder_after c bits).held)
    (subst Bits (sym (ap (λ (l : List ℕ). l ++ stream rate 0 m bits) (none_holding rate 0 hr)) ∙ stream_symbols_lem c (at_start rate m hr hm) hr w) (stream_bits rate 0 m bits))

-- so each symbol is one of four
pub sent_small : (rate m : ℕ) {bits : List ℕ} → rate < qpsk_count → m < 64 → Bits bits → All (λ s. s < 4) (symbols_of (coder_at rate m) bits)
sent_small rate m {bits} hr hm w = small (symbols_of (coder_at rate m) bits) (sent_bits_lem rate m hr hm w)
  where
    four : (s : ℕ) → s / 2 < 2 → s < 4
    four s h = omega arith

    small : (ss : List ℕ) → Bits (flat ss) → All (λ s. s < 4) ss
    small [] v = tt
    small (s ∷ ss) v = (four s (bits_head v), small ss (bits_tail (bits_tail v)))

-- ---- the costs

-- what a stream costs from place j on, where `c j v` is what deciding place j as v costs
abbrev total : (ℕ → ℕ → ℕ) → ℕ → List ℕ → ℕ
total c j [] = 0
total c j (v ∷ vs) = c j v + total c (suc j) vs

-- a cost for each symbol, by the costs of its I and its Q
pub record Splits (costs : List (ℕ → ℕ)) (c : ℕ → ℕ → ℕ) (j : ℕ) : Type 0 where
  pub at : (i s : ℕ) → i < length costs → s < 4 → get_or costs i (λ s. 0) s ≡ c (j + 2 * i) (s / 2) + c (j + 2 * i + 1) (s % 2)

tail_splits : (f : ℕ → ℕ) (fs : List (ℕ → ℕ)) (c : ℕ → ℕ → ℕ) (j : ℕ) → Splits (f ∷ fs) c j → Splits fs c (suc (suc j))
tail_splits f fs c j h = record {
  at = λ i s l four.
      let a : j + 2 * suc i ≡ suc (suc j) + 2 * i = omega arith in
      let b : j + 2 * suc i + 1 ≡ suc (suc j) + 2 * i + 1 = omega arith in
      h.at (suc i) s (omega arith) four ∙ ap₂ (λ (x y : ℕ). c x (s / 2) + c y (s % 2)) a b;
}

total_symbols : (costs : List (ℕ → ℕ)) (c : ℕ → ℕ → ℕ) (j : ℕ) (ss : List ℕ) → Splits costs c j → Bits (flat ss) → length ss ≡ length costs
    → total_cost costs ss ≡ total c j (flat ss)
unfolding total_cost
total_symbols [] c j [] h w l = refl
total_symbols [] c j (s ∷ ss) h w l = absurd (omega arith)
total_symbols (f ∷ fs) c j [] h w l = absurd (omega arith)
total_symbols (f ∷ fs) c j (s ∷ ss) h w l =
    let a : j + 2 * 0 ≡ j = omega arith in
    let b : j + 2 * 0 + 1 ≡ suc j = omega arith in
    let i : s / 2 < 2 = bits_head w in
    let e : f s ≡ c j (s / 2) + c (suc j) (s % 2) = h.at 0 s (omega arith) (omega arith) ∙ ap₂ (λ (x y : ℕ). c x (s / 2) + c y (s % 2)) a b in
    omega (arith, total_symbols fs c (suc (suc j)) ss (tail_splits f fs c j h) (bits_tail (bits_tail w)) (omega arith))

-- ---- the steps

total_put : (c : ℕ → ℕ → ℕ) (q j x y : ℕ) (r : List ℕ) → total c j (put q x y ++ r) ≡ kind_cost c q j x y + total c (j + width q) r
total_put c zero j x y r = let e : j + 0 ≡ j = omega arith in rw e (omega arith)
total_put c (suc zero) j x y r = rw add-one
total_put c (suc (suc zero)) j x y r = rw add-one
total_put c (suc (suc (suc q))) j x y r = let e : j + 2 ≡ suc (suc j) = omega arith in rw (e, add-one) (omega arith)

pub next_mod : (rate k : ℕ) → place_next rate (k % pattern_length rate) ≡ suc k % pattern_length rate
next_mod rate k = mod-add-mod k (pattern_length rate) 1 ∙ ap (λ (n : ℕ). n % pattern_length rate) (add-one k)

bridge : (rate : ℕ) (c : ℕ → ℕ → ℕ) (k m : ℕ) (bs : List ℕ)
    → total c (first rate k) (stream rate (k % pattern_length rate) m bs) ≡ cost_from (punctured_costs rate c) k m bs
unfolding punctured_costs first stream cost_from
bridge rate c k m [] = refl
bridge rate c k m (b ∷ bs) =
    ap (λ (p : ℕ). total c (first rate k) (put (kind_at rate k) (coded taps_x m b) (coded taps_y m b) ++ stream rate p (next_memory m b) bs)) (next_mod rate k)
    ∙ (total_put c (kind_at rate k) (first rate k) (coded taps_x m b) (coded taps_y m b) (stream rate (suc k % pattern_length rate) (next_memory m b) bs)
    ∙ ap (λ (t : ℕ). punctured_costs rate c k m b + t) (bridge rate c (suc k) (next_memory m b) bs))

-- what a run costs, by the coder's definition, is the sum of the steps of the trellis
pub run_is : (costs : List (ℕ → ℕ)) (c : ℕ → ℕ → ℕ) → Splits costs c 0 → (rate m : ℕ) {bits : List ℕ} → rate < qpsk_count → m < 64 → Bits bits
    → length bits % pattern_length rate ≡ 0 → length (symbols_of (coder_at rate m) bits) ≡ length costs
    → run_cost costs rate m bits ≡ cost_from (punctured_costs rate c) 0 m bits
unfolding first
run_is costs c h rate m {bits} hr hm w e l =
    total_symbols costs c 0 (symbols_of (coder_at rate m) bits) h (sent_bits_lem rate m hr hm w) l
    ∙ (ap (total c 0) (sym (whole_stream rate m hr hm w e))
    ∙ (ap (λ (p : ℕ). total c 0 (stream rate p m bits)) (sym (zero-mod (pattern_length rate))) ∙ bridge rate c 0 m bits))

-- ---- a pair of decisions for each symbol

pub own_splits : (l : List ℕ) → Splits (costs_of l) (coded_cost l) 0
unfolding costs_of pair_cost
own_splits l = record {
  at = λ i s h four.
      let k : i < length l = rw (length_list_of (length l) (symbol_cost l)) at h in
      let z : 0 + 2 * i ≡ 2 * i = omega arith in
      ap (λ (f : ℕ → ℕ). f s) (get_d_list_of (length l) (symbol_cost l) (λ s. 0) i k)
      ∙ sym (rw (z, decision_i l i, decision_q l i));
}

-- the sum of what a list costs more at its first n places
abbrev pub excess : (ℕ → ℕ) → ℕ → ℕ
excess extra zero = 0
excess extra (suc n) = extra 0 + excess (λ i. extra (suc i)) n

total_lifted : (fs gs : List (ℕ → ℕ)) (extra : ℕ → ℕ) (ss : List ℕ) → length fs ≡ length ss → length gs ≡ length ss → All (λ s. s < 4) ss
    → ((i s : ℕ) → i < length gs → s < 4 → get_or gs i (λ s. 0) s + extra i ≡ get_or fs i (λ s. 0) s)
    → total_cost fs ss ≡ total_cost gs ss + excess extra (length ss)
unfolding total_cost
total_lifted [] [] extra [] a b w h = refl
total_lifted [] (g ∷ gs) extra [] a b w h = absurd (omega arith)
total_lifted (f ∷ fs) gs extra [] a b w h = absurd (omega arith)
total_lifted [] gs extra (s ∷ ss) a b w h = absurd (omega arith)
total_lifted (f ∷ fs) [] extra (s ∷ ss) a b w h = absurd (omega arith)
total_lifted (f ∷ fs) (g ∷ gs) extra (s ∷ ss) a b w h =
    omega (
      arith,
      h 0 s (omega arith) w.0,
      total_lifted fs gs (λ i. extra (suc i)) ss (omega arith) (omega arith) w.1 (λ i t l four. h (suc i) t (omega arith) four),
    )

-- what the list makes a sequence cost is what the symbols do, and what the list costs more
pub costs_lifted : {R : Type 0} (cost : R → ℕ → ℕ) (rs : List R) (l : List ℕ) (c : Costed cost rs l) (rate m : ℕ) → rate < qpsk_count → m < 64 → (bits : List ℕ) → Bits bits
    → length (symbols_of (coder_at rate m) bits) ≡ length rs → run_cost (costs_of l) rate m bits ≡ run_cost (map cost rs) rate m bits + excess c.extra (length rs)
unfolding costs_of
costs_lifted cost rs l c rate m hr hm bits w n =
    total_lifted (costs_of l) (map cost rs) c.extra (symbols_of (coder_at rate m) bits) (length_list_of (length l) (symbol_cost l) ∙ c.size ∙ sym n) (length-map rs cost ∙ sym n)
    (sent_small rate m hr hm w)
    (λ i s h four.
    let k : i < length rs = rw length-map at h in
    let j : i < length l = omega (arith, c.size) in
    c.each i s k four ∙ sym (ap (λ (f : ℕ → ℕ). f s) (get_d_list_of (length l) (symbol_cost l) (λ s. 0) i j)))
    ∙ ap (λ (k : ℕ). run_cost (map cost rs) rate m bits + excess c.extra k) n
