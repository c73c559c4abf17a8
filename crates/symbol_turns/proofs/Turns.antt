-- The eight turns: each is undone by one of them, of symbols and of decisions. Decisions that are turned with the symbols cost the same, and what is clear
-- about turned symbols is clear about those before the turn.
-- Assumes nothing.
use mathlib.Core.Path.{◌≡◌, refl, sym, ◌∙◌, ap}
use mathlib.Core.Bool.{Bool}
use mathlib.Core.List.{List, [], ◌∷◌, map}
use Prim.Native.Nat.{ℕ, zero, suc, ◌+◌, ◌%◌, ◌<◌}
use Prim.{tt}
use native.Mathlib.Omega.{arith}
use lib.Dec.{T, eqb, ltb, eqb→eq, ltb→lt}
use lib.ListN.{length, get_or, length-map}
use lib.Seq.{ext_get_or}
use Rattle.common.specs.Lists.{All}
use Rattle.common.proofs.Computed.{below, below_at}
use Rattle.common.proofs.Lists.{All-at, get_d_map_in, length_list_of, get_d_list_of}
use Rattle.convolutional_code.specs.Costs.{pair_cost}
use Rattle.reader.specs.Clear.{Clear, AllClear, none, more}
use Rattle.reader.specs.Cost.{symbol_cost, costs_of, Costed}
use Rattle.symbol_turns.specs.Turn.{turned, undoing, turned_pair, turned_cost, by_pair, inverts_i, inverts_q, exchanged_pair}

-- a test that passes at every turn and at every number below n
over : (n : ℕ) (f : ℕ → ℕ → Bool) → T (below (λ t. below (f t) n) 8) → (t s : ℕ) → t < 8 → s < n → T (f t s)
over n f w t s ht hs = below_at (f t) n (below_at (λ t. below (f t) n) 8 w t ht) s hs

pub turned_small : (t s : ℕ) → t < 8 → s < 4 → turned t s < 4
unfolding turned
turned_small t s ht hs = ltb→lt (turned t s) 4 (over 4 (λ t s. ltb (turned t s) 4) tt t s ht hs)

pub turned_all : (t : ℕ) → t < 8 → (ss : List ℕ) → All (λ s. s < 4) ss → All (λ s. s < 4) (map (turned t) ss)
turned_all t ht [] w = tt
turned_all t ht (s ∷ ss) w = (turned_small t s ht w.0, turned_all t ht ss w.1)

pub undoing_small : (t : ℕ) → t < 8 → undoing t < 8
unfolding undoing
undoing_small t ht = ltb→lt (undoing t) 8 (below_at (λ t. ltb (undoing t) 8) 8 tt t ht)

-- each turn is undone
pub undone : (t s : ℕ) → t < 8 → s < 4 → turned (undoing t) (turned t s) ≡ s
unfolding turned undoing
undone t s ht hs = eqb→eq (turned (undoing t) (turned t s)) s (over 4 (λ t s. eqb (turned (undoing t) (turned t s)) s) tt t s ht hs)

-- so no two symbols become one
pub turned_one : (t a b : ℕ) → t < 8 → a < 4 → b < 4 → turned t a ≡ turned t b → a ≡ b
turned_one t a b ht ha hb e = sym (undone t a ht ha) ∙ (ap (turned (undoing t)) e ∙ undone t b ht hb)

-- ---- decisions

pub pair_small : (t p : ℕ) → t < 8 → p < 81 → turned_pair t p < 81
unfolding turned_pair
pair_small t p ht hp = ltb→lt (turned_pair t p) 81 (over 81 (λ t p. ltb (turned_pair t p) 81) tt t p ht hp)

pub pair_undone : (t p : ℕ) → t < 8 → p < 81 → turned_pair (undoing t) (turned_pair t p) ≡ p
unfolding turned_pair undoing
pair_undone t p ht hp = eqb→eq (turned_pair (undoing t) (turned_pair t p)) p (over 81 (λ t p. eqb (turned_pair (undoing t) (turned_pair t p)) p) tt t p ht hp)

-- the code's way
pub exchanged : (t p : ℕ) → t < 8 → p < 81 → exchanged_pair (eqb (t % 2) 1) (eqb (get_or inverts_i t 0) 1) (eqb (get_or inverts_q t 0) 1) p ≡ turned_pair t p
unfolding exchanged_pair turned_pair
exchanged t p ht hp =
    eqb→eq (exchanged_pair (eqb (t % 2) 1) (eqb (get_or inverts_i t 0) 1) (eqb (get_or inverts_q t 0) 1) p) (turned_pair t p)
    (over 81 (λ t p. eqb (exchanged_pair (eqb (t % 2) 1) (eqb (get_or inverts_i t 0) 1) (eqb (get_or inverts_q t 0) 1) p) (turned_pair t p)) tt t p ht hp)

-- decisions that are turned back make a symbol cost what they made it cost as it came, turned
pub back_cost : (t p s : ℕ) → t < 8 → p < 81 → s < 4 → by_pair (turned_pair (undoing t) p) s ≡ by_pair p (turned t s)
unfolding turned_pair turned undoing pair_cost
back_cost t p s ht hp hs =
    eqb→eq (by_pair (turned_pair (undoing t) p) s) (by_pair p (turned t s))
    (below_at (λ s. eqb (by_pair (turned_pair (undoing t) p) s) (by_pair p (turned t s))) 4
    (over 81 (λ t p. below (λ s. eqb (by_pair (turned_pair (undoing t) p) s) (by_pair p (turned t s))) 4) tt t p ht hp) s hs)

pub pairs_small : (t : ℕ) → t < 8 → (l : List ℕ) → All (λ p. p < 81) l → All (λ p. p < 81) (map (turned_pair t) l)
pairs_small t ht [] w = tt
pairs_small t ht (p ∷ l) w = (pair_small t p ht w.0, pairs_small t ht l w.1)

-- what a list of decisions makes symbols cost is what each of its pairs does
pub costs_map : (l : List ℕ) → costs_of l ≡ map by_pair l
unfolding costs_of
costs_map l =
    ext_get_or (λ s. 0) (costs_of l) (map by_pair l) (length_list_of (length l) (symbol_cost l) ∙ sym (length-map l by_pair))
    (λ i h.
    let k : i < length l = rw (length_list_of (length l) (symbol_cost l)) at h in
    get_d_list_of (length l) (symbol_cost l) (λ s. 0) i k ∙ sym (get_d_map_in by_pair l 0 (λ s. 0) i k))

-- ---- received symbols of any kind

module _ {R : Type 0} (cost : R → ℕ → ℕ) (t : ℕ) (ht : t < 8) where
  -- what is clear about a symbol that was turned is clear about the one before the turn
  clear_one : {r : R} {s : ℕ} → s < 4 → Clear cost r (turned t s) → Clear (turned_cost cost t) r s
  clear_one {r} {s} hs c = record {
    free_sent = c.free_sent;
    only = λ other h z. turned_one t other s ht h hs (c.only (turned t other) (turned_small t other ht h) z);
  }

  pub clear_turned : {rs : List R} (ss : List ℕ) → All (λ s. s < 4) ss → AllClear cost rs (map (turned t) ss) → AllClear (turned_cost cost t) rs ss
  clear_turned [] w none = none
  clear_turned (s ∷ ss) w (more {r = r} {rs = rs} c g) = more (clear_one w.0 c) (clear_turned {rs = rs} ss w.1 g)

  -- the decisions turned back are those on the symbols before the turn
  pub costed_turned : {rs : List R} {l : List ℕ} → All (λ p. p < 81) l → Costed cost rs l → Costed (turned_cost cost t) rs (map (turned_pair (undoing t)) l)
  costed_turned {rs} {l} w c = record {
    size = length-map l (turned_pair (undoing t)) ∙ c.size;
    extra = c.extra;
    each = λ i s h four.
        let b : i < length l = omega (arith, c.size) in
        ap (λ (x : ℕ). x + c.extra i) (mapped rs i s h)
        ∙ c.each i (turned t s) h (turned_small t s ht four)
        ∙ sym (ap (λ (p : ℕ). by_pair p s) (get_d_map_in (turned_pair (undoing t)) l 0 0 i b) ∙ back_cost t (get_or l i 0) s ht (All-at (λ p. p < 81) l 0 i w b) four);
  }
    where
      mapped : (rs : List R) (i s : ℕ) → i < length rs → get_or (map (turned_cost cost t) rs) i (λ s. 0) s ≡ get_or (map cost rs) i (λ s. 0) (turned t s)
      mapped [] i s h = absurd (omega arith)
      mapped (r ∷ rs) zero s h = refl
      mapped (r ∷ rs) (suc i) s h = mapped rs i s (omega arith)
