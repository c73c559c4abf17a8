-- A run of bits in parts: up to the next pattern, whole patterns, and the rest.
-- Assumes nothing.
use mathlib.Core.Path.{◌≡◌, refl, ap, ap₂, sym, ◌∙◌}
use mathlib.Core.List.{List, [], ◌++◌, append_assoc}
use Prim.Native.Nat.{ℕ, zero, suc, ◌+◌, ◌-◌, ◌*◌, ◌%◌, ◌≤◌, ◌<◌}
use native.Mathlib.Nat.{zero-add, add-zero, add-suc, add_assoc, suc-add, suc-mul, zero-mul, mul-zero, mul-suc, mul-mod_right, mod-add-mod, mod-eq_of_lt}
use native.Mathlib.Omega.{arith}
use lib.Dec.{ltb, ltb→lt}
use lib.ListN.{length, get_or, length-append}
use Rattle.common.proofs.Computed as computed
use Rattle.convolutional_code.specs.Bits.{Bits}
use Rattle.convolutional_code.proofs.Bits.{bits_at}
use Rattle.puncturing.specs.Mode.{mode_of, completed, qpsk_count}
use Rattle.puncturing.specs.Step.{pattern_length, place_next, held_count, symbol_list, punctured, held_after, symbols_in, punctured_by, held_by, held_count_by, count_by}
use Rattle.puncturing.specs.Run.{punctured_symbols, pattern_place_after, held_behind, pattern_symbols, patterns_symbols, i_bits, q_bits}
use Rattle.puncturing.proofs.Places.{tested_at, agreed_at, up, end, ◌&◌, Below, below}
use Rattle.puncturing.proofs.Steps.{some_bits, next_lt, held_in_range}
use Rattle.puncturing.proofs.Patterns.{length_pattern}
use Rattle.puncturing.proofs.Rates.{table}

-- ---- one run after another

sent_append : (r p h : ℕ) (l : List ℕ) (n j k : ℕ)
    → punctured_symbols r p h l n (j + k) ≡ punctured_symbols r p h l n j ++ punctured_symbols r (pattern_place_after r p j) (held_behind r p h l n j) l (n + j) k
unfolding punctured_symbols pattern_place_after held_behind
sent_append r p h l n zero k = ap₂ (λ (m i : ℕ). punctured_symbols r p h l m i) (sym (add-zero n)) (zero-add k)
sent_append r p h l n (suc j) k =
    let x = get_or l n 0 in
    let y = get_or l (1632 + n) 0 in
    let p' = place_next r p in
    let h' = held_after r p x y h in
    ap (punctured_symbols r p h l n) (suc-add j k)
    ∙ ap (λ (s : List ℕ). symbol_list (punctured r p x y h) ++ s) (sent_append r p' h' l (suc n) j k)
    ∙ sym (append_assoc (symbol_list (punctured r p x y h)) (punctured_symbols r p' h' l (suc n) j) _)
    ∙ ap
    (λ (m : ℕ). symbol_list (punctured r p x y h) ++ punctured_symbols r p' h' l (suc n) j ++ punctured_symbols r (pattern_place_after r p' j) (held_behind r p' h' l (suc n) j) l m k)
    (suc-add n j ∙ sym (add-suc n j))

place_append : (r p j k : ℕ) → pattern_place_after r p (j + k) ≡ pattern_place_after r (pattern_place_after r p j) k
unfolding pattern_place_after
place_append r p zero k = ap (pattern_place_after r p) (zero-add k)
place_append r p (suc j) k = ap (pattern_place_after r p) (suc-add j k) ∙ place_append r (place_next r p) j k

held_append : (r p h : ℕ) (l : List ℕ) (n j k : ℕ)
    → held_behind r p h l n (j + k) ≡ held_behind r (pattern_place_after r p j) (held_behind r p h l n j) l (n + j) k
unfolding pattern_place_after held_behind
held_append r p h l n zero k = ap₂ (λ (m i : ℕ). held_behind r p h l m i) (sym (add-zero n)) (zero-add k)
held_append r p h l n (suc j) k =
    let p' = place_next r p in
    let h' = held_after r p (get_or l n 0) (get_or l (1632 + n) 0) h in
    ap (held_behind r p h l n) (suc-add j k)
    ∙ held_append r p' h' l (suc n) j k
    ∙ ap (λ (m : ℕ). held_behind r (pattern_place_after r p' j) (held_behind r p' h' l (suc n) j) l m k) (suc-add n j ∙ sym (add-suc n j))

held_behind_lem : (r p h : ℕ) (l : List ℕ) (n k : ℕ) → r < qpsk_count → p < pattern_length r → h ≤ held_count r p → Bits l
    → held_behind r p h l n k ≤ held_count r (pattern_place_after r p k)
unfolding pattern_place_after held_behind
held_behind_lem r p h l n zero hr hp hh t = hh
held_behind_lem r p h l n (suc k) hr hp hh t =
    held_behind_lem r (place_next r p) (held_after r p (get_or l n 0) (get_or l (1632 + n) 0) h) l (suc n) k hr (next_lt r p hp)
    (held_in_range r p (get_or l n 0) (get_or l (1632 + n) 0) h (up r hr) hp (bits_at t (1632 + n))) t

-- ---- how many symbols

pub symbols_in_append : (r p j k : ℕ) → symbols_in r p (j + k) ≡ symbols_in r p j + symbols_in r (pattern_place_after r p j) k
unfolding count_by pattern_place_after
symbols_in_append r p zero k = ap (symbols_in r p) (zero-add k) ∙ sym (zero-add _)
symbols_in_append r p (suc j) k =
    ap (symbols_in r p) (suc-add j k)
    ∙ ap (λ (m : ℕ). length (completed (mode_of r) (p + 1)) + m) (symbols_in_append r (place_next r p) j k)
    ∙ sym (add_assoc (length (completed (mode_of r) (p + 1))) (symbols_in r (place_next r p) j) (symbols_in r (pattern_place_after r (place_next r p) j) k))

-- the pattern goes round
pub place_after : (r p k : ℕ) → p < pattern_length r → pattern_place_after r p k ≡ (p + k) % pattern_length r
unfolding pattern_place_after
place_after r p zero h = sym (ap (λ (n : ℕ). n % pattern_length r) (add-zero p) ∙ mod-eq_of_lt h)
place_after r p (suc k) h =
    let e : p + 1 + k ≡ p + suc k = omega arith in
    place_after r (place_next r p) k (next_lt r p h) ∙ mod-add-mod (p + 1) (pattern_length r) k ∙ ap (λ (n : ℕ). n % pattern_length r) e

-- a whole pattern has as many symbols as its mode, and what is shorter has fewer
pattern_count : (r : ℕ) → r < qpsk_count → symbols_in r 0 (pattern_length r) ≡ length (mode_of r).symbols
unfolding count_by mode_of
pattern_count r h = computed.agree_at (λ r. symbols_in r 0 (pattern_length r)) (λ r. length (mode_of r).symbols) qpsk_count tt r h

pub part_count : (r k : ℕ) → r < qpsk_count → k < pattern_length r → symbols_in r 0 k < length (mode_of r).symbols
unfolding count_by mode_of
part_count r k h l = ltb→lt _ _ (tested_at (λ r k. ltb (symbols_in r 0 k) (length (mode_of r).symbols)) tt r k h l)

pub whole_count_lem : (r q : ℕ) → r < qpsk_count → symbols_in r 0 (pattern_length r * q) ≡ length (mode_of r).symbols * q
unfolding count_by
whole_count_lem r zero h = rw (mul-zero, mul-zero)
whole_count_lem r (suc q) h =
    let n = pattern_length r in
    let e : pattern_place_after r 0 (n * q) ≡ 0 = place_after r 0 (n * q) (some_bits r h) ∙ (ap (λ (k : ℕ). k % n) (zero-add (n * q)) ∙ mul-mod_right n q) in
    ap (symbols_in r 0) (mul-suc n q)
    ∙ (symbols_in_append r 0 (n * q) n
    ∙ (ap (λ (p : ℕ). symbols_in r 0 (n * q) + symbols_in r p n) e
    ∙ (ap₂ (λ (a b : ℕ). a + b) (whole_count_lem r q h) (pattern_count r h) ∙ sym (mul-suc (length (mode_of r).symbols) q))))

-- ---- where a pattern begins

pub none_held : (r : ℕ) → r < qpsk_count → held_count r 0 ≡ 0
unfolding held_count_by mode_of
none_held r h = computed.agree_at (λ r. held_count r 0) (λ r. 0) qpsk_count tt r h

pub to_start : (r p : ℕ) → r < qpsk_count → p < pattern_length r → pattern_place_after r p ((pattern_length r - p) % pattern_length r) ≡ 0
unfolding pattern_place_after mode_of
to_start r p h k = agreed_at (λ r p. pattern_place_after r p ((pattern_length r - p) % pattern_length r)) (λ r p. 0) tt r p h k

around : (r : ℕ) → r < qpsk_count → pattern_place_after r 0 (pattern_length r) ≡ 0
unfolding pattern_place_after mode_of
around r h = computed.agree_at (λ r. pattern_place_after r 0 (pattern_length r)) (λ r. 0) qpsk_count tt r h

-- at the start of a pattern nothing is held
held_start : (r p h : ℕ) (l : List ℕ) (n k : ℕ) → r < qpsk_count → p < pattern_length r → h ≤ held_count r p → Bits l → pattern_place_after r p k ≡ 0
    → held_behind r p h l n k ≡ 0
held_start r p h l n k hr hp hh t e =
    let a : held_behind r p h l n k ≤ held_count r (pattern_place_after r p k) = held_behind_lem r p h l n k hr hp hh t in
    let b : held_count r (pattern_place_after r p k) ≡ 0 = ap (held_count r) e ∙ none_held r hr in
    omega arith

-- ---- one pattern

-- the symbols of k bits, from bit n + j on
abbrev sent_near : ℕ → ℕ → ℕ → List ℕ → ℕ → ℕ → ℕ → List ℕ
sent_near r p h l n j zero = []
sent_near r p h l n j (suc k) =
    symbol_list (punctured r p (get_or l (n + j) 0) (get_or l (n + (1632 + j)) 0) h)
    ++ sent_near r (place_next r p) (held_after r p (get_or l (n + j) 0) (get_or l (n + (1632 + j)) 0) h) l n (suc j) k

near : (r p h : ℕ) (l : List ℕ) (m n j k : ℕ) → m ≡ n + j → punctured_symbols r p h l m k ≡ sent_near r p h l n j k
unfolding punctured_symbols
near r p h l m n j zero e = refl
near r p h l m n j (suc k) e =
    let f : 1632 + m ≡ n + (1632 + j) = omega arith in
    let g : suc m ≡ n + suc j = omega arith in
    (λ i.
    symbol_list (punctured r p (get_or l (e i) 0) (get_or l (f i) 0) h)
    ++ punctured_symbols r (place_next r p) (held_after r p (get_or l (e i) 0) (get_or l (f i) 0) h) l (suc m) k)
    ∙ ap (λ (s : List ℕ). symbol_list (punctured r p (get_or l (n + j) 0) (get_or l (n + (1632 + j)) 0) h) ++ s)
    (near r (place_next r p) (held_after r p (get_or l (n + j) 0) (get_or l (n + (1632 + j)) 0) h) l (suc m) n (suc j) k g)

-- a pattern gives each symbol of its mode
abbrev Whole : ℕ → Type 0
Whole r = (l : List ℕ) (n : ℕ) → pattern_symbols (i_bits r) (q_bits r) l n ≡ sent_near r 0 0 l n 0 (pattern_length r)

whole_0 : Whole 0
unfolding pattern_symbols i_bits q_bits punctured_by held_by mode_of
whole_0 l n = refl

whole_1 : Whole 1
unfolding pattern_symbols i_bits q_bits punctured_by held_by mode_of
whole_1 l n = refl

whole_2 : Whole 2
unfolding pattern_symbols i_bits q_bits punctured_by held_by mode_of
whole_2 l n = refl

whole_3 : Whole 3
unfolding pattern_symbols i_bits q_bits punctured_by held_by mode_of
whole_3 l n = refl

whole_4 : Whole 4
unfolding pattern_symbols i_bits q_bits punctured_by held_by mode_of
whole_4 l n = refl

wholes : Below Whole qpsk_count
wholes = whole_4 & whole_3 & whole_2 & whole_1 & whole_0 & end

pattern_sent : (r : ℕ) (l : List ℕ) (n : ℕ) → r < qpsk_count → pattern_symbols (i_bits r) (q_bits r) l n ≡ punctured_symbols r 0 0 l n (pattern_length r)
pattern_sent r l n h = below Whole qpsk_count wholes r h l n ∙ sym (near r 0 0 l n n 0 (pattern_length r) (sym (add-zero n)))

-- ---- patterns

module _ (r : ℕ) (l : List ℕ) (hr : r < qpsk_count) (bits : Bits l) where
  pub length_patterns : (n t : ℕ) → length (patterns_symbols (i_bits r) (q_bits r) l (pattern_length r) n t) ≡ t * length (i_bits r)
  unfolding patterns_symbols
  length_patterns n zero = sym (zero-mul (length (i_bits r)))
  length_patterns n (suc t) =
      let e = length_pattern (i_bits r) (q_bits r) l n (table r hr).same in
      let f = length_patterns (n + pattern_length r) t in
      let g = suc-mul t (length (i_bits r)) in
      length-append (pattern_symbols (i_bits r) (q_bits r) l n) _ ∙ ap₂ (λ (a b : ℕ). a + b) e f ∙ swap (length (i_bits r)) (t * length (i_bits r)) ∙ sym g
    where
      swap : (a b : ℕ) → a + b ≡ b + a
      swap a b = omega arith

  turns_more : (t : ℕ) → suc t * pattern_length r ≡ pattern_length r + t * pattern_length r
  turns_more t = suc-mul t (pattern_length r) ∙ swap (t * pattern_length r) (pattern_length r)
    where
      swap : (a b : ℕ) → a + b ≡ b + a
      swap a b = omega arith

  patterns_place : (t : ℕ) → pattern_place_after r 0 (t * pattern_length r) ≡ 0
  unfolding pattern_place_after
  patterns_place zero = ap (pattern_place_after r 0) (zero-mul (pattern_length r))
  patterns_place (suc t) =
      ap (pattern_place_after r 0) (turns_more t)
      ∙ place_append r 0 (pattern_length r) (t * pattern_length r)
      ∙ ap (λ (p : ℕ). pattern_place_after r p (t * pattern_length r)) (around r hr)
      ∙ patterns_place t

  starts : 0 < pattern_length r
  starts = some_bits r hr

  patterns_held : (n t : ℕ) → held_behind r 0 0 l n (t * pattern_length r) ≡ 0
  patterns_held n t = held_start r 0 0 l n (t * pattern_length r) hr starts (omega arith) bits (patterns_place t)

  patterns_sent : (n t : ℕ) → patterns_symbols (i_bits r) (q_bits r) l (pattern_length r) n t ≡ punctured_symbols r 0 0 l n (t * pattern_length r)
  unfolding patterns_symbols punctured_symbols
  patterns_sent n zero = ap (punctured_symbols r 0 0 l n) (sym (zero-mul (pattern_length r)))
  patterns_sent n (suc t) =
      let len = pattern_length r in
      ap₂ (λ (a b : List ℕ). a ++ b) (pattern_sent r l n hr) (patterns_sent (n + len) t)
      ∙ sym
      (ap (punctured_symbols r 0 0 l n) (turns_more t)
      ∙ sent_append r 0 0 l n len (t * len)
      ∙ ap₂ (λ (p h : ℕ). punctured_symbols r 0 0 l n len ++ punctured_symbols r p h l (n + len) (t * len)) (around r hr)
      (held_start r 0 0 l n len hr starts (omega arith) bits (around r hr)))

  -- ---- a block in three parts
  module _ (p h head turns rest : ℕ) (hp : p < pattern_length r) (hh : h ≤ held_count r p) (start : pattern_place_after r p head ≡ 0) (all : head + (turns * pattern_length r + rest) ≡ 1632) where
    len : ℕ
    len = turns * pattern_length r

    nothing : held_behind r p h l 0 head ≡ 0
    nothing = held_start r p h l 0 head hr hp hh bits start

    pub parts_symbols : punctured_symbols r p h l 0 1632
        ≡ punctured_symbols r p h l 0 head
        ++ patterns_symbols (i_bits r) (q_bits r) l (pattern_length r) head turns
        ++ punctured_symbols r 0 0 l (head + turns * pattern_length r) rest
    unfolding len
    parts_symbols =
        let a = punctured_symbols r p h l 0 head in
        let b = punctured_symbols r 0 0 l head len in
        let c = punctured_symbols r 0 0 l (head + len) rest in
        let two : punctured_symbols r 0 0 l head (len + rest) ≡ b ++ c
        = sent_append r 0 0 l head len rest
        ∙ ap₂ (λ (p h : ℕ). b ++ punctured_symbols r p h l (head + len) rest) (patterns_place turns) (patterns_held head turns)
        in
        ap (punctured_symbols r p h l 0) (sym all)
        ∙ sent_append r p h l 0 head (len + rest)
        ∙ (λ i. a ++ punctured_symbols r (start i) (nothing i) l (zero-add head i) (len + rest))
        ∙ ap (λ (s : List ℕ). a ++ s) two
        ∙ sym (append_assoc a b c)
        ∙ ap (λ (s : List ℕ). a ++ s ++ c) (sym (patterns_sent head turns))

    pub parts_place : pattern_place_after r p 1632 ≡ pattern_place_after r 0 rest
    unfolding len
    parts_place =
        ap (pattern_place_after r p) (sym all)
        ∙ place_append r p head (len + rest)
        ∙ ap (λ (q : ℕ). pattern_place_after r q (len + rest)) start
        ∙ place_append r 0 len rest
        ∙ ap (λ (q : ℕ). pattern_place_after r q rest) (patterns_place turns)

    pub parts_held : held_behind r p h l 0 1632 ≡ held_behind r 0 0 l (head + turns * pattern_length r) rest
    unfolding len
    parts_held =
        ap (held_behind r p h l 0) (sym all)
        ∙ held_append r p h l 0 head (len + rest)
        ∙ (λ i. held_behind r (start i) (nothing i) l (zero-add head i) (len + rest))
        ∙ held_append r 0 0 l head len rest
        ∙ ap₂ (λ (p h : ℕ). held_behind r p h l (head + len) rest) (patterns_place turns) (patterns_held head turns)
