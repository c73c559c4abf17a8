-- The loop of packing, one bit a turn; and one piece after the other: the bytes are those of all the bits.
-- Assumes nothing.
use mathlib.Core.Path.{◌≡◌, refl, sym, ap, ap₂, subst, ◌∙◌}
use mathlib.Core.List.{List, [], ◌∷◌, ◌++◌, append-nil, append_assoc}
use Prim.Native.Nat.{ℕ, suc, ◌+◌, ◌-◌, ◌*◌, ◌/◌, ◌%◌, ◌≤◌, ◌<◌}
use Prim.{tt}
use native.Mathlib.Numerals.{add-one}
use native.Mathlib.Omega.{arith}
use borrow.Rule.Slice.PartMut.{mid_of, put_mid}
use lib.ListN.{length, get_or, take, drop, set, length-append, length-drop, drop_of_length-le}
use lib.Seq.{take-suc, take_at, take_all, take-length, length-take-le, drop_at, drop-append-le, drop-drop, drop-cons, append_snoc, set_at}
use Rattle.common.specs.Lists.{rest_of}
use Rattle.common.proofs.Chunks.{length_rest, rest_few, cut}
use Rattle.convolutional_code.specs.Bits.{bits_of}
use Rattle.convolutional_code.proofs.Bits.{length_bits}
use Rattle.bit_packing.specs.Packing.{packed_bytes, carried_bits, Packs}
use Rattle.bit_packing.proofs.Bytes.{length_bytes, bytes_back, packed_few, packed_pieces}

-- ---- the bits that are carried

pub carried_length : (carry n : ℕ) → n ≤ 8 → length (carried_bits carry n) ≡ n
unfolding carried_bits
carried_length carry n h = omega (arith, length-drop (8 - n) (bits_of (carry ∷ [])), length_bits (carry ∷ []))

-- a bit behind the last seven of a byte
shifted : (carry bit : ℕ) → bit < 2 → bits_of ((carry % 128 * 2 + bit) ∷ []) ≡ drop 1 (bits_of (carry ∷ [])) ++ bit ∷ []
unfolding bits_of
shifted c b h = rw (at7, at6, at5, at4, at3, at2, at1, at0)
  where
    at7 : (c % 128 * 2 + b) / 128 % 2 ≡ c / 64 % 2
    at7 = omega arith

    at6 : (c % 128 * 2 + b) / 64 % 2 ≡ c / 32 % 2
    at6 = omega arith

    at5 : (c % 128 * 2 + b) / 32 % 2 ≡ c / 16 % 2
    at5 = omega arith

    at4 : (c % 128 * 2 + b) / 16 % 2 ≡ c / 8 % 2
    at4 = omega arith

    at3 : (c % 128 * 2 + b) / 8 % 2 ≡ c / 4 % 2
    at3 = omega arith

    at2 : (c % 128 * 2 + b) / 4 % 2 ≡ c / 2 % 2
    at2 = omega arith

    at1 : (c % 128 * 2 + b) / 2 % 2 ≡ c % 2
    at1 = omega arith

    at0 : (c % 128 * 2 + b) % 2 ≡ b
    at0 = omega arith

carried_more : (carry n bit : ℕ) → n < 8 → bit < 2 → carried_bits (carry % 128 * 2 + bit) (n + 1) ≡ carried_bits carry n ++ bit ∷ []
unfolding carried_bits
carried_more carry n bit h b =
    let k : ℕ = 8 - (n + 1) in
    let l : List ℕ = drop 1 (bits_of (carry ∷ [])) in
    let e : 1 + k ≡ 8 - n = omega arith in
    ap (drop k) (shifted carry bit b)
    ∙ drop-append-le k l (bit ∷ []) (omega (arith, length-drop 1 (bits_of (carry ∷ [])), length_bits (carry ∷ [])))
    ∙ ap (λ (x : List ℕ). x ++ bit ∷ []) (drop-drop k 1 (bits_of (carry ∷ [])) ∙ ap (λ (j : ℕ). drop j (bits_of (carry ∷ []))) e)

-- eight bits that are carried are a byte
carried_whole : (carry : ℕ) → carry < 256 → packed_bytes (carried_bits carry 8) ≡ carry ∷ []
unfolding carried_bits
carried_whole carry h =
    let n = length_bits (carry ∷ []) in
    ap packed_bytes (sym (take-length (bits_of (carry ∷ [])))) ∙ bytes_back (carry ∷ []) (h, tt) (length (bits_of (carry ∷ []))) (omega arith)
    ∙ ap (λ (k : ℕ). take (k / 8) (carry ∷ [])) n

-- and behind it nothing is left
none_left : (carry : ℕ) → rest_of 8 (carried_bits carry 8) ≡ carried_bits carry 0
unfolding carried_bits rest_of bits_of
none_left carry = refl

-- ---- one bit a turn

-- so many bits of the piece were taken, and so many bytes packed
pub record Packing (carried bits output₀ output : List ℕ) (byte n k i : ℕ) : Type 0 where
  pub most : i ≤ length bits
  pub few : n < 8
  pub counted : 8 * k + n ≡ length carried + i
  pub written : output ≡ packed_bytes (carried ++ take i bits) ++ drop k output₀
  pub carries : carried_bits byte n ≡ rest_of 8 (carried ++ take i bits)

pub packing_start : (carry held : ℕ) (bits output : List ℕ) → held < 8 → Packing (carried_bits carry held) bits output output carry held 0 0
packing_start carry held bits output h =
    let c : List ℕ = carried_bits carry held in
    let l : length c ≡ held = carried_length carry held (omega arith) in
    let e : c ++ [] ≡ c = append-nil c in
    record {
      most = omega arith;
      few = h;
      counted = omega arith;
      written = rw (e, packed_few c (omega arith));
      carries = rw (e, rest_few 8 (omega arith) c (omega arith));
    }

module _ {carried bits output₀ output : List ℕ} {byte n k i : ℕ} (g : Packing carried bits output₀ output byte n k i) (here : i < length bits) (bit : get_or bits i 0 < 2) where
  abbrev b : ℕ
  b = get_or bits i 0

  abbrev all : List ℕ
  all = carried ++ take i bits

  abbrev next : ℕ
  next = byte % 128 * 2 + b

  one_more : carried ++ take (i + 1) bits ≡ all ++ b ∷ []
  one_more = ap (λ (j : ℕ). carried ++ take j bits) (add-one i) ∙ ap (λ (x : List ℕ). carried ++ x) (take-suc bits i 0 here) ∙ sym (append_assoc carried (take i bits) (b ∷ []))

  held_more : rest_of 8 all ++ b ∷ [] ≡ carried_bits next (n + 1)
  held_more = ap (λ (x : List ℕ). x ++ b ∷ []) (sym g.carries) ∙ sym (carried_more byte n b g.few bit)

  bytes_more : packed_bytes (carried ++ take (i + 1) bits) ≡ packed_bytes all ++ packed_bytes (carried_bits next (n + 1))
  bytes_more = ap packed_bytes one_more ∙ packed_pieces all (b ∷ []) ∙ ap (λ (x : List ℕ). packed_bytes all ++ packed_bytes x) held_more

  rest_more : rest_of 8 (carried ++ take (i + 1) bits) ≡ rest_of 8 (carried_bits next (n + 1))
  rest_more = ap (rest_of 8) one_more ∙ (cut 8 (omega arith) all (b ∷ [])).rest_is ∙ ap (rest_of 8) held_more

  -- a bit that fills no byte
  pub packing_held : n + 1 < 8 → Packing carried bits output₀ output next (n + 1) k (i + 1)
  packing_held h =
      let l = carried_length next (n + 1) (omega arith) in
      record {
        most = omega arith;
        few = h;
        counted = omega (arith, g.counted);
        written = g.written ∙ ap (λ (x : List ℕ). x ++ drop k output₀) (sym (bytes_more ∙ ap (λ (x : List ℕ). packed_bytes all ++ x) (packed_few (carried_bits next (n + 1)) (omega arith)) ∙ append-nil (packed_bytes all)));
        carries = sym (rest_more ∙ rest_few 8 (omega arith) (carried_bits next (n + 1)) (omega arith));
      }

  all_length : length all ≡ 8 * k + n
  all_length = omega (arith, length-append carried (take i bits), length-take-le i bits (omega arith), g.counted)

  bytes_length : length (packed_bytes all) ≡ k
  bytes_length = omega (arith, length_bytes all, all_length, g.few)

  -- the eighth bit of a byte, which is written
  pub packing_whole : n + 1 ≡ 8 → k < length output₀ → next < 256 → Packing carried bits output₀ (set output k next) next 0 (k + 1) (i + 1)
  packing_whole h fits small = record {
    most = omega arith;
    few = omega arith;
    counted = omega (arith, g.counted);
    written =
        ap (λ (x : List ℕ). set x k next) (g.written ∙ ap (λ (x : List ℕ). packed_bytes all ++ x) (drop-cons output₀ k 0 fits))
        ∙ set_at (packed_bytes all) (get_or output₀ k 0) (drop (suc k) output₀) next k bytes_length
        ∙ sym (append_snoc (packed_bytes all) next (drop (suc k) output₀))
        ∙ ap₂ (λ (x : List ℕ) (j : ℕ). x ++ drop j output₀) (sym (bytes_more ∙ ap (λ (x : List ℕ). packed_bytes all ++ x) (ap (λ (j : ℕ). packed_bytes (carried_bits next j)) h ∙ carried_whole next small))) (sym (add-one k));
    carries = sym (rest_more ∙ ap (λ (j : ℕ). rest_of 8 (carried_bits next j)) h ∙ none_left next);
  }

-- by whatever names the arms of the loop join
pub packing_as : {carried bits output₀ output output' : List ℕ} {byte n n' k k' i : ℕ} → output' ≡ output → n' ≡ n → k' ≡ k
    → Packing carried bits output₀ output byte n k i → Packing carried bits output₀ output' byte n' k' i
packing_as a b c g = rw (a, b, c) g

pub packing_done : {carried bits output₀ output : List ℕ} {byte n k i : ℕ} → Packing carried bits output₀ output byte n k i → length bits ≤ i
    → Packs carried bits output₀ byte n k output
packing_done {carried} {bits} {i = i} g h =
    let e : take i bits ≡ bits = take_all i bits h in
    record {
      counted = omega (arith, g.counted, g.few, g.most, length-append carried bits);
      written = rw e at g.written;
      few = g.few;
      carries = rw e at g.carries;
    }

-- the bytes that are told stand in the output
pub packs_fit : {carried piece output exit : List ℕ} {carry held count : ℕ} → Packs carried piece output carry held count exit → count ≤ length exit
packs_fit {carried} {piece} {output} {count = count} w =
    omega (arith, ap length w.written, length-append (packed_bytes (carried ++ piece)) (drop count output), length_bytes (carried ++ piece), w.counted)

-- every bit is packed or held
pub packs_all : {carried piece output exit : List ℕ} {carry held count : ℕ} → Packs carried piece output carry held count exit → 8 * count + held ≡ length (carried ++ piece)
packs_all {carried} {piece} {carry = carry} {held} w =
    let all : List ℕ = carried ++ piece in
    omega (arith, w.counted, w.few, sym (carried_length carry held (omega (arith, w.few))) ∙ ap length w.carries, length_rest 8 all)

-- ---- two pieces into one output

pub packs_none : (carry held : ℕ) (output : List ℕ) → held < 8 → Packs (carried_bits carry held) [] output carry held 0 output
packs_none carry held output h = packing_done (packing_start carry held [] output h) (omega arith)

-- the second one behind the bytes of the first
pub packs_more : {carried piece output exit : List ℕ} {carry held count : ℕ} → Packs carried piece output carry held count exit
    → (more : List ℕ) {last : List ℕ} {carry' held' n : ℕ} → Packs (carried_bits carry held) more (drop count exit) carry' held' n last
    → Packs carried (piece ++ more) output carry' held' (count + n) (take count exit ++ last)
packs_more {carried} {piece} {output} {exit} {carry} {held} {count} w more {last} {n = n} v =
    let all : List ℕ = carried ++ piece in
    let e : carried ++ (piece ++ more) ≡ all ++ more = sym (append_assoc carried piece more) in
    let k : length (packed_bytes all) ≡ count = length_bytes all ∙ sym w.counted in
    let c : carried_bits carry held ++ more ≡ rest_of 8 all ++ more = ap (λ (x : List ℕ). x ++ more) w.carries in
    let bytes : packed_bytes (carried ++ (piece ++ more)) ≡ packed_bytes all ++ packed_bytes (carried_bits carry held ++ more) =
    ap packed_bytes e ∙ packed_pieces all more ∙ ap (λ (x : List ℕ). packed_bytes all ++ packed_bytes x) (sym c) in
    let front : take count exit ≡ packed_bytes all = ap (take count) w.written ∙ take_at (packed_bytes all) (drop count output) count k in
    let back : drop n (drop count exit) ≡ drop (count + n) output =
    ap (drop n) (ap (drop count) w.written ∙ drop_at (packed_bytes all) (drop count output) count k) ∙ drop-drop n count output in
    record {
      counted =
          omega (
            arith,
            length_bytes (carried ++ (piece ++ more)),
            ap length bytes,
            length-append (packed_bytes all) (packed_bytes (carried_bits carry held ++ more)),
            k,
            length_bytes (carried_bits carry held ++ more),
            v.counted,
          );
      written =
          ap₂ (λ (x y : List ℕ). x ++ y) front (v.written ∙ ap (λ (x : List ℕ). packed_bytes (carried_bits carry held ++ more) ++ x) back)
          ∙ sym (append_assoc (packed_bytes all) (packed_bytes (carried_bits carry held ++ more)) (drop (count + n) output))
          ∙ ap (λ (x : List ℕ). x ++ drop (count + n) output) (sym bytes);
      few = v.few;
      carries = v.carries ∙ ap (rest_of 8) c ∙ sym (cut 8 (omega arith) all more).rest_is ∙ ap (rest_of 8) (sym e);
    }

-- in what is left of it
pub packs_put : {carried piece output exit : List ℕ} {carry held count : ℕ} → Packs carried piece output carry held count exit
    → (more : List ℕ) {last : List ℕ} {carry' held' n : ℕ} → Packs (carried_bits carry held) more (mid_of count (length exit - count) exit) carry' held' n last
    → Packs carried (piece ++ more) output carry' held' (count + n) (put_mid count (length exit - count) exit last)
packs_put {carried} {piece} {output} {exit} {carry} {held} {count} w more {last} {carry'} {held'} {n} v =
    let all : mid_of count (length exit - count) exit ≡ drop count exit = take_all (length exit - count) (drop count exit) (omega (arith, length-drop count exit)) in
    let none : last ++ drop (length exit - count) (drop count exit) ≡ last =
    ap (λ (x : List ℕ). last ++ x) (drop_of_length-le (drop count exit) {i = length exit - count} (omega (arith, length-drop count exit))) ∙ append-nil last in
    subst (λ (l : List ℕ). Packs carried (piece ++ more) output carry' held' (count + n) l) (ap (λ (x : List ℕ). take count exit ++ x) (sym none))
    (packs_more w more (subst (λ (x : List ℕ). Packs (carried_bits carry held) more x carry' held' n last) all v))

-- ---- bits that fill bytes

pub carried_none : (carry : ℕ) → carried_bits carry 0 ≡ []
unfolding carried_bits bits_of
carried_none carry = refl

none_of : (l : List ℕ) → length l ≡ 0 → l ≡ []
none_of [] e = refl
none_of (x ∷ l) e = absurd (omega arith)

pub packs_whole : (carry : ℕ) (piece output : List ℕ) {exit : List ℕ} (count : ℕ) → length piece % 8 ≡ 0 → count ≡ length piece / 8 → exit ≡ packed_bytes piece ++ drop count output
    → Packs [] piece output carry 0 count exit
packs_whole carry piece output count h n w = record {
  counted = n;
  written = w;
  few = omega arith;
  carries = carried_none carry ∙ sym (none_of (rest_of 8 piece) (length_rest 8 piece ∙ h));
}

-- ---- piece after piece

-- Bits that were packed, and a piece more: the bytes are those of all of them, and the bits after the last whole byte are carried.
pub packs_on : (bits : List ℕ) {bytes : List ℕ} (carry held : ℕ) → bytes ≡ packed_bytes bits → carried_bits carry held ≡ rest_of 8 bits → (piece : List ℕ) {output exit : List ℕ} {carry' held' count : ℕ}
    → Packs (carried_bits carry held) piece output carry' held' count exit
    → (bytes ++ take count exit ≡ packed_bytes (bits ++ piece)) × (carried_bits carry' held' ≡ rest_of 8 (bits ++ piece))
packs_on bits carry held is-packed r piece {output} {exit} {count = count} w =
    let rest : List ℕ = rest_of 8 bits ++ piece in
    let e : carried_bits carry held ++ piece ≡ rest = ap (λ (x : List ℕ). x ++ piece) r in
    let n : length (packed_bytes (carried_bits carry held ++ piece)) ≡ count = length_bytes (carried_bits carry held ++ piece) ∙ sym w.counted in
    let front : take count exit ≡ packed_bytes rest = ap (take count) w.written ∙ take_at (packed_bytes (carried_bits carry held ++ piece)) (drop count output) count n ∙ ap packed_bytes e in
    (ap₂ (λ (x y : List ℕ). x ++ y) is-packed front ∙ sym (packed_pieces bits piece), w.carries ∙ ap (rest_of 8) e ∙ sym (cut 8 (omega arith) bits piece).rest_is)
