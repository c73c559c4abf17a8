-- Reading a word digit by digit.
-- Assumes nothing.
use Rattle.std.proofs.Common.{◌≡◌, ℕ, suc, ◌+◌, ◌-◌, ◌*◌, ◌<◌, ◌≤◌, Bool, true, false, List, [], ◌∷◌, length, get_or, drop, sym, refl, ap, ◌∙◌, arith, drop_of_length-le, drop-cons, le-ltb, lt-ltb}
use native.Mathlib.Decide.{dec_lt}
use Rattle.common.specs.Choice.{pick}
use Rattle.program_io.specs.Words.{digits, value_from, sized, parsed}
use Rattle.program_io.specs.declared.words.Parsed.TheVariants.{Number, Large, Malformed}

value_grows : (n : ℕ) (l : List ℕ) → n ≤ value_from n l
value_grows n [] = omega arith
value_grows n (c ∷ cs) = let h = value_grows (10 * n + (c - 48)) cs in omega (arith, h)

parsed_is : (w : List ℕ) (most : ℕ) → 0 < length w → parsed w most ≡ pick (digits w) (sized (value_from 0 w) most) Malformed
parsed_is [] most h = absurd (omega (arith, h))
parsed_is (c ∷ cs) most h = refl

pub parsed_none : (w : List ℕ) (most : ℕ) → length w ≡ 0 → Malformed ≡ parsed w most
parsed_none [] most h = refl
parsed_none (c ∷ cs) most h = absurd (omega (arith, h))

-- the digits from a place on, after a number that those before it stand for; once it is past the limit, no more than that is known
pub record Reading (word : List ℕ) (most value i : ℕ) : Type 0 where
  pub within : i ≤ length word
  pub bound : value ≤ 10 * most + 9
  pub rest : digits (drop i word) ≡ digits word
  pub small : value ≤ most → value_from value (drop i word) ≡ value_from 0 word
  pub large : most < value → most < value_from 0 word

pub reading_start : (word : List ℕ) (most : ℕ) → Reading word most 0 0
reading_start word most = record { within = omega arith; bound = omega arith; rest = refl; small = λ h. refl; large = λ h. absurd (omega (arith, h)) }

next : (i : ℕ) → suc i ≡ i + 1
next i = omega arith

cons : (word : List ℕ) (i : ℕ) → i < length word → drop i word ≡ get_or word i 0 ∷ drop (i + 1) word
cons word i h = drop-cons word i 0 h ∙ ap (λ (k : ℕ). get_or word i 0 ∷ drop k word) (next i)

module _ {word : List ℕ} {most value i : ℕ} (r : Reading word most value i) where
  module _ (h : i < length word) where
    abbrev c : ℕ
    c = get_or word i 0

    pub below : c < 48 → parsed word most ≡ Malformed
    below l =
        let e : digits word ≡ false = sym r.rest ∙ ap digits (cons word i h) ∙ simp (lt-ltb _ _ l) in
        parsed_is word most (omega arith) ∙ ap (λ (t : Bool). pick t (sized (value_from 0 word) most) Malformed) e

    pub above : 48 ≤ c → 57 < c → parsed word most ≡ Malformed
    above k l =
        let e : digits word ≡ false = sym r.rest ∙ ap digits (cons word i h) ∙ simp (le-ltb _ _ k, lt-ltb _ _ l) in
        parsed_is word most (omega arith) ∙ ap (λ (t : Bool). pick t (sized (value_from 0 word) most) Malformed) e

    pub reading_more : (48 ≤ c) → (c ≤ 57) → (v : ℕ) → v ≤ 10 * most + 9 → (value ≤ most → v ≡ 10 * value + (c - 48)) → (most < value → v ≡ value)
        → Reading word most v (i + 1)
    reading_more k l v b s g = by (dec_lt most value)
      where
        digits_on : digits (drop (i + 1) word) ≡ digits word
        digits_on = sym (simp (le-ltb _ _ k, le-ltb _ _ l)) ∙ sym (ap digits (cons word i h)) ∙ r.rest

        value_on : value ≤ most → value_from v (drop (i + 1) word) ≡ value_from 0 word
        value_on q = ap (λ (x : ℕ). value_from x (drop (i + 1) word)) (s q) ∙ sym (ap (value_from value) (cons word i h)) ∙ r.small q

        by : Dec (most < value) → Reading word most v (i + 1)
        by (yes q) = record {
          within = omega arith;
          bound = b;
          rest = digits_on;
          small = λ z. absurd (omega (arith, z, g q));
          large = λ z. r.large q;
        }
        by (no q) =
            let p : value ≤ most = omega (arith, q) in
            record {
              within = omega arith;
              bound = b;
              rest = digits_on;
              small = λ z. value_on p;
              large = λ z. let w = value_grows v (drop (i + 1) word) in omega (arith, z, w, value_on p);
            }

  module _ (e : length word ≤ i) (some : 0 < length word) where
    none : drop i word ≡ []
    none = drop_of_length-le word {i = i} e

    all_digits : digits word ≡ true
    all_digits = sym r.rest ∙ ap digits none

    told : parsed word most ≡ sized (value_from 0 word) most
    told = parsed_is word most some ∙ ap (λ (t : Bool). pick t (sized (value_from 0 word) most) Malformed) all_digits

    pub reading_large : most < value → Large ≡ parsed word most
    reading_large h = sym (told ∙ simp (lt-ltb _ _ (r.large h)))

    pub reading_number : value ≤ most → Number value ≡ parsed word most
    reading_number h =
        let v : value_from 0 word ≡ value = sym (r.small h) ∙ ap (value_from value) none in
        sym (told ∙ ap (λ (n : ℕ). sized n most) v ∙ simp (le-ltb _ _ h))
