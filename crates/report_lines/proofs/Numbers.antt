-- Reading at a place of a text: a word, and a number with its line feed.
-- Assumes nothing.
use mathlib.Core.Path.{◌≡◌, refl, sym, ap, ◌∙◌}
use mathlib.Core.Bool.{Bool, true, false}
use mathlib.Core.List.{List, [], ◌∷◌, ◌++◌, append_assoc, append-nil}
use Prim.Native.Nat.{ℕ, ◌+◌, ◌-◌, ◌*◌, ◌≤◌, ◌<◌}
use native.Mathlib.Numerals.{add-one}
use native.Mathlib.Omega.{arith}
use lib.ListN.{length, get_or, take, drop, length-append, length-drop, drop_of_length-le}
use lib.Seq.{take_all, drop-cons}
use lib.Dec.{eqb}
use Rattle.std.proofs.lemmas.List.{drop-drop}
use Rattle.std.proofs.lemmas.Bool.Decides.{Decides-eqb}
use Rattle.std.proofs.lemmas.Slice.Eq.{starts_is}
use Rattle.std.specs.List.{starts_with}
use Rattle.common.proofs.Choice.{false_true}
use Rattle.report_lines.specs.Line.{decimal}
use Rattle.report_lines.specs.Reading.{DigitIs, WordIs, NumberRead, LineIs}
use Rattle.report_lines.proofs.Digits.{Digit, value_from, decimal_digits, decimal_value, decimal_one, decimal_more, no_number_first, no_number_other, no_number_end, no_number_large, no_number_zero, line_joined, append_unique}

drop_next : (text : List ℕ) (i : ℕ) → i < length text → drop i text ≡ get_or text i 0 ∷ drop (i + 1) text
drop_next text i h = drop-cons text i 0 h ∙ ap (λ (n : ℕ). get_or text i 0 ∷ drop n text) (sym (add-one i))

-- ---- a word

-- what the library says of the text from a place on
pub word_is : (word text : List ℕ) (at : ℕ) (found : Bool) → at ≤ length text → found ≡ starts_with eqb (take (length text - at) (drop at text)) word → WordIs word text at found
word_is word text at found h e =
    let n = length-drop at text in
    let t : take (length text - at) (drop at text) ≡ drop at text = take_all (length text - at) (drop at text) (omega arith) in
    let s = starts_is Decides-eqb (drop at text) word found (e ∙ ap (λ (l : List ℕ). starts_with eqb l word) t) in
    record {
      is = λ f.
          let q = s.0 f in
          let l : length text - at ≡ length word + length (drop (length word) (drop at text)) = sym (length-drop at text) ∙ ap length q ∙ length-append word (drop (length word) (drop at text)) in
          (omega arith, q ∙ ap (λ (x : List ℕ). word ++ x) (drop-drop (length word) at text));
      none = λ f rest q. false_true (sym f ∙ s.1 rest q);
    }

-- ---- a number

-- the characters from at to i are the decimal of a number within the limit
pub record NumberTo (text : List ℕ) (at limit i value : ℕ) : Type 0 where
  pub past : at < i
  pub most : i ≤ length text
  pub small : value ≤ limit
  pub is : drop at text ≡ decimal value ++ drop i text

not_digit : {c d : ℕ} → DigitIs c d → 10 ≤ d → Digit c → ⊥
not_digit e h k = e.other h k.0 k.1

module _ (text : List ℕ) (at limit : ℕ) (top : limit < 1000000000000000000) where
  no_number : {value end : ℕ} → ((v : ℕ) (rest : List ℕ) → v ≤ limit → drop at text ≡ decimal v ++ 0x0A ∷ rest → ⊥)
      → NumberRead text at limit false value end
  no_number f = record { small = λ d. false_true d; within = λ d. false_true d; is = λ d. false_true d; none = λ d. f }

  -- the text ends before it
  pub none_left : length text ≤ at → NumberRead text at limit false 0 0
  none_left h = no_number (λ v rest k q. no_number_end (drop at text) [] v rest tt (drop_of_length-le text h) q)

  module _ (h : at < length text) (d : ℕ) (e : DigitIs (get_or text at 0) d) where
    -- the first character is no digit; it may be a line feed
    pub none_first : 10 ≤ d → NumberRead text at limit false 0 0
    none_first l =
        no_number (λ v rest k q. no_number_first (drop at text) (drop (at + 1) text) (get_or text at 0) v rest (not_digit e l) (drop_next text at h) q)

    pub none_first_large : d < 10 → limit < d → NumberRead text at limit false 0 0
    none_first_large l m =
        let c : get_or text at 0 ≡ 48 + d = e.digit l in
        no_number (λ v rest k q. no_number_large (drop at text) [] (drop (at + 1) text) (get_or text at 0) v rest tt (omega arith, omega arith)
        (drop_next text at h) (omega arith) (omega arith) q)

    pub number_first : d < 10 → d ≤ limit → NumberTo text at limit (at + 1) d
    number_first l m = record {
      past = omega arith;
      most = omega arith;
      small = m;
      is = drop_next text at h ∙ ap (λ (c : ℕ). c ∷ drop (at + 1) text) (e.digit l)
          ∙ ap (λ (ds : List ℕ). ds ++ drop (at + 1) text) (sym (decimal_one d l));
    }

  module _ (i value : ℕ) (n : NumberTo text at limit i value) where
    -- the text ends
    pub none_end : length text ≤ i → NumberRead text at limit false 0 0
    none_end h = no_number (λ v rest k q. no_number_end (drop at text) (decimal value) v rest (decimal_digits value)
        (n.is ∙ ap (λ (l : List ℕ). decimal value ++ l) (drop_of_length-le text h) ∙ append-nil (decimal value)) q)

    module _ (h : i < length text) where
      next : drop at text ≡ decimal value ++ get_or text i 0 ∷ drop (i + 1) text
      next = n.is ∙ ap (λ (l : List ℕ). decimal value ++ l) (drop_next text i h)

      pub number_found : get_or text i 0 ≡ 0x0A → NumberRead text at limit true value (i + 1)
      number_found e = record {
        small = λ d. n.small;
        within = λ d. omega arith;
        is = λ d. next ∙ ap (λ (c : ℕ). decimal value ++ c ∷ drop (i + 1) text) e;
        none = λ d. false_true (sym d);
      }

      module _ (d : ℕ) (e : DigitIs (get_or text i 0) d) where
        pub none_other : (get_or text i 0 ≡ 0x0A → ⊥) → 10 ≤ d → NumberRead text at limit false 0 0
        none_other f l = no_number (λ v rest k q. no_number_other (drop at text) (decimal value) (drop (i + 1) text) (get_or text i 0) v rest
            (decimal_digits value) (not_digit e l) f next q)

        pub none_zero : d < 10 → value ≡ 0 → NumberRead text at limit false 0 0
        none_zero l z =
            let c : get_or text i 0 ≡ 48 + d = e.digit l in
            no_number (λ v rest k q. no_number_zero (drop at text) (drop (i + 1) text) (get_or text i 0) v rest (omega arith, omega arith)
            (next ∙ ap (λ (m : ℕ). decimal m ++ get_or text i 0 ∷ drop (i + 1) text) z
            ∙ ap (λ (l : List ℕ). l ++ get_or text i 0 ∷ drop (i + 1) text) (decimal_one 0 (omega arith))) (omega arith) q)

        pub none_large : d < 10 → limit < value * 10 + d → NumberRead text at limit false 0 0
        none_large l m =
            let c : get_or text i 0 ≡ 48 + d = e.digit l in
            let s = n.small in
            let w : value_from 0 (decimal value) ≡ value = decimal_value value (omega arith) in
            no_number (λ v rest k q. no_number_large (drop at text) (decimal value) (drop (i + 1) text) (get_or text i 0) v rest (decimal_digits value)
            (omega arith, omega arith) next (omega arith) (omega arith) q)

        pub number_more : d < 10 → (value ≡ 0 → ⊥) → value * 10 + d ≤ limit → NumberTo text at limit (i + 1) (value * 10 + d)
        number_more l z m = record {
          past = omega (arith, n.past);
          most = omega arith;
          small = m;
          is =
              next
              ∙ ap (λ (c : ℕ). decimal value ++ c ∷ drop (i + 1) text) (e.digit l)
              ∙ sym (append_assoc (decimal value) ((48 + d) ∷ []) (drop (i + 1) text))
              ∙ ap (λ (ds : List ℕ). ds ++ drop (i + 1) text) (sym (decimal_more value d (omega arith) l (omega arith)));
        }

-- ---- a line

pub line_none : (key text : List ℕ) (at limit : ℕ) → WordIs key text at false → LineIs key text at limit false 0 0
line_none key text at limit w = record {
  small = λ d. false_true d;
  within = λ d. false_true d;
  is = λ d. false_true d;
  none = λ d v rest k q. w.none refl (decimal v ++ 0x0A ∷ rest) (q ∙ line_joined key v rest ∙ append_assoc key (decimal v) (0x0A ∷ rest));
}

pub line_found : (key text : List ℕ) (at limit : ℕ) (found : Bool) (v end : ℕ) → WordIs key text at true
    → NumberRead text (at + length key) limit found v end → LineIs key text at limit found v end
line_found key text at limit found v end w n =
    let k = (w.is refl).1 in
    record {
      small = n.small;
      within = n.within;
      is = λ d. k ∙ ap (λ (l : List ℕ). key ++ l) (n.is d) ∙ sym (append_assoc key (decimal v) (0x0A ∷ drop end text)) ∙ sym (line_joined key v (drop end text));
      none = λ d u rest h q. n.none d u rest h
          (append_unique key (drop (at + length key) text) (decimal u ++ 0x0A ∷ rest)
          (sym k ∙ q ∙ line_joined key u rest ∙ append_assoc key (decimal u) (0x0A ∷ rest)));
    }
