-- The decoder's steps put together: what it leaves and answers is what decoding means.
-- Assumes nothing.
use mathlib.Core.Path.{◌≡◌, refl, sym, ap, ap₂, ◌∙◌, subst}
use mathlib.Core.Bool.{true, false}
use mathlib.Core.List.{List, [], ◌∷◌, map, reverse}
use Prim.Native.Nat.{ℕ, ◌+◌, ◌-◌, ◌*◌, ◌≤◌, ◌<◌, Fin}
use native.Mathlib.Decide.{dec_lt, ℕ_discrete}
use native.Mathlib.Omega.{arith}
use borrow.Author.Tests.{eq-eqb, ne_eqb}
use lib.Bits.{bit_xor}
use lib.ListN.{length, get_or, take, length-map, length-reverse, get_or-eq_default}
use lib.Seq.{length-take-le, get_or-take}
use Rattle.common.specs.Lists.{All, Bytes}
use Rattle.common.proofs.Choice.{false_true}
use Rattle.common.proofs.Entries.{bytes_of}
use Rattle.common.proofs.Lists.{get_d_map_in, All-at}
use Rattle.algebra.specs.Field.{ops}
use Rattle.algebra.specs.Polynomial.{power}
use Rattle.algebra.proofs.Ring.{add_self, zero_add, mul_zero}
use Rattle.galois.specs.Field256.{pow}
use Rattle.galois.proofs.Instance.{bytes, byte, byte_zero}
use Rattle.common.specs.Choice.{unequal}
use Rattle.reed_solomon.specs.Code.{Codeword, unequal_bits, distance, differ, differ_bits, no_change}
use Rattle.reed_solomon.specs.Marks.{marked, unmarked, cost, AcceptedMarked, RejectedMarked}
use Rattle.galois.proofs.Elements.{alpha}
use Rattle.reed_solomon.specs.Steps.{residue_of, all_zero, SyndromesOf, Recurs, Recurring, weighed}
use Rattle.error_locator.specs.Locator.{Located, Modified}
use Rattle.error_correction.specs.Correction.{ByDegree, values_of, roots_of, one_polynomial, FoundRoots, monic, RootProduct, error_value, ErrorValues, corrected_by, changed_in}
use Rattle.reed_solomon.proofs.Codewords.{block_syndrome, codeword_of}
use Rattle.error_correction.proofs.RootSearch.{length_values, value_kept}
use Rattle.error_correction.proofs.RootCount.{roots_each, roots_range, roots_distinct, roots_few}
use Rattle.reed_solomon.proofs.Distance.{unequal_same, unequal_xor}
use Rattle.reed_solomon.proofs.MarkedDistance.{accepted_marked, unmarked_self, unmarked_reverse, unmarked_zeros}
use Rattle.reed_solomon.proofs.BitDistance.{bits_same, bits_xor, changes_none}
use Rattle.reed_solomon.proofs.LongDivision.{high, high_nil, high_cons}
use Rattle.reed_solomon.proofs.Residue.{residue_value, reverse_at}
use Rattle.reed_solomon.proofs.Completeness.{roots_sixteen, recurs}
use Rattle.reed_solomon.proofs.Values.{explained}
use Rattle.reed_solomon.proofs.Soundness.{corrected_other, corrected_length, corrected_bytes, corrected_value, corrected_distance, distinct_unmap}

-- ---- the residue

module _ (came : List ℕ) (n : length came ≡ 204) where
  zero_value : (x : Fin 256) (l : List ℕ) → all_zero l ≡ true → high x l ≡ bytes.𝟘
  zero_value x [] h = high_nil x
  zero_value x (y ∷ l) h = go (ℕ_discrete y 0) (λ k. zero_value x l k)
    where
      go : Dec (y ≡ 0) → (all_zero l ≡ true → high x l ≡ bytes.𝟘) → high x (y ∷ l) ≡ bytes.𝟘
      go (yes e) r =
          high_cons x y l
          ∙ ap₂ (λ (u v : Fin 256). bytes.add u (bytes.mul (power (ops bytes) x (length l)) v)) (r (rw (eq-eqb y 0 e) at h)) (ap byte e ∙ byte_zero)
          ∙ zero_add bytes (bytes.mul (power (ops bytes) x (length l)) bytes.𝟘) ∙ mul_zero bytes (power (ops bytes) x (length l))
      go (no e) r = false_true (rw (ne_eqb y 0 e) at h)

  -- a block whose residue is zero is a codeword already
  pub clean : (marks : List ℕ) → length marks ≡ 204 → marked marks ≤ 16 → Bytes came → all_zero (residue_of came) ≡ true → AcceptedMarked marks came came no_change
  clean marks lm f b h =
      accepted_marked marks came came no_change lm n (codeword_of came n b (λ j l. sym (residue_value came n j l) ∙ zero_value (alpha j) (residue_of came) h)) (sym (changes_none came))
      (omega (arith, unmarked_self marks came))

-- ---- the search for errors

-- the errors that are not zero, counted by the step that takes them away
changed_weighed : (es : List ℕ) → changed_in es ≡ weighed unequal es
unfolding changed_in weighed
changed_weighed [] = refl
changed_weighed (e ∷ es) = ap (λ (n : ℕ). unequal e 0 + n) (changed_weighed es)

-- what the steps up to the roots have found
pub record Decoding (marks came s u ts : List ℕ) (size : ℕ) (q degrees places : List ℕ) (count : ℕ) : Type 0 where
  pub marked_size : length marks ≡ 204
  pub came_size : length came ≡ 204
  pub small : Bytes came
  pub syndromes_of : SyndromesOf (residue_of came) s
  pub by_degree : ByDegree marks u
  pub modified : Modified s (map (pow 2) (roots_of u one_polynomial)) ts
  pub size_most : 2 * size + marked marks ≤ 16
  pub size_least : 15 ≤ 2 * size + marked marks
  pub locator : Located ts size q
  pub roots : FoundRoots u q degrees places count

module _ {marks came s u ts : List ℕ} {size : ℕ} {q degrees places : List ℕ} {count : ℕ} (D : Decoding marks came s u ts size q degrees places count) where
  open D use {marked_size as lm, came_size as n, small as b, syndromes_of as sy, by_degree as by, modified as md, size_most as most, size_least as least, locator as loc, roots as fr}

  syndromes : (j : ℕ) → j < 16 → byte (get_or s j 0) ≡ block_syndrome came j
  syndromes j h = sy.each j h ∙ residue_value came n j h

  few : length (roots_of u q) ≤ 16
  few = roots_sixteen ts u q marks size lm by loc most

  in_range_lem : All (λ d. d < 204) (roots_of u q)
  in_range_lem = roots_range u q

  -- the syndromes do not obey the recurrence: 2 e + f is above sixteen for every codeword
  pub rejected : Recurring s (take count places) false → RejectedMarked marks came came
  rejected f = record { unchanged = refl; far = λ c cw. go c cw (dec_lt 16 (cost marks came c)) }
    where
      go : (c : List ℕ) → Codeword c → Dec (16 < cost marks came c) → 16 < cost marks came c
      go c cw (yes h) = h
      go c cw (no h) = absurd (f (subst (Recurs s) (sym fr.placed) (recurs came c n b cw marks lm (omega arith) s syndromes u by ts md size most least q loc)))

  -- the degrees are those of a block
  pub degrees_range : (l : ℕ) → l < count → get_or degrees l 0 < 204
  degrees_range l h =
      subst (λ (k : ℕ). k < 204) (sym (sym (get_or-take count degrees l 0 h) ∙ ap (λ (m : List ℕ). get_or m l 0) fr.listed))
      (All-at (λ d. d < 204) (roots_of u q) 0 l in_range_lem (omega (arith, fr.number)))

  -- the values of the errors
  module _ {p values : List ℕ} (rp : RootProduct (take count places) p) (lp : length p ≡ 16) (vs : ErrorValues p s places count values) (lvs : length values ≡ 16) where
    abbrev es : List ℕ
    es = take count values

    es_length : length es ≡ length (roots_of u q)
    es_length = length-take-le count values (omega (arith, few, fr.number)) ∙ fr.number

    places_count : count ≡ length (map (pow 2) (roots_of u q))
    places_count = fr.number ∙ sym (length-map (roots_of u q) (pow 2))

    es_value : (l : ℕ) → l < length (roots_of u q) → byte (get_or es l 0) ≡ error_value (monic (length (map (pow 2) (roots_of u q))) p) s (pow 2 (get_or (roots_of u q) l 0))
    es_value l h =
        let k : l < count = omega (arith, fr.number) in
        ap byte (get_or-take count values l 0 k) ∙ vs.own l k
        ∙ ap₂ (λ (i y : ℕ). error_value (monic i p) s y) places_count
        (sym (get_or-take count places l 0 k) ∙ ap (λ (m : List ℕ). get_or m l 0) fr.placed ∙ get_d_map_in (pow 2) (roots_of u q) 0 0 l h)

    es_bytes : Bytes es
    es_bytes = bytes_of es (λ i. small i (dec_lt i count))
      where
        small : (i : ℕ) → Dec (i < count) → get_or es i 0 < 256
        small i (yes h) = subst (λ (k : ℕ). k < 256) (sym (get_or-take count values i 0 h)) (vs.small i h)
        small i (no h) =
            subst (λ (k : ℕ). k < 256) (sym (get_or-eq_default es 0 {n = i} (omega (arith, length-take-le count values (omega (arith, few, fr.number)))))) (omega arith)

    abbrev done : List ℕ
    done = corrected_by came (roots_of u q) es

    done_length : length done ≡ 204
    done_length = corrected_length came (roots_of u q) es ∙ n

    -- a byte that is not marked is changed only where the locator vanishes
    changed_root : (i : ℕ) → i < 204 → get_or marks (203 - i) 0 ≡ 0 → (get_or came (203 - i) 0 ≡ get_or done (203 - i) 0 → ⊥) → get_or (values_of [] q) i 0 ≡ 0
    changed_root i h m k = go (ℕ_discrete (get_or (values_of u q) i 0) 0)
      where
        go : Dec (get_or (values_of u q) i 0 ≡ 0) → get_or (values_of [] q) i 0 ≡ 0
        go (yes z) = value_kept [] q i h refl ∙ sym (value_kept u q i h (by.each i h ∙ m)) ∙ z
        go (no z) =
            absurd (k (sym (corrected_other came (roots_of u q) es i h in_range_lem
            (roots_each u q (λ d. d ≡ i → ⊥) (λ d l y e. z (ap (λ (j : ℕ). get_or (values_of u q) j 0) (sym e) ∙ y))))))

    few_changed : unmarked marks came done ≤ size
    few_changed =
        omega (
          arith,
          unmarked_reverse marks came done (lm ∙ sym done_length) (n ∙ sym done_length),
          unmarked_zeros 0 (reverse marks) (reverse came) (reverse done) (values_of [] q) (length-reverse marks ∙ lm ∙ sym (length_values [] q)) at,
          roots_few q size loc.nonzero loc.zeros,
        )
      where
        at : (i : ℕ) → i < length (values_of [] q) → get_or (reverse marks) i 0 ≡ 0 → (get_or (reverse came) i 0 ≡ get_or (reverse done) i 0 → ⊥) → get_or (values_of [] q) i 0 ≡ 0
        at i h m k =
            let l : i < 204 = omega (arith, length_values [] q) in
            changed_root i l (sym (reverse_at marks i (203 - i) (omega arith)) ∙ m)
            (λ e. k (reverse_at came i (203 - i) (omega arith) ∙ e ∙ sym (reverse_at done i (203 - i) (omega (arith, done_length)))))

    -- the syndromes obey it: what is left is a codeword, and the counts are true
    pub corrected : (left : List ℕ) (k m : ℕ) → Recurring s (take count places) true → left ≡ corrected_by came (take count degrees) es
        → k ≡ changed_in es → m ≡ weighed (unequal_bits 8) es → AcceptedMarked marks came left (record { bytes = k; bits = m })
    unfolding differ differ_bits
    corrected left k m f e g i =
        subst (λ (l : List ℕ). AcceptedMarked marks came l (record { bytes = k; bits = m })) (sym whole)
        (accepted_marked marks came done (record { bytes = k; bits = m }) lm n
        (codeword_of done done_length (corrected_bytes came (roots_of u q) es n b es_bytes)
        (λ j l. corrected_value j came (roots_of u q) es n in_range_lem es_length
        ∙ ap (λ (u : Fin 256). bytes.add (block_syndrome came j) u) (explained s u q p es few lp (subst (λ (m : List ℕ). RootProduct m p) fr.placed rp) es_length es_value (subst (Recurs s) fr.placed f) j l ∙ syndromes j l) ∙ add_self bytes (block_syndrome came j)))
        (ap₂ (λ (x y : ℕ). record { bytes = x; bits = y }) (g ∙ changed_weighed es ∙ sym (apart unequal (λ x. unequal_same x x refl) unequal_xor)) (i ∙ sym (apart (unequal_bits 8) (bits_same 8) (bits_xor 8))))
        (omega (arith, few_changed)))
      where
        whole : left ≡ done
        whole = e ∙ ap (λ (ds : List ℕ). corrected_by came ds es) fr.listed

        apart : (d : ℕ → ℕ → ℕ) → ((x : ℕ) → d x x ≡ 0) → ((x y : ℕ) → d x (bit_xor x y) ≡ d y 0) → distance d came done ≡ weighed d es
        apart d none one_polynomial =
            corrected_distance d none one_polynomial came (roots_of u q) es n in_range_lem (distinct_unmap alpha (roots_of u q) (roots_distinct u q)) es_length
