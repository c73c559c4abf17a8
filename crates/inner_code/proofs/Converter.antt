-- The two branches of a mode: their lengths, one list of bytes after another, and the QPSK rates, which code every bit.
-- Assumes nothing.
use mathlib.Core.Path.{◌≡◌, refl, ap, ap₂, sym, ◌∙◌}
use mathlib.Core.Bool.{Bool}
use mathlib.Core.List.{List, [], ◌∷◌, ◌++◌, map, flatten, append_assoc}
use Prim.Native.Nat.{ℕ, suc, ◌+◌, ◌*◌, ◌/◌, ◌%◌, ◌<◌}
use native.Mathlib.Nat.{add_comm, zero-mul, suc-mul, mul-zero, zero-div, div-one, mul-mod_left}
use native.Mathlib.Omega.{arith}
use lib.ListN.{length, get_or, length-append, length-map}
use Rattle.common.specs.Lists.{chunks, chunks_of}
use Rattle.common.proofs.Chunks.{length-chunks, chunks-append}
use Rattle.convolutional_code.specs.Bits.{bits_of, Bits, none, more}
use Rattle.convolutional_code.proofs.Bits.{bits_at, bits_append}
use Rattle.puncturing.specs.Mode.{CodedBit, InputBit, A, B, D, Column, Mode, qpsk, mode_of, block_bits_by, qpsk_count}
use Rattle.puncturing.proofs.Places.{end, ◌&◌, Below, below}
use Rattle.inner_code.specs.Converter.{bit_at, input_bit, encoded_group, encoded_bits, beside_symbol, uncoded_group, uncoded_numbers, sequenced}

-- ---- bits

digit : (n : ℕ) → n % 2 < 2
digit n = omega arith

bit_small : (b i : ℕ) → bit_at b i < 2
bit_small b i =
    bits_at
    (more (digit b) (more (digit (b / 2)) (more (digit (b / 4)) (more (digit (b / 8))
    (more (digit (b / 16)) (more (digit (b / 32)) (more (digit (b / 64)) (more (digit (b / 128)) none))))))))
    i

input_small : (g : List ℕ) (b : InputBit) → input_bit g b < 2
input_small g (A i) = bit_small (get_or g 0 0) i
input_small g (B i) = bit_small (get_or g 1 0) i
input_small g (D i) = bit_small (get_or g 2 0) i

bits_columns : (g : List ℕ) (cs : List Column) → Bits (map (λ (c : Column). input_bit g c.e) cs)
bits_columns g [] = none
bits_columns g (c ∷ cs) = more (input_small g c.e) (bits_columns g cs)

bits_groups : (m : Mode) (gs : List (List ℕ)) → Bits (flatten (map (encoded_group m) gs))
unfolding flatten
bits_groups m [] = none
bits_groups m (g ∷ gs) = bits_append (bits_columns g m.columns) (bits_groups m gs)

-- the encoded branch has bits alone
pub encoded_bits_lem : (m : Mode) (bytes : List ℕ) → Bits (encoded_bits m bytes)
unfolding encoded_bits
encoded_bits_lem m bytes = bits_groups m (chunks_of m.group bytes)

-- ---- how many

-- lists of one length, one after another
length_each : {A : Type 0} (f : A → List ℕ) (k : ℕ) → ((x : A) → length (f x) ≡ k) → (xs : List A) → length (flatten (map f xs)) ≡ length xs * k
unfolding flatten
length_each f k e [] = sym (zero-mul k)
length_each f k e (x ∷ xs) =
    length-append (f x) (flatten (map f xs))
    ∙ ap₂ (λ (a b : ℕ). a + b) (e x) (length_each f k e xs)
    ∙ add_comm k (length xs * k)
    ∙ sym (suc-mul (length xs) k)

pub length_encoded : (m : Mode) (bytes : List ℕ) → length (encoded_bits m bytes) ≡ length bytes / m.group * length m.columns
unfolding encoded_bits
length_encoded m bytes =
    length_each (encoded_group m) (length m.columns) (λ g. length-map m.columns (λ (c : Column). input_bit g c.e)) (chunks_of m.group bytes)
    ∙ ap (λ (n : ℕ). n * length m.columns) (length-chunks m.group bytes)

pub length_uncoded : (m : Mode) (bytes : List ℕ)
    → length (uncoded_numbers m bytes) ≡ length bytes / m.group * (length m.columns * length m.uncoded)
unfolding uncoded_numbers
length_uncoded m bytes =
    length_each (uncoded_group m) (length m.columns * length m.uncoded)
    (λ g. length_each (λ (c : Column). map (beside_symbol g c) m.uncoded) (length m.uncoded) (λ c. length-map m.uncoded (beside_symbol g c)) m.columns)
    (chunks_of m.group bytes)
    ∙ ap (λ (n : ℕ). n * (length m.columns * length m.uncoded)) (length-chunks m.group bytes)

-- of a block
pub length_block_encoded : (m : Mode) (block : List ℕ) → length block ≡ 204 → length (encoded_bits m block) ≡ block_bits_by m
unfolding block_bits_by
length_block_encoded m block h = length_encoded m block ∙ ap (λ (n : ℕ). n / m.group * length m.columns) h

empty : (l : List ℕ) → length l ≡ 0 → l ≡ []
empty [] e = refl
empty (x ∷ l) e = absurd (omega arith)

pub uncoded_none : (m : Mode) → m.uncoded ≡ [] → (bytes : List ℕ) → uncoded_numbers m bytes ≡ []
uncoded_none m e bytes =
    empty (uncoded_numbers m bytes)
    (length_uncoded m bytes
    ∙ ap (λ (u : List (List ℕ)). length bytes / m.group * (length m.columns * length u)) e
    ∙ ap (λ (n : ℕ). length bytes / m.group * n) (mul-zero (length m.columns))
    ∙ mul-zero (length bytes / m.group))

-- ---- one list after another

flatten-append : (f : List ℕ → List ℕ) (gs hs : List (List ℕ)) → flatten (map f (gs ++ hs)) ≡ flatten (map f gs) ++ flatten (map f hs)
unfolding flatten
flatten-append f [] hs = refl
flatten-append f (g ∷ gs) hs =
    ap (λ (l : List ℕ). f g ++ l) (flatten-append f gs hs) ∙ sym (append_assoc (f g) (flatten (map f gs)) (flatten (map f hs)))

module _ (m : Mode) (k : ℕ) (a b : List ℕ) (some : 0 < m.group) (e : length a ≡ k * m.group) where
  groups_split : chunks_of m.group (a ++ b) ≡ chunks_of m.group a ++ chunks_of m.group b
  groups_split = chunks-append m.group some a b (ap (λ (n : ℕ). n % m.group) e ∙ mul-mod_left k m.group)

  pub encoded_append : encoded_bits m (a ++ b) ≡ encoded_bits m a ++ encoded_bits m b
  unfolding encoded_bits
  encoded_append = ap (λ (gs : List (List ℕ)). flatten (map (encoded_group m) gs)) groups_split ∙ flatten-append (encoded_group m) (chunks_of m.group a) (chunks_of m.group b)

  pub uncoded_append : uncoded_numbers m (a ++ b) ≡ uncoded_numbers m a ++ uncoded_numbers m b
  unfolding uncoded_numbers
  uncoded_append = ap (λ (gs : List (List ℕ)). flatten (map (uncoded_group m) gs)) groups_split ∙ flatten-append (uncoded_group m) (chunks_of m.group a) (chunks_of m.group b)

pub encoded_empty : (m : Mode) → encoded_bits m [] ≡ []
unfolding encoded_bits chunks_of chunks flatten
encoded_empty m = ap (λ (n : ℕ). flatten (map (encoded_group m) (chunks m.group n []))) (zero-div m.group)

pub uncoded_empty : (m : Mode) → uncoded_numbers m [] ≡ []
unfolding uncoded_numbers chunks_of chunks flatten
uncoded_empty m = ap (λ (n : ℕ). flatten (map (uncoded_group m) (chunks m.group n []))) (zero-div m.group)

-- the symbols of two lists, with the bits beside them
pub sequenced_append : (us vs cs ds : List ℕ) → length us ≡ length cs → sequenced (us ++ vs) (cs ++ ds) ≡ sequenced us cs ++ sequenced vs ds
unfolding sequenced
sequenced_append [] vs [] ds e = refl
sequenced_append [] vs (c ∷ cs) ds e = absurd (omega arith)
sequenced_append (u ∷ us) vs [] ds e = absurd (omega arith)
sequenced_append (u ∷ us) vs (c ∷ cs) ds e = ap (λ (l : List ℕ). (4 * u + c) ∷ l) (sequenced_append us vs cs ds (omega arith))

pub length_sequenced : (us cs : List ℕ) → length us ≡ length cs → length (sequenced us cs) ≡ length cs
unfolding sequenced
length_sequenced [] cs e = refl
length_sequenced (u ∷ us) [] e = absurd (omega arith)
length_sequenced (u ∷ us) (c ∷ cs) e = ap suc (length_sequenced us cs (omega arith))

-- ---- the QPSK rates

every_bit : (bytes : List ℕ) (t : Bool) (b : ℕ) (s : List (List CodedBit)) → flatten (map (encoded_group (qpsk t b s)) (chunks 1 (length bytes) bytes)) ≡ bits_of bytes
unfolding flatten chunks bits_of
every_bit [] t b s = refl
every_bit (x ∷ bytes) t b s = ap (λ (l : List ℕ). encoded_group (qpsk t b s) (x ∷ []) ++ l) (every_bit bytes t b s)

encoded_plain : (t : Bool) (b : ℕ) (s : List (List CodedBit)) (bytes : List ℕ) → encoded_bits (qpsk t b s) bytes ≡ bits_of bytes
unfolding encoded_bits chunks_of
encoded_plain t b s bytes = ap (λ (n : ℕ). flatten (map (encoded_group (qpsk t b s)) (chunks 1 n bytes))) (div-one (length bytes)) ∙ every_bit bytes t b s

abbrev EveryBit : ℕ → Type 0
EveryBit r = (bytes : List ℕ) → encoded_bits (mode_of r) bytes ≡ bits_of bytes

all_coded : Below EveryBit qpsk_count
unfolding mode_of
all_coded = encoded_plain _ _ _ & encoded_plain _ _ _ & encoded_plain _ _ _ & encoded_plain _ _ _ & encoded_plain _ _ _ & end

-- every bit is coded
pub encoded_qpsk : (r : ℕ) → r < qpsk_count → (bytes : List ℕ) → encoded_bits (mode_of r) bytes ≡ bits_of bytes
encoded_qpsk r h bytes = below EveryBit qpsk_count all_coded r h bytes

no_uncoded : Below (λ r. (mode_of r).uncoded ≡ []) qpsk_count
unfolding mode_of
no_uncoded = refl & refl & refl & refl & refl & end

pub uncoded_qpsk : (r : ℕ) → r < qpsk_count → (bytes : List ℕ) → uncoded_numbers (mode_of r) bytes ≡ []
uncoded_qpsk r h bytes = uncoded_none (mode_of r) (below (λ r. (mode_of r).uncoded ≡ []) qpsk_count no_uncoded r h) bytes
