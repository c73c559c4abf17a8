-- Lists each of whose members is such a one, lists given by their members, and lists written into a buffer.
-- Assumes nothing.
use mathlib.Core.Path.{◌≡◌, refl, sym, ap, ap₂, ◌∙◌, subst}
use mathlib.Core.List.{List, [], ◌∷◌, ◌++◌, map}
use mathlib.Core.Logic.{◌⊎◌, inl, inr}
use Prim.Native.Nat.{ℕ, zero, suc, ◌+◌, ◌-◌, ◌≤◌, ◌<◌}
use Prim.{tt}
use native.Mathlib.Nat.{le_of_suc-le-suc, not-suc-le-zero}
use native.Mathlib.Decide.{ℕ_discrete}
use native.Mathlib.Numerals.{add-one}
use native.Mathlib.Omega.{arith}
use lib.ListN.{length, get_or, take, drop, length-append, get_or-append, replicate}
use lib.Seq.{take_at, drop-append-add, drop-drop, length-take-le, get_or-append-add, get_or-take, get_or-drop, get_or_at}
use Rattle.common.specs.Lists.{All, list_of}

-- ---- each member

pub All-each : {A : Type 0} (P : A → Type 0) → ((x : A) → P x) → (xs : List A) → All P xs
All-each P f [] = tt
All-each P f (x ∷ xs) = (f x, All-each P f xs)

pub All-append : {A : Type 0} (P : A → Type 0) (xs ys : List A) → All P xs → All P ys → All P (xs ++ ys)
All-append P [] ys g h = h
All-append P (x ∷ xs) ys g h = (g.0, All-append P xs ys g.1 h)

pub All-map : {A : Type 0} (P Q : A → Type 0) → ((x : A) → P x → Q x) → (xs : List A) → All P xs → All Q xs
All-map P Q f [] h = tt
All-map P Q f (x ∷ xs) h = (f x h.0, All-map P Q f xs h.1)

pub All-zip : {A : Type 0} (P Q R : A → Type 0) → ((x : A) → P x → Q x → R x) → (xs : List A) → All P xs → All Q xs → All R xs
All-zip P Q R f [] h k = tt
All-zip P Q R f (x ∷ xs) h k = (f x h.0 k.0, All-zip P Q R f xs h.1 k.1)

pub All-of : {A : Type 0} (P : A → Type 0) (xs : List A) (d : A) → ((i : ℕ) → i < length xs → P (get_or xs i d)) → All P xs
All-of P [] d h = tt
All-of P (x ∷ xs) d h = (h zero (omega arith), All-of P xs d (λ i l. h (suc i) (omega arith)))

pub All-at : {A : Type 0} (P : A → Type 0) (xs : List A) (d : A) (i : ℕ) → All P xs → i < length xs → P (get_or xs i d)
All-at P [] d i h l = absurd (not-suc-le-zero l)
All-at P (x ∷ xs) d zero h l = h.0
All-at P (x ∷ xs) d (suc i) h l = All-at P xs d i h.1 (le_of_suc-le-suc l)

-- ---- lists given by their members

pub length_list_of : {A : Type 0} (n : ℕ) (f : ℕ → A) → length (list_of n f) ≡ n
unfolding list_of
length_list_of zero f = refl
length_list_of (suc n) f = length-append (list_of n f) (f n ∷ []) ∙ ap (λ (k : ℕ). k + 1) (length_list_of n f) ∙ add-one n

pub get_d_list_of : {A : Type 0} (n : ℕ) (f : ℕ → A) (d : A) (i : ℕ) → i < n → get_or (list_of n f) i d ≡ f i
unfolding list_of
get_d_list_of zero f d i h = absurd (not-suc-le-zero h)
get_d_list_of (suc n) f d i h = by (ℕ_discrete i n) (get_d_list_of n f d i)
  where
    by : Dec (i ≡ n) → (i < n → get_or (list_of n f) i d ≡ f i) → get_or (list_of n f ++ f n ∷ []) i d ≡ f i
    by (yes e) r = subst (λ (k : ℕ). get_or (list_of n f ++ f n ∷ []) i d ≡ f k) (sym e) (get_or_at (list_of n f) (f n) [] d i (length_list_of n f ∙ sym e))
    by (no e) r = get_or-append (list_of n f) (f n ∷ []) d i (rw (length_list_of n f) (omega arith)) ∙ r (omega arith)

module _ {A : Type 0} (P : A → Type 0) where
  all_snoc : (xs : List A) (x : A) → All P xs → P x → All P (xs ++ x ∷ [])
  all_snoc [] x g h = (h, tt)
  all_snoc (y ∷ xs) x g h = (g.0, all_snoc xs x g.1 h)

  pub all_list_of : (n : ℕ) (f : ℕ → A) → ((i : ℕ) → i < n → P (f i)) → All P (list_of n f)
  unfolding list_of
  all_list_of zero f h = tt
  all_list_of (suc n) f h = all_snoc (list_of n f) (f n) (all_list_of n f (λ i k. h i (omega arith))) (h n (omega arith))

-- ---- members and places

-- an element of a list that is mapped, whatever stands for what is past the end
pub get_d_map_in : {A B : Type 0} (f : A → B) (l : List A) (d : A) (e : B) (i : ℕ) → i < length l → get_or (map f l) i e ≡ f (get_or l i d)
get_d_map_in f [] d e i h = absurd (not-suc-le-zero h)
get_d_map_in f (x ∷ l) d e zero h = refl
get_d_map_in f (x ∷ l) d e (suc i) h = get_d_map_in f l d e i (le_of_suc-le-suc h)

-- two lists written one after the other to the front of a buffer
pub put_after : (a b l : List ℕ) (n : ℕ) → length a ≡ n
    → take n (a ++ drop n l) ++ b ++ drop (n + length b) (a ++ drop n l) ≡ (a ++ b) ++ drop (n + length b) l
put_after a b l n e =
    ap₂ (λ (s t : List ℕ). s ++ b ++ t) (take_at a (drop n l) n e)
    (ap (λ (k : ℕ). drop (k + length b) (a ++ drop n l)) (sym e) ∙ drop-append-add a (drop n l) (length b) ∙ drop-drop (length b) n l)

-- a list written into a buffer: its own places, and the others
put_shape : (l a : List ℕ) (at : ℕ) → at + length a ≤ length l → length (take at l) ≡ at
put_shape l a at h = length-take-le at l (omega arith)

pub put_own : (l a : List ℕ) (at i : ℕ) → at + length a ≤ length l → i < length a → get_or (take at l ++ a ++ drop (at + length a) l) (at + i) 0 ≡ get_or a i 0
put_own l a at i h k =
    get_or-append (take at l ++ a) (drop (at + length a) l) 0 (at + i) (omega (arith, length-append (take at l) a, put_shape l a at h))
    ∙ ap (λ (n : ℕ). get_or (take at l ++ a) (n + i) 0) (sym (put_shape l a at h)) ∙ get_or-append-add (take at l) a i 0

pub put_other : (l a : List ℕ) (at k : ℕ) → at + length a ≤ length l → k < length l → (k < at) ⊎ (at + length a ≤ k)
    → get_or (take at l ++ a ++ drop (at + length a) l) k 0 ≡ get_or l k 0
put_other l a at k h b (inl c) =
    get_or-append (take at l ++ a) (drop (at + length a) l) 0 k (omega (arith, length-append (take at l) a, put_shape l a at h))
    ∙ get_or-append (take at l) a 0 k (omega (arith, put_shape l a at h)) ∙ get_or-take at l k 0 c
put_other l a at k h b (inr c) =
    let n : length (take at l ++ a) + (k - (at + length a)) ≡ k = omega (arith, length-append (take at l) a, put_shape l a at h) in
    let m : at + length a + (k - (at + length a)) ≡ k = omega arith in
    ap (λ (j : ℕ). get_or (take at l ++ a ++ drop (at + length a) l) j 0) (sym n)
    ∙ get_or-append-add (take at l ++ a) (drop (at + length a) l) (k - (at + length a)) 0
    ∙ get_or-drop (at + length a) l (k - (at + length a)) 0 ∙ ap (λ (j : ℕ). get_or l j 0) m

-- ---- zeros

pub zeros_at : (n i : ℕ) → get_or {A = ℕ} (replicate n 0) i 0 ≡ 0
zeros_at zero i = refl
zeros_at (suc n) zero = refl
zeros_at (suc n) (suc i) = zeros_at n i
