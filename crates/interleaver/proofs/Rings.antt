-- The cells of a branch, used in turn, are a first-in, first-out register.
-- Assumes nothing.
use mathlib.Core.Path.{◌≡◌, refl, ap, ap₂, sym, ◌∙◌}
use mathlib.Core.List.{List, [], ◌∷◌, ◌++◌, append_assoc, append-nil}
use Prim.Native.Nat.{ℕ, suc, ◌+◌, ◌-◌, ◌≤◌, ◌<◌, max}
use native.Mathlib.Decide.{ℕ_discrete, dec_lt}
use native.Mathlib.Numerals.{add-one}
use native.Mathlib.Omega.{arith}
use borrow.Author.Tests.{eq-eqb, ne_eqb, lt-ltb, le-ltb}
use lib.Dec.{eqb}
use lib.ListN.{length, get_or, take, drop, set, length-set, length-append, length-drop, length-take, take-append-drop, drop_of_length-le}
use lib.Seq.{drop-cons, take-suc-set, drop-set-lt, set_split, drop-length, append_snoc, length-take-le, take_all, drop_at, take_at, drop-nil, take-nil}
use Rattle.common.specs.Choice.{pick}
use Rattle.interleaver.specs.Branch.{turned}
use Rattle.interleaver.specs.Block.{position_advanced, position_after}

-- the cell that is used after cell p
abbrev pub next_of : ℕ → ℕ → ℕ
next_of size p = pick (eqb (p + 1) size) 0 (p + 1)

-- one byte goes in, and the oldest comes out
ring : (s : List ℕ) (p b : ℕ) → p < length s → turned p s ++ b ∷ [] ≡ get_or s p 0 ∷ turned (next_of (length s) p) (set s p b)
ring s p b h = by (ℕ_discrete (p + 1) (length s))
  where
    start : turned p s ++ b ∷ [] ≡ get_or s p 0 ∷ (drop (suc p) s ++ (take p s ++ b ∷ []))
    start =
        ap (λ (l : List ℕ). (l ++ take p s) ++ b ∷ []) (drop-cons s p 0 h)
        ∙ ap (λ (l : List ℕ). get_or s p 0 ∷ l) (append_assoc (drop (suc p) s) (take p s) (b ∷ []))

    by : Dec (p + 1 ≡ length s) → turned p s ++ b ∷ [] ≡ get_or s p 0 ∷ turned (next_of (length s) p) (set s p b)
    by (yes e) =
        let last : drop (suc p) s ≡ [] = ap (λ (k : ℕ). drop k s) (sym (add-one p) ∙ e) ∙ drop-length s in
        rw (eq-eqb _ _ e)
        (start
        ∙ ap (λ (l : List ℕ). get_or s p 0 ∷ (l ++ (take p s ++ b ∷ []))) last
        ∙ ap (λ (l : List ℕ). get_or s p 0 ∷ (take p s ++ b ∷ l)) (sym last)
        ∙ ap (λ (l : List ℕ). get_or s p 0 ∷ l) (sym (set_split s p b h) ∙ sym (append-nil (set s p b))))
    by (no e) =
        rw (ne_eqb _ _ e)
        (start
        ∙ ap₂ (λ (l m : List ℕ). get_or s p 0 ∷ (l ++ m)) (sym (drop-set-lt (suc p) s p b (omega arith))) (sym (take-suc-set s p b h))
        ∙ ap (λ (k : ℕ). get_or s p 0 ∷ turned k (set s p b)) (sym (add-one p)))

pub length_turned : (p : ℕ) (s : List ℕ) → p ≤ length s → length (turned p s) ≡ length s
length_turned p s h = length-append (drop p s) (take p s) ∙ simp (length-drop, length-take) (omega arith)

-- turned on by what is missing, a ring is as it was
unturned : (p : ℕ) (s : List ℕ) → p ≤ length s → turned (length s - p) (turned p s) ≡ s
unturned p s h =
    let n : length (drop p s) ≡ length s - p = length-drop p s in
    ap₂ (λ (a b : List ℕ). a ++ b) (drop_at (drop p s) (take p s) (length s - p) n) (take_at (drop p s) (take p s) (length s - p) n)
    ∙ take-append-drop p s

-- the other way round
pub returned : (p : ℕ) (q : List ℕ) → p ≤ length q → turned p (turned (length q - p) q) ≡ q
returned p q h =
    let k : length q - p ≤ length q = omega arith in
    let e : length q - (length q - p) ≡ p = omega arith in
    ap (λ (m : ℕ). turned m (turned (length q - p) q)) (sym e) ∙ unturned (length q - p) q k

turned_nil : (p : ℕ) → turned p [] ≡ []
turned_nil p = ap₂ (λ (a b : List ℕ). a ++ b) (drop-nil p) (take-nil p)

-- as many bytes come out as go in
pub length_leaving : (p : ℕ) (s bs : List ℕ) → length bs ≡ 17 → length (take 17 (turned p s ++ bs)) ≡ 17
length_leaving p s bs n = length-take-le 17 (turned p s ++ bs) (let m = length-append (turned p s) bs in omega arith)

-- ---- positions

pub advanced_small : (size p k : ℕ) → p < size → k ≤ size → position_advanced size p k < size
advanced_small size p k h l = by (dec_lt (p + k) size)
  where
    by : Dec (p + k < size) → position_advanced size p k < size
    by (yes t) = rw (lt-ltb _ _ t) t
    by (no t) = rw (le-ltb (p + k) size (omega arith)) (omega arith)

pub advanced_next : (size p k : ℕ) → p < size → k < size → next_of size (position_advanced size p k) ≡ position_advanced size p (k + 1)
advanced_next size p k h l = by (dec_lt (p + k) size) (dec_lt (p + (k + 1)) size)
  where
    by : Dec (p + k < size) → Dec (p + (k + 1) < size) → next_of size (position_advanced size p k) ≡ position_advanced size p (k + 1)
    by (yes t) (yes u) = rw (lt-ltb _ _ t, lt-ltb _ _ u, ne_eqb (p + k + 1) size (λ e. omega arith)) (omega arith)
    by (yes t) (no u) = rw (lt-ltb _ _ t, le-ltb (p + (k + 1)) size (omega arith), eq-eqb (p + k + 1) size (omega arith)) (omega arith)
    by (no t) (yes u) = absurd (omega arith)
    by (no t) (no u) =
        rw (le-ltb (p + k) size (omega arith), le-ltb (p + (k + 1)) size (omega arith), ne_eqb (p + k - size + 1) size (λ e. omega arith)) (omega arith)

pub position_after_small : (size p : ℕ) → p < max 1 size → ((size ≡ 0 → ⊥) → 17 ≤ size) → position_after size p < max 1 size
unfolding position_after
position_after_small size p h l = by (ℕ_discrete size 0)
  where
    by : Dec (size ≡ 0) → position_after size p < max 1 size
    by (yes e) = rw (eq-eqb _ _ e) h
    by (no e) = let n : 17 ≤ size = l e in let a = advanced_small size p 17 (omega arith) n in rw (ne_eqb _ _ e) (omega arith)

-- a branch without cells lets its bytes through
pub through : (p : ℕ) (s bs : List ℕ) → length s ≡ 0 → length bs ≡ 17
    → (p ≡ position_after (length s) p) × (s ≡ turned (length s - p) (drop 17 (turned p s ++ bs))) × (bs ≡ take 17 (turned p s ++ bs))
unfolding position_after
through p (x ∷ s) bs e n = absurd (omega arith)
through p [] bs e n =
    let whole : turned p [] ++ bs ≡ bs = ap (λ (l : List ℕ). l ++ bs) (turned_nil p) in
    let gone : drop 17 (turned p [] ++ bs) ≡ [] = ap (drop 17) whole ∙ drop_of_length-le bs {i = 17} (omega arith) in (
      refl,
      sym (ap (turned (0 - p)) gone ∙ turned_nil (0 - p)),
      sym (ap (take 17) whole ∙ take_all 17 bs (omega arith)),
    )

-- ---- the loop over the bytes of a branch

-- k of the bytes have gone in, from cells s and position p on; t and q are the cells and the position now
pub record Turning (s : List ℕ) (p : ℕ) (bs : List ℕ) (t : List ℕ) (q k : ℕ) : Type 0 where
  pub same : length t ≡ length s
  pub at : q ≡ position_advanced (length s) p k
  pub small : q < length t
  pub rest : turned q t ++ drop k bs ≡ drop k (turned p s ++ bs)

module _ {s : List ℕ} {p : ℕ} {bs t : List ℕ} {q k : ℕ} (g : Turning s p bs t q k) (h : k < length bs) (small : p < length s) (few : length bs ≤ length s) where
  all : List ℕ
  all = turned p s ++ bs

  long : k < length all
  unfolding all
  long = let n = length-append (turned p s) bs in omega arith

  step : get_or t q 0 ∷ (turned (next_of (length t) q) (set t q (get_or bs k 0)) ++ drop (suc k) bs) ≡ get_or all k 0 ∷ drop (suc k) all
  unfolding all
  step =
      sym (ap (λ (l : List ℕ). l ++ drop (suc k) bs) (ring t q (get_or bs k 0) g.small))
      ∙ append_snoc (turned q t) (get_or bs k 0) (drop (suc k) bs)
      ∙ ap (λ (l : List ℕ). turned q t ++ l) (sym (drop-cons bs k 0 h))
      ∙ g.rest
      ∙ drop-cons all k 0 long

  -- the byte that comes out
  pub turning_out : get_or t q 0 ≡ get_or (turned p s ++ bs) k 0
  unfolding all
  turning_out = cc step

  pub turning_more : (b r : ℕ) → b ≡ get_or bs k 0 → r ≡ next_of (length s) q → Turning s p bs (set t q b) r (k + 1)
  unfolding all
  turning_more b r e f =
      let n : length (set t q b) ≡ length s = length-set t q b ∙ g.same in
      let a : r ≡ position_advanced (length s) p (k + 1)
      = f ∙ ap (next_of (length s)) g.at ∙ advanced_next (length s) p k small (omega arith)
      in
      let l : position_advanced (length s) p (k + 1) < length s = advanced_small (length s) p (k + 1) small (omega arith) in
      record {
        same = n;
        at = a;
        small = omega arith;
        rest =
            ap₂ (λ (m : ℕ) (u : List ℕ). turned m (set t q b) ++ u) (f ∙ ap (λ (i : ℕ). next_of i q) (sym g.same)) (ap (λ (m : ℕ). drop m bs) (add-one k))
            ∙ ap (λ (x : ℕ). turned (next_of (length t) q) (set t q x) ++ drop (suc k) bs) e
            ∙ (cc step)
            ∙ ap (λ (m : ℕ). drop m (turned p s ++ bs)) (sym (add-one k));
      }

pub turning_all : {s : List ℕ} {p : ℕ} {bs t : List ℕ} {q k : ℕ} → Turning s p bs t q k → length bs ≡ k
    → t ≡ turned (length s - q) (drop k (turned p s ++ bs))
turning_all {s} {p} {bs} {t} {q} {k} g e =
    let done : drop k bs ≡ [] = ap (λ (m : ℕ). drop m bs) (sym e) ∙ drop-length bs in
    let small : q < length t = g.small in
    let left : turned q t ≡ drop k (turned p s ++ bs)
    = sym (append-nil (turned q t)) ∙ ap (λ (l : List ℕ). turned q t ++ l) (sym done) ∙ g.rest
    in
    sym (unturned q t (omega arith)) ∙ ap₂ (λ (n : ℕ) (l : List ℕ). turned (n - q) l) g.same left
