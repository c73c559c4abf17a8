-- Lists whose numbers are all such ones, as bytes or zeros.
-- Assumes nothing.
use mathlib.Core.Path.{◌≡◌, ap, subst, sym, ◌∙◌}
use mathlib.Core.List.{List, [], ◌∷◌, ◌++◌}
use Prim.Native.Nat.{ℕ, suc, ◌+◌, ◌-◌, ◌≤◌, ◌<◌}
use native.Mathlib.Decide.{dec_lt}
use native.Mathlib.Omega.{arith}
use lib.Dec.{T, leb, leb→le}
use lib.ListN.{length, get_or, take, drop, length-take, get_or-append, get_or-eq_default}
use lib.Seq.{get_or-take, get_or-drop, get_or-append-add}
use Rattle.common.specs.Lists.{Bytes, Entries, ByteEntries, list_of}
use Rattle.common.proofs.Computed.{every, at}
use Rattle.common.proofs.Lists.{All-at, length_list_of, get_d_list_of}

-- each number that is there, and 0
module _ (P : ℕ → Type 0) (z : P 0) where
  pub entries_below : (xs : List ℕ) → ((i : ℕ) → i < length xs → P (get_or xs i 0)) → Entries P xs
  entries_below xs h i = by (dec_lt i (length xs))
    where
      by : Dec (i < length xs) → P (get_or xs i 0)
      by (yes l) = h i l
      by (no l) = subst P (sym (get_or-eq_default xs 0 {n = i} (omega arith))) z

  pub entries_take : (n : ℕ) (xs : List ℕ) → Entries P xs → Entries P (take n xs)
  entries_take n xs e =
      entries_below (take n xs) (λ i h. subst P (sym (get_or-take n xs i 0 (let m = length-take n xs in omega arith))) (e i))

  pub entries_append : (xs ys : List ℕ) → Entries P xs → Entries P ys → Entries P (xs ++ ys)
  entries_append xs ys e f i = by (dec_lt i (length xs))
    where
      by : Dec (i < length xs) → P (get_or (xs ++ ys) i 0)
      by (yes l) = subst P (sym (get_or-append xs ys 0 i l)) (e i)
      by (no l) =
          let m : length xs + (i - length xs) ≡ i = omega arith in
          subst P (sym (ap (λ (k : ℕ). get_or (xs ++ ys) k 0) (sym m) ∙ get_or-append-add xs ys (i - length xs) 0)) (f (i - length xs))

  pub entries_list_of : (n : ℕ) (f : ℕ → ℕ) → ((i : ℕ) → P (f i)) → Entries P (list_of n f)
  entries_list_of n f e =
      entries_below (list_of n f) (λ i h. subst P (sym (get_d_list_of n f 0 i (let m = length_list_of n f in omega arith))) (e i))

pub entries_drop : (P : ℕ → Type 0) (n : ℕ) (xs : List ℕ) → Entries P xs → Entries P (drop n xs)
entries_drop P n xs e i = subst P (sym (get_or-drop n xs i 0)) (e (n + i))

-- a list of bytes that antt can compute
pub every_byte : (xs : List ℕ) → T (every (λ i x. leb (x + 1) 256) 0 xs) → ByteEntries xs
every_byte xs t =
    entries_below (λ x. x < 256) (omega arith) xs
    (λ i h. let l : get_or xs i 0 + 1 ≤ 256 = leb→le _ _ (at (λ i x. leb (x + 1) 256) xs t i h) in omega arith)

-- ---- bytes, by members and by places

pub bytes_of : (l : List ℕ) → ByteEntries l → Bytes l
bytes_of [] h = tt
bytes_of (x ∷ l) h = (h 0, bytes_of l (λ i. h (suc i)))

pub bytes_entries : (l : List ℕ) → Bytes l → ByteEntries l
bytes_entries l h = entries_below (λ x. x < 256) (omega arith) l (λ i b. All-at (λ x. x < 256) l 0 i h b)
