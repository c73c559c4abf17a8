-- Parts of the bytes of a state, copied out of it and into it.
-- Assumes nothing.
use mathlib.Core.Path.{◌≡◌, sym, ap, ◌∙◌}
use mathlib.Core.List.{List, [], ◌∷◌, ◌++◌, append-nil}
use Prim.Native.Nat.{ℕ, ◌+◌, ◌-◌, ◌≤◌, ◌<◌}
use native.Mathlib.Omega.{arith}
use lib.ListN.{length, get_or, take, drop, length-drop, drop_of_length-le}
use lib.Seq.{drop-cons, length-take-le, get_or-take, get_or-drop}
use Rattle.common.specs.Lists.{placed}
use Rattle.common.proofs.Lists.{put_after}

-- a part copied to the front of an output
pub front : (bytes output : List ℕ) (at end size : ℕ) → end ≡ at + size → end ≤ length bytes
    → placed output 0 (take (end - at) (drop at bytes)) ≡ take size (drop at bytes) ++ drop size output
front bytes output at end size e h =
    let q : end - at ≡ size = omega arith in
    let m : 0 + length (take size (drop at bytes)) ≡ size = omega (arith, length-take-le size (drop at bytes) (omega (arith, length-drop at bytes))) in
    ap (λ (i : ℕ). placed output 0 (take i (drop at bytes))) q
    ∙ ap (λ (i : ℕ). take size (drop at bytes) ++ drop i output) m

-- a list put after those that are written
pub next : (a x b₀ b b' : List ℕ) (n m : ℕ) → length a ≡ n → n + length x ≡ m → b ≡ a ++ drop n b₀ → b' ≡ placed b n x → b' ≡ a ++ x ++ drop m b₀
next a x b₀ b b' n m h k e f =
    f ∙ ap (λ (l : List ℕ). placed l n x) e ∙ put_after a x b₀ n h ∙ ap (λ (i : ℕ). a ++ x ++ drop i b₀) k

-- the last of them, which fills the output
pub last : (a x b₀ b b' : List ℕ) (n : ℕ) → length a ≡ n → n + length x ≡ length b₀ → b ≡ a ++ drop n b₀ → b' ≡ placed b n x → b' ≡ a ++ x
last a x b₀ b b' n h k e f =
    next a x b₀ b b' n (length b₀) h k e f
    ∙ ap (λ (l : List ℕ). a ++ x ++ l) (drop_of_length-le b₀ {i = length b₀} (omega arith))
    ∙ append-nil (a ++ x)

-- ---- a field of one byte

pub byte_part : (bytes : List ℕ) (at : ℕ) → at < length bytes → get_or bytes at 0 ∷ [] ≡ take 1 (drop at bytes)
byte_part bytes at h = ap (take 1) (sym (drop-cons bytes at 0 h))

-- the byte that it is
pub part_byte : (bytes : List ℕ) (at x : ℕ) → take 1 (drop at bytes) ≡ x ∷ [] → get_or bytes at 0 ≡ x
part_byte bytes at x e =
    let m : at ≡ at + 0 = omega arith in
    ap (λ (i : ℕ). get_or bytes i 0) m
    ∙ sym (get_or-take 1 (drop at bytes) 0 0 (omega arith) ∙ get_or-drop at bytes 0 0)
    ∙ ap (λ (l : List ℕ). get_or l 0 0) e
