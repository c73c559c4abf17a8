-- Tables to compute with, each one native number that holds its byte i at 256 ^ i: a look-up is a division. The powers of 02 and the logarithms, and the product by them.
-- Assumes nothing.
use mathlib.Core.Path.{◌≡◌, refl, sym, ap, ◌∙◌}
use Prim.Native.Nat.{ℕ, zero, suc, ◌/◌, ◌%◌, ◌^◌, ◌<◌}
use native.Mathlib.Omega.{arith}
use lib.Dec.{T, ltb, ltb→lt}
use Rattle.algebra.specs.Polynomial.{power}
use Rattle.galois.specs.Field256.{times_x, rounds, mul, pow, inv}
use Rattle.common.proofs.Computed.{below, below_at, agree, agree_at}
use Rattle.galois.proofs.Powers.{pow_pow, one_pow}

-- byte i of a table
abbrev at : ℕ → ℕ → ℕ
at t i = t / 256 ^ i % 256

unfoldable exps : ℕ
exps =
    0x8e47add86c361b83cfe9fa7db0582c160b8bcbebfbf3f7f5f47a3d90482412098a45ac562b9bc3eff9f279b259a251a653a7dde070381c0e078dc86432198241ae57a5dc6e3795c46231964babdbe3fff1f67bb3d7e5fc7e3f91c663bfd1e673b7d5e472399249aa55a452299a4da8542a158442219e4fa9da6db85c2e1785cc663397c5ec763b93c7edf87c3e1f81ce67bdd068341a0d884422118643afd9e271b65ba3dfe1fe7fb1d66bbbd3e7fdf0783c1e0f89ca65bc5e2f99c261be5fa1de6fb9d269ba5da05028140a058c46239fc1ee77b5d46a35944a259c4e279dc06030180c06038fc9ea75b45a2d984c261387cde8743a1d8040201008040201

unfoldable logs : ℕ
logs =
    0xaf5850a8eaf4d674e8ade7e6e9d5ae4fd72c757aeb16f50b51a0a99cb05f59cb5a3eccbbb18660fbaa559d29523ba16cf66f0c7fec4917c476a47bb7d8432d1fa2416d4753393c849e5d2a14abd356f261befcdcb2978790cdcfbc955bd13f372e892023d99244117cb4b8267799a5e318fec531edde4a670d63808cf7c0700757a7f373ace5d44e2b79150a9f9b5eca3dba85fa54283a6b6e7e48c3a3b6421e404638835c13d2f1bddb968fce94d03688229110b32598e2fd30dd66628bbf06a672e44d78099ac9b9f9276a7dc2b51d458212f0da8e9335210f24e12f658a05714c08c8f869c11c81ef8d340ee064044bc7681bee33df03c61a320219010000

exp_next : T (agree (λ k. at exps (suc k)) (λ k. mul 2 (at exps k)) 254)
unfolding exps mul rounds times_x
exp_next = tt

exp_pow : (k : ℕ) → k < 255 → at exps k ≡ pow 2 k
unfolding exps power
exp_pow zero h = refl
exp_pow (suc k) h =
    agree_at (λ k. at exps (suc k)) (λ k. mul 2 (at exps k)) 254 exp_next k (omega arith) ∙ ap (mul 2) (exp_pow k (omega arith))

log_right : T (agree (λ a. at exps (at logs (suc a))) suc 255)
unfolding exps logs
log_right = tt

log_small : T (below (λ a. ltb (at logs a) 255) 256)
unfolding logs
log_small = tt

log_lt : (a : ℕ) → a < 256 → at logs a < 255
log_lt a h = ltb→lt (at logs a) 255 (below_at (λ a. ltb (at logs a) 255) 256 log_small a h)

-- each byte but 0 is a power of 02
power_of_lem : (a : ℕ) → a < 256 → (a ≡ 0 → ⊥) → a ≡ pow 2 (at logs a)
power_of_lem zero h n = absurd (n refl)
power_of_lem (suc a) h n =
    sym (agree_at (λ a. at exps (at logs (suc a))) suc 255 log_right a (omega arith)) ∙ exp_pow (at logs (suc a)) (log_lt (suc a) h)

order : pow 2 255 ≡ 1
unfolding power mul rounds times_x
order = refl

pub mul_inv : (a : ℕ) → a < 256 → (a ≡ 0 → ⊥) → mul a (inv a) ≡ 1
unfolding inv power
mul_inv a h n =
    ap (λ (x : ℕ). pow x 255) (power_of_lem a h n) ∙ pow_pow 2 (at logs a) 255 ∙ ap (λ (x : ℕ). pow x (at logs a)) order ∙ one_pow (at logs a)

exp_right : T (agree (λ k. at logs (at exps k)) (λ k. k) 255)
unfolding exps logs
exp_right = tt

log_pow : (k : ℕ) → k < 255 → at logs (pow 2 k) ≡ k
log_pow k h = ap (at logs) (sym (exp_pow k h)) ∙ agree_at (λ k. at logs (at exps k)) (λ k. k) 255 exp_right k h

-- the first 255 powers of 02 are distinct
pub distinct : (i j : ℕ) → i < j → j < 255 → pow 2 i ≡ pow 2 j → ⊥
distinct i j h l e = let same : i ≡ j = sym (log_pow i (omega arith)) ∙ ap (at logs) e ∙ log_pow j l in omega arith
