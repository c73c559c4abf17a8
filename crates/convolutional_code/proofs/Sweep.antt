-- The mother code from a list that holds the bits of the memory before those of a block.
-- Assumes nothing.
use mathlib.Core.Path.{◌≡◌, refl, ap, ap₂, sym, ◌∙◌}
use mathlib.Core.List.{List, [], ◌∷◌, ◌++◌}
use Prim.Native.Nat.{ℕ, zero, suc, ◌+◌, ◌*◌, ◌/◌, ◌%◌, ◌<◌}
use native.Mathlib.Nat.{add-zero, add-suc, suc-add, not-suc-le-zero, le_of_suc-le-suc}
use native.Mathlib.Omega.{arith}
use lib.ListN.{length, get_or}
use Rattle.convolutional_code.specs.Bits.{bits_of, Bits}
use Rattle.convolutional_code.specs.Code.{taps_x, taps_y, next_memory, coded, mother_of, memory_after, block_mother}
use Rattle.convolutional_code.specs.Sweep.{oldest, offsets_x, offsets_y, total_at, sweep, memory_at}
use Rattle.convolutional_code.proofs.Bits.{bits_at, bits_tail, bits_bits, length_bits, next_lt}

pub length_sweep : (os h : List ℕ) (n k : ℕ) → length (sweep os h n k) ≡ k
unfolding sweep
length_sweep os h n zero = refl
length_sweep os h n (suc k) = ap suc (length_sweep os h (suc n) k)

pub sweep_at : (os h : List ℕ) (n k i : ℕ) → i < k → get_or (sweep os h n k) i 0 ≡ total_at os h (n + i) % 2
unfolding sweep
sweep_at os h n zero i l = absurd (not-suc-le-zero l)
sweep_at os h n (suc k) zero l = ap (λ (m : ℕ). total_at os h m % 2) (sym (add-zero n))
sweep_at os h n (suc k) (suc i) l =
    sweep_at os h (suc n) k i (le_of_suc-le-suc l) ∙ ap (λ (m : ℕ). total_at os h m % 2) (suc-add n i ∙ sym (add-suc n i))

-- of five taps
pub total_five : (os h : List ℕ) (n : ℕ) → length os ≡ 5
    → get_or h (n + get_or os 0 0) 0 + (get_or h (n + get_or os 1 0) 0 + (get_or h (n + get_or os 2 0) 0 + (get_or h (n + get_or os 3 0) 0 + (get_or h (n + get_or os 4 0) 0 + 0))))
    ≡ total_at os h n
total_five (a ∷ b ∷ c ∷ d ∷ e ∷ []) h n l = refl
total_five (a ∷ b ∷ c ∷ d ∷ e ∷ f ∷ os) h n l = absurd (omega arith)
total_five (a ∷ b ∷ c ∷ d ∷ []) h n l = absurd (omega arith)
total_five (a ∷ b ∷ c ∷ []) h n l = absurd (omega arith)
total_five (a ∷ b ∷ []) h n l = absurd (omega arith)
total_five (a ∷ []) h n l = absurd (omega arith)
total_five [] h n l = absurd (omega arith)

-- the digits of a memory that a bit was put on top of
digits_under : (b q : ℕ)
    → ((b * 32 + q) / 2 % 2 ≡ q / 2 % 2) × ((b * 32 + q) / 4 % 2 ≡ q / 4 % 2) × ((b * 32 + q) / 8 % 2 ≡ q / 8 % 2) × ((b * 32 + q) / 16 % 2 ≡ q / 16 % 2)
digits_under b q = (omega arith, omega arith, omega arith, omega arith)

digits_halved : (m : ℕ) → (m / 4 ≡ m / 2 / 2) × (m / 8 ≡ m / 2 / 4) × (m / 16 ≡ m / 2 / 8) × (m / 32 ≡ m / 2 / 16)
digits_halved m = (omega arith, omega arith, omega arith, omega arith)

top : (b q : ℕ) → b < 2 → q < 32 → (b * 32 + q) / 32 % 2 ≡ b
top b q h k =
    let t : (b * 32 + q) / 32 ≡ b = omega arith in
    ap (λ (n : ℕ). n % 2) t ∙ small b h
  where
    small : (b : ℕ) → b < 2 → b % 2 ≡ b
    small b h = omega arith

-- the oldest bit leaves, and the list behind it begins with the next memory
shift : (memory b : ℕ) (bs : List ℕ) → memory < 64 → b < 2
    → oldest memory ++ b ∷ bs ≡ memory % 2 ∷ (oldest (next_memory memory b) ++ bs)
shift m b bs h k =
    let next = next_memory m b in
    let u = digits_under b (m / 2) in
    let v = digits_halved m in
    let e0 : m / 2 % 2 ≡ next % 2 = omega arith in
    let e1 : m / 4 % 2 ≡ next / 2 % 2 = ap (λ (n : ℕ). n % 2) v.0 ∙ sym u.0 in
    let e2 : m / 8 % 2 ≡ next / 4 % 2 = ap (λ (n : ℕ). n % 2) v.1 ∙ sym u.1 in
    let e3 : m / 16 % 2 ≡ next / 8 % 2 = ap (λ (n : ℕ). n % 2) v.2 ∙ sym u.2 in
    let e4 : m / 32 % 2 ≡ next / 16 % 2 = ap (λ (n : ℕ). n % 2) v.3 ∙ sym u.3 in
    let e5 : b ≡ next / 32 % 2 = sym (top b (m / 2) k (omega arith)) in
    λ i. m % 2 ∷ e0 i ∷ e1 i ∷ e2 i ∷ e3 i ∷ e4 i ∷ e5 i ∷ bs

-- a list from its second element on
total_tail : (os : List ℕ) (a : ℕ) (h : List ℕ) (n : ℕ) → total_at os (a ∷ h) (suc n) ≡ total_at os h n
total_tail [] a h n = refl
total_tail (o ∷ os) a h n = ap₂ (λ (x y : ℕ). x + y) (ap (λ (k : ℕ). get_or (a ∷ h) k 0) (suc-add n o)) (total_tail os a h n)

sweep_tail : (os : List ℕ) (a : ℕ) (h : List ℕ) (n k : ℕ) → sweep os (a ∷ h) (suc n) k ≡ sweep os h n k
unfolding sweep
sweep_tail os a h n zero = refl
sweep_tail os a h n (suc k) = ap₂ (λ (x : ℕ) (l : List ℕ). x % 2 ∷ l) (total_tail os a h n) (sweep_tail os a h (suc n) k)

-- offsets that are the taps of a generator
abbrev Offsets : List ℕ → List ℕ → Type 0
Offsets os taps = (memory b : ℕ) (bs : List ℕ) → total_at os (oldest memory ++ b ∷ bs) 0 % 2 ≡ coded taps memory b

sweep_mother : (os taps : List ℕ) → Offsets os taps → (memory : ℕ) (bits : List ℕ) → memory < 64 → Bits bits
    → sweep os (oldest memory ++ bits) 0 (length bits) ≡ mother_of taps memory bits
unfolding sweep mother_of
sweep_mother os taps same m [] h t = refl
sweep_mother os taps same m (b ∷ bs) h t =
    let next = next_memory m b in
    let rest : sweep os (oldest m ++ b ∷ bs) 1 (length bs) ≡ mother_of taps next bs
    = ap (λ (l : List ℕ). sweep os l 1 (length bs)) (shift m b bs h (bits_at t 0))
    ∙ sweep_tail os (m % 2) (oldest next ++ bs) 0 (length bs)
    ∙ sweep_mother os taps same next bs (next_lt m b h (bits_at t 0)) (bits_tail t)
    in
    ap₂ (λ (x : ℕ) (l : List ℕ). x ∷ l) (same m b bs) rest

-- six binary digits add up to their number
summed : (m q1 q2 q3 q4 q5 d0 d1 d2 d3 d4 d5 : ℕ) → m ≡ 2 * q1 + d0 → q1 ≡ 2 * q2 + d1 → q2 ≡ 2 * q3 + d2 → q3 ≡ 2 * q4 + d3 → q4 ≡ 2 * q5 + d4
    → q5 ≡ d5 → d0 + 2 * d1 + 4 * d2 + 8 * d3 + 16 * d4 + 32 * d5 ≡ m
summed m q1 q2 q3 q4 q5 d0 d1 d2 d3 d4 d5 a b c d e f = omega arith

memory_mother : (memory : ℕ) (bits : List ℕ) → memory < 64 → Bits bits → memory_at (oldest memory ++ bits) (length bits) ≡ memory_after memory bits
unfolding memory_after
memory_mother m [] h t =
    let v = digits_halved m in
    summed m (m / 2) (m / 4) (m / 8) (m / 16) (m / 32) (m % 2) (m / 2 % 2) (m / 4 % 2) (m / 8 % 2) (m / 16 % 2) (m / 32 % 2) (omega arith) (omega arith)
    (omega arith) (omega arith) (omega arith) (omega arith)
memory_mother m (b ∷ bs) h t =
    let next = next_memory m b in
    let n = length bs in
    let l = oldest next ++ bs in
    let at : (j : ℕ) → get_or (m % 2 ∷ l) (suc n + j) 0 ≡ get_or l (n + j) 0 = λ j. ap (λ (k : ℕ). get_or (m % 2 ∷ l) k 0) (suc-add n j) in
    let s : memory_at (m % 2 ∷ l) (suc n) ≡ memory_at l n
    = λ i. get_or l n 0 + 2 * at 1 i + 4 * at 2 i + 8 * at 3 i + 16 * at 4 i + 32 * at 5 i
    in
    ap (λ (k : List ℕ). memory_at k (suc n)) (shift m b bs h (bits_at t 0))
    ∙ s
    ∙ memory_mother next bs (next_lt m b h (bits_at t 0)) (bits_tail t)

-- the bits of some bytes
module _ (memory : ℕ) (bytes : List ℕ) (k : ℕ) (h : memory < 64) (n : k ≡ 8 * length bytes) where
  size : length (bits_of bytes) ≡ k
  size = length_bits bytes ∙ sym n

  swept : (os taps : List ℕ) → Offsets os taps → sweep os (oldest memory ++ bits_of bytes) 0 k ≡ mother_of taps memory (bits_of bytes)
  swept os taps same = ap (sweep os (oldest memory ++ bits_of bytes) 0) (sym size) ∙ sweep_mother os taps same memory (bits_of bytes) h (bits_bits bytes)

  pub block_mother_lem : sweep offsets_x (oldest memory ++ bits_of bytes) 0 k ++ sweep offsets_y (oldest memory ++ bits_of bytes) 0 k
      ≡ block_mother memory (bits_of bytes)
  block_mother_lem = ap₂ (λ (x y : List ℕ). x ++ y) (swept offsets_x taps_x (λ m b bs. refl)) (swept offsets_y taps_y (λ m b bs. refl))

  pub block_memory : memory_at (oldest memory ++ bits_of bytes) k ≡ memory_after memory (bits_of bytes)
  block_memory = ap (memory_at (oldest memory ++ bits_of bytes)) (sym size) ∙ memory_mother memory (bits_of bytes) h (bits_bits bytes)
