-- What the steps to the error locator give.
-- Assumes nothing.
use Rattle.std.specs.Prelude.{◌≡◌, Bool, true, false, List, length, get_or}
use Prim.Native.Nat.{ℕ, ◌+◌, ◌*◌, ◌≤◌, ◌<◌, Fin}
use Rattle.algebra.specs.Polynomial.{plus}
use Rattle.algebra.proofs.Polynomial.{Zero, from_roots}
use Rattle.algebra.proofs.Syndromes.{dot}
use Rattle.algebra.proofs.Elimination.{Reach, Diagonal, Swept}
use Rattle.galois.specs.Field256.{numbers}
use Rattle.galois.proofs.Instance.{bytes, byte}
use Rattle.galois.specs.Lanes.{products_of}
use Rattle.galois.proofs.Elements.{elements}

-- eight rows of sixteen bytes as a matrix over the field
abbrev pub mat : List ℕ → ℕ → ℕ → Fin 256
mat m r c = byte (get_or m (r * 16 + c) 0)

-- Of the eight rows the first count, as many as size says: the others are in no equation.

-- the first of these rows from k on that is not zero in column k
pub record FirstPivot (m : List ℕ) (size k p : ℕ) : Type 0 where
  pub from : k ≤ p
  pub most : p ≤ size
  pub zeros : (r : ℕ) → k ≤ r → r < p → mat m r k ≡ bytes.𝟘
  pub pivot : p < size → mat m p k ≡ bytes.𝟘 → ⊥

-- p times a and b times f, lane by lane
unfoldable pub combined_of : List ℕ → List ℕ → List ℕ → List ℕ → List ℕ
combined_of p a b f = plus numbers (products_of p a) (products_of b f)

abbrev pub Outcome : List ℕ → ℕ → ℕ → Bool → Type 0
Outcome m size k true = mat m k k ≡ bytes.𝟘 → ⊥
Outcome m size k false = (r : ℕ) → k ≤ r → r < size → mat m r k ≡ bytes.𝟘

-- a pivot is looked for in column k, and the columns below k are as they were
pub record Pivoted (old new : List ℕ) (size k : ℕ) (found : Bool) : Type 0 where
  pub len : length new ≡ 128
  pub reach : Reach bytes size 9 (mat old) (mat new)
  pub diagonal : (d : Fin 256) → Diagonal bytes size k d (mat old) → Diagonal bytes size k d (mat new)
  pub outcome : Outcome new size k found

-- column k is cleared in the rows below i
pub record Cleared (old new : List ℕ) (size k i : ℕ) : Type 0 where
  pub len : length new ≡ 128
  pub most : i ≤ size
  pub reach : Reach bytes size 9 (mat old) (mat new)
  pub swept : Swept bytes size 9 k i (mat old) (mat new)

-- the columns below k are those of d times the unit matrix
pub record Reduced (old new : List ℕ) (size k : ℕ) (d : Fin 256) : Type 0 where
  pub len : length new ≡ 128
  pub reach : Reach bytes size 9 (mat old) (mat new)
  pub diagonal : Diagonal bytes size k d (mat new)
  pub nonzero : d ≡ bytes.𝟘 → ⊥

-- the elimination has ended: column k has no pivot
pub record Eliminated (old new : List ℕ) (size k : ℕ) (d : Fin 256) : Type 0 where
  pub kept : Reduced old new size k d
  pub most : k ≤ size
  pub none : (r : ℕ) → k ≤ r → r < size → mat new r k ≡ bytes.𝟘

-- row r, column c has the syndrome r + c
pub record Filled (s : List ℕ) (size : ℕ) (m : List ℕ) : Type 0 where
  pub len : length m ≡ 128
  pub each : (r c : ℕ) → r < size → c < 9 → get_or m (r * 16 + c) 0 ≡ get_or s (r + c) 0

-- the element c of the solution, where column k has no pivot and the rows before have d on the diagonal
pub record SolutionAt (m : List ℕ) (k d c v : ℕ) : Type 0 where
  pub below : c < k → byte v ≡ mat m c k
  pub own : c ≡ k → byte v ≡ byte d
  pub above : k < c → byte v ≡ bytes.𝟘

pub record Solution (m : List ℕ) (k d : ℕ) (q : List ℕ) : Type 0 where
  pub each : (c : ℕ) → c < 9 → SolutionAt m k d c (get_or q c 0)

-- a solution of the first key equations, as many as size says, that is not zero and has no coefficient above size
pub record Located (s : List ℕ) (size : ℕ) (q : List ℕ) : Type 0 where
  pub nonzero : Zero bytes (elements q) → ⊥
  pub zeros : (c : ℕ) → size < c → get_or (elements q) c bytes.𝟘 ≡ bytes.𝟘
  pub equations : (j : ℕ) → j < size → dot bytes (elements q) (λ i. byte (get_or s (j + i) 0)) ≡ bytes.𝟘

-- ---- the syndromes as erasures modify them

-- each byte is the next
pub record Lowered (s r : List ℕ) : Type 0 where
  pub each : (j : ℕ) → get_or r j 0 ≡ get_or s (j + 1) 0

-- T_j = Σ_k g_k S_(j + k), where g is the product of x + r over the places r of erasures. Of sixteen as many are lost as there are places
pub record Modified (s rs t : List ℕ) : Type 0 where
  pub each : (j : ℕ) → j + length rs < 16 → byte (get_or t j 0) ≡ dot bytes (from_roots bytes (elements rs)) (λ k. byte (get_or s (j + k) 0))
