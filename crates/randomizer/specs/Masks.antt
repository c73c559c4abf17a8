-- The masks of one place of a group, as a test that antt computes: the sequence is made a byte at a time, many times faster than bit by bit.
-- What the private steps ask of a table. proofs/Run.antt shows that the masks are those of Prbs.antt; the public contracts do not rest on these definitions.
-- Assumes nothing.
use Rattle.std.specs.Prelude.{◌≡◌, Bool, true, false, List, [], ◌∷◌, ℕ, zero, suc, ◌+◌, ◌*◌, ◌%◌, eqb, length, take, drop}
use Rattle.common.specs.Choice.{pick}
use Rattle.randomizer.specs.Prbs.{masks}
use Rattle.randomizer.specs.Packet.{randomized}

-- Some bytes of the sequence, from the fifteen stages of the register: a is stage 1 and o is stage 15.
-- The eight bits of a byte, p first, hang only on the stages before it.
abbrev pub run : (count a b c d e f g h i j k l m n o : ℕ) → List ℕ
run zero a b c d e f g h i j k l m n o = []
run (suc count) a b c d e f g h i j k l m n o =
    let p = (n + o) % 2 in
    let q = (m + n) % 2 in
    let r = (l + m) % 2 in
    let s = (k + l) % 2 in
    let t = (j + k) % 2 in
    let u = (i + j) % 2 in
    let v = (h + i) % 2 in
    let w = (g + h) % 2 in
    ((((((((0 * 2 + p) * 2 + q) * 2 + r) * 2 + s) * 2 + t) * 2 + u) * 2 + v) * 2 + w) ∷ run count w v u t s r q p a b c d e f g

-- the bytes from byte n of the group on, without those of the sync bytes
abbrev pub unsynced : ℕ → List ℕ → List ℕ
unsynced n [] = []
unsynced n (b ∷ bs) = pick (eqb (n % 188) 0) 0 b ∷ unsynced (n + 1) bs

abbrev pub same : List ℕ → List ℕ → Bool
same [] [] = true
same [] (y ∷ ys) = false
same (x ∷ xs) [] = false
same (x ∷ xs) (y ∷ ys) = pick (eqb x y) (same xs ys) false

-- the masks of the place
abbrev pub masks_at : ℕ → List ℕ
masks_at place = take 188 (drop (188 * place) (0xFF ∷ unsynced 1 (run 1503 1 0 0 1 0 1 0 1 0 0 0 0 0 0 0)))

abbrev pub are_masks : ℕ → List ℕ → Bool
are_masks place table = same table (masks_at place)

-- the masks of a place, by the sequence itself
pub record Table (place : ℕ) (table : List ℕ) : Type 0 where
  pub is : table ≡ take 188 (drop (188 * place) masks)

-- the first n bytes of a packet are there as they are sent, with a table of the place
abbrev pub Begun : ℕ → List ℕ → List ℕ → ℕ → List ℕ → Type 0
Begun place packet table n written = (length packet ≡ 188) × Table place table × (take n written ≡ take n (randomized place packet))
