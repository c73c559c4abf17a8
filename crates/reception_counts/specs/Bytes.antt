-- Numbers as bytes, the lowest first, and the counts of a receiver so.
-- Clauses: document 01, "Receiver"; document 02, P3 and P14.
-- Assumes nothing.
use mathlib.Core.List.{List, [], ◌∷◌, map, flatten}
use Rattle.std.specs.Prelude.{ℕ, zero, suc, ◌+◌, ◌*◌, ◌/◌, ◌%◌, take, drop}
use Rattle.reception_counts.specs.declared.Counts.{Counts}

-- a number in so many bytes
unfoldable pub to_bytes : ℕ → ℕ → List ℕ
to_bytes zero n = []
to_bytes (suc size) n = n % 256 ∷ to_bytes size (n / 256)

-- the number that bytes are
unfoldable pub from_bytes : List ℕ → ℕ
from_bytes [] = 0
from_bytes (b ∷ bs) = b + 256 * from_bytes bs

-- the counts in the order of document 01, and the bits of document 02
abbrev pub numbers_of : Counts → List ℕ
numbers_of c = c.taken ∷ c.filling ∷ c.delivered ∷ c.lost ∷ c.waiting ∷ c.outofstep ∷ c.changed ∷ c.bits ∷ []

-- each of them in eight bytes
unfoldable pub count_bytes : Counts → List ℕ
count_bytes c = flatten (map (to_bytes 8) (numbers_of c))

-- the counts that are read, from a place on
abbrev pub counts_at : List ℕ → ℕ → Counts
counts_at bytes at = record {
  taken = from_bytes (take 8 (drop at bytes));
  filling = from_bytes (take 8 (drop (at + 8) bytes));
  delivered = from_bytes (take 8 (drop (at + 16) bytes));
  lost = from_bytes (take 8 (drop (at + 24) bytes));
  waiting = from_bytes (take 8 (drop (at + 32) bytes));
  outofstep = from_bytes (take 8 (drop (at + 40) bytes));
  changed = from_bytes (take 8 (drop (at + 48) bytes));
  bits = from_bytes (take 8 (drop (at + 56) bytes));
}
