-- Lists of numbers, and lists of them: the packets or the blocks of a stream.
-- Assumes nothing.
use Rattle.std.specs.Prelude.{◌≡◌, List, [], ◌∷◌, ◌++◌, ℕ, zero, suc, ◌+◌, ◌-◌, ◌/◌, ◌%◌, ◌<◌, max, length, get_or, take, drop, replicate}

-- what holds of each member of a list
abbrev pub All : {A : Type 0} → (A → Type 0) → List A → Type 0
All P [] = Unit {0}
All P (x ∷ xs) = P x × All P xs

-- each number is a byte
abbrev pub Bytes : List ℕ → Type 0
Bytes l = All (λ b. b < 256) l

-- the list has n members
abbrev pub Length : ℕ → List ℕ → Type 0
Length n xs = length xs ≡ n

-- what holds of each number of a list by its place, and of 0, which is read past the end
abbrev pub Entries : (ℕ → Type 0) → List ℕ → Type 0
Entries P xs = (i : ℕ) → P (get_or xs i 0)

-- each number is a byte, by its place
abbrev pub ByteEntries : List ℕ → Type 0
ByteEntries xs = Entries (λ x. x < 256) xs

-- the list f 0, f 1, .. f (n - 1)
unfoldable pub list_of : {A : Type 0} → ℕ → (ℕ → A) → List A
list_of zero f = []
list_of (suc n) f = list_of n f ++ f n ∷ []

-- an output with a list at a place of it, and all else as it was
abbrev pub placed : List ℕ → ℕ → List ℕ → List ℕ
placed output at s = take at output ++ s ++ drop (at + length s) output

-- bytes at the front of an array of so many, into which they fit, and zeros after them
abbrev pub padded : ℕ → List ℕ → List ℕ
padded size bytes = bytes ++ replicate (size - length bytes) 0

-- the largest of a list, and 0 of none
unfoldable pub largest : List ℕ → ℕ
largest [] = 0
largest (x ∷ l) = max x (largest l)

-- the sum over the members of a list of a number of each
abbrev pub total : {A : Type 0} → (A → ℕ) → List A → ℕ
total f [] = 0
total f (x ∷ xs) = f x + total f xs

-- ---- a list cut into chunks of one length

-- the first n of them
unfoldable pub chunks : ℕ → ℕ → List ℕ → List (List ℕ)
chunks size zero l = []
chunks size (suc n) l = take size l ∷ chunks size n (drop size l)

-- all that are whole, and what is after the last of them
unfoldable pub chunks_of : ℕ → List ℕ → List (List ℕ)
unfolding chunks
chunks_of size l = chunks size (length l / size) l

unfoldable pub rest_of : ℕ → List ℕ → List ℕ
rest_of size l = drop (length l - length l % size) l
