-- What reading finds at a place of a text.
-- Assumes nothing.
use Rattle.std.specs.Prelude.{◌≡◌, Option, None, Some, Bool, true, false, List, ◌∷◌, ◌++◌, ℕ, ◌+◌, ◌≤◌, ◌<◌, length, drop}
use Rattle.report_lines.specs.Line.{decimal, line_text}

-- what was found, by f, or what stands where nothing was
abbrev pub found_or : {A B : Type 0} → B → (A → B) → Option A → B
found_or none f None = none
found_or none f (Some a) = f a

-- a character that is a digit, and the digit d; 10 for any other
pub record DigitIs (c d : ℕ) : Type 0 where
  pub digit : d < 10 → c ≡ 48 + d
  pub other : 10 ≤ d → 48 ≤ c → c < 58 → ⊥
  pub most : d ≤ 10

-- whether a word stands at a place of a text
pub record WordIs (word text : List ℕ) (at : ℕ) (found : Bool) : Type 0 where
  pub is : found ≡ true → (at + length word ≤ length text) × (drop at text ≡ word ++ drop (at + length word) text)
  pub none : found ≡ false → (rest : List ℕ) → drop at text ≡ word ++ rest → ⊥

-- a number up to a limit, in decimal, and a line feed, at a place of a text; end is the place after them
pub record NumberRead (text : List ℕ) (at limit : ℕ) (found : Bool) (value end : ℕ) : Type 0 where
  pub small : found ≡ true → value ≤ limit
  pub within : found ≡ true → end ≤ length text
  pub is : found ≡ true → drop at text ≡ decimal value ++ 0x0A ∷ drop end text
  pub none : found ≡ false → (v : ℕ) (rest : List ℕ) → v ≤ limit → drop at text ≡ decimal v ++ 0x0A ∷ rest → ⊥

-- a line with this key and a number up to a limit
pub record LineIs (key text : List ℕ) (at limit : ℕ) (found : Bool) (value end : ℕ) : Type 0 where
  pub small : found ≡ true → value ≤ limit
  pub within : found ≡ true → end ≤ length text
  pub is : found ≡ true → drop at text ≡ line_text key value ++ drop end text
  pub none : found ≡ false → (v : ℕ) (rest : List ℕ) → v ≤ limit → drop at text ≡ line_text key v ++ rest → ⊥
