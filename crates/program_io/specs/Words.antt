-- The words of a command line: their bytes, and the number in decimal digits that one may be.
-- Assumes nothing.
use Rattle.std.specs.Prelude.{ℕ, ◌+◌, ◌-◌, ◌*◌, Bool, true, false, List, [], ◌∷◌, take, ◌==◌, nat_lt, slice_index}
use Rattle.common.specs.Choice.{pick}
use Rattle.program_io.specs.declared.words.Arguments.{Arguments}
use Rattle.program_io.specs.declared.words.Word.{Word}
use Rattle.program_io.specs.declared.words.Parsed.{Parsed}
use Rattle.program_io.specs.declared.words.Parsed.TheVariants.{Number, Large, Malformed}

-- how many arguments there are; which argument a word is, and its bytes; none where it is longer than 32
abbrev pub argument_count : Arguments → ℕ
argument_count a = a.count

abbrev pub word_argument : Word → ℕ
word_argument w = w.argument

abbrev pub front_part : List ℕ → ℕ → List ℕ
front_part bytes length = pick (nat_lt 32 length) [] (take length bytes)

abbrev pub word_bytes : Word → List ℕ
word_bytes w = front_part w.bytes w.length

-- it begins with a dash
abbrev pub word_is_option : Word → Bool
word_is_option w = slice_index w.bytes 0 == 45

abbrev pub same_bytes : List ℕ → List ℕ → Bool
same_bytes [] [] = true
same_bytes [] (y ∷ ys) = false
same_bytes (x ∷ xs) [] = false
same_bytes (x ∷ xs) (y ∷ ys) = pick (x == y) (same_bytes xs ys) false

-- each character is a digit
abbrev pub digits : List ℕ → Bool
digits [] = true
digits (c ∷ cs) = pick (nat_lt c 48) false (pick (nat_lt 57 c) false (digits cs))

-- the number that digits stand for, after those of another
abbrev pub value_from : ℕ → List ℕ → ℕ
value_from n [] = n
value_from n (c ∷ cs) = value_from (10 * n + (c - 48)) cs

-- a word of digits, at least one, is a number; a limit tells the large ones apart
abbrev pub sized : ℕ → ℕ → Parsed
sized n most = pick (nat_lt most n) Large (Number n)

abbrev pub parsed : List ℕ → ℕ → Parsed
parsed [] most = Malformed
parsed (c ∷ cs) most = pick (digits (c ∷ cs)) (sized (value_from 0 (c ∷ cs)) most) Malformed
