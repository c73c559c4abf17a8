-- The puncturing of a run of coded bits, where X of bit n is at n of a list and Y at 1632 + n.
-- Assumes nothing.
use Rattle.std.specs.Prelude.{List, [], ◌∷◌, ◌++◌, map, ℕ, zero, suc, ◌+◌, ◌-◌, ◌*◌, length, get_or, Option, None, Some}
use Rattle.puncturing.specs.Mode.{CodedBit, X, Y, mode_of}
use Rattle.puncturing.specs.Step.{place_next, symbol_list, punctured, held_after}
use Rattle.puncturing.specs.declared.tables.Completion.{Completion}
use Rattle.puncturing.specs.declared.tables.Completion.TheVariants.{Nothing, XY, HeldX, HeldY, YX}
use Rattle.puncturing.specs.declared.Punctured.{Punctured}
use Rattle.puncturing.specs.declared.Progress.{Progress}

-- the symbol that a bit completes
abbrev pub by_kind : Completion → ℕ → ℕ → ℕ → Option ℕ
by_kind Nothing x y held = None
by_kind XY x y held = Some (2 * x + y)
by_kind HeldX x y held = Some (2 * held + x)
by_kind HeldY x y held = Some (2 * held + y)
by_kind YX x y held = Some (2 * y + x)

abbrev pub puncture_step : ℕ → ℕ → ℕ → ℕ → ℕ → Punctured
puncture_step rate place held x y = record {
  place = place_next rate place;
  held = held_after rate place x y held;
  symbol = punctured rate place x y held;
}

-- the symbols of k bits from bit n on, where X of bit n is at n of the list and Y at 1632 + n
unfoldable pub punctured_symbols : ℕ → ℕ → ℕ → List ℕ → ℕ → ℕ → List ℕ
punctured_symbols rate place held l n zero = []
punctured_symbols rate place held l n (suc k) =
    symbol_list (punctured rate place (get_or l n 0) (get_or l (1632 + n) 0) held)
    ++ punctured_symbols rate (place_next rate place) (held_after rate place (get_or l n 0) (get_or l (1632 + n) 0) held) l (suc n) k

-- the place in the pattern and the held bit after them
unfoldable pub pattern_place_after : ℕ → ℕ → ℕ → ℕ
pattern_place_after rate place zero = place
pattern_place_after rate place (suc k) = pattern_place_after rate (place_next rate place) k

unfoldable pub held_behind : ℕ → ℕ → ℕ → List ℕ → ℕ → ℕ → ℕ
held_behind rate place held l n zero = held
held_behind rate place held l n (suc k) =
    held_behind rate (place_next rate place) (held_after rate place (get_or l n 0) (get_or l (1632 + n) 0) held) l (suc n) k

-- where the puncturing stands after k bits, and how many symbols are in the output
abbrev pub progress : ℕ → ℕ → ℕ → List ℕ → ℕ → ℕ → ℕ → Progress
progress rate place held l n k at = record {
  place = pattern_place_after rate place k;
  held = held_behind rate place held l n k;
  count = at + length (punctured_symbols rate place held l n k);
}

-- the symbols of one pattern whose first bit is bit n: where the I and the Q of each stand, from n on
unfoldable pub pattern_symbols : List ℕ → List ℕ → List ℕ → ℕ → List ℕ
pattern_symbols [] qs l n = []
pattern_symbols (i ∷ is) [] l n = []
pattern_symbols (i ∷ is) (q ∷ qs) l n = (2 * get_or l (n + i) 0 + get_or l (n + q) 0) ∷ pattern_symbols is qs l n

-- those of t patterns of the given length
unfoldable pub patterns_symbols : List ℕ → List ℕ → List ℕ → ℕ → ℕ → ℕ → List ℕ
patterns_symbols is qs l len n zero = []
patterns_symbols is qs l len n (suc t) = pattern_symbols is qs l n ++ patterns_symbols is qs l len (n + len) t

-- where the coded bit of a pattern stands, from the pattern's first bit on
abbrev pub stands_at : CodedBit → ℕ
stands_at (X j) = j - 1
stands_at (Y j) = 1632 + (j - 1)

-- where the I and the Q of each symbol of a rate's pattern stand
unfoldable pub i_bits : ℕ → List ℕ
i_bits rate = map (λ (s : List CodedBit). get_or (map stands_at s) 0 0) (mode_of rate).symbols

unfoldable pub q_bits : ℕ → List ℕ
q_bits rate = map (λ (s : List CodedBit). get_or (map stands_at s) 1 0) (mode_of rate).symbols
