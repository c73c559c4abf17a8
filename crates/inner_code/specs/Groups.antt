-- A block in a mode with uncoded bits, as the code goes through it: of each group of bytes the first is coded, and the others are cut into digits, one
-- beside each coded bit.
-- Clauses: EN 301 210, 4.6.3; document 02, P10.
-- Assumes nothing.
use Rattle.std.specs.Prelude.{◌≡◌, List, [], ◌∷◌, ◌++◌, ℕ, zero, suc, ◌+◌, ◌*◌, ◌/◌, ◌%◌, ◌≤◌, ◌<◌, ltb, length, get_or, Some}
use Rattle.common.specs.Choice.{pick}
use Rattle.common.specs.Lists.{list_of}
use Rattle.code_tables.specs.declared.Grouping.{Grouping}
use Rattle.convolutional_code.specs.Bits.{bits_of}
use Rattle.puncturing.specs.Mode.{Mode}
use Rattle.puncturing.specs.Step.{punctured_by}
use Rattle.inner_code.specs.Converter.{encoded_group, uncoded_group}

-- the first byte of each of n groups of so many bytes
abbrev pub firsts : ℕ → ℕ → List ℕ → List ℕ
firsts size n bytes = list_of n (λ i. get_or bytes (size * i) 0)

-- the lists f 0, f 1, .. f (n - 1), one after another
unfoldable pub joined : ℕ → (ℕ → List ℕ) → List ℕ
joined zero f = []
joined (suc n) f = joined n f ++ f n

-- the last n digits of a number in a base, the one that counts most first
unfoldable pub digit_list : ℕ → ℕ → ℕ → List ℕ
digit_list base zero b = []
digit_list base (suc n) b = digit_list base n (b / base) ++ b % base ∷ []

-- those of each of some bytes
abbrev pub byte_digits : ℕ → ℕ → List ℕ → List ℕ
byte_digits base per bytes = joined (length bytes) (λ j. digit_list base per (get_or bytes j 0))

-- those of the bytes behind the first of each of n groups
abbrev pub group_digits : ℕ → ℕ → ℕ → ℕ → List ℕ → List ℕ
group_digits others base per n bytes = joined n (λ i. joined others (λ j. digit_list base per (get_or bytes ((others + 1) * i + suc j) 0)))

-- X or Y of a bit, by where the coded bit of a pattern stands
abbrev pub coded_as : ℕ → ℕ → ℕ → ℕ
coded_as bit x y = pick (ltb bit 1632) x y

-- the numbers of n symbols, where X of bit k is at k of a list and Y at n + k
abbrev pub numbered : ℕ → ℕ → List ℕ → List ℕ → ℕ → List ℕ
numbered c2 c1 uncoded coded n =
    list_of n (λ k. 4 * get_or uncoded k 0 + (2 * coded_as c2 (get_or coded k 0) (get_or coded (n + k) 0) + coded_as c1 (get_or coded k 0) (get_or coded (n + k) 0)))

-- a block has at most so many groups
abbrev pub most_groups : ℕ
most_groups = 68

-- The numbers of a grouping fit: per digits a byte are eight a group, a digit fits into a byte beside two coded bits, and the groups make up a block.
pub record Fitting (g : Grouping) (per groups : ℕ) : Type 0 where
  pub others_some : 0 < g.others
  pub others_few : g.others ≤ 8
  pub base_some : 0 < g.base
  pub base_few : g.base ≤ 64
  pub eight : per * g.others ≡ 8
  pub block : (g.others + 1) * groups ≡ 204
  pub few : groups ≤ most_groups

-- A mode that a grouping describes: how many bytes a group has, that a coded bit is a pattern, what is coded of a group, what stands beside it, and the
-- symbol of a coded bit.
pub record Grouped (m : Mode) (g : Grouping) : Type 0 where
  pub fits : Fitting g (8 / g.others) (204 / (g.others + 1))
  pub size : m.group ≡ g.others + 1
  pub single : m.bits ≡ 1
  pub encoded : (bytes : List ℕ) → encoded_group m bytes ≡ bits_of (get_or bytes 0 0 ∷ [])
  pub uncoded : (bytes : List ℕ) → uncoded_group m bytes ≡ joined g.others (λ j. digit_list g.base (8 / g.others) (get_or bytes (suc j) 0))
  pub symbol : (x y held : ℕ) → punctured_by m 0 x y held ≡ Some (2 * coded_as g.c2 x y + coded_as g.c1 x y)

-- the coded bits of a symbol's number, as rate 1/2 numbers them: X is C1, which counts 1 in it, and Y is C2, which counts 2
abbrev pub coded_bits : ℕ → ℕ
coded_bits v = 2 * (v % 2) + v / 2 % 2
