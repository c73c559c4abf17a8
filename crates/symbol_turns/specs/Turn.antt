-- Turns of the four points of QPSK: the carrier of a demodulator may stand off by quarters of a turn, and where the spectrum is inverted the points
-- come mirrored. The same of the decisions on I and Q of a received symbol.
-- Clauses: EN 300 421, 4.4.3, note 1, and annex (source document 002): the inner decoder resolves the ambiguity of a quarter.
-- Assumes nothing.
use Rattle.std.specs.Prelude.{Bool, List, [], ◌∷◌, ℕ, zero, suc, ◌+◌, ◌-◌, ◌*◌, ◌/◌, ◌%◌, eqb, ltb}
use Rattle.common.specs.Choice.{pick}
use Rattle.convolutional_code.specs.Costs.{pair_cost}

-- ---- I and Q as one number, I times the base and Q, where each has an inverse

-- turned by a quarter: I is the inverse of what was Q, and Q what was I
abbrev pub quarter : ℕ → (ℕ → ℕ) → ℕ → ℕ
quarter base inverse n = base * inverse (n % base) + n / base

-- mirrored: Q is inverted
abbrev pub mirrored : ℕ → (ℕ → ℕ) → ℕ → ℕ
mirrored base inverse n = base * (n / base) + inverse (n % base)

abbrev pub quarters : ℕ → (ℕ → ℕ) → ℕ → ℕ → ℕ
quarters base inverse zero n = n
quarters base inverse (suc k) n = quarter base inverse (quarters base inverse k n)

-- turn t of eight: from 4 on the symbol is mirrored first; then come t modulo 4 quarters
abbrev pub turned_in : ℕ → (ℕ → ℕ) → ℕ → ℕ → ℕ
turned_in base inverse t n = quarters base inverse (t % 4) (pick (ltb t 4) n (mirrored base inverse n))

-- the turn that undoes it
unfoldable pub undoing : ℕ → ℕ
undoing t = pick (ltb t 4) ((4 - t) % 4) t

-- ---- symbols that are sent, and decisions on received ones

-- a symbol 2 I + Q
unfoldable pub turned : ℕ → ℕ → ℕ
turned = turned_in 2 (λ b. 1 - b)

-- a decision is a level from 0 to 7, which is as sure of a 1 as its inverse is of a 0; or 8, where nothing is known
abbrev pub inverse_level : ℕ → ℕ
inverse_level l = pick (ltb l 8) (7 - l) l

-- a pair of decisions 9 i + q
unfoldable pub turned_pair : ℕ → ℕ → ℕ
turned_pair = turned_in 9 inverse_level

-- What an inner decoder can tell of a turn at a rate, as the least turn of those that it cannot tell from it: the half turn is told at no rate, and at
-- rate 5/6, number 3, neither is the mirror.
unfoldable pub turn_class : ℕ → ℕ → ℕ
turn_class rate t = pick (eqb rate 3) (t % 2) (4 * (t / 4) + t % 2)

-- ---- costs

-- what a received symbol makes each sent one cost, where the sent ones were turned on their way
abbrev pub turned_cost : {R : Type 0} → (R → ℕ → ℕ) → ℕ → R → ℕ → ℕ
turned_cost cost t r s = cost r (turned t s)

-- what each sent symbol costs by the pair of decisions on a received one
abbrev pub by_pair : ℕ → ℕ → ℕ
by_pair p sent = pair_cost p (sent / 2) (sent % 2)

-- ---- how the code does it: an exchange of I and Q, and then an inverse of each or not

-- whether a turn inverts what is I then, and what is Q
abbrev pub inverts_i : List ℕ
inverts_i = 0 ∷ 1 ∷ 1 ∷ 0 ∷ 0 ∷ 0 ∷ 1 ∷ 1 ∷ []

abbrev pub inverts_q : List ℕ
inverts_q = 0 ∷ 0 ∷ 1 ∷ 1 ∷ 1 ∷ 0 ∷ 0 ∷ 1 ∷ []

abbrev inverted : Bool → ℕ → ℕ
inverted invert l = pick invert (inverse_level l) l

unfoldable pub exchanged_pair : Bool → Bool → Bool → ℕ → ℕ
exchanged_pair exchange first second p = 9 * inverted first (pick exchange (p % 9) (p / 9)) + inverted second (pick exchange (p / 9) (p % 9))
