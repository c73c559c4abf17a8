-- Harm in some symbols of a stream, and how far it spoils the bits that are read: recovery.
-- Assumes nothing.
use Rattle.std.specs.Prelude.{◌≡◌, Bool, true, false, List, [], ◌∷◌, ◌++◌, map, ◌⊎◌, ℕ, suc, ◌+◌, ◌*◌, ◌/◌, ◌%◌, ◌≤◌, ◌<◌, eqb, length, get_or}
use Rattle.common.specs.Choice.{pick}
use Rattle.convolutional_code.specs.Bits.{Bits}
use Rattle.puncturing.specs.Mode.{qpsk_count}
use Rattle.puncturing.specs.Step.{pattern_length}
use Rattle.inner_code.specs.Step.{symbols_of}
use Rattle.inner_code.specs.Encode.{coder_at}
use Rattle.branch_metrics.specs.Cost.{symbol_costs, ReceivedSymbol}
use Rattle.reader.specs.Read.{symbols_per_pattern, run_bits}
use Rattle.noise_tolerance.specs.Noise.{SparseSymbols, soft_doubt}

-- ---- which symbols are harmed

-- A symbol that came, and whether it counts as harmed. Nothing is assumed of one that is struck.
pub data SymbolCame (R : Type 0) : Type 0 where
  fine : R → SymbolCame R
  struck : R → SymbolCame R

abbrev pub is_struck : {R : Type 0} → SymbolCame R → Bool
is_struck (fine r) = false
is_struck (struck r) = true

abbrev pub cost_of : {R : Type 0} → (R → ℕ → ℕ) → SymbolCame R → ℕ → ℕ
cost_of cost (fine r) = cost r
cost_of cost (struck r) = cost r

-- what is not struck is doubted as ever
abbrev pub doubt_of : {R : Type 0} → (R → ℕ → ℕ) → SymbolCame R → ℕ → ℕ
doubt_of doubt (fine r) = doubt r
doubt_of doubt (struck r) = λ sent. 0

-- a symbol that is lost, as in an outage, or of which both numbers are NaN: no decision on it costs anything; the others are doubted as ever
unfoldable pub was_lost : ReceivedSymbol → Bool
was_lost r = eqb ((symbol_costs r).i.zero + (symbol_costs r).i.one + ((symbol_costs r).q.zero + (symbol_costs r).q.one)) 0

abbrev pub doubt_unlost : ReceivedSymbol → ℕ → ℕ
doubt_unlost r sent = pick (was_lost r) 0 (soft_doubt r sent)

-- symbol i is harmed
abbrev pub HarmedAt : {R : Type 0} → (R → Bool) → List R → ℕ → Type 0
HarmedAt harmed points i = get_or (map harmed points) i false ≡ true

-- of harmed symbols any two that are at most `distance` apart are less than `longest` apart
abbrev pub Gathered : {R : Type 0} → (R → Bool) → ℕ → ℕ → List R → Type 0
Gathered harmed distance longest points =
    (i j : ℕ) → i ≤ j → j ≤ i + distance → HarmedAt harmed points i → HarmedAt harmed points j → j < i + longest

-- ---- how far it spoils

-- the limits of one kind of harm at a rate
pub record Spoils : Type 0 where
  -- with at most so much doubt of what is not harmed in any 900 symbols in a row, and harm within so many,
  pub elsewhere : ℕ
  pub longest : ℕ
  -- no bit is wrong earlier than so many before the bits of the harmed symbols, and none later than so many behind them
  pub ahead : ℕ
  pub behind : ℕ

abbrev pub spoils : ℕ → ℕ → ℕ → ℕ → Spoils
spoils e l a b = record { elsewhere = e; longest = l; ahead = a; behind = b }

-- a rate: symbols struck, by hard and by soft decisions, and symbols lost, by soft ones
pub record HarmRow : Type 0 where
  pub hard_struck : Spoils
  pub soft_struck : Spoils
  pub soft_lost : Spoils

abbrev pub harms : Spoils → Spoils → Spoils → HarmRow
harms h s l = record { hard_struck = h; soft_struck = s; soft_lost = l }

-- rates 1/2, 2/3, 3/4, 5/6 and 7/8
unfoldable pub harm_table : List HarmRow
harm_table =
    harms (spoils 4 31 232 498) (spoils 63 30 229 492) (spoils 63 625 34 102)
    ∷ harms (spoils 2 12 218 482) (spoils 35 12 225 496) (spoils 35 424 49 144)
    ∷ harms (spoils 2 7 216 496) (spoils 28 7 216 496) (spoils 28 339 62 188)
    ∷ harms (spoils 1 3 209 515) (spoils 21 2 186 469) (spoils 21 223 96 289)
    ∷ harms (spoils 1 1 159 432) (spoils 14 1 159 432) (spoils 14 185 105 324)
    ∷ []

unfoldable pub harm_at : ℕ → HarmRow
unfolding harm_table
harm_at rate = get_or harm_table rate (harms (spoils 0 0 0 0) (spoils 0 0 0 0) (spoils 0 0 0 0))

-- the symbols of a window elsewhere, and how far apart harmed symbols must be to count one by one: the symbols that 13 blocks take
abbrev pub harm_window : ℕ
harm_window = 900

abbrev pub harm_distance : ℕ → ℕ
harm_distance rate = symbols_per_pattern rate * (21216 / pattern_length rate)

-- Bit x is beside harm: there is a harmed symbol whose pattern begins at most `ahead` bits later, and one whose pattern ends at most `behind` bits earlier.
pub record BesideHarm {R : Type 0} (harmed : R → Bool) (rate ahead behind : ℕ) (points : List R) (x : ℕ) : Type 0 where
  pub earliest : ℕ
  pub latest : ℕ
  pub earliest_harmed : HarmedAt harmed points earliest
  pub latest_harmed : HarmedAt harmed points latest
  pub not_late : pattern_length rate * (earliest / symbols_per_pattern rate) ≤ x + ahead
  pub not_early : x < pattern_length rate * suc (latest / symbols_per_pattern rate) + behind

-- Bit x of a stream is near harm: it is beside harm, and none of the two symbols is further than two of the reader's runs.
pub record NearHarm {R : Type 0} (harmed : R → Bool) (rate : ℕ) (l : Spoils) (points : List R) (x : ℕ) : Type 0 where
  pub beside : BesideHarm harmed rate l.ahead l.behind points x
  pub not_far : x ≤ pattern_length rate * (beside.earliest / symbols_per_pattern rate) + 3264
  pub not_beyond : pattern_length rate * (beside.latest / symbols_per_pattern rate) ≤ x + 1632

-- ---- what came of what was sent

-- a run: bits that were coded from a memory on, in whole patterns, and as many symbols that came, of which those harmed lie close together
pub record HarmedRun {R : Type 0} (doubt : R → ℕ → ℕ) (harmed : R → Bool) (l : Spoils) (rate m : ℕ) (bits : List ℕ) (points : List R) : Type 0 where
  pub known : rate < qpsk_count
  pub in_range_lem : m < 64
  pub binary : Bits bits
  pub whole : length bits % pattern_length rate ≡ 0
  pub as_long : length points ≡ length (symbols_of (coder_at rate m) bits)
  pub sparse : SparseSymbols harm_window l.elsewhere (map doubt points) (symbols_of (coder_at rate m) bits)
  pub gathered : Gathered harmed (length points) l.longest points

-- Of what is read of it every wrong bit is beside harm, at most `ahead` bits on either side, or one of the last.
pub record RunRecovered {R : Type 0} (harmed : R → Bool) (l : Spoils) (rate unsure : ℕ) (bits : List ℕ) (points : List R) (out : List ℕ) : Type 0 where
  pub wrong : (i : ℕ) → i < length bits → (get_or bits i 0 ≡ get_or out i 0 → ⊥)
      → (BesideHarm harmed rate l.ahead l.ahead points i) ⊎ (length bits ≤ i + unsure)

-- a stream: the symbols of a fresh coder, of which so many came, any number left unread at the end; what is not harmed is sparsely doubted
pub record HarmedStream {R : Type 0} (doubt : R → ℕ → ℕ) (harmed : R → Bool) (l : Spoils) (rate : ℕ) (bits : List ℕ) (points : List R) (came unread : List ℕ) : Type 0 where
  pub binary : Bits bits
  pub coded : came ++ unread ≡ symbols_of (coder_at rate 0) bits
  pub as_long : length points ≡ length came
  pub sparse : SparseSymbols harm_window l.elsewhere (map doubt points) came
  pub gathered : Gathered harmed (harm_distance rate) l.longest points

-- What is read of it: as many bits as the whole patterns that came have. Every wrong bit is near harm, or one of the last.
pub record Recovered {R : Type 0} (harmed : R → Bool) (l : Spoils) (rate unsure : ℕ) (bits : List ℕ) (points : List R) (out : List ℕ) (rest : ℕ) : Type 0 where
  pub size : length out ≡ run_bits rate (length points)
  pub within : length out ≤ length bits
  pub behind : rest ≡ length points % symbols_per_pattern rate
  pub wrong : (i : ℕ) → i < length out → (get_or bits i 0 ≡ get_or out i 0 → ⊥) → (NearHarm harmed rate l points i) ⊎ (length out ≤ i + unsure)
