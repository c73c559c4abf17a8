-- What decisions mean: the rate of a block that was found, and what is left where none follows.
-- Assumes nothing.
use mathlib.Core.Path.{◌≡◌, refl, sym, ap, subst}
use mathlib.Core.Bool.{Bool, true, false, not}
use mathlib.Core.List.{List}
use Prim.Native.Nat.{ℕ, ◌≤◌, ◌<◌}
use Prim.{tt}
use native.Mathlib.Omega.{arith}
use lib.Dec.{T, ltb, ltb→lt, nltb→le}
use Rattle.std.specs.Prelude.{Option, Some, None, is_some, option_map}
use Rattle.common.specs.Choice.{pick}
use Rattle.reader_stream.specs.declared.symbol_runs.SymbolRuns.{SymbolRuns}
use Rattle.block_sync.specs.declared.GivenBlock.{GivenBlock}
use Rattle.acquisition.specs.Reading.{event_of, RateKnown, SettlesBits}
use Rattle.acquisition.specs.End.{last_event}
use Rattle.acquisition.specs.declared.Reading.{Reading}
use Rattle.acquisition.specs.declared.ReadStep.{ReadStep}
use Rattle.acquisition.specs.declared.FoundBlock.{FoundBlock}
use Rattle.acquisition.specs.declared.Event.{Event}
use Rattle.acquisition.specs.declared.Event.TheVariants.{Waits, Block, Lost}

-- ---- the rate

pub event_known : (f : GivenBlock → FoundBlock) (o : Option GivenBlock) (skipped : ℕ) → ((g : GivenBlock) → (f g).rate < 5) → RateKnown (event_of (option_map f o) skipped)
event_known f (Some g) skipped k = k g
event_known f None skipped k = by (ltb 0 skipped)
  where
    by : (t : Bool) → RateKnown (pick t Lost Waits)
    by true = tt
    by false = tt

pub last_known : (f : GivenBlock → FoundBlock) (o : Option GivenBlock) (held : ℕ) → ((g : GivenBlock) → (f g).rate < 5) → RateKnown (last_event (option_map f o) held)
last_known f (Some g) held k = k g
last_known f None held k = by (ltb held 1632)
  where
    by : (t : Bool) → RateKnown (pick t Waits Lost)
    by true = tt
    by false = tt

pub settled_known : {k : Reading} {runs : SymbolRuns} {taken : ℕ} {bits : List ℕ} {t : ReadStep} → k.runs.rate < 5 → SettlesBits k runs taken bits t → RateKnown t.event
settled_known h s = subst RateKnown (sym s.event_is) (event_known _ s.decided.block s.decided.skipped (λ g. h))

-- ---- the end of the bits

abbrev number : Event → ℕ
number Waits = 0
number (Block b) = 1
number Lost = 2

-- a block was given
pub block_given_lem : (f : GivenBlock → FoundBlock) (o : Option GivenBlock) (h : ℕ) {b : FoundBlock} → last_event (option_map f o) h ≡ Block b → is_some o ≡ true
block_given_lem f (Some g) h e = refl
block_given_lem f None h {b} e = other (ltb h 1632) e
  where
    other : (t : Bool) → pick t Waits Lost ≡ Block b → false ≡ true
    other true q = let n : number Waits ≡ number (Block b) = ap number q in absurd (omega (arith, n))
    other false q = let n : number Lost ≡ number (Block b) = ap number q in absurd (omega (arith, n))

-- few bits are left where it is over
pub few_left : (o : Option FoundBlock) (h : ℕ) → last_event o h ≡ Waits → h < 1632
few_left (Some b) h e = let n : number (Block b) ≡ number Waits = ap number e in absurd (omega (arith, n))
few_left None h e = other (ltb h 1632) refl e
  where
    other : (t : Bool) → ltb h 1632 ≡ t → pick t Waits Lost ≡ Waits → h < 1632
    other true p q = ltb→lt h 1632 (subst T (sym p) tt)
    other false p q = let n : number Lost ≡ number Waits = ap number q in absurd (omega (arith, n))

-- more are left where it is lost
pub lost_many : (o : Option FoundBlock) (h : ℕ) → last_event o h ≡ Lost → 1632 ≤ h
lost_many (Some b) h e = let n : number (Block b) ≡ number Lost = ap number e in absurd (omega (arith, n))
lost_many None h e = other (ltb h 1632) refl e
  where
    other : (t : Bool) → ltb h 1632 ≡ t → pick t Waits Lost ≡ Lost → 1632 ≤ h
    other true p q = let n : number Waits ≡ number Lost = ap number q in absurd (omega (arith, n))
    other false p q = nltb→le h 1632 (subst (λ (b : Bool). T (not b)) (sym p) tt)
