-- A decision: its parts as the code makes them, that it uses bits that are there and at least one of a full buffer, and that there is one only.
-- Assumes nothing.
use Rattle.std.specs.Prelude.{Some, None, is_some}
use mathlib.Core.Path.{◌≡◌, refl, sym, ◌∙◌, ap}
use mathlib.Core.Bool.{Bool, true, false}
use mathlib.Core.List.{List}
use Prim.Native.Nat.{ℕ, ◌+◌, ◌≤◌, ◌<◌}
use native.Mathlib.Omega.{arith}
use lib.Dec.{ltb}
use lib.ListN.{length}
use borrow.Author.Tests.{ltb-false}
use Rattle.common.specs.Choice.{pick}
use Rattle.common.proofs.Choice.{false_true}
use Rattle.sync_search.specs.Sync.{FirstSync, first, nowhere}
use Rattle.block_sync.specs.Decision.{in_a_step, polarity_at, keeps, locked_as, Decides, follows, begins, searches, used_bits}
use Rattle.block_sync.specs.declared.Lock.{Lock}
use Rattle.block_sync.specs.declared.Decision.{Decision}

pub first_enough : {l : List ℕ} {from at : ℕ} → FirstSync l from (Some at) → at + 6536 ≤ length l
first_enough (first at a e s p) = e

pub does_begin : (k : Lock) (l : List ℕ) (kept inverted : Bool) (at : ℕ) → kept ≡ keeps k l → kept ≡ false → FirstSync l 0 (Some at) → inverted ≡ polarity_at l at false
    → Decides k l (record { skipped = at; begins = Some true; lock = record { locked = true; inverted = inverted } })
does_begin k l kept inverted at e t f p =
    begins at (sym e ∙ t) f (ap (λ (x : Bool). record { skipped = at; begins = Some true; lock = locked_as x }) p)

-- ---- the bits that it uses

whole : (a b c : Bool) → pick a (pick b false c) false ≡ true → b ≡ false
whole true true c e = false_true e
whole true false c e = refl
whole false b c e = false_true e

keeps_whole : (k : Lock) (l : List ℕ) → keeps k l ≡ true → 1632 ≤ length l
unfolding keeps
keeps_whole k l e = ltb-false (length l) 1632 (whole k.locked (ltb (length l) 1632) (in_a_step l) e)

pub used_within : {k : Lock} {l : List ℕ} {d : Decision} → Decides k l d → used_bits d ≤ length l
used_within {k} {l} {d} (follows e r) = let u = ap used_bits r in omega (arith, keeps_whole k l e)
used_within {k} {l} {d} (begins at e f r) = let u = ap used_bits r in omega (arith, first_enough f)
used_within {k} {l} {d} (searches e f r) = let u = ap used_bits r in omega arith

pub skipped_within : {k : Lock} {l : List ℕ} {d : Decision} → Decides k l d → d.skipped ≤ length l
skipped_within {d = d} h = let u = used_within h in omega (arith, le (is_some d.begins))
  where
    le : (b : Bool) → 0 ≤ pick b 1632 0
    le b = omega arith

-- of a full buffer at least one
pub used_some : {k : Lock} {l : List ℕ} {d : Decision} → Decides k l d → 6536 ≤ length l → 0 < used_bits d
used_some (follows e r) h = let u = ap used_bits r in omega arith
used_some (begins at e f r) h = let u = ap used_bits r in omega arith
used_some (searches e f r) h = let u = ap used_bits r in omega arith

-- ---- there is one only

first_order : {l : List ℕ} {from a b : ℕ} → FirstSync l from (Some a) → FirstSync l from (Some b) → a < b → ⊥
first_order (first a ha ea sa pa) (first b hb eb sb pb) h = false_true (sym (pb a ha h) ∙ sa)

first_unique : {l : List ℕ} {from a b : ℕ} → FirstSync l from (Some a) → FirstSync l from (Some b) → a ≡ b
first_unique {a = a} {b} f g = let x : (a < b → ⊥) = first_order f g in let y : (b < a → ⊥) = first_order g f in omega (arith, x, y)

first_not : {l : List ℕ} {from a : ℕ} → FirstSync l from (Some a) → FirstSync l from None → ⊥
first_not (first a ha ea sa pa) (nowhere n) = false_true (sym (n a ha ea) ∙ sa)

pub decides_unique : {k : Lock} {l : List ℕ} {d e : Decision} → Decides k l d → Decides k l e → d ≡ e
decides_unique (follows a r) (follows b s) = r ∙ sym s
decides_unique (follows a r) (begins at b f s) = false_true (sym b ∙ a)
decides_unique (follows a r) (searches b f s) = false_true (sym b ∙ a)
decides_unique (begins at a f r) (follows b s) = false_true (sym a ∙ b)
decides_unique {l = l} (begins at a f r) (begins at' b g s) =
    r ∙ ap (λ (x : ℕ). record { skipped = x; begins = Some true; lock = locked_as (polarity_at l x false) }) (first_unique f g) ∙ sym s
decides_unique (begins at a f r) (searches b g s) = absurd (first_not f g)
decides_unique (searches a f r) (follows b s) = false_true (sym a ∙ b)
decides_unique (searches a f r) (begins at b g s) = absurd (first_not g f)
decides_unique (searches a f r) (searches b g s) = r ∙ sym s
