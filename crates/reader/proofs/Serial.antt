-- The coded bits in the order in which they are sent, as a step of the trellis makes them, are the I and Q bits of the coder's symbols.
-- Assumes nothing.
use mathlib.Core.Path.{◌≡◌, refl, sym, ◌∙◌, ap, ap₂}
use mathlib.Core.List.{List, [], ◌∷◌, ◌++◌, flatten, append_assoc, append-nil}
use Prim.Native.Nat.{ℕ, zero, suc, ◌+◌, ◌*◌, ◌/◌, ◌%◌, ◌<◌}
use native.Mathlib.Omega.{arith}
use lib.Dec.{eqb}
use Rattle.common.specs.Choice.{pick}
use Rattle.convolutional_code.specs.Bits.{Bits, none, more}
use Rattle.convolutional_code.specs.Code.{taps_x, taps_y, next_memory, coded}
use Rattle.convolutional_code.proofs.Bits.{bits_append, coded_lt}
use Rattle.puncturing.specs.Mode.{mode_of, qpsk_count}
use Rattle.puncturing.specs.Step.{place_next, held_count, symbol_list, punctured, held_after, punctured_by, held_by, held_count_by}
use Rattle.branch_metrics.specs.Steps.{kind}
use Rattle.puncturing.proofs.Places.{end, ◌&◌, Everywhere, everywhere}
use Rattle.inner_code.specs.Step.{CoderInRange, step_by, symbol_by, symbols_of, coder_after, symbols_by, coder_by}
use Rattle.inner_code.specs.declared.InnerCoder.{InnerCoder}
use Rattle.inner_code.proofs.Coder.{step_in_range}

-- the coded bits of a step that are sent, by its kind
abbrev pub put : ℕ → ℕ → ℕ → List ℕ
put zero x y = []
put (suc zero) x y = y ∷ []
put (suc (suc zero)) x y = x ∷ []
put (suc (suc (suc q))) x y = x ∷ y ∷ []

-- I and Q of symbols
abbrev pub flat : List ℕ → List ℕ
flat [] = []
flat (s ∷ ss) = s / 2 ∷ s % 2 ∷ flat ss

flat_append : (a b : List ℕ) → flat (a ++ b) ≡ flat a ++ flat b
flat_append [] b = refl
flat_append (s ∷ a) b = ap (λ (l : List ℕ). s / 2 ∷ s % 2 ∷ l) (flat_append a b)

-- the held bit, where one is held
unfoldable pub holding : ℕ → ℕ → ℕ → List ℕ
holding rate place held = pick (eqb (held_count rate place) 0) [] (held ∷ [])

pair : (a b : ℕ) → b < 2 → (r : List ℕ) → a ∷ b ∷ r ≡ (2 * a + b) / 2 ∷ (2 * a + b) % 2 ∷ r
pair a b h r =
    let e : a ≡ (2 * a + b) / 2 = omega arith in
    let f : b ≡ (2 * a + b) % 2 = omega arith in
    ap₂ (λ (x y : ℕ). x ∷ y ∷ r) e f

abbrev Serial : ℕ → ℕ → Type 0
Serial r p = (x y h : ℕ) → x < 2 → y < 2 → holding r p h ++ put (kind r p) x y ≡ flat (symbol_list (punctured r p x y h)) ++ holding r (place_next r p) (held_after r p x y h)

serial : Everywhere Serial
unfolding mode_of punctured_by held_by held_count_by holding kind flatten
serial =
    ((λ x y h hx hy. pair h x hx []) & (λ x y h hx hy. refl) & (λ x y h hx hy. pair h x hx []) & (λ x y h hx hy. refl) & (λ x y h hx hy. pair h y hy []) & (λ x y h hx hy. refl) & (λ x y h hx hy. pair x y hy []) & end)
    & ((λ x y h hx hy. pair h x hx []) & (λ x y h hx hy. refl) & (λ x y h hx hy. pair h x hx []) & (λ x y h hx hy. refl) & (λ x y h hx hy. pair x y hy []) & end)
    & ((λ x y h hx hy. pair h x hx []) & (λ x y h hx hy. refl) & (λ x y h hx hy. pair x y hy []) & end)
    & ((λ x y h hx hy. pair h y hy []) & (λ x y h hx hy. pair h x hx (y ∷ [])) & (λ x y h hx hy. refl) & (λ x y h hx hy. pair x y hy []) & end)
    & ((λ x y h hx hy. pair x y hy []) & end)
    & end

-- the coded bits of a list of bits from a place and a memory on
unfoldable pub stream : ℕ → ℕ → ℕ → List ℕ → List ℕ
stream rate place m [] = []
stream rate place m (b ∷ bs) = put (kind rate place) (coded taps_x m b) (coded taps_y m b) ++ stream rate (place_next rate place) (next_memory m b) bs

put_bits : (q : ℕ) {x y : ℕ} → x < 2 → y < 2 → Bits (put q x y)
put_bits zero h l = none
put_bits (suc zero) h l = more l none
put_bits (suc (suc zero)) h l = more h none
put_bits (suc (suc (suc q))) h l = more h (more l none)

-- at a QPSK rate what is held, and the coded bits, are I and Q of the symbols, and what is held then
pub stream_symbols_lem : (c : InnerCoder) {bits : List ℕ} → CoderInRange c → c.rate < qpsk_count → Bits bits
    → holding c.rate c.place c.held ++ stream c.rate c.place c.memory bits
    ≡ flat (symbols_of c bits) ++ holding c.rate (coder_after c bits).place (coder_after c bits).held
unfolding stream symbols_by coder_by
stream_symbols_lem c g q none = append-nil (holding c.rate c.place c.held)
stream_symbols_lem c g q (more {b} {l} h t) =
    let x = coded taps_x c.memory b in
    let y = coded taps_y c.memory b in
    let d = step_by (mode_of c.rate) c b in
    let one : holding c.rate c.place c.held ++ put (kind c.rate c.place) x y ≡ flat (symbol_list (symbol_by (mode_of c.rate) c b)) ++ holding d.rate d.place d.held
    = everywhere Serial serial c.rate c.place q g.place x y c.held (coded_lt taps_x c.memory b) (coded_lt taps_y c.memory b) in
    let rest = stream_symbols_lem d (step_in_range c b g h) q t in
    sym (append_assoc (holding c.rate c.place c.held) (put (kind c.rate c.place) x y) (stream d.rate d.place d.memory l))
    ∙ (ap (λ (s : List ℕ). s ++ stream d.rate d.place d.memory l) one
    ∙ (append_assoc (flat (symbol_list (symbol_by (mode_of c.rate) c b))) (holding d.rate d.place d.held) (stream d.rate d.place d.memory l)
    ∙ (ap (λ (s : List ℕ). flat (symbol_list (symbol_by (mode_of c.rate) c b)) ++ s) rest
    ∙ (sym (append_assoc (flat (symbol_list (symbol_by (mode_of c.rate) c b))) (flat (symbols_of d l)) (holding d.rate (coder_after d l).place (coder_after d l).held))
    ∙ ap (λ (s : List ℕ). s ++ holding d.rate (coder_after d l).place (coder_after d l).held) (sym (flat_append (symbol_list (symbol_by (mode_of c.rate) c b)) (symbols_of d l)))))))

-- the coded bits are bits
pub stream_bits : (rate place m : ℕ) (bits : List ℕ) → Bits (stream rate place m bits)
unfolding stream
stream_bits rate place m [] = none
stream_bits rate place m (b ∷ bs) =
    bits_append (put_bits (kind rate place) (coded_lt taps_x m b) (coded_lt taps_y m b)) (stream_bits rate (place_next rate place) (next_memory m b) bs)
