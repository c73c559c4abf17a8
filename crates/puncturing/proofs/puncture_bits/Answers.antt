-- `puncturing::puncture_bits` meets its contract: proofs/Run.antt has what holds as the loop goes.
-- Assumes nothing.
use mathlib.Core.Path.{ap, sym, ◌∙◌}
use Prim.Native.Nat.{◌+◌, ◌<◌}
use native.Mathlib.Omega.{arith}
use lib.ListN.{length}
use Rattle.convolutional_code.proofs.Bits.{bits_at}
use Rattle.puncturing.specs.declared.Punctured.{Punctured}
use Rattle.puncturing.proofs.Places.{up}
use Rattle.puncturing.proofs.Steps.{held_le}
use Rattle.puncturing.proofs.Run.{going_none, going_one, going_fits, going_end}
use Rattle.puncturing.proofs.puncture_bits.Goals as goal
use Rattle.puncturing.proofs.puncture_bits.Goals.{in-Some, in_default}

pub puncture-punctured-requires : goal.puncture-punctured-requires
puncture-punctured-requires c =
    let l = c.loop-n in
    let g = l.invariant in (
      up c.args.rate g.rate,
      g.place,
      omega (arith, g.held, held_le c.args.rate l.place (up c.args.rate g.rate) g.place),
      bits_at c.requires.3 l.n,
      bits_at c.requires.3 (1632 + l.n),
    )

pub bounds-output-count : goal.bounds-output-count
bounds-output-count c =
    let symbol_fits : let l = c.loop-n in
    l.count < length l.output = going_fits c.loop-n.invariant c.requires.3 (omega arith) (sym c.in-Some.is ∙ ap (λ (x : Punctured). x.symbol) c.puncture-punctured.ensures) in
    symbol_fits

pub loop-n-preserved : goal.loop-n-preserved
loop-n-preserved c =
    let g = c.loop-n.invariant in
    let bits = c.requires.3 in
    let e = c.puncture-punctured.ensures in
    let place = ap (λ (x : Punctured). x.place) e in
    let held = ap (λ (x : Punctured). x.held) e in
    let symbol = ap (λ (x : Punctured). x.symbol) e in
    elim c.match-punctured.branch [
      | in-Some w ↦ rw (w.output-is, w.count-is) (going_one g bits (omega arith) place held (sym w.in-Some.is ∙ symbol))
      | in_default w ↦ rw (w.output-is, w.count-is) (going_none g bits (omega arith) place held (sym w.in_default.is ∙ symbol))
    ]

pub returns : goal.returns
returns c = going_end c.loop-n.invariant (omega arith)
