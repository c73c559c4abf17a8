-- `puncturing::puncture` meets its contract.
-- Assumes nothing.
use mathlib.Core.Path.{◌≡◌, ap, sym, ◌∙◌}
use Prim.Native.Nat.{ℕ, ◌*◌}
use Rattle.puncturing.specs.Step.{held_count, held_after}
use Rattle.puncturing.proofs.Steps.{held_is}
use Rattle.puncturing.proofs.puncture.Goals as goal

pub returns : goal.returns
returns c =
    let a = c.args in
    let g = c.requires in
    let next = c.next_place-next.ensures in
    let kept : a.y * c.held_count.result ≡ held_after a.rate a.place a.x a.y a.held = ap (λ (n : ℕ). a.y * n) (c.held_count.ensures ∙ ap (held_count a.rate) next) ∙ sym (held_is a.rate a.place a.x a.y a.held g.0 g.1) in
    let symbol = c.completed.ensures ∙ sym (c.completed_at-completion.ensures a.x a.y a.held) in
    λ i. record { place = next i; held = kept i; symbol = symbol i }
