-- `reed_solomon::encode` meets its contract.
-- Assumes nothing.
use mathlib.Core.Path.{◌≡◌, refl, ap, ap₂, ◌∙◌}
use mathlib.Core.List.{List, ◌++◌}
use Prim.Native.Nat.{ℕ, ◌+◌}
use native.Mathlib.Nat.{zero-add}
use borrow.Author.Tests.{lt-ltb, le-ltb, eq-eqb, ne_eqb}
use lib.ListN.{length, take, drop}
use Rattle.common.proofs.Lists.{put_after}
use Rattle.reed_solomon.specs.Encode.{check_bytes}
use Rattle.reed_solomon.proofs.LongDivision.{check_remainder}
use Rattle.reed_solomon.proofs.encode.Goals as goal

-- the two parts, one after the other
written : (m output first check : List ℕ) → length m ≡ 188 → check ≡ check_bytes m → first ≡ take 0 output ++ m ++ drop (0 + length m) output
    → take 188 first ++ check ++ drop (188 + length check) first ≡ (m ++ check_bytes m) ++ drop 204 output
written m output first check n e f =
    ap₂ (λ (l k : List ℕ). take 188 l ++ k ++ drop (188 + length k) l) (f ∙ ap (λ (k : ℕ). m ++ drop k output) (zero-add (length m) ∙ n)) e
    ∙ put_after m (check_bytes m) output 188 n ∙ ap (λ (k : ℕ). (m ++ check_bytes m) ++ drop (188 + k) output) (check_remainder m).size

pub returns-then-message-ne188 : goal.returns-then-message-ne188
returns-then-message-ne188 c = simp (ne_eqb _ _ c.if-message-ne188.true) (refl, refl)

pub returns-then-output-lt204 : goal.returns-then-output-lt204
returns-then-output-lt204 c = simp (eq-eqb _ _ c.if-message-ne188.false, lt-ltb _ _ c.if-output-lt204.true) (refl, refl)

pub returns : goal.returns
returns c =
    let m = c.args.message.now in
    let n : length m ≡ 188 = c.if-message-ne188.false in
    simp (eq-eqb _ _ c.if-message-ne188.false, le-ltb _ _ c.if-output-lt204.false)
    (refl, c.put-2.ensures ∙ written m c.args.output.now c.put.new.output c.check_bytes-check.result n c.check_bytes-check.ensures c.put.ensures)
