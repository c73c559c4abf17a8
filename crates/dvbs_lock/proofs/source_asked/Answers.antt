-- `dvbs_lock::source_asked` meets its contract.
-- Assumes nothing.
use mathlib.Core.Path.{◌≡◌, refl, sym, ap, ◌∙◌}
use mathlib.Core.Bool.{Bool, true, false}
use Prim.Native.Nat.{ℕ}
use borrow.Author.Tests.{eq-eqb, ne_eqb}
use Rattle.common.specs.Choice.{pick}
use Rattle.program_io.specs.Words.{word_bytes, same_bytes}
use Rattle.rate_words.specs.Words.{mode_named}
use Rattle.dvbs_lock.specs.Ends.{any_word, bits_word, rate_of}
use Rattle.dvbs_lock.proofs.source_asked.Goals as goal

picked : {s t : Bool} (u : Bool) (k : ℕ) → s ≡ true → t ≡ true → pick s (pick t 5 (pick u 6 k)) 7 ≡ 5
picked u k e f = simp (e, f) refl

picked-second : {s t u : Bool} (k : ℕ) → s ≡ true → t ≡ false → u ≡ true → pick s (pick t 5 (pick u 6 k)) 7 ≡ 6
picked-second k e f g = simp (e, f, g) refl

pub returns-then-count-ne1 : goal.returns-then-count-ne1
returns-then-count-ne1 c =
    let n = c.count.ensures in
    let w = word_bytes c.args.word in
    ap (λ (t : Bool). pick t (pick (same_bytes w any_word) 5 (pick (same_bytes w bits_word) 6 (rate_of (mode_named w)))) 7) (ne_eqb _ 1 (λ e. c.if-count-ne1.true (n ∙ e)))

pub returns-then-is : goal.returns-then-is
returns-then-is c =
    let n = c.count.ensures in
    let w = word_bytes c.args.word in
    picked (same_bytes w bits_word) (rate_of (mode_named w)) (eq-eqb _ 1 (sym n ∙ c.if-count-ne1.false)) (sym c.is.ensures ∙ c.if-is.true)

pub returns-then-is-2 : goal.returns-then-is-2
returns-then-is-2 c =
    let n = c.count.ensures in
    let w = word_bytes c.args.word in
    picked-second (rate_of (mode_named w)) (eq-eqb _ 1 (sym n ∙ c.if-count-ne1.false)) (sym c.is.ensures ∙ c.if-is.false) (sym c.is-2.ensures ∙ c.if-is-2.true)
