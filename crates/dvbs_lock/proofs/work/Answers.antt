-- `dvbs_lock::work` meets its contract.
-- Assumes nothing.
use mathlib.Core.Path.{◌≡◌, sym, subst, ◌∙◌}
use mathlib.Core.Bool.{false}
use mir.Syntax.{w32}
use mir.Val.{to_z, of_z}
use Prim.Native.Nat.{ℕ, ◌<◌}
use native.Mathlib.Omega.{arith}
use Rattle.std.specs.Prelude.{Some}
use Rattle.program_io.specs.Words.{argument_count, word_bytes}
use Rattle.program_io.proofs.Answering.{wrong_answered}
use Rattle.dvbs_lock.specs.Ends.{source_asked, Asks, answered, of_symbols, of_bits, Ends}
use Rattle.dvbs_lock.specs.declared.Source.{Source}
use borrow.Author.Rules.{rules}
use Rattle.dvbs_lock.proofs.work.Goals as goal

pub returns-in-Some-Rate : goal.returns-in-Some-Rate
returns-in-Some-Rate c =
    let z = c.run.result in
    let e : to_z w32 (of_z w32 z) ≡ z = search rules in
    let k : (c.in-Some-Rate.rate < 5) × (c.in-Some-Rate.rate ≡ source_asked (argument_count c.args.arguments) (word_bytes c.args.word)) = subst (λ (s : Source). Asks (Some s) (source_asked (argument_count c.args.arguments) (word_bytes c.args.word))) c.in-Some-Rate.field-0-is c.in-Some-Rate.ensures in
    let r = c.run.ensures in
    of_symbols c.args.arguments c.args.word r.ended c.requires.0 c.requires.1 (omega (arith, k.0, k.1)) (subst (λ (n : ℕ). Ends false n r.ended) k.1 r.ends) (e ∙ r.status_is)

pub returns-in-Some-AnyRate : goal.returns-in-Some-AnyRate
returns-in-Some-AnyRate c =
    let z = c.run-in-Some-AnyRate.result in
    let e : to_z w32 (of_z w32 z) ≡ z = search rules in
    let k : source_asked (argument_count c.args.arguments) (word_bytes c.args.word) ≡ 5 = subst (λ (s : Source). Asks (Some s) (source_asked (argument_count c.args.arguments) (word_bytes c.args.word))) c.in-Some-AnyRate.field-0-is c.in-Some-AnyRate.ensures in
    let r = c.run-in-Some-AnyRate.ensures in
    of_symbols c.args.arguments c.args.word r.ended c.requires.0 c.requires.1 (omega (arith, k)) (subst (λ (n : ℕ). Ends false n r.ended) (sym k) r.ends) (e ∙ r.status_is)

pub returns-in-Some-Bits : goal.returns-in-Some-Bits
returns-in-Some-Bits c =
    let z = c.run-in-Some-Bits.result in
    let e : to_z w32 (of_z w32 z) ≡ z = search rules in
    let k : source_asked (argument_count c.args.arguments) (word_bytes c.args.word) ≡ 6 = subst (λ (s : Source). Asks (Some s) (source_asked (argument_count c.args.arguments) (word_bytes c.args.word))) c.in-Some-Bits.field-0-is c.in-Some-Bits.ensures in
    let r = c.run-in-Some-Bits.ensures in
    of_bits c.args.arguments c.args.word r.ended c.requires.0 c.requires.1 k r.ends (e ∙ r.status_is)

pub returns-in-None : goal.returns-in-None
returns-in-None c =
    let z = c.wrong-answered.result.status in
    let e : to_z w32 (of_z w32 z) ≡ z = search rules in
    answered (wrong_answered c.args.arguments c.args.word c.wrong-answered.result c.requires.0 c.requires.1 (omega (arith, c.in-None.ensures)) c.wrong-answered.ensures e)
