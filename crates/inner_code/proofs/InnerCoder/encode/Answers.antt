-- `inner_code::InnerCoder::encode` meets its contract.
-- Assumes nothing.
use mathlib.Core.Path.{◌≡◌, refl, sym, ◌∙◌, subst}
use mathlib.Core.Bool.{true}
use mathlib.Core.List.{List}
use Prim.Native.Nat.{ℕ}
use borrow.Author.Tests.{eq-eqb, ne_eqb, lt-ltb, le-ltb}
use lib.ListN.{length}
use Rattle.puncturing.specs.Mode.{mode_of}
use Rattle.inner_code.specs.Step.{coder_in_range}
use Rattle.inner_code.specs.Encode.{block_symbols, Encodable, Encodes}
use Rattle.inner_code.proofs.Coder.{range_by_mode, in_range_lem, length_block}
use Rattle.inner_code.proofs.InnerCoder.encode.Goals as goal

pub returns-then-not-in_range : goal.returns-then-not-in_range
returns-then-not-in_range c = simp (sym c.in_range.ensures ∙ c.if-not-in_range.true) (refl, refl, refl, refl)

pub returns-then-not-is_sent : goal.returns-then-not-is_sent
returns-then-not-is_sent c =
    let good : coder_in_range c.args.self ≡ true = sym c.in_range.ensures ∙ c.if-not-in_range.false in
    simp (good, sym c.is_sent.ensures ∙ c.if-not-is_sent.true) (refl, refl, refl, refl)

pub returns-in_default : goal.returns-in_default
returns-in_default c =
    let good : coder_in_range c.args.self ≡ true = sym c.in_range.ensures ∙ c.if-not-in_range.false in
    let sent : (mode_of c.args.self.rate).sent ≡ true = sym c.is_sent.ensures ∙ c.if-not-is_sent.false in
    simp (good, sent, ne_eqb _ _ c.in_default.ensures.1) (refl, refl, refl, refl)

pub returns-then-output-symbol_count : goal.returns-then-output-symbol_count
returns-then-output-symbol_count c =
    let good : coder_in_range c.args.self ≡ true = sym c.in_range.ensures ∙ c.if-not-in_range.false in
    let sent : (mode_of c.args.self.rate).sent ≡ true = sym c.is_sent.ensures ∙ c.if-not-is_sent.false in
    let count : let a = c.args in
    length (block_symbols a.self a.block.now) ≡ c.symbol_count.result = let a = c.args in
    let g = good in
    length_block a.self a.block.now (in_range_lem a.self g) c.in-Ok.ensures.1.long ∙ sym (c.symbol_count.ensures ∙ simp (sym (range_by_mode a.self) ∙ g)) in
    simp
    (good, sent, eq-eqb _ _ c.in-Ok.ensures.1.long, lt-ltb _ _ (rw (← count) at c.if-output-symbol_count.true))
    (refl, refl, refl, refl)

pub encode_block-requires : goal.encode_block-requires
encode_block-requires c =
    let good : coder_in_range c.args.self ≡ true = sym c.in_range.ensures ∙ c.if-not-in_range.false in
    let count : let a = c.args in
    length (block_symbols a.self a.block.now) ≡ c.symbol_count.result = let a = c.args in
    let g = good in
    length_block a.self a.block.now (in_range_lem a.self g) c.in-Ok.ensures.1.long ∙ sym (c.symbol_count.ensures ∙ simp (sym (range_by_mode a.self) ∙ g)) in
    subst (λ (l : List ℕ). Encodable c.args.self l c.args.output.now) (sym c.in-Ok.ensures.1.same)
    (record {
      range = in_range_lem c.args.self (good);
      size = c.in-Ok.ensures.1.long;
      enough = rw (count) c.if-output-symbol_count.false;
    })

pub returns : goal.returns
returns c =
    let good : coder_in_range c.args.self ≡ true = sym c.in_range.ensures ∙ c.if-not-in_range.false in
    let sent : (mode_of c.args.self.rate).sent ≡ true = sym c.is_sent.ensures ∙ c.if-not-is_sent.false in
    let count : let a = c.args in
    length (block_symbols a.self a.block.now) ≡ c.symbol_count.result = let a = c.args in
    let g = good in
    length_block a.self a.block.now (in_range_lem a.self g) c.in-Ok.ensures.1.long ∙ sym (c.symbol_count.ensures ∙ simp (sym (range_by_mode a.self) ∙ g)) in
    let r = subst (λ (l : List ℕ). Encodes c.args.self l c.args.output.now c.encode_block.result c.encode_block.new.output) c.in-Ok.ensures.1.same c.encode_block.ensures in
    simp
    (good, sent, eq-eqb _ _ c.in-Ok.ensures.1.long, le-ltb _ _ (rw (← count) at c.if-output-symbol_count.false))
    (refl, r.coder, r.count, r.written)
