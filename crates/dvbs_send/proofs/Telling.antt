-- Writes after writes; and the lines told of packets after packets, and how many of these were replaced.
-- Assumes nothing.
use mathlib.Core.Path.{◌≡◌, refl, sym, ap, subst, ◌∙◌}
use mathlib.Core.Bool.{Bool, false}
use mathlib.Core.List.{List, [], ◌∷◌, ◌++◌, append_assoc, append-nil}
use Prim.Native.Nat.{ℕ, suc, ◌+◌, ◌≤◌, ◌<◌}
use native.Mathlib.Numerals.{add-one}
use native.Mathlib.Omega.{arith}
use borrow.Author.Tests.{eq-eqb, ne_eqb}
use lib.ListN.{length, get_or, take}
use lib.Seq.{take-suc, take_all, length-take-le}
use Rattle.common.specs.Choice.{pick, unequal}
use Rattle.common.specs.Lists.{largest}
use Rattle.common.proofs.Choice.{unequal_le}
use Rattle.program_io.specs.Checksum.{no_bytes, traced}
use Rattle.program_io.specs.Files.{output_trace, output_failed, Writes}
use Rattle.program_io.specs.declared.trace.Trace.{Trace}
use Rattle.program_io.specs.declared.output.Output.{Output}
use Rattle.program_io.proofs.Traces.{traced_more, traced_on}
use Rattle.dvbs_send.specs.Lines.{replaced_line, answer_line, answer_lines, replaced_count}

writes_none : (o : Output) → Writes o [] o
writes_none o = record { file = refl; whole = λ u. refl; unclosed = λ u. refl; started = λ u. u; failed = λ e. refl }

writes_more : {o m r : Output} (a b : List ℕ) → Writes o a m → Writes m b r → Writes o (a ++ b) r
writes_more {o} a b v w = record {
  file = w.file ∙ v.file;
  whole = λ u. w.whole u ∙ ap (λ (t : Trace). traced t b) (v.whole (w.started u)) ∙ sym (traced_more (output_trace o) a b);
  unclosed = λ u. w.unclosed u ∙ v.unclosed (w.started u);
  started = λ u. v.started (w.started u);
  failed = λ e. let k = v.failed e in w.failed (ap output_failed k ∙ e) ∙ k;
}

-- what an output has taken since it was fresh
pub written_on : {o r : Output} (a b : List ℕ) → output_trace o ≡ traced no_bytes a → Writes o b r → output_failed r ≡ false → output_trace r ≡ traced no_bytes (a ++ b)
written_on a b e w u = traced_on a b e (w.whole u)

-- ---- packets after packets

pub lines_append : (first : ℕ) (xs ys : List ℕ) → answer_lines first (xs ++ ys) ≡ answer_lines first xs ++ answer_lines (first + length xs) ys
lines_append first [] ys = ap (λ (k : ℕ). answer_lines k ys) (omega arith)
lines_append first (x ∷ xs) ys =
    ap (λ (l : List ℕ). answer_line first x ++ l)
    (lines_append (suc first) xs ys ∙ ap (λ (k : ℕ). answer_lines (suc first) xs ++ answer_lines k ys) (omega arith))
    ∙ sym (append_assoc (answer_line first x) (answer_lines (suc first) xs) (answer_lines (first + suc (length xs)) ys))

pub count_append : (xs ys : List ℕ) → replaced_count (xs ++ ys) ≡ replaced_count xs + replaced_count ys
count_append [] ys = omega arith
count_append (x ∷ xs) ys = let h = count_append xs ys in omega (arith, h)

pub count_most : (xs : List ℕ) → replaced_count xs ≤ length xs
count_most [] = omega arith
count_most (x ∷ xs) = let h = count_most xs in let k = unequal_le x 0 in omega (arith, h, k)

-- one packet, which was not replaced, or was
module _ (packet number n : ℕ) {o : Output} where
  pub told_none : number ≡ 0 → (Writes o (answer_line packet number) o) × (n ≡ n + unequal number 0)
  told_none e =
      let t = sym (eq-eqb number 0 e) in (
        subst (λ (b : Bool). Writes o (pick b [] (replaced_line packet number)) o) t (writes_none o),
        subst (λ (b : Bool). n ≡ n + pick b 0 1) t (omega arith),
      )

  pub told_one : (number ≡ 0 → ⊥) → {r : Output} → Writes o (replaced_line packet number) r → (Writes o (answer_line packet number) r) × (n + 1 ≡ n + unequal number 0)
  told_one e {r} w =
      let t = sym (ne_eqb number 0 e) in (
        subst (λ (b : Bool). Writes o (pick b [] (replaced_line packet number)) r) t w,
        subst (λ (b : Bool). n + 1 ≡ n + pick b 0 1) t refl,
      )

-- no packet was replaced
pub none_replaced : (first : ℕ) (numbers : List ℕ) (errors : Output) → largest numbers ≡ 0
    → (Writes errors (answer_lines first numbers) errors) × (0 ≡ replaced_count numbers)
unfolding largest
none_replaced first numbers errors z = let e = nothing first numbers z in (subst (λ (l : List ℕ). Writes errors l errors) (sym e.0) (writes_none errors), sym e.1)
  where
    nothing : (k : ℕ) (l : List ℕ) → largest l ≡ 0 → (answer_lines k l ≡ []) × (replaced_count l ≡ 0)
    nothing k [] h = (refl, refl)
    nothing k (x ∷ xs) h =
        let e : x ≡ 0 = omega (arith, h) in
        let r = nothing (suc k) xs (omega (arith, h)) in (
          ap (λ (b : Bool). pick b [] (replaced_line k x) ++ answer_lines (suc k) xs) (eq-eqb x 0 e) ∙ r.0,
          ap (λ (b : Bool). pick b 0 1 + replaced_count xs) (eq-eqb x 0 e) ∙ omega (arith, r.1),
        )

-- what was told of the packets up to a place
pub record Telling (first : ℕ) (numbers : List ℕ) (before errors : Output) (replaced i : ℕ) : Type 0 where
  pub within : i ≤ length numbers
  pub lines : Writes before (answer_lines first (take i numbers)) errors
  pub counted : replaced ≡ replaced_count (take i numbers)

pub telling_none : (first : ℕ) (numbers : List ℕ) (errors : Output) → Telling first numbers errors errors 0 0
telling_none first numbers errors = record { within = omega arith; lines = writes_none errors; counted = refl }

module _ {first : ℕ} {numbers : List ℕ} {before errors : Output} {replaced i : ℕ} (t : Telling first numbers before errors replaced i) where
  pub telling_few : replaced ≤ i
  telling_few = omega (arith, t.counted, count_most (take i numbers), length-take-le i numbers t.within)

  module _ (h : i < length numbers) where
    abbrev number : ℕ
    number = get_or numbers i 0

    members : take (i + 1) numbers ≡ take i numbers ++ number ∷ []
    members = ap (λ (n : ℕ). take n numbers) (add-one i) ∙ take-suc numbers i 0 h

    line : answer_lines first (take (i + 1) numbers) ≡ answer_lines first (take i numbers) ++ answer_line (first + i) number
    line =
        ap (answer_lines first) members
        ∙ lines_append first (take i numbers) (number ∷ [])
        ∙ ap (λ (n : ℕ). answer_lines first (take i numbers) ++ answer_lines (first + n) (number ∷ [])) (length-take-le i numbers (omega arith))
        ∙ ap (λ (l : List ℕ). answer_lines first (take i numbers) ++ l) (append-nil (answer_line (first + i) number))

    counted_on : replaced_count (take (i + 1) numbers) ≡ replaced_count (take i numbers) + unequal number 0
    counted_on = ap replaced_count members ∙ count_append (take i numbers) (number ∷ []) ∙ ap (λ (n : ℕ). replaced_count (take i numbers) + n) (omega arith)

    pub telling_more : {next : Output} {count : ℕ} → Writes errors (answer_line (first + i) number) next → count ≡ replaced + unequal number 0
        → Telling first numbers before next count (i + 1)
    telling_more {next} w k = record {
      within = omega arith;
      lines =
          subst (λ (l : List ℕ). Writes before l next) (sym line) (writes_more (answer_lines first (take i numbers)) (answer_line (first + i) number) t.lines w);
      counted = k ∙ ap (λ (n : ℕ). n + unequal number 0) t.counted ∙ sym counted_on;
    }

  pub telling_all : length numbers ≤ i → (Writes before (answer_lines first numbers) errors) × (replaced ≡ replaced_count numbers)
  telling_all h = let e = take_all i numbers h in (subst (λ (l : List ℕ). Writes before (answer_lines first l) errors) e t.lines, t.counted ∙ ap replaced_count e)
