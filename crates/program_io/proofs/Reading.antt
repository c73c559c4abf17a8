-- What reads into parts of a buffer come to.
-- Assumes nothing.
use Rattle.std.proofs.Common.{◌≡◌, ℕ, ◌+◌, ◌-◌, ◌<◌, ◌≤◌, Bool, true, false, List, length, take, drop, ℤ, pos, negsuc, sym, refl, ap, ◌∙◌, subst, arith, take-add, le-leb}
use native.Mathlib.Decide.{dec_lt}
use borrow.Author.Tests.{lt-leb}
use lib.Signed.{le_z}
use Rattle.io.specs.Counts.{clamp_len}
use Rattle.program_io.specs.Checksum.{traced}
use Rattle.program_io.specs.Files.{input_origin, input_trace, input_last, input_over, ReadsInto, Reads, Fills}
use Rattle.program_io.specs.declared.trace.Trace.{Trace}
use Rattle.program_io.specs.declared.input.Input.{Input}
use Rattle.program_io.specs.declared.input.Filled.{Filled}
use Rattle.program_io.proofs.Traces.{traced_more}

-- an answer that moved nothing, and one that moved something
none_moved : (z : ℤ) (most : ℕ) → 0 < most → clamp_len z most ≡ 0 → le_z z (pos 0) ≡ true
none_moved (pos k) most h e = le-leb k 0 (omega (arith, e))
none_moved (negsuc k) most h e = refl

some_moved : (z : ℤ) (most : ℕ) → 0 < clamp_len z most → le_z z (pos 0) ≡ false
some_moved (pos k) most h = lt-leb k 0 (omega (arith, h))
some_moved (negsuc k) most h = absurd (omega (arith, h))

pub moved_within : (z : ℤ) (most : ℕ) → clamp_len z most ≤ most
moved_within (pos k) most = omega arith
moved_within (negsuc k) most = omega arith

module _ {i : Input} {from end : ℕ} {before buffer : List ℕ} {r : Filled} (h : ReadsInto i from end before buffer r) where
  pub into_none : from < end → r.length ≡ 0 → input_over r.input ≡ true
  into_none l z = by (input_over i) refl
    where
      by : (b : Bool) → input_over i ≡ b → input_over r.input ≡ true
      by true e = ap (λ (x : ℤ). le_z x (pos 0)) (h.over e).1 ∙ e
      by false e = none_moved (input_last r.input) (end - from) (omega arith) (sym (h.answer e l).1 ∙ z)

  pub into_some : from ≤ end → 0 < r.length → input_over r.input ≡ false
  into_some l s = by (input_over i) refl (dec_lt from end)
    where
      by : (b : Bool) → input_over i ≡ b → Dec (from < end) → input_over r.input ≡ false
      by true e d = absurd (omega (arith, s, (h.over e).0))
      by false e (yes d) = some_moved (input_last r.input) (end - from) (subst (λ (n : ℕ). 0 < n) (h.answer e d).1 s)
      by false e (no d) = absurd (omega (arith, s, d, (h.none (omega (arith, d, l))).0))

pub read_once_more : {i : Input} {most : ℕ} {before buffer : List ℕ} {r : Filled} → ReadsInto i 0 most before buffer r → Reads i most buffer r
read_once_more h = record {
  origin = h.origin;
  trace = h.trace;
  within = omega (arith, h.within);
  over = h.over;
  none = λ z s. into_none h s z;
  some = λ s. into_some h (omega (arith, h.within)) s;
}

-- some bytes came, and stand at the front of the buffer
pub record Filling (i : Input) (buffer : List ℕ) (input : Input) (done : ℕ) : Type 0 where
  pub within : done ≤ length buffer
  pub origin : input_origin input ≡ input_origin i
  pub trace : input_trace input ≡ traced (input_trace i) (take done buffer)
  pub first : done ≡ 0 → input_last input ≡ input_last i
  pub later : 0 < done → input_over input ≡ false
  pub over : input_over i ≡ true → done ≡ 0

pub filling_none : (i : Input) (buffer : List ℕ) → Filling i buffer i 0
filling_none i buffer = record {
  within = omega arith;
  origin = refl;
  trace = refl;
  first = λ e. refl;
  later = λ h. absurd (omega (arith, h));
  over = λ e. refl;
}

module _ {i input : Input} {buffer exit : List ℕ} {done : ℕ} {r : Filled} (g : Filling i buffer input done) (same : length exit ≡ length buffer)
    (h : ReadsInto input done (length buffer) buffer exit r) where
  trace_on : input_trace r.input ≡ traced (input_trace i) (take (done + r.length) exit)
  trace_on =
      h.trace
      ∙ ap (λ (t : Trace). traced t (take r.length (drop done exit))) (g.trace ∙ ap (traced (input_trace i)) (sym h.front))
      ∙ sym (traced_more (input_trace i) (take done exit) (take r.length (drop done exit)))
      ∙ ap (traced (input_trace i)) (sym (take-add done r.length exit))

  pub filling_more : 0 < r.length → Filling i exit r.input (done + r.length)
  filling_more s = record {
    within = omega (arith, h.within, same);
    origin = h.origin ∙ g.origin;
    trace = trace_on;
    first = λ e. absurd (omega (arith, e, s));
    later = λ l. into_some h g.within s;
    over = λ e. absurd (over_first e);
  }
    where
      over_first : input_over i ≡ true → ⊥
      over_first e =
          let z = g.over e in
          omega (arith, s, (h.over (ap (λ (x : ℤ). le_z x (pos 0)) (g.first z) ∙ e)).0)

  pub filling_over : done < length buffer → r.length ≡ 0 → Fills i exit (record { input = r.input; length = done })
  filling_over l z = record {
    origin = h.origin ∙ g.origin;
    trace = trace_on ∙ ap (λ (n : ℕ). traced (input_trace i) (take n exit)) (ap (λ (n : ℕ). done + n) z ∙ none done);
    within = omega (arith, same);
    over = λ e. (g.over e, (h.over (ap (λ (x : ℤ). le_z x (pos 0)) (g.first (g.over e)) ∙ e)).1 ∙ g.first (g.over e));
    short = λ k. into_none h l z;
    full = λ e k. absurd (omega (arith, k, l, same));
  }
    where
      none : (n : ℕ) → n + 0 ≡ n
      none n = omega arith

pub filling_full : {i input : Input} {buffer : List ℕ} {done : ℕ} → Filling i buffer input done → length buffer ≤ done → Fills i buffer (record { input = input; length = done })
filling_full {i} {input} {buffer} {done} g l = record {
  origin = g.origin;
  trace = g.trace;
  within = g.within;
  over = λ e. (g.over e, g.first (g.over e));
  short = λ k. absurd (omega (arith, k, l));
  full = λ e k. by e (dec_lt 0 done);
}
  where
    by : input_over i ≡ false → Dec (0 < done) → input_over input ≡ false
    by e (yes s) = g.later s
    by e (no s) = ap (λ (x : ℤ). le_z x (pos 0)) (g.first (omega (arith, s))) ∙ e
