-- A report at the front of a text: its bits, and all its lines.
-- Assumes nothing.
use mathlib.Core.Path.{◌≡◌, refl, sym, ap, ap₂, ◌∙◌}
use mathlib.Core.Bool.{Bool, true, false}
use mathlib.Core.List.{List, [], ◌∷◌, ◌++◌, append_assoc}
use Prim.Native.Nat.{ℕ, ◌+◌, ◌≤◌}
use native.Mathlib.Omega.{arith}
use borrow.Author.Tests.{leb-true, le-leb}
use lib.ListN.{length, get_or, drop, length-append}
use Rattle.common.proofs.Choice.{false_true, both_true}
use Rattle.report_lines.specs.Line.{decimal, line_text}
use Rattle.report_lines.specs.Reading.{WordIs, LineIs}
use Rattle.report_lines.proofs.Digits.{line_unique, line_joined, append_unique, no_number_first}
use Rattle.report.specs.declared.Bits.{Bits}
use Rattle.report.specs.declared.Bits.TheVariants.{Absent, Dash, Number}
use Rattle.report.specs.declared.Report.{Report}
use Rattle.report.specs.Text.{row, lines_text, numbers_within, fields, bits_text, bits_within, form_of, report_text, fits}
use Rattle.report.specs.Steps.{RowsRead, BitsIs, Front}
use Rattle.report.proofs.LineRuns.{limited, row_short, lines_short, lines_unique}

-- ---- the bits

-- `bits=-` and a line feed
pub dash_is : bits_text Dash ≡ 0x62 ∷ 0x69 ∷ 0x74 ∷ 0x73 ∷ 0x3D ∷ 0x2D ∷ 0x0A ∷ []
unfolding row
dash_is = refl

-- a dash is no number
dash_number : (n : ℕ) (x y : List ℕ) → bits_text Dash ++ x ≡ bits_text (Number n) ++ y → ⊥
dash_number n x y q =
    no_number_first (0x2D ∷ 0x0A ∷ x) (0x0A ∷ x) 0x2D n y (λ d. omega (arith, d.0)) refl
    (append_unique (row 8).key (0x2D ∷ 0x0A ∷ x) (decimal n ++ 0x0A ∷ y)
    (sym (append_assoc (row 8).key (0x2D ∷ 0x0A ∷ []) x) ∙ q ∙ line_joined (row 8).key n y ∙ append_assoc (row 8).key (decimal n) (0x0A ∷ y)))

one_two : {A : Type 0} → ◌≡◌ {A = ℕ} 1 2 → A
one_two e = absurd (omega arith)

-- the same text: the same bits
bits_unique : (b c : Bits) (x y : List ℕ) → form_of b ≡ form_of c → bits_within b ≡ true → bits_within c ≡ true → bits_text b ++ x ≡ bits_text c ++ y
    → (b ≡ c) × (x ≡ y)
bits_unique Absent Absent x y f h k q = (refl, q)
bits_unique Absent Dash x y f h k q = one_two f
bits_unique Absent (Number n) x y f h k q = one_two f
bits_unique Dash Absent x y f h k q = one_two (sym f)
bits_unique Dash Dash x y f h k q = (refl, append_unique (bits_text Dash) x y q)
bits_unique Dash (Number n) x y f h k q = absurd (dash_number n x y q)
bits_unique (Number m) Absent x y f h k q = one_two (sym f)
bits_unique (Number m) Dash x y f h k q = absurd (dash_number m y x (sym q))
bits_unique (Number m) (Number n) x y f h k q =
    let u = line_unique (row 8).key m n x y (limited 8 m (omega arith) (leb-true _ _ h)) (limited 8 n (omega arith) (leb-true _ _ k)) q in
    (ap (λ (i : ℕ). Number i) u.0, u.1)

module _ (text : List ℕ) (at : ℕ) where
  -- where no line is found, it does not matter what stands beside that
  pub bits_none : {form d e : ℕ} {b c : Bits} → BitsIs text at form false b d → BitsIs text at form false c e
  bits_none i = record { fitting = λ d. false_true d; small = λ d. false_true d; place = λ d. false_true d; is = λ d. false_true d; none = i.none }

  pub bits_dash : WordIs (bits_text Dash) text at true → BitsIs text at 2 true Dash (at + 7)
  unfolding row
  bits_dash w =
      let r = w.is refl in
      record { fitting = λ d. refl; small = λ d. refl; place = λ d. r.0; is = λ d. r.1; none = λ d. false_true (sym d) }

  pub bits_line : (found : Bool) (v end : ℕ) → WordIs (bits_text Dash) text at false → LineIs (row 8).key text at (row 8).limit found v end
      → BitsIs text at 2 found (Number v) end
  bits_line found v end w l = record {
    fitting = λ d. refl;
    small = λ d. le-leb _ _ (l.small d);
    place = l.within;
    is = l.is;
    none = λ d b rest. go d b rest;
  }
    where
      go : found ≡ false → (b : Bits) (rest : List ℕ) → form_of b ≡ 2 → bits_within b ≡ true → drop at text ≡ bits_text b ++ rest → ⊥
      go d Absent rest g k q = one_two g
      go d Dash rest g k q = w.none refl rest q
      go d (Number n) rest g k q = l.none d n rest (leb-true _ _ k) q

-- ---- all lines

pub record Fitting (r : Report) : Type 0 where
  pub counts : numbers_within 8 (fields r) ≡ true
  pub bits : bits_within r.bits ≡ true
  pub rest : r.rest ≤ (row 9).limit

pub fitting : (r : Report) → fits r ≡ true → Fitting r
unfolding fits
fitting r e =
    let a = both_true _ _ e in
    let b = both_true _ _ a.1 in
    record { counts = a.0; bits = b.0; rest = leb-true _ _ b.1 }

pub fitted : (r : Report) → Fitting r → fits r ≡ true
unfolding fits
fitted r f = simp (f.counts, f.bits, le-leb _ _ f.rest)

bits_short : (b : Bits) → length (bits_text b) ≤ 31
unfolding row
bits_short Absent = omega arith
bits_short Dash = omega arith
bits_short (Number n) = row_short 8 n (omega arith)

-- a report has at most 310 bytes
pub report_short : (r : Report) → length (report_text r) ≤ 310
unfolding report_text
report_short r =
    let a = length-append (lines_text 8 (fields r) ++ bits_text r.bits) (line_text (row 9).key r.rest) in
    let b = length-append (lines_text 8 (fields r)) (bits_text r.bits) in
    let c = lines_short 8 (omega arith) (fields r) in
    let d = bits_short r.bits in
    let e = row_short 9 r.rest (omega arith) in
    omega arith

text_joined : (r : Report) (x : List ℕ) → report_text r ++ x ≡ lines_text 8 (fields r) ++ (bits_text r.bits ++ (line_text (row 9).key r.rest ++ x))
unfolding report_text
text_joined r x = simp append_assoc

module _ (text : List ℕ) (at : ℕ) where
  no_front : (r : Report) (end : ℕ) → ((s : Report) (x : List ℕ) → fits s ≡ true → drop at text ≡ report_text s ++ x → ⊥) → Front text at false r end
  no_front r end f = record { small = λ d. false_true d; place = λ d. false_true d; is = λ d. false_true d; none = λ d. f }

  -- the first lines are not there
  pub front_rows : (vs : List ℕ) (e : ℕ) (r : Report) (end : ℕ) → RowsRead text at false vs e → Front text at false r end
  front_rows vs e r end w = no_front r end (λ s x f q. w.none refl (fields s) _ (fitting s f).counts (q ∙ text_joined s x))

  module _ (vs : List ℕ) (e : ℕ) (w : RowsRead text at true vs e) where
    -- what follows the first lines of a report that stands there
    after_rows : (s : Report) (x : List ℕ) → fits s ≡ true → drop at text ≡ report_text s ++ x
        → (form_of s.bits ≡ get_or vs 0 0) × (drop e text ≡ bits_text s.bits ++ (line_text (row 9).key s.rest ++ x))
    after_rows s x f q =
        let u = lines_unique 8 (omega arith) vs (fields s) (drop e text) _ (w.small refl) (fitting s f).counts (sym (w.is refl) ∙ q ∙ text_joined s x) in
        (sym (u.0 0 (omega arith)), u.1)

    -- the bits are not there
    pub front_bits : (b : Bits) (g : ℕ) (r : Report) (end : ℕ) → BitsIs text e (get_or vs 0 0) false b g → Front text at false r end
    front_bits b g r end i = no_front r end (λ s x f q. let a = after_rows s x f q in i.none refl s.bits _ a.0 (fitting s f).bits a.1)

    module _ (b : Bits) (g : ℕ) (i : BitsIs text e (get_or vs 0 0) true b g) where
      -- the last line is not there
      pub front_rest : (v end : ℕ) (r : Report) (z : ℕ) → LineIs (row 9).key text g (row 9).limit false v end → Front text at false r z
      front_rest v end r z l = no_front r z (λ s x f q.
          let a = after_rows s x f q in
          let u = bits_unique b s.bits (drop g text) (line_text (row 9).key s.rest ++ x) (i.fitting refl ∙ sym a.0) (i.small refl) (fitting s f).bits
          (sym (i.is refl) ∙ a.1) in
          l.none refl s.rest x (fitting s f).rest u.1)

      abbrev pub read_report : ℕ → Report
      read_report v = record {
        taken = get_or vs 1 0;
        filling = get_or vs 2 0;
        delivered = get_or vs 3 0;
        lost = get_or vs 4 0;
        waiting = get_or vs 5 0;
        outofstep = get_or vs 6 0;
        changed = get_or vs 7 0;
        bits = b;
        rest = v;
      }

      same_numbers : (v : ℕ) → (lines_text 8 vs ≡ lines_text 8 (fields (read_report v))) × (numbers_within 8 vs ≡ numbers_within 8 (fields (read_report v)))
      unfolding lines_text numbers_within
      same_numbers v = (rw (i.fitting refl) refl, rw (i.fitting refl) refl)

      pub front_found : (v end : ℕ) → LineIs (row 9).key text g (row 9).limit true v end → Front text at true (read_report v) end
      front_found v end l = record {
        small = λ d. fitted (read_report v) (record { counts = sym (same_numbers v).1 ∙ w.small refl; bits = i.small refl; rest = l.small refl });
        place = λ d. l.within refl;
        is = λ d.
            w.is refl
            ∙ ap₂ (λ (x y : List ℕ). x ++ y) (same_numbers v).0 (i.is refl ∙ ap (λ (y : List ℕ). bits_text b ++ y) (l.is refl))
            ∙ sym (text_joined (read_report v) (drop end text));
        none = λ d. false_true (sym d);
      }

-- ---- one report, one text

unfoldable made : ℕ → ℕ → ℕ → ℕ → ℕ → ℕ → ℕ → Bits → ℕ → Report
made a b c d e f g h i = record { taken = a; filling = b; delivered = c; lost = d; waiting = e; outofstep = f; changed = g; bits = h; rest = i }

made_of : (r : Report) → made r.taken r.filling r.delivered r.lost r.waiting r.outofstep r.changed r.bits r.rest ≡ r
unfolding made
made_of r = refl

module _ (r s : Report) where
  made_same : r.taken ≡ s.taken → r.filling ≡ s.filling → r.delivered ≡ s.delivered → r.lost ≡ s.lost → r.waiting ≡ s.waiting
      → r.outofstep ≡ s.outofstep → r.changed ≡ s.changed → r.bits ≡ s.bits → r.rest ≡ s.rest
      → made r.taken r.filling r.delivered r.lost r.waiting r.outofstep r.changed r.bits r.rest
      ≡ made s.taken s.filling s.delivered s.lost s.waiting s.outofstep s.changed s.bits s.rest
  made_same p1 p2 p3 p4 p5 p6 p7 p8 p9 = cc

  pub report_unique : (x y : List ℕ) → fits r ≡ true → fits s ≡ true → report_text r ++ x ≡ report_text s ++ y → (r ≡ s) × (x ≡ y)
  report_unique x y f g q =
      let u = lines_unique 8 (omega arith) (fields r) (fields s) _ _ (fitting r f).counts (fitting s g).counts (sym (text_joined r x) ∙ q ∙ text_joined s y) in
      let b = bits_unique r.bits s.bits _ _ (u.0 0 (omega arith)) (fitting r f).bits (fitting s g).bits u.1 in
      let l = line_unique (row 9).key r.rest s.rest x y (limited 9 _ (omega arith) (fitting r f).rest) (limited 9 _ (omega arith) (fitting s g).rest) b.1 in (
        sym (made_of r) ∙ made_same (u.0 1 (omega arith)) (u.0 2 (omega arith)) (u.0 3 (omega arith)) (u.0 4 (omega arith)) (u.0 5 (omega arith))
            (u.0 6 (omega arith)) (u.0 7 (omega arith)) b.0 l.0 ∙ made_of s,
        l.1,
      )
