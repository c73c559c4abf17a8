-- Reports read from the front of what follows those counted: one more, a refusal, the end; and that more bytes behind do not matter.
-- Assumes nothing.
use mathlib.Core.Path.{◌≡◌, refl, sym, ap, subst, ◌∙◌}
use mathlib.Core.Bool.{true}
use mathlib.Core.List.{List, [], ◌∷◌, ◌++◌, append_assoc}
use Prim.Native.Nat.{ℕ, suc, ◌+◌, ◌-◌, ◌*◌, ◌≤◌, ◌<◌}
use native.Mathlib.Nat.{mul-suc, not-suc-le-zero}
use native.Mathlib.Omega.{arith}
use lib.ListN.{length, get_or, take, drop, length-append, length-drop, take-append-drop, drop_of_length-le}
use lib.Seq.{take_at, take-append-le, length-take-le}
use Rattle.common.specs.Lists.{All, placed, total}
use Rattle.report_lines.specs.Line.{decimal, line_text}
use Rattle.std.specs.Prelude.{Result, Ok, Err}
use Rattle.answer.proofs.Positive.{number_positive}
use Rattle.answer.specs.Number.{number_of, answered, given_or}
use Rattle.answer.specs.declared.Refusal.{Refusal}
use Rattle.report.specs.declared.Report.{Report}
use Rattle.report.specs.Text.{fits, report_text, row, lines_text, fields, bits_text}
use Rattle.report.specs.Read.{blank, ReadsReport, front, front_wrong, front_none}
use Rattle.report.proofs.Answers.{read-report}
use Rattle.report.proofs.Counting.{Small, fits_small}
use Rattle.report.proofs.Fronts.{report_short}
use Rattle.season_totals.specs.Totals.{TotalsOf, TotalsFit, counted_report, zero_totals}
use Rattle.season_totals.specs.Season.{Good, texts, summed, refused, too_many, Seasons}
use Rattle.season_totals.specs.Progress.{Unread, fresh_season}
use Rattle.season_totals.proofs.Fractions.{totals_more}

texts_more : (rs : List Report) (r : Report) (x : List ℕ) → texts (rs ++ r ∷ []) ++ x ≡ texts rs ++ (report_text r ++ x)
texts_more [] r x = append_assoc (report_text r) [] x
texts_more (s ∷ rs) r x =
    append_assoc (report_text s) (texts (rs ++ r ∷ [])) x ∙ ap (λ (l : List ℕ). report_text s ++ l) (texts_more rs r x)
    ∙ sym (append_assoc (report_text s) (texts rs) (report_text r ++ x))

good_more : (rs : List Report) (r : Report) → All Good rs → Good r → All Good (rs ++ r ∷ [])
good_more [] r a g = (g, tt)
good_more (s ∷ rs) r a g = (a.0, good_more rs r a.1 g)

-- a sum is at most so much for each report
total_most : (f : Report → ℕ) (m : ℕ) → ((r : Report) → Small r → f r < m) → (rs : List Report) → All Good rs → total f rs ≤ m * length rs
total_most f m h [] a = omega arith
total_most f m h (r ∷ rs) a =
    let x = h r (fits_small r a.0.fit) in
    let y = total_most f m h rs a.1 in
    let z : m * suc (length rs) ≡ m * length rs + m = mul-suc m (length rs) in
    omega arith

-- no report is empty
pub report_some : (r : Report) → 1 ≤ length (report_text r)
unfolding report_text line_text
report_some r =
    omega (arith, length-append (lines_text 8 (fields r) ++ bits_text r.bits) (line_text (row 9).key r.rest), length-append ((row 9).key ++ decimal r.rest) (0x0A ∷ []))

-- the totals of no report
no_totals : TotalsOf [] fresh_season.totals
no_totals = record {
  passes = refl;
  taken = refl;
  lost = refl;
  changed = refl;
  worst = record {
    none = λ e. (refl, refl, λ j h. absurd (not-suc-le-zero h));
    place = λ e. absurd (omega arith);
    most = λ e. absurd (omega arith);
    first = λ e. absurd (omega arith);
  };
}

pub unread_none : Unread [] fresh_season.totals []
unread_none = record { reports = []; good = tt; few = omega arith; text = refl; sums = no_totals }

module _ {bytes totals rest : List ℕ} (u : Unread bytes totals rest) where
  -- more bytes come
  pub unread_more : (more : List ℕ) → Unread (bytes ++ more) totals (rest ++ more)
  unread_more more = record {
    reports = u.reports;
    good = u.good;
    few = u.few;
    text = ap (λ (l : List ℕ). l ++ more) u.text ∙ append_assoc (texts u.reports) rest more;
    sums = u.sums;
  }

  pub unread_fits : (r : Report) → get_or totals 0 0 < 4096 → fits r ≡ true → TotalsFit totals r
  unread_fits r n f =
      let p = u.sums.passes in
      let a = total_most (λ r. r.taken) 1099511627776 (λ r m. m.taken) u.reports u.good in
      let b = total_most (λ r. r.lost) 1099511627776 (λ r m. m.lost) u.reports u.good in
      let c = total_most (λ r. r.changed) 1099511627776 (λ r m. m.changed) u.reports u.good in
      record {
        passes = n;
        taken = omega (arith, u.sums.taken);
        lost = omega (arith, u.sums.lost);
        changed = omega (arith, u.sums.changed);
        fit = f;
      }

  -- fewer than 4,096 reports were read
  pub unread_fewer : (get_or totals 0 0 ≡ 4096 → ⊥) → get_or totals 0 0 < 4096
  unread_fewer n = let p = u.sums.passes in omega (arith, u.few)

  module _ (number : ℕ) (r : Report) (x : List ℕ) (w : ReadsReport rest number r x) where
    pub unread_next : number ≡ 0 → get_or totals 0 0 < 4096 → Unread bytes (counted_report totals r) x
    unread_next e n =
        let d = read-report w e in
        let p = u.sums.passes in
        record {
          reports = u.reports ++ r ∷ [];
          good = good_more u.reports r u.good (record { fit = d.0; add = d.1 });
          few = let l = length-append u.reports (r ∷ []) in omega arith;
          text = u.text ∙ ap (λ (l : List ℕ). texts u.reports ++ l) d.2 ∙ sym (texts_more u.reports r x);
          sums = totals_more u.reports r totals u.sums;
        }

    pub unread_bad : (number ≡ 0 → ⊥) → get_or totals 0 0 < 4096 → 0 < length rest → Seasons bytes number zero_totals
    unread_bad e n l =
        let p = u.sums.passes in
        record { reports = u.reports; rest = rest; good = u.good; text = u.text; few = u.few; ends = refused r x e refl (omega arith) l w }

  pub unread_many : get_or totals 0 0 ≡ 4096 → 0 < length rest → Seasons bytes 21 zero_totals
  unread_many e l =
      let p = u.sums.passes in
      record { reports = u.reports; rest = rest; good = u.good; text = u.text; few = u.few; ends = too_many refl refl (omega arith) l }

  unread_done : rest ≡ [] → Seasons bytes 0 totals
  unread_done e = record { reports = u.reports; rest = rest; good = u.good; text = u.text; few = u.few; ends = summed refl e u.sums }

-- ---- a text as long as any report decides what its front is

pub front_more : (t : List ℕ) (n : ℕ) (r : Report) (x : List ℕ) → ReadsReport t n r x → 310 ≤ length t → (more : List ℕ) → ReadsReport (t ++ more) n r (x ++ more)
front_more t n r x w h more = by w
  where
    longer : (s : Report) → t ≡ report_text s ++ x → t ++ more ≡ report_text s ++ (x ++ more)
    longer s e = ap (λ (l : List ℕ). l ++ more) e ∙ append_assoc (report_text s) x more

    by : ReadsReport t n r x → ReadsReport (t ++ more) n r (x ++ more)
    by (front e f s q) = front e f s (longer r q)
    by (front_wrong u e b f s q) = front_wrong u e b f s (longer u q)
    by (front_none e b g) =
        front_none e b (λ s y f q.
        let k = length (report_text s) in
        let l : k ≤ length t = let o = report_short s in omega arith in
        let p : take k t ≡ report_text s = sym (take-append-le k t more l) ∙ ap (take k) q ∙ take_at (report_text s) y k refl in
        g s (drop k t) f (sym (take-append-drop k t) ∙ ap (λ (z : List ℕ). z ++ drop k t) p))

-- bytes put after the first of a buffer
pub put_taken : (buffer bytes : List ℕ) (n : ℕ) → n + length bytes ≤ length buffer
    → take (n + length bytes) (placed buffer n bytes) ≡ take n buffer ++ bytes
put_taken buffer bytes n h =
    let l = length-append (take n buffer) bytes in
    let k : length (take n buffer) ≡ n = length-take-le n buffer (omega arith) in
    take_at (take n buffer ++ bytes) (drop (n + length bytes) buffer) (n + length bytes) (omega arith)

-- ---- the loop over a text

-- the reports before a place of the text are counted
pub record CountedTo (text start totals : List ℕ) (at : ℕ) : Type 0 where
  pub place : at ≤ length text
  pub is : (bytes : List ℕ) → Unread bytes start text → Unread bytes totals (drop at text)

pub counted_none : (text start : List ℕ) → CountedTo text start start 0
counted_none text start = record { place = omega arith; is = λ bytes u. u }

-- a report takes at least a byte
pub past : (text : List ℕ) (at end number : ℕ) (r : Report) → end ≤ length text → ReadsReport (drop at text) number r (drop end text) → number ≡ 0
    → at < length text → at < end
past text at end number r h w e l =
    let d = read-report w e in
    let q : length text - at ≡ length (report_text r) + (length text - end)
    = sym (length-drop at text) ∙ ap length d.2 ∙ length-append (report_text r) (drop end text) ∙ ap (λ (n : ℕ). length (report_text r) + n) (length-drop end text) in
    omega (arith, report_some r)

module _ {text start totals : List ℕ} {at : ℕ} (o : CountedTo text start totals at) (bytes : List ℕ) (u : Unread bytes start text) where
  left : at < length text → 0 < length (drop at text)
  left l = let d = length-drop at text in omega arith

  pub counted_many : get_or totals 0 0 ≡ 4096 → at < length text → Seasons bytes 21 zero_totals
  counted_many e l = unread_many (o.is bytes u) e (left l)

  pub counted_bad : (number : ℕ) (r : Report) (x : List ℕ) → ReadsReport (drop at text) number r x → (number ≡ 0 → ⊥) → (get_or totals 0 0 ≡ 4096 → ⊥)
      → at < length text → Seasons bytes number zero_totals
  counted_bad number r x w e n l = unread_bad (o.is bytes u) number r x w e (unread_fewer (o.is bytes u) n) (left l)

  pub counted_done : length text ≤ at → Seasons bytes 0 totals
  counted_done l = unread_done (o.is bytes u) (drop_of_length-le text l)

  pub counted_fits : (r : Report) → (get_or totals 0 0 ≡ 4096 → ⊥) → fits r ≡ true → TotalsFit totals r
  counted_fits r n f = unread_fits (o.is bytes u) r (unread_fewer (o.is bytes u) n) f

pub counted_next : {text start totals : List ℕ} {at : ℕ} → CountedTo text start totals at → (number : ℕ) (r : Report) (end : ℕ) → end ≤ length text
    → ReadsReport (drop at text) number r (drop end text) → number ≡ 0 → (get_or totals 0 0 ≡ 4096 → ⊥) → CountedTo text start (counted_report totals r) end
counted_next o number r end h w e n = record {
  place = h;
  is = λ bytes u. unread_next (o.is bytes u) number r _ w e (unread_fewer (o.is bytes u) n);
}

-- ---- what reading the front of a text gave, by its two cases

pub read_ok : {t x : List ℕ} {q : Result Report Refusal} {r : Report} → ReadsReport t (answered q) (given_or blank (λ (s : Report). s) q) x → q ≡ Ok r
    → ReadsReport t 0 r x
read_ok {t} {x} w e = subst (λ (p : Result Report Refusal). ReadsReport t (answered p) (given_or blank (λ (s : Report). s) p) x) e w

pub read_err : {t x : List ℕ} {q : Result Report Refusal} {a : Refusal} → ReadsReport t (answered q) (given_or blank (λ (s : Report). s) q) x → q ≡ Err a
    → ReadsReport t (number_of a) blank x
read_err {t} {x} w e = subst (λ (p : Result Report Refusal). ReadsReport t (answered p) (given_or blank (λ (s : Report). s) p) x) e w

pub err_some : (a : Refusal) → number_of a ≡ 0 → ⊥
err_some a z = omega (arith, number_positive a)
