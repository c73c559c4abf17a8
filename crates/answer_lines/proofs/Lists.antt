-- Lines of the list as text, one after another.
-- Assumes nothing.
use mathlib.Core.Path.{◌≡◌, refl, sym, ap, subst, ◌∙◌}
use mathlib.Core.List.{List, [], ◌∷◌, ◌++◌, append_assoc, append-nil}
use Prim.Native.Nat.{ℕ, ◌+◌, ◌*◌, ◌≤◌, ◌<◌}
use native.Mathlib.Numerals.{add-one}
use native.Mathlib.Omega.{arith}
use lib.ListN.{length, get_or, take, length-append}
use lib.Seq.{take-suc}
use Rattle.report_lines.specs.Line.{Appended}
use Rattle.answer_lines.specs.Lines.{entry_text, list_text}

-- ---- text behind text

pub appended_both : {a b entry middle exit : List ℕ} {at m r k n : ℕ} → Appended a entry middle at m k → Appended b middle exit m r n → (bound : ℕ) → n ≤ bound → Appended (a ++ b) entry exit at r bound
appended_both {a} {b} {entry} {middle} {exit} {at} {m} {r} {k} {n} f g bound h = record {
  place = g.place ∙ ap (λ (i : ℕ). i + length b) f.place ∙ omega (arith, length-append a b);
  bound = omega (arith, g.bound);
  same = g.same ∙ f.same;
  text = g.text ∙ ap (λ (x : List ℕ). x ++ b) f.text ∙ append_assoc (take at entry) a b;
}

pub list_append : (a b : List ℕ) → list_text (a ++ b) ≡ list_text a ++ list_text b
list_append [] b = refl
list_append (x ∷ a) b = ap (λ (l : List ℕ). entry_text x ++ l) (list_append a b) ∙ sym (append_assoc (entry_text x) (list_text a) (list_text b))

-- ---- a loop over lines

pub record Listing (lines text₀ text : List ℕ) (at i end : ℕ) : Type 0 where
  pub within : i ≤ length lines
  pub appended : Appended (list_text (take i lines)) text₀ text at end (at + 64 * i)

pub listing_none : (lines text : List ℕ) (at : ℕ) → Listing lines text text at 0 at
listing_none lines text at = record { within = omega arith; appended = record { place = omega arith; bound = omega arith; same = refl; text = sym (append-nil (take at text)) } }

pub listing_more : {lines text₀ text exit : List ℕ} {at i end r : ℕ} → Listing lines text₀ text at i end → i < length lines → {v : ℕ} → v ≡ get_or lines i 0
    → Appended (entry_text v) text exit end r (end + 64) → Listing lines text₀ exit at (i + 1) r
listing_more {lines} {text₀} {text} {exit} {at} {i} {end} {r} l h {v} e a =
    let t : list_text (take i lines) ++ entry_text v ≡ list_text (take (i + 1) lines)
    = ap (λ (x : List ℕ). list_text (take i lines) ++ x) (ap entry_text e ∙ sym (append-nil (entry_text (get_or lines i 0))))
    ∙ sym (list_append (take i lines) (get_or lines i 0 ∷ [])) ∙ ap list_text (sym (take-suc lines i 0 h)) ∙ ap (λ (k : ℕ). list_text (take k lines)) (sym (add-one i)) in
    record {
      within = omega arith;
      appended = subst (λ (x : List ℕ). Appended x text₀ exit at r (at + 64 * (i + 1))) t (appended_both l.appended a (at + 64 * (i + 1)) (omega (arith, l.appended.bound)));
    }
