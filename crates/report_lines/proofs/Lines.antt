-- Lines written one after the other into a buffer.
-- Assumes nothing.
use mathlib.Core.Path.{◌≡◌, refl, ap, ◌∙◌}
use mathlib.Core.List.{List, [], ◌∷◌, ◌++◌, append_assoc}
use Prim.Native.Nat.{ℕ, ◌+◌, ◌≤◌, ◌<◌}
use native.Mathlib.Numerals.{add-one}
use native.Mathlib.Omega.{arith}
use lib.ListN.{length, take, drop, set, length-append, length-drop, length-set}
use lib.Seq.{take_at, take-suc-set, length-take-le}
use Rattle.report_lines.specs.Line.{Appended}

-- a list put at a place
pub put_appended : (output l : List ℕ) (at most : ℕ) → at + length l ≤ length output → at + length l ≤ most
    → Appended l output (take at output ++ l ++ drop (at + length l) output) at (at + length l) most
put_appended output l at most h b =
    let t : length (take at output) ≡ at = length-take-le at output (omega arith) in
    let n : length (take at output ++ l) ≡ at + length l = length-append (take at output) l ∙ ap (λ (k : ℕ). k + length l) t in
    record {
      place = refl;
      bound = b;
      same = length-append (take at output ++ l) (drop (at + length l) output) ∙ simp (n, length-drop) (omega arith);
      text = take_at (take at output ++ l) (drop (at + length l) output) (at + length l) n;
    }

-- a byte more
pub byte_appended : (l entry exit : List ℕ) (at r most limit v : ℕ) → Appended l entry exit at r most → r < length entry → most + 1 ≤ limit
    → Appended (l ++ v ∷ []) entry (set exit r v) at (r + 1) limit
byte_appended l entry exit at r most limit v a h u =
    let b = a.bound in
    let p = a.place in
    let n = length-append l (v ∷ []) in
    let s : length exit ≡ length entry = a.same in
    let i : r < length exit = omega arith in
    record {
      place = omega arith;
      bound = omega arith;
      same = length-set exit r v ∙ s;
      text =
          ap (λ (k : ℕ). take k (set exit r v)) (add-one r) ∙ take-suc-set exit r v i ∙ ap (λ (x : List ℕ). x ++ v ∷ []) a.text
          ∙ append_assoc (take at entry) l (v ∷ []);
    }

-- one list after another
pub joined_appended : (l m output next last : List ℕ) (at r q most limit : ℕ) → Appended l output next at r most → Appended m next last r q limit
    → Appended (l ++ m) output last at q limit
joined_appended l m output next last at r q most limit a b =
    let p = a.place in
    let n = length-append l m in
    let w = b.place in
    record {
      place = omega arith;
      bound = b.bound;
      same = b.same ∙ a.same;
      text = b.text ∙ ap (λ (x : List ℕ). x ++ m) a.text ∙ append_assoc (take at output) l m;
    }

-- the same text under another bound
pub restated : {l m entry exit : List ℕ} {at r most : ℕ} (limit : ℕ) → Appended l entry exit at r most → l ≡ m → r ≤ limit
    → Appended m entry exit at r limit
restated {l} {m} {entry} {exit} {at} limit a e h =
    record {
      place = a.place ∙ ap (λ (t : List ℕ). at + length t) e;
      bound = h;
      same = a.same;
      text = a.text ∙ ap (λ (t : List ℕ). take at entry ++ t) e;
    }
