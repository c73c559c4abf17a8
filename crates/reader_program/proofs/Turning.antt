-- A turn: one read behind the bytes that are held, and the room that the bytes of a piece need.
-- Assumes nothing.
use mathlib.Core.Path.{◌≡◌, sym, ap, subst, ◌∙◌}
use mathlib.Core.Bool.{Bool, true, false}
use mathlib.Core.List.{List, ◌++◌, append-nil, append_assoc}
use Prim.Native.Nat.{ℕ, ◌+◌, ◌-◌, ◌/◌, ◌≤◌, ◌<◌}
use native.Mathlib.Omega.{arith}
use borrow.Rule.Slice.PartMut.{put_mid, mid_of}
use lib.ListN.{length, take, drop, length-append, length-drop, drop_of_length-le}
use lib.Seq.{length-take-le, drop_at, take-append-add}
use Rattle.program_io.specs.Files.{Reads}
use Rattle.program_io.specs.declared.input.Input.{Input}
use Rattle.program_io.specs.declared.input.Filled.{Filled}
use Rattle.received_symbols.specs.Received.{width}
use Rattle.reader_program.specs.Ends.{most_of, ReadsBehind}

-- ---- hard or soft decisions

pub few_held : (soft : Bool) {n : ℕ} → n < width soft → n < 8
few_held true h = h
few_held false h = omega arith

pub most_few : (soft : Bool) → most_of soft ≤ 262144
most_few true = omega arith
most_few false = omega arith

pub most_some : (soft : Bool) → 0 < most_of soft
most_some true = omega arith
most_some false = omega arith

-- the pairs of a piece, behind the bytes that are held, and the bytes that its bits fill
pub room : (soft : Bool) (size held came : ℕ) {most : ℕ} → size ≡ held + came → held < width soft → came ≤ most → most ≡ most_of soft
    → (size / width soft ≤ 32768) × (size / width soft + 1632 ≤ 34400)
room true size held came e f c m = (omega arith, omega arith)
room false size held came e f c m = (omega arith, omega arith)

-- ---- a read behind the bytes that are held

module _ (held before last : List ℕ) (few : length held < 8) (long : 8 ≤ length before) (same : length last ≡ length (mid_of 8 (length before - 8) before)) where
  abbrev read_into : List ℕ
  read_into = put_mid 8 (length before - 8) before last

  -- what the read left from byte 8 on
  came : drop 8 read_into ≡ last
  came =
      drop_at (take 8 before) (last ++ drop (length before - 8) (drop 8 before)) 8 (length-take-le 8 before long)
      ∙ ap (λ (x : List ℕ). last ++ x) (drop_of_length-le (drop 8 before) {i = length before - 8} (omega (arith, length-drop 8 before))) ∙ append-nil last

  read_length : 8 ≤ length read_into
  read_length = omega (arith, length-append (take 8 before) (last ++ drop (length before - 8) (drop 8 before)), length-take-le 8 before long)

  module _ {buffer : List ℕ} (e : buffer ≡ take (8 - length held) read_into ++ held ++ drop (8 - length held + length held) read_into) where
    abbrev front : List ℕ
    front = take (8 - length held) read_into

    front_length : length front ≡ 8 - length held
    front_length = length-take-le (8 - length held) read_into (omega (arith, read_length))

    behind : drop (8 - length held + length held) read_into ≡ last
    behind = let k : 8 - length held + length held ≡ 8 = omega arith in ap (λ (j : ℕ). drop j read_into) k ∙ came

    buffer_is : buffer ≡ front ++ (held ++ last)
    buffer_is = e ∙ append_assoc front held (drop (8 - length held + length held) read_into) ∙ ap (λ (x : List ℕ). front ++ (held ++ x)) behind

    from_8 : drop 8 buffer ≡ last
    from_8 =
        ap (drop 8) (buffer_is ∙ sym (append_assoc front held last))
        ∙ drop_at (front ++ held) last 8 (omega (arith, length-append front held, front_length))

    pub reads_behind : {i : Input} {most : ℕ} {r : Filled} → Reads i most last r → ReadsBehind i held most buffer r
    reads_behind {i} {most} {r} h = record {
      read = subst (λ (l : List ℕ). Reads i most l r) (sym from_8) h;
      joined =
          ap (take (length held + r.length)) (ap (drop (8 - length held)) buffer_is ∙ drop_at front (held ++ last) (8 - length held) front_length)
          ∙ take-append-add held last r.length ∙ ap (λ (x : List ℕ). held ++ take r.length x) (sym from_8);
    }

-- the bytes that are taken: those that were held, and then those that came
pub joined_part : (tail buffer : List ℕ) (held : ℕ) (r : Filled) → held < 8 → length tail ≡ 8 → {i : Input} {most : ℕ} → ReadsBehind i (take held tail) most buffer r
    → take (8 + r.length - (8 - held)) (drop (8 - held) buffer) ≡ take held tail ++ take r.length (drop 8 buffer)
joined_part tail buffer held r few size h =
    let n : length (take held tail) ≡ held = length-take-le held tail (omega arith) in
    let k : 8 + r.length - (8 - held) ≡ held + r.length = omega arith in
    ap (λ (j : ℕ). take j (drop (8 - held) buffer)) k
    ∙ sym (ap (λ (j : ℕ). take (j + r.length) (drop (8 - j) buffer)) n) ∙ h.joined
