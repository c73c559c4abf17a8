-- The bytes of an acquisition and the acquisition that is read of them.
-- Assumes nothing.
use mathlib.Core.Path.{◌≡◌, refl, ap, ap₂, ◌∙◌}
use mathlib.Core.Bool.{Bool, true, false}
use mathlib.Core.List.{List, [], ◌∷◌, ◌++◌, append_assoc}
use Prim.Native.Nat.{ℕ, zero, suc, ◌+◌, ◌*◌, ◌/◌, ◌%◌, ◌≤◌, ◌<◌}
use Prim.{tt}
use native.Mathlib.Omega.{arith}
use borrow.Author.Tests.{eq-eqb, ne_eqb}
use lib.Dec.{eqb}
use lib.ListN.{length, get_or, take, drop, length-append, length-drop}
use lib.Seq.{length-take-le}
use Rattle.common.specs.Choice.{indicator}
use Rattle.common.specs.Lists.{All, ByteEntries, padded, placed}
use Rattle.common.proofs.Entries.{entries_take, entries_drop}
use Rattle.state_bytes.specs.Table.{contiguous, fields_of, part}
use Rattle.state_bytes.proofs.Copies.{next, last, byte_part, part_byte}
use Rattle.state_bytes.proofs.Fields.{◌&◌}
use Rattle.reception_counts.specs.Bytes.{to_bytes, from_bytes}
use Rattle.reception_counts.proofs.Numbers.{to_from, from_to_eight}
use Rattle.reader_stream.specs.Runs.{held_of}
use Rattle.reader_state.proofs.Numbers.{two_part, part_two}
use Rattle.acquisition.specs.declared.Phase.{Phase}
use Rattle.acquisition.specs.declared.Phase.TheVariants.{Searches, Reads}
use Rattle.acquisition.specs.declared.Acquisition.{Acquisition}
use Rattle.acquisition_state.specs.State.{flags_byte, plain_of, low_of, high_of, is_reading, phase_of, two, layout, field_bytes, cleared}
use Rattle.acquisition_state.specs.Reading.{state_of}

-- behind the receiver's fields, to the end
pub layout_contiguous : contiguous 2322 layout 13788 ≡ true
layout_contiguous = refl

-- ---- a number and two flags

pub flag_small : (b : Bool) → indicator b ≤ 1
flag_small true = omega arith
flag_small false = omega arith

-- a bit of a byte as a flag, and as a number again
bit_flag : (x : ℕ) → indicator (eqb (x % 2) 1) ≡ x % 2
bit_flag x = by (x % 2) (omega arith)
  where
    by : (r : ℕ) → r < 2 → indicator (eqb r 1) ≡ r
    by zero h = refl
    by (suc zero) h = refl
    by (suc (suc r)) h = absurd (omega arith)

-- the flag of a byte whose bit is that of a flag
flag_bit : (b : Bool) (x : ℕ) → x ≡ indicator b → eqb x 1 ≡ b
flag_bit true x e = eq-eqb x 1 e
flag_bit false x e = ne_eqb x 1 (λ h. absurd (omega arith))

-- what a byte is read as, written again
pub flags_byte_lem : (x : ℕ) → x < 256 → flags_byte (plain_of x) (low_of x) (high_of x) ≡ x
flags_byte_lem x h =
    let a : indicator (low_of x) ≡ x / 8 % 2 = bit_flag (x / 8) in
    let b : indicator (high_of x) ≡ x / 16 % 2 = bit_flag (x / 16) in
    ap₂ (λ (i j : ℕ). plain_of x % 8 + 8 * i + 16 * j + 32 * (plain_of x / 8)) a b ∙ again x
  where
    joined : (x a b c r p q : ℕ) → x ≡ 8 * a + r → a ≡ 2 * b + p → b ≡ 2 * c + q → r + 8 * p + 16 * q + 32 * c ≡ x
    joined x a b c r p q e f g = omega arith

    eights : (x : ℕ) → x ≡ 8 * (x / 8) + x % 8
    eights x = omega arith

    sixteens : (x : ℕ) → x / 8 ≡ 2 * (x / 16) + x / 8 % 2
    sixteens x = omega arith

    thirties : (x : ℕ) → x / 16 ≡ 2 * (x / 32) + x / 16 % 2
    thirties x = omega arith

    low : (r c : ℕ) → r < 8 → (r + 8 * c) % 8 ≡ r
    low r c h = omega arith

    rest : (r c : ℕ) → r < 8 → (r + 8 * c) / 8 ≡ c
    rest r c h = omega arith

    again : (x : ℕ) → plain_of x % 8 + 8 * (x / 8 % 2) + 16 * (x / 16 % 2) + 32 * (plain_of x / 8) ≡ x
    again x =
        let l = low (x % 8) (x / 32) (omega arith) in
        let k = rest (x % 8) (x / 32) (omega arith) in
        ap₂ (λ (i j : ℕ). i + 8 * (x / 8 % 2) + 16 * (x / 16 % 2) + 32 * j) l k
        ∙ joined x (x / 8) (x / 16) (x / 32) (x % 8) (x / 8 % 2) (x / 16 % 2) (eights x) (sixteens x) (thirties x)

-- what is written is read again
module _ (n : ℕ) (a b : Bool) where
  parts : (i j : ℕ) → i ≤ 1 → j ≤ 1 → let x = n % 8 + 8 * i + 16 * j + 32 * (n / 8) in (plain_of x ≡ n) × (x / 8 % 2 ≡ i) × (x / 16 % 2 ≡ j)
  parts i j p q = (omega arith, omega arith, omega arith)

  pub flags_plain : plain_of (flags_byte n a b) ≡ n
  flags_plain = (parts (indicator a) (indicator b) (flag_small a) (flag_small b)).0

  pub flags_low : low_of (flags_byte n a b) ≡ a
  flags_low = flag_bit a _ (parts (indicator a) (indicator b) (flag_small a) (flag_small b)).1

  pub flags_high : high_of (flags_byte n a b) ≡ b
  flags_high = flag_bit b _ (parts (indicator a) (indicator b) (flag_small a) (flag_small b)).2

phase_again : (p : Phase) → phase_of (is_reading p) ≡ p
phase_again Searches = refl
phase_again Reads = refl

reading_again : (b : Bool) → is_reading (phase_of b) ≡ b
reading_again true = refl
reading_again false = refl

-- ---- the fields

eight_part : (bytes : List ℕ) (at : ℕ) → ByteEntries bytes → at + 8 ≤ length bytes → to_bytes 8 (from_bytes (take 8 (drop at bytes))) ≡ take 8 (drop at bytes)
eight_part bytes at e h =
    to_from 8 (take 8 (drop at bytes)) (entries_take (λ x. x < 256) (omega arith) 8 (drop at bytes) (entries_drop (λ x. x < 256) at bytes e))
    (length-take-le 8 (drop at bytes) (omega (arith, length-drop at bytes)))

-- of what is read of bytes, each is that of the bytes
pub fields_read : (bytes : List ℕ) → 13788 ≤ length bytes → ByteEntries bytes → All (λ f. f.held (state_of bytes) ≡ part f bytes) layout
unfolding state_of
fields_read bytes n e =
    let s = get_or bytes 13784 0 in
    let t = get_or bytes 13785 0 in
    refl
    & refl
    & refl
    & two_part bytes 13754 (omega arith) (e 13754)
    & two_part bytes 13756 (omega arith) (e 13756)
    & two_part bytes 13758 (omega arith) (e 13758)
    & eight_part bytes 13760 e (omega arith)
    & eight_part bytes 13768 e (omega arith)
    & eight_part bytes 13776 e (omega arith)
    & ap (λ (x : ℕ). x ∷ []) (ap (flags_byte (plain_of s) (low_of s)) (reading_again (high_of s)) ∙ flags_byte_lem s (e 13784)) ∙ byte_part bytes 13784 (omega arith)
    & ap (λ (x : ℕ). x ∷ []) (flags_byte_lem t (e 13785)) ∙ byte_part bytes 13785 (omega arith)
    & byte_part bytes 13786 (omega arith)
    & byte_part bytes 13787 (omega arith)
    & tt

-- bytes with the fields of an acquisition, whose counts fit eight bytes, are read as it
pub read_again : (bytes : List ℕ) (a : Acquisition) → a.came < 18446744073709551616 → a.reading.first < 18446744073709551616 → a.reading.used < 18446744073709551616
    → All (λ f. part f bytes ≡ f.held a) layout → state_of bytes ≡ a
unfolding state_of
read_again bytes a hc hf hu p =
    let q = p.1.1.1 in
    let held = part_two bytes 13754 a.held q.0 in
    let count = part_two bytes 13756 a.reading.runs.count q.1.0 in
    let gathered = part_two bytes 13758 a.reading.sync.held q.1.1.0 in
    let r = q.1.1.1 in
    let came = ap from_bytes r.0 ∙ from_to_eight a.came hc in
    let first = ap from_bytes r.1.0 ∙ from_to_eight a.reading.first hf in
    let used = ap from_bytes r.1.1.0 ∙ from_to_eight a.reading.used hu in
    let t = r.1.1.1 in
    let searched = part_byte bytes 13784 (flags_byte a.rate a.mirrored (is_reading a.phase)) t.0 in
    let turned = part_byte bytes 13785 (flags_byte a.reading.turn a.reading.sync.lock.locked a.reading.sync.lock.inverted) t.1.0 in
    let rate = part_byte bytes 13786 a.reading.runs.rate t.1.1.0 in
    let memory = part_byte bytes 13787 a.reading.runs.memory t.1.1.1.0 in
    let plain = ap plain_of searched ∙ flags_plain a.rate a.mirrored (is_reading a.phase) in
    let mirrored = ap low_of searched ∙ flags_low a.rate a.mirrored (is_reading a.phase) in
    let phase = ap phase_of (ap high_of searched ∙ flags_high a.rate a.mirrored (is_reading a.phase)) ∙ phase_again a.phase in
    let turn = ap plain_of turned ∙ flags_plain a.reading.turn a.reading.sync.lock.locked a.reading.sync.lock.inverted in
    let locked = ap low_of turned ∙ flags_low a.reading.turn a.reading.sync.lock.locked a.reading.sync.lock.inverted in
    let inverted = ap high_of turned ∙ flags_high a.reading.turn a.reading.sync.lock.locked a.reading.sync.lock.inverted in
    let pairs = p.1.0 in
    let bits = p.1.1.0 in
    let pending = p.0 in
    λ i. record {
      rate = plain i;
      mirrored = mirrored i;
      phase = phase i;
      reading =
          record {
            turn = turn i;
            runs = record { rate = rate i; memory = memory i; held = pairs i; count = count i };
            sync = record { lock = record { locked = locked i; inverted = inverted i }; bits = bits i; held = gathered i };
            first = first i;
            used = used i;
          };
      pending = pending i;
      held = held i;
      came = came i;
    }

-- ---- an acquisition that is written

-- its fields put one after the other
pub all_put : (pending pairs bits small came first used flags b₀ b₁ b₂ b₃ b₄ b₅ b₆ b₇ b₈ : List ℕ) → length pending ≡ 1632 → length pairs ≡ 1632 → length bits ≡ 8168
    → length small ≡ 6 → length came ≡ 8 → length first ≡ 8 → length used ≡ 8 → length flags ≡ 4 → length b₀ ≡ 11466
    → b₁ ≡ placed b₀ 0 pending → b₂ ≡ placed b₁ 1632 pairs → b₃ ≡ placed b₂ 3264 bits → b₄ ≡ placed b₃ 11432 small → b₅ ≡ placed b₄ 11438 came
    → b₆ ≡ placed b₅ 11446 first → b₇ ≡ placed b₆ 11454 used → b₈ ≡ placed b₇ 11462 flags
    → b₈ ≡ pending ++ pairs ++ bits ++ small ++ came ++ first ++ used ++ flags
all_put p q r s c f u g b₀ b₁ b₂ b₃ b₄ b₅ b₆ b₇ b₈ lp lq lr ls lc lf lu lg n e₁ e₂ e₃ e₄ e₅ e₆ e₇ e₈ =
    let f₁ = next [] p b₀ b₀ b₁ 0 1632 refl (omega arith) refl e₁ in
    let f₂ = next p q b₀ b₁ b₂ 1632 3264 lp (omega arith) f₁ e₂ in
    let l₂ : length (p ++ q) ≡ 3264 = length-append p q ∙ omega arith in
    let f₃ = next (p ++ q) r b₀ b₂ b₃ 3264 11432 l₂ (omega arith) f₂ e₃ in
    let l₃ : length (p ++ q ++ r) ≡ 11432 = length-append (p ++ q) r ∙ omega arith in
    let f₄ = next (p ++ q ++ r) s b₀ b₃ b₄ 11432 11438 l₃ (omega arith) f₃ e₄ in
    let l₄ : length (p ++ q ++ r ++ s) ≡ 11438 = length-append (p ++ q ++ r) s ∙ omega arith in
    let f₅ = next (p ++ q ++ r ++ s) c b₀ b₄ b₅ 11438 11446 l₄ (omega arith) f₄ e₅ in
    let l₅ : length (p ++ q ++ r ++ s ++ c) ≡ 11446 = length-append (p ++ q ++ r ++ s) c ∙ omega arith in
    let f₆ = next (p ++ q ++ r ++ s ++ c) f b₀ b₅ b₆ 11446 11454 l₅ (omega arith) f₅ e₆ in
    let l₆ : length (p ++ q ++ r ++ s ++ c ++ f) ≡ 11454 = length-append (p ++ q ++ r ++ s ++ c) f ∙ omega arith in
    let f₇ = next (p ++ q ++ r ++ s ++ c ++ f) u b₀ b₆ b₇ 11454 11462 l₆ (omega arith) f₆ e₇ in
    let l₇ : length (p ++ q ++ r ++ s ++ c ++ f ++ u) ≡ 11462 = length-append (p ++ q ++ r ++ s ++ c ++ f) u ∙ omega arith in
    last (p ++ q ++ r ++ s ++ c ++ f ++ u) g b₀ b₇ b₈ 11462 l₇ (omega arith) f₇ e₈

-- what is put are the fields of an acquisition with zeros where its runs hold nothing
pub fields_put : (a : Acquisition) (pairs bytes : List ℕ) (s t : ℕ) → pairs ≡ padded 1632 (held_of a.reading.runs)
    → s ≡ flags_byte a.rate a.mirrored (is_reading a.phase) → t ≡ flags_byte a.reading.turn a.reading.sync.lock.locked a.reading.sync.lock.inverted
    → bytes ≡ a.pending ++ pairs ++ a.reading.sync.bits ++ (two a.held ++ two a.reading.runs.count ++ two a.reading.sync.held) ++ to_bytes 8 a.came ++ to_bytes 8 a.reading.first ++ to_bytes 8 a.reading.used ++ (s ∷ t ∷ a.reading.runs.rate ∷ a.reading.runs.memory ∷ [])
    → bytes ≡ field_bytes (cleared a)
unfolding fields_of
fields_put a pairs bytes s t e f g w =
    let own = padded 1632 (held_of a.reading.runs) in
    let s' = flags_byte a.rate a.mirrored (is_reading a.phase) in
    let t' = flags_byte a.reading.turn a.reading.sync.lock.locked a.reading.sync.lock.inverted in
    let small = two a.held ++ two a.reading.runs.count ++ two a.reading.sync.held in
    w
    ∙ ap (λ (l : List ℕ). a.pending ++ l ++ a.reading.sync.bits ++ small ++ to_bytes 8 a.came ++ to_bytes 8 a.reading.first ++ to_bytes 8 a.reading.used ++ (s ∷ t ∷ a.reading.runs.rate ∷ a.reading.runs.memory ∷ [])) e
    ∙ ap₂ (λ (x y : ℕ). a.pending ++ own ++ a.reading.sync.bits ++ small ++ to_bytes 8 a.came ++ to_bytes 8 a.reading.first ++ to_bytes 8 a.reading.used ++ (x ∷ y ∷ a.reading.runs.rate ∷ a.reading.runs.memory ∷ [])) f g
    ∙ simp append_assoc
