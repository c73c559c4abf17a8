-- The bytes of a state and the lock that is read of them, by the laws of any table (state_bytes/proofs/States.antt).
-- Assumes nothing.
use mathlib.Core.Path.{◌≡◌, refl, sym, ap, ap₂, ◌∙◌}
use mathlib.Core.Bool.{Bool, true, false}
use mathlib.Core.List.{List, [], ◌∷◌, ◌++◌, append-nil, append_assoc}
use Prim.Native.Nat.{ℕ, ◌+◌, ◌*◌, ◌≤◌, ◌<◌}
use Prim.{tt}
use native.Mathlib.Omega.{arith}
use borrow.Author.Tests.{ne_eqb, eqb-true, ltb-true}
use lib.Dec.{eqb}
use lib.ListN.{length, get_or, take, drop, length-append, length-drop}
use lib.Seq.{length-take-le}
use Rattle.std.proofs.Common.{Option, Some, None}
use Rattle.common.specs.Choice.{pick}
use Rattle.common.specs.Lists.{All, ByteEntries, padded, placed}
use Rattle.common.proofs.Choice.{both_true, false_true}
use Rattle.common.proofs.Entries.{entries_take, entries_drop}
use Rattle.common.proofs.Lists.{All-append}
use Rattle.state_bytes.specs.Table.{Field, fields_within, fields_of, part, contiguous}
use Rattle.state_bytes.proofs.Copies.{next, last, byte_part, part_byte}
use Rattle.state_bytes.proofs.Fields.{◌&◌, fields_in}
use Rattle.state_bytes.proofs.States.{Reads}
use Rattle.reception_counts.specs.Bytes.{to_bytes, from_bytes}
use Rattle.reception_counts.proofs.Numbers.{to_from, from_to_eight}
use Rattle.receiver_state.specs.State as receiver
use Rattle.receiver_state.proofs.States as receiver-states
use Rattle.acquisition_state.specs.State as acquisition
use Rattle.acquisition_state.specs.State.{flags_byte, plain_of, low_of, high_of}
use Rattle.acquisition_state.proofs.Ranges.{counts_fit}
use Rattle.acquisition_state.proofs.Table as acquisition-table
use Rattle.acquisition_state.proofs.Table.{flags_byte_lem, flags_plain, flags_low, flags_high}
use Rattle.losses.specs.Watch.{waiting_of, most_waiting}
use Rattle.losses.specs.declared.Certainty.{Certainty}
use Rattle.losses.specs.declared.Certainty.TheVariants.{Sure, Unsure}
use Rattle.lock_receiver.specs.Take.{lock_in_range}
use Rattle.lock_receiver.proofs.Ranges.{lock_range}
use Rattle.lock_receiver.specs.declared.LockReceiver.{LockReceiver}
use Rattle.lock_stream.specs.declared.LockStream.{LockStream}
use Rattle.lock_state.specs.State.{code_of, certainty_of, own, layout, state_length, state_bytes, packets_clear, fits, in_range, cleared}
use Rattle.lock_state.specs.Reading.{state_of}

pub layout_contiguous : contiguous 0 layout state_length ≡ true
layout_contiguous = refl

-- ---- the fields of a part of a state

module _ {S T : Type 0} (inner : T → S) (bytes : List ℕ) (t : T) where
  held_in : (fs : List (Field S)) → All (λ f. f.held (inner t) ≡ part f bytes) fs → All (λ f. f.held t ≡ part f bytes) (fields_within inner fs)
  held_in [] h = tt
  held_in (f ∷ fs) h = (h.0, held_in fs h.1)

  found_in : (fs : List (Field S)) → All (λ f. part f bytes ≡ f.held t) (fields_within inner fs) → All (λ f. part f bytes ≡ f.held (inner t)) fs
  found_in [] h = tt
  found_in (f ∷ fs) h = (h.0, found_in fs h.1)

all_split : {A : Type 0} (P : A → Type 0) (xs ys : List A) → All P (xs ++ ys) → All P xs × All P ys
all_split P [] ys h = (tt, h)
all_split P (x ∷ xs) ys h = let k = all_split P xs ys h.1 in ((h.0, k.0), k.1)

-- ---- what is known of the places

pub few_waiting : (v : LockReceiver) → lock_in_range v ≡ true → waiting_of v.certainty ≤ 7
few_waiting v r = let w = (lock_range v r).waiting.0 in omega (arith, w, most v.receiver.sync.place)
  where
    most : (p : Option ℕ) → most_waiting p ≤ 7
    most None = omega arith
    most (Some p) = omega arith

code_again : (k : Certainty) → waiting_of k ≤ 7 → certainty_of (code_of k) ≡ k
code_again Sure h = refl
code_again (Unsure n) h = ap (λ t. pick t Sure (Unsure n)) (ne_eqb n 8 (λ e. absurd (omega arith)))

code_byte : (n : ℕ) → code_of (certainty_of n) ≡ n
code_byte n = by (eqb n 8) refl
  where
    by : (t : Bool) → eqb n 8 ≡ t → code_of (pick t Sure (Unsure n)) ≡ n
    by true e = sym (eqb-true n 8 e)
    by false e = refl

-- ---- a number in eight bytes

eight_part : (bytes : List ℕ) (at : ℕ) → ByteEntries bytes → at + 8 ≤ length bytes → to_bytes 8 (from_bytes (take 8 (drop at bytes))) ≡ take 8 (drop at bytes)
eight_part bytes at e h =
    to_from 8 (take 8 (drop at bytes)) (entries_take (λ x. x < 256) (omega arith) 8 (drop at bytes) (entries_drop (λ x. x < 256) at bytes e))
    (length-take-le 8 (drop at bytes) (omega (arith, length-drop at bytes)))

-- ---- in range

pub record InRange (s : LockStream) : Type 0 where
  pub symbols_come : s.source.bits ≡ false
  pub symbols : acquisition.in_range s.source.symbols ≡ true
  pub receiver : lock_in_range s.progress.receiver ≡ true
  pub packets : packets_clear s.progress.receiver ≡ true
  pub skipped : s.progress.skipped < 18446744073709551616
  pub end : s.progress.end < 18446744073709551616

pub ranges : (s : LockStream) → in_range s ≡ true → InRange s
ranges s r =
    let b = after_false s.source.bits (pick (acquisition.in_range s.source.symbols) (pick (lock_in_range s.progress.receiver) (pick (packets_clear s.progress.receiver) (pick (fits s.progress.skipped) (fits s.progress.end) false) false) false) false) r in
    let a = both_true (acquisition.in_range s.source.symbols) (pick (lock_in_range s.progress.receiver) (pick (packets_clear s.progress.receiver) (pick (fits s.progress.skipped) (fits s.progress.end) false) false) false) b.1 in
    let l = both_true (lock_in_range s.progress.receiver) (pick (packets_clear s.progress.receiver) (pick (fits s.progress.skipped) (fits s.progress.end) false) false) a.1 in
    let p = both_true (packets_clear s.progress.receiver) (pick (fits s.progress.skipped) (fits s.progress.end) false) l.1 in
    let n = both_true (fits s.progress.skipped) (fits s.progress.end) p.1 in
    record {
      symbols_come = b.0;
      symbols = a.0;
      receiver = l.0;
      packets = p.0;
      skipped = ltb-true s.progress.skipped 18446744073709551616 n.0;
      end = ltb-true s.progress.end 18446744073709551616 n.1;
    }
  where
    after_false : (a b : Bool) → pick a false b ≡ true → (a ≡ false) × (b ≡ true)
    after_false true b e = false_true e
    after_false false b e = (refl, e)

-- the counts of an acquisition in range fit eight bytes

pub reads : Reads layout state_length in_range state_of
unfolding state_of
reads = record {
  joined = layout_contiguous;
  fields = λ bytes n e.
      let s = get_or bytes 13804 0 in
      let byte : flags_byte (code_of (certainty_of (plain_of s))) (low_of s) (high_of s) ≡ s = ap (λ (k : ℕ). flags_byte k (low_of s) (high_of s)) (code_byte (plain_of s)) ∙ flags_byte_lem s (e 13804) in
      All-append (λ (f : Field LockStream). f.held (state_of bytes) ≡ part f bytes) (fields_within (λ s. s.progress.receiver.receiver) receiver.layout) (fields_within (λ s. s.source.symbols) acquisition.layout ++ own)
      (held_in (λ (s : LockStream). s.progress.receiver.receiver) bytes (state_of bytes) receiver.layout ((receiver-states.reads).fields bytes (omega arith) e))
      (All-append (λ (f : Field LockStream). f.held (state_of bytes) ≡ part f bytes) (fields_within (λ s. s.source.symbols) acquisition.layout) own
      (held_in (λ (s : LockStream). s.source.symbols) bytes (state_of bytes) acquisition.layout (acquisition-table.fields_read bytes (omega arith) e))
      (eight_part bytes 13788 e (omega arith) & eight_part bytes 13796 e (omega arith) & ap (λ (x : ℕ). x ∷ []) byte ∙ byte_part bytes 13804 (omega arith) & refl & tt));
  again = λ bytes s r p.
      let g = ranges s r in
      let a = all_split (λ (f : Field LockStream). part f bytes ≡ f.held s) (fields_within (λ s. s.progress.receiver.receiver) receiver.layout) (fields_within (λ s. s.source.symbols) acquisition.layout ++ own) p in
      let b = all_split (λ (f : Field LockStream). part f bytes ≡ f.held s) (fields_within (λ s. s.source.symbols) acquisition.layout) own a.1 in
      let blocks = (receiver-states.reads).again bytes s.progress.receiver.receiver (lock_range s.progress.receiver g.receiver).receiver (found_in (λ (s : LockStream). s.progress.receiver.receiver) bytes s receiver.layout a.0) in
      let c = counts_fit s.source.symbols g.symbols in
      let symbols = acquisition-table.read_again bytes s.source.symbols c.came c.first c.used (found_in (λ (s : LockStream). s.source.symbols) bytes s acquisition.layout b.0) in
      let q = b.1 in
      let skipped = ap from_bytes q.0 ∙ from_to_eight s.progress.skipped g.skipped in
      let end = ap from_bytes q.1.0 ∙ from_to_eight s.progress.end g.end in
      let k = code_of s.progress.receiver.certainty in
      let byte = part_byte bytes 13804 (flags_byte k s.progress.found s.progress.locked) q.1.1.0 in
      let certain = ap certainty_of (ap plain_of byte ∙ flags_plain k s.progress.found s.progress.locked) ∙ code_again s.progress.receiver.certainty (few_waiting s.progress.receiver g.receiver) in
      let found = ap low_of byte ∙ flags_low k s.progress.found s.progress.locked in
      let locked = ap high_of byte ∙ flags_high k s.progress.found s.progress.locked in
      let come = sym g.symbols_come in
      let packets = q.1.1.1.0 in
      λ i. record {
        source = record { bits = come i; symbols = symbols i };
        progress = record { found = found i; locked = locked i; receiver = record { receiver = blocks i; certainty = certain i; packets = packets i }; skipped = skipped i; end = end i };
      };
}

-- ---- a lock that is written

-- its fields put one after the other
pub all_put : (blocks symbols skipped end certain packets b₀ b₁ b₂ b₃ b₄ b₅ b₆ : List ℕ) → length blocks ≡ 2322 → length symbols ≡ 11466 → length skipped ≡ 8 → length end ≡ 8
    → length certain ≡ 1 → length packets ≡ 1316 → length b₀ ≡ 15121 → b₁ ≡ placed b₀ 0 blocks → b₂ ≡ placed b₁ 2322 symbols → b₃ ≡ placed b₂ 13788 skipped
    → b₄ ≡ placed b₃ 13796 end → b₅ ≡ placed b₄ 13804 certain → b₆ ≡ placed b₅ 13805 packets → b₆ ≡ blocks ++ symbols ++ skipped ++ end ++ certain ++ packets
all_put b s k n c p b₀ b₁ b₂ b₃ b₄ b₅ b₆ lb ls lk ln lc lp m e₁ e₂ e₃ e₄ e₅ e₆ =
    let f₁ = next [] b b₀ b₀ b₁ 0 2322 refl (omega arith) refl e₁ in
    let f₂ = next b s b₀ b₁ b₂ 2322 13788 lb (omega arith) f₁ e₂ in
    let l₂ : length (b ++ s) ≡ 13788 = length-append b s ∙ omega arith in
    let f₃ = next (b ++ s) k b₀ b₂ b₃ 13788 13796 l₂ (omega arith) f₂ e₃ in
    let l₃ : length (b ++ s ++ k) ≡ 13796 = length-append (b ++ s) k ∙ omega arith in
    let f₄ = next (b ++ s ++ k) n b₀ b₃ b₄ 13796 13804 l₃ (omega arith) f₃ e₄ in
    let l₄ : length (b ++ s ++ k ++ n) ≡ 13804 = length-append (b ++ s ++ k) n ∙ omega arith in
    let f₅ = next (b ++ s ++ k ++ n) c b₀ b₄ b₅ 13804 13805 l₄ (omega arith) f₄ e₅ in
    let l₅ : length (b ++ s ++ k ++ n ++ c) ≡ 13805 = length-append (b ++ s ++ k ++ n) c ∙ omega arith in
    last (b ++ s ++ k ++ n ++ c) p b₀ b₅ b₆ 13805 l₅ (omega arith) f₅ e₆

-- the last four
last_four : (t : LockStream) → fields_of own t ≡ to_bytes 8 t.progress.skipped ++ (to_bytes 8 t.progress.end ++ ((flags_byte (code_of t.progress.receiver.certainty) t.progress.found t.progress.locked ∷ []) ++ t.progress.receiver.packets))
unfolding fields_of
last_four t =
    ap (λ (l : List ℕ). to_bytes 8 t.progress.skipped ++ (to_bytes 8 t.progress.end ++ ((flags_byte (code_of t.progress.receiver.certainty) t.progress.found t.progress.locked ∷ []) ++ l)))
    (append-nil t.progress.receiver.packets)

-- its fields as they are put
pub fields_put : (s : LockStream) (blocks symbols packets bytes : List ℕ) (c : ℕ) → blocks ≡ receiver.state_bytes s.progress.receiver.receiver
    → symbols ≡ acquisition.field_bytes (acquisition.cleared s.source.symbols) → c ≡ flags_byte (code_of s.progress.receiver.certainty) s.progress.found s.progress.locked
    → packets ≡ padded 1316 (take (188 * waiting_of s.progress.receiver.certainty) s.progress.receiver.packets)
    → bytes ≡ blocks ++ symbols ++ to_bytes 8 s.progress.skipped ++ to_bytes 8 s.progress.end ++ (c ∷ []) ++ packets → bytes ≡ state_bytes (cleared s)
fields_put s blocks symbols packets bytes c e f g h w =
    let t = cleared s in
    let k = to_bytes 8 s.progress.skipped in
    let n = to_bytes 8 s.progress.end in
    let one = flags_byte (code_of s.progress.receiver.certainty) s.progress.found s.progress.locked in
    let p = padded 1316 (take (188 * waiting_of s.progress.receiver.certainty) s.progress.receiver.packets) in
    let rb = receiver.state_bytes s.progress.receiver.receiver in
    let ab = acquisition.field_bytes (acquisition.cleared s.source.symbols) in
    w
    ∙ ap₂ (λ (x y : List ℕ). x ++ y ++ k ++ n ++ (c ∷ []) ++ packets) e f
    ∙ ap₂ (λ (x : ℕ) (y : List ℕ). rb ++ ab ++ k ++ n ++ (x ∷ []) ++ y) g h
    ∙ rest rb ab k n (one ∷ []) p
    ∙ sym (fields_in (λ (s : LockStream). s.progress.receiver.receiver) receiver.layout (fields_within (λ s. s.source.symbols) acquisition.layout ++ own) t
    ∙ ap (λ (l : List ℕ). rb ++ l) (fields_in (λ (s : LockStream). s.source.symbols) acquisition.layout own t ∙ ap (λ (l : List ℕ). ab ++ l) (last_four t)))
  where
    rest : (a b c d e f : List ℕ) → a ++ b ++ c ++ d ++ e ++ f ≡ a ++ (b ++ (c ++ (d ++ (e ++ f))))
    rest a b c d e f = simp append_assoc
