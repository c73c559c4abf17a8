-- The bytes of a state and the reader that is read of them, by the laws of any table (state_bytes/proofs/States.antt); that a reader with zeros where it holds
-- nothing is the same reader, and that its bytes stand for it.
-- Assumes nothing.
use mathlib.Core.Path.{◌≡◌, refl, sym, ap, ap₂, subst, ◌∙◌}
use mathlib.Core.Bool.{true, false}
use mathlib.Core.List.{List, [], ◌∷◌, ◌++◌}
use Prim.Native.Nat.{ℕ, zero, suc, ◌/◌, ◌%◌, ◌<◌}
use Prim.{tt}
use native.Mathlib.Nat.{mod-lt}
use native.Mathlib.Omega.{arith}
use borrow.Author.Tests.{lt-ltb, ltb-true}
use lib.Dec.{ltb}
use lib.ListN.{length}
use Rattle.common.specs.Choice.{pick}
use Rattle.common.specs.Lists.{padded, placed}
use Rattle.common.proofs.Choice.{both_true}
use Rattle.convolutional_code.specs.Bits.{bits_of}
use Rattle.bit_packing.specs.Packing.{carried_bits}
use Rattle.state_bytes.specs.Table.{contiguous, fields_of}
use Rattle.state_bytes.proofs.Copies.{next, last, byte_part, part_byte}
use Rattle.state_bytes.proofs.Fields.{◌&◌}
use Rattle.state_bytes.proofs.States.{Reads}
use Rattle.puncturing.specs.Mode.{qpsk_count}
use Rattle.reader_stream.specs.Runs.{held_of, DecidedPairs}
use Rattle.reader_stream.specs.Stream.{held_pairs, held_bits, ReaderReady, FreshReader, FeedsReader}
use Rattle.reader_stream.specs.declared.ReaderStream.{ReaderStream}
use Rattle.reader_stream.proofs.Runs.{numbers, held_length}
use Rattle.reader_state.specs.Runs.{runs_in_range}
use Rattle.reader_state.proofs.Cleared as runs
use Rattle.reader_state.proofs.Cleared.{runs_ready, cleared_held, cleared_in_range}
use Rattle.reader_state.proofs.Numbers.{two_part, part_two}
use Rattle.dvbs_reader_stream.specs.State.{layout, state_length, state_bytes, power_of, in_range, StandsFor, cleared, fresh_reader}
use Rattle.dvbs_reader_stream.specs.Reading.{state_of}

pub layout_contiguous : contiguous 0 layout state_length ≡ true
layout_contiguous = refl

pub reads : Reads layout state_length in_range state_of
unfolding state_of
reads = record {
  joined = layout_contiguous;
  fields = λ bytes n e.
      refl
      & two_part bytes 1632 (omega arith) (e 1632)
      & byte_part bytes 1634 (omega arith)
      & byte_part bytes 1635 (omega arith)
      & byte_part bytes 1636 (omega arith)
      & byte_part bytes 1637 (omega arith)
      & tt;
  again = λ bytes s r p.
      let few = part_two bytes 1632 s.runs.count p.1.0 in
      let rate = part_byte bytes 1634 s.runs.rate p.1.1.0 in
      let memory = part_byte bytes 1635 s.runs.memory p.1.1.1.0 in
      let carry = part_byte bytes 1636 s.carry p.1.1.1.1.0 in
      let held = part_byte bytes 1637 s.held p.1.1.1.1.1.0 in
      λ j. record { runs = record { rate = rate j; memory = memory j; held = p.0 j; count = few j }; carry = carry j; held = held j };
}

-- ---- bytes that stand for a reader stand for one that is ready

module _ (bytes : List ℕ) (s : ReaderStream) (h : StandsFor bytes s) where
  pub stands_ready : ReaderReady s
  stands_ready =
      let both = both_true (runs_in_range s.runs) (pick (ltb s.held 8) (ltb s.carry (power_of s.held)) false) h.range in
      record {
        runs_ready = (runs_ready s.runs h.sized.0 both.0).0;
        few = ltb-true s.held 8 (both_true (ltb s.held 8) (ltb s.carry (power_of s.held)) both.1).0;
      }

-- ---- zeros where nothing is held

pub some_power : (n : ℕ) → n < 8 → 0 < power_of n
unfolding power_of
some_power zero h = omega arith
some_power (suc zero) h = omega arith
some_power (suc (suc zero)) h = omega arith
some_power (suc (suc (suc zero))) h = omega arith
some_power (suc (suc (suc (suc zero)))) h = omega arith
some_power (suc (suc (suc (suc (suc zero))))) h = omega arith
some_power (suc (suc (suc (suc (suc (suc zero)))))) h = omega arith
some_power (suc (suc (suc (suc (suc (suc (suc zero))))))) h = omega arith
some_power (suc (suc (suc (suc (suc (suc (suc (suc n)))))))) h = absurd (omega arith)

-- the bits that are carried are those below the zeros
carried_cleared : (c n : ℕ) → n < 8 → carried_bits (c % power_of n) n ≡ carried_bits c n
unfolding carried_bits bits_of power_of
carried_cleared c zero h = refl
carried_cleared c (suc zero) h = rw (at0)
  where
    at0 : c % 2 % 2 ≡ c % 2
    at0 = omega arith
carried_cleared c (suc (suc zero)) h = rw (at1, at0)
  where
    at1 : c % 4 / 2 % 2 ≡ c / 2 % 2
    at1 = omega arith

    at0 : c % 4 % 2 ≡ c % 2
    at0 = omega arith
carried_cleared c (suc (suc (suc zero))) h = rw (at2, at1, at0)
  where
    at2 : c % 8 / 4 % 2 ≡ c / 4 % 2
    at2 = omega arith

    at1 : c % 8 / 2 % 2 ≡ c / 2 % 2
    at1 = omega arith

    at0 : c % 8 % 2 ≡ c % 2
    at0 = omega arith
carried_cleared c (suc (suc (suc (suc zero)))) h = rw (at3, at2, at1, at0)
  where
    at3 : c % 16 / 8 % 2 ≡ c / 8 % 2
    at3 = omega arith

    at2 : c % 16 / 4 % 2 ≡ c / 4 % 2
    at2 = omega arith

    at1 : c % 16 / 2 % 2 ≡ c / 2 % 2
    at1 = omega arith

    at0 : c % 16 % 2 ≡ c % 2
    at0 = omega arith
carried_cleared c (suc (suc (suc (suc (suc zero))))) h = rw (at4, at3, at2, at1, at0)
  where
    at4 : c % 32 / 16 % 2 ≡ c / 16 % 2
    at4 = omega arith

    at3 : c % 32 / 8 % 2 ≡ c / 8 % 2
    at3 = omega arith

    at2 : c % 32 / 4 % 2 ≡ c / 4 % 2
    at2 = omega arith

    at1 : c % 32 / 2 % 2 ≡ c / 2 % 2
    at1 = omega arith

    at0 : c % 32 % 2 ≡ c % 2
    at0 = omega arith
carried_cleared c (suc (suc (suc (suc (suc (suc zero)))))) h = rw (at5, at4, at3, at2, at1, at0)
  where
    at5 : c % 64 / 32 % 2 ≡ c / 32 % 2
    at5 = omega arith

    at4 : c % 64 / 16 % 2 ≡ c / 16 % 2
    at4 = omega arith

    at3 : c % 64 / 8 % 2 ≡ c / 8 % 2
    at3 = omega arith

    at2 : c % 64 / 4 % 2 ≡ c / 4 % 2
    at2 = omega arith

    at1 : c % 64 / 2 % 2 ≡ c / 2 % 2
    at1 = omega arith

    at0 : c % 64 % 2 ≡ c % 2
    at0 = omega arith
carried_cleared c (suc (suc (suc (suc (suc (suc (suc zero))))))) h = rw (at6, at5, at4, at3, at2, at1, at0)
  where
    at6 : c % 128 / 64 % 2 ≡ c / 64 % 2
    at6 = omega arith

    at5 : c % 128 / 32 % 2 ≡ c / 32 % 2
    at5 = omega arith

    at4 : c % 128 / 16 % 2 ≡ c / 16 % 2
    at4 = omega arith

    at3 : c % 128 / 8 % 2 ≡ c / 8 % 2
    at3 = omega arith

    at2 : c % 128 / 4 % 2 ≡ c / 4 % 2
    at2 = omega arith

    at1 : c % 128 / 2 % 2 ≡ c / 2 % 2
    at1 = omega arith

    at0 : c % 128 % 2 ≡ c % 2
    at0 = omega arith
carried_cleared c (suc (suc (suc (suc (suc (suc (suc (suc n)))))))) h = absurd (omega arith)

-- a reader with zeros where it holds nothing
module _ (s : ReaderStream) (g : ReaderReady s) where
  -- holds the same bits
  pub same_bits : held_bits (cleared s) ≡ held_bits s
  same_bits = carried_cleared s.carry s.held g.few

  pub cleared_ready : ReaderReady (cleared s)
  cleared_ready = record { runs_ready = runs.cleared_ready s.runs g.runs_ready; few = g.few }

  -- its bytes stand for it
  pub stands_cleared : StandsFor (state_bytes (cleared s)) (cleared s)
  stands_cleared = record {
    written = refl;
    sized = (runs.cleared_ready s.runs g.runs_ready).size & refl & refl & refl & refl & refl & tt;
    range =
        simp (
          cleared_in_range s.runs g.runs_ready,
          lt-ltb _ _ g.few,
          lt-ltb _ _ (mod-lt s.carry (some_power s.held g.few)),
        );
  }

-- the stream reader's own call leaves it too
pub feeds_cleared : {s next : ReaderStream} {pairs output exit : List ℕ} {count : ℕ} → FeedsReader s pairs output next count exit → FeedsReader s pairs output (cleared next) count exit
feeds_cleared {s} {next} {pairs} f = record {
  ready = cleared_ready next f.ready;
  rate_is = f.rate_is;
  bits = f.bits;
  decided = subst (λ (l : List ℕ). DecidedPairs s.runs.rate s.runs.memory (held_pairs s ++ pairs) f.bits next.runs.memory l) (sym (cleared_held next.runs f.ready.runs_ready)) f.decided;
  packed = record { counted = f.packed.counted; written = f.packed.written; few = f.packed.few; carries = same_bits next f.ready ∙ f.packed.carries };
}

-- ---- a fresh reader

no_remainder : (c : ℕ) → c % 1 ≡ 0
no_remainder c = omega arith

-- every fresh stream reader is this one, with zeros where it holds nothing
pub fresh_cleared : (rate : ℕ) (s : ReaderStream) → FreshReader rate s → cleared s ≡ fresh_reader rate
unfolding fresh_reader power_of
fresh_cleared rate s f =
    let none : s.runs.count ≡ 0 = omega (arith, held_length s.runs f.ready.runs_ready, ap length f.empty.held_is) in
    let carry : s.carry % power_of s.held ≡ 0 = ap (λ (n : ℕ). s.carry % power_of n) f.none_held ∙ no_remainder s.carry in
    let held = f.empty.held_is in
    let rate_is = f.empty.rate_is in
    let memory = f.empty.memory_is in
    let bits = f.none_held in
    λ j. record { runs = record { rate = rate_is j; memory = memory j; held = padded 1632 (held j); count = none j }; carry = carry j; held = bits j }

-- and it is fresh
pub fresh_reader_lem : (rate : ℕ) → rate < qpsk_count → FreshReader rate (fresh_reader rate)
unfolding fresh_reader
fresh_reader_lem rate h =
    let n = numbers rate h in
    record {
      ready = record { runs_ready = record { known = h; in_range_lem = omega arith; size = refl; below = omega (arith, n.kept_some, n.kept_fewer); small = tt }; few = omega arith };
      empty = record { rate_is = refl; memory_is = refl; held_is = refl };
      none_held = refl;
    }

pub stands_fresh : (rate : ℕ) → rate < qpsk_count → StandsFor (state_bytes (fresh_reader rate)) (fresh_reader rate)
stands_fresh rate h =
    let f = fresh_reader_lem rate h in
    subst (λ (s : ReaderStream). StandsFor (state_bytes s) s) (fresh_cleared rate (fresh_reader rate) f) (stands_cleared (fresh_reader rate) f.ready)

-- ---- a reader that is written

-- its fields put one after the other
pub all_put : (pairs numbers b₀ b₁ b₂ : List ℕ) → length pairs ≡ 1632 → length numbers ≡ 6 → length b₀ ≡ 1638
    → b₁ ≡ placed b₀ 0 pairs → b₂ ≡ placed b₁ 1632 numbers → b₂ ≡ pairs ++ numbers
all_put pairs numbers b₀ b₁ b₂ p k n e f =
    let e' = next [] pairs b₀ b₀ b₁ 0 1632 refl (omega arith) refl e in
    last pairs numbers b₀ b₁ b₂ 1632 p (omega arith) e' f

-- what is put are the fields of a reader with zeros where it holds nothing
pub fields_put : (s : ReaderStream) (pairs bytes : List ℕ) (carry : ℕ) → pairs ≡ padded 1632 (held_of s.runs) → carry ≡ s.carry % power_of s.held
    → bytes ≡ pairs ++ (s.runs.count % 256 ∷ s.runs.count / 256 ∷ s.runs.rate ∷ s.runs.memory ∷ carry ∷ s.held ∷ []) → bytes ≡ state_bytes (cleared s)
unfolding fields_of
fields_put s pairs bytes carry e f g =
    g ∙ ap₂ (λ (l : List ℕ) (c : ℕ). l ++ (s.runs.count % 256 ∷ s.runs.count / 256 ∷ s.runs.rate ∷ s.runs.memory ∷ c ∷ s.held ∷ [])) e f
