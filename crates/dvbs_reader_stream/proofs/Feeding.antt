-- A call of the stream reader on the state that is read, and its bytes after it, are what a call on the bytes promises.
-- Assumes nothing.
use mathlib.Core.Path.{◌≡◌, refl, sym, ap, subst, ◌∙◌}
use Rattle.std.proofs.Common.{◌⊎◌, inl, inr}
use mathlib.Core.Bool.{Bool, true, false}
use mathlib.Core.List.{List}
use Prim.Native.Nat.{ℕ, ◌+◌, ◌*◌, ◌≤◌, ◌<◌}
use native.Mathlib.Omega.{arith}
use borrow.Author.Tests.{ltb-true, ltb-false}
use lib.Dec.{ltb, leb, leb→le}
use lib.Ieee.{Float}
use lib.ListN.{length, set}
use Rattle.common.specs.Choice.{pick}
use Rattle.common.specs.Lists.{All, ByteEntries, largest}
use Rattle.common.proofs.Computed.{below_at}
use Rattle.common.proofs.Largest.{largest_least}
use Rattle.common.proofs.Lists.{All-of}
use Rattle.state_bytes.specs.Calls.{CallsOn, wrong_length, no_state, as_own}
use Rattle.state_bytes.proofs.States.{stands_read, none_stands}
use Rattle.puncturing.specs.Mode.{mode_of, qpsk_count}
use Rattle.reader.specs.Read.{symbols_per_pattern, valid, sound}
use Rattle.reader.proofs.SoftDecisions.{OneLength, sound_lists}
use Rattle.reader_stream.specs.Stream.{ReaderReady, FeedsReader, FinishesReader}
use Rattle.reader_stream.specs.declared.ReaderStream.{ReaderStream}
use Rattle.reader_stream.specs.declared.Finished.{Finished}
use Rattle.dvbs_reader_stream.specs.State.{layout, state_length, state_bytes, in_range, StandsFor, cleared}
use Rattle.dvbs_reader_stream.specs.Reading.{state_of}
use Rattle.dvbs_reader_stream.specs.Calls.{room_for, symbols_due, points_due, end_due, FeedsPairs, refused, fed, refused_end, ended, EndsState}
use Rattle.dvbs_reader_stream.proofs.States.{reads, stands_ready, feeds_cleared, stands_cleared}

-- ---- the tests before the work

passed : (a b : Bool) (n : ℕ) → 0 < n → pick a (pick b 4 0) n ≡ 0 → (a ≡ true) × (b ≡ false)
passed true true n h e = absurd (omega arith)
passed true false n h e = (refl, refl)
passed false b n h e = absurd (omega arith)

-- symbols that are not refused
pub symbols_pass : (symbols : List ℕ) (room : ℕ) → symbols_due symbols room ≡ 0 → All (λ s. s < 4) symbols × (length symbols + 1632 ≤ 4 * room)
symbols_pass symbols room e =
    let p = passed (valid symbols) (ltb room (room_for (length symbols))) 14 (omega arith) e in
    let v = ltb-true (largest symbols) 4 p.0 in
    let r = ltb-false room (room_for (length symbols)) p.1 in
    (All-of (λ s. s < 4) symbols 0 (λ i h. omega (arith, largest_least symbols i, v)), omega (arith, r))

-- points that are not refused
pub points_pass : (is qs : List Float) (lost : List ℕ) (room : ℕ) → points_due is qs lost room ≡ 0 → OneLength is qs lost × (length is + 1632 ≤ 4 * room)
points_pass is qs lost room e =
    let p = passed (sound is qs lost) (ltb room (room_for (length is))) 24 (omega arith) e in
    let r = ltb-false room (room_for (length is)) p.1 in
    (sound_lists is qs lost p.0, omega (arith, r))

-- an end that is not refused
pub end_pass : (room left : ℕ) → end_due room left ≡ 0 → (204 ≤ room) × (2 ≤ left)
end_pass room left e = by (ltb room 204) (ltb left 2) refl refl e
  where
    by : (a b : Bool) → ltb room 204 ≡ a → ltb left 2 ≡ b → ◌≡◌ {A = ℕ} (pick a 4 (pick b 4 0)) 0 → (204 ≤ room) × (2 ≤ left)
    by true b p q e = absurd (omega arith)
    by false true p q e = absurd (omega arith)
    by false false p q e = (ltb-false room 204 p, ltb-false left 2 q)

-- the symbols in no pattern are few
pub few_symbols : (rate : ℕ) → rate < qpsk_count → symbols_per_pattern rate ≤ 4
unfolding symbols_per_pattern mode_of
few_symbols rate h = leb→le _ _ (below_at (λ r. leb (symbols_per_pattern r) 4) qpsk_count tt rate h)

-- ---- the calls

module _ (state answer : List ℕ) (one : 1 ≤ length answer) where
  -- bytes that stand for no reader
  pub none_reads : {Nothing : Type 0} {Own : ReaderStream → ℕ → ReaderStream → Type 0} (number : ℕ)
      → ((number ≡ 22) × (length state ≡ state_length → ⊥)) ⊎ ((number ≡ 5) × (length state ≡ state_length) × (in_range (state_of state) ≡ false)) → Nothing
      → CallsOn layout state_length in_range Nothing Own state answer state (set answer 0 number)
  none_reads number (inl (e, f)) nothing = wrong_length one f nothing refl (ap (set answer 0) e)
  none_reads number (inr (e, n, f)) nothing = no_state one n (none_stands reads state f) nothing refl (ap (set answer 0) e)

module _ (state : List ℕ) (n : length state ≡ state_length) (e : ByteEntries state) (k : in_range (state_of state) ≡ true) where
  stands : StandsFor state (state_of state)
  stands = stands_read reads state n e k

  pub read_ready : ReaderReady (state_of state)
  read_ready = stands_ready state (state_of state) stands

  module _ (answer : List ℕ) (one : 1 ≤ length answer) where
    -- where it is refused, the bytes of the state are left alone
    pub refused_pairs : (due : ℕ) (pairs output : List ℕ) (number : ℕ) (told : List ℕ) → number ≡ due → 0 < number → told ≡ set answer 0 number
        → CallsOn layout state_length in_range ((◌≡◌ {A = ℕ} 0 0) × (output ≡ output)) (λ s number next. FeedsPairs due s pairs output number 0 next output) state answer state told
    refused_pairs due pairs output number told d f q = as_own one (state_of state) stands number (state_of state) (refused d f refl refl refl) q stands.written stands

    -- and else those of the reader after it are written
    pub fed_pairs : (due : ℕ) (pairs output : List ℕ) (number : ℕ) (count : ℕ) (next : ReaderStream) (exit after told : List ℕ) → number ≡ due → number ≡ 0
        → FeedsReader (state_of state) pairs output next count exit → told ≡ set answer 0 number → after ≡ state_bytes (cleared next)
        → CallsOn layout state_length in_range ((count ≡ 0) × (exit ≡ output)) (λ s number next. FeedsPairs due s pairs output number count next exit) state answer after told
    fed_pairs due pairs output number count next exit after told d z f q w =
        as_own one (state_of state) stands number (cleared next) (fed (sym d ∙ z) z (feeds_cleared f)) q w
        (subst (λ (bytes : List ℕ). StandsFor bytes (cleared next)) (sym w) (stands_cleared next f.ready))

    -- the end leaves them alone
    pub refused_ends : (output left : List ℕ) (number : ℕ) (told : List ℕ) → number ≡ end_due (length output) (length left) → 0 < number → told ≡ set answer 0 number
        → EndsState state output left answer 0 output left told
    refused_ends output left number told d f q =
        as_own one (state_of state) stands number (state_of state) (refl, refused_end d f refl refl refl) q stands.written stands

    pub ends : (output left : List ℕ) (number : ℕ) (f : Finished) (exit behind told : List ℕ) → number ≡ end_due (length output) (length left) → number ≡ 0
        → FinishesReader (state_of state) output f exit → behind ≡ set (set left 0 f.rest) 1 f.bits → told ≡ set answer 0 number
        → EndsState state output left answer f.count exit behind told
    ends output left number f exit behind told d z g b q =
        as_own one (state_of state) stands number (state_of state) (refl, ended (sym d ∙ z) z f g refl b) q stands.written stands
