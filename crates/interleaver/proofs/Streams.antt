-- Laws of the interleaved stream: where a byte goes, and that both sides together delay every byte by eleven blocks.
-- Assumes nothing.
use mathlib.Core.Path.{◌≡◌, ap, sym, ◌∙◌}
use mathlib.Core.List.{List, [], ◌++◌}
use Prim.Native.Nat.{ℕ, ◌+◌, ◌-◌, ◌%◌, ◌≤◌, ◌<◌}
use native.Mathlib.Decide.{dec_lt}
use native.Mathlib.Omega.{arith}
use borrow.Author.Tests.{lt-ltb, le-ltb}
use lib.ListN.{length, get_or, take, replicate, length-append, length-replicate, get_or-replicate, get_or-append}
use lib.Seq.{get_or-append-add, get_or-take, ext_get_or, length-take-le}
use Rattle.common.specs.Lists.{All, Length, ByteEntries, list_of}
use Rattle.common.proofs.Lists.{length_list_of, get_d_list_of, All-at, all_list_of}
use Rattle.common.proofs.Entries.{entries_list_of}
use Rattle.interleaver.specs.Branch.{delay_of}
use Rattle.interleaver.specs.Block.{fresh}
use Rattle.interleaver.specs.declared.branches.Side.{Side}
use Rattle.interleaver.specs.declared.branches.Side.TheVariants.{Sending, Receiving}
use Rattle.interleaver.specs.Stream.{earlier, delayed_byte, delayed, run, interleaved, deinterleaved, eleven_late}
use Rattle.interleaver.proofs.Whole.{run_delayed}

-- a block of zeros
abbrev zeros : List ℕ
zeros = replicate 204 0

module _ (side : Side) (blocks : List (List ℕ)) where
  pub length_delayed : length (delayed side blocks) ≡ length blocks
  unfolding delayed
  length_delayed = length_list_of (length blocks) (λ b. list_of 204 (delayed_byte side blocks b))

  pub delayed_at : (b n : ℕ) → b < length blocks → n < 204 → get_or (get_or (delayed side blocks) b []) n 0 ≡ earlier blocks (delay_of side (n % 12)) b n
  unfolding delayed delayed_byte
  delayed_at b n h l =
      ap (λ (x : List ℕ). get_or x n 0) (get_d_list_of (length blocks) (λ i. list_of 204 (delayed_byte side blocks i)) [] b h)
      ∙ get_d_list_of 204 (delayed_byte side blocks b) 0 n l

  -- byte n of block b leaves in place n of a later block
  pub delayed_later : (b n : ℕ) → n < 204 → b + delay_of side (n % 12) < length blocks
      → get_or (get_or (delayed side blocks) (b + delay_of side (n % 12)) []) n 0 ≡ get_or (get_or blocks b []) n 0
  unfolding earlier
  delayed_later b n l h =
      let d = delay_of side (n % 12) in
      let e : b + d - d ≡ b = omega arith in
      delayed_at (b + d) n h l ∙ rw (le-ltb (b + d) d (omega arith)) (ap (λ (i : ℕ). get_or (get_or blocks i []) n 0) e)

  pub delayed_lengths : All (Length 204) (delayed side blocks)
  unfolding delayed
  delayed_lengths = all_list_of (Length 204) (length blocks) _ (λ b h. length_list_of 204 (delayed_byte side blocks b))

  -- bytes give bytes
  pub delayed_bytes_lem : All ByteEntries blocks → All ByteEntries (delayed side blocks)
  unfolding delayed delayed_byte earlier
  delayed_bytes_lem g =
      all_list_of ByteEntries (length blocks) _
      (λ b h. entries_list_of (λ x. x < 256) (omega arith) 204 (delayed_byte side blocks b) (λ n. one b n h (dec_lt b (delay_of side (n % 12)))))
    where
      one : (b n : ℕ) → b < length blocks → Dec (b < delay_of side (n % 12)) → earlier blocks (delay_of side (n % 12)) b n < 256
      one b n h (yes t) = rw (lt-ltb b (delay_of side (n % 12)) t) (omega arith)
      one b n h (no t) =
          rw (le-ltb b (delay_of side (n % 12)) (omega arith)) (All-at ByteEntries blocks [] (b - delay_of side (n % 12)) g (omega arith) n)

-- ---- both sides

module _ (blocks : List (List ℕ)) where
  sent : List (List ℕ)
  sent = interleaved blocks

  late : List (List ℕ)
  late = replicate 11 zeros ++ blocks

  -- a byte through both sides
  through : (b n : ℕ) → b < length blocks → n < 204 → get_or (get_or (deinterleaved sent) b []) n 0 ≡ earlier blocks 11 b n
  unfolding sent earlier
  through b n h l = delayed_at Receiving sent b n (rw (length_delayed Sending blocks) h) l ∙ by (dec_lt b (11 - n % 12)) (dec_lt b 11)
    where
      by : Dec (b < 11 - n % 12) → Dec (b < 11) → earlier sent (11 - n % 12) b n ≡ earlier blocks 11 b n
      by (yes t) (yes u) = rw (lt-ltb b (11 - n % 12) t, lt-ltb b 11 u)
      by (yes t) (no u) = absurd (omega arith)
      by (no t) (yes u) =
          let c = b - (11 - n % 12) in
          rw (le-ltb b (11 - n % 12) (omega arith), lt-ltb b 11 u)
          (delayed_at Sending blocks c n (omega arith) l ∙ rw (lt-ltb c (n % 12) (omega arith)))
      by (no t) (no u) =
          let c = b - (11 - n % 12) in
          let e : c - n % 12 ≡ b - 11 = omega arith in
          rw (le-ltb b (11 - n % 12) (omega arith), le-ltb b 11 (omega arith))
          (delayed_at Sending blocks c n (omega arith) l
          ∙ rw (le-ltb c (n % 12) (omega arith)) (ap (λ (i : ℕ). get_or (get_or blocks i []) n 0) e))

  late_early : (b : ℕ) → b < 11 → get_or late b [] ≡ zeros
  unfolding late
  late_early b u =
      get_or-append (replicate 11 zeros) blocks [] b (rw (length-replicate 11 zeros) u) ∙ get_or-replicate 11 b zeros [] u

  late_rest : (b : ℕ) → 11 ≤ b → get_or late b [] ≡ get_or blocks (b - 11) []
  unfolding late
  late_rest b u =
      let e : 11 + (b - 11) ≡ b = omega arith in
      ap (λ (i : ℕ). get_or late i []) (sym e) ∙ get_or-append-add (replicate 11 zeros) blocks (b - 11) []

  late_at : (b n : ℕ) → n < 204 → get_or (get_or late b []) n 0 ≡ earlier blocks 11 b n
  unfolding earlier
  late_at b n l = by (dec_lt b 11)
    where
      by : Dec (b < 11) → get_or (get_or late b []) n 0 ≡ earlier blocks 11 b n
      by (yes u) = rw (lt-ltb b 11 u) (ap (λ (x : List ℕ). get_or x n 0) (late_early b u) ∙ get_or-replicate 204 n 0 0 l)
      by (no u) = rw (le-ltb b 11 (omega arith)) (ap (λ (x : List ℕ). get_or x n 0) (late_rest b (omega arith)))

  late_length : All (Length 204) blocks → (b : ℕ) → b < length blocks → length (get_or late b []) ≡ 204
  late_length g b h = by (dec_lt b 11)
    where
      by : Dec (b < 11) → length (get_or late b []) ≡ 204
      by (yes u) = ap length (late_early b u) ∙ length-replicate {A = ℕ} 204 0
      by (no u) = ap length (late_rest b (omega arith)) ∙ All-at (Length 204) blocks [] (b - 11) g (omega arith)

  -- deinterleaving the interleaved stream gives it back, eleven blocks late
  both_sides : All (Length 204) blocks → deinterleaved (interleaved blocks) ≡ eleven_late blocks
  unfolding sent late eleven_late
  both_sides g =
      ext_get_or [] (deinterleaved sent) (take (length blocks) late) (lengths ∙ sym cut)
      (λ b h. block b (rw lengths at h))
    where
      lengths : length (deinterleaved sent) ≡ length blocks
      lengths = length_delayed Receiving sent ∙ length_delayed Sending blocks

      cut : length (take (length blocks) late) ≡ length blocks
      cut = length-take-le (length blocks) late (let e = length-append (replicate 11 zeros) blocks in omega arith)

      size : (b : ℕ) → b < length blocks → length (get_or (deinterleaved sent) b []) ≡ 204
      size b h = All-at (Length 204) (deinterleaved sent) [] b (delayed_lengths Receiving sent) (rw lengths h)

      block : (b : ℕ) → b < length blocks → get_or (deinterleaved sent) b [] ≡ get_or (take (length blocks) late) b []
      block b h =
          ext_get_or 0 (get_or (deinterleaved sent) b []) (get_or late b []) (size b h ∙ sym (late_length g b h))
          (λ n l. let m : n < 204 = rw (size b h) at l in through b n h m ∙ sym (late_at b n m))
          ∙ sym (get_or-take (length blocks) late b [] h)

-- call after call on both sides, each from fresh branches
pub both_runs : (blocks : List (List ℕ)) → All (Length 204) blocks → run Receiving fresh (run Sending fresh blocks) ≡ eleven_late blocks
both_runs blocks g = ap (run Receiving fresh) (run_delayed Sending blocks) ∙ run_delayed Receiving (interleaved blocks) ∙ both_sides blocks g
