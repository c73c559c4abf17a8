-- The block that a fresh deinterleaver gives at its call p + 12 is made of 204 of the bytes received, and which those are.
-- Assumes nothing.
use mathlib.Core.Path.{◌≡◌, ap, sym, ◌∙◌}
use mathlib.Core.List.{List, [], ◌++◌, flatten}
use Prim.Native.Nat.{ℕ, ◌+◌, ◌-◌, ◌*◌, ◌%◌, ◌≤◌, ◌<◌}
use native.Mathlib.Omega.{arith}
use borrow.Author.Tests.{le-ltb}
use lib.ListN.{length, get_or, drop, length-drop, get_or-append}
use lib.Seq.{get_or-drop, ext_get_or}
use Rattle.common.specs.Lists.{All, Length}
use Rattle.common.proofs.Lists.{length_list_of, get_d_list_of, All-at}
use Rattle.interleaver.specs.Block.{fresh}
use Rattle.interleaver.specs.declared.branches.Side.TheVariants.{Sending, Receiving}
use Rattle.interleaver.specs.Stream.{earlier, delayed, run, interleaved}
use Rattle.interleaver.proofs.BlockLists.{flatten_at, All-drop}
use Rattle.interleaver.proofs.Whole.{run_delayed}
use Rattle.interleaver.proofs.Streams.{length_delayed, delayed_at, delayed_later, delayed_lengths}
use Rattle.interleaver.specs.Gathered.{place_in, gathered}

-- ---- the bytes gathered

pub length_gathered : (bytes : List ℕ) (p : ℕ) → length (gathered bytes p) ≡ 204
unfolding gathered
length_gathered bytes p = length_list_of 204 (λ n. get_or bytes (place_in p n) 0)

pub gathered_at : (bytes : List ℕ) (p n : ℕ) → n < 204 → get_or (gathered bytes p) n 0 ≡ get_or bytes (place_in p n) 0
unfolding gathered
gathered_at bytes p n l = get_d_list_of 204 (λ i. get_or bytes (place_in p i) 0) 0 n l

-- a block of 204 bytes each of which is that one
gathers : (bytes : List ℕ) (p : ℕ) (block : List ℕ) → length block ≡ 204 → ((n : ℕ) → n < 204 → get_or block n 0 ≡ get_or bytes (place_in p n) 0)
    → block ≡ gathered bytes p
gathers bytes p block z h =
    ext_get_or 0 block (gathered bytes p) (z ∙ sym (length_gathered bytes p))
    (λ n l. let m : n < 204 = rw z at l in h n m ∙ sym (gathered_at bytes p n m))

-- bytes that agree there give the same block
pub gathered_same : (a b : List ℕ) (p q : ℕ) → ((n : ℕ) → n < 204 → get_or a (place_in p n) 0 ≡ get_or b (place_in q n) 0) → gathered a p ≡ gathered b q
gathered_same a b p q h = gathers b q (gathered a p) (length_gathered a p) (λ n l. gathered_at a p n l ∙ h n l)

-- those that come 2,448 bytes after its first and later do not matter
pub gathered_front : (bytes more : List ℕ) (p : ℕ) → 204 * p + 2448 ≤ length bytes → gathered (bytes ++ more) p ≡ gathered bytes p
gathered_front bytes more p h = gathered_same (bytes ++ more) bytes p p (λ n l. get_or-append bytes more 0 (place_in p n) (omega arith))

-- ---- the block that the receiving side gives

module _ (blocks : List (List ℕ)) (g : All (Length 204) blocks) (p : ℕ) (h : p + 11 < length blocks) where
  delayed_gathered : get_or (delayed Receiving blocks) (p + 11) [] ≡ gathered (flatten blocks) p
  unfolding earlier
  delayed_gathered =
      gathers (flatten blocks) p (get_or (delayed Receiving blocks) (p + 11) [])
      (All-at (Length 204) (delayed Receiving blocks) [] (p + 11) (delayed_lengths Receiving blocks) (rw (length_delayed Receiving blocks) h)) each
    where
      each : (n : ℕ) → n < 204 → get_or (get_or (delayed Receiving blocks) (p + 11) []) n 0 ≡ get_or (flatten blocks) (place_in p n) 0
      each n l =
          let e : p + 11 - (11 - n % 12) ≡ p + n % 12 = omega arith in
          delayed_at Receiving blocks (p + 11) n h l
          ∙ rw (le-ltb (p + 11) (11 - n % 12) (omega arith)) (ap (λ (i : ℕ). get_or (get_or blocks i []) n 0) e)
          ∙ sym (flatten_at blocks g (p + n % 12) n (omega arith) l)

  -- call after call
  pub run_gathered : get_or (run Receiving fresh blocks) (p + 11) [] ≡ gathered (flatten blocks) p
  run_gathered = ap (λ (x : List (List ℕ)). get_or x (p + 11) []) (run_delayed Receiving blocks) ∙ delayed_gathered

-- ---- the block that was sent, in the bytes from block m of the sending side on

module _ (blocks : List (List ℕ)) (m p : ℕ) (h : m + (p + 11) < length blocks) where
  pub sent_gathered : length (get_or blocks (m + p) []) ≡ 204 → get_or blocks (m + p) [] ≡ gathered (flatten (drop m (interleaved blocks))) p
  sent_gathered z = gathers (flatten (drop m (interleaved blocks))) p (get_or blocks (m + p) []) z each
    where
      each : (n : ℕ) → n < 204 → get_or (get_or blocks (m + p) []) n 0 ≡ get_or (flatten (drop m (interleaved blocks))) (place_in p n) 0
      each n l =
          let e : m + p + n % 12 ≡ m + (p + n % 12) = omega arith in
          let k : length (drop m (interleaved blocks)) ≡ length blocks - m = length-drop m (interleaved blocks) ∙ ap (λ (i : ℕ). i - m) (length_delayed Sending blocks) in
          sym (delayed_later Sending blocks (m + p) n l (omega arith))
          ∙ ap (λ (i : ℕ). get_or (get_or (interleaved blocks) i []) n 0) e
          ∙ ap (λ (x : List ℕ). get_or x n 0) (sym (get_or-drop m (interleaved blocks) (p + n % 12) []))
          ∙ sym (flatten_at (drop m (interleaved blocks)) (All-drop (Length 204) m (interleaved blocks) (delayed_lengths Sending blocks)) (p + n % 12) n (omega arith) l)
