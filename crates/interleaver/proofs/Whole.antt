-- Call after call from fresh branches gives the interleaving of the whole stream.
-- Assumes nothing.
use mathlib.Core.Path.{◌≡◌, refl, ap, sym, ◌∙◌}
use mathlib.Core.List.{List, [], ◌∷◌, ◌++◌, append_assoc, append-nil}
use Prim.Native.Nat.{ℕ, zero, suc, ◌+◌, ◌-◌, ◌*◌, ◌%◌, ◌/◌, ◌<◌}
use native.Mathlib.Nat.{not-suc-le-zero, zero-add}
use native.Mathlib.Decide.{dec_lt}
use native.Mathlib.Omega.{arith}
use borrow.Author.Tests.{lt-ltb, le-ltb}
use lib.ListN.{length, get_or, replicate, length-append, length-replicate, get_or-replicate, get_or-append}
use lib.Seq.{get_or-append-add, ext_get_or}
use Rattle.common.specs.Lists.{Entries, list_of}
use Rattle.common.proofs.Entries.{entries_below}
use Rattle.common.proofs.Lists.{length_list_of, get_d_list_of}
use Rattle.interleaver.specs.Branch.{delay_of, size_of, positions_within, queue}
use Rattle.interleaver.specs.Column.{column}
use Rattle.interleaver.specs.Block.{fresh, block_out, branches_after}
use Rattle.interleaver.specs.declared.branches.Side.{Side}
use Rattle.interleaver.specs.declared.branches.Side.TheVariants.{Sending, Receiving}
use Rattle.interleaver.specs.declared.branches.Branches.{Branches}
use Rattle.interleaver.proofs.Columns.{length_column, get_d_column}
use Rattle.interleaver.proofs.Blocks.{Good, length_queue, length_out, good_after, queue_law, entries_queue}
use Rattle.interleaver.specs.Stream.{earlier, delayed_byte, delayed, run, run_after}

-- ---- the bytes of a branch, block after block

abbrev pub columns : ℕ → List (List ℕ) → List ℕ
columns j [] = []
columns j (block ∷ blocks) = column j block ++ columns j blocks

length_columns : (j : ℕ) (blocks : List (List ℕ)) → length (columns j blocks) ≡ 17 * length blocks
length_columns j [] = refl
length_columns j (block ∷ blocks) =
    let n = length_column j block in
    let m = length_columns j blocks in
    length-append (column j block) (columns j blocks) ∙ (omega arith)

columns_at : (j : ℕ) (blocks : List (List ℕ)) (b k : ℕ) → k < 17 → b < length blocks
    → get_or (columns j blocks) (17 * b + k) 0 ≡ get_or (get_or blocks b []) (12 * k + j) 0
columns_at j [] b k h l = absurd (not-suc-le-zero l)
columns_at j (block ∷ blocks) zero k h l =
    ap (λ (i : ℕ). get_or (column j block ++ columns j blocks) i 0) (zero-add k)
    ∙ get_or-append (column j block) (columns j blocks) 0 k (let n = length_column j block in omega arith)
    ∙ get_d_column j block k h
columns_at j (block ∷ blocks) (suc b) k h l =
    let n = length_column j block in
    let e : 17 * suc b + k ≡ length (column j block) + (17 * b + k) = omega arith in
    ap (λ (i : ℕ). get_or (column j block ++ columns j blocks) i 0) e
    ∙ get_or-append-add (column j block) (columns j blocks) (17 * b + k) 0
    ∙ columns_at j blocks b k h (omega arith)

-- the law of the queues over any number of blocks
queue_laws : (side : Side) (s : Branches) (blocks : List (List ℕ)) → Good side s → (j : ℕ) → j < 12
    → queue side s j ++ columns j blocks ≡ columns j (run side s blocks) ++ queue side (run_after side s blocks) j
unfolding run run_after
queue_laws side s [] g j h = append-nil (queue side s j)
queue_laws side s (block ∷ blocks) g j h =
    let next = branches_after side s block in
    let q = queue side s j in
    sym (append_assoc q (column j block) (columns j blocks))
    ∙ ap (λ (l : List ℕ). l ++ columns j blocks) (queue_law side s block g j h)
    ∙ append_assoc (column j (block_out side s block)) (queue side next j) (columns j blocks)
    ∙ ap (λ (l : List ℕ). column j (block_out side s block) ++ l) (queue_laws side next blocks (good_after side s block g) j h)
    ∙ sym (append_assoc (column j (block_out side s block)) (columns j (run side next blocks)) (queue side (run_after side next blocks) j))

pub length_run : (side : Side) (s : Branches) (blocks : List (List ℕ)) → length (run side s blocks) ≡ length blocks
unfolding run
length_run side s [] = refl
length_run side s (block ∷ blocks) = ap suc (length_run side (branches_after side s block) blocks)

length_run_block : (side : Side) (s : Branches) (blocks : List (List ℕ)) (b : ℕ) → b < length blocks → length (get_or (run side s blocks) b []) ≡ 204
unfolding run
length_run_block side s [] b h = absurd (not-suc-le-zero h)
length_run_block side s (block ∷ blocks) zero h = length_out side s block
length_run_block side s (block ∷ blocks) (suc b) h = length_run_block side (branches_after side s block) blocks b (omega arith)

-- ---- fresh branches

pub good_fresh : (side : Side) → Good side fresh
unfolding fresh positions_within
good_fresh Sending = record { cells = refl; positions = refl; range = refl }
good_fresh Receiving = record { cells = refl; positions = refl; range = refl }

-- nothing but zeros is in them
fresh_cells : Entries (λ x. x ≡ 0) fresh.cells
unfolding fresh
fresh_cells = entries_below (λ x. x ≡ 0) refl (replicate 1122 0) (λ i h. get_or-replicate 1122 i 0 0 (rw (length-replicate {A = ℕ} 1122 0) at h))

fresh_queue : (side : Side) (j i : ℕ) → get_or (queue side fresh j) i 0 ≡ 0
fresh_queue side j = entries_queue (λ x. x ≡ 0) refl side fresh fresh_cells j

-- ---- the whole stream

module _ (side : Side) (blocks : List (List ℕ)) (b n : ℕ) (h : b < length blocks) (l : n < 204) where
  out : List (List ℕ)
  out = run side fresh blocks

  j : ℕ
  j = n % 12

  k : ℕ
  k = n / 12

  place : 12 * k + j ≡ n
  unfolding j k
  place = omega arith

  -- byte n of block b is byte 17 b + k of its branch
  from_queue : get_or (get_or out b []) n 0 ≡ get_or (queue side fresh j ++ columns j blocks) (17 * b + k) 0
  unfolding out j k
  from_queue =
      let small : n / 12 < 17 = omega arith in
      let m : length (run side fresh blocks) ≡ length blocks = length_run side fresh blocks in
      let s = length_columns j out in
      sym (columns_at j out b k small (omega arith) ∙ ap (λ (i : ℕ). get_or (get_or out b []) i 0) place)
      ∙ sym (get_or-append (columns j out) (queue side (run_after side fresh blocks) j) 0 (17 * b + k) (omega arith))
      ∙ ap (λ (q : List ℕ). get_or q (17 * b + k) 0) (sym (queue_laws side fresh blocks (good_fresh side) j (omega arith)))

  byte : get_or (get_or out b []) n 0 ≡ earlier blocks (delay_of side j) b n
  unfolding earlier j k
  byte = from_queue ∙ by (dec_lt b (delay_of side j))
    where
      size : length (queue side fresh j) ≡ size_of side j
      size = length_queue side fresh (good_fresh side) [] j (omega arith)

      by : Dec (b < delay_of side j) → get_or (queue side fresh j ++ columns j blocks) (17 * b + k) 0 ≡ earlier blocks (delay_of side j) b n
      by (yes u) =
          let z = size in
          rw (lt-ltb b (delay_of side j) u)
          (get_or-append (queue side fresh j) (columns j blocks) 0 (17 * b + k) (omega arith) ∙ fresh_queue side j (17 * b + k))
      by (no u) =
          let z = size in
          let e : 17 * b + k ≡ length (queue side fresh j) + (17 * (b - delay_of side j) + k) = omega arith in
          rw (le-ltb b (delay_of side j) (omega arith))
          (ap (λ (i : ℕ). get_or (queue side fresh j ++ columns j blocks) i 0) e
          ∙ get_or-append-add (queue side fresh j) (columns j blocks) (17 * (b - delay_of side j) + k) 0
          ∙ columns_at j blocks (b - delay_of side j) k (omega arith) (omega arith)
          ∙ ap (λ (i : ℕ). get_or (get_or blocks (b - delay_of side j) []) i 0) place)

-- as the stream says
byte_is : (side : Side) (blocks : List (List ℕ)) (b n : ℕ) → b < length blocks → n < 204
    → get_or (get_or (run side fresh blocks) b []) n 0 ≡ delayed_byte side blocks b n
unfolding delayed_byte j out
byte_is side blocks b n h l = byte side blocks b n h l

pub run_delayed : (side : Side) (blocks : List (List ℕ)) → run side fresh blocks ≡ delayed side blocks
unfolding delayed
run_delayed side blocks =
    ext_get_or [] (run side fresh blocks) (delayed side blocks) (length_run side fresh blocks ∙ sym (length_list_of (length blocks) _))
    (λ b h. block b (rw (length_run side fresh blocks) at h))
  where
    block : (b : ℕ) → b < length blocks → get_or (run side fresh blocks) b [] ≡ get_or (delayed side blocks) b []
    block b h =
        ext_get_or 0 (get_or (run side fresh blocks) b []) (list_of 204 (delayed_byte side blocks b))
        (length_run_block side fresh blocks b h ∙ sym (length_list_of 204 (delayed_byte side blocks b)))
        (λ n l. let m : n < 204 = rw (length_run_block side fresh blocks b h) at l in
        byte_is side blocks b n h m ∙ sym (get_d_list_of 204 (delayed_byte side blocks b) 0 n m))
        ∙ sym (get_d_list_of (length blocks) (λ i. list_of 204 (delayed_byte side blocks i)) [] b h)
