-- A sender's stream, cut at any bit, straight or inverted: the packets that come of it, from bits to packets.
-- Assumes nothing.
use mathlib.Core.Path.{◌≡◌, refl, sym, ap, ap₂, subst, ◌∙◌}
use mathlib.Core.Bool.{Bool, false}
use mathlib.Core.List.{List, [], ◌∷◌, ◌++◌, append-nil}
use Prim.Native.Nat.{ℕ, zero, suc, ◌+◌, ◌-◌, ◌/◌, ◌≤◌}
use native.Mathlib.Omega.{arith}
use lib.ListN.{length, take, drop, length-take, length-drop, length-map}
use lib.Seq.{take-length}
use Rattle.common.specs.Lists.{All}
use Rattle.randomizer.specs.Stream.{Packet}
use Rattle.group_sync.specs.Stream.{before_group}
use Rattle.sent_blocks.specs.Blocks.{interleaved_blocks}
use Rattle.sent_blocks.proofs.Lengths.{interleaved_count}
use Rattle.block_sync.specs.Grid.{begun, followers, Drained, Unsynced}
use Rattle.block_sync.specs.History.{SyncFeedings}
use Rattle.block_sync.specs.declared.GivenBlock.{GivenBlock}
use Rattle.block_sync.specs.declared.BlockSync.{BlockSync}
use Rattle.sent_sync.specs.Sent.{bits_from}
use Rattle.sent_sync.proofs.Sent.{sent_anywhere, sent_so_far, sent_whole}
use Rattle.lock_receiver.proofs.Histories.{every_lock}
use Rattle.lock_receiver.proofs.Promises.{unbroken_given}
use Rattle.sent_lock.specs.Locks.{followers_of, locks_of, LocksTaken, none, lock}

-- ---- one lock

follow_all : (bs : List (List ℕ)) → followers_of (followers bs) ≡ bs
follow_all [] = refl
follow_all (b ∷ bs) = ap (λ (l : List (List ℕ)). b ∷ l) (follow_all bs)

no_locks : (bs : List (List ℕ)) → locks_of (followers bs) ≡ []
no_locks [] = refl
no_locks (b ∷ bs) = no_locks bs

one_lock : (b : List ℕ) (bs : List (List ℕ)) → locks_of (begun (b ∷ bs)) ≡ (b ∷ bs) ∷ []
one_lock b bs = ap₂ (λ (x : List (List ℕ)) (y : List (List (List ℕ))). (b ∷ x) ∷ y) (follow_all bs) (no_locks bs)

begun_count : (bs : List (List ℕ)) → length (begun bs) ≡ length bs
begun_count [] = refl
begun_count (b ∷ bs) = ap suc (length-map bs (λ b. record { begins = false; bytes = b }))

-- the first n, where there may be fewer
shorter : (n : ℕ) (bs : List (List ℕ)) → take n bs ≡ take (length (take n bs)) bs
shorter zero bs = refl
shorter (suc n) [] = refl
shorter (suc n) (b ∷ bs) = ap (λ (l : List (List ℕ)). b ∷ l) (shorter n bs)

-- ---- the theorems

module _ (packets : List (List ℕ)) (ws : All Packet packets) (b : ℕ) where
  -- what n blocks from block b on give
  abbrev Wanted : ℕ → List (List ℕ) → Type 0
  Wanted n out = out ≡ take (n - 11 - before_group b) (drop (b + before_group b) packets)

  abbrev rest : List (List ℕ)
  rest = drop b (interleaved_blocks packets)

  rest_count : length rest ≡ length packets - b
  rest_count = length-drop b (interleaved_blocks packets) ∙ ap (λ (k : ℕ). k - b) (interleaved_count packets)

  -- one lock of the first of these blocks
  lock_given : (blocks : List (List ℕ)) → blocks ≡ take (length blocks) rest → b ≤ length packets → {out : List (List ℕ)} → LocksTaken (blocks ∷ []) out → Wanted (length blocks) out
  lock_given blocks e h (lock {given = given} t none) =
      append-nil given ∙ (unbroken_given (every_lock t) packets ws b (omega (arith, ap length e, length-take (length blocks) rest, rest_count)) e).0

  some_locks : (blocks : List (List ℕ)) → blocks ≡ take (length blocks) rest → b ≤ length packets → {out : List (List ℕ)} → LocksTaken (locks_of (begun blocks)) out → Wanted (length blocks) out
  some_locks [] e h none = let z : 0 - 11 - before_group b ≡ 0 = omega arith in ap (λ (k : ℕ). take k (drop (b + before_group b) packets)) (sym z)
  some_locks (x ∷ xs) e h {out} t = lock_given (x ∷ xs) e h (subst (λ (l : List (List (List ℕ))). LocksTaken l out) (one_lock x xs) t)

  -- Six blocks or more from block b on, straight or inverted, behind any bits in which no place passes for a sync, in any pieces, and then the end: one lock,
  -- which gives every packet from the first start of a group on but those of the last eleven blocks.
  pub packets_anywhere : (i : Bool) (p : List ℕ) {given last : List GivenBlock} {skipped sk : ℕ} {s t : BlockSync} {out : List (List ℕ)} → b + 6 ≤ length packets
      → Unsynced p (bits_from i b packets) → SyncFeedings (p ++ bits_from i b packets) given skipped s → Drained s last sk t → LocksTaken (locks_of (given ++ last)) out
      → Wanted (length packets - b) out
  packets_anywhere i p {out = out} h u f d l =
      let r = sent_anywhere packets ws b i p h u f d in
      subst (λ (n : ℕ). Wanted n out) rest_count
      (some_locks rest (sym (take-length rest)) (omega arith) (subst (λ (x : List GivenBlock). LocksTaken (locks_of x) out) r.blocks l))

  -- the packets of the first of these blocks
  first_packets : (n : ℕ) {given : List GivenBlock} {out : List (List ℕ)} → given ≡ begun (take n rest) → b ≤ length packets → LocksTaken (locks_of given) out → Wanted (length given) out
  first_packets n {given} {out} e h l =
      let blocks : List (List ℕ) = take n rest in
      let k : length blocks ≡ length given = sym (begun_count blocks) ∙ ap length (sym e) in
      let m : take n rest ≡ take (length blocks) rest = shorter n rest in
      subst (λ (k : ℕ). Wanted k out) k (some_locks blocks m h (subst (λ (x : List GivenBlock). LocksTaken (locks_of x) out) e l))

  -- And before the end, where only some of these bits came: the packets of the blocks that were given so far, but those of the last eleven.
  pub packets_so_far : (i : Bool) (p : List ℕ) {bits : List ℕ} (more : List ℕ) {given : List GivenBlock} {skipped : ℕ} {s : BlockSync} {out : List (List ℕ)} → b + 6 ≤ length packets
      → Unsynced p (bits_from i b packets) → bits ++ more ≡ p ++ bits_from i b packets → SyncFeedings bits given skipped s → LocksTaken (locks_of given) out → Wanted (length given) out
  packets_so_far i p more {given} h u e f l = first_packets (length given) (sent_so_far packets ws b i p more h u e f).blocks (omega arith) l

  -- And with the end there, where six of these blocks came whole.
  pub packets_whole : (i : Bool) (p : List ℕ) {bits : List ℕ} (more : List ℕ) {given last : List GivenBlock} {skipped sk : ℕ} {s t : BlockSync} {out : List (List ℕ)} → b ≤ length packets
      → length p + 9792 ≤ length bits → Unsynced p (bits_from i b packets) → bits ++ more ≡ p ++ bits_from i b packets → SyncFeedings bits given skipped s → Drained s last sk t
      → LocksTaken (locks_of (given ++ last)) out → Wanted (length (given ++ last)) out
  packets_whole i p {bits} more h six u e f d l = first_packets ((length bits - length p) / 1632) (sent_whole packets ws b i p more six u e f d).blocks h l
