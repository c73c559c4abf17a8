-- Bits that begin anywhere: bits with no sync in them before blocks whose sync bytes are all in their places. Exactly those bits are skipped.
-- Assumes nothing.
use Rattle.std.specs.Prelude.{Some, None}
use mathlib.Core.Path.{◌≡◌, refl, sym, ◌∙◌, ap, ap₂, subst}
use mathlib.Core.Bool.{Bool, true, false}
use mathlib.Core.List.{List, [], ◌∷◌, ◌++◌, append_assoc}
use Prim.Native.Nat.{ℕ, ◌+◌, ◌-◌, ◌*◌, ◌%◌, ◌≤◌, ◌<◌}
use native.Mathlib.Decide.{dec_lt}
use native.Mathlib.Nat.{add-zero}
use native.Mathlib.Omega.{arith}
use lib.ListN.{length, take, drop, length-append, length-drop}
use lib.Seq.{drop-append_seam, length-take-le, take-take, drop-append-le, drop-append-add, take-append-add}
use Rattle.common.proofs.Choice.{false_true}
use Rattle.sync_search.specs.Sync.{byte_at, is_at, count_at, sync_at, first, nowhere}
use Rattle.block_sync.specs.Decision.{keeps, locked_as, unlocked, Decides, follows, begins, searches, used_bits, block_of}
use Rattle.block_sync.specs.Feed.{holding}
use Rattle.block_sync.specs.History.{SyncFeedings, Part, part_of, part_given, given_of, skipped_of, Aligned, few, turn}
use Rattle.block_sync.specs.declared.GivenBlock.{GivenBlock}
use Rattle.block_sync.specs.Grid.{SyncGrid, grid_blocks, followers, begun, Drained, Unsynced, AnywhereGiven}
use Rattle.block_sync.specs.declared.Lock.{Lock}
use Rattle.block_sync.specs.declared.Decision.{Decision}
use Rattle.block_sync.specs.declared.BlockSync.{BlockSync}
use Rattle.block_sync.proofs.Decisions.{decides_unique}
use Rattle.block_sync.proofs.Parts.{aligned_few}
use Rattle.block_sync.proofs.Majority.{SyncHere, majority, five_found, byte_take, byte_drop}
use Rattle.block_sync.proofs.Histories.{every_history}
use Rattle.block_sync.proofs.Grids.{grid_drop, blocks_more, grid_locked, grid_drained}

-- ---- the test at a place of a part of the bits

is_same : (a l : List ℕ) (v at bt : ℕ) → byte_at a at ≡ byte_at l bt → is_at a v at ≡ is_at l v bt
unfolding is_at
is_same a l v at bt e = rw e refl

count_same : (a l : List ℕ) (v at bt : ℕ) → ((k : ℕ) → k ≤ 6528 → byte_at a (at + k) ≡ byte_at l (bt + k)) → count_at a v at ≡ count_at l v bt
unfolding count_at
count_same a l v at bt f =
    let z : at + 0 ≡ at = omega arith in
    let y : bt + 0 ≡ bt = omega arith in
    let e : byte_at a at ≡ byte_at l bt = sym (ap (byte_at a) z) ∙ f 0 (omega arith) ∙ ap (byte_at l) y in
    rw (
      is_same a l v at bt e,
      is_same a l v (at + 1632) (bt + 1632) (f 1632 (omega arith)),
      is_same a l v (at + 3264) (bt + 3264) (f 3264 (omega arith)),
      is_same a l v (at + 4896) (bt + 4896) (f 4896 (omega arith)),
      is_same a l v (at + 6528) (bt + 6528) (f 6528 (omega arith)),
    ) refl

sync_same : (a l : List ℕ) (at bt : ℕ) → ((k : ℕ) → k ≤ 6528 → byte_at a (at + k) ≡ byte_at l (bt + k)) → sync_at a at ≡ sync_at l bt
unfolding sync_at
sync_same a l at bt f = rw (count_same a l 0x47 at bt f, count_same a l 0xB8 at bt f) refl

pub sync_take : (m : ℕ) (l : List ℕ) (at : ℕ) → at + 6536 ≤ m → sync_at (take m l) at ≡ sync_at l at
sync_take m l at h = sync_same (take m l) l at at (λ k x. byte_take m l (at + k) (omega arith))

sync_drop : (m : ℕ) (l : List ℕ) (at : ℕ) → sync_at (drop m l) at ≡ sync_at l (m + at)
sync_drop m l at = sync_same (drop m l) l at (m + at) (λ k x. let e : m + (at + k) ≡ m + at + k = omega arith in byte_drop m l (at + k) ∙ ap (byte_at l) e)

byte_behind : (p l : List ℕ) (at : ℕ) → byte_at (p ++ l) (length p + at) ≡ byte_at l at
byte_behind p l at = sym (byte_drop (length p) (p ++ l) at) ∙ ap (λ (x : List ℕ). byte_at x at) (drop-append_seam p l)

-- ---- what is decided

module _ {i : Bool} {f n : ℕ} (p l : List ℕ) (g : SyncGrid i f n l) (o : 5 < n) (u : Unsynced p l) (h : 8168 ≤ length (p ++ l)) where
  abbrev w : List ℕ
  w = take 8168 (p ++ l)

  size : length w ≡ 8168
  size = length-take-le 8168 (p ++ l) h

  -- far from the blocks: all places of the buffer are passed
  abbrev searched : Decision
  searched = record { skipped = length w - 6535; begins = None; lock = unlocked }

  far : 1632 < length p → Decides unlocked w searched
  unfolding keeps
  far k = searches refl (nowhere (λ q a e. sync_take 8168 (p ++ l) q (omega (arith, size)) ∙ u q (omega (arith, size)))) refl

  -- near to them: the first is found
  abbrev found : Decision
  found = record { skipped = length p; begins = Some true; lock = locked_as i }

  at_block : (b : ℕ) → b < 5 → length p ≤ 1632 → SyncHere i (f + b) w (length p + 1632 * b)
  unfolding SyncHere
  at_block b x k = byte_take 8168 (p ++ l) (length p + 1632 * b) (omega arith) ∙ byte_behind p l (1632 * b) ∙ g.syncs b (omega (arith, g.size))

  at_first : length p ≤ 1632 → SyncHere i f w (length p)
  unfolding SyncHere
  at_first k =
      let e : length p + 0 ≡ length p = omega arith in
      let z : f + 0 ≡ f = omega arith in
      subst (λ (x : ℕ). SyncHere i x w (length p)) z (subst (λ (x : ℕ). SyncHere i (f + 0) w x) e (at_block 0 (omega arith) k))

  near : length p ≤ 1632 → Decides unlocked w found
  unfolding keeps
  near k =
      begins (length p) refl
      (first (length p) (omega arith) (omega (arith, size))
      (five_found i f w (length p) (at_first k) (at_block 1 (omega arith) k) (at_block 2 (omega arith) k) (at_block 3 (omega arith) k) (at_block 4 (omega arith) k))
      (λ q a b. sync_take 8168 (p ++ l) q (omega arith) ∙ u q b))
      (ap (λ (x : Bool). record { skipped = length p; begins = Some true; lock = locked_as x })
      (sym (majority i f w (length p) false (omega (arith, size)) (at_first k) (at_block 1 (omega arith) k) (at_block 2 (omega arith) k))))

  block_there : length p ≤ 1632 → take 1632 (drop (length p) w) ≡ take 1632 l
  block_there k =
      let e : 8168 ≡ length p + (8168 - length p) = omega arith in
      ap (λ (x : ℕ). take 1632 (drop (length p) (take x (p ++ l)))) e
      ∙ ap (λ (x : List ℕ). take 1632 (drop (length p) x)) (take-append-add p l (8168 - length p))
      ∙ ap (take 1632) (drop-append_seam p (take (8168 - length p) l)) ∙ take-take 1632 (8168 - length p) l (omega arith)

-- ---- as the bits come

pub record AnyLeft (i : Bool) (p l : List ℕ) (parts : List Part) (last : Lock) (left : List ℕ) : Type 0 where
  pub f : ℕ
  pub n : ℕ
  pub grid : SyncGrid i f n left
  pub lock : last ≡ locked_as i
  pub given : given_of parts ++ followers (grid_blocks i left) ≡ begun (grid_blocks i l)
  pub skips : skipped_of parts ≡ length p
  pub part : length left % 1632 ≡ length l % 1632

-- a lock that is lost is as none
as_unlocked : {k : Lock} {w : List ℕ} {d : Decision} → keeps k w ≡ false → Decides k w d → Decides unlocked w d
unfolding keeps
as_unlocked h (follows e r) = false_true (sym h ∙ e)
as_unlocked h (begins at e f r) = begins at refl f r
as_unlocked h (searches e f r) = searches refl f r

keeps_none : (k : Lock) (w : List ℕ) → k ≡ unlocked → keeps k w ≡ false
unfolding keeps
keeps_none k w e = ap (λ (x : Lock). keeps x w) e

pub anywhere_aligned : {k last : Lock} {l₀ left : List ℕ} {parts : List Part} → Aligned k l₀ parts last left → {i : Bool} {f n : ℕ} (p l : List ℕ) → keeps k (take 8168 l₀) ≡ false → l₀ ≡ p ++ l → SyncGrid i f n l
    → 5 < n → Unsynced p l → AnyLeft i p l parts last left
anywhere_aligned (few h) p l q e g o u = absurd (omega (arith, ap length e ∙ length-append p l, g.size))
anywhere_aligned {k} {last} {l₀} {left} (turn {parts = ps} d h x a) {i} {f} {n} p l q e g o u = by (dec_lt 1632 (length p)) (λ p' q' e' u'. anywhere_aligned a p' l (keeps_none d.lock _ q') e' g o u')
  where
    h' : 8168 ≤ length (p ++ l)
    h' = let y = ap length e in omega arith

    v : take 8168 l₀ ≡ take 8168 (p ++ l)
    v = ap (take 8168) e

    x' : Decides unlocked (take 8168 (p ++ l)) d
    x' = subst (λ (y : List ℕ). Decides unlocked y d) v (as_unlocked q x)

    s : length (take 8168 (p ++ l)) ≡ 8168
    s = length-take-le 8168 (p ++ l) h'

    by : Dec (1632 < length p) → ((p' : List ℕ) → d.lock ≡ unlocked → drop (used_bits d) l₀ ≡ p' ++ l → Unsynced p' l → AnyLeft i p' l ps last left)
        → AnyLeft i p l (part_of d (take 8168 l₀) ∷ ps) last left
    by (yes z) rec =
        let c : d ≡ searched p l g o u h' = decides_unique x' (far p l g o u h' z) in
        let m : used_bits d ≡ 1633 = ap used_bits c ∙ (let y = s in omega arith) in
        let sk : d.skipped ≡ 1633 = ap (λ (y : Decision). y.skipped) c ∙ (let y = s in omega arith) in
        let r = rec (drop 1633 p) (ap (λ (y : Decision). y.lock) c) (ap₂ drop m e ∙ drop-append-le 1633 p l (omega arith))
        (λ t y. ap (λ (x : List ℕ). sync_at x t) (sym (drop-append-le 1633 p l (omega arith))) ∙ sync_drop 1633 (p ++ l) t ∙ u (1633 + t) (let j = length-drop 1633 p in omega arith)) in
        let j = length-drop 1633 p in
        let b : length (take d.skipped (take 8168 l₀)) ≡ 1633 = ap₂ (λ (y : ℕ) (x : List ℕ). length (take y x)) sk v ∙ length-take-le 1633 (take 8168 (p ++ l)) (omega (arith, s)) in
        record {
          f = r.f;
          n = r.n;
          grid = r.grid;
          lock = r.lock;
          given = ap (λ (y : Decision). (part_given (part_of y (take 8168 l₀)) ++ given_of ps) ++ followers (grid_blocks i left)) c ∙ r.given;
          skips = omega (arith, r.skips);
          part = r.part;
        }
    by (no z) rec =
        let z' : length p ≤ 1632 = omega (arith, z) in
        let c : d ≡ found p l g o u h' = decides_unique x' (near p l g o u h' z') in
        let m : used_bits d ≡ length p + 1632 = ap used_bits c in
        let y : n - 1 + 1 ≡ n = omega arith in
        let g' : SyncGrid i (f + 1) (n - 1) (drop 1632 l) = grid_drop (subst (λ (t : ℕ). SyncGrid i f t l) (sym y) g) in
        let t : drop (used_bits d) l₀ ≡ drop 1632 l = ap₂ drop m e ∙ drop-append-add p l 1632 in
        let r = grid_locked (subst (SyncGrid i (f + 1) (n - 1)) (sym t) g') (ap (λ (y : Decision). y.lock) c) a in
        let b = blocks_more i l (omega (arith, g.size)) ∙ ap (λ (y : List ℕ). block_of i (take 1632 l) ∷ grid_blocks i y) (sym t) in
        let j : part_given (part_of d (take 8168 l₀)) ≡ begun (block_of i (take 1632 l) ∷ []) =
        ap₂ (λ (y : Decision) (x : List ℕ). part_given (part_of y x)) c v ∙ ap (λ (x : List ℕ). begun (block_of i x ∷ [])) (block_there p l g o u h' z') in
        let sk : length (take d.skipped (take 8168 l₀)) ≡ length p =
        ap₂ (λ (y : Decision) (x : List ℕ). length (take y.skipped x)) c v ∙ length-take-le (length p) (take 8168 (p ++ l)) (omega (arith, s)) in
        record {
          f = r.f;
          n = r.n;
          grid = r.grid;
          lock = r.lock;
          given = append_assoc (part_given (part_of d (take 8168 l₀))) (given_of ps) (followers (grid_blocks i left)) ∙ ap₂ (λ (a b : List GivenBlock). a ++ b) j r.given ∙ sym (ap begun b);
          skips = omega (arith, r.skips);
          part = r.part ∙ (let ld = ap length t ∙ length-drop 1632 l in omega (arith, g.size));
        }

-- ---- the theorem

-- Bits that begin anywhere, and then six blocks or more, straight or inverted, in any pieces, and then the end. Where no place before the first block passes
-- for a sync, exactly the bits before it are skipped, and all blocks are given, the first as one that begins anew.
pub anywhere_given : {i : Bool} {f n : ℕ} (p l : List ℕ) {given rest : List GivenBlock} {skipped sk : ℕ} {s t : BlockSync} → SyncGrid i f n l → 5 < n → Unsynced p l
    → SyncFeedings (p ++ l) given skipped s → Drained s rest sk t → AnywhereGiven i p l (given ++ rest) (skipped + sk) t
anywhere_given p l g o u h dr =
    let c = every_history h in
    let r = anywhere_aligned c.aligned p l (keeps_none unlocked _ refl) refl g o u in
    let q = grid_drained r.grid (aligned_few c.aligned) (c.state ∙ ap (λ (k : Lock). holding k c.left) r.lock) dr in
    record {
      blocks = ap₂ (λ (u v : List GivenBlock). u ++ v) c.blocks q.blocks ∙ r.given;
      skips = ap₂ (λ (u v : ℕ). u + v) (c.skips ∙ r.skips) q.skips ∙ add-zero (length p);
      left = q.part_left ∙ r.part;
    }
