-- Bits that have not all come: what is decided of some bits is the front of what is decided of more, so what is known of blocks that came to their end tells
-- what was given of them so far, and what is given of them where they end there.
-- Assumes nothing.
use Rattle.std.specs.Prelude.{Some, None, is_some, unwrap_or}
use mathlib.Core.Path.{◌≡◌, refl, sym, ◌∙◌, ap, ap₂, subst}
use mathlib.Core.Bool.{Bool, true, false}
use mathlib.Core.List.{List, [], ◌∷◌, ◌++◌, append_assoc}
use Prim.Native.Nat.{ℕ, zero, suc, ◌+◌, ◌-◌, ◌*◌, ◌/◌, ◌≤◌, ◌<◌}
use native.Mathlib.Decide.{dec_lt, ℕ_discrete}
use native.Mathlib.Omega.{arith}
use lib.ListN.{length, take, drop, length-append, length-drop, take-append-drop}
use lib.Seq.{length-take-le, take-append_seam, take-append-le, drop-append-le, drop-append_seam}
use Rattle.common.specs.Choice.{pick}
use Rattle.common.proofs.Choice.{false_true}
use Rattle.sync_search.specs.Sync.{sync_at, first, nowhere}
use Rattle.block_sync.specs.Decision.{keeps, polarity_at, locked_as, unlocked, Decides, follows, begins, searches, used_bits, block_of}
use Rattle.block_sync.specs.Grid.{SyncGrid, grid_blocks, followers, begun, Unsynced, Drained, AnywhereGiven}
use Rattle.block_sync.specs.History as history
use Rattle.block_sync.specs.History.{SyncFeedings, Part, part_of, part_given, given_of, skipped_of, Aligned, few, turn}
use Rattle.block_sync.specs.declared.GivenBlock.{GivenBlock}
use Rattle.block_sync.specs.declared.Lock.{Lock}
use Rattle.block_sync.specs.declared.Decision.{Decision}
use Rattle.block_sync.specs.declared.BlockSync.{BlockSync}
use Rattle.block_sync.proofs.Decisions.{used_some}
use Rattle.block_sync.proofs.Parts.{aligned_joined, aligned_few}
use Rattle.block_sync.proofs.Histories.{held_back, given_append, skipped_append, every_history, every_bit}
use Rattle.block_sync.proofs.Grids.{blocks_none, blocks_more}
use Rattle.block_sync.proofs.Anywhere.{sync_take, anywhere_aligned, anywhere_given}
use Rattle.block_sync.proofs.Slips.{byte_front}

-- ---- of all bits something is decided

-- the first n places: the first sync among them, or none
data Scanned (l : List ℕ) (n : ℕ) : Type 0 where
  found : (at : ℕ) → at < n → sync_at l at ≡ true → ((q : ℕ) → q < at → sync_at l q ≡ false) → Scanned l n
  clean : ((q : ℕ) → q < n → sync_at l q ≡ false) → Scanned l n

one_more : (l : List ℕ) (n : ℕ) → ((q : ℕ) → q < n → sync_at l q ≡ false) → sync_at l n ≡ false → (q : ℕ) → q < suc n → Dec (q ≡ n) → sync_at l q ≡ false
one_more l n f e q h (yes z) = ap (sync_at l) z ∙ e
one_more l n f e q h (no z) = f q (omega arith)

scan : (l : List ℕ) (n : ℕ) → Scanned l n
scan l zero = clean (λ q h. absurd (omega arith))
scan l (suc n) = next (scan l n) (sync_at l n) refl
  where
    next : Scanned l n → (b : Bool) → sync_at l n ≡ b → Scanned l (suc n)
    next (found at h s f) b e = found at (omega arith) s f
    next (clean f) true e = found n (omega arith) e f
    next (clean f) false e = clean (λ q h. one_more l n f e q h (ℕ_discrete q n))

unlocked_keeps : (k : Lock) (l : List ℕ) → k.locked ≡ false → keeps k l ≡ false
unfolding keeps
unlocked_keeps k l e = rw e refl

record Made (k : Lock) (l : List ℕ) : Type 0 where
  decision : Decision
  decides : Decides k l decision

made : (k : Lock) (l : List ℕ) → Made k l
made k l = by (keeps k l) refl (scan l (length l - 6535))
  where
    by : (b : Bool) → keeps k l ≡ b → Scanned l (length l - 6535) → Made k l
    by true e s = record { decision = record { skipped = 0; begins = Some false; lock = locked_as (polarity_at l 0 k.inverted) }; decides = follows e refl }
    by false e (found at h s f) = record {
      decision = record { skipped = at; begins = Some true; lock = locked_as (polarity_at l at false) };
      decides = begins at e (first at (omega arith) (omega arith) s (λ q a b. f q b)) refl;
    }
    by false e (clean f) = record {
      decision = record { skipped = length l - 6535; begins = None; lock = unlocked };
      decides = searches e (nowhere (λ q a b. f q (omega arith))) refl;
    }

record SomeParts (k : Lock) (l : List ℕ) : Type 0 where
  parts : List Part
  last : Lock
  left : List ℕ
  aligned : Aligned k l parts last left

aligned_some : (n : ℕ) (k : Lock) (l : List ℕ) → length l ≤ n → SomeParts k l
aligned_some zero k l h = record { parts = []; last = k; left = l; aligned = few {l = l} (omega arith) }
aligned_some (suc n) k l h = by (dec_lt (length l) 8168) (λ k' l' h'. aligned_some n k' l' h')
  where
    by : Dec (length l < 8168) → ((k' : Lock) (l' : List ℕ) → length l' ≤ n → SomeParts k' l') → SomeParts k l
    by (yes z) rec = record { parts = []; last = k; left = l; aligned = few {l = l} z }
    by (no z) rec =
        let m = made k (take 8168 l) in
        let d = m.decision in
        let r = rec d.lock (drop (used_bits d) l)
        (omega (arith, length-drop (used_bits d) l, used_some m.decides (omega (arith, length-take-le 8168 l (omega arith))))) in
        record { parts = part_of d (take 8168 l) ∷ r.parts; last = r.last; left = r.left; aligned = turn {l = l} d (omega arith) m.decides r.aligned }

-- ---- the first of some blocks

take_followers : (n : ℕ) (bs : List (List ℕ)) → take n (followers bs) ≡ followers (take n bs)
take_followers zero bs = refl
take_followers (suc n) [] = refl
take_followers (suc n) (b ∷ bs) = ap (λ (l : List GivenBlock). record { begins = false; bytes = b } ∷ l) (take_followers n bs)

take_begun : (n : ℕ) (bs : List (List ℕ)) → take n (begun bs) ≡ begun (take n bs)
take_begun zero bs = refl
take_begun (suc n) [] = refl
take_begun (suc n) (b ∷ bs) = ap (λ (l : List GivenBlock). record { begins = true; bytes = b } ∷ l) (take_followers n bs)

front_begun : (g rest : List GivenBlock) (bs : List (List ℕ)) → g ++ rest ≡ begun bs → g ≡ begun (take (length g) bs)
front_begun g rest bs e = sym (take-append_seam g rest) ∙ (ap (take (length g)) e ∙ take_begun (length g) bs)

-- ---- a lock lasts

-- whether one of the blocks begins anew
abbrev anew : List GivenBlock → Bool
anew [] = false
anew (g ∷ l) = pick g.begins true (anew l)

anew_behind : (a b : List GivenBlock) → anew b ≡ true → anew (a ++ b) ≡ true
anew_behind [] b e = e
anew_behind (g ∷ a) b e = by g.begins (anew_behind a b e)
  where
    by : (x : Bool) → anew (a ++ b) ≡ true → pick x true (anew (a ++ b)) ≡ true
    by true r = refl
    by false r = r

anew_before : (a b : List GivenBlock) → anew a ≡ true → anew (a ++ b) ≡ true
anew_before [] b e = false_true e
anew_before (g ∷ a) b e = by g.begins e (anew_before a b)
  where
    by : (x : Bool) → pick x true (anew a) ≡ true → (anew a ≡ true → anew (a ++ b) ≡ true) → pick x true (anew (a ++ b)) ≡ true
    by true r f = refl
    by false r f = f r

none_anew : (bs : List (List ℕ)) → anew (followers bs) ≡ false
none_anew [] = refl
none_anew (b ∷ bs) = none_anew bs

-- of blocks of which the first alone begins anew, none behind the first does
first_anew : (g : GivenBlock) (a : List GivenBlock) (bs : List (List ℕ)) → g ∷ a ≡ begun bs → anew a ≡ false
first_anew g a [] e = absurd (omega (arith, ap length e))
first_anew g a (b ∷ bs) e = ap anew (ap (drop 1) e) ∙ none_anew bs

-- where there is a lock behind decisions that began with none, one of their blocks begins anew
lock_anew : {k last : Lock} {l left : List ℕ} {parts : List Part} → Aligned k l parts last left → k.locked ≡ false → last.locked ≡ true → anew (given_of parts) ≡ true
lock_anew (few h) e f = false_true (sym e ∙ f)
lock_anew {k} {last} {l} (turn {parts = ps} d h x a) e f = by x (λ z. lock_anew a z f)
  where
    by : Decides k (take 8168 l) d → (d.lock.locked ≡ false → anew (given_of ps) ≡ true) → anew (part_given (part_of d (take 8168 l)) ++ given_of ps) ≡ true
    by (follows z r) rec = false_true (sym (unlocked_keeps k (take 8168 l) e) ∙ z)
    by (begins at z s r) rec = ap (λ (y : Decision). anew (part_given (part_of y (take 8168 l)) ++ given_of ps)) r
    by (searches z s r) rec = anew_behind (part_given (part_of d (take 8168 l))) (given_of ps) (rec (ap (λ (y : Decision). y.lock.locked) r))

-- Decisions of which none gives a block skip 1,633 bits each.
pub none_given : {k last : Lock} {l left : List ℕ} {parts : List Part} → Aligned k l parts last left → length (given_of parts) ≡ 0 → skipped_of parts ≡ 1633 * length parts
none_given (few h) e = refl
none_given {k} {last} {l} (turn {parts = ps} d h x a) e = by x (λ z. none_given a z)
  where
    w : List ℕ
    w = take 8168 l

    size : length w ≡ 8168
    size = length-take-le 8168 l h

    counts : (b : Bool) → is_some d.begins ≡ b → length (pick b (record { begins = unwrap_or d.begins false; bytes = block_of d.lock.inverted (part_of d w).bits } ∷ []) [] ++ given_of ps) ≡ 0
    counts b z = ap (λ (b : Bool). length (pick b (record { begins = unwrap_or d.begins false; bytes = block_of d.lock.inverted (part_of d w).bits } ∷ []) [] ++ given_of ps)) (sym z) ∙ e

    by : Decides k w d → (length (given_of ps) ≡ 0 → skipped_of ps ≡ 1633 * length ps) → length (take d.skipped w) + skipped_of ps ≡ 1633 * length (part_of d w ∷ ps)
    by (follows z r) rec = absurd (let y = counts true (ap (λ (y : Decision). is_some y.begins) r) in omega arith)
    by (begins at z s r) rec = absurd (let y = counts true (ap (λ (y : Decision). is_some y.begins) r) in omega arith)
    by (searches z s r) rec =
        let y = ap (λ (y : Decision). y.skipped) r in
        omega (arith, size, length-take-le d.skipped w (omega (arith, size)), rec (counts false (ap (λ (y : Decision). is_some y.begins) r)))

-- ---- what was given so far

pub record GridSoFar (i : Bool) (p l : List ℕ) (came : ℕ) (given : List GivenBlock) (skipped : ℕ) (s : BlockSync) : Type 0 where
  pub blocks : given ≡ begun (take (length given) (grid_blocks i l))
  pub skips : skipped ≤ length p
  pub counted : skipped + 1632 * length given + s.held ≡ came
  pub few_held : s.held < 8168
  pub lasts : 0 < length given → s.lock.locked ≡ true

-- where a block was given, there is a lock: else a later one would begin anew
lock_lasts : {k last : Lock} {l left : List ℕ} {parts : List Part} → Aligned k l parts last left → (given rest : List GivenBlock) (bs : List (List ℕ)) → given ++ (given_of parts ++ rest) ≡ begun bs
    → 0 < length given → last.locked ≡ true → k.locked ≡ true
lock_lasts a [] rest bs e h f = absurd (omega arith)
lock_lasts {k} {parts = ps} a (g ∷ given) rest bs e h f = by k.locked refl
  where
    by : (b : Bool) → k.locked ≡ b → k.locked ≡ true
    by true z = z
    by false z = false_true (sym (first_anew g (given ++ (given_of ps ++ rest)) bs e) ∙ anew_behind given (given_of ps ++ rest) (anew_before (given_of ps) rest (lock_anew a z f)))

none_kept : (w : List ℕ) → keeps unlocked w ≡ false
unfolding keeps
none_kept w = refl

-- Some of the bits that begin anywhere and then have six blocks or more, straight or inverted, in any pieces.
pub front_given : {i : Bool} {f n : ℕ} (p l : List ℕ) {bits : List ℕ} (more : List ℕ) {given : List GivenBlock} {skipped : ℕ} {s : BlockSync} → SyncGrid i f n l → 5 < n → Unsynced p l
    → bits ++ more ≡ p ++ l → SyncFeedings bits given skipped s → GridSoFar i p l (length bits) given skipped s
front_given {i} p l {bits} more {given} {skipped} {s} g o u e h =
    let c = every_history h in
    let x = aligned_some (length (c.left ++ more)) s.lock (c.left ++ more) (omega arith) in
    let r = anywhere_aligned (aligned_joined c.aligned more x.aligned) p l (none_kept (take 8168 (bits ++ more))) e g o u in
    let a = every_bit h history.none in
    let held : s.held ≡ length c.left = ap (λ (y : BlockSync). y.held) c.state in
    let all : given ++ (given_of x.parts ++ followers (grid_blocks i x.left)) ≡ begun (grid_blocks i l) =
    ap (λ (y : List GivenBlock). y ++ (given_of x.parts ++ followers (grid_blocks i x.left))) c.blocks
    ∙ (sym (append_assoc (given_of c.parts) (given_of x.parts) (followers (grid_blocks i x.left)))
    ∙ (ap (λ (y : List GivenBlock). y ++ followers (grid_blocks i x.left)) (sym (given_append c.parts x.parts)) ∙ r.given)) in
    record {
      blocks = front_begun given (given_of x.parts ++ followers (grid_blocks i x.left)) (grid_blocks i l) all;
      skips = omega (arith, c.skips, skipped_append c.parts x.parts, r.skips);
      counted = omega (arith, a.counted, held, ap length (held_back s c.left c.state), length-append given []);
      few_held = omega (arith, held, aligned_few c.aligned);
      lasts = λ some. lock_lasts x.aligned given (followers (grid_blocks i x.left)) (grid_blocks i l) all some (ap (λ (y : Lock). y.locked) r.lock);
    }

-- ---- the end, where it comes before all bits did

grid_front : {i : Bool} {f n : ℕ} (l more : List ℕ) → SyncGrid i f n (l ++ more) → SyncGrid i f (length l / 1632) l
grid_front l more g = record {
  size = omega arith;
  part = omega arith;
  syncs = λ b h. sym (byte_front l more (1632 * b) h) ∙ g.syncs b (omega (arith, length-append l more));
}

unsynced_front : (p l more : List ℕ) → 6536 ≤ length l → Unsynced p (l ++ more) → Unsynced p l
unsynced_front p l more h u q z =
    ap (λ (x : List ℕ). sync_at x q) (sym (take-append_seam (p ++ l) more))
    ∙ (sync_take (length (p ++ l)) ((p ++ l) ++ more) q (omega (arith, length-append p l)) ∙ (ap (λ (x : List ℕ). sync_at x q) (append_assoc p l more) ∙ u q z))

-- the blocks that are whole in the front are the first of all
pub blocks_front : (i : Bool) (n : ℕ) (l more : List ℕ) → length l / 1632 ≡ n → grid_blocks i l ≡ take n (grid_blocks i (l ++ more))
blocks_front i zero l more e = blocks_none i l (omega arith)
blocks_front i (suc n) l more e =
    let h : 1632 ≤ length l = omega arith in
    let r = blocks_front i n (drop 1632 l) more (omega (arith, length-drop 1632 l)) in
    blocks_more i l h
    ∙ (ap₂ (λ (x y : List (List ℕ)). x ++ y) (ap (λ (x : List ℕ). block_of i x ∷ []) (sym (take-append-le 1632 l more h)))
    (r ∙ ap (λ (x : List ℕ). take n (grid_blocks i x)) (sym (drop-append-le 1632 l more h)))
    ∙ ap (take (suc n)) (sym (blocks_more i (l ++ more) (omega (arith, length-append l more)))))

-- Where six blocks came whole, these and all others that did are given, and the bits of the last are left.
pub front_drained : {i : Bool} {f n : ℕ} (p l : List ℕ) {bits : List ℕ} (more : List ℕ) {given rest : List GivenBlock} {skipped sk : ℕ} {s t : BlockSync} → SyncGrid i f n l → length p + 9792 ≤ length bits
    → Unsynced p l → bits ++ more ≡ p ++ l → SyncFeedings bits given skipped s → Drained s rest sk t
    → (drop (length p) bits ++ more ≡ l) × AnywhereGiven i p (drop (length p) bits) (given ++ rest) (skipped + sk) t
front_drained {i} {f} {n} p l {bits} more {given} {skipped = skipped} {s = s} g six u e h d =
    let came : List ℕ = drop (length p) bits in
    let front : take (length p) bits ≡ p = sym (take-append-le (length p) bits more (omega arith)) ∙ (ap (take (length p)) e ∙ take-append_seam p l) in
    let back : came ++ more ≡ l = sym (drop-append-le (length p) bits more (omega arith)) ∙ (ap (drop (length p)) e ∙ drop-append_seam p l) in
    let all : bits ≡ p ++ came = sym (take-append-drop (length p) bits) ∙ ap (λ (x : List ℕ). x ++ came) front in
    let size : length came ≡ length bits - length p = length-drop (length p) bits in (
      back,
      anywhere_given p came (grid_front came more (subst (SyncGrid i f n) (sym back) g)) (omega arith) (unsynced_front p came more (omega arith) (subst (Unsynced p) (sym back) u))
          (subst (λ (x : List ℕ). SyncFeedings x given skipped s) all h) d,
    )
