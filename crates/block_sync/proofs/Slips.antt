-- Blocks, then bits with no sync in them, as a slip of the symbol clock leaves, then blocks again: the lock is lost and found, and the first block behind the
-- slip is given as one that begins anew.
-- Assumes nothing.
use Rattle.std.specs.Prelude.{Some}
use mathlib.Core.Path.{◌≡◌, refl, sym, ◌∙◌, ap, ap₂, subst}
use mathlib.Core.Bool.{Bool, true, false}
use mathlib.Core.List.{List, [], ◌∷◌, ◌++◌, append_assoc}
use Prim.Native.Nat.{ℕ, ◌+◌, ◌-◌, ◌*◌, ◌%◌, ◌≤◌, ◌<◌}
use mathlib.Core.Logic.{◌⊎◌, inl, inr}
use native.Mathlib.Decide.{ℕ_discrete}
use native.Mathlib.Nat.{add-zero}
use native.Mathlib.Omega.{arith}
use borrow.Author.Tests.{ne_eqb, le-ltb}
use lib.Dec.{eqb, ltb}
use lib.ListN.{length, take, drop, length-append, length-drop}
use lib.Seq.{length-take-le, take-take, take-append-le, drop-append-le, drop-append_seam}
use Rattle.common.specs.Choice.{pick, indicator}
use Rattle.common.proofs.Choice.{false_true}
use Rattle.sync_search.specs.Sync.{byte_at, is_at, first}
use Rattle.block_sync.specs.Decision.{is_sync, sync_or_end, in_a_step, three_at, polarity_at, keeps, locked_as, unlocked, Decides, follows, begins, used_bits, block_of}
use Rattle.block_sync.specs.Feed.{holding}
use Rattle.block_sync.specs.History.{SyncFeedings, Part, part_of, part_given, given_of, skipped_of, Aligned, few, turn}
use Rattle.block_sync.specs.declared.GivenBlock.{GivenBlock}
use Rattle.block_sync.specs.Grid.{SyncGrid, grid_blocks, followers, begun, Drained, Unsynced, SlipGiven}
use Rattle.block_sync.specs.declared.Lock.{Lock}
use Rattle.block_sync.specs.declared.Decision.{Decision}
use Rattle.block_sync.specs.declared.BlockSync.{BlockSync}
use Rattle.block_sync.proofs.Tests.{polarity_not}
use Rattle.block_sync.proofs.Decisions.{decides_unique}
use Rattle.block_sync.proofs.Parts.{aligned_few}
use Rattle.block_sync.proofs.Majority.{SyncHere, sync_is, majority, five_found, byte_take, byte_drop}
use Rattle.block_sync.proofs.Histories.{every_history}
use Rattle.block_sync.proofs.Grids.{grid_drop, keeps_first, blocks_none, blocks_more, followed, begun_at, grid_drained}
use Rattle.block_sync.proofs.Anywhere.{anywhere_aligned}

-- ---- bytes of the front and of what is behind it

pub byte_front : (c x : List ℕ) (at : ℕ) → at + 8 ≤ length c → byte_at (c ++ x) at ≡ byte_at c at
byte_front c x at h = sym (byte_take (length c) (c ++ x) at h) ∙ ap (λ (l : List ℕ). byte_at l at) (take-append-le (length c) c x (omega arith)) ∙ byte_take (length c) c at h

byte_after : (c x : List ℕ) (at : ℕ) → byte_at (c ++ x) (length c + at) ≡ byte_at x at
byte_after c x at = sym (byte_drop (length c) (c ++ x) at) ∙ ap (λ (l : List ℕ). byte_at l at) (drop-append_seam c x)

sync_same : (a l : List ℕ) (at bt : ℕ) → byte_at a at ≡ byte_at l bt → is_sync a at ≡ is_sync l bt
unfolding is_sync
sync_same a l at bt e = rw e refl

-- ---- no sync byte

not_either : (a b : Bool) → pick a true b ≡ false → (a ≡ false) × (b ≡ false)
not_either true b e = false_true (sym e)
not_either false b e = (refl, e)

not_sync : (l : List ℕ) (at : ℕ) → is_sync l at ≡ false → (is_at l 0x47 at ≡ 0) × (is_at l 0xB8 at ≡ 0)
unfolding is_sync is_at
not_sync l at e = let n = not_either (eqb (byte_at l at) 0x47) (eqb (byte_at l at) 0xB8) e in (ap indicator n.0, ap indicator n.1)

one_only : (l : List ℕ) (at : ℕ) → is_at l 0x47 at + is_at l 0xB8 at ≤ 1
unfolding is_at
one_only l at = by (ℕ_discrete (byte_at l at) 0x47)
  where
    le : (t : Bool) → indicator t ≤ 1
    le true = omega arith
    le false = omega arith

    by : Dec (byte_at l at ≡ 0x47) → indicator (eqb (byte_at l at) 0x47) + indicator (eqb (byte_at l at) 0xB8) ≤ 1
    by (yes e) =
        let z : indicator (eqb (byte_at l at) 0xB8) ≡ 0 = ap indicator (ne_eqb (byte_at l at) 0xB8 (λ y. omega arith)) in
        omega (arith, le (eqb (byte_at l at) 0x47))
    by (no n) =
        let z : indicator (eqb (byte_at l at) 0x47) ≡ 0 = ap indicator (ne_eqb (byte_at l at) 0x47 n) in
        omega (arith, le (eqb (byte_at l at) 0xB8))

-- where the second or the third of three is none, the polarity stays
polarity_stays : (l : List ℕ) (i : Bool) → 3272 ≤ length l → (b : ℕ) → (b ≡ 1632) ⊎ (b ≡ 3264) → is_sync l b ≡ false → polarity_at l 0 i ≡ i
unfolding three_at
polarity_stays l i h b w e = sym (polarity_not l 0 i (three_at l 0x47 0) (three_at l 0xB8 0) h refl refl (λ s. by w s))
  where
    by : (b ≡ 1632) ⊎ (b ≡ 3264) → three_at l 0x47 0 + three_at l 0xB8 0 ≡ 3 → ⊥
    by (inl q) s = let n = not_sync l 1632 (subst (λ (x : ℕ). is_sync l x ≡ false) q e) in omega (arith, n.0, n.1, one_only l 0, one_only l 3264, s)
    by (inr q) s = let n = not_sync l 3264 (subst (λ (x : ℕ). is_sync l x ≡ false) q e) in omega (arith, n.0, n.1, one_only l 0, one_only l 1632, s)

-- a lock that is lost: no sync byte at the front
lost_front : (i : Bool) (w : List ℕ) → length w ≡ 8168 → keeps (locked_as i) w ≡ false → is_sync w 0 ≡ false
unfolding keeps in_a_step sync_or_end
lost_front i w e k =
    let a : in_a_step w ≡ false = sym (ap (λ (t : Bool). pick t false (in_a_step w)) (le-ltb (length w) 1632 (omega arith))) ∙ k in
    let b = (not_either (sync_or_end w 0) (pick (sync_or_end w 1632) true (pick (sync_or_end w 3264) true (sync_or_end w 4896))) a).0 in
    (not_either (ltb (length w) 8) (is_sync w 0) b).1

-- ---- what is decided while blocks are given

module _ {i : Bool} {f n : ℕ} (c y : List ℕ) (g : SyncGrid i f n c) (whole : length c ≡ 1632 * n) (h : 8168 ≤ length (c ++ y)) (k : 8168 ≤ length y) (lost : keeps (locked_as i) (take 8168 y) ≡ false) where
  abbrev w : List ℕ
  w = take 8168 (c ++ y)

  size : length w ≡ 8168
  size = length-take-le 8168 (c ++ y) h

  front_here : (b : ℕ) → b < n → 1632 * b + 8 ≤ 8168 → SyncHere i (f + b) w (1632 * b)
  unfolding SyncHere
  front_here b x z = byte_take 8168 (c ++ y) (1632 * b) z ∙ byte_front c y (1632 * b) (omega (arith, g.size)) ∙ g.syncs b (omega (arith, g.size))

  front_first : 0 < n → SyncHere i f w 0
  front_first o = let e : f + 0 ≡ f = omega arith in subst (λ (x : ℕ). SyncHere i x w 0) e (front_here 0 o (omega arith))

  -- no sync byte behind the last block
  behind : (b : ℕ) → length c ≡ b → b + 8 ≤ 8168 → is_sync w b ≡ false
  behind b e z =
      let a : b ≡ length c + 0 = omega arith in
      sync_same w (take 8168 y) b 0
      (byte_take 8168 (c ++ y) b z ∙ ap (byte_at (c ++ y)) a ∙ byte_after c y 0 ∙ sym (byte_take 8168 y 0 (omega arith)))
      ∙ lost_front i (take 8168 y) (length-take-le 8168 y k) lost

  stays : 0 < n → polarity_at w 0 i ≡ i
  stays o = by (ℕ_discrete n 1) (ℕ_discrete n 2)
    where
      by : Dec (n ≡ 1) → Dec (n ≡ 2) → polarity_at w 0 i ≡ i
      by (yes e) z = polarity_stays w i (omega (arith, size)) 1632 (inl refl) (behind 1632 (omega arith) (omega arith))
      by (no e) (yes z) = polarity_stays w i (omega (arith, size)) 3264 (inr refl) (behind 3264 (omega arith) (omega arith))
      by (no e) (no z) = majority i f w 0 i (omega (arith, size)) (front_first o) (front_here 1 (omega arith) (omega arith)) (front_here 2 (omega arith) (omega arith))

  front_follows : 0 < n → Decides (locked_as i) w (followed i)
  front_follows o =
      follows (keeps_first i w (omega (arith, size)) (sync_is i f w 0 (front_first o)))
      (ap (λ (x : Bool). record { skipped = 0; begins = Some false; lock = locked_as x }) (sym (stays o)))

  front_begins : 4 < n → Decides unlocked w (begun_at i)
  unfolding keeps
  front_begins o =
      begins 0 refl
      (first 0 (omega arith) (omega (arith, size))
      (five_found i f w 0 (front_first (omega arith)) (front_here 1 (omega arith) (omega arith)) (front_here 2 (omega arith) (omega arith)) (front_here 3 (omega arith) (omega arith))
      (front_here 4 (omega arith) (omega arith)))
      (λ q a b. absurd (omega arith)))
      (ap (λ (x : Bool). record { skipped = 0; begins = Some true; lock = locked_as x })
      (sym (majority i f w 0 false (omega (arith, size)) (front_first (omega arith)) (front_here 1 (omega arith) (omega arith)) (front_here 2 (omega arith) (omega arith)))))

  front_block : 0 < n → take 1632 w ≡ take 1632 c
  front_block o = take-take 1632 8168 (c ++ y) (omega arith) ∙ take-append-le 1632 c y (omega (arith, g.size))

-- ---- as the bits come

record SlipLeft (i j : Bool) (c p l : List ℕ) (parts : List Part) (last : Lock) (left : List ℕ) : Type 0 where
  pub f : ℕ
  pub n : ℕ
  pub grid : SyncGrid j f n left
  pub lock : last ≡ locked_as j
  pub given : given_of parts ++ followers (grid_blocks j left) ≡ followers (grid_blocks i c) ++ begun (grid_blocks j l)
  pub skips : skipped_of parts ≡ length p
  pub part : length left % 1632 ≡ length l % 1632

empty_list : (c : List ℕ) → length c ≡ 0 → c ≡ []
empty_list [] e = refl
empty_list (x ∷ c) e = absurd (omega arith)

slip_aligned : {k last : Lock} {l₀ left : List ℕ} {parts : List Part} → Aligned k l₀ parts last left → {i j : Bool} {f n b m : ℕ} (c p l : List ℕ) → k ≡ locked_as i → l₀ ≡ c ++ (p ++ l)
    → SyncGrid i f n c → length c ≡ 1632 * n → SyncGrid j b m l → 5 < m → Unsynced p l → keeps (locked_as i) (take 8168 (p ++ l)) ≡ false → SlipLeft i j c p l parts last left
slip_aligned (few h) c p l q e g whole g' o u lost = absurd (omega (arith, ap length e ∙ length-append c (p ++ l), length-append p l, g'.size))
slip_aligned {k} {last} {l₀} {left} (turn {parts = ps} d h x a) {i} {j} {f} {n} {b} {m} c p l q e g whole g' o u lost =
    by (ℕ_discrete n 0) (λ c' q' e' f' n' s whole'. slip_aligned a {i = i} {j = j} {f = f'} {n = n'} c' p l q' e' s whole' g' o u lost)
  where
    v : take 8168 l₀ ≡ take 8168 (c ++ (p ++ l))
    v = ap (take 8168) e

    h' : 8168 ≤ length (c ++ (p ++ l))
    h' = let y = ap length e in omega arith

    k' : 8168 ≤ length (p ++ l)
    k' = omega (arith, length-append p l, g'.size)

    by : Dec (n ≡ 0) → ((c' : List ℕ) → d.lock ≡ locked_as i → drop (used_bits d) l₀ ≡ c' ++ (p ++ l) → (f' n' : ℕ) → SyncGrid i f' n' c' → length c' ≡ 1632 * n' → SlipLeft i j c' p l ps last left)
        → SlipLeft i j c p l (part_of d (take 8168 l₀) ∷ ps) last left
    by (yes z) rec =
        let y : length c ≡ 0 = omega arith in
        let t : l₀ ≡ p ++ l = e ∙ ap (λ (s : List ℕ). s ++ (p ++ l)) (empty_list c y) in
        let r = anywhere_aligned (turn d h x a) p l (ap₂ (λ (s : Lock) (w : List ℕ). keeps s (take 8168 w)) q t ∙ lost) t g' o u in
        record {
          f = r.f;
          n = r.n;
          grid = r.grid;
          lock = r.lock;
          given = r.given ∙ ap (λ (s : List (List ℕ)). followers s ++ begun (grid_blocks j l)) (sym (blocks_none i c (omega arith)));
          skips = r.skips;
          part = r.part;
        }
    by (no z) rec =
        let s : d ≡ followed i = decides_unique (subst (λ (w : List ℕ). Decides (locked_as i) w d) v (subst (λ (y : Lock). Decides y (take 8168 l₀) d) q x)) (front_follows c (p ++ l) g whole h' k' lost (omega arith)) in
        let y : n - 1 + 1 ≡ n = omega arith in
        let gd : SyncGrid i (f + 1) (n - 1) (drop 1632 c) = grid_drop (subst (λ (t : ℕ). SyncGrid i f t c) (sym y) g) in
        let t : drop (used_bits d) l₀ ≡ drop 1632 c ++ (p ++ l) = ap₂ drop (ap used_bits s) e ∙ drop-append-le 1632 c (p ++ l) (omega (arith, g.size)) in
        let r = rec (drop 1632 c) (ap (λ (y : Decision). y.lock) s) t (f + 1) (n - 1) gd (omega (arith, length-drop 1632 c)) in
        let bl = blocks_more i c (omega (arith, g.size)) in
        let pg : part_given (part_of d (take 8168 l₀)) ≡ followers (block_of i (take 1632 c) ∷ []) =
        ap₂ (λ (y : Decision) (w : List ℕ). part_given (part_of y w)) s v ∙ ap (λ (w : List ℕ). followers (block_of i w ∷ [])) (front_block c (p ++ l) g whole h' k' lost (omega arith)) in
        let sk : length (take d.skipped (take 8168 l₀)) ≡ 0 = ap (λ (y : Decision). length (take y.skipped (take 8168 l₀))) s in
        record {
          f = r.f;
          n = r.n;
          grid = r.grid;
          lock = r.lock;
          given =
              append_assoc (part_given (part_of d (take 8168 l₀))) (given_of ps) (followers (grid_blocks j left)) ∙ ap₂ (λ (a b : List GivenBlock). a ++ b) pg r.given
              ∙ ap (λ (s : List (List ℕ)). followers s ++ begun (grid_blocks j l)) (sym bl);
          skips = omega (arith, r.skips);
          part = r.part;
        }

-- from a fresh value on
record SlipFresh (i j : Bool) (c p l : List ℕ) (parts : List Part) (last : Lock) (left : List ℕ) : Type 0 where
  pub f : ℕ
  pub n : ℕ
  pub grid : SyncGrid j f n left
  pub lock : last ≡ locked_as j
  pub given : given_of parts ++ followers (grid_blocks j left) ≡ begun (grid_blocks i c) ++ begun (grid_blocks j l)
  pub skips : skipped_of parts ≡ length p
  pub part : length left % 1632 ≡ length l % 1632

slip_fresh : {k last : Lock} {l₀ left : List ℕ} {parts : List Part} → Aligned k l₀ parts last left → {i j : Bool} {f n b m : ℕ} (c p l : List ℕ) → k ≡ unlocked → l₀ ≡ c ++ (p ++ l)
    → SyncGrid i f n c → length c ≡ 1632 * n → 4 < n → SyncGrid j b m l → 5 < m → Unsynced p l → keeps (locked_as i) (take 8168 (p ++ l)) ≡ false → SlipFresh i j c p l parts last left
slip_fresh (few h) c p l q e g whole a g' o u lost = absurd (omega (arith, ap length e ∙ length-append c (p ++ l), length-append p l, g'.size))
slip_fresh {k} {last} {l₀} {left} (turn {parts = qs} d h x al) {i} {j} {f} {n} {b} {m} c p l q e g whole a g' o u lost =
    let v : take 8168 l₀ ≡ take 8168 (c ++ (p ++ l)) = ap (take 8168) e in
    let h' : 8168 ≤ length (c ++ (p ++ l)) = let y = ap length e in omega arith in
    let k' : 8168 ≤ length (p ++ l) = omega (arith, length-append p l, g'.size) in
    let s : d ≡ begun_at i = decides_unique (subst (λ (w : List ℕ). Decides unlocked w d) v (subst (λ (y : Lock). Decides y (take 8168 l₀) d) q x)) (front_begins c (p ++ l) g whole h' k' lost a) in
    let y : n - 1 + 1 ≡ n = omega arith in
    let gd : SyncGrid i (f + 1) (n - 1) (drop 1632 c) = grid_drop (subst (λ (t : ℕ). SyncGrid i f t c) (sym y) g) in
    let t : drop (used_bits d) l₀ ≡ drop 1632 c ++ (p ++ l) = ap₂ drop (ap used_bits s) e ∙ drop-append-le 1632 c (p ++ l) (omega (arith, g.size)) in
    let r = slip_aligned al (drop 1632 c) p l (ap (λ (y : Decision). y.lock) s) t gd (omega (arith, length-drop 1632 c)) g' o u lost in
    let bl = blocks_more i c (omega (arith, g.size)) in
    let pg : part_given (part_of d (take 8168 l₀)) ≡ begun (block_of i (take 1632 c) ∷ []) =
    ap₂ (λ (y : Decision) (w : List ℕ). part_given (part_of y w)) s v ∙ ap (λ (w : List ℕ). begun (block_of i w ∷ [])) (front_block c (p ++ l) g whole h' k' lost (omega arith)) in
    let sk : length (take d.skipped (take 8168 l₀)) ≡ 0 = ap (λ (y : Decision). length (take y.skipped (take 8168 l₀))) s in
    record {
      f = r.f;
      n = r.n;
      grid = r.grid;
      lock = r.lock;
      given =
          append_assoc (part_given (part_of d (take 8168 l₀))) (given_of qs) (followers (grid_blocks j left)) ∙ ap₂ (λ (a b : List GivenBlock). a ++ b) pg r.given
          ∙ ap (λ (s : List (List ℕ)). begun s ++ begun (grid_blocks j l)) (sym bl);
      skips = omega (arith, r.skips);
      part = r.part;
    }

-- ---- the theorem

-- Five whole blocks or more, then bits none of which passes for a sync and at which the lock is lost, then six blocks or more, each part straight or inverted, in
-- any pieces, and then the end. Exactly the bits between are skipped, and the first block behind them is given as one that begins anew.
pub slip_given : {i j : Bool} {f n b m : ℕ} (c p l : List ℕ) {given rest : List GivenBlock} {skipped sk : ℕ} {s t : BlockSync} → SyncGrid i f n c → length c ≡ 1632 * n → 4 < n → SyncGrid j b m l → 5 < m
    → Unsynced p l → keeps (locked_as i) (take 8168 (p ++ l)) ≡ false → SyncFeedings (c ++ (p ++ l)) given skipped s → Drained s rest sk t
    → SlipGiven i j c p l (given ++ rest) (skipped + sk) t
slip_given c p l g whole a g' o u lost fs dr =
    let z = every_history fs in
    let r = slip_fresh z.aligned c p l refl refl g whole a g' o u lost in
    let q = grid_drained r.grid (aligned_few z.aligned) (z.state ∙ ap (λ (k : Lock). holding k z.left) r.lock) dr in
    record {
      blocks = ap₂ (λ (u v : List GivenBlock). u ++ v) z.blocks q.blocks ∙ r.given;
      skips = ap₂ (λ (u v : ℕ). u + v) (z.skips ∙ r.skips) q.skips ∙ add-zero (length p);
      left = q.part_left ∙ r.part;
    }
