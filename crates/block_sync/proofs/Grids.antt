-- Bits whose sync bytes are all in their places: every block is given, the first as one that begins anew and the others as followers, and no bit is skipped.
-- Assumes nothing.
use Rattle.std.specs.Prelude.{Option, Some, is_some}
use mathlib.Core.Path.{◌≡◌, refl, sym, ◌∙◌, ap, ap₂, subst}
use mathlib.Core.Bool.{Bool, true, false}
use mathlib.Core.List.{List, [], ◌∷◌, ◌++◌, map, append_assoc}
use Prim.Native.Nat.{ℕ, ◌+◌, ◌-◌, ◌*◌, ◌%◌, ◌≤◌, ◌<◌}
use native.Mathlib.Decide.{ℕ_discrete, dec_lt}
use native.Mathlib.Omega.{arith}
use borrow.Author.Tests.{lt-ltb, le-ltb}
use lib.Dec.{ltb}
use lib.ListN.{length, take, drop, length-drop}
use lib.Seq.{length-take-le, take_all, take-take}
use Rattle.common.specs.Choice.{pick}
use Rattle.common.proofs.Choice.{false_true}
use Rattle.common.proofs.Chunks.{chunks_few, chunks_more}
use Rattle.sync_search.specs.Sync.{byte_at, first}
use Rattle.block_sync.specs.Decision.{is_sync, sync_or_end, in_a_step, polarity_at, keeps, locked_as, unlocked, Decides, follows, begins, searches, used_bits, block_of}
use Rattle.block_sync.specs.Feed.{holding, held_bits, turned_step}
use Rattle.block_sync.specs.Feed as feed
use Rattle.block_sync.specs.History.{step_given, SyncFeedings, Part, part_of, part_given, given_of, skipped_of, Aligned, few, turn}
use Rattle.block_sync.specs.declared.GivenBlock.{GivenBlock}
use Rattle.block_sync.specs.Grid.{sync_byte, turned_byte, SyncGrid, grid_blocks, followers, begun, Drained, done, more, GridGiven}
use Rattle.block_sync.specs.declared.Lock.{Lock}
use Rattle.block_sync.specs.declared.Decision.{Decision}
use Rattle.block_sync.specs.declared.BlockSync.{BlockSync}
use Rattle.block_sync.specs.declared.SyncStep.{SyncStep}
use Rattle.block_sync.proofs.Tests.{polarity_short}
use Rattle.block_sync.proofs.Buffers.{given_same}
use Rattle.block_sync.proofs.Decisions.{decides_unique}
use Rattle.block_sync.proofs.Majority.{SyncHere, sync_is, majority, five_found, byte_take, byte_drop}
use Rattle.block_sync.proofs.Parts.{aligned_few}
use Rattle.block_sync.proofs.Histories.{held_back, every_history}

-- ---- the grid

pub grid_drop : {i : Bool} {f n : ℕ} {l : List ℕ} → SyncGrid i f (n + 1) l → SyncGrid i (f + 1) n (drop 1632 l)
grid_drop {i} {f} {n} {l} g = record {
  size = omega (arith, length-drop 1632 l, g.size);
  part = omega (arith, length-drop 1632 l, g.size, g.part);
  syncs = λ b h.
      let e : 1632 + 1632 * b ≡ 1632 * (b + 1) = omega arith in
      let k : f + (b + 1) ≡ f + 1 + b = omega arith in
      byte_drop 1632 l (1632 * b) ∙ ap (byte_at l) e ∙ g.syncs (b + 1) (omega (arith, length-drop 1632 l, g.size)) ∙ ap (λ (x : ℕ). turned_byte i (sync_byte x)) k;
}

-- a sync byte of it, also in the first bits of it
pub here : {i : Bool} {f n : ℕ} (l : List ℕ) → SyncGrid i f n l → (b : ℕ) → b < n → SyncHere i (f + b) l (1632 * b)
unfolding SyncHere
here l g b h = g.syncs b (omega (arith, g.size))

here_in : {i : Bool} {f n : ℕ} (l : List ℕ) → SyncGrid i f n l → (m b : ℕ) → m ≤ length l → 1632 * b + 8 ≤ m → SyncHere i (f + b) (take m l) (1632 * b)
unfolding SyncHere
here_in l g m b h k = byte_take m l (1632 * b) k ∙ g.syncs b (omega arith)

first_here : {i : Bool} {f n : ℕ} (l : List ℕ) → SyncGrid i f n l → (m : ℕ) → m ≤ length l → 8 ≤ m → SyncHere i f (take m l) 0
first_here {i} {f} l g m h k = let e : f + 0 ≡ f = omega arith in subst (λ (x : ℕ). SyncHere i x (take m l) 0) e (here_in l g m 0 h k)

-- ---- what is decided of it

-- one of the next four blocks begins with a sync byte: the first
step_first : (l : List ℕ) → is_sync l 0 ≡ true → in_a_step l ≡ true
unfolding in_a_step sync_or_end
step_first l e = ap (λ (t : Bool). pick t true (pick (sync_or_end l 1632) true (pick (sync_or_end l 3264) true (sync_or_end l 4896)))) (by (ltb (length l) 8))
  where
    by : (s : Bool) → pick s true (is_sync l 0) ≡ true
    by true = refl
    by false = e

pub keeps_first : (i : Bool) (l : List ℕ) → 1632 ≤ length l → is_sync l 0 ≡ true → keeps (locked_as i) l ≡ true
unfolding keeps
keeps_first i l h e = ap₂ (λ (s t : Bool). pick s false t) (le-ltb (length l) 1632 h) (step_first l e)

-- the polarity stays where fewer than three blocks are there, and else it is the one that their majority tells
window_length_lem : (m : ℕ) (l : List ℕ) → m ≤ length l → length (take m l) ≡ m
window_length_lem m l h = length-take-le m l h

polarity_kept : {i : Bool} {f n : ℕ} (l : List ℕ) → SyncGrid i f n l → (m : ℕ) → m ≤ length l → 8 ≤ m → (before : Bool) → (length (take m l) < 3272 → before ≡ i)
    → polarity_at (take m l) 0 before ≡ i
polarity_kept {i} {f} {n} l g m h k before b = by (dec_lt (length (take m l)) 3272)
  where
    by : Dec (length (take m l) < 3272) → polarity_at (take m l) 0 before ≡ i
    by (yes s) = sym (polarity_short (take m l) 0 before s) ∙ b s
    by (no s) =
        let w = window_length_lem m l h in
        majority i f (take m l) 0 before (omega (arith, s)) (first_here l g m h k) (here_in l g m 1 h (omega arith)) (here_in l g m 2 h (omega arith))

abbrev pub followed : Bool → Decision
followed i = record { skipped = 0; begins = Some false; lock = locked_as i }

abbrev pub begun_at : Bool → Decision
begun_at i = record { skipped = 0; begins = Some true; lock = locked_as i }

-- while blocks are given, the next one follows
grid_follows : {i : Bool} {f n : ℕ} (l : List ℕ) → SyncGrid i f n l → (m : ℕ) → m ≤ length l → 1632 ≤ m → Decides (locked_as i) (take m l) (followed i)
grid_follows {i} {f} {n} l g m h k =
    let w = window_length_lem m l h in
    follows (keeps_first i (take m l) (omega arith) (sync_is i f (take m l) 0 (first_here l g m h (omega arith))))
    (ap (λ (x : Bool). record { skipped = 0; begins = Some false; lock = locked_as x }) (sym (polarity_kept l g m h (omega arith) i (λ x. refl))))

-- and with no lock, five sync bytes are found at once
grid_begins : {i : Bool} {f n : ℕ} (l : List ℕ) → SyncGrid i f n l → (m : ℕ) → m ≤ length l → 6536 ≤ m → Decides unlocked (take m l) (begun_at i)
unfolding keeps
grid_begins {i} {f} {n} l g m h k =
    let w = window_length_lem m l h in
    begins 0 refl
    (first 0 (omega arith) (omega arith)
    (five_found i f (take m l) 0 (first_here l g m h (omega arith)) (here_in l g m 1 h (omega arith)) (here_in l g m 2 h (omega arith))
    (here_in l g m 3 h (omega arith)) (here_in l g m 4 h (omega arith)))
    (λ q a b. absurd (omega arith)))
    (ap (λ (x : Bool). record { skipped = 0; begins = Some true; lock = locked_as x }) (sym (polarity_kept l g m h (omega arith) false (λ x. absurd (omega arith)))))

-- ---- the blocks of it

pub blocks_none : (i : Bool) (l : List ℕ) → length l < 1632 → grid_blocks i l ≡ []
unfolding grid_blocks
blocks_none i l e = ap (map (block_of i)) (chunks_few 1632 (omega arith) l e)

pub blocks_more : (i : Bool) (l : List ℕ) → 1632 ≤ length l → grid_blocks i l ≡ block_of i (take 1632 l) ∷ grid_blocks i (drop 1632 l)
unfolding grid_blocks
blocks_more i l h = ap (map (block_of i)) (chunks_more 1632 (omega arith) l h)

-- what a part of it gives
follow_given : (i : Bool) (m : ℕ) (l : List ℕ) → 1632 ≤ m → part_given (part_of (followed i) (take m l)) ≡ followers (block_of i (take 1632 l) ∷ [])
follow_given i m l h = ap (λ (x : List ℕ). followers (block_of i x ∷ [])) (take-take 1632 m l h)

begun_given : (i : Bool) (m : ℕ) (l : List ℕ) → 1632 ≤ m → part_given (part_of (begun_at i) (take m l)) ≡ begun (block_of i (take 1632 l) ∷ [])
begun_given i m l h = ap (λ (x : List ℕ). begun (block_of i x ∷ [])) (take-take 1632 m l h)

-- ---- as the bits come

-- while blocks are given: so many of them are given as followers, and the others are left
pub record GridLeft (i : Bool) (l : List ℕ) (parts : List Part) (last : Lock) (left : List ℕ) : Type 0 where
  pub f : ℕ
  pub n : ℕ
  pub grid : SyncGrid i f n left
  pub lock : last ≡ locked_as i
  pub given : given_of parts ++ followers (grid_blocks i left) ≡ followers (grid_blocks i l)
  pub skips : skipped_of parts ≡ 0
  pub part : length left % 1632 ≡ length l % 1632

pub grid_locked : {i : Bool} {f n : ℕ} {l left : List ℕ} {parts : List Part} {k last : Lock} → SyncGrid i f n l → k ≡ locked_as i → Aligned k l parts last left → GridLeft i l parts last left
grid_locked {i} {f} {n} {l} g q (few h) = record { f = f; n = n; grid = g; lock = q; given = refl; skips = refl; part = refl }
grid_locked {i} {f} {n} {l} {left} {k = k} {last} g q (turn {parts = ps} d h e a) =
    let o : 0 < n = omega (arith, g.part) in
    let x : d ≡ followed i = decides_unique (subst (λ (y : Lock). Decides y (take 8168 l) d) q e) (grid_follows l g 8168 h (omega arith)) in
    let p : n - 1 + 1 ≡ n = omega arith in
    let g' : SyncGrid i (f + 1) (n - 1) (drop 1632 l) = grid_drop (subst (λ (y : ℕ). SyncGrid i f y l) (sym p) g) in
    let u : drop (used_bits d) l ≡ drop 1632 l = ap (λ (y : Decision). drop (used_bits y) l) x in
    let r = grid_locked {f = f + 1} {n = n - 1} (subst (SyncGrid i (f + 1) (n - 1)) (sym u) g') (ap (λ (y : Decision). y.lock) x) a in
    let b = blocks_more i l (omega arith) ∙ ap (λ (y : List ℕ). block_of i (take 1632 l) ∷ grid_blocks i y) (sym u) in
    let c : part_given (part_of d (take 8168 l)) ≡ followers (block_of i (take 1632 l) ∷ []) =
    ap (λ (y : Decision). part_given (part_of y (take 8168 l))) x ∙ follow_given i 8168 l (omega arith) in
    let z : length (take d.skipped (take 8168 l)) ≡ 0 = ap (λ (y : Decision). length (take y.skipped (take 8168 l))) x in
    record {
      f = r.f;
      n = r.n;
      grid = r.grid;
      lock = r.lock;
      given =
          append_assoc (part_given (part_of d (take 8168 l))) (given_of ps) (followers (grid_blocks i left))
          ∙ ap₂ (λ (u v : List GivenBlock). u ++ v) c r.given ∙ sym (ap followers b);
      skips = omega (arith, r.skips);
      part = r.part ∙ (let ld = ap length u ∙ length-drop 1632 l in omega arith);
    }

-- from a fresh value on: at least six blocks
grid_fresh : {i : Bool} {f n : ℕ} {l left : List ℕ} {parts : List Part} {last : Lock} → SyncGrid i f n l → 5 < n → Aligned unlocked l parts last left
    → (b : ℕ) × (m : ℕ) × SyncGrid i b m left × (last ≡ locked_as i) × (given_of parts ++ followers (grid_blocks i left) ≡ begun (grid_blocks i l)) × (skipped_of parts ≡ 0) × (length left % 1632 ≡ length l % 1632)
grid_fresh {i} {f} {n} {l} g o (few h) = absurd (omega (arith, g.size))
grid_fresh {i} {f} {n} {l} {left} {last = last} g o (turn {parts = ps} d h e a) =
    let x : d ≡ begun_at i = decides_unique e (grid_begins l g 8168 h (omega arith)) in
    let p : n - 1 + 1 ≡ n = omega arith in
    let g' : SyncGrid i (f + 1) (n - 1) (drop 1632 l) = grid_drop (subst (λ (y : ℕ). SyncGrid i f y l) (sym p) g) in
    let u : drop (used_bits d) l ≡ drop 1632 l = ap (λ (y : Decision). drop (used_bits y) l) x in
    let r = grid_locked {f = f + 1} {n = n - 1} (subst (SyncGrid i (f + 1) (n - 1)) (sym u) g') (ap (λ (y : Decision). y.lock) x) a in
    let b = blocks_more i l (omega arith) ∙ ap (λ (y : List ℕ). block_of i (take 1632 l) ∷ grid_blocks i y) (sym u) in
    let c : part_given (part_of d (take 8168 l)) ≡ begun (block_of i (take 1632 l) ∷ []) =
    ap (λ (y : Decision). part_given (part_of y (take 8168 l))) x ∙ begun_given i 8168 l (omega arith) in
    let z : length (take d.skipped (take 8168 l)) ≡ 0 = ap (λ (y : Decision). length (take y.skipped (take 8168 l))) x in (
      r.f,
      r.n,
      r.grid,
      r.lock,
      append_assoc (part_given (part_of d (take 8168 l))) (given_of ps) (followers (grid_blocks i left)) ∙ ap₂ (λ (v w : List GivenBlock). v ++ w) c r.given ∙ sym (ap begun b),
      omega (arith, r.skips),
      r.part ∙ (let ld = ap length u ∙ length-drop 1632 l in omega arith),
    )

-- ---- at the end

-- less than a block is left: no block
short_decides : {i : Bool} {l : List ℕ} {d : Decision} → length l < 1632 → Decides (locked_as i) l d → (is_some d.begins ≡ false) × (d.skipped ≡ 0) × (used_bits d ≡ 0)
unfolding keeps
short_decides {i} {l} e (follows k r) = false_true (sym (ap (λ (t : Bool). pick t false (in_a_step l)) (lt-ltb (length l) 1632 (omega arith))) ∙ k)
short_decides {i} {l} e (begins at k (first at' a b s p) r) = absurd (omega arith)
short_decides {i} {l} e (searches k f r) =
    let z : length l - 6535 ≡ 0 = omega arith in
    (ap (λ (x : Decision). is_some x.begins) r, ap (λ (x : Decision). x.skipped) r ∙ z, ap used_bits r ∙ ap (λ (x : ℕ). x + 0) z)

pub record GridDrained (i : Bool) (left : List ℕ) (given : List GivenBlock) (skipped : ℕ) (t : BlockSync) : Type 0 where
  pub blocks : given ≡ followers (grid_blocks i left)
  pub skips : skipped ≡ 0
  pub part_left : t.held ≡ length left % 1632

pub grid_drained : {i : Bool} {f n : ℕ} {s t : BlockSync} {left : List ℕ} {given : List GivenBlock} {skipped : ℕ} → SyncGrid i f n left → length left < 8168 → s ≡ holding (locked_as i) left
    → Drained s given skipped t → GridDrained i left given skipped t
grid_drained {i} {f} {n} {s} {t} {left} g h e (done r (feed.FinishesSync.turned x y) z) = by (ℕ_discrete n 0)
  where
    k : s.lock ≡ locked_as i
    k = ap (λ (b : BlockSync). b.lock) e

    w : held_bits s ≡ left
    w = held_back s left (e ∙ ap (λ (b : Lock). holding b left) (sym k))

    d : Decision
    d = y.decision

    c : Decides (locked_as i) left d
    c = subst (λ (b : Lock). Decides b left d) k (subst (λ (l : List ℕ). Decides s.lock l d) w y.decides)

    by : Dec (n ≡ 0) → GridDrained i left [] r.skipped r.sync
    by (yes q) =
        let v : length left < 1632 = omega (arith, g.part) in
        let u = short_decides v c in
        record {
          blocks = sym (ap followers (blocks_none i left v));
          skips = ap (λ (b : SyncStep). b.skipped) y.result ∙ u.1;
          part_left = ap (λ (b : SyncStep). b.sync.held) y.result ∙ ap (λ (l : List ℕ). length (drop (used_bits d) l)) w ∙ (let ld = length-drop (used_bits d) left in omega arith);
        }
    by (no q) =
        let a = take_all (length left) left (omega arith) in
        let v : d ≡ followed i = decides_unique (subst (λ (l : List ℕ). Decides (locked_as i) l d) (sym a) c) (grid_follows left g (length left) (omega arith) (omega (arith, g.size, q))) in
        false_true (sym (ap (λ (b : Option GivenBlock). is_some b) z) ∙ (ap (λ (b : SyncStep). is_some b.block) y.result ∙ (given_same d.begins _ ∙ ap (λ (b : Decision). is_some b.begins) v)))
grid_drained {i} {f} {n} {s} {t} {left} g h e (more {given = gs} {skipped = sk} r (feed.FinishesSync.turned x y) z m) = by (ℕ_discrete n 0) (λ b c l g h e. grid_drained {i = i} {f = b} {n = c} {left = l} g h e m)
  where
    k : s.lock ≡ locked_as i
    k = ap (λ (b : BlockSync). b.lock) e

    w : held_bits s ≡ left
    w = held_back s left (e ∙ ap (λ (b : Lock). holding b left) (sym k))

    d : Decision
    d = y.decision

    c : Decides (locked_as i) left d
    c = subst (λ (b : Lock). Decides b left d) k (subst (λ (l : List ℕ). Decides s.lock l d) w y.decides)

    by : Dec (n ≡ 0) → ((b c : ℕ) (l : List ℕ) → SyncGrid i b c l → length l < 8168 → r.sync ≡ holding (locked_as i) l → GridDrained i l gs sk t)
        → GridDrained i left (step_given r ++ gs) (r.skipped + sk) t
    by (yes q) rec =
        let u = short_decides (omega (arith, g.part)) c in
        false_true (sym u.0 ∙ sym (given_same d.begins _) ∙ sym (ap (λ (b : SyncStep). is_some b.block) y.result) ∙ z)
    by (no q) rec =
        let o : 1632 ≤ length left = omega (arith, g.size, q) in
        let a = take_all (length left) left (omega arith) in
        let v : d ≡ followed i = decides_unique (subst (λ (l : List ℕ). Decides (locked_as i) l d) (sym a) c) (grid_follows left g (length left) (omega arith) o) in
        let p : n - 1 + 1 ≡ n = omega arith in
        let g' : SyncGrid i (f + 1) (n - 1) (drop 1632 left) = grid_drop (subst (λ (b : ℕ). SyncGrid i f b left) (sym p) g) in
        let res : r ≡ turned_step 0 (followed i) left = y.result ∙ ap₂ (turned_step 0) v w in
        let ih = rec (f + 1) (n - 1) (drop 1632 left) g' (omega (arith, length-drop 1632 left)) (ap (λ (b : SyncStep). b.sync) res) in
        record {
          blocks = ap₂ (λ (u v : List GivenBlock). u ++ v) (ap step_given res) ih.blocks ∙ sym (ap followers (blocks_more i left o));
          skips = ap₂ (λ (u v : ℕ). u + v) (ap (λ (b : SyncStep). b.skipped) res) ih.skips;
          part_left = ih.part_left ∙ (let ld = length-drop 1632 left in omega arith);
        }

-- ---- the theorem

-- Six blocks or more, straight or inverted, in any pieces, and then the end: all of them are given, in order, the first as one that begins anew, and no bit
-- is skipped or left.
pub grid_given : {i : Bool} {f n : ℕ} {l : List ℕ} {given rest : List GivenBlock} {skipped sk : ℕ} {s t : BlockSync} → SyncGrid i f n l → 5 < n → SyncFeedings l given skipped s
    → Drained s rest sk t → GridGiven i l (given ++ rest) (skipped + sk) t
grid_given {i} {f} {n} {l} {given} {rest} {skipped} {sk} {s} {t} g o h dr =
    let c = every_history h in
    let r = grid_fresh g o c.aligned in
    let q = grid_drained r.2 (aligned_few c.aligned) (c.state ∙ ap (λ (k : Lock). holding k c.left) r.3) dr in
    record {
      blocks = ap₂ (λ (u v : List GivenBlock). u ++ v) c.blocks q.blocks ∙ r.4;
      skips = ap₂ (λ (u v : ℕ). u + v) (c.skips ∙ r.5) q.skips;
      left = q.part_left ∙ r.6;
    }
