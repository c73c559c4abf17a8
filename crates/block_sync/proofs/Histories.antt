-- Piece after piece: what comes out follows from all the bits that came.
-- Assumes nothing.
use Rattle.answer.specs.declared.Refusal.{Refusal}
use Rattle.std.specs.Prelude.{Result, Ok, IsOkAnd}
use mathlib.Core.Path.{◌≡◌, refl, sym, ◌∙◌, ap, ap₂, subst}
use mathlib.Core.List.{List, [], ◌∷◌, ◌++◌, map, flatten, append-nil, append_assoc}
use Prim.Native.Nat.{ℕ, ◌+◌, ◌-◌, ◌<◌}
use native.Mathlib.Nat.{add-zero, zero-add}
use native.Mathlib.Omega.{arith}
use lib.ListN.{length, take, drop, replicate, length-append, length-drop}
use lib.Seq.{length-take-le, take-length, take-append_seam}
use Rattle.block_sync.specs.Decision.{unlocked, Decides, used_bits}
use Rattle.block_sync.specs.Feed.{holding, held_bits, fresh_block_sync, turned_step, TurnsBuffer, FeedsSync, FinishesSync}
use Rattle.block_sync.specs.Feed as feed
use Rattle.block_sync.specs.History.{step_given, SyncFeedings, fresh, feeding, SyncEndings, none, ending, Part, part_of, part_bits, part_given, given_of, skipped_of, Aligned, few, SyncCame, Accounted, SameSync}
use Rattle.block_sync.specs.declared.GivenBlock.{GivenBlock}
use Rattle.block_sync.specs.declared.Lock.{Lock}
use Rattle.block_sync.specs.declared.Decision.{Decision}
use Rattle.block_sync.specs.declared.BlockSync.{BlockSync}
use Rattle.block_sync.specs.declared.SyncStep.{SyncStep}
use Rattle.block_sync.proofs.Decisions.{skipped_within, decides_unique}
use Rattle.block_sync.proofs.Parts.{Parted, stop, step, aligned_parted, parted_append, part_given_lem, parted_whole, parted_sized, parted_linked, parts_counted, aligned_joined, aligned_unique, aligned_few, aligned_full}

-- ---- what is held

pub held_back : (s : BlockSync) (left : List ℕ) → s ≡ holding s.lock left → held_bits s ≡ left
held_back s left e = ap₂ (λ (n : ℕ) (l : List ℕ). take n l) (ap (λ (x : BlockSync). x.held) e) (ap (λ (x : BlockSync). x.bits) e) ∙ take-append_seam left (replicate (8168 - length left) 0)

held_count_lem : (s : BlockSync) (left : List ℕ) → s ≡ holding s.lock left → s.held ≡ length left
held_count_lem s left e = ap (λ (x : BlockSync). x.held) e

-- ---- lists of parts

pub given_append : (a b : List Part) → given_of (a ++ b) ≡ given_of a ++ given_of b
given_append [] b = refl
given_append (p ∷ a) b = ap (λ (x : List GivenBlock). part_given p ++ x) (given_append a b) ∙ sym (append_assoc (part_given p) (given_of a) (given_of b))

pub skipped_append : (a b : List Part) → skipped_of (a ++ b) ≡ skipped_of a + skipped_of b
skipped_append [] b = sym (zero-add (skipped_of b))
skipped_append (p ∷ a) b = let i = skipped_append a b in omega arith

-- what a decision on bits gives
turn_given : (taken : ℕ) (d : Decision) (l : List ℕ) (r : SyncStep) → r ≡ turned_step taken d l → step_given r ≡ given_of (part_of d l ∷ [])
turn_given taken d l r e = ap step_given e ∙ part_given_lem d l ∙ sym (append-nil (part_given (part_of d l)))

turn_skipped : {k : Lock} (taken : ℕ) (d : Decision) (l : List ℕ) (r : SyncStep) → Decides k l d → r ≡ turned_step taken d l → r.skipped ≡ skipped_of (part_of d l ∷ [])
turn_skipped taken d l r h e = ap (λ (x : SyncStep). x.skipped) e ∙ sym (length-take-le d.skipped l (skipped_within h)) ∙ sym (add-zero (length (take d.skipped l)))

-- ---- one call

gathers_came : {bits : List ℕ} {given : List GivenBlock} {skipped : ℕ} {s : BlockSync} → SyncCame bits given skipped s → (piece : List ℕ) → s.held + length piece < 8168
    → SyncCame (bits ++ piece) given skipped (holding s.lock (held_bits s ++ piece))
gathers_came {bits} {given} {skipped} {s} c piece h =
    let e = held_back s c.left c.state in
    let n = held_count_lem s c.left c.state in
    record {
      parts = c.parts;
      left = held_bits s ++ piece;
      aligned =
          subst (λ (ps : List Part). Aligned unlocked (bits ++ piece) ps s.lock (held_bits s ++ piece)) (append-nil c.parts)
          (aligned_joined c.aligned piece
          (subst (λ (x : List ℕ). Aligned s.lock (x ++ piece) [] s.lock (held_bits s ++ piece)) e
          (few (omega (arith, length-append (held_bits s) piece, ap length e)))));
      state = refl;
      blocks = c.blocks;
      skips = c.skips;
    }

turns_came : {bits : List ℕ} {given : List GivenBlock} {skipped : ℕ} {s : BlockSync} → SyncCame bits given skipped s → (part : List ℕ) → length (held_bits s ++ part) ≡ 8168
    → (d : Decision) → Decides s.lock (held_bits s ++ part) d
    → SyncCame (bits ++ part) (given ++ given_of (part_of d (held_bits s ++ part) ∷ [])) (skipped + skipped_of (part_of d (held_bits s ++ part) ∷ [])) (holding d.lock (drop (used_bits d) (held_bits s ++ part)))
turns_came {bits} {given} {skipped} {s} c part n d h =
    let l = held_bits s ++ part in
    let e = held_back s c.left c.state in
    record {
      parts = c.parts ++ (part_of d l ∷ []);
      left = drop (used_bits d) l;
      aligned =
          aligned_joined c.aligned part
          (subst (λ (x : List ℕ). Aligned s.lock (x ++ part) (part_of d l ∷ []) d.lock (drop (used_bits d) l)) e (aligned_full n h));
      state = refl;
      blocks = ap (λ (x : List GivenBlock). x ++ given_of (part_of d l ∷ [])) c.blocks ∙ sym (given_append c.parts (part_of d l ∷ []));
      skips = ap (λ (x : ℕ). x + skipped_of (part_of d l ∷ [])) c.skips ∙ sym (skipped_append c.parts (part_of d l ∷ []));
    }

pub feeds_came : {bits : List ℕ} {given : List GivenBlock} {skipped : ℕ} {s : BlockSync} → SyncCame bits given skipped s → (piece : List ℕ) (r : SyncStep) → FeedsSync s piece (Ok r)
    → SyncCame (bits ++ take r.taken piece) (given ++ step_given r) (skipped + r.skipped) r.sync
feeds_came {bits} {given} {skipped} {s} c piece r (feed.FeedsSync.gathered h e) =
    subst (λ (x : SyncStep). SyncCame (bits ++ take x.taken piece) (given ++ step_given x) (skipped + x.skipped) x.sync) (sym e)
    (rw (take-length piece, append-nil given, add-zero skipped) (gathers_came c piece h))
feeds_came {bits} {given} {skipped} {s} c piece r (feed.FeedsSync.turned h k t) =
    let n : ℕ = 8168 - s.held in
    let l = held_bits s ++ take n piece in
    let d = t.decision in
    let x = aligned_few c.aligned in
    let m : length l ≡ 8168 =
    omega (arith, length-append (held_bits s) (take n piece), ap length (held_back s c.left c.state), held_count_lem s c.left c.state, length-take-le n piece (omega arith)) in
    let y = turns_came c (take n piece) m d t.decides in
    let g = turn_given n d l r t.result in
    let o = turn_skipped n d l r t.decides t.result in
    let z : SyncCame (bits ++ take n piece) (given ++ step_given r) (skipped + r.skipped) (holding d.lock (drop (used_bits d) l)) = rw (g, o) y in
    subst (λ (f : SyncStep). SyncCame (bits ++ take f.taken piece) (given ++ step_given r) (skipped + r.skipped) f.sync) (sym t.result) z

-- ---- the theorems

pub fresh_came : SyncCame [] [] 0 fresh_block_sync
unfolding fresh_block_sync
fresh_came = record { parts = []; left = []; aligned = few {l = []} (omega arith); state = refl; blocks = refl; skips = refl }

-- whatever the pieces, what came out is what is decided of all the bits
pub every_history : {bits : List ℕ} {given : List GivenBlock} {skipped : ℕ} {s : BlockSync} → SyncFeedings bits given skipped s → SyncCame bits given skipped s
every_history fresh = fresh_came
every_history (feeding piece r before f) = feeds_came (every_history before) piece r f

came_unique : {bits : List ℕ} {given given' : List GivenBlock} {skipped skipped' : ℕ} {s s' : BlockSync} → SyncCame bits given skipped s → SyncCame bits given' skipped' s'
    → SameSync given given' skipped skipped' s s'
came_unique c c' =
    let u = aligned_unique c.aligned c'.aligned in
    record {
      blocks = c.blocks ∙ ap given_of u.same_parts ∙ sym c'.blocks;
      skips = c.skips ∙ ap skipped_of u.same_parts ∙ sym c'.skips;
      state = c.state ∙ ap₂ holding u.same_lock u.same_left ∙ sym c'.state;
    }

-- any two cuttings of the same bits
pub any_pieces : {bits : List ℕ} {given given' : List GivenBlock} {skipped skipped' : ℕ} {s s' : BlockSync} → SyncFeedings bits given skipped s → SyncFeedings bits given' skipped' s'
    → SameSync given given' skipped skipped' s s'
any_pieces p q = came_unique (every_history p) (every_history q)

-- ---- each call's promise decides its result

turns_unique : {taken : ℕ} {k : Lock} {l : List ℕ} {r r' : SyncStep} → TurnsBuffer taken k l r → TurnsBuffer taken k l r' → r ≡ r'
turns_unique {taken} {l = l} t t' = t.result ∙ ap (λ (d : Decision). turned_step taken d l) (decides_unique t.decides t'.decides) ∙ sym t'.result

pub feeds_unique : {s : BlockSync} {piece : List ℕ} {r r' : Result SyncStep Refusal} → FeedsSync s piece r → FeedsSync s piece r' → r ≡ r'
feeds_unique (feed.FeedsSync.refused h) (feed.FeedsSync.refused h') = refl
feeds_unique (feed.FeedsSync.refused h) (feed.FeedsSync.gathered h' e') = absurd (omega arith)
feeds_unique (feed.FeedsSync.refused h) (feed.FeedsSync.turned h' k' t') = absurd (omega arith)
feeds_unique (feed.FeedsSync.gathered h e) (feed.FeedsSync.refused h') = absurd (omega arith)
feeds_unique (feed.FeedsSync.gathered h e) (feed.FeedsSync.gathered h' e') = ap (λ (r : SyncStep). Ok r) (e ∙ sym e')
feeds_unique (feed.FeedsSync.gathered h e) (feed.FeedsSync.turned h' k' t') = absurd (omega arith)
feeds_unique (feed.FeedsSync.turned h k t) (feed.FeedsSync.refused h') = absurd (omega arith)
feeds_unique (feed.FeedsSync.turned h k t) (feed.FeedsSync.gathered h' e') = absurd (omega arith)
feeds_unique (feed.FeedsSync.turned h k t) (feed.FeedsSync.turned h' k' t') = ap (λ (r : SyncStep). Ok r) (turns_unique t t')

pub finishes_unique : {s : BlockSync} {r r' : Result SyncStep Refusal} → FinishesSync s r → FinishesSync s r' → r ≡ r'
finishes_unique (feed.FinishesSync.refused h) (feed.FinishesSync.refused h') = refl
finishes_unique (feed.FinishesSync.refused h) (feed.FinishesSync.turned h' t') = absurd (omega arith)
finishes_unique (feed.FinishesSync.turned h t) (feed.FinishesSync.refused h') = absurd (omega arith)
finishes_unique (feed.FinishesSync.turned h t) (feed.FinishesSync.turned h' t') = ap (λ (r : SyncStep). Ok r) (turns_unique t t')

-- a call takes at least a bit of a piece that has one, and all of it where the buffer is not filled
pub takes_some : {s : BlockSync} {piece : List ℕ} {r : Result SyncStep Refusal} → FeedsSync s piece r → s.held < 8168 → 0 < length piece → IsOkAnd r (λ d. 0 < d.taken)
takes_some (feed.FeedsSync.refused h) k n = absurd (omega arith)
takes_some (feed.FeedsSync.gathered h e) k n = let t = ap (λ (x : SyncStep). x.taken) e in omega arith
takes_some (feed.FeedsSync.turned h k' t) k n = let u = ap (λ (x : SyncStep). x.taken) t.result in omega arith

-- ---- the end of the bits

-- what calls at the end come to
record EndCame (k : Lock) (start : List ℕ) (given : List GivenBlock) (skipped : ℕ) (t : BlockSync) : Type 0 where
  pub parts : List Part
  pub left : List ℕ
  pub parted : Parted k start parts t.lock left
  pub state : t ≡ holding t.lock left
  pub fewer : length left < 8168
  pub blocks : given ≡ given_of parts
  pub skips : skipped ≡ skipped_of parts

finish_came : {k : Lock} {start : List ℕ} {given : List GivenBlock} {skipped : ℕ} {t : BlockSync} → EndCame k start given skipped t → (r : SyncStep) → FinishesSync t (Ok r)
    → EndCame k start (given ++ step_given r) (skipped + r.skipped) r.sync
finish_came {k} {start} {given} {skipped} {t} c r (feed.FinishesSync.turned h b) =
    let l = c.left in
    let d = b.decision in
    let e = held_back t l c.state in
    let x : Decides t.lock l d = subst (λ (z : List ℕ). Decides t.lock z d) e b.decides in
    let y : r ≡ turned_step 0 d l = b.result ∙ ap (turned_step 0 d) e in
    let a = take-length l in
    let p : Parted t.lock l (part_of d l ∷ []) d.lock (drop (used_bits d) l) =
    subst (λ (w : List ℕ). Parted t.lock l (part_of d w ∷ []) d.lock (drop (used_bits d) l)) a
    (step d (length l) (omega arith) (subst (λ (w : List ℕ). Decides t.lock w d) (sym a) x) stop) in
    let z : EndCame k start (given ++ step_given r) (skipped + r.skipped) (holding d.lock (drop (used_bits d) l)) =
    record {
      parts = c.parts ++ (part_of d l ∷ []);
      left = drop (used_bits d) l;
      parted = parted_append c.parted p;
      state = refl;
      fewer = omega (arith, length-drop (used_bits d) l, c.fewer);
      blocks = ap₂ (λ (u v : List GivenBlock). u ++ v) c.blocks (turn_given 0 d l r y) ∙ sym (given_append c.parts (part_of d l ∷ []));
      skips = ap₂ (λ (u v : ℕ). u + v) c.skips (turn_skipped 0 d l r x y) ∙ sym (skipped_append c.parts (part_of d l ∷ []));
    } in
    subst (λ (f : SyncStep). EndCame k start (given ++ step_given r) (skipped + r.skipped) f.sync) (sym y) z

endings_came : {bits : List ℕ} {given : List GivenBlock} {skipped : ℕ} {s : BlockSync} {more : List GivenBlock} {n : ℕ} {t : BlockSync} → SyncCame bits given skipped s → SyncEndings s more n t → EndCame unlocked bits (given ++ more) (skipped + n) t
endings_came {bits} {given} {skipped = skipped} {s = s} c none = record {
  parts = c.parts;
  left = c.left;
  parted = aligned_parted c.aligned;
  state = c.state;
  fewer = aligned_few c.aligned;
  blocks = append-nil given ∙ c.blocks;
  skips = add-zero skipped ∙ c.skips;
}
endings_came {bits} {given} {skipped = skipped} c (ending {given = more} {skipped = n} r e f) =
    subst (λ (g : List GivenBlock). EndCame unlocked bits g (skipped + (n + r.skipped)) r.sync) (append_assoc given more (step_given r))
    (subst (λ (m : ℕ). EndCame unlocked bits ((given ++ more) ++ step_given r) m r.sync) (shuffle skipped n r.skipped) (finish_came (endings_came c e) r f))
  where
    shuffle : (a b c : ℕ) → a + b + c ≡ a + (b + c)
    shuffle a b c = omega arith

-- Whatever the pieces, and however often the end is asked for: every bit that came is in one block, or skipped, or held, in the order in which they came.
pub every_bit : {bits : List ℕ} {given more : List GivenBlock} {skipped n : ℕ} {s t : BlockSync} → SyncFeedings bits given skipped s → SyncEndings s more n t
    → Accounted bits (given ++ more) (skipped + n) (held_bits t)
every_bit {bits} {given} {more} {skipped} {n} {s} {t} f e =
    let c = endings_came (every_history f) e in
    let w = parted_whole c.parted in
    let z = parted_sized c.parted in
    let h = sym (held_back t c.left c.state) in
    let a = ap length w ∙ length-append (flatten (map part_bits c.parts)) c.left in
    let b = parts_counted c.parts z in
    subst (Accounted bits (given ++ more) (skipped + n)) h
    (record {
      parts = c.parts;
      whole = w;
      sized = z;
      blocks = c.blocks;
      linked = parted_linked c.parted;
      skips = c.skips;
      counted = omega (arith, c.skips, ap length c.blocks);
    })
