-- The parts that decisions cut bits into: they make up the bits, each block has its bits, and one that does not begin anew follows the one before it.
-- Assumes nothing.
use Rattle.std.specs.Prelude.{Option, Some, None, is_some, unwrap_or, option_map, option_to_list}
use mathlib.Core.Path.{◌≡◌, refl, sym, ◌∙◌, ap, ap₂, subst}
use mathlib.Core.Bool.{Bool, true, false}
use mathlib.Core.List.{List, [], ◌∷◌, ◌++◌, map, flatten, append-nil, append_assoc}
use Prim.Native.Nat.{ℕ, ◌+◌, ◌*◌, ◌≤◌, ◌<◌}
use Prim.{tt}
use native.Mathlib.Nat.{add-zero}
use native.Mathlib.Omega.{arith}
use lib.ListN.{length, take, drop, length-append, length-drop, take-append-drop}
use lib.Seq.{length-take-le, take-take, take-add, take-append-le, drop-append-le, take_all}
use Rattle.common.specs.Choice.{pick}
use Rattle.common.proofs.Choice.{false_true}
use Rattle.common.specs.Lists.{All}
use Rattle.block_sync.specs.Decision.{keeps, Decides, follows, begins, searches, used_bits, block_of, block_given}
use Rattle.block_sync.specs.History.{Part, part_of, part_bits, part_given, given_of, skipped_of, Sized, Linked, Aligned, few, turn}
use Rattle.block_sync.specs.declared.GivenBlock.{GivenBlock}
use Rattle.block_sync.specs.declared.Lock.{Lock}
use Rattle.block_sync.specs.declared.Decision.{Decision}
use Rattle.block_sync.proofs.Decisions.{used_within, used_some, decides_unique}

-- ---- decisions on any number of the bits left, one after the other

pub data Parted : Lock → List ℕ → List Part → Lock → List ℕ → Type 0 where
  stop : {k : Lock} {l : List ℕ} → Parted k l [] k l
  step : {k last : Lock} {l left : List ℕ} {parts : List Part} (d : Decision) (n : ℕ) → n ≤ length l → Decides k (take n l) d
      → Parted d.lock (drop (used_bits d) l) parts last left → Parted k l (part_of d (take n l) ∷ parts) last left

pub aligned_parted : {k last : Lock} {l left : List ℕ} {parts : List Part} → Aligned k l parts last left → Parted k l parts last left
aligned_parted (few h) = stop
aligned_parted (turn d h e a) = step d 8168 h e (aligned_parted a)

pub parted_append : {k m last : Lock} {l h left : List ℕ} {parts more : List Part} → Parted k l parts m h → Parted m h more last left → Parted k l (parts ++ more) last left
parted_append stop q = q
parted_append (step d n h e p) q = step d n h e (parted_append p q)

-- ---- one decision

by_given : (g : Bool) (sk : ℕ) (w : List ℕ) → take sk w ++ pick g (take 1632 (drop sk w)) [] ≡ take (sk + pick g 1632 0) w
by_given true sk w = sym (take-add sk 1632 w)
by_given false sk w = append-nil (take sk w) ∙ ap (λ (k : ℕ). take k w) (sym (add-zero sk))

part_bits_lem : (d : Decision) (w : List ℕ) → part_bits (part_of d w) ≡ take (used_bits d) w
part_bits_lem d w = by_given (is_some d.begins) d.skipped w

within : {k : Lock} (l : List ℕ) {d : Decision} (n : ℕ) → n ≤ length l → Decides k (take n l) d → used_bits d ≤ n
within l n h e = let u = used_within e in omega (arith, length-take-le n l h)

part_front : {k : Lock} (l : List ℕ) {d : Decision} (n : ℕ) → n ≤ length l → Decides k (take n l) d → part_bits (part_of d (take n l)) ++ drop (used_bits d) l ≡ l
part_front l {d} n h e =
    ap (λ (x : List ℕ). x ++ drop (used_bits d) l) (part_bits_lem d (take n l) ∙ take-take (used_bits d) n l (within l n h e)) ∙ take-append-drop (used_bits d) l

size_by : (g : Bool) (sk : ℕ) (w : List ℕ) → sk + pick g 1632 0 ≤ length w → length (pick g (take 1632 (drop sk w)) []) ≡ pick g 1632 0
size_by true sk w h = length-take-le 1632 (drop sk w) (omega (arith, length-drop sk w))
size_by false sk w h = refl

part_sized : {k : Lock} {w : List ℕ} {d : Decision} → Decides k w d → Sized (part_of d w)
part_sized {w = w} {d} e = size_by (is_some d.begins) d.skipped w (used_within e)

given_by : (g : Option Bool) (i : Bool) (x : List ℕ) → option_to_list (option_map {U = GivenBlock} (λ b. record { begins = b; bytes = block_of i x }) g)
    ≡ pick (is_some g) (record { begins = unwrap_or g false; bytes = block_of i (pick (is_some g) x []) } ∷ []) []
given_by (Some b) i x = refl
given_by None i x = refl

-- a decision gives the block of its part
pub part_given_lem : (d : Decision) (w : List ℕ) → option_to_list (block_given d w) ≡ part_given (part_of d w)
part_given_lem d w = given_by d.begins d.lock.inverted (take 1632 (drop d.skipped w))

-- blocks are being given exactly after one was
given_locked : {k : Lock} {w : List ℕ} {d : Decision} → Decides k w d → is_some d.begins ≡ d.lock.locked
given_locked (follows e r) = ap (λ (x : Decision). is_some x.begins) r ∙ sym (ap (λ (x : Decision). x.lock.locked) r)
given_locked (begins at e f r) = ap (λ (x : Decision). is_some x.begins) r ∙ sym (ap (λ (x : Decision). x.lock.locked) r)
given_locked (searches e f r) = ap (λ (x : Decision). is_some x.begins) r ∙ sym (ap (λ (x : Decision). x.lock.locked) r)

locked_by : (a b : Bool) → pick a b false ≡ true → a ≡ true
locked_by true b e = refl
locked_by false b e = false_true e

keeps_locked : (k : Lock) (w : List ℕ) → keeps k w ≡ true → k.locked ≡ true
unfolding keeps
keeps_locked k w e = locked_by k.locked _ e

part_linked : {k : Lock} {w : List ℕ} {d : Decision} → Decides k w d → is_some d.begins ≡ true → unwrap_or d.begins false ≡ false → (k.locked ≡ true) × (take d.skipped w ≡ [])
part_linked {k} {w} (follows e r) g b = (keeps_locked k w e, ap (λ (x : Decision). take x.skipped w) r)
part_linked (begins at e f r) g b = false_true (sym b ∙ ap (λ (x : Decision). unwrap_or x.begins false) r)
part_linked (searches e f r) g b = false_true (sym (ap (λ (x : Decision). is_some x.begins) r) ∙ g)

-- ---- all of them

pub parted_whole : {k last : Lock} {l left : List ℕ} {parts : List Part} → Parted k l parts last left → l ≡ flatten (map part_bits parts) ++ left
unfolding flatten
parted_whole stop = refl
parted_whole {l = l} {left} (step {parts = ps} d n h e p) =
    sym (part_front l n h e) ∙ ap (λ (x : List ℕ). part_bits (part_of d (take n l)) ++ x) (parted_whole p)
    ∙ sym (append_assoc (part_bits (part_of d (take n l))) (flatten (map part_bits ps)) left)

pub parted_sized : {k last : Lock} {l left : List ℕ} {parts : List Part} → Parted k l parts last left → All Sized parts
parted_sized stop = tt
parted_sized (step d n h e p) = (part_sized e, parted_sized p)

pub parted_linked : {k last : Lock} {l left : List ℕ} {parts : List Part} → Parted k l parts last left → Linked k.locked parts
parted_linked stop = tt
parted_linked (step {parts = ps} d n h e p) = (part_linked e, subst (λ (b : Bool). Linked b ps) (sym (given_locked e)) (parted_linked p))

one : (g : Bool) (x : GivenBlock) → length (pick g (x ∷ []) []) * 1632 ≡ pick g 1632 0
one true x = refl
one false x = refl

pub parts_counted : (parts : List Part) → All Sized parts → skipped_of parts + 1632 * length (given_of parts) ≡ length (flatten (map part_bits parts))
unfolding flatten
parts_counted [] s = refl
parts_counted (p ∷ ps) s =
    let a = length-append (part_bits p) (flatten (map part_bits ps)) in
    let b = length-append p.skipped p.bits in
    let c = length-append (part_given p) (given_of ps) in
    let o = one p.given (record { begins = p.begins; bytes = block_of p.inverted p.bits }) in
    let i = parts_counted ps s.1 in
    omega (arith, s.0)

-- ---- decisions on full buffers

-- what is decided of some bits, and then of those left with more of them, is what is decided of all
pub aligned_joined : {k m last : Lock} {a h left : List ℕ} {parts more : List Part} → Aligned k a parts m h → (b : List ℕ) → Aligned m (h ++ b) more last left
    → Aligned k (a ++ b) (parts ++ more) last left
aligned_joined (few x) b q = q
aligned_joined {k} {last = last} {a} {left = left} {more = more} (turn {parts = ps} d h e p) b q =
    let t = take-append-le 8168 a b h in
    let u : used_bits d ≤ length a = let w = within a 8168 h e in omega arith in
    subst (λ (w : List ℕ). Aligned k (a ++ b) (part_of d w ∷ (ps ++ more)) last left) t
    (turn d (omega (arith, length-append a b)) (subst (λ (w : List ℕ). Decides k w d) (sym t) e)
    (subst (λ (x : List ℕ). Aligned d.lock x (ps ++ more) last left) (sym (drop-append-le (used_bits d) a b u)) (aligned_joined p b q)))

pub record SameAligned (parts parts' : List Part) (last last' : Lock) (left left' : List ℕ) : Type 0 where
  pub same_parts : parts ≡ parts'
  pub same_lock : last ≡ last'
  pub same_left : left ≡ left'

-- one result
pub aligned_unique : {k last last' : Lock} {l left left' : List ℕ} {parts parts' : List Part} → Aligned k l parts last left → Aligned k l parts' last' left'
    → SameAligned parts parts' last last' left left'
aligned_unique (few h) (few h') = record { same_parts = refl; same_lock = refl; same_left = refl }
aligned_unique (few h) (turn d h' e a) = absurd (omega arith)
aligned_unique (turn d h' e a) (few h) = absurd (omega arith)
aligned_unique {k} {last' = last'} {l} {left' = left'} (turn d h e a) (turn {parts = ps'} d' h' e' a') =
    let s : d' ≡ d = decides_unique e' e in
    let i = aligned_unique a (subst (λ (x : Decision). Aligned x.lock (drop (used_bits x) l) ps' last' left') s a') in
    record {
      same_parts = ap₂ (λ (x : Decision) (ps : List Part). part_of x (take 8168 l) ∷ ps) (sym s) i.same_parts;
      same_lock = i.same_lock;
      same_left = i.same_left;
    }

pub aligned_few : {k last : Lock} {l left : List ℕ} {parts : List Part} → Aligned k l parts last left → length left < 8168
aligned_few (few h) = h
aligned_few (turn d h e a) = aligned_few a

-- a full buffer: one decision
pub aligned_full : {k : Lock} {l : List ℕ} {d : Decision} → length l ≡ 8168 → Decides k l d → Aligned k l (part_of d l ∷ []) d.lock (drop (used_bits d) l)
aligned_full {k} {l} {d} e h =
    let t = take_all 8168 l (omega arith) in
    let u = used_some h (omega arith) in
    subst (λ (w : List ℕ). Aligned k l (part_of d w ∷ []) d.lock (drop (used_bits d) l)) t
    (turn d (omega arith) (subst (λ (w : List ℕ). Decides k w d) (sym t) h) (few (omega (arith, length-drop (used_bits d) l))))
