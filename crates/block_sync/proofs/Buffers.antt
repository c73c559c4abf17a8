-- What feeding and the end of the bits make, from the parts that the code computes.
-- Assumes nothing.
use Rattle.std.specs.Prelude.{Option, Some, None, is_some, option_map}
use mathlib.Core.Path.{◌≡◌, refl, sym, ◌∙◌, ap, ap₂}
use mathlib.Core.Bool.{Bool}
use mathlib.Core.List.{List, [], ◌++◌, append-nil}
use Prim.Native.Nat.{ℕ, ◌+◌, ◌-◌, ◌≤◌, ◌<◌}
use native.Mathlib.Omega.{arith}
use lib.ListN.{length, take, drop, length-append, length-drop, drop_of_length-le}
use lib.Seq.{length-take-le, take_all}
use Rattle.common.specs.Lists.{padded}
use Rattle.block_sync.specs.Decision.{block_of, used_bits, block_given}
use Rattle.block_sync.specs.Feed.{holding, held_bits, turned_step}
use Rattle.block_sync.specs.declared.Decision.{Decision}
use Rattle.block_sync.specs.declared.BlockSync.{BlockSync}
use Rattle.block_sync.specs.declared.SyncStep.{SyncStep}
use Rattle.block_sync.specs.declared.GivenBlock.{GivenBlock}

-- a block is given where one is decided
pub given_same : {A B : Type 0} (g : Option A) (f : A → B) → is_some (option_map f g) ≡ is_some g
given_same (Some b) f = refl
given_same None f = refl

pub given_block : (d : Decision) (l bytes : List ℕ) (b : Bool) → d.begins ≡ Some b → bytes ≡ block_of d.lock.inverted (take (d.skipped + 1632 - d.skipped) (drop d.skipped l))
    → Some (record { begins = b; bytes = bytes }) ≡ block_given d l
given_block d l bytes b g e =
    let n : d.skipped + 1632 - d.skipped ≡ 1632 = omega arith in
    let p : bytes ≡ block_of d.lock.inverted (take 1632 (drop d.skipped l)) = e ∙ ap (λ (k : ℕ). block_of d.lock.inverted (take k (drop d.skipped l))) n in
    ap (λ (k : List ℕ). Some (record { begins = b; bytes = k })) p
    ∙ sym (ap (option_map (λ (b : Bool). record { begins = b; bytes = block_of d.lock.inverted (take 1632 (drop d.skipped l)) })) g)

-- the parts of a turn
pub turn_is : (taken : ℕ) (d : Decision) (l : List ℕ) (block : Option GivenBlock) (rest : List ℕ) (used : ℕ) → block ≡ block_given d l → used ≡ used_bits d → used_bits d ≤ length l
    → rest ≡ padded 8168 (take (length l - used) (drop used l) ++ [])
    → ◌≡◌ {A = SyncStep} (record { taken = taken; skipped = d.skipped; block = block; sync = record { lock = d.lock; bits = rest; held = length l - used } }) (turned_step taken d l)
turn_is taken d l block rest used b u h r =
    let x : take (length l - used) (drop used l) ≡ drop (used_bits d) l =
    ap (λ (n : ℕ). take (length l - n) (drop n l)) u ∙ take_all (length l - used_bits d) (drop (used_bits d) l) (omega (arith, length-drop (used_bits d) l)) in
    let y : rest ≡ padded 8168 (drop (used_bits d) l) = r ∙ ap (padded 8168) (append-nil (take (length l - used) (drop used l)) ∙ x) in
    let z : length l - used ≡ length (drop (used_bits d) l) = omega (arith, length-drop (used_bits d) l) in
    ap₂ (λ (k : Option GivenBlock) (s : BlockSync). record { taken = taken; skipped = d.skipped; block = k; sync = s }) b
    (ap₂ (λ (k : List ℕ) (n : ℕ). record { lock = d.lock; bits = k; held = n }) y z)

-- ---- feeding

pub held_length : (s : BlockSync) → length s.bits ≡ 8168 → s.held ≤ 8168 → length (held_bits s) ≡ s.held
held_length s e h = length-take-le s.held s.bits (omega arith)

pub gathers : (s : BlockSync) (piece buffer : List ℕ) → length s.bits ≡ 8168 → s.held ≤ 8168 → buffer ≡ padded 8168 (held_bits s ++ piece)
    → ◌≡◌ {A = BlockSync} (record { lock = s.lock; bits = buffer; held = s.held + length piece }) (holding s.lock (held_bits s ++ piece))
gathers s piece buffer e h b =
    ap₂ (λ (k : List ℕ) (n : ℕ). record { lock = s.lock; bits = k; held = n }) b (sym (length-append (held_bits s) piece ∙ ap (λ (n : ℕ). n + length piece) (held_length s e h)))

pub part_length : (s : BlockSync) (piece : List ℕ) → 8168 - s.held ≤ length piece → length (take (8168 - s.held) piece) ≡ 8168 - s.held
part_length s piece h = length-take-le (8168 - s.held) piece h

pub full_length : (s : BlockSync) (piece : List ℕ) → length s.bits ≡ 8168 → s.held < 8168 → 8168 - s.held ≤ length piece
    → length (held_bits s ++ take (8168 - s.held) piece) ≡ 8168
full_length s piece e h k = omega (arith, length-append (held_bits s) (take (8168 - s.held) piece), held_length s e (omega arith), part_length s piece k)

-- the buffer, filled
pub filled_is : (s : BlockSync) (piece exit : List ℕ) → length s.bits ≡ 8168 → s.held + length piece ≡ 8168 → exit ≡ take s.held s.bits ++ piece ++ drop (s.held + length piece) s.bits
    → exit ≡ held_bits s ++ piece
filled_is s piece exit e h w =
    w ∙ ap (λ (l : List ℕ). held_bits s ++ piece ++ l) (drop_of_length-le s.bits {i = s.held + length piece} (omega arith)) ∙ append-nil (held_bits s ++ piece)
