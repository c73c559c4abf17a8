-- The bytes of a state and the receiver of pieces that is read of them, by the laws of any table (state_bytes/proofs/States.antt); and that those of a receiver
-- which holds fewer bytes than a block has stand for it.
-- Assumes nothing.
use mathlib.Core.Path.{◌≡◌, refl, sym, ap, ◌∙◌}
use mathlib.Core.Bool.{true}
use mathlib.Core.List.{List, [], ◌∷◌, ◌++◌, append_assoc}
use Prim.Native.Nat.{ℕ, ◌-◌, ◌<◌}
use Prim.{tt}
use native.Mathlib.Omega.{arith}
use borrow.Author.Tests.{eq-eqb, lt-ltb}
use lib.ListN.{length, drop, replicate, length-append, length-replicate}
use lib.Seq.{drop_at}
use Rattle.common.specs.Lists.{Entries, largest, padded, placed}
use Rattle.common.proofs.Choice.{both_true}
use Rattle.common.proofs.Entries.{entries_append}
use Rattle.common.proofs.Largest.{largest_least, largest_most, largest_zeros}
use Rattle.state_bytes.specs.Table.{contiguous, fields_of}
use Rattle.state_bytes.proofs.Copies.{next, last, byte_part, part_byte}
use Rattle.state_bytes.proofs.Fields.{◌&◌, fields_in}
use Rattle.state_bytes.proofs.States.{Reads}
use Rattle.receiver.specs.Receive.{fresh_receiver, receiver_in_range}
use Rattle.receiver.specs.declared.Receiver.{Receiver}
use Rattle.receiver.proofs.Reached.{Sound, sound_range, sound_fresh}
use Rattle.receiver_state.specs.State as receiver
use Rattle.receiver_state.proofs.States as receiver-states
use Rattle.receiver_stream.specs.Feed.{holding, fresh_receiver_stream, receiver_stream_in_range}
use Rattle.receiver_stream.specs.declared.ReceiverStream.{ReceiverStream}
use Rattle.dvbs_receiver.specs.State.{pending, doubtful, held, layout, state_length, state_bytes, is_clear, in_range, StandsFor}
use Rattle.dvbs_receiver.specs.Reading.{state_of}

pub layout_contiguous : contiguous 0 layout state_length ≡ true
layout_contiguous = refl

-- the receiver of blocks is in range
pub blocks_range : (i : ReceiverStream) → in_range i ≡ true → receiver_in_range i.receiver ≡ true
blocks_range i r = (both_true _ _ (both_true (receiver_stream_in_range i) (is_clear i) r).0).0

pub reads : Reads layout state_length in_range state_of
unfolding state_of
reads = record {
  joined = layout_contiguous;
  fields = λ bytes n e.
      let r = (receiver-states.reads).fields bytes (omega arith) e in
      r.0
      & r.1.0
      & r.1.1.0
      & r.1.1.1.0
      & r.1.1.1.1.0
      & r.1.1.1.1.1.0
      & refl
      & refl
      & byte_part bytes 2730 (omega arith)
      & tt;
  again = λ bytes i r p.
      let blocks = (receiver-states.reads).again bytes i.receiver (blocks_range i r)
      (p.0 & p.1.0 & p.1.1.0 & p.1.1.1.0 & p.1.1.1.1.0 & p.1.1.1.1.1.0 & tt) in
      λ j. record {
        receiver = blocks j;
        pending = p.1.1.1.1.1.1.0 j;
        marks = p.1.1.1.1.1.1.1.0 j;
        held = part_byte bytes 2730 i.held p.1.1.1.1.1.1.1.1.0 j;
      };
}

-- ---- a receiver that is written

-- its fields put one after the other
pub all_put : (blocks pending marks held b₀ b₁ b₂ b₃ b₄ : List ℕ) → length blocks ≡ 2322 → length pending ≡ 204 → length marks ≡ 204 → length held ≡ 1
    → length b₀ ≡ 2731 → b₁ ≡ placed b₀ 0 blocks → b₂ ≡ placed b₁ 2322 pending → b₃ ≡ placed b₂ 2526 marks → b₄ ≡ placed b₃ 2730 held
    → b₄ ≡ blocks ++ pending ++ marks ++ held
all_put blocks pending marks held b₀ b₁ b₂ b₃ b₄ r p m k n e f g h =
    let e' = next [] blocks b₀ b₀ b₁ 0 2322 refl (omega arith) refl e in
    let f' = next blocks pending b₀ b₁ b₂ 2322 2526 r (omega arith) e' f in
    let l : length (blocks ++ pending) ≡ 2526 = length-append blocks pending ∙ omega arith in
    let g' = next (blocks ++ pending) marks b₀ b₂ b₃ 2526 2730 l (omega arith) f' g in
    let o : length (blocks ++ pending ++ marks) ≡ 2730 = length-append (blocks ++ pending) marks ∙ omega arith in
    last (blocks ++ pending ++ marks) held b₀ b₃ b₄ 2730 o (omega arith) g' h

-- its fields as they are put: those of the receiver of blocks first
pub fields_put : (i : ReceiverStream) (blocks bytes : List ℕ) → blocks ≡ receiver.state_bytes i.receiver → bytes ≡ blocks ++ i.pending ++ i.marks ++ (i.held ∷ [])
    → bytes ≡ state_bytes i
unfolding fields_of
fields_put i blocks bytes e f =
    let own = receiver.state_bytes i.receiver in
    f
    ∙ ap (λ (l : List ℕ). l ++ i.pending ++ i.marks ++ (i.held ∷ [])) e
    ∙ append_assoc (own ++ i.pending) i.marks (i.held ∷ [])
    ∙ append_assoc own i.pending (i.marks ++ (i.held ∷ []))
    ∙ sym (fields_in (λ (i : ReceiverStream). i.receiver) receiver.layout (pending ∷ doubtful ∷ held ∷ []) i)

module _ (s : Receiver) (b m : List ℕ) (few : length b < 204) (each : length m ≡ length b) (small : Entries (λ x. x < 2) m) where
  behind_zero : (l : List ℕ) → length l ≡ length b → largest (drop (length b) (padded 204 l)) ≡ 0
  behind_zero l e = ap largest (drop_at l (replicate (204 - length l) 0) (length b) e) ∙ largest_zeros (204 - length l)

  marks_small : largest (padded 204 m) < 2
  marks_small =
      let n = 204 - length m in
      let zeros : Entries (λ x. x < 2) (replicate n 0) = λ i. omega (arith, largest_least (replicate n 0) i, largest_zeros n) in
      let h = largest_most (padded 204 m) 1 (λ i l. let k = entries_append (λ x. x < 2) (omega arith) m (replicate n 0) small zeros i in omega arith) in
      omega arith

  padded_length : (l : List ℕ) → length l ≡ length b → length (padded 204 l) ≡ 204
  padded_length l e = length-append l (replicate (204 - length l) 0) ∙ omega (arith, length-replicate {A = ℕ} (204 - length l) 0)

  -- a receiver that holds fewer bytes than a block has, with their marks
  pub stands_holding : Sound s → StandsFor (state_bytes (holding s b m)) (holding s b m)
  stands_holding g =
      let z = (receiver-states.stands_written s g).sized in
      record {
        written = refl;
        sized =
            z.0
            & z.1.0
            & z.1.1.0
            & z.1.1.1.0
            & z.1.1.1.1.0
            & z.1.1.1.1.1.0
            & padded_length b refl
            & padded_length m each
            & refl
            & tt;
        range = simp (sound_range s g, lt-ltb _ _ few, eq-eqb _ _ (behind_zero b refl), eq-eqb _ _ (behind_zero m each), lt-ltb _ _ marks_small);
      }

pub stands_fresh : StandsFor (state_bytes fresh_receiver_stream) fresh_receiver_stream
unfolding fresh_receiver_stream
stands_fresh = stands_holding fresh_receiver [] [] (omega arith) refl (λ i. omega arith) sound_fresh
