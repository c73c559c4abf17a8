-- The bytes of a state and the sender that is read of them, by the laws of any table (state_bytes/proofs/States.antt); and that the bytes after a call stand
-- for the sender after it.
-- Assumes nothing.
use mathlib.Core.Path.{◌≡◌, refl, ◌∙◌}
use mathlib.Core.Bool.{Bool, true, false}
use mathlib.Core.List.{List, [], ◌∷◌, ◌++◌, append_assoc}
use Prim.Native.Nat.{ℕ}
use Prim.{tt}
use native.Mathlib.Omega.{arith}
use borrow.Author.Tests.{eqb-true}
use lib.Dec.{eqb}
use lib.ListN.{length, length-append}
use Rattle.common.specs.Choice.{pick}
use Rattle.common.specs.Lists.{placed}
use Rattle.state_bytes.specs.Table.{contiguous, fields_of}
use Rattle.state_bytes.proofs.Copies.{next, last, byte_part, part_byte}
use Rattle.state_bytes.proofs.Fields.{◌&◌}
use Rattle.state_bytes.proofs.States.{Reads}
use Rattle.interleaver.specs.declared.branches.Side.TheVariants.{Sending}
use Rattle.interleaver.proofs.Blocks.{Good}
use Rattle.puncturing.specs.Mode.{mode_of}
use Rattle.puncturing.proofs.Places.{sent_known}
use Rattle.puncturing.proofs.WellFormed.{well_formed_lem}
use Rattle.inner_code.proofs.Coder.{in_range_by_lem, formed}
use Rattle.sender.specs.Input.{packet_for}
use Rattle.sender.specs.Send.{fresh_sender, is_sent, sender_after, send_refusal, send_sender}
use Rattle.sender.specs.declared.Sender.{Sender}
use Rattle.sender.proofs.Stages.{InRange, in_range_lem, range_test}
use Rattle.sender.proofs.Ready.{Ready, ready_range, ready_fresh, ready_after}
use Rattle.dvbs_sender.specs.State.{layout, state_length, state_bytes, in_range, StandsFor}
use Rattle.dvbs_sender.specs.Reading.{state_of}

pub layout_contiguous : contiguous 0 layout state_length ≡ true
layout_contiguous = refl

pub reads : Reads layout state_length in_range state_of
unfolding state_of
reads = record {
  joined = layout_contiguous;
  fields = λ bytes n e.
      refl
      & refl
      & byte_part bytes 1134 (omega arith)
      & byte_part bytes 1135 (omega arith)
      & byte_part bytes 1136 (omega arith)
      & byte_part bytes 1137 (omega arith)
      & byte_part bytes 1138 (omega arith)
      & tt;
  again = λ bytes s r p.
      λ i. record {
        place = part_byte bytes 1134 s.place p.1.1.0 i;
        interleaver = record { branches = record { cells = p.0 i; positions = p.1.0 i } };
        coder = record {
          rate = part_byte bytes 1135 s.coder.rate p.1.1.1.0 i;
          memory = part_byte bytes 1136 s.coder.memory p.1.1.1.1.0 i;
          place = part_byte bytes 1137 s.coder.place p.1.1.1.1.1.0 i;
          held = part_byte bytes 1138 s.coder.held p.1.1.1.1.1.1.0 i;
        };
      };
}

-- ---- a sender that is written

-- its fields put one after the other
pub all_put : (cells positions numbers b₀ b₁ b₂ b₃ : List ℕ) → length cells ≡ 1122 → length positions ≡ 12 → length numbers ≡ 5 → length b₀ ≡ 1139
    → b₁ ≡ placed b₀ 0 cells → b₂ ≡ placed b₁ 1122 positions → b₃ ≡ placed b₂ 1134 numbers → b₃ ≡ cells ++ positions ++ numbers
all_put cells positions numbers b₀ b₁ b₂ b₃ c p k n e f g =
    let e' = next [] cells b₀ b₀ b₁ 0 1122 refl (omega arith) refl e in
    let f' = next cells positions b₀ b₁ b₂ 1122 1134 c (omega arith) e' f in
    let l : length (cells ++ positions) ≡ 1134 = length-append cells positions ∙ omega arith in
    last (cells ++ positions) numbers b₀ b₂ b₃ 1134 l (omega arith) f' g

-- its fields as they are put: the five numbers are side by side
pub fields_put : (s : Sender) (bytes : List ℕ)
    → bytes
    ≡ s.interleaver.branches.cells ++ s.interleaver.branches.positions
    ++ (s.place ∷ s.coder.rate ∷ s.coder.memory ∷ s.coder.place ∷ s.coder.held ∷ [])
    → bytes ≡ state_bytes s
unfolding fields_of
fields_put s bytes e = e ∙ append_assoc s.interleaver.branches.cells s.interleaver.branches.positions _

-- one whose arrays are whole and whose numbers are in range
written : (s : Sender) → Good Sending s.interleaver.branches → in_range s ≡ true → StandsFor (state_bytes s) s
written s g r = record { written = refl; sized = g.cells & g.positions & refl & refl & refl & refl & refl & tt; range = r }

ready_stands : (s : Sender) → Ready mode_of s → StandsFor (state_bytes s) s
ready_stands s g = written s g.branches (range_test mode_of s (ready_range s g))

-- in a mode that is sent the bytes of a fresh sender stand for it
pub stands_fresh : (mode : ℕ) → (mode_of mode).sent ≡ true → StandsFor (state_bytes (fresh_sender mode)) (fresh_sender mode)
stands_fresh mode q = ready_stands (fresh_sender mode) (ready_fresh mode (well_formed_lem mode (sent_known mode q)) q)

-- ---- the sender after a call

module _ (bytes : List ℕ) (s : Sender) (h : StandsFor bytes s) where
  pub range_of : InRange mode_of s
  range_of = in_range_lem mode_of s h.range

  ready_of : is_sent mode_of s ≡ true → Ready mode_of s
  ready_of q =
      let c = in_range_by_lem (mode_of s.coder.rate) s.coder range_of.coder in
      record {
        place = range_of.place;
        branches = record { cells = h.sized.0; positions = h.sized.1.0; range = range_of.branches };
        formed = formed s.coder c;
        sent = q;
        coder = c;
      }

  -- a call that is not refused passed the second test
  passed : (a b : Bool) (rest : ℕ) → pick a (pick b rest 6) 5 ≡ 0 → b ≡ true
  passed true true rest e = refl
  passed true false rest e = absurd (omega arith)
  passed false b rest e = absurd (omega arith)

  pub stands_next : (input output : List ℕ) → StandsFor (state_bytes (send_sender mode_of s input output)) (send_sender mode_of s input output)
  stands_next input output = by (eqb (send_refusal mode_of s input output) 0) refl
    where
      after : Sender
      after = sender_after mode_of s (packet_for input)

      by : (t : Bool) → eqb (send_refusal mode_of s input output) 0 ≡ t → StandsFor (state_bytes (pick t after s)) (pick t after s)
      by true e =
          ready_stands after (ready_after s (packet_for input) (ready_of (passed (in_range s) (is_sent mode_of s) _ (eqb-true _ 0 e))))
      by false e = record { written = refl; sized = h.sized; range = h.range }
