-- What taking a block leaves of a receiver, for a caller that tests the receiver once and then takes many blocks.
-- Assumes nothing.
use mathlib.Core.Path.{◌≡◌, sym, ap, ap₂, ◌∙◌, subst}
use mathlib.Core.List.{List}
use mathlib.Core.Logic.{◌⊎◌, inl, inr}
use mathlib.Core.Bool.{true}
use Prim.Native.Nat.{ℕ}
use lib.ListN.{length, length-replicate}
use Rattle.reed_solomon.specs.Marks.{no_marks}
use Rattle.interleaver.specs.Branch.{laid}
use Rattle.interleaver.specs.Block.{branches_after}
use Rattle.interleaver.specs.declared.branches.Side.TheVariants.{Receiving}
use Rattle.reception_counts.proofs.Ranges.{counts_range}
use Rattle.receiver.specs.Receive.{NoMarks, receiver_in_range, state_after, Ready, ReceivesMarked}
use Rattle.receiver.specs.Run.{Call}
use Rattle.receiver.specs.declared.Receiver.{Receiver}
use Rattle.receiver.proofs.Calls.{state_range, ready_state}
use Rattle.receiver.proofs.MarkDelays.{none_stays}
use Rattle.receiver.proofs.Reached.{Sound, sound_range, sound_call, Refused, ready_or_refused, refused_state, CallDecoded, call_decoded}

-- the lengths of a receiver's lists
pub record Sized (s : Receiver) : Type 0 where
  pub cells : length s.deinterleaver.branches.cells ≡ 1122
  pub positions : length s.deinterleaver.branches.positions ≡ 12
  pub marks : length s.marks ≡ 1122

-- lengths as they must be, and in range if it was
pub record Kept (s after : Receiver) : Type 0 where
  pub sized : Sized after
  pub range : receiver_in_range s ≡ receiver_in_range after

module _ (s : Receiver) (block marks output : List ℕ) (answer : ℕ) (next : Receiver) (exit : List ℕ) (z : Sized s) (v : ReceivesMarked s block marks output answer next exit) where
  abbrev m : CallDecoded s block marks output answer next exit
  m = call_decoded v

  sound : receiver_in_range s ≡ true → Sound s
  sound e =
      let g = state_range s e in
      record {
        branches = record { cells = z.cells; positions = z.positions; range = g.branches };
        marks = z.marks;
        small = g.marks;
        sync = g.sync;
        counts = counts_range s.counts g.counts;
      }

  abbrev call : Call
  call = record { block = block; marks = marks; output = output; left = m.left; decoded = m.decoded }

  pub kept_by : Kept s next
  kept_by = by (ready_or_refused s block marks output)
    where
      by : Ready s block marks output ⊎ Refused s block marks output → Kept s next
      by (inl y) =
          let g = subst Sound (sym m.state) (sound_call s call (sound y.range) m.decodes) in
          record {
            sized = record { cells = g.branches.cells; positions = g.branches.positions; marks = g.marks };
            range = y.range ∙ sym (sound_range next g);
          }
      by (inr f) =
          let e : next ≡ s = m.state ∙ refused_state s block marks output m.left m.decoded f in
          record { sized = subst Sized (sym e) z; range = ap receiver_in_range (sym e) }

  -- where no mark is in the delays and none comes, none is in them afterwards
  pub still_none : NoMarks s → marks ≡ no_marks → NoMarks next
  unfolding state_after
  still_none n e = by (ready_or_refused s block marks output)
    where
      by : Ready s block marks output ⊎ Refused s block marks output → NoMarks next
      by (inl y) =
          let p = s.deinterleaver.branches.positions in
          ap (λ (a : Receiver). a.marks) (m.state ∙ ready_state s block marks output y m.left m.decoded)
          ∙ ap₂ (λ (k l : List ℕ). (branches_after Receiving (laid k p) l).cells) n e
          ∙ none_stays p (record { cells = length-replicate {A = ℕ} 1122 0; positions = z.positions; range = (state_range s y.range).branches })
      by (inr f) = ap (λ (a : Receiver). a.marks) (m.state ∙ refused_state s block marks output m.left m.decoded f) ∙ n
