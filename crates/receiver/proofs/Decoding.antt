-- The blocks of a sender's packets, as the branches give them with at most eight bytes wrong in each, are corrected to what was sent.
-- Assumes nothing.
use mathlib.Core.Path.{◌≡◌, refl, sym, ap, ap₂, ◌∙◌, subst}
use mathlib.Core.List.{List, [], ◌∷◌, map}
use Prim.Native.Nat.{ℕ, zero, suc, ◌+◌, ◌%◌, ◌≤◌, ◌<◌}
use Prim.{tt, Unit}
use native.Mathlib.Nat.{not-suc-le-zero}
use native.Mathlib.Omega.{arith}
use lib.ListN.{length, get_or, take, drop, get_or-append}
use lib.Seq.{take_at}
use Rattle.std.proofs.Common.{Option, Some, Ok}
use Rattle.common.specs.Lists.{All, Bytes}
use Rattle.common.proofs.Entries.{bytes_of, bytes_entries}
use Rattle.reed_solomon.specs.Code.{differ, changes}
use Rattle.reed_solomon.specs.Encode.{encoded, check_bytes}
use Rattle.reed_solomon.specs.Decode.{Decoded, Decodes}
use Rattle.reed_solomon.specs.Marks.{DecodesMarked}
use Rattle.reed_solomon.proofs.LongDivision.{encoded_codeword}
use Rattle.reed_solomon.proofs.Laws.{Same, decodes_near}
use Rattle.randomizer.specs.Packet.{randomized, derandomized}
use Rattle.randomizer.specs.Stream.{Packet, randomized_from}
use Rattle.randomizer.proofs.Laws.{length_randomized, first_byte, bytes_randomized, back}
use Rattle.interleaver.specs.declared.branches.Side.TheVariants.{Receiving}
use Rattle.interleaver.specs.declared.branches.Branches.{Branches}
use Rattle.interleaver.proofs.Blocks.{length_out}
use Rattle.interleaver.specs.Stream.{run}
use Rattle.group_sync.specs.Group.{due_byte}
use Rattle.group_sync.specs.Stream.{sent_from}
use Rattle.receiver.specs.Receive.{NoMarks, delayed_block, delayed_marks, decoding_of}
use Rattle.receiver.specs.Run.{Call, after_call, lent_blocks, Plain}
use Rattle.receiver.specs.Begun.{lefts, decodings}
use Rattle.receiver.specs.declared.Receiver.{Receiver}
use Rattle.receiver.proofs.MarkDelays.{none_decodes}
use Rattle.receiver.proofs.Outcomes.{Unrefused, next_unrefused, branches_after_lem, unmarked_after}

-- ---- one packet as it is sent

module _ (n : ℕ) (p : List ℕ) (w : Packet p) where
  abbrev sent : List ℕ
  sent = randomized (n % 8) p

  small : n % 8 ≤ 7
  small = omega arith

  pub sent_length : length sent ≡ 188
  sent_length = length_randomized (n % 8) p small w.size

  pub sent_bytes_lem : Bytes sent
  sent_bytes_lem = bytes_of (randomized (n % 8) p) (bytes_randomized (n % 8) p small w.size (bytes_entries p w.bytes))

  -- the coded packet begins with the sync byte that is due, and gives the packet back
  coded_first : get_or (encoded sent) 0 0 ≡ due_byte (n % 8)
  coded_first =
      get_or-append sent (check_bytes sent) 0 0 (let e = sent_length in omega arith) ∙ first_byte (n % 8) p small w.size w.sync

  pub coded_back : derandomized (n % 8) (take 188 (encoded sent)) ≡ p
  coded_back = ap (derandomized (n % 8)) (take_at sent (check_bytes sent) 188 sent_length) ∙ back (n % 8) p small w.size w.sync

  -- a block near it is corrected to it
  module _ (came left : List ℕ) (decoded : Decoded) (size : length came ≡ 204) (near : differ came (encoded sent) ≤ 8) (d : Decodes came left decoded) where
    same : Same left (encoded sent) decoded (Ok (changes came (encoded sent)))
    same = decodes_near came (encoded sent) left decoded size (encoded_codeword sent sent_length sent_bytes_lem) near d

    near_left : left ≡ encoded sent
    near_left = same.block

    near_decoding : decoding_of decoded (get_or left 0 0) ≡ Some (due_byte (n % 8))
    near_decoding =
        ap₂ (λ (r : Decoded) (x : ℕ). decoding_of r x) same.answer (ap (λ (x : List ℕ). get_or x 0 0) near_left ∙ coded_first)

-- ---- a list of them

-- at most eight bytes of each block are wrong
abbrev pub Nears : List (List ℕ) → List (List ℕ) → Type 0
Nears [] ys = Unit {0}
Nears (x ∷ xs) [] = ⊥
Nears (x ∷ xs) (y ∷ ys) = (differ x y ≤ 8) × Nears xs ys

pub nears_of : (xs ys : List (List ℕ)) → length xs ≤ length ys → ((i : ℕ) → i < length xs → differ (get_or xs i []) (get_or ys i []) ≤ 8) → Nears xs ys
nears_of [] ys h f = tt
nears_of (x ∷ xs) [] h f = absurd (not-suc-le-zero h)
nears_of (x ∷ xs) (y ∷ ys) h f = (f zero (omega arith), nears_of xs ys (omega arith) (λ i l. f (suc i) (omega arith)))

-- the calls of a list decode to the coded packets of a sender from its packet n on
pub record CorrectedFrom (n : ℕ) (ps : List (List ℕ)) (cs : List Call) : Type 0 where
  pub blocks : lefts cs ≡ take (length cs) (map encoded (randomized_from n ps))
  pub accepted : decodings cs ≡ sent_from n (length cs)

-- a call without marks from a state without one decodes as without marks
pub plain_decodes : (s : Receiver) (c : Call) (cs : List Call) → Unrefused s (c ∷ cs) → NoMarks s → Plain c → Decodes (delayed_block s c.block) c.left c.decoded
plain_decodes s c cs u z e =
    none_decodes s (delayed_block s c.block) c.left c.decoded z
    (subst (λ (m : List ℕ). DecodesMarked (delayed_marks s m) (delayed_block s c.block) c.left c.decoded) e u.decodes.0)

corrected : (n : ℕ) (ps : List (List ℕ)) (cs : List Call) (s : Receiver) → Unrefused s cs → NoMarks s → All Plain cs → All Packet ps
    → Nears (run Receiving s.deinterleaver.branches (lent_blocks cs)) (map encoded (randomized_from n ps)) → CorrectedFrom n ps cs
unfolding run randomized_from
corrected n ps [] s u z pl ws q = record { blocks = refl; accepted = refl }
corrected n [] (c ∷ cs) s u z pl ws q = absurd q
corrected n (p ∷ ps) (c ∷ cs) s u z pl ws q =
    let k : length (delayed_block s c.block) ≡ 204 = length_out Receiving s.deinterleaver.branches c.block in
    let d = plain_decodes s c cs u z pl.0 in
    let r =
    corrected (n + 1) ps cs (after_call s c) (next_unrefused s c cs u) (unmarked_after s c cs u z pl.0) pl.1 ws.1
    (subst (λ (b : Branches). Nears (run Receiving b (lent_blocks cs)) (map encoded (randomized_from (n + 1) ps))) (sym (branches_after_lem s c cs u)) q.1) in
    record {
      blocks =
          ap₂ (λ (x : List ℕ) (xs : List (List ℕ)). x ∷ xs)
          (near_left n p ws.0 (delayed_block s c.block) c.left c.decoded k q.0 d) r.blocks;
      accepted =
          ap₂ (λ (x : Option ℕ) (xs : List (Option ℕ)). x ∷ xs)
          (near_decoding n p ws.0 (delayed_block s c.block) c.left c.decoded k q.0 d) r.accepted;
    }

-- after k calls
pub corrected_after : (k n : ℕ) (ps : List (List ℕ)) (cs : List Call) (s : Receiver) → Unrefused s cs → NoMarks s → All Plain cs → All Packet ps
    → Nears (drop k (run Receiving s.deinterleaver.branches (lent_blocks cs))) (map encoded (randomized_from n ps)) → CorrectedFrom n ps (drop k cs)
unfolding run
corrected_after zero n ps cs s u z pl ws q = corrected n ps cs s u z pl ws q
corrected_after (suc k) n ps [] s u z pl ws q = record { blocks = refl; accepted = refl }
corrected_after (suc k) n ps (c ∷ cs) s u z pl ws q =
    corrected_after k n ps cs (after_call s c) (next_unrefused s c cs u) (unmarked_after s c cs u z pl.0) pl.1 ws
    (subst (λ (b : Branches). Nears (drop k (run Receiving b (lent_blocks cs))) (map encoded (randomized_from n ps))) (sym (branches_after_lem s c cs u)) q)
