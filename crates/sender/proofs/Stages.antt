-- One packet through the four stages: what each call of a stage leaves is the next part of the definition.
-- Assumes nothing.
use mathlib.Core.Path.{◌≡◌, refl, ap, sym, ◌∙◌}
use mathlib.Core.Bool.{Bool, true, false}
use mathlib.Core.List.{List, ◌++◌, append-nil}
use Prim.Native.Nat.{ℕ, ◌≤◌}
use native.Mathlib.Omega.{arith}
use borrow.Author.Tests.{eq-eqb, le-ltb, ltb-false}
use lib.Dec.{ltb, eqb}
use lib.ListN.{length, get_or, drop, length-append, drop_of_length-le}
use Rattle.common.specs.Choice.{pick}
use Rattle.common.proofs.Choice.{both_true, false_true}
use Rattle.reed_solomon.specs.Encode.{check_bytes, encode_output}
use Rattle.reed_solomon.proofs.LongDivision.{check_remainder}
use Rattle.randomizer.specs.Packet.{randomized, randomize_output}
use Rattle.randomizer.proofs.Laws.{length_randomized, randomize_done}
use Rattle.interleaver.specs.Branch as branch
use Rattle.interleaver.specs.Block.{branches_after}
use Rattle.interleaver.specs.declared.branches.Side.TheVariants.{Sending}
use Rattle.interleaver.specs.declared.branches.Branches.{Branches}
use Rattle.interleaver.proofs.Blocks.{length_out}
use Rattle.interleaver.specs.Call.{pass_branches, pass_output}
use Rattle.puncturing.specs.Mode.{Mode, mode_of}
use Rattle.puncturing.specs.WellFormed.{WellFormed}
use Rattle.inner_code.specs.Step as coder
use Rattle.inner_code.specs.Encode as inner
use Rattle.inner_code.specs.declared.InnerCoder.{InnerCoder}
use Rattle.inner_code.proofs.Coder as range
use Rattle.sender.specs.Input.{packet_for, sent_number}
use Rattle.sender.specs.Send.{sender_in_range, coded_packet, sent_block, sent_symbols, sent_count, sender_after, is_sent, send_refusal, Sends}
use Rattle.sender.specs.declared.Sender.{Sender}

-- what the test of the ranges tells
pub record InRange (t : ℕ → Mode) (s : Sender) : Type 0 where
  pub place : s.place ≤ 7
  pub branches : branch.branches_in_range Sending s.interleaver.branches ≡ true
  pub coder : coder.in_range_by (t s.coder.rate) s.coder ≡ true

module _ (t : ℕ → Mode) (s : Sender) where
  pub in_range_lem : sender_in_range t s ≡ true → InRange t s
  in_range_lem e = by (ltb 7 s.place) refl e
    where
      by : (b : Bool) → ltb 7 s.place ≡ b
          → pick b false (pick (branch.branches_in_range Sending s.interleaver.branches) (coder.in_range_by (t s.coder.rate) s.coder) false) ≡ true → InRange t s
      by true f e = false_true e
      by false f e = let b = both_true _ _ e in record { place = ltb-false _ _ f; branches = b.0; coder = b.1 }

  pub range_test : InRange t s → sender_in_range t s ≡ true
  range_test g = simp (le-ltb _ _ g.place, g.branches, g.coder)

-- ---- what a call promises, by the number of its answer

module _ (t : ℕ → Mode) (s : Sender) (input output : List ℕ) where
  pub refused : (n : ℕ) → send_refusal t s input output ≡ n → eqb n 0 ≡ false → Sends t s input output n 0 s output
  refused n e f =
      let z : eqb (send_refusal t s input output) 0 ≡ false = ap (λ (k : ℕ). eqb k 0) e ∙ f in
      record { answered = simp z (sym e); counted = simp z; sender = simp z; written = simp z }

  pub answered : send_refusal t s input output ≡ 0 → {packet : List ℕ} → packet ≡ packet_for input → {number count : ℕ} {next : Sender} {left : List ℕ}
      → number ≡ sent_number input → count ≡ sent_count t s → next ≡ sender_after t s packet
      → left ≡ sent_symbols t s packet ++ drop (sent_count t s) output → Sends t s input output number count next left
  answered e p n k a l = record {
    answered = n ∙ ap (λ (k : ℕ). pick (eqb k 0) (sent_number input) k) (sym e);
    counted = k ∙ ap (λ (k : ℕ). pick (eqb k 0) (sent_count t s) 0) (sym e);
    sender = a ∙ ap (sender_after t s) p ∙ ap (λ (k : ℕ). pick (eqb k 0) (sender_after t s (packet_for input)) s) (sym e);
    written =
        l ∙ ap (λ (x : List ℕ). sent_symbols t s x ++ drop (sent_count t s) output) p
        ∙ ap (λ (k : ℕ). pick (eqb k 0) (sent_symbols t s (packet_for input) ++ drop (sent_count t s) output) output) (sym e);
  }

-- ---- the stages

-- a buffer that is written whole
filled : (a d : List ℕ) (n : ℕ) → length d ≡ n → a ++ drop n d ≡ a
filled a d n e = ap (λ (l : List ℕ). a ++ l) (drop_of_length-le d {i = n} (omega arith)) ∙ append-nil a

module _ {t : ℕ → Mode} (s : Sender) (packet : List ℕ) (g : InRange t s) (p : length packet ≡ 188) where
  length_coded : length (coded_packet s packet) ≡ 204
  length_coded =
      let m = randomized s.place packet in
      length-append m (check_bytes m) ∙ omega (arith, (check_remainder m).size, length_randomized s.place packet g.place p)

  pub randomizing : (d r : List ℕ) → length d ≡ 188 → get_or packet 0 0 ≡ 0x47 → r ≡ randomize_output s.place packet d → r ≡ randomized s.place packet
  randomizing d r n y e =
      e ∙ (randomize_done s.place packet g.place p d (omega arith) y).1 ∙ filled (randomized s.place packet) d 188 n

  pub coding : (d r m : List ℕ) → length d ≡ 204 → m ≡ randomized s.place packet → r ≡ encode_output m d → r ≡ coded_packet s packet
  coding d r m n f e =
      e ∙ ap (λ (l : List ℕ). encode_output l d) f
      ∙ simp (eq-eqb _ _ (length_randomized s.place packet g.place p), le-ltb (length d) 204 (omega arith)) (filled (coded_packet s packet) d 204 n)

  pub interleaving : (d r m : List ℕ) (b : Branches) → length d ≡ 204 → m ≡ coded_packet s packet
      → b ≡ pass_branches Sending s.interleaver.branches m d → r ≡ pass_output Sending s.interleaver.branches m d
      → (b ≡ branches_after Sending s.interleaver.branches (coded_packet s packet)) × (r ≡ sent_block s packet)
  unfolding sent_block
  interleaving d r m b n f e h = (
    e ∙ ap (λ (l : List ℕ). pass_branches Sending s.interleaver.branches l d) f
        ∙ simp (g.branches, eq-eqb _ _ length_coded, le-ltb (length d) 204 (omega arith)),
    h ∙ ap (λ (l : List ℕ). pass_output Sending s.interleaver.branches l d) f
        ∙ simp (g.branches, eq-eqb _ _ length_coded, le-ltb (length d) 204 (omega arith)) (filled _ d 204 n),
  )

  length_block : length (sent_block s packet) ≡ 204
  unfolding sent_block
  length_block = length_out Sending s.interleaver.branches (coded_packet s packet)

  pub symbol_count_lem : WellFormed (t s.coder.rate) → length (sent_symbols t s packet) ≡ sent_count t s
  unfolding sent_symbols
  symbol_count_lem w =
      let m = t s.coder.rate in
      range.length_block_by w s.coder (sent_block s packet) (range.in_range_by_lem m s.coder g.coder) length_block ∙ sym (simp g.coder)

-- the last stage, in the modes of the product
module _ (s : Sender) (packet : List ℕ) (g : InRange mode_of s) (p : length packet ≡ 188) where
  pub modulating : is_sent mode_of s ≡ true → (output r m : List ℕ) (number count : ℕ) (c : InnerCoder) → sent_count mode_of s ≤ length output → m ≡ sent_block s packet
      → number ≡ inner.inner_encode_number s.coder m output → count ≡ inner.encode_count s.coder m output
      → c ≡ inner.encode_coder s.coder m output → r ≡ inner.inner_encode_output s.coder m output
      → (number ≡ 0) × (count ≡ sent_count mode_of s) × (c ≡ inner.block_coder s.coder (sent_block s packet))
      × (r ≡ sent_symbols mode_of s packet ++ drop (sent_count mode_of s) output)
  unfolding sent_symbols
  modulating q output r m number count c h f en ec es er =
      let n : length (inner.block_symbols s.coder (sent_block s packet)) ≡ sent_count mode_of s
      = symbol_count_lem s packet g p (range.formed s.coder (range.in_range_by_lem (mode_of s.coder.rate) s.coder g.coder)) in
      let k : length (inner.block_symbols s.coder (sent_block s packet)) ≤ length output = rw n h in
      let b = length_block s packet g p in
      let done : inner.inner_encode_number s.coder (sent_block s packet) output ≡ 0
      = simp (range.range_by_mode s.coder ∙ g.coder, q, eq-eqb _ _ b, le-ltb _ _ k) in (
        en ∙ ap (λ (l : List ℕ). inner.inner_encode_number s.coder l output) f ∙ done,
        ec ∙ ap (λ (l : List ℕ). inner.encode_count s.coder l output) f
            ∙ ap (λ (j : ℕ). pick (eqb j 0) (length (inner.block_symbols s.coder (sent_block s packet))) 0) done
            ∙ n,
        es ∙ ap (λ (l : List ℕ). inner.encode_coder s.coder l output) f
            ∙ ap (λ (j : ℕ). pick (eqb j 0) (inner.block_coder s.coder (sent_block s packet)) s.coder) done,
        er ∙ ap (λ (l : List ℕ). inner.inner_encode_output s.coder l output) f
            ∙ ap (λ (j : ℕ). pick (eqb j 0) (inner.block_symbols s.coder (sent_block s packet) ++ drop (length (inner.block_symbols s.coder (sent_block s packet))) output) output) done
            ∙ ap (λ (j : ℕ). inner.block_symbols s.coder (sent_block s packet) ++ drop j output) n,
      )
