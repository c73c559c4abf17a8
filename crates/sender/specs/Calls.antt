-- A list of packets sent call after call: the symbols of each call, the sender after them, and what a history of calls is.
-- Assumes nothing.
use Rattle.std.specs.Prelude.{List, [], ◌∷◌, ◌++◌, ℕ, ◌%◌, ◌≤◌, length, take}
use Rattle.interleaver.specs.Block.{fresh}
use Rattle.interleaver.specs.declared.branches.Side.TheVariants.{Sending}
use Rattle.interleaver.specs.Stream.{run_after}
use Rattle.puncturing.specs.Mode.{Mode}
use Rattle.inner_code.specs.Encode.{fresh_coder, block_coder_by}
use Rattle.sent_blocks.specs.Blocks.{coded_blocks, sent_bytes}
use Rattle.sender.specs.Send.{sent_symbols, sent_count, sender_after, Sends}
use Rattle.sender.specs.declared.Sender.{Sender}

-- the symbols of each call
unfoldable pub calls_symbols : (ℕ → Mode) → Sender → List (List ℕ) → List (List ℕ)
calls_symbols t s [] = []
calls_symbols t s (p ∷ ps) = sent_symbols t s p ∷ calls_symbols t (sender_after t s p) ps

-- the sender after them
unfoldable pub calls_sender : (ℕ → Mode) → Sender → List (List ℕ) → Sender
calls_sender t s [] = s
calls_sender t s (p ∷ ps) = calls_sender t (sender_after t s p) ps

-- The sender that has sent these packets since it was fresh, each stage by itself: how many packets of a group are behind, what the branches
-- hold of the coded blocks, and the inner coder after all the bytes of the interleaved blocks.
unfoldable pub sender_of : (ℕ → Mode) → ℕ → List (List ℕ) → Sender
sender_of t rate packets = record {
  place = length packets % 8;
  interleaver = record { branches = run_after Sending fresh (coded_blocks packets) };
  coder = block_coder_by (t rate) (fresh_coder rate) (sent_bytes packets);
}

-- document 01, "Inner code": how many symbols a call sends in each mode, at least and at most
abbrev pub fewest : List ℕ
fewest = 1632 ∷ 1224 ∷ 1088 ∷ 979 ∷ 932 ∷ 544 ∷ []

abbrev pub most : List ℕ
most = 1632 ∷ 1224 ∷ 1088 ∷ 980 ∷ 933 ∷ 544 ∷ []

-- a history: each input is given to a call that keeps its promise and is lent room enough, with the sender that the call before handed back;
-- the symbols are those that the calls wrote
pub data SendCalls (t : ℕ → Mode) : Sender → List (List ℕ) → List ℕ → Sender → Type 0 where
  none : {s : Sender} → SendCalls t s [] [] s
  call : {s next last : Sender} {input : List ℕ} {inputs : List (List ℕ)} {symbols : List ℕ} (output left : List ℕ) (number count : ℕ)
      → sent_count t s ≤ length output → Sends t s input output number count next left → SendCalls t next inputs symbols last
      → SendCalls t s (input ∷ inputs) (take count left ++ symbols) last
