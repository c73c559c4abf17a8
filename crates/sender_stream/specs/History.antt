-- Feeding after feeding, and what all the bytes come to, whatever pieces they came in.
-- Clause: document 02, P2.
-- Assumes nothing.
use Rattle.std.specs.Prelude.{◌≡◌, List, [], ◌++◌, map, ℕ, eqb, take}
use Rattle.common.specs.Choice.{pick}
use Rattle.common.specs.Lists.{chunks_of, rest_of}
use Rattle.puncturing.specs.Mode.{mode_of}
use Rattle.sender.specs.Standard.{on_air}
use Rattle.sender.specs.Input.{packets_for, sent_number}
use Rattle.sender.specs.Calls.{sender_of}
use Rattle.sender_stream.specs.Feed.{holding, FeedsSender}
use Rattle.sender_stream.specs.declared.SenderStream.{SenderStream}

-- A history of calls, each with the sending that the one before it left: the bytes that came, those of pieces that were not refused; and
-- what the calls wrote, one after the other, of symbols and of answers.
pub data SenderFeedings : SenderStream → List ℕ → List ℕ → List ℕ → SenderStream → Type 0 where
  none : {w : SenderStream} → SenderFeedings w [] [] [] w
  feeding : {w next last : SenderStream} {bytes symbols numbers : List ℕ} (piece output answers left told : List ℕ) (number count packets : ℕ)
      → FeedsSender w piece output answers number count packets next left told → SenderFeedings next bytes symbols numbers last
      → SenderFeedings w (pick (eqb number 0) piece [] ++ bytes) (take count left ++ symbols) (take packets told ++ numbers) last

-- What bytes come to, from a fresh sending: the symbols of the standard for their whole packets, with null packets put in; for each packet the
-- number that says whether it was replaced; the sender that has sent them; and the bytes after the last whole packet, held.
pub record Transmitted (rate : ℕ) (bytes symbols numbers : List ℕ) (w : SenderStream) : Type 0 where
  pub on_air_lem : symbols ≡ on_air (mode_of rate) (packets_for (chunks_of 188 bytes))
  pub answered : numbers ≡ map sent_number (chunks_of 188 bytes)
  pub state : w ≡ holding (sender_of mode_of rate (packets_for (chunks_of 188 bytes))) (rest_of 188 bytes)
