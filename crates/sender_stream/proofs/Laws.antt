-- What the tests of a sending tell; for callers: with room enough nothing is refused.
-- Assumes nothing.
use mathlib.Core.Path.{◌≡◌, refl, ◌∙◌}
use mathlib.Core.Bool.{true}
use mathlib.Core.List.{List}
use Prim.Native.Nat.{ℕ, ◌*◌, ◌≤◌, ◌<◌}
use native.Mathlib.Omega.{arith}
use borrow.Author.Tests.{lt-ltb, le-ltb, ltb-true}
use lib.ListN.{length}
use lib.Dec.{ltb}
use Rattle.common.proofs.Choice.{both_true}
use Rattle.puncturing.specs.Mode.{mode_of}
use Rattle.sender.proofs.Stages.{range_test}
use Rattle.sender.proofs.Ready.{Ready, ready_range}
use Rattle.sender.specs.Send.{sender_in_range}
use Rattle.sender_stream.specs.Feed.{whole_count, sender_feed_number, OutputsFit, FeedsAll, FeedsSender, refused, fed, sender_stream_in_range}
use Rattle.sender_stream.specs.declared.SenderStream.{SenderStream}
use Rattle.sender_stream.proofs.Counts.{most_fed}

pub sending_range : (w : SenderStream) → sender_stream_in_range w ≡ true → (sender_in_range mode_of w.sender ≡ true) × (w.held < 188)
sending_range w e =
    let p = both_true (sender_in_range mode_of w.sender) (ltb w.held 188) e in
    (p.0, ltb-true w.held 188 p.1)

-- room for 1,632 symbols for each packet that is whole is always enough
pub most_fits : (w : SenderStream) (piece output answers : List ℕ) → Ready mode_of w.sender → w.held < 188 → 1632 * whole_count w piece ≤ length output
    → whole_count w piece ≤ length answers → OutputsFit w piece output answers
most_fits w piece output answers g b h k = record {
  range = simp (range_test mode_of w.sender (ready_range w.sender g), lt-ltb w.held 188 b);
  sent = g.sent;
  symbols = omega (arith, most_fed w piece g);
  answers_fit = k;
}

module _ {w : SenderStream} {piece output answers : List ℕ} {number count packets : ℕ} {next : SenderStream} {left told : List ℕ}
    (f : FeedsSender w piece output answers number count packets next left told) where
  pub feeds_all : OutputsFit w piece output answers → FeedsAll w piece output answers 0 count packets next left told
  feeds_all g = by f
    where
      none : sender_feed_number w piece output answers ≡ 0
      none = simp (g.range, g.sent, le-ltb _ _ g.symbols, le-ltb _ _ g.answers_fit)

      by : {n c k : ℕ} {x : SenderStream} {l t : List ℕ} → FeedsSender w piece output answers n c k x l t → FeedsAll w piece output answers 0 c k x l t
      by (refused e z) = absurd (z (e ∙ none))
      by (fed z a) = record {
        done = refl;
        counted = a.counted;
        whole = a.whole;
        sending = a.sending;
        written = a.written;
        answers_written = a.answers_written;
      }
