-- From what a run answers to what is told of it.
-- Assumes nothing.
use mathlib.Core.Path.{◌≡◌, sym, ap, ◌∙◌, subst}
use mathlib.Core.List.{List, ◌++◌}
use Prim.Native.Nat.{ℕ, ◌≤◌, ◌<◌}
use native.Mathlib.Omega.{arith}
use lib.ListN.{length, drop, set}
use Rattle.std.proofs.Common.{Result, Ok, Err}
use Rattle.answer.proofs.Positive.{number_positive}
use Rattle.answer.specs.Number.{answered, given_or}
use Rattle.answer.specs.declared.Refusal.{Refusal}
use Rattle.receiver.specs.Receive.{fresh_receiver}
use Rattle.recording.specs.declared.Recorded.{Recorded}
use Rattle.recording.specs.Recording.{AnswersRecording}
use Rattle.recording.specs.Recording as recording
use Rattle.reception_counts.specs.Bytes.{count_bytes}
use Rattle.dvbs.specs.ReceiveRun.{ReceiveExported, refused, taken}

module _ (blocks marks output exit counts after answer told : List ℕ) (refusal r : ℕ) (one : 1 ≤ length answer) where
  pub run_exported : (recorded : Result Recorded Refusal) → r ≡ given_or 0 (λ x. x.count) recorded
      → after ≡ given_or counts (λ x. count_bytes x.receiver.counts ++ drop 64 counts) recorded → told ≡ set answer 0 (answered recorded)
      → AnswersRecording fresh_receiver blocks marks output refusal (answered recorded) (given_or 0 (λ x. x.count) recorded) (given_or fresh_receiver (λ x. x.receiver) recorded) exit
      → ReceiveExported blocks marks output exit counts after answer told refusal r
  run_exported (Ok k) rs cs ts (recording.refused e h c l x) = absurd (omega arith)
  run_exported (Ok k) rs cs ts (recording.taken h e t) =
      taken one h k.receiver (subst (λ (n : ℕ). recording.TakesRecording fresh_receiver blocks marks output n k.receiver exit) (sym rs) t) cs ts
  run_exported (Err x) rs cs ts (recording.refused e h c l w) = refused one (subst (λ (n : ℕ). 0 < n) e h) rs w cs (ts ∙ ap (set answer 0) e)
  run_exported (Err x) rs cs ts (recording.taken h e t) = absurd (omega (arith, number_positive x))
