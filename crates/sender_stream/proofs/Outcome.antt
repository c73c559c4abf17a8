-- What a run promises, by the number of its answer.
-- Assumes nothing.
use mathlib.Core.Path.{◌≡◌, ap, sym, ◌∙◌}
use mathlib.Core.Bool.{false}
use mathlib.Core.List.{List, ◌++◌}
use Prim.Native.Nat.{ℕ}
use lib.Dec.{eqb}
use lib.ListN.{length, drop}
use Rattle.common.specs.Choice.{pick}
use Rattle.common.specs.Lists.{chunks_of}
use Rattle.sender_stream.specs.Run.{synced, run_symbols, run_refusal, SendsRun}

module _ (rate : ℕ) (bytes output : List ℕ) where
  pub run_refused : (n : ℕ) → run_refusal rate bytes output ≡ n → eqb n 0 ≡ false → SendsRun rate bytes output n 0 output
  run_refused n e f =
      let t : eqb (run_refusal rate bytes output) 0 ≡ false = ap (λ (k : ℕ). eqb k 0) e ∙ f in
      record { answered = simp t (sym e); counted = simp t; written = simp t }

  pub run_answered : run_refusal rate bytes output ≡ 0 → {number count : ℕ} {left : List ℕ} → number ≡ pick (synced (chunks_of 188 bytes)) 0 15
      → count ≡ length (run_symbols rate bytes)
      → left ≡ run_symbols rate bytes ++ drop (length (run_symbols rate bytes)) output → SendsRun rate bytes output number count left
  run_answered e n k l = record {
    answered = n ∙ ap (λ (k : ℕ). pick (eqb k 0) (pick (synced (chunks_of 188 bytes)) 0 15) k) (sym e);
    counted = k ∙ ap (λ (k : ℕ). pick (eqb k 0) (length (run_symbols rate bytes)) 0) (sym e);
    written = l ∙ ap (λ (k : ℕ). pick (eqb k 0) (run_symbols rate bytes ++ drop (length (run_symbols rate bytes)) output) output) (sym e);
  }
