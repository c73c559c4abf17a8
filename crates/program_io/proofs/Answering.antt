-- What every program answers, by what it was asked for.
-- Assumes nothing.
use Rattle.std.proofs.Common.{◌≡◌, ℕ, Bool, true, false, List, ℤ, sym, ap, ◌∙◌}
use Rattle.common.proofs.Choice.{false_true}
use Rattle.program_io.specs.Words.{argument_count, word_argument, word_bytes}
use Rattle.program_io.specs.Calls.{asked_of, version_text, Gives, Refuses, help_given, version_given, refused, AnswersCall, told}
use Rattle.program_io.specs.declared.words.Arguments.{Arguments}
use Rattle.program_io.specs.declared.words.Word.{Word}
use Rattle.program_io.specs.declared.calls.Asked.{Asked}
use Rattle.program_io.specs.declared.calls.Asked.TheVariants.{Help, Version, Work}
use Rattle.program_io.specs.declared.calls.Answered.{Answered}

is_work : Asked → Bool
is_work Help = false
is_work Version = false
is_work Work = true

not_work : {A : Type 0} (x : Asked) → is_work x ≡ false → x ≡ Work → A
unfolding is_work
not_work x n h = false_true (sym n ∙ ap is_work h)

module _ {name usage : List ℕ} {Wrong : Arguments → Word → Type 0} {status : ℤ} (a : Arguments) (w : Word) (r : Answered) (first : word_argument w ≡ 1) where
  pub help_answered : asked_of (argument_count a) (word_bytes w) ≡ Help → Gives usage r → status ≡ r.status → AnswersCall name usage Wrong status
  unfolding is_work
  help_answered h g e = told a w r first (not_work (asked_of (argument_count a) (word_bytes w)) (ap is_work h)) (help_given h g) e

  pub version_answered : asked_of (argument_count a) (word_bytes w) ≡ Version → Gives (version_text name) r → status ≡ r.status → AnswersCall name usage Wrong status
  unfolding is_work
  version_answered h g e = told a w r first (not_work (asked_of (argument_count a) (word_bytes w)) (ap is_work h)) (version_given h g) e

  pub wrong_answered : asked_of (argument_count a) (word_bytes w) ≡ Work → Wrong a w → Refuses usage r → status ≡ r.status → AnswersCall name usage Wrong status
  wrong_answered h x g e = told a w r first (λ k. x) (refused h g) e
