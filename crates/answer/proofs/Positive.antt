-- The number of a refusal is above 0, so a call whose answer has number 0 was not refused.
-- Assumes nothing.
use mathlib.Core.Path.{◌≡◌, refl}
use mathlib.Core.Bool.{true}
use Prim.Native.Nat.{◌<◌}
use native.Mathlib.Omega.{arith}
use Rattle.std.specs.Prelude.{Result, Ok, Err, is_ok}
use Rattle.answer.specs.declared.Refusal.{Refusal}
use Rattle.answer.specs.declared.Refusal.TheVariants.{PacketLength, SyncByte, BlockLength, OutputLength, StateRange, UnknownRate, CountsFull, Uncorrectable, PatternLength, RunLength, SymbolRange, NoSuchBlock, NotReport, WrongSums, FormKept, MarkValue, TooManyReports, StateLength, UnknownCount, SoftLists}
use Rattle.answer.specs.Number.{number_of, answered}

pub number_positive : (refusal : Refusal) → 0 < number_of refusal
number_positive PacketLength = omega arith
number_positive SyncByte = omega arith
number_positive BlockLength = omega arith
number_positive OutputLength = omega arith
number_positive StateRange = omega arith
number_positive UnknownRate = omega arith
number_positive CountsFull = omega arith
number_positive Uncorrectable = omega arith
number_positive PatternLength = omega arith
number_positive RunLength = omega arith
number_positive SymbolRange = omega arith
number_positive NoSuchBlock = omega arith
number_positive NotReport = omega arith
number_positive WrongSums = omega arith
number_positive FormKept = omega arith
number_positive MarkValue = omega arith
number_positive TooManyReports = omega arith
number_positive StateLength = omega arith
number_positive UnknownCount = omega arith
number_positive SoftLists = omega arith

pub number_not_zero : (refusal : Refusal) → number_of refusal ≡ 0 → ⊥
number_not_zero refusal none = let above : 0 < number_of refusal = number_positive refusal in omega arith

pub given_at_zero : {A : Type 0} (result : Result A Refusal) → answered result ≡ 0 → is_ok result ≡ true
given_at_zero (Ok _) _ = refl
given_at_zero (Err refusal) none = let above : 0 < number_of refusal = number_positive refusal in absurd (omega arith)
