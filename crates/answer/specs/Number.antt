-- The number of each refusal, and of an answer: those up to 8 by document 01, "Answer numbers", the others by the request of document 02 that brings them.
-- Assumes nothing.
use Rattle.std.specs.Prelude.{ℕ, Result, Ok, Err}
use Rattle.answer.specs.declared.Refusal.{Refusal}
use Rattle.answer.specs.declared.Refusal.TheVariants.{PacketLength, SyncByte, BlockLength, OutputLength, StateRange, UnknownRate, CountsFull, Uncorrectable, PatternLength, RunLength, SymbolRange, NoSuchBlock, NotReport, WrongSums, FormKept, MarkValue, TooManyReports, StateLength, UnknownCount, SoftLists}

abbrev pub number_of : Refusal → ℕ
number_of PacketLength = 1
number_of SyncByte = 2
number_of BlockLength = 3
number_of OutputLength = 4
number_of StateRange = 5
number_of UnknownRate = 6
number_of CountsFull = 7
number_of Uncorrectable = 8
number_of PatternLength = 12
number_of RunLength = 13
number_of SymbolRange = 14
number_of NoSuchBlock = 16
number_of NotReport = 17
number_of WrongSums = 18
number_of FormKept = 19
number_of MarkValue = 20
number_of TooManyReports = 21
number_of StateLength = 22
number_of UnknownCount = 23
number_of SoftLists = 24

-- the number of the answer of a call that may be refused: 0 where it was not
abbrev pub answered : {A : Type 0} → Result A Refusal → ℕ
answered (Ok _) = 0
answered (Err refusal) = number_of refusal

-- what a call gave, by f, or what stands where it was refused
abbrev pub given_or : {A B : Type 0} → B → (A → B) → Result A Refusal → B
given_or _ f (Ok a) = f a
given_or none _ (Err _) = none
