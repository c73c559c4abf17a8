-- Calls one after another, and the counts as document 01 defines them, from the history of calls.
-- Clauses: document 01, "Receiver"; document 02, P3 and P11.
-- Assumes nothing.
use Rattle.std.specs.Prelude.{◌≡◌, List, [], ◌∷◌, ◌++◌, map, ℕ, ◌+◌, ◌*◌, ◌≤◌, ltb, eqb, length, take}
use Prim.{Unit}
use Rattle.common.specs.Choice.{pick, indicator}
use Rattle.common.specs.Lists.{total}
use Rattle.reed_solomon.specs.Code.{changes}
use Rattle.reed_solomon.specs.Marks.{no_marks, DecodesMarked}
use Rattle.reed_solomon.specs.declared.Changed.{Changed}
use Rattle.reed_solomon.specs.Decode.{Decoded}
use Rattle.reception_counts.specs.declared.Counts.{Counts}
use Rattle.receiver.specs.Receive.{delayed_block, delayed_marks, receive_number, receive_state, receive_output}
use Rattle.receiver.specs.declared.Receiver.{Receiver}

-- a call: the block, its marks and the output lent, and what decoding the block that the branches give leaves and answers
pub record Call : Type 0 where
  pub block : List ℕ
  pub marks : List ℕ
  pub output : List ℕ
  pub left : List ℕ
  pub decoded : Decoded

-- the answer's number, the state and the output after a call
abbrev pub answer_of : Receiver → Call → ℕ
answer_of s c = receive_number s c.block c.marks c.output c.left c.decoded

abbrev pub after_call : Receiver → Call → Receiver
after_call s c = receive_state s c.block c.marks c.output c.left c.decoded

abbrev pub output_of : Receiver → Call → List ℕ
output_of s c = receive_output s c.block c.marks c.output c.left c.decoded

-- each call of the list has what its block decodes to
abbrev pub DecodedCalls : Receiver → List Call → Type 0
DecodedCalls s [] = Unit {0}
DecodedCalls s (c ∷ cs) = DecodesMarked (delayed_marks s c.marks) (delayed_block s c.block) c.left c.decoded × DecodedCalls (after_call s c) cs

-- the state after the calls
abbrev pub after_calls : Receiver → List Call → Receiver
after_calls s [] = s
after_calls s (c ∷ cs) = after_calls (after_call s c) cs

-- what is told of a call: its answer's number, and in how many bytes and bits the block left differs from the one that came out of the branches
pub record Event : Type 0 where
  pub number : ℕ
  pub changed : Changed

abbrev pub history : Receiver → List Call → List Event
history s [] = []
history s (c ∷ cs) = record { number = answer_of s c; changed = changes (delayed_block s c.block) c.left } ∷ history (after_call s c) cs

-- the packets given, one for each call answered 0
abbrev pub packets_given : Receiver → List Call → List (List ℕ)
packets_given s [] = []
packets_given s (c ∷ cs) = pick (eqb (answer_of s c) 0) (take 188 (output_of s c) ∷ []) [] ++ packets_given (after_call s c) cs

-- ---- the counts of a history

-- 1 for a block that was taken, answers 0 and 8 to 11, and 0 for a call that was refused
abbrev pub taken_by : ℕ → ℕ
taken_by number = pick (eqb number 0) 1 (pick (ltb number 8) 0 (pick (ltb number 12) 1 0))

-- how many calls were answered with the number k
abbrev pub answered : ℕ → List Event → ℕ
answered k = total (λ e. indicator (eqb e.number k))

-- 1 for an accepted block: answers 0, 10 and 11
abbrev pub accepted_by : ℕ → ℕ
accepted_by number = indicator (eqb number 0) + indicator (eqb number 10) + indicator (eqb number 11)

-- the sum over all accepted blocks of a number of their changes
abbrev pub over_accepted : (Changed → ℕ) → List Event → ℕ
over_accepted f = total (λ e. accepted_by e.number * f e.changed)

abbrev pub counts_of : List Event → Counts
counts_of es = record {
  taken = total (λ e. taken_by e.number) es;
  filling = answered 9 es;
  delivered = answered 0 es;
  lost = answered 8 es;
  waiting = answered 10 es;
  outofstep = answered 11 es;
  changed = over_accepted (λ c. c.bytes) es;
  bits = over_accepted (λ c. c.bits) es;
}

-- ---- what a list of calls shows

-- the blocks lent
abbrev pub lent_blocks : List Call → List (List ℕ)
lent_blocks cs = map (λ c. c.block) cs

-- the numbers of the answers
abbrev pub answers : Receiver → List Call → List ℕ
answers s [] = []
answers s (c ∷ cs) = answer_of s c ∷ answers (after_call s c) cs

-- a call in which no mark comes
abbrev pub Plain : Call → Type 0
Plain c = c.marks ≡ no_marks

-- an output long enough
abbrev pub OutputFits : Call → Type 0
OutputFits c = 188 ≤ length c.output
