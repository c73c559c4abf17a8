-- What the exported run of a fresh sender gives. Where no byte is lent for the answer's number, nothing is sent and nothing is written.
-- Clause: document 02, P2.
-- Assumes nothing.
use Rattle.std.specs.Prelude.{List, ℕ, ltb, length, set}
use Rattle.common.specs.Choice.{pick}
use Rattle.sender_stream.specs.Run.{run_number, run_count, run_output}

-- the number of symbols written
abbrev pub send_run_count : ℕ → List ℕ → List ℕ → List ℕ → ℕ
send_run_count rate packets output answer = pick (ltb (length answer) 1) 0 (run_count rate packets output)

-- the output after it
abbrev pub send_run_output : ℕ → List ℕ → List ℕ → List ℕ → List ℕ
send_run_output rate packets output answer = pick (ltb (length answer) 1) output (run_output rate packets output)

-- the lent bytes after it: the answer's number is in the first
abbrev pub send_run_answer : ℕ → List ℕ → List ℕ → List ℕ → List ℕ
send_run_answer rate packets output answer = pick (ltb (length answer) 1) answer (set answer 0 (run_number rate packets output))
