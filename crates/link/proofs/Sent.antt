-- Demand 2 over a stream: the symbols of a fresh sender, cut into runs of whole patterns in any way, each run read with the memory that the one before
-- gave, give the bits of the interleaved blocks as far as the runs go, at no cost; up to the last whole pattern where less than one is left.
-- Assumes nothing.
use mathlib.Core.Path.{◌≡◌, sym, ◌∙◌, ap}
use mathlib.Core.Bool.{true}
use mathlib.Core.List.{List, [], ◌∷◌, ◌++◌, flatten}
use Prim.Native.Nat.{ℕ, ◌+◌, ◌*◌, ◌/◌, ◌%◌, ◌≤◌, ◌<◌}
use native.Mathlib.Nat.{zero-add, zero-mod, mod-add-mod}
use native.Mathlib.Omega.{arith}
use lib.ListN.{length, take, length-append}
use Rattle.common.specs.Lists.{All}
use Rattle.convolutional_code.specs.Bits.{bits_of}
use Rattle.convolutional_code.proofs.Bits.{bits_bits}
use Rattle.puncturing.specs.Mode.{mode_of, qpsk_count}
use Rattle.puncturing.specs.Step.{pattern_length}
use Rattle.inner_code.specs.Step.{symbols_of}
use Rattle.inner_code.proofs.Stream.{symbols_fresh, stream_qpsk}
use Rattle.inner_code.specs.Encode.{coder_at}
use Rattle.reader.specs.Read.{symbols_per_pattern, length_of_run}
use Rattle.reader.specs.Runs.{Run, Readings}
use Rattle.reader.proofs.Streams.{fits, stream_read, up_to_last}
use Rattle.sender.specs.Standard.{on_air}
use Rattle.sender.specs.Input.{Input, packets_for}
use Rattle.sender.specs.Send.{fresh_sender}
use Rattle.sender.specs.Calls.{SendCalls}
use Rattle.sender.specs.declared.Sender.{Sender}
use Rattle.sender.proofs.History.{sent_on_air}
use Rattle.sent_blocks.specs.Blocks.{sent_bytes}

-- runs of whole patterns, one after the other, are whole patterns
runs_whole : (rate : ℕ) (rs : List (List ℕ)) → All (Run rate) rs → length (flatten rs) % symbols_per_pattern rate ≡ 0
unfolding flatten
runs_whole rate [] g = zero-mod (symbols_per_pattern rate)
runs_whole rate (r ∷ rs) g =
    let s = symbols_per_pattern rate in
    ap (λ (n : ℕ). n % s) (length-append r (flatten rs))
    ∙ (sym (mod-add-mod (length r) s (length (flatten rs)))
    ∙ (ap (λ (n : ℕ). (n + length (flatten rs)) % s) g.0.whole ∙ (ap (λ (n : ℕ). n % s) (zero-add (length (flatten rs))) ∙ runs_whole rate rs g.1)))

-- the symbols of a fresh sender that was given any inputs are the coding of the bits of the blocks, with null packets put in
pub sent_coded : (rate : ℕ) → rate < qpsk_count → (mode_of rate).sent ≡ true → {inputs : List (List ℕ)} {symbols : List ℕ} {last : Sender} → All Input inputs
    → SendCalls mode_of (fresh_sender rate) inputs symbols last → symbols ≡ symbols_of (coder_at rate 0) (bits_of (sent_bytes (packets_for inputs)))
unfolding on_air
sent_coded rate hr q {inputs} g c =
    let bytes : List ℕ = sent_bytes (packets_for inputs) in
    (sent_on_air rate q g c).0 ∙ (stream_qpsk rate hr bytes ∙ sym (symbols_fresh rate hr (bits_bits bytes)))

-- ---- the theorem, of such a sender

module _ (rate : ℕ) (hr : rate < qpsk_count) (q : (mode_of rate).sent ≡ true) {inputs : List (List ℕ)} {symbols : List ℕ} {last : Sender} (g : All Input inputs)
    (c : SendCalls mode_of (fresh_sender rate) inputs symbols last) (rs : List (List ℕ)) (runs : All (Run rate) rs) (rest : List ℕ) (e : flatten rs ++ rest ≡ symbols) where
  abbrev bytes : List ℕ
  bytes = sent_bytes (packets_for inputs)

  coded : flatten rs ++ rest ≡ symbols_of (coder_at rate 0) (bits_of bytes)
  coded = e ∙ sent_coded rate hr q g c

  -- the bits of the interleaved blocks, as far as the runs go
  pub sent_front : {out : List ℕ} {cost memory : ℕ} → Readings rate 0 rs out cost memory
      → (out ≡ take (length_of_run rate (flatten rs)) (bits_of (sent_bytes (packets_for inputs)))) × (cost ≡ 0)
  sent_front readings =
      let r = stream_read rate hr 0 (omega arith) (bits_of bytes) (bits_bits bytes) rs runs rest coded readings in
      (r.0, r.1)

  -- how far that is: within those bits; and where less than a pattern is left, to their last whole pattern
  pub front_within : length_of_run rate (flatten rs) ≤ length (bits_of (sent_bytes (packets_for inputs)))
  front_within = fits rate hr 0 (omega arith) (bits_of bytes) (bits_bits bytes) (flatten rs) rest (runs_whole rate rs runs) coded

  pub front_last : length rest < symbols_per_pattern rate
      → length_of_run rate (flatten rs) ≡ pattern_length rate * (length (bits_of (sent_bytes (packets_for inputs))) / pattern_length rate)
  front_last few = up_to_last rate hr 0 (omega arith) (bits_of bytes) (bits_bits bytes) (flatten rs) rest (runs_whole rate rs runs) few coded

  pub sent_read : length rest < symbols_per_pattern rate → {out : List ℕ} {cost memory : ℕ} → Readings rate 0 rs out cost memory
      → (out ≡ take (pattern_length rate * (length (bits_of (sent_bytes (packets_for inputs))) / pattern_length rate)) (bits_of (sent_bytes (packets_for inputs)))) × (cost ≡ 0)
  sent_read few readings =
      let r = sent_front readings in
      (r.0 ∙ ap (λ (n : ℕ). take n (bits_of (sent_bytes (packets_for inputs)))) (front_last few), r.1)
