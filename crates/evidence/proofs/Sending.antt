-- Three idle programs do not fit the promise of `send_run`, in any mode that is sent: one answer for all, nothing written, and symbols that only the first
-- packets decide. Each would leave the same for two lists of packets that differ in the last one, and the symbols tell those apart.
-- The lists have more than k packets, whatever k is, and make whole puncturing patterns.
-- Assumes nothing.
use mathlib.Core.Path.{◌≡◌, refl, ap, sym, subst, ◌∙◌}
use mathlib.Core.Bool.{true}
use mathlib.Core.List.{List, ◌++◌, append-nil, map, flatten}
use Prim.Native.Nat.{ℕ, zero, suc, ◌+◌, ◌-◌, ◌*◌, ◌/◌, ◌%◌, ◌≤◌, ◌<◌}
use native.Mathlib.Decide.{dec_lt}
use native.Mathlib.Omega.{arith}
use borrow.Author.Tests.{eq-eqb, le-ltb}
use lib.ListN.{length, get_or, take, replicate, length-replicate, drop_of_length-le}
use Rattle.common.specs.Lists.{All, chunks_of}
use Rattle.common.proofs.Chunks.{chunks_joined}
use Rattle.randomizer.specs.Stream.{Packet}
use Rattle.randomizer.proofs.Whole.{packet_lengths}
use Rattle.interleaver.proofs.BlockLists.{length-flatten}
use Rattle.convolutional_code.specs.Bits.{bits_of, Bits}
use Rattle.convolutional_code.proofs.Bits.{bits_bits, length_bits}
use Rattle.puncturing.specs.Mode.{mode_of, block_bits, mode_count, qpsk_count}
use Rattle.puncturing.specs.Step.{pattern_length, symbols_in}
use Rattle.inner_code.specs.Stream.{symbols, stream_symbols}
use Rattle.inner_code.specs.Groups.{firsts, coded_bits}
use Rattle.inner_code.specs.Step.{symbols_of}
use Rattle.inner_code.proofs.Stream.{symbols_fresh, stream_qpsk}
use Rattle.inner_code.proofs.Groups.{firsts_at, as_half}
use Rattle.inner_code.specs.Encode.{coder_at}
use Rattle.reader.proofs.Patterns.{sent_whole}
use Rattle.reader.proofs.Unharmed.{hard_decoded, own_best}
use Rattle.sender.specs.Standard.{on_air}
use Rattle.sender.specs.Input.{packets_for}
use Rattle.sender.proofs.Inputs.{packets_kept}
use Rattle.sender.proofs.Counts.{block_bits_lem, length_on_air}
use Rattle.sender.proofs.Distinct.{low_bit, same_low}
use Rattle.sender_stream.specs.Run.{run_symbols, run_refusal, SendsRun}
use Rattle.sent_blocks.specs.Blocks.{sent_bytes}
use Rattle.evidence.proofs.Samples.{samples, samples_packets, samples_length, samples_front, last_byte}

-- what a program leaves after a run
pub record Left : Type 0 where
  pub number : ℕ
  pub count : ℕ
  pub output : List ℕ

-- a program: what it leaves for a rate, the bytes of the packets and an output
abbrev pub Program : Type 0
Program = ℕ → List ℕ → List ℕ → Left

-- it keeps the promise of `send_run`
abbrev pub Keeps : Program → Type 0
Keeps f = (rate : ℕ) (bytes output : List ℕ) → SendsRun rate bytes output (f rate bytes output).number (f rate bytes output).count (f rate bytes output).output

-- ---- the symbols of whole patterns decide the bits

decided : (rate : ℕ) → rate < qpsk_count → {bs cs : List ℕ} → Bits bs → Bits cs → length bs % pattern_length rate ≡ 0 → length cs % pattern_length rate ≡ 0
    → symbols (mode_of rate) bs ≡ symbols (mode_of rate) cs → bs ≡ cs
decided rate h {bs} {cs} b c m n e =
    let ss = symbols_of (coder_at rate 0) bs in
    let q = sent_whole rate 0 h (omega arith) bs b m ss refl in
    let d = (hard_decoded rate 0 h (omega arith) ss q.0).decoded in
    let f : ss ≡ symbols_of (coder_at rate 0) cs = symbols_fresh rate h b ∙ e ∙ sym (symbols_fresh rate h c) in
    sym (own_best rate 0 h (omega arith) b m ss refl d).0 ∙ (own_best rate 0 h (omega arith) c n ss f d).0

-- the same bits: the same lowest bit of each byte
low : (bs cs : List ℕ) (i : ℕ) → bits_of bs ≡ bits_of cs → get_or bs i 0 % 2 ≡ get_or cs i 0 % 2
low bs cs i e = sym (low_bit bs i) ∙ ap (λ (l : List ℕ). get_or l (8 * i + 7) 0) e ∙ low_bit cs i

-- at rate 1/2 a bit is a pattern
half_whole : (bits : List ℕ) → length bits % pattern_length 0 ≡ 0
unfolding mode_of
half_whole bits = omega arith

-- The symbols of whole patterns decide the lowest bit of every third byte: at the QPSK rates every bit is coded, and at 16QAM those of the bytes A.
low_decided : (rate : ℕ) → rate < mode_count → (bs cs : List ℕ) → length (bits_of bs) % pattern_length rate ≡ 0 → length (bits_of cs) % pattern_length rate ≡ 0
    → stream_symbols (mode_of rate) bs ≡ stream_symbols (mode_of rate) cs → (i : ℕ) → i < length bs / 3 → i < length cs / 3
    → get_or bs (3 * i) 0 % 2 ≡ get_or cs (3 * i) 0 % 2
low_decided rate h bs cs m n e i k l = by (dec_lt rate qpsk_count)
  where
    by : Dec (rate < qpsk_count) → get_or bs (3 * i) 0 % 2 ≡ get_or cs (3 * i) 0 % 2
    by (yes q) = low bs cs (3 * i) (decided rate q (bits_bits bs) (bits_bits cs) m n (sym (stream_qpsk rate q bs) ∙ e ∙ stream_qpsk rate q cs))
    by (no q) =
        let five : rate ≡ 5 = omega arith in
        let f = firsts 3 (length bs / 3) bs in
        let g = firsts 3 (length cs / 3) cs in
        let half : stream_symbols (mode_of 0) f ≡ stream_symbols (mode_of 0) g
        = sym (as_half bs) ∙ ap (map coded_bits) (subst (λ (r : ℕ). stream_symbols (mode_of r) bs ≡ stream_symbols (mode_of r) cs) five e) ∙ as_half cs in
        let same : bits_of f ≡ bits_of g
        = decided 0 (omega arith) (bits_bits f) (bits_bits g) (half_whole (bits_of f)) (half_whole (bits_of g))
        (sym (stream_qpsk 0 (omega arith) f) ∙ half ∙ stream_qpsk 0 (omega arith) g) in
        ap (λ (x : ℕ). x % 2) (sym (firsts_at 3 (length bs / 3) bs i k)) ∙ low f g i same ∙ ap (λ (x : ℕ). x % 2) (firsts_at 3 (length cs / 3) cs i l)

-- 35 blocks make whole patterns in every mode
whole_patterns : (rate j : ℕ) → rate < mode_count → 1632 * (35 * j) % pattern_length rate ≡ 0
unfolding mode_of
whole_patterns zero j h = omega arith
whole_patterns (suc zero) j h = omega arith
whole_patterns (suc (suc zero)) j h = omega arith
whole_patterns (suc (suc (suc zero))) j h = omega arith
whole_patterns (suc (suc (suc (suc zero)))) j h = omega arith
whole_patterns (suc (suc (suc (suc (suc zero))))) j h = omega arith
whole_patterns (suc (suc (suc (suc (suc (suc rate)))))) j h = absurd (omega arith)

-- ---- what the promise says of a list of packets

-- just room enough for n packets
output_for : ℕ → ℕ → List ℕ
output_for rate n = replicate (symbols_in rate 0 (block_bits rate * n)) 0

module _ (f : Program) (keeps : Keeps f) (rate : ℕ) (h : rate < mode_count) (q : (mode_of rate).sent ≡ true) where
  kept : (ps : List (List ℕ)) → All Packet ps → (f rate (flatten ps) (output_for rate (length ps))).output ≡ on_air (mode_of rate) ps
  unfolding output_for
  kept ps g =
      let l = packet_lengths ps g in
      let output = output_for rate (length ps) in
      let e : packets_for (chunks_of 188 (flatten ps)) ≡ ps = ap packets_for (chunks_joined 188 (omega arith) ps l) ∙ packets_kept ps g in
      let n : length (run_symbols rate (flatten ps)) ≡ symbols_in rate 0 (block_bits rate * length ps) = ap (λ (x : List (List ℕ)). length (on_air (mode_of rate) x)) e ∙ length_on_air rate h ps in
      let k : length output ≡ symbols_in rate 0 (block_bits rate * length ps) = length-replicate {A = ℕ} (symbols_in rate 0 (block_bits rate * length ps)) 0 in
      let w : length (flatten ps) % 188 ≡ 0 = (let m = length-flatten 188 ps l in omega arith) in
      let t : length (run_symbols rate (flatten ps)) ≤ length output = omega arith in
      let z : run_refusal rate (flatten ps) output ≡ 0 = simp (q, eq-eqb _ _ w, le-ltb _ _ t) in
      (keeps rate (flatten ps) output).written ∙ simp z
      (ap (λ (d : List ℕ). run_symbols rate (flatten ps) ++ d) (drop_of_length-le output {i = length (run_symbols rate (flatten ps))} (omega arith))
      ∙ append-nil (run_symbols rate (flatten ps)) ∙ ap (on_air (mode_of rate)) e)

  module _ (k : ℕ) where
    -- how many packets come before the last
    before : ℕ
    before = 35 * (k + 1) - 1

    size : (v : ℕ) → length (samples before v) ≡ 35 * (k + 1)
    unfolding before
    size v = samples_length before v ∙ omega arith

    output : List ℕ
    output = output_for rate (35 * (k + 1))

    -- the bytes of the interleaved blocks, and that their bits make whole patterns
    sent : ℕ → List ℕ
    sent v = sent_bytes (samples before v)

    whole : (v : ℕ) → length (bits_of (sent v)) % pattern_length rate ≡ 0
    unfolding sent
    whole v = ap (λ (n : ℕ). n % pattern_length rate) (block_bits_lem (samples before v) ∙ ap (λ (n : ℕ). 1632 * n) (size v)) ∙ whole_patterns rate (k + 1) h

    -- byte 12 of the last packet is among the bytes
    reached : (v : ℕ) → 68 * before + 4 < length (sent v) / 3
    unfolding sent
    reached v = omega (arith, length_bits (sent v), block_bits_lem (samples before v), samples_length before v)

    -- the two lists are told apart
    told_apart : (f rate (flatten (samples before 0)) output).output ≡ (f rate (flatten (samples before 1)) output).output → ⊥
    unfolding output on_air sent
    told_apart e =
        let h0 = samples_packets before 0 (omega arith) in
        let h1 = samples_packets before 1 (omega arith) in
        let air : on_air (mode_of rate) (samples before 0) ≡ on_air (mode_of rate) (samples before 1) =
        sym (kept (samples before 0) h0) ∙ ap (λ (n : ℕ). (f rate (flatten (samples before 0)) (output_for rate n)).output) (size 0)
        ∙ e ∙ ap (λ (n : ℕ). (f rate (flatten (samples before 1)) (output_for rate n)).output) (sym (size 1)) ∙ kept (samples before 1) h1 in
        let at : 204 * before + 12 ≡ 3 * (68 * before + 4) = omega arith in
        let s = low_decided rate h (sent 0) (sent 1) (whole 0) (whole 1) air (68 * before + 4) (reached 0) (reached 1) in
        let b =
        same_low (samples before 0) (samples before 1) (packet_lengths (samples before 0) h0) (packet_lengths (samples before 1) h1) before
        (omega (arith, samples_length before 0)) (omega (arith, samples_length before 1))
        (ap (λ (i : ℕ). get_or (sent 0) i 0 % 2) at ∙ s ∙ ap (λ (i : ℕ). get_or (sent 1) i 0 % 2) (sym at)) in
        let z : ◌≡◌ {A = ℕ} 0 1 = sym (last_byte before 0) ∙ b ∙ last_byte before 1 in
        omega arith

    many : (v : ℕ) → k < length (samples before v)
    many v = omega (arith, size v)

    -- one answer for all lists of more than k packets
    pub one_answer : (left : Left) → ((ps : List (List ℕ)) → All Packet ps → k < length ps → (output : List ℕ) → f rate (flatten ps) output ≡ left) → ⊥
    one_answer left same = told_apart (ap (λ (x : Left). x.output) (at 0 (omega arith) ∙ sym (at 1 (omega arith))))
      where
        at : (v : ℕ) → v < 256 → f rate (flatten (samples before v)) output ≡ left
        at v l = same (samples before v) (samples_packets before v l) (many v) output

    -- nothing is written for lists of more than k packets
    pub writes_nothing : ((ps : List (List ℕ)) → All Packet ps → k < length ps → (output : List ℕ) → (f rate (flatten ps) output).output ≡ output) → ⊥
    writes_nothing same = told_apart (at 0 (omega arith) ∙ sym (at 1 (omega arith)))
      where
        at : (v : ℕ) → v < 256 → (f rate (flatten (samples before v)) output).output ≡ output
        at v l = same (samples before v) (samples_packets before v l) (many v) output

    -- The first k packets, and how many there are, decide what is written. With k = 1 that is a program that codes the first packet and
    -- pretends after.
    pub pretends_after : ((ps qs : List (List ℕ)) → All Packet ps → All Packet qs → take k ps ≡ take k qs → length ps ≡ length qs → (output : List ℕ)
        → (f rate (flatten ps) output).output ≡ (f rate (flatten qs) output).output) → ⊥
    unfolding before
    pretends_after same =
        told_apart
        (same (samples before 0) (samples before 1) (samples_packets before 0 (omega arith)) (samples_packets before 1 (omega arith))
        (samples_front k before 0 (omega arith) ∙ sym (samples_front k before 1 (omega arith))) (size 0 ∙ sym (size 1)) output)
