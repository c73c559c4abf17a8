-- `inner_code::encode_qpsk` meets its contract.
-- Assumes nothing.
use mathlib.Core.Path.{ap, sym, ◌∙◌}
use mathlib.Core.List.{List, ◌++◌}
use Prim.Native.Nat.{ℕ}
use native.Mathlib.Nat.{zero-add}
use lib.ListN.{length, drop}
use Rattle.common.specs.Lists.{placed}
use Rattle.convolutional_code.specs.Bits.{bits_of}
use Rattle.convolutional_code.specs.Code.{taps_x, taps_y}
use Rattle.convolutional_code.proofs.Bits.{bits_append, bits_mother, block_bits_lem}
use Rattle.puncturing.specs.Run.{punctured_symbols, progress}
use Rattle.inner_code.specs.Encode.{block_symbols}
use Rattle.inner_code.proofs.Coder.{qpsk_symbols, qpsk_coder, symbols_serial, coder_serial}
use Rattle.inner_code.proofs.encode_qpsk.Goals as goal

pub puncture_block-progress-requires : goal.puncture_block-progress-requires
puncture_block-progress-requires c =
    let g = c.requires.0.range in
    let m = c.args.coder.memory in
    let bits = bits_of c.args.block.now in
    let e = c.code_bytes-next.ensures.1 in (
      c.requires.1,
      g.place,
      g.held,
      rw e (bits_append (bits_mother taps_x m bits) (bits_mother taps_y m bits)),
      rw (e, ← symbols_serial c.args.coder bits (block_bits_lem c.args.block.now c.requires.0.size), ← qpsk_symbols c.args.coder c.requires.1 c.args.block.now) c.requires.0.enough,
    )

pub returns : goal.returns
returns c =
    let coder = c.args.coder in
    let block = c.args.block.now in
    let output = c.args.output.now in
    let coded = c.code_bytes-next.ensures in
    let memory = coded.0 in
    let e = coded.1 in
    let r = c.puncture_block-progress.ensures in
    let progressed = r.0 ∙ ap (λ (l : List ℕ). progress coder.rate coder.place coder.held l 0 1632 0) e in
    let bits = block_bits_lem block c.requires.0.size in
    let symbols = qpsk_symbols coder c.requires.1 block ∙ symbols_serial coder (bits_of block) bits in
    record {
      coder = (λ i. record { rate = coder.rate; memory = memory i; place = (progressed i).place; held = (progressed i).held }) ∙ sym (qpsk_coder coder c.requires.1 block ∙ coder_serial coder (bits_of block) bits);
      count = (λ i. (progressed i).count) ∙ zero-add _ ∙ ap length (sym symbols);
      written =
          r.1
          ∙ ap (λ (l : List ℕ). placed output 0 (punctured_symbols coder.rate coder.place coder.held l 0 1632)) e
          ∙ ap (λ (l : List ℕ). placed output 0 l) (sym symbols)
          ∙ ap (λ (k : ℕ). block_symbols coder block ++ drop k output) (zero-add (length (block_symbols coder block)));
    }
