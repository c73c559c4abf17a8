-- As many blocks as packets, of 204 bytes each.
-- Assumes nothing.
use mathlib.Core.Path.{◌≡◌, ap, ◌∙◌}
use mathlib.Core.List.{List, flatten}
use Prim.Native.Nat.{ℕ, ◌*◌}
use lib.ListN.{length, length-map}
use Rattle.common.specs.Lists.{All, Length}
use Rattle.common.proofs.Chunks.{length_first}
use Rattle.reed_solomon.specs.Encode.{encoded}
use Rattle.randomizer.specs.Stream.{dispersed, randomized_stream}
use Rattle.interleaver.specs.declared.branches.Side.TheVariants.{Sending}
use Rattle.interleaver.proofs.BlockLists.{length-flatten}
use Rattle.interleaver.proofs.Streams.{length_delayed, delayed_lengths}
use Rattle.sent_blocks.specs.Blocks.{coded_blocks, interleaved_blocks, sent_bytes}

module _ (packets : List (List ℕ)) where
  pub coded_count : length (coded_blocks packets) ≡ length packets
  unfolding randomized_stream
  coded_count = length-map (randomized_stream packets) encoded ∙ length_first 188 (length packets) (dispersed 0 (flatten packets))

  pub interleaved_count : length (interleaved_blocks packets) ≡ length packets
  interleaved_count = length_delayed Sending (coded_blocks packets) ∙ coded_count

  pub interleaved_whole : All (Length 204) (interleaved_blocks packets)
  interleaved_whole = delayed_lengths Sending (coded_blocks packets)

  pub sent_count_lem : length (sent_bytes packets) ≡ 204 * length packets
  sent_count_lem = length-flatten 204 (interleaved_blocks packets) interleaved_whole ∙ ap (λ (n : ℕ). 204 * n) interleaved_count
