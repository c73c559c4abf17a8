-- Every row of the table holds.
-- Assumes nothing.
use mathlib.Core.Path.{◌≡◌, refl, sym, ap, ◌∙◌}
use mathlib.Core.List.{List, [], ◌∷◌}
use Prim.Native.Nat.{ℕ, zero, suc, ◌+◌, ◌*◌}
use Prim.{tt}
use native.Mathlib.Omega.{arith}
use lib.ListN.{length, get_or, replicate}
use Rattle.common.specs.Lists.{All, Length}
use Rattle.common.proofs.Entries.{bytes_of, every_byte}
use Rattle.randomizer.specs.Stream.{Packet}
use Rattle.interleaver.proofs.BlockLists.{length-flatten}
use Rattle.receiver.specs.Receive.{fresh_receiver}
use Rattle.receiver.specs.Run.{Call, DecodedCalls, lent_blocks, Plain, OutputFits}
use Rattle.receiver.specs.Begun.{lefts}
use Rattle.receiver.proofs.Reception.{blocks_count}
use Rattle.sent_blocks.specs.Blocks.{coded_blocks, sent_bytes}
use Rattle.sent_blocks.proofs.Lengths.{sent_count_lem}
use Rattle.link.specs.Burst.{received_bytes, wrong_in}
use Rattle.link.specs.Table.{packets, harmed, Holds, cases}
use Rattle.link.proofs.Bursts.{never_corrected}
use Rattle.link.proofs.OneByteMore.{harmed_length, wrong_inside}

-- ---- the stream of the table

all_replicate : {A : Type 0} (P : A → Type 0) (n : ℕ) (x : A) → P x → All P (replicate n x)
all_replicate P zero x h = tt
all_replicate P (suc n) x h = (h, all_replicate P n x h)

sendable : All Packet packets
sendable = all_replicate Packet 40 (0x47 ∷ replicate 187 0) (record {
  size = refl;
  bytes = bytes_of (0x47 ∷ replicate 187 0) (every_byte (0x47 ∷ replicate 187 0) tt);
  sync = refl;
})

sent_length : length (sent_bytes packets) ≡ 204 * 40
sent_length = sent_count_lem packets

-- 97 bytes put nine into block 20
nine : wrong_in (sent_bytes packets) (harmed 4080 97 (sent_bytes packets)) 20 ≡ 9
nine = wrong_inside 4080 97 (sent_bytes packets) 20 (omega (arith, sent_length)) ∙ refl

-- and so it is not corrected to what was sent
spoilt : (cs : List Call) → All (Length 204) (lent_blocks cs) → received_bytes cs ≡ harmed 4080 97 (sent_bytes packets) → All Plain cs → All OutputFits cs
    → DecodedCalls fresh_receiver cs → get_or (lefts cs) (20 + 11) [] ≡ get_or (coded_blocks packets) 20 [] → ⊥
spoilt cs bs e pl rs ds =
    never_corrected packets sendable 0 cs (omega (arith, many)) (omega (arith, many)) bs pl rs ds 20 (omega (arith, many))
    (omega (arith, ap (λ (x : List ℕ). wrong_in (sent_bytes packets) x 20) e ∙ nine))
  where
    many : length cs ≡ 40
    many =
        omega (
          arith,
          blocks_count cs,
          sym (length-flatten 204 (lent_blocks cs) bs) ∙ ap length e ∙ harmed_length 4080 97 (sent_bytes packets) ∙ sent_length,
        )

-- every row of the table holds
pub cases_hold : All Holds cases
cases_hold = (wrong_inside 4080 96 (sent_bytes packets) 20 (omega (arith, sent_length)) ∙ refl, (nine, (spoilt, tt)))
