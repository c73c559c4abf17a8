-- Blocks of a sender with any of them left out or doubled: every packet given that is not the one sent there has a line.
-- Assumes nothing.
use mathlib.Core.Path.{◌≡◌, refl, sym, ap, ap₂, subst, ◌∙◌}
use mathlib.Core.Bool.{false, false≢true}
use mathlib.Core.List.{List, [], ◌∷◌}
use mathlib.Core.Logic.{◌⊎◌, inl, inr}
use Prim.Native.Nat.{ℕ, zero, suc, ◌+◌, ◌%◌, ◌≤◌, ◌<◌}
use Prim.{tt}
use native.Mathlib.Omega.{arith}
use lib.ListN.{length, get_or, take, drop, get_or-append}
use Rattle.std.proofs.Common.{Some, Ok, Err}
use Rattle.common.specs.Lists.{All}
use Rattle.common.proofs.Lists.{All-at}
use Rattle.reed_solomon.specs.Encode.{encoded, check_bytes}
use Rattle.reed_solomon.specs.Decode.{Decoded}
use Rattle.randomizer.specs.Packet.{randomized, derandomized}
use Rattle.randomizer.specs.Stream.{Packet}
use Rattle.randomizer.proofs.Laws.{first_byte}
use Rattle.randomizer.proofs.Whole.{packet_lengths}
use Rattle.group_sync.specs.Group.{due_byte, fresh_sync, group_step}
use Rattle.group_sync.specs.Stream.{outcomes}
use Rattle.group_sync.specs.declared.Outcome.{Outcome}
use Rattle.group_sync.specs.declared.Outcome.TheVariants.{Filling, Delivered, Lost, Waiting, OutOfStep}
use Rattle.group_sync.specs.declared.GroupSync.{GroupSync}
use Rattle.sent_blocks.specs.Blocks.{coded_blocks}
use Rattle.sent_blocks.proofs.Packets.{coded_at}
use Rattle.receiver.specs.Receive.{decoding_of}
use Rattle.receiver.specs.Run.{Call}
use Rattle.receiver.specs.Begun.{lefts, decodings, packet_of}
use Rattle.receiver.proofs.Decoding.{sent_length, coded_back}
use Rattle.losses.specs.List.{line, lines_from}
use Rattle.losses.specs.History.{blocks_of, LossList}
use Rattle.losses.specs.Promise.{In, Stretches, WrongTold}
use Rattle.losses.proofs.Stretches.{Given, FirstGiven, Sent, in_place}

-- ---- a coded packet of a sender

module _ (packets : List (List ℕ)) (ws : All Packet packets) (n : ℕ) (h : n < length packets) where
  pub own : Packet (get_or packets n [])
  own = All-at Packet packets [] n ws h

  pub coded_own : get_or (coded_blocks packets) n [] ≡ encoded (randomized (n % 8) (get_or packets n []))
  coded_own = coded_at packets (packet_lengths packets ws) n h

  -- it begins with the sync byte of its place, and gives the packet back there
  first_due_lem : get_or (get_or (coded_blocks packets) n []) 0 0 ≡ due_byte (n % 8)
  first_due_lem =
      let p = get_or packets n [] in
      let s : n % 8 ≤ 7 = omega arith in
      ap (λ (l : List ℕ). get_or l 0 0) coded_own
      ∙ get_or-append (randomized (n % 8) p) (check_bytes (randomized (n % 8) p)) 0 0 (let e = sent_length n p own in omega arith)
      ∙ first_byte (n % 8) p s own.size own.sync

  given_back : derandomized (n % 8) (take 188 (get_or (coded_blocks packets) n [])) ≡ get_or packets n []
  given_back = ap (λ (l : List ℕ). derandomized (n % 8) (take 188 l)) coded_own ∙ coded_back n (get_or packets n []) own

-- ---- the packets that are given

record GivenAt (o : Outcome) : Type 0 where
  pub place : ℕ
  pub is : o ≡ Delivered place

given_at : (o : Outcome) → Given o → GivenAt o
given_at Filling h = absurd h
given_at (Delivered place) h = record { place = place; is = refl }
given_at Lost h = absurd h
given_at Waiting h = absurd h
given_at OutOfStep h = absurd h

first_given_at : (os : List Outcome) → FirstGiven os → GivenAt (get_or os 0 Lost)
first_given_at [] h = absurd h
first_given_at (o ∷ os) h = given_at o h

-- a block that was given is a codeword
accepted_due : (s : GroupSync) (decoded : Decoded) (first due : ℕ) → Given (group_step s (decoding_of decoded first)).outcome → first ≡ due → decoding_of decoded first ≡ Some due
accepted_due s (Ok changed) first due g e = ap Some e
accepted_due s (Err refusal) first due g e = absurd g

sent_from_lem : (cs : List Call) (s : GroupSync) (n : ℕ → ℕ)
    → ((i p : ℕ) → get_or (outcomes s (decodings cs)) i Lost ≡ Delivered p → get_or (get_or (lefts cs) i []) 0 0 ≡ due_byte (n i % 8))
    → ((i p q : ℕ) → get_or (outcomes s (decodings cs)) i Lost ≡ Delivered p → get_or (outcomes s (decodings cs)) (suc i) Lost ≡ Delivered q → n (suc i) ≡ n i + 1)
    → Sent s (decodings cs) n
sent_from_lem [] s n f g = tt
sent_from_lem (c ∷ cs) s n f g =
    let o = group_step s (decoding_of c.decoded (get_or c.left 0 0)) in (
      λ h. let a = given_at o.outcome h in accepted_due s c.decoded (get_or c.left 0 0) (due_byte (n 0 % 8)) h (f zero a.place a.is),
      λ h k. let a = given_at o.outcome h in let b = first_given_at (outcomes o.sync (decodings cs)) k in g zero a.place b.place a.is b.is,
      sent_from_lem cs o.sync (λ i. n (suc i)) (λ i. f (suc i)) (λ i. g (suc i)),
    )

record PacketAt (o : Outcome) (left packet : List ℕ) : Type 0 where
  pub place : ℕ
  pub is : o ≡ Delivered place
  pub packet_is : packet ≡ derandomized place (take 188 left)

packet_at_lem : (o : Outcome) (left packet : List ℕ) → packet_of o left ≡ packet ∷ [] → PacketAt o left packet
packet_at_lem Filling left packet e = absurd (omega (arith, ap length e))
packet_at_lem (Delivered place) left packet e = record { place = place; is = refl; packet_is = ap (λ (l : List (List ℕ)). get_or l 0 []) (sym e) }
packet_at_lem Lost left packet e = absurd (omega (arith, ap length e))
packet_at_lem Waiting left packet e = absurd (omega (arith, ap length e))
packet_at_lem OutOfStep left packet e = absurd (omega (arith, ap length e))

-- ---- the theorem

pub wrong_told : {bytes marks lines : List ℕ} (l : LossList bytes marks lines) (packets : List (List ℕ)) → All Packet packets → (at : ℕ → ℕ) → Stretches packets at l.calls
    → WrongTold packets at l.calls lines
wrong_told {bytes} {marks} {lines} l packets ws at t block packet e =
    let cs = l.calls in
    let g = packet_at_lem (get_or (blocks_of cs) block Lost) (get_or (lefts (drop 11 cs)) block []) packet e in
    let s = t.sent block g.place g.is in
    let sent : Sent fresh_sync (decodings (drop 11 cs)) at
    = sent_from_lem (drop 11 cs) fresh_sync at
    (λ i p h. let v = t.sent i p h in ap (λ (x : List ℕ). get_or x 0 0) v.1 ∙ first_due_lem packets ws (at i) v.0) t.consecutive in
    by g.place g s (in_place (decodings (drop 11 cs)) fresh_sync 0 false at refl sent (λ f _. absurd (false≢true f)) block g.place g.is)
  where
    by : (place : ℕ) (g : PacketAt (get_or (blocks_of l.calls) block Lost) (get_or (lefts (drop 11 l.calls)) block []) packet)
        → (at block < length packets) × (get_or (lefts (drop 11 l.calls)) block [] ≡ get_or (coded_blocks packets) (at block) [])
        → (g.place ≡ at block % 8) ⊎ In (line (0 + block) 0) (lines_from 0 false (blocks_of l.calls))
        → (packet ≡ get_or packets (at block) []) ⊎ In (line block 0) lines
    by place g s (inl p) =
        inl (g.packet_is ∙ ap₂ (λ (k : ℕ) (x : List ℕ). derandomized k (take 188 x)) p s.1 ∙ given_back packets ws (at block) s.0)
    by place g s (inr h) =
        let z : 0 + block ≡ block = omega arith in
        inr (subst (λ (x : List ℕ). In (line block 0) x) (sym l.listed) (subst (λ (k : ℕ). In (line k 0) (lines_from 0 false (blocks_of l.calls))) z h))
