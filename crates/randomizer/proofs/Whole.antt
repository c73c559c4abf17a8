-- Call after call from the start of a group gives the energy dispersal of the whole stream.
-- Assumes nothing.
use mathlib.Core.Path.{◌≡◌, refl, ap, ap₂, ◌∙◌, sym}
use mathlib.Core.List.{List, [], ◌∷◌, ◌++◌, zip_with, flatten}
use Prim.Native.Nat.{ℕ, suc, ◌+◌, ◌*◌, ◌%◌, ◌≤◌}
use native.Mathlib.Nat.{add-zero}
use native.Mathlib.Omega.{arith}
use lib.Bits.{bit_xor}
use lib.ListN.{length, get_or, take, drop}
use lib.Seq.{drop-cons, take_at, drop_at}
use Rattle.common.specs.Lists.{All, Length, chunks}
use Rattle.common.proofs.Lists.{All-map}
use Rattle.randomizer.specs.Prbs.{masks}
use Rattle.randomizer.specs.Packet.{randomized}
use Rattle.randomizer.specs.Stream.{Packet, mask_at, dispersed, randomized_stream, randomized_from}
use Rattle.randomizer.proofs.Laws.{length_masks, length_randomized}

pub packet_lengths : (packets : List (List ℕ)) → All Packet packets → All (Length 188) packets
packet_lengths packets g = All-map Packet (Length 188) (λ p a. a.size) packets g

dispersed_append : (xs ys : List ℕ) (n : ℕ) → dispersed n (xs ++ ys) ≡ dispersed n xs ++ dispersed (n + length xs) ys
unfolding dispersed
dispersed_append [] ys n = ap (λ (k : ℕ). dispersed k ys) (sym (add-zero n))
dispersed_append (x ∷ xs) ys n =
    let k : n + 1 + length xs ≡ n + suc (length xs) = omega arith in
    ap (λ (l : List ℕ). bit_xor x (mask_at n) ∷ l)
    (dispersed_append xs ys (n + 1) ∙ ap (λ (m : ℕ). dispersed (n + 1) xs ++ dispersed m ys) k)

-- within a group, byte m of the group being byte n of the stream
within : (xs : List ℕ) (n m : ℕ) → n % 1504 ≡ m % 1504 → m + length xs ≤ 1504 → dispersed n xs ≡ zip_with bit_xor xs (drop m masks)
unfolding dispersed mask_at zip_with
within [] n m e h = refl
within (x ∷ xs) n m e h =
    let k : n % 1504 ≡ m = omega arith in
    ap₂ (λ (i : ℕ) (l : List ℕ). bit_xor x (get_or masks i 0) ∷ l) k (within xs (n + 1) (suc m) (omega arith) (omega arith))
    ∙ ap (zip_with bit_xor (x ∷ xs)) (sym (drop-cons masks m 0 (let f = length_masks in omega arith)))

-- one packet
packet_is : (n : ℕ) (p : List ℕ) → length p ≡ 188 → dispersed (188 * n) p ≡ randomized (n % 8) p
unfolding randomized
packet_is n p e = within p (188 * n) (188 * (n % 8)) (omega arith) (omega arith)

from : (n : ℕ) (ps : List (List ℕ)) → All (Length 188) ps → chunks 188 (length ps) (dispersed (188 * n) (flatten ps)) ≡ randomized_from n ps
unfolding chunks flatten randomized_from
from n [] g = refl
from n (p ∷ ps) g = go (from (n + 1) ps g.1)
  where
    first : List ℕ
    first = randomized (n % 8) p

    size : length first ≡ 188
    size = length_randomized (n % 8) p (omega arith) g.0

    split : dispersed (188 * n) (p ++ flatten ps) ≡ first ++ dispersed (188 * (n + 1)) (flatten ps)
    split =
        let k : 188 * n + length p ≡ 188 * (n + 1) = (let e = g.0 in omega arith) in
        dispersed_append p (flatten ps) (188 * n)
        ∙ ap₂ (λ (l : List ℕ) (m : ℕ). l ++ dispersed m (flatten ps)) (packet_is n p g.0) k

    go : chunks 188 (length ps) (dispersed (188 * (n + 1)) (flatten ps)) ≡ randomized_from (n + 1) ps
        → chunks 188 (suc (length ps)) (dispersed (188 * n) (p ++ flatten ps)) ≡ first ∷ randomized_from (n + 1) ps
    go r =
        ap (λ (l : List ℕ). take 188 l ∷ chunks 188 (length ps) (drop 188 l)) split
        ∙ ap₂ (λ (a b : List ℕ). a ∷ chunks 188 (length ps) b) (take_at first _ 188 size) (drop_at first _ 188 size)
        ∙ ap (λ (l : List (List ℕ)). first ∷ l) r

pub randomized_stream_lem : (packets : List (List ℕ)) → All (Length 188) packets → randomized_from 0 packets ≡ randomized_stream packets
unfolding randomized_stream
randomized_stream_lem packets g = sym (from 0 packets g)
