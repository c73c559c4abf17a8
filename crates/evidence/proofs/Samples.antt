-- Lists of packets that a program must tell apart: k packets of zeros after the sync byte, and one of bytes v.
-- Assumes nothing.
use mathlib.Core.Path.{◌≡◌, refl, ap, ◌∙◌}
use mathlib.Core.List.{List, [], ◌∷◌, ◌++◌}
use Prim.Native.Nat.{ℕ, zero, suc, ◌+◌, ◌%◌, ◌≤◌, ◌<◌}
use Prim.{tt}
use native.Mathlib.Omega.{arith}
use lib.ListN.{length, get_or, take, replicate, length-append, length-replicate}
use lib.Seq.{take-append-le, get_or_at}
use Rattle.common.specs.Lists.{All}
use Rattle.randomizer.specs.Stream.{Packet}
use Rattle.sender.proofs.Inputs.{bytes_replicate}

unfoldable pub sample : ℕ → List ℕ
sample v = 0x47 ∷ replicate 187 v

pub sample_packet : (v : ℕ) → v < 256 → Packet (sample v)
unfolding sample
sample_packet v h = record { size = ap suc (length-replicate {A = ℕ} 187 v); bytes = (omega arith, bytes_replicate 187 v h); sync = refl }

unfoldable pub samples : ℕ → ℕ → List (List ℕ)
samples k v = replicate k (sample 0) ++ sample v ∷ []

pub samples_packets : (k v : ℕ) → v < 256 → All Packet (samples k v)
unfolding samples
samples_packets zero v h = (sample_packet v h, tt)
samples_packets (suc k) v h = (sample_packet 0 (omega arith), samples_packets k v h)

pub samples_length : (k v : ℕ) → length (samples k v) ≡ k + 1
unfolding samples
samples_length k v = length-append (replicate k (sample 0)) (sample v ∷ []) ∙ ap (λ (n : ℕ). n + 1) (length-replicate {A = List ℕ} k (sample 0))

pub samples_front : (j k v : ℕ) → j ≤ k → take j (samples k v) ≡ take j (replicate k (sample 0))
unfolding samples
samples_front j k v h =
    take-append-le j (replicate k (sample 0)) (sample v ∷ []) (omega (arith, length-replicate {A = List ℕ} k (sample 0)))

pub last_byte : (k v : ℕ) → get_or (get_or (samples k v) k []) 12 0 % 2 ≡ v % 2
unfolding samples sample
last_byte k v = ap (λ (p : List ℕ). get_or p 12 0 % 2) (get_or_at (replicate k (sample 0)) (sample v) [] [] k (length-replicate {A = List ℕ} k (sample 0)))
