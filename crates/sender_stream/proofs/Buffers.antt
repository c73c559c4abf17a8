-- Packets that lie one after the other in a buffer, and a loop that goes over them.
-- Assumes nothing.
use mathlib.Core.Path.{◌≡◌, refl, ap, sym, ◌∙◌}
use mathlib.Core.Bool.{true, false}
use mathlib.Core.List.{List, [], ◌∷◌}
use Prim.Native.Nat.{ℕ, ◌+◌, ◌-◌, ◌*◌, ◌/◌, ◌%◌, ◌≤◌, ◌<◌}
use native.Mathlib.Nat.{add-zero}
use native.Mathlib.Omega.{arith}
use borrow.Author.Tests.{eq-eqb, ne_eqb}
use lib.ListN.{length, get_or, take, drop, length-drop}
use lib.Seq.{drop-drop, get_or-take, get_or-drop, length-take-le}
use Rattle.common.specs.Lists.{chunks_of}
use Rattle.common.proofs.Chunks.{chunks_few, chunks_more}
use Rattle.sender_stream.specs.Run.{synced}

-- a packet begins at 188 k
pub begins : (n k : ℕ) → k < n / 188 → 188 * k < n
begins n k h = omega arith

-- the last one ends with the bytes
pub ends : (n k : ℕ) → n % 188 ≡ 0 → n / 188 ≤ k → n ≤ 188 * k
ends n k e h = omega arith

-- a packet begins at at, or the bytes end there
pub record Scanning (bytes : List ℕ) (at : ℕ) : Type 0 where
  pub within : at ≤ length bytes
  pub whole : (length bytes - at) % 188 ≡ 0

pub scanning_start : (bytes : List ℕ) → length bytes % 188 ≡ 0 → Scanning bytes 0
scanning_start bytes h = record { within = omega arith; whole = omega arith }

module _ {bytes : List ℕ} {at : ℕ} (s : Scanning bytes at) where
  pub scanning_end : length bytes ≤ at → chunks_of 188 (drop at bytes) ≡ []
  scanning_end h = let d = length-drop at bytes in chunks_few 188 (omega arith) (drop at bytes) (omega arith)

  module _ (h : at < length bytes) where
    pub scanning_left : at + 188 ≤ length bytes
    scanning_left = omega (arith, s.whole)

    pub scanning_packet : chunks_of 188 (drop at bytes) ≡ take 188 (drop at bytes) ∷ chunks_of 188 (drop (at + 188) bytes)
    scanning_packet =
        let d = length-drop at bytes in
        let l = scanning_left in
        chunks_more 188 (omega arith) (drop at bytes) (omega arith)
        ∙ ap (λ (x : List ℕ). take 188 (drop at bytes) ∷ chunks_of 188 x) (drop-drop 188 at bytes)

    pub scanning_size : length (take 188 (drop at bytes)) ≡ 188
    scanning_size = let d = length-drop at bytes in let l = scanning_left in length-take-le 188 (drop at bytes) (omega arith)

    pub scanning_more : Scanning bytes (at + 188)
    scanning_more = record { within = scanning_left; whole = omega (arith, s.whole, scanning_left) }

-- the packets before at are synced, and those from at on decide
pub record Synced (bytes : List ℕ) (at : ℕ) : Type 0 where
  pub scanning : Scanning bytes at
  pub rest : synced (chunks_of 188 bytes) ≡ synced (chunks_of 188 (drop at bytes))

pub synced_start : (bytes : List ℕ) → length bytes % 188 ≡ 0 → Synced bytes 0
synced_start bytes h = record { scanning = scanning_start bytes h; rest = refl }

module _ {bytes : List ℕ} {at : ℕ} (s : Synced bytes at) where
  pub synced_all : length bytes ≤ at → synced (chunks_of 188 bytes) ≡ true
  unfolding synced
  synced_all h = s.rest ∙ ap synced (scanning_end s.scanning h)

  module _ (h : at < length bytes) where
    rest_synced : synced (chunks_of 188 bytes) ≡ synced (take 188 (drop at bytes) ∷ chunks_of 188 (drop (at + 188) bytes))
    rest_synced = s.rest ∙ ap synced (scanning_packet s.scanning h)

    first : get_or (take 188 (drop at bytes)) 0 0 ≡ get_or bytes at 0
    first = get_or-take 188 (drop at bytes) 0 0 (omega arith) ∙ get_or-drop at bytes 0 0 ∙ ap (λ (n : ℕ). get_or bytes n 0) (add-zero at)

    pub synced_more : get_or bytes at 0 ≡ 0x47 → Synced bytes (at + 188)
    unfolding synced
    synced_more e = record { scanning = scanning_more s.scanning h; rest = rest_synced ∙ simp (eq-eqb _ _ (first ∙ e)) }

    pub synced_bad : (get_or bytes at 0 ≡ 0x47 → ⊥) → synced (chunks_of 188 bytes) ≡ false
    unfolding synced
    synced_bad e = rest_synced ∙ simp (ne_eqb _ _ (λ f. e (sym first ∙ f)))
