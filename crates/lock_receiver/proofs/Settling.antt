-- Packets at the front of an output, and packets that wait at the front of an array: what a block settles, case by case.
-- Assumes nothing.
use mathlib.Core.Path.{◌≡◌, refl, sym, ap, ap₂, ◌∙◌}
use mathlib.Core.Bool.{Bool, true, false, false≢true}
use mathlib.Core.List.{List, [], ◌∷◌, ◌++◌, append_assoc, append-nil, flatten}
use Prim.Native.Nat.{ℕ, zero, suc, ◌+◌, ◌*◌, ◌≤◌}
use native.Mathlib.Omega.{arith}
use borrow.Author.Tests.{eq-eqb, ne_eqb}
use lib.ListN.{length, take, drop, length-append, length-drop}
use lib.Seq.{take_at, drop_at, take-add, drop-drop, length-take-le}
use Rattle.common.specs.Lists.{chunks}
use Rattle.common.proofs.Chunks.{length_first}
use Rattle.interleaver.proofs.BlockLists.{flatten_join}
use Rattle.losses.specs.Watch.{waiting_of, is_sure}
use Rattle.losses.specs.declared.Certainty.{Certainty}
use Rattle.losses.specs.declared.Certainty.TheVariants.{Sure, Unsure}
use Rattle.lock_receiver.specs.Take.{WritesPackets, Settles}

-- ---- packets in an array

-- the first packets are the bytes at the front
pub front_packets : (n : ℕ) (held : List ℕ) → 188 * n ≤ length held → flatten (chunks 188 n held) ≡ take (188 * n) held
unfolding chunks flatten
front_packets zero held h = refl
front_packets (suc n) held h =
    let e : 188 + 188 * n ≡ 188 * suc n = omega arith in
    ap (λ (l : List ℕ). take 188 held ++ l) (front_packets n (drop 188 held) (omega (arith, length-drop 188 held)))
    ∙ sym (take-add 188 (188 * n) held) ∙ ap (λ (k : ℕ). take k held) e

-- a packet written behind them
packet_behind : (n : ℕ) (held packet rest : List ℕ) → length packet ≡ 188 → 188 * n ≤ length held
    → chunks 188 (suc n) ((take (188 * n) held ++ packet) ++ rest) ≡ chunks 188 n held ++ packet ∷ []
unfolding chunks
packet_behind zero held packet rest e h = ap (λ (p : List ℕ). p ∷ []) (take_at packet rest 188 e)
packet_behind (suc n) held packet rest e h =
    let a = take 188 held in
    let b = take (188 * n) (drop 188 held) in
    let k : 188 * suc n ≡ 188 + 188 * n = omega arith in
    let l : length a ≡ 188 = length-take-le 188 held (omega arith) in
    let w : (take (188 * suc n) held ++ packet) ++ rest ≡ a ++ ((b ++ packet) ++ rest)
    = ap (λ (x : List ℕ). (x ++ packet) ++ rest) (ap (λ (i : ℕ). take i held) k ∙ take-add 188 (188 * n) held)
    ∙ ap (λ (x : List ℕ). x ++ rest) (append_assoc a b packet) ∙ append_assoc a (b ++ packet) rest in
    ap (chunks 188 (suc (suc n))) w
    ∙ ap₂ (λ (x : List ℕ) (y : List ℕ). x ∷ chunks 188 (suc n) y) (take_at a ((b ++ packet) ++ rest) 188 l) (drop_at a ((b ++ packet) ++ rest) 188 l)
    ∙ ap (λ (x : List (List ℕ)). a ∷ x) (packet_behind n (drop 188 held) packet rest e (omega (arith, length-drop 188 held)))

-- ---- packets in an output

writes_none : (output : List ℕ) → WritesPackets [] output 0 output
unfolding flatten
writes_none output = record { counted = refl; written = refl }

-- packets, and one more behind them
writes_behind : (n : ℕ) (ps : List (List ℕ)) (front packet output between exit : List ℕ) → length ps ≡ n → flatten ps ≡ front → length front ≡ 188 * n → length packet ≡ 188
    → between ≡ (take 0 output ++ front) ++ drop (0 + length front) output → exit ≡ (take (188 * n) between ++ packet) ++ drop (188 * n + length packet) between
    → WritesPackets (ps ++ packet ∷ []) output (n + 1) exit
unfolding flatten
writes_behind n ps front packet output between exit c f l e b w = record {
  counted = sym (length-append ps (packet ∷ []) ∙ ap (λ (i : ℕ). i + 1) c);
  written =
      w ∙ ap₂ (λ (x y : List ℕ). (x ++ packet) ++ y) first behind
      ∙ ap (λ (x : List ℕ). x ++ drop (188 * (n + 1)) output) (sym (flatten_join ps (packet ∷ []) ∙ ap₂ (λ (x y : List ℕ). x ++ y) f (append-nil packet)));
}
  where
    z : 0 + length front ≡ 188 * n
    z = omega arith

    lies : between ≡ front ++ drop (188 * n) output
    lies = b ∙ ap (λ (i : ℕ). front ++ drop i output) z

    first : take (188 * n) between ≡ front
    first = ap (take (188 * n)) lies ∙ take_at front (drop (188 * n) output) (188 * n) l

    behind : drop (188 * n + length packet) between ≡ drop (188 * (n + 1)) output
    behind =
        let i : 188 * n + length packet ≡ 188 * (n + 1) = omega arith in
        sym (drop-drop (length packet) (188 * n) between)
        ∙ ap (drop (length packet)) (ap (drop (188 * n)) lies ∙ drop_at front (drop (188 * n) output) (188 * n) l)
        ∙ drop-drop (length packet) (188 * n) output ∙ ap (λ (k : ℕ). drop k output) i

writes_one : (packet output exit : List ℕ) → length packet ≡ 188 → exit ≡ (take 0 output ++ packet) ++ drop (0 + length packet) output → WritesPackets (packet ∷ []) output 1 exit
unfolding flatten
writes_one packet output exit e w = record {
  counted = refl;
  written =
      let i : 0 + length packet ≡ 188 * 1 = omega arith in
      w ∙ ap₂ (λ (x : List ℕ) (k : ℕ). x ++ drop k output) (sym (append-nil packet)) i;
}

-- ---- what a block settles

module _ (k : Certainty) (number : ℕ) (due start : Bool) (packet held output : List ℕ) (size : length packet ≡ 188) (room : length held ≡ 1316) where
  -- no packet of this block
  pub settles_none : (number ≡ 0 → ⊥) → Settles k number due start packet held output held 0 output
  unfolding chunks
  settles_none z = record { waits = simp (ne_eqb number 0 z); gives = simp (ne_eqb number 0 z) (writes_none output) }

  -- B8 where it was due
  pub settles_confirmed : number ≡ 0 → start ≡ true → due ≡ true → waiting_of k ≤ 7 → (n : ℕ) → n ≡ waiting_of k → (between exit : List ℕ)
      → between ≡ (take 0 output ++ take (188 * n) held) ++ drop (0 + length (take (188 * n) held)) output
      → exit ≡ (take (188 * n) between ++ packet) ++ drop (188 * n + length packet) between
      → Settles k number due start packet held output held (n + 1) exit
  unfolding chunks
  settles_confirmed z s d few n e between exit b w = record {
    waits = simp (eq-eqb number 0 z, s);
    gives =
        simp (eq-eqb number 0 z, s, d, sym e)
        (writes_behind n (chunks 188 n held) (take (188 * n) held) packet output between exit (length_first 188 n held) (front_packets n held (omega arith)) (length-take-le (188 * n) held (omega arith)) size b w);
  }

  -- B8 where it was not
  pub settles_restart : number ≡ 0 → start ≡ true → due ≡ false → (exit : List ℕ) → exit ≡ (take 0 output ++ packet) ++ drop (0 + length packet) output
      → Settles k number due start packet held output held 1 exit
  unfolding chunks
  settles_restart z s d exit w = record { waits = simp (eq-eqb number 0 z, s); gives = simp (eq-eqb number 0 z, s, d) (writes_one packet output exit size w) }

  -- where the places are sure
  pub settles_sure : number ≡ 0 → start ≡ false → is_sure k ≡ true → (exit : List ℕ) → exit ≡ (take 0 output ++ packet) ++ drop (0 + length packet) output
      → Settles k number due start packet held output held 1 exit
  unfolding chunks
  settles_sure z s t exit w = by k t
    where
      by : (m : Certainty) → is_sure m ≡ true → Settles m number due start packet held output held 1 exit
      by Sure t = record { waits = simp (eq-eqb number 0 z, s); gives = simp (eq-eqb number 0 z, s) (writes_one packet output exit size w) }
      by (Unsure n) t = absurd (false≢true t)

  -- where they are not
  pub settles_waits : number ≡ 0 → start ≡ false → is_sure k ≡ false → waiting_of k ≤ 6 → (n : ℕ) → n ≡ waiting_of k → (packets : List ℕ)
      → packets ≡ (take (188 * n) held ++ packet) ++ drop (188 * n + length packet) held → Settles k number due start packet held output packets 0 output
  settles_waits z s t few n e packets w = by k t few e
    where
      by : (m : Certainty) → is_sure m ≡ false → waiting_of m ≤ 6 → n ≡ waiting_of m → Settles m number due start packet held output packets 0 output
      by Sure t few e = absurd (false≢true (sym t))
      by (Unsure i) t few e =
          let j : i + 1 ≡ suc i = omega arith in
          let l : packets ≡ (take (188 * i) held ++ packet) ++ drop (188 * n + length packet) held = w ∙ ap (λ (x : ℕ). (take (188 * x) held ++ packet) ++ drop (188 * n + length packet) held) e in
          let q : chunks 188 (i + 1) packets ≡ chunks 188 i held ++ packet ∷ []
          = ap₂ (λ (x : ℕ) (y : List ℕ). chunks 188 x y) j l ∙ packet_behind i held packet (drop (188 * n + length packet) held) size (omega arith) in
          record { waits = simp (eq-eqb number 0 z, s) q; gives = simp (eq-eqb number 0 z, s) (writes_none output) }
