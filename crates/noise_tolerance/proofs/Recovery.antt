-- Recovery: where some steps of a run tell nothing and the others are doubted sparsely, a best sequence is wrong near those steps only.
-- By stretches: each that touches them climbs no further before and behind them than the doubt allows; and the others are as if nothing were harmed.
-- Assumes nothing.
use mathlib.Core.Path.{◌≡◌, refl, sym, ◌∙◌, ap, ap₂, subst}
use mathlib.Core.List.{List, [], ◌∷◌, ◌++◌}
use mathlib.Core.Logic.{◌⊎◌, inl, inr}
use Prim.Native.Nat.{ℕ, zero, suc, ◌+◌, ◌-◌, ◌*◌, ◌/◌, ◌%◌, ◌≤◌, ◌<◌}
use native.Mathlib.Decide.{ℕ_discrete, dec_le, dec_lt}
use native.Mathlib.Nat.{div-add-mod, mod-lt, mul-le-mul_left, mul-le-mul_right}
use native.Mathlib.Omega.{arith}
use borrow.Author.Tests.{lt-ltb, le-ltb}
use lib.ListN.{length, get_or, take, drop, length-append, length-drop, take-append-drop}
use lib.Seq.{drop-cons, take-suc, take-add, take_at, take-length, length-take-le}
use Rattle.convolutional_code.specs.Bits.{Bits}
use Rattle.convolutional_code.specs.Code.{next_memory, memory_after}
use Rattle.convolutional_code.proofs.Bits.{bits_append, bits_take, bits_drop}
use Rattle.convolutional_code.specs.Costs.{Costs, cost_from}
use Rattle.viterbi_decoder.proofs.Order.{bits_head}
use Rattle.reader.proofs.Costs.{bits_front}
use Rattle.reader.proofs.Streams.{memory_append}
use Rattle.noise_tolerance.proofs.Difference.{unlike, difference}
use Rattle.noise_tolerance.proofs.Exchange.{climb, climb_even, Potentials, Apart, Scan, meets, parts, scan, Stretch, stretch, parted, cost_append, bits_back, memory_lt}
use Rattle.noise_tolerance.proofs.Gap.{rise_past, climb_before, climb_past, weight_past, doubt_full, tells_past, tells_full, growth_past, next_any, lag_past, potentials_past}

-- ---- numbers

-- what a stretch of l steps from step k on leaves of a doubt of at most `most` in each window, and g within the gap
module _ (slope r most window g lag a b : ℕ) (order : a ≤ b) (reach : ℕ) (some : 0 < window) (steady : 8 * (slope * most) ≤ r * window)
    (wide : 8 * (r * (b - a) + (slope * (most + g) + lag)) < 7 * (r * window)) (far : slope * (most + g) + lag < r * suc reach) where
  -- the steps before the gap and behind it
  abbrev beside : ℕ → ℕ → ℕ
  beside k l = a - k + (k + l - b)

  beside_few : (k l e : ℕ) → k ≤ b → a < k + l → r * beside k l ≤ slope * e + lag → ((q : ℕ) → l ≤ window * q → e ≤ most * q + g) → beside k l ≤ reach
  beside_few k l e hk hl h bound = by (dec_le l window) (dec_le (beside k l) reach)
    where
      short : l ≤ window → suc reach ≤ beside k l → ⊥
      short w z =
          let f : slope * e ≤ slope * (most + g) = mul-le-mul_left slope (one w) in
          omega (arith, mul-le-mul_left r z, far)
        where
          one : l ≤ window → e ≤ most + g
          one w = omega (arith, bound 1 (omega arith))

      long : window < l → (q o : ℕ) → window * q + o ≡ l → o < window → ⊥
      long w q o d s =
          let f : e ≤ most * suc q + g = bound (suc q) (omega arith) in
          let m : slope * e ≤ slope * (most * suc q + g) = mul-le-mul_left slope f in
          let t : 8 * (slope * most) * q ≤ r * window * q = mul-le-mul_right q steady in
          let n : r * (window * q) ≤ r * l = mul-le-mul_left r (omega arith) in
          let c : l ≤ beside k l + (b - a) = omega arith in
          let u : r * l ≤ r * (beside k l + (b - a)) = mul-le-mul_left r c in
          let v : r * suc window ≤ r * l = mul-le-mul_left r w in
          sums (r * beside k l) (r * (b - a)) (slope * most) (slope * most * q) (slope * g) (r * l) (r * window) (slope * e) lag
          h (omega (arith, m)) (omega (arith, t, n)) (omega (arith, u)) (omega (arith, v)) (omega (arith, wide))
        where
          sums : (z y p x s l w e g : ℕ) → z ≤ e + g → e ≤ x + p + s → 8 * x ≤ l → l ≤ z + y → w ≤ l → 8 * (y + (p + s + g)) < 7 * w → ⊥
          sums z y p x s l w e g h1 h2 h3 h4 h5 h6 = omega arith

      by : Dec (l ≤ window) → Dec (beside k l ≤ reach) → beside k l ≤ reach
      by d (yes z) = z
      by (yes w) (no z) = absurd (short w (omega arith))
      by (no w) (no z) = absurd (long (omega arith) (l / window) (l % window) (div-add-mod l window) (mod-lt l some))

-- ---- the first meeting

-- two numbers of steps after which two sequences are first at one memory, or at their end, are one number
first_meeting : (s t : ℕ) (xs ys : List ℕ) (n o : ℕ) → n ≤ length xs → o ≤ length xs → Apart s t xs ys n → Apart s t xs ys o
    → (n < length xs → memory_after s (take n xs) ≡ memory_after t (take n ys)) → (o < length xs → memory_after s (take o xs) ≡ memory_after t (take o ys)) → n ≡ o
first_meeting s t xs ys n o hn ho an ao mn mo = by (dec_lt n o) (dec_lt o n)
  where
    by : Dec (n < o) → Dec (o < n) → n ≡ o
    by (yes l) d = absurd (ao n l (mn (omega arith)))
    by (no l) (yes d) = absurd (an o d (mo (omega arith)))
    by (no l) (no d) = omega arith

-- ---- wrong bits

-- A wrong bit of a run of n bits, of which those from a to b are harmed: near these, or one of the last.
pub data Astray (a b reach depth n i : ℕ) : Type 0 where
  near : 0 < b → a ≤ i + reach → i < b + reach → Astray a b reach depth n i
  last : n ≤ i + depth → Astray a b reach depth n i

-- One of a run that begins at another memory than the sent one: one of the first, or of those to behind the harm, where that is near the start; or as above.
pub data AstrayOpen (a b reach opening depth n i : ℕ) : Type 0 where
  early : i < opening → AstrayOpen a b reach opening depth n i
  across : a ≤ opening → i < b + opening → AstrayOpen a b reach opening depth n i
  later : Astray a b reach depth n i → AstrayOpen a b reach opening depth n i

-- ---- another way

-- bits from memory t on that lead where the sent ones lead from s on, at a cost that is higher by no more than the potentials allow
pub record Merging (F : Costs) (growth : ℕ → ℕ → ℕ) (slope fall s t : ℕ) (sent : List ℕ) : Type 0 where
  pub bits : List ℕ
  pub binary : Bits bits
  pub as_long : length bits ≡ length sent
  pub same : memory_after s sent ≡ memory_after t bits
  pub excess : ℕ
  pub cheap : cost_from F 0 t bits ≤ cost_from F 0 s sent + excess
  pub falls : slope * excess + growth 0 (difference s t) ≤ fall

-- ---- six bits fill the memory

level5 : (m n x : ℕ) → m / 64 ≡ n / 64 → next_memory m x / 32 ≡ next_memory n x / 32
level5 m n x e = omega arith

level4 : (m n x : ℕ) → m / 32 ≡ n / 32 → next_memory m x / 16 ≡ next_memory n x / 16
level4 m n x e = omega arith

level3 : (m n x : ℕ) → m / 16 ≡ n / 16 → next_memory m x / 8 ≡ next_memory n x / 8
level3 m n x e = omega arith

level2 : (m n x : ℕ) → m / 8 ≡ n / 8 → next_memory m x / 4 ≡ next_memory n x / 4
level2 m n x e = omega arith

level1 : (m n x : ℕ) → m / 4 ≡ n / 4 → next_memory m x / 2 ≡ next_memory n x / 2
level1 m n x e = omega arith

level0 : (m n x : ℕ) → m / 2 ≡ n / 2 → next_memory m x ≡ next_memory n x
level0 m n x e = omega arith

pub six_settle : (m n : ℕ) → m < 64 → n < 64 → (l : List ℕ) → 6 ≤ length l → memory_after m l ≡ memory_after n l
unfolding memory_after
six_settle m n hm hn [] h = absurd (omega arith)
six_settle m n hm hn (a ∷ []) h = absurd (omega arith)
six_settle m n hm hn (a ∷ b ∷ []) h = absurd (omega arith)
six_settle m n hm hn (a ∷ b ∷ c ∷ []) h = absurd (omega arith)
six_settle m n hm hn (a ∷ b ∷ c ∷ d ∷ []) h = absurd (omega arith)
six_settle m n hm hn (a ∷ b ∷ c ∷ d ∷ e ∷ []) h = absurd (omega arith)
six_settle m n hm hn (a ∷ b ∷ c ∷ d ∷ e ∷ f ∷ l) h =
    let m1 = next_memory m a in
    let n1 = next_memory n a in
    let m2 = next_memory m1 b in
    let n2 = next_memory n1 b in
    let m3 = next_memory m2 c in
    let n3 = next_memory n2 c in
    let m4 = next_memory m3 d in
    let n4 = next_memory n3 d in
    let m5 = next_memory m4 e in
    let n5 = next_memory n4 e in
    let z : m / 64 ≡ n / 64 = omega arith in
    ap (λ (i : ℕ). memory_after i l)
    (level0 m5 n5 f (level1 m4 n4 e (level2 m3 n3 d (level3 m2 n2 c (level4 m1 n1 b (level5 m n a z))))))

-- ---- a run

module _ (a b : ℕ) (order : a ≤ b) (F G w : Costs) (heavy : ℕ) (lightly : (k d z : ℕ) → w k d z ≤ heavy)
    (any : (k s t x y : ℕ) → x < 2 → y < 2 → F k s x ≤ F k t y + G k s x)
    (outside : (k s t x y : ℕ) → s < 64 → t < 64 → x < 2 → y < 2 → (k < a) ⊎ (b ≤ k) → w k (difference s t) (unlike x y) + F k s x ≤ F k t y + G k s x)
    (home growth : ℕ → ℕ → ℕ) (free slope r lead lag : ℕ) (p : Potentials w home growth free slope (λ k. r) lead lag) (top : ℕ) (topmost : (k d : ℕ) → growth k d ≤ top) where
  abbrev full : Costs
  full = doubt_full a b order F G w heavy lightly any outside

  abbrev past : Costs
  past = weight_past a b order F G w heavy lightly any outside

  -- outside the gap nothing is added to the doubt
  full_outside : (k m : ℕ) (l : List ℕ) → (k + length l ≤ a) ⊎ (b ≤ k) → cost_from full k m l ≡ cost_from G k m l
  unfolding cost_from
  full_outside k m [] h = refl
  full_outside k m (x ∷ l) (inl h) = rw (lt-ltb k a (omega arith)) (omega (arith, full_outside (suc k) (next_memory m x) l (inl (omega arith))))
  full_outside k m (x ∷ l) (inr h) = rw (le-ltb k a (omega arith), le-ltb k b h) (omega (arith, full_outside (suc k) (next_memory m x) l (inr (omega arith))))

  module _ (window most depth g reach : ℕ) (some : 0 < window) (rises : 0 < r) (below_free : most < free) (deep : slope * most + lag < r * suc depth + lead)
      (steady : slope * most ≤ r * window) (wide : 2 * (slope * most) + lag ≤ r * window + lead) (steadier : 8 * (slope * most) ≤ r * window)
      (wider : 8 * (r * (b - a) + (slope * (most + g) + (lag + top))) < 7 * (r * window)) (far : slope * (most + g) + (lag + top) < r * suc reach)
      (s t : ℕ) (hs : s < 64) (ht : t < 64) (sent best : List ℕ) (vs : Bits sent) (vb : Bits best) (size : length sent ≡ length best)
      (least : (zs : List ℕ) → Bits zs → length zs ≡ length best → cost_from F 0 t best ≤ cost_from F 0 t zs)
      (allowed : (i n q : ℕ) → n ≤ window * q → cost_from G i (memory_after s (take i sent)) (take n (drop i sent)) ≤ most * q + g)
      (clear : (i n q : ℕ) → n ≤ window * q → (i + n ≤ a) ⊎ (b ≤ i) → cost_from G i (memory_after s (take i sent)) (take n (drop i sent)) ≤ most * q) where
    abbrev Near : ℕ → Type 0
    Near i = Astray a b reach depth (length sent) i

    -- where the two are at one memory and part
    module _ (k : ℕ) (hk : k < length sent) (same : memory_after s (take k sent) ≡ memory_after t (take k best)) (n : get_or sent k 0 ≡ get_or best k 0 → ⊥) where
      abbrev m : ℕ
      m = memory_after s (take k sent)

      abbrev x : ℕ
      x = get_or sent k 0

      abbrev y : ℕ
      y = get_or best k 0

      abbrev xs : List ℕ
      xs = drop (suc k) sent

      abbrev ys : List ℕ
      ys = drop (suc k) best

      xs_are : drop k sent ≡ x ∷ xs
      xs_are = drop-cons sent k 0 hk

      ys_are : drop k best ≡ y ∷ ys
      ys_are = drop-cons best k 0 (omega arith)

      hm : m < 64
      hm = memory_lt s hs (bits_take k vs)

      hx : x < 2
      hx = bits_head (subst Bits xs_are (bits_drop k vs))

      hy : y < 2
      hy = bits_head (subst Bits ys_are (bits_drop k vb))

      vx : Bits xs
      vx = bits_drop (suc k) vs

      vy : Bits ys
      vy = bits_drop (suc k) vb

      l : length xs ≡ length ys
      l = omega (arith, length-drop (suc k) sent, length-drop (suc k) best)

      lk : length (take k best) ≡ k
      lk = length-take-le k best (omega arith)

      from_best : (zs : List ℕ) → cost_from F 0 t (take k best ++ zs) ≡ cost_from F 0 t (take k best) + cost_from F k m zs
      from_best zs =
          let z : 0 + length (take k best) ≡ k = omega (arith, lk) in
          cost_append F 0 t (take k best) zs ∙ ap₂ (λ (i j : ℕ). cost_from F 0 t (take k best) + cost_from F i j zs) z (sym same)

      least_at : (zs : List ℕ) → Bits zs → length zs ≡ length (y ∷ ys) → cost_from F k m (y ∷ ys) ≤ cost_from F k m zs
      least_at zs v e =
          let c : take k best ++ (y ∷ ys) ≡ best = ap (λ (o : List ℕ). take k best ++ o) (sym ys_are) ∙ take-append-drop k best in
          let q : length (take k best ++ zs) ≡ length best =
          length-append (take k best) zs ∙ ap (λ (i : ℕ). length (take k best) + i) e ∙ sym (length-append (take k best) (y ∷ ys)) ∙ ap length c in
          omega (
            arith,
            least (take k best ++ zs) (bits_append (bits_take k vb) v) q,
            from_best zs,
            from_best (y ∷ ys),
            ap (cost_from F 0 t) c,
          )

      whole : Stretch F full w (tells_full a b order F G w heavy lightly any outside) home growth free slope (λ i. r) lead lag p k m x y xs ys
      whole =
          stretch F full w (tells_full a b order F G w heavy lightly any outside) home growth free slope (λ i. r) lead lag p k m x y xs ys hm hx hy n vx vy l least_at

      beyond : Stretch F G past (tells_past a b order F G w heavy lightly any outside) (λ i d. 0) (growth_past a b order F G w heavy lightly any outside home growth free slope r lead lag p top topmost) 0 slope
          (rise_past a b order r) 0 (lag_past a b order F G w heavy lightly any outside home growth free slope r lead lag p top topmost)
          (potentials_past a b order F G w heavy lightly any outside home growth free slope r lead lag p top topmost) k m x y xs ys
      beyond =
          stretch F G past (tells_past a b order F G w heavy lightly any outside) (λ i d. 0) (growth_past a b order F G w heavy lightly any outside home growth free slope r lead lag p top topmost) 0 slope
          (rise_past a b order r) 0 (lag_past a b order F G w heavy lightly any outside home growth free slope r lead lag p top topmost)
          (potentials_past a b order F G w heavy lightly any outside home growth free slope r lead lag p top topmost) k m x y xs ys hm hx hy n vx vy l least_at

      one_length : whole.long ≡ beyond.long
      one_length =
          first_meeting (next_memory m x) (next_memory m y) xs ys whole.long beyond.long whole.within beyond.within whole.apart beyond.apart
          (λ h. (whole.meeting h).0) (λ h. (beyond.meeting h).0)

      abbrev steps : ℕ
      steps = suc beyond.long

      -- a stretch that touches the gap
      touching : k < b → a < k + steps → (a ≤ k + reach) × (k + steps ≤ b + reach)
      touching hb ha =
          let c : r * (a - k + (k + steps - b)) ≤ slope * cost_from G k m (take steps (x ∷ xs)) + (lag + top) =
          omega (arith, climb_past a b order r steps k (omega arith) ha, beyond.enough) in
          let z = beside_few slope r most window g (lag + top) a b order reach some steadier wider far k steps (cost_from G k m (take steps (x ∷ xs))) (omega arith) ha c
          (λ q h. subst (λ (o : List ℕ). cost_from G k m (take steps o) ≤ most * q + g) xs_are (allowed k steps q h)) in
          (omega (arith, z), omega (arith, z))

      -- and one that does not
      missing : (k + steps ≤ a) ⊎ (b ≤ k) → length sent ≤ k + depth
      missing o =
          let d = parted F full w (tells_full a b order F G w heavy lightly any outside) home growth free slope (λ i. r) lead lag p r (climb_even r) window most depth
          some rises below_free deep steady wide k m x y xs ys whole bound in
          omega (arith, d.near, length-drop (suc k) sent)
        where
          taken : length (take (suc whole.long) (x ∷ xs)) ≡ suc whole.long
          taken = length-take-le (suc whole.long) (x ∷ xs) (omega (arith, whole.within))

          free_of : (k + length (take (suc whole.long) (x ∷ xs)) ≤ a) ⊎ (b ≤ k)
          free_of = moved o
            where
              moved : (k + steps ≤ a) ⊎ (b ≤ k) → (k + length (take (suc whole.long) (x ∷ xs)) ≤ a) ⊎ (b ≤ k)
              moved (inl h) = inl (omega (arith, taken, one_length))
              moved (inr h) = inr h

          still : (k + suc whole.long ≤ a) ⊎ (b ≤ k)
          still = moved o
            where
              moved : (k + steps ≤ a) ⊎ (b ≤ k) → (k + suc whole.long ≤ a) ⊎ (b ≤ k)
              moved (inl h) = inl (omega (arith, one_length))
              moved (inr h) = inr h

          bound : (q : ℕ) → suc whole.long ≤ window * q → cost_from full k m (take (suc whole.long) (x ∷ xs)) ≤ most * q
          bound q h =
              rw (full_outside k m (take (suc whole.long) (x ∷ xs)) free_of)
              (subst (λ (o : List ℕ). cost_from G k m (take (suc whole.long) o) ≤ most * q) xs_are (clear k (suc whole.long) q h still))

      in_stretch : (i : ℕ) → k ≤ i → i < k + steps → Near i
      in_stretch i h e = by (dec_lt k b) (dec_lt a (k + steps))
        where
          by : Dec (k < b) → Dec (a < k + steps) → Near i
          by (yes c) (yes d) = let z = touching c d in let u = z.0 in let v = z.1 in near (omega arith) (omega arith) (omega arith)
          by (no c) d = last (omega (arith, missing (inr (omega arith))))
          by (yes c) (no d) = last (omega (arith, missing (inl (omega arith))))

      -- behind it they are at one memory again
      met_again : k + steps < length sent → memory_after s (take (k + steps) sent) ≡ memory_after t (take (k + steps) best)
      unfolding memory_after
      met_again h =
          let e = (beyond.meeting (omega (arith, length-drop (suc k) sent))).0 in
          let c : take (k + steps) sent ≡ take k sent ++ (x ∷ take beyond.long xs) = take-add k steps sent ∙ ap (λ (o : List ℕ). take k sent ++ take steps o) xs_are in
          let d : take (k + steps) best ≡ take k best ++ (y ∷ take beyond.long ys) = take-add k steps best ∙ ap (λ (o : List ℕ). take k best ++ take steps o) ys_are in
          ap (memory_after s) c ∙ memory_append s (take k sent) (x ∷ take beyond.long xs) ∙ e
          ∙ ap (λ (i : ℕ). memory_after i (y ∷ take beyond.long ys)) same ∙ sym (memory_append t (take k best) (y ∷ take beyond.long ys)) ∙ ap (memory_after t) (sym d)

    -- one bit further
    one_further : (k : ℕ) → k < length sent → memory_after s (take k sent) ≡ memory_after t (take k best) → get_or sent k 0 ≡ get_or best k 0
        → memory_after s (take (suc k) sent) ≡ memory_after t (take (suc k) best)
    unfolding memory_after
    one_further k h same e =
        ap (memory_after s) (take-suc sent k 0 h) ∙ memory_append s (take k sent) (get_or sent k 0 ∷ []) ∙ ap₂ next_memory same e
        ∙ sym (memory_append t (take k best) (get_or best k 0 ∷ [])) ∙ ap (memory_after t) (sym (take-suc best k 0 (omega arith)))

    -- the same from a later step, with less fuel
    abbrev Next : ℕ → ℕ → Type 0
    Next fuel i = (j : ℕ) → length sent ≤ j + fuel → memory_after s (take j sent) ≡ memory_after t (take j best) → j ≤ i → Near i

    -- from where they are at one memory, every wrong bit is near the gap or one of the last
    pub walk : (fuel k : ℕ) → length sent ≤ k + fuel → memory_after s (take k sent) ≡ memory_after t (take k best)
        → (i : ℕ) → k ≤ i → i < length sent → (get_or sent i 0 ≡ get_or best i 0 → ⊥) → Near i
    walk zero k enough same i h e d = absurd (omega arith)
    walk (suc fuel) k enough same i h e d =
        by (λ j f c g. walk fuel j f c i g e d) (omega arith) (ℕ_discrete (get_or sent k 0) (get_or best k 0))
      where
        on : Next fuel i → (c : get_or sent k 0 ≡ get_or best k 0) → Dec (i ≡ k) → Near i
        on next c (yes q) = absurd (d (ap (λ (j : ℕ). get_or sent j 0) q ∙ c ∙ ap (λ (j : ℕ). get_or best j 0) (sym q)))
        on next c (no q) = next (suc k) (omega arith) (one_further k (omega arith) same c) (omega arith)

        past_it : Next fuel i → (hk : k < length sent) → (n : get_or sent k 0 ≡ get_or best k 0 → ⊥) → Dec (i < k + steps k hk same n) → Near i
        past_it next hk n (yes q) = in_stretch k hk same n i h q
        past_it next hk n (no q) = next (k + steps k hk same n) (omega arith) (met_again k hk same n (omega arith)) (omega arith)

        by : Next fuel i → (hk : k < length sent) → Dec (get_or sent k 0 ≡ get_or best k 0) → Near i
        by next hk (yes c) = on next c (ℕ_discrete i k)
        by next hk (no n) = past_it next hk n (dec_lt i (k + steps k hk same n))

    -- ---- from two memories

    -- by bits that lead home
    module _ (fall opening : ℕ) (merge : (l : List ℕ) → Bits l → suc opening ≤ length l → Merging F growth slope fall s t l)
        (wider_open : 8 * (r * (b - a) + (slope * (most + g) + (fall + top))) < 7 * (r * window)) (far_open : slope * (most + g) + (fall + top) < r * suc opening) where
      -- so many steps until the two are at one memory, or to the end
      record Opening : Type 0 where
        steps : ℕ
        most_steps : steps ≤ length sent
        met : steps < length sent → memory_after s (take steps sent) ≡ memory_after t (take steps best)
        weight : suc opening ≤ steps → climb (rise_past a b order r) 0 steps ≤ slope * cost_from G 0 s (take steps sent) + (fall + top)

      opened : Opening
      opened =
          by (scan F G past (tells_past a b order F G w heavy lightly any outside) (λ i d. 0) (growth_past a b order F G w heavy lightly any outside home growth free slope r lead lag p top topmost) 0 slope
          (rise_past a b order r) 0 (lag_past a b order F G w heavy lightly any outside home growth free slope r lead lag p top topmost)
          (potentials_past a b order F G w heavy lightly any outside home growth free slope r lead lag p top topmost) 0 s t sent best hs ht vs vb size)
        where
          fallen : growth_past a b order F G w heavy lightly any outside home growth free slope r lead lag p top topmost 0 (difference s t) ≤ growth 0 (difference s t) + top
          fallen = next_any a b order F G w heavy lightly any outside home growth free slope r lead lag p top topmost 0 (difference s t)

          by : Scan F G past (tells_past a b order F G w heavy lightly any outside) (λ i d. 0) (growth_past a b order F G w heavy lightly any outside home growth free slope r lead lag p top topmost) 0 slope
              (rise_past a b order r) 0 (lag_past a b order F G w heavy lightly any outside home growth free slope r lead lag p top topmost)
              (potentials_past a b order F G w heavy lightly any outside home growth free slope r lead lag p top topmost) 0 s t sent best → Opening
          by (meets x y c d v e f o q h u z far) =
              let fx : take (length x) sent ≡ x = ap (take (length x)) e ∙ take_at x c (length x) refl in
              let fy : take (length x) best ≡ y = ap (λ (i : ℕ). take i best) o ∙ (ap (take (length y)) f ∙ take_at y d (length y) refl) in
              let vx : Bits x = bits_front x c (subst Bits e vs) in
              let vd : Bits d = bits_back y d (subst Bits f vb) in
              let cy = ap (cost_from F 0 t) f ∙ cost_append F 0 t y d in
              record {
                steps = length x;
                most_steps = omega (arith, ap length e, length-append x c);
                met = λ i. rw (fx, fy) q;
                weight = λ i.
                    let m = merge x vx i in
                    let lm : length m.bits ≡ length y = m.as_long ∙ o in
                    let lz : length (m.bits ++ d) ≡ length best = length-append m.bits d ∙ (ap (λ (i : ℕ). i + length d) lm ∙ sym (ap length f ∙ length-append y d)) in
                    let cz = cost_append F 0 t m.bits d in
                    let same : cost_from F (0 + length m.bits) (memory_after t m.bits) d ≡ cost_from F (0 + length y) (memory_after t y) d =
                    ap₂ (λ (i j : ℕ). cost_from F (0 + i) j d) lm (sym m.same ∙ q) in
                    let ve : v ≤ cost_from G 0 s x + m.excess = omega (arith, z, least (m.bits ++ d) (bits_append m.binary vd) lz, cy, cz, same, m.cheap) in
                    let n = mul-le-mul_left slope ve in
                    rw fx (omega (arith, u, n, fallen, m.falls));
              }
          by (parts v u z o far) =
              record {
                steps = length sent;
                most_steps = omega arith;
                met = λ i. absurd (omega arith);
                weight = λ i.
                    let m = merge sent vs i in
                    let ve : v ≤ cost_from G 0 s sent + m.excess = omega (arith, z, least m.bits m.binary (m.as_long ∙ size), m.cheap) in
                    let n = mul-le-mul_left slope ve in
                    rw (take-length sent) (omega (arith, u, n, fallen, m.falls));
              }

      abbrev open_steps : ℕ
      open_steps = opened.steps

      -- how far that is
      open_few : (open_steps ≤ opening) ⊎ ((a ≤ opening) × (open_steps ≤ b + opening))
      unfolding memory_after
      open_few = by (dec_le (suc opening) open_steps) (dec_lt a open_steps)
        where
          bound : (q : ℕ) → open_steps ≤ window * q → cost_from G 0 s (take open_steps sent) ≤ most * q + g
          bound q h = allowed 0 open_steps q h

          through : suc opening ≤ open_steps → a < open_steps → a - 0 + (0 + open_steps - b) ≤ opening
          through h l =
              beside_few slope r most window g (fall + top) a b order opening some steadier wider_open far_open 0 open_steps
              (cost_from G 0 s (take open_steps sent)) (omega arith) (omega arith)
              (omega (arith, climb_past a b order r open_steps 0 (omega arith) (omega arith), opened.weight h)) bound

          apart : suc opening ≤ open_steps → open_steps ≤ a → 0 - 0 + (0 + open_steps - 0) ≤ opening
          apart h l =
              beside_few slope r most window g (fall + top) 0 0 (omega arith) opening some steadier (omega (arith, wider_open)) far_open 0 open_steps
              (cost_from G 0 s (take open_steps sent)) (omega arith) (omega arith) climbed bound
            where
              climbed : r * (0 - 0 + (0 + open_steps - 0)) ≤ slope * cost_from G 0 s (take open_steps sent) + (fall + top)
              climbed =
                  let z : 0 - 0 + (0 + open_steps - 0) ≡ open_steps = omega arith in
                  rw z (omega (arith, climb_before a b order r open_steps 0 (omega arith), opened.weight h))

          by : Dec (suc opening ≤ open_steps) → Dec (a < open_steps) → (open_steps ≤ opening) ⊎ ((a ≤ opening) × (open_steps ≤ b + opening))
          by (no h) d = inl (omega arith)
          by (yes h) (yes l) = let z = through h l in inr (omega arith, omega arith)
          by (yes h) (no l) = let z = apart h (omega arith) in inl (omega arith)

      abbrev Spoilt : ℕ → Type 0
      Spoilt i = AstrayOpen a b reach opening depth (length sent) i

      pub spoilt : (i : ℕ) → i < length sent → (get_or sent i 0 ≡ get_or best i 0 → ⊥) → Spoilt i
      spoilt i h d = by (dec_lt i open_steps) open_few
        where
          by : Dec (i < open_steps) → (open_steps ≤ opening) ⊎ ((a ≤ opening) × (open_steps ≤ b + opening)) → Spoilt i
          by (yes l) (inl o) = early (omega arith)
          by (yes l) (inr o) = let u = o.0 in let v = o.1 in across u (omega arith)
          by (no l) o = later (walk (length sent) open_steps (omega arith) (opened.met (omega arith)) i (omega arith) h d)
