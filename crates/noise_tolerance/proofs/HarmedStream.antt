-- Harm in a stream of overlapping runs: what is decided wrong is near harmed symbols, whatever the pieces. Where the bits before a run are wrong it begins at
-- another memory than the coder's, and recovers within it.
-- Assumes nothing.
use mathlib.Core.Path.{◌≡◌, refl, sym, ◌∙◌, ap, ap₂, subst}
use mathlib.Core.Bool.{Bool, true}
use mathlib.Core.List.{List, [], ◌∷◌, ◌++◌, map, append_assoc}
use mathlib.Core.Logic.{◌⊎◌, inl, inr}
use Prim.Native.Nat.{ℕ, zero, suc, ◌+◌, ◌-◌, ◌*◌, ◌/◌, ◌%◌, ◌≤◌, ◌<◌}
use native.Mathlib.Decide.{dec_le, dec_lt}
use native.Mathlib.Nat.{le_refl, mul-mod_right, mul-div_right, mul-add-mod_self_left, mod-eq_of_lt, mul-le-mul_left}
use native.Mathlib.Omega.{arith}
use lib.ListN.{length, get_or, take, drop, length-append, length-drop, take-append-drop, get_or-append}
use lib.Seq.{get_or-take, get_or-drop, get_or-append-add, take-take, take-add, take_at, length-take-le, drop-drop}
use Rattle.convolutional_code.specs.Bits.{Bits}
use Rattle.convolutional_code.specs.Code.{memory_after}
use Rattle.convolutional_code.proofs.Bits.{bits_take, bits_drop}
use Rattle.viterbi_decoder.specs.Best.{Best}
use Rattle.puncturing.specs.Mode.{qpsk_count}
use Rattle.puncturing.specs.Step.{pattern_length}
use Rattle.inner_code.specs.Step.{symbols_of}
use Rattle.inner_code.specs.Encode.{coder_at}
use Rattle.reader.specs.Cost.{run_cost}
use Rattle.reader.specs.Read.{symbols_per_pattern, run_bits, length_of_run}
use Rattle.reader.proofs.Patterns.{some_symbols}
use Rattle.reader.proofs.Streams.{fits, front_is, back_is, memory_append}
use Rattle.reader_stream.specs.Runs.{run_patterns, kept_patterns, full_symbols, kept_symbols, kept_bits, Decided, few, run, EndDecided}
use Rattle.reader_stream.proofs.Runs.{numbers}
use Rattle.reader_stream.proofs.Unharmed.{kept_symbols_lem, kept_bits_lem, no_more}
use Rattle.noise_tolerance.specs.Noise.{SparseSymbols}
use Rattle.noise_tolerance.proofs.Exchange.{memory_lt}
use Rattle.noise_tolerance.proofs.Recovery.{six_settle, Astray, near, last, AstrayOpen, early, across, later}
use Rattle.noise_tolerance.proofs.Harm.{Recoverable}
use Rattle.noise_tolerance.proofs.FirstDifference.{First, first_or}
use Rattle.noise_tolerance.proofs.Hull.{div_least, div_below, quotient, spanned, Hull, clean, hit, hull}
use Rattle.noise_tolerance.proofs.HarmedRuns.{Harmable, clean_within, hit_within, run_astray, run_astray_open}
use Rattle.noise_tolerance.proofs.Streams.{sparse_front, sparse_back}

-- ---- lists by their members

take_same : (n : ℕ) (xs ys : List ℕ) → n ≤ length xs → n ≤ length ys → ((i : ℕ) → i < n → get_or xs i 0 ≡ get_or ys i 0) → take n xs ≡ take n ys
take_same zero xs ys hx hy h = refl
take_same (suc n) [] ys hx hy h = absurd (omega arith)
take_same (suc n) (x ∷ xs) [] hx hy h = absurd (omega arith)
take_same (suc n) (x ∷ xs) (y ∷ ys) hx hy h =
    ap₂ (λ (i : ℕ) (l : List ℕ). i ∷ l) (h 0 (omega arith)) (take_same n xs ys (omega arith) (omega arith) (λ i l. h (suc i) (omega arith)))

-- two sequences that agree in their last six bits lead to one memory
six_alike : (s t n : ℕ) (xs ys : List ℕ) → s < 64 → t < 64 → Bits xs → Bits ys → n + 6 ≤ length xs → n + 6 ≤ length ys
    → ((i : ℕ) → i < 6 → get_or xs (n + i) 0 ≡ get_or ys (n + i) 0) → memory_after s (take (n + 6) xs) ≡ memory_after t (take (n + 6) ys)
six_alike s t n xs ys hs ht vx vy lx ly h =
    let e : take 6 (drop n xs) ≡ take 6 (drop n ys) =
    take_same 6 (drop n xs) (drop n ys) (omega (arith, length-drop n xs)) (omega (arith, length-drop n ys))
    (λ i l. get_or-drop n xs i 0 ∙ h i l ∙ sym (get_or-drop n ys i 0)) in
    let six : 6 ≤ length (take 6 (drop n xs)) = omega (arith, length-take-le 6 (drop n xs) (omega (arith, length-drop n xs))) in
    ap (memory_after s) (take-add n 6 xs) ∙ memory_append s (take n xs) (take 6 (drop n xs))
    ∙ six_settle (memory_after s (take n xs)) (memory_after t (take n ys)) (memory_lt s hs (bits_take n vx)) (memory_lt t ht (bits_take n vy)) (take 6 (drop n xs)) six
    ∙ ap (memory_after (memory_after t (take n ys))) e ∙ sym (memory_append t (take n ys) (take 6 (drop n ys))) ∙ ap (memory_after t) (sym (take-add n 6 ys))

-- ---- a stream

-- Bit x of the stream is near harm: there are harmed symbols, one not much later than the bit and one not much earlier, and none of them far.
pub record Beside (P S ahead behind far : ℕ) (Harmed : ℕ → Type 0) (x : ℕ) : Type 0 where
  pub earliest : ℕ
  pub latest : ℕ
  pub earliest_harmed : Harmed earliest
  pub latest_harmed : Harmed latest
  pub not_late : P * (earliest / S) ≤ x + ahead
  pub not_early : x < P * suc (latest / S) + behind
  pub not_far : x ≤ P * (earliest / S) + 2 * far
  pub not_beyond : P * (latest / S) ≤ x + far

module _ {R : Type 0} {cost doubt : R → ℕ → ℕ} {harmed : R → Bool} {u charged : ℕ} (kind : Harmable cost doubt harmed u charged) (rate : ℕ) (hr : rate < qpsk_count)
    {window most depth span reach opening : ℕ} (longest : ℕ) (n : Recoverable rate window most depth charged longest span reach opening)
    (patterns : ℕ) (covers : window + pattern_length rate ≤ pattern_length rate * patterns + 1)
    (distance : ℕ) (spans : longest + symbols_per_pattern rate ≤ symbols_per_pattern rate * span + 1) (distant : full_symbols rate ≤ distance)
    (overlap : kept_bits rate + depth ≤ run_bits rate (full_symbols rate)) (room : opening + (pattern_length rate * span + opening) + 6 ≤ kept_bits rate)
    (bits : List ℕ) (w : Bits bits) (all : List R) (came unread : List ℕ) (size : length all ≡ length came)
    (sparse : SparseSymbols (symbols_per_pattern rate * patterns) (u * most) (map doubt all) came) (coded : came ++ unread ≡ symbols_of (coder_at rate 0) bits)
    (rain : (i j : ℕ) → i ≤ j → j ≤ i + distance → j < length all → harmed (get_or all i kind.some) ≡ true → harmed (get_or all j kind.some) ≡ true → j < i + longest) where
  abbrev P : ℕ
  P = pattern_length rate

  abbrev S : ℕ
  S = symbols_per_pattern rate

  abbrev Q : ℕ
  Q = run_patterns rate

  abbrev HarmedAt : ℕ → Type 0
  HarmedAt i = harmed (get_or all i kind.some) ≡ true

  some_S : 0 < S
  some_S = some_symbols rate hr

  full_is : full_symbols rate ≡ S * Q
  unfolding full_symbols
  full_is = refl

  full_bits : run_bits rate (full_symbols rate) ≡ P * Q
  unfolding full_symbols
  full_bits = ap (λ (k : ℕ). P * k) (mul-div_right Q some_S)

  -- the coder's memory after so many patterns
  abbrev memory_at : ℕ → ℕ
  memory_at k = memory_after 0 (take (P * k) bits)

  memory_small : (k : ℕ) → memory_at k < 64
  memory_small k = memory_lt 0 (omega arith) (bits_take (P * k) w)

  -- the rest of the stream after k patterns
  module _ (k : ℕ) (hk : S * k ≤ length came) where
    front_length : length (take (S * k) came) ≡ S * k
    front_length = length-take-le (S * k) came hk

    front_whole : length (take (S * k) came) % S ≡ 0
    front_whole = ap (λ (j : ℕ). j % S) front_length ∙ mul-mod_right S k

    front_bits : length_of_run rate (take (S * k) came) ≡ P * k
    front_bits = ap (λ (j : ℕ). P * (j / S)) front_length ∙ ap (λ (j : ℕ). P * j) (mul-div_right k some_S)

    cut : take (S * k) came ++ (drop (S * k) came ++ unread) ≡ symbols_of (coder_at rate 0) bits
    cut = sym (append_assoc (take (S * k) came) (drop (S * k) came) unread) ∙ (ap (λ (x : List ℕ). x ++ unread) (take-append-drop (S * k) came) ∙ coded)

    rest_coded : drop (S * k) came ++ unread ≡ symbols_of (coder_at rate (memory_at k)) (drop (P * k) bits)
    rest_coded =
        back_is rate hr 0 (omega arith) bits w (take (S * k) came) (drop (S * k) came ++ unread) front_whole cut
        ∙ (λ i. symbols_of (coder_at rate (memory_after 0 (take (front_bits i) bits))) (drop (front_bits i) bits))

  -- a run of q patterns after k
  module _ (k q : ℕ) (hq : S * k + S * q ≤ length came) (most_q : q ≤ Q) where
    abbrev rs : List R
    rs = take (S * q) (drop (S * k) all)

    abbrev ss : List ℕ
    ss = take (S * q) (drop (S * k) came)

    abbrev bs : List ℕ
    bs = take (P * q) (drop (P * k) bits)

    ls : length ss ≡ S * q
    ls = length-take-le (S * q) (drop (S * k) came) (omega (arith, length-drop (S * k) came))

    lr : length rs ≡ S * q
    lr = length-take-le (S * q) (drop (S * k) all) (omega (arith, length-drop (S * k) all, size))

    whole_s : length ss % S ≡ 0
    whole_s = ap (λ (j : ℕ). j % S) ls ∙ mul-mod_right S q

    bits_s : length_of_run rate ss ≡ P * q
    bits_s = ap (λ (j : ℕ). P * (j / S)) ls ∙ ap (λ (j : ℕ). P * j) (mul-div_right q some_S)

    cut_run : ss ++ (drop (S * q) (drop (S * k) came) ++ unread) ≡ symbols_of (coder_at rate (memory_at k)) (drop (P * k) bits)
    cut_run =
        sym (append_assoc ss (drop (S * q) (drop (S * k) came)) unread)
        ∙ (ap (λ (x : List ℕ). x ++ unread) (take-append-drop (S * q) (drop (S * k) came)) ∙ rest_coded k (omega arith))

    run_coded : ss ≡ symbols_of (coder_at rate (memory_at k)) bs
    run_coded =
        front_is rate hr (memory_at k) (memory_small k) (drop (P * k) bits) (bits_drop (P * k) w) ss (drop (S * q) (drop (S * k) came) ++ unread) whole_s cut_run
        ∙ ap (λ (j : ℕ). symbols_of (coder_at rate (memory_at k)) (take j (drop (P * k) bits))) bits_s

    pub run_fits : P * q ≤ length (drop (P * k) bits)
    run_fits =
        subst (λ (j : ℕ). j ≤ length (drop (P * k) bits)) bits_s
        (fits rate hr (memory_at k) (memory_small k) (drop (P * k) bits) (bits_drop (P * k) w) ss (drop (S * q) (drop (S * k) came) ++ unread) whole_s cut_run)

    lb : length bs ≡ P * q
    lb = length-take-le (P * q) (drop (P * k) bits) run_fits

    whole_b : length bs % P ≡ 0
    whole_b = ap (λ (j : ℕ). j % P) lb ∙ mul-mod_right P q

    sparse_run : SparseSymbols (S * patterns) (u * most) (map doubt rs) ss
    sparse_run =
        sparse_front doubt (S * patterns) (u * most) (S * q) (drop (S * k) all) (drop (S * k) came)
        (sparse_back doubt (S * patterns) (u * most) (S * k) all came sparse)

    harmed_there : (i : ℕ) → i < S * q → get_or rs i kind.some ≡ get_or all (S * k + i) kind.some
    harmed_there i h = get_or-take (S * q) (drop (S * k) all) i kind.some h ∙ get_or-drop (S * k) all i kind.some

    -- Bit i of the run is near harm in it: a first and a last harmed symbol of it.
    record Here (i : ℕ) : Type 0 where
      earliest : ℕ
      latest : ℕ
      earliest_harmed : HarmedAt earliest
      latest_harmed : HarmedAt latest
      within_first : S * k ≤ earliest
      within_last : latest < S * k + S * q
      not_late : P * (earliest / S) ≤ P * k + i + reach
      not_early : P * k + i < P * suc (latest / S) + reach

    -- or what opens the run is not over
    data HereOpen (i : ℕ) : Type 0 where
      settling : i < opening → HereOpen i
      crossing : (l : ℕ) → HarmedAt l → l < S * k + S * q → P * k + i < P * suc (l / S) + opening → i < opening + (P * span + opening) → HereOpen i
      harm_here : Here i → HereOpen i
      end_here : P * q ≤ i + depth → HereOpen i

    module _ (t : ℕ) (ht : t < 64) (best : List ℕ) (b : Best (run_cost (map cost rs) rate t) (length_of_run rate ss) best) where
      module _ (f l : ℕ) (o : f ≤ l) (m : l < length rs) (a : harmed (get_or rs f kind.some) ≡ true) (c : harmed (get_or rs l kind.some) ≡ true)
          (h : (i : ℕ) → i < length rs → harmed (get_or rs i kind.some) ≡ true → (f ≤ i) × (i ≤ l)) where
        f_there : HarmedAt (S * k + f)
        f_there = ap harmed (sym (harmed_there f (omega (arith, lr)))) ∙ a

        l_there : HarmedAt (S * k + l)
        l_there = ap harmed (sym (harmed_there l (omega (arith, lr)))) ∙ c

        close : l < f + longest
        close =
            let z = rain (S * k + f) (S * k + l) (omega arith) (omega (arith, lr, mul-le-mul_left S most_q, distant, full_is)) (omega (arith, lr, hq, size)) f_there l_there in
            omega (arith, z)

        hit_few : suc (l / S) ≤ f / S + span
        hit_few = spanned S f l some_S o longest span close spans

        -- the harm of the run, told of the stream
        near_hit : (i : ℕ) → P * (f / S) ≤ i + reach → i < P * suc (l / S) + reach → Here i
        near_hit i x y = record {
          earliest = S * k + f;
          latest = S * k + l;
          earliest_harmed = f_there;
          latest_harmed = l_there;
          within_first = omega arith;
          within_last = omega (arith, lr);
          not_late = omega (arith, ap (λ (j : ℕ). P * j) (quotient S k f some_S));
          not_early = omega (arith, ap (λ (j : ℕ). P * suc j) (quotient S k l some_S));
        }

        across_hit : (i : ℕ) → P * (f / S) ≤ opening → i < P * suc (l / S) + opening → HereOpen i
        across_hit i x y =
            crossing (S * k + l) l_there (omega (arith, lr)) (omega (arith, ap (λ (j : ℕ). P * suc j) (quotient S k l some_S)))
            (omega (arith, mul-le-mul_left P hit_few))

      astray_clean : {i : ℕ} → Astray (P * 0) (P * 0) reach depth (length bs) i → P * q ≤ i + depth
      astray_clean (near z x y) = absurd (omega arith)
      astray_clean (last x) = omega (arith, lb)

      -- a wrong bit of the run, from the coder's memory
      wrong_closed : memory_at k ≡ t → (i : ℕ) → i < P * q → (get_or bs i 0 ≡ get_or best i 0 → ⊥) → (Here i) ⊎ (P * q ≤ i + depth)
      wrong_closed same i h d = by (hull harmed kind.some rs)
        where
          told : (f l : ℕ) (o : f ≤ l) (m : l < length rs) (a : harmed (get_or rs f kind.some) ≡ true) (c : harmed (get_or rs l kind.some) ≡ true)
              (g : (i : ℕ) → i < length rs → harmed (get_or rs i kind.some) ≡ true → (f ≤ i) × (i ≤ l))
              → Astray (P * (f / S)) (P * suc (l / S)) reach depth (length bs) i → (Here i) ⊎ (P * q ≤ i + depth)
          told f l o m a c g (near z x y) = inl (near_hit f l o m a c g i x y)
          told f l o m a c g (last x) = inr (omega (arith, lb))

          by : Hull harmed kind.some rs → (Here i) ⊎ (P * q ≤ i + depth)
          by (clean g) =
              inr (astray_clean
              (run_astray kind rate hr n patterns covers (memory_at k) t (memory_small k) ht rs bs (bits_take (P * q) (bits_drop (P * k) w)) whole_b ss run_coded (lr ∙ sym ls) sparse_run
              0 0 0 0 (omega arith) (omega arith) (clean_within harmed kind.some rate rs g) b same i (omega (arith, lb)) d))
          by (hit f l o m a c g) =
              told f l o m a c g
              (run_astray kind rate hr n patterns covers (memory_at k) t (memory_small k) ht rs bs (bits_take (P * q) (bits_drop (P * k) w)) whole_b ss run_coded (lr ∙ sym ls) sparse_run
              (f / S) (suc (l / S)) f (suc l) (hit_few f l o m a c g) (close f l o m a c g) (hit_within harmed kind.some rate some_S rs f l o g) b same i (omega (arith, lb)) d)

      -- and from another
      wrong_open : (i : ℕ) → i < P * q → (get_or bs i 0 ≡ get_or best i 0 → ⊥) → HereOpen i
      wrong_open i h d = by (hull harmed kind.some rs)
        where
          told_clean : AstrayOpen (P * 0) (P * 0) reach opening depth (length bs) i → HereOpen i
          told_clean (early x) = settling x
          told_clean (across x y) = settling (omega arith)
          told_clean (later x) = end_here (astray_clean x)

          told : (f l : ℕ) (o : f ≤ l) (m : l < length rs) (a : harmed (get_or rs f kind.some) ≡ true) (c : harmed (get_or rs l kind.some) ≡ true)
              (g : (i : ℕ) → i < length rs → harmed (get_or rs i kind.some) ≡ true → (f ≤ i) × (i ≤ l))
              → AstrayOpen (P * (f / S)) (P * suc (l / S)) reach opening depth (length bs) i → HereOpen i
          told f l o m a c g (early x) = settling x
          told f l o m a c g (across x y) = across_hit f l o m a c g i x y
          told f l o m a c g (later (near z x y)) = harm_here (near_hit f l o m a c g i x y)
          told f l o m a c g (later (last x)) = end_here (omega (arith, lb))

          by : Hull harmed kind.some rs → HereOpen i
          by (clean g) =
              told_clean
              (run_astray_open kind rate hr n patterns covers (memory_at k) t (memory_small k) ht rs bs (bits_take (P * q) (bits_drop (P * k) w)) whole_b ss run_coded (lr ∙ sym ls) sparse_run
              0 0 0 0 (omega arith) (omega arith) (clean_within harmed kind.some rate rs g) b i (omega (arith, lb)) d)
          by (hit f l o m a c g) =
              told f l o m a c g
              (run_astray_open kind rate hr n patterns covers (memory_at k) t (memory_small k) ht rs bs (bits_take (P * q) (bits_drop (P * k) w)) whole_b ss run_coded (lr ∙ sym ls) sparse_run
              (f / S) (suc (l / S)) f (suc l) (hit_few f l o m a c g) (close f l o m a c g) (hit_within harmed kind.some rate some_S rs f l o g) b i (omega (arith, lb)) d)

  -- ---- one run after the other

  abbrev pub Near : ℕ → Type 0
  Near x = Beside P S reach (reach + 6 + opening) (P * Q) HarmedAt x

  -- the bits before pattern k are wrong, by harm behind it
  record Behind (k : ℕ) : Type 0 where
    earliest : ℕ
    latest : ℕ
    earliest_harmed : HarmedAt earliest
    latest_harmed : HarmedAt latest
    not_late : P * (earliest / S) ≤ P * k + reach
    not_early : P * k < P * suc (latest / S) + (reach + 6)
    not_far : P * k ≤ P * (earliest / S) + P * Q
    not_beyond : P * (latest / S) ≤ P * k + P * Q

  data State (k t : ℕ) : Type 0 where
    closed : memory_at k ≡ t → State k t
    opened : t < 64 → Behind k → State k t

  state_small : {k t : ℕ} → State k t → t < 64
  state_small {k} (closed e) = rw (sym e) (memory_small k)
  state_small (opened h b) = h

  module _ (k q : ℕ) (hq : S * k + S * q ≤ length came) (most_q : q ≤ Q) where
    from_here : (i : ℕ) → i < P * q → Here k q hq most_q i → Near (P * k + i)
    from_here i h e = record {
      earliest = e.earliest;
      latest = e.latest;
      earliest_harmed = e.earliest_harmed;
      latest_harmed = e.latest_harmed;
      not_late = e.not_late;
      not_early = omega (arith, e.not_early);
      not_far = omega (arith, mul-le-mul_left P (div_least S k e.earliest some_S e.within_first), mul-le-mul_left P most_q);
      not_beyond = omega (arith, mul-le-mul_left P (below e.latest e.within_last), mul-le-mul_left P most_q);
    }
      where
        below : (l : ℕ) → l < S * k + S * q → l / S ≤ k + q
        below l h = omega (arith, div_below S (k + q) l (omega arith))

    from_open : Behind k → (i : ℕ) → i < P * q → HereOpen k q hq most_q i → (Near (P * k + i)) ⊎ (P * q ≤ i + depth)
    from_open b i h (settling x) =
        inl (record {
          earliest = b.earliest;
          latest = b.latest;
          earliest_harmed = b.earliest_harmed;
          latest_harmed = b.latest_harmed;
          not_late = omega (arith, b.not_late);
          not_early = omega (arith, b.not_early);
          not_far = omega (arith, b.not_far, mul-le-mul_left P most_q);
          not_beyond = omega (arith, b.not_beyond);
        })
    from_open b i h (crossing l e m x y) =
        inl (record {
          earliest = b.earliest;
          latest = l;
          earliest_harmed = b.earliest_harmed;
          latest_harmed = e;
          not_late = omega (arith, b.not_late);
          not_early = omega (arith, x);
          not_far = omega (arith, b.not_far, mul-le-mul_left P most_q);
          not_beyond = omega (arith, mul-le-mul_left P (below m), mul-le-mul_left P most_q);
        })
      where
        below : l < S * k + S * q → l / S ≤ k + q
        below h = omega (arith, div_below S (k + q) l (omega arith))
    from_open b i h (harm_here e) = inl (from_here i h e)
    from_open b i h (end_here e) = inr e

    module _ (t : ℕ) (best : List ℕ) (b : Best (run_cost (map cost (rs k q hq most_q)) rate t) (length_of_run rate (ss k q hq most_q)) best) where
      -- a wrong bit of a run
      wrong_near : State k t → (i : ℕ) → i < P * q → (get_or (bs k q hq most_q) i 0 ≡ get_or best i 0 → ⊥) → (Near (P * k + i)) ⊎ (P * q ≤ i + depth)
      wrong_near (closed e) i h d = by (wrong_closed k q hq most_q t (rw (sym e) (memory_small k)) best b e i h d)
        where
          by : (Here k q hq most_q i) ⊎ (P * q ≤ i + depth) → (Near (P * k + i)) ⊎ (P * q ≤ i + depth)
          by (inl x) = inl (from_here i h x)
          by (inr x) = inr x
      wrong_near (opened s o) i h d = from_open o i h (wrong_open k q hq most_q t s best b i h d)

  -- ---- the memory behind what is kept of a longest run

  module _ (k : ℕ) (hq : S * k + S * Q ≤ length came) (t : ℕ) (best : List ℕ)
      (b : Best (run_cost (map cost (rs k Q hq (le_refl Q))) rate t) (length_of_run rate (ss k Q hq (le_refl Q))) best) where
    abbrev kp : ℕ
    kp = kept_patterns rate

    abbrev B : ℕ
    B = kept_bits rate

    abbrev sent : List ℕ
    sent = bs k Q hq (le_refl Q)

    six : B - 6 + 6 ≡ B
    six = omega (arith, room)

    kept_short : B + depth ≤ P * Q
    kept_short = omega (arith, overlap, full_bits)

    ls' : length sent ≡ P * Q
    ls' = lb k Q hq (le_refl Q)

    lbest : length best ≡ P * Q
    lbest = b.size ∙ bits_s k Q hq (le_refl Q)

    -- where one of the last six bits is wrong, harm is near
    behind_here : (i : ℕ) → i < B → B ≤ i + 6 → Here k Q hq (le_refl Q) i → Behind (k + kp)
    behind_here i h l e = record {
      earliest = e.earliest;
      latest = e.latest;
      earliest_harmed = e.earliest_harmed;
      latest_harmed = e.latest_harmed;
      not_late = omega (arith, e.not_late, kept_bits_lem rate);
      not_early = omega (arith, e.not_early, kept_bits_lem rate);
      not_far = omega (arith, mul-le-mul_left P (div_least S k e.earliest some_S e.within_first), kept_bits_lem rate, kept_short);
      not_beyond = omega (arith, mul-le-mul_left P (below e.latest e.within_last));
    }
      where
        below : (l : ℕ) → l < S * k + S * Q → l / S ≤ k + Q
        below l h = omega (arith, div_below S (k + Q) l (omega arith))

    behind_open : (i : ℕ) → i < B → B ≤ i + 6 → HereOpen k Q hq (le_refl Q) i → Behind (k + kp)
    behind_open i h l (settling x) = absurd (omega (arith, room))
    behind_open i h l (crossing o e m x y) = absurd (omega (arith, room))
    behind_open i h l (harm_here e) = behind_here i h l e
    behind_open i h l (end_here e) = absurd (omega (arith, kept_short))

    behind_wrong : State k t → (i : ℕ) → i < B → B ≤ i + 6 → (get_or sent i 0 ≡ get_or best i 0 → ⊥) → Behind (k + kp)
    behind_wrong (opened s o) i h l d = behind_open i h l (wrong_open k Q hq (le_refl Q) t s best b i (omega (arith, kept_short)) d)
    behind_wrong (closed e) i h l d = by (wrong_closed k Q hq (le_refl Q) t (rw (sym e) (memory_small k)) best b e i (omega (arith, kept_short)) d)
      where
        by : (Here k Q hq (le_refl Q) i) ⊎ (P * Q ≤ i + depth) → Behind (k + kp)
        by (inl x) = behind_here i h l x
        by (inr x) = absurd (omega (arith, kept_short))

    kept_memory : memory_at (k + kp) ≡ memory_after (memory_at k) (take B sent)
    kept_memory =
        let e : P * (k + kp) ≡ P * k + B = omega (arith, kept_bits_lem rate) in
        ap (λ (j : ℕ). memory_after 0 (take j bits)) e ∙ ap (memory_after 0) (take-add (P * k) B bits)
        ∙ memory_append 0 (take (P * k) bits) (take B (drop (P * k) bits))
        ∙ ap (memory_after (memory_at k)) (sym (take-take B (P * Q) (drop (P * k) bits) (omega (arith, kept_short))))

    next_state : State k t → State (k + kp) (memory_after t (take B best))
    next_state s = by (first_or (λ i. get_or sent (B - 6 + i) 0) (λ i. get_or best (B - 6 + i) 0) 6)
      where
        vs : Bits sent
        vs = bits_take (P * Q) (bits_drop (P * k) w)

        by : ((i : ℕ) → i < 6 → get_or sent (B - 6 + i) 0 ≡ get_or best (B - 6 + i) 0) ⊎ (First (λ i. get_or sent (B - 6 + i) 0) (λ i. get_or best (B - 6 + i) 0) 6)
            → State (k + kp) (memory_after t (take B best))
        by (inl h) =
            closed (kept_memory
            ∙ (subst (λ (j : ℕ). memory_after (memory_at k) (take j sent) ≡ memory_after t (take j best)) six
            (six_alike (memory_at k) t (B - 6) sent best (memory_small k) (state_small s) vs b.binary (omega (arith, six, ls', kept_short)) (omega (arith, six, lbest, kept_short)) h)))
        by (inr d) =
            opened (memory_lt t (state_small s) (bits_take B b.binary))
            (behind_wrong s (B - 6 + d.place) (omega (arith, d.below, six)) (omega (arith, six)) d.unlike_there)

  -- ---- what is decided

  record Decisions (k : ℕ) (out : List ℕ) (last : ℕ) (left : List R) : Type 0 where
    wrong : (i : ℕ) → i < length out → (get_or bits (P * k + i) 0 ≡ get_or out i 0 → ⊥) → Near (P * k + i)
    done : ℕ
    out_length : length out ≡ P * done
    left_is : left ≡ drop (S * (k + done)) all
    enough : S * (k + done) ≤ length all
    state : State (k + done) last

  none_decided : (k t : ℕ) → S * k ≤ length all → State k t → Decisions k [] t (drop (S * k) all)
  none_decided k t h s =
      let z : k + 0 ≡ k = omega arith in
      record {
        wrong = λ i l d. absurd (omega arith);
        done = 0;
        out_length = omega arith;
        left_is = ap (λ (j : ℕ). drop (S * j) all) (sym z);
        enough = omega arith;
        state = subst (λ (j : ℕ). State j t) (sym z) s;
      }

  module _ (k t : ℕ) (s : State k t) (full : full_symbols rate ≤ length (drop (S * k) all)) (best : List ℕ)
      (d : Best (run_cost (map cost (take (full_symbols rate) (drop (S * k) all))) rate t) (run_bits rate (full_symbols rate)) best) where
    hf : S * k + S * Q ≤ length came
    hf = omega (arith, full_is, size, length-drop (S * k) all, (numbers rate hr).kept_some, (numbers rate hr).kept_fewer)

    as_run : Best (run_cost (map cost (rs k Q hf (le_refl Q))) rate t) (length_of_run rate (ss k Q hf (le_refl Q))) best
    as_run =
        subst (λ (j : ℕ). Best (run_cost (map cost (rs k Q hf (le_refl Q))) rate t) j best) (full_bits ∙ sym (bits_s k Q hf (le_refl Q)))
        (subst (λ (j : ℕ). Best (run_cost (map cost (take j (drop (S * k) all))) rate t) (run_bits rate (full_symbols rate)) best) full_is d)

    module _ {out : List ℕ} {last : ℕ} {left : List R} (ih : Decisions (k + kept_patterns rate) out last left) where
      kept_length : length (take (kept_bits rate) best) ≡ kept_bits rate
      kept_length = length-take-le (kept_bits rate) best (omega (arith, as_run.size, bits_s k Q hf (le_refl Q), overlap, full_bits))

      one_more : Decisions k (take (kept_bits rate) best ++ out) last left
      one_more = record {
        wrong = λ i l e. by i l e (dec_lt i (kept_bits rate));
        done = kept_patterns rate + ih.done;
        out_length = length-append (take (kept_bits rate) best) out ∙ omega (arith, kept_length, kept_bits_lem rate, ih.out_length);
        left_is = ih.left_is ∙ ap (λ (j : ℕ). drop (S * j) all) (far ih.done);
        enough = subst (λ (j : ℕ). S * j ≤ length all) (far ih.done) ih.enough;
        state = subst (λ (j : ℕ). State j last) (far ih.done) ih.state;
      }
        where
          far : (j : ℕ) → k + kept_patterns rate + j ≡ k + (kept_patterns rate + j)
          far j = omega arith

          front : (i : ℕ) → i < kept_bits rate → get_or (take (kept_bits rate) best ++ out) i 0 ≡ get_or best i 0
          front i h = get_or-append (take (kept_bits rate) best) out 0 i (omega (arith, kept_length)) ∙ get_or-take (kept_bits rate) best i 0 h

          sent_there : (i : ℕ) → i < P * Q → get_or (bs k Q hf (le_refl Q)) i 0 ≡ get_or bits (P * k + i) 0
          sent_there i h = get_or-take (P * Q) (drop (P * k) bits) i 0 h ∙ get_or-drop (P * k) bits i 0

          near_kept : (i : ℕ) → i < kept_bits rate → (Near (P * k + i)) ⊎ (P * Q ≤ i + depth) → Near (P * k + i)
          near_kept i h (inl x) = x
          near_kept i h (inr x) = absurd (omega (arith, overlap, full_bits))

          by : (i : ℕ) → i < length (take (kept_bits rate) best ++ out) → (get_or bits (P * k + i) 0 ≡ get_or (take (kept_bits rate) best ++ out) i 0 → ⊥) → Dec (i < kept_bits rate) → Near (P * k + i)
          by i l e (yes h) =
              near_kept i h (wrong_near k Q hf (le_refl Q) t best as_run s i (omega (arith, overlap, full_bits))
              (λ q. e (sym (sent_there i (omega (arith, overlap, full_bits))) ∙ q ∙ sym (front i h))))
          by i l e (no h) =
              let j : ℕ = i - kept_bits rate in
              let a : P * (k + kept_patterns rate) + j ≡ P * k + i = omega (arith, kept_bits_lem rate) in
              let c : length (take (kept_bits rate) best) + j ≡ i = omega (arith, kept_length) in
              let g : get_or (take (kept_bits rate) best ++ out) i 0 ≡ get_or out j 0 =
              ap (λ (x : ℕ). get_or (take (kept_bits rate) best ++ out) x 0) (sym c) ∙ get_or-append-add (take (kept_bits rate) best) out j 0 in
              subst Near a
              (ih.wrong j (omega (arith, length-append (take (kept_bits rate) best) out, kept_length)) (λ q. e (ap (λ (x : ℕ). get_or bits x 0) (sym a) ∙ q ∙ sym g)))

  decide : (k t : ℕ) {from left : List R} {out : List ℕ} {last : ℕ} → from ≡ drop (S * k) all → S * k ≤ length all → State k t → Decided cost rate t from out last left
      → Decisions k out last left
  decide k t e h s (few l) = subst (λ (x : List R). Decisions k [] t x) (sym e) (none_decided k t h s)
  decide k t e h s (run {rs = from} best total after full d r) =
      let full' : full_symbols rate ≤ length (drop (S * k) all) = subst (λ (x : List R). full_symbols rate ≤ length x) e full in
      let d' : Best (run_cost (map cost (take (full_symbols rate) (drop (S * k) all))) rate t) (run_bits rate (full_symbols rate)) best =
      subst (λ (x : List R). Best (run_cost (map cost (take (full_symbols rate) x)) rate t) (run_bits rate (full_symbols rate)) best) e d.best in
      let c : S * k + kept_symbols rate ≡ S * (k + kept_patterns rate) = omega (arith, kept_symbols_lem rate) in
      let e' : drop (kept_symbols rate) from ≡ drop (S * (k + kept_patterns rate)) all =
      ap (drop (kept_symbols rate)) e ∙ (drop-drop (kept_symbols rate) (S * k) all ∙ ap (λ (j : ℕ). drop j all) c) in
      let h' : S * (k + kept_patterns rate) ≤ length all =
      omega (arith, kept_symbols_lem rate, (numbers rate hr).kept_fewer, (numbers rate hr).kept_some, full', length-drop (S * k) all) in
      one_more k t s full' best d'
      (decide (k + kept_patterns rate) (memory_after t (take (kept_bits rate) best)) e' h'
      (next_state k (hf k t s full' best d') t best (as_run k t s full' best d') s) r)

  left_few : {m last : ℕ} {from left : List R} {out : List ℕ} → Decided cost rate m from out last left → length left < full_symbols rate
  left_few (few l) = l
  left_few (run best total after full d r) = left_few r

  -- ---- to the end

  module _ {left : List R} {out : List ℕ} {last : ℕ} (d : Decided cost rate 0 all out last left) {output exit : List ℕ} {count rest : ℕ} (end : EndDecided cost rate last left output count rest exit) where
    start : State 0 0
    unfolding memory_after
    start = closed (let z : P * 0 ≡ 0 = omega arith in ap (λ (j : ℕ). memory_after 0 (take j bits)) z)

    all_there : all ≡ drop (S * 0) all
    all_there = let z : 0 ≡ S * 0 = omega arith in ap (λ (j : ℕ). drop j all) z

    done : Decisions 0 out last left
    done = decide 0 0 all_there (omega arith) start d

    abbrev k : ℕ
    k = 0 + done.done

    abbrev q : ℕ
    q = end.whole

    hl : S * k + length left ≡ length all
    hl = omega (arith, ap length done.left_is, length-drop (S * k) all, done.enough)

    hq : S * k + S * q ≤ length came
    hq = omega (arith, hl, end.split, size)

    most_q : q ≤ Q
    most_q = by (dec_le q Q)
      where
        by : Dec (q ≤ Q) → q ≤ Q
        by (yes l) = l
        by (no l) = absurd (omega (arith, mul-le-mul_left S (over l), end.split, left_few d, full_is))
          where
            over : ¬ (q ≤ Q) → suc Q ≤ q
            over l = omega arith

    last_bits : List ℕ
    last_bits = end.bits.bits

    lt : length (take (S * q) left) ≡ S * q
    lt = length-take-le (S * q) left (omega (arith, end.split))

    best_end : Best (run_cost (map cost (rs k q hq most_q)) rate last) (length_of_run rate (ss k q hq most_q)) last_bits
    unfolding last_bits
    best_end =
        subst (λ (j : ℕ). Best (run_cost (map cost (rs k q hq most_q)) rate last) (run_bits rate j) last_bits) (lt ∙ sym (ls k q hq most_q))
        (subst (λ (x : List R). Best (run_cost (map cost (take (S * q) x)) rate last) (run_bits rate (length (take (S * q) left))) last_bits) done.left_is end.bits.decoded.best)

    length_last : length last_bits ≡ P * q
    length_last = best_end.size ∙ bits_s k q hq most_q

    given_last : take count exit ≡ last_bits
    unfolding last_bits
    given_last =
        ap₂ take end.bits.counted end.bits.written
        ∙ take_at end.bits.bits _ (run_bits rate (length (take (S * q) left))) end.bits.decoded.best.size

    -- how far that is
    whole_all : length all ≡ S * (k + q) + rest
    whole_all = omega (arith, hl, end.split)

    bits_all : run_bits rate (length all) ≡ P * k + P * q
    bits_all =
        ap (λ (j : ℕ). P * (j / S)) whole_all
        ∙ (ap (λ (j : ℕ). P * j) (quotient S (k + q) rest some_S ∙ no_more (k + q) rest S end.few) ∙ omega arith)

    pub decided_size : length (out ++ take count exit) ≡ run_bits rate (length all)
    decided_size = length-append out (take count exit) ∙ omega (arith, done.out_length, ap length given_last, length_last, bits_all)

    pub decided_within : run_bits rate (length all) ≤ length bits
    decided_within = omega (arith, bits_all, run_fits k q hq most_q, length-drop (P * k) bits, whole_front)
      where
        whole_front : P * k ≤ length bits
        whole_front =
            subst (λ (j : ℕ). j ≤ length bits) (front_bits k (omega (arith, hq)))
            (fits rate hr 0 (omega arith) bits w (take (S * k) came) (drop (S * k) came ++ unread) (front_whole k (omega (arith, hq))) (cut k (omega (arith, hq))))

    pub decided_rest : rest ≡ length all % S
    decided_rest = sym (ap (λ (j : ℕ). j % S) whole_all ∙ (mul-add-mod_self_left S (k + q) rest ∙ mod-eq_of_lt end.few))

    pub decided_wrong : (i : ℕ) → i < run_bits rate (length all) → (get_or bits i 0 ≡ get_or (out ++ take count exit) i 0 → ⊥) → (Near i) ⊎ (run_bits rate (length all) ≤ i + depth)
    decided_wrong i h e = by (dec_lt i (length out))
      where
        z : P * 0 + i ≡ i
        z = omega arith

        sent_there : (j : ℕ) → j < P * q → get_or (bs k q hq most_q) j 0 ≡ get_or bits (P * k + j) 0
        sent_there j l = get_or-take (P * q) (drop (P * k) bits) j 0 l ∙ get_or-drop (P * k) bits j 0

        ended : (j : ℕ) → P * k + j ≡ i → (Near (P * k + j)) ⊎ (P * q ≤ j + depth) → (Near i) ⊎ (run_bits rate (length all) ≤ i + depth)
        ended j c (inl x) = inl (subst Near c x)
        ended j c (inr x) = inr (omega (arith, bits_all))

        by : Dec (i < length out) → (Near i) ⊎ (run_bits rate (length all) ≤ i + depth)
        by (yes l) =
            inl (subst Near z (done.wrong i l (λ c. e (ap (λ (x : ℕ). get_or bits x 0) (sym z) ∙ c ∙ sym (get_or-append out (take count exit) 0 i l)))))
        by (no l) =
            let j : ℕ = i - length out in
            let c : P * k + j ≡ i = omega (arith, done.out_length) in
            let a : length out + j ≡ i = omega arith in
            let g : get_or (out ++ take count exit) i 0 ≡ get_or last_bits j 0 =
            ap (λ (x : ℕ). get_or (out ++ take count exit) x 0) (sym a) ∙ (get_or-append-add out (take count exit) j 0 ∙ ap (λ (x : List ℕ). get_or x j 0) given_last) in
            ended j c
            (wrong_near k q hq most_q last last_bits best_end done.state j (omega (arith, bits_all, done.out_length))
            (λ x. e (ap (λ (y : ℕ). get_or bits y 0) (sym c) ∙ sym (sent_there j (omega (arith, bits_all, done.out_length))) ∙ x ∙ sym g)))
