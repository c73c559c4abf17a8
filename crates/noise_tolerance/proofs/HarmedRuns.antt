-- Harm of symbols: a harmed one may cost anything, or nothing at all. A run whose harmed symbols lie within some patterns is read wrong near these only.
-- Assumes nothing.
use mathlib.Core.Path.{◌≡◌, refl, sym, ◌∙◌, ap}
use mathlib.Core.Bool.{Bool, true, false}
use mathlib.Core.List.{List, map}
use mathlib.Core.Logic.{◌⊎◌, inl, inr}
use Prim.Native.Nat.{ℕ, suc, ◌+◌, ◌*◌, ◌/◌, ◌%◌, ◌≤◌, ◌<◌}
use native.Mathlib.Decide.{dec_lt}
use native.Mathlib.Omega.{arith}
use borrow.Author.Tests.{lt-ltb, le-ltb}
use Rattle.common.specs.Choice.{pick}
use lib.ListN.{length, get_or, length-map, get_or-eq_default}
use Rattle.convolutional_code.specs.Bits.{Bits}
use Rattle.viterbi_decoder.specs.Best.{Best}
use Rattle.convolutional_code.specs.Costs.{cost_from}
use Rattle.puncturing.specs.Mode.{qpsk_count}
use Rattle.puncturing.specs.Step.{pattern_length}
use Rattle.inner_code.specs.Step.{symbols_of}
use Rattle.inner_code.specs.Encode.{coder_at}
use Rattle.branch_metrics.specs.Steps.{punctured_costs}
use Rattle.reader.specs.Cost.{run_cost}
use Rattle.reader.specs.Read.{symbols_per_pattern, length_of_run}
use Rattle.reader.proofs.Costs.{run_is}
use Rattle.reader.proofs.Patterns.{sent_whole, run_whole, run_symbols_lem}
use Rattle.noise_tolerance.specs.Noise.{SparseSymbols}
use Rattle.noise_tolerance.proofs.Difference.{unlike}
use Rattle.noise_tolerance.proofs.SparseSteps.{Sparse}
use Rattle.noise_tolerance.proofs.Recovery.{Astray, AstrayOpen}
use Rattle.noise_tolerance.proofs.Hull.{starts, ends, ordered}
use Rattle.noise_tolerance.proofs.Harm.{fee_at, Recoverable, astray, astray_open}
use Rattle.noise_tolerance.proofs.Received.{spread, spread_splits}
use Rattle.noise_tolerance.proofs.Windows.{sparse_steps}

-- Deciding I, part 0, or Q, part 1, of a received symbol as v. One that is not harmed tells the bit that was sent from the other, but for a doubt; of a harmed one
-- the other costs less by no more than is charged.
pub record Harmable {R : Type 0} (cost doubt : R → ℕ → ℕ) (harmed : R → Bool) (u charged : ℕ) : Type 0 where
  pub some : R
  pub some_unharmed : harmed some ≡ false
  pub part : R → ℕ → ℕ → ℕ
  pub part_doubt : R → ℕ → ℕ → ℕ
  pub counts : 0 < u
  pub splits : (r : R) (s : ℕ) → cost r s ≡ part r 0 (s / 2) + part r 1 (s % 2)
  pub doubt_splits : (r : R) (s : ℕ) → doubt r s ≡ part_doubt r 0 (s / 2) + part_doubt r 1 (s % 2)
  pub tells : (r : R) (b v o : ℕ) → harmed r ≡ false → v < 2 → o < 2 → u * unlike v o + part r b v ≤ part r b o + part_doubt r b v
  pub weak : (r : R) (b v o : ℕ) → v < 2 → o < 2 → part r b v ≤ part r b o + part_doubt r b v + u * charged
  pub cheap : (r : R) (b v : ℕ) → v < 2 → part r b v ≤ u

-- harmed symbols lie from f to before e, and these in patterns qa to before qb
pub record Within {R : Type 0} (harmed : R → Bool) (some : R) (rate qa qb f e : ℕ) (rs : List R) : Type 0 where
  pub each : (i : ℕ) → i < length rs → harmed (get_or rs i some) ≡ true → (f ≤ i) × (i < e)
  pub order : qa ≤ qb
  pub between : f ≤ e
  pub first_in : symbols_per_pattern rate * qa ≤ f
  pub last_in : e ≤ symbols_per_pattern rate * qb

-- where nothing is harmed, and from the first harmed symbol to the last
pub clean_within : {R : Type 0} (harmed : R → Bool) (some : R) (rate : ℕ) (rs : List R) → ((i : ℕ) → i < length rs → harmed (get_or rs i some) ≡ false) → Within harmed some rate 0 0 0 0 rs
clean_within harmed some rate rs h = record {
  each = λ i l e. absurd (let o : ◌≡◌ {A = ℕ} 1 0 = ap (λ (t : Bool). pick t 1 0) (sym e ∙ h i l) in omega arith);
  order = omega arith;
  between = omega arith;
  first_in = omega arith;
  last_in = omega arith;
}

pub hit_within : {R : Type 0} (harmed : R → Bool) (some : R) (rate : ℕ) → 0 < symbols_per_pattern rate → (rs : List R) (f l : ℕ) → f ≤ l
    → ((i : ℕ) → i < length rs → harmed (get_or rs i some) ≡ true → (f ≤ i) × (i ≤ l))
    → Within harmed some rate (f / symbols_per_pattern rate) (suc (l / symbols_per_pattern rate)) f (suc l) rs
hit_within harmed some rate pos rs f l o h = record {
  each = λ i p e. let z = h i p e in let x = z.0 in let y = z.1 in (omega arith, omega arith);
  order = ordered (symbols_per_pattern rate) f l pos o;
  between = omega arith;
  first_in = starts (symbols_per_pattern rate) f l pos o;
  last_in = ends (symbols_per_pattern rate) f l pos o;
}

doubled : {f e : ℕ} → f ≤ e → 2 * f ≤ 2 * e
doubled h = omega arith

module _ {R : Type 0} {cost doubt : R → ℕ → ℕ} {harmed : R → Bool} {u charged : ℕ} (kind : Harmable cost doubt harmed u charged) (rate : ℕ) (hr : rate < qpsk_count)
    {window most depth longest span reach opening : ℕ} (n : Recoverable rate window most depth charged longest span reach opening)
    (patterns : ℕ) (covers : window + pattern_length rate ≤ pattern_length rate * patterns + 1)
    (s t : ℕ) (hs : s < 64) (ht : t < 64) (rs : List R) (bits : List ℕ) (w : Bits bits) (whole : length bits % pattern_length rate ≡ 0)
    (ss : List ℕ) (es : ss ≡ symbols_of (coder_at rate s) bits) (size : length rs ≡ length ss)
    (sparse : SparseSymbols (symbols_per_pattern rate * patterns) (u * most) (map doubt rs) ss)
    (qa qb f e : ℕ) (few : qb ≤ qa + span) (short : e ≤ f + longest) (inside : Within harmed kind.some rate qa qb f e rs)
    {best : List ℕ} (b : Best (run_cost (map cost rs) rate t) (length_of_run rate ss) best) where
  abbrev c : ℕ → ℕ → ℕ
  c = spread kind.part kind.some rs

  abbrev g : ℕ → ℕ → ℕ
  g = spread kind.part_doubt kind.some rs

  unharmed_beyond : (i : ℕ) → (i < symbols_per_pattern rate * qa) ⊎ (symbols_per_pattern rate * qb ≤ i) → harmed (get_or rs i kind.some) ≡ false
  unharmed_beyond i o = by (dec_lt i (length rs)) (harmed (get_or rs i kind.some)) refl
    where
      never : i < length rs → harmed (get_or rs i kind.some) ≡ true → (i < symbols_per_pattern rate * qa) ⊎ (symbols_per_pattern rate * qb ≤ i) → ⊥
      never l d (inl h) = let z = inside.each i l d in let x = z.0 in omega (arith, inside.first_in)
      never l d (inr h) = let z = inside.each i l d in let x = z.1 in omega (arith, inside.last_in)

      by : Dec (i < length rs) → (x : Bool) → harmed (get_or rs i kind.some) ≡ x → harmed (get_or rs i kind.some) ≡ false
      by d false m = m
      by (yes l) true m = absurd (never l m o)
      by (no l) true m = ap harmed (get_or-eq_default rs kind.some (omega arith)) ∙ kind.some_unharmed

  bits_tell : (j v o : ℕ) → v < 2 → o < 2 → (j < 2 * (symbols_per_pattern rate * qa)) ⊎ (2 * (symbols_per_pattern rate * qb) ≤ j) → u * unlike v o + c j v ≤ c j o + g j v
  bits_tell j v o hv ho h = kind.tells (get_or rs (j / 2) kind.some) (j % 2) v o (unharmed_beyond (j / 2) (halves h)) hv ho
    where
      halves : (j < 2 * (symbols_per_pattern rate * qa)) ⊎ (2 * (symbols_per_pattern rate * qb) ≤ j) → (j / 2 < symbols_per_pattern rate * qa) ⊎ (symbols_per_pattern rate * qb ≤ j / 2)
      halves (inl l) = inl (omega arith)
      halves (inr l) = inr (omega arith)

  -- a harmed coded bit is charged, and one that is not tells as ever
  bits_weak : (j v o : ℕ) → v < 2 → o < 2 → c j v ≤ c j o + g j v + fee_at (2 * f) (2 * e) (doubled inside.between) (u * charged) j
  bits_weak j v o hv ho = by (harmed (get_or rs (j / 2) kind.some)) refl
    where
      part_tells : harmed (get_or rs (j / 2) kind.some) ≡ false → c j v ≤ c j o + g j v
      part_tells m = omega (arith, kind.tells (get_or rs (j / 2) kind.some) (j % 2) v o m hv ho)

      here : harmed (get_or rs (j / 2) kind.some) ≡ true → (2 * f ≤ j) × (j < 2 * e)
      here m = at (dec_lt (j / 2) (length rs))
        where
          at : Dec (j / 2 < length rs) → (2 * f ≤ j) × (j < 2 * e)
          at (yes l) = let z = inside.each (j / 2) l m in let x = z.0 in let y = z.1 in (omega arith, omega arith)
          at (no l) =
              let z : harmed (get_or rs (j / 2) kind.some) ≡ false = ap harmed (get_or-eq_default rs kind.some (omega arith)) ∙ kind.some_unharmed in
              absurd (let w : ◌≡◌ {A = ℕ} 1 0 = ap (λ (t : Bool). pick t 1 0) (sym m ∙ z) in omega arith)

      by : (t : Bool) → harmed (get_or rs (j / 2) kind.some) ≡ t → c j v ≤ c j o + g j v + fee_at (2 * f) (2 * e) (doubled inside.between) (u * charged) j
      by false m = omega (arith, part_tells m)
      by true m =
          let z = here m in
          let x = z.0 in
          let y = z.1 in
          rw (le-ltb j (2 * f) x, lt-ltb j (2 * e) y) (kind.weak (get_or rs (j / 2) kind.some) (j % 2) v o hv ho)

  sparse_doubt : Sparse (punctured_costs rate g) window (u * most) 0 s bits
  sparse_doubt =
      sparse_steps (map doubt rs) g (spread_splits doubt kind.part_doubt kind.some kind.doubt_splits rs) rate hr s hs bits w whole ss es
      (sym size ∙ sym (length-map rs doubt)) patterns window (u * most) covers sparse

  lc : length (map cost rs) ≡ length ss
  lc = length-map rs cost ∙ size

  sized : length bits ≡ length_of_run rate ss
  sized = (sent_whole rate s hr hs bits w whole ss es).1

  steps_are : (ys : List ℕ) → Bits ys → length ys ≡ length_of_run rate ss → cost_from (punctured_costs rate c) 0 t ys ≡ run_cost (map cost rs) rate t ys
  steps_are ys v l =
      sym (run_is (map cost rs) c (spread_splits cost kind.part kind.some kind.splits rs) rate t hr ht v
      (ap (λ (j : ℕ). j % pattern_length rate) l ∙ run_whole rate hr (length ss))
      (run_symbols_lem rate hr (length ss) (sent_whole rate s hr hs bits w whole ss es).0 t ht ys v l ∙ sym lc))

  least : (zs : List ℕ) → Bits zs → length zs ≡ length best → cost_from (punctured_costs rate c) 0 t best ≤ cost_from (punctured_costs rate c) 0 t zs
  least zs v e =
      let q : length zs ≡ length_of_run rate ss = e ∙ b.size in
      omega (arith, steps_are best b.binary b.size, steps_are zs v q, b.least zs v q)

  -- a wrong bit of a run from the coder's memory
  pub run_astray : s ≡ t → (i : ℕ) → i < length bits → (get_or bits i 0 ≡ get_or best i 0 → ⊥) → Astray (pattern_length rate * qa) (pattern_length rate * qb) reach depth (length bits) i
  run_astray same i h d =
      astray u charged kind.counts c g rate hr qa qb inside.order (2 * f) (2 * e) (doubled inside.between) (omega (arith, inside.first_in)) (omega (arith, inside.last_in))
      (λ j v. kind.cheap (get_or rs (j / 2) kind.some) (j % 2) v) bits_weak bits_tell n few (omega (arith, short)) s t hs ht bits best w b.binary (sized ∙ sym b.size) least sparse_doubt same i h d

  -- and from another
  pub run_astray_open : (i : ℕ) → i < length bits → (get_or bits i 0 ≡ get_or best i 0 → ⊥) → AstrayOpen (pattern_length rate * qa) (pattern_length rate * qb) reach opening depth (length bits) i
  run_astray_open i h d =
      astray_open u charged kind.counts c g rate hr qa qb inside.order (2 * f) (2 * e) (doubled inside.between) (omega (arith, inside.first_in)) (omega (arith, inside.last_in))
      (λ j v. kind.cheap (get_or rs (j / 2) kind.some) (j % 2) v) bits_weak bits_tell n few (omega (arith, short)) s t hs ht bits best w b.binary (sized ∙ sym b.size) least sparse_doubt i h d
