-- A stream that begins with the lead of unknown symbols, and then was received clearly from any memory on: behind the bits of the lead it gives the bits that
-- were sent, whatever pieces it comes in, and at its end all of them up to the last whole pattern.
-- Assumes nothing.
use mathlib.Core.Path.{◌≡◌, refl, sym, ◌∙◌, ap, ap₂, subst}
use mathlib.Core.List.{List, ◌++◌, map, append_assoc}
use Prim.Native.Nat.{ℕ, ◌+◌, ◌-◌, ◌*◌, ◌/◌, ◌%◌, ◌<◌, ◌≤◌}
use native.Mathlib.Decide.{dec_lt}
use native.Mathlib.Nat.{mul_comm, mul-suc, mul-mod_right, mul-div_right, mul-add, mul-add-div, mul-add-mod_self_left, mul-le-mul_left, div-add-mod, mod-lt, mod-eq_of_lt}
use native.Mathlib.Omega.{arith}
use lib.Dec.{leb, leb→le}
use lib.ListN.{length, take, drop, length-append, length-drop, take-append-drop}
use lib.Seq.{length-take-le, take-take, take-add, take_at, drop_at, take-append-add, drop-append-add, drop-nil}
use Rattle.common.specs.Lists.{All}
use Rattle.common.proofs.Computed.{below_at}
use Rattle.convolutional_code.specs.Bits.{Bits}
use Rattle.convolutional_code.specs.Code.{memory_after}
use Rattle.convolutional_code.proofs.Bits.{bits_take, bits_drop}
use Rattle.puncturing.specs.Mode.{mode_of}
use Rattle.puncturing.specs.Step.{pattern_length}
use Rattle.inner_code.specs.Step.{symbols_of}
use Rattle.inner_code.specs.Encode.{coder_at}
use Rattle.viterbi_decoder.specs.Best.{Decoded}
use Rattle.reader.specs.Clear.{AllClear}
use Rattle.reader.specs.Cost.{run_cost}
use Rattle.reader.specs.Read.{symbols_per_pattern, run_bits, length_of_run}
use Rattle.reader.proofs.Patterns.{some_symbols, memory_in_range}
use Rattle.reader.proofs.Streams.{fits, front_is, back_is, memory_append}
use Rattle.reader.proofs.Unharmed.{clear_length, clear_take, clear_drop}
use Rattle.reader_stream.specs.Runs.{run_patterns, kept_patterns, full_symbols, kept_symbols, kept_bits, Decided, few, run, EndDecided, ReadToEnd}
use Rattle.reader_stream.proofs.Unharmed.{kept_symbols_lem, kept_bits_lem, no_more, stream_given_back, WholeStream, decided_whole}
use Rattle.free_start.specs.Lead.{Unknown, lead_patterns, lead_symbols, bits_of_lead}
use Rattle.free_start.proofs.FreeStart.{free_start}

-- ---- the numbers of a rate

pub record LeadNumbers (rate : ℕ) : Type 0 where
  pub six : 6 ≤ pattern_length rate * lead_patterns rate
  pub enough : lead_patterns rate + 6 ≤ kept_patterns rate
  pub longer : kept_patterns rate ≤ run_patterns rate

pub lead_numbers : (rate : ℕ) → rate < 5 → LeadNumbers rate
unfolding lead_patterns kept_patterns run_patterns mode_of
lead_numbers rate h = record {
  six = leb→le _ _ (below_at (λ r. leb 6 (pattern_length r * lead_patterns r)) 5 tt rate h);
  enough = leb→le _ _ (below_at (λ r. leb (lead_patterns r + 6) (kept_patterns r)) 5 tt rate h);
  longer = leb→le _ _ (below_at (λ r. leb (kept_patterns r) (run_patterns r)) 5 tt rate h);
}

-- n times s in x: n in x / s
le_div : (s n x : ℕ) → 0 < s → n * s ≤ x → n ≤ x / s
le_div s n x h l = by (dec_lt (x / s) n)
  where
    by : Dec (x / s < n) → n ≤ x / s
    by (yes f) = absurd (omega (arith, l, mul_comm n s, mul-le-mul_left s f, mul-suc s (x / s), div-add-mod x s, mod-lt x h))
    by (no f) = omega arith

-- ---- the symbols of j patterns

module _ (rate : ℕ) (hr : rate < 5) (m : ℕ) (hm : m < 64) (bits : List ℕ) (w : Bits bits) (ss rest : List ℕ) (e : ss ++ rest ≡ symbols_of (coder_at rate m) bits) where
  abbrev p : ℕ
  p = pattern_length rate

  abbrev s : ℕ
  s = symbols_per_pattern rate

  -- They are the coding of the first bits, and those behind them that of the others.
  pub record Cut (j : ℕ) : Type 0 where
    pub fit : p * j ≤ length bits
    pub front : take (s * j) ss ≡ symbols_of (coder_at rate m) (take (p * j) bits)
    pub back : drop (s * j) ss ++ rest ≡ symbols_of (coder_at rate (memory_after m (take (p * j) bits))) (drop (p * j) bits)

  pub cut : (j : ℕ) → s * j ≤ length ss → Cut j
  cut j h =
      let fs : List ℕ = take (s * j) ss in
      let lf : length fs ≡ s * j = length-take-le (s * j) ss h in
      let whole : length fs % s ≡ 0 = ap (λ (k : ℕ). k % s) lf ∙ mul-mod_right s j in
      let ef : fs ++ (drop (s * j) ss ++ rest) ≡ symbols_of (coder_at rate m) bits =
      sym (append_assoc fs (drop (s * j) ss) rest) ∙ (ap (λ (x : List ℕ). x ++ rest) (take-append-drop (s * j) ss) ∙ e) in
      let n : length_of_run rate fs ≡ p * j = ap (run_bits rate) lf ∙ ap (λ (k : ℕ). p * k) (mul-div_right j (some_symbols rate hr)) in
      record {
        fit = subst (λ (k : ℕ). k ≤ length bits) n (fits rate hr m hm bits w fs (drop (s * j) ss ++ rest) whole ef);
        front = front_is rate hr m hm bits w fs (drop (s * j) ss ++ rest) whole ef ∙ ap (λ (k : ℕ). symbols_of (coder_at rate m) (take k bits)) n;
        back = subst (λ (k : ℕ). drop (s * j) ss ++ rest ≡ symbols_of (coder_at rate (memory_after m (take k bits))) (drop k bits)) n (back_is rate hr m hm bits w fs (drop (s * j) ss ++ rest) whole ef);
      }

-- ---- a lead of unknown symbols, and behind it symbols that were received clearly

module _ {R : Type 0} (cost : R → ℕ → ℕ) (rate : ℕ) (hr : rate < 5) (unknown : List R) (u : All (Unknown cost) unknown) (size : length unknown ≡ lead_symbols rate)
    (m : ℕ) (hm : m < 64) (bits : List ℕ) (w : Bits bits) (rs : List R) (ss unread : List ℕ) (g : AllClear cost rs ss)
    (e : ss ++ unread ≡ symbols_of (coder_at rate m) bits) where
  abbrev p' : ℕ
  p' = pattern_length rate

  abbrev s' : ℕ
  s' = symbols_per_pattern rate

  abbrev k : ℕ
  k = lead_patterns rate

  lead_size : length unknown ≡ s' * k
  unfolding lead_symbols
  lead_size = size

  -- the lead and j patterns behind it
  take_lead : (n j : ℕ) → n ≡ k + j → take (s' * n) (unknown ++ rs) ≡ unknown ++ take (s' * j) rs
  take_lead n j h =
      let q : s' * n ≡ length unknown + s' * j = ap (λ (x : ℕ). s' * x) h ∙ (mul-add s' k j ∙ ap (λ (x : ℕ). x + s' * j) (sym lead_size)) in
      ap (λ (x : ℕ). take x (unknown ++ rs)) q ∙ take-append-add unknown rs (s' * j)

  drop_lead : (n j : ℕ) → n ≡ k + j → drop (s' * n) (unknown ++ rs) ≡ drop (s' * j) rs
  drop_lead n j h =
      let q : s' * n ≡ length unknown + s' * j = ap (λ (x : ℕ). s' * x) h ∙ (mul-add s' k j ∙ ap (λ (x : ℕ). x + s' * j) (sym lead_size)) in
      ap (λ (x : ℕ). drop x (unknown ++ rs)) q ∙ drop-append-add unknown rs (s' * j)

  -- what is read of them
  record Led (j : ℕ) (best : List ℕ) : Type 0 where
    behind : drop (p' * k) best ≡ take (p' * j) bits
    memory : memory_after 0 (take (p' * k) best) ≡ m
    front_size : length (take (p' * k) best) ≡ p' * k

  led : (n j : ℕ) → n ≡ k + j → 6 ≤ j → s' * j ≤ length rs → {best : List ℕ} {total after : ℕ}
      → Decoded (run_cost (map cost (take (s' * n) (unknown ++ rs))) rate 0) (run_bits rate (s' * n)) 0 best total after → Led j best
  led n j h six enough {best} {total} {after} d =
      let c = cut rate hr m hm bits w ss unread e j (omega (arith, clear_length g)) in
      let lb : length (take (p' * j) bits) ≡ p' * j = length-take-le (p' * j) bits c.fit in
      let ll : length (unknown ++ take (s' * j) rs) ≡ s' * n =
      length-append unknown (take (s' * j) rs) ∙ (ap₂ (λ (x y : ℕ). x + y) lead_size (length-take-le (s' * j) rs enough) ∙ (sym (mul-add s' k j) ∙ ap (λ (x : ℕ). s' * x) (sym h))) in
      let d' : Decoded (run_cost (map cost (unknown ++ take (s' * j) rs)) rate 0) (run_bits rate (length (unknown ++ take (s' * j) rs))) 0 best total after =
      subst (λ (x : ℕ). Decoded (run_cost (map cost (unknown ++ take (s' * j) rs)) rate 0) (run_bits rate x) 0 best total after) (sym ll)
      (subst (λ (l : List R). Decoded (run_cost (map cost l) rate 0) (run_bits rate (s' * n)) 0 best total after) (take_lead n j h) d) in
      let o = free_start cost rate hr k (lead_numbers rate hr).six unknown u lead_size m hm (take (p' * j) bits) (bits_take (p' * j) w) (ap (λ (x : ℕ). x % p') lb ∙ mul-mod_right p' j)
      (take (s' * j) rs) (take (s' * j) ss) c.front (clear_length (clear_take (s' * j) g)) d' (clear_take (s' * j) g) (omega (arith, lb, mul-le-mul_left p' six)) in
      let far : length best ≡ p' * n = d.best.size ∙ ap (λ (x : ℕ). p' * x) (mul-div_right n (some_symbols rate hr)) in
      record {
        behind = o.0;
        memory = o.1;
        front_size = length-take-le (p' * k) best (omega (arith, far, ap (λ (x : ℕ). p' * x) h, mul-add p' k j));
      }

  -- the patterns of a longest run behind the lead, and those of them that are kept
  abbrev kept : ℕ
  kept = kept_patterns rate - k

  abbrev longest : ℕ
  longest = run_patterns rate - k

  -- a longest run: its kept bits are those of the lead and then those that were sent, and they leave the coder's memory
  record FirstRun (best : List ℕ) : Type 0 where
    front : List ℕ
    front_size : length front ≡ p' * k
    kept_bits_are : take (kept_bits rate) best ≡ front ++ take (p' * kept) bits
    memory : memory_after 0 (take (kept_bits rate) best) ≡ memory_after m (take (p' * kept) bits)

  full_is : full_symbols rate ≡ s' * run_patterns rate
  unfolding full_symbols
  full_is = refl

  first_run : full_symbols rate ≤ length (unknown ++ rs) → {best : List ℕ} {total after : ℕ}
      → Decoded (run_cost (map cost (take (full_symbols rate) (unknown ++ rs))) rate 0) (run_bits rate (full_symbols rate)) 0 best total after → FirstRun best
  first_run long {best} {total} {after} d =
      let n = lead_numbers rate hr in
      let h : run_patterns rate ≡ k + longest = omega (arith, n.enough, n.longer) in
      let hk : kept_patterns rate ≡ k + kept = omega (arith, n.enough) in
      let l = led (run_patterns rate) longest h (omega (arith, n.enough, n.longer))
      (omega (arith, length-append unknown rs, lead_size, full_is, long, ap (λ (x : ℕ). s' * x) h, mul-add s' k longest))
      (subst (λ (x : ℕ). Decoded (run_cost (map cost (take x (unknown ++ rs))) rate 0) (run_bits rate x) 0 best total after) full_is d) in
      let B : kept_bits rate ≡ p' * k + p' * kept = kept_bits_lem rate ∙ (ap (λ (x : ℕ). p' * x) hk ∙ mul-add p' k kept) in
      let t : take (p' * kept) (drop (p' * k) best) ≡ take (p' * kept) bits =
      ap (take (p' * kept)) l.behind ∙ take-take (p' * kept) (p' * longest) bits (mul-le-mul_left p' (fewer n.longer)) in
      let a : take (kept_bits rate) best ≡ take (p' * k) best ++ take (p' * kept) bits =
      ap (λ (x : ℕ). take x best) B ∙ (take-add (p' * k) (p' * kept) best ∙ ap (λ (x : List ℕ). take (p' * k) best ++ x) t) in
      record {
        front = take (p' * k) best;
        front_size = l.front_size;
        kept_bits_are = a;
        memory =
            ap (memory_after 0) a
            ∙ (memory_append 0 (take (p' * k) best) (take (p' * kept) bits) ∙ ap (λ (x : ℕ). memory_after x (take (p' * kept) bits)) l.memory);
      }
    where
      fewer : kept_patterns rate ≤ run_patterns rate → kept ≤ longest
      fewer h = omega arith

  -- what is behind the kept symbols is a stream from the coder's memory
  abbrev m' : ℕ
  m' = memory_after m (take (p' * kept) bits)

  record Behind : Type 0 where
    in_range_lem : m' < 64
    fit : p' * kept ≤ length bits
    others : drop (s' * kept) ss ++ unread ≡ symbols_of (coder_at rate m') (drop (p' * kept) bits)
    symbols : drop (kept_symbols rate) (unknown ++ rs) ≡ drop (s' * kept) rs
    enough : s' * kept ≤ length rs

  behind_kept : full_symbols rate ≤ length (unknown ++ rs) → Behind
  behind_kept long =
      let n = lead_numbers rate hr in
      let hk : kept_patterns rate ≡ k + kept = omega (arith, n.enough) in
      let l : s' * kept ≤ length rs =
      omega (arith, length-append unknown rs, lead_size, full_is, long, mul-le-mul_left s' n.longer, ap (λ (x : ℕ). s' * x) hk, mul-add s' k kept) in
      let c = cut rate hr m hm bits w ss unread e kept (omega (arith, l, clear_length g)) in
      record {
        in_range_lem = memory_in_range rate m hr hm (bits_take (p' * kept) w);
        fit = c.fit;
        others = c.back;
        symbols = ap (λ (x : ℕ). drop x (unknown ++ rs)) (kept_symbols_lem rate) ∙ drop_lead (kept_patterns rate) kept hk;
        enough = l;
      }

  -- what comes after a longest run at the front
  record Continued (best out : List ℕ) (last : ℕ) (left : List R) : Type 0 where
    first : FirstRun best
    behind : Behind
    onward : Decided cost rate m' (drop (s' * kept) rs) out last left

  continued : (all : List R) → all ≡ unknown ++ rs → (best : List ℕ) (total after : ℕ) → full_symbols rate ≤ length all
      → Decoded (run_cost (map cost (take (full_symbols rate) all)) rate 0) (run_bits rate (full_symbols rate)) 0 best total after → {out : List ℕ} {last : ℕ} {left : List R}
      → Decided cost rate (memory_after 0 (take (kept_bits rate) best)) (drop (kept_symbols rate) all) out last left → Continued best out last left
  continued all q best total after full d {out} {last} {left} r =
      let long : full_symbols rate ≤ length (unknown ++ rs) = subst (λ (l : List R). full_symbols rate ≤ length l) q full in
      let f = first_run long (subst (λ (l : List R). Decoded (run_cost (map cost (take (full_symbols rate) l)) rate 0) (run_bits rate (full_symbols rate)) 0 best total after) q d) in
      let b = behind_kept long in
      record {
        first = f;
        behind = b;
        onward =
            subst (λ (l : List R). Decided cost rate m' l out last left) (ap (drop (kept_symbols rate)) q ∙ b.symbols)
            (subst (λ (x : ℕ). Decided cost rate x (drop (kept_symbols rate) all) out last left) f.memory r);
      }

  lead_bits_are : bits_of_lead rate ≡ p' * k
  unfolding bits_of_lead
  lead_bits_are = refl

  -- behind the bits of the lead
  drop_front : (front back : List ℕ) → length front ≡ p' * k → drop (bits_of_lead rate) (front ++ back) ≡ back
  drop_front front back h = drop_at front back (bits_of_lead rate) (h ∙ sym lead_bits_are)

  -- What is decided, however many more are to come: behind the bits of the lead those that were sent.
  pub free_given_back : {out : List ℕ} {last : ℕ} {left : List R} → Decided cost rate 0 (unknown ++ rs) out last left
      → drop (bits_of_lead rate) out ≡ take (length out - bits_of_lead rate) bits
  free_given_back d = by (unknown ++ rs) refl d
    where
      by : (all : List R) → all ≡ unknown ++ rs → {out : List ℕ} {last : ℕ} {left : List R} → Decided cost rate 0 all out last left
          → drop (bits_of_lead rate) out ≡ take (length out - bits_of_lead rate) bits
      by all q (few l) = let z : 0 - bits_of_lead rate ≡ 0 = omega arith in drop-nil (bits_of_lead rate) ∙ ap (λ (x : ℕ). take x bits) (sym z)
      by all q (run {last = last} {left = left} {out = out} best total after full d r) =
          let c = continued all q best total after full d r in
          let f = c.first in
          let b = c.behind in
          let o = stream_given_back cost rate hr m' b.in_range_lem (drop (p' * kept) bits) (bits_drop (p' * kept) w) unread (clear_drop (s' * kept) g) b.others c.onward in
          let j : take (kept_bits rate) best ++ out ≡ f.front ++ take (p' * kept + length out) bits =
          ap₂ (λ (x y : List ℕ). x ++ y) f.kept_bits_are o.given
          ∙ (append_assoc f.front (take (p' * kept) bits) (take (length out) (drop (p' * kept) bits))
          ∙ ap (λ (x : List ℕ). f.front ++ x) (sym (take-add (p' * kept) (length out) bits))) in
          let n : length (take (kept_bits rate) best ++ out) - bits_of_lead rate ≡ p' * kept + length out =
          omega (
            arith,
            length-append (take (kept_bits rate) best) out,
            ap length f.kept_bits_are,
            length-append f.front (take (p' * kept) bits),
            f.front_size,
            length-take-le (p' * kept) bits b.fit,
            lead_bits_are,
          ) in
          ap (drop (bits_of_lead rate)) j ∙ (drop_front f.front (take (p' * kept + length out) bits) f.front_size ∙ ap (λ (x : ℕ). take x bits) (sym n))

  -- With the end: behind the bits of the lead all the bits that were sent, up to the last whole pattern. Six patterns have to come.
  pub free_whole : 6 * s' ≤ length rs → {out : List ℕ} {rest : ℕ} → ReadToEnd cost rate (unknown ++ rs) out rest
      → WholeStream rate bits (length rs) (drop (bits_of_lead rate) out) rest
  free_whole six {rest = rest} t =
      subst (λ (l : List ℕ). WholeStream rate bits (length rs) (drop (bits_of_lead rate) l) rest) (sym t.bits_are) (by (unknown ++ rs) refl t.runs t.end)
    where
      by : (all : List R) → all ≡ unknown ++ rs → {out : List ℕ} {last : ℕ} {left : List R} → Decided cost rate 0 all out last left
          → {output exit : List ℕ} {count rest : ℕ} → EndDecided cost rate last left output count rest exit
          → WholeStream rate bits (length rs) (drop (bits_of_lead rate) (out ++ take count exit)) rest
      by all q (few l) {exit = exit} {count} {rest} end =
          let n : ℕ = end.whole in
          let j : ℕ = length rs / s' in
          let split : s' * n + rest ≡ s' * k + length rs = omega (arith, end.split, ap length q, length-append unknown rs, lead_size) in
          let nj : n ≡ k + j =
          sym (mul-add-div (some_symbols rate hr) n rest ∙ no_more n rest s' end.few) ∙ (ap (λ (x : ℕ). x / s') split ∙ mul-add-div (some_symbols rate hr) k (length rs)) in
          let many : 6 ≤ j = le_div s' 6 (length rs) (some_symbols rate hr) six in
          let enough : s' * j ≤ length rs = omega (arith, div-add-mod (length rs) s') in
          let o = end.bits in
          let ln : length (take (s' * n) all) ≡ s' * n = length-take-le (s' * n) all (omega (arith, end.split)) in
          let d = led n j nj many enough
          (subst (λ (l : List R). Decoded (run_cost (map cost (take (s' * n) l)) rate 0) (run_bits rate (s' * n)) 0 o.bits end.total end.after) q
          (subst (λ (x : ℕ). Decoded (run_cost (map cost (take (s' * n) all)) rate 0) (run_bits rate x) 0 o.bits end.total end.after) ln o.decoded)) in
          let c = cut rate hr m hm bits w ss unread e j (omega (arith, enough, clear_length g)) in
          let t : take count exit ≡ o.bits = ap₂ take o.counted o.written ∙ take_at o.bits _ (run_bits rate (length (take (s' * n) all))) o.decoded.best.size in
          record {
            given = ap (drop (bits_of_lead rate)) t ∙ (ap (λ (x : ℕ). drop x o.bits) lead_bits_are ∙ d.behind);
            within = c.fit;
            behind =
                sym (mul-add-mod_self_left s' n rest ∙ mod-eq_of_lt end.few)
                ∙ (ap (λ (x : ℕ). x % s') split ∙ mul-add-mod_self_left s' k (length rs));
          }
      by all q (run {last = last} {left = left} {out = out} best total after full d r) {exit = exit} {count} {rest} end =
          let c = continued all q best total after full d r in
          let f = c.first in
          let b = c.behind in
          let o = decided_whole cost rate hr m' b.in_range_lem (drop (p' * kept) bits) (bits_drop (p' * kept) w) (drop (s' * kept) rs) left (drop (s' * kept) ss) unread (clear_drop (s' * kept) g) b.others c.onward end in
          let lr : length rs ≡ s' * kept + length (drop (s' * kept) rs) = omega (arith, b.enough, length-drop (s' * kept) rs) in
          let far : run_bits rate (length rs) ≡ p' * kept + run_bits rate (length (drop (s' * kept) rs)) =
          ap (λ (x : ℕ). p' * (x / s')) lr
          ∙ (ap (λ (x : ℕ). p' * x) (mul-add-div (some_symbols rate hr) kept (length (drop (s' * kept) rs))) ∙ mul-add p' kept (length (drop (s' * kept) rs) / s')) in
          let j : take (kept_bits rate) best ++ out ++ take count exit ≡ f.front ++ take (run_bits rate (length rs)) bits =
          append_assoc (take (kept_bits rate) best) out (take count exit)
          ∙ (ap₂ (λ (x y : List ℕ). x ++ y) f.kept_bits_are o.given
          ∙ (append_assoc f.front (take (p' * kept) bits) (take (run_bits rate (length (drop (s' * kept) rs))) (drop (p' * kept) bits))
          ∙ ap (λ (x : List ℕ). f.front ++ x) (sym (take-add (p' * kept) (run_bits rate (length (drop (s' * kept) rs))) bits) ∙ ap (λ (x : ℕ). take x bits) (sym far)))) in
          record {
            given = ap (drop (bits_of_lead rate)) j ∙ drop_front f.front (take (run_bits rate (length rs)) bits) f.front_size;
            within = omega (arith, far, o.within, length-drop (p' * kept) bits, b.fit);
            behind = o.behind ∙ sym (ap (λ (x : ℕ). x % s') lr ∙ mul-add-mod_self_left s' kept (length (drop (s' * kept) rs)));
          }
