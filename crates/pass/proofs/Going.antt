-- The loop of a pass: what a turn leaves, and what the last one leaves.
-- Assumes nothing.
use mathlib.Core.Path.{◌≡◌, refl, sym, ap, ap₂, subst, ◌∙◌}
use mathlib.Core.Bool.{Bool, true, false, true≢false}
use mathlib.Core.List.{List, [], ◌++◌, flatten}
use mathlib.Core.Logic.{◌⊎◌, inl, inr}
use Prim.Native.Nat.{ℕ, ◌+◌, ◌-◌, ◌*◌, ◌/◌, ◌%◌, ◌≤◌, ◌<◌, min}
use native.Mathlib.Decide.{dec_lt}
use native.Mathlib.Omega.{arith}
use borrow.Author.Tests.{eq-eqb, lt-ltb, le-ltb}
use lib.IntN.{ℤ, pos}
use lib.Signed.{lt_z, le_z}
use lib.ListN.{length, take, drop, length-append}
use lib.Seq.{length-take-le}
use Rattle.common.specs.Choice.{pick}
use Rattle.common.specs.Lists.{Entries, largest, padded}
use Rattle.common.proofs.Largest.{largest_most}
use Rattle.program_io.specs.Checksum.{no_bytes, traced}
use Rattle.program_io.specs.Files.{input_trace, input_ended, input_failed, input_over, output_file, output_trace, output_failed, Reads}
use Rattle.program_io.specs.declared.input.Input.{Input}
use Rattle.program_io.specs.declared.input.Filled.{Filled}
use Rattle.program_io.specs.declared.output.Output.{Output}
use Rattle.program_io.proofs.Traces.{traced_on}
use Rattle.recording.specs.Recording.{marks_for}
use Rattle.receiver_stream.specs.Feed.{fresh_receiver_stream, capacity_of, receiver_feed_number, FeedsReceiver, refused, fed}
use Rattle.receiver_stream.specs.History.{Reception}
use Rattle.receiver_stream.specs.declared.ReceiverStream.{ReceiverStream}
use Rattle.receiver_stream.proofs.Laws.{reception_none, reception_held, reception_taken, reception_capacity}
use Rattle.receiver_stream.proofs.Histories.{reception_number, reception_feeds}
use Rattle.pass.specs.Pass.{first_above, MarksRead, HandsOn, written, kept, ending_of, PassCame, BadMark, Ends, whole, input_failed_lem}
use Rattle.pass.specs.declared.Ending.{Ending}
use Rattle.pass.proofs.Marks.{above_after, none_above, padded_on, padded_ended, padded_entries, padded_length, padded_full}

-- ---- before the first read

pub came_none : (wanted : Bool) {input marks : Input} {output : Output} {stream : ReceiverStream} → input_trace input ≡ no_bytes → input_trace marks ≡ no_bytes
    → output_trace output ≡ no_bytes → output_failed output ≡ false → input_failed marks ≡ false → stream ≡ fresh_receiver_stream → PassCame wanted marks input marks output stream
came_none wanted {stream = stream} i m o u v s = record {
  bytes = [];
  came = [];
  packets = [];
  reception = subst (Reception [] [] []) (sym s) reception_none;
  read = i;
  marks_read = m;
  marks_fit_lem = omega arith;
  marks_all = inl refl;
  marks_unfailed = v;
  unmarked = λ h. (refl, refl);
  unfailed = u;
  written = o ∙ ap (traced no_bytes) (sym (nothing wanted));
}
  where
    nothing : (w : Bool) → ◌≡◌ {A = List ℕ} (pick w [] []) []
    nothing true = refl
    nothing false = refl

less : {before after : ℕ} (a b n : ℕ) → before ≡ 204 * 4294967295 - a → after ≡ 204 * 4294967295 - b → b ≡ a + n → 0 < n → b ≤ 204 * 4294967295 → after < before
less a b n p q e s l = omega arith

ended_over : (i : Input) → input_ended i ≡ true → (input_over i ≡ true) × (input_failed i ≡ false)
ended_over i e = by (input_failed i) refl
  where
    by : (b : Bool) → input_failed i ≡ b → (input_over i ≡ true) × (input_failed i ≡ false)
    by true f = absurd (true≢false (sym e ∙ ap (λ (t : Bool). pick t false (input_over i)) f))
    by false f = (sym (ap (λ (t : Bool). pick t false (input_over i)) f) ∙ e, f)

module _ {wanted : Bool} {start input marks : Input} {output : Output} {stream : ReceiverStream} (g : PassCame wanted start input marks output stream) where
  pub came_taken : (stream.held < 204) × (stream.receiver.counts.taken ≤ 4294967295)
  came_taken = (omega (arith, reception_held g.reception), omega (arith, reception_taken g.reception, g.reception.few))

  -- where the marks were over from the start, they still are
  still_over : input_over start ≡ true → input_over marks ≡ true
  still_over e = ap (λ (x : ℤ). le_z x (pos 0)) (g.unmarked e).1 ∙ e

  -- ---- nothing more came

  module _ {most : ℕ} {buffer : List ℕ} {f : Filled} (c : most ≡ min (capacity_of stream) 65536) (h : Reads input most buffer f) where
    pub came_over : f.length ≡ 0 → {ending : Ending} → ending ≡ ending_of (input_failed f.input)
        → Ends wanted start (record { input = f.input; marks = marks; output = output; stream = stream; ending = ending })
    came_over z {ending} e = by (input_failed f.input) refl
      where
        same : PassCame wanted start f.input marks output stream
        same = record {
          bytes = g.bytes;
          came = g.came;
          packets = g.packets;
          reception = g.reception;
          read =
              h.trace ∙ ap (λ (n : ℕ). traced (input_trace input) (take n buffer)) z ∙ g.read;
          marks_read = g.marks_read;
          marks_fit_lem = g.marks_fit_lem;
          marks_all = g.marks_all;
          marks_unfailed = g.marks_unfailed;
          unmarked = g.unmarked;
          unfailed = g.unfailed;
          written = g.written;
        }

        ended : input_failed f.input ≡ false → (input_ended f.input ≡ true) ⊎ (capacity_of stream ≡ 0)
        ended u = at (dec_lt 0 (capacity_of stream))
          where
            at : Dec (0 < capacity_of stream) → (input_ended f.input ≡ true) ⊎ (capacity_of stream ≡ 0)
            at (yes l) = inl (ap₂ (λ (a b : Bool). pick a false b) u (h.none z (omega (arith, l, c))))
            at (no l) = inr (omega (arith, l))

        by : (b : Bool) → input_failed f.input ≡ b → Ends wanted start (record { input = f.input; marks = marks; output = output; stream = stream; ending = ending })
        by true u = input_failed_lem (e ∙ ap ending_of u) u
        by false u = whole (e ∙ ap ending_of u) same (ended u)

    -- ---- a piece came, with its marks

    module _ {own : List ℕ} {m : Filled} (k : MarksRead marks f.length own m) (length-buffer : length buffer ≡ 65536) (length-own : length own ≡ 65536) where
      abbrev piece : List ℕ
      piece = take f.length buffer

      abbrev new : List ℕ
      new = take m.length own

      n_within : f.length ≤ 65536
      n_within = omega (arith, h.within, c)

      piece_length : length piece ≡ f.length
      piece_length = length-take-le f.length buffer (omega (arith, n_within))

      new_length : length new ≡ m.length
      new_length = length-take-le m.length own (omega (arith, n_within, k.within))

      marks_now : input_trace m.input ≡ traced no_bytes (g.came ++ new)
      marks_now = traced_on g.came new g.marks_read k.trace

      -- marks that had ended at the start neither fail nor come
      pub ended_read : input_ended start ≡ true → (input_failed m.input ≡ false) × (m.length ≡ 0)
      ended_read e =
          let o = ended_over start e in
          let z = k.over (still_over o.0) in
          (ap (λ (x : ℤ). lt_z x (pos 0)) (z.1 ∙ (g.unmarked o.0).1) ∙ o.1, z.0)

      -- a mark above 1
      pub came_bad : (place block : ℕ) → place ≡ first_above new → place < m.length → block ≡ stream.receiver.counts.taken + (stream.held + place) / 204
          → BadMark m.input block
      came_bad place block p l b = record {
        came = g.came ++ new;
        marks_read = marks_now;
        above = omega (arith, first, l, p, length-append g.came new, new_length);
        block_is = omega (arith, b, first, p, all, reception_held g.reception, reception_taken g.reception);
      }
        where
          all : length g.came ≡ length g.bytes
          all = by g.marks_all
            where
              by : (length g.came ≡ length g.bytes) ⊎ (input_over marks ≡ true) → length g.came ≡ length g.bytes
              by (inl e) = e
              by (inr e) = absurd (omega (arith, l, (k.over e).0))

          small : Entries (λ x. x < 2) g.came
          small =
              subst (Entries (λ x. x < 2)) (ap (λ (n : ℕ). padded n g.came) (sym all) ∙ padded_full g.came) g.reception.marked

          first : first_above (g.came ++ new) ≡ length g.came + first_above new
          first = above_after g.came new small

      module _ (some : 0 < f.length) (good : m.length ≤ first_above new) {lent exit : List ℕ} {number count : ℕ} {next : ReceiverStream} (room : length lent ≡ 65536)
          (t : FeedsReceiver stream piece (take f.length own) lent number count next exit) where
        own_is : take f.length own ≡ padded f.length new
        own_is = k.marks

        own_small : Entries (λ x. x < 2) (take f.length own)
        own_small = subst (Entries (λ x. x < 2)) (sym own_is) (padded_entries f.length new (none_above new (omega (arith, good, new_length))))

        own_length : length (take f.length own) ≡ f.length
        own_length = ap length own_is ∙ padded_length f.length new (omega (arith, new_length, k.within))

        marks_good : marks_for piece (take f.length own) ≡ true
        marks_good =
            let a = largest_most (take f.length own) 1 (λ i l. let z = own_small i in omega (arith, z)) in
            let b : largest (take f.length own) < 2 = omega (arith, a) in
            simp (eq-eqb _ _ (own_length ∙ sym piece_length), lt-ltb _ _ b)

        due : receiver_feed_number stream piece (take f.length own) lent ≡ 0
        due =
            let a : 188 * ((length g.bytes % 204 + length piece) / 204) ≤ length lent = omega (arith, room, piece_length, n_within) in
            let b : length piece ≤ 204 * 4294967295 - length g.bytes = omega (arith, piece_length, h.within, c, reception_capacity g.reception) in
            reception_number g.reception piece (take f.length own) lent ∙ simp (marks_good, le-ltb _ _ a, le-ltb _ _ b)

        -- so it is not refused
        pub taken : number ≡ 0
        taken = by t
          where
            by : FeedsReceiver stream piece (take f.length own) lent number count next exit → number ≡ 0
            by (refused e p w s x) = e ∙ due
            by (fed e p w) = p

        all_marks : padded (length g.bytes) g.came ++ take f.length own ≡ padded (length (g.bytes ++ piece)) (g.came ++ new)
        all_marks =
            ap (λ (l : List ℕ). padded (length g.bytes) g.came ++ l) own_is ∙ by g.marks_all
            ∙ ap (λ (n : ℕ). padded n (g.came ++ new)) (sym (length-append g.bytes piece ∙ ap (λ (n : ℕ). length g.bytes + n) piece_length))
          where
            by : (length g.came ≡ length g.bytes) ⊎ (input_over marks ≡ true)
                → padded (length g.bytes) g.came ++ padded f.length new ≡ padded (length g.bytes + f.length) (g.came ++ new)
            by (inl e) = padded_on (length g.bytes) f.length g.came new e (omega (arith, new_length, k.within))
            by (inr e) =
                let z : new ≡ [] = ap (λ (n : ℕ). take n own) (k.over e).0 in
                ap (λ (l : List ℕ). padded (length g.bytes) g.came ++ padded f.length l) z
                ∙ padded_ended (length g.bytes) f.length g.came g.marks_fit_lem
                ∙ ap (λ (l : List ℕ). padded (length g.bytes + f.length) (g.came ++ l)) (sym z)

        received : Reception (g.bytes ++ piece) (padded (length (g.bytes ++ piece)) (g.came ++ new)) (g.packets ++ take count exit) next
        received =
            let r = reception_feeds g.reception piece (take f.length own) lent number count next exit t in
            subst (λ (l : List ℕ). Reception (g.bytes ++ piece) l (g.packets ++ take count exit) next) all_marks
            (subst (λ (b : Bool). Reception (g.bytes ++ pick b piece []) (padded (length g.bytes) g.came ++ pick b (take f.length own) []) (g.packets ++ take count exit) next)
            (eq-eqb number 0 taken) r)

        still_all : (length (g.came ++ new) ≡ length (g.bytes ++ piece)) ⊎ (input_over m.input ≡ true)
        still_all = by (dec_lt m.length f.length) g.marks_all
          where
            by : Dec (m.length < f.length) → (length g.came ≡ length g.bytes) ⊎ (input_over marks ≡ true)
                → (length (g.came ++ new) ≡ length (g.bytes ++ piece)) ⊎ (input_over m.input ≡ true)
            by (yes l) w = inr (k.short l)
            by (no l) (inl e) = inl (omega (arith, l, k.within, length-append g.came new, length-append g.bytes piece, new_length, piece_length))
            by (no l) (inr e) = absurd (omega (arith, l, some, (k.over e).0))

        -- fewer bytes more can come
        pub came_less : capacity_of next < capacity_of stream
        came_less =
            less (length g.bytes) (length (g.bytes ++ piece)) f.length (reception_capacity g.reception) (reception_capacity received)
            (length-append g.bytes piece ∙ ap (λ (n : ℕ). length g.bytes + n) piece_length) some received.few

        pub came_more : {o : Output} → HandsOn output wanted (take count exit) o → output_failed o ≡ false → input_failed m.input ≡ false → PassCame wanted start f.input m.input o next
        came_more {o} w u v = record {
          bytes = g.bytes ++ piece;
          came = g.came ++ new;
          packets = g.packets ++ take count exit;
          reception = received;
          read = traced_on g.bytes piece g.read h.trace;
          marks_read = marks_now;
          marks_fit_lem = omega (arith, length-append g.came new, length-append g.bytes piece, new_length, piece_length, k.within, g.marks_fit_lem);
          marks_all = still_all;
          marks_unfailed = v;
          unmarked = λ e.
              let z = k.over (still_over e) in
              let n : new ≡ [] = ap (λ (j : ℕ). take j own) z.0 in
              (ap₂ (λ (x y : List ℕ). x ++ y) (g.unmarked e).0 n, z.1 ∙ (g.unmarked e).1);
          unfailed = u;
          written = by w;
        }
          where
            by : HandsOn output wanted (take count exit) o → output_trace o ≡ traced no_bytes (pick wanted (g.packets ++ take count exit) [])
            by (written e p) =
                traced_on g.packets (take count exit) (g.written ∙ ap (λ (b : Bool). traced no_bytes (pick b g.packets [])) e) (p.whole u)
                ∙ ap (λ (b : Bool). traced no_bytes (pick b (g.packets ++ take count exit) [])) (sym e)
            by (kept e p) =
                ap output_trace p ∙ g.written
                ∙ ap (λ (b : Bool). traced no_bytes (pick b g.packets [])) e
                ∙ ap (λ (b : Bool). traced no_bytes (pick b (g.packets ++ take count exit) [])) (sym e)

-- the output stays what it is
pub hands_file : {o r : Output} {wanted : Bool} {packets : List ℕ} → HandsOn o wanted packets r → output_file r ≡ output_file o
hands_file (written e w) = w.file
hands_file (kept e w) = ap output_file w

-- nothing is done where nothing is wanted
pub hands_nothing : {o r : Output} {wanted : Bool} {packets : List ℕ} → HandsOn o wanted packets r → wanted ≡ false → r ≡ o
hands_nothing (written e w) n = absurd (true≢false (sym e ∙ n))
hands_nothing (kept e w) n = w

-- no more is given than there is room for
pub feeds_within : {i next : ReceiverStream} {piece own output exit : List ℕ} {number count : ℕ} → FeedsReceiver i piece own output number count next exit → count ≤ length exit
feeds_within (refused e p c s x) = omega (arith, c)
feeds_within {output = output} {exit = exit} {count = count} (fed e p t) =
    let k = t.takes in
    omega (arith, ap length k.written, length-append (flatten k.packets) (drop count output), k.counted)

-- packets that were to be written
pub hands_wanted : {o r : Output} {wanted : Bool} {packets : List ℕ} → HandsOn o wanted packets r → output_failed o ≡ false → output_failed r ≡ true → wanted ≡ true
hands_wanted (written e w) u f = e
hands_wanted (kept e w) u f = absurd (true≢false (sym f ∙ ap output_failed w ∙ u))
