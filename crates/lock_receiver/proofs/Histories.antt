-- The theorem: after any history of calls from a fresh value, the lines so far and those of an end are the list of losses of the blocks, and the packets given
-- are those of the blocks that have no line.
-- Assumes nothing.
use mathlib.Core.Path.{◌≡◌, refl, sym, ap, ap₂, subst, subst₂, ◌∙◌}
use mathlib.Core.Bool.{Bool, true, false}
use mathlib.Core.List.{List, [], ◌∷◌, ◌++◌, flatten, map-append, append_assoc, append-nil}
use Prim.Native.Nat.{ℕ, suc, ◌+◌, ◌-◌, ◌*◌, ◌≤◌, ◌<◌}
use Prim.{tt}
use native.Mathlib.Omega.{arith}
use borrow.Author.Tests.{eqb-true, ltb-true}
use lib.Dec.{eqb, ltb}
use lib.ListN.{length, take, drop, replicate, length-append, length-replicate, replicate-append-replicate}
use lib.Seq.{take_at, drop_at}
use Rattle.common.specs.Choice.{pick}
use Rattle.common.specs.Lists.{All, Length, chunks, chunks_of}
use Rattle.common.proofs.Lists.{All-append}
use Rattle.common.proofs.Chunks.{chunks_joined}
use Rattle.interleaver.proofs.BlockLists.{length-flatten}
use Rattle.reed_solomon.specs.Marks.{DecodesMarked}
use Rattle.receiver.specs.Receive.{fresh_receiver, receiver_in_range, delayed_block, delayed_marks}
use Rattle.receiver.specs.Run.{Call, DecodedCalls, OutputFits, Plain, lent_blocks, after_call, after_calls, output_of, answer_of}
use Rattle.receiver.specs.Begun.{lefts, delivered_packets}
use Rattle.receiver.specs.declared.Receiver.{Receiver}
use Rattle.receiver.proofs.Outcomes.{Unrefused, plain_marked}
use Rattle.receiver.proofs.Reached.{sound_fresh, reached_in_range}
use Rattle.receiver.proofs.Reception.{blocks_count}
use Rattle.losses.specs.Watch.{is_sure, start_due_at, started_at, waiting_lines, call_lines, certainty_in_range, certainty_after, lines_of, certainty_of}
use Rattle.losses.specs.Feed.{lent_marks}
use Rattle.losses.specs.History.{blocks_of}
use Rattle.losses.specs.declared.Certainty.{Certainty}
use Rattle.losses.specs.declared.Certainty.TheVariants.{Unsure}
use Rattle.losses.proofs.Blocks.{after_both, decodes_both, lines_both, certainty_both}
use Rattle.losses.proofs.Watching.{watched_calls}
use Rattle.losses.proofs.Histories.{fresh_lines, taken_all}
use Rattle.lock_receiver.specs.Take.{waiting_packets, fresh_lock, lock_in_range, call_given, call_held, TakesOne, refused, taken}
use Rattle.lock_receiver.specs.History.{LockTakes, fresh, refusing, taking, unlisted_from, doubtful_from, Merged, LockCame}
use Rattle.lock_receiver.specs.declared.LockReceiver.{LockReceiver}
use Rattle.lock_receiver.specs.declared.LockStep.{LockStep}
use Rattle.answer.specs.Number.{given_or}
use Rattle.lock_receiver.proofs.Meaning.{all_merged}
use Rattle.lock_receiver.proofs.Calls.{given_of, told_of, held_of, given_both, held_both, fresh_given, fresh_doubtful, fresh_packets}

-- ---- packets in an output

chunks_front : (ps : List (List ℕ)) (rest : List ℕ) → All (Length 188) ps → chunks 188 (length ps) (flatten ps ++ rest) ≡ ps
unfolding chunks flatten
chunks_front [] rest g = refl
chunks_front (p ∷ ps) rest g =
    let e : (p ++ flatten ps) ++ rest ≡ p ++ (flatten ps ++ rest) = append_assoc p (flatten ps) rest in
    ap₂ (λ (x : List ℕ) (y : List ℕ). x ∷ chunks 188 (length ps) y) (ap (take 188) e ∙ take_at p (flatten ps ++ rest) 188 g.0) (ap (drop 188) e ∙ drop_at p (flatten ps ++ rest) 188 g.0)
    ∙ ap (λ (x : List (List ℕ)). p ∷ x) (chunks_front ps rest g.1)

-- packets of 188 bytes stay such
given_sized : (b start due sure : Bool) (held : List (List ℕ)) (p : List ℕ) → All (Length 188) held → length p ≡ 188
    → All (Length 188) (pick b (pick start (pick due held [] ++ p ∷ []) (pick sure (p ∷ []) [])) [])
given_sized true true true sure held p g e = All-append (Length 188) held (p ∷ []) g (e, tt)
given_sized true true false sure held p g e = (e, tt)
given_sized true false due true held p g e = (e, tt)
given_sized true false due false held p g e = tt
given_sized false start due sure held p g e = tt

held_sized : (b start sure : Bool) (held : List (List ℕ)) (p : List ℕ) → All (Length 188) held → length p ≡ 188 → All (Length 188) (pick b (pick start [] (pick sure [] (held ++ p ∷ []))) [])
held_sized true true sure held p g e = tt
held_sized true false true held p g e = tt
held_sized true false false held p g e = All-append (Length 188) held (p ∷ []) g (e, tt)
held_sized false start sure held p g e = tt

-- ---- the calls of a history

record Run (blocks given : List (List ℕ)) (lines : List ℕ) (v : LockReceiver) : Type 0 where
  pub calls : List Call
  pub lent : lent_blocks calls ≡ blocks
  pub sizes : All (Length 204) blocks
  pub plain : All Plain calls
  pub decodes : DecodedCalls fresh_receiver calls
  pub output_fits : All OutputFits calls
  pub count : length calls ≤ 4294967295
  pub state : v.receiver ≡ after_calls fresh_receiver calls
  pub certainty : v.certainty ≡ certainty_of fresh_receiver (Unsure 0) calls
  pub waits : waiting_packets v ≡ held_of fresh_receiver (Unsure 0) [] calls
  pub sized : All (Length 188) (waiting_packets v)
  pub gives : given ≡ given_of fresh_receiver (Unsure 0) [] calls
  pub tells : lines ≡ lines_of fresh_receiver (Unsure 0) calls

run_fresh : Run [] [] [] fresh_lock
unfolding fresh_lock fresh_receiver chunks
run_fresh = record {
  calls = [];
  lent = refl;
  sizes = tt;
  plain = tt;
  decodes = tt;
  output_fits = tt;
  count = omega arith;
  state = refl;
  certainty = refl;
  waits = refl;
  sized = tt;
  gives = refl;
  tells = refl;
}

module _ {blocks given : List (List ℕ)} {lines : List ℕ} {v : LockReceiver} (n : Run blocks given lines v) where
  run_unrefused : Unrefused fresh_receiver n.calls
  unfolding fresh_receiver
  run_unrefused = record {
    sound = sound_fresh;
    most = let m = n.count in omega arith;
    sizes = subst (All (Length 204)) (sym n.lent) n.sizes;
    marked = plain_marked n.calls n.plain;
    outputs = n.output_fits;
    decodes = n.decodes;
  }

  run_taken : v.receiver.counts.taken ≡ length n.calls
  unfolding fresh_receiver
  run_taken = ap (λ (s : Receiver). s.counts.taken) n.state ∙ omega (arith, taken_all n.calls fresh_receiver run_unrefused)

  -- a block more
  module _ {block output room exit roomExit : List ℕ} {r : LockStep} (size : length block ≡ 204) (more : v.receiver.counts.taken < 4294967295) (t : TakesOne v block output room r exit roomExit) where
    abbrev c : Call
    c = t.call

    abbrev s : Receiver
    s = v.receiver

    abbrev k : Certainty
    k = v.certainty

    abbrev held : List (List ℕ)
    held = waiting_packets v

    packets_are : chunks 188 r.given exit ≡ call_given s k held c
    packets_are =
        ap₂ (λ (i : ℕ) (l : List ℕ). chunks 188 i l) t.gives.counted t.gives.written
        ∙ chunks_front (call_given s k held c) (drop (188 * r.given) output)
        (given_sized (eqb (answer_of s c) 0) (started_at (after_call s c).sync.place) (start_due_at s.sync.place) (is_sure k) held (take 188 (output_of s c)) n.sized t.packet_size)

    lines_are : take r.told roomExit ≡ call_lines s k c
    lines_are = ap (take r.told) t.tells.written ∙ take_at (call_lines s k c) (drop r.told room) r.told (sym t.tells.counted)

    abbrev S : Receiver
    S = after_calls fresh_receiver n.calls

    abbrev K : Certainty
    K = certainty_of fresh_receiver (Unsure 0) n.calls

    abbrev H : List (List ℕ)
    H = held_of fresh_receiver (Unsure 0) [] n.calls

    run_more : Run (blocks ++ block ∷ []) (given ++ chunks 188 r.given exit) (lines ++ take r.told roomExit) r.lock
    run_more = record {
      calls = n.calls ++ c ∷ [];
      lent = map-append (λ (x : Call). x.block) n.calls (c ∷ []) ∙ ap₂ (λ (x : List (List ℕ)) (y : List ℕ). x ++ y ∷ []) n.lent t.lent;
      sizes = All-append (Length 204) blocks (block ∷ []) n.sizes (size, tt);
      plain = All-append Plain n.calls (c ∷ []) n.plain (t.plain, tt);
      decodes =
          decodes_both fresh_receiver n.calls (c ∷ []) n.decodes
          (subst (λ (x : Receiver). DecodesMarked (delayed_marks x c.marks) (delayed_block x c.block) c.left c.decoded) n.state t.decodes, tt);
      output_fits = All-append OutputFits n.calls (c ∷ []) n.output_fits (t.output_fits, tt);
      count = omega (arith, length-append n.calls (c ∷ []), run_taken, more);
      state = t.state ∙ ap (λ (x : Receiver). after_call x c) n.state ∙ sym (after_both fresh_receiver n.calls (c ∷ []));
      certainty =
          t.certainty ∙ ap₂ (λ (x : Receiver) (y : Certainty). certainty_after x y c) n.state n.certainty
          ∙ sym (certainty_both fresh_receiver (Unsure 0) n.calls (c ∷ []));
      waits =
          t.waits ∙ ap₂ (λ (x : Receiver) (y : Certainty). call_held x y held c) n.state n.certainty ∙ ap (λ (w : List (List ℕ)). call_held S K w c) n.waits
          ∙ sym (held_both fresh_receiver (Unsure 0) [] n.calls (c ∷ []));
      sized =
          subst (All (Length 188)) (sym t.waits)
          (held_sized (eqb (answer_of s c) 0) (started_at (after_call s c).sync.place) (is_sure k) held (take 188 (output_of s c)) n.sized t.packet_size);
      gives =
          ap₂ (λ (x y : List (List ℕ)). x ++ y) n.gives (packets_are ∙ ap₂ (λ (x : Receiver) (y : Certainty). call_given x y held c) n.state n.certainty ∙ ap (λ (w : List (List ℕ)). call_given S K w c) n.waits ∙ sym (append-nil (call_given S K H c)))
          ∙ sym (given_both fresh_receiver (Unsure 0) [] n.calls (c ∷ []));
      tells =
          ap₂ (λ (x y : List ℕ). x ++ y) n.tells (lines_are ∙ ap₂ (λ (x : Receiver) (y : Certainty). call_lines x y c) n.state n.certainty ∙ sym (append-nil (call_lines S K c)))
          ∙ sym (lines_both fresh_receiver (Unsure 0) n.calls (c ∷ []));
    }

-- no test refused
none_refused : (a b c d e : Bool) → ◌≡◌ {A = ℕ} (pick a (pick b (pick c 4 (pick d 4 (pick e 0 7))) 3) 5) 0 → (b ≡ true) × (e ≡ true)
none_refused true true true d e z = absurd (omega arith)
none_refused true true false true e z = absurd (omega arith)
none_refused true true false false true z = (refl, refl)
none_refused true true false false false z = absurd (omega arith)
none_refused true false c d e z = absurd (omega arith)
none_refused false b c d e z = absurd (omega arith)

every_run : {blocks given : List (List ℕ)} {lines : List ℕ} {v : LockReceiver} → LockTakes blocks given lines v → Run blocks given lines v
every_run fresh = run_fresh
every_run (refusing {blocks} {given} {lines} block output room exit roomExit r h p (refused answer e q s x y)) = subst (Run blocks given lines) (sym (ap (given_or _ (λ (z : LockStep). z.lock)) s)) (every_run h)
every_run (refusing block output room exit roomExit r h p (taken step e q t)) = absurd (omega arith)
every_run (taking block output room exit roomExit r h z (refused answer e q s x y)) = absurd (omega arith)
every_run (taking {v = v} block output room exit roomExit r h z (taken step e q t)) =
    let f = none_refused (lock_in_range v) (eqb (length block) 204) (ltb (length output) 1504) (ltb (length room) 8) (ltb v.receiver.counts.taken 4294967295) z in
    run_more (every_run h) (eqb-true _ _ f.0) (ltb-true _ _ f.1) (subst (λ (s : LockStep). TakesOne v block output room s exit roomExit) (sym (ap (given_or r (λ (s : LockStep). s)) q)) t)

-- ---- what it comes to

-- no number is out of its range, so that with room a block is refused only after the most that can be counted
pub lock_in_range_lem : {blocks given : List (List ℕ)} {lines : List ℕ} {v : LockReceiver} → LockTakes blocks given lines v → lock_in_range v ≡ true
unfolding fresh_receiver
lock_in_range_lem {v = v} h =
    let n = every_run h in
    let w = watched_calls n.calls fresh_receiver (Unsure 0) (record { range = refl; most = omega arith }) in
    let a : receiver_in_range v.receiver ≡ true = subst (λ (s : Receiver). receiver_in_range s ≡ true) (sym n.state) (reached_in_range n.calls n.decodes) in
    let b : certainty_in_range v.certainty v.receiver.sync.place v.receiver.counts.taken ≡ true
    = subst₂ (λ (s : Receiver) (k : Certainty). certainty_in_range k s.sync.place s.counts.taken ≡ true) (sym n.state) (sym n.certainty) w.range in
    simp (a, b)

-- the marks of calls in which none come
plain_marks : (cs : List Call) → All Plain cs → lent_marks cs ≡ chunks_of 204 (replicate (204 * length cs) 0)
unfolding flatten
plain_marks cs pl = sym (ap (chunks_of 204) (sym (flat cs pl)) ∙ chunks_joined 204 (omega arith) (lent_marks cs) (whole cs pl))
  where
    whole : (cs : List Call) → All Plain cs → All (Length 204) (lent_marks cs)
    whole [] g = tt
    whole (c ∷ cs) g = (ap length g.0 ∙ length-replicate {A = ℕ} 204 0, whole cs g.1)

    flat : (cs : List Call) → All Plain cs → flatten (lent_marks cs) ≡ replicate (204 * length cs) 0
    flat [] g = refl
    flat (c ∷ cs) g =
        let z : ℕ = 0 in
        let e : 204 + 204 * length cs ≡ 204 * suc (length cs) = omega arith in
        ap₂ (λ (x y : List ℕ). x ++ y) g.0 (flat cs g.1) ∙ replicate-append-replicate 204 (204 * length cs) z ∙ ap (λ (i : ℕ). replicate i z) e

pub every_lock : {blocks given : List (List ℕ)} {lines : List ℕ} {v : LockReceiver} → LockTakes blocks given lines v → LockCame blocks given lines v
unfolding flatten
every_lock {blocks} {given} {lines} {v} h = record {
  listed = record {
    calls = cs;
    on = record {
      blocks = n.lent ∙ sym (chunks_joined 204 (omega arith) blocks n.sizes);
      marked = plain_marks cs n.plain ∙ ap (λ (i : ℕ). chunks_of 204 (replicate i zeros)) size;
      decodes = n.decodes;
      output_fits = n.output_fits;
    };
    listed =
        ap₂ (λ (l : List ℕ) (k : Certainty). l ++ waiting_lines k (v.receiver.counts.taken - 11)) n.tells n.certainty
        ∙ ap (λ (i : ℕ). lines_of fresh_receiver (Unsure 0) cs ++ waiting_lines (certainty_of fresh_receiver (Unsure 0) cs) (i - 11)) (run_taken n)
        ∙ fresh_lines cs u;
    few = omega (arith, size, n.count);
  };
  lent = n.lent;
  plain = n.plain;
  state = n.state;
  unlisted = n.gives ∙ fresh_given cs u;
  told = told_of fresh_receiver (Unsure 0) [] cs;
  doubtful = doubts;
  together = subst₂ (λ (x y : List (List ℕ)). Merged x (told_of fresh_receiver (Unsure 0) [] cs ++ waiting_packets v) y) (sym (n.gives ∙ fresh_given cs u)) (sym (fresh_packets cs u))
      (subst (λ (x : List (List ℕ)). Merged (unlisted_from 0 false (blocks_of cs) (lefts (drop 11 cs))) x (delivered_packets (blocks_of cs) (lefts (drop 11 cs)))) (sym doubts) (all_merged 0 false (blocks_of cs) (lefts (drop 11 cs))));
}
  where
    n : Run blocks given lines v
    n = every_run h

    cs : List Call
    cs = n.calls

    u : Unrefused fresh_receiver cs
    u = run_unrefused n

    zeros : ℕ
    zeros = 0

    size : 204 * length cs ≡ length (flatten blocks)
    size = ap (λ (i : ℕ). 204 * i) (sym (blocks_count cs) ∙ ap length n.lent) ∙ sym (length-flatten 204 blocks n.sizes)

    doubts : told_of fresh_receiver (Unsure 0) [] cs ++ waiting_packets v ≡ doubtful_from 0 false (blocks_of cs) (lefts (drop 11 cs))
    doubts = ap (λ (w : List (List ℕ)). told_of fresh_receiver (Unsure 0) [] cs ++ w) n.waits ∙ fresh_doubtful cs u
