-- `sender_stream::run::send_run` meets its contract.
-- Assumes nothing.
use mathlib.Core.Path.{◌≡◌, refl, sym, ap, ◌∙◌}
use mathlib.Core.Bool.{Bool, true, false, not}
use Rattle.common.specs.Choice.{pick}
use Prim.Native.Nat.{ℕ}
use borrow.Author.Tests.{eq-eqb, ne_eqb, ltb-false}
use lib.Dec.{ltb}
use lib.ListN.{length}
use Rattle.puncturing.specs.Mode.{mode_of}
use Rattle.puncturing.proofs.Places.{sent_known}
use Rattle.puncturing.proofs.WellFormed.{well_formed_lem}
use Rattle.sender_stream.specs.Run.{run_symbols, run_refusal}
use Rattle.sender_stream.proofs.Counting.{length_run}
use Rattle.sender_stream.proofs.Outcome.{run_refused, run_answered}
use Rattle.sender_stream.proofs.run.send_run.Goals as goal

-- 15 where not every packet is one
told : (s t : Bool) → s ≡ t → ◌≡◌ {A = ℕ} (pick (not s) 15 0) (pick t 0 15)
told s t e = rw e (by t)
  where
    by : (b : Bool) → ◌≡◌ {A = ℕ} (pick (not b) 15 0) (pick b 0 15)
    by true = refl
    by false = refl

pub returns-then-not-is_sent : goal.returns-then-not-is_sent
returns-then-not-is_sent c =
    run_refused c.args.rate c.args.packets.now c.args.output.now 6 (simp (sym c.is_sent.ensures ∙ c.if-not-is_sent.true)) refl

pub returns-then-packets-ne0 : goal.returns-then-packets-ne0
returns-then-packets-ne0 c =
    let sent : (mode_of c.args.rate).sent ≡ true = sym c.is_sent.ensures ∙ c.if-not-is_sent.false in
    run_refused c.args.rate c.args.packets.now c.args.output.now 1 (simp (sent, ne_eqb _ _ c.if-packets-ne0.true)) refl

pub is_short-requires : goal.is_short-requires
is_short-requires c =
    let sent : (mode_of c.args.rate).sent ≡ true = sym c.is_sent.ensures ∙ c.if-not-is_sent.false in
    let h = sent_known c.args.rate (sent) in (h, (well_formed_lem _ h).some_bits)

pub returns-then-is_short : goal.returns-then-is_short
returns-then-is_short c =
    let sent : (mode_of c.args.rate).sent ≡ true = sym c.is_sent.ensures ∙ c.if-not-is_sent.false in
    let short : let a = c.args in
    ltb (length a.output.now) (length (run_symbols a.rate a.packets.now)) ≡ c.is_short.result = let a = c.args in
    ap (ltb (length a.output.now)) (length_run a.rate (sent_known a.rate (sent)) a.packets.now) ∙ sym c.is_short.ensures in
    run_refused c.args.rate c.args.packets.now c.args.output.now 4
    (simp (sent, eq-eqb _ _ c.if-packets-ne0.false, short ∙ c.if-is_short.true)) refl

pub send_packets-requires : goal.send_packets-requires
send_packets-requires c =
    let sent : (mode_of c.args.rate).sent ≡ true = sym c.is_sent.ensures ∙ c.if-not-is_sent.false in
    let short : let a = c.args in
    ltb (length a.output.now) (length (run_symbols a.rate a.packets.now)) ≡ c.is_short.result = let a = c.args in
    ap (ltb (length a.output.now)) (length_run a.rate (sent_known a.rate (sent)) a.packets.now) ∙ sym c.is_short.ensures in
    record { sent = sent; whole = c.if-packets-ne0.false; fits = ltb-false _ _ (short ∙ c.if-is_short.false) }

pub returns : goal.returns
returns c =
    let sent : (mode_of c.args.rate).sent ≡ true = sym c.is_sent.ensures ∙ c.if-not-is_sent.false in
    let short : let a = c.args in
    ltb (length a.output.now) (length (run_symbols a.rate a.packets.now)) ≡ c.is_short.result = let a = c.args in
    ap (ltb (length a.output.now)) (length_run a.rate (sent_known a.rate (sent)) a.packets.now) ∙ sym c.is_short.ensures in
    let taken : let a = c.args in
    run_refusal a.rate a.packets.now a.output.now ≡ 0 = simp (sent, eq-eqb _ _ c.if-packets-ne0.false, short ∙ c.if-is_short.false) in
    let r = c.in_ok-count.ensures in
    run_answered c.args.rate c.args.packets.now c.args.output.now (taken) (told _ _ c.is_synced-replaced.ensures) r.1 r.2
