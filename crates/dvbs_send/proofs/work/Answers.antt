-- `dvbs_send::work` meets its contract.
-- Assumes nothing.
use mathlib.Core.Path.{◌≡◌, ap, subst, ◌∙◌}
use mathlib.Core.Bool.{true, false, not}
use Prim.Native.Nat.{ℕ}
use mir.Syntax.{w32}
use mir.Val.{to_z, of_z}
use Rattle.puncturing.specs.Mode.{mode_of}
use Rattle.program_io.specs.Words.{word_bytes}
use Rattle.dvbs_send.specs.Ends.{request_of, requested, Ends, answered, ran}
use Rattle.dvbs_send.specs.declared.SendRequest.{SendRequest}
use Rattle.dvbs_send.proofs.Requests.{is_sent_lem, not_sent, new_sent}
use borrow.Author.Rules.{rules}
use Rattle.program_io.proofs.Answering.{wrong_answered}
use Rattle.dvbs_send.proofs.work.Goals as goal

pub returns-then-not-is_sent : goal.returns-then-not-is_sent
returns-then-not-is_sent c =
    let asked : let a = c.args in
    c.request_of-request.result ≡ requested a.arguments a.first a.second = let a = c.args in
    c.request_of-request.ensures ∙ ap (λ (n : ℕ). request_of n (word_bytes a.first) (word_bytes a.second)) c.count.ensures in
    let q = c.request_of-request.result in
    let r = c.wrong-answered in
    let z = r.result.status in
    let e : to_z w32 (of_z w32 z) ≡ z = search rules in
    answered
    (wrong_answered c.args.arguments c.args.first r.result c.requires.first_is c.requires.work
    (c.args.second, c.requires, subst (λ (x : SendRequest). (mode_of x.mode).sent ≡ false) (asked) (not_sent q.mode c.is_sent.result c.is_sent.ensures (ap not c.if-not-is_sent.true)))
    r.ensures e)

pub send_all-ended-requires : goal.send_all-ended-requires
send_all-ended-requires c = (
  new_sent c.request_of-request.result.mode c.is_sent.result c.is_sent.ensures (ap not c.if-not-is_sent.false),
  c.standard.ensures,
  c.standard-2.ensures,
  c.errors.ensures,
)

pub returns : goal.returns
returns c =
    let asked : let a = c.args in
    c.request_of-request.result ≡ requested a.arguments a.first a.second = let a = c.args in
    c.request_of-request.ensures ∙ ap (λ (n : ℕ). request_of n (word_bytes a.first) (word_bytes a.second)) c.count.ensures in
    let r = c.send_all-ended in
    let z = r.result.status in
    let e : to_z w32 (of_z w32 z) ≡ z = search rules in
    ran c.args.arguments c.args.first c.args.second r.result c.requires
    (subst (λ (x : SendRequest). (mode_of x.mode).sent ≡ true) (asked) (is_sent_lem c.request_of-request.result.mode c.is_sent.result c.is_sent.ensures (ap not c.if-not-is_sent.false)))
    (subst (λ (x : SendRequest). Ends x.mode x.flush r.result) (asked) r.ensures) e
