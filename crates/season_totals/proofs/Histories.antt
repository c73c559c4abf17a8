-- A season in progress, piece after piece: what it stands for follows from all the bytes that came.
-- Assumes nothing.
use mathlib.Core.Path.{◌≡◌, refl, sym, ap, ◌∙◌, subst, subst₂}
use mathlib.Core.Bool.{true, false}
use mathlib.Core.List.{List, [], ◌∷◌, ◌++◌, flatten, append_assoc, append-nil}
use Prim.Native.Nat.{ℕ, ◌+◌, ◌-◌, ◌*◌, ◌≤◌, ◌<◌}
use native.Mathlib.Nat.{mul-suc}
use native.Mathlib.Omega.{arith}
use borrow.Author.Tests.{ne_eqb}
use lib.ListN.{length, get_or, take, drop, replicate, length-append, length-take, length-drop}
use lib.Seq.{take_all, take-add}
use Rattle.answer.proofs.Positive.{number_positive}
use Rattle.answer.specs.Number.{number_of, answered, given_or}
use Rattle.answer.specs.declared.Refusal.{Refusal}
use Rattle.std.specs.Prelude.{Result, Ok, Err, is_ok}
use Rattle.common.proofs.Choice.{false_true}
use Rattle.report.specs.declared.Report.{Report}
use Rattle.report.specs.Text.{report_text}
use Rattle.report.specs.Read.{ReadsReport}
use Rattle.report.proofs.Fronts.{report_short}
use Rattle.season_totals.specs.Totals.{counted_report, zero_totals}
use Rattle.season_totals.specs.Season.{texts, Seasons, season_text, read_text}
use Rattle.season_totals.specs.Progress.{Unread, bytes_held, CameTo, going, ended, fresh_season, FeedsSeason, Finishes, SeasonFeedings}
use Rattle.season_totals.specs.declared.Season.{Season}
use Rattle.season_totals.proofs.Progress.{unread_none, unread_more, unread_next, unread_bad, unread_many, front_more, past}
use Rattle.season_totals.proofs.Decided.{same_text}

-- where nothing was refused, the number of the answer is 0
pub ok_answered : {A : Type 0} (r : Result A Refusal) → is_ok r ≡ true → answered r ≡ 0
ok_answered (Ok a) e = refl
ok_answered (Err a) e = false_true e

-- what is printed, by the number of the answer and the totals
pub text_printed : (r : Result (List ℕ) Refusal) → read_text r ≡ season_text (answered r) (given_or zero_totals (λ t. t) r)
text_printed (Ok t) = refl
text_printed (Err a) = sym (rw (ne_eqb (number_of a) 0 (λ z. omega (arith, number_positive a))) refl)

pub came_small : {bytes : List ℕ} {s : Season} → CameTo bytes s → s.held < 320
came_small (going e h u) = h
came_small (ended e h f) = h

-- where no refusal was found
pub came_going : {bytes : List ℕ} {s : Season} → CameTo bytes s → is_ok s.answer ≡ true → Unread bytes s.totals (bytes_held s)
came_going (going e h u) z = u
came_going {bytes} {s} (ended e h f) z = absurd (e (ok_answered s.answer z))

-- where one was: it stays, whatever comes
pub came_ended : {bytes : List ℕ} {s : Season} → CameTo bytes s → is_ok s.answer ≡ false → (more : List ℕ) → CameTo (bytes ++ more) s
came_ended (going e h u) z more = false_true (sym z ∙ e)
came_ended {bytes} {s} (ended e h f) z more =
    ended e h (λ l. subst (λ (b : List ℕ). Seasons b (answered s.answer) zero_totals) (sym (append_assoc bytes more l)) (f (more ++ l)))

pub came_refused : {bytes : List ℕ} {s : Season} → CameTo bytes s → is_ok s.answer ≡ false → Seasons bytes (answered s.answer) zero_totals
came_refused (going e h u) z = false_true (sym z ∙ e)
came_refused {bytes} {s} (ended e h f) z = subst (λ (b : List ℕ). Seasons b (answered s.answer) zero_totals) (append-nil bytes) (f [])

pub came_some : {bytes : List ℕ} {s : Season} → CameTo bytes s → is_ok s.answer ≡ false → answered s.answer ≡ 0 → ⊥
came_some (going e h u) z y = false_true (sym z ∙ e)
came_some (ended e h f) z y = e y

-- ---- the steps

-- a refusal at the front of a full buffer
pub front_stops : {bytes totals buffer x : List ℕ} {number : ℕ} {r : Report} {s : Season} → Unread bytes totals buffer → length buffer ≡ 320
    → get_or totals 0 0 < 4096 → ReadsReport buffer number r x → (number ≡ 0 → ⊥) → answered s.answer ≡ number → s.held ≡ 0 → CameTo bytes s
front_stops {bytes} {totals} {buffer} {x} {number} {r} {s} u l n w e a h =
    ended (λ z. e (sym a ∙ z)) (omega arith) (λ more. subst (λ (k : ℕ). Seasons (bytes ++ more) k zero_totals) (sym a) (there more))
  where
    there : (more : List ℕ) → Seasons (bytes ++ more) number zero_totals
    there more =
        let k = length-append buffer more in
        unread_bad (unread_more u more) number r (x ++ more) (front_more buffer number r x w (omega arith) more) e n (omega arith)

-- a report at the front of a full buffer
pub front_taken : {bytes totals buffer next pending : List ℕ} {number : ℕ} {r : Report} (end : ℕ) → Unread bytes totals buffer → length buffer ≡ 320
    → get_or totals 0 0 < 4096 → end ≤ length buffer → ReadsReport buffer number r (drop end buffer) → number ≡ 0 → next ≡ counted_report totals r
    → take (0 + length (take (320 - end) (drop end buffer))) pending ≡ take 0 (replicate 320 0) ++ take (320 - end) (drop end buffer)
    → CameTo bytes (record { answer = Ok tt; totals = next; pending = pending; held = 320 - end })
front_taken {bytes} {totals} {buffer} {next} {pending} {number} {r} end u l n h w e c p =
    let o : 0 < end = past buffer 0 end number r h w e (omega arith) in
    let d = length-drop end buffer in
    let a : take (320 - end) (drop end buffer) ≡ drop end buffer = take_all (320 - end) (drop end buffer) (omega arith) in
    let k : 0 + length (take (320 - end) (drop end buffer)) ≡ 320 - end = let j = ap length a in omega arith in
    let x : drop end buffer ≡ take (320 - end) pending = sym a ∙ sym p ∙ ap (λ (m : ℕ). take m pending) k in
    going refl (omega arith) (subst₂ (λ (t z : List ℕ). Unread bytes t z) (sym c) x (unread_next u number r (drop end buffer) w e n))

-- a part that does not fill the buffer, and one that does
pub part_kept : {bytes totals buffer : List ℕ} {filled : ℕ} (pending part : List ℕ) (held : ℕ) → Unread bytes totals (take held pending) → filled < 320
    → take filled buffer ≡ take held pending ++ part
    → CameTo (bytes ++ part) (record { answer = Ok tt; totals = totals; pending = buffer; held = filled })
part_kept {bytes} {totals} pending part held u h p = going refl h (subst (Unread (bytes ++ part) totals) (sym p) (unread_more u part))

pub part_fills : {bytes totals buffer : List ℕ} (pending part : List ℕ) (held filled : ℕ) → Unread bytes totals (take held pending)
    → length buffer ≡ 320 → 320 ≤ filled → take filled buffer ≡ take held pending ++ part → Unread (bytes ++ part) totals buffer
part_fills {bytes} {totals} {buffer} pending part held filled u l h p =
    subst (Unread (bytes ++ part) totals) (sym p ∙ take_all filled buffer (omega arith)) (unread_more u part)

-- bytes after 4,096 reports
pub part_stops : {bytes totals held : List ℕ} {s : Season} (part : List ℕ) → Unread bytes totals held → get_or totals 0 0 ≡ 4096 → 0 < length part
    → answered s.answer ≡ 21 → s.held ≡ 0 → CameTo (bytes ++ part) s
part_stops {bytes} {totals} {held} {s} part u n l a h =
    ended (λ z. omega arith) (omega arith) (λ more. subst (λ (k : ℕ). Seasons ((bytes ++ part) ++ more) k zero_totals) (sym a) (there more))
  where
    there : (more : List ℕ) → Seasons ((bytes ++ part) ++ more) 21 zero_totals
    there more =
        let k = length-append (held ++ part) more in
        let j = length-append held part in
        unread_many (unread_more (unread_more u part) more) n (omega arith)

-- ---- the loop over a piece

-- the bytes of the piece before a place are taken
pub record FedTo (piece : List ℕ) (start s : Season) (at : ℕ) : Type 0 where
  pub place : at ≤ length piece
  pub is : (bytes : List ℕ) → CameTo bytes start → CameTo (bytes ++ take at piece) s

pub fed_none : (piece : List ℕ) (s : Season) → FedTo piece s s 0
fed_none piece s = record { place = omega arith; is = λ bytes k. subst (λ (b : List ℕ). CameTo b s) (sym (append-nil bytes)) k }

pub fed_more : {piece : List ℕ} {start s next : Season} {at : ℕ} (n : ℕ) → FedTo piece start s at → at + n ≤ length piece
    → FeedsSeason s (take (at + n - at) (drop at piece)) next → FedTo piece start next (at + n)
fed_more {piece} {start} {s} {next} {at} n o h f =
    let e : at + n - at ≡ n = omega arith in
    record {
      place = h;
      is = λ bytes k.
          subst (λ (b : List ℕ). CameTo b next)
          (append_assoc bytes (take at piece) (take n (drop at piece)) ∙ ap (λ (b : List ℕ). bytes ++ b) (sym (take-add at n piece)))
          (subst (λ (m : ℕ). CameTo ((bytes ++ take at piece) ++ take m (drop at piece)) next) e (f.fed (bytes ++ take at piece) (o.is bytes k)));
    }

pub fed_all : {piece : List ℕ} {start s : Season} {at : ℕ} → FedTo piece start s at → length piece ≤ at → FeedsSeason start piece s
fed_all {piece} {start} {s} {at} o h = record {
  fed = λ bytes k. subst (λ (b : List ℕ). CameTo (bytes ++ b) s) (take_all at piece h) (o.is bytes k);
}

-- ---- the theorems

pub fresh_came : CameTo [] fresh_season
fresh_came = going refl (omega arith) unread_none

feedings_came : (ps : List (List ℕ)) {bytes : List ℕ} {s last : Season} → CameTo bytes s → SeasonFeedings s ps last → CameTo (bytes ++ flatten ps) last
unfolding flatten
feedings_came [] {bytes} {s} c e = subst (CameTo (bytes ++ [])) e (subst (λ (b : List ℕ). CameTo b s) (sym (append-nil bytes)) c)
feedings_came (p ∷ ps) {bytes} {s} {last} c d =
    subst (λ (b : List ℕ). CameTo b last) (append_assoc bytes p (flatten ps)) (feedings_came ps (d.1.fed bytes c) d.2)

-- whatever the pieces, the answer is the season of all the bytes
pub every_history : (ps : List (List ℕ)) (last : Season) (r : Result (List ℕ) Refusal) → SeasonFeedings fresh_season ps last → Finishes last r
    → Seasons (flatten ps) (answered r) (given_or zero_totals (λ t. t) r)
every_history ps last r d f = f.season (flatten ps) (feedings_came ps fresh_came d)

-- any two cuttings of the same bytes print the same
pub any_pieces : (ps qs : List (List ℕ)) (s z : Season) (r q : Result (List ℕ) Refusal) → SeasonFeedings fresh_season ps s → SeasonFeedings fresh_season qs z
    → Finishes s r → Finishes z q → flatten ps ≡ flatten qs
    → season_text (answered r) (given_or zero_totals (λ t. t) r) ≡ season_text (answered q) (given_or zero_totals (λ t. t) q)
any_pieces ps qs s z r q d g f h e =
    same_text (subst (λ (b : List ℕ). Seasons b (answered r) (given_or zero_totals (λ t. t) r)) e (every_history ps s r d f)) (every_history qs z q g h)

-- ---- how many bytes come before a refusal

texts_short : (rs : List Report) → length (texts rs) ≤ 310 * length rs
texts_short [] = omega arith
texts_short (r ∷ rs) =
    let a = length-append (report_text r) (texts rs) in
    let b = report_short r in
    let c = texts_short rs in
    omega (arith, mul-suc 310 (length rs))

-- 4,096 reports and a buffer that is not full
pub going_short : {bytes : List ℕ} {s : Season} → CameTo bytes s → is_ok s.answer ≡ true → length bytes < 1270080
going_short {bytes} {s} c e =
    let u = came_going c e in
    let a = ap length u.text ∙ length-append (texts u.reports) (bytes_held s) in
    let b = texts_short u.reports in
    let d : length (bytes_held s) ≤ s.held = shorter in
    omega (arith, u.few, came_small c)
  where
    shorter : length (bytes_held s) ≤ s.held
    shorter = omega (arith, length-take s.held s.pending)
