-- Lists of bytes in pieces: an array with bytes at its front, and what is held after a piece.
-- Assumes nothing.
use mathlib.Core.Path.{◌≡◌, refl, sym, ap, ap₂, subst, subst₂, ◌∙◌}
use mathlib.Core.List.{List, [], ◌++◌, append_assoc, append-nil}
use Prim.Native.Nat.{ℕ, ◌+◌, ◌-◌, ◌*◌, ◌/◌, ◌%◌, ◌≤◌, ◌<◌}
use native.Mathlib.Nat.{mod-le}
use native.Mathlib.Decide.{ℕ_discrete}
use native.Mathlib.Omega.{arith}
use mathlib.Core.Bool.{true}
use borrow.Author.Tests.{ltb-true}
use lib.Dec.{ltb}
use lib.ListN.{length, take, drop, length-append, length-drop, take-append-drop, drop_of_length-le}
use borrow.Rule.Slice.PartMut.{put_mid, mid_of}
use lib.Seq.{take_all, length-take-le, drop-append-add}
use Rattle.common.proofs.Choice.{both_true}
use Rattle.common.specs.Lists.{padded, rest_of}
use Rattle.common.proofs.Padded.{padded_full}
use Rattle.common.proofs.Chunks.{rest_few}
use Rattle.receiver.specs.Receive.{receiver_in_range}
use Rattle.recording.specs.Recording.{TakesRecording}
use Rattle.recording.proofs.Joins.{takes_join, takes_few, takes_count, takes_length}
use Rattle.receiver.specs.declared.Receiver.{Receiver}
use Rattle.receiver_stream.specs.Feed.{holding, bytes_held, held_marks, receiver_stream_in_range, ReceivesPiece}
use Rattle.receiver_stream.specs.declared.ReceiverStream.{ReceiverStream}

-- ---- the ranges

pub stream_range : (i : ReceiverStream) → receiver_stream_in_range i ≡ true → (receiver_in_range i.receiver ≡ true) × (i.held < 204)
stream_range i e =
    let p = both_true (receiver_in_range i.receiver) (ltb i.held 204) e in
    (p.0, ltb-true i.held 204 p.1)

-- ---- arrays with bytes and marks at their fronts

kept_state : (s : Receiver) (rest own : List ℕ) {array marks : List ℕ} {n : ℕ} → array ≡ padded 204 rest → marks ≡ padded 204 own → n ≡ length rest
    → ◌≡◌ {A = ReceiverStream} (record { receiver = s; pending = array; marks = marks; held = n }) (holding s rest own)
kept_state s rest own {array} {marks} {n} p q e =
    ap₂ (λ (x y : List ℕ). record { receiver = s; pending = x; marks = y; held = n }) p q
    ∙ ap (λ (k : ℕ). record { receiver = s; pending = padded 204 rest; marks = padded 204 own; held = k }) e

-- where the bytes after the last whole block begin, in all that came and in the piece
rest_none : (l start : ℕ) → start ≡ 0 → l - l % 204 ≡ l - (l - start) % 204
rest_none l start e = omega arith

rest_some : (m : ℕ) → 204 + m - (204 + m) % 204 ≡ 204 + (m - m % 204)
rest_some m = omega arith

shifted : (h l start m r : ℕ) → h + start ≡ 204 → l ≡ start + m → r ≤ m → 204 + (m - r) ≡ h + (l - r)
shifted h l start m r a b c = omega arith

rest_start : (h l start : ℕ) → h < 204 → 204 ≤ h + l → start ≡ (204 - h) % 204 → h + l - (h + l) % 204 ≡ h + (l - (l - start) % 204)
rest_start h l start small enough e = by (ℕ_discrete h 0)
  where
    by : Dec (h ≡ 0) → h + l - (h + l) % 204 ≡ h + (l - (l - start) % 204)
    by (yes z) = let o : h + l ≡ l = omega arith in let d = rest_none l start (omega arith) in omega arith
    by (no z) =
        let s : start ≡ 204 - h = omega arith in
        let m : h + l ≡ 204 + (l - start) = omega arith in
        let n : l ≡ start + (l - start) = omega arith in
        ap (λ (k : ℕ). k - k % 204) m ∙ rest_some (l - start)
        ∙ shifted h l start (l - start) ((l - start) % 204) (omega arith) n (mod-le (l - start) 204)

-- ---- bytes held and a piece after them, or their marks

-- a piece that completes at least one block
module _ (held total start : ℕ) (small : held < 204) (enough : 204 ≤ held + total) (e : start ≡ (204 - held) % 204) (front piece : List ℕ) (f : length front ≡ held)
    (t : length piece ≡ total) where
  pub filler_length : length (take start piece) ≡ start
  filler_length = length-take-le start piece (omega arith)

  pub first_length : length (front ++ take start piece) ≡ held + start
  first_length = length-append front (take start piece) ∙ ap₂ (λ (x y : ℕ). x + y) f filler_length

  first_rest : rest_of 204 (front ++ take start piece) ≡ []
  unfolding rest_of
  first_rest =
      let x = front ++ take start piece in
      drop_of_length-le x {i = length x - length x % 204} (omega (arith, first_length))

  came_split : (front ++ take start piece) ++ drop start piece ≡ front ++ piece
  came_split = append_assoc front (take start piece) (drop start piece) ∙ ap (λ (l : List ℕ). front ++ l) (take-append-drop start piece)

  -- the bytes after the last whole block
  rest_piece : (end : ℕ) → end ≡ total - (total - start) % 204 → rest_of 204 (front ++ piece) ≡ drop end piece
  unfolding rest_of
  rest_piece end d =
      let came = front ++ piece in
      let n : length came ≡ held + total = length-append front piece ∙ ap₂ (λ (x y : ℕ). x + y) f t in
      let k : length came - length came % 204 ≡ length front + end
      = ap (λ (j : ℕ). j - j % 204) n ∙ rest_start held total start small enough e ∙ ap₂ (λ (j k : ℕ). j + k) (sym f) (sym d) in
      ap (λ (j : ℕ). drop j came) k ∙ drop-append-add front piece end

  -- as the code has them: what is after the filler, and the tail
  rest_given : take (total - start) (drop start piece) ≡ rest_of 204 (front ++ take start piece) ++ drop start piece
  rest_given =
      take_all (total - start) (drop start piece) (omega (arith, length-drop start piece)) ∙ sym (ap (λ (l : List ℕ). l ++ drop start piece) first_rest)

  tail_given : (end : ℕ) → end ≡ total - (total - start) % 204 → rest_of 204 (front ++ piece) ≡ take (total - end) (drop end piece)
  tail_given end d = rest_piece end d ∙ sym (take_all (total - end) (drop end piece) (omega (arith, length-drop end piece)))

-- ---- what a stream receiver does with a piece

module _ (i : ReceiverStream) (size : length i.pending ≡ 204) (sizes : length i.marks ≡ 204) (small : i.held < 204) where
  held_length : length (bytes_held i) ≡ i.held
  held_length = length-take-le i.held i.pending (omega arith)

  marks_length : length (held_marks i) ≡ i.held
  marks_length = length-take-le i.held i.marks (omega arith)

  length_came : (piece : List ℕ) → length (bytes_held i ++ piece) ≡ i.held + length piece
  length_came piece = length-append (bytes_held i) piece ∙ ap (λ (k : ℕ). k + length piece) held_length

  length_marks : (own : List ℕ) → length (held_marks i ++ own) ≡ i.held + length own
  length_marks own = length-append (held_marks i) own ∙ ap (λ (k : ℕ). k + length own) marks_length

  -- no byte is held, and none completes a block
  pub finish_none : (filler own output : List ℕ) → length filler ≡ (204 - i.held) % 204 → i.held ≡ 0
      → TakesRecording i.receiver (bytes_held i ++ filler) (held_marks i ++ own) output 0 i.receiver output
  finish_none filler own output e z = takes_few i.receiver (bytes_held i ++ filler) (held_marks i ++ own) output (omega (arith, length_came filler))

  -- the block that the bytes held begin
  pub finish_block : (filler own : List ℕ) {block marks output exit : List ℕ} {count : ℕ} {last : Receiver} → length filler ≡ (204 - i.held) % 204
      → length own ≡ length filler → (i.held ≡ 0 → ⊥) → block ≡ padded 204 (bytes_held i ++ filler) → marks ≡ padded 204 (held_marks i ++ own)
      → TakesRecording i.receiver block marks output count last exit
      → TakesRecording i.receiver (bytes_held i ++ filler) (held_marks i ++ own) output count last exit
  finish_block filler own {output = output} {exit = exit} {count = count} {last = last} e w z p q t =
      subst₂ (λ (x y : List ℕ). TakesRecording i.receiver x y output count last exit)
      (p ∙ padded_full 204 (bytes_held i ++ filler) (omega (arith, length_came filler)))
      (q ∙ padded_full 204 (held_marks i ++ own) (omega (arith, length_marks own, w))) t

  -- no block is whole yet
  pub keep_piece : (piece own output array marks : List ℕ) → i.held + length piece < 204 → length own ≡ length piece → array ≡ padded 204 (bytes_held i ++ piece)
      → marks ≡ padded 204 (held_marks i ++ own)
      → ReceivesPiece i piece own output 0 (record { receiver = i.receiver; pending = array; marks = marks; held = i.held + length piece }) output
  keep_piece piece own output array marks h w p q =
      let came = bytes_held i ++ piece in
      let cames = held_marks i ++ own in
      let l = length_came piece in
      let k = length_marks own in
      let r : rest_of 204 came ≡ came = rest_few 204 (omega arith) came (omega arith) in
      let u : rest_of 204 cames ≡ cames = rest_few 204 (omega arith) cames (omega arith) in
      record {
        takes = takes_few i.receiver came cames output (omega arith);
        kept =
            kept_state i.receiver (rest_of 204 came) (rest_of 204 cames) (p ∙ ap (padded 204) (sym r)) (q ∙ ap (padded 204) (sym u))
            (sym (ap length r ∙ l));
      }

  -- a piece that completes at least one block
  module _ (piece own output : List ℕ) (enough : 204 ≤ i.held + length piece) (each : length own ≡ length piece)
      (fits : 188 * ((i.held + length piece) / 204) ≤ length output) (start : ℕ) (e : start ≡ (204 - i.held) % 204) where
    first : List ℕ
    first = bytes_held i ++ take start piece

    firsts : List ℕ
    firsts = held_marks i ++ take start own

    pub start_within : start ≤ length piece
    start_within = omega arith

    pub piece_filler : length (take start piece) ≡ start
    piece_filler = filler_length i.held (length piece) start small enough e (bytes_held i) piece held_length refl

    pub marks_filler : length (take start own) ≡ start
    marks_filler = filler_length i.held (length piece) start small enough e (held_marks i) own marks_length each

    length_first : length first ≡ i.held + start
    unfolding first
    length_first = first_length i.held (length piece) start small enough e (bytes_held i) piece held_length refl

    each_first : length firsts ≡ length first
    unfolding first firsts
    each_first = first_length i.held (length piece) start small enough e (held_marks i) own marks_length each ∙ sym length_first

    module _ {m : ℕ} {middle : Receiver} {exit : List ℕ} (f : TakesRecording i.receiver (bytes_held i ++ take start piece) (held_marks i ++ take start own) output m middle exit) where
      first_kept : length exit ≡ length output
      unfolding first
      first_kept = takes_length f (omega (arith, length_first))

      pub first_within : m ≤ length exit
      unfolding first
      first_within = omega (arith, takes_count f, first_kept, length_first)

      pub rest_fits : 188 * (length (take (length piece - start) (drop start piece)) / 204) ≤ length (mid_of m (length exit - m) exit)
      unfolding first
      rest_fits =
          omega (
            arith,
            length-take-le (length piece - start) (drop start piece) (omega (arith, length-drop start piece)),
            length-take-le (length exit - m) (drop m exit) (omega (arith, length-drop m exit)),
            takes_count f,
            first_kept,
            length_first,
          )

      module _ {n : ℕ} {last : Receiver} {exit' : List ℕ}
          (g : TakesRecording middle (take (length piece - start) (drop start piece)) (take (length own - start) (drop start own)) (mid_of m (length exit - m) exit) n last exit') where
        pub count_within : m + n ≤ length output
        count_within = omega (arith, takes_count g, rest_fits, first_within, first_kept, length-take-le (length exit - m) (drop m exit) (omega (arith, length-drop m exit)))

        pub take_pieces : (array marks : List ℕ) (rest end : ℕ) → rest ≡ (length piece - start) % 204 → end ≡ length piece - rest
            → array ≡ padded 204 (take 0 i.pending ++ take (length piece - end) (drop end piece))
            → marks ≡ padded 204 (take 0 i.marks ++ take (length own - end) (drop end own))
            → ReceivesPiece i piece own output (m + n) (record { receiver = last; pending = array; marks = marks; held = rest }) (put_mid m (length exit - m) exit exit')
        unfolding first firsts
        take_pieces array marks rest end p q a v =
            let h = i.held in
            let l = length piece in
            let b = drop start piece in
            let k = drop start own in
            let came = bytes_held i ++ piece in
            let cames = held_marks i ++ own in
            let d : end ≡ l - (l - start) % 204 = omega arith in
            let tail : rest_of 204 came ≡ take (l - end) (drop end piece) = tail_given h l start small enough e (bytes_held i) piece held_length refl end d in
            let tails : rest_of 204 cames ≡ take (length own - end) (drop end own)
            = tail_given h l start small enough e (held_marks i) own marks_length each end d ∙ ap (λ (j : ℕ). take (j - end) (drop end own)) (sym each) in
            let c : take (l - start) b ≡ rest_of 204 first ++ b = rest_given h l start small enough e (bytes_held i) piece held_length refl in
            let x : take (length own - start) k ≡ rest_of 204 firsts ++ k
            = ap (λ (j : ℕ). take (j - start) k) each ∙ rest_given h l start small enough e (held_marks i) own marks_length each in
            let o : mid_of m (length exit - m) exit ≡ drop m exit = take_all (length exit - m) (drop m exit) (omega (arith, length-drop m exit)) in
            let t : TakesRecording middle (rest_of 204 first ++ b) (rest_of 204 firsts ++ k) (drop m exit) n last exit'
            = subst (λ (y : List ℕ). TakesRecording middle (rest_of 204 first ++ b) (rest_of 204 firsts ++ k) y n last exit') o
            (subst₂ (λ (y z : List ℕ). TakesRecording middle y z (mid_of m (length exit - m) exit) n last exit') c x g) in
            let w : exit' ++ drop (length exit - m) (drop m exit) ≡ exit'
            = ap (λ (y : List ℕ). exit' ++ y) (drop_of_length-le (drop m exit) {i = length exit - m} (omega (arith, length-drop m exit))) ∙ append-nil exit' in
            record {
              takes =
                  subst (λ (y : List ℕ). TakesRecording i.receiver came cames output (m + n) last y) (sym (ap (λ (y : List ℕ). take m exit ++ y) w))
                  (subst₂ (λ (y z : List ℕ). TakesRecording i.receiver y z output (m + n) last (take m exit ++ exit'))
                  (came_split h l start small enough e (bytes_held i) piece held_length refl)
                  (came_split h l start small enough e (held_marks i) own marks_length each)
                  (takes_join b k each_first f t));
              kept =
                  kept_state last (rest_of 204 came) (rest_of 204 cames) (a ∙ ap (padded 204) (sym tail)) (v ∙ ap (padded 204) (sym tails))
                  (sym (ap length (rest_piece h l start small enough e (bytes_held i) piece held_length refl end d) ∙ omega (arith, length-drop end piece, start_within)));
            }
