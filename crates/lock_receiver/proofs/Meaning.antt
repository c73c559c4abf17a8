-- The packets that are given block by block are those of the blocks that have no line in the list of losses, and the others are told or wait.
-- Assumes nothing.
use mathlib.Core.Path.{◌≡◌, refl, sym, ap, ap₂, ◌∙◌}
use mathlib.Core.Bool.{Bool, true, false}
use mathlib.Core.List.{List, [], ◌∷◌, ◌++◌, append_assoc, append-nil}
use Prim.Native.Nat.{ℕ, ◌+◌, ◌<◌}
use Prim.{tt, Unit}
use native.Mathlib.Omega.{arith}
use borrow.Author.Tests.{ne_eqb}
use lib.Dec.{eqb}
use lib.ListN.{get_or}
use Rattle.std.proofs.Common.{Option, Some}
use Rattle.common.specs.Choice.{pick}
use Rattle.group_sync.specs.Group.{later_place, group_step, step}
use Rattle.group_sync.specs.Stream.{outcomes}
use Rattle.group_sync.specs.declared.Outcome.{Outcome}
use Rattle.group_sync.specs.declared.Outcome.TheVariants.{Filling, Delivered, Lost, Waiting, OutOfStep}
use Rattle.group_sync.specs.declared.GroupSync.{GroupSync}
use Rattle.group_sync.specs.declared.GroupStep.{GroupStep}
use Rattle.reception_counts.specs.Counts.{outcome_number}
use Rattle.receiver.specs.Receive.{decoding_of}
use Rattle.receiver.specs.Run.{Call}
use Rattle.receiver.specs.Begun.{lefts, decodings, packet_of, delivered_packets}
use Rattle.losses.specs.List.{line, confirmed, line_of, sure_after}
use Rattle.losses.specs.Watch.{is_sure, start_due_at, started_at, certainty_next}
use Rattle.losses.specs.declared.Certainty.{Certainty}
use Rattle.losses.specs.declared.Certainty.TheVariants.{Sure, Unsure}
use Rattle.losses.proofs.Lines.{due_of, due_is, not_started}
use Rattle.losses.proofs.Steps.{NotGiven, Stepped, passed, starts, follows, stepped}
use Rattle.lock_receiver.specs.History.{is_none, unlisted_from, doubtful_from, Merged, none, first, second}

abbrev Packets : Type 0
Packets = List (List ℕ)

-- ---- block after block, by group synchronization

-- what a block comes to
abbrev pub step_at : GroupSync → Call → GroupStep
step_at s c = group_step s (decoding_of c.decoded (get_or c.left 0 0))

-- the packets given, those told and those that wait after it, by its own packet or none
abbrev pub step_given : Option ℕ → Certainty → List (List ℕ) → GroupStep → List (List ℕ) → List (List ℕ)
step_given place k held g own =
    pick (eqb (outcome_number g.outcome) 0) (pick (started_at g.sync.place) (pick (start_due_at place) held [] ++ own) (pick (is_sure k) own [])) []

abbrev pub step_told : Option ℕ → Certainty → List (List ℕ) → GroupStep → List (List ℕ)
step_told place k held g = pick (eqb (outcome_number g.outcome) 0) (pick (started_at g.sync.place) (pick (start_due_at place) [] held) []) held

abbrev pub step_held : Certainty → List (List ℕ) → GroupStep → List (List ℕ) → List (List ℕ)
step_held k held g own = pick (eqb (outcome_number g.outcome) 0) (pick (started_at g.sync.place) [] (pick (is_sure k) [] (held ++ own))) []

abbrev pub step_certainty : Certainty → GroupStep → Certainty
step_certainty k g = certainty_next k (outcome_number g.outcome) (started_at g.sync.place)

abbrev pub all_given : GroupSync → Certainty → List (List ℕ) → List Call → List (List ℕ)
all_given s k held [] = []
all_given s k held (c ∷ cs) =
    step_given s.place k held (step_at s c) (packet_of (step_at s c).outcome c.left)
    ++ all_given (step_at s c).sync (step_certainty k (step_at s c)) (step_held k held (step_at s c) (packet_of (step_at s c).outcome c.left)) cs

-- those that are told, and those that wait at last
abbrev pub all_doubtful : GroupSync → Certainty → List (List ℕ) → List Call → List (List ℕ)
all_doubtful s k held [] = held
all_doubtful s k held (c ∷ cs) =
    step_told s.place k held (step_at s c)
    ++ all_doubtful (step_at s c).sync (step_certainty k (step_at s c)) (step_held k held (step_at s c) (packet_of (step_at s c).outcome c.left)) cs

-- where the places are sure, none waits
abbrev pub Kept : Certainty → List (List ℕ) → Type 0
Kept Sure held = held ≡ []
Kept (Unsure n) held = Unit {0}

-- ---- what they mean

-- those that wait, where what follows confirms them or where it does not
record Means (place : Option ℕ) (k : Certainty) (held : List (List ℕ)) (block : ℕ) (os : List Outcome) (ls given doubtful : List (List ℕ)) : Type 0 where
  pub given_are : given ≡ pick (confirmed (due_of place) os) held [] ++ unlisted_from block (is_sure k) os ls
  pub doubtful_are : doubtful ≡ pick (confirmed (due_of place) os) [] held ++ doubtful_from block (is_sure k) os ls

abbrev MeansOf : GroupSync → Certainty → List (List ℕ) → ℕ → List Call → Type 0
MeansOf s k held block cs = Means s.place k held block (outcomes s (decodings cs)) (lefts cs) (all_given s k held cs) (all_doubtful s k held cs)

none_open : (t : Bool) (rest : Packets) → pick t [] [] ++ rest ≡ rest
none_open true rest = refl
none_open false rest = refl

sure_open : (t : Bool) (a b rest : Packets) → a ≡ [] → b ≡ [] → rest ≡ pick t a b ++ rest
sure_open t a b rest e f = sym (ap₂ (λ (x y : Packets). pick t x y ++ rest) e f ∙ none_open t rest)

-- those that wait, and one more
given_more : (t : Bool) (held own rest : Packets) (l : ℕ) → pick t (held ++ own) [] ++ rest ≡ pick t held [] ++ (pick (is_none (pick t [] (l ∷ []))) own [] ++ rest)
given_more true held own rest l = append_assoc held own rest
given_more false held own rest l = refl

doubtful_more : (t : Bool) (held own rest : Packets) (l : ℕ) → pick t [] (held ++ own) ++ rest ≡ pick t [] held ++ (pick (is_none (pick t [] (l ∷ []))) [] own ++ rest)
doubtful_more true held own rest l = refl
doubtful_more false held own rest l = append_assoc held own rest

module _ (place : Option ℕ) (k : Certainty) (held : List (List ℕ)) (block : ℕ) (left : List ℕ) (cs : List Call) (kept : Kept k held)
    (ih : (x : GroupSync) (m : Certainty) (h : List (List ℕ)) → Kept m h → MeansOf x m h (block + 1) cs) where
  abbrev Step : GroupStep → Type 0
  Step g =
      Means place k held block (g.outcome ∷ outcomes g.sync (decodings cs)) (left ∷ lefts cs)
      (step_given place k held g (packet_of g.outcome left) ++ all_given g.sync (step_certainty k g) (step_held k held g (packet_of g.outcome left)) cs)
      (step_told place k held g ++ all_doubtful g.sync (step_certainty k g) (step_held k held g (packet_of g.outcome left)) cs)

  -- nothing waits behind a block that was not given, or that begins a group
  none_given : (x : GroupSync) (m : Certainty) → Kept m [] → all_given x m [] cs ≡ unlisted_from (block + 1) (is_sure m) (outcomes x (decodings cs)) (lefts cs)
  none_given x m h =
      (ih x m [] h).given_are ∙ none_open (confirmed (due_of x.place) (outcomes x (decodings cs))) (unlisted_from (block + 1) (is_sure m) (outcomes x (decodings cs)) (lefts cs))

  none_doubtful : (x : GroupSync) (m : Certainty) → Kept m [] → all_doubtful x m [] cs ≡ doubtful_from (block + 1) (is_sure m) (outcomes x (decodings cs)) (lefts cs)
  none_doubtful x m h =
      (ih x m [] h).doubtful_are ∙ none_open (confirmed (due_of x.place) (outcomes x (decodings cs))) (doubtful_from (block + 1) (is_sure m) (outcomes x (decodings cs)) (lefts cs))

  passed_step : (o : Outcome) (x : GroupSync) → NotGiven o → Step (record { outcome = o; sync = x })
  passed_step Filling x h = absurd h
  passed_step (Delivered p) x h = absurd h
  passed_step Lost x h = record { given_are = none_given x (Unsure 0) tt; doubtful_are = ap (λ (l : Packets). held ++ l) (none_doubtful x (Unsure 0) tt) }
  passed_step Waiting x h = record { given_are = none_given x (Unsure 0) tt; doubtful_are = ap (λ (l : Packets). held ++ l) (none_doubtful x (Unsure 0) tt) }
  passed_step OutOfStep x h = record { given_are = none_given x (Unsure 0) tt; doubtful_are = ap (λ (l : Packets). held ++ l) (none_doubtful x (Unsure 0) tt) }

  start_step : Step (step (Delivered 0) (Some 1) 0)
  start_step =
      let x : GroupSync = record { place = Some 1; missed = 0 } in
      let own = packet_of (Delivered 0) left in
      record {
        given_are =
            ap₂ (λ (t : Bool) (l : Packets). (pick t held [] ++ own) ++ l) (due_is place) (none_given x Sure refl)
            ∙ append_assoc (pick (eqb (due_of place) 0) held []) own (unlisted_from (block + 1) true (outcomes x (decodings cs)) (lefts cs));
        doubtful_are = ap₂ (λ (t : Bool) (l : Packets). pick t [] held ++ l) (due_is place) (none_doubtful x Sure refl);
      }

  follow_step : (p : ℕ) → 0 < p → Step (step (Delivered p) (Some (later_place p)) 0)
  follow_step p h = by k held kept
    where
      x : GroupSync
      x = record { place = Some (later_place p); missed = 0 }

      own : Packets
      own = packet_of (Delivered p) left

      os : List Outcome
      os = outcomes (record { place = Some (later_place p); missed = 0 }) (decodings cs)

      later : eqb p 0 ≡ false
      later = ne_eqb p 0 (λ z. omega arith)

      by : (m : Certainty) (w : Packets) → Kept m w
          → Means place m w block (Delivered p ∷ os) (left ∷ lefts cs)
          (step_given place m w (step (Delivered p) (Some (later_place p)) 0) own ++ all_given x (step_certainty m (step (Delivered p) (Some (later_place p)) 0)) (step_held m w (step (Delivered p) (Some (later_place p)) 0) own) cs)
          (step_told place m w (step (Delivered p) (Some (later_place p)) 0) ++ all_doubtful x (step_certainty m (step (Delivered p) (Some (later_place p)) 0)) (step_held m w (step (Delivered p) (Some (later_place p)) 0) own) cs)
      by Sure w e =
          record {
            given_are =
                simp (not_started p h, later)
                (ap (λ (l : Packets). own ++ l) (none_given x Sure refl) ∙ sure_open (confirmed (later_place p) os) w [] (own ++ unlisted_from (block + 1) true os (lefts cs)) e refl);
            doubtful_are =
                simp (not_started p h, later)
                (none_doubtful x Sure refl ∙ sure_open (confirmed (later_place p) os) [] w (doubtful_from (block + 1) true os (lefts cs)) refl e);
          }
      by (Unsure n) w e =
          record {
            given_are =
                simp (not_started p h, later)
                ((ih x (Unsure (n + 1)) (w ++ own) tt).given_are ∙ given_more (confirmed (later_place p) os) w own (unlisted_from (block + 1) false os (lefts cs)) (line block 0));
            doubtful_are =
                simp (not_started p h, later)
                ((ih x (Unsure (n + 1)) (w ++ own) tt).doubtful_are ∙ doubtful_more (confirmed (later_place p) os) w own (doubtful_from (block + 1) false os (lefts cs)) (line block 0));
          }

  from_step : (d : Option ℕ) (g : GroupStep) → Stepped place d g → Step g
  from_step d g (passed o x h) = passed_step o x h
  from_step d g (starts e) = start_step
  from_step d g (follows p e q h) = follow_step p h

packets_mean : (cs : List Call) (s : GroupSync) (k : Certainty) (held : List (List ℕ)) (block : ℕ) → Kept k held → MeansOf s k held block cs
packets_mean [] s k held block e = record { given_are = refl; doubtful_are = sym (append-nil held) }
packets_mean (c ∷ cs) s k held block e =
    from_step s.place k held block c.left cs e (λ x m h. packets_mean cs x m h (block + 1)) (decoding_of c.decoded (get_or c.left 0 0)) (step_at s c) (stepped s (decoding_of c.decoded (get_or c.left 0 0)))

-- from a state in which none waits
module _ (cs : List Call) (s : GroupSync) (block : ℕ) where
  pub given_mean : all_given s (Unsure 0) [] cs ≡ unlisted_from block false (outcomes s (decodings cs)) (lefts cs)
  given_mean =
      (packets_mean cs s (Unsure 0) [] block tt).given_are
      ∙ none_open (confirmed (due_of s.place) (outcomes s (decodings cs))) (unlisted_from block false (outcomes s (decodings cs)) (lefts cs))

  pub doubtful_mean : all_doubtful s (Unsure 0) [] cs ≡ doubtful_from block false (outcomes s (decodings cs)) (lefts cs)
  doubtful_mean =
      (packets_mean cs s (Unsure 0) [] block tt).doubtful_are
      ∙ none_open (confirmed (due_of s.place) (outcomes s (decodings cs))) (doubtful_from block false (outcomes s (decodings cs)) (lefts cs))

-- ---- both are all

merged_front : {a b c : Packets} (t : Bool) (o : Outcome) (left : List ℕ) → Merged a b c → Merged (pick t (packet_of o left) [] ++ a) (pick t [] (packet_of o left) ++ b) (packet_of o left ++ c)
merged_front true Filling left m = m
merged_front true (Delivered p) left m = first _ m
merged_front true Lost left m = m
merged_front true Waiting left m = m
merged_front true OutOfStep left m = m
merged_front false Filling left m = m
merged_front false (Delivered p) left m = second _ m
merged_front false Lost left m = m
merged_front false Waiting left m = m
merged_front false OutOfStep left m = m

pub all_merged : (block : ℕ) (sure : Bool) (os : List Outcome) (ls : List (List ℕ)) → Merged (unlisted_from block sure os ls) (doubtful_from block sure os ls) (delivered_packets os ls)
all_merged block sure [] ls = none
all_merged block sure (o ∷ os) [] = none
all_merged block sure (o ∷ os) (l ∷ ls) = merged_front (is_none (line_of block sure o os)) o l (all_merged (block + 1) (sure_after sure o) os ls)
