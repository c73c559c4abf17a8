-- Reading a season piece after piece: what a turn of the loop leaves, and what is answered at the end.
-- Assumes nothing.
use mathlib.Core.Path.{◌≡◌, refl, sym, ap, subst, ◌∙◌}
use mathlib.Core.Bool.{Bool, true, false}
use mathlib.Core.List.{List, [], ◌++◌, append-nil}
use mathlib.Core.Logic.{◌⊎◌, inl, inr}
use Prim.Native.Nat.{ℕ, ◌+◌, ◌≤◌, ◌<◌}
use native.Mathlib.Omega.{arith}
use lib.IntN.{ℤ, pos}
use lib.ListN.{length, take, length-append}
use lib.Seq.{length-take-le}
use Rattle.common.specs.Choice.{pick}
use Rattle.std.specs.Prelude.{Result, is_ok}
use Rattle.answer.specs.Number.{answered, given_or}
use Rattle.answer.specs.declared.Refusal.{Refusal}
use Rattle.season_totals.specs.Totals.{zero_totals}
use Rattle.season_totals.specs.Season.{Seasons, season_text}
use Rattle.season_totals.specs.Progress.{CameTo, SeasonCame, fresh_season, FeedsSeason, Finishes}
use Rattle.season_totals.specs.declared.Season.{Season}
use Rattle.season_totals.proofs.Decided.{season_exactly}
use Rattle.season_totals.proofs.Histories.{fresh_came, came_ended, came_refused, came_some, going_short}
use Rattle.program_io.specs.Checksum.{no_bytes, traced}
use Rattle.program_io.specs.Files.{input_origin, origin_file, input_trace, input_ended, input_failed, input_over, output_file, output_failed, StandardInput, FreshOutput, Reads, Writes, Closes}
use Rattle.program_io.specs.declared.trace.Trace.{Trace}
use Rattle.program_io.specs.declared.input.Input.{Input}
use Rattle.program_io.specs.declared.input.Filled.{Filled}
use Rattle.program_io.specs.declared.output.Output.{Output}
use Rattle.program_io.proofs.Traces.{traced_more}
use Rattle.season.specs.Ends.{Comes, Printed, input_failed_lem, output_failed_lem, whole, refused, part, Ends}

-- before a turn: a season that goes on has fewer bytes than 4,096 of the longest reports and a full buffer
pub record Going (input : Input) (s : Season) (came : ℕ) : Type 0 where
  pub input_is : origin_file (input_origin input) ≡ pos 0
  pub bytes : List ℕ
  pub read : input_trace input ≡ traced no_bytes bytes
  pub is : CameTo bytes s
  pub counted : length bytes ≡ came
  pub few : came < 1270080

pub going_none : {input : Input} {s : Season} → StandardInput input → s ≡ fresh_season → Going input s 0
going_none i e = record {
  input_is = i.file;
  bytes = [];
  read = i.trace;
  is = subst (CameTo []) (sym e) fresh_came;
  counted = refl;
  few = omega arith;
}

module _ {input : Input} {s : Season} {came : ℕ} (g : Going input s came) where
  pub some_came : SeasonCame s
  some_came = record { bytes = g.bytes; is = g.is }

  module _ {most : ℕ} {buffer : List ℕ} {f : Filled} (h : Reads input most buffer f) where
    -- no byte came
    pub comes_over : f.length ≡ 0 → 0 < most → Comes (record { input = f.input; season = s })
    comes_over z l = record {
      input_is = ap origin_file h.origin ∙ g.input_is;
      bytes = g.bytes;
      read = h.trace ∙ ap (λ (n : ℕ). traced (input_trace input) (take n buffer)) z ∙ g.read;
      is = g.is;
      all = inl (h.none z l);
    }

    module _ (fits : most ≤ length buffer) {next : Season} (p : FeedsSeason s (take f.length buffer) next) where
      piece_length : length (take f.length buffer) ≡ f.length
      piece_length = length-take-le f.length buffer (omega (arith, h.within))

      read_on : input_trace f.input ≡ traced no_bytes (g.bytes ++ take f.length buffer)
      read_on =
          h.trace ∙ ap (λ (t : Trace). traced t (take f.length buffer)) g.read ∙ sym (traced_more no_bytes g.bytes (take f.length buffer))

      pub going_more : is_ok next.answer ≡ true → Going f.input next (came + f.length)
      going_more e =
          let k = p.fed g.bytes g.is in
          let l = length-append g.bytes (take f.length buffer) in
          record {
            input_is = ap origin_file h.origin ∙ g.input_is;
            bytes = g.bytes ++ take f.length buffer;
            read = read_on;
            is = k;
            counted = omega (arith, l, piece_length, g.counted);
            few = omega (arith, l, piece_length, g.counted, going_short k e);
          }

      pub comes_refused : is_ok next.answer ≡ false → Comes (record { input = f.input; season = next })
      comes_refused z = record {
        input_is = ap origin_file h.origin ∙ g.input_is;
        bytes = g.bytes ++ take f.length buffer;
        read = read_on;
        is = p.fed g.bytes g.is;
        all = inr z;
      }

-- ---- the end

module _ {input : Input} {s : Season} (c : Comes (record { input = input; season = s })) where
  pub comes_some : SeasonCame s
  comes_some = record { bytes = c.bytes; is = c.is }

  module _ {o : Output} (f : FreshOutput (pos 1) o) where
    pub ends_input : input_failed input ≡ true → Ends (record { status = pos 1; input = input; output = o })
    ends_input e = record { input_is = c.input_is; output_is = f.file; status = part refl (input_failed_lem e f.trace) }

    module _ {text : List ℕ} {w k : Output} (p : Writes o text w) (q : Closes w k) where
      file : output_file k ≡ pos 1
      file = q.file ∙ p.file ∙ f.file

      pub ends_output : output_failed k ≡ true → Ends (record { status = pos 1; input = input; output = k })
      ends_output e = record { input_is = c.input_is; output_is = file; status = part refl (output_failed_lem e) }

      module _ {r : Result (List ℕ) Refusal} (z : Finishes s r) (u : input_failed input ≡ false) (v : output_failed k ≡ false)
          (t : text ≡ season_text (answered r) (given_or zero_totals (λ t. t) r)) where
        over_ended : input_over input ≡ true → input_ended input ≡ true
        over_ended a = ap (λ (b : Bool). pick b false (input_over input)) u ∙ a

        -- where the season was refused before the end, whatever follows
        season : (more : List ℕ) → (input_ended input ≡ true → more ≡ []) → Seasons (c.bytes ++ more) (answered r) (given_or zero_totals (λ t. t) r)
        season more e = by c.all
          where
            by : (input_over input ≡ true) ⊎ (is_ok s.answer ≡ false) → Seasons (c.bytes ++ more) (answered r) (given_or zero_totals (λ t. t) r)
            by (inl a) =
                let n : more ≡ [] = e (over_ended a) in
                subst (λ (l : List ℕ). Seasons l (answered r) (given_or zero_totals (λ t. t) r)) (sym (ap (λ (l : List ℕ). c.bytes ++ l) n ∙ append-nil c.bytes))
                (z.season c.bytes c.is)
            by (inr a) = z.season (c.bytes ++ more) (came_ended c.is a more)

        printed : (status : ℤ) → Printed (answered r) (record { status = status; input = input; output = k })
        printed status = record {
          bytes = c.bytes;
          read = c.read;
          unfailed = u;
          totals = given_or zero_totals (λ t. t) r;
          season = season;
          written = q.trace ∙ p.whole (q.started v) ∙ ap (λ (x : Trace). traced x text) f.trace ∙ ap (traced no_bytes) t;
          written_whole = v;
          closed = q.closed v;
        }

        pub ends_refused : (answered r ≡ 0 → ⊥) → Ends (record { status = pos 1; input = input; output = k })
        ends_refused n = record { input_is = c.input_is; output_is = file; status = refused (answered r) refl n (printed (pos 1)) }

        -- a season that is refused before its end stays refused, so this one was read to its end
        pub ends_whole : answered r ≡ 0 → Ends (record { status = pos 0; input = input; output = k })
        ends_whole n = record {
          input_is = c.input_is;
          output_is = file;
          status = whole refl (ended c.all) (subst (λ (m : ℕ). Printed m (record { status = pos 0; input = input; output = k })) n (printed (pos 0)));
        }
          where
            ended : (input_over input ≡ true) ⊎ (is_ok s.answer ≡ false) → input_ended input ≡ true
            ended (inl a) = over_ended a
            ended (inr a) =
                let d = (season_exactly c.bytes (answered r) (given_or zero_totals (λ t. t) r) (z.season c.bytes c.is)).read n in
                absurd (came_some c.is a ((season_exactly c.bytes (answered s.answer) zero_totals (came_refused c.is a)).written d.0 d.1).0)
