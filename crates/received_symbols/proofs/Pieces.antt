-- What all bytes come to, piece after piece, by hard and by soft decisions.
-- Assumes nothing.
use mathlib.Core.Path.{◌≡◌, refl, sym, ap, subst, ◌∙◌}
use mathlib.Core.Bool.{Bool, true, false}
use mathlib.Core.List.{List, [], ◌++◌, map, map-append}
use Prim.{tt}
use Prim.Native.Nat.{ℕ, ◌+◌, ◌*◌, ◌/◌, ◌%◌, ◌≤◌, ◌<◌}
use native.Mathlib.Omega.{arith}
use lib.ListN.{length, take}
use Rattle.common.specs.Lists.{All, chunks, chunks_of, rest_of}
use Rattle.common.proofs.Chunks.{length_rest, rest_few, cut}
use Rattle.common.proofs.Lists.{All-append}
use Rattle.reader.specs.Cost.{Costed}
use Rattle.reader_stream.specs.Stream.{ReaderReady, FreshReader}
use Rattle.reader_stream.specs.History.{none, feeding}
use Rattle.reader_stream.proofs.Costs.{costed_append}
use Rattle.reader_stream.proofs.Histories.{every_history}
use Rattle.received_symbols.specs.Received.{point_of, Symbol, cost_of, width, symbols_in, Valid}
use Rattle.received_symbols.specs.Pass.{TakesAll, BytesTaken}
use Rattle.received_symbols.specs.declared.SymbolPass.{SymbolPass}
use Rattle.received_symbols.proofs.HardInput.{no_rest}

-- ---- the room that pairs and bytes take

module _ {soft : Bool} where
  pub as_soft : soft ≡ true → (n : ℕ) (l : List ℕ) (a b : ℕ) → n / width soft + a ≤ b * length l → n / 8 + a ≤ b * length l
  as_soft e n l a b = subst (λ (t : Bool). n / width t + a ≤ b * length l) e

  pub as_hard : soft ≡ false → (n : ℕ) (l : List ℕ) (a b : ℕ) → n / width soft + a ≤ b * length l → n + a ≤ b * length l
  as_hard e n l a b h = let g : n / 1 + a ≤ b * length l = subst (λ (t : Bool). n / width t + a ≤ b * length l) e h in let q : n / 1 ≡ n = omega arith in rw (← q) g

-- ---- the symbols of bytes that come in pieces

some_width : (soft : Bool) → 0 < width soft
some_width true = omega arith
some_width false = omega arith

symbols_pieces : (soft : Bool) (a b : List ℕ) → symbols_in soft (a ++ b) ≡ symbols_in soft a ++ symbols_in soft (rest_of (width soft) a ++ b)
symbols_pieces true a b = ap (map point_of) (cut 8 (omega arith) a b).chunks_are ∙ map-append point_of (chunks_of 8 a) (chunks_of 8 (rest_of 8 a ++ b))
symbols_pieces false a b = ap (λ (l : List ℕ). a ++ (l ++ b)) (sym (no_rest a))

valid_pieces : (soft : Bool) (a b : List ℕ) → Valid soft a → Valid soft (rest_of (width soft) a ++ b) → Valid soft (a ++ b)
valid_pieces true a b v w = tt
valid_pieces false a b v w = All-append (λ x. x < 4) a b v (subst (λ (l : List ℕ). All (λ x. x < 4) (l ++ b)) (no_rest a) w)

-- bytes that were taken, and then more of them
pub taken_on : {soft : Bool} {rate : ℕ} {bytes written : List ℕ} {p next : SymbolPass} → BytesTaken soft rate bytes written p → (more : List ℕ) {output exit : List ℕ} {count : ℕ}
    → TakesAll soft p.stream (take p.held p.tail ++ more) output next count exit → BytesTaken soft rate (bytes ++ more) (written ++ take count exit) next
taken_on {soft} {rate} {bytes} {written} {p} {next} b more {output} {exit} {count} t =
    let n = width soft in
    let e : take p.held p.tail ++ more ≡ rest_of n bytes ++ more = ap (λ (l : List ℕ). l ++ more) b.holds.bytes_are in
    let k : TakesAll soft p.stream (rest_of n bytes ++ more) output next count exit = subst (λ (l : List ℕ). TakesAll soft p.stream l output next count exit) e t in
    let q : rest_of n (bytes ++ more) ≡ rest_of n (rest_of n bytes ++ more) = (cut n (some_width soft) bytes more).rest_is in
    record {
      valid = valid_pieces soft bytes more b.valid k.valid;
      pairs = b.pairs ++ k.pairs;
      costed =
          subst (λ (l : List (Symbol soft)). Costed (cost_of soft) l (b.pairs ++ k.pairs)) (sym (symbols_pieces soft bytes more))
          (costed_append (cost_of soft) b.costed k.costed);
      fed = feeding k.pairs output exit count b.fed k.fed;
      holds = record {
        size = k.holds.size;
        count = k.holds.count ∙ (sym (length_rest n (rest_of n bytes ++ more)) ∙ (ap length (sym q) ∙ length_rest n (bytes ++ more)));
        bytes_are = k.holds.bytes_are ∙ sym q;
      };
    }

none_costed : (soft : Bool) → Costed (cost_of soft) (symbols_in soft []) []
unfolding chunks_of chunks
none_costed true = record { size = omega arith; extra = λ i. 0; each = λ i s h four. absurd (omega arith) }
none_costed false = record { size = omega arith; extra = λ i. 0; each = λ i s h four. absurd (omega arith) }

none_valid : (soft : Bool) → Valid soft []
none_valid true = tt
none_valid false = tt

none_mod : (soft : Bool) → 0 % width soft ≡ 0
none_mod true = refl
none_mod false = refl

pub taken_none : (soft : Bool) {rate : ℕ} {p : SymbolPass} → FreshReader rate p.stream → length p.tail ≡ 8 → p.held ≡ 0 → BytesTaken soft rate [] [] p
taken_none soft {p = p} f size e = record {
  valid = none_valid soft;
  pairs = [];
  costed = none_costed soft;
  fed = none f;
  holds = record {
    size = size;
    count = e ∙ sym (none_mod soft);
    bytes_are = ap (λ (k : ℕ). take k p.tail) e ∙ sym (rest_few (width soft) (some_width soft) [] (some_width soft));
  };
}

-- ---- a reader that goes on

pub taken_ready : {soft : Bool} {rate : ℕ} {bytes written : List ℕ} {p : SymbolPass} → BytesTaken soft rate bytes written p → ReaderReady p.stream
taken_ready b = (every_history b.fed).ready

few_left : (soft : Bool) (n : ℕ) → n % width soft < width soft
few_left true n = omega arith
few_left false n = omega arith

pub taken_few : (soft : Bool) {rate : ℕ} {bytes written : List ℕ} {p : SymbolPass} → BytesTaken soft rate bytes written p → p.held < width soft
taken_few soft {bytes = bytes} b = rw b.holds.count (few_left soft (length bytes))

-- where each byte is a symbol, none is held
pub none_left : {soft : Bool} → soft ≡ false → (bytes : List ℕ) → rest_of (width soft) bytes ≡ []
none_left e bytes = subst (λ (b : Bool). rest_of (width b) bytes ≡ []) (sym e) (no_rest bytes)
