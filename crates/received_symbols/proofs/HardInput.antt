-- The symbols at the front of some bytes, and their pairs.
-- Assumes nothing.
use mathlib.Core.Path.{◌≡◌, refl, sym, ap, ◌∙◌}
use mathlib.Core.List.{List, [], ◌∷◌}
use Prim.Native.Nat.{ℕ, suc, ◌+◌, ◌%◌, ◌≤◌, ◌<◌}
use native.Mathlib.Omega.{arith}
use borrow.Author.Tests.{ltb-true, ltb-false}
use lib.Dec.{ltb}
use lib.ListN.{length, take}
use lib.Seq.{length-take-le}
use mathlib.Core.Bool.{Bool, true, false, cond}
use Rattle.std.specs.List.{prefix_len, take_while}
use Rattle.common.specs.Lists.{All, rest_of}
use Rattle.common.proofs.Chunks.{length_rest}
use Rattle.reader.specs.Cost.{differing, Costed}
use Rattle.reader.proofs.Decisions.{Written, written_costed, written_small}
use Rattle.reader_stream.specs.Stream.{FeedsReader}
use Rattle.reader_stream.specs.declared.ReaderStream.{ReaderStream}
use Rattle.received_symbols.specs.Pass.{Held, SymbolsAtFront, TakesBytes}
use Rattle.received_symbols.specs.declared.SymbolPass.{SymbolPass}

-- ---- up to the first byte that is none

-- so many of them from the front on are symbols
front : (bytes : List ℕ) → SymbolsAtFront bytes (prefix_len (λ x. ltb x 4) bytes)
front [] = record { most = omega arith; symbols = tt; ends = λ h. absurd (omega arith) }
front (x ∷ bytes) = by (ltb x 4) refl (front bytes)
  where
    by : (b : Bool) → ltb x 4 ≡ b → SymbolsAtFront bytes (prefix_len (λ x. ltb x 4) bytes) → SymbolsAtFront (x ∷ bytes) (cond b (1 + prefix_len (λ x. ltb x 4) bytes) 0)
    by true e f =
        let n : 1 + prefix_len (λ x. ltb x 4) bytes ≡ suc (prefix_len (λ x. ltb x 4) bytes) = omega arith in
        rw n (record { most = omega (arith, f.most); symbols = (ltb-true x 4 e, f.symbols); ends = λ h. f.ends (omega arith) })
    by false e f = record { most = omega arith; symbols = tt; ends = λ h. ltb-false x 4 e }

pub symbols_front : (bytes : List ℕ) {n : ℕ} → n ≡ length (take_while (λ x. ltb x 4) bytes) → SymbolsAtFront bytes n
symbols_front bytes e = let f = front bytes in rw (e, length-take-le (prefix_len (λ x. ltb x 4) bytes) bytes f.most) f

-- ---- their pairs

module _ (symbols pairs : List ℕ) (valid : All (λ s. s < 4) symbols) (w : Written symbols pairs) (n : ℕ) (size : length symbols ≡ n) (long : n ≤ length pairs) where
  pub pairs_length : length (take n pairs) ≡ n
  pairs_length = length-take-le n pairs long

  pub pairs_small : All (λ p. p < 81) (take n pairs)
  pairs_small = written_small symbols pairs valid w (rw size long) n (sym size)

  pub pairs_costed : Costed differing symbols (take n pairs)
  pairs_costed = written_costed symbols pairs valid w (rw size long) n (sym size)

-- ---- no byte is left

mod_one : (n : ℕ) → n % 1 ≡ 0
mod_one n = omega arith

nothing : (l : List ℕ) → length l ≡ 0 → l ≡ []
nothing [] e = refl
nothing (x ∷ l) e = absurd (omega arith)

pub no_rest : (bytes : List ℕ) → rest_of 1 bytes ≡ []
no_rest bytes = nothing (rest_of 1 bytes) (length_rest 1 bytes ∙ mod_one (length bytes))

none_held : (bytes : List ℕ) {p : SymbolPass} → length p.tail ≡ 8 → p.held ≡ 0 → Held false p bytes
none_held bytes {p} size e = record {
  size = size;
  count = e ∙ sym (mod_one (length bytes));
  bytes_are = ap (λ (k : ℕ). take k p.tail) e ∙ sym (no_rest bytes);
}

-- ---- what is taken

pub symbols_taken : (s : ReaderStream) (bytes output : List ℕ) (next : SymbolPass) (taken count : ℕ) {pairs exit : List ℕ} → SymbolsAtFront bytes taken
    → Costed differing (take taken bytes) pairs → FeedsReader s pairs output next.stream count exit → length next.tail ≡ 8 → next.held ≡ 0
    → TakesBytes false s bytes output (record { pass = next; taken = taken; stopped = ltb taken (length bytes); count = count }) exit
symbols_taken s bytes output next taken count {pairs} g c f size e = record {
  most = g.most;
  takes = record { valid = g.symbols; pairs = pairs; costed = c; fed = f; holds = none_held (take taken bytes) size e };
  all = λ h. omega (arith, ltb-false taken (length bytes) h, g.most);
  stops = λ h. (refl, ltb-true taken (length bytes) h, g.ends (ltb-true taken (length bytes) h));
}
