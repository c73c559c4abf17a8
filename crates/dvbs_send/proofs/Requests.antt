-- What the words of a call ask for, case by case.
-- Assumes nothing.
use mathlib.Core.Path.{◌≡◌, refl, sym, ap, ◌∙◌}
use mathlib.Core.Bool.{Bool, true, false, not}
use mathlib.Core.List.{List}
use Prim.Native.Nat.{ℕ}
use borrow.Author.Tests.{eq-eqb, ne_eqb}
use lib.Dec.{eqb}
use Rattle.common.specs.Choice.{pick}
use Rattle.common.proofs.Choice.{flag_false, flag_true}
use Rattle.puncturing.specs.Mode.{mode_of}
use Rattle.inner_code.specs.Encode.{new_number}
use Rattle.program_io.specs.Words.{same_bytes}
use Rattle.rate_words.specs.Words.{mode_named}
use Rattle.dvbs_send.specs.Ends.{flush_word, no_request, request_of}
use Rattle.dvbs_send.specs.declared.SendRequest.{SendRequest}

module _ (count : ℕ) (first second : List ℕ) where
  abbrev one : SendRequest
  one = record { mode = mode_named first; flush = false }

  abbrev two : SendRequest
  two = record { mode = mode_named second; flush = true }

  picked : (a b c : Bool) → eqb count 1 ≡ a → eqb count 2 ≡ b → same_bytes first flush_word ≡ c → pick a one (pick b (pick c two no_request) no_request) ≡ request_of count first second
  picked a b c p q r = simp (p, q, r)

  pub one_word : count ≡ 1 → {mode : ℕ} → mode ≡ mode_named first → record { mode = mode; flush = false } ≡ request_of count first second
  one_word e {mode} m =
      ap (λ (n : ℕ). record { mode = n; flush = false }) m ∙ picked true (eqb count 2) (same_bytes first flush_word) (eq-eqb count 1 e) refl refl

  pub other_count : (count ≡ 1 → ⊥) → (count ≡ 2 → ⊥) → no_request ≡ request_of count first second
  other_count e f = picked false false (same_bytes first flush_word) (ne_eqb count 1 e) (ne_eqb count 2 f) refl

  pub other_word : (count ≡ 1 → ⊥) → count ≡ 2 → false ≡ same_bytes first flush_word → no_request ≡ request_of count first second
  other_word e f w = picked false true false (ne_eqb count 1 e) (eq-eqb count 2 f) (sym w)

  pub two_words : (count ≡ 1 → ⊥) → count ≡ 2 → true ≡ same_bytes first flush_word → {mode : ℕ} → mode ≡ mode_named second
      → record { mode = mode; flush = true } ≡ request_of count first second
  two_words e f w {mode} m = ap (λ (n : ℕ). record { mode = n; flush = true }) m ∙ picked false true true (ne_eqb count 1 e) (eq-eqb count 2 f) (sym w)

-- whether the mode asked for is sent
module _ (mode : ℕ) (b : Bool) (e : b ≡ (mode_of mode).sent) where
  pub not_sent : not b ≡ true → (mode_of mode).sent ≡ false
  not_sent n = sym (flag_false (λ (x : Bool). x ≡ (mode_of mode).sent) b n e)

  pub is_sent_lem : not b ≡ false → (mode_of mode).sent ≡ true
  is_sent_lem n = sym (flag_true (λ (x : Bool). x ≡ (mode_of mode).sent) b n e)

  pub new_sent : not b ≡ false → new_number mode ≡ 0
  new_sent n = ap (λ (x : Bool). pick x 0 6) (is_sent_lem n)
