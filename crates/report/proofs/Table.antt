-- What holds of each row of the table: no key is longer than ten bytes, and no limit takes more than forty bits.
-- Assumes nothing.
use mathlib.Core.Path.{sym, subst}
use mathlib.Core.Logic.{⊎_elim}
use Prim.Native.Nat.{ℕ, zero, suc, ◌≤◌, ◌<◌}
use native.Mathlib.Nat.{le_of_suc-le-suc, not-suc-le-zero, eq-or-lt_of_le}
use lib.Dec.{lit≤, lit<}
use lib.ListN.{length}
use Rattle.report.specs.Text.{row}

pub record RowIs (n : ℕ) : Type 0 where
  pub short : length (row n).key ≤ 10
  pub small : (row n).limit < 1099511627776

abbrev upto : (ℕ → Type 0) → ℕ → Type 0
upto P zero = Unit {0}
upto P (suc n) = P n × upto P n

upto_at : (P : ℕ → Type 0) (n : ℕ) → upto P n → (k : ℕ) → k < n → P k
upto_at P zero t k h = absurd (not-suc-le-zero h)
upto_at P (suc n) t k h = ⊎_elim (λ e. subst P (sym e) t.0) (λ l. upto_at P n t.1 k l) (eq-or-lt_of_le (le_of_suc-le-suc h))

all : upto RowIs 10
unfolding row
all = (record { short = lit≤ tt; small = lit< tt }, (record { short = lit≤ tt; small = lit< tt }, (record { short = lit≤ tt; small = lit< tt }, (record { short = lit≤ tt; small = lit< tt }, (record { short = lit≤ tt; small = lit< tt }, (record { short = lit≤ tt; small = lit< tt }, (record { short = lit≤ tt; small = lit< tt }, (record { short = lit≤ tt; small = lit< tt }, (record { short = lit≤ tt; small = lit< tt }, (record { short = lit≤ tt; small = lit< tt }, tt))))))))))

pub table : (n : ℕ) → n < 10 → RowIs n
table n h = upto_at RowIs 10 all n h
