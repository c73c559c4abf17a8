-- Group synchronization over a stream of blocks: what each comes to, and what a sender's blocks are.
-- Clauses: document 01, "Receiver"; document 02, P4.
-- Assumes nothing.
use Rattle.std.specs.Prelude.{List, [], ◌∷◌, ℕ, zero, suc, ◌+◌, ◌-◌, ◌%◌, Option, Some}
use Rattle.group_sync.specs.Group.{due_byte, group_step}
use Rattle.group_sync.specs.declared.Outcome.{Outcome}
use Rattle.group_sync.specs.declared.Outcome.TheVariants.{Delivered}
use Rattle.group_sync.specs.declared.GroupSync.{GroupSync}

-- what blocks come to, one after another
abbrev pub outcomes : GroupSync → List (Option ℕ) → List Outcome
outcomes s [] = []
outcomes s (r ∷ rs) = (group_step s r).outcome ∷ outcomes (group_step s r).sync rs

-- k blocks of a sender from its block n on, each a codeword with the sync byte of its place in the group
abbrev pub sent_from : ℕ → ℕ → List (Option ℕ)
sent_from n zero = []
sent_from n (suc k) = Some (due_byte (n % 8)) ∷ sent_from (n + 1) k

-- each of them delivered at its place
abbrev pub delivered_from : ℕ → ℕ → List Outcome
delivered_from n zero = []
delivered_from n (suc k) = Delivered (n % 8) ∷ delivered_from (n + 1) k

-- how many blocks from block m of a sender on are before the first start of a group
abbrev pub before_group : ℕ → ℕ
before_group m = (8 - m % 8) % 8
