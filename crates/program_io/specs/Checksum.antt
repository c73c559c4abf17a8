-- What a file's bytes leave in the value that stands for it. No contract can say which bytes a read brings or a write takes; the value carries a
-- checksum of them, in their order, so that a contract can say of which bytes it is. It is a number and no identity: nothing uses it but the proofs.
-- Assumes nothing.
use Rattle.std.specs.Prelude.{ℕ, ◌+◌, ◌*◌, ◌%◌, ◌^◌, List, [], ◌∷◌}
use Rattle.program_io.specs.declared.trace.Trace.{Trace}

-- before the first byte
abbrev pub no_bytes : Trace
no_bytes = record { count = 0; weight = 1; sum = 0 }

-- The bytes are counted, and each is added times its weight. The weights are odd, so that another byte at a place gives another sum, and each is 2
-- more than the one before it, so that two bytes that change places do.
unfoldable pub stepped : Trace → ℕ → Trace
stepped t b = record {
  count = (t.count + 1) % 2 ^ 64;
  weight = (t.weight + 2) % 2 ^ 16;
  sum = (t.sum + t.weight * b % 65536) % 2 ^ 16;
}

abbrev pub traced : Trace → List ℕ → Trace
traced t [] = t
traced t (b ∷ bs) = traced (stepped t b) bs
