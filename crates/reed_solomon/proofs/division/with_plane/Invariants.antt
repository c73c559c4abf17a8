-- `reed_solomon::division::with_plane` meets its contract: after m turns the first m factors are in the sum.
-- Assumes nothing.
use mathlib.Core.Path.{◌≡◌}
use lib.ListN.{take}
use Rattle.galois.proofs.Instance.{bytes, byte}
use Rattle.reed_solomon.specs.Steps.{bit_of, back_sum}
use Rattle.reed_solomon.proofs.division.with_plane.Given as goal

abbrev pub invariant-loop-m : goal.invariant-loop-m
invariant-loop-m l = byte l.r ≡ bytes.add (byte l.v) (back_sum (bit_of l.i) (take l.m l.factors) l.list l.at)
