-- `report_lines::put_field` meets its contract.
-- Assumes nothing.
use mathlib.Core.Path.{◌∙◌}
use mathlib.Core.List.{◌++◌}
use Prim.Native.Nat.{◌+◌, ◌<◌}
use native.Mathlib.Omega.{arith}
use lib.ListN.{length, length-set}
use Rattle.report_lines.specs.Line.{Appended, decimal, field_text}
use Rattle.report_lines.proofs.Lines.{put_appended, byte_appended, joined_appended}
use Rattle.report_lines.proofs.put_field.Goals as goal

pub shape_of-output : goal.shape_of-output
shape_of-output c =
    let numbered : let a = c.args in
    Appended (a.key.now ++ decimal a.value) a.output.now c.put_decimal-last.new.output a.at c.put_decimal-last.result
    (a.at + length a.key.now + 20) = let a = c.args in
    let p = c.put in
    joined_appended a.key.now (decimal a.value) a.output.now p.new.output c.put_decimal-last.new.output a.at
    (a.at + length a.key.now) c.put_decimal-last.result (a.at + length a.key.now) (a.at + length a.key.now + 20)
    (rw p.ensures (put_appended a.output.now a.key.now a.at (a.at + length a.key.now) (omega arith) (omega arith))) c.put_decimal-last.ensures in
    length-set c.put_decimal-last.new.output c.put_decimal-last.result c.args.end ∙ (numbered).same

pub returns : goal.returns
unfolding field_text
returns c =
    let numbered : let a = c.args in
    Appended (a.key.now ++ decimal a.value) a.output.now c.put_decimal-last.new.output a.at c.put_decimal-last.result
    (a.at + length a.key.now + 20) = let a = c.args in
    let p = c.put in
    joined_appended a.key.now (decimal a.value) a.output.now p.new.output c.put_decimal-last.new.output a.at
    (a.at + length a.key.now) c.put_decimal-last.result (a.at + length a.key.now) (a.at + length a.key.now + 20)
    (rw p.ensures (put_appended a.output.now a.key.now a.at (a.at + length a.key.now) (omega arith) (omega arith))) c.put_decimal-last.ensures in
    let a = c.args in
    let k = numbered in
    let h : c.put_decimal-last.result < length a.output.now = omega (arith, k.bound, c.requires) in
    byte_appended (a.key.now ++ decimal a.value) a.output.now c.put_decimal-last.new.output a.at
    c.put_decimal-last.result (a.at + length a.key.now + 20) (a.at + length a.key.now + 21) a.end k h (omega arith)
