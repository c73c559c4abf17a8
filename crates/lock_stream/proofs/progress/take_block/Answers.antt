-- `lock_stream::progress::take_block` meets its contract.
-- Assumes nothing.
use mathlib.Core.Path.{◌≡◌, refl, ◌∙◌}
use mathlib.Core.List.{List}
use Prim.Native.Nat.{ℕ, ◌+◌, ◌*◌, ◌≤◌}
use native.Mathlib.Omega.{arith}
use lib.ListN.{length, take, replicate, length-replicate}
use Rattle.lock_receiver.specs.Take.{TakesOne}
use Rattle.report_lines.proofs.Lines.{restated}
use Rattle.lock_stream.specs.Progress.{Takes}
use Rattle.lock_stream.proofs.Taking.{Sized, range_on, taken_one, never_refused, given_few, lines_few}
use borrow.Author.Rules.{rules}
use Rattle.lock_stream.proofs.progress.take_block.Goals as goal

pub put_list-end-requires : goal.put_list-end-requires
put_list-end-requires c =
    let one : let a = c.args in
    TakesOne a.receiver a.block a.packets.now (replicate 8 0) c.in-Ok.step c.take.new.output c.take.new.lines = let n : length c.args.block ≡ 204 = search rules in
    taken_one c.requires.0 n c.requires.2 (omega (arith, length-replicate {A = ℕ} 8 0)) c.requires.1 c.in-Ok.ensures in
    let few : c.in-Ok.step.told ≤ 8 = let l : length c.take.new.lines ≡ 8 = search rules in
    omega (arith, lines_few (one).tells (l ∙ search rules)) in
    let l : length c.take.new.lines ≡ 8 = search rules in
    (omega (arith, few, l), omega (arith, few, c.requires.3))

pub overflow_mul-result : goal.overflow_mul-result
overflow_mul-result c =
    let one : let a = c.args in
    TakesOne a.receiver a.block a.packets.now (replicate 8 0) c.in-Ok.step c.take.new.output c.take.new.lines = let n : length c.args.block ≡ 204 = search rules in
    taken_one c.requires.0 n c.requires.2 (omega (arith, length-replicate {A = ℕ} 8 0)) c.requires.1 c.in-Ok.ensures in
    omega (arith, given_few c.requires.0 (one))

pub returns : goal.returns
returns c =
    let sized : Sized c.args.receiver = record { cells = search rules; positions = search rules; marks = search rules } in
    let one : let a = c.args in
    TakesOne a.receiver a.block a.packets.now (replicate 8 0) c.in-Ok.step c.take.new.output c.take.new.lines = let n : length c.args.block ≡ 204 = search rules in
    taken_one c.requires.0 n c.requires.2 (omega (arith, length-replicate {A = ℕ} 8 0)) c.requires.1 c.in-Ok.ensures in
    let few : c.in-Ok.step.told ≤ 8 = let l : length c.take.new.lines ≡ 8 = search rules in
    omega (arith, lines_few (one).tells (l ∙ search rules)) in
    let t = c.take in
    let o = one in
    let p = c.put_list-end.ensures in
    let lines : List ℕ = take c.in-Ok.step.told t.new.lines in
    let taken-block : Takes c.args.receiver c.args.block (take (188 * c.in-Ok.step.given) t.new.output) lines c.in-Ok.step.lock
    = record {
      packets_room = c.args.packets.now;
      lines_room = replicate 8 0;
      packets_exit = t.new.output;
      lines_exit = t.new.lines;
      step = c.in-Ok.step;
      takes = o;
      given_is = refl;
      lines_are = refl;
      next_is = refl;
    } in
    record {
      lines = lines;
      takes = taken-block;
      fits = omega (arith, given_few c.requires.0 o);
      ready = range_on (sized) c.requires.0 taken-block;
      told = restated (c.args.at + 512) p refl (omega (arith, p.bound, few));
    }

pub returns-in_default : goal.returns-in_default
returns-in_default c =
    let n : length c.args.block ≡ 204 = search rules in
    absurd (never_refused c.requires.0 n c.requires.2 (omega (arith, length-replicate {A = ℕ} 8 0)) c.requires.1 c.in_default.ensures)
