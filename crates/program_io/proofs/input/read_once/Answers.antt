-- `program_io::input::read_once` meets its contract.
-- Assumes nothing.
use Rattle.std.proofs.Common.{◌≡◌, ℕ, ◌-◌, ◌≤◌, List, length, take, drop, ℤ, sym, ap, ◌∙◌, subst, arith, length-drop, length-take-le, w64, to_z, of_z, rules}
use borrow.Rule.Slice.PartMut.{put_mid, take_put, same_len_mid, mid_len}
use Rattle.io.specs.Counts.{clamp_len}
use Rattle.program_io.specs.Moving.{Moved}
use Rattle.program_io.proofs.input.read_once.Goals as goal

-- the part that is counted
counted : (from end : ℕ) (buffer part : List ℕ) → from ≤ end → end ≤ length buffer → length part ≡ end - from
    → length (take (end - from) (drop from (put_mid from (end - from) buffer part))) ≡ end - from
counted from end buffer part h k e =
    length-take-le (end - from) (drop from (put_mid from (end - from) buffer part))
    (omega (arith, length-drop from (put_mid from (end - from) buffer part), same_len_mid from (end - from) buffer part (e ∙ sym (mid_len from end buffer k)), k))

pub returns : goal.returns
returns c =
    let lent : length (take (c.args.end - c.args.from) (drop c.args.from c.args.buffer.now)) ≡ c.args.end - c.args.from = length-take-le (c.args.end - c.args.from) (drop c.args.from c.args.buffer.now) (omega (arith, length-drop c.args.from c.args.buffer.now)) in
    let answer : let z = c.read-got.result in to_z w64 (of_z w64 z) ≡ z = search rules in
    let r = c.read-got in
    record {
      moved =
          subst (λ (z : ℤ). Moved (c.args.end - c.args.from) z) (sym (answer))
          (subst (λ (n : ℕ). Moved n r.result) (lent) r.ensures);
      length_is = c.count-length.ensures.value ∙ ap (clamp_len (to_z w64 (of_z w64 r.result))) (counted c.args.from c.args.end c.args.buffer.now r.new.buffer (omega arith) (omega arith) (r.auto.buffer ∙ lent));
      front = take_put c.args.from (c.args.end - c.args.from) c.args.buffer.now r.new.buffer (omega arith);
    }
