-- `sender::transmit` meets its contract.
-- Assumes nothing.
use mathlib.Core.Path.{refl}
use Prim.Native.Nat.{◌+◌, ◌%◌}
use native.Mathlib.Omega.{arith}
use lib.ListN.{replicate}
use Rattle.answer.proofs.Positive.{number_positive}
use Rattle.puncturing.specs.Mode.{mode_of}
use Rattle.sender.specs.Send.{sender_after}
use Rattle.sender.proofs.Stages.{in_range_lem, randomizing, coding, interleaving, modulating}
use Rattle.sender.proofs.transmit.Goals as goal

pub overflow_add-result : goal.overflow_add-result
overflow_add-result c =
    omega (arith, (in_range_lem mode_of c.args.sender c.requires.0).place)

-- no stage refuses
pub returns-in_err-encoded : goal.returns-in_err-encoded
returns-in_err-encoded c =
    let s = c.args.sender in
    let packet = c.args.packet.now in
    let g = in_range_lem mode_of s c.requires.0 in
    let m = randomizing s packet g c.requires.2 (replicate 188 0) c.randomize.new.output refl c.requires.3 c.randomize.ensures.1 in
    let k = coding s packet g c.requires.2 (replicate 204 0) c.encode.new.output _ refl m c.encode.ensures.1 in
    let i = c.in_ok-interleaver.ensures in
    let b = interleaving s packet g c.requires.2 (replicate 204 0) c.interleave.new.output _ _ refl k i.1 i.2 in
    let t = c.in_err-encoded.ensures in
    let w = modulating s packet g c.requires.2 c.requires.1 c.args.output.now _ _ _ _ _ c.requires.4 b.1 t.0 t.2 t.1 t.3 in
    absurd (omega (arith, w.0, number_positive c.in_err-encoded.field-0.0))

pub returns : goal.returns
unfolding sender_after
returns c =
    let s = c.args.sender in
    let packet = c.args.packet.now in
    let g = in_range_lem mode_of s c.requires.0 in
    let m = randomizing s packet g c.requires.2 (replicate 188 0) c.randomize.new.output refl c.requires.3 c.randomize.ensures.1 in
    let k = coding s packet g c.requires.2 (replicate 204 0) c.encode.new.output _ refl m c.encode.ensures.1 in
    let i = c.in_ok-interleaver.ensures in
    let b = interleaving s packet g c.requires.2 (replicate 204 0) c.interleave.new.output _ _ refl k i.1 i.2 in
    let t = c.in_ok-encoded.ensures in
    let w = modulating s packet g c.requires.2 c.requires.1 c.args.output.now _ _ _ _ _ c.requires.4 b.1 t.0 t.2 t.1 t.3 in
    (refl, refl, w.1, (λ j. record { place = (s.place + 1) % 8; interleaver = record { branches = b.0 j }; coder = w.2 j }), w.3)
