-- `lock_stream::tell` meets its contract.
-- Assumes nothing.
use mathlib.Core.Path.{refl, sym, subst}
use native.Mathlib.Omega.{arith}
use Rattle.acquisition.specs.Reading.{RateKnown}
use Rattle.acquisition.specs.declared.Event.{Event}
use Rattle.lock_stream.specs.Progress.{nothing_told, TellsEvent}
use Rattle.lock_stream.proofs.tell.Goals as goal

pub returns-in-Waits : goal.returns-in-Waits
returns-in-Waits c =
    let a = c.args in
    subst (λ (e : Event). TellsEvent a.bits a.progress e (record { progress = a.progress; packets = 0; text = 0 }) a.packets.now a.text.now) (sym c.in-Waits.is)
    (record { tells = nothing_told refl refl refl; packets_fit = omega arith; text_fits = omega arith; ready = c.requires.0 })

pub tell_block-requires : goal.tell_block-requires
tell_block-requires c = (c.requires.0, subst RateKnown c.in-Block.is c.requires.1, c.requires.2, c.requires.3)

pub returns-in-Block : goal.returns-in-Block
returns-in-Block c =
    let a = c.args in
    let t = c.tell_block in
    subst (λ (e : Event). TellsEvent a.bits a.progress e t.result t.new.packets t.new.text) (sym c.in-Block.is) t.ensures

pub returns-in-Lost : goal.returns-in-Lost
returns-in-Lost c =
    let a = c.args in
    let t = c.tell_lost in
    subst (λ (e : Event). TellsEvent a.bits a.progress e t.result a.packets.now t.new.text) (sym c.in-Lost.is) (t.ensures a.packets.now)
