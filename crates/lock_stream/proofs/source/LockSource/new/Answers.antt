-- `lock_stream::source::LockSource::new` meets its contract.
-- Assumes nothing.
use mathlib.Core.Path.{◌≡◌, sym, ap, subst}
use Rattle.acquisition.specs.Step.{AcquisitionReady}
use Rattle.acquisition.specs.declared.Acquisition.{Acquisition}
use Rattle.lock_stream.specs.Source.{fresh_source, SourceReady}
use Rattle.lock_stream.proofs.Sources.{fresh_ready}
use Rattle.lock_stream.proofs.source.LockSource.new.Goals as goal

pub returns : goal.returns
unfolding fresh_source
returns c =
    let a = c.args in
    let r = c.new-symbols.ensures in
    let e : record { bits = a.bits; symbols = c.new-symbols.result } ≡ fresh_source a.bits a.rate = ap (λ (x : Acquisition). record { bits = a.bits; symbols = x }) r.0 in
    (e, subst SourceReady (sym e) (fresh_ready a.bits a.rate (subst AcquisitionReady r.0 r.1)))
