-- `puncturing::puncture_bits` meets its contract: proofs/Run.antt has what holds as the loop goes.
-- Assumes nothing.
use Rattle.puncturing.proofs.Run.{Going}
use Rattle.puncturing.proofs.puncture_bits.Given as goal

abbrev pub invariant-loop-n : goal.invariant-loop-n
invariant-loop-n l = Going l.rate l.fn.start.place l.fn.start.held l.coded l.from l.to l.initial.output l.fn.start.count l.output l.place l.held l.count l.n
