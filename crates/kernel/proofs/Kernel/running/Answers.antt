use Rattle.book.proofs.Agreeing.{running_same}
use Rattle.kernel.specs.Held.{state_of}
use Rattle.kernel.proofs.Kernel.running.Goals as goal

pub returns-clause-book : goal.returns-clause-book
returns-clause-book g c right = let e = running_same g.U.Urgency.urgent (state_of c.args.self.now) right in cc
