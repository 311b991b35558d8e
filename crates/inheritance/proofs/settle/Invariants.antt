use Rattle.std.proofs.Common.{length}
use Rattle.inheritance.proofs.Settling.{Settling}
use Rattle.inheritance.proofs.settle.Given as goal

abbrev pub invariant-loop-t : goal.invariant-loop-t
invariant-loop-t g l = Settling g.U.Urgency.urgent l.table l.standing l.initial.rows (length l.yielded) l.rows l.changed
