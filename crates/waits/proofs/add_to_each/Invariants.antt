use Rattle.waits.proofs.Marking.{Adding}
use Rattle.waits.proofs.add_to_each.Given as goal

abbrev pub invariant-loop-t : goal.invariant-loop-t
invariant-loop-t l = Adding l.to l.i l.initial.sets l.t-iterator.0 l.sets
