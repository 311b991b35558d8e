use Rattle.std.proofs.Common.{get_or, None}
use Rattle.waits.proofs.Turning.{Turning}
use Rattle.waits.proofs.table.WaitTable.turned.Given as goal

abbrev pub invariant-loop-task : goal.invariant-loop-task
invariant-loop-task l = Turning (λ i. get_or l.self.tasks i None) l.from l.to l.task-index l.task-items
