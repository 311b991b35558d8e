use Rattle.std.proofs.Common.{sym, arith}
use Rattle.waits.specs.Table.{waits_of}
use Rattle.waits.proofs.Keeps.{task_made}
use Rattle.waits.proofs.Tables.{facts_of}
use Rattle.steps.proofs.task.Goals as goal

pub with_task-requires-clause-facts : goal.with_task-requires-clause-facts
with_task-requires-clause-facts c = task_made (waits_of c.args.table.now) c.args.t (facts_of c.args.table.now) (omega arith) (sym c.in-None.ensures)
