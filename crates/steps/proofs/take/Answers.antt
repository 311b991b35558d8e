use Rattle.std.proofs.Common.{Some, sym, subst}
use Rattle.waits.specs.Changes.{with_semaphore}
use Rattle.waits.specs.Facts.{Facts}
use Rattle.waits.specs.Table.{waits_of}
use Rattle.waits.proofs.Tables.{facts_of}
use Rattle.waits.proofs.Changes.{task_freed, task_taken}
use Rattle.steps.proofs.take.Goals as goal

pub with_task-ready-requires-clause-facts : goal.with_task-ready-requires-clause-facts
with_task-ready-requires-clause-facts c = task_freed (waits_of c.args.table.now) c.args.t (facts_of c.args.table.now) c.requires.task

pub with_semaphore-requires-clause-facts : goal.with_semaphore-requires-clause-facts
with_semaphore-requires-clause-facts c =
    subst (λ w. Facts (with_semaphore w c.args.s (Some (Some c.args.t)))) (sym c.with_task-ready.ensures)
    (task_taken (waits_of c.args.table.now) c.args.t c.args.s (facts_of c.args.table.now) c.requires.task c.requires.semaphore)
