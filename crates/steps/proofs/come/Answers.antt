use Rattle.std.proofs.Common.{◌≡◌, Some, subst}
use Rattle.waits.specs.Changes.{come_to}
use Rattle.waits.specs.Facts.{Facts}
use Rattle.waits.specs.Table.{waits_of}
use Rattle.waits.proofs.Tables.{facts_of}
use Rattle.waits.proofs.Changes.{come_facts}
use Rattle.steps.proofs.come.Goals as goal

pub with_task-requires-clause-facts : goal.with_task-requires-clause-facts
with_task-requires-clause-facts c =
    let w = waits_of c.args.table.now in
    let e : w.semaphores c.args.s ≡ Some (Some c.in-Some-Some.field-0-0) = cc in
    subst (λ h. Facts (come_to w c.args.t c.args.s h)) e (come_facts w c.args.t c.args.s (facts_of c.args.table.now) c.requires.task c.requires.bare)
