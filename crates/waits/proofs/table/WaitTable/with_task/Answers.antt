use Rattle.std.proofs.Common.{sym, ◌∙◌, subst, arith}
use Rattle.waits.specs.Facts.{Facts}
use Rattle.waits.proofs.Tables.{task_written}
use Rattle.waits.proofs.table.WaitTable.with_task.Goals as goal

pub of-requires : goal.of-requires
of-requires c = subst Facts (sym (task_written c.args.self.tasks c.args.self.semaphores c.args.self.conditions c.args.t c.args.wait (omega arith))) c.requires.facts

pub returns : goal.returns
returns c = c.of.ensures ∙ task_written c.args.self.tasks c.args.self.semaphores c.args.self.conditions c.args.t c.args.wait (omega arith)
