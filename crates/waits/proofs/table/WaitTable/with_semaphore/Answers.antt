use Rattle.std.proofs.Common.{sym, ◌∙◌, subst, arith}
use Rattle.waits.specs.Facts.{Facts}
use Rattle.waits.proofs.Tables.{semaphore_written}
use Rattle.waits.proofs.table.WaitTable.with_semaphore.Goals as goal

pub of-requires : goal.of-requires
of-requires c = subst Facts (sym (semaphore_written c.args.self.tasks c.args.self.semaphores c.args.self.conditions c.args.s c.args.holder (omega arith))) c.requires.facts

pub returns : goal.returns
returns c = c.of.ensures ∙ semaphore_written c.args.self.tasks c.args.self.semaphores c.args.self.conditions c.args.s c.args.holder (omega arith)
