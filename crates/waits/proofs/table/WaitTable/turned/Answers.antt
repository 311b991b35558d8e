use Rattle.std.proofs.Common.{rules, sym, ◌∙◌, subst, arith}
use Rattle.waits.specs.Facts.{Facts}
use Rattle.waits.proofs.Turning.{turn_next, turn_end}
use Rattle.waits.proofs.table.WaitTable.turned.Goals as goal
use Rattle.waits.proofs.table.WaitTable.turned.Goals.{then-eq, else-eq}

pub loop-task-preserved : goal.loop-task-preserved
loop-task-preserved c =
    elim c.if-eq.branch [
      | then-eq w ↦ rw w.task-items-is (turn_next _ _ _ _ _ _ c.loop-task.invariant c.loop-task-test.true (search (w.if-eq.ensures, rules)))
      | else-eq w ↦ rw w.task-items-is (turn_next _ _ _ _ _ _ c.loop-task.invariant c.loop-task-test.true (search (w.if-eq.ensures, rules)))
    ]

pub of-requires : goal.of-requires
of-requires c =
    subst Facts (sym (turn_end c.args.self.tasks c.loop-task.task-items c.args.self.semaphores c.args.self.conditions c.args.from c.args.to c.args.self.sized.0 (omega arith) c.loop-task.invariant)) c.requires

pub returns : goal.returns
returns c =
    c.of.ensures ∙ turn_end c.args.self.tasks c.loop-task.task-items c.args.self.semaphores c.args.self.conditions c.args.from c.args.to c.args.self.sized.0 (omega arith) c.loop-task.invariant
