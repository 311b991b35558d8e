use Rattle.std.proofs.Common.{T, sym, subst}
use Rattle.waits.specs.Table.{waits_of}
use Rattle.waits.proofs.Keeps.{task_ended}
use Rattle.waits.proofs.Tables.{facts_of}
use Rattle.book.specs.Calls.{in_use}
use Rattle.book.proofs.Facts.{holds_none, helps_none}
use Rattle.steps.proofs.untask.Goals as goal

-- what neither holds nor helps can end
pub with_task-requires-clause-facts : goal.with_task-requires-clause-facts
with_task-requires-clause-facts c =
    let w = waits_of c.args.table.now in
    let f = facts_of c.args.table.now in
    let free : (T (in_use w c.args.t) → ⊥) = λ h. subst T (sym c.if-in_use.ensures) h in
    task_ended w c.args.t f (helps_none w f.sound c.args.t free) (holds_none w f.sound c.args.t free)
