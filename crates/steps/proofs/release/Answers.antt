use Rattle.std.proofs.Common.{◌≡◌, T, is_some, Some, None, sym, ap, subst}
use Rattle.waits.specs.declared.parts.Wait.TheVariants.{OnCondition}
use Rattle.waits.specs.Waits.{wait_in}
use Rattle.waits.specs.Table.{waits_of}
use Rattle.waits.proofs.Tables.{facts_of}
use Rattle.waits.proofs.Changes.{task_freed}
use Rattle.steps.proofs.release.Goals as goal

pub with_task-requires-clause-facts : goal.with_task-requires-clause-facts
with_task-requires-clause-facts c =
    let w = waits_of c.args.table.now in
    let e : w.tasks c.args.t ≡ Some c.in-Some.wait = cc in
    task_freed w c.args.t (facts_of c.args.table.now) (subst (λ o. T (is_some o)) (sym e) tt)

-- a condition on which a task waits is there
pub returns-in_default-condition : goal.returns-in_default-condition
returns-in_default-condition c =
    let w = waits_of c.args.table.now in
    let e : w.tasks c.args.t ≡ Some (OnCondition c.in-OnCondition.c) = cc in
    let none : w.conditions c.in-OnCondition.c ≡ None = cc in
    absurd (subst (λ o. T (is_some o)) none (c.args.table.now.known c.args.t c.in-OnCondition.c (ap wait_in e)))

pub come-requires-clause-bare : goal.come-requires-clause-bare
come-requires-clause-bare c =
    let e : (waits_of c.args.table.now).tasks c.args.t ≡ Some (OnCondition c.in-OnCondition.c) = cc in
    λ z. c.args.table.now.bare c.args.t c.in-OnCondition.c z (ap wait_in e)
