use Rattle.std.proofs.Common.{◌≡◌, T, true, is_some, Some, sym, ap, ◌∙◌, subst, arith}
use Rattle.std.proofs.lemmas.Bool.Decides.{nat_tests}
use Rattle.tasksets.proofs.Sets.{T_has, has_T}
use Rattle.waits.specs.declared.parts.Wait.TheVariants.{Ready, AtSemaphore}
use Rattle.waits.specs.Chain.{Chain}
use Rattle.waits.specs.Waits.{Awaits, does, with_task}
use Rattle.waits.specs.Reach.{ring}
use Rattle.waits.specs.Table.{waits_of}
use Rattle.waits.proofs.Tests.{true_of}
use Rattle.waits.proofs.Tables.{facts_of}
use Rattle.waits.proofs.Reach.{ring_all}
use Rattle.waits.proofs.Changes.{queued_sound, task_queued, ring_queued}
use Rattle.book.specs.Calls.{refusals}
use Rattle.steps.proofs.lock.Goals as goal

pub with_task-requires-clause-facts : goal.with_task-requires-clause-facts
with_task-requires-clause-facts c =
    let w = waits_of c.args.table.now in
    let (_, low, _, e, d) = c.in_ok-caller.ensures in
    let held : w.semaphores c.args.s ≡ Some (Some c.in-Some.h) = d ∙ ap Some c.in-Some.is in
    let apart : (Chain (Awaits w) c.in-Some.h c.args.t → ⊥) = λ chain. subst T (sym c.if-contains.ensures) (T_has c.reached.result c.args.t (c.reached.ensures.all c.args.t low chain)) in
    task_queued w c.args.t c.args.s c.in-Some.h (facts_of c.args.table.now) (subst (λ o. T (is_some o)) (sym e) tt) held apart

pub returns-in-Some-2 : goal.returns-in-Some-2
unfolding refusals
returns-in-Some-2 c =
    let w = waits_of c.args.table.now in
    let (_, _, _, e, d) = c.in_ok-caller.ensures in
    let h = c.in-Some.h in
    let held : w.semaphores c.args.s ≡ Some (Some h) = d ∙ ap Some c.in-Some.is in
    let chain : Chain (Awaits w) h c.args.t = c.reached.ensures.only c.args.t (has_T c.reached.result c.args.t (subst T c.if-contains.ensures tt)) in
    let ready : T (does Ready (w.tasks c.args.t)) = subst (λ o. T (does Ready o)) (sym e) tt in
    let sound = queued_sound w c.args.t c.args.s h (facts_of c.args.table.now).sound (subst (λ o. T (is_some o)) (sym e) tt) held in
    let rings : ring (with_task w c.args.t (Some (AtSemaphore c.args.s))) ≡ true = true_of _ (ring_all _ sound c.args.t (ring_queued w c.args.t c.args.s h ready held chain)) in
    grind (arith, nat_tests)
