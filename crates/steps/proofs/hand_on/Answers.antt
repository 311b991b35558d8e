use Rattle.std.proofs.Common.{◌≡◌, Some, None, sym, ap, ◌∙◌}
use Rattle.waits.specs.declared.parts.Wait.TheVariants.{AtSemaphore}
use Rattle.waits.specs.Waits.{doing}
use Rattle.waits.specs.Table.{waits_of}
use Rattle.waits.proofs.Keeps.{does_is, from_doing}
use Rattle.waits.proofs.Tables.{facts_of}
use Rattle.waits.proofs.Changes.{semaphore_freed}
use Rattle.book.specs.Book.{first}
use Rattle.book.proofs.Facts.{unpicked_unawaited}
use Rattle.book.proofs.Firsts.{first_picked, first_has}
use Rattle.book.specs.Kernel.{row_levels}
use Rattle.steps.proofs.hand_on.Goals as goal

pub with_semaphore-requires-clause-facts : goal.with_semaphore-requires-clause-facts
with_semaphore-requires-clause-facts g c =
    let w = waits_of c.args.table.now in
    let f = facts_of c.args.table.now in
    let pick = first g.U.Urgency.urgent (row_levels c.args.rows.now) in
    let queue = doing w (AtSemaphore c.args.s) in
    let none : pick queue ≡ None = ap pick (sym c.doing-queue.ensures) ∙ sym c.first.ensures ∙ c.in-None.is in
    semaphore_freed w c.args.s f c.requires (unpicked_unawaited w f.sound c.args.s (pick queue) (first_picked g.U.Urgency.urgent (row_levels c.args.rows.now) queue 64) none)

pub take-requires-clause-task : goal.take-requires-clause-task
take-requires-clause-task g c =
    let w = waits_of c.args.table.now in
    let u = c.in-Some.u in
    let lev = row_levels c.args.rows.now in
    let queue = doing w (AtSemaphore c.args.s) in
    let one : first g.U.Urgency.urgent lev queue ≡ Some u = ap (first g.U.Urgency.urgent lev) (sym c.doing-queue.ensures) ∙ sym c.first.ensures ∙ c.in-Some.is in
    (does_is (AtSemaphore c.args.s) (w.tasks u) (from_doing w (AtSemaphore c.args.s) u (first_has g.U.Urgency.urgent lev queue u one))).0
