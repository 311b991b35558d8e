use Rattle.std.proofs.Common.{T, is_some, sym, subst, arith}
use Rattle.waits.specs.Table.{waits_of}
use Rattle.waits.proofs.Tables.{facts_of}
use Rattle.waits.proofs.Changes.{semaphore_freed}
use Rattle.book.proofs.Facts.{absent_unawaited}
use Rattle.steps.proofs.sem.Goals as goal

pub with_semaphore-requires-clause-facts : goal.with_semaphore-requires-clause-facts
with_semaphore-requires-clause-facts c =
    let w = waits_of c.args.table.now in
    let f = facts_of c.args.table.now in
    semaphore_freed w c.args.s f (omega arith) (absent_unawaited w f.sound c.args.s (λ h. subst (λ o. T (is_some o)) (sym c.in-None.ensures) h))
