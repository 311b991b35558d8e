use Rattle.std.proofs.Common.{T, None, sym, subst}
use Rattle.waits.specs.Changes.{with_semaphore}
use Rattle.waits.specs.Facts.{Facts}
use Rattle.waits.specs.Table.{waits_of}
use Rattle.waits.proofs.Tables.{facts_of}
use Rattle.waits.proofs.Changes.{queue_freed, unsem_facts}
use Rattle.book.specs.Calls.{has_condition}
use Rattle.book.proofs.Facts.{belongs_none}
use Rattle.steps.proofs.unsem.Goals as goal

pub turned-awake-requires : goal.turned-awake-requires
turned-awake-requires c = queue_freed (waits_of c.args.table.now) c.args.s (facts_of c.args.table.now)

pub with_semaphore-requires-clause-facts : goal.with_semaphore-requires-clause-facts
with_semaphore-requires-clause-facts c =
    let w = waits_of c.args.table.now in
    let f = facts_of c.args.table.now in
    let none : (T (has_condition w c.args.s) → ⊥) = λ h. subst T (sym c.if-has_condition.ensures) h in
    subst (λ w. Facts (with_semaphore w c.args.s None)) (sym c.turned-awake.ensures) (unsem_facts w c.args.s f (belongs_none w f.sound c.args.s none))
