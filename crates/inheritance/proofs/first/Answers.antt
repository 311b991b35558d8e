use Rattle.std.proofs.Common.{sym, ◌∙◌}
use Rattle.book.specs.Kernel.{row_levels}
use Rattle.inheritance.proofs.Mosts.{first_none, first_in, first_out}
use Rattle.inheritance.proofs.first.Goals as goal
use Rattle.inheritance.proofs.first.Goals.{then-contains, else-contains}

pub loop-i-init : goal.loop-i-init
loop-i-init g c = first_none g.U.Urgency.urgent (row_levels c.args.rows.now) c.args.set

pub loop-i-preserved : goal.loop-i-preserved
loop-i-preserved g c =
    let urgent = g.U.Urgency.urgent in
    let lev = row_levels c.args.rows.now in
    elim c.if-contains.branch [
      | then-contains w ↦ first_in urgent lev c.args.set c.loop-i.i c.loop-i.best c.if-contains.best c.loop-i.invariant (sym w.if-contains.ensures) (w.best-is ∙ w.better-best.ensures)
      | else-contains w ↦ w.best-is ∙ first_out urgent lev c.args.set c.loop-i.i c.loop-i.best c.loop-i.invariant (sym w.if-contains.ensures)
    ]
