use Rattle.std.proofs.Common.{◌≡◌}
use Rattle.book.specs.Book.{first_below}
use Rattle.book.specs.Kernel.{row_levels}
use Rattle.inheritance.proofs.first.Given as goal

abbrev pub invariant-loop-i : goal.invariant-loop-i
invariant-loop-i g l = l.best ≡ first_below g.U.Urgency.urgent (row_levels l.rows) l.i l.set
