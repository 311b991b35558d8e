use Rattle.std.proofs.Common.{subst}
use Rattle.waits.specs.Facts.{Present}
use Rattle.kernel.proofs.Kernel.open.Goals as goal

pub returns-clause-right : goal.returns-clause-right
returns-clause-right g c t p = absurd (subst (λ w. Present w t) c.empty-table.ensures p)
