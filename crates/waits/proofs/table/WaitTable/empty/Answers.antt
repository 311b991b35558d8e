use Rattle.std.proofs.Common.{sym, ◌∙◌, subst}
use Rattle.waits.specs.Facts.{Facts}
use Rattle.waits.proofs.Tables.{none_there, nothing_facts}
use Rattle.waits.proofs.table.WaitTable.empty.Goals as goal

pub of-requires : goal.of-requires
of-requires c = subst Facts (sym none_there) nothing_facts

pub returns : goal.returns
returns c = c.of.ensures ∙ none_there
