use Rattle.std.proofs.Common.{rules}
use Rattle.tasksets.proofs.Bits.{none_has}
use Rattle.waits.specs.Waits.{helped_by}
use Rattle.waits.specs.Table.{waits_of}
use Rattle.waits.proofs.table.WaitTable.helped_by.Goals as goal

pub returns : goal.returns
returns c = c.those.ensures.known (λ k. helped_by c.args.t ((waits_of c.args.self.now).conditions k)) (λ k b l called. search (rules, none_has))
