use Rattle.kernel.proofs.Accepting.{accepted}
use Rattle.kernel.proofs.accept.Goals as goal

pub returns : goal.returns
returns g c = accepted _ c.args.table.now c.args.next _ _ _ _ _ _ _ _ c.waiting.ensures c.doing.ensures c.present.ensures c.present-2.ensures c.requires c.settle-changed.ensures
