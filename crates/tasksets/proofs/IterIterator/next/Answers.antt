use Rattle.std.proofs.Common.{length, ap, arith}
use Rattle.tasksets.proofs.Rising.{members_first}
use Rattle.tasksets.proofs.IterIterator.next.Goals as goal

pub returns-clause-goes : goal.returns-clause-goes
returns-clause-goes c =
    let least = c.in_ok-first.ensures in
    let fewer = ap length (members_first c.args.self.now.0 c.without-self.result c.in_ok-first.first least.0 least.1 c.without-self.ensures.members) in
    record { on = λ f. (tt, tt, omega (arith, fewer)); keeps = tt; rests = λ f. tt }
