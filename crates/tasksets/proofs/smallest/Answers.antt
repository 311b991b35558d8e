-- The number of zeros below the first one is the smallest member.
use Rattle.std.proofs.Common.{arith}
use Rattle.tasksets.proofs.Bits.{lowest}
use Rattle.tasksets.proofs.smallest.Goals as goal

pub returns : goal.returns
returns c = let l = lowest 64 c.args.set (omega arith) (omega arith) in (l.1, l.0)
