-- The ones of a number are its members, counted one by one.
use Rattle.std.proofs.Common.{sym, arith}
use Rattle.tasksets.proofs.Sets.{members_ones}
use Rattle.tasksets.proofs.size.Goals as goal

pub returns : goal.returns
returns c = sym (members_ones 64 c.args.set (omega arith))
