use Rattle.std.proofs.Common.{ℕ, ◌<◌, ◌^◌}
use Rattle.tasksets.specs.Sets.{has}
use Rattle.tasksets.proofs.those.Given as goal

-- the numbers below k are members just as the test says
abbrev pub invariant-loop-k : goal.invariant-loop-k
invariant-loop-k g l = (l.set < 2 ^ l.k) × ((j : ℕ) → j < l.k → goal.F-post g l.test j (has l.set j))
