use Rattle.std.proofs.Common.{◌≡◌, ℕ, ◌<◌, ◌&&◌, ltb, get_or}
use Rattle.tasksets.specs.Sets.{has}
use Rattle.waits.specs.Reach.{leading}
use Rattle.waits.specs.Table.{waits_of}
use Rattle.waits.proofs.table.WaitTable.leading.Given as goal

abbrev pub invariant-loop-i : goal.invariant-loop-i
invariant-loop-i l = ((t j : ℕ) → t < 64 → j < 64 → has (get_or l.sets t 0) j ≡ (has (leading (waits_of l.self) t) j && ltb j l.i))
