use Rattle.std.proofs.Common.{◌-◌, ◌^◌}
use Rattle.waits.specs.Waits.{Awaits}
use Rattle.waits.specs.Table.{waits_of}
use Rattle.waits.proofs.Scan.{Scan}
use Rattle.waits.proofs.table.WaitTable.reached.Given as goal

abbrev pub invariant-loop-j : goal.invariant-loop-j
invariant-loop-j l = Scan (Awaits (waits_of l.self)) l.i l.seen l.todo

abbrev pub decreases-loop-j : goal.decreases-loop-j
decreases-loop-j l = 2 ^ 64 - l.seen
