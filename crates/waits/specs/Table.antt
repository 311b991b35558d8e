-- What a wait table holds.
use Rattle.waits.specs.declared.table.WaitTable.{WaitTable}
use Rattle.waits.specs.Waits.{Waits, waits}

abbrev pub waits_of : WaitTable → Waits
waits_of t = waits t.tasks t.semaphores t.conditions
