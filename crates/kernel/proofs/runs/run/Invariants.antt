use Rattle.std.proofs.Common.{◌≡◌, take}
use Rattle.book.specs.Kernel.{calls, Run}
use Rattle.kernel.specs.Held.{state_of}
use Rattle.kernel.proofs.runs.run.Given as goal

abbrev pub invariant-loop-entry : goal.invariant-loop-entry
invariant-loop-entry g l = record {
  run : Run g.U.Urgency.urgent l.fn.rows (take l.entry-index l.log) (state_of l.kernel);
  calls : calls l.log ≡ calls l.initial.log;
  named : l.kernel.rows.ghost_name ≡ l.initial.kernel.rows.ghost_name;
}
