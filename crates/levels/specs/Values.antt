-- Calls and rows with the values of grades in place of the grades.
use Rattle.std.specs.Prelude.{ℕ}
use Rattle.urgency.specs.declared.grade.Grade.{Grade}
use Rattle.book.specs.declared.row.Row.{Row}
use Rattle.book.specs.declared.call.Call.{Call}
use Rattle.book.specs.Calls.{map_call}

abbrev pub in_values : Call Grade → Call ℕ
in_values = map_call (λ g. g.value)

abbrev pub row_in_values : Row Grade → Row ℕ
row_in_values r = record { base = r.base.value; level = r.level.value }
