-- What task rows hold beside a wait table.
use Rattle.std.specs.Prelude.{◌≡◌, ℕ, ◌<◌, Bool, not, ◌&&◌, List, length, Some, None, Option}
use Rattle.urgency.specs.Order.{same}
use Rattle.tasksets.specs.Sets.{has, those}
use Rattle.waits.specs.declared.parts.Wait.{Wait}
use Rattle.waits.specs.declared.table.WaitTable.{WaitTable}
use Rattle.waits.specs.Facts.{Present}
use Rattle.waits.specs.Table.{waits_of}
use Rattle.book.specs.declared.row.Row.{Row}
use Rattle.book.specs.Book.{Book, level}
use Rattle.book.specs.Kernel.{State, book_of, row_levels, Kept}

module _ {U : Type 0} where
  -- a table and rows, together
  abbrev pub both : WaitTable → List (Row U) → State U
  both t rows = record { waits = waits_of t; rows = rows }

  -- the book that they hold
  abbrev pub held : WaitTable → List (Row U) → Book U
  held t rows = book_of (both t rows)

  -- the row with another level, where its task is present
  abbrev pub releveled : Option Wait → Option U → Row U → Row U
  releveled None u r = r
  releveled (Some w) None r = r
  releveled (Some w) (Some u) r = record { base = r.base; level = u }

-- each present task that has a row has its level there, all else is as it was, and r is the set of those of `standing` whose level was another
pub record Settled {U : Type 0} (urgent : U → U → Bool) (t : WaitTable) (standing : ℕ) (rows rows' : List (Row U)) (r : ℕ) : Type 0 where
  pub book : held t rows' ≡ held t rows
  pub right : (i : ℕ) → Present (waits_of t) i → i < length rows → row_levels rows' i ≡ level urgent (held t rows') i
  pub kept : Kept (both t rows) (both t rows')
  pub changed : r ≡ those (λ i. has standing i && not (same urgent (row_levels rows i) (level urgent (held t rows) i)))
