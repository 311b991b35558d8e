-- Words of the contracts between the kernel's own functions.
use Rattle.std.specs.Prelude.{◌≡◌, ℕ, ◌<◌, Bool, List, slice_index_or, slice_set}
use Rattle.waits.specs.Waits.{Waits}
use Rattle.book.specs.declared.row.Row.{Row}
use Rattle.book.specs.declared.call.Call.{Call}
use Rattle.book.specs.declared.call.Call.TheVariants.{Task, Base}
use Rattle.book.specs.Calls.{map_call}
use Rattle.book.specs.Runs.{woken, changed}
use Rattle.book.specs.Kernel.{State, book_of, levels_of, Kept, Right}
use Rattle.steps.specs.Judged.{Asked}

module _ {U : Type 0} where
  -- a call without its value: no rule asks for it
  abbrev pub asked : Call U → Asked
  asked = map_call (λ _. tt)

  -- the row to which a call gives a base is one of n
  abbrev pub Within : ℕ → Call U → Type 0
  Within n (Task t v) = t < n
  Within n (Base t v) = t < n
  Within n _ = Unit {0}

  -- the rows once the base is written that a call gives
  abbrev pub noted : List (Row U) → Call U → List (Row U)
  noted rows (Task t v) = slice_set rows t (record { base = v; level = v })
  noted rows (Base t v) = slice_set rows t (record { base = v; level = (slice_index_or rows t (record { base = v; level = v })).level })
  noted rows _ = rows

-- from k on, a call is accepted whose step leaves the waits x
pub record Accepted {U : Type 0} (urgent : U → U → Bool) (k : State U) (x : Waits) (waiting : Bool) (r : Bool × ℕ × ℕ) (k' : State U) : Type 0 where
  pub waits : k'.waits ≡ x
  pub book : book_of k' ≡ book_of (record { waits = x; rows = k.rows })
  pub right : Right urgent k'
  pub kept : Kept (record { waits = x; rows = k.rows }) k'
  pub answer : r ≡ (waiting, woken k.waits x, changed urgent (levels_of k) k.waits (book_of k'))
