-- A kernel by what its table and rows hold; what a call does to it; a run of calls.
use Rattle.std.specs.Prelude.{◌≡◌, ℕ, Bool, T, List, [], ◌∷◌, ◌++◌, map, length, is_ok, Err, Option, slice_get}
use Rattle.std.specs.Option.{option_and, option_map}
use Rattle.waits.specs.declared.parts.Wait.TheVariants.{Ready}
use Rattle.waits.specs.Waits.{Waits, nothing, doing}
use Rattle.waits.specs.Facts.{Present}
use Rattle.book.specs.declared.row.Row.{Row}
use Rattle.book.specs.declared.call.Call.{Call}
use Rattle.book.specs.declared.call.LogEntry.{LogEntry}
use Rattle.book.specs.declared.refusal.Refusal.{Refusal}
use Rattle.book.specs.Book.{Book, level, first, running}
use Rattle.book.specs.Runs.{Reply, step_by, step, book_after}

-- what a kernel's table says, and its rows
pub record State (U : Type 0) : Type 0 where
  pub waits : Waits
  pub rows : List (Row U)

module _ {U : Type 0} where
  -- the book that a kernel holds: the waits of its table, and the bases in the rows of present tasks
  abbrev pub book_of : State U → Book U
  book_of k = record { waits = k.waits; base = λ i. option_and (k.waits.tasks i) (option_map (λ r. r.base) (slice_get k.rows i)) }

  -- the levels in the rows
  abbrev pub row_levels : List (Row U) → ℕ → Option U
  row_levels rows i = option_map (λ r. r.level) (slice_get rows i)

  abbrev pub levels_of : State U → ℕ → Option U
  levels_of k = row_levels k.rows

  -- a kernel over rows, as it is opened
  abbrev pub opened : List (Row U) → State U
  opened rows = record { waits = nothing; rows = rows }

  -- the rows of tasks that are absent in k', and so all past the first 64, are as they were
  pub record Kept (k k' : State U) : Type 0 where
    pub size : length k'.rows ≡ length k.rows
    pub rest : (i : ℕ) → (Present k'.waits i → ⊥) → slice_get k'.rows i ≡ slice_get k.rows i

  -- the calls of a log
  abbrev pub calls : List (LogEntry U) → List (Call U)
  calls es = map (λ e. e.call) es

module _ {U : Type 0} (urgent : U → U → Bool) where
  -- the running task by the levels that the rows hold
  abbrev pub running_of : State U → Option ℕ
  running_of k = first urgent (levels_of k) (doing k.waits Ready)

  -- the rows of present tasks hold their levels
  abbrev pub Right : State U → Type 0
  Right k = (t : ℕ) → Present k.waits t → levels_of k t ≡ level urgent (book_of k) t

  -- what a call does to a kernel's state, by the levels that its rows held
  pub record Made (k : State U) (c : Call U) (r : Reply) (k' : State U) : Type 0 where
    -- the book's step and reply, by the levels that the rows held
    pub stepped : (book_of k', r) ≡ step_by urgent (levels_of k) (length k.rows) (book_of k) c
    -- an accepted call leaves the levels right, whatever they were
    pub right : T (is_ok r) → Right k'
    -- a refused one leaves all as it was
    pub refused : (j : Refusal) → r ≡ Err j → k' ≡ k
    pub kept : Kept k k'

  -- the kernel k is what the book b says
  pub record Agrees (k : State U) (b : Book U) : Type 0 where
    -- what is present, bases, states, holders, helpers
    pub book : book_of k ≡ b
    -- the level in each present task's row
    pub levels : (t : ℕ) → Present b.waits t → levels_of k t ≡ level urgent b t
    -- the running task
    pub runs : running_of k ≡ running urgent b

  -- the book that is fed the number of rows and the calls of a log, and nothing else
  abbrev pub book_at : List (Row U) → List (LogEntry U) → Book U
  book_at rows es = book_after urgent (length rows) (calls es)

  -- a run of the calls of a log from a kernel opened over rows: it agrees with the book at opening and after each call
  pub data Run (rows : List (Row U)) : List (LogEntry U) → State U → Type 0 where
    begin : Agrees (opened rows) (book_at rows []) → Run rows [] (opened rows)
    call : {es : List (LogEntry U)} {k k' : State U} → Run rows es k → (e : LogEntry U) → e.reply ≡ (step urgent (length rows) (book_at rows es) e.call).1
        → Agrees k' (book_at rows (es ++ (e ∷ []))) → e.running ≡ running urgent (book_at rows (es ++ (e ∷ []))) → Kept k k' → Run rows (es ++ (e ∷ [])) k'
