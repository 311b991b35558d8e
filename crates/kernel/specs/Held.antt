-- What a kernel holds, and a call that is made on it.
use Rattle.std.specs.Prelude.{◌≡◌, Bool, length}
use Rattle.book.specs.declared.call.Call.{Call}
use Rattle.book.specs.Runs.{Reply, step}
use Rattle.book.specs.Kernel.{State, book_of, Made, Right}
use Rattle.inheritance.specs.Rows.{both}
use Rattle.kernel.specs.declared.Kernel.{Kernel}

-- the state of a kernel: what its table says, and its rows
abbrev pub state_of : {U : Type 0} → Kernel U → State U
state_of k = both k.table k.rows.now

-- the call c is made on the kernel, with reply r, over the same rows
pub record MakesCall {U : Type 0} (urgent : U → U → Bool) (k : Kernel U) (c : Call U) (r : Reply) (k' : Kernel U) : Type 0 where
  pub made : Made urgent (state_of k) c r (state_of k')
  -- where the levels in the rows were right, the step and the reply are the book's, by its own levels
  pub stepped : Right urgent (state_of k) → (book_of (state_of k'), r) ≡ step urgent (length k.rows.now) (book_of (state_of k)) c
  -- and they are right after it, refused or not
  pub right : Right urgent (state_of k) → Right urgent (state_of k')
  pub named : k'.rows.ghost_name ≡ k.rows.ghost_name
