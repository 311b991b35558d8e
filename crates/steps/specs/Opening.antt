-- How every call by a ready task on a semaphore begins.
use Rattle.std.specs.Prelude.{◌≡◌, ℕ, ◌<◌, Bool, not, List, [], ◌∷◌, Some, None, Ok, Err, Result, nat_lt}
use Rattle.waits.specs.declared.parts.Wait.TheVariants.{Ready}
use Rattle.waits.specs.Waits.{Holder, Waits, waiting}
use Rattle.book.specs.declared.refusal.Refusal.{Refusal}
use Rattle.book.specs.declared.refusal.Refusal.TheVariants.{Over63, NotDeclared, CallerWaits}
use Rattle.book.specs.Calls.{Thing, task, semaphore, number, there, some}
use Rattle.book.specs.Runs.{earliest}

module _ (w : Waits) (t s : ℕ) where
  abbrev pub named : List Thing
  named = task t ∷ semaphore s ∷ []

  -- the refusals that it can meet first
  abbrev pub opening : List (Refusal × Bool)
  opening = (Over63, some (λ x. nat_lt 63 (number x)) named) ∷ (NotDeclared, some (λ x. not (there w x)) named) ∷ (CallerWaits, waiting w t) ∷ []

  -- the first of these that applies; or none does, t is ready, and the holder of s is told
  abbrev pub Opened : Result Holder Refusal → Type 0
  Opened (Err k) = earliest opening ≡ Some k
  Opened (Ok h) = (earliest opening ≡ None) × (t < 64) × (s < 64) × (w.tasks t ≡ Some Ready) × (w.semaphores s ≡ Some h)
