-- What each call does in the book, and when it is refused.
use Rattle.std.specs.Prelude.{ℕ, Bool, false, not, ◌&&◌, ◌||◌, ltb, List, [], ◌∷◌, ◌++◌, is_some, Some, None, Option, nat_lt}
use Rattle.tasksets.specs.Sets.{none, those}
use Rattle.waits.specs.declared.parts.Wait.TheVariants.{Ready, AtSemaphore}
use Rattle.waits.specs.Waits.{Waits, waiting, held_by, held, helped_by, belongs, doing, put, with_task}
use Rattle.waits.specs.Changes.{with_semaphore, turned, taken, come, handed, released}
use Rattle.book.specs.declared.call.Call.{Call}
use Rattle.book.specs.declared.call.Call.TheVariants.{Task, Untask, Base, Sem, Unsem, Lock, Try, Unlock, Release}
use Rattle.book.specs.declared.refusal.Refusal.{Refusal}
use Rattle.book.specs.declared.refusal.Refusal.TheVariants.{FewRows, Over63, NotDeclared, AlreadyThere, CallerWaits, NotWaiting, NotHolder, HoldsIt, HeldByOther, InUse}
use Rattle.book.specs.Book.{Book, first}

-- a call with another value in place of its own, if it has one
abbrev pub map_call : {U V : Type 0} → (U → V) → Call U → Call V
map_call f (Task t v) = Task t (f v)
map_call f (Untask t) = Untask t
map_call f (Base t v) = Base t (f v)
map_call f (Sem s) = Sem s
map_call f (Unsem s) = Unsem s
map_call f (Lock t s) = Lock t s
map_call f (Try t s) = Try t s
map_call f (Unlock t s) = Unlock t s
map_call f (Release t) = Release t

-- what a call names
pub data Thing : Type 0 where
  task : ℕ → Thing
  semaphore : ℕ → Thing
  condition : ℕ → Thing

-- its number
abbrev pub number : Thing → ℕ
number (task t) = t
number (semaphore s) = s
number (condition c) = c

-- it is present
abbrev pub there : Waits → Thing → Bool
there w (task t) = is_some (w.tasks t)
there w (semaphore s) = is_some (w.semaphores s)
there w (condition c) = is_some (w.conditions c)

-- t holds a semaphore or helps a condition
abbrev pub in_use : Waits → ℕ → Bool
in_use w t = not (none (those (λ s. held_by t (w.semaphores s)))) || not (none (those (λ c. helped_by t (w.conditions c))))

-- a condition belongs to s
abbrev pub has_condition : Waits → ℕ → Bool
has_condition w s = not (none (those (λ c. belongs s (w.conditions c))))

-- p says yes of some
abbrev pub some : (Thing → Bool) → List Thing → Bool
some p [] = false
some p (x ∷ xs) = p x || some p xs

module _ {U : Type 0} where
  -- what a call makes
  abbrev pub makes : Call U → List Thing
  makes (Task t v) = task t ∷ []
  makes (Untask t) = []
  makes (Base t v) = []
  makes (Sem s) = semaphore s ∷ []
  makes (Unsem s) = []
  makes (Lock t s) = []
  makes (Try t s) = []
  makes (Unlock t s) = []
  makes (Release t) = []

  -- what a call needs: all that it names but what it makes
  abbrev pub needs : Call U → List Thing
  needs (Task t v) = []
  needs (Untask t) = task t ∷ []
  needs (Base t v) = task t ∷ []
  needs (Sem s) = []
  needs (Unsem s) = semaphore s ∷ []
  needs (Lock t s) = task t ∷ semaphore s ∷ []
  needs (Try t s) = task t ∷ semaphore s ∷ []
  needs (Unlock t s) = task t ∷ semaphore s ∷ []
  needs (Release t) = task t ∷ []

  -- the refusals of a call's own, rising, each with its condition
  abbrev pub own_refusals : Waits → Call U → List (Refusal × Bool)
  own_refusals w (Task t v) = []
  own_refusals w (Untask t) = (CallerWaits, waiting w t) ∷ (InUse, in_use w t) ∷ []
  own_refusals w (Base t v) = []
  own_refusals w (Sem s) = []
  own_refusals w (Unsem s) = (InUse, has_condition w s) ∷ []
  own_refusals w (Lock t s) = (CallerWaits, waiting w t) ∷ (HoldsIt, held_by t (w.semaphores s)) ∷ []
  own_refusals w (Try t s) =
      (CallerWaits, waiting w t) ∷ (HoldsIt, held_by t (w.semaphores s)) ∷ (HeldByOther, held (w.semaphores s) && not (held_by t (w.semaphores s))) ∷ []
  own_refusals w (Unlock t s) = (CallerWaits, waiting w t) ∷ (NotHolder, not (held_by t (w.semaphores s))) ∷ []
  own_refusals w (Release t) = (NotWaiting, not (waiting w t)) ∷ []

  -- with n rows: every refusal that a call can meet but the ring's, rising, each with its condition
  unfoldable pub refusals : Waits → ℕ → Call U → List (Refusal × Bool)
  refusals w n c =
      (FewRows, nat_lt n 64) ∷ (Over63, some (λ x. ltb 63 (number x)) (makes c ++ needs c)) ∷ (NotDeclared, some (λ x. not (there w x)) (needs c))
      ∷ (AlreadyThere, some (there w) (makes c)) ∷ own_refusals w c

  -- who waits and who holds after a call's step, where pick tells the first of a set
  abbrev pub waits_after : (ℕ → Option ℕ) → Waits → Call U → Waits
  waits_after pick w (Task t v) = with_task w t (Some Ready)
  waits_after pick w (Untask t) = with_task w t None
  waits_after pick w (Base t v) = w
  waits_after pick w (Sem s) = with_semaphore w s (Some None)
  waits_after pick w (Unsem s) = with_semaphore (turned w (AtSemaphore s) Ready) s None
  waits_after pick w (Lock t s) = come w t s
  waits_after pick w (Try t s) = taken w t s
  waits_after pick w (Unlock t s) = handed w s (pick (doing w (AtSemaphore s)))
  waits_after pick w (Release t) = released w t

  -- the bases after a call's step
  abbrev pub base_after : (ℕ → Option U) → Call U → ℕ → Option U
  base_after base (Task t v) = put base t (Some v)
  base_after base (Untask t) = put base t None
  base_after base (Base t v) = put base t (Some v)
  base_after base (Sem s) = base
  base_after base (Unsem s) = base
  base_after base (Lock t s) = base
  base_after base (Try t s) = base
  base_after base (Unlock t s) = base
  base_after base (Release t) = base

-- the book after a call's step; a first is picked by lev, the levels before the call
abbrev pub after : {U : Type 0} → (U → U → Bool) → (ℕ → Option U) → Book U → Call U → Book U
after urgent lev b c = record { waits = waits_after (first urgent lev) b.waits c; base = base_after b.base c }
