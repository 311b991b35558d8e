-- What is present, and who awaits whom.
use Rattle.std.specs.Prelude.{ℕ, ◌^◌, Bool, true, false, cond, not, ◌&&◌, List, is_some, Some, None, Option, ◌==◌, slice_index_or}
use Rattle.tasksets.specs.Sets.{Has, has, those}
use Rattle.waits.specs.declared.parts.Wait.{Wait}
use Rattle.waits.specs.declared.parts.Wait.TheVariants.{Ready, AtSemaphore, OnCondition}
use Rattle.waits.specs.declared.parts.Condition.{Condition}

-- who has a semaphore: one task, or nobody
abbrev pub Holder : Type 0
Holder = Option ℕ

-- by number: what each task does, who has each semaphore, what each condition is; `None` where there is none of that number
pub record Waits : Type 0 where
  pub tasks : ℕ → Option Wait
  pub semaphores : ℕ → Option Holder
  pub conditions : ℕ → Option Condition

-- nothing is present
abbrev pub nothing : Waits
nothing = record { tasks = λ _. None; semaphores = λ _. None; conditions = λ _. None }

-- what three arrays hold
abbrev pub waits : List (Option Wait) → List (Option Holder) → List (Option Condition) → Waits
waits ts ss cs = record { tasks = λ i. slice_index_or ts i None; semaphores = λ i. slice_index_or ss i None; conditions = λ i. slice_index_or cs i None }

-- f, but v at k
abbrev pub put : {A : Type 0} → (ℕ → A) → ℕ → A → ℕ → A
put f k v i = cond (i == k) v (f i)

-- ---- who awaits whom
-- what a task does; an absent one awaits nobody, as a ready one
abbrev pub wait_in : Option Wait → Wait
wait_in None = Ready
wait_in (Some w) = w

-- the holder of a semaphore, as a set
abbrev pub holder_set : Option Holder → ℕ
holder_set None = 0
holder_set (Some None) = 0
holder_set (Some (Some h)) = 2 ^ h

-- the helpers of a condition
abbrev pub helper_set : Option Condition → ℕ
helper_set None = 0
helper_set (Some c) = c.helpers

-- whom a task awaits that does this: at a semaphore its holder, on a condition each of its helpers, and nobody when ready
abbrev pub awaited_in : Waits → Wait → ℕ
awaited_in w Ready = 0
awaited_in w (AtSemaphore s) = holder_set (w.semaphores s)
awaited_in w (OnCondition c) = helper_set (w.conditions c)

-- the set of the tasks that i awaits
abbrev pub awaited : Waits → ℕ → ℕ
awaited w i = awaited_in w (wait_in (w.tasks i))

-- i awaits j
abbrev pub Awaits : Waits → ℕ → ℕ → Type 0
Awaits w i j = Has (awaited w i) j

-- ---- tests
-- two tasks do the same
abbrev pub same_wait : Wait → Wait → Bool
same_wait Ready Ready = true
same_wait (AtSemaphore s) (AtSemaphore z) = s == z
same_wait (OnCondition c) (OnCondition z) = c == z
same_wait _ _ = false

-- a task is present and does w
abbrev pub does : Wait → Option Wait → Bool
does w None = false
does w (Some v) = same_wait v w

-- t holds this semaphore
abbrev pub held_by : ℕ → Option Holder → Bool
held_by t None = false
held_by t (Some None) = false
held_by t (Some (Some h)) = h == t

-- some task holds this semaphore
abbrev pub held : Option Holder → Bool
held None = false
held (Some None) = false
held (Some (Some h)) = true

-- t helps this condition
abbrev pub helped_by : ℕ → Option Condition → Bool
helped_by t k = has (helper_set k) t

-- this condition belongs to s
abbrev pub belongs : ℕ → Option Condition → Bool
belongs s None = false
belongs s (Some k) = k.semaphore == s

-- the semaphore of a condition
abbrev pub semaphore_of : Option Condition → ℕ
semaphore_of None = 0
semaphore_of (Some k) = k.semaphore

-- t is present and not ready
abbrev pub waiting : Waits → ℕ → Bool
waiting w t = is_some (w.tasks t) && not (does Ready (w.tasks t))

-- the tasks that do v: that are ready, that wait at a semaphore, that wait on a condition
abbrev pub doing : Waits → Wait → ℕ
doing w v = those (λ i. does v (w.tasks i))

-- ---- changes
-- task t does v from now on, or is absent
abbrev pub with_task : Waits → ℕ → Option Wait → Waits
with_task w t v = record { tasks = put w.tasks t v; semaphores = w.semaphores; conditions = w.conditions }
