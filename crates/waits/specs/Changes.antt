-- How a step changes who waits for whom.
use Rattle.std.specs.Prelude.{ℕ, cond, Some, None, Option}
use Rattle.waits.specs.declared.parts.Wait.{Wait}
use Rattle.waits.specs.declared.parts.Wait.TheVariants.{Ready, AtSemaphore, OnCondition}
use Rattle.waits.specs.Waits.{Holder, Waits, put, wait_in, does, semaphore_of, with_task}

-- semaphore s is free or has this holder from now on, or is absent
abbrev pub with_semaphore : Waits → ℕ → Option Holder → Waits
with_semaphore w s h = record { tasks = w.tasks; semaphores = put w.semaphores s h; conditions = w.conditions }

-- whoever did v does d from now on
abbrev pub turned : Waits → Wait → Wait → Waits
turned w v d = record { tasks = λ i. cond (does v (w.tasks i)) (Some d) (w.tasks i); semaphores = w.semaphores; conditions = w.conditions }

-- task t is ready and holds semaphore s from now on
abbrev pub taken : Waits → ℕ → ℕ → Waits
taken w t s = with_semaphore (with_task w t (Some Ready)) s (Some (Some t))

-- task t comes to a semaphore s of this holder: it takes s if that is free, else it waits there
abbrev pub come_to : Waits → ℕ → ℕ → Option Holder → Waits
come_to w t s None = w
come_to w t s (Some None) = taken w t s
come_to w t s (Some (Some h)) = with_task w t (Some (AtSemaphore s))

abbrev pub come : Waits → ℕ → ℕ → Waits
come w t s = come_to w t s (w.semaphores s)

-- semaphore s goes to a task, which becomes ready; with none it is free
abbrev pub handed : Waits → ℕ → Option ℕ → Waits
handed w s None = with_semaphore w s (Some None)
handed w s (Some t) = taken w t s

-- task t, which does this, waits no more: it is ready without its semaphore, or leaves its condition and comes to the condition's semaphore
abbrev pub released_from : Waits → ℕ → Wait → Waits
released_from w t Ready = w
released_from w t (AtSemaphore s) = with_task w t (Some Ready)
released_from w t (OnCondition c) = come w t (semaphore_of (w.conditions c))

abbrev pub released : Waits → ℕ → Waits
released w t = released_from w t (wait_in (w.tasks t))
