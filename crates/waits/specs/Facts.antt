-- The facts that every kernel keeps.
use Rattle.std.specs.Prelude.{◌≡◌, ℕ, ◌<◌, T, is_some}
use Rattle.waits.specs.declared.parts.Wait.TheVariants.{Ready, AtSemaphore, OnCondition}
use Rattle.waits.specs.Chain.{NoRing}
use Rattle.waits.specs.Waits.{Waits, wait_in, Awaits, does, held, held_by, helped_by, belongs}

module _ (w : Waits) where
  -- task t is present
  abbrev pub Present : ℕ → Type 0
  Present t = T (is_some (w.tasks t))

  -- task t is present and ready
  abbrev pub IsReady : ℕ → Type 0
  IsReady t = T (does Ready (w.tasks t))

  -- task t holds semaphore s
  abbrev pub Holds : ℕ → ℕ → Type 0
  Holds t s = T (held_by t (w.semaphores s))

  -- task t helps condition c
  abbrev pub Helps : ℕ → ℕ → Type 0
  Helps t c = T (helped_by t (w.conditions c))

  -- a condition on which a task waits is present
  abbrev pub WaitersKnown : Type 0
  WaitersKnown = (t c : ℕ) → wait_in (w.tasks t) ≡ OnCondition c → T (is_some (w.conditions c))

  -- whoever holds is present
  abbrev pub HoldersPresent : Type 0
  HoldersPresent = (t s : ℕ) → Holds t s → Present t

  -- whoever helps is present
  abbrev pub HelpersPresent : Type 0
  HelpersPresent = (t c : ℕ) → Helps t c → Present t

  -- a condition's semaphore is present
  abbrev pub SemaphoresPresent : Type 0
  SemaphoresPresent = (c s : ℕ) → T (belongs s (w.conditions c)) → T (is_some (w.semaphores s))

  -- a semaphore at which tasks wait is held
  abbrev pub HeldWhereAwaited : Type 0
  HeldWhereAwaited = (t s : ℕ) → wait_in (w.tasks t) ≡ AtSemaphore s → T (held (w.semaphores s))

  -- a task on a condition holds no semaphore
  abbrev pub BareOnCondition : Type 0
  BareOnCondition = (t c s : ℕ) → wait_in (w.tasks t) ≡ OnCondition c → Holds t s → ⊥

  -- there is no ring
  abbrev pub RingFree : Type 0
  RingFree = NoRing (Awaits w)

  -- all of these but the last; and numbers are below 64
  pub record Sound : Type 0 where
    pub tasks< : (t : ℕ) → Present t → t < 64
    pub semaphores< : (s : ℕ) → T (is_some (w.semaphores s)) → s < 64
    pub conditions< : (c : ℕ) → T (is_some (w.conditions c)) → c < 64
    pub known : WaitersKnown
    pub holders : HoldersPresent
    pub helpers : HelpersPresent
    pub belong : SemaphoresPresent
    pub held : HeldWhereAwaited
    pub bare : BareOnCondition

  -- all of these
  pub record Facts : Type 0 where
    pub sound : Sound
    pub free : RingFree
