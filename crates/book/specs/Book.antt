-- The plain book: what is present and each task's base; levels, the first of a set, the running task.
use Rattle.std.specs.Prelude.{ℕ, zero, suc, Bool, true, false, cond, Some, None, Option}
use Rattle.urgency.specs.Order.{above, upper}
use Rattle.tasksets.specs.Sets.{has}
use Rattle.waits.specs.declared.parts.Wait.TheVariants.{Ready}
use Rattle.waits.specs.Waits.{Waits, nothing, doing}
use Rattle.waits.specs.Reach.{leading}

-- what is present and who waits for whom, and the base of each present task
pub record Book (U : Type 0) : Type 0 where
  pub waits : Waits
  pub base : ℕ → Option U

-- the book begins empty
abbrev pub empty : {U : Type 0} → Book U
empty = record { waits = nothing; base = λ _. None }

module _ {U : Type 0} (urgent : U → U → Bool) where
  -- the most urgent among the values of the members of m below n
  unfoldable pub most_below : (ℕ → Option U) → ℕ → ℕ → Option U
  most_below value zero m = None
  most_below value (suc n) m = elim (has m n) [ true ↦ upper urgent (most_below value n m) (value n) | false ↦ most_below value n m ]

  -- the level of a task: the most urgent base among it and those with a chain to it
  abbrev pub level : Book U → ℕ → Option U
  level b t = most_below b.base 64 (leading b.waits t)

  -- the more urgent of two tasks by their levels; the earlier one where levels are equal
  abbrev pub better : (ℕ → Option U) → Option ℕ → ℕ → Option ℕ
  better lev None i = Some i
  better lev (Some k) i = cond (above urgent (lev k) (lev i)) (Some k) (Some i)

  -- the best of the members of m below n
  unfoldable pub first_below : (ℕ → Option U) → ℕ → ℕ → Option ℕ
  first_below lev zero m = None
  first_below lev (suc n) m = elim (has m n) [ true ↦ better lev (first_below lev n m) n | false ↦ first_below lev n m ]

  -- the first of a set: the one with the most urgent level, the smallest number where levels are equal
  abbrev pub first : (ℕ → Option U) → ℕ → Option ℕ
  first lev m = first_below lev 64 m

  -- the running task: the first of the ready tasks
  abbrev pub running : Book U → Option ℕ
  running b = first (level b) (doing b.waits Ready)
