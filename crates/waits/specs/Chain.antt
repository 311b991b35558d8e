-- Chains and rings of a relation between tasks.
use Rattle.std.specs.Prelude.{ℕ, ◌<◌}

-- a row of tasks, each awaiting the next; a task alone is a chain of no steps
pub data Chain (awaits : ℕ → ℕ → Type 0) : ℕ → ℕ → Type 0 where
  here : {i : ℕ} → Chain awaits i i
  step : {i j k : ℕ} → awaits i j → Chain awaits j k → Chain awaits i k

-- a chain of one or more steps that ends where it began
abbrev pub Ring : (ℕ → ℕ → Type 0) → ℕ → Type 0
Ring awaits i = (j : ℕ) × awaits i j × Chain awaits j i

-- there is no ring
abbrev pub NoRing : (ℕ → ℕ → Type 0) → Type 0
NoRing awaits = (i : ℕ) → Ring awaits i → ⊥

-- a chain leads to t from a task of A
abbrev pub From : (ℕ → ℕ → Type 0) → (ℕ → Type 0) → ℕ → Type 0
From awaits A t = (i : ℕ) × A i × Chain awaits i t

-- has tells exactly the tasks below 64 to which a chain leads from i
pub record Reached (awaits : ℕ → ℕ → Type 0) (i : ℕ) (has : ℕ → Type 0) : Type 0 where
  pub only : (j : ℕ) → has j → Chain awaits i j
  pub all : (j : ℕ) → j < 64 → Chain awaits i j → has j
