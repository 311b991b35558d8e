-- Levels, the local rule and the first of a set, as relations over any order.
use Rattle.std.specs.Prelude.{◌≡◌, ℕ, ◌<◌, ◌⊎◌, Some, None, Option}
use Rattle.waits.specs.Chain.{Chain}

module _ {U : Type 0} (at_least : U → U → Type 0) where
  -- u is the most urgent among the values of P: the value of one, and at least as urgent as each
  pub record IsMost (P : ℕ → Type 0) (value : ℕ → U) (u : U) : Type 0 where
    pub some : (i : ℕ) × P i × (value i ≡ u)
    pub all : (i : ℕ) → P i → at_least u (value i)

  module _ (awaits : ℕ → ℕ → Type 0) (base : ℕ → U) where
    -- the chain rule: the most urgent base among t and the tasks with a chain to it
    abbrev pub IsLevel : ℕ → U → Type 0
    IsLevel t u = IsMost (λ i. Chain awaits i t) base u

    -- the local rule at t: the most urgent among its base and the levels of the tasks awaiting it
    pub record LocalRule (level : ℕ → U) (t : ℕ) : Type 0 where
      pub some : (level t ≡ base t) ⊎ ((i : ℕ) × awaits i t × (level i ≡ level t))
      pub own : at_least (level t) (base t)
      pub all : (i : ℕ) → awaits i t → at_least (level t) (level i)

  module _ (P : ℕ → Type 0) (level : ℕ → U) where
    -- k is the first of P: the most urgent level, the smallest number where levels are equal
    pub record IsFirst (k : ℕ) : Type 0 where
      pub member : P k
      pub most : (i : ℕ) → P i → at_least (level k) (level i)
      pub earliest : (i : ℕ) → i < k → P i → at_least (level i) (level k) → ⊥

    -- the first of P, or none where P is empty
    abbrev pub First : Option ℕ → Type 0
    First None = (i : ℕ) → P i → ⊥
    First (Some k) = IsFirst k
