-- A ring that was not there passes a new edge.
use Rattle.std.proofs.Common.{ℕ, ◌⊎◌, inl, inr}
use Rattle.waits.specs.Chain.{Chain, here, step, NoRing}
use Rattle.waits.proofs.Chains.{then}

-- each new edge leads from a task of P to one of Q, and no old chain leads back
module _ {old new : ℕ → ℕ → Type 0} (P Q : ℕ → Type 0) (edges : (i j : ℕ) → new i j → old i j ⊎ (P i × Q j))
    (apart : (p q : ℕ) → P p → Q q → Chain old q p → ⊥) where
  -- a chain to a task of P has come to one before its first new edge
  arrive : {x y : ℕ} → Chain new x y → P y → (p : ℕ) × P p × Chain old x p
  arrive {y = y} here h = (y, h, here)
  arrive (step {i = i} {j = j} a c) h = go (edges i j a) (arrive c h)
    where
      go : old i j ⊎ (P i × Q j) → (p : ℕ) × P p × Chain old j p → (p : ℕ) × P p × Chain old i p
      go (inl o) (p, k, d) = (p, k, step o d)
      go (inr (k, _)) _ = (i, k, here)

  -- no chain of the new edges, either, leads from a task of Q to one of P
  still_apart : {p q : ℕ} → P p → Q q → Chain new q p → ⊥
  still_apart {q = q} k h c = let (p, l, d) = arrive c k in apart p q l h d

  -- a chain is an old one, or passes a new edge
  enter : {x y : ℕ} → Chain new x y → Chain old x y ⊎ ((p : ℕ) × (q : ℕ) × P p × Q q × Chain new x p × Chain new q y)
  enter here = inl here
  enter {y = y} (step {i = i} {j = j} a c) = go (edges i j a) (enter c)
    where
      go : old i j ⊎ (P i × Q j) → Chain old j y ⊎ ((p : ℕ) × (q : ℕ) × P p × Q q × Chain new j p × Chain new q y)
          → Chain old i y ⊎ ((p : ℕ) × (q : ℕ) × P p × Q q × Chain new i p × Chain new q y)
      go (inr (k, h)) _ = inr (i, j, k, h, here, c)
      go (inl o) (inl d) = inl (step o d)
      go (inl o) (inr (p, q, k, h, d, e)) = inr (p, q, k, h, step a d, e)

  -- a ring that passes a new edge would lead from its end back to its start
  pub no_new_ring : NoRing old → NoRing new
  no_new_ring none i (j, a, c) = go (edges i j a) (enter c)
    where
      go : old i j ⊎ (P i × Q j) → Chain old j i ⊎ ((p : ℕ) × (q : ℕ) × P p × Q q × Chain new j p × Chain new q i) → ⊥
      go (inr (k, h)) _ = still_apart k h c
      go (inl o) (inl d) = none i (j, o, d)
      go (inl o) (inr (p, q, k, h, d, e)) = still_apart k h (then e (step a d))
