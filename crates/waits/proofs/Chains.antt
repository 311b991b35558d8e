-- Chains joined, ended, and carried from one relation to another.
use Rattle.std.proofs.Common.{◌≡◌, ℕ, ◌⊎◌, refl, subst, inl, inr}
use Rattle.waits.specs.Chain.{Chain, here, step, NoRing}

module _ {awaits : ℕ → ℕ → Type 0} where
  pub then : {i j k : ℕ} → Chain awaits i j → Chain awaits j k → Chain awaits i k
  then here d = d
  then (step a c) d = step a (then c d)

  pub after : {i j k : ℕ} → Chain awaits i j → awaits j k → Chain awaits i k
  after c a = then c (step a here)

  -- a chain's last step
  pub last : {i k : ℕ} → Chain awaits i k → (i ≡ k) ⊎ ((j : ℕ) × Chain awaits i j × awaits j k)
  last here = inl refl
  last {k = k} (step {i = i} {j = j} a c) = inr (go (last c))
    where
      go : (j ≡ k) ⊎ ((m : ℕ) × Chain awaits j m × awaits m k) → (m : ℕ) × Chain awaits i m × awaits m k
      go (inl e) = (i, here, subst (λ x. awaits i x) e a)
      go (inr (m, d, b)) = (m, step a d, b)

  -- what holds of whoever awaits, and of a chain's end, holds of its start
  pub start_of : (P : ℕ → Type 0) → ((i j : ℕ) → awaits i j → P i) → {i k : ℕ} → P k → Chain awaits i k → P i
  start_of P first p here = p
  start_of P first p (step a c) = first _ _ a

-- a chain of one relation is a chain of any that holds its steps
pub lift : {R S : ℕ → ℕ → Type 0} → ((i j : ℕ) → R i j → S i j) → {i k : ℕ} → Chain R i k → Chain S i k
lift f here = here
lift f (step a c) = step (f _ _ a) (lift f c)

pub lift_none : {R S : ℕ → ℕ → Type 0} → ((i j : ℕ) → R i j → S i j) → NoRing S → NoRing R
lift_none f none i (j, a, c) = none i (j, f i j a, lift f c)

-- of two relations that differ at the tasks of A alone: a chain to t, to which no task of A has one, is a chain of the other too
pub carried : {old new : ℕ → ℕ → Type 0} (A : ℕ → Type 0) → ((i : ℕ) → (A i → ⊥) → (j : ℕ) → old i j → new i j)
    → {i t : ℕ} → ((a : ℕ) → A a → Chain old a t → ⊥) → Chain old i t → Chain new i t
carried A edges free here = here
carried A edges free (step {i = i} {j = j} a c) = step (edges i (λ h. free i h (step a c)) j a) (carried A edges free c)
