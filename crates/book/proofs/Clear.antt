-- A call that meets no refusal, and what each condition says where it does not hold.
use Rattle.std.proofs.Common.{◌≡◌, ℕ, ◌<◌, Bool, true, false, cond, not, T, ltb, List, [], ◌∷◌, ◌++◌, is_some, Some, None, subst, arith, le→leb}
use native.Mathlib.Decide.{dec_lt}
use Rattle.tasksets.specs.Sets.{none, those}
use Rattle.tasksets.proofs.Sets.{those_all, any_all}
use Rattle.waits.specs.Waits.{Waits}
use Rattle.waits.proofs.Tests.{yes_of, or_left, or_right}
use Rattle.book.specs.declared.refusal.Refusal.{Refusal}
use Rattle.book.specs.Calls.{Thing, number, there, some}
use Rattle.book.specs.Runs.{earliest}

-- ---- no refusal applies
abbrev pub Clear : List (Refusal × Bool) → Type 0
Clear [] = Unit {0}
Clear ((k, x) ∷ xs) = (T x → ⊥) × Clear xs

pub clear : (xs : List (Refusal × Bool)) → earliest xs ≡ None → Clear xs
clear [] e = tt
clear ((k, x) ∷ xs) e = go x e (clear xs)
  where
    go : (x : Bool) → cond x (Some k) (earliest xs) ≡ None → (earliest xs ≡ None → Clear xs) → (T x → ⊥) × Clear xs
    go true e rest = absurd (subst (λ o. T (is_some o)) e tt)
    go false e rest = (λ t. t, rest e)

pub clear_parts : (xs ys : List (Refusal × Bool)) → Clear (xs ++ ys) → Clear xs × Clear ys
clear_parts [] ys k = (tt, k)
clear_parts ((n, x) ∷ xs) ys (h, k) = let (l, r) = clear_parts xs ys k in ((h, l), r)

-- ---- what a call names
-- P of each
abbrev pub Each : (Thing → Type 0) → List Thing → Type 0
Each P [] = Unit {0}
Each P (x ∷ xs) = P x × Each P xs

-- where p says yes of none, P holds of each, if it follows from a no of p
each : (p : Thing → Bool) (P : Thing → Type 0) → ((x : Thing) → (T (p x) → ⊥) → P x) → (xs : List Thing) → (T (some p xs) → ⊥) → Each P xs
each p P so [] h = tt
each p P so (x ∷ xs) h = (so x (λ t. h (or_left (p x) (some p xs) t)), each p P so xs (λ t. h (or_right (p x) (some p xs) t)))

-- each number is below 64
pub all_below : (xs : List Thing) → (T (some (λ x. ltb 63 (number x)) xs) → ⊥) → Each (λ x. number x < 64) xs
all_below xs h = each (λ x. ltb 63 (number x)) (λ x. number x < 64) (λ x n. go x n (dec_lt (number x) 64)) xs h
  where
    go : (x : Thing) → (T (ltb 63 (number x)) → ⊥) → Dec (number x < 64) → number x < 64
    go x n (yes l) = l
    go x n (no l) = absurd (n (le→leb 64 (number x) (omega arith)))

-- each is there
pub all_there : (w : Waits) (xs : List Thing) → (T (some (λ x. not (there w x)) xs) → ⊥) → Each (λ x. T (there w x)) xs
all_there w xs h = each (λ x. not (there w x)) (λ x. T (there w x)) (λ x. yes_of (there w x)) xs h

-- each is absent
pub all_absent : (w : Waits) (xs : List Thing) → (T (some (there w) xs) → ⊥) → Each (λ x. T (there w x) → ⊥) xs
all_absent w xs h = each (there w) (λ x. T (there w x) → ⊥) (λ x n. n) xs h

-- ---- sets that have no member
pub not_any : (p : ℕ → Bool) → (T (not (none (those p))) → ⊥) → (k : ℕ) → k < 64 → T (p k) → ⊥
not_any p h k l t = h (any_all (those p) k (those_all p k l t))
