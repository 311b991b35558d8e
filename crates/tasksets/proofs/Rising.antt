-- The laws of the list of a set's members: it is taken from the front, and a fold over it is a loop over the numbers below 64.
use Rattle.std.proofs.Common.{◌≡◌, ℕ, zero, suc, ◌+◌, ◌<◌, ◌≤◌, Bool, true, false, cond, not, ◌&&◌, eqb, List, [], ◌∷◌, filter, fold, length, subst, sym, refl, ap, ◌∙◌, add-zero, add-one, arith}
use native.Mathlib.Decide.{ℕ_discrete}
use Rattle.std.proofs.Math.Bool.{and-true}
use Rattle.std.proofs.lemmas.Bool.{eq-eqb, ne_eqb}
use Rattle.std.proofs.lemmas.Fn.{fold_over}
use Rattle.std.proofs.lemmas.Iterator.Consumers.{YieldsList-from_shown}
use Rattle.std.proofs.lemmas.List.Sums.{fold_push}
use Rattle.std.specs.Fn.{Called}
use Rattle.std.specs.Iterator.{Drains}
use Rattle.std.proofs.lemmas.Iterator.{YieldsList}
use Rattle.std.specs.List.{FoldsTo, range_with_len}
use denote.Param.Members.{Mut}
use Rattle.tasksets.specs.declared.Iter.{Iter}
use Rattle.tasksets.specs.Sets.{has, Smallest, Takes, members}
use Rattle.tasksets.proofs.Bits.{past_has}

-- one step of a filter over the numbers from a on
step : (p : ℕ → Bool) (n a : ℕ) (x : Bool) → p a ≡ x → filter p (range_with_len a (suc n)) ≡ cond x (a ∷ filter p (range_with_len (a + 1) n)) (filter p (range_with_len (a + 1) n))
step p n a x e = ap (λ x. cond x (a ∷ filter p (range_with_len (a + 1) n)) (filter p (range_with_len (a + 1) n))) e

-- a test that fails of all numbers from a on keeps none
keeps_none : (p : ℕ → Bool) (n a : ℕ) → ((j : ℕ) → a ≤ j → p j ≡ false) → filter p (range_with_len a n) ≡ []
keeps_none p zero a no' = refl
keeps_none p (suc n) a no' = step p n a false (no' a (omega arith)) ∙ keeps_none p n (a + 1) (λ j l. no' j (omega arith))

keeps_same : (p q : ℕ → Bool) (n a : ℕ) → ((j : ℕ) → a ≤ j → p j ≡ q j) → filter p (range_with_len a n) ≡ filter q (range_with_len a n)
keeps_same p q zero a same = refl
keeps_same p q (suc n) a same = step p n a (q a) (same a (omega arith)) ∙ ap (λ xs. cond (q a) (a ∷ xs) xs) (keeps_same p q n (a + 1) (λ j l. same j (omega arith)))

module _ (p q : ℕ → Bool) (k : ℕ) (here : p k ≡ true) (before : (j : ℕ) → j < k → p j ≡ false) (fewer : (j : ℕ) → q j ≡ (p j && not (eqb j k))) where
  gone : q k ≡ false
  gone = fewer k ∙ ap (λ x. x && not (eqb k k)) here ∙ ap not (eq-eqb k k refl)

  stays : (j : ℕ) → k < j → p j ≡ q j
  stays j l = sym (fewer j ∙ ap (λ x. p j && not x) (ne_eqb j k (λ e. omega arith)) ∙ and-true (p j))

  -- the first that passes is at the front, and the others come after it
  front : (n a : ℕ) → a ≤ k → k < a + n → filter p (range_with_len a n) ≡ k ∷ filter q (range_with_len a n)
  front zero a l b = absurd (omega arith)
  front (suc n) a l b = go (ℕ_discrete a k) (front n (a + 1))
    where
      go : Dec (a ≡ k) → (a + 1 ≤ k → k < a + 1 + n → filter p (range_with_len (a + 1) n) ≡ k ∷ filter q (range_with_len (a + 1) n)) → filter p (range_with_len a (suc n)) ≡ k ∷ filter q (range_with_len a (suc n))
      go (yes e) rest =
          step p n a true (ap p e ∙ here) ∙ ap (λ x. x ∷ filter p (range_with_len (a + 1) n)) e
          ∙ ap (λ xs. k ∷ xs) (keeps_same p q n (a + 1) (λ j m. stays j (omega (arith, e))) ∙ sym (step q n a false (ap q e ∙ gone)))
      go (no d) rest =
          step p n a false (before a (omega arith)) ∙ rest (omega arith) (omega arith)
          ∙ ap (λ xs. k ∷ xs) (sym (step q n a false (fewer a ∙ ap (λ x. x && not (eqb a k)) (before a (omega arith)))))

-- nothing is left of no set
pub members_none : members 0 ≡ []
unfolding members
members_none = keeps_none (has 0) 64 0 (λ j l. past_has 0 0 j (omega arith) (omega arith))

-- the smallest member comes first, and then those of the set without it
pub members_first : (s t k : ℕ) → Smallest s k → k < 64 → ((j : ℕ) → has t j ≡ (has s j && not (eqb j k))) → members s ≡ k ∷ members t
unfolding members
members_first s t k least l fewer =
    front (has s) (has t) k (eq-eqb _ 1 least.member) (λ j b. ne_eqb _ 1 (λ h. least.least j b h)) fewer 64 0 (omega arith) (omega arith)

-- a fold over the members is a loop over the numbers below 64 that passes over all others
pub members_fold : {A : Type 0} (f : A → ℕ → A) (loop : ℕ → A) (m : ℕ) → ((n : ℕ) → loop (suc n) ≡ cond (has m n) (f (loop n) n) (loop n)) → fold f (loop 0) (members m) ≡ loop 64
unfolding members
members_fold {A = A} f loop m turn = go 64 0
  where
    go : (n a : ℕ) → fold f (loop a) (filter (has m) (range_with_len a n)) ≡ loop (a + n)
    go zero a = ap loop (sym (add-zero a))
    go (suc n) a =
        let rest = filter (has m) (range_with_len (a + 1) n) in
        taken (has m a) a (loop a) rest ∙ ap (λ u. fold f u rest) (sym (ap loop (add-one a) ∙ turn a)) ∙ go n (a + 1) ∙ ap loop (omega arith)
      where
        -- a number that is let through is one step
        taken : (x : Bool) (a : ℕ) (u : A) (xs : List ℕ) → fold f u (cond x (a ∷ xs) xs) ≡ fold f (cond x (f u a) u) xs
        taken true a u xs = refl
        taken false a u xs = refl

-- so is a `fold` of the iterator, by a closure that takes this step
pub fold_is_loop :
    {F A : Type 0} (g : Mut F (A × (ℕ × Unit {0})) A) (f : F) (step : A → ℕ → A) (loop : ℕ → A) (m : ℕ)
    → ((a : A) (n : ℕ) (b : A) (f' : F) → Called g f (a, (n, tt)) b f' → (b ≡ step a n) × (f' ≡ f))
    → ((n : ℕ) → loop (suc n) ≡ cond (has m n) (step (loop n) n) (loop n))
    → (it : Iter) → it.0 ≡ m → (r : A)
    → (xs : List ℕ) × (f' : F) × Drains (λ (s : Iter) k (t : Iter). Takes s.0 k t.0) it xs × FoldsTo {P = F × A} (λ p x q. Called g p.0 (p.1, (x, tt)) q.1 q.0) (f, loop 0) xs (f', r)
    → r ≡ loop 64
fold_is_loop g f step loop m says turn it of r ran =
    fold_over (λ (s : Iter) k (t : Iter). Takes s.0 k t.0) (λ x. x) g (λ ys a. a ≡ fold step (loop 0) ys) f
    (λ ys a n b f' e k. (let (is, same) = says a n b f' k in (is ∙ ap (λ x. step x n) e ∙ sym (fold_push step (loop 0) ys n), same))) it (members m) (loop 0) r
    (subst (λ xs. YieldsList (λ (s : Iter) k (t : Iter). Takes s.0 k t.0) (λ x. x) it xs) (ap members of)
    (YieldsList-from_shown (λ (s : Iter) k (t : Iter). Takes s.0 k t.0) (λ x. x) (λ s. members s.0) (λ s t e. ap (λ m. length (members m)) e.0 ∙ ap length members_none) (λ s k t e. members_first s.0 t.0 k e.0 e.1 e.2) it)).runs refl ran
    ∙ members_fold step loop m turn
