-- Levels and the local rule over any order and any finite relation with no ring, and what a change leaves.
use Rattle.std.proofs.Common.{◌≡◌, ℕ, zero, suc, ◌+◌, ◌^◌, ◌<◌, ◌≤◌, sym, ap, ◌∙◌, subst, inl, inr, ⊎_elim, arith}
use mathlib.Core.WellFounded.{Acc}
use lib.Bits.{bit_or, or_lt}
use lib.Pow.{pow-lt}
use Rattle.urgency.specs.Order.{Order}
use Rattle.urgency.proofs.Laws.{itself}
use Rattle.tasksets.specs.Sets.{bit, Has}
use Rattle.tasksets.proofs.Bits.{bit_le, bit_none, bit_pow, has_pow, has_or, or_grows}
use Rattle.waits.specs.Chain.{Chain, here, step, NoRing}
use Rattle.waits.proofs.Chains.{after, last, carried, start_of}
use Rattle.book.specs.Levels.{IsMost, IsLevel, LocalRule}

-- ---- a relation among the numbers below 64 that has no ring is well_founded
module _ {awaits : ℕ → ℕ → Type 0} (low : (i j : ℕ) → awaits i j → i < 64) (none : NoRing awaits) where
  -- V is a set of tasks to which chains lead from t. None of them awaits t, so V grows with each step back, and a set below 64 cannot grow for ever.
  back : (n V t : ℕ) → V < 2 ^ 64 → 2 ^ 64 ≤ V + n → ((k : ℕ) → Has V k → Chain awaits t k) → Acc awaits t
  back zero V t lt enough led = absurd (omega arith)
  back (suc n) V t lt enough led = Acc.intro t (λ i a.
      let new : bit V i ≡ 0 = let not_in : (bit V i ≡ 1 → ⊥) = λ h. none i (t, a, led i h) in omega (arith, bit_le V i) in
      let small : bit_or V (2 ^ i) < 2 ^ 64 = or_lt 64 V (2 ^ i) lt (pow-lt (low i t a)) in
      let more : V < bit_or V (2 ^ i) = or_grows V (2 ^ i) i new (bit_pow i) in
      back n (bit_or V (2 ^ i)) i small (omega arith) (λ k h.
      ⊎_elim (λ p. step a (led k p)) (λ p. subst (λ x. Chain awaits i x) (sym (has_pow i k p)) here) (has_or V (2 ^ i) k h)))

  well_founded : (t : ℕ) → Acc awaits t
  well_founded t = back (2 ^ 64) 0 t (omega arith) (omega arith) (λ k h. absurd (omega (arith, bit_none k)))

module _ {U : Type 0} {at_least : U → U → Type 0} (order : Order at_least) where
  -- the most urgent value is one alone
  pub one_most : {P : ℕ → Type 0} {value : ℕ → U} {u v : U} → IsMost at_least P value u → IsMost at_least P value v → u ≡ v
  one_most {u = u} {v = v} a b =
      let (i, p, e) = a.some in
      let (j, q, f) = b.some in
      order.antisym (subst (at_least u) f (a.all j q)) (subst (at_least v) e (b.all i p))

  -- a relation among the tasks of P
  module _ {awaits : ℕ → ℕ → Type 0} {base : ℕ → U} (P : ℕ → Type 0) (inside : (i j : ℕ) → awaits i j → P i × P j) (level : ℕ → U) where
    -- levels obey the local rule
    pub levels_local : ((t : ℕ) → P t → IsLevel at_least awaits base t (level t)) → (t : ℕ) → P t → LocalRule at_least awaits base level t
    levels_local is t p =
        let (i, c, e) = (is t p).some in record {
          some = ⊎_elim (λ q. inl (sym e ∙ ap base q))
              (λ (j, d, a). inr (j, a, order.antisym (subst (at_least (level j)) e ((is j (inside j t a).0).all i d)) (up j a))) (last c);
          own = (is t p).all t here;
          all = up;
        }
      where
        up : (i : ℕ) → awaits i t → at_least (level t) (level i)
        up i a = let (k, c, e) = (is i (inside i t a).0).some in subst (at_least (level t)) e ((is t p).all k (after c a))

    -- what obeys the local rule is the level, where chains into t do not go back for ever
    module _ (rule : (t : ℕ) → P t → LocalRule at_least awaits base level t) where
      above : {i t : ℕ} → Chain awaits i t → at_least (level t) (level i)
      above {t = t} here = itself order (level t)
      above (step {i = i} {j = j} a c) = order.trans (above c) ((rule j (inside i j a).1).all i a)

      found : {t : ℕ} → P t → Acc awaits t → (i : ℕ) × Chain awaits i t × (base i ≡ level t)
      found p (Acc.intro t h) =
          ⊎_elim (λ e. (t, here, sym e)) (λ (i, a, e). let (k, c, f) = found (inside i t a).0 (h i a) in (k, after c a, f ∙ e)) (rule t p).some

      -- in a finite relation with no ring that is everywhere
      pub local_level : ((t : ℕ) → P t → t < 64) → NoRing awaits → (t : ℕ) → P t → IsLevel at_least awaits base t (level t)
      local_level low none t p = record {
        some = found p (well_founded (λ i j a. low i (inside i j a).0) none t);
        all = λ i c. order.trans (above c) (rule i (start_of P (λ i j a. (inside i j a).0) p c)).own;
      }

  -- ---- two relations, and two choices of bases, that differ at the tasks of A alone: a level to which no task of A has a chain is kept
  pub kept : {old new : ℕ → ℕ → Type 0} {base base' : ℕ → U} (A : ℕ → Type 0) → ((i : ℕ) → (A i → ⊥) → (j : ℕ) → old i j → new i j)
      → ((i : ℕ) → (A i → ⊥) → (j : ℕ) → new i j → old i j) → ((i : ℕ) → (A i → ⊥) → base i ≡ base' i)
      → {t : ℕ} → ((a : ℕ) → A a → Chain old a t → ⊥) → ((a : ℕ) → A a → Chain new a t → ⊥)
      → {u : U} → IsLevel at_least old base t u → IsLevel at_least new base' t u
  kept A gone come bases before since {u} l =
      let (i, c, e) = l.some in record {
        some = (i, carried A gone before c, sym (bases i (λ h. before i h c)) ∙ e);
        all = λ j d. subst (at_least u) (bases j (λ h. since j h d)) (l.all j (carried A come since d));
      }
