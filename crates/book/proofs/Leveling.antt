-- The level that the book computes is the chain rule's.
use Rattle.std.proofs.Common.{◌≡◌, ℕ, zero, suc, ◌<◌, Bool, true, false, T, ◌⊎◌, None, Option, sym, refl, ◌∙◌, subst, inl, inr, ⊎_elim, arith}
use native.Mathlib.Decide.{ℕ_discrete}
use Rattle.urgency.specs.Order.{Order, Above, upper}
use Rattle.urgency.proofs.Laws.{order_above, upper_one, upper_left, upper_right}
use Rattle.tasksets.specs.Sets.{Has, has}
use Rattle.tasksets.proofs.Bits.{has_below}
use Rattle.tasksets.proofs.Sets.{T_has, has_T}
use Rattle.waits.specs.Chain.{Chain, here}
use Rattle.waits.specs.Waits.{Awaits}
use Rattle.waits.specs.Facts.{Present, Sound}
use Rattle.waits.specs.Reach.{leading}
use Rattle.waits.proofs.Reach.{leading_lt, leading_only, leading_all}
use Rattle.book.specs.Book.{Book, most_below, level}
use Rattle.book.specs.Levels.{IsLevel}

-- what holds of each below n, and of n
pub one_more : (P : ℕ → Type 0) (n : ℕ) → ((i : ℕ) → i < n → P i) → P n → (i : ℕ) → i < suc n → P i
one_more P n old new i l = go (ℕ_discrete i n)
  where
    go : Dec (i ≡ n) → P i
    go (yes e) = subst P (sym e) new
    go (no ne) = old i (omega arith)

module _ {U : Type 0} (urgent : U → U → Bool) (order : Order (λ u v. T (urgent u v))) where
  -- u is the most urgent among the values of the members of m below n, or none where all are none
  record Top (value : ℕ → Option U) (m n : ℕ) (u : Option U) : Type 0 where
    some : (u ≡ None) ⊎ ((i : ℕ) × Has m i × (value i ≡ u))
    all : (i : ℕ) → i < n → Has m i → Above urgent u (value i)

  top : (value : ℕ → Option U) (m n : ℕ) → Top value m n (most_below urgent value n m)
  unfolding most_below
  top value m zero = record { some = inl refl; all = λ i l h. absurd (omega arith) }
  top value m (suc n) = go (has m n) refl (most_below urgent value n m) (top value m n)
    where
      go : (x : Bool) → has m n ≡ x → (u : Option U) → Top value m n u → Top value m (suc n) (elim x [ true ↦ upper urgent u (value n) | false ↦ u ])
      go true e u p = record {
        some = ⊎_elim (λ q. ⊎_elim (λ z. inl (q ∙ z)) (λ (i, h, z). inr (i, h, z ∙ sym q)) p.some) (λ q. inr (n, has_T m n (subst T (sym e) tt), sym q))
            (upper_one urgent order u (value n));
        all = one_more (λ i. Has m i → Above urgent (upper urgent u (value n)) (value i)) n
            (λ i l h. (order_above urgent order).trans {u = upper urgent u (value n)} {v = u} {w = value i} (upper_left urgent order u (value n)) (p.all i l h))
            (λ _. upper_right urgent order u (value n));
      }
      go false e u p = record {
        some = p.some;
        all = one_more (λ i. Has m i → Above urgent u (value i)) n p.all (λ h. absurd (subst T e (T_has m n h)));
      }

  pub levelled : (b : Book U) → Sound b.waits → (t : ℕ) → Present b.waits t → IsLevel (Above urgent) (Awaits b.waits) b.base t (level urgent b t)
  levelled b f t p = record {
    some = ⊎_elim (λ z. (t, here, least (level urgent b t) z (all t here))) (λ (i, h, q). (i, leading_only b.waits f t l i h, q)) most.some;
    all = all;
  }
    where
      l : t < 64
      l = f.tasks< t p

      most : Top b.base (leading b.waits t) 64 (level urgent b t)
      most = top b.base (leading b.waits t) 64

      all : (i : ℕ) → Chain (Awaits b.waits) i t → Above urgent (level urgent b t) (b.base i)
      all i c = let h = leading_all b.waits f t l i c in most.all i (has_below 64 (leading b.waits t) i (leading_lt b.waits t l) h) h

      -- where no level is the most urgent, the task's own base is none
      least : (u : Option U) → u ≡ None → Above urgent u (b.base t) → b.base t ≡ u
      least u z a = (order_above urgent order).antisym {u = b.base t} {v = u} (subst (Above urgent (b.base t)) (sym z) tt) a
