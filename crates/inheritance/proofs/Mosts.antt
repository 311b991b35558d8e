-- The loops over the members of a set and over the rows: the most urgent base, the first of a set.
use Rattle.std.proofs.Common.{◌≡◌, ℕ, zero, suc, ◌+◌, ◌<◌, Bool, true, false, cond, None, Option, sym, refl, ap, ◌∙◌, add-one, arith}
use Rattle.urgency.specs.Order.{upper}
use Rattle.tasksets.specs.Sets.{has}
use Rattle.book.specs.Book.{most_below, better, first_below}

module _ {U : Type 0} (urgent : U → U → Bool) (value : ℕ → Option U) where
  -- sets with the same members below n have the same most urgent value
  pub most_same : (n a b : ℕ) → ((j : ℕ) → j < n → has a j ≡ has b j) → most_below urgent value n a ≡ most_below urgent value n b
  unfolding most_below
  most_same zero a b same = refl
  most_same (suc n) a b same =
      ap (λ x. elim x [ true ↦ upper urgent (most_below urgent value n a) (value n) | false ↦ most_below urgent value n a ]) (same n (omega arith))
      ∙ ap (λ u. elim (has b n) [ true ↦ upper urgent u (value n) | false ↦ u ]) (most_same n a b (λ j l. same j (omega arith)))

  -- one more number: it counts if it is a member
  pub most_turn : (m n : ℕ) → most_below urgent value (suc n) m ≡ cond (has m n) (upper urgent (most_below urgent value n m) (value n)) (most_below urgent value n m)
  unfolding most_below
  most_turn m n = go (has m n)
    where
      go : (x : Bool) → (elim x [ true ↦ upper urgent (most_below urgent value n m) (value n) | false ↦ most_below urgent value n m ]) ≡ cond x (upper urgent (most_below urgent value n m) (value n)) (most_below urgent value n m)
      go true = refl
      go false = refl

-- ---- the first of a set
module _ {U : Type 0} (urgent : U → U → Bool) (lev : ℕ → Option U) (m : ℕ) where
  pub first_none : None ≡ first_below urgent lev 0 m
  unfolding first_below
  first_none = refl

  pub first_in : (n : ℕ) (r q : Option ℕ) → r ≡ first_below urgent lev n m → has m n ≡ true → q ≡ better urgent lev r n → q ≡ first_below urgent lev (n + 1) m
  unfolding first_below
  first_in n r q e h d =
      d ∙ ap (λ r. better urgent lev r n) e
      ∙ sym (ap (λ k. first_below urgent lev k m) (add-one n) ∙ ap (λ x. elim x [ true ↦ better urgent lev (first_below urgent lev n m) n | false ↦ first_below urgent lev n m ]) h)

  pub first_out : (n : ℕ) (r : Option ℕ) → r ≡ first_below urgent lev n m → has m n ≡ false → r ≡ first_below urgent lev (n + 1) m
  unfolding first_below
  first_out n r e h = e ∙ sym (ap (λ k. first_below urgent lev k m) (add-one n) ∙ ap (λ x. elim x [ true ↦ better urgent lev (first_below urgent lev n m) n | false ↦ first_below urgent lev n m ]) h)
