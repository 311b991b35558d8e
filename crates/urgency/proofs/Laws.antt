-- What follows from the laws of an order: the same laws where there may be no urgency, and of the more urgent of two.
use Rattle.std.proofs.Common.{◌≡◌, Bool, true, false, cond, ◌&&◌, T, ◌⊎◌, Some, None, Option, sym, refl, ap, subst, inl, inr, ⊎_elim}
use Rattle.urgency.specs.Order.{Order, above, Above, upper, same}

-- the laws, as the trait has them
pub from_laws : {U : Type 0} (urgent : U → U → Bool) → ((a b : U) → T (urgent a b) ⊎ T (urgent b a)) → ((a b c : U) → T (urgent a b) → T (urgent b c) → T (urgent a c))
    → ((a b : U) → T (urgent a b) → T (urgent b a) → a ≡ b) → Order (λ u v. T (urgent u v))
from_laws urgent total transitive antisymmetric = record { total = total; trans = λ {u} {v} {w}. transitive u v w; antisym = λ {u} {v}. antisymmetric u v }

-- an order says of each urgency that it is at least as urgent as itself
pub itself : {U : Type 0} {at_least : U → U → Type 0} → Order at_least → (u : U) → at_least u u
itself order u = ⊎_elim (λ h. h) (λ h. h) (order.total u u)

module _ {U : Type 0} (urgent : U → U → Bool) (order : Order (λ u v. T (urgent u v))) where
  -- with no urgency as the least, an order too
  pub order_above : Order (Above urgent)
  order_above = record { total = total; trans = λ {u} {v} {w}. trans u v w; antisym = λ {u} {v}. antisym u v }
    where
      total : (u v : Option U) → Above urgent u v ⊎ Above urgent v u
      total u None = inl tt
      total None (Some v) = inr tt
      total (Some u) (Some v) = order.total u v

      trans : (u v w : Option U) → Above urgent u v → Above urgent v w → Above urgent u w
      trans u v None p q = tt
      trans u None (Some w) p q = absurd q
      trans None (Some v) (Some w) p q = p
      trans (Some u) (Some v) (Some w) p q = order.trans p q

      antisym : (u v : Option U) → Above urgent u v → Above urgent v u → u ≡ v
      antisym None None p q = refl
      antisym (Some u) None p q = absurd q
      antisym None (Some v) p q = absurd p
      antisym (Some u) (Some v) p q = ap Some (order.antisym p q)

  -- the more urgent of two is one of them, and at least as urgent as each
  pub upper_one : (u v : Option U) → (upper urgent u v ≡ u) ⊎ (upper urgent u v ≡ v)
  upper_one u v = go (above urgent u v)
    where
      go : (x : Bool) → (cond x u v ≡ u) ⊎ (cond x u v ≡ v)
      go true = inl refl
      go false = inr refl

  pub upper_left : (u v : Option U) → Above urgent (upper urgent u v) u
  upper_left u v = go (above urgent u v) refl
    where
      go : (x : Bool) → above urgent u v ≡ x → Above urgent (cond x u v) u
      go true e = itself order_above u
      go false e = ⊎_elim (λ h. absurd (subst T e h)) (λ h. h) (order_above.total u v)

  pub upper_right : (u v : Option U) → Above urgent (upper urgent u v) v
  upper_right u v = go (above urgent u v) refl
    where
      go : (x : Bool) → above urgent u v ≡ x → Above urgent (cond x u v) v
      go true e = subst T (sym e) tt
      go false e = itself order_above v

  -- the same urgency is an equal one
  pub same_of : (u v : Option U) → T (same urgent u v) → u ≡ v
  same_of u v t = go (above urgent u v) (above urgent v u) refl refl t
    where
      go : (x y : Bool) → above urgent u v ≡ x → above urgent v u ≡ y → T (x && y) → u ≡ v
      go true true p q t = order_above.antisym {u = u} {v = v} (subst T (sym p) tt) (subst T (sym q) tt)
      go true false p q t = absurd t
      go false y p q t = absurd t

  pub of_same : (u v : Option U) → u ≡ v → T (same urgent u v)
  of_same u v e = subst (λ w. T (same urgent u w)) e (both (above urgent u u) (itself order_above u))
    where
      both : (x : Bool) → T x → T (x && x)
      both true t = tt
      both false t = t
