-- The first of a set is what its name says, and the running task is the first of the ready ones.
use Rattle.std.proofs.Common.{◌≡◌, ℕ, zero, suc, ◌<◌, Bool, true, false, cond, T, Some, None, Option, sym, refl, ap, ◌∙◌, subst, ⊎_elim, arith}
use Rattle.urgency.specs.Order.{Order, above, Above}
use Rattle.urgency.proofs.Laws.{order_above, itself}
use Rattle.tasksets.specs.Sets.{Has, has}
use Rattle.tasksets.proofs.Sets.{T_has, has_T}
use Rattle.waits.specs.declared.parts.Wait.TheVariants.{Ready}
use Rattle.waits.specs.Chain.{Chain}
use Rattle.waits.specs.Waits.{Awaits, doing}
use Rattle.waits.specs.Facts.{IsReady, Sound}
use Rattle.waits.proofs.Keeps.{does_is, in_doing, from_doing}
use Rattle.book.specs.Book.{Book, level, better, first_below, first, running}
use Rattle.book.specs.Levels.{IsMost, IsLevel, IsFirst, First}
use Rattle.book.proofs.Leveling.{one_more, levelled}

-- the members of m below n
abbrev pub Among : ℕ → ℕ → ℕ → Type 0
Among m n i = (i < n) × Has m i

-- what is picked is a member, if there is one
abbrev pub Picked : ℕ → ℕ → Option ℕ → Type 0
Picked m n None = (i : ℕ) → i < n → Has m i → ⊥
Picked m n (Some k) = Among m n k

module _ {U : Type 0} (urgent : U → U → Bool) where
  pub first_picked : (lev : ℕ → Option U) (m n : ℕ) → Picked m n (first_below urgent lev n m)
  unfolding first_below
  first_picked lev m zero = λ i l h. absurd (omega arith)
  first_picked lev m (suc n) = go (has m n) refl (first_below urgent lev n m) (first_picked lev m n)
    where
      pick : (k : ℕ) → Among m n k → Has m n → (x : Bool) → Picked m (suc n) (cond x (Some k) (Some n))
      pick k (l, h) g true = (omega arith, h)
      pick k (l, h) g false = (omega arith, g)

      go : (x : Bool) → has m n ≡ x → (r : Option ℕ) → Picked m n r → Picked m (suc n) (elim x [ true ↦ better urgent lev r n | false ↦ r ])
      go true e None p = (omega arith, has_T m n (subst T (sym e) tt))
      go true e (Some k) p = pick k p (has_T m n (subst T (sym e) tt)) (above urgent (lev k) (lev n))
      go false e None p = one_more (λ i. Has m i → ⊥) n p (λ h. subst T e (T_has m n h))
      go false e (Some k) (l, h) = (omega arith, h)

  -- the first of a set is of it
  pub first_has : (lev : ℕ → Option U) (m i : ℕ) → first urgent lev m ≡ Some i → Has m i
  first_has lev m i e = let p : Among m 64 i = subst (Picked m 64) e (first_picked lev m 64) in p.1

  -- levels that are equal on the members have the same first
  same_below : (lev lev' : ℕ → Option U) (m n : ℕ) → ((i : ℕ) → Has m i → lev i ≡ lev' i) → first_below urgent lev n m ≡ first_below urgent lev' n m
  unfolding first_below
  same_below lev lev' m zero same = refl
  same_below lev lev' m (suc n) same = go (has m n) refl (first_below urgent lev n m) (first_below urgent lev' n m) (same_below lev lev' m n same) (first_picked lev m n)
    where
      pick : (r : Option ℕ) → Picked m n r → Has m n → better urgent lev r n ≡ better urgent lev' r n
      pick None p h = refl
      pick (Some k) (l, g) h =
          ap (λ u. cond (above urgent u (lev n)) (Some k) (Some n)) (same k g) ∙ ap (λ u. cond (above urgent (lev' k) u) (Some k) (Some n)) (same n h)

      go : (x : Bool) → has m n ≡ x → (r q : Option ℕ) → r ≡ q → Picked m n r
          → ◌≡◌ {A = Option ℕ} (elim x [ true ↦ better urgent lev r n | false ↦ r ]) (elim x [ true ↦ better urgent lev' q n | false ↦ q ])
      go true e r q s p = pick r p (has_T m n (subst T (sym e) tt)) ∙ ap (λ r. better urgent lev' r n) s
      go false e r q s p = s

  pub first_same : (lev lev' : ℕ → Option U) (m : ℕ) → ((i : ℕ) → Has m i → lev i ≡ lev' i) → first urgent lev m ≡ first urgent lev' m
  first_same lev lev' m same = same_below lev lev' m 64 same

  module _ (order : Order (λ u v. T (urgent u v))) where
    pub first_of : (lev : ℕ → Option U) (m n : ℕ) → First (Above urgent) (Among m n) lev (first_below urgent lev n m)
    unfolding first_below
    first_of lev m zero = λ i (l, h). absurd (omega arith)
    first_of lev m (suc n) = go (has m n) refl (first_below urgent lev n m) (first_of lev m n)
      where
        -- one more member, and none of the others
        wider : (Q : ℕ → Type 0) → ((i : ℕ) → Among m n i → Q i) → (Has m n → Q n) → (i : ℕ) → Among m (suc n) i → Q i
        wider Q old new i (l, h) = one_more (λ i. Has m i → Q i) n (λ i l h. old i (l, h)) new i l h

        pick : (k : ℕ) → IsFirst (Above urgent) (Among m n) lev k → Has m n → (x : Bool) → above urgent (lev k) (lev n) ≡ x
            → First (Above urgent) (Among m (suc n)) lev (cond x (Some k) (Some n))
        pick k p h true e = let (l, g) = p.member in record {
          member = (omega arith, g);
          most = wider (λ i. Above urgent (lev k) (lev i)) p.most (λ _. subst T (sym e) tt);
          earliest = λ i s (_, q). p.earliest i s (omega arith, q);
        }
        pick k p h false e =
            let more : Above urgent (lev n) (lev k) = ⊎_elim (λ x. x) (λ x. absurd (subst T e x)) ((order_above urgent order).total (lev n) (lev k)) in record {
              member = (omega arith, h);
              most = wider (λ i. Above urgent (lev n) (lev i)) (λ i q. (order_above urgent order).trans {u = lev n} {v = lev k} {w = lev i} more (p.most i q)) (λ _. itself (order_above urgent order) (lev n));
              earliest = λ i s (_, q) a. subst T e ((order_above urgent order).trans {u = lev k} {v = lev i} {w = lev n} (p.most i (s, q)) a);
            }

        go : (x : Bool) → has m n ≡ x → (r : Option ℕ) → First (Above urgent) (Among m n) lev r
            → First (Above urgent) (Among m (suc n)) lev (elim x [ true ↦ better urgent lev r n | false ↦ r ])
        go true e None p = record {
          member = (omega arith, has_T m n (subst T (sym e) tt));
          most = wider (λ i. Above urgent (lev n) (lev i)) (λ i q. absurd (p i q)) (λ _. itself (order_above urgent order) (lev n));
          earliest = λ i s (_, q) _. p i (s, q);
        }
        go true e (Some k) p = pick k p (has_T m n (subst T (sym e) tt)) (above urgent (lev k) (lev n)) refl
        go false e None p = wider (λ i. ⊥) p (λ h. subst T e (T_has m n h))
        go false e (Some k) p = let (l, g) = p.member in record {
          member = (omega arith, g);
          most = wider (λ i. Above urgent (lev k) (lev i)) p.most (λ h. absurd (subst T e (T_has m n h)));
          earliest = λ i s (_, q). p.earliest i s (omega arith, q);
        }

    module _ (b : Book U) (f : Sound b.waits) where
      pub running_first : First (Above urgent) (IsReady b.waits) (level urgent b) (running urgent b)
      running_first = go (running urgent b) (first_of (level urgent b) (doing b.waits Ready) 64)
        where
          among : (i : ℕ) → IsReady b.waits i → Among (doing b.waits Ready) 64 i
          among i r = (f.tasks< i (does_is Ready (b.waits.tasks i) r).0, in_doing b.waits f Ready i r)

          go : (o : Option ℕ) → First (Above urgent) (Among (doing b.waits Ready) 64) (level urgent b) o → First (Above urgent) (IsReady b.waits) (level urgent b) o
          go None p = λ i r. p i (among i r)
          go (Some k) p = record {
            member = from_doing b.waits Ready k p.member.1;
            most = λ i r. p.most i (among i r);
            earliest = λ i s r. p.earliest i s (among i r);
          }

      pub running_most : (t : ℕ) → running urgent b ≡ Some t
          → IsMost (Above urgent) (λ i. (r : ℕ) × IsReady b.waits r × Chain (Awaits b.waits) i r) b.base (level urgent b t)
      running_most t e =
          let p : IsFirst (Above urgent) (IsReady b.waits) (level urgent b) t = subst (First (Above urgent) (IsReady b.waits) (level urgent b)) e running_first in
          let (i, c, q) = (lv t p.member).some in record {
            some = (i, (t, p.member, c), q);
            all = λ i (r, h, c). (order_above urgent order).trans {u = level urgent b t} {v = level urgent b r} {w = b.base i} (p.most r h) ((lv r h).all i c);
          }
        where
          lv : (r : ℕ) → IsReady b.waits r → IsLevel (Above urgent) (Awaits b.waits) b.base r (level urgent b r)
          lv r h = levelled urgent order b f r (does_is Ready (b.waits.tasks r) h).0
