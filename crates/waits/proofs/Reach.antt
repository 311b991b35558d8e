-- `leading` has just the tasks with a chain, and `ring` says yes just where there is a ring.
use Rattle.std.proofs.Common.{◌≡◌, ℕ, zero, suc, ◌+◌, ◌^◌, ◌<◌, ◌≤◌, Bool, true, false, not, T, eqb, ◌⊎◌, sym, refl, ap, subst, inl, inr, ⊎_elim, arith, eqb→eq}
use native.Mathlib.Decide.{ℕ_discrete}
use lib.Dec.{eqb_refl}
use lib.Bits.{bit_and}
use lib.Pow.{pow-lt}
use lib.Count.{ones, ones-le}
use Rattle.tasksets.specs.Sets.{bit, Has, has, none, those}
use Rattle.tasksets.proofs.Bits.{bit_le, bit_none, bit_pow, has_pow, has_below}
use Rattle.tasksets.proofs.Sets.{T_has, has_T, below_lt, those_only, those_all, any_only, any_all, meets_only, meets_all, fewer, ones_pow}
use Rattle.waits.specs.Chain.{Chain, here, step, Ring}
use Rattle.waits.specs.Waits.{Waits, awaited, Awaits}
use Rattle.waits.specs.Facts.{Sound, Facts}
use Rattle.waits.specs.Reach.{wider, within, leading, ring}
use Rattle.waits.proofs.Tests.{false_of, or_split, or_left, or_right}
use Rattle.waits.proofs.Keeps.{inside}

module _ (w : Waits) where
  wider_only : (m : ℕ) → m < 2 ^ 64 → (i : ℕ) → Has (wider w m) i → Has m i ⊎ ((j : ℕ) × Awaits w i j × Has m j)
  wider_only m l i h = ⊎_elim (λ x. inl (has_T m i x)) (λ x. inr (meets_only (awaited w i) m l x)) (or_split (has m i) _ (those_only _ i h).0)

  wider_keeps : (m : ℕ) → m < 2 ^ 64 → (i : ℕ) → Has m i → Has (wider w m) i
  wider_keeps m l i h = those_all _ i (has_below 64 m i l h) (or_left (has m i) _ (T_has m i h))

  wider_adds : (m i j : ℕ) → i < 64 → Awaits w i j → Has m j → Has (wider w m) i
  wider_adds m i j k a h = those_all _ i k (or_right (has m i) _ (meets_all (awaited w i) m j a h))

  -- a set that has whoever awaits one of it has whoever has a chain to one of it
  closed : (m : ℕ) → ((i j : ℕ) → Awaits w i j → Has m j → Has m i) → {i t : ℕ} → Has m t → Chain (Awaits w) i t → Has m i
  closed m shut h here = h
  closed m shut h (step a c) = shut _ _ a (closed m shut h c)

  -- a set that widens has more members than before
  grows : (m : ℕ) → m < 2 ^ 64 → (m ≡ wider w m → ⊥) → ones m < ones (wider w m)
  grows m l ne =
      let f = fewer 64 m (wider w m) l (below_lt 64 _) (λ i. sub i (ℕ_discrete (bit m i) 1)) in
      let g : (ones m ≡ ones (wider w m) → ⊥) = λ e. ne (f.1 e) in
      omega (arith, f.0)
    where
      sub : (i : ℕ) → Dec (bit m i ≡ 1) → bit m i ≤ bit (wider w m) i
      sub i (yes h) = omega (arith, wider_keeps m l i h)
      sub i (no h) = omega (arith, bit_le m i)

  within_lt : (n m : ℕ) → m < 2 ^ 64 → within w n m < 2 ^ 64
  unfolding within
  within_lt zero m l = l
  within_lt (suc n) m l = go (eqb (wider w m) m) (within_lt n (wider w m) (below_lt 64 _))
    where
      go : (x : Bool) → within w n (wider w m) < 2 ^ 64 → elim x [ true ↦ m | false ↦ within w n (wider w m) ] < 2 ^ 64
      go true r = l
      go false r = r

  -- r has just the tasks with a chain to t
  record Exact (t r : ℕ) : Type 0 where
    only : (i : ℕ) → Has r i → Chain (Awaits w) i t
    all : (i : ℕ) → Chain (Awaits w) i t → Has r i

  module _ (low : (i j : ℕ) → Awaits w i j → i < 64) where
    within_exact : (t n m : ℕ) → m < 2 ^ 64 → 65 ≤ ones m + n → Has m t → ((i : ℕ) → Has m i → Chain (Awaits w) i t) → Exact t (within w n m)
    unfolding within
    within_exact t zero m l enough h led = absurd (omega (arith, ones-le 64 m l))
    within_exact t (suc n) m l enough h led = go (eqb (wider w m) m) refl (within_exact t n (wider w m) (below_lt 64 _))
      where
        go : (x : Bool) → eqb (wider w m) m ≡ x
            → (65 ≤ ones (wider w m) + n → Has (wider w m) t → ((i : ℕ) → Has (wider w m) i → Chain (Awaits w) i t) → Exact t (within w n (wider w m)))
            → Exact t (elim x [ true ↦ m | false ↦ within w n (wider w m) ])
        go true e rest =
            let same : wider w m ≡ m = eqb→eq _ _ (subst T (sym e) tt) in record {
              only = led;
              all = λ i c. closed m (λ i j a k. subst (λ x. Has x i) same (wider_adds m i j (low i j a) a k)) h c;
            }
        go false e rest =
            let ne : (m ≡ wider w m → ⊥) = λ q. subst T e (subst (λ x. T (eqb x m)) q (eqb_refl m)) in
            rest (omega (arith, grows m l ne)) (wider_keeps m l t h)
            (λ i k. ⊎_elim (λ p. led i p) (λ (j, a, p). step a (led j p)) (wider_only m l i k))

    leading_exact : (t : ℕ) → t < 64 → Exact t (leading w t)
    leading_exact t l =
        within_exact t 64 (2 ^ t) (pow-lt l) (omega (arith, ones_pow t)) (bit_pow t) (λ i h. subst (λ x. Chain (Awaits w) x t) (sym (has_pow t i h)) here)

low_of : (w : Waits) → Sound w → (i j : ℕ) → Awaits w i j → i < 64
low_of w f i j a = f.tasks< i (inside w f i j a).0

pub leading_lt : (w : Waits) (t : ℕ) → t < 64 → leading w t < 2 ^ 64
leading_lt w t l = within_lt w 64 (2 ^ t) (pow-lt l)

pub leading_only : (w : Waits) → Sound w → (t : ℕ) → t < 64 → (i : ℕ) → Has (leading w t) i → Chain (Awaits w) i t
leading_only w f t l = (leading_exact w (low_of w f) t l).only

pub leading_all : (w : Waits) → Sound w → (t : ℕ) → t < 64 → (i : ℕ) → Chain (Awaits w) i t → Has (leading w t) i
leading_all w f t l = (leading_exact w (low_of w f) t l).all

-- i awaits a task that has a chain to it
closes : Waits → ℕ → Bool
closes w i = elim (none (awaited w i)) [ true ↦ false | false ↦ not (none (bit_and (awaited w i) (leading w i))) ]

pub ring_only : (w : Waits) → Sound w → T (ring w) → (i : ℕ) × Ring (Awaits w) i
unfolding closes
ring_only w f t =
    let (i, h) = any_only (those (closes w)) (below_lt 64 _) t in
    let (c, l) = those_only (closes w) i h in
    (i, go i l (none (awaited w i)) c)
  where
    go : (i : ℕ) → i < 64 → (x : Bool) → T (elim x [ true ↦ false | false ↦ not (none (bit_and (awaited w i) (leading w i))) ]) → Ring (Awaits w) i
    go i l true c = absurd c
    go i l false c =
        let (j, a, r) = meets_only (awaited w i) (leading w i) (leading_lt w i l) c in
        (j, a, leading_only w f i l j r)

pub ring_all : (w : Waits) → Sound w → (i : ℕ) → Ring (Awaits w) i → T (ring w)
unfolding closes
ring_all w f i (j, a, c) = any_all (those (closes w)) i (those_all (closes w) i l (go (none (awaited w i)) refl))
  where
    l : i < 64
    l = low_of w f i j a

    go : (x : Bool) → none (awaited w i) ≡ x → T (elim x [ true ↦ false | false ↦ not (none (bit_and (awaited w i) (leading w i))) ])
    go true e = let z : awaited w i ≡ 0 = eqb→eq _ _ (subst T (sym e) tt) in omega (arith, bit_none j, ap (λ x. bit x j) z, a)
    go false e = meets_all (awaited w i) (leading w i) j a (leading_all w f i l j c)

pub ring_false : (w : Waits) → Facts w → ring w ≡ false
ring_false w f = false_of (ring w) (λ t. let (i, r) = ring_only w f.sound t in f.free i r)
