-- Loops that turn the tasks along chains from each task into the tasks with a chain to each.
use Rattle.std.proofs.Common.{◌≡◌, ℕ, ◌+◌, ◌<◌, ◌≤◌, Bool, true, false, not, ◌&&◌, ◌||◌, T, eqb, ltb, List, length, get_or, set, sym, refl, ap, ◌∙◌, subst, arith, length-set}
use native.Mathlib.Decide.{ℕ_discrete}
use Rattle.std.proofs.lemmas.List.{get_or-set_same, get_or-set_other}
use Rattle.std.proofs.lemmas.Bool.{eq-eqb, ne_eqb}
use Rattle.std.proofs.lemmas.Bool.Decides.{nat_tests}
use Rattle.tasksets.specs.Sets.{Has, has}
use Rattle.tasksets.proofs.Sets.{T_has, has_T}
use Rattle.waits.specs.declared.table.WaitTable.{WaitTable}
use Rattle.waits.specs.Chain.{Reached}
use Rattle.waits.specs.Waits.{Awaits}
use Rattle.waits.specs.Reach.{leading}
use Rattle.waits.specs.Table.{waits_of}
use Rattle.waits.proofs.Reach.{leading_only, leading_all}
use Rattle.waits.proofs.Tables.{facts_of}

module _ (to i : ℕ) (before : List ℕ) where
  -- member j of the set of t, where i was added to the sets of to
  abbrev pub added : ℕ → ℕ → Bool
  added t j = has (get_or before t 0) j || (has to t && eqb j i)

  -- the sets of the members of left are as they were, the others have i added where they are of to
  pub record Adding (left : ℕ) (sets : List ℕ) : Type 0 where
    pub long : length sets ≡ length before
    pub inside : (t : ℕ) → has left t ≡ true → has to t ≡ true
    pub still : (t : ℕ) → has left t ≡ true → get_or sets t 0 ≡ get_or before t 0
    pub done : (t j : ℕ) → j < 64 → has left t ≡ false → has (get_or sets t 0) j ≡ added t j

  module _ {left left' k : ℕ} (v : ℕ) {sets sets' : List ℕ} (r : Adding left sets) (h : has left k ≡ true) (l : k < length before)
      (fewer : (t : ℕ) → has left' t ≡ (has left t && not (eqb t k))) (one : (j : ℕ) → j < 64 → has v j ≡ (has (get_or sets k 0) j || eqb j i)) (e : sets' ≡ set sets k v) where
    pub adding_turn : Adding left' sets'
    adding_turn = record {
      long = ap length e ∙ length-set sets k v ∙ r.long;
      inside = λ t g. r.inside t (in_left t g).0;
      still = λ t g. other t (in_left t g).1 ∙ r.still t (in_left t g).0;
      done = λ t j b g. done t j b g (ℕ_discrete t k);
    }
      where
        split : (x y : Bool) → (x && not y) ≡ true → (x ≡ true) × (y ≡ false)
        split true false e = (refl, refl)
        split true true e = (refl, sym e)
        split false y e = (e, absurd (subst T (sym e) tt))

        in_left : (t : ℕ) → has left' t ≡ true → (has left t ≡ true) × (t ≡ k → ⊥)
        in_left t g = let (a, b) = split (has left t) (eqb t k) (sym (fewer t) ∙ g) in (a, λ q. subst T (sym (eq-eqb t k q) ∙ b) tt)

        other : (t : ℕ) → (t ≡ k → ⊥) → get_or sets' t 0 ≡ get_or sets t 0
        other t ne = ap (λ xs. get_or xs t 0) e ∙ get_or-set_other sets k t v 0 ne

        here : get_or sets' k 0 ≡ v
        here = ap (λ xs. get_or xs k 0) e ∙ get_or-set_same sets k v 0 (omega (arith, r.long))

        out : (x y : Bool) → (x && not y) ≡ false → y ≡ false → x ≡ false
        out true false e q = e
        out true true e q = q
        out false y e q = refl

        done : (t j : ℕ) → j < 64 → has left' t ≡ false → Dec (t ≡ k) → has (get_or sets' t 0) j ≡ added t j
        done t j b g (yes q) =
            ap (λ x. has (get_or sets' x 0) j) q ∙ ap (λ m. has m j) here ∙ one j b ∙ ap (λ m. has m j || eqb j i) (r.still k h)
            ∙ sym (ap (λ x. added x j) q ∙ ap (λ x. has (get_or before k 0) j || (x && eqb j i)) (r.inside k h))
        done t j b g (no n) = ap (λ m. has m j) (other t n) ∙ r.done t j b (out (has left t) (eqb t k) (sym (fewer t) ∙ g) (ne_eqb t k n))

-- j is reached from i just where i is among those leading to j
pub reached_leads : (t : WaitTable) (i j r : ℕ) → j < 64 → Reached (Awaits (waits_of t)) i (Has r) → has r j ≡ has (leading (waits_of t) j) i
reached_leads t i j r l reached = same (has r j) (has (leading (waits_of t) j) i)
    (λ h. T_has (leading (waits_of t) j) i (leading_all (waits_of t) (facts_of t).sound j l i (reached.only j (has_T r j h))))
    (λ h. T_has r j (reached.all j l (leading_only (waits_of t) (facts_of t).sound j l i (has_T (leading (waits_of t) j) i h))))
  where
    same : (x y : Bool) → (T x → T y) → (T y → T x) → x ≡ y
    same true true f g = refl
    same true false f g = absurd (f tt)
    same false true f g = absurd (g tt)
    same false false f g = refl

-- below 0 there is none; one more number taken into account
pub below_none : (x : Bool) (j : ℕ) → false ≡ (x && ltb j 0)
below_none true j = grind (arith, nat_tests)
below_none false j = refl

pub below_more : (p : ℕ → Bool) (j i : ℕ) → ((p j && ltb j i) || (p i && eqb j i)) ≡ (p j && ltb j (i + 1))
below_more p j i = go (ℕ_discrete j i)
  where
    here : (x : Bool) → ((x && ltb i i) || (x && eqb i i)) ≡ (x && ltb i (i + 1))
    here true = grind (arith, nat_tests)
    here false = refl

    there : (x y : Bool) → (j ≡ i → ⊥) → ((x && ltb j i) || (y && eqb j i)) ≡ (x && ltb j (i + 1))
    there true true ne = grind (arith, nat_tests)
    there true false ne = grind (arith, nat_tests)
    there false true ne = ne_eqb j i ne
    there false false ne = refl

    go : Dec (j ≡ i) → ((p j && ltb j i) || (p i && eqb j i)) ≡ (p j && ltb j (i + 1))
    go (yes e) = subst (λ k. ((p k && ltb k i) || (p i && eqb k i)) ≡ (p k && ltb k (i + 1))) (sym e) (here (p i))
    go (no ne) = there (p j) (p i) ne

pub below_all : (x : Bool) (j i : ℕ) → j < 64 → 64 ≤ i → (x && ltb j i) ≡ x
below_all true j i l b = grind (arith, nat_tests)
below_all false j i l b = refl
