-- The loop that writes the levels into the rows, task by task.
use Rattle.std.proofs.Common.{◌≡◌, ℕ, zero, suc, ◌+◌, ◌^◌, ◌<◌, ◌≤◌, Bool, true, false, cond, not, ◌&&◌, T, ◌⊎◌, List, length, is_some, Some, None, Option, sym, refl, ap, ◌∙◌, subst, inl, inr, arith, pow_mono, slice_get}
use mathlib.Core.Path.{fun_ext}
use native.Mathlib.Decide.{ℕ_discrete, dec_lt}
use Rattle.std.specs.Option.{option_and, option_map}
use Rattle.urgency.specs.Order.{upper, same}
use Rattle.tasksets.specs.Sets.{has, those_below}
use Rattle.tasksets.proofs.Sets.{T_has, below_lt, those_start}
use Rattle.waits.specs.declared.parts.Wait.{Wait}
use Rattle.waits.specs.declared.table.WaitTable.{WaitTable}
use Rattle.waits.specs.Chain.{here}
use Rattle.waits.specs.Facts.{Present}
use Rattle.waits.specs.Reach.{leading}
use Rattle.waits.specs.Table.{waits_of}
use Rattle.waits.proofs.Tests.{true_of}
use Rattle.waits.proofs.Reach.{leading_all}
use Rattle.waits.proofs.Tables.{facts_of}
use Rattle.book.specs.declared.row.Row.{Row}
use Rattle.book.specs.Book.{most_below, level}
use Rattle.book.specs.Kernel.{row_levels}
use Rattle.inheritance.specs.Rows.{held, releveled, Settled}
use Rattle.inheritance.proofs.Rows.{row_some}
use Rattle.inheritance.proofs.Mosts.{most_same}

module _ {U : Type 0} (urgent : U → U → Bool) where
  -- a level is there where a member's value is
  upper_some : (u v : Option U) → T (is_some u) ⊎ T (is_some v) → T (is_some (upper urgent u v))
  upper_some None None (inl p) = p
  upper_some None None (inr p) = p
  upper_some None (Some v) p = tt
  upper_some (Some u) None p = tt
  upper_some (Some u) (Some v) p = go (urgent u v)
    where
      go : (x : Bool) → T (is_some (cond x (Some u) (Some v)))
      go true = tt
      go false = tt

  most_some : (value : ℕ → Option U) (m n t : ℕ) → t < n → has m t ≡ true → T (is_some (value t)) → T (is_some (most_below urgent value n m))
  unfolding most_below
  most_some value m zero t l h p = absurd (omega arith)
  most_some value m (suc n) t l h p = go (has m n) refl (ℕ_discrete t n) (λ b. most_some value m n t b h p)
    where
      go : (x : Bool) → has m n ≡ x → Dec (t ≡ n) → (t < n → T (is_some (most_below urgent value n m)))
          → T (is_some (elim x [ true ↦ upper urgent (most_below urgent value n m) (value n) | false ↦ most_below urgent value n m ]))
      go true e (yes q) rest = upper_some (most_below urgent value n m) (value n) (inr (subst (λ k. T (is_some (value k))) q p))
      go true e (no q) rest = upper_some (most_below urgent value n m) (value n) (inl (rest (omega arith)))
      go false e (yes q) rest = absurd (subst T (sym h ∙ ap (has m) q ∙ e) tt)
      go false e (no q) rest = rest (omega arith)

module _ {U : Type 0} (urgent : U → U → Bool) (t : WaitTable) (standing : ℕ) (rows : List (Row U)) where
  -- the level of i, and whether it is noted as changed
  abbrev to : ℕ → Option U
  to i = level urgent (held t rows) i

  abbrev pub noted : ℕ → Bool
  noted i = has standing i && not (same urgent (row_levels rows i) (to i))

  -- the tasks below n have their levels, the others are still to come
  pub record Settling (n : ℕ) (now : List (Row U)) (changed : ℕ) : Type 0 where
    pub done : (j : ℕ) → j < n → slice_get now j ≡ option_map (releveled ((waits_of t).tasks j) (to j)) (slice_get rows j)
    pub rest : (j : ℕ) → n ≤ j → slice_get now j ≡ slice_get rows j
    pub found : changed ≡ those_below n noted

  pub settling_start : Settling 0 rows 0
  settling_start = record { done = λ j l. absurd (omega arith); rest = λ j l. refl; found = those_start noted }

  same_base : (w : Option Wait) (u : Option U) (r : Option (Row U)) → option_map (λ r. r.base) (option_map (releveled w u) r) ≡ option_map (λ r. r.base) r
  same_base w u None = refl
  same_base None u (Some r) = refl
  same_base (Some w) None (Some r) = refl
  same_base (Some w) (Some u) (Some r) = refl

  -- levels alone are written: the book stays
  pub settling_book : (n : ℕ) (now : List (Row U)) (changed : ℕ) → Settling n now changed → held t now ≡ held t rows
  settling_book n now changed s = ap (λ f. record { waits = waits_of t; base = f }) (fun_ext (λ i. ap (option_and ((waits_of t).tasks i)) (go i (dec_lt i n))))
    where
      go : (i : ℕ) → Dec (i < n) → option_map (λ r. r.base) (slice_get now i) ≡ option_map (λ r. r.base) (slice_get rows i)
      go i (yes l) = ap (option_map (λ r. r.base)) (s.done i l) ∙ same_base ((waits_of t).tasks i) (to i) (slice_get rows i)
      go i (no l) = ap (option_map (λ r. r.base)) (s.rest i (omega arith))

  pub settling_lt : (n changed : ℕ) → n < 64 → changed ≡ those_below n noted → changed < 2 ^ 64
  settling_lt n changed l e = omega (arith, below_lt n noted, pow_mono {i = n} {j = 64} (omega arith))

  -- a turn: the level is worked out, compared and written
  module _ (n : ℕ) (now next : List (Row U)) (changed changed' set : ℕ) (u : Option U) (s : Settling n now changed) (l : n < 64)
      (members : (j : ℕ) → j < 64 → has set j ≡ has (leading (waits_of t) n) j) (most : u ≡ most_below urgent (held t now).base 64 set)
      (here : slice_get next n ≡ option_map (releveled ((waits_of t).tasks n) u) (slice_get now n)) (others : (j : ℕ) → (j ≡ n → ⊥) → slice_get next j ≡ slice_get now j) where
    pub turn_level : u ≡ to n
    turn_level = most ∙ most_same urgent (held t now).base 64 set (leading (waits_of t) n) members ∙ ap (λ b. level urgent b n) (settling_book n now changed s)

    -- what the comparison told
    pub turn_noted : (has standing n && not (same urgent (row_levels now n) u)) ≡ noted n
    turn_noted = ap (λ r. has standing n && not (same urgent (option_map (λ r. r.level) r) u)) (s.rest n (omega arith)) ∙ ap (λ u. has standing n && not (same urgent (row_levels rows n) u)) turn_level

    pub settling_turn : changed' ≡ those_below (n + 1) noted → Settling (n + 1) next changed'
    settling_turn e = record { done = λ j b. done j b (ℕ_discrete j n); rest = λ j b. others j (λ q. omega arith) ∙ s.rest j (omega arith); found = e }
      where
        done : (j : ℕ) → j < n + 1 → Dec (j ≡ n) → slice_get next j ≡ option_map (releveled ((waits_of t).tasks j) (to j)) (slice_get rows j)
        done j b (yes q) =
            ap (slice_get next) q ∙ here ∙ ap (option_map (releveled ((waits_of t).tasks n) u)) (s.rest n (omega arith)) ∙ ap (λ u. option_map (releveled ((waits_of t).tasks n) u) (slice_get rows n)) turn_level
            ∙ sym (ap (λ j. option_map (releveled ((waits_of t).tasks j) (to j)) (slice_get rows j)) q)
        done j b (no q) = others j q ∙ s.done j (omega arith)

  -- all 64 are done
  module _ (now : List (Row U)) (changed : ℕ) (s : Settling 64 now changed) (size : length now ≡ length rows) where
    -- a present task has a row, and so a base and a level
    written : (i : ℕ) → Present (waits_of t) i → i < length rows → row_levels now i ≡ to i
    written i p there =
        let low = (facts_of t).sound.tasks< i p in
        ap (option_map (λ r. r.level)) (s.done i low) ∙ go ((waits_of t).tasks i) p (slice_get rows i) (row_some rows i there) (to i) (most_some urgent (held t rows).base (leading (waits_of t) i) 64 i low (self i low) (based i ((waits_of t).tasks i) p (slice_get rows i) (row_some rows i there)))
      where
        self : (i : ℕ) → i < 64 → has (leading (waits_of t) i) i ≡ true
        self i l = true_of (has (leading (waits_of t) i) i) (T_has (leading (waits_of t) i) i (leading_all (waits_of t) (facts_of t).sound i l i here))

        based : (i : ℕ) (o : Option Wait) → T (is_some o) → (r : Option (Row U)) → T (is_some r) → T (is_some (option_and o (option_map (λ r. r.base) r)))
        based i (Some w) p (Some r) q = tt
        based i (Some w) p None q = q
        based i None p r q = absurd p

        go : (o : Option Wait) → T (is_some o) → (r : Option (Row U)) → T (is_some r) → (u : Option U) → T (is_some u) → option_map (λ r. r.level) (option_map (releveled o u) r) ≡ u
        go (Some w) p (Some r) q (Some u) h = refl
        go (Some w) p (Some r) q None h = absurd h
        go (Some w) p None q u h = absurd q
        go None p r q u h = absurd p

    unwritten : (i : ℕ) → (Present (waits_of t) i → ⊥) → slice_get now i ≡ slice_get rows i
    unwritten i ne = go (dec_lt i 64)
      where
        same_row : (o : Option Wait) → (T (is_some o) → ⊥) → (u : Option U) (r : Option (Row U)) → option_map (releveled o u) r ≡ r
        same_row None ne u None = refl
        same_row None ne u (Some r) = refl
        same_row (Some w) ne u r = absurd (ne tt)

        go : Dec (i < 64) → slice_get now i ≡ slice_get rows i
        go (yes l) = s.done i l ∙ same_row ((waits_of t).tasks i) ne (to i) (slice_get rows i)
        go (no l) = s.rest i (omega arith)

    pub settled : Settled urgent t standing rows now changed
    settled =
        let stays = settling_book 64 now changed s in record {
          book = stays;
          right = λ i p l. written i p l ∙ ap (λ b. level urgent b i) (sym stays);
          kept = record { size = size; rest = unwritten };
          changed = s.found;
        }
