-- Rows by number: reads, writes, and what lies past the end.
use Rattle.std.proofs.Common.{◌≡◌, ℕ, zero, suc, ◌<◌, T, List, [], ◌∷◌, length, set, is_some, Some, refl, ap, arith, slice_get}
use Rattle.book.specs.declared.row.Row.{Row}

module _ {U : Type 0} where
  pub row_some : (rows : List (Row U)) (i : ℕ) → i < length rows → T (is_some (slice_get rows i))
  row_some [] i l = absurd (omega arith)
  row_some (r ∷ rows) zero l = tt
  row_some (r ∷ rows) (suc i) l = row_some rows i (omega arith)

  pub row_set_same : (rows : List (Row U)) (i : ℕ) (v : Row U) → i < length rows → slice_get (set rows i v) i ≡ Some v
  row_set_same [] i v l = absurd (omega arith)
  row_set_same (r ∷ rows) zero v l = refl
  row_set_same (r ∷ rows) (suc i) v l = row_set_same rows i v (omega arith)

  pub row_set_other : (rows : List (Row U)) (i j : ℕ) (v : Row U) → (j ≡ i → ⊥) → slice_get (set rows i v) j ≡ slice_get rows j
  row_set_other [] i j v ne = refl
  row_set_other (r ∷ rows) zero zero v ne = absurd (ne refl)
  row_set_other (r ∷ rows) zero (suc j) v ne = refl
  row_set_other (r ∷ rows) (suc i) zero v ne = refl
  row_set_other (r ∷ rows) (suc i) (suc j) v ne = row_set_other rows i j v (λ e. ne (ap suc e))
