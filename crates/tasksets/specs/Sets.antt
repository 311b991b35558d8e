-- Sets of numbers below 64 as the bits of a number: member k has the bit of value 2 ^ k.
use Rattle.std.specs.Prelude.{◌≡◌, ℕ, zero, suc, ◌+◌, ◌/◌, ◌%◌, ◌^◌, ◌<◌, Bool, cond, not, ◌&&◌, List, filter, ◌==◌, Option, MatchOption}
use Rattle.std.specs.List.{range_with_len}

-- the bit k of m: 0 or 1
unfoldable pub bit : ℕ → ℕ → ℕ
bit m k = m / 2 ^ k % 2

-- k is a member of m
abbrev pub Has : ℕ → ℕ → Type 0
Has m k = bit m k ≡ 1

abbrev pub has : ℕ → ℕ → Bool
has m k = bit m k == 1

-- m has no member
abbrev pub none : ℕ → Bool
none m = m == 0

-- the set of the numbers below n of which p says yes
unfoldable pub those_below : ℕ → (ℕ → Bool) → ℕ
those_below zero p = 0
those_below (suc n) p = those_below n p + cond (p n) (2 ^ n) 0

-- the set of the numbers of which p says yes
abbrev pub those : (ℕ → Bool) → ℕ
those p = those_below 64 p

-- the members of m, rising
unfoldable pub members : ℕ → List ℕ
members m = filter (has m) (range_with_len 0 64)

-- how many numbers below n are members
unfoldable pub members_below : ℕ → ℕ → ℕ
members_below zero m = 0
members_below (suc n) m = members_below n m + bit m n

-- k is the smallest member of m
pub record Smallest (m k : ℕ) : Type 0 where
  pub member : Has m k
  pub least : (j : ℕ) → j < k → Has m j → ⊥

-- r is the smallest member of m, and the others are left; or m has none
abbrev pub Takes : ℕ → Option ℕ → ℕ → Type 0
Takes m r left = MatchOption r ((m ≡ 0) × (left ≡ 0)) (λ k. Smallest m k × (k < 64) × ((j : ℕ) → has left j ≡ (has m j && not (j == k))))
