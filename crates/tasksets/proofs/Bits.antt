-- The laws of single bits: what sums, unions, meets and complements of sets have at each place.
use Rattle.std.proofs.Common.{◌≡◌, ℕ, zero, suc, ◌+◌, ◌-◌, ◌/◌, ◌%◌, ◌^◌, ◌<◌, ◌≤◌, min, max, false, not, ◌&&◌, ◌||◌, eqb, ◌≢◌, ◌⊎◌, sym, refl, ap, ◌∙◌, inl, inr, le_of_suc-le-suc, pow-suc, one-add, arith, shr-shr}
use native.Mathlib.Decide.{ℕ_discrete}
use lib.Bits.{bit_and, bit_or, and_shr, or_shr, and_step, or_step, or_zero_r, or_add_and, and_le_l, and_le_r}
use lib.Count.{count_trailing_zeros, under}
use Rattle.std.proofs.lemmas.Bool.{eq-eqb, ne_eqb}
use Rattle.tasksets.specs.Sets.{bit, Has, has, Smallest}

pub bit_le : (m k : ℕ) → bit m k ≤ 1
unfolding bit
bit_le m k = omega arith

pub bit_zero : (m : ℕ) → bit m 0 ≡ m % 2
unfolding bit
bit_zero m = omega arith

pub bit_suc : (m k : ℕ) → bit m (suc k) ≡ bit (m / 2) k
unfolding bit
bit_suc m k = ap (λ x. x % 2) (sym (shr-shr m 1 k ∙ ap (λ x. m / 2 ^ x) (one-add k)))

-- as a shift and a mask leave it
pub bit_shifted : (m k : ℕ) → m / 2 ^ k % 2 ≡ bit m k
unfolding bit
bit_shifted m k = refl

pub bit_of_and : (a b k : ℕ) → bit (bit_and a b) k ≡ min (bit a k) (bit b k)
unfolding bit
bit_of_and a b k = rw and_shr (omega (arith, and_step (a / 2 ^ k) (b / 2 ^ k)))

pub bit_of_or : (a b k : ℕ) → bit (bit_or a b) k ≡ max (bit a k) (bit b k)
unfolding bit
bit_of_or a b k = rw or_shr (omega (arith, or_step (a / 2 ^ k) (b / 2 ^ k)))

pub bit_none : (k : ℕ) → bit 0 k ≡ 0
bit_none zero = bit_zero 0
bit_none (suc k) = bit_suc 0 k ∙ bit_none k

-- the complement in w bits
pub bit_not : (w m k : ℕ) → m < 2 ^ w → k < w → bit (2 ^ w - 1 - m) k ≡ 1 - bit m k
bit_not zero m k h l = omega arith
bit_not (suc w) m zero h l = rw (bit_zero (2 ^ suc w - 1 - m), bit_zero m) (omega (arith, pow-suc 2 w))
bit_not (suc w) m (suc k) h l =
    let half : (2 ^ suc w - 1 - m) / 2 ≡ 2 ^ w - 1 - m / 2 = omega (arith, pow-suc 2 w) in
    let less : m / 2 < 2 ^ w = omega (arith, pow-suc 2 w) in
    bit_suc (2 ^ suc w - 1 - m) k ∙ ap (λ y. bit y k) half ∙ bit_not w (m / 2) k less (omega arith) ∙ ap (λ y. 1 - y) (sym (bit_suc m k))

pub bit_pow : (i : ℕ) → bit (2 ^ i) i ≡ 1
bit_pow zero = bit_zero 1
bit_pow (suc i) =
    let half : 2 ^ suc i / 2 ≡ 2 ^ i = omega (arith, pow-suc 2 i) in
    bit_suc (2 ^ suc i) i ∙ ap (λ y. bit y i) half ∙ bit_pow i

pub bit_pow_other : (i k : ℕ) → k ≢ i → bit (2 ^ i) k ≡ 0
bit_pow_other zero zero n = absurd (n refl)
bit_pow_other zero (suc k) n = bit_suc 1 k ∙ bit_none k
bit_pow_other (suc i) zero n = bit_zero (2 ^ suc i) ∙ omega (arith, pow-suc 2 i)
bit_pow_other (suc i) (suc k) n =
    let half : 2 ^ suc i / 2 ≡ 2 ^ i = omega (arith, pow-suc 2 i) in
    bit_suc (2 ^ suc i) k ∙ ap (λ y. bit y k) half ∙ bit_pow_other i k (omega arith)

pub has_pow : (i k : ℕ) → Has (2 ^ i) k → k ≡ i
has_pow i k h = go (ℕ_discrete k i)
  where
    go : Dec (k ≡ i) → k ≡ i
    go (yes p) = p
    go (no p) = absurd (omega (arith, bit_pow_other i k p))

-- a member of a set of w bits is below w
pub has_below : (w m k : ℕ) → m < 2 ^ w → Has m k → k < w
has_below zero m k h b = let e : m ≡ 0 = omega arith in omega (arith, bit_none k, ap (λ x. bit x k) e)
has_below (suc w) m zero h b = omega arith
has_below (suc w) m (suc k) h b =
    let less : m / 2 < 2 ^ w = omega (arith, pow-suc 2 w) in
    omega (arith, has_below w (m / 2) k less (sym (bit_suc m k) ∙ b))

pub bit_past : (w m k : ℕ) → m < 2 ^ w → w ≤ k → bit m k ≡ 0
bit_past w m k h l =
    let out : (Has m k → ⊥) = λ b. let below : k < w = has_below w m k h b in omega arith in
    omega (arith, bit_le m k)

-- the number of zeros at the end is the smallest member
pub lowest : (w m : ℕ) → 0 < m → m < 2 ^ w → (count_trailing_zeros w m < w) × Smallest m (count_trailing_zeros w m)
unfolding count_trailing_zeros
lowest zero m p h = omega arith
lowest (suc w) m p h = go (m % 2) refl (lowest w (m / 2))
  where
    go : (d : ℕ) → m % 2 ≡ d
        → (0 < m / 2 → m / 2 < 2 ^ w → (count_trailing_zeros w (m / 2) < w) × Smallest (m / 2) (count_trailing_zeros w (m / 2)))
        → (under d (count_trailing_zeros w (m / 2)) < suc w) × Smallest m (under d (count_trailing_zeros w (m / 2)))
    go zero e rest = (omega (arith, r.0), record { member = bit_suc m t ∙ r.1.member; least = least })
      where
        t : ℕ
        t = count_trailing_zeros w (m / 2)

        r : (count_trailing_zeros w (m / 2) < w) × Smallest (m / 2) (count_trailing_zeros w (m / 2))
        r = rest (omega arith) (omega (arith, pow-suc 2 w))

        least : (j : ℕ) → j < suc (count_trailing_zeros w (m / 2)) → Has m j → ⊥
        least zero l b = omega (arith, bit_zero m)
        least (suc j) l b = r.1.least j (le_of_suc-le-suc l) (sym (bit_suc m j) ∙ b)
    go (suc d) e rest =
        (omega arith, record { member = bit_zero m ∙ omega arith; least = λ j l b. omega arith })

-- two sets of w bits with the same members are equal
pub same_bits : (w a b : ℕ) → a < 2 ^ w → b < 2 ^ w → ((k : ℕ) → k < w → bit a k ≡ bit b k) → a ≡ b
same_bits zero a b h l e = omega arith
same_bits (suc w) a b h l e =
    let halves : a / 2 ≡ b / 2 = same_bits w (a / 2) (b / 2) (omega (arith, pow-suc 2 w)) (omega (arith, pow-suc 2 w))
    (λ k lt. sym (bit_suc a k) ∙ e (suc k) (omega arith) ∙ bit_suc b k) in
    let ends : a % 2 ≡ b % 2 = sym (bit_zero a) ∙ e 0 (omega arith) ∙ bit_zero b in
    omega arith

-- a union with something new is a larger number
pub or_grows : (a b k : ℕ) → bit a k ≡ 0 → Has b k → a < bit_or a b
or_grows a b k n h =
    let other : bit_or a b ≢ a = λ e. let one : bit a k ≡ 1 = ap (λ x. bit x k) (sym e) ∙ bit_of_or a b k ∙ omega arith in omega arith in
    omega (arith, or_add_and a b, and_le_r a b)

-- a meet that drops a member is a smaller number
pub and_falls : (a b k : ℕ) → Has a k → bit b k ≡ 0 → bit_and a b < a
and_falls a b k h n =
    let other : bit_and a b ≢ a = λ e. let gone : bit a k ≡ 0 = ap (λ x. bit x k) (sym e) ∙ bit_of_and a b k ∙ omega arith in omega arith in
    omega (arith, and_le_l a b)

pub has_or : (a b k : ℕ) → Has (bit_or a b) k → Has a k ⊎ Has b k
has_or a b k h = go (ℕ_discrete (bit a k) 1)
  where
    go : Dec (Has a k) → Has a k ⊎ Has b k
    go (yes p) = inl p
    go (no p) = inr (omega (arith, bit_of_or a b k, bit_le a k, bit_le b k))

pub or_in_left : (a b k : ℕ) → Has a k → Has (bit_or a b) k
or_in_left a b k h = bit_of_or a b k ∙ omega (arith, bit_le b k)

pub or_in_right : (a b k : ℕ) → Has b k → Has (bit_or a b) k
or_in_right a b k h = bit_of_or a b k ∙ omega (arith, bit_le a k)

-- a union with a new member is a sum
pub or_new : (i a : ℕ) → bit a i ≡ 0 → bit_or a (2 ^ i) ≡ a + 2 ^ i
or_new zero a h = omega (arith, or_step a 1, or_zero_r (a / 2), bit_zero a)
or_new (suc i) a h =
    let half : 2 ^ suc i / 2 ≡ 2 ^ i = omega (arith, pow-suc 2 i) in
    omega (arith, or_step a (2 ^ suc i), ap (bit_or (a / 2)) half, or_new i (a / 2) (sym (bit_suc a i) ∙ h), pow-suc 2 i)

-- the same laws of the test `has`
either_is : (x y : ℕ) → x ≤ 1 → y ≤ 1 → eqb (max x y) 1 ≡ (eqb x 1 || eqb y 1)
either_is zero zero p q = refl
either_is zero (suc zero) p q = refl
either_is (suc zero) zero p q = refl
either_is (suc zero) (suc zero) p q = refl
either_is (suc (suc x)) y p q = absurd (omega arith)
either_is zero (suc (suc y)) p q = absurd (omega arith)
either_is (suc zero) (suc (suc y)) p q = absurd (omega arith)

both_are : (x y : ℕ) → x ≤ 1 → y ≤ 1 → eqb (min x y) 1 ≡ (eqb x 1 && eqb y 1)
both_are zero zero p q = refl
both_are zero (suc zero) p q = refl
both_are (suc zero) zero p q = refl
both_are (suc zero) (suc zero) p q = refl
both_are (suc (suc x)) y p q = absurd (omega arith)
both_are zero (suc (suc y)) p q = absurd (omega arith)
both_are (suc zero) (suc (suc y)) p q = absurd (omega arith)

other_is : (x : ℕ) → x ≤ 1 → eqb (1 - x) 1 ≡ not (eqb x 1)
other_is zero p = refl
other_is (suc zero) p = refl
other_is (suc (suc x)) p = absurd (omega arith)

pub or_has : (a b k : ℕ) → has (bit_or a b) k ≡ (has a k || has b k)
or_has a b k = ap (λ x. eqb x 1) (bit_of_or a b k) ∙ either_is (bit a k) (bit b k) (bit_le a k) (bit_le b k)

pub and_has : (a b k : ℕ) → has (bit_and a b) k ≡ (has a k && has b k)
and_has a b k = ap (λ x. eqb x 1) (bit_of_and a b k) ∙ both_are (bit a k) (bit b k) (bit_le a k) (bit_le b k)

pub not_has : (w m k : ℕ) → m < 2 ^ w → k < w → has (2 ^ w - 1 - m) k ≡ not (has m k)
not_has w m k h l = ap (λ x. eqb x 1) (bit_not w m k h l) ∙ other_is (bit m k) (bit_le m k)

pub pow_has : (i k : ℕ) → has (2 ^ i) k ≡ eqb k i
pow_has i k = go (ℕ_discrete k i)
  where
    go : Dec (k ≡ i) → has (2 ^ i) k ≡ eqb k i
    go (yes e) = eq-eqb _ 1 (ap (bit (2 ^ i)) e ∙ bit_pow i) ∙ sym (eq-eqb k i e)
    go (no n) = ap (λ x. eqb x 1) (bit_pow_other i k n) ∙ sym (ne_eqb k i n)

pub past_has : (w m k : ℕ) → m < 2 ^ w → w ≤ k → has m k ≡ false
past_has w m k h l = ap (λ x. eqb x 1) (bit_past w m k h l)

-- nothing is a member of no set
pub none_has : (k : ℕ) → has 0 k ≡ false
none_has k = ap (λ x. eqb x 1) (bit_none k)
