-- The laws of `those`: which members it has, how a loop builds it, and what unions, meets and counts of sets are.
use Rattle.std.proofs.Common.{◌≡◌, ℕ, zero, suc, ◌+◌, ◌/◌, ◌%◌, ◌^◌, ◌<◌, ◌≤◌, Bool, true, false, cond, not, ◌&&◌, ◌||◌, T, eqb, sym, refl, ap, ◌∙◌, subst, pow-suc, add-one, arith, eqb→eq, pow_mono}
use native.Mathlib.Decide.{ℕ_discrete}
use lib.Bits.{bit_and, bit_or, and_le_r, or_lt}
use lib.Pow.{pow-lt}
use Rattle.std.proofs.Math.Bool.{or-true, or-false}
use Rattle.std.proofs.lemmas.Bool.{eq-eqb, ne_eqb}
use lib.Count.{ones, ones_step, count_trailing_zeros}
use Rattle.tasksets.specs.Sets.{bit, Has, has, none, those, those_below, members_below}
use Rattle.tasksets.proofs.Bits.{bit_le, bit_zero, bit_suc, bit_of_and, bit_of_or, bit_none, bit_pow, bit_pow_other, bit_past, has_below, lowest, same_bits, or_new, or_has, and_has, pow_has, past_has}

-- tests and facts
pub T_has : (m k : ℕ) → Has m k → T (has m k)
T_has m k h = subst (λ x. T (eqb x 1)) (sym h) tt

pub has_T : (m k : ℕ) → T (has m k) → Has m k
has_T m k h = eqb→eq _ _ h

-- a test as a bit
abbrev pub as_bit : Bool → ℕ
as_bit b = cond b 1 0

pub bit_test : (m k : ℕ) → bit m k ≡ as_bit (has m k)
bit_test m k = go (bit m k) (bit_le m k)
  where
    go : (x : ℕ) → x ≤ 1 → x ≡ as_bit (eqb x 1)
    go zero l = refl
    go (suc zero) l = refl
    go (suc (suc x)) l = absurd (omega arith)

test_bit : (b : Bool) → eqb (as_bit b) 1 ≡ b
test_bit true = refl
test_bit false = refl

pub below_lt : (n : ℕ) (p : ℕ → Bool) → those_below n p < 2 ^ n
unfolding those_below
below_lt zero p = omega arith
below_lt (suc n) p = go (p n) (below_lt n p)
  where
    go : (x : Bool) → those_below n p < 2 ^ n → those_below n p + cond x (2 ^ n) 0 < 2 ^ suc n
    go true h = omega (arith, pow-suc 2 n)
    go false h = omega (arith, pow-suc 2 n)

-- a loop over the numbers builds the set: n goes in, or stays out
pub those_start : (p : ℕ → Bool) → 0 ≡ those_below 0 p
unfolding those_below
those_start p = refl

pub those_in : (p : ℕ → Bool) (n : ℕ) {m : ℕ} → m ≡ those_below n p → p n ≡ true → bit_or m (2 ^ n) ≡ those_below (n + 1) p
unfolding those_below
those_in p n {m} e yes' =
    let new : bit (those_below n p) n ≡ 0 = bit_past n (those_below n p) n (below_lt n p) (omega arith) in
    ap (λ x. bit_or x (2 ^ n)) e ∙ or_new n (those_below n p) new ∙ ap (λ x. those_below n p + cond x (2 ^ n) 0) (sym yes') ∙ ap (λ x. those_below x p) (sym (add-one n))

pub those_out : (p : ℕ → Bool) (n : ℕ) {m : ℕ} → m ≡ those_below n p → p n ≡ false → m ≡ those_below (n + 1) p
unfolding those_below
those_out p n {m} e no' =
    let same : those_below n p ≡ those_below n p + 0 = omega arith in
    e ∙ same ∙ ap (λ x. those_below n p + cond x (2 ^ n) 0) (sym no') ∙ ap (λ x. those_below x p) (sym (add-one n))

pub bit_those : (n : ℕ) (p : ℕ → Bool) (i : ℕ) → i < n → bit (those_below n p) i ≡ as_bit (p i)
bit_those zero p i l = absurd (omega arith)
bit_those (suc n) p i l = subst (λ x. bit (those_below x p) i ≡ as_bit (p i)) (add-one n) (go (p n) refl (ℕ_discrete i n) (bit_those n p i))
  where
    last : bit (those_below n p) n ≡ 0
    last = bit_past n (those_below n p) n (below_lt n p) (omega arith)

    go : (x : Bool) → p n ≡ x → Dec (i ≡ n) → (i < n → bit (those_below n p) i ≡ as_bit (p i)) → bit (those_below (n + 1) p) i ≡ as_bit (p i)
    go true e (yes q) before =
        ap (λ x. bit x i) (sym (those_in p n refl e)) ∙ bit_of_or (those_below n p) (2 ^ n) i
        ∙ omega (arith, ap (bit (2 ^ n)) q ∙ bit_pow n, bit_le (those_below n p) i) ∙ ap as_bit (sym (ap p q ∙ e))
    go true e (no q) before =
        ap (λ x. bit x i) (sym (those_in p n refl e)) ∙ bit_of_or (those_below n p) (2 ^ n) i
        ∙ omega (arith, bit_pow_other n i q) ∙ before (omega arith)
    go false e (yes q) before =
        ap (λ x. bit x i) (sym (those_out p n refl e)) ∙ ap (bit (those_below n p)) q ∙ last ∙ ap as_bit (sym (ap p q ∙ e))
    go false e (no q) before = ap (λ x. bit x i) (sym (those_out p n refl e)) ∙ before (omega arith)

pub has_those : (p : ℕ → Bool) (i : ℕ) → i < 64 → has (those p) i ≡ p i
has_those p i l = ap (λ x. eqb x 1) (bit_those 64 p i l) ∙ test_bit (p i)

pub those_only : (p : ℕ → Bool) (i : ℕ) → Has (those p) i → T (p i) × (i < 64)
those_only p i h =
    let l : i < 64 = has_below 64 (those p) i (below_lt 64 p) h in
    (subst T (has_those p i l) (T_has (those p) i h), l)

pub those_all : (p : ℕ → Bool) (i : ℕ) → i < 64 → T (p i) → Has (those p) i
those_all p i l t = has_T (those p) i (subst T (sym (has_those p i l)) t)

-- a set that has what p says is the set of p
pub those_is : (m : ℕ) (p : ℕ → Bool) → m < 2 ^ 64 → ((i : ℕ) → i < 64 → has m i ≡ p i) → m ≡ those p
those_is m p h e = same_bits 64 m (those p) h (below_lt 64 p) (λ i l. bit_test m i ∙ ap as_bit (e i l) ∙ sym (bit_those 64 p i l))

pub those_has : (m : ℕ) → m < 2 ^ 64 → those (has m) ≡ m
those_has m h = sym (those_is m (has m) h (λ i l. refl))

pub those_same : (p q : ℕ → Bool) → ((i : ℕ) → i < 64 → p i ≡ q i) → those p ≡ those q
those_same p q e = those_is (those p) q (below_lt 64 p) (λ i l. has_those p i l ∙ e i l)

pub those_and : (p q : ℕ → Bool) → bit_and (those p) (those q) ≡ those (λ i. p i && q i)
those_and p q =
    those_is (bit_and (those p) (those q)) (λ i. p i && q i) (omega (arith, and_le_r (those p) (those q), below_lt 64 q))
    (λ i l. and_has (those p) (those q) i ∙ ap (λ x. x && has (those q) i) (has_those p i l) ∙ ap (λ x. p i && x) (has_those q i l))

pub those_or : (p q : ℕ → Bool) → bit_or (those p) (those q) ≡ those (λ i. p i || q i)
those_or p q =
    those_is (bit_or (those p) (those q)) (λ i. p i || q i) (or_lt 64 (those p) (those q) (below_lt 64 p) (below_lt 64 q))
    (λ i l. or_has (those p) (those q) i ∙ ap (λ x. x || has (those q) i) (has_those p i l) ∙ ap (λ x. p i || x) (has_those q i l))

-- a set is not empty exactly when it has a member
pub any_only : (m : ℕ) → m < 2 ^ 64 → T (not (none m)) → (j : ℕ) × Has m j
any_only m l t = go (ℕ_discrete m 0)
  where
    go : Dec (m ≡ 0) → (j : ℕ) × Has m j
    go (yes e) = absurd (subst (λ x. T (not (eqb x 0))) e t)
    go (no n) = (count_trailing_zeros 64 m, (lowest 64 m (omega arith) l).1.member)

pub any_all : (m j : ℕ) → Has m j → T (not (none m))
any_all m j h = go (eqb m 0) refl
  where
    go : (x : Bool) → eqb m 0 ≡ x → T (not x)
    go false e = tt
    go true e = let z : m ≡ 0 = eqb→eq _ _ (subst T (sym e) tt) in absurd (omega (arith, ap (λ x. bit x j) z, bit_none j))

-- two sets meet exactly when they have a member in common
pub meets_only : (a m : ℕ) → m < 2 ^ 64 → T (not (none (bit_and a m))) → (j : ℕ) × Has a j × Has m j
meets_only a m l t =
    let (j, h) = any_only (bit_and a m) (omega (arith, and_le_r a m)) t in
    (j, omega (arith, bit_of_and a m j, h, bit_le a j, bit_le m j), omega (arith, bit_of_and a m j, h, bit_le a j, bit_le m j))

pub meets_all : (a m j : ℕ) → Has a j → Has m j → T (not (none (bit_and a m)))
meets_all a m j h k = any_all (bit_and a m) j (omega (arith, bit_of_and a m j))

-- a part of a set has fewer members, unless it is the set
pub fewer : (w a b : ℕ) → a < 2 ^ w → b < 2 ^ w → ((i : ℕ) → bit a i ≤ bit b i) → (ones a ≤ ones b) × (ones a ≡ ones b → a ≡ b)
fewer zero a b la lb sub = (let e : a ≡ b = omega arith in subst (λ x. ones a ≤ ones x) e (omega arith), λ _. omega arith)
fewer (suc w) a b la lb sub =
    let rest = fewer w (a / 2) (b / 2) (omega (arith, pow-suc 2 w)) (omega (arith, pow-suc 2 w)) (λ i. omega (arith, sub (suc i), bit_suc a i, bit_suc b i)) in
    let low : a % 2 ≤ b % 2 = omega (arith, sub 0, bit_zero a, bit_zero b) in (
      omega (arith, ones_step a, ones_step b, rest.0, low),
      λ e.
          let h : a / 2 ≡ b / 2 = rest.1 (omega (arith, ones_step a, ones_step b, rest.0, low)) in omega (arith, ones_step a, ones_step b, ap ones h, h, e),
    )

-- a new member makes one more
pub ones_more : (i a : ℕ) → bit a i ≡ 0 → ones (a + 2 ^ i) ≡ ones a + 1
ones_more zero a h =
    let half : (a + 1) / 2 ≡ a / 2 = omega (arith, bit_zero a) in
    omega (arith, ones_step (a + 1), ones_step a, ap ones half, bit_zero a)
ones_more (suc i) a h =
    let half : (a + 2 ^ suc i) / 2 ≡ a / 2 + 2 ^ i = omega (arith, pow-suc 2 i) in
    omega (arith, ones_step (a + 2 ^ suc i), ones_step a, ap ones half, ones_more i (a / 2) (sym (bit_suc a i) ∙ h), pow-suc 2 i)

pub ones_pow : (i : ℕ) → ones (2 ^ i) ≡ 1
unfolding ones
ones_pow i = let e : 0 + 2 ^ i ≡ 2 ^ i = omega arith in ap ones (sym e) ∙ ones_more i 0 (bit_none i)

-- the ones of a number, counted from below
members_suc : (n m : ℕ) → members_below (suc n) m ≡ m % 2 + members_below n (m / 2)
unfolding members_below
members_suc zero m = omega (arith, bit_zero m)
members_suc (suc n) m = omega (arith, members_suc n m, bit_suc m n)

pub members_ones : (n m : ℕ) → m < 2 ^ n → members_below n m ≡ ones m
unfolding members_below ones
members_ones zero m h = let e : m ≡ 0 = omega arith in subst (λ x. 0 ≡ ones x) (sym e) refl
members_ones (suc n) m h =
    omega (arith, members_suc n m, members_ones n (m / 2) (omega (arith, pow-suc 2 n)), ones_step m)

-- ---- what `with` makes, as a number
module _ (m k r : ℕ) (m< : m < 2 ^ 64) (r< : r < 2 ^ 64) (members : (j : ℕ) → j < 64 → has r j ≡ (has m j || eqb j k)) where
  pub with_or : k < 64 → r ≡ bit_or m (2 ^ k)
  with_or l =
      same_bits 64 r (bit_or m (2 ^ k)) r< (or_lt 64 m (2 ^ k) m< (pow-lt l)) (λ j h.
      bit_test r j ∙ ap as_bit (members j h ∙ sym (or_has m (2 ^ k) j ∙ ap (λ x. has m j || x) (pow_has k j))) ∙ sym (bit_test (bit_or m (2 ^ k)) j))

  pub with_past : 64 ≤ k → r ≡ m
  with_past l = same_bits 64 r m r< m< (λ j h. bit_test r j ∙ ap as_bit (members j h ∙ ap (λ x. has m j || x) (other j h) ∙ or-false (has m j)) ∙ sym (bit_test m j))
    where
      other : (j : ℕ) → j < 64 → eqb j k ≡ false
      other j h = ne_eqb j k (λ e. omega arith)

-- ---- a loop that asks each number: n goes in where the answer is yes
module _ (ask : ℕ → Bool → Type 0) (n m : ℕ) (below : m < 2 ^ n) (told : (j : ℕ) → j < n → ask j (has m j)) where
  pub ask_in : (r : ℕ) → n < 64 → r < 2 ^ 64 → ((j : ℕ) → j < 64 → has r j ≡ (has m j || eqb j n)) → ask n true → (r < 2 ^ (n + 1)) × ((j : ℕ) → j < n + 1 → ask j (has r j))
  ask_in r n< r< members yes' = (
    let m< : m < 2 ^ 64 = omega (arith, below, pow_mono {i = n} {j = 64} (omega arith)) in
        omega (arith, with_or m n r m< r< members n<, or_new n m (bit_past n m n below (omega arith)), below, ap (λ k. 2 ^ k) (add-one n), pow-suc 2 n),
    λ j l. go j l (ℕ_discrete j n),
  )
    where
      go : (j : ℕ) → j < n + 1 → Dec (j ≡ n) → ask j (has r j)
      go j l (yes e) = subst (ask j) (sym (members j (omega arith) ∙ ap (λ x. has m j || x) (eq-eqb j n e) ∙ or-true (has m j))) (subst (λ k. ask k true) (sym e) yes')
      go j l (no d) = subst (ask j) (sym (members j (omega arith) ∙ ap (λ x. has m j || x) (ne_eqb j n d) ∙ or-false (has m j))) (told j (omega arith))

  pub ask_out : ask n false → (m < 2 ^ (n + 1)) × ((j : ℕ) → j < n + 1 → ask j (has m j))
  ask_out no' = (omega (arith, below, ap (λ k. 2 ^ k) (add-one n), pow-suc 2 n), λ j l. go j l (ℕ_discrete j n))
    where
      go : (j : ℕ) → j < n + 1 → Dec (j ≡ n) → ask j (has m j)
      go j l (yes e) = subst (λ k. ask k (has m k)) (sym e) (subst (ask n) (sym (past_has n m n below (omega arith))) no')
      go j l (no d) = told j (omega arith)
