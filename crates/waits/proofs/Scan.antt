-- The worklist that finds the tasks along the chains from one task.
use Rattle.std.proofs.Common.{◌≡◌, ℕ, ◌+◌, ◌-◌, ◌^◌, ◌<◌, ◌≤◌, max, ◌⊎◌, sym, ap, ◌∙◌, subst, inl, inr, ⊎_elim, arith}
use native.Mathlib.Decide.{ℕ_discrete}
use lib.Bits.{bit_and, bit_or, or_lt, and_le_r, or_zero_r}
use lib.Pow.{pow-lt}
use Rattle.tasksets.specs.Sets.{bit, Has}
use Rattle.tasksets.proofs.Bits.{bit_le, bit_of_and, bit_of_or, bit_not, bit_pow, bit_pow_other, bit_none, has_below, has_or, has_pow, or_grows}
use Rattle.waits.specs.Chain.{Chain, here, step, Reached}
use Rattle.waits.proofs.Chains.{after}

module _ (awaits : ℕ → ℕ → Type 0) (start : ℕ) where
  -- seen has the tasks that were taken, todo those that were met and are still to be taken
  pub record Scan (seen todo : ℕ) : Type 0 where
    pub seen< : seen < 2 ^ 64
    pub todo< : todo < 2 ^ 64
    pub apart : (k : ℕ) → bit seen k + bit todo k ≤ 1
    pub from : start < 64 → Has (bit_or seen todo) start
    pub next : (i j : ℕ) → Has seen i → awaits i j → Has (bit_or seen todo) j
    pub only : (k : ℕ) → Has (bit_or seen todo) k → Chain awaits start k

module _ {awaits : ℕ → ℕ → Type 0} {start : ℕ} where
  pub scan_start : start < 64 → Scan awaits start 0 (2 ^ start)
  scan_start l = record {
    seen< = omega arith;
    todo< = pow-lt l;
    apart = λ k. omega (arith, bit_none k, bit_le (2 ^ start) k);
    from = λ _. omega (arith, bit_of_or 0 (2 ^ start) start, bit_pow start, bit_none start);
    next = λ i j b a. absurd (omega (arith, bit_none i));
    only = λ k b. ⊎_elim (λ h. absurd (omega (arith, bit_none k))) (λ h. subst (Chain awaits start) (sym (has_pow start k h)) here) (has_or 0 (2 ^ start) k b);
  }

  pub scan_none : 64 ≤ start → Scan awaits start 0 0
  scan_none l = record {
    seen< = omega arith;
    todo< = omega arith;
    apart = λ k. omega (arith, bit_none k);
    from = λ h. absurd (omega arith);
    next = λ i j b a. absurd (omega (arith, bit_none i));
    only = λ k b. absurd (⊎_elim (λ h. omega (arith, bit_none k)) (λ h. omega (arith, bit_none k)) (has_or 0 0 k b));
  }

  pub scan_end : {seen todo : ℕ} → ((i j : ℕ) → awaits i j → i < 64) → Scan awaits start seen todo → todo ≡ 0 → Reached awaits start (Has seen)
  scan_end {seen} {todo} low s e = record { only = λ k b. s.only k (subst (λ x. Has x k) (sym same) b); all = all }
    where
      same : bit_or seen todo ≡ seen
      same = ap (bit_or seen) e ∙ or_zero_r seen

      along : {i k : ℕ} → Has seen i → Chain awaits i k → Has seen k
      along b here = b
      along b (step {i = i} {j = j} a c) = along (subst (λ x. Has x j) same (s.next i j b a)) c

      first : {i k : ℕ} → k < 64 → Chain awaits i k → i < 64
      first l here = l
      first l (step a c) = low _ _ a

      all : (k : ℕ) → k < 64 → Chain awaits start k → Has seen k
      all k l c = along (subst (λ x. Has x start) same (s.from (first l c))) c

  module _ {seen todo : ℕ} (i row : ℕ) (s : Scan awaits start seen todo) (h : Has todo i) (row< : row < 2 ^ 64)
      (edge : (j : ℕ) → Has row j → awaits i j) (bits : (j : ℕ) → awaits i j → Has row j) where
    pub scan_grows : seen < bit_or seen (2 ^ i)
    scan_grows = or_grows seen (2 ^ i) i (omega (arith, s.apart i)) (bit_pow i)

    now< : bit_or seen (2 ^ i) < 2 ^ 64
    now< = or_lt 64 seen (2 ^ i) s.seen< (pow-lt (has_below 64 todo i s.todo< h))

    in_todo : (k : ℕ) → bit (2 ^ i) k ≤ bit todo k
    in_todo k = go (ℕ_discrete k i)
      where
        go : Dec (k ≡ i) → bit (2 ^ i) k ≤ bit todo k
        go (yes e) = omega (arith, bit_le (2 ^ i) k, ap (bit todo) e)
        go (no n) = omega (arith, bit_pow_other i k n)

    module _ {new : ℕ} (e : new ≡ bit_and (bit_or todo row) (2 ^ 64 - 1 - bit_or seen (2 ^ i))) where
      new< : new < 2 ^ 64
      new< = omega (arith, and_le_r (bit_or todo row) (2 ^ 64 - 1 - bit_or seen (2 ^ i)))

      -- the turn, bit by bit
      turn : (k : ℕ) → k < 64
          → (bit (bit_or seen (2 ^ i)) k + bit new k ≤ 1)
          × (bit (bit_or (bit_or seen (2 ^ i)) new) k ≡ max (bit (bit_or seen todo) k) (bit row k))
      turn k l =
          let now = bit_or seen (2 ^ i) in
          let b : bit new k ≡ _ = ap (λ x. bit x k) e ∙ bit_of_and (bit_or todo row) (2 ^ 64 - 1 - now) k in
          omega (
            arith,
            b,
            bit_of_or todo row k,
            bit_not 64 now k now< l,
            bit_of_or seen (2 ^ i) k,
            bit_of_or now new k,
            bit_of_or seen todo k,
            in_todo k,
            bit_le seen k,
            bit_le todo k,
            bit_le row k,
            bit_le (2 ^ i) k,
          )

      wide : (k : ℕ) → Has (bit_or (bit_or seen (2 ^ i)) new) k → k < 64
      wide k b = has_below 64 _ k (or_lt 64 (bit_or seen (2 ^ i)) new now< new<) b

      -- what was met before the turn, or is awaited, is met after it
      met : (k : ℕ) → Has (bit_or seen todo) k ⊎ Has row k → Has (bit_or (bit_or seen (2 ^ i)) new) k
      met k (inl b) = omega (arith, turn k (has_below 64 _ k (or_lt 64 seen todo s.seen< s.todo<) b), bit_le row k)
      met k (inr b) = omega (arith, turn k (has_below 64 _ k row< b), bit_le (bit_or seen todo) k)

      pub scan_turn : Scan awaits start (bit_or seen (2 ^ i)) new
      scan_turn = record { seen< = now<; todo< = new<; apart = apart; from = λ l. met start (inl (s.from l)); next = next; only = only }
        where
          apart : (k : ℕ) → bit (bit_or seen (2 ^ i)) k + bit new k ≤ 1
          apart k = by (ℕ_discrete (bit new k) 1)
            where
              by : Dec (Has new k) → bit (bit_or seen (2 ^ i)) k + bit new k ≤ 1
              by (yes b) = (turn k (has_below 64 new k new< b)).0
              by (no n) = omega (arith, bit_le new k, bit_le (bit_or seen (2 ^ i)) k)

          next : (a b : ℕ) → Has (bit_or seen (2 ^ i)) a → awaits a b → Has (bit_or (bit_or seen (2 ^ i)) new) b
          next a b p q = met b (⊎_elim (λ x. inl (s.next a b x q)) (λ x. inr (bits b (subst (λ y. awaits y b) (has_pow i a x) q))) (has_or seen (2 ^ i) a p))

          only : (k : ℕ) → Has (bit_or (bit_or seen (2 ^ i)) new) k → Chain awaits start k
          only k b = by (ℕ_discrete (bit (bit_or seen todo) k) 1)
            where
              by : Dec (Has (bit_or seen todo) k) → Chain awaits start k
              by (yes p) = s.only k p
              by (no p) =
                  let in_row : Has row k = omega (arith, turn k (wide k b), bit_le (bit_or seen todo) k, bit_le row k) in
                  after (s.only i (bit_of_or seen todo i ∙ omega (arith, bit_le seen i))) (edge k in_row)
