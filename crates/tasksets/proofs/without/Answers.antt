-- A meet with all bits but that of k; past 63 there is nothing to drop.
use Rattle.std.proofs.Common.{◌≡◌, ℕ, ◌-◌, ◌^◌, ◌<◌, ◌≤◌, Bool, true, false, not, ◌&&◌, eqb, sym, refl, ap, ◌∙◌, arith}
use native.Mathlib.Decide.{dec_lt}
use lib.Bits.{bit_and, and_le_l}
use Rattle.std.proofs.lemmas.Nat.{one_shl, pow_below}
use Rattle.std.proofs.lemmas.Bool.{ne_eqb}
use Rattle.tasksets.specs.Sets.{bit, Has, has}
use Rattle.tasksets.proofs.Bits.{and_has, and_falls, not_has, pow_has, past_has, bit_not, bit_pow, has_below}
use Rattle.tasksets.proofs.without.Goals as goal

module _ (set k : ℕ) (small : set < 2 ^ 64) (near : k < 64) where
  dropped : (j : ℕ) → has (bit_and set (2 ^ 64 - 1 - 2 ^ k)) j ≡ (has set j && not (eqb j k))
  dropped j = and_has set (2 ^ 64 - 1 - 2 ^ k) j ∙ go (dec_lt j 64)
    where
      go : Dec (j < 64) → (has set j && has (2 ^ 64 - 1 - 2 ^ k) j) ≡ (has set j && not (eqb j k))
      go (yes l) = ap (λ x. has set j && x) (not_has 64 (2 ^ k) j (pow_below k 64 near) l ∙ ap not (pow_has k j))
      go (no n) =
          let none : has set j ≡ false = past_has 64 set j small (omega arith) in
          ap (λ x. x && has (2 ^ 64 - 1 - 2 ^ k) j) none ∙ sym (ap (λ x. x && not (eqb j k)) none)

  falls : Has set k → bit_and set (2 ^ 64 - 1 - 2 ^ k) < set
  falls h =
      let gone : bit (2 ^ 64 - 1 - 2 ^ k) k ≡ 0 = bit_not 64 (2 ^ k) k (pow_below k 64 near) near ∙ ap (λ x. 1 - x) (bit_pow k) in
      and_falls set (2 ^ 64 - 1 - 2 ^ k) k h gone

-- no member is past 63, so that a test for one changes nothing
kept : (set k : ℕ) → set < 2 ^ 64 → 64 ≤ k → (j : ℕ) → has set j ≡ (has set j && not (eqb j k))
kept set k small past j = go (dec_lt j 64)
  where
    stays : (x : Bool) → x ≡ (x && not false)
    stays true = refl
    stays false = refl

    go : Dec (j < 64) → has set j ≡ (has set j && not (eqb j k))
    go (yes l) = stays (has set j) ∙ ap (λ x. has set j && not x) (sym (ne_eqb j k (λ e. omega arith)))
    go (no n) = let none : has set j ≡ false = past_has 64 set j small (omega arith) in none ∙ sym (ap (λ x. x && not (eqb j k)) none)

pub returns-then-k-lt64 : goal.returns-then-k-lt64
returns-then-k-lt64 c =
    let set = c.args.set in
    let k = c.args.k in
    let near : k < 64 = omega arith in
    let small : set < 2 ^ 64 = omega arith in
    let shl = one_shl k 64 near in
    record {
      members = λ j. ap (λ x. has (bit_and set (2 ^ 64 - 1 - x)) j) shl ∙ dropped set k small near j;
      within = and_le_l set _;
      falls = λ h. rw shl (falls set k small near h);
    }

pub returns-else-k-lt64 : goal.returns-else-k-lt64
returns-else-k-lt64 c =
    let set = c.args.set in
    let k = c.args.k in
    let small : set < 2 ^ 64 = omega arith in
    record {
      members = kept set k small (omega arith);
      within = omega arith;
      falls = λ h. let l : k < 64 = has_below 64 set k small h in omega arith;
    }
