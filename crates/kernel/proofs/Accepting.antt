-- The end of an accepted call: what the code puts together there is what the contract says.
use Rattle.std.proofs.Common.{◌≡◌, ℕ, ◌<◌, ◌≤◌, Bool, true, false, not, ◌&&◌, List, length, is_some, Option, sym, refl, ap, ◌∙◌, arith}
use lib.Bits.{bit_and}
use Rattle.urgency.specs.Order.{same}
use Rattle.tasksets.specs.Sets.{has, those}
use Rattle.tasksets.proofs.Sets.{has_those, those_same, those_and}
use Rattle.waits.specs.declared.parts.Wait.TheVariants.{Ready}
use Rattle.waits.specs.declared.table.WaitTable.{WaitTable}
use Rattle.waits.specs.Waits.{Waits, does, doing, waiting}
use Rattle.waits.specs.Table.{waits_of}
use Rattle.waits.proofs.Tables.{facts_of}
use Rattle.book.specs.declared.row.Row.{Row}
use Rattle.book.specs.Book.{Book, level}
use Rattle.book.specs.Runs.{woken, changed}
use Rattle.book.specs.Kernel.{levels_of}
use Rattle.inheritance.specs.Rows.{both, held, Settled}
use Rattle.kernel.specs.Inner.{Accepted}

pub woken_is : (w x : Waits) (a b : ℕ) → a ≡ those (waiting w) → b ≡ doing x Ready → bit_and a b ≡ woken w x
woken_is w x a b e d = ap (λ a. bit_and a b) e ∙ ap (bit_and (those (waiting w))) d ∙ those_and (waiting w) (λ i. does Ready (x.tasks i))

pub changed_is : {U : Type 0} (urgent : U → U → Bool) (lev : ℕ → Option U) (w x : Waits) (b b' : Book U) (p q r : ℕ) → p ≡ those (λ i. is_some (w.tasks i)) → q ≡ those (λ i. is_some (x.tasks i))
    → r ≡ those (λ i. has (bit_and p q) i && not (same urgent (lev i) (level urgent b i))) → b ≡ b' → b'.waits ≡ x → r ≡ changed urgent lev w b'
changed_is urgent lev w x b b' p q r e d told stays left =
    told ∙ those_same (λ i. has (bit_and p q) i && not (same urgent (lev i) (level urgent b i))) (λ i. is_some (w.tasks i) && is_some (b'.waits.tasks i) && not (same urgent (lev i) (level urgent b' i))) at
  where
    both : bit_and p q ≡ those (λ i. is_some (w.tasks i) && is_some (x.tasks i))
    both = ap (λ p. bit_and p q) e ∙ ap (bit_and (those (λ i. is_some (w.tasks i)))) d ∙ those_and (λ i. is_some (w.tasks i)) (λ i. is_some (x.tasks i))

    joined : (a b c : Bool) → ((a && b) && c) ≡ (a && b && c)
    joined true b c = refl
    joined false b c = refl

    at : (i : ℕ) → i < 64 → (has (bit_and p q) i && not (same urgent (lev i) (level urgent b i))) ≡ (is_some (w.tasks i) && is_some (b'.waits.tasks i) && not (same urgent (lev i) (level urgent b' i)))
    at i l =
        ap (λ y. y && not (same urgent (lev i) (level urgent b i))) (ap (λ m. has m i) both ∙ has_those (λ i. is_some (w.tasks i) && is_some (x.tasks i)) i l)
        ∙ ap (λ b. (is_some (w.tasks i) && is_some (x.tasks i)) && not (same urgent (lev i) (level urgent b i))) stays
        ∙ joined (is_some (w.tasks i)) (is_some (x.tasks i)) (not (same urgent (lev i) (level urgent b' i)))
        ∙ ap (λ x. is_some (w.tasks i) && is_some (x.tasks i) && not (same urgent (lev i) (level urgent b' i))) (sym left)

-- the levels are settled over the next table n, and the answer is told
pub accepted : {U : Type 0} (urgent : U → U → Bool) (t n : WaitTable) (rows rows' : List (Row U)) (a b p q r : ℕ) (left : Bool) → a ≡ those (waiting (waits_of t)) → b ≡ doing (waits_of n) Ready
    → p ≡ those (λ i. is_some ((waits_of t).tasks i)) → q ≡ those (λ i. is_some ((waits_of n).tasks i)) → 64 ≤ length rows → Settled urgent n (bit_and p q) rows rows' r → Accepted urgent (both t rows) (waits_of n) left (left, bit_and a b, r) (both n rows')
accepted urgent t n rows rows' a b p q r left was ready before after enough s = record {
  waits = refl;
  book = s.book;
  right = λ i h. s.right i h (omega (arith, (facts_of n).sound.tasks< i h, enough));
  kept = s.kept;
  answer =
      let e = woken_is (waits_of t) (waits_of n) a b was ready in
      let d = changed_is urgent (levels_of (both t rows)) (waits_of t) (waits_of n) (held n rows) (held n rows') p q r before after s.changed (sym s.book) refl in
      cc;
}
