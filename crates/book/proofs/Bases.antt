-- Exactly the present tasks have a base, after every list of calls.
use Rattle.std.proofs.Common.{◌≡◌, ℕ, Bool, false, T, ◌↔◌, List, [], ◌∷◌, is_some, Some, None, Option, sym, refl, subst, ⊎_elim}
use Rattle.waits.specs.Waits.{put}
use Rattle.waits.specs.Facts.{Present}
use Rattle.waits.proofs.Keeps.{put_at}
use Rattle.book.specs.declared.call.Call.{Call}
use Rattle.book.specs.declared.call.Call.TheVariants.{Task, Untask, Base, Sem, Unsem, Lock, Try, Unlock, Release}
use Rattle.book.specs.declared.refusal.Refusal.{Refusal}
use Rattle.book.specs.Book.{Book, empty, level, first}
use Rattle.book.specs.Calls.{task, refusals, base_after, after}
use Rattle.book.specs.Runs.{earliest, all_refusals, kept_or, step_by, step, book_from, book_after}
use Rattle.book.proofs.Firsts.{first_has}
use Rattle.book.proofs.Clear.{Clear, clear, clear_parts, all_there}
use Rattle.book.proofs.Standing.{alters_base, standing, base_kept}

module _ {U : Type 0} (urgent : U → U → Bool) (n : ℕ) where
  abbrev Based : Book U → Type 0
  Based b = (t : ℕ) → Present b.waits t ↔ T (is_some (b.base t))

  -- a value of both kinds is put at one number
  put_both : {A B : Type 0} (f : ℕ → Option A) (g : ℕ → Option B) (k : ℕ) (x : Option A) (y : Option B) → T (is_some x) ↔ T (is_some y) → ((t : ℕ) → T (is_some (f t)) ↔ T (is_some (g t)))
      → (t : ℕ) → T (is_some (put f k x t)) ↔ T (is_some (put g k y t))
  put_both f g k x y new old t =
      ⊎_elim (λ (q, e). ⊎_elim (λ (_, d). over x y e d new) (λ (ne, _). absurd (ne q)) (put_at g k y t))
      (λ (ne, e). ⊎_elim (λ (q, _). absurd (ne q)) (λ (_, d). over (f t) (g t) e d (old t)) (put_at g k y t)) (put_at f k x t)
    where
      over : (p : Option _) (q : Option _) → put f k x t ≡ p → put g k y t ≡ q → T (is_some p) ↔ T (is_some q) → T (is_some (put f k x t)) ↔ T (is_some (put g k y t))
      over p q e d h =
          (λ a. subst (λ o. T (is_some o)) (sym d) (h.0 (subst (λ o. T (is_some o)) e a)), λ a. subst (λ o. T (is_some o)) (sym e) (h.1 (subst (λ o. T (is_some o)) d a)))

  -- each call that neither makes nor ends a task, nor gives it another base
  standing_based : (lev : ℕ → Option U) (b : Book U) (c : Call U) → alters_base c ≡ false → Clear (refusals b.waits n c) → Based b → Based (after urgent lev b c)
  standing_based lev b c plain k old t =
      subst (λ x. T x ↔ T (is_some (base_after b.base c t))) (sym (standing (first urgent lev) b.waits n c plain (first_has urgent lev) k t))
      (subst (λ base. Present b.waits t ↔ T (is_some (base t))) (sym (base_kept c plain b.base)) (old t))

  -- each call
  based_after : (lev : ℕ → Option U) (b : Book U) (c : Call U) → Clear (refusals b.waits n c) → Based b → Based (after urgent lev b c)
  unfolding refusals
  based_after lev b (Task t v) _ old = put_both b.waits.tasks b.base t (Some _) (Some v) (λ _. tt, λ _. tt) old
  based_after lev b (Untask t) _ old = put_both b.waits.tasks b.base t None None (λ a. a, λ a. a) old
  based_after lev b (Base t v) (_, (_, (needed, _))) old = λ i.
      ⊎_elim (λ (q, e). (λ _. subst (λ o. T (is_some o)) (sym e) tt, λ _. subst (Present b.waits) (sym q) (all_there b.waits (task t ∷ []) needed).0))
      (λ (_, e). (λ a. subst (λ o. T (is_some o)) (sym e) ((old i).0 a), λ a. (old i).1 (subst (λ o. T (is_some o)) e a))) (put_at b.base t (Some v) i)
  based_after lev b (Sem s) k old = standing_based lev b (Sem s) refl k old
  based_after lev b (Unsem s) k old = standing_based lev b (Unsem s) refl k old
  based_after lev b (Lock t s) k old = standing_based lev b (Lock t s) refl k old
  based_after lev b (Try t s) k old = standing_based lev b (Try t s) refl k old
  based_after lev b (Unlock t s) k old = standing_based lev b (Unlock t s) refl k old
  based_after lev b (Release t) k old = standing_based lev b (Release t) refl k old

  based_step : (b : Book U) (c : Call U) → Based b → Based (step urgent n b c).0
  unfolding step_by
  based_step b c old = go (earliest (all_refusals urgent n b c (after urgent (level urgent b) b c))) refl
    where
      go : (r : Option Refusal) → earliest (all_refusals urgent n b c (after urgent (level urgent b) b c)) ≡ r → Based (kept_or urgent b (after urgent (level urgent b) b c) r)
      go (Some k) e = old
      go None e = based_after (level urgent b) b c (clear_parts (refusals b.waits n c) _ (clear (all_refusals urgent n b c (after urgent (level urgent b) b c)) e)).0 old

  based_from : (b : Book U) (cs : List (Call U)) → Based b → Based (book_from urgent n b cs)
  unfolding book_from
  based_from b [] old = old
  based_from b (c ∷ cs) old = based_from (step urgent n b c).0 cs (based_step b c old)

  pub bases_after : (cs : List (Call U)) → Based (book_after urgent n cs)
  bases_after cs = based_from empty cs (λ t. (λ a. a, λ a. a))
