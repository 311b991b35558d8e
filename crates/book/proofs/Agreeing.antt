-- A kernel whose calls are each made as their contract says agrees with the book over every run.
use Rattle.std.proofs.Common.{◌≡◌, ℕ, Bool, true, false, not, ◌&&◌, T, List, [], ◌∷◌, ◌++◌, length, is_some, is_ok, Some, None, Ok, Err, Option, sym, refl, ap, ◌∙◌, subst}
use mathlib.Core.Path.{fun_ext}
use Rattle.urgency.specs.Order.{same}
use Rattle.tasksets.specs.Sets.{those}
use Rattle.waits.specs.declared.parts.Wait.{Wait}
use Rattle.waits.specs.declared.parts.Wait.TheVariants.{Ready, AtSemaphore}
use Rattle.waits.specs.Waits.{doing}
use Rattle.waits.specs.Changes.{handed}
use Rattle.waits.specs.Facts.{Present}
use Rattle.waits.proofs.Keeps.{does_is, from_doing}
use Rattle.book.specs.declared.row.Row.{Row}
use Rattle.book.specs.declared.call.Call.{Call}
use Rattle.book.specs.declared.call.Call.TheVariants.{Task, Untask, Base, Sem, Unsem, Lock, Try, Unlock, Release}
use Rattle.book.specs.declared.call.LogEntry.{LogEntry}
use Rattle.book.specs.declared.refusal.Refusal.{Refusal}
use Rattle.book.specs.Book.{Book, empty, level, first, running}
use Rattle.book.specs.Calls.{after}
use Rattle.book.specs.Runs.{Reply, earliest, woken, changed, left_waiting, all_refusals, answer, kept_or, step_by, step, book_from, book_after}
use Rattle.book.specs.Kernel.{State, book_of, levels_of, opened, calls, running_of, Right, Made, Agrees, Run, begin, call}
use Rattle.book.proofs.Firsts.{first_same}

-- one more call
calls_more : {U : Type 0} (es : List (LogEntry U)) (e : LogEntry U) → calls (es ++ (e ∷ [])) ≡ calls es ++ (e.call ∷ [])
calls_more [] e = refl
calls_more (d ∷ es) e = ap (λ cs. d.call ∷ cs) (calls_more es e)

module _ {U : Type 0} (urgent : U → U → Bool) where
  book_more : (n : ℕ) (b : Book U) (cs : List (Call U)) (c : Call U) → book_from urgent n b (cs ++ (c ∷ [])) ≡ (step urgent n (book_from urgent n b cs) c).0
  unfolding book_from
  book_more n b [] c = refl
  book_more n b (d ∷ cs) c = book_more n (step urgent n b d).0 cs c

  -- ---- a step asks for the levels of present tasks alone
  module _ (lev lev' : ℕ → Option U) (b : Book U) (same_at : (i : ℕ) → Present b.waits i → lev i ≡ lev' i) where
    pub first_doing : (d : Wait) → first urgent lev (doing b.waits d) ≡ first urgent lev' (doing b.waits d)
    first_doing d = first_same urgent lev lev' (doing b.waits d) (λ i h. same_at i (does_is d (b.waits.tasks i) (from_doing b.waits d i h)).0)

    pub after_same : (c : Call U) → after urgent lev b c ≡ after urgent lev' b c
    after_same (Task t v) = refl
    after_same (Untask t) = refl
    after_same (Base t v) = refl
    after_same (Sem s) = refl
    after_same (Unsem s) = refl
    after_same (Lock t s) = refl
    after_same (Try t s) = refl
    after_same (Unlock t s) = ap (λ o. record { waits = handed b.waits s o; base = b.base }) (first_doing (AtSemaphore s))
    after_same (Release t) = refl

    pub changed_same : (x : Book U) → changed urgent lev b.waits x ≡ changed urgent lev' b.waits x
    changed_same x = ap those (fun_ext (λ i. go i (is_some (b.waits.tasks i)) refl))
      where
        go : (i : ℕ) (y : Bool) → is_some (b.waits.tasks i) ≡ y
            → (y && is_some (x.waits.tasks i) && not (same urgent (lev i) (level urgent x i))) ≡ (y && is_some (x.waits.tasks i) && not (same urgent (lev' i) (level urgent x i)))
        go i true e = ap (λ u. is_some (x.waits.tasks i) && not (same urgent u (level urgent x i))) (same_at i (subst T (sym e) tt))
        go i false e = refl

    answer_same : (c : Call U) (x : Book U) (r : Option Refusal) → answer urgent lev b c x r ≡ answer urgent lev' b c x r
    answer_same c x (Some k) = refl
    answer_same c x None = ap (λ d. Ok (left_waiting x.waits c, woken b.waits x.waits, d)) (changed_same x)

    pub step_same : (n : ℕ) (c : Call U) → step_by urgent lev n b c ≡ step_by urgent lev' n b c
    unfolding step_by
    step_same n c =
        ap (λ x. (kept_or urgent b x (earliest (all_refusals urgent n b c x)), answer urgent lev b c x (earliest (all_refusals urgent n b c x)))) (after_same c)
        ∙ ap (λ a. (kept_or urgent b (after urgent lev' b c) (earliest (all_refusals urgent n b c (after urgent lev' b c))), a)) (answer_same c (after urgent lev' b c) (earliest (all_refusals urgent n b c (after urgent lev' b c))))

  -- where the rows hold the levels, they tell the running task
  pub running_same : (k : State U) → Right urgent k → running_of urgent k ≡ running urgent (book_of k)
  running_same k right = first_doing (levels_of k) (level urgent (book_of k)) (book_of k) right Ready

  right_agrees : (k : State U) (b : Book U) → book_of k ≡ b → Right urgent k → Agrees urgent k b
  right_agrees k b e right = record {
    book = e;
    levels = λ t p. right t (subst (λ b. Present b.waits t) (sym e) p) ∙ ap (λ b. level urgent b t) e;
    runs = running_same k right ∙ ap (running urgent) e;
  }

  agrees_right : (k : State U) (b : Book U) → Agrees urgent k b → Right urgent k
  agrees_right k b a t p = a.levels t (subst (λ b. Present b.waits t) a.book p) ∙ ap (λ b. level urgent b t) (sym a.book)

  -- a call leaves right what was right
  right_on : (k k' : State U) (c : Call U) (r : Reply) → Right urgent k → Made urgent k c r k' → Right urgent k'
  right_on k k' c r before m = go r m.right m.refused
    where
      go : (r' : Reply) → (T (is_ok r') → Right urgent k') → ((j : Refusal) → r' ≡ Err j → k' ≡ k) → Right urgent k'
      go (Err j) _ kept = subst (Right urgent) (sym (kept j refl)) before
      go (Ok a) right _ = right tt

  -- ---- a run
  pub run_begin : (rows : List (Row U)) → Run urgent rows [] (opened rows)
  unfolding book_from
  run_begin rows = begin (right_agrees (opened rows) empty refl (λ t p. absurd p))

  -- a run agrees with the book where it ends
  pub run_agrees : {rows : List (Row U)} {es : List (LogEntry U)} {k : State U} → Run urgent rows es k
      → Agrees urgent k (book_after urgent (length rows) (calls es)) × (length k.rows ≡ length rows)
  run_agrees (begin a) = (a, refl)
  run_agrees (call r e reply a runs kept) = (a, kept.size ∙ (run_agrees r).1)

  pub run_call : {rows : List (Row U)} {es : List (LogEntry U)} {k k' : State U} → Run urgent rows es k → (e : LogEntry U)
      → Made urgent k e.call e.reply k' → e.running ≡ running_of urgent k' → Run urgent rows (es ++ (e ∷ [])) k'
  run_call {rows} {es} {k} {k'} run e m runs =
      let n = length rows in
      let b = book_after urgent n (calls es) in
      let (a, size) = run_agrees run in
      let right = agrees_right k b a in
      let made : (book_of k', e.reply) ≡ step urgent n b e.call =
      m.stepped ∙ ap (λ n. step_by urgent (levels_of k) n (book_of k) e.call) size
      ∙ step_same (levels_of k) (level urgent (book_of k)) (book_of k) right n e.call ∙ ap (λ b. step urgent n b e.call) a.book in
      let more : (step urgent n b e.call).0 ≡ book_after urgent n (calls (es ++ (e ∷ []))) =
      sym (ap (book_from urgent n empty) (calls_more es e) ∙ book_more n empty (calls es) e.call) in
      let agrees = right_agrees k' (book_after urgent n (calls (es ++ (e ∷ [])))) (ap (λ p. p.0) made ∙ more) (right_on k k' e.call e.reply right m) in
      call run e (ap (λ p. p.1) made) agrees (runs ∙ agrees.runs) m.kept
