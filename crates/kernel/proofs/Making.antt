-- One argument for every call: refused, it leaves all as it was; accepted, it does the book's step.
use Rattle.std.proofs.Common.{◌≡◌, ℕ, ◌<◌, ◌≤◌, Bool, true, false, not, ◌&&◌, T, List, [], ◌∷◌, length, get_or, set, is_ok, is_some, Some, None, Ok, Err, Option, sym, refl, ap, ◌∙◌, subst, true≢false, arith, length-set, slice_get}
use mathlib.Core.Path.{fun_ext}
use native.Mathlib.Decide.{ℕ_discrete}
use Rattle.std.proofs.lemmas.Bool.{lt-ltb, le-ltb}
use Rattle.std.specs.Option.{option_and, option_map}
use Rattle.urgency.specs.Order.{same}
use Rattle.tasksets.proofs.Sets.{those_same}
use Rattle.waits.specs.declared.parts.Wait.{Wait}
use Rattle.waits.specs.declared.parts.Wait.TheVariants.{Ready}
use Rattle.waits.specs.Waits.{Waits, put, with_task}
use Rattle.waits.specs.Facts.{Present}
use Rattle.waits.proofs.Keeps.{put_same, put_other}
use Rattle.book.specs.declared.row.Row.{Row}
use Rattle.book.specs.declared.call.Call.{Call}
use Rattle.book.specs.declared.call.Call.TheVariants.{Task, Untask, Base, Sem, Unsem, Lock, Try, Unlock, Release}
use Rattle.book.specs.declared.refusal.Refusal.{Refusal}
use Rattle.book.specs.declared.refusal.Refusal.TheVariants.{FewRows}
use Rattle.book.specs.Book.{Book, level, first}
use Rattle.book.specs.Calls.{task, refusals, waits_after, base_after, after}
use Rattle.book.specs.Runs.{Reply, earliest, woken, changed, left_waiting, all_refusals, answer, kept_or, step_by}
use Rattle.book.specs.Kernel.{State, book_of, levels_of, Made, Right}
use Rattle.book.proofs.Agreeing.{step_same}
use Rattle.book.proofs.Clear.{Clear, clear, clear_parts, all_below, all_there, all_absent}
use Rattle.book.proofs.Facts.{absent}
use Rattle.book.proofs.Firsts.{first_has}
use Rattle.book.proofs.Standing.{alters_base, standing, base_kept}
use Rattle.steps.specs.Judged.{refusal}
use Rattle.std.proofs.lemmas.Option.{slice_get-get_or}
use Rattle.inheritance.proofs.Rows.{row_set_same, row_set_other}
use Rattle.kernel.specs.declared.Kernel.{Kernel}
use Rattle.kernel.specs.Held.{state_of, MakesCall}
use Rattle.kernel.specs.Inner.{asked, Within, noted, Accepted}

module _ {U : Type 0} (urgent : U → U → Bool) (k : State U) (c : Call U) where
  -- the refusal that the book judges by
  abbrev judged : Option Refusal
  judged = earliest (all_refusals urgent (length k.rows) (book_of k) c (after urgent (levels_of k) (book_of k) c))

  -- with rows enough, it is the table's
  pub judged_is : 64 ≤ length k.rows → judged ≡ refusal (first urgent (levels_of k)) k.waits (asked c)
  unfolding refusals
  judged_is l = go c
    where
      go : (c : Call U) → earliest (all_refusals urgent (length k.rows) (book_of k) c (after urgent (levels_of k) (book_of k) c)) ≡ refusal (first urgent (levels_of k)) k.waits (asked c)
      go (Task t v) = rw (le-ltb (length k.rows) 64 l)
      go (Untask t) = rw (le-ltb (length k.rows) 64 l)
      go (Base t v) = rw (le-ltb (length k.rows) 64 l)
      go (Sem s) = rw (le-ltb (length k.rows) 64 l)
      go (Unsem s) = rw (le-ltb (length k.rows) 64 l)
      go (Lock t s) = rw (le-ltb (length k.rows) 64 l)
      go (Try t s) = rw (le-ltb (length k.rows) 64 l)
      go (Unlock t s) = rw (le-ltb (length k.rows) 64 l)
      go (Release t) = rw (le-ltb (length k.rows) 64 l)

  few_judged : length k.rows < 64 → judged ≡ Some FewRows
  unfolding refusals
  few_judged l = rw (lt-ltb (length k.rows) 64 l)

  refused : (j : Refusal) → judged ≡ Some j → Made urgent k c (Err j) k
  unfolding step_by
  refused j e = record {
    stepped = sym (ap (λ r. (kept_or urgent (book_of k) x r, answer urgent (levels_of k) (book_of k) c x r)) e);
    right = λ h. absurd h;
    refused = λ i q. refl;
    kept = record { size = refl; rest = λ i h. refl };
  }
    where
      x : Book U
      x = after urgent (levels_of k) (book_of k) c

  -- refused for want of rows
  pub made_few : length k.rows < 64 → Made urgent k c (Err FewRows) k
  made_few l = refused FewRows (few_judged l)

  -- refused by its rule
  pub made_refused : (j : Refusal) → 64 ≤ length k.rows → refusal (first urgent (levels_of k)) k.waits (asked c) ≡ Some j → Made urgent k c (Err j) k
  made_refused j l e = refused j (judged_is l ∙ e)

  -- where its rule accepts it, no refusal of its list applies
  fits : 64 ≤ length k.rows → refusal (first urgent (levels_of k)) k.waits (asked c) ≡ None → Clear (refusals k.waits (length k.rows) c)
  fits l fine =
      (clear_parts (refusals k.waits (length k.rows) c) _ (clear (all_refusals urgent (length k.rows) (book_of k) c (after urgent (levels_of k) (book_of k) c)) (judged_is l ∙ fine))).0

  -- the waits after the step
  abbrev next : Waits
  next = waits_after (first urgent (levels_of k)) k.waits c

  -- accepted: rows is what the rows hold once a base is written, k' the state at the end
  module _ (rows : List (Row U)) (waiting : Bool) (r : Bool × ℕ × ℕ) (k' : State U) (l : 64 ≤ length k.rows)
      (fine : refusal (first urgent (levels_of k)) k.waits (asked c) ≡ None)
      (bases : (i : ℕ) → (book_of (record { waits = next; rows = rows })).base i ≡ base_after (book_of k).base c i) (still : waiting ≡ left_waiting next c)
      (levels : (i : ℕ) → Present k.waits i → Present next i → option_map (λ r. r.level) (slice_get rows i) ≡ levels_of k i)
      (size : length rows ≡ length k.rows) (rest : (i : ℕ) → (Present next i → ⊥) → slice_get rows i ≡ slice_get k.rows i)
      (a : Accepted urgent (record { waits = k.waits; rows = rows }) next waiting r k') where
    whole : Book U
    whole = after urgent (levels_of k) (book_of k) c

    reaches : book_of k' ≡ whole
    unfolding whole
    reaches = a.book ∙ ap (λ f. record { waits = next; base = f }) (fun_ext bases)

    -- the levels before, where they count
    same_changed : (b : Book U) → b.waits ≡ next → changed urgent (levels_of (record { waits = k.waits; rows = rows })) k.waits b ≡ changed urgent (levels_of k) k.waits b
    same_changed b e = those_same _ _ (λ i _. go i (is_some (k.waits.tasks i)) (is_some (b.waits.tasks i)) refl refl)
      where
        go : (i : ℕ) (p q : Bool) → is_some (k.waits.tasks i) ≡ p → is_some (b.waits.tasks i) ≡ q
            → (p && q && not (same urgent (levels_of (record { waits = k.waits; rows = rows }) i) (level urgent b i))) ≡ (p && q && not (same urgent (levels_of k i) (level urgent b i)))
        go i true true d f = ap (λ u. not (same urgent u (level urgent b i))) (levels i (subst T (sym d) tt) (subst T (sym (ap (λ w. is_some (w.tasks i)) (sym e) ∙ f)) tt))
        go i true false d f = refl
        go i false q d f = refl

    answers : r ≡ (left_waiting next c, woken k.waits next, changed urgent (levels_of k) k.waits whole)
    unfolding whole
    answers =
        a.answer ∙ ap (λ d. (waiting, woken k.waits next, d)) (same_changed (book_of k') a.waits)
        ∙ ap (λ b. (waiting, woken k.waits next, changed urgent (levels_of k) k.waits b)) reaches
        ∙ ap (λ y. (y, woken k.waits next, changed urgent (levels_of k) k.waits whole)) still

    pub made_accepted : Made urgent k c (Ok r) k'
    unfolding whole step_by
    made_accepted = record {
      stepped =
          ap (λ b. (b, Ok r)) reaches ∙ ap (λ r. (whole, Ok r)) answers
          ∙ sym (ap (λ r. (kept_or urgent (book_of k) whole r, answer urgent (levels_of k) (book_of k) c whole r)) (judged_is l ∙ fine));
      right = λ _. a.right;
      refused = λ j e. cc;
      kept = record {
        size = a.kept.size ∙ size;
        rest = λ i h. a.kept.rest i h ∙ rest i (λ p. h (subst (λ w. Present w i) (sym a.waits) p));
      };
    }

-- ---- the three calls that write bases or rows
module _ {U : Type 0} (urgent : U → U → Bool) (k : State U) (t : ℕ) (r : Bool × ℕ × ℕ) (k' : State U) (l : 64 ≤ length k.rows) where
  -- the base of i is what its row holds, where i is present
  base_at : Waits → List (Row U) → ℕ → Option U
  base_at w rows i = option_and (w.tasks i) (option_map (λ r. r.base) (slice_get rows i))

  other : (i : ℕ) → (Present (with_task k.waits t (Some Ready)) i → ⊥) → i ≡ t → ⊥
  other i h e = h (subst (λ o. T (is_some o)) (sym (ap (put k.waits.tasks t (Some Ready)) e ∙ put_same k.waits.tasks t (Some Ready))) tt)

  module _ (v : U) where
    abbrev row : Row U
    row = record { base = v; level = v }

    -- the row of t under another base
    abbrev rebased : Row U
    rebased = record { base = v; level = (get_or k.rows t row).level }

    pub made_task : refusal (first urgent (levels_of k)) k.waits (Task t tt) ≡ None → t < 64 → k.waits.tasks t ≡ None
        → Accepted urgent (record { waits = k.waits; rows = set k.rows t row }) (with_task k.waits t (Some Ready)) false r k' → Made urgent k (Task t v) (Ok r) k'
    unfolding base_at
    made_task fine low absent a =
        made_accepted urgent k (Task t v) (set k.rows t row) false r k' l fine (λ i. bases i (ℕ_discrete i t)) refl (λ i p _. ap (option_map (λ r. r.level)) (away i (λ e. missing i e p)))
        (length-set k.rows t row) (λ i h. away i (other i h)) a
      where
        away : (i : ℕ) → (i ≡ t → ⊥) → slice_get (set k.rows t row) i ≡ slice_get k.rows i
        away i ne = row_set_other k.rows t i row ne

        missing : (i : ℕ) → i ≡ t → Present k.waits i → ⊥
        missing i e p = subst (λ o. T (is_some o)) (ap k.waits.tasks e ∙ absent) p

        bases : (i : ℕ) → Dec (i ≡ t) → base_at (with_task k.waits t (Some Ready)) (set k.rows t row) i ≡ put (book_of k).base t (Some v) i
        bases i (yes e) =
            ap (base_at (with_task k.waits t (Some Ready)) (set k.rows t row)) e
            ∙ ap (λ o. option_and o (option_map (λ r. r.base) (slice_get (set k.rows t row) t))) (put_same k.waits.tasks t (Some Ready))
            ∙ ap (option_map (λ r. r.base)) (row_set_same k.rows t row (omega arith))
            ∙ sym (ap (put (book_of k).base t (Some v)) e ∙ put_same (book_of k).base t (Some v))
        bases i (no ne) =
            ap (λ o. option_and o (option_map (λ r. r.base) (slice_get (set k.rows t row) i))) (put_other k.waits.tasks t (Some Ready) i ne)
            ∙ ap (λ o. option_and (k.waits.tasks i) (option_map (λ r. r.base) o)) (away i ne)
            ∙ sym (put_other (book_of k).base t (Some v) i ne)

    pub made_base : refusal (first urgent (levels_of k)) k.waits (Base t tt) ≡ None → t < 64 → Present k.waits t
        → Accepted urgent (record { waits = k.waits; rows = set k.rows t rebased }) k.waits false r k' → Made urgent k (Base t v) (Ok r) k'
    unfolding base_at
    made_base fine low there a =
        made_accepted urgent k (Base t v) rows false r k' l fine (λ i. bases i (ℕ_discrete i t)) refl (λ i _ _. level_at i (ℕ_discrete i t))
        (length-set k.rows t rebased) (λ i h. away i (λ e. h (subst (Present k.waits) (sym e) there))) a
      where
        rows : List (Row U)
        rows = set k.rows t rebased

        away : (i : ℕ) → (i ≡ t → ⊥) → slice_get rows i ≡ slice_get k.rows i
        away i ne = row_set_other k.rows t i rebased ne

        here : slice_get rows t ≡ Some rebased
        here = row_set_same k.rows t rebased (omega arith)

        level_at : (i : ℕ) → Dec (i ≡ t) → option_map (λ r. r.level) (slice_get rows i) ≡ levels_of k i
        level_at i (yes e) =
            ap (λ i. option_map (λ r. r.level) (slice_get rows i)) e ∙ ap (option_map (λ r. r.level)) here
            ∙ sym (ap (levels_of k) e ∙ ap (option_map (λ r. r.level)) (slice_get-get_or k.rows t row (omega arith)))
        level_at i (no ne) = ap (option_map (λ r. r.level)) (away i ne)

        present : (o : Option Wait) → T (is_some o) → (u : Option U) → option_and o u ≡ u
        present (Some w) p u = refl
        present None p u = absurd p

        bases : (i : ℕ) → Dec (i ≡ t) → base_at k.waits rows i ≡ put (book_of k).base t (Some v) i
        bases i (yes e) =
            ap (base_at k.waits rows) e ∙ present (k.waits.tasks t) there (option_map (λ r. r.base) (slice_get rows t)) ∙ ap (option_map (λ r. r.base)) here
            ∙ sym (ap (put (book_of k).base t (Some v)) e ∙ put_same (book_of k).base t (Some v))
        bases i (no ne) = ap (λ o. option_and (k.waits.tasks i) (option_map (λ r. r.base) o)) (away i ne) ∙ sym (put_other (book_of k).base t (Some v) i ne)

  pub made_untask : refusal (first urgent (levels_of k)) k.waits (Untask t) ≡ None → Accepted urgent k (with_task k.waits t None) false r k' → Made urgent k (Untask t) (Ok r) k'
  unfolding base_at
  made_untask fine a = made_accepted urgent k (Untask t) k.rows false r k' l fine (λ i. bases i (ℕ_discrete i t)) refl (λ i _ _. refl) refl (λ i _. refl) a
    where
      bases : (i : ℕ) → Dec (i ≡ t) → base_at (with_task k.waits t None) k.rows i ≡ put (book_of k).base t None i
      bases i (yes e) =
          ap (base_at (with_task k.waits t None) k.rows) e ∙ ap (λ o. option_and o (option_map (λ r. r.base) (slice_get k.rows t))) (put_same k.waits.tasks t None)
          ∙ sym (ap (put (book_of k).base t None) e ∙ put_same (book_of k).base t None)
      bases i (no ne) = ap (λ o. option_and o (option_map (λ r. r.base) (slice_get k.rows i))) (put_other k.waits.tasks t None i ne) ∙ sym (put_other (book_of k).base t None i ne)

-- ---- the calls that neither make nor end a task nor alter a base
module _ {U : Type 0} (urgent : U → U → Bool) (k : State U) (c : Call U) (plain : alters_base c ≡ false) (r : Bool × ℕ × ℕ) (k' : State U) (l : 64 ≤ length k.rows) where
  abbrev leaves : Waits
  leaves = waits_after (first urgent (levels_of k)) k.waits c

  pub made_plain : refusal (first urgent (levels_of k)) k.waits (asked c) ≡ None → Accepted urgent k leaves (left_waiting leaves c) r k' → Made urgent k c (Ok r) k'
  made_plain fine a = made_accepted urgent k c k.rows (left_waiting leaves c) r k' l fine bases refl (λ i _ _. refl) refl (λ i _. refl) a
    where
      as_before : (o p : Option Wait) (u : Option U) → is_some o ≡ is_some p → option_and o u ≡ option_and p u
      as_before None None u e = refl
      as_before None (Some p) u e = absurd (true≢false (sym e))
      as_before (Some o) None u e = absurd (true≢false e)
      as_before (Some o) (Some p) u e = refl

      bases : (i : ℕ) → (book_of (record { waits = leaves; rows = k.rows })).base i ≡ base_after (book_of k).base c i
      bases i =
          as_before (leaves.tasks i) (k.waits.tasks i) (option_map (λ r. r.base) (slice_get k.rows i)) (standing (first urgent (levels_of k)) k.waits (length k.rows) c plain (first_has urgent (levels_of k)) (fits urgent k c l fine) i)
          ∙ sym (ap (λ f. f i) (base_kept c plain (book_of k).base))

-- ---- what an accepted call found
module _ {U : Type 0} (w : Waits) (n t : ℕ) (v : U) where
  task_found : Clear (refusals w n (Task t v)) → (t < 64) × (w.tasks t ≡ None)
  unfolding refusals
  task_found (_, (small, (_, (missing, _)))) = ((all_below (task t ∷ []) small).0, absent (w.tasks t) (all_absent w (task t ∷ []) missing).0)

  base_found : Clear (refusals w n (Base t v)) → (t < 64) × Present w t
  unfolding refusals
  base_found (_, (small, (needed, _))) = ((all_below (task t ∷ []) small).0, (all_there w (task t ∷ []) needed).0)

-- ---- any call
module _ {U : Type 0} (urgent : U → U → Bool) (k : State U) where
  -- an accepted call writes into one of the first 64 rows, if it does
  pub within : (c : Call U) → 64 ≤ length k.rows → refusal (first urgent (levels_of k)) k.waits (asked c) ≡ None → Within (length k.rows) c
  within (Task t v) l fine = omega (arith, (task_found k.waits (length k.rows) t v (fits urgent k (Task t v) l fine)).0)
  within (Untask t) l fine = tt
  within (Base t v) l fine = omega (arith, (base_found k.waits (length k.rows) t v (fits urgent k (Base t v) l fine)).0)
  within (Sem s) l fine = tt
  within (Unsem s) l fine = tt
  within (Lock t s) l fine = tt
  within (Try t s) l fine = tt
  within (Unlock t s) l fine = tt
  within (Release t) l fine = tt

  module _ (r : Bool × ℕ × ℕ) (k' : State U) (l : 64 ≤ length k.rows) where
    taken : (c : Call U) → refusal (first urgent (levels_of k)) k.waits (asked c) ≡ None
        → Accepted urgent (record { waits = k.waits; rows = noted k.rows c }) (waits_after (first urgent (levels_of k)) k.waits (asked c)) (left_waiting (waits_after (first urgent (levels_of k)) k.waits (asked c)) c) r k'
        → Made urgent k c (Ok r) k'
    taken (Task t v) fine a = let found = task_found k.waits (length k.rows) t v (fits urgent k (Task t v) l fine) in made_task urgent k t r k' l v fine found.0 found.1 a
    taken (Untask t) fine a = made_untask urgent k t r k' l fine a
    taken (Base t v) fine a = let found = base_found k.waits (length k.rows) t v (fits urgent k (Base t v) l fine) in made_base urgent k t r k' l v fine found.0 found.1 a
    taken (Sem s) fine a = made_plain urgent k (Sem s) refl r k' l fine a
    taken (Unsem s) fine a = made_plain urgent k (Unsem s) refl r k' l fine a
    taken (Lock t s) fine a = made_plain urgent k (Lock t s) refl r k' l fine a
    taken (Try t s) fine a = made_plain urgent k (Try t s) refl r k' l fine a
    taken (Unlock t s) fine a = made_plain urgent k (Unlock t s) refl r k' l fine a
    taken (Release t) fine a = made_plain urgent k (Release t) refl r k' l fine a

    -- accepted by its rule: x is what its step leaves, rows what the rows hold once its base is written
    pub made : (c : Call U) (x : Waits) (waiting : Bool) (rows : List (Row U)) → (refusal (first urgent (levels_of k)) k.waits (asked c) ≡ None) × (x ≡ waits_after (first urgent (levels_of k)) k.waits (asked c))
        → waiting ≡ left_waiting x c → rows ≡ noted k.rows c → Accepted urgent (record { waits = k.waits; rows = rows }) x waiting r k' → Made urgent k c (Ok r) k'
    made c x waiting rows (fine, leaves) still written a =
        taken c fine
        (subst (λ x. Accepted urgent (record { waits = k.waits; rows = noted k.rows c }) x (left_waiting x c) r k') leaves
        (subst (λ y. Accepted urgent (record { waits = k.waits; rows = noted k.rows c }) x y r k') still
        (subst (λ rows. Accepted urgent (record { waits = k.waits; rows = rows }) x waiting r k') written a)))

-- where the levels before are right, the step that is made is the book's, and they are right after it
pub makes_call : {U : Type 0} {urgent : U → U → Bool} {k k' : Kernel U} {c : Call U} {r : Reply} → Made urgent (state_of k) c r (state_of k') → k'.rows.ghost_name ≡ k.rows.ghost_name → MakesCall urgent k c r k'
makes_call {urgent = urgent} {k = k} {k' = k'} {c = c} {r = r} m named = record {
  made = m;
  stepped = λ right. m.stepped ∙ step_same urgent (levels_of (state_of k)) (level urgent (book_of (state_of k))) (book_of (state_of k)) right (length k.rows.now) c;
  right = go r m.right m.refused;
  named = named;
}
  where
    go : (r : Reply) → (T (is_ok r) → Right urgent (state_of k')) → ((j : Refusal) → r ≡ Err j → state_of k' ≡ state_of k) → Right urgent (state_of k) → Right urgent (state_of k')
    go (Ok a) accepted refused right = accepted tt
    go (Err j) accepted refused right = subst (Right urgent) (sym (refused j refl)) right
