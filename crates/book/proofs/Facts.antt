-- Every call keeps the facts, so the book after any list of calls has them.
use Rattle.std.proofs.Common.{◌≡◌, ℕ, Bool, false, not, T, List, [], ◌∷◌, is_some, Some, None, Option, refl, subst, true≢false}
use Rattle.tasksets.specs.Sets.{none, those}
use Rattle.waits.specs.declared.parts.Wait.TheVariants.{AtSemaphore}
use Rattle.waits.specs.declared.parts.Condition.{Condition}
use Rattle.waits.specs.Waits.{Holder, Waits, held_by, helped_by, belongs, doing}
use Rattle.waits.specs.Changes.{come_to, come}
use Rattle.waits.specs.Facts.{Present, Holds, Helps, RingFree, Sound, Facts}
use Rattle.waits.specs.Reach.{ring}
use Rattle.waits.proofs.Tables.{nothing_facts}
use Rattle.waits.proofs.Tests.{or_left, or_right}
use Rattle.waits.proofs.Keeps.{ready_at, is_does, waiter, held_some, held_there, helped_there, in_doing, task_made, task_ended}
use Rattle.waits.proofs.Changes.{Unawaited, queued_sound, semaphore_freed, task_taken, handed_facts, released_facts, unsem_facts}
use Rattle.waits.proofs.Reach.{ring_all}
use Rattle.book.specs.declared.call.Call.{Call}
use Rattle.book.specs.declared.call.Call.TheVariants.{Task, Untask, Base, Sem, Unsem, Lock, Try, Unlock, Release}
use Rattle.book.specs.declared.refusal.Refusal.{Refusal}
use Rattle.book.specs.declared.refusal.Refusal.TheVariants.{WouldRing}
use Rattle.book.specs.Book.{Book, empty, level, first}
use Rattle.book.specs.Calls.{task, semaphore, in_use, has_condition, refusals, after}
use Rattle.book.specs.Runs.{earliest, all_refusals, kept_or, step_by, step, book_from, book_after}
use Rattle.book.specs.Laws.{may_ring}
use Rattle.book.proofs.Firsts.{Picked, first_picked, first_has}
use Rattle.book.proofs.Clear.{Clear, clear, clear_parts, all_below, all_there, all_absent, not_any}
use Rattle.book.proofs.Standing.{picked_present}

-- ---- what each condition says where it does not hold
pub absent : {A : Type 0} (o : Option A) → (T (is_some o) → ⊥) → o ≡ None
absent None n = refl
absent (Some x) n = absurd (n tt)

module _ (w : Waits) (f : Sound w) (t : ℕ) (unused : T (in_use w t) → ⊥) where
  pub holds_none : (s : ℕ) → Holds w t s → ⊥
  holds_none s h =
      not_any (λ s. held_by t (w.semaphores s)) (λ x. unused (or_left _ _ x)) s (f.semaphores< s (held_there (w.semaphores s) (held_some (w.semaphores s) t h))) h

  pub helps_none : (c : ℕ) → Helps w t c → ⊥
  helps_none c h =
      not_any (λ c. helped_by t (w.conditions c)) (λ x. unused (or_right (not (none (those (λ s. held_by t (w.semaphores s))))) _ x)) c
      (f.conditions< c (helped_there (w.conditions c) t h)) h

-- no condition belongs to s
pub belongs_none : (w : Waits) → Sound w → (s : ℕ) → (T (has_condition w s) → ⊥) → (c : ℕ) → T (belongs s (w.conditions c)) → ⊥
belongs_none w f s unused c h = not_any (λ c. belongs s (w.conditions c)) unused c (f.conditions< c (there_of (w.conditions c) h)) h
  where
    there_of : (k : Option Condition) → T (belongs s k) → T (is_some k)
    there_of None h = h
    there_of (Some k) h = tt

-- nobody waits at an absent semaphore
pub absent_unawaited : (w : Waits) → Sound w → (s : ℕ) → (T (is_some (w.semaphores s)) → ⊥) → Unawaited w s
absent_unawaited w f s n i e = n (held_there (w.semaphores s) (f.held i s e))

-- nor where none is the first of those that wait
pub unpicked_unawaited : (w : Waits) → Sound w → (s : ℕ) (o : Option ℕ) → Picked (doing w (AtSemaphore s)) 64 o → o ≡ None → Unawaited w s
unpicked_unawaited w f s o p e i q =
    let there_i = waiter (w.tasks i) (AtSemaphore s) q ready_at in
    subst (Picked (doing w (AtSemaphore s)) 64) e p i (f.tasks< i there_i) (in_doing w f (AtSemaphore s) i (is_does (AtSemaphore s) (w.tasks i) there_i q))

-- a task comes to a semaphore
come_sound : (w : Waits) (t s : ℕ) → Facts w → Present w t → T (is_some (w.semaphores s)) → Sound (come w t s)
come_sound w t s f p q = go (w.semaphores s) refl q
  where
    go : (h : Option Holder) → w.semaphores s ≡ h → T (is_some h) → Sound (come_to w t s h)
    go None e x = absurd x
    go (Some None) e x = (task_taken w t s f p (f.sound.semaphores< s q)).sound
    go (Some (Some h)) e x = queued_sound w t s h f.sound p e

-- ---- each call
module _ {U : Type 0} (urgent : U → U → Bool) (n : ℕ) where
  -- what a call leaves that meets no refusal but perhaps the ring's: it is sound, and has no ring unless the call is one of those that can make one
  abbrev pub Leaves : Call U → Waits → Type 0
  Leaves c x = Sound x × (may_ring urgent c ≡ false → RingFree x)

  whole : (c : Call U) (x : Waits) → Facts x → Leaves c x
  whole c x f = (f.sound, λ _. f.free)

  pub leaves : (lev : ℕ → Option U) (b : Book U) → Facts b.waits → (c : Call U) → Clear (refusals b.waits n c) → Leaves c (after urgent lev b c).waits
  unfolding refusals
  leaves lev b f (Task t v) (_, (small, (_, (new, _)))) =
      whole (Task t v) _
      (task_made b.waits t f (all_below (task t ∷ []) small).0 (absent (b.waits.tasks t) (all_absent b.waits (task t ∷ []) new).0))
  leaves lev b f (Untask t) (_, (_, (_, (_, (_, (unused, _)))))) =
      whole (Untask t) _ (task_ended b.waits t f (helps_none b.waits f.sound t unused) (holds_none b.waits f.sound t unused))
  leaves lev b f (Base t v) _ = whole (Base t v) _ f
  leaves lev b f (Sem s) (_, (small, (_, (new, _)))) =
      whole (Sem s) _
      (semaphore_freed b.waits s f (all_below (semaphore s ∷ []) small).0
      (absent_unawaited b.waits f.sound s (all_absent b.waits (semaphore s ∷ []) new).0))
  leaves lev b f (Unsem s) (_, (_, (_, (_, (unused, _))))) = whole (Unsem s) _ (unsem_facts b.waits s f (belongs_none b.waits f.sound s unused))
  leaves lev b f (Lock t s) (_, (_, (needed, _))) =
      let (p, (q, _)) = all_there b.waits (task t ∷ semaphore s ∷ []) needed in
      (come_sound b.waits t s f p q, λ e. absurd (true≢false e))
  leaves lev b f (Try t s) (_, (_, (needed, _))) =
      let (p, (q, _)) = all_there b.waits (task t ∷ semaphore s ∷ []) needed in
      whole (Try t s) _ (task_taken b.waits t s f p (f.sound.semaphores< s q))
  leaves lev b f (Unlock t s) (_, (_, (needed, _))) =
      let (_, (q, _)) = all_there b.waits (task t ∷ semaphore s ∷ []) needed in
      let m = doing b.waits (AtSemaphore s) in
      whole (Unlock t s) _
      (handed_facts b.waits s (first urgent lev m) f (f.sound.semaphores< s q) (picked_present b.waits (first urgent lev) (first_has urgent lev) (AtSemaphore s))
      (unpicked_unawaited b.waits f.sound s (first urgent lev m) (first_picked urgent lev m 64)))
  leaves lev b f (Release t) (_, (_, (needed, _))) = whole (Release t) _ (released_facts b.waits t f (all_there b.waits (task t ∷ []) needed).0)

  -- ---- every call, and every list of calls
  pub facts_step : (b : Book U) (c : Call U) → Facts b.waits → Facts (step urgent n b c).0.waits
  unfolding step_by
  facts_step b c f = go (earliest (all_refusals urgent n b c x)) refl
    where
      x : Book U
      x = after urgent (level urgent b) b c

      go : (r : Option Refusal) → earliest (all_refusals urgent n b c x) ≡ r → Facts (kept_or urgent b x r).waits
      go (Some k) e = f
      go None e =
          let (k, (still, _)) = clear_parts (refusals b.waits n c) ((WouldRing, ring x.waits) ∷ []) (clear (all_refusals urgent n b c x) e) in
          let s = (leaves (level urgent b) b f c k).0 in
          record { sound = s; free = λ i r. still (ring_all x.waits s i r) }

  facts_from : (b : Book U) (cs : List (Call U)) → Facts b.waits → Facts (book_from urgent n b cs).waits
  unfolding book_from
  facts_from b [] f = f
  facts_from b (c ∷ cs) f = facts_from (step urgent n b c).0 cs (facts_step b c f)

  pub facts_after : (cs : List (Call U)) → Facts (book_after urgent n cs).waits
  facts_after cs = facts_from empty cs nothing_facts
