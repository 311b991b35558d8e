-- Calls that neither make nor end a task keep who is present; calls that give no base keep the bases.
use Rattle.std.proofs.Common.{◌≡◌, ℕ, Bool, true, false, cond, T, is_some, Some, None, Option, sym, refl, subst, true≢false}
use Rattle.tasksets.specs.Sets.{Has}
use Rattle.waits.specs.declared.parts.Wait.{Wait}
use Rattle.waits.specs.declared.parts.Wait.TheVariants.{Ready, AtSemaphore, OnCondition}
use Rattle.waits.specs.Waits.{Holder, Waits, wait_in, does, doing, semaphore_of, with_task}
use Rattle.waits.specs.Changes.{turned, come_to, handed, released_from}
use Rattle.waits.specs.Facts.{Present}
use Rattle.waits.proofs.Tests.{true_of}
use Rattle.waits.proofs.Keeps.{put_all, does_is, from_doing}
use Rattle.book.specs.declared.call.Call.{Call}
use Rattle.book.specs.declared.call.Call.TheVariants.{Task, Untask, Base, Sem, Unsem, Lock, Try, Unlock, Release}
use Rattle.book.specs.Calls.{needs, refusals, waits_after, base_after}
use Rattle.book.proofs.Clear.{Clear, all_there}

-- ---- changes that keep who is present
abbrev Stands : Waits → Waits → Type 0
Stands w x = (i : ℕ) → is_some (x.tasks i) ≡ is_some (w.tasks i)

module _ (w : Waits) where
  task_stands : (t : ℕ) (d : Wait) → Present w t → Stands w (with_task w t (Some d))
  task_stands t d p = put_all (λ i o. is_some o ≡ is_some (w.tasks i)) w.tasks t (Some d) (sym (true_of (is_some (w.tasks t)) p)) (λ i _. refl)

  turned_stands : (v d : Wait) → Stands w (turned w v d)
  turned_stands v d i = go (does v (w.tasks i)) refl
    where
      go : (x : Bool) → does v (w.tasks i) ≡ x → is_some (cond x (Some d) (w.tasks i)) ≡ is_some (w.tasks i)
      go true e = sym (true_of (is_some (w.tasks i)) (does_is v (w.tasks i) (subst T (sym e) tt)).0)
      go false e = refl

  come_stands : (t s : ℕ) → Present w t → (h : Option Holder) → Stands w (come_to w t s h)
  come_stands t s p None = λ i. refl
  come_stands t s p (Some None) = task_stands t Ready p
  come_stands t s p (Some (Some h)) = task_stands t (AtSemaphore s) p

  handed_stands : (s : ℕ) (o : Option ℕ) → ((u : ℕ) → o ≡ Some u → Present w u) → Stands w (handed w s o)
  handed_stands s None p = λ i. refl
  handed_stands s (Some u) p = task_stands u Ready (p u refl)

  released_stands : (t : ℕ) → Present w t → (d : Wait) → Stands w (released_from w t d)
  released_stands t p Ready = λ i. refl
  released_stands t p (AtSemaphore s) = task_stands t Ready p
  released_stands t p (OnCondition c) = come_stands t (semaphore_of (w.conditions c)) p (w.semaphores (semaphore_of (w.conditions c)))

  -- whoever is picked of those that do one thing is present
  pub picked_present : (pick : ℕ → Option ℕ) → ((m i : ℕ) → pick m ≡ Some i → Has m i) → (d : Wait) (u : ℕ) → pick (doing w d) ≡ Some u → Present w u
  picked_present pick picked d u e = (does_is d (w.tasks u) (from_doing w d u (picked (doing w d) u e))).0

-- ---- calls
module _ {U : Type 0} where
  -- a call that makes or ends a task, or gives it another base
  abbrev pub alters_base : Call U → Bool
  alters_base (Task t v) = true
  alters_base (Untask t) = true
  alters_base (Base t v) = true
  alters_base (Sem s) = false
  alters_base (Unsem s) = false
  alters_base (Lock t s) = false
  alters_base (Try t s) = false
  alters_base (Unlock t s) = false
  alters_base (Release t) = false

  -- every other call keeps who is present
  pub standing : (pick : ℕ → Option ℕ) (w : Waits) (n : ℕ) (c : Call U) → alters_base c ≡ false → ((m i : ℕ) → pick m ≡ Some i → Has m i)
      → Clear (refusals w n c) → (i : ℕ) → is_some ((waits_after pick w c).tasks i) ≡ is_some (w.tasks i)
  unfolding refusals
  standing pick w n (Task t v) e picked k = absurd (true≢false e)
  standing pick w n (Untask t) e picked k = absurd (true≢false e)
  standing pick w n (Base t v) e picked k = absurd (true≢false e)
  standing pick w n (Sem s) e picked k = λ i. refl
  standing pick w n (Unsem s) e picked k = turned_stands w (AtSemaphore s) Ready
  standing pick w n (Lock t s) e picked (_, (_, (needed, _))) = come_stands w t s (all_there w (needs {U = U} (Lock t s)) needed).0 (w.semaphores s)
  standing pick w n (Try t s) e picked (_, (_, (needed, _))) = task_stands w t Ready (all_there w (needs {U = U} (Try t s)) needed).0
  standing pick w n (Unlock t s) e picked k = handed_stands w s (pick (doing w (AtSemaphore s))) (picked_present w pick picked (AtSemaphore s))
  standing pick w n (Release t) e picked (_, (_, (needed, _))) = released_stands w t (all_there w (needs {U = U} (Release t)) needed).0 (wait_in (w.tasks t))

  -- and the bases
  pub base_kept : (c : Call U) → alters_base c ≡ false → (base : ℕ → Option U) → base_after base c ≡ base
  base_kept (Task t v) e base = absurd (true≢false e)
  base_kept (Untask t) e base = absurd (true≢false e)
  base_kept (Base t v) e base = absurd (true≢false e)
  base_kept (Sem s) e base = refl
  base_kept (Unsem s) e base = refl
  base_kept (Lock t s) e base = refl
  base_kept (Try t s) e base = refl
  base_kept (Unlock t s) e base = refl
  base_kept (Release t) e base = refl
