-- What each change of the waits keeps of the facts.
use Rattle.std.proofs.Common.{◌≡◌, ℕ, ◌<◌, Bool, true, false, cond, T, ◌⊎◌, is_some, Some, None, Option, sym, refl, ap, ◌∙◌, subst, inl, inr, ⊎_elim, arith, eqb→eq}
use lib.Dec.{eqb_refl}
use Rattle.tasksets.specs.Sets.{Has}
use Rattle.tasksets.proofs.Bits.{bit_none, has_pow}
use Rattle.waits.specs.declared.parts.Wait.{Wait}
use Rattle.waits.specs.declared.parts.Wait.TheVariants.{Ready, AtSemaphore, OnCondition}
use Rattle.waits.specs.Chain.{Chain, here, step, Ring}
use Rattle.waits.specs.Waits.{Holder, Waits, wait_in, holder_set, awaited_in, Awaits, does, held_by, held, belongs, semaphore_of, with_task}
use Rattle.waits.specs.Changes.{with_semaphore, turned, taken, come_to, come, handed, released_from, released}
use Rattle.waits.specs.Facts.{Present, Holds, Helps, Sound, Facts}
use Rattle.waits.proofs.Chains.{lift}
use Rattle.waits.proofs.Keeps.{put_all, put_same, ready_at, ready_on, at_on, does_is, is_does, waiter, Way, at, on, way, away, less_free, tasks_changed, task_changed, awaited_by, idle}
use Rattle.waits.proofs.Rings.{no_new_ring}

-- who waits at s and at z waits at one semaphore
at_same : {s z : ℕ} → AtSemaphore s ≡ AtSemaphore z → s ≡ z
at_same e = cc

-- a ready task awaits nobody
ready_none : (w : Waits) (i j : ℕ) → T (does Ready (w.tasks i)) → Awaits w i j → ⊥
ready_none w i j r a = omega (arith, bit_none j, subst (λ d. Has (awaited_in w d) j) (does_is Ready (w.tasks i) r).1 a)

-- so a chain from it is of no steps
ready_alone : (w : Waits) {u p : ℕ} → T (does Ready (w.tasks u)) → Chain (Awaits w) u p → u ≡ p
ready_alone w r here = refl
ready_alone w r (step {i = i} {j = j} a c) = absurd (ready_none w i j r a)

-- a semaphore that h has is held by h
held_of : (w : Waits) (s h : ℕ) → w.semaphores s ≡ Some (Some h) → Holds w h s
held_of w s h e = subst (λ o. T (held_by h o)) (sym e) (eqb_refl h)

-- ---- one task changes
-- t, present, is ready from now on
pub task_freed : (w : Waits) (t : ℕ) → Facts w → Present w t → Facts (with_task w t (Some Ready))
task_freed w t f p = idle w t (Some Ready) f refl (λ _. f.sound.tasks< t p) (λ _ _. tt) (λ _ _. tt)

-- t waits at s from now on, which h holds: all but freedom from rings
pub queued_sound : (w : Waits) (t s h : ℕ) → Sound w → Present w t → w.semaphores s ≡ Some (Some h) → Sound (with_task w t (Some (AtSemaphore s)))
queued_sound w t s h f p e =
    task_changed w f t (Some (AtSemaphore s)) (λ _. f.tasks< t p) (λ _ _. tt) (λ _ _. tt)
    (λ z q. subst (λ x. T (held (w.semaphores x))) (at_same q) (subst (λ o. T (held o)) (sym e) tt)) (λ c q. absurd (at_on q))

-- and that too, where the holder has no chain to t
pub task_queued : (w : Waits) (t s h : ℕ) → Facts w → Present w t → w.semaphores s ≡ Some (Some h) → (Chain (Awaits w) h t → ⊥)
    → Facts (with_task w t (Some (AtSemaphore s)))
task_queued w t s h f p e none = record {
  sound = queued_sound w t s h f.sound p e;
  free = no_new_ring {old = Awaits w} {new = Awaits new} (λ i. i ≡ t) (λ j. j ≡ h) edges apart f.free;
}
  where
    new : Waits
    new = with_task w t (Some (AtSemaphore s))

    edges : (i j : ℕ) → Awaits new i j → Awaits w i j ⊎ ((i ≡ t) × (j ≡ h))
    edges i j =
        put_all (λ i o. Has (awaited_in new (wait_in o)) j → Awaits w i j ⊎ ((i ≡ t) × (j ≡ h))) w.tasks t (Some (AtSemaphore s))
        (λ x. inr (refl, has_pow h j (subst (λ o. Has (holder_set o) j) e x)))
        (λ i _ x. inl (subst (λ m. Has m j) (awaited_by w new.tasks (wait_in (w.tasks i))) x)) i

    apart : (p q : ℕ) → p ≡ t → q ≡ h → Chain (Awaits w) q p → ⊥
    apart p q a b c = none (subst (λ x. Chain (Awaits w) x t) b (subst (λ y. Chain (Awaits w) q y) a c))

-- where the holder has a chain to t, which was ready, a ring comes about
pub ring_queued : (w : Waits) (t s h : ℕ) → T (does Ready (w.tasks t)) → w.semaphores s ≡ Some (Some h) → Chain (Awaits w) h t
    → Ring (Awaits (with_task w t (Some (AtSemaphore s)))) t
ring_queued w t s h r e c =
    (h, away new t h (at s (ap wait_in (put_same w.tasks t (Some (AtSemaphore s)))) (held_of w s h e)), lift {R = Awaits w} {S = Awaits new} stay c)
  where
    new : Waits
    new = with_task w t (Some (AtSemaphore s))

    -- only t's edges differ, and t had none
    stay : (i j : ℕ) → Awaits w i j → Awaits new i j
    stay i j =
        put_all (λ i o. Awaits w i j → Has (awaited_in new (wait_in o)) j) w.tasks t (Some (AtSemaphore s)) (λ a. absurd (ready_none w t j r a))
        (λ i _ a. subst (λ m. Has m j) (sym (awaited_by w new.tasks (wait_in (w.tasks i)))) a) i

-- ---- one semaphore changes
-- s is h from now on, where what holding, waiting and belonging ask is so of h
semaphore_changed : (w : Waits) → Sound w → (s : ℕ) (h : Option Holder) → (T (is_some h) → s < 64)
    → ((t : ℕ) → T (held_by t h) → Present w t × ((c : ℕ) → wait_in (w.tasks t) ≡ OnCondition c → ⊥))
    → ((c : ℕ) → T (belongs s (w.conditions c)) → T (is_some h)) → ((t : ℕ) → wait_in (w.tasks t) ≡ AtSemaphore s → T (held h)) → Sound (with_semaphore w s h)
semaphore_changed w f s h small hold own queue = record {
  tasks< = f.tasks<;
  semaphores< = put_all (λ z o. T (is_some o) → z < 64) w.semaphores s h small (λ z _. f.semaphores< z);
  conditions< = f.conditions<;
  known = f.known;
  holders = λ t z. put_all (λ z o. T (held_by t o) → Present w t) w.semaphores s h (λ x. (hold t x).0) (λ z _. f.holders t z) z;
  helpers = f.helpers;
  belong = λ c z. put_all (λ z o. T (belongs z (w.conditions c)) → T (is_some o)) w.semaphores s h (own c) (λ z _. f.belong c z) z;
  held = λ t z. put_all (λ z o. wait_in (w.tasks t) ≡ AtSemaphore z → T (held o)) w.semaphores s h (queue t) (λ z _. f.held t z) z;
  bare = λ t c z e. put_all (λ z o. T (held_by t o) → ⊥) w.semaphores s h (λ x. (hold t x).1 c e) (λ z _. f.bare t c z e) z;
}

-- then the new edges lead from those who wait at s to its new holder
semaphore_edges : (w : Waits) (s : ℕ) (h : Option Holder) (i j : ℕ) → Awaits (with_semaphore w s h) i j
    → Awaits w i j ⊎ ((wait_in (w.tasks i) ≡ AtSemaphore s) × T (held_by j h))
semaphore_edges w s h i j a = go (way (with_semaphore w s h) i j a)
  where
    go : Way (with_semaphore w s h) i j → Awaits w i j ⊎ ((wait_in (w.tasks i) ≡ AtSemaphore s) × T (held_by j h))
    go (at z e x) =
        put_all (λ z o. wait_in (w.tasks i) ≡ AtSemaphore z → T (held_by j o) → Awaits w i j ⊎ ((wait_in (w.tasks i) ≡ AtSemaphore s) × T (held_by j h))) w.semaphores
        s h (λ q y. inr (q, y)) (λ z _ q y. inl (away w i j (at z q y))) z e x
    go (on c e x) = inl (away w i j (on c e x))

-- nobody waits at s
abbrev pub Unawaited : Waits → ℕ → Type 0
Unawaited w s = (i : ℕ) → wait_in (w.tasks i) ≡ AtSemaphore s → ⊥

-- s, at which nobody waits, is h from now on, which nobody holds
semaphore_idle : (w : Waits) (s : ℕ) (h : Option Holder) → Facts w → (T (is_some h) → s < 64) → ((t : ℕ) → T (held_by t h) → ⊥)
    → ((c : ℕ) → T (belongs s (w.conditions c)) → T (is_some h)) → Unawaited w s → Facts (with_semaphore w s h)
semaphore_idle w s h f small no-holder own empty = record {
  sound = semaphore_changed w f.sound s h small (λ t x. absurd (no-holder t x)) own (λ t e. absurd (empty t e));
  free = less_free w (with_semaphore w s h) (λ i j a. ⊎_elim (λ o. o) (λ (e, _). absurd (empty i e)) (semaphore_edges w s h i j a)) f.free;
}

-- s, at which nobody waits, is free from now on
pub semaphore_freed : (w : Waits) (s : ℕ) → Facts w → s < 64 → Unawaited w s → Facts (with_semaphore w s (Some None))
semaphore_freed w s f l empty = semaphore_idle w s (Some None) f (λ _. l) (λ _ x. x) (λ _ _. tt) empty

-- s ends, at which nobody waits and to which no condition belongs
pub semaphore_ended : (w : Waits) (s : ℕ) → Facts w → Unawaited w s → ((c : ℕ) → T (belongs s (w.conditions c)) → ⊥) → Facts (with_semaphore w s None)
semaphore_ended w s f empty own = semaphore_idle w s None f (λ x. absurd x) (λ _ x. x) own empty

-- u, present and ready, holds s from now on
pub semaphore_taken : (w : Waits) (s u : ℕ) → Facts w → s < 64 → T (does Ready (w.tasks u)) → Facts (with_semaphore w s (Some (Some u)))
semaphore_taken w s u f l r = record {
  sound = semaphore_changed w f.sound s (Some (Some u)) (λ _. l)
      (λ t x. subst (λ y. Present w y × ((c : ℕ) → wait_in (w.tasks y) ≡ OnCondition c → ⊥)) (eqb→eq u t x) (is.0, λ c e. ready_on (sym is.1 ∙ e)))
      (λ _ _. tt) (λ _ _. tt);
  free = no_new_ring {old = Awaits w} {new = Awaits (with_semaphore w s (Some (Some u)))} (λ i. wait_in (w.tasks i) ≡ AtSemaphore s) (λ j. u ≡ j)
      (λ i j a. ⊎_elim inl (λ (e, x). inr (e, eqb→eq u j x)) (semaphore_edges w s (Some (Some u)) i j a)) apart f.free;
}
  where
    is : Present w u × (wait_in (w.tasks u) ≡ Ready)
    is = does_is Ready (w.tasks u) r

    -- a chain from u ends at u, which waits nowhere
    apart : (p q : ℕ) → wait_in (w.tasks p) ≡ AtSemaphore s → u ≡ q → Chain (Awaits w) q p → ⊥
    apart p q e b c =
        let k : u ≡ p = ready_alone w r (subst (λ x. Chain (Awaits w) x p) (sym b) c) in
        ready_at (sym is.1 ∙ subst (λ x. wait_in (w.tasks x) ≡ AtSemaphore s) (sym k) e)

-- ---- a queue empties
-- what holds of d, where i did v, and else of what i did, holds of what i does
turned_all : (w : Waits) (v d : Wait) (P : Option Wait → Type 0) (i : ℕ) → (T (does v (w.tasks i)) → P (Some d)) → ((T (does v (w.tasks i)) → ⊥) → P (w.tasks i))
    → P ((turned w v d).tasks i)
turned_all w v d P i = go (does v (w.tasks i))
  where
    go : (x : Bool) → (T x → P (Some d)) → ((T x → ⊥) → P (w.tasks i)) → P (cond x (Some d) (w.tasks i))
    go true new old = new tt
    go false new old = old (λ x. x)

-- whoever waits at s is ready from now on
pub queue_freed : (w : Waits) (s : ℕ) → Facts w → Facts (turned w (AtSemaphore s) Ready)
queue_freed w s f = record {
  sound = tasks_changed w f.sound new.tasks
      (λ i. all (λ o. T (is_some o) → i < 64) i (λ x _. f.sound.tasks< i (does_is (AtSemaphore s) (w.tasks i) x).0) (λ _. f.sound.tasks< i))
      (λ i z. all (λ o. Holds w i z → T (is_some o)) i (λ _ _. tt) (λ _. f.sound.holders i z))
      (λ i c. all (λ o. Helps w i c → T (is_some o)) i (λ _ _. tt) (λ _. f.sound.helpers i c))
      (λ i z. all (λ o. wait_in o ≡ AtSemaphore z → T (held (w.semaphores z))) i (λ _ e. absurd (ready_at e)) (λ _. f.sound.held i z))
      (λ i c. all (λ o. wait_in o ≡ OnCondition c → T (is_some (w.conditions c)) × ((z : ℕ) → Holds w i z → ⊥)) i (λ _ e. absurd (ready_on e))
      (λ _ e. (f.sound.known i c e, λ z. f.sound.bare i c z e)));
  free = less_free w new
      (λ i j. all (λ o. Has (awaited_in new (wait_in o)) j → Awaits w i j) i (λ _ h. absurd (omega (arith, bit_none j, h)))
      (λ _ h. subst (λ m. Has m j) (awaited_by w new.tasks (wait_in (w.tasks i))) h)) f.free;
}
  where
    new : Waits
    new = turned w (AtSemaphore s) Ready

    all : (P : Option Wait → Type 0) (i : ℕ) → (T (does (AtSemaphore s) (w.tasks i)) → P (Some Ready)) → ((T (does (AtSemaphore s) (w.tasks i)) → ⊥) → P (w.tasks i)) → P (new.tasks i)
    all = turned_all w (AtSemaphore s) Ready

-- and so nobody waits there
pub queue_empty : (w : Waits) (s : ℕ) → Unawaited (turned w (AtSemaphore s) Ready) s
queue_empty w s i =
    turned_all w (AtSemaphore s) Ready (λ o. wait_in o ≡ AtSemaphore s → ⊥) i (λ _ e. ready_at e)
    (λ no e. no (is_does (AtSemaphore s) (w.tasks i) (waiter (w.tasks i) (AtSemaphore s) e ready_at) e))

-- ---- a task takes a semaphore, or comes to it
-- t, present, becomes ready and takes s
pub task_taken : (w : Waits) (t s : ℕ) → Facts w → Present w t → s < 64 → Facts (taken w t s)
task_taken w t s f p l =
    semaphore_taken (with_task w t (Some Ready)) s t (task_freed w t f p) l (subst (λ o. T (does Ready o)) (sym (put_same w.tasks t (Some Ready))) tt)

-- a chain from a holder leads to holders alone, since whoever is on a condition holds nothing
holder_end : (w : Waits) → Sound w → {h t : ℕ} (s : ℕ) → Holds w h s → Chain (Awaits w) h t → (z : ℕ) × Holds w t z
holder_end w f s x here = (s, x)
holder_end w f {t = t} s x (step {i = i} {j = j} a c) = go (way w i j a) (λ z y. holder_end w f z y c)
  where
    go : Way w i j → ((z : ℕ) → Holds w j z → (y : ℕ) × Holds w t y) → (y : ℕ) × Holds w t y
    go (at z e y) rest = rest z y
    go (on k e y) rest = absurd (f.bare i k s e x)

-- so none leads to a task that holds nothing
pub holder_apart : (w : Waits) → Sound w → (h s t : ℕ) → Holds w h s → ((z : ℕ) → Holds w t z → ⊥) → Chain (Awaits w) h t → ⊥
holder_apart w f h s t x nothing c = let (z, y) = holder_end w f s x c in nothing z y

-- s goes to a present task; with none, where nobody waits, it is free
pub handed_facts : (w : Waits) (s : ℕ) (o : Option ℕ) → Facts w → s < 64 → ((u : ℕ) → o ≡ Some u → Present w u) → (o ≡ None → Unawaited w s) → Facts (handed w s o)
handed_facts w s None f l there empty = semaphore_freed w s f l (empty refl)
handed_facts w s (Some u) f l there empty = task_taken w u s f (there u refl) l

-- t, present, comes to s and holds nothing
pub come_facts : (w : Waits) (t s : ℕ) → Facts w → Present w t → ((z : ℕ) → Holds w t z → ⊥) → Facts (come w t s)
come_facts w t s f p nothing = go (w.semaphores s) refl
  where
    go : (o : Option Holder) → w.semaphores s ≡ o → Facts (come_to w t s o)
    go None e = f
    go (Some None) e = task_taken w t s f p (f.sound.semaphores< s (subst (λ o. T (is_some o)) (sym e) tt))
    go (Some (Some h)) e = task_queued w t s h f p e (holder_apart w f.sound h s t (held_of w s h e) nothing)

-- a present task waits no more
pub released_facts : (w : Waits) (t : ℕ) → Facts w → Present w t → Facts (released w t)
released_facts w t f p = go (wait_in (w.tasks t)) refl
  where
    go : (d : Wait) → wait_in (w.tasks t) ≡ d → Facts (released_from w t d)
    go Ready e = f
    go (AtSemaphore s) e = task_freed w t f p
    go (OnCondition c) e = come_facts w t (semaphore_of (w.conditions c)) f p (λ z. f.sound.bare t c z e)

-- s ends, and whoever waits there is ready without it
pub unsem_facts : (w : Waits) (s : ℕ) → Facts w → ((c : ℕ) → T (belongs s (w.conditions c)) → ⊥) → Facts (with_semaphore (turned w (AtSemaphore s) Ready) s None)
unsem_facts w s f own = semaphore_ended (turned w (AtSemaphore s) Ready) s (queue_freed w s f) (queue_empty w s) own
