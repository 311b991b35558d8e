-- Who awaits whom, and what a change of one task keeps of the facts.
use Rattle.std.proofs.Common.{◌≡◌, ℕ, ◌^◌, ◌<◌, Bool, true, false, cond, T, eqb, ◌⊎◌, is_some, Some, None, Option, sym, refl, ap, ◌∙◌, subst, inl, inr, ⊎_elim, arith, eqb→eq}
use lib.Dec.{eqb_refl}
use Rattle.tasksets.specs.Sets.{Has}
use Rattle.tasksets.proofs.Bits.{bit_none, none_has, bit_pow, has_pow}
use Rattle.tasksets.proofs.Sets.{T_has, has_T, those_only, those_all}
use Rattle.waits.specs.declared.parts.Wait.{Wait}
use Rattle.waits.specs.declared.parts.Wait.TheVariants.{Ready, AtSemaphore, OnCondition}
use Rattle.waits.specs.declared.parts.Condition.{Condition}
use Rattle.waits.specs.Waits.{Holder, Waits, wait_in, holder_set, awaited_in, Awaits, same_wait, does, held_by, held, helped_by, doing, put, with_task}
use Rattle.waits.specs.Facts.{Present, Holds, Helps, RingFree, Sound, Facts}
use Rattle.waits.proofs.Chains.{lift_none}

-- ---- a change at one number
-- what `put` has at i
pub put_at : {A : Type 0} (f : ℕ → A) (k : ℕ) (v : A) (i : ℕ) → ((i ≡ k) × (put f k v i ≡ v)) ⊎ ((i ≡ k → ⊥) × (put f k v i ≡ f i))
put_at f k v i = go (eqb i k) refl
  where
    go : (x : Bool) → eqb i k ≡ x → ((i ≡ k) × (cond x v (f i) ≡ v)) ⊎ ((i ≡ k → ⊥) × (cond x v (f i) ≡ f i))
    go true e = inl (eqb→eq _ _ (subst T (sym e) tt), refl)
    go false e = inr (λ q. subst T e (subst (λ x. T (eqb x k)) (sym q) (eqb_refl k)), refl)

-- what holds of the new value and of each other old one holds of each
pub put_all : {A : Type 0} (P : ℕ → A → Type 0) (f : ℕ → A) (k : ℕ) (v : A) → P k v → ((i : ℕ) → (i ≡ k → ⊥) → P i (f i)) → (i : ℕ) → P i (put f k v i)
put_all P f k v new old i =
    ⊎_elim (λ (e, q). subst (P i) (sym q) (subst (λ x. P x v) (sym e) new)) (λ (ne, q). subst (P i) (sym q) (old i ne)) (put_at f k v i)

pub put_same : {A : Type 0} (f : ℕ → A) (k : ℕ) (v : A) → put f k v k ≡ v
put_same f k v = ⊎_elim (λ (_, q). q) (λ (ne, _). absurd (ne refl)) (put_at f k v k)

pub put_other : {A : Type 0} (f : ℕ → A) (k : ℕ) (v : A) (i : ℕ) → (i ≡ k → ⊥) → put f k v i ≡ f i
put_other f k v i n = ⊎_elim (λ (e, _). absurd (n e)) (λ (_, q). q) (put_at f k v i)

-- ---- what a task does
pub ready_at : {s : ℕ} → Ready ≡ AtSemaphore s → ⊥
ready_at e = let z : ◌≡◌ {A = ℕ} 0 1 = cc in omega arith

pub ready_on : {c : ℕ} → Ready ≡ OnCondition c → ⊥
ready_on e = let z : ◌≡◌ {A = ℕ} 0 1 = cc in omega arith

pub at_on : {s c : ℕ} → AtSemaphore s ≡ OnCondition c → ⊥
at_on e = let z : ◌≡◌ {A = ℕ} 0 1 = cc in omega arith

pub same_wait_is : (v w : Wait) → T (same_wait v w) → v ≡ w
same_wait_is Ready Ready t = refl
same_wait_is Ready (AtSemaphore s) t = absurd t
same_wait_is Ready (OnCondition c) t = absurd t
same_wait_is (AtSemaphore s) Ready t = absurd t
same_wait_is (AtSemaphore s) (AtSemaphore z) t = ap AtSemaphore (eqb→eq s z t)
same_wait_is (AtSemaphore s) (OnCondition c) t = absurd t
same_wait_is (OnCondition c) Ready t = absurd t
same_wait_is (OnCondition c) (AtSemaphore s) t = absurd t
same_wait_is (OnCondition c) (OnCondition z) t = ap OnCondition (eqb→eq c z t)

pub is_same_wait : (v w : Wait) → v ≡ w → T (same_wait v w)
is_same_wait v w e = subst (λ x. T (same_wait v x)) e (self v)
  where
    self : (v : Wait) → T (same_wait v v)
    self Ready = tt
    self (AtSemaphore s) = eqb_refl s
    self (OnCondition c) = eqb_refl c

pub does_is : (w : Wait) (o : Option Wait) → T (does w o) → T (is_some o) × (wait_in o ≡ w)
does_is w None t = absurd t
does_is w (Some v) t = (tt, same_wait_is v w t)

pub is_does : (w : Wait) (o : Option Wait) → T (is_some o) → wait_in o ≡ w → T (does w o)
is_does w None p e = p
is_does w (Some v) p e = is_same_wait v w e

-- who waits is present
pub waiter : (o : Option Wait) (w : Wait) → wait_in o ≡ w → (Ready ≡ w → ⊥) → T (is_some o)
waiter None w e ne = ne e
waiter (Some x) w e ne = tt

-- ---- holders and helpers
pub held_some : (h : Option Holder) (t : ℕ) → T (held_by t h) → T (held h)
held_some None t x = x
held_some (Some None) t x = x
held_some (Some (Some h)) t x = tt

pub held_there : (h : Option Holder) → T (held h) → T (is_some h)
held_there None x = x
held_there (Some h) x = tt

-- where there is no condition, nobody helps
pub helps_nothing : (t : ℕ) → helped_by t None ≡ false
helps_nothing t = none_has t

pub helped_there : (k : Option Condition) (t : ℕ) → T (helped_by t k) → T (is_some k)
helped_there None t h = subst T (helps_nothing t) h
helped_there (Some k) t h = tt

pub holder_is : (h : Option Holder) (j : ℕ) → Has (holder_set h) j → T (held_by j h)
holder_is None j x = omega (arith, bit_none j, x)
holder_is (Some None) j x = omega (arith, bit_none j, x)
holder_is (Some (Some h)) j x = subst (λ y. T (eqb h y)) (sym (has_pow h j x)) (eqb_refl h)

pub is_holder : (h : Option Holder) (j : ℕ) → T (held_by j h) → Has (holder_set h) j
is_holder None j x = absurd x
is_holder (Some None) j x = absurd x
is_holder (Some (Some h)) j x = subst (λ y. Has (2 ^ h) y) (eqb→eq h j x) (bit_pow h)

-- ---- who awaits whom
-- a task at a semaphore awaits its holder, one on a condition each of its helpers
pub data Way (w : Waits) (i j : ℕ) : Type 0 where
  at : (s : ℕ) → wait_in (w.tasks i) ≡ AtSemaphore s → Holds w j s → Way w i j
  on : (c : ℕ) → wait_in (w.tasks i) ≡ OnCondition c → Helps w j c → Way w i j

pub way : (w : Waits) (i j : ℕ) → Awaits w i j → Way w i j
way w i j = go (wait_in (w.tasks i)) refl
  where
    go : (d : Wait) → wait_in (w.tasks i) ≡ d → Has (awaited_in w d) j → Way w i j
    go Ready e h = absurd (omega (arith, bit_none j, h))
    go (AtSemaphore s) e h = at s e (holder_is (w.semaphores s) j h)
    go (OnCondition c) e h = on c e (T_has _ j h)

pub away : (w : Waits) (i j : ℕ) → Way w i j → Awaits w i j
away w i j (at s e h) = subst (λ d. Has (awaited_in w d) j) (sym e) (is_holder (w.semaphores s) j h)
away w i j (on c e h) = subst (λ d. Has (awaited_in w d) j) (sym e) (has_T _ j h)

pub inside : (w : Waits) → Sound w → (i j : ℕ) → Awaits w i j → Present w i × Present w j
inside w f i j a = go (way w i j a)
  where
    go : Way w i j → Present w i × Present w j
    go (at s e h) = (waiter (w.tasks i) (AtSemaphore s) e ready_at, f.holders j s h)
    go (on c e h) = (waiter (w.tasks i) (OnCondition c) e ready_on, f.helpers j c h)

pub less_free : (w x : Waits) → ((i j : ℕ) → Awaits x i j → Awaits w i j) → RingFree w → RingFree x
less_free w x less free = lift_none less free

-- ---- the set of those that do one thing
pub in_doing : (w : Waits) → Sound w → (d : Wait) (i : ℕ) → T (does d (w.tasks i)) → Has (doing w d) i
in_doing w f d i t = those_all (λ i. does d (w.tasks i)) i (f.tasks< i (does_is d (w.tasks i) t).0) t

pub from_doing : (w : Waits) (d : Wait) (i : ℕ) → Has (doing w d) i → T (does d (w.tasks i))
from_doing w d i h = (those_only (λ i. does d (w.tasks i)) i h).0

-- ---- the tasks alone changed
module _ (w : Waits) (f : Sound w) where
  pub tasks_changed : (g : ℕ → Option Wait) → ((i : ℕ) → T (is_some (g i)) → i < 64) → ((i s : ℕ) → Holds w i s → T (is_some (g i)))
      → ((i c : ℕ) → Helps w i c → T (is_some (g i))) → ((i s : ℕ) → wait_in (g i) ≡ AtSemaphore s → T (held (w.semaphores s)))
      → ((i c : ℕ) → wait_in (g i) ≡ OnCondition c → T (is_some (w.conditions c)) × ((s : ℕ) → Holds w i s → ⊥))
      → Sound (record { tasks = g; semaphores = w.semaphores; conditions = w.conditions })
  tasks_changed g small hold help queue rest = record {
    tasks< = small;
    semaphores< = f.semaphores<;
    conditions< = f.conditions<;
    known = λ i c e. (rest i c e).0;
    holders = hold;
    helpers = help;
    belong = f.belong;
    held = queue;
    bare = λ i c s e. (rest i c e).1 s;
  }

  -- t does v from now on, where what waiting and absence ask is so of t
  pub task_changed : (t : ℕ) (v : Option Wait) → (T (is_some v) → t < 64) → ((s : ℕ) → Holds w t s → T (is_some v)) → ((c : ℕ) → Helps w t c → T (is_some v))
      → ((s : ℕ) → wait_in v ≡ AtSemaphore s → T (held (w.semaphores s)))
      → ((c : ℕ) → wait_in v ≡ OnCondition c → T (is_some (w.conditions c)) × ((s : ℕ) → Holds w t s → ⊥)) → Sound (with_task w t v)
  task_changed t v small hold help queue rest =
      tasks_changed (put w.tasks t v) (put_all (λ i o. T (is_some o) → i < 64) w.tasks t v small (λ i _. f.tasks< i))
      (λ i s. put_all (λ i o. Holds w i s → T (is_some o)) w.tasks t v (hold s) (λ i _. f.holders i s) i)
      (λ i c. put_all (λ i o. Helps w i c → T (is_some o)) w.tasks t v (help c) (λ i _. f.helpers i c) i)
      (λ i s. put_all (λ i o. wait_in o ≡ AtSemaphore s → T (held (w.semaphores s))) w.tasks t v (queue s) (λ i _. f.held i s) i)
      (λ i c. put_all (λ i o. wait_in o ≡ OnCondition c → T (is_some (w.conditions c)) × ((s : ℕ) → Holds w i s → ⊥)) w.tasks t v (rest c)
      (λ i _ e. (f.known i c e, λ s. f.bare i c s e)) i)

-- whom a task awaits goes by semaphores and conditions alone
pub awaited_by : (w : Waits) (g : ℕ → Option Wait) (d : Wait) → awaited_in (record { tasks = g; semaphores = w.semaphores; conditions = w.conditions }) d ≡ awaited_in w d
awaited_by w g Ready = refl
awaited_by w g (AtSemaphore s) = refl
awaited_by w g (OnCondition c) = refl

-- a task that is ready from now on, or absent, awaits nobody
pub idle_less : (w : Waits) (t : ℕ) (v : Option Wait) → wait_in v ≡ Ready → (i j : ℕ) → Awaits (with_task w t v) i j → Awaits w i j
idle_less w t v e i j =
    put_all (λ i o. Has (awaited_in (with_task w t v) (wait_in o)) j → Awaits w i j) w.tasks t v
    (λ h. absurd (omega (arith, bit_none j, subst (λ d. Has (awaited_in (with_task w t v) d) j) e h)))
    (λ i _ h. subst (λ m. Has m j) (awaited_by w (put w.tasks t v) (wait_in (w.tasks i))) h) i

-- t is ready from now on, or absent
pub idle : (w : Waits) (t : ℕ) (v : Option Wait) → Facts w → wait_in v ≡ Ready → (T (is_some v) → t < 64) → ((s : ℕ) → Holds w t s → T (is_some v))
    → ((c : ℕ) → Helps w t c → T (is_some v)) → Facts (with_task w t v)
idle w t v f e small hold help = record {
  sound = task_changed w f.sound t v small hold help (λ s q. absurd (ready_at (sym e ∙ q))) (λ c q. absurd (ready_on (sym e ∙ q)));
  free = less_free w (with_task w t v) (idle_less w t v e) f.free;
}

pub task_made : (w : Waits) (t : ℕ) → Facts w → t < 64 → w.tasks t ≡ None → Facts (with_task w t (Some Ready))
task_made w t f l _ = idle w t (Some Ready) f refl (λ _. l) (λ _ _. tt) (λ _ _. tt)

pub task_ended : (w : Waits) (t : ℕ) → Facts w → ((c : ℕ) → Helps w t c → ⊥) → ((s : ℕ) → Holds w t s → ⊥) → Facts (with_task w t None)
task_ended w t f no-help no-hold = idle w t None f refl (λ p. absurd p) no-hold no-help
