-- What arrays of 64 places hold, by number: past the end nothing, and a write is a change at one number.
use Rattle.std.proofs.Common.{◌≡◌, ℕ, zero, suc, ◌^◌, ◌<◌, Bool, true, false, cond, T, eqb, ◌≢◌, List, length, get_or, set, replicate, is_some, Some, None, Option, sym, refl, ap, ◌∙◌, subst, arith, eqb→eq, get_or-set_other, get_or-set_same}
use mathlib.Core.Path.{fun_ext}
use native.Mathlib.Decide.{dec_lt}
use lib.Dec.{eqb_refl}
use Rattle.std.proofs.lemmas.List.{get_or_past}
use Rattle.tasksets.specs.Sets.{bit}
use Rattle.tasksets.proofs.Bits.{bit_none}
use Rattle.tasksets.proofs.Sets.{has_T}
use Rattle.waits.specs.declared.parts.Wait.{Wait}
use Rattle.waits.specs.declared.parts.Wait.TheVariants.{AtSemaphore}
use Rattle.waits.specs.declared.parts.Condition.{Condition}
use Rattle.waits.specs.declared.table.WaitTable.{WaitTable}
use Rattle.waits.specs.Waits.{Holder, Waits, waits, nothing, wait_in, holder_set, awaited_in, awaited, Awaits, held_by, put, with_task}
use Rattle.waits.specs.Changes.{with_semaphore}
use Rattle.waits.specs.Facts.{Sound, Facts}
use Rattle.waits.specs.Reach.{ring}
use Rattle.waits.specs.Table.{waits_of}
use Rattle.waits.proofs.Keeps.{ready_at, ready_on}
use Rattle.waits.proofs.Reach.{ring_false}

-- what stands in a list of options stands below its length
pub there_below : {A : Type 0} (xs : List (Option A)) (n : ℕ) → length xs ≡ n → (i : ℕ) → T (is_some (get_or xs i None)) → i < n
there_below xs n l i p = go (dec_lt i n)
  where
    go : Dec (i < n) → i < n
    go (yes h) = h
    go (no h) = absurd (subst (λ o. T (is_some o)) (get_or_past xs i None (omega arith)) p)

-- what a list of one entry repeated has, past its end too
pub default_at : {A : Type 0} (d : A) (n i : ℕ) → get_or (replicate n d) i d ≡ d
default_at d zero i = refl
default_at d (suc n) zero = refl
default_at d (suc n) (suc i) = default_at d n i

pub get_or_put : {A : Type 0} (xs : List A) (d : A) (k : ℕ) (v : A) → k < length xs → (i : ℕ) → get_or (set xs k v) i d ≡ put (λ i. get_or xs i d) k v i
get_or_put xs d k v l i = go (eqb i k) refl
  where
    go : (x : Bool) → eqb i k ≡ x → get_or (set xs k v) i d ≡ cond x v (get_or xs i d)
    go true e = let q : i ≡ k = eqb→eq _ _ (subst T (sym e) tt) in ap (λ i. get_or (set xs k v) i d) q ∙ rw get_or-set_same
    go false e = let ne : i ≢ k = λ q. subst T e (subst (λ x. T (eqb x k)) (sym q) (eqb_refl k)) in rw get_or-set_other

-- a table has the facts that are parts of its type
pub facts_of : (t : WaitTable) → Facts (waits_of t)
facts_of t = record {
  sound = record {
    tasks< = there_below t.tasks 64 t.sized.0;
    semaphores< = there_below t.semaphores 64 t.sized.1;
    conditions< = there_below t.conditions 64 t.sized.2;
    known = t.known;
    holders = t.holders;
    helpers = t.helpers;
    belong = t.belong;
    held = t.held;
    bare = t.bare;
  };
  free = t.free;
}

-- so it has no ring
pub no_ring : (t : WaitTable) → ring (waits_of t) ≡ false
no_ring t = ring_false (waits_of t) (facts_of t)

-- empty arrays hold nothing
pub none_there : waits (replicate 64 None) (replicate 64 None) (replicate 64 None) ≡ nothing
none_there =
    ap (λ f. record { tasks = f; semaphores = λ i. get_or (replicate 64 None) i None; conditions = λ i. get_or (replicate 64 None) i None }) (fun_ext (default_at {A = Option Wait} None 64))
    ∙ (ap (λ f. record { tasks = λ _. None; semaphores = f; conditions = λ i. get_or (replicate 64 None) i None }) (fun_ext (default_at {A = Option Holder} None 64))
    ∙ ap (λ f. record { tasks = λ _. None; semaphores = λ _. None; conditions = f }) (fun_ext (default_at {A = Option Condition} None 64)))

-- a write among the tasks
pub task_written : (ts : List (Option Wait)) (ss : List (Option Holder)) (cs : List (Option Condition)) (t : ℕ) (v : Option Wait) → t < length ts
    → waits (set ts t v) ss cs ≡ with_task (waits ts ss cs) t v
task_written ts ss cs t v l =
    ap (λ f. record { tasks = f; semaphores = λ i. get_or ss i None; conditions = λ i. get_or cs i None }) (fun_ext (get_or_put ts None t v l))

-- a write among the semaphores
pub semaphore_written : (ts : List (Option Wait)) (ss : List (Option Holder)) (cs : List (Option Condition)) (s : ℕ) (h : Option Holder) → s < length ss
    → waits ts (set ss s h) cs ≡ with_semaphore (waits ts ss cs) s h
semaphore_written ts ss cs s h l =
    ap (λ f. record { tasks = λ i. get_or ts i None; semaphores = f; conditions = λ i. get_or cs i None }) (fun_ext (get_or_put ss None s h l))

-- where nothing is present, the facts hold
pub nothing_facts : Facts nothing
nothing_facts = record {
  sound = record {
    tasks< = λ t p. absurd p;
    semaphores< = λ s p. absurd p;
    conditions< = λ c p. absurd p;
    known = λ t c e. absurd (ready_on e);
    holders = λ t s h. absurd h;
    helpers = λ t c h. absurd (omega (arith, has_T 0 t h, bit_none t));
    belong = λ c s h. absurd h;
    held = λ t s e. absurd (ready_at e);
    bare = λ t c s e h. h;
  };
  free = λ i (j, a, c). omega (arith, bit_none j, a);
}

-- a holder is a task below 64
pub holder_below : (w : Waits) → Sound w → (s h : ℕ) → w.semaphores s ≡ Some (Some h) → h < 64
holder_below w f s h e = f.tasks< h (f.holders h s (subst (λ o. T (held_by h o)) (sym e) (eqb_refl h)))

-- a task at a held semaphore awaits its holder
pub awaits_holder : (w : Waits) (i s h : ℕ) → w.tasks i ≡ Some (AtSemaphore s) → w.semaphores s ≡ Some (Some h) → awaited w i ≡ 2 ^ h
awaits_holder w i s h e d = ap (λ o. awaited_in w (wait_in o)) e ∙ ap holder_set d

-- only tasks below 64 await
pub waiter_below : (t : WaitTable) (i j : ℕ) → Awaits (waits_of t) i j → i < 64
waiter_below t i j a = (facts_of t).sound.tasks< i (go ((waits_of t).tasks i) refl)
  where
    go : (o : Option Wait) → (waits_of t).tasks i ≡ o → T (is_some ((waits_of t).tasks i))
    go (Some v) e = subst (λ o. T (is_some o)) (sym e) tt
    go None e = absurd (omega (arith, bit_none j, ap (λ o. bit (awaited_in (waits_of t) (wait_in o)) j) e, a))
