-- The walk over the tasks that turns those who do one thing to another.
use Rattle.std.proofs.Common.{◌≡◌, ℕ, ◌+◌, ◌<◌, ◌≤◌, cond, List, length, get_or, set, Some, None, Option, sym, ap, ◌∙◌, subst, arith, length-set}
use mathlib.Core.Path.{fun_ext}
use native.Mathlib.Decide.{dec_lt}
use Rattle.std.proofs.lemmas.List.{get_or_past}
use Rattle.waits.specs.declared.parts.Wait.{Wait}
use Rattle.waits.specs.declared.parts.Condition.{Condition}
use Rattle.waits.specs.Waits.{Holder, waits, does}
use Rattle.waits.specs.Changes.{turned}
use Rattle.waits.proofs.Keeps.{put_all}
use Rattle.waits.proofs.Tables.{get_or_put}

module _ (f : ℕ → Option Wait) (v d : Wait) where
  -- what a task does once the walk has come to number n
  abbrev pub At : ℕ → ℕ → Option Wait → Type 0
  At n i o = (i < n → o ≡ cond (does v (f i)) (Some d) (f i)) × (n ≤ i → o ≡ f i)

  -- of the tasks that did v, those below n are turned
  abbrev pub Turning : ℕ → List (Option Wait) → Type 0
  Turning n ts = (length ts ≡ 64) × ((i : ℕ) → At n i (get_or ts i None))

  -- one more, which is turned if it did v
  pub turn_next : (n : ℕ) (ts : List (Option Wait)) (x : Option Wait) → Turning n ts → n < 64 → x ≡ cond (does v (get_or ts n None)) (Some d) (get_or ts n None)
      → Turning (n + 1) (set ts n x)
  turn_next n ts x (long, t) l e =
      (length-set ts n x ∙ long, λ i. subst (At (n + 1) i) (sym (get_or_put ts None n x (omega arith) i)) (put_all (At (n + 1)) (λ i. get_or ts i None) n x here other i))
    where
      here : At (n + 1) n x
      here = (λ l. e ∙ ap (λ o. cond (does v o) (Some d) o) ((t n).1 (omega arith)), λ l. absurd (omega arith))

      other : (i : ℕ) → (i ≡ n → ⊥) → At (n + 1) i (get_or ts i None)
      other i ne = (λ l. (t i).0 (omega arith), λ l. (t i).1 (omega arith))

-- at the end all are
pub turn_end : (old new : List (Option Wait)) (ss : List (Option Holder)) (cs : List (Option Condition)) (v d : Wait) {n : ℕ} → length old ≡ 64 → n ≡ 64
    → Turning (λ i. get_or old i None) v d n new → waits new ss cs ≡ turned (waits old ss cs) v d
turn_end old new ss cs v d {n} long all (_, t) = ap (λ f. record { tasks = f; semaphores = λ i. get_or ss i None; conditions = λ i. get_or cs i None }) (fun_ext (λ i. go i (dec_lt i n)))
  where
    go : (i : ℕ) → Dec (i < n) → get_or new i None ≡ cond (does v (get_or old i None)) (Some d) (get_or old i None)
    go i (yes l) = (t i).0 l
    go i (no g) = let past : get_or old i None ≡ None = get_or_past old i None (omega arith) in (t i).1 (omega arith) ∙ past ∙ sym (ap (λ o. cond (does v o) (Some d) o) past)
