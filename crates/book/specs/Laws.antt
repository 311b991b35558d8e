-- What is proved of the book, whatever the calls and the order.
use Rattle.std.specs.Prelude.{◌≡◌, ℕ, ◌<◌, Bool, true, false, ◌&&◌, ◌||◌, T, ◌↔◌, List, [], ◌∷◌, is_some, Some, Ok, Err, Option, ◌==◌, ◌≢◌}
use Rattle.urgency.specs.Order.{Above}
use Rattle.tasksets.specs.Sets.{Has}
use Rattle.waits.specs.Chain.{Chain, Ring, From}
use Rattle.waits.specs.Waits.{awaited, Awaits}
use Rattle.waits.specs.Facts.{Present, IsReady, Facts}
use Rattle.book.specs.declared.call.Call.{Call}
use Rattle.book.specs.declared.call.Call.TheVariants.{Lock}
use Rattle.book.specs.declared.refusal.Refusal.{Refusal}
use Rattle.book.specs.declared.refusal.Refusal.TheVariants.{WouldRing}
use Rattle.book.specs.Refusals.{number_of}
use Rattle.book.specs.Book.{Book, level, running}
use Rattle.book.specs.Levels.{IsMost, IsLevel, LocalRule, First}
use Rattle.book.specs.Calls.{after}
use Rattle.book.specs.Runs.{Reply, all_refusals, step, book_after}

-- the refusal k is in the list, and its condition holds
abbrev pub meets : Refusal → List (Refusal × Bool) → Bool
meets k [] = false
meets k ((j, x) ∷ xs) = (number_of j == number_of k && x) || meets k xs

module _ {U : Type 0} (urgent : U → U → Bool) where
  -- ---- at every point
  pub record AtEachPoint (b : Book U) : Type 0 where
    -- who waits, holds or helps is present, and so on; there is no ring
    pub facts : Facts b.waits
    -- exactly the present tasks have a base
    pub bases : (t : ℕ) → Present b.waits t ↔ T (is_some (b.base t))
    -- a present task's level is the most urgent base among it and the tasks with a chain to it
    pub levels : (t : ℕ) → Present b.waits t → IsLevel (Above urgent) (Awaits b.waits) b.base t (level urgent b t)
    -- these levels obey the local rule
    pub local : (t : ℕ) → Present b.waits t → LocalRule (Above urgent) (Awaits b.waits) b.base (level urgent b) t
    -- and every choice of levels that obeys it is these
    pub only : (lev : ℕ → Option U) → ((t : ℕ) → Present b.waits t → LocalRule (Above urgent) (Awaits b.waits) b.base lev t)
        → (t : ℕ) → Present b.waits t → lev t ≡ level urgent b t
    -- the running task is the first of the ready tasks, and there is one when any is ready
    pub running_first : First (Above urgent) (IsReady b.waits) (level urgent b) (running urgent b)
    -- its level is the most urgent base among all tasks with a chain to a ready one
    pub running_most : (t : ℕ) → running urgent b ≡ Some t
        → IsMost (Above urgent) (λ i. (r : ℕ) × IsReady b.waits r × Chain (Awaits b.waits) i r) b.base (level urgent b t)

  -- ---- at every call
  -- refusal k's condition holds, whether or not an earlier one does
  abbrev pub Applies : ℕ → Book U → Call U → Refusal → Type 0
  Applies n b c k = T (meets k (all_refusals urgent n b c (after urgent (level urgent b) b c)))

  -- the base of i, or the tasks that it awaits, differ
  abbrev pub Altered : Book U → Book U → ℕ → Type 0
  Altered b x i = (b.base i ≡ x.base i) × (awaited b.waits i ≡ awaited x.waits i) → ⊥

  -- the calls whose step can make a ring
  abbrev pub may_ring : Call U → Bool
  may_ring (Lock t s) = true
  may_ring _ = false

  -- a call c on the book b, with n rows, leaves the book x and answers r
  pub record AtEachCall (n : ℕ) (b : Book U) (c : Call U) (x : Book U) (r : Reply) : Type 0 where
    -- a refusal is given just where it applies and none with a smaller number does
    pub refused : (k : Refusal) → (r ≡ Err k) ↔ (Applies n b c k × ((j : Refusal) → number_of j < number_of k → Applies n b c j → ⊥))
    -- the ring's is given just where no other applies and the whole step would leave a ring
    pub ring : (r ≡ Err WouldRing) ↔ (((j : Refusal) → number_of j < number_of WouldRing → Applies n b c j → ⊥) × ((i : ℕ) × Ring (Awaits (after urgent (level urgent b) b c).waits) i))
    -- and no other call is refused so
    pub no_ring : may_ring c ≡ false → r ≢ Err WouldRing
    -- a standing task keeps its level unless a chain leads to it, before or after, from a task that the call altered
    pub locality : (t : ℕ) → Present b.waits t → Present x.waits t
        → (From (Awaits b.waits) (Altered b x) t → ⊥) → (From (Awaits x.waits) (Altered b x) t → ⊥)
        → level urgent b t ≡ level urgent x t
    -- woken are the tasks that waited before and are ready after
    pub woken : (w : Bool) (a d : ℕ) → r ≡ Ok (w, a, d)
        → (i : ℕ) → Has a i ↔ (Present b.waits i × (IsReady b.waits i → ⊥) × IsReady x.waits i)
    -- changed are the standing tasks whose level differs
    pub changed : (w : Bool) (a d : ℕ) → r ≡ Ok (w, a, d)
        → (i : ℕ) → Has d i ↔ (Present b.waits i × Present x.waits i × (level urgent b i ≢ level urgent x i))

  -- both, after every list of calls
  abbrev pub Lawful : Type 0
  Lawful = (n : ℕ) (cs : List (Call U)) → AtEachPoint (book_after urgent n cs) × ((c : Call U) → AtEachCall n (book_after urgent n cs) c (step urgent n (book_after urgent n cs) c).0 (step urgent n (book_after urgent n cs) c).1)
