-- What a call answers, and the book after a list of calls.
use Rattle.std.specs.Prelude.{ℕ, Bool, false, cond, not, ◌&&◌, List, [], ◌∷◌, ◌++◌, is_some, Some, None, Ok, Err, Option, Result}
use Rattle.urgency.specs.Order.{same}
use Rattle.tasksets.specs.Sets.{those}
use Rattle.waits.specs.declared.parts.Wait.TheVariants.{Ready}
use Rattle.waits.specs.Waits.{Waits, does, waiting}
use Rattle.waits.specs.Reach.{ring}
use Rattle.book.specs.declared.call.Call.{Call}
use Rattle.book.specs.declared.call.Call.TheVariants.{Lock}
use Rattle.book.specs.declared.refusal.Refusal.{Refusal}
use Rattle.book.specs.declared.refusal.Refusal.TheVariants.{WouldRing}
use Rattle.book.specs.Book.{Book, empty, level}
use Rattle.book.specs.Calls.{refusals, after}

-- waiting or done, the woken set, the changed set; or the refusal
abbrev pub Reply : Type 0
Reply = Result (Bool × ℕ × ℕ) Refusal

-- the first refusal whose condition holds
abbrev pub earliest : List (Refusal × Bool) → Option Refusal
earliest [] = None
earliest ((k, x) ∷ xs) = cond x (Some k) (earliest xs)

-- woken: the tasks that waited before and are ready after
abbrev pub woken : Waits → Waits → ℕ
woken w x = those (λ i. waiting w i && does Ready (x.tasks i))

-- the caller is left waiting: just where the call is `lock` and t waits after it
abbrev pub left_waiting : {U : Type 0} → Waits → Call U → Bool
left_waiting x (Lock t s) = waiting x t
left_waiting x _ = false

module _ {U : Type 0} (urgent : U → U → Bool) where
  -- changed: the tasks that are present before and after, and whose level differs
  abbrev pub changed : (ℕ → Option U) → Waits → Book U → ℕ
  changed lev w x = those (λ i. is_some (w.tasks i) && is_some (x.waits.tasks i) && not (same urgent (lev i) (level urgent x i)))

  -- every refusal that a call can meet, whose step leaves x: the ring comes last
  abbrev pub all_refusals : ℕ → Book U → Call U → Book U → List (Refusal × Bool)
  all_refusals n b c x = refusals b.waits n c ++ ((WouldRing, ring x.waits) ∷ [])

  -- what a call answers whose step leaves x
  abbrev pub answer : (ℕ → Option U) → Book U → Call U → Book U → Option Refusal → Reply
  answer lev b c x (Some k) = Err k
  answer lev b c x None = Ok (left_waiting x.waits c, woken b.waits x.waits, changed lev b.waits x)

  -- a refused call leaves the book as it was
  abbrev pub kept_or : Book U → Book U → Option Refusal → Book U
  kept_or b x (Some k) = b
  kept_or b x None = x

  -- with n rows, and lev the levels before the call: the book after it, and the reply
  unfoldable pub step_by : (ℕ → Option U) → ℕ → Book U → Call U → Book U × Reply
  step_by lev n b c =
      let x : Book U = after urgent lev b c in
      let r : Option Refusal = earliest (all_refusals n b c x) in
      (kept_or b x r, answer lev b c x r)

  -- the book goes by its own levels
  abbrev pub step : ℕ → Book U → Call U → Book U × Reply
  step n b c = step_by (level urgent b) n b c

  -- the book after the calls, from b on
  unfoldable pub book_from : ℕ → Book U → List (Call U) → Book U
  book_from n b [] = b
  book_from n b (c ∷ cs) = book_from n (step n b c).0 cs

  -- the book after the calls, from the empty one on
  abbrev pub book_after : ℕ → List (Call U) → Book U
  book_after n cs = book_from n empty cs
