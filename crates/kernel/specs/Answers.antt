-- What a question answers.
use Rattle.std.specs.Prelude.{ℕ, cond, Err, Option, Result, nat_lt}
use Rattle.std.specs.Option.{option_map, ok_or}
use Rattle.waits.specs.declared.parts.Wait.TheVariants.{AtSemaphore}
use Rattle.waits.specs.Waits.{Waits, doing}
use Rattle.book.specs.declared.refusal.Refusal.{Refusal}
use Rattle.book.specs.declared.refusal.Refusal.TheVariants.{Over63, NotDeclared}

-- the answer to a question about number t: refused where t is over 63 or there is no such thing
abbrev pub answered : {A : Type 0} → ℕ → Option A → Result A Refusal
answered t x = cond (nat_lt 63 t) (Err Over63) (ok_or x NotDeclared)

-- the tasks that wait at semaphore s, if it is present
abbrev pub waiters_at : Waits → ℕ → Option ℕ
waiters_at w s = option_map (λ _. doing w (AtSemaphore s)) (w.semaphores s)
