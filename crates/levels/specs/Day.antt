-- The calls of the day, and the names of the tasks.
use Rattle.std.specs.Prelude.{ℕ, cond, List, [], ◌∷◌, codes, ◌==◌}
use Rattle.book.specs.declared.call.Call.{Call}
use Rattle.book.specs.declared.call.Call.TheVariants.{Task, Untask, Base}

abbrev pub day_calls : List (Call ℕ)
day_calls = Base 1 60 ∷ Task 63 255 ∷ Task 1 60 ∷ Task 2 120 ∷ Task 0 10 ∷ Task 0 10 ∷ Base 1 5 ∷ Task 64 1 ∷ Untask 2 ∷ Base 1 60 ∷ []

abbrev pub name_of : ℕ → List ℕ
name_of t =
    cond (t == 0) (codes "door sensor") (cond (t == 1) (codes "cold-box logger") (cond (t == 2) (codes "map download") (cond (t == 63) (codes "sleep task") (codes "unnamed task"))))
