-- Chains and rings, computed.
use Rattle.std.specs.Prelude.{ℕ, zero, suc, ◌^◌, Bool, true, false, not, ◌||◌, ◌==◌, bit_and}
use Rattle.tasksets.specs.Sets.{has, none, those}
use Rattle.waits.specs.Waits.{Waits, awaited}

-- m, and the tasks that await one of m
abbrev pub wider : Waits → ℕ → ℕ
wider w m = those (λ i. has m i || not (none (bit_and (awaited w i) m)))

-- the tasks with a chain of at most n steps to one of m
unfoldable pub within : Waits → ℕ → ℕ → ℕ
within w zero m = m
within w (suc n) m = let v : ℕ = wider w m in elim (v == m) [ true ↦ m | false ↦ within w n v ]

-- the tasks with a chain to t: among 64 tasks none needs more than 64 steps
abbrev pub leading : Waits → ℕ → ℕ
leading w t = within w 64 (2 ^ t)

-- some task awaits one that has a chain to it
abbrev pub ring : Waits → Bool
ring w = not (none (those (λ i. elim (none (awaited w i)) [ true ↦ false | false ↦ not (none (bit_and (awaited w i) (leading w i))) ])))
