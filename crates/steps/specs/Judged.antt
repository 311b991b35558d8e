-- What the rule of a call says of a wait table.
use Rattle.std.specs.Prelude.{◌≡◌, ℕ, [], ◌∷◌, ◌++◌, Some, None, Ok, Err, Option, Result}
use Rattle.waits.specs.declared.table.WaitTable.{WaitTable}
use Rattle.waits.specs.Waits.{Waits}
use Rattle.waits.specs.Reach.{ring}
use Rattle.waits.specs.Table.{waits_of}
use Rattle.book.specs.declared.call.Call.{Call}
use Rattle.book.specs.declared.refusal.Refusal.{Refusal}
use Rattle.book.specs.declared.refusal.Refusal.TheVariants.{WouldRing}
use Rattle.book.specs.Calls.{refusals, waits_after}
use Rattle.book.specs.Runs.{earliest}

-- a call whose value, if it has one, is left out: no rule asks for it
abbrev pub Asked : Type 0
Asked = Call (Unit {0})

module _ (pick : ℕ → Option ℕ) (w : Waits) (c : Asked) where
  -- the first refusal that applies where there are rows enough
  abbrev pub refusal : Option Refusal
  refusal = earliest (refusals w 64 c ++ ((WouldRing, ring (waits_after pick w c)) ∷ []))

  -- that refusal, or, where none applies, the table after the call's step
  abbrev pub Judged : Result WaitTable Refusal → Type 0
  Judged (Err k) = refusal ≡ Some k
  Judged (Ok t) = (refusal ≡ None) × (waits_of t ≡ waits_after pick w c)

-- there is no first
abbrev pub nobody : ℕ → Option ℕ
nobody m = None
