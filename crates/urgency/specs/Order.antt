-- What an order of urgencies is, and the more urgent of two.
use Rattle.std.specs.Prelude.{◌≡◌, Bool, true, false, cond, ◌&&◌, T, ◌⊎◌, Some, None, Option}

-- the three laws of an order: `at_least u v` says that u is at least as urgent as v
pub record Order {U : Type 0} (at_least : U → U → Type 0) : Type 0 where
  pub total : (u v : U) → at_least u v ⊎ at_least v u
  pub trans : {u v w : U} → at_least u v → at_least v w → at_least u w
  pub antisym : {u v : U} → at_least u v → at_least v u → u ≡ v

module _ {U : Type 0} (urgent : U → U → Bool) where
  -- the first is at least as urgent as the second; no urgency at all is the least
  abbrev pub above : Option U → Option U → Bool
  above u None = true
  above None (Some v) = false
  above (Some u) (Some v) = urgent u v

  abbrev pub Above : Option U → Option U → Type 0
  Above u v = T (above u v)

  -- the more urgent of two
  abbrev pub upper : Option U → Option U → Option U
  upper u v = cond (above u v) u v

  -- each at least as urgent as the other: the same urgency
  abbrev pub same : Option U → Option U → Bool
  same u v = above u v && above v u
