-- Tests as facts: what it is that a test says yes or no, alone or joined with another.
use Rattle.std.proofs.Common.{◌≡◌, Bool, true, false, not, ◌&&◌, ◌||◌, T, ◌⊎◌, refl, inl, inr}

pub true_of : (x : Bool) → T x → x ≡ true
true_of true t = refl
true_of false t = absurd t

pub false_of : (x : Bool) → (T x → ⊥) → x ≡ false
false_of true n = absurd (n tt)
false_of false n = refl

pub yes_of : (x : Bool) → (T (not x) → ⊥) → T x
yes_of true n = tt
yes_of false n = n tt

pub or_split : (x y : Bool) → T (x || y) → T x ⊎ T y
or_split true y t = inl tt
or_split false y t = inr t

pub or_left : (x y : Bool) → T x → T (x || y)
or_left true y t = tt
or_left false y t = absurd t

pub or_right : (x y : Bool) → T y → T (x || y)
or_right true y t = tt
or_right false y t = t

pub both : (x y : Bool) → T x → T y → T (x && y)
both true y t u = u
both false y t u = t

pub and_left : (x y : Bool) → T (x && y) → T x
and_left true y t = tt
and_left false y t = t

pub and_right : (x y : Bool) → T (x && y) → T y
and_right true y t = t
and_right false y t = absurd t
