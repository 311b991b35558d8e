-- The refusal that a call is given is the first that applies, and the ring's is given just where the step would leave a ring.
use Rattle.std.proofs.Common.{◌≡◌, ℕ, suc, ◌<◌, Bool, true, false, cond, ◌&&◌, T, eqb, ltb, ◌↔◌, List, [], ◌∷◌, ◌++◌, get_or, Some, None, Err, Option, sym, refl, ap, ◌∙◌, subst, ⊎_elim, arith, eqb→eq, leb→le}
use lib.Dec.{eqb_refl}
use Rattle.waits.specs.Chain.{Ring}
use Rattle.waits.specs.Waits.{Waits, Awaits}
use Rattle.waits.specs.Facts.{Facts}
use Rattle.waits.specs.Reach.{ring}
use Rattle.waits.proofs.Tests.{or_split, or_left, or_right, both, and_left, and_right}
use Rattle.waits.proofs.Reach.{ring_only, ring_all}
use Rattle.book.specs.declared.call.Call.{Call}
use Rattle.book.specs.declared.call.Call.TheVariants.{Task, Untask, Base, Sem, Unsem, Lock, Try, Unlock, Release}
use Rattle.book.specs.declared.refusal.Refusal.{Refusal}
use Rattle.book.specs.declared.refusal.Refusal.TheVariants.{TooLarge, ShortBuffer, FewRows, NoOrder, LongLine, NoForm, UnknownCall, WrongArguments, OutOfRange, Over63, NotDeclared, AlreadyThere, CallerWaits, NotWaiting, NotHolder, HoldsIt, HeldByOther, HoldsFurther, InUse, HelperAsItIs, WouldRing}
use Rattle.book.specs.Refusals.{number_of}
use Rattle.book.specs.Book.{Book, level}
use Rattle.book.specs.Calls.{own_refusals, refusals, after}
use Rattle.book.specs.Runs.{earliest, all_refusals, answer, step_by, step}
use Rattle.book.specs.Laws.{meets, Applies, may_ring}
use Rattle.book.proofs.Clear.{Clear}
use Rattle.book.proofs.Facts.{Leaves, leaves}

-- ---- a refusal is known by its number
named : ℕ → Refusal
named n =
    get_or (
    TooLarge ∷ TooLarge ∷ ShortBuffer ∷ FewRows ∷ NoOrder ∷ LongLine ∷ NoForm ∷ UnknownCall ∷ WrongArguments ∷ OutOfRange ∷ Over63 ∷ NotDeclared
    ∷ AlreadyThere ∷ CallerWaits ∷ NotWaiting ∷ NotHolder ∷ HoldsIt ∷ HeldByOther ∷ HoldsFurther ∷ InUse ∷ HelperAsItIs ∷ WouldRing ∷ []) n TooLarge

named_number : (k : Refusal) → named (number_of k) ≡ k
unfolding named
named_number TooLarge = refl
named_number ShortBuffer = refl
named_number FewRows = refl
named_number NoOrder = refl
named_number LongLine = refl
named_number NoForm = refl
named_number UnknownCall = refl
named_number WrongArguments = refl
named_number OutOfRange = refl
named_number Over63 = refl
named_number NotDeclared = refl
named_number AlreadyThere = refl
named_number CallerWaits = refl
named_number NotWaiting = refl
named_number NotHolder = refl
named_number HoldsIt = refl
named_number HeldByOther = refl
named_number HoldsFurther = refl
named_number InUse = refl
named_number HelperAsItIs = refl
named_number WouldRing = refl

pub same_number : (j k : Refusal) → number_of j ≡ number_of k → j ≡ k
same_number j k e = sym (named_number j) ∙ ap named e ∙ named_number k

-- ---- lists whose numbers rise, from above l on
abbrev Rising : ℕ → List (Refusal × Bool) → Type 0
Rising l [] = Unit {0}
Rising l ((k, x) ∷ xs) = T (ltb l (number_of k)) × Rising (number_of k) xs

-- r is the first of the list that applies
abbrev Least : List (Refusal × Bool) → Option Refusal → Type 0
Least xs None = (j : Refusal) → T (meets j xs) → ⊥
Least xs (Some k) = T (meets k xs) × ((j : Refusal) → number_of j < number_of k → T (meets j xs) → ⊥)

met_above : (l : ℕ) (xs : List (Refusal × Bool)) → Rising l xs → (j : Refusal) → T (meets j xs) → l < number_of j
met_above l [] r j m = absurd m
met_above l ((k, x) ∷ xs) (q, r) j m =
    ⊎_elim (λ t. omega (arith, leb→le (suc l) (number_of k) q, eqb→eq (number_of k) (number_of j) (and_left (eqb (number_of k) (number_of j)) x t)))
    (λ t. omega (arith, leb→le (suc l) (number_of k) q, met_above (number_of k) xs r j t)) (or_split (eqb (number_of k) (number_of j) && x) (meets j xs) m)

least : (l : ℕ) (xs : List (Refusal × Bool)) → Rising l xs → Least xs (earliest xs)
least l [] r = λ j m. m
least l ((k, x) ∷ xs) (q, r) = go x (earliest xs) (least (number_of k) xs r)
  where
    later : (j : Refusal) → T (meets j ((k, false) ∷ xs)) → T (meets j xs)
    later j m = ⊎_elim (λ t. absurd (and_right (eqb (number_of k) (number_of j)) false t)) (λ t. t) (or_split (eqb (number_of k) (number_of j) && false) (meets j xs) m)

    go : (x : Bool) (o : Option Refusal) → Least xs o → Least ((k, x) ∷ xs) (cond x (Some k) o)
    go true o p = (
      or_left (eqb (number_of k) (number_of k) && true) (meets k xs) (both (eqb (number_of k) (number_of k)) true (eqb_refl (number_of k)) tt),
      λ j s m.
          ⊎_elim (λ t. omega (arith, eqb→eq (number_of k) (number_of j) (and_left (eqb (number_of k) (number_of j)) true t))) (λ t. omega (arith, met_above (number_of k) xs r j t))
          (or_split (eqb (number_of k) (number_of j) && true) (meets j xs) m),
    )
    go false None p = λ j m. p j (later j m)
    go false (Some i) (m, p) = (or_right (eqb (number_of k) (number_of i) && false) (meets i xs) m, λ j s n. p j s (later j n))

-- ---- a rising list that ends in the ring's refusal
module _ (y : Bool) where
  abbrev ended : List (Refusal × Bool) → List (Refusal × Bool)
  ended xs = xs ++ ((WouldRing, y) ∷ [])

  below_ring : (l : ℕ) (xs : List (Refusal × Bool)) → Rising l (ended xs) → l < 21
  below_ring l [] (q, r) = leb→le (suc l) 21 q
  below_ring l ((k, x) ∷ xs) (q, r) = omega (arith, leb→le (suc l) (number_of k) q, below_ring (number_of k) xs r)

  -- the ring's applies only where its own condition holds
  ring_met : (l : ℕ) (xs : List (Refusal × Bool)) → Rising l (ended xs) → T (meets WouldRing (ended xs)) → T y
  ring_met l [] r m = ⊎_elim (λ t. t) (λ t. absurd t) (or_split y false m)
  ring_met l ((k, x) ∷ xs) (q, r) m =
      ⊎_elim (λ t. absurd (omega (arith, below_ring (number_of k) xs r, eqb→eq (number_of k) 21 (and_left (eqb (number_of k) 21) x t))))
      (ring_met (number_of k) xs r) (or_split (eqb (number_of k) 21 && x) (meets WouldRing (ended xs)) m)

  met_ring : (xs : List (Refusal × Bool)) → T y → T (meets WouldRing (ended xs))
  met_ring [] t = or_left y false t
  met_ring ((k, x) ∷ xs) t = or_right (eqb (number_of k) 21 && x) (meets WouldRing (ended xs)) (met_ring xs t)

  -- where none before it applies, the others are clear
  others_clear : (l : ℕ) (xs : List (Refusal × Bool)) → Rising l (ended xs) → ((j : Refusal) → number_of j < 21 → T (meets j (ended xs)) → ⊥) → Clear xs
  others_clear l [] r free = tt
  others_clear l ((k, x) ∷ xs) (q, r) free = (
    λ t. free k (below_ring (number_of k) xs r) (or_left (eqb (number_of k) (number_of k) && x) (meets k (ended xs)) (both (eqb (number_of k) (number_of k)) x (eqb_refl (number_of k)) t)),
    others_clear (number_of k) xs r (λ j s m. free j s (or_right (eqb (number_of k) (number_of j) && x) (meets j (ended xs)) m)),
  )

  -- the refusals of each call rise
  rising_own : {U : Type 0} (w : Waits) (c : Call U) → Rising 12 (ended (own_refusals w c))
  rising_own w (Task t v) = (tt, tt)
  rising_own w (Untask t) = (tt, (tt, (tt, tt)))
  rising_own w (Base t v) = (tt, tt)
  rising_own w (Sem s) = (tt, tt)
  rising_own w (Unsem s) = (tt, (tt, tt))
  rising_own w (Lock t s) = (tt, (tt, (tt, tt)))
  rising_own w (Try t s) = (tt, (tt, (tt, (tt, tt))))
  rising_own w (Unlock t s) = (tt, (tt, (tt, tt)))
  rising_own w (Release t) = (tt, (tt, tt))

  rising : {U : Type 0} (w : Waits) (n : ℕ) (c : Call U) → Rising 0 (ended (refusals w n c))
  unfolding refusals
  rising w n c = (tt, (tt, (tt, (tt, rising_own w c))))

module _ {U : Type 0} (urgent : U → U → Bool) (n : ℕ) (b : Book U) (c : Call U) where
  -- the book after the whole step
  abbrev whole : Book U
  whole = after urgent (level urgent b) b c

  abbrev listed : List (Refusal × Bool)
  listed = all_refusals urgent n b c whole

  -- no refusal with a smaller number than k applies
  abbrev pub NoneBefore : Refusal → Type 0
  NoneBefore k = (j : Refusal) → number_of j < number_of k → Applies urgent n b c j → ⊥

  pub refused : (k : Refusal) → ((step urgent n b c).1 ≡ Err k) ↔ (Applies urgent n b c k × NoneBefore k)
  unfolding step_by
  refused k = (λ e. subst (Least listed) (told (earliest listed) e) first, λ (m, q). ap (answer urgent (level urgent b) b c whole) (given (earliest listed) first m q))
    where
      first : Least listed (earliest listed)
      first = least 0 listed (rising (ring whole.waits) b.waits n c)

      told : (r : Option Refusal) → answer urgent (level urgent b) b c whole r ≡ Err k → r ≡ Some k
      told None e = let z : ◌≡◌ {A = ℕ} 0 1 = cc in absurd (omega arith)
      told (Some j) e = cc

      given : (r : Option Refusal) → Least listed r → Applies urgent n b c k → NoneBefore k → r ≡ Some k
      given None p m q = absurd (p k m)
      given (Some j) (m', p) m q =
          ap Some (same_number j k (let a : (number_of j < number_of k → ⊥) = λ l. q j l m' in let d : (number_of k < number_of j → ⊥) = λ l. p k l m in omega arith))

  module _ (f : Facts b.waits) where
    -- where no other refusal applies
    left : NoneBefore WouldRing → Leaves urgent n c whole.waits
    left q = leaves urgent n (level urgent b) b f c (others_clear (ring whole.waits) 0 (refusals b.waits n c) (rising (ring whole.waits) b.waits n c) q)

    pub ring_refused : ((step urgent n b c).1 ≡ Err WouldRing) ↔ (NoneBefore WouldRing × ((i : ℕ) × Ring (Awaits (after urgent (level urgent b) b c).waits) i))
    ring_refused = (
      λ e.
          let (m, q) = (refused WouldRing).0 e in
          (q, ring_only whole.waits (left q).0 (ring_met (ring whole.waits) 0 (refusals b.waits n c) (rising (ring whole.waits) b.waits n c) m)),
      λ (q, (i, r)). (refused WouldRing).1 (met_ring (ring whole.waits) (refusals b.waits n c) (ring_all whole.waits (left q).0 i r), q),
    )

    pub no_ring_refused : may_ring urgent c ≡ false → (step urgent n b c).1 ≡ Err WouldRing → ⊥
    no_ring_refused may e = let (q, (i, r)) = ring_refused.0 e in (left q).1 may i r
