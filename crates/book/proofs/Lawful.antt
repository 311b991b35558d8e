-- The laws of the book, after every list of calls and for every order.
use Rattle.std.proofs.Common.{◌≡◌, ℕ, Bool, true, false, not, ◌&&◌, T, ◌↔◌, is_some, Some, None, Ok, Option, sym, refl, ap, subst, arith}
use native.Mathlib.Decide.{ℕ_discrete}
use Rattle.urgency.specs.Order.{Order, same}
use Rattle.urgency.proofs.Laws.{order_above, same_of, of_same}
use Rattle.tasksets.specs.Sets.{Has}
use Rattle.tasksets.proofs.Sets.{those_only, those_all}
use Rattle.waits.specs.declared.parts.Wait.TheVariants.{Ready}
use Rattle.waits.specs.Chain.{From}
use Rattle.waits.specs.Waits.{Waits, awaited, Awaits, does, waiting}
use Rattle.waits.specs.Facts.{Present, IsReady, Sound, Facts}
use Rattle.std.proofs.Math.Dec.{T_not, not_T}
use Rattle.waits.proofs.Tests.{both, and_left, and_right}
use Rattle.waits.proofs.Keeps.{inside}
use Rattle.book.specs.declared.call.Call.{Call}
use Rattle.book.specs.declared.refusal.Refusal.{Refusal}
use Rattle.book.specs.Book.{Book, level}
use Rattle.book.specs.Calls.{after}
use Rattle.book.specs.Runs.{Reply, earliest, woken, changed, all_refusals, answer, kept_or, step_by, step, book_after}
use Rattle.book.specs.Laws.{AtEachPoint, AtEachCall, Altered, Lawful}
use Rattle.book.proofs.Levels.{one_most, levels_local, local_level, kept}
use Rattle.book.proofs.Leveling.{levelled}
use Rattle.book.proofs.Firsts.{running_first, running_most}
use Rattle.book.proofs.Facts.{facts_step, facts_after}
use Rattle.book.proofs.Bases.{bases_after}
use Rattle.book.proofs.Refusing.{refused, ring_refused, no_ring_refused}

-- the tasks that waited before and are ready after
pub woken_are : (w x : Waits) → Sound w → (i : ℕ) → Has (woken w x) i ↔ (Present w i × (IsReady w i → ⊥) × IsReady x i)
woken_are w x f i = (
  λ h.
      let t = (those_only (λ i. waiting w i && does Ready (x.tasks i)) i h).0 in
      let s = and_left (waiting w i) (does Ready (x.tasks i)) t in
      (and_left (is_some (w.tasks i)) _ s, T_not (does Ready (w.tasks i)) (and_right (is_some (w.tasks i)) _ s), and_right (waiting w i) _ t),
  λ (p, q, r).
      those_all (λ i. waiting w i && does Ready (x.tasks i)) i (f.tasks< i p)
      (both (waiting w i) _ (both (is_some (w.tasks i)) _ p (not_T (does Ready (w.tasks i)) q)) r),
)

told : {p q : Bool × ℕ × ℕ} → ◌≡◌ {A = Reply} (Ok p) (Ok q) → q ≡ p
told e = cc

module _ {U : Type 0} (urgent : U → U → Bool) (order : Order (λ u v. T (urgent u v))) where
  -- the tasks present before and after whose level differs from what lev told
  pub changed_are : (lev : ℕ → Option U) (w : Waits) (x : Book U) → Sound w → (i : ℕ)
      → Has (changed urgent lev w x) i ↔ (Present w i × Present x.waits i × (lev i ≡ level urgent x i → ⊥))
  changed_are lev w x f i = (
    λ h.
        let t = (those_only test i h).0 in
        let s = and_left (is_some (w.tasks i) && is_some (x.waits.tasks i)) (differs i) t in (
          and_left (is_some (w.tasks i)) _ s,
          and_right (is_some (w.tasks i)) _ s,
          λ e. T_not (same urgent (lev i) (level urgent x i)) (and_right (is_some (w.tasks i) && is_some (x.waits.tasks i)) _ t) (of_same urgent order (lev i) (level urgent x i) e),
        ),
    λ (p, q, r).
        those_all test i (f.tasks< i p) (both (is_some (w.tasks i) && is_some (x.waits.tasks i)) _ (both (is_some (w.tasks i)) _ p q)
        (not_T (same urgent (lev i) (level urgent x i)) (λ t. r (same_of urgent order (lev i) (level urgent x i) t)))),
  )
    where
      differs : ℕ → Bool
      differs i = not (same urgent (lev i) (level urgent x i))

      test : ℕ → Bool
      test i = is_some (w.tasks i) && is_some (x.waits.tasks i) && differs i

  at_each_point : (b : Book U) → Facts b.waits → ((t : ℕ) → Present b.waits t ↔ T (is_some (b.base t))) → AtEachPoint urgent b
  at_each_point b f bases = record {
    facts = f;
    bases = bases;
    levels = levelled urgent order b f.sound;
    local = levels_local (order_above urgent order) (Present b.waits) (inside b.waits f.sound) (level urgent b) (levelled urgent order b f.sound);
    only = λ lev rule t p.
        one_most (order_above urgent order)
        (local_level (order_above urgent order) (Present b.waits) (inside b.waits f.sound) lev rule f.sound.tasks< f.free t p)
        (levelled urgent order b f.sound t p);
    running_first = running_first urgent order b f.sound;
    running_most = running_most urgent order b f.sound;
  }

  -- a task that is not altered has its base, and awaits whom it awaited
  unaltered : (b x : Book U) (i : ℕ) → (Altered urgent b x i → ⊥) → (b.base i ≡ x.base i) × (awaited b.waits i ≡ awaited x.waits i)
  unaltered b x i ne = go (same urgent (b.base i) (x.base i)) refl (ℕ_discrete (awaited b.waits i) (awaited x.waits i))
    where
      go : (y : Bool) → same urgent (b.base i) (x.base i) ≡ y → Dec (awaited b.waits i ≡ awaited x.waits i)
          → (b.base i ≡ x.base i) × (awaited b.waits i ≡ awaited x.waits i)
      go true e (yes q) = (same_of urgent order (b.base i) (x.base i) (subst T (sym e) tt), q)
      go true e (no q) = absurd (ne (λ (_, p). q p))
      go false e _ = absurd (ne (λ (p, _). subst T e (of_same urgent order (b.base i) (x.base i) p)))

  pub level_kept : (b x : Book U) → Sound b.waits → Sound x.waits → (t : ℕ) → Present b.waits t → Present x.waits t
      → (From (Awaits b.waits) (Altered urgent b x) t → ⊥) → (From (Awaits x.waits) (Altered urgent b x) t → ⊥) → level urgent b t ≡ level urgent x t
  level_kept b x f g t p q before since =
      one_most (order_above urgent order)
      (kept (order_above urgent order) (Altered urgent b x) (λ i ne j h. subst (λ m. Has m j) (unaltered b x i ne).1 h) (λ i ne j h. subst (λ m. Has m j) (sym (unaltered b x i ne).1) h)
      (λ i ne. (unaltered b x i ne).0) (λ i h d. before (i, h, d)) (λ i h d. since (i, h, d)) (levelled urgent order b f t p)) (levelled urgent order x g t q)

  -- an accepted call leaves the whole step, and tells of it
  accepted : (n : ℕ) (b : Book U) (c : Call U) (w : Bool) (a d : ℕ) → (step urgent n b c).1 ≡ Ok (w, a, d)
      → (a ≡ woken b.waits (step urgent n b c).0.waits) × (d ≡ changed urgent (level urgent b) b.waits (step urgent n b c).0)
  unfolding step_by
  accepted n b c w a d = go (earliest (all_refusals urgent n b c (after urgent (level urgent b) b c)))
    where
      go : (r : Option Refusal) → answer urgent (level urgent b) b c (after urgent (level urgent b) b c) r ≡ Ok (w, a, d)
          → (a ≡ woken b.waits (kept_or urgent b (after urgent (level urgent b) b c) r).waits)
          × (d ≡ changed urgent (level urgent b) b.waits (kept_or urgent b (after urgent (level urgent b) b c) r))
      go (Some k) e = let z : ◌≡◌ {A = ℕ} 0 1 = cc in absurd (omega arith)
      go None e = let p = told e in (ap (λ p. p.1) p, ap (λ p. p.2) p)

  at_each_call : (n : ℕ) (b : Book U) → Facts b.waits → (c : Call U) → AtEachCall urgent n b c (step urgent n b c).0 (step urgent n b c).1
  at_each_call n b f c = record {
    refused = refused urgent n b c;
    ring = ring_refused urgent n b c f;
    no_ring = no_ring_refused urgent n b c f;
    locality = level_kept b (step urgent n b c).0 f.sound (facts_step urgent n b c f).sound;
    woken = λ w a d e i.
        subst (λ m. Has m i ↔ (Present b.waits i × (IsReady b.waits i → ⊥) × IsReady (step urgent n b c).0.waits i)) (sym (accepted n b c w a d e).0)
        (woken_are b.waits (step urgent n b c).0.waits f.sound i);
    changed = λ w a d e i.
        subst (λ m. Has m i ↔ (Present b.waits i × Present (step urgent n b c).0.waits i × (level urgent b i ≡ level urgent (step urgent n b c).0 i → ⊥))) (sym (accepted n b c w a d e).1)
        (changed_are (level urgent b) b.waits (step urgent n b c).0 f.sound i);
  }

pub lawful : {U : Type 0} (urgent : U → U → Bool) → Order (λ u v. T (urgent u v)) → Lawful urgent
lawful urgent order n cs =
    (at_each_point urgent order (book_after urgent n cs) (facts_after urgent n cs) (bases_after urgent n cs), at_each_call urgent order n (book_after urgent n cs) (facts_after urgent n cs))
