use Rattle.std.proofs.Common.{◌≡◌, ℕ, ◌+◌, ◌<◌, List, Iter, [], ◌∷◌, ◌++◌, unwrap_or, get_or, length, zip, sym, refl, ap, ◌∙◌, subst, arith, rules}
use Rattle.std.proofs.iter.Yields.{nat_range_steps}
use Rattle.std.specs.List.{range_with_len}
use Rattle.std.specs.declared.iter.Zip.{Zip}
use Rattle.std.specs.declared.ops.Range.{Range}
use Rattle.std.proofs.lemmas.Iterator.{YieldsList, YieldsList-from_range, YieldsList-from_slice, YieldsList-from_zip, zips}
use Rattle.std.proofs.lemmas.Fn.{fronts}
use Rattle.std.specs.Slice.Iter.{iter_rest}
use Rattle.std.proofs.lemmas.Iterator.Consumers.{YieldsList-turn, YieldsList-end}
use Rattle.std.proofs.lemmas.List.{length_push}
use Rattle.std.proofs.lemmas.List.FromFn.{get_or-range_with_len, length-range_with_len}
use Rattle.std.proofs.lemmas.Slice.Zip.{get_or-zip, length-zip}
use Rattle.std.proofs.lemmas.Option.{slice_get-get_or}
use Rattle.tasksets.specs.Sets.{has, those_below}
use Rattle.tasksets.proofs.Sets.{those_in, those_out, with_or}
use Rattle.waits.specs.Reach.{leading}
use Rattle.waits.specs.Table.{waits_of}
use Rattle.inheritance.proofs.Settling.{Settling, noted, settling_start, settling_lt, turn_noted, settling_turn, settled}
use Rattle.inheritance.proofs.settle.Goals as goal
use Rattle.inheritance.proofs.settle.Goals.{then-differs, else-differs}

-- the numbers below 64, each with the set of that place
numbered : (s z : Zip (Range ℕ) (Iter ℕ)) (sets : List ℕ) → s ≡ z → z.a ≡ record { start = 0; end = 64 } → iter_rest z.b ≡ sets
    → YieldsList (zips nat_range_steps fronts) (λ p. (p.0, p.1.now)) s (zip (range_with_len 0 64) sets)
numbered s z sets same first second =
    YieldsList-from_zip (YieldsList-from_range 0 64 64 (ap (λ z. z.a) same ∙ first) refl) (YieldsList-from_slice sets (ap (λ z. iter_rest z.b) same ∙ second))

numbered_at : (sets : List ℕ) (n t m : ℕ) → length sets ≡ 64 → n < length (zip (range_with_len 0 64) sets) → (t, m) ≡ get_or (zip (range_with_len 0 64) sets) n (t, m) → (n < 64) × (t ≡ n) × (m ≡ get_or sets n 0)
numbered_at sets n t m long low is =
    let n< : n < 64 = omega (arith, length-zip (range_with_len 0 64) sets, length-range_with_len 0 64) in
    let found = is ∙ get_or-zip (range_with_len 0 64) sets n (t, m) (omega (arith, length-range_with_len 0 64)) (omega arith) in
    let number = ap (λ p. p.0) found ∙ get_or-range_with_len 0 64 n t n< in
    let place : n < length sets = omega arith in
    (n<, omega (arith, number), ap (λ p. p.1) found ∙ ap (λ o. unwrap_or o 0) (sym (slice_get-get_or sets n m place) ∙ slice_get-get_or sets n 0 place))

pub loop-t-init : goal.loop-t-init
loop-t-init g c = settling_start g.U.Urgency.urgent c.args.table.now c.args.standing c.args.rows.now

pub loop-t-preserved : goal.loop-t-preserved
loop-t-preserved g c =
    let urgent = g.U.Urgency.urgent in
    let sets = c.leading-sets.result in
    let n = length c.loop-t.yielded in
    let long : length sets ≡ 64 = search rules in
    let source = numbered c.into_iter-t-iterator.result c.zip-t-items.result sets c.into_iter-t-iterator.ensures.into_iter_gives c.zip-t-items.ensures.first c.zip-t-items.ensures.second.0 in
    let told = YieldsList-turn source c.loop-t.yielded c.loop-t.t-iterator c.loop-t.yielded_by c.next.result c.next.new.self (c.in-Some.t, c.in-Some.leading) c.in-Some.is c.next.ensures.steps in
    let (low, number, set) = numbered_at sets n c.in-Some.t c.in-Some.leading.now long told.0 told.1 in
    let t = c.in-Some.t in
    let t< : t < 64 = omega (arith, low, number) in
    let before = subst (λ n. Settling urgent c.args.table.now c.args.standing c.args.rows.now n c.loop-t.rows c.loop-t.changed) (sym number) c.loop-t.invariant in
    let leads : (j : ℕ) → j < 64 → has c.in-Some.leading.now j ≡ has (leading (waits_of c.args.table.now) t) j = λ j b. ap (λ m. has m j) (set ∙ ap (λ n. get_or sets n 0) (sym number)) ∙ c.leading-sets.ensures t j t< b in
    let p = noted urgent c.args.table.now c.args.standing c.args.rows.now in
    let told =
    turn_noted urgent c.args.table.now c.args.standing c.args.rows.now t c.loop-t.rows c.put_level.new.rows c.loop-t.changed c.if-differs.changed c.in-Some.leading.now c.most-level.result before
    t< leads c.most-level.ensures c.put_level.ensures.here c.put_level.ensures.others in
    let found : c.if-differs.changed ≡ those_below (t + 1) p = elim c.if-differs.branch [
      | then-differs w ↦
          w.changed-is
          ∙ with_or c.loop-t.changed t w.with-changed.result (settling_lt urgent c.args.table.now c.args.standing c.args.rows.now t c.loop-t.changed t< before.found) w.with-changed.type_inv w.with-changed.ensures t<
          ∙ those_in p t before.found (sym told ∙ sym w.if-differs.ensures)
      | else-differs w ↦ w.changed-is ∙ those_out p t before.found (sym told ∙ sym w.if-differs.ensures)
    ] in
    let more : t + 1 ≡ length (c.loop-t.yielded ++ ((t, c.in-Some.leading) ∷ [])) = ap (λ n. n + 1) number ∙ sym (length_push c.loop-t.yielded (t, c.in-Some.leading)) in
    subst (λ n. Settling urgent c.args.table.now c.args.standing c.args.rows.now n c.put_level.new.rows c.if-differs.changed) more
    (settling_turn urgent c.args.table.now c.args.standing c.args.rows.now t c.loop-t.rows c.put_level.new.rows c.loop-t.changed c.if-differs.changed c.in-Some.leading.now c.most-level.result before
    t< leads c.most-level.ensures c.put_level.ensures.here c.put_level.ensures.others found)

pub returns : goal.returns
returns g c =
    let sets = c.leading-sets.result in
    let long : length sets ≡ 64 = search rules in
    let told = YieldsList-end (numbered c.into_iter-t-iterator.result c.zip-t-items.result sets c.into_iter-t-iterator.ensures.into_iter_gives c.zip-t-items.ensures.first c.zip-t-items.ensures.second.0) c.loop-t.yielded c.loop-t.t-iterator c.loop-t.yielded_by c.next.result c.next.new.self c.in-None.is c.next.ensures.steps in
    let end : length c.loop-t.yielded ≡ 64 = omega (arith, told.1, length-zip (range_with_len 0 64) sets, length-range_with_len 0 64, long) in
    settled g.U.Urgency.urgent c.args.table.now c.args.standing c.args.rows.now c.loop-t.rows c.loop-t.changed
    (subst (λ n. Settling g.U.Urgency.urgent c.args.table.now c.args.standing c.args.rows.now n c.loop-t.rows c.loop-t.changed) end c.loop-t.invariant) c.loop-t.auto.rows
