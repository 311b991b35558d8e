use Rattle.std.proofs.Common.{◌≡◌, T, is_none, Some, None, Option, sym, refl, ap, ◌∙◌, subst, arith, unwrap_or}
use Rattle.std.specs.Option.{option_and, option_map}
use Rattle.std.proofs.lemmas.Option.{slice_get-get_or, slice_get_past}
use Rattle.waits.specs.declared.parts.Wait.{Wait}
use Rattle.waits.specs.Table.{waits_of}
use Rattle.book.specs.declared.row.Row.{Row}
use Rattle.inheritance.specs.Rows.{releveled}
use Rattle.inheritance.proofs.Rows.{row_set_same, row_set_other}
use Rattle.inheritance.proofs.put_level.Goals as goal

pub returns-then-at-rows : goal.returns-then-at-rows
returns-then-at-rows g c =
    let none = slice_get_past c.args.rows.now c.args.t c.if-at-rows.true in
    record { here = none ∙ sym (ap (option_map (releveled ((waits_of c.args.table.now).tasks c.args.t) c.args.level)) none); others = λ j ne. refl }

-- a present task's row gets the level
leveled : {U : Type 0} (o : Option Wait) (u : Option U) (r : Row U) (v : U) → option_and o u ≡ Some v → releveled o u r ≡ record { base = r.base; level = v }
leveled None u r v e = absurd (subst (λ o. T (is_none o)) e tt)
leveled (Some w) None r v e = absurd (subst (λ o. T (is_none o)) e tt)
leveled (Some w) (Some u) r v e = ap (λ o. record { base = r.base; level = unwrap_or o u }) e

pub returns-clause-here : goal.returns-clause-here
returns-clause-here g c =
    let xs = c.args.rows.now in
    let task = (waits_of c.args.table.now).tasks c.args.t in
    let told : option_and task c.args.level ≡ Some c.in-Some.level = cc in
    row_set_same xs c.args.t _ (omega arith)
    ∙ sym (ap (option_map (releveled task c.args.level)) (slice_get-get_or xs c.args.t c.index-rows-at.result (omega arith)) ∙ ap Some (leveled task c.args.level _ c.in-Some.level told))

pub returns-clause-others : goal.returns-clause-others
returns-clause-others g c = λ j ne. row_set_other c.args.rows.now c.args.t j _ ne
