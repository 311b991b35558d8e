use Rattle.std.proofs.Common.{eqb, refl, ap, ◌∙◌, arith}
use Rattle.tasksets.specs.Sets.{has}
use Rattle.tasksets.proofs.Bits.{none_has}
use Rattle.waits.proofs.Marking.{adding_turn}
use Rattle.waits.proofs.add_to_each.Goals as goal

pub loop-t-preserved : goal.loop-t-preserved
loop-t-preserved c =
    let next = c.in-Some.ensures.steps in
    adding_turn c.args.to c.args.i c.args.sets.now c.with.result c.loop-t.invariant (ap (λ b. eqb b 1) next.0.member) (omega (arith, next.1)) next.2 c.with.ensures refl

pub returns : goal.returns
returns c = λ t j l b. c.loop-t.invariant.done t j b (ap (λ m. has m t) c.in-None.ensures.steps.0 ∙ none_has t)
