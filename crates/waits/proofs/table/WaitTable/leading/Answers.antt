use Rattle.std.proofs.Common.{ℕ, ◌&&◌, ◌||◌, eqb, ltb, ap, ◌∙◌}
use Rattle.tasksets.specs.Sets.{has}
use Rattle.tasksets.proofs.Bits.{bit_none}
use Rattle.waits.specs.Reach.{leading}
use Rattle.waits.specs.Table.{waits_of}
use Rattle.waits.proofs.Marking.{below_none, below_more, below_all, reached_leads}
use Rattle.waits.proofs.Tables.{default_at}
use Rattle.waits.proofs.table.WaitTable.leading.Goals as goal

pub loop-i-init : goal.loop-i-init
loop-i-init c = λ t j l b. ap (λ m. has m j) (default_at {A = ℕ} 0 64 t) ∙ ap (λ b. eqb b 1) (bit_none j) ∙ below_none (has (leading (waits_of c.args.self.now) t) j) j

pub loop-i-preserved : goal.loop-i-preserved
loop-i-preserved c = λ t j l b.
    let p = has (leading (waits_of c.args.self.now) t) in
    c.add_to_each.ensures t j l b ∙ ap (λ x. x || (has c.reached-along.result t && eqb j c.loop-i.i)) (c.loop-i.invariant t j l b)
    ∙ ap (λ x. (p j && ltb j c.loop-i.i) || (x && eqb j c.loop-i.i)) (reached_leads c.args.self.now c.loop-i.i t c.reached-along.result l c.reached-along.ensures)
    ∙ below_more p j c.loop-i.i

pub returns : goal.returns
returns c = λ t j l b. c.loop-i.invariant t j l b ∙ below_all (has (leading (waits_of c.args.self.now) t) j) j c.loop-i.i b c.loop-i-test.false
