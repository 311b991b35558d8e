use Rattle.std.proofs.Common.{◌≡◌, ◌^◌, ◌<◌, arith, subst}
use Rattle.tasksets.proofs.Sets.{ask_in, ask_out, those_is}
use Rattle.tasksets.proofs.those.Goals as goal
use Rattle.tasksets.proofs.those.Goals.{then-test, else-test}

pub loop-k-preserved : goal.loop-k-preserved
loop-k-preserved g c =
    let ask = goal.F-post g c.args.test in
    let (below, told) = c.loop-k.invariant in
    elim c.if-test.branch [
      | then-test w ↦ rw w.set-is (ask_in ask c.loop-k.k c.loop-k.set below told w.with-set.result c.loop-k-test.true w.with-set.type_inv w.with-set.ensures w.if-test.ensures)
      | else-test w ↦ rw w.set-is (ask_out ask c.loop-k.k c.loop-k.set below told w.if-test.ensures)
    ]

pub returns-clause-known : goal.returns-clause-known
returns-clause-known g c p says =
    let all : c.loop-k.k ≡ 64 = omega arith in
    those_is c.loop-k.set p (subst (λ n. c.loop-k.set < 2 ^ n) all c.loop-k.invariant.0) (λ i l. says i _ l (c.loop-k.invariant.1 i (omega arith)))
