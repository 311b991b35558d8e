-- The bit that the shift brings down is the one that the test asks for; past 63 a number of 64 bits has none.
use Rattle.std.proofs.Common.{◌^◌, ◌<◌, ◌≤◌, eqb, sym, ap, ◌∙◌, arith}
use lib.Bits.{and_mask}
use Rattle.std.proofs.lemmas.Bool.{le-ltb}
use Rattle.tasksets.proofs.Bits.{bit_shifted, past_has}
use Rattle.tasksets.proofs.contains.Goals as goal

pub returns-then-k-lt64 : goal.returns-then-k-lt64
returns-then-k-lt64 c = ap (λ n. eqb n 1) (and_mask _ 1 ∙ bit_shifted c.args.set c.args.k)

pub returns-else-k-lt64 : goal.returns-else-k-lt64
returns-else-k-lt64 c =
    let small : c.args.set < 2 ^ 64 = omega arith in
    let past : 64 ≤ c.args.k = omega arith in
    le-ltb c.args.k 64 past ∙ sym (past_has 64 c.args.set c.args.k small past)
