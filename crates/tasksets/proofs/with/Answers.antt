-- A union with the one bit of k.
use Rattle.std.proofs.Common.{◌||◌, ap, ◌∙◌, arith}
use lib.Bits.{bit_or}
use Rattle.std.proofs.lemmas.Nat.{one_shl}
use Rattle.tasksets.specs.Sets.{has}
use Rattle.tasksets.proofs.Bits.{or_has, pow_has}
use Rattle.tasksets.proofs.with.Goals as goal

pub returns-then-k-lt64 : goal.returns-then-k-lt64
returns-then-k-lt64 c j l =
    let set = c.args.set in
    let k = c.args.k in
    ap (λ x. has (bit_or set x) j) (one_shl k 64 (omega arith)) ∙ or_has set _ j ∙ ap (λ x. has set j || x) (pow_has k j)
