use Rattle.std.proofs.Common.{◌≡◌, ℕ, ◌-◌, ◌^◌, ◌<◌, sym, refl, ◌∙◌, subst, arith}
use native.Mathlib.Decide.{dec_lt}
use lib.Bits.{bit_and, bit_or, or_zero_l}
use Rattle.tasksets.specs.Sets.{Has}
use Rattle.tasksets.proofs.Sets.{with_or, with_past}
use Rattle.waits.specs.Waits.{Awaits}
use Rattle.waits.specs.Table.{waits_of}
use Rattle.waits.proofs.Scan.{Scan, scan_start, scan_none, scan_end, scan_turn, scan_grows}
use Rattle.waits.proofs.Tables.{waiter_below}
use Rattle.waits.proofs.table.WaitTable.reached.Goals as goal

pub loop-j-init : goal.loop-j-init
loop-j-init c = go (dec_lt c.args.i 64)
  where
    go : Dec (c.args.i < 64) → Scan (Awaits (waits_of c.args.self.now)) c.args.i 0 c.with-todo.result
    go (yes l) = subst (Scan (Awaits (waits_of c.args.self.now)) c.args.i 0) (sym (with_or 0 c.args.i c.with-todo.result (omega arith) c.with-todo.type_inv c.with-todo.ensures l ∙ or_zero_l (2 ^ c.args.i))) (scan_start l)
    go (no l) = subst (Scan (Awaits (waits_of c.args.self.now)) c.args.i 0) (sym (with_past 0 c.args.i c.with-todo.result (omega arith) c.with-todo.type_inv c.with-todo.ensures (omega arith))) (scan_none (omega arith))

seen_is : (c : goal.After-awaited) → c.with-seen.result ≡ bit_or c.loop-j.seen (2 ^ c.in-Some.j)
seen_is c = with_or c.loop-j.seen c.in-Some.j c.with-seen.result c.loop-j.invariant.seen< c.with-seen.type_inv c.with-seen.ensures c.in-Some.ensures.1

pub loop-j-smaller : goal.loop-j-smaller
loop-j-smaller c =
    let more : c.loop-j.seen < bit_or c.loop-j.seen (2 ^ c.in-Some.j) =
    scan_grows c.in-Some.j c.awaited.result c.loop-j.invariant c.in-Some.ensures.0.member c.awaited.type_inv (λ j h. subst (λ m. Has m j) c.awaited.ensures h) (λ j h. subst (λ m. Has m j) (sym c.awaited.ensures) h) in
    omega (arith, more, seen_is c, c.with-seen.type_inv)

pub loop-j-preserved : goal.loop-j-preserved
loop-j-preserved c =
    let W = Awaits (waits_of c.args.self.now) in
    subst (λ (x : ℕ). Scan W c.args.i x (bit_and (bit_or c.loop-j.todo c.awaited.result) (2 ^ 64 - 1 - x))) (sym (seen_is c))
    (scan_turn c.in-Some.j c.awaited.result c.loop-j.invariant c.in-Some.ensures.0.member c.awaited.type_inv (λ j h. subst (λ m. Has m j) c.awaited.ensures h) (λ j h. subst (λ m. Has m j) (sym c.awaited.ensures) h) refl)

pub returns : goal.returns
returns c = scan_end (waiter_below c.args.self.now) c.loop-j.invariant c.in_default.ensures
