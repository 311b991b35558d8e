use Rattle.std.proofs.Common.{◌≡◌, ℕ, ◌<◌, Some, None, Option, sym, ap, ◌∙◌}
use Rattle.std.specs.Option.{option_flatten}
use Rattle.std.proofs.lemmas.Nat.{one_shl}
use Rattle.waits.specs.declared.parts.Wait.TheVariants.{AtSemaphore}
use Rattle.waits.specs.Table.{waits_of}
use Rattle.waits.proofs.Tables.{facts_of, holder_below, awaits_holder}
use Rattle.waits.proofs.table.WaitTable.awaited.Goals as goal

-- what stands inside, where two options are one
flat : (o : Option (Option ℕ)) (h : ℕ) → option_flatten o ≡ Some h → o ≡ Some (Some h)
flat (Some o) h e = ap Some e
flat None h e = cc

held : (c : goal.In-Some) → (waits_of c.args.self.now).semaphores c.in-Some-AtSemaphore.s ≡ Some (Some c.in-Some.h)
held c = flat _ _ cc

low : (c : goal.In-Some) → c.in-Some.h < 64
low c = holder_below (waits_of c.args.self.now) (facts_of c.args.self.now).sound c.in-Some-AtSemaphore.s c.in-Some.h (held c)

pub overflow_shl-result : goal.overflow_shl-result
overflow_shl-result c = low c

pub returns-in-Some : goal.returns-in-Some
returns-in-Some c =
    let at : (waits_of c.args.self.now).tasks c.args.i ≡ Some (AtSemaphore c.in-Some-AtSemaphore.s) = cc in
    one_shl c.in-Some.h 64 (low c) ∙ sym (awaits_holder (waits_of c.args.self.now) c.args.i c.in-Some-AtSemaphore.s c.in-Some.h at (held c))
