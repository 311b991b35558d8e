use Rattle.std.proofs.Common.{refl}
use Rattle.std.proofs.lemmas.Result.{err_from_is_err_and}
use Rattle.kernel.specs.Held.{state_of}
use Rattle.kernel.proofs.Making.{made_few, made_refused, within, made, makes_call}
use Rattle.kernel.proofs.Kernel.make.Goals as goal

pub returns-then-self-lt64 : goal.returns-then-self-lt64
returns-then-self-lt64 g c = makes_call (made_few _ _ _ c.if-self-lt64.true) refl

pub returns-in_err-next : goal.returns-in_err-next
returns-in_err-next g c =
    let p = err_from_is_err_and c.from_residual.result c.from_residual.ensures.1 in
    rw (p.1, p.2) (makes_call (made_refused _ _ _ _ c.if-self-lt64.false c.in_err-next.ensures) refl)

pub note_base-requires : goal.note_base-requires
note_base-requires g c = within g.U.Urgency.urgent (state_of c.args.self.now) c.args.call c.if-self-lt64.false c.in_ok-next.ensures.0

pub returns : goal.returns
returns g c =
    makes_call (made _ _ _ _ c.if-self-lt64.false c.args.call _ _ _ c.in_ok-next.ensures c.left_waiting-waiting.ensures c.note_base.ensures c.accept.ensures) refl
