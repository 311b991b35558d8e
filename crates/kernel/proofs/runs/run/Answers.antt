use Rattle.std.proofs.Common.{◌≡◌, ◌+◌, [], ◌∷◌, ◌++◌, get_or, take, set, sym, refl, ap, ◌∙◌, subst, add-one, arith, take-suc-set}
use lib.Seq.{map-set_same}
use Rattle.urgency.proofs.Laws.{from_laws}
use Rattle.book.specs.declared.call.LogEntry.{LogEntry}
use Rattle.book.specs.Kernel.{Run}
use Rattle.book.proofs.Lawful.{lawful}
use Rattle.book.proofs.Agreeing.{run_begin, run_call}
use Rattle.kernel.specs.Held.{state_of}
use Rattle.kernel.proofs.runs.run.Goals as goal

pub loop-entry-init : goal.loop-entry-init
loop-entry-init g c = record {
  run = subst (Run g.U.Urgency.urgent c.args.rows.now []) (sym c.open-kernel.ensures.opened) (run_begin g.U.Urgency.urgent c.args.rows.now);
  calls = refl;
  named = refl;
}

pub loop-entry-preserved : goal.loop-entry-preserved
loop-entry-preserved g c =
    let urgent = g.U.Urgency.urgent in
    let log = c.loop-entry.log in
    let i = c.loop-entry.entry-index in
    let e : LogEntry g.row.U.Denot = record (get_or log i c.entry-item.result) { reply = c.make-entry.result; running = c.running-entry.result } in
    let more : take (i + 1) (set log i e) ≡ take i log ++ (e ∷ []) = ap (λ n. take n (set log i e)) (add-one i) ∙ take-suc-set log i e (omega arith) in
    record {
      run = subst (λ es. Run urgent c.args.rows.now es (state_of c.make-entry.new.self)) (sym more) (run_call urgent c.loop-entry.invariant.run e c.make-entry.ensures.made c.running-entry.ensures.held);
      calls = map-set_same (λ e. e.call) log i e c.entry-item.result refl ∙ c.loop-entry.invariant.calls;
      named = c.make-entry.ensures.named ∙ c.loop-entry.invariant.named;
    }

pub returns-clause-lawful : goal.returns-clause-lawful
returns-clause-lawful g c = let met = g.met.U.Urgency in lawful g.U.Urgency.urgent (from_laws g.U.Urgency.urgent met.total met.transitive met.antisymmetric)
