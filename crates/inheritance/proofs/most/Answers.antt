use Rattle.std.proofs.Common.{rules}
use Rattle.urgency.specs.Order.{upper}
use Rattle.tasksets.proofs.Rising.{fold_is_loop}
use Rattle.book.specs.Book.{most_below}
use Rattle.inheritance.specs.Rows.{held}
use Rattle.inheritance.proofs.Mosts.{most_turn}
use Rattle.inheritance.proofs.most.Goals as goal

pub returns : goal.returns
unfolding most_below
returns g c =
    let urgent = g.U.Urgency.urgent in
    let base = (held c.args.table.now c.args.rows.now).base in
    fold_is_loop _ _ (λ top i. upper urgent top (base i)) (λ n. most_below urgent base n c.args.set) c.args.set (λ a n b f' k. search rules) (most_turn urgent base c.args.set) c.members.result c.members.ensures c.fold.result c.fold.ensures.ran
