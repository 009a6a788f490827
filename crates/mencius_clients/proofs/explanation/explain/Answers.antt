use Rattle.std.proofs.Common.{reverse, subst}
use Rattle.std.specs.Prelude.{IfSome}
use Rattle.mencius_clients.specs.Explained.{IsExplanation}
use Rattle.mencius_clients.proofs.OrdersFound.{all_found}
use Rattle.mencius_clients.proofs.explanation.explain.Goals as goal

pub returns-in-Some : goal.returns-in-Some
returns-in-Some c =
    let log = c.args.log.now in
    subst (λ found. IfSome found (IsExplanation log c.args.limit)) c.in-Some.is
    (c.in_ok-explanation.ensures.explained (c.new-search.ensures.searched (reverse log) log)
    c.requires (c.new-search.ensures.found log))

pub returns : goal.returns
returns c =
    let log = c.args.log.now in
    let first = c.new-search.ensures.searched (reverse log) log in
    let s = c.in_ok-explanation.ensures.searched c.in_default.is first in
    c.in_ok-order.ensures (all_found log c.search_all.new.search s.submitted
    (c.in_ok-explanation.ensures.orders c.in_default.is first c.requires (c.new-search.ensures.found log)))
