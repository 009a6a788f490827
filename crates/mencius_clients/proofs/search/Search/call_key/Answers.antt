use Rattle.std.proofs.Common.{◌∙◌, subst}
use Rattle.std.proofs.lemmas.Bool.{MatchBool-at_false}
use Rattle.mencius_clients.specs.Configurations.{IsCrowded, IsPlaced}
use Rattle.mencius_clients.proofs.search.Search.call_key.Goals as goal

pub returns-clause-others : goal.returns-clause-others
returns-clause-others c x ne = c.in_ok-put_text.ensures.others x ne ∙ c.take_key.ensures.others x ne

pub returns-then-not-branch-clause-slots : goal.returns-then-not-branch-clause-slots
returns-then-not-branch-clause-slots c =
    let log = c.args.log.now in
    let old = c.in_ok-search.search.slots.items in
    subst (IsCrowded log) c.in_ok-search.ensures.slots
    (MatchBool-at_false (IsPlaced log old c.call.new.self.slots.items c.args.line) (IsCrowded log old) c.if-not-branch.true
    c.in_ok-call.ensures.placed)
