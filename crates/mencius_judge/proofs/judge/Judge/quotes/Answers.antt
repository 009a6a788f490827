use Rattle.std.proofs.Common.{◌≡◌, List, [], rules, subst, ap}
use Rattle.mencius_log.specs.declared.observation.Observation.{Observation}
use Rattle.mencius_judge.specs.declared.quote.Quote.{Quote}
use Rattle.mencius_judge.specs.Added.{Inserts}
use Rattle.mencius_judge.proofs.quoting.Whole.{are_quotes, own_there}
use Rattle.mencius_judge.proofs.judge.Judge.quotes.Goals as goal

pub returns : goal.returns
returns c n h numbered breaks =
    let number = c.args.line in
    let line : Quote = record { number = number; observation = c.args.observation.now } in
    let own : Quote = record { number = number; observation = c.in_ok-clone.field-0 } in
    let x = c.args.violation.now in
    let first = c.insert_quote.new.quotes.items in
    let same : own ≡ line = ap (λ (o : Observation). record { number = number; observation = o }) (search rules) in
    let inserts : Inserts line [] first =
    subst (λ (q : Quote). Inserts q [] first) same
    (subst (λ (xs : List Quote). Inserts own xs first) c.new-quotes.ensures.items c.in_ok-insert_quote.ensures) in
    are_quotes line n x first inserts numbered c.quote_reasons.new.quotes.items
    (c.in_ok-quote_reasons.ensures n line h breaks (own_there line n x first inserts numbered))
