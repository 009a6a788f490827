use Rattle.std.proofs.Common.{◌≡◌, ◌+◌, Some, arith, slice_get, sym, subst, ap, ◌∙◌}
use Rattle.mencius_base.specs.declared.command.CommandId.{CommandId}
use Rattle.mencius_judge.specs.Added.{IsLastOf}
use Rattle.mencius_judge.specs.Quotes.{IsFirstLine, Submits}
use Rattle.mencius_judge.proofs.keys.TextMaps.{on_ok}
use Rattle.mencius_judge.proofs.quoting.Steps.{adds_same}
use Rattle.mencius_judge.proofs.quoting.Tables.{quoted_none}
use Rattle.mencius_judge.proofs.sources.Places.{item_within, read_item, read_past, same_some}
use Rattle.mencius_judge.proofs.judge.Judge.quote_last.Goals as goal

pub returns-in-Some-get : goal.returns-in-Some-get
returns-in-Some-get c =
    let order = c.args.self.now.histories.order.items in
    let count = c.args.count in
    let place = c.in-Some.place in
    let id = c.in-Some-get.id.now in
    let old = c.args.quotes.now.items in
    let new = c.quote_submission.new.quotes.items in
    let read = c.in-Some-get.ensures.lookup in
    let at : slice_get order place ≡ Some id =
    read_item c.deref.result.now order place id read.3.0 read.1 c.deref.ensures.value in
    let sum : place + 1 ≡ count = (let less = c.in-Some.ensures in omega (arith, less.0, less.1)) in
    on_ok c.quote_submission.result (λ step n line h.
    adds_same _ (IsFirstLine (Submits id) n) (IsLastOf order count n) old new
    (λ other is. (place, sum, id, at, is))
    (λ other is.
    let same : is.0 ≡ place = (let e = is.1 in omega (arith, e, sum)) in
    let one : is.2 ≡ id = same_some (sym is.3 ∙ ap (slice_get order) same ∙ at) in
    subst (λ (x : CommandId). IsFirstLine (Submits x) n other) one is.4)
    (step n line h))
    c.quote_submission.ensures

pub returns-in-None : goal.returns-in-None
returns-in-None c =
    let j = c.args.self.now in
    let order = j.histories.order.items in
    let count = c.args.count in
    let quotes = c.args.quotes.now.items in
    let past = read_past c.deref.result.now order c.in-Some.place c.in-None.ensures.lookup.3 c.deref.ensures.value in
    let less = c.in-Some.ensures in
    quoted_none j (IsLastOf order count) quotes quotes
    (λ n h other is.
    let inside = item_within order is.0 is.2 is.3 in
    let e = is.1 in
    omega (arith, inside, past, e, less.0, less.1))
