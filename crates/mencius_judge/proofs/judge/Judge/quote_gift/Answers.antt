use Rattle.std.proofs.Common.{◌≡◌, Some, arith, slice_get}
use Rattle.mencius_judge.specs.Quotes.{IsGift}
use Rattle.mencius_judge.proofs.keys.TextMaps.{on_ok}
use Rattle.mencius_judge.proofs.quoting.Tables.{at_most, no_gift, no_row, quoted_none, row_gifts, row_size}
use Rattle.mencius_judge.proofs.sources.Places.{read_item, read_past}
use Rattle.mencius_judge.proofs.judge.Judge.quote_gift.Goals as goal

pub returns-in_default : goal.returns-in_default
returns-in_default c =
    let j = c.args.self.now in
    let p = c.args.server in
    let place = c.args.place in
    let quotes = c.args.quotes.now.items in
    quoted_none j (λ n. IsGift n p place) quotes quotes
    (λ n h. let none = no_row j n h p c.in_default.ensures in
    no_gift n p place h.log.were_restored (omega (arith, none)))

pub returns-in-Some-get : goal.returns-in-Some-get
returns-in-Some-get c =
    let j = c.args.self.now in
    let order = j.histories.order.items in
    let p = c.args.server in
    let place = c.args.place in
    let row = c.in-Some.row.now in
    let id = c.in-Some-get.id.now in
    let read = c.in-Some-get.ensures.lookup in
    let at : slice_get order place ≡ Some id =
    read_item c.deref.result.now order place id read.3.0 read.1 c.deref.ensures.value in
    on_ok c.quote_gift_of.result (λ step n line h.
    let size = row_size j n h p row c.in-Some.ensures in
    step n line order h.log.were_restored (row_gifts j n h p row c.in-Some.ensures) (omega (arith, size)) at)
    c.quote_gift_of.ensures

pub returns-in-None : goal.returns-in-None
returns-in-None c =
    let j = c.args.self.now in
    let order = j.histories.order.items in
    let p = c.args.server in
    let place = c.args.place in
    let quotes = c.args.quotes.now.items in
    let past = read_past c.deref.result.now order place c.in-None.ensures.lookup.3 c.deref.ensures.value in
    quoted_none j (λ n. IsGift n p place) quotes quotes
    (λ n h. let few = at_most j n h p in no_gift n p place h.log.were_restored (omega (arith, few, past)))
