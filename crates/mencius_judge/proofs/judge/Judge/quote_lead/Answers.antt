use Rattle.std.proofs.Common.{◌≡◌, Some, arith, slice_get, subst}
use Rattle.mencius_judge.specs.declared.quote.Quote.{Quote}
use Rattle.mencius_judge.specs.Added.{Inserts}
use Rattle.mencius_judge.specs.Quotes.{IsFirstGift}
use Rattle.mencius_judge.proofs.keys.TextMaps.{on_ok}
use Rattle.mencius_judge.proofs.quoting.Tables.{no_lead, only_lead, quoted, quoted_none}
use Rattle.mencius_judge.proofs.sources.Places.{read_item, read_past}
use Rattle.mencius_judge.proofs.judge.Judge.quote_lead.Goals as goal

pub returns-in_default : goal.returns-in_default
returns-in_default c =
    let j = c.args.self.now in
    let quotes = c.args.quotes.now.items in
    let past = read_past c.deref.result.now j.histories.order.items c.args.place c.in_default.ensures.lookup.3
    c.deref.ensures.value in
    quoted_none j (λ n. IsFirstGift n c.args.place) quotes quotes (λ n h. no_lead j n h c.args.place past)

pub returns-in-Some-get : goal.returns-in-Some-get
returns-in-Some-get c =
    let j = c.args.self.now in
    let place = c.args.place in
    let old = c.args.quotes.now.items in
    let new = c.insert_quote.new.quotes.items in
    let id = c.in-Some.id.now in
    let lead = c.in-Some-get.lead.now in
    let first = c.in-Some.ensures.lookup in
    let second = c.in-Some-get.ensures.lookup in
    let at : slice_get j.histories.order.items place ≡ Some id =
    read_item c.deref.result.now j.histories.order.items place id first.3.0 first.1 c.deref.ensures.value in
    let there : slice_get j.histories.leads.items place ≡ Some lead =
    read_item c.deref-2.result.now j.histories.leads.items place lead second.3.0 second.1 c.deref-2.ensures.value in
    on_ok c.insert_quote.result (λ inserts. quoted j (λ n. IsFirstGift n place) old new _
    (λ n h. only_lead j n h place id lead at there)
    (subst (λ (q : Quote). Inserts q old new) c.quote_of_lead.ensures inserts))
    c.insert_quote.ensures

pub returns-in-None : goal.returns-in-None
returns-in-None c =
    let j = c.args.self.now in
    let quotes = c.args.quotes.now.items in
    let past = read_past c.deref-2.result.now j.histories.leads.items c.args.place c.in-None.ensures.lookup.3
    c.deref-2.ensures.value in
    quoted_none j (λ n. IsFirstGift n c.args.place) quotes quotes
    (λ n h. let all = h.sources.all in no_lead j n h c.args.place (omega (arith, past, all)))
