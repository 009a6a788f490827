use Rattle.std.proofs.Common.{◌≡◌, ◌+◌, ◌∷◌, Some, arith, slice_get, subst, ap}
use Rattle.mencius_judge.specs.declared.quote.Quote.{Quote}
use Rattle.mencius_judge.specs.Added.{Inserts}
use Rattle.mencius_judge.specs.Quotes.{IsGift}
use Rattle.mencius_judge.specs.Sources.{snapshot_count}
use Rattle.mencius_judge.proofs.keys.TextMaps.{on_ok}
use Rattle.mencius_judge.proofs.quoting.Steps.{adds_none}
use Rattle.mencius_judge.proofs.quoting.Tables.{no_gift, only_added, only_executed, only_taken}
use Rattle.mencius_judge.proofs.sources.Places.{read_item, read_past}
use Rattle.mencius_judge.proofs.quotes.quote_gift_of.Goals as goal
use Rattle.mencius_judge.proofs.quotes.quote_gift_of.Goals.{in-Some+in-Some-checked_sub, in_default}

pub returns-in-None : goal.returns-in-None
returns-in-None c =
    let p = c.args.server in
    let row = c.args.row.now in
    let place = c.args.place in
    let s = c.in-Some.snapshot in
    let old = c.args.quotes.now.items in
    let new = c.insert_quote.new.quotes.items in
    let more = c.in-None.ensures in
    on_ok c.insert_quote.result (λ inserts n line order kept gifts few at.
    only_added n line (IsGift n p place) _ old new
    (only_taken n order p row kept gifts s place c.in-Some.is (omega (arith, more)))
    (subst (λ (q : Quote). Inserts q old new) c.quote_of_snapshot.ensures inserts))
    c.insert_quote.ensures

pub returns-in-Some-get : goal.returns-in-Some-get
returns-in-Some-get c =
    let p = c.args.server in
    let row = c.args.row.now in
    let place = c.args.place in
    let k = c.match-row.executed in
    let number = c.in-Some-get.line.now in
    let old = c.args.quotes.now.items in
    let new = c.insert_quote-in-Some-get.new.quotes.items in
    let sum : snapshot_count row.snapshot + k ≡ place = elim c.match-row.branch [
      | in-Some+in-Some-checked_sub w ↦
          let count = ap snapshot_count w.in-Some.is in
          let less = w.in-Some-checked_sub.ensures in
          let is = w.executed-is in
          omega (arith, count, less.0, less.1, is)
      | in_default w ↦
          let count = ap snapshot_count w.in_default.is in
          let is = w.executed-is in
          omega (arith, count, is)
    ] in
    let read = c.in-Some-get.ensures.lookup in
    let there : slice_get row.lines.items k ≡ Some number =
    read_item c.deref.result.now row.lines.items k number read.3.0 read.1 c.deref.ensures.value in
    on_ok c.insert_quote-in-Some-get.result (λ inserts n line order kept gifts few at.
    only_added n line (IsGift n p place) _ old new
    (only_executed n order p row kept gifts k number place c.args.id sum there at)
    (subst (λ (q : Quote). Inserts q old new) c.quote_of_lead.ensures inserts))
    c.insert_quote-in-Some-get.ensures

pub returns-in-None-get : goal.returns-in-None-get
returns-in-None-get c n line order kept gifts few at =
    let p = c.args.server in
    let row = c.args.row.now in
    let place = c.args.place in
    let k = c.match-row.executed in
    let old = c.args.quotes.now.items in
    let sum : snapshot_count row.snapshot + k ≡ place = elim c.match-row.branch [
      | in-Some+in-Some-checked_sub w ↦
          let count = ap snapshot_count w.in-Some.is in
          let less = w.in-Some-checked_sub.ensures in
          let is = w.executed-is in
          omega (arith, count, less.0, less.1, is)
      | in_default w ↦
          let count = ap snapshot_count w.in_default.is in
          let is = w.executed-is in
          omega (arith, count, is)
    ] in
    let past = read_past c.deref.result.now row.lines.items k c.in-None-get.ensures.lookup.3 c.deref.ensures.value in
    let size = gifts.count in
    adds_none (line ∷ n) (IsGift n p place) old (no_gift n p place kept (omega (arith, few, size, past, sum)))
