use Rattle.std.proofs.Common.{◌≡◌, ◌<◌, Some, None, arith, sym, subst, ap, ◌∙◌}
use Rattle.std.specs.BTreeMap.{get}
use Rattle.std.specs.Ordering.{nat_cmp}
use Rattle.mencius_judge.specs.declared.quote.Quote.{Quote}
use Rattle.mencius_judge.specs.Added.{Inserts}
use Rattle.mencius_judge.specs.Quotes.{IsFirstLine, Submits}
use Rattle.mencius_judge.specs.Tables.{identity_key, number_count}
use Rattle.mencius_judge.proofs.keys.TextMaps.{on_ok}
use Rattle.mencius_judge.proofs.quoting.Tables.{not_submitted, only_submission, quoted, quoted_none}
use Rattle.mencius_judge.proofs.judge.Judge.quote_submission.Goals as goal

pub returns-in_ok-quote_of_submission-in-Some : goal.returns-in_ok-quote_of_submission-in-Some
returns-in_ok-quote_of_submission-in-Some c =
    let j = c.args.self.now in
    let id = c.args.id in
    let old = c.args.quotes.now.items in
    let new = c.insert_quote.new.quotes.items in
    let small : id.number < number_count = omega arith in
    let found : get nat_cmp j.submissions (identity_key id) ≡ Some c.in-Some.row.now =
    ap (get nat_cmp j.submissions) (sym c.identity_key.ensures) ∙ sym c.in-Some.ensures.value in
    on_ok c.insert_quote.result (λ inserts. quoted j (λ n. IsFirstLine (Submits id) n) old new _
    (λ n h. only_submission j n h id c.in-Some.row.now small found)
    (subst (λ (q : Quote). Inserts q old new) c.in_ok-quote_of_submission-in-Some.ensures inserts))
    c.insert_quote.ensures

pub returns-in-None : goal.returns-in-None
returns-in-None c =
    let j = c.args.self.now in
    let id = c.args.id in
    let small : id.number < number_count = omega arith in
    let none : get nat_cmp j.submissions (identity_key id) ≡ None =
    ap (get nat_cmp j.submissions) (sym c.identity_key.ensures) ∙ sym c.in-None.ensures.value in
    quoted_none j (λ n. IsFirstLine (Submits id) n) c.args.quotes.now.items c.args.quotes.now.items
    (λ n h. not_submitted j n h id small none)
