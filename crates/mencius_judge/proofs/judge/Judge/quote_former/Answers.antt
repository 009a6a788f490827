use Rattle.std.proofs.Common.{◌≡◌, ◌<◌, ℕ, Some, None, arith, slice_get, sym, subst, ap, ◌∙◌}
use Rattle.std.specs.BTreeMap.{get}
use Rattle.std.specs.Ordering.{nat_cmp}
use Rattle.mencius_judge.specs.Added.{IsGiftOf}
use Rattle.mencius_judge.specs.Quotes.{IsGift}
use Rattle.mencius_judge.specs.Tables.{identity_key, number_count}
use Rattle.mencius_judge.proofs.keys.TextMaps.{on_ok}
use Rattle.mencius_judge.proofs.quoting.Steps.{adds_same}
use Rattle.mencius_judge.proofs.quoting.Tables.{no_place, place_is, quoted_none}
use Rattle.mencius_judge.proofs.judge.Judge.quote_former.Goals as goal

pub returns-in-Some : goal.returns-in-Some
returns-in-Some c =
    let j = c.args.self.now in
    let order = j.histories.order.items in
    let p = c.args.server in
    let id = c.args.id in
    let x = c.in-Some.execution.now in
    let old = c.args.quotes.now.items in
    let new = c.quote_gift.new.quotes.items in
    let small : id.number < number_count = omega arith in
    let found : get nat_cmp j.executions (identity_key id) ≡ Some x =
    ap (get nat_cmp j.executions) (sym c.identity_key.ensures) ∙ sym c.in-Some.ensures.value in
    on_ok c.quote_gift.result (λ step n line h.
    let at : slice_get order x.place ≡ Some id = place_is j n h id x small found in
    adds_same _ (IsGift n p x.place) (IsGiftOf order p id n) old new
    (λ other is. (x.place, at, is))
    (λ other is. subst (λ (place : ℕ). IsGift n p place other) (h.log.order.once is.0 x.place id is.1 at) is.2)
    (step n line h))
    c.quote_gift.ensures

pub returns-in-None : goal.returns-in-None
returns-in-None c =
    let j = c.args.self.now in
    let id = c.args.id in
    let quotes = c.args.quotes.now.items in
    let small : id.number < number_count = omega arith in
    let none : get nat_cmp j.executions (identity_key id) ≡ None =
    ap (get nat_cmp j.executions) (sym c.identity_key.ensures) ∙ sym c.in-None.ensures.value in
    quoted_none j (IsGiftOf j.histories.order.items c.args.server id) quotes quotes
    (λ n h other is. no_place j n h id is.0 small none is.1)
