use Rattle.std.proofs.Common.{◌≡◌, Some, ap, length, refl, slice_get, sym, ◌∙◌}
use Rattle.mencius_judge.specs.Log.{history}
use Rattle.mencius_judge.specs.Quotes.{log_of}
use Rattle.mencius_judge.proofs.observations.HistorySteps.{differs, size_is}
use Rattle.mencius_judge.proofs.judge.Judge.differing.Goals as goal

pub returns : goal.returns
returns c n seen at =
    let j = c.args.self.now in
    let h = seen.log in
    let w = log_of n in
    let p = c.args.server in
    let order = j.histories.order.items in
    let places = j.histories.places in
    let rows = j.histories.rows.items in
    let q = h.histories.some.0 in
    let place : c.count.result ≡ length (history w p) = c.count.ensures ∙ size_is w order places rows h.histories p in
    let there : slice_get (history w q) c.count.result ≡ Some c.args.expected =
    ap (λ ids. slice_get ids c.count.result) (sym h.histories.some.1)
    ∙ ap (slice_get order) c.count.ensures ∙ at.0 in (
      (refl, place, q, there, at.1),
      differs w order places rows h.histories p c.args.id c.args.expected at.0 at.1,
    )
