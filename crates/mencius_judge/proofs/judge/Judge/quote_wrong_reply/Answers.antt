use Rattle.std.proofs.Common.{◌≡◌, ◌<◌, ◌∷◌, List, arith, sym, subst, ap, ◌∙◌}
use Rattle.std.specs.BTreeMap.{get}
use Rattle.std.specs.Ordering.{nat_cmp}
use Rattle.mencius_base.specs.declared.command.Command.{Command}
use Rattle.mencius_model.specs.KeyMap.{key_of}
use Rattle.mencius_judge.specs.Added.{IsLastOf}
use Rattle.mencius_judge.specs.Log.{commands_of}
use Rattle.mencius_judge.specs.Quotes.{IsChange, IsFirstGift, IsFirstLine, Replies, Submits, log_of}
use Rattle.mencius_judge.specs.Tables.{number_count}
use Rattle.mencius_judge.specs.Timelines.{IsBeginning, held_by}
use Rattle.mencius_judge.proofs.keys.TextMaps.{on_ok}
use Rattle.mencius_judge.proofs.observations.Steps.{row_found}
use Rattle.mencius_judge.proofs.promises.Floors.{commands-length}
use Rattle.mencius_judge.proofs.quoting.LastChanges.{from_change, to_change}
use Rattle.mencius_judge.proofs.quoting.Steps.{adds_both, adds_same}
use Rattle.mencius_judge.proofs.sources.Places.{same_some}
use Rattle.mencius_judge.proofs.judge.Judge.quote_wrong_reply.Goals as goal

pub returns : goal.returns
returns c =
    let j = c.args.self.now in
    let order = j.histories.order.items in
    let id = c.args.id in
    let place = c.args.place in
    let row = c.in-Some.row.now in
    let old = c.args.quotes.now.items in
    let first = c.quote_submission.new.quotes.items in
    let second = c.quote_reply.new.quotes.items in
    let third = c.quote_lead.new.quotes.items in
    let new = c.quote_last.new.quotes.items in
    let changed = c.began-changed.result in
    let small : id.number < number_count = omega arith in
    let found = ap (get nat_cmp j.submissions) (sym c.identity_key.ensures) ∙ sym c.in-Some.ensures.value in
    on_ok c.quote_last.result (λ step n line d h is fits held.
    let one : row.command ≡ d =
    same_some (sym (row_found (log_of n) j.submissions h.log.submissions id row small found) ∙ is) in
    let key : c.key_of-key.result.now ≡ key_of d.op =
    c.key_of-key.ensures ∙ ap key_of (c.op.ensures.op ∙ ap (λ (x : Command). x.op) one) in
    let began : IsBeginning (held_by (commands_of (log_of n) order) (key_of d.op)) place changed =
    subst (λ (k : List _). IsBeginning (held_by (commands_of (log_of n) order) k) place changed) key
    (c.began-changed.ensures (commands_of (log_of n) order) h.log.timelines
    (let size = commands-length (log_of n) order h.log.order.known in omega (arith, size, fits))
    (ap (λ k. held_by (commands_of (log_of n) order) k place) key ∙ held)) in
    let change = IsChange n order (key_of d.op) place in
    adds_both (line ∷ n) (IsFirstLine (Submits id) n) _ old first new (c.in_ok-quote_submission.ensures n line h)
    (adds_both (line ∷ n) (IsFirstLine (Replies id) n) _ first second new (c.in_ok-quote_reply.ensures n line h)
    (adds_both (line ∷ n) (IsFirstGift n place) change second third new (c.in_ok-quote_lead.ensures n line h)
    (adds_same (line ∷ n) (IsLastOf order changed n) change third new
    (to_change n order (key_of d.op) place changed began) (from_change n order (key_of d.op) place changed began)
    (step n line h)))))
    c.quote_last.ensures
