use Rattle.std.proofs.Common.{ℕ, List, ◌∷◌, length, sym, subst}
use Rattle.mencius_judge.specs.declared.violation.Violation.{Violation}
use Rattle.mencius_judge.specs.Added.{Adds}
use Rattle.mencius_judge.specs.Log.{commands_of}
use Rattle.mencius_judge.specs.Quotes.{IsReason, log_of}
use Rattle.mencius_judge.specs.Timelines.{IsBeginning, held_by}
use Rattle.mencius_judge.specs.Violations.{IsShownBy}
use Rattle.mencius_judge.proofs.keys.TextMaps.{on_ok}
use Rattle.mencius_judge.proofs.quoting.Reasons.{once, one_command, one_reply, real_time, restore, right_lookup, right_reply, same_order, settled, wrong_at}
use Rattle.mencius_judge.proofs.quoting.Steps.{adds_both}
use Rattle.mencius_judge.proofs.judge.Judge.quote_reasons.Goals as goal

pub returns-in-OneCommand : goal.returns-in-OneCommand
returns-in-OneCommand c =
    let j = c.args.self.now in
    let old = c.args.quotes.now.items in
    let new = c.quote_submission.new.quotes.items in
    on_ok c.quote_submission.result (λ step n line h breaks own.
    subst (λ (v : Violation). Adds (line ∷ n) (IsReason (line ∷ n) v) old new) (sym c.in-OneCommand.is)
    (one_command j n line h old new own c.in-OneCommand.id (step n line h)))
    c.quote_submission.ensures

pub returns-in-Once : goal.returns-in-Once
returns-in-Once c =
    let j = c.args.self.now in
    let old = c.args.quotes.now.items in
    let new = c.quote_former.new.quotes.items in
    on_ok c.quote_former.result (λ step n line h breaks own.
    subst (λ (v : Violation). Adds (line ∷ n) (IsReason (line ∷ n) v) old new) (sym c.in-Once.is)
    (once j n line h old new own c.in-Once.server c.in-Once.place c.in-Once.id
    (subst (λ (v : Violation). IsShownBy (log_of n) line.observation v) c.in-Once.is breaks.0) (step n line h)))
    c.quote_former.ensures

pub returns-in-SameOrder : goal.returns-in-SameOrder
returns-in-SameOrder c =
    let j = c.args.self.now in
    let old = c.args.quotes.now.items in
    let new = c.quote_lead.new.quotes.items in
    on_ok c.quote_lead.result (λ step n line h breaks own.
    subst (λ (v : Violation). Adds (line ∷ n) (IsReason (line ∷ n) v) old new) (sym c.in-SameOrder.is)
    (same_order j n line h old new own c.in-SameOrder.server c.in-SameOrder.place c.in-SameOrder.expected
    c.in-SameOrder.found (step n line h)))
    c.quote_lead.ensures

pub returns-in_ok-quote_reply-in-RealTime : goal.returns-in_ok-quote_reply-in-RealTime
returns-in_ok-quote_reply-in-RealTime c =
    let j = c.args.self.now in
    let old = c.args.quotes.now.items in
    let first = c.quote_submission-in-RealTime.new.quotes.items in
    let second = c.quote_reply.new.quotes.items in
    let new = c.quote_submission-in-RealTime-2.new.quotes.items in
    on_ok c.quote_submission-in-RealTime-2.result (λ step n line h breaks own.
    subst (λ (v : Violation). Adds (line ∷ n) (IsReason (line ∷ n) v) old new) (sym c.in-RealTime.is)
    (real_time j n line h old new own c.in-RealTime.server c.in-RealTime.place c.in-RealTime.id c.in-RealTime.behind
    (adds_both (line ∷ n) _ _ old first new (c.in_ok-quote_submission-in-RealTime.ensures n line h)
    (adds_both (line ∷ n) _ _ first second new (c.in_ok-quote_reply-in-RealTime.ensures n line h) (step n line h)))))
    c.quote_submission-in-RealTime-2.ensures

pub returns-in-OneReply : goal.returns-in-OneReply
returns-in-OneReply c =
    let j = c.args.self.now in
    let old = c.args.quotes.now.items in
    let new = c.quote_reply-in-OneReply.new.quotes.items in
    on_ok c.quote_reply-in-OneReply.result (λ step n line h breaks own.
    subst (λ (v : Violation). Adds (line ∷ n) (IsReason (line ∷ n) v) old new) (sym c.in-OneReply.is)
    (one_reply j n line h old new own c.in-OneReply.id c.in-OneReply.expected c.in-OneReply.found (step n line h)))
    c.quote_reply-in-OneReply.ensures

pub returns-in-Settled : goal.returns-in-Settled
returns-in-Settled c =
    let j = c.args.self.now in
    let old = c.args.quotes.now.items in
    let new = c.quote_reply-in-Settled.new.quotes.items in
    on_ok c.quote_reply-in-Settled.result (λ step n line h breaks own.
    subst (λ (v : Violation). Adds (line ∷ n) (IsReason (line ∷ n) v) old new) (sym c.in-Settled.is)
    (settled j n line h old new own c.in-Settled.server c.in-Settled.id (step n line h)))
    c.quote_reply-in-Settled.ensures

pub returns-in-RightReply : goal.returns-in-RightReply
returns-in-RightReply c =
    let j = c.args.self.now in
    let old = c.args.quotes.now.items in
    let new = c.quote_wrong_reply.new.quotes.items in
    on_ok c.quote_wrong_reply.result (λ step n line h breaks own.
    let shown = subst (λ (x : Violation). IsShownBy (log_of n) line.observation x) c.in-RightReply.is breaks.0 in
    let wrong = wrong_at j n line h c.in-RightReply.id c.in-RightReply.place c.in-RightReply.expected shown.1 shown.2 in
    subst (λ (x : Violation). Adds (line ∷ n) (IsReason (line ∷ n) x) old new) (sym c.in-RightReply.is)
    (right_reply j n line h old new own c.in-RightReply.id c.in-RightReply.place c.in-RightReply.expected
    c.in-RightReply.found shown.1 wrong (step n line shown.1 h wrong.known wrong.within wrong.held_is)))
    c.quote_wrong_reply.ensures

pub returns-in_ok-quote_last-in-RightLookup : goal.returns-in_ok-quote_last-in-RightLookup
returns-in_ok-quote_last-in-RightLookup c =
    let j = c.args.self.now in
    let order = j.histories.order.items in
    let key = c.in-RightLookup.key in
    let old = c.args.quotes.now.items in
    let first = c.quote_last.new.quotes.items in
    let new = c.quote_last-in-RightLookup.new.quotes.items in
    on_ok c.quote_last-in-RightLookup.result (λ step n line h breaks own.
    let shown = subst (λ (v : Violation). IsShownBy (log_of n) line.observation v) c.in-RightLookup.is breaks.0 in
    let commands = commands_of (log_of n) order in
    let began : IsBeginning (held_by commands key) (length commands) c.changed.result =
    subst (λ (k : List ℕ). IsBeginning (held_by commands k) (length commands) c.changed.result) c.as_str.ensures
    (c.changed.ensures commands h.log.timelines) in
    subst (λ (v : Violation). Adds (line ∷ n) (IsReason (line ∷ n) v) old new) (sym c.in-RightLookup.is)
    (right_lookup j n line h old new own c.in-RightLookup.reader key c.in-RightLookup.from c.in-RightLookup.to
    c.changed.result c.in-RightLookup.found shown began
    (adds_both (line ∷ n) _ _ old first new (c.in_ok-quote_last-in-RightLookup.ensures n line h) (step n line h))))
    c.quote_last-in-RightLookup.ensures

pub returns-in-Restore : goal.returns-in-Restore
returns-in-Restore c =
    let j = c.args.self.now in
    let old = c.args.quotes.now.items in
    let new = c.quote_gift.new.quotes.items in
    on_ok c.quote_gift.result (λ step n line h breaks own.
    subst (λ (v : Violation). Adds (line ∷ n) (IsReason (line ∷ n) v) old new) (sym c.in-Restore.is)
    (restore j n line h old new own c.in-Restore.server c.in-Restore.source c.in-Restore.count (step n line h)))
    c.quote_gift.ensures
