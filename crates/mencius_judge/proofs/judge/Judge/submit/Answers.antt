use Rattle.std.proofs.Common.{◌≡◌, ◌≢◌, ◌<◌, ℕ, Some, None, ap, ap₂, arith, is_some, length, refl, sym, subst, true, false, ◌∙◌}
use Rattle.std.specs.BTreeMap.{Updates, get}
use Rattle.std.specs.Ordering.{nat_cmp}
use Rattle.mencius_base.specs.declared.command.Command.{Command}
use Rattle.mencius_judge.specs.declared.judge.Submission.{Submission}
use Rattle.mencius_log.specs.declared.observation.Observation.{Observation}
use Rattle.mencius_log.specs.declared.observation.Observation.TheVariants.{Submit}
use Rattle.mencius_judge.specs.declared.quote.Quote.{Quote}
use Rattle.mencius_judge.specs.Log.{acknowledged, command_of}
use Rattle.mencius_judge.specs.Quotes.{log_of}
use Rattle.mencius_judge.specs.Tables.{identity_key, number_count}
use Rattle.mencius_judge.proofs.promises.Broken.{two_commands}
use Rattle.mencius_judge.proofs.promises.Counted.{count_again, count_new}
use Rattle.mencius_judge.proofs.observations.OrderSteps.{order_submit}
use Rattle.mencius_judge.proofs.observations.Submits.{again_one, new_one, timelines_submit}
use Rattle.mencius_judge.proofs.observations.Steps.{executions_submit, replies_submit, row_found, row_missing, submissions_again, submissions_new, table_submit}
use Rattle.mencius_judge.proofs.observations.Quiet.{floors_same, histories_same}
use Rattle.mencius_judge.proofs.sources.After.{sources_after_submit, sources_quiet}
use Rattle.mencius_judge.proofs.judge.Judge.submit.Goals as goal

pub returns-then-is_same_op : goal.returns-then-is_same_op
returns-then-is_same_op c n seen =
    let j = c.args.self.now in
    let h = seen.log in
    let w = log_of n in
    let o : Observation = Submit c.args.command.now in
    let order = j.histories.order.items in
    let places = j.histories.places in
    let rows = j.histories.rows.items in
    let x : Command = c.args.command.now in
    let key : c.identity_key-key.result ≡ identity_key x.id = c.identity_key-key.ensures ∙ ap identity_key c.id-id.ensures in
    let small : x.id.number < number_count = subst (λ id. id.number < number_count) c.id-id.ensures (omega arith) in
    let d : Command = c.in-Some.found.now.command in
    let found : command_of w x.id ≡ Some d =
    row_found w j.submissions h.submissions x.id c.in-Some.found.now small
    (ap (get nat_cmp j.submissions) (sym key) ∙ sym c.in-Some.ensures.value) in
    let ops : d.op ≡ x.op =
    sym c.op.ensures.op ∙ c.is_same_op.ensures.0 c.if-is_same_op.true ∙ c.op-in-Some.ensures.op in
    record {
      log = record {
        one_command = again_one w x d h.one_command found ops;
        were_submitted = h.were_submitted;
        one_reply = replies_submit w x h.one_reply;
        were_settled = h.were_settled;
        were_restored = h.were_restored;
        submissions = submissions_again w j.submissions h.submissions x d found;
        histories = histories_same w o tt order places rows h.histories;
        order = order_submit w x order h.order;
        replies = table_submit w x j.replies j.acknowledged.items h.replies;
        executions = executions_submit w x order j.executions h.order h.executions;
        settled = h.settled;
        timelines = timelines_submit w x order j.timelines.by_key h.order h.timelines;
        floors = floors_same w o tt j.floors h.floors;
        commands = count_again w x j.commands (ap is_some found) h.commands;
        replied = h.replied;
        lookups = h.lookups;
      };
      sources =
          sources_quiet n order j.histories.leads.items places rows j.submissions j.replies seen.sources
          (record { number = c.args.line; observation = o });
    }

pub returns-in-Some : goal.returns-in-Some
returns-in-Some c n seen =
    let j = c.args.self.now in
    let h = seen.log in
    let w = log_of n in
    let o : Observation = Submit c.args.command.now in
    let order = j.histories.order.items in
    let places = j.histories.places in
    let rows = j.histories.rows.items in
    let x : Command = c.args.command.now in
    let key : c.identity_key-key.result ≡ identity_key x.id = c.identity_key-key.ensures ∙ ap identity_key c.id-id.ensures in
    let small : x.id.number < number_count = subst (λ id. id.number < number_count) c.id-id.ensures (omega arith) in
    let d : Command = c.in-Some.found.now.command in
    let found : command_of w x.id ≡ Some d =
    row_found w j.submissions h.submissions x.id c.in-Some.found.now small
    (ap (get nat_cmp j.submissions) (sym key) ∙ sym c.in-Some.ensures.value) in
    let other : d.op ≢ x.op = λ e.
    let same : false ≡ true = c.if-is_same_op.ensures.1 (c.op.ensures.op ∙ e ∙ sym c.op-in-Some.ensures.op) in (cc) in (
      (
        (
          d,
          x,
          refl,
          sym c.id-id.ensures,
          ap (command_of w) c.id-id.ensures ∙ found,
          (λ e. other (ap (λ (y : Command). y.op) e)),
        ),
        two_commands w x d found other,
      ),
      seen,
    )

pub returns : goal.returns
returns c n seen =
    let j = c.args.self.now in
    let h = seen.log in
    let w = log_of n in
    let o : Observation = Submit c.args.command.now in
    let order = j.histories.order.items in
    let places = j.histories.places in
    let rows = j.histories.rows.items in
    let x : Command = c.args.command.now in
    let key : c.identity_key-key.result ≡ identity_key x.id = c.identity_key-key.ensures ∙ ap identity_key c.id-id.ensures in
    let small : x.id.number < number_count = subst (λ id. id.number < number_count) c.id-id.ensures (omega arith) in
    let none : command_of w x.id ≡ None =
    row_missing w j.submissions h.submissions x.id small
    (ap (get nat_cmp j.submissions) (sym key) ∙ sym c.in_default.ensures.value) in
    let row : Submission = c.in_ok-row.row in
    let updates : Updates nat_cmp j.submissions c.put.new.map (identity_key x.id) (Some row) =
    subst (λ number. Updates nat_cmp j.submissions c.put.new.map number (Some row)) key c.in_ok-put.ensures in
    let size : length j.acknowledged.items ≡ length (acknowledged w) = ap length h.replies.order in
    let quote : ℕ → Command → Quote = λ k y. record { number = k; observation = Submit y } in
    let line_is : quote c.args.line x ≡ quote row.line row.command =
    ap₂ quote (sym c.in_ok-row.ensures.line) (sym c.in_ok-row.ensures.command) in
    record {
      log = record {
        one_command = new_one w x h.one_command none;
        were_submitted = h.were_submitted;
        one_reply = replies_submit w x h.one_reply;
        were_settled = h.were_settled;
        were_restored = h.were_restored;
        submissions =
            submissions_new w j.submissions h.submissions x c.put.new.map row small none updates c.in_ok-row.ensures.command
            (omega (arith, c.in_ok-row.ensures.acknowledged, c.len.ensures, size));
        histories = histories_same w o tt order places rows h.histories;
        order = order_submit w x order h.order;
        replies = table_submit w x j.replies j.acknowledged.items h.replies;
        executions = executions_submit w x order j.executions h.order h.executions;
        settled = h.settled;
        timelines = timelines_submit w x order j.timelines.by_key h.order h.timelines;
        floors = floors_same w o tt j.floors h.floors;
        commands = count_new w x j.commands c.in_ok-self.field-0 (ap is_some none) h.commands c.in_ok-self.ensures;
        replied = h.replied;
        lookups = h.lookups;
      };
      sources =
          sources_after_submit n order j.histories.leads.items places rows j.submissions j.replies seen.sources
          (record { number = c.args.line; observation = o }) row c.put.new.map line_is
          (subst (λ (y : Command). y.id.number < number_count) (sym c.in_ok-row.ensures.command) small)
          (ap (λ (y : Command). command_of w y.id) c.in_ok-row.ensures.command ∙ none)
          (subst (λ (y : Command). Updates nat_cmp j.submissions c.put.new.map (identity_key y.id) (Some row))
          (sym c.in_ok-row.ensures.command) updates);
    }
