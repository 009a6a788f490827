use Rattle.std.proofs.Common.{◌≡◌, ◌<◌, ◌≤◌, ◌+◌, ◌++◌, ◌∷◌, [], MatchOption, Some, None, ap, arith, is_some, length, refl, slice_get, sym, subst, true, false, ◌∙◌, length-append}
use Rattle.std.specs.BTreeMap.{Updates, get}
use Rattle.std.specs.Ordering.{nat_cmp}
use Rattle.mencius_model.specs.KeyMap.{out}
use Rattle.mencius_judge.specs.declared.judge.Execution.{Execution}
use Rattle.mencius_judge.specs.declared.judge.FirstReply.{FirstReply}
use Rattle.mencius_log.specs.declared.observation.Observation.{Observation}
use Rattle.mencius_log.specs.declared.observation.Observation.TheVariants.{Execute}
use Rattle.mencius_judge.specs.declared.violation.Violation.TheVariants.{RightReply}
use Rattle.mencius_judge.specs.Answers.{IsRight}
use Rattle.mencius_judge.specs.Judged.{Breaks}
use Rattle.mencius_judge.specs.Log.{commands_of}
use Rattle.mencius_judge.specs.Quotes.{log_of}
use Rattle.mencius_judge.specs.Tables.{AreSettled, IsNoWrong, identity_key, number_count}
use Rattle.mencius_judge.proofs.acknowledged.SettleLines.{seen_settled}
use Rattle.mencius_judge.proofs.observations.HistorySteps.{size_is}
use Rattle.mencius_judge.proofs.observations.Leads.{copied_some, last, lead_early, lead_executions, lead_histories, lead_order, lead_timelines, lead_twice, lead_wrong, none_is, some_is}
use Rattle.mencius_judge.proofs.observations.Quiet.{floors_same, one_quiet, replies_quiet, submissions_quiet, table_quiet}
use Rattle.mencius_judge.proofs.observations.Steps.{row_found, settled_lead}
use Rattle.mencius_judge.proofs.promises.Floors.{commands-length}
use Rattle.mencius_judge.proofs.sources.After.{sources_after_lead}
use Rattle.mencius_judge.proofs.judge.Judge.lead.Goals as goal

pub returns-then-is_some : goal.returns-then-is_some
returns-then-is_some c n seen ahead =
    let j = c.args.self.now in
    let h = seen.log in
    let w = log_of n in
    let p = c.args.server in
    let id = c.args.id in
    let small : id.number < number_count = omega arith in
    let there : get nat_cmp j.submissions (identity_key id) ≡ Some c.in-Some.row.now =
    ap (get nat_cmp j.submissions) (sym c.identity_key-key.ensures) ∙ sym c.in-Some.ensures.value in
    let had : is_some (get nat_cmp j.executions (identity_key id)) ≡ true =
    ap (λ key. is_some (get nat_cmp j.executions key)) (sym c.identity_key-key.ensures)
    ∙ ap is_some (sym c.get-2.ensures.value) ∙ copied_some c.get-2.result ∙ sym c.is_some.ensures ∙ c.if-is_some.true in
    let r = lead_twice j w h p id c.in-Some.row.now small there ahead had in
    let size = size_is w j.histories.order.items j.histories.places j.histories.rows.items h.histories p in
    (((refl, c.count-place.ensures ∙ size, r.0), r.1), seen)

pub returns-in-Some-first_unsettled : goal.returns-in-Some-first_unsettled
returns-in-Some-first_unsettled c n seen ahead =
    let j = c.args.self.now in
    let h = seen.log in
    let w = log_of n in
    let p = c.args.server in
    let id = c.args.id in
    let behind = c.in-Some-first_unsettled.behind in
    let small : id.number < number_count = omega arith in
    let there : get nat_cmp j.submissions (identity_key id) ≡ Some c.in-Some.row.now =
    ap (get nat_cmp j.submissions) (sym c.identity_key-key.ensures) ∙ sym c.in-Some.ensures.value in
    let settled = c.count_settled-self.result in
    let less : settled.count < c.in-Some.row.now.acknowledged = c.in-Some-first_unsettled.ensures.0 in
    let listed : slice_get j.acknowledged.items settled.count ≡ Some behind =
    ap (λ ids. slice_get ids settled.count) (sym c.as_slice-acknowledged.ensures.value) ∙ c.in-Some-first_unsettled.ensures.1 in
    let none : get nat_cmp j.executions (identity_key behind) ≡ None =
    c.count_settled-self.ensures.all behind (ap (λ ids. slice_get ids settled.count) c.as_slice-acknowledged.ensures.value ∙ listed) in
    let facts : AreSettled j.acknowledged.items j.executions settled.count settled.highest =
    subst (λ ids. AreSettled ids j.executions j.settled.count j.settled.highest
    → AreSettled ids j.executions settled.count settled.highest)
    c.as_slice-acknowledged.ensures.value c.count_settled-self.ensures.settled h.settled in
    let r = lead_early j w h p id c.in-Some.row.now small there ahead settled.count behind less listed none in
    let size = size_is w j.histories.order.items j.histories.places j.histories.rows.items h.histories p in
    (((refl, c.count-place.ensures ∙ size, r.0, r.1), r.2), seen_settled j n settled seen facts)

pub returns-in-Some-2 : goal.returns-in-Some-2
returns-in-Some-2 c n seen ahead =
    let j = c.args.self.now in
    let h = seen.log in
    let w = log_of n in
    let p = c.args.server in
    let id = c.args.id in
    let row = c.in-Some.row.now in
    let cs = commands_of w j.histories.order.items in
    let key = c.identity_key-key.result in
    let place = c.count-place.result in
    let small : id.number < number_count = omega arith in
    let there : get nat_cmp j.submissions (identity_key id) ≡ Some row =
    ap (get nat_cmp j.submissions) (sym c.identity_key-key.ensures) ∙ sym c.in-Some.ensures.value in
    let settled = c.count_settled-self.result in
    let facts : AreSettled j.acknowledged.items j.executions settled.count settled.highest =
    subst (λ ids. AreSettled ids j.executions j.settled.count j.settled.highest
    → AreSettled ids j.executions settled.count settled.highest)
    c.as_slice-acknowledged.ensures.value c.count_settled-self.ensures.settled h.settled in
    let wrong =
    subst (λ x. MatchOption x (IsNoWrong j.replies key row.command.op (out cs row.command))
    (λ v. (first : FirstReply) × (get nat_cmp j.replies key ≡ Some first)
    × (v ≡ RightReply row.command.id place (out cs row.command) first.answer)
    × (IsRight row.command.op (out cs row.command) first.answer → ⊥)))
    c.in-Some-2.is (c.in_ok-violation.ensures cs h.timelines) in (
      subst (Breaks w (Execute p id)) (sym wrong.2)
          (lead_wrong j w h p id row small there ahead place (c.count-place.ensures ∙ last j w h p id row small there ahead) wrong.0
          (ap (get nat_cmp j.replies) (sym c.identity_key-key.ensures) ∙ wrong.1) wrong.3),
      seen_settled j n settled seen facts,
    )

pub returns : goal.returns
returns c n seen ahead =
    let j = c.args.self.now in
    let h = seen.log in
    let w = log_of n in
    let p = c.args.server in
    let id = c.args.id in
    let row = c.in-Some.row.now in
    let order = j.histories.order.items in
    let leads = j.histories.leads.items in
    let places = j.histories.places in
    let rows = j.histories.rows.items in
    let cs = commands_of w order in
    let held = c.in_ok-held.held in
    let key = c.identity_key-key.result in
    let settled = c.count_settled-self.result in
    let new = c.lead.new.self in
    let o : Observation = Execute p id in
    let small : id.number < number_count = omega arith in
    let there : get nat_cmp j.submissions (identity_key id) ≡ Some row =
    ap (get nat_cmp j.submissions) (sym c.identity_key-key.ensures) ∙ sym c.in-Some.ensures.value in
    let absent : is_some (get nat_cmp j.executions (identity_key id)) ≡ false =
    ap (λ k. is_some (get nat_cmp j.executions k)) (sym c.identity_key-key.ensures)
    ∙ ap is_some (sym c.get-2.ensures.value) ∙ copied_some c.get-2.result ∙ sym c.is_some.ensures ∙ c.if-is_some.false in
    let is : held ≡ out cs row.command = c.in_ok-held.ensures.reply cs h.timelines in
    let right : IsNoWrong j.replies key row.command.op (out cs row.command) =
    subst (λ x. MatchOption x (IsNoWrong j.replies key row.command.op (out cs row.command))
    (λ v. (first : FirstReply) × (get nat_cmp j.replies key ≡ Some first)
    × (v ≡ RightReply row.command.id c.count-place.result (out cs row.command) first.answer)
    × (IsRight row.command.op (out cs row.command) first.answer → ⊥)))
    c.in_default-2.is (c.in_ok-violation.ensures cs h.timelines) in
    let none : IsNoWrong j.replies (identity_key id) row.command.op held =
    subst (λ k. IsNoWrong j.replies k row.command.op held) c.identity_key-key.ensures
    (subst (IsNoWrong j.replies key row.command.op) (sym is) right) in
    let facts : AreSettled j.acknowledged.items j.executions settled.count settled.highest =
    subst (λ ids. AreSettled ids j.executions j.settled.count j.settled.highest
    → AreSettled ids j.executions settled.count settled.highest)
    c.as_slice-acknowledged.ensures.value c.count_settled-self.ensures.settled h.settled in
    let behind : settled.count < row.acknowledged → length j.acknowledged.items ≤ settled.count =
    subst (λ ids. settled.count < row.acknowledged → length ids ≤ settled.count) c.as_slice-acknowledged.ensures.value
    c.in_default-first_unsettled.ensures in
    let execution : Execution = record { place = c.count-place.result; held = held } in
    let updates : Updates nat_cmp j.executions c.put.new.map (identity_key id) (Some execution) =
    subst (λ k. Updates nat_cmp j.executions c.put.new.map k (Some execution)) c.identity_key-key.ensures c.in_ok-put.ensures in
    let place : c.count-place.result ≡ length order = c.count-place.ensures ∙ last j w h p id row small there ahead in
    let grown : new.order.items ≡ order ++ id ∷ [] = c.in_ok-lead.ensures.order in
    let size : length cs + 1 ≡ c.longest-size.result =
    omega (arith, commands-length w order h.order.known, ap length grown, length-append order (id ∷ []), c.longest-size.ensures) in
    record {
      log = record {
        one_command = one_quiet w o tt h.one_command;
        were_submitted =
            (some_is _ row.command (row_found w j.submissions h.submissions id row small there), h.were_submitted);
        one_reply = replies_quiet w o tt h.one_reply;
        were_settled = h.were_settled;
        were_restored = h.were_restored;
        submissions = submissions_quiet w o tt j.submissions h.submissions;
        histories =
            rw c.in_ok-lead.ensures.order
            (lead_histories j w h p id row small there ahead c.args.line new.places new.rows.items
            c.in_ok-lead.ensures.rows);
        order =
            rw c.in_ok-lead.ensures.order
            (lead_order j w h p id row small there ahead held is absent none settled.count settled.highest facts behind);
        replies = table_quiet w o tt j.replies j.acknowledged.items h.replies;
        executions =
            rw c.in_ok-lead.ensures.order
            (lead_executions j w h p id row small there ahead held is absent none settled.count settled.highest facts behind
            c.put.new.map execution refl place updates);
        settled =
            settled_lead j.acknowledged.items j.executions c.put.new.map settled.count settled.highest id execution facts
            (none_is (get nat_cmp j.executions (identity_key id)) absent) updates;
        timelines =
            rw c.in_ok-lead.ensures.order
            (lead_timelines j w h p id row small there ahead c.execute.new.self.by_key
            (c.in_ok-held.ensures.after cs h.timelines size));
        floors = floors_same w o tt j.floors h.floors;
        commands = h.commands;
        replied = h.replied;
        lookups = h.lookups;
      };
      sources =
          rw (c.in_ok-lead.ensures.order, c.in_ok-lead.ensures.leads)
          (sources_after_lead n order leads places rows j.submissions j.replies seen.sources h.histories
          c.args.line p id new.places new.rows.items ahead c.in_ok-lead.ensures.rows);
    }
