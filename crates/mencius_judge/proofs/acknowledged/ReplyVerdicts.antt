-- A judge is right about a reply.
use Rattle.std.proofs.Common.{◌≡◌, ◌≢◌, ℕ, ◌+◌, ◌<◌, Bool, true, false, cond, [], ◌∷◌, ◌++◌, Option, Some, None, Global, Vec, MatchOption, is_some, option_map, refl, sym, subst, ap, ap₂, ◌∙◌}
use Rattle.std.specs.List.{Contains}
use Rattle.std.specs.Ordering.{nat_cmp}
use Rattle.std.specs.BTreeMap.{Updates, get}
use Rattle.mencius_base.specs.declared.command.CommandId.{CommandId}
use Rattle.mencius_judge.specs.declared.judge.Execution.{Execution}
use Rattle.mencius_judge.specs.declared.judge.FirstReply.{FirstReply}
use Rattle.mencius_judge.specs.declared.judge.Judge.{Judge}
use Rattle.mencius_judge.specs.declared.judge.Submission.{Submission}
use Rattle.mencius_log.specs.declared.observation.Answer.{Answer}
use Rattle.mencius_log.specs.declared.observation.Observation.TheVariants.{Reply}
use Rattle.mencius_judge.specs.declared.quote.Quote.{Quote}
use Rattle.mencius_judge.specs.declared.violation.Violation.{Violation}
use Rattle.mencius_judge.specs.declared.violation.Violation.TheVariants as violation
use Rattle.mencius_judge.specs.Answers.{IsRight}
use Rattle.mencius_judge.specs.Judged.{Breaks, HasSeen, IsJudged}
use Rattle.mencius_judge.specs.Log.{Log, command_of, is_failed, reply_of}
use Rattle.mencius_judge.specs.Quotes.{NumberedLog, log_of}
use Rattle.mencius_judge.specs.Tables.{AreReplies, AreSettled, IsNoWrongExecution, Replies, identity_key, number_count}
use Rattle.mencius_judge.specs.Violations.{IsAnswerAt}
use Rattle.mencius_judge.proofs.acknowledged.FirstReplies.{replied_again, replied_new}
use Rattle.mencius_judge.proofs.acknowledged.ReplyLines.{table_again, table_reply}
use Rattle.mencius_judge.proofs.acknowledged.SettledCounts.{settled_reply}
use Rattle.mencius_judge.proofs.observations.Answered.{no_wrong_execution}
use Rattle.mencius_judge.proofs.observations.Leads.{some_is}
use Rattle.mencius_judge.proofs.observations.OrderSteps.{order_reply}
use Rattle.mencius_judge.proofs.observations.Quiet.{floors_same, histories_same}
use Rattle.mencius_judge.proofs.observations.Steps.{executions_reply, one_reply, replies_reply, row_found, submissions_reply}
use Rattle.mencius_judge.proofs.promises.Broken.{answer_after, answer_at, two_replies, wrong_reply}
use Rattle.mencius_judge.proofs.promises.Logs.{command_found, contains_here, reply_found, reply_missing}
use Rattle.mencius_judge.proofs.sources.After.{sources_after_reply, sources_quiet}

none_of : (o : Option Answer) → o ≡ None → is_some o ≡ true → ⊥
none_of None e there = cc
none_of (Some x) e there = cc

module _ (j : Judge) (n : NumberedLog) (h : HasSeen j n) (line : ℕ) (id : CommandId) (answer : Answer)
    (small : id.number < number_count) (s : Submission) (there : get nat_cmp j.submissions (identity_key id) ≡ Some s) where
  abbrev w : Log
  w = log_of n

  abbrev quote : Quote
  quote = record { number = line; observation = Reply id answer }

  command : command_of w id ≡ Some s.command
  command = row_found w j.submissions h.log.submissions id s small there

  -- ---- a command with a reply

  first_is : (r : FirstReply) → get nat_cmp j.replies (identity_key id) ≡ Some r → reply_of w id ≡ Some r.answer
  first_is r e = sym (h.log.replies.first id small) ∙ ap (option_map (λ (z : FirstReply). z.answer)) e

  seen_again : (r : FirstReply) → get nat_cmp j.replies (identity_key id) ≡ Some r → r.answer ≡ answer → HasSeen j (quote ∷ n)
  seen_again r e same =
      let order = j.histories.order.items in
      let places = j.histories.places in
      let rows = j.histories.rows.items in
      let ids = j.acknowledged.items in
      let found : reply_of w id ≡ Some answer = first_is r e ∙ ap Some same in
      let known = reply_found w id answer found in
      record {
        log = record {
          one_command = one_reply w id answer h.log.one_command;
          were_submitted = (some_is (command_of w id) s.command command, h.log.were_submitted);
          one_reply = replies_reply w id answer h.log.one_reply (λ x given. h.log.one_reply id answer x known given);
          were_settled = h.log.were_settled;
          were_restored = h.log.were_restored;
          submissions = submissions_reply w j.submissions h.log.submissions id answer;
          histories = histories_same w (Reply id answer) tt order places rows h.log.histories;
          order = order_reply w id answer order h.log.order
              (λ front back c splits is. h.log.order.right front back id c answer splits is known);
          replies = table_again w id answer j.replies ids h.log.one_reply h.log.replies found;
          executions = executions_reply w id answer order j.executions h.log.executions;
          settled = h.log.settled;
          timelines = h.log.timelines;
          floors = floors_same w (Reply id answer) tt j.floors h.log.floors;
          commands = h.log.commands;
          replied = h.log.replied ∙ sym (replied_again w id answer (ap is_some found));
          lookups = h.log.lookups;
        };
        sources = sources_quiet n order j.histories.leads.items places rows j.submissions j.replies h.sources quote;
      }

  -- a further reply is the same as the first one, or breaks the promise OneReply
  pub again_judged : (r : FirstReply) → get nat_cmp j.replies (identity_key id) ≡ Some r → (x : Option Violation)
      → MatchOption x (r.answer ≡ answer)
      (λ v. (v ≡ violation.OneReply id r.answer answer) × (r.answer ≢ answer)) → IsJudged n quote x j
  again_judged r e None same = seen_again r e same
  again_judged r e (Some v) other = (
    subst (λ (u : Violation). Breaks w (Reply id answer) u) (sym other.0)
        ((refl, first_is r e, other.1), two_replies w id r.answer answer (first_is r e) other.1),
    h,
  )

  -- ---- a command without a reply

  -- a reply that is not right at the command's place breaks the promise RightReply
  pub wrong_breaks : (x : Execution) → get nat_cmp j.executions (identity_key id) ≡ Some x → (v : Violation)
      → v ≡ violation.RightReply s.command.id x.place x.held answer → (IsRight s.command.op x.held answer → ⊥)
      → Breaks w (Reply id answer) v
  wrong_breaks x found v is wrong =
      let ids : s.command.id ≡ id = (command_found w id s.command command).1 in
      let at : IsAnswerAt (Reply id answer ∷ w) id s.command x.place x.held =
      answer_after w id answer id s.command x.place x.held
      (answer_at w id s.command j.histories.order.items j.histories.places j.histories.rows.items j.executions x h.log.histories
      h.log.executions small command found) in
      let here : Contains (Reply id answer ∷ w) (Reply id answer) = contains_here (Reply id answer) w (Reply id answer) refl in
      subst (λ (u : Violation). Breaks w (Reply id answer) u)
      (sym (is ∙ ap (λ (y : CommandId). violation.RightReply y x.place x.held answer) ids)) (
        (here, s.command, at, wrong),
        wrong_reply (Reply id answer ∷ w) id s.command x.place x.held answer at here wrong,
      )

  settled_after : (failed : Bool) → AreSettled (cond failed j.acknowledged.items (j.acknowledged.items ++ id ∷ [])) j.executions
      j.settled.count j.settled.highest
  settled_after true = h.log.settled
  settled_after false =
      settled_reply j.acknowledged.items j.executions j.settled.count j.settled.highest id h.log.settled

  -- the first reply to a command
  pub seen_first : get nat_cmp j.replies (identity_key id) ≡ None
      → IsNoWrongExecution j.executions (identity_key id) s.command.op answer
      → (ids : Vec CommandId Global) (new : Replies) (r : FirstReply) (more : ℕ)
      → ids.items ≡ cond (is_failed answer) j.acknowledged.items (j.acknowledged.items ++ id ∷ [])
      → Updates nat_cmp j.replies new (identity_key id) (Some r) → r.answer ≡ answer → r.line ≡ line → more ≡ j.replied + 1
      → HasSeen (record j { acknowledged = ids; replies = new; replied = more }) (quote ∷ n)
  seen_first missing right ids new r more listed updates answer_is line_is count =
      let order = j.histories.order.items in
      let places = j.histories.places in
      let rows = j.histories.rows.items in
      let none : reply_of w id ≡ None =
      sym (h.log.replies.first id small) ∙ ap (option_map (λ (z : FirstReply). z.answer)) missing in
      record {
        log = record {
          one_command = one_reply w id answer h.log.one_command;
          were_submitted = (some_is (command_of w id) s.command command, h.log.were_submitted);
          one_reply = replies_reply w id answer h.log.one_reply
              (λ x given. absurd (none_of (reply_of w id) none (reply_missing w id x given)));
          were_settled = h.log.were_settled;
          were_restored = h.log.were_restored;
          submissions = submissions_reply w j.submissions h.log.submissions id answer;
          histories = histories_same w (Reply id answer) tt order places rows h.log.histories;
          order = order_reply w id answer order h.log.order
              (no_wrong_execution w order j.executions id s.command answer h.log.executions small command right);
          replies = subst (AreReplies (Reply id answer ∷ w) new) (sym listed)
              (table_reply w id answer j.replies new j.acknowledged.items r h.log.one_reply h.log.replies small none answer_is updates);
          executions = executions_reply w id answer order j.executions h.log.executions;
          settled = subst (λ ys. AreSettled ys j.executions j.settled.count j.settled.highest) (sym listed)
              (settled_after (is_failed answer));
          timelines = h.log.timelines;
          floors = floors_same w (Reply id answer) tt j.floors h.log.floors;
          commands = h.log.commands;
          replied = count ∙ ap (λ (k : ℕ). k + 1) h.log.replied ∙ sym (replied_new w id answer none);
          lookups = h.log.lookups;
        };
        sources = sources_after_reply n order j.histories.leads.items places rows j.submissions j.replies h.sources quote id r new
            (ap₂ (λ (k : ℕ) (a : Answer). record { number = k; observation = Reply id a }) (sym line_is) (sym answer_is))
            small none updates;
      }
