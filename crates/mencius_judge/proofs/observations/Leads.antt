-- A judge is right about an execution at a place that no server had reached.
use Rattle.std.proofs.Common.{◌≡◌, ℕ, ◌<◌, ◌≤◌, true, false, Bor, List, [], ◌∷◌, ◌++◌, Option, Some, None, Global, String, is_some, length, option_map, slice_get, take, arith, refl, sym, subst, ap, ◌∙◌}
use Rattle.std.specs.Prelude.{IsSome}
use Rattle.std.specs.List.{Contains}
use Rattle.std.specs.Option.{option_copied}
use Rattle.std.specs.Ordering.{nat_cmp}
use Rattle.std.specs.BTreeMap.{BTreeMap, Updates, get}
use Rattle.mencius_base.specs.declared.command.CommandId.{CommandId}
use Rattle.mencius_model.specs.KeyMap.{out}
use Rattle.mencius_judge.specs.declared.histories.Row.{Row}
use Rattle.mencius_judge.specs.declared.judge.Execution.{Execution}
use Rattle.mencius_judge.specs.declared.judge.FirstReply.{FirstReply}
use Rattle.mencius_judge.specs.declared.judge.Judge.{Judge}
use Rattle.mencius_judge.specs.declared.judge.Submission.{Submission}
use Rattle.mencius_judge.specs.declared.places.Places.{Places}
use Rattle.mencius_judge.specs.declared.timeline.Timeline.{Timeline}
use Rattle.mencius_log.specs.declared.observation.Observation.TheVariants.{Execute, Reply}
use Rattle.mencius_judge.specs.declared.violation.Violation.TheVariants.{RightReply}
use Rattle.mencius_judge.specs.Answers.{IsRight}
use Rattle.mencius_judge.specs.Judged.{Breaks, HasSeenLog}
use Rattle.mencius_judge.specs.Log.{Log, acknowledged, acknowledged_before, command_of, commands_of, has_id, history, reply_of}
use Rattle.mencius_judge.specs.Promises.{StandBehindReplies, StandOnce}
use Rattle.mencius_judge.specs.Rows.{IsFollowed, count_of}
use Rattle.mencius_judge.specs.Tables.{AreExecutions, AreHistories, AreSettled, Executions, IsNoWrong, IsOrder, identity_key, number_count}
use Rattle.mencius_judge.specs.Timelines.{AreTimelines}
use Rattle.mencius_judge.specs.Violations.{IsAnswerAt}
use Rattle.mencius_judge.proofs.observations.Answered.{no_wrong}
use Rattle.mencius_judge.proofs.promises.Broken.{settled_stand, too_early, unsettled_before, wrong_reply}
use Rattle.mencius_judge.proofs.observations.HistorySteps.{grown, leads, twice}
use Rattle.mencius_judge.proofs.promises.Logs.{command_found, commands-append, contains_later, reply_found}
use Rattle.mencius_judge.proofs.observations.OrderSteps.{order_lead}
use Rattle.mencius_judge.proofs.observations.Steps.{executions_lead, row_found}

pub some_is : {A : Type 0} (o : Option A) (x : A) → o ≡ Some x → IsSome o
some_is None x e = absurd (cc)
some_is (Some y) x e = refl

pub none_is : {A : Type 0} (o : Option A) → is_some o ≡ false → o ≡ None
none_is None e = refl
none_is (Some x) e = absurd (cc)

pub copied_some : {A : Type 0} (o : Option (Bor A)) → is_some (option_copied o) ≡ is_some o
copied_some None = refl
copied_some (Some x) = refl

module _ (j : Judge) (w : Log) (h : HasSeenLog j w) (p : ℕ) (id : CommandId) (row : Submission)
    (small : id.number < number_count)
    (there : get nat_cmp j.submissions (identity_key id) ≡ Some row)
    (ahead : length j.histories.order.items ≤ count_of j.histories.places j.histories.rows.items p) where
  abbrev pub order : List CommandId
  order = j.histories.order.items

  abbrev pub places : Places
  places = j.histories.places

  abbrev pub rows : List Row
  rows = j.histories.rows.items

  pub command : command_of w id ≡ Some row.command
  command = row_found w j.submissions h.submissions id row small there

  pub last : count_of places rows p ≡ length order
  last = omega (arith, h.histories.within p, ahead)

  pub longer : history (Execute p id ∷ w) p ≡ order ++ id ∷ []
  longer = grown w order places rows h.histories p id last

  -- the server has executed the whole longest history
  pub whole : history w p ≡ order
  whole = h.histories.each p ∙ ap (λ n. take n order) last ∙ all order
    where
      all : (xs : List CommandId) → take (length xs) xs ≡ xs
      all [] = refl
      all (x ∷ xs) = ap (λ ys. x ∷ ys) (all xs)

  pub lead_twice : is_some (get nat_cmp j.executions (identity_key id)) ≡ true
      → (has_id (history w p) id ≡ true) × (StandOnce (Execute p id ∷ w) → ⊥)
  lead_twice e = (
    ap (λ ids. has_id ids id) whole ∙ sym (h.executions.all id small) ∙ e,
    twice w order places rows h.histories p id last (sym (h.executions.all id small) ∙ e),
  )

  pub lead_early : (settled : ℕ) (behind : CommandId) → settled < row.acknowledged
      → slice_get j.acknowledged.items settled ≡ Some behind → get nat_cmp j.executions (identity_key behind) ≡ None
      → (has_id (acknowledged_before w id) behind ≡ true) × (has_id (history w p) behind ≡ false)
      × (StandBehindReplies (Execute p id ∷ w) → ⊥)
  lead_early settled behind less listed none =
      let before = h.submissions.before id row small there in
      let item : slice_get (acknowledged w) settled ≡ Some behind =
      ap (λ ids. slice_get ids settled) (sym h.replies.order) ∙ listed in
      let r = unsettled_before w order j.executions h.replies.small h.executions settled row.acknowledged behind less item none in
      let given : has_id (acknowledged_before w id) behind ≡ true = ap (λ ids. has_id ids behind) before.1 ∙ r.0 in
      (given, ap (λ ids. has_id ids behind) whole ∙ r.1, too_early w p id behind order longer given r.1)

  -- the text that the key holds after the whole order is what it holds at the new place
  pub lead_answer : (held : Option (List ℕ)) → held ≡ out (commands_of w order) row.command
      → IsAnswerAt (Execute p id ∷ w) id row.command (length order) held
  lead_answer held is = record {
    server = p;
    front = order;
    back = [];
    splits = longer;
    place_is = refl;
    there = command;
    is = is;
  }

  -- a reply before the execution that is not right at the new place breaks the promise RightReply
  pub lead_wrong : (place : ℕ) → place ≡ length order → (first : FirstReply)
      → get nat_cmp j.replies (identity_key id) ≡ Some first
      → (IsRight row.command.op (out (commands_of w order) row.command) first.answer → ⊥)
      → Breaks w (Execute p id) (RightReply row.command.id place (out (commands_of w order) row.command) first.answer)
  lead_wrong place at first is wrong =
      let held = out (commands_of w order) row.command in
      let ids : row.command.id ≡ id = (command_found w id row.command command).1 in
      let own : IsAnswerAt (Execute p id ∷ w) row.command.id row.command place held =
      subst (λ (x : CommandId). IsAnswerAt (Execute p id ∷ w) x row.command place held) (sym ids)
      (subst (λ (n : ℕ). IsAnswerAt (Execute p id ∷ w) id row.command n held) (sym at) (lead_answer held refl)) in
      let replied : reply_of w id ≡ Some first.answer =
      sym (h.replies.first id small) ∙ ap (option_map (λ (r : FirstReply). r.answer)) is in
      let there : Contains (Execute p id ∷ w) (Reply row.command.id first.answer) =
      subst (λ (x : CommandId). Contains (Execute p id ∷ w) (Reply x first.answer)) (sym ids)
      (contains_later (Execute p id) w (Reply id first.answer) (reply_found w id first.answer replied)) in (
        (there, row.command, own, wrong),
        wrong_reply (Execute p id ∷ w) row.command.id row.command place held first.answer own there wrong,
      )

  module _ (held : Option (List ℕ)) (held_is : held ≡ out (commands_of w order) row.command)
      (absent : is_some (get nat_cmp j.executions (identity_key id)) ≡ false)
      (none : IsNoWrong j.replies (identity_key id) row.command.op held)
      (settled highest : ℕ) (facts : AreSettled j.acknowledged.items j.executions settled highest)
      (behind : settled < row.acknowledged → length j.acknowledged.items ≤ settled) where
    pub new_one : has_id order id ≡ false
    new_one = sym (h.executions.all id small) ∙ absent

    reached : row.acknowledged ≤ settled
    reached =
        let before = h.submissions.before id row small there in
        let size : length j.acknowledged.items ≡ length (acknowledged w) = ap length h.replies.order in
        at_least row.acknowledged settled (λ less.
        let past = behind less in omega (arith, less, past, size, before.0))
      where
        at_least : (a n : ℕ) → (n < a → ⊥) → a ≤ n
        at_least a n f = grind arith

    pub lead_order : IsOrder (Execute p id ∷ w) (order ++ id ∷ [])
    lead_order =
        let before = h.submissions.before id row small there in
        order_lead w p id row.command order h.order new_one command
        (λ y inside. settled_stand w order j.executions h.replies.small h.executions j.acknowledged.items settled highest
        row.acknowledged y h.replies.order facts reached (ap (λ ids. has_id ids y) (sym before.1) ∙ inside))
        (λ answer given. subst (λ text. IsRight row.command.op text answer) held_is
        (no_wrong w id j.replies j.acknowledged.items row.command.op held h.one_reply h.replies small none answer given))

    pub lead_executions : (new : Executions) (x : Execution) → x.held ≡ held → x.place ≡ length order
        → Updates nat_cmp j.executions new (identity_key id) (Some x)
        → AreExecutions (Execute p id ∷ w) (order ++ id ∷ []) new
    lead_executions new x is place updates =
        executions_lead w p id row.command order j.executions new x h.executions small new_one command (is ∙ held_is)
        place updates

  pub lead_histories : (line : ℕ) (new_places : Places) (new_rows : List Row)
      → IsFollowed line p places rows new_places new_rows
      → AreHistories (Execute p id ∷ w) (order ++ id ∷ []) new_places new_rows
  lead_histories line new_places new_rows followed =
      leads w order places rows h.histories p id line new_places new_rows h.were_restored followed last

  pub lead_timelines : (by_key : BTreeMap (String Global) Timeline) → AreTimelines (commands_of w order ++ row.command ∷ []) by_key
      → AreTimelines (commands_of w (order ++ id ∷ [])) by_key
  lead_timelines by_key t =
      subst (λ cs. AreTimelines cs by_key) (sym (commands-append w order id row.command command)) t
