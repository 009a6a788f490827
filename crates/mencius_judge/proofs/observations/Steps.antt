-- The data of a judge stays right after a submission, an execution or a reply.
use Rattle.std.proofs.Common.{◌≡◌, ◌≢◌, inl, inr, ℕ, ◌<◌, true, false, cond, ◌||◌, Bool, List, [], ◌∷◌, ◌++◌, Option, Some, None, is_some, length, option_map, slice_get, take, arith, refl, sym, subst, ap, ◌∙◌, ⊎_elim, length-append, append-nil}
use Rattle.std.specs.Prelude.{IsSome}
use Rattle.std.specs.List.{Contains}
use Rattle.std.specs.Ordering.{nat_cmp}
use Rattle.std.specs.BTreeMap.{BTreeMap, Updates, get}
use Rattle.std.proofs.lemmas.List.{take-append-le, take_all}
use Rattle.mencius_base.specs.declared.command.Command.{Command}
use Rattle.mencius_base.specs.declared.command.CommandId.{CommandId}
use Rattle.mencius_model.specs.KeyMap.{out}
use Rattle.mencius_judge.specs.declared.judge.Execution.{Execution}
use Rattle.mencius_judge.specs.declared.judge.Submission.{Submission}
use Rattle.mencius_log.specs.declared.observation.Answer.{Answer}
use Rattle.mencius_log.specs.declared.observation.Observation.TheVariants.{Submit, Execute, Reply}
use Rattle.mencius_judge.specs.Log.{Log, acknowledged, command_of, commands_of, has_id, is_failed}
use Rattle.mencius_judge.specs.Promises.{AreOneCommand, AreOneReply, WereSubmitted}
use Rattle.mencius_judge.specs.Tables.{AreExecutions, AreReplies, AreSettled, AreSubmissions, Executions, IsOrder, Replies, identity_key, number_count}
use Rattle.mencius_judge.proofs.promises.Identities.{get_here, get_other, get_there, has-append, id_cases, other_id, place_has}
use Rattle.mencius_judge.proofs.observations.RowSteps.{end_of}
use Rattle.mencius_judge.proofs.promises.Logs.{contains_cons, kept_before, kept_command, new_before, new_command, other_command}
use Rattle.mencius_judge.proofs.observations.OrderSteps.{kept_at, kept_out, split_end}

-- ---- promises about commands and replies only

pub one_submit : (w : Log) (c : Command) → AreOneCommand w
    → ((d : Command) → Contains w (Submit d) → c.id ≡ d.id → c ≡ d) → AreOneCommand (Submit c ∷ w)
one_submit w c h last x y first second ids =
    elim (contains_cons (Submit c) w (Submit x) first) [
      | inl e ↦
          let same : c ≡ x = cc in
          elim (contains_cons (Submit c) w (Submit y) second) [
            | inl f ↦ (let also : c ≡ y = cc in cc)
            | inr there ↦ sym same ∙ last y there (ap (λ (z : Command). z.id) same ∙ ids)
          ]
      | inr here ↦
          elim (contains_cons (Submit c) w (Submit y) second) [
            | inl f ↦
                let also : c ≡ y = cc in
                sym (last x here (ap (λ (z : Command). z.id) also ∙ sym ids)) ∙ also
            | inr there ↦ h x y here there ids
          ]
    ]

pub one_reply : (w : Log) (id : CommandId) (answer : Answer) → AreOneCommand w → AreOneCommand (Reply id answer ∷ w)
one_reply w id answer h x y first second =
    h x y (before x first) (before y second)
  where
    before : (z : Command) → Contains (Reply id answer ∷ w) (Submit z) → Contains w (Submit z)
    before z there =
        elim (contains_cons (Reply id answer) w (Submit z) there) [ inl e ↦ absurd (cc) | inr later ↦ later ]

submitted_reply : (w : Log) (c : Command) (id : CommandId) (x : Answer) → Contains (Submit c ∷ w) (Reply id x)
    → Contains w (Reply id x)
submitted_reply w c id x there =
    elim (contains_cons (Submit c) w (Reply id x) there) [ inl e ↦ absurd (cc) | inr later ↦ later ]

pub replies_submit : (w : Log) (c : Command) → AreOneReply w → AreOneReply (Submit c ∷ w)
replies_submit w c h id x y first second = h id x y (submitted_reply w c id x first) (submitted_reply w c id y second)

pub replies_reply : (w : Log) (id : CommandId) (answer : Answer) → AreOneReply w
    → ((x : Answer) → Contains w (Reply id x) → answer ≡ x) → AreOneReply (Reply id answer ∷ w)
replies_reply w id answer h last z x y first second =
    elim (contains_cons (Reply id answer) w (Reply z x) first) [
      | inl e ↦
          let ids : id ≡ z = cc in
          let answers : answer ≡ x = cc in
          elim (contains_cons (Reply id answer) w (Reply z y) second) [
            | inl f ↦ (let also : answer ≡ y = cc in cc)
            | inr there ↦ sym answers ∙ last y (subst (λ (a : CommandId). Contains w (Reply a y)) (sym ids) there)
          ]
      | inr here ↦
          elim (contains_cons (Reply id answer) w (Reply z y) second) [
            | inl f ↦
                let ids : id ≡ z = cc in
                let answers : answer ≡ y = cc in
                sym (last x (subst (λ (a : CommandId). Contains w (Reply a x)) (sym ids) here)) ∙ answers
            | inr there ↦ h z x y here there
          ]
    ]

-- ---- the acknowledged commands

-- a further reply adds its command to the acknowledged commands, or adds nothing
pub acknowledged_more : (w : Log) (x : CommandId) (answer : Answer)
    → (ids : List CommandId) × (acknowledged (Reply x answer ∷ w) ≡ acknowledged w ++ ids)
acknowledged_more w x answer = by_test (is_failed answer || has_id (acknowledged w) x)
  where
    by_test : (d : Bool) → (ids : List CommandId) × (cond d (acknowledged w) (acknowledged w ++ x ∷ []) ≡ acknowledged w ++ ids)
    by_test true = ([], sym (append-nil (acknowledged w)))
    by_test false = (x ∷ [], refl)

-- ---- the tables of submissions

module _ (w : Log) (rows : BTreeMap ℕ Submission) (h : AreSubmissions w rows) where
  -- a row of the table has the command of its identity
  pub row_found : (id : CommandId) (s : Submission) → id.number < number_count → get nat_cmp rows (identity_key id) ≡ Some s
      → command_of w id ≡ Some s.command
  row_found id s small e = sym (h.found id small) ∙ ap (option_map (λ (s : Submission). s.command)) e

  pub row_missing : (id : CommandId) → id.number < number_count → get nat_cmp rows (identity_key id) ≡ None
      → command_of w id ≡ None
  row_missing id small e = sym (h.found id small) ∙ ap (option_map (λ (s : Submission). s.command)) e

  pub submissions_again : (c d : Command) → command_of w c.id ≡ Some d → AreSubmissions (Submit c ∷ w) rows
  submissions_again c d e = record {
    found = λ id small. h.found id small ∙ sym (same id);
    before = λ id s small there.
        let r = h.before id s small there in
        (r.0, kept_before w c id (ap is_some (row_found id s small there)) ∙ r.1);
  }
    where
      there_is : is_some (command_of w c.id) ≡ true
      there_is = ap is_some e

      same : (id : CommandId) → command_of (Submit c ∷ w) id ≡ command_of w id
      same id = ⊎_elim
          (λ (eq : c.id ≡ id). kept_command w c id (subst (λ (a : CommandId). is_some (command_of w a) ≡ true) eq there_is))
          (λ (ne : c.id ≢ id). other_command w c id ne) (id_cases c.id id)

  pub submissions_new : (c : Command) (new : BTreeMap ℕ Submission) (s : Submission) → c.id.number < number_count
      → command_of w c.id ≡ None → Updates nat_cmp rows new (identity_key c.id) (Some s) → s.command ≡ c
      → s.acknowledged ≡ length (acknowledged w) → AreSubmissions (Submit c ∷ w) new
  submissions_new c new s small none updates command count = record {
    found = λ id less. ⊎_elim
        (λ (eq : c.id ≡ id). subst (λ (a : CommandId). option_map (λ (s : Submission). s.command) (get nat_cmp new (identity_key a))
        ≡ command_of (Submit c ∷ w) a) eq
        (ap (option_map (λ (s : Submission). s.command)) (get_here rows new c.id s updates)
        ∙ ap Some command ∙ sym (new_command w c none)))
        (λ (ne : c.id ≢ id).
        ap (option_map (λ (s : Submission). s.command)) (get_there rows new c.id id s updates small less ne)
        ∙ h.found id less ∙ sym (other_command w c id ne))
        (id_cases c.id id);
    before = λ id t less there. ⊎_elim
        (λ (eq : c.id ≡ id).
        let same : s ≡ t =
        (let both : Some s ≡ Some t =
        sym (get_here rows new c.id s updates) ∙ ap (λ (a : CommandId). get nat_cmp new (identity_key a)) eq ∙ there in cc) in
        let size : t.acknowledged ≡ length (acknowledged w) = ap (λ (u : Submission). u.acknowledged) (sym same) ∙ count in (
          omega (arith, size),
          new_before w c id (ap (command_of w) (sym eq) ∙ none)
              ∙ sym (take_all t.acknowledged (acknowledged w) (omega (arith, size))),
        ))
        (λ (ne : c.id ≢ id).
        let old : get nat_cmp rows (identity_key id) ≡ Some t =
        sym (get_there rows new c.id id s updates small less ne) ∙ there in
        let r = h.before id t less old in
        (r.0, kept_before w c id (ap is_some (row_found id t less old)) ∙ r.1))
        (id_cases c.id id);
  }

  pub submissions_reply : (x : CommandId) (answer : Answer) → AreSubmissions (Reply x answer ∷ w) rows
  submissions_reply x answer = record {
    found = h.found;
    before = λ id s small there.
        let r = h.before id s small there in
        let more = acknowledged_more w x answer in (
          omega (arith, r.0, ap length more.1, length-append (acknowledged w) more.0),
          r.1 ∙ sym (ap (take s.acknowledged) more.1 ∙ take-append-le s.acknowledged (acknowledged w) more.0 r.0),
        );
  }

-- ---- replies and executions

pub table_submit : (w : Log) (c : Command) (replies : Replies) (ids : List CommandId) → AreReplies w replies ids
    → AreReplies (Submit c ∷ w) replies ids
table_submit w c replies ids h = record { first = h.first; order = h.order; small = h.small }

pub executions_submit : (w : Log) (c : Command) (order : List CommandId) (executions : Executions) → IsOrder w order
    → AreExecutions w order executions → AreExecutions (Submit c ∷ w) order executions
executions_submit w c order executions facts h = record {
  all = h.all;
  right = λ id x front back d small there e is.
      let r = h.right id x front back d small there e (kept_at w c order front back id d facts.known e is) in
      (r.0 ∙ sym (kept_out w c order front back id d facts.known e), r.1);
}

pub executions_reply : (w : Log) (x : CommandId) (answer : Answer) (order : List CommandId) (executions : Executions)
    → AreExecutions w order executions → AreExecutions (Reply x answer ∷ w) order executions
executions_reply w x answer order executions h = record { all = h.all; right = h.right }

pub executions_lead : (w : Log) (p : ℕ) (x : CommandId) (c : Command) (order : List CommandId) (executions new : Executions)
    (execution : Execution) → AreExecutions w order executions → x.number < number_count → has_id order x ≡ false
    → command_of w x ≡ Some c → execution.held ≡ out (commands_of w order) c → execution.place ≡ length order
    → Updates nat_cmp executions new (identity_key x) (Some execution) → AreExecutions (Execute p x ∷ w) (order ++ x ∷ []) new
executions_lead w p x c order executions new execution h small absent command held place updates = record {
  all = λ id less. ⊎_elim
      (λ (eq : x ≡ id). subst (λ (a : CommandId). is_some (get nat_cmp new (identity_key a))
      ≡ has_id (order ++ x ∷ []) a) eq
      (ap is_some (get_here executions new x execution updates)
      ∙ sym (place_has (order ++ x ∷ []) x (length order) (end_of order x))))
      (λ (ne : x ≢ id). ap is_some (get_there executions new x id execution updates small less ne) ∙ h.all id less
      ∙ sym (has-append order x id ∙ ap (λ d. d || has_id order id) (other_id x id ne)))
      (id_cases x id);
  right = λ id y front back d less there e is.
      elim (split_end order x front back id e) [
        | inl at ↦
            let found : Some execution ≡ Some y =
            sym (get_here executions new x execution updates)
            ∙ ap (λ (a : CommandId). get nat_cmp new (identity_key a)) (sym at.1) ∙ there in
            let one : execution ≡ y = cc in
            let commands : Some c ≡ Some d = sym command ∙ ap (command_of w) (sym at.1) ∙ is in
            let same : c ≡ d = cc in (
              ap (λ (z : Execution). z.held) (sym one) ∙ held ∙ ap (λ ids. out (commands_of w ids) c) (sym at.0)
                  ∙ ap (out (commands_of w front)) same,
              ap (λ (z : Execution). z.place) (sym one) ∙ place ∙ ap length (sym at.0),
            )
        | inr at ↦
            let ne : x ≢ id = other front at.0 id at.1 in
            h.right id y front at.0 d less (sym (get_there executions new x id execution updates small less ne) ∙ there)
            at.1 is
      ];
}
  where
    other : (front rest : List CommandId) (id : CommandId) → order ≡ front ++ id ∷ rest → x ≢ id
    other front rest id e same =
        let inside : has_id order x ≡ true =
        place_has order x (length front) (ap (λ xs. slice_get xs (length front)) e ∙ at front ∙ ap Some (sym same)) in
        absurd (cc)
      where
        at : (ys : List CommandId) → slice_get (ys ++ id ∷ rest) (length ys) ≡ Some id
        at [] = refl
        at (y ∷ ys) = at ys

-- a further execution leaves the commands that are known to be settled where they are
pub settled_lead : (ids : List CommandId) (executions new : Executions) (count highest : ℕ)
    (x : CommandId) (execution : Execution) → AreSettled ids executions count highest
    → get nat_cmp executions (identity_key x) ≡ None
    → Updates nat_cmp executions new (identity_key x) (Some execution) → AreSettled ids new count highest
settled_lead ids executions new count highest x execution h none updates = record {
  within = h.within;
  each = λ n id less there. let r = h.each n id less there in (r.0, kept (identity_key id) r.0 r.1, r.2);
  some = ⊎_elim (λ (none_is : (count ≡ 0) × (highest ≡ 0)). inl none_is)
      (λ (r : (n : ℕ) × (id : CommandId) × (y : Execution) × (n < count) × (slice_get ids n ≡ Some id)
      × (get nat_cmp executions (identity_key id) ≡ Some y) × (y.place ≡ highest)).
      inr (r.0, r.1, r.2, r.3, r.4, kept (identity_key r.1) r.2 r.5, r.6))
      h.some;
}
  where
    kept : (key : ℕ) (y : Execution) → get nat_cmp executions key ≡ Some y → get nat_cmp new key ≡ Some y
    kept key y e = get_other executions new (identity_key x) key (Some execution) updates (λ same.
        let absent : get nat_cmp executions key ≡ None = ap (get nat_cmp executions) (sym same) ∙ none in absurd (cc)) ∙ e

-- ---- broken promises

some_none : (o : Option Command) → o ≡ None → IsSome o → ⊥
some_none None e h = cc
some_none (Some c) e h = cc

pub not_submitted : (w : Log) (p : ℕ) (id : CommandId) → command_of w id ≡ None → WereSubmitted (Execute p id ∷ w) → ⊥
not_submitted w p id none h = let there : IsSome (command_of w id) = h.0 in absurd (some_none (command_of w id) none there)

pub not_submitted_reply : (w : Log) (id : CommandId) (answer : Answer) → command_of w id ≡ None
    → WereSubmitted (Reply id answer ∷ w) → ⊥
not_submitted_reply w id answer none h = let there : IsSome (command_of w id) = h.0 in absurd (some_none (command_of w id) none there)
