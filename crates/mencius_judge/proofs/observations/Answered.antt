-- A judge is right about a reply.
use Rattle.std.proofs.Common.{◌≡◌, ℕ, ◌<◌, true, false, List, ◌∷◌, ◌++◌, Option, Some, None, is_some, option_map, refl, sym, subst, ap, ◌∙◌}
use Rattle.std.specs.List.{Contains}
use Rattle.std.specs.Ordering.{nat_cmp}
use Rattle.std.specs.BTreeMap.{BTreeMap, get}
use Rattle.mencius_base.specs.declared.command.Command.{Command}
use Rattle.mencius_base.specs.declared.command.CommandId.{CommandId}
use Rattle.mencius_base.specs.declared.command.Op.{Op}
use Rattle.mencius_model.specs.KeyMap.{out}
use Rattle.mencius_judge.specs.declared.judge.Execution.{Execution}
use Rattle.mencius_judge.specs.declared.judge.FirstReply.{FirstReply}
use Rattle.mencius_judge.specs.declared.judge.Submission.{Submission}
use Rattle.mencius_log.specs.declared.observation.Answer.{Answer}
use Rattle.mencius_log.specs.declared.observation.Observation.TheVariants.{Reply}
use Rattle.mencius_judge.specs.Answers.{IsRight}
use Rattle.mencius_judge.specs.Log.{Log, command_of, commands_of, has_id, reply_of}
use Rattle.mencius_judge.specs.Promises.{AreOneReply}
use Rattle.mencius_judge.specs.Tables.{AreExecutions, AreReplies, AreSubmissions, Executions, IsNoWrong, IsNoWrongExecution, Replies, identity_key, number_count}
use Rattle.mencius_judge.proofs.promises.Identities.{place_has}
use Rattle.mencius_judge.proofs.promises.Logs.{reply_found, reply_missing}
use Rattle.mencius_judge.proofs.observations.OrderSteps.{item_here}

pub row_there : (w : Log) (rows : BTreeMap ℕ Submission) (id : CommandId) → AreSubmissions w rows
    → id.number < number_count → is_some (get nat_cmp rows (identity_key id)) ≡ true → is_some (command_of w id) ≡ true
row_there w rows id h small there =
    ap is_some (sym (h.found id small)) ∙ mapped (get nat_cmp rows (identity_key id)) ∙ there
  where
    mapped : (o : Option Submission) → is_some (option_map (λ (s : Submission). s.command) o) ≡ is_some o
    mapped None = refl
    mapped (Some s) = refl

pub row_absent : (w : Log) (rows : BTreeMap ℕ Submission) (id : CommandId) → AreSubmissions w rows
    → id.number < number_count → is_some (get nat_cmp rows (identity_key id)) ≡ false → command_of w id ≡ None
row_absent w rows id h small there = sym (h.found id small) ∙ mapped (get nat_cmp rows (identity_key id)) there
  where
    mapped : (o : Option Submission) → is_some o ≡ false → option_map (λ (s : Submission). s.command) o ≡ None
    mapped None e = refl
    mapped (Some s) e = absurd (cc)

-- if the reply in the table, if there is one, is right, each reply in the log is
pub no_wrong : (w : Log) (id : CommandId) (replies : Replies) (ids : List CommandId) (op : Op) (held : Option (List ℕ))
    → AreOneReply w → AreReplies w replies ids → id.number < number_count → IsNoWrong replies (identity_key id) op held
    → (x : Answer) → Contains w (Reply id x) → IsRight op held x
no_wrong w id replies ids op held one table small none x there = by_known (get nat_cmp replies (identity_key id)) refl
  where
    by_known : (o : Option FirstReply) → get nat_cmp replies (identity_key id) ≡ o → IsRight op held x
    by_known None e =
        let nothing : reply_of w id ≡ None = sym (table.first id small) ∙ ap (option_map (λ (r : FirstReply). r.answer)) e in
        let something : is_some (reply_of w id) ≡ true = reply_missing w id x there in
        absurd (cc)
    by_known (Some known) e =
        let first : reply_of w id ≡ Some known.answer =
        sym (table.first id small) ∙ ap (option_map (λ (r : FirstReply). r.answer)) e in
        subst (IsRight op held) (one id known.answer x (reply_found w id known.answer first) there) (none known e)

-- if the answer is right for the execution in the table, if there is one, it is right at the command's place in the longest
-- history
pub no_wrong_execution : (w : Log) (order : List CommandId) (executions : Executions) (id : CommandId) (d : Command)
    (answer : Answer) → AreExecutions w order executions → id.number < number_count → command_of w id ≡ Some d
    → IsNoWrongExecution executions (identity_key id) d.op answer
    → (front back : List CommandId) (c : Command) → order ≡ front ++ id ∷ back → command_of w id ≡ Some c
    → IsRight c.op (out (commands_of w front) c) answer
no_wrong_execution w order executions id d answer h small command none front back c e is =
    by_execution (get nat_cmp executions (identity_key id)) refl
  where
    inside : has_id order id ≡ true
    inside = ap (λ ids. has_id ids id) e ∙ place_has (front ++ id ∷ back) id _ (item_here front back id)

    same : d ≡ c
    same = let both : Some d ≡ Some c = sym command ∙ is in cc

    by_execution : (o : Option Execution) → get nat_cmp executions (identity_key id) ≡ o
        → IsRight c.op (out (commands_of w front) c) answer
    by_execution None was =
        let missing : false ≡ true = sym (ap is_some was) ∙ h.all id small ∙ inside in absurd (cc)
    by_execution (Some x) was =
        subst (λ held. IsRight c.op held answer) (h.right id x front back c small was e is).0
        (subst (λ (y : Command). IsRight y.op x.held answer) same (none x was))
