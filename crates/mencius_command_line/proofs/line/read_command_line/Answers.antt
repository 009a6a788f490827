use Rattle.std.proofs.Common.{List, ◌≡◌, ◌∙◌, [], ap, map, rules, string_bytes, subst, sym, true}
use Rattle.std.proofs.lemmas.Bool.{and_parts}
use Rattle.std.proofs.lemmas.Result.{IfOk-weaker}
use Rattle.clap.specs.Kinds.{FailsBy, HasKind, or_else}
use Rattle.clap.specs.Words.{Kinds, Text, app_of, fault_of, is_simple, is_simple_and_free, subcommand_of, subcommand_rows_of}
use Rattle.mencius_command_line.specs.CommandLine.{TaskState, task_by_name, task_state, value_faults, program, words_read}
use Rattle.mencius_command_line.proofs.CommandLines.{err_first, err_of, kinds_next, program_simple}
use Rattle.mencius_command_line.proofs.line.read_command_line.Goals as goal

-- the task that words request after they were joined
abbrev asked_there : List Text → TaskState
asked_there words = task_by_name (subcommand_of program words)

plain_program : is_simple program ≡ true
plain_program = (and_parts (is_simple program) _ program_simple).0

pub returns-in_err-matches-clause-faults : goal.returns-in_err-matches-clause-faults
returns-in_err-matches-clause-faults c =
    let words = map string_bytes c.as_slice.result.now in
    let joined : words ≡ words_read (map string_bytes c.args.words.now) = search rules in
    let simple : is_simple_and_free (app_of c.in_ok-command.command) ≡ true = ap is_simple_and_free
    c.in_ok-command.ensures ∙ program_simple in
    let same : fault_of (app_of c.in_ok-command.command) words ≡ fault_of program words = ap
    (λ a. fault_of a words) c.in_ok-command.ensures in
    subst (λ ws. FailsBy (or_else (fault_of program ws) (value_faults (asked_there ws)))
    c.from_residual-in_err-matches.result) joined
    (err_first (fault_of program words) (value_faults (asked_there words)) _ c.in_err-matches.field-0.0
    c.from_residual-in_err-matches.ensures.1
    (subst (λ ks. HasKind ks c.in_err-matches.field-0.0) same (c.in_err-matches.ensures.kinds simple)))

pub returns-in_err-task-clause-faults : goal.returns-in_err-task-clause-faults
returns-in_err-task-clause-faults c =
    let words = map string_bytes c.as_slice.result.now in
    let joined : words ≡ words_read (map string_bytes c.args.words.now) = search rules in
    let simple : is_simple_and_free (app_of c.in_ok-command.command) ≡ true = ap is_simple_and_free
    c.in_ok-command.ensures ∙ program_simple in
    let none : fault_of program words ≡ [] = ap (λ a. fault_of a words) (sym c.in_ok-command.ensures)
    ∙ c.in_ok-matches.ensures.kinds simple in
    let found : subcommand_rows_of c.in_ok-matches.matches ≡ subcommand_of program words =
    (c.in_ok-matches.ensures.ok.2 (ap is_simple c.in_ok-command.ensures ∙ plain_program)).1
    ∙ ap (λ a. subcommand_of a words) c.in_ok-command.ensures in
    let there : task_by_name (subcommand_rows_of c.in_ok-matches.matches) ≡ asked_there words = ap task_by_name found in
    subst (λ ws. FailsBy (or_else (fault_of program ws) (value_faults (asked_there ws)))
    c.from_residual-in_err-task.result) joined
    (rw (kinds_next (fault_of program words) (value_faults (asked_there words)) none)
    (err_of (value_faults (asked_there words)) _ c.in_err-task.field-0.0 c.from_residual-in_err-task.ensures.1
    (subst (λ (a : TaskState). HasKind (value_faults a) c.in_err-task.field-0.0) there c.in_err-task.ensures.faults)))

pub returns-clause-faults : goal.returns-clause-faults
returns-clause-faults c =
    let words = map string_bytes c.as_slice.result.now in
    let joined : words ≡ words_read (map string_bytes c.args.words.now) = search rules in
    let simple : is_simple_and_free (app_of c.in_ok-command.command) ≡ true = ap is_simple_and_free
    c.in_ok-command.ensures ∙ program_simple in
    let none : fault_of program words ≡ [] = ap (λ a. fault_of a words) (sym c.in_ok-command.ensures)
    ∙ c.in_ok-matches.ensures.kinds simple in
    let found : subcommand_rows_of c.in_ok-matches.matches ≡ subcommand_of program words =
    (c.in_ok-matches.ensures.ok.2 (ap is_simple c.in_ok-command.ensures ∙ plain_program)).1
    ∙ ap (λ a. subcommand_of a words) c.in_ok-command.ensures in
    let said : task_state c.in_ok-task.task ≡ asked_there words = c.in_ok-task.ensures.task ∙ ap task_by_name found in
    subst (λ ws. FailsBy (or_else (fault_of program ws) (value_faults (asked_there ws))) c.with_good_key.result) joined
    (subst (λ (ks : Kinds). FailsBy ks c.with_good_key.result) (ap value_faults said
    ∙ sym (kinds_next (fault_of program words) (value_faults (asked_there words)) none)) c.with_good_key.ensures.faults)

pub returns-clause-task : goal.returns-clause-task
returns-clause-task c =
    let words = map string_bytes c.as_slice.result.now in
    let joined : words ≡ words_read (map string_bytes c.args.words.now) = search rules in
    let found : subcommand_rows_of c.in_ok-matches.matches ≡ subcommand_of program words =
    (c.in_ok-matches.ensures.ok.2 (ap is_simple c.in_ok-command.ensures ∙ plain_program)).1
    ∙ ap (λ a. subcommand_of a words) c.in_ok-command.ensures in
    let said : task_state c.in_ok-task.task ≡ asked_there words = c.in_ok-task.ensures.task ∙ ap task_by_name found in
    IfOk-weaker c.with_good_key.result _ _ (λ task h. h ∙ said ∙ ap asked_there joined) c.with_good_key.ensures.task
