-- The text of a run, and the input that it belongs to.
use Rattle.std.specs.Prelude.{◌≡◌, ℕ, Bool, true, if◌then◌else◌, Ok, List, [], ◌∷◌, ◌++◌, codes, Option, Some, None, option_and_then}
use Rattle.mencius_model.specs.KeyMap.{value_at}
use Rattle.mencius_model.specs.Next.{replay}
use Rattle.mencius_model.specs.Replies.{longest_commands}
use Rattle.mencius_cluster.specs.State.{ClusterState, trace_of}
use Rattle.mencius_input.specs.Plan.{plan}
use Rattle.mencius_input.specs.Scenario.{scenario}
use Rattle.mencius_app.specs.Input.{HasFault, Says, unless_long}
use Rattle.mencius_app.specs.Plan.{IsOutcome}
use Rattle.mencius_app.specs.Replay.{replay_text}
use Rattle.mencius_app.specs.Report.{report_text}
use Rattle.mencius_app.specs.Tasks.{Task}
use Rattle.mencius_judge.specs.Observed.{log_of}
use Rattle.mencius_judge.specs.Written.{log_text}
use Rattle.mencius_observer.specs.Journal.{journal_text, journal_written}
use Rattle.mencius_trace.specs.Words.{former_text}
use Rattle.mencius_input.specs.declared.scenario.Scenario.{Scenario}
use Rattle.mencius_base.specs.Plan.{PlanState}

-- ---- the text

-- the journal as one line, or no text if the journal is not requested
abbrev pub journal_line : Bool → ClusterState → List ℕ
journal_line is_asked x = if is_asked then journal_text x.members x.journal ++ codes "\n" else []

-- the text that the commands of the longest history leave at a key, if any
abbrev pub text_at : ClusterState → List ℕ → Option (List ℕ)
text_at x key = value_at key (longest_commands x.members (trace_of x))

-- the text that the longest history leaves at the key, if there is a key and it leaves one
abbrev pub found_text : Option (List ℕ) → ClusterState → Option (List ℕ)
found_text key x = option_and_then (text_at x) key

-- the line of a lookup, with its key and the text that was found there, if any, or no text without a key
abbrev pub lookup_line : Option (List ℕ) → Option (List ℕ) → List ℕ
lookup_line None found = []
lookup_line (Some key) found = codes "lookup " ++ (key ++ 32 ∷ (former_text found ++ codes "\n"))

-- the log of the observations in the trace if it is requested, and otherwise the report
abbrev pub body_text : Bool → ClusterState → List ℕ
body_text with_observations x =
    if with_observations then log_text (log_of (trace_of x)) else report_text x.members (trace_of x)

-- the text of a run, with the line of the journal, then the log or the report, and then the line of the lookup
abbrev pub run_text : Bool → Bool → Option (List ℕ) → ClusterState → List ℕ
run_text with_journal with_observations key x =
    journal_line with_journal x ++ (body_text with_observations x ++ lookup_line key (found_text key x))

-- ---- the whole

-- the text of the journal is a scenario of `replay` with the same members and the events of the journal. The text of
-- its replay is the report, without a line for a refused event
pub record ReadsBack (x : ClusterState) : Type 0 where
  pub again : unless_long scenario (journal_text x.members x.journal) ≡ Ok (journal_written x.members x.journal)
  pub rest : replay_text x.members x.journal ≡ report_text x.members (trace_of x)

-- the text belongs to a run of a scenario. If the reader's bytes are known, they are this scenario. The text describes
-- a cluster after all turns of the plan. The journal of this cluster replays, and the line of the journal, if
-- requested, reads back as the journal
pub record IsRunOf (known : Option (List ℕ)) (with_journal with_observations : Bool) (key : Option (List ℕ))
    (text : List ℕ) : Type 0 where
  pub written : Scenario PlanState
  pub says : Says (unless_long plan) known written
  pub cluster : ClusterState
  pub outcome : IsOutcome written cluster
  pub replays : replay cluster.members cluster.journal ≡ Ok (trace_of cluster)
  pub run : text ≡ run_text with_journal with_observations key cluster
  pub reads_back : with_journal ≡ true → ReadsBack cluster

-- the task of a run with these options, whose text is always clean
abbrev pub run_task : Bool → Bool → Option (List ℕ) → Task
run_task with_journal with_observations key = record {
  IsText = λ known text is_clean. IsRunOf known with_journal with_observations key text × (is_clean ≡ true);
  IsBadInput = HasFault (unless_long plan);
}
