-- Which of a judge's data stays right after an observation that says nothing about it.
use Rattle.std.proofs.Common.{inl, inr, ℕ, List, ◌∷◌}
use Rattle.std.specs.List.{Contains}
use Rattle.std.specs.BTreeMap.{BTreeMap}
use Rattle.mencius_base.specs.declared.command.Command.{Command}
use Rattle.mencius_base.specs.declared.command.CommandId.{CommandId}
use Rattle.mencius_judge.specs.declared.histories.Row.{Row}
use Rattle.mencius_judge.specs.declared.judge.Submission.{Submission}
use Rattle.mencius_log.specs.declared.observation.Answer.{Answer}
use Rattle.mencius_log.specs.declared.observation.Observation.{Observation}
use Rattle.mencius_log.specs.declared.observation.Observation.TheVariants.{Submit, Execute, Reply, Lookup, Tell, Settle, Restore}
use Rattle.mencius_judge.specs.declared.places.Places.{Places}
use Rattle.mencius_judge.specs.Log.{Log}
use Rattle.mencius_judge.specs.Promises.{AreOneCommand, AreOneReply}
use Rattle.mencius_judge.specs.Tables.{AreExecutions, AreFloors, AreHistories, AreReplies, AreSubmissions, Executions, IsOrder, Replies}
use Rattle.mencius_judge.proofs.promises.Logs.{contains_cons}

-- ---- kinds of observations

-- the observation is no submission and no reply
abbrev pub IsQuiet : Observation → Type 0
IsQuiet (Submit command) = ⊥
IsQuiet (Execute server id) = Unit {0}
IsQuiet (Reply id answer) = ⊥
IsQuiet (Lookup reader key text) = Unit {0}
IsQuiet (Tell reader server) = Unit {0}
IsQuiet (Settle server) = Unit {0}
IsQuiet (Restore server source count) = Unit {0}

-- the observation gives no server a command
abbrev pub GivesNothing : Observation → Type 0
GivesNothing (Submit command) = Unit {0}
GivesNothing (Execute server id) = ⊥
GivesNothing (Reply id answer) = Unit {0}
GivesNothing (Lookup reader key text) = Unit {0}
GivesNothing (Tell reader server) = Unit {0}
GivesNothing (Settle server) = Unit {0}
GivesNothing (Restore server source count) = ⊥

-- the observation says nothing of a reader
abbrev pub ReadsNothing : Observation → Type 0
ReadsNothing (Submit command) = Unit {0}
ReadsNothing (Execute server id) = Unit {0}
ReadsNothing (Reply id answer) = Unit {0}
ReadsNothing (Lookup reader key text) = ⊥
ReadsNothing (Tell reader server) = ⊥
ReadsNothing (Settle server) = Unit {0}
ReadsNothing (Restore server source count) = Unit {0}

-- ---- submissions and replies

-- each submission and each reply was there before the quiet observation
pub quiet_command : (w : Log) (o : Observation) → IsQuiet o → (c : Command) → Contains (o ∷ w) (Submit c)
    → Contains w (Submit c)
quiet_command w (Submit x) quiet c there = absurd quiet
quiet_command w (Reply x answer) quiet c there = absurd quiet
quiet_command w o quiet c there =
    elim (contains_cons o w (Submit c) there) [ inl e ↦ absurd (cc) | inr later ↦ later ]

pub quiet_reply : (w : Log) (o : Observation) → IsQuiet o → (id : CommandId) (x : Answer) → Contains (o ∷ w) (Reply id x)
    → Contains w (Reply id x)
quiet_reply w (Submit c) quiet id x there = absurd quiet
quiet_reply w (Reply y answer) quiet id x there = absurd quiet
quiet_reply w o quiet id x there =
    elim (contains_cons o w (Reply id x) there) [ inl e ↦ absurd (cc) | inr later ↦ later ]

pub one_quiet : (w : Log) (o : Observation) → IsQuiet o → AreOneCommand w → AreOneCommand (o ∷ w)
one_quiet w o quiet h c d first second = h c d (quiet_command w o quiet c first) (quiet_command w o quiet d second)

pub replies_quiet : (w : Log) (o : Observation) → IsQuiet o → AreOneReply w → AreOneReply (o ∷ w)
replies_quiet w o quiet h id x y first second = h id x y (quiet_reply w o quiet id x first) (quiet_reply w o quiet id y second)

pub submissions_quiet : (w : Log) (o : Observation) → IsQuiet o → (rows : BTreeMap ℕ Submission) → AreSubmissions w rows
    → AreSubmissions (o ∷ w) rows
submissions_quiet w (Submit c) quiet rows h = absurd quiet
submissions_quiet w (Reply x answer) quiet rows h = absurd quiet
submissions_quiet w o quiet rows h = record { found = h.found; before = h.before }

pub order_quiet : (w : Log) (o : Observation) → IsQuiet o → (order : List CommandId) → IsOrder w order
    → IsOrder (o ∷ w) order
order_quiet w (Submit c) quiet order h = absurd quiet
order_quiet w (Reply x answer) quiet order h = absurd quiet
order_quiet w o quiet order h = record {
  known = h.known;
  once = h.once;
  behind = h.behind;
  right = λ front back id c x e is there. h.right front back id c x e is (quiet_reply w o quiet id x there);
}

pub table_quiet : (w : Log) (o : Observation) → IsQuiet o → (replies : Replies) (ids : List CommandId)
    → AreReplies w replies ids → AreReplies (o ∷ w) replies ids
table_quiet w (Submit c) quiet replies ids h = absurd quiet
table_quiet w (Reply x answer) quiet replies ids h = absurd quiet
table_quiet w o quiet replies ids h = record { first = h.first; order = h.order; small = h.small }

pub executions_quiet : (w : Log) (o : Observation) → IsQuiet o → (order : List CommandId) (executions : Executions)
    → AreExecutions w order executions → AreExecutions (o ∷ w) order executions
executions_quiet w (Submit c) quiet order executions h = absurd quiet
executions_quiet w (Reply x answer) quiet order executions h = absurd quiet
executions_quiet w o quiet order executions h = record { all = h.all; right = h.right }

-- ---- histories and floors

pub histories_same : (w : Log) (o : Observation) → GivesNothing o
    → (order : List CommandId) (places : Places) (rows : List Row) → AreHistories w order places rows
    → AreHistories (o ∷ w) order places rows
histories_same w (Execute p x) nothing order places rows h = absurd nothing
histories_same w (Restore p q n) nothing order places rows h = absurd nothing
histories_same w o nothing order places rows h = record {
  each = h.each;
  within = h.within;
  some = h.some;
  lengths = h.lengths;
  there = h.there;
  known = h.known;
}

pub floors_same : (w : Log) (o : Observation) → ReadsNothing o → (floors : BTreeMap ℕ ℕ) → AreFloors w floors
    → AreFloors (o ∷ w) floors
floors_same w (Lookup r key text) nothing floors h = absurd nothing
floors_same w (Tell r p) nothing floors h = absurd nothing
floors_same w o nothing floors h = record { seen = h.seen; least = h.least }
