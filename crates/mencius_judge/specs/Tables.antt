-- How the data of a judge matches the log that it has seen. `Sources` has the numbers of the lines.
use Rattle.std.specs.Prelude.{◌≡◌, ◌≢◌, ◌⊎◌, ℕ, ◌+◌, ◌*◌, ◌^◌, ◌<◌, ◌≤◌, Bool, true, not, Contains, IsSome, List, [], ◌∷◌, ◌++◌, Option, Some, None, is_some, length, map, option_map, slice_get, take, unwrap_or}
use Rattle.std.specs.Ordering.{nat_cmp}
use Rattle.std.specs.BTreeMap.{BTreeMap, get}
use Rattle.mencius_base.specs.Numbers.{ServerId}
use Rattle.mencius_base.specs.declared.command.Command.{Command}
use Rattle.mencius_base.specs.declared.command.CommandId.{CommandId}
use Rattle.mencius_base.specs.declared.command.Op.{Op}
use Rattle.mencius_judge.specs.Rows.{count_of, row_count, server_place}
use Rattle.mencius_judge.specs.declared.histories.Row.{Row}
use Rattle.mencius_judge.specs.declared.histories.Next.{Next}
use Rattle.mencius_judge.specs.declared.histories.Next.TheVariants.{Follows, Differs, Leads}
use Rattle.mencius_judge.specs.declared.judge.Execution.{Execution}
use Rattle.mencius_judge.specs.declared.judge.FirstReply.{FirstReply}
use Rattle.mencius_judge.specs.declared.judge.Submission.{Submission}
use Rattle.mencius_log.specs.declared.observation.Answer.{Answer}
use Rattle.mencius_log.specs.declared.observation.Observation.TheVariants.{Reply}
use Rattle.mencius_judge.specs.declared.places.Places.{Places}
use Rattle.mencius_model.specs.KeyMap.{out}
use Rattle.mencius_judge.specs.Answers.{IsRight}
use Rattle.mencius_judge.specs.Counts.{lengths_of}
use Rattle.mencius_judge.specs.Log.{Log, MaySee, acknowledged, acknowledged_before, command_of, commands_of, has_id, history, reply_of, servers_of}

-- the number of different command numbers of a client
abbrev pub number_count : ℕ
number_count = 2 ^ 32

-- the identity as a single number
abbrev pub identity_key : CommandId → ℕ
identity_key id = id.client * number_count + id.number

-- how a command compares with the order if a server executes it at this place. It is the command there, it differs from
-- the command there, or the order ends before the place
abbrev pub IsNext : List CommandId → ℕ → CommandId → Next → Type 0
IsNext order place id Follows = slice_get order place ≡ Some id
IsNext order place id (Differs expected) = (slice_get order place ≡ Some expected) × (expected ≢ id)
IsNext order place id Leads = length order ≤ place

-- the order is the longest history, and each row says how many of its commands its server has. The rows are in the order
-- in which the servers got a history
pub record AreHistories (w : Log) (order : List CommandId) (places : Places) (rows : List Row) : Type 0 where
  pub each : (p : ServerId) → history w p ≡ take (count_of places rows p) order
  pub within : (p : ServerId) → count_of places rows p ≤ length order
  pub some : (q : ServerId) × (order ≡ history w q)
  pub lengths : map row_count rows ≡ lengths_of w
  pub there : (p : ServerId) (n : ℕ) → server_place places p ≡ Some n → slice_get (servers_of w) n ≡ Some p
  pub known : (p : ServerId) → history w p ≢ [] → IsSome (server_place places p)

-- the facts about the longest history that every prefix of it shares
pub record IsOrder (w : Log) (order : List CommandId) : Type 0 where
  -- each command was submitted
  pub known : (n : ℕ) (id : CommandId) → slice_get order n ≡ Some id → is_some (command_of w id) ≡ true
  -- each command is at one place only
  pub once : (n m : ℕ) (id : CommandId) → slice_get order n ≡ Some id → slice_get order m ≡ Some id → n ≡ m
  -- each command comes after the commands that were acknowledged when it was first submitted
  pub behind : (front back : List CommandId) (id x : CommandId) → order ≡ front ++ id ∷ back
      → has_id (acknowledged_before w id) x ≡ true → has_id front x ≡ true
  -- each reply to a command is right for the text that a map holds at its key after it has executed the commands before
  pub right : (front back : List CommandId) (id : CommandId) (c : Command) (x : Answer)
      → order ≡ front ++ id ∷ back → command_of w id ≡ Some c → Contains w (Reply id x)
      → IsRight c.op (out (commands_of w front) c) x

-- the rows have the submitted commands by identity, each with the number of commands that were acknowledged when it
-- was first submitted
pub record AreSubmissions (w : Log) (rows : BTreeMap ℕ Submission) : Type 0 where
  pub found : (id : CommandId) → id.number < number_count
      → option_map (λ (s : Submission). s.command) (get nat_cmp rows (identity_key id)) ≡ command_of w id
  pub before : (id : CommandId) (s : Submission) → id.number < number_count → get nat_cmp rows (identity_key id) ≡ Some s
      → (s.acknowledged ≤ length (acknowledged w)) × (acknowledged_before w id ≡ take s.acknowledged (acknowledged w))

-- first replies by the numbers of their identities
abbrev pub Replies : Type 0
Replies = BTreeMap ℕ FirstReply

-- executions by the numbers of their identities
abbrev pub Executions : Type 0
Executions = BTreeMap ℕ Execution

-- the map has the first replies by identity, and the list has the acknowledged commands, in the order of their first
-- acknowledgements
pub record AreReplies (w : Log) (replies : Replies) (ids : List CommandId) : Type 0 where
  pub first : (id : CommandId) → id.number < number_count
      → option_map (λ (r : FirstReply). r.answer) (get nat_cmp replies (identity_key id)) ≡ reply_of w id
  pub order : ids ≡ acknowledged w
  pub small : (n : ℕ) (id : CommandId) → slice_get (acknowledged w) n ≡ Some id → id.number < number_count

-- the map has the commands of the longest history by identity, each with its place and the text that a map holds
-- at its key there
pub record AreExecutions (w : Log) (order : List CommandId) (executions : Executions) : Type 0 where
  pub all : (id : CommandId) → id.number < number_count
      → is_some (get nat_cmp executions (identity_key id)) ≡ has_id order id
  pub right : (id : CommandId) (x : Execution) (front back : List CommandId) (c : Command)
      → id.number < number_count → get nat_cmp executions (identity_key id) ≡ Some x → order ≡ front ++ id ∷ back
      → command_of w id ≡ Some c → (x.held ≡ out (commands_of w front) c) × (x.place ≡ length front)

-- the first `count` acknowledged commands are in the longest history, and `highest` is the highest of their places, or 0
-- if there are none
pub record AreSettled (ids : List CommandId) (executions : Executions) (count highest : ℕ) : Type 0 where
  pub within : count ≤ length ids
  pub each : (n : ℕ) (id : CommandId) → n < count → slice_get ids n ≡ Some id
      → (x : Execution) × (get nat_cmp executions (identity_key id) ≡ Some x) × (x.place ≤ highest)
  pub some : ((count ≡ 0) × (highest ≡ 0))
      ⊎ ((n : ℕ) × (id : CommandId) × (x : Execution) × (n < count) × (slice_get ids n ≡ Some id)
      × (get nat_cmp executions (identity_key id) ≡ Some x) × (x.place ≡ highest))

-- the acknowledged command at this place of the list is at this place of the longest history
abbrev pub IsPlaceOf : List CommandId → Executions → ℕ → ℕ → Type 0
IsPlaceOf ids executions n place =
    (id : CommandId) × (x : Execution) × (slice_get ids n ≡ Some id)
    × (get nat_cmp executions (identity_key id) ≡ Some x) × (x.place ≡ place)

-- the acknowledged command at this place of the list is not in the longest history, or there is none at this place
abbrev pub IsNotSettledAt : List CommandId → Executions → ℕ → Type 0
IsNotSettledAt ids executions n =
    (id : CommandId) → slice_get ids n ≡ Some id → get nat_cmp executions (identity_key id) ≡ None

-- the command is not in the longest history
abbrev pub has_no_place : Executions → CommandId → Bool
has_no_place executions id = not (is_some (get nat_cmp executions (identity_key id)))

-- if the map has a reply at this number, it is this answer
abbrev pub IsNoOther : Replies → ℕ → Answer → Type 0
IsNoOther replies key answer = (known : FirstReply) → get nat_cmp replies key ≡ Some known → known.answer ≡ answer

-- if the map has a reply at this number, it is right for an operation whose key holds this text
abbrev pub IsNoWrong : Replies → ℕ → Op → Option (List ℕ) → Type 0
IsNoWrong replies key op held =
    (known : FirstReply) → get nat_cmp replies key ≡ Some known → IsRight op held known.answer

-- if the map has an execution at this number, the answer is right for it
abbrev pub IsNoWrongExecution : Executions → ℕ → Op → Answer → Type 0
IsNoWrongExecution executions key op answer =
    (known : Execution) → get nat_cmp executions key ≡ Some known → IsRight op known.held answer

-- the floor of a reader, which is 0 if the map has none
abbrev pub floor_of : BTreeMap ℕ ℕ → ℕ → ℕ
floor_of floors r = unwrap_or (get nat_cmp floors r) 0

-- the floor of each reader is the lowest number of commands that it may have seen
pub record AreFloors (w : Log) (floors : BTreeMap ℕ ℕ) : Type 0 where
  pub seen : (r : ℕ) → MaySee w r (floor_of floors r)
  pub least : (r n : ℕ) → MaySee w r n → floor_of floors r ≤ n
