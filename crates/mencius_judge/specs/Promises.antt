-- The promises of a store, as questions about its log.
use Rattle.std.specs.Prelude.{◌≡◌, ◌≢◌, ◌≤◌, ℕ, length, List, [], ◌∷◌, ◌++◌, Some, IsTrue, IsSome, Contains, slice_get, ⊤}
use Rattle.mencius_base.specs.Numbers.{ServerId}
use Rattle.mencius_base.specs.declared.command.Command.{Command}
use Rattle.mencius_base.specs.declared.command.CommandId.{CommandId}
use Rattle.mencius_model.specs.Executed.{IsComparable}
use Rattle.mencius_model.specs.KeyMap.{out}
use Rattle.mencius_log.specs.declared.observation.Answer.{Answer}
use Rattle.mencius_log.specs.declared.observation.Observation.TheVariants.{Submit, Execute, Reply, Lookup, Tell, Settle, Restore}
use Rattle.mencius_judge.specs.declared.violation.Promise.{Promise}
use Rattle.mencius_judge.specs.declared.violation.Promise.TheVariants as promise
use Rattle.mencius_judge.specs.Answers.{IsRight}
use Rattle.mencius_judge.specs.Log.{Log, MaySee, acknowledged, acknowledged_before, command_of, commands_of, has_id, history}

-- two submitted commands with the same identity are the same command
abbrev pub AreOneCommand : Log → Type 0
AreOneCommand w =
    (c d : Command) → Contains w (Submit c) → Contains w (Submit d) → c.id ≡ d.id → c ≡ d

-- each command that is executed or gets a reply was submitted before
abbrev pub WereSubmitted : Log → Type 0
WereSubmitted [] = ⊤
WereSubmitted (Execute server id ∷ w) = IsSome (command_of w id) × WereSubmitted w
WereSubmitted (Reply id answer ∷ w) = IsSome (command_of w id) × WereSubmitted w
WereSubmitted (Submit command ∷ w) = WereSubmitted w
WereSubmitted (Lookup reader key text ∷ w) = WereSubmitted w
WereSubmitted (Tell reader server ∷ w) = WereSubmitted w
WereSubmitted (Settle server ∷ w) = WereSubmitted w
WereSubmitted (Restore server source count ∷ w) = WereSubmitted w

-- no command is at two places of one history
abbrev pub StandOnce : Log → Type 0
StandOnce w =
    (p : ServerId) (n m : ℕ) (id : CommandId)
    → slice_get (history w p) n ≡ Some id → slice_get (history w p) m ≡ Some id → n ≡ m

-- one of the histories of any two servers is a prefix of the other
abbrev pub AreComparable : Log → Type 0
AreComparable w = (p q : ServerId) → IsComparable (history w p) (history w q)

-- if a command is in a history, all commands that were acknowledged when it was first submitted come before it
abbrev pub StandBehindReplies : Log → Type 0
StandBehindReplies w =
    (p : ServerId) (front back : List CommandId) (id x : CommandId) → history w p ≡ front ++ id ∷ back
    → IsTrue (has_id (acknowledged_before w id) x) → IsTrue (has_id front x)

-- all replies to a command are the same, as they are written
abbrev pub AreOneReply : Log → Type 0
AreOneReply w =
    (id : CommandId) (x y : Answer) → Contains w (Reply id x) → Contains w (Reply id y) → x ≡ y

-- if a command is in a history, each reply to it is right for the text that a map holds at its key after it has
-- executed the commands before
abbrev pub AreRightReplies : Log → Type 0
AreRightReplies w =
    (p : ServerId) (front back : List CommandId) (id : CommandId) (c : Command) (x : Answer)
    → history w p ≡ front ++ id ∷ back → command_of w id ≡ Some c → Contains w (Reply id x)
    → IsRight c.op (out (commands_of w front) c) x

-- each reader may have seen some number of commands. So each of its lookups finds the text that the key holds after a
-- prefix of a history. No such prefix is shorter than an earlier one, or than a history that the reader was told of
-- before
abbrev pub AreRightLookups : Log → Type 0
AreRightLookups w = (r : ℕ) → (n : ℕ) × MaySee w r n

-- a server that is said to be settled has all commands that were acknowledged before
abbrev pub WereSettled : Log → Type 0
WereSettled [] = ⊤
WereSettled (Settle server ∷ w) =
    ((id : CommandId) → IsTrue (has_id (acknowledged w) id) → IsTrue (has_id (history w server) id)) × WereSettled w
WereSettled (Submit command ∷ w) = WereSettled w
WereSettled (Execute server id ∷ w) = WereSettled w
WereSettled (Reply id answer ∷ w) = WereSettled w
WereSettled (Lookup reader key text ∷ w) = WereSettled w
WereSettled (Tell reader server ∷ w) = WereSettled w
WereSettled (Restore server source count ∷ w) = WereSettled w

-- a server that takes over the first commands of another server has no history, and the other has that many commands
abbrev pub WereRestored : Log → Type 0
WereRestored [] = ⊤
WereRestored (Restore server source count ∷ w) =
    (history w server ≡ []) × (count ≤ length (history w source)) × WereRestored w
WereRestored (Submit command ∷ w) = WereRestored w
WereRestored (Execute server id ∷ w) = WereRestored w
WereRestored (Reply id answer ∷ w) = WereRestored w
WereRestored (Lookup reader key text ∷ w) = WereRestored w
WereRestored (Tell reader server ∷ w) = WereRestored w
WereRestored (Settle server ∷ w) = WereRestored w

-- the log keeps this promise
abbrev pub Holds : Promise → Log → Type 0
Holds promise.OneCommand w = AreOneCommand w
Holds promise.Submitted w = WereSubmitted w
Holds promise.Once w = StandOnce w
Holds promise.SameOrder w = AreComparable w
Holds promise.RealTime w = StandBehindReplies w
Holds promise.OneReply w = AreOneReply w
Holds promise.RightReply w = AreRightReplies w
Holds promise.RightLookup w = AreRightLookups w
Holds promise.Settled w = WereSettled w
Holds promise.Restore w = WereRestored w

-- the log keeps all promises
pub record KeepsAll (w : Log) : Type 0 where
  pub one_command : AreOneCommand w
  pub submitted : WereSubmitted w
  pub once : StandOnce w
  pub same_order : AreComparable w
  pub real_time : StandBehindReplies w
  pub one_reply : AreOneReply w
  pub right_reply : AreRightReplies w
  pub right_lookup : AreRightLookups w
  pub settled : WereSettled w
  pub restored : WereRestored w

-- something was judged. Some server has a history, and each acknowledged command is in a history
pub record WasJudged (w : Log) : Type 0 where
  pub server : ServerId
  pub some : history w server ≢ []
  pub every : (id : CommandId) → IsTrue (has_id (acknowledged w) id) → (p : ServerId) × IsTrue (has_id (history w p) id)
