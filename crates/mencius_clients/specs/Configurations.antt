-- The configurations of a key: which of the commands that wait for their replies have taken effect, and the key's text.
use Rattle.std.specs.Prelude.{◌≡◌, ◌≢◌, ◌<◌, ◌≤◌, ◌⊎◌, ℕ, zero, suc, Bool, true, false, Contains, List, [], ◌∷◌, Option, Some, None, is_some, length, slice_get, slice_index, replicate, ◌/◌, ◌%◌, ◌==◌, if◌then◌else◌}
use Rattle.std.specs.Int.{bit_at}
use Rattle.std.specs.BTreeMap.{BTreeMap, get}
use Rattle.std.specs.Ordering.{nat_cmp}
use Rattle.mencius_base.specs.declared.command.Command.{Command}
use Rattle.mencius_base.specs.declared.command.CommandId.{CommandId}
use Rattle.mencius_base.specs.declared.command.Op.{Op}
use Rattle.mencius_judge.specs.Tables.{identity_key, number_count}
use Rattle.mencius_log.specs.declared.observation.Observation.{Observation}
use Rattle.mencius_log.specs.declared.observation.Answer.{Answer}
use Rattle.mencius_log.specs.declared.observation.Answer.TheVariants.{Failed}
use Rattle.mencius_log.specs.declared.observation.Observation.TheVariants.{Submit, Execute, Reply, Lookup, Tell, Settle, Restore}
use Rattle.mencius_judge.specs.Answers.{IsRight, is_without_effect}
use Rattle.mencius_model.specs.KeyMap.{expected, is_read, new_text}
use Rattle.mencius_judge.specs.Log.{is_failed}
use Rattle.mencius_clients.specs.declared.configuration.Configuration.{Configuration}
use Rattle.mencius_clients.specs.declared.slot_set.SlotSet.{SlotSet}
use Rattle.mencius_clients.specs.declared.outcome.Outcome.{Outcome}
use Rattle.mencius_clients.specs.declared.outcome.Outcome.TheVariants.{Goes, Unexplained, Waiting, Configurations}

-- whether the slot is in the set
abbrev pub has_slot : SlotSet → ℕ → Bool
has_slot slots slot = bit_at (slice_index slots.words (slot / 64)) (slot % 64) == 1

-- the empty set
unfoldable pub no_slots : SlotSet
no_slots = record { words = replicate 64 0 }

-- the command that a line submits
abbrev pub submitted_by : Option Observation → Option Command
submitted_by None = None
submitted_by (Some (Submit command)) = Some command
submitted_by (Some (Execute server id)) = None
submitted_by (Some (Reply id text)) = None
submitted_by (Some (Lookup reader key text)) = None
submitted_by (Some (Tell reader server)) = None
submitted_by (Some (Settle server)) = None
submitted_by (Some (Restore server source count)) = None

abbrev pub text_of : Option Command → Option (List ℕ)
text_of None = None
text_of (Some command) = new_text command.op

-- the text with a number. 0 stands for no text. Any other number is 1 higher than the line of the command that writes it
abbrev pub text_at : List Observation → ℕ → Option (List ℕ)
text_at log zero = None
text_at log (suc line) = text_of (submitted_by (slice_get log line))

abbrev pub command_at : List Observation → Option (Option ℕ) → Option Command
command_at log None = None
command_at log (Some None) = None
command_at log (Some (Some line)) = submitted_by (slice_get log line)

-- the command that waits in a slot
abbrev pub waiting : List Observation → List (Option ℕ) → ℕ → Option Command
waiting log slots slot = command_at log (slice_get slots slot)

-- the list contains the configuration
abbrev pub IsOneOf : List Configuration → Configuration → Type 0
IsOneOf cs c = (n : ℕ) × (slice_get cs n ≡ Some c)

-- the operation compares before it writes
abbrev pub is_cas : Op → Bool
is_cas op = is_some (expected op)

-- the text that the key of an operation holds after it, if it held `held` before
abbrev pub become : Option (List ℕ) → Op → Option (List ℕ)
become held op = if is_without_effect op held then held else new_text op

-- a client got a reply other than `failed` to the command
abbrev pub IsAcknowledged : List Observation → CommandId → Type 0
IsAcknowledged log id = (x : Answer) × Contains log (Reply id x) × (is_failed x ≡ false)

-- no client ever gets a reply other than `failed` to the command
abbrev pub IsUnacknowledged : List Observation → CommandId → Type 0
IsUnacknowledged log id = IsAcknowledged log id → ⊥

-- the command has no reply other than `failed`, and changes nothing wherever an order may have it
abbrev pub IsIdle : List Observation → Command → Type 0
IsIdle log c = IsUnacknowledged log c.id × ((is_read c.op ≡ true) ⊎ Contains log (Reply c.id Failed))

-- the commands that wait, by their slots
abbrev pub Calls : Type 0
Calls = ℕ → Option Command

-- both sets have the same acknowledged commands, and the second one has all slots of the first one
pub record IsLess (log : List Observation) (calls : Calls) (some most : SlotSet) : Type 0 where
  pub same : (t : ℕ) (f : Command) → calls t ≡ Some f → IsAcknowledged log f.id → has_slot some t ≡ has_slot most t
  pub within : (t : ℕ) → has_slot some t ≡ true → has_slot most t ≡ true

-- d is c after the command in the slot has taken effect
pub record IsStep (log : List Observation) (calls : Calls) (slot : ℕ) (command : Command) (c d : Configuration) : Type 0 where
  pub here : IsAcknowledged log command.id → has_slot d.done slot ≡ true
  pub elsewhere : (t : ℕ) (f : Command) → t ≢ slot → calls t ≡ Some f → IsAcknowledged log f.id
      → has_slot d.done t ≡ has_slot c.done t
  pub within : (t : ℕ) → t ≢ slot → has_slot d.done t ≡ true → has_slot c.done t ≡ true
  pub text : text_at log d.text ≡ become (text_at log c.text) command.op
  pub seen : IsAcknowledged log command.id → d.unseen ≡ false

-- the command is acknowledged, and some reply to it is wrong for the text that the key holds
abbrev pub IsRefuted : List Observation → Command → Configuration → Type 0
IsRefuted log command c =
    IsAcknowledged log command.id
    × ((x : Answer) × Contains log (Reply command.id x) × (IsRight command.op (text_at log c.text) x → ⊥))

-- the command has no reply other than `failed`. It would change nothing, or overwrite a text that no one has seen
abbrev pub IsPassed : List Observation → Command → Configuration → Type 0
IsPassed log command c =
    IsUnacknowledged log command.id
    × ((become (text_at log c.text) command.op ≡ text_at log c.text) ⊎ ((c.unseen ≡ true) × (is_cas command.op ≡ false)))

abbrev pub IsBarred : List Observation → Command → Configuration → Type 0
IsBarred log command c = IsRefuted log command c ⊎ IsPassed log command c

-- d is c after the command in the slot got its reply
pub record IsFreed (log : List Observation) (calls : Calls) (slot : ℕ) (c d : Configuration) : Type 0 where
  pub here : has_slot d.done slot ≡ false
  pub elsewhere : (t : ℕ) (f : Command) → t ≢ slot → calls t ≡ Some f → IsAcknowledged log f.id
      → has_slot d.done t ≡ has_slot c.done t
  pub within : (t : ℕ) → t ≢ slot → has_slot d.done t ≡ true → has_slot c.done t ≡ true
  pub text : text_at log d.text ≡ text_at log c.text
  pub seen : d.unseen ≡ false

-- d is c after the read in the slot, which has a reply other than `failed`
pub record IsRead (log : List Observation) (calls : Calls) (slot : ℕ) (c d : Configuration) : Type 0 where
  pub command : Command
  pub waits : calls slot ≡ Some command
  pub answered : IsAcknowledged log command.id
  pub reads : is_read command.op ≡ true
  pub here : has_slot d.done slot ≡ true
  pub elsewhere : (t : ℕ) → t ≢ slot → has_slot d.done t ≡ has_slot c.done t
  pub text : text_at log d.text ≡ text_at log c.text
  pub seen : d.unseen ≡ false

-- d is c after the reads in these slots, the last one first
abbrev pub AreRead : List Observation → Calls → List ℕ → Configuration → Configuration → Type 0
AreRead log calls [] c d = c ≡ d
AreRead log calls (slot ∷ slots) c d = (b : Configuration) × AreRead log calls slots c b × IsRead log calls slot b d

-- d is c after some reads
abbrev pub IsReadOn : List Observation → Calls → Configuration → Configuration → Type 0
IsReadOn log calls c d = (slots : List ℕ) × AreRead log calls slots c d

-- ---- lists of configurations that grow

abbrev pub IsLonger : List Configuration → List Configuration → Type 0
IsLonger old new = (n : ℕ) (c : Configuration) → slice_get old n ≡ Some c → slice_get new n ≡ Some c

-- d stands for c. They have the same text and the same acknowledged commands, and d has no more slots than c. If the
-- text of d is unseen, the text of c is unseen too
abbrev pub IsAsGood : List Observation → Calls → Configuration → Configuration → Type 0
IsAsGood log calls d c =
    IsLess log calls d.done c.done × (text_at log d.text ≡ text_at log c.text) × (d.unseen ≡ true → c.unseen ≡ true)

-- one configuration of the list stands for c
abbrev pub HasLess : List Observation → Calls → List Configuration → Configuration → Type 0
HasLess log calls cs c =
    (d : Configuration) × IsOneOf cs d × IsLess log calls d.done c.done × (text_at log d.text ≡ text_at log c.text)
    × (d.unseen ≡ true → c.unseen ≡ true)

-- the commands in these slots never get a reply other than `failed`
abbrev pub AreLost : List Observation → Calls → SlotSet → Type 0
AreLost log calls slots =
    (t : ℕ) (f : Command) → calls t ≡ Some f → has_slot slots t ≡ true → IsUnacknowledged log f.id

-- one configuration of the list stands for c after some reads
abbrev pub HasRead : List Observation → Calls → List Configuration → Configuration → Type 0
HasRead log calls cs c = (d : Configuration) × IsReadOn log calls c d × HasLess log calls cs d

-- one configuration of the list stands for c after the command in the slot and some reads. If the command never gets a
-- reply other than `failed`, an equal one that gets none either may take its place
pub record HasStep (log : List Observation) (calls : Calls) (cs : List Configuration) (slot : ℕ) (command : Command)
    (c : Configuration) : Type 0 where
  pub place : ℕ
  pub like : Command
  pub waits : calls place ≡ Some like
  pub free : has_slot c.done place ≡ false
  pub equal : like.op ≡ command.op
  pub which : (place ≡ slot) ⊎ (IsUnacknowledged log command.id × IsUnacknowledged log like.id)
  pub next : Configuration
  pub step : IsStep log calls place like c next
  pub stands : HasRead log calls cs next

-- the command in the slot is barred, or the list has what comes after it
abbrev pub FollowsAt : List Observation → List (Option ℕ) → List Configuration → Configuration → ℕ → Type 0
FollowsAt log slots cs c t =
    (d : Command) → waiting log slots t ≡ Some d → has_slot c.done t ≡ false
    → IsBarred log d c ⊎ HasStep log (waiting log slots) cs t d c

-- an equal command waits in a lower slot and has not taken effect. Both commands are lost
pub record GivesWay (log : List Observation) (slots : List (Option ℕ)) (gone : SlotSet) (c : Configuration) (slot : ℕ)
    : Type 0 where
  pub twin : ℕ
  pub lower : twin < slot
  pub command : Command
  pub other : Command
  pub here : waiting log slots slot ≡ Some command
  pub there : waiting log slots twin ≡ Some other
  pub equal : other.op ≡ command.op
  pub lost : has_slot gone slot ≡ true
  pub lost_too : has_slot gone twin ≡ true
  pub free : has_slot c.done twin ≡ false

abbrev pub AllFollow : List Observation → List (Option ℕ) → List Configuration → Configuration → Type 0
AllFollow log slots cs c = (t : ℕ) → FollowsAt log slots cs c t

-- `next` covers all configurations after the reply to the command in the slot
pub record IsSettled (log : List Observation) (slots : List (Option ℕ)) (cs : List Configuration) (slot : ℕ)
    (next : List Configuration) : Type 0 where
  pub work : List Configuration
  pub begins : (c : Configuration) → IsOneOf cs c → HasRead log (waiting log slots) work c
  pub closed : (c : Configuration) → IsOneOf work c → has_slot c.done slot ≡ false → AllFollow log slots work c
  pub freed : (c : Configuration) → IsOneOf work c → has_slot c.done slot ≡ true
      → (d : Configuration) × IsOneOf next d × IsFreed log (waiting log slots) slot c d

-- this holds for the first `count` configurations of `work`
pub record AreSettled (log : List Observation) (slots : List (Option ℕ)) (cs : List Configuration) (slot count : ℕ)
    (work next : List Configuration) : Type 0 where
  pub begins : (c : Configuration) → IsOneOf cs c → HasRead log (waiting log slots) work c
  pub closed : (n : ℕ) (c : Configuration) → n < count → slice_get work n ≡ Some c → has_slot c.done slot ≡ false
      → AllFollow log slots work c
  pub freed : (n : ℕ) (c : Configuration) → n < count → slice_get work n ≡ Some c → has_slot c.done slot ≡ true
      → (d : Configuration) × IsOneOf next d × IsFreed log (waiting log slots) slot c d

-- ---- slots

-- a command of this identity waits in the slot
abbrev pub IsWaitingAt : List Observation → List (Option ℕ) → CommandId → ℕ → Type 0
IsWaitingAt log slots id t = (c : Command) × (waiting log slots t ≡ Some c) × (c.id ≡ id)

abbrev pub IsSlotOf : List Observation → List (Option ℕ) → CommandId → Option ℕ → Type 0
IsSlotOf log slots id None = (t : ℕ) → IsWaitingAt log slots id t → ⊥
IsSlotOf log slots id (Some t) = IsWaitingAt log slots id t × (t < length slots)

-- a command waits in each slot
abbrev pub AreFull : List Observation → List (Option ℕ) → Type 0
AreFull log slots = (t : ℕ) → t < length slots → (c : Command) × (waiting log slots t ≡ Some c)

-- 4,096 commands or more wait
abbrev pub IsCrowded : List Observation → List (Option ℕ) → Type 0
IsCrowded log slots = (4096 ≤ length slots) × AreFull log slots

-- the line is in a slot in which no command waited, and the other slots are as before
pub record IsPlaced (log : List Observation) (old new : List (Option ℕ)) (line : ℕ) : Type 0 where
  pub slot : ℕ
  pub free : waiting log old slot ≡ None
  pub here : slice_get new slot ≡ Some (Some line)
  pub elsewhere : (t : ℕ) → t ≢ slot → slice_get new t ≡ slice_get old t

-- the command waited in this slot, which is free after its reply
pub record IsTaken (log : List Observation) (id : CommandId) (old : List (Option ℕ)) (cs : List Configuration)
    (new : List (Option ℕ)) (next : List Configuration) : Type 0 where
  pub slot : ℕ
  pub waited : IsWaitingAt log old id slot
  pub settled : IsSettled log old cs slot next
  pub here : slice_get new slot ≡ Some None
  pub elsewhere : (t : ℕ) → t ≢ slot → slice_get new t ≡ slice_get old t

-- the search of the key after a reply, with this outcome
abbrev pub IsAnswered : List Observation → CommandId → List (Option ℕ) → List Configuration → List (Option ℕ)
    → List Configuration → Outcome → Type 0
IsAnswered log id old cs new next Goes =
    (((t : ℕ) → IsWaitingAt log old id t → ⊥) × (new ≡ old) × (next ≡ cs)) ⊎ IsTaken log id old cs new next
IsAnswered log id old cs new next Unexplained =
    (slot : ℕ) × IsWaitingAt log old id slot × IsSettled log old cs slot []
IsAnswered log id old cs new next Waiting = ⊥
IsAnswered log id old cs new next Configurations = Unit {0}

-- ---- replies by identity

-- the map has the line of a reply to the command that is not `failed`
pub record HasReplyLine (log : List Observation) (replies : BTreeMap ℕ ℕ) (id : CommandId) : Type 0 where
  pub line : ℕ
  pub answer : Answer
  pub there : get nat_cmp replies (identity_key id) ≡ Some line
  pub says : slice_get log line ≡ Some (Reply id answer)
  pub counts : is_failed answer ≡ false

-- the map has the line of a reply to the command
pub record HasNote (log : List Observation) (replies : BTreeMap ℕ ℕ) (id : CommandId) : Type 0 where
  pub line : ℕ
  pub answer : Answer
  pub there : get nat_cmp replies (identity_key id) ≡ Some line
  pub says : slice_get log line ≡ Some (Reply id answer)

-- the map has such a line for each command that has such a reply in the first `count` lines
pub record AreReplyLines (log : List Observation) (replies : BTreeMap ℕ ℕ) (count : ℕ) : Type 0 where
  pub known : (n : ℕ) (id : CommandId) (x : Answer) → n < count → slice_get log n ≡ Some (Reply id x)
      → is_failed x ≡ false → id.number < number_count → HasReplyLine log replies id
  pub noted : (n : ℕ) (id : CommandId) (x : Answer) → n < count → slice_get log n ≡ Some (Reply id x)
      → id.number < number_count → HasNote log replies id
