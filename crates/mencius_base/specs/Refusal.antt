-- The result of a call that may be refused, and the number and name of each refusal.
use Rattle.std.specs.Prelude.{◌≡◌, ℕ, List, codes, Option, Some, None, Result, Ok, Err}
use Rattle.mencius_base.specs.declared.refusal.Refusal.{Refusal}
use Rattle.mencius_base.specs.declared.refusal.Refusal.TheVariants.{BadServer, DuplicateCommand, InstancesFull, NoMessage, NotAddressed, LostMessage, SelfSuspect, NothingToRevoke, RoundsFull, NothingWaiting, NothingToExecute, MessagesFull, EventsFull, NoMemory}

-- the number of a refusal
abbrev pub refusal_number : Refusal → ℕ
refusal_number BadServer = 1
refusal_number DuplicateCommand = 2
refusal_number InstancesFull = 3
refusal_number NoMessage = 4
refusal_number NotAddressed = 5
refusal_number LostMessage = 6
refusal_number SelfSuspect = 7
refusal_number NothingToRevoke = 8
refusal_number RoundsFull = 9
refusal_number NothingWaiting = 10
refusal_number NothingToExecute = 11
refusal_number MessagesFull = 12
refusal_number EventsFull = 13
refusal_number NoMemory = 14

-- the name of a refusal
abbrev pub refusal_name : Refusal → List ℕ
refusal_name BadServer = codes "BadServer"
refusal_name DuplicateCommand = codes "DuplicateCommand"
refusal_name InstancesFull = codes "InstancesFull"
refusal_name NoMessage = codes "NoMessage"
refusal_name NotAddressed = codes "NotAddressed"
refusal_name LostMessage = codes "LostMessage"
refusal_name SelfSuspect = codes "SelfSuspect"
refusal_name NothingToRevoke = codes "NothingToRevoke"
refusal_name RoundsFull = codes "RoundsFull"
refusal_name NothingWaiting = codes "NothingWaiting"
refusal_name NothingToExecute = codes "NothingToExecute"
refusal_name MessagesFull = codes "MessagesFull"
refusal_name EventsFull = codes "EventsFull"
refusal_name NoMemory = codes "NoMemory"

-- the cause if there is one, and otherwise `NoMemory`
abbrev pub cause_or_memory : Option Refusal → Refusal
cause_or_memory None = NoMemory
cause_or_memory (Some r) = r

-- a call succeeds only if no cause holds. If it is refused, the refusal is the cause that holds, or `NoMemory` without
-- a cause
abbrev pub IsRefusedFor : {A : Type 0} → Option Refusal → Result A Refusal → Type 0
IsRefusedFor cause (Ok x) = cause ≡ None
IsRefusedFor cause (Err r) = r ≡ cause_or_memory cause
