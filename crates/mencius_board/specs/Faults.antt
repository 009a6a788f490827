-- The number and the name of each fault, and the faults that each kind of call can have.
use Rattle.std.specs.Prelude.{◌≡◌, ◌≤◌, ◌⊎◌, ℕ, Bool, true, List, codes}
use Rattle.mencius_board.specs.declared.fault.BoardFault.{BoardFault}
use Rattle.mencius_board.specs.declared.fault.BoardFault.TheVariants.{NoMemory, NoReader, NoWorker, ShowRefused}

-- the number of a fault, which is 14 to 17
abbrev pub board_fault_number : BoardFault → ℕ
board_fault_number NoMemory = 14
board_fault_number NoReader = 15
board_fault_number ShowRefused = 16
board_fault_number NoWorker = 17

-- the name of a fault, which is the name of its variant
abbrev pub board_fault_name : BoardFault → List ℕ
board_fault_name NoMemory = codes "NoMemory"
board_fault_name NoReader = codes "NoReader"
board_fault_name ShowRefused = codes "ShowRefused"
board_fault_name NoWorker = codes "NoWorker"

-- a call that shows can only have the faults `NoMemory` and `ShowRefused`
abbrev pub IsShowFault : BoardFault → Type 0
IsShowFault f = (f ≡ NoMemory) ⊎ (f ≡ ShowRefused)

-- a lookup can only have the faults `NoMemory` and `NoReader`
abbrev pub IsLookupFault : BoardFault → Type 0
IsLookupFault f = (f ≡ NoMemory) ⊎ (f ≡ NoReader)

-- one turn of a worker can only have the fault `NoMemory`, or `ShowRefused` if the worker shows after the turn
abbrev pub IsTurnFault : Bool → BoardFault → Type 0
IsTurnFault shows f = (f ≡ NoMemory) ⊎ ((f ≡ ShowRefused) × (shows ≡ true))

-- worker 0 shows the longest history each time that it has taken this number of turns
abbrev pub turns_a_show : ℕ
turns_a_show = 64

-- a worker with this number of turns can only have the fault `NoMemory`, or `ShowRefused` if it is worker 0 and the
-- number is at least `turns_a_show`. Only worker 0 shows
abbrev pub IsWorkerFault : ℕ → ℕ → BoardFault → Type 0
IsWorkerFault worker turns f = (f ≡ NoMemory) ⊎ ((f ≡ ShowRefused) × (worker ≡ 0) × (turns_a_show ≤ turns))

-- a run with this number of turns for each worker can only have the faults `NoMemory` and `NoWorker`. It can also have
-- the fault `ShowRefused` if the number is at least `turns_a_show`
abbrev pub IsRunFault : ℕ → BoardFault → Type 0
IsRunFault turns f = (f ≡ NoMemory) ⊎ ((f ≡ NoWorker) ⊎ ((f ≡ ShowRefused) × (turns_a_show ≤ turns)))
