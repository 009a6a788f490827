-- The number and the name of each fault, and the fault that the program reports for each failure.
use Rattle.std.specs.Prelude.{ℕ, List, codes}
use Rattle.mencius_app.specs.declared.fault.AppFault.{AppFault}
use Rattle.mencius_app.specs.declared.fault.AppFault.TheVariants.{NotJson, BadShape, BadLimit, ReadFailed, WriteFailed, NoMemory, BoardFailed}
use Rattle.mencius_app.specs.declared.run_failure.RunFailure.{RunFailure}
use Rattle.mencius_app.specs.declared.run_failure.RunFailure.TheVariants as at
use Rattle.mencius_io.specs.declared.fault.IoFault.{IoFault}
use Rattle.mencius_io.specs.declared.fault.IoFault.TheVariants as io

-- the number of a fault, from 21 to 27
abbrev pub fault_number : AppFault → ℕ
fault_number NotJson = 21
fault_number BadShape = 22
fault_number BadLimit = 23
fault_number ReadFailed = 24
fault_number WriteFailed = 25
fault_number NoMemory = 26
fault_number BoardFailed = 27

-- the name of a fault
abbrev pub fault_name : AppFault → List ℕ
fault_name NotJson = codes "NotJson"
fault_name BadShape = codes "BadShape"
fault_name BadLimit = codes "BadLimit"
fault_name ReadFailed = codes "ReadFailed"
fault_name WriteFailed = codes "WriteFailed"
fault_name NoMemory = codes "NoMemory"
fault_name BoardFailed = codes "BoardFailed"

-- the reported fault for a fault of an input, a reader, a writer or memory
abbrev pub app_fault : IoFault → AppFault
app_fault io.NotJson = NotJson
app_fault io.BadShape = BadShape
app_fault io.BadLimit = BadLimit
app_fault io.ReadFailed = ReadFailed
app_fault io.WriteFailed = WriteFailed
app_fault io.NoMemory = NoMemory

-- the reported fault for the failure of a run
abbrev pub fault_of_run : RunFailure → AppFault
fault_of_run (at.Failed failure) = app_fault failure.fault
fault_of_run at.BoardFailed = BoardFailed
