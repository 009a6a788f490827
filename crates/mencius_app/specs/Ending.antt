-- The end of a call of the program, with its exit status and its lines on standard error.
use Rattle.std.specs.Prelude.{◌&&◌, ℕ, Bool, not, if◌then◌else◌, List, [], ◌∷◌, ◌++◌, Option, Some, None, option_map, codes, decimal, string_bytes, Result, Ok, Err}
use Rattle.mencius_io.specs.declared.failure.Failure.{Failure}
use Rattle.mencius_app.specs.declared.fault.AppFault.{AppFault}
use Rattle.mencius_app.specs.declared.fault.AppFault.TheVariants as app
use Rattle.mencius_app.specs.Fault.{app_fault, fault_name, fault_number}
use Rattle.mencius_app.specs.declared.run_failure.RunFailure.{RunFailure}
use Rattle.mencius_app.specs.declared.run_failure.RunFailure.TheVariants as run
use Rattle.mencius_app.specs.declared.ending.Ending.{Ending}
use Rattle.mencius_app.specs.declared.ending.Ending.TheVariants.{Done, Refused, BadCommandLine, Failed, BoardFailed}

-- ---- statuses and lines

-- the exit status of a fault. It is 3 for a bad input, 4 if reading or writing failed, and 5 if memory ran out or the
-- board failed
abbrev pub status_of : AppFault → ℕ
status_of app.NotJson = 3
status_of app.BadShape = 3
status_of app.BadLimit = 3
status_of app.ReadFailed = 4
status_of app.WriteFailed = 4
status_of app.NoMemory = 5
status_of app.BoardFailed = 5

-- the exit status of a call with this ending
abbrev pub status_of_ending : Ending → ℕ
status_of_ending Done = 0
status_of_ending Refused = 1
status_of_ending BadCommandLine = 2
status_of_ending (Failed failure) = status_of (app_fault failure.fault)
status_of_ending BoardFailed = status_of app.BoardFailed

-- the line with the number and the name of a fault
abbrev pub fault_line : AppFault → List ℕ
fault_line fault = codes "mencius: fault " ++ decimal (fault_number fault) ++ 32 ∷ fault_name fault ++ codes "\n"

-- the words of a failure as a line, if there are any
abbrev pub words_line : Option (List ℕ) → List ℕ
words_line None = []
words_line (Some words) = words ++ codes "\n"

-- the lines that standard error gets at the end of a call. Only a call with a fault has such lines, first for the fault
-- and then for its words
abbrev pub lines_of_ending : Ending → List ℕ
lines_of_ending (Failed failure) = fault_line (app_fault failure.fault) ++ words_line (option_map string_bytes failure.words)
lines_of_ending BoardFailed = fault_line app.BoardFailed
lines_of_ending _ = []

-- ---- the ending of a task

-- the ending of a call from the result of its task. A text that is not clean gives `Refused` if such texts are reported
abbrev pub ending_of : Bool → Result Bool Failure → Ending
ending_of is_reported (Ok is_clean) = if is_reported && not is_clean then Refused else Done
ending_of is_reported (Err failure) = Failed failure

-- the ending of a call from the result of its run
abbrev pub ending_of_run : {T : Type 0} → Result T RunFailure → Ending
ending_of_run (Ok done) = Done
ending_of_run (Err (run.Failed failure)) = Failed failure
ending_of_run (Err run.BoardFailed) = BoardFailed

-- the failure in an ending, if the ending has one. A failed board is a different ending
abbrev pub failure_in : Ending → Option Failure
failure_in (Failed failure) = Some failure
failure_in _ = None
