-- A call of the program over bytes in memory, with the texts that it makes and the `Answer` that its host gets.
use Rattle.std.specs.Prelude.{◌≡◌, ◌≢◌, ◌⊎◌, ◌<◌, ◌≤◌, ◌==◌, ℕ, Bool, true, false, List, [], ◌∷◌, ◌++◌, length, drop, if◌then◌else◌, Some, IfSome, Result, Ok, Err}
use Rattle.clap.specs.Words.{Text}
use Rattle.mencius_io.specs.Streams.{StreamState}
use Rattle.mencius_io.specs.declared.failure.Failure.{Failure}
use Rattle.mencius_app.specs.Calls.{IsProgramCall, call_streams}
use Rattle.mencius_app.specs.Ending.{failure_in, lines_of_ending, status_of, status_of_ending}
use Rattle.mencius_app.specs.Failures.{Fails, explained_as}
use Rattle.mencius_input.specs.declared.kind.Kind.TheVariants.{Replay}
use Rattle.mencius_app.specs.Replay.{IsMadeOf}
use Rattle.mencius_app.specs.States.{state_task, state_text}
use Rattle.mencius_app.specs.Tasks.{StreamUse, Streams, streams, used}
use Rattle.mencius_app.specs.declared.ending.Ending.{Ending}
use Rattle.mencius_app.specs.declared.ending.Ending.TheVariants.{Done, Refused, BadCommandLine, Failed, BoardFailed}
use Rattle.mencius_app.specs.declared.fault.AppFault.TheVariants.{NoMemory}
use Rattle.mencius_exports.specs.declared.answer.Answer.{Answer}

-- ---- arguments

-- the words in these bytes, if the first of them has already begun with `begun`. Each word ends at a zero byte, and
-- bytes after the last zero byte are not in any word
abbrev pub words_from : Text → List ℕ → List Text
words_from begun [] = []
words_from begun (byte ∷ bytes) =
    if byte == 0 then begun ∷ words_from [] bytes else words_from (begun ++ byte ∷ []) bytes

-- the words in these bytes, each ended by a zero byte
abbrev pub words_in : List ℕ → List Text
words_in bytes = words_from [] bytes

-- ---- a call

-- the state of a reader that has these bytes, or of a writer that got them, without a failed call
abbrev pub of_bytes : List ℕ → StreamState
of_bytes bytes = record { bytes = Some bytes; failures = 0 }

-- a reader of this input, with the bytes that are left after the call, and whether it was read
abbrev pub reads_input : List ℕ → List ℕ → Bool → StreamUse
reads_input input left is_asked = used {T = List ℕ × Bool} (λ x. of_bytes x.0) (input, false) (left, is_asked)

-- an empty writer that gets this text
abbrev pub gets_text : List ℕ → StreamUse
gets_text text = used of_bytes [] text

-- a call with these arguments and this input may end in this way, with these two texts, each complete. It is a call of
-- the program, without a board. The lines of its ending follow what it wrote to standard error
pub record IsEndOf (arguments : List Text) (input : List ℕ) (ending : Ending) (printed said : List ℕ) (is_asked : Bool)
    : Type 0 where
  pub left : List ℕ
  pub told : List ℕ
  pub call : IsProgramCall arguments
      (call_streams (reads_input input left is_asked) (gets_text printed) (gets_text told)) ending
  pub no_board : ending ≢ BoardFailed
  pub says : said ≡ told ++ lines_of_ending ending

-- a call with these arguments and this input may have this exit status and these two texts
abbrev pub IsCall : List Text → List ℕ → ℕ → List ℕ → List ℕ → Bool → Type 0
IsCall arguments input status printed said is_asked =
    (ending : Ending) × (status ≡ status_of_ending ending) × IsEndOf arguments input ending printed said is_asked

-- ---- a state

-- the ending of a call for a state from its result
abbrev pub ending_of_state : {T : Type 0} → Result T Failure → Ending
ending_of_state (Ok done) = Done
ending_of_state (Err failure) = Failed failure

-- the states of a reader of this input, with `left` after the call, and of an empty writer that gets the text
abbrev pub in_memory : List ℕ → List ℕ → List ℕ → Streams
in_memory input left printed = streams (of_bytes input) (of_bytes left) (of_bytes []) (of_bytes printed)

-- a call for the state after this scenario may end in this way, with these two texts, each complete
pub record IsEndOfState (input : List ℕ) (ending : Ending) (printed said : List ℕ) : Type 0 where
  pub done : ending ≡ Done → IsMadeOf state_text (Some input) printed
  pub no_other : (ending ≢ Refused) × (ending ≢ BadCommandLine) × (ending ≢ BoardFailed)
  pub failed : (left : List ℕ)
      × IfSome (failure_in ending) (Fails (explained_as Replay state_task) (in_memory input left printed))
  pub told : said ≡ lines_of_ending ending

-- a call for the state after this scenario may have this exit status and these two texts. It always reads the scenario
abbrev pub IsStateCall : List ℕ → ℕ → List ℕ → List ℕ → Bool → Type 0
IsStateCall input status printed said is_asked =
    (ending : Ending) × (status ≡ status_of_ending ending) × IsEndOfState input ending printed said × (is_asked ≡ true)

-- ---- the `Answer` of a call

-- the exit status of a call if there is no memory for it
abbrev pub memory_status : ℕ
memory_status = status_of NoMemory

-- a text was put at the front of a buffer and the rest stayed, or the text was too long and the whole buffer stayed
abbrev pub IsPut : List ℕ → List ℕ → List ℕ → Type 0
IsPut text old new =
    ((length text ≤ length old) × (new ≡ text ++ drop (length text) old)) ⊎ ((length old < length text) × (new ≡ old))

-- the number that says whether the input was read, which is 1 or 0
abbrev pub asked_number : Bool → ℕ
asked_number is_asked = if is_asked then 1 else 0

-- the `Answer` reports a call with this status and these two texts, and whether the call read its input. Each text was
-- put into its buffer if it fits
pub record Tells (answer : Answer) (status : ℕ) (printed said : List ℕ) (is_asked : Bool)
    (out then_out err then_err : List ℕ) : Type 0 where
  pub status_is : answer.status ≡ status
  pub printed_is : answer.printed ≡ length printed
  pub said_is : answer.said ≡ length said
  pub asked_is : answer.asked ≡ asked_number is_asked
  pub out_is : IsPut printed out then_out
  pub err_is : IsPut said err then_err

-- the `Answer` reports a call with the property `IsSuchCall`, or a call for which memory ran out
abbrev pub Answers : (ℕ → List ℕ → List ℕ → Bool → Type 0) → Answer → List ℕ → List ℕ → List ℕ → List ℕ → Type 0
Answers IsSuchCall answer out then_out err then_err =
    ((status : ℕ) × (printed said : List ℕ) × (is_asked : Bool) × IsSuchCall status printed said is_asked
    × Tells answer status printed said is_asked out then_out err then_err)
    ⊎ Tells answer memory_status [] [] false out then_out err then_err

-- the `Answer` and the buffers report a call with these arguments and this input
abbrev pub IsAnswered : List ℕ → List ℕ → Answer → List ℕ → List ℕ → List ℕ → List ℕ → Type 0
IsAnswered words input = Answers (IsCall (words_in words) input)

-- the `Answer` and the buffers report a call for the state after this scenario
abbrev pub IsStateAnswered : List ℕ → Answer → List ℕ → List ℕ → List ℕ → List ℕ → Type 0
IsStateAnswered input = Answers (IsStateCall input)
