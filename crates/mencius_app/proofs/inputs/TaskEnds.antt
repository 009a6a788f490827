-- A task writes the text that it made, and a call ends as its task does.
use Rattle.mencius_app.proofs.Words.{NoMemory, ReadFailed, BadLimit, BadShape, NotJson, not, OnOk, IsErrAnd, IfSome_then, ◌≡◌, ◌≢◌, ◌+◌, ◌&&◌, ◌∙◌, arith, inl, inr, ℕ, Bool, true, false, cond, List, [], Option, Some, None, IfSome, IfOk, IfErr, Result, Ok, Err, string_bytes, refl, sym, subst, ap, Keeps, Text, StreamState, HasFailed, WritesFront, TakesAtMost, most_bytes, Failure, IoFault, WriteFailed, TaskState, asked_judge, faults, line_of, task_in, ◌⊎◌}
use Rattle.mencius_app.specs.Calls.{AsksAs, AsksFor, AsksReaderAs, BeginsCall, BeginsTask, CallStreams, EndsCall, EndsTask, IsProgramCall, IsUnread, call_task, explained_task, is_reporting, task_of, task_with}
use Rattle.mencius_app.specs.Ending.{ending_of, ending_of_run, failure_in}
use Rattle.mencius_app.specs.Failures.{ExplainedTask, ExplainsIn, Fails, FailsToMake, RunFails, RunFailsToMake}
use Rattle.mencius_app.specs.Tasks.{Delivers, IsCause, IsOutput, Streams, Task, Writes, states_of, streams}
use Rattle.mencius_app.specs.declared.call.Begun.{Begun}
use Rattle.mencius_app.specs.declared.call.Begun.TheVariants.{Ended, Run}
use Rattle.mencius_app.specs.declared.call.RunOptions.{RunOptions}
use Rattle.mencius_app.specs.declared.ending.Ending.{Ending}
use Rattle.mencius_app.specs.declared.ending.Ending.TheVariants.{Done, Refused, BadCommandLine, Failed, BoardFailed}
use Rattle.mencius_app.specs.declared.output.Output.{Output}
use Rattle.mencius_app.specs.declared.run_failure.RunFailure.{RunFailure}
use Rattle.mencius_app.specs.declared.run_failure.RunFailure.TheVariants as run
use Rattle.mencius_app.proofs.inputs.Inputs.{at_err, no_other}
use Rattle.mencius_app.specs.declared.fault.AppFault.{AppFault}
use Rattle.mencius_app.specs.declared.fault.AppFault.TheVariants as app
use Rattle.mencius_app.specs.Fault.{app_fault, fault_of_run}

-- ---- writing

keeps : (known : Option (List ℕ)) → Keeps known known
keeps None = tt
keeps (Some bytes) = refl

-- if a task fails while reading and keeps the output as it was, this is a failure of the task
pub unwritten : (t : ExplainedTask) (s : Streams) (failure : Failure) → FailsToMake t s.reader s.reader_now failure
    → s.writer_now ≡ s.writer → Fails t s failure
unwritten t s failure h same = record {
  cause = record {
    bad_input = h.cause.bad_input;
    read_failed = h.cause.read_failed;
    write_failed = λ e. absurd (h.cause.no_writer e);
    front = λ e. absurd (h.cause.no_writer e);
    nothing = λ _. subst (λ w. Keeps s.writer.bytes w.bytes) (sym same) (keeps s.writer.bytes);
  };
  words = h.words;
}

-- a failed writer is a cause after a prefix of one of the task's texts
pub write_cause : (t : Task) (s : Streams) (text : List ℕ) (is_clean : Bool) → t.IsText s.reader.bytes text is_clean
    → HasFailed s.writer.failures s.writer_now.failures → WritesFront s.writer.bytes s.writer_now.bytes text
    → IsCause t s WriteFailed
write_cause t s text is_clean is failed front = record {
  bad_input = λ bad. absurd ((no_other WriteFailed bad).1 refl);
  read_failed = λ e. absurd (cc);
  write_failed = λ _. failed;
  front = λ _. (text, is_clean, is, front);
  nothing = λ other. absurd (other refl);
}

-- a task that made a text or failed ends as the definitions say
pub delivered : {W : Type 0} (t : Task) (from to : StreamState) (state : W → StreamState) (old new : W)
    (made : Result Output Failure) (r : Result Bool Failure) → IfOk made (IsOutput t from.bytes)
    → Delivers made (state old) (state new) r → IfOk r (Writes t (streams from to (state old) (state new)))
delivered t from to state old new (Ok output) (Ok is_clean) is given =
    (string_bytes output.text, subst (t.IsText from.bytes (string_bytes output.text)) (sym given.0) is, given.1)
delivered t from to state old new (Ok output) (Err failure) is given = tt
delivered t from to state old new (Err failure) r is given =
    subst (λ x. IfOk x (Writes t (streams from to (state old) (state new)))) (sym given) tt

module _ (t : ExplainedTask) (from to : StreamState) {W : Type 0} (state : W → StreamState) (old new : W) where
  pub undelivered : (made : Result Output Failure) (r : Result Bool Failure) → IfOk made (IsOutput t.task from.bytes)
      → IfErr made (FailsToMake t from to) → Delivers made (state old) (state new) r
      → IfErr made (λ _. new ≡ old) → IfErr r (Fails t (streams from to (state old) (state new)))
  undelivered (Ok output) (Ok is_clean) is fails given kept = tt
  undelivered (Ok output) (Err failure) is fails given kept =
      subst (Fails t (streams from to (state old) (state new))) (sym given.0) (record {
        cause = write_cause t.task (streams from to (state old) (state new)) (string_bytes output.text) output.is_clean is
            given.1 given.2;
        words = tt;
      })
  undelivered (Err failure) r is fails given kept =
      subst (λ x. IfErr x (Fails t (streams from to (state old) (state new)))) (sym given)
      (unwritten t (streams from to (state old) (state new)) failure fails (ap state kept))

  -- the failure of a task that passes it on
  pub passed_on : {T : Type 0} (made : Result Output Failure) (q : Result T Failure) (failure : Failure)
      → IsErrAnd q (λ e. e ≡ failure) → IfOk made (IsOutput t.task from.bytes)
      → IfErr made (FailsToMake t from to) → Delivers made (state old) (state new) (Err failure)
      → IfErr made (λ _. new ≡ old) → IfErr q (Fails t (streams from to (state old) (state new)))
  passed_on made q failure passed is fails given kept =
      at_err q failure _ passed (undelivered made (Err failure) is fails given kept)

-- if a run fails while reading and keeps the output as it was, this is a failure of its task, unless the board failed
pub unwritten_run : (t : ExplainedTask) (old new writer : StreamState) (failed : RunFailure) → RunFailsToMake t old new failed
    → RunFails t (streams old new writer writer) failed
unwritten_run t old new writer (run.Failed failure) h = unwritten t (streams old new writer writer) failure h refl
unwritten_run t old new writer run.BoardFailed h = tt

-- ---- a task

-- a task that wrote its text, or failed with a cause, has the ending of this result
pub task_ended : (task : TaskState) (s : Streams) (is_reported : Bool) (r : Result Bool Failure)
    → is_reported ≡ is_reporting task → IfOk r (Writes (task_of task) s)
    → IfErr r (Fails (explained_task task) s) → EndsTask task s (ending_of is_reported r)
task_ended task s is_reported (Ok is_clean) reported wrote fails =
    by_test (is_reported && not is_clean) (ap (λ x. x && not is_clean) reported) where
      by_test : (a : Bool) → a ≡ (is_reporting task && not is_clean) → EndsTask task s (cond a Refused Done)
      by_test true e = (is_clean, wrote, e)
      by_test false e = (is_clean, wrote, e)
task_ended task s is_reported (Err failure) reported wrote fails = fails

-- the ending of a task follows from the result of writing its text
pub task_done : {W : Type 0} (writer : W → StreamState) (old new : W) (task : TaskState) (from to : StreamState)
    (is_reported : Bool) (made : Result Output Failure) (r : Result Bool Failure) → is_reported ≡ is_reporting task
    → IfOk made (IsOutput (task_of task) from.bytes)
    → IfErr made (FailsToMake (explained_task task) from to)
    → Delivers made (writer old) (writer new) r → IfErr made (λ _. new ≡ old)
    → EndsTask task (streams from to (writer old) (writer new)) (ending_of is_reported r)
task_done writer old new task from to is_reported made r reported is fails given kept =
    task_ended task (streams from to (writer old) (writer new)) is_reported r reported
    (delivered (task_of task) from to writer old new made r is given)
    (undelivered (explained_task task) from to writer old new made r is fails given kept)

-- the ending of a run follows from its result, with a text that is always clean or a failed board
pub run_ended : (options : RunOptions) (s : Streams) {T : Type 0} (r : Result T RunFailure)
    → OnOk r (Writes (task_of (task_with options)) s true)
    → IfErr r (RunFails (explained_task (task_with options)) s)
    → EndsTask (task_with options) s (ending_of_run r)
run_ended options s (Ok x) wrote fails = (true, wrote, refl)
run_ended options s (Err (run.Failed failure)) wrote fails = fails
run_ended options s (Err run.BoardFailed) wrote fails = refl

-- an ending with a failed board comes only from a run whose board failed
pub board_of_run : {T : Type 0} (r : Result T RunFailure) → ending_of_run r ≡ BoardFailed → r ≡ Err run.BoardFailed
board_of_run (Ok x) e = absurd (cc)
board_of_run (Err (run.Failed failure)) e = absurd (cc)
board_of_run (Err run.BoardFailed) e = refl

pub no_board : (is_reported : Bool) (r : Result Bool Failure) → ending_of is_reported r ≢ BoardFailed
no_board is_reported (Ok is_clean) e = by_test (is_reported && not is_clean) e where
  by_test : (a : Bool) → cond a Refused Done ≡ BoardFailed → ⊥
  by_test true e = absurd (cc)
  by_test false e = absurd (cc)
no_board is_reported (Err failure) e = absurd (cc)

-- ---- a call

-- if the arguments request a task, the call ends as its task does
module _ (arguments : List Text) (task : TaskState) (asks : AsksFor arguments task) (s : Streams) where
  abbrev asked_task : TaskState
  asked_task = task_in (line_of arguments)

  call_cause : (fault : IoFault) → IsCause (task_of asked_task) s fault → IsCause (call_task arguments) s fault
  call_cause fault h = record {
    bad_input = λ bad. (asks.1, h.bad_input bad);
    read_failed = h.read_failed;
    write_failed = h.write_failed;
    front = λ e. let was = h.front e in (was.0, was.1, inr (asks.1, was.2), was.3);
    nothing = h.nothing;
  }

  caused : (ending : Ending) → EndsTask asked_task s ending
      → IfSome (failure_in ending) (λ failure. IsCause (call_task arguments) s failure.fault)
  caused (Failed failure) h = call_cause failure.fault h.cause
  caused _ h = tt

  explained : (ending : Ending) → EndsTask asked_task s ending
      → IfSome (failure_in ending) (λ failure. IfSome failure.words (λ words. (faults (line_of arguments) ≡ [])
      × ExplainsIn (explained_task asked_task).Tells s.reader.bytes failure.fault (string_bytes words)))
  explained (Failed failure) h = IfSome_then failure.words h.words (λ words is. (asks.1, is))
  explained _ h = tt

  pub call_ended : (ending : Ending) → EndsTask task s ending → AsksAs task s → EndsCall arguments s ending
  call_ended ending ends little =
      let h = subst (λ a. EndsTask a s ending) (sym asks.2) ends in
      record {
        done = λ e. inr (asks.1, subst (EndsTask asked_task s) e h);
        refused = λ e. inr (asks.1, subst (EndsTask asked_task s) e h);
        not_text = λ none. (let both : true ≡ false = sym asks.0 ∙ none in absurd (cc));
        mistaken = λ e. absurd (subst (EndsTask asked_task s) e h);
        cause = caused ending h;
        words = explained ending h;
        board = λ e. (asks.1, subst (EndsTask asked_task s) e h);
        asked = subst (λ a. AsksAs a s) (sym asks.2) little;
      }

  pub not_refused : (ending : Ending) → EndsTask task s ending → ending ≢ BadCommandLine
  not_refused ending ends e = subst (EndsTask task s) e ends

  -- `IsUnread` does not hold for such a call
  pub call_reads : (ending : Ending) → EndsTask task s ending → IsUnread arguments ending → ⊥
  call_reads ending ends (inl refused) = not_refused ending ends refused
  call_reads ending ends (inr some) = some asks.1

-- a call of the program does the requested task
pub task_called : (arguments : List Text) (task : TaskState) (s : CallStreams) (ending : Ending) → AsksFor arguments task
    → EndsTask task (states_of s.source s.sink) ending → AsksAs task (states_of s.source s.sink)
    → (ending ≡ BoardFailed → s.sink.new ≡ s.sink.old) → s.errors.new ≡ s.errors.old → IsProgramCall arguments s ending
task_called arguments task s ending asks ends limits failed same =
    let refused = not_refused arguments task asks (states_of s.source s.sink) ending ends in
    record {
      call = call_ended arguments task asks (states_of s.source s.sink) ending ends limits;
      unread = λ e. absurd (call_reads arguments task asks (states_of s.source s.sink) ending ends e);
      unwritten = λ either. elim either [ inl e ↦ absurd (refused e) | inr e ↦ failed e ];
      complaint = λ e. absurd (refused e);
      quiet = λ _. same;
    }

pub task_begun : (arguments : List Text) (task : TaskState) (s : CallStreams) (begun : Begun) → AsksFor arguments task
    → s.errors.new ≡ s.errors.old → BeginsTask task s.source s.sink begun → BeginsCall arguments s begun
task_begun arguments task s (Ended ending) asks same (ends, limits, other) =
    (task_called arguments task s ending asks ends limits (λ e. absurd (other e)) same, other)
task_begun arguments task s (Run options) asks same (is, unread, unwritten) =
    ((asks.0, asks.1, asks.2 ∙ is), unread, unwritten, same)

-- ---- a reader that was not used

unread_takes : (known : Option (List ℕ)) → TakesAtMost (most_bytes + 1) known known
unread_takes None = ([], omega arith, tt)
unread_takes (Some bytes) = ([], omega arith, refl)

pub asks_nothing : (task : TaskState) (state : StreamState) → AsksReaderAs task state state
asks_nothing (asked_judge is_brief is_json) state = omega arith
asks_nothing _ state = record { taken = unread_takes state.bytes; tried = omega arith }

-- no fault of input, output or memory is reported as the fault of the board
pub app_not_board : (cause : IoFault) → app_fault cause ≢ app.BoardFailed
app_not_board NotJson e = absurd (cc)
app_not_board BadShape e = absurd (cc)
app_not_board BadLimit e = absurd (cc)
app_not_board ReadFailed e = absurd (cc)
app_not_board WriteFailed e = absurd (cc)
app_not_board NoMemory e = absurd (cc)

-- a result with the fault of an input, a reader, a writer or memory is not `BoardFailed`
pub result_not_board : {T : Type 0} (r : Result T AppFault) (cause : IoFault)
    → IsErrAnd r (λ fault. fault ≡ app_fault cause) → r ≢ Err app.BoardFailed
result_not_board (Ok done) cause is e = absurd (cc)
result_not_board (Err fault) cause is e =
    let same : fault ≡ app.BoardFailed = cc in
    app_not_board cause (sym is ∙ same)

-- a run failed because of its board, or its fault has a cause as the fault of any task does
pub board_or_cause : (t : ExplainedTask) (s : Streams) (failed : RunFailure) → RunFails t s failed
    → (fault_of_run failed ≡ app.BoardFailed)
    ⊎ ((cause : IoFault) × (fault_of_run failed ≡ app_fault cause) × IsCause t.task s cause)
board_or_cause t s (run.Failed failure) h = inr (failure.fault, refl, h.cause)
board_or_cause t s run.BoardFailed h = inl refl

-- a run whose result is `BoardFailed` failed because of its board
pub at_board : {T : Type 0} (r : Result T AppFault) (failed : RunFailure)
    → IsErrAnd r (λ fault. fault ≡ fault_of_run failed) → r ≡ Err app.BoardFailed → failed ≡ run.BoardFailed
at_board r (run.Failed failure) is e = absurd (result_not_board r failure.fault is e)
at_board r run.BoardFailed is e = refl
