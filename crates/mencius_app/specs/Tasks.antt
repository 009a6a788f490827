-- A task of the program, with the texts that it may write, the causes of its faults, and its limited use of streams.
use Rattle.std.specs.Prelude.{◌≡◌, ◌≢◌, ◌⊎◌, ◌≤◌, ◌+◌, ℕ, Bool, List, Option, None, Result, Ok, Err, string_bytes}
use Rattle.std.specs.Io.KnownBytes.{Appends, Keeps}
use Rattle.mencius_io.specs.Streams.{HasFailed, StreamState, TakesAtMost, WritesFront, most_bytes, most_failed_calls}
use Rattle.mencius_io.specs.declared.failure.Failure.{Failure}
use Rattle.mencius_io.specs.declared.fault.IoFault.{IoFault}
use Rattle.mencius_io.specs.declared.fault.IoFault.TheVariants.{NotJson, BadShape, BadLimit, ReadFailed, WriteFailed}
use Rattle.mencius_app.specs.declared.output.Output.{Output}

-- ---- a reader and a writer

-- a stream before a call and after it. Its state says which bytes it carries and how many of its calls failed
pub record StreamUse : Type 1 where
  pub Stream : Type 0
  pub state : Stream → StreamState
  pub old : Stream
  pub new : Stream

abbrev pub used : {T : Type 0} → (T → StreamState) → T → T → StreamUse
used {T} state old new = record { Stream = T; state = state; old = old; new = new }

-- a reader and a writer, before a task and after it
pub record Streams : Type 0 where
  pub reader : StreamState
  pub reader_now : StreamState
  pub writer : StreamState
  pub writer_now : StreamState

-- a reader and a writer with these states, each before and after a task
abbrev pub streams : StreamState → StreamState → StreamState → StreamState → Streams
streams reader reader_now writer writer_now =
    record { reader = reader; reader_now = reader_now; writer = writer; writer_now = writer_now }

-- the states of a reader and a writer
abbrev pub states_of : StreamUse → StreamUse → Streams
states_of source sink =
    streams (source.state source.old) (source.state source.new) (sink.state sink.old) (sink.state sink.new)

-- a task took at most `most_bytes` + 1 bytes from its reader, and the count of the reader's failed calls grew by at
-- most `most_failed_calls`
pub record AsksReader (old new : StreamState) : Type 0 where
  pub taken : TakesAtMost (most_bytes + 1) old.bytes new.bytes
  pub tried : new.failures ≤ old.failures + most_failed_calls

-- the use of the reader is limited, and the count of the writer's failed calls grew by at most `most_failed_calls`
pub record AsksLittle (s : Streams) : Type 0 where
  pub reader : AsksReader s.reader s.reader_now
  pub tried : s.writer_now.failures ≤ s.writer.failures + most_failed_calls

-- ---- a task

-- a task, described for the reader's bytes, if these are known. `IsText` says which texts the task may write, and
-- whether a text is clean (a replay refused no event, or a judgement found no broken promise). `IsBadInput` says which
-- faults these bytes have
pub record Task : Type 1 where
  pub IsText : Option (List ℕ) → List ℕ → Bool → Type 0
  pub IsBadInput : Option (List ℕ) → IoFault → Type 0

-- the task may make this output from the reader's bytes, if these are known
abbrev pub IsOutput : Task → Option (List ℕ) → Output → Type 0
IsOutput t known output = t.IsText known (string_bytes output.text) output.is_clean

-- the result of writing the text that a task made, if it made one. It says whether the text is clean. If the writer
-- failed, it is `WriteFailed`, and a prefix of the text was written. If the task made no text, it is the failure of the
-- task
abbrev pub Delivers : Result Output Failure → StreamState → StreamState → Result Bool Failure → Type 0
Delivers (Ok output) old new (Ok is_clean) =
    (is_clean ≡ output.is_clean) × Appends old.bytes new.bytes (string_bytes output.text)
Delivers (Ok output) old new (Err failure) = (failure ≡ record { fault = WriteFailed; words = None })
    × HasFailed old.failures new.failures × WritesFront old.bytes new.bytes (string_bytes output.text)
Delivers (Err failure) old new result = result ≡ Err failure

-- the task wrote one of its texts completely
abbrev pub Writes : Task → Streams → Bool → Type 0
Writes t s is_clean =
    (text : List ℕ) × t.IsText s.reader.bytes text is_clean × Appends s.writer.bytes s.writer_now.bytes text

-- the cause of the fault of a task that made no text. Its input has this fault, or a call of the reader failed. Of other
-- faults, for example that memory ran out, nothing is said
pub record IsReadingCause (IsBadInput : Option (List ℕ) → IoFault → Type 0) (old new : StreamState) (fault : IoFault)
    : Type 0 where
  pub bad_input : (fault ≡ NotJson) ⊎ (fault ≡ BadShape) ⊎ (fault ≡ BadLimit) → IsBadInput old.bytes fault
  pub read_failed : fault ≡ ReadFailed → HasFailed old.failures new.failures
  pub no_writer : fault ≢ WriteFailed

-- the cause of the fault that ended a task. If the fault is about the input, then the input has this fault. If it is
-- ReadFailed or WriteFailed, then a call of the reader or the writer failed. No cause is claimed for other faults, such
-- as NoMemory. After WriteFailed, the task wrote a prefix of one of its texts. After any other fault, it wrote nothing
pub record IsCause (t : Task) (s : Streams) (fault : IoFault) : Type 0 where
  pub bad_input : (fault ≡ NotJson) ⊎ (fault ≡ BadShape) ⊎ (fault ≡ BadLimit) → t.IsBadInput s.reader.bytes fault
  pub read_failed : fault ≡ ReadFailed → HasFailed s.reader.failures s.reader_now.failures
  pub write_failed : fault ≡ WriteFailed → HasFailed s.writer.failures s.writer_now.failures
  pub front : fault ≡ WriteFailed → (text : List ℕ) × (is_clean : Bool)
      × t.IsText s.reader.bytes text is_clean × WritesFront s.writer.bytes s.writer_now.bytes text
  pub nothing : fault ≢ WriteFailed → Keeps s.writer.bytes s.writer_now.bytes
