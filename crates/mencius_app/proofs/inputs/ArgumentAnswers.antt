-- A call whose arguments do not request a task ends as the definitions say.
use Rattle.mencius_app.proofs.Words.{◌≡◌, ◌≢◌, ◌⊎◌, ◌≤◌, ◌+◌, ◌∙◌, inl, inr, ℕ, true, false, List, Some, None, IfSome, refl, ap, sym, subst, Appends, IfSome_then, IsAmong, Text, HasFailed, StreamState, WritesFront, most_failed_calls, Failure, WriteFailed, NoMemory, are_texts, faults, line_of, task_in}
use Rattle.clap.specs.declared.error.kind.ErrorKind.{ErrorKind}
use Rattle.clap.specs.declared.error.kind.ErrorKind.TheVariants.{OutOfMemory}
use Rattle.mencius_command_line.specs.Help.{shown_for}
use Rattle.mencius_app.specs.Calls.{EndsCall, IsMistaken, IsShown, call_task}
use Rattle.mencius_app.specs.Ending.{failure_in}
use Rattle.mencius_app.specs.Tasks.{IsCause, Streams, streams}
use Rattle.mencius_app.specs.declared.ending.Ending.{Ending}
use Rattle.mencius_app.specs.declared.ending.Ending.TheVariants.{Done, Refused, BadCommandLine, BoardFailed}
use Rattle.mencius_app.proofs.inputs.Inputs.{if_none, own_failure}
use Rattle.mencius_app.proofs.inputs.TaskEnds.{asks_nothing, unwritten, write_cause}

-- a call whose arguments have an error of this kind, or that ran out of memory, ends as the definitions say
module _ {W : Type 0} (state_of : W → StreamState) (arguments : List Text) (kind : ErrorKind) (state : StreamState)
    (empty full : W) (ending : Ending)
    (has : (kind ≡ OutOfMemory) ⊎ IsAmong kind (faults (line_of arguments))) (texts : are_texts arguments ≡ true)
  where
    abbrev s : Streams
    s = streams state state (state_of empty) (state_of full)

    is_shown : (text : List ℕ) → shown_for kind arguments ≡ Some text → IsShown arguments text
    is_shown text shown = elim has [
      | inl memory ↦ (let none : None ≡ Some text = subst (λ k. shown_for k arguments ≡ Some text) memory shown in absurd (cc))
      | inr among ↦ (kind, among, shown)
    ]

    is_mistaken : kind ≢ OutOfMemory → shown_for kind arguments ≡ None → IsMistaken arguments
    is_mistaken other none = elim has [ inl memory ↦ absurd (other memory) | inr among ↦ inr (kind, among, none) ]

    abbrev pub IsAnswerFailure : Failure → Type 0
    IsAnswerFailure failure = (failure.words ≡ None)
        × (((failure.fault ≡ WriteFailed) × HasFailed (state_of empty).failures (state_of full).failures
        × (text : List ℕ) × (shown_for kind arguments ≡ Some text)
        × WritesFront (state_of empty).bytes (state_of full).bytes text)
        ⊎ ((failure.fault ≡ NoMemory) × (full ≡ empty)))

    cause_of : (failure : Failure) → IsAnswerFailure failure → IsCause (call_task arguments) s failure.fault
    cause_of failure (none, inl (broken, failed, text, shown, front)) =
        subst (IsCause (call_task arguments) s) (sym broken)
        (write_cause (call_task arguments) s text true (inl (is_shown text shown)) failed front)
    cause_of failure (none, inr (memory, same)) =
        (unwritten (record { task = call_task arguments; Tells = λ _ _ _. ⊥ }) s failure
        (own_failure failure (memory, none)) (ap state_of same)).cause

    pub answered : (ending ≡ Done → (text : List ℕ) × (shown_for kind arguments ≡ Some text)
        × Appends (state_of empty).bytes (state_of full).bytes text)
        → ending ≢ Refused → ending ≢ BoardFailed
        → (ending ≡ BadCommandLine → (kind ≢ OutOfMemory) × (shown_for kind arguments ≡ None) × (full ≡ empty))
        → IfSome (failure_in ending) IsAnswerFailure
        → (state_of full).failures ≤ (state_of empty).failures + most_failed_calls → EndsCall arguments s ending
    answered shown clean no_board misused fails few = record {
      done = λ e. let wrote = shown e in inl (refl, wrote.0, is_shown wrote.0 wrote.1, wrote.2);
      refused = λ e. absurd (clean e);
      not_text = λ none. (let both : true ≡ false = sym texts ∙ none in absurd (cc));
      mistaken = λ e. let bad = misused e in is_mistaken bad.0 bad.1;
      cause = IfSome_then (failure_in ending) fails cause_of;
      words = IfSome_then (failure_in ending) fails (λ failure h. if_none _ failure.words h.0);
      board = λ e. absurd (no_board e);
      asked = (asks_nothing (task_in (line_of arguments)) state, few);
    }
