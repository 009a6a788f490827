-- If a log of clients is not read, a line is bad, there are too many bytes, a call of the reader failed, or memory ran out.
use Rattle.mencius_app.proofs.Words.{IfSome_then, ◌≡◌, ◌∙◌, inl, inr, sym, subst, StreamState, Failure, ReadFailed, WriteFailed, List, ℕ}
use Rattle.mencius_clients.specs.ReadLogs.{IsReadFailure}
use Rattle.mencius_command_line.specs.declared.client_options.ClientOptions.{ClientOptions}
use Rattle.mencius_app.specs.ClientJudgements.{ExplainsBadLine, IsBadLog, explained_clients}
use Rattle.mencius_app.specs.Failures.{FailsToMake}
use Rattle.mencius_app.proofs.inputs.Inputs.{if_none, input_cause, known_words, no_other, own_failure}

pub unread_log : (options : ClientOptions) (old new : StreamState) (failure : Failure)
    → IsReadFailure old.bytes old.failures new.failures failure
    → FailsToMake (explained_clients options) old new failure
unread_log options old new failure (inl own) = own_failure failure own
unread_log options old new failure (inr (inl (e, none, failed))) = record {
  cause = record {
    bad_input = λ bad. absurd ((no_other failure.fault bad).0 e);
    read_failed = λ _. failed;
    no_writer = λ w. let same : ReadFailed ≡ WriteFailed = sym e ∙ w in absurd (cc);
  };
  words = if_none _ failure.words none;
}
unread_log options old new failure (inr (inr (inl (e, none, long)))) = record {
  cause = input_cause (inr (inr e)) (IfSome_then old.bytes long (λ bytes h. inl (e, h)));
  words = if_none _ failure.words none;
}
unread_log options old new failure (inr (inr (inr (bytes, same, (either, number, bad, may))))) = record {
  cause = input_cause (inr either) (IfSome_then old.bytes same
      (λ all is. subst (λ (b : List ℕ). IsBadLog b failure.fault) (sym is) (inr (number, bad))));
  words = known_words ExplainsBadLine old.bytes bytes failure.fault failure.words same
      (IfSome_then failure.words may (λ said h. (number, bad, h)));
}
