-- If a picture is not drawn, the input gives no trace, the picture would be too large, or memory ran out.
use Rattle.mencius_app.proofs.Words.{IfSome_then, ◌≡◌, ◌<◌, inl, inr, ℕ, List, Option, Some, None, string_bytes, refl, StreamState, Failure, IoFault, BadLimit, scenario, Replay}
use Rattle.mencius_draw.specs.declared.options.Options.{Options}
use Rattle.mencius_draw.specs.Places.{most_levels}
use Rattle.mencius_app.specs.Pictures.{ExplainsPicture, IsRefusedAs, explained_drawing, levels_in, too_large_words}
use Rattle.mencius_app.specs.Failures.{ExplainsAs, ExplainsIn, FailsReading, FailsToMake}
use Rattle.mencius_app.specs.Input.{HasFault, unless_long}
use Rattle.mencius_app.specs.Replay.{IsTraceOf}
use Rattle.mencius_app.proofs.inputs.Inputs.{input_cause, own_failure}

-- a failure to read a scenario is also a failure to draw its picture, with the same cause and words
pub without_scenario : (o : Options) (old new : StreamState) (failure : Failure)
    → FailsReading (HasFault (unless_long scenario)) (ExplainsAs Replay) old new failure
    → FailsToMake (explained_drawing o) old new failure
without_scenario o old new failure h = record {
  cause = record {
    bad_input = λ bad. inl (h.cause.bad_input bad);
    read_failed = h.cause.read_failed;
    no_writer = h.cause.no_writer;
  };
  words = IfSome_then failure.words h.words (λ said told. IfSome_then old.bytes told (λ bytes why. elim why [
    | inl is ↦ inl (inl is)
    | inr long ↦ inr long
  ]));
}

large_words : (o : Options) (known : Option (List ℕ)) (trace words : List ℕ) (fault : IoFault) → IsTraceOf known trace
    → fault ≡ BadLimit → most_levels < levels_in o trace → words ≡ too_large_words (levels_in o trace)
    → ExplainsIn (ExplainsPicture o) known fault words
large_words o None trace words fault is limit large h = tt
large_words o (Some bytes) trace words fault is limit large h =
    inl (inr (limit, levels_in o trace, (trace, is, refl, large), h))

-- the refusal to draw the picture of a trace is a failure of the task
pub without_picture : (o : Options) (old new : StreamState) (trace : List ℕ) (failure : Failure)
    → IsTraceOf old.bytes trace → IsRefusedAs o trace failure
    → FailsToMake (explained_drawing o) old new failure
without_picture o old new trace failure is (inl memory) = own_failure failure memory
without_picture o old new trace failure is (inr large) = record {
  cause = input_cause (inr (inr large.0)) (inr (large.0, levels_in o trace, (trace, is, refl, large.1)));
  words = IfSome_then failure.words large.2
      (λ said h. large_words o old.bytes trace (string_bytes said) failure.fault is large.0 large.1 h);
}
