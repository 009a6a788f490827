use Rattle.std.proofs.Common.{◌∙◌, ◌++◌, ap, refl, subst}
use Rattle.mencius_command_line.specs.CommandLine.{bytes_of}
use Rattle.mencius_app.specs.Ending.{lines_of_ending, status_of_ending}
use Rattle.mencius_exports.specs.Calls.{IsCall, words_in}
use Rattle.mencius_exports.proofs.CallEnds.{ended_call, followed, text_follows}
use Rattle.mencius_exports.proofs.call.call.Goals as goal

pub returns : goal.returns
returns c =
    let performed = c.perform_in_turns-ending in
    let words = words_in c.args.words.now in
    let args = bytes_of c.as_slice-arguments.result.now in
    let rest = c.new-source.result.rest.now in
    let out = performed.new.sink.bytes.items in
    let err = performed.new.errors.bytes.items ++ lines_of_ending performed.result in
    let is_asked = performed.new.source.is_asked in
    let args_is = ap bytes_of c.as_slice-arguments.ensures.value ∙ c.in_ok-arguments.ensures in
    let ended = c.end_call in
    ended_call (IsCall words c.args.input.now) ended.result (status_of_ending performed.result)
    performed.new.sink.failures performed.new.errors.failures out err is_asked ended.ensures.whole
    ended.ensures.status ended.ensures.printed ended.ensures.said ended.ensures.read
    (λ none still.
    subst (λ i. IsCall words i (status_of_ending performed.result) out err is_asked) c.new-source.ensures.rest
    (subst (λ a. IsCall a rest (status_of_ending performed.result) out err is_asked) args_is (
      performed.result,
      refl,
      record {
        left = performed.new.source.rest.now;
        told = performed.new.errors.bytes.items;
        call = followed args performed.result _ _ _ _ _ _
            (refl, refl, λ same. ap (λ s. (s.rest.now, s.is_asked)) same ∙ ap (λ a. (rest, a)) c.new-source.ensures.unread)
            (text_follows (λ t. t.bytes.items) (λ t. t.failures) _ _ c.new-sink.ensures.bytes c.new-sink.ensures.none none)
            (text_follows (λ t. t.bytes.items) (λ t. t.failures) _ _ c.new-errors.ensures.bytes
            c.new-errors.ensures.none still)
            performed.ensures.call;
        no_board = performed.ensures.no_board;
        says = refl;
      },
    )))
