use Rattle.std.proofs.Common.{◌≡◌, ◌∙◌, ap, List, [], ◌∷◌, ◌++◌, drop, MatchResult, Ok, Err, Result}
use Rattle.mencius_board.specs.declared.version.Operation.{Operation}
use Rattle.mencius_board.specs.declared.version.Operation.TheVariants.{Stamp}
use Rattle.mencius_board.specs.Marks.{MarkState, VersionState}
use Rattle.mencius_board.specs.Pending.{added_commands, version_after_all}
use Rattle.mencius_board.proofs.ShownEntries.{pending_then, then_stamped}
use Rattle.mencius_board.proofs.logs.LogSteps.{stamped_turns}
use Rattle.mencius_board.proofs.shown.publish.Goals as goal

pub publish_as-requires : goal.publish_as-requires
publish_as-requires g c next is =
    let now : VersionState = c.args.writer.desk.shown.value in
    let h : MarkState = c.args.log.now in
    let old : List Operation = drop c.args.writer.behind c.args.writer.log.items in
    let all : List Operation = drop c.append.new.self.behind c.append.new.self.log.items in
    stamped_turns _ _ c.append.new.self.desk.shown.value now next old all h c.again.result c.requires.limit
    (ap (λ d. d.shown.value) c.append.ensures.desk) c.in-Ok.ensures.pending c.again.ensures
    c.requires.marked c.requires.whole is

pub returns-clause-pending : goal.returns-clause-pending
returns-clause-pending g c = pending_then _ _ _ _ _
    (drop c.args.writer.behind c.args.writer.log.items) c.again.result c.in-Ok.ensures.pending
    c.publish_as.ensures.values

-- after a mark of the whole list was handed over and published, the shown value has this mark and this list. If
-- publishing failed, the shown value is as before
shown_then : {A E : Type 0} (X Y : Type 0) (r : Result A E) (new s now : VersionState) (all old : List Operation)
    (mark h : MarkState) → s ≡ now → all ≡ old ++ Stamp mark ∷ [] → mark ≡ h → now.list ++ added_commands old ≡ h.log
    → MatchResult r (λ _. (new ≡ version_after_all s all) × X) (λ _. (new ≡ s) × Y)
    → MatchResult r (λ _. new ≡ record { mark = h; list = h.log }) (λ _. new ≡ now)
shown_then X Y (Ok a) new s now all old mark h same ops is whole e =
    e.0 ∙ (ap (λ (v : VersionState). version_after_all v all) same
    ∙ (ap (version_after_all now) ops ∙ (ap (λ (m : MarkState). version_after_all now (old ++ Stamp m ∷ [])) is
    ∙ then_stamped now old h whole)))
shown_then X Y (Err f) new s now all old mark h same ops is whole e = e.0 ∙ same

pub returns-clause-shown : goal.returns-clause-shown
returns-clause-shown g c =
    shown_then _ _ _ _ _ _ _ (drop c.args.writer.behind c.args.writer.log.items) c.again.result c.args.log.now
    (ap (λ d. d.shown.value) c.append.ensures.desk) c.in-Ok.ensures.pending c.again.ensures c.requires.whole
    c.publish_as.ensures.values
