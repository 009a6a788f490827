use Rattle.std.proofs.Common.{◌∙◌, ap, sym}
use Rattle.mencius_board.specs.Runs.{first_end}
use Rattle.mencius_board.proofs.runs.RunSteps.{ended}
use Rattle.mencius_board.proofs.run.Run.into_board.Goals as goal

pub returns-in-Some-clause-ran : goal.returns-in-Some-clause-ran
returns-in-Some-clause-ran g c =
    (ended g.J.Job.plan g.J.Job.first c.self.inside.board c.self.inside.choosers.items c.self.inside.ways.items
    c.self.inside.turns c.in-Some.end c.self.invariant
    (sym (c.first_end.ensures ∙ ap (first_end c.self.inside.turns) c.as_slice.ensures.value) ∙ c.in-Some.is)).0

pub returns-in-Some-clause-failed : goal.returns-in-Some-clause-failed
returns-in-Some-clause-failed g c =
    (ended g.J.Job.plan g.J.Job.first c.self.inside.board c.self.inside.choosers.items c.self.inside.ways.items
    c.self.inside.turns c.in-Some.end c.self.invariant
    (sym (c.first_end.ensures ∙ ap (first_end c.self.inside.turns) c.as_slice.ensures.value) ∙ c.in-Some.is)).1

pub returns-in-Some-clause-fault : goal.returns-in-Some-clause-fault
returns-in-Some-clause-fault g c =
    (ended g.J.Job.plan g.J.Job.first c.self.inside.board c.self.inside.choosers.items c.self.inside.ways.items
    c.self.inside.turns c.in-Some.end c.self.invariant
    (sym (c.first_end.ensures ∙ ap (first_end c.self.inside.turns) c.as_slice.ensures.value) ∙ c.in-Some.is)).2
