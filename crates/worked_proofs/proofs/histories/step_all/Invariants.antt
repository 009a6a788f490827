use Rattle.std.proofs.Common.{List}
use Rattle.mencius_base.specs.declared.refusal.Refusal.{Refusal}
use Rattle.std.specs.Prelude.{Option}
use Rattle.mencius_cluster.proofs.events.EventLists.{IsReplayed}
use Rattle.worked_proofs.proofs.histories.step_all.Given as goal

-- the cluster took the events so far, each with some outcome
abbrev pub invariant-loop-event : goal.invariant-loop-event
invariant-loop-event l = (outcomes : List (Option Refusal)) × IsReplayed l.initial.cluster l.yielded l.cluster outcomes
