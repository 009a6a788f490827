use Rattle.std.proofs.Common.{◌≡◌, ◌++◌, OnOk, sym, subst, string_bytes}
use Rattle.mencius_base.specs.Members.{IsMember}
use Rattle.mencius_cluster.specs.State.{trace_of}
use Rattle.mencius_trace.specs.After.{learned_of}
use Rattle.mencius_trace.proofs.effects.push_learned_of.Goals as goal

pub returns-in-Accepted : goal.returns-in-Accepted
returns-in-Accepted c =
    subst (λ x. OnOk c.push_learned_at.result (IsMember c.args.cluster.now.members c.args.server
    → c.push_learned_at.new.facts.items ≡ c.args.facts.now.items
    ++ learned_of (trace_of c.args.cluster.now) c.args.server c.args.skipped.now c.args.learned x))
    (sym c.in-Accepted.is) c.push_learned_at.ensures

pub returns-in-Learn : goal.returns-in-Learn
returns-in-Learn c =
    subst (λ x. OnOk c.push_learned_at-in-Learn.result (IsMember c.args.cluster.now.members c.args.server
    → c.push_learned_at-in-Learn.new.facts.items ≡ c.args.facts.now.items
    ++ learned_of (trace_of c.args.cluster.now) c.args.server c.args.skipped.now c.args.learned x))
    (sym c.in-Learn.is) c.push_learned_at-in-Learn.ensures
