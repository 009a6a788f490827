use Rattle.std.proofs.Common.{◌∷◌, ◌++◌, reverse, refl, sym, subst, ap, ◌∙◌}
use Rattle.mencius_log.specs.declared.observation.Observation.{Observation}
use Rattle.mencius_log.specs.declared.observation.Observation.TheVariants.{Submit}
use Rattle.mencius_clients.specs.ManyStates.{ComesAfterMany}
use Rattle.mencius_clients.specs.OrdersSoFar.{HasFound}
use Rattle.mencius_clients.specs.Searched.{HasReplied, IsAfter}
use Rattle.mencius_clients.proofs.SearchFound.{other_line, search_passes}
use Rattle.mencius_clients.proofs.Searching.{passed_over}
use Rattle.mencius_clients.proofs.search.Search.take.Goals as goal

pub returns-in_default-clause-after : goal.returns-in_default-clause-after
returns-in_default-clause-after c u later whole h =
    passed_over _ u c.args.log.now c.args.self.now c.args.observation.now
    (c.in_default.not-Submit, λ id x e. absurd (c.in_default.not-Reply id x e)) h

pub returns-in_default-clause-found : goal.returns-in_default-clause-found
returns-in_default-clause-found c u later whole at one s h goes =
    search_passes c.args.log.now u c.args.observation.now c.args.self.now c.args.self.now (λ key. refl) (λ n step e. e)
    (λ id acked. other_line u c.args.observation.now id (λ x a e. absurd (c.in_default.not-Reply x a e)) acked) h

pub returns-in_ok-called-in-Submit-clause-found : goal.returns-in_ok-called-in-Submit-clause-found
returns-in_ok-called-in-Submit-clause-found c u later whole at one s h goes =
    subst (λ (o : Observation). HasFound c.args.log.now (o ∷ u) c.call.new.self) (sym c.in-Submit.is)
    (c.in_ok-called-in-Submit.ensures.found u later (whole ∙ ap (λ o. later ++ o ∷ u) c.in-Submit.is) at s h goes)

pub returns-in_ok-replied-in-Reply-clause-found : goal.returns-in_ok-replied-in-Reply-clause-found
returns-in_ok-replied-in-Reply-clause-found c u later whole at one s h goes =
    subst (λ (o : Observation). HasFound c.args.log.now (o ∷ u) c.reply.new.self) (sym c.in-Reply.is)
    (c.in_ok-replied-in-Reply.ensures.found u later (whole ∙ ap (λ o. later ++ o ∷ u) c.in-Reply.is) one s h goes)

pub returns-in_ok-called-in-Submit-clause-many : goal.returns-in_ok-called-in-Submit-clause-many
returns-in_ok-called-in-Submit-clause-many c u later whole one s h gives =
    let log = c.args.log.now in
    let after =
    c.in_ok-called-in-Submit.ensures.after u later (whole ∙ ap (λ o. later ++ o ∷ u) c.in-Submit.is) s in
    let replied : HasReplied (Submit c.in-Submit.command ∷ u) =
    subst (IsAfter (reverse log) (Submit c.in-Submit.command ∷ u) log c.call.new.self) gives after in
    absurd (cc (replied.3))

pub returns-in_ok-replied-in-Reply-clause-many : goal.returns-in_ok-replied-in-Reply-clause-many
returns-in_ok-replied-in-Reply-clause-many c u later whole one s h gives =
    subst (λ (o : Observation). ComesAfterMany u o c.args.limit) (sym c.in-Reply.is)
    (c.in_ok-replied-in-Reply.ensures.many u later (whole ∙ ap (λ o. later ++ o ∷ u) c.in-Reply.is) one s h gives)
