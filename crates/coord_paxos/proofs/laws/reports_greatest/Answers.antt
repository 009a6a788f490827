use Rattle.std.proofs.Common.{◌≡◌, ℕ, Option, Some, refl, subst}
use Rattle.std.proofs.lemmas.Bool.{eq-eqb}
use Rattle.mencius_base.specs.declared.message.Message.TheVariants.{Promise}
use Rattle.mencius_base.specs.declared.message.Vote.{Vote}
use Rattle.mencius_model.specs.Trace.{Trace, heard_messages}
use Rattle.mencius_model.specs.Instance.{reported_vote, vote_reported}
use Rattle.mencius_model.specs.Laws.{HearsReport}
use Rattle.mencius_model.proofs.trace.Reports.{Stands, Stands-heard, higher_vote-heard}
use Rattle.coord_paxos.proofs.laws.reports_greatest.Goals as goal

-- no vote that was heard has a greater ballot than the reported vote
stands : (w : Trace) (p i b : ℕ) (z : Vote) → HearsReport w p i b z → Stands (reported_vote w p i b) (Some z)
stands w p i b z hears =
    let reports : vote_reported i b (Promise hears.0 hears.1 i b (Some z)) ≡ Some z =
    rw (eq-eqb i i refl, eq-eqb b b refl) in
    subst (λ (o : Option Vote). Stands (reported_vote w p i b) o) reports
    (Stands-heard (vote_reported i b) (heard_messages w p) (Promise hears.0 hears.1 i b (Some z)) hears.2)

pub returns-clause-heard : goal.returns-clause-heard
returns-clause-heard c = λ w p i b x e. higher_vote-heard i b x (heard_messages w p) e

pub returns-clause-greatest : goal.returns-clause-greatest
returns-clause-greatest c =
    λ w p i b y x e hears. subst (λ (o : Option Vote). Stands o (Some x)) e (stands w p i b x hears)

pub returns-clause-some : goal.returns-clause-some
returns-clause-some c =
    λ w p i b x hears none. subst (λ (o : Option Vote). Stands o (Some x)) none (stands w p i b x hears)
