-- Every reached trace meets the conditions that the laws of a slot set for a trace.
use Rattle.std.proofs.Common.{◌∙◌, List, ap, inl, inr, arith}
use Rattle.std.specs.List.{list_any}
use Rattle.mencius_base.specs.declared.message.Message.{Message}
use Rattle.mencius_base.specs.declared.message.Message.TheVariants.{Promise}
use Rattle.mencius_model.specs.Trace.{sent_messages}
use Rattle.mencius_model.specs.Instance.{is_acceptance, is_promise, proposal_by, tried_by}
use Rattle.mencius_model.proofs.trace.Lists.{get_in}
use Rattle.mencius_model.proofs.trace.OneMoreLine.{greatest_quiet, oldest_quiet}
use Rattle.mencius_model.proofs.trace.AnswersLast.{sent_in}
use Rattle.mencius_model.proofs.rights.EventRights.{free_ahead}
use Rattle.mencius_model.proofs.rights.Journals.{reached_grown, some_server}
use Rattle.mencius_model.proofs.reached.Senders.{prepare_right, promise_asked}
use Rattle.mencius_model.proofs.reached.OwnBallots.{next_untried}
use Rattle.mencius_model.proofs.reached.ServerFacts.{server_facts}
use Rattle.coord_paxos.specs.Premises.{AcceptedGoesToOwner, AcceptedWasProposed, FreeIsUnsaid, NextIsUntried, PromiseIsPositive, ProposeIsProposal, SuggestIsProposal, UntouchedLeavesPremises}
use Rattle.coord_paxos.proofs.SlotLaws.{untouched_heard, untouched_quiet, voted_later}

pub accepted_was_proposed : AcceptedWasProposed
accepted_was_proposed m w r p i = record { proposal = (server_facts m w r).voted p i }

pub free_is_unsaid : FreeIsUnsaid
free_is_unsaid m w r p i free =
    let ahead = free_ahead m w p i free in
    let facts = server_facts m w r in
    (ahead.own, facts.own_untried p i ahead.own, facts.own_unsaid p i ahead.own ahead.past)

pub next_is_untried : NextIsUntried
next_is_untried m w r p i member = next_untried m w r p i member

pub suggest_is_proposal : SuggestIsProposal
suggest_is_proposal m w r = (server_facts m w r).one_suggest

pub propose_is_proposal : ProposeIsProposal
propose_is_proposal m w r = (server_facts m w r).one_propose

pub promise_is_positive : PromiseIsPositive
promise_is_positive m w r k q p i b o h =
    elim (some_server m w r) [
      | inl e ↦ let none = rw e at h in absurd (cc)
      | inr few ↦
          let grown = reached_grown m w r in
          let promise = Promise q p i b o in
          let asked = promise_asked m w grown q p i b o (sent_in promise w (get_in (sent_messages w) k promise h)) in
          let right = prepare_right m w grown p i b asked in
          omega (arith, few, right.above)
    ]

pub accepted_goes_to_owner : AcceptedGoesToOwner
accepted_goes_to_owner m w r = (server_facts m w r).to_owner

pub untouched_leaves_premises : UntouchedLeavesPremises
untouched_leaves_premises w p i l e =
    let quiet = untouched_quiet p i l e in
    let deaf = untouched_heard w p i l e in (
      voted_later w l p i quiet,
      greatest_quiet (tried_by p i) l w quiet.tried,
      λ b. oldest_quiet (proposal_by i b) l w (quiet.proposed b),
      λ b untried. record {
        unpromised = λ q. ap (λ (hs : List Message). list_any (is_promise i b q) hs) deaf ∙ untried.unpromised q;
        unaccepted = λ q. ap (λ (hs : List Message). list_any (is_acceptance i b q) hs) deaf ∙ untried.unaccepted q;
        unsaid = oldest_quiet (proposal_by i b) l w (quiet.proposed b) ∙ untried.unsaid;
      },
    )
