use Rattle.std.proofs.Common.{ap, ◌∙◌}
use Rattle.coord_paxos.specs.SlotState.{SlotState}
use Rattle.mencius_server.specs.State.{ServerState, slot}
use Rattle.mencius_server.proofs.events.ServerTrace.{slot-server_at}
use Rattle.mencius_server.proofs.events.SubmissionEvents.{first_waiting_at}
use Rattle.mencius_server.proofs.laws.answers.Goals as goal

pub returns-clause-front : goal.returns-clause-front
returns-clause-front c = λ w s at. ap (λ (x : ServerState). x.front) at.state

pub returns-clause-learned : goal.returns-clause-learned
returns-clause-learned c = λ w s at i small.
    ap (λ (x : ServerState). (slot x i).learned) at.state
    ∙ ap (λ (y : SlotState). y.learned) (slot-server_at s.members w s.id i small)

pub returns-clause-waiting : goal.returns-clause-waiting
returns-clause-waiting c = first_waiting_at
