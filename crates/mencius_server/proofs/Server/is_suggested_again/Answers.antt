use Rattle.std.proofs.Common.{◌≡◌, sym, ◌∙◌, subst, Some}
use Rattle.std.specs.List.{list_any}
use Rattle.mencius_base.specs.Members.{instances}
use Rattle.mencius_server.specs.Machine.{is_suggested_again, suggested_at}
use Rattle.mencius_server.specs.State.{ServerState}
use Rattle.mencius_server.proofs.invariant.InvariantByCall.{server_state}
use Rattle.mencius_server.proofs.invariant.ServerInvariant.{said_inside}
use Rattle.mencius_server.proofs.Server.is_suggested_again.Goals as goal

pub returns : goal.returns
returns c =
    let now : ServerState = server_state c.self.inside.members c.self.inside.id c.self.inside.front c.self.inside.instances in
    subst (λ (s : ServerState). suggested_at s c.args.inst ≡ Some c.args.ticket
    → c.is_suggested_again.result ≡ list_any (is_suggested_again s c.args.ticket c.args.inst) instances) c.self.view_is
    (λ said. c.is_suggested_again.ensures
    ∙ sym (c.self.invariant.suggested_again c.args.inst c.args.ticket
    (said_inside now c.args.inst c.args.ticket c.self.invariant.full said) said))
    c.requires
