-- The notes taken before an event, so that its effects can be shown after it.
use Rattle.std.specs.Prelude.{◌≡◌, Ok, ℕ, ◌<◌, Bool, false, List, [], Option, Some, None, option_map, slice_get, IfSome, map, is_none, ◌&&◌}
use Rattle.mencius_model.specs.Rules.{is_skipped_by}
use Rattle.std.specs.List.{filter}
use Rattle.mencius_base.specs.Limits.{instance_count}
use Rattle.mencius_base.specs.Members.{IsMember, Membership, instances}
use Rattle.mencius_base.specs.Numbers.{ServerId, Inst}
use Rattle.mencius_base.specs.declared.event.Event.{Event}
use Rattle.mencius_base.specs.declared.event.Event.TheVariants.{Deliver, Execute}
use Rattle.mencius_base.specs.declared.message.Message.{Message}
use Rattle.mencius_base.specs.declared.message.Message.TheVariants.{Skip}
use Rattle.mencius_base.specs.declared.message.Value.{Value}
use Rattle.mencius_base.specs.declared.message.Value.TheVariants.{Noop, Ticket}
use Rattle.mencius_cluster.specs.Answers.{if_member}
use Rattle.mencius_cluster.specs.State.{ClusterState, trace_of}
use Rattle.mencius_model.specs.Trace.{Trace, sent_messages, Learned}
use Rattle.mencius_model.specs.Instance.{learned_value}
use Rattle.mencius_model.specs.Server.{done, front}
use Rattle.mencius_model.specs.Next.{replay, server_of}
use Rattle.mencius_model.specs.Replies.{command_at}
use Rattle.mencius_trace.specs.declared.before.Before.{Before}
use Rattle.mencius_trace.specs.declared.fact.Fact.{Fact}
use Rattle.mencius_trace.specs.declared.reaction.Reaction.{Reaction}
use Rattle.mencius_trace.specs.Effects.{reaction, instance_of, is_pending, learned_facts}

-- the message that an event delivers, if any
abbrev pub heard_in : Trace → Event → Option Message
heard_in w (Deliver k p) = slice_get (sent_messages w) k
heard_in w _ = None

-- the facts about the instances that a Skip makes p learn
abbrev pub skipped_facts : Membership → Trace → ServerId → Option Message → List Fact
skipped_facts m w p (Some (Skip from first stop)) =
    learned_facts
    (map (λ i. Learned p i Noop)
    (filter (λ i. is_skipped_by m i (Skip from first stop) && is_none (learned_value w p i)) instances))
skipped_facts m w p _ = []

-- the instance that an event executes, with its value, if any
abbrev pub execution_in : Trace → Event → Option (Inst × Value)
execution_in w (Execute p) = option_map (λ x. (done w p, x)) (learned_value w p (done w p))
execution_in w _ = None

-- whether the command that an event executes has no reply yet
abbrev pub is_awaited : Trace → Option (Inst × Value) → Bool
is_awaited w (Some (i, Ticket t)) = is_pending w (command_at w t)
is_awaited w _ = false

-- if p is a member and the message heard is about an existing instance, h is p's reaction to it
abbrev pub IsReaction : Membership → Trace → ServerId → Option Message → Reaction → Type 0
IsReaction m w p heard h = IsMember m p → IfSome heard (λ x. instance_of x < instance_count → h ≡ reaction m w p x)

-- if p is a member and the message heard is about an existing instance, these are the facts about the instances that
-- it makes p learn as a Skip
abbrev pub AreSkipped : Membership → Trace → ServerId → Option Message → List Fact → Type 0
AreSkipped m w p heard facts =
    IsMember m p → IfSome heard (λ x. instance_of x < instance_count) → facts ≡ skipped_facts m w p heard

-- the notes are right for the event e at the cluster x, whose journal replays
pub record IsBefore (x : ClusterState) (e : Event) (notes : Before) : Type 0 where
  pub replays : replay x.members x.journal ≡ Ok (trace_of x)
  pub server : notes.server ≡ server_of e
  pub front : notes.front ≡ if_member x.members (server_of e) (front x.members (trace_of x) (server_of e))
  pub heard : notes.heard ≡ heard_in (trace_of x) e
  pub reaction : IsReaction x.members (trace_of x) (server_of e) (heard_in (trace_of x) e) notes.reaction
  pub skipped : AreSkipped x.members (trace_of x) (server_of e) (heard_in (trace_of x) e) notes.skipped.items
  pub execution : IsMember x.members (server_of e) → notes.execution ≡ execution_in (trace_of x) e
  pub awaited : notes.is_awaited ≡ is_awaited (trace_of x) notes.execution
