-- The facts about an event, computed from the notes taken before it. The trace after the event is v.
use Rattle.std.specs.Prelude.{ℕ, Bool, List, [], ◌∷◌, ◌++◌, Option, Some, None, nat_lt, if◌then◌else◌, slice_get}
use Rattle.std.specs.List.{flat_map, range_with_len}
use Rattle.mencius_base.specs.Numbers.{ServerId, Inst, MessageNo}
use Rattle.mencius_base.specs.Members.{Membership}
use Rattle.mencius_base.specs.declared.message.Message.{Message}
use Rattle.mencius_base.specs.declared.message.Message.TheVariants.{Skip, Accepted, Learn}
use Rattle.mencius_base.specs.declared.message.Value.{Value}
use Rattle.mencius_model.specs.Trace.{Trace, sent_messages}
use Rattle.mencius_model.specs.Instance.{learned_value}
use Rattle.mencius_trace.specs.declared.fact.Fact.{Fact}
use Rattle.mencius_trace.specs.declared.fact.Fact.TheVariants.{Executed, Learned as FactLearned}
use Rattle.mencius_trace.specs.declared.reaction.Reaction.{Reaction}
use Rattle.mencius_trace.specs.Effects.{awaited_facts, notice, sent_fact}

-- the notice about the message heard, if any
abbrev pub notice_after : Membership → Trace → ServerId → Bool → Reaction → Option Message → List Fact
notice_after m v p is_ignored reaction None = []
notice_after m v p is_ignored reaction (Some x) = notice m v p x is_ignored reaction

-- the fact that p learned a value at i, if any
abbrev pub value_learned : ServerId → Inst → Option Value → List Fact
value_learned p i None = []
value_learned p i (Some value) = FactLearned p i value ∷ []

-- the fact about the value that p learned at i, if the event taught p any instance
abbrev pub learned_at : Trace → ServerId → Inst → ℕ → List Fact
learned_at v p i count = if nat_lt 0 count then value_learned p i (learned_value v p i) else []

-- the facts about the instances that a message taught p. Those of a Skip were noted before the event
abbrev pub learned_of : Trace → ServerId → List Fact → ℕ → Message → List Fact
learned_of v p skipped count (Skip from first stop) = skipped
learned_of v p skipped count (Accepted from to inst ballot) = learned_at v p inst count
learned_of v p skipped count (Learn from inst value) = learned_at v p inst count
learned_of v p skipped count _ = []

-- the facts about the instances that the message heard taught p, if a message was heard
abbrev pub learned_after : Trace → ServerId → List Fact → ℕ → Option Message → List Fact
learned_after v p skipped count None = []
learned_after v p skipped count (Some x) = learned_of v p skipped count x

-- the list that f gives for message k, if there is such a message
abbrev pub of_message : {A : Type 0} → (MessageNo × Message → List A) → MessageNo → Option Message → List A
of_message f k None = []
of_message f k (Some x) = f (k, x)

-- the lists that f gives for `count` messages, from number `first` on
abbrev pub of_messages : {A : Type 0} → (MessageNo × Message → List A) → List Message → MessageNo → ℕ → List A
of_messages f xs first count = flat_map (λ k. of_message f k (slice_get xs k)) (range_with_len first count)

-- the facts about `count` sent messages, from number `first` on
abbrev pub messages_from : Trace → MessageNo → ℕ → List Fact
messages_from v first count = of_messages sent_fact (sent_messages v) first count

-- the facts about the instance that p executed, if any
abbrev pub execution_after : Trace → ServerId → Bool → Option (Inst × Value) → List Fact
execution_after v p is_awaited None = []
execution_after v p is_awaited (Some (i, value)) = Executed p i value ∷ awaited_facts v p i is_awaited value
