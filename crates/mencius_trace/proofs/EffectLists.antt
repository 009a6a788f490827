-- The parts of the facts about an accepted event, put together, are the facts that the definitions give.
use Rattle.std.proofs.Common.{◌≡◌, ℕ, ◌-◌, ◌<◌, ◌≤◌, List, ◌++◌, Some, eqb, ◌&&◌, length, sym, ap, subst, ◌∙◌, append_assoc}
use Rattle.std.specs.Prelude.{IfSome}
use Rattle.mencius_base.specs.Limits.{instance_count, most_servers}
use Rattle.mencius_base.specs.Members.{IsMember, Membership}
use Rattle.mencius_base.specs.declared.event.Event.{Event}
use Rattle.mencius_cluster.specs.State.{ClusterState, IsStepped, trace_of}
use Rattle.mencius_cluster.specs.declared.cluster.Effect.{Effect}
use Rattle.mencius_model.specs.Trace.{Trace, sent_messages}
use Rattle.mencius_model.specs.Server.{front}
use Rattle.mencius_model.specs.Next.{IsReached, learned_count, lines, with_event, server_of}
use Rattle.mencius_model.proofs.rights.EventRights.{next_is}
use Rattle.mencius_trace.specs.declared.before.Before.{Before}
use Rattle.mencius_trace.specs.declared.fact.Fact.{Fact}
use Rattle.mencius_trace.specs.Effects.{effects, execution_facts, front_facts, instance_of, is_ignored, learned_facts, notices, sent_facts}
use Rattle.mencius_trace.specs.Before.{IsBefore, heard_in, is_awaited}
use Rattle.mencius_trace.specs.After.{execution_after, learned_after, messages_from, notice_after}
use Rattle.mencius_trace.proofs.MemberAnswers.{of_member_is}
use Rattle.mencius_trace.proofs.EffectParts.{server_member, execution_same, learned_same, notice_same, sent_same, small_heard}

five : (t0 t1 t2 t3 t4 t5 : List Fact)
    → ((((t0 ++ t1) ++ t2) ++ t3) ++ t4) ++ t5 ≡ t0 ++ ((((t1 ++ t2) ++ t3) ++ t4) ++ t5)
five t0 t1 t2 t3 t4 t5 =
    ap (λ xs. ((xs ++ t3) ++ t4) ++ t5) (append_assoc t0 t1 t2)
    ∙ ap (λ xs. (xs ++ t4) ++ t5) (append_assoc t0 (t1 ++ t2) t3)
    ∙ ap (λ xs. xs ++ t5) (append_assoc t0 ((t1 ++ t2) ++ t3) t4) ∙ append_assoc t0 (((t1 ++ t2) ++ t3) ++ t4) t5

module _ (old new : ClusterState) (e : Event) (before : Before) (effect : Effect) (noted : IsBefore old e before)
    (step : IsStepped old new e effect) (few : new.members.count ≤ most_servers) where
  abbrev m : Membership
  m = old.members

  abbrev w : Trace
  w = trace_of old

  abbrev v : Trace
  v = trace_of new

  v_is : with_event m w e ≡ v
  v_is = (next_is m w v e step.trace).is

  reached : IsReached m w
  reached = record { journal = old.journal; replays = noted.replays }

  member : IsMember m (server_of e)
  member = server_member m w e (next_is m w v e step.trace).allowed

  here : IsMember new.members before.server
  here = subst (λ (n : Membership). IsMember n before.server) (sym step.members)
      (subst (λ p. IsMember m p) (sym noted.server) member)

  small : IfSome (heard_in w e) (λ x. instance_of x < instance_count)
  small = small_heard m (subst (λ (n : Membership). n.count ≤ most_servers) step.members few) w reached e

  small_here : IfSome before.heard (λ x. instance_of x < instance_count)
  small_here = subst (λ o. IfSome o (λ x. instance_of x < instance_count)) (sym noted.heard) small

  learned_is : effect.learned ≡ learned_count (lines m w e)
  learned_is = ap (λ (x : Effect). x.learned) step.effect_is

  first_is : effect.first ≡ length (sent_messages w)
  first_is = ap (λ (x : Effect). x.first) step.effect_is

  noticed :
      notice_after new.members v before.server (eqb effect.sent 0 && eqb effect.learned 0) before.reaction before.heard
      ≡ notices m w v e
  noticed =
      ap (λ n. notice_after n v before.server (eqb effect.sent 0 && eqb effect.learned 0) before.reaction before.heard)
      step.members
      ∙ ap (λ p. notice_after m v p (eqb effect.sent 0 && eqb effect.learned 0) before.reaction before.heard)
      noted.server
      ∙ ap (λ (x : Effect).
      notice_after m v (server_of e) (eqb x.sent 0 && eqb x.learned 0) before.reaction before.heard)
      step.effect_is
      ∙ ap (notice_after m v (server_of e) (is_ignored (lines m w e)) before.reaction) noted.heard
      ∙ notice_same m w v e before.reaction small (noted.reaction member)

  taught : learned_after v before.server before.skipped.items effect.learned before.heard
      ≡ learned_facts (lines m w e)
  taught =
      ap (λ p. learned_after v p before.skipped.items effect.learned before.heard) noted.server
      ∙ ap (λ n. learned_after v (server_of e) before.skipped.items n before.heard) learned_is
      ∙ ap (learned_after v (server_of e) before.skipped.items (learned_count (lines m w e))) noted.heard
      ∙ subst (λ (x : Trace).
      learned_after x (server_of e) before.skipped.items (learned_count (lines m w e)) (heard_in w e)
      ≡ learned_facts (lines m w e)) v_is
      (learned_same m w e before.skipped.items (noted.skipped member small))

  messages : messages_from v effect.first (length (sent_messages v) - effect.first)
      ≡ sent_facts (length (sent_messages w)) (lines m w e)
  messages =
      ap (λ n. messages_from v n (length (sent_messages v) - n)) first_is
      ∙ subst
      (λ (x : Trace). messages_from x (length (sent_messages w)) (length (sent_messages x) - length (sent_messages w))
      ≡ sent_facts (length (sent_messages w)) (lines m w e)) v_is (sent_same m w e)

  front_was : before.front ≡ Some (front m w (server_of e))
  front_was = noted.front ∙ of_member_is m (server_of e) (Some (front m w (server_of e))) member

  moved : front_facts before.server (front m w (server_of e)) (front new.members v before.server)
      ≡ front_facts (server_of e) (front m w (server_of e)) (front m v (server_of e))
  moved =
      ap (λ n. front_facts before.server (front m w (server_of e)) (front n v before.server)) step.members
      ∙ ap (λ p. front_facts p (front m w (server_of e)) (front m v p)) noted.server

  executed_then : execution_after v before.server before.is_awaited before.execution ≡ execution_facts w v e
  executed_then =
      ap (λ p. execution_after v p before.is_awaited before.execution) noted.server
      ∙ ap (λ a. execution_after v (server_of e) a before.execution) noted.awaited
      ∙ ap (λ x. execution_after v (server_of e) (is_awaited w x) x) (noted.execution member)
      ∙ execution_same w v e

  pub effects_are : (t0 t1 t2 t3 t4 t5 : List Fact)
      → (IsMember new.members before.server → IfSome before.heard (λ x. instance_of x < instance_count)
      → t1 ≡ t0 ++ notice_after new.members v before.server (eqb effect.sent 0 && eqb effect.learned 0) before.reaction
      before.heard)
      → (IsMember new.members before.server
      → t2 ≡ t1 ++ learned_after v before.server before.skipped.items effect.learned before.heard)
      → t3 ≡ t2 ++ messages_from v effect.first (length (sent_messages v) - effect.first)
      → ((former : ℕ) → before.front ≡ Some former → IsMember new.members before.server
      → t4 ≡ t3 ++ front_facts before.server former (front new.members v before.server))
      → t5 ≡ t4 ++ execution_after v before.server before.is_awaited before.execution
      → t5 ≡ t0 ++ effects m w v e
  effects_are t0 t1 t2 t3 t4 t5 h1 h2 h3 h4 h5 =
      let g1 : t1 ≡ t0 ++ notices m w v e = h1 here small_here ∙ ap (λ text. t0 ++ text) noticed in
      let g2 : t2 ≡ (t0 ++ notices m w v e) ++ learned_facts (lines m w e) =
      h2 here ∙ ap (λ text. t1 ++ text) taught ∙ ap (λ text. text ++ learned_facts (lines m w e)) g1 in
      let g3 = h3 ∙ ap (λ text. t2 ++ text) messages
      ∙ ap (λ text. text ++ sent_facts (length (sent_messages w)) (lines m w e)) g2 in
      let g4 = h4 (front m w (server_of e)) front_was here ∙ ap (λ text. t3 ++ text) moved
      ∙ ap (λ text. text ++ front_facts (server_of e) (front m w (server_of e)) (front m v (server_of e))) g3 in
      h5 ∙ ap (λ text. t4 ++ text) executed_then ∙ ap (λ text. text ++ execution_facts w v e) g4
      ∙ five t0 (notices m w v e) (learned_facts (lines m w e))
      (sent_facts (length (sent_messages w)) (lines m w e))
      (front_facts (server_of e) (front m w (server_of e)) (front m v (server_of e))) (execution_facts w v e)
