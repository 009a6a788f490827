use Rattle.mencius_clients.specs.declared.steps.Step.{Step}
use Rattle.mencius_log.specs.declared.observation.Observation.TheVariants.{Submit}
use Rattle.mencius_clients.proofs.SearchFound.{search_calls, search_passes}
use Rattle.std.proofs.Common.{Global, Vec, ◌≡◌, ◌≢◌, ◌<◌, refl, ℕ, List, Some, None, ap, arith, is_some, sym, subst, true, ◌∙◌}
use Rattle.std.specs.BTreeMap.{Updates, get_by_text}
use Rattle.std.specs.Ordering.{nat_cmp}
use Rattle.std.proofs.lemmas.Bool.{MatchBool-at_false, MatchBool-at_true, OnTrue_at}
use Rattle.mencius_base.specs.declared.command.Command.{Command}
use Rattle.mencius_model.specs.KeyMap.{key_of}
use Rattle.mencius_judge.specs.Log.{command_of}
use Rattle.mencius_judge.specs.Tables.{identity_key, number_count}
use Rattle.mencius_clients.specs.Configurations.{IsCrowded, IsPlaced, submitted_by}
use Rattle.mencius_clients.specs.Searched.{configurations_of, slots_of}
use Rattle.mencius_clients.proofs.Searching.{called_again, called_crowded, called_first, called_idle, unsaid_of}
use Rattle.mencius_clients.proofs.search.Search.call.Goals as goal

pub returns-in-Some-clause-after : goal.returns-in-Some-clause-after
returns-in-Some-clause-after c u later whole h =
    let x : Command = c.args.command.now in
    let small : c.id-id.result.number < number_count = omega arith in
    let there : command_of u c.id-id.result ≡ Some c.in-Some._known.now =
    sym (h.calls c.id-id.result small) ∙ c.in-Some.ensures in
    called_again _ u c.args.log.now c.args.self.now x
    (subst (λ id. is_some (command_of u id) ≡ true) c.id-id.ensures (ap is_some there)) h

pub returns-then-is_idle-clause-after : goal.returns-then-is_idle-clause-after
returns-then-is_idle-clause-after c u later whole h =
    let s = c.args.self.now in
    let x : Command = c.args.command.now in
    let small : c.id-id.result.number < number_count = omega arith in
    let none : command_of u c.id-id.result ≡ None = sym (h.calls c.id-id.result small) ∙ c.in_default.ensures in
    let first : command_of u x.id ≡ None = subst (λ id. command_of u id ≡ None) c.id-id.ensures none in
    let identity : c.identity_key.result ≡ identity_key x.id = c.identity_key.ensures ∙ ap identity_key c.id-id.ensures in
    called_idle _ u later c.args.log.now x whole first (unsaid_of _ u c.args.log.now s x.id first h) c.args.line
    (ap submitted_by c.requires.line) s _ (c.is_idle.ensures.idle c.if-is_idle.true)
    (subst (λ id. id.number < number_count) c.id-id.ensures small)
    (subst (λ k. Updates nat_cmp s.calls c.put.new.map k (Some c.args.line)) identity c.in_ok-put.ensures) refl h

pub returns-then-not-branch-clause-after : goal.returns-then-not-branch-clause-after
returns-then-not-branch-clause-after c u later whole h =
    let s = c.args.self.now in
    let x : Command = c.args.command.now in
    let small : c.id-id.result.number < number_count = omega arith in
    let none : command_of u c.id-id.result ≡ None = sym (h.calls c.id-id.result small) ∙ c.in_default.ensures in
    let first : command_of u x.id ≡ None = subst (λ id. command_of u id ≡ None) c.id-id.ensures none in
    let key : c.key_of.result.now ≡ key_of x.op = c.key_of.ensures ∙ ap key_of c.op.ensures.op in
    let crowded : IsCrowded c.args.log.now (slots_of (get_by_text s.by_key c.key_of.result.now)) =
    MatchBool-at_false (IsPlaced c.args.log.now (slots_of (get_by_text s.by_key c.key_of.result.now)) (slots_of (get_by_text c.call_key.new.self.by_key c.key_of.result.now)) c.args.line)
    (IsCrowded c.args.log.now (slots_of (get_by_text s.by_key c.key_of.result.now))) c.if-not-branch.true c.in_ok-call_key.ensures.slots in
    called_crowded _ u later c.args.log.now x whole first (unsaid_of _ u c.args.log.now s x.id first h) c.args.line
    (ap submitted_by c.requires.line) (slots_of (get_by_text s.by_key (key_of x.op)))
    (subst (λ k. IsCrowded c.args.log.now (slots_of (get_by_text s.by_key k))) key crowded) (h.keys (key_of x.op)).waits

pub returns-clause-after : goal.returns-clause-after
returns-clause-after c u later whole h =
    let s = c.args.self.now in
    let t = c.call_key.new.self in
    let x : Command = c.args.command.now in
    let small : c.id-id.result.number < number_count = omega arith in
    let none : command_of u c.id-id.result ≡ None = sym (h.calls c.id-id.result small) ∙ c.in_default.ensures in
    let first : command_of u x.id ≡ None = subst (λ id. command_of u id ≡ None) c.id-id.ensures none in
    let key : c.key_of.result.now ≡ key_of x.op = c.key_of.ensures ∙ ap key_of c.op.ensures.op in
    let placed_is : c.in_ok-call_key.field-0 ≡ true = c.if-not-branch.false in
    let more = c.in_ok-call_key.ensures in
    let identity : c.identity_key-2.result ≡ identity_key x.id = c.identity_key-2.ensures ∙ ap identity_key c.id-id.ensures in
    called_first _ u later c.args.log.now x whole first (unsaid_of _ u c.args.log.now s x.id first h) c.args.line
    (ap submitted_by c.requires.line) s _
    (subst (λ id. id.number < number_count) c.id-id.ensures small)
    (subst (λ k. Updates nat_cmp s.calls c.put-2.new.map k (Some c.args.line)) identity
    (subst (λ m. Updates nat_cmp m c.put-2.new.map c.identity_key-2.result (Some c.args.line)) more.calls c.in_ok-put-2.ensures))
    (subst (λ k. IsPlaced c.args.log.now (slots_of (get_by_text s.by_key k)) (slots_of (get_by_text t.by_key k)) c.args.line) key
    (MatchBool-at_true (IsPlaced c.args.log.now (slots_of (get_by_text s.by_key c.key_of.result.now)) (slots_of (get_by_text t.by_key c.key_of.result.now)) c.args.line)
    (IsCrowded c.args.log.now (slots_of (get_by_text s.by_key c.key_of.result.now))) placed_is more.slots))
    (subst (λ k. configurations_of (get_by_text t.by_key k) ≡ configurations_of (get_by_text s.by_key k)) key
    (OnTrue_at placed_is more.configurations))
    (subst (λ k. (y : List ℕ) → y ≢ k → get_by_text t.by_key y ≡ get_by_text s.by_key y) key
    (OnTrue_at placed_is more.others)) h

pub returns-in-Some-clause-found : goal.returns-in-Some-clause-found
returns-in-Some-clause-found c u later whole at s h goes =
    search_passes c.args.log.now u (Submit c.args.command.now) c.args.self.now c.args.self.now (λ key. refl) (λ n step e. e)
    (λ id acked. acked) h

pub returns-then-is_idle-clause-found : goal.returns-then-is_idle-clause-found
returns-then-is_idle-clause-found c u later whole at s h goes =
    search_passes c.args.log.now u (Submit c.args.command.now) c.args.self.now (record c.args.self.now { calls = c.put.new.map })
    (λ key. refl) (λ n step e. e)
    (λ id acked. acked) h

pub returns-clause-found : goal.returns-clause-found
returns-clause-found c u later whole at h found goes =
    let s = c.args.self.now in
    let t = c.call_key.new.self in
    let log = c.args.log.now in
    let x : Command = c.args.command.now in
    let small : c.id-id.result.number < number_count = omega arith in
    let none : command_of u c.id-id.result ≡ None = sym (h.calls c.id-id.result small) ∙ c.in_default.ensures in
    let first : command_of u x.id ≡ None = subst (λ id. command_of u id ≡ None) c.id-id.ensures none in
    let key : c.key_of.result.now ≡ key_of x.op = c.key_of.ensures ∙ ap key_of c.op.ensures.op in
    let placed_is : c.in_ok-call_key.field-0 ≡ true = c.if-not-branch.false in
    let more = c.in_ok-call_key.ensures in
    search_calls log u s (record t { calls = c.put-2.new.map }) c.args.line x
    (subst (λ k. IsPlaced log (slots_of (get_by_text s.by_key k)) (slots_of (get_by_text t.by_key k)) c.args.line) key
    (MatchBool-at_true (IsPlaced log (slots_of (get_by_text s.by_key c.key_of.result.now)) (slots_of (get_by_text t.by_key c.key_of.result.now)) c.args.line)
    (IsCrowded log (slots_of (get_by_text s.by_key c.key_of.result.now))) placed_is more.slots))
    (subst (λ k. configurations_of (get_by_text t.by_key k) ≡ configurations_of (get_by_text s.by_key k)) key
    (OnTrue_at placed_is more.configurations))
    (subst (λ k. (y : List ℕ) → y ≢ k → get_by_text t.by_key y ≡ get_by_text s.by_key y) key
    (OnTrue_at placed_is more.others))
    (ap (λ (v : Vec Step Global). v.items) more.trail)
    (ap submitted_by c.requires.line) at first
    (λ a unacked there. c.is_idle.ensures.other c.if-is_idle.false unacked a there) found
