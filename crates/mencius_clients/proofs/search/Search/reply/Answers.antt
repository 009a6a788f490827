use Rattle.mencius_judge.specs.Log.{acknowledged, has_id}
use Rattle.mencius_clients.specs.OrdersSoFar.{AreWithin, IsSoundlyAnswered}
use Rattle.mencius_clients.specs.States.{ReachMany}
use Rattle.mencius_clients.proofs.SearchFound.{search_many, search_passes, search_replies}
use Rattle.std.proofs.Common.{[], ◌∷◌, ◌++◌, ◌||◌, cond, refl, ◌≡◌, ◌≢◌, reverse, ◌<◌, ℕ, List, Some, ap, arith, sym, subst, false, ◌∙◌}
use Rattle.std.specs.BTreeMap.{get_by_text}
use Rattle.std.specs.List.{Contains}
use Rattle.std.proofs.lemmas.List.{reverse-reverse}
use Rattle.mencius_base.specs.declared.command.Command.{Command}
use Rattle.mencius_model.specs.KeyMap.{key_of}
use Rattle.mencius_log.specs.declared.observation.Observation.TheVariants.{Reply}
use Rattle.mencius_judge.specs.Log.{command_of, is_failed}
use Rattle.mencius_judge.specs.Tables.{number_count}
use Rattle.mencius_clients.specs.Configurations.{IsAnswered}
use Rattle.mencius_clients.specs.Searched.{configurations_of, slots_of}
use Rattle.mencius_clients.proofs.Later.{contains_reverse}
use Rattle.mencius_clients.proofs.Searching.{failed_passes, passed_over, replied, unknown}
use Rattle.mencius_clients.proofs.search.Search.reply.Goals as goal

pub returns-then-is_failed-clause-after : goal.returns-then-is_failed-clause-after
returns-then-is_failed-clause-after c u later whole h =
    passed_over _ u c.args.log.now c.args.self.now (Reply c.args.id c.args.answer.now)
    (failed_passes c.args.id c.args.answer.now (sym c.is_failed.ensures ∙ c.if-is_failed.true)) h

pub returns-in_default-clause-after : goal.returns-in_default-clause-after
returns-in_default-clause-after c u later whole h =
    let small : c.args.id.number < number_count = omega arith in
    unknown _ u later c.args.id c.args.answer.now (sym c.is_failed.ensures ∙ c.if-is_failed.false) whole
    (sym (h.calls c.args.id small) ∙ c.in_default.ensures)

pub returns-clause-after : goal.returns-clause-after
returns-clause-after c u later whole h =
    let s = c.args.self.now in
    let t = c.reply_key.new.self in
    let log = c.args.log.now in
    let x : Command = c.in-Some.command.now in
    let small : c.args.id.number < number_count = omega arith in
    let is : command_of u c.args.id ≡ Some x = sym (h.calls c.args.id small) ∙ c.in-Some.ensures in
    let key : c.key_of.result.now ≡ key_of x.op = c.key_of.ensures ∙ ap key_of c.op.ensures.op in
    let counts : is_failed c.args.answer.now ≡ false = sym c.is_failed.ensures ∙ c.if-is_failed.false in
    let more = c.in_ok-outcome.ensures in
    replied _ u later log c.args.id c.args.answer.now counts x whole is (λ y a. contains_reverse log (Reply y a))
    (λ y a there. subst (λ l. Contains l (Reply y a)) (reverse-reverse log) (contains_reverse (reverse log) (Reply y a) there)) s t
    c.in_ok-outcome.outcome more.calls
    (subst (λ k. IsAnswered log c.args.id (slots_of (get_by_text s.by_key k)) (configurations_of (get_by_text s.by_key k))
    (slots_of (get_by_text t.by_key k)) (configurations_of (get_by_text t.by_key k)) c.in_ok-outcome.outcome) key more.own)
    (subst (λ k. (y : List ℕ) → y ≢ k → get_by_text t.by_key y ≡ get_by_text s.by_key y) key more.others) h

pub returns-then-is_failed-clause-found : goal.returns-then-is_failed-clause-found
returns-then-is_failed-clause-found c u later whole one s h goes =
    search_passes c.args.log.now u (Reply c.args.id c.args.answer.now) c.args.self.now c.args.self.now (λ key. refl)
    (λ n step e. e)
    (λ id acked. ap (λ d. has_id (cond (d || has_id (acknowledged u) c.args.id) (acknowledged u) (acknowledged u ++ c.args.id ∷ [])) id)
    (sym (sym c.is_failed.ensures ∙ c.if-is_failed.true)) ∙ acked) h

pub returns-clause-found : goal.returns-clause-found
returns-clause-found c u later whole one s h goes =
    let log = c.args.log.now in
    let old = c.args.self.now in
    let new = c.reply_key.new.self in
    let x : Command = c.in-Some.command.now in
    let small : c.args.id.number < number_count = omega arith in
    let is : command_of u c.args.id ≡ Some x = sym (s.calls c.args.id small) ∙ c.in-Some.ensures in
    let key : c.key_of.result.now ≡ key_of x.op = c.key_of.ensures ∙ ap key_of c.op.ensures.op in
    let counts : is_failed c.args.answer.now ≡ false = sym c.is_failed.ensures ∙ c.if-is_failed.false in
    let more = c.in_ok-outcome.ensures in
    search_replies log u later c.args.id c.args.answer.now old new x one counts whole is (λ k. (s.keys k).waits)
    more.trail_longer
    (subst (λ k. IsSoundlyAnswered log c.args.id (slots_of (get_by_text old.by_key k))
    (configurations_of (get_by_text old.by_key k)) (slots_of (get_by_text new.by_key k))
    (configurations_of (get_by_text new.by_key k)) old.trail.items new.trail.items) key (more.sound goes))
    (subst (λ k. (y : List ℕ) → y ≢ k → get_by_text new.by_key y ≡ get_by_text old.by_key y) key more.others) h

pub returns-clause-many : goal.returns-clause-many
returns-clause-many c u later whole one s h gives =
    let log = c.args.log.now in
    let old = c.args.self.now in
    let new = c.reply_key.new.self in
    let x : Command = c.in-Some.command.now in
    let small : c.args.id.number < number_count = omega arith in
    let is : command_of u c.args.id ≡ Some x = sym (s.calls c.args.id small) ∙ c.in-Some.ensures in
    let key : c.key_of.result.now ≡ key_of x.op = c.key_of.ensures ∙ ap key_of c.op.ensures.op in
    let counts : is_failed c.args.answer.now ≡ false = sym c.is_failed.ensures ∙ c.if-is_failed.false in
    let more = c.in_ok-outcome.ensures in
    search_many log u later c.args.id c.args.answer.now old new x one counts whole is s more.trail_longer c.args.limit
    (subst (λ k. AreWithin (configurations_of (get_by_text old.by_key k)) old.trail.items
    → ReachMany log (slots_of (get_by_text old.by_key k)) new.trail.items (configurations_of (get_by_text old.by_key k))
    c.args.limit) key (more.many gives)) h
