-- A search that took the whole log has an order of each key.
use Rattle.std.proofs.Common.{◌≡◌, inl, inr, ℕ, ◌<◌, true, false, List, [], ◌∷◌, ◌++◌, Option, Some, None, is_some, length, reverse, slice_get, arith, refl, sym, subst, ap, ◌∙◌, ⊎_elim, append_assoc}
use Rattle.std.proofs.lemmas.Bool.{cases_Bool, cases_eq}
use Rattle.std.proofs.lemmas.List.{reverse-reverse}
use Rattle.mencius_model.specs.KeyMap.{key_of}
use Rattle.mencius_judge.proofs.promises.Logs.{command_found}
use Rattle.mencius_clients.proofs.KeyOrderEntries.{number_within}
use Rattle.mencius_clients.proofs.KeyOrderRight.{contains_middle}
use Rattle.mencius_clients.proofs.OrderGrowth.{begins}
use Rattle.std.specs.BTreeMap.{get_by_text}
use Rattle.std.specs.List.{Contains}
use Rattle.mencius_base.specs.declared.command.Command.{Command}
use Rattle.mencius_base.specs.declared.command.CommandId.{CommandId}
use Rattle.mencius_log.specs.declared.observation.Answer.{Answer}
use Rattle.mencius_log.specs.declared.observation.Observation.{Observation}
use Rattle.mencius_log.specs.declared.observation.Observation.TheVariants.{Reply, Submit}
use Rattle.mencius_judge.specs.Log.{Log, acknowledged, command_of, has_id, is_failed}
use Rattle.mencius_clients.specs.declared.configuration.Configuration.{Configuration}
use Rattle.mencius_clients.specs.declared.key_search.KeySearch.{KeySearch}
use Rattle.mencius_clients.specs.declared.search.Search.{Search}
use Rattle.mencius_clients.specs.declared.steps.Step.{Step}
use Rattle.mencius_clients.specs.Configurations.{IsAcknowledged, IsOneOf, IsPlaced, IsUnacknowledged, IsWaitingAt, command_at, has_slot, submitted_by, text_at, waiting}
use Rattle.mencius_clients.specs.KeyOrders.{AreSteps, HasKeyOrder, HaveKeyOrders, IsKeyOrder, last_step}
use Rattle.mencius_clients.specs.OrdersSoFar.{AreSlots, AreWithin, HasFound, HaveOrdersSoFar, IsFoundBy, IsLongerTrail, IsOrderSoFar, IsSoundlyAnswered}
use Rattle.mencius_clients.specs.ManyStates.{HasManyStates}
use Rattle.mencius_clients.specs.Reached.{AreWaiting}
use Rattle.mencius_clients.specs.States.{ReachMany}
use Rattle.mencius_clients.specs.Searched.{configurations_of, slots_of}
use Rattle.mencius_clients.proofs.Later.{acknowledged_either, command_later, contains_reverse}
use Rattle.mencius_clients.proofs.StatesLeft.{states_left}
use Rattle.mencius_clients.proofs.OrderTrails.{all_pass, all_reachable, all_settled, all_wait, key_order, steps_later}

-- the slots of a search that keeps two facts more: the lines of the slots were taken, and a waiting command that is never
-- acknowledged has no reply
pub slots_are : (log : List Observation) (u later : Log) (key : List ℕ) (slots : List (Option ℕ))
    → reverse log ≡ later ++ u → AreWaiting log u key (waiting log slots)
    → ((t line : ℕ) → slice_get slots t ≡ Some (Some line) → line < length u)
    → ((t : ℕ) (c : Command) (x : Answer) → waiting log slots t ≡ Some c → IsUnacknowledged log c.id
    → Contains log (Reply c.id x) → ⊥)
    → AreSlots log u key slots
slots_are log u later key slots whole h seen silent = record {
  each = λ t line c at submits.
      let there : waiting log slots t ≡ Some c = ap (command_at log) at ∙ submits in (
        record {
          command = c;
          submits = submits;
          first = ap (λ (l : Log). command_of l c.id) whole ∙ command_later later u c.id c (h.called t c there);
          of_key = h.of_key t c there;
        },
        seen t line at,
      );
  open_yet = h.open_yet;
  called = λ t c there. ap is_some (h.called t c there);
  apart = h.apart;
  silent = silent;
}

-- a list that has an item has a first one
first_one : (cs : List Configuration) (c : Configuration) → IsOneOf cs c
    → (d : Configuration) × IsOneOf cs d × (last_step cs ≡ d.trail)
first_one [] c h = let e = h.1 in absurd (cc)
first_one (d ∷ cs) c h = (d, (0, refl), refl)

no_steps : (trail : List Step) (lines : List ℕ) → AreSteps trail 0 lines → lines ≡ []
no_steps trail [] h = refl
no_steps trail (line ∷ lines) h = let e = h.2 in absurd (cc)

by_search : (log : List Observation) (key : List ℕ) (trail : List Step) (o : Option KeySearch)
    → HaveOrdersSoFar log (reverse log) key (slots_of o) trail (configurations_of o)
    → ((c : Configuration) × IsOneOf (configurations_of o) c) → HasKeyOrder log trail key o
by_search log key trail None h some =
    let first = first_one (configurations_of None) some.0 some.1 in
    let r = key_order log key [] trail first.0 (h first.0 first.1) in
    subst (λ ls. IsKeyOrder log key (reverse ls)) (no_steps trail r.0 (subst (λ n. AreSteps trail n r.0) (sym first.2) r.1)) r.2
by_search log key trail (Some s) h some =
    let first = first_one s.configurations.items some.0 some.1 in
    let r = key_order log key s.slots.items trail first.0 (h first.0 first.1) in
    (r.0, subst (λ n. AreSteps trail n r.0) (sym first.2) r.1, r.2)

pub all_found : (log : List Observation) (s : Search)
    → ((id : CommandId) → has_id (acknowledged (reverse log)) id ≡ true → is_some (command_of (reverse log) id) ≡ true)
    → HasFound log (reverse log) s → HaveKeyOrders log s
all_found log s submitted h = record {
  submitted = submitted;
  keys = λ key.
      let k = h key in by_search log key s.trail.items (get_by_text s.by_key key) k.orders k.some;
}

-- ---- one line more

module _ (log : List Observation) (key : List ℕ) where
  abbrev w : Log
  w = reverse log

  -- before the first line, a key has no search
  pub none_found : (trail : List Step)
      → ((c : Configuration) → IsOneOf (configurations_of None) c
      → (c.trail ≡ 0) × (text_at log c.text ≡ None) × ((t : ℕ) → has_slot c.done t ≡ false))
      → ((c : Configuration) × IsOneOf (configurations_of None) c)
      → IsFoundBy log [] key trail None
  none_found trail empty some = record {
    seen = λ t line e. absurd (cc);
    silent = λ t c x e. absurd (cc);
    orders = λ c one.
        let e = empty c one in (
          [],
          e.0,
          subst (λ held. IsOrderSoFar log [] key (waiting log []) (λ t. has_slot c.done t) held []) (sym e.1)
              (begins log key (waiting log []) (λ t. has_slot c.done t) (λ t. refl) e.2),
        );
    some = some;
  }

  -- a line that acknowledges no further command of the key
  pub line_passes : (u : Log) (o : Observation) (old new : List Step) (s : Option KeySearch) → IsLongerTrail old new
      → ((id : CommandId) (c : Command) → has_id (acknowledged (o ∷ u)) id ≡ true → command_of w id ≡ Some c
      → key_of c.op ≡ key → has_id (acknowledged u) id ≡ true)
      → IsFoundBy log u key old s → IsFoundBy log (o ∷ u) key new s
  line_passes u o old new s longer none h = record {
    seen = λ t line e. let less = h.seen t line e in omega arith;
    silent = h.silent;
    orders = all_pass log key u o (slots_of s) old new (configurations_of s) longer none h.orders;
    some = h.some;
  }

  -- a line submits a new command, which waits in a free slot
  pub line_calls : (u : Log) (trail : List Step) (old new : Option KeySearch) (line : ℕ) (command : Command)
      → IsPlaced log (slots_of old) (slots_of new) line → configurations_of new ≡ configurations_of old
      → submitted_by (slice_get log line) ≡ Some command → line ≡ length u → command_of u command.id ≡ None
      → ((x : Answer) → IsUnacknowledged log command.id → Contains log (Reply command.id x) → ⊥)
      → IsFoundBy log u key trail old → IsFoundBy log (Submit command ∷ u) key trail new
  line_calls u trail old new line command placed same submits at fresh silent h = record {
    seen = λ t l e. elim (cases_eq t placed.slot) [
      | inl here ↦
          let is : slice_get (slots_of new) placed.slot ≡ Some (Some l) = ap (slice_get (slots_of new)) (sym here) ∙ e in
          let there = placed.here in
          let one : l ≡ line = cc in
          omega arith
      | inr there ↦ let less = h.seen t l (sym (placed.elsewhere t there) ∙ e) in omega arith
    ];
    silent = λ t c x e none replied. elim (cases_eq t placed.slot) [
      | inl here ↦
          let is : waiting log (slots_of new) placed.slot ≡ Some c = ap (waiting log (slots_of new)) (sym here) ∙ e in
          let mine : waiting log (slots_of new) placed.slot ≡ Some command =
          ap (command_at log) placed.here ∙ submits in
          let one : c ≡ command = cc in
          silent x (subst (λ (d : Command). IsUnacknowledged log d.id) one none)
          (subst (λ (d : Command). Contains log (Reply d.id x)) one replied)
      | inr there ↦
          h.silent t c x (sym (ap (command_at log) (placed.elsewhere t there)) ∙ e) none replied
    ];
    orders = all_pass log key u (Submit command) (slots_of new) trail trail (configurations_of new) (λ n s e. e)
        (λ id c acked is own. acked)
        (subst (λ cs. HaveOrdersSoFar log u key (slots_of new) trail cs) (sym same)
        (all_wait log key u (slots_of old) (slots_of new) trail (configurations_of old) placed.slot line command
        placed.free placed.here submits placed.elsewhere fresh h.orders));
    some = subst (λ cs. (c : Configuration) × IsOneOf cs c) (sym same) h.some;
  }

  -- a reply to a command of the key
  module _ (one_reply : (id : CommandId) (x y : Answer) → Contains w (Reply id x) → Contains w (Reply id y) → x ≡ y)
      (u later : Log) (id : CommandId) (x : Answer) (counts : is_failed x ≡ false)
      (whole : w ≡ later ++ Reply id x ∷ u) (old new : Option KeySearch) (trail more : List Step)
      (longer : IsLongerTrail trail more) (waits : AreWaiting log u key (waiting log (slots_of old)))
      (command : Command) (is : command_of u id ≡ Some command) (own : key_of command.op ≡ key)
      (h : IsFoundBy log u key trail old) where
    part : w ≡ (later ++ Reply id x ∷ []) ++ u
    part = whole ∙ sym (append_assoc later (Reply id x ∷ []) u)

    slots : AreSlots log u key (slots_of old)
    slots = slots_are log u (later ++ Reply id x ∷ []) key (slots_of old) part waits h.seen h.silent

    -- if no such command waits, it was acknowledged before
    acknowledged_already : ((t : ℕ) → IsWaitingAt log (slots_of old) id t → ⊥) → has_id (acknowledged u) id ≡ true
    acknowledged_already none = ⊎_elim
        (λ (e : has_id (acknowledged u) id ≡ true). e)
        (λ (e : has_id (acknowledged u) id ≡ false).
        elim (waits.all id command is own e) [
          | inl slot ↦ absurd (none slot.0 (command, slot.1, (command_found u id command is).1))
          | inr idle ↦
              let same : command.id ≡ id = (command_found u id command is).1 in
              let there : Contains w (Reply id x) =
              subst (λ (l : Log). Contains l (Reply id x)) (sym whole) (contains_middle later u (Reply id x)) in
              absurd (idle.0 (subst (λ (y : CommandId). IsAcknowledged log y) (sym same) (
                x,
                subst (λ (l : Log). Contains l (Reply id x)) (reverse-reverse log)
                    (contains_reverse w (Reply id x) there),
                counts,
              )))
        ])
        (cases_Bool (has_id (acknowledged u) id))

    within : AreWithin (configurations_of old) trail
    within c one = let r = h.orders c one in number_within trail c.trail r.0 r.1

    -- many configurations with different states follow
    pub line_many : ((y : CommandId) → has_id (acknowledged u) y ≡ true → is_some (command_of u y) ≡ true) → (most : ℕ)
        → (AreWithin (configurations_of old) trail → ReachMany log (slots_of old) more (configurations_of old) most)
        → HasManyStates u key most
    line_many submitted most reach =
        let many = reach within in
        states_left log u (later ++ Reply id x ∷ []) part key (waiting log (slots_of old)) submitted most many.some many.many
        many.rising
        (λ d one.
        let r = all_reachable log key one_reply u (later ++ Reply id x ∷ []) part (slots_of old) more slots
        (configurations_of old) d
        (λ c there. let o = h.orders c there in (o.0, steps_later trail more c.trail o.0 longer o.1, o.2))
        (many.reached d one) in (reverse r.0, r.2))

    pub line_replies : IsSoundlyAnswered log id (slots_of old) (configurations_of old) (slots_of new) (configurations_of new) trail more
        → IsFoundBy log (Reply id x ∷ u) key more new
    line_replies (inl none) = record {
      seen = λ t line e. let less = h.seen t line (ap (λ xs. slice_get xs t) (sym none.1) ∙ e) in omega arith;
      silent = λ t c y e. h.silent t c y (ap (λ xs. waiting log xs t) (sym none.1) ∙ e);
      orders =
          subst (λ cs. HaveOrdersSoFar log (Reply id x ∷ u) key (slots_of new) more cs) (sym none.2)
          (subst (λ ss. HaveOrdersSoFar log (Reply id x ∷ u) key ss more (configurations_of old)) (sym none.1)
          (all_pass log key u (Reply id x) (slots_of old) trail more (configurations_of old) longer
          (λ y c acked there of. elim (acknowledged_either u id y x acked) [
            | inl same ↦ subst (λ (z : CommandId). has_id (acknowledged u) z ≡ true) same (acknowledged_already none.0)
            | inr before ↦ before
          ]) h.orders));
      some = subst (λ cs. (c : Configuration) × IsOneOf cs c) (sym none.2) h.some;
    }
    line_replies (inr r) =
        let c : Command = r.waited.0 in
        let same : c.id ≡ id = r.waited.2 in
        record {
          seen = λ t line e. elim (cases_eq t r.slot) [
            | inl here ↦
                let there = r.here in
                let at : slice_get (slots_of new) r.slot ≡ Some (Some line) = ap (slice_get (slots_of new)) (sym here) ∙ e in
                absurd (cc)
            | inr off ↦ let less = h.seen t line (sym (r.elsewhere t off) ∙ e) in omega arith
          ];
          silent = λ t d y e. elim (cases_eq t r.slot) [
            | inl here ↦
                let none : waiting log (slots_of new) r.slot ≡ None = ap (command_at log) r.here in
                let at : waiting log (slots_of new) r.slot ≡ Some d = ap (waiting log (slots_of new)) (sym here) ∙ e in
                absurd (cc)
            | inr off ↦ h.silent t d y (sym (ap (command_at log) (r.elsewhere t off)) ∙ e)
          ];
          orders =
              subst (λ (y : CommandId). HaveOrdersSoFar log (Reply y x ∷ u) key (slots_of new) more (configurations_of new)) same
              (all_settled log key one_reply u (later ++ Reply id x ∷ []) part (slots_of old) more slots
              (configurations_of old) (configurations_of new) r.slot (slots_of new) c x r.waited.1 r.here r.elsewhere
              (λ d one. let o = h.orders d one in (o.0, steps_later trail more d.trail o.0 longer o.1, o.2))
              (r.settled within));
          some = r.some;
        }
