-- The turns of one worker have only one order, and the random words determine each turn, so they lead to one cluster.
use Rattle.std.specs.Prelude.{slice_get, if◌then◌else◌}
use Rattle.std.specs.Option.{option_map_or}
use Rattle.std.proofs.Common.{◌≡◌, ℕ, zero, suc, ◌+◌, ◌==◌, ◌⊎◌, Bool, true, false, List, [], ◌∷◌, ◌++◌, Option, Some, None, Result, Ok, Err, map, set, refl, sym, ◌∙◌, ap, subst, arith, inl, inr}
use Rattle.std.proofs.lemmas.Bool.Decides.{nat_tests}
use Rattle.mencius_base.specs.Members.{numbers_below}
use Rattle.mencius_base.specs.Numbers.{ServerId}
use Rattle.mencius_base.specs.Plan.{PlanState}
use Rattle.mencius_base.specs.declared.command.Command.{Command}
use Rattle.mencius_base.specs.declared.event.Event.{Event}
use Rattle.mencius_base.specs.declared.refusal.Refusal.{Refusal}
use Rattle.mencius_model.specs.Trace.{Trace}
use Rattle.mencius_model.specs.Next.{refusal_cause, with_event}
use Rattle.mencius_cluster.specs.State.{ClusterState, trace_of}
use Rattle.mencius_choices.specs.Choices.{ChooserState, IsChoice, IsTaken, first_chooser, pick_at}
use Rattle.mencius_choices.proofs.WorkerLists.{no_worker, one_worker}
use Rattle.mencius_choices.specs.declared.choice.Pick.{Pick}
use Rattle.mencius_choices.specs.declared.choice.Pick.TheVariants.{NextCommand, Is}
use Rattle.mencius_board.specs.declared.fault.BoardFault.{BoardFault}
use Rattle.mencius_board.specs.Boards.{BoardState}
use Rattle.mencius_board.specs.Runs.{Befalls, ComesTo, RunState, TurnOf, Way, first_run, way_after, way_of}
use Rattle.mencius_board.specs.Turns.{EndsTurn, IsAccepted, IsAfterTurn, IsRefusedBy, IsTurn}
use Rattle.mencius_input.specs.declared.scenario.Scenario.{Scenario}
use Rattle.mencius_input.specs.Plan.{plan}
use Rattle.mencius_app.specs.Input.{Says, unless_long}
use Rattle.mencius_app.specs.Plan.{IsOutcome}
use Rattle.mencius_app.specs.Run.{run_text}
use Rattle.worked_proofs.specs.OneWorker.{OneCluster, OneText}

-- ---- a step

-- the cluster after an event that was accepted, or that was refused for this cause
abbrev after_cause : ClusterState → Event → Option Refusal → ClusterState
after_cause x e None = record { members = x.members; hasher = x.hasher; journal = x.journal ++ e ∷ [] }
after_cause x e (Some r) = x

abbrev after_event : ClusterState → Event → ClusterState
after_event x e = after_cause x e (refusal_cause x.members (trace_of x) e)

no_cause : (w v : Trace) (o : Option Refusal) → option_map_or Err o (Ok w) ≡ Ok v → o ≡ None
no_cause w v None e = refl
no_cause w v (Some r) e = absurd (cc)

same_cluster : (x y : ClusterState) → x.members ≡ y.members → x.hasher ≡ y.hasher → x.journal ≡ y.journal → x ≡ y
same_cluster x y members hasher journal =
    ap (λ m. record { members = m; hasher = x.hasher; journal = x.journal }) members
    ∙ (ap (λ h. record { members = y.members; hasher = h; journal = x.journal }) hasher
    ∙ ap (λ es. record { members = y.members; hasher = y.hasher; journal = es }) journal)

left_by : (before after : BoardState) (e : Event) → IsAccepted before after e ⊎ IsRefusedBy before after e
    → after.cluster ≡ after_event before.cluster e
left_by before after e (inl is) =
    let x : ClusterState = before.cluster in
    let none = no_cause (with_event x.members (trace_of x) e) (trace_of after.cluster)
    (refusal_cause x.members (trace_of x) e) is.stepped.trace in
    same_cluster after.cluster (after_cause x e None) is.stepped.members is.stepped.hasher is.stepped.journal
    ∙ ap (after_cause x e) (sym none)
left_by before after e (inr is) = elim is.is [
  | inl r ↦ ap (λ b. b.cluster) is.same ∙ ap (after_cause before.cluster e) (sym r)
  | inr r ↦ absurd (is.memory r.0)
]

-- ---- a turn

one_taken : (p : Pick) (left rest rest' : List (ServerId × Command)) (e e' : Event) → IsTaken p left e rest
    → IsTaken p left e' rest' → (e ≡ e') × (rest ≡ rest')
one_taken (Is x) left rest rest' e e' h h' = (h.0 ∙ sym h'.0, h.1 ∙ sym h'.1)
one_taken NextCommand [] rest rest' e e' h h' = absurd h
one_taken NextCommand (first ∷ others) rest rest' e e' h h' = (h.0 ∙ sym h'.0, h.1 ∙ sym h'.1)

same_chooser : (c d : ChooserState) → c.plan ≡ d.plan → c.drawing ≡ d.drawing → c.left ≡ d.left → c ≡ d
same_chooser c d plan drawing left =
    ap (λ p. record { plan = p; drawing = c.drawing; left = c.left }) plan
    ∙ (ap (λ x. record { plan = d.plan; drawing = x; left = c.left }) drawing
    ∙ ap (λ xs. record { plan = d.plan; drawing = d.drawing; left = xs }) left)

one_choice : (old new new' : ChooserState) (x : ClusterState) (e e' : Event) → IsChoice old x e new
    → IsChoice old x e' new' → (e ≡ e') × (new ≡ new')
one_choice old new new' x e e' h h' =
    let taken = one_taken (pick_at old x) old.left new.left new'.left e e' h.taken h'.taken in
    (taken.0, same_chooser new new' (h.plan ∙ sym h'.plan) (h.drawing ∙ sym h'.drawing) taken.1)

-- a turn that succeeds leads from chooser c and cluster x to chooser d and cluster y
abbrev TakesOne : ChooserState → ClusterState → ChooserState → ClusterState → Type 0
TakesOne c x d y = (e : Event) × IsChoice c x e d × (y ≡ after_event x e)

one_turn : (c d d' : ChooserState) (x y y' : ClusterState) → TakesOne c x d y → TakesOne c x d' y'
    → (d ≡ d') × (y ≡ y')
one_turn c d d' x y y' h h' =
    let same = one_choice c d d' x h.0 h'.0 h.1 h'.1 in
    (same.1, h.2 ∙ (ap (after_event x) same.0 ∙ sym h'.2))

turn_of : (c d : ChooserState) (before board after : BoardState) → IsTurn c d before board
    → after.cluster ≡ board.cluster → TakesOne c before.cluster d after.cluster
turn_of c d before board after is then_is =
    (is.event, is.chosen, then_is ∙ left_by before board is.event is.stepped)

took_turn : (c d : ChooserState) (before board after : BoardState) (shows : Bool)
    (turned answer : Result (Unit {0}) BoardFault) → answer ≡ Ok tt → EndsTurn c d before board turned
    → IsAfterTurn shows board after turned answer → TakesOne c before.cluster d after.cluster
took_turn c d before board after true (Ok u) (Ok v) e is then_is =
    turn_of c d before board after is (ap (λ b. b.cluster) then_is)
took_turn c d before board after true (Ok u) (Err f) e is then_is = absurd (cc)
took_turn c d before board after true (Err f) answer e is then_is =
    let other : answer ≡ Err f = then_is.0 in absurd (cc)
took_turn c d before board after false (Ok u) answer e is then_is =
    turn_of c d before board after is (ap (λ b. b.cluster) then_is.1)
took_turn c d before board after false (Err f) answer e is then_is =
    let other : answer ≡ Err f = then_is.0 in absurd (cc)

-- ---- all turns

-- n turns that succeed lead from chooser c and cluster x to chooser d and cluster y
abbrev TakesAll : ChooserState → ClusterState → ℕ → ChooserState → ClusterState → Type 0
TakesAll c x zero d y = (d ≡ c) × (y ≡ x)
TakesAll c x (suc n) d y = (b : ChooserState) × (z : ClusterState) × TakesAll c x n b z × TakesOne b z d y

one_end : (n : ℕ) (c d d' : ChooserState) (x y y' : ClusterState) → TakesAll c x n d y → TakesAll c x n d' y'
    → (d ≡ d') × (y ≡ y')
one_end zero c d d' x y y' h h' = (h.0 ∙ sym h'.0, h.1 ∙ sym h'.1)
one_end (suc n) c d d' x y y' h h' =
    let same = one_end n c h.0 h'.0 x h.1 h'.1 h.2 h'.2 in
    one_turn h.0 d d' h.1 y y' h.3
    (subst (λ b. TakesOne b h.1 d' y') (sym same.0) (subst (λ z. TakesOne h'.0 z d' y') (sym same.1) h'.3))

-- ---- an order of turns

own_way : (answer : Result (Unit {0}) BoardFault) (way : Way) (n : ℕ) → way_after answer way ≡ Ok n
    → (k : ℕ) × (answer ≡ Ok tt) × (way ≡ Ok k) × (suc k ≡ n)
own_way (Ok u) (Ok taken) n e = (taken, refl, refl, grind (arith, e))
own_way (Ok u) (Err f) n e = absurd (cc)
own_way (Err f) way n e = absurd (cc)

no_other : (k : ℕ) (c d : ChooserState) → (k == 0) ≡ false → slice_get (c ∷ []) k ≡ Some d → ⊥
no_other zero c d e there = cc
no_other (suc k) c d e there = cc

module _ (plan : PlanState) (old : BoardState)
    (alone : map (first_chooser plan) (numbers_below plan.workers) ≡ first_chooser plan 0 ∷ []) where
  -- the one worker took n turns from the first state of the run to this state
  abbrev HasCome : ℕ → RunState → Type 0
  HasCome n s =
      (c : ChooserState) × (s.choosers ≡ c ∷ [])
      × TakesAll (first_chooser plan 0) old.cluster n c s.board.cluster

  own_turn : (worker taken k : ℕ) (answer : Result (Unit {0}) BoardFault) (before last : RunState) → worker ≡ 0
      → answer ≡ Ok tt → HasCome k before → Befalls worker taken answer before last → HasCome (suc k) last
  own_turn worker taken k answer before last own well come (inl is) =
      let c : ChooserState = come.0 in
      let there : slice_get (c ∷ []) 0 ≡ Some is.chooser =
      subst (λ i. slice_get (c ∷ []) i ≡ Some is.chooser) own
      (subst (λ cs. slice_get cs worker ≡ Some is.chooser) come.1 is.there) in
      let same : is.chooser ≡ c = cc in
      let turn = took_turn is.chooser is.then_chooser before.board is.turn.board last.board _ is.turn.turned answer well
      is.turn.turn is.turn.then_is in (
        is.then_chooser,
        is.rest
            ∙ (ap (λ cs. set cs worker is.then_chooser) come.1
            ∙ ap (λ i. set (c ∷ []) i is.then_chooser) own),
        (
          c,
          before.board.cluster,
          come.2,
          subst (λ d. TakesOne d before.board.cluster is.then_chooser last.board.cluster) same turn,
        ),
      )
  own_turn worker taken k answer before last own well come (inr is) =
      let other : answer ≡ Err _ = is.0 in absurd (cc)

  other_turn : (worker taken n : ℕ) (answer : Result (Unit {0}) BoardFault) (before last : RunState)
      → (worker == 0) ≡ false → HasCome n before → Befalls worker taken answer before last → HasCome n last
  other_turn worker taken n answer before last other come (inl is) =
      absurd (no_other worker come.0 is.chooser other
      (subst (λ cs. slice_get cs worker ≡ Some is.chooser) come.1 is.there))
  other_turn worker taken n answer before last other come (inr is) = subst (HasCome n) (sym is.1) come

  comes_by : (turn : TurnOf) (order : List TurnOf) (n : ℕ) (last : RunState)
      → ((k : ℕ) (before : RunState) → ComesTo (first_run plan old) order before → way_of 0 order ≡ Ok k
      → HasCome k before)
      → ComesTo (first_run plan old) (turn ∷ order) last → (b : Bool) → (turn.0 == 0) ≡ b
      → (if b then way_after turn.1 (way_of 0 order) else way_of 0 order) ≡ Ok n → HasCome n last
  comes_by turn order n last behind h true own way =
      let by = own_way turn.1 (way_of 0 order) n way in
      let first : turn.0 ≡ 0 = grind (arith, nat_tests, own) in
      subst (λ m. HasCome m last) by.3
      (own_turn turn.0 h.2 by.0 turn.1 h.0 last first by.1 (behind by.0 h.0 h.1 by.2) h.4)
  comes_by turn order n last behind h false own way =
      other_turn turn.0 h.2 n turn.1 h.0 last own (behind n h.0 h.1 way) h.4

  comes : (order : List TurnOf) (n : ℕ) (last : RunState) → ComesTo (first_run plan old) order last
      → way_of 0 order ≡ Ok n → HasCome n last
  comes [] n last h way =
      let none : 0 ≡ n = cc in (
        first_chooser plan 0,
        ap (λ s. s.choosers) h ∙ alone,
        subst (λ k. TakesAll (first_chooser plan 0) old.cluster k (first_chooser plan 0) last.board.cluster) none
            (refl, ap (λ s. s.board.cluster) h),
      )
  comes (turn ∷ order) n last h way =
      comes_by turn order n last (λ k before. comes order k before) h (turn.0 == 0) refl way

one_seated : (plan : PlanState) → plan.workers ≡ 1
    → map (first_chooser plan) (numbers_below plan.workers) ≡ first_chooser plan 0 ∷ []
one_seated plan one =
    ap (λ n. map (first_chooser plan) (numbers_below n)) one
    ∙ (sym (one_worker (first_chooser plan) 0 (first_chooser plan 0) refl)
    ∙ ap (λ cs. cs ++ first_chooser plan 0 ∷ []) (sym (no_worker (first_chooser plan))))

pub one_cluster : OneCluster
one_cluster plan old other new other_new one same ran also =
    let alone = one_seated plan one in
    let end = comes plan old alone ran.order plan.turns (record { board = new; choosers = ran.choosers }) ran.comes
    (ran.each 0 (omega (arith, one))) in
    let other_end = comes plan other alone also.order plan.turns
    (record { board = other_new; choosers = also.choosers }) also.comes (also.each 0 (omega (arith, one))) in
    (one_end plan.turns (first_chooser plan 0) end.0 other_end.0 old.cluster new.cluster other_new.cluster end.2
    (subst (λ x. TakesAll (first_chooser plan 0) x plan.turns other_end.0 other_new.cluster) (sym same) other_end.2)).1

-- ---- a text

said_once : (bytes : List ℕ) (written said : Scenario PlanState) → unless_long plan bytes ≡ Ok written
    → Says (unless_long plan) (Some bytes) said → said ≡ written
said_once bytes written said is says =
    let read : unless_long plan bytes ≡ Ok said = subst (λ b. unless_long plan b ≡ Ok said) (sym says.1) says.2 in
    let same : Ok said ≡ Ok written = sym read ∙ is in
    cc

pub one_text : OneText
one_text bytes with_journal with_observations key text other written is one run also =
    let first : IsOutcome written run.cluster =
    subst (λ s. IsOutcome s run.cluster) (said_once bytes written run.written is run.says) run.outcome in
    let second : IsOutcome written also.cluster =
    subst (λ s. IsOutcome s also.cluster) (said_once bytes written also.written is also.says) also.outcome in
    let boards = one_cluster written.course _ _ first.board second.board one refl first.ran second.ran in
    let same : run.cluster ≡ also.cluster = first.is ∙ (boards ∙ sym second.is) in
    run.run ∙ (ap (run_text with_journal with_observations key) same ∙ sym also.run)
