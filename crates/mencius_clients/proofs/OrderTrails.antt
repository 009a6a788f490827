-- The orders of all configurations of a key, when steps are added to the trail and when a command gets its reply.
use Rattle.std.proofs.Common.{◌≡◌, ◌≢◌, inl, inr, ℕ, true, List, [], ◌∷◌, ◌++◌, Option, Some, None, reverse, slice_get, refl, sym, subst, ap, ◌∙◌}
use Rattle.std.specs.List.{Contains}
use Rattle.std.proofs.lemmas.List.{reverse-append, reverse-reverse}
use Rattle.mencius_base.specs.declared.command.Command.{Command}
use Rattle.mencius_base.specs.declared.command.CommandId.{CommandId}
use Rattle.mencius_model.specs.KeyMap.{key_of}
use Rattle.mencius_log.specs.declared.observation.Answer.{Answer}
use Rattle.mencius_log.specs.declared.observation.Observation.{Observation}
use Rattle.mencius_log.specs.declared.observation.Observation.TheVariants.{Reply}
use Rattle.mencius_judge.specs.Answers.{IsRight}
use Rattle.mencius_judge.specs.Log.{Log, acknowledged, command_of, has_id}
use Rattle.mencius_clients.specs.declared.configuration.Configuration.{Configuration}
use Rattle.mencius_clients.specs.declared.steps.Step.{Step}
use Rattle.mencius_clients.specs.Configurations.{become, command_at, has_slot, submitted_by, text_at, waiting}
use Rattle.mencius_clients.specs.KeyOrders.{AreSteps, IsKeyOrder}
use Rattle.mencius_clients.specs.OrdersSoFar.{AreSlots, AreSoundlySettled, Follows, HasOrderSoFar, HaveOrdersSoFar, IsLongerTrail, IsOrderSoFar, IsReachable, IsSoundStep}
use Rattle.mencius_clients.proofs.Later.{contains_reverse}
use Rattle.mencius_clients.proofs.OrderGrowth.{ends, passes, replied, takes_effect, waits}

-- ---- the trail

pub steps_later : (old new : List Step) (number : ℕ) (lines : List ℕ) → IsLongerTrail old new → AreSteps old number lines
    → AreSteps new number lines
steps_later old new number [] keeps h = h
steps_later old new number (line ∷ lines) keeps h = (
  h.0,
  h.1,
  h.2,
  keeps h.0 (record { line = line; before = h.1 }) h.3,
  h.4,
  steps_later old new h.1 lines keeps h.5,
)

-- ---- further lines

module _ (log : List Observation) (key : List ℕ) where
  abbrev w : Log
  w = reverse log

  -- a line that acknowledges no further command of the key
  pub all_pass : (u : Log) (o : Observation) (slots : List (Option ℕ)) (old new : List Step) (cs : List Configuration)
      → IsLongerTrail old new
      → ((id : CommandId) (c : Command) → has_id (acknowledged (o ∷ u)) id ≡ true → command_of w id ≡ Some c
      → key_of c.op ≡ key → has_id (acknowledged u) id ≡ true)
      → HaveOrdersSoFar log u key slots old cs → HaveOrdersSoFar log (o ∷ u) key slots new cs
  all_pass u o slots old new cs keeps none h c there =
      let r = h c there in (
        r.0,
        steps_later old new c.trail r.0 keeps r.1,
        passes log key u o (waiting log slots) (λ t. has_slot c.done t) (text_at log c.text) (reverse r.0) none r.2,
      )

  -- a new command waits in a free slot
  pub all_wait : (u : Log) (slots next : List (Option ℕ)) (trail : List Step) (cs : List Configuration) (slot line : ℕ)
      (command : Command) → waiting log slots slot ≡ None → slice_get next slot ≡ Some (Some line)
      → submitted_by (slice_get log line) ≡ Some command
      → ((t : ℕ) → t ≢ slot → slice_get next t ≡ slice_get slots t) → command_of u command.id ≡ None
      → HaveOrdersSoFar log u key slots trail cs → HaveOrdersSoFar log u key next trail cs
  all_wait u slots next trail cs slot line command was is submits same new h c there =
      let r = h c there in (
        r.0,
        r.1,
        waits log key u (waiting log slots) (waiting log next) (λ t. has_slot c.done t) (text_at log c.text) (reverse r.0)
            slot command was (ap (command_at log) is ∙ submits) (λ t ne. ap (command_at log) (same t ne)) new r.2,
      )

  -- ---- steps

  module _ (one_reply : (id : CommandId) (x y : Answer) → Contains w (Reply id x) → Contains w (Reply id y) → x ≡ y)
      (u later : Log) (whole : w ≡ later ++ u) (slots : List (Option ℕ)) (trail : List Step)
      (slots_right : AreSlots log u key slots) where
    -- every reply to the command of a sound step is right
    all_right : (c d : Configuration) (step : IsSoundStep log slots trail c d) (x : Answer)
        → Contains w (Reply step.command.id x) → IsRight step.command.op (text_at log c.text) x
    all_right c d step x there =
        elim step.right [
          | inl r ↦
              subst (λ (y : Answer). IsRight step.command.op (text_at log c.text) y)
              (one_reply step.command.id r.0 x (contains_reverse log (Reply step.command.id r.0) r.1) there) r.2
          | inr none ↦
              absurd (slots_right.silent step.slot step.command x (ap (command_at log) step.waits ∙ step.submits) none
              (subst (λ (l : List Observation). Contains l (Reply step.command.id x)) (reverse-reverse log)
              (contains_reverse w (Reply step.command.id x) there)))
        ]

    one_step : (c d : Configuration) → IsSoundStep log slots trail c d → HasOrderSoFar log u key slots trail c
        → HasOrderSoFar log u key slots trail d
    one_step c d step r =
        let command : Command = step.command in
        let at : waiting log slots step.slot ≡ Some command = ap (command_at log) step.waits ∙ step.submits in
        let own = slots_right.each step.slot step.line command step.waits step.submits in
        let grown = takes_effect log key u later whole (waiting log slots) (λ t. has_slot c.done t) (λ t. has_slot d.done t)
        (text_at log c.text) (reverse r.0) step.slot step.line command at step.submits own.0 own.1
        (slots_right.called step.slot command at) (slots_right.open_yet step.slot command at)
        (λ t other e same. slots_right.apart t step.slot other command e at same)
        step.was step.here step.elsewhere (all_right c d step) r.2 in (
          step.line ∷ r.0,
          (step.number, c.trail, step.last, step.there, step.older, r.1),
          subst (λ held. IsOrderSoFar log u key (waiting log slots) (λ t. has_slot d.done t) held (reverse (step.line ∷ r.0)))
              (sym step.text)
              (subst (λ ls. IsOrderSoFar log u key (waiting log slots) (λ t. has_slot d.done t)
              (become (text_at log c.text) command.op) ls) (sym (reverse-append (step.line ∷ []) r.0)) grown),
        )

    -- all configurations that sound steps reach
    all_steps : (c d : Configuration) (es : List Configuration) → Follows log slots trail c es d
        → HasOrderSoFar log u key slots trail c → HasOrderSoFar log u key slots trail d
    all_steps c d [] h r = subst (λ (x : Configuration). HasOrderSoFar log u key slots trail x) h r
    all_steps c d (e ∷ es) h r = all_steps e d es h.1 (one_step c e h.0 r)

    pub all_reachable : (cs : List Configuration) (d : Configuration) → HaveOrdersSoFar log u key slots trail cs
        → IsReachable log slots trail cs d → HasOrderSoFar log u key slots trail d
    all_reachable cs d h r = all_steps r.0 d r.2 r.3 (h r.0 r.1)

    -- after the reply to a waiting command
    pub all_settled : (cs next : List Configuration) (slot : ℕ) (new : List (Option ℕ)) (command : Command) (x : Answer)
        → waiting log slots slot ≡ Some command → slice_get new slot ≡ Some None
        → ((t : ℕ) → t ≢ slot → slice_get new t ≡ slice_get slots t)
        → HaveOrdersSoFar log u key slots trail cs → AreSoundlySettled log slots trail cs slot next
        → HaveOrdersSoFar log (Reply command.id x ∷ u) key new trail next
    all_settled cs next slot new command x waited free same h settled d there =
        let f = settled d there in
        let c : Configuration = f.0 in
        let r = all_reachable cs c h f.1 in
        let freed = f.2 in (
          r.0,
          subst (λ n. AreSteps trail n r.0) (sym freed.trail) r.1,
          subst (λ held. IsOrderSoFar log (Reply command.id x ∷ u) key (waiting log new) (λ t. has_slot d.done t) held
              (reverse r.0)) (ap (text_at log) (sym freed.text))
              (replied log key u x (waiting log slots) (waiting log new) (λ t. has_slot c.done t) (λ t. has_slot d.done t)
              (text_at log c.text) (reverse r.0) slot command waited freed.was (ap (command_at log) free)
              (λ t ne. ap (command_at log) (same t ne)) freed.here freed.elsewhere r.2),
        )

  -- ---- the end

  pub key_order : (slots : List (Option ℕ)) (trail : List Step) (c : Configuration)
      → HasOrderSoFar log w key slots trail c → (lines : List ℕ) × AreSteps trail c.trail lines × IsKeyOrder log key (reverse lines)
  key_order slots trail c r = (
    r.0,
    r.1,
    ends log key w (waiting log slots) (λ t. has_slot c.done t) (text_at log c.text) (reverse r.0) refl r.2,
  )
