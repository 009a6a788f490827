use Rattle.std.proofs.Common.{rules, ◌≡◌, None, Some, true, false, inl, inr, length, slice_get, refl, sym, subst, ap, ◌∙◌, ℕ}
use Rattle.mencius_clients.specs.declared.configuration.Configuration.{Configuration}
use Rattle.mencius_clients.specs.Configurations.{has_slot, submitted_by}
use Rattle.mencius_clients.proofs.SoundSteps.{reachable_step, slot_at}
use Rattle.mencius_clients.proofs.steps.with_read_step.Goals as goal

pub returns-clause-sound : goal.returns-clause-sound
returns-clause-sound c cs within r =
    let log = c.args.log.now in
    let slots = c.args.slots.now in
    let slot : ℕ = c.args.slot in
    let from : Configuration = c.args.from.now in
    let read : Configuration = c.with_read-read.result in
    let was : has_slot from.done slot ≡ false = sym c.has.ensures ∙ c.if-has.false in
    let now : has_slot read.done slot ≡ true = sym c.has-else-has.ensures ∙ c.if-not-has.false in
    elim c.with_read-read.ensures.sound [
      | inl same ↦
          let gone : has_slot read.done slot ≡ false = ap (λ (x : Configuration). has_slot x.done slot) (sym same) ∙ was in
          absurd (cc (gone, now))
      | inr s ↦
          let at : slice_get slots slot ≡ Some (Some c.in-Some.line) =
          slot_at slots slot c.in-Some.line None c.requires.slot c.in-Some.is in
          let there : slice_get slots slot ≡ Some (Some s.line) = s.waits in
          let line : s.line ≡ c.in-Some.line = cc in
          let number : c.len.result ≡ length c.push.new.self.items = search rules in
          reachable_step log slots cs c.args.trail.now.items c.push.new.self.items from read
          (record { done = read.done; text = read.text; unseen = read.unseen; trail = c.len.result }) slot c.in-Some.line
          s.command at (subst (λ n. submitted_by (slice_get log n) ≡ Some s.command) line s.submits) was s.effect
          c.in_ok-push.ensures.items refl refl number within r
    ]
