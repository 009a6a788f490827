-- A set of slots that differs from another one only by lost slots.
use Rattle.std.proofs.Common.{◌≡◌, ◌≢◌, ℕ, ◌+◌, ◌-◌, ◌<◌, ◌≤◌, true, false, List, Option, Some, length, slice_get, arith, refl, sym, subst, ap, ◌∙◌, ⊎_elim}
use Rattle.std.proofs.lemmas.Bool.{cases_Bool, cases_eq}
use Rattle.std.proofs.lemmas.Option.{slice_get_within}
use Rattle.mencius_base.specs.declared.command.Command.{Command}
use Rattle.mencius_log.specs.declared.observation.Observation.{Observation}
use Rattle.mencius_clients.specs.Configurations.{AreLost, Calls, HasLess, IsFreed, IsLess, IsLonger, IsOneOf, IsStep, IsUnacknowledged, become, has_slot, no_slots, text_at, waiting}
use Rattle.mencius_clients.specs.declared.configuration.Configuration.{Configuration}
use Rattle.mencius_clients.specs.declared.slot_set.SlotSet.{SlotSet}
use Rattle.mencius_clients.proofs.Words.{no_slot}

-- ---- commands that never have a reply

pub none_lost : (log : List Observation) (calls : Calls) → AreLost log calls no_slots
none_lost log calls t f at there = let none = no_slot t in absurd (cc)

pub lost_one : (log : List Observation) (slots : List (Option ℕ)) (slot : ℕ) (c : Command)
    → waiting log slots slot ≡ Some c → IsUnacknowledged log c.id
    → (f : Command) → waiting log slots slot ≡ Some f → IsUnacknowledged log f.id
lost_one log slots slot c at none f there =
    let one : c ≡ f = cc (at, there) in
    subst (λ (g : Command). IsUnacknowledged log g.id) one none

pub more_lost : (log : List Observation) (calls : Calls) (lost new : SlotSet) (slot : ℕ) → AreLost log calls lost
    → ((f : Command) → calls slot ≡ Some f → IsUnacknowledged log f.id)
    → ((t : ℕ) → t ≢ slot → has_slot new t ≡ has_slot lost t) → AreLost log calls new
more_lost log calls lost new slot h here elsewhere t f at there =
    ⊎_elim
    (λ (same : t ≡ slot). here f (ap calls (sym same) ∙ at))
    (λ (ne : t ≢ slot). h t f at (sym (elsewhere t ne) ∙ there))
    (cases_eq t slot)

pub lost_step : (log : List Observation) (calls : Calls) (slot : ℕ) (command : Command) (c d : Configuration)
    → IsUnacknowledged log command.id → ((t : ℕ) → t ≢ slot → has_slot d.done t ≡ has_slot c.done t)
    → text_at log d.text ≡ become (text_at log c.text) command.op → IsStep log calls slot command c d
lost_step log calls slot command c d none elsewhere text = record {
  here = λ there. absurd (none there);
  elsewhere = λ t f ne at there. elsewhere t ne;
  within = λ t ne h. sym (elsewhere t ne) ∙ h;
  text = text;
  seen = λ there. absurd (none there);
}

-- ---- less of it is as good

pub less_freed : (log : List Observation) (calls : Calls) (slot : ℕ) (c d e : Configuration) → IsFreed log calls slot c d
    → IsLess log calls e.done d.done → text_at log e.text ≡ text_at log d.text → (e.unseen ≡ true → d.unseen ≡ true) → IsFreed log calls slot c e
less_freed log calls slot c d e h less text unseen = record {
  here = ⊎_elim
      (λ (there : has_slot e.done slot ≡ true). let was = less.within slot there in let gone = h.here in absurd (cc))
      (λ (none : has_slot e.done slot ≡ false). none)
      (cases_Bool (has_slot e.done slot));
  elsewhere = λ t f ne at there. less.same t f at there ∙ h.elsewhere t f ne at there;
  within = λ t ne there. h.within t ne (less.within t there);
  text = text ∙ h.text;
  seen = ⊎_elim
      (λ (there : e.unseen ≡ true). let was = unseen there in let gone = h.seen in absurd (cc))
      (λ (none : e.unseen ≡ false). none)
      (cases_Bool (e.unseen));
}

pub less_self : (log : List Observation) (calls : Calls) (slots : SlotSet) → IsLess log calls slots slots
less_self log calls slots = record { same = λ t f at there. refl; within = λ t h. h }

pub has_self : (log : List Observation) (calls : Calls) (cs : List Configuration) (d : Configuration) → IsOneOf cs d
    → HasLess log calls cs d
has_self log calls cs d one = (d, one, less_self log calls d.done, refl, λ u. u)

-- ---- lists that are gone through from the end

-- one of the best configurations stands for each of the last so many
pub record HaveBest (log : List Observation) (lost : SlotSet) (cs best : List Configuration) (count : ℕ) : Type 0 where
  pub each : (calls : Calls) → AreLost log calls lost → (n : ℕ) (d : Configuration) → length cs ≤ n + count
      → slice_get cs n ≡ Some d → HasLess log calls best d

pub best_none : (log : List Observation) (lost : SlotSet) (cs best : List Configuration) → HaveBest log lost cs best 0
best_none log lost cs best = record {
  each = λ calls gone n d more there. let within = slice_get_within cs n d there in absurd (omega (arith, more, within));
}

pub best_more : (log : List Observation) (lost : SlotSet) (cs best more : List Configuration) (new : Configuration) (count : ℕ)
    → HaveBest log lost cs best count → count < length cs → slice_get cs (length cs - 1 - count) ≡ Some new
    → IsLonger best more → ((calls : Calls) → AreLost log calls lost → HasLess log calls more new)
    → HaveBest log lost cs more (count + 1)
best_more log lost cs best more new count h some at longer here = record {
  each = λ calls gone n d past there. ⊎_elim
      (λ (e : n ≡ length cs - 1 - count).
      let one : new ≡ d = cc (at, there, e) in
      subst (λ (c : Configuration). HasLess log calls more c) one (here calls gone))
      (λ (e : n ≢ length cs - 1 - count).
      let was = h.each calls gone n d (omega (arith, e, past, some)) there in
      (was.0, (was.1.0, longer was.1.0 was.0 was.1.1), was.2, was.3, was.4))
      (cases_eq n (length cs - 1 - count));
}

pub best_all : (log : List Observation) (lost : SlotSet) (cs best : List Configuration) (count : ℕ)
    → HaveBest log lost cs best count → length cs ≤ count
    → (calls : Calls) → AreLost log calls lost → (d : Configuration) → IsOneOf cs d → HasLess log calls best d
best_all log lost cs best count h all calls gone d one =
    h.each calls gone one.0 d (omega (arith, all)) one.1
