-- The same tickets wait by the server's state as by the trace.
use Rattle.std.proofs.Common.{◌≡◌, ℕ, ◌<◌, Bool, true, false, Option, Some, None, cond, eqb, ltb, ◌&&◌, ◌||◌, not, refl, sym, ◌∙◌, ap}
use Rattle.std.specs.Prelude.{if◌then◌else◌, slice_get}
use Rattle.std.specs.List.{list_any}
use Rattle.std.proofs.lemmas.Bool.{and_parts, eq-eqb, eqb-true}
use Rattle.mencius_base.specs.declared.message.Message.TheVariants.{Suggest}
use Rattle.mencius_base.specs.declared.message.Value.{Value}
use Rattle.mencius_base.specs.Members.{Membership, instances, owner}
use Rattle.mencius_model.specs.Trace.{Line, Sent, Trace}
use Rattle.mencius_model.specs.Instance.{learned_value, proposal, tried_ballot}
use Rattle.mencius_model.specs.Server.{is_suggested_again_by, suggested_ticket, suggested_by, waiting_tickets, waiting_at, ticket_of}
use Rattle.mencius_model.specs.Next.{IsReached}
use Rattle.mencius_model.proofs.trace.NumberLists.{any-instances, any-instances_found, filter_map-instances_same}
use Rattle.mencius_server.proofs.tickets.WaitingTickets.{both_ways, ticket_is}
use Rattle.mencius_model.proofs.trace.Lists.{IsIn, any_in, in_any}
use Rattle.mencius_model.proofs.rights.LineRights.{IsGrown}
use Rattle.mencius_model.proofs.trace.AnswersLast.{oldest_none, same, same_two, start_in, suggested_in}
use Rattle.mencius_model.proofs.rights.EventRights.{suggest_proposed}
use Rattle.mencius_model.proofs.reached.Suggesters.{suggest_once, suggest_owner, suggest_small}
use Rattle.mencius_model.proofs.rights.Journals.{reached_grown, some_server_of}
use Rattle.mencius_model.proofs.reached.Senders.{own_untried}
use Rattle.coord_paxos.specs.SlotState.{SlotState}
use Rattle.coord_paxos.specs.Reached.{if_own}
use Rattle.mencius_server.specs.Machine.{first_waiting, is_suggested_again, is_ticket, own_waiting_at, own_waiting_of, suggested_at}
use Rattle.mencius_server.specs.Reached.{server_at}
use Rattle.mencius_server.proofs.events.ServerTrace.{slot-server_at}
use Rattle.mencius_base.specs.Limits.{instance_count}
use Rattle.mencius_model.specs.Rules.{is_noop}
use Rattle.mencius_model.proofs.trace.Parts.{waiting_of}

past_line : (p t i : ℕ) (l : Line) → is_suggested_again_by p t i l ≡ true
    → (j : ℕ) × (ltb i j ≡ true) × (l ≡ Sent (Suggest p j t))
past_line p t i (Sent (Suggest from inst ticket)) h =
    let r = and_parts (eqb from p && eqb ticket t) (ltb i inst) h in
    let s = and_parts (eqb from p) (eqb ticket t) r.0 in
    let e = eqb-true from p s.0 in
    let same = eqb-true ticket t s.1 in
    (inst, r.1, cc)
past_line p t i _ h = absurd (cc)

module _ (m : Membership) (w : Trace) (p : ℕ) (r : IsReached m w) where
  grown : IsGrown m w
  grown = reached_grown m w r

  -- A suggestion of the server at an instance is its only suggestion there.
  suggested_is : (i t : ℕ) → IsIn (Sent (Suggest p i t)) w → suggested_ticket w p i ≡ Some t
  suggested_is i t h = go (suggested_ticket w p i) refl where
    go : (o : Option ℕ) → suggested_ticket w p i ≡ o → suggested_ticket w p i ≡ Some t
    go None e =
        let n = oldest_none (suggested_by p i) (Sent (Suggest p i t)) w e h in
        let turned = rw (same_two p i) at n in
        absurd (cc)
    go (Some u) e =
        let few = some_server_of m w r (Sent (Suggest p i t)) h in
        let s = suggest_once m w few grown p p i u t (suggested_in w p i u e) h in
        e ∙ ap Some s.1

  owner_said : (i : ℕ) → owner m i ≡ p → (o : Option Value) → proposal w i 0 ≡ o → ticket_of o ≡ suggested_ticket w p i
  owner_said i mine None e = go (suggested_ticket w p i) refl where
    go : (o : Option ℕ) → suggested_ticket w p i ≡ o → None ≡ suggested_ticket w p i
    go None h = sym h
    go (Some t) h = let s = suggest_proposed w p i t (suggested_in w p i t h) in let so = s.1 in absurd (cc)
  owner_said i mine (Some y) e =
      let s = start_in w i y e in
      let home : s.0 ≡ p = sym (suggest_owner m w grown s.0 i s.1 s.2) ∙ mine in
      ap (λ (x : Value). ticket_of (Some x)) s.3 ∙ sym (suggested_is i s.1 (rw home at s.2))

  other_unsaid : (i : ℕ) → (owner m i ≡ p → ⊥) → (o : Option ℕ) → suggested_ticket w p i ≡ o → None ≡ o
  other_unsaid i ne None e = refl
  other_unsaid i ne (Some t) e = absurd (ne (suggest_owner m w grown p i t (suggested_in w p i t e)))

  ticket_at : (i : ℕ) (d : Bool) → eqb (owner m i) p ≡ d
      → cond d (ticket_of (if_own m p i (tried_ballot w p i) (proposal w i (tried_ballot w p i)))) None
      ≡ suggested_ticket w p i
  ticket_at i true e =
      let mine = eqb-true (owner m i) p e in
      ap (λ (b : ℕ). ticket_of (if_own m p i b (proposal w i b))) (own_untried m w grown p i mine)
      ∙ ap (λ (d : Bool). ticket_of (cond (d || ltb 0 0) (proposal w i 0) None)) e
      ∙ owner_said i mine (proposal w i 0) refl
  ticket_at i false e =
      other_unsaid i (λ mine. let holds : eqb (owner m i) p ≡ true = eq-eqb (owner m i) p mine in
      absurd (cc)) (suggested_ticket w p i) refl

  suggested_same : (i : ℕ) → i < instance_count → suggested_at (server_at m w p) i ≡ suggested_ticket w p i
  suggested_same i small =
      ap (λ (s : SlotState). cond (eqb (owner m i) p) (ticket_of s.proposal) None) (slot-server_at m w p i small)
      ∙ ticket_at i (eqb (owner m i) p) refl

  -- A ticket was suggested at a later instance by the server's state exactly if it was by the trace.
  past_same : (i t : ℕ)
      → list_any (is_suggested_again (server_at m w p) t i) instances ≡ list_any (is_suggested_again_by p t i) w
  past_same i t =
      both_ways _ _
      (λ h.
      let a = any-instances_found (is_suggested_again (server_at m w p) t i) h in
      let parts = and_parts (ltb i a.0) (is_ticket t (suggested_at (server_at m w p) a.0)) a.2 in
      let d = sym (suggested_same a.0 a.1) ∙ ticket_is t (suggested_at (server_at m w p) a.0) parts.1 in
      in_any (is_suggested_again_by p t i) (Sent (Suggest p a.0 t)) w (suggested_in w p a.0 t d)
      (rw (same p, same t) parts.0))
      (λ h.
      let a = any_in (is_suggested_again_by p t i) w h in
      let line = past_line p t i a.0 a.2 in
      let d : IsIn (Sent (Suggest p line.0 t)) w = rw line.2 at a.1 in
      let small = suggest_small m w grown p line.0 t d in
      any-instances (is_suggested_again (server_at m w p) t i) line.0 small
      (rw (line.1, suggested_same line.0 small, suggested_is line.0 t d) (same t)))

  waits_same : (i : ℕ) → i < instance_count → (o : Option ℕ) → own_waiting_of (server_at m w p) i o ≡ waiting_of w p i o
  waits_same i small None = refl
  waits_same i small (Some t) =
      ap (λ (s : SlotState).
      if is_noop s.learned && not (list_any (is_suggested_again (server_at m w p) t i) instances) then Some t else None)
      (slot-server_at m w p i small)
      ∙ ap (λ (d : Bool). if is_noop (learned_value w p i) && not d then Some t else None) (past_same i t)

  pub waiting_at_same : (i : ℕ) → i < instance_count → own_waiting_at (server_at m w p) i ≡ waiting_at w p i
  waiting_at_same i small =
      ap (own_waiting_of (server_at m w p) i) (suggested_same i small) ∙ waits_same i small (suggested_ticket w p i)

  pub first_waiting_same : first_waiting (server_at m w p) ≡ slice_get (waiting_tickets w p) 0
  first_waiting_same =
      ap (λ xs. slice_get xs 0)
      (filter_map-instances_same (own_waiting_at (server_at m w p)) (waiting_at w p) waiting_at_same)
