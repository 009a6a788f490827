-- The effect of the lines of an event on the state of a server, and hearing a Propose.
use Rattle.std.proofs.Common.{◌≡◌, ℕ, ◌<◌, ◌≤◌, Bool, true, false, List, [], ◌∷◌, Some, refl, sym, ◌∙◌, ap, arith, cond, leb}
use Rattle.mencius_model.specs.Rules.{acceptance_lines}
use Rattle.std.specs.Prelude.{slice_get}
use Rattle.std.proofs.lemmas.Bool.{leb-true}
use Rattle.mencius_base.specs.declared.message.Message.{Message}
use Rattle.mencius_base.specs.declared.message.Message.TheVariants.{Accepted, Propose}
use Rattle.mencius_base.specs.declared.message.Value.{Value}
use Rattle.mencius_base.specs.Members.{Membership}
use Rattle.mencius_model.specs.Trace.{Line, Heard, Sent, Trace, followed_by, sent_messages, messages_of}
use Rattle.mencius_model.specs.Instance.{promised_ballot, proposal, tried_ballot}
use Rattle.mencius_model.specs.Server.{front}
use Rattle.mencius_model.specs.Next.{learned_count}
use Rattle.mencius_model.proofs.trace.NumberLists.{get_or-map-instances, map-instances_same, map-instances_set}
use Rattle.coord_paxos.specs.SlotState.{SlotState}
use Rattle.coord_paxos.specs.Fresh.{new_slot}
use Rattle.coord_paxos.specs.Slot.{after_accept}
use Rattle.coord_paxos.specs.Reached.{slot_at}
use Rattle.coord_paxos.proofs.SlotTrace.{slot_at-quiet, slot_at-heard, slot_at-accepted}
use Rattle.mencius_model.proofs.trace.QuietLines.{quiet_accepted, IsUncounted}
use Rattle.mencius_server.specs.State.{ServerState, slot, with_slot, with_slot_and_front}
use Rattle.mencius_server.specs.Machine.{after_hearing, after_propose, learned_on, sent_on}
use Rattle.mencius_server.specs.Reached.{server_at}
use Rattle.mencius_base.specs.Limits.{instance_count}

pub slot-server_at : (m : Membership) (w : Trace) (p i : ℕ) → i < instance_count
    → slot (server_at m w p) i ≡ slot_at m w p i
slot-server_at m w p i h = get_or-map-instances (slot_at m w p) i (new_slot m) h

same_front : (m : Membership) (p f g : ℕ) (xs ys : List SlotState) → f ≡ g → xs ≡ ys
    → ◌≡◌ {A = ServerState} (record { members = m; id = p; front = f; slots = xs })
    (record { members = m; id = p; front = g; slots = ys })
same_front m p f g xs ys e h = rw (e, h)

-- If one slot and the front are the only changes between two traces, the server's state changes only in this slot and
-- the front.
pub server_written : (m : Membership) (w v : Trace) (p i f : ℕ) (s : SlotState) → front m v p ≡ f
    → slot_at m v p i ≡ s
    → ((j : ℕ) → (j ≡ i → ⊥) → slot_at m v p j ≡ slot_at m w p j)
    → with_slot_and_front (server_at m w p) i s f ≡ server_at m v p
server_written m w v p i f s ahead here there =
    same_front m p _ _ _ _ (sym ahead)
    (map-instances_set (slot_at m w p) (slot_at m v p) i s (new_slot m) here (λ j h ne. sym (there j ne)))

-- If the front and all slots are the same at two traces, the server's state is the same.
pub server_unchanged : (m : Membership) (w v : Trace) (p : ℕ) → front m v p ≡ front m w p
    → ((j : ℕ) → slot_at m v p j ≡ slot_at m w p j) → server_at m w p ≡ server_at m v p
server_unchanged m w v p ahead there =
    same_front m p _ _ _ _ (sym ahead)
    (map-instances_same (slot_at m w p) (slot_at m v p) (new_slot m) (λ j h. sym (there j)))

-- When server p hears the message x, its messages, the number of learned instances and its new state agree with the
-- lines `ls`.
pub record Meets (m : Membership) (w : Trace) (k p : ℕ) (x : Message) (ls : List Line) : Type 0 where
  pub sends : sent_on (server_at m w p) x ≡ messages_of ls
  pub learns : learned_on (server_at m w p) x ≡ learned_count ls
  pub state : after_hearing (server_at m w p) x ≡ server_at m (followed_by (Heard k p ∷ w) ls) p

-- After p hears a message that no set counts, and accepts a ballot, the ballot is the promise and the vote of its slot.
accepting : (m : Membership) (w : Trace) (k p q i b : ℕ) (z : Value) (x : Message) → slice_get (sent_messages w) k
    ≡ Some x
    → ((j c : ℕ) → IsUncounted j c x)
    → promised_ballot w p i ≤ b → proposal w i b ≡ Some z
    → slot_at m (Sent (Accepted p q i b) ∷ Heard k p ∷ w) p i
    ≡ record (slot_at m w p i) { promised = b; vote = Some (record { ballot = b; value = z }) }
accepting m w k p q i b z x e un high said =
    slot_at-accepted m (Heard k p ∷ w) p q i b z (omega arith) (rw said)
    ∙ ap (λ (s : SlotState). record s { promised = b; vote = Some (record { ballot = b; value = z }) })
    (slot_at-heard m w k p i x e (un i (tried_ballot w p i)))

accepting_elsewhere : (m : Membership) (w : Trace) (k p q i b j : ℕ) (x : Message) → slice_get (sent_messages w) k
    ≡ Some x
    → ((j c : ℕ) → IsUncounted j c x)
    → (j ≡ i → ⊥) → slot_at m (Sent (Accepted p q i b) ∷ Heard k p ∷ w) p j ≡ slot_at m w p j
accepting_elsewhere m w k p q i b j x e un ne =
    slot_at-quiet m (Heard k p ∷ w) (Sent (Accepted p q i b)) p j (quiet_accepted p q i b j ne) refl
    ∙ slot_at-heard m w k p j x e (un j (tried_ballot w p j))

uncounted_propose : (q i b : ℕ) (z : Value) (j c : ℕ) → IsUncounted j c (Propose q i b z)
uncounted_propose q i b z j c = record { promise = λ r. refl; acceptance = λ r. refl; report = refl }

-- The state after a Propose, in the two cases of the test whether the ballot is accepted.
propose_state : (m : Membership) (w : Trace) (p i b : ℕ) (z : Value) (a : Bool) → i < instance_count
    → leb (promised_ballot w p i) b ≡ a
    → after_propose (server_at m w p) i b z ≡ with_slot (server_at m w p) i
    (cond a (record (slot_at m w p i) { promised = b; vote = Some (record { ballot = b; value = z }) })
    (slot_at m w p i))
propose_state m w p i b z a small e =
    ap (λ (s : SlotState). with_slot (server_at m w p) i (after_accept s b z)) (slot-server_at m w p i small)
    ∙ ap (λ (a : Bool). with_slot (server_at m w p) i
    (cond a (record (slot_at m w p i) { promised = b; vote = Some (record { ballot = b; value = z }) })
    (slot_at m w p i))) e

propose_cases : (m : Membership) (w : Trace) (k p q i b : ℕ) (z : Value) → i < instance_count
    → slice_get (sent_messages w) k ≡ Some (Propose q i b z) → proposal w i b ≡ Some z
    → (a : Bool) → leb (promised_ballot w p i) b ≡ a
    → Meets m w k p (Propose q i b z) (cond a (Sent (Accepted p q i b) ∷ []) [])
propose_cases m w k p q i b z small e said true high = record {
  sends = rw (slot-server_at m w p i small, high);
  learns = refl;
  state =
      propose_state m w p i b z true small high
      ∙ server_written m w (Sent (Accepted p q i b) ∷ Heard k p ∷ w) p i (front m w p) _ (omega arith)
      (accepting m w k p q i b z _ e (uncounted_propose q i b z) (leb-true _ _ high) said)
      (λ j ne. accepting_elsewhere m w k p q i b j _ e (uncounted_propose q i b z) ne);
}
propose_cases m w k p q i b z small e said false low = record {
  sends = rw (slot-server_at m w p i small, low);
  learns = refl;
  state =
      propose_state m w p i b z false small low
      ∙ server_written m w (Heard k p ∷ w) p i (front m w p) _ (omega arith)
      (slot_at-heard m w k p i _ e (uncounted_propose q i b z i (tried_ballot w p i)))
      (λ j ne. slot_at-heard m w k p j _ e (uncounted_propose q i b z j (tried_ballot w p j)));
}

pub meets_propose : (m : Membership) (w : Trace) (k p q i b : ℕ) (z : Value) → i < instance_count
    → slice_get (sent_messages w) k ≡ Some (Propose q i b z) → proposal w i b ≡ Some z
    → Meets m w k p (Propose q i b z) (acceptance_lines p q i b (promised_ballot w p i))
meets_propose m w k p q i b z small e said =
    propose_cases m w k p q i b z small e said (leb (promised_ballot w p i) b) refl
