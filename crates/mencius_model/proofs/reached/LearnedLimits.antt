-- Each learned value is at an instance that exists.
use Rattle.std.proofs.Common.{◌≡◌, ℕ, zero, suc, ◌+◌, ◌<◌, ◌≤◌, Bool, true, false, cond, List, [], ◌∷◌, ◌++◌, Option, Some, None, map, filter, inl, inr, refl, arith, Ok, slice_get, ltb, leb}
use Rattle.std.specs.Prelude.{is_none}
use Rattle.std.specs.List.{range_with_len}
use Rattle.std.proofs.lemmas.Bool.{cases_Bool}
use Rattle.mencius_base.specs.declared.event.Event.{Event}
use Rattle.mencius_base.specs.declared.event.Event.TheVariants.{Submit, Deliver, Lose, Suspect, Retry, Execute}
use Rattle.mencius_base.specs.declared.message.Answer.{Answer}
use Rattle.mencius_base.specs.declared.message.Answer.TheVariants.{Promise as Promised, Known, Silent}
use Rattle.mencius_base.specs.declared.message.Message.{Message}
use Rattle.mencius_base.specs.declared.message.Message.TheVariants.{Suggest, Skip, Accepted, Prepare, Promise, Propose, Learn}
use Rattle.mencius_base.specs.declared.message.Value.{Value}
use Rattle.mencius_base.specs.declared.message.Value.TheVariants.{Noop}
use Rattle.mencius_base.specs.Members.{Membership, numbers_below, instances}
use Rattle.mencius_model.specs.Trace.{Line, Heard, Sent, Learned, Trace, sent_messages}
use Rattle.mencius_model.specs.Instance.{learned_value, promised_ballot, vote}
use Rattle.mencius_model.specs.Server.{free_instance, front, covered_instances, waiting_tickets}
use Rattle.mencius_model.specs.Rules.{answer_lines, decision_lines, prepare_answer_from, proposal_lines, suggestion}
use Rattle.mencius_model.specs.Next.{IsReached, head, lines, next, on_message, preparation, due_decision_at, due_proposal_at}
use Rattle.mencius_model.proofs.rights.EachLine.{AreAll, HoldsAlong, next_along, one_if}
use Rattle.mencius_model.proofs.trace.Lists.{get_in}
use Rattle.mencius_model.proofs.trace.AnswersLast.{learned_in, sent_in}
use Rattle.mencius_model.proofs.rights.Journals.{reached_along, reached_next}
use Rattle.mencius_model.proofs.reached.MessageLimits.{IsSmall, sent_small}
use Rattle.mencius_base.specs.Limits.{instance_count, most_servers}
use Rattle.mencius_model.proofs.trace.Parts.{is_newly_skipped, retry_lines, delivery}

abbrev IsLow : Line → Type 0
IsLow (Learned p i x) = i < instance_count
IsLow _ = Unit {0}

abbrev AreLow : List Line → Type 0
AreLow ls = AreAll IsLow ls

low_two : (x y : Message) (a d : Bool) → AreLow (cond a (Sent x ∷ []) [] ++ cond d (Sent y ∷ []) [])
low_two x y true true = (tt, (tt, tt))
low_two x y true false = (tt, tt)
low_two x y false true = (tt, tt)
low_two x y false false = tt

low_noops : (p : ℕ) (g : ℕ → Bool) (i n : ℕ) → i + n ≤ instance_count
    → AreLow (map (λ (i : ℕ). Learned p i Noop) (filter g (range_with_len i n)))
low_noops p g i zero h = tt
low_noops p g i (suc n) h =
    let rest = low_noops p g (i + 1) n (omega arith) in
    let here : i < instance_count = omega arith in
    elim (cases_Bool (g i)) [
      | inl e ↦ rw e (here, rest)
      | inr e ↦ rw e rest
    ]

low_given_up : (p : ℕ) (g : ℕ → Bool) → AreLow (map (λ (i : ℕ). Learned p i Noop) (filter g instances))
unfolding numbers_below instances
low_given_up p g = low_noops p g 0 instance_count (omega arith)

low_suggestion : (p t : ℕ) (o : Option ℕ) → AreLow (suggestion p o t)
low_suggestion p t None = tt
low_suggestion p t (Some i) = (tt, tt)

low_again : (m : Membership) (w : Trace) (p : ℕ) (o : Option ℕ) → AreLow (retry_lines m w p o)
low_again m w p None = tt
low_again m w p (Some t) = low_suggestion p t (free_instance m w p)

low_prepared : (m : Membership) (w : Trace) (p : ℕ) (is : List ℕ) → AreLow (map (preparation m w p) is)
low_prepared m w p [] = tt
low_prepared m w p (i ∷ is) = (tt, low_prepared m w p is)

low_answer : (p q i b : ℕ) (answer : Answer) → AreLow (answer_lines p q i b answer)
low_answer p q i b (Promised vote) = (tt, tt)
low_answer p q i b (Known x) = (tt, tt)
low_answer p q i b Silent = tt

low_proposal : (p i b : ℕ) (o : Option Value) → AreLow (proposal_lines p i b o)
low_proposal p i b None = tt
low_proposal p i b (Some x) = (tt, tt)

low_decision : (p i : ℕ) → i < instance_count → (o : Option Value) → AreLow (decision_lines p i o)
low_decision p i h None = tt
low_decision p i h (Some x) = (h, (tt, tt))

low_message : (m : Membership) (w v : Trace) (p : ℕ) (x : Message) → IsSmall m x → AreLow (on_message m w v p x)
low_message m w v p (Suggest q i t) h = low_two _ _ (ltb (front m w p) i) (leb (promised_ballot w p i) 0)
low_message m w v p (Skip q first stop) h = low_given_up p (is_newly_skipped m w p q first stop)
low_message m w v p (Prepare q i b) h =
    low_answer p q i b (prepare_answer_from (promised_ballot w p i) (vote w p i) b (learned_value w p i))
low_message m w v p (Promise q to i b reports) h = low_proposal p i b (due_proposal_at m w v p i b)
low_message m w v p (Propose q i b x) h = one_if IsLow _ (leb (promised_ballot w p i) b) tt
low_message m w v p (Accepted q to i b) h = low_decision p i h.1 (due_decision_at m w v p i b)
low_message m w v p (Learn q i x) h = one_if IsLow _ (is_none (learned_value w p i)) h.1

low_delivery : (m : Membership) → m.count ≤ most_servers → (w v : Trace) (p k : ℕ) → IsReached m w
    → (o : Option Message) → slice_get (sent_messages w) k ≡ o → AreLow (delivery m w v p o)
low_delivery m few w v p k r None e = tt
low_delivery m few w v p k r (Some x) e =
    low_message m w v p x (sent_small m few w r x (sent_in x w (get_in (sent_messages w) k x e)))

low_lines : (m : Membership) → m.count ≤ most_servers → (w : Trace) (e : Event) → IsReached m w → AreLow (lines m w e)
low_lines m few w (Submit p command) r = low_suggestion p _ (free_instance m w p)
low_lines m few w (Deliver k p) r = low_delivery m few w (Heard k p ∷ w) p k r (slice_get (sent_messages w) k) refl
low_lines m few w (Lose k p) r = tt
low_lines m few w (Suspect p q) r = low_prepared m w p (covered_instances m w p q)
low_lines m few w (Retry p) r = low_again m w p (slice_get (waiting_tickets w p) 0)
low_lines m few w (Execute p) r = tt

low_head : (e : Event) → IsLow (head e)
low_head (Submit p command) = tt
low_head (Deliver k p) = tt
low_head (Lose k p) = tt
low_head (Suspect p q) = tt
low_head (Retry p) = tt
low_head (Execute p) = tt

record IsLowReached (m : Membership) (w : Trace) : Type 0 where
  reached : IsReached m w
  low : HoldsAlong IsLow w

low_next : (m : Membership) → m.count ≤ most_servers → (w v : Trace) (e : Event) → IsLowReached m w → next m w e ≡ Ok v
    → IsLowReached m v
low_next m few w v e all h =
    record {
      reached = reached_next m w v e all.reached h;
      low = next_along IsLow m w v e all.low h (low_head e) (low_lines m few w e all.reached);
    }

-- Each learned value is at an instance below 4,096.
pub learned_small : (m : Membership) → m.count ≤ most_servers → (w : Trace) → IsReached m w → (p i : ℕ) (z : Value)
    → learned_value w p i ≡ Some z → i < instance_count
learned_small m few w r p i z h =
    let start : IsLowReached m [] =
    record { reached = record { journal = []; replays = refl }; low = λ l h. absurd h } in
    (reached_along m (IsLowReached m) start (low_next m few) w r).low
    (Learned p i z) (learned_in w p i z h)
