-- No Prepare of a reached trace has a round above the greatest round.
use Rattle.std.proofs.Common.{◌≡◌, ℕ, ◌<◌, ◌≤◌, Bool, true, false, cond, ltb, leb, leb-false, List, [], ◌∷◌, ◌++◌, Option, Some, None, map, filter, arith, Ok, slice_get}
use Rattle.std.specs.Prelude.{nat_lt}
use Rattle.std.specs.List.{list_any}
use Rattle.std.proofs.lemmas.Bool.{ltb-false, or_parts}
use Rattle.std.proofs.lemmas.Nat.{div-mul-add}
use Rattle.mencius_base.specs.Limits.{greatest_round}
use Rattle.mencius_base.specs.Members.{Membership, instances, round}
use Rattle.mencius_base.specs.declared.event.Event.{Event}
use Rattle.mencius_base.specs.declared.event.Event.TheVariants.{Submit, Deliver, Lose, Suspect, Retry, Execute}
use Rattle.mencius_base.specs.declared.message.Answer.{Answer}
use Rattle.mencius_base.specs.declared.message.Answer.TheVariants.{Promise as Promised, Known, Silent}
use Rattle.mencius_base.specs.declared.message.Message.{Message}
use Rattle.mencius_base.specs.declared.message.Message.TheVariants.{Suggest, Skip, Accepted, Prepare, Promise, Propose, Learn}
use Rattle.mencius_base.specs.declared.message.Value.{Value}
use Rattle.mencius_base.specs.declared.message.Value.TheVariants.{Noop}
use Rattle.mencius_model.specs.Trace.{Line, Heard, Sent, Learned, Trace, sent_messages}
use Rattle.mencius_model.specs.Instance.{learned_value, promised_ballot, vote}
use Rattle.mencius_model.specs.Rules.{answer_lines, decision_lines, prepare_answer_from, proposal_lines, suggestion}
use Rattle.mencius_model.specs.Server.{covered_instances, free_instance, front, waiting_tickets}
use Rattle.mencius_model.specs.Next.{IsReached, due_decision_at, due_proposal_at, head, lines, next, next_round, on_message, preparation}
use Rattle.mencius_model.proofs.rights.EachLine.{AreAll, HoldsAlong, next_along, one_if}
use Rattle.mencius_model.proofs.trace.Lists.{IsIn}
use Rattle.mencius_model.proofs.rights.EventRights.{NoneHolds, next_is}
use Rattle.mencius_model.proofs.rights.Journals.{reached_along}
use Rattle.mencius_model.proofs.trace.Parts.{causes, is_newly_skipped, retry_lines, delivery}

abbrev IsLowBallot : Membership → Line → Type 0
IsLowBallot m (Sent (Prepare from inst ballot)) = round m ballot ≤ greatest_round
IsLowBallot m _ = Unit {0}

abbrev AreLowBallots : Membership → List Line → Type 0
AreLowBallots m ls = AreAll (IsLowBallot m) ls

low_two : (m : Membership) (p q i j n : ℕ) (a d : Bool)
    → AreLowBallots m (cond a (Sent (Skip p i n) ∷ []) [] ++ cond d (Sent (Accepted p q j 0) ∷ []) [])
low_two m p q i j n true true = (tt, (tt, tt))
low_two m p q i j n true false = (tt, tt)
low_two m p q i j n false true = (tt, tt)
low_two m p q i j n false false = tt

low_noops : (m : Membership) (p : ℕ) (xs : List ℕ) → AreLowBallots m (map (λ (j : ℕ). Learned p j Noop) xs)
low_noops m p [] = tt
low_noops m p (j ∷ xs) = (tt, low_noops m p xs)

low_suggestion : (m : Membership) (p t : ℕ) (o : Option ℕ) → AreLowBallots m (suggestion p o t)
low_suggestion m p t None = tt
low_suggestion m p t (Some i) = (tt, tt)

low_again : (m : Membership) (w : Trace) (p : ℕ) (o : Option ℕ) → AreLowBallots m (retry_lines m w p o)
low_again m w p None = tt
low_again m w p (Some t) = low_suggestion m p t (free_instance m w p)

low_answer : (m : Membership) (p q i b : ℕ) (answer : Answer) → AreLowBallots m (answer_lines p q i b answer)
low_answer m p q i b (Promised vote) = (tt, tt)
low_answer m p q i b (Known x) = (tt, tt)
low_answer m p q i b Silent = tt

low_proposal : (m : Membership) (p i b : ℕ) (o : Option Value) → AreLowBallots m (proposal_lines p i b o)
low_proposal m p i b None = tt
low_proposal m p i b (Some x) = (tt, tt)

low_decision : (m : Membership) (p i : ℕ) (o : Option Value) → AreLowBallots m (decision_lines p i o)
low_decision m p i None = tt
low_decision m p i (Some x) = (tt, (tt, tt))

low_message : (m : Membership) (w v : Trace) (p : ℕ) (x : Message) → AreLowBallots m (on_message m w v p x)
low_message m w v p (Suggest q i t) = low_two m p q _ i _ (ltb (front m w p) i) (leb (promised_ballot w p i) 0)
low_message m w v p (Skip q first stop) = low_noops m p (filter (is_newly_skipped m w p q first stop) instances)
low_message m w v p (Prepare q i b) =
    low_answer m p q i b (prepare_answer_from (promised_ballot w p i) (vote w p i) b (learned_value w p i))
low_message m w v p (Promise q to i b reports) = low_proposal m p i b (due_proposal_at m w v p i b)
low_message m w v p (Propose q i b x) = one_if (IsLowBallot m) _ (leb (promised_ballot w p i) b) tt
low_message m w v p (Accepted q to i b) = low_decision m p i (due_decision_at m w v p i b)
low_message m w v p (Learn q i x) = one_if (IsLowBallot m) _ _ tt

low_delivery : (m : Membership) (w v : Trace) (p : ℕ) (o : Option Message) → AreLowBallots m (delivery m w v p o)
low_delivery m w v p None = tt
low_delivery m w v p (Some x) = low_message m w v p x

-- If no covered instance has too great a next round, all Prepares of a suspicion are within the limit.
low_prepared : (m : Membership) (w : Trace) (p : ℕ) → p < m.count → (xs : List ℕ)
    → list_any (λ i. nat_lt greatest_round (next_round m w p i)) xs ≡ false
    → AreLowBallots m (map (preparation m w p) xs)
low_prepared m w p member [] h = tt
low_prepared m w p member (i ∷ xs) h =
    let parts = or_parts (nat_lt greatest_round (next_round m w p i))
    (list_any (λ i. nat_lt greatest_round (next_round m w p i)) xs) h in
    let few = ltb-false greatest_round (next_round m w p i) parts.0 in (
      omega (arith, few, div-mul-add (next_round m w p i) m.count p member),
      low_prepared m w p member xs parts.1,
    )

low_lines : (m : Membership) (w : Trace) (e : Event) → NoneHolds (causes m w e) → AreLowBallots m (lines m w e)
low_lines m w (Submit p command) h = low_suggestion m p _ (free_instance m w p)
low_lines m w (Deliver k p) h = low_delivery m w (Heard k p ∷ w) p (slice_get (sent_messages w) k)
low_lines m w (Lose k p) h = tt
low_lines m w (Suspect p q) h =
    low_prepared m w p (leb-false m.count p (or_parts (leb m.count p) (leb m.count q) h.0).0)
    (covered_instances m w p q)
    h.1.1.1.0
low_lines m w (Retry p) h = low_again m w p (slice_get (waiting_tickets w p) 0)
low_lines m w (Execute p) h = tt

low_head : (m : Membership) (e : Event) → IsLowBallot m (head e)
low_head m (Submit p command) = tt
low_head m (Deliver k p) = tt
low_head m (Lose k p) = tt
low_head m (Suspect p q) = tt
low_head m (Retry p) = tt
low_head m (Execute p) = tt

low_next : (m : Membership) (w v : Trace) (e : Event) → HoldsAlong (IsLowBallot m) w → next m w e ≡ Ok v
    → HoldsAlong (IsLowBallot m) v
low_next m w v e all h =
    next_along (IsLowBallot m) m w v e all h (low_head m e) (low_lines m w e (next_is m w v e h).allowed)

-- The round of every prepared ballot is at most the greatest round.
pub prepared_low : (m : Membership) (w : Trace) → IsReached m w → (p i b : ℕ) → IsIn (Sent (Prepare p i b)) w
    → round m b ≤ greatest_round
prepared_low m w r p i b h =
    reached_along m (HoldsAlong (IsLowBallot m)) (λ l h. absurd h) (low_next m) w r (Sent (Prepare p i b)) h
