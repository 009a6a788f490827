-- All lines of an event belong to the server of the event.
use Rattle.std.proofs.Common.{◌≡◌, ℕ, ◌+◌, Bool, true, false, List, [], ◌∷◌, ◌++◌, Option, Some, None, cond, ltb, leb, map, filter, refl}
use Rattle.std.specs.Prelude.{is_none, slice_get}
use Rattle.mencius_base.specs.Numbers.{ServerId}
use Rattle.mencius_base.specs.declared.event.Event.{Event}
use Rattle.mencius_base.specs.declared.event.Event.TheVariants.{Submit, Deliver, Lose, Suspect, Retry, Execute}
use Rattle.mencius_base.specs.declared.message.Answer.{Answer}
use Rattle.mencius_base.specs.declared.message.Answer.TheVariants.{Promise as Promised, Known, Silent}
use Rattle.mencius_base.specs.declared.message.Message.{Message}
use Rattle.mencius_base.specs.declared.message.Message.TheVariants.{Suggest, Skip, Accepted, Prepare, Promise, Propose, Learn}
use Rattle.mencius_base.specs.declared.message.Value.{Value}
use Rattle.mencius_base.specs.declared.message.Value.TheVariants.{Noop}
use Rattle.mencius_base.specs.Members.{Membership, first_owned, instances}
use Rattle.mencius_model.specs.Trace.{Line, Heard, Sent, Learned, Trace, sent_messages}
use Rattle.mencius_model.specs.Instance.{learned_value, promised_ballot, vote}
use Rattle.mencius_model.specs.Server.{free_instance, front, covered_instances, waiting_tickets}
use Rattle.mencius_model.specs.Rules.{answer_lines, decision_lines, prepare_answer_from, proposal_lines, suggestion}
use Rattle.mencius_model.proofs.rights.EachLine.{AreAll, one_if}
use Rattle.mencius_model.specs.Next.{head, lines, on_message, preparation, due_decision_at, due_proposal_at, server_of}
use Rattle.mencius_model.proofs.trace.Parts.{is_newly_skipped, retry_lines, delivery}

-- If the line is a sent message, a learning or a delivery, it belongs to server p. Any other line counts as p's.
abbrev pub IsBy : ServerId → Line → Type 0
IsBy p (Sent (Suggest from inst ticket)) = from ≡ p
IsBy p (Sent (Skip from first stop)) = from ≡ p
IsBy p (Sent (Accepted from to inst ballot)) = from ≡ p
IsBy p (Sent (Prepare from inst ballot)) = from ≡ p
IsBy p (Sent (Promise from to inst ballot vote)) = from ≡ p
IsBy p (Sent (Propose from inst ballot value)) = from ≡ p
IsBy p (Sent (Learn from inst value)) = from ≡ p
IsBy p (Learned server inst value) = server ≡ p
IsBy p (Heard message server) = server ≡ p
IsBy p _ = Unit {0}

abbrev pub AreBy : ServerId → List Line → Type 0
AreBy p ls = AreAll (IsBy p) ls

by_suggestion : (p t : ℕ) (o : Option ℕ) → AreBy p (suggestion p o t)
by_suggestion p t None = tt
by_suggestion p t (Some i) = (refl, tt)

by_again : (m : Membership) (w : Trace) (p : ℕ) (o : Option ℕ) → AreBy p (retry_lines m w p o)
by_again m w p None = tt
by_again m w p (Some t) = by_suggestion p t (free_instance m w p)

by_prepared : (m : Membership) (w : Trace) (p : ℕ) (is : List ℕ) → AreBy p (map (preparation m w p) is)
by_prepared m w p [] = tt
by_prepared m w p (i ∷ is) = (refl, by_prepared m w p is)

by_noops : (p : ℕ) (is : List ℕ) → AreBy p (map (λ (i : ℕ). Learned p i Noop) is)
by_noops p [] = tt
by_noops p (i ∷ is) = (refl, by_noops p is)

by_two : (p i n q j : ℕ) (a d : Bool)
    → AreBy p (cond a (Sent (Skip p i n) ∷ []) [] ++ cond d (Sent (Accepted p q j 0) ∷ []) [])
by_two p i n q j true true = (refl, (refl, tt))
by_two p i n q j true false = (refl, tt)
by_two p i n q j false true = (refl, tt)
by_two p i n q j false false = tt

by_decision : (p i : ℕ) (o : Option Value) → AreBy p (decision_lines p i o)
by_decision p i None = tt
by_decision p i (Some x) = (refl, (refl, tt))

by_proposal : (p i b : ℕ) (o : Option Value) → AreBy p (proposal_lines p i b o)
by_proposal p i b None = tt
by_proposal p i b (Some x) = (refl, tt)

by_answer : (p q i b : ℕ) (answer : Answer) → AreBy p (answer_lines p q i b answer)
by_answer p q i b (Promised vote) = (refl, tt)
by_answer p q i b (Known x) = (refl, tt)
by_answer p q i b Silent = tt

by_message : (m : Membership) (w v : Trace) (p : ℕ) (x : Message) → AreBy p (on_message m w v p x)
by_message m w v p (Suggest q i t) =
    by_two p (front m w p) (first_owned m p (i + 1)) q i (ltb (front m w p) i) (leb (promised_ballot w p i) 0)
by_message m w v p (Skip q first stop) = by_noops p (filter (is_newly_skipped m w p q first stop) instances)
by_message m w v p (Prepare q i b) =
    by_answer p q i b (prepare_answer_from (promised_ballot w p i) (vote w p i) b (learned_value w p i))
by_message m w v p (Promise q to i b reports) = by_proposal p i b (due_proposal_at m w v p i b)
by_message m w v p (Propose q i b x) = one_if (IsBy p) _ (leb (promised_ballot w p i) b) refl
by_message m w v p (Accepted q to i b) = by_decision p i (due_decision_at m w v p i b)
by_message m w v p (Learn q i x) = one_if (IsBy p) _ (is_none (learned_value w p i)) refl

by_delivery : (m : Membership) (w v : Trace) (p : ℕ) (o : Option Message) → AreBy p (delivery m w v p o)
by_delivery m w v p None = tt
by_delivery m w v p (Some x) = by_message m w v p x

pub lines_by : (m : Membership) (w : Trace) (e : Event) → AreBy (server_of e) (lines m w e)
lines_by m w (Submit p command) = by_suggestion p _ (free_instance m w p)
lines_by m w (Deliver k p) = by_delivery m w (Heard k p ∷ w) p (slice_get (sent_messages w) k)
lines_by m w (Lose k p) = tt
lines_by m w (Suspect p q) = by_prepared m w p (covered_instances m w p q)
lines_by m w (Retry p) = by_again m w p (slice_get (waiting_tickets w p) 0)
lines_by m w (Execute p) = tt

pub head_by : (e : Event) → IsBy (server_of e) (head e)
head_by (Submit p command) = tt
head_by (Deliver k p) = refl
head_by (Lose k p) = tt
head_by (Suspect p q) = tt
head_by (Retry p) = tt
head_by (Execute p) = tt
