-- The acceptances of a server and the proposals in a trace depend only on the sent messages.
use Rattle.std.proofs.Common.{◌≡◌, ℕ, ◌+◌, ◌≤◌, List, [], ◌∷◌, length, take, Option, Some, None, refl, sym, ap, ◌∙◌, append-nil}
use Rattle.std.specs.Option.{option_or}
use Rattle.std.specs.Prelude.{slice_get}
use Rattle.std.proofs.lemmas.List.{take_all}
use Rattle.std.proofs.lemmas.List.Sums.{fold_more}
use Rattle.std.proofs.lemmas.Option.{get_or_from_slice_get, slice_get_within}
use Rattle.mencius_model.specs.Trace.{Sent, Trace, sent_messages}
use Rattle.std.specs.List.{fold}
use Rattle.std.proofs.lemmas.Grind.{fold-append}
use Rattle.std.proofs.lemmas.List.Folds.{fold_stuck}
use Rattle.mencius_base.specs.declared.message.Message.{Message}
use Rattle.mencius_base.specs.declared.message.Value.{Value}
use Rattle.mencius_model.specs.Instance.{accepted_ballot, accepted_by, greater_ballot, proposal, proposal_by}

-- folding the first n + 1 elements is one step after folding the first n elements
fold_further : {A B : Type 0} (f : B → A → B) (a : B) (xs : List A) (n : ℕ) (x : A) → slice_get xs n ≡ Some x
    → fold f a (take (n + 1) xs) ≡ f (fold f a (take n xs)) x
fold_further f a xs n x e =
    fold_more f a xs n x (slice_get_within xs n x e) ∙ ap (f (fold f a (take n xs))) (get_or_from_slice_get xs n x x e)

-- ---- acceptances

abbrev with_acceptance : ℕ → ℕ → Option ℕ → Message → Option ℕ
with_acceptance p i o x = greater_ballot o (accepted_by p i (Sent x))

abbrev pub accepted_among : ℕ → ℕ → List Message → Option ℕ
accepted_among p i xs = fold (with_acceptance p i) None xs

greater_none : (o : Option ℕ) → greater_ballot o None ≡ o
greater_none None = refl
greater_none (Some b) = refl

accepted_is : (p i : ℕ) (w : Trace) → accepted_ballot w p i ≡ accepted_among p i (sent_messages w)
accepted_is p i [] = refl
accepted_is p i (Sent x ∷ w) =
    ap (λ o. with_acceptance p i o x) (accepted_is p i w)
    ∙ sym (fold-append (with_acceptance p i) None (sent_messages w) (x ∷ []))
accepted_is p i (_ ∷ w) =
    greater_none (accepted_ballot w p i) ∙ accepted_is p i w ∙ ap (accepted_among p i) (sym (append-nil (sent_messages w)))

-- the greatest accepted ballot of the messages so far is still right after another message
pub accepted_further : (p i : ℕ) (xs : List Message) (n : ℕ) (x : Message) (old new : Option ℕ) → slice_get xs n ≡ Some x
    → old ≡ accepted_among p i (take n xs) → new ≡ greater_ballot old (accepted_by p i (Sent x))
    → new ≡ accepted_among p i (take (n + 1) xs)
accepted_further p i xs n x old new here had got =
    got ∙ ap (λ o. with_acceptance p i o x) had ∙ sym (fold_further (with_acceptance p i) None xs n x here)

-- the greatest accepted ballot in all messages is the accepted ballot of the trace
pub accepted_whole : (p i : ℕ) (w : Trace) (n : ℕ) (found : Option ℕ) → length (sent_messages w) ≤ n
    → found ≡ accepted_among p i (take n (sent_messages w)) → found ≡ accepted_ballot w p i
accepted_whole p i w n found past had =
    had ∙ ap (accepted_among p i) (take_all n (sent_messages w) past) ∙ sym (accepted_is p i w)

-- ---- proposals

abbrev with_proposal : ℕ → ℕ → Option Value → Message → Option Value
with_proposal i b o x = option_or o (proposal_by i b (Sent x))

abbrev pub proposed_among : ℕ → ℕ → List Message → Option Value
proposed_among i b xs = fold (with_proposal i b) None xs

earlier_none : (o : Option Value) → option_or o None ≡ o
earlier_none None = refl
earlier_none (Some x) = refl

proposed_is : (i b : ℕ) (w : Trace) → proposal w i b ≡ proposed_among i b (sent_messages w)
proposed_is i b [] = refl
proposed_is i b (Sent x ∷ w) =
    ap (λ o. with_proposal i b o x) (proposed_is i b w)
    ∙ sym (fold-append (with_proposal i b) None (sent_messages w) (x ∷ []))
proposed_is i b (_ ∷ w) =
    earlier_none (proposal w i b) ∙ proposed_is i b w ∙ ap (proposed_among i b) (sym (append-nil (sent_messages w)))

-- there is still no proposal after another message that proposes nothing there
pub unsaid_further : (i b : ℕ) (xs : List Message) (n : ℕ) (x : Message) → slice_get xs n ≡ Some x
    → proposed_among i b (take n xs) ≡ None → proposal_by i b (Sent x) ≡ None
    → proposed_among i b (take (n + 1) xs) ≡ None
unsaid_further i b xs n x here had none =
    fold_further (with_proposal i b) None xs n x here ∙ ap (λ o. with_proposal i b o x) had ∙ none

-- if no message proposes anything there, the trace has no proposal there
pub unsaid_whole : (i b : ℕ) (w : Trace) (n : ℕ) → length (sent_messages w) ≤ n
    → proposed_among i b (take n (sent_messages w)) ≡ None → proposal w i b ≡ None
unsaid_whole i b w n past had =
    proposed_is i b w ∙ ap (proposed_among i b) (sym (take_all n (sent_messages w) past)) ∙ had

-- the first message that proposes something there gives the proposal of the trace, because the first proposal stays
pub proposed_here : (i b : ℕ) (w : Trace) (n : ℕ) (x : Message) (value : Value) → slice_get (sent_messages w) n ≡ Some x
    → proposed_among i b (take n (sent_messages w)) ≡ None → Some value ≡ proposal_by i b (Sent x)
    → Some value ≡ proposal w i b
proposed_here i b w n x value here had is =
    fold_stuck (with_proposal i b) (Some value) (λ y. refl) None (sent_messages w) n x
    (slice_get_within (sent_messages w) n x here)
    (ap (λ y. with_proposal i b (proposed_among i b (take n (sent_messages w))) y)
    (get_or_from_slice_get (sent_messages w) n x x here) ∙ ap (λ o. with_proposal i b o x) had ∙ sym is)
    ∙ sym (proposed_is i b w)
