-- A chooser after a choice is in the state that `IsChoice` or `IsPutOff` describes.
use Rattle.std.proofs.Common.{◌≡◌, ℕ, Bool, List, [], ◌∷◌, Option, Some, None, MatchOption, MatchResult, Result, Ok}
use Rattle.std.proofs.Common.{Err, is_some, refl, sym, ap, subst, ◌∙◌}
use Rattle.mencius_base.specs.declared.command.Command.{Command}
use Rattle.mencius_base.specs.declared.event.Event.{Event}
use Rattle.mencius_base.specs.declared.event.Event.TheVariants.{Submit}
use Rattle.mencius_cluster.specs.State.{ClusterState}
use Rattle.mencius_choices.specs.declared.choice.Pick.{Pick}
use Rattle.mencius_choices.specs.declared.choice.Pick.TheVariants.{NextCommand, Is}
use Rattle.mencius_choices.specs.Picks.{pick_of}
use Rattle.mencius_choices.specs.Choices.{ChooserState, IsChoice, IsPutOff, IsTaken, after_words, is_any, pick_at, words_of}

-- there is a next command exactly if any command is left
pub any_left : {A B : Type 0} (o : Option A) (left : List B) (first : A → B) (rest : A → List B)
    → MatchOption o (left ≡ []) (λ x. left ≡ first x ∷ rest x) → is_some o ≡ is_any left
any_left None left first rest h = ap is_any (sym h)
any_left (Some x) left first rest h = ap is_any (sym h)

pub pick_at_is : (y : ChooserState) (x : ClusterState) (loss : ℕ) (left : Bool) (words : List ℕ) (z : Pick)
    → loss ≡ y.plan.loss → left ≡ is_any y.left
    → words ≡ words_of y.drawing.generator → z ≡ pick_of x loss left words → pick_at y x ≡ z
pick_at_is y x loss left words z a same d is =
    ap (λ n. pick_of x n (is_any y.left) (words_of y.drawing.generator)) (sym a)
    ∙ (ap (λ (o : Bool). pick_of x loss o (words_of y.drawing.generator)) (sym same)
    ∙ (ap (λ (ws : List ℕ). pick_of x loss left ws) (sym d) ∙ sym is))

-- if the words pick an event, it is chosen
pub event_chosen : (old new : ChooserState) (x : ClusterState) (e : Event) → pick_at old x ≡ Is e
    → new ≡ record old { drawing = after_words old.drawing } → IsChoice old x e new
event_chosen old new x e is made = record {
  plan = ap (λ (y : ChooserState). y.plan) made;
  drawing = ap (λ (y : ChooserState). y.drawing) made;
  taken = subst (λ (z : Pick). IsTaken z old.left e new.left) (sym is) (refl, ap (λ (y : ChooserState). y.left) made);
}

-- if the words pick the next command, it is chosen, or it stays the next one after an error
pub command_chosen : {E : Type 0} (r : Result Event E) (old mid new : ChooserState) (x : ClusterState)
    (first : ℕ × Command) (rest : List (ℕ × Command)) → pick_at old x ≡ NextCommand
    → mid ≡ record old { drawing = after_words old.drawing } → mid.left ≡ first ∷ rest
    → MatchResult r (λ e. (e ≡ Submit first.0 first.1) × (new ≡ record mid { left = rest })) (λ _. new ≡ mid)
    → MatchResult r (λ e. IsChoice old x e new) (λ _. IsPutOff old x new)
command_chosen (Ok e) old mid new x first rest is made left h =
    let was : old.left ≡ first ∷ rest = sym (ap (λ (y : ChooserState). y.left) made) ∙ left in
    let taken : IsTaken NextCommand (first ∷ rest) e new.left = (h.0, ap (λ (y : ChooserState). y.left) h.1) in
    record {
      plan = ap (λ (y : ChooserState). y.plan) h.1 ∙ ap (λ (y : ChooserState). y.plan) made;
      drawing = ap (λ (y : ChooserState). y.drawing) h.1 ∙ ap (λ (y : ChooserState). y.drawing) made;
      taken = subst (λ (z : Pick). IsTaken z old.left e new.left) (sym is)
          (subst (λ (xs : List (ℕ × Command)). IsTaken NextCommand xs e new.left) (sym was) taken);
    }
command_chosen (Err f) old mid new x first rest is made left h = record { picks = is; same = h ∙ made }
