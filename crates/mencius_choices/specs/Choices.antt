-- The random words of a worker, and the events that it chooses.
use Rattle.std.specs.Prelude.{◌≡◌, ◌*◌, ℕ, Bool, true, false, List, [], ◌∷◌, Option, Some, None}
use Rattle.rand_pcg.specs.Lcg.{Lcg, advance, increment_of, next, started}
use Rattle.rand_pcg.specs.Pcg.{multiplier_64, output_xsh_rr}
use Rattle.mencius_base.specs.Numbers.{ServerId}
use Rattle.mencius_base.specs.declared.command.Command.{Command}
use Rattle.mencius_base.specs.declared.event.Event.{Event}
use Rattle.mencius_base.specs.declared.event.Event.TheVariants.{Submit}
use Rattle.mencius_choices.specs.declared.choice.Pick.{Pick}
use Rattle.mencius_choices.specs.declared.choice.Pick.TheVariants.{NextCommand, Is}
use Rattle.mencius_choices.specs.declared.order.CommandPlace.{CommandPlace}
use Rattle.mencius_cluster.specs.State.{ClusterState}
use Rattle.mencius_choices.specs.Picks.{pick_of}
use Rattle.mencius_base.specs.Plan.{PlanState}
use Rattle.mencius_choices.specs.Order.{after_place, commands_of_worker, own_command}

-- a worker's number, and the generator of its words
pub record Drawing : Type 0 where
  pub worker : ℕ
  pub generator : Lcg

-- the state of a worker's choices. It has the worker's number and generator, and the place of its next command, if one
-- is left
pub record ProgressState : Type 0 where
  pub drawing : Drawing
  pub next : Option CommandPlace

-- a worker's plan, its number and generator, and the commands that it has left, each with its server
pub record ChooserState : Type 0 where
  pub plan : PlanState
  pub drawing : Drawing
  pub left : List (ServerId × Command)

-- ---- words

-- the generator after one word is drawn
abbrev pub after_one_word : Lcg → Lcg
after_one_word g = next 64 multiplier_64 g

-- the generator after three words are drawn
abbrev pub after_three_words : Lcg → Lcg
after_three_words g = after_one_word (after_one_word (after_one_word g))

-- a worker's number and generator after three words are drawn
abbrev pub after_words : Drawing → Drawing
after_words d = record { worker = d.worker; generator = after_three_words d.generator }

-- the next word of a generator
abbrev pub word_of : Lcg → ℕ
word_of g = output_xsh_rr g.state

-- the next three words of a generator
abbrev pub words_of : Lcg → List ℕ
words_of g = word_of g ∷ word_of (after_one_word g) ∷ word_of (after_one_word (after_one_word g)) ∷ []

-- a worker's number and generator before its first turn. The generator begins with the seed, and the worker's number is
-- its stream
abbrev pub first_drawing : ℕ → ℕ → Drawing
first_drawing seed worker = record {
  worker = worker;
  generator = started 64 multiplier_64 seed (increment_of 64 worker);
}

-- a worker's number and generator after `turns` turns. Each turn draws three words
abbrev pub drawing_after : ℕ → ℕ → ℕ → Drawing
drawing_after seed worker turns = record {
  worker = worker;
  generator = advance 64 multiplier_64 (3 * turns) (started 64 multiplier_64 seed (increment_of 64 worker));
}

-- ---- commands

-- the first item and then the rest, or the empty list without a first item
abbrev pub behind_first : {A : Type 0} → Option A → List A → List A
behind_first None rest = []
behind_first (Some x) rest = x ∷ rest

-- the worker's commands from the place of its next command on, or none without such a place
abbrev pub left_at : PlanState → ℕ → Option CommandPlace → List (ServerId × Command)
left_at plan worker None = []
left_at plan worker (Some place) =
    behind_first (own_command plan worker place.row place.server) (after_place plan worker place)

-- whether a list has an item
abbrev pub is_any : {A : Type 0} → List A → Bool
is_any [] = false
is_any (x ∷ xs) = true

-- a worker of this plan that has not chosen yet. All its commands are left
abbrev pub first_chooser : PlanState → ℕ → ChooserState
first_chooser plan worker = record {
  plan = plan;
  drawing = first_drawing plan.seed worker;
  left = commands_of_worker plan worker;
}

-- the choices of a worker of this plan, continued from the progress x
abbrev pub chooser_at : PlanState → ProgressState → ChooserState
chooser_at plan x = record { plan = plan; drawing = x.drawing; left = left_at plan x.drawing.worker x.next }

-- x has the plan `own`, and the number and the generator that `worker` has after `turns` turns of that plan
pub record HasTurned (x : ChooserState) (own : PlanState) (worker turns : ℕ) : Type 0 where
  pub plan : x.plan ≡ own
  pub drawing : x.drawing ≡ drawing_after own.seed worker turns

-- ---- choices

-- the pick of a worker's next three words on this cluster
abbrev pub pick_at : ChooserState → ClusterState → Pick
pick_at chooser x = pick_of x chooser.plan.loss (is_any chooser.left) (words_of chooser.drawing.generator)

-- e is the event of a pick, and `rest` are the commands left after it. If the pick is the next command, e submits the
-- first command left at its server, and `rest` are the others
abbrev pub IsTaken : Pick → List (ServerId × Command) → Event → List (ServerId × Command) → Type 0
IsTaken (Is x) left e rest = (e ≡ x) × (rest ≡ left)
IsTaken NextCommand [] e rest = ⊥
IsTaken NextCommand (first ∷ others) e rest = (e ≡ Submit first.0 first.1) × (rest ≡ others)

-- a choice of the event e. Three words are drawn, and e is the event that they pick. A command that is chosen is no
-- longer left
pub record IsChoice (old : ChooserState) (x : ClusterState) (e : Event) (new : ChooserState) : Type 0 where
  pub plan : new.plan ≡ old.plan
  pub drawing : new.drawing ≡ after_words old.drawing
  pub taken : IsTaken (pick_at old x) old.left e new.left

-- a choice that fails because memory ran out. The words are drawn and pick the next command, which stays the next one
pub record IsPutOff (old : ChooserState) (x : ClusterState) (new : ChooserState) : Type 0 where
  pub picks : pick_at old x ≡ NextCommand
  pub same : new ≡ record old { drawing = after_words old.drawing }
