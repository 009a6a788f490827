-- If each reply of a log is right when it is given, the promises about replies and real time follow from other
-- promises.
use Rattle.std.proofs.Common.{◌≡◌, ◌⊎◌, inl, inr, ℕ, Bool, true, false, cond, List, [], ◌∷◌, ◌++◌, Option, Some, None, is_some, length, slice_get, take, refl, sym, subst, ap, ◌∙◌, ⊎_elim, ◌||◌}
use Rattle.std.proofs.Math.Seq.{take-append_seam}
use Rattle.std.specs.List.{Contains}
use Rattle.std.proofs.lemmas.Bool.{cases_Bool, or_cases}
use Rattle.mencius_base.specs.Command.{is_same_id}
use Rattle.mencius_base.specs.declared.command.Command.{Command}
use Rattle.mencius_base.specs.declared.command.CommandId.{CommandId}
use Rattle.mencius_model.specs.Executed.{IsComparable, IsPrefix}
use Rattle.mencius_model.specs.KeyMap.{out}
use Rattle.mencius_model.proofs.trace.Prefixes.{prefix_self}
use Rattle.mencius_log.specs.declared.observation.Answer.{Answer}
use Rattle.mencius_log.specs.declared.observation.Answer.TheVariants.{Held}
use Rattle.mencius_log.specs.declared.observation.Observation.{Observation}
use Rattle.mencius_log.specs.declared.observation.Observation.TheVariants.{Submit, Execute, Reply, Lookup, Tell, Settle, Restore}
use Rattle.mencius_judge.specs.Answers.{IsRight}
use Rattle.mencius_judge.specs.Log.{Log, acknowledged, acknowledged_before, command_of, commands_of, has_id, history, is_failed}
use Rattle.mencius_judge.specs.Promises.{AreComparable, AreOneReply, AreRightReplies, StandBehindReplies, StandOnce, WereRestored, WereSettled, WereSubmitted}
use Rattle.mencius_judge.proofs.acknowledged.OpenReplies.{as_true, is_true}
use Rattle.mencius_judge.proofs.promises.Identities.{has-append, has_place, place_has, same_id_eq}
use Rattle.mencius_judge.proofs.promises.Kept.{all_known, comparable_earlier, history_grows, longer_split, same_command, same_commands, still_there, submitted_earlier}
use Rattle.mencius_judge.proofs.promises.Logs.{contains_cons, contains_none}
use Rattle.mencius_judge.proofs.theorems.Moments.{begins, history_later}
use Rattle.mencius_judge.proofs.observations.OrderSteps.{front_known, item_here, item_known}

-- some history ends in the command, and the reply is the text that a map gives there
pub record IsRightNow (w : Log) (id : CommandId) (x : Answer) : Type 0 where
  pub server : ℕ
  pub front : List CommandId
  pub command : Command
  pub splits : history w server ≡ front ++ id ∷ []
  pub there : command_of w id ≡ Some command
  pub is : x ≡ Held (out (commands_of w front) command)

-- each reply was right at the end of some history when it was given, no server is said to be settled, and none takes over
-- a history
abbrev pub WereRight : Log → Type 0
WereRight [] = Unit {0}
WereRight (Submit c ∷ w) = WereRight w
WereRight (Execute p id ∷ w) = WereRight w
WereRight (Reply id x ∷ w) = IsRightNow w id x × WereRight w
WereRight (Lookup r key x ∷ w) = WereRight w
WereRight (Tell r p ∷ w) = WereRight w
WereRight (Settle p ∷ w) = ⊥
WereRight (Restore p q n ∷ w) = ⊥

pub never_settled : (w : Log) → WereRight w → WereSettled w
never_settled [] right = tt
never_settled (Submit c ∷ w) right = never_settled w right
never_settled (Execute p id ∷ w) right = never_settled w right
never_settled (Reply id x ∷ w) right = never_settled w right.1
never_settled (Lookup r key x ∷ w) right = never_settled w right
never_settled (Tell r p ∷ w) right = never_settled w right
never_settled (Settle p ∷ w) right = absurd right
never_settled (Restore p q n ∷ w) right = absurd right

pub never_restored : (w : Log) → WereRight w → WereRestored w
never_restored [] right = tt
never_restored (Submit c ∷ w) right = never_restored w right
never_restored (Execute p id ∷ w) right = never_restored w right
never_restored (Reply id x ∷ w) right = never_restored w right.1
never_restored (Lookup r key x ∷ w) right = never_restored w right
never_restored (Tell r p ∷ w) right = never_restored w right
never_restored (Settle p ∷ w) right = absurd right
never_restored (Restore p q n ∷ w) right = absurd right

-- some history contains the command, and the reply is the text that a map gives at its place
pub record IsRightAt (w : Log) (id : CommandId) (x : Answer) : Type 0 where
  pub server : ℕ
  pub front : List CommandId
  pub back : List CommandId
  pub command : Command
  pub splits : history w server ≡ front ++ id ∷ back
  pub there : command_of w id ≡ Some command
  pub is : x ≡ Held (out (commands_of w front) command)

still_right : (w : Log) (o : Observation) (id : CommandId) (x : Answer) → WereSubmitted w → WereRestored (o ∷ w)
    → IsRightAt w id x → IsRightAt (o ∷ w) id x
still_right w o id x given restored h =
    let grows = history_grows w o restored h.server in
    record {
      server = h.server;
      front = h.front;
      back = h.back ++ grows.0;
      command = h.command;
      splits = longer_split (history w h.server) (history (o ∷ w) h.server) h.front h.back id grows h.splits;
      there = same_command w o id (ap is_some h.there) ∙ h.there;
      is =
          h.is ∙ ap (λ cs. Held (out cs h.command)) (sym (same_commands w o h.front
          (front_known w (history w h.server) h.front h.back id (all_known w h.server given) h.splits)));
    }

right_at : (w : Log) → WereSubmitted w → WereRight w → (id : CommandId) (x : Answer) → Contains w (Reply id x)
    → IsRightAt w id x
right_at [] given right id x h = absurd (contains_none (Reply id x) h)
right_at (Submit c ∷ w) given right id x h =
    elim (contains_cons (Submit c) w (Reply id x) h) [
      | inl e ↦ absurd (cc)
      | inr there ↦ still_right w (Submit c) id x given (never_restored w right) (right_at w given right id x there)
    ]
right_at (Execute p y ∷ w) given right id x h =
    elim (contains_cons (Execute p y) w (Reply id x) h) [
      | inl e ↦ absurd (cc)
      | inr there ↦ still_right w (Execute p y) id x given.1 (never_restored w right) (right_at w given.1 right id x there)
    ]
right_at (Lookup r key y ∷ w) given right id x h =
    elim (contains_cons (Lookup r key y) w (Reply id x) h) [
      | inl e ↦ absurd (cc)
      | inr there ↦ still_right w (Lookup r key y) id x given (never_restored w right) (right_at w given right id x there)
    ]
right_at (Tell r p ∷ w) given right id x h =
    elim (contains_cons (Tell r p) w (Reply id x) h) [
      | inl e ↦ absurd (cc)
      | inr there ↦ still_right w (Tell r p) id x given (never_restored w right) (right_at w given right id x there)
    ]
right_at (Reply y z ∷ w) given right id x h =
    elim (contains_cons (Reply y z) w (Reply id x) h) [
      | inl e ↦
          let ids : y ≡ id = cc in
          let answers : z ≡ x = cc in
          let now = right.0 in
          record {
            server = now.server;
            front = now.front;
            back = [];
            command = now.command;
            splits = now.splits ∙ ap (λ a. now.front ++ a ∷ []) ids;
            there = ap (command_of w) (sym ids) ∙ now.there;
            is = sym answers ∙ now.is;
          }
      | inr there ↦
          still_right w (Reply y z) id x given.1 (never_restored w right.1) (right_at w given.1 right.1 id x there)
    ]
right_at (Settle p ∷ w) given right id x h = absurd right
right_at (Restore p q n ∷ w) given right id x h = absurd right

-- ---- one place

front_of : (xs front back : List CommandId) (id : CommandId) → xs ≡ front ++ id ∷ back → front ≡ take (length front) xs
front_of xs front back id e = sym (ap (take (length front)) e ∙ take-append_seam front (id ∷ back))

place_in : (xs front back : List CommandId) (id : CommandId) → xs ≡ front ++ id ∷ back
    → slice_get xs (length front) ≡ Some id
place_in xs front back id e = ap (λ ys. slice_get ys (length front)) e ∙ item_here front back id

module _ (w : Log) (once : StandOnce w) (comparable : AreComparable w) where
  one_front_below : (p q : ℕ) (front back first rest : List CommandId) (id : CommandId)
      → history w p ≡ front ++ id ∷ back → history w q ≡ first ++ id ∷ rest → IsPrefix (history w p) (history w q)
      → front ≡ first
  one_front_below p q front back first rest id e f h =
      let longer : history w q ≡ front ++ id ∷ (back ++ h.0) =
      longer_split (history w p) (history w q) front back id h e in
      let size : length front ≡ length first =
      once q (length front) (length first) id (place_in (history w q) front (back ++ h.0) id longer)
      (place_in (history w q) first rest id f) in
      front_of (history w q) front (back ++ h.0) id longer ∙ ap (λ n. take n (history w q)) size
      ∙ sym (front_of (history w q) first rest id f)

  one_front : (p q : ℕ) (front back first rest : List CommandId) (id : CommandId)
      → history w p ≡ front ++ id ∷ back → history w q ≡ first ++ id ∷ rest → front ≡ first
  one_front p q front back first rest id e f = ⊎_elim
      (λ (h : IsPrefix (history w p) (history w q)). one_front_below p q front back first rest id e f h)
      (λ (h : IsPrefix (history w q) (history w p)). sym (one_front_below q p first rest front back id f e h))
      (comparable p q)

  module _ (given : WereSubmitted w) (right : WereRight w) where
    -- each reply is the text that a map gives at the place of its command in any history
    is_out : (p : ℕ) (front back : List CommandId) (id : CommandId) (c : Command) (x : Answer)
        → history w p ≡ front ++ id ∷ back → command_of w id ≡ Some c → Contains w (Reply id x)
        → x ≡ Held (out (commands_of w front) c)
    is_out p front back id c x e is there =
        let at = right_at w given right id x there in
        let same : at.command ≡ c = (let both : Some at.command ≡ Some c = sym at.there ∙ is in cc) in
        at.is
        ∙ ap (λ ids. Held (out (commands_of w ids) at.command))
        (one_front at.server p at.front at.back front back id at.splits e)
        ∙ ap (λ (d : Command). Held (out (commands_of w front) d)) same

    pub all_right : AreRightReplies w
    all_right p front back id c x e is there =
        subst (IsRight c.op (out (commands_of w front) c)) (sym (is_out p front back id c x e is there)) refl

    pub all_one : AreOneReply w
    all_one id x y first second =
        let at = right_at w given right id x first in
        at.is ∙ sym (is_out at.server at.front at.back id at.command y at.splits at.there second)

-- ---- real time

has_prefix : (xs ys : List CommandId) (y : CommandId) → IsPrefix xs ys → has_id xs y ≡ true → has_id ys y ≡ true
has_prefix xs ys y h inside =
    let place = has_place xs y inside in place_has ys y place.0 (still_there xs ys place.0 y h place.2)

acknowledged_executed : (w : Log) → WereRight w → (y : CommandId) → has_id (acknowledged w) y ≡ true
    → (q : ℕ) × (has_id (history w q) y ≡ true)
acknowledged_executed [] right y h = absurd (cc)
acknowledged_executed (Submit c ∷ w) right y h = acknowledged_executed w right y h
acknowledged_executed (Execute p x ∷ w) right y h =
    let r = acknowledged_executed w right y h in (
      r.0,
      has_prefix (history w r.0) (history (Execute p x ∷ w) r.0) y
          (history_grows w (Execute p x) (never_restored w right) r.0) r.1,
    )
acknowledged_executed (Lookup r key x ∷ w) right y h = acknowledged_executed w right y h
acknowledged_executed (Tell r p ∷ w) right y h = acknowledged_executed w right y h
acknowledged_executed (Settle p ∷ w) right y h = absurd right
acknowledged_executed (Restore p q n ∷ w) right y h = absurd right
acknowledged_executed (Reply id x ∷ w) right y h =
    elim (either (is_failed x || has_id (acknowledged w) id) h) [
      | inl e ↦
          let same : id ≡ y = same_id_eq id y e in (
            right.0.server,
            place_has (history w right.0.server) y (length right.0.front)
                (ap (λ xs. slice_get xs (length right.0.front)) right.0.splits
                ∙ item_here right.0.front [] id ∙ ap Some same),
          )
      | inr before ↦ acknowledged_executed w right.1 y before
    ]
  where
    either : (d : Bool) → has_id (cond d (acknowledged w) (acknowledged w ++ id ∷ [])) y ≡ true
        → (is_same_id id y ≡ true) ⊎ (has_id (acknowledged w) y ≡ true)
    either true g = inr g
    either false g = or_cases (is_same_id id y) (has_id (acknowledged w) y) (sym (has-append (acknowledged w) id y) ∙ g)

-- before the command `id` was first submitted, some server had executed the command `y`
pub record IsEarly (w : Log) (id y : CommandId) : Type 0 where
  pub later : Log
  pub before : Log
  pub splits : w ≡ later ++ before
  pub new : command_of before id ≡ None
  pub server : ℕ
  pub there : has_id (history before server) y ≡ true

more_early : (w : Log) (o : Observation) (id y : CommandId) → IsEarly w id y → IsEarly (o ∷ w) id y
more_early w o id y h = record {
  later = o ∷ h.later;
  before = h.before;
  splits = ap (λ u. o ∷ u) h.splits;
  new = h.new;
  server = h.server;
  there = h.there;
}

none_of : (o : Option Command) → is_some o ≡ false → o ≡ None
none_of None e = refl
none_of (Some c) e = absurd (cc)

early : (w : Log) → WereRight w → (id y : CommandId) → is_some (command_of w id) ≡ true
    → has_id (acknowledged_before w id) y ≡ true → IsEarly w id y
early [] right id y there h = absurd (cc)
early (Submit c ∷ w) right id y there h =
    elim (cases_Bool (is_some (command_of w id))) [
      | inl e ↦
          more_early w (Submit c) id y (early w right id y e
          (sym (ap (λ d. has_id (cond d (acknowledged_before w id) (acknowledged w)) y) e) ∙ h))
      | inr e ↦
          let all : has_id (acknowledged w) y ≡ true =
          sym (ap (λ d. has_id (cond d (acknowledged_before w id) (acknowledged w)) y) e) ∙ h in
          let r = acknowledged_executed w right y all in
          record {
            later = Submit c ∷ [];
            before = w;
            splits = refl;
            new = none_of (command_of w id) e;
            server = r.0;
            there = r.1;
          }
    ]
early (Execute p x ∷ w) right id y there h = more_early w (Execute p x) id y (early w right id y there h)
early (Lookup r key x ∷ w) right id y there h = more_early w (Lookup r key x) id y (early w right id y there h)
early (Tell r p ∷ w) right id y there h = more_early w (Tell r p) id y (early w right id y there h)
early (Reply z x ∷ w) right id y there h = more_early w (Reply z x) id y (early w right.1 id y there h)
early (Settle p ∷ w) right id y there h = absurd right
early (Restore p q n ∷ w) right id y there h = absurd right

submitted_before : (later w : Log) → WereSubmitted (later ++ w) → WereSubmitted w
submitted_before [] w h = h
submitted_before (o ∷ later) w h = submitted_before later w (submitted_earlier (later ++ w) o h)

pub all_behind : (w : Log) → AreComparable w → WereSubmitted w → WereRight w → StandBehindReplies w
all_behind w comparable given right p front back id y e inside =
    let there : is_some (command_of w id) ≡ true =
    item_known w (history w p) front back id (all_known w p given) e in
    let h = early w right id y there (is_true (has_id (acknowledged_before w id) y) inside) in
    let grows : IsPrefix (history h.before h.server) (history w h.server) =
    subst (λ (u : Log). IsPrefix (history h.before h.server) (history u h.server)) (sym h.splits)
    (history_later h.later h.before (subst WereRestored h.splits (never_restored w right)) h.server) in
    let old : WereSubmitted h.before = submitted_before h.later h.before (subst WereSubmitted h.splits given) in
    let begin : IsPrefix (history h.before h.server) front =
    begins (history h.before h.server) front back id
    (subst (IsComparable (history h.before h.server)) e
    (comparable_earlier (history h.before h.server) (history w p) (history w h.server) (history w p) grows
    (prefix_self (history w p)) (comparable h.server p)))
    (λ n at.
    let was : is_some (command_of h.before id) ≡ true = all_known h.before h.server old n id at in
    let none = h.new in
    absurd (cc)) in
    as_true (has_id front y) (has_prefix (history h.before h.server) front y begin h.there)
