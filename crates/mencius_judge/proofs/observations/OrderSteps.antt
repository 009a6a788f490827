-- The facts about the longest history stay true after each observation that breaks no promise.
use Rattle.std.proofs.Common.{◌≡◌, ◌⊎◌, inl, inr, ℕ, zero, suc, Bool, true, false, List, [], ◌∷◌, ◌++◌, Some, IsTrue, is_some, length, slice_get, drop, rules, refl, sym, subst, ap, ◌∙◌, append_assoc}
use Rattle.std.specs.List.{Contains}
use Rattle.std.proofs.lemmas.List.{take-append-drop}
use Rattle.mencius_base.specs.declared.command.Command.{Command}
use Rattle.mencius_base.specs.declared.command.CommandId.{CommandId}
use Rattle.mencius_model.specs.KeyMap.{out}
use Rattle.mencius_judge.specs.declared.histories.Row.{Row}
use Rattle.mencius_log.specs.declared.observation.Answer.{Answer}
use Rattle.mencius_log.specs.declared.observation.Observation.TheVariants.{Submit, Execute, Reply}
use Rattle.mencius_judge.specs.declared.places.Places.{Places}
use Rattle.mencius_judge.specs.Answers.{IsRight}
use Rattle.mencius_judge.specs.Log.{Log, acknowledged_before, command_of, commands_of, has_id, history}
use Rattle.mencius_judge.specs.Promises.{AreRightReplies, StandBehindReplies}
use Rattle.mencius_judge.specs.Rows.{count_of}
use Rattle.mencius_judge.specs.Tables.{AreHistories, IsOrder}
use Rattle.mencius_judge.proofs.promises.Identities.{has_place, place_has}
use Rattle.mencius_judge.proofs.observations.Quiet.{quiet_reply}
use Rattle.mencius_judge.proofs.observations.RowSteps.{once_more}
use Rattle.mencius_judge.proofs.promises.Logs.{AreKnown, contains_cons, kept_before, kept_command, kept_commands}

-- ---- lists

-- an item of a list with another item at the end is this last item, or an item of the list
pub split_end : {A : Type 0} (xs : List A) (y : A) (front back : List A) (x : A) → xs ++ y ∷ [] ≡ front ++ x ∷ back
    → ((front ≡ xs) × (x ≡ y)) ⊎ ((rest : List A) × (xs ≡ front ++ x ∷ rest))
split_end [] y [] back x e = inl (refl, cc)
split_end [] y (z ∷ []) back x e = absurd (cc)
split_end [] y (z ∷ a ∷ front) back x e = absurd (cc)
split_end (z ∷ xs) y [] back x e = let same : z ≡ x = cc in inr (xs, ap (λ a. a ∷ xs) same)
split_end (z ∷ xs) y (a ∷ front) back x e =
    let heads : z ≡ a = cc in
    let tails : xs ++ y ∷ [] ≡ front ++ x ∷ back = cc in
    elim (split_end xs y front back x tails) [
      | inl h ↦ inl (cc (heads, h.0), h.1)
      | inr h ↦ inr (h.0, cc (heads, h.1))
    ]

pub item_here : {A : Type 0} (front back : List A) (x : A) → slice_get (front ++ x ∷ back) (length front) ≡ Some x
item_here [] back x = refl
item_here (y ∷ front) back x = item_here front back x

-- a list with an identity is the part before it, the identity, and the part after it
pub split_at : (xs : List CommandId) (id : CommandId) → has_id xs id ≡ true
    → (front : List CommandId) × (back : List CommandId) × (xs ≡ front ++ id ∷ back)
split_at xs id h = let place = has_place xs id h in by_place xs place.0 place.2
  where
    by_place : (ys : List CommandId) (n : ℕ) → slice_get ys n ≡ Some id
        → (front : List CommandId) × (back : List CommandId) × (ys ≡ front ++ id ∷ back)
    by_place [] n e = absurd (cc)
    by_place (y ∷ ys) zero e = let same : y ≡ id = cc in ([], ys, ap (λ z. z ∷ ys) same)
    by_place (y ∷ ys) (suc n) e = let r = by_place ys n e in (y ∷ r.0, r.1, ap (λ zs. y ∷ zs) r.2)

pub front_known : (w : Log) (order front back : List CommandId) (id : CommandId) → AreKnown w order
    → order ≡ front ++ id ∷ back → AreKnown w front
front_known w order front back id h e n x there =
    h n x (ap (λ xs. slice_get xs n) e ∙ whole front n x there)
  where
    whole : (xs : List CommandId) (k : ℕ) (y : CommandId) → slice_get xs k ≡ Some y
        → slice_get (xs ++ id ∷ back) k ≡ Some y
    whole [] k y g = absurd (cc)
    whole (z ∷ xs) zero y g = g
    whole (z ∷ xs) (suc k) y g = whole xs k y g

pub item_known : (w : Log) (order front back : List CommandId) (id : CommandId) → AreKnown w order
    → order ≡ front ++ id ∷ back → is_some (command_of w id) ≡ true
item_known w order front back id h e =
    h (length front) id (ap (λ xs. slice_get xs (length front)) e ∙ item_here front back id)

-- the reply of a map at a place does not change after another submission
pub kept_out : (w : Log) (x : Command) (order front back : List CommandId) (id : CommandId) (c : Command)
    → AreKnown w order → order ≡ front ++ id ∷ back
    → out (commands_of (Submit x ∷ w) front) c ≡ out (commands_of w front) c
kept_out w x order front back id c h e =
    ap (λ cs. out cs c) (kept_commands w x front (front_known w order front back id h e))

pub kept_at : (w : Log) (x : Command) (order front back : List CommandId) (id : CommandId) (c : Command)
    → AreKnown w order → order ≡ front ++ id ∷ back → command_of (Submit x ∷ w) id ≡ Some c → command_of w id ≡ Some c
kept_at w x order front back id c h e is =
    sym (kept_command w x id (item_known w order front back id h e)) ∙ is

-- ---- the steps that add something

pub order_submit : (w : Log) (x : Command) (order : List CommandId) → IsOrder w order → IsOrder (Submit x ∷ w) order
order_submit w x order h = record {
  known = λ n id e. ap is_some (kept_command w x id (h.known n id e)) ∙ h.known n id e;
  once = h.once;
  behind = λ front back id y e inside. h.behind front back id y e
      (ap (λ ids. has_id ids y) (sym (kept_before w x id (item_known w order front back id h.known e))) ∙ inside);
  right = λ front back id c answer e is there.
      subst (λ held. IsRight c.op held answer) (sym (kept_out w x order front back id c h.known e))
      (h.right front back id c answer e (kept_at w x order front back id c h.known e is) (earlier_reply id answer there));
}
  where
    earlier_reply : (id : CommandId) (answer : Answer) → Contains (Submit x ∷ w) (Reply id answer)
        → Contains w (Reply id answer)
    earlier_reply id answer there =
        elim (contains_cons (Submit x) w (Reply id answer) there) [ inl e ↦ absurd (cc) | inr later ↦ later ]

pub order_lead : (w : Log) (p : ℕ) (x : CommandId) (d : Command) (order : List CommandId) → IsOrder w order
    → has_id order x ≡ false → command_of w x ≡ Some d
    → ((y : CommandId) → has_id (acknowledged_before w x) y ≡ true → has_id order y ≡ true)
    → ((answer : Answer) → Contains w (Reply x answer) → IsRight d.op (out (commands_of w order) d) answer)
    → IsOrder (Execute p x ∷ w) (order ++ x ∷ [])
order_lead w p x d order h new command settled right = record {
  known = λ n id e. by_place n id (place order n id e);
  once = once_more order x h.once (λ n e. let there : has_id order x ≡ true = place_has order x n e in (cc));
  behind = λ front back id y e inside.
      elim (split_end order x front back id e) [
        | inl at ↦
            subst (λ ids. has_id ids y ≡ true) (sym at.0)
            (settled y (subst (λ (a : CommandId). has_id (acknowledged_before w a) y ≡ true) at.1 inside))
        | inr at ↦ h.behind front at.0 id y at.1 inside
      ];
  right = λ front back id c answer e is there.
      let before : Contains w (Reply id answer) = quiet_reply w (Execute p x) tt id answer there in
      elim (split_end order x front back id e) [
        | inl at ↦
            let same : d ≡ c =
            (let both : Some d ≡ Some c = sym command ∙ ap (command_of w) (sym at.1) ∙ is in cc) in
            subst (λ (y : Command). IsRight y.op (out (commands_of w front) y) answer) same
            (subst (λ ids. IsRight d.op (out (commands_of w ids) d) answer) (sym at.0)
            (right answer (subst (λ (a : CommandId). Contains w (Reply a answer)) at.1 before)))
        | inr at ↦ h.right front at.0 id c answer at.1 is before
      ];
}
  where
    place : (xs : List CommandId) (n : ℕ) (id : CommandId) → slice_get (xs ++ x ∷ []) n ≡ Some id
        → (slice_get xs n ≡ Some id) ⊎ (x ≡ id)
    place [] zero id e = inr (cc)
    place [] (suc n) id e = absurd (cc)
    place (z ∷ xs) zero id e = inl e
    place (z ∷ xs) (suc n) id e = place xs n id e

    by_place : (n : ℕ) (id : CommandId) → (slice_get order n ≡ Some id) ⊎ (x ≡ id) → is_some (command_of w id) ≡ true
    by_place n id (inl e) = h.known n id e
    by_place n id (inr e) = ap is_some (ap (command_of w) (sym e) ∙ command)

pub order_reply : (w : Log) (x : CommandId) (answer : Answer) (order : List CommandId) → IsOrder w order
    → ((front back : List CommandId) (c : Command) → order ≡ front ++ x ∷ back → command_of w x ≡ Some c
    → IsRight c.op (out (commands_of w front) c) answer)
    → IsOrder (Reply x answer ∷ w) order
order_reply w x answer order h right = record {
  known = h.known;
  once = h.once;
  behind = h.behind;
  right = λ front back id c y e is there.
      elim (contains_cons (Reply x answer) w (Reply id y) there) [
        | inl same ↦
            let ids : x ≡ id = cc in
            let answers : answer ≡ y = cc in
            subst (IsRight c.op (out (commands_of w front) c)) answers
            (right front back c (e ∙ ap (λ a. front ++ a ∷ back) (sym ids)) (ap (command_of w) ids ∙ is))
        | inr later ↦ h.right front back id c y e is later
      ];
}

-- ---- promises about all histories

module _ (w : Log) (order : List CommandId) (places : Places) (rows : List Row)
    (h : AreHistories w order places rows) (facts : IsOrder w order) where
  -- if a command is in a history, it is at the same place of the longest one
  longer : (p : ℕ) (front back : List CommandId) (id : CommandId) → history w p ≡ front ++ id ∷ back
      → order ≡ front ++ id ∷ (back ++ drop (count_of places rows p) order)
  longer p front back id e =
      sym (take-append-drop (count_of places rows p) order)
      ∙ ap (λ xs. xs ++ drop (count_of places rows p) order) (sym (h.each p) ∙ e)
      ∙ append_assoc front (id ∷ back) (drop (count_of places rows p) order)

  pub stand_behind : StandBehindReplies w
  stand_behind p front back id x e inside =
      as_true (has_id front x)
      (facts.behind front (back ++ drop (count_of places rows p) order) id x (longer p front back id e)
      (is_true (has_id (acknowledged_before w id) x) inside))
    where
      is_true : (d : Bool) → IsTrue d → d ≡ true
      is_true d t = search rules

      as_true : (d : Bool) → d ≡ true → IsTrue d
      as_true d t = search rules

  pub right_replies : AreRightReplies w
  right_replies p front back id c x e is there =
      facts.right front (back ++ drop (count_of places rows p) order) id c x (longer p front back id e) is there
