-- Five orders are not linearizations of a small log, each because of one clause. An order without a command that failed
-- is one.
use Rattle.std.proofs.Common.{◌≡◌, inl, inr, ℕ, zero, suc, Bool, true, false, cond, List, [], ◌∷◌, ◌++◌, Some, None, is_some, slice_get, refl, sym, subst, ap, ◌∙◌, arith}
use Rattle.std.specs.Prelude.{IsTrue}
use Rattle.std.specs.FinMap as finite
use Rattle.std.specs.List.{Contains}
use Rattle.mencius_base.specs.declared.command.Command.{Command}
use Rattle.mencius_base.specs.declared.command.CommandId.{CommandId}
use Rattle.mencius_base.specs.declared.command.Op.TheVariants.{Cas}
use Rattle.mencius_model.specs.KeyMap.{map_after, out}
use Rattle.mencius_model.proofs.worked.WorkedSchedules.{set_a, get_a, nothing}
use Rattle.mencius_log.specs.declared.observation.Answer.{Answer}
use Rattle.mencius_log.specs.declared.observation.Answer.TheVariants.{Held, Done, Failed}
use Rattle.mencius_log.specs.declared.observation.Observation.TheVariants.{Submit, Reply}
use Rattle.mencius_judge.specs.Answers.{IsRight}
use Rattle.mencius_judge.specs.Linearization.{IsLinearization}
use Rattle.mencius_judge.specs.Log.{Log, command_of, commands_of, has_id}
use Rattle.mencius_judge.proofs.acknowledged.OpenReplies.{is_true}
use Rattle.mencius_judge.proofs.promises.Identities.{has_place}
use Rattle.mencius_judge.proofs.promises.Logs.{contains_cons, contains_none}

-- a command that nobody submits
abbrev unknown : CommandId
unknown = record { client = 9; number = 0 }

-- a log with the newest observation first. A command binds a key and gets its reply, and then another command reads the
-- key
abbrev one_by_one : Log
one_by_one = Reply get_a.id (Held (Some (120 ∷ []))) ∷ Submit get_a ∷ Reply set_a.id Done ∷ Submit set_a ∷ []

-- a log with the newest observation first. Both commands are submitted before either has its reply
abbrev at_once : Log
at_once = Reply get_a.id (Held (Some (120 ∷ []))) ∷ Reply set_a.id Done ∷ Submit get_a ∷ Submit set_a ∷ []

-- an order with a command at two places is not a linearization
not_twice : IsLinearization one_by_one (set_a.id ∷ get_a.id ∷ set_a.id ∷ []) → ⊥
not_twice h = let e : 0 ≡ 2 = h.once 0 2 set_a.id refl refl in absurd (omega (arith, e))

-- an order with a command that nobody submitted is not a linearization
not_unsubmitted : IsLinearization one_by_one (set_a.id ∷ get_a.id ∷ unknown ∷ []) → ⊥
not_unsubmitted h = let e = h.submitted unknown refl in absurd (cc)

-- an order without a command that has a reply is not a linearization
not_left_out : IsLinearization one_by_one (set_a.id ∷ []) → ⊥
not_left_out h = let e = h.complete get_a.id refl in absurd (cc)

-- an order with a command before another one is not a linearization if the other one had a reply when the command was
-- submitted
not_swapped : IsLinearization one_by_one (get_a.id ∷ set_a.id ∷ []) → ⊥
not_swapped h = let e = h.real_time [] (set_a.id ∷ []) get_a.id set_a.id refl refl in absurd (cc)

-- an order in which a command reads a text before the key is bound to it is not a linearization
not_answered : IsLinearization at_once (get_a.id ∷ set_a.id ∷ []) → ⊥
not_answered h =
    let there : Contains at_once (Reply get_a.id (Held (Some (120 ∷ [])))) = (0, omega arith, refl) in
    let e : Some (120 ∷ []) ≡ finite.get (map_after []) (97 ∷ []) =
    h.answers [] (set_a.id ∷ []) get_a.id get_a (Held (Some (120 ∷ []))) refl refl there in
    let none = e ∙ nothing in
    absurd (cc)

-- a command that binds the key `a` if it holds `x`
abbrev cas_a : Command
cas_a = record { id = record { client = 3; number = 0 }; op = Cas (97 ∷ []) (120 ∷ []) (121 ∷ []) }

-- a log with the newest observation first. A command fails, and then another one reads the key
abbrev failed_first : Log
failed_first = Reply get_a.id (Held None) ∷ Submit get_a ∷ Reply cas_a.id Failed ∷ Submit cas_a ∷ []

only_place : (front back : List CommandId) (id : CommandId) → get_a.id ∷ [] ≡ front ++ id ∷ back
    → (front ≡ []) × (id ≡ get_a.id)
only_place [] back id e = (refl, cc)
only_place (x ∷ []) back id e = absurd (cc)
only_place (x ∷ y ∷ front) back id e = absurd (cc)

-- a command that failed may be missing from a linearization
may_lack_failed : IsLinearization failed_first (get_a.id ∷ [])
may_lack_failed = record {
  once = once;
  submitted = λ id inside. known id (is_true (has_id (get_a.id ∷ []) id) inside);
  complete = λ id inside. inside;
  real_time = λ front back id replied e inside.
      none_before (is_some (command_of (Reply cas_a.id Failed ∷ Submit cas_a ∷ []) id)) front replied inside;
  answers = answers;
}
  where
    once : (n m : ℕ) (id : CommandId) → slice_get (get_a.id ∷ []) n ≡ Some id → slice_get (get_a.id ∷ []) m ≡ Some id
        → n ≡ m
    once zero zero id e f = refl
    once zero (suc m) id e f = absurd (cc)
    once (suc n) m id e f = absurd (cc)

    known : (id : CommandId) → has_id (get_a.id ∷ []) id ≡ true → is_some (command_of failed_first id) ≡ true
    known id inside =
        let at = has_place (get_a.id ∷ []) id inside in
        let zero_is : at.0 ≡ 0 = omega (arith, at.1) in
        let there : Some get_a.id ≡ Some id = subst (λ n. slice_get (get_a.id ∷ []) n ≡ Some id) zero_is at.2 in
        let same : get_a.id ≡ id = cc in
        subst (λ (x : CommandId). is_some (command_of failed_first x) ≡ true) same refl

    none_before : (d : Bool) (front : List CommandId) (replied : CommandId) → IsTrue (has_id (cond d [] []) replied)
        → IsTrue (has_id front replied)
    none_before true front replied h = absurd (cc)
    none_before false front replied h = absurd (cc)

    right : (front : List CommandId) (c : Command) (reply : Answer) → front ≡ [] → get_a ≡ c → Held None ≡ reply
        → IsRight c.op (out (commands_of failed_first front) c) reply
    right front c reply e f g =
        subst (λ (xs : List CommandId). IsRight c.op (out (commands_of failed_first xs) c) reply) (sym e)
        (subst (λ (d : Command). IsRight d.op (out (commands_of failed_first []) d) reply) f
        (subst (IsRight get_a.op (out (commands_of failed_first []) get_a)) g (sym nothing)))

    no_other : (id : CommandId) (reply : Answer) → id ≡ get_a.id
        → Contains (Submit get_a ∷ Reply cas_a.id Failed ∷ Submit cas_a ∷ []) (Reply id reply) → ⊥
    no_other id reply e h =
        elim (contains_cons (Submit get_a) (Reply cas_a.id Failed ∷ Submit cas_a ∷ []) (Reply id reply) h) [
          | inl here ↦ absurd (cc)
          | inr later ↦
              elim (contains_cons (Reply cas_a.id Failed) (Submit cas_a ∷ []) (Reply id reply) later) [
                | inl here ↦
                    let ids : cas_a.id ≡ id = cc in
                    let clients = ap (λ (x : CommandId). x.client) (ids ∙ e) in
                    omega (arith, clients)
                | inr last ↦
                    elim (contains_cons (Submit cas_a) [] (Reply id reply) last) [
                      | inl here ↦ absurd (cc)
                      | inr none ↦ contains_none (Reply id reply) none
                    ]
              ]
        ]

    answers : (front back : List CommandId) (id : CommandId) (c : Command) (reply : Answer)
        → get_a.id ∷ [] ≡ front ++ id ∷ back → command_of failed_first id ≡ Some c
        → Contains failed_first (Reply id reply) → IsRight c.op (out (commands_of failed_first front) c) reply
    answers front back id c reply e is there =
        let at = only_place front back id e in
        let given : Some get_a ≡ Some c = ap (command_of failed_first) (sym at.1) ∙ is in
        let command : get_a ≡ c = cc in
        elim (contains_cons (Reply get_a.id (Held None)) (Submit get_a ∷ Reply cas_a.id Failed ∷ Submit cas_a ∷ [])
        (Reply id reply) there) [
          | inl here ↦ (let replies : Held None ≡ reply = cc in right front c reply at.0 command replies)
          | inr later ↦ absurd (no_other id reply at.1 later)
        ]
