-- A log that has a linearization can only lose it by a reply.
use Rattle.std.proofs.Common.{◌≡◌, ◌⊎◌, inl, inr, ℕ, zero, suc, true, List, [], ◌∷◌, ◌++◌, Some, is_some, slice_get, refl, sym, subst, ap, ◌∙◌}
use Rattle.std.specs.List.{Contains, cons_option}
use Rattle.mencius_base.specs.declared.command.CommandId.{CommandId}
use Rattle.mencius_model.specs.KeyMap.{out}
use Rattle.mencius_log.specs.declared.observation.Answer.{Answer}
use Rattle.mencius_log.specs.declared.observation.Observation.{Observation}
use Rattle.mencius_log.specs.declared.observation.Observation.TheVariants.{Submit, Execute, Reply, Lookup, Tell, Settle, Restore}
use Rattle.mencius_judge.specs.Answers.{IsRight}
use Rattle.mencius_judge.specs.Linearization.{IsLinearization}
use Rattle.mencius_judge.specs.Log.{Log, acknowledged, acknowledged_before, command_of, commands_of, has_id}
use Rattle.mencius_judge.proofs.promises.Identities.{has_place, place_has}
use Rattle.mencius_judge.proofs.promises.Logs.{contains_cons, kept_before, kept_command}
use Rattle.mencius_clients.specs.ClientVerdicts.{IsReply}
use Rattle.mencius_clients.specs.Explained.{IsLinearizable}

-- ---- lists of identities

slice_front : (xs ys : List CommandId) (n : ℕ) (x : CommandId) → slice_get xs n ≡ Some x → slice_get (xs ++ ys) n ≡ Some x
slice_front [] ys n x e = absurd (cc)
slice_front (y ∷ xs) ys zero x e = e
slice_front (y ∷ xs) ys (suc n) x e = slice_front xs ys n x e

has_front : (front rest : List CommandId) (id : CommandId) → has_id front id ≡ true → has_id (front ++ rest) id ≡ true
has_front front rest id h =
    let place = has_place front id h in
    place_has (front ++ rest) id place.0 (slice_front front rest place.0 id place.2)

has_here : (id : CommandId) (ids : List CommandId) → has_id (id ∷ ids) id ≡ true
has_here id ids = place_has (id ∷ ids) id 0 refl

has_later : (x : CommandId) (ids : List CommandId) (id : CommandId) → has_id ids id ≡ true → has_id (x ∷ ids) id ≡ true
has_later x ids id h = let place = has_place ids id h in place_has (x ∷ ids) id (suc place.0) place.2

has_middle : (front back : List CommandId) (id : CommandId) → has_id (front ++ id ∷ back) id ≡ true
has_middle [] back id = has_here id back
has_middle (x ∷ front) back id = has_later x (front ++ id ∷ back) id (has_middle front back id)

pub commands_alike : (v w : Log) (ids : List CommandId)
    → ((id : CommandId) → has_id ids id ≡ true → command_of v id ≡ command_of w id) → commands_of v ids ≡ commands_of w ids
commands_alike v w [] same = refl
commands_alike v w (id ∷ ids) same =
    ap (λ o. cons_option o (commands_of v ids)) (same id (has_here id ids))
    ∙ ap (λ cs. cons_option (command_of w id) cs)
    (commands_alike v w ids (λ x inside. same x (has_later id ids x inside)))

-- ---- a log that says the same of the commands of an order

module _ (w v : Log) (order : List CommandId) (lin : IsLinearization w order)
    (commands : (id : CommandId) → has_id order id ≡ true → command_of v id ≡ command_of w id)
    (replied : acknowledged v ≡ acknowledged w)
    (before : (id : CommandId) → has_id order id ≡ true → acknowledged_before v id ≡ acknowledged_before w id)
    (replies : (id : CommandId) (x : Answer) → Contains v (Reply id x) → Contains w (Reply id x)) where
  in_order : (front back : List CommandId) (id : CommandId) → order ≡ front ++ id ∷ back → has_id order id ≡ true
  in_order front back id e = ap (λ ids. has_id ids id) e ∙ has_middle front back id

  front_alike : (front back : List CommandId) (id : CommandId) → order ≡ front ++ id ∷ back
      → commands_of v front ≡ commands_of w front
  front_alike front back id e =
      commands_alike v w front
      (λ x inside. commands x (ap (λ ids. has_id ids x) e ∙ has_front front (id ∷ back) x inside))

  pub still : IsLinearization v order
  still = record {
    once = lin.once;
    submitted = λ id has. ap is_some (commands id has) ∙ lin.submitted id has;
    complete = λ id h. lin.complete id (subst (λ ids. has_id ids id ≡ true) replied h);
    real_time = λ front back id x e inside.
        lin.real_time front back id x e (ap (λ ids. has_id ids x) (sym (before id (in_order front back id e))) ∙ inside);
    answers = λ front back id c x e is has.
        subst (λ cs. IsRight c.op (out cs c) x) (sym (front_alike front back id e))
        (lin.answers front back id c x e (sym (commands id (in_order front back id e)) ∙ is) (replies id x has));
  }

-- ---- a line that is not a reply

pub without_reply : (w : Log) (o : Observation) → IsLinearizable w → IsReply o ⊎ IsLinearizable (o ∷ w)
without_reply w (Reply id x) h = inl (id, x, refl)
without_reply w (Submit c) h = inr (
  h.0,
  still w (Submit c ∷ w) h.0 h.1 (λ id has. kept_command w c id (h.1.submitted id has)) refl
      (λ id has. kept_before w c id (h.1.submitted id has))
      (λ id x has. elim (contains_cons (Submit c) w (Reply id x) has) [ inl e ↦ absurd (cc) | inr later ↦ later ]),
)
without_reply w (Execute p y) h = inr (
  h.0,
  still w (Execute p y ∷ w) h.0 h.1 (λ id has. refl) refl (λ id has. refl)
      (λ id x has. elim (contains_cons (Execute p y) w (Reply id x) has) [ inl e ↦ absurd (cc) | inr later ↦ later ]),
)
without_reply w (Lookup r key y) h = inr (
  h.0,
  still w (Lookup r key y ∷ w) h.0 h.1 (λ id has. refl) refl (λ id has. refl)
      (λ id x has. elim (contains_cons (Lookup r key y) w (Reply id x) has) [ inl e ↦ absurd (cc) | inr later ↦ later ]),
)
without_reply w (Tell r p) h = inr (
  h.0,
  still w (Tell r p ∷ w) h.0 h.1 (λ id has. refl) refl (λ id has. refl)
      (λ id x has. elim (contains_cons (Tell r p) w (Reply id x) has) [ inl e ↦ absurd (cc) | inr later ↦ later ]),
)
without_reply w (Settle p) h = inr (
  h.0,
  still w (Settle p ∷ w) h.0 h.1 (λ id has. refl) refl (λ id has. refl)
      (λ id x has. elim (contains_cons (Settle p) w (Reply id x) has) [ inl e ↦ absurd (cc) | inr later ↦ later ]),
)
without_reply w (Restore p q n) h = inr (
  h.0,
  still w (Restore p q n ∷ w) h.0 h.1 (λ id has. refl) refl (λ id has. refl)
      (λ id x has. elim (contains_cons (Restore p q n) w (Reply id x) has) [ inl e ↦ absurd (cc) | inr later ↦ later ]),
)

pub is_reply : (w : Log) (o : Observation) → IsLinearizable w → (IsLinearizable (o ∷ w) → ⊥) → IsReply o
is_reply w o has lacks = elim (without_reply w o has) [ inl reply ↦ reply | inr more ↦ absurd (lacks more) ]
