-- A decided ticket was submitted, only one server suggests it, and it is decided at one instance. If it was suggested
-- twice, no-op is decided at the lower instance.
use Rattle.std.proofs.Common.{◌≡◌, ℕ, zero, suc, subst, ◌<◌, ◌≤◌, true, false, eqb, List, [], ◌∷◌, ◌++◌, length, ◌⊎◌, inl, inr, refl, sym, ap, ◌∙◌, arith, Option, Some, None, slice_get, append-nil, length-append, eqb-true, eq-eqb}
use Rattle.std.specs.Prelude.{option_to_list}
use Rattle.std.specs.List.{list_any}
use Rattle.std.proofs.lemmas.Bool.{cases_order, cases_lt, and_parts}
use Rattle.std.proofs.lemmas.List.{length_push}
use Rattle.mencius_base.specs.declared.command.Command.{Command}
use Rattle.mencius_base.specs.declared.command.CommandId.{CommandId}
use Rattle.mencius_base.specs.declared.message.Message.TheVariants.{Suggest}
use Rattle.mencius_base.specs.declared.message.Value.TheVariants.{Noop, Ticket}
use Rattle.mencius_base.specs.Members.{Membership}
use Rattle.mencius_model.specs.Trace.{Line, Submitted, Sent, Trace, submitted_commands, command_in}
use Rattle.mencius_base.specs.Command.{is_same_id}
use Rattle.mencius_model.specs.Decided.{IsDecided}
use Rattle.mencius_model.proofs.trace.Lists.{IsIn, none_in, get_in}
use Rattle.mencius_model.proofs.rights.LineRights.{May, IsGrown, MaySuggest, IsFresh}
use Rattle.mencius_model.proofs.trace.AnswersLast.{start_in}
use Rattle.mencius_model.proofs.reached.Suggesters.{suggest_front}
use Rattle.mencius_model.proofs.paxos.Paxos.{origin}
use Rattle.mencius_model.proofs.paxos.Decisions.{decided_more, all_decided, agreement}

-- No line removes a submission.
submitted_more : (l : Line) (w : Trace) → length (submitted_commands w) ≤ length (submitted_commands (l ∷ w))
submitted_more l w = omega (arith, length-append (submitted_commands w) (option_to_list (command_in l)))

-- The ticket of a command that was just submitted is below the number of submitted commands.
fresh_last : (w : Trace) (t : ℕ) → IsFresh w t → t < length (submitted_commands w)
fresh_last [] t h = absurd h
fresh_last (Submitted command p ∷ w) t h = omega (arith, h, length_push (submitted_commands w) (command, p))
fresh_last (_ ∷ w) t h = absurd h

module _ (m : Membership) where
  -- A suggested ticket was submitted.
  pub ticket_submitted : (w : Trace) → IsGrown m w → (p i t : ℕ) → IsIn (Sent (Suggest p i t)) w
      → t < length (submitted_commands w)
  ticket_submitted [] grown p i t h = absurd h
  ticket_submitted (l ∷ w) grown p i t (inl e) =
      let may : MaySuggest m w p i t = rw (← e) at grown.1 in
      let s = submitted_more l w in
      elim may.ticket [
        | inl left ↦ omega (arith, fresh_last w t left, s)
        | inr before ↦ omega (arith, ticket_submitted w grown.0 p before.0 t before.1.before, s)
      ]
  ticket_submitted (l ∷ w) grown p i t (inr h) = omega (arith, ticket_submitted w grown.0 p i t h, submitted_more l w)

  -- The ticket of a command that was just submitted has not been suggested.
  fresh_new : (w : Trace) → IsGrown m w → (p i t : ℕ) → IsFresh w t → IsIn (Sent (Suggest p i t)) w → ⊥
  fresh_new [] grown p i t fresh h = fresh
  fresh_new (Submitted command q ∷ w) grown p i t fresh (inl e) = absurd (cc)
  fresh_new (Submitted command q ∷ w) grown p i t fresh (inr h) =
      absurd (omega (arith, fresh, ticket_submitted w grown.0 p i t h))
  fresh_new (_ ∷ w) grown p i t fresh h = fresh

  -- Only one server suggests a ticket.
  same_home : (w : Trace) → IsGrown m w → (p q i j t : ℕ) → IsIn (Sent (Suggest p i t)) w
      → IsIn (Sent (Suggest q j t)) w → p ≡ q
  same_home [] grown p q i j t h also = absurd h
  same_home (l ∷ w) grown p q i j t (inl e) (inl left) = cc
  same_home (l ∷ w) grown p q i j t (inl e) (inr also) =
      let may : MaySuggest m w p i t = rw (← e) at grown.1 in
      elim may.ticket [
        | inl left ↦ absurd (fresh_new w grown.0 q j t left also)
        | inr n ↦ same_home w grown.0 p q n.0 j t n.1.before also
      ]
  same_home (l ∷ w) grown p q i j t (inr h) (inl e) =
      let may : MaySuggest m w q j t = rw (← e) at grown.1 in
      elim may.ticket [
        | inl left ↦ absurd (fresh_new w grown.0 p i t left h)
        | inr n ↦ same_home w grown.0 p q i n.0 t h n.1.before
      ]
  same_home (l ∷ w) grown p q i j t (inr h) (inr also) = same_home w grown.0 p q i j t h also

  -- If a ticket was suggested twice, it lost the first time.
  pub suggested_twice : (w : Trace) → 1 ≤ m.count → IsGrown m w → (p q i j t : ℕ) → i < j
      → IsIn (Sent (Suggest p i t)) w → IsIn (Sent (Suggest q j t)) w → IsDecided m w i Noop
  suggested_twice [] few grown p q i j t lt h also = absurd h
  suggested_twice (l ∷ w) few grown p q i j t lt (inl e) (inl left) = let s : i ≡ j = cc in absurd (omega arith)
  suggested_twice (l ∷ w) few grown p q i j t lt (inl e) (inr also) =
      let may : MaySuggest m w p i t = rw (← e) at grown.1 in
      elim may.ticket [
        | inl left ↦ absurd (fresh_new w grown.0 q j t left also)
        | inr n ↦
            let s = same_home w grown.0 p q n.0 j t n.1.before also in
            let ahead = suggest_front m w q j t few also in
            absurd (omega (arith, may.past, rw (← s) at ahead, lt))
      ]
  suggested_twice (l ∷ w) few grown p q i j t lt (inr h) (inl e) =
      let may : MaySuggest m w q j t = rw (← e) at grown.1 in
      decided_more m l w i Noop
      (elim may.ticket [
        | inl left ↦ absurd (fresh_new w grown.0 p i t left h)
        | inr n ↦
            let s = same_home w grown.0 p q i n.0 t h n.1.before in
            let last = n.1.last i (subst (λ x. IsIn (Sent (Suggest x i t)) w) s h) in
            elim (cases_lt i n.0) [
              | inl below ↦ suggested_twice w few grown.0 p q i n.0 t below h n.1.before
              | inr ge ↦
                  let here : n.0 ≡ i = omega (arith, ge, last) in
                  rw here at ((all_decided m w grown.0).lines q n.0 Noop n.1.lost)
            ]
      ])
  suggested_twice (l ∷ w) few grown p q i j t lt (inr h) (inr also) =
      decided_more m l w i Noop (suggested_twice w few grown.0 p q i j t lt h also)

  -- A ticket that is decided at an instance was suggested at that instance.
  decided_suggested : (w : Trace) → IsGrown m w → (i t : ℕ) → IsDecided m w i (Ticket t)
      → (p : ℕ) × IsIn (Sent (Suggest p i t)) w
  decided_suggested w grown i t (inl command) =
      elim (origin m w grown i command.0 (Ticket t) command.1) [
        | inl n ↦ absurd (cc)
        | inr s ↦
            let r = start_in w i (Ticket t) s in
            let e : r.1 ≡ t = (let so = r.3 in cc) in
            (r.0, rw e at r.2)
      ]
  decided_suggested w grown i t (inr s) = let e = s.1 in absurd (cc)

  -- A decided ticket was submitted.
  pub decided_submitted : (w : Trace) → IsGrown m w → (i t : ℕ) → IsDecided m w i (Ticket t)
      → t < length (submitted_commands w)
  decided_submitted w grown i t h = let r = decided_suggested w grown i t h in ticket_submitted w grown r.0 i t r.1

  -- If a ticket is decided at an instance, it is not decided at a lower one, because no-op is decided there.
  decided_not_before : (w : Trace) → 1 ≤ m.count → IsGrown m w → (i j t : ℕ) → i < j → IsDecided m w i (Ticket t)
      → IsDecided m w j (Ticket t) → ⊥
  decided_not_before w few grown i j t lt h also =
      let r = decided_suggested w grown i t h in
      let s = decided_suggested w grown j t also in
      let n = suggested_twice w few grown r.0 s.0 i j t lt r.1 s.1 in
      let e = agreement m w few grown i (Ticket t) Noop h n in
      absurd (cc)

  -- A ticket is decided at only one instance.
  pub decided_once : (w : Trace) → 1 ≤ m.count → IsGrown m w → (i j t : ℕ) → IsDecided m w i (Ticket t)
      → IsDecided m w j (Ticket t) → i ≡ j
  decided_once w few grown i j t h also =
      elim (cases_order i j) [
        | inl e ↦ e
        | inr o ↦ elim o [
          | inl lt ↦ absurd (decided_not_before w few grown i j t lt h also)
          | inr gt ↦ absurd (decided_not_before w few grown j i t gt also h)
        ]
      ]

-- ---- identities

same_id_back : (a d : CommandId) → is_same_id a d ≡ true → is_same_id d a ≡ true
same_id_back a d h =
    let r = and_parts (eqb a.client d.client) (eqb a.number d.number) h in
    let s = eqb-true a.client d.client r.0 in
    let same = eqb-true a.number d.number r.1 in
    rw (eq-eqb d.client a.client (sym s), eq-eqb d.number a.number (sym same))

-- An item of a longer list was in the list before, or is the new item.
pub get_push : {A : Type 0} (xs : List A) (x y : A) (n : ℕ) → slice_get (xs ++ x ∷ []) n ≡ Some y
    → (slice_get xs n ≡ Some y) ⊎ ((n ≡ length xs) × (x ≡ y))
get_push [] x y zero h = inr (refl, cc)
get_push [] x y (suc n) h = absurd (cc)
get_push (z ∷ xs) x y zero h = inl h
get_push (z ∷ xs) x y (suc n) h =
    elim (get_push xs x y n h) [ inl a ↦ inl a | inr right ↦ inr (ap suc right.0, right.1) ]

abbrev pub Submission : Type 0
Submission = Command × ℕ

module _ (w : Trace) (t u : ℕ) (x y : Submission) (e : is_same_id x.0.id y.0.id ≡ true) where
  -- Two submissions with one identity have the same ticket, even if a line has just added the submission `o`.
  identity_at : (o : Option Submission)
      → ((z : Submission) → o ≡ Some z → list_any (λ (a : Submission). is_same_id a.0.id z.0.id) (submitted_commands w) ≡ false)
      → slice_get (submitted_commands w ++ option_to_list o) t ≡ Some x
      → slice_get (submitted_commands w ++ option_to_list o) u ≡ Some y
      → (slice_get (submitted_commands w) t ≡ Some x → slice_get (submitted_commands w) u ≡ Some y → t ≡ u) → t ≡ u
  identity_at None fresh h also rest = rest (rw append-nil at h) (rw append-nil at also)
  identity_at (Some z) fresh h also rest =
      let new = fresh z refl in
      elim (get_push (submitted_commands w) z x t h) [
        | inl a ↦ elim (get_push (submitted_commands w) z y u also) [
          | inl left ↦ rest a left
          | inr right ↦ absurd
              (none_in (λ (s : Submission). is_same_id s.0.id z.0.id) x (submitted_commands w) new
              (get_in (submitted_commands w) t x a) (rw right.1 e))
        ]
        | inr a ↦ elim (get_push (submitted_commands w) z y u also) [
          | inl leftmost ↦ absurd
              (none_in (λ (s : Submission). is_same_id s.0.id z.0.id) y (submitted_commands w) new
              (get_in (submitted_commands w) u y leftmost) (rw a.1 (same_id_back x.0.id y.0.id e)))
          | inr rightmost ↦ a.0 ∙ sym rightmost.0
        ]
      ]

-- The identity of a new submission was not submitted before.
command_new : (m : Membership) (w : Trace) (l : Line) → May m w l → (z : Submission) → command_in l ≡ Some z
    → list_any (λ (a : Submission). is_same_id a.0.id z.0.id) (submitted_commands w) ≡ false
command_new m w (Submitted command p) may z e =
    let same : command ≡ z.0 = ap (λ (o : Option Submission). first_or command o) e in rw (← same) may where
      first_or : Command → Option Submission → Command
      first_or command None = command
      first_or command (Some z) = z.0
command_new m w _ may z e = absurd (cc)

-- Each identity is submitted at most once.
pub identity_once : (m : Membership) (w : Trace) → IsGrown m w → (t u : ℕ) (x y : Submission)
    → slice_get (submitted_commands w) t ≡ Some x → slice_get (submitted_commands w) u ≡ Some y
    → is_same_id x.0.id y.0.id ≡ true → t ≡ u
identity_once m [] grown t u x y h also e = absurd (cc)
identity_once m (l ∷ w) grown t u x y h also e =
    identity_at w t u x y e (command_in l) (command_new m w l grown.1) h also
    (λ first second. identity_once m w grown.0 t u x y first second e)
