-- The results of `reply_of` are right, and a reply belongs to the first place of a ticket.
use Rattle.std.proofs.Common.{◌≡◌, ℕ, zero, suc, ◌≤◌, Bool, true, false, eqb, eqb-true, eq-eqb, List, [], ◌∷◌, inl, inr, refl, sym, ap, ◌∙◌, arith, Option, Some, None, slice_get, option_map, ◌↔◌}
use Rattle.std.specs.List.{list_any}
use Rattle.std.proofs.lemmas.Bool.{cases_Bool, and_parts, or_parts}
use Rattle.std.proofs.lemmas.Option.{some_pair_parts}
use Rattle.mencius_base.specs.declared.command.CommandId.{CommandId}
use Rattle.mencius_base.specs.Members.{Membership}
use Rattle.mencius_model.specs.Trace.{Trace, submitted_commands}
use Rattle.mencius_base.specs.Command.{is_same_id}
use Rattle.mencius_model.specs.Executed.{history}
use Rattle.mencius_model.specs.Replies.{Answered, Pending, Given, index_of_first, reply_of}
use Rattle.mencius_model.specs.Laws.{IsReply, IsPending}
use Rattle.mencius_model.proofs.trace.Lists.{none_in, get_in}
use Rattle.mencius_model.proofs.rights.LineRights.{IsGrown}
use Rattle.mencius_model.proofs.histories.Histories.{history_once}
use Rattle.mencius_model.proofs.paxos.Tickets.{identity_once, Submission}
use Rattle.mencius_model.proofs.trace.Parts.{reply_from, reply_of_place}

-- ---- the first place

-- m is the place of the first item that passes the test.
pub record IsPlace (A : Type 0) (test : A → Bool) (xs : List A) (m : ℕ) : Type 0 where
  pub item : A
  pub there : slice_get xs m ≡ Some item
  pub passes : test item ≡ true
  pub first : (n : ℕ) (x : A) → slice_get xs n ≡ Some x → test x ≡ true → m ≤ n

-- A place that is found in the rest of a list is one greater in the whole list.
mapped : (o : Option ℕ) (n : ℕ) → option_map suc o ≡ Some n → (m : ℕ) × (o ≡ Some m) × (n ≡ suc m)
mapped None n h = absurd (cc)
mapped (Some m) n h = (m, refl, cc)

later_place : {A : Type 0} (test : A → Bool) (x : A) (xs : List A) (from : ℕ) → test x ≡ false
    → ((n : ℕ) (y : A) → slice_get xs n ≡ Some y → test y ≡ true → from ≤ n)
    → (n : ℕ) (y : A) → slice_get (x ∷ xs) n ≡ Some y → test y ≡ true → suc from ≤ n
later_place test x xs from miss each zero y a holds = let s : x ≡ y = cc in absurd (let turned = rw s at miss in cc)
later_place test x xs from miss each (suc n) y a holds = omega (arith, each n y a holds)

place_next : {A : Type 0} (test : A → Bool) (x : A) (xs : List A) (place o : ℕ) → o ≡ suc place → test x ≡ false
    → IsPlace A test xs place
    → IsPlace A test (x ∷ xs) o
place_next test x xs place o e miss s =
    rw e (record {
      item = s.item;
      there = s.there;
      passes = s.passes;
      first = λ n y a z. later_place test x xs place miss s.first n y a z;
    })

-- The result of `index_of_first` is the first place of an item that passes the test.
place_is : {A : Type 0} (test : A → Bool) (xs : List A) (m : ℕ) → index_of_first test xs ≡ Some m → IsPlace A test xs m
place_is test [] m h = absurd (cc)
place_is test (x ∷ xs) m h =
    elim (cases_Bool (test x)) [
      | inl e ↦
          let z : 0 ≡ m = (let s = rw e at h in cc) in
          rw (← z) (record { item = x; there = refl; passes = e; first = λ n y a holds. omega arith })
      | inr e ↦
          let r = mapped (index_of_first test xs) m (rw e at h) in
          place_next test x xs r.0 m r.2 e (place_is test xs r.0 r.1)
    ]

mapped_none : (o : Option ℕ) → option_map suc o ≡ None → o ≡ None
mapped_none None h = refl
mapped_none (Some n) h = absurd (cc)

-- `index_of_first` finds no place exactly if no item passes the test.
no_place : {A : Type 0} (test : A → Bool) (xs : List A) → index_of_first test xs ≡ None → list_any test xs ≡ false
no_place test [] h = refl
no_place test (x ∷ xs) h =
    elim (cases_Bool (test x)) [
      | inl e ↦ absurd (let s = rw e at h in cc)
      | inr e ↦ rw e (no_place test xs (mapped_none (index_of_first test xs) (rw e at h)))
    ]

some_place : {A : Type 0} (test : A → Bool) (xs : List A) → list_any test xs ≡ false → index_of_first test xs ≡ None
some_place test [] h = refl
some_place test (x ∷ xs) h =
    let r = or_parts (test x) (list_any test xs) h in
    rw (r.0, some_place test xs r.1)

-- ---- the reply

-- Two identities that equal a third identity are equal.
same_ids : (a d id : CommandId) → is_same_id a id ≡ true → is_same_id d id ≡ true → is_same_id a d ≡ true
same_ids a d id h holds =
    let r = and_parts (eqb a.client id.client) (eqb a.number id.number) h in
    let s = and_parts (eqb d.client id.client) (eqb d.number id.number) holds in
    let same = eqb-true a.client id.client r.0 ∙ sym (eqb-true d.client id.client s.0) in
    let n = eqb-true a.number id.number r.1 ∙ sym (eqb-true d.number id.number s.1) in
    rw (eq-eqb a.client d.client same, eq-eqb a.number d.number n)

module _ (m : Membership) (few : 1 ≤ m.count) (w : Trace) (g : IsGrown m w) (id : CommandId) where
  abbrev is_id : Submission → Bool
  is_id x = is_same_id x.0.id id

  abbrev is_ticket : ℕ → ℕ → Bool
  is_ticket t u = eqb u t

  -- Only one submission has this identity.
  same_submission : (t u : ℕ) (x y : Submission) → slice_get (submitted_commands w) t ≡ Some x
      → slice_get (submitted_commands w) u ≡ Some y
      → is_same_id x.0.id id ≡ true → is_same_id y.0.id id ≡ true → (t ≡ u) × (x ≡ y)
  same_submission t u x y a d h holds =
      let e = identity_once m w g t u x y a d (same_ids x.0.id y.0.id id h holds) in
      let turned = rw (← e) at d in
      (e, cc)

  -- A ticket is at one place of its home's history, so its command has at most one reply.
  pub reply_once : (x y : Option (List ℕ)) → IsReply w id x → IsReply w id y → x ≡ y
  reply_once x y a d =
      let s = same_submission a.ticket d.ticket (a.command, a.home) (d.command, d.home) a.given d.given a.same d.same in
      let parts = some_pair_parts a.command d.command a.home d.home (ap Some s.1) in
      let there : slice_get (history w a.home) d.place ≡ Some a.ticket = rw (parts.1, s.0) d.there in
      let once = history_once m few w g a.home a.place d.place a.ticket a.there there in
      a.is ∙ (rw (parts.0, parts.1, once) (sym d.is))

  -- A command cannot have a given reply and be pending at once.
  not_both : (r : Option (List ℕ)) → IsReply w id r → IsPending w id → ⊥
  not_both r a d =
      let s = same_submission a.ticket d.ticket (a.command, a.home) (d.command, d.home) a.given d.given a.same d.same in
      let parts = some_pair_parts a.command d.command a.home d.home (ap Some s.1) in
      d.absent a.place (rw (← parts.1, ← s.0) a.there)

  -- ---- each result of `reply_of` is right

  given_at : (t : ℕ) (x : Submission) (o : Option ℕ) (r : Option (List ℕ)) → slice_get (submitted_commands w) t ≡ Some x
      → is_same_id x.0.id id ≡ true
      → index_of_first (is_ticket t) (history w x.1) ≡ o → reply_from w x.0 x.1 o ≡ Given r → IsReply w id r
  given_at t x None r a s e h = absurd (cc)
  given_at t x (Some n) r a s e h =
      let placed = place_is (is_ticket t) (history w x.1) n e in
      let same = eqb-true placed.item t placed.passes in
      record {
        ticket = t;
        command = x.0;
        home = x.1;
        place = n;
        given = a;
        same = s;
        there = placed.there ∙ ap Some same;
        first = λ other d. placed.first other t d (eq-eqb t t refl);
        is = cc;
      }

  pending_at : (t : ℕ) (x : Submission) (o : Option ℕ) → slice_get (submitted_commands w) t ≡ Some x
      → is_same_id x.0.id id ≡ true
      → index_of_first (is_ticket t) (history w x.1) ≡ o → reply_from w x.0 x.1 o ≡ Pending → IsPending w id
  pending_at t x (Some n) a s e h = absurd (cc)
  pending_at t x None a s e h =
      record {
        ticket = t;
        command = x.0;
        home = x.1;
        given = a;
        same = s;
        absent = λ n there. none_in (is_ticket t) t (history w x.1) (no_place (is_ticket t) (history w x.1) e)
            (get_in (history w x.1) n t there) (eq-eqb t t refl);
      }

  given_for : (o : Option ℕ) (r : Option (List ℕ)) → index_of_first is_id (submitted_commands w) ≡ o
      → reply_of_place w o ≡ Some (Given r) → IsReply w id r
  given_for None r e h = absurd (cc)
  given_for (Some t) r e h =
      let placed = place_is is_id (submitted_commands w) t e in
      let turned = rw placed.there at h in
      given_at t placed.item (index_of_first (is_ticket t) (history w placed.item.1)) r placed.there placed.passes refl
      (cc)

  pending_for : (o : Option ℕ) → index_of_first is_id (submitted_commands w) ≡ o → reply_of_place w o ≡ Some Pending
      → IsPending w id
  pending_for None e h = absurd (cc)
  pending_for (Some t) e h =
      let placed = place_is is_id (submitted_commands w) t e in
      let turned = rw placed.there at h in
      pending_at t placed.item (index_of_first (is_ticket t) (history w placed.item.1)) placed.there placed.passes refl
      (cc)

  none_for : (o : Option ℕ) → index_of_first is_id (submitted_commands w) ≡ o → reply_of_place w o ≡ None → o ≡ None
  none_for None e h = refl
  none_for (Some t) e h =
      let placed = place_is is_id (submitted_commands w) t e in
      let turned = rw placed.there at h in
      absurd (cc)

  -- ---- each right result is returned

  -- `reply_of` returns `None` exactly if the identity was never submitted.
  pub unknown : (reply_of w id ≡ None) ↔ (list_any is_id (submitted_commands w) ≡ false)
  unknown = (
    (λ h. no_place is_id (submitted_commands w) (none_for (index_of_first is_id (submitted_commands w)) refl h)),
    (λ h. rw (some_place is_id (submitted_commands w) h)),
  )

  -- If an identity was submitted, `reply_of` returns a given or a pending reply.
  something : (t : ℕ) (x : Submission) → slice_get (submitted_commands w) t ≡ Some x → is_same_id x.0.id id ≡ true
      → reply_of w id ≡ None → ⊥
  something t x a s h =
      none_in is_id x (submitted_commands w)
      (no_place is_id (submitted_commands w) (none_for (index_of_first is_id (submitted_commands w)) refl h))
      (get_in (submitted_commands w) t x a) s

  -- If the identity was submitted and has a reply, `reply_of` returns that reply. If its command is pending, `reply_of`
  -- returns `Pending`.
  by_cases : (o : Option Answered) → reply_of w id ≡ o → (t : ℕ) (x : Submission) → slice_get (submitted_commands w) t
      ≡ Some x
      → is_same_id x.0.id id ≡ true
      → ((r : Option (List ℕ)) → IsReply w id r → o ≡ Some (Given r)) × (IsPending w id → o ≡ Some Pending)
  by_cases None e t x a s = absurd (something t x a s e)
  by_cases (Some Pending) e t x a s =
      let place = pending_for (index_of_first is_id (submitted_commands w)) refl e in
      ((λ r given. absurd (not_both r given place)), (λ pending. refl))
  by_cases (Some (Given y)) e t x a s =
      let place = given_for (index_of_first is_id (submitted_commands w)) y refl e in (
        (λ r given. ap (λ z. Some (Given z)) (reply_once y r place given)),
        (λ pending. absurd (not_both y place pending)),
      )

  -- `reply_of` returns a given reply exactly if it is the command's reply.
  pub replied : (r : Option (List ℕ)) → (reply_of w id ≡ Some (Given r)) ↔ IsReply w id r
  replied r = (
    (λ h. given_for (index_of_first is_id (submitted_commands w)) r refl h),
    (λ a. (by_cases (reply_of w id) refl a.ticket (a.command, a.home) a.given a.same).0 r a),
  )

  -- `reply_of` returns `Pending` exactly if the home has not executed the command.
  pub awaited : (reply_of w id ≡ Some Pending) ↔ IsPending w id
  awaited = (
    (λ h. pending_for (index_of_first is_id (submitted_commands w)) refl h),
    (λ a. (by_cases (reply_of w id) refl a.ticket (a.command, a.home) a.given a.same).1 a),
  )
