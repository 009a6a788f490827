-- Each event adds lines that are allowed, so a reached trace has grown line by line.
use Rattle.std.proofs.Common.{◌≡◌, ◌==◌, if◌then◌else◌, ℕ, suc, ◌+◌, ◌*◌, ◌<◌, ◌≤◌, max, Bool, true, false, cond, not, ◌&&◌, eqb, ltb, leb, nat_le, List, [], ◌∷◌, ◌++◌, length, ◌⊎◌, inl, inr, refl, sym, ap, ◌∙◌, arith, Option, Some, None, Ok, eqb-true, ltb-true, leb-true, leb-false, eq-eqb, lt-ltb, slice_get, map, filter, filter_map, is_none}
use Rattle.std.specs.Prelude.{Err}
use Rattle.std.specs.Option.{option_map_or, option_map}
use Rattle.std.specs.List.{list_any, cons_option}
use Rattle.std.proofs.lemmas.Bool.{and_parts, or_parts, cases_Bool, not-true}
use Rattle.std.proofs.lemmas.Nat.{mod-mul-add}
use Rattle.mencius_base.specs.Numbers.{ServerId, Inst}
use Rattle.mencius_base.specs.declared.command.Command.{Command}
use Rattle.mencius_base.specs.declared.event.Event.{Event}
use Rattle.mencius_base.specs.declared.event.Event.TheVariants.{Submit, Deliver, Lose, Suspect, Retry, Execute}
use Rattle.mencius_base.specs.declared.refusal.Refusal.{Refusal}
use Rattle.mencius_base.specs.declared.refusal.Refusal.TheVariants.{EventsFull}
use Rattle.mencius_base.specs.declared.message.Message.{Message}
use Rattle.mencius_base.specs.declared.message.Message.TheVariants.{Suggest, Skip, Accepted, Prepare, Promise, Propose, Learn}
use Rattle.mencius_base.specs.declared.message.Value.{Value}
use Rattle.mencius_base.specs.declared.message.Value.TheVariants.{Noop, Ticket}
use Rattle.mencius_base.specs.declared.message.Vote.{Vote}
use Rattle.mencius_base.proofs.LeastOwned.{first_owned_owner}
use Rattle.mencius_base.specs.Members.{Membership, owner, round, first_owned, instances, most_events}
use Rattle.mencius_model.specs.Trace.{Line, Submitted, Heard, Suspected, Retried, Sent, Learned, Trace, followed_by, sent_messages, submitted_commands, events}
use Rattle.mencius_model.specs.Instance.{promised_ballot, proposal, proposal_by, accepted_ballot, greater_ballot, vote, learned_value, tried_ballot, promisers, accepters, reported_vote, are_majority, has_accepted}
use Rattle.mencius_model.specs.Server.{front, suggested_ticket, is_suggested_again_by, waiting_at, waiting_tickets, free_instance, done}
use Rattle.mencius_model.specs.Rules.{prepare_answer_from, answer_lines, decision_lines, is_skipped_by, due_proposal_from, proposal_lines, suggestion, is_noop, acceptance_lines, learning_lines}
use Rattle.mencius_model.specs.Next.{head, on_message, next_round, preparation, lines, first_cause, refusal_cause, next, due_proposal_at, due_decision_at}
use Rattle.mencius_model.proofs.trace.NumberLists.{find-instances_found}
use Rattle.mencius_model.proofs.trace.Lists.{IsIn, in_any, get_in, none_in, majority_more, majorities_meet}
use Rattle.mencius_model.proofs.rights.LineRights.{HasLost, MaySuggest, MayPromise, MayPropose, MayLearn, May, IsGrown}
use Rattle.mencius_model.proofs.trace.AnswersLast.{earlier_right, oldest_none, proposed_more, in_sent, sent_in, same, same_two, learned_in, suggested_in}
use Rattle.mencius_model.proofs.reached.HeardWasSent.{promiser, reported_promise, accepters_accepted}
use Rattle.mencius_base.specs.Limits.{instance_count}
use Rattle.mencius_model.proofs.trace.Parts.{causes, vote_of, is_newly_skipped, is_free, is_covered, retry_lines, delivery, waiting_of}

-- Each line of the list is allowed after the lines before it.
abbrev pub AllMay : Membership → Trace → List Line → Type 0
AllMay m w [] = Unit {0}
AllMay m w (l ∷ ls) = May m w l × AllMay m (l ∷ w) ls

grown_followed : (m : Membership) (w : Trace) (ls : List Line) → IsGrown m w → AllMay m w ls
    → IsGrown m (followed_by w ls)
grown_followed m w [] grown a = grown
grown_followed m w (l ∷ ls) grown a = grown_followed m (l ∷ w) ls (grown, a.0) a.1

-- ---- Submit and Retry

-- i is an existing own instance of p, and it is not below p's front.
pub record IsAhead (m : Membership) (w : Trace) (p : ServerId) (i : Inst) : Type 0 where
  pub own : owner m i ≡ p
  pub past : front m w p ≤ i
  pub small : i < instance_count

pub free_ahead : (m : Membership) (w : Trace) (p i : ℕ) → free_instance m w p ≡ Some i → IsAhead m w p i
free_ahead m w p i h =
    let place = find-instances_found (is_free m w p) i h in
    let e = place.passes in
    let r = and_parts (eqb (owner m i) p && leb (front m w p) i) (is_none (learned_value w p i)) e in
    let s = and_parts (eqb (owner m i) p) (leb (front m w p) i) r.0 in
    record { own = eqb-true (owner m i) p s.0; past = leb-true (front m w p) i s.1; small = place.small }

suggestion_may : (m : Membership) (w : Trace) (p : ℕ) (o : Option ℕ) (t : ℕ)
    → ((i : ℕ) → o ≡ Some i → MaySuggest m w p i t) → AllMay m w (suggestion p o t)
suggestion_may m w p None t each = tt
suggestion_may m w p (Some i) t each = (each i refl, tt)

submit_may : (m : Membership) (w : Trace) (p : ℕ) (command : Command)
    → AllMay m (Submitted command p ∷ w) (suggestion p (free_instance m w p) (length (submitted_commands w)))
submit_may m w p command =
    suggestion_may m (Submitted command p ∷ w) p (free_instance m w p) (length (submitted_commands w))
    (λ i e. let a = free_ahead m w p i e in
    record { own = a.own; past = omega (arith, a.past); small = a.small; ticket = inl refl })

noop_is : (o : Option Value) → is_noop o ≡ true → o ≡ Some Noop
noop_is None h = absurd (cc)
noop_is (Some Noop) h = refl
noop_is (Some (Ticket t)) h = absurd (cc)

if_some : (a : Bool) (t u : ℕ) → (if a then Some t else None) ≡ Some u → (a ≡ true) × (t ≡ u)
if_some true t u h = (refl, cc)
if_some false t u h = absurd (cc)

waits_lost : (w : Trace) (p i : ℕ) (o : Option ℕ) (t : ℕ) → suggested_ticket w p i ≡ o → waiting_of w p i o ≡ Some t
    → HasLost w p t i
waits_lost w p i None t e h = absurd (cc)
waits_lost w p i (Some u) t e h =
    let r = if_some (is_noop (learned_value w p i) && not (list_any (is_suggested_again_by p u i) w)) u t h in
    let s = and_parts (is_noop (learned_value w p i)) (not (list_any (is_suggested_again_by p u i) w)) r.0 in
    let n = noop_is (learned_value w p i) s.0 in
    record {
      before = rw r.1 at (suggested_in w p i u e);
      lost = learned_in w p i Noop n;
      last =
          λ j h. elim (cases_Bool (ltb i j)) [
            | inl lt ↦ absurd
                (none_in (is_suggested_again_by p u i) (Sent (Suggest p j t)) w (not-true (list_any (is_suggested_again_by p u i) w) s.1) h (rw (r.1, same p, same t) lt))
            | inr ge ↦ omega (arith, ge_from i j ge)
          ];
    } where
      ge_from : (i j : ℕ) → ltb i j ≡ false → j ≤ i
      ge_from i j h = omega (arith, leb-false (suc i) j h)

first_given_at : (f : ℕ → Option ℕ) (x : ℕ) (xs : List ℕ) (t : ℕ) (o : Option ℕ) → f x ≡ o
    → slice_get (cons_option o (filter_map f xs)) 0 ≡ Some t
    → (slice_get (filter_map f xs) 0 ≡ Some t → (i : ℕ) × (f i ≡ Some t)) → (i : ℕ) × (f i ≡ Some t)
first_given_at f x xs t None e h rest = rest h
first_given_at f x xs t (Some y) e h rest = (x, e ∙ h)

first_given : (f : ℕ → Option ℕ) (xs : List ℕ) (t : ℕ) → slice_get (filter_map f xs) 0 ≡ Some t
    → (i : ℕ) × (f i ≡ Some t)
first_given f [] t h = absurd (cc)
first_given f (x ∷ xs) t h = first_given_at f x xs t (f x) refl h (first_given f xs t)

waiting_lost : (m : Membership) (w : Trace) (p t : ℕ) → slice_get (waiting_tickets w p) 0 ≡ Some t → (i : ℕ)
    × HasLost w p t i
waiting_lost m w p t h =
    let r = first_given (waiting_at w p) instances t h in
    (r.0, waits_lost w p r.0 (suggested_ticket w p r.0) t refl r.1)

retry_may : (m : Membership) (w : Trace) (p : ℕ) (o : Option ℕ)
    → ((t : ℕ) → o ≡ Some t → (i : ℕ) × HasLost w p t i) → AllMay m (Retried p ∷ w) (retry_lines m w p o)
retry_may m w p None each = tt
retry_may m w p (Some t) each =
    let r = each t refl in
    suggestion_may m (Retried p ∷ w) p (free_instance m w p) t
    (λ i e.
    let a = free_ahead m w p i e in
    record {
      own = a.own;
      past = omega (arith, a.past);
      small = a.small;
      ticket = inr (
        r.0,
        record {
          before = inr r.1.before;
          lost = inr r.1.lost;
          last = λ j h. elim h [ inl x ↦ absurd (cc) | inr x ↦ r.1.last j x ];
        },
      );
    })

-- ---- Suspect

next_above : (a n p : ℕ) → n ≤ (a + 1) * n + p
next_above a n p = omega arith

suspect_may : (m : Membership) (w v : Trace) (p q : ℕ) (xs : List ℕ) → p < m.count → (p == q) ≡ false
    → AllMay m v (map (preparation m w p) (filter (is_covered m w p q) xs))
suspect_may m w v p q [] lt ne = tt
suspect_may m w v p q (i ∷ xs) lt ne =
    elim (cases_Bool (is_covered m w p q i)) [
      | inl e ↦ rw e (
        record {
          above = next_above (max (round m (tried_ballot w p i)) (round m (promised_ballot w p i))) m.count p;
          own = mod-mul-add (next_round m w p i) m.count p lt;
          other = λ mine. suspect_other i e mine;
        },
        suspect_may m w (preparation m w p i ∷ v) p q xs lt ne,
      )
      | inr e ↦ rw e (suspect_may m w v p q xs lt ne)
    ] where
      suspect_other : (i : ℕ) → is_covered m w p q i ≡ true → owner m i ≡ p → ⊥
      suspect_other i e mine =
          let r = and_parts _ (is_none (learned_value w p i)) e in
          let s = eqb-true (owner m i) q (and_parts (eqb (owner m i) q) _ r.0).0 in
          let holds : eqb p q ≡ true = eq-eqb p q (sym mine ∙ s) in
          absurd (cc)

-- ---- Deliver

if_none : (a : Bool) (r : Refusal) (o : Option Refusal) → cond a (Some r) o ≡ None → (a ≡ false) × (o ≡ None)
if_none true r o h = absurd (cc)
if_none false r o h = (refl, h)

none_is : (o : Option Value) → is_none o ≡ true → o ≡ None
none_is None h = refl
none_is (Some x) h = absurd (cc)

some_is : (o : Option Value) → is_none o ≡ false → (z : Value) × (o ≡ Some z)
some_is None h = absurd (cc)
some_is (Some z) h = (z, refl)

-- If a trace has a Suggest or a Propose at a ballot, a value is proposed at that ballot.
some_or_none : (o : Option Value) → ((z : Value) × (o ≡ Some z)) ⊎ (o ≡ None)
some_or_none None = inr refl
some_or_none (Some z) = inl (z, refl)

pub suggest_proposed : (w : Trace) (p i t : ℕ) → IsIn (Sent (Suggest p i t)) w
    → (z : Value) × (proposal w i 0 ≡ Some z)
suggest_proposed w p i t h =
    elim (some_or_none (proposal w i 0)) [
      | inl r ↦ r
      | inr e ↦
          let n = oldest_none (proposal_by i 0) (Sent (Suggest p i t)) w e h in
          let turned = rw (same i) at n in absurd (cc)
    ]

pub propose_proposed : (w : Trace) (p i b : ℕ) (x : Value) → 0 < b → IsIn (Sent (Propose p i b x)) w
    → (z : Value) × (proposal w i b ≡ Some z)
propose_proposed w p i b x pos h =
    elim (some_or_none (proposal w i b)) [
      | inl r ↦ r
      | inr e ↦
          let n = oldest_none (proposal_by i b) (Sent (Propose p i b x)) w e h in
          let turned = rw (same_two i b, lt-ltb 0 b pos) at n in absurd (cc)
    ]

promise_positive : (m : Membership) (w : Trace) → IsGrown m w → (q to i b : ℕ) (o : Option Vote)
    → IsIn (Sent (Promise q to i b o)) w → 0 < b
promise_positive m [] grown q to i b o h = absurd h
promise_positive m (l ∷ w) grown q to i b o (inl e) =
    let may : MayPromise w q to i b o = rw (← e) at grown.1 in omega (arith, may.above)
promise_positive m (l ∷ w) grown q to i b o (inr h) = promise_positive m w grown.0 q to i b o h

pub propose_positive : (m : Membership) (w : Trace) → IsGrown m w → (p i b : ℕ) (z : Value)
    → IsIn (Sent (Propose p i b z)) w → 0 < b
propose_positive m [] grown p i b z h = absurd h
propose_positive m (l ∷ w) grown p i b z (inl e) =
    let may : MayPropose m w p i b z = rw (← e) at grown.1 in
    let one = majorities_meet m may.among may.among may.majority may.majority in
    let r = may.promised one.0 one.1 in
    promise_positive m w grown.0 one.0 r.to i b r.vote r.promise
propose_positive m (l ∷ w) grown p i b z (inr h) = propose_positive m w grown.0 p i b z h

vote_heard : (w : Trace) (k q p i : ℕ) → vote (Heard k q ∷ w) p i ≡ vote w p i
vote_heard w k q p i = go (accepted_ballot w p i) where
  go : (o : Option ℕ) → vote_of (Heard k q ∷ w) i (greater_ballot o None) ≡ vote_of w i o
  go None = refl
  go (Some b) = ap (option_map (λ x. record { ballot = b; value = x })) (earlier_right (proposal w i b))

module _ (m : Membership) (w : Trace) (g : IsGrown m w) (k p : ℕ) (member : p < m.count) where
  suggest_lines : (q i t : ℕ) → IsIn (Sent (Suggest q i t)) w → (a d : Bool) → (d ≡ true → promised_ballot w p i ≡ 0)
      → AllMay m (Heard k p ∷ w)
      ((if a then Sent (Skip p (front m w p) (first_owned m p (i + 1))) ∷ [] else [])
      ++ (if d then Sent (Accepted p q i 0) ∷ [] else []))
  suggest_lines q i t h true true each =
      let z = each refl in
      let r = suggest_proposed w q i t h in
      let v = Heard k p ∷ w in
      let l = Sent (Skip p (front m w p) (first_owned m p (i + 1))) in (
        (omega arith, first_owned_owner m p (i + 1) member),
        (
          record {
            asked = inl (refl, (t, inr (inr h)));
            free = omega (arith, z);
            value = r.0;
            there = proposed_more l v i 0 r.0 (proposed_more (Heard k p) w i 0 r.0 r.1);
          },
          tt,
        ),
      )
  suggest_lines q i t h true false each = ((omega arith, first_owned_owner m p (i + 1) member), tt)
  suggest_lines q i t h false true each =
      let z = each refl in
      let r = suggest_proposed w q i t h in (
        record {
          asked = inl (refl, (t, inr h));
          free = omega (arith, z);
          value = r.0;
          there = proposed_more (Heard k p) w i 0 r.0 r.1;
        },
        tt,
      )
  suggest_lines q i t h false false each = tt

  skip_lines : (q first stop : ℕ) (v : Trace) (xs : List ℕ) → IsIn (Sent (Skip q first stop)) v
      → AllMay m v (map (λ j. Learned p j Noop) (filter (is_newly_skipped m w p q first stop) xs))
  skip_lines q first stop v [] h = tt
  skip_lines q first stop v (j ∷ xs) h =
      elim (cases_Bool (is_newly_skipped m w p q first stop j)) [
        | inl e ↦ rw e (skipped_here j e, skip_lines q first stop (Learned p j Noop ∷ v) xs (inr h))
        | inr e ↦ rw e (skip_lines q first stop v xs h)
      ] where
        skipped_here : (j : ℕ) → is_newly_skipped m w p q first stop j ≡ true → MayLearn m v j Noop
        skipped_here j e =
            let given = and_parts (is_skipped_by m j (Skip q first stop)) (is_none (learned_value w p j)) e in
            let skip = in_sent (Skip q first stop) v h in
            inl (inr (in_any (is_skipped_by m j) (Skip q first stop) (sent_messages v) skip given.0, refl))

  prepare_lines : (q i b : ℕ) → IsIn (Sent (Prepare q i b)) w → (o : Option Value) → learned_value w p i ≡ o
      → AllMay m (Heard k p ∷ w) (answer_lines p q i b (prepare_answer_from (promised_ballot w p i) (vote w p i) b o))
  prepare_lines q i b h (Some x) e = (inr (learned_in w p i x e), tt)
  prepare_lines q i b h None e =
      elim (cases_Bool (ltb (promised_ballot w p i) b)) [
        | inl lt ↦ rw lt (
          record {
            asked = inr h;
            above = omega (arith, ltb-true (promised_ballot w p i) b lt);
            is = sym (vote_heard w k p p i);
          },
          tt,
        )
        | inr ge ↦ rw ge tt
      ]

  promise_lines : (i b : ℕ) → AllMay m (Heard k p ∷ w) (proposal_lines p i b (due_proposal_at m w (Heard k p ∷ w) p i b))
  promise_lines i b =
      elim (cases_Bool (b == tried_ballot w p i)) [
        | inl e ↦ rw e (lines_due (eqb-true b (tried_ballot w p i) e))
        | inr e ↦ rw e tt
      ]
    where
      lines_due : b ≡ tried_ballot w p i
          → AllMay m (Heard k p ∷ w) (proposal_lines p i b (due_proposal_from (learned_value w p i) (proposal w i b)
          (are_majority m (promisers (Heard k p ∷ w) p i b)) (reported_vote (Heard k p ∷ w) p i b)))
      lines_due tried =
          let v = Heard k p ∷ w in
          let unsaid = is_none (learned_value w p i) && is_none (proposal w i b) in
          elim (cases_Bool (unsaid && are_majority m (promisers v p i b))) [
            | inl e ↦
                let r = and_parts unsaid (are_majority m (promisers v p i b)) e in
                let s = and_parts (is_none (learned_value w p i)) (is_none (proposal w i b)) r.0 in
                rw e (
                  record {
                    tried = omega (arith, tried);
                    none = earlier_right (proposal w i b) ∙ none_is (proposal w i b) s.1;
                    among = promisers v p i b;
                    majority = r.1;
                    highest = reported_vote v p i b;
                    promised = λ q a. promiser v p i b q a;
                    reported = λ x a. reported_promise v p i b x a;
                    is = refl;
                  },
                  tt,
                )
            | inr e ↦ rw e tt
          ]

  propose_lines : (q i b : ℕ) (x : Value) → IsIn (Sent (Propose q i b x)) w
      → AllMay m (Heard k p ∷ w) (acceptance_lines p q i b (promised_ballot w p i))
  propose_lines q i b x h =
      elim (cases_Bool (leb (promised_ballot w p i) b)) [
        | inl le ↦
            let r = propose_proposed w q i b x (propose_positive m w g q i b x h) h in
            rw le (
              record {
                asked = inr (x, inr h);
                free = omega (arith, leb-true (promised_ballot w p i) b le);
                value = r.0;
                there = proposed_more (Heard k p) w i b r.0 r.1;
              },
              tt,
            )
        | inr gt ↦ rw gt tt
      ]

  decided_lines : (i b : ℕ) (o : Option Value) → proposal w i b ≡ o
      → are_majority m (accepters (Heard k p ∷ w) p i b) ≡ true
      → AllMay m (Heard k p ∷ w) (decision_lines p i o)
  decided_lines i b None e h = tt
  decided_lines i b (Some x) e h =
      let v = Heard k p ∷ w in (
        inl (inl (
          b,
          proposed_more (Heard k p) w i b x e,
          majority_more m (accepters v p i b) (has_accepted v i b) (accepters_accepted v p i b) h,
        )),
        (inl refl, tt),
      )

  accepted_lines : (i b : ℕ) → AllMay m (Heard k p ∷ w) (decision_lines p i (due_decision_at m w (Heard k p ∷ w) p i b))
  accepted_lines i b =
      let v = Heard k p ∷ w in
      elim (cases_Bool (b == tried_ballot w p i)) [
        | inl tried ↦
            elim (cases_Bool (is_none (learned_value w p i) && are_majority m (accepters v p i b))) [
              | inl e ↦
                  let r = and_parts (is_none (learned_value w p i)) (are_majority m (accepters v p i b)) e in
                  rw (tried, e) (decided_lines i b (proposal w i b) refl r.1)
              | inr e ↦ rw (tried, e) tt
            ]
        | inr e ↦ rw e tt
      ]

  learn_lines : (q i : ℕ) (x : Value) → IsIn (Sent (Learn q i x)) w → AllMay m (Heard k p ∷ w) (learning_lines p i x (learned_value w p i))
  learn_lines q i x h =
      elim (cases_Bool (is_none (learned_value w p i))) [
        | inl e ↦ rw e (inr (q, inr h), tt)
        | inr e ↦ rw e tt
      ]

  leb_zero : (b : ℕ) → nat_le b 0 ≡ true → b ≡ 0
  leb_zero b h = omega (arith, leb-true b 0 h)

  message_lines : (x : Message) → IsIn (Sent x) w → AllMay m (Heard k p ∷ w) (on_message m w (Heard k p ∷ w) p x)
  message_lines (Suggest q i t) h =
      suggest_lines q i t h (ltb (front m w p) i) (nat_le (promised_ballot w p i) 0) (leb_zero (promised_ballot w p i))
  message_lines (Skip q first stop) h = skip_lines q first stop (Heard k p ∷ w) instances (inr h)
  message_lines (Prepare q i b) h = prepare_lines q i b h (learned_value w p i) refl
  message_lines (Promise q to i b v) h = promise_lines i b
  message_lines (Propose q i b x) h = propose_lines q i b x h
  message_lines (Accepted q to i b) h = accepted_lines i b
  message_lines (Learn q i x) h = learn_lines q i x h

  delivery_lines : (o : Option Message) → slice_get (sent_messages w) k ≡ o
      → AllMay m (Heard k p ∷ w) (delivery m w (Heard k p ∷ w) p o)
  delivery_lines None e = tt
  delivery_lines (Some x) e = message_lines x (sent_in x w (get_in (sent_messages w) k x e))

-- ---- every event

-- No cause of the list holds.
abbrev pub NoneHolds : List (Bool × Refusal) → Type 0
NoneHolds [] = Unit {0}
NoneHolds (cause ∷ others) = (cause.0 ≡ false) × NoneHolds others

pub none_holds : (others : List (Bool × Refusal)) → first_cause others ≡ None → NoneHolds others
none_holds [] h = tt
none_holds (cause ∷ others) h = let r = if_none cause.0 cause.1 (first_cause others) h in (r.0, none_holds others r.1)

step_ok : (w v : Trace) (o : Option Refusal) → option_map_or Err o (Ok w) ≡ Ok v → (o ≡ None) × (w ≡ v)
step_ok w v None h = (refl, cc)
step_ok w v (Some r) h = absurd (cc)

pub step_may : (m : Membership) (w : Trace) (e : Event) → IsGrown m w → NoneHolds (causes m w e)
    → May m w (head e) × AllMay m (head e ∷ w) (lines m w e)
step_may m w (Submit p command) grown h = (h.1.0, submit_may m w p command)
step_may m w (Deliver k p) grown h =
    (tt, delivery_lines m w grown k p (leb-false m.count p h.0) (slice_get (sent_messages w) k) refl)
step_may m w (Lose k p) grown h = (tt, tt)
step_may m w (Suspect p q) grown h =
    let parts = or_parts (leb m.count p) (leb m.count q) h.0 in
    (tt, suspect_may m w (Suspected p q ∷ w) p q instances (leb-false m.count p parts.0) h.1.0)
step_may m w (Retry p) grown h =
    (tt, retry_may m w p (slice_get (waiting_tickets w p) 0) (λ t e. waiting_lost m w p t e))
step_may m w (Execute p) grown h = (some_is (learned_value w p (done w p)) h.1.0, tt)

-- The event e is not refused at the trace w, and it makes the trace v.
pub record IsStep (m : Membership) (w v : Trace) (e : Event) : Type 0 where
  pub allowed : NoneHolds (causes m w e)
  pub is : followed_by (head e ∷ w) (lines m w e) ≡ v

pub next_is : (m : Membership) (w v : Trace) (e : Event) → next m w e ≡ Ok v → IsStep m w v e
next_is m w v e h =
    let s = step_ok (followed_by (head e ∷ w) (lines m w e)) v (refusal_cause m w e) h in
    let r = none_holds ((nat_le most_events (events w), EventsFull) ∷ causes m w e) s.0 in
    record { allowed = r.1; is = s.1 }

pub grown_next : (m : Membership) (w v : Trace) (e : Event) → IsGrown m w → next m w e ≡ Ok v → IsGrown m v
grown_next m w v e grown h =
    let n = next_is m w v e h in
    let a = step_may m w e grown n.allowed in
    rw n.is at (grown_followed m (head e ∷ w) (lines m w e) (grown, a.0) a.1)
