-- The order of a key that leads to a configuration, line by line and step by step.
use Rattle.std.proofs.Common.{◌≡◌, ◌≢◌, ◌⊎◌, inl, inr, ℕ, ◌<◌, ◌≤◌, ◌||◌, max, Bool, true, false, cond, List, [], ◌∷◌, ◌++◌, Option, Some, None, is_some, length, reverse, slice_get, arith, refl, sym, subst, ap, ◌∙◌, ⊎_elim, length-append}
use Rattle.std.specs.List.{Contains}
use Rattle.std.specs.FinMap.{get-empty}
use Rattle.std.specs.Cmp.Lexicographic.{slice_cmp}
use Rattle.std.specs.Ordering.{nat_cmp}
use Rattle.std.proofs.lemmas.Bool.{cases_Bool, cases_eq, or_cases, or_left, or_right}
use Rattle.mencius_base.specs.Command.{is_same_id}
use Rattle.mencius_base.specs.declared.command.Command.{Command}
use Rattle.mencius_base.specs.declared.command.CommandId.{CommandId}
use Rattle.mencius_model.specs.KeyMap.{key_of, value_at}
use Rattle.mencius_log.specs.declared.observation.Answer.{Answer}
use Rattle.mencius_log.specs.declared.observation.Observation.{Observation}
use Rattle.mencius_log.specs.declared.observation.Observation.TheVariants.{Reply}
use Rattle.mencius_judge.specs.Answers.{IsRight}
use Rattle.mencius_judge.specs.Log.{Log, acknowledged, command_of, commands_of, has_id}
use Rattle.mencius_judge.proofs.observations.OrderSteps.{split_end}
use Rattle.mencius_judge.proofs.promises.Identities.{has-append, other_id, same_id, same_id_eq}
use Rattle.mencius_judge.proofs.promises.Kept.{same_command}
use Rattle.mencius_judge.proofs.promises.Logs.{commands-append, contains_cons, contains_here, contains_later, contains_none}
use Rattle.mencius_clients.specs.declared.timed_command.TimedCommand.{TimedCommand}
use Rattle.mencius_clients.specs.Configurations.{Calls, become, submitted_by}
use Rattle.mencius_clients.specs.KeyOrders.{IsKeyOrder, IsLineOf, ids_at, timed_lines, timed_one}
use Rattle.mencius_clients.specs.Locality.{acknowledged_at, ids_of}
use Rattle.mencius_clients.specs.OrdersSoFar.{IsOrderSoFar}
use Rattle.mencius_clients.proofs.Later.{acknowledged_either}
use Rattle.mencius_clients.proofs.LocalityOrders.{once_from_splits, once_splits}
use Rattle.mencius_clients.proofs.Values.{value_there}

-- ---- lists

-- what stands from a place of a longer list on is the last item, or stands there in the shorter list
split_last : (xs : List ℕ) (y : ℕ) (front back : List ℕ) (x z : ℕ) → xs ++ y ∷ [] ≡ front ++ x ∷ back
    → Contains (x ∷ back) z → (z ≡ y) ⊎ ((rest : List ℕ) × (xs ≡ front ++ x ∷ rest) × Contains (x ∷ rest) z)
split_last [] y [] back x z e there =
    let same : y ≡ x = cc in
    let none : [] ≡ back = cc in
    elim (contains_cons x back z there) [
      | inl is ↦ inl (sym (same ∙ is))
      | inr later ↦ absurd (contains_none z (subst (λ (b : List ℕ). Contains b z) (sym none) later))
    ]
split_last [] y (a ∷ []) back x z e there = absurd (cc)
split_last [] y (a ∷ b ∷ front) back x z e there = absurd (cc)
split_last (a ∷ xs) y [] back x z e there =
    let same : a ≡ x = cc in
    let rest : xs ++ y ∷ [] ≡ back = cc in
    elim (contains_cons x back z there) [
      | inl is ↦ inr (xs, ap (λ b. b ∷ xs) same, contains_here x xs z is)
      | inr later ↦ elim (in_either xs (subst (λ (b : List ℕ). Contains b z) (sym rest) later)) [
        | inl within ↦ inr (xs, ap (λ b. b ∷ xs) same, contains_later x xs z within)
        | inr last ↦ inl last
      ]
    ]
  where
    in_either : (ys : List ℕ) → Contains (ys ++ y ∷ []) z → Contains ys z ⊎ (z ≡ y)
    in_either [] h = elim (contains_cons y [] z h) [ inl is ↦ inr (sym is) | inr later ↦ absurd (contains_none z later) ]
    in_either (b ∷ ys) h =
        elim (contains_cons b (ys ++ y ∷ []) z h) [
          | inl is ↦ inl (contains_here b ys z is)
          | inr later ↦ elim (in_either ys later) [
            | inl within ↦ inl (contains_later b ys z within)
            | inr last ↦ inr last
          ]
        ]
split_last (a ∷ xs) y (b ∷ front) back x z e there =
    let same : a ≡ b = cc in
    elim (split_last xs y front back x z (cc) there) [
      | inl last ↦ inl last
      | inr r ↦ inr (r.0, ap (λ ys. a ∷ ys) r.1 ∙ ap (λ c. c ∷ (front ++ x ∷ r.0)) same, r.2)
    ]

contains_end : (xs : List ℕ) (y z : ℕ) → Contains (xs ++ y ∷ []) z → Contains xs z ⊎ (z ≡ y)
contains_end [] y z h = elim (contains_cons y [] z h) [ inl is ↦ inr (sym is) | inr later ↦ absurd (contains_none z later) ]
contains_end (b ∷ xs) y z h =
    elim (contains_cons b (xs ++ y ∷ []) z h) [
      | inl is ↦ inl (contains_here b xs z is)
      | inr later ↦ elim (contains_end xs y z later) [
        | inl within ↦ inl (contains_later b xs z within)
        | inr last ↦ inr last
      ]
    ]

contains_first : (front back : List ℕ) (x : ℕ) → Contains (front ++ x ∷ back) x
contains_first [] back x = contains_here x back x refl
contains_first (y ∷ front) back x = contains_later y (front ++ x ∷ back) x (contains_first front back x)

-- the identities of one line more
pub ids_more : (log : List Observation) (lines : List ℕ) (line : ℕ) (c : Command)
    → submitted_by (slice_get log line) ≡ Some c → ids_at log (lines ++ line ∷ []) ≡ ids_at log lines ++ c.id ∷ []
ids_more log lines line c e = from 0 lines
  where
    push : (o : Option Command) (n : ℕ) (longer rest : List TimedCommand) → ids_of longer ≡ ids_of rest ++ c.id ∷ []
        → ids_of (timed_one o n longer) ≡ ids_of (timed_one o n rest) ++ c.id ∷ []
    push None n longer rest h = h
    push (Some d) n longer rest h = ap (λ ids. d.id ∷ ids) h

    from : (m : ℕ) (ls : List ℕ) → ids_of (timed_lines log m (ls ++ line ∷ [])) ≡ ids_of (timed_lines log m ls) ++ c.id ∷ []
    from m [] = ap (λ o. ids_of (timed_one o (max m line) [])) e
    from m (l ∷ ls) =
        push (submitted_by (slice_get log l)) (max m l) (timed_lines log (max m l) (ls ++ line ∷ []))
        (timed_lines log (max m l) ls) (from (max m l) ls)

-- a command that was not acknowledged in a part of the log has its reply later
pub acknowledged_late : (later u : Log) (id : CommandId) → has_id (acknowledged u) id ≡ false
    → has_id (acknowledged (later ++ u)) id ≡ true → length u ≤ acknowledged_at (later ++ u) id
acknowledged_late [] u id none there = absurd (cc)
acknowledged_late (o ∷ later) u id none there =
    let v : Log = later ++ u in
    elim (cases_Bool (has_id (acknowledged v) id)) [
      | inl e ↦
          let before = acknowledged_late later u id none e in
          let is : acknowledged_at (o ∷ v) id ≡ acknowledged_at v id =
          ap (λ d. cond d (acknowledged_at v id) (length v)) e in
          omega arith
      | inr e ↦
          let is : acknowledged_at (o ∷ v) id ≡ length v = ap (λ d. cond d (acknowledged_at v id) (length v)) e in
          let size = length-append later u in
          omega arith
    ]

module _ (log : List Observation) (key : List ℕ) where
  abbrev w : Log
  w = reverse log

  -- before the first line
  pub begins : (calls : Calls) (taken : ℕ → Bool) → ((t : ℕ) → calls t ≡ None) → ((t : ℕ) → taken t ≡ false)
      → IsOrderSoFar log [] key calls taken None []
  begins calls taken none untaken = record {
    each = λ line there. absurd (contains_none line there);
    called = λ id has. absurd (cc);
    once = λ place other id e f. absurd (cc);
    complete = λ id c acked. absurd (cc);
    effect = λ t c e. let no_call = none t in absurd (cc);
    free = λ t e. untaken t;
    answers = λ front back id c x e. absurd (no_split front back id e);
    text = sym (get-empty {X = List ℕ} (slice_cmp nat_cmp) key);
    in_time = λ front back line later c e. absurd (no_lines front back line e);
  }
    where
      no_split : (front back : List CommandId) (id : CommandId) → [] ≡ front ++ id ∷ back → ⊥
      no_split [] back id e = cc
      no_split (x ∷ front) back id e = cc

      no_lines : (front back : List ℕ) (line : ℕ) → [] ≡ front ++ line ∷ back → ⊥
      no_lines [] back line e = cc
      no_lines (x ∷ front) back line e = cc

  -- a line that acknowledges no further command of the key
  pub passes : (u : Log) (o : Observation) (calls : Calls) (taken : ℕ → Bool) (held : Option (List ℕ)) (lines : List ℕ)
      → ((id : CommandId) (c : Command) → has_id (acknowledged (o ∷ u)) id ≡ true → command_of w id ≡ Some c
      → key_of c.op ≡ key → has_id (acknowledged u) id ≡ true)
      → IsOrderSoFar log u key calls taken held lines → IsOrderSoFar log (o ∷ u) key calls taken held lines
  passes u o calls taken held lines none h = record {
    each = λ line there. let l = h.each line there in let less = l.1 in (l.0, omega arith);
    called = λ id has. let there = h.called id has in ap is_some (same_command u o id there) ∙ there;
    once = h.once;
    complete = λ id c acked is own. h.complete id c (none id c acked is own) is own;
    effect = h.effect;
    free = h.free;
    answers = h.answers;
    text = h.text;
    in_time = h.in_time;
  }

  -- a new command waits in a free slot
  pub waits : (u : Log) (calls next : Calls) (taken : ℕ → Bool) (held : Option (List ℕ)) (lines : List ℕ) (slot : ℕ)
      (c : Command) → calls slot ≡ None → next slot ≡ Some c → ((t : ℕ) → t ≢ slot → next t ≡ calls t)
      → command_of u c.id ≡ None → IsOrderSoFar log u key calls taken held lines
      → IsOrderSoFar log u key next taken held lines
  waits u calls next taken held lines slot c was is same new h = record {
    each = h.each;
    called = h.called;
    once = h.once;
    complete = h.complete;
    effect = λ t d e. elim (cases_eq t slot) [
      | inl here ↦
          let one : d ≡ c = let at : next slot ≡ Some d = ap next (sym here) ∙ e in cc in
          ap taken here ∙ h.free slot was ∙ sym (ap (λ (x : Command). has_id (ids_at log lines) x.id) one ∙ not_yet)
      | inr there ↦ h.effect t d (sym (same t there) ∙ e)
    ];
    free = λ t e. elim (cases_eq t slot) [
      | inl here ↦ let at : next slot ≡ None = ap next (sym here) ∙ e in absurd (cc)
      | inr there ↦ h.free t (sym (same t there) ∙ e)
    ];
    answers = h.answers;
    text = h.text;
    in_time = h.in_time;
  }
    where
      not_yet : has_id (ids_at log lines) c.id ≡ false
      not_yet = ⊎_elim
          (λ (e : has_id (ids_at log lines) c.id ≡ true).
          let there = h.called c.id e in let none = ap is_some new in absurd (cc))
          (λ (e : has_id (ids_at log lines) c.id ≡ false). e)
          (cases_Bool (has_id (ids_at log lines) c.id))

  -- a waiting command takes effect
  module _ (u later : Log) (whole : w ≡ later ++ u) (calls : Calls) (taken next : ℕ → Bool) (held : Option (List ℕ))
      (lines : List ℕ) (slot line : ℕ) (c : Command) (waits_there : calls slot ≡ Some c)
      (submits : submitted_by (slice_get log line) ≡ Some c) (of_key : IsLineOf log key line) (seen : line < length u)
      (called : is_some (command_of u c.id) ≡ true) (open_yet : has_id (acknowledged u) c.id ≡ false)
      (apart : (t : ℕ) (d : Command) → calls t ≡ Some d → d.id ≡ c.id → t ≡ slot)
      (was : taken slot ≡ false) (here : next slot ≡ true) (elsewhere : (t : ℕ) → t ≢ slot → next t ≡ taken t)
      (right : (x : Answer) → Contains w (Reply c.id x) → IsRight c.op held x)
      (h : IsOrderSoFar log u key calls taken held lines) where
    abbrev ids : List CommandId
    ids = ids_at log lines

    first : command_of w c.id ≡ Some c
    first =
        let one : of_key.command ≡ c = let s = of_key.submits in cc in
        ap (λ (d : Command). command_of w d.id) (sym one) ∙ of_key.first ∙ ap Some one

    own : key_of c.op ≡ key
    own =
        let one : of_key.command ≡ c = let s = of_key.submits in cc in
        ap (λ (d : Command). key_of d.op) (sym one) ∙ of_key.of_key

    more : ids_at log (lines ++ line ∷ []) ≡ ids ++ c.id ∷ []
    more = ids_more log lines line c submits

    new : has_id ids c.id ≡ false
    new = sym (h.effect slot c waits_there) ∙ was

    also : (id : CommandId) → has_id ids id ≡ true → has_id (ids_at log (lines ++ line ∷ [])) id ≡ true
    also id has =
        ap (λ xs. has_id xs id) more ∙ has-append ids c.id id ∙ or_right (is_same_id c.id id) (has_id ids id) has

    all_seen : (l : ℕ) → Contains (lines ++ line ∷ []) l → IsLineOf log key l × (l < length u)
    all_seen l there =
        elim (contains_end lines line l there) [
          | inl within ↦ h.each l within
          | inr last ↦
              (subst (λ (n : ℕ). IsLineOf log key n) (sym last) of_key, subst (λ (n : ℕ). n < length u) (sym last) seen)
        ]

    late : has_id (acknowledged w) c.id ≡ true → length u ≤ acknowledged_at w c.id
    late acked =
        let there : has_id (acknowledged (later ++ u)) c.id ≡ true =
        subst (λ (l : Log). has_id (acknowledged l) c.id ≡ true) whole acked in
        subst (λ (l : Log). length u ≤ acknowledged_at l c.id) (sym whole) (acknowledged_late later u c.id open_yet there)

    pub takes_effect : IsOrderSoFar log u key calls next (become held c.op) (lines ++ line ∷ [])
    takes_effect = record {
      each = all_seen;
      called = λ id has.
          elim (or_cases (is_same_id c.id id) (has_id ids id)
          (sym (ap (λ xs. has_id xs id) more ∙ has-append ids c.id id) ∙ has)) [
            | inl same ↦
                subst (λ (x : CommandId). is_some (command_of u x) ≡ true) (same_id_eq c.id id same) called
            | inr before ↦ h.called id before
          ];
      once = once_from_splits (ids_at log (lines ++ line ∷ [])) (λ front back id e.
          elim (split_end ids c.id front back id (sym more ∙ e)) [
            | inl last ↦
                ap (λ xs. has_id xs id) last.0 ∙ ap (has_id ids) last.1 ∙ new
            | inr r ↦ once_splits ids front r.0 id h.once r.1
          ]);
      complete = λ id d acked is of. also id (h.complete id d acked is of);
      effect = λ t d e. elim (cases_eq t slot) [
        | inl at ↦
            let one : d ≡ c = let there : calls slot ≡ Some d = ap calls (sym at) ∙ e in cc in
            ap next at ∙ here
            ∙ sym (ap (λ (x : Command). has_id (ids_at log (lines ++ line ∷ [])) x.id) one
            ∙ ap (λ xs. has_id xs c.id) more ∙ has-append ids c.id c.id
            ∙ or_left (is_same_id c.id c.id) (has_id ids c.id) (same_id c.id))
        | inr off ↦
            elsewhere t off ∙ h.effect t d e
            ∙ sym (ap (λ xs. has_id xs d.id) more ∙ has-append ids c.id d.id
            ∙ ap (λ b. b || has_id ids d.id) (other_id c.id d.id (λ (same : c.id ≡ d.id). off (apart t d e (sym same)))))
      ];
      free = λ t e. elim (cases_eq t slot) [
        | inl at ↦ let there : calls slot ≡ None = ap calls (sym at) ∙ e in absurd (cc)
        | inr off ↦ elsewhere t off ∙ h.free t e
      ];
      answers = λ front back id d x e is replied.
          elim (split_end ids c.id front back id (sym more ∙ e)) [
            | inl last ↦
                let is_there : command_of w c.id ≡ Some d = ap (command_of w) (sym last.1) ∙ is in
                let one : c ≡ d = cc (first, is_there) in
                let its = right x (subst (λ (y : CommandId). Contains w (Reply y x)) last.1 replied) in
                subst (λ (k : Command). IsRight k.op (value_at key (commands_of w front)) x) one
                (subst (λ t. IsRight c.op t x) (h.text ∙ ap (λ xs. value_at key (commands_of w xs)) (sym last.0)) its)
            | inr r ↦ h.answers front r.0 id d x r.1 is replied
          ];
      text =
          ap (λ t. become t c.op) h.text ∙ sym (ap (λ xs. value_at key (commands_of w xs)) more
          ∙ ap (value_at key) (commands-append w ids c.id c first) ∙ value_there (commands_of w ids) c key own);
      in_time = λ front back l other d e there is acked.
          let early = (all_seen l (subst (λ (ls : List ℕ). Contains ls l) (sym e) (contains_first front back l))).1 in
          elim (split_last lines line front back l other e there) [
            | inl last ↦
                let at : submitted_by (slice_get log line) ≡ Some d =
                subst (λ (n : ℕ). submitted_by (slice_get log n) ≡ Some d) last is in
                let one : d ≡ c = cc (at, submits) in
                let bound = late (subst (λ (k : Command). has_id (acknowledged w) k.id ≡ true) one acked) in
                let moment : acknowledged_at w d.id ≡ acknowledged_at w c.id =
                ap (λ (k : Command). acknowledged_at w k.id) one in
                omega arith
            | inr r ↦ h.in_time front r.0 l other d r.1 r.2 is acked
          ];
    }

  -- a waiting command that has taken effect gets its reply
  pub replied : (u : Log) (x : Answer) (calls next : Calls) (taken left : ℕ → Bool) (held : Option (List ℕ))
      (lines : List ℕ) (slot : ℕ) (c : Command) → calls slot ≡ Some c → taken slot ≡ true
      → next slot ≡ None → ((t : ℕ) → t ≢ slot → next t ≡ calls t)
      → left slot ≡ false → ((t : ℕ) → t ≢ slot → left t ≡ taken t)
      → IsOrderSoFar log u key calls taken held lines
      → IsOrderSoFar log (Reply c.id x ∷ u) key next left held lines
  replied u x calls next taken left held lines slot c waits_there took none same off others h = record {
    each = λ line there. let l = h.each line there in let less = l.1 in (l.0, omega arith);
    called = h.called;
    once = h.once;
    complete = λ id d acked is own.
        elim (acknowledged_either u c.id id x acked) [
          | inl now ↦ ap (has_id (ids_at log lines)) (sym now) ∙ sym (h.effect slot c waits_there) ∙ took
          | inr before ↦ h.complete id d before is own
        ];
    effect = λ t d e. elim (cases_eq t slot) [
      | inl here ↦ let at : next slot ≡ Some d = ap next (sym here) ∙ e in absurd (cc)
      | inr there ↦ others t there ∙ h.effect t d (sym (same t there) ∙ e)
    ];
    free = λ t e. elim (cases_eq t slot) [
      | inl here ↦ ap left here ∙ off
      | inr there ↦ others t there ∙ h.free t (sym (same t there) ∙ e)
    ];
    answers = h.answers;
    text = h.text;
    in_time = h.in_time;
  }

  -- after the last line
  pub ends : (u : Log) (calls : Calls) (taken : ℕ → Bool) (held : Option (List ℕ)) (lines : List ℕ) → u ≡ w
      → IsOrderSoFar log u key calls taken held lines → IsKeyOrder log key lines
  ends u calls taken held lines all h = record {
    each = λ line there. (h.each line there).0;
    once = h.once;
    complete = λ id c acked is own.
        h.complete id c (subst (λ (l : Log). has_id (acknowledged l) id ≡ true) (sym all) acked) is own;
    answers = h.answers;
    in_time = h.in_time;
  }
