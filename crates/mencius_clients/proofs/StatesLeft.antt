-- The orders that lead to configurations with different states leave different states behind.
use Rattle.std.proofs.Common.{◌≡◌, ◌≢◌, inl, inr, ℕ, zero, suc, ◌<◌, ◌≤◌, max, Bool, true, false, cond, List, [], ◌∷◌, ◌++◌, Option, Some, None, is_some, length, reverse, slice_get, arith, refl, sym, subst, ap, ◌∙◌}
use Rattle.std.specs.List.{Contains}
use Rattle.std.specs.declared.cmp.Ordering.TheVariants.{Less}
use Rattle.std.proofs.lemmas.List.{length-reverse, reverse-append, reverse-reverse}
use Rattle.mencius_base.specs.declared.command.Command.{Command}
use Rattle.mencius_base.specs.declared.command.CommandId.{CommandId}
use Rattle.mencius_model.specs.KeyMap.{value_at}
use Rattle.mencius_log.specs.declared.observation.Observation.{Observation}
use Rattle.mencius_log.specs.declared.observation.Observation.TheVariants.{Reply, Submit}
use Rattle.mencius_judge.specs.Answers.{IsRight}
use Rattle.mencius_judge.specs.Linearization.{IsLinearization}
use Rattle.mencius_judge.specs.Log.{Log, acknowledged, command_of, commands_of, has_id}
use Rattle.mencius_judge.proofs.promises.Logs.{command_known, contains_here, contains_later, known}
use Rattle.mencius_clients.specs.declared.configuration.Configuration.{Configuration}
use Rattle.mencius_clients.specs.Configurations.{Calls, IsOneOf, has_slot, submitted_by, text_at}
use Rattle.mencius_clients.specs.KeyLogs.{log_of_key}
use Rattle.mencius_clients.specs.KeyOrders.{IsKeyOrder, IsLineOf, ids_at, timed_lines, timed_one}
use Rattle.mencius_clients.specs.Locality.{acknowledged_at, ids_of}
use Rattle.mencius_clients.specs.ManyStates.{HasManyStates, LeaveDifferent}
use Rattle.mencius_clients.specs.OrdersSoFar.{IsOrderSoFar}
use Rattle.mencius_clients.specs.States.{AreRising, HasNext, Precedes, text_cmp}
use Rattle.mencius_clients.proofs.DifferentStates.{text_once}
use Rattle.mencius_clients.proofs.KeyOrderRight.{has_front, is_submission, key_linearizes}
use Rattle.mencius_clients.proofs.Lacking.{get_front}
use Rattle.mencius_clients.proofs.Later.{acknowledged_later, command_later, contains_end, contains_reverse}
use Rattle.mencius_clients.proofs.LineCommands.{some_at}
use Rattle.mencius_clients.proofs.Replied.{commands_alike}

contains_get : {A : Type 0} (xs : List A) (n : ℕ) (x : A) → slice_get xs n ≡ Some x → Contains xs x
contains_get [] n x e = absurd (cc)
contains_get (y ∷ xs) zero x e = let same : y ≡ x = cc in contains_here y xs x same
contains_get (y ∷ xs) (suc n) x e = contains_later y xs x (contains_get xs n x e)

-- the moment of an acknowledged command stays
acknowledged_at_later : (later u : Log) (id : CommandId) → has_id (acknowledged u) id ≡ true
    → acknowledged_at (later ++ u) id ≡ acknowledged_at u id
acknowledged_at_later [] u id acked = refl
acknowledged_at_later (o ∷ later) u id acked =
    ap (λ d. cond d (acknowledged_at (later ++ u) id) (length (later ++ u))) (acknowledged_later later u id acked)
    ∙ acknowledged_at_later later u id acked

-- an order of a key so far is an order of the key in the part of the log that was taken
module _ (log part rest : List Observation) (whole : log ≡ part ++ rest) (key : List ℕ) where
  abbrev u : Log
  u = reverse part

  whole_back : reverse log ≡ reverse rest ++ u
  whole_back = ap reverse whole ∙ reverse-append part rest

  later_command : (id : CommandId) (c : Command) → command_of u id ≡ Some c → command_of (reverse log) id ≡ Some c
  later_command id c is = ap (λ (l : Log). command_of l id) whole_back ∙ command_later (reverse rest) u id c is

  same_line : (line : ℕ) → line < length part → slice_get part line ≡ slice_get log line
  same_line line less =
      let x = some_at part line less in
      x.1 ∙ sym (ap (λ l. slice_get l line) whole ∙ get_front part rest line x.0 x.1)

  same_lines : (m : ℕ) (lines : List ℕ) → ((line : ℕ) → Contains lines line → line < length part)
      → timed_lines part m lines ≡ timed_lines log m lines
  same_lines m [] small = refl
  same_lines m (line ∷ lines) small =
      ap (λ o. timed_one (submitted_by o) (max m line) (timed_lines part (max m line) lines))
      (same_line line (small line (contains_here line lines line refl)))
      ∙ ap (timed_one (submitted_by (slice_get log line)) (max m line))
      (same_lines (max m line) lines (λ other there. small other (contains_later line lines other there)))

  module _ (calls : Calls) (taken : ℕ → Bool) (held : Option (List ℕ)) (lines : List ℕ)
      (h : IsOrderSoFar log u key calls taken held lines) where
    abbrev ids : List CommandId
    ids = ids_at log lines

    small : (line : ℕ) → Contains lines line → line < length part
    small line there =
        let less = (h.each line there).1 in let size = length-reverse part in omega (arith, less, size)

    same_ids : ids_at part lines ≡ ids
    same_ids = ap ids_of (same_lines 0 lines small)

    -- the commands of the order were submitted in the part
    same_command : (id : CommandId) → has_id ids id ≡ true → command_of (reverse log) id ≡ command_of u id
    same_command id has =
        let c = known (command_of u id) (h.called id has) in later_command id c.0 c.1 ∙ sym c.1

    own_line : (line : ℕ) → Contains lines line → IsLineOf part key line
    own_line line there =
        let l = (h.each line there).0 in
        let at : submitted_by (slice_get part line) ≡ Some l.command =
        ap submitted_by (same_line line (small line there)) ∙ l.submits in
        let says : Contains u (Submit l.command) =
        contains_reverse part (Submit l.command)
        (contains_get part line (Submit l.command) (is_submission (slice_get part line) l.command at)) in
        let c = known (command_of u l.command.id) (command_known u l.command says) in
        let same : l.command ≡ c.0 = let first = l.first in let second = later_command l.command.id c.0 c.1 in cc in
        record { command = l.command; submits = at; first = c.1 ∙ ap Some (sym same); of_key = l.of_key }

    key_order : IsKeyOrder part key lines
    key_order = record {
      each = own_line;
      once = λ place other id e f. h.once place other id (sym (ap (λ xs. slice_get xs place) same_ids) ∙ e)
          (sym (ap (λ xs. slice_get xs other) same_ids) ∙ f);
      complete = λ id c acked is own.
          ap (λ xs. has_id xs id) same_ids ∙ h.complete id c acked (later_command id c is) own;
      answers = λ front back id c x e is replied.
          let splits : ids ≡ front ++ id ∷ back = sym same_ids ∙ e in
          subst (λ cs. IsRight c.op (value_at key cs) x)
          (commands_alike (reverse log) u front
          (λ y has. same_command y (has_front ids front back id y splits has)))
          (h.answers front back id c x splits (later_command id c is)
          (subst (λ (l : Log). Contains l (Reply id x)) (sym whole_back) (contains_end (reverse rest) u (Reply id x) replied)));
      in_time = λ front back line later c e there submits acked.
          let at : slice_get log later ≡ Some (Submit c) =
          ap (λ l. slice_get l later) whole
          ∙ get_front part rest later (Submit c) (is_submission (slice_get part later) c submits) in
          let acked_later : has_id (acknowledged (reverse log)) c.id ≡ true =
          ap (λ (l : Log). has_id (acknowledged l) c.id) whole_back ∙ acknowledged_later (reverse rest) u c.id acked in
          let moment : acknowledged_at (reverse log) c.id ≡ acknowledged_at u c.id =
          ap (λ (l : Log). acknowledged_at l c.id) whole_back ∙ acknowledged_at_later (reverse rest) u c.id acked in
          let bound = h.in_time front back line later c e there (ap submitted_by at) acked_later in
          omega (arith, bound, moment);
    }

    pub linearizes : ((id : CommandId) → has_id (acknowledged u) id ≡ true → is_some (command_of u id) ≡ true)
        → IsLinearization (log_of_key u key) (ids_at log lines)
    linearizes submitted =
        subst (IsLinearization (log_of_key u key)) same_ids (key_linearizes part submitted key lines key_order)

    pub held_is : held ≡ value_at key (commands_of u (ids_at log lines))
    held_is = h.text ∙ ap (value_at key) (commands_alike (reverse log) u ids same_command)

-- ---- configurations

-- the configuration is the state that this order leaves, with this mark
pub record IsLeft (log : List Observation) (u : Log) (key : List ℕ) (calls : Calls) (c : Configuration)
    (order : List CommandId) (mark : Bool) : Type 0 where
  pub lines : List ℕ
  pub so_far : IsOrderSoFar log u key calls (λ t. has_slot c.done t) (text_at log c.text) lines
  pub order_is : order ≡ ids_at log lines
  pub mark_is : mark ≡ c.unseen

module _ (log : List Observation) (u : Log) (key : List ℕ) (calls : Calls) where
  -- each configuration has an order
  abbrev pub HaveOrders : List Configuration → Type 0
  HaveOrders cs =
      (c : Configuration) → IsOneOf cs c
      → (lines : List ℕ) × IsOrderSoFar log u key calls (λ t. has_slot c.done t) (text_at log c.text) lines

  orders_of : (cs : List Configuration) → HaveOrders cs → List (List CommandId × Bool)
  orders_of [] h = []
  orders_of (c ∷ cs) h =
      (ids_at log (h c (0, refl)).0, c.unseen) ∷ orders_of cs (λ d one. h d (suc one.0, one.1))

  orders_length : (cs : List Configuration) (h : HaveOrders cs) → length (orders_of cs h) ≡ length cs
  unfolding orders_of
  orders_length [] h = refl
  orders_length (c ∷ cs) h = ap suc (orders_length cs (λ d one. h d (suc one.0, one.1)))

  order_at : (cs : List Configuration) (h : HaveOrders cs) (n : ℕ) (order : List CommandId) (mark : Bool)
      → slice_get (orders_of cs h) n ≡ Some (order, mark)
      → (c : Configuration) × (slice_get cs n ≡ Some c) × IsLeft log u key calls c order mark
  unfolding orders_of
  order_at [] h n order mark e = absurd (cc)
  order_at (c ∷ cs) h zero order mark e =
      let r = h c (0, refl) in
      let same : (ids_at log r.0, c.unseen) ≡ (order, mark) = cc in (
        c,
        refl,
        record {
          lines = r.0;
          so_far = r.1;
          order_is = sym (ap (λ (p : List CommandId × Bool). p.0) same);
          mark_is = sym (ap (λ (p : List CommandId × Bool). p.1) same);
        },
      )
  order_at (c ∷ cs) h (suc n) order mark e = order_at cs (λ d one. h d (suc one.0, one.1)) n order mark e

  taken_by : (c : Configuration) (order : List CommandId) (mark : Bool) (left : IsLeft log u key calls c order mark)
      (t : ℕ) (command : Command) → calls t ≡ Some command → has_slot c.done t ≡ has_id order command.id
  taken_by c order mark left t command at =
      left.so_far.effect t command at ∙ ap (λ ids. has_id ids command.id) (sym left.order_is)

  -- a command has taken effect in only one of the two
  slot_differs : (a b : Configuration) (order other : List CommandId) (mark : Bool)
      → IsLeft log u key calls a order mark → IsLeft log u key calls b other mark → HasNext a.done b.done
      → (o : Option Command) (slot : ℕ) → calls slot ≡ o → has_slot a.done slot ≡ false → has_slot b.done slot ≡ true
      → (id : CommandId) × (has_id order id ≢ has_id other id)
  slot_differs a b order other mark left right next None slot at lacks has =
      let none = right.so_far.free slot at in absurd (cc)
  slot_differs a b order other mark left right next (Some c) slot at lacks has = (
    c.id,
    λ same.
        let first = taken_by a order mark left slot c at in
        let second = taken_by b other mark right slot c at in absurd (cc),
  )

module _ (log part rest : List Observation) (whole : log ≡ part ++ rest) (key : List ℕ) (calls : Calls)
    (submitted : (id : CommandId) → has_id (acknowledged (reverse part)) id ≡ true
    → is_some (command_of (reverse part) id) ≡ true) where
  abbrev v : Log
  v = reverse part

  text_is : (c : Configuration) (order : List CommandId) (mark : Bool) → IsLeft log v key calls c order mark
      → text_at log c.text ≡ value_at key (commands_of v order)
  text_is c order mark left =
      held_is log part rest whole key calls (λ t. has_slot c.done t) (text_at log c.text) left.lines left.so_far
      ∙ ap (λ ids. value_at key (commands_of v ids)) (sym left.order_is)

  differ : (a b : Configuration) (order other : List CommandId) (mark : Bool)
      → IsLeft log v key calls a order mark → IsLeft log v key calls b other mark → Precedes log a b
      → LeaveDifferent v key order other
  differ a b order other mark left right (inl text) =
      inl (λ same.
      let equal : text_at log a.text ≡ text_at log b.text =
      text_is a order mark left ∙ same ∙ sym (text_is b other mark right) in
      text_once (text_at log b.text) (subst (λ t. text_cmp t (text_at log b.text) ≡ Less) equal text))
  differ a b order other mark left right (inr (same, inl marked)) =
      let first = left.mark_is in
      let second = right.mark_is in
      let lacks = marked.0 in
      let has = marked.1 in absurd (cc)
  differ a b order other mark left right (inr (same, inr next)) =
      let n : HasNext a.done b.done = next.1 in
      inr (slot_differs log v key calls a b order other mark left right n (calls n.slot) n.slot refl n.lacks n.has)

  pub many_left : (most : ℕ) (cs : List Configuration) → most ≤ length cs → AreRising log cs
      → HaveOrders log v key calls cs → HasManyStates v key most
  many_left most cs many rising h = record {
    orders = orders_of log v key calls cs h;
    many = let size = orders_length log v key calls cs h in omega (arith, many, size);
    each = λ n order mark e.
        let r = order_at log v key calls cs h n order mark e in
        let left = r.2 in
        subst (IsLinearization (log_of_key v key)) (sym left.order_is)
        (linearizes log part rest whole key calls (λ t. has_slot r.0.done t) (text_at log r.0.text) left.lines left.so_far
        submitted);
    differ = λ n m order other mark less e f.
        let r = order_at log v key calls cs h n order mark e in
        let s = order_at log v key calls cs h m other mark f in
        differ r.0 s.0 order other mark r.2 s.2 (rising n m r.0 s.0 less r.1 s.1);
  }

-- the same for a part of the log with its newest line first
pub states_left : (log : List Observation) (u later : Log) → reverse log ≡ later ++ u → (key : List ℕ) (calls : Calls)
    → ((id : CommandId) → has_id (acknowledged u) id ≡ true → is_some (command_of u id) ≡ true)
    → (most : ℕ) (cs : List Configuration) → most ≤ length cs → AreRising log cs → HaveOrders log u key calls cs
    → HasManyStates u key most
states_left log u later whole key calls submitted most cs many rising h =
    let back : reverse (reverse u) ≡ u = reverse-reverse u in
    let front : log ≡ reverse u ++ reverse later =
    sym (reverse-reverse log) ∙ ap reverse whole ∙ reverse-append later u in
    subst (λ (l : Log). HasManyStates l key most) back
    (many_left log (reverse u) (reverse later) front key calls
    (subst (λ (l : Log). (id : CommandId) → has_id (acknowledged l) id ≡ true → is_some (command_of l id) ≡ true) (sym back)
    submitted) most cs many rising
    (subst (λ (l : Log). HaveOrders log l key calls cs) (sym back) h))
