-- One of two histories is a prefix of the other, each command appears once, and later commands come later.
use Rattle.std.proofs.Common.{◌≡◌, ℕ, zero, suc, ◌+◌, ◌<◌, ◌≤◌, eqb, List, [], ◌∷◌, ◌++◌, length, ◌⊎◌, inl, inr, refl, sym, ap, ◌∙◌, arith, Option, Some, None, slice_get, append-nil, append_assoc, eqb-true, filter_map}
use Rattle.std.specs.List.{cons_option}
use Rattle.std.proofs.lemmas.Bool.{cases_lt, cases_Bool}
use Rattle.std.proofs.lemmas.List.Elements.{filter_map-append}
use Rattle.mencius_base.specs.declared.message.Value.{Value}
use Rattle.mencius_base.specs.declared.message.Value.TheVariants.{Noop, Ticket}
use Rattle.mencius_base.specs.Members.{Membership, numbers_below}
use Rattle.mencius_model.specs.Trace.{Line, Executed, Trace, submitted_commands}
use Rattle.mencius_model.specs.Instance.{learned_value}
use Rattle.mencius_model.specs.Server.{done, done_by, ticket_of}
use Rattle.mencius_model.specs.Decided.{IsDecided}
use Rattle.mencius_model.specs.Executed.{history, IsPrefix, IsComparable}
use Rattle.mencius_model.proofs.trace.Lists.{IsIn, get_in, in_append}
use Rattle.mencius_model.proofs.trace.NumberLists.{below-more}
use Rattle.mencius_model.proofs.rights.LineRights.{IsGrown, IsPast, past_grown}
use Rattle.mencius_model.proofs.trace.AnswersLast.{learned_more}
use Rattle.mencius_model.proofs.paxos.Decisions.{learned_decided, decided_past, agreement}
use Rattle.mencius_model.proofs.paxos.Tickets.{decided_once, decided_submitted, get_push}

-- ---- executed instances were learned

-- A line is an execution by p and adds 1 to its count, or it adds 0.
executed_line : (p : ℕ) (l : Line) → (done_by p l ≡ 0) ⊎ ((done_by p l ≡ 1) × (l ≡ Executed p))
executed_line p (Executed server) =
    elim (cases_Bool (eqb server p)) [
      | inl e ↦ inr (rw e, ap Executed (eqb-true server p e))
      | inr e ↦ inl (rw e)
    ]
executed_line p _ = inl refl

-- A server has learned each instance that it executed.
pub executed_learned : (m : Membership) (w : Trace) → IsGrown m w → (p i : ℕ) → i < done w p
    → (x : Value) × (learned_value w p i ≡ Some x)
executed_learned m [] grown p i lt = absurd (omega arith)
executed_learned m (l ∷ w) grown p i lt =
    elim (cases_lt i (done w p)) [
      | inl below ↦ let r = executed_learned m w grown.0 p i below in (r.0, learned_more l w p i r.0 r.1)
      | inr ge ↦
          elim (executed_line p l) [
            | inl z ↦ absurd (omega (arith, z, ge, lt))
            | inr d ↦
                let may : (x : Value) × (learned_value w p (done w p) ≡ Some x) = rw d.1 at grown.1 in
                let here : done w p ≡ i = omega (arith, d.0, ge, lt) in
                (may.0, learned_more l w p i may.0 (rw here at may.1))
          ]
    ]

-- ---- tickets of the first n instances, over plain functions

-- The tickets among the values that f gives for the first n instances.
abbrev pub tickets : (ℕ → Option Value) → ℕ → List ℕ
tickets f n = filter_map (λ i. ticket_of (f i)) (numbers_below n)

-- Another instance adds at most one ticket, at the end.
tickets_more : (f : ℕ → Option Value) (n : ℕ)
    → tickets f (suc n) ≡ tickets f n ++ filter_map (λ i. ticket_of (f i)) (n ∷ [])
tickets_more f n =
    ap (filter_map (λ i. ticket_of (f i))) below_suc ∙ filter_map-append (λ i. ticket_of (f i)) (numbers_below n) (n ∷ []) where
      below_suc : numbers_below (suc n) ≡ numbers_below n ++ n ∷ []
      below_suc = let e : suc n ≡ n + 1 = omega arith in ap numbers_below e ∙ below-more n

-- If two functions agree on the first n instances, they give the same tickets.
pub tickets_same : (f g : ℕ → Option Value) (n : ℕ) → ((i : ℕ) → i < n → f i ≡ g i) → tickets f n ≡ tickets g n
unfolding numbers_below
tickets_same f g zero h = refl
tickets_same f g (suc n) h =
    let last = h n (omega arith) in
    rw (tickets_more f n, tickets_more g n, tickets_same f g n (λ i lt. h i (omega arith)), last)

-- The tickets of fewer instances are a prefix of the tickets of more instances.
pub tickets_prefix : (f : ℕ → Option Value) (n m : ℕ) → n ≤ m → IsPrefix (tickets f n) (tickets f m)
unfolding numbers_below
tickets_prefix f n zero le = let e : n ≡ 0 = omega arith in rw e ([], refl)
tickets_prefix f n (suc m) le =
    elim (cases_lt n (suc m)) [
      | inl lt ↦
          let r = tickets_prefix f n m (omega arith) in
          let tail = filter_map (λ i. ticket_of (f i)) (m ∷ []) in (
            r.0 ++ tail,
            sym (append_assoc (tickets f n) r.0 tail) ∙ (ap (λ xs. xs ++ tail) r.1 ∙ sym (tickets_more f m)),
          )
      | inr ge ↦ let e : n ≡ suc m = omega (arith, ge, le) in rw e ([], append-nil (tickets f (suc m)))
    ]

-- If f and g agree on all instances that both lists cover, one list is a prefix of the other.
comparable : (f g : ℕ → Option Value) (n m : ℕ) → ((i : ℕ) → i < n → i < m → f i ≡ g i)
    → IsComparable (tickets f n) (tickets g m)
comparable f g n m h =
    elim (cases_lt n m) [
      | inl lt ↦ inl (rw (tickets_same f g n (λ i a. h i a (omega arith))) (tickets_prefix g n m (omega arith)))
      | inr ge ↦ inr (rw (sym (tickets_same f g m (λ i a. h i (omega arith) a))) (tickets_prefix f m n ge))
    ]

-- A ticket in the list was learned at one of the instances.
ticket_in : (o : Option Value) (t : ℕ) → IsIn t (cons_option (ticket_of o) []) → o ≡ Some (Ticket t)
ticket_in None t h = absurd h
ticket_in (Some Noop) t h = absurd h
ticket_in (Some (Ticket u)) t (inl e) = rw e
ticket_in (Some (Ticket u)) t (inr h) = absurd h

in_tickets : (f : ℕ → Option Value) (n t : ℕ) → IsIn t (tickets f n) → (i : ℕ) × (i < n) × (f i ≡ Some (Ticket t))
unfolding numbers_below
in_tickets f zero t h = absurd h
in_tickets f (suc n) t h =
    elim (in_append t (tickets f n) (cons_option (ticket_of (f n)) []) (rw (tickets_more f n) at h)) [
      | inl a ↦ let r = in_tickets f n t a in (r.0, omega (arith, r.1), r.2)
      | inr a ↦ (n, omega arith, ticket_in (f n) t a)
    ]

-- No number appears at two places.
abbrev pub IsOnce : List ℕ → Type 0
IsOnce xs = (n m t : ℕ) → slice_get xs n ≡ Some t → slice_get xs m ≡ Some t → n ≡ m

-- If an item that is not in the list is added at the end, still no item appears at two places.
once_push : (xs : List ℕ) (x : ℕ) → IsOnce xs → (IsIn x xs → ⊥) → IsOnce (xs ++ x ∷ [])
once_push xs x h new n m t e z =
    elim (get_push xs x t n e) [
      | inl left ↦ elim (get_push xs x t m z) [
        | inl d ↦ h n m t left d
        | inr d ↦ absurd (new (rw d.1 (get_in xs n t left)))
      ]
      | inr right ↦ elim (get_push xs x t m z) [
        | inl d ↦ absurd (new (rw right.1 (get_in xs m t d)))
        | inr d ↦ right.0 ∙ sym d.0
      ]
    ]

once_more : (xs : List ℕ) (o : Option Value) → IsOnce xs → ((t : ℕ) → o ≡ Some (Ticket t) → IsIn t xs → ⊥)
    → IsOnce (xs ++ cons_option (ticket_of o) [])
once_more xs None h new = rw append-nil h
once_more xs (Some Noop) h new = rw append-nil h
once_more xs (Some (Ticket t)) h new = once_push xs t h (new t refl)

-- If no ticket is learned at two instances, no ticket appears twice in the list.
tickets_once : (f : ℕ → Option Value) (n : ℕ) → ((i o t : ℕ) → f i ≡ Some (Ticket t) → f o ≡ Some (Ticket t) → i ≡ o)
    → IsOnce (tickets f n)
unfolding numbers_below
tickets_once f zero h = λ o m t a z. absurd (cc)
tickets_once f (suc n) h =
    rw (tickets_more f n)
    (once_more (tickets f n) (f n) (tickets_once f n h)
    (λ t e a. let r = in_tickets f n t a in let same = h r.0 n t r.2 e in omega (arith, r.1, same)))

-- ---- a list without t is a prefix of the part before t

-- If one of two lists that are not empty is a prefix of the other, their first items are equal.
heads : (x y : ℕ) (xs ys : List ℕ) → IsComparable (x ∷ xs) (y ∷ ys) → (x ≡ y) × IsComparable xs ys
heads x y xs ys (inl h) = let e = h.1 in (cc, inl (h.0, cc))
heads x y xs ys (inr h) = let e = h.1 in (cc, inr (h.0, cc))

-- Take two lists, one of them a prefix of the other. If only the second list contains t, the first list is a prefix of
-- the part of the second list before t.
pub begins_before : (xs front back : List ℕ) (t : ℕ) → IsComparable xs (front ++ t ∷ back) → (IsIn t xs → ⊥)
    → IsPrefix xs front
begins_before [] front back t comparable new = (front, refl)
begins_before (x ∷ xs) [] back t comparable new = absurd (new (inl (sym (heads x t xs back comparable).0)))
begins_before (x ∷ xs) (a ∷ front) back t comparable new =
    let h = heads x a xs (front ++ t ∷ back) comparable in
    let r = begins_before xs front back t h.1 (λ behind. new (inr behind)) in
    (r.0, let e = r.1 in let so = h.0 in cc)

-- ---- the theorems, for histories of one journal

module _ (m : Membership) (few : 1 ≤ m.count) (end : Trace) (g : IsGrown m end) where
  -- A value that was learned at a moment is decided at the end.
  learned_end : (w : Trace) → IsPast w end → (p i : ℕ) (z : Value) → learned_value w p i ≡ Some z → IsDecided m end i z
  learned_end w past p i z h =
      let d = learned_decided m w (past_grown m w end past g) p i z h in
      rw past.is (decided_past m past.since w i z d)

  -- Values that are decided at two moments are both decided at the end, so they are equal.
  pub one_value : (w v : Trace) → IsPast w end → IsPast v end → (i : ℕ) (z x : Value) → IsDecided m w i z
      → IsDecided m v i x → z ≡ x
  one_value w v a past i z x h decided =
      agreement m end few g i z x (rw a.is (decided_past m a.since w i z h))
      (rw past.is (decided_past m past.since v i x decided))

  -- Two servers that executed an instance learned the same value there, so their histories agree.
  pub histories_comparable : (w v : Trace) → IsPast w end → IsPast v end → (p q : ℕ)
      → IsComparable (history w p) (history v q)
  histories_comparable w v a past p q =
      comparable (learned_value w p) (learned_value v q) (done w p) (done v q)
      (λ i lt below.
      let x = executed_learned m w (past_grown m w end a g) p i lt in
      let y = executed_learned m v (past_grown m v end past g) q i below in
      let e = agreement m end few g i x.0 y.0 (learned_end w a p i x.0 x.1) (learned_end v past q i y.0 y.1) in
      x.1 ∙ (ap Some e ∙ sym y.1))

module _ (m : Membership) (few : 1 ≤ m.count) (w : Trace) (g : IsGrown m w) where
  -- Each ticket in a history was submitted.
  pub history_submitted : (p t : ℕ) → IsIn t (history w p) → t < length (submitted_commands w)
  history_submitted p t h =
      let r = in_tickets (learned_value w p) (done w p) t h in
      decided_submitted m w g r.0 t (learned_decided m w g p r.0 (Ticket t) r.2)

  -- Each ticket appears at most once in a history, because it is decided at only one instance.
  pub history_once : (p : ℕ) → IsOnce (history w p)
  history_once p =
      tickets_once (learned_value w p) (done w p)
      (λ i j t h told. decided_once m w few g i j t (learned_decided m w g p i (Ticket t) h)
      (learned_decided m w g p j (Ticket t) told))

-- If a command is submitted after a server had a history, it comes after that whole history.
pub order : (m : Membership) → 1 ≤ m.count → (w end : Trace) → IsPast w end → IsGrown m end
    → (p q t : ℕ) (front back : List ℕ)
    → length (submitted_commands w) ≤ t → history end q ≡ front ++ t ∷ back → IsPrefix (history w p) front
order m few w end past grown p q t front back late is =
    begins_before (history w p) front back t
    (rw is at (histories_comparable m few end grown w end past (record { since = []; is = refl }) p q))
    (λ h. omega (arith, history_submitted m few w (past_grown m w end past grown) p t h, late))
