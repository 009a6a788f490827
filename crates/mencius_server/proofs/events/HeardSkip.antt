-- Hearing a Skip has the effect that the model gives to its delivery.
use Rattle.std.proofs.Common.{◌≡◌, ℕ, ◌+◌, ◌<◌, ◌≤◌, Bool, true, false, List, [], ◌∷◌, Option, Some, None, map, refl, sym, ◌∙◌, ap, arith, cond, eqb, zero, suc, add-zero, ◌&&◌, ◌||◌, ⊎_elim}
use Rattle.std.specs.Option.{option_or}
use Rattle.std.specs.Prelude.{slice_get, is_none}
use Rattle.std.specs.List.{count_by, filter, fold, list_any, range_with_len}
use Rattle.std.proofs.lemmas.Bool.{cases_eq, eq-eqb, eqb-false, eqb-true, ne_eqb}
use Rattle.mencius_base.specs.declared.message.Message.TheVariants.{Skip}
use Rattle.mencius_base.specs.declared.message.Value.{Value}
use Rattle.mencius_base.specs.declared.message.Value.TheVariants.{Noop}
use Rattle.mencius_base.specs.Members.{Membership, numbers_below, instances}
use Rattle.mencius_model.specs.Trace.{Heard, Learned, Line, Trace, followed_by, sent_messages, messages_of}
use Rattle.mencius_model.specs.Instance.{learned_value, tried_ballot}
use Rattle.mencius_model.specs.Server.{front}
use Rattle.mencius_model.specs.Next.{is_learning, learned_count}
use Rattle.mencius_model.proofs.trace.NumberLists.{map-instances_same}
use Rattle.coord_paxos.specs.SlotState.{SlotState}
use Rattle.coord_paxos.specs.Fresh.{new_slot}
use Rattle.coord_paxos.specs.Slot.{after_learn}
use Rattle.coord_paxos.specs.Reached.{slot_at}
use Rattle.mencius_model.proofs.trace.QuietLines.{IsUncounted, quiet_learned}
use Rattle.coord_paxos.proofs.SlotTrace.{slot_at-heard, slot_at-learning, slot_at-quiet}
use Rattle.mencius_server.specs.State.{ServerState}
use Rattle.mencius_server.specs.Machine.{is_newly_skipped_slot, is_skipped, slot_after_skip}
use Rattle.mencius_server.specs.Reached.{server_at}
use Rattle.mencius_server.proofs.events.ServerTrace.{Meets, slot-server_at}
use Rattle.mencius_base.specs.Limits.{instance_count}
use Rattle.mencius_model.proofs.trace.Parts.{is_newly_skipped, on_skip}

abbrev noop_at : ℕ → ℕ → Line
noop_at p j = Learned p j Noop

-- A slot that learns a value keeps the first value that it learned.
after_learn_is : (s : SlotState) (z : Value) (o : Option Value) → s.learned ≡ o
    → after_learn s z ≡ record s { learned = option_or s.learned (Some z) }
after_learn_is s z None e =
    ap (λ (o : Option Value). cond (is_none o) (record s { learned = Some z }) s) e
    ∙ ap (λ (o : Option Value). record s { learned = option_or o (Some z) }) (sym e)
after_learn_is s z (Some x) e =
    ap (λ (o : Option Value). cond (is_none o) (record s { learned = Some z }) s) e
    ∙ ap (λ (o : Option Value). record s { learned = o }) e
    ∙ ap (λ (o : Option Value). record s { learned = option_or o (Some z) }) (sym e)

-- A line about learning no-op at i changes the slot of i in the same way as learning no-op, even if i was learned
-- before. It changes no other slot.
noop_cases : (m : Membership) (v : Trace) (p i j : ℕ) (a : Bool) → eqb i j ≡ a
    → slot_at m (Learned p i Noop ∷ v) p j ≡ cond a (after_learn (slot_at m v p j) Noop) (slot_at m v p j)
noop_cases m v p i j true e =
    ap (λ (i : ℕ). slot_at m (Learned p i Noop ∷ v) p j) (eqb-true i j e) ∙ slot_at-learning m v p j Noop
    ∙ sym (after_learn_is (slot_at m v p j) Noop (learned_value v p j) refl)
noop_cases m v p i j false e =
    slot_at-quiet m v (Learned p i Noop) p j (quiet_learned p i j Noop (λ same. eqb-false i j e (sym same))) refl

learned_noop : (m : Membership) (v : Trace) (p i j : ℕ)
    → slot_at m (Learned p i Noop ∷ v) p j ≡ cond (eqb i j) (after_learn (slot_at m v p j) Noop) (slot_at m v p j)
learned_noop m v p i j = noop_cases m v p i j (eqb i j) refl

option_or-twice : (o : Option Value) (z : Value) → option_or (option_or o (Some z)) (Some z) ≡ option_or o (Some z)
option_or-twice None z = refl
option_or-twice (Some x) z = refl

after_learn-twice : (x : SlotState) → after_learn (after_learn x Noop) Noop ≡ after_learn x Noop
after_learn-twice x =
    ap (λ (s : SlotState). after_learn s Noop) (after_learn_is x Noop x.learned refl)
    ∙ after_learn_is (record x { learned = option_or x.learned (Some Noop) }) Noop
    (option_or x.learned (Some Noop)) refl
    ∙ ap (λ (o : Option Value). record x { learned = o }) (option_or-twice x.learned Noop)
    ∙ sym (after_learn_is x Noop x.learned refl)

-- Lines about learning no-op at several instances change their slots in the same way as learning no-op, and change no
-- other slot.
learned_noops : (m : Membership) (p j : ℕ) (js : List ℕ) (v : Trace)
    → slot_at m (followed_by v (map (noop_at p) js)) p j
    ≡ cond (list_any (λ (i : ℕ). eqb i j) js) (after_learn (slot_at m v p j) Noop) (slot_at m v p j)
learned_noops m p j [] v = refl
learned_noops m p j (i ∷ js) v =
    learned_noops m p j js (Learned p i Noop ∷ v)
    ∙ ap (λ (s : SlotState). cond (list_any (λ (i : ℕ). eqb i j) js) (after_learn s Noop) s) (learned_noop m v p i j)
    ∙ either (eqb i j) (list_any (λ (i : ℕ). eqb i j) js) (slot_at m v p j)
  where
    either : (a d : Bool) (s : SlotState)
        → cond d (after_learn (cond a (after_learn s Noop) s) Noop) (cond a (after_learn s Noop) s)
        ≡ cond (a || d) (after_learn s Noop) s
    either true true s = after_learn-twice s
    either true false s = refl
    either false d s = refl

front_noops : (m : Membership) (p : ℕ) (js : List ℕ) (v : Trace)
    → front m (followed_by v (map (noop_at p) js)) p ≡ front m v p
front_noops m p [] v = refl
front_noops m p (i ∷ js) v = front_noops m p js (Learned p i Noop ∷ v) ∙ omega arith

unsent_noops : (p : ℕ) (js : List ℕ) → [] ≡ messages_of (map (noop_at p) js)
unsent_noops p [] = refl
unsent_noops p (i ∷ js) = unsent_noops p js

-- A number is in a filtered list exactly if it is in the list and passes the test.
and-false : (a : Bool) → (a && false) ≡ false
and-false true = refl
and-false false = refl

among_cases : (i j : ℕ) (test : ℕ → Bool) (a d y x : Bool) → test i ≡ a → eqb i j ≡ d → y ≡ (test j && x)
    → cond a (d || y) y ≡ (test j && (d || x))
among_cases i j test true true y x here same rest = sym (rw (← eqb-true i j same, here))
among_cases i j test false true y x here same rest =
    let at_j : test j ≡ false = rw (← eqb-true i j same) here in rw (rest, at_j)
among_cases i j test true false y x here same rest = rest
among_cases i j test false false y x here same rest = rest

any-cond : (j i : ℕ) (a : Bool) (ys : List ℕ)
    → list_any (λ (i : ℕ). eqb i j) (cond a (i ∷ ys) ys)
    ≡ cond a (eqb i j || list_any (λ (i : ℕ). eqb i j) ys) (list_any (λ (i : ℕ). eqb i j) ys)
any-cond j i true ys = refl
any-cond j i false ys = refl

pub among : (test : ℕ → Bool) (xs : List ℕ) (j : ℕ)
    → list_any (λ (i : ℕ). eqb i j) (filter test xs) ≡ (test j && list_any (λ (i : ℕ). eqb i j) xs)
among test [] j = sym (and-false (test j))
among test (i ∷ xs) j =
    any-cond j i (test i) (filter test xs) ∙ among_cases i j test (test i) (eqb i j) _ _ refl refl (among test xs j)

in_interval : (i n j : ℕ) → i ≤ j → j < i + n → list_any (λ (x : ℕ). eqb x j) (range_with_len i n) ≡ true
in_interval i zero j low high = absurd (omega arith)
in_interval i (suc n) j low high =
    ⊎_elim
    (λ (e : i ≡ j). rw (eq-eqb i j e))
    (λ (ne : i ≡ j → ⊥). let above : i + 1 ≤ j = omega arith in
    rw (ne_eqb i j ne, in_interval (i + 1) n j above (omega arith)))
    (cases_eq i j)

pub is_instance : (j : ℕ) → j < instance_count → list_any (λ (i : ℕ). eqb i j) instances ≡ true
unfolding numbers_below instances
is_instance j small = in_interval 0 instance_count j (omega arith) small

counts_from : (p n : ℕ) (test : ℕ → Bool) (xs : List ℕ)
    → fold (λ (total : ℕ) (x : ℕ). total + cond (test x) 1 0) n xs
    ≡ fold (λ (total : ℕ) (l : Line). total + cond (is_learning l) 1 0) n (map (noop_at p) (filter test xs))
counts_from p n test [] = refl
counts_from p n test (a ∷ xs) = step (test a) (counts_from p (n + cond (test a) 1 0) test xs)
  where
    step : (d : Bool)
        → fold (λ (total : ℕ) (x : ℕ). total + cond (test x) 1 0) (n + cond d 1 0) xs
        ≡ fold (λ (total : ℕ) (l : Line). total + cond (is_learning l) 1 0) (n + cond d 1 0)
        (map (noop_at p) (filter test xs))
        → fold (λ (total : ℕ) (x : ℕ). total + cond (test x) 1 0) (n + cond d 1 0) xs
        ≡ fold (λ (total : ℕ) (l : Line). total + cond (is_learning l) 1 0) n
        (map (noop_at p) (cond d (a ∷ filter test xs) (filter test xs)))
    step true e = e
    step false e =
        e ∙ ap (λ (y : ℕ). fold (λ (total : ℕ) (l : Line). total + cond (is_learning l) 1 0) y
        (map (noop_at p) (filter test xs))) (add-zero n)

counts_noops : (p : ℕ) (test : ℕ → Bool) (xs : List ℕ) → count_by test xs
    ≡ learned_count (map (noop_at p) (filter test xs))
counts_noops p test xs = counts_from p 0 test xs

uncounted_skip : (q first stop : ℕ) (j c : ℕ) → IsUncounted j c (Skip q first stop)
uncounted_skip q first stop j c = record { promise = λ r. refl; acceptance = λ r. refl; report = refl }

counts_same : (f g : ℕ → Bool) (total a n : ℕ) → ((j : ℕ) → j < a + n → f j ≡ g j)
    → fold (λ (y : ℕ) (x : ℕ). y + cond (f x) 1 0) total (range_with_len a n)
    ≡ fold (λ (y : ℕ) (x : ℕ). y + cond (g x) 1 0) total (range_with_len a n)
counts_same f g total a zero e = refl
counts_same f g total a (suc n) e =
    ap (λ (d : Bool). fold (λ (y : ℕ) (x : ℕ). y + cond (f x) 1 0) (total + cond d 1 0)
    (range_with_len (a + 1) n)) (e a (omega arith))
    ∙ counts_same f g (total + cond (g a) 1 0) (a + 1) n (λ j h. e j (omega arith))

count_by-instances_same : (f g : ℕ → Bool) → ((j : ℕ) → j < instance_count → f j ≡ g j)
    → count_by f instances ≡ count_by g instances
unfolding numbers_below instances
count_by-instances_same f g e = counts_same f g 0 0 instance_count e

-- Learning no-op if a test holds is the same as learning it if the test holds and the slot is unlearned.
after_skip_either : (s : SlotState) (a : Bool) (o : Option Value) → s.learned ≡ o
    → cond a (after_learn s Noop) s ≡ cond (a && is_none s.learned) (after_learn s Noop) s
after_skip_either s false o e = refl
after_skip_either s true None e =
    ap (λ (x : Option Value). cond (is_none x) (after_learn s Noop) (after_learn s Noop)) (sym e)
    ∙ ap (λ (d : Bool). cond d (after_learn s Noop) (after_learn s Noop)) refl ∙ known
  where
    known : cond (is_none s.learned) (after_learn s Noop) (after_learn s Noop)
        ≡ cond (is_none s.learned) (after_learn s Noop) s
    known = ap (λ (x : Option Value). cond (is_none x) (after_learn s Noop) (after_learn s Noop)) e
        ∙ ap (λ (x : Option Value). cond (is_none x) (after_learn s Noop) s) (sym e)
after_skip_either s true (Some y) e =
    ap (λ (x : Option Value). cond (is_none x) (record s { learned = Some Noop }) s) e
    ∙ ap (λ (x : Option Value). cond (is_none x) (after_learn s Noop) s) (sym e)

after_skip_cond : (m : Membership) (q first stop j : ℕ) (x : SlotState) (o : Option Value) → x.learned ≡ o
    → slot_after_skip m q first stop j x
    ≡ cond (is_skipped m q first stop j && is_none x.learned) (after_learn x Noop) x
after_skip_cond m q first stop j x o e = after_skip_either x (is_skipped m q first stop j) o e

pub meets_skip : (m : Membership) (w : Trace) (k p q first stop : ℕ) → slice_get (sent_messages w) k
    ≡ Some (Skip q first stop)
    → Meets m w k p (Skip q first stop) (on_skip m w p q first stop)
meets_skip m w k p q first stop e = record {
  sends = unsent_noops p (filter (is_newly_skipped m w p q first stop) instances);
  learns =
      count_by-instances_same _ (is_newly_skipped m w p q first stop)
      (λ j small.
      ap (λ (x : SlotState). is_newly_skipped_slot m q first stop j x) (slot-server_at m w p j small))
      ∙ counts_noops p (is_newly_skipped m w p q first stop) instances;
  state = skipped_state _ (followed_by (Heard k p ∷ w) (on_skip m w p q first stop))
      (front_noops m p (filter (is_newly_skipped m w p q first stop) instances) (Heard k p ∷ w) ∙ omega arith)
      (map-instances_same _ (slot_at m (followed_by (Heard k p ∷ w) (on_skip m w p q first stop)) p) (new_slot m)
      (λ j small.
      ap (λ (x : SlotState). slot_after_skip m q first stop j x) (slot-server_at m w p j small)
      ∙ after_skip_cond m q first stop j (slot_at m w p j) (learned_value w p j) refl
      ∙ ap (λ (a : Bool). cond a (after_learn (slot_at m w p j) Noop) (slot_at m w p j))
      (sym (among (is_newly_skipped m w p q first stop) instances j
      ∙ ap (λ (a : Bool). is_newly_skipped m w p q first stop j && a) (is_instance j small)
      ∙ and-true (is_newly_skipped m w p q first stop j)))
      ∙ ap (λ (x : SlotState). cond
      (list_any (λ (i : ℕ). eqb i j) (filter (is_newly_skipped m w p q first stop) instances)) (after_learn x Noop) x)
      (sym (slot_at-heard m w k p j _ e (uncounted_skip q first stop j (tried_ballot w p j))))
      ∙ sym (learned_noops m p j (filter (is_newly_skipped m w p q first stop) instances) (Heard k p ∷ w))));
}
  where
    and-true : (a : Bool) → (a && true) ≡ a
    and-true true = refl
    and-true false = refl

    skipped_state : (xs : List SlotState) (v : Trace) → front m v p ≡ front m w p → xs ≡ map (slot_at m v p) instances
        → ◌≡◌ {A = ServerState} (record { members = m; id = p; front = front m w p; slots = xs }) (server_at m v p)
    skipped_state xs v ahead same = rw (← ahead, same)
