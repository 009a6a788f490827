-- The floor of a reader is the lowest number of commands that the reader may have seen.
use Rattle.std.proofs.Common.{◌≡◌, ◌≢◌, ◌⊎◌, ℕ, zero, suc, ◌<◌, ◌≤◌, ◌==◌, Bool, true, false, List, [], ◌∷◌, Option, Some, is_some, length, slice_get, take, arith, refl, sym, subst, ap, ◌∙◌, ⊎_elim}
use Rattle.std.specs.Prelude.{MatchBool, max, unwrap_or}
use Rattle.std.specs.Ordering.{nat_cmp}
use Rattle.std.specs.BTreeMap.{BTreeMap, Updates}
use Rattle.std.proofs.lemmas.Bool.{cases_eq, eq-eqb, eqb-true}
use Rattle.std.proofs.lemmas.List.{length-take}
use Rattle.mencius_base.specs.declared.command.Command.{Command}
use Rattle.mencius_base.specs.declared.command.CommandId.{CommandId}
use Rattle.mencius_model.specs.KeyMap.{value_at}
use Rattle.mencius_log.specs.declared.observation.Observation.TheVariants.{Lookup, Tell}
use Rattle.mencius_judge.specs.Log.{Log, MaySee, command_of, commands_of, history}
use Rattle.mencius_judge.specs.Promises.{AreRightLookups}
use Rattle.mencius_judge.specs.Rows.{count_of}
use Rattle.mencius_judge.specs.declared.histories.Row.{Row}
use Rattle.mencius_judge.specs.declared.places.Places.{Places}
use Rattle.mencius_judge.specs.Tables.{AreFloors, AreHistories, IsOrder, floor_of}
use Rattle.mencius_judge.specs.Timelines.{HasNone, IsFirstCount, held_by}
use Rattle.mencius_judge.specs.Violations.{IsNowhere}
use Rattle.mencius_judge.proofs.promises.Identities.{get_other}
use Rattle.mencius_judge.proofs.promises.Logs.{commands-cons_known, known}

-- ---- prefixes of the longest history

-- if all identities have a command, the commands of a prefix are a prefix of the commands
pub commands-take : (w : Log) (ids : List CommandId) (n : ℕ)
    → ((m : ℕ) (id : CommandId) → slice_get ids m ≡ Some id → is_some (command_of w id) ≡ true)
    → commands_of w (take n ids) ≡ take n (commands_of w ids)
commands-take w ids zero h = refl
commands-take w [] (suc n) h = refl
commands-take w (id ∷ ids) (suc n) h =
    let there = known (command_of w id) (h 0 id refl) in
    commands-cons_known w id there.0 (take n ids) there.1
    ∙ ap (λ cs. there.0 ∷ cs) (commands-take w ids n (λ m x e. h (suc m) x e))
    ∙ ap (take (suc n)) (sym (commands-cons_known w id there.0 ids there.1))

pub commands-length : (w : Log) (ids : List CommandId)
    → ((m : ℕ) (id : CommandId) → slice_get ids m ≡ Some id → is_some (command_of w id) ≡ true)
    → length (commands_of w ids) ≡ length ids
commands-length w [] h = refl
commands-length w (id ∷ ids) h =
    let there = known (command_of w id) (h 0 id refl) in
    ap length (commands-cons_known w id there.0 ids there.1)
    ∙ ap suc (commands-length w ids (λ m x e. h (suc m) x e))

pub take-less : {A : Type 0} (n m : ℕ) (xs : List A) → n ≤ m → take n (take m xs) ≡ take n xs
take-less zero m xs h = refl
take-less (suc n) zero xs h = absurd (omega arith)
take-less (suc n) (suc m) [] h = refl
take-less (suc n) (suc m) (x ∷ xs) h = ap (λ ys. x ∷ ys) (take-less n m xs (omega arith))

-- ---- floors

floor_here : (floors new : BTreeMap ℕ ℕ) (r n : ℕ) → Updates nat_cmp floors new r (Some n) → floor_of new r ≡ n
floor_here floors new r n h = ap (λ o. unwrap_or o 0) h.1

floor_there : (floors new : BTreeMap ℕ ℕ) (r n q : ℕ) → Updates nat_cmp floors new r (Some n) → r ≢ q
    → floor_of new q ≡ floor_of floors q
floor_there floors new r n q h ne = ap (λ o. unwrap_or o 0) (get_other floors new r q (Some n) h ne)

differ : (r q : ℕ) → r ≢ q → (r == q) ≡ false
differ r q ne = by_test (r == q) refl
  where
    by_test : (d : Bool) → (r == q) ≡ d → d ≡ false
    by_test true e = absurd (ne (eqb-true r q e))
    by_test false e = refl

pick : (P Q : Type 0) (d : Bool) → d ≡ true → P → MatchBool d P Q
pick P Q true e p = p
pick P Q false e p = absurd (cc)

pass : (P Q : Type 0) (d : Bool) → d ≡ false → Q → MatchBool d P Q
pass P Q true e q = absurd (cc)
pass P Q false e q = q

picked : (P Q : Type 0) (d : Bool) → d ≡ true → MatchBool d P Q → P
picked P Q true e h = h
picked P Q false e h = absurd (cc)

passed : (P Q : Type 0) (d : Bool) → d ≡ false → MatchBool d P Q → Q
passed P Q true e h = absurd (cc)
passed P Q false e h = h

max_more : (a b n : ℕ) → a ≤ b → max a n ≤ max b n
max_more a b n h = omega arith

pub floors_tell : (w : Log) (r server : ℕ) (floors new : BTreeMap ℕ ℕ) (n : ℕ) → AreFloors w floors
    → n ≡ max (floor_of floors r) (length (history w server)) → Updates nat_cmp floors new r (Some n)
    → AreFloors (Tell r server ∷ w) new
floors_tell w r server floors new n h is updates = record {
  seen = λ q. ⊎_elim
      (λ (e : r ≡ q). subst (λ (a : ℕ). MaySee (Tell r server ∷ w) a (floor_of new a)) e
      (pick _ _ (r == r) (eq-eqb r r refl)
      (floor_of floors r, h.seen r, floor_here floors new r n updates ∙ is)))
      (λ (ne : r ≢ q). pass _ _ (r == q) (differ r q ne)
      (subst (MaySee w q) (sym (floor_there floors new r n q updates ne)) (h.seen q)))
      (cases_eq r q);
  least = λ q k may. ⊎_elim
      (λ (e : r ≡ q).
      let g = picked _ _ (r == q) (eq-eqb r q e) may in
      let low : floor_of floors q ≤ g.0 = h.least q g.0 g.1 in
      let here : floor_of new q ≡ n = ap (floor_of new) (sym e) ∙ floor_here floors new r n updates in
      let old : floor_of floors r ≡ floor_of floors q = ap (floor_of floors) e in
      let more : max (floor_of floors r) (length (history w server)) ≤ max g.0 (length (history w server)) =
      max_more (floor_of floors r) g.0 (length (history w server)) (omega (arith, low, old)) in
      omega (arith, here, is, more, g.2))
      (λ (ne : r ≢ q). let low = h.least q k (passed _ _ (r == q) (differ r q ne) may) in
      let same = floor_there floors new r n q updates ne in omega (arith, low, same))
      (cases_eq r q);
}

module _ (w : Log) (order : List CommandId) (places : Places) (rows : List Row) (commands : List Command)
    (histories : AreHistories w order places rows) (facts : IsOrder w order) (listed : commands ≡ commands_of w order) where
  -- the commands of a prefix of a history are a prefix of the longest history's commands
  view : (p n : ℕ) → n ≤ length (history w p) → commands_of w (take n (history w p)) ≡ take n commands
  view p n le =
      let size : length (history w p) ≤ count_of places rows p =
      (let s = ap length (histories.each p) in omega (arith, s, length-take (count_of places rows p) order)) in
      ap (commands_of w) (ap (take n) (histories.each p) ∙ take-less n (count_of places rows p) order (omega (arith, le, size)))
      ∙ commands-take w order n facts.known ∙ ap (take n) (sym listed)

  long : length commands ≡ length order
  long = ap length listed ∙ commands-length w order facts.known

  within : (p n : ℕ) → n ≤ length (history w p) → n ≤ length commands
  within p n le =
      let s = ap length (histories.each p) in
      omega (arith, s, le, long, length-take (count_of places rows p) order)

  pub floors_lookup : (r : ℕ) (key : List ℕ) (text : Option (List ℕ)) (floors new : BTreeMap ℕ ℕ) (n : ℕ)
      → AreFloors w floors → IsFirstCount (held_by commands key) text (floor_of floors r) (length order) n → Updates nat_cmp floors new r (Some n)
      → AreFloors (Lookup r key text ∷ w) new
  floors_lookup r key text floors new n h is updates = record {
    seen = λ q. ⊎_elim
        (λ (e : r ≡ q). subst (λ (a : ℕ). MaySee (Lookup r key text ∷ w) a (floor_of new a)) e
        (subst (MaySee (Lookup r key text ∷ w) r) (sym (floor_here floors new r n updates))
        (pick _ _ (r == r) (eq-eqb r r refl)
        (let whole = histories.some.0 in
        let size : n ≤ length (history w whole) =
        (let s = ap length histories.some.1 in omega (arith, s, is.within)) in (
          floor_of floors r,
          h.seen r,
          is.later,
          whole,
          size,
          sym is.holds ∙ ap (value_at key) (sym (view whole n size)),
        )))))
        (λ (ne : r ≢ q). pass _ _ (r == q) (differ r q ne)
        (subst (MaySee w q) (sym (floor_there floors new r n q updates ne)) (h.seen q)))
        (cases_eq r q);
    least = λ q k may. ⊎_elim
        (λ (e : r ≡ q).
        let g = picked _ _ (r == q) (eq-eqb r q e) may in
        let low : floor_of floors q ≤ g.0 = h.least q g.0 g.1 in
        let here : floor_of new q ≡ n = ap (floor_of new) (sym e) ∙ floor_here floors new r n updates in
        let old : floor_of floors r ≡ floor_of floors q = ap (floor_of floors) e in
        let holds : value_at key (take k commands) ≡ text = ap (value_at key) (sym (view g.3 k g.4)) ∙ sym g.5 in
        at_least k q here (omega (arith, low, old, g.2)) holds)
        (λ (ne : r ≢ q). let low = h.least q k (passed _ _ (r == q) (differ r q ne) may) in
        let same = floor_there floors new r n q updates ne in omega (arith, low, same))
        (cases_eq r q);
  }
    where
      at_least : (k q : ℕ) → floor_of new q ≡ n → floor_of floors r ≤ k → value_at key (take k commands) ≡ text
          → floor_of new q ≤ k
      at_least k q here le holds = ⊎_elim (λ (less : k < n). absurd (is.least k le less holds))
          (λ (more : n ≤ k). omega (arith, here, more)) (less_or k n)
        where
          less_or : (a b : ℕ) → (a < b) ⊎ (b ≤ a)
          less_or a b = grind arith

  module _ (r : ℕ) (key : List ℕ) (text : Option (List ℕ)) (floors : BTreeMap ℕ ℕ) (h : AreFloors w floors) (to : ℕ)
      (size : to ≡ length order) (none : HasNone (held_by commands key) text (floor_of floors r) to) where
    pub wrong_lookup : AreRightLookups (Lookup r key text ∷ w) → ⊥
    wrong_lookup right =
        let now = right r in
        let g = picked _ _ (r == r) (eq-eqb r r refl) now.1 in
        let low : floor_of floors r ≤ g.0 = h.least r g.0 g.1 in
        none now.0 (omega (arith, low, g.2)) (omega (arith, size, long, within g.3 now.0 g.4))
        (ap (value_at key) (sym (view g.3 now.0 g.4)) ∙ sym g.5)

    pub nowhere : IsNowhere w key text (floor_of floors r) to
    nowhere =
        let whole = histories.some.0 in
        let same : length order ≡ length (history w whole) = ap length histories.some.1 in
        record {
          server = whole;
          size = size ∙ same;
          longest = λ q. omega (arith, size, long, within q (length (history w q)) (omega arith));
          other = λ n low high is.
              none n low high (ap (value_at key) (sym (view whole n (omega (arith, high, size, same)))) ∙ is);
        }
