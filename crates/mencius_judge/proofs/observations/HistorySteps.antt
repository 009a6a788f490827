-- An execution follows the longest history, extends it, or breaks a promise. A snapshot begins a history.
use Rattle.std.proofs.Common.{◌≡◌, ◌≢◌, ℕ, zero, suc, ◌+◌, ◌<◌, ◌≤◌, ◌==◌, Bool, true, false, cond, List, [], ◌∷◌, ◌++◌, MatchOption, Option, Some, None, length, slice_get, take, arith, refl, sym, subst, ap, ◌∙◌, ⊎_elim, length-append, length-take}
use Rattle.std.proofs.lemmas.Bool.{cases_eq, eq-eqb, eqb-true}
use Rattle.std.proofs.lemmas.List.{take_all, take_more}
use Rattle.std.proofs.lemmas.Option.{slice_get_within, get_or_from_slice_get}
use Rattle.mencius_base.specs.Numbers.{ServerId}
use Rattle.mencius_base.specs.declared.command.CommandId.{CommandId}
use Rattle.mencius_model.specs.Executed.{IsPrefix}
use Rattle.mencius_model.proofs.trace.Prefixes.{prefix_append, prefix_either, prefix_length, prefix_self, prefix_trans, take_begins}
use Rattle.mencius_model.proofs.replies.RepliesAfterEvents.{slice_get-append}
use Rattle.mencius_judge.specs.declared.histories.Row.{Row}
use Rattle.mencius_judge.specs.declared.histories.Snapshot.{Snapshot}
use Rattle.mencius_log.specs.declared.observation.Observation.TheVariants.{Submit, Execute, Reply, Lookup, Tell, Settle, Restore}
use Rattle.mencius_judge.specs.declared.places.Places.{Places}
use Rattle.mencius_judge.specs.Log.{Log, has_id, history, servers_of}
use Rattle.mencius_judge.specs.Promises.{AreComparable, StandOnce, WereRestored}
use Rattle.mencius_judge.specs.Rows.{IsAdded, IsAdvanced, IsFollowed, count_of, server_place}
use Rattle.mencius_judge.specs.Tables.{AreHistories, IsOrder}
use Rattle.mencius_judge.proofs.promises.Identities.{has_place}
use Rattle.mencius_judge.proofs.observations.RowSteps.{AreRows, IsOnce, added, advanced, counted, end_of, none_placed, rows_same, with_server_new, with_server_none, with_server_once, with_server_other, with_server_same}

-- ---- lists

-- an item of a prefix is at the same place of the whole list
pub whole_get : {A : Type 0} (n : ℕ) (xs : List A) (m : ℕ) (x : A) → slice_get (take n xs) m ≡ Some x → slice_get xs m ≡ Some x
whole_get zero xs m x h = absurd (cc)
whole_get (suc n) [] m x h = h
whole_get (suc n) (y ∷ xs) zero x h = h
whole_get (suc n) (y ∷ xs) (suc m) x h = whole_get n xs m x h

pub more_taken : {A : Type 0} (xs : List A) (n : ℕ) (x : A) → slice_get xs n ≡ Some x → take (n + 1) xs ≡ take n xs ++ x ∷ []
more_taken xs n x h =
    take_more xs n x (slice_get_within xs n x h)
    ∙ ap (λ y. take n xs ++ y ∷ []) (get_or_from_slice_get xs n x x h)

prefix_take : {A : Type 0} (xs ys : List A) → IsPrefix xs ys → xs ≡ take (length xs) ys
prefix_take [] ys h = refl
prefix_take (x ∷ xs) [] h = absurd (cc (h.1))
prefix_take (x ∷ xs) (y ∷ ys) h =
    let heads : x ≡ y = cc (h.1) in
    let tails : xs ≡ take (length xs) ys = prefix_take xs ys (h.0, cc (h.1)) in
    cc (heads, tails)

pub none_in : {A : Type 0} (xs : List A) → length xs ≡ 0 → xs ≡ []
none_in [] e = refl
none_in (x ∷ xs) e = absurd (omega (arith, e))

-- ---- what an observation does to a history

-- an execution extends the history of its server, and of no other server
own : (w : Log) (p : ServerId) (id : CommandId) → history (Execute p id ∷ w) p ≡ history w p ++ id ∷ []
own w p id = ap (λ d. cond d (history w p ++ id ∷ []) (history w p)) (eq-eqb p p refl)

differ : (p q : ServerId) → p ≢ q → (p == q) ≡ false
differ p q ne = by_test (p == q) refl
  where
    by_test : (d : Bool) → (p == q) ≡ d → d ≡ false
    by_test true e = absurd (ne (eqb-true p q e))
    by_test false e = refl

others : (w : Log) (p q : ServerId) (id : CommandId) → p ≢ q → history (Execute p id ∷ w) q ≡ history w q
others w p q id ne = ap (λ d. cond d (history w q ++ id ∷ []) (history w q)) (differ p q ne)

pub taken_over : (w : Log) (p q : ServerId) (count : ℕ) → history (Restore p q count ∷ w) p ≡ take count (history w q)
taken_over w p q count = ap (λ d. cond d (take count (history w q)) (history w p)) (eq-eqb p p refl)

pub not_taken_over : (w : Log) (p q : ServerId) (count : ℕ) (r : ServerId) → p ≢ r
    → history (Restore p q count ∷ w) r ≡ history w r
not_taken_over w p q count r ne = ap (λ d. cond d (take count (history w q)) (history w r)) (differ p r ne)

-- ---- the servers that have a history

pub servers_once : (w : Log) → IsOnce (servers_of w)
servers_once [] n m p e f = absurd (cc)
servers_once (Submit c ∷ w) n m p e f = servers_once w n m p e f
servers_once (Execute q id ∷ w) n m p e f = with_server_once (servers_of w) q (id ∷ []) (servers_once w) n m p e f
servers_once (Reply id answer ∷ w) n m p e f = servers_once w n m p e f
servers_once (Lookup reader key text ∷ w) n m p e f = servers_once w n m p e f
servers_once (Tell reader server ∷ w) n m p e f = servers_once w n m p e f
servers_once (Settle server ∷ w) n m p e f = servers_once w n m p e f
servers_once (Restore q s count ∷ w) n m p e f =
    with_server_once (servers_of w) q (take count (history w s)) (servers_once w) n m p e f

-- each server that is listed has a history
pub listed_some : (w : Log) → WereRestored w → (n : ℕ) (p : ServerId) → slice_get (servers_of w) n ≡ Some p → history w p ≢ []
listed_some [] h n p e none = cc
listed_some (Submit c ∷ w) h n p e none = listed_some w h n p e none
listed_some (Execute q id ∷ w) h n p e none = ⊎_elim
    (λ (same : q ≡ p).
    let size : length (history w p ++ id ∷ []) ≡ 0 =
    ap length (subst (λ (r : ServerId). history w p ++ id ∷ [] ≡ history (Execute r id ∷ w) p) (sym same) (sym (own w p id)) ∙ none) in
    omega (arith, size, length-append (history w p) (id ∷ [])))
    (λ (ne : q ≢ p). listed_some w h n p (with_server_other (servers_of w) q (id ∷ []) n p e ne) (sym (others w q p id ne) ∙ none))
    (cases_eq q p)
listed_some (Reply id answer ∷ w) h n p e none = listed_some w h n p e none
listed_some (Lookup reader key text ∷ w) h n p e none = listed_some w h n p e none
listed_some (Tell reader server ∷ w) h n p e none = listed_some w h n p e none
listed_some (Settle server ∷ w) h n p e none = listed_some w h n p e none
listed_some (Restore q s count ∷ w) h n p e none = ⊎_elim
    (λ (same : q ≡ p).
    let empty : take count (history w s) ≡ [] =
    subst (λ (r : ServerId). take count (history w s) ≡ history (Restore r s count ∷ w) p) (sym same) (sym (taken_over w p s count)) ∙ none in
    let listed : slice_get (servers_of w) n ≡ Some p =
    ap (λ ps. slice_get ps n) (sym (with_server_none (servers_of w) q (take count (history w s)) empty)) ∙ e in
    listed_some w h.2 n p listed (ap (history w) (sym same) ∙ h.0))
    (λ (ne : q ≢ p). listed_some w h.2 n p (with_server_other (servers_of w) q (take count (history w s)) n p e ne)
    (sym (not_taken_over w q s count p ne) ∙ none))
    (cases_eq q p)

-- ---- histories by rows

-- the number of commands that a server has
abbrev pub size_of : Log → ServerId → ℕ
size_of w p = length (history w p)

pub rows_are : (w : Log) (order : List CommandId) (places : Places) (rows : List Row) → AreHistories w order places rows
    → AreRows (size_of w) (servers_of w) places rows
rows_are w order places rows h = record {
  lengths = h.lengths;
  there = h.there;
  known = λ p ne. h.known p (λ e. ne (ap length e));
}

pub histories_are : (w : Log) (order : List CommandId) (places : Places) (rows : List Row)
    → ((p : ServerId) → IsPrefix (history w p) order) → (q : ServerId) → order ≡ history w q
    → AreRows (size_of w) (servers_of w) places rows → AreHistories w order places rows
histories_are w order places rows begins q whole h = record {
  each = λ p. prefix_take (history w p) order (begins p)
      ∙ ap (λ n. take n order) (sym (counted (size_of w) (servers_of w) places rows h p));
  within = λ p. omega (arith, counted (size_of w) (servers_of w) places rows h p, prefix_length (history w p) order (begins p));
  some = (q, whole);
  lengths = h.lengths;
  there = h.there;
  known = λ p ne. h.known p (λ z. ne (none_in (history w p) z));
}

module _ (w : Log) (order : List CommandId) (places : Places) (rows : List Row) (h : AreHistories w order places rows) where
  -- the count of a server is the length of its history
  pub size_is : (p : ServerId) → count_of places rows p ≡ length (history w p)
  size_is p = counted (size_of w) (servers_of w) places rows (rows_are w order places rows h) p

  pub begins : (p : ServerId) → IsPrefix (history w p) order
  begins p = subst (λ ids. IsPrefix ids order) (sym (h.each p)) (take_begins (count_of places rows p) order)

  -- ---- a further execution

  module _ (p : ServerId) (id : CommandId) where
    abbrev pub n : ℕ
    n = count_of places rows p

    -- the rows after an execution
    pub rows_executed : (line : ℕ) (new_places : Places) (new_rows : List Row) → WereRestored w
        → IsFollowed line p places rows new_places new_rows
        → AreRows (size_of (Execute p id ∷ w)) (servers_of (Execute p id ∷ w)) new_places new_rows
    rows_executed line new_places new_rows restored followed = by_place (server_place places p) refl followed
      where
        old : AreRows (size_of w) (servers_of w) places rows
        old = rows_are w order places rows h

        elsewhere : (q : ServerId) → p ≢ q → size_of (Execute p id ∷ w) q ≡ size_of w q
        elsewhere q ne = ap length (others w p q id ne)

        more : size_of (Execute p id ∷ w) p ≡ size_of w p + 1
        more = ap length (own w p id) ∙ length-append (history w p) (id ∷ [])

        by_place : (o : Option ℕ) → server_place places p ≡ o
            → MatchOption o (IsAdded p 1 None (line ∷ []) places rows new_places new_rows)
            (λ m. (new_places ≡ places) × IsAdvanced line m rows new_rows)
            → AreRows (size_of (Execute p id ∷ w)) (servers_of (Execute p id ∷ w)) new_places new_rows
        by_place None e a =
            let none : size_of w p ≡ 0 = none_placed (size_of w) (servers_of w) places rows old p e in
            let absent : (m : ℕ) → slice_get (servers_of w) m ≡ Some p → ⊥ =
            λ m g. listed_some w restored m p g (none_in (history w p) none) in
            subst (λ ps. AreRows (size_of (Execute p id ∷ w)) ps new_places new_rows)
            (sym (with_server_new (servers_of w) p (id ∷ []) (λ z. cc) absent))
            (added (size_of w) (servers_of w) places rows old (size_of (Execute p id ∷ w)) p elsewhere 1 None (line ∷ [])
            new_places new_rows absent a (omega (arith, more, none)))
        by_place (Some m) e a =
            subst (λ ps. AreRows (size_of (Execute p id ∷ w)) ps new_places new_rows)
            (sym (with_server_same (servers_of w) p (id ∷ []) m (h.there p m e)))
            (subst (λ ps. AreRows (size_of (Execute p id ∷ w)) (servers_of w) ps new_rows) (sym a.0)
            (advanced (size_of w) (servers_of w) places rows old (size_of (Execute p id ∷ w)) p elsewhere line m new_rows
            (servers_once w) e a.1 more))

    pub follows : (line : ℕ) (new_places : Places) (new_rows : List Row) → WereRestored w
        → IsFollowed line p places rows new_places new_rows → slice_get order n ≡ Some id
        → AreHistories (Execute p id ∷ w) order new_places new_rows
    follows line new_places new_rows restored followed there =
        histories_are (Execute p id ∷ w) order new_places new_rows each h.some.0 (h.some.1 ∙ sym (others w p h.some.0 id apart))
        (rows_executed line new_places new_rows restored followed)
      where
        within_n : n < length order
        within_n = slice_get_within order n id there

        each : (q : ServerId) → IsPrefix (history (Execute p id ∷ w) q) order
        each q = ⊎_elim
            (λ (e : p ≡ q). subst (λ (r : ServerId). IsPrefix (history (Execute p id ∷ w) r) order) e
            (subst (λ ids. IsPrefix ids order)
            (more_taken order n id there ∙ sym (own w p id ∙ ap (λ xs. xs ++ id ∷ []) (h.each p)))
            (take_begins (n + 1) order)))
            (λ (ne : p ≢ q). subst (λ ids. IsPrefix ids order) (sym (others w p q id ne)) (begins q))
            (cases_eq p q)

        apart : p ≢ h.some.0
        apart e =
            let whole : order ≡ take n order = h.some.1 ∙ ap (history w) (sym e) ∙ h.each p in
            let short = ap length whole in
            omega (arith, within_n, short, length-take n order)

    -- a server that executes a command at a new place then has the whole order and the command
    pub grown : n ≡ length order → history (Execute p id ∷ w) p ≡ order ++ id ∷ []
    grown last = own w p id ∙ ap (λ xs. xs ++ id ∷ []) (h.each p ∙ take_all n order (omega (arith, last)))

    pub leads : (line : ℕ) (new_places : Places) (new_rows : List Row) → WereRestored w
        → IsFollowed line p places rows new_places new_rows → n ≡ length order
        → AreHistories (Execute p id ∷ w) (order ++ id ∷ []) new_places new_rows
    leads line new_places new_rows restored followed last =
        histories_are (Execute p id ∷ w) (order ++ id ∷ []) new_places new_rows each p (sym (grown last))
        (rows_executed line new_places new_rows restored followed)
      where
        each : (q : ServerId) → IsPrefix (history (Execute p id ∷ w) q) (order ++ id ∷ [])
        each q = ⊎_elim
            (λ (e : p ≡ q). subst (λ (r : ServerId). IsPrefix (history (Execute p id ∷ w) r) (order ++ id ∷ [])) e
            (subst (λ ids. IsPrefix ids (order ++ id ∷ [])) (sym (grown last)) (prefix_self (order ++ id ∷ []))))
            (λ (ne : p ≢ q). subst (λ ids. IsPrefix ids (order ++ id ∷ [])) (sym (others w p q id ne))
            (prefix_trans (history w q) order (order ++ id ∷ []) (begins q) (prefix_append order (id ∷ []))))
            (cases_eq p q)

    -- an execution that differs from the order at its place breaks the promise SameOrder
    pub differs : (x : CommandId) → slice_get order n ≡ Some x → x ≢ id → AreComparable (Execute p id ∷ w) → ⊥
    differs x there ne comparable =
        ⊎_elim (λ (r : IsPrefix mine theirs). ne (sym (clash mine theirs r here at (omega (arith, long)))))
        (λ (r : IsPrefix theirs mine). ne (clash theirs mine r at here (omega (arith, within_n, size)))) (comparable p h.some.0)
      where
        within_n : n < length order
        within_n = slice_get_within order n x there

        short : length (take n order) ≡ n
        short = length-take n order ∙ omega (arith, within_n)

        mine : List CommandId
        mine = history (Execute p id ∷ w) p

        theirs : List CommandId
        theirs = history (Execute p id ∷ w) h.some.0

        own_is : mine ≡ take n order ++ id ∷ []
        own_is = own w p id ∙ ap (λ xs. xs ++ id ∷ []) (h.each p)

        apart : p ≢ h.some.0
        apart e =
            let whole : order ≡ take n order = h.some.1 ∙ ap (history w) (sym e) ∙ h.each p in
            let size = ap length whole in
            omega (arith, within_n, size, short)

        theirs_is : theirs ≡ order
        theirs_is = others w p h.some.0 id apart ∙ sym h.some.1

        here : slice_get mine n ≡ Some id
        here = ap (λ xs. slice_get xs n) own_is ∙ ap (slice_get (take n order ++ id ∷ [])) (sym short)
            ∙ end_of (take n order) id

        at : slice_get theirs n ≡ Some x
        at = ap (λ xs. slice_get xs n) theirs_is ∙ there

        long : length mine ≡ n + 1
        long = ap length own_is ∙ length-append (take n order) (id ∷ []) ∙ omega (arith, short)

        size : length theirs ≡ length order
        size = ap length theirs_is

        clash : (xs ys : List CommandId) → IsPrefix xs ys → {a b : CommandId} → slice_get xs n ≡ Some a
            → slice_get ys n ≡ Some b → n < length xs → a ≡ b
        clash xs ys r {a} {b} e f less =
            let g : slice_get ys n ≡ slice_get xs n = ap (λ zs. slice_get zs n) (sym r.1) ∙ slice_get-append xs r.0 n less in
            cc

    -- the execution of a command at a new place breaks the promise Once if the command is already in the order
    pub twice : n ≡ length order → has_id order id ≡ true → StandOnce (Execute p id ∷ w) → ⊥
    twice last inside once =
        let place = has_place order id inside in
        let first : slice_get (history (Execute p id ∷ w) p) place.0 ≡ Some id =
        ap (λ xs. slice_get xs place.0) (grown last) ∙ slice_get-append order (id ∷ []) place.0 place.1 ∙ place.2 in
        let second : slice_get (history (Execute p id ∷ w) p) (length order) ≡ Some id =
        ap (λ xs. slice_get xs (length order)) (grown last) ∙ end_of order id in
        let same = once p place.0 (length order) id first second in
        omega (arith, same, place.1)

  -- ---- a snapshot

  module _ (p q : ServerId) (count : ℕ) (empty : history w p ≡ []) where
    abbrev restored_size : ServerId → ℕ
    restored_size = size_of (Restore p q count ∷ w)

    restored_each : (r : ServerId) → IsPrefix (history (Restore p q count ∷ w) r) order
    restored_each r = ⊎_elim
        (λ (e : p ≡ r). subst (λ (s : ServerId). IsPrefix (history (Restore p q count ∷ w) s) order) e
        (subst (λ ids. IsPrefix ids order) (sym (taken_over w p q count))
        (prefix_trans (take count (history w q)) (history w q) order (take_begins count (history w q)) (begins q))))
        (λ (ne : p ≢ r). subst (λ ids. IsPrefix ids order) (sym (not_taken_over w p q count r ne)) (begins r))
        (cases_eq p r)

    -- the longest history stays the longest
    restored_whole : order ≡ history (Restore p q count ∷ w) h.some.0
    restored_whole = ⊎_elim
        (λ (e : p ≡ h.some.0).
        let none : order ≡ [] = h.some.1 ∙ ap (history w) (sym e) ∙ empty in
        let less = prefix_length (history (Restore p q count ∷ w) h.some.0) order (restored_each h.some.0) in
        none ∙ sym (none_in (history (Restore p q count ∷ w) h.some.0) (omega (arith, less, ap length none))))
        (λ (ne : p ≢ h.some.0). h.some.1 ∙ sym (not_taken_over w p q count h.some.0 ne))
        (cases_eq p h.some.0)

    pub restores : (snapshot : Option Snapshot) (new_places : Places) (new_rows : List Row) → WereRestored w
        → count ≤ length (history w q) → (count ≡ 0 → (new_places ≡ places) × (new_rows ≡ rows))
        → (count ≢ 0 → IsAdded p count snapshot [] places rows new_places new_rows)
        → AreHistories (Restore p q count ∷ w) order new_places new_rows
    restores snapshot new_places new_rows restored enough none some =
        histories_are (Restore p q count ∷ w) order new_places new_rows restored_each h.some.0 restored_whole
        (⊎_elim same_rows more_rows (cases_eq count 0))
      where
        old : AreRows (size_of w) (servers_of w) places rows
        old = rows_are w order places rows h

        elsewhere : (r : ServerId) → p ≢ r → restored_size r ≡ size_of w r
        elsewhere r ne = ap length (not_taken_over w p q count r ne)

        own_size : restored_size p ≡ count
        own_size = ap length (taken_over w p q count) ∙ length-take count (history w q) ∙ omega (arith, enough)

        same_rows : count ≡ 0 → AreRows restored_size (servers_of (Restore p q count ∷ w)) new_places new_rows
        same_rows zero_is =
            subst (λ ps. AreRows restored_size ps new_places new_rows)
            (sym (with_server_none (servers_of w) p (take count (history w q)) (ap (λ m. take m (history w q)) zero_is)))
            (subst (λ ps. AreRows restored_size (servers_of w) ps new_rows) (sym (none zero_is).0)
            (subst (λ rs. AreRows restored_size (servers_of w) places rs) (sym (none zero_is).1)
            (rows_same (size_of w) (servers_of w) places rows old restored_size (λ r. ⊎_elim
            (λ (e : p ≡ r). subst (λ (s : ServerId). restored_size s ≡ size_of w s) e
            (own_size ∙ zero_is ∙ sym (ap length empty)))
            (λ (ne : p ≢ r). elsewhere r ne)
            (cases_eq p r)))))

        more_rows : count ≢ 0 → AreRows restored_size (servers_of (Restore p q count ∷ w)) new_places new_rows
        more_rows ne =
            let absent : (m : ℕ) → slice_get (servers_of w) m ≡ Some p → ⊥ = λ m g. listed_some w restored m p g empty in
            subst (λ ps. AreRows restored_size ps new_places new_rows)
            (sym (with_server_new (servers_of w) p (take count (history w q))
            (λ z. ne (let size : length (take count (history w q)) ≡ 0 = ap length z in
            omega (arith, size, length-take count (history w q), enough))) absent))
            (added (size_of w) (servers_of w) places rows old restored_size p elsewhere count snapshot [] new_places new_rows
            absent (some ne) own_size)

-- the histories that the tables describe keep the promise SameOrder
pub comparable : (w : Log) (order : List CommandId) (places : Places) (rows : List Row) → AreHistories w order places rows
    → AreComparable w
comparable w order places rows h p q =
    prefix_either (history w p) (history w q) order (begins w order places rows h p) (begins w order places rows h q)

pub stand_once : (w : Log) (order : List CommandId) (places : Places) (rows : List Row) → AreHistories w order places rows
    → IsOrder w order → StandOnce w
stand_once w order places rows h facts p n m id e f =
    facts.once n m id (whole_get (count_of places rows p) order n id (ap (λ xs. slice_get xs n) (sym (h.each p)) ∙ e))
    (whole_get (count_of places rows p) order m id (ap (λ xs. slice_get xs m) (sym (h.each p)) ∙ f))
