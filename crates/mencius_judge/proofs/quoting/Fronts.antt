-- The first commands of a history, after a further line, are those of the longest history before the line.
use Rattle.std.proofs.Common.{◌≡◌, ℕ, zero, suc, ◌<◌, ◌≤◌, Bool, true, false, cond, eqb, is_some, List, [], ◌∷◌, ◌++◌, Some, length, slice_get, take, arith, refl, sym, ap, ◌∙◌, length-append, length-take}
use Rattle.std.proofs.lemmas.List.{take-append-le}
use Rattle.mencius_base.specs.declared.command.CommandId.{CommandId}
use Rattle.mencius_model.specs.KeyMap.{value_at}
use Rattle.mencius_judge.specs.declared.histories.Row.{Row}
use Rattle.mencius_log.specs.declared.observation.Observation.{Observation}
use Rattle.mencius_log.specs.declared.observation.Observation.TheVariants.{Submit, Execute, Reply, Lookup, Tell, Settle, Restore}
use Rattle.mencius_judge.specs.declared.places.Places.{Places}
use Rattle.mencius_judge.specs.Log.{Log, command_of, commands_of, history}
use Rattle.mencius_judge.specs.Rows.{count_of}
use Rattle.mencius_judge.specs.Tables.{AreHistories, IsOrder}
use Rattle.mencius_judge.specs.Timelines.{held_by}
use Rattle.mencius_judge.proofs.observations.HistorySteps.{whole_get}
use Rattle.mencius_judge.proofs.promises.Floors.{take-less}
use Rattle.mencius_judge.proofs.promises.Logs.{commands-cons_known, kept_command, known}

-- ---- lists

pub taken_item : {A : Type 0} (n : ℕ) (xs : List A) (m : ℕ) → m < n → slice_get (take n xs) m ≡ slice_get xs m
taken_item zero xs m less = absurd (omega arith)
taken_item (suc n) [] m less = refl
taken_item (suc n) (x ∷ xs) zero less = refl
taken_item (suc n) (x ∷ xs) (suc m) less = taken_item n xs m (omega arith)

-- lists with the same first n items have the same first k items, for each lower k
pub fewer : {A : Type 0} (k n : ℕ) (xs ys : List A) → k ≤ n → take n xs ≡ take n ys → take k xs ≡ take k ys
fewer k n xs ys le e = sym (take-less k n xs le) ∙ ap (take k) e ∙ take-less k n ys le

-- ---- commands

-- each of the first n identities has a command
abbrev pub AreKnownTo : Log → List CommandId → ℕ → Type 0
AreKnownTo w ids n = (m : ℕ) (id : CommandId) → m < n → slice_get ids m ≡ Some id → is_some (command_of w id) ≡ true

pub front_commands : (w : Log) (ids : List CommandId) (n : ℕ) → AreKnownTo w ids n
    → take n (commands_of w ids) ≡ commands_of w (take n ids)
front_commands w ids zero h = refl
front_commands w [] (suc n) h = refl
front_commands w (id ∷ ids) (suc n) h =
    let there = known (command_of w id) (h 0 id (omega arith) refl) in
    ap (take (suc n)) (commands-cons_known w id there.0 ids there.1)
    ∙ ap (λ cs. there.0 ∷ cs) (front_commands w ids n (λ m x less e. h (suc m) x (omega arith) e))
    ∙ sym (commands-cons_known w id there.0 (take n ids) there.1)

-- a further line keeps the commands that are known
pub still_known : (w : Log) (o : Observation) (id : CommandId) → is_some (command_of w id) ≡ true
    → command_of (o ∷ w) id ≡ command_of w id
still_known w (Submit c) id h = kept_command w c id h
still_known w (Execute server x) id h = refl
still_known w (Reply x answer) id h = refl
still_known w (Lookup reader key text) id h = refl
still_known w (Tell reader server) id h = refl
still_known w (Settle server) id h = refl
still_known w (Restore server source count) id h = refl

pub still_commands : (w : Log) (o : Observation) (ids : List CommandId)
    → ((m : ℕ) (id : CommandId) → slice_get ids m ≡ Some id → is_some (command_of w id) ≡ true)
    → commands_of (o ∷ w) ids ≡ commands_of w ids
still_commands w o [] h = refl
still_commands w o (id ∷ ids) h =
    let there = known (command_of w id) (h 0 id refl) in
    commands-cons_known (o ∷ w) id there.0 ids (still_known w o id (h 0 id refl) ∙ there.1)
    ∙ ap (λ cs. there.0 ∷ cs) (still_commands w o ids (λ m x e. h (suc m) x e))
    ∙ sym (commands-cons_known w id there.0 ids there.1)

-- ---- histories

module _ (w : Log) (order : List CommandId) (places : Places) (rows : List Row) (h : AreHistories w order places rows)
  where
    -- the first k items of the list are those of the longest history
    abbrev Begins : List CommandId → ℕ → Type 0
    Begins ids k = (take k ids ≡ take k order) × (k ≤ length order)

    was : (p k : ℕ) → k ≤ length (history w p) → Begins (history w p) k
    was p k le =
        let few = h.within p in
        let size : length (history w p) ≡ count_of places rows p =
        ap length (h.each p) ∙ length-take (count_of places rows p) order ∙ omega (arith, few) in (
          ap (take k) (h.each p) ∙ take-less k (count_of places rows p) order (omega (arith, le, size)),
          omega (arith, le, size, few),
        )

    pub begins : (o : Observation) (p k : ℕ) → k < length (history (o ∷ w) p)
        → (take k (history (o ∷ w) p) ≡ take k order) × (k ≤ length order)
    begins (Submit c) p k less = was p k (omega arith)
    begins (Execute server x) p k less = by_test (eqb server p) less
      where
        by_test : (d : Bool) → k < length (cond d (history w p ++ x ∷ []) (history w p))
            → Begins (cond d (history w p ++ x ∷ []) (history w p)) k
        by_test true more =
            let size = length-append (history w p) (x ∷ []) in
            let le : k ≤ length (history w p) = omega (arith, more, size) in
            let r = was p k le in
            (take-append-le k (history w p) (x ∷ []) le ∙ r.0, r.1)
        by_test false more = was p k (omega (arith, more))
    begins (Reply x answer) p k less = was p k (omega arith)
    begins (Lookup reader key text) p k less = was p k (omega arith)
    begins (Tell reader server) p k less = was p k (omega arith)
    begins (Settle server) p k less = was p k (omega arith)
    begins (Restore server source count) p k less = by_test (eqb server p) less
      where
        by_test : (d : Bool) → k < length (cond d (take count (history w source)) (history w p))
            → Begins (cond d (take count (history w source)) (history w p)) k
        by_test true more =
            let size = length-take count (history w source) in
            let r = was source k (omega (arith, more, size)) in
            (take-less k count (history w source) (omega (arith, more, size)) ∙ r.0, r.1)
        by_test false more = was p k (omega (arith, more))

-- ---- texts

-- a history that begins like the longest one gives the same texts
pub same_held : (w : Log) (o : Observation) (order ids : List CommandId) (key : List ℕ) (n k : ℕ) → IsOrder w order
    → take n ids ≡ take n order → k ≤ n → held_by (commands_of (o ∷ w) ids) key k ≡ held_by (commands_of w order) key k
same_held w o order ids key n k facts same le =
    ap (value_at key)
    (front_commands (o ∷ w) ids k new_known
    ∙ ap (commands_of (o ∷ w)) (fewer k n ids order le same)
    ∙ still_commands w o (take k order) (λ m id e. facts.known m id (whole_get k order m id e))
    ∙ sym (front_commands w order k (λ m id less e. facts.known m id e)))
  where
    new_known : AreKnownTo (o ∷ w) ids k
    new_known m id less e =
        let there : slice_get order m ≡ Some id =
        sym (taken_item k order m less) ∙ ap (λ xs. slice_get xs m) (sym (fewer k n ids order le same))
        ∙ taken_item k ids m less ∙ e in
        let before = facts.known m id there in
        ap is_some (still_known w o id before) ∙ before
