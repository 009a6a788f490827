-- The linearizations of all keys, merged into one of the whole log.
use Rattle.std.proofs.Common.{◌≡◌, ◌≢◌, inl, inr, ℕ, ◌<◌, ◌≤◌, leb, ◌||◌, max, append-nil, Bool, true, false, List, [], ◌∷◌, ◌++◌, Some, is_some, arith, refl, sym, subst, ap, ◌∙◌}
use Rattle.std.specs.Str.{bytes_eq}
use Rattle.std.specs.List.{Contains, filter}
use Rattle.std.proofs.lemmas.Bool.{cases_Bool, leb-false, leb-true, or_cases, or_left, or_right}
use Rattle.std.proofs.lemmas.List.Elements.{filter-append}
use Rattle.std.proofs.lemmas.Slice.Eq.{bytes_eq-Decides}
use Rattle.mencius_base.specs.Command.{is_same_id}
use Rattle.mencius_base.specs.declared.command.Command.{Command}
use Rattle.mencius_base.specs.declared.command.CommandId.{CommandId}
use Rattle.mencius_model.specs.KeyMap.{key_of}
use Rattle.mencius_log.specs.declared.observation.Observation.{Observation}
use Rattle.mencius_log.specs.declared.observation.Observation.TheVariants.{Submit, Execute, Reply, Lookup, Tell, Settle, Restore}
use Rattle.mencius_judge.specs.Linearization.{IsLinearization}
use Rattle.mencius_judge.specs.Log.{Log, acknowledged, command_of, has_id}
use Rattle.mencius_judge.proofs.keys.TextMaps.{other_bytes, same_bytes}
use Rattle.mencius_judge.proofs.observations.OrderSteps.{split_at}
use Rattle.mencius_judge.proofs.promises.Identities.{same_id, same_id_eq}
use Rattle.mencius_judge.proofs.promises.Logs.{contains_cons, contains_none, command_found, known}
use Rattle.mencius_clients.specs.declared.timed_command.TimedCommand.{TimedCommand}
use Rattle.mencius_clients.specs.ClientCounts.{has_key}
use Rattle.mencius_clients.specs.Explained.{IsLinearizable}
use Rattle.mencius_clients.specs.KeyLogs.{is_of_key, is_on_key, log_of_key, order_of_key}
use Rattle.mencius_clients.specs.Locality.{IsLocal, IsTimed, acknowledged_at, ids_of, submitted_at}
use Rattle.mencius_clients.proofs.Lacking.{IsOnce, has_back, has_item, lacks}
use Rattle.mencius_clients.proofs.LocalityLogs.{before_if_earlier, before_kept, command_dropped, command_kept}
use Rattle.mencius_clients.proofs.LocalityOrders.{once_splits}
use Rattle.mencius_clients.proofs.LocalitySorting.{Each, IsSorted, each_all, each_append, filter_all, filter_ids, filter_none, kept_order, sorted_each, sorted_rising, sorted_sorted}
use Rattle.mencius_clients.specs.KeyOrders.{sorted}
use Rattle.mencius_clients.proofs.LocalityWhole.{by_moments, restricted}

-- ---- lists

not_in_front : (order front back : List CommandId) (x y : CommandId) → IsOnce order → order ≡ front ++ x ∷ back
    → has_id (x ∷ back) y ≡ true → has_id front y ≡ false
not_in_front order front back x y once e has =
    elim (or_cases (is_same_id x y) (has_id back y) has) [
      | inl same ↦ ap (has_id front) (sym (same_id_eq x y same)) ∙ once_splits order front back x once e
      | inr later ↦
          let s = split_at back y later in
          lacks order front (x ∷ s.0) s.1 y once (e ∙ ap (λ zs. front ++ x ∷ zs) s.2)
    ]

neither : (a b : Bool) → (a || b) ≡ false → (a ≡ false) × (b ≡ false)
neither true b h = absurd (cc)
neither false b h = (refl, h)

module _ (w : Log) where
  -- ---- moments along an order

  -- the moment of a command is the latest place at which it or a command before it was submitted
  abbrev timed : ℕ → List CommandId → List TimedCommand
  timed m [] = []
  timed m (x ∷ xs) = record { moment = max m (submitted_at w x); id = x } ∷ timed (max m (submitted_at w x)) xs

  timed_ids : (m : ℕ) (xs : List CommandId) → ids_of (timed m xs) ≡ xs
  timed_ids m [] = refl
  timed_ids m (x ∷ xs) = ap (λ ys. x ∷ ys) (timed_ids (max m (submitted_at w x)) xs)

  timed_late : (n m : ℕ) (xs : List CommandId) → n ≤ m → Each (λ c. n ≤ c.moment) (timed m xs)
  timed_late n m [] less = tt
  timed_late n m (x ∷ xs) less =
      let more : n ≤ max m (submitted_at w x) = omega (arith, less) in
      (more, timed_late n (max m (submitted_at w x)) xs more)

  timed_sorted : (m : ℕ) (xs : List CommandId) → IsSorted (timed m xs)
  timed_sorted m [] = tt
  timed_sorted m (x ∷ xs) =
      let n : ℕ = max m (submitted_at w x) in (timed_late n n xs (omega arith), timed_sorted n xs)

  timed_each : (P : CommandId → Type 0) (m : ℕ) (xs : List CommandId) → ((x : CommandId) → has_id xs x ≡ true → P x)
      → Each (λ c. P c.id) (timed m xs)
  timed_each P m [] h = tt
  timed_each P m (x ∷ xs) h = (
    h x (or_left (is_same_id x x) (has_id xs x) (same_id x)),
    timed_each P (max m (submitted_at w x)) xs (λ y has. h y (or_right (is_same_id x y) (has_id xs y) has)),
  )

  -- no acknowledged command of the order has its reply before this place
  abbrev AreLater : ℕ → List CommandId → Type 0
  AreLater m xs = (y : CommandId) → has_id xs y ≡ true → has_id (acknowledged w) y ≡ true → m ≤ acknowledged_at w y

  -- nor before the submission of a command that stands before it
  abbrev AreInTime : List CommandId → Type 0
  AreInTime xs =
      (front back : List CommandId) (x y : CommandId) → xs ≡ front ++ x ∷ back → has_id (x ∷ back) y ≡ true
      → has_id (acknowledged w) y ≡ true → submitted_at w x ≤ acknowledged_at w y

  timed_right : (m : ℕ) (xs : List CommandId) → AreLater m xs → AreInTime xs → Each (IsTimed w) (timed m xs)
  timed_right m [] later in_time = tt
  timed_right m (x ∷ xs) later in_time =
      let itself = or_left (is_same_id x x) (has_id xs x) (same_id x) in (
        record {
          after = omega arith;
          before = λ acked.
              let a = later x itself acked in
              let b = in_time [] xs x x refl itself acked in
              omega arith;
        },
        timed_right (max m (submitted_at w x)) xs
            (λ y has acked.
            let there = or_right (is_same_id x y) (has_id xs y) has in
            let a = later y there acked in
            let b = in_time [] xs x y refl there acked in
            omega arith)
            (λ front back z y e has acked. in_time (x ∷ front) back z y (ap (λ ys. x ∷ ys) e) has acked),
      )

  -- ---- the linearization of a key

  module _ (key : List ℕ) (order : List CommandId) (lin : IsLinearization (log_of_key w key) order) where
    abbrev own : CommandId → Bool
    own id = is_of_key w key id

    all_own : (id : CommandId) → has_id order id ≡ true → own id ≡ true
    all_own id has =
        elim (cases_Bool (own id)) [
          | inl e ↦ e
          | inr e ↦
              let there = lin.submitted id has in
              let none = ap is_some (command_dropped own w id e) in
              cc
        ]

    all_known : (id : CommandId) → has_id order id ≡ true → is_some (command_of w id) ≡ true
    all_known id has = ap is_some (sym (command_kept own w id (all_own id has))) ∙ lin.submitted id has

    all_key : (id : CommandId) → has_id order id ≡ true
        → (c : Command) × (command_of w id ≡ Some c) × (key_of c.op ≡ key)
    all_key id has =
        let c = known (command_of w id) (all_known id has) in
        (c.0, c.1, (bytes_eq-Decides (key_of c.0.op) key).0 (sym (ap (is_on_key key) c.1) ∙ all_own id has))

    in_time : AreInTime order
    in_time front back x y e has acked =
        elim (cases_Bool (leb (submitted_at w x) (acknowledged_at w y))) [
          | inl d ↦ leb-true (submitted_at w x) (acknowledged_at w y) d
          | inr d ↦ absurd (too_early (leb-false (submitted_at w x) (acknowledged_at w y) d))
        ]
      where
        too_early : acknowledged_at w y < submitted_at w x → ⊥
        too_early less =
            let has_x = has_item order front back x e in
            let has_y = ap (λ ids. has_id ids y) e ∙ has_back front (x ∷ back) y has in
            let there = all_known x has_x in
            let before = before_kept own w x y (all_own x has_x) (all_own y has_y) there
            ∙ before_if_earlier w x y there (acked, less) in
            let in_front = lin.real_time front back x y e before in
            let lacking = not_in_front order front back x y lin.once e has in
            cc

    pub key_timed : Each (IsTimed w) (timed 0 order)
    key_timed = timed_right 0 order (λ y has acked. omega arith) in_time

  -- ---- all keys

  module _ (orders : List ℕ → List CommandId) (lins : (key : List ℕ) → IsLinearization (log_of_key w key) (orders key)) where
    abbrev is_own : List ℕ → TimedCommand → Bool
    is_own key c = is_of_key w key c.id

    abbrev of_key : List ℕ → List TimedCommand
    of_key key = timed 0 (orders key)

    own_all : (key : List ℕ) → filter (is_own key) (of_key key) ≡ of_key key
    own_all key =
        filter_all (is_own key) (of_key key)
        (timed_each (λ id. is_of_key w key id ≡ true) 0 (orders key) (all_own key (orders key) (lins key)))

    other_none : (key other : List ℕ) → other ≢ key → filter (is_own key) (of_key other) ≡ []
    other_none key other ne =
        filter_none (is_own key) (of_key other)
        (timed_each (λ id. is_of_key w key id ≡ false) 0 (orders other)
        (λ id has.
        let c = all_key other (orders other) (lins other) id has in
        ap (is_on_key key) c.1
        ∙ other_bytes (key_of c.0.op) key (λ (same : key ≡ key_of c.0.op). ne (sym (same ∙ c.2)))))

    -- the commands are those of the keys of a part of the log
    record AreGathered (v : Log) (cs : List TimedCommand) : Type 0 where
      right : Each (IsTimed w) cs
      here : (key : List ℕ) → has_key v key ≡ true → filter (is_own key) cs ≡ of_key key
      elsewhere : (key : List ℕ) → has_key v key ≡ false → filter (is_own key) cs ≡ []

    another_line : (u v : Log) → ((key : List ℕ) → has_key u key ≡ has_key v key)
        → (cs : List TimedCommand) × AreGathered v cs → (cs : List TimedCommand) × AreGathered u cs
    another_line u v same r = (
      r.0,
      record {
        right = r.1.right;
        here = λ key h. r.1.here key (sym (same key) ∙ h);
        elsewhere = λ key h. r.1.elsewhere key (sym (same key) ∙ h);
      },
    )

    -- a line submits a further command of a key
    known_key : (c : Command) (v : Log) → has_key v (key_of c.op) ≡ true
        → (cs : List TimedCommand) × AreGathered v cs → (cs : List TimedCommand) × AreGathered (Submit c ∷ v) cs
    known_key c v there r = (
      r.0,
      record {
        right = r.1.right;
        here = λ key h.
            elim (or_cases (bytes_eq (key_of c.op) key) (has_key v key) h) [
              | inl e ↦
                  r.1.here key (ap (has_key v) (sym ((bytes_eq-Decides (key_of c.op) key).0 e)) ∙ there)
              | inr later ↦ r.1.here key later
            ];
        elsewhere = λ key h. r.1.elsewhere key (neither (bytes_eq (key_of c.op) key) (has_key v key) h).1;
      },
    )

    -- a line submits the first command of a key
    new_key : (c : Command) (v : Log) → has_key v (key_of c.op) ≡ false
        → (cs : List TimedCommand) × AreGathered v cs → (cs : List TimedCommand) × AreGathered (Submit c ∷ v) cs
    new_key c v none r = (
      of_key first ++ r.0,
      record {
        right = each_append (IsTimed w) (of_key first) r.0 (key_timed first (orders first) (lins first)) r.1.right;
        here = λ key h.
            elim (cases_Bool (bytes_eq first key)) [
              | inl e ↦
                  subst (λ k. filter (is_own k) (of_key first ++ r.0) ≡ of_key k) ((bytes_eq-Decides first key).0 e)
                  (filter-append (is_own first) (of_key first) r.0
                  ∙ ap (λ cs. cs ++ filter (is_own first) r.0) (own_all first)
                  ∙ ap (λ cs. of_key first ++ cs) (r.1.elsewhere first none) ∙ append-nil (of_key first))
              | inr e ↦
                  filter-append (is_own key) (of_key first) r.0
                  ∙ ap (λ cs. cs ++ filter (is_own key) r.0) (other_none key first (differ key e))
                  ∙ r.1.here key (sym (ap (λ d. d || has_key v key) e) ∙ h)
            ];
        elsewhere = λ key h.
            let no_key = neither (bytes_eq first key) (has_key v key) h in
            filter-append (is_own key) (of_key first) r.0
            ∙ ap (λ cs. cs ++ filter (is_own key) r.0) (other_none key first (differ key no_key.0))
            ∙ r.1.elsewhere key no_key.1;
      },
    )
      where
        first : List ℕ
        first = key_of c.op

        differ : (key : List ℕ) → bytes_eq first key ≡ false → first ≢ key
        differ key e same = let own_key = (bytes_eq-Decides first key).1 same in cc

    gather : (v : Log) → (cs : List TimedCommand) × AreGathered v cs
    gather [] = ([], record { right = tt; here = λ key h. absurd (cc); elsewhere = λ key h. refl })
    gather (Submit c ∷ v) =
        let r = gather v in
        elim (cases_Bool (has_key v (key_of c.op))) [ inl e ↦ known_key c v e r | inr e ↦ new_key c v e r ]
    gather (Execute s x ∷ v) = another_line (Execute s x ∷ v) v (λ key. refl) (gather v)
    gather (Reply x a ∷ v) = another_line (Reply x a ∷ v) v (λ key. refl) (gather v)
    gather (Lookup r k x ∷ v) = another_line (Lookup r k x ∷ v) v (λ key. refl) (gather v)
    gather (Tell r s ∷ v) = another_line (Tell r s ∷ v) v (λ key. refl) (gather v)
    gather (Settle s ∷ v) = another_line (Settle s ∷ v) v (λ key. refl) (gather v)
    gather (Restore s q n ∷ v) = another_line (Restore s q n ∷ v) v (λ key. refl) (gather v)

    submission_more : (o : Observation) (v : Log) (key : List ℕ) → has_key v key ≡ true
        → has_key (o ∷ v) key ≡ true
    submission_more (Submit c) v key h = or_right (bytes_eq (key_of c.op) key) (has_key v key) h
    submission_more (Execute s x) v key h = h
    submission_more (Reply x a) v key h = h
    submission_more (Lookup r k x) v key h = h
    submission_more (Tell r s) v key h = h
    submission_more (Settle s) v key h = h
    submission_more (Restore s q n) v key h = h

    submission_there : (v : Log) (c : Command) → Contains v (Submit c) → has_key v (key_of c.op) ≡ true
    submission_there [] c there = absurd (contains_none (Submit c) there)
    submission_there (o ∷ v) c there =
        elim (contains_cons o v (Submit c) there) [
          | inl e ↦
              subst (λ (x : Observation). has_key (x ∷ v) (key_of c.op) ≡ true) (sym e)
              (or_left (bytes_eq (key_of c.op) (key_of c.op)) (has_key v (key_of c.op)) (same_bytes (key_of c.op)))
          | inr later ↦ submission_more o v (key_of c.op) (submission_there v c later)
        ]

    -- a key without a command has no order
    no_order : (key : List ℕ) → has_key w key ≡ false → orders key ≡ []
    no_order key none = by_list (orders key) (λ x has. all_key key (orders key) (lins key) x has)
      where
        by_list : (xs : List CommandId)
            → ((x : CommandId) → has_id xs x ≡ true → (c : Command) × (command_of w x ≡ Some c) × (key_of c.op ≡ key))
            → xs ≡ []
        by_list [] h = refl
        by_list (x ∷ xs) h =
            let c = h x (or_left (is_same_id x x) (has_id xs x) (same_id x)) in
            let there = submission_there w c.0 (command_found w x c.0 c.1).0 in
            let again = ap (has_key w) (sym c.2) ∙ there in
            absurd (cc)

    each_order : (key : List ℕ) → filter (is_own key) (gather w).0 ≡ of_key key
    each_order key =
        let g = gather w in
        elim (cases_Bool (has_key w key)) [
          | inl e ↦ g.1.here key e
          | inr e ↦ g.1.elsewhere key e ∙ sym (ap (timed 0) (no_order key e))
        ]

    kept : (key : List ℕ) → order_of_key w key (ids_of (sorted (gather w).0)) ≡ orders key
    kept key =
        filter_ids (is_of_key w key) (sorted (gather w).0)
        ∙ ap ids_of (kept_order (is_own key) (gather w).0 (subst IsSorted (sym (each_order key)) (timed_sorted 0 (orders key))))
        ∙ ap ids_of (each_order key) ∙ timed_ids 0 (orders key)

    pub merged_all : IsLinearizable w
    merged_all =
        let cs : List TimedCommand = sorted (gather w).0 in (
          ids_of cs,
          by_moments w cs (sorted_rising cs (sorted_sorted (gather w).0))
              (each_all (IsTimed w) cs (sorted_each (IsTimed w) (gather w).0 (gather w).1.right))
              (λ key. subst (λ ids. IsLinearization (log_of_key w key) ids) (sym (kept key)) (lins key)),
        )

pub local : IsLocal
local w = (
  λ lin key. (order_of_key w key lin.0, restricted w key lin.0 lin.1),
  λ parts. merged_all w (λ key. (parts key).0) (λ key. (parts key).1),
)
