-- The commands of all keys that a search has, sorted by moments.
use Rattle.std.proofs.Common.{◌≡◌, ◌≢◌, inl, inr, ℕ, zero, suc, ◌<◌, ◌≤◌, Bool, true, false, cond, List, [], ◌∷◌, ◌++◌, Option, Some, None, Global, String, is_some, length, reverse, slice_get, string_bytes, arith, refl, sym, subst, ap, ◌∙◌, append-nil}
use Rattle.std.specs.List.{filter}
use Rattle.std.specs.List.Sorted.{IsStrictlySortedBy}
use Rattle.std.specs.Map.{keys_of, lookup, values_of}
use Rattle.std.specs.BTreeMap.{BTreeMap, IsOrdered, get_by_text, is_at, values}
use Rattle.std.specs.Ordering.{nat_cmp}
use Rattle.std.specs.Cmp.Lexicographic.{slice_cmp}
use Rattle.std.specs.String.{string_cmp, string_cmp_total}
use Rattle.std.proofs.lemmas.Bool.{cases_Bool}
use Rattle.std.proofs.lemmas.Cmp.{eq_by_cmp_equiv}
use Rattle.std.proofs.lemmas.List.Elements.{filter-append}
use Rattle.std.proofs.lemmas.Map.{lookup-none}
use Rattle.std.proofs.lemmas.Map.Entries.{btree_map_get_place, none_past_head}
use Rattle.std.proofs.lemmas.Map.Keys.{IsDistinct-from_sorted}
use Rattle.std.proofs.lemmas.Map.Text.{is_eq-slice_cmp}
use Rattle.std.proofs.lemmas.Slice.Eq.{bytes_eq-Decides}
use Rattle.mencius_base.specs.declared.command.CommandId.{CommandId}
use Rattle.mencius_model.specs.KeyMap.{key_of}
use Rattle.mencius_log.specs.declared.observation.Observation.{Observation}
use Rattle.mencius_judge.specs.Linearization.{IsLinearization}
use Rattle.mencius_judge.specs.Log.{Log, acknowledged, command_of, has_id}
use Rattle.mencius_judge.proofs.keys.TextMaps.{other_bytes}
use Rattle.mencius_clients.specs.declared.key_search.KeySearch.{KeySearch}
use Rattle.mencius_clients.specs.declared.search.Search.{Search}
use Rattle.mencius_clients.specs.declared.steps.Step.{Step}
use Rattle.mencius_clients.specs.declared.timed_command.TimedCommand.{TimedCommand}
use Rattle.mencius_clients.specs.KeyOrders.{AreSteps, HasKeyOrder, HaveKeyOrders, IsKeyOrder, after_step, gathered, last_step, lines_back, lines_of, step_of, timed_lines}
use Rattle.mencius_clients.specs.KeyLogs.{is_of_key, is_on_key, log_of_key, order_of_key}
use Rattle.mencius_clients.specs.Locality.{IsTimed, ids_of}
use Rattle.mencius_clients.proofs.KeyOrderRight.{IsOwn, all_own, all_timed, key_linearizes, lines_sorted}
use Rattle.mencius_clients.proofs.LocalitySorting.{Each, IsSorted, each_all, each_append, each_more, filter_all, filter_ids, filter_none, kept_order, sorted_each, sorted_rising, sorted_sorted}
use Rattle.mencius_clients.specs.KeyOrders.{sorted}
use Rattle.mencius_clients.proofs.LocalityWhole.{by_moments}

-- ---- the lines of a trail

get_within : {A : Type 0} (xs : List A) (n : ℕ) (x : A) → slice_get xs n ≡ Some x → n < length xs
get_within [] n x e = absurd (cc)
get_within (y ∷ xs) zero x e = omega arith
get_within (y ∷ xs) (suc n) x e = let less = get_within xs n x e in omega arith

back_is : (trail : List Step) (most number : ℕ) (lines : List ℕ) → AreSteps trail number lines → number ≤ most
    → lines_back trail most number ≡ lines
back_is trail zero number [] h less = refl
back_is trail (suc most) number [] h less =
    ap (λ n. after_step (step_of trail n) (λ step. step.line ∷ lines_back trail most step.before)) h
back_is trail zero number (line ∷ lines) h less = let is = h.2 in absurd (omega arith)
back_is trail (suc most) number (line ∷ lines) h less =
    let is = h.2 in
    let small = h.4 in
    ap (λ n. after_step (step_of trail n) (λ step. step.line ∷ lines_back trail most step.before)) is
    ∙ ap (λ o. after_step o (λ step. step.line ∷ lines_back trail most step.before)) h.3
    ∙ ap (λ ls. line ∷ ls) (back_is trail most h.1 lines h.5 (omega arith))

pub number_within : (trail : List Step) (number : ℕ) (lines : List ℕ) → AreSteps trail number lines → number ≤ length trail
number_within trail number [] h = omega (arith, h)
number_within trail number (line ∷ lines) h =
    let is = h.2 in
    let less = get_within trail h.0 (record { line = line; before = h.1 }) h.3 in
    omega arith

lines_are : (trail : List Step) (s : KeySearch) (lines : List ℕ) → AreSteps trail (last_step s.configurations.items) lines
    → lines_of trail s ≡ reverse lines
lines_are trail s lines h =
    let number : ℕ = last_step s.configurations.items in
    ap reverse (back_is trail (length trail) number lines h (number_within trail number lines h))

-- ---- the commands of all keys

module _ (log : List Observation) (trail : List Step) where
  abbrev w : Log
  w = reverse log

  -- the lines of the order of a key
  abbrev lines_at : Option KeySearch → List ℕ
  lines_at None = []
  lines_at (Some s) = lines_of trail s

  has_order : (key : List ℕ) (o : Option KeySearch) → HasKeyOrder log trail key o → IsKeyOrder log key (lines_at o)
  has_order key None h = h
  has_order key (Some s) h = subst (λ ls. IsKeyOrder log key ls) (sym (lines_are trail s h.0 h.1)) h.2

  abbrev commands_at : Option KeySearch → List TimedCommand
  commands_at o = timed_lines log 0 (lines_at o)

  abbrev is_own : List ℕ → TimedCommand → Bool
  is_own key c = is_of_key w key c.id

  -- whether a key of the map has these bytes
  abbrev test : List ℕ → String Global → Bool
  test key k = is_at (λ (x : String Global). slice_cmp nat_cmp key (string_bytes x)) k

  module _ (submitted : (id : CommandId) → has_id (acknowledged w) id ≡ true → is_some (command_of w id) ≡ true) where
    own_there : (key : List ℕ) (lines : List ℕ) → IsKeyOrder log key lines
        → filter (is_own key) (timed_lines log 0 lines) ≡ timed_lines log 0 lines
    own_there key lines k =
        filter_all (is_own key) (timed_lines log 0 lines)
        (each_more (λ c. IsOwn log submitted key lines k c.id) (λ c. is_own key c ≡ true) (timed_lines log 0 lines)
        (λ c own. ap (is_on_key key) own.1 ∙ (bytes_eq-Decides (key_of own.0.op) key).1 own.2)
        (all_own log submitted key lines k))

    none_there : (key other : List ℕ) (lines : List ℕ) → IsKeyOrder log other lines → other ≢ key
        → filter (is_own key) (timed_lines log 0 lines) ≡ []
    none_there key other lines k ne =
        filter_none (is_own key) (timed_lines log 0 lines)
        (each_more (λ c. IsOwn log submitted other lines k c.id) (λ c. is_own key c ≡ false) (timed_lines log 0 lines)
        (λ c own. ap (is_on_key key) own.1
        ∙ other_bytes (key_of own.0.op) key (λ (same : key ≡ key_of own.0.op). ne (sym (same ∙ own.2))))
        (all_own log submitted other lines k))

    -- each entry has an order of its key
    abbrev HaveOrders : List (String Global × KeySearch) → Type 0
    HaveOrders es =
        (i : ℕ) (k : String Global) (s : KeySearch) → slice_get es i ≡ Some (k, s)
        → IsKeyOrder log (string_bytes k) (lines_of trail s)

    gathered_timed : (es : List (String Global × KeySearch)) → HaveOrders es
        → Each (IsTimed w) (gathered log trail (values_of es))
    gathered_timed [] h = tt
    gathered_timed (e ∷ es) h =
        each_append (IsTimed w) (timed_lines log 0 (lines_of trail e.1)) (gathered log trail (values_of es))
        (all_timed log submitted (string_bytes e.0) (lines_of trail e.1) (h 0 e.0 e.1 refl))
        (gathered_timed es (λ i k s is. h (suc i) k s is))

    gathered_of : (es : List (String Global × KeySearch)) → IsStrictlySortedBy string_cmp (keys_of es) → HaveOrders es
        → (key : List ℕ) → filter (is_own key) (gathered log trail (values_of es)) ≡ commands_at (lookup (test key) es)
    unfolding IsStrictlySortedBy
    gathered_of [] order h key = refl
    gathered_of (e ∷ es) order h key =
        let rest = gathered_of es order.1 (λ i k s is. h (suc i) k s is) key in
        let first : List TimedCommand = timed_lines log 0 (lines_of trail e.1) in
        let k = h 0 e.0 e.1 refl in
        filter-append (is_own key) first (gathered log trail (values_of es))
        ∙ elim (cases_Bool (test key e.0)) [
          | inl d ↦
              let same : key ≡ string_bytes e.0 =
              (bytes_eq-Decides key (string_bytes e.0)).0 (sym (is_eq-slice_cmp key (string_bytes e.0)) ∙ d) in
              let whole : filter (is_own key) first ≡ first =
              subst (λ b. filter (is_own b) first ≡ first) (sym same)
              (own_there (string_bytes e.0) (lines_of trail e.1) k) in
              let alone : lookup (test key) es ≡ None =
              subst (λ b. lookup (test b) es ≡ None) (sym same)
              (lookup-none (test (string_bytes e.0)) es
              (none_past_head (eq_by_cmp_equiv string_cmp_total) e.0 e es
              (IsDistinct-from_sorted string_cmp (keys_of (e ∷ es)) order) (ap (λ b. test b e.0) (sym same) ∙ d))) in
              ap (λ cs. cs ++ filter (is_own key) (gathered log trail (values_of es))) whole
              ∙ ap (λ cs. first ++ cs) (rest ∙ ap commands_at alone) ∙ append-nil first
              ∙ sym (ap (λ b. commands_at (cond b (Some e.1) (lookup (test key) es))) d)
          | inr d ↦
              let ne : string_bytes e.0 ≢ key =
              λ same. let there = is_eq-slice_cmp key (string_bytes e.0)
              ∙ (bytes_eq-Decides key (string_bytes e.0)).1 (sym same) in cc in
              ap (λ cs. cs ++ filter (is_own key) (gathered log trail (values_of es)))
              (none_there key (string_bytes e.0) (lines_of trail e.1) k ne)
              ∙ rest
              ∙ sym (ap (λ b. commands_at (cond b (Some e.1) (lookup (test key) es))) d)
        ]

    kept : (m : BTreeMap (String Global) KeySearch) → IsOrdered string_cmp m
        → ((key : List ℕ) → HasKeyOrder log trail key (get_by_text m key)) → HaveOrders m.entries
    kept m order h i k s is =
        has_order (string_bytes k) (Some s)
        (subst (HasKeyOrder log trail (string_bytes k)) (btree_map_get_place string_cmp_total m i k s order is)
        (h (string_bytes k)))

pub merged_right : (log : List Observation) (search : Search) → IsOrdered string_cmp search.by_key
    → HaveKeyOrders log search
    → IsLinearization (reverse log) (ids_of (sorted (gathered log search.trail.items (values search.by_key))))
merged_right log search order h =
    let trail : List Step = search.trail.items in
    let m : BTreeMap (String Global) KeySearch = search.by_key in
    let cs : List TimedCommand = gathered log trail (values m) in
    let orders = kept log trail h.submitted m order h.keys in
    by_moments (reverse log) (sorted cs) (sorted_rising (sorted cs) (sorted_sorted cs))
    (each_all (IsTimed (reverse log)) (sorted cs)
    (sorted_each (IsTimed (reverse log)) cs (gathered_timed log trail h.submitted m.entries orders)))
    (λ key.
    let o : Option KeySearch = get_by_text m key in
    let its = gathered_of log trail h.submitted m.entries order orders key in
    let is : order_of_key (reverse log) key (ids_of (sorted cs)) ≡ ids_of (commands_at log trail o) =
    filter_ids (is_of_key (reverse log) key) (sorted cs)
    ∙ ap ids_of (kept_order (is_own log trail key) cs (subst IsSorted (sym its) (lines_sorted log 0 (lines_at log trail o))))
    ∙ ap ids_of its in
    subst (λ ids. IsLinearization (log_of_key (reverse log) key) ids) (sym is)
    (key_linearizes log h.submitted key (lines_at log trail o) (has_order log trail key o (h.keys key))))
