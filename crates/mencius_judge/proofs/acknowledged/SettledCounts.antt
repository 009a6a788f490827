-- Whether a server has all acknowledged commands, by their number and the highest of their places in the longest history.
use Rattle.std.proofs.Common.{◌≡◌, ◌≢◌, ◌⊎◌, inl, inr, ℕ, zero, suc, ◌+◌, ◌<◌, ◌≤◌, Bool, true, false, List, [], ◌∷◌, ◌++◌, Some, None, is_some, length, slice_get, take, arith, refl, sym, ap, ◌∙◌, ⊎_elim, length-append}
use Rattle.std.specs.Prelude.{IsTrue, max}
use Rattle.std.specs.Ordering.{nat_cmp}
use Rattle.std.specs.BTreeMap.{get}
use Rattle.std.proofs.lemmas.Bool.{cases_eq}
use Rattle.std.proofs.lemmas.List.{length-take}
use Rattle.std.proofs.lemmas.Option.{slice_get_within}
use Rattle.mencius_base.specs.declared.command.CommandId.{CommandId}
use Rattle.mencius_judge.specs.declared.histories.Row.{Row}
use Rattle.mencius_judge.specs.declared.judge.Execution.{Execution}
use Rattle.mencius_log.specs.declared.observation.Observation.TheVariants.{Settle}
use Rattle.mencius_judge.specs.declared.places.Places.{Places}
use Rattle.mencius_judge.specs.Log.{Log, acknowledged, command_of, has_id, history}
use Rattle.mencius_judge.specs.Promises.{WereSettled}
use Rattle.mencius_judge.specs.Rows.{count_of}
use Rattle.mencius_judge.specs.Tables.{AreExecutions, AreHistories, AreReplies, AreSettled, Executions, IsOrder, Replies, identity_key, number_count}
use Rattle.mencius_judge.proofs.acknowledged.OpenReplies.{as_true, is_true}
use Rattle.mencius_judge.proofs.observations.HistorySteps.{whole_get}
use Rattle.mencius_judge.proofs.observations.OrderSteps.{item_here, split_at}
use Rattle.mencius_judge.proofs.observations.RowSteps.{still_item}
use Rattle.mencius_judge.proofs.promises.Identities.{has_place, place_has}
use Rattle.mencius_judge.proofs.promises.Logs.{known}

-- ---- lists

pub taken_get : {A : Type 0} (k : ℕ) (xs : List A) (n : ℕ) (x : A) → n < k → slice_get xs n ≡ Some x
    → slice_get (take k xs) n ≡ Some x
taken_get zero xs n x less e = absurd (omega arith)
taken_get (suc k) [] n x less e = e
taken_get (suc k) (y ∷ xs) zero x less e = e
taken_get (suc k) (y ∷ xs) (suc n) x less e = taken_get k xs n x (omega arith) e

pub past_end : {A : Type 0} (xs : List A) (n : ℕ) → slice_get xs n ≡ None → length xs ≤ n
past_end [] n e = omega arith
past_end (x ∷ xs) zero e = absurd (cc)
past_end (x ∷ xs) (suc n) e = let r = past_end xs n e in omega (arith, r)

end_get : {A : Type 0} (xs : List A) (y : A) (n : ℕ) (x : A) → n < length xs → slice_get (xs ++ y ∷ []) n ≡ Some x
    → slice_get xs n ≡ Some x
end_get [] y n x less e = absurd (omega arith)
end_get (z ∷ xs) y zero x less e = e
end_get (z ∷ xs) y (suc n) x less e = end_get xs y n x (omega arith) e

cases_le : (a b : ℕ) → (a ≤ b) ⊎ (b ≤ a)
cases_le zero b = inl (omega arith)
cases_le (suc a) zero = inr (omega arith)
cases_le (suc a) (suc b) = ⊎_elim (λ (e : a ≤ b). inl (omega (arith, e))) (λ (e : b ≤ a). inr (omega (arith, e))) (cases_le a b)

-- ---- the count stays right

-- one more acknowledged command that is in the longest history
pub settled_more : (ids : List CommandId) (executions : Executions) (count highest : ℕ) (id : CommandId) (x : Execution)
    → AreSettled ids executions count highest → slice_get ids count ≡ Some id
    → get nat_cmp executions (identity_key id) ≡ Some x → AreSettled ids executions (count + 1) (max highest x.place)
settled_more ids executions count highest id x h here found = record {
  within = let less : count < length ids = slice_get_within ids count id here in omega arith;
  each = λ n y less there. ⊎_elim
      (λ (e : count ≡ n).
      let both : Some id ≡ Some y = sym here ∙ ap (slice_get ids) e ∙ there in
      let same : id ≡ y = cc in
      (x, ap (λ (z : CommandId). get nat_cmp executions (identity_key z)) (sym same) ∙ found, omega arith))
      (λ (ne : count ≢ n).
      let r = h.each n y (omega (arith, ne, less)) there in (r.0, r.1, omega (arith, r.2)))
      (cases_eq count n);
  some = highest_of h.some (cases_le highest x.place);
}
  where
    own : max highest x.place ≡ x.place
        → ((count + 1 ≡ 0) × (max highest x.place ≡ 0))
        ⊎ ((n : ℕ) × (y : CommandId) × (z : Execution) × (n < count + 1) × (slice_get ids n ≡ Some y)
        × (get nat_cmp executions (identity_key y) ≡ Some z) × (z.place ≡ max highest x.place))
    own e = inr (count, id, x, omega arith, here, found, sym e)

    highest_of : (((count ≡ 0) × (highest ≡ 0))
        ⊎ ((n : ℕ) × (y : CommandId) × (z : Execution) × (n < count) × (slice_get ids n ≡ Some y)
        × (get nat_cmp executions (identity_key y) ≡ Some z) × (z.place ≡ highest)))
        → ((highest ≤ x.place) ⊎ (x.place ≤ highest))
        → ((count + 1 ≡ 0) × (max highest x.place ≡ 0))
        ⊎ ((n : ℕ) × (y : CommandId) × (z : Execution) × (n < count + 1) × (slice_get ids n ≡ Some y)
        × (get nat_cmp executions (identity_key y) ≡ Some z) × (z.place ≡ max highest x.place))
    highest_of old (inl le) = own (omega (arith, le))
    highest_of (inl none) (inr le) = own (omega (arith, le, none.1))
    highest_of (inr old) (inr le) =
        inr (old.0, old.1, old.2, omega (arith, old.3), old.4, old.5, old.6 ∙ omega (arith, le))

-- a reply other than `failed`
pub settled_reply : (ids : List CommandId) (executions : Executions) (count highest : ℕ) (x : CommandId)
    → AreSettled ids executions count highest → AreSettled (ids ++ x ∷ []) executions count highest
settled_reply ids executions count highest x h = record {
  within = omega (arith, h.within, length-append ids (x ∷ []));
  each = λ n id less there.
      h.each n id less (end_get ids x n id (omega (arith, h.within, less)) there);
  some = elim h.some [
    | inl e ↦ inl e
    | inr r ↦ inr (r.0, r.1, r.2, r.3, still_item ids (x ∷ []) r.0 r.1 r.4, r.5, r.6)
  ];
}

-- ---- the servers

module _ (w : Log) (order : List CommandId) (places : Places) (rows : List Row) (replies : Replies) (ids : List CommandId)
    (executions : Executions) (histories : AreHistories w order places rows) (facts : IsOrder w order)
    (table : AreReplies w replies ids) (known_places : AreExecutions w order executions) where
  -- the table of executions has the place of each command
  pub place_there : (id : CommandId) (x : Execution) → id.number < number_count
      → get nat_cmp executions (identity_key id) ≡ Some x → slice_get order x.place ≡ Some id
  place_there id x small found =
      let inside : has_id order id ≡ true = sym (known_places.all id small) ∙ ap is_some found in
      let parts = split_at order id inside in
      let at : slice_get order (length parts.0) ≡ Some id =
      ap (λ (ys : List CommandId). slice_get ys (length parts.0)) parts.2 ∙ item_here parts.0 parts.1 id in
      let command = known (command_of w id) (facts.known (length parts.0) id at) in
      let r = known_places.right id x parts.0 parts.1 command.0 small found parts.2 command.1 in
      ap (slice_get order) r.1 ∙ at

  small_there : (n : ℕ) (id : CommandId) → slice_get ids n ≡ Some id → id.number < number_count
  small_there n id e = table.small n id (ap (λ (ys : List CommandId). slice_get ys n) (sym table.order) ∙ e)

  acknowledged_there : (n : ℕ) (id : CommandId) → slice_get ids n ≡ Some id → has_id (acknowledged w) id ≡ true
  acknowledged_there n id e = ap (λ (ys : List CommandId). has_id ys id) (sym table.order) ∙ place_has ids id n e

  -- a server lacks each command that is not among the first commands that it has
  lacks : (p : ℕ) (id : CommandId)
      → ((n : ℕ) → n < count_of places rows p → slice_get order n ≡ Some id → ⊥) → has_id (history w p) id ≡ false
  lacks p id none = by_test (has_id (history w p) id) refl
    where
      by_test : (d : Bool) → has_id (history w p) id ≡ d → d ≡ false
      by_test false e = refl
      by_test true e =
          let place = has_place (history w p) id e in
          let size : length (history w p) ≤ count_of places rows p =
          omega (arith, ap length (histories.each p), length-take (count_of places rows p) order) in
          let there = whole_get (count_of places rows p) order place.0 id
          (ap (λ (ys : List CommandId). slice_get ys place.0) (sym (histories.each p)) ∙ place.2) in
          absurd (none place.0 (omega (arith, place.1, size)) there)

  -- the first acknowledged command that is in no history
  pub lacks_unsettled : (p n : ℕ) (id : CommandId) → slice_get ids n ≡ Some id → get nat_cmp executions (identity_key id) ≡ None
      → (has_id (acknowledged w) id ≡ true) × (has_id (history w p) id ≡ false)
  lacks_unsettled p n id there none = (
    acknowledged_there n id there,
    lacks p id (λ k less at.
        let inside : has_id order id ≡ true = place_has order id k at in
        let absent : has_id order id ≡ false = sym (known_places.all id (small_there n id there)) ∙ ap is_some none in
        cc),
  )

  -- the acknowledged command with the highest place
  pub lacks_highest : (p count highest : ℕ) → AreSettled ids executions count highest → 0 < count
      → count_of places rows p ≤ highest → (id : CommandId) → slice_get order highest ≡ Some id
      → (has_id (acknowledged w) id ≡ true) × (has_id (history w p) id ≡ false)
  lacks_highest p count highest settled some past id at = by_some settled.some
    where
      by_some : (((count ≡ 0) × (highest ≡ 0))
          ⊎ ((n : ℕ) × (y : CommandId) × (z : Execution) × (n < count) × (slice_get ids n ≡ Some y)
          × (get nat_cmp executions (identity_key y) ≡ Some z) × (z.place ≡ highest)))
          → (has_id (acknowledged w) id ≡ true) × (has_id (history w p) id ≡ false)
      by_some (inl none) = absurd (omega (arith, none.0, some))
      by_some (inr r) =
          let there = place_there r.1 r.2 (small_there r.0 r.1 r.4) r.5 in
          let both : Some id ≡ Some r.1 = sym at ∙ ap (slice_get order) (sym r.6) ∙ there in
          let same : id ≡ r.1 = cc in (
            acknowledged_there r.0 id (r.4 ∙ ap Some (sym same)),
            lacks p id (λ k less e.
                let one = facts.once k highest id e at in omega (arith, one, less, past)),
          )

  -- there is a command at the highest place
  pub highest_within : (count highest : ℕ) → AreSettled ids executions count highest → 0 < count → highest < length order
  highest_within count highest settled some = by_some settled.some
    where
      by_some : (((count ≡ 0) × (highest ≡ 0))
          ⊎ ((n : ℕ) × (y : CommandId) × (z : Execution) × (n < count) × (slice_get ids n ≡ Some y)
          × (get nat_cmp executions (identity_key y) ≡ Some z) × (z.place ≡ highest)))
          → highest < length order
      by_some (inl none) = absurd (omega (arith, none.0, some))
      by_some (inr r) =
          let less = slice_get_within order r.2.place r.1 (place_there r.1 r.2 (small_there r.0 r.1 r.4) r.5) in
          omega (arith, less, r.6)

  -- a server has all acknowledged commands if all are counted and it has the one with the highest place
  pub has_all : (p count highest : ℕ) → AreSettled ids executions count highest → length ids ≤ count
      → (0 < count → highest < count_of places rows p)
      → (id : CommandId) → IsTrue (has_id (acknowledged w) id) → IsTrue (has_id (history w p) id)
  has_all p count highest settled all most id inside =
      let listed : has_id ids id ≡ true =
      ap (λ (ys : List CommandId). has_id ys id) table.order ∙ is_true (has_id (acknowledged w) id) inside in
      let place = has_place ids id listed in
      let counted : place.0 < count = omega (arith, place.1, all) in
      let x = settled.each place.0 id counted place.2 in
      let less = most (omega (arith, counted)) in
      let at = place_there id x.0 (small_there place.0 id place.2) x.1 in
      let own : slice_get (history w p) x.0.place ≡ Some id =
      ap (λ (ys : List CommandId). slice_get ys x.0.place) (histories.each p)
      ∙ taken_get (count_of places rows p) order x.0.place id (omega (arith, less, x.2)) at in
      as_true (has_id (history w p) id) (place_has (history w p) id x.0.place own)

-- a server that lacks an acknowledged command breaks the promise Settled
pub not_settled : (w : Log) (p : ℕ) (id : CommandId) → has_id (acknowledged w) id ≡ true → has_id (history w p) id ≡ false
    → WereSettled (Settle p ∷ w) → ⊥
not_settled w p id there absent h =
    let had : has_id (history w p) id ≡ true =
    is_true (has_id (history w p) id) (h.0 id (as_true (has_id (acknowledged w) id) there)) in
    cc
