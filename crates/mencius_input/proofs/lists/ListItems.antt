-- Reading a list one item at a time gives the result of the whole list.
use Rattle.std.proofs.Common.{◌≡◌, List, [], ◌∷◌, ◌++◌, ◌&&◌, Bool, max, Option, Some, None, option_and_then, Result, Ok, Err, option_map, map, refl, sym, ap, ◌∙◌, ℕ, ◌<◌, length, ap₂, true, false, cond, ◌+◌, arith, nat_le, nat_lt, add-one}
use Rattle.std.specs.List.{list_all}
use Rattle.std.specs.Option.{option_zip}
use Rattle.std.proofs.Math.Bool.{and-true}
use Rattle.std.proofs.lemmas.Bool.{and_parts}
use Rattle.std.proofs.lemmas.Bool.Decides.{nat_tests}
use Rattle.std.proofs.lemmas.List.{length-append, length-map, map-append}
use Rattle.std.proofs.lemmas.List.Folds.{list_all-append}
use Rattle.json.specs.Json.{after_end_array}
use Rattle.json.specs.Token.{Token}
use Rattle.serde_json.specs.Data.{Data, Items, no_items}
use Rattle.mencius_io.specs.declared.fault.IoFault.{IoFault}
use Rattle.mencius_io.specs.declared.fault.IoFault.TheVariants.{BadLimit, BadShape}
use Rattle.mencius_format.specs.ValuesOrFaults.{map_ok, value_or_fault}
use Rattle.mencius_input.specs.Newest.{items_version}
use Rattle.mencius_format.specs.Versions.{first_version}
use Rattle.mencius_json.specs.Next.{next_items, next_value}
use Rattle.mencius_input.specs.ItemFaults.{graver_fault, items_or_fault, where_room, with_one}
use Rattle.mencius_input.specs.Scenario.{all_of}
use Rattle.mencius_format.proofs.ValuesOfParts.{both_values, map_ok_value, value_is_ok}
use Rattle.mencius_json.proofs.NextValues.{ItemsSoFar, items_close, items_further, items_start, items_stop, items_then}

-- recording a fault has the same result as adding an item with this fault
pub noted_fault : {X : Type 0} (xs : List X) (fault : Option IoFault) (found : IoFault)
    → items_or_fault xs (Some (graver_fault fault found)) ≡ with_one (items_or_fault xs fault) (Err found)
noted_fault xs None found = refl
noted_fault xs (Some BadLimit) found = refl
noted_fault xs (Some fault) found = refl

module _ {X : Type 0} where
  abbrev with_last : Option (List X) → Option X → Option (List X)
  with_last all one = option_map (λ pair. pair.0 ++ pair.1 ∷ []) (option_zip all one)

  abbrev with_first : Option X → Option (List X) → Option (List X)
  with_first one all = option_and_then (λ x. option_and_then (λ xs. Some (x ∷ xs)) all) one

  alone : (one : Option X) → with_first one (Some []) ≡ with_last (Some []) one
  alone None = refl
  alone (Some x) = refl

  both_ends : (first last : Option X) (all : Option (List X))
      → with_first first (with_last all last) ≡ with_last (with_first first all) last
  both_ends None last all = refl
  both_ends (Some x) last None = refl
  both_ends (Some x) None (Some xs) = refl
  both_ends (Some x) (Some y) (Some xs) = refl

  last_read : (read : Data → Option X) (ds : List Data) (d : Data) → all_of read (items_then (ds ++ d ∷ []) no_items)
      ≡ with_last (all_of read (items_then ds no_items)) (read d)
  unfolding all_of
  last_read read [] d = alone (read d)
  last_read read (e ∷ ds) d =
      ap (with_first (read e)) (last_read read ds d)
      ∙ both_ends (read e) (read d) (all_of read (items_then ds no_items))

  none_noted : (read : Data → Option X) (all_within : List X → Bool) → all_within [] ≡ true
      → value_or_fault all_within (all_of read no_items) ≡ Ok []
  unfolding all_of
  none_noted read all_within fits = rw fits refl

module _ {X : Type 0} (read : Data → Option X) (within : X → Bool) where
  one_within : (x : List X × X) → list_all within (x.0 ++ x.1 ∷ []) ≡ (list_all within x.0 && within x.1)
  one_within x =
      rw (list_all-append within x.0 (x.1 ∷ [])) (ap (λ bit. list_all within x.0 && bit) (and-true (within x.1)))

  -- the result of some items and another item follows from the result of these items and the result of this item
  one_noted : (ds : List Data) (d : Data)
      → value_or_fault (list_all within) (all_of read (items_then (ds ++ d ∷ []) no_items))
      ≡ with_one (value_or_fault (list_all within) (all_of read (items_then ds no_items)))
      (value_or_fault within (read d))
  one_noted ds d =
      let all = all_of read (items_then ds no_items) in
      ap (value_or_fault (list_all within)) (last_read read ds d)
      ∙ sym (map_ok_value (λ x. x.0 ++ x.1 ∷ []) (λ x. list_all within x.0 && within x.1) (list_all within) one_within
      (option_zip all (read d)))
      ∙ ap (map_ok (λ x. x.0 ++ x.1 ∷ [])) (sym (both_values (list_all within) within all (read d)))

-- ---- the result of the items that were read

-- the items `found` were read from a list. Their result is `so_far`, and `version` is the greatest version that any of
-- them needs. The tokens `left` begin with the remaining items
pub record ListSoFar {X : Type 0} (read : Data → Option X) (all_within : List X → Bool) (needed : Data → ℕ) (depth : ℕ)
    (whole left : List Token) (so_far : Result (List X) IoFault) (version : ℕ) : Type 0 where
  pub found : List Data
  pub items : ItemsSoFar depth whole left found
  pub noted : value_or_fault all_within (all_of read (items_then found no_items)) ≡ so_far
  pub least : items_version needed (items_then found no_items) ≡ version

none_needed : (needed : Data → ℕ) → items_version needed no_items ≡ first_version
unfolding items_version
none_needed needed = refl

one_needed : (needed : Data → ℕ) (ds : List Data) (d : Data)
    → items_version needed (items_then (ds ++ d ∷ []) no_items)
    ≡ max (items_version needed (items_then ds no_items)) (needed d)
unfolding items_version
one_needed needed [] d = omega arith
one_needed needed (e ∷ ds) d = omega (arith, one_needed needed ds d)

pub list_start : {X : Type 0} (read : Data → Option X) (all_within : List X → Bool) (needed : Data → ℕ) (depth : ℕ)
    (whole : List Token) (so_far : Result (List X) IoFault) → all_within [] ≡ true → so_far ≡ Ok []
    → ListSoFar read all_within needed depth whole whole so_far first_version
list_start read all_within needed depth whole so_far fits none = record {
  found = [];
  items = items_start depth whole;
  noted = none_noted read all_within fits ∙ sym none;
  least = none_needed needed;
}

module _ {X : Type 0} {read : Data → Option X} {all_within : List X → Bool} {needed : Data → ℕ} {depth : ℕ}
    {whole left : List Token} {so_far : Result (List X) IoFault} {version : ℕ}
    (h : ListSoFar read all_within needed depth whole left so_far version)
    (going : after_end_array left ≡ None) where
  pub list_stop : next_value depth left ≡ None → next_items depth whole ≡ None
  list_stop none = items_stop depth whole left h.found h.items going none

  -- another item is read, and its result is added to the result of the items
  pub list_more : (rest : List Token) (d : Data) (next : Result (List X) IoFault) (now : ℕ)
      → length rest < length left → next_value depth left ≡ Some (d, rest) → now ≡ max version (needed d)
      → ((ds : List Data) → value_or_fault all_within (all_of read (items_then ds no_items)) ≡ so_far
      → value_or_fault all_within (all_of read (items_then (ds ++ d ∷ []) no_items)) ≡ next)
      → ListSoFar read all_within needed depth whole rest next now
  list_more rest d next now less is greater step = record {
    found = h.found ++ d ∷ [];
    items = items_further depth whole left h.found h.items rest d going less is;
    noted = step h.found h.noted;
    least = one_needed needed h.found d ∙ ap (λ n. max n (needed d)) h.least ∙ sym greater;
  }

-- another item is read from a list whose items each have their own limits
pub list_further : {X : Type 0} {read : Data → Option X} (within : X → Bool) {needed : Data → ℕ} {depth : ℕ}
    {whole left : List Token} {so_far : Result (List X) IoFault} {version : ℕ}
    → ListSoFar read (list_all within) needed depth whole left so_far version → after_end_array left ≡ None
    → (rest : List Token) (d : Data) (one : Result X IoFault) (next : Result (List X) IoFault) (now : ℕ)
    → length rest < length left → next_value depth left ≡ Some (d, rest) → now ≡ max version (needed d)
    → value_or_fault within (read d) ≡ one
    → next ≡ with_one so_far one → ListSoFar read (list_all within) needed depth whole rest next now
list_further {read} within h going rest d one next now less is greater judgement noted =
    list_more h going rest d next now less is greater
    (λ ds e. one_noted read within ds d ∙ ap₂ with_one e judgement ∙ sym noted)

-- lists that keep at most `most` items
module _ {X : Type 0} (within : X → Bool) (most : ℕ) where
  abbrev few_within : List X → Bool
  few_within xs = list_all within xs && nat_le (length xs) most

  abbrev kept_one : Bool → Option X → Result X IoFault
  kept_one has_room one = where_room has_room (value_or_fault within one)

  no_shape_kept : (a : Bool) → kept_one a None ≡ Err BadShape
  no_shape_kept true = refl
  no_shape_kept false = refl

  room_and_limit : (kept : List X) (x : X) (a d : Bool)
      → ◌≡◌ {A = Result (List X) IoFault} (cond (d && a) (Ok (kept ++ x ∷ [])) (Err BadLimit))
      (with_one (Ok kept) (where_room a (cond d (Ok x) (Err BadLimit))))
  room_and_limit kept x true true = refl
  room_and_limit kept x true false = refl
  room_and_limit kept x false true = refl
  room_and_limit kept x false false = refl

  past_already : (x : X) (a d : Bool)
      → ◌≡◌ {A = Result (List X) IoFault} (Err BadLimit)
      (with_one (Err BadLimit) (where_room a (cond d (Ok x) (Err BadLimit))))
  past_already x true true = refl
  past_already x true false = refl
  past_already x false true = refl
  past_already x false false = refl

  fits_more : (kept : List X) (x : X) → few_within kept ≡ true
      → few_within (kept ++ x ∷ []) ≡ (within x && nat_lt (length kept) most)
  fits_more kept x e =
      let parts = and_parts (list_all within kept) (nat_le (length kept) most) e in
      rw (list_all-append within kept (x ∷ []), parts.0, and-true (within x), length-append kept (x ∷ []))
      (ap (λ n. within x && nat_le n most) (add-one (length kept)))

  fits_no_more : (kept : List X) (x : X) → few_within kept ≡ false → few_within (kept ++ x ∷ []) ≡ false
  fits_no_more kept x e =
      rw (list_all-append within kept (x ∷ []), and-true (within x), length-append kept (x ∷ []))
      (by_tests (list_all within kept) (within x) e)
    where
      by_tests : (l d : Bool) → (l && nat_le (length kept) most) ≡ false
          → ((l && d) && nat_le (length kept + 1) most) ≡ false
      by_tests true true e = grind (arith, nat_tests)
      by_tests true false e = refl
      by_tests false d e = refl

  -- if no item had a fault, the result with another item is the items with it, or its fault
  kept_more : (kept : List X) (one : Option X) → few_within kept ≡ true
      → value_or_fault few_within (with_last (Some kept) one)
      ≡ with_one (Ok kept) (kept_one (nat_lt (length kept) most) one)
  kept_more kept None e = ap (with_one (Ok kept)) (sym (no_shape_kept (nat_lt (length kept) most)))
  kept_more kept (Some x) e =
      ap (λ a. cond a (Ok (kept ++ x ∷ [])) (Err BadLimit)) (fits_more kept x e)
      ∙ room_and_limit kept x (nat_lt (length kept) most) (within x)

  -- if the items are past a limit, the result with another item is `BadLimit` or the fault of that item
  past_more : (xs : List X) (has_room : Bool) (one : Option X) → few_within xs ≡ false
      → value_or_fault few_within (with_last (Some xs) one) ≡ with_one (Err BadLimit) (kept_one has_room one)
  past_more xs a None e = ap (with_one (Err BadLimit)) (sym (no_shape_kept a))
  past_more xs a (Some x) e =
      ap (λ a. cond a (Ok (xs ++ x ∷ [])) (Err BadLimit)) (fits_no_more xs x e) ∙ past_already x a (within x)

  few_noted : (all : Option (List X)) (one : Option X) (kept : List X) (fault : Option IoFault)
      → value_or_fault few_within all ≡ items_or_fault kept fault
      → value_or_fault few_within (with_last all one)
      ≡ with_one (items_or_fault kept fault) (kept_one (nat_lt (length kept) most) one)
  few_noted all one kept None e =
      let fit = value_is_ok few_within all kept e in
      ap (λ o. value_or_fault few_within (with_last o one)) fit.0 ∙ kept_more kept one fit.1
  few_noted None one kept (Some fault) e =
      let is : BadShape ≡ fault = cc in
      ap (λ fault. with_one (Err fault) (kept_one (nat_lt (length kept) most) one)) is
  few_noted (Some xs) one kept (Some fault) e = by_test (few_within xs) refl e
    where
      by_test : (a : Bool) → few_within xs ≡ a
          → ◌≡◌ {A = Result (List X) IoFault} (cond a (Ok xs) (Err BadLimit)) (Err fault)
          → value_or_fault few_within (with_last (Some xs) one)
          ≡ with_one (Err fault) (kept_one (nat_lt (length kept) most) one)
      by_test true is e = absurd (cc)
      by_test false is e =
          let limit : BadLimit ≡ fault = cc in
          past_more xs (nat_lt (length kept) most) one is
          ∙ ap (λ fault. with_one (Err fault) (kept_one (nat_lt (length kept) most) one)) limit

pub few_further : {X : Type 0} {read : Data → Option X} {needed : Data → ℕ} {depth : ℕ} {whole left : List Token}
    {version : ℕ} (within : X → Bool) (most : ℕ) (kept : List X) (fault : Option IoFault)
    → ListSoFar read (few_within within most) needed depth whole left (items_or_fault kept fault) version
    → after_end_array left ≡ None
    → (rest : List Token) (d : Data) (one : Result X IoFault) (next : Result (List X) IoFault) (now : ℕ)
    → length rest < length left → next_value depth left ≡ Some (d, rest) → now ≡ max version (needed d)
    → value_or_fault within (read d) ≡ one
    → next ≡ with_one (items_or_fault kept fault) (where_room (nat_lt (length kept) most) one)
    → ListSoFar read (few_within within most) needed depth whole rest next now
few_further {read} within most kept fault h going rest d one next now less is greater judgement noted =
    list_more h going rest d next now less is greater
    (λ ds e. ap (value_or_fault (few_within within most)) (last_read read ds d)
    ∙ few_noted within most (all_of read (items_then ds no_items)) (read d) kept fault e
    ∙ ap (λ o. with_one (items_or_fault kept fault) (where_room (nat_lt (length kept) most) o)) judgement
    ∙ sym noted)

pub list_close : {X : Type 0} {read : Data → Option X} {all_within : List X → Bool} {needed : Data → ℕ} {depth : ℕ}
    {whole left : List Token} {so_far : Result (List X) IoFault} {version : ℕ}
    → ListSoFar read all_within needed depth whole left so_far version → (rest : List Token)
    → after_end_array left ≡ Some rest
    → (ds : Items) × (next_items depth whole ≡ Some (ds, rest))
    × (so_far ≡ value_or_fault all_within (all_of read ds)) × (version ≡ items_version needed ds)
list_close {depth} {whole} {left} h rest closed = (
  items_then h.found no_items,
  items_close depth whole left h.found h.items rest closed,
  sym h.noted,
  sym h.least,
)

-- ---- the result with each item mapped

pub map_ok_twice : {X Y Z : Type 0} (f : X → Y) (g : Y → Z) (result : Result X IoFault)
    → map_ok (λ x. g (f x)) result ≡ map_ok g (map_ok f result)
map_ok_twice each whenever (Ok x) = refl
map_ok_twice each whenever (Err fault) = refl

with_last_mapped : {X Y : Type 0} (see : X → Y) (xs : List X) (x : X)
    → map see xs ++ see x ∷ [] ≡ map see (xs ++ x ∷ [])
with_last_mapped see xs x = sym (map-append see xs (x ∷ []))

with_one_mapped : {X Y : Type 0} (see : X → Y) (all : Result (List X) IoFault) (one : Result X IoFault)
    → with_one (map_ok (map see) all) (map_ok see one) ≡ map_ok (map see) (with_one all one)
with_one_mapped see (Ok xs) (Ok x) = ap Ok (with_last_mapped see xs x)
with_one_mapped see (Ok xs) (Err fault) = refl
with_one_mapped {X} see (Err fault) one = with_fault fault one
  where
    with_fault : (fault : IoFault) (one : Result X IoFault)
        → with_one (map_ok (map see) (Err fault)) (map_ok see one) ≡ map_ok (map see) (with_one (Err fault) one)
    with_fault BadLimit (Ok x) = refl
    with_fault BadLimit (Err f) = refl
    with_fault fault one = refl

noted_mapped : {X Y : Type 0} (see : X → Y) (next all : Result (List X) IoFault) (one : Result X IoFault)
    → next ≡ with_one all one → map_ok (map see) next ≡ with_one (map_ok (map see) all) (map_ok see one)
noted_mapped see next all one e = ap (map_ok (map see)) e ∙ sym (with_one_mapped see all one)

pub items_mapped : {X Y : Type 0} (see : X → Y) (xs : List X) (fault : Option IoFault)
    → map_ok (map see) (items_or_fault xs fault) ≡ items_or_fault (map see xs) fault
items_mapped see xs None = refl
items_mapped see xs (Some fault) = refl

room_mapped : {X Y : Type 0} (see : X → Y) (has_room : Bool) (one : Result X IoFault)
    → map_ok see (where_room has_room one) ≡ where_room has_room (map_ok see one)
room_mapped see true one = refl
room_mapped see false (Ok x) = refl
room_mapped see false (Err fault) = refl

pub few_mapped : {X Y : Type 0} (see : X → Y) (most : ℕ) (old new : List X) (before after : Option IoFault)
    (has_room : Bool) (one item : Result X IoFault) → item ≡ where_room has_room one
    → has_room ≡ nat_lt (length old) most → items_or_fault new after ≡ with_one (items_or_fault old before) item
    → items_or_fault (map see new) after
    ≡ with_one (items_or_fault (map see old) before) (where_room (nat_lt (length (map see old)) most) (map_ok see one))
few_mapped see most old new before after has_room one item is room noted =
    sym (items_mapped see new after)
    ∙ noted_mapped see (items_or_fault new after) (items_or_fault old before) item noted
    ∙ ap₂ with_one (items_mapped see old before)
    (ap (map_ok see) is ∙ room_mapped see has_room one
    ∙ ap (λ bit. where_room bit (map_ok see one)) (room ∙ ap (λ n. nat_lt n most) (sym (length-map old see))))
