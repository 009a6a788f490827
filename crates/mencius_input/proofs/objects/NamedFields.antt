-- Reading an object one field at a time gives the contents of its fields.
use Rattle.std.proofs.Common.{is_eq, Ordering, Less, Equal, Greater, Vec, Global, ◌≡◌, ◌<◌, ◌+◌, ℕ, zero, suc, ◌&&◌, ◌||◌, arith, List, [], ◌∷◌, length, map, get_or, set, nat_lt, Bool, true, false, not, cond, Option, Some, None, option_map, refl, sym, ap, ap₂, ◌∙◌, true≢false}
use Rattle.std.specs.List.{list_any, position, position_or_len}
use Rattle.std.specs.Ordering.{nat_cmp, match_ordering}
use Rattle.std.specs.Cmp.Lexicographic.{slice_cmp}
use Rattle.std.specs.Str.{bytes_eq}
use Rattle.std.proofs.lemmas.Bool.{and_parts, or_parts}
use Rattle.std.proofs.lemmas.Bool.Decides.{nat_tests}
use Rattle.std.proofs.lemmas.List.Folds.{list_any-append, list_any_at}
use Rattle.std.proofs.lemmas.List.Quantifiers.{position-Some}
use Rattle.std.proofs.lemmas.Map.Text.{is_eq-slice_cmp}
use Rattle.std.proofs.lemmas.Slice.Eq.{bytes_eq-Decides}
use Rattle.serde_json.specs.Data.{Data, Members, member, no_members, object, put}
use Rattle.serde_json.specs.Find.{get_member}
use Rattle.serde_json.proofs.Views.{get_member-put, get_member-put_other}
use Rattle.mencius_input.specs.declared.field.Field.{Field}
use Rattle.mencius_input.specs.declared.field.Field.TheVariants.{Version}
use Rattle.mencius_input.specs.declared.fields.FieldValues as code
use Rattle.mencius_input.specs.declared.fields.KeptList as code_list
use Rattle.mencius_input.specs.declared.kind.Kind.{Kind}
use Rattle.mencius_input.specs.declared.kind.Kind.TheVariants.{Replay, Run}
use Rattle.mencius_input.specs.FieldValues.{AreFieldValues, Says, list_kept, list_said, wholes_of}
use Rattle.mencius_input.specs.FieldsOf.{default_of, field_name, field_number, fields, is_one_of, list_field, names, number_in, whole_fields, whole_in}
use Rattle.mencius_input.specs.Scenario.{has_only}

-- ---- names

pub same_name : (key l : List ℕ) → bytes_eq key l ≡ true → key ≡ l
same_name key l e = let same = bytes_eq-Decides key l in same.0 e

pub other_name : (key l : List ℕ) → bytes_eq key l ≡ false → key ≡ l → ⊥
other_name key l e same = let decided = bytes_eq-Decides key l in true≢false (sym (decided.1 same) ∙ e)

-- whether a field has this name
abbrev pub is_named : List ℕ → Field → Bool
is_named name field = bytes_eq name (field_name field)

one_of_fields : (name : List ℕ) (fs : List Field) → is_one_of name (map field_name fs) ≡ list_any (is_named name) fs
one_of_fields name [] = refl
one_of_fields name (f ∷ fs) = ap (λ bit. is_named name f || bit) (one_of_fields name fs)

-- a name belongs to the kind exactly if it is the name of a whole number or of the list
pub one_of_names : (kind : Kind) (name : List ℕ) → is_one_of name (names kind)
    ≡ (list_any (is_named name) (whole_fields kind) || (is_named name (list_field kind) || false))
one_of_names kind name =
    one_of_fields name (fields kind)
    ∙ list_any-append (is_named name) (whole_fields kind) (list_field kind ∷ [])

-- the list has another name than each whole number
list_apart : (kind : Kind) → list_any (is_named (field_name (list_field kind))) (whole_fields kind) ≡ false
list_apart Replay = refl
list_apart Run = refl

-- whether no two fields have the same name
abbrev are_apart : List Field → Bool
are_apart [] = true
are_apart (f ∷ fs) = not (list_any (is_named (field_name f)) fs) && are_apart fs

wholes_apart : (kind : Kind) → are_apart (whole_fields kind) ≡ true
wholes_apart Replay = refl
wholes_apart Run = refl

found_one : {X : Type 0} (p : X → Bool) (xs : List X) → list_any p xs ≡ nat_lt (position_or_len p xs) (length xs)
found_one p [] = refl
found_one p (x ∷ xs) = by_test (p x) (found_one p xs)
  where
    by_test : (a : Bool) → list_any p xs ≡ nat_lt (position_or_len p xs) (length xs)
        → (a || list_any p xs) ≡ nat_lt (cond (not a) (1 + position_or_len p xs) 0) (suc (length xs))
    by_test true e = grind (arith, nat_tests)
    by_test false e = grind (arith, nat_tests, e)

pub none_named : {X : Type 0} (p : X → Bool) (xs : List X) → position p xs ≡ None → list_any p xs ≡ false
none_named p xs e = found_one p xs ∙ by_test (nat_lt (position_or_len p xs) (length xs)) e
  where
    by_test : (a : Bool) → cond a (Some (position_or_len p xs)) None ≡ None → a ≡ false
    by_test true e = absurd (cc)
    by_test false e = refl

-- a name does not belong to the kind if it is the name of neither a whole number nor the list
pub no_name : (kind : Kind) (name : List ℕ) → position (is_named name) (whole_fields kind) ≡ None
    → is_named name (list_field kind) ≡ false → is_one_of name (names kind) ≡ false
no_name kind name none apart =
    one_of_names kind name
    ∙ ap₂ (λ a x. a || (x || false)) (none_named (is_named name) (whole_fields kind) none) apart

-- ---- the effect of another field

module _ (name : List ℕ) (d : Data) where
  swapped : (a x z : Bool) → (a && (x && z)) ≡ (x && (a && z))
  swapped true x z = refl
  swapped false true z = refl
  swapped false false z = refl

  twice : (a x : Bool) → (a && x) ≡ (a && (a && x))
  twice true x = refl
  twice false x = refl

  pub has_only_put : (all : List (List ℕ)) (ms : Members)
      → has_only all (put name d ms) ≡ (is_one_of name all && has_only all ms)
  unfolding has_only
  has_only_put all no_members = refl
  has_only_put all (member l e ms) =
      by_order (has_only_put all ms) (slice_cmp nat_cmp name l) refl
    where
      by_order : has_only all (put name d ms) ≡ (is_one_of name all && has_only all ms)
          → (o : Ordering) → slice_cmp nat_cmp name l ≡ o
          → has_only all
          (match_ordering o (member name d (member l e ms)) (member l d ms) (member l e (put name d ms)))
          ≡ (is_one_of name all && (is_one_of l all && has_only all ms))
      by_order later Less is = refl
      by_order later Equal is =
          let same : name ≡ l = same_name name l (sym (is_eq-slice_cmp name l) ∙ ap is_eq is) in
          twice (is_one_of l all) (has_only all ms)
          ∙ ap (λ n. is_one_of n all && (is_one_of l all && has_only all ms)) (sym same)
      by_order later Greater is =
          ap (λ bit. is_one_of l all && bit) later ∙ swapped (is_one_of l all) (is_one_of name all) (has_only all ms)

module _ (name : List ℕ) (d : Data) (ms : Members) where
  number_stays : (field : Field) → is_named name field ≡ false
      → field_number field (object (put name d ms)) ≡ field_number field (object ms)
  unfolding field_number
  number_stays field e =
      ap (number_in field)
      (get_member-put_other (field_name field) name d ms (λ same. other_name name (field_name field) e (sym same)))

  number_read : (field : Field) → is_named name field ≡ true
      → field_number field (object (put name d ms)) ≡ whole_in d
  unfolding field_number
  number_read field e =
      ap (number_in field)
      (ap (λ n. get_member (field_name field) (put n d ms)) (same_name name (field_name field) e)
      ∙ get_member-put (field_name field) d ms)

  wholes_stay : (fs : List Field) → list_any (is_named name) fs ≡ false
      → wholes_of fs (object ms) ≡ wholes_of fs (object (put name d ms))
  wholes_stay [] none = refl
  wholes_stay (f ∷ fs) none =
      let parts = or_parts (is_named name f) (list_any (is_named name) fs) none in
      ap₂ (λ n ns. n ∷ ns) (sym (number_stays f parts.0)) (wholes_stay fs parts.1)

  wholes_set : (fs : List Field) (i : ℕ) → are_apart fs ≡ true → i < length fs
      → is_named name (get_or fs i Version) ≡ true
      → ((k : ℕ) → k < i → is_named name (get_or fs k Version) ≡ false)
      → set (wholes_of fs (object ms)) i (whole_in d) ≡ wholes_of fs (object (put name d ms))
  wholes_set [] i apart less here before = absurd (omega arith)
  wholes_set (f ∷ fs) zero apart less here before =
      let parts = and_parts (not (list_any (is_named (field_name f)) fs)) (are_apart fs) apart in
      let others : list_any (is_named name) fs ≡ false =
      ap (λ n. list_any (is_named n) fs) (same_name name (field_name f) here)
      ∙ turned (list_any (is_named (field_name f)) fs) parts.0 in
      ap₂ (λ n ns. n ∷ ns) (sym (number_read f here)) (wholes_stay fs others)
    where
      turned : (a : Bool) → not a ≡ true → a ≡ false
      turned true e = absurd (cc)
      turned false e = refl
  wholes_set (f ∷ fs) (suc i) apart less here before =
      let parts = and_parts (not (list_any (is_named (field_name f)) fs)) (are_apart fs) apart in
      ap₂ (λ n ns. n ∷ ns) (sym (number_stays f (before 0 (omega arith))))
      (wholes_set fs i parts.1 (omega arith) here (λ k below. before (suc k) (omega arith)))

  -- reading a field with another name does not change the content known for this name
  pub still_says : {X : Type 0} (says : Data → X) (key : List ℕ) (known : Option X) → bytes_eq name key ≡ false
      → Says says key known ms → Says says key known (put name d ms)
  still_says says key known e h =
      h ∙ ap (option_map says) (sym (get_member-put_other key name d ms (λ same. other_name name key e (sym same))))

  -- after reading a field with this name, its content is known for this name
  pub now_says : {X : Type 0} (says : Data → X) (key : List ℕ) (new : X) → bytes_eq name key ≡ true → new ≡ says d
      → Says says key (Some new) (put name d ms)
  now_says says key new e is =
      ap Some is
      ∙ ap (option_map says)
      (sym (ap (λ n. get_member key (put n d ms)) (same_name name key e) ∙ get_member-put key d ms))

-- ---- all fields

wholes_none : (fs : List Field) → map default_of fs ≡ wholes_of fs (object no_members)
unfolding field_number
wholes_none [] = refl
wholes_none (f ∷ fs) = ap (λ ns. default_of f ∷ ns) (wholes_none fs)

pub no_fields : (kind : Kind) (wholes : Vec (Option ℕ) Global) → wholes.items ≡ map default_of (whole_fields kind)
    → AreFieldValues kind (record { wholes = wholes; list = None; has_other = false }) no_members
unfolding has_only
no_fields kind wholes e = record {
  wholes = e ∙ wholes_none (whole_fields kind);
  list = refl;
  other = refl;
}

module _ (kind : Kind) (f : code.FieldValues) (ms : Members) (name : List ℕ) (d : Data) (h : AreFieldValues kind f ms) where
  -- reading a field of the kind does not change whether all fields belong to the kind
  known : (f.has_other ≡ not (has_only (names kind) ms)) → is_one_of name (names kind) ≡ true
      → f.has_other ≡ not (has_only (names kind) (put name d ms))
  known e one =
      e ∙ ap not (sym (has_only_put name d (names kind) ms ∙ ap (λ bit. bit && has_only (names kind) ms) one))

  first_one : (a x : Bool) → a ≡ true → (a || x) ≡ true
  first_one a x e = ap (λ bit. bit || x) e

  pub whole_set : (i : ℕ) (wholes : Vec (Option ℕ) Global) → position (is_named name) (whole_fields kind) ≡ Some i
      → wholes.items ≡ set f.wholes.items i (whole_in d)
      → AreFieldValues kind (record f { wholes = wholes }) (put name d ms)
  whole_set i wholes is e =
      let place = position-Some (is_named name) (whole_fields kind) i Version is in
      let found : list_any (is_named name) (whole_fields kind) ≡ true =
      list_any_at (is_named name) (whole_fields kind) i Version place.0 place.1 in
      let apart : is_named name (list_field kind) ≡ false = by_test found (is_named name (list_field kind)) refl in
      record {
        wholes = e
            ∙ ap (λ ns. set ns i (whole_in d)) h.wholes
            ∙ wholes_set name d ms (whole_fields kind) i (wholes_apart kind) place.0 place.1 place.2;
        list = still_says name d ms (list_said kind) (field_name (list_field kind)) (option_map list_kept f.list) apart h.list;
        other = known h.other (one_of_names kind name ∙ first_one _ _ found);
      }
    where
      by_test : list_any (is_named name) (whole_fields kind) ≡ true → (a : Bool) → is_named name (list_field kind) ≡ a
          → a ≡ false
      by_test found true same =
          absurd (true≢false (sym found
          ∙ ap (λ n. list_any (is_named n) (whole_fields kind)) (same_name name (field_name (list_field kind)) same)
          ∙ list_apart kind))
      by_test found false same = refl

  pub list_set : (kept : code_list.KeptList) → position (is_named name) (whole_fields kind) ≡ None
      → is_named name (list_field kind) ≡ true → list_kept kept ≡ list_said kind d
      → AreFieldValues kind (record f { list = Some kept }) (put name d ms)
  list_set kept none here e =
      let others = none_named (is_named name) (whole_fields kind) none in record {
        wholes = h.wholes ∙ wholes_stay name d ms (whole_fields kind) others;
        list = now_says name d ms (list_said kind) (field_name (list_field kind)) (list_kept kept) here e;
        other = known h.other
            (one_of_names kind name ∙ ap₂ (λ a x. a || (x || false)) others here);
      }

  pub other_set : position (is_named name) (whole_fields kind) ≡ None → is_named name (list_field kind) ≡ false
      → AreFieldValues kind (record f { has_other = true }) (put name d ms)
  other_set none apart =
      let others = none_named (is_named name) (whole_fields kind) none in record {
        wholes = h.wholes ∙ wholes_stay name d ms (whole_fields kind) others;
        list = still_says name d ms (list_said kind) (field_name (list_field kind)) (option_map list_kept f.list) apart h.list;
        other = sym (ap not (has_only_put name d (names kind) ms
            ∙ ap (λ bit. bit && has_only (names kind) ms) (no_name kind name none apart)));
      }

  pub has_length : length f.wholes.items ≡ length (whole_fields kind)
  has_length = ap length h.wholes ∙ many (whole_fields kind)
    where
      many : (fs : List Field) → length (wholes_of fs (object ms)) ≡ length fs
      many [] = refl
      many (one ∷ others) = ap suc (many others)
