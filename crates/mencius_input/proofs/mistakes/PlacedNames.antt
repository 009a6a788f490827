-- If no field of a text has a place for a fault, no field of its object has one.
use Rattle.std.proofs.Common.{◌≡◌, ◌∙◌, ◌<◌, arith, ℕ, zero, suc, List, [], ◌∷◌, length, get_or, Bool, true, false, cond, is_some, option_map, option_and_then, Option, Some, None, refl, sym, ap}
use Rattle.std.specs.Prelude.{unwrap_or}
use Rattle.std.specs.List.{find, list_any}
use Rattle.std.specs.Option.{option_or}
use Rattle.std.specs.Str.{bytes_eq}
use Rattle.std.proofs.lemmas.Bool.{and_from, or_parts}
use Rattle.json.specs.Json as json
use Rattle.serde_json.specs.Data.{Data, Members, put}
use Rattle.serde_json.specs.Find.{get_member}
use Rattle.serde_json.specs.Read.{of_json, of_members}
use Rattle.serde_json.proofs.Views.{get_member-put_other}
use Rattle.mencius_io.specs.declared.fault.IoFault.{IoFault}
use Rattle.mencius_io.specs.declared.fault.IoFault.TheVariants.{BadShape}
use Rattle.mencius_input.specs.declared.kind.Kind.{Kind}
use Rattle.mencius_input.specs.FieldsOf.{is_one_of, list_field, names, whole_fields}
use Rattle.mencius_input.specs.Places.{field_place, first_in, list_field_place, named_place, names_of, unknown_field}
use Rattle.mencius_input.specs.Scenario.{has_only}
use Rattle.mencius_input.proofs.objects.NamedFields.{has_only_put, is_named, one_of_names, other_name, same_name}

-- ---- searches without a result

module _ {X : Type 0} where
  pub none_both : (a b : Option X) → option_or a b ≡ None → (a ≡ None) × (b ≡ None)
  none_both None b e = (refl, e)
  none_both (Some x) b e = absurd cc

  pub none_mapped : {Y : Type 0} (f : X → Y) (o : Option X) → option_map f o ≡ None → o ≡ None
  none_mapped f None e = refl
  none_mapped f (Some x) e = absurd cc

  none_listed : (test : X → Bool) (xs : List X) → list_any test xs ≡ false → find test xs ≡ None
  none_listed test [] e = refl
  none_listed test (x ∷ xs) e =
      let parts = or_parts (test x) (list_any test xs) e in
      ap (λ b. cond b (Some x) (find test xs)) parts.0 ∙ none_listed test xs parts.1

  pub none_found : (test : X → Bool) (xs : List X) (x : X) → find test xs ≡ None → (i : ℕ) → i < length xs
      → test (get_or xs i x) ≡ false
  none_found test [] x e i less = absurd (omega arith)
  none_found test (y ∷ ys) x e i less = by_test (test y) refl e (λ none n. none_found test ys x none n) i less
    where
      by_test : (a : Bool) → test y ≡ a → cond a (Some y) (find test ys) ≡ None
          → (find test ys ≡ None → (n : ℕ) → n < length ys → test (get_or ys n x) ≡ false)
          → (n : ℕ) → n < suc (length ys) → test (get_or (y ∷ ys) n x) ≡ false
      by_test true is none later n less = absurd cc
      by_test false is none later zero less = is
      by_test false is none later (suc n) less = later none n (omega arith)

  pub not_given : (a : Bool) (x : X) → cond a (Some x) None ≡ None → a ≡ false
  not_given true x e = absurd cc
  not_given false x e = refl

  pub some_unless : (o : Option X) → (o ≡ None → ⊥) → is_some o ≡ true
  some_unless None h = absurd (h refl)
  some_unless (Some x) h = refl

-- ---- the names in a text and the names of its object

module _ (kind : Kind) (fault : IoFault) (d : Data) where
  -- if no field of the text has a place, the field with this key in the object has none
  pub key_passed : (key : List ℕ) (ms : json.Members) (found all : Members) → first_in kind fault d (names_of ms) ≡ None
      → of_members ms found ≡ Some all
      → (is_some (get_member key found) ≡ true → field_place kind fault d key ≡ None)
      → is_some (get_member key all) ≡ true → field_place kind fault d key ≡ None
  unfolding first_in
  key_passed key json.no_members found all none made before there =
      before (ap (λ o. is_some (option_and_then (get_member key) o)) made ∙ there)
  key_passed key (json.member name j ms) found all none made before there =
      let parts = none_both (field_place kind fault d name) (first_in kind fault d (names_of ms)) none in
      by_value parts.0 (of_json j) made (λ e good known. key_passed key ms (put name e found) all parts.1 good known there)
    where
      by_name : field_place kind fault d name ≡ None → (e : Data) (a : Bool) → bytes_eq key name ≡ a
          → is_some (get_member key (put name e found)) ≡ true → field_place kind fault d key ≡ None
      by_name none e true is some = ap (field_place kind fault d) (same_name key name is) ∙ none
      by_name none e false is some =
          before (ap is_some (sym (get_member-put_other key name e found (other_name key name is))) ∙ some)

      by_value : field_place kind fault d name ≡ None → (o : Option Data)
          → option_and_then (λ e. of_members ms (put name e found)) o ≡ Some all
          → ((e : Data) → of_members ms (put name e found) ≡ Some all
          → (is_some (get_member key (put name e found)) ≡ true → field_place kind fault d key ≡ None)
          → field_place kind fault d key ≡ None)
          → field_place kind fault d key ≡ None
      by_value none None good later = absurd cc
      by_value none (Some e) good later = later e good (by_name none e (bytes_eq key name) refl)

  -- if no field of the text has a place, all names of the object are among these names
  pub only_passed : (all_names : List (List ℕ))
      → ((name : List ℕ) → field_place kind fault d name ≡ None → is_one_of name all_names ≡ true)
      → (ms : json.Members) (found all : Members) → first_in kind fault d (names_of ms) ≡ None
      → of_members ms found ≡ Some all → has_only all_names found ≡ true → has_only all_names all ≡ true
  unfolding first_in
  only_passed all_names known json.no_members found all none made before =
      sym (ap (λ o. has_only all_names (unwrap_or o all)) made) ∙ before
  only_passed all_names known (json.member name j ms) found all none made before =
      let parts = none_both (field_place kind fault d name) (first_in kind fault d (names_of ms)) none in
      by_value (known name parts.0) (of_json j) made
      (λ e good more. only_passed all_names known ms (put name e found) all parts.1 good more)
    where
      by_value : is_one_of name all_names ≡ true → (o : Option Data)
          → option_and_then (λ e. of_members ms (put name e found)) o ≡ Some all
          → ((e : Data) → of_members ms (put name e found) ≡ Some all → has_only all_names (put name e found) ≡ true
          → has_only all_names all ≡ true)
          → has_only all_names all ≡ true
      by_value one None good later = absurd cc
      by_value one (Some e) good later = later e good (has_only_put name e all_names found ∙ and_from _ _ one before)

-- a field without a place for `BadShape` has a name of the kind
pub known_name : (kind : Kind) (d : Data) (name : List ℕ) → field_place kind BadShape d name ≡ None
    → is_one_of name (names kind) ≡ true
known_name kind d name none = by_test (is_one_of name (names kind)) refl
  where
    by_test : (a : Bool) → is_one_of name (names kind) ≡ a → a ≡ true
    by_test true is = refl
    by_test false is =
        let parts = or_parts (list_any (is_named name) (whole_fields kind)) _ (sym (one_of_names kind name) ∙ is) in
        let list = or_parts (is_named name (list_field kind)) false parts.1 in
        let there : field_place kind BadShape d name ≡ Some (unknown_field name) =
        ap (named_place kind BadShape d name) (none_listed (is_named name) (whole_fields kind) parts.0)
        ∙ ap (λ b. cond b (list_field_place kind BadShape d) (Some (unknown_field name))) list.0 in
        let both = sym none ∙ there in
        absurd cc
