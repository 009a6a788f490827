-- A version that allows a text, an item or a list reads it as the newest version does, and any other version refuses
-- it.
use Rattle.std.proofs.Common.{◌≡◌, ℕ, ◌&&◌, List, [], ◌∷◌, Bool, true, false, cond, Option, Some, None, option_and_then, option_map, Result, Err, refl, sym, ap, ap₂, ◌∙◌}
use Rattle.std.specs.Prelude.{unwrap_or}
use Rattle.serde_json.specs.Data.{Data, Items, no_items, item}
use Rattle.serde_json.specs.Find.{as_array, as_str}
use Rattle.mencius_base.specs.CommandState.{CommandState}
use Rattle.mencius_base.specs.declared.event.Event.{Event}
use Rattle.mencius_io.specs.declared.fault.IoFault.{IoFault}
use Rattle.mencius_io.specs.declared.fault.IoFault.TheVariants.{BadShape}
use Rattle.mencius_format.specs.Grammar.{command_of, is_command_within, event_of, is_event_within}
use Rattle.mencius_format.specs.ValuesOrFaults.{value_or_fault}
use Rattle.mencius_format.specs.TextVersions.{command_version, event_version}
use Rattle.mencius_format.specs.Versions.{first_version, may_stand_in, newest_version}
use Rattle.mencius_format.specs.Words.{words}
use Rattle.mencius_format.proofs.OperationWords.{where_stands}
use Rattle.mencius_format.proofs.VersionWords.{all_stand, command_in, event_in}
use Rattle.mencius_format.proofs.Versions.{both_stand}
use Rattle.mencius_input.specs.Newest.{command_item_version, event_item_version, in_version, items_version, list_version, text_version}
use Rattle.mencius_input.specs.Plan.{command_said, commands_read}
use Rattle.mencius_input.specs.Scenario.{all_in, all_of, item_said, said_by}

-- ---- texts, items and lists

module _ (version : ℕ) where
  -- `o` if the version allows content that needs the version `needed`, and no result otherwise
  abbrev where_had : {X : Type 0} → ℕ → Option X → Option X
  where_had needed o = where_stands (may_stand_in needed version) o

  module _ {X : Type 0} (read newest : List (List ℕ) → Option X) (needed : List (List ℕ) → ℕ)
      (h : (ws : List (List ℕ)) → read ws ≡ where_had (needed ws) (newest ws)) where
    text_in : (o : Option (List ℕ)) → option_and_then (λ text. read (words text)) o
        ≡ where_had (text_version needed o) (option_and_then (λ text. newest (words text)) o)
    text_in None = all_stand version None
    text_in (Some text) = h (words text)

  module _ {X : Type 0} (read newest : Data → Option X) (needed : Data → ℕ)
      (h : (d : Data) → read d ≡ where_had (needed d) (newest d)) where
    both_had : (a d : Bool) (o : Option X) (s : Option (List X))
        → option_and_then (λ x. option_and_then (λ xs. Some (x ∷ xs)) (where_stands d s)) (where_stands a o)
        ≡ where_stands (a && d) (option_and_then (λ x. option_and_then (λ xs. Some (x ∷ xs)) s) o)
    both_had true true o s = refl
    both_had true false None s = refl
    both_had true false (Some x) s = refl
    both_had false d o s = refl

    items_in : (ds : Items) → all_of read ds ≡ where_had (items_version needed ds) (all_of newest ds)
    unfolding all_of items_version
    items_in no_items = all_stand version (Some [])
    items_in (item d ds) =
        ap₂ (λ o s. option_and_then (λ x. option_and_then (λ xs. Some (x ∷ xs)) s) o) (h d) (items_in ds)
        ∙ both_had (may_stand_in (needed d) version) (may_stand_in (items_version needed ds) version) (newest d)
        (all_of newest ds)
        ∙ ap (λ bit. where_stands bit (all_of newest (item d ds)))
        (sym (both_stand (needed d) (items_version needed ds) version))

    these_in : (o : Option Items) → option_and_then (all_of read) o
        ≡ where_had (unwrap_or (option_map (items_version needed) o) first_version) (option_and_then (all_of newest) o)
    these_in None = all_stand version None
    these_in (Some ds) = items_in ds

    list_in : (d : Data) → all_in read d ≡ where_had (list_version needed d) (all_in newest d)
    list_in d = these_in (as_array d)

  command_of_said : (d : Data)
      → said_by (command_of version) d ≡ where_had (command_item_version d) (said_by (command_of newest_version) d)
  command_of_said d =
      text_in (command_of version) (command_of newest_version) command_version (command_in version) (as_str d)

  event_said : (d : Data)
      → said_by (event_of version) d ≡ where_had (event_item_version d) (said_by (event_of newest_version) d)
  event_said d = text_in (event_of version) (event_of newest_version) event_version (event_in version) (as_str d)

  -- ---- content that was judged before its version was known

  read_in_version : {X : Type 0} (within : X → Bool) (needed : ℕ) (read newest : Option X) → read ≡ where_had needed newest
      → in_version version (record { said = value_or_fault within newest; version = needed })
      ≡ value_or_fault within read
  read_in_version within needed read newest h =
      by_test (may_stand_in needed version) ∙ ap (value_or_fault within) (sym h)
    where
      by_test : (a : Bool)
          → ◌≡◌ {A = Result _ IoFault} (cond a (value_or_fault within newest) (Err BadShape))
          (value_or_fault within (where_stands a newest))
      by_test true = refl
      by_test false = refl

  -- events that were read in the newest version have the result that this version gives them
  pub events_said_in : (within : List Event → Bool) (d : Data)
      → in_version version (record {
        said = value_or_fault within (all_in (said_by (event_of newest_version)) d);
        version = list_version event_item_version d;
      }) ≡ value_or_fault within (all_in (said_by (event_of version)) d)
  events_said_in within d =
      read_in_version within (list_version event_item_version d) _ _
      (list_in (said_by (event_of version)) (said_by (event_of newest_version)) event_item_version event_said d)

  pub lists_said_in : (within : List (List CommandState) → Bool) (d : Data)
      → in_version version (record {
        said = value_or_fault within (all_in (commands_read newest_version) d);
        version = list_version (list_version command_item_version) d;
      }) ≡ value_or_fault within (all_in (commands_read version) d)
  lists_said_in within d =
      read_in_version within (list_version (list_version command_item_version) d) _ _
      (list_in (commands_read version) (commands_read newest_version) (list_version command_item_version)
      (list_in (said_by (command_of version)) (said_by (command_of newest_version)) command_item_version command_of_said) d)

  pub item_said_in : (d : Data)
      → in_version version (record { said = item_said newest_version d; version = event_item_version d })
      ≡ item_said version d
  item_said_in d = read_in_version is_event_within (event_item_version d) _ _ (event_said d)

  pub command_said_in : (d : Data)
      → in_version version (record { said = command_said newest_version d; version = command_item_version d })
      ≡ command_said version d
  command_said_in d = read_in_version is_command_within (command_item_version d) _ _ (command_of_said d)
