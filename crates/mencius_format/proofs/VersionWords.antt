-- A version that allows the words of a text reads them as the newest version does, and any other version reads nothing.
use Rattle.std.proofs.Common.{◌≡◌, ℕ, ◌+◌, ◌==◌, List, [], ◌∷◌, ◌++◌, take, drop, Bool, true, false, cond, Option, Some, None, option_map, refl, sym, ap, ◌∙◌, codes}
use Rattle.std.specs.Option.{option_zip}
use Rattle.std.specs.List.{position}
use Rattle.std.specs.Str.{bytes_eq}
use Rattle.mencius_base.specs.CommandState.{CommandState}
use Rattle.mencius_base.specs.declared.command.CommandId.{CommandId}
use Rattle.mencius_base.specs.declared.command.Op.{Op}
use Rattle.mencius_base.specs.declared.event.Event.{Event}
use Rattle.mencius_base.specs.declared.event.Event.TheVariants.{Submit}
use Rattle.mencius_format.specs.Grammar.{command_of, event_of, id_of, submit_of}
use Rattle.mencius_format.specs.Operations.{op_of, op_version, words_version}
use Rattle.mencius_format.specs.TextVersions.{command_version, event_version, submit_version}
use Rattle.mencius_format.specs.Versions.{first_version, may_stand_in, newest_version}
use Rattle.mencius_format.specs.Words.{number_of, words}
use Rattle.mencius_format.proofs.CutWords.{found_parts, lacking_parts, not_first, other_text}
use Rattle.mencius_format.proofs.OperationWords.{op_in, op_read, where_stands}
use Rattle.mencius_format.proofs.Versions.{first_stands}

map_stands : {X Y : Type 0} (f : X → Y) (stands : Bool) (o : Option X)
    → option_map f (where_stands stands o) ≡ where_stands stands (option_map f o)
map_stands f true o = refl
map_stands f false o = refl

zip_stands : {X Y : Type 0} (stands : Bool) (o : Option X) (s : Option Y)
    → option_zip o (where_stands stands s) ≡ where_stands stands (option_zip o s)
zip_stands true o s = refl
zip_stands false None s = refl
zip_stands false (Some x) s = refl

made_stands : {X Y Z : Type 0} (make : X × Y → Z) (stands : Bool) (x : Option X) (o s : Option Y)
    → o ≡ where_stands stands s
    → option_map make (option_zip x o) ≡ where_stands stands (option_map make (option_zip x s))
made_stands make stands x o s e =
    ap (λ y. option_map make (option_zip x y)) e ∙ ap (option_map make) (zip_stands stands x s)
    ∙ map_stands make stands (option_zip x s)

-- every version allows a value that needs only the first version
pub all_stand : {X : Type 0} (version : ℕ) (o : Option X) → o ≡ where_stands (may_stand_in first_version version) o
all_stand version o = sym (ap (λ bit. where_stands bit o) (first_stands version))

pub command_in : (version : ℕ) (ws : List (List ℕ))
    → command_of version ws ≡ where_stands (may_stand_in (command_version ws) version) (command_of newest_version ws)
unfolding command_of
command_in version [] = all_stand version None
command_in version (id ∷ ws) =
    made_stands (λ pair. record { id = pair.0; op = pair.1 }) (may_stand_in (words_version ws) version) (id_of id)
    (op_of version ws) (op_of newest_version ws) (op_in version ws)

submit_in : (version : ℕ) (ws : List (List ℕ))
    → submit_of version ws ≡ where_stands (may_stand_in (submit_version ws) version) (submit_of newest_version ws)
unfolding submit_of
submit_in version [] = all_stand version None
submit_in version (server ∷ ws) =
    made_stands (λ pair. Submit pair.0 pair.1) (may_stand_in (command_version ws) version) (number_of server)
    (command_of version ws) (command_of newest_version ws) (command_in version ws)

pub event_in : (version : ℕ) (ws : List (List ℕ))
    → event_of version ws ≡ where_stands (may_stand_in (event_version ws) version) (event_of newest_version ws)
unfolding event_of
event_in version [] = all_stand version None
event_in version (word ∷ ws) = by_test _ (bytes_eq word (codes "submit"))
  where
    by_test : (other : Option Event) (a : Bool)
        → cond a (submit_of version ws) other
        ≡ where_stands (may_stand_in (cond a (submit_version ws) first_version) version)
        (cond a (submit_of newest_version ws) other)
    by_test other true = submit_in version ws
    by_test other false = all_stand version other

-- a text that does not begin as a submission needs only the first version
pub no_submission : (text : List ℕ) → ((rest : List ℕ) → text ≡ codes "submit" ++ 32 ∷ rest → ⊥)
    → event_version (words text) ≡ first_version
no_submission text none = by_place (position (λ byte. byte == 32) text) refl
  where
    same : (a : Bool) → cond a first_version first_version ≡ first_version
    same true = refl
    same false = refl

    by_place : (o : Option ℕ) → position (λ byte. byte == 32) text ≡ o → event_version (words text) ≡ first_version
    by_place None is = ap event_version (lacking_parts 32 text is) ∙ same (bytes_eq text (codes "submit"))
    by_place (Some n) is =
        ap event_version (found_parts 32 text n is)
        ∙ ap (λ bit. cond bit (submit_version (words (drop (n + 1) text))) first_version)
        (other_text (take n text) (codes "submit") (not_first (codes "submit") text n is none))

-- ---- words of the newest version need exactly the version of the operation that they describe

pub command_needs : (ws : List (List ℕ)) (x : CommandState) → command_of newest_version ws ≡ Some x
    → command_version ws ≡ op_version x.op
unfolding command_of
command_needs [] x e = absurd (cc)
command_needs (id ∷ ws) x e = made (id_of id) (op_of newest_version ws) refl e
  where
    made : (o : Option CommandId) (s : Option Op) → op_of newest_version ws ≡ s
        → option_map (λ pair. record { id = pair.0; op = pair.1 }) (option_zip o s) ≡ Some x
        → words_version ws ≡ op_version x.op
    made None s is e = absurd (cc)
    made (Some i) None is e = absurd (cc)
    made (Some i) (Some op) is e =
        let same : ◌≡◌ {A = CommandState} (record { id = i; op = op }) x = cc in
        op_read ws op is ∙ ap (λ (y : CommandState). op_version y.op) same

pub submit_needs : (ws : List (List ℕ)) (s : ℕ) (x : CommandState) → submit_of newest_version ws ≡ Some (Submit s x)
    → submit_version ws ≡ op_version x.op
unfolding submit_of
submit_needs [] s x e = absurd (cc)
submit_needs (server ∷ ws) s x e = made (number_of server) (command_of newest_version ws) refl e
  where
    made : (o : Option ℕ) (r : Option CommandState) → command_of newest_version ws ≡ r
        → option_map (λ pair. Submit pair.0 pair.1) (option_zip o r) ≡ Some (Submit s x)
        → command_version ws ≡ op_version x.op
    made None r is e = absurd (cc)
    made (Some n) None is e = absurd (cc)
    made (Some n) (Some y) is e =
        let both : Submit n y ≡ Submit s x = cc in
        let same : y ≡ x = cc in
        command_needs ws y is ∙ ap (λ (z : CommandState). op_version z.op) same
