-- The code reads the task that `clap` finds. The file also computes the task, or the kinds of error, of some command
-- lines.
use Rattle.std.specs.Prelude.{◌≡◌, ◌++◌, ◌-◌, ◌^◌, Bool, true, false, List, [], ◌∷◌, Option, Some, None, Result, codes, option_map, Box, String, length, map, string_bytes}
use Rattle.std.specs.Option.{option_map_or}
use Rattle.std.specs.Box.{box_value}
use Rattle.std.specs.Borrow.{Bor}
use Rattle.std.specs.Str.{bytes_eq}
use Rattle.std.proofs.Common.{arith, refl, ap, ◌∙◌, inl, inr, sym}
use Rattle.std.specs.Result.{IsErrAnd}
use Rattle.std.proofs.lemmas.Result.{err_from_is_err_and}
use Rattle.clap.specs.Kinds.{FailsBy, HasKind, or_else}
use Rattle.clap.specs.Words.{Kinds, Row, Text, first_value, found_of, is_simple_and_free, rows_of, subcommand_rows}
use Rattle.clap.specs.declared.error.Error.{Error}
use Rattle.clap.specs.declared.error.kind.ErrorKind.TheVariants as kind
use Rattle.clap.specs.declared.parser.matches.ArgMatches.TheViews.{out-SubCommand}
use Rattle.clap.specs.declared.parser.matches.Found.{Found}
use Rattle.clap.specs.declared.parser.matches.SubCommand.{SubCommand}
use Rattle.clap.proofs.OnLiterals.{clap_on_literals}
use Rattle.clap.proofs.WalkLemmas.{first_value-rows}
use Rattle.mencius_base.specs.Command.{is_name}
use Rattle.mencius_format.specs.Words.{number_of}
use Rattle.mencius_command_line.specs.CommandLine.{TaskState, task_in, asked_replay, asked_clients, asked_draw, asked_judge, asked_run, faults, program, with_joined_key}
use Rattle.mencius_command_line.specs.Options.{has_flag}
use Rattle.mencius_draw.specs.declared.options.Scheme.TheVariants.{Both, Light, Dark}

-- ---- flags and tasks that were found

-- a flag that has a text is given exactly if the text is "true"
pub flag_there : (f : Found) (id : Text) (s : Bor Text) (a : Bool) → Some s.now ≡ first_value f id
    → a ≡ bytes_eq s.now (codes "true") → a ≡ has_flag id (rows_of f)
flag_there found id s a e is = is ∙ ap (λ o. option_map_or (λ text. bytes_eq text (codes "true")) o false) (e
    ∙ first_value-rows found id)

-- a flag without a text is not given
pub flag_missing : (f : Found) (id : Text) → None ≡ first_value f id → false ≡ has_flag id (rows_of f)
flag_missing found id e =
    ap (λ o. option_map_or (λ text. bytes_eq text (codes "true")) o false) (e ∙ first_value-rows found id)

-- the task that was found has the name and the rows that the code reads
pub task_found : {Z : Type 0} (s : Option (Box SubCommand Z)) (name : Text) (rows : List Row)
    → Some name ≡ option_map (λ task. (out-SubCommand (box_value task)).name.now) s
    → Some rows ≡ option_map (λ pair. pair.1) (subcommand_rows s) → subcommand_rows s ≡ Some (name, rows)
task_found None name rows n r = absurd (cc)
task_found (Some found_command) name rows n r =
    let same : name ≡ (out-SubCommand (box_value found_command)).name.now = cc in
    let found : rows ≡ rows_of (found_of (out-SubCommand (box_value found_command)).matches) = cc in
    rw (same, found) refl

-- ---- errors

pub program_simple : is_simple_and_free program ≡ true
unfolding clap_on_literals
program_simple = refl

-- an error of a kind that `clap` finds is also an error of the whole command line
kinds_first : (kinds next : Kinds) (e : Error) → HasKind kinds e → HasKind (or_else kinds next) e
kinds_first [] next e (inl memory) = inl memory
kinds_first [] next e (inr none) = absurd none
kinds_first (one ∷ others) next e h = h

pub err_first : {T : Type 0} (kinds next : Kinds) (r : Result T Error) (e : Error) → IsErrAnd r (λ x. x ≡ e)
    → HasKind kinds e → FailsBy (or_else kinds next) r
err_first kinds next r e is h =
    let failing = err_from_is_err_and r is in rw (failing.1, failing.2) (kinds_first kinds next e h)

pub err_of : {T : Type 0} (kinds : Kinds) (r : Result T Error) (e : Error) → IsErrAnd r (λ x. x ≡ e)
    → HasKind kinds e → FailsBy kinds r
err_of kinds r e is h = let failing = err_from_is_err_and r is in rw (failing.1, failing.2) h

pub kinds_next : (kinds next : Kinds) → kinds ≡ [] → or_else kinds next ≡ next
kinds_next kinds next h = ap (λ ks. or_else ks next) h

-- ---- examples of command lines, with the task or the kinds of error (an accepted command line has none)

abbrev fault_at : List Text → Kinds
fault_at words = faults (codes "mencius" ∷ words)

abbrev asked_at : List Text → TaskState
asked_at words = task_in (codes "mencius" ∷ words)

replay-taken : fault_at (codes "replay" ∷ []) ≡ []
unfolding clap_on_literals
replay-taken = refl

replay-asked : asked_at (codes "replay" ∷ []) ≡ asked_replay false
unfolding clap_on_literals
replay-asked = refl

strict-asked : asked_at (codes "replay" ∷ codes "--strict" ∷ []) ≡ asked_replay true
unfolding clap_on_literals
strict-asked = refl

strict-taken : fault_at (codes "replay" ∷ codes "--strict" ∷ []) ≡ []
unfolding clap_on_literals
strict-taken = refl

task-missing : fault_at [] ≡ kind.MissingSubcommand ∷ []
unfolding clap_on_literals
task-missing = refl

task-unknown : fault_at (codes "walk" ∷ []) ≡ kind.UnknownArgument ∷ kind.InvalidSubcommand ∷ []
unfolding clap_on_literals
task-unknown = refl

word-after-replay : fault_at (codes "replay" ∷ codes "now" ∷ []) ≡ kind.UnknownArgument ∷ []
unfolding clap_on_literals
word-after-replay = refl

option-unknown : fault_at (codes "--loud" ∷ codes "replay" ∷ []) ≡ kind.UnknownArgument ∷ []
unfolding clap_on_literals
option-unknown = refl

help-asked : fault_at (codes "--help" ∷ []) ≡ kind.DisplayHelp ∷ []
unfolding clap_on_literals
help-asked = refl

help-of-replay-asked : fault_at (codes "replay" ∷ codes "-h" ∷ []) ≡ kind.DisplayHelp ∷ []
unfolding clap_on_literals
help-of-replay-asked = refl

version-asked : fault_at (codes "--version" ∷ []) ≡ kind.DisplayVersion ∷ []
unfolding clap_on_literals
version-asked = refl

-- the first word is the program's name, even if it looks like an option
name-left-out : faults (codes "--lookup" ∷ codes "replay" ∷ []) ≡ []
unfolding clap_on_literals
name-left-out = refl

draw-taken : fault_at (codes "draw" ∷ []) ≡ []
unfolding clap_on_literals
draw-taken = refl

draw-asked : asked_at (codes "draw" ∷ []) ≡ asked_draw (Some (record { first = 0; last = 2 ^ 32 - 1; scheme = Both }))
unfolding clap_on_literals
draw-asked = refl

part-asked : asked_at (codes "draw" ∷ codes "--from" ∷ codes "3" ∷ codes "--to=9" ∷ codes "--dark" ∷ [])
    ≡ asked_draw (Some (record { first = 3; last = 9; scheme = Dark }))
unfolding clap_on_literals number_of
part-asked = refl

part-taken : fault_at (codes "draw" ∷ codes "--from" ∷ codes "3" ∷ codes "--to=9" ∷ codes "--dark" ∷ []) ≡ []
unfolding clap_on_literals number_of
part-taken = refl

light-asked : asked_at (codes "draw" ∷ codes "--light" ∷ [])
    ≡ asked_draw (Some (record { first = 0; last = 2 ^ 32 - 1; scheme = Light }))
unfolding clap_on_literals
light-asked = refl

place-no-number : fault_at (codes "draw" ∷ codes "--from" ∷ codes "x" ∷ []) ≡ kind.ValueValidation ∷ []
unfolding clap_on_literals number_of
place-no-number = refl

place-past-its-limit : fault_at (codes "draw" ∷ codes "--to=4294967296" ∷ []) ≡ kind.ValueValidation ∷ []
unfolding clap_on_literals number_of
place-past-its-limit = refl

judge-asked : asked_at (codes "judge" ∷ []) ≡ asked_judge false false
unfolding clap_on_literals
judge-asked = refl

brief-asked : asked_at (codes "judge" ∷ codes "--brief" ∷ []) ≡ asked_judge true false
unfolding clap_on_literals
brief-asked = refl

json-asked : asked_at (codes "judge" ∷ codes "--json" ∷ []) ≡ asked_judge false true
unfolding clap_on_literals
json-asked = refl

json-taken : fault_at (codes "judge" ∷ codes "--json" ∷ codes "--brief" ∷ []) ≡ []
unfolding clap_on_literals
json-taken = refl

clients-asked : asked_at (codes "judge" ∷ codes "--clients" ∷ [])
    ≡ asked_clients (Some (record { most = 100000; with_order = false; is_brief = false; is_json = false }))
unfolding clap_on_literals
clients-asked = refl

order-asked : asked_at (codes "judge" ∷ codes "--clients" ∷ codes "--order" ∷ codes "--most" ∷ codes "9" ∷ [])
    ≡ asked_clients (Some (record { most = 9; with_order = true; is_brief = false; is_json = false }))
unfolding clap_on_literals number_of
order-asked = refl

order-taken : fault_at (codes "judge" ∷ codes "--clients" ∷ codes "--order" ∷ codes "--most=9" ∷ []) ≡ []
unfolding clap_on_literals number_of
order-taken = refl

most-no-number : fault_at (codes "judge" ∷ codes "--clients" ∷ codes "--most=x" ∷ []) ≡ kind.ValueValidation ∷ []
unfolding clap_on_literals number_of
most-no-number = refl

order-without-clients : fault_at (codes "judge" ∷ codes "--order" ∷ []) ≡ kind.ValueValidation ∷ []
unfolding clap_on_literals
order-without-clients = refl

most-without-clients : fault_at (codes "judge" ∷ codes "--most=9" ∷ []) ≡ kind.ValueValidation ∷ []
unfolding clap_on_literals
most-without-clients = refl

clients-with-json : asked_at (codes "judge" ∷ codes "--clients" ∷ codes "--json" ∷ codes "--brief" ∷ [])
    ≡ asked_clients (Some (record { most = 100000; with_order = false; is_brief = true; is_json = true }))
unfolding clap_on_literals
clients-with-json = refl

run-taken : fault_at (codes "run" ∷ []) ≡ []
unfolding clap_on_literals
run-taken = refl

run-asked : asked_at (codes "run" ∷ []) ≡ asked_run false false None
unfolding clap_on_literals
run-asked = refl

run-with-both : asked_at (codes "run" ∷ codes "--journal" ∷ codes "--lookup" ∷ codes "a" ∷ []) ≡ asked_run true false (Some
    (codes "a"))
unfolding clap_on_literals
run-with-both = refl

run-with-both-taken : fault_at (codes "run" ∷ codes "--lookup=a" ∷ codes "--journal" ∷ []) ≡ []
unfolding clap_on_literals is_name
run-with-both-taken = refl

run-with-observations : asked_at (codes "run" ∷ codes "--observations" ∷ []) ≡ asked_run false true None
unfolding clap_on_literals
run-with-observations = refl

journal-twice : fault_at (codes "run" ∷ codes "--journal" ∷ codes "--journal" ∷ []) ≡ kind.ArgumentConflict ∷ []
unfolding clap_on_literals
journal-twice = refl

key-missing : fault_at (codes "run" ∷ codes "--lookup" ∷ []) ≡ kind.InvalidValue ∷ []
unfolding clap_on_literals
key-missing = refl

-- a key may begin with a hyphen, after `=` or as a word of its own, and is then not read as an option
hyphen-key : asked_at (codes "run" ∷ codes "--lookup=-a" ∷ []) ≡ asked_run false false (Some (codes "-a"))
unfolding clap_on_literals
hyphen-key = refl

hyphen-key-taken : fault_at (codes "run" ∷ codes "--lookup=-a" ∷ []) ≡ []
unfolding clap_on_literals is_name
hyphen-key-taken = refl

hyphen-key-apart : asked_at (codes "run" ∷ codes "--lookup" ∷ codes "-a" ∷ []) ≡ asked_run false false (Some (codes "-a"))
unfolding clap_on_literals
hyphen-key-apart = refl

hyphen-key-apart-taken : fault_at (codes "run" ∷ codes "--lookup" ∷ codes "-a" ∷ []) ≡ []
unfolding clap_on_literals is_name
hyphen-key-apart-taken = refl

option-as-a-key : asked_at (codes "run" ∷ codes "--lookup" ∷ codes "--journal" ∷ []) ≡ asked_run false false (Some
    (codes "--journal"))
unfolding clap_on_literals
option-as-a-key = refl

hyphen-key-with-a-bad-byte : fault_at (codes "run" ∷ codes "--lookup" ∷ codes "-!" ∷ []) ≡ kind.ValueValidation ∷ []
unfolding clap_on_literals is_name
hyphen-key-with-a-bad-byte = refl

key-with-a-bad-byte : fault_at (codes "run" ∷ codes "--lookup" ∷ codes "a!" ∷ []) ≡ kind.ValueValidation ∷ []
unfolding clap_on_literals is_name
key-with-a-bad-byte = refl

empty-key : fault_at (codes "run" ∷ codes "--lookup=" ∷ []) ≡ kind.ValueValidation ∷ []
unfolding clap_on_literals is_name
empty-key = refl

-- `--lookup` and the word after it are read as one word
pub joined_key : (word key made : Text) (words : List Text) → bytes_eq word (codes "--lookup") ≡ true
    → made ≡ word ++ 61 ∷ key → with_joined_key (word ∷ key ∷ words) ≡ made ∷ with_joined_key words
joined_key word key made words same is = rw same (ap (λ text. text ∷ with_joined_key words) (sym is))

-- any word except `--lookup` is read unchanged
pub other_word : (word : Text) (words : List Text) → bytes_eq word (codes "--lookup") ≡ false
    → with_joined_key (word ∷ words) ≡ word ∷ with_joined_key words
other_word word [] other = refl
other_word word (key ∷ words) other = rw other refl

-- the last word is read unchanged
pub last_word : {Z : Type 0} (word : Text) (words : List (String Z)) → length words ≡ 0
    → with_joined_key (word ∷ map string_bytes words) ≡ word ∷ with_joined_key (map string_bytes words)
last_word word [] none = refl
last_word word (x ∷ words) none = absurd (omega (arith, none))
