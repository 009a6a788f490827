use Rattle.std.proofs.Common.{rules, ◌≡◌, ◌∙◌, ◌∷◌, ◌++◌, List, ap, codes, false, map, string_bytes, sym, true}
use Rattle.std.specs.Prelude.{String}
use Rattle.std.specs.Str.{bytes_eq}
use Rattle.std.specs.declared.alloc.Global.{Global}
use Rattle.clap.specs.Words.{Text}
use Rattle.mencius_command_line.specs.CommandLine.{with_joined_key}
use Rattle.mencius_command_line.proofs.CommandLines.{joined_key, last_word, other_word}
use Rattle.mencius_command_line.proofs.line.next_word.Goals.{in_default-via-in-Some+else-eq, in_default-via-in_default}
use Rattle.mencius_command_line.proofs.line.next_word.Goals as goal

abbrev texts : List (String Global) → List Text
texts words = map string_bytes words

pub returns-in_ok-format-in-Some-clause-read : goal.returns-in_ok-format-in-Some-clause-read
returns-in_ok-format-in-Some-clause-read c =
    let is_option : bytes_eq (string_bytes c.args.word.now) (codes "--lookup") ≡ true = search rules in
    let made : string_bytes c.in_ok-format-in-Some.field-0
    ≡ string_bytes c.args.word.now ++ 61 ∷ string_bytes c.in-Some.key.now = search rules in
    ap (λ words. with_joined_key (string_bytes c.args.word.now ∷ texts words)) c.in-Some.ensures.cases.0
    ∙ joined_key _ _ _ (texts c.in-Some.further.now) is_option made

pub returns-in_ok-clone-in_default-clause-read : goal.returns-in_ok-clone-in_default-clause-read
returns-in_ok-clone-in_default-clause-read c =
    let copied : string_bytes c.in_ok-clone-in_default.field-0 ≡ string_bytes c.args.word.now = search rules in
    let left = texts c.args.after.now in
    let same = ap (λ word. word ∷ with_joined_key left) (sym copied) in
    elim c.in_default.branch [
      | in_default-via-in-Some+else-eq w ↦
          (let other : bytes_eq (string_bytes c.args.word.now) (codes "--lookup") ≡ false = search rules in
          other_word _ left other ∙ same)
      | in_default-via-in_default w ↦ last_word _ c.args.after.now w.in_default.ensures.cases ∙ same
    ]
