-- The text that the program shows if help or the version is requested. Each text of help is a constant and fills a
-- page.
use Rattle.std.specs.Prelude.{◌++◌, List, [], ◌∷◌, Option, Some, None, codes, if◌then◌else◌}
use Rattle.std.specs.Str.{bytes_eq}
use Rattle.clap.specs.Words.{Text}
use Rattle.clap.specs.declared.error.kind.ErrorKind.{ErrorKind}
use Rattle.clap.specs.declared.error.kind.ErrorKind.TheVariants as kind
use Rattle.mencius_command_line.specs.declared.pages.TheConstants.{PROGRAM_HELP, REPLAY_HELP, TRACE_HELP, DRAW_HELP, CHECK_HELP, JUDGE_HELP, RUN_HELP}

-- the help of the task with a name. For any other name, it is the help of the program
abbrev pub help_named : Text → Text
help_named name =
    if bytes_eq name (codes "replay") then REPLAY_HELP.now
    else if bytes_eq name (codes "trace") then TRACE_HELP.now
    else if bytes_eq name (codes "draw") then DRAW_HELP.now
    else if bytes_eq name (codes "check") then CHECK_HELP.now
    else if bytes_eq name (codes "judge") then JUDGE_HELP.now
    else if bytes_eq name (codes "run") then RUN_HELP.now
    else PROGRAM_HELP.now

-- the help of the task that the first word names. Without words, it is the help of the program
abbrev pub first_help : List Text → Text
first_help [] = PROGRAM_HELP.now
first_help (name ∷ words) = help_named name

-- the help that the arguments request. After `help`, the next word names the task
abbrev pub help_for : List Text → Text
help_for [] = first_help []
help_for (word ∷ words) = if bytes_eq word (codes "help") then first_help words else help_named word

-- the line with the program's name and version
abbrev pub version_text : Text
version_text = codes "mencius 0.1.0" ++ 10 ∷ []

-- the help or the version, if an error of this kind requests it. A mistake has no text
abbrev pub shown_for : ErrorKind → List Text → Option Text
shown_for kind.DisplayHelp arguments = Some (help_for arguments)
shown_for kind.DisplayVersion arguments = Some version_text
shown_for _ arguments = None
