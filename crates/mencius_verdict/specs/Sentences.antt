-- The sentence that says what a violation expects, and why.
use Rattle.std.specs.Prelude.{ℕ, ◌==◌, List, [], ◌++◌, if◌then◌else◌, codes, decimal, Option}
use Rattle.mencius_base.specs.declared.command.CommandId.{CommandId}
use Rattle.mencius_format.specs.Texts.{id_text}
use Rattle.mencius_log.specs.declared.observation.Answer.{Answer}
use Rattle.mencius_log.specs.declared.observation.Answer.TheVariants.{Held, Done, Failed}
use Rattle.mencius_judge.specs.declared.violation.Violation.{Violation}
use Rattle.mencius_judge.specs.declared.violation.Violation.TheVariants as violation
use Rattle.mencius_log.specs.ObservationLines.{answer_text, held_text}

-- the words for a server at the start of a sentence
abbrev pub server_text : ℕ → List ℕ
server_text server = codes "Server " ++ decimal server

-- the words for a map that executes only the commands before a place, and holds this text
abbrev pub gives_text : ℕ → Option (List ℕ) → List ℕ
gives_text place text =
    codes ", because a map that executes only the commands before place "
    ++ (decimal place ++ (codes " gives " ++ held_text text))

-- the words for the reply to a command at the start of a sentence, and what is said of it
abbrev pub reply_words : CommandId → List ℕ → List ℕ
reply_words id words = codes "The reply to " ++ (id_text id ++ words)

-- the sentence for a wrong reply, which is not right for this text at this place of a history
abbrev pub reply_sentence : CommandId → ℕ → Option (List ℕ) → Answer → List ℕ
reply_sentence id place text (Held found) =
    reply_words id (codes " must be ") ++ (held_text text ++ (gives_text place text ++ codes "."))
reply_sentence id place text Done =
    reply_words id (codes " must not be ok") ++ (gives_text place text ++ codes ", so the command does not take effect.")
reply_sentence id place text Failed =
    reply_words id (codes " must not be failed") ++ (gives_text place text ++ codes ", so the command takes effect.")

-- the sentence for a snapshot that a server could not take over
abbrev pub restore_sentence : ℕ → ℕ → ℕ → List ℕ
restore_sentence server source count =
    server_text server ++ (codes " can take over " ++ (decimal count
    ++ (codes " of the commands of server " ++ (decimal source
    ++ (codes " only if it has executed nothing and server " ++ (decimal source
    ++ codes " has that many. Such a line is usually a fault of the log. A server that starts anew takes a new number."))))))

-- the words for the numbers of commands from `from` to `to`
abbrev pub range_text : ℕ → ℕ → List ℕ
range_text from to =
    if from == to then codes "exactly " ++ decimal from else decimal from ++ (codes " to " ++ decimal to)

-- the reason why a reader must see the first n commands, if there are any
abbrev pub floor_text : ℕ → List ℕ
floor_text n = if n == 0 then [] else codes ", because it saw or was told of the first " ++ decimal n

-- the sentence for a lookup that found a text after none of these numbers of commands
abbrev pub lookup_sentence : ℕ → List ℕ → ℕ → ℕ → List ℕ
lookup_sentence reader key from to =
    codes "Reader " ++ (decimal reader ++ (codes " must find a text that " ++ (key ++ (codes " held after "
    ++ (range_text from to ++ (codes " of the executed commands" ++ (floor_text from ++ codes ".")))))))

-- the sentence for a reply that differs from the first one
abbrev pub one_reply_sentence : CommandId → Answer → List ℕ
one_reply_sentence id expected =
    reply_words id (codes " must be ")
    ++ (answer_text expected ++ codes ", because the command got this reply before.")

-- the sentence for a server that executes a command again
abbrev pub once_sentence : ℕ → ℕ → CommandId → List ℕ
once_sentence server place id =
    server_text server ++ (codes " must execute another command at place " ++ (decimal place
    ++ (codes ", because it has already executed " ++ (id_text id ++ codes "."))))

-- the sentence for a server that executes another command than the expected one
abbrev pub same_order_sentence : ℕ → ℕ → CommandId → List ℕ
same_order_sentence server place expected =
    server_text server ++ (codes " must execute " ++ (id_text expected ++ (codes " at place " ++ (decimal place
    ++ codes ", because another server has executed it there, and all servers must execute the same commands in the same order."))))

-- the sentence for a server that executes a command too early
abbrev pub real_time_sentence : ℕ → CommandId → CommandId → List ℕ
real_time_sentence server id behind =
    server_text server ++ (codes " must execute " ++ (id_text behind ++ (codes " before " ++ (id_text id
    ++ (codes ", because " ++ (id_text behind ++ (codes " had its reply before " ++ (id_text id
    ++ codes " was submitted."))))))))

-- the sentence for a server that lacks an acknowledged command
abbrev pub settled_sentence : ℕ → CommandId → List ℕ
settled_sentence server id =
    server_text server ++ (codes " must have executed " ++ (id_text id ++ (codes ", because " ++ (id_text id
    ++ codes " had its reply before this line."))))

-- the sentence for a violation that does not name a server, and nothing for any other
abbrev pub command_sentence : Violation → List ℕ
command_sentence (violation.OneCommand id) =
    codes "Each submission of " ++ (id_text id
    ++ codes " must be of the same command, because an ID belongs to only one command.")
command_sentence (violation.Submitted id) =
    codes "A line before this one must submit " ++ (id_text id
    ++ codes ", because a store executes and answers only commands that a client submitted.")
command_sentence (violation.OneReply id expected found) = one_reply_sentence id expected
command_sentence (violation.RightReply id place expected found) = reply_sentence id place expected found
command_sentence (violation.RightLookup reader key from to found) = lookup_sentence reader key from to
command_sentence (violation.Once server place id) = []
command_sentence (violation.SameOrder server place expected found) = []
command_sentence (violation.RealTime server place id behind) = []
command_sentence (violation.Settled server id) = []
command_sentence (violation.Restore server source count) = []

-- the sentence for a violation that names a server, and nothing for any other
abbrev pub server_sentence : Violation → List ℕ
server_sentence (violation.Once server place id) = once_sentence server place id
server_sentence (violation.SameOrder server place expected found) = same_order_sentence server place expected
server_sentence (violation.RealTime server place id behind) = real_time_sentence server id behind
server_sentence (violation.Settled server id) = settled_sentence server id
server_sentence (violation.Restore server source count) = restore_sentence server source count
server_sentence (violation.OneCommand id) = []
server_sentence (violation.Submitted id) = []
server_sentence (violation.OneReply id expected found) = []
server_sentence (violation.RightReply id place expected found) = []
server_sentence (violation.RightLookup reader key from to found) = []

-- the sentence for a violation
abbrev pub sentence_text : Violation → List ℕ
sentence_text violation = command_sentence violation ++ server_sentence violation
