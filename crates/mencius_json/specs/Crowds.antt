-- The texts that have too many signs for a tree.
use Rattle.std.specs.Prelude.{ℕ, ◌==◌, ◌||◌, List, length, Option, Some, None, nat_lt, if◌then◌else◌}
use Rattle.std.specs.List.{filter}
use Rattle.mencius_json.specs.declared.crowd.Crowd.{Crowd}
use Rattle.mencius_json.specs.declared.crowd.Crowd.TheVariants.{Braces, Brackets, Separators}

-- the number of `{` in some bytes
abbrev pub braces_in : List ℕ → ℕ
braces_in bytes = length (filter (λ byte. byte == 123) bytes)

-- the number of `[` in some bytes
abbrev pub brackets_in : List ℕ → ℕ
brackets_in bytes = length (filter (λ byte. byte == 91) bytes)

-- the number of commas and colons in some bytes
abbrev pub separators_in : List ℕ → ℕ
separators_in bytes = length (filter (λ byte. (byte == 44) || (byte == 58)) bytes)

-- the greatest number of `{` in a text that we build a tree from
abbrev pub most_braces : ℕ
most_braces = 65536

-- the greatest number of `[` in a text that we build a tree from
abbrev pub most_brackets : ℕ
most_brackets = 65536

-- the greatest number of commas and colons in a text that we build a tree from
abbrev pub most_separators : ℕ
most_separators = 1700000

-- the first sign that occurs in some bytes more often than its limit allows, if any does
abbrev pub crowd_in : List ℕ → Option Crowd
crowd_in bytes =
    if nat_lt most_braces (braces_in bytes) then Some Braces
    else if nat_lt most_brackets (brackets_in bytes) then Some Brackets
    else if nat_lt most_separators (separators_in bytes) then Some Separators
    else None
