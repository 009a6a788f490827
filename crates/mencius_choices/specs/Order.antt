-- The order of a worker's commands.
use Rattle.std.specs.Prelude.{◌≡◌, ℕ, ◌+◌, ◌-◌, ◌%◌, ◌==◌, List, [], ◌∷◌, ◌++◌, Option, Some, None, MatchOption}
use Rattle.std.specs.Prelude.{length, max, fold, slice_get, if◌then◌else◌}
use Rattle.std.specs.List.{filter_map, flat_map, range_with_len}
use Rattle.std.specs.Option.{option_and_then, option_map}
use Rattle.mencius_base.specs.Numbers.{ServerId}
use Rattle.mencius_base.specs.Plan.{PlanState}
use Rattle.mencius_base.specs.declared.command.Command.{Command}
use Rattle.mencius_choices.specs.declared.order.CommandPlace.{CommandPlace}

-- the numbers from `first` up to, but not including, `stop`, in rising order
abbrev pub from_to : ℕ → ℕ → List ℕ
from_to first stop = range_with_len first (stop - first)

-- the length of the longest list
abbrev pub row_count : List (List Command) → ℕ
row_count lists = fold (λ n list. max n (length list)) 0 lists

-- the command at a row of a server's list, with the server. The list must be one of the worker's and must have that row
abbrev pub own_command : PlanState → ℕ → ℕ → ServerId → Option (ServerId × Command)
own_command plan worker row server =
    if server % plan.workers == worker then option_map (λ command. (server, command))
    (option_and_then (λ list. slice_get list row) (slice_get plan.commands server))
    else None

-- the worker's commands at a row, in the lists from server p on
abbrev pub row_from : PlanState → ℕ → ℕ → ServerId → List (ServerId × Command)
row_from plan worker row p = filter_map (own_command plan worker row) (from_to p (length plan.commands))

-- the worker's commands at a row and at all later rows
abbrev pub rows_from : PlanState → ℕ → ℕ → List (ServerId × Command)
rows_from plan worker row = flat_map (λ r. row_from plan worker r 0) (from_to row (row_count plan.commands))

-- a worker's commands in the order in which they come, each with the server at which it is submitted. First comes the
-- first command of each of the worker's lists, in rising order of servers, then the second command of each list, and so
-- on
abbrev pub commands_of_worker : PlanState → ℕ → List (ServerId × Command)
commands_of_worker plan worker = rows_from plan worker 0

-- the worker's commands that come after this place
abbrev pub after_place : PlanState → ℕ → CommandPlace → List (ServerId × Command)
after_place plan worker place =
    row_from plan worker place.row (place.server + 1) ++ rows_from plan worker (place.row + 1)

-- the list `all` is the worker's command at this place, followed by `rest`
pub record BeginsWith (plan : PlanState) (worker : ℕ) (place : CommandPlace)
    (all rest : List (ServerId × Command)) : Type 0 where
  pub first : ServerId × Command
  pub there : own_command plan worker place.row place.server ≡ Some first
  pub is : all ≡ first ∷ rest

-- the list `all` is the worker's command at this place, followed by all its commands after that place. Without a place,
-- the list is empty
abbrev pub IsNextPlace : PlanState → ℕ → Option CommandPlace → List (ServerId × Command) → Type 0
IsNextPlace plan worker o all =
    MatchOption o (all ≡ []) (λ place. BeginsWith plan worker place all (after_place plan worker place))
