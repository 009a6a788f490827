-- The table of choices and the order of a worker's commands give the expected results on worked cases. Each case is
-- computed completely.
use Rattle.std.proofs.Common.{◌≡◌, ℕ, true, false, List, [], ◌∷◌, refl}
use Rattle.mencius_base.specs.declared.command.Command.{Command}
use Rattle.mencius_base.specs.declared.command.Op.TheVariants.{Get}
use Rattle.mencius_base.specs.declared.event.Event.{Event}
use Rattle.mencius_base.specs.declared.event.Event.TheVariants.{Submit, Deliver, Execute, Lose, Retry, Suspect}
use Rattle.mencius_base.specs.Members.{new_members, numbers_below, instances, most_messages, most_events}
use Rattle.mencius_cluster.specs.Salt.{hasher_with}
use Rattle.mencius_cluster.specs.State.{ClusterState}
use Rattle.mencius_choices.specs.declared.choice.Pick.TheVariants.{NextCommand, Is}
use Rattle.mencius_choices.specs.Picks.{pick_of}
use Rattle.mencius_base.specs.Plan.{PlanState, plan_of}
use Rattle.mencius_choices.specs.Order.{commands_of_worker}

-- client 1 reads the key `a`
abbrev get : ℕ → Command
get number = record { id = record { client = 1; number = number }; op = Get (97 ∷ []) }

-- ---- the table of choices

abbrev three_after : List Event → ClusterState
three_after journal = record { members = new_members 3; hasher = hasher_with 0; journal = journal }

-- three servers after one command, without suspicions. Four messages were sent
abbrev after_one_command : ClusterState
after_one_command = three_after
    (Submit 0 (get 0) ∷ Deliver 0 1 ∷ Deliver 0 0 ∷ Deliver 1 0 ∷ Deliver 2 0 ∷ Execute 0 ∷ [])

abbrev words : ℕ → ℕ → ℕ → List ℕ
words a b c = a ∷ b ∷ c ∷ []

pick-execute : pick_of after_one_command 0 true (words 6 0 5) ≡ Is (Execute 2)
unfolding numbers_below instances most_messages most_events
pick-execute = refl

pick-retry : pick_of after_one_command 0 true (words 18 0 4) ≡ Is (Retry 1)
unfolding numbers_below instances most_messages most_events
pick-retry = refl

pick-suspect : pick_of after_one_command 0 true (words 21 4 5) ≡ Is (Suspect 1 2)
unfolding numbers_below instances most_messages most_events
pick-suspect = refl

-- message 1 goes to server 0 alone
pick-lose : pick_of after_one_command 2 true (words 22 2 1) ≡ Is (Lose 1 0)
unfolding numbers_below instances most_messages most_events
pick-lose = refl

pick-deliver : pick_of after_one_command 0 true (words 22 2 1) ≡ Is (Deliver 1 0)
unfolding numbers_below instances most_messages most_events
pick-deliver = refl

-- an odd word counts back from the last message
pick-deliver_recent : pick_of after_one_command 32 true (words 63 7 5) ≡ Is (Deliver 0 2)
unfolding numbers_below instances most_messages most_events
pick-deliver_recent = refl

pick-next_command : pick_of after_one_command 0 true (words 69 0 0) ≡ NextCommand
unfolding numbers_below instances most_messages most_events
pick-next_command = refl

pick-none_left : pick_of after_one_command 0 false (words 69 0 0) ≡ Is (Deliver 0 0)
unfolding numbers_below instances most_messages most_events
pick-none_left = refl

-- the word names message 0 if no message was sent
pick-on_new : pick_of (three_after []) 0 true (words 40 1 2) ≡ Is (Deliver 0 2)
unfolding numbers_below instances most_messages most_events
pick-on_new = refl

-- ---- the order of commands

-- a plan of two workers for three servers, whose lists have two, one and two commands
abbrev two_workers : PlanState
two_workers = plan_of 2 7 200 4 ((get 0 ∷ get 1 ∷ []) ∷ (get 10 ∷ []) ∷ (get 20 ∷ get 21 ∷ []) ∷ [])

commands-first : commands_of_worker two_workers 0 ≡ (0, get 0) ∷ (2, get 20) ∷ (0, get 1) ∷ (2, get 21) ∷ []
commands-first = refl

commands-second : commands_of_worker two_workers 1 ≡ (1, get 10) ∷ []
commands-second = refl
