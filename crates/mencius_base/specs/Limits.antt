-- The limits of a cluster and of a run, as numbers. The code has the same numbers in `src/limits.rt`. The greatest
-- numbers of messages and of events are in `Members.antt`, next to the list of all instances.
use Rattle.std.specs.Prelude.{ℕ}

-- the greatest number of servers
abbrev pub most_servers : ℕ
most_servers = 7

-- the number of instances
abbrev pub instance_count : ℕ
instance_count = 4096

-- the greatest front, and the greatest stop of a Skip. With seven servers, it is the front of the server that has used
-- instance 4095
abbrev pub greatest_front : ℕ
greatest_front = 4102

-- the greatest round of a ballot
abbrev pub greatest_round : ℕ
greatest_round = 65535

-- the greatest number of a ballot. It belongs to server 6 of seven servers, in the greatest round
abbrev pub greatest_ballot : ℕ
greatest_ballot = 458751

-- the greatest beta of a membership
abbrev pub greatest_beta : ℕ
greatest_beta = 4095

-- the greatest number of workers of a run
abbrev pub most_workers : ℕ
most_workers = 8

-- the greatest number of turns of a worker
abbrev pub most_turns : ℕ
most_turns = 100000

-- the greatest loss of a run. The loss is the number of choices, out of 64, that lose a message
abbrev pub greatest_loss : ℕ
greatest_loss = 32

-- the greatest number of readers of a board
abbrev pub most_readers : ℕ
most_readers = 16

-- the greatest number of bytes of a key
abbrev pub most_key_bytes : ℕ
most_key_bytes = 64

-- the greatest number of bytes of a text
abbrev pub most_text_bytes : ℕ
most_text_bytes = 256
