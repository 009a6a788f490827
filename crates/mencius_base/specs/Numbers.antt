-- The kinds of numbers in definitions, and the letters that definitions and lemmas use.
-- Servers are p and q, instances i and j, ballots b and c, and tickets t and u. The number of a message is k. A list of
-- lines is w, and a second list of lines is v. The servers of a cluster are m, an event is e, a line is l, and the
-- knowledge of one server is s. A front is f, and a second front is g. A value, a vote, and anything without a letter
-- of its own are x, y and z. A place in a list is n. Bytes, texts and tokens have words as names. Evidence also has
-- words, or the letters e and h. In the proof of a goal, c has the facts that the checker gives for that goal.
use Rattle.std.specs.Prelude.{ℕ}

-- the number of a server among the members, from 0
abbrev pub ServerId : Type 0
ServerId = ℕ

-- the number of an instance, from 0
abbrev pub Inst : Type 0
Inst = ℕ

-- a ballot as one number. The owner of an instance leads ballot 0 there, which is the only ballot of round 0. Any other
-- ballot is its round times the number of servers, plus the server that leads it
abbrev pub BallotNo : Type 0
BallotNo = ℕ

-- the place of a command in the list of all submitted commands, from 0. The value `Ticket` of an instance has this
-- number
abbrev pub TicketNo : Type 0
TicketNo = ℕ

-- the place of a message in the list of all sent messages, from 0
abbrev pub MessageNo : Type 0
MessageNo = ℕ
