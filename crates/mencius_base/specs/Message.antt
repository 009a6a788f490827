-- The servers that a message goes to, and the limits of the numbers in it.
use Rattle.std.specs.Prelude.{Bool, true, ◌==◌, ◌&&◌, nat_le, nat_lt}
use Rattle.mencius_base.specs.Numbers.{ServerId}
use Rattle.mencius_base.specs.declared.message.Message.{Message}
use Rattle.mencius_base.specs.declared.message.Message.TheVariants.{Suggest, Skip, Accepted, Prepare, Promise, Propose, Learn}
use Rattle.mencius_base.specs.Members.{Membership}
use Rattle.mencius_base.specs.Limits.{greatest_front, instance_count}

-- whether a message goes to p. An Accepted or a Promise goes to one server, and any other message goes to every server
abbrev pub is_sent_to : ServerId → Message → Bool
is_sent_to p (Accepted from to inst ballot) = to == p
is_sent_to p (Promise from to inst ballot vote) = to == p
is_sent_to p _ = true

-- whether the numbers in a message are within their limits. Its servers are members, and its instance exists. The stop
-- of a Skip is at most the greatest front. The ballot of a Prepare, a Promise or a Propose is above 0
abbrev pub is_within : Membership → Message → Bool
is_within m (Suggest from inst ticket) = nat_lt from m.count && nat_lt inst instance_count
is_within m (Skip from first stop) = (nat_lt from m.count && nat_lt first instance_count) && nat_le stop greatest_front
is_within m (Accepted from to inst ballot) = (nat_lt from m.count && nat_lt to m.count) && nat_lt inst instance_count
is_within m (Prepare from inst ballot) = (nat_lt from m.count && nat_lt inst instance_count) && nat_lt 0 ballot
is_within m (Promise from to inst ballot vote) =
    ((nat_lt from m.count && nat_lt to m.count) && nat_lt inst instance_count) && nat_lt 0 ballot
is_within m (Propose from inst ballot value) = (nat_lt from m.count && nat_lt inst instance_count) && nat_lt 0 ballot
is_within m (Learn from inst value) = nat_lt from m.count && nat_lt inst instance_count

-- whether p is a member, the message goes to p, and the numbers in it are within their limits
abbrev pub is_for : Membership → ServerId → Message → Bool
is_for m p x = nat_lt p m.count && (is_sent_to p x && is_within m x)
