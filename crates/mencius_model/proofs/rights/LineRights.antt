-- The condition under which each line may be added to a trace.
use Rattle.std.proofs.Common.{◌≡◌, ◌<◌, ◌≤◌, Bool, true, false, List, [], ◌∷◌, ◌++◌, length, ◌⊎◌, inr, Option, Some, None}
use Rattle.std.specs.Option.{option_map_or}
use Rattle.std.specs.List.{list_any}
use Rattle.mencius_base.specs.Numbers.{ServerId, Inst, BallotNo, TicketNo}
use Rattle.mencius_base.specs.declared.command.Command.{Command}
use Rattle.mencius_base.specs.declared.message.Message.{Message}
use Rattle.mencius_base.specs.declared.message.Message.TheVariants.{Suggest, Skip, Accepted, Prepare, Promise, Propose, Learn}
use Rattle.mencius_base.specs.declared.message.Value.{Value}
use Rattle.mencius_base.specs.declared.message.Value.TheVariants.{Noop}
use Rattle.mencius_base.specs.declared.message.Vote.{Vote}
use Rattle.mencius_base.specs.Members.{Membership, owner}
use Rattle.mencius_model.specs.Trace.{Line, Submitted, Heard, Lost, Suspected, Retried, Executed, Sent, Learned, Trace, submitted_commands}
use Rattle.mencius_model.specs.Instance.{promised_ballot, proposal, vote, learned_value, tried_ballot, are_majority}
use Rattle.mencius_model.specs.Server.{front, done}
use Rattle.mencius_base.specs.Command.{is_same_id}
use Rattle.mencius_model.specs.Decided.{IsDecided}
use Rattle.mencius_model.proofs.trace.Lists.{IsIn}
use Rattle.mencius_base.specs.Limits.{instance_count}

-- The newest line submits a command, and t is the ticket of that command.
abbrev pub IsFresh : Trace → TicketNo → Type 0
IsFresh (Submitted command p ∷ w) t = t ≡ length (submitted_commands w)
IsFresh _ t = ⊥

-- p suggested t at i and at no greater instance, and learned no-op at i.
pub record HasLost (w : Trace) (p : ServerId) (t : TicketNo) (i : Inst) : Type 0 where
  pub before : IsIn (Sent (Suggest p i t)) w
  pub lost : IsIn (Learned p i Noop) w
  pub last : (j : Inst) → IsIn (Sent (Suggest p j t)) w → j ≤ i

pub record MaySuggest (m : Membership) (w : Trace) (p : ServerId) (i : Inst) (t : TicketNo) : Type 0 where
  pub own : owner m i ≡ p
  pub past : front m w p ≤ i
  pub small : i < instance_count
  pub ticket : IsFresh w t ⊎ ((j : Inst) × HasLost w p t j)

-- The server `to` may get an acceptance at ballot b of i. It suggested at i and b is 0, or it proposed at ballot b of
-- i.
abbrev pub IsAsked : Trace → ServerId → Inst → BallotNo → Type 0
IsAsked w to i b =
    ((b ≡ 0) × ((t : TicketNo) × IsIn (Sent (Suggest to i t)) w)) ⊎ ((z : Value) × IsIn (Sent (Propose to i b z)) w)

pub record MayAccept (w : Trace) (p to : ServerId) (i : Inst) (b : BallotNo) : Type 0 where
  pub asked : IsAsked w to i b
  pub free : promised_ballot w p i ≤ b
  pub value : Value
  pub there : proposal w i b ≡ Some value

-- p may prepare ballot b at i. Its round is at least 1, p leads it, and p does not own i.
pub record MayPrepare (m : Membership) (p : ServerId) (i : Inst) (b : BallotNo) : Type 0 where
  pub above : m.count ≤ b
  pub own : owner m b ≡ p
  pub other : owner m i ≡ p → ⊥

pub record MayPromise (w : Trace) (p to : ServerId) (i : Inst) (b : BallotNo) (o : Option Vote) : Type 0 where
  pub asked : IsIn (Sent (Prepare to i b)) w
  pub above : promised_ballot w p i < b
  pub is : o ≡ vote w p i

-- There is a vote, and its ballot is at least b.
abbrev pub Reaches : Option Vote → BallotNo → Type 0
Reaches None b = ⊥
Reaches (Some x) b = b ≤ x.ballot

-- q promised ballot b of i. If q reported a vote, the ballot of `highest` is at least the ballot of that vote.
pub record HasPromised (w : Trace) (q : ServerId) (i : Inst) (b : BallotNo) (highest : Option Vote) : Type 0 where
  pub to : ServerId
  pub vote : Option Vote
  pub promise : IsIn (Sent (Promise q to i b vote)) w
  pub within : (z : Vote) → vote ≡ Some z → Reaches highest z.ballot

pub record MayPropose (m : Membership) (w : Trace) (p : ServerId) (i : Inst) (b : BallotNo) (z : Value) : Type 0 where
  pub tried : b ≡ tried_ballot w p i
  pub none : proposal w i b ≡ None
  pub among : ServerId → Bool
  pub majority : are_majority m among ≡ true
  pub highest : Option Vote
  pub promised : (q : ServerId) → among q ≡ true → HasPromised w q i b highest
  pub reported : (x : Vote) → highest ≡ Some x
      → (q : ServerId) × (to : ServerId) × IsIn (Sent (Promise q to i b (Some x))) w
  pub is : z ≡ option_map_or (λ x. x.value) highest Noop

abbrev pub MaySend : Membership → Trace → Message → Type 0
MaySend m w (Suggest p i t) = MaySuggest m w p i t
MaySend m w (Skip p first stop) = (front m w p ≤ first) × (owner m stop ≡ p)
MaySend m w (Accepted p to i b) = MayAccept w p to i b
MaySend m w (Prepare p i b) = MayPrepare m p i b
MaySend m w (Promise p to i b x) = MayPromise w p to i b x
MaySend m w (Propose p i b x) = MayPropose m w p i b x
MaySend m w (Learn p i x) = IsIn (Learned p i x) w

abbrev pub MayLearn : Membership → Trace → Inst → Value → Type 0
MayLearn m w i x = IsDecided m w i x ⊎ ((p : ServerId) × IsIn (Sent (Learn p i x)) w)

abbrev pub May : Membership → Trace → Line → Type 0
May m w (Submitted command p) =
    list_any (λ (x : Command × ServerId). is_same_id x.0.id command.id) (submitted_commands w) ≡ false
May m w (Heard k p) = Unit {0}
May m w (Lost k p) = Unit {0}
May m w (Suspected p q) = Unit {0}
May m w (Retried p) = Unit {0}
May m w (Executed p) = (z : Value) × (learned_value w p (done w p) ≡ Some z)
May m w (Sent x) = MaySend m w x
May m w (Learned p i z) = MayLearn m w i z

-- Each line of the trace was allowed when it was added.
abbrev pub IsGrown : Membership → Trace → Type 0
IsGrown m [] = Unit {0}
IsGrown m (l ∷ w) = IsGrown m w × May m w l

-- w is the older part of v.
pub record IsPast (w v : Trace) : Type 0 where
  pub since : List Line
  pub is : v ≡ since ++ w

pub grown_past : (m : Membership) (ls : List Line) (w : Trace) → IsGrown m (ls ++ w) → IsGrown m w
grown_past m [] w grown = grown
grown_past m (l ∷ ls) w grown = grown_past m ls w grown.0

pub past_grown : (m : Membership) (w v : Trace) → IsPast w v → IsGrown m v → IsGrown m w
past_grown m w v h grown = grown_past m h.since w (rw h.is at grown)

pub in_past : (l : Line) (ls : List Line) (w : Trace) → IsIn l w → IsIn l (ls ++ w)
in_past l [] w h = h
in_past l (x ∷ ls) w h = inr (in_past l ls w h)

-- A line was allowed after the lines that are older than it.
pub right_at : (m : Membership) (newer : List Line) (l : Line) (older : Trace) → IsGrown m (newer ++ l ∷ older)
    → May m older l
right_at m newer l older grown = (grown_past m newer (l ∷ older) grown).1
