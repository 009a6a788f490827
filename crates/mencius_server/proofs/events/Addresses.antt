-- Each message that a server sends may be heard at every server that it goes to, even if the sender is at no trace.
use Rattle.std.proofs.Common.{◌≡◌, ℕ, zero, suc, ◌+◌, ◌*◌, ◌%◌, ◌-◌, ◌<◌, ◌≤◌, Bool, true, false, cond, ltb, leb, max, List, [], ◌∷◌, Option, Some, None, map, filter, refl, inl, inr, arith}
use Rattle.std.specs.Prelude.{◌&&◌}
use Rattle.std.specs.List.{range_with_len}
use Rattle.std.proofs.lemmas.Bool.{and_from, and_parts, cases_Bool, le-leb, lt-ltb, ltb-true}
use Rattle.std.proofs.lemmas.List.Elements.{All-append, All-cons, All-nil}
use Rattle.mencius_base.specs.Limits.{greatest_front, instance_count, most_servers}
use Rattle.mencius_base.specs.Members.{Membership, numbers_below, first_owned, instances, round}
use Rattle.mencius_base.specs.Message.{is_within}
use Rattle.mencius_base.specs.declared.message.Message.{Message}
use Rattle.mencius_base.specs.declared.message.Message.TheVariants.{Suggest, Skip, Accepted, Prepare, Promise, Propose, Learn}
use Rattle.mencius_base.specs.declared.message.Value.{Value}
use Rattle.mencius_model.specs.Trace.{Sent, messages_of}
use Rattle.mencius_model.specs.Rules.{answer_lines, decision_lines, proposal_lines}
use Rattle.mencius_model.proofs.trace.NumberLists.{find-instances_found}
use Rattle.mencius_base.specs.declared.message.Answer.{Answer}
use Rattle.mencius_base.specs.declared.message.Answer.TheVariants.{Promise as Promised, Known, Silent}
use Rattle.coord_paxos.specs.Slot.{acceptance_answer, prepare_answer, promise_answer}
use Rattle.mencius_server.specs.Laws.{AreHearable, HearAddresses, IsHearable, RetryAddresses, SubmitAddresses, SuspectAddresses}
use Rattle.mencius_server.specs.Machine.{first_waiting, free_at, is_free_at, is_covered_at, prepare_for, retry_sent, sent_on, submit_sent, suggest_sent}
use Rattle.mencius_server.specs.State.{ServerState, slot}
use Rattle.mencius_server.proofs.events.HeardMessages.{within_of}

module _ (m : Membership) where
  within_hearable : (x : Message) → is_within m x ≡ true → IsHearable m x
  within_hearable x within = λ q member goes. and_from _ _ (lt-ltb q m.count member) (and_from _ _ goes within)

  nothing : AreHearable m []
  nothing = All-nil (IsHearable m)

  one_more : (x : Message) (xs : List Message) → is_within m x ≡ true → AreHearable m xs → AreHearable m (x ∷ xs)
  one_more x xs within rest = All-cons (IsHearable m) x xs (within_hearable x within) rest

  one : (x : Message) → is_within m x ≡ true → AreHearable m (x ∷ [])
  one x within = one_more x [] within nothing

  one_where : (d : Bool) (x : Message) → (d ≡ true → is_within m x ≡ true)
      → AreHearable m (messages_of (cond d (Sent x ∷ []) []))
  one_where true x within = one x (within refl)
  one_where false x within = nothing

  named : (p i : ℕ) → p < m.count → i < instance_count → (ltb p m.count && ltb i instance_count) ≡ true
  named p i member small = and_from _ _ (lt-ltb p m.count member) (lt-ltb i instance_count small)

  stop_small : (p i : ℕ) → p < m.count → m.count ≤ most_servers → i < instance_count
      → first_owned m p (i + 1) ≤ greatest_front
  stop_small p i member few small =
      let near : (p + m.count - (i + 1) % m.count) % m.count < m.count = omega arith in
      omega arith

-- The suggestion of a new or a waiting ticket may be heard at every server.
suggested_hearable : (s : ServerState) → s.id < s.members.count → (t : ℕ) (o : Option ℕ) → free_at s ≡ o
    → AreHearable s.members (submit_sent s t o)
suggested_hearable s member t None e = nothing s.members
suggested_hearable s member t (Some i) e =
    one s.members (Suggest s.id i t) (named s.members s.id i member (find-instances_found (is_free_at s) i e).small)

pub submit_addresses : SubmitAddresses
submit_addresses s member t = suggested_hearable s member t (free_at s) refl

pub retry_addresses : RetryAddresses
retry_addresses s member = again (first_waiting s) where
  again : (o : Option ℕ) → AreHearable s.members (retry_sent s o)
  again None = nothing s.members
  again (Some t) = submit_addresses s member t

-- The ballot of a round above 0 is above 0, so the Prepares of a suspicion may be heard.
next_above : (a n p : ℕ) → 0 < n → 0 < (a + 1) * n + p
next_above a n p h = omega arith

prepared_hearable : (s : ServerState) → s.id < s.members.count → (g : ℕ → Bool) (i n : ℕ) → i + n ≤ instance_count
    → AreHearable s.members (map (prepare_for s) (filter g (range_with_len i n)))
prepared_hearable s member g i zero h = nothing s.members
prepared_hearable s member g i (suc n) h =
    let m = s.members in
    let some : 0 < m.count = omega arith in
    let high = next_above (max (round m (slot s i).trying) (round m (slot s i).promised)) m.count s.id some in
    let rest = prepared_hearable s member g (i + 1) n (omega arith) in
    let here : i < instance_count = omega arith in
    elim (cases_Bool (g i)) [
      | inl e ↦ rw e (one_more m (prepare_for s i) (map (prepare_for s) (filter g (range_with_len (i + 1) n)))
          (and_from _ _ (named m s.id i member here) (lt-ltb _ _ high)) rest)
      | inr e ↦ rw e rest
    ]

pub suspect_addresses : SuspectAddresses
unfolding numbers_below instances
suspect_addresses s member q = prepared_hearable s member (is_covered_at s q) 0 instance_count (omega arith)

-- All messages that a server sends when it hears a message may be heard.
module _ (s : ServerState) (member : s.id < s.members.count) (few : s.members.count ≤ most_servers) where
  sender : ltb s.id s.members.count ≡ true
  sender = lt-ltb s.id s.members.count member

  suggest_hearable : (q i : ℕ) → ltb q s.members.count ≡ true → ltb i instance_count ≡ true
      → AreHearable s.members (suggest_sent s q i)
  suggest_hearable q i from inst =
      let small : i < instance_count = ltb-true i instance_count inst in
      All-append (IsHearable s.members) _ _
      (one_where s.members (ltb s.front i) (Skip s.id s.front (first_owned s.members s.id (i + 1)))
      (λ e. let ahead = ltb-true s.front i e in
      and_from _ _ (named s.members s.id s.front member (omega arith))
      (le-leb _ greatest_front (stop_small s.members s.id i member few small))))
      (one_where s.members (leb (slot s i).promised 0) (Accepted s.id q i 0)
      (λ e. and_from _ _ (and_from _ _ sender from) inst))

  answer_hearable : (q i b : ℕ) → ltb q s.members.count ≡ true → ltb i instance_count ≡ true → ltb 0 b ≡ true
      → (a : Answer) → AreHearable s.members (messages_of (answer_lines s.id q i b a))
  answer_hearable q i b from inst high (Promised y) =
      one s.members (Promise s.id q i b y) (and_from _ _ (and_from _ _ (and_from _ _ sender from) inst) high)
  answer_hearable q i b from inst high (Known y) = one s.members (Learn s.id i y) (and_from _ _ sender inst)
  answer_hearable q i b from inst high Silent = nothing s.members

  proposal_hearable : (i b : ℕ) → ltb i instance_count ≡ true → ltb 0 b ≡ true → (o : Option Value)
      → AreHearable s.members (messages_of (proposal_lines s.id i b o))
  proposal_hearable i b inst high None = nothing s.members
  proposal_hearable i b inst high (Some y) =
      one s.members (Propose s.id i b y) (and_from _ _ (and_from _ _ sender inst) high)

  decision_hearable : (i : ℕ) → ltb i instance_count ≡ true → (o : Option Value)
      → AreHearable s.members (messages_of (decision_lines s.id i o))
  decision_hearable i inst None = nothing s.members
  decision_hearable i inst (Some y) = one s.members (Learn s.id i y) (and_from _ _ sender inst)

  on_hearable : (x : Message) → is_within s.members x ≡ true → AreHearable s.members (sent_on s x)
  on_hearable (Suggest q i t) h = let parts = and_parts _ _ h in suggest_hearable q i parts.0 parts.1
  on_hearable (Skip q first stop) h = nothing s.members
  on_hearable (Accepted q to i b) h =
      let parts = and_parts _ _ h in decision_hearable i parts.1 (acceptance_answer (slot s i) q b)
  on_hearable (Prepare q i b) h =
      let parts = and_parts _ _ h in
      let n = and_parts _ _ parts.0 in
      answer_hearable q i b n.0 n.1 parts.1 (prepare_answer (slot s i) b)
  on_hearable (Promise q to i b y) h =
      let parts = and_parts _ _ h in
      let n = and_parts _ _ parts.0 in
      proposal_hearable i b n.1 parts.1 (promise_answer (slot s i) q b y)
  on_hearable (Propose q i b y) h =
      let parts = and_parts _ _ h in
      let n = and_parts _ _ parts.0 in
      one_where s.members (leb (slot s i).promised b) (Accepted s.id q i b)
      (λ e. and_from _ _ (and_from _ _ sender n.0) n.1)
  on_hearable (Learn q i y) h = nothing s.members

pub hear_addresses : HearAddresses
hear_addresses s member few x addressed = on_hearable s member few x (within_of s.members s.id x addressed)
