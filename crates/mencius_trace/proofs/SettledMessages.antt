-- The trace and the stored events agree on the messages that were heard or lost.
use Rattle.std.proofs.Common.{◌≡◌, ℕ, zero, suc, ◌+◌, ◌<◌, ◌≤◌, ◌||◌, Bool, true, false, List, [], ◌∷◌, length, get_or, take, Result, Ok, Err, refl, sym, ap, ◌∙◌, arith}
use Rattle.std.specs.List.{list_any}
use Rattle.std.proofs.lemmas.Bool.{leb-false}
use Rattle.std.proofs.lemmas.List.{take_all}
use Rattle.mencius_base.specs.Limits.{most_servers}
use Rattle.mencius_base.specs.Members.{Membership}
use Rattle.mencius_base.specs.declared.event.Entry.{Entry}
use Rattle.mencius_base.specs.declared.event.Event.{Event}
use Rattle.mencius_base.specs.declared.event.Event.TheVariants.{Submit, Deliver, Lose, Suspect, Retry, Execute}
use Rattle.mencius_base.specs.declared.refusal.Refusal.{Refusal}
use Rattle.mencius_cluster.specs.State.{entries_from, entries_of, entry_of}
use Rattle.mencius_model.specs.Trace.{Line, Sent, Learned, Trace}
use Rattle.mencius_model.specs.Next.{head, lines, next, replay, replay_from, replay_on, submission_count, with_event}
use Rattle.mencius_model.proofs.events.EventLines.{IsAnswer, answers, unchanged_after}
use Rattle.mencius_model.proofs.rights.EventRights.{NoneHolds, next_is}
use Rattle.mencius_trace.specs.LastLines.{is_settled_by}
use Rattle.mencius_trace.specs.Settled.{IsOfServer, is_settled_by_entry}
use Rattle.mencius_model.proofs.trace.Parts.{causes}

-- ---- the first event of a journal that replays

record IsBegun (m : Membership) (w v : Trace) (e : Event) (es : List Event) : Type 0 where
  middle : Trace
  step : next m w e ≡ Ok middle
  rest : replay_from m middle es ≡ Ok v

begun_on : (m : Membership) (w v : Trace) (e : Event) (es : List Event) (o : Result Trace Refusal) → next m w e ≡ o
    → replay_on (λ mid. replay_from m mid es) o ≡ Ok v → IsBegun m w v e es
begun_on m w v e es (Ok mid) h rest = record { middle = mid; step = h; rest = rest }
begun_on m w v e es (Err refusal) h rest = absurd (cc)

begun : (m : Membership) (w v : Trace) (e : Event) (es : List Event) → replay_from m w (e ∷ es) ≡ Ok v
    → IsBegun m w v e es
begun m w v e es h = begun_on m w v e es (next m w e) refl h

-- ---- the message that an event settles

head_settles : (k p n : ℕ) (e : Event) → is_settled_by k p (head e) ≡ is_settled_by_entry k p (entry_of n e)
head_settles k p n (Submit q command) = refl
head_settles k p n (Deliver message q) = refl
head_settles k p n (Lose message q) = refl
head_settles k p n (Suspect q r) = refl
head_settles k p n (Retry q) = refl
head_settles k p n (Execute q) = refl

settles_nothing : (k p : ℕ) (l : Line) (w : Trace) → IsAnswer l
    → list_any (is_settled_by k p) (l ∷ w) ≡ list_any (is_settled_by k p) w
settles_nothing k p (Sent x) w h = refl
settles_nothing k p (Learned q i value) w h = refl
settles_nothing k p _ w h = absurd h

-- after an event, the settled messages are those settled before and the message that the event settles
settled-event : (m : Membership) (w : Trace) (e : Event) (k p n : ℕ)
    → list_any (is_settled_by k p) (with_event m w e)
    ≡ (is_settled_by_entry k p (entry_of n e) || list_any (is_settled_by k p) w)
settled-event m w e k p n =
    unchanged_after (λ (v : Trace). list_any (is_settled_by k p) v) (settles_nothing k p) (lines m w e) (head e ∷ w)
    (answers m w e)
    ∙ ap (λ here. here || list_any (is_settled_by k p) w) (head_settles k p n e)

or_between : (x y z : Bool) → (y || (x || z)) ≡ ((x || y) || z)
or_between true true z = refl
or_between true false z = refl
or_between false y z = refl

or_none : (x : Bool) → (x || false) ≡ x
or_none true = refl
or_none false = refl

settled_from : (m : Membership) (k p n : ℕ) (es : List Event) (w v : Trace) → replay_from m w es ≡ Ok v
    → list_any (is_settled_by k p) v
    ≡ (list_any (is_settled_by_entry k p) (entries_from n es) || list_any (is_settled_by k p) w)
settled_from m k p n [] w v h = let same : w ≡ v = cc in ap (list_any (is_settled_by k p)) (sym same)
settled_from m k p n (e ∷ es) w v h =
    let first = begun m w v e es h in
    let later = list_any (is_settled_by_entry k p) (entries_from (n + submission_count e) es) in
    settled_from m k p (n + submission_count e) es first.middle v first.rest
    ∙ ap (λ mid. later || list_any (is_settled_by k p) mid) (sym (next_is m w first.middle e first.step).is)
    ∙ ap (λ known. later || known) (settled-event m w e k p n)
    ∙ or_between (is_settled_by_entry k p (entry_of n e)) later (list_any (is_settled_by k p) w)

-- a message was heard or lost exactly if a stored event says so
pub settled_by_entries : (m : Membership) (es : List Event) (w : Trace) → replay m es ≡ Ok w → (k p : ℕ)
    → list_any (is_settled_by k p) w ≡ list_any (is_settled_by_entry k p) (entries_of es)
settled_by_entries m es w h k p =
    settled_from m k p 0 es [] w h ∙ or_none (list_any (is_settled_by_entry k p) (entries_of es))

-- ---- the server of an event

of_server : (m : Membership) (w : Trace) (n : ℕ) (e : Event) → m.count ≤ most_servers → NoneHolds (causes m w e)
    → IsOfServer (entry_of n e)
of_server m w n (Submit q command) few h = tt
of_server m w n (Deliver k q) few h = omega (arith, few, leb-false m.count q h.0)
of_server m w n (Lose k q) few h = omega (arith, few, leb-false m.count q h.0)
of_server m w n (Suspect q r) few h = tt
of_server m w n (Retry q) few h = tt
of_server m w n (Execute q) few h = tt

of_servers_from : (m : Membership) (n : ℕ) (es : List Event) (w v : Trace) → m.count ≤ most_servers
    → replay_from m w es ≡ Ok v → (place : ℕ) (d : Entry) → place < length (entries_from n es)
    → IsOfServer (get_or (entries_from n es) place d)
of_servers_from m n [] w v few h place d there = absurd (omega arith)
of_servers_from m n (e ∷ es) w v few h zero d there =
    of_server m w n e few (next_is m w _ e (begun m w v e es h).step).allowed
of_servers_from m n (e ∷ es) w v few h (suc place) d there =
    let first = begun m w v e es h in
    of_servers_from m (n + submission_count e) es first.middle v few first.rest place d (omega arith)

-- a server that hears or loses a message by a stored event has a number below the greatest number of servers
pub of_servers : (m : Membership) (es : List Event) (w : Trace) → m.count ≤ most_servers → replay m es ≡ Ok w
    → (xs : List Entry) → xs ≡ entries_of es → (place : ℕ) (d : Entry) → place < length xs
    → IsOfServer (get_or xs place d)
of_servers m es w few h xs stored place d there =
    let small : place < length (entries_of es) = omega (arith, there, ap length stored) in
    rw stored (of_servers_from m 0 es [] w few h place d small)

-- after all stored events, a mark says whether the message was heard or lost in the trace
pub settled_all : (m : Membership) (es : List Event) (w : Trace) → replay m es ≡ Ok w → (k p : ℕ) (xs : List Entry)
    (place : ℕ) (now : Bool) → xs ≡ entries_of es → length xs ≤ place
    → now ≡ list_any (is_settled_by_entry k p) (take place xs) → now ≡ list_any (is_settled_by k p) w
settled_all m es w h k p xs place now stored past had =
    had ∙ ap (list_any (is_settled_by_entry k p)) (take_all place xs past ∙ stored)
    ∙ sym (settled_by_entries m es w h k p)
