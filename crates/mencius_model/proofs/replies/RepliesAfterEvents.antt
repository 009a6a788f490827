-- Histories, commands and replies that an event does not change.
use Rattle.std.proofs.Common.{◌≡◌, ℕ, ◌+◌, ◌<◌, zero, suc, List, [], ◌∷◌, ◌++◌, Option, Some, None, map, length, take, slice_get, refl, sym, ap, ◌∙◌, arith, filter_map, option_map, add-zero}
use Rattle.std.specs.List.{cons_option}
use Rattle.std.specs.Prelude.{◌==◌, option_to_list}
use Rattle.std.proofs.lemmas.List.Elements.{filter_map-append}
use Rattle.mencius_base.specs.declared.command.Command.{Command}
use Rattle.mencius_base.specs.declared.event.Event.{Event}
use Rattle.mencius_base.specs.declared.message.Value.{Value}
use Rattle.mencius_base.specs.declared.message.Value.TheVariants.{Noop, Ticket}
use Rattle.mencius_base.specs.Members.{Membership, numbers_below}
use Rattle.mencius_model.specs.Trace.{Trace, command_in, submitted_commands}
use Rattle.mencius_model.specs.Instance.{learned_value}
use Rattle.mencius_model.specs.Server.{done, done_by, ticket_of}
use Rattle.mencius_model.specs.Next.{head, with_event}
use Rattle.mencius_model.specs.Executed.{history}
use Rattle.mencius_model.proofs.trace.NumberLists.{below-more, map-below_same}
use Rattle.mencius_model.specs.KeyMap.{out}
use Rattle.mencius_model.specs.Replies.{Given, Answered, command_at, commands_of, index_of_first, reply_at}
use Rattle.mencius_model.proofs.events.EventLines.{done-event, learned_value-event, submitted_commands-event}
use Rattle.mencius_model.proofs.reached.ClusterFacts.{HasClusterFacts}
use Rattle.mencius_model.proofs.trace.Parts.{reply_from}

-- ---- plain lists

-- A table stays the same if each of its rows stays the same.
pub row_kept : {X : Type 0} (f g : ℕ → X) (n : ℕ) (xs : List X) → xs ≡ map f (numbers_below n)
    → ((m : ℕ) → m < n → f m ≡ g m) → xs ≡ map g (numbers_below n)
row_kept f g n xs h same = h ∙ map-below_same f g n (f 0) same

-- No number is below 0.
pub below-zero : numbers_below 0 ≡ []
unfolding numbers_below
below-zero = refl

-- Two functions that agree below n give the same list there.
pub filter_map-below_same : {X : Type 0} (f g : ℕ → Option X) (n : ℕ) → ((m : ℕ) → m < n → f m ≡ g m)
    → filter_map f (numbers_below n) ≡ filter_map g (numbers_below n)
filter_map-below_same f g zero same = ap (filter_map f) below-zero ∙ sym (ap (filter_map g) below-zero)
filter_map-below_same {X} f g (suc n) same =
    let more : numbers_below (suc n) ≡ numbers_below n ++ n ∷ [] = (let s : suc n ≡ n + 1 = omega arith in ap numbers_below s) ∙ below-more n in
    ap (filter_map f) more ∙ filter_map-append f (numbers_below n) (n ∷ [])
    ∙ ap (λ xs. xs ++ cons_option (f n) []) (filter_map-below_same f g n (λ m h. same m (omega arith)))
    ∙ ap (λ (o : Option X). filter_map g (numbers_below n) ++ cons_option o []) (same n (omega arith))
    ∙ sym (ap (filter_map g) more ∙ filter_map-append g (numbers_below n) (n ∷ []))

-- An item in the first of two joined lists is at the same place in the joined list.
pub slice_get-append : {X : Type 0} (xs ys : List X) (n : ℕ) → n < length xs → slice_get (xs ++ ys) n ≡ slice_get xs n
slice_get-append [] ys n h = absurd (omega arith)
slice_get-append (x ∷ xs) ys zero h = refl
slice_get-append (x ∷ xs) ys (suc n) h = slice_get-append xs ys n (omega arith)

-- ---- tickets of submitted commands

-- All tickets of the list are below n.
abbrev pub AreBelow : ℕ → List ℕ → Type 0
AreBelow n [] = Unit {0}
AreBelow n (t ∷ ts) = (t < n) × AreBelow n ts

below_put : (n : ℕ) (o : Option ℕ) (ts : List ℕ) → ((t : ℕ) → o ≡ Some t → t < n) → AreBelow n ts
    → AreBelow n (cons_option o ts)
below_put n None ts h below = below
below_put n (Some t) ts h below = (h t refl, below)

below_all : (n : ℕ) (f : ℕ → Option ℕ) (xs : List ℕ) → ((i t : ℕ) → f i ≡ Some t → t < n) → AreBelow n (filter_map f xs)
below_all n f [] h = tt
below_all n f (x ∷ xs) h = below_put n (f x) (filter_map f xs) (h x) (below_all n f xs h)

pub below_take : (n m : ℕ) (ts : List ℕ) → AreBelow n ts → AreBelow n (take m ts)
below_take n zero ts h = tt
below_take n (suc m) [] h = tt
below_take n (suc m) (t ∷ ts) h = (h.0, below_take n m ts h.1)

ticket_told : (o : Option Value) (t : ℕ) → ticket_of o ≡ Some t → o ≡ Some (Ticket t)
ticket_told None t h = absurd (cc)
ticket_told (Some Noop) t h = absurd (cc)
ticket_told (Some (Ticket u)) t h = let same : u ≡ t = cc in ap (λ (n : ℕ). Some (Ticket n)) same

-- Every executed ticket was submitted.
pub history-below : (m : Membership) (w : Trace) (p : ℕ) → HasClusterFacts m w
    → AreBelow (length (submitted_commands w)) (history w p)
history-below m w p told =
    below_all (length (submitted_commands w)) (λ i. ticket_of (learned_value w p i)) (numbers_below (done w p))
    (λ i t h. told.ticketed p i t (ticket_told (learned_value w p i) t h))

-- ---- facts that an event does not change

-- The history of a server that executes nothing stays the same.
pub history_kept : (m : Membership) (w : Trace) (e : Event) (p : ℕ) → HasClusterFacts m w → done_by p (head e) ≡ 0
    → history (with_event m w e) p ≡ history w p
history_kept m w e p told none =
    let same : done (with_event m w e) p ≡ done w p =
    done-event m w e p ∙ ap (λ n. done w p + n) none ∙ add-zero (done w p) in
    ap (λ n. filter_map (λ i. ticket_of (learned_value (with_event m w e) p i)) (numbers_below n)) same
    ∙ filter_map-below_same _ _ (done w p)
    (λ i h. let r = told.executed p i h in ap ticket_of (learned_value-event m w e p i r.0 r.1 ∙ sym r.1))

command_kept : (m : Membership) (w : Trace) (e : Event) (t : ℕ) → t < length (submitted_commands w)
    → command_at (with_event m w e) t ≡ command_at w t
command_kept m w e t h =
    ap (λ xs. option_map (λ (x : Command × ℕ). x.0) (slice_get xs t)) (submitted_commands-event m w e)
    ∙ ap (option_map (λ (x : Command × ℕ). x.0))
    (slice_get-append (submitted_commands w) (option_to_list (command_in (head e))) t h)

-- Two traces with the same commands at the tickets below n give the same commands for each list of these tickets.
pub commands_same : (v w : Trace) (n : ℕ) (ts : List ℕ) → ((t : ℕ) → t < n → command_at v t ≡ command_at w t)
    → AreBelow n ts → commands_of v ts ≡ commands_of w ts
commands_same v w n [] same h = refl
commands_same v w n (t ∷ ts) same h =
    ap (λ o. cons_option o (commands_of v ts)) (same t h.0)
    ∙ ap (cons_option (command_at w t)) (commands_same v w n ts same h.1)

-- The commands of submitted tickets stay the same after an event.
pub commands_kept : (m : Membership) (w : Trace) (e : Event) (ts : List ℕ) → AreBelow (length (submitted_commands w)) ts
    → commands_of (with_event m w e) ts ≡ commands_of w ts
commands_kept m w e ts h = commands_same (with_event m w e) w (length (submitted_commands w)) ts (command_kept m w e) h

abbrev Answered_of : List Command → Command → Answered
Answered_of cs command = Given (out cs command)

reply_from_kept : (m : Membership) (w : Trace) (e : Event) (command : Command) (home : ℕ) (o : Option ℕ)
    → HasClusterFacts m w
    → done_by home (head e) ≡ 0
    → reply_from (with_event m w e) command home o ≡ reply_from w command home o
reply_from_kept m w e command home None told none = refl
reply_from_kept m w e command home (Some n) told none =
    ap (λ h. Answered_of (commands_of (with_event m w e) (take n h)) command) (history_kept m w e home told none)
    ∙ ap (λ cs. Answered_of cs command)
    (commands_kept m w e (take n (history w home)) (below_take _ n _ (history-below m w home told)))

-- The reply of a command stays the same if its home executes nothing.
pub reply_kept : (m : Membership) (w : Trace) (e : Event) (t : ℕ) (command : Command) (home : ℕ) → HasClusterFacts m w
    → done_by home (head e) ≡ 0
    → reply_at (with_event m w e) t command home ≡ reply_at w t command home
reply_kept m w e t command home told none =
    ap (λ h. reply_from (with_event m w e) command home (index_of_first (λ u. u == t) h))
    (history_kept m w e home told none)
    ∙ reply_from_kept m w e command home (index_of_first (λ u. u == t) (history w home)) told none
