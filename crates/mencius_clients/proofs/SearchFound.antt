-- A search keeps an order for each configuration of each key, line by line.
use Rattle.std.proofs.Common.{Option, is_some, ◌≤◌, drop, take, length-take, arith, ◌<◌, zero, suc, ◌≡◌, ◌≢◌, inl, inr, true, false, List, [], ◌∷◌, ◌++◌, Some, None, ℕ, length, reverse, slice_get, refl, sym, subst, ap, ◌∙◌, append_assoc}
use Rattle.std.specs.BTreeMap.{get_by_text}
use Rattle.std.specs.List.{Contains}
use Rattle.mencius_base.specs.declared.command.Command.{Command}
use Rattle.mencius_base.specs.declared.command.CommandId.{CommandId}
use Rattle.mencius_model.specs.KeyMap.{key_of}
use Rattle.mencius_log.specs.declared.observation.Answer.{Answer}
use Rattle.mencius_log.specs.declared.observation.Observation.{Observation}
use Rattle.mencius_log.specs.declared.observation.Observation.TheVariants.{Submit, Execute, Reply, Lookup, Tell, Settle, Restore}
use Rattle.mencius_judge.specs.Log.{Log, acknowledged, command_of, has_id, is_failed}
use Rattle.mencius_judge.proofs.keys.Changes.{key_cases}
use Rattle.mencius_clients.specs.declared.search.Search.{Search}
use Rattle.mencius_clients.specs.declared.configuration.Configuration.{Configuration}
use Rattle.mencius_clients.proofs.Words.{no_slot}
use Rattle.mencius_clients.specs.Configurations.{has_slot, no_slots, text_at, IsPlaced, IsUnacknowledged, submitted_by, waiting}
use Rattle.std.proofs.lemmas.List.{length-reverse, take-append-drop, take_all}
use Rattle.mencius_judge.specs.declared.judge.Judge.{Judge}
use Rattle.mencius_judge.specs.Judged.{HasSeenLog}
use Rattle.mencius_judge.specs.Promises.{AreOneReply}
use Rattle.mencius_clients.specs.declared.explanation.Explanation.{Explanation}
use Rattle.mencius_clients.specs.declared.outcome.Outcome.{Outcome}
use Rattle.mencius_clients.specs.declared.outcome.Outcome.TheVariants.{Goes}
use Rattle.mencius_clients.specs.declared.outcome.Outcome.TheVariants as outcome
use Rattle.mencius_clients.specs.Explained.{HasHeard, IsEnd, IsLinearizable, heard}
use Rattle.mencius_clients.proofs.Explaining.{reply_still}
use Rattle.mencius_clients.specs.ManyStates.{ComesAfterMany}
use Rattle.mencius_clients.specs.OrdersSoFar.{AreWithin, HasFound, IsFoundBy, IsLongerTrail, IsSoundlyAnswered}
use Rattle.mencius_clients.specs.States.{ReachMany}
use Rattle.mencius_clients.specs.Reached.{AreWaiting}
use Rattle.mencius_clients.specs.Searched.{HasSearched, configurations_of, slots_of}
use Rattle.mencius_clients.proofs.Later.{acknowledged_either, command_later}
use Rattle.mencius_clients.specs.KeyOrders.{ids_at}
use Rattle.mencius_clients.proofs.LocalityMerging.{local}
use Rattle.mencius_clients.proofs.StatesLeft.{linearizes}
use Rattle.mencius_clients.proofs.OrdersFound.{none_found, line_calls, line_many, line_passes, line_replies}

-- a line that acknowledges no further command
pub search_passes : (log : List Observation) (u : Log) (o : Observation) (s n : Search)
    → ((key : List ℕ) → get_by_text n.by_key key ≡ get_by_text s.by_key key)
    → IsLongerTrail s.trail.items n.trail.items
    → ((id : CommandId) → has_id (acknowledged (o ∷ u)) id ≡ true → has_id (acknowledged u) id ≡ true)
    → HasFound log u s → HasFound log (o ∷ u) n
search_passes log u o s n same longer none h key =
    subst (IsFoundBy log (o ∷ u) key n.trail.items) (sym (same key))
    (line_passes log key u o s.trail.items n.trail.items (get_by_text s.by_key key) longer
    (λ id c acked is own. none id acked) (h key))

-- a line submits a new command, which waits in a free slot of its key
pub search_calls : (log : List Observation) (u : Log) (s n : Search) (line : ℕ) (command : Command)
    → IsPlaced log (slots_of (get_by_text s.by_key (key_of command.op))) (slots_of (get_by_text n.by_key (key_of command.op))) line
    → configurations_of (get_by_text n.by_key (key_of command.op)) ≡ configurations_of (get_by_text s.by_key (key_of command.op))
    → ((x : List ℕ) → x ≢ key_of command.op → get_by_text n.by_key x ≡ get_by_text s.by_key x)
    → n.trail.items ≡ s.trail.items
    → submitted_by (slice_get log line) ≡ Some command → line ≡ length u → command_of u command.id ≡ None
    → ((x : Answer) → IsUnacknowledged log command.id → Contains log (Reply command.id x) → ⊥)
    → HasFound log u s → HasFound log (Submit command ∷ u) n
search_calls log u s n line command placed same others trail submits at fresh silent h key =
    subst (λ steps. IsFoundBy log (Submit command ∷ u) key steps (get_by_text n.by_key key)) (sym trail)
    (elim (key_cases key (key_of command.op)) [
      | inl own ↦
          subst (λ k. IsFoundBy log (Submit command ∷ u) k s.trail.items (get_by_text n.by_key k)) (sym own)
          (line_calls log (key_of command.op) u s.trail.items (get_by_text s.by_key (key_of command.op))
          (get_by_text n.by_key (key_of command.op)) line command placed same submits at fresh silent (h (key_of command.op)))
      | inr other ↦
          subst (IsFoundBy log (Submit command ∷ u) key s.trail.items) (sym (others key other))
          (line_passes log key u (Submit command) s.trail.items s.trail.items (get_by_text s.by_key key) (λ k step e. e)
          (λ id c acked is own. acked) (h key))
    ])

-- a line is a reply other than `failed` to a submitted command
pub search_replies : (log : List Observation) (u later : Log) (id : CommandId) (x : Answer) (s n : Search)
    (command : Command)
    → ((y : CommandId) (a b : Answer) → Contains (reverse log) (Reply y a) → Contains (reverse log) (Reply y b) → a ≡ b)
    → is_failed x ≡ false → reverse log ≡ later ++ Reply id x ∷ u → command_of u id ≡ Some command
    → ((key : List ℕ) → AreWaiting log u key (waiting log (slots_of (get_by_text s.by_key key))))
    → IsLongerTrail s.trail.items n.trail.items
    → IsSoundlyAnswered log id (slots_of (get_by_text s.by_key (key_of command.op)))
    (configurations_of (get_by_text s.by_key (key_of command.op)))
    (slots_of (get_by_text n.by_key (key_of command.op)))
    (configurations_of (get_by_text n.by_key (key_of command.op))) s.trail.items n.trail.items
    → ((k : List ℕ) → k ≢ key_of command.op → get_by_text n.by_key k ≡ get_by_text s.by_key k)
    → HasFound log u s → HasFound log (Reply id x ∷ u) n
search_replies log u later id x s n command one_reply counts whole is waits longer answered others h key =
    elim (key_cases key (key_of command.op)) [
      | inl own ↦
          subst (λ k. IsFoundBy log (Reply id x ∷ u) k n.trail.items (get_by_text n.by_key k)) (sym own)
          (line_replies log (key_of command.op) one_reply u later id x counts whole
          (get_by_text s.by_key (key_of command.op)) (get_by_text n.by_key (key_of command.op))
          s.trail.items n.trail.items longer (waits (key_of command.op)) command is refl (h (key_of command.op)) answered)
      | inr other ↦
          subst (IsFoundBy log (Reply id x ∷ u) key n.trail.items) (sym (others key other))
          (line_passes log key u (Reply id x) s.trail.items n.trail.items (get_by_text s.by_key key) longer
          (λ y c acked there own. elim (acknowledged_either u id y x acked) [
            | inl same ↦ absurd (other (sym own ∙ mine y c same there))
            | inr before ↦ before
          ]) (h key))
    ]
  where
    first : command_of (reverse log) id ≡ Some command
    first = ap (λ (l : Log). command_of l id) (whole ∙ sym (append_assoc later (Reply id x ∷ []) u))
        ∙ command_later (later ++ Reply id x ∷ []) u id command is

    mine : (y : CommandId) (c : Command) → id ≡ y → command_of (reverse log) y ≡ Some c → key_of c.op ≡ key_of command.op
    mine y c same there =
        let at : command_of (reverse log) id ≡ Some c = ap (command_of (reverse log)) same ∙ there in
        let one : c ≡ command = cc (at, first) in
        ap (λ (d : Command). key_of d.op) one

-- a search is given up at such a reply
pub search_many : (log : List Observation) (u later : Log) (id : CommandId) (x : Answer) (s n : Search)
    (command : Command)
    → ((y : CommandId) (a b : Answer) → Contains (reverse log) (Reply y a) → Contains (reverse log) (Reply y b) → a ≡ b)
    → is_failed x ≡ false → reverse log ≡ later ++ Reply id x ∷ u → command_of u id ≡ Some command
    → HasSearched (reverse log) u log s → IsLongerTrail s.trail.items n.trail.items → (most : ℕ)
    → (AreWithin (configurations_of (get_by_text s.by_key (key_of command.op))) s.trail.items
    → ReachMany log (slots_of (get_by_text s.by_key (key_of command.op))) n.trail.items
    (configurations_of (get_by_text s.by_key (key_of command.op))) most)
    → HasFound log u s → ComesAfterMany u (Reply id x) most
search_many log u later id x s n command one_reply counts whole is searched longer most reach h =
    let key = key_of command.op in (
      id,
      x,
      refl,
      counts,
      command,
      is,
      line_many log key one_reply u later id x counts whole (get_by_text s.by_key key) (get_by_text n.by_key key)
          s.trail.items n.trail.items longer (searched.keys key).waits command is refl (h key) searched.submitted most reach,
    )

-- before the first line
pub nothing_found : (log : List Observation) (s : Search) → ((key : List ℕ) → get_by_text s.by_key key ≡ None)
    → HasFound log [] s
nothing_found log s none key =
    subst (IsFoundBy log [] key s.trail.items) (sym (none key))
    (none_found log key s.trail.items (λ c one. empty c one.0 one.1)
    (record { done = no_slots; text = 0; unseen = false; trail = 0 }, (0, refl)))
  where
    empty : (c : Configuration) (n : ℕ) → slice_get (configurations_of None) n ≡ Some c
        → (c.trail ≡ 0) × (text_at log c.text ≡ None) × ((t : ℕ) → has_slot c.done t ≡ false)
    empty c zero e =
        let same : record { done = no_slots; text = 0; unseen = false; trail = 0 } ≡ c = cc in
        subst (λ (d : Configuration). (d.trail ≡ 0) × (text_at log d.text ≡ None) × ((t : ℕ) → has_slot d.done t ≡ false)) same
        (refl, refl, no_slot)
    empty c (suc n) e = absurd (cc)

-- a line that is no reply acknowledges nothing
pub other_line : (u : Log) (o : Observation) (id : CommandId) → ((x : CommandId) (a : Answer) → o ≡ Reply x a → ⊥)
    → has_id (acknowledged (o ∷ u)) id ≡ true → has_id (acknowledged u) id ≡ true
other_line u (Submit c) id none e = e
other_line u (Execute p x) id none e = e
other_line u (Reply x a) id none e = absurd (none x a refl)
other_line u (Lookup r key x) id none e = e
other_line u (Tell r p) id none e = e
other_line u (Settle p) id none e = e
other_line u (Restore p q n) id none e = e

-- ---- the lines of a log

pub goes_on : (outcome : Outcome) (line : ℕ) (found : Option Explanation) → IsEnd outcome line found → found ≡ None
    → outcome ≡ Goes
goes_on Goes line found is none = refl
goes_on outcome.Unexplained line found is none = absurd (cc (is, none))
goes_on outcome.Waiting line found is none = absurd (cc (is, none))
goes_on outcome.Configurations line found is none = absurd (cc (is, none))

pub part_length : (log : List Observation) (line : ℕ) → line < length log → line ≡ length (reverse (take line log))
part_length log line less = omega (arith, length-reverse (take line log), length-take line log)

pub whole_part : (log : List Observation) (line : ℕ) → length log ≤ line → reverse (take line log) ≡ reverse log
whole_part log line all = ap reverse (take_all line log all)

pub one_reply_heard : (j : Judge) (log : List Observation) → HasHeard j (heard (reverse log)) → AreOneReply (reverse log)
one_reply_heard j log h id x y a b =
    (subst (HasSeenLog j) h.2 h.1.log).one_reply id x y (reply_still (reverse log) id x a) (reply_still (reverse log) id y b)

-- the lines that the search took have a linearization
pub part_linearizable : (log part rest : List Observation) (s : Search) → log ≡ part ++ rest
    → ((id : CommandId) → has_id (acknowledged (reverse part)) id ≡ true → is_some (command_of (reverse part) id) ≡ true)
    → HasFound log (reverse part) s → IsLinearizable (reverse part)
part_linearizable log part rest s whole submitted h =
    (local (reverse part)).1 (λ key.
    let found : IsFoundBy log (reverse part) key s.trail.items (get_by_text s.by_key key) = h key in
    let c : Configuration = found.some.0 in
    let order = found.orders c found.some.1 in (
      ids_at log (reverse order.0),
      linearizes log part rest whole key (waiting log (slots_of (get_by_text s.by_key key))) (λ t. has_slot c.done t)
          (text_at log c.text) (reverse order.0) order.2 submitted,
    ))

pub lines_linearizable : (log : List Observation) (line : ℕ) (w : Log) (s : Search)
    → HasSearched w (reverse (take line log)) log s → HasFound log (reverse (take line log)) s
    → IsLinearizable (reverse (take line log))
lines_linearizable log line w s searched found =
    part_linearizable log (take line log) (drop line log) s (sym (take-append-drop line log)) searched.submitted found
