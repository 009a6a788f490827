-- The log that a judge has seen keeps all promises, and so does each earlier part of it.
use Rattle.std.proofs.Common.{◌≡◌, ◌⊎◌, inl, inr, ℕ, zero, suc, ◌≤◌, Bool, true, false, cond, List, [], ◌∷◌, ◌++◌, ◌==◌, Option, Some, None, is_some, length, slice_get, take, refl, sym, subst, ap, ◌∙◌, ⊎_elim, append_assoc}
use Rattle.std.specs.Prelude.{MatchBool, IsNone, ◌↔◌, max}
use Rattle.std.proofs.lemmas.Bool.{eqb-true}
use Rattle.mencius_base.specs.declared.command.CommandId.{CommandId}
use Rattle.mencius_model.specs.Executed.{IsComparable, IsPrefix}
use Rattle.mencius_model.specs.KeyMap.{out, value_at}
use Rattle.mencius_model.proofs.trace.Prefixes.{prefix_either, prefix_empty, prefix_self, prefix_trans}
use Rattle.mencius_judge.specs.declared.judge.Judge.{Judge}
use Rattle.mencius_log.specs.declared.observation.Observation.{Observation}
use Rattle.mencius_log.specs.declared.observation.Observation.TheVariants.{Submit, Execute, Reply, Lookup, Tell, Settle, Restore}
use Rattle.mencius_judge.specs.declared.violation.Promise.{Promise}
use Rattle.mencius_judge.specs.declared.violation.Promise.TheVariants.{OneCommand, Submitted, Once, SameOrder, RealTime, OneReply, RightReply, RightLookup, Settled}
use Rattle.mencius_judge.specs.declared.violation.Promise.TheVariants as promise
use Rattle.mencius_judge.specs.declared.quote.Quote.{Quote}
use Rattle.mencius_judge.specs.declared.violation.Violation.{Violation}
use Rattle.mencius_judge.specs.Answers.{IsRight}
use Rattle.mencius_judge.specs.Judged.{HasSeenLog, IsJudged}
use Rattle.mencius_judge.specs.Violations.{promise_of}
use Rattle.mencius_judge.specs.Log.{Log, MaySee, acknowledged_before, command_of, commands_of, history}
use Rattle.mencius_judge.specs.Promises.{Holds, KeepsAll, WereRestored, WereSettled, WereSubmitted}
use Rattle.mencius_judge.specs.Quotes.{NumberedLog, log_of}
use Rattle.mencius_judge.specs.Tables.{floor_of}
use Rattle.mencius_judge.proofs.observations.HistorySteps.{comparable, stand_once, whole_get}
use Rattle.mencius_judge.proofs.promises.Logs.{AreKnown, contains_later, kept_before, kept_command, kept_commands}
use Rattle.mencius_judge.proofs.observations.OrderSteps.{front_known, item_known, right_replies, stand_behind}

pub keeps : (j : Judge) (w : Log) → HasSeenLog j w → KeepsAll w
keeps j w h =
    let order = j.histories.order.items in
    let places = j.histories.places in
    let rows = j.histories.rows.items in
    record {
      one_command = h.one_command;
      submitted = h.were_submitted;
      once = stand_once w order places rows h.histories h.order;
      same_order = comparable w order places rows h.histories;
      real_time = stand_behind w order places rows h.histories h.order;
      one_reply = h.one_reply;
      right_reply = right_replies w order places rows h.histories h.order;
      right_lookup = λ r. (floor_of j.floors r, h.floors.seen r);
      settled = h.were_settled;
      restored = h.were_restored;
    }

pub holds : (w : Log) → KeepsAll w → (promise : Promise) → Holds promise w
holds w h OneCommand = h.one_command
holds w h Submitted = h.submitted
holds w h Once = h.once
holds w h SameOrder = h.same_order
holds w h RealTime = h.real_time
holds w h OneReply = h.one_reply
holds w h RightReply = h.right_reply
holds w h RightLookup = h.right_lookup
holds w h Settled = h.settled
holds w h promise.Restore = h.restored

-- ---- one observation earlier

-- a history is a prefix of the history after the next observation. Only a server without a history takes over a snapshot
pub history_grows : (w : Log) (o : Observation) → WereRestored (o ∷ w) → (p : ℕ) → IsPrefix (history w p) (history (o ∷ w) p)
history_grows w (Submit c) h p = prefix_self (history w p)
history_grows w (Execute q id) h p = by_test (q == p)
  where
    by_test : (d : Bool) → IsPrefix (history w p) (cond d (history w p ++ id ∷ []) (history w p))
    by_test true = (id ∷ [], refl)
    by_test false = prefix_self (history w p)
history_grows w (Reply id answer) h p = prefix_self (history w p)
history_grows w (Lookup reader key text) h p = prefix_self (history w p)
history_grows w (Tell reader server) h p = prefix_self (history w p)
history_grows w (Settle server) h p = prefix_self (history w p)
history_grows w (Restore q source count) h p = by_test (q == p) refl
  where
    by_test : (d : Bool) → (q == p) ≡ d
        → IsPrefix (history w p) (cond d (take count (history w source)) (history w p))
    by_test true e =
        let none : history w p ≡ [] = ap (history w) (sym (eqb-true q p e)) ∙ h.0 in
        subst (λ ids. IsPrefix ids (take count (history w source))) (sym none) (prefix_empty (take count (history w source)))
    by_test false e = prefix_self (history w p)

-- each command of a history was submitted
pub all_known : (w : Log) (p : ℕ) → WereSubmitted w → AreKnown w (history w p)
all_known [] p h n id e = absurd (cc)
all_known (Submit c ∷ w) p h n id e =
    let was : is_some (command_of w id) ≡ true = all_known w p h n id e in
    ap is_some (kept_command w c id was) ∙ was
all_known (Execute q x ∷ w) p h n id e = by_test (q == p) e (λ m y g. all_known w p h.1 m y g)
  where
    last : (xs : List CommandId) (m : ℕ) → slice_get (xs ++ x ∷ []) m ≡ Some id
        → (slice_get xs m ≡ Some id) ⊎ (x ≡ id)
    last [] zero g = inr (cc)
    last [] (suc m) g = absurd (cc)
    last (z ∷ xs) zero g = inl g
    last (z ∷ xs) (suc m) g = last xs m g

    by_test : (d : Bool) → slice_get (cond d (history w p ++ x ∷ []) (history w p)) n ≡ Some id
        → AreKnown w (history w p) → is_some (command_of w id) ≡ true
    by_test false g known = known n id g
    by_test true g known =
        ⊎_elim (λ (f : slice_get (history w p) n ≡ Some id). known n id f)
        (λ (f : x ≡ id). subst (λ (a : CommandId). is_some (command_of w a) ≡ true) f h.0) (last (history w p) n g)
all_known (Reply x text ∷ w) p h n id e = all_known w p h.1 n id e
all_known (Lookup reader key text ∷ w) p h n id e = all_known w p h n id e
all_known (Tell reader server ∷ w) p h n id e = all_known w p h n id e
all_known (Settle server ∷ w) p h n id e = all_known w p h n id e
all_known (Restore q source count ∷ w) p h n id e =
    by_test (q == p) e (λ g. all_known w p h n id g) (λ g. all_known w source h n id g)
  where
    by_test : (d : Bool) → slice_get (cond d (take count (history w source)) (history w p)) n ≡ Some id
        → (slice_get (history w p) n ≡ Some id → is_some (command_of w id) ≡ true)
        → (slice_get (history w source) n ≡ Some id → is_some (command_of w id) ≡ true)
        → is_some (command_of w id) ≡ true
    by_test false g own theirs = own g
    by_test true g own theirs = theirs (whole_get count (history w source) n id g)

pub submitted_earlier : (w : Log) (o : Observation) → WereSubmitted (o ∷ w) → WereSubmitted w
submitted_earlier w (Submit c) h = h
submitted_earlier w (Execute p id) h = h.1
submitted_earlier w (Reply id answer) h = h.1
submitted_earlier w (Lookup reader key text) h = h
submitted_earlier w (Tell reader server) h = h
submitted_earlier w (Settle server) h = h
submitted_earlier w (Restore server source count) h = h

pub settled_earlier : (w : Log) (o : Observation) → WereSettled (o ∷ w) → WereSettled w
settled_earlier w (Settle server) h = h.1
settled_earlier w (Submit c) h = h
settled_earlier w (Execute p id) h = h
settled_earlier w (Reply id answer) h = h
settled_earlier w (Lookup reader key text) h = h
settled_earlier w (Tell reader server) h = h
settled_earlier w (Restore server source count) h = h

pub restored_earlier : (w : Log) (o : Observation) → WereRestored (o ∷ w) → WereRestored w
restored_earlier w (Restore server source count) h = h.2
restored_earlier w (Submit c) h = h
restored_earlier w (Execute p id) h = h
restored_earlier w (Reply id answer) h = h
restored_earlier w (Lookup reader key text) h = h
restored_earlier w (Tell reader server) h = h
restored_earlier w (Settle server) h = h

pub comparable_earlier : {A : Type 0} (xs ys vs bs : List A) → IsPrefix xs vs → IsPrefix ys bs → IsComparable vs bs
    → IsComparable xs ys
comparable_earlier xs ys vs bs h g either =
    ⊎_elim (λ (r : IsPrefix vs bs). prefix_either xs ys bs (prefix_trans xs vs bs h r) g)
    (λ (r : IsPrefix bs vs). prefix_either xs ys vs h (prefix_trans ys bs vs g r)) either

pub still_there : {A : Type 0} (xs ys : List A) (n : ℕ) (x : A) → IsPrefix xs ys → slice_get xs n ≡ Some x
    → slice_get ys n ≡ Some x
still_there {A = A} xs ys n x h e = ap (λ zs. slice_get zs n) (sym h.1) ∙ first xs n e
  where
    first : (zs : List A) (m : ℕ) → slice_get zs m ≡ Some x → slice_get (zs ++ h.0) m ≡ Some x
    first [] m g = absurd (cc)
    first (z ∷ zs) zero g = g
    first (z ∷ zs) (suc m) g = first zs m g

pub longer_split : {A : Type 0} (xs ys front back : List A) (x : A) → (h : IsPrefix xs ys) → xs ≡ front ++ x ∷ back
    → ys ≡ front ++ x ∷ (back ++ h.0)
longer_split xs ys front back x h e = sym h.1 ∙ ap (λ zs. zs ++ h.0) e ∙ append_assoc front (x ∷ back) h.0

-- if a command was submitted, a further observation does not change it or what was acknowledged before it
pub same_command : (w : Log) (o : Observation) (id : CommandId) → is_some (command_of w id) ≡ true
    → command_of (o ∷ w) id ≡ command_of w id
same_command w (Submit c) id h = kept_command w c id h
same_command w (Execute p x) id h = refl
same_command w (Reply x answer) id h = refl
same_command w (Lookup reader key text) id h = refl
same_command w (Tell reader server) id h = refl
same_command w (Settle server) id h = refl
same_command w (Restore server source count) id h = refl

same_before : (w : Log) (o : Observation) (id : CommandId) → is_some (command_of w id) ≡ true
    → acknowledged_before (o ∷ w) id ≡ acknowledged_before w id
same_before w (Submit c) id h = kept_before w c id h
same_before w (Execute p x) id h = refl
same_before w (Reply x answer) id h = refl
same_before w (Lookup reader key text) id h = refl
same_before w (Tell reader server) id h = refl
same_before w (Settle server) id h = refl
same_before w (Restore server source count) id h = refl

pub same_commands : (w : Log) (o : Observation) (ids : List CommandId) → AreKnown w ids
    → commands_of (o ∷ w) ids ≡ commands_of w ids
same_commands w (Submit c) ids h = kept_commands w c ids h
same_commands w (Execute p x) ids h = refl
same_commands w (Reply x answer) ids h = refl
same_commands w (Lookup reader key text) ids h = refl
same_commands w (Tell reader server) ids h = refl
same_commands w (Settle server) ids h = refl
same_commands w (Restore server source count) ids h = refl

seen_earlier : (w : Log) (o : Observation) (r n : ℕ) → MaySee (o ∷ w) r n → (m : ℕ) × MaySee w r m
seen_earlier w (Submit c) r n h = (n, h)
seen_earlier w (Execute p x) r n h = (n, h)
seen_earlier w (Reply x answer) r n h = (n, h)
seen_earlier w (Settle server) r n h = (n, h)
seen_earlier w (Restore server source count) r n h = (n, h)
seen_earlier w (Tell reader server) r n h = by_test (reader == r) h
  where
    by_test : (d : Bool) → MatchBool d ((m : ℕ) × MaySee w r m × (n ≡ max m (length (history w server)))) (MaySee w r n)
        → (m : ℕ) × MaySee w r m
    by_test true g = (g.0, g.1)
    by_test false g = (n, g)
seen_earlier w (Lookup reader key text) r n h = by_test (reader == r) h
  where
    by_test : (d : Bool)
        → MatchBool d ((m : ℕ) × MaySee w r m × (m ≤ n) × (p : ℕ) × (n ≤ length (history w p))
        × (text ≡ value_at key (commands_of w (take n (history w p))))) (MaySee w r n)
        → (m : ℕ) × MaySee w r m
    by_test true g = (g.0, g.1)
    by_test false g = (n, g)

pub kept_earlier : (w : Log) (o : Observation) → KeepsAll (o ∷ w) → KeepsAll w
kept_earlier w o h =
    let before = submitted_earlier w o h.submitted in
    let grows = history_grows w o h.restored in
    record {
      one_command = λ c d first second.
          h.one_command c d (contains_later o w (Submit c) first) (contains_later o w (Submit d) second);
      submitted = before;
      once = λ p n m id e f.
          h.once p n m id (still_there _ _ n id (grows p) e) (still_there _ _ m id (grows p) f);
      same_order = λ p q.
          comparable_earlier _ _ _ _ (grows p) (grows q) (h.same_order p q);
      real_time = λ p front back id x e inside.
          h.real_time p front (back ++ (grows p).0) id x
          (longer_split _ _ front back id (grows p) e)
          (rw (same_before w o id (item_known w (history w p) front back id (all_known w p before) e)) inside);
      one_reply = λ id x y first second.
          h.one_reply id x y (contains_later o w (Reply id x) first) (contains_later o w (Reply id y) second);
      right_reply = λ p front back id c x e is there.
          subst (λ cs. IsRight c.op (out cs c) x)
          (same_commands w o front (front_known w (history w p) front back id (all_known w p before) e))
          (h.right_reply p front (back ++ (grows p).0) id c x
          (longer_split _ _ front back id (grows p) e)
          (same_command w o id (ap is_some is) ∙ is) (contains_later o w (Reply id x) there));
      right_lookup = λ r. let now = h.right_lookup r in seen_earlier w o r now.0 now.1;
      settled = settled_earlier w o h.settled;
      restored = restored_earlier w o h.restored;
    }

pub kept_before_all : (later w : Log) → KeepsAll (later ++ w) → KeepsAll w
kept_before_all [] w h = h
kept_before_all (o ∷ later) w h = kept_before_all later w (kept_earlier (later ++ w) o h)

-- ---- the verdict on one observation

pub judged_kept : (lines : NumberedLog) (line : Quote) (x : Option Violation) (j : Judge) → IsJudged lines line x j
    → IsNone x ↔ KeepsAll (line.observation ∷ log_of lines)
judged_kept lines line None j h = ((λ none. keeps j (line.observation ∷ log_of lines) h.log), (λ k. refl))
judged_kept lines line (Some violation) j h =
    ((λ none. absurd (cc)), (λ k. absurd (h.0.1 (holds (line.observation ∷ log_of lines) k (promise_of violation)))))
