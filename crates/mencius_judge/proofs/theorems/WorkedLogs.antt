-- Each promise has a small log that keeps it, and one that breaks it. The values of the definitions on these logs are
-- computed, not proved.
use Rattle.std.proofs.Common.{◌≡◌, ◌≤◌, ◌⊎◌, ◌||◌, inl, inr, ℕ, zero, suc, Bool, true, false, cond, not, List, [], ◌∷◌, ◌++◌, Some, None, arith, get_or, is_some, length, slice_get, take, refl, sym, subst, ap, ◌∙◌, ⊎_elim}
use Rattle.std.specs.Prelude.{IsTrue, MatchBool, ◌==◌}
use Rattle.std.specs.List.{Contains}
use Rattle.mencius_base.specs.declared.command.Command.{Command}
use Rattle.mencius_base.specs.declared.command.CommandId.{CommandId}
use Rattle.mencius_base.specs.declared.command.Op.TheVariants.{Set, Get, Del, Cas}
use Rattle.mencius_model.specs.Executed.{IsComparable, IsPrefix}
use Rattle.mencius_model.specs.KeyMap.{has_text, out, value_at}
use Rattle.mencius_model.proofs.worked.WorkedSchedules.{nothing, set_a, text_x}
use Rattle.mencius_log.specs.declared.observation.Answer.{Answer}
use Rattle.mencius_log.specs.declared.observation.Answer.TheVariants.{Held, Done, Failed}
use Rattle.mencius_log.specs.declared.observation.Observation.TheVariants.{Submit, Execute, Reply, Lookup, Settle, Restore}
use Rattle.mencius_judge.specs.Answers.{IsRight}
use Rattle.mencius_judge.specs.Log.{Log, MaySee, acknowledged, acknowledged_before, command_of, commands_of, has_id, history, reply_count, reply_of, servers_of}
use Rattle.mencius_judge.specs.Promises.{AreComparable, AreOneCommand, AreOneReply, AreRightLookups, AreRightReplies, StandBehindReplies, StandOnce, WasJudged, WereRestored, WereSettled, WereSubmitted}
use Rattle.mencius_judge.proofs.promises.Logs.{contains_cons, contains_none}

-- the key and the texts of the commands
abbrev pub a : List ℕ
a = 97 ∷ []

abbrev pub x : List ℕ
x = 120 ∷ []

abbrev pub y : List ℕ
y = 121 ∷ []

-- a command that binds the key `a` to `y` if it holds `x`
abbrev pub cas_a : Command
cas_a = record { id = record { client = 2; number = 0 }; op = Cas a x y }

abbrev pub first : CommandId
first = set_a.id

abbrev pub second : CommandId
second = cas_a.id

-- ---- the questions about a log

-- a log with the newest observation first. Server 0 executes both commands, and server 1 executes the second one first
abbrev crossed_log : Log
crossed_log =
    Execute 1 second ∷ Execute 0 second ∷ Execute 0 first ∷ Submit cas_a ∷ Reply first Done ∷ Submit set_a ∷ []

first_history : history crossed_log 0 ≡ first ∷ second ∷ []
first_history = refl

second_history : history crossed_log 1 ≡ second ∷ []
second_history = refl

in_this_order : servers_of crossed_log ≡ 0 ∷ 1 ∷ []
in_this_order = refl

known_command : command_of crossed_log second ≡ Some cas_a
known_command = refl

unknown_command : command_of crossed_log (record { client = 3; number = 0 }) ≡ None
unknown_command = refl

first_answer : reply_of crossed_log first ≡ Some Done
first_answer = refl

-- the reply to the first command came before the second one was submitted, but after its own submission
second_behind : acknowledged_before crossed_log second ≡ first ∷ []
second_behind = refl

first_behind_none : acknowledged_before crossed_log first ≡ []
first_behind_none = refl

-- the log of a command that failed, and of a command with two replies
abbrev answered_log : Log
answered_log = Reply second Failed ∷ Reply first (Held None) ∷ Reply first (Held None) ∷ []

one_acknowledged : acknowledged answered_log ≡ first ∷ []
one_acknowledged = refl

two_replied : reply_count answered_log ≡ 2
two_replied = refl

-- server 7 takes over one command of server 0, which then executes a second command
abbrev snapshot_log : Log
snapshot_log = Execute 0 second ∷ Restore 8 7 0 ∷ Restore 7 0 1 ∷ Execute 0 first ∷ []

taken_over : history snapshot_log 7 ≡ first ∷ []
taken_over = refl

nothing_taken_over : servers_of snapshot_log ≡ 0 ∷ 7 ∷ []
nothing_taken_over = refl

only_the_first : history (Restore 7 0 1 ∷ Execute 0 second ∷ Execute 0 first ∷ []) 7 ≡ first ∷ []
only_the_first = refl

-- ---- OneCommand

submitted_again : AreOneCommand (Submit set_a ∷ Submit set_a ∷ [])
submitted_again c d h l same = only c h ∙ sym (only d l)
  where
    only : (e : Command) → Contains (Submit set_a ∷ Submit set_a ∷ []) (Submit e) → e ≡ set_a
    only e h =
        elim (contains_cons (Submit set_a) (Submit set_a ∷ []) (Submit e) h) [
          | inl is ↦ cc
          | inr there ↦
              elim (contains_cons (Submit set_a) [] (Submit e) there) [
                | inl is ↦ cc
                | inr more ↦ absurd (contains_none (Submit e) more)
              ]
        ]

two_commands : AreOneCommand (Submit (record { id = first; op = Set a y }) ∷ Submit set_a ∷ []) → ⊥
two_commands h =
    let same = h (record { id = first; op = Set a y }) set_a (0, omega arith, refl) (1, omega arith, refl) refl in
    let ops : Set a y ≡ Set a x = ap (λ (c : Command). c.op) same in
    let texts : y ≡ x = cc in
    let bytes = ap (λ text. get_or text 0 0) texts in
    omega (arith, bytes)

-- ---- Submitted

all_submitted : WereSubmitted (Reply first Failed ∷ Execute 0 first ∷ Submit set_a ∷ [])
all_submitted = (refl, (refl, tt))

never_submitted : WereSubmitted (Execute 0 second ∷ Submit set_a ∷ []) → ⊥
never_submitted h = let e = h.0 in absurd (cc)

answered_early : WereSubmitted (Submit set_a ∷ Reply first Failed ∷ []) → ⊥
answered_early h = let e = h.0 in absurd (cc)

-- ---- Once

one_place : (id : CommandId) (n m : ℕ) → slice_get (first ∷ []) n ≡ Some id → slice_get (first ∷ []) m ≡ Some id → n ≡ m
one_place id zero zero e f = refl
one_place id zero (suc m) e f = absurd (cc)
one_place id (suc n) m e f = absurd (cc)

executed_once : StandOnce (Restore 7 0 1 ∷ Execute 0 first ∷ [])
executed_once p n m id e f = by_tests (7 == p) (0 == p) e f
  where
    by_tests : (d b : Bool) → slice_get (cond d (first ∷ []) (cond b (first ∷ []) [])) n ≡ Some id
        → slice_get (cond d (first ∷ []) (cond b (first ∷ []) [])) m ≡ Some id → n ≡ m
    by_tests true b g h = one_place id n m g h
    by_tests false true g h = one_place id n m g h
    by_tests false false g h = absurd (cc)

executed_after_snapshot : StandOnce (Execute 7 first ∷ Restore 7 0 1 ∷ Execute 0 first ∷ []) → ⊥
executed_after_snapshot h = let e : 0 ≡ 1 = h 7 0 1 first refl refl in absurd (omega (arith, e))

-- ---- SameOrder

goes_on : AreComparable (Execute 7 second ∷ Restore 7 0 1 ∷ Execute 0 second ∷ Execute 0 first ∷ [])
goes_on p q = by_tests (7 == p) (0 == p) (7 == q) (0 == q)
  where
    executed : Bool → List CommandId
    executed b = cond b (cond b (first ∷ []) [] ++ second ∷ []) (cond b (first ∷ []) [])

    restored : Bool → Bool → List CommandId
    restored d b = cond d (cond d (first ∷ []) (executed b) ++ second ∷ []) (cond d (first ∷ []) (executed b))

    both : Bool → List CommandId
    both b = cond b (first ∷ second ∷ []) []

    is : (d b : Bool) → restored d b ≡ both (d || b)
    is true b = refl
    is false true = refl
    is false false = refl

    either : (d b : Bool) → IsComparable (both d) (both b)
    either true true = inl ([], refl)
    either true false = inr (first ∷ second ∷ [], refl)
    either false b = inl (both b, refl)

    by_tests : (d b e f : Bool) → IsComparable (restored d b) (restored e f)
    by_tests d b e f = rw (is d b, is e f) (either (d || b) (e || f))

not_comparable : AreComparable crossed_log → ⊥
not_comparable h =
    ⊎_elim (λ (r : IsPrefix (first ∷ second ∷ []) (second ∷ [])).
    (let e : first ≡ second = cc (r.1) in
    let n = ap (λ (id : CommandId). id.client) e in
    omega (arith, n)))
    (λ (r : IsPrefix (second ∷ []) (first ∷ second ∷ [])).
    (let e : second ≡ first = cc (r.1) in
    let n = ap (λ (id : CommandId). id.client) e in
    omega (arith, n)))
    (h 0 1)

-- ---- RealTime

-- server 1 leaves out a command that had this reply before the second command was submitted
abbrev left_out : Answer → Log
left_out answer = Execute 1 second ∷ Submit cas_a ∷ Reply first answer ∷ Submit set_a ∷ []

failed_left_out : StandBehindReplies (left_out Failed)
failed_left_out p front back id replied e inside =
    by_test (is_some (command_of (Reply first Failed ∷ Submit set_a ∷ []) id)) inside
  where
    by_test : (d : Bool) → IsTrue (has_id (cond d [] []) replied) → IsTrue (has_id front replied)
    by_test true g = absurd (cc)
    by_test false g = absurd (cc)

done_left_out : StandBehindReplies (left_out Done) → ⊥
done_left_out h = let e = h 1 [] [] second first refl refl in absurd (cc)

-- ---- OneReply

same_reply : AreOneReply (Reply first Done ∷ Reply first Done ∷ [])
same_reply id v w h l = only v h ∙ sym (only w l)
  where
    only : (z : Answer) → Contains (Reply first Done ∷ Reply first Done ∷ []) (Reply id z) → z ≡ Done
    only z h =
        elim (contains_cons (Reply first Done) (Reply first Done ∷ []) (Reply id z) h) [
          | inl is ↦ cc
          | inr there ↦
              elim (contains_cons (Reply first Done) [] (Reply id z) there) [
                | inl is ↦ cc
                | inr more ↦ absurd (contains_none (Reply id z) more)
              ]
        ]

-- `ok` and `none` differ, even for a command for which both are right
two_replies : AreOneReply (Reply first (Held None) ∷ Reply first Done ∷ []) → ⊥
two_replies h =
    let e = h first (Held None) Done (0, omega arith, refl) (1, omega arith, refl) in
    absurd (cc)

-- ---- RightReply

right_for_get : IsRight (Get a) (Some x) (Held (Some x)) × IsRight (Get a) None Done × IsRight (Get a) (Some x) Failed
right_for_get = (refl, refl, refl)

right_for_del : IsRight (Del a) (Some x) (Held (Some x)) × IsRight (Del a) None Done
right_for_del = (refl, refl)

wrong_for_del : IsRight (Del a) None Failed → ⊥
wrong_for_del h = absurd (cc)

right_for_cas : IsRight (Cas a x y) (Some x) Done × IsRight (Cas a x y) (Some y) Failed × IsRight (Cas a x y) None Failed
right_for_cas = (refl, refl, refl)

wrong_for_cas : IsRight (Cas a x y) (Some y) Done ⊎ IsRight (Cas a x y) None Done ⊎ IsRight (Cas a x y) (Some x) Failed
    → ⊥
wrong_for_cas (inl h) = absurd (cc)
wrong_for_cas (inr (inl h)) = absurd (cc)
wrong_for_cas (inr (inr h)) = absurd (cc)

-- the log of a command that has this reply
abbrev set_log : Answer → Log
set_log answer = Reply first answer ∷ Execute 0 first ∷ Submit set_a ∷ []

set_is_done : AreRightReplies (set_log Done)
set_is_done p front back id c answer e is there =
    elim (contains_cons (Reply first Done) (Execute 0 first ∷ Submit set_a ∷ []) (Reply id answer) there) [
      | inl here ↦
          let ids : first ≡ id = cc in
          let answers : Done ≡ answer = cc in
          let given : Some set_a ≡ Some c = ap (command_of (set_log Done)) ids ∙ is in
          let commands : set_a ≡ c = cc in
          let held = out (commands_of (set_log Done) front) c in
          subst (λ (d : Command). IsRight d.op held answer) commands (subst (IsRight set_a.op held) answers refl)
      | inr more ↦
          elim (contains_cons (Execute 0 first) (Submit set_a ∷ []) (Reply id answer) more) [
            | inl here ↦ absurd (cc)
            | inr last ↦
                elim (contains_cons (Submit set_a) [] (Reply id answer) last) [
                  | inl here ↦ absurd (cc)
                  | inr none ↦ absurd (contains_none (Reply id answer) none)
                ]
          ]
    ]

set_is_not_failed : AreRightReplies (set_log Failed) → ⊥
set_is_not_failed h =
    let e = h 0 [] [] first set_a Failed refl refl (0, omega arith, refl) in
    absurd (cc)

-- the log of two commands. The second command finds the text that it expects, and has this reply
abbrev cas_log : Answer → Log
cas_log answer = Reply second answer ∷ Execute 0 second ∷ Execute 0 first ∷ Submit cas_a ∷ Submit set_a ∷ []

cas_is_not_failed : AreRightReplies (cas_log Failed) → ⊥
cas_is_not_failed h =
    let e = h 0 (first ∷ []) [] second cas_a Failed refl refl (0, omega arith, refl) in
    let bound : IsTrue (not (has_text (Some x) x)) = subst (λ held. IsTrue (not (has_text held x))) text_x e in
    absurd (cc)

cas_found_something : AreRightReplies (cas_log (Held None)) → ⊥
cas_found_something h =
    let e = h 0 (first ∷ []) [] second cas_a (Held None) refl refl (0, omega arith, refl) in
    let found : None ≡ Some x = e ∙ text_x in
    absurd (cc)

-- ---- RightLookup

nothing_found : AreRightLookups (Lookup 1 a None ∷ [])
nothing_found r = (0, by_test (1 == r))
  where
    by_test : (d : Bool)
        → MatchBool d
        ((m : ℕ) × MaySee [] r m × (m ≤ 0) × (p : ℕ) × (0 ≤ length (history [] p))
        × (None ≡ value_at a (commands_of [] (take 0 (history [] p)))))
        (MaySee [] r 0)
    by_test true = (0, refl, omega arith, 0, omega arith, sym nothing)
    by_test false = refl

something_found : AreRightLookups (Lookup 1 a (Some x) ∷ []) → ⊥
something_found h =
    let seen = (h 1).1 in
    let none : (h 1).0 ≡ 0 = omega (arith, seen.4) in
    let found : Some x ≡ value_at a (commands_of [] (take 0 [])) =
    subst (λ (n : ℕ). Some x ≡ value_at a (commands_of [] (take n []))) none seen.5 in
    let e : Some x ≡ None = found ∙ nothing in
    absurd (cc)

-- ---- Settled

-- server 0 executes a command that has this reply, and then a server is said to be settled
abbrev settled_log : Answer → ℕ → Log
settled_log answer server = Settle server ∷ Reply first answer ∷ Execute 0 first ∷ []

has_all : WereSettled (settled_log Done 0)
has_all = ((λ id inside. inside), tt)

failed_need_not_be_there : WereSettled (settled_log Failed 1)
failed_need_not_be_there = ((λ id inside. absurd (cc)), tt)

lacks_one : WereSettled (settled_log Done 1) → ⊥
lacks_one h = let e = h.0 first refl in absurd (cc)

-- ---- Restore

may_take_over : WereRestored (Restore 7 0 1 ∷ Restore 7 0 0 ∷ Execute 0 second ∷ Execute 0 first ∷ [])
may_take_over = (refl, omega arith, (refl, omega arith, tt))

too_few : WereRestored (Restore 7 0 2 ∷ Execute 0 first ∷ []) → ⊥
too_few h = let e = h.1 in absurd (omega (arith, e))

taken_over_twice : WereRestored (Restore 7 0 1 ∷ Restore 7 0 1 ∷ Execute 0 first ∷ []) → ⊥
taken_over_twice h = let e = h.0 in absurd (cc)

-- ---- whether something was judged

was_judged : WasJudged (settled_log Done 0)
was_judged = record { server = 0; some = λ e. absurd (cc); every = λ id inside. (0, inside) }

was_judged_without_reply : WasJudged (Execute 0 second ∷ Reply first Failed ∷ [])
was_judged_without_reply = record { server = 0; some = λ e. absurd (cc); every = λ id inside. absurd (cc) }

open_reply : WasJudged (Reply first Done ∷ Execute 0 second ∷ []) → ⊥
open_reply h = let there = h.every first refl in by_test (0 == there.0) there.1
  where
    by_test : (d : Bool) → IsTrue (has_id (cond d (second ∷ []) []) first) → ⊥
    by_test true e = absurd (cc)
    by_test false e = absurd (cc)

no_server : WasJudged (Reply first Failed ∷ Restore 7 0 0 ∷ []) → ⊥
no_server h = h.some (by_test (7 == h.server))
  where
    by_test : (d : Bool) → cond {A = List CommandId} d [] [] ≡ []
    by_test true = refl
    by_test false = refl
