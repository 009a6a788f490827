-- If a judge's tables contradict an observation, the observation breaks a promise.
use Rattle.std.proofs.Common.{◌≡◌, ◌≢◌, ℕ, zero, suc, ◌<◌, ◌≤◌, Bool, true, false, List, [], ◌∷◌, ◌++◌, Option, Some, None, is_some, slice_get, take, arith, refl, sym, subst, ap, ◌∙◌}
use Rattle.std.specs.Prelude.{IsTrue}
use Rattle.std.specs.List.{Contains}
use Rattle.std.specs.Ordering.{nat_cmp}
use Rattle.std.specs.BTreeMap.{get}
use Rattle.std.proofs.lemmas.List.{length-take}
use Rattle.mencius_base.specs.declared.command.Command.{Command}
use Rattle.mencius_base.specs.declared.command.CommandId.{CommandId}
use Rattle.mencius_judge.specs.declared.histories.Row.{Row}
use Rattle.mencius_judge.specs.declared.judge.Execution.{Execution}
use Rattle.mencius_log.specs.declared.observation.Answer.{Answer}
use Rattle.mencius_log.specs.declared.observation.Observation.TheVariants.{Submit, Execute, Reply}
use Rattle.mencius_judge.specs.declared.places.Places.{Places}
use Rattle.mencius_judge.specs.Answers.{IsRight}
use Rattle.mencius_judge.specs.Log.{Log, acknowledged, acknowledged_before, command_of, has_id, history, reply_of}
use Rattle.mencius_judge.specs.Promises.{AreOneCommand, AreOneReply, AreRightReplies, StandBehindReplies}
use Rattle.mencius_judge.specs.Tables.{AreExecutions, AreHistories, AreSettled, Executions, identity_key, number_count}
use Rattle.mencius_judge.specs.Violations.{IsAnswerAt}
use Rattle.mencius_judge.proofs.promises.Identities.{has_place, place_has}
use Rattle.mencius_judge.proofs.observations.HistorySteps.{whole_get}
use Rattle.mencius_judge.proofs.promises.Logs.{command_found, contains_here, contains_later, reply_found}
use Rattle.mencius_judge.proofs.observations.OrderSteps.{split_at}

pub two_commands : (w : Log) (c d : Command) → command_of w c.id ≡ Some d → d.op ≢ c.op → AreOneCommand (Submit c ∷ w) → ⊥
two_commands w c d found ne h =
    let there = command_found w c.id d found in
    let same : d ≡ c =
    h d c (contains_later (Submit c) w (Submit d) there.0) (contains_here (Submit c) w (Submit c) refl) there.1 in
    ne (ap (λ (x : Command). x.op) same)

pub two_replies : (w : Log) (id : CommandId) (x y : Answer) → reply_of w id ≡ Some x → x ≢ y
    → AreOneReply (Reply id y ∷ w) → ⊥
two_replies w id x y found ne h =
    ne (h id x y (contains_later (Reply id y) w (Reply id x) (reply_found w id x found))
    (contains_here (Reply id y) w (Reply id y) refl))

pub too_early : (w : Log) (p : ℕ) (id x : CommandId) (order : List CommandId)
    → history (Execute p id ∷ w) p ≡ order ++ id ∷ [] → has_id (acknowledged_before w id) x ≡ true
    → has_id order x ≡ false
    → StandBehindReplies (Execute p id ∷ w) → ⊥
too_early w p id x order grown before absent h =
    clash (has_id order x) absent (h p order [] id x grown (as_true (has_id (acknowledged_before w id) x) before))
  where
    as_true : (d : Bool) → d ≡ true → IsTrue d
    as_true true e = refl
    as_true false e = absurd (cc)

    clash : (d : Bool) → d ≡ false → IsTrue d → ⊥
    clash true e t = cc
    clash false e t = cc

-- the table of executions has the place of a command and the text that its key holds there
pub answer_at : (w : Log) (id : CommandId) (c : Command) (order : List CommandId) (places : Places) (rows : List Row)
    (executions : Executions) (x : Execution) → AreHistories w order places rows → AreExecutions w order executions
    → id.number < number_count → command_of w id ≡ Some c → get nat_cmp executions (identity_key id) ≡ Some x
    → IsAnswerAt w id c x.place x.held
answer_at w id c order places rows executions x histories h small command found =
    let inside : has_id order id ≡ true = sym (h.all id small) ∙ ap is_some found in
    let parts = split_at order id inside in
    let r = h.right id x parts.0 parts.1 c small found parts.2 command in
    record {
      server = histories.some.0;
      front = parts.0;
      back = parts.1;
      splits = sym histories.some.1 ∙ parts.2;
      place_is = r.1;
      there = command;
      is = r.0;
    }

pub answer_after : (w : Log) (y : CommandId) (answer : Answer) (id : CommandId) (c : Command) (n : ℕ) (x : Option (List ℕ))
    → IsAnswerAt w id c n x → IsAnswerAt (Reply y answer ∷ w) id c n x
answer_after w y answer id c n x at = record {
  server = at.server;
  front = at.front;
  back = at.back;
  splits = at.splits;
  place_is = at.place_is;
  there = at.there;
  is = at.is;
}

-- a reply that is not right breaks the promise RightReply
pub wrong_reply : (w : Log) (id : CommandId) (c : Command) (place : ℕ) (expected : Option (List ℕ)) (found : Answer)
    → IsAnswerAt w id c place expected → Contains w (Reply id found) → (IsRight c.op expected found → ⊥)
    → AreRightReplies w → ⊥
wrong_reply w id c place expected found at there wrong right =
    wrong (subst (λ held. IsRight c.op held found) (sym at.is)
    (right at.server at.front at.back id c found at.splits at.there there))

-- ---- the acknowledged commands that are in the longest history

module _ (w : Log) (order : List CommandId) (executions : Executions)
    (small : (n : ℕ) (id : CommandId) → slice_get (acknowledged w) n ≡ Some id → id.number < number_count)
    (h : AreExecutions w order executions) where
  pub settled_stand : (ids : List CommandId) (settled highest behind : ℕ) (y : CommandId) → ids ≡ acknowledged w
      → AreSettled ids executions settled highest → behind ≤ settled → has_id (take behind (acknowledged w)) y ≡ true
      → has_id order y ≡ true
  settled_stand ids settled highest behind y listed facts le inside =
      let place = has_place (take behind (acknowledged w)) y inside in
      let there = whole_get behind (acknowledged w) place.0 y place.2 in
      let less : place.0 < settled = omega (arith, place.1, length-take behind (acknowledged w), le) in
      let known = facts.each place.0 y less (ap (λ ys. slice_get ys place.0) listed ∙ there) in
      sym (h.all y (small place.0 y there)) ∙ ap is_some known.1

  -- the first acknowledged command that was not executed is not in the longest history
  pub unsettled_before : (settled behind : ℕ) (y : CommandId) → settled < behind → slice_get (acknowledged w) settled ≡ Some y
      → get nat_cmp executions (identity_key y) ≡ None
      → (has_id (take behind (acknowledged w)) y ≡ true) × (has_id order y ≡ false)
  unsettled_before settled behind y less there none = (
    place_has (take behind (acknowledged w)) y settled (taken (acknowledged w) behind settled y less there),
    sym (h.all y (small settled y there)) ∙ ap is_some none,
  )
    where
      taken : (xs : List CommandId) (k n : ℕ) (x : CommandId) → n < k → slice_get xs n ≡ Some x
          → slice_get (take k xs) n ≡ Some x
      taken xs zero n x h e = absurd (omega arith)
      taken [] (suc k) n x h e = e
      taken (z ∷ xs) (suc k) zero x h e = e
      taken (z ∷ xs) (suc k) (suc n) x h e = taken xs k n x (omega arith) e
