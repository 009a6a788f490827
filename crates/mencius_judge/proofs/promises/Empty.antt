-- A new judge has seen the empty log.
use Rattle.std.proofs.Common.{◌≡◌, inl, ℕ, List, [], ◌∷◌, ◌++◌, Some, None, is_some, map, option_map, slice_get, take, arith, refl, sym, ap, ◌∙◌}
use Rattle.std.proofs.Math.Seq.{take-nil}
use Rattle.std.specs.Prelude.{unwrap_or}
use Rattle.std.specs.Ordering.{nat_cmp}
use Rattle.std.specs.BTreeMap.{BTreeMap, IsEmpty, get}
use Rattle.std.specs.Map.{lookup}
use Rattle.std.specs.BTreeMap.{is_at}
use Rattle.mencius_base.specs.declared.command.CommandId.{CommandId}
use Rattle.mencius_judge.specs.Rows.{count_in, count_of, row_at, row_count, server_place}
use Rattle.mencius_judge.specs.declared.histories.Row.{Row}
use Rattle.mencius_judge.specs.declared.judge.FirstReply.{FirstReply}
use Rattle.mencius_judge.specs.declared.judge.Submission.{Submission}
use Rattle.mencius_judge.specs.Promises.{AreOneCommand, AreOneReply}
use Rattle.mencius_log.specs.declared.observation.Observation.TheVariants.{Reply, Submit}
use Rattle.mencius_judge.specs.declared.places.Places.{Places}
use Rattle.mencius_judge.specs.Log.{has_id}
use Rattle.mencius_judge.specs.Tables.{AreExecutions, AreFloors, floor_of, AreHistories, AreReplies, AreSettled, AreSubmissions, Executions, IsOrder, Replies, identity_key}
use Rattle.mencius_judge.proofs.promises.Logs.{contains_none}

pub no_entry : {X : Type 0} (m : BTreeMap ℕ X) (key : ℕ) → IsEmpty m → get nat_cmp m key ≡ None
no_entry m key e = ap (λ es. lookup (is_at (nat_cmp key)) es) e

pub no_commands : AreOneCommand []
no_commands c d first second ids = absurd (contains_none (Submit c) first)

pub no_replies : AreOneReply []
no_replies id x y first second = absurd (contains_none (Reply id x) first)

pub no_submissions : (rows : BTreeMap ℕ Submission) → IsEmpty rows → AreSubmissions [] rows
no_submissions rows e = record {
  found = λ id small. ap (option_map (λ (s : Submission). s.command)) (no_entry rows (identity_key id) e);
  before = λ id s small there.
      let none : get nat_cmp rows (identity_key id) ≡ None = no_entry rows (identity_key id) e in absurd (cc);
}

pub no_histories : (order : List CommandId) (places : Places) (rows : List Row) → order ≡ []
    → ((p : ℕ) → server_place places p ≡ None) → rows ≡ [] → AreHistories [] order places rows
no_histories order places rows e none f = record {
  each = λ p. sym (ap (take (count_of places rows p)) e ∙ take-nil (count_of places rows p));
  within = λ p. let zero_is : count_of places rows p ≡ 0 = ap (λ o. count_in (row_at rows o)) (none p) in omega (arith, zero_is);
  some = (0, e);
  lengths = ap (map row_count) f;
  there = λ p n is. let nothing = none p in absurd (cc);
  known = λ p ne. absurd (ne refl);
}

pub no_order : (order : List CommandId) → order ≡ [] → IsOrder [] order
no_order order e = record {
  known = λ n id there. absurd (none n id there);
  once = λ n m id there here. absurd (none n id there);
  behind = λ front back id x splits inside. absurd (whole front back id splits);
  right = λ front back id c x splits is there. absurd (whole front back id splits);
}
  where
    none : (n : ℕ) (id : CommandId) → slice_get order n ≡ Some id → ⊥
    none n id there = let empty : slice_get order n ≡ None = ap (λ xs. slice_get xs n) e in cc

    whole : (front back : List CommandId) (id : CommandId) → order ≡ front ++ id ∷ back → ⊥
    whole [] back id splits = cc
    whole (x ∷ front) back id splits = cc

pub no_table : (replies : Replies) (ids : List CommandId) → IsEmpty replies → ids ≡ [] → AreReplies [] replies ids
no_table replies ids e f = record {
  first = λ id small. ap (option_map (λ (r : FirstReply). r.answer)) (no_entry replies (identity_key id) e);
  order = f;
  small = λ n id there. absurd (cc);
}

pub no_executions : (order : List CommandId) (executions : Executions) → order ≡ [] → IsEmpty executions
    → AreExecutions [] order executions
no_executions order executions e f = record {
  all = λ id small. ap is_some (no_entry executions (identity_key id) f) ∙ ap (λ ids. has_id ids id) (sym e);
  right = λ id x front back c small there splits is.
      let none : get nat_cmp executions (identity_key id) ≡ None = no_entry executions (identity_key id) f in absurd (cc);
}

pub none_settled : (ids : List CommandId) (executions : Executions) → AreSettled ids executions 0 0
none_settled ids executions =
    record { within = omega arith; each = λ n id less there. absurd (omega arith); some = inl (refl, refl) }

pub no_floors : (floors : BTreeMap ℕ ℕ) → IsEmpty floors → AreFloors [] floors
no_floors floors e = record {
  seen = λ r. ap (λ o. unwrap_or o 0) (no_entry floors r e);
  least = λ r n h. let none : floor_of floors r ≡ 0 = ap (λ o. unwrap_or o 0) (no_entry floors r e) in omega arith;
}
