-- If a log keeps all promises and was judged, its longest history is a linearization.
use Rattle.std.proofs.Common.{◌≤◌, arith, length}
use Rattle.mencius_judge.specs.Linearization.{LongestHistoryLinearizes}
use Rattle.mencius_judge.specs.Log.{has_id, history}
use Rattle.mencius_judge.proofs.acknowledged.OpenReplies.{as_true, in_longest, is_true}
use Rattle.mencius_judge.proofs.promises.Identities.{has_place}
use Rattle.mencius_judge.proofs.promises.Kept.{all_known}

pub longest_linearizes : LongestHistoryLinearizes
longest_linearizes w c h counted was p whole = record {
  once = h.once p;
  submitted = λ id inside.
      let at = has_place (history w p) id (is_true (has_id (history w p) id) inside) in
      all_known w p h.submitted at.0 id at.2;
  complete = λ id inside.
      let at = was.every id inside in
      let most : length (history w at.0) ≤ length (history w p) =
      omega (arith, whole, counted.executed, counted.within at.0) in
      as_true (has_id (history w p) id)
      (in_longest w at.0 p id h.same_order most (is_true (has_id (history w at.0) id) at.1));
  real_time = h.real_time p;
  answers = h.right_reply p;
}
