-- The counts that a judge returns are the counts of the log that it has seen.
use Rattle.std.proofs.Common.{◌≡◌, ◌+◌, ℕ, suc, Bool, true, false, cond, not, List, [], ◌∷◌, Some, count_by, is_some, length, map, slice_get, arith, refl, sym, ap, ◌∙◌}
use Rattle.std.proofs.lemmas.List.Sums.{sum_by-cons}
use Rattle.mencius_base.specs.declared.command.Command.{Command}
use Rattle.mencius_base.specs.declared.command.CommandId.{CommandId}
use Rattle.mencius_judge.specs.declared.counts.Counts.{Counts}
use Rattle.mencius_judge.specs.declared.judge.Judge.{Judge}
use Rattle.mencius_log.specs.declared.observation.Observation.TheVariants.{Submit}
use Rattle.mencius_judge.specs.Counts.{AreCounts, command_count, least_of}
use Rattle.mencius_judge.specs.Judged.{HasSeenLog}
use Rattle.mencius_judge.specs.Log.{Log, acknowledged, command_of, has_id, history, servers_of}
use Rattle.mencius_judge.specs.Rows.{row_count}
use Rattle.mencius_judge.specs.Tables.{has_no_place}
use Rattle.mencius_judge.proofs.observations.HistorySteps.{rows_are, size_is, size_of}
use Rattle.mencius_judge.proofs.observations.RowSteps.{rows_length}

-- ---- commands

pub count_again : (w : Log) (c : Command) (n : ℕ) → is_some (command_of w c.id) ≡ true → n ≡ command_count w
    → n ≡ command_count (Submit c ∷ w)
count_again w c n there is = rw there is

pub count_new : (w : Log) (c : Command) (n more : ℕ) → is_some (command_of w c.id) ≡ false → n ≡ command_count w
    → more ≡ n + 1 → more ≡ command_count (Submit c ∷ w)
count_new w c n more none is one = rw none (one ∙ ap (λ (m : ℕ). m + 1) is)

-- ---- items that pass a test

same_count : {A : Type 0} (f g : A → Bool) (xs : List A) → ((n : ℕ) (x : A) → slice_get xs n ≡ Some x → f x ≡ g x)
    → count_by f xs ≡ count_by g xs
same_count f g [] h = refl
same_count f g (x ∷ xs) h =
    sum_by-cons (λ y. cond (f y) 1 0) x xs
    ∙ ap (λ d. cond d 1 0 + count_by f xs) (h 0 x refl)
    ∙ ap (λ n. cond (g x) 1 0 + n) (same_count f g xs (λ n y e. h (suc n) y e))
    ∙ sym (sum_by-cons (λ y. cond (g y) 1 0) x xs)

-- ---- the counts of a judge

pub counted : (j : Judge) (w : Log) (c : Counts) → HasSeenLog j w
    → c.servers ≡ length j.histories.rows.items → c.commands ≡ j.commands
    → c.executed ≡ length j.histories.order.items → c.replies ≡ j.replied
    → c.open_replies ≡ count_by (has_no_place j.executions) j.acknowledged.items → c.lookups ≡ j.lookups
    → c.shortest ≡ least_of (map row_count j.histories.rows.items) → AreCounts w c
counted j w c h servers commands executed replies open_replies lookups shortest =
    let q = h.histories.some.0 in
    let order = j.histories.order.items in
    let places = j.histories.places in
    let rows = j.histories.rows.items in
    let longest : order ≡ history w q = h.histories.some.1 in
    record {
      servers = servers ∙ rows_length (size_of w) (servers_of w) places rows (rows_are w order places rows h.histories);
      commands = commands ∙ h.commands;
      longest = q;
      within = λ p. (let size = size_is w order places rows h.histories p in
          let most = h.histories.within p in
          let whole : length order ≡ length (history w q) = ap length longest in omega (arith, size, most, whole));
      executed = executed ∙ ap length longest;
      shortest = shortest ∙ ap least_of h.histories.lengths;
      replies = replies ∙ h.replied;
      open_replies = open_replies ∙ ap (count_by (has_no_place j.executions)) h.replies.order
          ∙ same_count (has_no_place j.executions) (λ id. not (has_id (history w q) id)) (acknowledged w) (λ n id there.
          ap not (h.executions.all id (h.replies.small n id there)
          ∙ ap (λ (ids : List CommandId). has_id ids id) longest));
      lookups = lookups ∙ h.lookups;
    }
