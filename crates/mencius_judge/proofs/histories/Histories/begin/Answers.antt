use Rattle.std.proofs.Common.{None, refl, ap, ◌++◌, ◌∷◌, [], ◌∙◌}
use Rattle.mencius_judge.proofs.keys.TextMaps.{on_both}
use Rattle.mencius_judge.proofs.histories.Histories.begin.Goals as goal

pub returns-clause-rows : goal.returns-clause-rows
returns-clause-rows c =
    on_both c.add_row.result (λ rows places. record {
      row = record { count = 1; snapshot = None; lines = c.push.new.self };
      is = record {
        count_is = refl;
        snapshot_is = refl;
        lines_are = c.in_ok-push.ensures.items ∙ ap (λ xs. xs ++ c.args.line ∷ []) c.new-lines.ensures.items;
      };
      rows_are = rows;
      place = places;
    }) c.add_row.ensures.rows c.add_row.ensures.places
