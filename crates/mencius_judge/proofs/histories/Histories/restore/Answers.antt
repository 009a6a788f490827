use Rattle.std.proofs.Common.{Some, refl}
use Rattle.mencius_judge.proofs.keys.TextMaps.{on_both}
use Rattle.mencius_judge.proofs.histories.Histories.restore.Goals as goal

pub returns-clause-some : goal.returns-clause-some
returns-clause-some c =
    on_both c.add_row.result (λ rows places _. record {
      row = record {
        count = c.args.count;
        snapshot = Some (record { line = c.args.line; source = c.args.source; count = c.args.count });
        lines = c.new.result;
      };
      is = record { count_is = refl; snapshot_is = refl; lines_are = c.new.ensures.items };
      rows_are = rows;
      place = places;
    }) c.add_row.ensures.rows c.add_row.ensures.places
