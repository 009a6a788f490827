use Rattle.std.proofs.Common.{◌≡◌, Some, ap, map, option_map, slice_get, sym, ◌∙◌}
use Rattle.std.proofs.lemmas.Option.{slice_get-map}
use Rattle.std.proofs.lemmas.Result.{on_err_weaker}
use Rattle.indexmap.specs.IndexMap.{set_value_at}
use Rattle.mencius_cluster.specs.Submissions.{Row, SubmissionTable, row_of}
use Rattle.mencius_cluster.proofs.events.Executions.{set_value-same}
use Rattle.mencius_cluster.proofs.tables.MapRows.{both_ok, rows_after}
use Rattle.mencius_cluster.proofs.submissions.Submissions.execute.Goals as goal

abbrev row_at : (c : goal.After-self-1) → Row
row_at c = row_of (c.pair_mut-submission.result.0.now, c.pair_mut-submission.result.1.now)

there : (c : goal.After-self-1)
    → slice_get (map row_of c.self.inside.rows.entries) c.args.ticket ≡ Some (row_at c)
there c =
    slice_get-map row_of c.self.inside.rows.entries c.args.ticket
    ∙ ap (option_map row_of) c.pair_mut-submission.ensures.value

pub returns-clause-done : goal.returns-clause-done
returns-clause-done c =
    both_ok c.execute.result
    (λ executed answer. record {
      row = row_at c;
      there = ap (λ (table : SubmissionTable). slice_get table.entries c.args.ticket) (sym c.self.view_is) ∙ there c;
      executor = executed;
      submission = c.execute.new.self;
      rows =
          rows_after c.self.inside.rows.entries c.args.ticket c.execute.new.self
          ∙ ap (λ (table : SubmissionTable). set_value_at table.entries c.args.ticket c.execute.new.self)
          c.self.view_is;
      command = c.execute.ensures.command;
      home = c.execute.ensures.home;
      reply = answer;
    })
    c.execute.ensures.executed c.execute.ensures.answer

pub returns-clause-rows : goal.returns-clause-rows
returns-clause-rows c =
    let rows = c.self.inside.rows in
    on_err_weaker c.execute.result
    (λ same. rows_after rows.entries c.args.ticket c.execute.new.self
    ∙ ap (set_value_at (map row_of rows.entries) c.args.ticket) same
    ∙ set_value-same (map row_of rows.entries) c.args.ticket (row_at c) (there c)
    ∙ ap (λ (table : SubmissionTable). table.entries) c.self.view_is)
    c.execute.ensures.submission
