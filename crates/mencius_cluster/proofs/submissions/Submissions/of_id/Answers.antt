use Rattle.std.proofs.Common.{ap, ◌∙◌}
use Rattle.std.specs.Map.{lookup}
use Rattle.mencius_base.specs.Command.{is_same_id}
use Rattle.mencius_cluster.specs.Submissions.{SubmissionTable}
use Rattle.mencius_cluster.proofs.tables.MapRows.{row_by_identity}
use Rattle.mencius_cluster.proofs.submissions.Submissions.of_id.Goals as goal

pub returns : goal.returns
returns c = record {
  value =
      c.get.ensures.value
      ∙ row_by_identity c.args.id c.self.inside.rows.entries
      ∙ ap (λ (table : SubmissionTable). lookup (is_same_id c.args.id) table.entries) c.self.view_is;
}
