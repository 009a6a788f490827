use Rattle.std.proofs.Common.{◌≡◌, [], ◌∷◌, ◌++◌, None, ap, map, ◌∙◌}
use Rattle.std.proofs.lemmas.List.{map-append}
use Rattle.std.specs.Map.{lookup}
use Rattle.indexmap.proofs.CallerLemmas.{insert_entry-new}
use Rattle.mencius_base.specs.Command.{is_same_id}
use Rattle.mencius_base.specs.declared.command.CommandId.{CommandId}
use Rattle.mencius_cluster.specs.declared.salt.Identity.{Identity}
use Rattle.mencius_cluster.specs.Submissions.{SubmissionTable, row_of}
use Rattle.mencius_cluster.proofs.tables.MapRows.{row_by_identity}
use Rattle.mencius_cluster.proofs.events.SubmittedRows.{new_row}
use Rattle.mencius_cluster.proofs.submissions.Submissions.enroll.Goals as goal

pub returns-clause-entries : goal.returns-clause-entries
returns-clause-entries c =
    let rows = c.self.inside.rows in
    let identity : Identity = record { id = c.id.result } in
    let row = new_row c.args.command c.args.home in
    let absent : lookup (λ (x : Identity). is_same_id c.id.result x.id) rows.entries ≡ None =
    row_by_identity c.id.result rows.entries
    ∙ ap (λ (x : CommandId). lookup (is_same_id x) (map row_of rows.entries)) c.id.ensures
    ∙ ap (λ (table : SubmissionTable). lookup (is_same_id c.args.command.id) table.entries) c.self.view_is
    ∙ c.requires.new in
    ap (map row_of)
    (c.in-Ok.ensures.entries
    ∙ insert_entry-new (λ (a x : Identity). is_same_id a.id x.id) rows identity row.1 absent)
    ∙ map-append row_of rows.entries ((identity, row.1) ∷ [])
    ∙ ap (λ (x : CommandId). map row_of rows.entries ++ (x, row.1) ∷ []) c.id.ensures
    ∙ ap (λ (table : SubmissionTable). table.entries ++ row ∷ []) c.self.view_is
