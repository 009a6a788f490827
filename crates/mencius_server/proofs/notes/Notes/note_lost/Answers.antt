use Rattle.std.proofs.Common.{rules}
use Rattle.mencius_server.proofs.notes.Notes.note_lost.Goals as goal

pub returns : goal.returns
returns c = search rules
