use Rattle.std.proofs.Common.{sym}
use Rattle.mencius_format.proofs.VersionWords.{no_submission}
use Rattle.mencius_format.proofs.text_version.event_version.Goals as goal

pub returns-in-None : goal.returns-in-None
returns-in-None c = sym (no_submission c.args.text.now c.in-None.ensures)
