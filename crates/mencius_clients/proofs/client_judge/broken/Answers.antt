use Rattle.mencius_clients.proofs.Verdicts.{broken_right}
use Rattle.mencius_clients.proofs.client_judge.broken.Goals as goal

pub returns : goal.returns
returns c bytes most is =
    broken_right c.args.log.now c.args.line c.args.violation c.number_at-number.result c.requires.numbered
    c.requires.broken c.number_at-number.ensures bytes is
