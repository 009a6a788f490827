use Rattle.mencius_clients.proofs.client_lines.push_without_text.Goals as goal

pub returns : goal.returns
returns c = c.write.ensures.bytes
