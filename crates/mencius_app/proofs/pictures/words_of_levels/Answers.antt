use Rattle.mencius_app.proofs.Words.{rules, ◌≡◌, Ok, append_assoc}
use Rattle.mencius_app.proofs.pictures.words_of_levels.Goals as goal

-- the formatted text is the text of the clause, but its parts are grouped differently
pub returns : goal.returns
returns c =
    let made : c.format.result ≡ Ok c.in_ok-words.words = search rules in
    simp append_assoc (rw made at c.format.ensures.ok)
