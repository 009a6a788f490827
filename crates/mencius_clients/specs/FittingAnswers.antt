-- Answers that would fit in place of the one that leaves a log without a linearization.
use Rattle.std.specs.Prelude.{◌≡◌, ℕ, List, [], ◌∷◌, if◌then◌else◌, reverse}
use Rattle.std.specs.List.{All}
use Rattle.mencius_base.specs.declared.command.CommandId.{CommandId}
use Rattle.mencius_log.specs.declared.observation.Answer.{Answer}
use Rattle.mencius_log.specs.declared.observation.Observation.{Observation}
use Rattle.mencius_log.specs.declared.observation.Observation.TheVariants.{Reply}
use Rattle.mencius_judge.specs.Log.{Log}
use Rattle.mencius_clients.specs.Explained.{IsLinearizable}
use Rattle.mencius_clients.specs.KeyLines.{Tracks, is_about}
use Rattle.mencius_clients.specs.declared.key_lines.KeyLines.{KeyLines}

-- the observations of the log that are about the key
abbrev pub about_key : List ℕ → Log → Log
about_key key [] = []
about_key key (o ∷ w) = if is_about key w o then o ∷ about_key key w else about_key key w

-- the observation is a reply. If it had this answer, it would leave the log with a linearization
pub record Fits (w : Log) (o : Observation) (answer : Answer) : Type 0 where
  pub id : CommandId
  pub found : Answer
  pub is : o ≡ Reply id found
  pub has : IsLinearizable (Reply id answer ∷ w)

-- each of these answers would fit as the reply to the command after the log
abbrev pub AllFit : Log → CommandId → List Answer → Type 0
AllFit w id answers = All (λ answer. IsLinearizable (Reply id answer ∷ w)) answers

-- the table knows the commands of the key, and these are the observations of the log that are about it
pub record HasAbout (key : List ℕ) (w : Log) (table : KeyLines) (lines : List Observation) : Type 0 where
  pub tracks : Tracks key w table
  pub are : reverse lines ≡ about_key key w
