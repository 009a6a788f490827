-- The table of submitted commands, by ticket and by identity.
use Rattle.std.specs.Prelude.{ℕ, List}
use Rattle.std.specs.declared.hash.DefaultHasher.{DefaultHasher}
use Rattle.mencius_base.specs.declared.command.CommandId.{CommandId}
use Rattle.mencius_cluster.specs.declared.salt.Identity.{Identity}
use Rattle.mencius_cluster.specs.declared.submission.Submission.{Submission}

-- an identity, with its stored command
abbrev pub Row : Type 0
Row = CommandId × Submission

-- the row of an entry in the map
abbrev pub row_of : Identity × Submission → Row
row_of entry = (entry.0.id, entry.1)

-- the rows by ticket, the number of further rows that fit without an allocation, and the hasher that each search for an
-- identity begins with
pub record SubmissionTable : Type 0 where
  pub entries : List Row
  pub room : ℕ
  pub hasher : DefaultHasher
