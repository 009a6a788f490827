-- The values that the servers decide at an instance. No server stores them, but each learned value is decided.
use Rattle.std.specs.Prelude.{◌≡◌, Some, IsTrue, ◌⊎◌}
use Rattle.std.specs.List.{list_any}
use Rattle.mencius_base.specs.Numbers.{Inst, BallotNo}
use Rattle.mencius_base.specs.declared.message.Value.{Value}
use Rattle.mencius_base.specs.declared.message.Value.TheVariants.{Noop}
use Rattle.mencius_base.specs.Members.{Membership}
use Rattle.mencius_model.specs.Trace.{Trace, sent_messages}
use Rattle.mencius_model.specs.Instance.{proposal, are_majority, has_accepted}
use Rattle.mencius_model.specs.Rules.{is_skipped_by}

-- A value is chosen at an instance if it was proposed there at some ballot, and a majority of the servers sent an
-- acceptance at that ballot.
abbrev pub IsChosen : Membership → Trace → Inst → Value → Type 0
IsChosen m w i x = (b : BallotNo) × (proposal w i b ≡ Some x) × IsTrue (are_majority m (has_accepted w i b))

-- An instance is skipped if its owner sent a Skip that covers it.
abbrev pub IsSkipped : Membership → Trace → Inst → Type 0
IsSkipped m w i = IsTrue (list_any (is_skipped_by m i) (sent_messages w))

-- A value is decided at an instance if it is chosen there. No-op is also decided at each instance that is skipped.
abbrev pub IsDecided : Membership → Trace → Inst → Value → Type 0
IsDecided m w i x = IsChosen m w i x ⊎ (IsSkipped m w i × (x ≡ Noop))
