-- The record of a command that contracts see.
use Rattle.mencius_base.specs.declared.command.CommandId.{CommandId}
use Rattle.mencius_base.specs.declared.command.Op.{Op}

-- the identity and the operation of a command
pub record CommandState : Type 0 where
  pub id : CommandId
  pub op : Op
