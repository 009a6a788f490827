use Rattle.std.proofs.Common.{refl, subst, sym, codes}
use Rattle.mencius_format.specs.Operations.{IsOperation}
use Rattle.mencius_format.proofs.OperationWords.{cas_length, is_operation_cas, is_operation_del, is_operation_get, is_operation_set, key_length, op_other, set_length}
use Rattle.mencius_format.proofs.operations.operands_of.Goals as goal

pub returns-in-set : goal.returns-in-set
returns-in-set c = (subst IsOperation (sym c.in-set.is) is_operation_set, rw c.in-set.is set_length)

pub returns-in-get : goal.returns-in-get
returns-in-get c = (
  subst IsOperation (sym c.in-get.is) is_operation_get,
  rw c.in-get.is (key_length (codes "get") refl refl),
)

pub returns-in-del : goal.returns-in-del
returns-in-del c = (
  subst IsOperation (sym c.in-del.is) is_operation_del,
  rw c.in-del.is (key_length (codes "del") refl refl),
)

pub returns-in-cas : goal.returns-in-cas
returns-in-cas c = (subst IsOperation (sym c.in-cas.is) is_operation_cas, rw c.in-cas.is cas_length)

pub returns-in_default : goal.returns-in_default
returns-in_default c ws =
    op_other c.args.operation.now ws c.in_default.not-set c.in_default.not-get c.in_default.not-del c.in_default.not-cas
