-- What the pointer to a judge owns.
use Rattle.std.specs.Prelude.{Option, Some, None}
use mir.Syntax.{Ty}
use base.Fml.{Fml, ftrue}
use denote.RattleType.{RattleType}
use denote.RawPtr.{Ptr}
use Rattle.std.specs.Global.{Global}
use Rattle.std.specs.contracts.impls.GlobalAllocator.TheImpl.{ghosts}
use Rattle.std_alloc.specs.Box.Ownership.{box_owns}

-- the handle of the heap
abbrev pub heap : Global
heap = record { memory = record { seal = tt } }

-- the right to free a block of the heap
abbrev pub may_free : Ty → Ptr → Fml
may_free = ghosts.dealloc_token heap

-- nothing, or the value at the pointer and the right to free its block
abbrev pub held_owns : (R : RattleType) → Ptr → Option R.Denot → Fml
held_owns R p None = ftrue
held_owns R p (Some x) = box_owns may_free R p x
