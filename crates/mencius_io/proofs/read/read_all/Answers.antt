use Rattle.std.proofs.Common.{◌++◌, ◌≤◌, arith, take, length, length-append, rules}
use Rattle.std.proofs.lemmas.List.{length-take, length-take-le}
use Rattle.std.proofs.KnownBytes.{Consumes-kept, Consumes-trans}
use Rattle.mencius_io.proofs.FurtherCalls.{failed_further}
use Rattle.mencius_io.proofs.read.read_all.Goals as goal

pub returns-in_err-n-clause-failed : goal.returns-in_err-n-clause-failed
returns-in_err-n-clause-failed g c =
    λ _. failed_further _ _ _ c.reads.invariant.counted c.in_err-n.ensures.counted c.in_err-n.ensures.failed

pub returns-in_err-n-clause-taken : goal.returns-in_err-n-clause-taken
returns-in_err-n-clause-taken g c = (
  c.reads.bytes.items,
  omega arith,
  Consumes-kept _ _ _ c.reads.bytes.items c.reads.invariant.taken c.in_err-n.ensures.bytes,
)

-- the last read returned no byte
pub returns-then-n-eq0-clause-taken : goal.returns-then-n-eq0-clause-taken
returns-then-n-eq0-clause-taken g c =
    let last = take c.in_ok-n.n c.read_some.new.buf in (
      c.reads.bytes.items ++ last,
      omega (arith, length-append c.reads.bytes.items last, length-take c.in_ok-n.n c.read_some.new.buf),
      Consumes-trans _ _ _ c.reads.bytes.items last c.reads.invariant.taken c.in_ok-n.ensures.bytes.0,
    )

-- the allocation failed after the read that found the bytes
pub returns-in_err-extend_from_slice-clause-taken : goal.returns-in_err-extend_from_slice-clause-taken
returns-in_err-extend_from_slice-clause-taken g c =
    let found = take c.in_ok-n.n c.read_some.new.buf in
    let whole : c.in_ok-n.n ≤ length c.read_some.new.buf = search rules in (
      c.reads.bytes.items ++ found,
      omega (
        arith,
        length-append c.reads.bytes.items found,
        length-take-le c.in_ok-n.n c.read_some.new.buf whole,
        length-take c.min-most.result c.reads.buf,
      ),
      Consumes-trans _ _ _ c.reads.bytes.items found c.reads.invariant.taken c.in_ok-n.ensures.bytes.0,
    )
