use Rattle.std.proofs.Common.{◌==◌, arith, get_or}
use Rattle.mencius_json.proofs.Counts.{next_within, one_more}
use Rattle.mencius_json.proofs.count.count_in_part.Goals as goal

pub overflow_add-count : goal.overflow_add-count
overflow_add-count c =
    let here = get_or c.args.part.now c.bytes.byte-index 0 == c.args.wanted in
    let next = next_within c.bytes.count c.bytes.byte-index here c.bytes.invariant.1 in
    record { fits = omega (arith, next, c.bytes-test.true, c.requires) }

pub bytes-preserved : goal.bytes-preserved
bytes-preserved c =
    let here = get_or c.args.part.now c.bytes.byte-index 0 == c.args.wanted in (
      one_more (λ byte. byte == c.args.wanted) c.args.part.now c.bytes.byte-index c.bytes.count c.bytes-test.true c.bytes.invariant.0,
      next_within c.bytes.count c.bytes.byte-index here c.bytes.invariant.1,
    )
