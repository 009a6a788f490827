use Rattle.std.proofs.Common.{arith, drop, length, length-drop}
use Rattle.std.specs.Prelude.{nat_lt}
use Rattle.std.proofs.lemmas.List.{take_rest}
use Rattle.mencius_io.proofs.FurtherCalls.{appends_further, took_some}
use Rattle.mencius_io.proofs.write.write_all.Goals as goal

pub loop-written-preserved-in-Ok : goal.loop-written-preserved-in-Ok
loop-written-preserved-in-Ok g c =
    let rest = take_rest c.args.text.now c.loop-written.written in
    let sent = rw rest at c.in-Ok.ensures in
    let unfailed =
    took_some (nat_lt 0 (length (drop c.loop-written.written c.args.text.now))) c.in-Ok.n
    (g.W.Sink.state c.loop-written.sink).failures (g.W.Sink.state c.write.new.self).failures sent.count c.in-Ok.n-test.1 in
    record {
      within = omega (arith, sent.bound, length-drop c.loop-written.written c.args.text.now);
      front = appends_further _ _ _ _ _ _ c.loop-written.invariant.front sent.bytes;
      few = omega arith;
      counted = rw unfailed c.loop-written.invariant.counted;
    }
