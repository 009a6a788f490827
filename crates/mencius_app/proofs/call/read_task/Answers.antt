use Rattle.mencius_app.proofs.Words.{refl}
use Rattle.mencius_app.proofs.call.read_task.Goals as goal

pub returns-in-Replay : goal.returns-in-Replay
returns-in-Replay g c =
    let read = c.read_replay.ensures in
    rw c.in-Replay.is (read.made, read.fault, read.asked)

pub returns-in-Trace : goal.returns-in-Trace
returns-in-Trace g c =
    let read = c.read_trace.ensures in
    rw c.in-Trace.is (rw c.view_of.ensures at read.made, rw c.view_of.ensures at read.fault, read.asked)

pub returns-in-Draw : goal.returns-in-Draw
returns-in-Draw g c =
    let read = c.read_picture.ensures in
    rw c.in-Draw.is (read.made, read.fault, read.asked)

pub returns-in-Check : goal.returns-in-Check
returns-in-Check g c =
    let read = c.read_check.ensures in
    rw c.in-Check.is (read.made, read.fault, read.asked)

pub returns-in-Judge : goal.returns-in-Judge
returns-in-Judge g c =
    let read = c.read_judgement.ensures in
    rw c.in-Judge.is (read.made, read.fault, read.few)

pub returns-in-Clients : goal.returns-in-Clients
returns-in-Clients g c =
    let read = c.read_client_judgement.ensures in
    rw c.in-Clients.is (read.made, read.fault, read.asked)

pub returns-in-Run : goal.returns-in-Run
returns-in-Run g c = rw c.in-Run.is (refl, refl)
