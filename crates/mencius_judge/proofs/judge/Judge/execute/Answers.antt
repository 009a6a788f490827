use Rattle.mencius_log.specs.declared.observation.Observation.{Observation}
use Rattle.mencius_log.specs.declared.observation.Observation.TheVariants.{Execute}
use Rattle.mencius_judge.specs.Quotes.{log_of}
use Rattle.mencius_judge.specs.Rows.{count_of}
use Rattle.mencius_judge.proofs.observations.HistorySteps.{follows}
use Rattle.mencius_judge.proofs.observations.Quiet.{floors_same}
use Rattle.mencius_judge.proofs.observations.QuietSteps.{seen_quiet}
use Rattle.mencius_judge.proofs.sources.After.{sources_after_follow}
use Rattle.mencius_judge.proofs.judge.Judge.execute.Goals as goal

pub returns-in_ok-follow-in-Follows : goal.returns-in_ok-follow-in-Follows
returns-in_ok-follow-in-Follows c n seen =
    let j = c.args.self.now in
    let h = seen.log in
    let w = log_of n in
    let p = c.args.server in
    let id = c.args.id in
    let order = j.histories.order.items in
    let places = j.histories.places in
    let rows = j.histories.rows.items in
    let new = c.follow.new.self in
    let o : Observation = Execute p id in
    record {
      log = seen_quiet j w o tt h (h.order.known (count_of places rows p) id c.in-Follows.ensures, h.were_submitted)
          h.were_settled h.were_restored new c.follow.ensures.order
          (follows w order places rows h.histories p id c.args.line new.places new.rows.items h.were_restored
          c.in_ok-follow-in-Follows.ensures.rows c.in-Follows.ensures)
          j.settled h.settled j.floors (floors_same w o tt j.floors h.floors) j.lookups h.lookups;
      sources =
          rw (c.follow.ensures.order, c.follow.ensures.leads)
          (sources_after_follow n order j.histories.leads.items places rows j.submissions j.replies seen.sources h.histories
          c.args.line p id new.places new.rows.items c.in-Follows.ensures c.in_ok-follow-in-Follows.ensures.rows);
    }
