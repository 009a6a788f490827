use Rattle.std.proofs.Common.{arith}
use Rattle.mencius_model.proofs.histories.LongestServer.{longest_is}
use Rattle.mencius_model.proofs.further_laws.longest.Goals as goal

pub returns : goal.returns
returns c m w some =
    let is = longest_is m w in
    record { member = omega (arith, is.member, some); longest = is.longest; least = is.least }
