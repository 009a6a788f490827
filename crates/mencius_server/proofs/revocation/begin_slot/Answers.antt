use Rattle.std.proofs.Common.{◌≡◌, ◌+◌, false, true, leb, not, ◌∙◌, ap, sym, arith}
use Rattle.std.specs.Prelude.{is_none}
use Rattle.coord_paxos.specs.Slot.{after_begin}
use Rattle.mencius_base.specs.Members.{ballot_of}
use Rattle.std.proofs.lemmas.Bool.{le-ltb, leb-false}
use Rattle.mencius_base.specs.Limits.{greatest_round}
use Rattle.mencius_server.specs.Machine.{next_round_of, with_next_phase}
use Rattle.mencius_server.proofs.suspicions.FirstPhases.{round_next}
use Rattle.mencius_server.proofs.revocation.begin_slot.Goals.{in-Some, in_default}
use Rattle.mencius_server.proofs.revocation.begin_slot.Goals as goal

pub returns-clause-last : goal.returns-clause-last
returns-clause-last c = λ last. elim c.match-new.branch [
  | in-Some w ↦
      let small : leb 65535 c.next_round_of-round.result ≡ false = cc in
      let slot : c.match-new.slot ≡ with_next_phase c.args.members c.args.id c.args.slot.now =
      w.slot-is ∙ w.begin.ensures ∙ ap (after_begin c.args.slot.now) (w.in-Some.ensures.value
      ∙ ap (λ n. ballot_of c.args.members n c.args.id) c.next_round_of-round.ensures.round) in
      let next : next_round_of c.args.members c.match-new.slot ≡ c.next_round_of-round.result + 1 =
      ap (next_round_of c.args.members) slot ∙ round_next c.args.members c.args.id c.args.slot.now c.requires.member
      ∙ ap (λ n. n + 1) (sym c.next_round_of-round.ensures.round) in
      le-ltb greatest_round (next_round_of c.args.members c.match-new.slot)
      (omega (arith, next, leb-false 65535 c.next_round_of-round.result small))
  | in_default w ↦
      let none : is_none c.args.slot.now.learned ≡ true =
      ap is_none (sym c.learned.ensures) ∙ ap not (sym c.is_some.ensures ∙ c.if-is_some.false) in
      let no = w.in_default.ensures.valid.1 (
        c.next_round_of-round.ensures.some,
        omega (arith, c.requires.rounds none, c.next_round_of-round.ensures.round),
        c.requires.member,
      ) in
      absurd (cc)
]
