use Rattle.std.proofs.Common.{◌≡◌, ◌∙◌, IfOk, None, Some, ap, option_map, subst, sym}
use Rattle.std.specs.Prelude.{option_and_then}
use Rattle.serde_json.specs.Read.{read}
use Rattle.serde_json.specs.View.{view}
use Rattle.mencius_input.specs.Places.{names_in, place_in, place_state}
use Rattle.mencius_input.specs.Scenario.{json_of}
use Rattle.mencius_input.proofs.JsonTexts.{utf8_no, utf8_yes}
use Rattle.mencius_input.proofs.places.place_of.Goals as goal

pub returns-in_default : goal.returns-in_default
returns-in_default c =
    let bytes = c.args.bytes.now in
    sym (ap (option_and_then (place_in c.args.kind c.args.fault (names_in bytes)))
    (utf8_no bytes (λ text. absurd (c.in_default.ensures.cases.0 text))))

pub returns-in-Some : goal.returns-in-Some
returns-in-Some c =
    let bytes = c.args.bytes.now in
    let d = view c.in-Some.scenario in
    let utf8 = c.in-Ok.ensures.cases in
    let said : json_of bytes ≡ Some d =
    utf8_yes bytes utf8.1 ∙ ap read (sym utf8.0)
    ∙ (sym c.in_ok-scenario.ensures ∙ ap (option_map view) c.in-Some.is) in
    subst (λ place. IfOk c.place_in.result (λ o. option_map place_state o ≡ place))
    (ap (λ text. place_in c.args.kind c.args.fault (names_in text) d) utf8.0
    ∙ sym (ap (option_and_then (place_in c.args.kind c.args.fault (names_in bytes))) said))
    c.place_in.ensures

pub returns-in-None : goal.returns-in-None
returns-in-None c =
    let bytes = c.args.bytes.now in
    let utf8 = c.in-Ok.ensures.cases in
    let unread : read c.in-Ok.text.now ≡ None = sym c.in_ok-scenario.ensures ∙ ap (option_map view) c.in-None.is in
    sym (ap (option_and_then (place_in c.args.kind c.args.fault (names_in bytes)))
    (utf8_no bytes (λ text. ap read (sym utf8.0) ∙ unread)))
