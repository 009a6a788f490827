use Rattle.std.proofs.Common.{◌≡◌, ◌+◌, ℕ, Some, ap, ap₂, length, refl, sym, subst, ◌∙◌}
use Rattle.std.specs.BTreeMap.{Updates}
use Rattle.std.specs.Ordering.{nat_cmp}
use Rattle.mencius_log.specs.declared.observation.Observation.{Observation}
use Rattle.mencius_log.specs.declared.observation.Observation.TheVariants.{Lookup}
use Rattle.mencius_judge.specs.Log.{commands_of}
use Rattle.mencius_judge.specs.Quotes.{log_of}
use Rattle.mencius_judge.specs.Tables.{floor_of}
use Rattle.mencius_judge.specs.Timelines.{HasNone, IsFirstCount, held_by}
use Rattle.mencius_judge.specs.Violations.{IsFloor, IsNowhere}
use Rattle.mencius_judge.proofs.promises.Floors.{commands-length, floors_lookup, nowhere, wrong_lookup}
use Rattle.mencius_judge.proofs.observations.Quiet.{histories_same}
use Rattle.mencius_judge.proofs.observations.QuietSteps.{seen_quiet}
use Rattle.mencius_judge.proofs.sources.After.{sources_quiet}
use Rattle.mencius_judge.proofs.judge.Judge.look_up.Goals as goal

pub returns-in_default : goal.returns-in_default
returns-in_default c n line seen =
    let j = c.args.self.now in
    let h = seen.log in
    let w = log_of n in
    let places = j.histories.places in
    let rows = j.histories.rows.items in
    let r = c.args.reader in
    let key = c.args.key.now in
    let text = c.args.text.now in
    let order = j.histories.order.items in
    let cs = commands_of w order in
    let size : length cs ≡ c.longest-to.result = commands-length w order h.order.known ∙ sym c.longest-to.ensures in
    let none : HasNone (held_by cs key) text (floor_of j.floors r) c.longest-to.result =
    subst (λ k. HasNone (held_by cs key) text k c.longest-to.result) c.floor_of-from.ensures
    (subst (λ t. HasNone (held_by cs t) text c.floor_of-from.result c.longest-to.result) c.as_str.ensures
    (c.in_default.ensures cs h.timelines size)) in
    let to : c.longest-to.result ≡ length order = c.longest-to.ensures in
    let own_key = c.in_ok-copy_of_key.field-0 in
    let own_text = c.in_ok-copy_of.field-0 in
    let keys : key ≡ own_key = sym c.in_ok-copy_of_key.ensures in
    let texts : text ≡ own_text = sym c.in_ok-copy_of.ensures in
    let floor : IsFloor w r c.floor_of-from.result =
    subst (IsFloor w r) (sym c.floor_of-from.ensures) (h.floors.seen r, (λ m may. h.floors.least r m may)) in
    let lacks : IsNowhere w own_key own_text c.floor_of-from.result c.longest-to.result =
    subst (λ t. IsNowhere w t own_text c.floor_of-from.result c.longest-to.result) keys
    (subst (λ x. IsNowhere w key x c.floor_of-from.result c.longest-to.result) texts
    (subst (λ k. IsNowhere w key text k c.longest-to.result) (sym c.floor_of-from.ensures)
    (nowhere w order places rows cs h.histories h.order refl r key text j.floors h.floors
    c.longest-to.result to none))) in (
      (
        (ap₂ (λ k x. Lookup r k x) keys texts, floor, lacks),
        wrong_lookup w order places rows cs h.histories h.order refl r key text j.floors h.floors
            c.longest-to.result to none,
      ),
      seen,
    )

pub returns : goal.returns
returns c n line seen =
    let j = c.args.self.now in
    let h = seen.log in
    let w = log_of n in
    let places = j.histories.places in
    let rows = j.histories.rows.items in
    let r = c.args.reader in
    let key = c.args.key.now in
    let text = c.args.text.now in
    let order = j.histories.order.items in
    let cs = commands_of w order in
    let size : length cs ≡ c.longest-to.result = commands-length w order h.order.known ∙ sym c.longest-to.ensures in
    let first : IsFirstCount (held_by cs key) text (floor_of j.floors r) (length order) c.in-Some.count =
    subst (λ k. IsFirstCount (held_by cs key) text (floor_of j.floors r) k c.in-Some.count) c.longest-to.ensures
    (subst (λ k. IsFirstCount (held_by cs key) text k c.longest-to.result c.in-Some.count) c.floor_of-from.ensures
    (subst (λ t. IsFirstCount (held_by cs t) text c.floor_of-from.result c.longest-to.result c.in-Some.count) c.as_str.ensures
    (c.in-Some.ensures cs h.timelines size))) in
    let updates : Updates nat_cmp j.floors c.put.new.map r (Some c.in-Some.count) =
    subst (λ number. Updates nat_cmp j.floors c.put.new.map number (Some c.in-Some.count)) c.from.ensures
    c.in_ok-put.ensures in
    let o : Observation = Lookup r key text in
    record {
      log = seen_quiet j w o tt h h.were_submitted h.were_settled h.were_restored
          j.histories refl (histories_same w o tt order places rows h.histories) j.settled h.settled
          c.put.new.map
          (floors_lookup w order places rows cs h.histories h.order refl r key text j.floors c.put.new.map
          c.in-Some.count h.floors first updates)
          c.in_ok-self.field-0 (c.in_ok-self.ensures ∙ ap (λ (k : ℕ). k + 1) h.lookups);
      sources =
          sources_quiet n order j.histories.leads.items places rows j.submissions j.replies seen.sources
          (record { number = line; observation = o });
    }
