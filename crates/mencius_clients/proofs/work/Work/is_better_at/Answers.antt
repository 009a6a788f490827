use Rattle.std.proofs.Common.{◌∙◌, ap, slice_get, sym}
use Rattle.mencius_clients.proofs.work.Work.is_better_at.Goals as goal

pub returns-in-Some : goal.returns-in-Some
returns-in-Some c there calls lost =
    let good = c.is_as_good.ensures there calls lost in (
      c.in-Some.known,
      (c.args.place, ap (λ xs. slice_get xs c.args.place) (sym c.as_slice.ensures.value) ∙ c.in-Some.ensures),
      good.0,
      good.1,
      good.2,
    )
