use Rattle.std.proofs.Common.{sym, subst, ◌∷◌}
use Rattle.std.proofs.lemmas.Result.{on_ok_weaker}
use Rattle.mencius_log.specs.declared.observation.Observation.TheVariants.{Reply}
use Rattle.mencius_judge.specs.Log.{Log}
use Rattle.mencius_clients.specs.Explained.{IsLinearizable}
use Rattle.mencius_clients.proofs.KeyParts.{fit_more}
use Rattle.mencius_clients.proofs.fitting_answers.try_answer.Goals as goal

pub returns-clause-fitting : goal.returns-clause-fitting
returns-clause-fitting c =
    on_ok_weaker c.push_if.result
    (λ grown w same all. fit_more w c.args.id c.args.answer.now c.args.fitting.now.items c.push_if.new.fitting.items
    c.in_ok-fits.fits
    (λ true. subst (λ (v : Log). IsLinearizable (Reply c.args.id c.args.answer.now ∷ v)) (sym same)
    (c.in_ok-fits.ensures.fits true))
    grown all)
    c.push_if.ensures
