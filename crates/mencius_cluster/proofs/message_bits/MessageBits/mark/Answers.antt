use Rattle.std.proofs.Common.{ℕ, ◌<◌, ◌&&◌, ◌||◌, length, ap, subst, ◌∙◌}
use Rattle.std.specs.Prelude.{◌==◌}
use Rattle.std.specs.Int.{bit_at}
use Rattle.std.proofs.lemmas.Grind.{get_or_default_zero}
use Rattle.mencius_cluster.specs.MessageBits.{MessageBitsState, has_bit_in}
use Rattle.mencius_cluster.proofs.tables.LossMasks.{marked}
use Rattle.mencius_cluster.proofs.message_bits.MessageBits.mark.Goals as goal

pub returns : goal.returns
returns c k d =
    let masks = c.fill.new.masks in
    let there : c.args.message < length masks.items =
    subst (λ (n : ℕ). c.args.message < n) masks.ok.0 c.fill.ensures.there in
    marked masks.items c.args.message c.args.server c.index_mut.result.now there c.requires.server
    (c.index_mut.ensures.value ∙ get_or_default_zero masks.items c.args.message c.index_mut.result.now there) k d
    ∙ ap (λ x. (c.args.message == k && c.args.server == d) || (bit_at x d == 1)) (c.fill.ensures.kept k)
    ∙ ap (λ (y : MessageBitsState). (c.args.message == k && c.args.server == d) || has_bit_in y k d) c.self.view_is
