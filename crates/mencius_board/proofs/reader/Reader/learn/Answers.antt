use Rattle.std.specs.Prelude.{length}
use Rattle.std.proofs.Common.{arith, ap, inl, inr, subst, ⊎_elim}
use Rattle.mencius_model.specs.Executed.{IsPrefix}
use Rattle.mencius_model.proofs.trace.Prefixes.{shorter_begins}
use Rattle.mencius_board.specs.Marks.{MarkState}
use Rattle.mencius_board.proofs.reader.Reader.learn.Goals as goal

pub returns-then-self-count-clause-floor : goal.returns-then-self-count-clause-floor
returns-then-self-count-clause-floor c =
    let many = ap (λ (s : MarkState). length s.log) c.into_mark-mark.ensures in
    subst (λ (s : MarkState). IsPrefix s.log c.into_mark-mark.result.log) c.self.view_is
    (shorter_begins _ _ c.compare.ensures
    (omega (arith, c.self.invariant.0, c.count-count.ensures, many, c.if-self-count.true)))

pub returns-else-self-count-clause-told : goal.returns-else-self-count-clause-told
returns-else-self-count-clause-told c =
    let many = ap (λ (s : MarkState). length s.log) c.into_mark-mark.ensures in
    let floor = c.self.inside.floor.log in let told = c.into_mark-mark.result.log in
    let begins : IsPrefix told floor =
    shorter_begins _ _
    (⊎_elim (λ (h : IsPrefix floor told). inr h) (λ (h : IsPrefix told floor). inl h) c.compare.ensures)
    (omega (arith, c.self.invariant.0, c.count-count.ensures, many, c.if-self-count.false)) in
    subst (λ (s : MarkState). IsPrefix c.args.news.log s.log) c.self.view_is
    (subst (λ (s : MarkState). IsPrefix s.log floor) c.into_mark-mark.ensures begins)
