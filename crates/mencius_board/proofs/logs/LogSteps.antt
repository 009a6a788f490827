-- A step that only adds to the log maintains the rule of the value that readers enter.
use Rattle.std.proofs.Common.{◌≡◌, ℕ, ◌≢◌, List, [], ◌∷◌, ◌++◌, Option, Some, None, set, refl, sym, ap, ◌∙◌, subst}
use Rattle.std.proofs.Common.{⊎_elim, ◌<◌, ◌^◌, length}
use mathlib.Core.Option.{some}
use mathlib.Core.List.{IsPrefix}
use lib.ListN.{get_elem?}
use Rattle.left_right.specs.Register.{Admits, TurnsAt, Forks, Merges}
use Rattle.atomic_table.proofs.Lists.{at_set, at_snoc}
use Rattle.mencius_base.specs.declared.command.Command.{Command}
use Rattle.mencius_board.specs.Marks.{MarkState, VersionState}
use Rattle.mencius_board.specs.declared.version.Operation.{Operation}
use Rattle.mencius_board.specs.declared.version.Operation.TheVariants.{Stamp}
use Rattle.mencius_board.specs.Pending.{IsMarked, version_after_all, added_commands}
use Rattle.mencius_board.proofs.ShownEntries.{then_stamped}
use Rattle.mencius_board.specs.Shown.{Follows, IsWhole, Keeps, Shows}
use Rattle.mencius_model.proofs.trace.Prefixes.{prefix_self, prefix_trans}

follows_on : (a : Option MarkState) (m n : MarkState) → Follows a m → m.book ≡ n.book → IsPrefix m.log n.log
    → Follows a n
follows_on None m n follows book grows = tt
follows_on (Some a) m n follows book grows = (follows.0 ∙ book, prefix_trans a.log m.log n.log follows.1 grows)

pub turns : (seat : ℕ) (z : Option MarkState) (x y : VersionState) → x.mark.book ≡ y.mark.book
    → IsPrefix x.mark.log y.mark.log → IsWhole y → TurnsAt Keeps seat z x y Shows
turns seat z x y book grows own views h at = (
  Some y.mark,
  (
    own,
    (λ n shown e. ⊎_elim
        (λ (d : (n ≡ seat) × (Some y.mark ≡ shown)). subst (λ (o : Option MarkState). Follows o y.mark) d.1
        (refl, prefix_self y.mark.log))
        (λ (d : (n ≢ seat) × (get_elem? views n ≡ some shown)).
        follows_on shown x.mark y.mark (h.1 n shown d.1) book grows)
        (at_set views seat n (Some y.mark) shown e)),
  ),
  (own, refl, follows_on z x.mark y.mark (h.1 seat z at) book grows),
)

-- a look at the shown value maintains the rule
pub looks : (seat : ℕ) (a : Option MarkState) (x : VersionState) → TurnsAt Keeps seat a x x Shows
looks seat a x views h at = turns seat a x x refl (prefix_self x.mark.log) h.0 views h at

pub admits : Admits Keeps None
admits x views h = (
  h.0,
  λ n shown e. ⊎_elim (λ (y : get_elem? views n ≡ some shown). h.1 n shown y)
      (λ (y : None ≡ shown). subst (λ (d : Option MarkState). Follows d x.mark) y tt) (at_snoc views None shown n e),
)

set_follows : (seat : ℕ) (x : VersionState) (a : Option MarkState) (views : List (Option MarkState)) → Keeps x views
    → Follows a x.mark → Keeps x (set views seat a)
set_follows seat x a views h follows = (
  h.0,
  λ n shown e. ⊎_elim (λ (y : (n ≡ seat) × (a ≡ shown)). subst (λ (d : Option MarkState). Follows d x.mark) y.1 follows)
      (λ (y : (n ≢ seat) × (get_elem? views n ≡ some shown)). h.1 n shown y.1) (at_set views seat n a shown e),
)

pub forks : (seat : ℕ) (a : Option MarkState) → Forks Keeps seat a a a
forks seat a x views h at =
    let following = set_follows seat x a views h (h.1 seat a at) in (
      h.0,
      λ n shown e. ⊎_elim (λ (y : get_elem? (set views seat a) n ≡ some shown). following.1 n shown y)
          (λ (y : a ≡ shown). subst (λ (d : Option MarkState). Follows d x.mark) y (h.1 seat a at))
          (at_snoc (set views seat a) a shown n e),
    )

pub merges : (seat : ℕ) (z : Option MarkState) (other : ℕ) (d : Option MarkState) → Merges Keeps seat z other d d None
merges seat z other d x views h at apart there =
    let follows : Follows d x.mark = ⊎_elim (λ (y : (other ≡ seat) × (d ≡ d)). absurd (apart y.0))
    (λ (y : (other ≢ seat) × (get_elem? views other ≡ some d)). h.1 other d y.1)
    (at_set views seat other d d there) in
    set_follows other x None (set views seat d) (set_follows seat x d views h follows) tt

-- publishing the pending commands with a mark of the whole list maintains the rule
pub stamped_turns : (seat : ℕ) (a : Option MarkState) (x now next : VersionState) (old all : List Operation)
    (h mark : MarkState) → length h.log < 2 ^ 32 → x ≡ now → all ≡ old ++ Stamp mark ∷ [] → mark ≡ h
    → IsMarked h.book now → now.list ++ added_commands old ≡ h.log → next ≡ version_after_all x all
    → TurnsAt Keeps seat a x next Shows
stamped_turns seat a x now next old all h mark few same ops is marked whole made =
    let made_now : next ≡ version_after_all now (old ++ Stamp mark ∷ []) = made
    ∙ (ap (λ s. version_after_all s all) same ∙ ap (version_after_all now) ops) in
    let stamped : next ≡ record { mark = mark; list = mark.log } = made_now
    ∙ then_stamped now old mark (whole ∙ ap (λ (m : MarkState). m.log) (sym is)) in
    let mark_is : next.mark ≡ h = ap (λ (s : VersionState). s.mark) stamped ∙ is in
    let list_is : next.list ≡ h.log = ap (λ (s : VersionState). s.list) stamped ∙ ap (λ (m : MarkState). m.log) is in
    let own : IsWhole next = record {
      log_is = ap (λ (m : MarkState). m.log) mark_is ∙ sym list_is;
      limit = subst (λ (l : List Command). length l < 2 ^ 32) (sym list_is) few;
    } in
    let book : now.mark.book ≡ next.mark.book = marked.book_is ∙ ap (λ (m : MarkState). m.book) (sym mark_is) in
    let log : next.mark.log ≡ now.mark.log ++ added_commands old =
    ap (λ (m : MarkState). m.log) mark_is ∙ (sym whole ∙ ap (λ xs. xs ++ added_commands old) (sym marked.log_is)) in
    turns seat a x next (ap (λ (s : VersionState). s.mark.book) same ∙ book)
    (subst (λ (s : VersionState). IsPrefix s.mark.log next.mark.log) (sym same) (added_commands old, sym log)) own
