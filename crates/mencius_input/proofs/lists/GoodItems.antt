-- An item that has no fault is kept after others, or passed over if one of them has a fault.
use Rattle.std.proofs.Common.{◌≡◌, List, [], ◌∷◌, ◌++◌, Option, Some, None, Result, Ok, is_none, true, false, refl}
use Rattle.mencius_io.specs.declared.fault.IoFault.{IoFault}
use Rattle.mencius_io.specs.declared.fault.IoFault.TheVariants.{BadLimit}
use Rattle.mencius_input.specs.ItemFaults.{items_or_fault, with_one}

module _ {X : Type 0} (kept : List X) (x : X) (said : Result X IoFault) (is : said ≡ Ok x) where
  pub item_kept : (more : List X) (fault : Option IoFault) → is_none fault ≡ true → more ≡ kept ++ x ∷ []
      → items_or_fault more fault ≡ with_one (items_or_fault kept fault) said
  item_kept more None well added = rw (is, added) refl
  item_kept more (Some fault) well added = absurd (cc)

  pub item_passed : (fault : Option IoFault) → is_none fault ≡ false
      → items_or_fault kept fault ≡ with_one (items_or_fault kept fault) said
  item_passed None bad = absurd (cc)
  item_passed (Some BadLimit) bad = rw is refl
  item_passed (Some fault) bad = refl
