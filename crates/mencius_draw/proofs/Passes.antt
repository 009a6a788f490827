-- A loop that adds the elements of each item of a list in turn ends with the elements of the whole list.
use Rattle.std.proofs.Common.{◌≡◌, ◌<◌, ◌≤◌, ℕ, ◌+◌, refl, append-nil, map, List, [], ◌∷◌, ◌++◌, ap, sym, subst, ◌∙◌, append_assoc, drop, drop-cons, get_or, length, add-one}
use Rattle.std.proofs.lemmas.List.{drop_all}
use Rattle.std.specs.List.{flat_map}
use Rattle.mencius_draw.specs.Svg.{Adds, Element, IsText, then_all}

-- the part of a list from place i on begins with the item at i
pub rest_begins_at : {X : Type 0} (xs : List X) (i : ℕ) (d : X) → i < length xs
    → drop i xs ≡ get_or xs i d ∷ drop (i + 1) xs
rest_begins_at xs i d h =
    drop-cons xs i d h ∙ ap (λ n. get_or xs i d ∷ drop n xs) (sym (add-one i))

-- two parts that were added one after the other are together one added part
pub then : (old mid new a b : List ℕ) → mid ≡ old ++ a → new ≡ mid ++ b → new ≡ old ++ (a ++ b)
then old mid new a b had got = got ∙ ap (λ text. text ++ b) had ∙ append_assoc old a b

-- an equal text is also the beginning of a picture
pub same : {old new : List ℕ} {tags : List (List ℕ)} {es : List Element} → new ≡ old → IsText old tags es
    → IsText new tags es
same {tags = tags} {es = es} e h = subst (λ (text : List ℕ). IsText text tags es) (sym e) h

-- two lists of elements that are added one after the other are together one added list
two_lists : (es xs ys : List Element) → then_all es (xs ++ ys) ≡ then_all (then_all es xs) ys
two_lists es [] ys = refl
two_lists es (x ∷ xs) ys = two_lists (es ++ x ∷ []) xs ys

pub are_joined : (es more : List Element) → then_all es more ≡ es ++ more
are_joined es [] = sym (append-nil es)
are_joined es (x ∷ xs) = are_joined (es ++ x ∷ []) xs ∙ append_assoc es (x ∷ []) xs

-- a call that leaves the text as it is adds no element
pub adds_none : (text : List ℕ) (more : List Element) → more ≡ [] → Adds [] more text text
adds_none text more e = record {
  run = λ tags es h. subst (λ (xs : List Element). IsText text tags (then_all es xs)) (sym e) h;
}

-- the first i items of a list were added to a text
pub record Passes {X Y : Type 0} (f : Y → List Element) (g : X → Y) (xs : List X) (i : ℕ) (old now : List ℕ) : Type 0 where
  pub more : List Element
  pub is : more ++ flat_map f (map g (drop i xs)) ≡ flat_map f (map g xs)
  pub adds : Adds [] more old now

pub passes_none : {X Y : Type 0} (f : Y → List Element) (g : X → Y) (xs : List X) (text : List ℕ)
    → Passes f g xs 0 text text
passes_none f g xs text = record { more = []; is = refl; adds = adds_none text [] refl }

pub passes_one : {X Y : Type 0} (f : Y → List Element) (g : X → Y) (xs : List X) (i : ℕ) (d : X) (old mid new : List ℕ)
    → i < length xs → Passes f g xs i old mid → Adds [] (f (g (get_or xs i d))) mid new → Passes f g xs (i + 1) old new
passes_one f g xs i d old mid new below had got =
    let x = f (g (get_or xs i d)) in
    let rest = flat_map f (map g (drop (i + 1) xs)) in
    record {
      more = had.more ++ x;
      is =
          append_assoc had.more x rest
          ∙ ap (λ ys. had.more ++ flat_map f (map g ys)) (sym (rest_begins_at xs i d below)) ∙ had.is;
      adds = record {
        run = λ tags es h. subst (λ (all : List Element). IsText new tags all) (sym (two_lists es had.more x))
            (got.run tags (then_all es had.more) (had.adds.run tags es h));
      };
    }

pub passes_all : {X Y : Type 0} (f : Y → List Element) (g : X → Y) (xs : List X) (i : ℕ) (old new : List ℕ)
    → length xs ≤ i → Passes f g xs i old new → Adds [] (flat_map f (map g xs)) old new
passes_all f g xs i old new over had =
    let all : had.more ≡ flat_map f (map g xs) =
    sym (append-nil had.more) ∙ ap (λ ys. had.more ++ flat_map f (map g ys)) (sym (drop_all i xs over)) ∙ had.is in
    subst (λ (more : List Element). Adds [] more old new) all had.adds
