use Rattle.std.proofs.Common.{◌≡◌, ◌≢◌, ℕ, ◌+◌, ◌<◌, get_or, arith, false, true, List, [], ◌∷◌, ◌++◌, zero, suc, Option, Some, None, length, slice_get, slice_set, refl, ap, subst, sym, ◌∙◌}
use Rattle.mencius_judge.specs.declared.histories.Row.{Row}
use Rattle.mencius_judge.proofs.histories.advance.Goals as goal

set_length : {X : Type 0} (xs : List X) (n : ℕ) (x : X) → length (slice_set xs n x) ≡ length xs
set_length [] n x = refl
set_length (y ∷ xs) zero x = refl
set_length (y ∷ xs) (suc n) x = ap suc (set_length xs n x)

set_there : {X : Type 0} (xs : List X) (n : ℕ) (x y : X) → slice_get xs n ≡ Some y → slice_get (slice_set xs n x) n ≡ Some x
set_there [] n x y e = cc
set_there (z ∷ xs) zero x y e = refl
set_there (z ∷ xs) (suc n) x y e = set_there xs n x y e

set_elsewhere : {X : Type 0} (xs : List X) (n m : ℕ) (x : X) → m ≢ n → slice_get (slice_set xs n x) m ≡ slice_get xs m
set_elsewhere [] n m x ne = refl
set_elsewhere (y ∷ xs) zero zero x ne = absurd (ne refl)
set_elsewhere (y ∷ xs) zero (suc m) x ne = refl
set_elsewhere (y ∷ xs) (suc n) zero x ne = refl
set_elsewhere (y ∷ xs) (suc n) (suc m) x ne = set_elsewhere xs n m x (λ e. ne (ap suc e))

none_below : (n : ℕ) → n < 0 → ⊥
none_below n lt = grind arith

item_there : {X : Type 0} (xs : List X) (n : ℕ) (x : X) → n < length xs → x ≡ get_or xs n x → slice_get xs n ≡ Some x
item_there [] n x lt e = absurd (none_below n lt)
item_there (y ∷ xs) zero x lt e = ap Some (sym e)
item_there (y ∷ xs) (suc n) x lt e = item_there xs n x (grind arith) e

past : {X : Type 0} (xs : List X) (n : ℕ) → (n < length xs → ⊥) → slice_get xs n ≡ None
past [] n off = refl
past (y ∷ xs) zero off = absurd (off (grind arith))
past (y ∷ xs) (suc n) off = past xs n (λ lt. off (grind arith))

false_true : false ≡ true → ⊥
false_true e = cc

same_some : {X : Type 0} {x y : X} → ◌≡◌ {A = Option X} (Some x) (Some y) → x ≡ y
same_some e = cc

no_some : {X : Type 0} {x : X} → ◌≡◌ {A = Option X} None (Some x) → ⊥
no_some e = cc

pub returns-in_ok-row : goal.returns-in_ok-row
returns-in_ok-row c =
    let rows = c.args.rows.now.items in
    let n = c.args.place in
    let row : Row = record { count = c.in_ok-row.field-0; snapshot = c.in-Some.row.now.snapshot; lines = c.push.new.self } in
    let there : slice_get rows n ≡ Some c.in-Some.row.now =
    item_there rows n c.in-Some.row.now c.in-Some.ensures.item.3.0 c.in-Some.ensures.item.1 in
    let more : c.in_ok-row.field-0 ≡ c.in-Some.row.now.count + 1 = c.in_ok-row.ensures in
    record {
      size = set_length rows n row;
      others = λ m ne. set_elsewhere rows n m row ne;
      own = λ old e.
          let same : c.in-Some.row.now ≡ old = same_some (sym there ∙ e) in (
            row,
            set_there rows n row old e,
            record {
              count_is = more ∙ ap (λ (r : Row). r.count + 1) same;
              snapshot_is = ap (λ (r : Row). r.snapshot) same;
              lines_are = c.in_ok-push.ensures.items ∙ ap (λ (r : Row). r.lines.items ++ c.args.line ∷ []) same;
            },
          );
    }

pub returns-in_default : goal.returns-in_default
returns-in_default c =
    let rows = c.args.rows.now.items in
    let none : slice_get rows c.args.place ≡ None =
    past rows c.args.place (λ lt. false_true (c.in_default.ensures.variant.1 (subst (λ k. c.args.place < k) (sym c.args.rows.now.ok.0) lt))) in
    record {
      size = refl;
      others = λ m ne. refl;
      own = λ old e. absurd (no_some (sym none ∙ e));
    }
