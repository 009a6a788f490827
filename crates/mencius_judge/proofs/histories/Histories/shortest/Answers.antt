use Rattle.std.proofs.Common.{◌≡◌, ℕ, List, [], ◌∷◌, Some, fold, map, min, arith, refl, rules, tests, ◌∙◌}
use Rattle.std.proofs.lemmas.Iterator.{YieldsList-from_map, YieldsList-from_slice}
use Rattle.std.proofs.lemmas.Iterator.Consumers.{min_from_yields_List}
use Rattle.std.specs.List.{reduce}
use Rattle.mencius_judge.specs.Counts.{least_of}
use Rattle.mencius_judge.specs.Rows.{row_count}
use Rattle.mencius_judge.proofs.histories.Histories.shortest.Goals as goal

min_twice : (a n m : ℕ) → min (min a n) m ≡ min a (min n m)
min_twice a n m = omega arith

least_more : (n m : ℕ) (ns : List ℕ) → least_of (min n m ∷ ns) ≡ min n (least_of (m ∷ ns))
least_more n m [] = refl
least_more n m (k ∷ ns) = min_twice n m (least_of (k ∷ ns))

-- the least number is found from left to right
least_fold : (n : ℕ) (ns : List ℕ) → fold min n ns ≡ least_of (n ∷ ns)
least_fold n [] = refl
least_fold n (m ∷ ns) = least_fold (min n m) ns ∙ least_more n m ns

least_is : (ns : List ℕ) (least : ℕ) → Some least ≡ reduce min ns → least ≡ least_of ns
least_is [] least e = absurd (cc)
least_is (n ∷ ns) least e = let same : least ≡ fold min n ns = cc in same ∙ least_fold n ns

pub returns-in-Some : goal.returns-in-Some
returns-in-Some c =
    let rows = c.args.self.now.rows.items in
    least_is (map row_count rows) c.in-Some.count
    (min_from_yields_List c.map.result (Some c.in-Some.count) c.in-Some.ensures.ran
    (YieldsList-from_map _ row_count (YieldsList-from_slice rows (cc)) c.map.ensures.closure (λ x r q k. search (rules, tests))))
