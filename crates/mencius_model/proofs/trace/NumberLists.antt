-- Lists over all servers and over all instances.
use Rattle.std.proofs.Common.{◌≡◌, ℕ, ◌+◌, ◌<◌, ◌≤◌, Bool, true, false, Option, Some, None, cond, zero, suc, add-zero, List, [], ◌∷◌, ◌++◌, map, length, filter, get_or, set, append-nil, ◌&&◌, ◌||◌, refl, sym, ◌∙◌, ap, arith, ⊎_elim}
use Rattle.std.specs.Prelude.{replicate, slice_get}
use Rattle.std.specs.List.{count_by, filter_map, find, fold, list_any, range_with_len}
use Rattle.std.proofs.lemmas.List.{length-set, length-replicate, get_or-replicate, get_or-set_other}
use Rattle.std.proofs.lemmas.Grind.{get_or-set_at}
use Rattle.std.proofs.lemmas.List.Sums.{fold-append}
use Rattle.std.proofs.lemmas.List.FromFn.{map-range_with_len_more, fill_by_all, get_or-map-range_with_len, length-map-range_with_len}
use Rattle.std.proofs.lemmas.List.Elements.{filter-append}
use Rattle.std.proofs.lemmas.Bool.{cases_eq, or_cases, or_left, or_right}
use Rattle.mencius_base.specs.Members.{numbers_below, instances}
use Rattle.mencius_base.specs.Limits.{instance_count}

pub length-map-below : {X : Type 0} (f : ℕ → X) (n : ℕ) → length (map f (numbers_below n)) ≡ n
unfolding numbers_below
length-map-below f n = length-map-range_with_len f 0 n

pub get_or-map-below : {X : Type 0} (f : ℕ → X) (n m : ℕ) (d : X) → m < n → get_or (map f (numbers_below n)) m d ≡ f m
unfolding numbers_below
get_or-map-below f n m d h = get_or-map-range_with_len f 0 n m m d h (omega arith)

-- If a list has the value `f m` at each place m, it is the list of the values of f.
pub map-below_by : {X : Type 0} (f : ℕ → X) (xs : List X) (n : ℕ) (d : X) → length xs ≡ n
    → ((m : ℕ) → m < n → get_or xs m d ≡ f m) → xs ≡ map f (numbers_below n)
unfolding numbers_below
map-below_by f xs n d h e = fill_by_all f xs n d h e

pub map-below_same : {X : Type 0} (f g : ℕ → X) (n : ℕ) (d : X) → ((m : ℕ) → m < n → f m ≡ g m)
    → map f (numbers_below n) ≡ map g (numbers_below n)
map-below_same f g n d e =
    map-below_by g (map f (numbers_below n)) n d (length-map-below f n) (λ m h. get_or-map-below f n m d h ∙ e m h)

-- If f and g differ only at m, writing the value of g at place m turns the list of f into the list of g.
pub map-below_set : {X : Type 0} (f g : ℕ → X) (n m : ℕ) (x d : X) → g m ≡ x
    → ((z : ℕ) → z < n → (z ≡ m → ⊥) → f z ≡ g z) → set (map f (numbers_below n)) m x ≡ map g (numbers_below n)
map-below_set f g n m x d here there =
    map-below_by g (set (map f (numbers_below n)) m x) n d (length-set _ _ _ ∙ length-map-below f n)
    (λ z h. ⊎_elim
    (λ (e : z ≡ m). let within : m < length (map f (numbers_below n)) = rw (length-map-below f n) (omega arith) in
    get_or-set_at (map f (numbers_below n)) m z x d e within ∙ sym here ∙ ap g (sym e))
    (λ (ne : z ≡ m → ⊥). get_or-set_other (map f (numbers_below n)) m z x d ne ∙ get_or-map-below f n z d h ∙ there z h ne)
    (cases_eq z m))

-- If f has the same value everywhere, its list repeats that value.
pub map-below_constant : {X : Type 0} (f : ℕ → X) (n : ℕ) (y : X) → ((m : ℕ) → m < n → f m ≡ y)
    → replicate n y ≡ map f (numbers_below n)
map-below_constant f n y e =
    map-below_by f (replicate n y) n y (length-replicate n y) (λ m h. get_or-replicate n m y y h ∙ sym (e m h))

-- The count of a list under a test is the count of the test's results.
counts_alike : (f : ℕ → Bool) (n : ℕ) (xs : List ℕ)
    → fold (λ (m : ℕ) (a : Bool). m + cond a 1 0) n (map f xs) ≡ fold (λ (m : ℕ) (x : ℕ). m + cond (f x) 1 0) n xs
counts_alike f n [] = refl
counts_alike f n (x ∷ xs) = counts_alike f (n + cond (f x) 1 0) xs

pub count_by-map : (f : ℕ → Bool) (xs : List ℕ) → count_by (λ bit. bit) (map f xs) ≡ count_by f xs
count_by-map f xs = counts_alike f 0 xs

pub instances-below : instances ≡ numbers_below instance_count
unfolding instances
instances-below = refl

pub length-map-instances : {X : Type 0} (f : ℕ → X) → length (map f instances) ≡ instance_count
length-map-instances f = rw instances-below (length-map-below f instance_count)

pub get_or-map-instances : {X : Type 0} (f : ℕ → X) (i : ℕ) (d : X) → i < instance_count
    → get_or (map f instances) i d ≡ f i
get_or-map-instances f i d h = rw instances-below (get_or-map-below f instance_count i d h)

pub map-instances_set : {X : Type 0} (f g : ℕ → X) (i : ℕ) (x d : X) → g i ≡ x
    → ((m : ℕ) → m < instance_count → (m ≡ i → ⊥) → f m ≡ g m) → set (map f instances) i x ≡ map g instances
map-instances_set f g i x d here there = rw instances-below (map-below_set f g instance_count i x d here there)

pub below-more : (n : ℕ) → numbers_below (n + 1) ≡ numbers_below n ++ n ∷ []
unfolding numbers_below
below-more n =
    sym (map-same (range_with_len 0 (n + 1))) ∙ map-range_with_len_more (λ (x : ℕ). x) 0 n n (omega arith)
    ∙ ap (λ (xs : List ℕ). xs ++ n ∷ []) (map-same (range_with_len 0 n))
  where
    map-same : (xs : List ℕ) → map (λ (x : ℕ). x) xs ≡ xs
    map-same [] = refl
    map-same (x ∷ xs) = ap (λ (ys : List ℕ). x ∷ ys) (map-same xs)

-- The count below n + 1 is the count below n, plus 1 if n passes the test.
pub count_by-below_more : (test : ℕ → Bool) (n : ℕ)
    → count_by test (numbers_below (n + 1)) ≡ count_by test (numbers_below n) + cond (test n) 1 0
count_by-below_more test n =
    ap (count_by test) (below-more n) ∙ fold-append (λ (m : ℕ) (x : ℕ). m + cond (test x) 1 0) 0 (numbers_below n) (n ∷ [])

-- Numbers that fail the test do not change the count.
pub count_by-below_none : (test : ℕ → Bool) (n m : ℕ) → ((j : ℕ) → n ≤ j → j < n + m → test j ≡ false)
    → count_by test (numbers_below (n + m)) ≡ count_by test (numbers_below n)
count_by-below_none test n zero e = ap (λ (j : ℕ). count_by test (numbers_below j)) (add-zero n)
count_by-below_none test n (suc m) e =
    let next : n + suc m ≡ n + m + 1 = omega arith in
    let past : n ≤ n + m = omega arith in
    ap (λ (j : ℕ). count_by test (numbers_below j)) next ∙ count_by-below_more test (n + m)
    ∙ rw (e (n + m) past (omega arith), add-zero (count_by test (numbers_below (n + m))))
    (count_by-below_none test n m (λ j low high. e j low (omega arith)))

pub count_by-below_zero : (test : ℕ → Bool) → count_by test (numbers_below 0) ≡ 0
unfolding numbers_below
count_by-below_zero test = refl

find-range : (test : ℕ → Bool) (a n i : ℕ) → a ≤ i → i < a + n → ((j : ℕ) → a ≤ j → j < i → test j ≡ false)
    → test i ≡ true → find test (range_with_len a n) ≡ Some i
find-range test a zero i low high before here = absurd (omega arith)
find-range test a (suc n) i low high before here =
    ⊎_elim
    (λ (e : a ≡ i). rw (e, here))
    (λ (ne : a ≡ i → ⊥).
    let above : a + 1 ≤ i = omega arith in
    let missed : test a ≡ false = before a (omega arith) (omega arith) in
    rw missed (find-range test (a + 1) n i above (omega arith) (λ j l h. before j (omega arith) h) here))
    (cases_eq a i)

find-range_none : (test : ℕ → Bool) (a n : ℕ) → ((j : ℕ) → a ≤ j → j < a + n → test j ≡ false)
    → find test (range_with_len a n) ≡ None
find-range_none test a zero none = refl
find-range_none test a (suc n) none =
    let missed : test a ≡ false = none a (omega arith) (omega arith) in
    rw missed (find-range_none test (a + 1) n (λ j l h. none j (omega arith) (omega arith)))

find-range_same : (f g : ℕ → Bool) (a n : ℕ) → ((j : ℕ) → j < a + n → f j ≡ g j)
    → find f (range_with_len a n) ≡ find g (range_with_len a n)
find-range_same f g a zero e = refl
find-range_same f g a (suc n) e = rw (e a (omega arith), find-range_same f g (a + 1) n (λ j h. e j (omega arith)))

-- `find` returns the first instance that passes the test.
pub find-instances : (test : ℕ → Bool) (i : ℕ) → i < instance_count → ((j : ℕ) → j < i → test j ≡ false) → test i ≡ true
    → find test instances ≡ Some i
unfolding numbers_below instances
find-instances test i small before here =
    find-range test 0 instance_count i (omega arith) small (λ j l h. before j h) here

pub find-instances_none : (test : ℕ → Bool) → ((j : ℕ) → j < instance_count → test j ≡ false)
    → find test instances ≡ None
unfolding numbers_below instances
find-instances_none test none = find-range_none test 0 instance_count (λ j l h. none j h)

pub find-instances_same : (f g : ℕ → Bool) → ((j : ℕ) → j < instance_count → f j ≡ g j)
    → find f instances ≡ find g instances
unfolding numbers_below instances
find-instances_same f g e = find-range_same f g 0 instance_count e

-- The number that was found passes the test and is below n.
pub record IsFound (test : ℕ → Bool) (n m : ℕ) : Type 0 where
  pub passes : test m ≡ true
  pub small : m < n

found_at : (test : ℕ → Bool) (a n m : ℕ) (d : Bool) → test a ≡ d
    → cond d (Some a) (find test (range_with_len (a + 1) n)) ≡ Some m
    → (find test (range_with_len (a + 1) n) ≡ Some m → IsFound test (a + 1 + n) m) → IsFound test (a + suc n) m
found_at test a n m true here e rest =
    let same : a ≡ m = cc in record { passes = rw (← same) here; small = omega arith }
found_at test a n m false missed e rest =
    let further = rest e in
    record { passes = further.passes; small = let low : m < a + 1 + n = further.small in omega arith }

find-range_found : (test : ℕ → Bool) (a n m : ℕ) → find test (range_with_len a n) ≡ Some m → IsFound test (a + n) m
find-range_found test a zero m e = absurd (cc)
find-range_found test a (suc n) m e = found_at test a n m (test a) refl e (find-range_found test (a + 1) n m)

pub find-instances_found : (test : ℕ → Bool) (m : ℕ) → find test instances ≡ Some m → IsFound test instance_count m
unfolding numbers_below instances
find-instances_found test m e = find-range_found test 0 instance_count m e

-- No number before the number that was found passes the test.
find-range_before : (test : ℕ → Bool) (a n m : ℕ) → find test (range_with_len a n) ≡ Some m → (j : ℕ) → a ≤ j → j < m
    → test j ≡ false
find-range_before test a zero m e j low less = absurd (cc)
find-range_before test a (suc n) m e j low less =
    go (test a) refl e (λ f above. find-range_before test (a + 1) n m f j above less)
  where
    go : (d : Bool) → test a ≡ d → cond d (Some a) (find test (range_with_len (a + 1) n)) ≡ Some m
        → (find test (range_with_len (a + 1) n) ≡ Some m → a + 1 ≤ j → test j ≡ false) → test j ≡ false
    go true here e rest = let same : a ≡ m = cc in absurd (omega (arith, same, low, less))
    go false missed e rest =
        ⊎_elim
        (λ (at : a ≡ j). rw (← at) missed)
        (λ (off : a ≡ j → ⊥). rest e (omega arith))
        (cases_eq a j)

pub find-instances_before : (test : ℕ → Bool) (m : ℕ) → find test instances ≡ Some m → (j : ℕ) → j < m
    → test j ≡ false
unfolding numbers_below instances
find-instances_before test m e j less = find-range_before test 0 instance_count m e j (omega arith) less

-- If no number is found, no number passes the test.
find-range_nothing : (test : ℕ → Bool) (a n : ℕ) → find test (range_with_len a n) ≡ None → (j : ℕ) → a ≤ j
    → j < a + n → test j ≡ false
find-range_nothing test a zero e j low less = absurd (omega arith)
find-range_nothing test a (suc n) e j low less =
    go (test a) refl e (λ f above. find-range_nothing test (a + 1) n f j above (omega arith))
  where
    go : (d : Bool) → test a ≡ d → cond d (Some a) (find test (range_with_len (a + 1) n)) ≡ None
        → (find test (range_with_len (a + 1) n) ≡ None → a + 1 ≤ j → test j ≡ false) → test j ≡ false
    go true here e rest = absurd (cc)
    go false missed e rest =
        ⊎_elim
        (λ (at : a ≡ j). rw (← at) missed)
        (λ (off : a ≡ j → ⊥). rest e (omega arith))
        (cases_eq a j)

pub find-instances_nothing : (test : ℕ → Bool) → find test instances ≡ None → (j : ℕ) → j < instance_count
    → test j ≡ false
unfolding numbers_below instances
find-instances_nothing test e j small = find-range_nothing test 0 instance_count e j (omega arith) small

pub map-instances_same : {X : Type 0} (f g : ℕ → X) (d : X) → ((m : ℕ) → m < instance_count → f m ≡ g m)
    → map f instances ≡ map g instances
map-instances_same f g d e = rw instances-below (map-below_same f g instance_count d e)

-- The first result of f over a range is its result at the lowest number that has one.
slice_get-range : (f : ℕ → Option ℕ) (a n i t : ℕ) → a ≤ i → i < a + n → ((j : ℕ) → a ≤ j → j < i → f j ≡ None)
    → f i ≡ Some t → slice_get (filter_map f (range_with_len a n)) 0 ≡ Some t
slice_get-range f a zero i t low high before here = absurd (omega arith)
slice_get-range f a (suc n) i t low high before here =
    ⊎_elim
    (λ (e : a ≡ i). rw (e, here))
    (λ (ne : a ≡ i → ⊥).
    let above : a + 1 ≤ i = omega arith in
    let missed : f a ≡ None = before a (omega arith) (omega arith) in
    rw missed (slice_get-range f (a + 1) n i t above (omega arith) (λ j l h. before j (omega arith) h) here))
    (cases_eq a i)

slice_get-range_none : (f : ℕ → Option ℕ) (a n : ℕ) → ((j : ℕ) → a ≤ j → j < a + n → f j ≡ None)
    → slice_get (filter_map f (range_with_len a n)) 0 ≡ None
slice_get-range_none f a zero none = refl
slice_get-range_none f a (suc n) none =
    let missed : f a ≡ None = none a (omega arith) (omega arith) in
    rw missed (slice_get-range_none f (a + 1) n (λ j l h. none j (omega arith) (omega arith)))

filter_map-range_same : (f g : ℕ → Option ℕ) (a n : ℕ) → ((j : ℕ) → j < a + n → f j ≡ g j)
    → filter_map f (range_with_len a n) ≡ filter_map g (range_with_len a n)
filter_map-range_same f g a zero e = refl
filter_map-range_same f g a (suc n) e =
    rw (e a (omega arith), filter_map-range_same f g (a + 1) n (λ j h. e j (omega arith)))

pub slice_get-instances : (f : ℕ → Option ℕ) (i t : ℕ) → i < instance_count → ((j : ℕ) → j < i → f j ≡ None)
    → f i ≡ Some t
    → slice_get (filter_map f instances) 0 ≡ Some t
unfolding numbers_below instances
slice_get-instances f i t small before here =
    slice_get-range f 0 instance_count i t (omega arith) small (λ j l h. before j h) here

pub slice_get-instances_none : (f : ℕ → Option ℕ) → ((j : ℕ) → j < instance_count → f j ≡ None)
    → slice_get (filter_map f instances) 0 ≡ None
unfolding numbers_below instances
slice_get-instances_none f none = slice_get-range_none f 0 instance_count (λ j l h. none j h)

pub filter_map-instances_same : (f g : ℕ → Option ℕ) → ((j : ℕ) → j < instance_count → f j ≡ g j)
    → filter_map f instances ≡ filter_map g instances
unfolding numbers_below instances
filter_map-instances_same f g e = filter_map-range_same f g 0 instance_count e

-- `list_any` says whether some number of a range passes the test.
any-range : (test : ℕ → Bool) (a n i : ℕ) → a ≤ i → i < a + n → test i ≡ true
    → list_any test (range_with_len a n) ≡ true
any-range test a zero i low high here = absurd (omega arith)
any-range test a (suc n) i low high here =
    ⊎_elim
    (λ (e : a ≡ i). or_left (test a) _ (rw e here))
    (λ (ne : a ≡ i → ⊥). let above : a + 1 ≤ i = omega arith in
    or_right (test a) _ (any-range test (a + 1) n i above (omega arith) here))
    (cases_eq a i)

any-range_none : (test : ℕ → Bool) (a n : ℕ) → ((j : ℕ) → a ≤ j → j < a + n → test j ≡ false)
    → list_any test (range_with_len a n) ≡ false
any-range_none test a zero none = refl
any-range_none test a (suc n) none =
    let missed : test a ≡ false = none a (omega arith) (omega arith) in
    rw missed (any-range_none test (a + 1) n (λ j l h. none j (omega arith) (omega arith)))

any-range_found : (test : ℕ → Bool) (a n : ℕ) → list_any test (range_with_len a n) ≡ true
    → (j : ℕ) × (j < a + n) × (test j ≡ true)
any-range_found test a zero h = absurd (cc)
any-range_found test a (suc n) h =
    ⊎_elim
    (λ (e : test a ≡ true). (a, omega arith, e))
    (λ (e : list_any test (range_with_len (a + 1) n) ≡ true). let r = any-range_found test (a + 1) n e in
    (r.0, let low : r.0 < a + 1 + n = r.1 in omega arith, r.2))
    (or_cases (test a) (list_any test (range_with_len (a + 1) n)) h)

pub any-instances : (test : ℕ → Bool) (i : ℕ) → i < instance_count → test i ≡ true → list_any test instances ≡ true
unfolding numbers_below instances
any-instances test i small here = any-range test 0 instance_count i (omega arith) small here

pub any-instances_none : (test : ℕ → Bool) → ((j : ℕ) → j < instance_count → test j ≡ false)
    → list_any test instances ≡ false
unfolding numbers_below instances
any-instances_none test none = any-range_none test 0 instance_count (λ j l h. none j h)

pub any-instances_found : (test : ℕ → Bool) → list_any test instances ≡ true
    → (j : ℕ) × (j < instance_count) × (test j ≡ true)
unfolding numbers_below instances
any-instances_found test h = any-range_found test 0 instance_count h

-- ---- filters
pub any-filter : (g f : ℕ → Bool) (xs : List ℕ) → list_any f (filter g xs) ≡ list_any (λ (x : ℕ). g x && f x) xs
any-filter g f [] = refl
any-filter g f (x ∷ xs) = go (g x) (any-filter g f xs) where
  go : (a : Bool) → list_any f (filter g xs) ≡ list_any (λ (y : ℕ). g y && f y) xs
      → list_any f (cond a (x ∷ filter g xs) (filter g xs)) ≡ ((a && f x) || list_any (λ (y : ℕ). g y && f y) xs)
  go true e = ap (λ (d : Bool). f x || d) e
  go false e = e

pub map-filter_same : {X : Type 0} (f f' : ℕ → X) (g g' : ℕ → Bool) → ((j : ℕ) → f j ≡ f' j) → ((j : ℕ) → g j ≡ g' j)
    → (xs : List ℕ) → map f (filter g xs) ≡ map f' (filter g' xs)
map-filter_same f f' g g' e h [] = refl
map-filter_same f f' g g' e h (x ∷ xs) =
    ap (λ (a : Bool). map f (cond a (x ∷ filter g xs) (filter g xs))) (h x)
    ∙ go (g' x) (map-filter_same f f' g g' e h xs)
  where
    go : (a : Bool) → map f (filter g xs) ≡ map f' (filter g' xs)
        → map f (cond a (x ∷ filter g xs) (filter g xs)) ≡ map f' (cond a (x ∷ filter g' xs) (filter g' xs))
    go true r = rw (e x, r)
    go false r = r

map-filter-range_same : {X : Type 0} (f f' : ℕ → X) (g g' : ℕ → Bool) (a n : ℕ) → ((j : ℕ) → j < a + n → f j ≡ f' j)
    → ((j : ℕ) → j < a + n → g j ≡ g' j)
    → map f (filter g (range_with_len a n)) ≡ map f' (filter g' (range_with_len a n))
map-filter-range_same f f' g g' a zero e h = refl
map-filter-range_same f f' g g' a (suc n) e h =
    ap (λ (d : Bool). map f
    (cond d (a ∷ filter g (range_with_len (a + 1) n)) (filter g (range_with_len (a + 1) n)))) (h a (omega arith))
    ∙ go (g' a)
    (map-filter-range_same f f' g g' (a + 1) n (λ j l. e j (omega arith)) (λ j l. h j (omega arith)))
  where
    go : (d : Bool) → map f (filter g (range_with_len (a + 1) n)) ≡ map f' (filter g' (range_with_len (a + 1) n))
        → map f (cond d (a ∷ filter g (range_with_len (a + 1) n)) (filter g (range_with_len (a + 1) n)))
        ≡ map f' (cond d (a ∷ filter g' (range_with_len (a + 1) n)) (filter g' (range_with_len (a + 1) n)))
    go true r = rw (e a (omega arith), r)
    go false r = r

pub map-filter-instances_same : {X : Type 0} (f f' : ℕ → X) (g g' : ℕ → Bool)
    → ((j : ℕ) → j < instance_count → f j ≡ f' j)
    → ((j : ℕ) → j < instance_count → g j ≡ g' j)
    → map f (filter g instances) ≡ map f' (filter g' instances)
unfolding numbers_below instances
map-filter-instances_same f f' g g' e h = map-filter-range_same f f' g g' 0 instance_count e h

pub filter-below_zero : (test : ℕ → Bool) → filter test (numbers_below 0) ≡ []
unfolding numbers_below
filter-below_zero test = refl

pub filter-below_more : (test : ℕ → Bool) (n : ℕ)
    → filter test (numbers_below (n + 1)) ≡ filter test (numbers_below n) ++ cond (test n) (n ∷ []) []
filter-below_more test n = ap (filter test) (below-more n) ∙ filter-append test (numbers_below n) (n ∷ [])

pub filter-below_none : (test : ℕ → Bool) (n m : ℕ) → ((j : ℕ) → n ≤ j → j < n + m → test j ≡ false)
    → filter test (numbers_below (n + m)) ≡ filter test (numbers_below n)
filter-below_none test n zero e = ap (λ (j : ℕ). filter test (numbers_below j)) (add-zero n)
filter-below_none test n (suc m) e =
    let next : n + suc m ≡ n + m + 1 = omega arith in
    let past : n ≤ n + m = omega arith in
    ap (λ (j : ℕ). filter test (numbers_below j)) next ∙ filter-below_more test (n + m)
    ∙ rw (e (n + m) past (omega arith), append-nil) (filter-below_none test n m (λ j low high. e j low (omega arith)))

pub count_by-below_le : (test : ℕ → Bool) (least most : ℕ) → least ≤ most
    → count_by test (numbers_below least) ≤ count_by test (numbers_below most)
count_by-below_le test least zero h = let e : least ≡ 0 = omega arith in rw e (omega arith)
count_by-below_le test least (suc most) h =
    ⊎_elim
    (λ (e : least ≡ suc most). rw e (omega arith))
    (λ (ne : least ≡ suc most → ⊥).
    let next : suc most ≡ most + 1 = omega arith in
    let low : least ≤ most = omega arith in
    rw next (omega (arith, count_by-below_more test most, count_by-below_le test least most low)))
    (cases_eq least (suc most))

filter-range_same : (g g' : ℕ → Bool) (a n : ℕ) → ((j : ℕ) → j < a + n → g j ≡ g' j)
    → filter g (range_with_len a n) ≡ filter g' (range_with_len a n)
filter-range_same g g' a zero h = refl
filter-range_same g g' a (suc n) h = rw (h a (omega arith), filter-range_same g g' (a + 1) n (λ j l. h j (omega arith)))

pub filter-instances_same : (g g' : ℕ → Bool) → ((j : ℕ) → j < instance_count → g j ≡ g' j)
    → filter g instances ≡ filter g' instances
unfolding numbers_below instances
filter-instances_same g g' h = filter-range_same g g' 0 instance_count h

pub any-map : (f : ℕ → Bool) (xs : List ℕ) → list_any f xs ≡ list_any (λ (a : Bool). a) (map f xs)
any-map f [] = refl
any-map f (x ∷ xs) = ap (λ (a : Bool). f x || a) (any-map f xs)
