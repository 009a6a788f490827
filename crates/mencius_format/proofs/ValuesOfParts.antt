-- Checking the parts of a value for shape and limits gives the same result as checking the whole.
use Rattle.std.proofs.Common.{◌≡◌, ◌&&◌, Bool, true, false, cond, Option, Some, None, option_map, Result, Ok, Err, refl, ap, sym, ◌∙◌}
use Rattle.std.specs.Option.{option_zip}
use Rattle.std.specs.Result.{IsErrAnd}
use Rattle.std.proofs.lemmas.Result.{err_from_is_err_and}
use Rattle.mencius_io.specs.declared.fault.IoFault.{IoFault}
use Rattle.mencius_io.specs.declared.fault.IoFault.TheVariants.{NotJson, BadShape, BadLimit, ReadFailed, WriteFailed, NoMemory}
use Rattle.mencius_format.specs.ValuesOrFaults.{value_or_fault, both_or_fault, map_ok, FailsBy, Gives}

pub zip_none : {X Y : Type 0} (o : Option X) → option_zip {T = X} {U = Y} o None ≡ None
zip_none None = refl
zip_none (Some x) = refl

pub either_way : {X : Type 0} (a : Bool) (x : X) → cond a x x ≡ x
either_way true x = refl
either_way false x = refl

-- checking two values and then pairing them is the same as checking the pair
pub both_values : {X Y : Type 0} (f : X → Bool) (g : Y → Bool) (o : Option X) (s : Option Y)
    → both_or_fault (value_or_fault f o) (value_or_fault g s) ≡ value_or_fault (λ z. f z.0 && g z.1) (option_zip o s)
both_values f g None None = refl
both_values f g None (Some y) = refl
both_values {X} {Y} f g (Some x) None = by_test (f x)
  where
    by_test : (a : Bool)
        → ◌≡◌ {A = Result (X × Y) IoFault} (both_or_fault (cond a (Ok x) (Err BadLimit)) (Err BadShape)) (Err BadShape)
    by_test true = refl
    by_test false = refl
both_values {X} {Y} f g (Some x) (Some y) = by_tests (f x) (g y)
  where
    by_tests : (a d : Bool)
        → ◌≡◌ {A = Result (X × Y) IoFault}
        (both_or_fault (cond a (Ok x) (Err BadLimit)) (cond d (Ok y) (Err BadLimit)))
        (cond (a && d) (Ok (x, y)) (Err BadLimit))
    by_tests true true = refl
    by_tests true false = refl
    by_tests false true = refl
    by_tests false false = refl

-- checking a value and then building from it is the same as building first and then checking
pub map_ok_value : {X Y : Type 0} (make : X → Y) (f : X → Bool) (g : Y → Bool) → ((x : X) → g (make x) ≡ f x)
    → (o : Option X) → map_ok make (value_or_fault f o) ≡ value_or_fault g (option_map make o)
map_ok_value make f g same None = refl
map_ok_value {X} {Y} make f g same (Some x) = rw (same x) (by_test (f x))
  where
    by_test : (a : Bool)
        → ◌≡◌ {A = Result Y IoFault} (map_ok make (cond a (Ok x) (Err BadLimit))) (cond a (Ok (make x)) (Err BadLimit))
    by_test true = refl
    by_test false = refl

-- ---- results that may be out of memory

pub fails : {X : Type 0} (fault : IoFault) (answer : Result X IoFault) → answer ≡ Err fault → FailsBy fault answer
fails NoMemory answer e = tt
fails NotJson answer e = e
fails BadShape answer e = e
fails BadLimit answer e = e
fails ReadFailed answer e = e
fails WriteFailed answer e = e

pub given : {X : Type 0} (result answer : Result X IoFault) → result ≡ answer → Gives result answer
given (Ok x) answer e = sym e
given (Err fault) answer e = fails fault answer (sym e)

-- if a step passes a fault on, the result after the step has the same fault
pub fails_on : {X Y : Type 0} (step : Result X IoFault
    → Result Y IoFault) (fault : IoFault) (answer : Result X IoFault) → step (Err fault) ≡ Err fault
    → FailsBy fault answer → FailsBy fault (step answer)
fails_on step NoMemory answer on e = tt
fails_on step NotJson answer on e = ap step e ∙ on
fails_on step BadShape answer on e = ap step e ∙ on
fails_on step BadLimit answer on e = ap step e ∙ on
fails_on step ReadFailed answer on e = ap step e ∙ on
fails_on step WriteFailed answer on e = ap step e ∙ on

map_ok_given : {X Y : Type 0} (make : X → Y) (result answer : Result X IoFault) → Gives result answer
    → Gives (map_ok make result) (map_ok make answer)
map_ok_given make (Ok x) answer h = ap (map_ok make) h
map_ok_given make (Err fault) answer h = fails_on (map_ok make) fault answer refl h

both_or_fault_given : {X Y : Type 0} (r a : Result X IoFault) (s answer : Result Y IoFault) → Gives r a
    → Gives s answer → Gives (both_or_fault r s) (both_or_fault a answer)
both_or_fault_given (Ok x) a (Ok y) answer h given = rw (h, given) refl
both_or_fault_given (Ok x) a (Err fault) answer h given = rw h (fails_on (both_or_fault (Ok x)) fault answer refl given)
both_or_fault_given (Err BadLimit) a (Ok y) answer h given = rw (h, given) refl
both_or_fault_given (Err BadLimit) a (Err fault) answer h given =
    rw h (fails_on (both_or_fault (Err BadLimit)) fault answer refl given)
both_or_fault_given (Err NoMemory) a s answer h given = tt
both_or_fault_given (Err NotJson) a s answer h given = rw h refl
both_or_fault_given (Err BadShape) a s answer h given = rw h refl
both_or_fault_given (Err ReadFailed) a s answer h given = rw h refl
both_or_fault_given (Err WriteFailed) a s answer h given = rw h refl

-- if a result is as expected (`Gives`), the value that is built from it is as expected too
pub made_given : {X Y : Type 0} (make : X → Y) (f : X → Bool) (g : Y → Bool) → ((x : X) → g (make x) ≡ f x)
    → (o : Option X) (result : Result X IoFault) → Gives result (value_or_fault f o)
    → Gives (map_ok make result) (value_or_fault g (option_map make o))
made_given make f g same o result h =
    rw (← map_ok_value make f g same o) (map_ok_given make result (value_or_fault f o) h)

pub pair_given : {X Y : Type 0} (f : X → Bool) (g : Y
    → Bool) (o : Option X) (s : Option Y) (r : Result X IoFault) (answer : Result Y IoFault)
    (result : Result (X × Y) IoFault) → result ≡ both_or_fault r answer → Gives r (value_or_fault f o)
    → Gives answer (value_or_fault g s) → Gives result (value_or_fault (λ z. f z.0 && g z.1) (option_zip o s))
pair_given f g o s r answer result is h given =
    rw (is, ← both_values f g o s) (both_or_fault_given r (value_or_fault f o) answer (value_or_fault g s) h given)

pub both_given : {X Y Z : Type 0} (make : X × Y → Z) (f : X → Bool) (g : Y → Bool) (ok : Z → Bool)
    → ((z : X × Y) → ok (make z) ≡ (f z.0 && g z.1))
    → (o : Option X) (s : Option Y) (r : Result X IoFault) (answer : Result Y IoFault)
    (result : Result (X × Y) IoFault) → result ≡ both_or_fault r answer → Gives r (value_or_fault f o)
    → Gives answer (value_or_fault g s)
    → Gives (map_ok make result) (value_or_fault ok (option_map make (option_zip o s)))
both_given make f g ok same o s r answer result is h given =
    made_given make (λ z. f z.0 && g z.1) ok same (option_zip o s) result
    (pair_given f g o s r answer result is h given)

-- ---- early returns by `?`

pub passed_on : {X : Type 0} (result answer : Result X IoFault) (fault : IoFault)
    → IsErrAnd result (λ e. e ≡ fault) → FailsBy fault answer → Gives result answer
passed_on result answer fault h failing =
    let refused = err_from_is_err_and result h in rw (refused.1, refused.2) failing

pub passed_on_as : {X : Type 0} (result answer : Result X IoFault) (fault : IoFault)
    → IsErrAnd result (λ e. e ≡ fault) → answer ≡ Err fault → result ≡ answer
passed_on_as result answer fault h failed =
    let failing = err_from_is_err_and result h in rw (failing.1, failing.2) (sym failed)

-- without a value, the expected result is the fault BadShape
pub shapeless : {X : Type 0} (within : X → Bool) (o : Option X) (fault : IoFault) → fault ≡ BadShape → o ≡ None
    → FailsBy fault (value_or_fault within o)
shapeless within o fault is none = rw (is, none) refl

-- if a check returns a value, the value exists and is within the limits
pub value_is_ok : {X : Type 0} (f : X → Bool) (o : Option X) (x : X) → value_or_fault f o ≡ Ok x
    → (o ≡ Some x) × (f x ≡ true)
value_is_ok f None x e = absurd (cc)
value_is_ok {X} f (Some y) x e = by_test (f y) refl e
  where
    by_test : (a : Bool) → f y ≡ a → ◌≡◌ {A = Result X IoFault} (cond a (Ok y) (Err BadLimit)) (Ok x)
        → (◌≡◌ {A = Option X} (Some y) (Some x)) × (f x ≡ true)
    by_test true is e = let same : y ≡ x = cc in (ap Some same, ap f (sym same) ∙ is)
    by_test false is e = absurd (cc)
