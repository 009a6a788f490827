-- Reading an input gives the content of its bytes, or a fault that has a cause.
use Rattle.mencius_app.proofs.Words.{IfSome_then, ◌≡◌, ◌≢◌, ◌≤◌, ◌⊎◌, inl, inr, ℕ, Bool, true, false, cond, List, length, Option, Some, None, IfSome, IfErr, Result, Ok, Err, String, Global, string_bytes, refl, ap, sym, subst, ◌∙◌, arith, option_map_or, IsErrAnd, err_from_is_err_and, le-ltb, Data, StreamState, most_bytes, Failure, IoFault, NotJson, BadShape, BadLimit, ReadFailed, WriteFailed, NoMemory, FailsBy, value_or_fault, plan, plan_read, is_plan_within, run_names, is_within_limits, json_of, scenario, scenario_of, is_scenario_within, written_of}
use Rattle.mencius_app.specs.Failures.{ExplainsIn, Explanation, FailsReading}
use Rattle.mencius_app.specs.Input.{HasFault, unless_long}
use Rattle.mencius_app.specs.Tasks.{IsReadingCause}

-- ---- long inputs

-- an input that is not too long gives the result of reading its bytes
pub says_by_bytes : {X : Type 0} (read : List ℕ → Result X IoFault) (bytes : List ℕ) → length bytes ≤ most_bytes
    → unless_long read bytes ≡ read bytes
says_by_bytes read bytes short =
    ap (λ (a : Bool). cond a (Err BadLimit) (read bytes)) (le-ltb most_bytes (length bytes) short)

-- ---- the faults of bad inputs

abbrev pub IsBadInput : IoFault → Type 0
IsBadInput fault = (fault ≡ NotJson) ⊎ (fault ≡ BadShape) ⊎ (fault ≡ BadLimit)

-- the fault of a value is always a bad input
value_fault_bad : {X : Type 0} (fits : X → Bool) (o : Option X) (fault : IoFault) → value_or_fault fits o ≡ Err fault
    → IsBadInput fault
value_fault_bad fits None fault e = inr (inl (cc))
value_fault_bad {X} fits (Some x) fault e = by_test (fits x) e where
  by_test : (a : Bool) → cond a (Ok x) (Err BadLimit) ≡ Err fault → IsBadInput fault
  by_test true e = absurd (cc)
  by_test false e = inr (inr (cc))

json_bad : {X : Type 0} (fits : X → Bool) (of : Data → Option X) (o : Option Data) (fault : IoFault)
    → option_map_or (λ d. value_or_fault fits (of d)) o (Err NotJson) ≡ Err fault → IsBadInput fault
json_bad fits of None fault e = inl (cc)
json_bad fits of (Some d) fault e = value_fault_bad fits (of d) fault e

pub scenario_bad : (bytes : List ℕ) (fault : IoFault) → scenario bytes ≡ Err fault → IsBadInput fault
scenario_bad bytes fault e = json_bad is_within_limits written_of (json_of bytes) fault e

pub plan_bad : (bytes : List ℕ) (fault : IoFault) → plan bytes ≡ Err fault → IsBadInput fault
plan_bad bytes fault e = json_bad (is_scenario_within is_plan_within) (scenario_of run_names plan_read) (json_of bytes) fault e

-- a bad input is not a failed reader, a failed writer or a lack of memory
pub no_other : (fault : IoFault) → IsBadInput fault → (fault ≢ ReadFailed) × (fault ≢ WriteFailed) × (fault ≢ NoMemory)
no_other fault (inl h) = (λ e. absurd (cc), λ e. absurd (cc), λ e. absurd (cc))
no_other fault (inr (inl h)) = (λ e. absurd (cc), λ e. absurd (cc), λ e. absurd (cc))
no_other fault (inr (inr h)) = (λ e. absurd (cc), λ e. absurd (cc), λ e. absurd (cc))

-- ---- reading

-- a property of an error holds for each result that passes the error on
pub at_err : {T E : Type 0} (r : Result T E) (error : E) (P : E → Type 0) → IsErrAnd r (λ e. e ≡ error) → P error
    → IfErr r P
at_err r error P is h = let failed = err_from_is_err_and r is in rw (failed.1, failed.2) h

-- a lack of memory is always a cause
pub own_cause : {F : Option (List ℕ) → IoFault → Type 0} {old new : StreamState} {fault : IoFault} → fault ≡ NoMemory
    → IsReadingCause F old new fault
own_cause {F} {old} {new} {fault} memory = record {
  bad_input = λ bad. absurd ((no_other fault bad).2 memory);
  read_failed = λ e. let same = sym memory ∙ e in absurd (cc);
  no_writer = λ e. let same = sym memory ∙ e in absurd (cc);
}

-- a fault that the input has is a cause
pub input_cause : {F : Option (List ℕ) → IoFault → Type 0} {old new : StreamState} {fault : IoFault}
    → IsBadInput fault → F old.bytes fault → IsReadingCause F old new fault
input_cause {F} {old} {new} {fault} bad has = record {
  bad_input = λ _. has;
  read_failed = λ e. absurd ((no_other fault bad).0 e);
  no_writer = (no_other fault bad).1;
}

pub if_none : {T : Type 0} (P : T → Type 0) (o : Option T) → o ≡ None → IfSome o P
if_none P None e = tt
if_none P (Some x) e = absurd (cc)

pub own_failure : {F : Option (List ℕ) → IoFault → Type 0} {Tells : Explanation} {old new : StreamState}
    (failure : Failure) → (failure.fault ≡ NoMemory) × (failure.words ≡ None) → FailsReading F Tells old new failure
own_failure {F} {Tells} {old} {new} failure own = record {
  cause = own_cause own.0;
  words = if_none (λ words. ExplainsIn Tells old.bytes failure.fault (string_bytes words)) failure.words own.1;
}

-- a result that passes on a lack of memory has a failure with a cause
pub own_result : {T : Type 0} (F : Option (List ℕ) → IoFault → Type 0) (Tells : Explanation) (old new : StreamState)
    (r : Result T Failure) → IsErrAnd r (λ failure. (failure.fault ≡ NoMemory) × (failure.words ≡ None))
    → IfErr r (FailsReading F Tells old new)
own_result F Tells old new (Ok x) own = tt
own_result F Tells old new (Err failure) own = own_failure failure own

-- ---- all bytes were read

pub failing : {Y : Type 0} (fault : IoFault) (answer : Result Y IoFault) → FailsBy fault answer
    → (fault ≡ NoMemory) ⊎ (answer ≡ Err fault)
failing NoMemory answer h = inl refl
failing _ answer h = inr h

pub known_words : (Tells : Explanation) (known : Option (List ℕ)) (text : List ℕ) (fault : IoFault) (words : Option (String Global))
    → IfSome known (λ all. all ≡ text) → IfSome words (λ said. Tells fault text (string_bytes said))
    → IfSome words (λ said. ExplainsIn Tells known fault (string_bytes said))
known_words Tells known text fault words same h = IfSome_then words h (λ said told.
    IfSome_then known same (λ all is. inl (subst (λ bytes. Tells fault bytes (string_bytes said)) (sym is) told)))

-- a slice with the length of a vector has the same limit
pub short : (length_of most : ℕ) {n : ℕ} → n ≡ length_of → length_of ≤ most → n ≤ most
short length_of most same few = omega (arith, same, few)

-- all bytes of the reader were read, and reading them as a scenario has only the faults of bad inputs
module _ {Y : Type 0} (read : List ℕ → Result Y IoFault)
    (bad : (bytes : List ℕ) (fault : IoFault) → read bytes ≡ Err fault → IsBadInput fault)
    (old : StreamState) (bytes text : List ℕ) (whole : IfSome old.bytes (λ all. bytes ≡ all))
    (fits : length text ≤ most_bytes) (is : text ≡ bytes) where
  misread_cause : (new : StreamState) (fault : IoFault) → (fault ≡ NoMemory) ⊎ (read text ≡ Err fault)
      → IsReadingCause (HasFault (unless_long read)) old new fault
  misread_cause new fault (inl memory) = own_cause memory
  misread_cause new fault (inr e) =
      input_cause (bad text fault e) (IfSome_then old.bytes whole
      (λ all same. subst (λ input. unless_long read input ≡ Err fault) (is ∙ same) (says_by_bytes read text fits ∙ e)))

  pub misread : (Tells : Explanation) (new : StreamState) (failure : Failure)
      → (failure.fault ≡ NoMemory) ⊎ (read text ≡ Err failure.fault)
      → IfSome failure.words (λ words. Tells failure.fault text (string_bytes words))
      → FailsReading (HasFault (unless_long read)) Tells old new failure
  misread Tells new failure fails words = record {
    cause = misread_cause new failure.fault fails;
    words = known_words Tells old.bytes text failure.fault failure.words
        (IfSome_then old.bytes whole (λ all same. sym (is ∙ same))) words;
  }
