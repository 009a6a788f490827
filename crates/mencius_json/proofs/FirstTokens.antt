-- The first token of a value determines its kind.
use Rattle.std.proofs.Common.{◌≡◌, ℕ, zero, suc, arith, ◌<◌, ◌-◌, List, ◌∷◌, Bool, true, false, Option, Some, None, option_and_then, option_map, refl, sym, ap, ◌∙◌}
use Rattle.std.specs.Prelude.{unwrap_or}
use Rattle.json.specs.Token.{Token}
use Rattle.json.specs.Json.{parse_map}
use Rattle.json.proofs.Grammar.{value_is}
use Rattle.serde_json.specs.Data.{Data, Num, Items, Members, array, boolean, null, number, object, string}
use Rattle.serde_json.specs.Find.{as_array, as_number, as_object, as_str, as_u64}
use Rattle.serde_json.specs.Read.{converted, number_of, of_json}
use Rattle.mencius_json.specs.Next.{EntersObject, next_items, next_members, next_value, number_text, is_begin_array, is_begin_object, text_of}
use Rattle.mencius_json.proofs.NextValues.{array_too_deep, object_too_deep, next_counted, next_number, next_string, next_uncounted, opened_array, opened_object, paired_with}

-- the value is of the kind that the token begins
abbrev pub Begins : Token → Data → Type 0
Begins Token.begin_object d = (ms : Members) × (d ≡ object ms)
Begins Token.begin_array d = (ds : Items) × (d ≡ array ds)
Begins (Token.string s) d = d ≡ string s
Begins (Token.number s) d = (n : Num) × (d ≡ number n)
Begins (Token.boolean truth) d = d ≡ boolean truth
Begins Token.null d = d ≡ null
Begins symbol d = ⊥

module _ (d : Data) (r : List Token) where
  abbrev value_or : Option (Data × List Token) → Data
  value_or None = d
  value_or (Some pair) = pair.0

  made : {X : Type 0} (make : X → Data) (o : Option (X × List Token)) → parse_map make o ≡ Some (d, r)
      → (x : X) × (d ≡ make x)
  made make None e = absurd (cc)
  made make (Some pair) e = (pair.0, ap value_or (sym e))

  same : (e : Data) (ts : List Token) (o : Option (Data × List Token)) → o ≡ Some (d, r) → o ≡ paired_with ts (Some e)
      → d ≡ e
  same e ts o h is = ap value_or (sym h ∙ is)

  numbered : (ts : List Token) (o : Option Num) → paired_with ts (option_map number o) ≡ Some (d, r)
      → (n : Num) × (d ≡ number n)
  numbered ts None e = absurd (cc)
  numbered ts (Some n) e = (n, ap value_or (sym e))

  never : {X : Type 0} (o : Option (Data × List Token)) → o ≡ Some (d, r) → o ≡ None → X
  never o e none = let h : ◌≡◌ {A = Option (Data × List Token)} None (Some (d, r)) = sym none ∙ e in absurd (cc)

  begins_object : (depth : ℕ) (ts : List Token) → next_value depth (Token.begin_object ∷ ts) ≡ Some (d, r)
      → (ms : Members) × (d ≡ object ms)
  begins_object zero ts e = never _ e (object_too_deep zero ts refl)
  begins_object (suc n) ts e =
      let some : 0 < suc n = omega arith in
      made object (next_members (suc n - 1) ts) (sym (opened_object (suc n) ts some) ∙ e)

  begins_array : (depth : ℕ) (ts : List Token) → next_value depth (Token.begin_array ∷ ts) ≡ Some (d, r)
      → (ds : Items) × (d ≡ array ds)
  begins_array zero ts e = never _ e (array_too_deep zero ts refl)
  begins_array (suc n) ts e =
      let some : 0 < suc n = omega arith in
      made array (next_items (suc n - 1) ts) (sym (opened_array (suc n) ts some) ∙ e)

  pub begins : (depth : ℕ) (y : Token) (ts : List Token) → next_value depth (y ∷ ts) ≡ Some (d, r) → Begins y d
  begins depth Token.begin_object ts e = begins_object depth ts e
  begins depth Token.begin_array ts e = begins_array depth ts e
  begins depth (Token.string s) ts e =
      same (string s) ts _ e (ap (converted of_json) (value_is depth (Token.string s ∷ ts)))
  begins depth (Token.number s) ts e = numbered ts (number_of s) (sym (next_number depth s ts) ∙ e)
  begins depth (Token.boolean truth) ts e =
      same (boolean truth) ts _ e (ap (converted of_json) (value_is depth (Token.boolean truth ∷ ts)))
  begins depth Token.null ts e =
      same null ts _ e (ap (converted of_json) (value_is depth (Token.null ∷ ts)))
  begins depth y ts e = never _ e (ap (converted of_json) (value_is depth (y ∷ ts)))

pub no_text : (d : Data) (x : Token) → Begins x d → text_of x ≡ None → as_str d ≡ None
no_text d Token.begin_object h e = ap as_str h.1
no_text d Token.begin_array h e = ap as_str h.1
no_text d (Token.string s) h e = absurd (cc)
no_text d (Token.number s) h e = ap as_str h.1
no_text d (Token.boolean truth) h e = ap as_str h
no_text d Token.null h e = ap as_str h
no_text d x h e = absurd h

pub no_number : (d : Data) (x : Token) → Begins x d → number_text x ≡ None → as_number d ≡ None
no_number d Token.begin_object h e = ap as_number h.1
no_number d Token.begin_array h e = ap as_number h.1
no_number d (Token.string s) h e = ap as_number h
no_number d (Token.number s) h e = absurd (cc)
no_number d (Token.boolean truth) h e = ap as_number h
no_number d Token.null h e = ap as_number h
no_number d x h e = absurd h

pub no_array : (d : Data) (x : Token) → Begins x d → is_begin_array x ≡ false → as_array d ≡ None
no_array d Token.begin_object h e = ap as_array h.1
no_array d Token.begin_array h e = absurd (cc)
no_array d (Token.string s) h e = ap as_array h
no_array d (Token.number s) h e = ap as_array h.1
no_array d (Token.boolean truth) h e = ap as_array h
no_array d Token.null h e = ap as_array h
no_array d x h e = absurd h

pub no_object : (d : Data) (x : Token) → Begins x d → is_begin_object x ≡ false → as_object d ≡ None
no_object d Token.begin_object h e = absurd (cc)
no_object d Token.begin_array h e = ap as_object h.1
no_object d (Token.string s) h e = ap as_object h
no_object d (Token.number s) h e = ap as_object h.1
no_object d (Token.boolean truth) h e = ap as_object h
no_object d Token.null h e = ap as_object h
no_object d x h e = absurd h

-- a token that has this text is a string token
pub was_text : (x : Token) (s : List ℕ) → Some s ≡ text_of x → x ≡ Token.string s
was_text (Token.string text) s e = ap (λ o. Token.string (unwrap_or o s)) (sym e)
was_text x s e = absurd (cc)

pub was_number : (x : Token) (s : List ℕ) → Some s ≡ number_text x → x ≡ Token.number s
was_number (Token.number digits) s e = ap (λ o. Token.number (unwrap_or o s)) (sym e)
was_number x s e = absurd (cc)

pub was_array : (x : Token) → is_begin_array x ≡ true → x ≡ Token.begin_array
was_array Token.begin_array e = refl
was_array x e = absurd (cc)

pub was_object : (x : Token) → is_begin_object x ≡ true → x ≡ Token.begin_object
was_object Token.begin_object e = refl
was_object x e = absurd (cc)

-- ---- the next value, by its first token

module _ (depth : ℕ) (x : Token) (ts old : List Token) (is : old ≡ x ∷ ts) where
  pub text_first : (s : List ℕ) → Some s ≡ text_of x → next_value depth old ≡ Some (string s, ts)
  text_first s e =
      ap (next_value depth) (is ∙ ap (λ token. token ∷ ts) (was_text x s e)) ∙ next_string depth s ts

  pub whole_first : (s : List ℕ) (whole : Option ℕ) → Some s ≡ number_text x
      → Some whole ≡ option_map as_u64 (number_of s)
      → (d : Data) × (next_value depth old ≡ Some (d, ts)) × (whole ≡ option_and_then as_u64 (as_number d))
  whole_first s whole e same =
      let n = next_counted depth s ts whole same in
      (number n.0, ap (next_value depth) (is ∙ ap (λ token. token ∷ ts) (was_number x s e)) ∙ n.1, n.2)

  pub no_whole_first : (s : List ℕ) → Some s ≡ number_text x → None ≡ option_map as_u64 (number_of s)
      → next_value depth old ≡ None
  no_whole_first s e same =
      ap (next_value depth) (is ∙ ap (λ token. token ∷ ts) (was_number x s e)) ∙ next_uncounted depth s ts same

  -- a value that was passed is not of a kind that its first token excludes
  module _ (d : Data) (r : List Token) (next : next_value depth (x ∷ ts) ≡ Some (d, r)) where
    pub passed_first : next_value depth old ≡ Some (d, r)
    passed_first = ap (next_value depth) is ∙ next

    pub passed_no_text : None ≡ text_of x → as_str d ≡ None
    passed_no_text e = no_text d x (begins d r depth x ts next) (sym e)

    pub passed_no_number : None ≡ number_text x → None ≡ option_and_then as_u64 (as_number d)
    passed_no_number e = sym (ap (option_and_then as_u64) (no_number d x (begins d r depth x ts next) (sym e)))

    pub passed_no_array : is_begin_array x ≡ false → as_array d ≡ None
    passed_no_array e = no_array d x (begins d r depth x ts next) e

    pub passed_no_object : is_begin_object x ≡ false → as_object d ≡ None
    passed_no_object e = no_object d x (begins d r depth x ts next) e

  pub array_first : 0 < depth → is_begin_array x ≡ true
      → next_value depth old ≡ parse_map array (next_items (depth - 1) ts)
  array_first some e =
      ap (next_value depth) (is ∙ ap (λ token. token ∷ ts) (was_array x e)) ∙ opened_array depth ts some

  pub object_first : 0 < depth → is_begin_object x ≡ true
      → next_value depth old ≡ parse_map object (next_members (depth - 1) ts)
  object_first some e =
      ap (next_value depth) (is ∙ ap (λ token. token ∷ ts) (was_object x e)) ∙ opened_object depth ts some

-- after an object was entered, reading its fields completes the value
pub entered : (depth : ℕ) (old new : List Token) (is_object : Bool) → EntersObject depth old new is_object
    → is_object ≡ true → next_value depth old ≡ parse_map object (next_members (depth - 1) new)
entered depth old new true h e = h
entered depth old new false h e = absurd (cc)

-- if no object was entered, the value that was passed is not an object
pub not_entered : (depth : ℕ) (old new : List Token) (is_object : Bool) → EntersObject depth old new is_object
    → is_object ≡ false → (d : Data) × (next_value depth old ≡ Some (d, new)) × (as_object d ≡ None)
not_entered depth old new true h e = absurd (cc)
not_entered depth old new false h e = h
