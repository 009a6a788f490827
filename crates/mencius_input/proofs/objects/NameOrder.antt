-- Reading an object one field at a time gives the names of its fields in the order of the text.
use Rattle.std.proofs.Common.{◌≡◌, ◌∙◌, ℕ, zero, suc, List, [], ◌∷◌, length, Bool, true, false, Option, Some, None, option_map, refl, sym, ap, arith}
use Rattle.std.specs.Prelude.{MatchOption, is_some, option_and_then}
use Rattle.std.specs.Option.{option_or}
use Rattle.json.specs.Token.{Token}
use Rattle.json.specs.Lex.{tokens}
use Rattle.json.specs.Json as json
use Rattle.json.specs.Json.{Json, Parse, items, members, members_step, parse_map, read_key, value}
use Rattle.json.specs.Reads.{token_of}
use Rattle.json.specs.declared.token.Token as code
use Rattle.json.proofs.Grammar.{members_no_key, value_is, value-begin_array, value-begin_object}
use Rattle.serde_json.specs.Data.{Data, Items, Members, Num, no_members, put}
use Rattle.serde_json.specs.Find.{as_object}
use Rattle.serde_json.specs.Read.{converted, number_of, of_items, of_json, of_members, read}
use Rattle.mencius_json.specs.Next.{next_value}
use Rattle.mencius_io.specs.declared.fault.IoFault.{IoFault}
use Rattle.mencius_input.specs.declared.kind.Kind.{Kind}
use Rattle.mencius_input.specs.Places.{field_place, first_in, names_in, names_of, names_read}

-- ---- one name

abbrev tokens_behind : {X : Type 0} → Option (X × List Token) → List Token
tokens_behind None = []
tokens_behind (Some q) = q.1

abbrev members_there : Option (json.Members × List Token) → json.Members
members_there None = json.no_members
members_there (Some q) = q.0

after_last : (p : Parse Json) (n : ℕ) (ts behind rest : List Token) (ms : json.Members) → read_key ts ≡ Some (None, behind)
    → members p n ts ≡ Some (ms, rest) → ms ≡ json.no_members
unfolding members
after_last p zero ts behind rest ms key is = absurd cc
after_last p (suc n) ts behind rest ms key is =
    ap members_there (sym is ∙ ap (option_and_then (λ q. members_step p (members p n) q.0 q.1)) key)

-- a field was read. `one` is its value, and `others` are the fields after it
record IsRead (p : Parse Json) (name : List ℕ) (behind rest : List Token) (ms : json.Members) : Type 0 where
  one : Json
  after : List Token
  turns : ℕ
  others : json.Members
  here : p behind ≡ Some (one, after)
  further : members p turns after ≡ Some (others, rest)
  same : ms ≡ json.member name one others

module _ (p : Parse Json) (name : List ℕ) (behind rest : List Token) (ms : json.Members) (n : ℕ) where
  by_others : (one : Json) (after : List Token) → p behind ≡ Some (one, after)
      → (o : Option (json.Members × List Token)) → members p n after ≡ o
      → parse_map (json.member name one) o ≡ Some (ms, rest) → IsRead p name behind rest ms
  by_others one after here None further is = absurd cc
  by_others one after here (Some (others, left)) further is =
      let ended : left ≡ rest = ap tokens_behind is in
      record {
        one = one;
        after = after;
        turns = n;
        others = others;
        here = here;
        further = further ∙ ap (λ ts. Some (others, ts)) ended;
        same = sym (ap members_there is);
      }

  by_value : (o : Option (Json × List Token)) → p behind ≡ o
      → option_and_then (λ q. parse_map (json.member name q.0) (members p n q.1)) o ≡ Some (ms, rest)
      → IsRead p name behind rest ms
  by_value None here is = absurd cc
  by_value (Some (one, after)) here is = by_others one after here (members p n after) refl is

member_read : (p : Parse Json) (n : ℕ) (name : List ℕ) (ts behind rest : List Token) (ms : json.Members)
    → read_key ts ≡ Some (Some name, behind) → members p n ts ≡ Some (ms, rest) → IsRead p name behind rest ms
unfolding members
member_read p zero name ts behind rest ms key is = absurd cc
member_read p (suc n) name ts behind rest ms key is =
    by_value p name behind rest ms n (p behind) refl
    (sym (ap (option_and_then (λ q. members_step p (members p n) q.0 q.1)) key) ∙ is)

-- ---- the remaining names

-- the tokens `left` begin with fields that have these names, each with its value
pub record AreAhead (names : List (List ℕ)) (left : List Token) : Type 0 where
  pub ms : json.Members
  pub turns : ℕ
  pub rest : List Token
  pub is : members (value 126) turns left ≡ Some (ms, rest)
  pub found : Members
  pub all : Members
  pub good : of_members ms found ≡ Some all
  pub same : names ≡ names_of ms

-- the names begin with `name`. The tokens after its value begin with fields that have the other names
pub record AreBehind (names : List (List ℕ)) (name : List ℕ) (behind : List Token) : Type 0 where
  pub others : List (List ℕ)
  pub same : names ≡ name ∷ others
  pub there : next_value 126 behind ≡ None → ⊥
  pub ahead : (d : Data) (after : List Token) → next_value 126 behind ≡ Some (d, after) → AreAhead others after

module _ (names : List (List ℕ)) (left : List Token) (h : AreAhead names left) where
  pub names_read_on : read_key left ≡ None → ⊥
  names_read_on none = let both = sym (members_no_key (value 126) h.turns left none) ∙ h.is in absurd cc

  pub names_over : (behind : List Token) → read_key left ≡ Some (None, behind) → names ≡ []
  names_over behind key = h.same ∙ ap names_of (after_last (value 126) h.turns left behind h.rest h.ms key h.is)

  pub names_further : (name : List ℕ) (behind : List Token) → read_key left ≡ Some (Some name, behind)
      → AreBehind names name behind
  names_further name behind key =
      let r = member_read (value 126) h.turns name left behind h.rest h.ms key h.is in
      by_data r (of_json r.one) refl (sym (ap (λ ms. of_members ms h.found) r.same) ∙ h.good)
    where
      by_data : (r : IsRead (value 126) name behind h.rest h.ms) (o : Option Data) → of_json r.one ≡ o
          → option_and_then (λ d. of_members r.others (put name d h.found)) o ≡ Some h.all → AreBehind names name behind
      by_data r None made is = absurd cc
      by_data r (Some d) made is =
          let next : next_value 126 behind ≡ Some (d, r.after) =
          ap (converted of_json) r.here ∙ ap (option_map (λ b. (b, r.after))) made in
          record {
            others = names_of r.others;
            same = h.same ∙ ap names_of r.same;
            there = λ none. let both = sym next ∙ none in absurd cc;
            ahead = λ e after found.
                let ended : r.after ≡ after = ap tokens_behind (sym next ∙ found) in
                record {
                  ms = r.others;
                  turns = r.turns;
                  rest = h.rest;
                  is = ap (members (value 126) r.turns) (sym ended) ∙ r.further;
                  found = put name d h.found;
                  all = h.all;
                  good = is;
                  same = refl;
                };
          }

-- ---- the names of a text

-- a parsed value is an object, and all its fields can be converted
record IsObject (j : Json) : Type 0 where
  ms : json.Members
  all : Members
  good : of_members ms no_members ≡ Some all
  same : j ≡ json.object ms

-- whether a converted value is an object
abbrev is_object : Option Data → Bool
is_object None = false
is_object (Some d) = is_some (as_object d)

no_number : (o : Option Num) → is_object (option_map Data.number o) ≡ true → ⊥
no_number None e = absurd cc
no_number (Some n) e = absurd cc

no_list : (o : Option Items) → is_object (option_map Data.array o) ≡ true → ⊥
no_list None e = absurd cc
no_list (Some ds) e = absurd cc

object_read : (j : Json) → is_object (of_json j) ≡ true → IsObject j
object_read json.null e = absurd cc
object_read (json.boolean b) e = absurd cc
object_read (json.number s) e = absurd (no_number (number_of s) e)
object_read (json.string s) e = absurd cc
object_read (json.array js) e = absurd (no_list (of_items js) e)
object_read (json.object ms) e = by_members (of_members ms no_members) refl e
  where
    by_members : (o : Option Members) → of_members ms no_members ≡ o → is_object (option_map Data.object o) ≡ true
        → IsObject (json.object ms)
    by_members None good e = absurd cc
    by_members (Some all) good e = record { ms = ms; all = all; good = good; same = refl }

abbrev object_of : Option (Json × List Token) → Option (json.Members × List Token)
object_of (Some (json.object ms, rest)) = Some (ms, rest)
object_of _ = None

module _ (ts : List Token) (ms : json.Members) (rest : List Token) where
  none_there : ◌≡◌ {A = Option (json.Members × List Token)} None (Some (ms, rest)) → ⊥
  none_there e = absurd cc

  no_array : (o : Option (json.Items × List Token)) → parse_map json.array o ≡ Some (json.object ms, rest) → ⊥
  no_array None is = absurd cc
  no_array (Some q) is = absurd (none_there (ap object_of is))

  members_left : (o : Option (json.Members × List Token)) → parse_map json.object o ≡ Some (json.object ms, rest)
      → o ≡ Some (ms, rest)
  members_left None is = absurd cc
  members_left (Some (a, b)) is = ap object_of is

  not_open : (t : Token) → object_of (value 127 (t ∷ ts)) ≡ None → value 127 (t ∷ ts) ≡ Some (json.object ms, rest) → ⊥
  not_open t none is = absurd (none_there (sym none ∙ ap object_of is))

  object_tokens : (t : Token) → value 127 (t ∷ ts) ≡ Some (json.object ms, rest)
      → members (value 126) (length ts) ts ≡ Some (ms, rest)
  object_tokens Token.begin_object is =
      members_left (members (value 126) (length ts) ts) (sym (value-begin_object 127 ts (omega arith)) ∙ is)
  object_tokens Token.begin_array is =
      absurd (no_array (items (value 126) (length ts) ts) (sym (value-begin_array 127 ts (omega arith)) ∙ is))
  object_tokens Token.end_object is = absurd (not_open _ (ap object_of (value_is 127 (Token.end_object ∷ ts))) is)
  object_tokens Token.end_array is = absurd (not_open _ (ap object_of (value_is 127 (Token.end_array ∷ ts))) is)
  object_tokens (Token.key s) is = absurd (not_open _ (ap object_of (value_is 127 (Token.key s ∷ ts))) is)
  object_tokens (Token.string s) is = absurd (not_open _ (ap object_of (value_is 127 (Token.string s ∷ ts))) is)
  object_tokens (Token.number s) is = absurd (not_open _ (ap object_of (value_is 127 (Token.number s ∷ ts))) is)
  object_tokens (Token.boolean b) is = absurd (not_open _ (ap object_of (value_is 127 (Token.boolean b ∷ ts))) is)
  object_tokens Token.null is = absurd (not_open _ (ap object_of (value_is 127 (Token.null ∷ ts))) is)
  object_tokens Token.bad is = absurd (not_open _ (ap object_of (value_is 127 (Token.bad ∷ ts))) is)

-- the converted value of tokens, if no token comes after it
abbrev whole_value : Option (Json × List Token) → Option Data
whole_value o = option_and_then of_json (option_and_then (λ p. json.if_last p.0 p.1) o)

ahead : (ts left : List Token) (t : Token) (o : Option (Json × List Token)) → ts ≡ t ∷ left → value 127 ts ≡ o
    → is_object (whole_value o) ≡ true → AreAhead (names_read o) left
ahead ts left t None begins is object = absurd cc
ahead ts left t (Some (j, [])) begins is object =
    let r = object_read j object in
    record {
      ms = r.ms;
      turns = length left;
      rest = [];
      is = object_tokens left r.ms [] t
          (sym (ap (value 127) begins) ∙ is ∙ ap (λ j. Some (j, [])) r.same);
      found = no_members;
      all = r.all;
      good = r.good;
      same = ap (λ j. names_read (Some (j, []))) r.same;
    }
ahead ts left t (Some (j, next ∷ others)) begins is object = absurd cc

pub names_start : (text : List ℕ) (d : Data) (whole left : List Token) (first : Option code.Token) → whole ≡ tokens text
    → MatchOption first ((whole ≡ []) × (left ≡ [])) (λ x. whole ≡ token_of x ∷ left)
    → read text ≡ Some d → is_some (as_object d) ≡ true → AreAhead (names_in text) left
unfolding names_in
names_start text d whole left None same empty is object =
    let none : read text ≡ None =
    ap (λ ts. whole_value (value 127 ts)) (sym same ∙ empty.0) ∙ ap whole_value (value_is 127 []) in
    let both : ◌≡◌ {A = Option Data} None (Some d) = sym none ∙ is in
    absurd cc
names_start text d whole left (Some x) same begins is object =
    ahead (tokens text) left (token_of x) (value 127 (tokens text)) (sym same ∙ begins) refl (ap is_object is ∙ object)

-- the names in a text are the names of the fields that its object is built from
pub record IsNamed (text : List ℕ) (all : Members) : Type 0 where
  pub fields : json.Members
  pub same : names_in text ≡ names_of fields
  pub good : of_members fields no_members ≡ Some all

abbrev members_said : Option Data → Option Members
members_said o = option_and_then as_object o

pub names_made : (text : List ℕ) (ms : Members) → read text ≡ Some (Data.object ms) → IsNamed text ms
unfolding names_in
names_made text ms is = by_value (value 127 (tokens text)) refl is
  where
    by_value : (o : Option (Json × List Token)) → value 127 (tokens text) ≡ o → whole_value o ≡ Some (Data.object ms)
        → IsNamed text ms
    by_value None begins is = absurd cc
    by_value (Some (j, next ∷ others)) begins is = absurd cc
    by_value (Some (j, [])) begins is =
        let r = object_read j (ap is_object is) in
        record {
          fields = r.ms;
          same = ap names_read begins ∙ ap (λ j. names_read (Some (j, []))) r.same;
          good = r.good
              ∙ sym (ap members_said (ap (option_map Data.object) r.good))
              ∙ ap members_said (sym (ap of_json r.same) ∙ is);
        }

-- ---- the first field with a place

module _ (kind : Kind) (fault : IoFault) (d : Data) (names : List (List ℕ)) where
  pub first_named : (name : List ℕ) (others : List (List ℕ)) → names ≡ name ∷ others
      → first_in kind fault d names ≡ option_or (field_place kind fault d name) (first_in kind fault d others)
  unfolding first_in
  first_named name others same = ap (first_in kind fault d) same

  pub first_over : names ≡ [] → first_in kind fault d names ≡ None
  unfolding first_in
  first_over over = ap (first_in kind fault d) over
