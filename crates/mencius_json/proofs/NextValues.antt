-- Reading tokens one at a time gives the next value of the model.
use Rattle.std.proofs.Common.{◌≡◌, ℕ, ◌-◌, ◌<◌, ◌≤◌, List, [], ◌∷◌, ◌++◌, length, Result, Ok, Err, OnOk, IfErr, inl, inr, Option, Some, None, option_map, refl, ap, ◌∙◌, arith}
use Rattle.std.proofs.lemmas.Result.{IfErr-weaker}
use Rattle.std.specs.Borrow.{Bor}
use Rattle.std.specs.Prelude.{Bool, ◌⊎◌, unwrap_or}
use Rattle.json.specs.Token.{Token}
use Rattle.json.specs.Reads.{token_of}
use Rattle.json.specs.declared.token.Token as code
use Rattle.json.specs.declared.token.Token.TheVariants.{Bad, EndArray, EndObject, Key, Null, String, Bool as BoolT}
use Rattle.json.specs.Json.{parse_map, after_end_array, read_key, items, members, value}
use Rattle.json.proofs.Grammar.{value_is, value-begin_array, value-begin_object}
use Rattle.serde_json.specs.Data.{Data, Num, Items, no_items, item, Members, no_members, array, object, number, string, boolean, null, put}
use Rattle.serde_json.specs.Find.{as_u64}
use Rattle.serde_json.specs.Read.{converted, number_of, of_items, of_json, of_members}
use Rattle.mencius_json.proofs.Conversions.{array_converted, bad_item, bad_member, next_item, next_member, no_item, no_member, no_name, object_converted}
use Rattle.mencius_json.specs.Next.{next_items, next_members, next_value}

-- ---- the end of a read

pub err_anyway : {X E P : Type 0} (result : Result X E) → P → IfErr result (λ _. P)
err_anyway (Ok x) p = tt
err_anyway (Err e) p = p

-- if reading a part fails, reading the whole fails
pub errs_whole : {X Y Z E : Type 0} (result : Result X E) (part : Option Y) (whole : Option Z)
    → (part ≡ None → whole ≡ None) → IfErr result (λ _. part ≡ None) → IfErr result (λ _. whole ≡ None)
errs_whole result part whole none h = IfErr-weaker result (λ _. part ≡ None) (λ _. whole ≡ None) (λ _. none) h

pub oks_whole : {R X Y E : Type 0} (result : Result R E) (make : X → Y) (part : Option (X × List Token))
    (whole : Option (Y × List Token)) (rest : List Token) → whole ≡ parse_map make part
    → OnOk result ((x : X) × (part ≡ Some (x, rest))) → OnOk result ((y : Y) × (whole ≡ Some (y, rest)))
oks_whole (Ok x) make part whole rest is h = (make h.0, is ∙ ap (parse_map make) h.1)
oks_whole (Err f) make part whole rest is h = tt

-- ---- the items of a list, read one at a time

abbrev pub items_then : List Data → Items → Items
items_then [] rest = rest
items_then (d ∷ ds) rest = item d (items_then ds rest)

pushed : (ds : List Data) (d : Data) (rest : Items) → items_then ds (item d rest) ≡ items_then (ds ++ d ∷ []) rest
pushed [] d rest = refl
pushed (e ∷ ds) d rest = ap (item e) (pushed ds d rest)

one_more : (ds : List Data) (d : Data) (r : Option (Items × List Token))
    → parse_map (items_then ds) (parse_map (item d) r) ≡ parse_map (items_then (ds ++ d ∷ [])) r
one_more ds d None = refl
one_more ds d (Some pair) = ap (λ es. Some (es, pair.1)) (pushed ds d pair.0)

nothing_yet : (r : Option (Items × List Token)) → r ≡ parse_map (items_then []) r
nothing_yet None = refl
nothing_yet (Some pair) = refl

-- the items of `whole` are those in `read`, followed by the items that `left` begins with
pub record ItemsSoFar (depth : ℕ) (whole left : List Token) (read : List Data) : Type 0 where
  pub turns : ℕ
  pub enough : length left ≤ turns
  pub same : next_items depth whole
      ≡ parse_map (items_then read) (converted of_items (items (value depth) turns left))
  pub within : length left ≤ length whole

module _ (depth : ℕ) (whole left : List Token) (read : List Data) (h : ItemsSoFar depth whole left read) where
  pub items_further : (rest : List Token) (d : Data) → after_end_array left ≡ None → length rest < length left
      → next_value depth left ≡ Some (d, rest) → ItemsSoFar depth whole rest (read ++ d ∷ [])
  items_further rest d going less next =
      record {
        turns = h.turns - 1;
        enough = omega (arith, h.enough, less);
        same = h.same
            ∙ ap (parse_map (items_then read))
            (next_item (value depth) h.turns left rest d (omega (arith, h.enough, less)) going next)
            ∙ one_more read d (converted of_items (items (value depth) (h.turns - 1) rest));
        within = omega (arith, h.within, less);
      }

  pub items_stop : after_end_array left ≡ None → next_value depth left ≡ None → next_items depth whole ≡ None
  items_stop going none =
      h.same ∙ ap (parse_map (items_then read)) (bad_item (value depth) h.turns left going none)

  pub items_close : (rest : List Token) → after_end_array left ≡ Some rest
      → next_items depth whole ≡ Some (items_then read no_items, rest)
  items_close rest closed =
      h.same ∙ ap (parse_map (items_then read)) (no_item (value depth) h.turns left rest h.enough closed)

pub items_start : (depth : ℕ) (whole : List Token) → ItemsSoFar depth whole whole []
items_start depth whole = record {
  turns = length whole;
  enough = omega arith;
  same = nothing_yet (next_items depth whole);
  within = omega arith;
}

-- ---- the fields of an object, read one at a time

-- the fields of `whole` are those in `found`, together with the fields that `left` begins with
pub record MembersSoFar (depth : ℕ) (whole left : List Token) (found : Members) : Type 0 where
  pub turns : ℕ
  pub enough : length left ≤ turns
  pub same : next_members depth whole
      ≡ converted (λ ms. of_members ms found) (members (value depth) turns left)
  pub within : length left ≤ length whole

module _ (depth : ℕ) (whole left : List Token) (found : Members) (h : MembersSoFar depth whole left found) where
  pub members_further : (name : List ℕ) (behind rest : List Token) (d : Data) → read_key left ≡ Some (Some name, behind)
      → length behind < length left → length rest < length behind → next_value depth behind ≡ Some (d, rest)
      → MembersSoFar depth whole rest (put name d found)
  members_further name behind rest d key less lesser next =
      record {
        turns = h.turns - 1;
        enough = omega (arith, h.enough, less, lesser);
        same = h.same
            ∙ next_member (value depth) h.turns found name left behind rest d
            (omega (arith, h.enough, less)) key next;
        within = omega (arith, h.within, less, lesser);
      }

  pub members_stop : (name : List ℕ) (behind : List Token) → read_key left ≡ Some (Some name, behind)
      → next_value depth behind ≡ None → next_members depth whole ≡ None
  members_stop name behind key none = h.same ∙ bad_member (value depth) found h.turns name left behind key none

  pub members_no_name : read_key left ≡ None → next_members depth whole ≡ None
  members_no_name none = h.same ∙ no_name (value depth) h.turns found left none

  pub members_close : (rest : List Token) → read_key left ≡ Some (None, rest)
      → next_members depth whole ≡ Some (found, rest)
  members_close rest closed = h.same ∙ no_member (value depth) h.turns found left rest h.enough closed

pub members_start : (depth : ℕ) (whole : List Token) → MembersSoFar depth whole whole no_members
members_start depth whole = record {
  turns = length whole;
  enough = omega arith;
  same = refl;
  within = omega arith;
}

-- ---- a value with a given first token

-- a value, if there is one, together with the tokens after it
abbrev pub paired_with : {A : Type 0} → List Token → Option A → Option (A × List Token)
paired_with ts None = None
paired_with ts (Some a) = Some (a, ts)

pub opened_array : (depth : ℕ) (ts : List Token) → 0 < depth
    → next_value depth (Token.begin_array ∷ ts) ≡ parse_map array (next_items (depth - 1) ts)
opened_array depth ts some =
    ap (converted of_json) (value-begin_array depth ts some)
    ∙ array_converted (items (value (depth - 1)) (length ts) ts)

pub opened_object : (depth : ℕ) (ts : List Token) → 0 < depth
    → next_value depth (Token.begin_object ∷ ts) ≡ parse_map object (next_members (depth - 1) ts)
opened_object depth ts some =
    ap (converted of_json) (value-begin_object depth ts some)
    ∙ object_converted (members (value (depth - 1)) (length ts) ts)

pub array_too_deep : (depth : ℕ) (ts : List Token) → depth ≡ 0 → next_value depth (Token.begin_array ∷ ts) ≡ None
unfolding value
array_too_deep depth ts none = rw none refl

pub object_too_deep : (depth : ℕ) (ts : List Token) → depth ≡ 0 → next_value depth (Token.begin_object ∷ ts) ≡ None
unfolding value
object_too_deep depth ts none = rw none refl

pub next_none : (depth : ℕ) → next_value depth [] ≡ None
next_none depth = ap (converted of_json) (value_is depth [])

pub next_string : (depth : ℕ) (s : List ℕ) (ts : List Token)
    → next_value depth (Token.string s ∷ ts) ≡ Some (string s, ts)
next_string depth s ts = ap (converted of_json) (value_is depth (Token.string s ∷ ts))

pub next_number : (depth : ℕ) (s : List ℕ) (ts : List Token)
    → next_value depth (Token.number s ∷ ts) ≡ paired_with ts (option_map number (number_of s))
next_number depth s ts = ap (converted of_json) (value_is depth (Token.number s ∷ ts))

module _ (depth : ℕ) (s : List ℕ) (ts : List Token) where
  first : (o : Option Num) → number_of s ≡ o
      → next_value depth (Token.number s ∷ ts) ≡ paired_with ts (option_map number o)
  first o e = next_number depth s ts ∙ ap (λ o. paired_with ts (option_map number o)) e

  counted : (whole : Option ℕ) (o : Option Num) → number_of s ≡ o → Some whole ≡ option_map as_u64 o
      → (n : Num) × (next_value depth (Token.number s ∷ ts) ≡ Some (number n, ts)) × (whole ≡ as_u64 n)
  counted whole None e same = absurd (cc)
  counted whole (Some n) e same = (n, first (Some n) e, ap (λ o. unwrap_or o whole) same)

  -- a number that is not too large is a value
  pub next_counted : (whole : Option ℕ) → Some whole ≡ option_map as_u64 (number_of s)
      → (n : Num) × (next_value depth (Token.number s ∷ ts) ≡ Some (number n, ts)) × (whole ≡ as_u64 n)
  next_counted whole same = counted whole (number_of s) refl same

  uncounted : (o : Option Num) → number_of s ≡ o → None ≡ option_map as_u64 o
      → next_value depth (Token.number s ∷ ts) ≡ None
  uncounted None e same = first None e
  uncounted (Some n) e same = absurd (cc)

  pub next_uncounted : None ≡ option_map as_u64 (number_of s) → next_value depth (Token.number s ∷ ts) ≡ None
  next_uncounted same = uncounted (number_of s) refl same

-- ---- a value whose first token is given as the code stores it

pub next_plain : (depth : ℕ) (symbol : code.Token) (ts : List Token)
    → ((x : Bor (List ℕ)) × (symbol ≡ String x)) ⊎ ((x : Bool) × (symbol ≡ BoolT x)) ⊎ (symbol ≡ Null)
    → (d : Data) × (next_value depth (token_of symbol ∷ ts) ≡ Some (d, ts))
next_plain depth symbol ts (inl (x, e)) =
    (string x.now, ap (λ kind. next_value depth (token_of kind ∷ ts)) e ∙ next_string depth x.now ts)
next_plain depth symbol ts (inr (inl (x, e))) = (
  boolean x,
  ap (λ kind. next_value depth (token_of kind ∷ ts)) e
      ∙ ap (converted of_json) (value_is depth (Token.boolean x ∷ ts)),
)
next_plain depth symbol ts (inr (inr e)) = (
  null,
  ap (λ kind. next_value depth (token_of kind ∷ ts)) e ∙ ap (converted of_json) (value_is depth (Token.null ∷ ts)),
)

pub next_unfit : (depth : ℕ) (symbol : code.Token) (ts : List Token)
    → (symbol ≡ EndObject) ⊎ (symbol ≡ EndArray) ⊎ ((x : Bor (List ℕ)) × (symbol ≡ Key x)) ⊎ (symbol ≡ Bad)
    → next_value depth (token_of symbol ∷ ts) ≡ None
next_unfit depth symbol ts (inl e) =
    ap (λ kind. next_value depth (token_of kind ∷ ts)) e
    ∙ ap (converted of_json) (value_is depth (Token.end_object ∷ ts))
next_unfit depth symbol ts (inr (inl e)) =
    ap (λ kind. next_value depth (token_of kind ∷ ts)) e
    ∙ ap (converted of_json) (value_is depth (Token.end_array ∷ ts))
next_unfit depth symbol ts (inr (inr (inl (x, e)))) =
    ap (λ kind. next_value depth (token_of kind ∷ ts)) e
    ∙ ap (converted of_json) (value_is depth (Token.key x.now ∷ ts))
next_unfit depth symbol ts (inr (inr (inr e))) =
    ap (λ kind. next_value depth (token_of kind ∷ ts)) e ∙ ap (converted of_json) (value_is depth (Token.bad ∷ ts))
