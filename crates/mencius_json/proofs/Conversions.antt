-- Converting a whole list or object gives the same result as converting each of its parts.
use Rattle.std.proofs.Common.{◌≡◌, ℕ, zero, suc, ◌-◌, ◌<◌, ◌≤◌, List, length, Option, Some, None, option_map, option_and_then, refl, ap, ◌∙◌}
use Rattle.json.specs.Token.{Token}
use Rattle.json.specs.Json as json
use Rattle.json.specs.Json.{Parse, parse_map, after_end_array, read_key, items, items_step, members}
use Rattle.json.proofs.Grammar.{items_end, items_more, members_end, members_more, members_no_key}
use Rattle.serde_json.specs.Data.{Data, Members, array, item, no_items, no_members, object, put}
use Rattle.serde_json.specs.Read.{converted, of_items, of_json, of_members}

-- ---- any conversion

behind : {B C : Type 0} (step : B → C) (rest : List Token) (made : Option B)
    → option_map (λ whole. (whole, rest)) (option_map step made)
    ≡ parse_map step (option_map {U = B × List Token} (λ whole. (whole, rest)) made)
behind step rest None = refl
behind step rest (Some found) = refl

module _ {A B C : Type 0} where
  -- a step before a conversion is the first part of the conversion
  converted_step : (f : B → Option C) (step : A → B) (parsed : Option (A × List Token))
      → converted f (parse_map step parsed) ≡ converted (λ a. f (step a)) parsed
  converted_step f step None = refl
  converted_step f step (Some pair) = refl

  -- a step at the end of a conversion can be applied to the converted value
  step_converted : (f : A → Option B) (step : B → C) (parsed : Option (A × List Token))
      → converted (λ a. option_map step (f a)) parsed ≡ parse_map step (converted f parsed)
  step_converted f step None = refl
  step_converted f step (Some pair) = behind step pair.1 (f pair.0)

module _ {A B : Type 0} where
  -- conversions that agree on all values convert a parsed value to the same result
  same_conversion : (f g : A → Option B) → ((a : A) → f a ≡ g a) → (parsed : Option (A × List Token))
      → converted f parsed ≡ converted g parsed
  same_conversion f g same None = refl
  same_conversion f g same (Some d) = ap (option_map (λ x. (x, d.1))) (same d.0)

  -- a conversion that fails for all values fails for a parsed value
  no_conversion : (f : A → Option B) → ((a : A) → f a ≡ None) → (parsed : Option (A × List Token))
      → converted f parsed ≡ None
  no_conversion f none None = refl
  no_conversion f none (Some d) = ap (option_map (λ x. (x, d.1))) (none d.0)

  -- the parsed value is `from`, with the tokens `rest` after it, and `f` converts it to `x`
  record IsMade (f : A → Option B) (parsed : Option (A × List Token)) (x : B) (rest : List Token) : Type 0 where
    from : A
    there : parsed ≡ Some (from, rest)
    becomes : f from ≡ Some x

  is_made : (f : A → Option B) (parsed : Option (A × List Token)) (x : B) (rest : List Token)
      → converted f parsed ≡ Some (x, rest) → IsMade f parsed x rest
  is_made f None x rest e = absurd (cc)
  is_made f (Some d) x rest e =
      let found = at d (f d.0) e in
      record { from = d.0; there = found.1; becomes = found.0 }
    where
      at : (z : A × List Token) (made : Option B)
          → option_map {U = B × List Token} (λ whole. (whole, z.1)) made ≡ Some (x, rest)
          → (made ≡ Some x) × (Some z ≡ Some (z.0, rest))
      at z None e = absurd (cc)
      at z (Some whole) e = (ap (option_map (λ y. y.0)) e, ap (option_map (λ y. (z.0, y.1))) e)

  -- if a parsed value is not converted, `f` gives no value for it
  unmade : (f : A → Option B) (d : A × List Token) → converted f (Some d) ≡ None → f d.0 ≡ None
  unmade f d e = bare (f d.0) e
    where
      bare : (made : Option B) → option_map {U = B × List Token} (λ whole. (whole, d.1)) made ≡ None → made ≡ None
      bare None e = refl
      bare (Some whole) e = absurd (cc)

-- ---- lists and objects

pub array_converted : (parsed : Option (json.Items × List Token))
    → converted of_json (parse_map json.array parsed) ≡ parse_map array (converted of_items parsed)
array_converted parsed = converted_step of_json json.array parsed ∙ step_converted of_items array parsed

pub object_converted : (parsed : Option (json.Members × List Token))
    → converted of_json (parse_map json.object parsed)
    ≡ parse_map object (converted (λ ms. of_members ms no_members) parsed)
object_converted parsed =
    converted_step of_json json.object parsed ∙ step_converted (λ ms. of_members ms no_members) object parsed

-- if a part cannot be converted, no whole that begins with this part can be converted
stopped : {X Y : Type 0} (put_before : json.Json → X → X) (f : X → Option Y)
    → ((y : json.Json) → of_json y ≡ None → (x : X) → f (put_before y x) ≡ None)
    → (more : Parse X) (part : Option (json.Json × List Token)) → converted of_json part ≡ None
    → converted f (option_and_then (λ pair. parse_map (put_before pair.0) (more pair.1)) part) ≡ None
stopped put_before f none more None e = refl
stopped put_before f none more (Some made) e =
    converted_step f (put_before made.0) (more made.1)
    ∙ no_conversion (λ x. f (put_before made.0 x)) (none made.0 (unmade of_json made e)) (more made.1)

module _ (value : Parse json.Json) (turns : ℕ) where
  -- the next item is converted, and then the items after it
  pub next_item : (left rest : List Token) (d : Data) → 0 < turns → after_end_array left ≡ None
      → converted of_json (value left) ≡ Some (d, rest)
      → converted of_items (items value turns left)
      ≡ parse_map (item d) (converted of_items (items value (turns - 1) rest))
  next_item left rest d some going e =
      let made = is_made of_json (value left) d rest e in
      let others = items value (turns - 1) rest in
      ap (converted of_items) (items_more value turns left rest made.from some going made.there)
      ∙ converted_step of_items (json.item made.from) others
      ∙ same_conversion (λ js. of_items (json.item made.from js)) (λ js. option_map (item d) (of_items js))
      (λ js. rw made.becomes) others
      ∙ step_converted of_items (item d) others

  -- after the last item, no item is converted
  pub no_item : (left rest : List Token) → length left ≤ turns → after_end_array left ≡ Some rest
      → converted of_items (items value turns left) ≡ Some (no_items, rest)
  no_item left rest enough closed = ap (converted of_items) (items_end value turns left rest enough closed)

  module _ (found : Members) where
    abbrev of_found : json.Members → Option Members
    of_found ms = of_members ms found

    -- the next field is converted and put into the fields found, and then the fields after it are read
    pub next_member : (name : List ℕ) (left behind rest : List Token) (d : Data) → 0 < turns
        → read_key left ≡ Some (Some name, behind) → converted of_json (value behind) ≡ Some (d, rest)
        → converted (λ ms. of_members ms found) (members value turns left)
        ≡ converted (λ ms. of_members ms (put name d found)) (members value (turns - 1) rest)
    next_member name left behind rest d some key e =
        let made = is_made of_json (value behind) d rest e in
        let others = members value (turns - 1) rest in
        ap (converted of_found) (members_more value turns name left behind rest made.from some key made.there)
        ∙ converted_step of_found (json.member name made.from) others
        ∙ same_conversion (λ ms. of_found (json.member name made.from ms)) (λ ms. of_members ms (put name d found))
        (λ ms. rw made.becomes) others

    -- an object is not converted if neither a name nor its end comes next
    pub no_name : (left : List Token) → read_key left ≡ None
        → converted (λ ms. of_members ms found) (members value turns left) ≡ None
    no_name left e = ap (converted of_found) (members_no_key value turns left e)

    pub no_member : (left rest : List Token) → length left ≤ turns → read_key left ≡ Some (None, rest)
        → converted (λ ms. of_members ms found) (members value turns left) ≡ Some (found, rest)
    no_member left rest enough closed =
        ap (converted of_found) (members_end value turns left rest enough closed)

-- a list is not converted if its next item cannot be converted
pub bad_item : (value : Parse json.Json) (turns : ℕ) (left : List Token) → after_end_array left ≡ None
    → converted of_json (value left) ≡ None → converted of_items (items value turns left) ≡ None
unfolding items
bad_item value zero left going e = refl
bad_item value (suc n) left going e =
    ap (λ end. converted of_items (items_step value (items value n) left end)) going
    ∙ stopped json.item of_items (λ left_over none js. rw none) (items value n) (value left) e

-- an object is not converted if the value of its next field cannot be converted
pub bad_member : (value : Parse json.Json) (found : Members) (turns : ℕ) (name : List ℕ) (left behind : List Token)
    → read_key left ≡ Some (Some name, behind) → converted of_json (value behind) ≡ None
    → converted (λ ms. of_members ms found) (members value turns left) ≡ None
unfolding members
bad_member value found zero name left behind key e = refl
bad_member value found (suc n) name left behind key e =
    rw key (stopped (json.member name) (λ ms. of_members ms found) (λ left_over none ms. rw none) (members value n)
    (value behind) e)
