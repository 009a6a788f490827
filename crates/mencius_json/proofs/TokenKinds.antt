-- A token that does not begin a list in the code does not begin a list in the model. The same is true of tokens that do
-- not begin an object, and of tokens that are not a number.
use Rattle.std.specs.Borrow.{Bor}
use Rattle.std.proofs.Common.{◌≡◌, ℕ, List, false, Option, None, refl}
use Rattle.json.specs.Reads.{token_of}
use Rattle.json.specs.declared.token.Token.{Token}
use Rattle.json.specs.declared.token.Token.TheVariants.{BeginArray, BeginObject, Number}
use Rattle.mencius_json.specs.Next.{number_text, is_begin_array, is_begin_object}

pub no_array : (symbol : Token) → (symbol ≡ BeginArray → ⊥) → false ≡ is_begin_array (token_of symbol)
no_array BeginArray other = absurd (other refl)
no_array symbol other = refl

pub no_object : (symbol : Token) → (symbol ≡ BeginObject → ⊥) → false ≡ is_begin_object (token_of symbol)
no_object BeginObject other = absurd (other refl)
no_object symbol other = refl

pub no_number : (symbol : Token) → ((text : Bor (List ℕ)) → symbol ≡ Number text → ⊥)
    → ◌≡◌ {A = Option (List ℕ)} None (number_text (token_of symbol))
no_number (Number text) other = absurd (other text refl)
no_number symbol other = refl
