-- Document 01, "The text": the reserved words stand in one fixed table, case ignored; the operators.
use Rattle.std.specs.Prelude.{Bool, cond, List, [], ◌∷◌, ◌++◌, map, ℕ, suc, ◌-◌, length, get_or, replicate}
use Prim.Native.String.{String}
use Rattle.leaf_bytes.specs.Bytes.{bytes, small, same}

-- all head words, and `integer`, `boolean`, `true`, `false`, `else`, `error_number`
unfoldable pub reserved : List String
reserved =
    "type" ∷ "var" ∷ "proc" ∷ "main" ∷ "exception" ∷ "enum" ∷ "range" ∷ "array" ∷ "record" ∷ "setof" ∷ "begin" ∷ "if" ∷
    "while" ∷ "for" ∷ "case" ∷ "arm" ∷ "else" ∷ "call" ∷ "raise" ∷ "at" ∷ "dot" ∷ "members" ∷ "not" ∷ "abs" ∷ "sqr" ∷
    "odd" ∷ "ord" ∷ "pred" ∷ "succ" ∷ "card" ∷ "setmin" ∷ "setmax" ∷ "first" ∷ "last" ∷ "div" ∷ "mod" ∷ "in" ∷ "and" ∷
    "or" ∷ "and_then" ∷ "or_else" ∷ "integer" ∷ "boolean" ∷ "true" ∷ "false" ∷ "error_number" ∷ []

unfoldable pub operators : List String
operators =
    ":=" ∷ "+" ∷ "-" ∷ "*" ∷ "**" ∷ "=" ∷ "<>" ∷ "<" ∷ "<=" ∷ ">" ∷ ">=" ∷ []

-- both as bytes, the reserved words first
unfoldable pub fixed : List (List ℕ)
fixed = map bytes (reserved ++ operators)

-- the byte at place i of word k, and 0 past its end; how many bytes word k has
unfoldable pub letter : ℕ → ℕ → ℕ
letter k i = get_or (get_or fixed k []) i 0

unfoldable pub letters : ℕ → ℕ
letters k = length (get_or fixed k [])

-- the table as the code holds it: each word filled up with zeros to twelve bytes
unfoldable pub rows : List (List ℕ)
rows = map (λ (w : List ℕ). w ++ replicate (12 - length w) 0) fixed

-- the place of the first list that is the same as w, or how many lists there are
unfoldable pub position : List ℕ → List (List ℕ) → ℕ
position w [] = 0
position w (v ∷ vs) = cond (same w v) 0 (suc (position w vs))

-- a word is word k; its place, or how many there are. Case is ignored, which no operator has
unfoldable pub is_fixed : List ℕ → ℕ → Bool
is_fixed w k = same (map small w) (get_or fixed k [])

unfoldable pub place_of : List ℕ → ℕ
place_of w = position (map small w) fixed
