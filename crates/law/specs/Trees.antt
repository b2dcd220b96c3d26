-- Document 01, "The text": a line holds one balanced form (row 4); a line's bytes as a tree.
use Rattle.std.specs.Prelude.{Bool, true, false, cond, List, [], ◌∷◌, ℕ, zero, suc, ◌+◌, ltb, drop}
use Rattle.std.proofs.Math.Option.{Option, none, some}
use Rattle.leaf_bytes.specs.declared.bytes.Class.{Class}
use Rattle.leaf_bytes.specs.declared.bytes.Class.TheVariants.{Feed, Space, Open, Close, Visible, Refused}
use Rattle.leaf_bytes.specs.Bytes.{class_of}
use Rattle.law.specs.Base.{◌>>=◌, given}
use Rattle.law.specs.Lines.{Line}

-- ---- trees, over words of some kind

mutual
  pub data Tree (W : Type 0) : Type 0 where
    word : W → Tree W
    form : Trees W → Tree W

  pub data Trees (W : Type 0) : Type 0 where
    end : Trees W
    ◌then◌ : Tree W → Trees W → Trees W

infixr 40 ◌then◌
unfoldable pub list : {W : Type 0} → Trees W → List (Tree W)
list end = []
list (t then ts) = t ∷ list ts

-- brackets and words: a pair is one
unfoldable mutual
  pub nodes : {W : Type 0} → Tree W → ℕ
  nodes (word w) = 1
  nodes (form ts) = suc (nodes_in ts)

  pub nodes_in : {W : Type 0} → Trees W → ℕ
  nodes_in end = 0
  nodes_in (t then ts) = nodes t + nodes_in ts

-- ---- row 4: one bracket pair, only spaces around it, depth at most 32

-- where a byte of a line stands: before the form, inside it with so many brackets open in the outermost, after it;
-- or the line is faulty
pub data Place : Type 0 where
  before after faulty : Place
  inside : ℕ → Place

-- n brackets are open inside the outermost: one more is at most the 32nd
unfoldable pub deeper : Bool → ℕ → Place
deeper true n = inside (suc n)
deeper false n = faulty

unfoldable pub opened : Place → Place
opened before = inside 0
opened (inside n) = deeper (ltb n 31) n
opened after = faulty
opened faulty = faulty

unfoldable pub closed : Place → Place
closed before = faulty
closed (inside zero) = after
closed (inside (suc n)) = inside n
closed after = faulty
closed faulty = faulty

-- a byte of a word
unfoldable pub spelled : Place → Place
spelled before = faulty
spelled (inside n) = inside n
spelled after = faulty
spelled faulty = faulty

unfoldable pub past : Class → Place → Place
past Feed p = faulty
past Space p = p
past Open p = opened p
past Close p = closed p
past Visible p = spelled p
past Refused p = faulty

unfoldable pub is_after : Place → Bool
is_after before = false
is_after (inside n) = false
is_after after = true
is_after faulty = false

unfoldable pub balanced : List ℕ → Place → Bool
balanced [] p = is_after p
balanced (b ∷ bs) p = balanced bs (past (class_of b) p)

-- ---- reading: a line's tokens, and the trees that its brackets make of them

-- a word: a longest run of other visible bytes
abbrev pub Run : Type 0
Run = List ℕ

unfoldable pub is_visible : Class → Bool
is_visible Feed = false
is_visible Space = false
is_visible Open = false
is_visible Close = false
is_visible Visible = true
is_visible Refused = false

-- the word that the bytes begin with, [] for none
unfoldable pub word_of : List ℕ → Run
word_of [] = []
word_of (b ∷ bs) = cond (is_visible (class_of b)) (b ∷ word_of bs) []

-- the word at an offset of a text
unfoldable pub word_at : List ℕ → ℕ → Run
word_at s p = word_of (drop p s)

pub data Token : Type 0 where
  open_token close_token : Token
  word_token : Run → Token

-- the tokens behind a word that they begin with
abbrev pub behind : Run → List Token → List Token
behind [] ts = ts
behind (b ∷ w) [] = []
behind (b ∷ w) (t ∷ ts) = ts

-- with one byte more on the left; w is the word that goes on behind it. Nothing of a later line is seen before a line feed
unfoldable pub with_token : Class → ℕ → Run → List Token → List Token
with_token Feed b w ts = []
with_token Space b w ts = ts
with_token Open b w ts = open_token ∷ ts
with_token Close b w ts = close_token ∷ ts
with_token Visible b w ts = word_token (b ∷ w) ∷ behind w ts
with_token Refused b w ts = []

unfoldable pub tokens_of : List ℕ → List Token
tokens_of [] = []
tokens_of (b ∷ bs) = with_token (class_of b) b (word_of bs) (tokens_of bs)

abbrev pub first : List (Trees Run) → Trees Run
first [] = end
first (ts ∷ k) = ts

abbrev pub later : List (Trees Run) → List (Trees Run)
later [] = []
later (ts ∷ k) = k

-- a tree in front of what stands at this level
abbrev pub push : Tree Run → List (Trees Run) → List (Trees Run)
push t k = (t then first k) ∷ later k

-- the trees of the tokens by level: the first list holds those up to the next closing bracket of this level, the second those after that
-- bracket, and so on outwards. So `)` begins a list, and `(` makes a form of the first one
unfoldable pub levels : List Token → List (Trees Run)
levels [] = []
levels (open_token ∷ ts) = push (form (first (levels ts))) (later (levels ts))
levels (close_token ∷ ts) = end ∷ levels ts
levels (word_token w ∷ ts) = push (word w) (levels ts)

-- the trees that the bytes begin with
unfoldable pub trees_of : List ℕ → Trees Run
trees_of bs = first (levels (tokens_of bs))

-- one form, and nothing beside it
unfoldable pub single : Trees Run → Option (Tree Run)
single end = none
single (word w then ts) = none
single (form f then end) = some (form f)
single (form f then (t then ts)) = none

-- row 4: the line's one form, with its words as they stand
unfoldable pub form_of : Line → Option (Tree Run)
form_of l = given l.fed l.bytes >>= λ bs. given (balanced bs before) (trees_of bs) >>= single
