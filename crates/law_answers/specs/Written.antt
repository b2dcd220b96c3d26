-- What is printed, as bytes written into a lent list from a place on.
use Rattle.std.specs.Prelude.{cond, List, [], ◌∷◌, map, ◌≡◌, ℕ, ◌+◌, ltb, length, set}
use Rattle.leaf_bytes.specs.Bytes.{small}
use Rattle.law.specs.Base.{Name}
use Rattle.law.specs.Trees.{word_at}

-- a list, and the place of the next byte
pub record Out : Type 0 where
  pub list : List ℕ
  pub place : ℕ

abbrev pub out_of : List ℕ → ℕ → Out
out_of l p = record { list = l; place = p }

-- a byte at the place; past the end nothing is written
unfoldable pub put_one : ℕ → Out → Out
put_one b o = cond (ltb o.place (length o.list)) (out_of (set o.list o.place b) (o.place + 1)) o

-- bytes one after another
unfoldable pub put_all : List ℕ → Out → Out
put_all [] o = o
put_all (b ∷ bs) o = put_all bs (put_one b o)

-- the bytes bs, written into l from p on, leave m and the place r
pub record Puts (bs l : List ℕ) (p r : ℕ) (m : List ℕ) : Type 0 where
  pub says : put_all bs (out_of l p) ≡ out_of m r

-- the word that goes on at p, in small letters
unfoldable pub name_at : List ℕ → ℕ → List ℕ
name_at s p = map small (word_at s p)

-- the names at offsets
unfoldable pub names_at : List ℕ → List ℕ → List Name
names_at s [] = []
names_at s (p ∷ ps) = name_at s p ∷ names_at s ps
