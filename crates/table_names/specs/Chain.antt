-- The entries of declared names in the working list: a chain, the newest first. An entry is four numbers: the offset of its name in the
-- text with the name's key (Keys), two that say what it names, and the place of the entry before. The values of an enumeration stand in the
-- chain after its type, and one after another in the list, 12 numbers behind the type's entry; the type's third number is how many they are
-- where their second numbers also say which of them comes where in order of key and name.
use Rattle.std.specs.Prelude.{Bool, cond, ◌&&◌, List, [], ◌∷◌, map, ◌≡◌, ℕ, zero, suc, ◌+◌, ◌*◌, ◌-◌, ◌/◌, ◌%◌, ◌≤◌, eqb, ltb, get_or}
use Rattle.leaf_bytes.specs.Bytes.{small, same}
use Rattle.law.specs.Base.{Name}
use Rattle.law.specs.Trees.{word_at}
use Rattle.table_names.specs.Keys.{key_of}
use Rattle.table_names.specs.Order.{ordered}
use Rattle.table_names.specs.declared.Link.{Link}
use Rattle.table_names.specs.declared.Spot.{Spot}
use Rattle.std.specs.declared.cmp.Ordering.{Ordering}
use Rattle.std.specs.declared.cmp.Ordering.TheVariants as order

-- the places of so many entries from p on
unfoldable pub entries : ℕ → List ℕ → ℕ → List ℕ
entries zero l p = []
entries (suc n) l p = p ∷ entries n l (get_or l (p + 3) 0)

-- the name of the entry at p, in small letters, and its key
unfoldable pub name_at : List ℕ → List ℕ → ℕ → Name
name_at s l p = map small (word_at s (get_or l p 0 % 32768))

unfoldable pub key_at : List ℕ → ℕ → ℕ
key_at l p = get_or l p 0 / 32768

-- the entry at p has the name w, and its key
pub record Called (s l : List ℕ) (p : ℕ) (w : Name) : Type 0 where
  pub name-is : name_at s l p ≡ w
  pub key-is : key_at l p ≡ key_of w

-- whether it has
unfoldable pub is_called : List ℕ → List ℕ → ℕ → Name → Bool
is_called s l p w = eqb (key_at l p) (key_of w) && same (name_at s l p) w

-- the place of the first entry under a name, 0 if there is none
unfoldable pub place_in : List ℕ → List ℕ → List ℕ → Name → ℕ
place_in s l [] w = 0
place_in s l (p ∷ ps) w = cond (is_called s l p w) p (place_in s l ps w)

-- ---- the values of an enumeration

-- how many stand behind an entry, by its second and third numbers, and behind the entry at p
unfoldable pub values_by : ℕ → ℕ → ℕ
values_by sort more = cond (eqb (sort % 4) 0) more 0

unfoldable pub values_behind : List ℕ → ℕ → ℕ
values_behind l p = values_by (get_or l (p + 1) 0) (get_or l (p + 2) 0)

-- where the first of them stands
unfoldable pub first_value : ℕ → ℕ
first_value p = p % 32768 + 12

-- n entries one after another from b on
unfoldable pub places : ℕ → ℕ → List ℕ
places zero b = []
places (suc n) b = b ∷ places n (b + 4)

-- where the entry at p stands to a word: by key, and by name where keys agree
unfoldable pub order_at : List ℕ → List ℕ → ℕ → Name → Ordering
order_at s l p w = cond (ltb (key_at l p) (key_of w)) order.Less (cond (ltb (key_of w) (key_at l p)) order.Greater (ordered (name_at s l p) w))

-- which of the values from b on comes j-th in order
unfoldable pub ranked : List ℕ → ℕ → ℕ → ℕ
ranked l b j = get_or l (b + 4 * j + 1) 0 / 512 % 256

-- the middle of what is left
unfoldable pub middle : ℕ → ℕ → ℕ
middle low high = low + (high - low) / 2

-- one of three by an order
abbrev pub by_order : Ordering → ℕ → ℕ → ℕ → ℕ
by_order order.Less x y z = x
by_order order.Equal x y z = y
by_order order.Greater x y z = z

-- the place of the value under a name among n from b on, found by halving at most so often what stands from low to high
unfoldable pub halved : List ℕ → List ℕ → ℕ → ℕ → Name → ℕ → ℕ → ℕ → ℕ
halved s l b n w zero low high = 0
halved s l b n w (suc d) low high =
    cond (ltb low high)
    (cond (ltb (ranked l b (middle low high)) n)
    (by_order (order_at s l (b + 4 * ranked l b (middle low high)) w)
    (halved s l b n w d (middle low high + 1) high) (b + 4 * ranked l b (middle low high)) (halved s l b n w d low (middle low high)))
    0)
    0

-- and so of the n values behind the entry at p
unfoldable pub value_in : List ℕ → List ℕ → ℕ → ℕ → Name → ℕ
value_in s l p n w = halved s l (first_value p) n w 9 0 n

-- ---- a lookup

-- the first of two places that is one
unfoldable pub or_else : ℕ → ℕ → ℕ
or_else q r = cond (eqb q 0) r q

-- the place of the entry under a name among n from p on, by at most so many steps along the chain
unfoldable pub sought_in : List ℕ → List ℕ → Name → ℕ → ℕ → ℕ → ℕ
sought_in s l w zero n p = 0
sought_in s l w (suc f) n p =
    cond (eqb n 0) 0
    (cond (is_called s l p w) p
    (cond (eqb (values_behind l p) 0) (sought_in s l w f (n - 1) (get_or l (p + 3) 0))
    (or_else (value_in s l p (values_behind l p) w) (sought_in s l w f (n - 1 - values_behind l p) (get_or l (first_value p + 4 * (values_behind l p - 1) + 3) 0)))))

unfoldable pub place_by : List ℕ → List ℕ → ℕ → ℕ → Name → ℕ
place_by s l n p w = sought_in s l w n n p

-- what is read of an entry: its first number, how many values stand behind it, and the place of the entry before
abbrev pub link_at : List ℕ → ℕ → Link
link_at l p = record { first = get_or l p 0; values = values_behind l p; next = get_or l (p + 3) 0 }

-- what comes in the chain after the values behind the entry at p, of n from p on
abbrev pub past_values : List ℕ → ℕ → ℕ → ℕ → Spot
past_values l n p v = record { left = n - 1 - v; place = get_or l (first_value p + 4 * (v - 1) + 3) 0 }

-- of n entries from p on, those from r on hold the place of every name with a key
pub record Seeks (l : List ℕ) (k n p : ℕ) (r : Spot) : Type 0 where
  pub few : r.left ≤ n
  pub from : (s : List ℕ) (w : Name) → key_of w ≡ k → place_by s l n p w ≡ place_by s l r.left r.place w
