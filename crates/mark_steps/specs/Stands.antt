-- What the store's array and a word say of the chair's machine.
use Rattle.std.specs.Prelude.{◌≡◌, List, ◌⊎◌, ℕ, suc, ◌≤◌, ℤ, pos, length, get_or}
use Rattle.law.specs.Machine.{Store, State, state, Answer, store_cells}
use Rattle.code_calc.specs.Words.{Holds, place_at, store_words}
use Rattle.mark_steps.specs.Ends.{left_in, told_by}

-- a cell is defined, or it is undefined with value 0
abbrev pub Tidy : ℕ → ℤ → Type 0
Tidy k v = (k ≡ 1) ⊎ ((k ≡ 0) × (v ≡ pos 0))

-- the words ws stand for the store m, with so many steps left
pub record Stands (ws : List ℤ) (left : ℕ) (m : Store) : Type 0 where
  pub long : length ws ≡ store_words
  pub steps : left ≤ 4294967295
  pub holds : Holds ws m
  pub place : get_or ws place_at (pos 0) ≡ pos m.place
  pub small : m.place ≤ 4294967295
  pub values : length m.values ≡ store_cells
  pub marks : length m.marks ≡ store_cells
  pub tidy : (a : ℕ) → Tidy (get_or m.marks a 0) (get_or m.values a (pos 0))

-- the answer a is what the words ws and the word w say
pub record Ends (a : Answer) (ws : List ℤ) (w : ℕ) : Type 0 where
  pub outcome : a.outcome ≡ told_by w ws
  pub stands : Stands ws (left_in w) a.state.store
  pub left : a.state.left ≡ left_in w

-- from ws, with so many steps left, the machine f comes to ws' and the word r
pub record Runs (f : State → Answer) (ws : List ℤ) (left : ℕ) (ws' : List ℤ) (r : ℕ) : Type 0 where
  pub says : (m : Store) → Stands ws left m → Ends (f (state m left)) ws' r

-- the answer a is that of f from the words ws on, with s steps left
pub record Goes (a : Answer) (f : State → Answer) (ws : List ℤ) (s : ℕ) : Type 0 where
  pub store : Store
  pub stands : Stands ws s store
  pub rest : a ≡ f (state store s)

-- what a machine does after its first step
unfoldable pub after : (State → Answer) → State → Answer
after f s = f (state s.store (suc s.left))
