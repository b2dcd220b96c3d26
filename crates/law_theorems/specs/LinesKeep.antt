-- What the lines of a text keep: sane tables, laid variables, names that lead into the tables, bodies with formed tables that call procedures
-- with the parameters that these have. The laws are in proofs/.
use Rattle.std.specs.Prelude.{◌≡◌, true, ◌||◌, List, [], ◌∷◌, ◌++◌, map, ℕ, ◌+◌, ◌-◌, ◌≤◌, ◌<◌, get_or, length, replicate}
use Rattle.std.proofs.Math.Option.{some}
use Rattle.law.specs.Base.{Name}
use Rattle.law.specs.Code.{Frame, no_frame}
use Rattle.law.specs.Elaborate.{in_kind}
use Rattle.law.specs.Environment.{Declared, NameSort, PlacedBody, a_proc, a_type, a_value, a_var, want_of}
use Rattle.law.specs.Machine.{lent_cells, store_cells}
use Rattle.law.specs.Script.{Const}
use Rattle.law.specs.Store.{cell_fits}
use Rattle.law.specs.Types.{Types, Var, info_at, ordinal?, set?, size_of, variable}
use Rattle.law_theorems.specs.ScriptCalls.{CallingBody}
use Rattle.law_theorems.specs.ValuesInRange.{Test, any, Here, Formed, Parted}
use Rattle.law_theorems.specs.TypeTables.{AllIn, Table, Laid}

unfoldable pub tests : Types → List ℕ → List Test
tests Γ [] = []
tests Γ (t ∷ ts) = (λ z. cell_fits Γ t z) ∷ tests Γ ts

-- the tests of a store's cells: those of variables', any for those that are neither, those of parameters'
abbrev pub store_tests : Types → List ℕ → List ℕ → List Test
store_tests Γ ts ps = tests Γ ts ++ (replicate (lent_cells - length ts) any ++ tests Γ ps)

-- tests in which the cells of all that is declared stand: variables' from 0 on, parameters' past those that may be lent
pub record Stand (k : Declared) (xs : List Test) : Type 0 where
  pub lent : Here k.env.types xs 0 k.cells
  pub own : Here k.env.types xs lent_cells k.env.parameters

pub record Extends (Γ Γ' : Types) : Type 0 where
  pub keeps : (t : ℕ) → t < length Γ → info_at Γ' t ≡ info_at Γ t
  pub longer : length Γ ≤ length Γ'

-- a property of what each name means
pub data AllNames (P : NameSort → Type 0) : List (Name × NameSort) → Type 0 where
  no_names : AllNames P []
  name : {w : Name} {m : NameSort} {ns : List (Name × NameSort)} → P m → AllNames P ns → AllNames P ((w, m) ∷ ns)

pub data Fair (Γ : Types) (k : ℕ) : NameSort → Type 0 where
  type : {t : ℕ} → t < length Γ → Fair Γ k (a_type t)
  var : {i : ℕ} → Fair Γ k (a_var i)
  proc : {p : ℕ} {ts : List ℕ} → p < k → AllIn (length Γ) ts → Fair Γ k (a_proc p ts)
  value : {c : Const} → c.kind < length Γ → in_kind Γ c ≡ true → Fair Γ k (a_value c)

abbrev pub AllFair : Types → ℕ → List (Name × NameSort) → Type 0
AllFair Γ k = AllNames (Fair Γ k)

-- ordinals or sets
abbrev pub Simple : Types → List ℕ → Type 0
Simple Γ ts = (j : ℕ) → j < length ts → (ordinal? Γ (get_or ts j 0) || set? Γ (get_or ts j 0)) ≡ true

-- parameters of the types ts in the frame q, whose cells stand among the tests
pub record Framed (Γ : Types) (xs : List Test) (ts : List ℕ) (q : Frame) : Type 0 where
  pub wants : q.wants ≡ map (want_of Γ) ts
  pub here : Here Γ xs q.base ts
  pub simple : Simple Γ ts

-- the frames of bodies by their number
abbrev pub frames_of : List PlacedBody → List Frame
frames_of bs = map (λ (b : PlacedBody). b.frame) bs

pub record Callee (Γ : Types) (xs : List Test) (qs : List Frame) (p : ℕ) (ts : List ℕ) : Type 0 where
  pub below : p < length qs
  pub framed : Framed Γ xs ts (get_or qs p no_frame)

-- a name of a procedure has its parameters' types
pub data Known (Γ : Types) (xs : List Test) (qs : List Frame) : NameSort → Type 0 where
  type : {t : ℕ} → Known Γ xs qs (a_type t)
  var : {i : ℕ} → Known Γ xs qs (a_var i)
  proc : {p : ℕ} {ts : List ℕ} → Callee Γ xs qs p ts → Known Γ xs qs (a_proc p ts)
  value : {c : Const} → Known Γ xs qs (a_value c)

-- bodies that come after those with the frames qs
pub data AllFormed (xs : List Test) : List Frame → List PlacedBody → Type 0 where
  no-bodies : {qs : List Frame} → AllFormed xs qs []
  body : {qs : List Frame} {b : PlacedBody} {bs : List PlacedBody} → Formed b.types b.vars xs → CallingBody (Callee b.types xs qs) b.body
      → AllFormed xs (qs ++ (b.frame ∷ [])) bs → AllFormed xs qs (b ∷ bs)

-- the frames of bodies lie one after another, from the n-th parameter to before the m-th; one with no parameters is `no_frame`
pub data Apart : ℕ → List PlacedBody → ℕ → Type 0 where
  no_frames : {n : ℕ} → Apart n [] n
  a-frame : {n m : ℕ} {b : PlacedBody} {bs : List PlacedBody} → (0 < length b.frame.wants → b.frame.base ≡ lent_cells + n)
      → (length b.frame.wants ≡ 0 → b.frame ≡ no_frame) → Apart (n + length b.frame.wants) bs m → Apart n (b ∷ bs) m

pub record Keeps (k : Declared) : Type 0 where
  pub table : Table k.env.types
  pub laid : (xs : List Test) → Stand k xs → Laid k.env.types k.env.vars xs
  pub cells : AllIn (length k.env.types) k.cells
  pub parameters : AllIn (length k.env.types) k.env.parameters
  pub typed : (i : ℕ) (v : Var) → variable k.env.vars i ≡ some v → v.type < length k.env.types
  -- variables lie one after another
  pub ends : (i : ℕ) (v : Var) → variable k.env.vars i ≡ some v → v.base + size_of k.env.types v.type ≤ length k.cells
  pub separate : (i j : ℕ) (v w : Var) → variable k.env.vars i ≡ some v → variable k.env.vars j ≡ some w → Parted k.env.types v.base v.type w.base w.type
  pub names : AllFair k.env.types (length k.bodies) k.env.names
  pub known : (xs : List Test) → Stand k xs → AllNames (Known k.env.types xs (frames_of k.bodies)) k.env.names
  pub bodies : (xs : List Test) → Stand k xs → AllFormed xs [] k.bodies
  pub apart : Apart 0 k.bodies (length k.env.parameters)
  pub lent : length k.cells ≤ lent_cells
  pub stored : lent_cells + length k.env.parameters ≤ store_cells
