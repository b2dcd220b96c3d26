-- The environment of a line as the checker holds it: the entries of names and the descriptions of types in the working list.
use Rattle.std.specs.Prelude.{true, false, cond, List, [], map, ◌≡◌, ℕ, ◌+◌, ◌/◌, ◌%◌, ◌≤◌, eqb, pos, length, get_or}
use Rattle.std.proofs.Math.Option.{Option, none, some}
use Rattle.leaf_bytes.specs.Bytes.{small, same}
use Rattle.law.specs.Base.{Name, find}
use Rattle.law.specs.Environment.{Environment, NameSort, a_type, a_var, a_proc, a_value}
use Rattle.law.specs.Script.{Const}
use Rattle.law.specs.Trees.{Trees, word, form, end, ◌then◌, Run, first, word_at}
use Rattle.law_theorems.specs.Readings.{stack_at}
use Rattle.law.specs.Types.{info_at, record?, size_of, Var, variable}
use Rattle.law_theorems.specs.TypeTables.{Table}
use Rattle.law_theorems.specs.LinesKeep.{AllFair}
use Rattle.table_names.specs.Chain.{place_by}
use Rattle.table_names.specs.Chained.{Below}
use Rattle.leaf_words.specs.Words.{word_of}
use Rattle.text_heads.specs.Heads.{atom_of}
use Rattle.text_heads.specs.declared.Atom.{Atom}
use Rattle.text_heads.specs.declared.Atom.TheVariants as AT
use Rattle.table_scope.specs.Descriptions.{info_of, Tells, EndsBelow}
use Rattle.table_scope.specs.Frames.{TellsFrame}
use Rattle.table_scope.specs.Pairs.{after_lead, pair_in}
use Rattle.table_scope.specs.declared.Meaning.{Meaning}
use Rattle.table_scope.specs.declared.Meaning.TheVariants as meaning
use Rattle.table_scope.specs.declared.Scope.{Scope}

-- ---- an entry's second and third numbers: the second is the sort, 0 to 3, and 4 times a type's, variable's or procedure's number; the
-- third a variable's type and 128 times its first cell, the place of a procedure's body, or an enum name's ordinal; an enum name's second
-- number may also say which of its type's comes there in order (table_names, Chain)

-- what these numbers mean
unfoldable pub meaning_by : ℕ → ℕ → Meaning
meaning_by sort more =
    cond (eqb (sort % 4) 0) (meaning.Type (sort / 4))
    (cond (eqb (sort % 4) 1) (meaning.Var (sort / 4) (more % 128) (more / 128))
    (cond (eqb (sort % 4) 2) (meaning.Proc more)
    (meaning.Value (sort / 4 % 128) more)))

-- the meaning of the entry at p, which is 0 for none
unfoldable pub meaning_at : List ℕ → ℕ → Meaning
meaning_at l p = cond (eqb p 0) meaning.Unknown (meaning_by (get_or l (p + 1) 0) (get_or l (p + 2) 0))

-- the meaning of a name w among those that lines declare, and of the word at an offset
unfoldable pub declared_in : List ℕ → List ℕ → Scope → Name → Meaning
declared_in s l scope w = meaning_at l (place_by s l scope.count scope.newest w)

abbrev pub declared_here : List ℕ → List ℕ → Scope → ℕ → Meaning
declared_here s l scope p = declared_in s l scope (map small (word_at s p))

-- ---- parameters, by their pairs in the text

abbrev pub type_in : Meaning → ℕ
type_in meaning.Unknown = 0
type_in (meaning.Type t) = t
type_in (meaning.Var i t a) = 0
type_in (meaning.Proc p) = 0
type_in (meaning.Value k n) = 0

-- the type that a word names, by what it means
abbrev pub kind_by : Atom → Meaning → ℕ
kind_by (AT.Number z) m = 0
kind_by AT.Named m = type_in m
kind_by (AT.Truth b) m = 0
kind_by AT.ErrorNumber m = 0
kind_by (AT.Base k) m = k
kind_by AT.Nothing m = 0

-- the type that parts begin with
unfoldable pub kind_of : List ℕ → List ℕ → Scope → Trees Run → ℕ
kind_of s l scope end = 0
kind_of s l scope (word x then ts) = kind_by (atom_of (word_of x)) (declared_in s l scope (map small x))
kind_of s l scope (form us then ts) = 0

-- parameter j, whose pair has these parts: its cell is past the 2,048 that may be lent
unfoldable pub parameter_of : List ℕ → List ℕ → Scope → ℕ → Trees Run → Meaning
parameter_of s l scope j us = meaning.Var (scope.vars % 256 + j % 65536) (kind_of s l scope (after_lead us)) (2048 + scope.parameters % 256 + j % 65536)

-- ---- all names

abbrev pub paired_or : List ℕ → List ℕ → Scope → Option (ℕ × Trees Run) → Meaning → Meaning
paired_or s l scope none m = m
paired_or s l scope (some p) m = parameter_of s l scope p.0 p.1

-- the meaning of a name w, and of the word at an offset
unfoldable pub meaning_in : List ℕ → List ℕ → Scope → Name → Meaning
meaning_in s l scope w =
    cond (eqb scope.pairs 0) (declared_in s l scope w) (paired_or s l scope (pair_in 0 (first (stack_at s scope.pairs)) w) (declared_in s l scope w))

abbrev pub meaning_here : List ℕ → List ℕ → Scope → ℕ → Meaning
meaning_here s l scope p = meaning_in s l scope (map small (word_at s p))

-- what is known on a line, and the pairs at an offset besides, of a procedure after n variables and m parameters
abbrev pub with_pairs : Scope → ℕ → ℕ → ℕ → Scope
with_pairs scope q n m = record { count = scope.count; newest = scope.newest; pairs = q; vars = n; parameters = m }

-- a meaning is that of the definitions; bs holds the places of the bodies so far
pub data Means (σ : Environment) (bs : List ℕ) : Meaning → NameSort → Type 0 where
  a-type : {t : ℕ} → Means σ bs (meaning.Type t) (a_type t)
  a-var : {i : ℕ} (v : Var) → variable σ.vars i ≡ some v → Means σ bs (meaning.Var i v.type v.base) (a_var i)
  a-proc : {q : ℕ} {ts : List ℕ} → Means σ bs (meaning.Proc (get_or bs q 0)) (a_proc q ts)
  a-value : {k n : ℕ} → Means σ bs (meaning.Value k n) (a_value (record { kind = k; value = pos n }))

-- and so it is of a name that may be unknown
pub data Told (σ : Environment) (bs : List ℕ) : Meaning → Option NameSort → Type 0 where
  unknown : Told σ bs meaning.Unknown none
  known : {x : Meaning} {m : NameSort} → Means σ bs x m → Told σ bs x (some m)

-- what an entry at p tells of the meaning of its name
pub record Meant (σ : Environment) (bs l : List ℕ) (p : ℕ) (m : NameSort) : Type 0 where
  pub means : Means σ bs (meaning_at l p) m

-- ---- the environment

pub record Scene (s l ts : List ℕ) (scope : Scope) (top : ℕ) (σ : Environment) (bs : List ℕ) : Type 0 where
  pub names : (w : Name) → Told σ bs (meaning_in s l scope w) (find σ.names w)
  pub below : Below s l top scope.count scope.newest
  pub types : (k : ℕ) → Tells s l (info_of l ts k) (info_at σ.types k)
  pub described : (k : ℕ) → EndsBelow top (info_of l ts k)
  pub table : Table σ.types
  pub fair : AllFair σ.types (length bs) σ.names
  pub fieldless : (t : ℕ) → record? σ.types t ≡ false → (info_at σ.types t).fields ≡ []
  -- a variable's cells have small numbers, on a line with more parameters than it may have, too
  pub cells : (i : ℕ) (v : Var) → variable σ.vars i ≡ some v → v.base + size_of σ.types v.type ≤ 32768
  -- an enum value is of a declared kind, and has one name
  pub above : (w : Name) (c : Const) → find σ.names w ≡ some (a_value c) → 2 ≤ c.kind
  pub once : (v w : Name) (c : Const) → find σ.names v ≡ some (a_value c) → find σ.names w ≡ some (a_value c) → same v w ≡ true
  -- the parameters of a procedure stand with its body
  pub frames : (w : Name) (q : ℕ) (us : List ℕ) → find σ.names w ≡ some (a_proc q us) → TellsFrame l top (get_or bs q 0) us
