-- Document 01, "Names other than fields share one space": what the lines so far have declared.
use Rattle.std.specs.Prelude.{Bool, true, false, cond, List, [], ◌∷◌, ◌++◌, map, ℕ, zero, suc, ◌+◌, pos, ◌-ℤ◌, length, get_or, replicate}
use Rattle.std.proofs.Math.IntN.{suc_ℤ}
use Rattle.leaf_integers.specs.Integers.{least, most}
use Rattle.law.specs.Base.{Name}
use Rattle.law.specs.Calculate.{nat_of}
use Rattle.law.specs.Code.{Frame, Want, any_set, frame, no_frame, ranged}
use Rattle.law.specs.Machine.{lent_cells}
use Rattle.law.specs.Script.{Body, Const, Decl, Entry, alias, array_of, enum, new_main, new_proc, new_type, new_var, range, record_of, set_of}
use Rattle.law.specs.Types.{Field, TypeSort, ordinal_type, set_type, array_type, record_type, Types, undeclared, Vars, cells_of, info_at, ordinal?, size_of}

-- the sorts of name
pub data NameSort : Type 0 where
  a_type a_var : ℕ → NameSort
  a_proc : ℕ → List ℕ → NameSort  -- with its parameters' types
  a_value : Const → NameSort

-- the environment: what a name means, and the types and variables that it may mean
pub record Environment : Type 0 where
  pub names : List (Name × NameSort)
  pub types : Types
  pub vars : Vars
  pub parameters : List ℕ  -- the types of all procedures' parameters so far, each of one cell

-- a body with the tables of its own line
pub record PlacedBody : Type 0 where
  pub types : Types
  pub vars : Vars
  pub frame : Frame
  pub body : Body

-- all that the lines so far have declared
pub record Declared : Type 0 where
  pub env : Environment
  pub cells : List ℕ  -- each cell's type
  pub owners : List Name  -- each cell's variable
  pub type_lines : ℕ
  pub bodies : List PlacedBody  -- of the procedures in their order, main's last
  pub stmts : ℕ  -- statements so far
  pub nodes : ℕ  -- brackets and words so far
  pub ended : Bool  -- whether `main` has come

-- ---- types

-- integer and boolean
abbrev pub built_in : Types
built_in = ordinal_type 0 least most ∷ ordinal_type 1 (pos 0) (pos 1) ∷ []

-- the list n times
unfoldable pub copies : ℕ → List ℕ → List ℕ
copies zero cs = []
copies (suc n) cs = cs ++ copies n cs

-- fields lie one after another
unfoldable pub lay_fields : Types → ℕ → List (Name × ℕ) → List Field
lay_fields Γ a [] = []
lay_fields Γ a (f ∷ fs) = record { name = f.0; type = f.1; offset = a } ∷ lay_fields Γ (a + size_of Γ f.1) fs

-- the cells of all fields
unfoldable pub field_cells : Types → List (Name × ℕ) → List ℕ
field_cells Γ [] = []
field_cells Γ (f ∷ fs) = cells_of Γ f.1 ++ field_cells Γ fs

-- how many values an ordinal type has
abbrev pub value_count : Types → ℕ → ℕ
value_count Γ i = nat_of (suc_ℤ ((info_at Γ i).high -ℤ (info_at Γ i).low))

-- what a declaration says of its type
unfoldable pub type_sort_of : Types → Decl → TypeSort
type_sort_of Γ (alias t) = get_or Γ t undeclared
type_sort_of Γ (enum v vs) = ordinal_type (length Γ) (pos 0) (pos (length vs))
type_sort_of Γ (range a b) = ordinal_type a.kind a.value b.value
type_sort_of Γ (array_of i e) = array_type i e (info_at Γ i).low (info_at Γ i).high (copies (value_count Γ i) (cells_of Γ e))
type_sort_of Γ (record_of fs) = record_type (lay_fields Γ 0 fs) (field_cells Γ fs)
type_sort_of Γ (set_of b) = set_type b (info_at Γ b).low (info_at Γ b).high

-- a type name for a type makes an alias: no new type. Any other declaration is the table's next entry
unfoldable pub extend_types : Types → Decl → Types
extend_types Γ (alias t) = Γ
extend_types Γ (enum v vs) = Γ ++ (type_sort_of Γ (enum v vs) ∷ [])
extend_types Γ (range a b) = Γ ++ (type_sort_of Γ (range a b) ∷ [])
extend_types Γ (array_of i e) = Γ ++ (type_sort_of Γ (array_of i e) ∷ [])
extend_types Γ (record_of fs) = Γ ++ (type_sort_of Γ (record_of fs) ∷ [])
extend_types Γ (set_of b) = Γ ++ (type_sort_of Γ (set_of b) ∷ [])

-- ---- names

-- the names of an enumeration, with their ordinals from n on
unfoldable pub enum_names : ℕ → ℕ → List Name → List (Name × NameSort)
enum_names t n [] = []
enum_names t n (w ∷ ws) = (w, a_value (record { kind = t; value = pos n })) ∷ enum_names t (suc n) ws

-- the names that a `type` line declares
unfoldable pub decl_names : Types → Name → Decl → List (Name × NameSort)
decl_names Γ w (alias t) = (w, a_type t) ∷ []
decl_names Γ w (enum v vs) = (w, a_type (length Γ)) ∷ enum_names (length Γ) 0 (v ∷ vs)
decl_names Γ w (range a b) = (w, a_type (length Γ)) ∷ []
decl_names Γ w (array_of i e) = (w, a_type (length Γ)) ∷ []
decl_names Γ w (record_of fs) = (w, a_type (length Γ)) ∷ []
decl_names Γ w (set_of b) = (w, a_type (length Γ)) ∷ []

-- ---- lines

abbrev pub environment : List (Name × NameSort) → Types → Vars → List ℕ → Environment
environment ns Γ Δ ts = record { names = ns; types = Γ; vars = Δ; parameters = ts }

abbrev pub nothing_declared : Declared
nothing_declared = record { env = environment [] built_in [] []; cells = []; owners = []; type_lines = 0; bodies = []; stmts = 0; nodes = 0; ended = false }

abbrev pub with_body : Environment → Frame → Body → PlacedBody
with_body σ q b = record { types = σ.types; vars = σ.vars; frame = q; body = b }

-- ---- parameters (Point 1): "cells of their own", past those that may be lent

abbrev pub with_parameter : Environment → Name × ℕ → Environment
with_parameter σ p =
    environment ((p.0, a_var (length σ.vars)) ∷ σ.names) σ.types (σ.vars ++ (record { type = p.1; base = lent_cells + length σ.parameters } ∷ [])) (σ.parameters ++ (p.1 ∷ []))

-- a procedure's own environment: "Their names are known in their procedure only"
unfoldable pub within : Environment → List (Name × ℕ) → Environment
within σ [] = σ
within σ (p ∷ ps) = within (with_parameter σ p) ps

abbrev pub parameter_types : List (Name × ℕ) → List ℕ
parameter_types ps = map (λ p. p.1) ps

abbrev pub want_of : Types → ℕ → Want
want_of Γ t = cond (ordinal? Γ t) (ranged (info_at Γ t).low (info_at Γ t).high) any_set

unfoldable pub frame_of : Environment → List (Name × ℕ) → Frame
frame_of σ [] = no_frame
frame_of σ (p ∷ ps) = frame (lent_cells + length σ.parameters) (map (want_of σ.types) (parameter_types (p ∷ ps)))

-- what is known after a line, with the statements and nodes up to its end
unfoldable pub declare_line : Declared → Entry → ℕ → ℕ → Declared
declare_line k (new_type w d) s n = record {
  env = environment (decl_names k.env.types w d ++ k.env.names) (extend_types k.env.types d) k.env.vars k.env.parameters;
  cells = k.cells;
  owners = k.owners;
  type_lines = suc k.type_lines;
  bodies = k.bodies;
  stmts = s;
  nodes = n;
  ended = false;
}
declare_line k (new_var w t) s n = record {
  env = environment ((w, a_var (length k.env.vars)) ∷ k.env.names) k.env.types (k.env.vars ++ (record { type = t; base = length k.cells } ∷ [])) k.env.parameters;
  cells = k.cells ++ cells_of k.env.types t;
  owners = k.owners ++ replicate (size_of k.env.types t) w;
  type_lines = k.type_lines;
  bodies = k.bodies;
  stmts = s;
  nodes = n;
  ended = false;
}
declare_line k (new_proc w ps b) s n = record {
  env = environment ((w, a_proc (length k.bodies) (parameter_types ps)) ∷ k.env.names) k.env.types k.env.vars (within k.env ps).parameters;
  cells = k.cells;
  owners = k.owners;
  type_lines = k.type_lines;
  bodies = k.bodies ++ (with_body (within k.env ps) (frame_of k.env ps) b ∷ []);
  stmts = s;
  nodes = n;
  ended = false;
}
declare_line k (new_main b) s n = record {
  env = k.env;
  cells = k.cells;
  owners = k.owners;
  type_lines = k.type_lines;
  bodies = k.bodies ++ (with_body k.env no_frame b ∷ []);
  stmts = s;
  nodes = n;
  ended = true;
}
