-- How the body of a procedure begins: the types of its parameters and their frame are laid, and it has a scope of its own.
use Rattle.std.specs.Prelude.{Bool, true, false, cond, ◌&&◌, List, [], ◌∷◌, map, ◌≡◌, ℕ, ◌+◌, ◌%◌, ◌≤◌, eqb, leb, ltb, length}
use Rattle.std.proofs.Math.Option.{some}
use Rattle.law.specs.Base.{Name, each}
use Rattle.law.specs.Code.{frame}
use Rattle.law.specs.Environment.{Environment, parameter_types, want_of}
use Rattle.law.specs.Names.{pair_of}
use Rattle.law.specs.Syntax.{TypeName}
use Rattle.law.specs.Trees.{first}
use Rattle.law_theorems.specs.Readings.{stack_at}
use Rattle.code.specs.Layout.{Out, out, lay, lay_wants, lay_frame}
use Rattle.code.specs.LayoutRegions.{Same}
use Rattle.rule_faults.specs.declared.Fault.{Fault}
use Rattle.rule_faults.specs.declared.Fault.TheVariants.{Clear, Kind, Name as Unnamed, Form}
use Rattle.table_scope.specs.declared.Info.{Info}
use Rattle.table_scope.specs.declared.Scope.{Scope}
use Rattle.table_scope.specs.Scene.{Scene, with_pairs}
use Rattle.rule_declarations.specs.State.{body_state, with_names, with_parameters}
use Rattle.rule_declarations.specs.Vars.{vars_fit}
use Rattle.rule_declarations.specs.declared.State.{State}
use Rattle.rule_pairs.specs.Pairs.{pairs_in}
use Rattle.rule_parameters.specs.declared.framing.Framed.{Framed}
use Rattle.rule_parameters.specs.declared.framing.Opened.{Opened}
use Rattle.rule_parameters.specs.declared.listing.Listed.{Listed}

-- ---- the scope

abbrev pub lets_in : Fault → Bool
lets_in Clear = true
lets_in Kind = true
lets_in Unnamed = false
lets_in Form = false

unfoldable pub scope_after : State → Listed → Scope
scope_after st c = cond (eqb c.pairs 0) st.scope (cond (lets_in c.fault) (with_pairs st.scope c.pairs st.vars st.parameters) st.scope)

-- ---- what is laid: types, then the frame

unfoldable pub lay_types : List ℕ → ℕ → List ℕ → Out
lay_types [] t l = out t t l
lay_types (k ∷ ks) t l =
    let x = lay (k ∷ []) t l in
    lay_types ks x.top x.list

-- of parameters of the types us from cell a on
unfoldable pub lay_opening : ℕ → List ℕ → Environment → ℕ → List ℕ → Out
lay_opening a us σ t l =
    let x = lay_types us t l in
    lay_frame (frame a (map (want_of σ.types) us)) x.top x.list

-- what a parameter takes whose type x describes
unfoldable pub want_by : Info → List ℕ
want_by x = cond (eqb x.shape 0) (x.low ∷ x.high ∷ []) (1 ∷ 0 ∷ [])

-- the list is kept below the free place
pub record Above (top : ℕ) (l : List ℕ) (r : ℕ) (l' : List ℕ) : Type 0 where
  pub keeps : Same 0 top l' l
  pub long : length l' ≡ length l
  pub up : top ≤ r

-- the parameters of the n pairs at an offset have the types us
pub record Typed (s : List ℕ) (σ : Environment) (n at : ℕ) (us : List ℕ) : Type 0 where
  pub read : List (Name × TypeName)
  pub pairs : List (Name × ℕ)
  pub read_is : pairs_in (first (stack_at s at)) ≡ some read
  pub pairs-are : each (pair_of σ) read ≡ some pairs
  pub types_are : us ≡ parameter_types pairs
  pub count-is : n ≡ length read

-- `lay_types`, `lay_wants`: the tables hold σ below the free place
pub record LaysTypes (s l : List ℕ) (scope : Scope) (n at top r : ℕ) (l' : List ℕ) : Type 0 where
  pub above : Above top l r l'
  pub says : (ts : List ℕ) (low : ℕ) (σ : Environment) (bs : List ℕ) → Scene s l ts scope low σ bs → low ≤ top → (us : List ℕ) → Typed s σ n at us
      → (r ≡ (lay_types us top l).top) × (l' ≡ (lay_types us top l).list)

pub record LaysWants (s l ts : List ℕ) (scope : Scope) (n at top r : ℕ) (l' : List ℕ) : Type 0 where
  pub above : Above top l r l'
  pub says : (low : ℕ) (σ : Environment) (bs : List ℕ) → Scene s l ts scope low σ bs → low ≤ top → (us : List ℕ) → Typed s σ n at us
      → (r ≡ (lay_wants (map (want_of σ.types) us) top l).top) × (l' ≡ (lay_wants (map (want_of σ.types) us) top l).list)

abbrev pub base_of : State → ℕ
base_of st = 2048 + st.parameters % 2048

-- `lay_frame`, `frame_after`
pub record LaysFrame (s l ts : List ℕ) (st : State) (n at : ℕ) (f : Framed) (l' : List ℕ) : Type 0 where
  pub above : Above st.top l f.top l'
  pub says : (σ : Environment) (bs : List ℕ) → Scene s l ts st.scope st.top σ bs → (us : List ℕ) → Typed s σ n at us → 1 ≤ n
      → out f.place f.top l' ≡ lay_opening (base_of st) us σ st.top l

-- row 9
unfoldable pub parameters_fit : State → ℕ → Bool
parameters_fit st n = leb n 8 && vars_fit st n n

unfoldable pub proc_fits : State → ℕ → Bool
proc_fits st n = ltb st.procs 32 && parameters_fit st n

-- a procedure of n parameters more: its entry stands at t, the free place then is u
abbrev pub proc_state : State → ℕ → ℕ → ℕ → State
proc_state st n t u = with_parameters (body_state (with_names st 1 t u) u) n

abbrev pub nothing_framed : State → Framed
nothing_framed st = record { place = 0; top = st.top }

pub record FramesList (s l ts : List ℕ) (st : State) (c : Listed) (f : Framed) (l' : List ℕ) : Type 0 where
  pub above : Above st.top l f.top l'
  pub none : c.count ≡ 0 → (f ≡ nothing_framed st) × (l' ≡ l)
  pub says : c.fault ≡ Clear → parameters_fit st c.count ≡ true → 1 ≤ c.count → (σ : Environment) (bs : List ℕ) → Scene s l ts st.scope st.top σ bs
      → (us : List ℕ) → Typed s σ c.count c.pairs us → out f.place f.top l' ≡ lay_opening (base_of st) us σ st.top l

-- ---- the body

abbrev pub opened_by : State → Listed → Framed → Opened
opened_by st c f = record { scope = scope_after st c; frame = f.place; at = c.next; top = f.top }

pub record Opens (s l ts : List ℕ) (st : State) (c : Listed) (o : Opened) (l' : List ℕ) : Type 0 where
  pub framed : Framed
  pub frames : FramesList s l ts st c framed l'
  pub opened : o ≡ opened_by st c framed

abbrev pub opened_main : State → ℕ → Opened
opened_main st at = record { scope = st.scope; frame = 0; at = at; top = st.top }
