-- The list of a `proc` line's parameters, as the parts after its name (law, Forms: `parameters`), and its stages.
use Rattle.std.specs.Prelude.{Bool, cond, ◌&&◌, ◌||◌, List, [], ◌∷◌, map, ◌≡◌, ℕ, ◌<◌, ◌≤◌, ltb, length, Option as Maybe, Some, None}
use Rattle.std.proofs.Math.Option.{Option, none, some}
use Rattle.leaf_bytes.specs.Bytes.{small, same}
use Rattle.law.specs.Base.{Name, ◌>>=◌, each, given}
use Rattle.law.specs.Environment.{Environment}
use Rattle.law.specs.Names.{distinct, field_names, is_known, none_known, pair_of}
use Rattle.law.specs.Rules.{kept_parameters}
use Rattle.law.specs.Syntax.{TypeName}
use Rattle.law.specs.Trees.{Trees, word, form, end, ◌then◌, Run, first, later, word_at}
use Rattle.law_theorems.specs.Readings.{stack_at}
use Rattle.law.specs.Types.{ordinal?, set?}
use Rattle.rule_stages.specs.Stages.{Staged, named}
use Rattle.rule_faults.specs.declared.Fault.{Fault}
use Rattle.rule_faults.specs.declared.Fault.TheVariants.{Clear, Kind, Name as Unnamed, Form}
use Rattle.rule_faults.specs.Got.{fault_of, lowest}
use Rattle.table_scope.specs.declared.Scope.{Scope}
use Rattle.table_scope.specs.Descriptions.{info_of}
use Rattle.table_scope.specs.Scene.{Scene, meaning_here}
use Rattle.text_heads.specs.Parts.{rest}
use Rattle.rule_declarations.specs.Names.{new_fault}
use Rattle.rule_pairs.specs.Pairs.{pairs_in}
use Rattle.rule_pairs.specs.declared.Pair.{Pair}
use Rattle.rule_pairs.specs.declared.Pairs.{Pairs}
use Rattle.rule_parameters.specs.declared.listing.Listed.{Listed}

-- ---- the parts after a procedure's name

-- the pairs of the list with which they begin, if they do
unfoldable pub list_of : Trees Run → Option (Trees Run)
list_of end = none
list_of (word x then ts) = none
list_of (form end then ts) = none
list_of (form (word x then us) then ts) = none
list_of (form (form vs then us) then ts) = some (form vs then us)

unfoldable pub parameters_by : Option (Trees Run) → Option (List (Name × TypeName))
parameters_by none = some []
parameters_by (some us) = pairs_in us

abbrev pub parameters_in : Trees Run → Option (List (Name × TypeName))
parameters_in us = parameters_by (list_of us)

-- the body's parts
unfoldable pub body_by : Option (Trees Run) → Trees Run → Trees Run
body_by none us = us
body_by (some vs) us = rest us

abbrev pub body_part : Trees Run → Trees Run
body_part us = body_by (list_of us) us

-- ---- where they stand

-- p, if the parts there begin with a form
unfoldable pub list_after : Trees Run → ℕ → Maybe ℕ
list_after end p = None
list_after (word x then ts) p = None
list_after (form us then ts) p = Some p

-- the pairs of the list at an offset stand at q
pub record AList (s : List ℕ) (at q : ℕ) : Type 0 where
  pub from : 1 ≤ q
  pub within : q ≤ length s
  pub here : list_of (first (stack_at s at)) ≡ some (first (stack_at s q))
  pub past : rest (first (stack_at s at)) ≡ first (later (stack_at s q))
  pub around : later (stack_at s at) ≡ later (later (stack_at s q))

abbrev pub StartsListBy : List ℕ → ℕ → Maybe ℕ → Type 0
StartsListBy s at (Some q) = AList s at q
StartsListBy s at None = list_of (first (stack_at s at)) ≡ none

pub record StartsList (s : List ℕ) (at : ℕ) (r : Maybe ℕ) : Type 0 where
  pub says : StartsListBy s at r

-- ---- stages

-- the parameters' names "repeat no known name, one another's or the procedure's", which is w; whether w is known is asked by itself
unfoldable pub list_new : Environment → Name → List (Name × ℕ) → Bool
list_new σ w qs = distinct σ (w ∷ field_names σ qs) && none_known σ (field_names σ qs)

unfoldable pub list_staged : Environment → Name → List (Name × TypeName) → Staged (List (Name × ℕ))
list_staged σ w ps = named (each (pair_of σ) ps >>= λ qs. given (list_new σ w qs) qs) (kept_parameters σ.types) some

-- of one parameter
unfoldable pub kind_fault : Bool → Fault
kind_fault b = cond b Clear Kind

unfoldable pub pair_fault : Environment → Name → Name × ℕ → Fault
pair_fault σ w q = cond (same q.0 w || is_known σ q.0) Unnamed (kind_fault (ordinal? σ.types q.1 || set? σ.types q.1))

-- of all, after a fault f
unfoldable pub faults_from : Environment → Name → Fault → List (Name × ℕ) → Fault
faults_from σ w f [] = f
faults_from σ w f (q ∷ qs) = faults_from σ w (lowest f (pair_fault σ w q)) qs

-- ---- answers

-- the fault of a pair by the tables, as the code finds it; the procedure's name stands at `own`
unfoldable pub fault_by : List ℕ → List ℕ → List ℕ → Scope → ℕ → Pair → Fault
fault_by s l ts scope own x =
    cond (same (map small (word_at s x.name)) (map small (word_at s own))) (lowest (kind_fault (ltb (info_of l ts x.kind).shape 2)) Unnamed)
    (new_fault (kind_fault (ltb (info_of l ts x.kind).shape 2)) (meaning_here s l scope x.name))

-- the pairs from an offset on, whose types are known
pub record GivesFaults (s l ts : List ℕ) (scope : Scope) (own at : ℕ) (f : Fault) : Type 0 where
  pub says : (top : ℕ) (σ : Environment) (bs : List ℕ) → Scene s l ts scope top σ bs → (ps : List (Name × TypeName)) (qs : List (Name × ℕ)) → pairs_in (first (stack_at s at)) ≡ some ps
      → each (pair_of σ) ps ≡ some qs → f ≡ faults_from σ (map small (word_at s own)) Clear qs

abbrev pub no_list : ℕ → Listed
no_list at = record { fault = Clear; count = 0; pairs = 0; next = at }

abbrev pub listed_by : Pairs → Fault → ℕ → Listed
listed_by c f q = record { fault = f; count = c.names; pairs = q; next = c.next }

pub data ListTold (s : List ℕ) (σ : Environment) (w : Name) (at : ℕ) (c : Listed) : Type 0 where
  list-none : list_of (first (stack_at s at)) ≡ none → c ≡ no_list at → ListTold s σ w at c
  list-wrong : parameters_in (first (stack_at s at)) ≡ none → c.fault ≡ Form → ListTold s σ w at c
  list_read : (p : Name × TypeName) (ps : List (Name × TypeName)) → list_of (first (stack_at s at)) ≡ some (first (stack_at s c.pairs)) → pairs_in (first (stack_at s c.pairs)) ≡ some (p ∷ ps)
      → 1 ≤ c.pairs → c.pairs ≤ length s → first (stack_at s c.next) ≡ rest (first (stack_at s at)) → later (stack_at s at) ≡ later (stack_at s c.next)
      → (length (p ∷ ps) ≤ 1000 → c.count ≡ length (p ∷ ps)) → (1000 < length (p ∷ ps) → c.count ≡ 1000) → c.fault ≡ fault_of (list_staged σ w (p ∷ ps)) → ListTold s σ w at c

-- the procedure's name stands at `own`, the parts after it at `at`
pub record GivesList (s l ts : List ℕ) (scope : Scope) (own at : ℕ) (c : Listed) : Type 0 where
  pub says : (top : ℕ) (σ : Environment) (bs : List ℕ) → Scene s l ts scope top σ bs → ListTold s σ (map small (word_at s own)) at c
