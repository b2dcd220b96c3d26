-- The bodies' table: body q, procedures in their order and main last, has eight numbers from 8q on: the offset of its first part in the
-- text, the number of the last statement before it, how many types its environment has, and the five numbers of its scope. A body is run with
-- the names and types of its own line. In the working list a procedure has a node that begins with its number and leads to its frame.
use Rattle.std.specs.Prelude.{List, map, ◌≡◌, ℕ, suc, ◌+◌, ◌*◌, ◌<◌, ◌≤◌, length, get_or, take}
use Rattle.std.proofs.Math.Option.{some}
use Rattle.law.specs.Base.{Name, find}
use Rattle.law.specs.Code.{Frame}
use Rattle.law.specs.Environment.{Environment, PlacedBody, a_proc, want_of}
use Rattle.law.specs.Names.{body_of}
use Rattle.law.specs.Syntax as Syntax
use Rattle.law.specs.Trees.{first}
use Rattle.law_theorems.specs.Readings.{stack_at}
use Rattle.law_theorems.specs.TypeSizes.{SmallTypes}
use Rattle.text_heads.specs.Parts.{body_in}
use Rattle.table_scope.specs.declared.Scope.{Scope}
use Rattle.table_scope.specs.Frames.{frame_in}
use Rattle.table_scope.specs.Scene.{Scene}

-- how many types a body may see: 64 declared ones and the two built-in
abbrev pub most_types : ℕ
most_types = 66

-- the places of the first n types
unfoldable pub clip : ℕ → List ℕ → List ℕ
clip n ts = take n ts

-- ts', which was ts₀, holds them, and 0 from n on
pub record Clips (ts : List ℕ) (n : ℕ) (ts₀ ts' : List ℕ) : Type 0 where
  pub long : length ts' ≡ length ts₀
  pub places : n ≤ length ts₀ → (k : ℕ) → get_or ts' k 0 ≡ get_or (clip n ts) k 0

-- ---- a body's numbers in the table tb

abbrev pub offset_of : List ℕ → ℕ → ℕ
offset_of tb q = get_or tb (8 * q) 0

abbrev pub stmts_before : List ℕ → ℕ → ℕ
stmts_before tb q = get_or tb (8 * q + 1) 0

abbrev pub types_of : List ℕ → ℕ → ℕ
types_of tb q = get_or tb (8 * q + 2) 0

abbrev pub scope_of : List ℕ → ℕ → Scope
scope_of tb q = record {
  count = get_or tb (8 * q + 3) 0;
  newest = get_or tb (8 * q + 4) 0;
  pairs = get_or tb (8 * q + 5) 0;
  vars = get_or tb (8 * q + 6) 0;
  parameters = get_or tb (8 * q + 7) 0;
}

-- body q stands so: its environment, and what its parts read as; bs holds the places of the procedures' nodes
pub record BodyStands (s l ts tb bs : List ℕ) (pb : PlacedBody) (q : ℕ) : Type 0 where
  pub env : Environment
  pub top : ℕ
  pub form : Syntax.Body
  pub last : ℕ
  pub scene : Scene s l (clip (types_of tb q) ts) (scope_of tb q) top env (take q bs)
  pub before : q ≤ length bs
  pub reads : body_in (stmts_before tb q) (first (stack_at s (offset_of tb q))) ≡ some (form, last)
  pub names : body_of env form ≡ some pb.body
  pub types_are : pb.types ≡ env.types
  pub vars-are : pb.vars ≡ env.vars
  pub few-types : types_of tb q ≤ most_types
  -- the types keep the ceilings, and the statements' numbers have 32 bits
  pub small : SmallTypes env.types
  pub few : last ≤ 4294967295

-- the node at p is that of procedure q, whose parameters have the frame f
pub record NodeStands (l : List ℕ) (p q : ℕ) (f : Frame) : Type 0 where
  pub number_is : get_or l p 0 ≡ q
  pub base-is : (frame_in l p).base ≡ f.base
  pub count-is : (frame_in l p).count ≡ length f.wants

-- all bodies stand so, and the nodes of the procedures, which are all but the last
pub record AllStand (s l ts tb bs : List ℕ) (pbs : List PlacedBody) (none : PlacedBody) : Type 0 where
  pub each : (q : ℕ) → q < length pbs → BodyStands s l ts tb bs (get_or pbs q none) q
  pub nodes : (q : ℕ) → suc q < length pbs → NodeStands l (get_or bs q 0) q (get_or pbs q none).frame
  -- what a procedure takes that a body calls
  pub callees : (q : ℕ) (h : q < length pbs) (w : Name) (p : ℕ) (us : List ℕ) → find (each q h).env.names w ≡ some (a_proc p us) → (get_or pbs p none).frame.wants ≡ map (want_of (each q h).env.types) us
