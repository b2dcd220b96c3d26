-- What the loose judge of lines knows after some lines: as the checker does (judge, specs, Judging), but no code stands. A procedure's name
-- means the place of a node with its number and its frame, and every body has its line in the bodies' table.
use Rattle.std.specs.Prelude.{Bool, true, false, List, map, ◌≡◌, ℕ, suc, ◌+◌, ◌-◌, ◌*◌, ◌<◌, ◌≤◌, length, get_or}
use Rattle.std.proofs.Math.Option.{some}
use Rattle.law.specs.Base.{Name, find}
use Rattle.law.specs.Code.{Frame, no_frame}
use Rattle.law.specs.Environment.{Declared, PlacedBody, a_proc, want_of}
use Rattle.law.specs.Types.{Types}
use Rattle.law_theorems.specs.LinesKeep.{Extends, frames_of}
use Rattle.law_theorems.specs.TypeSizes.{SmallTypes}
use Rattle.rule_declarations.specs.State.{Holds}
use Rattle.table_bodies.specs.Table.{types_of, BodyStands, NodeStands}
use Rattle.rule_known.specs.declared.Known.{Known}

-- procedure p is one of those with the frames qs, and takes parameters of the types us
pub record CallKept (Γ : Types) (qs : List Frame) (p : ℕ) (us : List ℕ) : Type 0 where
  pub below : p < length qs
  pub wants-are : (get_or qs p no_frame).wants ≡ map (want_of Γ) us

-- body q stands, below the free place top; its types are the first of the types Γ of the lines so far, whose bodies have the frames qs
pub record BodyKept (s l ts tb bs : List ℕ) (top : ℕ) (Γ : Types) (qs : List Frame) (pb : PlacedBody) (q : ℕ) : Type 0 where
  pub stands : BodyStands s l ts tb bs pb q
  pub low : stands.top ≤ top
  pub types_are : types_of tb q ≡ length pb.types
  pub two : 2 ≤ length pb.types
  pub extends : Extends pb.types Γ
  pub calls : (w : Name) (p : ℕ) (us : List ℕ) → find stands.env.names w ≡ some (a_proc p us) → CallKept stands.env.types qs p us

-- the node of procedure q at p, and its frame, stand below the free place
pub record NodeKept (l : List ℕ) (top p q : ℕ) (f : Frame) : Type 0 where
  pub node : NodeStands l p q f
  pub low : p + 5 ≤ top
  pub frame-low : get_or l (p + 4) 0 + 2 ≤ top

-- how many of n bodies are procedures': all before `main` has come
abbrev pub procs_of : Bool → ℕ → ℕ
procs_of false n = n
procs_of true n = n - 1

-- all bodies and the nodes of the first n
pub record AllKept (s l ts tb bs : List ℕ) (top : ℕ) (Γ : Types) (pbs : List PlacedBody) (n : ℕ) : Type 0 where
  pub each : (none : PlacedBody) (q : ℕ) → q < length pbs → BodyKept s l ts tb bs top Γ (frames_of pbs) (get_or pbs q none) q
  pub nodes : (q : ℕ) → q < n → NodeKept l top (get_or bs q 0) q (get_or (frames_of pbs) q no_frame)
  pub procs : n ≤ length pbs
  pub most : length pbs ≤ suc n

-- the tables hold what the lines so far declared; the nodes of procedures stand at places
pub record LooseStanding (s l ts tb : List ℕ) (kn : Known) (k : Declared) : Type 0 where
  pub places : List ℕ
  pub holds : Holds s l ts kn.state k places
  pub stmts-are : kn.stmts ≡ k.stmts
  pub nodes-are : kn.nodes ≡ k.nodes
  pub ended_is : kn.ended ≡ k.ended
  pub two : 2 ≤ length k.env.types
  pub small : SmallTypes k.env.types
  pub few-stmts : k.stmts ≤ k.nodes
  pub few-nodes : k.nodes ≤ 4096
  pub room : kn.state.top ≤ 1 + 4 * k.nodes
  pub few-procs : k.ended ≡ false → length k.bodies ≤ 32
  pub few-bodies : length k.bodies ≤ 33
  pub main-there : k.ended ≡ true → 1 ≤ length k.bodies
  pub long-table : 264 ≤ length tb
  pub bodies : AllKept s l ts tb places kn.state.top k.env.types k.bodies (procs_of k.ended (length k.bodies))
