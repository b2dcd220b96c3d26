-- What accepted lines keep of the ceilings, and of the code of their bodies. The laws are in proofs/.
use Rattle.std.specs.Prelude.{◌≡◌, true, false, List, map, ◌≤◌, length}
use Rattle.law.specs.Code.{BodyCode}
use Rattle.law.specs.Environment.{Declared}
use Rattle.law_theorems.specs.TypeSizes.{SmallTypes}
use Rattle.law_theorems.specs.LinesKeep.{Keeps, frames_of}
use Rattle.law_theorems.specs.CodeCalls.{CallsBody, frame_by}
use Rattle.law_theorems.specs.CodeSized.{SizedBody}
use Rattle.code.specs.CodeReady.{ReadyBody}
use Rattle.law_theorems.specs.Bodies.{Bodies}

pub record Measured (k : Declared) (cs : List BodyCode) : Type 0 where
  pub keeps : Keeps k
  pub small : SmallTypes k.env.types
  pub cells : length k.cells ≤ 2048
  pub stmts : k.stmts ≤ k.nodes
  pub nodes : k.nodes ≤ 4096
  pub long : length cs ≡ length k.bodies
  pub frames : map (λ (c : BodyCode). c.frame) cs ≡ frames_of k.bodies
  pub procs : k.ended ≡ false → length cs ≤ 32
  pub most : length cs ≤ 33
  pub main : k.ended ≡ true → 1 ≤ length cs
  pub calls : Bodies (CallsBody (frame_by cs)) 0 cs
  pub sized : Bodies (λ _. SizedBody) 0 cs
  pub ready : Bodies (λ _. ReadyBody 31) 0 cs
