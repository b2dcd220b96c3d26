-- What is declared and the code of the bodies take at most 4 numbers for each bracket and word. The laws are in proofs/.
use Rattle.std.specs.Prelude.{Bool, true, false, List, ℕ, ◌+◌, ◌*◌, ◌≤◌, length}
use Rattle.law.specs.Environment.{Declared}
use Rattle.law.specs.Code.{BodyCode}
use Rattle.code.specs.LayoutSize.{size_bodies, size_symbols}

-- what the last line leaves over
abbrev pub spare : Bool → ℕ
spare true = 1
spare false = 0

-- what is declared and the code of the bodies, within 4 numbers for each bracket and word; these within their ceiling
pub record Room (k : Declared) (cs : List BodyCode) : Type 0 where
  pub two : 2 ≤ length k.env.types
  pub within : size_symbols k.env + size_bodies cs + spare k.ended ≤ 4 * k.nodes
  pub bounded : k.nodes ≤ 4096
