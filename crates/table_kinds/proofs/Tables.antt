-- The tables of types that the declarations build have what the theorems on kinds ask of them.
use mathlib.Core.Path.{◌≡◌}
use mathlib.Core.Bool.{true}
use mathlib.Core.List.{List}
use Prim.Native.Nat.{ℕ}
use Rattle.law.specs.Types.{Types, info_at, ordinal?, set?, base_of}
use Rattle.law.specs.Verdict.{Read, accepted}
use Rattle.law.specs.Whole.{verdict_of}
use Rattle.law_theorems.proofs.TypeTables.{host-is}
use Rattle.law_theorems.specs.TypeTables.{Table}
use Rattle.law_theorems.proofs.LinesKeep.{text-keeps}
use Rattle.table_kinds.specs.Kinds.{Kinded}

pub table-kinded : (Γ : Types) → Table Γ → Kinded Γ
table-kinded Γ T = record { integers = T.integers.0; booleans = T.booleans.0; bases = λ k h. base k h }
  where
    base : (k : ℕ) → set? Γ k ≡ true → ordinal? Γ (base_of Γ k) ≡ true
    base k h =
        let t = (info_at Γ k).element in
        let o : ordinal? Γ t ≡ true = ((T.each k).base h).1 in
        rw (host-is (info_at Γ t).shape t (info_at Γ t).host o) ((T.each t).host o).1

-- so it is of every accepted text
pub text-kinded : (text : List ℕ) (work : ℕ) (r : Read) → verdict_of text work ≡ accepted r → Kinded r.known.env.types
text-kinded text work r h = table-kinded r.known.env.types (text-keeps text work r h).table
