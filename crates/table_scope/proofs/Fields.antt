-- A field looked up by name.
use mathlib.Core.Path.{◌≡◌, refl, sym, ◌∙◌}
use mathlib.Core.Bool.{Bool, true, false, cond}
use mathlib.Core.List.{List, map}
use Prim.Native.Nat.{ℕ, zero, suc, ◌+◌, ◌*◌, ◌-◌, ◌<◌, ◌≤◌}
use native.Mathlib.Omega.{arith}
use mir.Syntax.{w32}
use mir.Val.{Fits}
use lib.ListN.{get_or}
use Rattle.leaf_bytes.specs.Bytes.{small, same}
use Rattle.law.specs.Base.{Name}
use Rattle.law.specs.Trees.{word_at}
use Rattle.table_scope.specs.Descriptions.{field_place}

-- the field at q, then those after it
asked : (s l : List ℕ) (w : Name) (q n : ℕ) → 0 < n
    → field_place s l q n w ≡ cond (same (map small (word_at s (get_or l q 0))) w) q (field_place s l (q + 4) (n - 1) w)
unfolding field_place
asked s l w q zero h = absurd (omega arith)
asked s l w q (suc n) h = let z : suc n - 1 ≡ n = omega arith in rw z refl

-- the fields from field j on are still to be asked
pub record Asking (s l : List ℕ) (w : Name) (place fields j : ℕ) : Type 0 where
  pub same-field : field_place s l (place + 8) fields w ≡ field_place s l (place + 8 + 4 * j) (fields - j) w

module _ (s l : List ℕ) (w : Name) (place fields : ℕ) where
  pub ask-start : Asking s l w place fields 0
  ask-start = let a : place + 8 + 4 * 0 ≡ place + 8 = omega arith in let b : fields - 0 ≡ fields = omega arith in record { same-field = rw (a, b) refl }

  module _ (j : ℕ) (A : Asking s l w place fields j) where
    pub ask-none : fields ≤ j → place + 8 + 4 * fields ≤ 4294967296 → 0 ≡ field_place s l (place + 8) fields w
    unfolding field_place
    ask-none h g = let z : fields - j ≡ 0 = omega arith in sym (A.same-field ∙ rw z refl)

    module _ (h : j < fields) (name : ℕ) (e : name ≡ get_or l (place + 8 + 4 * j) 0) (b : Bool) (t : b ≡ same (map small (word_at s name)) w) where
      told : same (map small (word_at s (get_or l (place + 8 + 4 * j) 0))) w ≡ b
      told = rw (← e) (sym t)

      left : 0 < fields - j
      left = omega arith

      pub ask-found : b ≡ true → (r : ℕ) → (place + 8 + 4 * j < 4294967296 → r ≡ place + 8 + 4 * j) → place + 8 + 4 * fields ≤ 4294967296
          → r ≡ field_place s l (place + 8) fields w
      ask-found g r f k = f (omega arith) ∙ sym (A.same-field ∙ asked s l w (place + 8 + 4 * j) (fields - j) left ∙ rw (told, g) refl)

      pub ask-on : b ≡ false → Asking s l w place fields (j + 1)
      ask-on g =
          let x : place + 8 + 4 * j + 4 ≡ place + 8 + 4 * (j + 1) = omega arith in
          let y : fields - j - 1 ≡ fields - (j + 1) = omega arith in
          record { same-field = A.same-field ∙ asked s l w (place + 8 + 4 * j) (fields - j) left ∙ rw (told, g, x, y) refl }

pub ruleset ask-laws = (ask-none, ask-found, ask-on)
