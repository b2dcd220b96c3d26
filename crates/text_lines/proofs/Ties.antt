-- What the passes say of a line at an offset, in the definitions' own words: its place among the lines, its one form (row 4).
use mathlib.Core.Path.{◌≡◌, refl, ap, ◌∙◌}
use mathlib.Core.Bool.{Bool, true, false, cond, ◌&&◌}
use mathlib.Core.List.{List, [], ◌∷◌}
use mathlib.Core.Option.{none, some}
use Prim.Native.Nat.{ℕ, suc, ◌<◌}
use native.Mathlib.Omega.{arith}
use borrow.Author.Tests.{eqb-true}
use lib.Dec.{eqb}
use lib.ListN.{length, get_or, drop}
use lib.Seq.{drop-cons}
use Rattle.leaf_bytes.specs.Bytes.{class_of}
use Rattle.law.specs.Base.{◌>>=◌, given}
use Rattle.law.specs.Lines.{Line, line, in_front, lines_of}
use Rattle.law.specs.Trees.{form, Trees, end, ◌then◌, Run, Place, before, is_after, past, balanced, first, single, form_of}
use Rattle.law_theorems.specs.Readings.{Reading, reading, ended, with_byte, read_bytes, rest_at, stack_at}
use Rattle.law_theorems.proofs.Reading.{trees-read}
use Rattle.law_theorems.proofs.Balance.{Reads, one, reads}
use Rattle.text_lines.specs.Passes.{line_at, after_line, balanced_from}

-- ---- the lines from an offset on: its own, and those after it

cut : (b : ℕ) (s : List ℕ) (t : Bool) → lines_of s ≡ line_at s ∷ lines_of (after_line s) → (ls : List Line) → ls ≡ lines_of s
    → elim t [ true ↦ line [] true ∷ ls | false ↦ in_front b ls ] ≡ cond t (line [] true) (line (b ∷ (line_at s).bytes) (line_at s).fed) ∷ lines_of (cond t s (after_line s))
unfolding in_front
cut b s true h ls e = rw e
cut b s false h ls e = rw (e, h)

pub lines_cons : (b : ℕ) (s : List ℕ) → lines_of (b ∷ s) ≡ line_at (b ∷ s) ∷ lines_of (after_line (b ∷ s))
unfolding lines_of line_at after_line in_front
lines_cons b [] = go (eqb b 10)
  where
    go : (t : Bool) → elim t [ true ↦ line [] true ∷ [] | false ↦ in_front b [] ] ≡ cond t (line [] true) (line (b ∷ []) false) ∷ lines_of (cond t [] [])
    go true = refl
    go false = refl
lines_cons b (c ∷ s) = cut b (c ∷ s) (eqb b 10) (lines_cons c s) (lines_of (c ∷ s)) refl

pub lines_at : (s : List ℕ) (p q : ℕ) → p < length s → drop q s ≡ after_line (drop p s) → lines_of (drop p s) ≡ line_at (drop p s) ∷ lines_of (drop q s)
lines_at s p q h e = let f : drop p s ≡ get_or s p 0 ∷ drop (suc p) s = drop-cons s p 0 h in rw (e, f) (lines_cons (get_or s p 0) (drop (suc p) s))

-- ---- row 4

pub balanced-line : (s : List ℕ) (p : Place) → ((line_at s).fed && balanced (line_at s).bytes p) ≡ balanced_from s p
unfolding line_at balanced balanced_from
balanced-line [] p = refl
balanced-line (b ∷ s) p = go (eqb b 10) (balanced-line s (past (class_of b) p))
  where
    go : (t : Bool) → ((line_at s).fed && balanced (line_at s).bytes (past (class_of b) p)) ≡ balanced_from s (past (class_of b) p)
        → ((cond t (line [] true) (line (b ∷ (line_at s).bytes) (line_at s).fed)).fed && balanced (cond t (line [] true) (line (b ∷ (line_at s).bytes) (line_at s).fed)).bytes p)
        ≡ cond t (is_after p) (balanced_from s (past (class_of b) p))
    go true h = refl
    go false h = h

-- a line reads as the text does from its beginning on
pub read-line : (s : List ℕ) → read_bytes (line_at s).bytes ≡ read_bytes s
unfolding line_at read_bytes with_byte class_of
read-line [] = refl
read-line (b ∷ s) = go (eqb b 10) refl (read-line s)
  where
    feed : (r : Reading) → reading [] [] ≡ with_byte (class_of 10) 10 r
    feed r = refl

    go : (t : Bool) → eqb b 10 ≡ t → read_bytes (line_at s).bytes ≡ read_bytes s
        → read_bytes (cond t (line [] true) (line (b ∷ (line_at s).bytes) (line_at s).fed)).bytes ≡ with_byte (class_of b) b (read_bytes s)
    go true e h = rw (eqb-true b 10 e) (feed (read_bytes s))
    go false e h = ap (with_byte (class_of b) b) h

module _ (s : List ℕ) (p : ℕ) where
  abbrev here : Line
  here = line_at (drop p s)

  -- the line's one form is all that stands there
  pub formed : balanced_from (drop p s) before ≡ true → (f : Trees Run) × (form_of here ≡ some (form f)) × (stack_at s p ≡ (form f then end) ∷ [])
  unfolding form_of single given ◌>>=◌ stack_at rest_at
  formed h = go here.fed (balanced here.bytes before) refl refl (balanced-line (drop p s) before ∙ h)
    where
      read : (r : Reading) → read_bytes here.bytes ≡ r → Reads before r
          → (f : Trees Run) × (single (first (ended r.begun r.stack)) ≡ some (form f)) × (ended (read_bytes (drop p s)).begun (read_bytes (drop p s)).stack ≡ (form f then end) ∷ [])
      read r e (one f g) = (f, rw g, rw (← read-line (drop p s), e, g))

      go : (a b : Bool) → here.fed ≡ a → balanced here.bytes before ≡ b → (here.fed && balanced here.bytes before) ≡ true
          → (f : Trees Run) × (form_of here ≡ some (form f)) × (ended (read_bytes (drop p s)).begun (read_bytes (drop p s)).stack ≡ (form f then end) ∷ [])
      go true true e g k = rw (e, g, trees-read here.bytes) (read (read_bytes here.bytes) refl (reads here.bytes before g))
      go true false e g k = absurd (let z : false ≡ true = rw (e, g) at k in let y : ◌≡◌ {A = ℕ} 0 1 = cc in omega arith)
      go false b e g k = absurd (let z : false ≡ true = rw e at k in let y : ◌≡◌ {A = ℕ} 0 1 = cc in omega arith)

  pub unformed : balanced_from (drop p s) before ≡ false → form_of here ≡ none
  unfolding form_of given ◌>>=◌
  unformed h = go here.fed (balanced here.bytes before) refl refl (balanced-line (drop p s) before ∙ h)
    where
      go : (a b : Bool) → here.fed ≡ a → balanced here.bytes before ≡ b → (here.fed && balanced here.bytes before) ≡ false → form_of here ≡ none
      go true true e g k = absurd (let z : true ≡ false = rw (e, g) at k in let y : ◌≡◌ {A = ℕ} 0 1 = cc in omega arith)
      go true false e g k = rw (e, g)
      go false b e g k = rw e
