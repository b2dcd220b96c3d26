-- Document 02, Point 3: what an array or a record is given, as it was elaborated, is a copy or is of one cell; both run as one act does.
use mathlib.Core.Path.{◌≡◌, refl}
use mathlib.Core.Bool.{Bool, true, false, cond}
use Prim.Native.Nat.{ℕ}
use Rattle.law.specs.Chair.{run_act}
use Rattle.law.specs.Code.{Act, Code, Place, assign_cell, calculate, calculate1, copy_cells, last_number, literal, load, make_set, short_cut}
use Rattle.law.specs.Elaborate.{copying}
use Rattle.law.specs.Machine.{Procs}

pub copying-by : (P : Act → Type 0) (n : ℕ) (p : Place) (c : Code) → P (assign_cell n p c) → ((q : Place) (k : ℕ) → c ≡ load q k → P (copy_cells n p q k)) → P (copying n p c)
unfolding copying
copying-by P n p (literal z) f g = f
copying-by P n p (load q k) f g = g q k refl
copying-by P n p last_number f g = f
copying-by P n p (make_set lo hi cs) f g = f
copying-by P n p (calculate o a b) f g = f
copying-by P n p (short_cut q a b) f g = f
copying-by P n p (calculate1 o a) f g = f

-- of a target that is no ordinal: b tells a set
pub wholly-by : (P : Act → Type 0) (b : Bool) (n : ℕ) (p : Place) (c : Code) → P (assign_cell n p c) → ((q : Place) (k : ℕ) → c ≡ load q k → P (copy_cells n p q k))
    → P (cond b (assign_cell n p c) (copying n p c))
wholly-by P true n p c f g = f
wholly-by P false n p c f g = copying-by P n p c f g

pub wholly-run : (ps : Procs) (b : Bool) (n : ℕ) (p : Place) (c : Code) → run_act ps (cond b (assign_cell n p c) (copying n p c)) ≡ run_act ps (assign_cell n p c)
unfolding run_act copying
wholly-run ps true n p c = refl
wholly-run ps false n p (literal z) = refl
wholly-run ps false n p (load q k) = refl
wholly-run ps false n p last_number = refl
wholly-run ps false n p (make_set lo hi cs) = refl
wholly-run ps false n p (calculate o a b) = refl
wholly-run ps false n p (short_cut q a b) = refl
wholly-run ps false n p (calculate1 o a) = refl
