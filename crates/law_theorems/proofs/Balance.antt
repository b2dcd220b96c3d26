-- Row 4: a balanced line reads as one form, so that the walk that counts brackets decides the row alone; the form is at most 32 deep.
use mathlib.Core.Path.{◌≡◌, refl, ap}
use mathlib.Core.Bool.{Bool, true, false}
use mathlib.Core.List.{List, [], ◌∷◌}
use mathlib.Core.Option.{some}
use Prim.Native.Nat.{ℕ, zero, suc, ◌-◌, ◌<◌}
use native.Mathlib.Omega.{arith}
use borrow.Author.Tests.{ltb-true}
use lib.Dec.{ltb}
use lib.ListN.{length}
use Rattle.leaf_bytes.specs.declared.bytes.Class.{Class}
use Rattle.leaf_bytes.specs.declared.bytes.Class.TheVariants.{Feed, Space, Open, Close, Visible, Refused}
use Rattle.leaf_bytes.specs.Bytes.{class_of}
use Rattle.law.specs.Lines.{Line}
use Rattle.law.specs.Trees.{Tree, word, form, Trees, end, ◌then◌, Place, before, after, faulty, inside, deeper, opened, closed, spelled, past, is_after, balanced, Run, first, push, trees_of, single, form_of}
use Rattle.law_theorems.specs.Readings.{Reading, reading, ended, wrapped, with_byte, read_bytes}
use Rattle.law_theorems.proofs.Reading.{trees-read}
use Rattle.law_theorems.proofs.TreeDepth as Depth
use Rattle.law_theorems.proofs.TreeDepth.{Shallow, ShallowAll}
use Rattle.law_theorems.proofs.Inversion.{bind-some, given-some, some_inj}

-- lists of trees, one for each open bracket: those inside n + 1 brackets are at most 31 - n deep
data Levels : ℕ → List (Trees Run) → Type 0 where
  none : Levels 0 []
  level : {n : ℕ} {ts : Trees Run} {k : List (Trees Run)} → ShallowAll (31 - n) ts → Levels n k → Levels (suc n) (ts ∷ k)

levels-length : {n : ℕ} {k : List (Trees Run)} → Levels n k → length k ≡ n
levels-length none = refl
levels-length (level ts k) = ap suc (levels-length k)

-- what is read from a place on, if the line ends after the form: before it one form, inside it a list for each open bracket, after it nothing
data Deeply : Place → Reading → Type 0 where
  one-deep : {r : Reading} {f : Trees Run} → ShallowAll 31 f → r ≡ reading [] ((form f then end) ∷ []) → Deeply before r
  open-deep : {n : ℕ} {r : Reading} → Levels (suc n) (ended r.begun r.stack) → Deeply (inside n) r
  nothing-deep : {r : Reading} → r ≡ reading [] [] → Deeply after r

-- without the depths
pub data Reads : Place → Reading → Type 0 where
  one : {r : Reading} (f : Trees Run) → r ≡ reading [] ((form f then end) ∷ []) → Reads before r
  open' : {n : ℕ} {r : Reading} → length (ended r.begun r.stack) ≡ suc n → Reads (inside n) r
  nothing : {r : Reading} → r ≡ reading [] [] → Reads after r

wrong {ℓ} : {X : Type ℓ} → false ≡ true → X
wrong h = absurd (let z : ◌≡◌ {A = ℕ} 0 1 = cc in omega arith)

-- no byte brings a faulty line back
past-faulty : (c : Class) → past c faulty ≡ faulty
unfolding past opened closed spelled
past-faulty Feed = refl
past-faulty Space = refl
past-faulty Open = refl
past-faulty Close = refl
past-faulty Visible = refl
past-faulty Refused = refl

lost : {X : Type 0} (bs : List ℕ) → balanced bs faulty ≡ true → X
unfolding balanced is_after
lost [] h = wrong h
lost (b ∷ bs) h = lost bs (rw (past-faulty (class_of b)) at h)

-- ---- the lists that a byte leaves

abbrev Stack : Type 0
Stack = List (Trees Run)

-- a word in front, whether a word went on there or not
pushed : (v w : Run) (k : Stack) (n : ℕ) → Levels (suc n) (ended w k) → Levels (suc n) (push (word v) k)
pushed v [] (ts ∷ k) n (level h l) = level (Depth.◌then◌ Depth.word h) l
pushed v (b ∷ w) k n (level (Depth.◌then◌ t h) l) = level (Depth.◌then◌ Depth.word h) l
pushed v [] [] n x'' = elim x'' [ ]

-- the bracket that opens at 31 - n is the form's
same-depth : {ts : Trees Run} (n : ℕ) → n < 31 → ShallowAll (31 - suc n) ts → Shallow (31 - n) (form ts)
same-depth n l h = let e : 31 - n ≡ suc (31 - suc n) = omega arith in rw e (Depth.form h)

wrapped-more : (n : ℕ) → n < 31 → {k : Stack} → Levels (suc (suc n)) k → Levels (suc n) (wrapped k)
wrapped-more n l (level h (level g m)) = level (Depth.◌then◌ (same-depth n l h) g) m

-- ---- one byte

module _ (b : ℕ) (bs : List ℕ) (r : Reading) (ih : (q : Place) → balanced bs q ≡ true → Deeply q r) where
  spaced : (p : Place) → Deeply p r → Deeply p (with_byte Space b r)
  unfolding with_byte
  spaced before (one-deep f e) = one-deep {r = with_byte Space b r} f (rw e)
  spaced (inside n) (open-deep e) = open-deep e
  spaced after (nothing-deep e) = nothing-deep {r = with_byte Space b r} (rw e)
  spaced faulty x' = elim x' [ ]

  deep : (n : ℕ) (t : Bool) → ltb n 31 ≡ t → balanced bs (deeper t n) ≡ true → Deeply (inside n) (with_byte Open b r)
  unfolding deeper with_byte
  deep n true l h = go (ih (inside (suc n)) h)
    where
      go : Deeply (inside (suc n)) r → Deeply (inside n) (with_byte Open b r)
      go (open-deep e) = open-deep (wrapped-more n (ltb-true n 31 l) e)
  deep n false l h = lost bs h

  opens : (p : Place) → balanced bs (opened p) ≡ true → Deeply p (with_byte Open b r)
  unfolding opened with_byte
  opens before h = go (ih (inside 0) h)
    where
      outer : {k : Stack} → Levels 1 k → Deeply before (reading [] (wrapped k))
      outer (level {ts = ts} h none) = one-deep {f = ts} h refl

      go : Deeply (inside 0) r → Deeply before (with_byte Open b r)
      go (open-deep e) = outer e
  opens (inside n) h = deep n (ltb n 31) refl h
  opens after h = lost bs h
  opens faulty h = lost bs h

  closes : (p : Place) → balanced bs (closed p) ≡ true → Deeply p (with_byte Close b r)
  unfolding closed with_byte
  closes before h = lost bs h
  closes (inside zero) h = go (ih after h)
    where
      go : Deeply after r → Deeply (inside zero) (with_byte Close b r)
      go (nothing-deep e) = open-deep {n = zero} {r = with_byte Close b r} (rw e (level Depth.end none))
  closes (inside (suc n)) h = go (ih (inside n) h)
    where
      go : Deeply (inside n) r → Deeply (inside (suc n)) (with_byte Close b r)
      go (open-deep e) = open-deep (level Depth.end e)
  closes after h = lost bs h
  closes faulty h = lost bs h

  spells : (p : Place) → balanced bs (spelled p) ≡ true → Deeply p (with_byte Visible b r)
  unfolding spelled with_byte
  spells before h = lost bs h
  spells (inside n) h = go (ih (inside n) h)
    where
      go : Deeply (inside n) r → Deeply (inside n) (with_byte Visible b r)
      go (open-deep e) = open-deep (pushed (b ∷ r.begun) r.begun r.stack n e)
  spells after h = lost bs h
  spells faulty h = lost bs h

  byte_reads : (c : Class) (p : Place) → balanced bs (past c p) ≡ true → Deeply p (with_byte c b r)
  unfolding past
  byte_reads Feed p h = lost bs h
  byte_reads Space p h = spaced p (ih p h)
  byte_reads Open p h = opens p h
  byte_reads Close p h = closes p h
  byte_reads Visible p h = spells p h
  byte_reads Refused p h = lost bs h

deeply : (bs : List ℕ) (p : Place) → balanced bs p ≡ true → Deeply p (read_bytes bs)
unfolding balanced is_after read_bytes
deeply [] before h = wrong h
deeply [] (inside n) h = wrong h
deeply [] after h = nothing-deep refl
deeply [] faulty h = wrong h
deeply (b ∷ bs) p h = byte_reads b bs (read_bytes bs) (λ q e. deeply bs q e) (class_of b) p h

pub reads : (bs : List ℕ) (p : Place) → balanced bs p ≡ true → Reads p (read_bytes bs)
reads bs p h = go (deeply bs p h)
  where
    go : {p : Place} {r : Reading} → Deeply p r → Reads p r
    go (one-deep {f = f} d e) = one f e
    go (open-deep l) = open' (levels-length l)
    go (nothing-deep e) = nothing e

-- a balanced line has its one form
pub one_form : (bs : List ℕ) → balanced bs before ≡ true → (f : Trees Run) × (single (trees_of bs) ≡ some (form f))
unfolding single
one_form bs h = rw (trees-read bs) (go (read_bytes bs) (reads bs before h))
  where
    go : (r : Reading) → Reads before r → (f : Trees Run) × (single (first (ended r.begun r.stack)) ≡ some (form f))
    go r (one f e) = (f, rw e)

-- at most 32 deep
pub form-depth : (l : Line) (t : Tree Run) → form_of l ≡ some t → Shallow 32 t
unfolding form_of single
form-depth l t h = bind-some h λ bs _ h. bind-some h λ ts hts h. given-some hts λ hb e. go (read_bytes bs) (deeply bs before hb) (rw (← e, trees-read bs) at h)
  where
    go : (r : Reading) → Deeply before r → single (first (ended r.begun r.stack)) ≡ some t → Shallow 32 t
    go r (one-deep {f = f} d e) h = let q : some (form f) ≡ some t = rw e at h in rw (← some_inj q) (Depth.form d)
