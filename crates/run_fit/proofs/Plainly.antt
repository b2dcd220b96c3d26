-- Code that is ready for an engine (code, CodeReady) is code that the emitter has nodes and instructions for (run_nodes, run_emit).
use mathlib.Core.Path.{◌≡◌, refl, ap, sym, ◌∙◌}
use mathlib.Core.Bool.{true}
use mathlib.Core.List.{List}
use Prim.Native.Nat.{ℕ, suc, ◌+◌, ◌<◌, ◌≤◌}
use native.Mathlib.Omega.{arith}
use borrow.Author.Tests.{leb-true}
use lib.IntN.{ℤ, pos, negsuc}
use lib.ListN.{get_or, length}
use Rattle.leaf_integers.specs.Integers.{inside}
use Rattle.leaf_integers.proofs.Ranges.{inside_is}
use Rattle.law.specs.Code as C
use Rattle.law.specs.Machine.{store_cells}
use Rattle.code.specs.Readback.{all_at_places, at_places, body_at_places, cases_at_places, frame_of_body}
use Rattle.law_theorems.specs.CodeCalls as Calls
use Rattle.law_theorems.specs.CodeCalls.{Calls, CallsAll, CallsCases, CallsBody, count_codes}
use Rattle.code.specs.CodeReady as R
use Rattle.code.specs.CodeReady.{ReadyCode, ReadyPlace, ReadyCodes, ReadyAct, ReadyActs, ReadyCases, ReadyBody}
use Rattle.law_theorems.specs.CodeSized.{InSet, SizedFrame}
use Rattle.law_theorems.proofs.ValuesInRange.{wrong}
use Rattle.run_nodes.specs.Emitted.{Plain, PlainCodes, PlainPlace, Small, SmallFor, base_of, members_in}
use Rattle.run_emit.specs.Plainly.{Callable, PlainAct, PlainActs, PlainBody, PlainCases}

-- ---- expressions and places

small_is : (z : ℤ) → inside (pos 0) (pos 31) z ≡ true → Small z
small_is (pos n) h = let k = leb-true n 31 (inside_is (pos 0) (pos 31) (pos n) h).1 in record { digit = n; same = refl; low = omega (arith, k) }
small_is (negsuc n) h = wrong (inside_is (pos 0) (pos 31) (negsuc n) h).0

small-for : (cs : C.Codes) {lo hi : ℤ} → InSet lo → InSet hi → SmallFor cs lo hi
unfolding SmallFor
small-for C.no_codes i j = tt
small-for (C.◌with◌ c cs) {lo} {hi} i j = (small_is lo i.ok, small_is hi j.ok)

-- the cells of a place, and those that its indices skip, are in the store
base-within : {d n : ℕ} {h : C.Place} → ReadyPlace d h n → base_of h + n ≤ store_cells
unfolding base_of
base-within (R.cell l) = l
base-within (R.index r c i j e) = omega (arith, base-within r, e.fits)
base-within (R.shift r l) = omega (arith, base-within r, l)

mutual
  unfolding Plain

  pub plain_code : {d : ℕ} {c : C.Code} → ReadyCode d c → Plain c
  plain_code (R.literal i) = tt
  plain_code (R.variable l) = (refl, omega (arith, l))
  plain_code (R.at r) = (refl, plain-place r)
  plain_code R.last_number = tt
  plain_code (R.make_set {cs = cs} i j r) = (small-for cs i j, plain-codes r)
  plain_code (R.calculate a b) = (plain_code a, plain_code b)
  plain_code (R.short_cut a b) = (plain_code a, plain_code b)
  plain_code (R.calculate1 o a) = plain_code a

  pub plain-place : {d n : ℕ} {h : C.Place} → ReadyPlace d h n → PlainPlace h
  plain-place (R.cell l) = omega (arith, l)
  plain-place (R.index r c i j e) = (plain-place r, plain_code c)
  plain-place (R.shift r l) = (plain-place r, omega (arith, base-within r, l))

  pub plain-codes : {d : ℕ} {cs : C.Codes} → ReadyCodes d cs → PlainCodes cs
  plain-codes R.no_codes = tt
  plain-codes (R.◌with◌ c cs) = (plain_code c, plain-codes cs)

-- ---- statements, as they are read back: their calls are to places

count-members : (cs : C.Codes) → count_codes cs ≡ members_in cs
unfolding count_codes members_in
count-members C.no_codes = refl
count-members (C.◌with◌ c cs) = ap suc (count-members cs)

-- what is known of the first m bodies: they can be called, and have these parameters
pub record Known (l places : List ℕ) (qs : ℕ → C.Frame) (m : ℕ) : Type 0 where
  pub callable : (j : ℕ) → j < m → Callable l places m (get_or places j 0)
  pub frames : (j : ℕ) → j < m → frame_of_body l (get_or places j 0) ≡ qs j

module _ (l places : List ℕ) (qs : ℕ → C.Frame) (m : ℕ) (K : Known l places qs m) {d : ℕ} where
  mutual
    unfolding PlainAct at_places

    plain-act : {a : C.Act} → ReadyAct d a → Calls qs m a → PlainAct l places m (at_places places a)
    plain-act (R.assign_ordinal n p i j c) k = (plain-place p, plain_code c)
    plain-act (R.assign_set n p c) k = (plain-place p, plain_code c)
    plain-act (R.copy_cells n p q c) k = (plain-place p, plain-place q)
    plain-act (R.sequence n bs) (Calls.sequence k) = plain-acts bs k
    plain-act (R.branch_on n c a b) (Calls.branch_on k h) = (plain_code c, plain-act a k, plain-act b h)
    plain-act (R.while_loop n c a) (Calls.while_loop k) = (plain_code c, plain-act a k)
    plain-act (R.for_loop n i lo hi x y a) (Calls.for_loop k) = (plain_code x, plain_code y, plain-act a k)
    plain-act (R.case_of n c bs) (Calls.case_of k) = (plain_code c, plain-cases bs k)
    plain-act (R.call_to n rs) (Calls.call_to {p} {cs} k e) =
        (K.callable p k, plain-codes rs, ap (λ (q : C.Frame). length q.wants) (K.frames p k) ∙ sym e ∙ count-members cs)
    plain-act (R.raise_with n c) k = plain_code c
    plain-act R.no_act k = tt

    plain-acts : {bs : C.Acts} → ReadyActs d bs → CallsAll qs m bs → PlainActs l places m (all_at_places places bs)
    plain-acts R.stop k = tt
    plain-acts (R.◌also◌ a bs) (Calls.◌also◌ k h) = (plain-act a k, plain-acts bs h)

    plain-cases : {bs : C.Cases} → ReadyCases d bs → CallsCases qs m bs → PlainCases l places m (cases_at_places places bs)
    plain-cases (R.else_case a) (Calls.else_case k) = plain-act a k
    plain-cases R.no_case k = tt
    plain-cases (R.one_case ls a bs) (Calls.one_case k h) = (plain-act a k, plain-cases bs h)

  pub plain_body : {b : C.BodyCode} → ReadyBody d b → CallsBody qs m b → SizedFrame b.frame → PlainBody l places m (body_at_places places b)
  unfolding body_at_places
  plain_body r k f = record { few = f.few; acts = plain-acts r.acts k.acts; handler = λ _. plain-acts r.handler k.handler }
