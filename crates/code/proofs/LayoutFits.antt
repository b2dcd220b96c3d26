-- The code of an accepted text fits numbers of 32 bits, so that all its bodies, laid one after another, are read back.
use mathlib.Core.Path.{◌≡◌, refl}
use mathlib.Core.List.{List, [], ◌∷◌, ◌++◌, append_assoc, append-nil}
use Prim.Native.Nat.{ℕ, suc, ◌+◌, ◌≤◌}
use native.Mathlib.Omega.{arith}
use lib.IntN.{ℤ, pos}
use lib.ListN.{length, length-append}
use Rattle.leaf_integers.specs.Integers.{least, most}
use Rattle.leaf_integers.proofs.Order.{le_z-trans}
use Rattle.leaf_integers.proofs.Ranges.{inside_both, inside_is}
use Rattle.law.specs.Code as C
use Rattle.law.specs.Code.{BodyCode}
use Rattle.law.specs.Operators.{Operation1}
use Rattle.code.specs.Layout.{lay_body, lay_bodies}
use Rattle.code.specs.LayoutSize.{IsInteger, Fits1, negate-fits, not-fits, abs-fits, sqr-fits, odd-fits, ord-fits, card-fits, least_fits, greatest-fits, pred_fits, succ-fits, CodeFits, literal-fits, load_fits, last_fits, set-fits, calculate-fits, short-fits, calculate1-fits, PlaceFits, cell-fits, index-fits, shift_fits, CodesFit, none-fit, with-fit, LabelsFit, no-labels-fit, label-fits, ActFits, ordinal-fits, copy-fits, sequence-fits, branch_fits, while-fits, for-fits, case-fits, call_fits, raise-fits, no-act-fits, ActsFit, stop-fits, also-fit, CasesFit, else-fits, no-case-fits, one-case-fits, WantsFit, no-wants-fit, ranged-fits, set-want-fits, BodyFits, size_body, size_bodies}
use Rattle.law_theorems.specs.Bodies as Numbered
use Rattle.law_theorems.specs.CodeCalls as Calls
use Rattle.law_theorems.specs.CodeCalls.{CallsBody}
use Rattle.law_theorems.specs.CodeSized as Sized
use Rattle.law_theorems.specs.CodeSized.{InSet, SizedBody}
use Rattle.code.specs.LayoutRegions.{Room}
use Rattle.code.proofs.LayoutActs.{laid-body}
use Rattle.code.proofs.LayoutBodies.{body-next}
use Rattle.code.specs.LayoutBodies.{Bodies}

-- an ordinal of a set is an integer
member-integer : {z : ℤ} → InSet z → IsInteger z
member-integer {z} m =
    let b = inside_is (pos 0) (pos 31) z m.ok in
    inside_both least most z (le_z-trans least (pos 0) z refl b.0) (le_z-trans z (pos 31) most b.1 refl)

operation-fits : {o : Operation1} → Sized.SizedOperation o → Fits1 o
operation-fits Sized.int_negate = negate-fits
operation-fits Sized.bool_not = not-fits
operation-fits Sized.int_abs = abs-fits
operation-fits Sized.int_sqr = sqr-fits
operation-fits Sized.int_odd = odd-fits
operation-fits Sized.ordinal_of = ord-fits
operation-fits (Sized.pred_in a b) = pred_fits a.ok b.ok
operation-fits (Sized.succ_in a b) = succ-fits a.ok b.ok
operation-fits Sized.set_card = card-fits
operation-fits Sized.set_least = least_fits
operation-fits Sized.set_greatest = greatest-fits

mutual
  code_fits : {c : C.Code} → Sized.SizedCode c → CodeFits c
  code_fits (Sized.literal z) = literal-fits z.ok
  code_fits (Sized.load p) = load_fits (place-fits p)
  code_fits Sized.last_number = last_fits
  code_fits (Sized.make_set a b cs) = set-fits (member-integer a) (member-integer b) (codes-fit cs)
  code_fits (Sized.calculate a b) = calculate-fits (code_fits a) (code_fits b)
  code_fits (Sized.short_cut a b) = short-fits (code_fits a) (code_fits b)
  code_fits (Sized.calculate1 o a) = calculate1-fits (operation-fits o) (code_fits a)

  place-fits : {p : C.Place} {n : ℕ} → Sized.SizedPlace p n → PlaceFits p
  place-fits (Sized.cell {a} h) = cell-fits {a = a} (omega arith)
  place-fits (Sized.index p c a b h) = index-fits (place-fits p) (code_fits c) a.ok b.ok
  place-fits (Sized.shift p h g) = shift_fits (place-fits p)

  codes-fit : {cs : C.Codes} → Sized.SizedCodes cs → CodesFit cs
  codes-fit Sized.no_codes = none-fit
  codes-fit (Sized.◌with◌ c cs) = with-fit (code_fits c) (codes-fit cs)

labels-fit : {zs : List ℤ} → Sized.SizedLabels zs → LabelsFit zs
labels-fit Sized.no_labels = no-labels-fit
labels-fit (Sized.label z zs) = label-fits z.ok (labels-fit zs)

wants-fit : {ws : List C.Want} → Sized.SizedWants ws → WantsFit ws
wants-fit Sized.no_wants = no-wants-fit
wants-fit (Sized.ranged lo hi e ws) = ranged-fits lo.ok hi.ok e (wants-fit ws)
wants-fit (Sized.any_set ws) = set-want-fits (wants-fit ws)

module _ {qs : ℕ → C.Frame} {k : ℕ} where
  mutual
    act-fits : {a : C.Act} → Sized.SizedAct a → Calls.Calls qs k a → ActFits k a
    act-fits (Sized.assign_ordinal n p a b c) h = ordinal-fits (place-fits p) a.ok b.ok (code_fits c)
    act-fits (Sized.assign_cell n p c) h = cell-fits (place-fits p) (code_fits c)
    act-fits (Sized.copy_cells n p q) h = copy-fits (place-fits p) (code_fits (Sized.load q))
    act-fits (Sized.sequence n bs) (Calls.sequence h) = sequence-fits (all_fit bs h)
    act-fits (Sized.branch_on n c a b) (Calls.branch_on h g) = branch_fits (code_fits c) (act-fits a h) (act-fits b g)
    act-fits (Sized.while_loop n c a) (Calls.while_loop h) = while-fits (code_fits c) (act-fits a h)
    act-fits (Sized.for_loop n i lo hi c d a) (Calls.for_loop h) = for-fits lo.ok hi.ok (code_fits c) (code_fits d) (act-fits a h)
    act-fits (Sized.case_of n c cs) (Calls.case_of h) = case-fits (code_fits c) (cases_fit cs h)
    act-fits (Sized.call_to n cs) (Calls.call_to h c) = call_fits h (codes-fit cs)
    act-fits (Sized.raise_with n c) h = raise-fits (code_fits c)
    act-fits Sized.no_act h = no-act-fits

    all_fit : {bs : C.Acts} → Sized.SizedActs bs → Calls.CallsAll qs k bs → ActsFit k bs
    all_fit Sized.stop h = stop-fits
    all_fit (Sized.◌also◌ a bs) (Calls.◌also◌ h g) = also-fit (act-fits a h) (all_fit bs g)

    cases_fit : {cs : C.Cases} → Sized.SizedCases cs → Calls.CallsCases qs k cs → CasesFit k cs
    cases_fit (Sized.else_case a) (Calls.else_case h) = else-fits (act-fits a h)
    cases_fit Sized.no_case h = no-case-fits
    cases_fit (Sized.one_case ls a cs) (Calls.one_case h g) = one-case-fits (labels-fit ls) (act-fits a h) (cases_fit cs g)

  pub body-fits : {b : BodyCode} → SizedBody b → CallsBody qs k b → BodyFits k b
  body-fits s c = record { frame-fits = record { wants-fit = wants-fit s.frame.wants; empty-fits = s.frame.none }; acts-fit = all_fit s.acts c.acts; handler-fits = all_fit s.handler c.handler }

pub bodies-fit : {qs : ℕ → C.Frame} {k : ℕ} {bs : List BodyCode} → Numbered.Bodies (λ _. SizedBody) k bs → Numbered.Bodies (CallsBody qs) k bs → Numbered.Bodies BodyFits k bs
bodies-fit Numbered.none c = Numbered.none
bodies-fit (Numbered.body s ss) (Numbered.body c cs) = Numbered.body (body-fits s c) (bodies-fit ss cs)

-- the bodies bs are laid after those that stand
pub all_laid : (other : BodyCode) (a t : ℕ) (l places : List ℕ) (done bs : List BodyCode) → a ≤ t → Room (size_bodies bs) t l
    → Numbered.Bodies BodyFits (length places) bs → Bodies other a t l places done
    → Bodies other a (lay_bodies places bs t l).top (lay_bodies places bs t l).list (lay_bodies places bs t l).places (done ++ bs)
unfolding lay_bodies size_bodies
all_laid other a t l places done [] i r f B = rw (append-nil done) B
all_laid other a t l places done (b ∷ bs) i r (Numbered.body f fs) B =
    let o = lay_body places (length places) b t l in
    let L = laid-body places (length places) b t l in
    let n : length (places ++ o.pos ∷ []) ≡ suc (length places) = omega (arith, length-append places (o.pos ∷ [])) in
    let u : o.top ≡ t + size_body b = L.top-is (omega (arith, r.fits)) in
    rw (← append_assoc done (b ∷ []) bs) (all_laid other a o.top o.list (places ++ o.pos ∷ []) (done ++ b ∷ []) bs
    (omega (arith, L.grows.up))
    (record { start = omega (arith, r.start, L.grows.up); fits = omega (arith, r.fits); long = omega (arith, r.long, L.grows.long) })
    (rw (n) fs)
    (body-next other a t l places done b i (record { start = r.start; fits = omega (arith, r.fits); long = r.long }) f B))
