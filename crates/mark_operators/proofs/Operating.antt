-- The ways through operators and functions.
use mathlib.Core.Path.{◌≡◌, refl, sym, ap, subst, ◌∙◌}
use mathlib.Core.Bool.{Bool, true, false, true≢false}
use mathlib.Core.List.{List, [], ◌∷◌}
use mathlib.Core.Option.{Option, none, some}
use Prim.Native.Nat.{ℕ, ◌+◌, ◌-◌}
use native.Mathlib.Omega.{arith}
use borrow.Author.Tests.{ne_eqb, eqb-true}
use borrow.Author.Rules.{sfits_of}
use lib.Dec.{eqb}
use lib.IntN.{ℤ, pos}
use lib.Signed.{lt_z}
use mir.Syntax.{w64}
use mir.Val.{SFits}
use mir.Facts.{to_z-of_z}
use Rattle.leaf_integers.specs.Integers.{inside, least, most}
use Rattle.leaf_integers.proofs.Machine.{wire}
use Rattle.leaf_words.specs.Numbers.{signed}
use Rattle.law.specs.Calculate.{Result, is, fails, stuck, ◌>>=◌, is_true, compute, compute1}
use Rattle.code.specs.Layout.{operation_number, node1}
use Rattle.law.specs.Machine.{Store, sole, one_cell, short_circuited}
use Rattle.law.specs.Marking.{TypedValue, typed_value, typed_as, or_stuck, require, wanted}
use Rattle.law.specs.Operators.{Op, Fun, Operation, Operation1, pred_in, succ_in, Rule, Rule1, operator_rule, function_rule}
use Rattle.code.specs.Readback.{operation_at, operation1_at}
use Rattle.law.specs.Types.{Types, info_at, ordinal?}
use Rattle.code.proofs.LayoutCode.{signed-bits}
use Rattle.table_kinds.specs.Kinds.{strict, Kinded, told, ruling2}
use Rattle.table_kinds.specs.Functions.{node_of, told1, ruling1}
use Rattle.table_kinds.proofs.TwoSided.{two-sided-rule}
use Rattle.table_kinds.proofs.OneSided.{one-sided-rule}
use Rattle.table_kinds.specs.declared.Side.{Side}
use Rattle.table_kinds.specs.Kinds.{Ruling}
use Rattle.std.specs.Prelude.{Some, None}
use Rattle.table_kinds.specs.declared.Ruled.{Ruled}
use Rattle.code_calc.specs.Words.{no_result, greatest, word_of, applied1, InRange}
use Rattle.code_calc.proofs.Combining.{value-again}
use Rattle.code_calc.proofs.Ranging.{range-value, low-range, Bounded, plain, compute-ranged, compute1-ranged}
use Rattle.table_scope.specs.declared.Info.{Info}
use Rattle.table_scope.specs.Descriptions.{info_of}
use Rattle.table_scope.specs.Sides.{side_in}
use Rattle.table_scope.proofs.Telling.{kinded, side-in, low_told, high-told}
use Rattle.mark_values.specs.declared.values.Carried.{Carried}
use Rattle.mark_values.specs.Values.{carried_of, MarkRanged, MarkMeans, simple?, Carries}
use Rattle.mark_values.specs.Steps.{Wants}
use Rattle.mark_values.proofs.Carrying.{is-inj, broken-bind, carries-broken, view-broken, view-value, means-marks, carries-value, carries-cell, carries-one, carries-stuck, carried-broken, carried-value}
use Rattle.mark_values.specs.Carrying.{by-fault, by-stuck}
use Rattle.mark_values.proofs.Ruling.{operation-back, rule-simple, Comes, plainly, by-pred, by-succ, rule-comes}
use Rattle.mark_operators.specs.Operations.{ruled_word, node_word, ruled_word1, operated, applied, Operates, Applies, Shorts}

-- ---- by what an operator comes to

module _ (r : Ruling) (c : Carried) where
  pub ruled-misfit : (x y : ℤ) → r ≡ None → c ≡ carried_of 0 no_result 0 → c ≡ ruled_word r x y
  unfolding ruled_word
  ruled-misfit x y h e = e ∙ rw h refl

  pub ruled-fits : (x y z : ℤ) (q : Ruled) → r ≡ Some q → SFits w64 x → SFits w64 y → SFits w64 z → z ≡ word_of (compute (operation_at (q.node - 9)) (wire x) (wire y))
      → c ≡ carried_of q.kind (wire z) 0 → c ≡ ruled_word r x y
  unfolding ruled_word
  ruled-fits x y z q h fx fy fz g e = e ∙ rw (h, to_z-of_z fz, g, to_z-of_z fx, to_z-of_z fy) refl

  pub ruled1-misfit : (lo hi x : ℤ) → r ≡ None → c ≡ carried_of 0 no_result 0 → c ≡ ruled_word1 r lo hi x
  unfolding ruled_word1
  ruled1-misfit lo hi x h e = e ∙ rw h refl

  pub ruled1-fits : (lo hi x z : ℤ) (q : Ruled) → r ≡ Some q → SFits w64 x → SFits w64 z → z ≡ node_word q.node lo hi (wire x) → c ≡ carried_of q.kind (wire z) 0 → c ≡ ruled_word1 r lo hi x
  unfolding ruled_word1
  ruled1-fits lo hi x z q h fx fz g e = e ∙ rw (h, to_z-of_z fz, g, to_z-of_z fx) refl

pub ruleset ruled_laws = (ruled-misfit, ruled-fits, sfits_of)

pub ruleset ruled_one_laws = (ruled1-misfit, ruled1-fits, sfits_of)

module _ (n low high : ℕ) (x z : ℤ) (fx : SFits w64 x) (fz : SFits w64 z) where
  module _ (lo hi : ℤ) (el : lo ≡ signed low) (eh : hi ≡ signed high) (fl : SFits w64 lo) (fh : SFits w64 hi) where
    pub node-pred : n ≡ 38 → z ≡ applied1 (pred_in (wire lo) (wire hi)) (wire x) → wire z ≡ node_word n (signed low) (signed high) x
    unfolding node_word
    node-pred e g = to_z-of_z fz ∙ g ∙ rw (e, to_z-of_z fx, to_z-of_z fl, to_z-of_z fh, el, eh) refl

    pub node-succ : n ≡ 39 → z ≡ applied1 (succ_in (wire lo) (wire hi)) (wire x) → wire z ≡ node_word n (signed low) (signed high) x
    unfolding node_word
    node-succ e g = to_z-of_z fz ∙ g ∙ rw (e, to_z-of_z fx, to_z-of_z fl, to_z-of_z fh, el, eh) refl

  pub node-plain : ((n ≡ 38) → ⊥) → ((n ≡ 39) → ⊥) → z ≡ applied1 (operation1_at (n - 29)) (wire x) → wire z ≡ node_word n (signed low) (signed high) x
  unfolding node_word
  node-plain a b g = to_z-of_z fz ∙ g ∙ rw (to_z-of_z fx, ne_eqb n 38 a, ne_eqb n 39 b) refl

pub ruleset node_laws = (node-pred, node-succ, node-plain, sfits_of)

-- ---- two sides

module _ (Γ : Types) (K : Kinded Γ) (m : Store) where
  told-carries : (o : Op) (k j : ℕ) (x y : ℤ) → InRange x → InRange y
      → Carries Γ m (or_stuck (operator_rule Γ o k j) λ r. typed_as r.kind (one_cell (compute r.operation x y))) (ruled_word (told (operator_rule Γ o k j)) x y)
  unfolding told ruled_word
  told-carries o k j x y hx hy = go (operator_rule Γ o k j) refl
    where
      back : (c : Operation) → operation_at (9 + operation_number c - 9) ≡ c
      back c = ap operation_at (omega arith) ∙ operation-back c

      go : (q : Option Rule) → operator_rule Γ o k j ≡ q → Carries Γ m (or_stuck q λ r. typed_as r.kind (one_cell (compute r.operation x y))) (ruled_word (told q) x y)
      go none e = carries-stuck Γ m
      go (some r) e = rw (back r.operation) (carries-one Γ m r.kind (word_of (compute r.operation x y)) (compute r.operation x y) (rule-simple Γ K k j o r e) (means-marks _ _ (record { word = refl; ranged = compute-ranged r.operation x y hx hy })))

module _ (l ts : List ℕ) (op : ℕ) (x y r : Carried) (fx : SFits w64 x.word) where
  pub operates-left : lt_z greatest (wire x.word) ≡ true → r ≡ carried_of 0 (wire x.word) 0 → Operates l ts op x y r
  operates-left h e = rw (e, to_z-of_z fx) (record { says = λ s scope σ S m o n v w X Y. carries-broken σ.types m 0 0 (broken-bind (λ a. w >>= λ b. operated σ.types o a b) (carried-broken X (rw (to_z-of_z fx) at h))) })

  module _ (fy : SFits w64 y.word) (h : lt_z greatest (wire x.word) ≡ false) where
    pub operates-right : lt_z greatest (wire y.word) ≡ true → r ≡ carried_of 0 (wire y.word) 0 → Operates l ts op x y r
    operates-right g e = rw (e, to_z-of_z fy) (record {
      says = λ s scope σ S m o n v w X Y. carried-value X (rw (to_z-of_z fx) at h) (λ a q f i k.
          rw q (carries-broken σ.types m 0 0 (broken-bind (λ b. operated σ.types o a b) (carried-broken Y (rw (to_z-of_z fy) at g)))));
    })

    pub operates-both : (a b : Side) (R : Ruling) → lt_z greatest (wire y.word) ≡ false → a ≡ side_in l ts x.kind → b ≡ side_in l ts y.kind → R ≡ ruling2 op a b
        → r ≡ ruled_word R (wire x.word) (wire y.word) → Operates l ts op x y r
    operates-both a b R g ea eb e_r e = rw (e, e_r, ea, eb, to_z-of_z fx, to_z-of_z fy) (record {
      says = λ s scope σ S m o n v w X Y. carried-value X (rw (to_z-of_z fx) at h) (λ p q f i k. carried-value Y (rw (to_z-of_z fy) at g) (λ p' q' f' i' k'.
          rw (q, q', side-in S.scene x.kind, side-in S.scene y.kind, n, k, k', two-sided-rule σ.types (kinded S.scene) p.kind p'.kind (strict o), f, f')
          (told-carries σ.types (kinded S.scene) m o p.kind p'.kind (sole p.cells) (sole p'.cells) i i')));
    })

pub ruleset operate_laws = (operates-left, operates-right, operates-both, sfits_of)

-- ---- one side

module _ (Γ : Types) (K : Kinded Γ) (m : Store) (k : ℕ) (bl : inside least most (info_at Γ k).low ≡ true) (bh : inside least most (info_at Γ k).high ≡ true) (x : ℤ) (h : InRange x) where
  alone : (c : Operation1) → applied1 c x ≡ word_of (compute1 c x)
  unfolding applied1
  alone c = rw (value-again x (range-value x h)) refl

  means-one : (c : Operation1) (w : ℤ) → Bounded c → w ≡ applied1 c x → MarkMeans w (compute1 c x)
  means-one c w b e = means-marks w (compute1 c x) (record { word = e ∙ alone c; ranged = compute1-ranged c x b h })

  node-means : (c : Operation1) → Comes Γ K k c → MarkMeans (node_word (node_of c) (info_at Γ k).low (info_at Γ k).high x) (compute1 c x)
  unfolding node_word node1
  node-means c (plainly o l e) =
      means-one o _ (subst Bounded e (plain (node_of o - 29)))
      (rw (ne_eqb (node_of o) 38 (λ q. omega arith), ne_eqb (node_of o) 39 (λ q. omega arith), e) refl)
  node-means c by-pred = means-one (pred_in (info_at Γ k).low (info_at Γ k).high) _ (bl, bh) refl
  node-means c by-succ = means-one (succ_in (info_at Γ k).low (info_at Γ k).high) _ (bl, bh) refl

  told1-carries : (f : Fun) → Carries Γ m (or_stuck (function_rule Γ f k) λ r. typed_as r.kind (one_cell (compute1 r.operation x))) (ruled_word1 (told1 (function_rule Γ f k)) (info_at Γ k).low (info_at Γ k).high x)
  unfolding told1 ruled_word1
  told1-carries f = go (function_rule Γ f k) refl
    where
      go : (q : Option Rule1) → function_rule Γ f k ≡ q → Carries Γ m (or_stuck q λ r. typed_as r.kind (one_cell (compute1 r.operation x))) (ruled_word1 (told1 q) (info_at Γ k).low (info_at Γ k).high x)
      go none e = carries-stuck Γ m
      go (some r) e = let u = rule-comes Γ K k f r e in carries-one Γ m r.kind _ (compute1 r.operation x) u.simple (node-means r.operation u.comes)

module _ (l ts : List ℕ) (f : ℕ) (x r : Carried) (fx : SFits w64 x.word) where
  pub applies-fault : lt_z greatest (wire x.word) ≡ true → r ≡ carried_of 0 (wire x.word) 0 → Applies l ts f x r
  applies-fault h e = rw (e, to_z-of_z fx) (record { says = λ s scope σ S m o n v X. carries-broken σ.types m 0 0 (broken-bind (λ a. applied σ.types o a) (carried-broken X (rw (to_z-of_z fx) at h))) })

  pub applies-value : (i : Info) (a : Side) (R : Ruling) → lt_z greatest (wire x.word) ≡ false → i ≡ info_of l ts x.kind → a ≡ side_in l ts x.kind → R ≡ ruling1 f a
      → r ≡ ruled_word1 R (signed i.low) (signed i.high) (wire x.word) → Applies l ts f x r
  applies-value i a R h ei ea e_r e = rw (e, e_r, ea, ei, to_z-of_z fx) (record {
    says = λ s scope σ S m o n v X. carried-value X (rw (to_z-of_z fx) at h) (λ p q g z k.
        rw (q, side-in S.scene x.kind, n, low_told S.scene x.kind, high-told S.scene x.kind, k, signed-bits (info_at σ.types p.kind).low (S.small p.kind).low.ok, signed-bits (info_at σ.types p.kind).high (S.small p.kind).high.ok, one-sided-rule σ.types (kinded S.scene) p.kind o, g)
        (told1-carries σ.types (kinded S.scene) m p.kind (S.small p.kind).low.ok (S.small p.kind).high.ok (sole p.cells) z o));
  })

pub ruleset apply_laws = (applies-fault, applies-value, sfits_of)

-- ---- `and_then`, `or_else`

module _ (Γ : Types) (o : ordinal? Γ 1 ≡ true) (m : Store) where
  one-simple : simple? Γ 1 ≡ true
  one-simple = rw o refl

  -- a boolean's value is one cell
  wanted-single : (w : Result TypedValue) (y : Carried) → Carries Γ m w y → (u : List ℤ) → (w >>= wanted 1) ≡ is u → u ≡ (sole u ∷ [])
  wanted-single (is t) y c u q = go (eqb 1 t.kind) refl q
    where
      go : (b : Bool) → eqb 1 t.kind ≡ b → require b (is t.cells) ≡ is u → u ≡ (sole u ∷ [])
      go true e h = rw (← is-inj h) (c.single t refl (rw (← eqb-true 1 t.kind e) one-simple))
      go false e h = let z : ◌≡◌ {A = ℕ} 0 1 = cc in absurd (omega arith)
  wanted-single (fails e) y c u q = let z : ◌≡◌ {A = ℕ} 0 1 = cc in absurd (omega arith)
  wanted-single stuck y c u q = let z : ◌≡◌ {A = ℕ} 0 1 = cc in absurd (omega arith)

  right-carries : (w : Result TypedValue) (y : Carried) (b : ℤ) → Carries Γ m w y → MarkMeans b ((w >>= wanted 1) >>= λ u. is (sole u)) → Carries Γ m (typed_as 1 (w >>= wanted 1)) (carried_of 1 b 0)
  unfolding word_of MarkRanged
  right-carries w y b c h = go (w >>= wanted 1) refl h
    where
      go : (q : Result (List ℤ)) → (w >>= wanted 1) ≡ q → MarkMeans b (q >>= λ u. is (sole u)) → Carries Γ m (typed_as 1 q) (carried_of 1 b 0)
      go (is u) e n = carries-value Γ m (typed_value 1 u) b 0 n (λ _. wanted-single w y c u e) (λ z. absurd (true≢false (sym one-simple ∙ z)))
      go (fails e) _ n = carries-broken Γ m 1 0 (by-fault e n.word n.ranged)
      go stuck _ n = carries-broken Γ m 1 0 (by-stuck n.word)

module _ (q : Bool) (x y r : Carried) (a : ℤ) (fa : SFits w64 a) (A : Wants 1 x a) where
  pub shorts-fault : lt_z greatest (wire a) ≡ true → r ≡ carried_of 0 (wire a) 0 → Shorts q x y r
  shorts-fault h e = rw (e, to_z-of_z fa) (record { says = λ Γ o m v w X Y. carries-broken Γ m 0 0 (broken-bind (λ u. typed_as 1 (short_circuited q (is_true (sole u)) (w >>= wanted 1))) (view-broken a (v >>= wanted 1) (λ u. sole u) (A.says Γ m v X) (rw (to_z-of_z fa) at h))) })

  -- the left side is t, and leaves it open or not
  module _ (h : lt_z greatest (wire a) ≡ false) (t : Bool) (g : lt_z (pos 0) (wire a) ≡ t) where
    by_left : ((Γ : Types) → ordinal? Γ 1 ≡ true → (m : Store) (w : Result TypedValue) → Carries Γ m w y → Carries Γ m (typed_as 1 (short_circuited q t (w >>= wanted 1))) r) → Shorts q x y r
    by_left K = record {
      says = λ Γ o m v w X Y. view-value a (v >>= wanted 1) (λ u. sole u) (A.says Γ m v X) (rw (to_z-of_z fa) at h) (λ u e f i. rw (e, ← f, rw (to_z-of_z fa) at g) (K Γ o m w Y));
    }

  module _ (h : lt_z greatest (wire a) ≡ false) where
    pub and-open : (b : ℤ) → q ≡ true → lt_z (pos 0) (wire a) ≡ true → SFits w64 b → Wants 1 y b → r ≡ carried_of 1 (wire b) 0 → Shorts q x y r
    and-open b z g fb B e = by_left h true g (λ Γ o m w Y. rw (z, e, to_z-of_z fb) (right-carries Γ o m w y b Y (B.says Γ m w Y)))

    pub and-shut : q ≡ true → lt_z (pos 0) (wire a) ≡ false → r ≡ carried_of 1 (pos 0) 0 → Shorts q x y r
    and-shut z g e = by_left h false g (λ Γ o m w Y. rw (z, e) (carries-cell Γ m 1 (pos 0) 0 (one-simple Γ o m) (low-range 0 (omega arith))))

    pub or_shut : q ≡ false → lt_z (pos 0) (wire a) ≡ true → r ≡ carried_of 1 (pos 1) 0 → Shorts q x y r
    or_shut z g e = by_left h true g (λ Γ o m w Y. rw (z, e) (carries-cell Γ m 1 (pos 1) 0 (one-simple Γ o m) (low-range 1 (omega arith))))

    pub or-open : (b : ℤ) → q ≡ false → lt_z (pos 0) (wire a) ≡ false → SFits w64 b → Wants 1 y b → r ≡ carried_of 1 (wire b) 0 → Shorts q x y r
    or-open b z g fb B e = by_left h false g (λ Γ o m w Y. rw (z, e, to_z-of_z fb) (right-carries Γ o m w y b Y (B.says Γ m w Y)))

pub ruleset short_laws = (shorts-fault, and-open, and-shut, or_shut, or-open, sfits_of)
