-- The form of a range.
use mathlib.Core.Path.{◌≡◌, refl, sym, ap, ◌∙◌, subst}
use mathlib.Core.Bool.{Bool, true, false, cond, ◌&&◌, false≢true}
use mathlib.Core.Logic.{◌⊎◌, inl, inr}
use mathlib.Core.List.{List, [], ◌∷◌}
use mathlib.Core.Option.{Option, none, some}
use Prim.Native.Nat.{ℕ, suc, ◌-◌, ◌%◌}
use native.Mathlib.Nat.{mod-eq_of_lt}
use native.Mathlib.Omega.{arith}
use borrow.Author.Tests.{eq-eqb, ne_eqb, le-leb, le-ltb, leb-true, ltb-true}
use mir.Val.{SFits}
use mir.Facts.{to_z-of_z}
use mir.Syntax.{w64}
use lib.Dec.{eqb}
use lib.IntN.{ℤ, pos, negsuc, ◌-ℤ◌}
use lib.Signed.{le_z, lt_z}
use Rattle.leaf_integers.specs.Integers.{inside, least, most, exact, ranged, pick}
use Rattle.leaf_integers.specs.declared.Fault as ArithFault
use Rattle.leaf_integers.specs.Integers.{Num}
use Rattle.std.specs.Prelude.{Ok, Err}
use Rattle.leaf_integers.proofs.Machine.{wire}
use Rattle.leaf_sets.specs.Sets.{pattern_of}
use Rattle.law.specs.Base.{Name, ◌>>=◌, given}
use Rattle.law.specs.Ceilings.{type_bounded}
use Rattle.law.specs.Environment.{Declared, Environment, type_sort_of}
use Rattle.code.specs.Layout.{bits}
use Rattle.law.specs.Names.{constant_of, new_names, decl_of, entry_of}
use Rattle.law.specs.Rules.{kept_decl, plain}
use Rattle.law.specs.Script.{Const, Decl, new_type, range}
use Rattle.rule_stages.specs.Stages as Stages
use Rattle.rule_stages.specs.Stages.{Staged, fits, ruled, staged, join}
use Rattle.law.specs.Syntax as Syntax
use Rattle.law.specs.Syntax.{Constant, TypeForm, type_line}
use Rattle.law.specs.Trees.{Tree, Trees, end, Run, first}
use Rattle.law_theorems.specs.Readings.{stack_at}
use Rattle.law_theorems.proofs.Inversion.{and-true}
use Rattle.table_scope.specs.declared.Scope.{Scope}
use Rattle.rule_faults.specs.declared.Fault.{Fault}
use Rattle.rule_faults.specs.declared.Fault.TheVariants.{Clear, Kind, Form}
use Rattle.table_scope.specs.Descriptions.{shape_number, ordinal_info}
use Rattle.table_scope.specs.Scene.{Scene}
use Rattle.table_scope.specs.declared.Info.{Info}
use Rattle.rule_faults.specs.Got.{is_form, lowest, fault_of}
use Rattle.text_parts.specs.Parts.{Before, ShutAt, Shuts}
use Rattle.std.specs.Prelude.{Option as Maybe, Some, None}
use Rattle.text_heads.specs.Parts.{rest, closed, constant_in}
use Rattle.text_heads.proofs.Walks.{bind-cong, bind_assoc}
use Rattle.rule_atoms.specs.declared.Valued.{Valued}
use Rattle.rule_atoms.specs.Answers.{valued}
use Rattle.rule_atoms.specs.Answering.{ValueTold, GivesConstant}
use Rattle.rule_atoms.proofs.Telling.{wrong-fits, unnamed-fits, unfit-fits, fits-inj}
use Rattle.rule_declarations.specs.State.{Holds}
use Rattle.rule_declarations.specs.Names.{last_constant, GivesLastConstant}
use Rattle.rule_declarations.specs.Lines.{entry_staged}
use Rattle.rule_type_lines.specs.TypeLines.{simple-range, ShapeTold, GivesShape}
use Rattle.rule_type_lines.specs.Simple.{range_in, no_shape}
use Rattle.rule_type_lines.specs.Ranges.{IsBits, flipped_of, range_fault, range_shaped, GivesRange}
use Rattle.rule_declarations.specs.declared.State.{State}
use Rattle.rule_type_lines.specs.declared.Shaped.{Shaped}
use Rattle.rule_declarations.proofs.FreeNames.{none-wrong, form-is, bound-none, bound_some, bound-nones, more-closed}
use Rattle.rule_declarations.proofs.VarLines.{closed-map}
use Rattle.rule_type_lines.proofs.ArrayTypes.{map-two, no-shape-told, no-shape-form, second-form}
use Rattle.rule_type_lines.proofs.TwoParts.{two-staged, two-fault, two_made}

-- ---- the last constant

no_last : (s l : List ℕ) (scope : Scope) (at q : ℕ) → ((ts : List ℕ) (top : ℕ) (σ : Environment) (bs : List ℕ) → Scene s l ts scope top σ bs → last_constant (first (stack_at s at)) ≡ none)
    → GivesLastConstant s l scope at (valued Form 0 (pos 0) q)
unfolding staged
no_last s l scope at q h = record {
  goes = λ k. absurd (false≢true (sym k));
  says = λ ts top σ bs S. rw (h ts top σ bs S) (record { fault-is = refl; value-is = λ c e. wrong-fits e });
}

module _ (s l : List ℕ) (scope : Scope) (at : ℕ) (t : Valued) (G : GivesConstant s l scope at t) (f : Fault) (d : f ≡ t.fault) (r : Valued) where
  pub last-form : (b : Bool) → b ≡ is_form f → b ≡ true → r ≡ valued Form 0 (pos 0) at → GivesLastConstant s l scope at r
  unfolding last_constant
  last-form b e i g = rw g (no_last s l scope at at (λ ts top σ bs S.
      bound-none (constant_in (first (stack_at s at))) _
      (none-wrong (constant_in (first (stack_at s at))) (constant_of σ) plain some (sym (sym d ∙ form-is f (sym e ∙ i)) ∙ (G.says ts top σ bs S).fault-is))))

  module _ (b : Bool) (e : b ≡ is_form f) (i : b ≡ false) (x : Maybe ℕ) (E : Shuts s t.next x) where
    passed : (u : Tree Run) × Before s at u t.next
    passed = G.goes (ap is_form (sym d) ∙ sym e ∙ i)

    rest-is : rest (first (stack_at s at)) ≡ first (stack_at s t.next)
    rest-is = ap rest passed.1.here

    pub last_more : x ≡ None → r ≡ valued Form 0 (pos 0) at → GivesLastConstant s l scope at r
    unfolding last_constant
    last_more j g =
        let m : first (stack_at s t.next) ≡ end → ⊥ = rw j at E.says in
        rw g (no_last s l scope at at (λ ts top σ bs S.
        bound-nones (constant_in (first (stack_at s at))) _ (λ a. more-closed (rest (first (stack_at s at))) a (λ z. m (sym rest-is ∙ z)))))

    pub last-past : (q : ℕ) → x ≡ Some q → SFits w64 t.value → r ≡ valued f t.kind (wire t.value) q → GivesLastConstant s l scope at r
    unfolding last_constant closed
    last-past q j p g =
        let m : ShutAt s t.next q = rw j at E.says in
        let z : rest (first (stack_at s at)) ≡ end = rest-is ∙ m.here in
        let v : r ≡ valued f t.kind t.value q = g ∙ ap (λ (y : ℤ). valued f t.kind y q) (to_z-of_z p) in
        rw v (record {
          goes = λ _. passed.1.around ∙ m.around;
          says = λ ts top σ bs S. rw (z, bound_some (constant_in (first (stack_at s at)))) (record {
            fault-is = d ∙ (G.says ts top σ bs S).fault-is;
            value-is = (G.says ts top σ bs S).value-is;
          });
        })

pub ruleset last_laws = (last-form, last_more, last-past)

-- ---- bits

pub flip-value : (m : Num) (v : ℤ) (p : ℕ) → m ≡ Ok v → SFits w64 v → p ≡ pattern_of (wire v) → 4294967295 - p ≡ flipped_of m
flip-value m v p e f g = rw (e, g, to_z-of_z f) refl

pub flip-failed : (m : Num) (f : ArithFault.Fault) → m ≡ Err f → 0 ≡ flipped_of m
flip-failed m f e = rw e refl

pub ruleset flip_laws = (flip-value, flip-failed)

negative-bits : (z : ℤ) → lt_z z (pos 0) ≡ true → inside least most z ≡ true → flipped_of (exact (negsuc 0 -ℤ z)) ≡ bits z
unfolding exact ranged pick inside bits pattern_of
negative-bits (pos n) h i = absurd (omega (arith, ltb-true n 0 h))
negative-bits (negsuc n) h i =
    let l = leb-true n 2147483647 (and-true (le_z least (negsuc n)) (le_z (negsuc n) most) i).0 in
    let e : n % 4294967296 ≡ n = mod-eq_of_lt (omega arith) in
    let c : suc n - 1 ≡ n = omega arith in
    rw (le-ltb (suc n) 1 (omega arith), c, le-leb n 2147483647 l, e) refl

positive-bits : (z : ℤ) → lt_z z (pos 0) ≡ false → inside least most z ≡ true → pattern_of z ≡ bits z
unfolding inside bits pattern_of
positive-bits (pos n) h i = let l = leb-true n 2147483647 i in mod-eq_of_lt (omega arith)
positive-bits (negsuc n) h i = absurd (false≢true (sym h))

module _ (z : ℤ) (p : SFits w64 z) (r : ℕ) where
  pub bits-negative : lt_z (wire z) (pos 0) ≡ true → (m : Num) → m ≡ exact (negsuc 0 -ℤ wire z) → r ≡ flipped_of m → IsBits z r
  bits-negative h m e g = record { is-bits = λ i. g ∙ ap flipped_of (e ∙ ap (λ (y : ℤ). exact (negsuc 0 -ℤ y)) (to_z-of_z p)) ∙ negative-bits z (rw (to_z-of_z p) at h) i }

  pub bits_positive : lt_z (wire z) (pos 0) ≡ false → r ≡ pattern_of (wire z) → IsBits z r
  bits_positive h g = record { is-bits = λ i. g ∙ ap pattern_of (to_z-of_z p) ∙ positive-bits z (rw (to_z-of_z p) at h) i }

pub ruleset bits_laws = (bits-negative, bits_positive)

-- ---- row 8

module _ (a : ℕ) (y : ℤ) (b : ℕ) (z : ℤ) where
  pub fault-kinds : ((a ≡ b) → ⊥) → Kind ≡ range_fault a y b z
  unfolding range_fault
  fault-kinds h = rw (ne_eqb a b h) refl

  module _ (e : a ≡ b) (p : SFits w64 y) (q : SFits w64 z) where
    pub fault-none : le_z (wire y) (wire z) ≡ true → Clear ≡ range_fault a y b z
    unfolding range_fault
    fault-none h = let g : le_z y z ≡ true = rw (to_z-of_z p, to_z-of_z q) at h in rw (eq-eqb a b e, g) refl

    pub fault-reversed : le_z (wire y) (wire z) ≡ false → Kind ≡ range_fault a y b z
    unfolding range_fault
    fault-reversed h = let g : le_z y z ≡ false = rw (to_z-of_z p, to_z-of_z q) at h in rw (eq-eqb a b e, g) refl

pub ruleset fault_laws = (fault-kinds, fault-none, fault-reversed)

pub shape_is : (f g : Fault) (a : ℕ) (y : ℤ) (b : ℕ) (z : ℤ) (q : ℕ) → SFits w64 y → SFits w64 z → (u : Fault) → u ≡ lowest f g → (o : Fault) → o ≡ range_fault a (wire y) b (wire z)
    → (v : Fault) → v ≡ lowest u o → (m : ℕ) → IsBits (wire y) m → (n : ℕ) → IsBits (wire z) n → (x : Info) → x ≡ ordinal_info a m n
    → GivesRange f g a y b z q (record { fault = v; info = x; within = true; next = q })
unfolding range_shaped
shape_is f g a y b z q py pz u hu o ho v hv m hm n hn x hx =
    let i : o ≡ range_fault a y b z = ho ∙ rw (to_z-of_z py, to_z-of_z pz) refl in
    record { m = m; n = n; low-is = rw (to_z-of_z py) at hm; high_is = rw (to_z-of_z pz) at hn; answer = rw (hv, hu, i, hx) refl }

-- ---- stages

range_last : (us : Trees Run) → range_in us ≡ (constant_in us >>= λ (a : Constant). last_constant (rest us) >>= λ (b : Constant). some (Syntax.range a b))
unfolding range_in last_constant
range_last us = bind-cong (constant_in us) (λ (a : Constant).
    bind-cong (constant_in (rest us)) (λ (b : Constant). sym (closed-map (λ (x : Constant). Syntax.range a x) (rest (rest us)) b))
    ∙ sym (bind_assoc (constant_in (rest us)) (λ (b : Constant). closed (rest (rest us)) b) (λ (b : Constant). some (Syntax.range a b))))

range-entry : (σ : Environment) (w : Name) (a b : Constant) → entry_of σ (type_line w (Syntax.range a b))
    ≡ (constant_of σ a >>= λ (x : Const). constant_of σ b >>= λ (y : Const). given (new_names σ (w ∷ [])) (new_type w (range x y)))
unfolding entry_of decl_of ◌>>=◌ given
range-entry σ w a b = go (constant_of σ a) (constant_of σ b) (new_names σ (w ∷ []))
  where
    go : (o p : Option Const) (z : Bool) → ((o >>= λ (x : Const). p >>= λ (y : Const). given z (range x y)) >>= λ (d : Decl). some (new_type w d)) ≡ (o >>= λ (x : Const). p >>= λ (y : Const). given z (new_type w (range x y)))
    go none p z = refl
    go (some x) none z = refl
    go (some x) (some y) true = refl
    go (some x) (some y) false = refl

abbrev rule : Const → Const → Bool
rule x y = eqb x.kind y.kind && le_z x.value y.value

and_last : (p q e z : Bool) → (((p && q) && e) && z) ≡ ((p && q) && (e && z))
and_last true true e z = refl
and_last true false e z = refl
and_last false q e z = refl

-- what fits is plain
plain_fits : {A : Type 0} (o : Option A) (n : A → Option Const) (c : Const) → staged o n plain some ≡ fits c → plain c ≡ true
unfolding staged Stages.named ruled
plain_fits none n c h = wrong-fits h
plain_fits (some a) n c h = go (n a) h
  where
    last : (t : Bool) (x : Const) → plain x ≡ t → ruled t (some x) ≡ fits c → plain c ≡ true
    last true x e g = let z : x ≡ c = fits-inj g in rw (← z) e
    last false x e g = unfit-fits g

    go : (o : Option Const) → Stages.named o plain some ≡ fits c → plain c ≡ true
    go none g = unnamed-fits g
    go (some x) g = last (plain x) x refl g

range-faults : (a : ℕ) (y : ℤ) (b : ℕ) (z : ℤ) → (range_fault a y b z ≡ Clear) ⊎ (range_fault a y b z ≡ Kind)
unfolding range_fault
range-faults a y b z = go (eqb a b && le_z y z)
  where
    go : (t : Bool) → (cond t Clear Kind ≡ Clear) ⊎ (cond t Clear Kind ≡ Kind)
    go true = inl refl
    go false = inr refl

-- ---- `range_of`

module _ (s l ts : List ℕ) (st : State) (at : ℕ) (a : Valued) (G : GivesConstant s l st.scope at a) (f : Fault) (hf : f ≡ a.fault) where
  abbrev us : Trees Run
  us = first (stack_at s at)

  pub range-form : (t : Bool) → t ≡ is_form f → t ≡ true → (r : Shaped) → r ≡ no_shape at → GivesShape s l ts st at (range_in us) r
  unfolding range_in
  range-form t ht j r q = rw q (record {
    goes = λ z. absurd (no-shape-form at z);
    says = λ k bs H. no-shape-told k (range_in us) at (bound-none (constant_in us) _
        (none-wrong (constant_in us) (constant_of k.env) plain some (sym (sym hf ∙ form-is f (sym ht ∙ j)) ∙ (G.says ts st.top k.env bs H.scene).fault-is)));
  })

  module _ (t : Bool) (ht : t ≡ is_form f) (j : t ≡ false) (b : Valued) (E : GivesLastConstant s l st.scope a.next b) (g : Fault) (hg : g ≡ b.fault) where
    before : (u : Tree Run) × Before s at u a.next
    before = G.goes (ap is_form (sym hf) ∙ sym ht ∙ j)

    left_is : rest us ≡ first (stack_at s a.next)
    left_is = ap rest before.1.here

    module _ (m n : ℕ) (low : IsBits a.value m) (high : IsBits b.value n) (k : Declared) (bs : List ℕ) (H : Holds s l ts st k bs) where
      abbrev S : Staged Const
      S = staged (constant_in us) (constant_of k.env) plain some

      abbrev T : Staged Const
      T = staged (last_constant (first (stack_at s a.next))) (constant_of k.env) plain some

      told_a : ValueTold S a
      told_a = G.says ts st.top k.env bs H.scene

      told_b : ValueTold T b
      told_b = E.says ts st.top k.env bs H.scene

      range-told : ShapeTold k (range_in us) (range_shaped f g a.kind a.value b.kind b.value m n b.next)
      unfolding range_shaped type_sort_of type_bounded shape_number kept_decl range_fault plain
      range-told = record {
        stage = join S T (λ (x y : Const). ruled (rule x y) (some (range x y)));
        stage_is = λ w.
            ap (λ (u : Option TypeForm). entry_staged k (u >>= λ (z : TypeForm). some (type_line w z))) (range_last us ∙ ap (λ (vs : Trees Run). constant_in us >>= λ (x : Constant). last_constant vs >>= λ (y : Constant). some (Syntax.range x y)) left_is)
            ∙ ap (entry_staged k) (map-two (constant_in us) (last_constant (first (stack_at s a.next))) (λ (x y : Constant). Syntax.range x y) (λ (z : TypeForm). type_line w z))
            ∙ two-staged k w (constant_of k.env) (constant_of k.env) plain plain (λ (x y : Constant). type_line w (Syntax.range x y)) (λ (x y : Const). range x y) rule
            (range-entry k.env w) (λ x y. and_last (plain x) (plain y) (eqb x.kind y.kind) (le_z x.value y.value)) (constant_in us) (last_constant (first (stack_at s a.next)));
        fault-is =
            ap (λ (z : Fault). lowest (lowest z g) (range_fault a.kind a.value b.kind b.value)) (hf ∙ told_a.fault-is)
            ∙ ap (λ (z : Fault). lowest (lowest (fault_of S) z) (range_fault a.kind a.value b.kind b.value)) (hg ∙ told_b.fault-is)
            ∙ two-fault (λ (x y : Const). range x y) rule S T (range_fault a.kind a.value b.kind b.value)
            (λ x y p q. let v = told_a.value-is x p in let w = told_b.value-is y q in rw (v.0, v.1, w.0, w.1) refl) (range-faults a.kind a.value b.kind b.value);
        made = λ d q.
            let z = two_made (λ (x y : Const). range x y) rule S T d q in
            let v = told_a.value-is z.0 z.2 in
            let w = told_b.value-is z.1 z.3 in
            let pa : inside least most z.0.value ≡ true = plain_fits (constant_in us) (constant_of k.env) z.0 z.2 in
            let pb : inside least most z.1.value ≡ true = plain_fits (last_constant (first (stack_at s a.next))) (constant_of k.env) z.1 z.3 in
            rw (← z.5) (
              simple-range,
              λ _. record {
                shape_is = refl;
                host-is = v.0;
                low-is = low.is-bits (ap (λ (c : ℤ). inside least most c) v.1 ∙ pa) ∙ ap bits v.1;
                high_is = high.is-bits (ap (λ (c : ℤ). inside least most c) w.1 ∙ pb) ∙ ap bits w.1;
                size_is = λ _. refl;
                index_is = refl;
                element-is = refl;
                fields-is = refl;
                no_fields = refl;
              },
              refl,
            );
      }

    pub range-is : SFits w64 a.value → SFits w64 b.value → (r : Shaped) → GivesRange f g a.kind (wire a.value) b.kind (wire b.value) b.next r → GivesShape s l ts st at (range_in us) r
    unfolding range_shaped
    range-is pa pb r R =
        let la : IsBits a.value R.m = subst (λ (z : ℤ). IsBits z R.m) (to_z-of_z pa) R.low-is in
        let lb : IsBits b.value R.n = subst (λ (z : ℤ). IsBits z R.n) (to_z-of_z pb) R.high_is in
        let q : r ≡ range_shaped f g a.kind a.value b.kind b.value R.m R.n b.next =
        R.answer ∙ ap (λ (z : ℤ). range_shaped f g a.kind z b.kind (wire b.value) R.m R.n b.next) (to_z-of_z pa)
        ∙ ap (λ (z : ℤ). range_shaped f g a.kind a.value b.kind z R.m R.n b.next) (to_z-of_z pb) in
        rw q (record {
          goes = λ z. before.1.around ∙ E.goes (ap is_form (sym hg) ∙ second-form f g (range_fault a.kind a.value b.kind b.value) z);
          says = λ k bs H. range-told R.m R.n la lb k bs H;
        })

pub ruleset range_laws = (range-form, range-is)
