-- The ways through forms: from what is marked of their parts to what is marked of them.
use mathlib.Core.Path.{◌≡◌, refl, sym, ◌∙◌}
use mathlib.Core.Bool.{Bool, true, false}
use mathlib.Core.List.{List, map}
use mathlib.Core.Option.{some}
use Prim.Native.Nat.{ℕ}
use native.Mathlib.Omega.{arith}
use borrow.Author.Rules.{sfits_of}
use lib.Dec.{eqb}
use lib.IntN.{ℤ, neg_ℤ}
use mir.Syntax.{w64}
use mir.Val.{SFits}
use mir.Facts.{to_z-of_z}
use Rattle.leaf_integers.proofs.Machine.{wire}
use Rattle.leaf_bytes.specs.Bytes.{small}
use Rattle.law.specs.Environment.{Environment}
use Rattle.law.specs.Machine.{Store}
use Rattle.law.specs.Marking.{mark_expr, mark_target, mark_members}
use Rattle.law.specs.Names as Names
use Rattle.law.specs.Names.{const_of, expr_of, target_of, atom_of as atom_meant}
use Rattle.law.specs.Operators.{Op, Fun, negate, minus}
use Rattle.law.specs.Script.{Expr, const}
use Rattle.law.specs.Syntax as Syntax
use Rattle.law.specs.Trees.{Tree, Trees, end, ◌then◌, Run, first, word_at}
use Rattle.law_theorems.specs.Readings.{stack_at}
use Rattle.law_theorems.proofs.Inversion.{none-some, some_inj, bind-some}
use Rattle.table_kinds.specs.Kinds.{op_number}
use Rattle.table_kinds.specs.Functions.{fun_number}
use Rattle.code_calc.specs.Words.{no_result, Holds}
use Rattle.text_heads.specs.declared.ExprHead.TheVariants as EH
use Rattle.text_heads.specs.Parts.{rest, expr_in, name_in}
use Rattle.table_scope.specs.declared.Scope.{Scope}
use Rattle.table_scope.specs.Descriptions.{info_of}
use Rattle.table_scope.proofs.Telling.{kinded, shape-set}
use Rattle.std.specs.Prelude.{Option, Some, None}
use Rattle.text_parts.specs.Parts.{Shuts}
use Rattle.rule_atoms.specs.declared.Typed.{Typed}
use Rattle.rule_atoms.specs.Answering.{GivesType}
use Rattle.std.specs.Prelude.{Some, None, Option as Maybe}
use Rattle.rule_expr_leaves.specs.Fields.{SoleName}
use Rattle.rule_expr_leaves.specs.Words.{StandsAlone}
use Rattle.text_skips.specs.Skips.{Skips}
use Rattle.rule_expressions.specs.Walks.{form_in}
use Rattle.mark_values.specs.declared.values.Carried.{Carried}
use Rattle.mark_values.specs.declared.places.Reached.{Reached}
use Rattle.mark_values.specs.Values.{carried_of, Carries, Reaches, Known}
use Rattle.mark_operators.specs.Operations.{Operates, Applies, Shorts}
use Rattle.mark_values.specs.Steps.{Constants, Loads, Indexes, Selects}
use Rattle.mark_values.proofs.Carrying.{carries-one, carries-stuck}
use Rattle.mark_values.proofs.Ruling.{simple-set}
use Rattle.mark_expressions.specs.Marks.{MarksExpr, MarksTarget, MarksForm, MarksPlace, MarksMinus, MarksMembers}
use Rattle.mark_expressions.proofs.Inverting.{past-expr, past-target, past-type, last-part, two-parts, one-part, short-parts, members-part, minus-constant, minus-side, minus-sides, at_part, dot-part, at-parts, dot-parts}
use Rattle.mark_expressions.proofs.Naming.{named-type}

no_both : {t : Tree Run} {ts : Trees Run} → (t then ts) ≡ end → ⊥
no_both h = let z : ◌≡◌ {A = ℕ} 0 1 = cc in omega arith

module _ (s l ts : List ℕ) (ws : List ℤ) (scope : Scope) (d at : ℕ) where
  abbrev us : Trees Run
  us = first (stack_at s at)

  -- ---- one side, and two

  module _ (a : Carried) (A : MarksExpr s l ts ws scope d at a) (r : Carried) where
    -- a side that was read
    side : (f : ℕ) → Applies l ts f a r → (σ : Environment) → Known s l ts scope σ → (o : Fun) → f ≡ fun_number o → (x : Syntax.Expr) → expr_in d us ≡ some x
        → (y : Expr) → expr_of σ (Syntax.unary o x) ≡ some y → (m : Store) → Holds ws m → Carries σ.types m (mark_expr σ.types σ.vars y m) r
    unfolding expr_of mark_expr
    side f F σ S o n x hx y k m H = bind-some k (λ e he i. rw (← some_inj i) (F.says s scope σ S m o n (mark_expr σ.types σ.vars e m) ((A.says σ S).says x e hx he m H)))

    pub one-is : (f : ℕ) → Applies l ts f a r → MarksForm s l ts ws scope (EH.One f) d at r
    one-is f F = record { says = λ σ S. record { says = λ x y h k m H. one-part d us x f h (λ o b n hb q. side f F σ S o n b hb y (rw (← q) at k) m H) } }

    module _ (q : ℕ) (Q : Skips s at q) (b : Carried) (B : MarksExpr s l ts ws scope d q b) where
      sides : (op : ℕ) → Operates l ts op a b r → (σ : Environment) → Known s l ts scope σ → (o : Op) → op ≡ op_number o → (x z : Syntax.Expr) → expr_in d us ≡ some x → expr_in d (rest us) ≡ some z
          → (y : Expr) → expr_of σ (Syntax.binary o x z) ≡ some y → (m : Store) → Holds ws m → Carries σ.types m (mark_expr σ.types σ.vars y m) r
      unfolding expr_of mark_expr
      sides op F σ S o n x z hx hz y k m H = bind-some k (λ e he g. bind-some g (λ f hf i.
          rw (← some_inj i) (F.says s scope σ S m o n (mark_expr σ.types σ.vars e m) (mark_expr σ.types σ.vars f m)
          ((A.says σ S).says x e hx he m H) ((B.says σ S).says z f (rw (past-expr Q d x hx) at hz) hf m H))))

      pub two_is : (op : ℕ) → Operates l ts op a b r → MarksForm s l ts ws scope (EH.Two op) d at r
      two_is op F = record { says = λ σ S. record { says = λ x y h k m H. two-parts d us x op h (λ o u v n hu hv e. sides op F σ S o n u v hu hv y (rw (← e) at k) m H) } }

      pub short-is : (every : Bool) → Shorts every a b r → MarksForm s l ts ws scope (EH.Short every) d at r
      unfolding expr_of mark_expr
      short-is every F = record {
        says = λ σ S. record {
          says = λ x y h k m H. short-parts d us x every h (λ u v hu hv e. bind-some (rw (← e) at k) (λ f hf g. bind-some g (λ j hj i.
              rw (← some_inj i) (F.says σ.types (kinded S.scene).booleans m (mark_expr σ.types σ.vars f m) (mark_expr σ.types σ.vars j m)
              ((A.says σ S).says u f hu hf m H) ((B.says σ S).says v j (rw (past-expr Q d u hu) at hv) hj m H)))));
        };
      }

    -- ---- `-`

    module _ (q : ℕ) (Q : Skips s at q) (e : Option ℕ) (E : Shuts s q e) where
      pub minus_one : (n : ℕ) → e ≡ Some n → Applies l ts 0 a r → MarksMinus s l ts ws scope d at r
      unfolding fun_number
      minus_one n h F = record { marks = λ N. record { says = λ σ S. record { says = λ x y g k m H. go N σ S x y g k m H (rest us) refl } } }
        where
          go : StandsAlone s at None → (σ : Environment) → Known s l ts scope σ → (x : Syntax.Expr) (y : Expr) → form_in EH.Minus d us ≡ some x → expr_of σ x ≡ some y → (m : Store) → Holds ws m
              → (vs : Trees Run) → rest us ≡ vs → Carries σ.types m (mark_expr σ.types σ.vars y m) r
          go N σ S x y g k m H end i = minus-side d us x (N.says i) i g (λ u hu j. side 0 F σ S negate refl u hu y (rw (← j) at k) m H)
          go N σ S x y g k m H (t then vs) i = minus-sides d us x t vs i g (λ u v hu hv j. absurd (no_both (sym i ∙ past-expr Q d u hu ∙ (rw h at E.says).here)))

      pub minus-two : (b : Carried) → e ≡ None → MarksExpr s l ts ws scope d q b → Operates l ts 1 a b r → MarksMinus s l ts ws scope d at r
      unfolding op_number
      minus-two b h B F = record { marks = λ N. record { says = λ σ S. record { says = λ x y g k m H. go N σ S x y g k m H (rest us) refl } } }
        where
          go : StandsAlone s at None → (σ : Environment) → Known s l ts scope σ → (x : Syntax.Expr) (y : Expr) → form_in EH.Minus d us ≡ some x → expr_of σ x ≡ some y → (m : Store) → Holds ws m
              → (vs : Trees Run) → rest us ≡ vs → Carries σ.types m (mark_expr σ.types σ.vars y m) r
          go N σ S x y g k m H end i = minus-side d us x (N.says i) i g (λ u hu j. absurd ((rw h at E.says) (sym (past-expr Q d u hu) ∙ i)))
          go N σ S x y g k m H (t then vs) i = minus-sides d us x t vs i g (λ u v hu hv j. sides q Q b B 1 F σ S minus refl u v hu hv y (rw (← j) at k) m H)

  module _ (n : Maybe (ℤ × ℕ)) (N : StandsAlone s at n) (r : Carried) where
    pub minus-alone : (z : ℤ) (q : ℕ) → n ≡ Some (z, q) → SFits w64 z → Constants l ts 0 (neg_ℤ (wire z)) r → MarksForm s l ts ws scope EH.Minus d at r
    unfolding expr_of atom_meant mark_expr
    minus-alone z q h f C = record {
      says = λ σ S. record {
        says = λ x y g k m H.
            let e = rw h at N.says in
            minus-constant d us x z e.0 e.1 g (λ i.
            let t : const (const_of 0 (neg_ℤ z)) ≡ y = some_inj (rw (← i) at k) in
            rw (← t) (rw (to_z-of_z f) at (C.says s scope σ S m)));
      };
    }

    pub minus-other : n ≡ None → MarksMinus s l ts ws scope d at r → MarksForm s l ts ws scope EH.Minus d at r
    minus-other h M = M.marks (rw h at N)

  -- ---- `members`

  module _ (t : Typed) (G : GivesType s l scope at t) (b : Bool) (eb : b ≡ eqb (info_of l ts t.kind).shape 1) (r : Carried) where
    pub set_is : (q : ℕ) (w : ℤ) → b ≡ true → Skips s at q → MarksMembers s l ts ws scope t.kind d q w → SFits w64 w → r ≡ carried_of t.kind (wire w) 0 → MarksForm s l ts ws scope EH.Members d at r
    unfolding expr_of mark_expr
    set_is q w h Q M f e = record {
      says = λ σ S. record {
        says = λ x y g k m H. members-part d us x g (λ n es hn he i. bind-some (rw (← i) at k) (λ c hc j. bind-some j (λ xs hx v.
            let z = named-type G S n c hn hc in
            let o = sym (shape-set S.scene t.kind) ∙ sym eb ∙ h in
            rw (← some_inj v, ← z, o, e, to_z-of_z f)
            (carries-one σ.types m t.kind w (mark_members σ.types σ.vars t.kind xs m) (simple-set σ.types (kinded S.scene) t.kind o) ((M.says σ S).says es xs (rw (past-type Q n hn) at he) hx m H)))));
      };
    }

    pub set-not : b ≡ false → r ≡ carried_of 0 no_result 0 → MarksForm s l ts ws scope EH.Members d at r
    unfolding expr_of mark_expr
    set-not h e = record {
      says = λ σ S. record {
        says = λ x y g k m H. members-part d us x g (λ n es hn he i. bind-some (rw (← i) at k) (λ c hc j. bind-some j (λ xs hx v.
            let z = named-type G S n c hn hc in
            rw (← some_inj v, ← z, sym (shape-set S.scene t.kind) ∙ sym eb ∙ h, e) (carries-stuck σ.types m))));
      };
    }

  -- ---- elements and fields

  module _ (g : Reached) (r : Carried) (L : Loads l ts ws g r) where
    load-place : (σ : Environment) → Known s l ts scope σ → (o : Syntax.Target) → ((k : Names.Reached) → target_of σ o ≡ some k → (m : Store) → Holds ws m → Reaches (mark_target σ.types σ.vars k.target m) g)
        → (y : Expr) → expr_of σ (Syntax.read o) ≡ some y → (m : Store) → Holds ws m → Carries σ.types m (mark_expr σ.types σ.vars y m) r
    unfolding expr_of mark_expr
    load-place σ S o R y k m H = bind-some k (λ p hp i. rw (← some_inj i) (L.says s scope σ S m H (mark_target σ.types σ.vars p.target m) (R p hp m H)))

    pub load-at-is : MarksPlace s l ts ws scope EH.At d at g → MarksForm s l ts ws scope EH.At d at r
    load-at-is G = record { says = λ σ S. record { says = λ x y h k m H. at_part d us x h (λ o ho i. load-place σ S o (λ p hp m H. (G.says σ S).says o p ho hp m H) y (rw (← i) at k) m H) } }

    pub load-dot-is : MarksPlace s l ts ws scope EH.Dot d at g → MarksForm s l ts ws scope EH.Dot d at r
    load-dot-is G = record { says = λ σ S. record { says = λ x y h k m H. dot-part d us x h (λ o ho i. load-place σ S o (λ p hp m H. (G.says σ S).says o p ho hp m H) y (rw (← i) at k) m H) } }

  module _ (g : Reached) (G : MarksTarget s l ts ws scope d at g) (q : ℕ) (Q : Skips s at q) (r : Reached) where
    pub element-is : (x : Carried) → MarksExpr s l ts ws scope d q x → Indexes l ts g x r → MarksPlace s l ts ws scope EH.At d at r
    unfolding target_of mark_target
    element-is x X I = record {
      says = λ σ S. record {
        says = λ o k h j m H. at-parts d us o h (λ p e hp he i. bind-some (rw (← i) at j) (λ u hu v. bind-some v (λ w hw z.
            rw (← some_inj z) (I.says s scope σ S m (mark_target σ.types σ.vars u.target m) (mark_expr σ.types σ.vars w m)
            ((G.says σ S).says p u hp hu m H) ((X.says σ S).says e w (rw (past-target Q d p hp) at he) hw m H)))));
      };
    }

    module _ (n : Maybe (ℕ × ℕ)) (N : SoleName s q n) where
      pub field_is : (p z : ℕ) → n ≡ Some (p, z) → Selects s l ts g p r → MarksPlace s l ts ws scope EH.Dot d at r
      unfolding target_of mark_target
      field_is p z e F = record {
        says = λ σ S. record {
          says = λ o k h j m H. dot-parts d us o h (λ y w hy hw i. bind-some (rw (← i) at j) (λ u hu v. bind-some v (λ t ht x.
              let f = rw e at N.says in
              let a : map small (word_at s p) ≡ w = some_inj (sym f.0 ∙ last-part (name_in (first (stack_at s q))) _ w (rw (past-target Q d y hy) at hw)) in
              rw (← some_inj x, ← a) (F.says scope σ S (mark_target σ.types σ.vars u.target m) ((G.says σ S).says y u hy hu m H)))));
        };
      }

      pub field-none : n ≡ None → MarksPlace s l ts ws scope EH.Dot d at r
      field-none e = record {
        says = λ σ S. record { says = λ o k h j m H. dot-parts d us o h (λ y w hy hw i. none-some (sym (rw e at N.says) ∙ (rw (past-target Q d y hy) at hw))) };
      }

pub ruleset minus-parts-laws = (minus_one, minus-two)

pub ruleset minus-laws = (minus-alone, minus-other, sfits_of)

pub ruleset set-laws = (set_is, set-not, sfits_of)

pub ruleset field_laws = (field_is, field-none)
