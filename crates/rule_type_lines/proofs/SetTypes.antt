-- The form of a set.
use mathlib.Core.Path.{◌≡◌, refl, sym, ap, ◌∙◌, subst}
use mathlib.Core.Bool.{Bool, true, false, cond, ◌&&◌, false≢true}
use mathlib.Core.Logic.{◌⊎◌, inl, inr}
use mathlib.Core.List.{List, [], ◌∷◌}
use mathlib.Core.Option.{Option, none, some}
use Prim.Native.Nat.{ℕ, ◌-◌, ◌<◌, ◌≤◌}
use native.Mathlib.Omega.{arith}
use borrow.Author.Tests.{eq-eqb, ne_eqb, le-leb, lt-ltb, le-ltb, leb-true}
use lib.Dec.{eqb, leb}
use lib.IntN.{ℤ, pos, negsuc}
use lib.Signed.{le_z}
use Rattle.leaf_integers.specs.Integers.{least, most}
use Rattle.law.specs.Base.{Name, ◌>>=◌, given}
use Rattle.law.specs.Ceilings.{type_bounded}
use Rattle.law.specs.Environment.{Declared, Environment, type_sort_of}
use Rattle.code.specs.Layout.{bits}
use Rattle.law.specs.Names.{type_of, is_known, new_names, decl_of, entry_of}
use Rattle.law.specs.Rules.{keeps_rules, kept_decl}
use Rattle.law.specs.Script.{Decl, Entry, new_type, set_of}
use Rattle.rule_stages.specs.Stages.{Staged, wrong, unnamed, unfit, fits, ruled, staged, on_fits, unknown}
use Rattle.law.specs.Syntax as Syntax
use Rattle.law.specs.Syntax.{TypeName, TypeForm, type_line}
use Rattle.law.specs.Trees.{Trees, Run, first}
use Rattle.law_theorems.specs.Readings.{stack_at}
use Rattle.law.specs.Types.{info_at, ordinal?}
use Rattle.rule_faults.specs.declared.Fault.{Fault}
use Rattle.rule_faults.specs.declared.Fault.TheVariants.{Clear, Kind, Form}
use Rattle.rule_faults.specs.declared.Fault.TheVariants as fault
use Rattle.table_scope.specs.declared.Info.{Info}
use Rattle.table_scope.specs.Descriptions.{info_of, shape_number}
use Rattle.table_scope.proofs.Telling.{shape-ordinal, low_told, high-told}
use Rattle.rule_faults.specs.Got.{is_form, lowest, fault_of}
use Rattle.text_heads.specs.Parts.{rest, closed, type_name_in}
use Rattle.text_heads.proofs.Walks.{bind-cong, bind_assoc}
use Rattle.rule_atoms.specs.declared.Typed.{Typed}
use Rattle.rule_atoms.specs.Answering.{TypeTold}
use Rattle.rule_atoms.proofs.Telling.{fits-inj, unfit-fits, wrong-fits, unnamed-fits}
use Rattle.rule_declarations.specs.Names.{last_type, GivesLastType}
use Rattle.rule_declarations.specs.Lines.{entry_staged, newly}
use Rattle.rule_type_lines.specs.TypeLines.{simple-set, GivesShape}
use Rattle.rule_type_lines.specs.Simple.{set_in, base_fits, ordinal_fault}
use Rattle.rule_declarations.specs.declared.State.{State}
use Rattle.rule_declarations.proofs.VarLines.{closed-map, one-staged}

-- ---- small functions

pub is-ordinal : (n : ℕ) → n ≡ 0 → Clear ≡ ordinal_fault n
unfolding ordinal_fault
is-ordinal n e = rw (eq-eqb n 0 e) refl

pub no-ordinal : (n : ℕ) → ((n ≡ 0) → ⊥) → Kind ≡ ordinal_fault n
unfolding ordinal_fault
no-ordinal n e = rw (ne_eqb n 0 e) refl

pub ruleset ordinal_laws = (is-ordinal, no-ordinal)

pub base-low : (a b : ℕ) → a < 2147483648 → leb b 31 ≡ base_fits a b
unfolding base_fits
base-low a b h = rw (lt-ltb a 2147483648 h) refl

pub base-high : (a b : ℕ) → 2147483648 ≤ a → false ≡ base_fits a b
unfolding base_fits
base-high a b h = rw (le-ltb a 2147483648 h) refl

pub ruleset base_laws = (base-low, base-high)

-- bounds in 32 bits, of a type whose bounds are integers in their order
pub base-is : (a b : ℤ) → le_z least a ≡ true → le_z b most ≡ true → le_z a b ≡ true → base_fits (bits a) (bits b) ≡ (le_z (pos 0) a && le_z b (pos 31))
unfolding base_fits bits
base-is (pos a) (pos b) x y z = let l = leb-true b 2147483647 y in let m = leb-true a b z in rw (lt-ltb a 2147483648 (omega arith), le-leb 0 a (omega arith)) refl
base-is (pos a) (negsuc b) x y z = absurd (false≢true z)
base-is (negsuc a) b x y z = let l = leb-true a 2147483647 x in rw (le-ltb (4294967295 - a) 2147483648 (omega arith)) refl

-- ---- stages

pub map-map : {A B C : Type 0} (o : Option A) (f : A → B) (g : B → C) → ((o >>= λ (a : A). some (f a)) >>= λ (b : B). some (g b)) ≡ (o >>= λ (a : A). some (g (f a)))
unfolding ◌>>=◌
map-map none f g = refl
map-map (some a) f g = refl

set_last : (us : Trees Run) → set_in us ≡ (last_type us >>= λ (t : TypeName). some (Syntax.set_of t))
unfolding set_in last_type
set_last us =
    bind-cong (type_name_in us) (λ (t : TypeName). sym (closed-map (λ (x : TypeName). Syntax.set_of x) (rest us) t))
    ∙ sym (bind_assoc (type_name_in us) (λ (t : TypeName). closed (rest us) t) (λ (t : TypeName). some (Syntax.set_of t)))

set-entry : (σ : Environment) (w : Name) (t : TypeName) → entry_of σ (type_line w (Syntax.set_of t)) ≡ (type_of σ t >>= λ (n : ℕ). given (new_names σ (w ∷ [])) (new_type w (set_of n)))
unfolding entry_of decl_of ◌>>=◌ given
set-entry σ w t = go (type_of σ t) (new_names σ (w ∷ []))
  where
    go : (o : Option ℕ) (b : Bool) → ((o >>= λ (n : ℕ). given b (set_of n)) >>= λ (d : Decl). some (new_type w d)) ≡ (o >>= λ (n : ℕ). given b (new_type w (set_of n)))
    go none b = refl
    go (some n) true = refl
    go (some n) false = refl

module _ (k : Declared) (T : Staged ℕ) where
  abbrev set_stage : Staged Decl
  set_stage = on_fits T (λ (n : ℕ). ruled (ordinal? k.env.types n) (some (set_of n)))

  set-newly : (w : Name) (b : Bool) → newly b T (λ (n : ℕ). ruled (keeps_rules k.env.types (new_type w (set_of n))) (some (new_type w (set_of n)))) ≡ newly b set_stage (λ (d : Decl). fits (new_type w d))
  unfolding newly on_fits unknown ruled keeps_rules kept_decl
  set-newly w b = go T b
    where
      known-last : (n : ℕ) (t : Bool) → ◌≡◌ {A = Staged Entry} unnamed (unknown (ruled t (some (set_of n))))
      known-last n true = refl
      known-last n false = refl

      new-last : (n : ℕ) (t : Bool) → ruled t (some (new_type w (set_of n))) ≡ on_fits (ruled t (some (set_of n))) (λ (d : Decl). fits (new_type w d))
      new-last n true = refl
      new-last n false = refl

      go : (T : Staged ℕ) (b : Bool) → newly b T (λ (n : ℕ). ruled (keeps_rules k.env.types (new_type w (set_of n))) (some (new_type w (set_of n))))
          ≡ newly b (on_fits T (λ (n : ℕ). ruled (ordinal? k.env.types n) (some (set_of n)))) (λ (d : Decl). fits (new_type w d))
      go wrong true = refl
      go wrong false = refl
      go unnamed true = refl
      go unnamed false = refl
      go unfit true = refl
      go unfit false = refl
      go (fits n) true = known-last n (ordinal? k.env.types n)
      go (fits n) false = new-last n (ordinal? k.env.types n)

  set-made : (d : Decl) → set_stage ≡ fits d → (n : ℕ) × (T ≡ fits n) × (ordinal? k.env.types n ≡ true) × (set_of n ≡ d)
  unfolding on_fits ruled
  set-made d h = go T h
    where
      last : (n : ℕ) (t : Bool) → ordinal? k.env.types n ≡ t → ruled t (some (set_of n)) ≡ fits d → (m : ℕ) × (fits n ≡ fits m) × (ordinal? k.env.types m ≡ true) × (set_of m ≡ d)
      last n true e g = (n, refl, e, fits-inj g)
      last n false e g = unfit-fits g

      go : (T : Staged ℕ) → on_fits T (λ (n : ℕ). ruled (ordinal? k.env.types n) (some (set_of n))) ≡ fits d → (n : ℕ) × (T ≡ fits n) × (ordinal? k.env.types n ≡ true) × (set_of n ≡ d)
      go wrong g = wrong-fits g
      go unnamed g = unnamed-fits g
      go unfit g = unfit-fits g
      go (fits n) g = last n (ordinal? k.env.types n) refl g

  set-fault : (v : Fault) → ((n : ℕ) → T ≡ fits n → v ≡ cond (ordinal? k.env.types n) Clear Kind) → (v ≡ Clear) ⊎ (v ≡ Kind) → lowest (fault_of T) v ≡ fault_of set_stage
  unfolding on_fits ruled
  set-fault v h c = go T h c
    where
      last : (t : Bool) (n : ℕ) → cond t Clear Kind ≡ fault_of (ruled t (some (set_of n)))
      last true n = refl
      last false n = refl

      go : (T : Staged ℕ) → ((n : ℕ) → T ≡ fits n → v ≡ cond (ordinal? k.env.types n) Clear Kind) → (v ≡ Clear) ⊎ (v ≡ Kind)
          → lowest (fault_of T) v ≡ fault_of (on_fits T (λ (n : ℕ). ruled (ordinal? k.env.types n) (some (set_of n))))
      go wrong g c = refl
      go unnamed g (inl e) = rw e refl
      go unnamed g (inr e) = rw e refl
      go unfit g (inl e) = rw e refl
      go unfit g (inr e) = rw e refl
      go (fits n) g c = g n refl ∙ last (ordinal? k.env.types n) n

pub two-faults : (n : ℕ) → (ordinal_fault n ≡ Clear) ⊎ (ordinal_fault n ≡ Kind)
unfolding ordinal_fault
two-faults n = go (eqb n 0)
  where
    go : (b : Bool) → (cond b Clear Kind ≡ Clear) ⊎ (cond b Clear Kind ≡ Kind)
    go true = inl refl
    go false = inr refl

pub lowest-form : (f g : Fault) → is_form (lowest f g) ≡ false → is_form f ≡ false
lowest-form Clear g h = refl
lowest-form Kind g h = refl
lowest-form fault.Name g h = refl
lowest-form Form g h = h

-- ---- `set_of`

pub set_is : (s l ts : List ℕ) (st : State) (at : ℕ) (t : Typed) → GivesLastType s l st.scope at t → (f : Fault) → f ≡ t.fault
    → (x : Info) → x ≡ info_of l ts t.kind → (o : Fault) → o ≡ ordinal_fault x.shape → (v : Fault) → v ≡ lowest f o → (b : Bool) → b ≡ base_fits x.low x.high
    → GivesShape s l ts st at (set_in (first (stack_at s at)))
    (record { fault = v; info = record { shape = 1; host = 0; low = x.low; high = x.high; size = 1; index = 0; element = t.kind; fields = 0; place = 0 }; within = b; next = t.next })
unfolding shape_number type_sort_of type_bounded ordinal_fault
set_is s l ts st at t G f e x hx o ho v hv b hb = record {
  goes = λ q. G.goes (ap is_form (sym e) ∙ lowest-form f o (ap is_form (sym hv) ∙ q));
  says = λ k bs H.
      let T : Staged ℕ = staged (last_type (first (stack_at s at))) (type_of k.env) (λ _. true) some in
      let D : TypeTold T t = G.says ts st.top k.env bs H.scene in
      record {
        stage = set_stage k T;
        stage_is = λ w.
            ap (λ (u : Option TypeForm). entry_staged k (u >>= λ (z : TypeForm). some (type_line w z))) (set_last (first (stack_at s at)))
            ∙ ap (entry_staged k) (map-map (last_type (first (stack_at s at))) (λ (z : TypeName). Syntax.set_of z) (λ (z : TypeForm). type_line w z))
            ∙ one-staged k w (λ (z : TypeName). type_line w (Syntax.set_of z)) (λ (n : ℕ). new_type w (set_of n)) (set-entry k.env w) (last_type (first (stack_at s at)))
            ∙ set-newly k T w (is_known k.env w);
        fault-is =
            hv ∙ ap (λ (z : Fault). lowest z o) (e ∙ D.fault-is)
            ∙ set-fault k T o (λ n q. ho ∙ ap (λ (z : Info). ordinal_fault z.shape) (hx ∙ ap (info_of l ts) (D.kind-is n q)) ∙ ap (λ (z : Bool). cond z Clear Kind) (shape-ordinal H.scene n)) (subst (λ (z : Fault). (z ≡ Clear) ⊎ (z ≡ Kind)) (sym ho) (two-faults x.shape));
        made = λ d q.
            let m = set-made k T d q in
            let n : t.kind ≡ m.0 = D.kind-is m.0 m.1 in
            let y : x ≡ info_of l ts m.0 = hx ∙ ap (info_of l ts) n in
            let S = H.scene.table.each m.0 in
            rw (← m.3) (
              simple-set,
              λ _. record {
                shape_is = refl;
                host-is = refl;
                low-is = ap (λ (z : Info). z.low) y ∙ low_told H.scene m.0;
                high_is = ap (λ (z : Info). z.high) y ∙ high-told H.scene m.0;
                size_is = λ _. refl;
                index_is = refl;
                element-is = n;
                fields-is = refl;
                no_fields = refl;
              },
              hb ∙ ap (λ (z : Info). base_fits z.low z.high) y ∙ rw (low_told H.scene m.0, high-told H.scene m.0)
                  (base-is (info_at k.env.types m.0).low (info_at k.env.types m.0).high (S.small m.2).0 (S.small m.2).1 (S.filled m.2)),
            );
      };
}
