-- Targets: an element, a field, and the cells at either.
use mathlib.Core.Path.{◌≡◌, refl, sym, ap, ◌∙◌}
use mathlib.Core.Bool.{Bool, true, false, cond, ◌&&◌, true≢false}
use mathlib.Core.List.{List, [], ◌∷◌, map}
use mathlib.Core.Option.{Option, none, some}
use Prim.Native.Nat.{ℕ, ◌+◌, ◌≤◌}
use native.Mathlib.Omega.{arith}
use borrow.Author.Tests.{ne_eqb}
use lib.Dec.{eqb}
use lib.IntN.{ℤ}
use lib.ListN.{get_or}
use Rattle.leaf_bytes.specs.Bytes.{small}
use Rattle.law.specs.Base as Base
use Rattle.law.specs.Base.{◌>>=◌, both, given}
use Rattle.law.specs.Code.{Code, Place, index, shift, load}
use Rattle.law.specs.Elaborate.{Elaborated, Located, elaborated, located, elab_target}
use Rattle.law.specs.Environment.{Environment}
use Rattle.code.specs.Layout.{Out, out, lay, lay_code, lay_place, lay_load, bits}
use Rattle.law.specs.Names.{Reached, target_of, element_of, field_in}
use Rattle.law.specs.Rules.{plain_target}
use Rattle.rule_stages.specs.Stages.{Staged, wrong, unnamed, unfit, fits, ruled, named, staged, on_fits, or_unfit, dotted, expr_staged, target_staged, target_name, target_type, type_by}
use Rattle.law.specs.Syntax as Syntax
use Rattle.law.specs.Trees.{Trees, end, Run, first, word_at}
use Rattle.law_theorems.specs.Readings.{stack_at}
use Rattle.law.specs.Types.{Field, info_at, host_of, size_of, array?, record?, field_of}
use Rattle.law_theorems.proofs.Inversion.{none-some, some_inj, bind-some, both_some, given-some}
use Rattle.rule_stages.proofs.OnePassExprs.{at-staged, dot-staged, read-staged}
use Rattle.text_heads.specs.declared.ExprHead.{ExprHead}
use Rattle.text_heads.specs.declared.ExprHead.TheVariants as EH
use Rattle.text_heads.specs.Parts.{rest, closed, expr_in, target_in, name_in, target_by}
use Rattle.text_heads.proofs.Expressions.{at_read, dot-read}
use Rattle.table_scope.specs.declared.Scope.{Scope}
use Rattle.rule_faults.specs.declared.Fault.{Fault}
use Rattle.rule_faults.specs.declared.Fault.TheVariants.{Clear, Kind, Name, Form}
use Rattle.table_scope.specs.declared.Info.{Info}
use Rattle.table_scope.specs.Descriptions.{info_of, integer_info, field_place}
use Rattle.table_scope.specs.Scene.{Scene}
use Rattle.table_scope.specs.Sides.{host_in}
use Rattle.table_scope.proofs.Kept.{scene-kept}
use Rattle.table_scope.proofs.Telling.{shape-array, shape-record, low_told, high-told, size-told, index-told, element-told, fields-short, field_told, FieldFound, no_field, a-field, host-in}
use Rattle.rule_faults.specs.declared.Got.{Got}
use Rattle.rule_faults.specs.Got.{lowest, is_form, fault_of, failed_got, Told}
use Rattle.rule_expr_nodes.specs.Bracket.{Closes}
use Rattle.rule_expr_nodes.specs.Nodes.{Made, Makes, failed_made, node_made, if_clear}
use Rattle.rule_expr_compounds.specs.Targets.{loaded, element_kind, element, indexed, field_made, selected_made, Selects}
use Rattle.std.specs.Prelude.{Some, None, Option as Maybe}
use Rattle.rule_expr_leaves.specs.Fields.{SoleName}
use Rattle.rule_expressions.specs.Walks.{ExprTold, TypeIs, a-type, no-type, TargetTold, GivesExpr, GivesTarget, form_in, GivesForm, GivesPlace}
use Rattle.rule_expressions.proofs.Joining.{wrong-fits, unnamed-fits, unfit-fits, fits-inj, told-wrong, told-unnamed, told-unfit, told-fits, told-join, told-one, told-or}
use Rattle.rule_expressions.proofs.Closing.{staged-none, wrong-none, form-true, wrong-true, right-lowest, clear-form, closed-two, Stays, stays-failed, stays-node, stays-clear, stays-cond, same-trans, rest-is, left-wrong, leaves-two}
use Rattle.rule_expressions.proofs.Operators.{expr-closed}

-- ---- row 6 of a target

pub target_none : (σ : Environment) → target_staged σ none ≡ wrong
unfolding target_staged
target_none σ = staged-none (target_name σ) plain_target (elab_target σ.types σ.vars)

pub target-wrong : (σ : Environment) (o : Option Syntax.Target) → target_staged σ o ≡ wrong → o ≡ none
unfolding target_staged
target-wrong σ o h = wrong-none (target_name σ) plain_target (elab_target σ.types σ.vars) o h

pub target-failed : (σ : Environment) (o : Option Syntax.Target) (top : ℕ) (l : List ℕ) (g : Got) (l' : List ℕ) → o ≡ none → g.fault ≡ Form → TargetTold σ o top l g l'
target-failed σ o top l g l' h e = record { told = rw (h, target_none σ) (told-wrong e); typed = λ x r i j. none-some (sym h ∙ i) }

pub target-missing : {σ : Environment} {o : Option Syntax.Target} {top : ℕ} {l : List ℕ} {g : Got} {l' : List ℕ} → TargetTold σ o top l g l' → is_form g.fault ≡ true → o ≡ none
target-missing {σ} {o} t h = target-wrong σ o (wrong-true (target_staged σ o) (ap is_form (sym t.told.fault-is) ∙ h))

none-bind : {A B : Type 0} (f : A → Option B) → (none >>= f) ≡ none
unfolding ◌>>=◌
none-bind f = refl

-- ---- elements

pub at-form : (d : ℕ) (us : Trees Run) → target_by EH.At d us ≡ (target_in d us >>= λ g. (expr_in d (rest us) >>= λ e. closed (rest (rest us)) e) >>= λ e. some (Syntax.at g e))
unfolding target_by
at-form d us = closed-two Syntax.at (target_in d us) (expr_in d (rest us)) (rest (rest us))

module _ {s ts : List ℕ} {scope : Scope} {σ : Environment} {bs : List ℕ} {l₂ : List ℕ} {t₂ : ℕ} (S : Scene s l₂ ts scope t₂ σ bs) where
  -- an element without a fault in its parts
  element-made : {t₀ : ℕ} {l₀ l₁ : List ℕ} (g e : Got) (w : Located) (y : Elaborated) → g.kind ≡ w.type → out g.place g.top l₁ ≡ lay_place w.place t₀ l₀ → e.kind ≡ y.kind
      → out e.place e.top l₂ ≡ lay_code y.code g.top l₁
      → Told (or_unfit (given (array? σ.types w.type && eqb (host_of σ.types (info_at σ.types w.type).index) y.kind)
      (located (info_at σ.types w.type).element (index w.place y.code (info_at σ.types w.type).low (info_at σ.types w.type).high (size_of σ.types (info_at σ.types w.type).element)))))
      (λ w. w.type) (λ w. lay_place w.place) t₀ l₀ (element l₂ ts (info_of l₂ ts g.kind) g e).got (element l₂ ts (info_of l₂ ts g.kind) g e).list
  unfolding element lay_code lay_place lay given info_of
  element-made {t₀} {l₀} {l₁} g e w y kg lg ke le =
      rw (kg, ke, shape-array S w.type, index-told S w.type, host-in S (info_at σ.types w.type).index, element-told S w.type, low_told S w.type, high-told S w.type, size-told S (info_at σ.types w.type).element)
      (go (array? σ.types w.type && eqb (host_of σ.types (info_at σ.types w.type).index) y.kind))
    where
      L : Located
      L = located (info_at σ.types w.type).element (index w.place y.code (info_at σ.types w.type).low (info_at σ.types w.type).high (size_of σ.types (info_at σ.types w.type).element))

      M : Made
      M = node_made (info_at σ.types w.type).element e.next (lay (41 ∷ g.place ∷ e.place ∷ bits (info_at σ.types w.type).low ∷ bits (info_at σ.types w.type).high ∷ size_of σ.types (info_at σ.types w.type).element ∷ []) e.top l₂)

      go : (b : Bool) → Told (or_unfit (given b L)) (λ w. w.type) (λ w. lay_place w.place) t₀ l₀
          (cond b M (failed_made Kind (element_kind (info_of l₂ ts w.type)) e.next e.top l₂)).got (cond b M (failed_made Kind (element_kind (info_of l₂ ts w.type)) e.next e.top l₂)).list
      go true = told-or (some L) (λ h. none-some (sym h)) (λ c h. rw (← some_inj h) (refl, refl, rw (← lg, ← le) refl))
      go false = told-or none (λ _. refl) (λ c h. none-some h)

  -- the element's type behind a fault
  element-typed : (o : Option ℕ) (k : ℕ) → TypeIs o k → TypeIs (element_of σ o) (element_kind (info_of l₂ ts k))
  unfolding element_of element_kind given info_of integer_info
  element-typed none k no-type = no-type
  element-typed (some t) k a-type = rw (shape-array S t, element-told S t) (go (array? σ.types t))
    where
      go : (b : Bool) → TypeIs (given b (info_at σ.types t).element) (cond b (info_at σ.types t).element 0)
      go true = a-type
      go false = no-type

  -- a field of a target: its stages by what is known of the target's type
  module _ {t₀ : ℕ} {l₀ : List ℕ} (o : Option Syntax.Target) (g : Got) (T : TargetTold σ o t₀ l₀ g l₂) (w : Base.Name) (q : ℕ) where
    abbrev F : Located → Option Located
    F l = field_of (info_at σ.types l.type).fields w >>= λ f. some (located f.type (shift l.place f.offset))

    abbrev M : Made
    M = selected_made s l₂ (info_of l₂ ts g.kind) w q g

    -- the made answer, by what the description tells
    found-made : (p : ℕ) → eqb (info_of l₂ ts g.kind).shape 3 ≡ true → field_place s l₂ ((info_of l₂ ts g.kind).place + 8) (info_of l₂ ts g.kind).fields w ≡ p → M ≡ field_made l₂ p q g
    unfolding selected_made
    found-made p h e = rw (h, e) refl

    other-made : eqb (info_of l₂ ts g.kind).shape 3 ≡ false → M ≡ failed_made (lowest g.fault Kind) 0 q g.top l₂
    unfolding selected_made
    other-made h = rw h refl

    none_made : field_made l₂ 0 q g ≡ failed_made (lowest g.fault Name) 0 q g.top l₂
    unfolding field_made
    none_made = refl

    one-made : (p : ℕ) → 1 ≤ p → field_made l₂ p q g ≡ if_clear g.fault (get_or l₂ (p + 1) 0) q g.top l₂ (node_made (get_or l₂ (p + 1) 0) q (lay (42 ∷ g.place ∷ get_or l₂ (p + 2) 0 ∷ []) g.top l₂))
    unfolding field_made
    one-made p h = rw (ne_eqb p 0 (omega arith)) refl

    -- what is known of the field: missing, of no record, or there
    data Known : Type 0 where
      missing : field_in σ (target_type σ o) w ≡ none → M ≡ failed_made (lowest g.fault Name) 0 q g.top l₂ → Known
      of_none : field_in σ (target_type σ o) w ≡ some none → ((v : Located) → target_staged σ o ≡ fits v → field_of (info_at σ.types v.type).fields w ≡ none) → M ≡ failed_made (lowest g.fault Kind) 0 q g.top l₂ → Known
      there : (f : Field) → field_in σ (target_type σ o) w ≡ some (some f.type) → ((v : Located) → target_staged σ o ≡ fits v → field_of (info_at σ.types v.type).fields w ≡ some f)
          → M ≡ if_clear g.fault f.type q g.top l₂ (node_made f.type q (lay (42 ∷ g.place ∷ f.offset ∷ []) g.top l₂)) → Known

    type-is : (x : Syntax.Target) (r : Reached) → o ≡ some x → target_of σ x ≡ some r → target_type σ o ≡ r.type
    unfolding target_type type_by
    type-is x r h k = rw (h, k) refl

    kind_fits : (v : Located) → target_staged σ o ≡ fits v → g.kind ≡ v.type
    kind_fits v e = (T.told.laid v e).0

    no_fields : (t : ℕ) → record? σ.types t ≡ false → field_of (info_at σ.types t).fields w ≡ none
    unfolding field_of
    no_fields t h = rw (S.fieldless t h) refl

    of-record : (t : ℕ) → record? σ.types t ≡ true → field_in σ (some t) w ≡ (field_of (info_at σ.types t).fields w >>= λ f. some (some f.type))
    unfolding field_in
    of-record t h = rw (h, field_in) refl

    of_other : (t : ℕ) → record? σ.types t ≡ false → field_in σ (some t) w ≡ some none
    unfolding field_in
    of_other t h = rw (h, field_in) refl

    no-shape : eqb (info_of l₂ ts 0).shape 3 ≡ false
    unfolding info_of integer_info
    no-shape = refl

    known_at : (u : Option ℕ) (k : ℕ) → TypeIs u k → g.kind ≡ k → target_type σ o ≡ u → Known
    unfolding field_in ◌>>=◌
    known_at none k no-type e h =
        of_none (rw h refl)
        (λ v f. let z : v.type ≡ 0 = sym (kind_fits v f) ∙ e in rw z (no_fields 0 (sym (shape-record S 0) ∙ no-shape)))
        (other-made (rw e no-shape))
    known_at (some t) k a-type e h = go (record? σ.types t) refl
      where
        at-fits : (v : Located) → target_staged σ o ≡ fits v → v.type ≡ t
        at-fits v f = sym (kind_fits v f) ∙ e

        field : (p : ℕ) → field_place s l₂ ((info_of l₂ ts t).place + 8) (info_of l₂ ts t).fields w ≡ p → record? σ.types t ≡ true → FieldFound l₂ (info_at σ.types t).fields w p → Known
        field p i b (no_field z n) =
            missing (rw h (of-record t b ∙ rw n refl)) (found-made p (rw e (shape-record S t ∙ b)) (rw e i) ∙ rw z none_made)
        field p i b (a-field f z n ft fo) =
            there f (rw h (of-record t b ∙ rw n refl)) (λ v x. rw (at-fits v x) n)
            (found-made p (rw e (shape-record S t ∙ b)) (rw e i) ∙ rw (ft, fo) (one-made p z))

        go : (b : Bool) → record? σ.types t ≡ b → Known
        go true b = field (field_place s l₂ ((info_of l₂ ts t).place + 8) (info_of l₂ ts t).fields w) refl b (field_told S t w)
        go false b = of_none (rw h (of_other t b)) (λ v x. rw (at-fits v x) (no_fields t b)) (other-made (rw e (shape-record S t ∙ b)))

    known : (x : Syntax.Target) (r : Reached) → o ≡ some x → target_of σ x ≡ some r → Known
    known x r h k = known_at r.type g.kind (T.typed x r h k) refl (type-is x r h k)

    -- names that are known where the stages get past row 7
    abbrev passed : Staged Located → Bool
    passed wrong = false
    passed unnamed = false
    passed unfit = true
    passed (fits v) = true

    names-known : passed (target_staged σ o) ≡ true → (x : Syntax.Target) × (r : Reached) × (o ≡ some x) × (target_of σ x ≡ some r)
    unfolding target_staged staged named target_name ◌>>=◌
    names-known h = go o refl h
      where
        at_name : (x : Syntax.Target) (u : Option Reached) → target_of σ x ≡ u → o ≡ some x → passed (named (u >>= λ r. some r.target) plain_target (elab_target σ.types σ.vars)) ≡ true
            → (x : Syntax.Target) × (r : Reached) × (o ≡ some x) × (target_of σ x ≡ some r)
        at_name x none e f i = absurd (true≢false (sym i))
        at_name x (some r) e f i = (x, r, f, e)

        go : (p : Option Syntax.Target) → o ≡ p → passed (staged p (target_name σ) plain_target (elab_target σ.types σ.vars)) ≡ true → (x : Syntax.Target) × (r : Reached) × (o ≡ some x) × (target_of σ x ≡ some r)
        go none e i = absurd (true≢false (sym i))
        go (some x) e i = at_name x (target_of σ x) refl e i

    -- a fault of row 7 stays
    name-stays : g.fault ≡ Name → M.got.fault ≡ Name
    unfolding selected_made field_made if_clear
    name-stays e = rw e (go (eqb (info_of l₂ ts g.kind).shape 3) (eqb (field_place s l₂ ((info_of l₂ ts g.kind).place + 8) (info_of l₂ ts g.kind).fields w) 0))
      where
        go : (a b : Bool) → (cond a (cond b (failed_made Name 0 q g.top l₂) (failed_made Name (get_or l₂ (field_place s l₂ ((info_of l₂ ts g.kind).place + 8) (info_of l₂ ts g.kind).fields w + 1) 0) q g.top l₂)) (failed_made Name 0 q g.top l₂)).got.fault ≡ Name
        go true true = refl
        go true false = refl
        go false b = refl

    select_told : is_form g.fault ≡ false → Told (target_staged σ (o >>= λ x. some (Syntax.dot x w))) (λ v. v.type) (λ v. lay_place v.place) t₀ l₀ M.got M.list
    unfolding dotted on_fits or_unfit lay_place lay ◌>>=◌ if_clear
    select_told h = rw (dot-staged σ o w) (go (target_staged σ o) refl)
      where
        past-names : (v : Option (Option ℕ)) → g.fault ≡ Name → Told (dotted v unnamed F) (λ v. v.type) (λ v. lay_place v.place) t₀ l₀ M.got M.list
        past-names none e = told-unnamed (name-stays e)
        past-names (some u) e = told-unnamed (name-stays e)

        unfit-told : g.fault ≡ Kind → target_staged σ o ≡ unfit → Known → Told (dotted (field_in σ (target_type σ o) w) unfit F) (λ v. v.type) (λ v. lay_place v.place) t₀ l₀ M.got M.list
        unfit-told e i (missing n m) = rw (n, m, e) (told-unnamed refl)
        unfit-told e i (of_none n f m) = rw (n, m, e) (told-unfit refl)
        unfit-told e i (there f n c m) = rw (n, m, e) (told-unfit refl)

        fits_told : (v : Located) → g.fault ≡ Clear → target_staged σ o ≡ fits v → Known → Told (dotted (field_in σ (target_type σ o) w) (fits v) F) (λ v. v.type) (λ v. lay_place v.place) t₀ l₀ M.got M.list
        fits_told v e i (missing n m) = rw (n, m, e) (told-unnamed refl)
        fits_told v e i (of_none n f m) = rw (n, m, e, f v i) (told-unfit refl)
        fits_told v e i (there f n c m) = rw (n, m, e, c v i) (told-fits (located f.type (shift v.place f.offset)) refl refl (rw (← (T.told.laid v i).1) refl))

        go : (U : Staged Located) → target_staged σ o ≡ U → Told (dotted (field_in σ (target_type σ o) w) U F) (λ v. v.type) (λ v. lay_place v.place) t₀ l₀ M.got M.list
        go wrong i = absurd (true≢false (sym (ap is_form (T.told.fault-is ∙ ap fault_of i)) ∙ h))
        go unnamed i = past-names (field_in σ (target_type σ o) w) (T.told.fault-is ∙ ap fault_of i)
        go unfit i = let k = names-known (ap passed i) in unfit-told (T.told.fault-is ∙ ap fault_of i) i (known k.0 k.1 k.2 k.3)
        go (fits v) i = let k = names-known (ap passed i) in fits_told v (T.told.fault-is ∙ ap fault_of i) i (known k.0 k.1 k.2 k.3)

    clear-kind : (f : Fault) (k : ℕ) (u : Out) → (if_clear f k q g.top l₂ (node_made k q u)).got.kind ≡ k
    unfolding if_clear
    clear-kind Clear k u = refl
    clear-kind Kind k u = refl
    clear-kind Name k u = refl
    clear-kind Form k u = refl

    select-typed : (x : Syntax.Target) (r : Reached) → (o >>= λ x. some (Syntax.dot x w)) ≡ some x → target_of σ x ≡ some r → TypeIs r.type M.got.kind
    unfolding target_of
    select-typed x r h k = bind-some h λ x₀ ho e. bind-some (rw (← some_inj e) at k) λ r₀ hr k₁. bind-some k₁ λ t ht e₁. rw (← some_inj e₁) (go x₀ r₀ t ho hr ht (known x₀ r₀ ho hr))
      where
        go : (x₀ : Syntax.Target) (r₀ : Reached) (t : Option ℕ) → o ≡ some x₀ → target_of σ x₀ ≡ some r₀ → field_in σ r₀.type w ≡ some t → Known → TypeIs t M.got.kind
        go x₀ r₀ t ho hr ht (missing n m) = none-some {a = t} (sym n ∙ rw (type-is x₀ r₀ ho hr) ht)
        go x₀ r₀ t ho hr ht (of_none n f m) = let z : none ≡ t = some_inj (sym n ∙ rw (type-is x₀ r₀ ho hr) ht) in rw (← z, m) no-type
        go x₀ r₀ t ho hr ht (there f n c m) = let z : some f.type ≡ t = some_inj (sym n ∙ rw (type-is x₀ r₀ ho hr) ht) in rw (← z, m, clear-kind g.fault f.type (lay (42 ∷ g.place ∷ f.offset ∷ []) g.top l₂)) a-type

-- ---- where the walk goes on

pub stays-element : (l ts : List ℕ) (i : Info) (g e : Got) → Stays (element l ts i g e) e.next e.top l
unfolding element
stays-element l ts i g e = stays-cond (eqb i.shape 2 && eqb (host_in l ts i.index) e.kind) (stays-node i.element e.next e.top _ l) (stays-failed Kind (element_kind i) e.next e.top l)

pub stays-indexed : (l ts : List ℕ) (g e : Got) → Stays (indexed l ts g e) e.next e.top l
unfolding indexed
stays-indexed l ts g e = stays-clear (lowest g.fault e.fault) (element_kind (info_of l ts g.kind)) e.next e.top l (element l ts (info_of l ts g.kind) g e) (stays-element l ts (info_of l ts g.kind) g e)

indexed-kind : (l ts : List ℕ) (g e : Got) → (indexed l ts g e).got.kind ≡ element_kind (info_of l ts g.kind)
unfolding indexed if_clear element element_kind
indexed-kind l ts g e = go (lowest g.fault e.fault) (eqb (info_of l ts g.kind).shape 2) refl (eqb (host_in l ts (info_of l ts g.kind).index) e.kind)
  where
    i : Info
    i = info_of l ts g.kind

    go : (f : Fault) (b : Bool) → eqb (info_of l ts g.kind).shape 2 ≡ b → (c : Bool)
        → (if_clear f (element_kind (info_of l ts g.kind)) e.next e.top l (cond (b && c) (node_made (info_of l ts g.kind).element e.next (lay (41 ∷ g.place ∷ e.place ∷ (info_of l ts g.kind).low ∷ (info_of l ts g.kind).high ∷ (info_of l ts (info_of l ts g.kind).element).size ∷ []) e.top l)) (failed_made Kind (element_kind (info_of l ts g.kind)) e.next e.top l))).got.kind
        ≡ cond (eqb (info_of l ts g.kind).shape 2) (info_of l ts g.kind).element 0
    go Clear true h true = rw h refl
    go Clear true h false = refl
    go Clear false h c = refl
    go Kind b h c = refl
    go Name b h c = refl
    go Form b h c = refl

-- ---- the walk

pub dot-form : (d : ℕ) (us : Trees Run) → target_by EH.Dot d us ≡ (target_in d us >>= λ g. (name_in (rest us) >>= λ n. closed (rest (rest us)) n) >>= λ n. some (Syntax.dot g n))
unfolding target_by
dot-form d us = closed-two Syntax.dot (target_in d us) (name_in (rest us)) (rest (rest us))

-- an element's type behind a fault of row 8
typed-after : {s l₂ ts : List ℕ} {scope : Scope} {t₂ : ℕ} {σ : Environment} {bs : List ℕ} → Scene s l₂ ts scope t₂ σ bs → {top : ℕ} {l l₁ : List ℕ} {g : Got} (o : Option Syntax.Target) → TargetTold σ o top l g l₁
    → (p : Option Syntax.Expr) (y : Syntax.Target) (q : Reached) → (o >>= λ g. p >>= λ e. some (Syntax.at g e)) ≡ some y → target_of σ y ≡ some q → TypeIs q.type (element_kind (info_of l₂ ts g.kind))
unfolding target_of
typed-after {σ = σ} S₂ {g = g} o T p y q h k = bind-some h λ x₀ ho h₁. bind-some h₁ λ e₀ hp i. bind-some (rw (← some_inj i) at k) λ r₀ hr k₁. bind-some k₁ λ u hu j.
    rw (← some_inj j) (element-typed S₂ r₀.type g.kind (T.typed x₀ r₀ ho hr))

-- a name that ends the form
name-there : (o : Option Syntax.Target) (m : Option Base.Name) (us : Trees Run) (w : Base.Name) → m ≡ some w → us ≡ end → (o >>= λ g. (m >>= λ n. closed us n) >>= λ n. some (Syntax.dot g n)) ≡ (o >>= λ g. some (Syntax.dot g w))
unfolding ◌>>=◌ closed
name-there o m us w h e = rw (h, e) refl

name-missing : (o : Option Syntax.Target) (m : Option Base.Name) → m ≡ none → (o >>= λ g. m >>= λ n. some (Syntax.dot g n)) ≡ none
unfolding ◌>>=◌
name-missing none m h = refl
name-missing (some g) m h = rw h refl

module _ (s l ts : List ℕ) (scope : Scope) (d at top : ℕ) (g : Got) (l₁ : List ℕ) (G : GivesTarget s l ts scope d at top g l₁) (t : Bool) (e : t ≡ is_form g.fault) where
  abbrev us : Trees Run
  us = first (stack_at s at)

  pub at_left : t ≡ true → GivesPlace s l ts scope EH.At d at top g l₁
  at_left z = record {
    leaves = left-wrong G.moves (sym e ∙ z);
    says = λ σ bs S. target-failed σ (target_by EH.At d us) top l g l₁ (at-form d us ∙ rw (target-missing (G.says σ bs S) (sym e ∙ z)) (none-bind _)) (form-true g.fault (sym e ∙ z));
  }

  pub dot-left : t ≡ true → GivesPlace s l ts scope EH.Dot d at top g l₁
  dot-left z = record {
    leaves = left-wrong G.moves (sym e ∙ z);
    says = λ σ bs S. target-failed σ (target_by EH.Dot d us) top l g l₁ (dot-form d us ∙ rw (target-missing (G.says σ bs S) (sym e ∙ z)) (none-bind _)) (form-true g.fault (sym e ∙ z));
  }

  module _ (z : t ≡ false) where
    pub at_both : (b : Got) (l₂ : List ℕ) → GivesExpr s l₁ ts scope d g.next g.top b l₂ → (x : Got) → Closes s b x → (r : Got) (l' : List ℕ) → Makes (indexed l₂ ts g x) r l' → GivesPlace s l ts scope EH.At d at top r l'
    unfolding indexed
    at_both b l₂ B x C r l' m = record {
      leaves = leaves-two G.moves (sym e ∙ z) B.moves C (stays-indexed l₂ ts g x) (λ h. right-lowest g.fault x.fault (clear-form (lowest g.fault x.fault) (element_kind (info_of l₂ ts g.kind)) x.next x.top l₂ _ h)) m;
      says = λ σ bs S.
          let f = (G.moves.goes (sym e ∙ z)).1 in
          let S₁ = scene-kept S G.moves.keeps G.moves.grows in
          let S₂ = scene-kept S₁ B.moves.keeps B.moves.grows in
          let T = G.says σ bs S in
          let U₀ : ExprTold σ (expr_in d (rest us) >>= λ y. closed (rest (rest us)) y) g.top l₁ x l₂ = expr-closed σ (rest (rest us)) (expr_in d (rest us)) C (λ h. ap rest (rest-is f) ∙ rest-is (B.moves.goes h).1) (rw (rest-is f) (B.says σ bs S₁)) in
          let U = U₀.told in
          record {
            told = rw (at-form d us, at-staged σ (target_in d us) (expr_in d (rest us) >>= λ y. closed (rest (rest us)) y), m.given, m.left)
                (told-join g.fault x.fault (element_kind (info_of l₂ ts g.kind)) x.next x.top l₂ (element l₂ ts (info_of l₂ ts g.kind) g x) (target_staged σ (target_in d us)) (expr_staged σ (expr_in d (rest us) >>= λ y. closed (rest (rest us)) y)) _
                T.told.fault-is U.fault-is
                (λ w y ew ey. element-made S₂ g x w y (T.told.laid w ew).0 (T.told.laid w ew).1 (U.laid y ey).0 (U.laid y ey).1));
            typed = λ y q h k. rw (m.given, indexed-kind l₂ ts g x) (typed-after S₂ (target_in d us) T (expr_in d (rest us) >>= λ e. closed (rest (rest us)) e) y q (sym (at-form d us) ∙ h) k);
          };
    }

    module _ (n : Maybe (ℕ × ℕ)) (N : SoleName s g.next n) (r : Got) (l' : List ℕ) where
      pub dot-none : n ≡ None → r ≡ failed_got Form 0 g.next g.top → GivesPlace s l ts scope EH.Dot d at top r l₁
      dot-none h m = rw m (record {
        leaves = record { goes = λ i. absurd (true≢false i); keeps = G.moves.keeps; grows = G.moves.grows };
        says = λ σ bs S. target-failed σ (target_by EH.Dot d us) top l (failed_got Form 0 g.next g.top) l₁
            (dot-form d us ∙ name-missing (target_in d us) (name_in (rest us) >>= λ n. closed (rest (rest us)) n)
            (rw (rest-is (G.moves.goes (sym e ∙ z)).1) (rw h at N.says))) refl;
      })

      pub dot-field : (p q : ℕ) → n ≡ Some (p, q) → Selects s l₁ (info_of l₁ ts g.kind) (map small (word_at s p)) q g r l' → GivesPlace s l ts scope EH.Dot d at top r l'
      dot-field p q h m =
          let f = (G.moves.goes (sym e ∙ z)).1 in
          let w = map small (word_at s p) in
          let N₁ = rw h at N.says in
          let k : target_by EH.Dot d us ≡ (target_in d us >>= λ x. some (Syntax.dot x w)) = dot-form d us ∙ name-there (target_in d us) (name_in (rest us)) (rest (rest us)) w (rw (rest-is f) N₁.0) (ap rest (rest-is f) ∙ N₁.1) in
          record {
            leaves = record {
              goes = λ i. f.around ∙ N₁.2 ∙ ap (stack_at s) (sym m.next-is);
              keeps = same-trans m.below G.moves.keeps G.moves.grows;
              grows = omega (arith, G.moves.grows, m.top_up);
            };
            says = λ σ bs S.
                let S₁ = scene-kept S G.moves.keeps G.moves.grows in
                let M = m.selects (fields-short S₁ g.kind) in
                let T = G.says σ bs S in
                record {
                  told = rw (k, M.given, M.left) (select_told S₁ (target_in d us) g T w q (sym e ∙ z));
                  typed = λ y u i j. rw M.given (select-typed S₁ (target_in d us) g T w q y u (sym k ∙ i) j);
                };
          }

pub ruleset at-laws = (at_left, at_both)

pub ruleset dot-laws = (dot-left, dot-none, dot-field)

-- ---- the cells at a target that is no whole variable

-- a place that is worked out
data Computed : Place → Type 0 where
  at-index : {p : Place} {c : Code} {lo hi : ℤ} {k : ℕ} → Computed (index p c lo hi k)
  at-shift : {p : Place} {k : ℕ} → Computed (shift p k)

pub fits-inv : {A B C : Type 0} (n : A → Option B) (r : B → Bool) (k : B → Option C) (o : Option A) (c : C) → staged o n r k ≡ fits c → (a : A) × (b : B) × (o ≡ some a) × (n a ≡ some b) × (k b ≡ some c)
unfolding staged named ruled
fits-inv n r k none c h = absurd (wrong-fits h)
fits-inv {B = B} {C = C} n r k (some a) c h = go (n a) refl h
  where
    last : (b : B) → n a ≡ some b → (t : Bool) (u : Option C) → k b ≡ u → ruled t u ≡ fits c → (a' : _) × (b : B) × (some a ≡ some a') × (n a' ≡ some b) × (k b ≡ some c)
    last b e false u i g = absurd (unfit-fits g)
    last b e true none i g = absurd (unfit-fits g)
    last b e true (some d) i g = (a, b, refl, e, rw (fits-inj g) at i)

    go : (u : Option B) → n a ≡ u → named u r k ≡ fits c → (a' : _) × (b : B) × (some a ≡ some a') × (n a' ≡ some b) × (k b ≡ some c)
    go none e g = absurd (unnamed-fits g)
    go (some b) e g = last b e (r b) (k b) refl g

computed-at : (σ : Environment) (o : Option Syntax.Target) (p : Option Syntax.Expr) (w : Located) → target_staged σ (o >>= λ g. p >>= λ e. some (Syntax.at g e)) ≡ fits w → Computed w.place
unfolding target_staged target_name target_of elab_target
computed-at σ o p w h =
    let x = fits-inv (target_name σ) plain_target (elab_target σ.types σ.vars) (o >>= λ g. p >>= λ e. some (Syntax.at g e)) w h in
    bind-some x.2 λ g₀ ho i. bind-some i λ e₀ hp j. bind-some (rw (← some_inj j) at x.3) λ r₀ hr k. bind-some hr λ q hq m. bind-some m λ y hy v.
    both_some (rw (← some_inj k, ← some_inj v) at x.4) λ u z hu hz f. given-some f λ b t. rw (← t) at-index

computed-dot : (σ : Environment) (o : Option Syntax.Target) (p : Option Base.Name) (w : Located) → target_staged σ (o >>= λ g. p >>= λ n. some (Syntax.dot g n)) ≡ fits w → Computed w.place
unfolding target_staged target_name target_of elab_target
computed-dot σ o p w h =
    let x = fits-inv (target_name σ) plain_target (elab_target σ.types σ.vars) (o >>= λ g. p >>= λ n. some (Syntax.dot g n)) w h in
    bind-some x.2 λ g₀ ho i. bind-some i λ e₀ hp j. bind-some (rw (← some_inj j) at x.3) λ r₀ hr k. bind-some hr λ q hq m. bind-some m λ y hy v.
    bind-some (rw (← some_inj k, ← some_inj v) at x.4) λ u hu f. bind-some f λ a ha t. rw (← some_inj t) at-shift

stays-loaded : (l ts : List ℕ) (g : Got) → Stays (loaded l ts g) g.next g.top l
unfolding loaded
stays-loaded l ts g = stays-clear g.fault 0 g.next g.top l _ (stays-node (host_in l ts g.kind) g.next g.top (4 ∷ g.place ∷ (info_of l ts g.kind).size ∷ []) l)

-- the layout of a load at such a place
load-layout : (p : Place) (n t : ℕ) (l : List ℕ) (o : Out) → Computed p → o ≡ lay_place p t l → lay (4 ∷ o.pos ∷ n ∷ []) o.top o.list ≡ lay_code (load p n) t l
unfolding lay_code lay_load
load-layout p n t l o at-index e = rw e refl
load-layout p n t l o at-shift e = rw e refl

module _ (s l ts : List ℕ) (scope : Scope) (d at top : ℕ) (g : Got) (l₁ : List ℕ) (r : Got) (l' : List ℕ) where
  loaded-form : (h : ExprHead) → ((σ : Environment) (w : Located) → target_staged σ (target_by h d (first (stack_at s at))) ≡ fits w → Computed w.place)
      → form_in h d (first (stack_at s at)) ≡ (target_by h d (first (stack_at s at)) >>= λ x. some (Syntax.read x))
      → GivesPlace s l ts scope h d at top g l₁ → Makes (loaded l₁ ts g) r l' → GivesForm s l ts scope h d at top r l'
  unfolding loaded
  loaded-form h c f G m =
      let st = stays-loaded l₁ ts g in
      rw (m.given, m.left) (record {
        leaves = record {
          goes = λ i. G.leaves.goes (clear-form g.fault 0 g.next g.top l₁ _ i) ∙ ap (stack_at s) (sym st.next-is);
          keeps = same-trans st.below G.leaves.keeps G.leaves.grows;
          grows = omega (arith, G.leaves.grows, st.up);
        };
        says = λ σ bs S.
            let S₁ = scene-kept S G.leaves.keeps G.leaves.grows in
            let T = (G.says σ bs S).told in
            record {
              told = rw (f, read-staged σ (target_by h d (first (stack_at s at))))
                  (told-one g.fault 0 g.next g.top l₁ (node_made (host_in l₁ ts g.kind) g.next (lay (4 ∷ g.place ∷ (info_of l₁ ts g.kind).size ∷ []) g.top l₁)) (target_staged σ (target_by h d (first (stack_at s at)))) _ T.fault-is
                  (λ w e. told-or (some (elaborated (host_of σ.types w.type) (load w.place (size_of σ.types w.type)))) (λ i. none-some (sym i))
                  (λ x i. rw (← some_inj i) (refl, host-in S₁ g.kind ∙ ap (host_of σ.types) (T.laid w e).0, rw (size-told S₁ g.kind, (T.laid w e).0) (load-layout w.place (size_of σ.types w.type) top l (out g.place g.top l₁) (c σ w e) (T.laid w e).1)))));
            };
      })

  pub loads-at : GivesPlace s l ts scope EH.At d at top g l₁ → Makes (loaded l₁ ts g) r l' → GivesForm s l ts scope EH.At d at top r l'
  unfolding form_in target_by ◌>>=◌
  loads-at = loaded-form EH.At (λ σ w e. computed-at σ (target_in d (first (stack_at s at))) (expr_in d (rest (first (stack_at s at))) >>= λ e. closed (rest (rest (first (stack_at s at)))) e) w (ap (target_staged σ) (sym (at-form d (first (stack_at s at)))) ∙ e)) (at_read d (first (stack_at s at)))

  pub loads-dot : GivesPlace s l ts scope EH.Dot d at top g l₁ → Makes (loaded l₁ ts g) r l' → GivesForm s l ts scope EH.Dot d at top r l'
  unfolding form_in target_by ◌>>=◌
  loads-dot = loaded-form EH.Dot (λ σ w e. computed-dot σ (target_in d (first (stack_at s at))) (name_in (rest (first (stack_at s at))) >>= λ n. closed (rest (rest (first (stack_at s at)))) n) w (ap (target_staged σ) (sym (dot-form d (first (stack_at s at)))) ∙ e)) (dot-read d (first (stack_at s at)))
