-- The form of an array.
use mathlib.Core.Path.{◌≡◌, refl, sym, ap, ◌∙◌}
use mathlib.Core.Bool.{Bool, true, false, cond, ◌&&◌, false≢true}
use mathlib.Core.List.{List, [], ◌∷◌}
use mathlib.Core.Option.{Option, none, some}
use Prim.Native.Nat.{ℕ, zero, suc, ◌+◌, ◌*◌, ◌-◌, ◌%◌, ◌<◌, ◌≤◌}
use native.Mathlib.Nat.{mod-eq_of_lt, mul-le-mul}
use native.Mathlib.Omega.{arith}
use borrow.Author.Tests.{le-leb, lt-leb, lt-ltb, le-ltb, leb-true, ltb-true, ltb-false}
use mir.Syntax.{w32}
use mir.Val.{Fits}
use lib.Dec.{ltb, leb}
use lib.IntN.{ℤ, pos, negsuc, ◌-ℤ◌, suc_ℤ}
use lib.Signed.{le_z}
use Rattle.leaf_integers.specs.Integers.{least, most}
use Rattle.law.specs.Base.{Name, ◌>>=◌, given}
use Rattle.law.specs.Calculate.{nat_of}
use Rattle.law.specs.Ceilings.{type_bounded}
use Rattle.law.specs.Environment.{Declared, Environment, type_sort_of, value_count}
use Rattle.code.specs.Layout.{bits}
use Rattle.law.specs.Names.{type_of, is_known, new_names, decl_of, entry_of}
use Rattle.law.specs.Rules.{kept_decl}
use Rattle.law.specs.Script.{Decl, new_type, array_of}
use Rattle.rule_stages.specs.Stages.{Staged, wrong, fits, ruled, staged, join}
use Rattle.law.specs.Syntax as Syntax
use Rattle.law.specs.Syntax.{TypeName, TypeForm, type_line}
use Rattle.law.specs.Trees.{Tree, Trees, Run, first}
use Rattle.law_theorems.specs.Readings.{stack_at}
use Rattle.law.specs.Types.{info_at, ordinal?, size_of, cells_of}
use Rattle.law_theorems.proofs.Inversion.{and-true}
use Rattle.rule_faults.specs.declared.Fault.{Fault}
use Rattle.rule_faults.specs.declared.Fault.TheVariants.{Clear, Kind, Form}
use Rattle.rule_faults.specs.declared.Fault.TheVariants as fault
use Rattle.table_scope.specs.declared.Info.{Info}
use Rattle.table_scope.specs.Descriptions.{info_of, shape_number, no_info}
use Rattle.table_scope.proofs.Telling.{shape-ordinal, low_told, high-told, size-told}
use Rattle.rule_faults.specs.Got.{is_form, lowest, fault_of}
use Rattle.text_parts.specs.Parts.{Before}
use Rattle.text_heads.specs.Parts.{rest, closed, type_name_in}
use Rattle.text_heads.proofs.Walks.{bind-cong, bind_assoc}
use Rattle.rule_atoms.specs.declared.Typed.{Typed}
use Rattle.rule_atoms.specs.Answering.{TypeTold, GivesType}
use Rattle.rule_atoms.proofs.Telling.{wrong-fits}
use Rattle.rule_declarations.specs.State.{Holds}
use Rattle.rule_declarations.specs.Names.{last_type, GivesLastType}
use Rattle.rule_declarations.specs.Lines.{entry_staged}
use Rattle.rule_type_lines.specs.TypeLines.{simple-array, ShapeTold, GivesShape}
use Rattle.rule_type_lines.specs.Simple.{array_in, ordinal_fault, span_of, array_fits, no_shape, array_shaped}
use Rattle.rule_declarations.specs.declared.State.{State}
use Rattle.rule_type_lines.specs.declared.Shaped.{Shaped}
use Rattle.rule_declarations.proofs.FreeNames.{none-wrong, form-is, bound-none}
use Rattle.rule_declarations.proofs.VarLines.{closed-map}
use Rattle.rule_type_lines.proofs.SetTypes.{two-faults, lowest-form}
use Rattle.rule_type_lines.proofs.SimpleLines.{copies_length}
use Rattle.rule_type_lines.proofs.TwoParts.{newly-wrong, two-staged, two-fault, two_made}

-- ---- small functions

pub span-up : (a b : ℕ) → a ≤ b → b - a ≡ span_of a b
unfolding span_of
span-up a b h = rw (le-leb a b h) refl

pub span-round : (a b : ℕ) → b < a → 4294967295 - a + b + 1 ≡ span_of a b
unfolding span_of
span-round a b h = rw (lt-leb a b h) refl

pub ruleset span_laws = (span-up, span-round)

pub cells_fit : (a b : ℕ) → Fits w32 ((a % 256 + 1) * (b % 4096))
cells_fit a b =
    let x : a % 256 + 1 ≤ 256 = omega arith in
    let y : b % 4096 ≤ 4096 = omega arith in
    let m : (a % 256 + 1) * (b % 4096) ≤ 256 * 4096 = mul-le-mul x y in
    record { fits = omega arith }

pub fits-few : (a b c : ℕ) → a < 256 → c ≡ (a % 256 + 1) * (b % 4096) → leb c 2048 ≡ array_fits a b
unfolding array_fits
fits-few a b c h e = rw (lt-ltb a 256 h, e) refl

pub fits-many : (a b : ℕ) → 256 ≤ a → false ≡ array_fits a b
unfolding array_fits
fits-many a b h = rw (le-ltb a 256 h) refl

pub ruleset fits_laws = (fits-few, fits-many)

pub no-shape-is : (q : ℕ) (x : Info) → x ≡ no_info → record { fault = Form; info = x; within = false; next = q } ≡ no_shape q
unfolding no_shape
no-shape-is q x e = rw e refl

pub array-shape-is : (f g : Fault) (x y : Info) (i e q : ℕ) (u v o : Fault) (n c : ℕ) (b : Bool) → u ≡ lowest f g → o ≡ ordinal_fault x.shape → v ≡ lowest u o
    → n ≡ span_of x.low x.high → b ≡ array_fits n y.size → c ≡ (n % 256 + 1) * (y.size % 4096)
    → record { fault = v; info = record { shape = 2; host = 0; low = x.low; high = x.high; size = c; index = i; element = e; fields = 0; place = 0 }; within = b; next = q }
    ≡ array_shaped f g x y i e q
unfolding array_shaped
array-shape-is f g x y i e q u v o n c b hu ho hv hn hb hc = rw (hv, hu, ho, hb, hc, hn) refl

-- the values of a type by its bounds in 32 bits
pub span-is : (a b : ℤ) → le_z least a ≡ true → le_z b most ≡ true → le_z a b ≡ true → span_of (bits a) (bits b) + 1 ≡ nat_of (suc_ℤ (b -ℤ a))
unfolding span_of bits
span-is (pos zero) (pos b) x y z = rw (le-leb 0 b (omega arith)) (omega arith)
span-is (pos (suc a)) (pos b) x y z = let m = leb-true (suc a) b z in rw (z, le-ltb b (suc a) m) (omega arith)
span-is (pos a) (negsuc b) x y z = absurd (false≢true z)
span-is (negsuc a) (pos b) x y z =
    let m = leb-true a 2147483647 x in
    let n = leb-true b 2147483647 y in
    rw (lt-leb (4294967295 - a) b (omega arith)) (omega arith)
span-is (negsuc a) (negsuc b) x y z =
    let m = leb-true a 2147483647 x in
    let n = leb-true b a z in
    rw (le-leb (4294967295 - a) (4294967295 - b) (omega arith), le-ltb (suc a) (suc b) (omega arith)) (omega arith)

-- ---- row 6

pub no-shape-told : (k : Declared) (o : Option TypeForm) (q : ℕ) → o ≡ none → ShapeTold k o (no_shape q)
unfolding no_shape entry_staged staged ◌>>=◌
no-shape-told k o q e = rw e (record {
  stage = wrong;
  stage_is = λ w. sym (newly-wrong (is_known k.env w) (λ (d : Decl). fits (new_type w d)));
  fault-is = refl;
  made = λ d h. wrong-fits h;
})

-- ---- stages

array-last : (us : Trees Run) → array_in us ≡ (type_name_in us >>= λ (i : TypeName). last_type (rest us) >>= λ (e : TypeName). some (Syntax.array_of i e))
unfolding array_in last_type
array-last us = bind-cong (type_name_in us) (λ (i : TypeName).
    bind-cong (type_name_in (rest us)) (λ (e : TypeName). sym (closed-map (λ (x : TypeName). Syntax.array_of i x) (rest (rest us)) e))
    ∙ sym (bind_assoc (type_name_in (rest us)) (λ (e : TypeName). closed (rest (rest us)) e) (λ (e : TypeName). some (Syntax.array_of i e))))

pub map-two : {A B C E : Type 0} (o : Option A) (p : Option B) (f : A → B → C) (g : C → E)
    → ((o >>= λ (a : A). p >>= λ (b : B). some (f a b)) >>= λ (c : C). some (g c)) ≡ (o >>= λ (a : A). p >>= λ (b : B). some (g (f a b)))
unfolding ◌>>=◌
map-two none p f g = refl
map-two (some a) none f g = refl
map-two (some a) (some b) f g = refl

array-entry : (σ : Environment) (w : Name) (a b : TypeName) → entry_of σ (type_line w (Syntax.array_of a b))
    ≡ (type_of σ a >>= λ (x : ℕ). type_of σ b >>= λ (y : ℕ). given (new_names σ (w ∷ [])) (new_type w (array_of x y)))
unfolding entry_of decl_of ◌>>=◌ given
array-entry σ w a b = go (type_of σ a) (type_of σ b) (new_names σ (w ∷ []))
  where
    go : (o p : Option ℕ) (z : Bool) → ((o >>= λ (x : ℕ). p >>= λ (y : ℕ). given z (array_of x y)) >>= λ (d : Decl). some (new_type w d)) ≡ (o >>= λ (x : ℕ). p >>= λ (y : ℕ). given z (new_type w (array_of x y)))
    go none p z = refl
    go (some x) none z = refl
    go (some x) (some y) true = refl
    go (some x) (some y) false = refl

-- row 9
bounded-is : (n c : ℕ) (m : ℕ) → n + 1 ≡ m → c ≤ 2048 → array_fits n c ≡ (leb m 256 && leb (m * c) 2048)
unfolding array_fits
bounded-is n c m e h = go (ltb n 256) refl
  where
    go : (b : Bool) → ltb n 256 ≡ b → (b && leb ((n % 256 + 1) * (c % 4096)) 2048) ≡ (leb m 256 && leb (m * c) 2048)
    go true i =
        let l = ltb-true n 256 i in
        let x : n % 256 ≡ n = mod-eq_of_lt l in
        let y : c % 4096 ≡ c = mod-eq_of_lt (omega arith) in
        rw (x, y, e, le-leb m 256 (omega arith)) refl
    go false i = let l = ltb-false n 256 i in rw (lt-leb m 256 (omega arith)) refl

-- the cells
made-size : (n c m : ℕ) → n + 1 ≡ m → c ≤ 2048 → leb m 256 ≡ true → (n % 256 + 1) * (c % 4096) ≡ m * c
made-size n c m e h g =
    let l = leb-true m 256 g in
    let x : n % 256 ≡ n = mod-eq_of_lt (omega arith) in
    let y : c % 4096 ≡ c = mod-eq_of_lt (omega arith) in
    rw (x, y, e) refl

pub second-form : (f g h : Fault) → is_form (lowest (lowest f g) h) ≡ false → is_form g ≡ false
second-form f g h z = go f g (lowest-form (lowest f g) h z)
  where
    go : (f g : Fault) → is_form (lowest f g) ≡ false → is_form g ≡ false
    go Clear g z = z
    go Kind Clear z = refl
    go Kind Kind z = refl
    go Kind fault.Name z = refl
    go Kind Form z = z
    go fault.Name Clear z = refl
    go fault.Name Kind z = refl
    go fault.Name fault.Name z = refl
    go fault.Name Form z = z
    go Form g z = absurd (false≢true (sym z))

pub no-shape-form : (q : ℕ) → is_form (no_shape q).fault ≡ false → ⊥
unfolding no_shape
no-shape-form q z = false≢true (sym z)

-- ---- `array_of`

module _ (s l ts : List ℕ) (st : State) (at : ℕ) (i : Typed) (G : GivesType s l st.scope at i) (f : Fault) (hf : f ≡ i.fault) where
  abbrev us : Trees Run
  us = first (stack_at s at)

  pub array-form : (b : Bool) → b ≡ is_form f → b ≡ true → (r : Shaped) → r ≡ no_shape at → GivesShape s l ts st at (array_in us) r
  unfolding array_in
  array-form b hb j r q = rw q (record {
    goes = λ z. absurd (no-shape-form at z);
    says = λ k bs H. no-shape-told k (array_in us) at (bound-none (type_name_in us) _
        (none-wrong (type_name_in us) (type_of k.env) (λ _. true) some (sym (sym hf ∙ form-is f (sym hb ∙ j)) ∙ (G.says ts st.top k.env bs H.scene).fault-is)));
  })

  module _ (b : Bool) (hb : b ≡ is_form f) (j : b ≡ false) (e : Typed) (E : GivesLastType s l st.scope i.next e) (g : Fault) (hg : g ≡ e.fault)
      (x y : Info) (hx : x ≡ info_of l ts i.kind) (hy : y ≡ info_of l ts e.kind) where
    before : (u : Tree Run) × Before s at u i.next
    before = G.goes (ap is_form (sym hf) ∙ sym hb ∙ j)

    rest-is : rest us ≡ first (stack_at s i.next)
    rest-is = ap rest before.1.here

    module _ (k : Declared) (bs : List ℕ) (H : Holds s l ts st k bs) where
      abbrev S : Staged ℕ
      S = staged (type_name_in us) (type_of k.env) (λ _. true) some

      abbrev T : Staged ℕ
      T = staged (last_type (first (stack_at s i.next))) (type_of k.env) (λ _. true) some

      told_i : TypeTold S i
      told_i = G.says ts st.top k.env bs H.scene

      told_e : TypeTold T e
      told_e = E.says ts st.top k.env bs H.scene

      array_told : ShapeTold k (array_in us) (array_shaped f g x y i.kind e.kind e.next)
      unfolding array_shaped type_sort_of type_bounded shape_number kept_decl ordinal_fault
      array_told = record {
        stage = join S T (λ (a c : ℕ). ruled (ordinal? k.env.types a) (some (array_of a c)));
        stage_is = λ w.
            ap (λ (u : Option TypeForm). entry_staged k (u >>= λ (z : TypeForm). some (type_line w z))) (array-last us ∙ ap (λ (vs : Trees Run). type_name_in us >>= λ (a : TypeName). last_type vs >>= λ (c : TypeName). some (Syntax.array_of a c)) rest-is)
            ∙ ap (entry_staged k) (map-two (type_name_in us) (last_type (first (stack_at s i.next))) (λ (a c : TypeName). Syntax.array_of a c) (λ (z : TypeForm). type_line w z))
            ∙ two-staged k w (type_of k.env) (type_of k.env) (λ _. true) (λ _. true) (λ (a c : TypeName). type_line w (Syntax.array_of a c)) (λ (a c : ℕ). array_of a c) (λ (a c : ℕ). ordinal? k.env.types a)
            (array-entry k.env w) (λ a c. refl) (type_name_in us) (last_type (first (stack_at s i.next)));
        fault-is =
            ap (λ (z : Fault). lowest (lowest z g) (ordinal_fault x.shape)) (hf ∙ told_i.fault-is) ∙ ap (λ (z : Fault). lowest (lowest (fault_of S) z) (ordinal_fault x.shape)) (hg ∙ told_e.fault-is)
            ∙ two-fault (λ (a c : ℕ). array_of a c) (λ (a c : ℕ). ordinal? k.env.types a) S T (ordinal_fault x.shape)
            (λ a c p q. ap (λ (z : Info). ordinal_fault z.shape) (hx ∙ ap (info_of l ts) (told_i.kind-is a p)) ∙ ap (λ (z : Bool). cond z Clear Kind) (shape-ordinal H.scene a)) (two-faults x.shape);
        made = λ d q.
            let m = two_made (λ (a c : ℕ). array_of a c) (λ (a c : ℕ). ordinal? k.env.types a) S T d q in
            let a : i.kind ≡ m.0 = told_i.kind-is m.0 m.2 in
            let c : e.kind ≡ m.1 = told_e.kind-is m.1 m.3 in
            let lo : x.low ≡ bits (info_at k.env.types m.0).low = ap (λ (z : Info). z.low) (hx ∙ ap (info_of l ts) a) ∙ low_told H.scene m.0 in
            let hi : x.high ≡ bits (info_at k.env.types m.0).high = ap (λ (z : Info). z.high) (hx ∙ ap (info_of l ts) a) ∙ high-told H.scene m.0 in
            let sz : y.size ≡ size_of k.env.types m.1 = ap (λ (z : Info). z.size) (hy ∙ ap (info_of l ts) c) ∙ size-told H.scene m.1 in
            let Q = H.scene.table.each m.0 in
            let sp : span_of x.low x.high + 1 ≡ value_count k.env.types m.0 =
            ap (λ (z : ℕ). span_of z x.high + 1) lo ∙ ap (λ (z : ℕ). span_of (bits (info_at k.env.types m.0).low) z + 1) hi
            ∙ span-is (info_at k.env.types m.0).low (info_at k.env.types m.0).high (Q.small m.4).0 (Q.small m.4).1 (Q.filled m.4) in
            rw (← m.5) (
              simple-array,
              λ B. record {
                shape_is = refl;
                host-is = refl;
                low-is = lo;
                high_is = hi;
                size_is = λ _. made-size (span_of x.low x.high) y.size (value_count k.env.types m.0) sp (rw sz (H.small-types m.1)) (and-true (leb (value_count k.env.types m.0) 256) (leb (value_count k.env.types m.0 * size_of k.env.types m.1) 2048) B).0
                    ∙ rw sz (sym (copies_length k.env.types (value_count k.env.types m.0) (cells_of k.env.types m.1)));
                index_is = a;
                element-is = c;
                fields-is = refl;
                no_fields = refl;
              },
              bounded-is (span_of x.low x.high) y.size (value_count k.env.types m.0) sp (rw sz (H.small-types m.1)) ∙ rw sz refl,
            );
      }

    pub array-is : (r : Shaped) → r ≡ array_shaped f g x y i.kind e.kind e.next → GivesShape s l ts st at (array_in us) r
    unfolding array_shaped
    array-is r q = rw q (record {
      goes = λ z. before.1.around ∙ E.goes (ap is_form (sym hg) ∙ second-form f g (ordinal_fault x.shape) z);
      says = λ k bs H. array_told k bs H;
    })

pub ruleset array_laws = (array-form, array-is)
