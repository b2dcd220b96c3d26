-- Lines that make an enumeration: what is held after them, and the ways through `enum_line`.
use mathlib.Core.Path.{◌≡◌, refl, sym, ap, ◌∙◌, subst}
use mathlib.Core.Bool.{Bool, true, false, cond, ◌&&◌, false≢true}
use mathlib.Core.List.{List, [], ◌∷◌, ◌++◌, map}
use mathlib.Core.Option.{Option, none, some}
use Prim.Native.Nat.{ℕ, suc, ◌+◌, ◌*◌, ◌%◌, ◌<◌, ◌≤◌}
use native.Mathlib.Decide.{dec_lt}
use native.Mathlib.Nat.{mod-eq_of_lt}
use native.Mathlib.Omega.{arith}
use borrow.Author.Tests.{leb-true, lt-leb, ne_eqb}
use lib.Dec.{leb, eqb}
use lib.ListN.{length, get_or, set, length-append, length-set}
use Rattle.leaf_bytes.specs.Bytes.{small}
use Rattle.law.specs.Base.{Name, ◌>>=◌}
use Rattle.law.specs.Ceilings.{line_bounded, type_bounded}
use Rattle.law.specs.Environment.{Declared, a_proc, a_type, declare_line, extend_types, decl_names, enum_names, type_sort_of}
use Rattle.law.specs.Forms.{some?}
use Rattle.code.specs.Layout.{bits}
use Rattle.code.specs.LayoutSize.{symbol_size, size_decl}
use Rattle.law.specs.Names.{entry_of}
use Rattle.law.specs.Rules.{keeps_rules}
use Rattle.law.specs.Script.{Entry, new_type, enum}
use Rattle.rule_stages.specs.Stages.{Staged, wrong, unnamed, fits, staged}
use Rattle.law.specs.Syntax.{LineForm, TypeForm, type_line}
use Rattle.law.specs.Trees.{Trees, Run, first, later, word_at}
use Rattle.law_theorems.specs.Readings.{stack_at}
use Rattle.law.specs.Types.{Types, facts, info_at, cells_by, is_record}
use Rattle.law_theorems.proofs.Inversion.{and-true}
use Rattle.code.proofs.LayoutRegions.{Has, lay-g, lay-l}
use Rattle.code.specs.LayoutRegions.{Same, Room}
use Rattle.table_names.specs.Keys.{keyed}
use Rattle.table_names.specs.Chain.{values_by, values_behind}
use Rattle.table_names.specs.Chained.{Below, one_block, one_entry}
use Rattle.table_order.specs.Ordered.{Marks, unmarked, marked}
use Rattle.table_names.proofs.Chained.{called-keyed}
use Rattle.table_scope.proofs.Cells.{keeps-cells}
use Rattle.table_scope.proofs.Kept.{tells-frame-kept}
use Rattle.table_scope.proofs.Within.{chain-told, find-other}
use Rattle.rule_faults.specs.declared.Fault.{Fault}
use Rattle.rule_faults.specs.declared.Fault.TheVariants.{Clear, Form}
use Rattle.rule_faults.specs.declared.Fault.TheVariants as fault
use Rattle.table_scope.specs.Descriptions.{info_of, shape_number, Tells, EndsBelow}
use Rattle.table_scope.specs.Scene.{Scene}
use Rattle.rule_faults.specs.Got.{is_form, is_clear, fault_of}
use Rattle.text_heads.specs.Parts.{closed}
use Rattle.rule_atoms.proofs.Telling.{fits-inj}
use Rattle.rule_declarations.specs.State.{scoped, Holds}
use Rattle.rule_enum_lines.specs.Enums.{enum_in, names_in, fresh, GivesFresh, counted, NamesTold, names-wrong, names-read}
use Rattle.rule_declarations.specs.Lines.{entry_staged, lined_by, LineTold}
use Rattle.rule_type_lines.specs.TypeLines.{made_after, lines_fit, info_numbers, type_state, Describes, GivesMade, EndFault, was-form, at-end, before-end}
use Rattle.rule_enum_lines.specs.Values.{start_of, Values, enum_entry, enum_info, enum_named, enum_described, AddsEnum, enum_fault}
use Rattle.rule_declarations.specs.declared.State.{State}
use Rattle.rule_declarations.specs.declared.Lined.{Lined}
use Rattle.rule_enum_lines.specs.declared.enums.Counted.{Counted}
use Rattle.rule_declarations.proofs.Growing.{Chained, holds-chained, chained-env, chained-kept}
use Rattle.rule_declarations.proofs.FreeNames.{more-closed, bound-none, bound-nones}
use Rattle.rule_declarations.proofs.VarLines.{entry-fits, failed-told, value-find}
use Rattle.rule_type_lines.proofs.TypeScenes.{by_number, types_more, means-same, type-means, type-proc, type-value, type-keeps, type-within, type-holds, lines-low}
use Rattle.rule_type_lines.proofs.Aliases.{lines-bounded}
use Rattle.rule_type_lines.proofs.SimpleLines.{read-numbers, describes-tells}
use Rattle.rule_enum_lines.proofs.EnumNames.{enum-parts, counted-more}
use Rattle.rule_enum_lines.proofs.EnumStages.{enum-named}
use Rattle.rule_enum_lines.proofs.EnumValues.{values-ordered, values-linked, values-last, chained-one, chained-values, values-once, values-above, value-kind, procs-old}

-- ---- what is held

module _ {s l ts : List ℕ} {st : State} {k : Declared} {bs : List ℕ} (H : Holds s l ts st k bs) (p at : ℕ) (hp : p < length s) (v : Name) (vs : List Name)
    (hn : names_in (first (stack_at s at)) ≡ some (v ∷ vs)) (r : Lined) (l' ts' : List ℕ) (A : AddsEnum s l ts st p at (suc (length vs)) r l' ts')
    (f : LineForm) (e : entry_of k.env f ≡ some (new_type (map small (word_at s p)) (enum v vs)))
    (g : keeps_rules k.env.types (new_type (map small (word_at s p)) (enum v vs)) ≡ true) (b : line_bounded k (new_type (map small (word_at s p)) (enum v vs)) ≡ true)
    (room : st.top + (12 + 4 * suc (length vs)) ≤ 16384) (sn nn : ℕ) where
  abbrev w : Name
  w = map small (word_at s p)

  abbrev Γ : Types
  Γ = k.env.types

  abbrev n : ℕ
  n = suc (length vs)

  abbrev t₁ : ℕ
  t₁ = (enum_named st (keyed s p) l).top

  abbrev l₁ : List ℕ
  l₁ = (enum_named st (keyed s p) l).list

  abbrev t₂ : ℕ
  t₂ = (enum_described st (keyed s p) n l).top

  abbrev l₂ : List ℕ
  l₂ = (enum_described st (keyed s p) n l).list

  abbrev ks : Declared
  ks = declare_line k (new_type w (enum v vs)) sn nn

  few : n ≤ 256
  unfolding type_bounded
  few = leb-true n 256 (type-within H w (enum v vs) f e g b sn nn)

  number-low : st.types < 66
  number-low = omega (arith, H.few-types, lines-low H w (enum v vs) f e g b sn nn)

  entry-is : enum_entry st (keyed s p) ≡ keyed s p ∷ (4 * st.types) ∷ 0 ∷ (st.top + 12) ∷ []
  unfolding enum_entry
  entry-is =
      let y : st.types % 128 ≡ st.types = mod-eq_of_lt (omega (arith, number-low)) in
      let z : st.top % 32768 ≡ st.top = mod-eq_of_lt (omega (arith, H.low)) in
      rw (y, z) refl

  top₁ : t₁ ≡ st.top + 4
  unfolding enum_entry
  top₁ = (lay-l (enum_entry st (keyed s p)) st.top l).top-is (omega arith)

  top₂ : t₂ ≡ st.top + 12
  unfolding info_numbers
  top₂ =
      let z : t₁ + 8 ≡ st.top + 12 = rw top₁ (omega arith) in
      (lay-l (info_numbers (enum_info st.types n)) t₁ l₁).top-is (rw z (omega arith)) ∙ z

  long₂ : length l₂ ≡ length l
  long₂ = (lay-g (info_numbers (enum_info st.types n)) t₁ l₁).long ∙ (lay-g (enum_entry st (keyed s p)) st.top l).long

  laid-values : Values s A.laid st.types st.scope.newest t₂ 0 (v ∷ vs) × (A.free ≡ t₂ + 4 * n)
  laid-values = A.values.values (v ∷ vs) hn refl (omega (arith, number-low)) H.short-text
      (record { start = rw top₂ (omega arith); fits = rw top₂ (omega arith); long = rw long₂ H.long-list })

  free-is : A.free ≡ st.top + (12 + 4 * n)
  free-is = laid-values.1 ∙ rw top₂ (omega arith)

  values : Values s l' st.types st.scope.newest (st.top + 12) 0 (v ∷ vs)
  values =
      let z : st.top + 12 ≡ st.top + 12 + 4 * 0 = omega arith in
      subst (λ (q : ℕ). Values s l' st.types st.scope.newest q 0 (v ∷ vs)) (sym z)
      (values-ordered A.in_order 0 0 (v ∷ vs) (subst (λ (q : ℕ). Values s A.laid st.types st.scope.newest q 0 (v ∷ vs)) (top₂ ∙ z) laid-values.0))

  same₁ : Same 0 t₁ A.laid l₁
  same₁ = record {
    at = λ i a c. A.values.below.at i a (rw top₂ (omega (arith, top₁))) ∙ (lay-g (info_numbers (enum_info st.types n)) t₁ l₁).below i c;
  }

  same₀ : Same 0 st.top l' l
  same₀ = record { at = λ i a c. A.in_order.below.at i a c ∙ same₁.at i a (rw top₁ (omega arith)) ∙ (lay-g (enum_entry st (keyed s p)) st.top l).below i c }

  -- the entry of the type's name
  entry-laid : Has (keyed s p ∷ (4 * st.types) ∷ 0 ∷ (st.top + 12) ∷ []) st.top A.laid
  unfolding enum_entry
  entry-laid = rw (← entry-is) ((lay-l (enum_entry st (keyed s p)) st.top l).held (record { start = H.start; fits = omega arith; long = H.long-list }) A.laid (record { at = λ i a c. same₁.at i (omega arith) c }))

  name-held : get_or l' st.top 0 ≡ keyed s p
  name-held =
      let z : st.top + 0 ≡ st.top = omega arith in
      A.in_order.other st.top (λ e. omega arith) (λ i e. omega arith) ∙ ap (λ (j : ℕ). get_or A.laid j 0) (sym z) ∙ entry-laid.at 0 (omega arith)

  sort-held : get_or l' (st.top + 1) 0 ≡ 4 * st.types
  sort-held = A.in_order.other (st.top + 1) (λ e. omega arith) (λ i e. omega arith) ∙ entry-laid.at 1 (omega arith)

  next-held : get_or l' (st.top + 3) 0 ≡ st.top + 12
  next-held = A.in_order.other (st.top + 3) (λ e. omega arith) (λ i e. omega arith) ∙ entry-laid.at 3 (omega arith)

  info-room : Room 8 t₁ l₁
  info-room = record { start = rw top₁ (omega arith); fits = rw top₁ (omega arith); long = rw (lay-g (enum_entry st (keyed s p)) st.top l).long H.long-list }

  info-laid : Has (info_numbers (enum_info st.types n)) t₁ A.laid
  unfolding info_numbers
  info-laid = (lay-l (info_numbers (enum_info st.types n)) t₁ l₁).held info-room A.laid (record { at = λ i a c. A.values.below.at i (omega arith) c })

  info-held : Has (info_numbers (enum_info st.types n)) t₁ l'
  unfolding info_numbers
  info-held = record { later = info-laid.later; at = λ i h. A.in_order.other (t₁ + i) (λ e. omega (arith, top₁)) (λ j e. omega (arith, top₁, h)) ∙ info-laid.at i h }

  described : Describes (enum_info st.types n) (facts (type_sort_of Γ (enum v vs)))
  unfolding enum_info type_sort_of shape_number bits
  described = record {
    shape_is = refl;
    host-is = H.types_are;
    low-is = refl;
    high_is = omega arith;
    size_is = λ _. refl;
    index_is = refl;
    element-is = refl;
    fields-is = refl;
    no_fields = refl;
  }

  old-chained : Chained s l' st.scope A.free ks.env bs k.env.names
  unfolding declare_line
  old-chained = chained-kept same₀ (rw free-is (omega arith)) (chained-env {σ' = ks.env} (means-same refl) (holds-chained H))

  values-chained : Chained s l' (scoped (n + st.scope.count) (st.top + 12)) A.free ks.env bs (enum_names st.types 0 (v ∷ vs) ++ k.env.names)
  unfolding start_of
  values-chained = chained-values st.types (st.top + 12) 0 (v ∷ vs) (omega (arith, number-low)) values (omega arith) (rw free-is (omega arith)) old-chained

  behind-is : (m : ℕ) → get_or l' (st.top + 2) 0 ≡ m → values_behind l' st.top ≡ m
  unfolding values_behind values_by
  behind-is m e = let z : (4 * st.types) % 4 ≡ 0 = omega arith in rw (sort-held, z, e) refl

  -- the values are found by halving, or along the chain
  head-below : Below s l' A.free (suc (n + st.scope.count)) st.top
  head-below = go (A.in_order.head (omega (arith, H.low)) (omega (arith, room, A.values.long, long₂, H.long-list)))
    where
      go : Marks s l' st.top n → Below s l' A.free (suc (n + st.scope.count)) st.top
      go (unmarked e) = one_entry {n = n + st.scope.count} {p = st.top} (rw free-is (omega arith)) (behind-is 0 e) (rw next-held values-chained.below)
      go (marked e f) =
          let c : suc (length vs + st.scope.count) ≡ n + st.scope.count = omega arith in
          subst (λ (j : ℕ). Below s l' A.free (suc j) st.top) c (one_block {n = st.scope.count} {p = st.top} {m = length vs} (rw free-is (omega arith))
          (record { low = omega (arith, H.low); many = behind-is n e; next = next-held; linked = values-linked (st.top + 12) 0 (v ∷ vs) values; found = f })
          (rw (values-last (st.top + 12) 0 v vs values) old-chained.below))

  enum-chained : Chained s l' (scoped (suc (n + st.scope.count)) st.top) A.free ks.env bs ((w, a_type (length Γ)) ∷ (enum_names (length Γ) 0 (v ∷ vs) ++ k.env.names))
  unfolding declare_line start_of
  enum-chained =
      rw (← H.types_are) (chained-one {scope = scoped (n + st.scope.count) (st.top + 12)} st.top w (a_type st.types) H.start head-below (called-keyed s l' st.top p (omega (arith, H.short-text)) name-held)
      (rw sort-held (type-means ks.env bs st.types (get_or l' (st.top + 2) 0))) next-held values-chained)

  told-types : (t : ℕ) → Tells s l' (info_of l' (set ts (length Γ) t₁) t) (info_at (Γ ++ (type_sort_of Γ (enum v vs) ∷ [])) t) × EndsBelow A.free (info_of l' (set ts (length Γ) t₁) t)
  unfolding enum_info
  told-types = types_more H.scene same₀ A.free t₁ (rw free-is (omega arith)) info-room.start (omega (arith, H.types_are, number-low, H.long-notes)) (type_sort_of Γ (enum v vs))
      (describes-tells s l' (enum_info st.types n) t₁ (facts (type_sort_of Γ (enum v vs))) described info-held)
      (rw (read-numbers (enum_info st.types n) t₁ l' info-held, top₁, free-is) (record { end_below = λ _. omega arith; within = omega arith }))

  enum-scene : Scene s l' (set ts (length Γ) t₁) (scoped (suc (n + st.scope.count)) st.top) A.free ks.env bs
  unfolding declare_line decl_names extend_types type_sort_of
  enum-scene =
      let K = type-keeps H w (enum v vs) f e g b sn nn in
      record {
        names = chain-told (scoped (suc (n + st.scope.count)) st.top) refl head-below enum-chained.names;
        below = head-below;
        types = λ t. (told-types t).0;
        described = λ t. (told-types t).1;
        table = K.table;
        fair = rw H.bodies-are K.names;
        cells = keeps-cells ks K;
        fieldless = by_number Γ (type_sort_of Γ (enum v vs)) (λ t j. is_record j.shape ≡ false → j.fields ≡ []) (λ t _. H.scene.fieldless t) (λ _. refl) (λ t _ _. refl);
        above = λ x c i. values-above (length Γ) k.env.names H.scene.table.two H.scene.above (v ∷ vs) 0 x c
            (value-find w x (a_type (length Γ)) (enum_names (length Γ) 0 (v ∷ vs) ++ k.env.names) c (type-value (length Γ)) i);
        once = λ x y c i j. values-once (length Γ) k.env.names (value-kind H.scene.fair) H.scene.once (v ∷ vs) 0 x y c
            (value-find w x (a_type (length Γ)) (enum_names (length Γ) 0 (v ∷ vs) ++ k.env.names) c (type-value (length Γ)) i)
            (value-find w y (a_type (length Γ)) (enum_names (length Γ) 0 (v ∷ vs) ++ k.env.names) c (type-value (length Γ)) j);
        frames = λ x q us i. tells-frame-kept same₀ (rw free-is (omega arith)) (get_or bs q 0) us (H.scene.frames x q us (procs-old (length Γ) k.env.names (v ∷ vs) 0 x q us
            (find-other w x (a_type (length Γ)) (a_proc q us) (enum_names (length Γ) 0 (v ∷ vs) ++ k.env.names) (type-proc (length Γ) q us) i)));
      }

  pub enum_holds : Holds s l' ts' (type_state st (counted n) st.top 1 A.free) ks bs
  unfolding declare_line decl_names extend_types type_sort_of
  enum_holds =
      let c : suc (n + st.scope.count) ≡ st.scope.count + (n + 1) = omega arith in
      let m : length (Γ ++ (type_sort_of Γ (enum v vs) ∷ [])) ≡ length Γ + 1 = length-append Γ (type_sort_of Γ (enum v vs) ∷ []) in
      let d : n + 1 ≡ counted n = counted-more n (omega (arith, few)) in
      rw (A.places, ← d) (subst (λ (m : ℕ). Holds s l' (set ts m t₁) (type_state st (n + 1) st.top 1 A.free) ks bs) (sym H.types_are) (type-holds H w (enum v vs) f e g b sn nn (n + 1) st.top 1 A.free l' (set ts (length Γ) t₁) (omega arith) m (rw c at enum-scene) (rw c at enum-chained.names)
      (by_number Γ (type_sort_of Γ (enum v vs)) (λ t j. length (cells_by j.shape t j.cells) ≤ 2048) (λ t _. H.small-types t) (omega arith) (λ t _. omega arith))
      (rw free-is (omega (arith, H.few-names))) (rw free-is (omega arith)) (rw free-is room) (rw (A.in_order.long, A.values.long, long₂) H.long-list) (rw (length-set ts (length Γ) t₁) H.long-notes)))

  pub enum-top : A.free ≡ st.top + (12 + 4 * n)
  enum-top = free-is

-- ---- the line's stages

-- what a line of enumeration says, with its fault and how many names are counted
data Comes (k : Declared) (us : Trees Run) (w : Name) (o : Option LineForm) (n : ℕ) (f : Fault) : Type 0 where
  comes-wrong : f ≡ Form → entry_staged k o ≡ wrong → Comes k us w o n f
  comes-old : f ≡ fault.Name → entry_staged k o ≡ unnamed → Comes k us w o n f
  comes-fits : (v : Name) (vs : List Name) → f ≡ Clear → names_in us ≡ some (v ∷ vs) → (suc (length vs) ≤ 256 → n ≡ suc (length vs)) → leb n 256 ≡ leb (suc (length vs)) 256
      → entry_staged k o ≡ fits (new_type w (enum v vs)) → Comes k us w o n f

-- how many names there are, counted up to 1,000
pub count-bounded : (n m : ℕ) → (m ≤ 1000 → n ≡ m) → (1000 < m → n ≡ 1000) → leb n 256 ≡ leb m 256
count-bounded n m h g = go (dec_lt 1000 m)
  where
    go : Dec (1000 < m) → leb n 256 ≡ leb m 256
    go (yes i) = rw (g i, lt-leb m 256 (omega arith)) refl
    go (no i) = rw (h (omega arith)) refl

pub count-some : (n m : ℕ) → (suc m ≤ 1000 → n ≡ suc m) → (1000 < suc m → n ≡ 1000) → n ≡ 0 → ⊥
count-some n m h g z = go (dec_lt 1000 (suc m))
  where
    go : Dec (1000 < suc m) → ⊥
    go (yes i) = let q = g i in omega arith
    go (no i) = let q = h (omega arith) in omega arith

pub form-end : (s : List ℕ) (e : Fault) (q : ℕ) (f : Fault) → e ≡ Form → EndFault s e q f → f ≡ Form
form-end s e q f h (was-form _) = refl
form-end s e q f h (at-end _ _) = h
form-end s e q f h (before-end _ _) = refl

module _ (s l ts : List ℕ) (st : State) (p at : ℕ) (own : Bool) (O : GivesFresh s l st.scope p at own) (k : Declared) (bs : List ℕ) (H : Holds s l ts st k bs) where
  abbrev us : Trees Run
  us = first (stack_at s at)

  abbrev we : Name
  we = map small (word_at s p)

  abbrev after : Option LineForm
  after = made_after we (enum_in us) (first (later (stack_at s at)))

  none_after : enum_in us ≡ none → entry_staged k after ≡ wrong
  unfolding made_after entry_staged staged
  none_after h = rw (bound-none (enum_in us) (λ (t : TypeForm). closed (first (later (stack_at s at))) (type_line we t)) h) refl

  no_names : names_in us ≡ none → enum_in us ≡ none
  unfolding ◌>>=◌
  no_names h = enum-parts us ∙ rw h refl

  empty-names : names_in us ≡ some [] → enum_in us ≡ none
  unfolding ◌>>=◌ some?
  empty-names h = enum-parts us ∙ rw h refl

  -- the fault of names that are there
  named-fault : (h : Fault) (n : ℕ) (a b : Bool) → h ≡ cond b Clear fault.Name → (n ≡ 0 → ⊥) → enum_fault h n a ≡ cond (a && b) Clear fault.Name
  unfolding enum_fault
  named-fault h n true true e z = rw (e, ne_eqb n 0 z) refl
  named-fault h n true false e z = rw (e, ne_eqb n 0 z) refl
  named-fault h n false true e z = rw (e, ne_eqb n 0 z) refl
  named-fault h n false false e z = rw (e, ne_eqb n 0 z) refl

  no-form : {X : Type 0} (b : Bool) → cond b Clear fault.Name ≡ Form → X
  no-form true e = absurd (let z : ◌≡◌ {A = ℕ} 0 1 = cc in omega arith)
  no-form false e = absurd (let z : ◌≡◌ {A = ℕ} 0 1 = cc in omega arith)

  empty-fault : (h : Fault) (n : ℕ) → n ≡ 0 → enum_fault h n own ≡ Form
  unfolding enum_fault
  empty-fault h n z = rw z (go (is_form h))
    where
      go : (b : Bool) → cond b Form (cond (eqb 0 0) Form (cond own h fault.Name)) ≡ Form
      go true = refl
      go false = refl

  both-fresh : (v : Name) (vs : List Name) → names_in us ≡ some (v ∷ vs) → (own && fresh k.env (v ∷ vs)) ≡ fresh k.env (we ∷ v ∷ vs)
  unfolding fresh
  both-fresh v vs h = ap (λ (b : Bool). b && fresh k.env (v ∷ vs)) (O.says ts st.top k.env bs H.scene (v ∷ vs) h)

  -- past the names, by whether they are new
  past-names : (v : Name) (vs : List Name) (n q : ℕ) → names_in us ≡ some (v ∷ vs) → later (stack_at s at) ≡ stack_at s q
      → (suc (length vs) ≤ 1000 → n ≡ suc (length vs)) → (1000 < suc (length vs) → n ≡ 1000)
      → (e f : Fault) → e ≡ cond (fresh k.env (we ∷ v ∷ vs)) Clear fault.Name → EndFault s e q f → Comes k us we after n f
  unfolding made_after entry_staged staged closed
  past-names v vs n q h a few full e f j (was-form i) = no-form (fresh k.env (we ∷ v ∷ vs)) (sym j ∙ i)
  past-names v vs n q h a few full e f j (before-end i d) =
      let z : after ≡ none = bound-nones (enum_in us) (λ (t : TypeForm). closed (first (later (stack_at s at))) (type_line we t)) (λ (t : TypeForm). more-closed (first (later (stack_at s at))) (type_line we t) (λ y. d (sym (ap first a) ∙ y))) in
      comes-wrong refl (rw z refl)
  past-names v vs n q h a few full e f j (at-end i d) =
      go (fresh k.env (we ∷ v ∷ vs)) j
      (ap (λ (zs : Trees Run). entry_staged k (enum_in us >>= λ (t : TypeForm). closed zs (type_line we t))) (ap first a ∙ d) ∙ enum-named k we us v vs h)
    where
      go : (b : Bool) → e ≡ cond b Clear fault.Name → entry_staged k after ≡ cond b (fits (new_type we (enum v vs))) unnamed → Comes k us we after n e
      go true y x = comes-fits v vs y h (λ c. few (omega arith)) (count-bounded n (suc (length vs)) few full) x
      go false y x = comes-old y x

  comes : (c : Counted) → NamesTold s l st.scope at c → (e f : Fault) → e ≡ enum_fault c.fault c.names own → EndFault s e c.next f → Comes k us we after c.names f
  unfolding enum_fault
  comes c (names-wrong h) e f q E = comes-wrong (form-end s e _ f q E) (none_after (no_names h))
  comes c (names-read {f = g} {n} {q = q'} [] h a few full F) e f q E = comes-wrong (form-end s e _ f (q ∙ empty-fault g n (few (omega arith))) E) (none_after (empty-names h))
  comes c (names-read {f = g} {n} {q = q'} (v ∷ vs) h a few full F) e f q E = past-names v vs n q' h a few full e f
      (q ∙ named-fault g n own (fresh k.env (v ∷ vs)) (F ts st.top k.env bs H.scene) (count-some n (length vs) few full) ∙ ap (λ (b : Bool). cond b Clear fault.Name) (both-fresh v vs h)) E

-- ---- the ways

module _ (s l ts : List ℕ) (st : State) (p at : ℕ) (c : Counted) (N : NamesTold s l st.scope at c) (h : Fault) (hc : h ≡ c.fault)
    (own : Bool) (O : GivesFresh s l st.scope p at own) (e : Fault) (he : e ≡ enum_fault h c.names own) (f : Fault) (E : EndFault s e c.next f)
    (b : Bool) (i : b ≡ is_clear f) where
  abbrev line : Option LineForm
  line = made_after (map small (word_at s p)) (enum_in (first (stack_at s at))) (first (later (stack_at s at)))

  come : (k : Declared) (bs : List ℕ) → Holds s l ts st k bs → Comes k (first (stack_at s at)) (map small (word_at s p)) line c.names f
  come k bs H = comes s l ts st p at own O k bs H c N e f (he ∙ ap (λ (x : Fault). enum_fault x c.names own) hc) E

  line-fault : (k : Declared) (bs : List ℕ) → Holds s l ts st k bs → f ≡ fault_of (entry_staged k line)
  line-fault k bs H = go (come k bs H)
    where
      go : Comes k (first (stack_at s at)) (map small (word_at s p)) line c.names f → f ≡ fault_of (entry_staged k line)
      go (comes-wrong x y) = x ∙ sym (ap fault_of y)
      go (comes-old x y) = x ∙ sym (ap fault_of y)
      go (comes-fits v vs x _ _ _ y) = x ∙ sym (ap fault_of y)

  line_clear : b ≡ true → (k : Declared) (bs : List ℕ) → Holds s l ts st k bs → (v : Name) × (vs : List Name) × (names_in (first (stack_at s at)) ≡ some (v ∷ vs))
      × (suc (length vs) ≤ 256 → c.names ≡ suc (length vs)) × (leb c.names 256 ≡ leb (suc (length vs)) 256) × (entry_staged k line ≡ fits (new_type (map small (word_at s p)) (enum v vs)))
  line_clear j k bs H = go (come k bs H)
    where
      go : Comes k (first (stack_at s at)) (map small (word_at s p)) line c.names f → (v : Name) × (vs : List Name) × (names_in (first (stack_at s at)) ≡ some (v ∷ vs))
          × (suc (length vs) ≤ 256 → c.names ≡ suc (length vs)) × (leb c.names 256 ≡ leb (suc (length vs)) 256) × (entry_staged k line ≡ fits (new_type (map small (word_at s p)) (enum v vs)))
      go (comes-wrong x y) = absurd (false≢true (sym (ap is_clear x) ∙ sym i ∙ j))
      go (comes-old x y) = absurd (false≢true (sym (ap is_clear x) ∙ sym i ∙ j))
      go (comes-fits v vs x a d g y) = (v, vs, a, d, g, y)

  pub enum-failed : b ≡ false → (r : Lined) → r ≡ lined_by f false st → GivesMade s l ts st p at (enum_in (first (stack_at s at))) r l ts
  enum-failed j r q = rw q (record {
    gives = λ hp. record {
      below = record { at = λ _ _ _. refl };
      told = λ k bs H. failed-told s l ts st k bs (entry_staged k line) f (line-fault k bs H) (sym i ∙ j);
    };
  })

  module _ (j : b ≡ true) (u : Bool) (y : u ≡ lines_fit st.lines (leb c.names 256)) where
    bounded : (k : Declared) (bs : List ℕ) → Holds s l ts st k bs → (w : Name) (v : Name) (vs : List Name) → leb c.names 256 ≡ leb (suc (length vs)) 256 → line_bounded k (new_type w (enum v vs)) ≡ u
    unfolding type_bounded
    bounded k bs H w v vs g = sym (lines-bounded H w (enum v vs) (leb c.names 256) g) ∙ sym y

    pub enum-past : u ≡ false → (r : Lined) → r ≡ lined_by Clear false st → GivesMade s l ts st p at (enum_in (first (stack_at s at))) r l ts
    enum-past t r q = rw q (record {
      gives = λ hp. record {
        below = record { at = λ _ _ _. refl };
        told = λ k bs H.
            let x = line_clear j k bs H in
            let z : line_bounded k (new_type (map small (word_at s p)) (enum x.0 x.1)) ≡ false = bounded k bs H (map small (word_at s p)) x.0 x.1 x.4 ∙ t in
            subst (λ (T : Staged Entry). LineTold s st k bs T (lined_by Clear false st) l ts) (sym x.5) (record {
              fault-is = refl;
              within-is = λ z₁ a. rw (← fits-inj a) (sym z);
              holds = λ z₁ a. rw (← fits-inj a) (λ b₁ room sn nn. absurd (false≢true (sym z ∙ b₁)));
            });
      };
    })

    added-same : (n : ℕ) (r : Lined) (l' ts' : List ℕ) → AddsEnum s l ts st p at n r l' ts' → Same 0 st.top l' l
    added-same n r l' ts' A =
        let t₁ = (enum_named st (keyed s p) l).top in
        let l₁ = (enum_named st (keyed s p) l).list in
        record {
          at = λ z a d.
              A.in_order.below.at z a d
              ∙ A.values.below.at z a (omega (arith, (lay-g (enum_entry st (keyed s p)) st.top l).up, (lay-g (info_numbers (enum_info st.types n)) t₁ l₁).up))
              ∙ (lay-g (info_numbers (enum_info st.types n)) t₁ l₁).below z (omega (arith, (lay-g (enum_entry st (keyed s p)) st.top l).up))
              ∙ (lay-g (enum_entry st (keyed s p)) st.top l).below z d;
        }

    pub enum-fits : u ≡ true → (r : Lined) (l' ts' : List ℕ) → AddsEnum s l ts st p at c.names r l' ts' → GivesMade s l ts st p at (enum_in (first (stack_at s at))) r l' ts'
    unfolding symbol_size size_decl type_state type_bounded lines_fit
    enum-fits t r l' ts' A = record {
      gives = λ hp. record {
        below = added-same c.names r l' ts' A;
        told = λ k bs H.
            let x = line_clear j k bs H in
            let w = map small (word_at s p) in
            let m = entry-fits k line (new_type w (enum x.0 x.1)) x.5 in
            let z : line_bounded k (new_type w (enum x.0 x.1)) ≡ true = bounded k bs H w x.0 x.1 x.4 ∙ t in
            let d : leb (suc (length x.1)) 256 ≡ true = sym x.4 ∙ (and-true (leb (st.lines + 1) 64) (leb c.names 256) (sym y ∙ t)).1 in
            let n : c.names ≡ suc (length x.1) = x.3 (leb-true (suc (length x.1)) 256 d) in
            let B : AddsEnum s l ts st p at (suc (length x.1)) r l' ts' = rw n at A in
            subst (λ (T : Staged Entry). LineTold s st k bs T r l' ts') (sym x.5) (rw B.answer (record {
              fault-is = refl;
              within-is = λ z₁ a. rw (← fits-inj a) (sym z);
              holds = λ z₁ a. rw (← fits-inj a) (λ b₁ room sn nn.
                  (enum_holds H p at hp x.0 x.1 x.2 r l' ts' B m.0 m.1 m.2 b₁ room sn nn, enum-top H p at hp x.0 x.1 x.2 r l' ts' B m.0 m.1 m.2 b₁ room sn nn));
            }));
      };
    }

pub ruleset enum_laws = (enum-failed, enum-past, enum-fits)
