-- `type` lines of one name and one description: what is held after them, and the ways through the functions that add them.
use mathlib.Core.Path.{◌≡◌, refl, sym, ap, ◌∙◌, subst}
use mathlib.Core.Bool.{Bool, true, false, cond, false≢true}
use mathlib.Core.List.{List, [], ◌∷◌, ◌++◌, map}
use mathlib.Core.Option.{Option, none, some}
use Prim.Native.Nat.{ℕ, zero, suc, ◌+◌, ◌*◌, ◌<◌, ◌≤◌}
use native.Mathlib.Nat.{suc-mul, zero-mul, add_comm}
use native.Mathlib.Omega.{arith}
use borrow.Author.Tests.{leb-true}
use lib.Dec.{leb}
use lib.ListN.{length, get_or, set, length-append, length-set}
use Rattle.leaf_bytes.specs.Bytes.{small}
use Rattle.law.specs.Base.{Name, ◌>>=◌, find}
use Rattle.law.specs.Ceilings.{line_bounded, type_bounded}
use Rattle.law.specs.Environment.{Declared, Environment, NameSort, a_proc, a_type, declare_line, extend_types, decl_names, type_sort_of, copies, value_count}
use Rattle.code.specs.Layout.{lay}
use Rattle.code.specs.LayoutSize.{symbol_size, size_decl}
use Rattle.law.specs.Names.{is_known, entry_of}
use Rattle.law.specs.Rules.{keeps_rules}
use Rattle.law.specs.Script.{Entry, new_type, Decl}
use Rattle.rule_stages.specs.Stages.{Staged, wrong, unnamed, unfit, fits, staged, on_fits, unknown}
use Rattle.law.specs.Syntax.{LineForm, TypeForm, type_line}
use Rattle.law.specs.Trees.{end, first, later, word_at}
use Rattle.law_theorems.specs.Readings.{stack_at}
use Rattle.law.specs.Types.{Types, TypeInfo, facts, info_at, size_of, cells_by, cells_of, is_record}
use Rattle.law_theorems.proofs.Inversion.{and-true, none-some}
use Rattle.code.proofs.LayoutRegions.{Has, lay-g, lay-l}
use Rattle.code.specs.LayoutRegions.{Same, Room}
use Rattle.table_list.specs.Laid.{Laid}
use Rattle.table_names.specs.Keys.{keyed}
use Rattle.table_scope.proofs.Cells.{keeps-cells}
use Rattle.table_scope.proofs.Kept.{tells-frame-kept}
use Rattle.table_scope.proofs.Within.{chain-told, find-other}
use Rattle.rule_faults.specs.declared.Fault.{Fault}
use Rattle.rule_faults.specs.declared.Fault.TheVariants.{Clear, Form}
use Rattle.rule_faults.specs.declared.Fault.TheVariants as fault
use Rattle.table_scope.specs.declared.Info.{Info}
use Rattle.table_scope.specs.declared.Meaning.{Meaning}
use Rattle.table_scope.specs.Descriptions.{info_of, read_info, fields_at, Tells, EndsBelow}
use Rattle.table_scope.specs.declared.Meaning.TheVariants as meaning
use Rattle.table_names.specs.Chain.{entries}
use Rattle.table_names.specs.Chained.{Names}
use Rattle.table_scope.specs.Scene.{Scene, Told, Meant, meaning_here}
use Rattle.table_scope.proofs.Telling.{meant}
use Rattle.rule_faults.specs.Got.{is_form, is_clear, lowest, fault_of}
use Rattle.text_parts.specs.Parts.{ShutAt, Shuts}
use Rattle.std.specs.Prelude.{Option as Maybe, Some, None}
use Rattle.text_heads.specs.Parts.{closed}
use Rattle.rule_atoms.proofs.Telling.{fits-inj}
use Rattle.rule_declarations.specs.State.{scoped, Holds}
use Rattle.rule_declarations.specs.Names.{new_fault}
use Rattle.rule_declarations.specs.Lines.{entry_staged, newly, lined_by, LineTold}
use Rattle.rule_type_lines.specs.TypeLines.{made_after, lines_fit, type_entry, info_numbers, type_state, Simple, simple-range, simple-array, simple-set, Describes, ShapeTold, GivesShape, LaysType, AddsType, GivesShaped, EndFault, was-form, at-end, before-end}
use Rattle.rule_declarations.specs.declared.State.{State}
use Rattle.rule_declarations.specs.declared.Lined.{Lined}
use Rattle.rule_type_lines.specs.declared.Placed.{Placed}
use Rattle.rule_type_lines.specs.declared.Shaped.{Shaped}
use Rattle.rule_declarations.proofs.Growing.{Chained, holds-chained, chained-env, chained_more, chained-kept, laid_same}
use Rattle.rule_declarations.proofs.FreeNames.{none-wrong, form-is, more-closed, bound-none, bound-nones}
use Rattle.rule_declarations.proofs.VarLines.{clear-is, entry-fits, failed-told, value-find, fault-new, fits-clear, lowest-name, fault-unknown}
use Rattle.rule_type_lines.proofs.TypeScenes.{by_number, types_more, means-same, type-alone, type-means, type-proc, type-value, type-keeps, type-within, type-holds}
use Rattle.rule_type_lines.proofs.Aliases.{entry-is, lines-bounded}

-- ---- simple declarations

module _ (Γ : Types) where
  pub simple-extends : {d : Decl} → Simple d → extend_types Γ d ≡ Γ ++ (type_sort_of Γ d ∷ [])
  unfolding extend_types
  simple-extends simple-range = refl
  simple-extends simple-array = refl
  simple-extends simple-set = refl

  pub simple-names : {d : Decl} (w : Name) → Simple d → decl_names Γ w d ≡ (w, a_type (length Γ)) ∷ []
  unfolding decl_names
  simple-names w simple-range = refl
  simple-names w simple-array = refl
  simple-names w simple-set = refl

  pub simple-fields : {d : Decl} → Simple d → (facts (type_sort_of Γ d)).fields ≡ []
  unfolding type_sort_of
  simple-fields simple-range = refl
  simple-fields simple-array = refl
  simple-fields simple-set = refl

  pub copies_length : (n : ℕ) (cs : List ℕ) → length (copies n cs) ≡ n * length cs
  unfolding copies
  copies_length zero cs = sym (zero-mul (length cs))
  copies_length (suc n) cs = rw (length-append, copies_length n cs, suc-mul n (length cs)) (add_comm (length cs) (n * length cs))

  pub simple-small : {d : Decl} → Simple d → type_bounded Γ d ≡ true → (t : ℕ) → length (cells_by (facts (type_sort_of Γ d)).shape t (facts (type_sort_of Γ d)).cells) ≤ 2048
  unfolding type_sort_of type_bounded
  simple-small simple-range b t = omega arith
  simple-small (simple-array {i} {e}) b t =
      rw (copies_length (value_count Γ i) (cells_of Γ e)) (leb-true (value_count Γ i * size_of Γ e) 2048 (and-true (leb (value_count Γ i) 256) (leb (value_count Γ i * size_of Γ e) 2048) b).1)
  simple-small simple-set b t = omega arith

pub simple-size : {d : Decl} → Simple d → size_decl d ≡ 12
unfolding size_decl
simple-size simple-range = refl
simple-size simple-array = refl
simple-size simple-set = refl

-- ---- a description in the list

-- eight numbers at a place
pub read-numbers : (x : Info) (q : ℕ) (l : List ℕ) → Has (info_numbers x) q l
    → read_info l q ≡ record { shape = x.shape; host = x.host; low = x.low; high = x.high; size = x.size; index = x.index; element = x.element; fields = x.fields; place = q }
unfolding info_numbers read_info
read-numbers x q l h =
    let z : q + 0 ≡ q = omega arith in
    let a : get_or l q 0 ≡ x.shape = ap (λ (n : ℕ). get_or l n 0) (sym z) ∙ h.at 0 (omega arith) in
    rw (a, h.at 1 (omega arith), h.at 2 (omega arith), h.at 3 (omega arith), h.at 4 (omega arith), h.at 5 (omega arith), h.at 6 (omega arith), h.at 7 (omega arith)) refl

pub describes-tells : (s l : List ℕ) (x : Info) (q : ℕ) (i : TypeInfo) → Describes x i → Has (info_numbers x) q l → Tells s l (read_info l q) i
unfolding fields_at
describes-tells s l x q i D h = rw (read-numbers x q l h) (record {
  shape_is = D.shape_is;
  host-is = D.host-is;
  low-is = D.low-is;
  high_is = D.high_is;
  size_is = D.size_is;
  index_is = D.index_is;
  element-is = D.element-is;
  fields-are = rw D.fields-is (sym D.no_fields);
})

-- ---- what is held

module _ {s l ts : List ℕ} {st : State} {k : Declared} {bs : List ℕ} (H : Holds s l ts st k bs) (p : ℕ) (hp : p < length s) (x : Info) {d : Decl} (D : Simple d)
    (X : Describes x (facts (type_sort_of k.env.types d))) (f : LineForm) (e : entry_of k.env f ≡ some (new_type (map small (word_at s p)) d))
    (r : keeps_rules k.env.types (new_type (map small (word_at s p)) d) ≡ true) (b : line_bounded k (new_type (map small (word_at s p)) d) ≡ true)
    (room : st.top + 12 ≤ 16384) (sn nn : ℕ) where
  abbrev ws : Name
  ws = map small (word_at s p)

  abbrev Γ : Types
  Γ = k.env.types

  abbrev l₁ : List ℕ
  l₁ = (lay (type_entry st (keyed s p) st.types) st.top l).list

  abbrev t₁ : ℕ
  t₁ = (lay (type_entry st (keyed s p) st.types) st.top l).top

  abbrev l₂ : List ℕ
  l₂ = (lay (info_numbers x) t₁ l₁).list

  abbrev ks : Declared
  ks = declare_line k (new_type ws d) sn nn

  number-low : st.types < 66
  unfolding line_bounded
  number-low =
      let y = leb-true (suc k.type_lines) 64 (and-true (leb (suc k.type_lines) 64) (type_bounded Γ d) b).0 in
      omega (arith, H.few-types, H.lines_are)

  top₁ : t₁ ≡ st.top + 4
  top₁ = ap (λ (ns : List ℕ). (lay ns st.top l).top) (entry-is st (keyed s p) st.types (omega (arith, number-low))) ∙ ((lay-l (keyed s p ∷ (4 * st.types) ∷ 0 ∷ st.scope.newest ∷ []) st.top l).top-is (omega arith))

  long₁ : length l₁ ≡ length l
  long₁ = (lay-g (type_entry st (keyed s p) st.types) st.top l).long

  simple-top : (lay (info_numbers x) t₁ l₁).top ≡ st.top + 12
  unfolding info_numbers
  simple-top =
      let z : t₁ + 8 ≡ st.top + 12 = rw top₁ (omega arith) in
      (lay-l (info_numbers x) t₁ l₁).top-is (rw z room) ∙ z

  place-room : Room 8 t₁ l₁
  place-room = record { start = rw top₁ (omega arith); fits = rw top₁ (omega arith); long = rw long₁ H.long-list }

  has : Has (info_numbers x) t₁ l₂
  unfolding info_numbers
  has = (lay-l (info_numbers x) t₁ l₁).held place-room l₂ (record { at = λ _ _ _. refl })

  same₁ : Same 0 st.top l₁ l
  same₁ = laid_same (type_entry st (keyed s p) st.types) st.top l l₁ refl

  same₂ : Same 0 (st.top + 4) l₂ l₁
  same₂ = let y : Same 0 t₁ l₂ l₁ = laid_same (info_numbers x) t₁ l₁ l₂ refl in record { at = λ i a c. y.at i a (rw top₁ c) }

  pub simple-same : Same 0 st.top l₂ l
  simple-same = record { at = λ i a c. same₂.at i a (omega arith) ∙ same₁.at i a c }

  simple-chained : Chained s l₂ (scoped (suc st.scope.count) st.top) (st.top + 12) ks.env bs ((ws, a_type (length Γ)) ∷ k.env.names)
  unfolding declare_line
  simple-chained = chained-kept same₂ (omega arith)
      (rw (← H.types_are) (subst (λ (ns : List ℕ). Chained s (lay ns st.top l).list (scoped (suc st.scope.count) st.top) (st.top + 4) ks.env bs ((ws, a_type st.types) ∷ k.env.names))
      (sym (entry-is st (keyed s p) st.types (omega (arith, number-low))))
      (chained_more p (4 * st.types) 0 (a_type st.types) (type-alone st.types) (omega (arith, H.short-text)) (record { start = H.start; fits = omega arith; long = H.long-list }) (type-means ks.env bs st.types 0)
      (chained-env {σ' = ks.env} (means-same refl) (holds-chained H)))))

  told-types : (t : ℕ) → Tells s l₂ (info_of l₂ (set ts (length Γ) t₁) t) (info_at (Γ ++ (type_sort_of Γ d ∷ [])) t) × EndsBelow (st.top + 12) (info_of l₂ (set ts (length Γ) t₁) t)
  told-types = types_more H.scene simple-same (st.top + 12) t₁ (omega arith) place-room.start (omega (arith, H.types_are, number-low, H.long-notes)) (type_sort_of Γ d)
      (describes-tells s l₂ x t₁ (facts (type_sort_of Γ d)) X has)
      (rw (read-numbers x t₁ l₂ has, X.fields-is, top₁) (record { end_below = λ _. omega arith; within = omega arith }))

  simple-named : Names s l₂ (Meant ks.env bs l₂) (entries (suc st.scope.count) l₂ st.top) ks.env.names
  unfolding declare_line
  simple-named = subst (λ (ns : List (Name × NameSort)). Names s l₂ (Meant ks.env bs l₂) (entries (suc st.scope.count) l₂ st.top) ns)
      (ap (λ (xs : List (Name × NameSort)). xs ++ k.env.names) (sym (simple-names Γ ws D))) simple-chained.names

  simple-scene : Scene s l₂ (set ts (length Γ) t₁) (scoped (suc st.scope.count) st.top) (st.top + 12) ks.env bs
  unfolding declare_line
  simple-scene =
      let K = type-keeps H ws d f e r b sn nn in
      record {
        names = chain-told (scoped (suc st.scope.count) st.top) refl simple-chained.below simple-named;
        below = simple-chained.below;
        types = rw (simple-extends Γ D) (λ t. (told-types t).0);
        described = λ t. (told-types t).1;
        table = K.table;
        fair = rw H.bodies-are K.names;
        cells = keeps-cells ks K;
        fieldless = rw (simple-extends Γ D) (by_number Γ (type_sort_of Γ d) (λ t j. is_record j.shape ≡ false → j.fields ≡ []) (λ t _. H.scene.fieldless t) (λ _. simple-fields Γ D) (λ t _ _. refl));
        above = rw (simple-names Γ ws D) (λ v c g. H.scene.above v c (value-find ws v (a_type (length Γ)) k.env.names c (type-value (length Γ)) g));
        once = rw (simple-names Γ ws D) (λ v y c g h. H.scene.once v y c
            (value-find ws v (a_type (length Γ)) k.env.names c (type-value (length Γ)) g) (value-find ws y (a_type (length Γ)) k.env.names c (type-value (length Γ)) h));
        frames = rw (simple-names Γ ws D) (λ v q us g. tells-frame-kept simple-same (omega arith) (get_or bs q 0) us
            (H.scene.frames v q us (find-other ws v (a_type (length Γ)) (a_proc q us) k.env.names (type-proc (length Γ) q us) g)));
      }

  pub simple-holds : Holds s l₂ (set ts st.types t₁) (type_state st 1 st.top 1 (lay (info_numbers x) t₁ l₁).top) ks bs
  simple-holds =
      let c : suc st.scope.count ≡ st.scope.count + 1 = omega arith in
      let n : length (Γ ++ (type_sort_of Γ d ∷ [])) ≡ length Γ + 1 = length-append Γ (type_sort_of Γ d ∷ []) in
      subst (λ (m : ℕ). Holds s l₂ (set ts m t₁) (type_state st 1 st.top 1 (lay (info_numbers x) t₁ l₁).top) ks bs) (sym H.types_are) (rw simple-top (type-holds H ws d f e r b sn nn 1 st.top 1 (st.top + 12) l₂ (set ts (length Γ) t₁) (omega arith)
      (rw (simple-extends Γ D) n) (rw c at simple-scene) (rw c at simple-named)
      (rw (simple-extends Γ D) (by_number Γ (type_sort_of Γ d) (λ t j. length (cells_by j.shape t j.cells) ≤ 2048) (λ t _. H.small-types t)
      (simple-small Γ D (type-within H ws d f e r b sn nn) (length Γ)) (λ t _. omega arith)))
      (omega (arith, H.few-names)) (omega arith) room (rw ((lay-g (info_numbers x) t₁ l₁).long, long₁) H.long-list) (rw (length-set ts (length Γ) t₁) H.long-notes)))

-- what is below the free place stays
added-same : (l : List ℕ) (st : State) (name : ℕ) (x : Info)
    → Same 0 st.top (lay (info_numbers x) (lay (type_entry st name st.types) st.top l).top (lay (type_entry st name st.types) st.top l).list).list l
added-same l st name x = record {
  at = λ i a c.
      (lay-g (info_numbers x) (lay (type_entry st name st.types) st.top l).top (lay (type_entry st name st.types) st.top l).list).below i (omega (arith, (lay-g (type_entry st name st.types) st.top l).up))
      ∙ (lay-g (type_entry st name st.types) st.top l).below i c;
}

-- ---- the ways

pub lay-type-is : (l : List ℕ) (st : State) (name : ℕ) (x : Info) (q : ℕ) (m : List ℕ) → Laid (lay (type_entry st name st.types) st.top l) q m
    → (t : ℕ) (l' : List ℕ) → Laid (lay (info_numbers x) q m) t l' → LaysType l st name x (record { place = q; top = t }) l'
lay-type-is l st name x q m L t l' L' = record {
  place_is = L.free;
  top-is = L'.free ∙ rw (L.free, L.left) refl;
  list-is = L'.left ∙ rw (L.free, L.left) refl;
}

pub add-type-is : (l ts : List ℕ) (st : State) (name : ℕ) (x : Info) (q : Placed) (l' : List ℕ) → LaysType l st name x q l' → (ts' : List ℕ) → ts' ≡ set ts st.types q.place
    → (st' : State) → st' ≡ type_state st 1 st.top 1 q.top → (r : Lined) → r ≡ lined_by Clear true st' → AddsType l ts st name x r l' ts'
add-type-is l ts st name x q l' L ts' e st' g r h = record {
  list = L.list-is;
  places = e ∙ ap (λ (z : ℕ). set ts st.types z) L.place_is;
  answer = h ∙ ap (λ (z : State). lined_by Clear true z) (g ∙ ap (λ (z : ℕ). type_state st 1 st.top 1 z) L.top-is);
}

module _ (s : List ℕ) (f : Fault) (at : ℕ) (b : Bool) (i : b ≡ is_form f) where
  pub end-form : b ≡ true → EndFault s f at Form
  end-form j = was-form (form-is f (sym i ∙ j))

  module _ (j : b ≡ false) (e : Maybe ℕ) (E : Shuts s at e) where
    pub end-past : (q : ℕ) → e ≡ Some q → EndFault s f at f
    end-past q g = let m : ShutAt s at q = rw g at E.says in at-end (sym i ∙ j) m.here

    pub end_more : e ≡ None → EndFault s f at Form
    end_more g = before-end (sym i ∙ j) (rw g at E.says)

pub ruleset end_laws = (end-form, end-past, end_more)

-- a line with a new name beside its type
module _ {σ : Environment} {bs : List ℕ} (w : Name) (m : Meaning) (T : Told σ bs m (find σ.names w)) (S : Staged Decl) where
  pub decl-fault : new_fault (fault_of S) m ≡ fault_of (newly (is_known σ w) S (λ (d : Decl). fits (new_type w d)))
  unfolding newly on_fits
  decl-fault = fault-new w (fault_of S) m T ∙ go (is_known σ w) S
    where
      go : (b : Bool) (S : Staged Decl) → cond b (lowest (fault_of S) fault.Name) (fault_of S) ≡ fault_of (newly b S (λ (d : Decl). fits (new_type w d)))
      go true S = fault-unknown Entry S
      go false wrong = refl
      go false unnamed = refl
      go false unfit = refl
      go false (fits n) = refl

  pub decl-clear : new_fault (fault_of S) m ≡ Clear → (d : Decl) × (S ≡ fits d) × (is_known σ w ≡ false)
  decl-clear h = go (is_known σ w) (sym (fault-new w (fault_of S) m T) ∙ h)
    where
      go : (b : Bool) → cond b (lowest (fault_of S) fault.Name) (fault_of S) ≡ Clear → (d : Decl) × (S ≡ fits d) × (b ≡ false)
      go true e = lowest-name (fault_of S) e
      go false e = let x = fits-clear S e in (x.0, x.1, refl)

-- a fault of row 6 of the type is the line's
pub form-new : (m : Meaning) → new_fault Form m ≡ Form
form-new meaning.Unknown = refl
form-new (meaning.Type t) = refl
form-new (meaning.Var i t a) = refl
form-new (meaning.Proc p) = refl
form-new (meaning.Value k n) = refl

pub form-clear : {X : Type 0} → Form ≡ Clear → X
form-clear e = absurd (let z : ◌≡◌ {A = ℕ} 0 1 = cc in omega arith)

bound-back : {A B : Type 0} (o : Option A) (f : A → B) → (o >>= λ (a : A). some (f a)) ≡ none → o ≡ none
unfolding ◌>>=◌
bound-back none f h = refl
bound-back (some a) f h = none-some (sym h)

newly-wrong : {A B : Type 0} (b : Bool) (S : Staged A) (f : A → Staged B) → fault_of S ≡ Form → newly b S f ≡ wrong
unfolding newly unknown on_fits
newly-wrong true wrong f h = refl
newly-wrong false wrong f h = refl
newly-wrong b unnamed f h = absurd (let z : ◌≡◌ {A = ℕ} 0 1 = cc in omega arith)
newly-wrong b unfit f h = absurd (let z : ◌≡◌ {A = ℕ} 0 1 = cc in omega arith)
newly-wrong b (fits a) f h = absurd (let z : ◌≡◌ {A = ℕ} 0 1 = cc in omega arith)

-- what the line says: nothing, or what its type's form says
data Comes (w : Name) (o : Option TypeForm) (g : Shaped) (a : Option LineForm) (e : Fault) : Type 0 where
  comes-none : a ≡ none → e ≡ Form → Comes w o g a e
  comes-made : a ≡ (o >>= λ (t : TypeForm). some (type_line w t)) → e ≡ g.fault → Comes w o g a e

module _ (s l ts : List ℕ) (st : State) (p : ℕ) (g : Shaped) (h : Fault) (c : h ≡ g.fault) (e : Fault) (E : EndFault s h g.next e)
    (f : Fault) (n : f ≡ new_fault e (meaning_here s l st.scope p)) (b : Bool) (i : b ≡ is_clear f) where
  abbrev w : Name
  w = map small (word_at s p)

  module _ (at : ℕ) (o : Option TypeForm) (G : GivesShape s l ts st at o g) where
    abbrev after : Option LineForm
    after = made_after w o (first (later (stack_at s at)))

    rest-is : is_form h ≡ false → first (later (stack_at s at)) ≡ first (stack_at s g.next)
    rest-is q = ap first (G.goes (ap is_form (sym c) ∙ q))

    module _ (k : Declared) (bs : List ℕ) (H : Holds s l ts st k bs) where
      meaning-told : Told k.env bs (meaning_here s l st.scope p) (find k.env.names w)
      meaning-told = meant H.scene w

      comes : Comes w o g after e
      unfolding made_after closed entry_staged
      comes = go e E
        where
          M : ShapeTold k o g
          M = G.says k bs H

          go : (e : Fault) → EndFault s h g.next e → Comes w o g after e
          go _ (was-form q) =
              let z : entry_staged k (o >>= λ (t : TypeForm). some (type_line w t)) ≡ wrong = M.stage_is w ∙ newly-wrong (is_known k.env w) M.stage (λ (d : Decl). fits (new_type w d)) (sym M.fault-is ∙ sym c ∙ q) in
              let y : o ≡ none = bound-back o (λ (t : TypeForm). type_line w t) (none-wrong (o >>= λ (t : TypeForm). some (type_line w t)) (entry_of k.env) (keeps_rules k.env.types) some (sym (ap fault_of z))) in
              comes-none (bound-none o _ y) refl
          go _ (at-end q r) = let z : first (later (stack_at s at)) ≡ end = rest-is q ∙ r in comes-made (rw z refl) c
          go _ (before-end q r) = comes-none (bound-nones o _ (λ (t : TypeForm). more-closed (first (later (stack_at s at))) (type_line w t) (λ z. r (sym (rest-is q) ∙ z)))) refl

      line-fault : f ≡ fault_of (entry_staged k after)
      unfolding entry_staged staged
      line-fault = go comes
        where
          M : ShapeTold k o g
          M = G.says k bs H

          go : Comes w o g after e → f ≡ fault_of (entry_staged k after)
          go (comes-none a q) = rw a (n ∙ ap (λ (x : Fault). new_fault x (meaning_here s l st.scope p)) q ∙ form-new (meaning_here s l st.scope p))
          go (comes-made a q) =
              n ∙ ap (λ (x : Fault). new_fault x (meaning_here s l st.scope p)) (q ∙ M.fault-is)
              ∙ decl-fault w (meaning_here s l st.scope p) meaning-told M.stage ∙ ap fault_of (sym (ap (entry_staged k) a ∙ M.stage_is w))

      line_clear : b ≡ true → (d : Decl) × (entry_staged k after ≡ fits (new_type w d)) × Simple d × (type_bounded k.env.types d ≡ true → Describes g.info (facts (type_sort_of k.env.types d))) × (g.within ≡ type_bounded k.env.types d)
      unfolding newly on_fits
      line_clear j = go comes
        where
          M : ShapeTold k o g
          M = G.says k bs H

          go : Comes w o g after e → (d : Decl) × (entry_staged k after ≡ fits (new_type w d)) × Simple d × (type_bounded k.env.types d ≡ true → Describes g.info (facts (type_sort_of k.env.types d))) × (g.within ≡ type_bounded k.env.types d)
          go (comes-none a q) = form-clear (sym (form-new (meaning_here s l st.scope p)) ∙ sym (n ∙ ap (λ (x : Fault). new_fault x (meaning_here s l st.scope p)) q) ∙ clear-is f (sym i ∙ j))
          go (comes-made a q) =
              let x = decl-clear w (meaning_here s l st.scope p) meaning-told M.stage
              (sym (n ∙ ap (λ (y : Fault). new_fault y (meaning_here s l st.scope p)) (q ∙ M.fault-is)) ∙ clear-is f (sym i ∙ j)) in
              let z : entry_staged k after ≡ fits (new_type w x.0) =
              ap (entry_staged k) a ∙ M.stage_is w ∙ ap (λ (v : Bool). newly v M.stage (λ (d : Decl). fits (new_type w d))) x.2
              ∙ ap (λ (T : Staged Decl). newly false T (λ (d : Decl). fits (new_type w d))) x.1 in
              let y = M.made x.0 x.1 in
              (x.0, z, y.0, y.1, y.2)

  pub shaped-fault : b ≡ false → (r : Lined) → r ≡ lined_by f false st → GivesShaped s l ts st p g r l ts
  shaped-fault j r q = rw q (record {
    gives = λ at o G hp. record {
      below = record { at = λ _ _ _. refl };
      told = λ k bs H. failed-told s l ts st k bs (entry_staged k (after at o G)) f (line-fault at o G k bs H) (sym i ∙ j);
    };
  })

  module _ (j : b ≡ true) (v : Bool) (y : v ≡ lines_fit st.lines g.within) where
    pub shaped-past : v ≡ false → (r : Lined) → r ≡ lined_by Clear false st → GivesShaped s l ts st p g r l ts
    shaped-past t r q = rw q (record {
      gives = λ at o G hp. record {
        below = record { at = λ _ _ _. refl };
        told = λ k bs H.
            let x = line_clear at o G k bs H j in
            let z : line_bounded k (new_type w x.0) ≡ false = sym (lines-bounded H w x.0 g.within x.4) ∙ sym y ∙ t in
            subst (λ (T : Staged Entry). LineTold s st k bs T (lined_by Clear false st) l ts) (sym x.1) (record {
              fault-is = refl;
              within-is = λ e a. rw (← fits-inj a) (sym z);
              holds = λ e a. rw (← fits-inj a) (λ b₁ room sn nn. absurd (false≢true (sym z ∙ b₁)));
            });
      };
    })

    pub shaped-fits : v ≡ true → (x : Info) → x ≡ g.info → (name : ℕ) → name ≡ keyed s p → (r : Lined) (l' ts' : List ℕ) → AddsType l ts st name x r l' ts' → GivesShaped s l ts st p g r l' ts'
    unfolding symbol_size type_state lines_fit
    shaped-fits t x q name c r l' ts' A = record {
      gives = λ at o G hp. record {
        below = rw A.list (added-same l st name x);
        told = λ k bs H.
            let m = line_clear at o G k bs H j in
            let u = entry-fits k (after at o G) (new_type w m.0) m.1 in
            let D : Describes x (facts (type_sort_of k.env.types m.0)) = rw q (m.3 (sym m.4 ∙ (and-true (leb (st.lines + 1) 64) g.within (sym y ∙ t)).1)) in
            let z : line_bounded k (new_type w m.0) ≡ true = sym (lines-bounded H w m.0 g.within m.4) ∙ sym y ∙ t in
            subst (λ (T : Staged Entry). LineTold s st k bs T r l' ts') (sym m.1) (rw (A.answer, A.list, A.places, c) (record {
              fault-is = refl;
              within-is = λ e a. rw (← fits-inj a) (sym z);
              holds = λ e a. rw (← fits-inj a, simple-size m.2) (λ b₁ room sn nn.
                  (simple-holds H p hp x m.2 D u.0 u.1 u.2 b₁ room sn nn, simple-top H p hp x m.2 D u.0 u.1 u.2 b₁ room sn nn));
            }));
      };
    }

pub ruleset shaped_laws = (shaped-fault, shaped-past, shaped-fits)
