-- Lines that make a record: what is held after them, and the ways through `record_line`.
use mathlib.Core.Path.{◌≡◌, refl, sym, ap, ◌∙◌, subst}
use mathlib.Core.Bool.{Bool, true, false, cond, ◌&&◌, not, false≢true}
use mathlib.Core.List.{List, [], ◌∷◌, ◌++◌, map}
use mathlib.Core.Option.{Option, none, some}
use Prim.Native.Nat.{ℕ, suc, ◌+◌, ◌*◌, ◌<◌, ◌≤◌}
use native.Mathlib.Decide.{dec_lt}
use native.Mathlib.Omega.{arith}
use borrow.Author.Tests.{leb-true, lt-leb}
use lib.Dec.{leb}
use lib.ListN.{get_or, length, set, length-append, length-set}
use Rattle.leaf_bytes.specs.Bytes.{small}
use Rattle.law.specs.Base.{Name, ◌>>=◌, each, given, find}
use Rattle.law.specs.Ceilings.{line_bounded, type_bounded, field_sizes}
use Rattle.law.specs.Environment.{Declared, a_proc, a_type, declare_line, extend_types, decl_names, type_sort_of, lay_fields, field_cells}
use Rattle.law.specs.Forms.{field, some?, made_type}
use Rattle.code.specs.Layout.{bits, lay}
use Rattle.code.specs.LayoutSize.{symbol_size, size_decl}
use Rattle.law.specs.Names.{is_known, distinct, field_names, decl_of, entry_of}
use Rattle.law.specs.Rules.{keeps_rules, kept_decl}
use Rattle.law.specs.Script.{Entry, new_type, Decl, record_of}
use Rattle.rule_stages.specs.Stages as Stages
use Rattle.rule_stages.specs.Stages.{Staged, unnamed, fits, ruled, staged, on_fits, unknown}
use Rattle.law.specs.Syntax as Syntax
use Rattle.law.specs.Syntax.{LineForm, TypeForm, TypeName, type_line}
use Rattle.law.specs.Trees.{Trees, Run, end, list, first, later, word_at}
use Rattle.law_theorems.specs.Readings.{stack_at}
use Rattle.law.specs.Types.{Types, facts, info_at, cells_by, is_record, size_of, cells_of}
use Rattle.law.specs.Words.{Word, worded_all}
use Rattle.law_theorems.proofs.Inversion.{and-true}
use Rattle.code.proofs.LayoutRegions.{Has, lay-g, lay-l}
use Rattle.code.specs.LayoutRegions.{Same, Room}
use Rattle.table_names.specs.Keys.{keyed}
use Rattle.table_scope.proofs.Cells.{keeps-cells}
use Rattle.table_scope.proofs.Within.{chain-told, find-other}
use Rattle.table_scope.proofs.Kept.{scene-kept, tells-frame-kept}
use Rattle.table_scope.proofs.Telling.{meant}
use Rattle.rule_faults.specs.declared.Fault.{Fault}
use Rattle.rule_faults.specs.declared.Fault.TheVariants.{Clear, Form}
use Rattle.rule_faults.specs.declared.Fault.TheVariants as fault
use Rattle.table_scope.specs.declared.Meaning.{Meaning}
use Rattle.table_scope.specs.Descriptions.{info_of, read_info, shape_number, fields_at, Tells, EndsBelow}
use Rattle.table_scope.specs.Scene.{Scene, Told, meaning_here}
use Rattle.rule_faults.specs.Got.{is_clear, fault_of}
use Rattle.text_heads.specs.Parts.{closed}
use Rattle.text_heads.proofs.Walks.{bind-cong, bind_assoc}
use Rattle.rule_atoms.proofs.Telling.{fits-inj, unnamed-fits}
use Rattle.rule_declarations.specs.State.{scoped, Holds}
use Rattle.rule_declarations.specs.Names.{new_fault}
use Rattle.rule_declarations.specs.Lines.{entry_staged, newly, lined_by, LineTold}
use Rattle.rule_type_lines.specs.TypeLines.{made_after, lines_fit, type_entry, info_numbers, type_state, GivesMade, EndFault, was-form, at-end, before-end}
use Rattle.rule_pairs.specs.Pairs.{pairs_in, firsts, resolve, pairs_good, Tracks, PairsTold, pairs-wrong, pairs-empty, pairs-read, GivesPairs}
use Rattle.rule_pairs.proofs.Resolving.{Good, good-yes, good-no, good-told}
use Rattle.rule_record_lines.specs.Records.{record_in, record_info, record_named, record_described, AddsRecord, record_fits}
use Rattle.rule_declarations.specs.declared.State.{State}
use Rattle.rule_declarations.specs.declared.Lined.{Lined}
use Rattle.rule_pairs.specs.declared.Pairs.{Pairs}
use Rattle.rule_declarations.proofs.Growing.{Chained, holds-chained, chained-env, chained_more, chained-kept}
use Rattle.rule_declarations.proofs.FreeNames.{more-closed, bound-none, bound-nones}
use Rattle.rule_declarations.proofs.VarLines.{clear-is, entry-fits, failed-told, value-find, new-one}
use Rattle.rule_type_lines.proofs.TypeScenes.{by_number, types_more, means-same, type-alone, type-means, type-proc, type-value, type-keeps, type-within, type-holds, lines-low}
use Rattle.rule_type_lines.proofs.Aliases.{entry-is, lines-bounded}
use Rattle.rule_type_lines.proofs.SimpleLines.{read-numbers, decl-fault, decl-clear, form-new, form-clear}
use Rattle.rule_enum_lines.proofs.EnumLines.{form-end}
use Rattle.rule_pairs.proofs.PairParts.{pairs-each}

-- ---- the form

record-parts : (us : Trees Run) → record_in us ≡ (pairs_in us >>= λ (fs : List (Name × TypeName)). some? fs >>= λ (p : (Name × TypeName) × List (Name × TypeName)). some (Syntax.record_of (p.0 ∷ p.1)))
unfolding record_in made_type
record-parts us =
    bind-cong (worded_all us) (λ (vs : Trees Word). bind_assoc (each field (list vs)) some? (λ (p : (Name × TypeName) × List (Name × TypeName)). some (Syntax.record_of (p.0 ∷ p.1))))
    ∙ sym (bind_assoc (worded_all us) (λ (vs : Trees Word). each field (list vs)) (λ (fs : List (Name × TypeName)). some? fs >>= λ (p : (Name × TypeName) × List (Name × TypeName)). some (Syntax.record_of (p.0 ∷ p.1))))
    ∙ ap (λ (o : Option (List (Name × TypeName))). o >>= λ (fs : List (Name × TypeName)). some? fs >>= λ (p : (Name × TypeName) × List (Name × TypeName)). some (Syntax.record_of (p.0 ∷ p.1))) (pairs-each us)

-- ---- fields that keep row 7

cells-length : (Γ : Types) (gs : List (Name × ℕ)) → length (field_cells Γ gs) ≡ field_sizes Γ gs
unfolding field_cells field_sizes
cells-length Γ [] = refl
cells-length Γ (g ∷ gs) = length-append (cells_of Γ g.1) (field_cells Γ gs) ∙ ap (λ (n : ℕ). size_of Γ g.1 + n) (cells-length Γ gs)

-- the stage of a record beside its own name
data Stage (k : Declared) (w : Name) (fs : List (Name × TypeName)) : Type 0 where
  stage-old : pairs_good k.env fs ≡ false → entry_staged k (some (type_line w (Syntax.record_of fs))) ≡ newly (is_known k.env w) unnamed (λ (d : Decl). fits (new_type w d)) → Stage k w fs
  stage-fits : (gs : List (Name × ℕ)) → resolve k.env fs ≡ some gs → length gs ≡ length fs → pairs_good k.env fs ≡ true
      → entry_staged k (some (type_line w (Syntax.record_of fs))) ≡ newly (is_known k.env w) (fits (record_of gs)) (λ (d : Decl). fits (new_type w d)) → Stage k w fs

module _ (k : Declared) (w : Name) (fs : List (Name × TypeName)) where
  stage-by : (o : Option (List (Name × ℕ))) → resolve k.env fs ≡ o → entry_staged k (some (type_line w (Syntax.record_of fs)))
      ≡ Stages.named ((o >>= λ (gs : List (Name × ℕ)). given (not (is_known k.env w) && distinct k.env (field_names k.env gs)) (record_of gs)) >>= λ (d : Decl). some (new_type w d)) (keeps_rules k.env.types) some
  unfolding entry_staged staged entry_of decl_of resolve
  stage-by o e = rw (← e, ← new-one k.env w) refl

  stage-none : (b : Bool) → ◌≡◌ {A = Staged Entry} unnamed (newly b unnamed (λ (d : Decl). fits (new_type w d)))
  unfolding newly unknown on_fits
  stage-none true = refl
  stage-none false = refl

  stage-some : (b c : Bool) (gs : List (Name × ℕ)) → Stages.named (given (not b && c) (record_of gs) >>= λ (d : Decl). some (new_type w d)) (keeps_rules k.env.types) some
      ≡ newly b (cond c (fits (record_of gs)) unnamed) (λ (d : Decl). fits (new_type w d))
  unfolding Stages.named given ◌>>=◌ keeps_rules kept_decl ruled newly unknown on_fits
  stage-some true true gs = refl
  stage-some true false gs = refl
  stage-some false true gs = refl
  stage-some false false gs = refl

  stage-told : Good k.env fs → Stage k w fs
  unfolding Stages.named ◌>>=◌ pairs_good
  stage-told (good-no a b) = stage-old (ap (λ (t : Bool). t && distinct k.env (firsts fs)) b) (stage-by none a ∙ stage-none (is_known k.env w))
  stage-told (good-yes gs a b c h) = go (distinct k.env (firsts fs)) refl
    where
      d : pairs_good k.env fs ≡ distinct k.env (firsts fs)
      d = ap (λ (t : Bool). t && distinct k.env (firsts fs)) h

      at : entry_staged k (some (type_line w (Syntax.record_of fs))) ≡ newly (is_known k.env w) (cond (distinct k.env (firsts fs)) (fits (record_of gs)) unnamed) (λ (d : Decl). fits (new_type w d))
      at = stage-by (some gs) a ∙ stage-some (is_known k.env w) (distinct k.env (field_names k.env gs)) gs
          ∙ ap (λ (z : List Name). newly (is_known k.env w) (cond (distinct k.env z) (fits (record_of gs)) unnamed) (λ (d : Decl). fits (new_type w d))) b

      go : (t : Bool) → distinct k.env (firsts fs) ≡ t → Stage k w fs
      go true e = stage-fits gs a c (d ∙ e) (at ∙ ap (λ (z : Bool). newly (is_known k.env w) (cond z (fits (record_of gs)) unnamed) (λ (d : Decl). fits (new_type w d))) e)
      go false e = stage-old (d ∙ e) (at ∙ ap (λ (z : Bool). newly (is_known k.env w) (cond z (fits (record_of gs)) unnamed) (λ (d : Decl). fits (new_type w d))) e)

-- ---- what is held

module _ {s l ts : List ℕ} {st : State} {k : Declared} {bs : List ℕ} (H : Holds s l ts st k bs) (p at : ℕ) (hp : p < length s) (fs : List (Name × TypeName)) (gs : List (Name × ℕ))
    (hf : pairs_in (first (stack_at s at)) ≡ some fs) (hg : resolve k.env fs ≡ some gs) (r : Lined) (l' ts' : List ℕ) (A : AddsRecord s l ts st p at (length gs) (field_sizes k.env.types gs) r l' ts')
    (f : LineForm) (e : entry_of k.env f ≡ some (new_type (map small (word_at s p)) (record_of gs)))
    (g : keeps_rules k.env.types (new_type (map small (word_at s p)) (record_of gs)) ≡ true) (b : line_bounded k (new_type (map small (word_at s p)) (record_of gs)) ≡ true)
    (room : st.top + (12 + 4 * length gs) ≤ 16384) (sn nn : ℕ) where
  abbrev w : Name
  w = map small (word_at s p)

  abbrev Γ : Types
  Γ = k.env.types

  abbrev n : ℕ
  n = length gs

  abbrev size : ℕ
  size = field_sizes k.env.types gs

  abbrev t₁ : ℕ
  t₁ = (record_named st (keyed s p) l).top

  abbrev l₁ : List ℕ
  l₁ = (record_named st (keyed s p) l).list

  abbrev t₂ : ℕ
  t₂ = (record_described st (keyed s p) n size l).top

  abbrev l₂ : List ℕ
  l₂ = (record_described st (keyed s p) n size l).list

  abbrev ks : Declared
  ks = declare_line k (new_type w (record_of gs)) sn nn

  few-cells : size ≤ 2048
  unfolding type_bounded
  few-cells = leb-true size 2048 (and-true (leb n 16) (leb size 2048) (type-within H w (record_of gs) f e g b sn nn)).1

  number-low : st.types < 66
  number-low = omega (arith, H.few-types, lines-low H w (record_of gs) f e g b sn nn)

  top₁ : t₁ ≡ st.top + 4
  unfolding type_entry
  top₁ = (lay-l (type_entry st (keyed s p) st.types) st.top l).top-is (omega arith)

  top₂ : t₂ ≡ st.top + 12
  unfolding info_numbers
  top₂ =
      let z : t₁ + 8 ≡ st.top + 12 = rw top₁ (omega arith) in
      (lay-l (info_numbers (record_info n size)) t₁ l₁).top-is (rw z (omega arith)) ∙ z

  long₁ : length l₁ ≡ length l
  long₁ = (lay-g (type_entry st (keyed s p) st.types) st.top l).long

  long₂ : length l₂ ≡ length l
  long₂ = (lay-g (info_numbers (record_info n size)) t₁ l₁).long ∙ long₁

  same₂ : Same 0 st.top l₂ l
  same₂ = record {
    at = λ i a c. (lay-g (info_numbers (record_info n size)) t₁ l₁).below i (rw top₁ (omega arith)) ∙ (lay-g (type_entry st (keyed s p) st.types) st.top l).below i c;
  }

  laid-fields : (fields_at s l' t₂ n ≡ lay_fields Γ 0 gs) × (A.free ≡ t₂ + 4 * n)
  laid-fields = A.fields.fields st.top k.env bs (scene-kept H.scene same₂ (omega arith)) (rw top₂ (omega arith)) fs hf gs hg refl few-cells H.short-text
      (record { start = rw top₂ (omega arith); fits = rw top₂ (omega arith); long = rw long₂ H.long-list })

  free-is : A.free ≡ st.top + (12 + 4 * n)
  free-is = laid-fields.1 ∙ rw top₂ (omega arith)

  same₁ : Same 0 (st.top + 4) l' l₁
  same₁ = record {
    at = λ i a c. A.fields.below.at i a (rw top₂ (omega arith)) ∙ (lay-g (info_numbers (record_info n size)) t₁ l₁).below i (rw top₁ c);
  }

  same₀ : Same 0 st.top l' l
  same₀ = record { at = λ i a c. same₁.at i a (omega arith) ∙ (lay-g (type_entry st (keyed s p) st.types) st.top l).below i c }

  info-room : Room 8 t₁ l₁
  info-room = record { start = rw top₁ (omega arith); fits = rw top₁ (omega arith); long = rw long₁ H.long-list }

  info-held : Has (info_numbers (record_info n size)) t₁ l'
  unfolding info_numbers
  info-held = (lay-l (info_numbers (record_info n size)) t₁ l₁).held info-room l' (record { at = λ i a c. A.fields.below.at i (omega arith) c })

  record-tells : Tells s l' (read_info l' t₁) (facts (type_sort_of Γ (record_of gs)))
  unfolding record_info type_sort_of shape_number bits
  record-tells = rw (read-numbers (record_info n size) t₁ l' info-held) (record {
    shape_is = refl;
    host-is = refl;
    low-is = refl;
    high_is = refl;
    size_is = λ _. sym (cells-length Γ gs);
    index_is = refl;
    element-is = refl;
    fields-are = let z : t₁ + 8 ≡ t₂ = rw (top₁, top₂) (omega arith) in rw z laid-fields.0;
  })

  record-chained : Chained s l' (scoped (suc st.scope.count) st.top) A.free ks.env bs ((w, a_type (length Γ)) ∷ k.env.names)
  unfolding declare_line
  record-chained = chained-kept same₁ (rw free-is (omega arith))
      (rw (← H.types_are) (subst (λ (ns : List ℕ). Chained s (lay ns st.top l).list (scoped (suc st.scope.count) st.top) (st.top + 4) ks.env bs ((w, a_type st.types) ∷ k.env.names))
      (sym (entry-is st (keyed s p) st.types (omega (arith, number-low))))
      (chained_more p (4 * st.types) 0 (a_type st.types) (type-alone st.types) (omega (arith, H.short-text)) (record { start = H.start; fits = omega arith; long = H.long-list }) (type-means ks.env bs st.types 0)
      (chained-env {σ' = ks.env} (means-same refl) (holds-chained H)))))

  told-types : (t : ℕ) → Tells s l' (info_of l' (set ts (length Γ) t₁) t) (info_at (Γ ++ (type_sort_of Γ (record_of gs) ∷ [])) t) × EndsBelow A.free (info_of l' (set ts (length Γ) t₁) t)
  unfolding record_info
  told-types = types_more H.scene same₀ A.free t₁ (rw free-is (omega arith)) info-room.start (omega (arith, H.types_are, number-low, H.long-notes)) (type_sort_of Γ (record_of gs))
      record-tells (rw (read-numbers (record_info n size) t₁ l' info-held, top₁, free-is) (record { end_below = λ _. omega arith; within = omega arith }))

  record-scene : Scene s l' (set ts (length Γ) t₁) (scoped (suc st.scope.count) st.top) A.free ks.env bs
  unfolding declare_line decl_names extend_types type_sort_of
  record-scene =
      let K = type-keeps H w (record_of gs) f e g b sn nn in
      record {
        names = chain-told (scoped (suc st.scope.count) st.top) refl record-chained.below record-chained.names;
        below = record-chained.below;
        types = λ t. (told-types t).0;
        described = λ t. (told-types t).1;
        table = K.table;
        fair = rw H.bodies-are K.names;
        cells = keeps-cells ks K;
        fieldless = by_number Γ (type_sort_of Γ (record_of gs)) (λ t j. is_record j.shape ≡ false → j.fields ≡ []) (λ t _. H.scene.fieldless t) (λ q. absurd (false≢true (sym q))) (λ t _ _. refl);
        above = λ x c i. H.scene.above x c (value-find w x (a_type (length Γ)) k.env.names c (type-value (length Γ)) i);
        once = λ x y c i j. H.scene.once x y c (value-find w x (a_type (length Γ)) k.env.names c (type-value (length Γ)) i) (value-find w y (a_type (length Γ)) k.env.names c (type-value (length Γ)) j);
        frames = λ x q us i. tells-frame-kept same₀ (rw free-is (omega arith)) (get_or bs q 0) us
            (H.scene.frames x q us (find-other w x (a_type (length Γ)) (a_proc q us) k.env.names (type-proc (length Γ) q us) i));
      }

  pub record-holds : Holds s l' ts' (type_state st 1 st.top 1 A.free) ks bs
  unfolding declare_line decl_names extend_types type_sort_of
  record-holds =
      let c : suc st.scope.count ≡ st.scope.count + 1 = omega arith in
      let m : length (Γ ++ (type_sort_of Γ (record_of gs) ∷ [])) ≡ length Γ + 1 = length-append Γ (type_sort_of Γ (record_of gs) ∷ []) in
      rw A.places (subst (λ (z : ℕ). Holds s l' (set ts z t₁) (type_state st 1 st.top 1 A.free) ks bs) (sym H.types_are)
      (type-holds H w (record_of gs) f e g b sn nn 1 st.top 1 A.free l' (set ts (length Γ) t₁) (omega arith) m (rw c at record-scene) (rw c at record-chained.names)
      (by_number Γ (type_sort_of Γ (record_of gs)) (λ t j. length (cells_by j.shape t j.cells) ≤ 2048) (λ t _. H.small-types t) (rw (cells-length Γ gs) few-cells) (λ t _. omega arith))
      (rw free-is (omega (arith, H.few-names))) (rw free-is (omega arith)) (rw free-is room) (rw (A.fields.long, long₂) H.long-list) (rw (length-set ts (length Γ) t₁) H.long-notes)))

  pub record-top : A.free ≡ st.top + (12 + 4 * n)
  record-top = free-is

-- ---- the line's stages

-- what a line of a record says, with the fault of its type and what is known of its fields
data Comes (k : Declared) (us : Trees Run) (w : Name) (o : Option LineForm) (c : Pairs) (e : Fault) : Type 0 where
  comes-none : o ≡ none → e ≡ Form → Comes k us w o c e
  comes-made : (fs : List (Name × TypeName)) → pairs_in us ≡ some fs → o ≡ some (type_line w (Syntax.record_of fs)) → e ≡ cond (pairs_good k.env fs) Clear fault.Name
      → (length fs ≤ 1000 → c.names ≡ length fs) → (1000 < length fs → c.names ≡ 1000)
      → (pairs_good k.env fs ≡ true → (gs : List (Name × ℕ)) → resolve k.env fs ≡ some gs → Tracks c.size (field_sizes k.env.types gs)) → Comes k us w o c e

no-form : {X : Type 0} (b : Bool) → cond b Clear fault.Name ≡ Form → X
no-form true e = absurd (let z : ◌≡◌ {A = ℕ} 0 1 = cc in omega arith)
no-form false e = absurd (let z : ◌≡◌ {A = ℕ} 0 1 = cc in omega arith)

count-few : (n m : ℕ) → (m ≤ 1000 → n ≡ m) → (1000 < m → n ≡ 1000) → leb n 16 ≡ leb m 16
count-few n m h g = go (dec_lt 1000 m)
  where
    go : Dec (1000 < m) → leb n 16 ≡ leb m 16
    go (yes i) = rw (g i, lt-leb m 16 (omega arith)) refl
    go (no i) = rw (h (omega arith)) refl

tracks-few : (n t : ℕ) → Tracks n t → leb n 2048 ≡ leb t 2048
tracks-few n t T = go (dec_lt 2048 t)
  where
    go : Dec (2048 < t) → leb n 2048 ≡ leb t 2048
    go (yes i) = rw (lt-leb t 2048 i, lt-leb n 2048 (T.past i)) refl
    go (no i) = rw (T.exact (omega arith)) refl

module _ (s : List ℕ) (p at : ℕ) (k : Declared) where
  abbrev us : Trees Run
  us = first (stack_at s at)

  abbrev we : Name
  we = map small (word_at s p)

  abbrev after : Option LineForm
  after = made_after we (record_in us) (first (later (stack_at s at)))

  none_after : record_in us ≡ none → after ≡ none
  unfolding made_after
  none_after h = bound-none (record_in us) (λ (t : TypeForm). closed (first (later (stack_at s at))) (type_line we t)) h

  no_fields : pairs_in us ≡ none → record_in us ≡ none
  unfolding ◌>>=◌
  no_fields h = record-parts us ∙ rw h refl

  empty-fields : pairs_in us ≡ some [] → record_in us ≡ none
  unfolding ◌>>=◌ some?
  empty-fields h = record-parts us ∙ rw h refl

  some-fields : (f : Name × TypeName) (fs : List (Name × TypeName)) → pairs_in us ≡ some (f ∷ fs) → record_in us ≡ some (Syntax.record_of (f ∷ fs))
  unfolding ◌>>=◌ some?
  some-fields f fs h = record-parts us ∙ rw h refl

  comes : (c : Pairs) → PairsTold s k.env at c → (h : Fault) → h ≡ c.fault → (e : Fault) → EndFault s h c.next e → Comes k us we after c e
  unfolding made_after closed ◌>>=◌
  comes c (pairs-wrong a x) h q e E = comes-none (none_after (no_fields x)) (form-end s h c.next e (q ∙ a) E)
  comes c (pairs-empty a x) h q e E = comes-none (none_after (empty-fields x)) (form-end s h c.next e (q ∙ a) E)
  comes c (pairs-read f fs x a few full g tr) h q e (was-form i) = no-form (pairs_good k.env (f ∷ fs)) (sym g ∙ sym q ∙ i)
  comes c (pairs-read f fs x a few full g tr) h q e (before-end i d) =
      comes-none (bound-nones (record_in us) (λ (t : TypeForm). closed (first (later (stack_at s at))) (type_line we t)) (λ (t : TypeForm). more-closed (first (later (stack_at s at))) (type_line we t) (λ y. d (sym (ap first a) ∙ y)))) refl
  comes c (pairs-read f fs x a few full g tr) h q e (at-end i d) =
      let z : first (later (stack_at s at)) ≡ end = ap first a ∙ d in
      comes-made (f ∷ fs) x (rw (some-fields f fs x, z) refl) (q ∙ g) few full tr

adds_same : {s l ts : List ℕ} {st : State} {p at m m' size size' : ℕ} {r : Lined} {l' ts' : List ℕ} → m ≡ m' → size ≡ size' → AddsRecord s l ts st p at m size r l' ts' → AddsRecord s l ts st p at m' size' r l' ts'
adds_same e h A = rw (← e, ← h) A

-- ---- the ways

module _ (s l ts : List ℕ) (st : State) (p at : ℕ) (c : Pairs) (N : GivesPairs s l ts st.scope at c) (h : Fault) (hc : h ≡ c.fault) (e : Fault) (E : EndFault s h c.next e)
    (f : Fault) (n : f ≡ new_fault e (meaning_here s l st.scope p)) (b : Bool) (i : b ≡ is_clear f) where
  abbrev line : Option LineForm
  line = made_after (map small (word_at s p)) (record_in (first (stack_at s at))) (first (later (stack_at s at)))

  abbrev wl : Name
  wl = map small (word_at s p)

  abbrev here : Meaning
  here = meaning_here s l st.scope p

  module _ (k : Declared) (bs : List ℕ) (H : Holds s l ts st k bs) where
    meaning-told : Told k.env bs here (find k.env.names wl)
    meaning-told = meant H.scene wl

    come : Comes k (first (stack_at s at)) wl line c e
    come = comes s p at k c (N.says st.top k.env bs H.scene) h hc e E

    stage-fault : (S : Staged Decl) → e ≡ fault_of S → f ≡ fault_of (newly (is_known k.env wl) S (λ (d : Decl). fits (new_type wl d)))
    stage-fault S q = n ∙ ap (λ (x : Fault). new_fault x here) q ∙ decl-fault wl here meaning-told S

    line-fault : f ≡ fault_of (entry_staged k line)
    unfolding entry_staged staged
    line-fault = go come
      where
        made : (fs : List (Name × TypeName)) → line ≡ some (type_line wl (Syntax.record_of fs)) → e ≡ cond (pairs_good k.env fs) Clear fault.Name → Stage k wl fs → f ≡ fault_of (entry_staged k line)
        made fs a q (stage-old x y) = stage-fault unnamed (q ∙ ap (λ (z : Bool). cond z Clear fault.Name) x) ∙ sym (ap fault_of (ap (entry_staged k) a ∙ y))
        made fs a q (stage-fits gs _ _ x y) = stage-fault (fits (record_of gs)) (q ∙ ap (λ (z : Bool). cond z Clear fault.Name) x) ∙ sym (ap fault_of (ap (entry_staged k) a ∙ y))

        go : Comes k (first (stack_at s at)) wl line c e → f ≡ fault_of (entry_staged k line)
        go (comes-none a q) = rw a (n ∙ ap (λ (x : Fault). new_fault x here) q ∙ form-new here)
        go (comes-made fs x a q _ _ _) = made fs a q (stage-told k wl fs (good-told k.env fs))

    line_clear : b ≡ true → (fs : List (Name × TypeName)) × (gs : List (Name × ℕ)) × (pairs_in (first (stack_at s at)) ≡ some fs) × (resolve k.env fs ≡ some gs)
        × (length gs ≤ 1000 → c.names ≡ length gs) × (1000 < length gs → c.names ≡ 1000) × Tracks c.size (field_sizes k.env.types gs) × (entry_staged k line ≡ fits (new_type wl (record_of gs)))
    unfolding newly on_fits
    line_clear j = go come
      where
        clear : new_fault e here ≡ Clear
        clear = sym n ∙ clear-is f (sym i ∙ j)

        made : (fs : List (Name × TypeName)) → pairs_in (first (stack_at s at)) ≡ some fs → line ≡ some (type_line wl (Syntax.record_of fs)) → e ≡ cond (pairs_good k.env fs) Clear fault.Name
            → (length fs ≤ 1000 → c.names ≡ length fs) → (1000 < length fs → c.names ≡ 1000)
            → (pairs_good k.env fs ≡ true → (gs : List (Name × ℕ)) → resolve k.env fs ≡ some gs → Tracks c.size (field_sizes k.env.types gs)) → Stage k wl fs
            → (fs : List (Name × TypeName)) × (gs : List (Name × ℕ)) × (pairs_in (first (stack_at s at)) ≡ some fs) × (resolve k.env fs ≡ some gs)
            × (length gs ≤ 1000 → c.names ≡ length gs) × (1000 < length gs → c.names ≡ 1000) × Tracks c.size (field_sizes k.env.types gs) × (entry_staged k line ≡ fits (new_type wl (record_of gs)))
        made fs x a q few full tr (stage-old g y) =
            let z = decl-clear wl here meaning-told unnamed (sym (ap (λ (v : Fault). new_fault v here) (q ∙ ap (λ (v : Bool). cond v Clear fault.Name) g)) ∙ clear) in
            unnamed-fits z.1
        made fs x a q few full tr (stage-fits gs m len g y) =
            let z = decl-clear wl here meaning-told (fits (record_of gs)) (sym (ap (λ (v : Fault). new_fault v here) (q ∙ ap (λ (v : Bool). cond v Clear fault.Name) g)) ∙ clear) in (
              fs,
              gs,
              x,
              m,
              λ o. few (rw len at o) ∙ sym len,
              λ o. full (rw len at o),
              tr g gs m,
              ap (entry_staged k) a ∙ y ∙ ap (λ (v : Bool). newly v (fits (record_of gs)) (λ (d : Decl). fits (new_type wl d))) z.2,
            )

        go : Comes k (first (stack_at s at)) wl line c e → (fs : List (Name × TypeName)) × (gs : List (Name × ℕ)) × (pairs_in (first (stack_at s at)) ≡ some fs) × (resolve k.env fs ≡ some gs)
            × (length gs ≤ 1000 → c.names ≡ length gs) × (1000 < length gs → c.names ≡ 1000) × Tracks c.size (field_sizes k.env.types gs) × (entry_staged k line ≡ fits (new_type wl (record_of gs)))
        go (comes-none a q) = form-clear (sym (form-new here) ∙ sym (ap (λ (x : Fault). new_fault x here) q) ∙ clear)
        go (comes-made fs x a q few full tr) = made fs x a q few full tr (stage-told k wl fs (good-told k.env fs))

  pub record-failed : b ≡ false → (r : Lined) → r ≡ lined_by f false st → GivesMade s l ts st p at (record_in (first (stack_at s at))) r l ts
  record-failed j r q = rw q (record {
    gives = λ hp. record {
      below = record { at = λ _ _ _. refl };
      told = λ k bs H. failed-told s l ts st k bs (entry_staged k line) f (line-fault k bs H) (sym i ∙ j);
    };
  })

  module _ (j : b ≡ true) (v : Bool) (hv : v ≡ record_fits c.names c.size) (u : Bool) (y : u ≡ lines_fit st.lines v) where
    bounded : (k : Declared) (bs : List ℕ) → Holds s l ts st k bs → (gs : List (Name × ℕ)) → (length gs ≤ 1000 → c.names ≡ length gs) → (1000 < length gs → c.names ≡ 1000)
        → Tracks c.size (field_sizes k.env.types gs) → (v ≡ type_bounded k.env.types (record_of gs)) × (line_bounded k (new_type wl (record_of gs)) ≡ u)
    unfolding type_bounded record_fits
    bounded k bs H gs few full tr =
        let z : v ≡ type_bounded k.env.types (record_of gs) = hv ∙ rw (count-few c.names (length gs) few full, tracks-few c.size (field_sizes k.env.types gs) tr) refl in
        (z, sym (lines-bounded H wl (record_of gs) v z) ∙ sym y)

    pub record-past : u ≡ false → (r : Lined) → r ≡ lined_by Clear false st → GivesMade s l ts st p at (record_in (first (stack_at s at))) r l ts
    record-past t r q = rw q (record {
      gives = λ hp. record {
        below = record { at = λ _ _ _. refl };
        told = λ k bs H.
            let x = line_clear k bs H j in
            let z : line_bounded k (new_type wl (record_of x.1)) ≡ false = (bounded k bs H x.1 x.4 x.5 x.6).1 ∙ t in
            subst (λ (T : Staged Entry). LineTold s st k bs T (lined_by Clear false st) l ts) (sym x.7) (record {
              fault-is = refl;
              within-is = λ z₁ a. rw (← fits-inj a) (sym z);
              holds = λ z₁ a. rw (← fits-inj a) (λ b₁ room sn nn. absurd (false≢true (sym z ∙ b₁)));
            });
      };
    })

    added-same : (m size : ℕ) (r : Lined) (l' ts' : List ℕ) → AddsRecord s l ts st p at m size r l' ts' → Same 0 st.top l' l
    added-same m size r l' ts' A =
        let t₁ = (record_named st (keyed s p) l).top in
        let l₁ = (record_named st (keyed s p) l).list in
        record {
          at = λ z a d.
              A.fields.below.at z a (omega (arith, (lay-g (type_entry st (keyed s p) st.types) st.top l).up, (lay-g (info_numbers (record_info m size)) t₁ l₁).up))
              ∙ (lay-g (info_numbers (record_info m size)) t₁ l₁).below z (omega (arith, (lay-g (type_entry st (keyed s p) st.types) st.top l).up))
              ∙ (lay-g (type_entry st (keyed s p) st.types) st.top l).below z d;
        }

    pub record-fits : u ≡ true → (r : Lined) (l' ts' : List ℕ) → AddsRecord s l ts st p at c.names c.size r l' ts' → GivesMade s l ts st p at (record_in (first (stack_at s at))) r l' ts'
    unfolding symbol_size size_decl type_state type_bounded lines_fit
    record-fits t r l' ts' A = record {
      gives = λ hp. record {
        below = added-same c.names c.size r l' ts' A;
        told = λ k bs H.
            let x = line_clear k bs H j in
            let m = entry-fits k line (new_type wl (record_of x.1)) x.7 in
            let o = bounded k bs H x.1 x.4 x.5 x.6 in
            let z : line_bounded k (new_type wl (record_of x.1)) ≡ true = o.1 ∙ t in
            let d = and-true (leb (length x.1) 16) (leb (field_sizes k.env.types x.1) 2048) (sym o.0 ∙ (and-true (leb (st.lines + 1) 64) v (sym y ∙ t)).1) in
            let n₁ : c.names ≡ length x.1 = x.4 (omega (arith, leb-true (length x.1) 16 d.0)) in
            let n₂ : c.size ≡ field_sizes k.env.types x.1 = x.6.exact (leb-true (field_sizes k.env.types x.1) 2048 d.1) in
            let B : AddsRecord s l ts st p at (length x.1) (field_sizes k.env.types x.1) r l' ts' = adds_same n₁ n₂ A in
            subst (λ (T : Staged Entry). LineTold s st k bs T r l' ts') (sym x.7) (rw B.answer (record {
              fault-is = refl;
              within-is = λ z₁ a. rw (← fits-inj a) (sym z);
              holds = λ z₁ a. rw (← fits-inj a) (λ b₁ room sn nn.
                  (record-holds H p at hp x.0 x.1 x.2 x.3 r l' ts' B m.0 m.1 m.2 b₁ room sn nn, record-top H p at hp x.0 x.1 x.2 x.3 r l' ts' B m.0 m.1 m.2 b₁ room sn nn));
            }));
      };
    }

pub ruleset record_laws = (record-failed, record-past, record-fits)
