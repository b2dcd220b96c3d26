-- `var` lines: their parts, their stages, and what is held after them.
use mathlib.Core.Path.{◌≡◌, refl, sym, ap, ◌∙◌, subst}
use mathlib.Core.Bool.{Bool, true, false, cond, ◌&&◌, not, false≢true}
use mathlib.Core.List.{List, [], ◌∷◌, ◌++◌, map}
use mathlib.Core.Option.{Option, none, some}
use Prim.Native.Nat.{ℕ, zero, suc, ◌+◌, ◌*◌, ◌-◌, ◌/◌, ◌%◌, ◌<◌, ◌≤◌}
use native.Mathlib.Nat.{mod-eq_of_lt}
use native.Mathlib.Omega.{arith}
use borrow.Author.Tests.{le-leb, lt-leb, leb-true, leb-false}
use lib.Dec.{leb}
use lib.ListN.{length, length-append}
use Rattle.leaf_bytes.specs.Bytes.{small}
use Rattle.law.specs.Base.{Name, ◌>>=◌, find, given}
use Rattle.law.specs.Ceilings.{cells_in, line_bounded, variables_in}
use Rattle.law.specs.Environment.{Declared, Environment, NameSort, a_proc, a_var, a_value, declare_line}
use Rattle.law.specs.Forms.{free, type_name, is_var}
use Rattle.law_theorems.specs.FormsByDepth.{line_by}
use Rattle.code.specs.Layout.{lay}
use Rattle.code.specs.LayoutSize.{symbol_size}
use Rattle.law.specs.Names.{type_of, is_known, listed_in, distinct, none_known, new_names, entry_of}
use Rattle.law.specs.Rules.{keeps_rules}
use Rattle.law.specs.Script.{Const, Entry, new_var}
use Rattle.rule_stages.specs.Stages as Stages
use Rattle.rule_stages.specs.Stages.{Staged, wrong, unnamed, unfit, fits, ruled, staged, on_fits, unknown}
use Rattle.law.specs.Syntax.{LineForm, TypeName, var_line}
use Rattle.law.specs.Trees.{Trees, end, ◌then◌, Run, first, list, word_at}
use Rattle.law_theorems.specs.Readings.{stack_at}
use Rattle.law.specs.Types.{Var, Vars, variable, size_of}
use Rattle.law.specs.Words.{Word, worded_all}
use Rattle.law_theorems.proofs.Inversion.{none-some, and-true}
use Rattle.code.proofs.LayoutRegions.{lay-g, lay-l}
use Rattle.code.specs.LayoutRegions.{Same, Room}
use Rattle.law_theorems.proofs.LinesKeep.{line-keeps}
use Rattle.law_theorems.specs.LinesKeep.{Keeps}
use Rattle.table_list.specs.Laid.{Laid}
use Rattle.table_names.specs.Keys.{keyed}
use Rattle.table_scope.proofs.Cells.{keeps-cells}
use Rattle.rule_faults.specs.declared.Fault.{Fault}
use Rattle.rule_faults.specs.declared.Fault.TheVariants.{Clear, Kind, Form}
use Rattle.rule_faults.specs.declared.Fault.TheVariants as fault
use Rattle.table_names.specs.Chain.{values_by}
use Rattle.table_scope.specs.declared.Info.{Info}
use Rattle.table_scope.specs.declared.Meaning.{Meaning}
use Rattle.table_scope.specs.Descriptions.{info_of}
use Rattle.table_scope.specs.Scene.{Scene, Means, a-type, a-var, a-proc, a-value, meaning_by, Told, unknown as unmeant, known, meaning_here}
use Rattle.table_scope.proofs.Kept.{scene-kept}
use Rattle.table_scope.proofs.Within.{chain-told, find-other}
use Rattle.table_scope.proofs.Telling.{meant, size-told}
use Rattle.rule_faults.specs.Got.{is_clear, lowest, fault_of}
use Rattle.text_heads.specs.Parts.{part_of, rest, closed, name_in, type_name_in}
use Rattle.text_heads.proofs.Walks.{bind-cong, bind_assoc, two_then}
use Rattle.rule_atoms.specs.declared.Typed.{Typed}
use Rattle.rule_atoms.specs.Answering.{TypeTold}
use Rattle.rule_atoms.proofs.Telling.{fits-inj, wrong-fits, unnamed-fits, unfit-fits}
use Rattle.rule_declarations.specs.State.{scoped, Holds, with_names, with_var}
use Rattle.rule_declarations.specs.Names.{new_fault, last_type, GivesLastType, GivesName}
use Rattle.rule_declarations.specs.Lines.{line_of, entry_staged, newly, lined_by, LineTold, GivesLine}
use Rattle.rule_declarations.specs.Vars.{var_after, vars_held, cells_held, vars_fit, var_entry, var_state, AddsVar, var-fits, var-past, GivesVar}
use Rattle.rule_declarations.specs.declared.State.{State}
use Rattle.rule_declarations.specs.declared.Lined.{Lined}
use Rattle.rule_declarations.specs.declared.FreeName.{FreeName}
use Rattle.std.specs.Prelude.{Option as Maybe, Some, None}
use Rattle.rule_declarations.proofs.Growing.{Chained, holds-chained, chained-env, chained_more, laid_same}

-- ---- the parts

pub closed-map : {A B : Type 0} (f : A → B) (vs : Trees Run) (a : A) → (closed vs a >>= λ (x : A). some (f x)) ≡ closed vs (f a)
unfolding closed ◌>>=◌
closed-map f end a = refl
closed-map f (u then vs) a = refl

pub var-parts : (n : ℕ) (us : Trees Run) → line_of is_var n us ≡ (name_in us >>= λ (w : Name). var_after w (rest us))
unfolding line_of line_by var_after name_in type_name_in
var-parts n us =
    sym (bind_assoc (worded_all us) (λ (vs : Trees Word). line_by is_var n (list vs)) (λ (p : LineForm × ℕ). some p.0))
    ∙ ap (λ (o : Option (LineForm × ℕ)). o >>= λ (p : LineForm × ℕ). some p.0) (two_then free type_name (λ (w : Name) (t : TypeName). (var_line w t, n)) us)
    ∙ bind_assoc (part_of us >>= free) (λ (w : Name). (part_of (rest us) >>= type_name) >>= λ (t : TypeName). closed (rest (rest us)) (var_line w t, n)) (λ (p : LineForm × ℕ). some p.0)
    ∙ bind-cong (part_of us >>= free) (λ (w : Name).
    bind_assoc (part_of (rest us) >>= type_name) (λ (t : TypeName). closed (rest (rest us)) (var_line w t, n)) (λ (p : LineForm × ℕ). some p.0)
    ∙ bind-cong (part_of (rest us) >>= type_name) (λ (t : TypeName). closed-map (λ (p : LineForm × ℕ). p.0) (rest (rest us)) (var_line w t, n)))

-- by the last part
after_last : (w : Name) (us : Trees Run) → var_after w us ≡ (last_type us >>= λ (t : TypeName). some (var_line w t))
unfolding var_after last_type
after_last w us =
    bind-cong (type_name_in us) (λ (t : TypeName). sym (closed-map (λ (x : TypeName). var_line w x) (rest us) t))
    ∙ sym (bind_assoc (type_name_in us) (λ (t : TypeName). closed (rest us) t) (λ (t : TypeName). some (var_line w t)))

-- ---- a line of one type: F makes the line, E the entry, and the name w is new

pub new-one : (σ : Environment) (w : Name) → new_names σ (w ∷ []) ≡ not (is_known σ w)
unfolding new_names distinct none_known listed_in
new-one σ w = go (is_known σ w)
  where
    go : (b : Bool) → (not b && true) ≡ not b
    go true = refl
    go false = refl

module _ (k : Declared) (w : Name) (F : TypeName → LineForm) (E : ℕ → Entry)
    (h_e : (t : TypeName) → entry_of k.env (F t) ≡ (type_of k.env t >>= λ (n : ℕ). given (new_names k.env (w ∷ [])) (E n))) where
  pub one-staged : (o : Option TypeName) → entry_staged k (o >>= λ (t : TypeName). some (F t))
      ≡ newly (is_known k.env w) (staged o (type_of k.env) (λ _. true) some) (λ (n : ℕ). ruled (keeps_rules k.env.types (E n)) (some (E n)))
  unfolding entry_staged staged Stages.named ruled newly unknown on_fits ◌>>=◌ given
  one-staged none = wrongs (is_known k.env w)
    where
      wrongs : (b : Bool) → wrong ≡ newly {A = ℕ} b wrong (λ (n : ℕ). ruled (keeps_rules k.env.types (E n)) (some (E n)))
      wrongs true = refl
      wrongs false = refl
  one-staged (some t) = rw (h_e t, new-one k.env w) (go (type_of k.env t) (is_known k.env w))
    where
      go : (o : Option ℕ) (b : Bool) → Stages.named (o >>= λ (n : ℕ). given (not b) (E n)) (keeps_rules k.env.types) some
          ≡ newly b (Stages.named o (λ _. true) some) (λ (n : ℕ). ruled (keeps_rules k.env.types (E n)) (some (E n)))
      go none true = refl
      go none false = refl
      go (some n) true = refl
      go (some n) false = refl

-- ---- faults

pub clear-is : (f : Fault) → is_clear f ≡ true → f ≡ Clear
clear-is Clear e = refl
clear-is Kind e = absurd (false≢true e)
clear-is fault.Name e = absurd (false≢true e)
clear-is Form e = absurd (false≢true e)

pub lowest-name : {X : Type 0} (f : Fault) → lowest f fault.Name ≡ Clear → X
lowest-name Clear e = absurd (let z : ◌≡◌ {A = ℕ} 0 1 = cc in omega arith)
lowest-name Kind e = absurd (let z : ◌≡◌ {A = ℕ} 0 1 = cc in omega arith)
lowest-name fault.Name e = absurd (let z : ◌≡◌ {A = ℕ} 0 1 = cc in omega arith)
lowest-name Form e = absurd (let z : ◌≡◌ {A = ℕ} 0 1 = cc in omega arith)

pub fits-clear : {A : Type 0} (S : Staged A) → fault_of S ≡ Clear → (a : A) × (S ≡ fits a)
fits-clear wrong e = absurd (let z : ◌≡◌ {A = ℕ} 0 1 = cc in omega arith)
fits-clear unnamed e = absurd (let z : ◌≡◌ {A = ℕ} 0 1 = cc in omega arith)
fits-clear unfit e = absurd (let z : ◌≡◌ {A = ℕ} 0 1 = cc in omega arith)
fits-clear (fits a) e = (a, refl)

-- the fault of a new name: whether it is known
pub fault-new : {σ : Environment} {bs : List ℕ} (w : Name) (f : Fault) (m : Meaning) → Told σ bs m (find σ.names w) → new_fault f m ≡ cond (is_known σ w) (lowest f fault.Name) f
unfolding is_known
fault-new {σ} {bs} w f m T = go (find σ.names w) m T
  where
    go : (o : Option NameSort) (m : Meaning) → Told σ bs m o → new_fault f m ≡ cond (elim o [ none ↦ false | some m ↦ true ]) (lowest f fault.Name) f
    go _ _ unmeant = refl
    go _ _ (known a-type) = refl
    go _ _ (known (a-var v e)) = refl
    go _ _ (known a-proc) = refl
    go _ _ (known a-value) = refl

pub fault-unknown : {A : Type 0} (B : Type 0) (S : Staged A) → lowest (fault_of S) fault.Name ≡ fault_of (unknown {B = B} S)
unfolding unknown
fault-unknown B wrong = refl
fault-unknown B unnamed = refl
fault-unknown B unfit = refl
fault-unknown B (fits a) = refl

-- what fits has a form and an entry that keeps its rules
pub entry-fits : (k : Declared) (o : Option LineForm) (x : Entry) → entry_staged k o ≡ fits x → (f : LineForm) × (entry_of k.env f ≡ some x) × (keeps_rules k.env.types x ≡ true)
unfolding entry_staged staged Stages.named ruled
entry-fits k none x h = wrong-fits h
entry-fits k (some f) x h = go (entry_of k.env f) refl h
  where
    last : (t : Bool) (y : Entry) → keeps_rules k.env.types y ≡ t → entry_of k.env f ≡ some y → ruled t (some y) ≡ fits x → (f : LineForm) × (entry_of k.env f ≡ some x) × (keeps_rules k.env.types x ≡ true)
    last true y i e g = let z : y ≡ x = fits-inj g in rw (← z) (f, e, i)
    last false y i e g = unfit-fits g

    go : (o : Option Entry) → entry_of k.env f ≡ o → Stages.named o (keeps_rules k.env.types) some ≡ fits x → (f : LineForm) × (entry_of k.env f ≡ some x) × (keeps_rules k.env.types x ≡ true)
    go none e g = unnamed-fits g
    go (some y) e g = last (keeps_rules k.env.types y) y refl e g

-- a fault of rows 6 to 8: nothing is held anew
pub failed-told : (s l ts : List ℕ) (st : State) (k : Declared) (bs : List ℕ) (S : Staged Entry) (f : Fault) → f ≡ fault_of S → is_clear f ≡ false
    → LineTold s st k bs S (lined_by f false st) l ts
failed-told s l ts st k bs S f e c = record {
  fault-is = e;
  within-is = λ x h. absurd (no x h);
  holds = λ x h. absurd (no x h);
}
  where
    no : (x : Entry) → S ≡ fits x → ⊥
    no x h = let g : f ≡ Clear = e ∙ ap fault_of h in false≢true (sym c ∙ ap is_clear g)

-- ---- one type and a new name, with no rule of row 8

module _ {σ : Environment} {bs : List ℕ} (w : Name) (m : Meaning) (T : Told σ bs m (find σ.names w)) (S : Staged ℕ) (E : ℕ → Entry) where
  -- the fault of the line
  pub plain-fault : new_fault (fault_of S) m ≡ fault_of (newly (is_known σ w) S (λ (n : ℕ). fits (E n)))
  unfolding newly on_fits
  plain-fault = fault-new w (fault_of S) m T ∙ go (is_known σ w) S
    where
      go : (b : Bool) (S : Staged ℕ) → cond b (lowest (fault_of S) fault.Name) (fault_of S) ≡ fault_of (newly b S (λ (n : ℕ). fits (E n)))
      go true S = fault-unknown Entry S
      go false wrong = refl
      go false unnamed = refl
      go false unfit = refl
      go false (fits n) = refl

  -- with no fault the name is new and the type known
  pub plain-clear : new_fault (fault_of S) m ≡ Clear → (n : ℕ) × (S ≡ fits n) × (is_known σ w ≡ false)
  plain-clear h = go (is_known σ w) (sym (fault-new w (fault_of S) m T) ∙ h)
    where
      go : (b : Bool) → cond b (lowest (fault_of S) fault.Name) (fault_of S) ≡ Clear → (n : ℕ) × (S ≡ fits n) × (b ≡ false)
      go true e = lowest-name (fault_of S) e
      go false e = let x = fits-clear S e in (x.0, x.1, refl)

-- ---- a new variable

-- the last of the variables; the others stay
var-last : (Δ : Vars) (u : Var) → variable (Δ ++ (u ∷ [])) (length Δ) ≡ some u
var-last [] u = refl
var-last (x ∷ Δ) u = var-last Δ u

var-old : (Δ : Vars) (u v : Var) (i : ℕ) → variable Δ i ≡ some v → variable (Δ ++ (u ∷ [])) i ≡ some v
var-old [] u v i h = none-some h
var-old (x ∷ Δ) u v zero h = h
var-old (x ∷ Δ) u v (suc i) h = var-old Δ u v i h

means-old : {σ σ' : Environment} {bs : List ℕ} (u : Var) → σ'.vars ≡ σ.vars ++ (u ∷ []) → (x : Meaning) (m : NameSort) → Means σ bs x m → Means σ' bs x m
means-old u e _ _ a-type = a-type
means-old {σ} u e _ _ (a-var {i} v h) = a-var {i = i} v (ap (λ (Δ : Vars). variable Δ i) e ∙ var-old σ.vars u v i h)
means-old u e _ _ a-proc = a-proc
means-old u e _ _ a-value = a-value

-- the numbers of its entry
var-means : (σ : Environment) (bs : List ℕ) (i kind base : ℕ) → kind < 128 → variable σ.vars i ≡ some (record { type = kind; base = base })
    → Means σ bs (meaning_by (1 + 4 * i) (kind + 128 * base)) (a_var i)
unfolding meaning_by
var-means σ bs i kind base l h =
    let a : (1 + 4 * i) % 4 ≡ 1 = omega arith in
    let b : (1 + 4 * i) / 4 ≡ i = omega arith in
    let c : (kind + 128 * base) % 128 ≡ kind = omega arith in
    let d : (kind + 128 * base) / 128 ≡ base = omega arith in
    rw (a, b, c, d) (a-var (record { type = kind; base = base }) h)

none-behind : (i more : ℕ) → values_by (1 + 4 * i) more ≡ 0
unfolding values_by
none-behind i more = let a : (1 + 4 * i) % 4 ≡ 1 = omega arith in rw a refl

-- a name that is no value leaves values their names
pub value-find : (w v : Name) (m : NameSort) (ns : List (Name × NameSort)) (c : Const) → ((c : Const) → m ≡ a_value c → ⊥) → find ((w, m) ∷ ns) v ≡ some (a_value c) → find ns v ≡ some (a_value c)
value-find w v m ns c n h = find-other w v m (a_value c) ns (n c) h

-- and one that is no procedure leaves procedures theirs
var-proc : (i q : ℕ) (us : List ℕ) → a_var i ≡ a_proc q us → ⊥
var-proc i q us h = let z : ◌≡◌ {A = ℕ} 0 1 = cc in omega arith

var-value : (i : ℕ) (c : Const) → a_var i ≡ a_value c → ⊥
var-value i c h = let z : ◌≡◌ {A = ℕ} 0 1 = cc in omega arith

module _ {s l ts : List ℕ} {st : State} {k : Declared} {bs : List ℕ} (H : Holds s l ts st k bs) where
  pub vars-held : vars_held st ≡ variables_in k
  vars-held =
      let a : st.vars % 256 ≡ st.vars = mod-eq_of_lt (omega (arith, H.few-vars)) in
      let b : st.parameters % 256 ≡ st.parameters = mod-eq_of_lt (omega (arith, H.few-parameters)) in
      rw (a, b, H.vars-are, H.parameters-are) refl

  pub cells-held : cells_held st ≡ cells_in k
  cells-held =
      let a : st.cells % 4096 ≡ st.cells = mod-eq_of_lt (omega (arith, H.few-cells)) in
      let b : st.parameters % 256 ≡ st.parameters = mod-eq_of_lt (omega (arith, H.few-parameters)) in
      rw (a, b, H.cells_are, H.parameters-are) refl

module _ {s l ts : List ℕ} {st : State} {k : Declared} {bs : List ℕ} (H : Holds s l ts st k bs) (p kind : ℕ) (hp : p < length s) where
  abbrev wp : Name
  wp = map small (word_at s p)

  abbrev size : ℕ
  size = (info_of l ts kind).size

  abbrev lp : List ℕ
  lp = (lay (var_entry st (keyed s p) kind) st.top l).list

  -- row 9
  var-bounded : vars_fit st 1 size ≡ line_bounded k (new_var wp kind)
  unfolding vars_fit line_bounded
  var-bounded =
      let e : vars_held st + 1 ≡ suc (variables_in k) = omega (arith, vars-held H) in
      rw (e, cells-held H, size-told H.scene kind) refl

  module _ (f : LineForm) (e : entry_of k.env f ≡ some (new_var wp kind)) (b : line_bounded k (new_var wp kind) ≡ true) (room : st.top + 4 ≤ 16384) (sn nn : ℕ) where
    abbrev k' : Declared
    k' = declare_line k (new_var wp kind) sn nn

    var-keeps : Keeps k'
    unfolding keeps_rules
    var-keeps = line-keeps k H.keeps f (new_var wp kind) e refl b sn nn

    var-low : st.vars < 128
    unfolding line_bounded
    var-low = let x = leb-true (suc (variables_in k)) 128 (and-true (leb (suc (variables_in k)) 128) (leb (cells_in k + size_of k.env.types kind) 2048) b).0 in omega (arith, H.vars-are)

    cells_low : length k.cells + size_of k.env.types kind ≤ 2048
    unfolding line_bounded
    cells_low = let x = leb-true (cells_in k + size_of k.env.types kind) 2048 (and-true (leb (suc (variables_in k)) 128) (leb (cells_in k + size_of k.env.types kind) 2048) b).1 in omega arith

    kind-low : kind < 128
    unfolding declare_line
    kind-low =
        let x : kind < length k.env.types = var-keeps.typed (length k.env.vars) (record { type = kind; base = length k.cells }) (var-last k.env.vars (record { type = kind; base = length k.cells })) in
        omega (arith, H.types_are, H.few-types, H.few-lines)

    entry-is : var_entry st (keyed s p) kind ≡ keyed s p ∷ (1 + 4 * length k.env.vars) ∷ (kind + 128 * length k.cells) ∷ st.scope.newest ∷ []
    unfolding var_entry
    entry-is =
        let y : st.vars % 128 ≡ length k.env.vars = mod-eq_of_lt var-low ∙ H.vars-are in
        let z : st.cells % 4096 ≡ length k.cells = mod-eq_of_lt (omega (arith, H.few-cells)) ∙ H.cells_are in
        let v : kind % 128 ≡ kind = mod-eq_of_lt kind-low in
        rw (y, z, v) refl

    top-is : (lay (var_entry st (keyed s p) kind) st.top l).top ≡ st.top + 4
    top-is = rw entry-is ((lay-l (keyed s p ∷ (1 + 4 * length k.env.vars) ∷ (kind + 128 * length k.cells) ∷ st.scope.newest ∷ []) st.top l).top-is room)

    var-room : Room 4 st.top l
    var-room = record { start = H.start; fits = room; long = H.long-list }

    var-chained : Chained s lp (scoped (suc st.scope.count) st.top) (st.top + 4) k'.env bs ((wp, a_var (length k.env.vars)) ∷ k.env.names)
    unfolding declare_line
    var-chained = subst (λ (ns : List ℕ). Chained s (lay ns st.top l).list (scoped (suc st.scope.count) st.top) (st.top + 4) k'.env bs ((wp, a_var (length k.env.vars)) ∷ k.env.names)) (sym entry-is) (chained_more p (1 + 4 * length k.env.vars) (kind + 128 * length k.cells) (a_var (length k.env.vars)) (none-behind (length k.env.vars) (kind + 128 * length k.cells)) (omega (arith, H.short-text)) var-room
        (var-means k'.env bs (length k.env.vars) kind (length k.cells) kind-low (var-last k.env.vars (record { type = kind; base = length k.cells })))
        (chained-env {σ' = k'.env} (means-old (record { type = kind; base = length k.cells }) refl) (holds-chained H)))

    var-same : Same 0 st.top lp l
    var-same = laid_same (var_entry st (keyed s p) kind) st.top l lp refl

    var-scene : Scene s lp ts (scoped (suc st.scope.count) st.top) (st.top + 4) k'.env bs
    unfolding declare_line
    var-scene =
        let K = scene-kept {top' = st.top + 4} H.scene var-same (omega arith) in
        record {
          names = chain-told (scoped (suc st.scope.count) st.top) refl var-chained.below var-chained.names;
          below = var-chained.below;
          types = K.types;
          described = K.described;
          table = K.table;
          fair = rw H.bodies-are var-keeps.names;
          fieldless = K.fieldless;
          cells = keeps-cells k' var-keeps;
          above = λ v c g. K.above v c (value-find wp v (a_var (length k.env.vars)) k.env.names c (var-value (length k.env.vars)) g);
          once = λ v w c g h. K.once v w c
              (value-find wp v (a_var (length k.env.vars)) k.env.names c (var-value (length k.env.vars)) g)
              (value-find wp w (a_var (length k.env.vars)) k.env.names c (var-value (length k.env.vars)) h);
          frames = λ w q us g. K.frames w q us (find-other wp w (a_var (length k.env.vars)) (a_proc q us) k.env.names (var-proc (length k.env.vars) q us) g);
        }

    pub var-holds : Holds s lp ts (var_state st size (lay (var_entry st (keyed s p) kind) st.top l).top) k' bs
    unfolding var_state declare_line
    var-holds =
        let a : st.scope.count % 65536 ≡ st.scope.count = mod-eq_of_lt (omega (arith, H.few-names, H.low)) in
        let c : st.scope.count % 65536 + 1 ≡ suc st.scope.count = rw a (omega arith) in
        let v : st.vars % 128 ≡ st.vars = mod-eq_of_lt var-low in
        let z : st.cells % 4096 ≡ st.cells = mod-eq_of_lt (omega (arith, H.few-cells)) in
        let y : size % 4096 ≡ size_of k.env.types kind = ap (λ n. n % 4096) (size-told H.scene kind) ∙ mod-eq_of_lt (omega (arith, cells_low)) in
        record {
          scene = rw (c, top-is) var-scene;
          names = rw c var-chained.names;
          plain = refl;
          keeps = var-keeps;
          types_are = H.types_are;
          lines_are = H.lines_are;
          vars-are = rw (v, length-append) (omega (arith, H.vars-are));
          cells_are = rw (z, y, length-append) (omega (arith, H.cells_are));
          procs-are = H.procs-are;
          parameters-are = H.parameters-are;
          bodies-are = H.bodies-are;
          few-types = H.few-types;
          few-lines = H.few-lines;
          few-vars = rw v (omega (arith, var-low));
          few-cells = rw (z, y) (omega (arith, H.cells_are, cells_low));
          few-parameters = H.few-parameters;
          small-types = H.small-types;
          few-names = rw (c, top-is) (omega (arith, H.few-names));
          start = rw top-is (omega arith);
          low = rw top-is (omega arith);
          long-list = rw (lay-g (var_entry st (keyed s p) kind) st.top l).long H.long-list;
          long-notes = H.long-notes;
          short-text = H.short-text;
        }

-- ---- the ways through the functions

-- `vars_fit`
module _ (st : State) (n size : ℕ) where
  pub fits_more : 128 < n → false ≡ vars_fit st n size
  unfolding vars_fit
  fits_more h = rw (lt-leb (vars_held st + n) 128 (omega arith)) refl

  module _ (h : n ≤ 128) (v : ℕ) (e : v ≡ vars_held st) where
    pub fits-many : 128 - n < v → false ≡ vars_fit st n size
    unfolding vars_fit
    fits-many g = rw (← e, lt-leb (v + n) 128 (omega arith)) refl

    module _ (g : v ≤ 128 - n) where
      pub fits-large : 2048 < size → false ≡ vars_fit st n size
      unfolding vars_fit
      fits-large i = rw (← e, le-leb (v + n) 128 (omega arith), lt-leb (cells_held st + size) 2048 (omega arith)) refl

      pub fits-is : size ≤ 2048 → (c : ℕ) → c ≡ cells_held st → leb c (2048 - size) ≡ vars_fit st n size
      unfolding vars_fit
      fits-is i c f = rw (← e, ← f, le-leb (v + n) 128 (omega arith)) (go (leb c (2048 - size)) refl)
        where
          go : (b : Bool) → leb c (2048 - size) ≡ b → b ≡ leb (c + size) 2048
          go true e = let x = leb-true c (2048 - size) e in sym (le-leb (c + size) 2048 (omega arith))
          go false e = let x = leb-false c (2048 - size) e in sym (lt-leb (c + size) 2048 (omega arith))

pub ruleset fits_laws = (fits_more, fits-many, fits-large, fits-is)

-- `var_state`
pub state_is : (st a b : State) (size top : ℕ) → a ≡ with_names st 1 st.top top → b ≡ with_var a size → b ≡ var_state st size top
unfolding var_state
state_is st a b size top e f = f ∙ ap (λ (x : State). with_var x size) e

-- `lay_var`
pub var_laid : (st : State) (name kind : ℕ) (l : List ℕ) (r : ℕ) (l' : List ℕ)
    → Laid (lay (name ∷ (1 + 4 * (st.vars % 128)) ∷ (kind % 128 + 128 * (st.cells % 4096)) ∷ st.scope.newest ∷ []) st.top l) r l'
    → Laid (lay (var_entry st name kind) st.top l) r l'
unfolding var_entry
var_laid st name kind l r l' L = L

-- `add_var`
module _ (l ts : List ℕ) (st : State) (name kind : ℕ) (x : Info) (e : x ≡ info_of l ts kind) (b : Bool) (g : b ≡ vars_fit st 1 x.size) where
  pub adds-fits : b ≡ true → (t : ℕ) (l' : List ℕ) → Laid (lay (var_entry st name kind) st.top l) t l' → (st' : State) → st' ≡ var_state st x.size t
      → (r : Lined) → r ≡ lined_by Clear true st' → AddsVar l ts st name kind r l'
  adds-fits h t l' L st' i r j =
      let a : vars_fit st 1 (info_of l ts kind).size ≡ true = ap (λ (y : Info). vars_fit st 1 y.size) (sym e) ∙ sym g ∙ h in
      rw (j, i, L.free, L.left, e) (var-fits a)

  pub adds-past : b ≡ false → (r : Lined) → r ≡ lined_by Clear false st → AddsVar l ts st name kind r l
  adds-past h r j =
      let a : vars_fit st 1 (info_of l ts kind).size ≡ false = ap (λ (y : Info). vars_fit st 1 y.size) (sym e) ∙ sym g ∙ h in
      rw j (var-past a)

pub ruleset adds_laws = (adds-fits, adds-past)

-- a variable with no fault: row 9 decides
added-told : (s l ts : List ℕ) (st : State) (p kind : ℕ) (r : Lined) (l' : List ℕ) → p < length s → AddsVar l ts st (keyed s p) kind r l'
    → (k : Declared) (bs : List ℕ) → Holds s l ts st k bs → (f : LineForm) → entry_of k.env f ≡ some (new_var (map small (word_at s p)) kind)
    → LineTold s st k bs (fits (new_var (map small (word_at s p)) kind)) r l' ts
unfolding symbol_size var_state
added-told s l ts st p kind _ _ hp (var-fits h) k bs H f e = record {
  fault-is = refl;
  within-is = λ x i. rw (← fits-inj i) (sym h ∙ var-bounded H p kind hp);
  holds = λ x i. rw (← fits-inj i) (λ b room sn nn. (var-holds H p kind hp f e b room sn nn, top-is H p kind hp f e b room sn nn));
}
added-told s l ts st p kind _ _ hp (var-past h) k bs H f e = record {
  fault-is = refl;
  within-is = λ x i. rw (← fits-inj i) (sym h ∙ var-bounded H p kind hp);
  holds = λ x i. rw (← fits-inj i) (λ b room sn nn. absurd (false≢true (sym h ∙ var-bounded H p kind hp ∙ b)));
}

added-below : (l ts : List ℕ) (st : State) (name kind : ℕ) (r : Lined) (l' : List ℕ) → AddsVar l ts st name kind r l' → Same 0 st.top l' l
added-below l ts st name kind _ _ (var-fits h) = laid_same (var_entry st name kind) st.top l _ refl
added-below l ts st name kind _ _ (var-past h) = record { at = λ _ _ _. refl }

-- `var_after`
module _ (s l ts : List ℕ) (st : State) (p at : ℕ) (t : Typed) (G : GivesLastType s l st.scope at t)
    (g : Fault) (d : g ≡ t.fault) (f : Fault) (e : f ≡ new_fault g (meaning_here s l st.scope p)) (b : Bool) (i : b ≡ is_clear f) where
  abbrev w : Name
  w = map small (word_at s p)

  abbrev us : Trees Run
  us = first (stack_at s at)

  module _ (k : Declared) (bs : List ℕ) (H : Holds s l ts st k bs) where
    abbrev S : Staged ℕ
    S = staged (last_type us) (type_of k.env) (λ _. true) some

    told : TypeTold S t
    told = G.says ts st.top k.env bs H.scene

    meaning-told : Told k.env bs (meaning_here s l st.scope p) (find k.env.names w)
    meaning-told = meant H.scene w

    f-is : f ≡ new_fault (fault_of S) (meaning_here s l st.scope p)
    f-is = e ∙ ap (λ (x : Fault). new_fault x (meaning_here s l st.scope p)) (d ∙ told.fault-is)

    staged-is : entry_staged k (var_after w us) ≡ newly (is_known k.env w) S (λ (n : ℕ). fits (new_var w n))
    unfolding keeps_rules ruled entry_of
    staged-is = ap (entry_staged k) (after_last w us) ∙ one-staged k w (λ (x : TypeName). var_line w x) (λ (n : ℕ). new_var w n) (λ x. refl) (last_type us)

  pub after-fault : b ≡ false → (r : Lined) → r ≡ lined_by f false st → GivesVar s l ts st p at r l
  after-fault j r c = rw c (record {
    gives = λ hp. record {
      below = record { at = λ _ _ _. refl };
      told = λ k bs H. failed-told s l ts st k bs (entry_staged k (var_after w us)) f
          (f-is k bs H ∙ plain-fault w _ (meaning-told k bs H) (S k bs H) (λ (n : ℕ). new_var w n) ∙ ap fault_of (sym (staged-is k bs H)))
          (sym i ∙ j);
    };
  })

  pub after-clear : b ≡ true → (name : ℕ) → name ≡ keyed s p → (r : Lined) (l' : List ℕ) → AddsVar l ts st name t.kind r l' → GivesVar s l ts st p at r l'
  unfolding newly on_fits
  after-clear j name c r l' A = record {
    gives = λ hp. record {
      below = added-below l ts st name t.kind r l' A;
      told = λ k bs H.
          let x = plain-clear w _ (meaning-told k bs H) (S k bs H) (λ (n : ℕ). new_var w n) (sym (f-is k bs H) ∙ clear-is f (sym i ∙ j)) in
          let n : t.kind ≡ x.0 = (told k bs H).kind-is x.0 x.1 in
          let z : entry_staged k (var_after w us) ≡ fits (new_var w t.kind) =
          staged-is k bs H ∙ ap (λ (c : Bool). newly c (S k bs H) (λ (n : ℕ). fits (new_var w n))) x.2
          ∙ ap (λ (T : Staged ℕ). newly false T (λ (n : ℕ). fits (new_var w n))) x.1 ∙ ap (λ (n : ℕ). fits (new_var w n)) (sym n) in
          let y = entry-fits k (var_after w us) (new_var w t.kind) z in
          subst (λ (T : Staged Entry). LineTold s st k bs T r l' ts) (sym z) (added-told s l ts st p t.kind r l' hp (rw c at A) k bs H y.0 y.1);
    };
  }

pub ruleset after_laws = (after-fault, after-clear)

-- `var_line`
module _ (s l ts : List ℕ) (st : State) (at : ℕ) (n : Maybe FreeName) (N : GivesName s at n) where
  pub line-called : (m : FreeName) → n ≡ Some m → (r : Lined) (l' : List ℕ) → GivesVar s l ts st m.at m.next r l'
      → GivesLine s l ts st (line_of is_var 0 (first (stack_at s at))) r l' ts
  unfolding ◌>>=◌
  line-called m e r l' G =
      let g = rw e at N.says in
      let z : line_of is_var 0 (first (stack_at s at)) ≡ var_after (map small (word_at s m.at)) (first (stack_at s m.next)) =
      var-parts 0 (first (stack_at s at)) ∙ ap (λ (o : Option Name). o >>= λ (w : Name). var_after w (rest (first (stack_at s at)))) g.2
      ∙ ap (λ (us : Trees Run). var_after (map small (word_at s m.at)) (rest us)) g.0.leaf.here in
      rw z (G.gives g.1)

  pub line-nothing : n ≡ None → (r : Lined) → r ≡ lined_by Form false st → GivesLine s l ts st (line_of is_var 0 (first (stack_at s at))) r l ts
  unfolding ◌>>=◌ entry_staged staged
  line-nothing e r f =
      let g : name_in (first (stack_at s at)) ≡ none = rw e at N.says in
      let z : line_of is_var 0 (first (stack_at s at)) ≡ none = var-parts 0 (first (stack_at s at)) ∙ ap (λ (o : Option Name). o >>= λ (w : Name). var_after w (rest (first (stack_at s at)))) g in
      rw (f, z) (record { below = record { at = λ _ _ _. refl }; told = λ k bs H. failed-told s l ts st k bs wrong Form refl refl })

pub ruleset var_line_laws = (line-called, line-nothing)
