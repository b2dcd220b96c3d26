-- `type` lines that name a type anew.
use mathlib.Core.Path.{◌≡◌, refl, sym, ap, ◌∙◌, subst}
use mathlib.Core.Bool.{Bool, true, false, false≢true}
use mathlib.Core.List.{List, [], ◌∷◌, map}
use mathlib.Core.Option.{Option, none, some}
use Prim.Native.Nat.{ℕ, suc, ◌+◌, ◌*◌, ◌%◌, ◌<◌, ◌≤◌}
use native.Mathlib.Nat.{mod-eq_of_lt}
use native.Mathlib.Omega.{arith}
use borrow.Author.Tests.{le-leb, lt-leb}
use lib.ListN.{length}
use Rattle.leaf_bytes.specs.Bytes.{small}
use Rattle.law.specs.Base.{Name, ◌>>=◌, find, given}
use Rattle.law.specs.Ceilings.{line_bounded, type_bounded}
use Rattle.law.specs.Environment.{Declared, Environment, NameSort, a_proc, a_type, declare_line, extend_types, decl_names}
use Rattle.code.specs.Layout.{lay}
use Rattle.code.specs.LayoutSize.{symbol_size, size_decl}
use Rattle.law.specs.Names.{type_of, is_known, new_names, decl_of, entry_of}
use Rattle.law.specs.Rules.{keeps_rules, kept_decl}
use Rattle.law.specs.Script.{Entry, new_type, Decl, alias}
use Rattle.rule_stages.specs.Stages.{Staged, fits, ruled, staged, on_fits}
use Rattle.law.specs.Syntax as Syntax
use Rattle.law.specs.Syntax.{LineForm, TypeName, type_line}
use Rattle.law.specs.Trees.{Trees, Run, first, word_at}
use Rattle.law_theorems.specs.Readings.{stack_at}
use Rattle.code.proofs.LayoutRegions.{lay-g, lay-l}
use Rattle.code.specs.LayoutRegions.{Same}
use Rattle.law_theorems.specs.LinesKeep.{AllFair, type, name, Keeps}
use Rattle.table_list.specs.Laid.{Laid}
use Rattle.table_names.specs.Keys.{keyed}
use Rattle.table_scope.proofs.Cells.{keeps-cells}
use Rattle.table_scope.proofs.Within.{chain-told, find-other}
use Rattle.rule_faults.specs.declared.Fault.{Fault}
use Rattle.rule_faults.specs.declared.Fault.TheVariants.{Clear}
use Rattle.table_scope.specs.declared.Info.{Info}
use Rattle.table_scope.specs.Scene.{Scene, Told, meaning_here}
use Rattle.table_scope.proofs.Kept.{scene-kept}
use Rattle.table_scope.proofs.Telling.{meant}
use Rattle.rule_faults.specs.Got.{is_clear, fault_of}
use Rattle.text_heads.specs.Parts.{rest, closed, type_name_in}
use Rattle.text_heads.proofs.Walks.{bind-cong, bind_assoc}
use Rattle.rule_atoms.specs.declared.Typed.{Typed}
use Rattle.rule_atoms.specs.Answering.{TypeTold}
use Rattle.rule_atoms.proofs.Telling.{fits-inj}
use Rattle.rule_declarations.specs.State.{scoped, Holds, with_names, with_type_line}
use Rattle.rule_declarations.specs.Names.{new_fault, last_type, GivesLastType}
use Rattle.rule_declarations.specs.Lines.{entry_staged, newly, lined_by, LineTold}
use Rattle.rule_type_lines.specs.TypeLines.{alias_after, lines_fit, type_entry, info_numbers, type_state, AddsAlias, alias-fits, alias-past, GivesAlias}
use Rattle.rule_declarations.specs.declared.State.{State}
use Rattle.rule_declarations.specs.declared.Lined.{Lined}
use Rattle.rule_declarations.proofs.Growing.{Chained, holds-chained, chained-env, chained_more, laid_same}
use Rattle.rule_declarations.proofs.VarLines.{closed-map, one-staged, clear-is, entry-fits, failed-told, plain-fault, plain-clear, value-find}
use Rattle.rule_type_lines.proofs.TypeScenes.{means-same, type-alone, type-means, type-proc, type-value, type-keeps, type-holds}

-- ---- small functions

pub lines-few : (n : ℕ) (b : Bool) → n < 64 → b ≡ lines_fit n b
unfolding lines_fit
lines-few n b h = rw (le-leb (n + 1) 64 (omega arith)) refl

pub lines-many : (n : ℕ) (b : Bool) → 64 ≤ n → false ≡ lines_fit n b
unfolding lines_fit
lines-many n b h = rw (lt-leb (n + 1) 64 (omega arith)) refl

pub ruleset lines_laws = (lines-few, lines-many)

pub type_state_is : (st a b : State) (names newest made top : ℕ) → a ≡ with_names st names newest top → b ≡ with_type_line a made → b ≡ type_state st names newest made top
unfolding type_state
type_state_is st a b names newest made top e f = f ∙ ap (λ (x : State). with_type_line x made) e

pub name-laid : (st : State) (m number : ℕ) (l : List ℕ) (r : ℕ) (l' : List ℕ)
    → Laid (lay (m ∷ (4 * (number % 128)) ∷ 0 ∷ st.scope.newest ∷ []) st.top l) r l' → Laid (lay (type_entry st m number) st.top l) r l'
unfolding type_entry
name-laid st m number l r l' L = L

pub info-laid : (x : Info) (t : ℕ) (l : List ℕ) (r : ℕ) (l' : List ℕ)
    → Laid (lay (x.shape ∷ x.host ∷ x.low ∷ x.high ∷ x.size ∷ x.index ∷ x.element ∷ x.fields ∷ []) t l) r l' → Laid (lay (info_numbers x) t l) r l'
unfolding info_numbers
info-laid x t l r l' L = L

-- ---- what is held

-- the entry of a type with a small number
pub entry-is : (st : State) (m number : ℕ) → number < 128 → type_entry st m number ≡ m ∷ (4 * number) ∷ 0 ∷ st.scope.newest ∷ []
unfolding type_entry
entry-is st m number h = let y : number % 128 ≡ number = mod-eq_of_lt h in rw y refl

-- row 9
pub lines-bounded : {s l ts : List ℕ} {st : State} {k : Declared} {bs : List ℕ} → Holds s l ts st k bs → (w : Name) (d : Decl) (b : Bool) → b ≡ type_bounded k.env.types d
    → lines_fit st.lines b ≡ line_bounded k (new_type w d)
unfolding lines_fit line_bounded
lines-bounded {k = k} H w d b e = let x : k.type_lines + 1 ≡ suc k.type_lines = omega arith in rw (H.lines_are, e, x) refl

module _ {s l ts : List ℕ} {st : State} {k : Declared} {bs : List ℕ} (H : Holds s l ts st k bs) (p kind : ℕ) (hp : p < length s)
    (f : LineForm) (e : entry_of k.env f ≡ some (new_type (map small (word_at s p)) (alias kind))) (b : line_bounded k (new_type (map small (word_at s p)) (alias kind)) ≡ true)
    (room : st.top + 4 ≤ 16384) (sn nn : ℕ) where
  abbrev wa : Name
  wa = map small (word_at s p)

  abbrev la : List ℕ
  la = (lay (type_entry st (keyed s p) kind) st.top l).list

  abbrev ka : Declared
  ka = declare_line k (new_type wa (alias kind)) sn nn

  alias-keeps : Keeps ka
  unfolding keeps_rules kept_decl
  alias-keeps = type-keeps H wa (alias kind) f e refl b sn nn

  fair-type : {ns : List (Name × NameSort)} {n : ℕ} → AllFair k.env.types n ((wa, a_type kind) ∷ ns) → kind < length k.env.types
  fair-type (name (type h) a) = h

  kind-low : kind < 128
  unfolding declare_line decl_names extend_types
  kind-low = omega (arith, fair-type alias-keeps.names, H.types_are, H.few-types, H.few-lines)

  alias-top : (lay (type_entry st (keyed s p) kind) st.top l).top ≡ st.top + 4
  alias-top = rw (entry-is st (keyed s p) kind kind-low) ((lay-l (keyed s p ∷ (4 * kind) ∷ 0 ∷ st.scope.newest ∷ []) st.top l).top-is room)

  alias-chained : Chained s la (scoped (suc st.scope.count) st.top) (st.top + 4) ka.env bs ((wa, a_type kind) ∷ k.env.names)
  unfolding declare_line
  alias-chained = subst (λ (ns : List ℕ). Chained s (lay ns st.top l).list (scoped (suc st.scope.count) st.top) (st.top + 4) ka.env bs ((wa, a_type kind) ∷ k.env.names)) (sym (entry-is st (keyed s p) kind kind-low))
      (chained_more p (4 * kind) 0 (a_type kind) (type-alone kind) (omega (arith, H.short-text)) (record { start = H.start; fits = room; long = H.long-list }) (type-means ka.env bs kind 0)
      (chained-env {σ' = ka.env} (means-same refl) (holds-chained H)))

  alias-scene : Scene s la ts (scoped (suc st.scope.count) st.top) (st.top + 4) ka.env bs
  unfolding declare_line decl_names extend_types
  alias-scene =
      let K = scene-kept {top' = st.top + 4} H.scene (laid_same (type_entry st (keyed s p) kind) st.top l la refl) (omega arith) in
      record {
        names = chain-told (scoped (suc st.scope.count) st.top) refl alias-chained.below alias-chained.names;
        below = alias-chained.below;
        types = K.types;
        described = K.described;
        table = K.table;
        fair = rw H.bodies-are alias-keeps.names;
        fieldless = K.fieldless;
        cells = keeps-cells ka alias-keeps;
        above = λ v c g. K.above v c (value-find wa v (a_type kind) k.env.names c (type-value kind) g);
        once = λ v x c g h. K.once v x c (value-find wa v (a_type kind) k.env.names c (type-value kind) g) (value-find wa x (a_type kind) k.env.names c (type-value kind) h);
        frames = λ v q us g. K.frames v q us (find-other wa v (a_type kind) (a_proc q us) k.env.names (type-proc kind q us) g);
      }

  alias-holds : Holds s la ts (type_state st 1 st.top 0 (lay (type_entry st (keyed s p) kind) st.top l).top) ka bs
  unfolding declare_line decl_names extend_types keeps_rules kept_decl
  alias-holds =
      let c : suc st.scope.count ≡ st.scope.count + 1 = omega arith in
      rw alias-top (type-holds H wa (alias kind) f e refl b sn nn 1 st.top 0 (st.top + 4) la ts (omega arith) (omega arith)
      (rw c at alias-scene) (rw c at alias-chained.names) H.small-types (omega (arith, H.few-names)) (omega arith) room (rw (lay-g (type_entry st (keyed s p) kind) st.top l).long H.long-list) H.long-notes)

-- ---- the ways

module _ (l : List ℕ) (st : State) (m kind : ℕ) (b : Bool) (g : b ≡ lines_fit st.lines true) where
  pub adds-alias : b ≡ true → (t : ℕ) (l' : List ℕ) → Laid (lay (type_entry st m kind) st.top l) t l' → (st' : State) → st' ≡ type_state st 1 st.top 0 t
      → (r : Lined) → r ≡ lined_by Clear true st' → AddsAlias l st m kind r l'
  adds-alias h t l' L st' i r j = rw (j, i, L.free, L.left) (alias-fits (sym g ∙ h))

  pub past-alias : b ≡ false → (r : Lined) → r ≡ lined_by Clear false st → AddsAlias l st m kind r l
  past-alias h r j = rw j (alias-past (sym g ∙ h))

pub ruleset add_alias_laws = (adds-alias, past-alias)

alias-told : (s l ts : List ℕ) (st : State) (p kind : ℕ) (r : Lined) (l' : List ℕ) → p < length s → AddsAlias l st (keyed s p) kind r l'
    → (k : Declared) (bs : List ℕ) → Holds s l ts st k bs → (f : LineForm) → entry_of k.env f ≡ some (new_type (map small (word_at s p)) (alias kind))
    → LineTold s st k bs (fits (new_type (map small (word_at s p)) (alias kind))) r l' ts
unfolding symbol_size size_decl type_state type_bounded
alias-told s l ts st p kind _ _ hp (alias-fits h) k bs H f e = record {
  fault-is = refl;
  within-is = λ x i. rw (← fits-inj i) (sym h ∙ lines-bounded H (map small (word_at s p)) (alias kind) true refl);
  holds = λ x i. rw (← fits-inj i) (λ b room sn nn. (alias-holds H p kind hp f e b room sn nn, alias-top H p kind hp f e b room sn nn));
}
alias-told s l ts st p kind _ _ hp (alias-past h) k bs H f e = record {
  fault-is = refl;
  within-is = λ x i. rw (← fits-inj i) (sym h ∙ lines-bounded H (map small (word_at s p)) (alias kind) true refl);
  holds = λ x i. rw (← fits-inj i) (λ b room sn nn. absurd (false≢true (sym h ∙ lines-bounded H (map small (word_at s p)) (alias kind) true refl ∙ b)));
}

alias-below : (l : List ℕ) (st : State) (m kind : ℕ) (r : Lined) (l' : List ℕ) → AddsAlias l st m kind r l' → Same 0 st.top l' l
alias-below l st m kind _ _ (alias-fits h) = laid_same (type_entry st m kind) st.top l _ refl
alias-below l st m kind _ _ (alias-past h) = record { at = λ _ _ _. refl }

alias-last : (w : Name) (us : Trees Run) → alias_after w us ≡ (last_type us >>= λ (t : TypeName). some (type_line w (Syntax.alias t)))
unfolding alias_after last_type
alias-last w us =
    bind-cong (type_name_in us) (λ (t : TypeName). sym (closed-map (λ (x : TypeName). type_line w (Syntax.alias x)) (rest us) t))
    ∙ sym (bind_assoc (type_name_in us) (λ (t : TypeName). closed (rest us) t) (λ (t : TypeName). some (type_line w (Syntax.alias t))))

alias-entry : (σ : Environment) (w : Name) (t : TypeName) → entry_of σ (type_line w (Syntax.alias t)) ≡ (type_of σ t >>= λ (n : ℕ). given (new_names σ (w ∷ [])) (new_type w (alias n)))
unfolding entry_of decl_of ◌>>=◌ given
alias-entry σ w t = go (type_of σ t) (new_names σ (w ∷ []))
  where
    go : (o : Option ℕ) (b : Bool) → ((o >>= λ (n : ℕ). given b (alias n)) >>= λ (d : Decl). some (new_type w d)) ≡ (o >>= λ (n : ℕ). given b (new_type w (alias n)))
    go none b = refl
    go (some n) true = refl
    go (some n) false = refl

module _ (s l : List ℕ) (st : State) (p at : ℕ) (t : Typed) (G : GivesLastType s l st.scope at t)
    (g : Fault) (d : g ≡ t.fault) (f : Fault) (e : f ≡ new_fault g (meaning_here s l st.scope p)) (b : Bool) (i : b ≡ is_clear f) where
  abbrev w : Name
  w = map small (word_at s p)

  abbrev us : Trees Run
  us = first (stack_at s at)

  module _ (ts : List ℕ) (k : Declared) (bs : List ℕ) (H : Holds s l ts st k bs) where
    abbrev S : Staged ℕ
    S = staged (last_type us) (type_of k.env) (λ _. true) some

    told : TypeTold S t
    told = G.says ts st.top k.env bs H.scene

    meaning-told : Told k.env bs (meaning_here s l st.scope p) (find k.env.names w)
    meaning-told = meant H.scene w

    f-is : f ≡ new_fault (fault_of S) (meaning_here s l st.scope p)
    f-is = e ∙ ap (λ (x : Fault). new_fault x (meaning_here s l st.scope p)) (d ∙ told.fault-is)

    staged-is : entry_staged k (alias_after w us) ≡ newly (is_known k.env w) S (λ (n : ℕ). fits (new_type w (alias n)))
    unfolding keeps_rules kept_decl ruled
    staged-is = ap (entry_staged k) (alias-last w us) ∙ one-staged k w (λ (x : TypeName). type_line w (Syntax.alias x)) (λ (n : ℕ). new_type w (alias n)) (alias-entry k.env w) (last_type us)

  pub alias-fault : b ≡ false → (r : Lined) → r ≡ lined_by f false st → GivesAlias s l st p at r l
  alias-fault j r c = rw c (record {
    gives = λ ts hp. record {
      below = record { at = λ _ _ _. refl };
      told = λ k bs H. failed-told s l ts st k bs (entry_staged k (alias_after w us)) f
          (f-is ts k bs H ∙ plain-fault w _ (meaning-told ts k bs H) (S ts k bs H) (λ (n : ℕ). new_type w (alias n)) ∙ ap fault_of (sym (staged-is ts k bs H)))
          (sym i ∙ j);
    };
  })

  pub alias-clear : b ≡ true → (m : ℕ) → m ≡ keyed s p → (r : Lined) (l' : List ℕ) → AddsAlias l st m t.kind r l' → GivesAlias s l st p at r l'
  unfolding newly on_fits
  alias-clear j m c r l' A = record {
    gives = λ ts hp. record {
      below = alias-below l st m t.kind r l' A;
      told = λ k bs H.
          let x = plain-clear w _ (meaning-told ts k bs H) (S ts k bs H) (λ (n : ℕ). new_type w (alias n)) (sym (f-is ts k bs H) ∙ clear-is f (sym i ∙ j)) in
          let n : t.kind ≡ x.0 = (told ts k bs H).kind-is x.0 x.1 in
          let z : entry_staged k (alias_after w us) ≡ fits (new_type w (alias t.kind)) =
          staged-is ts k bs H ∙ ap (λ (c : Bool). newly c (S ts k bs H) (λ (n : ℕ). fits (new_type w (alias n)))) x.2
          ∙ ap (λ (T : Staged ℕ). newly false T (λ (n : ℕ). fits (new_type w (alias n)))) x.1 ∙ ap (λ (n : ℕ). fits (new_type w (alias n))) (sym n) in
          let y = entry-fits k (alias_after w us) (new_type w (alias t.kind)) z in
          subst (λ (T : Staged Entry). LineTold s st k bs T r l' ts) (sym z) (alias-told s l ts st p t.kind r l' hp (rw c at A) k bs H y.0 y.1);
    };
  }

pub ruleset alias_laws = (alias-fault, alias-clear)
