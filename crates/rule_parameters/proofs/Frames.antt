-- What is laid before the body of a procedure: the ways through the code.
use mathlib.Core.Path.{◌≡◌, refl, sym, ap, ◌∙◌}
use mathlib.Core.Bool.{Bool, true, false, cond, true≢false}
use mathlib.Core.List.{List, [], ◌∷◌, map}
use mathlib.Core.Option.{none, some}
use Prim.Native.Nat.{ℕ, suc, ◌-◌, ◌<◌, ◌≤◌}
use native.Mathlib.Omega.{arith}
use borrow.Author.Tests.{eq-eqb, ne_eqb, le-leb, lt-leb, lt-ltb, le-ltb}
use lib.Dec.{eqb}
use lib.ListN.{length}
use Rattle.law.specs.Base.{Name, ◌>>=◌, each}
use Rattle.law.specs.Code.{ranged, any_set}
use Rattle.law.specs.Environment.{Environment, parameter_types, want_of}
use Rattle.law.specs.Names.{pair_of, type_of}
use Rattle.law.specs.Syntax.{TypeName}
use Rattle.law.specs.Trees.{Trees, end, ◌then◌, Run, first}
use Rattle.law_theorems.specs.Readings.{stack_at}
use Rattle.law.specs.Types.{Shape, ordinal_shape, set_shape, array_shape, record_shape, info_at, is_ordinal}
use Rattle.law_theorems.proofs.Inversion.{none-some, some_inj, bind-some}
use Rattle.code.specs.Layout.{out, lay, lay_wants, lay_parameters, lay_frame, want_numbers, bits}
use Rattle.code.proofs.LayoutRegions.{lay-g}
use Rattle.rule_faults.specs.declared.Fault.{Fault}
use Rattle.rule_faults.specs.Got.{is_clear}
use Rattle.table_list.specs.Laid.{Laid}
use Rattle.table_scope.specs.declared.Info.{Info}
use Rattle.table_scope.specs.declared.Scope.{Scope}
use Rattle.table_scope.specs.Descriptions.{info_of, shape_number}
use Rattle.table_scope.specs.Scene.{Scene, with_pairs}
use Rattle.table_scope.proofs.Kept.{scene-kept}
use Rattle.rule_declarations.specs.State.{body_state, with_names, with_parameters}
use Rattle.rule_declarations.specs.Vars.{vars_fit}
use Rattle.rule_declarations.specs.declared.State.{State}
use Rattle.rule_pairs.specs.Pairs.{pair_first, pairs_in, PairTold, pair-wrong, pair_read, GivesPair}
use Rattle.rule_pairs.specs.declared.Pair.{Pair}
use Rattle.rule_parameters.proofs.Lists.{each-inv, each_none}
use Rattle.rule_parameters.specs.Framing.{lets_in, scope_after, lay_types, lay_opening, want_by, Above, Typed, LaysTypes, LaysWants, base_of, LaysFrame, parameters_fit, proc_fits, proc_state, nothing_framed, FramesList, Opens}
use Rattle.rule_parameters.specs.declared.framing.Framed.{Framed}
use Rattle.rule_parameters.specs.declared.framing.Opened.{Opened}
use Rattle.rule_parameters.specs.declared.listing.Listed.{Listed}

-- ---- what is kept

pub above-none : (top : ℕ) (l : List ℕ) → Above top l top l
above-none top l = record { keeps = record { at = λ _ _ _. refl }; long = refl; up = omega arith }

above-lay : (ns : List ℕ) {top : ℕ} {l : List ℕ} {t : ℕ} {l₁ : List ℕ} → Laid (lay ns top l) t l₁ → Above top l t l₁
above-lay ns {top} {l} {t} {l₁} L = rw (L.free, L.left) (record { keeps = record { at = λ i _ h. (lay-g ns top l).below i h }; long = (lay-g ns top l).long; up = (lay-g ns top l).up })

above_then : {top : ℕ} {l : List ℕ} {t : ℕ} {l₁ : List ℕ} {r : ℕ} {l' : List ℕ} → Above top l t l₁ → Above t l₁ r l' → Above top l r l'
above_then A B = record {
  keeps = record { at = λ i a h. B.keeps.at i a (omega (arith, A.up)) ∙ A.keeps.at i a h };
  long = B.long ∙ A.long;
  up = omega (arith, A.up, B.up);
}

above-scene : {s l ts : List ℕ} {scope : Scope} {low top : ℕ} {σ : Environment} {bs : List ℕ} {t : ℕ} {l₁ : List ℕ} → Above top l t l₁ → low ≤ top → Scene s l ts scope low σ bs → Scene s l₁ ts scope low σ bs
above-scene A h S = scene-kept S (record { at = λ i a g. A.keeps.at i a (omega arith) }) (omega arith)

-- ---- one pair, then the others

-- the first of pairs that are read
pair_step : {s l ts : List ℕ} {scope : Scope} {low : ℕ} {σ : Environment} {bs : List ℕ} (at : ℕ) (x : Pair) → GivesPair s l scope at x → Scene s l ts scope low σ bs
    → (f : Name × TypeName) (fs : List (Name × TypeName)) → pairs_in (first (stack_at s at)) ≡ some (f ∷ fs)
    → (pairs_in (first (stack_at s x.next)) ≡ some fs) × ((k : ℕ) → type_of σ f.1 ≡ some k → x.kind ≡ k)
unfolding pairs_in pair_first ◌>>=◌
pair_step {s} {l} {ts} {scope} {low} {σ} {bs} at x G S f fs h = go (G.says ts low σ bs S)
  where
    none_first : (us : Trees Run) → pair_first us ≡ none → pairs_in us ≡ some (f ∷ fs) → ⊥
    none_first end e g = let z : ◌≡◌ {A = ℕ} 0 1 = ap count (some_inj g) in omega (arith, z)
      where
        count : List (Name × TypeName) → ℕ
        count [] = 0
        count (p ∷ ps) = 1
    none_first (t then us) e g = none-some (rw e at g)

    cons-first : {A : Type 0} {a b : A} {xs ys : List A} → (a ∷ xs) ≡ (b ∷ ys) → a ≡ b
    cons-first e = cc

    cons-rest : {A : Type 0} {a b : A} {xs ys : List A} → (a ∷ xs) ≡ (b ∷ ys) → xs ≡ ys
    cons-rest e = cc

    go : PairTold σ s (pair_first (first (stack_at s at))) x → (pairs_in (first (stack_at s x.next)) ≡ some fs) × ((k : ℕ) → type_of σ f.1 ≡ some k → x.kind ≡ k)
    go (pair-wrong _ e) = absurd (none_first (first (stack_at s at)) e h)
    go (pair_read t e _ n _ k) =
        let d = (G.goes n).1.here in
        let z = rw d at e in
        let g = rw (d, z) at h in
        bind-some g λ ms hm q.
        let c = some_inj q in
        (hm ∙ ap some (cons-rest c), λ m v. k m (ap (λ (p : Name × TypeName). type_of σ p.1) (cons-first c) ∙ v))

module _ {s l ts : List ℕ} {scope : Scope} {low : ℕ} {σ : Environment} {bs : List ℕ} (S : Scene s l ts scope low σ bs) (n at : ℕ) (us : List ℕ) (T : Typed s σ n at us) where
  -- no pair
  typed-none : n ≡ 0 → us ≡ []
  typed-none e = go T.read T.pairs-are (sym T.count-is ∙ e)
    where
      go : (ps : List (Name × TypeName)) → each (pair_of σ) ps ≡ some T.pairs → length ps ≡ 0 → us ≡ []
      go [] h z = T.types_are ∙ ap parameter_types (each_none σ T.pairs h)
      go (p ∷ ps) h z = absurd (omega (arith, z))

  -- one, then the others
  typed-more : (n ≡ 0 → ⊥) → (x : Pair) → GivesPair s l scope at x → (vs : List ℕ) × (us ≡ x.kind ∷ vs) × Typed s σ (n - 1) x.next vs
  typed-more h x G = go T.read T.read_is T.pairs-are T.count-is
    where
      go : (ps : List (Name × TypeName)) → pairs_in (first (stack_at s at)) ≡ some ps → each (pair_of σ) ps ≡ some T.pairs → n ≡ length ps → (vs : List ℕ) × (us ≡ x.kind ∷ vs) × Typed s σ (n - 1) x.next vs
      go [] a b c = absurd (h c)
      go (p ∷ ps) a b c =
          let u = pair_step at x G S p ps a in
          let v = each-inv σ p.0 p.1 ps T.pairs b in (
            parameter_types v.1,
            T.types_are ∙ ap parameter_types v.4 ∙ ap (λ (k : ℕ). k ∷ parameter_types v.1) (sym (u.1 v.0 v.2)),
            record { read = ps; pairs = v.1; read_is = u.0; pairs-are = v.3; types_are = refl; count-is = omega (arith, c) },
          )

-- ---- `lay_types`

module _ (s l : List ℕ) (scope : Scope) (n at top : ℕ) where
  pub types-none : n ≡ 0 → LaysTypes s l scope n at top top l
  unfolding lay_types
  types-none e = record {
    above = above-none top l;
    says = λ ts low σ bs S h us T. rw (typed-none S n at us T e) (refl, refl);
  }

  pub types_more : (n ≡ 0 → ⊥) → (x : Pair) → GivesPair s l scope at x → (t : ℕ) (l₁ : List ℕ) → Laid (lay (x.kind ∷ []) top l) t l₁
      → (r : ℕ) (l' : List ℕ) → LaysTypes s l₁ scope (n - 1) x.next t r l' → LaysTypes s l scope n at top r l'
  unfolding lay_types
  types_more e x G t l₁ L r l' R = record {
    above = above_then (above-lay (x.kind ∷ []) L) R.above;
    says = λ ts low σ bs S h us T.
        let u = typed-more S n at us T e x G in
        let A = above-lay (x.kind ∷ []) L in
        let g = R.says ts low σ bs (above-scene A h S) (omega (arith, A.up)) u.0 u.2 in
        rw u.1 (g.0 ∙ rw (L.free, L.left) refl, g.1 ∙ rw (L.free, L.left) refl);
  }

pub ruleset types-laws = (types-none, types_more)

-- ---- `lay_want`, `lay_wants`

module _ (l : List ℕ) (x : Info) (top t : ℕ) (l' : List ℕ) where
  pub want-ordinal : x.shape ≡ 0 → Laid (lay (x.low ∷ x.high ∷ []) top l) t l' → Laid (lay (want_by x) top l) t l'
  unfolding want_by
  want-ordinal e L = rw (eq-eqb x.shape 0 e) L

  pub want-set : (x.shape ≡ 0 → ⊥) → Laid (lay (1 ∷ 0 ∷ []) top l) t l' → Laid (lay (want_by x) top l) t l'
  unfolding want_by
  want-set e L = rw (ne_eqb x.shape 0 e) L

pub ruleset want_laws = (want-ordinal, want-set)

want-told : {s l ts : List ℕ} {scope : Scope} {low : ℕ} {σ : Environment} {bs : List ℕ} → Scene s l ts scope low σ bs → (k : ℕ) → want_by (info_of l ts k) ≡ want_numbers (want_of σ.types k)
unfolding want_by want_numbers shape_number
want-told {s} {l} {ts} {scope} {low} {σ} S k =
    let T = S.types k in
    rw (T.shape_is, T.low-is, T.high_is) (go (info_at σ.types k).shape)
  where
    go : (h : Shape) → cond (eqb (shape_number h) 0) (bits (info_at σ.types k).low ∷ bits (info_at σ.types k).high ∷ []) (1 ∷ 0 ∷ [])
        ≡ want_numbers (cond (is_ordinal h) (ranged (info_at σ.types k).low (info_at σ.types k).high) any_set)
    go ordinal_shape = refl
    go set_shape = refl
    go array_shape = refl
    go record_shape = refl

module _ (s l ts : List ℕ) (scope : Scope) (n at top : ℕ) where
  pub wants-none : n ≡ 0 → LaysWants s l ts scope n at top top l
  unfolding lay_wants
  wants-none e = record {
    above = above-none top l;
    says = λ low σ bs S h us T. rw (typed-none S n at us T e) (refl, refl);
  }

  pub wants-more : (n ≡ 0 → ⊥) → (x : Pair) → GivesPair s l scope at x → (d : Info) → d ≡ info_of l ts x.kind → (t : ℕ) (l₁ : List ℕ) → Laid (lay (want_by d) top l) t l₁
      → (r : ℕ) (l' : List ℕ) → LaysWants s l₁ ts scope (n - 1) x.next t r l' → LaysWants s l ts scope n at top r l'
  unfolding lay_wants
  wants-more e x G d D t l₁ L r l' R = record {
    above = above_then (above-lay (want_by d) L) R.above;
    says = λ low σ bs S h us T.
        let u = typed-more S n at us T e x G in
        let A = above-lay (want_by d) L in
        let g = R.says low σ bs (above-scene A h S) (omega (arith, A.up)) u.0 u.2 in
        let w : want_by d ≡ want_numbers (want_of σ.types x.kind) = ap want_by D ∙ want-told S x.kind in
        rw u.1 (g.0 ∙ rw (L.free, L.left, w) refl, g.1 ∙ rw (L.free, L.left, w) refl);
  }

pub ruleset wants-laws = (wants-none, wants-more)

-- ---- `lay_frame`

lay-place : (ns : List ℕ) (t : ℕ) (l : List ℕ) → (lay ns t l).pos ≡ t
unfolding lay
lay-place ns t l = refl

module _ (s l ts : List ℕ) (st : State) (n at : ℕ) where
  pub frame-laid : (place : ℕ) (l₁ : List ℕ) → LaysTypes s l st.scope n at st.top place l₁ → (b : ℕ) → b ≡ base_of st → (t : ℕ) (l₂ : List ℕ) → Laid (lay (b ∷ n ∷ []) place l₁) t l₂
      → (top : ℕ) (l' : List ℕ) → LaysWants s l₂ ts st.scope n at t top l' → (f : Framed) → f ≡ record { place = place; top = top } → LaysFrame s l ts st n at f l'
  unfolding lay_opening lay_frame lay_parameters
  frame-laid place l₁ A b B t l₂ L top l' W f F = rw F (record {
    above = above_then A.above (above_then (above-lay (b ∷ n ∷ []) L) W.above);
    says = λ σ bs S us T h.
        let a = A.says ts st.top σ bs S (omega arith) us T in
        let S₁ = above-scene A.above (omega arith) S in
        let S₂ = above-scene (above-lay (b ∷ n ∷ []) L) (omega (arith, A.above.up)) S₁ in
        let w = W.says st.top σ bs S₂ (omega (arith, A.above.up, (above-lay (b ∷ n ∷ []) L).up)) us T in
        let c : n ≡ length us = T.count-is ∙ typed-length T in
        framed σ us a.0 a.1 c w h;
  })
    where
      mapped : {A B : Type 0} (g : A → B) (xs : List A) → length (map g xs) ≡ length xs
      mapped g [] = refl
      mapped g (x ∷ xs) = ap suc (mapped g xs)

      each-length : (σ : Environment) (ps : List (Name × TypeName)) (qs : List (Name × ℕ)) → each (pair_of σ) ps ≡ some qs → length ps ≡ length qs
      each-length σ [] qs h = sym (ap length (each_none σ qs h))
      each-length σ (p ∷ ps) qs h = let v = each-inv σ p.0 p.1 ps qs h in ap suc (each-length σ ps v.1 v.3) ∙ sym (ap length v.4)

      typed-length : {σ : Environment} {us : List ℕ} (T : Typed s σ n at us) → length T.read ≡ length us
      typed-length {σ} {us} T = each-length σ T.read T.pairs T.pairs-are ∙ sym (ap length T.types_are ∙ mapped (λ (p : Name × ℕ). p.1) T.pairs)

      framed : (σ : Environment) (us : List ℕ) → place ≡ (lay_types us st.top l).top → l₁ ≡ (lay_types us st.top l).list → n ≡ length us
          → (top ≡ (lay_wants (map (want_of σ.types) us) t l₂).top) × (l' ≡ (lay_wants (map (want_of σ.types) us) t l₂).list) → 1 ≤ n
          → out place top l' ≡ lay_parameters (base_of st) (map (want_of σ.types) us) (lay_types us st.top l).top (lay_types us st.top l).list
      framed σ [] a d c w h = absurd (omega (arith, c, h))
      framed σ (u ∷ us) a d c w h =
          let m : length (map (want_of σ.types) us) ≡ length us = mapped (want_of σ.types) us in
          let c' : n ≡ suc (length (map (want_of σ.types) us)) = omega (arith, c, m) in
          rw (← a, ← d, ← c', ← B, lay-place (b ∷ n ∷ []) place l₁) (rw (w.0, w.1, L.free, L.left) refl)

-- ---- `frame_after`

module _ (s l ts : List ℕ) (st : State) (c : Listed) where
  pub frames-none : c.count ≡ 0 → (f : Framed) → f ≡ nothing_framed st → FramesList s l ts st c f l
  frames-none e f F = record {
    above = rw F (above-none st.top l);
    none = λ _. (F, refl);
    says = λ _ _ h. absurd (omega (arith, e, h));
  }

  module _ (some : c.count ≡ 0 → ⊥) (g : Fault) (hg : g ≡ c.fault) (b : Bool) (i : b ≡ is_clear g) where
    pub frames-faulty : b ≡ false → (f : Framed) → f ≡ nothing_framed st → FramesList s l ts st c f l
    frames-faulty j f F = record {
      above = rw F (above-none st.top l);
      none = λ e. absurd (some e);
      says = λ e. absurd (true≢false (sym (ap is_clear (hg ∙ e)) ∙ sym i ∙ j));
    }

    module _ (a : Bool) (k : a ≡ parameters_fit st c.count) where
      pub frames-past : a ≡ false → (f : Framed) → f ≡ nothing_framed st → FramesList s l ts st c f l
      frames-past j f F = record {
        above = rw F (above-none st.top l);
        none = λ e. absurd (some e);
        says = λ _ e. absurd (true≢false (sym e ∙ sym k ∙ j));
      }

      pub frames-laid : (f : Framed) (l' : List ℕ) → LaysFrame s l ts st c.count c.pairs f l' → FramesList s l ts st c f l'
      frames-laid f l' L = record {
        above = L.above;
        none = λ e. absurd (some e);
        says = λ _ _ h σ bs S us T. L.says σ bs S us T h;
      }

pub ruleset frames-laws = (frames-none, frames-faulty, frames-past, frames-laid)

-- ---- `scope_after`, `open_body`

module _ (st : State) (c : Listed) where
  pub scope-none : c.pairs ≡ 0 → st.scope ≡ scope_after st c
  unfolding scope_after
  scope-none e = rw (eq-eqb c.pairs 0 e) refl

  module _ (some : c.pairs ≡ 0 → ⊥) (f : Fault) (hf : f ≡ c.fault) (b : Bool) (i : b ≡ lets_in f) where
    pub scope-in : b ≡ true → (r : Scope) → r ≡ with_pairs st.scope c.pairs st.vars st.parameters → r ≡ scope_after st c
    unfolding scope_after
    scope-in j r e = e ∙ rw (ne_eqb c.pairs 0 some, ← hf, sym i ∙ j) refl

    pub scope-out : b ≡ false → st.scope ≡ scope_after st c
    unfolding scope_after
    scope-out j = rw (ne_eqb c.pairs 0 some, ← hf, sym i ∙ j) refl

pub ruleset scope-laws = (scope-none, scope-in, scope-out)

pub opens-so : (s l ts : List ℕ) (st : State) (c : Listed) (f : Framed) (l' : List ℕ) → FramesList s l ts st c f l' → (x : Scope) → x ≡ scope_after st c
    → (o : Opened) → o ≡ record { scope = x; frame = f.place; at = c.next; top = f.top } → Opens s l ts st c o l'
opens-so s l ts st c f l' F x e o h = record { framed = f; frames = F; opened = h ∙ rw e refl }

-- ---- row 9

module _ (st : State) (n : ℕ) where
  pub many-parameters : 8 < n → false ≡ parameters_fit st n
  unfolding parameters_fit
  many-parameters h = rw (lt-leb n 8 h) refl

  pub few-parameters : n ≤ 8 → (b : Bool) → b ≡ vars_fit st n n → b ≡ parameters_fit st n
  unfolding parameters_fit
  few-parameters h b e = e ∙ rw (le-leb n 8 h) refl

  pub proc-there : st.procs < 32 → (b : Bool) → b ≡ parameters_fit st n → b ≡ proc_fits st n
  unfolding proc_fits
  proc-there h b e = e ∙ rw (lt-ltb st.procs 32 h) refl

  pub proc-past : 32 ≤ st.procs → false ≡ proc_fits st n
  unfolding proc_fits
  proc-past h = rw (le-ltb st.procs 32 h) refl

pub ruleset fit_laws = (many-parameters, few-parameters)

pub ruleset proc_fit_laws = (proc-there, proc-past)

pub state-laid : (st a b r : State) (n t u : ℕ) → a ≡ with_names st 1 t u → b ≡ body_state a u → r ≡ with_parameters b n → r ≡ proc_state st n t u
state-laid st a b r n t u e f g = g ∙ rw (f, e) refl
