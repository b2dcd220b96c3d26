-- Pairs of a name and a type's name: read as parts, one by one.
use mathlib.Core.Path.{◌≡◌, refl, sym, ap, ◌∙◌}
use mathlib.Core.Bool.{Bool, true, false, cond, ◌&&◌, false≢true}
use mathlib.Core.List.{List, [], ◌∷◌, map}
use mathlib.Core.Option.{Option, none, some}
use Prim.Native.Nat.{ℕ, suc, ◌+◌, ◌<◌, ◌≤◌}
use native.Mathlib.Decide.{dec_lt}
use native.Mathlib.Omega.{arith}
use borrow.Author.Tests.{le-leb, lt-leb, eq-eqb, ne_eqb}
use mir.Syntax.{w32}
use mir.Val.{Fits}
use lib.Dec.{eqb}
use lib.ListN.{length}
use Rattle.leaf_bytes.specs.Bytes.{small}
use Rattle.law.specs.Base.{Name, ◌>>=◌, each}
use Rattle.law.specs.Ceilings.{field_sizes}
use Rattle.law.specs.Environment.{Environment}
use Rattle.law.specs.Forms.{Item, free, type_name, field}
use Rattle.law.specs.Names.{type_of, distinct}
use Rattle.rule_stages.specs.Stages as Stages
use Rattle.rule_stages.specs.Stages.{staged, ruled, fits}
use Rattle.law.specs.Syntax.{TypeName}
use Rattle.law.specs.Trees.{Tree, word, form, Trees, end, ◌then◌, Run, first, later, list, word_at}
use Rattle.law_theorems.specs.Readings.{stack_at}
use Rattle.law.specs.Types.{size_of}
use Rattle.law.specs.Words.{Word, worded, worded_all, word_by}
use Rattle.law_theorems.proofs.Inversion.{none-some, some_inj, bind-some, and-true}
use Rattle.table_scope.specs.declared.Scope.{Scope}
use Rattle.rule_faults.specs.declared.Fault.{Fault}
use Rattle.rule_faults.specs.declared.Fault.TheVariants as fault
use Rattle.table_scope.specs.declared.Info.{Info}
use Rattle.table_scope.specs.Descriptions.{info_of}
use Rattle.table_scope.specs.Scene.{Scene}
use Rattle.table_scope.proofs.Telling.{size-told}
use Rattle.rule_faults.specs.Got.{is_form, is_clear}
use Rattle.text_parts.specs.Parts.{LeafAt, FormAt, ShutAt, Stands, Shuts}
use Rattle.text_parts.specs.declared.Part.{Part}
use Rattle.text_parts.specs.declared.Part.TheVariants as part
use Rattle.std.specs.Prelude.{Option as Maybe, Some, None}
use Rattle.leaf_words.specs.declared.words.Word as Kind
use Rattle.leaf_words.specs.Words.{word_of}
use Rattle.text_heads.specs.Parts.{part_of, rest, closed, name_in, type_name_in}
use Rattle.text_heads.proofs.Walks.{bind-cong, bind_assoc, first_part, two_then}
use Rattle.rule_atoms.specs.declared.Typed.{Typed}
use Rattle.rule_atoms.specs.Answering.{TypeTold}
use Rattle.rule_enum_lines.specs.Enums.{many, counted}
use Rattle.rule_declarations.specs.Names.{GivesName, last_type, GivesLastType}
use Rattle.rule_pairs.specs.Pairs.{pair_parts, pair_by, pair_first, pairs_in, firsts, resolve, known_type, types_known, pairs_good, pair_given, PairTold, pair-wrong, pair_read, GivesParts, GivesPair, add_size, Tracks, pairs_given, EndsPairs, ends-wrong, ends_read, PairsTold, pairs-wrong, pairs-empty, pairs-read, GivesPairs}
use Rattle.rule_pairs.specs.declared.Pair.{Pair}
use Rattle.rule_pairs.specs.declared.Pairs.{Pairs}
use Rattle.rule_declarations.specs.declared.FreeName.{FreeName}
use Rattle.std.specs.Prelude.{Option as Maybe, Some, None}
use Rattle.rule_repeats.specs.Leads.{lead_in, lead_of, leads, leads_at}
use Rattle.rule_repeats.specs.Blocks.{apart}
use Rattle.rule_repeats.proofs.LeadParts.{form-free, lead-free}
use Rattle.rule_repeats.proofs.NamesApart.{distinct_apart}
use Rattle.rule_declarations.proofs.VarLines.{closed-map}
use Rattle.rule_enum_lines.proofs.EnumNames.{and_assoc, and-true-right, counted-few}
use Rattle.rule_enum_lines.proofs.EnumLines.{count-some}
use Rattle.rule_declarations.proofs.FreeNames.{bound-none}

-- ---- the parts

pair-form : (us : Trees Run) → (worded (form us) >>= field) ≡ pair_parts us
unfolding worded ◌>>=◌ field pair_parts last_type name_in type_name_in
pair-form us =
    bind_assoc (worded_all us) (λ (vs : Trees Word). some (form vs)) field
    ∙ two_then free type_name (λ (n : Name) (t : TypeName). (n, t)) us
    ∙ bind-cong (part_of us >>= free) (λ (n : Name).
    bind-cong (part_of (rest us) >>= type_name) (λ (t : TypeName). sym (closed-map (λ (x : TypeName). (n, x)) (rest (rest us)) t))
    ∙ sym (bind_assoc (part_of (rest us) >>= type_name) (λ (t : TypeName). closed (rest (rest us)) t) (λ (t : TypeName). some (n, t))))

pair_is : (t : Tree Run) → (worded t >>= field) ≡ pair_by t
unfolding worded ◌>>=◌ field pair_by
pair_is (word x) = go (word_by (word_of x) x)
  where
    go : (o : Option Word) → ((o >>= λ (v : Word). some (word v)) >>= field) ≡ none
    go none = refl
    go (some v) = refl
pair_is (form us) = pair-form us

pub pairs-each : (us : Trees Run) → (worded_all us >>= λ (vs : Trees Word). each field (list vs)) ≡ pairs_in us
unfolding ◌>>=◌ worded list each pairs_in
pairs-each end = refl
pairs-each (t then ts) =
    first_part (λ (vs : List Item). each field vs) field (λ (n : Name × TypeName) (vs : List Item). each field vs >>= λ (ns : List (Name × TypeName)). some (n ∷ ns)) (λ v vs. refl) t ts
    ∙ bind-cong (worded t >>= field) (λ (n : Name × TypeName).
    sym (bind_assoc (worded_all ts) (λ (vs : Trees Word). each field (list vs)) (λ (ns : List (Name × TypeName)). some (n ∷ ns)))
    ∙ ap (λ (o : Option (List (Name × TypeName))). o >>= λ (ns : List (Name × TypeName)). some (n ∷ ns)) (pairs-each ts))
    ∙ ap (λ (o : Option (Name × TypeName)). o >>= λ (n : Name × TypeName). pairs_in ts >>= λ (ns : List (Name × TypeName)). some (n ∷ ns)) (pair_is t)

-- ---- a pair begins with its name

lead-in : (us : Trees Run) (n : Name) → name_in us ≡ some n → lead_in us ≡ n
unfolding name_in part_of lead_in lead_of ◌>>=◌
lead-in end n h = none-some h
lead-in (word x then ts) n h = lead-free (word x) n h
lead-in (form us then ts) n h = form-free us n h

lead-pair : (t : Tree Run) (f : Name × TypeName) → pair_by t ≡ some f → lead_of t ≡ f.0
unfolding pair_by pair_parts lead_of
lead-pair (word x) f h = none-some h
lead-pair (form us) f h = bind-some h λ n hn g. bind-some g λ t ht e. lead-in us n hn ∙ ap (λ (p : Name × TypeName). p.0) (some_inj e)

pairs-lead : (us : Trees Run) (fs : List (Name × TypeName)) → pairs_in us ≡ some fs → leads us ≡ firsts fs
unfolding pairs_in leads firsts
pairs-lead end fs h = ap firsts (some_inj h)
pairs-lead (t then ts) fs h =
    bind-some h λ f hf g. bind-some g λ ms hm e.
    ap (λ (v : Name). v ∷ leads ts) (lead-pair t f hf) ∙ ap (λ (vs : List Name). f.0 ∷ vs) (pairs-lead ts ms hm) ∙ ap firsts (some_inj e)

-- ---- `pair_parts`

-- a pair's type
typed-pair : {σ : Environment} (s : List ℕ) (y : ℕ) (hy : y < length s) (o : Option TypeName) (t : Typed) → TypeTold (staged o (type_of σ) (λ _. true) some) t
    → PairTold σ s (o >>= λ (z : TypeName). some (map small (word_at s y), z)) (pair_given t.fault y t.kind t.next)
unfolding staged ◌>>=◌ Stages.named ruled known_type
typed-pair s y hy none t T = pair-wrong T.fault-is refl
typed-pair {σ} s y hy (some z) t T = go (type_of σ z) refl T
  where
    go : (m : Option ℕ) → type_of σ z ≡ m → TypeTold (Stages.named m (λ _. true) some) t → PairTold σ s (some (map small (word_at s y), z)) (pair_given t.fault y t.kind t.next)
    go none e U = pair_read z refl hy (ap is_form U.fault-is) (ap is_clear U.fault-is ∙ sym (ap known_type e)) (λ k h. none-some (sym e ∙ h))
    go (some m) e U = pair_read z refl hy (ap is_form U.fault-is) (ap is_clear U.fault-is ∙ sym (ap known_type e)) (λ k h. U.kind-is m refl ∙ some_inj (sym e ∙ h))

module _ (s l : List ℕ) (scope : Scope) (at : ℕ) (n : Maybe FreeName) (N : GivesName s at n) (r : Pair) where
  pub parts-named : (m : FreeName) → n ≡ Some m → (t : Typed) → GivesLastType s l scope m.next t → r ≡ pair_given t.fault m.at t.kind t.next → GivesParts s l scope at r
  unfolding pair_parts ◌>>=◌
  parts-named m e t G h =
      let g = rw e at N.says in
      let b = g.0.leaf in
      rw h (record {
        goes = λ i. b.around ∙ G.goes i;
        says = λ ts top σ bs S.
            rw (g.2, b.here) (typed-pair s m.at g.1 (last_type (first (stack_at s m.next))) t (G.says ts top σ bs S));
      })

  pub parts-unnamed : n ≡ None → r ≡ pair_given fault.Form 0 0 at → GivesParts s l scope at r
  unfolding pair_parts
  parts-unnamed e h = rw h (record {
    goes = λ i. absurd (false≢true (sym i));
    says = λ ts top σ bs S. pair-wrong refl (bound-none (name_in (first (stack_at s at))) _ (rw e at N.says));
  })

pub ruleset parts_laws = (parts-named, parts-unnamed)

-- ---- `pair_at`

told_same : {σ : Environment} {s : List ℕ} {o u : Option (Name × TypeName)} {r : Pair} → o ≡ u → PairTold σ s u r → PairTold σ s o r
told_same e T = rw e T

module _ (s l : List ℕ) (scope : Scope) (at : ℕ) (x : Part) (X : Stands s at x) (r : Pair) where
  pub at-word : (w : Kind.Word) (a b : ℕ) → x ≡ part.Leaf w a b → r ≡ pair_given fault.Form 0 0 at → GivesPair s l scope at r
  unfolding pair_first pair_by
  at-word w a b e h =
      let g : LeafAt s at a b × (w ≡ word_of (word_at s a)) = rw e at X.says in
      rw h (record { goes = λ i. absurd (false≢true (sym i)); says = λ ts top σ bs S. pair-wrong refl (ap pair_first g.0.leaf.here) })

  pub at-shut : (q : ℕ) → x ≡ part.Shut q → r ≡ pair_given fault.Form 0 0 at → GivesPair s l scope at r
  unfolding pair_first
  at-shut q e h =
      let g : ShutAt s at q = rw e at X.says in
      rw h (record { goes = λ i. absurd (false≢true (sym i)); says = λ ts top σ bs S. pair-wrong refl (ap pair_first g.here) })

  pub at-form : (u : ℕ) → x ≡ part.Form u → GivesParts s l scope u r → GivesPair s l scope at r
  unfolding pair_first pair_by
  at-form u e G =
      let g : FormAt s at u = rw e at X.says in
      record {
        goes = λ i. (
          form (first (stack_at s u)),
          record {
            here = g.here ∙ ap (λ (k : List (Trees Run)). form (first (stack_at s u)) then first k) (G.goes i);
            around = g.around ∙ ap later (G.goes i);
          },
        );
        says = λ ts top σ bs S. told_same (ap pair_first g.here) (G.says ts top σ bs S);
      }

  pub at-other : ((u : ℕ) → x ≡ part.Form u → ⊥) → r ≡ pair_given fault.Form 0 0 at → GivesPair s l scope at r
  at-other f h = go x refl
    where
      go : (y : Part) → x ≡ y → GivesPair s l scope at r
      go (part.Leaf w a b) e = at-word w a b e h
      go (part.Form u) e = absurd (f u e)
      go (part.Shut q) e = at-shut q e h

pub ruleset at_laws = (at-other, at-form)

-- ---- one pair, then the others

module _ (s l : List ℕ) (scope : Scope) (p : ℕ) (f : Pair) (G : GivesPair s l scope p f) (g : Fault) (hg : g ≡ f.fault) (b : Bool) (i : b ≡ is_form g) where
  pub pairs-fewer : b ≡ false → many (first (stack_at s f.next)) < many (first (stack_at s p))
  unfolding many
  pairs-fewer j = rw (G.goes (ap is_form (sym hg) ∙ sym i ∙ j)).1.here (omega arith)

  form-told : {σ : Environment} {o : Option (Name × TypeName)} → b ≡ true → PairTold σ s o f → o ≡ none
  form-told j (pair-wrong _ e) = e
  form-told j (pair_read _ _ _ n _ _) = absurd (false≢true (sym n ∙ ap is_form (sym hg) ∙ sym i ∙ j))

  -- no pair, where all parts are pairs
  pub pairs-nothing : b ≡ true → (ts : List ℕ) (top : ℕ) (σ : Environment) (bs : List ℕ) → Scene s l ts scope top σ bs
      → (fs : List (Name × TypeName)) → pairs_in (first (stack_at s p)) ≡ some fs → fs ≡ []
  unfolding pairs_in pair_first ◌>>=◌
  pairs-nothing j ts top σ bs S fs h = go (first (stack_at s p)) (form-told j (G.says ts top σ bs S)) h
    where
      go : (us : Trees Run) → pair_first us ≡ none → pairs_in us ≡ some fs → fs ≡ []
      go end e h₁ = sym (some_inj h₁)
      go (t then us) e h₁ = none-some (rw e at h₁)

  pub pairs-none : b ≡ true → (ts : List ℕ) (top : ℕ) (σ : Environment) (bs : List ℕ) → Scene s l ts scope top σ bs
      → (first (stack_at s p) ≡ end → ⊥) → pairs_in (first (stack_at s p)) ≡ none
  unfolding pairs_in pair_first ◌>>=◌
  pairs-none j ts top σ bs S h = go (first (stack_at s p)) (form-told j (G.says ts top σ bs S)) h
    where
      go : (us : Trees Run) → pair_first us ≡ none → (us ≡ end → ⊥) → pairs_in us ≡ none
      go end e h₁ = absurd (h₁ refl)
      go (t then us) e h₁ = rw e refl

  -- a pair with the type's name t, and what is known of it
  pub pairs-more : b ≡ false → (ts : List ℕ) (top : ℕ) (σ : Environment) (bs : List ℕ) → Scene s l ts scope top σ bs
      → (t : TypeName) × (pairs_in (first (stack_at s p)) ≡ (pairs_in (first (stack_at s f.next)) >>= λ (fs : List (Name × TypeName)). some ((map small (word_at s f.name), t) ∷ fs)))
      × (f.name < length s) × (is_clear f.fault ≡ known_type (type_of σ t)) × ((k : ℕ) → type_of σ t ≡ some k → f.kind ≡ k)
  unfolding pairs_in pair_first ◌>>=◌
  pairs-more j ts top σ bs S = go (G.says ts top σ bs S)
    where
      nf : is_form f.fault ≡ false
      nf = ap is_form (sym hg) ∙ sym i ∙ j

      go : PairTold σ s (pair_first (first (stack_at s p))) f → (t : TypeName) × (pairs_in (first (stack_at s p)) ≡ (pairs_in (first (stack_at s f.next)) >>= λ (fs : List (Name × TypeName)). some ((map small (word_at s f.name), t) ∷ fs)))
          × (f.name < length s) × (is_clear f.fault ≡ known_type (type_of σ t)) × ((k : ℕ) → type_of σ t ≡ some k → f.kind ≡ k)
      go (pair-wrong e _) = absurd (false≢true (sym nf ∙ ap is_form e))
      go (pair_read t e h _ c k) =
          let d = (G.goes nf).1.here in
          let z = rw d at e in
          (t, rw (d, z) refl, h, c, k)

-- ---- small functions

pub size-more : (a b : ℕ) → a ≤ 2048 → b ≤ 2048 → a + b ≡ add_size a b
unfolding add_size
size-more a b h g = rw (le-leb a 2048 h, le-leb b 2048 g) refl

pub size-large : (a b : ℕ) → a ≤ 2048 → 2048 < b → 2049 ≡ add_size a b
unfolding add_size
size-large a b h g = rw (le-leb a 2048 h, lt-leb b 2048 g) refl

pub size-past : (a b : ℕ) → 2048 < a → 2049 ≡ add_size a b
unfolding add_size
size-past a b h = rw (lt-leb a 2048 h) refl

pub ruleset size-laws = (size-more, size-large, size-past)

pub type-size-is : (l ts : List ℕ) (a kind : ℕ) (x : Info) → x ≡ info_of l ts kind → (r : ℕ) → r ≡ add_size a x.size → r ≡ add_size a (info_of l ts kind).size
type-size-is l ts a kind x e r h = h ∙ ap (λ (z : Info). add_size a z.size) e

pub tracks-more : (v t b : ℕ) → Tracks v t → Tracks (add_size v b) (t + b)
tracks-more v t b T = go (dec_lt 2048 t) (dec_lt 2048 b)
  where
    go : Dec (2048 < t) → Dec (2048 < b) → Tracks (add_size v b) (t + b)
    go (yes h) d = rw (← size-past v b (T.past h)) (record { exact = λ i. absurd (omega arith); past = λ _. omega arith })
    go (no h) (yes g) = rw (T.exact (omega arith), ← size-large t b (omega arith) g) (record { exact = λ i. absurd (omega arith); past = λ _. omega arith })
    go (no h) (no g) = rw (T.exact (omega arith), ← size-more t b (omega arith) (omega arith)) (record { exact = λ i. refl; past = λ i. i })

pub none-pair : (n : ℕ) (f : Fault) → n ≡ 0 → fault.Form ≡ cond (eqb n 0) fault.Form f
none-pair n f e = rw (eq-eqb n 0 e) refl

pub some_pair : (n : ℕ) (f : Fault) → (n ≡ 0 → ⊥) → f ≡ cond (eqb n 0) fault.Form f
some_pair n f e = rw (ne_eqb n 0 e) refl

pub ruleset some_laws = (none-pair, some_pair)

module _ (s : List ℕ) (p n size : ℕ) (ok : Bool) (e : Maybe ℕ) (E : Shuts s p e) (r : Pairs) where
  pub pairs-past : (q : ℕ) → e ≡ Some q → (o : Bool) → o ≡ ok → (f : Fault) → f ≡ cond o fault.Clear fault.Name → (g : Fault) → g ≡ cond (eqb n 0) fault.Form f
      → r ≡ pairs_given g n size q → EndsPairs s p n size ok r
  pairs-past q d o l f h g k i = let m : ShutAt s p q = rw d at E.says in rw (i, k, h, l) (ends_read q m.here m.around)

  pub pairs-left : e ≡ None → r ≡ pairs_given fault.Form 0 0 p → EndsPairs s p n size ok r
  pairs-left d i = rw i (ends-wrong (rw d at E.says))

pub ruleset pairs-end-laws = (pairs-past, pairs-left)

-- ---- `pairs_from`

pub record Walking (s l ts : List ℕ) (scope : Scope) (at p n size : ℕ) (ok : Bool) : Type 0 where
  pub c : ℕ
  pub few : c ≤ 1000 → n ≡ c
  pub full : 1000 < c → n ≡ 1000
  pub small_n : Fits w32 n
  pub small_size : Fits w32 size
  pub around : later (stack_at s at) ≡ later (stack_at s p)
  pub back : (top : ℕ) (σ : Environment) (bs : List ℕ) → Scene s l ts scope top σ bs → pairs_in (first (stack_at s p)) ≡ none → pairs_in (first (stack_at s at)) ≡ none
  pub left : (top : ℕ) (σ : Environment) (bs : List ℕ) → Scene s l ts scope top σ bs → (ms : List (Name × TypeName)) → pairs_in (first (stack_at s p)) ≡ some ms
      → (fs : List (Name × TypeName)) × (pairs_in (first (stack_at s at)) ≡ some fs) × (length fs ≡ c + length ms) × (types_known σ fs ≡ (ok && types_known σ ms))
      × (ok ≡ true → (t : ℕ) × Tracks size t × ((hs gs : List (Name × ℕ)) → resolve σ ms ≡ some hs → resolve σ fs ≡ some gs → field_sizes σ.types gs ≡ t + field_sizes σ.types hs))

pub known_some : (o : Option ℕ) → known_type o ≡ true → (k : ℕ) × (o ≡ some k)
unfolding known_type
known_some none e = absurd (false≢true e)
known_some (some k) e = (k, refl)

module _ (s l ts : List ℕ) (scope : Scope) (at : ℕ) where
  pub walk_start : Walking s l ts scope at at 0 0 true
  walk_start = record {
    c = 0;
    few = λ _. refl;
    full = λ h. absurd (omega arith);
    small_n = record { fits = omega arith };
    small_size = record { fits = omega arith };
    around = refl;
    back = λ top σ bs S h. h;
    left = λ top σ bs S ms h. (ms, h, omega arith, refl, λ _. (0, record { exact = λ i. omega arith; past = λ i. absurd (omega arith) }, λ hs gs a b. let z : hs ≡ gs = some_inj (sym a ∙ b) in rw z (omega arith)));
  }

  module _ (p n size : ℕ) (ok : Bool) (W : Walking s l ts scope at p n size ok) where
    pub walk-n : Fits w32 n
    walk-n = W.small_n

    pub walk-size : Fits w32 size
    walk-size = W.small_size

    module _ (f : Pair) (G : GivesPair s l scope p f) (g : Fault) (hg : g ≡ f.fault) (b : Bool) (i : b ≡ is_form g) where
      resolve-more : (σ : Environment) (w : Name) (t : TypeName) (k : ℕ) (ms : List (Name × TypeName)) (hs : List (Name × ℕ)) → type_of σ t ≡ some k → resolve σ ms ≡ some hs
          → resolve σ ((w, t) ∷ ms) ≡ some ((w, k) ∷ hs)
      unfolding resolve each ◌>>=◌
      resolve-more σ w t k ms hs e h = rw (e, h) refl

      pub walk-on : b ≡ false → (size' : ℕ) → size' ≡ add_size size (info_of l ts f.kind).size → Fits w32 size' → (new : Bool) → new ≡ is_clear g
          → (ok' : Bool) → ok' ≡ (ok && new) → (n' : ℕ) → n' ≡ counted n → Fits w32 n' → Walking s l ts scope at f.next n' size' ok'
      unfolding types_known ◌>>=◌ field_sizes
      walk-on j size' hs fs' new F ok' ho n' hn fn = record {
        c = suc W.c;
        few = λ h. hn ∙ (counted-few n W.c W.few W.full).0 h;
        full = λ h. hn ∙ (counted-few n W.c W.few W.full).1 h;
        small_n = fn;
        small_size = fs';
        around = W.around ∙ (G.goes (ap is_form (sym hg) ∙ sym i ∙ j)).1.around;
        back = λ top σ bs S h. W.back top σ bs S ((pairs-more s l scope p f G g hg b i j ts top σ bs S).1 ∙ rw h refl);
        left = λ top σ bs S ms h.
            let u = pairs-more s l scope p f G g hg b i j ts top σ bs S in
            let w = map small (word_at s f.name) in
            let m = W.left top σ bs S ((w, u.0) ∷ ms) (u.1 ∙ rw h refl) in
            let v : new ≡ known_type (type_of σ u.0) = F ∙ ap is_clear hg ∙ u.3 in (
              m.0,
              m.1,
              m.2 ∙ omega arith,
              m.3 ∙ ap (λ (z : Bool). ok && (z && types_known σ ms)) (sym v) ∙ and_assoc ok new (types_known σ ms) ∙ ap (λ (z : Bool). z && types_known σ ms) (sym ho),
              λ y.
                  let o = and-true ok new (sym ho ∙ y) in
                  let kn = known_some (type_of σ u.0) (sym v ∙ o.1) in
                  let r = m.4 o.0 in
                  let z : (info_of l ts f.kind).size ≡ size_of σ.types kn.0 = ap (λ (q : ℕ). (info_of l ts q).size) (u.4 kn.0 kn.1) ∙ size-told S kn.0 in (
                    r.0 + size_of σ.types kn.0,
                    rw (hs, z) (tracks-more size r.0 (size_of σ.types kn.0) r.1),
                    λ hs₁ gs a d. r.2 ((w, kn.0) ∷ hs₁) gs (resolve-more σ w u.0 kn.0 ms hs₁ kn.1 a) d ∙ omega arith,
                  ),
            );
      }

      end-pairs : (us : Trees Run) → us ≡ end → pairs_in us ≡ some []
      unfolding pairs_in
      end-pairs us h = rw h refl

      told-end : (o : Bool) (σ : Environment) (fs : List (Name × TypeName)) (q : ℕ) → pairs_in (first (stack_at s at)) ≡ some fs → later (stack_at s at) ≡ stack_at s q
          → (length fs ≤ 1000 → n ≡ length fs) → (1000 < length fs → n ≡ 1000) → pairs_good σ fs ≡ o
          → (o ≡ true → (gs : List (Name × ℕ)) → resolve σ fs ≡ some gs → Tracks size (field_sizes σ.types gs))
          → PairsTold s σ at (record { fault = cond (eqb n 0) fault.Form (cond o fault.Clear fault.Name); names = n; size = size; next = q })
      told-end o σ [] q h a few full good tr = pairs-empty (ap (λ (z : Bool). cond z fault.Form (cond o fault.Clear fault.Name)) (eq-eqb n 0 (few (omega arith)))) h
      told-end o σ (x ∷ fs) q h a few full good tr = pairs-read x fs h a few full
          (ap (λ (z : Bool). cond z fault.Form (cond o fault.Clear fault.Name)) (ne_eqb n 0 (count-some n (length fs) few full)) ∙ ap (λ (z : Bool). cond z fault.Clear fault.Name) (sym good))
          (λ y gs e. tr (sym good ∙ y) gs e)

      resolve-none : (σ : Environment) → resolve σ [] ≡ some []
      unfolding resolve each
      resolve-none σ = refl

      zero-tracks : (v t u : ℕ) → u ≡ t + 0 → Tracks v t → Tracks v u
      zero-tracks v t u e T = let z : t ≡ u = omega arith in rw z at T

      pub walk_end : b ≡ true → (r : Pairs) → EndsPairs s p n size (ok && apart (leads_at s at)) r → GivesPairs s l ts scope at r
      unfolding pairs_good types_known field_sizes
      walk_end j r (ends-wrong h) = record { says = λ top σ bs S. pairs-wrong refl (W.back top σ bs S (pairs-none s l scope p f G g hg b i j ts top σ bs S h)) }
      walk_end j r (ends_read q h a) = record {
        says = λ top σ bs S.
            let m = W.left top σ bs S [] (end-pairs (first (stack_at s p)) h) in
            let z : length m.0 ≡ W.c = m.2 ∙ omega arith in
            told-end (ok && apart (leads_at s at)) σ m.0 q m.1 (W.around ∙ a) (λ x. W.few (rw z at x) ∙ sym z) (λ x. W.full (rw z at x))
            (ap (λ (y : Bool). y && distinct σ (firsts m.0)) (m.3 ∙ and-true-right ok)
            ∙ ap (λ (y : Bool). ok && y) (distinct_apart σ (firsts m.0) ∙ ap apart (sym (pairs-lead (first (stack_at s at)) m.0 m.1))))
            (λ y gs e. let u = m.4 (and-true ok (apart (leads_at s at)) y).0 in zero-tracks size u.0 (field_sizes σ.types gs) (u.2 [] gs (resolve-none σ) e) u.1);
      }

pub ruleset walk-laws = (walk-on, walk_end)
