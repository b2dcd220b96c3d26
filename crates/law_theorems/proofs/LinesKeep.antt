-- What the lines of a text keep: sane tables, laid variables, names that lead into the tables, bodies with formed tables.
use mathlib.Core.Option as O
use mathlib.Core.Path.{◌≡◌, refl, sym, ap, ◌∙◌}
use mathlib.Core.Bool.{Bool, true, false, ◌&&◌, ◌||◌}
use mathlib.Core.List.{List, [], ◌∷◌, ◌++◌, append_assoc, append-nil, map}
use mathlib.Core.Option.{some}
use Prim.Native.Nat.{ℕ, zero, suc, ◌+◌, ◌-◌, ◌≤◌, ◌<◌}
use native.Mathlib.Nat.{add_assoc, add-zero, zero-add}
use native.Mathlib.Omega.{arith}
use lib.IntN.{ℤ, pos, neg_ℤ}
use borrow.Author.Tests.{eqb-true}
use lib.Dec.{eqb, leb}
use lib.ListN.{get_or, length, length-append, length-map, length-replicate, get_or-append, replicate}
use lib.Seq.{get_or-append-add}
use lib.Signed.{le_z}
use Rattle.leaf_integers.specs.Integers.{inside, least, most}
use Rattle.leaf_bytes.specs.Bytes.{same}
use Rattle.law.specs.Calculate as Calculate
use Rattle.law.specs.Syntax as Syntax
use Rattle.law.specs.Base.{Name, ◌>>=◌, each, find}
use Rattle.law.specs.Ceilings.{cells_in, line_bounded, type_bounded, variables_in}
use Rattle.law.specs.Code.{BodyCode, Frame, no_frame}
use Rattle.law.specs.Environment.{Declared, Environment, NameSort, PlacedBody, a_proc, a_type, a_value, a_var, decl_names, declare_line, enum_names, extend_types, frame_of, nothing_declared, parameter_types, type_sort_of, want_of, with_body, with_parameter, within}
use Rattle.law.specs.Lines.{Line, lines_of}
use Rattle.law.specs.Machine.{lent_cells, store_cells}
use Rattle.law.specs.Names.{as_type, as_value, constant_of, body_of, decl_of, entry_of, pair_of, type_of}
use Rattle.law.specs.Rules.{keeps_rules, kept_body, kept_decl, kept_parameters, plain}
use Rattle.law.specs.Script.{Body, Const, Decl, Entry, alias, array_of, enum, new_main, new_proc, new_type, new_var, range, record_of, set_of}
use Rattle.law.specs.Store.{cell_fits}
use Rattle.law.specs.Syntax.{Constant, LineForm, TypeForm, TypeName, boolean, declared, integer, main_line, minus, named, number, proc_line, truth, type_line, var_line}
use Rattle.law.specs.Types.{TypeSort, Types, Var, Vars, cells_of, info_at, ordinal?, set?, size_of, variable}
use Rattle.law.specs.Verdict.{Read, accepted, has, judge, judge_lines, strictly}
use Rattle.law.specs.Whole.{verdict_of}
use Rattle.law_theorems.proofs.TextsAgree.{accepted-inj, onward-is, opening-is, line-good}
use Rattle.law_theorems.proofs.Inversion.{some_inj, bind-some, given-some, and-true}
use borrow.Author.Tests.{le-leb, leb-true}
use Rattle.law_theorems.proofs.Inversion.{and-both}
use Rattle.law_theorems.proofs.ScriptCalls.{body-calling}
use Rattle.law_theorems.specs.ScriptCalls.{CallingBody}
use Rattle.law_theorems.proofs.ValuesInRange.{here-trans, none-some, ord-layout, set-layout}
use Rattle.law_theorems.specs.ValuesInRange.{Test, any, Here, Formed, Parted, before, behind, one}
use Rattle.law_theorems.proofs.TypeTables.{all_append, all_more, all-get, at_left, at_right, Valid, declared as table-declared, parted-as, started, formed, old, new}
use Rattle.law_theorems.specs.TypeTables.{All, AllIn, empty, more, Table}
use Rattle.law_theorems.specs.LinesKeep as Keeping
use Rattle.law_theorems.specs.LinesKeep.{AllFair, AllFormed, AllNames, Apart, Callee, Extends, Fair, Framed, Keeps, Known, Simple, Stand, a-frame, body, frames_of, name, no-bodies, no_frames, no_names, proc, store_tests, tests, type, value, var}

-- ---- the tests of cells of given types

pub tests-length : (Γ : Types) (ts : List ℕ) → length (tests Γ ts) ≡ length ts
unfolding tests
tests-length Γ [] = refl
tests-length Γ (t ∷ ts) = ap suc (tests-length Γ ts)

pub tests-get : (Γ : Types) (ts : List ℕ) (j : ℕ) → j < length ts → (z : ℤ) → get_or (tests Γ ts) j any z ≡ cell_fits Γ (get_or ts j 0) z
unfolding tests
tests-get Γ [] j l z = absurd (omega arith)
tests-get Γ (t ∷ ts) zero l z = refl
tests-get Γ (t ∷ ts) (suc j) l z = tests-get Γ ts j (omega arith) z

-- the first of cells that stand in a row, and the others
here-front : {Γ : Types} {xs : List Test} {a : ℕ} (ts us : List ℕ) → Here Γ xs a (ts ++ us) → Here Γ xs a ts
here-front ts us h = rw add-zero at (here-trans h (at_left ts us))

here_back : {Γ : Types} {xs : List Test} {a : ℕ} (ts us : List ℕ) → Here Γ xs a (ts ++ us) → Here Γ xs (a + length ts) us
here_back ts us h = here-trans h (at_right ts us)

-- more tests after them, or before
here-more : {Γ : Types} {xs : List Test} {a : ℕ} {ts : List ℕ} (ys : List Test) → Here Γ xs a ts → Here Γ (xs ++ ys) a ts
here-more {xs} {a} ys h = record {
  short = rw length-append (omega (arith, h.short));
  each = λ j l z. ap (λ (f : Test). f z) (get_or-append xs ys any (a + j) (omega (arith, h.short))) ∙ h.each j l z;
}

here-past : {Γ : Types} (xs : List Test) {ys : List Test} {a : ℕ} {ts : List ℕ} → Here Γ ys a ts → Here Γ (xs ++ ys) (length xs + a) ts
here-past xs {ys} {a} h = record {
  short = rw length-append (omega (arith, h.short));
  each = λ j l z. rw add_assoc (ap (λ (f : Test). f z) (get_or-append-add xs ys (a + j) any) ∙ h.each j l z);
}

here-all : (Γ : Types) (ts : List ℕ) → Here Γ (tests Γ ts) 0 ts
here-all Γ ts = record { short = rw (tests-length Γ ts) (omega arith); each = λ j l z. rw zero-add (tests-get Γ ts j l z) }

-- the tests of a whole store: those of the lent cells, then others
pub store-tests-length : (Γ : Types) (ts ps : List ℕ) → length (store_tests Γ ts ps) ≡ length ts + ((lent_cells - length ts) + length ps)
store-tests-length Γ ts ps = rw (length-append, tests-length Γ ts, length-append, length-replicate, tests-length Γ ps)

-- the cells of a whole store stand in their tests
store-stands : (k : Declared) → length k.cells ≤ lent_cells → Stand k (store_tests k.env.types k.cells k.env.parameters)
store-stands k l =
    let Γ = k.env.types in
    let gap = replicate (lent_cells - length k.cells) any in
    let e : length (tests Γ k.cells) + (length gap + 0) ≡ lent_cells = rw (tests-length Γ k.cells, length-replicate) (omega arith) in
    record { lent = here-more _ (here-all Γ k.cells); own = rw e at (here-past (tests Γ k.cells) (here-past gap (here-all Γ k.env.parameters))) }

-- ---- a table that has another's entries

one_more : (Γ : Types) (i : TypeSort) → Extends Γ (Γ ++ (i ∷ []))
one_more Γ i = record { keeps = old Γ i; longer = rw length-append (omega arith) }

pub declared-more : (Γ : Types) (d : Decl) → Extends Γ (extend_types Γ d)
unfolding extend_types
declared-more Γ (alias t) = record { keeps = λ t l. refl; longer = omega arith }
declared-more Γ (enum v vs) = one_more Γ _
declared-more Γ (range a b) = one_more Γ _
declared-more Γ (array_of i e) = one_more Γ _
declared-more Γ (record_of fs) = one_more Γ _
declared-more Γ (set_of b) = one_more Γ _

module _ {Γ Γ' : Types} (x : Extends Γ Γ') where
  same-fits : (t : ℕ) → t < length Γ → (z : ℤ) → cell_fits Γ' t z ≡ cell_fits Γ t z
  same-fits t l z = rw (x.keeps t l)

  pub same-cells : (t : ℕ) → t < length Γ → cells_of Γ' t ≡ cells_of Γ t
  same-cells t l = rw (x.keeps t l)

  same_tests : {ts : List ℕ} → AllIn (length Γ) ts → tests Γ' ts ≡ tests Γ ts
  unfolding tests
  same_tests empty = refl
  same_tests (more {t} {ts} l a) = rw (x.keeps t l, same_tests a)

  here-same : {xs : List Test} {a : ℕ} {ts : List ℕ} → AllIn (length Γ) ts → Here Γ xs a ts → Here Γ' xs a ts
  here-same {ts} k h = record { short = h.short; each = λ j l z. h.each j l z ∙ sym (same-fits (get_or ts j 0) (all-get k j l) z) }

  here-less : {xs : List Test} {a : ℕ} {ts : List ℕ} → AllIn (length Γ) ts → Here Γ' xs a ts → Here Γ xs a ts
  here-less {ts} k h = record { short = h.short; each = λ j l z. h.each j l z ∙ same-fits (get_or ts j 0) (all-get k j l) z }

  same-wants : {ts : List ℕ} → AllIn (length Γ) ts → map (want_of Γ') ts ≡ map (want_of Γ) ts
  same-wants empty = refl
  same-wants (more {t} {ts} l a) = rw (x.keeps t l, same-wants a)

  framed-same : {xs : List Test} {ts : List ℕ} {q : Frame} → AllIn (length Γ) ts → Framed Γ xs ts q → Framed Γ' xs ts q
  framed-same {ts} k f = record { wants = f.wants ∙ sym (same-wants k); here = here-same k f.here; simple = λ j l. rw (x.keeps (get_or ts j 0) (all-get k j l)) (f.simple j l) }

-- ---- names that lead into the table, or to one of k bodies

module _ {P : NameSort → Type 0} where
  names-append : {xs ys : List (Name × NameSort)} → AllNames P xs → AllNames P ys → AllNames P (xs ++ ys)
  names-append no_names b = b
  names-append (name f a) b = name f (names-append a b)

  pub find-named : {ns : List (Name × NameSort)} → AllNames P ns → (w : Name) (m : NameSort) → find ns w ≡ some m → P m
  unfolding find
  find-named no_names w m h = absurd (none-some h)
  find-named (name {w = v} {m = n} {ns = ns} f a) w m h = go (same v w) refl (λ e. find-named a w m e)
    where
      go : (b : Bool) → same v w ≡ b → (find ns w ≡ some m → P m) → P m
      go true e k = let q : n ≡ m = some_inj (rw (e, find) at h) in rw (← q) f
      go false e k = k (rw (e, find) at h)

  -- the names of a `type` line, of which none is a variable's or a procedure's
  module _ (types : (t : ℕ) → P (a_type t)) (values : (c : Const) → P (a_value c)) where
    enum-named : (t n : ℕ) (vs : List Name) → AllNames P (enum_names t n vs)
    unfolding enum_names
    enum-named t n [] = no_names
    enum-named t n (v ∷ vs) = name (values _) (enum-named t (suc n) vs)

    decl-named : (Γ : Types) (w : Name) (d : Decl) → AllNames P (decl_names Γ w d)
    unfolding decl_names
    decl-named Γ w (alias t) = name (types _) no_names
    decl-named Γ w (enum v vs) = name (types _) (enum-named _ 0 (v ∷ vs))
    decl-named Γ w (range a b) = name (types _) no_names
    decl-named Γ w (array_of i e) = name (types _) no_names
    decl-named Γ w (record_of fs) = name (types _) no_names
    decl-named Γ w (set_of b) = name (types _) no_names

  -- a procedure's own names
  within-named : ((i : ℕ) → P (a_var i)) → (σ : Environment) (ps : List (Name × ℕ)) → AllNames P σ.names → AllNames P (within σ ps).names
  unfolding within
  within-named v σ [] a = a
  within-named v σ (p ∷ ps) a = within-named v (with_parameter σ p) ps (name (v _) a)

module _ {Γ Γ' : Types} (x : Extends Γ Γ') {k k' : ℕ} (b : k ≤ k') where
  fair-more : {m : NameSort} → Fair Γ k m → Fair Γ' k' m
  fair-more (type {t} l) = type {t = t} (omega (arith, x.longer))
  fair-more var = var
  fair-more (proc {p} l a) = proc {p = p} (omega arith) (all_more x.longer a)
  fair-more (value {c} l h) = value {c = c} (omega (arith, x.longer)) (rw (x.keeps c.kind l) h)

  all-fair-more : {ns : List (Name × NameSort)} → AllFair Γ k ns → AllFair Γ' k' ns
  all-fair-more no_names = no_names
  all-fair-more (name f a) = name (fair-more f) (all-fair-more a)

pub find-fair : {Γ : Types} {k : ℕ} {ns : List (Name × NameSort)} → AllFair Γ k ns → (w : Name) (m : NameSort) → find ns w ≡ some m → Fair Γ k m
find-fair a w m h = find-named a w m h

-- with more types, and frames that keep those of the bodies so far
module _ {Γ Γ' : Types} (x : Extends Γ Γ') {k : ℕ} {xs : List Test} (qs rs : List Frame) where
  known_more : {m : NameSort} → Fair Γ k m → Known Γ xs qs m → Known Γ' xs (qs ++ rs) m
  known_more f Keeping.Known.type = Keeping.Known.type
  known_more f Keeping.Known.var = Keeping.Known.var
  known_more (proc {p} {ts} l a) (Keeping.Known.proc c) = Keeping.Known.proc {p = p} {ts = ts} (record { below = rw length-append (omega (arith, c.below)); framed = rw (get_or-append qs rs no_frame p c.below) (framed-same x a c.framed) })
  known_more f Keeping.Known.value = Keeping.Known.value

  all-known-more : {ns : List (Name × NameSort)} → AllFair Γ k ns → AllNames (Known Γ xs qs) ns → AllNames (Known Γ' xs (qs ++ rs)) ns
  all-known-more no_names no_names = no_names
  all-known-more (name f a) (name g b) = name (known_more f g) (all-known-more a b)

-- ---- what row 7 found is in the table

no-type : {X : Type 0} {n : ℕ} → O.none ≡ some n → X
no-type h = absurd (none-some h)

no_value : {X : Type 0} {n : Const} → O.none ≡ some n → X
no_value h = absurd (none-some h)

type-fair : {Γ : Types} {k : ℕ} {m : NameSort} (n : ℕ) → Fair Γ k m → as_type m ≡ some n → n < length Γ
type-fair n (type l) e = rw (← some_inj e) l
type-fair n var e = no-type e
type-fair n (proc l a) e = no-type e
type-fair n (value l h) e = no-type e

value-fair : {Γ : Types} {k : ℕ} {m : NameSort} (c : Const) → Fair Γ k m → as_value m ≡ some c → Fair Γ k (a_value c)
value-fair c (type l) e = no_value e
value-fair c var e = no_value e
value-fair c (proc l a) e = no_value e
value-fair c (value l h) e = rw (← some_inj e) (value l h)

proc-fair : {Γ : Types} {k p : ℕ} {ts : List ℕ} → Fair Γ k (a_proc p ts) → p < k
proc-fair (proc l a) = l

pub proc-in : {Γ : Types} {k : ℕ} {ns : List (Name × NameSort)} → AllFair Γ k ns → (w : Name) (p : ℕ) (ts : List ℕ) → find ns w ≡ some (a_proc p ts) → p < k
proc-in ns w p ts h = proc-fair (find-fair ns w (a_proc p ts) h)

known-proc : {Γ : Types} {xs : List Test} {qs : List Frame} {p : ℕ} {ts : List ℕ} → Known Γ xs qs (a_proc p ts) → Callee Γ xs qs p ts
known-proc (Keeping.Known.proc c) = c

module _ (σ : Environment) (𝓣 : Table σ.types) {k : ℕ} (ns : AllFair σ.types k σ.names) where
  abbrev Γσ : Types
  Γσ = σ.types

  type-in : (t : TypeName) (n : ℕ) → type_of σ t ≡ some n → n < length σ.types
  unfolding type_of
  type-in integer n h = rw (← some_inj h) (omega (arith, 𝓣.two))
  type-in boolean n h = rw (← some_inj h) (omega (arith, 𝓣.two))
  type-in (declared w) n h = bind-some h λ m hm e. type-fair n (find-fair ns w m hm) e

  integer-fair : (z : ℤ) → inside least most z ≡ true → Fair σ.types k (a_value (record { kind = 0; value = z }))
  integer-fair z p = value {c = record { kind = 0; value = z }} (omega (arith, 𝓣.two)) (rw (𝓣.integers.0, 𝓣.integers.1, 𝓣.integers.2) p)

  truth-fair : (b : Bool) → Fair σ.types k (a_value (record { kind = 1; value = Calculate.truth b }))
  unfolding Calculate.truth inside
  truth-fair true = value {c = record { kind = 1; value = pos 1 }} (omega (arith, 𝓣.two)) (rw (𝓣.booleans.0, 𝓣.booleans.1, 𝓣.booleans.2))
  truth-fair false = value {c = record { kind = 1; value = pos 0 }} (omega (arith, 𝓣.two)) (rw (𝓣.booleans.0, 𝓣.booleans.1, 𝓣.booleans.2))

  const-in : (c : Constant) (x : Const) → constant_of σ c ≡ some x → plain x ≡ true → Fair σ.types k (a_value x)
  unfolding constant_of plain
  const-in (number z) x h p = rw (← some_inj h) (integer-fair z (rw (← some_inj h) at p))
  const-in (minus z) x h p = rw (← some_inj h) (integer-fair (neg_ℤ z) (rw (← some_inj h) at p))
  const-in (truth b) x h p = rw (← some_inj h) (truth-fair b)
  const-in (named w) x h p = bind-some h λ m hm e. value-fair x (find-fair ns w m hm) e

  -- a range of two such constants of one kind
  range-valid : (a b : Const) → Fair Γσ k (a_value a) → Fair Γσ k (a_value b) → plain a ≡ true → plain b ≡ true → a.kind ≡ b.kind → le_z a.value b.value ≡ true → Valid Γσ (range a b)
  unfolding plain inside
  range-valid a b (value la ha) (value lb hb) pa pb e l =
      let ka = and-true (ordinal? Γσ a.kind) _ ha in let kb = and-true (ordinal? Γσ b.kind) _ hb in (
        la,
        ka.0,
        (and-true (le_z (info_at Γσ a.kind).low a.value) _ ka.1).0,
        rw e (and-true (le_z (info_at Γσ b.kind).low b.value) _ kb.1).1,
        (and-true (le_z least a.value) _ pa).0,
        (and-true (le_z least b.value) _ pb).1,
        l,
      )

  fields_in : (fs : List (Name × TypeName)) (gs : List (Name × ℕ)) → each (λ (f : Name × TypeName). type_of σ f.1 >>= λ t. some (f.0, t)) fs ≡ some gs → All (λ t. t < length σ.types) gs
  unfolding each
  fields_in [] gs h = rw (← some_inj h) tt
  fields_in (f ∷ fs) gs h = bind-some h λ g hg h'. bind-some h' λ gs' hgs e. bind-some hg λ t ht e'.
      rw (← some_inj e, ← some_inj e') (type-in f.1 t ht, fields_in fs gs' hgs)

  -- a declaration that kept rows 7, 8 and 9
  pub decl-valid : (w : Name) (t : TypeForm) (d : Decl) → decl_of σ w t ≡ some d → kept_decl σ.types d ≡ true → type_bounded σ.types d ≡ true → Valid σ.types d
  unfolding decl_of kept_decl type_bounded
  decl-valid w (Syntax.alias t) d h k b = bind-some h λ n hn e. given-some e λ _ v. rw (← v) tt
  decl-valid w (Syntax.enum v vs) d h k b = given-some h λ _ q. rw (← q) (le-leb (length vs) 2147483647 (let l : suc (length vs) ≤ 256 = leb-true _ _ (rw (← q) at b) in omega arith))
  decl-valid w (Syntax.range x y) d h k b = bind-some h λ a ha h'. bind-some h' λ c hc e. given-some e λ _ v.
      let k' : (((plain a && plain c) && eqb a.kind c.kind) && le_z a.value c.value) ≡ true = rw (← v) at k in
      let k₁ = and-true _ (le_z a.value c.value) k' in let k₂ = and-true _ (eqb a.kind c.kind) k₁.0 in let k₃ = and-true (plain a) (plain c) k₂.0 in
      rw (← v) (range-valid a c (const-in x a ha k₃.0) (const-in y c hc k₃.1) k₃.0 k₃.1 (eqb-true a.kind c.kind (k₂.1)) k₁.1)
  decl-valid w (Syntax.array_of i e) d h k b = bind-some h λ x hx h'. bind-some h' λ y hy q. given-some q λ _ v. rw (← v) (type-in e y hy, type-in i x hx, rw (← v) at k)
  decl-valid w (Syntax.record_of fs) d h k b = bind-some h λ gs hgs q. given-some q λ _ v. rw (← v) (fields_in fs gs hgs)
  decl-valid w (Syntax.set_of s) d h k b = bind-some h λ x hx q. given-some q λ _ v.
      rw (← v) (type-in s x hx, rw (← v) at k, (and-true (le_z (pos 0) (info_at Γσ x).low) _ (rw (← v) at b)).0)

-- ---- the names of a declaration

inside-from : (n top : ℕ) → n ≤ top → inside (pos 0) (pos top) (pos n) ≡ true
unfolding inside
inside-from n top l = and-both _ _ (le-leb 0 n (omega arith)) (le-leb n top l)

enum-fair : (Γ : Types) (t n : ℕ) (vs : List Name) (top : ℕ) → t < length Γ → ordinal? Γ t ≡ true → (info_at Γ t).low ≡ pos 0 → (info_at Γ t).high ≡ pos top → n + length vs ≤ suc top → {k : ℕ} → AllFair Γ k (enum_names t n vs)
unfolding enum_names
enum-fair Γ t n [] top l o lo hi b = no_names
enum-fair Γ t n (v ∷ vs) top l o lo hi b =
    name (value {c = record { kind = t; value = pos n }} l (rw (o, lo, hi) (inside-from n top (omega arith)))) (enum-fair Γ t (suc n) vs top l o lo hi (omega arith))

-- the next entry's number
new_in : (Γ : Types) (i : TypeSort) {k : ℕ} → Fair (Γ ++ (i ∷ [])) k (a_type (length Γ))
new_in Γ i = type {t = length Γ} (rw length-append (omega arith))

decl-fair : (σ : Environment) → Table σ.types → {k : ℕ} → AllFair σ.types k σ.names → (w : Name) (t : TypeForm) (d : Decl) → decl_of σ w t ≡ some d → AllFair (extend_types σ.types d) k (decl_names σ.types w d)
unfolding decl_of extend_types decl_names type_sort_of
decl-fair σ 𝓣 ns w (Syntax.alias t) d h = bind-some h λ n hn e. given-some e λ _ v. rw (← v) (name (type (type-in σ 𝓣 ns t n hn)) no_names)
decl-fair σ 𝓣 ns w (Syntax.enum v vs) d h = given-some h λ _ q. rw (← q) (name (new_in σ.types _)
    (enum-fair _ (length σ.types) 0 (v ∷ vs) (length vs) (rw length-append (omega arith)) (rw new) (rw new) (rw new) (omega arith)))
decl-fair σ 𝓣 ns w (Syntax.range x y) d h = bind-some h λ a ha h'. bind-some h' λ c hc e. given-some e λ _ v. rw (← v) (name (new_in σ.types _) no_names)
decl-fair σ 𝓣 ns w (Syntax.array_of i e) d h = bind-some h λ x hx h'. bind-some h' λ y hy q. given-some q λ _ v. rw (← v) (name (new_in σ.types _) no_names)
decl-fair σ 𝓣 ns w (Syntax.record_of fs) d h = bind-some h λ gs hgs q. given-some q λ _ v. rw (← v) (name (new_in σ.types _) no_names)
decl-fair σ 𝓣 ns w (Syntax.set_of b) d h = bind-some h λ x hx q. given-some q λ _ v. rw (← v) (name (new_in σ.types _) no_names)

-- ---- parameters

pub within-types : (σ : Environment) (ps : List (Name × ℕ)) → (within σ ps).types ≡ σ.types
unfolding within
within-types σ [] = refl
within-types σ (p ∷ ps) = within-types (with_parameter σ p) ps

pub within-parameters : (σ : Environment) (ps : List (Name × ℕ)) → (within σ ps).parameters ≡ σ.parameters ++ parameter_types ps
unfolding within
within-parameters σ [] = sym (append-nil σ.parameters)
within-parameters σ (p ∷ ps) = within-parameters (with_parameter σ p) ps ∙ append_assoc σ.parameters (p.1 ∷ []) (parameter_types ps)

types-in : (n : ℕ) (ps : List (Name × ℕ)) → All (λ t. t < n) ps → AllIn n (parameter_types ps)
types-in n [] a = empty
types-in n (p ∷ ps) a = more a.0 (types-in n ps a.1)

-- an ordinal or a set is one cell
sole-cell : (Γ : Types) (t : ℕ) → (ordinal? Γ t || set? Γ t) ≡ true → cells_of Γ t ≡ t ∷ []
sole-cell Γ t h = go (ordinal? Γ t) refl h
  where
    go : (b : Bool) → ordinal? Γ t ≡ b → (b || set? Γ t) ≡ true → cells_of Γ t ≡ t ∷ []
    go true o h = ord-layout (info_at Γ t).shape t (info_at Γ t).cells o
    go false o h = set-layout (info_at Γ t).shape t (info_at Γ t).cells h

-- a variable more
vars-last : (Δ : Vars) (u : Var) (P : Var → Type 0) → P u → ((i : ℕ) (v : Var) → variable Δ i ≡ some v → P v) → (i : ℕ) (v : Var) → variable (Δ ++ (u ∷ [])) i ≡ some v → P v
vars-last [] u P p k zero v h = rw (← some_inj h) p
vars-last [] u P p k (suc i) v h = absurd (none-some h)
vars-last (x ∷ Δ) u P p k zero v h = k zero v h
vars-last (x ∷ Δ) u P p k (suc i) v h = vars-last Δ u P p (λ j. k (suc j)) i v h

-- one more variable, behind the others
last_apart : (Γ : Types) (Δ : Vars) (u : Var) → ((i : ℕ) (v : Var) → variable Δ i ≡ some v → v.base + size_of Γ v.type ≤ u.base)
    → ((i j : ℕ) (v w : Var) → variable Δ i ≡ some v → variable Δ j ≡ some w → Parted Γ v.base v.type w.base w.type)
    → (i j : ℕ) (v w : Var) → variable (Δ ++ (u ∷ [])) i ≡ some v → variable (Δ ++ (u ∷ [])) j ≡ some w → Parted Γ v.base v.type w.base w.type
last_apart Γ Δ u e s i j v w h k =
    vars-last Δ u (λ v. (j : ℕ) (w : Var) → variable (Δ ++ (u ∷ [])) j ≡ some w → Parted Γ v.base v.type w.base w.type)
    (vars-last Δ u (λ w. Parted Γ u.base u.type w.base w.type) (one refl refl) (λ j w f. behind (e j w f)))
    (λ i v f. vars-last Δ u (λ w. Parted Γ v.base v.type w.base w.type) (before (e i v f)) (λ j w g. s i j v w f g)) i v h j w k

-- with more types
more-apart : {Γ Γ' : Types} (x : Extends Γ Γ') (Δ : Vars) → ((i : ℕ) (v : Var) → variable Δ i ≡ some v → v.type < length Γ)
    → ((i j : ℕ) (v w : Var) → variable Δ i ≡ some v → variable Δ j ≡ some w → Parted Γ v.base v.type w.base w.type)
    → (i j : ℕ) (v w : Var) → variable Δ i ≡ some v → variable Δ j ≡ some w → Parted Γ' v.base v.type w.base w.type
more-apart x Δ l s i j v w h k = parted-as (same-cells x v.type (l i v h)) (same-cells x w.type (l j w k)) (s i j v w h k)

-- parameters lie one after another, behind all that may be lent
within-apart : (Γ : Types) (σ : Environment) (ps : List (Name × ℕ)) → kept_parameters Γ ps ≡ true
    → ((i : ℕ) (v : Var) → variable σ.vars i ≡ some v → v.base + size_of Γ v.type ≤ lent_cells + length σ.parameters)
    → ((i j : ℕ) (v w : Var) → variable σ.vars i ≡ some v → variable σ.vars j ≡ some w → Parted Γ v.base v.type w.base w.type)
    → (i j : ℕ) (v w : Var) → variable (within σ ps).vars i ≡ some v → variable (within σ ps).vars j ≡ some w → Parted Γ v.base v.type w.base w.type
unfolding within kept_parameters
within-apart Γ σ [] k e s = s
within-apart Γ σ (p ∷ ps) k e s =
    let q = and-true (ordinal? Γ p.1 || set? Γ p.1) (kept_parameters Γ ps) k in
    let more : length (σ.parameters ++ (p.1 ∷ [])) ≡ length σ.parameters + 1 = rw length-append refl in
    within-apart Γ (with_parameter σ p) ps q.1
    (vars-last σ.vars _ (λ v. v.base + size_of Γ v.type ≤ lent_cells + length (σ.parameters ++ (p.1 ∷ []))) (rw (sole-cell Γ p.1 q.0) (omega (arith, more))) (λ i v h. let l = e i v h in omega (arith, more)))
    (last_apart Γ σ.vars (record { type = p.1; base = lent_cells + length σ.parameters }) e s)

module _ (Γ : Types) (xs : List Test) where
  abbrev Stands : Var → Type 0
  Stands v = Here Γ xs v.base (cells_of Γ v.type)

  within-laid : (σ : Environment) (ps : List (Name × ℕ)) → kept_parameters Γ ps ≡ true → Here Γ xs (lent_cells + length σ.parameters) (parameter_types ps)
      → ((i : ℕ) (v : Var) → variable σ.vars i ≡ some v → Stands v) → (i : ℕ) (v : Var) → variable (within σ ps).vars i ≡ some v → Stands v
  unfolding within kept_parameters
  within-laid σ [] k h f = f
  within-laid σ (p ∷ ps) k h f =
      let q = and-true (ordinal? Γ p.1 || set? Γ p.1) (kept_parameters Γ ps) k in
      let e : lent_cells + length σ.parameters + 1 ≡ lent_cells + length (σ.parameters ++ (p.1 ∷ [])) = rw length-append (omega arith) in
      within-laid (with_parameter σ p) ps q.1 (rw e at (here_back (p.1 ∷ []) (parameter_types ps) h))
      (vars-last σ.vars _ Stands (rw (sole-cell Γ p.1 q.0) (here-front (p.1 ∷ []) (parameter_types ps) h)) f)

kept-simple : (Γ : Types) (ps : List (Name × ℕ)) → kept_parameters Γ ps ≡ true → Simple Γ (parameter_types ps)
unfolding kept_parameters
kept-simple Γ [] k j l = absurd (omega arith)
kept-simple Γ (p ∷ ps) k zero l = (and-true _ (kept_parameters Γ ps) k).0
kept-simple Γ (p ∷ ps) k (suc j) l = kept-simple Γ ps (and-true (ordinal? Γ p.1 || set? Γ p.1) _ k).1 j (omega arith)

-- the parameters ps in their frame
framed : (σ : Environment) (xs : List Test) (ps : List (Name × ℕ)) → kept_parameters σ.types ps ≡ true → Here σ.types xs (lent_cells + length σ.parameters) (parameter_types ps) → Framed σ.types xs (parameter_types ps) (frame_of σ ps)
unfolding frame_of
framed σ xs [] k h = record { wants = refl; here = record { short = omega arith; each = λ j l. absurd (omega arith) }; simple = λ j l. absurd (omega arith) }
framed σ xs (p ∷ ps) k h = record { wants = refl; here = h; simple = kept-simple σ.types (p ∷ ps) k }

frame-count : (σ : Environment) (ps : List (Name × ℕ)) → length (frame_of σ ps).wants ≡ length ps
unfolding frame_of
frame-count σ [] = refl
frame-count σ (p ∷ ps) = length-map (parameter_types (p ∷ ps)) (want_of σ.types) ∙ length-map (p ∷ ps) (λ (q : Name × ℕ). q.1)

frame-base : (σ : Environment) (ps : List (Name × ℕ)) → 0 < length (frame_of σ ps).wants → (frame_of σ ps).base ≡ lent_cells + length σ.parameters
unfolding frame_of
frame-base σ [] h = absurd (omega arith)
frame-base σ (p ∷ ps) h = refl

frame-none : (σ : Environment) (ps : List (Name × ℕ)) → length (frame_of σ ps).wants ≡ 0 → frame_of σ ps ≡ no_frame
unfolding frame_of
frame-none σ [] h = refl
frame-none σ (p ∷ ps) h = absurd (omega arith)

-- ---- bodies

bodies-last : {xs : List Test} {qs : List Frame} {bs : List PlacedBody} (b : PlacedBody) → Formed b.types b.vars xs → CallingBody (Callee b.types xs (qs ++ frames_of bs)) b.body
    → AllFormed xs qs bs → AllFormed xs qs (bs ++ (b ∷ []))
bodies-last {qs} b f c no-bodies = body f (rw (append-nil qs) at c) no-bodies
bodies-last {qs} b f c (body {b = d} {bs = ds} g e a) = body g e (bodies-last b f (rw (← append_assoc qs (d.frame ∷ []) (frames_of ds)) at c) a)

apart-last : {n m : ℕ} {bs : List PlacedBody} (b : PlacedBody) → (0 < length b.frame.wants → b.frame.base ≡ lent_cells + m) → (length b.frame.wants ≡ 0 → b.frame ≡ no_frame)
    → Apart n bs m → Apart n (bs ++ (b ∷ [])) (m + length b.frame.wants)
apart-last b f g no_frames = a-frame f g no_frames
apart-last b f g (a-frame h k a) = a-frame h k (apart-last b f g a)

frames-last : (bs : List PlacedBody) (b : PlacedBody) → frames_of (bs ++ (b ∷ [])) ≡ frames_of bs ++ (b.frame ∷ [])
frames-last [] b = refl
frames-last (c ∷ bs) b = ap (λ (qs : List Frame). c.frame ∷ qs) (frames-last bs b)

frames-new : (bs : List PlacedBody) (b : PlacedBody) → get_or (frames_of (bs ++ (b ∷ []))) (length bs) no_frame ≡ b.frame
frames-new [] b = refl
frames-new (c ∷ bs) b = frames-new bs b

-- ---- what the lines keep

pub keeps-formed : (k : Declared) → Keeps k → (xs : List Test) → Stand k xs → Formed k.env.types k.env.vars xs
keeps-formed k h xs S = formed k.env.types k.env.vars xs h.table (h.laid xs S)

-- the tests of a whole store
pub text-stand : (k : Declared) → Keeps k → Stand k (store_tests k.env.types k.cells k.env.parameters)
text-stand k h = store-stands k h.lent

pub text-tests : (k : Declared) → Keeps k → length (store_tests k.env.types k.cells k.env.parameters) ≤ store_cells
text-tests k h = rw (store-tests-length k.env.types k.cells k.env.parameters) (omega (arith, h.lent, h.stored))

pub keeps-start : Keeps nothing_declared
keeps-start = record {
  table = started;
  laid = λ xs S. record { found = λ i v h. absurd (none-some h); apart = λ i j v w h k. absurd (none-some h) };
  ends = λ i v h. absurd (none-some h);
  separate = λ i j v w h k. absurd (none-some h);
  cells = empty;
  parameters = empty;
  typed = λ i v h. absurd (none-some h);
  names = no_names;
  known = λ xs S. no_names;
  bodies = λ xs S. no-bodies;
  apart = no_frames;
  lent = omega arith;
  stored = omega arith;
}

-- a `type` line
type-keeps : (k : Declared) → Keeps k → (w : Name) (t : TypeForm) (d : Decl) → decl_of k.env w t ≡ some d → Valid k.env.types d → (s n : ℕ) → Keeps (declare_line k (new_type w d) s n)
unfolding declare_line
type-keeps k h w t d e v s n =
    let x = declared-more k.env.types d in
    let less : (xs : List Test) → Stand (declare_line k (new_type w d) s n) xs → Stand k xs = λ xs S. record { lent = here-less x h.cells S.lent; own = here-less x h.parameters S.own } in
    record {
      table = table-declared k.env.types d v h.table;
      laid = λ xs S. record { found = λ i u hu. rw (same-cells x u.type (h.typed i u hu)) (here-same x ((h.table.each u.type).inner (h.typed i u hu)) ((h.laid xs (less xs S)).found i u hu)); apart = more-apart x k.env.vars h.typed h.separate };
      ends = λ i u hu. rw (same-cells x u.type (h.typed i u hu)) (h.ends i u hu);
      separate = more-apart x k.env.vars h.typed h.separate;
      cells = all_more x.longer h.cells;
      parameters = all_more x.longer h.parameters;
      typed = λ i u hu. let l = h.typed i u hu in omega (arith, x.longer);
      names = names-append (decl-fair k.env h.table h.names w t d e) (all-fair-more x (omega arith) h.names);
      known = λ xs S. names-append (decl-named (λ _. Keeping.Known.type) (λ _. Keeping.Known.value) k.env.types w d) (rw append-nil at (all-known-more x (frames_of k.bodies) [] h.names (h.known xs (less xs S))));
      bodies = λ xs S. h.bodies xs (less xs S);
      apart = h.apart;
      lent = h.lent;
      stored = h.stored;
    }

var-separate : (k : Declared) → Keeps k → (t i j : ℕ) (v w : Var) → variable (k.env.vars ++ (record { type = t; base = length k.cells } ∷ [])) i ≡ some v
    → variable (k.env.vars ++ (record { type = t; base = length k.cells } ∷ [])) j ≡ some w → Parted k.env.types v.base v.type w.base w.type
var-separate k h t = last_apart k.env.types k.env.vars (record { type = t; base = length k.cells }) h.ends h.separate

var-keeps : (k : Declared) → Keeps k → (w : Name) (t : ℕ) → t < length k.env.types → length k.cells + length (cells_of k.env.types t) ≤ lent_cells → (s n : ℕ) → Keeps (declare_line k (new_var w t) s n)
unfolding declare_line
var-keeps k h w t l r s n =
    let Γ = k.env.types in
    let less : (xs : List Test) → Stand (declare_line k (new_var w t) s n) xs → Stand k xs = λ xs S. record { lent = here-front k.cells (cells_of Γ t) S.lent; own = S.own } in
    record {
      table = h.table;
      laid = λ xs S. record { found = vars-last k.env.vars _ (Stands Γ xs) (rw zero-add at (here_back k.cells (cells_of Γ t) S.lent)) (h.laid xs (less xs S)).found; apart = var-separate k h t };
      ends = vars-last k.env.vars _ (λ v. v.base + size_of Γ v.type ≤ length (k.cells ++ cells_of Γ t)) (rw length-append (omega arith)) (λ i v e. rw length-append (let l = h.ends i v e in omega arith));
      separate = var-separate k h t;
      cells = all_append h.cells ((h.table.each t).inner l);
      parameters = h.parameters;
      typed = vars-last k.env.vars _ (λ v. v.type < length Γ) l h.typed;
      names = name var h.names;
      known = λ xs S. name Keeping.Known.var (h.known xs (less xs S));
      bodies = λ xs S. h.bodies xs (less xs S);
      apart = h.apart;
      lent = rw length-append r;
      stored = h.stored;
    }

-- the ceilings of a `proc` line
pub record Bounds (k : Declared) (ps : List (Name × ℕ)) : Type 0 where
  pub bodies : suc (length k.bodies) ≤ 32
  pub few : length ps ≤ 8
  pub variables : variables_in k + length ps ≤ 128
  pub cells : cells_in k + length ps ≤ 2048

pub proc-bounds : (k : Declared) (ps : List (Name × ℕ)) (x : Body) (w : Name) → line_bounded k (new_proc w ps x) ≡ true → Bounds k ps
unfolding line_bounded
proc-bounds k ps x w h =
    let a = and-true _ (leb (cells_in k + length ps) 2048) h in let b = and-true _ (leb (variables_in k + length ps) 128) a.0 in let c = and-true (leb (suc (length k.bodies)) 32) (leb (length ps) 8) b.0 in
    record { bodies = leb-true _ 32 c.0; few = leb-true _ 8 c.1; variables = leb-true _ 128 b.1; cells = leb-true _ 2048 a.1 }

-- a body more
same-types : (Γ : Types) → Extends Γ Γ
same-types Γ = record { keeps = λ t l. refl; longer = omega arith }

more-bodies : (k : Declared) → Keeps k → (b : PlacedBody) → AllFair k.env.types (length (k.bodies ++ (b ∷ []))) k.env.names
more-bodies k h b = all-fair-more (same-types k.env.types) (rw length-append (omega arith)) h.names

known-bodies : (k : Declared) → Keeps k → (b : PlacedBody) (xs : List Test) → Stand k xs → AllNames (Known k.env.types xs (frames_of (k.bodies ++ (b ∷ [])))) k.env.names
known-bodies k h b xs S = rw (frames-last k.bodies b) (all-known-more (same-types k.env.types) (frames_of k.bodies) (b.frame ∷ []) h.names (h.known xs S))

-- what a `proc` line has gone through
pub record Heading (k : Declared) (ps : List (Name × ℕ)) : Type 0 where
  pub known : All (λ t. t < length k.env.types) ps
  pub kept : kept_parameters k.env.types ps ≡ true
  pub stored : lent_cells + length k.env.parameters + length ps ≤ store_cells

-- the cells before the line, those of the parameters on it
pub heading-less : (k : Declared) (ps : List (Name × ℕ)) (w : Name) (x : Body) (s n : ℕ) (xs : List Test) → Stand (declare_line k (new_proc w ps x) s n) xs → Stand k xs
unfolding declare_line
heading-less k ps w x s n xs S = record { lent = S.lent; own = here-front k.env.parameters (parameter_types ps) (rw (within-parameters k.env ps) at S.own) }

heading-here : (k : Declared) (ps : List (Name × ℕ)) (w : Name) (x : Body) (s n : ℕ) (xs : List Test) → Stand (declare_line k (new_proc w ps x) s n) xs
    → Here k.env.types xs (lent_cells + length k.env.parameters) (parameter_types ps)
unfolding declare_line
heading-here k ps w x s n xs S = here_back k.env.parameters (parameter_types ps) (rw (within-parameters k.env ps) at S.own)

-- the tables in a procedure's body
pub heading-formed : (k : Declared) → Keeps k → (ps : List (Name × ℕ)) → Heading k ps → (w : Name) (x : Body) (s n : ℕ) (xs : List Test) → Stand (declare_line k (new_proc w ps x) s n) xs
    → Formed (within k.env ps).types (within k.env ps).vars xs
heading-formed k h ps H w x s n xs S =
    formed (within k.env ps).types (within k.env ps).vars xs (rw (within-types k.env ps) h.table)
    (record {
      found = rw (within-types k.env ps) (within-laid k.env.types xs k.env ps H.kept (heading-here k ps w x s n xs S) (h.laid xs (heading-less k ps w x s n xs S)).found);
      apart = rw (within-types k.env ps) (within-apart k.env.types k.env ps H.kept (λ i v e. let l = h.ends i v e in let m = h.lent in omega arith) h.separate);
    })

-- what the names in it know
pub heading-known : (k : Declared) → Keeps k → (ps : List (Name × ℕ)) (xs : List Test) → Stand k xs → (w : Name) (p : ℕ) (ts : List ℕ) → find (within k.env ps).names w ≡ some (a_proc p ts)
    → Callee k.env.types xs (frames_of k.bodies) p ts
heading-known k h ps xs S w p ts f = known-proc (find-named (within-named (λ _. Keeping.Known.var) k.env ps (h.known xs S)) w (a_proc p ts) f)

-- the calls in a procedure's body
calling : (k : Declared) → Keeps k → (ps : List (Name × ℕ)) (xs : List Test) → Stand k xs → (b : Syntax.Body) (x : Body) → body_of (within k.env ps) b ≡ some x
    → CallingBody (Callee k.env.types xs (frames_of k.bodies)) x
calling k h ps xs S b x e = body-calling (within k.env ps) (Callee k.env.types xs (frames_of k.bodies))
    (heading-known k h ps xs S) b x e

proc-keeps : (k : Declared) → Keeps k → (w : Name) (ps : List (Name × ℕ)) → Heading k ps → (b : Syntax.Body) (x : Body) → body_of (within k.env ps) b ≡ some x → (s n : ℕ) → Keeps (declare_line k (new_proc w ps x) s n)
unfolding declare_line
proc-keeps k h w ps H b x e s n =
    let Γ = k.env.types in
    let p = with_body (within k.env ps) (frame_of k.env ps) x in
    let u = within-parameters k.env ps in
    let less = heading-less k ps w x s n in
    record {
      table = h.table;
      laid = λ xs S. h.laid xs (less xs S);
      cells = h.cells;
      parameters = rw u (all_append h.parameters (types-in (length Γ) ps H.known));
      typed = h.typed;
      ends = h.ends;
      separate = h.separate;
      names = name (proc {p = length k.bodies} (rw length-append (omega arith)) (types-in (length Γ) ps H.known)) (more-bodies k h p);
      known = λ xs S. name (Keeping.Known.proc {p = length k.bodies} {ts = parameter_types ps} (record { below = rw (length-map, length-append) (omega arith); framed = rw (frames-new k.bodies p) (framed k.env xs ps H.kept (heading-here k ps w x s n xs S)) })) (known-bodies k h p xs (less xs S));
      bodies = λ xs S. bodies-last p
          (heading-formed k h ps H w x s n xs S)
          (rw (within-types k.env ps) (calling k h ps xs (less xs S) b x e)) (h.bodies xs (less xs S));
      apart = rw (u, length-append, length-map, ← frame-count k.env ps) (apart-last p (frame-base k.env ps) (frame-none k.env ps) h.apart);
      lent = h.lent;
      stored = rw (u, length-append, length-map) (omega (arith, H.stored));
    }

main-keeps : (k : Declared) → Keeps k → (b : Syntax.Body) (x : Body) → body_of k.env b ≡ some x → (s n : ℕ) → Keeps (declare_line k (new_main x) s n)
unfolding declare_line within
main-keeps k h b x e s n =
    let p = with_body k.env no_frame x in
    let less : (xs : List Test) → Stand (declare_line k (new_main x) s n) xs → Stand k xs = λ xs S. record { lent = S.lent; own = S.own } in
    record {
      table = h.table;
      laid = λ xs S. h.laid xs (less xs S);
      cells = h.cells;
      parameters = h.parameters;
      typed = h.typed;
      ends = h.ends;
      separate = h.separate;
      names = more-bodies k h p;
      known = λ xs S. known-bodies k h p xs (less xs S);
      bodies = λ xs S. bodies-last p (keeps-formed k h xs (less xs S)) (calling k h [] xs (less xs S) b x e) (h.bodies xs (less xs S));
      apart = rw add-zero at (apart-last p (λ l. absurd (omega arith)) (λ _. refl) h.apart);
      lent = h.lent;
      stored = h.stored;
    }

-- the heading of a `proc` line that kept rows 7 to 9
pub line-heading : (k : Declared) → Keeps k → (w : Name) (ps : List (Name × TypeName)) (fs : List (Name × ℕ)) (x : Body) → each (pair_of k.env) ps ≡ some fs
    → keeps_rules k.env.types (new_proc w fs x) ≡ true → line_bounded k (new_proc w fs x) ≡ true → Heading k fs
unfolding keeps_rules
line-heading k h w ps fs x e q b = record {
  known = fields_in k.env h.table h.names ps fs e;
  kept = (and-true (kept_parameters k.env.types fs) (kept_body x) q).0;
  stored = omega (arith, (proc-bounds k fs x w b).variables);
}

-- any line
pub line-keeps : (k : Declared) → Keeps k → (f : LineForm) (e : Entry) → entry_of k.env f ≡ some e → keeps_rules k.env.types e ≡ true → line_bounded k e ≡ true → (s n : ℕ) → Keeps (declare_line k e s n)
unfolding entry_of keeps_rules line_bounded
line-keeps k h (type_line w t) e p q b s n = bind-some p λ d hd v.
    rw (← some_inj v) (type-keeps k h w t d hd (decl-valid k.env h.table h.names w t d hd (rw (← some_inj v) at q) (and-true (leb (suc k.type_lines) 64) (type_bounded k.env.types d) (rw (← some_inj v) at b)).1) s n)
line-keeps k h (var_line w t) e p q b s n = bind-some p λ m hm v. given-some v λ _ r.
    let l : cells_in k + size_of k.env.types m ≤ 2048 = leb-true _ 2048 (and-true (leb (suc (variables_in k)) 128) (leb (cells_in k + size_of k.env.types m) 2048) (rw (← r) at b)).1 in
    rw (← r) (var-keeps k h w m (type-in k.env h.table h.names t m hm) (omega arith) s n)
line-keeps k h (proc_line w ps b) e p q o s n = bind-some p λ fs hfs p. bind-some p λ x hx v. given-some v λ _ r.
    rw (← r) (proc-keeps k h w fs (line-heading k h w ps fs x hfs (rw (← r) at q) (rw (← r) at o)) b x hx s n)
line-keeps k h (main_line b) e p q o s n = bind-some p λ x hx v. rw (← some_inj v) (main-keeps k h b x hx s n)

-- all lines
pub lines_keep : (n : ℕ) (ls : List Line) (k : Declared) (cs : List BodyCode) (r : Read) → judge_lines strictly n ls (has k cs) ≡ accepted r → Keeps k → Keeps r.known
unfolding judge_lines
lines_keep n [] k cs r h p = onward-is n h λ _ _ e. rw (← accepted-inj e) p
lines_keep n (l ∷ ls) k cs r h p = onward-is n h λ q hq h'. line-good strictly k l q hq λ f e s m he hk _ hb hg _.
    lines_keep (suc n) ls q.0 (cs ++ q.1) r h' (rw (← hg) (line-keeps k p f e he hk hb s m))

pub text-keeps : (text : List ℕ) (work : ℕ) (r : Read) → verdict_of text work ≡ accepted r → Keeps r.known
unfolding verdict_of judge
text-keeps text work r h = opening-is _ _ _ _ _ h λ h' _. lines_keep 1 (lines_of text) nothing_declared [] r h' keeps-start
