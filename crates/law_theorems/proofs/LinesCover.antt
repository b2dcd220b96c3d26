-- What the lines of a text keep of its cells: an array's are copies of its element's, a record's those of its fields in order, and each cell
-- of the store belongs to one variable, whose name stands in the table of names.
use mathlib.Core.Path.{◌≡◌, refl, sym, ap, ◌∙◌}
use mathlib.Core.Bool.{true}
use mathlib.Core.List.{List, [], ◌∷◌, ◌++◌}
use mathlib.Core.Option.{some}
use Prim.Native.Nat.{ℕ, zero, suc, ◌+◌, ◌≤◌, ◌<◌}
use native.Mathlib.Decide.{ℕ_discrete, dec_lt}
use native.Mathlib.Omega.{arith}
use lib.Dec.{leb}
use lib.ListN.{get_or, length, replicate, length-append, length-replicate, get_or-append, get_or-eq_default}
use lib.Seq.{get_or-append-add}
use Rattle.law.specs.Base.{Name}
use Rattle.law.specs.Ceilings.{line_bounded, type_bounded}
use Rattle.law.specs.Code.{BodyCode}
use Rattle.law.specs.Environment.{Declared, NameSort, built_in, copies, decl_names, declare_line, enum_names, extend_types, field_cells, lay_fields, nothing_declared, type_sort_of, value_count}
use Rattle.law.specs.Lines.{Line, lines_of}
use Rattle.law.specs.Names.{entry_of}
use Rattle.law.specs.Rules.{keeps_rules}
use Rattle.law.specs.Script.{Decl, Entry, alias, array_of, enum, new_type, new_var, range, record_of, set_of}
use Rattle.law.specs.Syntax.{LineForm, main_line, proc_line, type_line, var_line}
use Rattle.law.specs.Types.{TypeInfo, TypeSort, facts, Types, Var, Vars, cells_of, info_at, size_of, undeclared, variable}
use Rattle.law.specs.Verdict.{Fitting, Read, accepted, has, judge, judge_lines, strictly}
use Rattle.law.specs.Whole.{verdict_of}
use Rattle.law_theorems.proofs.TextsAgree.{accepted-inj, onward-is, opening-is, line-good}
use Rattle.law_theorems.proofs.Inversion.{some_inj, bind-some, given-some, and-true}
use Rattle.law_theorems.proofs.ValuesInRange.{wrong, none-some}
use Rattle.law_theorems.proofs.TypeTables.{Valid, old, new}
use Rattle.law_theorems.specs.TypeTables.{All}
use Rattle.law_theorems.proofs.LinesKeep.{declared-more, same-cells, decl-valid, keeps-start, line-keeps}
use Rattle.law_theorems.specs.LinesKeep.{Extends, Keeps}
use Rattle.law_theorems.specs.LinesCover.{Built, BuiltTypes, Covered, Owns, owns_none, owns-proc, owns-type, owns-value, owns-var}

-- ---- types

all-below : (t n : ℕ) (fs : List (Name × ℕ)) → t ≤ n → All (λ u. u < t) fs → All (λ u. u < n) fs
all-below t n [] h a = tt
all-below t n (f ∷ fs) h a = let k : f.1 < t = a.0 in (omega arith, all-below t n fs h a.1)

module _ {Γ Γ' : Types} (x : Extends Γ Γ') where
  cells_same : (fs : List (Name × ℕ)) → All (λ u. u < length Γ) fs → field_cells Γ' fs ≡ field_cells Γ fs
  unfolding field_cells
  cells_same [] a = refl
  cells_same (f ∷ fs) a = rw (same-cells x f.1 a.0, cells_same fs a.1) refl

  fields-same : (fs : List (Name × ℕ)) (n : ℕ) → All (λ u. u < length Γ) fs → lay_fields Γ' n fs ≡ lay_fields Γ n fs
  unfolding lay_fields
  fields-same [] n a = refl
  fields-same (f ∷ fs) n a = rw (same-cells x f.1 a.0, fields-same fs (n + size_of Γ f.1) a.1) refl

  built-more : (t : ℕ) (j : TypeInfo) → t ≤ length Γ → Built Γ t j → Built Γ' t j
  built-more t j h B = record {
    array = λ p. let C = B.array p in record {
      count = C.count;
      cells_are = C.cells_are ∙ ap (λ (cs : List ℕ). copies C.count cs) (sym (same-cells x j.element (omega (arith, C.earlier))));
      earlier = C.earlier;
    };
    fielded = λ p. let J = B.fielded p in let a = all-below t (length Γ) J.parts h J.earlier in record {
      parts = J.parts;
      cells_are = J.cells_are ∙ sym (cells_same J.parts a);
      fields-are = J.fields-are ∙ sym (fields-same J.parts 0 a);
      earlier = J.earlier;
    };
  }

built-none : (Γ : Types) (t : ℕ) → Built Γ t (facts undeclared)
unfolding field_cells lay_fields
built-none Γ t = record { array = λ p. wrong p; fielded = λ p. record { parts = []; cells_are = refl; fields-are = refl; earlier = tt } }

-- one entry more
built-last : (Γ : Types) (i : TypeSort) → Extends Γ (Γ ++ (i ∷ [])) → BuiltTypes Γ → Built Γ (length Γ) (facts i) → BuiltTypes (Γ ++ (i ∷ []))
built-last Γ i x B b t = go (dec_lt t (length Γ)) (ℕ_discrete t (length Γ))
  where
    go : Dec (t < length Γ) → Dec (t ≡ length Γ) → Built (Γ ++ (i ∷ [])) t (info_at (Γ ++ (i ∷ [])) t)
    go (yes l) d = rw (old Γ i t l) (built-more x t (info_at Γ t) (omega arith) (B t))
    go (no nl) (yes q) = rw (q, new Γ i) (built-more x (length Γ) (facts i) (omega arith) b)
    go (no nl) (no nq) =
        let e : info_at (Γ ++ (i ∷ [])) t ≡ facts undeclared = ap facts (get_or-eq_default (Γ ++ (i ∷ [])) undeclared (rw length-append (omega arith))) in
        rw e (built-none (Γ ++ (i ∷ [])) t)

built-start : BuiltTypes built_in
built-start zero = record { array = λ p. wrong p; fielded = λ p. wrong p }
built-start (suc zero) = record { array = λ p. wrong p; fielded = λ p. wrong p }
built-start (suc (suc t)) = built-none built_in (suc (suc t))

built-declared : (Γ : Types) (d : Decl) → Valid Γ d → Extends Γ (extend_types Γ d) → BuiltTypes Γ → BuiltTypes (extend_types Γ d)
unfolding type_sort_of extend_types
built-declared Γ (alias t) v x B = B
built-declared Γ (enum w ws) v x B = built-last Γ _ x B (record { array = λ p. wrong p; fielded = λ p. wrong p })
built-declared Γ (range a b) v x B = built-last Γ _ x B (record { array = λ p. wrong p; fielded = λ p. wrong p })
built-declared Γ (array_of i e) v x B = built-last Γ _ x B (record { array = λ p. record { count = value_count Γ i; cells_are = refl; earlier = v.0 }; fielded = λ p. wrong p })
built-declared Γ (record_of fs) v x B = built-last Γ _ x B (record { array = λ p. wrong p; fielded = λ p. record { parts = fs; cells_are = refl; fields-are = refl; earlier = v } })
built-declared Γ (set_of b) v x B = built-last Γ _ x B (record { array = λ p. wrong p; fielded = λ p. wrong p })

-- ---- cells: the names, the newest first, own the first so many cells; os holds each cell's variable

-- more types
owns-types : {Γ Γ' : Types} {Δ : Vars} {os : List Name} {ns : List (Name × NameSort)} {n : ℕ} → Extends Γ Γ'
    → ((i : ℕ) (v : Var) → variable Δ i ≡ some v → v.type < length Γ) → Owns Γ Δ os ns n → Owns Γ' Δ os ns n
owns-types x h owns_none = owns_none
owns-types x h (owns-type o) = owns-type (owns-types x h o)
owns-types x h (owns-proc o) = owns-proc (owns-types x h o)
owns-types x h (owns-value o) = owns-value (owns-types x h o)
owns-types x h (owns-var {w} {i} {n} {m} v e b g f o) =
    let q = same-cells x v.type (h i v e) in
    owns-var {w = w} {i = i} {n = n} {m = m} v e b (rw q g) (rw q f) (owns-types x h o)

var-kept : (Δ : Vars) (u v : Var) (i : ℕ) → variable Δ i ≡ some v → variable (Δ ++ (u ∷ [])) i ≡ some v
var-kept [] u v i h = absurd (none-some h)
var-kept (x ∷ Δ) u v zero h = h
var-kept (x ∷ Δ) u v (suc i) h = var-kept Δ u v i h

var-new : (Δ : Vars) (u : Var) → variable (Δ ++ (u ∷ [])) (length Δ) ≡ some u
var-new [] u = refl
var-new (x ∷ Δ) u = var-new Δ u

-- more variables
owns-vars : {Γ : Types} {Δ : Vars} {os : List Name} {ns : List (Name × NameSort)} {n : ℕ} (u : Var) (xs : List Name) → n ≤ length os
    → Owns Γ Δ os ns n → Owns Γ (Δ ++ (u ∷ [])) (os ++ xs) ns n
owns-vars u xs h owns_none = owns_none
owns-vars u xs h (owns-type o) = owns-type (owns-vars u xs h o)
owns-vars u xs h (owns-proc o) = owns-proc (owns-vars u xs h o)
owns-vars u xs h (owns-value o) = owns-value (owns-vars u xs h o)
owns-vars {Γ} {Δ} {os} u xs h (owns-var {i} {n} v e b m f o) =
    owns-var v (var-kept Δ u v i e) b m (λ j l. get_or-append os xs [] (n + j) (omega (arith, m)) ∙ f j l) (owns-vars u xs (omega (arith, m)) o)

-- the names of a `type` line
owns-enum : {Γ : Types} {Δ : Vars} {os : List Name} {ns : List (Name × NameSort)} {n : ℕ} (t i : ℕ) (ws : List Name) → Owns Γ Δ os ns n → Owns Γ Δ os (enum_names t i ws ++ ns) n
unfolding enum_names
owns-enum t i [] o = o
owns-enum t i (w ∷ ws) o = owns-value (owns-enum t (suc i) ws o)

owns-decl : {Γ : Types} {Δ : Vars} {os : List Name} {ns : List (Name × NameSort)} {n : ℕ} (Γ₀ : Types) (w : Name) (d : Decl) → Owns Γ Δ os ns n → Owns Γ Δ os (decl_names Γ₀ w d ++ ns) n
unfolding decl_names
owns-decl Γ₀ w (alias t) o = owns-type o
owns-decl Γ₀ w (enum v vs) o = owns-type (owns-enum (length Γ₀) 0 (v ∷ vs) o)
owns-decl Γ₀ w (range a b) o = owns-type o
owns-decl Γ₀ w (array_of i e) o = owns-type o
owns-decl Γ₀ w (record_of fs) o = owns-type o
owns-decl Γ₀ w (set_of b) o = owns-type o

replicate-get : {A : Type 0} (n j : ℕ) (w d : A) → j < n → get_or (replicate n w) j d ≡ w
replicate-get zero j w d h = absurd (omega arith)
replicate-get (suc n) zero w d h = refl
replicate-get (suc n) (suc j) w d h = replicate-get n j w d (omega arith)

-- ---- what the lines keep

pub covered_start : Covered nothing_declared
covered_start = record { built = built-start; owned = owns_none; as_many = refl }

type-covers : (k : Declared) → Keeps k → Covered k → (w : Name) (d : Decl) → Valid k.env.types d → (s n : ℕ) → Covered (declare_line k (new_type w d) s n)
unfolding declare_line
type-covers k h c w d v s n =
    let x = declared-more k.env.types d in
    record {
      built = built-declared k.env.types d v x c.built;
      owned = owns-decl k.env.types w d (owns-types x h.typed c.owned);
      as_many = c.as_many;
    }

var-covers : (k : Declared) → Covered k → (w : Name) (t s n : ℕ) → Covered (declare_line k (new_var w t) s n)
unfolding declare_line
var-covers k c w t s n =
    let a = c.as_many in
    let z = size_of k.env.types t in
    record {
      built = c.built;
      owned = owns-var {w = w} {i = length k.env.vars} {n = length k.cells} {m = length (k.cells ++ cells_of k.env.types t)} (record { type = t; base = length k.cells }) (var-new k.env.vars _) refl (rw length-append refl)
          (λ j l. rw (← a) (get_or-append-add k.owners (replicate z w) j [] ∙ replicate-get z j w [] l))
          (owns-vars _ (replicate z w) (omega arith) c.owned);
      as_many = rw (length-append, length-append, length-replicate, a) refl;
    }

-- any line
pub line-covers : (k : Declared) → Keeps k → Covered k → (f : LineForm) (e : Entry) → entry_of k.env f ≡ some e → keeps_rules k.env.types e ≡ true → line_bounded k e ≡ true
    → (s n : ℕ) → Covered (declare_line k e s n)
unfolding entry_of keeps_rules line_bounded declare_line
line-covers k h c (type_line w t) e p q b s n = bind-some p λ d hd v.
    rw (← some_inj v) (type-covers k h c w d (decl-valid k.env h.table h.names w t d hd (rw (← some_inj v) at q) (and-true (leb (suc k.type_lines) 64) (type_bounded k.env.types d) (rw (← some_inj v) at b)).1) s n)
line-covers k h c (var_line w t) e p q b s n = bind-some p λ m hm v. given-some v λ _ r. rw (← r) (var-covers k c w m s n)
line-covers k h c (proc_line w ps b) e p q o s n = bind-some p λ fs hfs p. bind-some p λ x hx v. given-some v λ _ r. rw (← r) (record { built = c.built; owned = owns-proc c.owned; as_many = c.as_many })
line-covers k h c (main_line b) e p q o s n = bind-some p λ x hx v. rw (← some_inj v) (record { built = c.built; owned = c.owned; as_many = c.as_many })

-- all lines, whatever fits
pub lines-cover : (fitting : Fitting) (n : ℕ) (ls : List Line) (k : Declared) (cs : List BodyCode) (r : Read) → judge_lines fitting n ls (has k cs) ≡ accepted r → Keeps k → Covered k → Covered r.known
unfolding judge_lines
lines-cover fitting n [] k cs r h p c = onward-is n h λ _ _ e. rw (← accepted-inj e) c
lines-cover fitting n (l ∷ ls) k cs r h p c = onward-is n h λ q hq h'. line-good fitting k l q hq λ f e s m he hk _ hb hg _.
    lines-cover fitting (suc n) ls q.0 (cs ++ q.1) r h' (rw (← hg) (line-keeps k p f e he hk hb s m)) (rw (← hg) (line-covers k p c f e he hk hb s m))

-- a text that a run or the marking machine takes
pub judged-covered : (fitting : Fitting) (text : List ℕ) (work : ℕ) (r : Read) → judge fitting text work ≡ accepted r → Covered r.known
unfolding judge
judged-covered fitting text work r h = opening-is _ _ _ _ _ h λ h' _. lines-cover fitting 1 (lines_of text) nothing_declared [] r h' keeps-start covered_start

-- an accepted text
pub text-covered : (text : List ℕ) (work : ℕ) (r : Read) → verdict_of text work ≡ accepted r → Covered r.known
unfolding verdict_of
text-covered text work r h = judged-covered strictly text work r h
