-- The list of parameters: the ways through the code, and its fault by the stages.
use mathlib.Core.Path.{◌≡◌, refl, sym, ap, ◌∙◌}
use mathlib.Core.Bool.{Bool, true, false, cond, not, ◌&&◌, ◌||◌, false≢true}
use mathlib.Core.List.{List, [], ◌∷◌, map}
use mathlib.Core.Option.{Option, none, some}
use Prim.Native.Nat.{ℕ, ◌<◌, ◌≤◌}
use native.Mathlib.Omega.{arith}
use borrow.Author.Tests.{lt-ltb, le-ltb}
use lib.Dec.{ltb}
use lib.ListN.{length}
use Rattle.std.specs.Prelude.{Option as Maybe, Some, None}
use Rattle.leaf_bytes.specs.Bytes.{small, same}
use Rattle.law.specs.Base.{Name, ◌>>=◌, each, given}
use Rattle.law.specs.Environment.{Environment}
use Rattle.law.specs.Names.{distinct, field_names, is_known, listed_in, none_known, pair_of, type_of}
use Rattle.law.specs.Rules.{kept_parameters}
use Rattle.law.specs.Syntax.{TypeName}
use Rattle.law.specs.Trees.{Trees, word, form, end, ◌then◌, Run, first, later, word_at}
use Rattle.law_theorems.specs.Readings.{stack_at}
use Rattle.law.specs.Types.{Shape, ordinal_shape, set_shape, array_shape, record_shape, info_at, is_ordinal, is_set, ordinal?, set?}
use Rattle.law_theorems.proofs.Inversion.{none-some, some_inj, bind-some, and-true}
use Rattle.rule_stages.specs.Stages.{unnamed, named, ruled}
use Rattle.rule_faults.specs.declared.Fault.{Fault}
use Rattle.rule_faults.specs.declared.Fault.TheVariants.{Clear, Kind, Name as Unnamed, Form}
use Rattle.rule_faults.specs.Got.{fault_of, lowest, is_clear, is_form}
use Rattle.rule_faults.proofs.Order.{lowest-assoc, lowest-clear}
use Rattle.table_scope.specs.declared.Info.{Info}
use Rattle.table_scope.specs.declared.Scope.{Scope}
use Rattle.table_scope.specs.Descriptions.{info_of, shape_number}
use Rattle.table_scope.specs.Scene.{Scene, meaning_here}
use Rattle.table_scope.proofs.Telling.{meant}
use Rattle.text_heads.specs.Parts.{rest}
use Rattle.text_words.specs.declared.sight.Sight.{Sight}
use Rattle.text_words.specs.declared.sight.Sight.TheVariants as sight
use Rattle.text_words.specs.Sights.{Looks}
use Rattle.rule_declarations.specs.Names.{new_fault}
use Rattle.rule_declarations.proofs.VarLines.{clear-is, fault-new}
use Rattle.rule_enum_lines.specs.Enums.{many}
use Rattle.rule_pairs.specs.Pairs.{pairs_in, pair_by, firsts, resolve, types_known, pairs_good, GivesPair, PairsTold, pairs-wrong, pairs-empty, pairs-read, GivesPairs}
use Rattle.rule_pairs.proofs.Resolving.{Good, good-yes, good-no, good-told}
use Rattle.rule_pairs.specs.declared.Pair.{Pair}
use Rattle.rule_pairs.specs.declared.Pairs.{Pairs}
use Rattle.rule_pairs.proofs.PairParts.{pairs-fewer, pairs-more, pairs-nothing}
use Rattle.rule_parameters.specs.Listing.{list_of, parameters_by, list_after, AList, StartsList, list_new, list_staged, kind_fault, pair_fault, faults_from, fault_by, GivesFaults, no_list, listed_by, ListTold, list-none, list-wrong, list_read, GivesList}
use Rattle.rule_parameters.specs.declared.listing.Listed.{Listed}

-- ---- `list_in`

module _ (s : List ℕ) (p : ℕ) (x : Sight) (L : Looks s (stack_at s p) x) where
  pub in-form : (a : ℕ) → x ≡ sight.Form a → Some p ≡ list_after (first (stack_at s p)) p
  unfolding list_after
  in-form a e = let g = rw e at L.says in sym (ap (λ (k : List (Trees Run)). list_after (first k) p) g)

  pub in-other : ((a : ℕ) → x ≡ sight.Form a → ⊥) → None ≡ list_after (first (stack_at s p)) p
  unfolding list_after
  in-other f = go x refl
    where
      go : (y : Sight) → x ≡ y → None ≡ list_after (first (stack_at s p)) p
      go (sight.Form a) e = absurd (f a e)
      go (sight.Leaf a) e = let g = rw e at L.says in sym (ap (λ (k : List (Trees Run)). list_after (first k) p) g.0)
      go (sight.Shut a) e = let g = rw e at L.says in sym (ap (λ (us : Trees Run). list_after us p) g.0)

pub ruleset in_laws = (in-form, in-other)

-- ---- `list_at`

-- a form that begins with a form is a list
starts : (s : List ℕ) (at p : ℕ) → 1 ≤ p → p ≤ length s → (us : Trees Run) → first (stack_at s p) ≡ us
    → first (stack_at s at) ≡ (form us then first (later (stack_at s p))) → later (stack_at s at) ≡ later (later (stack_at s p)) → StartsList s at (list_after us p)
unfolding list_after list_of
starts s at p o h end e f g = record { says = rw f refl }
starts s at p o h (word x then ts) e f g = record { says = rw f refl }
starts s at p o h (form vs then ts) e f g = record { says = record { from = o; within = h; here = rw (f, e) refl; past = ap rest f; around = g } }

module _ (s : List ℕ) (at : ℕ) (x : Sight) (L : Looks s (stack_at s at) x) where
  pub at-form : (p : ℕ) → x ≡ sight.Form p → (r : Maybe ℕ) → r ≡ list_after (first (stack_at s p)) p → StartsList s at r
  at-form p e r h =
      let g = rw e at L.says in
      let b = rw e at L.past in
      rw h (starts s at p b.0 b.1 (first (stack_at s p)) refl (ap first g) (ap later g))

  pub at-other : ((p : ℕ) → x ≡ sight.Form p → ⊥) → StartsList s at None
  unfolding list_of
  at-other f = go x refl
    where
      go : (y : Sight) → x ≡ y → StartsList s at None
      go (sight.Form p) e = absurd (f p e)
      go (sight.Leaf p) e = let g = rw e at L.says in record { says = ap (λ (k : List (Trees Run)). list_of (first k)) g.0 }
      go (sight.Shut p) e = let g = rw e at L.says in record { says = ap list_of g.0 }

pub ruleset at_laws = (at-form, at-other)

-- ---- `kind_fault`, `pair_fault`

module _ (l ts : List ℕ) (kind : ℕ) (x : Info) (e : x ≡ info_of l ts kind) where
  pub kind_fits : x.shape < 2 → Clear ≡ kind_fault (ltb (info_of l ts kind).shape 2)
  unfolding kind_fault
  kind_fits h = let b : ltb (info_of l ts kind).shape 2 ≡ true = ap (λ (y : Info). ltb y.shape 2) (sym e) ∙ lt-ltb x.shape 2 h in rw b refl

  pub kind-unfit : 2 ≤ x.shape → Kind ≡ kind_fault (ltb (info_of l ts kind).shape 2)
  unfolding kind_fault
  kind-unfit h = let b : ltb (info_of l ts kind).shape 2 ≡ false = ap (λ (y : Info). ltb y.shape 2) (sym e) ∙ le-ltb x.shape 2 h in rw b refl

pub ruleset kind_laws = (kind_fits, kind-unfit)

module _ (s l ts : List ℕ) (scope : Scope) (own : ℕ) (x : Pair) (f : Fault) (F : f ≡ kind_fault (ltb (info_of l ts x.kind).shape 2))
    (b : Bool) (B : b ≡ same (map small (word_at s x.name)) (map small (word_at s own))) (r : Fault) where
  pub fault-own : b ≡ true → r ≡ lowest f Unnamed → r ≡ fault_by s l ts scope own x
  unfolding fault_by
  fault-own h e = e ∙ rw (F, sym B ∙ h) refl

  pub fault-other : b ≡ false → r ≡ new_fault f (meaning_here s l scope x.name) → r ≡ fault_by s l ts scope own x
  unfolding fault_by
  fault-other h e = e ∙ rw (F, sym B ∙ h) refl

pub ruleset fault-laws = (fault-own, fault-other)

-- by the definitions
shape-fits : (h : Shape) → ltb (shape_number h) 2 ≡ (is_ordinal h || is_set h)
unfolding shape_number
shape-fits ordinal_shape = refl
shape-fits set_shape = refl
shape-fits array_shape = refl
shape-fits record_shape = refl

kind-named : (b : Bool) → lowest (kind_fault b) Unnamed ≡ Unnamed
unfolding kind_fault
kind-named true = refl
kind-named false = refl

pub fault-told : {s l ts : List ℕ} {scope : Scope} {top : ℕ} {σ : Environment} {bs : List ℕ} → Scene s l ts scope top σ bs → (own : ℕ) (x : Pair) (n : Name) (k : ℕ)
    → n ≡ map small (word_at s x.name) → x.kind ≡ k → fault_by s l ts scope own x ≡ pair_fault σ (map small (word_at s own)) (n, k)
unfolding fault_by pair_fault
fault-told {s} {l} {ts} {scope} {top} {σ} {bs} S own x n k e h =
    let b : ltb (info_of l ts x.kind).shape 2 ≡ (ordinal? σ.types k || set? σ.types k) =
    ap (λ (i : ℕ). ltb (info_of l ts i).shape 2) h ∙ ap (λ (i : ℕ). ltb i 2) (S.types k).shape_is ∙ shape-fits (info_at σ.types k).shape in
    let m : new_fault (kind_fault (ordinal? σ.types k || set? σ.types k)) (meaning_here s l scope x.name) ≡ cond (is_known σ n) (lowest (kind_fault (ordinal? σ.types k || set? σ.types k)) Unnamed) (kind_fault (ordinal? σ.types k || set? σ.types k)) =
    rw e (fault-new (map small (word_at s x.name)) (kind_fault (ordinal? σ.types k || set? σ.types k)) (meaning_here s l scope x.name) (meant S (map small (word_at s x.name)))) in
    rw (b, m, ← e, kind-named (ordinal? σ.types k || set? σ.types k)) (go (same n (map small (word_at s own))) (is_known σ n) (kind_fault (ordinal? σ.types k || set? σ.types k)))
  where
    go : (a b : Bool) (f : Fault) → cond a Unnamed (cond b Unnamed f) ≡ cond (a || b) Unnamed f
    go true b f = refl
    go false true f = refl
    go false false f = refl

-- ---- `pair_faults`

pub record Judging (s l ts : List ℕ) (scope : Scope) (own at p : ℕ) (f : Fault) : Type 0 where
  pub left : (top : ℕ) (σ : Environment) (bs : List ℕ) → Scene s l ts scope top σ bs → (ps : List (Name × TypeName)) (qs : List (Name × ℕ)) → pairs_in (first (stack_at s at)) ≡ some ps → each (pair_of σ) ps ≡ some qs
      → (ms : List (Name × TypeName)) × (rs : List (Name × ℕ)) × (pairs_in (first (stack_at s p)) ≡ some ms) × (each (pair_of σ) ms ≡ some rs)
      × (faults_from σ (map small (word_at s own)) f rs ≡ faults_from σ (map small (word_at s own)) Clear qs)

pub judge-start : (s l ts : List ℕ) (scope : Scope) (own at : ℕ) → Judging s l ts scope own at at Clear
judge-start s l ts scope own at = record { left = λ top σ bs S ps qs h g. (ps, qs, h, g, refl) }

-- the first of resolved pairs
pub each-inv : (σ : Environment) (w : Name) (t : TypeName) (ms : List (Name × TypeName)) (hs : List (Name × ℕ)) → each (pair_of σ) ((w, t) ∷ ms) ≡ some hs
    → (k : ℕ) × (rs : List (Name × ℕ)) × (type_of σ t ≡ some k) × (each (pair_of σ) ms ≡ some rs) × (hs ≡ (w, k) ∷ rs)
unfolding each ◌>>=◌
each-inv σ w t ms hs h = go (type_of σ t) (each (pair_of σ) ms) refl refl h
  where
    go : (o : Option ℕ) (u : Option (List (Name × ℕ))) → type_of σ t ≡ o → each (pair_of σ) ms ≡ u → ((o >>= λ k. some (w, k)) >>= λ q. u >>= λ qs. some (q ∷ qs)) ≡ some hs
        → (k : ℕ) × (rs : List (Name × ℕ)) × (type_of σ t ≡ some k) × (each (pair_of σ) ms ≡ some rs) × (hs ≡ (w, k) ∷ rs)
    go none u e f g = none-some g
    go (some k) none e f g = none-some g
    go (some k) (some rs) e f g = (k, rs, e, f, sym (some_inj g))

pub each_none : (σ : Environment) (hs : List (Name × ℕ)) → each (pair_of σ) [] ≡ some hs → hs ≡ []
unfolding each
each_none σ hs h = sym (some_inj h)

module _ (s l ts : List ℕ) (scope : Scope) (own at p : ℕ) (f : Fault) (J : Judging s l ts scope own at p f) (x : Pair) (G : GivesPair s l scope p x) (g : Fault) (hg : g ≡ x.fault) (b : Bool) (i : b ≡ is_form g) where
  pub judge-on : b ≡ false → (e : Fault) → e ≡ fault_by s l ts scope own x → (f₀ : Fault) → f₀ ≡ f → (h : Fault) → h ≡ lowest f₀ e → Judging s l ts scope own at x.next h
  unfolding faults_from ◌>>=◌
  judge-on j e E f₀ F h H = record {
    left = λ top σ bs S ps qs hp hq.
        let z = J.left top σ bs S ps qs hp hq in
        let u = pairs-more s l scope p x G g hg b i j ts top σ bs S in
        bind-some (sym u.1 ∙ z.2) λ ns hn q.
        let c : (map small (word_at s x.name), u.0) ∷ ns ≡ z.0 = some_inj q in
        let v = each-inv σ (map small (word_at s x.name)) u.0 ns z.1 (ap (each (pair_of σ)) c ∙ z.3) in
        let y : e ≡ pair_fault σ (map small (word_at s own)) (map small (word_at s x.name), v.0) = E ∙ fault-told S own x (map small (word_at s x.name)) v.0 refl (u.4 v.0 v.2) in
        (ns, v.1, hn, v.3, rw (H, F, y) (ap (faults_from σ (map small (word_at s own)) f) (sym v.4) ∙ z.4));
  }

  pub judge-end : b ≡ true → GivesFaults s l ts scope own at f
  unfolding faults_from
  judge-end j = record {
    says = λ top σ bs S ps qs hp hq.
        let z = J.left top σ bs S ps qs hp hq in
        let n : z.0 ≡ [] = pairs-nothing s l scope p x G g hg b i j ts top σ bs S z.0 z.2 in
        let m : z.1 ≡ [] = each_none σ z.1 (rw n at z.3) in
        ap (faults_from σ (map small (word_at s own)) f) (sym m) ∙ z.4;
  }

pub judge-falls : (s l : List ℕ) (scope : Scope) (p : ℕ) (x : Pair) → GivesPair s l scope p x → (g : Fault) → g ≡ x.fault → (b : Bool) → b ≡ is_form g → b ≡ false → many (first (stack_at s x.next)) < many (first (stack_at s p))
judge-falls s l scope p x G g hg b i j = pairs-fewer s l scope p x G g hg b i j

pub ruleset judge-laws = (judge-on, judge-end)

-- ---- the faults of all pairs and the stages

-- whether a name is the procedure's or known
any_old : Environment → Name → List Name → Bool
any_old σ w [] = false
any_old σ w (n ∷ ns) = (same n w || is_known σ n) || any_old σ w ns

abbrev fault_for : Bool → Bool → Fault
fault_for old kept = cond old Unnamed (kind_fault kept)

both-faults : (a b c d : Bool) → lowest (fault_for a c) (fault_for b d) ≡ fault_for (a || b) (c && d)
unfolding kind_fault
both-faults true true c d = refl
both-faults true false c true = refl
both-faults true false c false = refl
both-faults false true true d = refl
both-faults false true false d = refl
both-faults false false true d = refl
both-faults false false false true = refl
both-faults false false false false = refl

from_is : (σ : Environment) (w : Name) (f : Fault) (qs : List (Name × ℕ)) → faults_from σ w f qs ≡ lowest f (fault_for (any_old σ w (field_names σ qs)) (kept_parameters σ.types qs))
unfolding faults_from any_old field_names kept_parameters kind_fault pair_fault
from_is σ w f [] = sym (lowest-clear f)
from_is σ w f (q ∷ qs) =
    from_is σ w (lowest f (pair_fault σ w q)) qs ∙ sym (lowest-assoc f (pair_fault σ w q) (fault_for (any_old σ w (field_names σ qs)) (kept_parameters σ.types qs)))
    ∙ ap (lowest f) (both-faults (same q.0 w || is_known σ q.0) (any_old σ w (field_names σ qs)) (ordinal? σ.types q.1 || set? σ.types q.1) (kept_parameters σ.types qs))

none_old : (σ : Environment) (w : Name) (ns : List Name) → (not (listed_in σ w ns) && none_known σ ns) ≡ not (any_old σ w ns)
unfolding listed_in none_known any_old
none_old σ w [] = refl
none_old σ w (n ∷ ns) = go (same n w) (is_known σ n) (listed_in σ w ns) (none_known σ ns) (any_old σ w ns) (none_old σ w ns)
  where
    go : (a b c d e : Bool) → (not c && d) ≡ not e → (not (elim a [ true ↦ true | false ↦ c ]) && (not b && d)) ≡ not ((a || b) || e)
    go true b c d e h = refl
    go false true true d e h = refl
    go false true false d e h = refl
    go false false c d e h = h

-- names that differ
new_is : (σ : Environment) (w : Name) (qs : List (Name × ℕ)) → distinct σ (field_names σ qs) ≡ true → list_new σ w qs ≡ not (any_old σ w (field_names σ qs))
unfolding list_new distinct
new_is σ w qs h = rw h (go (listed_in σ w (field_names σ qs)) (none_known σ (field_names σ qs)) ∙ none_old σ w (field_names σ qs))
  where
    go : (a b : Bool) → ((not a && true) && b) ≡ (not a && b)
    go true b = refl
    go false b = refl

staged-fault : (σ : Environment) (w : Name) (ps : List (Name × TypeName)) (qs : List (Name × ℕ)) → each (pair_of σ) ps ≡ some qs → distinct σ (field_names σ qs) ≡ true
    → faults_from σ w Clear qs ≡ fault_of (list_staged σ w ps)
unfolding list_staged ◌>>=◌ given named kind_fault ruled
staged-fault σ w ps qs h d = from_is σ w Clear qs ∙ rw (h, new_is σ w qs d) (go (any_old σ w (field_names σ qs)) (kept_parameters σ.types qs) refl)
  where
    go : (a b : Bool) → kept_parameters σ.types qs ≡ b → fault_for a b ≡ fault_of (named (given (not a) qs) (kept_parameters σ.types) some)
    go true b e = refl
    go false true e = rw (e, ruled) refl
    go false false e = rw (e, ruled) refl

-- pairs whose types are not known, or whose names repeat
bad-staged : (σ : Environment) (w : Name) (ps : List (Name × TypeName)) → pairs_good σ ps ≡ false → list_staged σ w ps ≡ unnamed
unfolding list_staged pairs_good ◌>>=◌ given named list_new distinct resolve
bad-staged σ w ps h = go (good-told σ ps)
  where
    no : (a b : Bool) → ((not a && false) && b) ≡ false
    no true b = refl
    no false b = refl

    go : Good σ ps → named (each (pair_of σ) ps >>= λ qs. given (list_new σ w qs) qs) (kept_parameters σ.types) some ≡ unnamed
    go (good-no a b) = rw a refl
    go (good-yes gs a b _ d) =
        let e : distinct σ (field_names σ gs) ≡ false = ap (distinct σ) b ∙ sym (ap (λ (t : Bool). t && distinct σ (firsts ps)) d) ∙ h in
        rw (a, e, no (listed_in σ w (field_names σ gs)) (none_known σ (field_names σ gs))) refl

good-staged : (σ : Environment) (w : Name) (ps : List (Name × TypeName)) → pairs_good σ ps ≡ true → (qs : List (Name × ℕ)) × (each (pair_of σ) ps ≡ some qs) × (faults_from σ w Clear qs ≡ fault_of (list_staged σ w ps))
unfolding pairs_good resolve
good-staged σ w ps h = go (good-told σ ps)
  where
    go : Good σ ps → (qs : List (Name × ℕ)) × (each (pair_of σ) ps ≡ some qs) × (faults_from σ w Clear qs ≡ fault_of (list_staged σ w ps))
    go (good-no a b) = absurd (false≢true (sym b ∙ (and-true (types_known σ ps) (distinct σ (firsts ps)) h).0))
    go (good-yes gs a b _ d) = (gs, a, staged-fault σ w ps gs a (ap (distinct σ) b ∙ (and-true (types_known σ ps) (distinct σ (firsts ps)) h).1))

-- ---- `parameters_at`

-- a list has a pair at least
no-empty : (us vs : Trees Run) → list_of us ≡ some vs → pairs_in vs ≡ some [] → ⊥
unfolding list_of pairs_in
no-empty end vs e h = none-some e
no-empty (word x then ts) vs e h = none-some e
no-empty (form end then ts) vs e h = none-some e
no-empty (form (word x then us) then ts) vs e h = none-some e
no-empty (form (form vs₀ then us) then ts) vs e h =
    let z : (pair_by (form vs₀) >>= λ f. pairs_in us >>= λ fs. some (f ∷ fs)) ≡ some [] = ap pairs_in (some_inj e) ∙ h in
    bind-some z λ f hf g. bind-some g λ fs hs q. not-empty f fs (some_inj q)
  where
    not-empty : (f : Name × TypeName) (fs : List (Name × TypeName)) → (f ∷ fs) ≡ [] → ⊥
    not-empty f fs q = let z : ◌≡◌ {A = ℕ} 0 1 = cc in omega arith

module _ (s l ts : List ℕ) (scope : Scope) (own at : ℕ) (o : Maybe ℕ) (Q : StartsList s at o) where
  pub no-parameters : o ≡ None → (c : Listed) → c ≡ no_list at → GivesList s l ts scope own at c
  no-parameters e c h = let n = rw e at Q.says in record { says = λ top σ bs S. list-none n h }

  module _ (q : ℕ) (hq : o ≡ Some q) (c : Pairs) (P : GivesPairs s l ts scope q c) (f : Fault) (hf : f ≡ c.fault) (b : Bool) (i : b ≡ is_clear f) where
    listed : AList s at q
    listed = rw hq at Q.says

    read_told : (σ : Environment) → (g : Fault) → PairsTold s σ q c
        → ((p : Name × TypeName) (ps : List (Name × TypeName)) → pairs_in (first (stack_at s q)) ≡ some (p ∷ ps) → c.fault ≡ cond (pairs_good σ (p ∷ ps)) Clear Unnamed → g ≡ fault_of (list_staged σ (map small (word_at s own)) (p ∷ ps)))
        → (c.fault ≡ Form → g ≡ Form) → AList s at q → ListTold s σ (map small (word_at s own)) at (listed_by c g q)
    unfolding parameters_by
    read_told σ g (pairs-wrong e n) k m A = list-wrong (rw A.here n) (m e)
    read_told σ g (pairs-empty e n) k m A = absurd (no-empty (first (stack_at s at)) (first (stack_at s q)) A.here n)
    read_told σ g (pairs-read p ps n d few full e tr) k m A =
        list_read p ps A.here n A.from A.within (ap first (sym d) ∙ sym A.past) (A.around ∙ ap later d) few full (k p ps n e)

    pub some-clear : b ≡ true → (g : Fault) → GivesFaults s l ts scope own q g → (r : Listed) → r ≡ listed_by c g q → GivesList s l ts scope own at r
    some-clear j g G r h = rw h (record {
      says = λ top σ bs S. read_told σ g (P.says top σ bs S)
          (λ p ps n e. let y = good-staged σ (map small (word_at s own)) (p ∷ ps) (clear-good (pairs_good σ (p ∷ ps)) (sym e ∙ clear)) in G.says top σ bs S (p ∷ ps) y.0 n y.1 ∙ y.2)
          (λ e. absurd (not-form (sym e ∙ clear))) listed;
    })
      where
        clear : c.fault ≡ Clear
        clear = sym hf ∙ clear-is f (sym i ∙ j)

        clear-good : (t : Bool) → cond t Clear Unnamed ≡ Clear → t ≡ true
        clear-good true e = refl
        clear-good false e = absurd (let z : ◌≡◌ {A = ℕ} 0 1 = cc in omega arith)

        not-form : Form ≡ Clear → ⊥
        not-form e = let z : ◌≡◌ {A = ℕ} 0 1 = cc in omega arith

    pub some-fault : b ≡ false → (r : Listed) → r ≡ listed_by c f q → GivesList s l ts scope own at r
    some-fault j r h = rw h (record {
      says = λ top σ bs S. read_told σ f (P.says top σ bs S)
          (λ p ps n e. bad σ p ps (pairs_good σ (p ∷ ps)) refl (hf ∙ e)) (λ e. hf ∙ e) listed;
    })
      where
        bad : (σ : Environment) (p : Name × TypeName) (ps : List (Name × TypeName)) (t : Bool) → pairs_good σ (p ∷ ps) ≡ t → f ≡ cond (pairs_good σ (p ∷ ps)) Clear Unnamed
            → f ≡ fault_of (list_staged σ (map small (word_at s own)) (p ∷ ps))
        bad σ p ps true e g = absurd (false≢true (sym (sym i ∙ j) ∙ ap is_clear (g ∙ ap (λ (t : Bool). cond t Clear Unnamed) e)))
        bad σ p ps false e g = g ∙ rw (e, bad-staged σ (map small (word_at s own)) (p ∷ ps) e) refl

pub ruleset list-laws = (no-parameters, some-clear, some-fault)
