-- The names of an enumeration: read as parts, and looked for among the parts.
use mathlib.Core.Path.{◌≡◌, refl, sym, ap, ◌∙◌}
use mathlib.Core.Bool.{Bool, true, false, cond, not, ◌&&◌}
use mathlib.Core.List.{List, [], ◌∷◌, map}
use mathlib.Core.Option.{Option, none, some}
use Prim.Native.Nat.{ℕ, suc, ◌+◌, ◌<◌, ◌≤◌}
use borrow.Author.Tests.{lt-ltb, le-ltb}
use native.Mathlib.Omega.{arith}
use Rattle.leaf_bytes.specs.Bytes.{small, same}
use Rattle.law.specs.Base.{Name, ◌>>=◌, each, find}
use Rattle.law.specs.Environment.{Environment, NameSort}
use Rattle.law.specs.Forms.{Item, free, some?, made_type}
use Rattle.law.specs.Names.{listed_in, is_known, distinct, none_known, new_names}
use Rattle.law.specs.Syntax.{enum}
use Rattle.law.specs.Trees.{Trees, end, ◌then◌, Run, first, later, list, word_at}
use Rattle.law_theorems.specs.Readings.{stack_at}
use Rattle.law.specs.Words.{Word, worded, worded_all}
use Rattle.law_theorems.proofs.Inversion.{none-some, some_inj, bind-some}
use mir.Syntax.{w32}
use mir.Val.{Fits}
use lib.Dec.{ltb}
use lib.ListN.{length}
use native.Mathlib.Decide.{dec_lt}
use Rattle.text_parts.specs.Parts.{ShutAt, Shuts}
use Rattle.std.specs.Prelude.{Option as Maybe, Some, None}
use Rattle.table_scope.specs.declared.Scope.{Scope}
use Rattle.rule_faults.specs.declared.Fault.{Fault}
use Rattle.rule_faults.specs.declared.Fault.TheVariants as fault
use Rattle.table_scope.specs.declared.Meaning.{Meaning}
use Rattle.table_scope.specs.Scene.{Scene, Told, unknown, known, a-type, a-var, a-proc, a-value, meaning_here}
use Rattle.table_scope.proofs.Telling.{meant}
use Rattle.text_heads.specs.Parts.{part_of, name_in}
use Rattle.text_heads.proofs.Walks.{bind-cong, bind_assoc, first_part}
use Rattle.rule_declarations.specs.Names.{GivesName}
use Rattle.rule_repeats.specs.Leads.{leads, leads_at}
use Rattle.rule_repeats.specs.Blocks.{apart}
use Rattle.rule_repeats.proofs.LeadParts.{lead-free}
use Rattle.rule_repeats.proofs.NamesApart.{distinct_apart}
use Rattle.rule_enum_lines.specs.Enums.{enum_in, names_in, many, Listed, fresh_one, fresh, GivesNew, GivesFresh, counted, counted_by, is_unknown, NamesTold, names-wrong, names-read, EndsNames, ends-wrong, ends_read}
use Rattle.rule_enum_lines.specs.declared.enums.Counted.{Counted}
use Rattle.rule_declarations.specs.declared.FreeName.{FreeName}
use Rattle.std.specs.Prelude.{Option as Maybe, Some, None}

-- ---- all names

names-each : (us : Trees Run) → (worded_all us >>= λ (vs : Trees Word). each free (list vs)) ≡ names_in us
unfolding ◌>>=◌ worded list each names_in
names-each end = refl
names-each (t then ts) =
    first_part (λ (vs : List Item). each free vs) free (λ (n : Name) (vs : List Item). each free vs >>= λ (ns : List Name). some (n ∷ ns)) (λ v vs. refl) t ts
    ∙ bind-cong (worded t >>= free) (λ (n : Name).
    sym (bind_assoc (worded_all ts) (λ (vs : Trees Word). each free (list vs)) (λ (ns : List Name). some (n ∷ ns)))
    ∙ ap (λ (o : Option (List Name)). o >>= λ (ns : List Name). some (n ∷ ns)) (names-each ts))

pub enum-parts : (us : Trees Run) → enum_in us ≡ (names_in us >>= λ (ns : List Name). some? ns >>= λ (p : Name × List Name). some (enum p.0 p.1))
unfolding enum_in made_type
enum-parts us =
    bind-cong (worded_all us) (λ (vs : Trees Word). bind_assoc (each free (list vs)) some? (λ (p : Name × List Name). some (enum p.0 p.1)))
    ∙ sym (bind_assoc (worded_all us) (λ (vs : Trees Word). each free (list vs)) (λ (ns : List Name). some? ns >>= λ (p : Name × List Name). some (enum p.0 p.1)))
    ∙ ap (λ (o : Option (List Name)). o >>= λ (ns : List Name). some? ns >>= λ (p : Name × List Name). some (enum p.0 p.1)) (names-each us)

-- ---- one name, then the others

module _ (s : List ℕ) (p : ℕ) (n : Maybe FreeName) (N : GivesName s p n) where
  pub names-called : (m : FreeName) → n ≡ Some m → names_in (first (stack_at s p)) ≡ (names_in (first (stack_at s m.next)) >>= λ (ns : List Name). some (map small (word_at s m.at) ∷ ns))
  unfolding names_in name_in part_of ◌>>=◌
  names-called m e =
      let g = rw e at N.says in
      let h = g.0.leaf.here in
      let z = rw h at g.2 in
      rw (h, z) refl

  pub names-fewer : (m : FreeName) → n ≡ Some m → many (first (stack_at s m.next)) < many (first (stack_at s p))
  unfolding many
  names-fewer m e = let g = rw e at N.says in rw g.0.leaf.here (omega arith)

  pub names-nothing : n ≡ None → (ns : List Name) → names_in (first (stack_at s p)) ≡ some ns → ns ≡ []
  unfolding names_in name_in part_of ◌>>=◌
  names-nothing e ns h = go (first (stack_at s p)) (rw e at N.says) h
    where
      go : (us : Trees Run) → name_in us ≡ none → names_in us ≡ some ns → ns ≡ []
      go end f g = sym (some_inj g)
      go (t then us) f g = none-some (rw f at g)

pub listed_more : (σ : Environment) (w v : Name) (vs : List Name) → listed_in σ w (v ∷ vs) ≡ cond (same v w) true (listed_in σ w vs)
unfolding listed_in
listed_more σ w v vs = go (same v w)
  where
    go : (b : Bool) → elim b [ true ↦ true | false ↦ listed_in σ w vs ] ≡ cond b true (listed_in σ w vs)
    go true = refl
    go false = refl

-- ---- `listed`

pub record Scanning (s : List ℕ) (x at p : ℕ) : Type 0 where
  pub left : (σ : Environment) (ns : List Name) → names_in (first (stack_at s at)) ≡ some ns
      → (ms : List Name) × (names_in (first (stack_at s p)) ≡ some ms) × (listed_in σ (map small (word_at s x)) ns ≡ listed_in σ (map small (word_at s x)) ms)

module _ (s : List ℕ) (x at : ℕ) where
  pub scan-start : Scanning s x at at
  scan-start = record { left = λ σ ns h. (ns, h, refl) }

  module _ (p : ℕ) (S : Scanning s x at p) (n : Maybe FreeName) (N : GivesName s p n) where
    pub scan-none : n ≡ None → Listed s x at false
    unfolding listed_in
    scan-none e = record { says = λ σ ns h. let m = S.left σ ns h in let z : m.0 ≡ [] = names-nothing s p n N e m.0 m.1 in sym (m.2 ∙ rw z refl) }

    module _ (f : FreeName) (e : n ≡ Some f) (b : Bool) (t : b ≡ same (map small (word_at s f.at)) (map small (word_at s x))) where
      pub scan-found : b ≡ true → Listed s x at true
      scan-found i = record {
        says = λ σ ns h.
            let m = S.left σ ns h in
            bind-some (sym (names-called s p n N f e) ∙ m.1) (λ ms _ g. let z : map small (word_at s f.at) ∷ ms ≡ m.0 = some_inj g in sym (m.2 ∙ ap (listed_in σ (map small (word_at s x))) (sym z) ∙ listed_more σ (map small (word_at s x)) (map small (word_at s f.at)) ms ∙ ap (λ (c : Bool). cond c true (listed_in σ (map small (word_at s x)) ms)) (sym t ∙ i)));
      }

      pub scan-on : b ≡ false → Scanning s x at f.next
      scan-on i = record {
        left = λ σ ns h.
            let m = S.left σ ns h in
            bind-some (sym (names-called s p n N f e) ∙ m.1) (λ ms u g. let z : map small (word_at s f.at) ∷ ms ≡ m.0 = some_inj g in (ms, u, m.2 ∙ ap (listed_in σ (map small (word_at s x))) (sym z) ∙ listed_more σ (map small (word_at s x)) (map small (word_at s f.at)) ms ∙ ap (λ (c : Bool). cond c true (listed_in σ (map small (word_at s x)) ms)) (sym t ∙ i)));
      }

pub ruleset scan_laws = (scan-none, scan-found, scan-on)

-- ---- new names

-- a name with no meaning is not known
unknown-told : {σ : Environment} {bs : List ℕ} (w : Name) (m : Meaning) → Told σ bs m (find σ.names w) → is_unknown m ≡ not (is_known σ w)
unfolding is_known
unknown-told {σ} {bs} w m T = go (find σ.names w) m T
  where
    go : (o : Option NameSort) (m : Meaning) → Told σ bs m o → is_unknown m ≡ not (elim o [ none ↦ false | some m ↦ true ])
    go _ _ unknown = refl
    go _ _ (known a-type) = refl
    go _ _ (known (a-var v e)) = refl
    go _ _ (known a-proc) = refl
    go _ _ (known a-value) = refl

module _ (s l : List ℕ) (scope : Scope) (y : ℕ) where
  pub new_told : (m : Meaning) → m ≡ meaning_here s l scope y → (r : Bool) → r ≡ is_unknown m → GivesNew s l scope y r
  new_told m e r g = record {
    says = λ ts top σ bs S.
        g ∙ ap is_unknown e ∙ unknown-told (map small (word_at s y)) (meaning_here s l scope y) (meant S (map small (word_at s y)));
  }

  module _ (q : ℕ) (b : Bool) (L : Listed s y q b) where
    pub fresh-listed : b ≡ true → GivesFresh s l scope y q false
    unfolding fresh_one
    fresh-listed i = record { says = λ ts top σ bs S ms h. rw (sym (L.says σ ms h) ∙ i) refl }

    pub fresh-other : b ≡ false → (r : Bool) → GivesNew s l scope y r → GivesFresh s l scope y q r
    unfolding fresh_one
    fresh-other i r N = record { says = λ ts top σ bs S ms h. rw (sym (L.says σ ms h) ∙ i) (N.says ts top σ bs S) }

pub ruleset fresh_laws = (fresh-listed, fresh-other)

pub counted-more : (n : ℕ) → n < 1000 → n + 1 ≡ counted n
unfolding counted
counted-more n h = rw (lt-ltb n 1000 h) refl

pub counted-full : (n : ℕ) → 1000 ≤ n → n ≡ counted n
unfolding counted
counted-full n h = rw (le-ltb n 1000 h) refl

pub ruleset counted_laws = (counted-more, counted-full)

pub fault-fresh : (b : Bool) → b ≡ true → fault.Clear ≡ cond b fault.Clear fault.Name
fault-fresh b e = rw e refl

pub fault-stale : (b : Bool) → b ≡ false → fault.Name ≡ cond b fault.Clear fault.Name
fault-stale b e = rw e refl

pub ruleset fault_laws = (fault-fresh, fault-stale)

pub both_first : (a b : Bool) → a ≡ true → b ≡ (a && b)
both_first a b e = rw e refl

pub both-none : (a b : Bool) → a ≡ false → false ≡ (a && b)
both-none a b e = rw e refl

pub ruleset both_laws = (both_first, both-none)

module _ (s : List ℕ) (p n : ℕ) (ok : Bool) (e : Maybe ℕ) (E : Shuts s p e) (r : Counted) where
  pub end-past : (q : ℕ) → e ≡ Some q → (o : Bool) → o ≡ ok → (f : Fault) → f ≡ cond o fault.Clear fault.Name → r ≡ counted_by f n q → EndsNames s p n ok r
  end-past q g o k f h i = let m : ShutAt s p q = rw g at E.says in rw (i, h, k) (ends_read q m.here m.around)

  pub end_more : e ≡ None → r ≡ counted_by fault.Form 0 p → EndsNames s p n ok r
  end_more g i = rw i (ends-wrong (rw g at E.says))

pub ruleset end_laws = (end-past, end_more)

-- ---- names that differ

-- all parts begin with their names
pub names-lead : (us : Trees Run) (ns : List Name) → names_in us ≡ some ns → leads us ≡ ns
unfolding names_in leads
names-lead end ns h = some_inj h
names-lead (t then ts) ns h =
    bind-some h λ n hn g. bind-some g λ ms hm e.
    ap (λ (v : Name). v ∷ leads ts) (lead-free t n hn) ∙ ap (λ (vs : List Name). n ∷ vs) (names-lead ts ms hm) ∙ some_inj e

-- names that are new, one by one or all at once
pub new-fresh : (σ : Environment) (ns : List Name) → new_names σ ns ≡ fresh σ ns
unfolding new_names distinct none_known fresh fresh_one
new-fresh σ [] = refl
new-fresh σ (w ∷ ws) = go (not (listed_in σ w ws)) (distinct σ ws) (not (is_known σ w)) (none_known σ ws) ∙ ap (λ (b : Bool). (not (listed_in σ w ws) && not (is_known σ w)) && b) (new-fresh σ ws)
  where
    go : (a b c d : Bool) → ((a && b) && (c && d)) ≡ ((a && c) && (b && d))
    go true true c d = refl
    go true false true d = refl
    go true false false d = refl
    go false b c d = refl

and-turned : (a b : Bool) → (a && b) ≡ (b && a)
and-turned true true = refl
and-turned true false = refl
and-turned false true = refl
and-turned false false = refl

fresh-apart : (σ : Environment) (us : Trees Run) (ns : List Name) → names_in us ≡ some ns → (none_known σ ns && apart (leads us)) ≡ fresh σ ns
unfolding new_names
fresh-apart σ us ns h =
    ap (λ (ms : List Name). none_known σ ns && apart ms) (names-lead us ns h) ∙ and-turned (none_known σ ns) (apart ns)
    ∙ ap (λ (b : Bool). b && none_known σ ns) (sym (distinct_apart σ ns)) ∙ new-fresh σ ns

-- ---- `enum_names`

-- the names up to p are read: c of them
pub record Counting (s l : List ℕ) (scope : Scope) (at p n : ℕ) (ok : Bool) : Type 0 where
  pub c : ℕ
  pub few : c ≤ 1000 → n ≡ c
  pub full : 1000 < c → n ≡ 1000
  pub small : Fits w32 n
  pub back : names_in (first (stack_at s p)) ≡ none → names_in (first (stack_at s at)) ≡ none
  pub around : later (stack_at s at) ≡ later (stack_at s p)
  pub left : (ms : List Name) → names_in (first (stack_at s p)) ≡ some ms → (ns : List Name) × (names_in (first (stack_at s at)) ≡ some ns) × (length ns ≡ c + length ms)
      × ((ts : List ℕ) (top : ℕ) (σ : Environment) (bs : List ℕ) → Scene s l ts scope top σ bs → none_known σ ns ≡ (ok && none_known σ ms))

pub and_assoc : (a b c : Bool) → (a && (b && c)) ≡ ((a && b) && c)
and_assoc true b c = refl
and_assoc false b c = refl

pub and-true-right : (a : Bool) → (a && true) ≡ a
and-true-right true = refl
and-true-right false = refl

-- the count of one more
pub counted-few : (n c : ℕ) → (c ≤ 1000 → n ≡ c) → (1000 < c → n ≡ 1000) → (suc c ≤ 1000 → counted n ≡ suc c) × (1000 < suc c → counted n ≡ 1000)
unfolding counted
counted-few n c h g = (
  λ i. let e : n ≡ c = h (omega arith) in rw (lt-ltb n 1000 (omega arith)) (omega arith),
  λ i. go i (dec_lt 1000 c),
)
  where
    go : 1000 < suc c → Dec (1000 < c) → cond (ltb n 1000) (n + 1) n ≡ 1000
    go i (yes l) = let e : n ≡ 1000 = g l in rw (le-ltb n 1000 (omega arith)) (omega arith)
    go i (no l) = let e : n ≡ c = h (omega arith) in rw (le-ltb n 1000 (omega arith)) (omega arith)

module _ (s l : List ℕ) (scope : Scope) (at : ℕ) where
  pub count-start : Counting s l scope at at 0 true
  count-start = record {
    c = 0;
    few = λ _. refl;
    full = λ h. absurd (omega arith);
    small = record { fits = omega arith };
    back = λ h. h;
    around = refl;
    left = λ ms h. (ms, h, omega arith, λ _ _ _ _ _. refl);
  }

  module _ (p n : ℕ) (ok : Bool) (S : Counting s l scope at p n ok) where
    pub count_small : Fits w32 n
    count_small = S.small

    module _ (x : Maybe FreeName) (N : GivesName s p x) where
      pub count-on : (f : FreeName) → x ≡ Some f → (b : Bool) → GivesNew s l scope f.at b → (ok' : Bool) → ok' ≡ (ok && b) → (n' : ℕ) → Fits w32 n' → n' ≡ counted n
          → Counting s l scope at f.next n' ok'
      unfolding none_known ◌>>=◌
      count-on f e b G ok' ho n' hf hn = record {
        c = suc S.c;
        few = λ h. hn ∙ (counted-few n S.c S.few S.full).0 h;
        full = λ h. hn ∙ (counted-few n S.c S.few S.full).1 h;
        small = hf;
        back = λ h. S.back (names-called s p x N f e ∙ rw h refl);
        around = S.around ∙ (rw e at N.says).0.leaf.around;
        left = λ ms h.
            let m = S.left (map small (word_at s f.at) ∷ ms) (names-called s p x N f e ∙ rw h refl) in (
              m.0,
              m.1,
              m.2 ∙ omega arith,
              λ ts top σ bs C.
                  m.3 ts top σ bs C ∙ ap (λ (z : Bool). ok && (z && none_known σ ms)) (sym (G.says ts top σ bs C)) ∙ and_assoc ok b (none_known σ ms) ∙ ap (λ (z : Bool). z && none_known σ ms) (sym ho),
            );
      }

      none-names : (us : Trees Run) → name_in us ≡ none → (us ≡ end → ⊥) → names_in us ≡ none
      unfolding names_in name_in part_of ◌>>=◌
      none-names end f h = absurd (h refl)
      none-names (t then us) f h = rw f refl

      end-names : (us : Trees Run) → us ≡ end → names_in us ≡ some []
      unfolding names_in
      end-names us h = rw h refl

      pub count-end : x ≡ None → (r : Counted) → EndsNames s p n (ok && apart (leads_at s at)) r → NamesTold s l scope at r
      unfolding none_known
      count-end e r (ends-wrong h) = names-wrong (S.back (none-names (first (stack_at s p)) (rw e at N.says) h))
      count-end e r (ends_read q h a) =
          let m = S.left [] (end-names (first (stack_at s p)) h) in
          let z : length m.0 ≡ S.c = m.2 ∙ omega arith in
          names-read m.0 m.1 (S.around ∙ a) (λ i. S.few (rw z at i) ∙ sym z) (λ i. S.full (rw z at i))
          (λ ts top σ bs C.
          ap (λ (b : Bool). cond b fault.Clear fault.Name)
          (ap (λ (b : Bool). b && apart (leads_at s at)) (sym (m.3 ts top σ bs C ∙ and-true-right ok)) ∙ fresh-apart σ (first (stack_at s at)) m.0 m.1))

pub ruleset count_laws = (count-on, count-end)
