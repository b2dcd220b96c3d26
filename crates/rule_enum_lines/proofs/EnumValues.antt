-- The entries of an enumeration's values: how they are laid, and what they add to the names.
use mathlib.Core.Path.{◌≡◌, refl, sym, ap, subst, ◌∙◌}
use mathlib.Core.Bool.{Bool, true, false}
use mathlib.Core.List.{List, [], ◌∷◌, ◌++◌, map}
use mathlib.Core.Option.{some}
use Prim.Native.Nat.{ℕ, zero, suc, ◌+◌, ◌*◌, ◌-◌, ◌/◌, ◌%◌, ◌<◌, ◌≤◌}
use native.Mathlib.Nat.{mod-eq_of_lt}
use native.Mathlib.Omega.{arith}
use borrow.Author.Tests.{lt-ltb, le-ltb, eq-eqb, ne_eqb}
use mir.Syntax.{w32}
use mir.Val.{Fits}
use lib.IntN.{pos}
use lib.ListN.{length, get_or, set}
use Rattle.leaf_bytes.specs.Bytes.{small, same}
use Rattle.leaf_bytes.proofs.Same.{same-equal}
use Rattle.law.specs.Base.{Name, find}
use Rattle.law.specs.Environment.{Environment, NameSort, a_proc, a_value, enum_names}
use Rattle.code.specs.Layout.{lay}
use Rattle.law.specs.Script.{Const}
use Rattle.law.specs.Trees.{first, word_at}
use Rattle.law_theorems.specs.Readings.{stack_at}
use Rattle.law.specs.Types.{Types}
use Rattle.law_theorems.proofs.Inversion.{some_inj, bind-some}
use Rattle.code.proofs.LayoutRegions.{Has, lay-g, lay-l}
use Rattle.code.specs.LayoutRegions.{Same, Room}
use Rattle.law_theorems.proofs.LinesKeep.{find-fair}
use Rattle.law_theorems.specs.LinesKeep.{AllFair, Fair, value}
use Rattle.table_list.specs.Laid.{Laid}
use Rattle.table_names.specs.Keys.{keyed}
use Rattle.table_names.specs.Chain.{entries, Called, name_at, key_at, values_by, values_behind}
use Rattle.table_names.proofs.Chained.{called-keyed}
use Rattle.table_names.specs.Chained.{Below, one_name, one_entry}
use Rattle.table_order.specs.Ordered.{Ordered}
use Rattle.table_scope.specs.declared.Scope.{Scope}
use Rattle.rule_faults.specs.declared.Fault.{Fault}
use Rattle.rule_faults.specs.declared.Fault.TheVariants as fault
use Rattle.table_scope.specs.declared.Info.{Info}
use Rattle.table_scope.proofs.Within.{find-other}
use Rattle.table_scope.specs.Scene.{Means, a-value, meaning_by, meaning_at}
use Rattle.table_scope.specs.Descriptions.{ordinal_info}
use Rattle.rule_faults.specs.Got.{is_form}
use Rattle.rule_enum_lines.specs.Enums.{names_in, counted}
use Rattle.rule_declarations.specs.State.{scoped}
use Rattle.rule_declarations.specs.Lines.{lined_by}
use Rattle.rule_declarations.specs.Names.{GivesName}
use Rattle.rule_type_lines.specs.TypeLines.{info_numbers, type_state}
use Rattle.rule_enum_lines.specs.Values.{start_of, Values, no_value, one_value, link_of, value_entry, LaysValues, enum_entry, enum_info, LaysDescribed, LaysEnum, AddsEnum, enum_fault}
use Rattle.rule_declarations.specs.declared.State.{State}
use Rattle.rule_declarations.specs.declared.Lined.{Lined}
use Rattle.rule_type_lines.specs.declared.Placed.{Placed}
use Rattle.rule_declarations.specs.declared.FreeName.{FreeName}
use Rattle.std.specs.Prelude.{Option as Maybe, Some, None}
use Rattle.rule_enum_lines.proofs.EnumNames.{names-called, names-nothing}
use Rattle.rule_declarations.proofs.Growing.{Chained, laid_same}

-- ---- small functions

pub link-next : (i n place newest m : ℕ) → m ≡ n - 1 → i < m → place % 32768 + 4 ≡ link_of i n place newest
unfolding link_of
link-next i n place newest m e h = rw (lt-ltb i (n - 1) (omega arith)) refl

pub link-last : (i n place newest m : ℕ) → m ≡ n - 1 → m ≤ i → newest ≡ link_of i n place newest
unfolding link_of
link-last i n place newest m e h = rw (le-ltb i (n - 1) (omega arith)) refl

pub ruleset link_laws = (link-next, link-last)

pub value-laid : (kind newest n name i place link : ℕ) → link ≡ link_of i n place newest → (l : List ℕ) (r : ℕ) (l' : List ℕ)
    → Laid (lay (name ∷ (3 + 4 * (kind % 128)) ∷ i ∷ link ∷ []) place l) r l' → Laid (lay (value_entry kind newest n name i place) place l) r l'
unfolding value_entry
value-laid kind newest n name i place link g l r l' L = rw (← g) L

pub enum-name-laid : (st : State) (name : ℕ) (l : List ℕ) (r : ℕ) (l' : List ℕ)
    → Laid (lay (name ∷ (4 * (st.types % 128)) ∷ 0 ∷ (st.top % 32768 + 12) ∷ []) st.top l) r l' → Laid (lay (enum_entry st name) st.top l) r l'
unfolding enum_entry
enum-name-laid st name l r l' L = L

pub enum-info-is : (kind n high : ℕ) (x : Info) → high ≡ n - 1 → x ≡ ordinal_info kind 0 high → x ≡ enum_info kind n
unfolding enum_info
enum-info-is kind n high x e f = f ∙ rw e refl

module _ (f : Fault) (n : ℕ) (own b : Bool) (i : b ≡ is_form f) where
  pub enum-fault-form : b ≡ true → fault.Form ≡ enum_fault f n own
  unfolding enum_fault
  enum-fault-form j = rw (sym i ∙ j) refl

  module _ (j : b ≡ false) where
    pub enum-fault-none : n ≡ 0 → fault.Form ≡ enum_fault f n own
    unfolding enum_fault
    enum-fault-none e = rw (sym i ∙ j, eq-eqb n 0 e) refl

    pub enum-fault-own : (n ≡ 0 → ⊥) → own ≡ true → f ≡ enum_fault f n own
    unfolding enum_fault
    enum-fault-own e o = rw (sym i ∙ j, ne_eqb n 0 e, o) refl

    pub enum-fault-old : (n ≡ 0 → ⊥) → own ≡ false → fault.Name ≡ enum_fault f n own
    unfolding enum_fault
    enum-fault-old e o = rw (sym i ∙ j, ne_eqb n 0 e, o) refl

pub ruleset enum_fault_laws = (enum-fault-form, enum-fault-none, enum-fault-own, enum-fault-old)

-- ---- `lay_values`

-- i values are laid; p is past their names
pub record LayingValues (s l₀ : List ℕ) (kind newest n top at p i place : ℕ) (l : List ℕ) : Type 0 where
  pub below : Same 0 top l l₀
  pub long : length l ≡ length l₀
  pub up : top ≤ place
  pub few : i ≤ n
  pub small_n : Fits w32 n
  pub small-place : Fits w32 place
  pub left : (ns : List Name) → names_in (first (stack_at s at)) ≡ some ns → length ns ≡ n → kind < 128 → length s ≤ 32768 → Room (4 * n) top l₀
      → (ms : List Name) × (names_in (first (stack_at s p)) ≡ some ms) × (i + length ms ≡ n) × (place ≡ top + 4 * i)
      × ((l' : List ℕ) → Same 0 place l' l → Values s l' kind newest place i ms → Values s l' kind newest top 0 ns)

module _ (s l₀ : List ℕ) (kind newest n top at : ℕ) where
  pub values-start : Fits w32 n → Fits w32 top → LayingValues s l₀ kind newest n top at at 0 top l₀
  values-start f g = record {
    below = record { at = λ _ _ _. refl };
    long = refl;
    up = omega arith;
    few = omega arith;
    small_n = f;
    small-place = g;
    left = λ ns e m _ _ _. (ns, e, omega arith, omega arith, λ l' _ v. v);
  }

  module _ (p i place : ℕ) (l : List ℕ) (G : LayingValues s l₀ kind newest n top at p i place l) where
    pub values-small : Fits w32 place
    values-small = G.small-place

    pub values-few : i < n → Fits w32 i
    values-few h = record { fits = omega (arith, G.small_n.fits) }

    pub values-more : i < n → Fits w32 (i + 1)
    values-more h = record { fits = omega (arith, G.small_n.fits) }

    no_more : (ms : List Name) → i + length ms ≡ n → n ≤ i → ms ≡ []
    no_more [] e h = refl
    no_more (w ∷ ws) e h = absurd (omega arith)

    pub values-done : n ≤ i → LaysValues s l₀ kind newest n top at place l
    values-done h = record {
      below = G.below;
      long = G.long;
      values = λ ns e m k hs R.
          let x = G.left ns e m k hs R in
          let z : x.0 ≡ [] = no_more x.0 x.2 h in
          let j : i ≡ n = omega (arith, G.few) in
          (x.4 l (record { at = λ _ _ _. refl }) (rw z no_value), rw (← j) x.3);
    }

    module _ (x : Maybe FreeName) (N : GivesName s p x) where
      values-short : i < n → x ≡ None → LaysValues s l₀ kind newest n top at place l
      values-short h e = record {
        below = G.below;
        long = G.long;
        values = λ ns g m k hs R.
            let y = G.left ns g m k hs R in
            let z : y.0 ≡ [] = names-nothing s p x N e y.0 y.1 in
            let u : i + length y.0 ≡ i = rw z (omega arith) in
            absurd (omega (arith, y.2));
      }

      pub values-lost : i < n → ((v : FreeName) → x ≡ Some v → ⊥) → LaysValues s l₀ kind newest n top at place l
      values-lost h k = go x refl
        where
          go : (y : Maybe FreeName) → x ≡ y → LaysValues s l₀ kind newest n top at place l
          go None e = values-short h e
          go (Some v) e = absurd (k v e)

      module _ (h : i < n) (v : FreeName) (e : x ≡ Some v) (name : ℕ) (keyed-is : name ≡ keyed s v.at) (r : ℕ) (l' : List ℕ) (L : Laid (lay (value_entry kind newest n name i place) place l) r l') (small_r : Fits w32 r) where
        abbrev entry : List ℕ
        entry = value_entry kind newest n name i place

        value_same : Same 0 place l' l
        value_same = laid_same entry place l l' L.left

        value-up : place ≤ r
        value-up = rw L.free (lay-g entry place l).up

        value-long : length l' ≡ length l
        value-long = rw L.left (lay-g entry place l).long

        link-is : (ms : List Name) → i + suc (length ms) ≡ n → place < 32768 → link_of i n place newest ≡ start_of ms (place + 4) newest
        unfolding link_of start_of
        link-is [] m low = rw (le-ltb i (n - 1) (omega arith)) refl
        link-is (w ∷ ws) m low = rw (lt-ltb i (n - 1) (omega arith), mod-eq_of_lt low) refl

        -- one value more, in a list that agrees up to its end
        value-held : (ms : List Name) → i + suc (length ms) ≡ n → kind < 128 → length s ≤ 32768 → Room 4 place l → (m : List ℕ) → Same 0 (place + 4) m l'
            → Values s m kind newest (place + 4) (i + 1) ms → Values s m kind newest place i (map small (word_at s v.at) ∷ ms)
        unfolding value_entry
        value-held ms c k hs R m E W =
            let g = rw e at N.says in
            let H : Has entry place l' = (lay-l entry place l).held R l' (record { at = λ j _ _. ap (λ (z : List ℕ). get_or z j 0) L.left }) in
            let z : place + 0 ≡ place = omega arith in
            let b : kind % 128 ≡ kind = mod-eq_of_lt k in
            let key : get_or m place 0 ≡ keyed s v.at = E.at place (omega arith) (omega arith) ∙ ap (λ (j : ℕ). get_or l' j 0) (sym z) ∙ H.at 0 (omega arith) ∙ keyed-is in
            one_value (called-keyed s m place v.at (omega (arith, g.1)) key)
            (let x : get_or m (place + 1) 0 ≡ 3 + 4 * kind = E.at (place + 1) (omega arith) (omega arith) ∙ H.at 1 (omega arith) ∙ ap (λ (j : ℕ). 3 + 4 * j) b in ap (λ (j : ℕ). j % 512) x ∙ mod-eq_of_lt (omega arith))
            (E.at (place + 2) (omega arith) (omega arith) ∙ H.at 2 (omega arith))
            (E.at (place + 3) (omega arith) (omega arith) ∙ H.at 3 (omega arith) ∙ link-is ms c (omega (arith, R.fits))) W

        pub values-on : LayingValues s l₀ kind newest n top at v.next (i + 1) r l'
        unfolding value_entry
        values-on = record {
          below = record { at = λ j a b. value_same.at j a (omega (arith, G.up)) ∙ G.below.at j a b };
          long = value-long ∙ G.long;
          up = omega (arith, G.up, value-up);
          few = omega arith;
          small_n = G.small_n;
          small-place = small_r;
          left = λ ns g m k hs R.
              let u = G.left ns g m k hs R in
              bind-some (sym (names-called s p x N v e) ∙ u.1) (λ ms a b.
              let c : map small (word_at s v.at) ∷ ms ≡ u.0 = some_inj b in
              let d : i + suc (length ms) ≡ n = ap (λ (zs : List Name). i + length zs) c ∙ u.2 in
              let R' : Room 4 place l = record { start = omega (arith, G.up, R.start); fits = omega (arith, u.3, R.fits); long = rw G.long R.long } in
              let t : r ≡ place + 4 = L.free ∙ top-more place l R'.fits in (
                ms,
                a,
                omega arith,
                omega (arith, u.3),
                λ l'' E W.
                    let E' : Same 0 (place + 4) l'' l' = rw t at E in
                    let W' : Values s l'' kind newest (place + 4) (i + 1) ms = rw t at W in
                    u.4 l'' (record { at = λ j aa bb. E'.at j aa (omega arith) ∙ value_same.at j aa bb })
                    (rw (← c) (value-held ms d k hs R' l'' E' W')),
              ));
        }
          where
            top-more : (place : ℕ) (l : List ℕ) → place + 4 ≤ 16384 → (lay (value_entry kind newest n name i place) place l).top ≡ place + 4
            top-more place l f = (lay-l (value_entry kind newest n name i place) place l).top-is f

pub ruleset values_laws = (values-done, values-lost, values-on)

-- ---- `add_enum`

pub lays-described : (l : List ℕ) (st : State) (name n q : ℕ) (m : List ℕ) → Laid (lay (enum_entry st name) st.top l) q m → (x : Info) → x ≡ enum_info st.types n
    → (t : ℕ) (m' : List ℕ) → Laid (lay (info_numbers x) q m) t m' → LaysDescribed l st name n (record { place = q; top = t }) m'
lays-described l st name n q m L x hx t m' M = record {
  place_is = L.free;
  top-is = M.free ∙ rw (hx, L.free, L.left) refl;
  list-is = M.left ∙ rw (hx, L.free, L.left) refl;
}

pub lays-enum : (s l : List ℕ) (st : State) (p at n name : ℕ) → name ≡ keyed s p → (q : Placed) (m : List ℕ) → LaysDescribed l st name n q m → (free : ℕ) (k : List ℕ)
    → LaysValues s m st.types st.scope.newest n q.top at free k → (l' : List ℕ) → Ordered s k st.top n l'
    → LaysEnum s l st p at n (record { place = q.place; top = free }) l'
lays-enum s l st p at n name e q m L free k W l' O = record { laid = k; values = rw (← e, ← L.top-is, ← L.list-is) W; in_order = O; place_is = rw (← e) L.place_is }

pub adds-enum : (s l ts : List ℕ) (st : State) (p at n : ℕ) (q : Placed) (l' : List ℕ) → LaysEnum s l st p at n q l' → (ts' : List ℕ) → ts' ≡ set ts st.types q.place
    → (c : ℕ) → c ≡ counted n → (st' : State) → st' ≡ type_state st c st.top 1 q.top → (r : Lined) → r ≡ lined_by fault.Clear true st' → AddsEnum s l ts st p at n r l' ts'
adds-enum s l ts st p at n q l' L ts' e c hc st' hs r hr = record {
  free = q.top;
  laid = L.laid;
  values = L.values;
  in_order = L.in_order;
  places = e ∙ ap (λ (z : ℕ). set ts st.types z) L.place_is;
  answer = hr ∙ ap (λ (z : State). lined_by fault.Clear true z) (hs ∙ ap (λ (z : ℕ). type_state st z st.top 1 q.top) hc);
}

-- ---- put in order they are the same values

called-by : {s l l' : List ℕ} {q : ℕ} {w : Name} → get_or l' q 0 ≡ get_or l q 0 → Called s l q w → Called s l' q w
unfolding name_at key_at
called-by e C = record { name-is = rw e C.name-is; key-is = rw e C.key-is }

pub values-ordered : {s l l' : List ℕ} {p k kind newest : ℕ} → Ordered s l p k l' → (i n : ℕ) (ws : List Name) → Values s l kind newest (p + 12 + 4 * i) n ws
    → Values s l' kind newest (p + 12 + 4 * i) n ws
values-ordered O i n [] W = no_value
values-ordered {s} {l} {l'} {p} {k} {kind} {newest} O i n (w ∷ ws) (one_value C a b d W) =
    let z : p + 12 + 4 * i + 4 ≡ p + 12 + 4 * suc i = omega arith in
    let first : get_or l' (p + 12 + 4 * i) 0 ≡ get_or l (p + 12 + 4 * i) 0 = O.other (p + 12 + 4 * i) (λ e. omega arith) (λ j e. omega arith) in
    let rest : Values s l' kind newest (p + 12 + 4 * suc i) (n + 1) ws = values-ordered O (suc i) (n + 1) ws (subst (λ (q : ℕ). Values s l kind newest q (n + 1) ws) z W) in
    one_value (called-by first C)
    (O.sorts (p + 12 + 4 * i + 1) (λ e. omega arith) ∙ a)
    (O.other (p + 12 + 4 * i + 2) (λ e. omega arith) (λ j e. omega arith) ∙ b)
    (O.other (p + 12 + 4 * i + 3) (λ e. omega arith) (λ j e. omega arith) ∙ d)
    (subst (λ (q : ℕ). Values s l' kind newest q (n + 1) ws) (sym z) rest)

-- each is linked to the next, the last to the newest entry before
pub values-linked : {s l : List ℕ} {kind newest : ℕ} (place n : ℕ) (ws : List Name) → Values s l kind newest place n ws
    → (i : ℕ) → suc i < length ws → get_or l (place + 4 * i + 3) 0 ≡ place + 4 * suc i
unfolding start_of
values-linked place n [] W i h = absurd (omega arith)
values-linked place n (w ∷ []) W i h = absurd (omega arith)
values-linked {l = l} place n (w ∷ (v ∷ ws)) (one_value C a b d W) zero h =
    let x : place + 4 * 0 + 3 ≡ place + 3 = omega arith in
    let y : place + 4 ≡ place + 4 * 1 = omega arith in
    ap (λ (j : ℕ). get_or l j 0) x ∙ d ∙ y
values-linked {l = l} place n (w ∷ (v ∷ ws)) (one_value C a b d W) (suc i) h =
    let x : place + 4 + 4 * i + 3 ≡ place + 4 * suc i + 3 = omega arith in
    let y : place + 4 + 4 * suc i ≡ place + 4 * suc (suc i) = omega arith in
    ap (λ (j : ℕ). get_or l j 0) (sym x) ∙ values-linked (place + 4) (n + 1) (v ∷ ws) W i (omega arith) ∙ y

pub values-last : {s l : List ℕ} {kind newest : ℕ} (place n : ℕ) (w : Name) (ws : List Name) → Values s l kind newest place n (w ∷ ws)
    → get_or l (place + 4 * length ws + 3) 0 ≡ newest
unfolding start_of
values-last {l = l} place n w [] (one_value C a b d W) = let x : place + 4 * 0 + 3 ≡ place + 3 = omega arith in ap (λ (j : ℕ). get_or l j 0) x ∙ d
values-last {l = l} place n w (v ∷ ws) (one_value C a b d W) =
    let x : place + 4 + 4 * length ws + 3 ≡ place + 4 * suc (length ws) + 3 = omega arith in
    ap (λ (j : ℕ). get_or l j 0) (sym x) ∙ values-last (place + 4) (n + 1) v ws W

-- ---- what the entries add to the names

-- an entry that a lookup passes as the chain does, before those that it links to
pub chained-one : {s l : List ℕ} {scope : Scope} {top : ℕ} {σ : Environment} {bs : List ℕ} {ns : List (Name × NameSort)} (place : ℕ) (w : Name) (m : NameSort)
    → 1 ≤ place → Below s l top (suc scope.count) place → Called s l place w → Means σ bs (meaning_by (get_or l (place + 1) 0) (get_or l (place + 2) 0)) m → get_or l (place + 3) 0 ≡ scope.newest
    → Chained s l scope top σ bs ns → Chained s l (scoped (suc scope.count) place) top σ bs ((w, m) ∷ ns)
unfolding entries meaning_at
chained-one {l = l} {scope = scope} place w m h B e M k C = record {
  names = rw k (one_name {w = w} {a = m} h e (record { means = rw (ne_eqb place 0 (λ z. omega arith)) M }) C.names);
  below = B;
}

pub value-means : (σ : Environment) (bs : List ℕ) (t sort n : ℕ) → t < 128 → sort % 512 ≡ 3 + 4 * t → Means σ bs (meaning_by sort n) (a_value (record { kind = t; value = pos n }))
unfolding meaning_by
value-means σ bs t sort n h e =
    let a : sort % 4 ≡ 3 = omega arith in
    let c : sort / 4 ≡ t + 128 * (sort / 512) = omega arith in
    let d : (t + 128 * (sort / 512)) % 128 ≡ t = omega arith in
    let b : sort / 4 % 128 ≡ t = ap (λ (x : ℕ). x % 128) c ∙ d in
    rw (a, b) a-value

value-alone : (l : List ℕ) (t place : ℕ) → get_or l (place + 1) 0 % 512 ≡ 3 + 4 * t → values_behind l place ≡ 0
unfolding values_behind values_by
value-alone l t place e = let a : get_or l (place + 1) 0 % 4 ≡ 3 = omega arith in rw a refl

pub chained-values : {s l : List ℕ} {scope : Scope} {top : ℕ} {σ : Environment} {bs : List ℕ} {ns : List (Name × NameSort)} (kind place n : ℕ) (ws : List Name) → kind < 128
    → Values s l kind scope.newest place n ws → 1 ≤ place → place + 4 * length ws ≤ top → Chained s l scope top σ bs ns
    → Chained s l (scoped (length ws + scope.count) (start_of ws place scope.newest)) top σ bs (enum_names kind n ws ++ ns)
unfolding start_of enum_names
chained-values {s} {l} {scope} {top} {σ} {bs} {ns} kind place n [] q W h g C = let c : scope.count ≡ 0 + scope.count = omega arith in record { names = rw (← c) C.names; below = rw (← c) C.below }
chained-values {s} {l} {scope} {top} {σ} {bs} {ns} kind place n (w ∷ ws) q (one_value e a b k W) h g C =
    let c : suc (length ws + scope.count) ≡ suc (length ws) + scope.count = omega arith in
    let d : n + 1 ≡ suc n = omega arith in
    let K : Chained s l (scoped (length ws + scope.count) (start_of ws (place + 4) scope.newest)) top σ bs (enum_names kind (suc n) ws ++ ns) = rw d at (chained-values kind (place + 4) (n + 1) ws q W (omega arith) (omega arith) C) in
    let B : Below s l top (suc (length ws + scope.count)) place = one_entry {n = length ws + scope.count} {p = place} (omega arith) (value-alone l kind place a) (rw k K.below) in
    let one = chained-one {scope = scoped (length ws + scope.count) (start_of ws (place + 4) scope.newest)} place w (a_value (record { kind = kind; value = pos n })) h B e (rw b (value-means σ bs kind (get_or l (place + 1) 0) n q a)) k K in
    record { names = rw (← c) one.names; below = rw (← c) one.below }

-- ---- an enum value has one name

module _ (t : ℕ) (old : List (Name × NameSort)) (none_old : (w : Name) (c : Const) → find old w ≡ some (a_value c) → c.kind < t) where
  value_inj : {c d : Const} → some (a_value c) ≡ some (a_value d) → c ≡ d
  value_inj h = go (some_inj h)
    where
      go : {c d : Const} → a_value c ≡ a_value d → c ≡ d
      go e = cc

  -- ordinals from n on
  value-later : (ws : List Name) (n m : ℕ) (b : Name) → m < n → find (enum_names t n ws ++ old) b ≡ some (a_value (record { kind = t; value = pos m })) → ⊥
  unfolding enum_names find
  value-later [] n m b h e = let z = none_old b (record { kind = t; value = pos m }) e in omega arith
  value-later (w ∷ ws) n m b h e = go (λ g. value-later ws (suc n) m b (omega arith) g) (same w b) e
    where
      go : (find (enum_names t (suc n) ws ++ old) b ≡ some (a_value (record { kind = t; value = pos m })) → ⊥) → (u : Bool)
          → elim u [ true ↦ some (a_value (record { kind = t; value = pos n })) | false ↦ find (enum_names t (suc n) ws ++ old) b ] ≡ some (a_value (record { kind = t; value = pos m })) → ⊥
      go _ true g = let z : n ≡ m = pos_inj (ap (λ (c : Const). c.value) (value_inj g)) in omega arith
        where
          pos_inj : {a b : ℕ} → pos a ≡ pos b → a ≡ b
          pos_inj q = cc
      go k false g = k g

  pub values-once : ((v w : Name) (c : Const) → find old v ≡ some (a_value c) → find old w ≡ some (a_value c) → same v w ≡ true) → (ws : List Name) (n : ℕ) (a b : Name) (c : Const)
      → find (enum_names t n ws ++ old) a ≡ some (a_value c) → find (enum_names t n ws ++ old) b ≡ some (a_value c) → same a b ≡ true
  unfolding enum_names find
  values-once O [] n a b c e f = O a b c e f
  values-once O (w ∷ ws) n a b c e f = go (λ g h. values-once O ws (suc n) a b c g h) (same w a) refl (same w b) refl e f
    where
      here : Const
      here = record { kind = t; value = pos n }

      go : (find (enum_names t (suc n) ws ++ old) a ≡ some (a_value c) → find (enum_names t (suc n) ws ++ old) b ≡ some (a_value c) → same a b ≡ true)
          → (u : Bool) → same w a ≡ u → (v : Bool) → same w b ≡ v → elim u [ true ↦ some (a_value here) | false ↦ find (enum_names t (suc n) ws ++ old) a ] ≡ some (a_value c)
          → elim v [ true ↦ some (a_value here) | false ↦ find (enum_names t (suc n) ws ++ old) b ] ≡ some (a_value c) → same a b ≡ true
      go _ true p true q g h = rw (← same-equal w a p) q
      go _ true p false q g h = absurd (value-later ws (suc n) n b (omega arith) (h ∙ sym g))
      go _ false p true q g h = absurd (value-later ws (suc n) n a (omega arith) (g ∙ sym h))
      go k false p false q g h = k g h

-- procedures stay so
value-proc : (c : Const) (q : ℕ) (us : List ℕ) → a_value c ≡ a_proc q us → ⊥
value-proc c q us h = let z : ◌≡◌ {A = ℕ} 0 1 = cc in omega arith

pub procs-old : (t : ℕ) (old : List (Name × NameSort)) (ws : List Name) (n : ℕ) (a : Name) (q : ℕ) (us : List ℕ)
    → find (enum_names t n ws ++ old) a ≡ some (a_proc q us) → find old a ≡ some (a_proc q us)
unfolding enum_names
procs-old t old [] n a q us e = e
procs-old t old (w ∷ ws) n a q us e = procs-old t old ws (suc n) a q us (find-other w a (a_value _) (a_proc q us) (enum_names t (suc n) ws ++ old) (value-proc _ q us) e)

-- values of a declared kind stay so
pub values-above : (t : ℕ) (old : List (Name × NameSort)) → 2 ≤ t → ((w : Name) (c : Const) → find old w ≡ some (a_value c) → 2 ≤ c.kind) → (ws : List Name) (n : ℕ) (a : Name) (c : Const)
    → find (enum_names t n ws ++ old) a ≡ some (a_value c) → 2 ≤ c.kind
unfolding enum_names find
values-above t old b O [] n a c e = O a c e
values-above t old b O (w ∷ ws) n a c e = go (λ g. values-above t old b O ws (suc n) a c g) (same w a) e
  where
    kind-is : {d : Const} → some (a_value (record { kind = t; value = pos n })) ≡ some (a_value d) → t ≡ d.kind
    kind-is q = cc

    go : (find (enum_names t (suc n) ws ++ old) a ≡ some (a_value c) → 2 ≤ c.kind) → (u : Bool)
        → elim u [ true ↦ some (a_value (record { kind = t; value = pos n })) | false ↦ find (enum_names t (suc n) ws ++ old) a ] ≡ some (a_value c) → 2 ≤ c.kind
    go _ true g = let z = kind-is g in omega arith
    go k false g = k g

-- the kinds of declared values are types of the table
pub value-kind : {Γ : Types} {k : ℕ} {ns : List (Name × NameSort)} → AllFair Γ k ns → (w : Name) (c : Const) → find ns w ≡ some (a_value c) → c.kind < length Γ
value-kind {Γ} {k} A w c h = go (find-fair A w (a_value c) h)
  where
    go : {c : Const} → Fair Γ k (a_value c) → c.kind < length Γ
    go (value l _) = l
