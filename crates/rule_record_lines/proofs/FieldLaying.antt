-- The fields of a record: how they are laid.
use mathlib.Core.Path.{◌≡◌, refl, sym, ap, ◌∙◌}
use mathlib.Core.Bool.{Bool, true, false}
use mathlib.Core.List.{List, [], ◌∷◌, map}
use mathlib.Core.Option.{Option, none, some}
use Prim.Native.Nat.{ℕ, suc, ◌+◌, ◌*◌, ◌%◌, ◌<◌, ◌≤◌}
use native.Mathlib.Nat.{mod-eq_of_lt}
use native.Mathlib.Omega.{arith}
use borrow.Author.Tests.{le-leb, lt-leb}
use mir.Syntax.{w32}
use mir.Val.{Fits}
use lib.Dec.{leb}
use lib.ListN.{length, get_or, set}
use Rattle.leaf_bytes.specs.Bytes.{small}
use Rattle.law.specs.Base.{Name, ◌>>=◌, each}
use Rattle.law.specs.Ceilings.{field_sizes}
use Rattle.law.specs.Environment.{Environment, lay_fields}
use Rattle.code.specs.Layout.{lay}
use Rattle.law.specs.Names.{type_of}
use Rattle.law.specs.Syntax.{TypeName}
use Rattle.law.specs.Trees.{first, word_at}
use Rattle.law_theorems.specs.Readings.{stack_at}
use Rattle.law.specs.Types.{size_of}
use Rattle.law_theorems.proofs.Inversion.{none-some, some_inj, bind-some}
use Rattle.code.proofs.LayoutRegions.{Has, lay-g, lay-l}
use Rattle.code.specs.LayoutRegions.{Same, Room}
use Rattle.table_list.specs.Laid.{Laid}
use Rattle.table_names.specs.Keys.{keyed}
use Rattle.table_scope.specs.declared.Scope.{Scope}
use Rattle.rule_faults.specs.declared.Fault.TheVariants as fault
use Rattle.table_scope.specs.declared.Info.{Info}
use Rattle.table_scope.specs.Descriptions.{info_of, fields_at}
use Rattle.table_scope.specs.Scene.{Scene}
use Rattle.table_scope.proofs.Kept.{scene-kept}
use Rattle.table_scope.proofs.Telling.{size-told}
use Rattle.rule_faults.specs.Got.{is_form}
use Rattle.rule_declarations.specs.Lines.{lined_by}
use Rattle.rule_type_lines.specs.TypeLines.{type_state, LaysType}
use Rattle.rule_pairs.specs.Pairs.{pairs_in, resolve, add_size, GivesPair}
use Rattle.rule_record_lines.specs.Records.{field_entry, LaysFields, record_info, LaysRecord, AddsRecord, record_fits}
use Rattle.rule_declarations.specs.declared.State.{State}
use Rattle.rule_declarations.specs.declared.Lined.{Lined}
use Rattle.rule_type_lines.specs.declared.Placed.{Placed}
use Rattle.rule_pairs.specs.declared.Pair.{Pair}
use Rattle.rule_declarations.proofs.Growing.{laid_same}
use Rattle.rule_pairs.proofs.PairParts.{pairs-nothing, pairs-more, size-more}

-- ---- small functions

pub field-laid : (y kind offset place name : ℕ) → name ≡ y % 32768 → (l : List ℕ) (r : ℕ) (l' : List ℕ)
    → Laid (lay (name ∷ kind ∷ offset ∷ 0 ∷ []) place l) r l' → Laid (lay (field_entry y kind offset) place l) r l'
unfolding field_entry
field-laid y kind offset place name e l r l' L = rw (← e) L

pub record-info-is : (n size : ℕ) → record { shape = 3; host = 0; low = 0; high = 0; size = size; index = 0; element = 0; fields = n; place = 0 } ≡ record_info n size
unfolding record_info
record-info-is n size = refl

pub fits-few : (n size : ℕ) → n ≤ 16 → leb size 2048 ≡ record_fits n size
unfolding record_fits
fits-few n size h = rw (le-leb n 16 h) refl

pub fits-many : (n size : ℕ) → 16 < n → false ≡ record_fits n size
unfolding record_fits
fits-many n size h = rw (lt-leb n 16 h) refl

pub ruleset record_fits_laws = (fits-few, fits-many)

pub lays-record : (s l ts : List ℕ) (st : State) (p at n size : ℕ) (x : Info) → x ≡ record_info n size → (name : ℕ) → name ≡ keyed s p → (q : Placed) (m : List ℕ) → LaysType l st name x q m → (free : ℕ) (l' : List ℕ)
    → LaysFields s m ts st.scope n q.top at free l' → LaysRecord s l ts st p at n size (record { place = q.place; top = free }) l'
lays-record s l ts st p at n size x hx name e q m L free l' F = record { fields = rw (← e, ← hx, ← L.top-is, ← L.list-is) F; place_is = rw (← e) L.place_is }

pub adds-record : (s l ts : List ℕ) (st : State) (p at n size : ℕ) (q : Placed) (l' : List ℕ) → LaysRecord s l ts st p at n size q l' → (ts' : List ℕ) → ts' ≡ set ts st.types q.place
    → (st' : State) → st' ≡ type_state st 1 st.top 1 q.top → (r : Lined) → r ≡ lined_by fault.Clear true st' → AddsRecord s l ts st p at n size r l' ts'
adds-record s l ts st p at n size q l' L ts' e st' hs r hr = record {
  free = q.top;
  fields = L.fields;
  places = e ∙ ap (λ (z : ℕ). set ts st.types z) L.place_is;
  answer = hr ∙ ap (λ (z : State). lined_by fault.Clear true z) hs;
}

-- ---- `lay_fields`

-- the first of resolved fields
resolve-inv : (σ : Environment) (w : Name) (t : TypeName) (ms : List (Name × TypeName)) (hs : List (Name × ℕ)) → resolve σ ((w, t) ∷ ms) ≡ some hs
    → (k : ℕ) × (hs' : List (Name × ℕ)) × (type_of σ t ≡ some k) × (resolve σ ms ≡ some hs') × (hs ≡ (w, k) ∷ hs')
unfolding resolve each ◌>>=◌
resolve-inv σ w t ms hs h = go (type_of σ t) (resolve σ ms) refl refl h
  where
    go : (o : Option ℕ) (u : Option (List (Name × ℕ))) → type_of σ t ≡ o → resolve σ ms ≡ u
        → ((o >>= λ (k : ℕ). some (w, k)) >>= λ (f : Name × ℕ). u >>= λ (fs : List (Name × ℕ)). some (f ∷ fs)) ≡ some hs
        → (k : ℕ) × (hs' : List (Name × ℕ)) × (type_of σ t ≡ some k) × (resolve σ ms ≡ some hs') × (hs ≡ (w, k) ∷ hs')
    go none u a b c = none-some c
    go (some k) none a b c = none-some c
    go (some k) (some hs') a b c = (k, hs', a, b, sym (some_inj c))

-- i fields are laid; p is past them, and their cells are `offset`
pub record LayingFields (s l₀ ts : List ℕ) (scope : Scope) (n top at p i place offset : ℕ) (l : List ℕ) : Type 0 where
  pub below : Same 0 top l l₀
  pub long : length l ≡ length l₀
  pub up : top ≤ place
  pub few : i ≤ n
  pub small_n : Fits w32 n
  pub small-place : Fits w32 place
  pub small-offset : Fits w32 offset
  pub left : (low : ℕ) (σ : Environment) (bs : List ℕ) → Scene s l₀ ts scope low σ bs → low ≤ top → (fs : List (Name × TypeName)) → pairs_in (first (stack_at s at)) ≡ some fs
      → (gs : List (Name × ℕ)) → resolve σ fs ≡ some gs → length gs ≡ n → field_sizes σ.types gs ≤ 2048 → length s ≤ 32768 → Room (4 * n) top l₀
      → (ms : List (Name × TypeName)) × (hs : List (Name × ℕ)) × (pairs_in (first (stack_at s p)) ≡ some ms) × (resolve σ ms ≡ some hs) × (i + length hs ≡ n) × (place ≡ top + 4 * i)
      × (offset + field_sizes σ.types hs ≤ 2048) × ((l' : List ℕ) → Same 0 place l' l → fields_at s l' place (length hs) ≡ lay_fields σ.types offset hs → fields_at s l' top n ≡ lay_fields σ.types 0 gs)

module _ (s l₀ ts : List ℕ) (scope : Scope) (n top at : ℕ) where
  pub fields-start : Fits w32 n → Fits w32 top → LayingFields s l₀ ts scope n top at at 0 top 0 l₀
  fields-start f g = record {
    below = record { at = λ _ _ _. refl };
    long = refl;
    up = omega arith;
    few = omega arith;
    small_n = f;
    small-place = g;
    small-offset = record { fits = omega arith };
    left = λ low σ bs S h fs e gs r m z hs R. (fs, gs, e, r, omega arith, omega arith, omega arith, λ l' _ d. rw m at d);
  }

  module _ (p i place offset : ℕ) (l : List ℕ) (G : LayingFields s l₀ ts scope n top at p i place offset l) where
    pub laying-place : Fits w32 place
    laying-place = G.small-place

    pub laying-offset : Fits w32 offset
    laying-offset = G.small-offset

    no_more : (hs : List (Name × ℕ)) → i + length hs ≡ n → n ≤ i → hs ≡ []
    no_more [] e h = refl
    no_more (w ∷ ws) e h = absurd (omega arith)

    pub fields-done : n ≤ i → LaysFields s l₀ ts scope n top at place l
    unfolding fields_at lay_fields
    fields-done h = record {
      below = G.below;
      long = G.long;
      fields = λ low σ bs S g fs e gs r m z hs R.
          let x = G.left low σ bs S g fs e gs r m z hs R in
          let y : x.1 ≡ [] = no_more x.1 x.4 h in
          let j : i ≡ n = omega (arith, G.few) in
          (x.7 l (record { at = λ _ _ _. refl }) (rw y refl), rw (← j) x.5);
    }

    module _ (h : i < n) (f : Pair) (F : GivesPair s l scope p f) (offset' : ℕ) (ho : offset' ≡ add_size offset (info_of l ts f.kind).size) (small-offset' : Fits w32 offset')
        (r : ℕ) (l' : List ℕ) (L : Laid (lay (field_entry f.name f.kind offset) place l) r l') (small_r : Fits w32 r) where
      abbrev entry : List ℕ
      entry = field_entry f.name f.kind offset

      field-same : Same 0 place l' l
      field-same = laid_same entry place l l' L.left

      field-up : place ≤ r
      field-up = rw L.free (lay-g entry place l).up

      field_top : place + 4 ≤ 16384 → r ≡ place + 4
      unfolding field_entry
      field_top g = L.free ∙ (lay-l entry place l).top-is g

      -- one field more, in a list that agrees up to its end
      field-held : (σ : Environment) (w : Name) (k : ℕ) (hs : List (Name × ℕ)) → w ≡ map small (word_at s f.name) → f.kind ≡ k → f.name < length s → length s ≤ 32768 → Room 4 place l
          → (m : List ℕ) → Same 0 (place + 4) m l' → fields_at s m (place + 4) (length hs) ≡ lay_fields σ.types (offset + size_of σ.types k) hs
          → fields_at s m place (suc (length hs)) ≡ lay_fields σ.types offset ((w, k) ∷ hs)
      unfolding field_entry fields_at lay_fields
      field-held σ w k hs hw hk hy hl R m E d =
          let H : Has entry place l' = (lay-l entry place l).held R l' (record { at = λ j _ _. ap (λ (z : List ℕ). get_or z j 0) L.left }) in
          let z : place + 0 ≡ place = omega arith in
          let a : f.name % 32768 ≡ f.name = mod-eq_of_lt (omega arith) in
          let v : get_or m place 0 ≡ f.name = E.at place (omega arith) (omega arith) ∙ ap (λ (j : ℕ). get_or l' j 0) (sym z) ∙ H.at 0 (omega arith) ∙ a in
          let x : get_or m (place + 1) 0 ≡ k = E.at (place + 1) (omega arith) (omega arith) ∙ H.at 1 (omega arith) ∙ hk in
          let y : get_or m (place + 2) 0 ≡ offset = E.at (place + 2) (omega arith) (omega arith) ∙ H.at 2 (omega arith) in
          rw (v, x, y, d, hw) refl

      -- a part that is no field has no place here
      not-form : (b : Bool) → is_form f.fault ≡ b → (low : ℕ) (σ : Environment) (bs : List ℕ) → Scene s l ts scope low σ bs → (ms : List (Name × TypeName)) (hs : List (Name × ℕ))
          → pairs_in (first (stack_at s p)) ≡ some ms → resolve σ ms ≡ some hs → i + length hs ≡ n → is_form f.fault ≡ false
      unfolding resolve each
      not-form false e low σ bs S ms hs a c d = e
      not-form true e low σ bs S ms hs a c d =
          let z : ms ≡ [] = pairs-nothing s l scope p f F f.fault refl true (sym e) refl ts low σ bs S ms a in
          let y : [] ≡ hs = some_inj (rw z at c) in
          let x : i + 0 ≡ n = ap (λ (q : List (Name × ℕ)). i + length q) y ∙ d in
          absurd (omega arith)

      pub fields-on : LayingFields s l₀ ts scope n top at f.next (i + 1) r offset' l'
      unfolding field_sizes
      fields-on = record {
        below = record { at = λ j a b. field-same.at j a (omega (arith, G.up)) ∙ G.below.at j a b };
        long = rw L.left (lay-g entry place l).long ∙ G.long;
        up = omega (arith, G.up, field-up);
        few = omega arith;
        small_n = G.small_n;
        small-place = small_r;
        small-offset = small-offset';
        left = λ low σ bs S g fs e gs q m z hl R.
            let u = G.left low σ bs S g fs e gs q m z hl R in
            let C : Scene s l ts scope top σ bs = scene-kept S (record { at = λ j a b. G.below.at j a (omega arith) }) g in
            let nf : is_form f.fault ≡ false = not-form (is_form f.fault) refl top σ bs C u.0 u.1 u.2 u.3 u.4 in
            let x = pairs-more s l scope p f F f.fault refl false (sym nf) refl ts top σ bs C in
            bind-some (sym x.1 ∙ u.2) (λ ms a b.
            let w = map small (word_at s f.name) in
            let c : (w, x.0) ∷ ms ≡ u.0 = some_inj b in
            let v = resolve-inv σ w x.0 ms u.1 (ap (resolve σ) c ∙ u.3) in
            let k : f.kind ≡ v.0 = x.4 v.0 v.2 in
            let d : i + suc (length v.1) ≡ n = ap (λ (y : List (Name × ℕ)). i + length y) (sym v.4) ∙ u.4 in
            let o : offset + (size_of σ.types v.0 + field_sizes σ.types v.1) ≤ 2048 = rw v.4 at u.6 in
            let y : offset' ≡ offset + size_of σ.types v.0 = ho ∙ ap (λ (j : ℕ). add_size offset j) (ap (λ (j : ℕ). (info_of l ts j).size) k ∙ size-told C v.0) ∙ sym (size-more offset (size_of σ.types v.0) (omega arith) (omega arith)) in
            let R' : Room 4 place l = record { start = omega (arith, G.up, R.start); fits = omega (arith, u.5, R.fits); long = rw G.long R.long } in
            let t : r ≡ place + 4 = field_top R'.fits in (
              ms,
              v.1,
              a,
              v.3,
              omega arith,
              omega (arith, u.5),
              omega arith,
              λ l'' E W.
                  let E' : Same 0 (place + 4) l'' l' = rw t at E in
                  let W' : fields_at s l'' (place + 4) (length v.1) ≡ lay_fields σ.types (offset + size_of σ.types v.0) v.1 =
                  ap (λ (j : ℕ). fields_at s l'' j (length v.1)) (sym t) ∙ W ∙ ap (λ (j : ℕ). lay_fields σ.types j v.1) y in
                  u.7 l'' (record { at = λ j aa bb. E'.at j aa (omega arith) ∙ field-same.at j aa bb })
                  (rw v.4 (field-held σ w v.0 v.1 refl k x.2 hl R' l'' E' W')),
            ));
      }

pub ruleset laying_laws = (fields-done, fields-on)
