-- What document 02 asks where an array or a record is assigned holds: the statement of law's specs/Copies.antt.
use Rattle.std.proofs.Common.{zero-add}
use mathlib.Core.Path.{◌≡◌, refl, sym, ap, ◌∙◌, fun_ext}
use mathlib.Core.Bool.{Bool, true, false, ◌||◌}
use mathlib.Core.List.{List, [], ◌∷◌}
use mathlib.Core.Logic.{◌⊎◌, inl, inr}
use mathlib.Core.Option.{some}
use Prim.Native.Nat.{ℕ, zero, suc, ◌+◌, ◌<◌, ◌≤◌}
use native.Mathlib.Omega.{arith}
use lib.IntN.{ℤ, pos}
use lib.ListN.{get_or, get_elem?, set}
use lib.Seq as Seq
use borrow.Author.Tests.{eq-eqb, eqb-true, ne_eqb}
use Rattle.law.specs.Base.{pick}
use Rattle.law.specs.Calculate.{Result, ◌>>=◌, fails, is, stuck, undefined_error}
use Rattle.law.specs.Chair.{eval_code, place_code, run_act}
use Rattle.law.specs.Code.{Act, Frame, Place, copy_cells, load}
use Rattle.law.specs.Copies.{Copied, Copying, EachCopied, OfCopies, address_of, all_written, mark_at, times_written, writes}
use Rattle.law.specs.Elaborate.{Elaborated, Located, assigning, copying, elab_expr, elab_stmt, elab_target, elaborated, expects, located}
use Rattle.law.specs.Environment.{PlacedBody}
use Rattle.law.specs.Machine.{Procs, Store, answer, defined, is_defined, normal, raising, read_cell, read_cells, state, store_whole, stored, undefined}
use Rattle.law.specs.Marking.{placed_as}
use Rattle.law.specs.Script.{Expr, Target, assign, binary, const, end_of, error_number, members, read, short_circuit, unary}
use Rattle.law.specs.Types.{Shape, Types, Vars, array_shape, host_of, info_at, is_array, is_ordinal, is_record, is_set, ordinal?, ordinal_shape, record_shape, set?, set_shape, size_of}
use Rattle.law_theorems.proofs.BodiesAgree.{sim-s, sim-t}
use Rattle.law_theorems.proofs.BodiesInRange.{tests_of}
use Rattle.law_theorems.proofs.Components.{target-lies, targets-aside}
use Rattle.law_theorems.proofs.ElaboratedSafe.{One, argument, no-single, one-boolean, one-integer, one-ordinal, one_set, operands}
use Rattle.law_theorems.proofs.Inversion.{and-true, bind-some, both_some, given-some, none-some, some_inj}
use Rattle.law_theorems.proofs.LinesKeep.{text-keeps, text-stand}
use Rattle.law_theorems.proofs.ValuesInRange.{own-host, wrong}
use Rattle.law_theorems.specs.Components.{Aside, above, below, same}
use Rattle.law_theorems.specs.LinesKeep.{AllFormed, body}
use Rattle.law_theorems.specs.ValuesInRange.{Formed, Test}

-- ---- each target cell once

no-cell-before : (b a k c : ℕ) → c < a → times_written c (writes b a k) ≡ 0
unfolding times_written writes pick
no-cell-before b a zero c h = refl
no-cell-before b a (suc k) c h = rw (ne_eqb a c (λ e. omega arith), no-cell-before (suc b) (suc a) k c (omega arith))

no-cell-behind : (b a k c : ℕ) → a + k ≤ c → times_written c (writes b a k) ≡ 0
unfolding times_written writes pick
no-cell-behind b a zero c h = refl
no-cell-behind b a (suc k) c h = rw (ne_eqb a c (λ e. omega arith), no-cell-behind (suc b) (suc a) k c (omega arith))

once : (b a k j : ℕ) → j < k → times_written (a + j) (writes b a k) ≡ 1
unfolding times_written writes pick
once b a zero j h = absurd (omega arith)
once b a (suc k) zero h = rw (eq-eqb a (a + 0) (omega arith), no-cell-before (suc b) (suc a) k (a + 0) (omega arith))
once b a (suc k) (suc j) h = let e : a + suc j ≡ suc a + j = omega arith in
    rw (ne_eqb a (a + suc j) (λ q. omega arith)) (zero-add (times_written (a + suc j) (writes (suc b) (suc a) k)) ∙ rw e (once (suc b) (suc a) k j (omega arith)))

-- ---- what k cells hold from b on

unfoldable held : List ℤ → ℕ → ℕ → List ℤ
held vs b zero = []
held vs b (suc k) = get_or vs b (pos 0) ∷ held vs (suc b) k

-- a cell that is not among them, or comes before them, may be written first
held_kept : (k b a : ℕ) (vs : List ℤ) (z : ℤ) → (a < b) ⊎ (b + k ≤ a) → held (set vs a z) b k ≡ held vs b k
unfolding held
held_kept zero b a vs z h = refl
held_kept (suc k) b a vs z h = rw (Seq.get_or-set_other vs a b z (pos 0) (λ e. apart h e), held_kept k (suc b) a vs z (next h))
  where
    apart : (a < b) ⊎ (b + suc k ≤ a) → (b ≡ a) → ⊥
    apart (inl l) e = omega (arith, l, e)
    apart (inr l) e = omega (arith, l, e)

    next : (a < b) ⊎ (b + suc k ≤ a) → (a < suc b) ⊎ (suc b + k ≤ a)
    next (inl l) = inl (omega (arith, l))
    next (inr l) = inr (omega (arith, l))

-- where no cell is read after it was written, the writes in order leave what was read before them
in_order : (k b a : ℕ) (m : Store) → (a ≤ b) ⊎ (b + k ≤ a) → all_written (writes b a k) m ≡ stored a (held m.values b k) m
unfolding held all_written writes
in_order zero b a m h = refl
in_order (suc k) b a m h =
    let z = get_or m.values b (pos 0) in
    in_order k (suc b) (suc a) (stored a (z ∷ []) m) (next h) ∙ ap (λ (zs : List ℤ). stored a (z ∷ zs) m) (held_kept k (suc b) a m.values z (behind h))
  where
    next : (a ≤ b) ⊎ (b + suc k ≤ a) → (suc a ≤ suc b) ⊎ (suc b + k ≤ suc a)
    next (inl l) = inl (omega (arith, l))
    next (inr l) = inr (omega (arith, l))

    behind : (a ≤ b) ⊎ (b + suc k ≤ a) → (a < suc b) ⊎ (suc b + k ≤ a)
    behind (inl l) = inl (omega (arith, l))
    behind (inr l) = inr (omega (arith, l))

order : {a b k : ℕ} → Aside a b k → (a ≤ b) ⊎ (b + k ≤ a)
order (same e) = inl (omega (arith, e))
order (below l) = inl (omega (arith, l))
order (above l) = inr l

-- ---- reading them

reads_all : (k b : ℕ) (m : Store) → ((j : ℕ) → j < k → is_defined (mark_at m b j) ≡ true) → read_cells b k m ≡ is (held m.values b k)
unfolding read_cells read_cell held pick
reads_all zero b m h = refl
reads_all (suc k) b m h =
    let e : b + 0 ≡ b = omega arith in let d : is_defined (get_or m.marks b undefined) ≡ true = rw e at (h 0 (omega arith)) in
    rw (d, reads_all k (suc b) m (λ j l. let f : suc b + j ≡ b + suc j = omega arith in rw f (h (suc j) (omega arith))))

reads_none : (k b j : ℕ) (m : Store) → j < k → mark_at m b j ≡ undefined → read_cells b k m ≡ fails undefined_error
unfolding read_cells read_cell pick
reads_none zero b j m l h = absurd (omega arith)
reads_none (suc k) b zero m l h = let e : b + 0 ≡ b = omega arith in let d : get_or m.marks b undefined ≡ undefined = rw e at h in rw d
reads_none (suc k) b (suc j) m l h = go (is_defined (get_or m.marks b undefined)) (reads_none k (suc b) j m (omega arith) (let f : suc b + j ≡ b + suc j = omega arith in rw f h))
  where
    go : (t : Bool) → read_cells (suc b) k m ≡ fails undefined_error
        → (pick t (is (get_or m.values b (pos 0))) (fails undefined_error) >>= λ z. read_cells (suc b) k m >>= λ zs. is (z ∷ zs)) ≡ fails undefined_error
    go true e = rw e
    go false e = refl

-- ---- to itself

same_store : (m : Store) (vs : List ℤ) (ms : List ℕ) → vs ≡ m.values → ms ≡ m.marks → record { values = vs; marks = ms; latest = m.latest; place = m.place } ≡ m
same_store m vs ms e f = rw (e, f)

mark-again : (ms : List ℕ) (a : ℕ) → get_or ms a undefined ≡ defined → set ms a defined ≡ ms
mark-again ms a h = ap (set ms a) (sym h) ∙ Seq.set-get_or ms a undefined

again : (a : ℕ) (m : Store) → get_or m.marks a undefined ≡ defined → stored a (get_or m.values a (pos 0) ∷ []) m ≡ m
again a m h = same_store m _ _ (Seq.set-get_or m.values a (pos 0)) (mark-again m.marks a h)

unchanged : (k a : ℕ) (m : Store) → ((j : ℕ) → j < k → mark_at m a j ≡ defined) → all_written (writes a a k) m ≡ m
unfolding all_written writes
unchanged zero a m h = refl
unchanged (suc k) a m h =
    let e : a + 0 ≡ a = omega arith in
    ap (all_written (writes (suc a) (suc a) k)) (again a m (rw e at (h 0 (omega arith))))
    ∙ unchanged k (suc a) m (λ j l. let f : suc a + j ≡ a + suc j = omega arith in rw f (h (suc j) (omega arith)))

-- ---- the act, between places that are the same or have no cell in common

module _ (ps : Procs) (n k : ℕ) (p q : Place) (away : (m : Store) (a b : ℕ) → place_code p m ≡ is a → place_code q m ≡ is b → Aside a b k) where
  carries : (m : Store) (left b a : ℕ) → place_code q m ≡ is b → ((j : ℕ) → j < k → is_defined (mark_at m b j) ≡ true) → place_code p m ≡ is a
      → run_act ps (copy_cells n p q k) (state m (suc left)) ≡ answer normal (state (all_written (writes b a k) m) left)
  unfolding run_act eval_code store_whole
  carries m left b a f d e = rw (f, reads_all k b m d, e) (ap (λ (u : Store). answer normal (state u left)) (sym (in_order k b a m (order (away m a b e f)))))

  tests : (m : Store) (left b j : ℕ) → place_code q m ≡ is b → j < k → mark_at m b j ≡ undefined → run_act ps (copy_cells n p q k) (state m (suc left)) ≡ raising undefined_error n (state m left)
  unfolding run_act eval_code
  tests m left b j f l h = rw (f, reads_none k b j m l h)

  is-copy : Copying n k (place_code q) (place_code p) (run_act ps (copy_cells n p q k))
  is-copy = record {
    cell-to-cell = carries;
    test-first = tests;
    to-itself = λ m left a f e h. carries m left a a f (λ j l. rw (h j l)) e ∙ ap (λ (u : Store). answer normal (state u left)) (unchanged k a m h);
  }

-- ---- what an array or a record is given

whole-shape : {P : Type 0} (s : Shape) → (is_array s || is_record s) ≡ true → (is_ordinal s ≡ false → is_set s ≡ false → P) → P
whole-shape ordinal_shape h k = wrong h
whole-shape set_shape h k = wrong h
whole-shape array_shape h k = k refl refl
whole-shape record_shape h k = k refl refl

address : (t : ℕ) (v : Result ℕ) → (placed_as t v >>= λ w. is w.addr) ≡ v
address t (is a) = refl
address t (fails z) = refl
address t stuck = refl

module _ (Γ : Types) (Δ : Vars) (xs : List Test) (𝓕 : Formed Γ Δ xs) where
  record Reads (e : Expr) (x : Elaborated) : Type 0 where
    source : Target
    given : e ≡ read source
    at : Located
    lies : elab_target Γ Δ source ≡ some at
    is_read : elaborated (host_of Γ at.type) (load at.place (size_of Γ at.type)) ≡ x

  abbrev Sole : ℕ → Type 0
  Sole k = One Γ Δ xs 𝓕 k

  reads : (e : Expr) (x : Elaborated) → elab_expr Γ Δ e ≡ some x → ordinal? Γ x.kind ≡ false → set? Γ x.kind ≡ false → Reads e x
  unfolding elab_expr
  reads e x h o s = go e h
    where
      no : {P : Type 0} → Sole x.kind → P
      no u = no-single _ o s u

      go : (e : Expr) → elab_expr Γ Δ e ≡ some x → Reads e x
      go (const c) h = given-some h λ p v. no (rw (← v) (one-ordinal Γ Δ xs 𝓕 c.kind (and-true (ordinal? Γ c.kind) _ p).0))
      go (read g) h = bind-some h λ w hw e. record { source = g; given = refl; at = w; lies = hw; is_read = some_inj e }
      go error_number h = no (rw (← some_inj h) (one-integer Γ Δ xs 𝓕))
      go (members t es) h = bind-some h λ cs hcs e. given-some e λ p v. no (rw (← v) (one_set Γ Δ xs 𝓕 t p))
      go (end_of q t) h = given-some h λ p v. no (rw (← v) (one-ordinal Γ Δ xs 𝓕 _ (𝓕.hosts t p)))
      go (binary op a b) h = both_some h λ x y hx hy e. bind-some e λ q hq e'. no (rw (← some_inj e') (operands Γ Δ xs 𝓕 x.kind y.kind op hq).result)
      go (short_circuit q a b) h = both_some h λ x y hx hy e. given-some e λ p v. no (rw (← v) (one-boolean Γ Δ xs 𝓕))
      go (unary f a) h = bind-some h λ x hx e. bind-some e λ q hq e'. no (rw (← some_inj e') (argument Γ Δ xs 𝓕 f x.kind hq).result)

  -- of the target's own type
  same-type : (b : Bool) (t u : ℕ) → ordinal? Γ u ≡ b → ordinal? Γ t ≡ false → host_of Γ u ≡ t → u ≡ t
  same-type true t u h o e = wrong (sym (rw (← e, 𝓕.hosts u h) at o))
  same-type false t u h o e = sym (own-host (info_at Γ u).shape u (info_at Γ u).host h) ∙ e

  -- in both machines, where the places are known
  both-copy : (n : ℕ) (g : Target) (w : Located) (e : Expr) (a : Act) → elab_target Γ Δ g ≡ some w → elab_stmt Γ Δ (assign n g e) ≡ some a → (h : Target) → e ≡ read h → (q : Place)
      → elab_target Γ Δ h ≡ some (located w.type q) → a ≡ copy_cells n w.place q (size_of Γ w.type) → Copied Γ Δ n g w e a
  both-copy n g w e a hw ha h given q lies is-act = record {
    source = h;
    given = given;
    place = q;
    lies = lies;
    copies = is-act;
    in-chair = chair;
    in-marking = λ ps. rw (sim-s Γ Δ ps (assign n g e) a ha, fun_ext (λ m. spot g w hw m), fun_ext (λ m. spot h (located w.type q) lies m)) (chair ps);
  }
    where
      chair : (ps : Procs) → Copying n (size_of Γ w.type) (place_code q) (place_code w.place) (run_act ps a)
      chair ps = rw is-act (is-copy ps n (size_of Γ w.type) w.place q λ m a b d f.
          targets-aside Γ Δ xs 𝓕 (target-lies Γ Δ xs 𝓕 g w hw m a d) (target-lies Γ Δ xs 𝓕 h (located w.type q) lies m b f))

      spot : (g : Target) (w : Located) → elab_target Γ Δ g ≡ some w → (m : Store) → address_of Γ Δ g m ≡ place_code w.place m
      spot g w hw m = rw (sim-t Γ Δ g w hw m) (address w.type (place_code w.place m))

  each-copied : EachCopied Γ Δ
  unfolding elab_stmt expects copying
  each-copied n g w e a hw whole ha = whole-shape (info_at Γ w.type).shape whole go
    where
      read_of : ordinal? Γ w.type ≡ false → set? Γ w.type ≡ false → (x : Elaborated) → Reads e x → w.type ≡ x.kind → assigning Γ Δ n w x.code ≡ a → Copied Γ Δ n g w e a
      read_of o s x r k d =
          let t = same-type _ w.type r.at.type refl o (ap (λ (y : Elaborated). y.kind) r.is_read ∙ sym k) in
          both-copy n g w e a hw ha r.source r.given r.at.place (rw (← t) r.lies) (sym (rw (o, s, ← r.is_read, t) at d))

      go : ordinal? Γ w.type ≡ false → set? Γ w.type ≡ false → Copied Γ Δ n g w e a
      go o s = bind-some ha λ u hu h. bind-some h λ c hc d. bind-some hc λ x hx f. given-some f λ p v.
          let i : u ≡ w = some_inj (sym hu ∙ hw) in
          let k : w.type ≡ x.kind = sym (own-host (info_at Γ w.type).shape w.type (info_at Γ w.type).host o) ∙ eqb-true _ x.kind (rw i at p) in
          read_of o s x (reads e x hx (rw (← k) o) (rw (← k) s)) k (rw (v, ← i) (some_inj d))

-- ---- the bodies of an accepted text

formed-at : {xs : List Test} {qs : List Frame} (bs : List PlacedBody) → AllFormed xs qs bs → (i : ℕ) (b : PlacedBody) → get_elem? bs i ≡ some b → Formed b.types b.vars xs
formed-at [] k i b h = none-some h
formed-at (c ∷ bs) (body 𝓕 x k) zero b h = rw (← some_inj h) 𝓕
formed-at (c ∷ bs) (body 𝓕 x k) (suc i) b h = formed-at bs k i b h

pub copies-hold : (text : List ℕ) (work : ℕ) → OfCopies text work
copies-hold text work = record {
  each-once = record { once = once; no-cell-before = no-cell-before; no-cell-behind = no-cell-behind };
  each-copied = λ r h i b e.
      let k = text-keeps text work r h in each-copied b.types b.vars (tests_of r) (formed-at r.known.bodies (k.bodies (tests_of r) (text-stand r.known k)) i b e);
}
