-- An accepted text takes at most 4 numbers for each of its brackets and words, symbol entries included: 16,384 are enough. So does its code by
-- any measure (Measure), where nothing but code is laid.
use mathlib.Core.Path.{◌≡◌, refl, sym, ap, ◌∙◌}
use mathlib.Core.Bool.{Bool, true, false, not}
use mathlib.Core.List.{List, [], ◌∷◌, ◌++◌, map}
use mathlib.Core.Option.{Option, some}
use Prim.Native.Nat.{ℕ, suc, ◌+◌, ◌*◌, ◌≤◌}
use native.Mathlib.Omega.{arith}
use borrow.Author.Tests.{leb-true}
use lib.Dec.{leb}
use lib.ListN.{length, length-append, length-map, drop}
use Rattle.law.specs.Base.{Name, each}
use Rattle.law.specs.Syntax as Syntax
use Rattle.law.specs.Types.{Types, TypeSort, facts, size_of}
use Rattle.law.specs.Script.{Decl, Entry, alias, array_of, enum, new_main, new_proc, new_type, new_var, range, record_of, set_of}
use Rattle.law.specs.Environment.{Declared, Environment, decl_names, declare_line, enum_names, extend_types, frame_of, lay_fields, nothing_declared, parameter_types, type_sort_of, want_of, within}
use Rattle.law.specs.Names.{decl_of, entry_of}
use Rattle.law.specs.Code.{BodyCode, Want, no_frame}
use Rattle.code.specs.LayoutSize.{size_bodies, size_decl, size_parameters, size_symbols, size_types, size_wants, symbol_size}
use Rattle.law.specs.Ceilings.{line_bounded}
use Rattle.law.specs.Lines.{Line, lines_of}
use Rattle.law.specs.Rules.{keeps_rules}
use Rattle.law.specs.Trees.{nodes}
use Rattle.law.specs.Verdict.{must, Read, Verdict, accepted, good, has, judge, judge_line, judge_lines, opening, strictly}
use Rattle.law.specs.Whole.{verdict_of}
use Rattle.law_theorems.proofs.Inversion.{some_inj, bind-some, given-some, and-true}
use Rattle.law_theorems.proofs.TextsAgree.{bad-good, accepted-inj, good-inj, musted, onward-is, opening-is, refused-accepted, stage}
use Rattle.law_theorems.proofs.FormsAgree.{line_same}
use Rattle.law_theorems.proofs.Weights.{line-weighs, weight_d, weight_l, weight_p, worded-nodes}
use Rattle.law_theorems.proofs.LinesKeep.{within-parameters}
use Rattle.code.proofs.Measure.{Measure, total}
use Rattle.code.proofs.CodeRoom.{body-room, body-takes}
use Rattle.code.specs.TextRoom.{Room, spare}

-- ---- rows 7 and 8: what a line takes

each-length : {A B : Type 0} (f : A → Option B) (xs : List A) {ys : List B} → each f xs ≡ some ys → length ys ≡ length xs
unfolding each
each-length f [] h = rw (← some_inj h) refl
each-length f (x ∷ xs) h = bind-some h λ y _ h. bind-some h λ ys hys h. rw (← some_inj h) (ap suc (each-length f xs hys))

decl-room : (σ : Environment) (w : Name) (t : Syntax.TypeForm) (d : Decl) → decl_of σ w t ≡ some d → size_decl d ≤ 4 * (1 + weight_d t)
unfolding decl_of size_decl weight_d
decl-room σ w (Syntax.alias t) d h = bind-some h λ n _ h. given-some h λ _ e. rw (← e) (omega arith)
decl-room σ w (Syntax.enum v vs) d h = given-some h λ _ e. rw (← e) (omega arith)
decl-room σ w (Syntax.range a b) d h = bind-some h λ x _ h. bind-some h λ y _ h. given-some h λ _ e. rw (← e) (omega arith)
decl-room σ w (Syntax.array_of i e) d h = bind-some h λ x _ h. bind-some h λ y _ h. given-some h λ _ e. rw (← e) (omega arith)
decl-room σ w (Syntax.record_of fs) d h = bind-some h λ gs hgs h. given-some h λ _ e. rw (← e) (let l = each-length _ fs hgs in omega arith)
decl-room σ w (Syntax.set_of b) d h = bind-some h λ x _ h. given-some h λ _ e. rw (← e) (omega arith)

-- parameters, with their types
wants-size : (ws : List Want) → size_wants ws ≡ 2 * length ws
unfolding size_wants
wants-size [] = refl
wants-size (w ∷ ws) = rw (wants-size ws) (omega arith)

frame-room : (σ : Environment) (qs : List (Name × ℕ)) (ps : List (Name × Syntax.TypeName)) → length qs ≡ length ps → length qs + size_parameters (frame_of σ qs).wants ≤ 4 * weight_p ps
unfolding frame_of size_parameters weight_p
frame-room σ [] ps h = omega arith
frame-room σ (q ∷ qs) [] h = absurd (omega arith)
frame-room σ (q ∷ qs) (p ∷ ps) h =
    let e = wants-size (map (want_of σ.types) (parameter_types (q ∷ qs))) in
    let l : length (map (want_of σ.types) (parameter_types (q ∷ qs))) ≡ length (q ∷ qs) = length-map (parameter_types (q ∷ qs)) (want_of σ.types) ∙ length-map (q ∷ qs) (λ (p : Name × ℕ). p.1) in
    omega arith

-- a line's symbol entries and its body's code; one number is left over
pub entry-room : (σ : Environment) (f : Syntax.LineForm) (e : Entry) (cs : List BodyCode) → entry_of σ f ≡ some e → strictly σ e ≡ some cs
    → symbol_size e + size_bodies cs + 1 ≤ 4 * weight_l f
unfolding entry_of strictly symbol_size size_bodies size_parameters weight_l
entry-room σ (Syntax.type_line w t) e cs h k = bind-some h λ d hd h.
    rw (← some_inj h, ← some_inj (rw (← some_inj h) at k)) (let l = decl-room σ w t d hd in omega arith)
entry-room σ (Syntax.var_line w t) e cs h k = bind-some h λ n _ h. given-some h λ _ h. rw (← h, ← some_inj (rw (← h) at k)) (omega arith)
entry-room σ (Syntax.proc_line w ps b) e cs h k = bind-some h λ qs hqs h. bind-some h λ x hx h. given-some h λ _ h. bind-some (rw (← h) at k) λ c hc k.
    rw (← h, ← some_inj k) (let l = body-room (within σ qs) (within σ qs).types (within σ qs).vars (frame_of σ qs) b x c hx hc in
    let m = each-length _ ps hqs in let n = frame-room σ qs ps m in omega arith)
entry-room σ (Syntax.main_line b) e cs h k = bind-some h λ x hx h. bind-some (rw (← some_inj h) at k) λ c hc k.
    rw (← some_inj h, ← some_inj k) (let l = body-room σ σ.types σ.vars no_frame b x c hx hc in omega arith)

-- ---- what all lines so far take

enum-length : (t n : ℕ) (vs : List Name) → length (enum_names t n vs) ≡ length vs
unfolding enum_names
enum-length t n [] = refl
enum-length t n (v ∷ vs) = ap suc (enum-length t (suc n) vs)

lay-length : (Γ : Types) (a : ℕ) (fs : List (Name × ℕ)) → length (lay_fields Γ a fs) ≡ length fs
unfolding lay_fields
lay-length Γ a [] = refl
lay-length Γ a (f ∷ fs) = ap suc (lay-length Γ (a + size_of Γ f.1) fs)

types_more : (Γ : Types) (i : TypeSort) → size_types (Γ ++ (i ∷ [])) ≡ size_types Γ + (8 + 4 * length (facts i).fields)
unfolding size_types
types_more [] i = omega arith
types_more (j ∷ Γ) i = rw (types_more Γ i) (omega arith)

-- past the built-in types
declared-more : (Γ : Types) (i : TypeSort) → 2 ≤ length Γ → size_types (drop 2 (Γ ++ (i ∷ []))) ≡ size_types (drop 2 Γ) + (8 + 4 * length (facts i).fields)
declared-more [] i h = absurd (omega arith)
declared-more (a ∷ []) i h = absurd (omega arith)
declared-more (a ∷ (b ∷ Γ)) i h = types_more Γ i

-- the entries of a `type` line
decl-symbols : (Γ : Types) (w : Name) (d : Decl) → 2 ≤ length Γ
    → 4 * length (decl_names Γ w d) + size_types (drop 2 (extend_types Γ d)) ≡ size_types (drop 2 Γ) + size_decl d
unfolding decl_names extend_types size_decl type_sort_of
decl-symbols Γ w (alias t) h = omega arith
decl-symbols Γ w (enum v vs) h = rw (declared-more Γ _ h, enum-length (length Γ) 0 (v ∷ vs)) (omega arith)
decl-symbols Γ w (range a b) h = rw (declared-more Γ _ h) (omega arith)
decl-symbols Γ w (array_of i e) h = rw (declared-more Γ _ h) (omega arith)
decl-symbols Γ w (record_of fs) h = rw (declared-more Γ _ h, lay-length Γ 0 fs) (omega arith)
decl-symbols Γ w (set_of b) h = rw (declared-more Γ _ h) (omega arith)

-- a line adds the entries of what it declares
pub line-symbols : (k : Declared) (e : Entry) (s n : ℕ) → 2 ≤ length k.env.types → size_symbols (declare_line k e s n).env ≡ size_symbols k.env + symbol_size e
unfolding declare_line size_symbols symbol_size
line-symbols k (new_type w d) s n h = rw length-append (let l = decl-symbols k.env.types w d h in omega arith)
line-symbols k (new_var w t) s n h = omega arith
line-symbols k (new_proc w ps b) s n h = rw (within-parameters k.env ps, length-append, length-map) (omega arith)
line-symbols k (new_main b) s n h = omega arith

-- the built-in types stay
extend-length : (Γ : Types) (d : Decl) → length Γ ≤ length (extend_types Γ d)
unfolding extend_types
extend-length Γ (alias t) = omega arith
extend-length Γ (enum v vs) = rw length-append (omega arith)
extend-length Γ (range a b) = rw length-append (omega arith)
extend-length Γ (array_of i e) = rw length-append (omega arith)
extend-length Γ (record_of fs) = rw length-append (omega arith)
extend-length Γ (set_of b) = rw length-append (omega arith)

pub line-types : (k : Declared) (e : Entry) (s n : ℕ) → length k.env.types ≤ length (declare_line k e s n).env.types
unfolding declare_line
line-types k (new_type w d) s n = extend-length k.env.types d
line-types k (new_var w t) s n = omega arith
line-types k (new_proc w ps b) s n = omega arith
line-types k (new_main b) s n = omega arith

pub declared-nodes : (k : Declared) (e : Entry) (s n : ℕ) → (declare_line k e s n).nodes ≡ n
unfolding declare_line
declared-nodes k (new_type w d) s n = refl
declared-nodes k (new_var w t) s n = refl
declared-nodes k (new_proc w ps b) s n = refl
declared-nodes k (new_main b) s n = refl

pub bodies-append : (bs cs : List BodyCode) → size_bodies (bs ++ cs) ≡ size_bodies bs + size_bodies cs
unfolding size_bodies
bodies-append [] cs = omega arith
bodies-append (b ∷ bs) cs = rw (bodies-append bs cs) (omega arith)

-- ---- a line judged good: what it declares, what it takes, and the ceiling of row 9

line-weight : {P : Type 0} (k : Declared) (l : Line) (p : Declared × List BodyCode) → judge_line strictly k l ≡ good p
    → ((f : Syntax.LineForm) (e : Entry) (s n : ℕ) → entry_of k.env f ≡ some e → strictly k.env e ≡ some p.1 → declare_line k e s (k.nodes + n) ≡ p.0 → weight_l f ≤ n → k.nodes + n ≤ 4096 → P) → P
unfolding judge_line
line-weight k l p h c =
    stage 4 h λ t h₄ h. stage 5 h λ v h₅ h. musted 6 (not k.ended) h λ _ _ h. stage 6 h λ f h₆ h. stage 7 h λ e h₇ h.
    musted 8 (keeps_rules k.env.types e) h λ _ _ h. stage 8 h λ cs h₈ h. musted 9 _ h λ h₉ _ h.
    c f.0 e f.1 (nodes t) h₇ (h₈ ∙ ap (λ (q : Declared × List BodyCode). some q.1) (good-inj h)) (ap (λ (q : Declared × List BodyCode). q.0) (good-inj h))
    (let a = worded-nodes t v h₅ in let b = line-weighs k.stmts v f (sym (line_same l t v h₄ h₅ k.stmts) ∙ h₆) in omega arith)
    (leb-true _ _ (and-true (line_bounded k e) (leb (k.nodes + nodes t) 4096) h₉).1)

pub line-room : {P : Type 0} (k : Declared) (l : Line) (p : Declared × List BodyCode) → judge_line strictly k l ≡ good p
    → ((e : Entry) (s n : ℕ) → declare_line k e s (k.nodes + n) ≡ p.0 → symbol_size e + size_bodies p.1 + 1 ≤ 4 * n → k.nodes + n ≤ 4096 → P) → P
line-room k l p h c = line-weight k l p h λ f e s n h₇ h₈ hp w hn. c e s n hp (let d = entry-room k.env f e p.1 h₇ h₈ in omega arith) hn

-- ---- lines and texts

spare-few : (b : Bool) → spare b ≤ 1
spare-few true = omega arith
spare-few false = omega arith

pub room-line : {k : Declared} {cs : List BodyCode} → Room k cs → (l : Line) (p : Declared × List BodyCode) → judge_line strictly k l ≡ good p → Room p.0 (cs ++ p.1)
room-line {k} {cs} R l p h = line-room k l p h λ e s n hp hr hn. rw (← hp) record {
  two = let a = line-types k e s (k.nodes + n) in omega (arith, R.two);
  within = rw (line-symbols k e s (k.nodes + n) R.two, bodies-append, declared-nodes) (omega (arith, R.within, spare-few (declare_line k e s (k.nodes + n)).ended));
  bounded = rw declared-nodes hn;
}

pub room-lines : (n : ℕ) (ls : List Line) {k : Declared} {cs : List BodyCode} (r : Read) → Room k cs → judge_lines strictly n ls (has k cs) ≡ accepted r → Room r.known r.codes
unfolding judge_lines
room-lines n [] r R h = onward-is n h λ _ _ e. rw (← accepted-inj e) R
room-lines n (l ∷ ls) {k} {cs} r R h = onward-is n h λ p hp h. room-lines (suc n) ls r (room-line R l p hp) h

pub room-start : Room nothing_declared []
unfolding size_symbols size_types size_bodies
room-start = record { two = omega arith; within = omega arith; bounded = omega arith }

pub room-text : (text : List ℕ) (work : ℕ) (r : Read) → verdict_of text work ≡ accepted r → Room r.known r.codes
unfolding verdict_of judge
room-text text work r h = opening-is _ _ _ _ _ h λ h _. room-lines 1 (lines_of text) r room-start h

-- an accepted text has its `main`
pub main-came : (n : ℕ) (ls : List Line) (q r : Read) → judge_lines strictly n ls q ≡ accepted r → r.known.ended ≡ true
unfolding judge_lines must
main-came n [] q r h = onward-is n h λ _ hm e. rw (← accepted-inj e) (ended_is q.known.ended hm)
  where
    ended_is : (b : Bool) {u : Unit {0}} → must 6 b ≡ good u → b ≡ true
    ended_is true e = refl
    ended_is false e = bad-good e
main-came n (l ∷ ls) q r h = onward-is n h λ p hp h. main-came (suc n) ls _ r h

-- 4 numbers for each bracket and word are enough, place 0 left free
pub text-within : (text : List ℕ) (work : ℕ) (r : Read) → verdict_of text work ≡ accepted r → 1 + size_symbols r.known.env + size_bodies r.codes ≤ 4 * r.known.nodes
unfolding verdict_of judge
text-within text work r h =
    let m : r.known.ended ≡ true = opening-is _ _ _ _ _ h λ h _. main-came 1 (lines_of text) _ r h in
    let w : size_symbols r.known.env + size_bodies r.codes + 1 ≤ 4 * r.known.nodes = rw m at (room-text text work r h).within in
    omega arith

-- so 16,384 are
pub text-room : (text : List ℕ) (work : ℕ) (r : Read) → verdict_of text work ≡ accepted r → 1 + size_symbols r.known.env + size_bodies r.codes ≤ 16384
text-room text work r h = omega (arith, text-within text work r h, (room-text text work r h).bounded)

-- and the working list of an accepted text has as many
long-enough : {A : Type 0} (b c : Bool) (o : Option ℕ) (f : List Line → Verdict A) (ls : List Line) {a : A} → opening b c o f ls ≡ accepted a → b ≡ true
unfolding opening
long-enough true c o f ls h = refl
long-enough false c o f ls h = refused-accepted h

pub text-fits : (text : List ℕ) (work : ℕ) (r : Read) → verdict_of text work ≡ accepted r → 1 + size_symbols r.known.env + size_bodies r.codes ≤ work
unfolding verdict_of judge
text-fits text work r h = let l = leb-true 16384 work (long-enough _ _ _ _ _ h) in let m = text-room text work r h in omega arith

-- ---- any measure of the code

module _ (M : Measure) where
  total-append : (bs cs : List BodyCode) → total M (bs ++ cs) ≡ total M bs + total M cs
  unfolding total
  total-append [] cs = omega arith
  total-append (b ∷ bs) cs = rw (total-append bs cs) (omega arith)

  -- a line's body
  entry-total : (σ : Environment) (f : Syntax.LineForm) (e : Entry) (cs : List BodyCode) → entry_of σ f ≡ some e → strictly σ e ≡ some cs → total M cs ≤ 4 * weight_l f
  unfolding entry_of strictly total weight_l
  entry-total σ (Syntax.type_line w t) e cs h k = bind-some h λ d hd h. rw (← some_inj (rw (← some_inj h) at k)) (omega arith)
  entry-total σ (Syntax.var_line w t) e cs h k = bind-some h λ n _ h. given-some h λ _ h. rw (← some_inj (rw (← h) at k)) (omega arith)
  entry-total σ (Syntax.proc_line w ps b) e cs h k = bind-some h λ qs _ h. bind-some h λ x hx h. given-some h λ _ h. bind-some (rw (← h) at k) λ c hc k.
      rw (← some_inj k) (let l = body-takes M (within σ qs) (within σ qs).types (within σ qs).vars (frame_of σ qs) b x c hx hc in omega arith)
  entry-total σ (Syntax.main_line b) e cs h k = bind-some h λ x hx h. bind-some (rw (← some_inj h) at k) λ c hc k.
      rw (← some_inj k) (let l = body-takes M σ σ.types σ.vars no_frame b x c hx hc in omega arith)

  line-total : (k : Declared) (cs : List BodyCode) (l : Line) (p : Declared × List BodyCode) → judge_line strictly k l ≡ good p → total M cs ≤ 4 * k.nodes → total M (cs ++ p.1) ≤ 4 * p.0.nodes
  line-total k cs l p h t = line-weight k l p h λ f e s n h₇ h₈ hp w hn.
      rw (← hp, total-append cs p.1, declared-nodes) (let d = entry-total k.env f e p.1 h₇ h₈ in omega arith)

  lines-total : (n : ℕ) (ls : List Line) (k : Declared) (cs : List BodyCode) (r : Read) → judge_lines strictly n ls (has k cs) ≡ accepted r → total M cs ≤ 4 * k.nodes → total M r.codes ≤ 4 * r.known.nodes
  unfolding judge_lines
  lines-total n [] k cs r h t = onward-is n h λ _ _ e. rw (← accepted-inj e) t
  lines-total n (l ∷ ls) k cs r h t = onward-is n h λ p hp h. lines-total (suc n) ls p.0 (cs ++ p.1) r h (line-total k cs l p hp t)

  -- 4 numbers for each bracket and word are enough, with 8 beside the statements of each body
  pub total-within : (text : List ℕ) (work : ℕ) (r : Read) → verdict_of text work ≡ accepted r → total M r.codes ≤ 4 * r.known.nodes
  unfolding verdict_of judge total
  total-within text work r h = opening-is _ _ _ _ _ h λ h _. lines-total 1 (lines_of text) nothing_declared [] r h (omega arith)

  pub total-room : (text : List ℕ) (work : ℕ) (r : Read) → verdict_of text work ≡ accepted r → total M r.codes ≤ 16384
  total-room text work r h = omega (arith, total-within text work r h, (room-text text work r h).bounded)
