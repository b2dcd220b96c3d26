-- A `proc` line whose list of parameters is right: what the answer for its parts tells.
use mathlib.Core.Path.{◌≡◌, refl, sym, ap, ◌∙◌, subst}
use mathlib.Core.Bool.{Bool, true, false, cond}
use mathlib.Core.List.{List, [], ◌∷◌, ◌++◌, map}
use mathlib.Core.Option.{Option, some}
use Prim.Native.Nat.{ℕ, ◌+◌, ◌*◌, ◌%◌, ◌<◌, ◌≤◌}
use native.Mathlib.Nat.{mod-eq_of_lt}
use native.Mathlib.Omega.{arith}
use lib.ListN.{length}
use Rattle.leaf_bytes.specs.Bytes.{small}
use Rattle.law.specs.Base.{Name, ◌>>=◌, each}
use Rattle.law.specs.Ceilings.{line_bounded}
use Rattle.law.specs.Environment.{Declared, declare_line, frame_of, parameter_types, within}
use Rattle.law.specs.Names.{body_of, new_names, pair_of}
use Rattle.law.specs.Rules.{kept_parameters}
use Rattle.law.specs.Script.{Body, Entry, new_proc}
use Rattle.law.specs.Syntax as Syntax
use Rattle.law.specs.Trees.{nodes_in, first, word_at}
use Rattle.law_theorems.specs.Readings.{stack_at}
use Rattle.code.specs.Layout.{Out, out, lay, lay_frame}
use Rattle.code.specs.LayoutRegions.{Same}
use Rattle.code.proofs.LayoutRegions.{lay-l}
use Rattle.law_theorems.proofs.LinesKeep.{within-types}
use Rattle.law_theorems.specs.LinesKeep.{Keeps}
use Rattle.table_names.specs.Keys.{keyed}
use Rattle.table_scope.specs.Scene.{Scene, meaning_here}
use Rattle.table_scope.proofs.Telling.{meant}
use Rattle.text_heads.specs.Parts.{body_in}
use Rattle.rule_faults.specs.declared.Fault.{Fault}
use Rattle.rule_faults.specs.declared.Fault.TheVariants.{Clear, Name as Unnamed}
use Rattle.rule_faults.specs.Got.{lowest, fault_of}
use Rattle.rule_stages.specs.Stages.{unnamed, fits}
use Rattle.rule_statements.specs.Walks.{bare}
use Rattle.rule_declarations.specs.Lines.{entry_staged}
use Rattle.rule_declarations.specs.Names.{new_fault}
use Rattle.rule_declarations.proofs.Growing.{laid_same}
use Rattle.rule_parameters.specs.Framing.{Above, lay_types, parameters_fit}
use Rattle.rule_parameters.specs.Listing.{list_new, list_staged, kind_fault}
use Rattle.rule_parameters.specs.declared.framing.Opened.{Opened}
use Rattle.rule_known.specs.declared.Known.{Known}
use Rattle.rule_known.specs.declared.Entered.{Entered}
use Rattle.rule_judge.specs.Answers.{proc_numbers}
use Rattle.rule_judge.specs.Entering.{last_of}
use Rattle.rule_judge.proofs.Bodies.{proc_of}
use Rattle.rule_judge.proofs.BodyStands.{proc-holds}
use Rattle.rule_judge.proofs.ProcEnters.{new-name, bounded-is, row-nine, fits-parameters, last-proc}
use Rattle.rule_body_notes.specs.Noting.{noted}
use Rattle.rule_judge_loose.specs.declared.easing.Eased.{Eased}
use Rattle.rule_judge_loose.specs.Standing.{LooseStanding}
use Rattle.rule_judge_loose.specs.Easing.{BodyEased, GivesEased, with_fault}
use Rattle.rule_judge_loose.specs.Entering.{loose_node, loose_size, ProcDeclared, LooseStands, LooseTold}
use Rattle.rule_judge_loose.proofs.Keeping.{scene-tells, node-on, all-proc}
use Rattle.rule_judge_loose.proofs.Nodes.{node-there}
use Rattle.rule_judge_loose.proofs.Staging.{ProcRead, proc-old, old-fits, proc-new, proc-fits}
use Rattle.rule_judge_loose.proofs.BodyLines.{procs-here, procs-few, body-calls, next-kept, before-kept}

module _ {s l ts tb : List ℕ} {kn : Known} {k : Declared} (S : LooseStanding s l ts tb kn k) (going : k.ended ≡ false) (p : ℕ) (inside : p < length s) (ps : List (Name × Syntax.TypeName)) (qs : List (Name × ℕ))
    (typed : each (pair_of k.env) ps ≡ some qs) (new : list_new k.env (map small (word_at s p)) qs ≡ true) (o : Opened) (within_text : o.scope.pairs ≤ length s) (l₁ : List ℕ) (A : Above kn.state.top l o.top l₁)
    (few : k.stmts + nodes_in (first (stack_at s o.at)) ≤ 65535) (b : Eased) (l₂ : List ℕ) (B : GivesEased s l₁ ts kn o b l₂) (N : Scene s l₁ ts o.scope o.top (within k.env qs) S.places)
    (lf : Fault) (hl : lf ≡ kind_fault (kept_parameters k.env.types qs)) (n : ℕ) (count-few : length qs ≤ 1000 → n ≡ length qs) (count-full : 1000 < length qs → n ≡ 1000)
    (F : lf ≡ Clear → parameters_fit kn.state n ≡ true → out o.frame o.top l₁ ≡ lay_frame (frame_of k.env qs) (lay_types (parameter_types qs) kn.state.top l).top (lay_types (parameter_types qs) kn.state.top l).list)
    (e : Entered) (l' : List ℕ) (P : ProcDeclared kn n o (with_fault b (lowest (new_fault Clear (meaning_here s l kn.state.scope p)) lf)) (keyed s p) l₂ e l') where
  abbrev w : Name
  w = map small (word_at s p)

  abbrev read : Option (Syntax.Body × ℕ)
  read = body_in k.stmts (first (stack_at s o.at))

  abbrev f : Fault
  f = lowest (lowest (new_fault Clear (meaning_here s l kn.state.scope p)) lf) b.fault

  told : BodyEased (within k.env qs) (body_in k.stmts (first (stack_at s o.at))) b
  told = subst (λ (m : ℕ). BodyEased (within k.env qs) (body_in m (first (stack_at s o.at))) b) S.stmts-are (B.says (within k.env qs) S.places N (omega (arith, few, S.stmts-are)))

  fault-here : f ≡ fault_of (entry_staged k (bare (read >>= λ d. some (proc_of w ps d))))
  fault-here =
      ap (λ (h : Fault). lowest (lowest h lf) b.fault) (new-name k.env S.places _ w (meant S.holds.scene w))
      ∙ ap (λ (h : Fault). lowest (lowest (cond (new_names k.env (w ∷ [])) Clear Unnamed) h) b.fault) hl
      ∙ ap (lowest (lowest (cond (new_names k.env (w ∷ [])) Clear Unnamed) (kind_fault (kept_parameters k.env.types qs)))) told.fault-is
      ∙ sym (proc-new k w ps qs typed new read)

  -- the numbers of its name's entry; the list after its node, and after its entry
  abbrev numbers : List ℕ
  numbers = keyed s p ∷ (2 + 4 * length S.places) ∷ o.top ∷ kn.state.scope.newest ∷ []

  abbrev noded : Out
  noded = lay (loose_node kn o) o.top l₂

  abbrev named : Out
  named = lay numbers noded.top noded.list

  numbers-are : proc_numbers kn.state (keyed s p) o.top ≡ numbers
  unfolding proc_numbers
  numbers-are =
      let c : kn.state.procs % 16384 ≡ length S.places = mod-eq_of_lt (omega (arith, procs-here S going, procs-few S going)) ∙ S.holds.procs-are ∙ sym S.holds.bodies-are in
      rw c refl

  proc-here : (d : Syntax.Body × ℕ) (y : Body) → lf ≡ Clear → read ≡ some d → body_of (within k.env qs) d.0 ≡ some y → line_bounded k (new_proc w qs y) ≡ true → kn.state.top + loose_size (new_proc w qs y) ≤ 16384
      → d.1 ≤ 65535 → (nn : ℕ) → Keeps (declare_line k (new_proc w qs y) d.1 nn) → LooseStands s l' ts (noted s kn o tb) kn.state.top e k (new_proc w qs y) d.1 nn
  unfolding loose_size declare_line
  proc-here d y zl hd hy hb h hn nn K =
      let q = row-nine k w qs y hb in
      let m : n ≡ length qs = count-few (omega (arith, q.0)) in
      let i = F zl (fits-parameters kn.state n (bounded-is S.holds w qs y n count-few count-full ∙ hb)) in
      let D = node-there k.env kn.state.procs kn.state.top o.frame o.top l l₁ l₂ S.holds.start S.holds.long-list B.keeps B.long qs i (omega (arith, h)) in
      let G = laid_same (loose_node kn o) o.top l₂ noded.list refl in
      let E : Same 0 kn.state.top noded.list l =
      record { at = λ j x z. G.at j x (omega (arith, z, A.up)) ∙ B.keeps.at j x (omega (arith, z, A.up)) ∙ A.keeps.at j x z } in
      let H = proc-holds S.holds (omega (arith, procs-here S going, procs-few S going)) qs y d.1 nn E D.long noded.top (omega (arith, D.entry-is, A.up))
      (omega (arith, D.entry-is, D.room, h)) o.top p (omega (arith, inside, S.holds.short-text)) (D.tells q.0) (omega (arith, q.1)) K in
      let v = (lay-l numbers noded.top noded.list).top-is (omega (arith, D.entry-is, D.room, h)) in
      let J = laid_same numbers noded.top noded.list named.list refl in
      let T = scene-tells H.scene in
      let E₁ : Same 0 o.top named.list l₁ = record { at = λ j x z. J.at j x (omega (arith, z, D.entry-is)) ∙ G.at j x z ∙ B.keeps.at j x z } in
      let E₂ : Same 0 kn.state.top named.list l = record { at = λ j x z. J.at j x (omega (arith, z, D.entry-is, A.up)) ∙ E.at j x z } in
      let C = body-calls k S.holds.keeps qs in
      let X = next-kept S going o within_text (within k.env qs) (within-types k.env qs) l₁ named.list N E₁ named.top (omega (arith, v, D.entry-is)) T d y hd hy hn (frame_of k.env qs) o.top C in
      let Y = before-kept S going o within_text (within k.env qs) (within-types k.env qs) l₁ named.list N E₁ named.top (omega (arith, v, D.entry-is)) T d y hd hy hn (frame_of k.env qs) o.top C E₂ (omega (arith, v, D.entry-is, A.up)) in
      let Z = node-on {top = named.top} J (omega (arith, v)) D.kept in
      rw (P.given, P.laid.free, P.laid.left, P.node.free, P.node.left, numbers-are, m) (record {
        places = S.places ++ o.top ∷ [];
        holds = H;
        room = omega (arith, v, D.entry-is, D.room);
        stmts-are = told.number d hd;
        ended_is = refl;
        bodies = all-proc o.top Y X S.holds.bodies-are kn.state.procs (procs-here S going) Z;
      })

  clear-list : (c : Bool) → c ≡ true → kind_fault c ≡ Clear
  unfolding kind_fault
  clear-list c h = rw h refl

  proc-stands : (a : Entry) → ProcRead k w qs read a → line_bounded k a ≡ true → kn.state.top + loose_size a ≤ 16384 → last_of (read >>= λ d. some (proc_of w ps d)) ≤ 65535 → (nn : ℕ)
      → Keeps (declare_line k a (last_of (read >>= λ d. some (proc_of w ps d))) nn) → LooseStands s l' ts (noted s kn o tb) kn.state.top e k a (last_of (read >>= λ d. some (proc_of w ps d))) nn
  proc-stands a Y hb h hn nn K =
      let i = last-proc w ps read Y.read Y.read_is in
      let b' : line_bounded k (new_proc w qs Y.body) ≡ true = rw (← Y.entry-is) hb in
      let h' : kn.state.top + loose_size (new_proc w qs Y.body) ≤ 16384 = rw (← Y.entry-is) h in
      let n' : Y.read.1 ≤ 65535 = rw (← i) hn in
      let K' : Keeps (declare_line k (new_proc w qs Y.body) Y.read.1 nn) = rw (← Y.entry-is, ← i) K in
      let E = proc-here Y.read Y.body (hl ∙ clear-list (kept_parameters k.env.types qs) Y.kept-so) Y.read_is Y.body_is b' h' n' nn K' in
      rw (Y.entry-is, i) E

  pub listed-told : LooseTold s l' ts (noted s kn o tb) kn.state.top k (read >>= λ d. some (proc_of w ps d)) e
  listed-told = record {
    fault-is = ap (λ (x : Entered). x.fault) P.given ∙ fault-here;
    within-is = λ a h. let Y = proc-fits k w ps qs typed new read a h in ap (λ (x : Entered). x.within) P.given ∙ bounded-is S.holds w qs Y.body n count-few count-full ∙ ap (line_bounded k) (sym Y.entry-is);
    stands = λ a h c r hn nn K. proc-stands a (proc-fits k w ps qs typed new read a h) c r hn nn K;
  }

-- ---- a line whose list has a fault of row 7: its body is read in the line's plain scope

module _ {s l ts tb : List ℕ} {kn : Known} {k : Declared} (S : LooseStanding s l ts tb kn k) (p : ℕ) (ps : List (Name × Syntax.TypeName)) (old : list_staged k.env (map small (word_at s p)) ps ≡ unnamed) (o : Opened) (l₁ : List ℕ)
    (few : k.stmts + nodes_in (first (stack_at s o.at)) ≤ 65535) (b : Eased) (l₂ : List ℕ) (B : GivesEased s l₁ ts kn o b l₂) (N : Scene s l₁ ts o.scope o.top k.env S.places) (lf : Fault) (hl : lf ≡ Unnamed) (n : ℕ)
    (e : Entered) (l' tb' : List ℕ) (P : ProcDeclared kn n o (with_fault b (lowest (new_fault Clear (meaning_here s l kn.state.scope p)) lf)) (keyed s p) l₂ e l') where
  abbrev line-old : Option (Syntax.LineForm × ℕ)
  line-old = body_in k.stmts (first (stack_at s o.at)) >>= λ d. some (proc_of (map small (word_at s p)) ps d)

  told-old : BodyEased k.env (body_in k.stmts (first (stack_at s o.at))) b
  told-old = subst (λ (m : ℕ). BodyEased k.env (body_in m (first (stack_at s o.at))) b) S.stmts-are (B.says k.env S.places N (omega (arith, few, S.stmts-are)))

  fault-old : e.fault ≡ fault_of (entry_staged k (bare line-old))
  fault-old =
      ap (λ (x : Entered). x.fault) P.given
      ∙ ap (λ (h : Fault). lowest (lowest h lf) b.fault) (new-name k.env S.places _ (map small (word_at s p)) (meant S.holds.scene (map small (word_at s p))))
      ∙ ap (λ (h : Fault). lowest (lowest (cond (new_names k.env (map small (word_at s p) ∷ [])) Clear Unnamed) h) b.fault) hl
      ∙ ap (lowest (lowest (cond (new_names k.env (map small (word_at s p) ∷ [])) Clear Unnamed) Unnamed)) told-old.fault-is
      ∙ sym (proc-old k (map small (word_at s p)) ps old k.env (body_in k.stmts (first (stack_at s o.at))))

  no-fit : (a : Entry) → entry_staged k (bare line-old) ≡ fits a → ⊥
  no-fit a h = old-fits k (map small (word_at s p)) ps old (body_in k.stmts (first (stack_at s o.at))) a h

  pub old-told : LooseTold s l' ts tb' kn.state.top k line-old e
  old-told = record { fault-is = fault-old; within-is = λ a h. absurd (no-fit a h); stands = λ a h. absurd (no-fit a h) }
