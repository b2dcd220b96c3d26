-- `var` and `type` lines: what the answer for their parts tells.
use mathlib.Core.Path.{◌≡◌, refl, sym, ap, ◌∙◌}
use mathlib.Core.Bool.{false}
use mathlib.Core.List.{List}
use mathlib.Core.Option.{Option, none, some}
use Prim.Native.Nat.{ℕ}
use native.Mathlib.Omega.{arith}
use Rattle.law.specs.Base.{◌>>=◌}
use Rattle.law.specs.Environment.{Declared, declare_line}
use Rattle.code.specs.LayoutSize.{symbol_size}
use Rattle.law.specs.Forms as Forms
use Rattle.law.specs.Names.{entry_of}
use Rattle.law.specs.Script.{Entry}
use Rattle.rule_stages.specs.Stages.{fits, staged}
use Rattle.law.specs.Syntax.{LineForm}
use Rattle.law.specs.Trees.{first}
use Rattle.law_theorems.specs.Readings.{stack_at}
use Rattle.law_theorems.proofs.Inversion.{bind-some, given-some, some_inj}
use Rattle.law_theorems.proofs.LinesKeep.{declared-more}
use Rattle.law_theorems.specs.LinesKeep.{Extends}
use Rattle.rule_statements.specs.Walks.{bare}
use Rattle.rule_declarations.specs.declared.Lined.{Lined}
use Rattle.rule_declarations.specs.Lines.{line_of, entry_staged, GivesLine}
use Rattle.rule_expressions.proofs.Joining.{wrong-fits}
use Rattle.text_heads.specs.declared.LineHead.{LineHead}
use Rattle.text_heads.specs.Heads.{line_head_meant}
use Rattle.rule_known.specs.declared.Known.{Known}
use Rattle.rule_known.specs.declared.Entered.{Entered}
use Rattle.rule_known.specs.Answers.{declared_entry}
use Rattle.rule_judge.specs.Entering.{last_of}
use Rattle.rule_judge.specs.Whole.{head_in}
use Rattle.rule_judge.proofs.Declaring.{Plain, a-type, a-var, Fixed, some_first, not_last, entry-there, head_first, head-last, head_plain}
use Rattle.rule_judge_loose.specs.Standing.{LooseStanding}
use Rattle.rule_judge_loose.specs.Entering.{loose_size, LooseTold, LooseEnters}
use Rattle.rule_body_notes.proofs.Notes.{same_line}
use Rattle.rule_judge_loose.proofs.Keeping.{extends-self, scene-tells, kept-going, all-on}

-- ---- such a line has no body

record NoBody (k : Declared) (e : Entry) : Type 0 where
  same : (n nn : ℕ) → (declare_line k e n nn).bodies ≡ k.bodies
  more : (n nn : ℕ) → Extends k.env.types (declare_line k e n nn).env.types
  size : loose_size e ≡ symbol_size e

no_body : (k : Declared) (f : LineForm) → Plain f → (e : Entry) → entry_of k.env f ≡ some e → NoBody k e
unfolding entry_of declare_line loose_size symbol_size
no_body k f (a-type {w} {t}) e h = bind-some h λ d hd i. rw (← some_inj i) (record { same = λ n nn. refl; more = λ n nn. declared-more k.env.types d; size = refl })
no_body k f (a-var {w} {t}) e h = bind-some h λ m hm i. given-some i λ _ j. rw (← j) (record { same = λ n nn. refl; more = λ n nn. extends-self k.env.types; size = refl })

last-of : (k : Declared) (o : Option (LineForm × ℕ)) (n : ℕ) → ((p : LineForm × ℕ) → o ≡ some p → p.1 ≡ n) → (e : Entry) → entry_staged k (bare o) ≡ fits e → n ≡ last_of o
unfolding entry_staged staged ◌>>=◌
last-of k none n h e i = absurd (wrong-fits i)
last-of k (some p) n h e i = sym (h p refl)

-- o₀ is what the line says, whatever statements came before
module _ {s l ts tb : List ℕ} {kn : Known} {k : Declared} (S : LooseStanding s l ts tb kn k) (going : k.ended ≡ false) (o : Option (LineForm × ℕ)) (o₀ : Option LineForm) (same : bare o ≡ o₀) (last : (p : LineForm × ℕ) → o ≡ some p → p.1 ≡ k.stmts)
    (plain : (f : LineForm) → o₀ ≡ some f → Plain f) (x : Lined) (l' ts' : List ℕ) (G : GivesLine s l ts kn.state o₀ x l' ts') where
  declared-told : LooseTold s l' ts' tb kn.state.top k o (declared_entry kn x)
  declared-told =
      let T = G.told k S.places S.holds in
      record {
        fault-is = rw same T.fault-is;
        within-is = λ e q. T.within-is e (sym (ap (entry_staged k) same) ∙ q);
        stands = λ e q b c _ nn _.
            let y : entry_staged k o₀ ≡ fits e = sym (ap (entry_staged k) same) ∙ q in
            let F = entry-there k o₀ e y in
            let P = plain F.0 F.1 in
            let N = no_body k F.0 P e F.2 in
            let z = N.size in
            let H = T.holds e y b (omega (arith, c, z)) (last_of o) nn in
            let last-not = not_last k.env k F.0 P e F.2 (last_of o) nn in
            let A = all-on G.below (omega (arith, H.1)) (N.more (last_of o) nn) (scene-tells H.0.scene) (kept-going S going) (λ q h. same_line tb q) in
            record {
              places = S.places;
              holds = H.0;
              room = omega (arith, H.1, z);
              stmts-are = S.stmts-are ∙ last-of k o k.stmts last e q;
              ended_is = sym last-not;
              bodies = rw (last-not, N.same (last_of o) nn) A;
            };
      }

-- the promise for such a line
pub declared-enters : (s l ts tb : List ℕ) (kn : Known) (j : LineHead) (h : Forms.LineHead) → line_head_meant j ≡ some h → Fixed h → (at : ℕ) (x : Lined) (l' ts' : List ℕ)
    → GivesLine s l ts kn.state (line_of h 0 (first (stack_at s at))) x l' ts' → (g : Entered) → g ≡ declared_entry kn x → LooseEnters s l ts tb kn j at g l' ts' tb
declared-enters s l ts tb kn j h m F at x l' ts' G g e = rw e (record {
  long = refl;
  says = λ k S i n.
      rw (m, some_first h (λ i. head_in i k.stmts (first (stack_at s at)))) (declared-told S i (head_in h k.stmts (first (stack_at s at))) (line_of h 0 (first (stack_at s at)))
      (head_first h F k.stmts (first (stack_at s at))) (head-last h F k.stmts (first (stack_at s at))) (head_plain h F (first (stack_at s at))) x l' ts' G);
})
