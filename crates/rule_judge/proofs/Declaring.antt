-- Lines that declare variables and types: what stands after them.
use mathlib.Core.Path.{◌≡◌, refl, sym, ap, ◌∙◌}
use mathlib.Core.Bool.{Bool, true, false, true≢false}
use mathlib.Core.List.{List, [], ◌++◌, append-nil}
use mathlib.Core.Option.{Option, none, some}
use Prim.Native.Nat.{ℕ, ◌+◌, ◌≤◌}
use native.Mathlib.Omega.{arith}
use Rattle.law.specs.Base.{◌>>=◌}
use Rattle.law.specs.Ceilings.{line_bounded}
use Rattle.law.specs.Code.{BodyCode}
use Rattle.law.specs.Environment.{Declared, Environment, declare_line}
use Rattle.law.specs.Forms.{Item, is_type, is_var, two, free, type_name, type_form}
use Rattle.law_theorems.specs.FormsByDepth.{line_by}
use Rattle.law.specs.Forms as Forms
use Rattle.code.specs.LayoutSize.{symbol_size, size_bodies}
use Rattle.law.specs.Names.{entry_of}
use Rattle.law.specs.Rules.{keeps_rules}
use Rattle.law.specs.Script.{Entry}
use Rattle.rule_stages.specs.Stages.{Staged, wrong, unnamed, unfit, fits, ruled, named, staged, on_fits}
use Rattle.law.specs.Syntax.{LineForm, type_line, var_line}
use Rattle.law.specs.Trees.{Trees, Run, list, first}
use Rattle.law_theorems.specs.Readings.{stack_at}
use Rattle.law.specs.Verdict.{Read, strictly}
use Rattle.law.specs.Words.{worded_all}
use Rattle.law_theorems.proofs.Inversion.{some_inj, bind-some, given-some}
use Rattle.code.specs.LayoutBodies.{Bodies}
use Rattle.code.specs.LinesMeasured.{Measured}
use Rattle.code.specs.LayoutRegions.{Same}
use Rattle.rule_faults.specs.Got.{fault_of}
use Rattle.text_heads.specs.declared.LineHead.{LineHead}
use Rattle.text_heads.specs.Heads.{line_head_meant}
use Rattle.text_heads.proofs.Walks.{bind_assoc, bind-cong}
use Rattle.rule_declarations.specs.declared.Lined.{Lined}
use Rattle.rule_declarations.specs.Lines.{line_of, entry_staged, GivesLine}
use Rattle.rule_expressions.proofs.Targets.{fits-inv}
use Rattle.rule_expressions.proofs.Joining.{wrong-fits, unnamed-fits, unfit-fits, fits-inj}
use Rattle.rule_known.specs.declared.Known.{Known}
use Rattle.rule_known.specs.declared.Entered.{Entered}
use Rattle.rule_known.specs.Answers.{declared_entry}
use Rattle.rule_judge.specs.Entering.{EntryStands, last_of, EntryTold, Enters}
use Rattle.rule_judge.specs.Judging.{Standing}
use Rattle.rule_judge.specs.Whole.{head_in, whole_staged}

-- ---- such a line has no body

pub data Plain : LineForm → Type 0 where
  a-type : {w : _} {t : _} → Plain (type_line w t)
  a-var : {w : _} {t : _} → Plain (var_line w t)

no_body : (σ : Environment) (f : LineForm) → Plain f → (e : Entry) → entry_of σ f ≡ some e → strictly σ e ≡ some []
unfolding entry_of strictly
no_body σ f (a-type {w} {t}) e h = bind-some h λ d hd i. rw (← some_inj i) refl
no_body σ f (a-var {w} {t}) e h = bind-some h λ n hn i. given-some i λ _ j. rw (← j) refl

pub not_last : (σ : Environment) (k : Declared) (f : LineForm) → Plain f → (e : Entry) → entry_of σ f ≡ some e → (n nn : ℕ) → (declare_line k e n nn).ended ≡ false
unfolding entry_of declare_line
not_last σ k f (a-type {w} {t}) e h n nn = bind-some h λ d hd i. rw (← some_inj i) refl
not_last σ k f (a-var {w} {t}) e h n nn = bind-some h λ m hm i. given-some i λ _ j. rw (← j) refl

with_none : (e : Entry) (u : Option (List BodyCode)) → u ≡ some [] → ruled {A = Entry × List BodyCode} true (u >>= λ cs. some (e, cs)) ≡ fits (e, [])
unfolding ruled ◌>>=◌
with_none e u h = rw h refl

-- an entry with no code
abbrev alone : Entry → Staged (Entry × List BodyCode)
alone e = fits (e, [])

-- the stages with no code
plain-staged : (k : Declared) (o : Option LineForm) → ((f : LineForm) → o ≡ some f → Plain f)
    → staged {C = Entry × List BodyCode} o (entry_of k.env) (keeps_rules k.env.types) (λ e. strictly k.env e >>= λ cs. some (e, cs)) ≡ on_fits (entry_staged k o) alone
unfolding entry_staged staged named ruled on_fits
plain-staged k none P = refl
plain-staged k (some f) P = go (entry_of k.env f) refl
  where
    kinds : (e : Entry) (b : Bool) → strictly k.env e ≡ some [] → ruled {A = Entry × List BodyCode} b (strictly k.env e >>= λ cs. some (e, cs)) ≡ on_fits (ruled b (some e)) alone
    kinds e false h = refl
    kinds e true h = with_none e (strictly k.env e) h

    go : (u : Option Entry) → entry_of k.env f ≡ u → named {C = Entry × List BodyCode} u (keeps_rules k.env.types) (λ e. strictly k.env e >>= λ cs. some (e, cs)) ≡ on_fits (named u (keeps_rules k.env.types) some) alone
    go none h = refl
    go (some e) h = kinds e (keeps_rules k.env.types e) (no_body k.env f (P f refl) e h)

-- what fits so, fits so
plain_fits : (S : Staged Entry) (e : Entry) (cs : List BodyCode) → on_fits S alone ≡ fits (e, cs) → (S ≡ fits e) × (cs ≡ [])
unfolding on_fits
plain_fits wrong e cs h = absurd (wrong-fits h)
plain_fits unnamed e cs h = absurd (unnamed-fits h)
plain_fits unfit e cs h = absurd (unfit-fits h)
plain_fits (fits x) e cs h = let y : ◌≡◌ {A = Entry × List BodyCode} (x, []) (e, cs) = fits-inj h in (ap (λ (z : Entry × List BodyCode). fits z.0) y, sym (ap (λ (z : Entry × List BodyCode). z.1) y))

plain-fault : (S : Staged Entry) → fault_of S ≡ fault_of (on_fits S alone)
unfolding on_fits
plain-fault wrong = refl
plain-fault unnamed = refl
plain-fault unfit = refl
plain-fault (fits x) = refl

none-staged : (k : Declared) (o : Option LineForm) → o ≡ none → (e : Entry) → entry_staged k o ≡ fits e → ⊥
unfolding entry_staged staged
none-staged k o h e i = wrong-fits (sym (rw h refl) ∙ i)

none_first : {A B : Type 0} (o : Option A) (f : A → Option B) → o ≡ none → (o >>= f) ≡ none
unfolding ◌>>=◌
none_first o f h = rw h refl

pub entry-there : (k : Declared) (o : Option LineForm) (e : Entry) → entry_staged k o ≡ fits e → (f : LineForm) × (o ≡ some f) × (entry_of k.env f ≡ some e)
unfolding entry_staged
entry-there k o e h = let x = fits-inv (entry_of k.env) (keeps_rules k.env.types) some o e h in (x.0, x.2, rw (some_inj x.4) at x.3)

-- bodies below the free place stay
pub bodies_kept : (other : BodyCode) {t u : ℕ} {l l' places : List ℕ} {cs : List BodyCode} → Bodies other 1 t l places cs → Same 0 t l' l → t ≤ u → Bodies other 1 u l' places cs
bodies_kept other B E h = record { count = B.count; held = λ m F. B.held m (record { at = λ i a b. F.at i a (omega arith) ∙ E.at i (omega arith) b }) }

-- ---- the line's parts

-- o₀ is what the line says, whatever statements came before
module _ (s l ts : List ℕ) (kn : Known) (r : Read) (bs : List ℕ) (S : Standing s l ts kn r bs) (o : Option (LineForm × ℕ)) (o₀ : Option LineForm) (same : (o >>= λ p. some p.0) ≡ o₀) (last : (p : LineForm × ℕ) → o ≡ some p → p.1 ≡ r.known.stmts)
    (plain : (f : LineForm) → o₀ ≡ some f → Plain f) (x : Lined) (l' ts' : List ℕ) (G : GivesLine s l ts kn.state o₀ x l' ts') where
  abbrev k : Declared
  k = r.known

  whole_is : whole_staged r.known o ≡ on_fits (entry_staged r.known o₀) alone
  unfolding whole_staged
  whole_is = rw same (plain-staged r.known o₀ plain)

  declared-stands : (e : Entry) (cs : List BodyCode) → whole_staged r.known o ≡ fits (e, cs) → line_bounded r.known e ≡ true → kn.state.top + symbol_size e + size_bodies cs ≤ 16384
      → (nn : ℕ) → Measured (declare_line r.known e (last_of o) nn) (r.codes ++ cs) → EntryStands s l' ts' kn.state.top (declared_entry kn x) r e cs (last_of o) nn
  unfolding size_bodies
  declared-stands e cs q b c nn _ =
      let y = plain_fits (entry_staged r.known o₀) e cs (sym whole_is ∙ q) in
      let T = G.told r.known bs S.holds in
      let d : kn.state.top + symbol_size e ≤ 16384 = omega arith in
      let w : x.state.top ≡ kn.state.top + symbol_size e = (T.holds e y.0 b d 0 0).1 in
      rw y.1 (record {
        places = bs;
        holds = (T.holds e y.0 b d (last_of o) nn).0;
        top-is = omega (arith, w);
        bodies = λ other. rw (append-nil r.codes) (bodies_kept other (S.bodies other) G.below (omega (arith, w)));
        stmts-are = S.stmts-are ∙ last-is o refl y.0;
        ended_is = sym (ended nn y);
        main-is = λ z. absurd (true≢false (sym z ∙ ended nn y));
      })
    where
      form-there : (u : Option (LineForm × ℕ)) → o ≡ u → (S' : Staged Entry) → entry_staged r.known o₀ ≡ S' → (e : Entry) → S' ≡ fits e → r.known.stmts ≡ last_of u
      form-there none h S' i e j = absurd (none-staged r.known o₀ (sym same ∙ none_first o (λ p. some p.0) h) e (i ∙ j))
      form-there (some p) h S' i e j = sym (last p h)

      last-is : (u : Option (LineForm × ℕ)) → o ≡ u → entry_staged r.known o₀ ≡ fits e → r.known.stmts ≡ last_of o
      last-is u h i = rw h (form-there u h (fits e) i e refl)

      ended : (nn : ℕ) → (entry_staged r.known o₀ ≡ fits e) × (cs ≡ []) → (declare_line r.known e (last_of o) nn).ended ≡ false
      ended nn y = let z = entry-there r.known o₀ e y.0 in not_last r.known.env r.known z.0 (plain z.0 z.1) e z.2 (last_of o) nn

  pub declared-told : EntryTold s l' ts' kn.state.top r o (declared_entry kn x)
  declared-told =
      let T = G.told r.known bs S.holds in
      record {
        fault-is = T.fault-is ∙ plain-fault (entry_staged r.known o₀) ∙ ap fault_of (sym whole_is);
        within-is = λ e cs q. T.within-is e (plain_fits (entry_staged r.known o₀) e cs (sym whole_is ∙ q)).0;
        stands = declared-stands;
      }

pub some_first : {A B : Type 0} (a : A) (f : A → Option B) → (some a >>= f) ≡ f a
unfolding ◌>>=◌
some_first a f = refl

-- ---- `var` and `type` lines: what they say does not depend on the statements before

abbrev with_number : LineForm → ℕ → LineForm × ℕ
with_number f n = (f, n)

pub record Fixed (h : Forms.LineHead) : Type 0 where
  pub first-is : (n m : ℕ) (ts : List Item) → (line_by h n ts >>= λ p. some p.0) ≡ (line_by h m ts >>= λ p. some p.0)
  pub last-is : (n : ℕ) (ts : List Item) (p : LineForm × ℕ) → line_by h n ts ≡ some p → p.1 ≡ n
  pub plain-is : (n : ℕ) (ts : List Item) (p : LineForm × ℕ) → line_by h n ts ≡ some p → Plain p.0

-- two parts, whatever the number
two-fixed : {A B : Type 0} (c : A → B → LineForm) (f : Item → Option A) (g : Item → Option B) (n m : ℕ) (o : Option (Item × Item))
    → ((o >>= λ p. f p.0 >>= λ w. g p.1 >>= λ t. some (with_number (c w t) n)) >>= λ p. some p.0) ≡ ((o >>= λ p. f p.0 >>= λ w. g p.1 >>= λ t. some (with_number (c w t) m)) >>= λ p. some p.0)
unfolding ◌>>=◌
two-fixed c f g n m none = refl
two-fixed {A} {B} c f g n m (some p) = by (f p.0) (g p.1)
  where
    by : (a : Option A) (b : Option B) → ((a >>= λ w. b >>= λ t. some (with_number (c w t) n)) >>= λ p. some p.0) ≡ ((a >>= λ w. b >>= λ t. some (with_number (c w t) m)) >>= λ p. some p.0)
    by none b = refl
    by (some w) none = refl
    by (some w) (some t) = refl

pub var-fixed : Fixed is_var
unfolding line_by
var-fixed = record {
  first-is = λ n m ts. two-fixed var_line free type_name n m (two ts);
  last-is = λ n ts p h. bind-some h λ q hq i. bind-some i λ w hw j. bind-some j λ t ht e. rw (← some_inj e) refl;
  plain-is = λ n ts p h. bind-some h λ q hq i. bind-some i λ w hw j. bind-some j λ t ht e. rw (← some_inj e) a-var;
}

pub type-fixed : Fixed is_type
unfolding line_by
type-fixed = record {
  first-is = λ n m ts. two-fixed type_line free type_form n m (two ts);
  last-is = λ n ts p h. bind-some h λ q hq i. bind-some i λ w hw j. bind-some j λ t ht e. rw (← some_inj e) refl;
  plain-is = λ n ts p h. bind-some h λ q hq i. bind-some i λ w hw j. bind-some j λ t ht e. rw (← some_inj e) a-type;
}

pub head_first : (h : Forms.LineHead) → Fixed h → (n : ℕ) (us : Trees Run) → (head_in h n us >>= λ p. some p.0) ≡ line_of h 0 us
unfolding head_in line_of
head_first h F n us = bind_assoc (worded_all us) (λ vs. line_by h n (list vs)) (λ p. some p.0) ∙ bind-cong (worded_all us) (λ vs. F.first-is n 0 (list vs))

pub head-last : (h : Forms.LineHead) → Fixed h → (n : ℕ) (us : Trees Run) (p : LineForm × ℕ) → head_in h n us ≡ some p → p.1 ≡ n
unfolding head_in
head-last h F n us p e = bind-some e λ vs hv i. F.last-is n (list vs) p i

pub head_plain : (h : Forms.LineHead) → Fixed h → (us : Trees Run) (f : LineForm) → line_of h 0 us ≡ some f → Plain f
unfolding line_of
head_plain h F us f e = bind-some e λ vs hv i. bind-some i λ p hp j. rw (← some_inj j) (F.plain-is 0 (list vs) p hp)

-- the promise for such a line
pub declared-enters : (s l ts : List ℕ) (kn : Known) (k : LineHead) (h : Forms.LineHead) → line_head_meant k ≡ some h → Fixed h → (at : ℕ) (x : Lined) (l' ts' : List ℕ)
    → GivesLine s l ts kn.state (line_of h 0 (first (stack_at s at))) x l' ts' → (g : Entered) → g ≡ declared_entry kn x → Enters s l ts kn k at g l' ts'
declared-enters s l ts kn k h m F at x l' ts' G g e = rw e (record {
  says = λ r bs S n.
      rw (m, some_first h (λ k. head_in k r.known.stmts (first (stack_at s at)))) (declared-told s l ts kn r bs S (head_in h r.known.stmts (first (stack_at s at))) (line_of h 0 (first (stack_at s at)))
      (head_first h F r.known.stmts (first (stack_at s at))) (head-last h F r.known.stmts (first (stack_at s at))) (head_plain h F (first (stack_at s at))) x l' ts' G);
})
