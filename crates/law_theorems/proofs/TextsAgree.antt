-- Demand 3, agreement: of an accepted text, the marking machine gives what the run gives, on every store and at every budget.
use mathlib.Core.Path.{◌≡◌, refl, ap, ◌∙◌, fun_ext}
use mathlib.Core.Bool.{Bool, true, false, not}
use mathlib.Core.List.{List, [], ◌∷◌, ◌++◌, append-nil}
use mathlib.Core.Option.{Option, none, some}
use Prim.Native.Nat.{ℕ, suc, ◌+◌}
use native.Mathlib.Omega.{arith}
use lib.IntN.{ℤ}
use Rattle.law.specs.Ceilings.{line_bounded}
use Rattle.law.specs.Code.{BodyCode, no_frame}
use Rattle.law.specs.Elaborate.{elab_body}
use Rattle.law.specs.Environment.{Declared, PlacedBody, declare_line, frame_of, nothing_declared, with_body, within}
use Rattle.law.specs.Lines.{Line, lines_of}
use Rattle.law.specs.Machine.{Procs, proc}
use Rattle.law.specs.Names.{entry_of}
use Rattle.law.specs.Rules.{keeps_rules}
use Rattle.law.specs.Script.{Entry, new_main, new_proc, new_type, new_var}
use Rattle.law.specs.Syntax.{LineForm}
use Rattle.law.specs.Trees.{nodes}
use Rattle.law.specs.Verdict.{Fitting, Judged, Read, Verdict, ◌>>=◌, accepted, bad, good, has, judge, judge_line, judge_lines, loosely, must, onward, opening, or_bad, refused, strictly}
use Rattle.law.specs.Whole.{Report, mark_all, mark_body, mark_of, run_all, run_body, run_of, unless, verdict_of}
use Rattle.law_theorems.proofs.Inversion.{some_inj, both_some, bind-some, and-true}
use Rattle.law_theorems.proofs.BodiesAgree.{sim-b}

-- ---- inversion, by continuation

pub bad-good {ℓ} : {A : Type 0} {X : Type ℓ} {n : ℕ} {a : A} → bad n ≡ good a → X
bad-good {n} {a} h = absurd (let z : ◌≡◌ {A = ℕ} 0 1 = cc in omega arith)

pub good-inj : {A : Type 0} {a b : A} → good a ≡ good b → a ≡ b
good-inj {a} {b} h = cc

pub refused-accepted {ℓ} : {A : Type 0} {X : Type ℓ} {n l : ℕ} {a : A} → refused n l ≡ accepted a → X
refused-accepted {n} {l} {a} h = absurd (let z : ◌≡◌ {A = ℕ} 0 1 = cc in omega arith)

pub accepted-inj : {A : Type 0} {a b : A} → accepted a ≡ accepted b → a ≡ b
accepted-inj {a} {b} h = cc

-- a stage that gave something, and what came after
pub stage : {A B P : Type 0} (n : ℕ) {o : Option A} {f : A → Judged B} {b : B} → (or_bad n o >>= f) ≡ good b → ((a : A) → o ≡ some a → f a ≡ good b → P) → P
unfolding or_bad ◌>>=◌
stage n {o = some a} h k = k a refl h
stage n {o = none} h k = bad-good h

-- and the same forwards
pub stage-on : {A B : Type 0} (n : ℕ) (a : A) (f : A → Judged B) → (or_bad n (some a) >>= f) ≡ f a
unfolding or_bad ◌>>=◌
stage-on n a f = refl

pub must-on : {B : Type 0} (n : ℕ) (f : Unit {0} → Judged B) → (must n true >>= f) ≡ f tt
unfolding must ◌>>=◌
must-on n f = refl

pub must-is : (n : ℕ) → must n true ≡ good tt
unfolding must
must-is n = refl

pub onward-on : {A B : Type 0} (a : A) (n : ℕ) (f : A → Verdict B) → onward (good a) n f ≡ f a
unfolding onward
onward-on a n f = refl

pub unless-on : (r : Read) (vs : List ℤ) (ms : List ℕ) (f : Read → Report) → unless (accepted r) vs ms f ≡ f r
unfolding unless
unless-on r vs ms f = refl

pub musted : {B P : Type 0} (n : ℕ) (t : Bool) {f : Unit {0} → Judged B} {b : B} → (must n t >>= f) ≡ good b → (t ≡ true → (u : Unit {0}) → f u ≡ good b → P) → P
unfolding must ◌>>=◌
musted n true h k = k refl tt h
musted n false h k = bad-good h

pub onward-is : {A B P : Type 0} {j : Judged A} (n : ℕ) {f : A → Verdict B} {b : B} → onward j n f ≡ accepted b → ((a : A) → j ≡ good a → f a ≡ accepted b → P) → P
unfolding onward
onward-is {j = good a} n h k = k a refl h
onward-is {j = bad m} n h k = refused-accepted h

pub opening-is : {A P : Type 0} (b c : Bool) (o : Option ℕ) (f : List Line → Verdict A) (ls : List Line) {a : A} → opening b c o f ls ≡ accepted a
    → (f ls ≡ accepted a → ((g : List Line → Verdict A) → opening b c o g ls ≡ g ls) → P) → P
unfolding opening
opening-is false c o f ls h k = refused-accepted h
opening-is true false o f ls h k = refused-accepted h
opening-is true true (some n) f ls h k = refused-accepted h
opening-is true true none f ls h k = k h (λ g. refl)

-- ---- each body has its code

pub data Paired : List PlacedBody → List BodyCode → Type 0 where
  empty : Paired [] []
  more : {b : PlacedBody} {c : BodyCode} {bs : List PlacedBody} {cs : List BodyCode} → elab_body b.types b.vars b.frame b.body ≡ some c → Paired bs cs → Paired (b ∷ bs) (c ∷ cs)

paired-last : {bs : List PlacedBody} {cs : List BodyCode} (b : PlacedBody) (c : BodyCode) → elab_body b.types b.vars b.frame b.body ≡ some c → Paired bs cs → Paired (bs ++ (b ∷ [])) (cs ++ (c ∷ []))
paired-last b c h empty = more h empty
paired-last b c h (more e p) = more e (paired-last b c h p)

paired_same : {bs : List PlacedBody} {cs : List BodyCode} → Paired bs cs → Paired bs (cs ++ [])
paired_same {bs} {cs} p = rw (append-nil cs) p

-- a line that fits: the bodies after it have the code after it
entry-paired : (k : Declared) (e : Entry) (s n : ℕ) (cs ds : List BodyCode) → strictly k.env e ≡ some ds → Paired k.bodies cs → Paired (declare_line k e s n).bodies (cs ++ ds)
unfolding strictly declare_line
entry-paired k (new_type w d) s n cs ds h p = rw (← some_inj h) (paired_same p)
entry-paired k (new_var w t) s n cs ds h p = rw (← some_inj h) (paired_same p)
entry-paired k (new_proc w ps b) s n cs ds h p = bind-some h λ c hc e. rw (← some_inj e) (paired-last (with_body (within k.env ps) (frame_of k.env ps) b) c hc p)
entry-paired k (new_main b) s n cs ds h p = bind-some h λ c hc e. rw (← some_inj e) (paired-last (with_body k.env no_frame b) c hc p)

-- ---- a line, judged strictly, is judged loosely too, with the same tables

-- what a line that was judged good went through; another judge of kinds who admits it gives the same tables
pub line-good : {P : Type 0} (fitting : Fitting) (k : Declared) (l : Line) (p : Declared × List BodyCode) → judge_line fitting k l ≡ good p
    → ((f : LineForm) (e : Entry) (s n : ℕ) → entry_of k.env f ≡ some e → keeps_rules k.env.types e ≡ true → fitting k.env e ≡ some p.1
    → line_bounded k e ≡ true → declare_line k e s n ≡ p.0
    → ((other : Fitting) (ds : List BodyCode) → other k.env e ≡ some ds → judge_line other k l ≡ good (p.0, ds)) → P) → P
unfolding judge_line
line-good fitting k l p h c =
    stage 4 h λ t h₄ h. stage 5 h λ v h₅ h. musted 6 (not k.ended) h λ h₆ _ h. stage 6 h λ f f₆ h. stage 7 h λ e h₇ h.
    musted 8 (keeps_rules k.env.types e) h λ h₈ _ h. stage 8 h λ cs f₈ h. musted 9 _ h λ h₉ _ h.
    c f.0 e f.1 (k.nodes + nodes t) h₇ h₈ (f₈ ∙ ap (λ (q : Declared × List BodyCode). some q.1) (good-inj h)) (and-true _ _ h₉).0 (ap (λ (q : Declared × List BodyCode). q.0) (good-inj h))
    (λ other ds g. rw (h₄, stage-on, h₅, stage-on, h₆, must-on, f₆, stage-on, h₇, stage-on, h₈, must-on, g, stage-on, h₉, must-on, ← good-inj h))

-- ---- lines

pub lines-agree : {P : Type 0} (n : ℕ) (ls : List Line) (k : Declared) (cs ds : List BodyCode) (r : Read) → judge_lines strictly n ls (has k cs) ≡ accepted r → Paired k.bodies cs
    → ((es : List BodyCode) → judge_lines loosely n ls (has k ds) ≡ accepted (has r.known es) → Paired r.known.bodies r.codes → P) → P
unfolding judge_lines loosely
lines-agree n [] k cs ds r h p c = onward-is n h λ _ hm e.
    c ds (rw (hm, onward-on, ← accepted-inj e)) (rw (← accepted-inj e) p)
lines-agree n (l ∷ ls) k cs ds r h p c = onward-is n h λ q hq h'.
    line-good strictly k l q hq λ f e s m _ _ hf _ hg other.
    lines-agree (suc n) ls q.0 (cs ++ q.1) (ds ++ []) r h' (rw (← hg) (entry-paired k e s m cs q.1 hf p)) λ es hl p'.
    c es (rw (other loosely [] refl, onward-on) hl) p'

-- ---- the machines

-- a body's code has its parameters
pub body-frame : (b : PlacedBody) (c : BodyCode) → elab_body b.types b.vars b.frame b.body ≡ some c → b.frame ≡ c.frame
unfolding elab_body
body-frame b c h = both_some h λ x y hx hy e. rw (← some_inj e)

pub body-agrees : (b : PlacedBody) (c : BodyCode) → elab_body b.types b.vars b.frame b.body ≡ some c → mark_body b ≡ run_body c
unfolding elab_body mark_body run_body
body-agrees b c h = both_some h λ x y hx hy e.
    rw (← some_inj e) (fun_ext λ ps. fun_ext λ s. rw (sim-b b.types b.vars ps b.body.stmts x hx, sim-b b.types b.vars ps b.body.handler y hy))

pub all-agree : {bs : List PlacedBody} {cs : List BodyCode} → Paired bs cs → (ps : Procs) → mark_all bs ps ≡ run_all cs ps
unfolding mark_all run_all
all-agree empty ps = refl
all-agree (more {b} {c} h empty) ps = rw (body-agrees b c h)
all-agree (more {b} {c} h (more {b = b'} {c = c'} h' p)) ps = rw (body-agrees b c h, body-frame b c h) (all-agree (more h' p) (ps ++ (proc c.frame (run_body c ps) ∷ [])))

-- ---- the text: for every store and budget, marking and run give one answer, with its steps and both lists

pub judged-agree : {P : Type 0} (text : List ℕ) (work : ℕ) (r : Read) → verdict_of text work ≡ accepted r
    → ((es : List BodyCode) → judge loosely text work ≡ accepted (has r.known es) → Paired r.known.bodies r.codes → P) → P
unfolding verdict_of judge
judged-agree text work r h c = opening-is _ _ _ _ _ h λ h' any.
    lines-agree 1 (lines_of text) nothing_declared [] [] r h' empty λ es hl p. c es (any _ ∙ hl) p

pub agreement : (text : List ℕ) (work : ℕ) (r : Read) → verdict_of text work ≡ accepted r
    → (vs : List ℤ) (ms : List ℕ) (budget : ℕ) → mark_of text work vs ms budget ≡ run_of text work vs ms budget
unfolding mark_of run_of
agreement text work r h vs ms budget = judged-agree text work r h λ es hl p. rw (hl, h, unless-on, unless-on, all-agree p [])
