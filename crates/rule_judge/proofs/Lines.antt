-- A line judged: rows 4 to 9 from the answer for its parts.
use mathlib.Core.Path.{◌≡◌, refl, ap, ◌∙◌}
use mathlib.Core.Bool.{Bool, true, false, not, ◌&&◌}
use mathlib.Core.List.{List}
use mathlib.Core.Option.{Option, none, some}
use Prim.Native.Nat.{ℕ, ◌+◌}
use lib.Dec.{leb}
use Rattle.leaf_words.specs.Words.{word_of}
use Rattle.law.specs.Base as Base
use Rattle.law.specs.Ceilings.{line_bounded}
use Rattle.law.specs.Code.{BodyCode}
use Rattle.law.specs.Environment.{Declared, declare_line}
use Rattle.law.specs.Forms as Forms
use Rattle.law.specs.Forms.{Item, line_heads, among, headed}
use Rattle.law_theorems.specs.FormsByDepth.{line_form, line_by}
use Rattle.law_theorems.proofs.FormsAgree.{line_same}
use Rattle.law.specs.Lines.{Line}
use Rattle.law.specs.Names.{entry_of}
use Rattle.law.specs.Rules.{keeps_rules}
use Rattle.law.specs.Script.{Entry}
use Rattle.rule_stages.specs.Stages.{ruled, named, staged}
use Rattle.law.specs.Syntax.{LineForm}
use Rattle.law.specs.Trees.{Tree, word, form, Trees, end, ◌then◌, Run, list, nodes, form_of}
use Rattle.law.specs.Verdict.{Judged, good, ◌>>=◌, or_bad, must, strictly, judge_line}
use Rattle.law.specs.Words.{Word, worded, worded_all}
use Rattle.rule_stages.proofs.OnePassLines.{judged_by}
use Rattle.law_theorems.proofs.TextsAgree.{stage-on}
use Rattle.text_heads.specs.Heads.{line_head_of, line_head_meant}
use Rattle.text_heads.specs.Parts.{key_in}
use Rattle.text_heads.proofs.Heads.{line-head-is}
use Rattle.text_heads.proofs.Walks.{headed-form, empty-form, headless-form}
use Rattle.rule_judge.specs.Entering.{last_of}
use Rattle.rule_judge.specs.Whole.{line_in, head_in, whole_staged}

-- row 9 and what is known then
abbrev pub ninth : Declared → Tree Run → ℕ → Entry → List BodyCode → Judged (Declared × List BodyCode)
ninth k t s e cs = must 9 (line_bounded k e && leb (k.nodes + nodes t) 4096) >>= λ _. good (declare_line k e s (k.nodes + nodes t), cs)

pub line-in : (n : ℕ) (t : Tree Run) (v : Tree Word) → worded t ≡ some v → line_in n t ≡ line_form n v
unfolding line_in Base.◌>>=◌
line-in n t v h = rw h refl

none-judged : {B : Type 0} (k : Declared) (f : LineForm × ℕ → Judged B) (g : Entry × List BodyCode → Judged B) → (or_bad 6 none >>= f) ≡ judged_by (whole_staged k none) g
unfolding whole_staged staged judged_by or_bad ◌>>=◌ Base.◌>>=◌
none-judged k f g = refl

pub must-open : {B : Type 0} (b : Bool) → b ≡ false → (j : Judged B) → (must 6 (not b) >>= λ _. j) ≡ j
unfolding must ◌>>=◌
must-open b h j = rw h refl

module _ (k : Declared) (t : Tree Run) where
  -- rows 7 to 9 of a line whose form is known
  abbrev after : LineForm × ℕ → Judged (Declared × List BodyCode)
  after f = or_bad 7 (entry_of k.env f.0) >>= λ e. must 8 (keeps_rules k.env.types e) >>= λ _. or_bad 8 (strictly k.env e) >>= λ cs. ninth k t f.1 e cs

  after-judged : (f : LineForm × ℕ) → after f ≡ judged_by (whole_staged k (some f)) (λ p. ninth k t f.1 p.0 p.1)
  unfolding whole_staged staged named ruled judged_by or_bad must ◌>>=◌ Base.◌>>=◌
  after-judged f = go (entry_of k.env f.0)
    where
      rows : (e : Entry) (b : Bool) (u : Option (List BodyCode)) → (must 8 b >>= λ _. or_bad 8 u >>= λ cs. ninth k t f.1 e cs) ≡ judged_by {A = Entry × List BodyCode} (ruled b (Base.◌>>=◌ u λ cs. some (e, cs))) (λ p. ninth k t f.1 p.0 p.1)
      rows e false u = refl
      rows e true none = refl
      rows e true (some cs) = refl

      go : (u : Option Entry) → (or_bad 7 u >>= λ e. must 8 (keeps_rules k.env.types e) >>= λ _. or_bad 8 (strictly k.env e) >>= λ cs. ninth k t f.1 e cs)
          ≡ judged_by {A = Entry × List BodyCode} (named u (keeps_rules k.env.types) (λ e. Base.◌>>=◌ (strictly k.env e) λ cs. some (e, cs))) (λ p. ninth k t f.1 p.0 p.1)
      go none = refl
      go (some e) = rows e (keeps_rules k.env.types e) (strictly k.env e)

  -- rows 6 to 9
  pub line-judged : (l : Line) → form_of l ≡ some t → (v : Tree Word) → worded t ≡ some v → k.ended ≡ false
      → judge_line strictly k l ≡ judged_by (whole_staged k (line_in k.stmts t)) (λ p. ninth k t (last_of (line_in k.stmts t)) p.0 p.1)
  unfolding judge_line
  line-judged l h4 v h5 h6 = rw (h4, stage-on, h5, stage-on, line_same l t v h4 h5 k.stmts) (must-open k.ended h6 (or_bad 6 (line_form k.stmts v) >>= after) ∙ worded-form v h5 (line_form k.stmts v) refl)
    where
      worded-form : (v : Tree Word) → worded t ≡ some v → (o : Option (LineForm × ℕ)) → line_form k.stmts v ≡ o → (or_bad 6 (line_form k.stmts v) >>= after) ≡ judged_by (whole_staged k (line_in k.stmts t)) (λ p. ninth k t (last_of (line_in k.stmts t)) p.0 p.1)
      worded-form v h o e = let z : line_in k.stmts t ≡ o = in_is v h ∙ e in rw (e, z) (by_form o)
        where
          in_is : (v : Tree Word) → worded t ≡ some v → line_in k.stmts t ≡ line_form k.stmts v
          in_is v h = line-in k.stmts t v h

          by_form : (o : Option (LineForm × ℕ)) → (or_bad 6 o >>= after) ≡ judged_by (whole_staged k o) (λ p. ninth k t (last_of o) p.0 p.1)
          by_form none = none-judged k after (λ p. ninth k t 0 p.0 p.1)
          by_form (some f) = stage-on 6 f after ∙ after-judged f

-- ---- the head word

swap-heads : (o : Option Base.Name) (u : Option (Trees Word)) (n : ℕ)
    → Base.◌>>=◌ o (λ k. Base.◌>>=◌ u (λ vs. Base.◌>>=◌ (among line_heads k) (λ h. line_by h n (list vs))))
    ≡ Base.◌>>=◌ (Base.◌>>=◌ o (among line_heads)) (λ h. Base.◌>>=◌ u (λ vs. line_by h n (list vs)))
unfolding Base.◌>>=◌
swap-heads none u n = refl
swap-heads (some k) none n = none-heads (among line_heads k)
  where
    none-heads : (o : Option Forms.LineHead) → none ≡ Base.◌>>=◌ {B = LineForm × ℕ} o (λ h. none)
    none-heads none = refl
    none-heads (some h) = refl
swap-heads (some k) (some vs) n = refl

pub line-headed : (n : ℕ) (w : Run) (us : Trees Run) → line_in n (form (word w then us)) ≡ Base.◌>>=◌ (line_head_meant (line_head_of (word_of w))) (λ h. head_in h n us)
unfolding line_in head_in line_form headed
line-headed n w us =
    headed-form (line_form n) (λ k vs. Base.◌>>=◌ (among line_heads k) (λ h. line_by h n vs)) (λ vs. refl) w us
    ∙ swap (key_in w) (worded_all us)
    ∙ ap (λ (o : Option Forms.LineHead). Base.◌>>=◌ o (λ h. Base.◌>>=◌ (worded_all us) (λ vs. line_by h n (list vs)))) (line-head-is w)
  where
    swap : (o : Option Base.Name) (u : Option (Trees Word))
        → Base.◌>>=◌ o (λ k. Base.◌>>=◌ u (λ vs. Base.◌>>=◌ (among line_heads k) (λ h. line_by h n (list vs))))
        ≡ Base.◌>>=◌ (Base.◌>>=◌ o (among line_heads)) (λ h. Base.◌>>=◌ u (λ vs. line_by h n (list vs)))
    swap o u = swap-heads o u n

pub line-empty : (n : ℕ) → line_in n (form end) ≡ none
unfolding line_in line_form headed
line-empty n = empty-form (line_form n) (λ k vs. Base.◌>>=◌ (among line_heads k) (λ h. line_by h n vs)) (λ vs. refl)

pub line-headless : (n : ℕ) (us ts : Trees Run) → line_in n (form (form us then ts)) ≡ none
unfolding line_in line_form headed
line-headless n us ts = headless-form (line_form n) (λ k vs. Base.◌>>=◌ (among line_heads k) (λ h. line_by h n vs)) (λ vs. refl) us ts
