-- Rows 4 and 5, and the line after `main`.
use Rattle.std.proofs.Common.{Result, Err}
use mathlib.Core.Path.{◌≡◌, refl, sym, ap, ◌∙◌}
use mathlib.Core.Bool.{Bool, true, false, not}
use mathlib.Core.List.{List}
use mathlib.Core.Option.{none, some}
use Prim.Native.Nat.{ℕ}
use native.Mathlib.Omega.{arith}
use lib.ListN.{drop}
use Rattle.leaf_words.specs.declared.words.Word as Kind
use Rattle.law.specs.Environment.{Declared}
use Rattle.law.specs.Lines.{Line}
use Rattle.law.specs.Trees.{Tree, word, form, Trees, end, ◌then◌, Run, nodes, form_of, first, later, before, word_at}
use Rattle.law_theorems.specs.Readings.{stack_at}
use Rattle.law.specs.Verdict.{Fitting, Judged, bad, ◌>>=◌, or_bad, must, strictly, judge_line}
use Rattle.law.specs.Words.{Word, worded}
use Rattle.law_theorems.proofs.TextsAgree.{stage-on}
use Rattle.text_lines.specs.Passes.{line_at, balanced_from}
use Rattle.text_words.specs.Passes.{known_all, nodes_all}
use Rattle.text_lines.proofs.Ties.{formed, unformed}
use Rattle.text_words.proofs.Ties.{worded-some, worded-none, line_known, line-nodes}
use Rattle.text_parts.specs.declared.Part.{Part}
use Rattle.text_parts.specs.declared.Part.TheVariants as part
use Rattle.text_parts.specs.Parts.{Stands}
use Rattle.rule_known.specs.declared.Known.{Known}
use Rattle.rule_judge.specs.Forms.{JudgesForm, KnownLine, JudgesKnown}
use Rattle.rule_judge.specs.Judging.{JudgesLine}
use Rattle.text_skips.proofs.Counts.{nodes-short}

-- ---- a line's refusals 4 and 5, however kinds are judged

pub fourth : (fitting : Fitting) (k : Declared) (l : Line) → form_of l ≡ none → judge_line fitting k l ≡ bad 4
unfolding judge_line or_bad ◌>>=◌
fourth fitting k l h = rw h refl

pub fifth : (fitting : Fitting) (k : Declared) (l : Line) (t : Tree Run) → form_of l ≡ some t → worded t ≡ none → judge_line fitting k l ≡ bad 5
unfolding judge_line or_bad ◌>>=◌
fifth fitting k l t h i = rw (h, i) refl

must-shut : {B : Type 0} (b : Bool) → b ≡ true → (j : Judged B) → (must 6 (not b) >>= λ _. j) ≡ bad 6
unfolding must ◌>>=◌
must-shut b h j = rw h refl

pub sixth : (fitting : Fitting) (k : Declared) (l : Line) (t : Tree Run) (v : Tree Word) → form_of l ≡ some t → worded t ≡ some v → k.ended ≡ true → judge_line fitting k l ≡ bad 6
unfolding judge_line
sixth fitting k l t v h i e = rw (h, stage-on, i, stage-on) (must-shut k.ended e _)

module _ (s l ts : List ℕ) (kn : Known) (at : ℕ) (j : Result Known ℕ) (b : Bool) (e : b ≡ balanced_from (drop at s) before) where
  pub line-unbalanced : b ≡ false → j ≡ Err 4 → JudgesLine s l ts kn at j l ts
  line-unbalanced h m = rw m (record { says = λ r bs S. rw (fourth strictly r.known (line_at (drop at s)) (unformed s at (sym e ∙ h))) (refl, omega arith) })

  module _ (h : b ≡ true) (c : Bool) (k : c ≡ known_all (stack_at s at)) where
    pub line-unknown : c ≡ false → j ≡ Err 5 → JudgesLine s l ts kn at j l ts
    line-unknown i m = rw m (record {
      says = λ r bs S.
          let F = formed s at (sym e ∙ h) in
          rw (fifth strictly r.known (line_at (drop at s)) (form F.0) F.1 (worded-none (form F.0) (sym (ap known_all F.2 ∙ line_known F.0) ∙ sym k ∙ i))) (refl, omega arith);
    })

    pub line-known-so : c ≡ true → (l' ts' : List ℕ) → JudgesKnown s l ts kn at j l' ts' → JudgesLine s l ts kn at j l' ts'
    line-known-so i l' ts' J = record { says = λ r bs S. J.says r bs S (record { balanced = sym e ∙ h; known = sym k ∙ i }) }

pub ruleset line-laws = (line-unbalanced, line-unknown, line-known-so)

-- ---- a line with known words

module _ (s l ts : List ℕ) (kn : Known) (at : ℕ) (j : Result Known ℕ) where
  pub known-ended : kn.ended ≡ true → j ≡ Err 6 → JudgesKnown s l ts kn at j l ts
  known-ended h m = rw m (record {
    says = λ r bs S K.
        let F = formed s at K.balanced in
        let R = worded-some (form F.0) (sym (ap known_all F.2 ∙ line_known F.0) ∙ K.known) in
        rw (sixth strictly r.known (line_at (drop at s)) (form F.0) R.0 F.1 R.1 (sym S.ended_is ∙ h)) (refl, omega arith);
  })

  module _ (x : Part) (c : Stands s at x) where
    pub no-leaf : (p q : ℕ) (w : Kind.Word) → x ≡ part.Leaf w p q → KnownLine s at → ⊥
    no-leaf p q w h K =
        let F = formed s at K.balanced in
        let Z = rw h at c.says in
        let y : (form F.0 then end) ≡ (word (word_at s p) then first (stack_at s q)) = sym (ap first F.2) ∙ Z.0.leaf.here in
        let z : ◌≡◌ {A = ℕ} 0 1 = cc in omega arith

    pub no-shut : (q : ℕ) → x ≡ part.Shut q → KnownLine s at → ⊥
    no-shut q h K =
        let F = formed s at K.balanced in
        let Z = rw h at c.says in
        let y : (form F.0 then end) ≡ end = sym (ap first F.2) ∙ Z.here in
        let z : ◌≡◌ {A = ℕ} 0 1 = cc in omega arith

    pub known-leaf : (p q : ℕ) (w : Kind.Word) → x ≡ part.Leaf w p q → JudgesKnown s l ts kn at j l ts
    known-leaf p q w h = record { says = λ r bs S K. absurd (no-leaf p q w h K) }

    pub known-shut : (q : ℕ) → x ≡ part.Shut q → JudgesKnown s l ts kn at j l ts
    known-shut q h = record { says = λ r bs S K. absurd (no-shut q h K) }

    pub known-form : (p n : ℕ) (l' ts' : List ℕ) → kn.ended ≡ false → x ≡ part.Form p → n ≡ nodes_all (stack_at s at) → JudgesForm s l ts kn p n j l' ts' → JudgesKnown s l ts kn at j l' ts'
    known-form p n l' ts' g h m J = record {
      says = λ r bs S K.
          let F = formed s at K.balanced in
          let Z = rw h at c.says in
          let y : (form F.0 then end) ≡ (form (first (stack_at s p)) then first (later (stack_at s p))) = sym (ap first F.2) ∙ Z.here in
          let z : F.0 ≡ first (stack_at s p) = cc in
          let R = worded-some (form F.0) (sym (ap known_all F.2 ∙ line_known F.0) ∙ K.known) in
          J.says r bs S (line_at (drop at s)) (record {
            form-is = F.1 ∙ ap (λ (f : Trees Run). some (form f)) z;
            read = R.0;
            worded-is = ap (λ (f : Trees Run). worded (form f)) (sym z) ∙ R.1;
            count-is = m ∙ ap nodes_all F.2 ∙ line-nodes F.0 ∙ ap (λ (f : Trees Run). nodes (form f)) z;
            short = let a = nodes-short s at in omega (arith, S.holds.short-text);
            going = sym S.ended_is ∙ g;
          });
    }

pub ruleset known-laws = (known-ended, known-leaf, known-shut, known-form)
