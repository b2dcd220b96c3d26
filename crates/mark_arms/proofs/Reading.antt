-- What an arm's parts read as: labels, and the last part.
use mathlib.Core.Path.{◌≡◌, refl, sym, ap, ◌∙◌}
use mathlib.Core.Bool.{Bool, true, false, true≢false}
use mathlib.Core.List.{List, []}
use mathlib.Core.Option.{Option, none, some}
use Prim.Native.Nat.{ℕ, zero, suc, ◌<◌, ◌≤◌}
use native.Mathlib.Omega.{arith}
use borrow.Author.Tests.{leb-true, leb-false, le-leb}
use lib.IntN.{ℤ, pos, negsuc, neg_ℤ}
use lib.Signed.{mag}
use mir.Syntax.{w64}
use mir.Val.{SFits}
use mir.Facts.{to_z-of_z}
use borrow.Author.Rules.{sfits_of}
use Rattle.std.specs.Prelude.{Option as Maybe, Some, None}
use Rattle.leaf_integers.proofs.Machine.{wire}
use Rattle.leaf_integers.specs.Integers.{inside, least, most}
use Rattle.leaf_integers.proofs.Ranges.{inside-mag}
use Rattle.leaf_words.specs.Words.{word_of}
use Rattle.law.specs.Base.{◌>>=◌}
use Rattle.law.specs.Environment.{Environment}
use Rattle.law.specs.Forms.{constant}
use Rattle.law.specs.Names.{const_of, constant_of}
use Rattle.law.specs.Rules.{plain}
use Rattle.law.specs.Script.{Const}
use Rattle.rule_stages.specs.Stages.{fits, staged, named, ruled}
use Rattle.law.specs.Syntax as Syntax
use Rattle.law.specs.Syntax.{Constant, Stmt}
use Rattle.law.specs.Trees.{Tree, word, form, Trees, end, ◌then◌, Run, first}
use Rattle.law_theorems.specs.Readings.{stack_at}
use Rattle.law.specs.Words.{worded}
use Rattle.law_theorems.proofs.Inversion.{none-some, some_inj, bind-some}
use Rattle.rule_faults.specs.Got.{is_clear, fault_of}
use Rattle.text_parts.specs.Parts.{Before, Shuts}
use Rattle.std.specs.Prelude.{Option as Maybe, Some, None}
use Rattle.text_heads.specs.declared.Atom.{Atom}
use Rattle.text_heads.specs.declared.Atom.TheVariants as AT
use Rattle.text_heads.specs.declared.ExprHead.{ExprHead}
use Rattle.text_heads.specs.declared.ExprHead.TheVariants as EH
use Rattle.text_heads.specs.Heads as heads
use Rattle.text_heads.specs.Heads.{expr_head_of, atom_number}
use Rattle.text_heads.specs.Parts.{part_of, rest, closed, constant_in, number_in, constant_by, stmt_in, arm_in}
use Rattle.text_heads.proofs.Heads.{number_word}
use Rattle.text_heads.proofs.Expressions.{constant-form, constant-empty, constant-headless, number-form}
use Rattle.rule_atoms.specs.Answering.{GivesConstant}
use Rattle.rule_atoms.specs.declared.Valued.{Valued}
use Rattle.rule_constants.specs.Plain.{plain_first, plain_tree}
use Rattle.rule_constants.proofs.Exprs.{number-inside, constant-plain}
use Rattle.rule_labels.specs.Blocks.{Held}
use Rattle.text_skips.specs.Skips.{Skips}
use Rattle.mark_counts.proofs.Items.{bind-of}
use Rattle.mark_arms.specs.Arms.{many, labels_in, last_in, Marks, Spots, Labels, EndsAt}
use Rattle.table_scope.specs.declared.Scope.{Scope}

-- ---- an arm's labels and statement

pub arm-labels : (d n : ℕ) (us : Trees Run) (p : List Constant × (Stmt × ℕ)) → arm_in d n us ≡ some p → labels_in us ≡ some p.0
unfolding arm_in labels_in
arm-labels d n end p h = none-some h
arm-labels d n (t then end) p h = none-some h
arm-labels d n (t then (u then end)) p h = bind-some h λ c hc h'. bind-some h' λ a ha e. bind-of (worded t >>= constant) c _ hc ∙ bind-of (labels_in (u then end)) [] _ refl ∙ ap (λ (q : List Constant × (Stmt × ℕ)). some q.0) (some_inj e)
arm-labels d n (t then (u then (v then ts))) p h = bind-some h λ c hc h'. bind-some h' λ a ha e.
    bind-of (worded t >>= constant) c _ hc ∙ bind-of (labels_in (u then (v then ts))) a.0 _ (arm-labels d n (u then (v then ts)) a ha) ∙ ap (λ (q : List Constant × (Stmt × ℕ)). some q.0) (some_inj e)

pub arm-last : (d n : ℕ) (us : Trees Run) (p : List Constant × (Stmt × ℕ)) → arm_in d n us ≡ some p → last_in d n us ≡ some p.1
unfolding arm_in last_in
arm-last d n end p h = none-some h
arm-last d n (t then end) p h = none-some h
arm-last d n (t then (u then end)) p h = bind-some h λ c hc h'. bind-some h' λ a ha e. rw (← some_inj e) ha
arm-last d n (t then (u then (v then ts))) p h = bind-some h λ c hc h'. bind-some h' λ a ha e. rw (← some_inj e) (arm-last d n (u then (v then ts)) a ha)

-- ---- a constant past the integers

past-neg : (z : ℤ) → inside least most z ≡ true → inside least most (neg_ℤ z) ≡ false → neg_ℤ z ≡ pos 2147483648
past-neg (pos zero) h k = absurd (true≢false (sym (inside-mag 2147483647 (pos 0)) ∙ k))
past-neg (pos (suc n)) h k = absurd (true≢false (sym (inside-mag 2147483647 (negsuc n) ∙ le-leb (mag (negsuc n)) 2147483647 (low n h)) ∙ k))
  where
    low : (n : ℕ) → inside least most (pos (suc n)) ≡ true → mag (negsuc n) ≤ 2147483647
    low n h = let q : mag (pos (suc n)) ≤ 2147483647 = leb-true (mag (pos (suc n))) 2147483647 (sym (inside-mag 2147483647 (pos (suc n))) ∙ h) in omega arith
past-neg (negsuc n) h k =
    let a : mag (negsuc n) ≤ 2147483647 = leb-true (mag (negsuc n)) 2147483647 (sym (inside-mag 2147483647 (negsuc n)) ∙ h) in
    let b : 2147483647 < mag (pos (suc n)) = leb-false (mag (pos (suc n))) 2147483647 (sym (inside-mag 2147483647 (pos (suc n))) ∙ k) in
    ap pos (omega arith)

number-in : (us : Trees Run) (z : ℤ) → number_in us ≡ some z → inside least most z ≡ true
unfolding number_in part_of ◌>>=◌
number-in end z h = none-some h
number-in (form vs then ts) z h = none-some (sym (number-form vs ts) ∙ h)
number-in (word w then ts) z h = number-inside w z (go (heads.atom_of (word_of w)) (sym (number_word w ts) ∙ h))
  where
    go : (a : Atom) → atom_number a ≡ some z → a ≡ AT.Number z
    go (AT.Number y) e = ap (λ (x : ℤ). AT.Number x) (some_inj e)
    go AT.Named e = none-some e
    go (AT.Truth b) e = none-some e
    go AT.ErrorNumber e = none-some e
    go (AT.Base k) e = none-some e
    go AT.Nothing e = none-some e

module _ (σ : Environment) where
  minus-past : (us : Trees Run) (c : Constant) (x : Const) (o : Option ℤ) (v : Trees Run) → number_in us ≡ o → (o >>= λ z. closed v (Syntax.minus z)) ≡ some c → constant_of σ c ≡ some x
      → plain x ≡ false → x ≡ const_of 0 (pos 2147483648)
  unfolding ◌>>=◌ closed constant_of plain
  minus-past us c x none v n h k f = none-some h
  minus-past us c x (some z) (t then ts) n h k f = none-some h
  minus-past us c x (some z) end n h k f =
      let p : const_of 0 (neg_ℤ z) ≡ x = some_inj (rw (← some_inj h) at k) in
      sym p ∙ ap (const_of 0) (past-neg z (number-in us z n) (ap (λ (y : Const). inside least most y.value) p ∙ f))

  form-past : (j : ExprHead) (us : Trees Run) (c : Constant) (x : Const) → constant_by j us ≡ some c → constant_of σ c ≡ some x → plain x ≡ false → x ≡ const_of 0 (pos 2147483648)
  unfolding constant_by
  form-past EH.At us c x h k f = none-some h
  form-past EH.Dot us c x h k f = none-some h
  form-past EH.Members us c x h k f = none-some h
  form-past EH.Minus us c x h k f = minus-past us c x (number_in us) (rest us) refl h k f
  form-past (EH.Bound b) us c x h k f = none-some h
  form-past (EH.Short q) us c x h k f = none-some h
  form-past (EH.Two n) us c x h k f = none-some h
  form-past (EH.One n) us c x h k f = none-some h
  form-past EH.Nothing us c x h k f = none-some h

pub constant-past : {s l : List ℕ} {scope : Scope} {σ : Environment} → Held s l scope σ → (us : Trees Run) (c : Constant) (x : Const) → constant_in us ≡ some c → constant_of σ c ≡ some x
    → plain x ≡ false → x ≡ const_of 0 (pos 2147483648)
unfolding constant_in part_of ◌>>=◌ plain_first plain_tree
constant-past H end c x h k f = none-some h
constant-past {σ = σ} H (word w then ts) c x h k f =
    absurd (true≢false (sym (constant-plain σ H.scene.table _ H.scene.fair (word w then ts) c x h k) ∙ f))
constant-past H (form end then ts) c x h k f = none-some (sym (constant-empty ts) ∙ h)
constant-past H (form (form us then vs) then ts) c x h k f = none-some (sym (constant-headless us vs ts) ∙ h)
constant-past {σ = σ} H (form (word w then us) then ts) c x h k f = form-past σ (expr_head_of (word_of w)) us c x (sym (constant-form w us ts) ∙ h) k f

-- ---- `label_at`

clear-not : (b : Bool) (x : Const) → is_clear (fault_of (ruled b (some x))) ≡ false → b ≡ false
unfolding ruled
clear-not true x h = absurd (true≢false h)
clear-not false x h = refl

clear-is : (b : Bool) (x : Const) → is_clear (fault_of (ruled b (some x))) ≡ true → ruled b (some x) ≡ fits x
unfolding ruled
clear-is true x h = refl
clear-is false x h = absurd (true≢false (sym h))

staged-is : (σ : Environment) (us : Trees Run) (c : Constant) (x : Const) → constant_in us ≡ some c → constant_of σ c ≡ some x
    → staged (constant_in us) (constant_of σ) plain some ≡ ruled (plain x) (some x)
unfolding staged named
staged-is σ us c x h k = rw (h, k) refl

module _ (s l : List ℕ) (scope : Scope) (at : ℕ) (v : Valued) (G : GivesConstant s l scope at v) where
  pub label-clear : (b : Bool) → b ≡ is_clear v.fault → b ≡ true → SFits w64 v.value → Labels s l scope at (record { kind = v.kind; value = wire v.value })
  label-clear b g f e = record {
    says = λ σ H c x h k.
        let T = G.says H.ts H.top σ H.bs H.scene in
        let q = staged-is σ (first (stack_at s at)) c x h k in
        let w = T.value-is x (q ∙ clear-is (plain x) x (ap (λ S. is_clear (fault_of S)) (sym q) ∙ ap is_clear (sym T.fault-is) ∙ sym g ∙ f)) in
        (w.0, to_z-of_z e ∙ w.1);
  }

  pub label-past : (b : Bool) → b ≡ is_clear v.fault → b ≡ false → Labels s l scope at (record { kind = 0; value = pos 2147483648 })
  label-past b g f = record {
    says = λ σ H c x h k.
        let T = G.says H.ts H.top σ H.bs H.scene in
        let q = staged-is σ (first (stack_at s at)) c x h k in
        let w : x ≡ const_of 0 (pos 2147483648) = constant-past H (first (stack_at s at)) c x h k (clear-not (plain x) x (ap (λ S. is_clear (fault_of S)) (sym q) ∙ ap is_clear (sym T.fault-is) ∙ sym g ∙ f)) in
        (sym (ap (λ (y : Const). y.kind) w), sym (ap (λ (y : Const). y.value) w));
  }

pub ruleset label_laws = (label-clear, label-past, sfits_of)

-- ---- `spot_at`

module _ (s : List ℕ) (at : ℕ) (e : Maybe ℕ) (E : Shuts s at e) where
  pub spot-none : (q : ℕ) → e ≡ Some q → Spots s at None
  spot-none q h = record { says = ap rest (rw h at E.says).here }

  module _ (h : e ≡ None) (q : ℕ) (K : Skips s at q) (f : Maybe ℕ) (F : Shuts s q f) where
    here : (t : Tree Run) × Before s at t q
    here = go (first (stack_at s at)) refl
      where
        go : (us : Trees Run) → first (stack_at s at) ≡ us → (t : Tree Run) × Before s at t q
        go end g = absurd ((rw h at E.says) g)
        go (t then us) g = (t, K.says t us g)

    pub spot-last : (p : ℕ) → f ≡ Some p → Spots s at None
    spot-last p g = record { says = ap rest here.1.here ∙ (rw g at F.says).here }

    pub spot-marked : f ≡ None → Spots s at (Some q)
    spot-marked g = record { says = record { part = here.0; before = here.1; more = rw g at F.says } }

pub ruleset spot_laws = (spot-none, spot-last, spot-marked)

-- ---- `last_part`

pub record Passing (s : List ℕ) (at p : ℕ) : Type 0 where
  pub says : (d n : ℕ) → last_in d n (first (stack_at s at)) ≡ last_in d n (first (stack_at s p))

last_more : (d n : ℕ) (t : Tree Run) (us : Trees Run) → ((us ≡ end) → ⊥) → last_in d n (t then us) ≡ last_in d n us
unfolding last_in
last_more d n t end h = absurd (h refl)
last_more d n t (u then us) h = refl

last_one : (d n : ℕ) (us : Trees Run) → rest us ≡ end → last_in d n us ≡ stmt_in d n us
unfolding last_in stmt_in part_of ◌>>=◌
last_one d n end h = refl
last_one d n (t then end) h = refl
last_one d n (t then (u then us)) h = absurd (let z : ◌≡◌ {A = ℕ} 0 1 = cc in omega arith)

pub pass-start : (s : List ℕ) (at : ℕ) → Passing s at at
pass-start s at = record { says = λ d n. refl }

module _ (s : List ℕ) (at p : ℕ) (x : Maybe ℕ) (S : Spots s p x) where
  pub marked : (q : ℕ) → x ≡ Some q → Marks s p q
  marked q e = rw e at S.says

  pub pass_on : (q : ℕ) → x ≡ Some q → Passing s at p → Passing s at q
  pass_on q e P = let M = marked q e in record { says = λ d n. P.says d n ∙ ap (last_in d n) M.before.here ∙ last_more d n M.part (first (stack_at s q)) M.more }

  pub pass-end : x ≡ None → Passing s at p → EndsAt s at p
  pass-end e P = record { says = λ d n. P.says d n ∙ last_one d n (first (stack_at s p)) (rw e at S.says) }

  pub part_falls : (q : ℕ) → x ≡ Some q → many (first (stack_at s q)) < many (first (stack_at s p))
  unfolding many
  part_falls q e = let f : many (first (stack_at s p)) ≡ suc (many (first (stack_at s q))) = ap many (marked q e).before.here in omega arith

pub ruleset pass_laws = (pass_on, pass-end)
