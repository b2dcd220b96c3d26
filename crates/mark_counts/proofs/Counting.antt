-- The ways of the count: the statements counted and those to come, at each word and bracket.
use mathlib.Core.Path.{◌≡◌, refl, sym, ap, ◌∙◌}
use mathlib.Core.List.{List, [], ◌∷◌}
use Prim.Native.Nat.{ℕ, zero, suc, ◌+◌, ◌*◌, ◌-◌, ◌<◌, ◌≤◌}
use native.Mathlib.Numerals.{add-one}
use native.Mathlib.Omega.{arith}
use lib.ListN.{length}
use Rattle.leaf_words.specs.declared.words.Word.{Word}
use Rattle.leaf_words.specs.Words.{word_of}
use Rattle.law.specs.Trees.{Tree, word, form, Trees, end, ◌then◌, nodes, nodes_in, Run, first, later, word_at}
use Rattle.law_theorems.specs.Readings.{stack_at}
use Rattle.text_words.specs.Passes.{nodes_all}
use Rattle.text_parts.specs.Parts.{Before, FormAt, ShutAt, Stands}
use Rattle.text_parts.specs.declared.Part.{Part}
use Rattle.text_parts.specs.declared.Part.TheVariants as part
use Rattle.text_heads.specs.Heads.{verb_of}
use Rattle.text_heads.specs.declared.Verb.{Verb}
use Rattle.text_heads.specs.declared.Verb.TheVariants as verb
use Rattle.rule_labels.proofs.Skipping.{before-nodes, form-fewer, shut-nodes}
use Rattle.text_skips.proofs.Counts.{nodes-short}
use Rattle.std.specs.Prelude.{Option, Some, None}
use Rattle.mark_counts.specs.Statements.{one_for, head_verbs, verbs, verbs_in, verbs_out, Room, shut_from, Moves, CountsStatements}

-- ---- no more statements than brackets and words

one-most : (v : Verb) → one_for v ≤ 1
one-most verb.Assign = omega arith
one-most verb.Begin = omega arith
one-most verb.If = omega arith
one-most verb.While = omega arith
one-most verb.For = omega arith
one-most verb.Case = omega arith
one-most verb.Call = omega arith
one-most verb.Raise = omega arith
one-most verb.Nothing = omega arith

head_few : (t : Tree Run) (ts : Trees Run) → verbs t ≤ nodes t → head_verbs (t then ts) + verbs t ≤ nodes t
unfolding head_verbs verbs nodes
head_few (word w) ts h = let a = one-most (verb_of (word_of w)) in omega arith
head_few (form us) ts h = omega arith

mutual
  unfolding verbs nodes head_verbs

  verbs-few : (t : Tree Run) → verbs t ≤ nodes t
  verbs-few (word w) = omega arith
  verbs-few (form ts) = let a = parts-few ts in omega arith

  parts-few : (ts : Trees Run) → head_verbs ts + verbs_in ts ≤ nodes_in ts
  parts-few end = omega arith
  parts-few (t then ts) = let a = head_few t ts (verbs-few t) in let b = parts-few ts in omega arith

-- a level holds no more than all of them
level-few : (k : List (Trees Run)) → nodes_in (first k) ≤ nodes_all k
unfolding nodes_all nodes
level-few [] = omega arith
level-few (ts ∷ k) = omega arith

-- ---- the statements from an offset on

module _ (s : List ℕ) (m at : ℕ) where
  before-verbs : (t : Tree Run) (q : ℕ) → Before s at t q → verbs_out (suc m) (stack_at s at) ≡ verbs t + verbs_out (suc m) (stack_at s q)
  unfolding verbs_out verbs
  before-verbs t q B =
      let a : verbs_in (first (stack_at s at)) ≡ verbs t + verbs_in (first (stack_at s q)) = ap verbs_in B.here in
      let b : verbs_out m (later (stack_at s at)) ≡ verbs_out m (later (stack_at s q)) = ap (verbs_out m) B.around in
      omega arith

  form-verbs : (p : ℕ) → FormAt s at p → verbs_out (suc m) (stack_at s at) ≡ head_verbs (first (stack_at s p)) + verbs_out (suc (suc m)) (stack_at s p)
  unfolding verbs_out verbs
  form-verbs p F =
      let a : verbs_in (first (stack_at s at)) ≡ head_verbs (first (stack_at s p)) + verbs_in (first (stack_at s p)) + verbs_in (first (later (stack_at s p))) = ap verbs_in F.here in
      let b : verbs_out m (later (stack_at s at)) ≡ verbs_out m (later (later (stack_at s p))) = ap (verbs_out m) F.around in
      omega arith

  shut-verbs : (q : ℕ) → ShutAt s at q → verbs_out (suc m) (stack_at s at) ≡ verbs_out m (stack_at s q)
  unfolding verbs_out verbs
  shut-verbs q S =
      let a : verbs_in (first (stack_at s at)) ≡ 0 = ap verbs_in S.here in
      let b : verbs_out m (later (stack_at s at)) ≡ verbs_out m (stack_at s q) = ap (verbs_out m) S.around in
      omega arith

-- ---- a form's head

module _ (s : List ℕ) (at : ℕ) (x : Part) (S : Stands s at x) where
  pub head-leaf : (w : Word) (p q r : ℕ) (v : Verb) → x ≡ part.Leaf w p q → v ≡ verb_of w → r ≡ one_for v → r ≡ head_verbs (first (stack_at s at))
  unfolding head_verbs
  head-leaf w p q r v e f g =
      let h = rw e at S.says in
      g ∙ ap one_for (f ∙ ap verb_of h.1) ∙ sym (ap head_verbs h.0.leaf.here)

  head-form : (p : ℕ) → x ≡ part.Form p → 0 ≡ head_verbs (first (stack_at s at))
  unfolding head_verbs
  head-form p e = let h : FormAt s at p = rw e at S.says in sym (ap head_verbs h.here)

  head-shut : (q : ℕ) → x ≡ part.Shut q → 0 ≡ head_verbs (first (stack_at s at))
  unfolding head_verbs
  head-shut q e = let h : ShutAt s at q = rw e at S.says in sym (ap head_verbs h.here)

  pub head-other : ((w : Word) (p q : ℕ) → x ≡ part.Leaf w p q → ⊥) → 0 ≡ head_verbs (first (stack_at s at))
  head-other k = go x refl
    where
      go : (y : Part) → x ≡ y → 0 ≡ head_verbs (first (stack_at s at))
      go (part.Leaf w p q) e = absurd (k w p q e)
      go (part.Form p) e = head-form p e
      go (part.Shut q) e = head-shut q e

pub ruleset head-laws = (head-leaf, head-other)

-- ---- a step

pub shut_none : (q m n : ℕ) → m ≡ 0 → None ≡ shut_from q m n
unfolding shut_from
shut_none q m n e = rw e

pub shut-some : (q m n : ℕ) → ((m ≡ 0) → ⊥) → Some (q, (m - 1), n) ≡ shut_from q m n
unfolding shut_from
shut-some q zero n h = absurd (h refl)
shut-some q (suc m) n h = let e : suc m - 1 ≡ m = omega arith in rw e

pub ruleset shut-laws = (shut_none, shut-some)

module _ (s : List ℕ) (p m n : ℕ) (x : Part) (S : Stands s p x) where
  pub step-leaf : (w : Word) (o q : ℕ) → x ≡ part.Leaf w o q → Moves s p m n (Some (q, m, n))
  unfolding verbs nodes
  step-leaf w o q e =
      let B = (rw e at S.says).0.leaf in
      let a = before-verbs s m p (word (word_at s o)) q B in
      let b = before-nodes s p q (word (word_at s o)) B in
      record { says = (omega arith, (omega arith, omega arith)) }

  -- a form's head is among the statements to come
  pub step_room : (q h : ℕ) → x ≡ part.Form q → h ≡ head_verbs (first (stack_at s q)) → Room s p m n → n + h ≤ length s
  step_room q h e f R =
      let F : FormAt s p q = rw e at S.says in
      let a = form-verbs s m p q F in
      let b = R.counted in
      omega arith

  pub step-form : (q h : ℕ) → x ≡ part.Form q → h ≡ head_verbs (first (stack_at s q)) → Moves s p m n (Some (q, (m + 1), (n + h)))
  step-form q h e f =
      let F : FormAt s p q = rw e at S.says in
      let a = form-fewer s p q F in
      let b = form-verbs s m p q F in
      let c : verbs_out (suc (m + 1)) (stack_at s q) ≡ verbs_out (suc (suc m)) (stack_at s q) = ap (λ (i : ℕ). verbs_out (suc i) (stack_at s q)) (add-one m) in
      record { says = (omega arith, (omega arith, omega arith)) }

  pub step-shut : (q : ℕ) (r : Option (ℕ × ℕ × ℕ)) → x ≡ part.Shut q → r ≡ shut_from q m n → Moves s p m n r
  unfolding shut_from verbs_out
  step-shut q r e f = rw f (go m)
    where
      said : ShutAt s p q
      said = rw e at S.says

      go : (i : ℕ) → Moves s p i n (shut_from q i n)
      go zero = record { says = shut-verbs s 0 p q said }
      go (suc i) = let a = shut-nodes s p q said in let b = shut-verbs s (suc i) p q said in record { says = (omega arith, (omega arith, omega arith)) }

pub ruleset step-laws = (step-leaf, step-form, step-shut)

-- ---- the loop: from `at` on the walk came to p, inside m more forms, and counted n statements

pub record Counting (s : List ℕ) (at p m n : ℕ) : Type 0 where
  pub same : head_verbs (first (stack_at s at)) + verbs_in (first (stack_at s at)) ≡ n + verbs_out (suc m) (stack_at s p)
  pub few : m + nodes_all (stack_at s p) ≤ length s

pub count-start : (s : List ℕ) (at n : ℕ) → n ≡ head_verbs (first (stack_at s at)) → Counting s at at 0 n
unfolding verbs_out
count-start s at n e = let a = nodes-short s at in record { same = omega arith; few = omega arith }

pub count_room : (s : List ℕ) (at p m n : ℕ) → Counting s at p m n → Room s p m n
count_room s at p m n I =
    let a = I.few in
    let b = I.same in
    let c = parts-few (first (stack_at s at)) in
    let d = level-few (stack_at s at) in
    let e = nodes-short s at in
    record { levels = omega arith; counted = omega arith }

module _ (s : List ℕ) (p m n : ℕ) (r : Option (ℕ × ℕ × ℕ)) (M : Moves s p m n r) where
  pub count-on : (at q m' n' : ℕ) → Counting s at p m n → r ≡ Some (q, m', n') → Counting s at q m' n'
  count-on at q m' n' I e =
      let g = rw e at M.says in
      let a = I.same in
      let b = I.few in
      let c = g.0 in
      let d = g.1.0 in
      record { same = omega arith; few = omega arith }

  pub count-out : (at : ℕ) → Counting s at p m n → r ≡ None → n ≡ head_verbs (first (stack_at s at)) + verbs_in (first (stack_at s at))
  count-out at I e = let g : verbs_out (suc m) (stack_at s p) ≡ 0 = rw e at M.says in let a = I.same in omega arith

  pub count-falls : (q m' n' : ℕ) → r ≡ Some (q, m', n') → 2 * nodes_all (stack_at s q) + m' < 2 * nodes_all (stack_at s p) + m
  count-falls q m' n' e = let g = rw e at M.says in g.1.1

pub ruleset count-laws = (count-on, count-out)

-- ---- a part

first-tree : {t u : Tree Run} {ts us : Trees Run} → (t then ts) ≡ (u then us) → t ≡ u
first-tree {t} e = ap (head_or t) e
  where
    head_or : Tree Run → Trees Run → Tree Run
    head_or x end = x
    head_or x (y then ys) = y

module _ (s : List ℕ) (at : ℕ) (x : Part) (S : Stands s at x) where
  pub part-leaf : (w : Word) (p q : ℕ) → x ≡ part.Leaf w p q → CountsStatements s at 0
  unfolding verbs
  part-leaf w p q e = let B = (rw e at S.says).0.leaf in record { says = λ t us f. ap verbs (first-tree (sym B.here ∙ f)) }

  pub part-form : (p r : ℕ) → x ≡ part.Form p → r ≡ head_verbs (first (stack_at s p)) + verbs_in (first (stack_at s p)) → CountsStatements s at r
  unfolding verbs
  part-form p r e g = let F : FormAt s at p = rw e at S.says in record { says = λ t us f. g ∙ ap verbs (first-tree (sym F.here ∙ f)) }

  pub part-shut : (q : ℕ) → x ≡ part.Shut q → CountsStatements s at 0
  part-shut q e = let h : ShutAt s at q = rw e at S.says in record { says = λ t us f. absurd (no_part (sym f ∙ h.here)) }
    where
      no_part : {t : Tree Run} {us : Trees Run} → (t then us) ≡ end → ⊥
      no_part g = let z : ◌≡◌ {A = ℕ} 0 1 = cc in omega arith

  pub part-other : ((p : ℕ) → x ≡ part.Form p → ⊥) → CountsStatements s at 0
  part-other k = go x refl
    where
      go : (y : Part) → x ≡ y → CountsStatements s at 0
      go (part.Leaf w p q) e = part-leaf w p q e
      go (part.Form p) e = absurd (k p e)
      go (part.Shut q) e = part-shut q e

pub ruleset part-laws = (part-form, part-other)
