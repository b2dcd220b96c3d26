-- From an offset inside an arm to the next label: the ways of one hop, and of the walk over what is no label.
use mathlib.Core.Path.{◌≡◌, refl, sym, ap, ◌∙◌, subst}
use mathlib.Core.Logic.{◌⊎◌, inl, inr}
use mathlib.Core.List.{List, ◌∷◌, ◌++◌, map}
use mathlib.Core.Option.{Option, none}
use Prim.Native.Nat.{ℕ, ◌<◌, ◌≤◌}
use native.Mathlib.Omega.{arith}
use Rattle.leaf_bytes.specs.Bytes.{small}
use Rattle.leaf_words.specs.Words.{word_of}
use Rattle.leaf_words.specs.declared.words.Word.{Word}
use Rattle.law.specs.Base.{◌>>=◌}
use Rattle.law.specs.Forms.{constant}
use Rattle.law.specs.Syntax.{Constant}
use Rattle.law.specs.Trees.{Tree, word, form, Trees, end, ◌then◌, Run, first, later, word_at}
use Rattle.law_theorems.specs.Readings.{stack_at}
use Rattle.law.specs.Words.{worded}
use Rattle.text_words.specs.Passes.{nodes_all}
use Rattle.text_heads.specs.Heads.{atom_of, atom_constant}
use Rattle.text_heads.specs.Parts.{part_of, constant_in}
use Rattle.text_heads.proofs.Heads.{constant-word}
use Rattle.text_parts.specs.Parts.{Before, LeafAt, FormAt, ShutAt, Stands, Shuts}
use Rattle.text_parts.specs.declared.Part.{Part}
use Rattle.text_parts.specs.declared.Part.TheVariants as part
use Rattle.std.specs.Prelude.{Option as Maybe, Some, None}
use Rattle.rule_atoms.specs.Answering.{minus_form}
use Rattle.text_skips.specs.Skips.{Past}
use Rattle.rule_labels.specs.Marks.{with_mark, marks_in, marks_of}
use Rattle.rule_labels.specs.declared.Mark.{Mark}
use Rattle.rule_labels.specs.declared.Hop.{Hop}
use Rattle.rule_labels.specs.declared.Hop.TheVariants as hop
use Rattle.std.specs.Prelude.{Some, None, Option as Maybe}
use Rattle.rule_labels.specs.Hops.{left_at, Marked, Passes, EntersForm, EntersArm, HopsIn, Hops, Nexts}
use Rattle.rule_labels.proofs.Skipping.{before-fewer, form-fewer, shut-nodes, passed-form}

-- ---- whether the part is the last

module _ (s : List ℕ) (o : Option Constant) (q : ℕ) (e : Maybe ℕ) (S : Shuts s q e) where
  pub pass-last : (p : ℕ) → e ≡ Some p → Passes s o q (hop.Over q)
  pass-last p f = let g : ShutAt s q p = rw f at S.says in record { says = (refl, inl g.here) }

  pub pass-marked : (h : Hop) → e ≡ None → Marked s o q h → Passes s o q h
  pass-marked (hop.Label m p) f M = record { says = (M.says.0, (rw f at S.says, M.says.1)) }
  pass-marked (hop.Over p) f M = record { says = (M.says.0, inr M.says.1) }
  pass-marked hop.End f M = absurd M.says

pub ruleset pass_laws = (pass-last, pass-marked)

-- ---- into the next arm

module _ (s : List ℕ) (p : ℕ) (x : Part) (S : Stands s p x) where
  pub enter-leaf : (w : Word) (o q : ℕ) → x ≡ part.Leaf w o q → EntersForm s p (Some q)
  unfolding marks_of
  enter-leaf w o q e =
      let g : LeafAt s p o q × (w ≡ word_of (word_at s o)) = rw e at S.says in
      record { says = (λ ts. ap (λ (us : Trees Run). marks_of (form us then ts)) g.0.leaf.here, (g.0.leaf.around, record { nearer = before-fewer s p q _ g.0.leaf })) }

  pub enter-form : (q : ℕ) → x ≡ part.Form q → EntersForm s p None
  unfolding marks_of
  enter-form q e =
      let g : FormAt s p q = rw e at S.says in
      record { says = λ ts. ap (λ (us : Trees Run). marks_of (form us then ts)) g.here }

  pub enter-shut : (q : ℕ) → x ≡ part.Shut q → EntersForm s p None
  unfolding marks_of
  enter-shut q e =
      let g : ShutAt s p q = rw e at S.says in
      record { says = λ ts. ap (λ (us : Trees Run). marks_of (form us then ts)) g.here }

  pub arms-leaf : (w : Word) (o q : ℕ) → x ≡ part.Leaf w o q → EntersArm s p None
  unfolding marks_of
  arms-leaf w o q e =
      let g : LeafAt s p o q × (w ≡ word_of (word_at s o)) = rw e at S.says in
      record { says = ap marks_of g.0.leaf.here }

  pub arms-shut : (q : ℕ) → x ≡ part.Shut q → EntersArm s p None
  unfolding marks_of
  arms-shut q e =
      let g : ShutAt s p q = rw e at S.says in
      record { says = ap marks_of g.here }

  pub arms-form : (q : ℕ) (h : Maybe ℕ) → x ≡ part.Form q → EntersForm s q h → EntersArm s p h
  unfolding left_at
  arms-form q (Some r) e E =
      let g : FormAt s p q = rw e at S.says in
      record {
        says = (
          ap marks_of g.here ∙ E.says.0 (first (later (stack_at s q))) ∙ ap (λ (k : List (Trees Run)). marks_in (first (stack_at s r)) ++ marks_of (first k)) E.says.1.0,
          record { nearer = let a = E.says.1.1.nearer in let b = form-fewer s p q g in omega arith },
        );
      }
  arms-form q None e E =
      let g : FormAt s p q = rw e at S.says in
      record { says = ap marks_of g.here ∙ E.says (first (later (stack_at s q))) }

  pub enter-other : ((w : Word) (o q : ℕ) → x ≡ part.Leaf w o q → ⊥) → EntersForm s p None
  enter-other k = go x refl
    where
      go : (y : Part) → x ≡ y → EntersForm s p None
      go (part.Leaf w o q) e = absurd (k w o q e)
      go (part.Form q) e = enter-form q e
      go (part.Shut q) e = enter-shut q e

  pub arms-other : ((q : ℕ) → x ≡ part.Form q → ⊥) → EntersArm s p None
  arms-other k = go x refl
    where
      go : (y : Part) → x ≡ y → EntersArm s p None
      go (part.Leaf w o q) e = arms-leaf w o q e
      go (part.Form q) e = absurd (k q e)
      go (part.Shut q) e = arms-shut q e

pub ruleset enter_laws = (enter-leaf, enter-other)

pub ruleset arms_laws = (arms-form, arms-other)

-- the same as a hop
module _ (s : List ℕ) (p : ℕ) (x : Maybe ℕ) (A : EntersArm s p x) where
  pub in-arm : (q : ℕ) → x ≡ Some q → HopsIn s p (hop.Over q)
  in-arm q e = record { says = rw e at A.says }

  pub in-none : x ≡ None → HopsIn s p hop.End
  in-none e = record { says = rw e at A.says }

pub ruleset in_laws = (in-arm, in-none)

-- ---- one hop

-- the labels in parts of which the first is no last one
marks-more : (t : Tree Run) (us : Trees Run) → (us ≡ end → ⊥) → marks_in (t then us) ≡ with_mark (worded t >>= constant) (marks_in us)
unfolding marks_in
marks-more t end h = absurd (h refl)
marks-more t (u then us) h = refl

no_end : {t : Tree Run} {ts : Trees Run} → (t then ts) ≡ end → ⊥
no_end h = subst more? h tt
  where
    more? : Trees Run → Type 0
    more? end = ⊥
    more? (t then ts) = Unit {0}

marks-last : (t : Tree Run) (us : Trees Run) → us ≡ end → marks_in (t then us) ≡ marks_in us
unfolding marks_in
marks-last t end h = refl
marks-last t (u then us) h = absurd (no_end h)

marks-none : (t : Tree Run) (us : Trees Run) → (worded t >>= constant) ≡ none → marks_in (t then us) ≡ marks_in us
unfolding marks_in with_mark
marks-none t end h = refl
marks-none t (u then us) h = rw h refl

module _ (s : List ℕ) (at q : ℕ) (t : Tree Run) (B : Before s at t q) where
  left_is : left_at s at ≡ (marks_in (t then first (stack_at s q)) ++ marks_of (first (later (stack_at s q))))
  unfolding left_at
  left_is = ap (λ (us : Trees Run). marks_in us ++ marks_of (first (later (stack_at s at)))) B.here ∙ ap (λ (k : List (Trees Run)). marks_in (t then first (stack_at s q)) ++ marks_of (first k)) B.around

  left_over : marks_in (t then first (stack_at s q)) ≡ marks_in (first (stack_at s q)) → left_at s at ≡ left_at s q
  unfolding left_at
  left_over h = left_is ∙ ap (λ (cs : List Constant). cs ++ marks_of (first (later (stack_at s q)))) h

  left-label : (c : Constant) → marks_in (t then first (stack_at s q)) ≡ (c ∷ marks_in (first (stack_at s q))) → left_at s at ≡ (c ∷ left_at s q)
  unfolding left_at
  left-label c h = left_is ∙ ap (λ (cs : List Constant). cs ++ marks_of (first (later (stack_at s q)))) h

  passed-hop : (o : Option Constant) (h : Hop) → (worded t >>= constant) ≡ o → Passes s o q h → Hops s at h
  unfolding with_mark
  passed-hop o (hop.Label m p) k P =
      let c = P.says.1.1.0 in
      rw P.says.0 (record {
        says = (
          (c, (left-label c (marks-more t (first (stack_at s q)) P.says.1.0 ∙ ap (λ (z : Option Constant). with_mark z (marks_in (first (stack_at s q)))) (k ∙ P.says.1.1.1.0)), P.says.1.1.1.1)),
          record { nearer = before-fewer s at q t B },
        );
      })
  passed-hop o (hop.Over p) k P = rw P.says.0 (record { says = (left_over (same-marks P.says.1), record { nearer = before-fewer s at q t B }) })
    where
      same-marks : (first (stack_at s q) ≡ end) ⊎ (o ≡ none) → marks_in (t then first (stack_at s q)) ≡ marks_in (first (stack_at s q))
      same-marks (inl h) = marks-last t (first (stack_at s q)) h
      same-marks (inr h) = marks-none t (first (stack_at s q)) (k ∙ h)
  passed-hop o hop.End k P = absurd P.says

word-constant : (w : Run) → (worded (word w) >>= constant) ≡ atom_constant (atom_of (word_of w)) (map small w)
unfolding constant_in part_of
word-constant w = constant-word w end

form-constant : (us : Trees Run) → (worded (form us) >>= constant) ≡ minus_form us
unfolding minus_form constant_in part_of
form-constant us = refl

module _ (s : List ℕ) (at : ℕ) (x : Part) (S : Stands s at x) where
  pub hop-leaf : (w : Word) (p q : ℕ) (h : Hop) → x ≡ part.Leaf w p q → Passes s (atom_constant (atom_of w) (map small (word_at s p))) q h → Hops s at h
  hop-leaf w p q h e P =
      let g : LeafAt s at p q × (w ≡ word_of (word_at s p)) = rw e at S.says in
      passed-hop s at q (word (word_at s p)) g.0.leaf _ h (word-constant (word_at s p) ∙ ap (λ (u : Word). atom_constant (atom_of u) (map small (word_at s p))) (sym g.1)) P

  pub hop-form : (p q : ℕ) (h : Hop) → x ≡ part.Form p → Past s p q → Passes s (minus_form (first (stack_at s p))) q h → Hops s at h
  hop-form p q h e G P =
      let g : FormAt s at p = rw e at S.says in
      passed-hop s at q (form (first (stack_at s p))) (passed-form s at p q g G) _ h (form-constant (first (stack_at s p))) P

  pub hop-shut : (q : ℕ) (h : Hop) → x ≡ part.Shut q → HopsIn s q h → Hops s at h
  unfolding left_at marks_in
  hop-shut q (hop.Label m r) e A = absurd A.says
  hop-shut q (hop.Over r) e A =
      let g : ShutAt s at q = rw e at S.says in
      record { says = (shut-left g ∙ A.says.0, record { nearer = let a = A.says.1.nearer in let b = shut-nodes s at q g in omega arith }) }
    where
      shut-left : ShutAt s at q → left_at s at ≡ marks_of (first (stack_at s q))
      shut-left g = ap (λ (us : Trees Run). marks_in us ++ marks_of (first (later (stack_at s at)))) g.here ∙ ap (λ (k : List (Trees Run)). marks_of (first k)) g.around
  hop-shut q hop.End e A =
      let g : ShutAt s at q = rw e at S.says in
      record { says = ap (λ (us : Trees Run). marks_in us ++ marks_of (first (later (stack_at s at)))) g.here ∙ ap (λ (k : List (Trees Run)). marks_of (first k)) g.around ∙ A.says }

pub ruleset hop_laws = (hop-leaf, hop-form, hop-shut)

-- ---- up to the next label

-- from `at` to p no label stands
pub record Seeking (s : List ℕ) (at p : ℕ) : Type 0 where
  pub same_left : left_at s at ≡ left_at s p
  pub fewer : nodes_all (stack_at s p) ≤ nodes_all (stack_at s at)

pub seek-start : (s : List ℕ) (at : ℕ) → Seeking s at at
seek-start s at = record { same_left = refl; fewer = omega arith }

module _ (s : List ℕ) (p : ℕ) (h : Hop) (H : Hops s p h) where
  pub seek-falls : (q : ℕ) → h ≡ hop.Over q → nodes_all (stack_at s q) < nodes_all (stack_at s p)
  seek-falls q e = let g = rw e at H.says in g.1.nearer

  pub seek-on : (at q : ℕ) → Seeking s at p → h ≡ hop.Over q → Seeking s at q
  seek-on at q I e = let g = rw e at H.says in record { same_left = I.same_left ∙ g.0; fewer = let a = I.fewer in let b = g.1.nearer in omega arith }

  pub seek-label : (at q : ℕ) (m : Mark) → Seeking s at p → h ≡ hop.Label m q → Nexts s at (Some (m, q))
  seek-label at q m I e = let g = rw e at H.says in record {
    says = (
      (g.0.0, (I.same_left ∙ g.0.1.0, g.0.1.1)),
      record { nearer = let a = I.fewer in let b = g.1.nearer in omega arith },
    );
  }

  pub seek-end : (at : ℕ) → Seeking s at p → h ≡ hop.End → Nexts s at None
  seek-end at I e = let g = rw e at H.says in record { says = I.same_left ∙ g }

pub ruleset seek_laws = (seek-on, seek-label, seek-end)
