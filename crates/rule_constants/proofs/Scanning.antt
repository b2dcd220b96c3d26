-- The ways of the scan: what is left of it at each word and bracket.
use mathlib.Core.Path.{◌≡◌, refl, sym, ap, ◌∙◌}
use mathlib.Core.Bool.{Bool, true, false, ◌&&◌, not, and_assoc}
use mathlib.Core.List.{List}
use mathlib.Core.Option.{Option, none, some}
use Prim.Native.Nat.{ℕ, zero, suc, ◌+◌, ◌*◌, ◌-◌, ◌<◌, ◌≤◌}
use native.Mathlib.Omega.{arith}
use lib.IntN.{neg_ℤ}
use lib.ListN.{length}
use Rattle.leaf_integers.specs.Integers.{inside, least, most}
use Rattle.law.specs.Base.{◌>>=◌, find}
use Rattle.law.specs.Calculate as Calculate
use Rattle.law.specs.Environment.{nothing_declared}
use Rattle.law.specs.Names.{constant_of}
use Rattle.law.specs.Rules.{plain}
use Rattle.law.specs.Script.{Const}
use Rattle.rule_stages.specs.Stages.{ruled, named as named_stage, staged}
use Rattle.law.specs.Syntax.{Constant, number, minus, truth, named}
use Rattle.law.specs.Trees.{Tree, word, form, Trees, end, nodes, nodes_in, Run, first, later, push, word_at}
use Rattle.law_theorems.specs.Readings.{stack_at}
use Rattle.text_words.specs.Passes.{nodes_all}
use Rattle.text_words.specs.declared.sight.Sight.{Sight}
use Rattle.text_words.specs.declared.sight.Sight.TheVariants as sight
use Rattle.text_words.specs.Sights.{Looks, Ends}
use Rattle.rule_faults.specs.Got.{fault_of}
use Rattle.rule_atoms.specs.declared.Valued.{Valued}
use Rattle.rule_atoms.specs.Answering.{GivesMinus, minus_form}
use Rattle.text_skips.proofs.Counts.{all_first, all_push, nodes-short}
use Rattle.rule_constants.specs.declared.Stride.{Stride}
use Rattle.rule_constants.specs.declared.Stride.TheVariants as stride
use Rattle.rule_constants.specs.Plain.{is_kind, sound_by, plain_tree, plain_in, plain_first}
use Rattle.rule_constants.specs.Scans.{plain_levels, out_from, Opens, Strides}

-- ---- `(- number)`

-- with no names known, row 8 is left for a constant past the integers alone
kind-is : (o : Option Constant) → is_kind (fault_of (staged o (constant_of nothing_declared.env) plain some)) ≡ not (sound_by o)
unfolding staged named_stage ruled constant_of plain sound_by find ◌>>=◌ Calculate.truth inside
kind-is none = refl
kind-is (some (number z)) = go (inside least most z)
  where
    go : (b : Bool) → is_kind (fault_of {A = Const} (ruled b (some (record { kind = 0; value = z })))) ≡ not b
    go true = refl
    go false = refl
kind-is (some (minus z)) = go (inside least most (neg_ℤ z))
  where
    go : (b : Bool) → is_kind (fault_of {A = Const} (ruled b (some (record { kind = 0; value = neg_ℤ z })))) ≡ not b
    go true = refl
    go false = refl
kind-is (some (truth true)) = refl
kind-is (some (truth false)) = refl
kind-is (some (named w)) = refl

pub past_is : (s : List ℕ) (p : ℕ) (v : Valued) (r : Bool) → GivesMinus s p (minus_form (first (stack_at s p))) v → r ≡ is_kind v.fault → r ≡ not (sound_by (minus_form (first (stack_at s p))))
past_is s p v r g h = h ∙ ap is_kind (g.says nothing_declared.env).fault-is ∙ kind-is (minus_form (first (stack_at s p)))

-- ---- into a form

not-true : (b : Bool) → true ≡ not b → b ≡ false
not-true true h = h
not-true false h = refl

not-false : (b : Bool) → false ≡ not b → b ≡ true
not-false true h = refl
not-false false h = h

module _ (s : List ℕ) (q n : ℕ) (r : Bool) (h : r ≡ not (sound_by (minus_form (first (stack_at s q))))) where
  pub open-bad : r ≡ true → Opens s q n stride.Bad
  open-bad e = record { says = not-true (sound_by (minus_form (first (stack_at s q)))) (sym e ∙ h) }

  pub open-on : r ≡ false → Opens s q n (stride.To q (n + 1))
  open-on e = record { says = (refl, (omega arith, not-false (sound_by (minus_form (first (stack_at s q)))) (sym e ∙ h))) }

pub ruleset open-laws = (open-bad, open-on)

-- ---- a closing bracket

pub shut_none : (n q : ℕ) → n ≡ 0 → stride.Out ≡ out_from n q
unfolding out_from
shut_none n q e = rw e

pub shut-some : (n q : ℕ) → ((n ≡ 0) → ⊥) → stride.To q (n - 1) ≡ out_from n q
unfolding out_from
shut-some zero q h = absurd (h refl)
shut-some (suc n) q h = let e : suc n - 1 ≡ n = omega arith in rw e

pub ruleset shut_laws = (shut_none, shut-some)

-- ---- a step

-- a level and those further out
levels-push : (n : ℕ) (t : Tree Run) (k : List (Trees Run)) → plain_levels n (push t k) ≡ (plain_tree t && plain_levels n k)
unfolding plain_levels plain_in
levels-push zero t k = refl
levels-push (suc n) t k = and_assoc (plain_tree t) (plain_in (first k)) (plain_levels n (later k))

module _ (s : List ℕ) (p n : ℕ) (x : Sight) (h : Looks s (stack_at s p) x) where
  opened : (q : ℕ) → x ≡ sight.Form q → stack_at s p ≡ push (form (first (stack_at s q))) (later (stack_at s q))
  opened q e = rw e at h.says

  form-nodes : (q : ℕ) → x ≡ sight.Form q → nodes_all (stack_at s p) ≡ 1 + nodes_all (stack_at s q)
  unfolding nodes
  form-nodes q e =
      let a = ap nodes_all (opened q e) ∙ all_push (form (first (stack_at s q))) (later (stack_at s q)) in
      let b = all_first (stack_at s q) in
      omega arith

  -- the levels from inside a form on
  form-levels : (q : ℕ) → x ≡ sight.Form q → plain_levels n (stack_at s p) ≡ (sound_by (minus_form (first (stack_at s q))) && plain_levels (suc n) (stack_at s q))
  unfolding plain_levels plain_in
  form-levels q e =
      ap (plain_levels n) (opened q e) ∙ levels-push n (form (first (stack_at s q))) (later (stack_at s q))
      ∙ and_assoc (sound_by (minus_form (first (stack_at s q)))) (plain_in (first (stack_at s q))) (plain_levels n (later (stack_at s q)))

  pub stride-room : (q : ℕ) → x ≡ sight.Form q → n + nodes_all (stack_at s p) ≤ length s → n + nodes_all (stack_at s q) ≤ length s
  stride-room q e r = let a = form-nodes q e in omega arith

  pub stride-form : (q : ℕ) (r : Stride) → x ≡ sight.Form q → Opens s q n r → Strides s p n r
  stride-form q (stride.To p' m) e o =
      let a = form-nodes q e in
      let g = o.says in
      let f : plain_levels n (stack_at s p) ≡ plain_levels (suc n) (stack_at s q) = form-levels q e ∙ ap (λ (b : Bool). b && plain_levels (suc n) (stack_at s q)) g.1.1 in
      rw (g.0, g.1.0) (record { says = (f, (omega arith, omega arith)) })
  stride-form q stride.Out e o = absurd o.says
  stride-form q stride.Bad e o = record { says = form-levels q e ∙ ap (λ (b : Bool). b && plain_levels (suc n) (stack_at s q)) o.says }

  passed : (q r : ℕ) → x ≡ sight.Leaf q → Ends s q r → stack_at s p ≡ push (word (word_at s q)) (stack_at s r)
  passed q r e f = (rw e at h.says).0 ∙ ap (push (word (word_at s q))) (sym f.rest)

  pub stride-leaf : (q r : ℕ) → x ≡ sight.Leaf q → Ends s q r → Strides s p n (stride.To r n)
  unfolding nodes plain_tree
  stride-leaf q r e f =
      let a = ap nodes_all (passed q r e f) ∙ all_push (word (word_at s q)) (stack_at s r) in
      record { says = (ap (plain_levels n) (passed q r e f) ∙ levels-push n (word (word_at s q)) (stack_at s r), (omega arith, omega arith)) }

  pub stride-shut : (q : ℕ) (r : Stride) → x ≡ sight.Shut q → r ≡ out_from n q → Strides s p n r
  unfolding plain_levels plain_in out_from nodes
  stride-shut q r e f = rw f (go n)
    where
      said : (first (stack_at s p) ≡ end) × (later (stack_at s p) ≡ stack_at s q)
      said = rw e at h.says

      same : nodes_all (stack_at s p) ≡ nodes_all (stack_at s q)
      same = all_first (stack_at s p) ∙ ap (λ (ts : Trees Run). nodes_in ts + nodes_all (later (stack_at s p))) said.0 ∙ let a = ap nodes_all said.1 in omega arith

      go : (m : ℕ) → Strides s p m (out_from m q)
      go zero = record { says = ap plain_in said.0 }
      go (suc m) = let a = same in record {
        says = (ap (λ (ts : Trees Run). plain_in ts && plain_levels m (later (stack_at s p))) said.0 ∙ ap (plain_levels m) said.1, (omega arith, omega arith));
      }

pub ruleset stride-laws = (stride-form, stride-leaf, stride-shut)

-- ---- the loop: from `at` on the scan came to p, inside n more forms

pub record Scanning (s : List ℕ) (at p n : ℕ) : Type 0 where
  pub same : plain_in (first (stack_at s at)) ≡ plain_levels n (stack_at s p)
  pub few : n + nodes_all (stack_at s p) ≤ length s

pub scan-start : (s : List ℕ) (at : ℕ) → Scanning s at at 0
unfolding plain_levels
scan-start s at = record { same = refl; few = let a = nodes-short s at in omega arith }

pub scan-few : (s : List ℕ) (at p n : ℕ) → Scanning s at p n → n + nodes_all (stack_at s p) ≤ length s
scan-few s at p n i = i.few

module _ (s : List ℕ) (p n : ℕ) (r : Stride) (h : Strides s p n r) where
  pub scan-on : (at q m : ℕ) → Scanning s at p n → r ≡ stride.To q m → Scanning s at q m
  scan-on at q m i e = let g = rw e at h.says in record { same = i.same ∙ g.0; few = let a = i.few in let b = g.1.0 in omega arith }

  pub scan-out : (at : ℕ) → Scanning s at p n → r ≡ stride.Out → true ≡ plain_in (first (stack_at s at))
  scan-out at i e = sym (i.same ∙ (rw e at h.says))

  pub scan-bad : (at : ℕ) → Scanning s at p n → r ≡ stride.Bad → false ≡ plain_in (first (stack_at s at))
  scan-bad at i e = sym (i.same ∙ (rw e at h.says))

  pub scan-falls : (q m : ℕ) → r ≡ stride.To q m → 2 * nodes_all (stack_at s q) + m < 2 * nodes_all (stack_at s p) + n
  scan-falls q m e = let g = rw e at h.says in g.1.1

pub ruleset scan-laws = (scan-on, scan-out, scan-bad)

-- ---- a form, a part

module _ (s : List ℕ) (p : ℕ) (r : Bool) (h : r ≡ not (sound_by (minus_form (first (stack_at s p))))) where
  pub form-bad : r ≡ true → not r ≡ (sound_by (minus_form (first (stack_at s p))) && plain_in (first (stack_at s p)))
  form-bad e = ap not e ∙ sym (ap (λ (b : Bool). b && plain_in (first (stack_at s p))) (not-true (sound_by (minus_form (first (stack_at s p)))) (sym e ∙ h)))

  pub form-good : (t : Bool) → r ≡ false → t ≡ plain_in (first (stack_at s p)) → t ≡ (sound_by (minus_form (first (stack_at s p))) && plain_in (first (stack_at s p)))
  form-good t e g = g ∙ sym (ap (λ (b : Bool). b && plain_in (first (stack_at s p))) (not-false (sound_by (minus_form (first (stack_at s p)))) (sym e ∙ h)))

pub ruleset form_laws = (form-bad, form-good)

module _ (s : List ℕ) (at : ℕ) (x : Sight) (h : Looks s (stack_at s at) x) where
  pub part-form : (p : ℕ) (r : Bool) → x ≡ sight.Form p → r ≡ (sound_by (minus_form (first (stack_at s p))) && plain_in (first (stack_at s p))) → r ≡ plain_first (first (stack_at s at))
  unfolding plain_first plain_tree
  part-form p r e g = g ∙ sym (ap (λ (k : List (Trees Run)). plain_first (first k)) (rw e at h.says))

  pub part-leaf : (p : ℕ) → x ≡ sight.Leaf p → true ≡ plain_first (first (stack_at s at))
  unfolding plain_first plain_tree
  part-leaf p e = sym (ap (λ (k : List (Trees Run)). plain_first (first k)) (rw e at h.says).0)

  pub part-shut : (q : ℕ) → x ≡ sight.Shut q → true ≡ plain_first (first (stack_at s at))
  unfolding plain_first
  part-shut q e = sym (ap plain_first (rw e at h.says).0)

  pub part-other : ((p : ℕ) → x ≡ sight.Form p → ⊥) → true ≡ plain_first (first (stack_at s at))
  part-other f = go x refl
    where
      go : (y : Sight) → x ≡ y → true ≡ plain_first (first (stack_at s at))
      go (sight.Form p) e = absurd (f p e)
      go (sight.Leaf p) e = part-leaf p e
      go (sight.Shut q) e = part-shut q e

pub ruleset part_laws = (part-form, part-other)
