-- How many brackets and words are left at an offset, and past a form.
use mathlib.Core.Path.{◌≡◌, refl, ap, ◌∙◌}
use mathlib.Core.List.{List, [], ◌∷◌}
use Prim.Native.Nat.{ℕ, ◌+◌, ◌<◌, ◌≤◌}
use native.Mathlib.Omega.{arith}
use Rattle.law.specs.Trees.{Tree, word, form, Trees, ◌then◌, nodes, nodes_in, Run, first, later}
use Rattle.law_theorems.specs.Readings.{stack_at}
use Rattle.text_words.specs.Passes.{nodes_all}
use Rattle.text_parts.specs.Parts.{Before, FormAt, ShutAt}
use Rattle.text_skips.specs.Skips.{Past}

-- ---- brackets and words

nodes-level : (k : List (Trees Run)) → nodes_in (first k) + nodes_all (later k) ≡ nodes_all k
unfolding nodes_all nodes_in
nodes-level [] = refl
nodes-level (ts ∷ k) = refl

tree-some : (t : Tree Run) → 1 ≤ nodes t
unfolding nodes
tree-some (word w) = omega arith
tree-some (form ts) = omega arith

module _ (s : List ℕ) where
  pub before-nodes : (at q : ℕ) (t : Tree Run) → Before s at t q → nodes_all (stack_at s at) ≡ nodes t + nodes_all (stack_at s q)
  unfolding nodes_in
  before-nodes at q t B =
      let a : nodes_in (first (stack_at s at)) ≡ nodes t + nodes_in (first (stack_at s q)) = ap nodes_in B.here in
      let b : nodes_all (later (stack_at s at)) ≡ nodes_all (later (stack_at s q)) = ap nodes_all B.around in
      let c = nodes-level (stack_at s at) in
      let d = nodes-level (stack_at s q) in
      omega arith

  pub before-fewer : (at q : ℕ) (t : Tree Run) → Before s at t q → nodes_all (stack_at s q) < nodes_all (stack_at s at)
  before-fewer at q t B = let a = before-nodes at q t B in let b = tree-some t in omega arith

  pub form-fewer : (at p : ℕ) → FormAt s at p → nodes_all (stack_at s at) ≡ 1 + nodes_all (stack_at s p)
  unfolding nodes_in
  form-fewer at p F =
      let a : nodes_in (first (stack_at s at)) ≡ 1 + nodes_in (first (stack_at s p)) + nodes_in (first (later (stack_at s p))) = ap nodes_in F.here ∙ omega arith in
      let b : nodes_all (later (stack_at s at)) ≡ nodes_all (later (later (stack_at s p))) = ap nodes_all F.around in
      let c = nodes-level (stack_at s at) in
      let d = nodes-level (stack_at s p) in
      let e = nodes-level (later (stack_at s p)) in
      omega arith

  pub shut-nodes : (at q : ℕ) → ShutAt s at q → nodes_all (stack_at s at) ≡ nodes_all (stack_at s q)
  unfolding nodes_in
  shut-nodes at q S =
      let a : nodes_in (first (stack_at s at)) ≡ 0 = ap nodes_in S.here in
      let b : nodes_all (later (stack_at s at)) ≡ nodes_all (stack_at s q) = ap nodes_all S.around in
      let c = nodes-level (stack_at s at) in
      omega arith

  -- a form with its parts from p on, passed to q
  pub passed-form : (at p q : ℕ) → FormAt s at p → Past s p q → Before s at (form (first (stack_at s p))) q
  passed-form at p q F P = record {
    here = F.here ∙ ap (λ (k : List (Trees Run)). form (first (stack_at s p)) then first k) P.beyond;
    around = F.around ∙ ap later P.beyond;
  }
