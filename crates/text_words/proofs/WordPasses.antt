-- The passes over words and brackets: row 5, and the count of row 9.
use mathlib.Core.Path.{◌≡◌, refl, sym, ap, ◌∙◌}
use mathlib.Core.Bool.{Bool, true, false, ◌&&◌, and_assoc}
use mathlib.Core.List.{List, [], ◌∷◌}
use Prim.Native.Nat.{ℕ, ◌+◌, ◌-◌, ◌<◌, ◌≤◌}
use native.Mathlib.Nat.{zero-add}
use native.Mathlib.Omega.{arith}
use lib.ListN.{length, get_or}
use Rattle.leaf_bytes.specs.declared.bytes.Class.{Class}
use Rattle.leaf_bytes.specs.declared.bytes.Class.TheVariants.{Feed, Space, Open, Close, Visible, Refused}
use Rattle.leaf_bytes.specs.Bytes.{class_of}
use Rattle.leaf_words.specs.Words.{word_of}
use Rattle.law.specs.Trees.{Tree, word, form, Trees, end, nodes, nodes_in, Run, first, later, push, word_at}
use Rattle.law_theorems.specs.Readings.{rest_at, stack_at}
use Rattle.law_theorems.proofs.Reading.{none-stack, space-stack, open-stack, close-stack, feed-stack, refused-stack, word-stack, word-word}
use Rattle.text_words.specs.declared.sight.Seen.{Seen}
use Rattle.text_words.specs.declared.lines.Hop.{Hop}
use Rattle.text_words.specs.declared.lines.Hop.TheVariants as hop
use Rattle.text_words.specs.Sights.{Reads}
use Rattle.text_words.specs.Passes.{is_known, known_tree, known_in, known_all, nodes_all, is_stop, weight_of, fine_of, next_of, LeafAt, Hops}

true-false {ℓ} : {X : Type ℓ} → true ≡ false → X
true-false h = absurd (let z : ◌≡◌ {A = ℕ} 0 1 = cc in omega arith)

-- ---- one tree more, and a level

nodes-level : (k : List (Trees Run)) → nodes_in (first k) + nodes_all (later k) ≡ nodes_all k
unfolding nodes_all nodes_in
nodes-level [] = refl
nodes-level (ts ∷ k) = refl

nodes-push : (t : Tree Run) (k : List (Trees Run)) → nodes_all (push t k) ≡ nodes t + nodes_all k
unfolding nodes_all nodes_in
nodes-push t k = omega (arith, nodes-level k)

known-level : (k : List (Trees Run)) → (known_in (first k) && known_all (later k)) ≡ known_all k
unfolding known_all known_in
known-level [] = refl
known-level (ts ∷ k) = refl

known-push : (t : Tree Run) (k : List (Trees Run)) → known_all (push t k) ≡ (known_tree t && known_all k)
unfolding known_all known_in
known-push t k = and_assoc (known_tree t) (known_in (first k)) (known_all (later k)) ∙ ap (λ (b : Bool). known_tree t && b) (known-level k)

nodes-form : (k : List (Trees Run)) → nodes_all (push (form (first k)) (later k)) ≡ 1 + nodes_all k
unfolding nodes_in
nodes-form k = nodes-push (form (first k)) (later k) ∙ omega (arith, nodes-level k)

known-form : (k : List (Trees Run)) → known_all (push (form (first k)) (later k)) ≡ known_all k
unfolding known_in
known-form k = known-push (form (first k)) (later k) ∙ known-level k

nodes-word : (w : Run) (k : List (Trees Run)) → nodes_all (push (word w) k) ≡ 1 + nodes_all k
unfolding nodes_in
nodes-word w k = nodes-push (word w) k

known-word : (w : Run) (k : List (Trees Run)) → known_all (push (word w) k) ≡ (is_known (word_of w) && known_all k)
unfolding known_in
known-word w k = known-push (word w) k

nodes-end : (k : List (Trees Run)) → nodes_all (end ∷ k) ≡ nodes_all k
unfolding nodes_all nodes_in
nodes-end k = omega arith

known-end : (k : List (Trees Run)) → known_all (end ∷ k) ≡ known_all k
unfolding known_all known_in
known-end k = refl

-- ---- a word

module _ (s : List ℕ) (p : ℕ) where
  pub leaf-is : (r : Seen) (b : Bool) → Reads s p r → b ≡ is_known r.word → LeafAt s p (hop.Leaf b r.next)
  leaf-is r b g e = record { is_leaf = refl; said = e ∙ ap is_known g.said; rest = g.rest; moves = g.moves }

  stopped : stack_at s p ≡ [] → Hops s p hop.Stop
  stopped e = record { at-end = λ _. e; count = λ z. true-false z; words = λ z. true-false z; moves = λ z. true-false z; inside = λ z. true-false z }

  pub hop-none : length s ≤ p → Hops s p hop.Stop
  hop-none h = stopped (none-stack s p h)

  module _ (k : Class) (h : p < length s) (e : k ≡ class_of (get_or s p 0)) where
    pub hop-feed : k ≡ Feed → Hops s p hop.Stop
    hop-feed c = stopped (feed-stack s p k h e c)

    pub hop-refused : k ≡ Refused → Hops s p hop.Stop
    hop-refused c = stopped (refused-stack s p k h e c)

    pub hop-space : k ≡ Space → Hops s p (hop.Gap (p + 1))
    hop-space c = record {
      at-end = λ z. true-false (sym z);
      count = λ _. ap nodes_all (space-stack s p k h e c) ∙ sym (zero-add (nodes_all (stack_at s (p + 1))));
      words = λ _. ap known_all (space-stack s p k h e c);
      moves = λ _. omega arith;
      inside = λ _. h;
    }

    pub hop-close : k ≡ Close → Hops s p (hop.Gap (p + 1))
    hop-close c = record {
      at-end = λ z. true-false (sym z);
      count = λ _. ap nodes_all (close-stack s p k h e c) ∙ nodes-end (stack_at s (p + 1)) ∙ sym (zero-add (nodes_all (stack_at s (p + 1))));
      words = λ _. ap known_all (close-stack s p k h e c) ∙ known-end (stack_at s (p + 1));
      moves = λ _. omega arith;
      inside = λ _. h;
    }

    pub hop-open : k ≡ Open → Hops s p (hop.Open (p + 1))
    hop-open c = record {
      at-end = λ z. true-false (sym z);
      count = λ _. ap nodes_all (open-stack s p k h e c) ∙ nodes-form (stack_at s (p + 1));
      words = λ _. ap known_all (open-stack s p k h e c) ∙ known-form (stack_at s (p + 1));
      moves = λ _. omega arith;
      inside = λ _. h;
    }

    filled : k ≡ Visible → (word_at s p ≡ []) → ⊥
    filled c f = let g : [] ≡ get_or s p 0 ∷ word_at s (p + 1) = sym f ∙ word-word s p k h e c in let z : ◌≡◌ {A = ℕ} 0 1 = cc in omega arith

    pub hop-word : (g : Hop) → k ≡ Visible → LeafAt s p g → Hops s p g
    hop-word g c l = record {
      at-end = λ z. true-false (sym z ∙ ap is_stop l.is_leaf);
      count = λ _. ap nodes_all (word-stack s p k h e c) ∙ nodes-word (word_at s p) (rest_at s p) ∙ rw (ap weight_of l.is_leaf, l.rest);
      words = λ _. ap known_all (word-stack s p k h e c) ∙ known-word (word_at s p) (rest_at s p) ∙ rw (← l.said, l.rest);
      moves = λ _. l.moves (filled c);
      inside = λ _. h;
    }

pub ruleset hop_laws = (hop-none, hop-feed, hop-refused, hop-space, hop-close, hop-open, hop-word)

-- ---- row 5: from `at` to p every word is of some kind
pub record Knowing (s : List ℕ) (at p : ℕ) : Type 0 where
  pub same : known_all (stack_at s at) ≡ known_all (stack_at s p)

pub know-start : (s : List ℕ) (at : ℕ) → Knowing s at at
know-start s at = record { same = refl }

-- ---- row 9: from `at` to p there are n
pub record Counting (s : List ℕ) (at p n : ℕ) : Type 0 where
  pub same : nodes_all (stack_at s at) ≡ n + nodes_all (stack_at s p)
  pub few : n ≤ p

pub count-start : (s : List ℕ) (at : ℕ) → Counting s at at 0
count-start s at = record { same = omega arith; few = omega arith }

weight-one : (h : Hop) → weight_of h ≤ 1
weight-one (hop.Leaf b q) = omega arith
weight-one (hop.Open q) = omega arith
weight-one (hop.Gap q) = omega arith
weight-one hop.Stop = omega arith

module _ (s : List ℕ) (at p : ℕ) (h : Hop) (t : Bool) (g : Hops s p h) (e : t ≡ is_stop h) where
  pub known-end-is : Knowing s at p → t ≡ true → true ≡ known_all (stack_at s at)
  unfolding known_all
  known-end-is i f = sym (i.same ∙ ap known_all (g.at-end (sym e ∙ f)))

  pub known-bad : (b : Bool) → Knowing s at p → t ≡ false → b ≡ fine_of h → b ≡ false → false ≡ known_all (stack_at s at)
  known-bad b i f c d = sym (i.same ∙ g.words (sym e ∙ f) ∙ rw (sym c ∙ d))

  pub known_on : (b : Bool) (q : ℕ) → Knowing s at p → t ≡ false → b ≡ fine_of h → b ≡ true → q ≡ next_of h p → Knowing s at q
  known_on b q i f c d j = record { same = i.same ∙ g.words (sym e ∙ f) ∙ rw (sym c ∙ d, j) }

  pub hop-falls : (q : ℕ) → t ≡ false → q ≡ next_of h p → length s - q < length s - p
  hop-falls q f j = let m = g.moves (sym e ∙ f) in let n = g.inside (sym e ∙ f) in omega arith

  pub count-end : (n : ℕ) → Counting s at p n → t ≡ true → n ≡ nodes_all (stack_at s at)
  unfolding nodes_all
  count-end n i f = sym (i.same ∙ ap (λ (k : List (Trees Run)). n + nodes_all k) (g.at-end (sym e ∙ f)) ∙ omega arith)

  pub count_room : (n w : ℕ) → Counting s at p n → t ≡ false → w ≡ weight_of h → n + w ≤ length s
  count_room n w i f j = let m = g.inside (sym e ∙ f) in omega (arith, i.few, weight-one h)

  pub count-on : (n w q : ℕ) → Counting s at p n → t ≡ false → w ≡ weight_of h → q ≡ next_of h p → Counting s at q (n + w)
  count-on n w q i f j l = record {
    same = i.same ∙ ap (λ (m : ℕ). n + m) (g.count (sym e ∙ f)) ∙ rw (← j, ← l) (omega arith);
    few = let m = g.moves (sym e ∙ f) in omega (arith, i.few, weight-one h);
  }

pub ruleset known-laws = (known-end-is, known-bad, known_on)

pub ruleset count-laws = (count-end, count-on)
